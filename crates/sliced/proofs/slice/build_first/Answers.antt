-- `sliced::slice::build_first` meets its contract: the first places of the columns are what the build asks for. Assumes
-- nothing.
use mathlib.Core.Path.{◌≡◌}
use lib.ListN.{length, take}
use lib.Seq.{length-take-le}
use Rattle.sliced.proofs.slice.build_first.Goals as goal

pub build_rows-requires : goal.build_rows-requires
build_rows-requires c =
    let places : length (take c.args.n c.args.off.now) ≡ c.args.n = length-take-le _ _ c.requires.roomy.0 in
    rw places c.requires.fine

pub returns : goal.returns
returns c =
    let places : length (take c.args.n c.args.off.now) ≡ c.args.n = length-take-le _ _ c.requires.roomy.0 in
    rw places at c.build_rows.ensures
