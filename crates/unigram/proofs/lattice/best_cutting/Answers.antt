-- `unigram::lattice::best_cutting` meets its contract: the records are filled, their starts fall, and the path is traced by
-- them. Assumes nothing.
use native.Mathlib.Omega.{arith}
use Rattle.unigram.proofs.Segmenting.{starts-fall, ends-few, best-cutting}
use Rattle.unigram.proofs.lattice.best_cutting.Goals as goal

pub trace-requires : goal.trace-requires
trace-requires c =
    let ready = c.requires.0 in (
      starts-fall ready c.fill.ensures (omega (arith, c.fill.auto.start, c.requires.1.start)),
      omega (arith, ends-few ready c.fill.ensures, c.requires.2),
    )

pub returns : goal.returns
returns c = best-cutting c.requires.0 c.fill.ensures c.trace.ensures
