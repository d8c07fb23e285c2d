-- `pack::row::score_at` meets its contract: whatever the pattern stands for, the score is read for it. Assumes nothing.
use mathlib.Core.Logic.{⊎_elim}
use Rattle.doubles.specs.Pattern.{Reads}
use Rattle.pack.specs.Reading.{double_at}
use Rattle.pack.proofs.Readings.{score-infinite, score-none}
use Rattle.pack.proofs.row.score_at.Goals as goal

pub returns-in-Infinite : goal.returns-in-Infinite
returns-in-Infinite c =
    let reads : Reads c.from_bits-pattern.result (double_at c.args.bytes.now c.args.at) =
    rw (← c.word-low.ensures, ← c.word-high.ensures) c.from_bits-pattern.ensures in
    ⊎_elim (λ w. score-infinite _ reads w.1 c.infinity.ensures) (λ e. score-none reads e c.infinity.ensures) c.in-Infinite.is
