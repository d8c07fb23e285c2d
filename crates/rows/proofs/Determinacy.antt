-- Each promise of this crate fixes its answer: an answer about a row is known by the fault that it names, and a score by its
-- units, since the format has one value for each double. Of a row list that is `judge-determined` in Judged. Assumes nothing.
use Rattle.refusal.specs.declared.Fault.{Fault}
use Rattle.std.specs.Result.{result_err}
use Rattle.std.specs.Prelude.{Result, ⊤, ℕ}
use mathlib.Core.Path.{◌≡◌}
use mathlib.Core.List.{List, map}
use Prim.Native.Nat.{ℕ}
use lib.Dec.{T}
use lib.Ieee.{Float}
use Rattle.doubles.specs.Units.{units}
use Rattle.doubles.proofs.Determinacy.{held, float-once}
use Rattle.refusal.proofs.Tests.{judged-once}
use Rattle.rows.specs.declared.Kind.{Kind}
use Rattle.rows.specs.Rows.{Row, row_fault}
use Rattle.rows.specs.Scores.{unknown_score}

-- `row_fault`
pub row-fault-once :
    (kind : Kind) (tab : List ℕ) (r : Row) {a b : Result ⊤ Fault} → result_err a ≡ row_fault kind tab r → result_err b ≡ row_fault kind tab r → a ≡ b
row-fault-once kind tab r {a = a} {b = b} p q = judged-once a b p q

-- `scores::unknown_score`, as the f64 that it is
pub unknown-score-once :
    (scores : List Float) {x y : Float} → T (held x) → T (held y)
    → units x ≡ unknown_score (map units scores) → units y ≡ unknown_score (map units scores) → x ≡ y
unknown-score-once scores h k p q = float-once h k p q
