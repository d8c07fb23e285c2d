-- The records as the work makes them: at each boundary in turn, it offers each piece that starts there to the record where the
-- piece ends. Definitions only; assumes nothing.
use Rattle.std.specs.Prelude.{ℕ, zero, suc, Bool, cond, List, [], ◌∷◌, ◌++◌, Option, None, Some}
use Rattle.doubles.specs.Double.{Double, plus_zero, sum, less}
use Rattle.refusal.specs.Sizes.{no_id}
use Rattle.cutting.specs.Cuttings.{Piece, Rule, Slot, Step}

-- "At each boundary the largest rounded sum stands; equal sums keep the earlier start." An empty record takes what it is
-- offered, and a full one takes it where its score is greater; starts come earliest first.
unfoldable pub offered : Option Slot → Slot → Slot
offered None q = q
offered (Some r) q = cond (less r.score q.score) q r

-- a piece that starts at i, after what was best before it
unfoldable pub candidate : Double → ℕ → Piece → Slot
candidate x i p = record { start = i; id = p.id; score = sum x p.score }

-- The record once the pieces from i have been offered to it in turn, those whose sum counts. Where nothing stands before them,
-- none is offered.
unfoldable pub offered_all : (Double → Bool) → Option Double → ℕ → List Piece → Option Slot → Option Slot
offered_all counts till i [] o = o
offered_all counts None i (p ∷ ps) o = o
offered_all counts (Some x) i (p ∷ ps) o =
    let q = candidate x i p in
    offered_all counts (Some x) i ps (cond (counts q.score) (Some (offered o q)) o)

-- What stands before i: "The start score is 0", and after it the score of the record there, if there is one.
unfoldable pub standing : ℕ → Option Slot → Option Double
standing zero o = Some plus_zero
standing (suc i) None = None
standing (suc i) (Some r) = Some r.score

-- the record at j once the starts before `from` have been worked, earliest first
unfoldable pub best : Rule → ℕ → ℕ → Option Slot
best rule zero j = None
best rule (suc i) j = offered_all rule.counts (standing i (best rule i i)) i (rule.pieces i j) (best rule i j)

-- a record as a buffer holds it: "empty (start and id 4,294,967,295, score 0)"
unfoldable pub shown : Option Slot → Slot
shown None = record { start = no_id; id = no_id; score = plus_zero }
shown (Some r) = r

-- the n records from j on, when all the work is done
unfoldable pub records_from : Rule → ℕ → ℕ → List Slot
records_from rule j zero = []
records_from rule j (suc n) = shown (best rule j j) ∷ records_from rule (suc j) n

-- The records followed back from j: the pieces in order. The first argument bounds how many; j is enough.
unfoldable pub followed : Rule → ℕ → ℕ → List Step
followed rule zero j = []
followed rule (suc n) j =
    elim (best rule j j) [
      | None ↦ []
      | Some r ↦ followed rule n r.start ++ (record { end = j; id = r.id } ∷ [])
    ]
