-- Cuttings of a text into pieces, their scores, and which is best at a position. What a piece is, is a parameter, the rule.
-- Definitions only; assumes nothing.
use Rattle.std.specs.Prelude.{◌≡◌, ℕ, zero, suc, ◌-◌, ◌≤◌, ◌<◌, Bool, List, [], ◌∷◌, ◌++◌, ◌⊎◌, T, take, drop}
use Rattle.std.specs.Prelude.{Option, None, Some}
use Rattle.doubles.specs.Double.{Double, plus_zero, sum, same, at_most}

-- a piece: its id and its score
pub record Piece : Type 0 where
  pub id : ℕ
  pub score : Double

-- What a piece is: `pieces i j` are those from byte i up to byte j, in the order in which they are offered. A sum that does not
-- count reaches nothing.
pub record Rule : Type 0 where
  pub pieces : ℕ → ℕ → List Piece
  pub counts : Double → Bool

-- the piece in place k
unfoldable pub nth : List Piece → ℕ → Option Piece
nth [] k = None
nth (p ∷ ps) zero = Some p
nth (p ∷ ps) (suc k) = nth ps k

-- "Allowed cuttings chain such pieces": none of the text, or a cutting of the text before i and then a piece from i to j.
pub data Cutting (rule : Rule) : ℕ → Type 0 where
  empty : Cutting rule 0
  then : {i : ℕ} → Cutting rule i → (j k : ℕ) (p : Piece) → nth (rule.pieces i j) k ≡ Some p → Cutting rule j

-- "The start score is 0": the scores, added from the left and rounded at each addition.
unfoldable pub total : {rule : Rule} {j : ℕ} → Cutting rule j → Double
total empty = plus_zero
total (then c j k p e) = sum (total c) p.score

-- a cutting of the text before j whose last piece starts at i, and its place among the pieces from i to j
pub record Through (rule : Rule) (i j : ℕ) : Type 0 where
  pub before : Cutting rule i
  pub place : ℕ
  pub last : Piece
  pub is : nth (rule.pieces i j) place ≡ Some last

abbrev pub whole : {rule : Rule} {i j : ℕ} → Through rule i j → Cutting rule j
whole {j = j} t = then t.before j t.place t.last t.is

-- what a record holds: where the last piece starts, its id, and the score of the cutting
pub record Slot : Type 0 where
  pub start : ℕ
  pub id : ℕ
  pub score : Double

-- The slot r "holds the greatest left-to-right rounded sum of any allowed cutting before j, names the last piece of such a
-- cutting (the earliest start among equals)", and of one start the piece that is offered first.
pub record Best (rule : Rule) (j : ℕ) (r : Slot) : Type 0 where
  pub greatest : (c : Cutting rule j) → T (at_most (total c) r.score)
  pub reached : Through rule r.start j
  pub named : reached.last.id ≡ r.id
  pub scored : total (whole reached) ≡ r.score
  pub earliest :
      (i : ℕ) (t : Through rule i j) → T (same (total (whole t)) r.score)
      → (r.start < i) ⊎ ((r.start ≡ i) × (reached.place ≤ t.place))

-- a piece of a cutting: where it ends, and its id
pub record Step : Type 0 where
  pub end : ℕ
  pub id : ℕ

-- Steps that follow one another from byte `at` up to byte j, each starting where the one before it ends, and these are their
-- pieces, one for each step.
abbrev pub Chain : Rule → ℕ → List Step → ℕ → List Piece → Type 0
Chain rule at [] j [] = at ≡ j
Chain rule at [] j (p ∷ ps) = ⊥
Chain rule at (e ∷ es) j [] = ⊥
Chain rule at (e ∷ es) j (p ∷ ps) =
    (k : ℕ) × (nth (rule.pieces at e.end) k ≡ Some p) × (p.id ≡ e.id) × Chain rule e.end es j ps

-- "left-to-right rounded sum": the scores of these pieces added to x from the left, rounded at each addition
unfoldable pub added : Double → List Piece → Double
added x [] = x
added x (p ∷ ps) = added (sum x p.score) ps

-- the bytes of pieces that follow one another from byte `at`, joined
unfoldable pub joined : List ℕ → ℕ → List Step → List ℕ
joined s at [] = []
joined s at (e ∷ es) = take (e.end - at) (drop at s) ++ joined s e.end es
