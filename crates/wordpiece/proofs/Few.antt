-- A word has no more ids than characters: each piece takes at least one, and where the word is one unknown it has one. Assumes
-- nothing.
use Rattle.std.specs.Prelude.{Option, None, Some}
use mathlib.Core.Path.{◌≡◌, refl, ap}
use mathlib.Core.Bool.{Bool, true, false}
use mathlib.Core.List.{List, []}
use Prim.Native.Nat.{ℕ, suc, ◌≤◌, ◌<◌}
use native.Mathlib.Omega.{arith}
use native.Mathlib.Decide.{dec_lt}
use lib.Dec.{ltb}
use lib.ListN.{length}
use Rattle.text.specs.Text.{well_formed, characters}
use Rattle.text.proofs.Boundaries.{boundary-zero}
use Rattle.wordpiece.specs.Pieces.{pieces_of, ids_of}
use Rattle.wordpiece.proofs.Turns.{or_unknown}
use Rattle.wordpiece.proofs.Rest.{pieces-few, some-character}
use Rattle.wordpiece.proofs.Plans.{ids-long, ids_short, ids-empty}

module _ (find : List ℕ → Option ℕ) (w : List ℕ) (well : well_formed w ≡ true) where
  or-unknown-few :
      (unknown : ℕ) (o : Option (List ℕ)) → ((ids : List ℕ) → o ≡ Some ids → length ids ≤ characters w) → 1 ≤ characters w
      → length (or_unknown unknown o) ≤ characters w
  or-unknown-few unknown None h one = omega arith
  or-unknown-few unknown (Some ids) h one = h ids refl

  whole-few : (prefix ids : List ℕ) → pieces_of find prefix w ≡ Some ids → length ids ≤ characters w
  unfolding pieces_of
  whole-few prefix ids e = omega (arith, pieces-few w well find prefix (suc (length w)) [] 0 ids (boundary-zero w well) e)

  pub ids-few : (unknown max_chars : ℕ) (prefix : List ℕ) → length (ids_of find unknown max_chars prefix w) ≤ characters w
  ids-few unknown max_chars prefix = go (dec_lt 0 (length w)) (ltb max_chars (characters w)) refl
    where
      go :
          Dec (0 < length w) → (b : Bool) → ltb max_chars (characters w) ≡ b
          → length (ids_of find unknown max_chars prefix w) ≤ characters w
      go (no h) b e = omega (arith, ap length (ids-empty find unknown max_chars prefix w (omega (arith, h))))
      go (yes h) true e = omega (arith, ap length (ids-long find unknown max_chars prefix w e), some-character w well h)
      go (yes h) false e =
          omega (
            arith,
            ap length (ids_short find unknown max_chars prefix w e),
            or-unknown-few unknown (pieces_of find prefix w) (whole-few prefix) (some-character w well h),
          )
