-- Each promise of this crate fixes its answer. A sum, a lower double and a score are promised by their units, and the format
-- has one value for each double; a number has one pattern. What the format holds is asked of the answers: every `f64` is so.
-- Assumes nothing.
use Rattle.std.specs.Prelude.{Option, Some, None, ℕ}
use mathlib.Core.Path.{◌≡◌, refl, sym, ap, ap₂, ◌∙◌, subst}
use Prim.Native.Nat.{◌^◌, ◌<◌}
use mathlib.Core.Bool.{Bool, true, ◌&&◌}
use mathlib.Core.List.{List, [], ◌∷◌, map}
use lib.Dec.{T}
use lib.Ieee.{Float, fits, binary64}
use lib.Ieee.Fits.{and_l, and_r}
use Rattle.doubles.specs.Double.{Double, not_a_number, infinite, is_number, is_finite}
use Rattle.doubles.specs.Units.{units}
use Rattle.doubles.specs.Pattern.{Reads, Written}
use Rattle.doubles.specs.declared.Pattern.{Pattern}
use Rattle.doubles.specs.declared.Pattern.TheVariants.{Finite, Infinite, NotANumber}
use Rattle.doubles.proofs.Floats.{units-injective}
use Rattle.doubles.proofs.Patterns.{pattern-injective}

-- The format holds the value, as it does that of every `f64`: the logic's values are more than those.
abbrev pub held : Float → Bool
held x = fits binary64 x

-- and every value of a column, as of every `&[f64]`
unfoldable pub all_held : List Float → Bool
all_held [] = true
all_held (x ∷ xs) = held x && all_held xs

-- `added`, `lower`, `minus_ten`, and every other call that promises a score by its units
pub float-once : {x y : Float} {d : Double} → T (held x) → T (held y) → units x ≡ d → units y ≡ d → x ≡ y
float-once {x = x} {y = y} h k p q = units-injective x y h k (p ∙ sym q)

-- a column of scores that is promised by its units
pub column-once : (xs ys : List Float) → T (all_held xs) → T (all_held ys) → map units xs ≡ map units ys → xs ≡ ys
unfolding all_held
column-once [] [] h k e = refl
column-once [] (y ∷ ys) h k e = cc
column-once (x ∷ xs) [] h k e = cc
column-once (x ∷ xs) (y ∷ ys) h k e =
    let here : units x ≡ units y = cc in
    let later : map units xs ≡ map units ys = cc in
    ap₂ ◌∷◌ (units-injective x y (and_l (held x) (all_held xs) h) (and_l (held y) (all_held ys) k) here)
    (column-once xs ys (and_r (held x) (all_held xs) h) (and_r (held y) (all_held ys) k) later)

-- `better`, `is_finite`
pub test-once : {a b c : Bool} → a ≡ c → b ≡ c → a ≡ b
test-once p q = p ∙ sym q

-- what a pattern's answer holds, as every `f64` is held
abbrev pub held_in : Pattern → Bool
held_in (Finite x) = held x
held_in (Infinite minus) = true
held_in NotANumber = true

-- `from_bits`
pub read-once : (d : Double) (a b : Pattern) → T (held_in a) → T (held_in b) → Reads a d → Reads b d → a ≡ b
unfolding is_finite
read-once d (Finite x) (Finite y) h k p q = ap Finite (float-once h k p.0 q.0)
read-once d (Finite x) (Infinite s) h k p q = absurd (subst (λ (d : Double). T (is_finite d)) q p.1)
read-once d (Finite x) NotANumber h k p q = absurd (subst (λ (d : Double). T (is_finite d)) q p.1)
read-once d (Infinite s) (Finite y) h k p q = absurd (subst (λ (d : Double). T (is_finite d)) p q.1)
read-once d (Infinite s) (Infinite t) h k p q = let e : infinite s ≡ infinite t = sym p ∙ q in let same : s ≡ t = cc in ap Infinite same
read-once d (Infinite s) NotANumber h k p q = let e : infinite s ≡ not_a_number = sym p ∙ q in cc
read-once d NotANumber (Finite y) h k p q = absurd (subst (λ (d : Double). T (is_finite d)) p q.1)
read-once d NotANumber (Infinite t) h k p q = let e : not_a_number ≡ infinite t = sym p ∙ q in cc
read-once d NotANumber NotANumber h k p q = refl

-- a pattern is a u64
abbrev pub Word : Option ℕ → Type 0
Word (Some n) = n < 2 ^ 64
Word None = T true

-- `to_bits`
pub written_once : (d : Double) (a b : Option ℕ) → Word a → Word b → Written a d → Written b d → a ≡ b
unfolding is_number
written_once d (Some m) (Some n) h k p q =
    ap Some (pattern-injective m n h k (subst (λ (d : Double). T (is_number d)) (sym p.0) p.1) (p.0 ∙ sym q.0))
written_once d (Some m) None h k p q = absurd (subst (λ (d : Double). T (is_number d)) q p.1)
written_once d None (Some n) h k p q = absurd (subst (λ (d : Double). T (is_number d)) p q.1)
written_once d None None h k p q = refl
