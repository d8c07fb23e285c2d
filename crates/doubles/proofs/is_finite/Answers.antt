-- `doubles::is_finite` meets its contract: a double is finite exactly where it is between the largest and its negative.
-- Assumes nothing.
use mathlib.Core.Path.{◌≡◌, refl, sym, ap, ◌∙◌, subst}
use mathlib.Core.Bool.{true, false}
use lib.Dec.{T, not_T}
use lib.Ieee.{Float, binary64, neg, lt, le, fits, of_bits}
use lib.Ieee.Fits.{neg-fits}
use lib.Ieee.Bits.{of_bits-fits, is_false}
use borrow.Author.Rules.{rules}
use Rattle.doubles.specs.Double.{finite, less, at_most, is_finite}
use Rattle.doubles.specs.Units.{units}
use Rattle.doubles.proofs.Largest.{largest, too-low, not-too-low}
use Rattle.doubles.proofs.Floats.{lt-is-less, le-is-at-most, units-is-double}
use Rattle.doubles.proofs.is_finite.Goals as goal

-- the literal
abbrev top : Float
top = of_bits binary64 0x7fef_ffff_ffff_ffff

top-fits : T (fits binary64 top)
top-fits = of_bits-fits binary64 0x7fef_ffff_ffff_ffff

top-units : units top ≡ finite false largest
unfolding units of_bits largest
top-units = refl

bottom-units : units (neg top) ≡ finite true largest
unfolding units neg of_bits largest
bottom-units = refl

low-test : (x : Float) → T (fits binary64 x) → lt x (neg top) ≡ less (units x) (finite true largest)
low-test x h = lt-is-less x (neg top) h (neg-fits binary64 top top-fits) ∙ ap (less (units x)) bottom-units

refused : (x : Float) → T (fits binary64 x) → lt x (neg top) ≡ true → false ≡ is_finite (units x)
refused x h e =
    let l : T (less (units x) (finite true largest)) = subst T (low-test x h) (subst T (sym e) tt) in
    sym (is_false (is_finite (units x)) (not_T (is_finite (units x)) (too-low (units x) (units-is-double x h) l)))

compared : (x : Float) → T (fits binary64 x) → lt x (neg top) ≡ false → le x top ≡ is_finite (units x)
compared x h e =
    le-is-at-most x top h top-fits
    ∙ ap (at_most (units x)) top-units
    ∙ not-too-low (units x) (units-is-double x h) (λ l. subst T (sym (low-test x h) ∙ e) l)

pub returns-then-x : goal.returns-then-x
returns-then-x c = refused c.args.x (search rules) c.if-x.true

pub returns : goal.returns
returns c = compared c.args.x (search rules) c.if-x.false
