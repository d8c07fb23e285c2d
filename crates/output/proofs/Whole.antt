-- What is printed as a whole: too much input prints its refusal alone, and else the lines print one after the other. Assumes
-- nothing.
use mathlib.Core.Path.{◌≡◌, sym, ap}
use mathlib.Core.Bool.{Bool, true, false}
use mathlib.Core.List.{List, flat_map}
use Prim.Native.Nat.{ℕ, ◌≤◌, ◌<◌}
use native.Mathlib.Omega.{arith}
use borrow.Author.Tests.{lt-ltb, le-ltb}
use lib.ListN.{length, take, length-take}
use Rattle.refusal.specs.declared.Fault.TheVariants as fault
use Rattle.text.specs.Ascii.{ascii}
use Rattle.output.specs.Lines.{lines, printed_refusal}
use Rattle.output.specs.Output.{max_input, lines_printed}

-- a part that lies inside is as long as was asked
pub cut-long : {A : Type 0} (n : ℕ) (xs : List A) → n ≤ length xs → n ≡ length (take n xs)
cut-long n xs h = omega (arith, length-take n xs)

module _ (f : List ℕ → List ℕ) (input : List ℕ) where
  abbrev told : Bool → List ℕ
  told b = elim b [ true ↦ printed_refusal (ascii "input ") fault.Size | false ↦ flat_map f (lines input) ]

  pub lines-many : max_input < length input → printed_refusal (ascii "input ") fault.Size ≡ lines_printed f input
  unfolding lines_printed
  lines-many h = sym (ap told (lt-ltb max_input (length input) h))

  pub lines-few : length input ≤ max_input → flat_map f (lines input) ≡ lines_printed f input
  unfolding lines_printed
  lines-few h = sym (ap told (le-ltb max_input (length input) h))
