-- `output::prefix_of` meets its contract: the strings begin where the header's fourth word says. Assumes nothing.
use mathlib.Core.Path.{◌≡◌, ap, ◌∙◌}
use mathlib.Core.List.{List, []}
use Prim.Native.Nat.{ℕ, ◌-◌}
use native.Mathlib.Omega.{arith}
use lib.ListN.{length, take, drop, length-drop}
use lib.Seq.{take_all}
use Rattle.refusal.specs.Refusal.{unless_fault}
use Rattle.text.specs.Span.{span_of, span_fault}
use Rattle.pack.specs.Pack.{header_of, strings_of}
use Rattle.output.proofs.prefix_of.Goals as goal

-- the part from there on
strings-are : (bytes : List ℕ) (at : ℕ) → at ≡ (header_of bytes).strings_off → take (length bytes - at) (drop at bytes) ≡ strings_of bytes
unfolding strings_of
strings-are bytes at e =
    take_all (length bytes - at) (drop at bytes) (omega (arith, length-drop at bytes)) ∙ ap (λ (n : ℕ). drop n bytes) e

pub slice_bounds-strings-count : goal.slice_bounds-strings-count
unfolding header_of
slice_bounds-strings-count c = omega (arith, c.word-start.ensures, c.requires.1)

pub slice_bounds-strings-start : goal.slice_bounds-strings-start
unfolding header_of
slice_bounds-strings-start c = omega (arith, c.word-start.ensures, c.requires.1)

pub returns : goal.returns
unfolding header_of
returns c =
    let a = c.args in
    c.text.ensures.gave
    ∙ ap (λ (strings : List ℕ). unless_fault (span_fault strings a.off a.len) (span_of strings a.off a.len) [])
    (strings-are a.pack.now c.word-start.result c.word-start.ensures)
