-- Which fault a pack has, by its tests in their order. All but the last come before the room, and none of them has the number
-- 7. Assumes nothing.
use Rattle.std.specs.Prelude.{Option, None, Some}
use mathlib.Core.Path.{◌≡◌, refl, sym, ap, ◌∙◌}
use mathlib.Core.Bool.{true, false}
use mathlib.Core.List.{List}
use Prim.Native.Nat.{ℕ, ◌+◌, ◌-◌, ◌≤◌}
use native.Mathlib.Omega.{arith}
use lib.ListN.{length, take, drop, length-drop}
use lib.Seq.{take_all}
use Rattle.refusal.specs.declared.Fault.TheVariants as fault
use Rattle.refusal.specs.declared.Reason.{Reason}
use Rattle.refusal.specs.declared.Reason.TheVariants as reason
use Rattle.refusal.specs.Sizes.{max_table}
use Rattle.refusal.specs.Refusal.{first, called}
use Rattle.refusal.proofs.Tests.{found, not_found, found_first, none_first, passed, both-passed, called-none, Not, NotOf, some-so, refused-so, first_so, called-so}
use Rattle.text.specs.Text.{well_formed}
use Rattle.text.specs.Span.{span_fault}
use Rattle.text.proofs.Spans.{fault-part, part_lies, part-text, part-not}
use Rattle.rows.specs.declared.Kind.{Kind}
use Rattle.rows.specs.Rows.{first_bad}
use Rattle.rows.proofs.NeverRoom.{bad-not-room}
use Rattle.pack.specs.Pack.{header_of, kind_of, laid_out, rows_of, strings_of, prefix_of}
use Rattle.pack.specs.Build.{large_header, prefix_fault, content_fault, pack_judged}
use Rattle.pack.proofs.Headers.{strings-end, kind-laid}

-- ---- the strings

module _ (bytes : List ℕ) {kind : Kind} (laid : kind_of bytes ≡ Some kind) where
  right : laid_out bytes (header_of bytes) ≡ true
  right = kind-laid bytes laid

  pub strings-start : (header_of bytes).strings_off ≤ length bytes
  strings-start = omega (arith, strings-end bytes (header_of bytes) right)

  pub strings-length : length (strings_of bytes) ≡ (header_of bytes).strings_len
  unfolding strings_of
  strings-length =
      omega (arith, strings-end bytes (header_of bytes) right, length-drop (header_of bytes).strings_off bytes)

-- the part of the file that is lent as the strings
pub strings-are : (bytes : List ℕ) (start : ℕ) → start ≡ (header_of bytes).strings_off → take (length bytes - start) (drop start bytes) ≡ strings_of bytes
unfolding strings_of
strings-are bytes start e =
    take_all (length bytes - start) (drop start bytes) (omega (arith, length-drop start bytes)) ∙ ap (λ (k : ℕ). drop k bytes) e

-- ---- the faults before the room

module _ (kind : Kind) (bytes : List ℕ) where
  abbrev bad : Option Reason
  bad = first_bad kind (strings_of bytes) 0 (rows_of kind bytes)

  pub before-large : large_header (header_of bytes) ≡ true → content_fault kind bytes ≡ Some (reason.Call fault.Size)
  unfolding content_fault
  before-large e = found _ _ _ e

  module _ (fits : large_header (header_of bytes) ≡ false) where
    pub before-rows : {r : Reason} → bad ≡ Some r → content_fault kind bytes ≡ Some r
    unfolding content_fault
    before-rows e = not_found _ _ _ fits ∙ found_first _ e

    -- the prefix decides where no row is bad, by its span in a table that is not too large
    pub before-prefix :
        bad ≡ None → length (strings_of bytes) ≤ max_table
        → content_fault kind bytes ≡ called (span_fault (strings_of bytes) (header_of bytes).prefix_off (header_of bytes).prefix_len)
    unfolding content_fault
    before-prefix fine l = not_found _ _ _ fits ∙ none_first _ fine ∙ sym (ap called (fault-part (strings_of bytes) _ _ l))

  -- what is known where none is found
  module _ (none-found : content_fault kind bytes ≡ None) where
    sizes : (large_header (header_of bytes) ≡ false) × (first bad (called (prefix_fault bytes)) ≡ None)
    unfolding content_fault
    sizes = passed _ _ _ none-found

    pub not-large : large_header (header_of bytes) ≡ false
    not-large = sizes.0

    pub rows-fine : bad ≡ None
    rows-fine = (both-passed bad (called (prefix_fault bytes)) sizes.1).0

    prefixes : prefix_fault bytes ≡ None
    prefixes = called-none (prefix_fault bytes) (both-passed bad (called (prefix_fault bytes)) sizes.1).1

    pub prefix-inside : (header_of bytes).prefix_off + (header_of bytes).prefix_len ≤ length (strings_of bytes)
    prefix-inside = part_lies (strings_of bytes) (header_of bytes).prefix_off (header_of bytes).prefix_len prefixes

    pub prefix-text : well_formed (prefix_of bytes) ≡ true
    unfolding prefix_of
    prefix-text = part-text (strings_of bytes) (header_of bytes).prefix_off (header_of bytes).prefix_len prefixes

-- no fault before the room has the number 7
pub content-early : (kind : Kind) (bytes : List ℕ) {r : Reason} → content_fault kind bytes ≡ Some r → NotOf 7 r
unfolding content_fault
content-early kind bytes e =
    let h = header_of bytes in
    refused-so (NotOf 7) (large_header h) (reason.Call fault.Size) _ refl
    (first_so (NotOf 7) (bad kind bytes) _ (bad-not-room kind (strings_of bytes) 0 (rows_of kind bytes))
    (called-so (Not 7) (prefix_fault bytes) (λ f. part-not (strings_of bytes) h.prefix_off h.prefix_len 7 refl refl)))
    e

-- ---- what `judge` finds

module _ (bytes : List ℕ) where
  pub judged-wrong : kind_of bytes ≡ None → pack_judged bytes ≡ Some (reason.Call fault.Pack)
  unfolding pack_judged
  judged-wrong e = rw (e, pack_judged)

  pub judged-laid : {kind : Kind} → kind_of bytes ≡ Some kind → pack_judged bytes ≡ content_fault kind bytes
  unfolding pack_judged
  judged-laid e = rw (e, pack_judged)

  -- and none of this has the number 7
  pub judged-early : {r : Reason} → pack_judged bytes ≡ Some r → NotOf 7 r
  judged-early {r = r} found = go (kind_of bytes) refl
    where
      go : (o : Option Kind) → kind_of bytes ≡ o → NotOf 7 r
      go None e = some-so (NotOf 7) (sym (judged-wrong e) ∙ found) refl
      go (Some kind) e = content-early kind bytes (sym (judged-laid e) ∙ found)
