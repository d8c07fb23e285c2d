-- `pack::judge::judge_rows` meets its contract: the sizes, then the first bad row, then the prefix, each where those before it
-- found nothing. What was read for the header is the pack's, so that what is found by it is found of the pack. Assumes nothing.
use Rattle.std.proofs.lemmas.Result.{err_from_is_err_and}
use Rattle.std.specs.Result.{result_err}
use Rattle.std.specs.Prelude.{Option, Some, Result, ⊤}
use mathlib.Core.Path.{◌≡◌, sym, ap, ◌∙◌, subst}
use mathlib.Core.Bool.{Bool, false}
use mathlib.Core.List.{List}
use Prim.Native.Nat.{ℕ, ◌-◌, ◌≤◌}
use native.Mathlib.Omega.{arith}
use lib.ListN.{length, take, drop}
use Rattle.refusal.specs.declared.Fault.{Fault}
use Rattle.refusal.specs.declared.Reason.{Reason}
use Rattle.refusal.specs.Sizes.{max_table}
use Rattle.refusal.specs.Refusal.{called}
use Rattle.text.specs.Span.{TextAnswered}
use Rattle.text.proofs.Spans.{refused-exactly, accepted-exactly}
use Rattle.rows.specs.declared.Kind.{Kind}
use Rattle.rows.specs.Rows.{first_bad}
use Rattle.pack.specs.declared.header.Header.{Header}
use Rattle.pack.specs.Pack.{header_of, kind_of, rows_from, rows_of, strings_of}
use Rattle.pack.specs.Build.{large_header}
use Rattle.pack.proofs.Headers.{rows_inside, kind-laid, few-rows, small-table}
use Rattle.pack.proofs.Faults.{strings-start, strings-length, strings-are, before-large, before-rows, before-prefix}
use Rattle.pack.proofs.judge.judge_rows.Goals as goal

module _ (bytes : List ℕ) (kind : Kind) (h : Header) (here : (h ≡ header_of bytes) × (kind_of bytes ≡ Some kind)) where
  sized : {a b : Bool} → a ≡ large_header h → a ≡ b → large_header (header_of bytes) ≡ b
  sized p q = sym (p ∙ ap large_header here.0) ∙ q

  starts : h.strings_off ≡ (header_of bytes).strings_off
  starts = ap (λ (h : Header). h.strings_off) here.0

  start-inside : h.strings_off ≤ length bytes
  start-inside = omega (arith, starts, strings-start bytes here.1)

  abbrev lent : List ℕ
  lent = take (length bytes - h.strings_off) (drop h.strings_off bytes)

  of_rows : {o : Option Reason} → o ≡ first_bad kind lent 0 (rows_from kind bytes 36 h.rows)
      → first_bad kind (strings_of bytes) 0 (rows_of kind bytes) ≡ o
  unfolding rows_of
  of_rows p =
      sym
      (p ∙ ap (λ (tab : List ℕ). first_bad kind tab 0 (rows_from kind bytes 36 h.rows)) (strings-are bytes h.strings_off starts)
      ∙ ap (λ (h : Header). first_bad kind (strings_of bytes) 0 (rows_from kind bytes 36 h.rows)) here.0)

  of-prefix : {a : Result ⊤ Fault} → TextAnswered lent h.prefix_off h.prefix_len a
      → TextAnswered (strings_of bytes) (header_of bytes).prefix_off (header_of bytes).prefix_len a
  of-prefix {a = a} p =
      subst (λ (h : Header). TextAnswered (strings_of bytes) h.prefix_off h.prefix_len a) here.0
      (subst (λ (tab : List ℕ). TextAnswered tab h.prefix_off h.prefix_len a) (strings-are bytes h.strings_off starts) p)

  table : large_header (header_of bytes) ≡ false → length (strings_of bytes) ≤ max_table
  table fits = omega (arith, strings-length bytes here.1, small-table (header_of bytes) fits)

pub returns-then-is_large : goal.returns-then-is_large
returns-then-is_large c =
    sym (before-large c.args.kind c.args.bytes.now (sized _ _ _ c.requires c.is_large.ensures c.if-is_large.true))

pub first_bad-requires : goal.first_bad-requires
first_bad-requires c =
    let bytes = c.args.bytes.now in
    let rows = ap (λ (h : Header). h.rows) c.requires.0 in
    let fits = sized _ _ _ c.requires c.is_large.ensures c.if-is_large.false in (
      omega (arith, rows, rows_inside bytes (header_of bytes) (kind-laid bytes c.requires.1)),
      omega (arith, rows, few-rows (header_of bytes) fits),
    )

pub returns-in_err-first_bad : goal.returns-in_err-first_bad
returns-in_err-first_bad c =
    let p = err_from_is_err_and c.from_residual.result c.from_residual.ensures.1 in
    let fits = sized _ _ _ c.requires c.is_large.ensures c.if-is_large.false in
    let bad = of_rows _ _ _ c.requires c.first_bad.ensures ∙ ap result_err c.in_err-first_bad.was in
    rw (p.1, p.2) (sym (before-rows c.args.kind c.args.bytes.now fits bad))

pub returns-in_err-text_answer : goal.returns-in_err-text_answer
unfolding called
returns-in_err-text_answer c =
    let r = c.from_residual-in_err-text_answer in
    let p = err_from_is_err_and r.result r.ensures.1 in
    let fits = sized _ _ _ c.requires c.is_large.ensures c.if-is_large.false in
    let fine = of_rows _ _ _ c.requires c.first_bad.ensures ∙ ap result_err c.in_ok-first_bad.was in
    let bad = (refused-exactly (of-prefix _ _ _ c.requires c.text_answer.ensures) _).0 c.in_err-text_answer.was in
    rw (p.1, p.2)
    (sym (before-prefix c.args.kind c.args.bytes.now fits fine (table _ _ _ c.requires fits) ∙ ap called bad))

pub returns : goal.returns
unfolding called
returns c =
    let fits = sized _ _ _ c.requires c.is_large.ensures c.if-is_large.false in
    let fine = of_rows _ _ _ c.requires c.first_bad.ensures ∙ ap result_err c.in_ok-first_bad.was in
    let text = (accepted-exactly (of-prefix _ _ _ c.requires c.text_answer.ensures)).0 c.in_ok-text_answer.was in
    sym (before-prefix c.args.kind c.args.bytes.now fits fine (table _ _ _ c.requires fits) ∙ ap called text)

pub slice_bounds-first_bad-count : goal.slice_bounds-first_bad-count
slice_bounds-first_bad-count c = start-inside _ _ _ c.requires

pub slice_bounds-first_bad-start : goal.slice_bounds-first_bad-start
slice_bounds-first_bad-start c = start-inside _ _ _ c.requires

pub slice_bounds-text_answer-count : goal.slice_bounds-text_answer-count
slice_bounds-text_answer-count c = start-inside _ _ _ c.requires

pub slice_bounds-text_answer-start : goal.slice_bounds-text_answer-start
slice_bounds-text_answer-start c = start-inside _ _ _ c.requires
