-- `rows::row_fault` meets its contract: each return is the fault that its test finds, and past the tests of the token the worth
-- decides. Assumes nothing.
use Rattle.std.proofs.lemmas.Result.{err_from_is_err_and}
use Rattle.refusal.specs.declared.Fault.{Fault}
use Rattle.std.specs.Prelude.{Option, List, ℕ}
use Rattle.std.specs.Result.{result_err}
use mathlib.Core.Path.{◌≡◌, sym, ap, ◌∙◌}
use Prim.Native.Nat.{◌+◌, ◌≤◌}
use native.Mathlib.Omega.{arith}
use borrow.Author.Tests.{ltb-true, ltb-false}
use lib.ListN.{length}
use Rattle.text.specs.Text.{text_fault}
use Rattle.text.proofs.Spans.{bytes-given}
use Rattle.rows.specs.declared.Kind.{Kind}
use Rattle.rows.specs.Rows.{row_is, worth_is, worth_fault}
use Rattle.rows.proofs.RowFaults.{fault-span, fault-token, fault-text, fault-worth}
use Rattle.rows.proofs.row_fault.Goals as goal

-- what is found of the bytes given is found of the token
told : {s t : List ℕ} {o : Option Fault} → o ≡ text_fault s → s ≡ t → text_fault t ≡ o
told e p = sym (e ∙ ap text_fault p)

pub returns-then-is_outside : goal.returns-then-is_outside
unfolding row_is
returns-then-is_outside c = let a = c.args in
    sym (fault-span a.kind a.tab.now (row_is a.row) (ltb-true _ _ (sym c.is_outside.ensures ∙ c.if-is_outside.true)))

pub returns-then-row-gt-MAX_TOKEN : goal.returns-then-row-gt-MAX_TOKEN
unfolding row_is
returns-then-row-gt-MAX_TOKEN c =
    let inside : let a = c.args in a.row.off + a.row.len ≤ length a.tab.now = ltb-false _ _ (sym c.is_outside.ensures ∙ c.if-is_outside.false) in
    let a = c.args in
    sym (fault-token a.kind a.tab.now (row_is a.row) (inside) (omega arith))

pub returns-in_err-judge : goal.returns-in_err-judge
unfolding row_is
returns-in_err-judge c =
    let a = c.args in
    let p = err_from_is_err_and c.from_residual.result c.from_residual.ensures.1 in
    rw (p.1, p.2)
    (sym
    (fault-text a.kind a.tab.now (row_is a.row) (ltb-false _ _ (sym c.is_outside.ensures ∙ c.if-is_outside.false))
    (omega arith) (told c.judge.ensures (bytes-given c.span-token.ensures) ∙ ap result_err c.in_err-judge.was)))

-- the worth decides where the token is fine
pub returns-in-Unigram : goal.returns-in-Unigram
unfolding row_is
returns-in-Unigram c =
    let a = c.args in
    c.score_fault.ensures
    ∙ sym
    (fault-worth a.kind a.tab.now (row_is a.row) (ltb-false _ _ (sym c.is_outside.ensures ∙ c.if-is_outside.false))
    (omega arith) (told c.judge.ensures (bytes-given c.span-token.ensures) ∙ ap result_err c.in_ok-judge.was)
    ∙ ap (λ (k : Kind). worth_fault k (worth_is a.row.worth)) c.in-Unigram.is)

pub returns-in-WordPiece : goal.returns-in-WordPiece
unfolding row_is
returns-in-WordPiece c =
    let a = c.args in
    c.id_fault.ensures
    ∙ sym
    (fault-worth a.kind a.tab.now (row_is a.row) (ltb-false _ _ (sym c.is_outside.ensures ∙ c.if-is_outside.false))
    (omega arith) (told c.judge.ensures (bytes-given c.span-token.ensures) ∙ ap result_err c.in_ok-judge.was)
    ∙ ap (λ (k : Kind). worth_fault k (worth_is a.row.worth)) c.in-WordPiece.is)
