-- `exports::sk_characters` meets its contract: each test finds its fault, and where none does the characters are counted.
-- Assumes nothing.
use Rattle.std.specs.Result.{result_err}
use Rattle.std.specs.Prelude.{Option}
use mathlib.Core.Path.{◌≡◌, sym, ap, ◌∙◌}
use mathlib.Core.List.{List}
use Prim.Native.Nat.{ℕ}
use borrow.Author.Tests.{lt-ltb, le-ltb}
use lib.ListN.{length}
use Rattle.refusal.specs.declared.Fault.{Fault}
use Rattle.refusal.specs.Sizes.{max_text}
use Rattle.refusal.proofs.Tests.{found, not_found}
use Rattle.text.specs.Text.{characters}
use Rattle.text.proofs.Spans.{fine-text}
use Rattle.exports.specs.Flat.{count_fault, count_number}
use Rattle.exports.proofs.sk_characters.Goals as goal

told : (s : List ℕ) {o : Option Fault} → count_fault s ≡ o → count_number o (characters s) ≡ count_number (count_fault s) (characters s)
told s e = sym (ap (λ (f : Option Fault). count_number f (characters s)) e)

pub returns-then-s-gt-MAX_TEXT : goal.returns-then-s-gt-MAX_TEXT
returns-then-s-gt-MAX_TEXT c = c.refused.ensures ∙ told c.args.s.now (found _ _ _ (lt-ltb max_text (length c.args.s.now) c.if-s-gt-MAX_TEXT.true))

pub returns-in-Err : goal.returns-in-Err
returns-in-Err c =
    let judged : count_fault c.args.s.now ≡ result_err c.judge.result = not_found _ _ _ (le-ltb max_text (length c.args.s.now) c.if-s-gt-MAX_TEXT.false) ∙ sym c.judge.ensures in
    c.refused-in-Err.ensures ∙ told c.args.s.now (judged ∙ ap result_err c.in-Err.is)

pub characters-requires : goal.characters-requires
characters-requires c = fine-text c.args.s.now (sym c.judge.ensures ∙ ap result_err c.in_default.is)

pub returns : goal.returns
returns c =
    let judged : count_fault c.args.s.now ≡ result_err c.judge.result = not_found _ _ _ (le-ltb max_text (length c.args.s.now) c.if-s-gt-MAX_TEXT.false) ∙ sym c.judge.ensures in
    c.characters.ensures ∙ told c.args.s.now (judged ∙ ap result_err c.in_default.is)
