-- `wordpiece::checked::judge` meets its contract: each test that is passed is a fact for the next. Assumes nothing.
use Rattle.std.proofs.lemmas.Result.{err_from_is_err_and}
use Rattle.std.proofs.Common.{sym, arith}
use Rattle.text.proofs.Spans.{fine-text}
use Rattle.wordpiece.proofs.Faults.{fault-size, fault-trie, ill-word, ill-prefix, fault-places, no-fault}
use Rattle.wordpiece.proofs.checked.judge.Goals as goal

pub returns-then-word-gt-MAX_TEXT : goal.returns-then-word-gt-MAX_TEXT
returns-then-word-gt-MAX_TEXT c = sym (fault-size _ _ _ _ c.then-word-gt-MAX_TEXT.either)

pub returns-then-not-sound : goal.returns-then-not-sound
returns-then-not-sound c =
    rw c.if-not-sound.true (sym (fault-trie _ _ _ c.if-word-gt-MAX_TEXT.false c.if-prefix-gt-MAX_PREFIX.false))

pub returns-in_err-judge : goal.returns-in_err-judge
returns-in_err-judge c =
    let p = err_from_is_err_and c.from_residual.result c.from_residual.ensures.1 in
    rw (p.1, p.2, c.if-not-sound.false)
    (sym (ill-word _ _ _ c.if-word-gt-MAX_TEXT.false c.if-prefix-gt-MAX_PREFIX.false (sym c.in_err-judge.ensures)))

pub returns-in_err-judge-2 : goal.returns-in_err-judge-2
returns-in_err-judge-2 c =
    let p = err_from_is_err_and c.from_residual-in_err-judge-2.result c.from_residual-in_err-judge-2.ensures.1 in
    rw (p.1, p.2, c.if-not-sound.false)
    (sym
    (ill-prefix _ _ _ c.if-word-gt-MAX_TEXT.false c.if-prefix-gt-MAX_PREFIX.false (sym c.in_ok-judge.ensures)
    (sym c.in_err-judge-2.ensures)))

pub characters-requires : goal.characters-requires
characters-requires c = fine-text _ (sym c.in_ok-judge.ensures)

pub returns-then-places-characters : goal.returns-then-places-characters
returns-then-places-characters c =
    rw c.if-not-sound.false
    (sym
    (fault-places _ _ _ c.if-word-gt-MAX_TEXT.false c.if-prefix-gt-MAX_PREFIX.false (sym c.in_ok-judge.ensures)
    (sym c.in_ok-judge-2.ensures) (omega (arith, c.characters.ensures, c.if-places-characters.true))))

pub returns : goal.returns
returns c =
    rw c.if-not-sound.false
    (sym
    (no-fault _ _ _ c.if-word-gt-MAX_TEXT.false c.if-prefix-gt-MAX_PREFIX.false (sym c.in_ok-judge.ensures)
    (sym c.in_ok-judge-2.ensures) (omega (arith, c.characters.ensures, c.if-places-characters.false))))
