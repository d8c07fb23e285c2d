-- `wordpiece::checked::encode` meets its contract: by the word's length, its characters, its first piece, and then by the rest;
-- a word has a place for each character. Assumes nothing.
use Rattle.std.proofs.Common.{◌≡◌, ℕ, ◌<◌, Bool, false, eqb, length, refl, sym, ◌∙◌, arith}
use borrow.Author.Tests.{eqb-true}
use Rattle.std.proofs.lemmas.Bool.Decides.{nat_tests}
use Rattle.trie.specs.Trie.{id_of}
use Rattle.wordpiece.proofs.Longest.{root_node}
use Rattle.wordpiece.proofs.Rest.{longest-ends, pieces-first, some-character}
use Rattle.wordpiece.proofs.Plans.{ids-long, ids_short, ids-empty, missed, alone, written}
use Rattle.wordpiece.proofs.checked.encode.Goals as goal

-- a word that is not empty
nonempty : (n : ℕ) (b : Bool) → b ≡ eqb n 0 → b ≡ false → 0 < n
nonempty n b e f = grind (arith, nat_tests)

pub returns-then-is_empty : goal.returns-then-is_empty
returns-then-is_empty c =
    written _ (ids-empty _ _ _ _ _ (eqb-true _ _ (sym c.is_empty.ensures ∙ c.if-is_empty.true))) (refl, refl)

pub returns-then-too_long : goal.returns-then-too_long
returns-then-too_long c = written _ (ids-long _ _ _ _ _ (sym c.too_long.ensures ∙ c.if-too_long.true)) c.put.ensures

pub longest-requires-clause-node : goal.longest-requires-clause-node
longest-requires-clause-node c = rw c.root.ensures (root_node _ c.requires.parts)

pub put-requires-in_default : goal.put-requires-in_default
put-requires-in_default c =
    let some_byte : 0 < length c.args.word.now = nonempty _ _ c.is_empty.ensures c.if-is_empty.false in
    omega (arith, some-character _ c.requires.well some_byte, c.requires.room)

pub returns-in_default : goal.returns-in_default
unfolding id_of
returns-in_default c =
    let some_byte : 0 < length c.args.word.now = nonempty _ _ c.is_empty.ensures c.if-is_empty.false in
    let found = rw c.root.ensures at c.in_default.ensures in
    let m = missed _ _ _ _ c.requires.well some_byte (pieces-first _ _ _ some_byte (sym found)) in
    written _ (ids_short _ _ _ _ _ (sym c.too_long.ensures ∙ c.if-too_long.false) ∙ m.0) c.put-in_default.ensures

pub put-requires-then-first-word : goal.put-requires-then-first-word
put-requires-then-first-word c =
    let some_byte : 0 < length c.args.word.now = nonempty _ _ c.is_empty.ensures c.if-is_empty.false in
    omega (arith, some-character _ c.requires.well some_byte, c.requires.room)

pub returns-then-first-word : goal.returns-then-first-word
unfolding id_of
returns-then-first-word c =
    let some_byte : 0 < length c.args.word.now = nonempty _ _ c.is_empty.ensures c.if-is_empty.false in
    let found = rw c.root.ensures at c.in-Some.ensures in
    let m = alone _ _ _ _ c.requires.well some_byte (sym found) c.if-first-word.true in
    written _ (ids_short _ _ _ _ _ (sym c.too_long.ensures ∙ c.if-too_long.false) ∙ m.0) c.put-then-first-word.ensures

pub encode_rest-requires-clause-longest : goal.encode_rest-requires-clause-longest
unfolding id_of
encode_rest-requires-clause-longest c = sym (rw c.root.ensures at c.in-Some.ensures)

pub encode_rest-requires-clause-below : goal.encode_rest-requires-clause-below
encode_rest-requires-clause-below c =
    let ends = longest-ends _ _ _ _ _ (sym c.in-Some.ensures) in
    omega (arith, ends.below, c.if-first-word.false)

pub returns : goal.returns
returns c = written _ (ids_short _ _ _ _ _ (sym c.too_long.ensures ∙ c.if-too_long.false)) c.encode_rest.ensures
