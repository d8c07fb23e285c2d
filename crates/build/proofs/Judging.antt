-- Rows that were judged: what the core asks of them follows where no fault was found, and the rows that it is given are those
-- of the columns. Assumes nothing.
use Rattle.std.specs.Prelude.{None, Option, ℕ}
use mathlib.Core.Path.{◌≡◌, refl, sym, ap, ◌∙◌}
use mathlib.Core.Bool.{Bool, false, cond}
use mathlib.Core.List.{List, [], ◌∷◌, map}
use Prim.Native.Nat.{ℕ, zero, suc, ◌+◌, ◌≤◌, ◌<◌}
use native.Mathlib.Omega.{arith}
use lib.Dec.{ltb}
use lib.ListN.{length, get_or}
use Rattle.refusal.specs.Sizes.{no_id}
use Rattle.refusal.proofs.Tests.{passed}
use Rattle.doubles.specs.Double.{plus_zero}
use Rattle.rows.specs.declared.Kind.{Kind}
use Rattle.rows.specs.declared.Kind.TheVariants.{Unigram, WordPiece}
use Rattle.rows.specs.Rows.{Row, score, id, token_of, first_bad}
use Rattle.rows.specs.Columns.{Columns, row_at, rows_from, rows_of, columns_fault}
use Rattle.rows.specs.Answers.{columns}
use Rattle.rows.proofs.RowFaults.{fine-worth, fine-id}
use Rattle.rows.proofs.RowLists.{rows-length, level-len, level-id}
use Rattle.rows.proofs.FirstBad.{none-bad-says}
use Rattle.rows.proofs.ListFaults.{rows_few, columns-level, row_inside, wordpiece-numbered, sizes-first}
use Rattle.build.specs.Names.{names}
use Rattle.build.specs.Rules.{tokens_of, first_row, id_of_worth, unigram_trie}
use Rattle.build.specs.Parts.{trie_of}
use Rattle.build.specs.Given.{given}
use Rattle.build.specs.Held.{LevelRows}
use Rattle.build.specs.Memory.{Memory, cleared, holding}
use Rattle.build.specs.Promise.{trie_in}
use Rattle.build.specs.Checked.{nodes_of, built_answer, BuiltOf}
use Rattle.build.proofs.Grown.{List²}
use Rattle.build.proofs.Lookups.{no_row}
use Rattle.build.proofs.Rooms.{nodes-few}

-- ---- a list without a fault

module _ (kind : Kind) (tab : List ℕ) (c : Columns) (fine : columns_fault kind tab c ≡ None) where
  pub rows-fine : first_bad kind tab 0 (rows_of c) ≡ None
  rows-fine = (passed _ _ _ (sym (sizes-first kind tab c) ∙ fine)).1

  pub few-rows : length (rows_of c) ≤ 1_048_576
  few-rows = omega (arith, rows-length c, rows_few kind tab c fine)

  -- what the core asks
  pub judged : LevelRows kind tab c.off c.len c.id
  judged =
      let flat = columns-level kind tab c fine in
      record {
        level = level-len c flat;
        own = λ e. level-id c flat;
        few = rows_few kind tab c fine;
        inside = row_inside kind tab c fine;
      }

  -- its nodes are few
  pub nodes-small : nodes_of tab (rows_of c) ≤ 1_073_741_825
  nodes-small = nodes-few kind tab (rows_of c) few-rows rows-fine

-- a WordPiece row without a fault has no mark for its id
pub ids-marked :
    (tab : List ℕ) (rows : List Row) → first_bad WordPiece tab 0 rows ≡ None
    → (k : ℕ) → k < length rows → id_of_worth (get_or rows k no_row).worth ≡ no_id → ⊥
unfolding id_of_worth
ids-marked tab rows fine k h e =
    let r = get_or rows k no_row in
    let w = fine-id r.worth (fine-worth WordPiece tab r (none-bad-says WordPiece tab no_row 0 rows fine k h)) in
    w.2 (sym (ap id_of_worth w.1) ∙ e)

-- ---- the rows given are the columns' rows

tokens-from :
    (tab : List ℕ) (c : Columns) (ids : List ℕ) (n i : ℕ)
    → map (token_of tab) (rows_from (columns c.off c.len [] [] ids) i n) ≡ map (token_of tab) (rows_from c i n)
unfolding rows_from row_at
tokens-from tab c ids zero i = refl
tokens-from tab c ids (suc n) i =
    ap {B = List²} (λ r. token_of tab (row_at c i) ∷ r) (tokens-from tab c ids n (suc i))

-- their tokens, whatever ids are given
given-tokens : (tab : List ℕ) (c : Columns) (ids : List ℕ) → tokens_of tab (given c.off c.len ids) ≡ tokens_of tab (rows_of c)
unfolding tokens_of rows_of
given-tokens tab c ids = tokens-from tab c ids (length c.off) 0

rows-from :
    (c : Columns) (n i : ℕ) → ((k : ℕ) → k < i + n → get_or c.scored k false ≡ false)
    → rows_from (columns c.off c.len [] [] c.id) i n ≡ rows_from c i n
unfolding rows_from row_at
rows-from c zero i h = refl
rows-from c (suc n) i h =
    let none-scored : get_or c.scored i false ≡ false = h i (omega arith) in
    ap {B = List Row} (λ r. row_at (columns c.off c.len [] [] c.id) i ∷ r) (rows-from c n (suc i) (λ k p. h k (omega arith)))
    ∙ ap (λ (t : Bool). record {
      off = get_or c.off i 0;
      len = get_or c.len i 0;
      worth = cond t (score (get_or c.score i plus_zero)) (id (get_or c.id i 0));
    } ∷ rows_from c (suc i) n) (sym none-scored)

-- the rows themselves, where each has an id for its worth
given-rows :
    (c : Columns) → ((k : ℕ) → k < length c.off → get_or c.scored k false ≡ false) → given c.off c.len c.id ≡ rows_of c
unfolding rows_of
given-rows c h = rows-from c (length c.off) 0 (λ k p. h k (omega arith))

-- the trie and the count of nodes are those of the columns' rows: for Unigram the tokens decide, and WordPiece has the rows
-- themselves
same-build :
    (kind : Kind) (tab : List ℕ) (c : Columns) → columns_fault kind tab c ≡ None
    → (trie_in kind tab (given c.off c.len c.id) ≡ trie_in kind tab (rows_of c))
    × (nodes_of tab (given c.off c.len c.id) ≡ nodes_of tab (rows_of c))
unfolding trie_in unigram_trie
same-build Unigram tab c fine =
    let tokens = given-tokens tab c c.id in
    (ap (λ (tokens : List²). trie_of (first_row tokens) tokens) tokens, ap (λ (tokens : List²). length (names tokens)) tokens)
same-build WordPiece tab c fine =
    let rows = given-rows c (λ k h. wordpiece-numbered tab c k h fine) in
    (ap (trie_in WordPiece tab) rows, ap (nodes_of tab) rows)

pub columns-built :
    (kind : Kind) (tab : List ℕ) (c : Columns) {room : ℕ} {m after : Memory} {answer : Option ℕ}
    → columns_fault kind tab c ≡ None
    → BuiltOf kind tab (given c.off c.len c.id) room m after answer → BuiltOf kind tab (rows_of c) room m after answer
columns-built kind tab c {room = room} {m = m} fine d =
    let same = same-build kind tab c fine in
    record {
      answered = d.answered ∙ ap (built_answer room) same.1;
      left =
          d.left ∙ (λ i. cond (ltb room (same.1 i)) (cleared m) (holding (same.0 i) [] m));
    }
