-- What the build of Unigram rows in columns promises: the room, that of the score column too, decides; what the core says of
-- its rows is said of the columns' rows; and the score column, filled by the ids of the nodes, is that of the rows. Assumes
-- nothing.
use Rattle.refusal.specs.declared.Reason.{Reason}
use Rattle.std.specs.Prelude.{Option, None, Some, unwrap_or, Err, ℕ, Result, Ok}
use mathlib.Core.Path.{◌≡◌, refl, sym, ap, ◌∙◌}
use mathlib.Core.Bool.{Bool}
use mathlib.Core.List.{List, [], ◌∷◌, map}
use Prim.Native.Nat.{ℕ, ◌≤◌, ◌<◌, min}
use native.Mathlib.Omega.{arith}
use lib.Dec.{ltb}
use lib.Ieee.{Float}
use lib.ListN.{length, take, length-map, get_or-eq_default}
use lib.Seq.{take_at, ext_get_or}
use Rattle.doubles.specs.Double.{Double, plus_zero}
use Rattle.doubles.specs.Units.{units}
use Rattle.refusal.specs.declared.Fault.TheVariants as fault
use Rattle.refusal.specs.declared.Reason.TheVariants as reason
use Rattle.refusal.specs.Places.{filled}
use Rattle.refusal.specs.Sizes.{no_id}
use Rattle.rows.specs.declared.Kind.{Kind}
use Rattle.rows.specs.declared.Kind.TheVariants.{Unigram}
use Rattle.rows.specs.Rows.{Row}
use Rattle.rows.specs.Columns.{Columns, row_at, rows_of, columns_fault}
use Rattle.rows.specs.Answers.{columns}
use Rattle.rows.specs.Scores.{unknown_score}
use Rattle.rows.proofs.ListFaults.{columns-level, unigram-row}
use Rattle.rows.proofs.RowLists.{rows-length, rows_at, level-score, get_or-map-inside}
use Rattle.build.specs.Names.{names}
use Rattle.build.specs.Parts.{lay, trie_of}
use Rattle.build.specs.Rules.{tokens_of, first_row, score_of, scores_of, node_score_of, unigram_trie, unigram_scores}
use Rattle.build.specs.Given.{given}
use Rattle.build.specs.Memory.{Memory, with_scores, no_scored_room, holding, zero_scores}
use Rattle.build.specs.Checked.{room_of, nodes_of, BuiltOf}
use Rattle.build.specs.Promise.{trie_in, scores_in, Promised}
use Rattle.build.proofs.Rooms.{room_for, scored-room, scores-roomy, scored-decides, nodes-some}
use Rattle.build.proofs.Outcomes.{core-fits, core-room}
use Rattle.build.proofs.Judging.{few-rows, nodes-small, columns-built}
use Rattle.build.proofs.Promises.{core-short, core-left, core-held}
use Rattle.build.proofs.Sounds.{length-id}
use Rattle.scored.specs.Build.{Report, report_of, told, Built}
use Rattle.scored.specs.NodeScores.{row_score, filled_scores}

-- ---- the scores

-- the rows' scores are the score column
pub scores-are : (tab : List ℕ) (c : Columns) → columns_fault Unigram tab c ≡ None → scores_of (rows_of c) ≡ c.score
unfolding scores_of score_of
scores-are tab c fine =
    let rows = rows_of c in
    let len : length (map (λ (r : Row). score_of r.worth) rows) ≡ length c.off = length-map rows (λ r. score_of r.worth) ∙ rows-length c in
    ext_get_or plus_zero (map (λ (r : Row). score_of r.worth) rows) c.score (len ∙ sym (level-score c (columns-level Unigram tab c fine)))
    (λ i h.
    let l : i < length c.off = omega arith in
    get_or-map-inside (λ (r : Row). score_of r.worth) rows i (row_at c 0) plus_zero (omega (arith, rows-length c))
    ∙ ap (λ (r : Row). score_of r.worth) (rows_at c (row_at c 0) i l)
    ∙ ap score_of (unigram-row tab c i l fine))

-- a node's score by its id: past all scores stands the mark for none
node-score : (scores : List Double) → length scores ≤ no_id → (o : Option ℕ) → row_score scores (unwrap_or o no_id) ≡ node_score_of scores o
unfolding node_score_of
node-score scores h None = get_or-eq_default scores plus_zero h
node-score scores h (Some i) = refl

map_both : {A : Type 0} (f : ℕ → Double) (g : A → ℕ) (h : A → Double) → ((a : A) → f (g a) ≡ h a) → (xs : List A) → map f (map g xs) ≡ map h xs
map_both f g h e [] = refl
map_both f g h e (x ∷ xs) = λ i. e x i ∷ map_both f g h e xs i

-- the scores of the id column are the nodes' scores
ids-scores : (tab : List ℕ) (rows : List Row) → length rows ≤ 1_048_576 → map (row_score (scores_of rows)) (unigram_trie tab rows).id ≡ unigram_scores tab rows
unfolding unigram_trie unigram_scores trie_of lay scores_of
ids-scores tab rows few =
    let tokens = tokens_of tab rows in
    let h : length (scores_of rows) ≤ no_id = omega (arith, length-map rows (λ r. score_of r.worth)) in
    map_both (row_score (scores_of rows)) (λ s. unwrap_or (first_row tokens s) no_id) (λ s. node_score_of (scores_of rows) (first_row tokens s))
    (λ s. node-score (scores_of rows) h (first_row tokens s)) (names tokens)

-- the first ids of a memory that holds the trie are the trie's
ids-held : (tab : List ℕ) (rows : List Row) (xs : List Double) (m : Memory) {n : ℕ} → n ≡ nodes_of tab rows → take n (holding (unigram_trie tab rows) xs m).parts.id ≡ (unigram_trie tab rows).id
unfolding holding unigram_trie
ids-held tab rows xs m {n = n} e = take_at _ _ n (length-id (first_row (tokens_of tab rows)) (tokens_of tab rows) ∙ sym e)

-- the score column that is filled by the ids of the nodes is that of the rows
pub scores-filled :
    (tab : List ℕ) (rows : List Row) (m : Memory) (xs : List Double) {after : Memory} {ys : List Double} {n : ℕ} → length rows ≤ 1_048_576
    → n ≡ nodes_of tab rows → after ≡ holding (trie_in Unigram tab rows) [] m → ys ≡ filled_scores (scores_of rows) (take n after.parts.id) xs
    → ys ≡ filled plus_zero (scores_in Unigram tab rows) xs
unfolding trie_in scores_in
scores-filled tab rows m xs {n = n} few count left e =
    e ∙ ap (λ (x : Memory). filled_scores (scores_of rows) (take n x.parts.id) xs) left
    ∙ ap (λ (ids : List ℕ). filled_scores (scores_of rows) ids xs) (ids-held tab rows [] m count)
    ∙ ap (λ (l : List Double). filled plus_zero l xs) (ids-scores tab rows few)

-- ---- from what the core says of the lent lists

-- the nodes that were built stand in every column, and their number fits a u32
pub record Placed (n k : ℕ) (m : Memory) : Type 0 where
  pub ids : n ≤ length m.parts.id
  pub scores : n ≤ k
  pub small : n ≤ 4_294_967_295

pub nodes-placed :
    {kind : Kind} {tab : List ℕ} {rows : List Row} {m after : Memory} {room n : ℕ} {answer : (Option ℕ)} (xs : List Float)
    → room ≡ min (room_of m) (length xs) → BuiltOf kind tab rows room m after answer → answer ≡ Some n → Placed n (length xs) m
nodes-placed {m = m} xs r d e =
    let same = r ∙ ap (min (room_of m)) (sym (length-map xs units)) in
    let every = (room_for m _ (scored-room m (map units xs) same)).roomy in
    let fits = core-room d e in
    record {
      ids = omega (arith, fits, every.ids);
      scores = omega (arith, fits, scores-roomy m (map units xs) same, length-map xs units);
      small = omega (arith, fits, every.small);
    }

module _ (tab off len : List ℕ) (score : List Float) (ids : List ℕ) (m after : Memory) (before : List Float) {room : ℕ}
    (r : room ≡ min (room_of m) (length before)) (flags : List Bool) (fine : columns_fault Unigram tab (columns off len flags score ids) ≡ None)
  where
    abbrev c : Columns
    c = columns off len flags score ids

    abbrev rows : List Row
    rows = rows_of c

    abbrev was : List Double
    was = map units before

    -- the room decides
    decides : no_scored_room (nodes_of tab rows) (with_scores m was) ≡ ltb room (nodes_of tab rows)
    decides =
        scored-decides m was (r ∙ ap (min (room_of m)) (sym (length-map before units))) (nodes_of tab rows) (nodes-some tab rows)
        (omega (arith, nodes-small Unigram tab c fine))

    pub lists-full :
        {answer : (Option ℕ)} {ys : List Double} → BuiltOf Unigram tab (given off len ids) room m after answer → answer ≡ None → ys ≡ zero_scores was
        → Built tab c (with_scores m was) (Err (reason.Call fault.Room)) (with_scores after ys)
    unfolding told
    lists-full {ys = ys} d e s = core-short Unigram tab rows (report_of tab rows) m after was ys (columns-built Unigram tab c fine d) fine decides e s

    pub lists-built :
        {answer : (Option ℕ)} {n : ℕ} {said : Result Report Reason} {ys : List Double} → BuiltOf Unigram tab (given off len ids) room m after answer → answer ≡ Some n
        → said ≡ Ok (record { nodes = n; unknown = unknown_score (map units score) }) → ys ≡ filled_scores (map units score) (take n after.parts.id) was
        → Promised Unigram tab rows (columns_fault Unigram tab c) (no_scored_room (nodes_of tab rows) (with_scores m was)) (report_of tab rows) (with_scores m was) said (with_scores after ys)
    lists-built {n = n} {ys = ys} d e t s =
        let same = columns-built Unigram tab c fine d in
        let count = (core-fits same e).1 in
        let scores = scores-are tab c fine in
        core-held Unigram tab rows (report_of tab rows) m after was ys same fine decides e
        (t ∙ (λ i. Ok (record { nodes = count i; unknown = unknown_score (sym scores i) })))
        (scores-filled tab rows m was (few-rows Unigram tab c fine) count
        (core-left Unigram tab rows (report_of tab rows) m after was ys same fine decides e)
        (s ∙ ap (λ (xs : List Double). filled_scores xs (take n after.parts.id) was) (sym scores)))
