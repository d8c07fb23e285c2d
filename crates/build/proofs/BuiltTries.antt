-- What a build leaves, for a reader: the lent columns, cut to the counts, are the trie of the rows, since N nodes have N places
-- of each node column and N - 1 edges, and the rest of each column is behind them. That trie is sound, and for Unigram its
-- scores and its unknown score are finite. Assumes nothing.
use Rattle.std.specs.Prelude.{Option, None, Some, Result, Ok}
use mathlib.Core.Path.{◌≡◌, refl, sym, ap, ◌∙◌, subst}
use mathlib.Core.Bool.{Bool, true, false}
use mathlib.Core.List.{List, []}
use Prim.Native.Nat.{ℕ, ◌-◌, ◌≤◌, ◌<◌}
use native.Mathlib.Omega.{arith}
use native.Mathlib.Decide.{dec_lt}
use lib.Dec.{T}
use lib.ListN.{length, get_or, take, length-map, get_or-eq_default}
use lib.Seq.{take_at}
use Rattle.doubles.specs.Double.{Double, plus_zero, is_finite}
use Rattle.doubles.proofs.Largest.{is_double}
use Rattle.refusal.specs.declared.Reason.{Reason}
use Rattle.refusal.specs.Sizes.{max_rows}
use Rattle.trie.specs.Trie.{Trie, parts_of}
use Rattle.trie.specs.Sound.{sound, sound_scored}
use Rattle.trie.proofs.SoundParts.{of-scored}
use Rattle.rows.specs.declared.Kind.{Kind}
use Rattle.rows.specs.declared.Kind.TheVariants.{Unigram, WordPiece}
use Rattle.rows.specs.Rows.{Row, first_bad}
use Rattle.rows.specs.Scores.{unknown_score}
use Rattle.rows.proofs.RowFaults.{fine-worth, fine-score}
use Rattle.rows.proofs.FirstBad.{none-bad-says}
use Rattle.rows.proofs.LowestScores.{unknown-finite}
use Rattle.build.specs.Names.{names}
use Rattle.build.specs.Grown.{Bytes}
use Rattle.build.specs.Parts.{trie_of}
use Rattle.build.specs.Rules.{tokens_of, first_row, last_id, score_of, scores_of, node_score_of, unigram_trie}
use Rattle.build.specs.Rules.{unigram_scores, wordpiece_trie}
use Rattle.build.specs.Memory.{Memory, holding}
use Rattle.build.specs.Checked.{nodes_of}
use Rattle.build.specs.Promise.{trie_in, scores_in, Promised}
use Rattle.build.proofs.Laid.{get_or-map-of}
use Rattle.build.proofs.Sounds.{sound-built, length-edge_at, length-edge_n, length-id, length-byte, length_to}
use Rattle.build.proofs.Lookups.{no_row, tokens-bytes}
use Rattle.build.proofs.Rooms.{nodes-few}
use Rattle.build.proofs.Promises.{built-left}

-- the parts with n nodes that lent columns hold in front
abbrev pub parts_in : ℕ → Memory → Trie
parts_in n m =
    parts_of (take n m.parts.edge_at) (take n m.parts.edge_n) (take n m.parts.id) (take (n - 1) m.parts.byte)
    (take (n - 1) m.parts.to)

-- every score is a double, as those of a lent column are
abbrev pub Doubles : List Double → Type 0
Doubles xs = (k : ℕ) → k < length xs → T (is_double (get_or xs k plus_zero))

-- ---- the cut, and that it is sound

same_parts :
    {a b c d e a' b' c' d' e' : List ℕ} → a ≡ a' → b ≡ b' → c ≡ c' → d ≡ d' → e ≡ e'
    → parts_of a b c d e ≡ parts_of a' b' c' d' e'
same_parts p q r s t = cc

module _ (tab : List ℕ) (rows : List Row) (bytes : Bytes tab) where
  cut-held :
      (rule : List ℕ → Option ℕ) (xs : List Double) (m : Memory)
      → parts_in (nodes_of tab rows) (holding (trie_of rule (tokens_of tab rows)) xs m) ≡ trie_of rule (tokens_of tab rows)
  unfolding holding
  cut-held rule xs m =
      let tokens = tokens_of tab rows in
      let all = tokens-bytes tab rows bytes in
      same_parts (take_at _ _ _ (length-edge_at rule tokens)) (take_at _ _ _ (length-edge_n rule tokens))
      (take_at _ _ _ (length-id rule tokens))
      (take_at _ _ _ (length-byte rule tokens all)) (take_at _ _ _ (length_to rule tokens all))

  pub rows_cut :
      (kind : Kind) (xs : List Double) (m : Memory)
      → parts_in (nodes_of tab rows) (holding (trie_in kind tab rows) xs m) ≡ trie_in kind tab rows
  unfolding trie_in unigram_trie wordpiece_trie
  rows_cut Unigram xs m = cut-held (first_row (tokens_of tab rows)) xs m
  rows_cut WordPiece xs m = cut-held (last_id tab rows) xs m

  pub rows-sound :
      (kind : Kind) → length rows ≤ max_rows → first_bad kind tab 0 rows ≡ None → sound (trie_in kind tab rows) ≡ true
  unfolding trie_in unigram_trie wordpiece_trie
  rows-sound Unigram few fine =
      sound-built (first_row (tokens_of tab rows)) (tokens_of tab rows) (tokens-bytes tab rows bytes)
      (omega (arith, nodes-few Unigram tab rows few fine))
  rows-sound WordPiece few fine =
      sound-built (last_id tab rows) (tokens_of tab rows) (tokens-bytes tab rows bytes)
      (omega (arith, nodes-few WordPiece tab rows few fine))

-- ---- the scores of a Unigram trie

pub length-scores : (tab : List ℕ) (rows : List Row) → length (unigram_scores tab rows) ≡ nodes_of tab rows
unfolding unigram_scores
length-scores tab rows = length-map (names (tokens_of tab rows)) _

-- the score of node k is that of the row of its string
pub score-at :
    (tab : List ℕ) (rows : List Row) (k : ℕ) → k < nodes_of tab rows
    → get_or (unigram_scores tab rows) k plus_zero ≡ node_score_of (scores_of rows)
    (first_row (tokens_of tab rows) (get_or (names (tokens_of tab rows)) k []))
unfolding unigram_scores
score-at tab rows k h =
    let tokens = tokens_of tab rows in
    get_or-map-of (λ s. node_score_of (scores_of rows) (first_row tokens s)) (names tokens) k [] plus_zero h

is_true : (b : Bool) → T b → b ≡ true
is_true true t = refl
is_true false t = absurd t

module _ (tab : List ℕ) (rows : List Row) (fine : first_bad Unigram tab 0 rows ≡ None) where
  score-finite : (i : ℕ) → is_finite (get_or (scores_of rows) i plus_zero) ≡ true
  unfolding scores_of score_of is_finite
  score-finite i = go (dec_lt i (length rows))
    where
      go : Dec (i < length rows) → is_finite (get_or (scores_of rows) i plus_zero) ≡ true
      go (yes h) =
          let r = get_or rows i no_row in
          let w = fine-score r.worth (fine-worth Unigram tab r (none-bad-says Unigram tab no_row 0 rows fine i h)) in
          ap is_finite (get_or-map-of (λ (r : Row). score_of r.worth) rows i no_row plus_zero h ∙ ap score_of w.1) ∙ w.2
      go (no h) =
          ap is_finite (get_or-eq_default (scores_of rows) plus_zero
          (omega (arith, length-map rows (λ (r : Row). score_of r.worth))))

  node-finite : (o : Option ℕ) → is_finite (node_score_of (scores_of rows) o) ≡ true
  unfolding node_score_of is_finite
  node-finite None = refl
  node-finite (Some i) = score-finite i

  -- sound, scores and unknown score finite
  pub rows-scored :
      Bytes tab → length rows ≤ max_rows → Doubles (scores_of rows)
      → sound_scored (unigram_trie tab rows) (unigram_scores tab rows) (unknown_score (scores_of rows)) ≡ true
  unfolding trie_in unigram_trie
  rows-scored bytes few doubles =
      let tokens = tokens_of tab rows in
      of-scored _ _ _
      (record {
        parts = rows-sound tab rows bytes Unigram few fine;
        level-score = length-scores tab rows ∙ sym (length-edge_at (first_row tokens) tokens);
        finite = λ k h. ap is_finite (score-at tab rows k (omega (arith, length-scores tab rows)))
            ∙ node-finite (first_row tokens (get_or (names tokens) k []));
        finite-unknown = is_true _ (unknown-finite (scores_of rows) (λ k h. (doubles k h, subst T (sym (score-finite k)) tt)));
      })

-- ---- after a build

module _ {A : Type 0} {kind : Kind} {tab : List ℕ} {rows : List Row} {judged : Option Reason} {short : Bool} {summary : A}
    {m : Memory} {answer : Result A Reason} {after : Memory}
    (p : Promised kind tab rows judged short summary m answer after) {s : A} (e : answer ≡ Ok s) {n : ℕ}
    (count : n ≡ nodes_of tab rows) where
  -- the lent columns, cut to the counts, are the trie of the rows
  pub built-parts : Bytes tab → parts_in n after ≡ trie_in kind tab rows
  built-parts bytes =
      ap (λ (x : Memory). parts_in n x) (built-left p e)
      ∙ ap (λ (k : ℕ). parts_in k (holding (trie_in kind tab rows) (scores_in kind tab rows) m)) count
      ∙ rows_cut tab rows bytes kind (scores_in kind tab rows) m

  -- and the lent score column its scores
  pub built-scores : kind ≡ Unigram → take n after.score ≡ unigram_scores tab rows
  unfolding holding scores_in
  built-scores k =
      ap (λ (x : Memory). take n x.score) (built-left p e
      ∙ ap (λ (y : Kind). holding (trie_in y tab rows) (scores_in y tab rows) m) k)
      ∙ take_at (unigram_scores tab rows) _ n (length-scores tab rows ∙ sym count)
