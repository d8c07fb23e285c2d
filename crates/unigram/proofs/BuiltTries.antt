-- What a reader may rely on after `build`: the lent columns, cut to the counts, are the trie of the rows with its scores; these
-- parts are sound and their scores finite, so `segment` never refuses them with 8; and looking a string up in them is looking
-- it up in the row list: its piece is the first row with that token, with that row's score. The cut is the trie since N nodes
-- have N places of each node column and N - 1 edges, and the rest of each column is behind them. Assumes nothing.
use Rattle.std.specs.Prelude.{Option, None, Some, Ok, Err, ℕ}
use mathlib.Core.Path.{◌≡◌, refl, sym, ap, ◌∙◌, subst}
use mathlib.Core.Bool.{true, false}
use mathlib.Core.List.{List, [], ◌∷◌, map}
use mathlib.Core.Logic.{◌↔◌, ⊎_elim}
use Prim.Native.Nat.{ℕ, zero, suc, ◌≤◌, ◌<◌}
use native.Mathlib.Omega.{arith}
use lib.Dec.{T}
use lib.Ieee.{Float, nan, binary64, fits}
use lib.ListN.{length, get_or, take, length-map}
use Rattle.doubles.specs.Double.{Double, plus_zero}
use Rattle.doubles.specs.Units.{units}
use Rattle.doubles.proofs.Floats.{units-is-double}
use Rattle.doubles.proofs.Largest.{is_double}
use Rattle.refusal.specs.declared.Fault.TheVariants as fault
use Rattle.refusal.proofs.Codings.{refused-exactly}
use Rattle.trie.specs.Trie.{Trie, walk, id_at, id_from, id_of}
use Rattle.trie.specs.Sound.{sound_scored}
use Rattle.rows.specs.declared.Kind.TheVariants.{Unigram}
use Rattle.rows.specs.Rows.{Row}
use Rattle.rows.specs.Columns.{Columns, rows_of, columns_fault}
use Rattle.rows.proofs.RowLists.{get_or-map-inside}
use Rattle.build.specs.Names.{same, later, place, names}
use Rattle.build.specs.Grown.{Bytes}
use Rattle.build.specs.Parts.{trie_of}
use Rattle.build.specs.Rules.{tokens_of, first_row, scores_of, node_score_of, unigram_trie, unigram_scores}
use Rattle.build.specs.Memory.{Memory}
use Rattle.build.specs.Checked.{nodes_of}
use Rattle.build.specs.Promise.{trie_in}
use Rattle.build.proofs.Strings.{same_refl}
use Rattle.build.proofs.Places.{either, found?, place-empty, place-hit, place-miss, place-below, place_at, place-nowhere}
use Rattle.build.proofs.Named.{grown-names}
use Rattle.build.proofs.Laid.{walk-built}
use Rattle.build.proofs.Lookups.{tokens-bytes, unigram-lookup}
use Rattle.build.proofs.Judging.{rows-fine, few-rows}
use Rattle.build.proofs.Promises as builds
use Rattle.build.proofs.BuiltTries.{parts_in, Doubles, score-at, rows-scored}
use Rattle.build.proofs.BuiltTries as left
use Rattle.scored.specs.declared.Summary.{Summary}
use Rattle.scored.specs.Build.{Report, report_of, told, Built}
use Rattle.scored.proofs.Builds.{scores-are}
use Rattle.cutting.specs.Cuttings.{Piece}
use Rattle.refusal.proofs.Lists.{zero_one, none-some, below_or}
use Rattle.unigram.specs.Pieces.{Model, piece_at, known}
use Rattle.unigram.specs.Segment.{Scratch, Lengths, lengths_of, segment_fault, sound_model, Segmented}
use Rattle.unigram.proofs.Refusing.{sound-fault}

-- what `segment` is given of a memory with n nodes: the parts, their scores, and the unknown piece
abbrev pub model_in : ℕ → Memory → Piece → Model
model_in n m unknown = record { trie = parts_in n m; score = take n m.score; unknown = unknown }

-- the piece that a row is: its index and its score
unfoldable pub row_piece : List Double → Option ℕ → Option Piece
row_piece scores None = None
row_piece scores (Some i) = Some (record { id = i; score = get_or scores i plus_zero })

pub lent-doubles : (xs : List Float) → ((k : ℕ) → k < length xs → T (fits binary64 (get_or xs k nan))) → Doubles (map units xs)
lent-doubles xs good k h =
    let inside : k < length xs = omega (arith, length-map xs units) in
    subst (λ (x : Double). T (is_double x)) (sym (get_or-map-inside units xs k nan plus_zero inside))
    (units-is-double (get_or xs k nan) (good k inside))

-- ---- the first row with a token

later-some : (o : Option ℕ) (i : ℕ) → later o ≡ Some i → (j : ℕ) × (o ≡ Some j) × (i ≡ suc j)
unfolding later
later-some None i e = none-some e
later-some (Some j) i e = (j, refl, cc)

place-earlier : (ts : List (List ℕ)) (s : List ℕ) (i k : ℕ) → place ts s ≡ Some i → k < i → get_or ts k [] ≡ s → ⊥
place-earlier [] s i k e h t = none-some (sym (place-empty s) ∙ e)
place-earlier (u ∷ ts) s i zero e h t =
    let z : Some 0 ≡ Some i = sym (place-hit u ts s (ap (same s) t ∙ same_refl s)) ∙ e in
    let y : 0 ≡ i = cc in
    omega arith
place-earlier (u ∷ ts) s i (suc k) e h t =
    ⊎_elim
    (λ (hit : same s u ≡ true).
    let z : Some 0 ≡ Some i = sym (place-hit u ts s hit) ∙ e in
    let y : 0 ≡ i = cc in
    omega arith)
    (λ (miss : same s u ≡ false).
    let w = later-some (place ts s) i (sym (place-miss u ts s miss) ∙ e) in
    place-earlier ts s w.0 k w.1 (omega (arith, w.2)) t)
    (either (same s u))

-- row i has the token s, and no row before it has
pub record IsFirst (tokens : List (List ℕ)) (s : List ℕ) (i : ℕ) : Type 0 where
  pub inside : i < length tokens
  pub token : get_or tokens i [] ≡ s
  pub earlier : (k : ℕ) → k < i → get_or tokens k [] ≡ s → ⊥

-- what a look-up of a non-empty string finds is the first row with that token, and only that
pub first-row-exactly :
    (tokens : List (List ℕ)) (b : ℕ) (s : List ℕ) (i : ℕ) → (first_row tokens (b ∷ s) ≡ Some i) ↔ IsFirst tokens (b ∷ s) i
unfolding first_row
first-row-exactly tokens b s i = (
  λ e.
      record {
        inside = place-below tokens (b ∷ s) i e;
        token = place_at tokens (b ∷ s) i e;
        earlier = λ k. place-earlier tokens (b ∷ s) i k e;
      },
  λ f.
      ⊎_elim (λ (e : place tokens (b ∷ s) ≡ None). absurd (place-nowhere tokens (b ∷ s) i e f.inside f.token))
      (λ (w : (j : ℕ) × (place tokens (b ∷ s) ≡ Some j)). w.1 ∙ ap (λ (k : ℕ). Some k) (only f w.0 w.1))
      (found? (place tokens (b ∷ s))),
)
  where
    only : IsFirst tokens (b ∷ s) i → (j : ℕ) → place tokens (b ∷ s) ≡ Some j → j ≡ i
    only f j e =
        ⊎_elim (λ (h : j < i). absurd (f.earlier j h (place_at tokens (b ∷ s) j e)))
        (λ (h : i ≤ j).
        ⊎_elim (λ (l : i < j). absurd (place-earlier tokens (b ∷ s) j i e l f.token)) (λ (l : j ≤ i). omega arith)
        (below_or i j))
        (below_or j i)

-- ---- the pieces of the trie of some rows

module _ (tab : List ℕ) (rows : List Row) (bytes : Bytes tab) (few : length rows ≤ 1_048_576) where
  abbrev tokens : List (List ℕ)
  tokens = tokens_of tab rows

  abbrev rule : List ℕ → Option ℕ
  rule = first_row tokens

  -- a string has in it the index of the first row with that token
  pub rows-lookup : (s : List ℕ) → id_of (unigram_trie tab rows) s ≡ first_row (tokens_of tab rows) s
  rows-lookup = unigram-lookup tab rows bytes (omega (arith, few))

  -- where its walk ends, its name stands
  node-named :
      (s : List ℕ) (k : ℕ) → walk (unigram_trie tab rows) 0 s ≡ Some k
      → (k < nodes_of tab rows) × (get_or (names tokens) k [] ≡ s)
  unfolding unigram_trie trie_of
  node-named s k w =
      let here : place (names tokens) s ≡ Some k =
      sym (walk-built rule (names tokens) (grown-names tokens (tokens-bytes tab rows bytes)) s) ∙ w
      in
      (place-below (names tokens) s k here, place_at (names tokens) s k here)

  -- and its piece is that row's
  module _ (unknown : Piece) (s : List ℕ) where
    abbrev model : Model
    model = record { trie = unigram_trie tab rows; score = unigram_scores tab rows; unknown = unknown }

    -- the rule, where the walk is known
    rule-is :
        {o : Option ℕ} → walk (unigram_trie tab rows) 0 s ≡ o
        → rule s ≡ elim o [ None ↦ None | Some k ↦ id_at (unigram_trie tab rows) k ]
    unfolding id_of id_from
    rule-is w = sym (rows-lookup s) ∙ ap (λ (o : Option ℕ). elim o [ None ↦ None | Some k ↦ id_at (unigram_trie tab rows) k ]) w

    pub rows-piece : known model s ≡ row_piece (scores_of rows) (first_row (tokens_of tab rows) s)
    unfolding known piece_at row_piece node_score_of
    rows-piece = by-walk (walk model.trie 0 s) refl
      where
        at-node :
            (k : ℕ) → walk model.trie 0 s ≡ Some k → (o : Option ℕ) → rule s ≡ o
            → elim o [ None ↦ None | Some i ↦ Some (record { id = i; score = get_or model.score k plus_zero }) ]
            ≡ row_piece (scores_of rows) o
        at-node k w None r = refl
        at-node k w (Some i) r =
            let n = node-named s k w in
            ap (λ (x : Double). Some (record { id = i; score = x }))
            (score-at tab rows k n.0 ∙ ap (λ (t : List ℕ). node_score_of (scores_of rows) (rule t)) n.1
            ∙ ap (node_score_of (scores_of rows)) r)

        by-walk : (o : Option ℕ) → walk model.trie 0 s ≡ o → known model s ≡ row_piece (scores_of rows) (rule s)
        by-walk None w =
            ap (λ (o : Option ℕ). elim o [ None ↦ None | Some k ↦ piece_at model k ]) w
            ∙ sym (ap (row_piece (scores_of rows)) (rule-is w))
        by-walk (Some k) w =
            ap (λ (o : Option ℕ). elim o [ None ↦ None | Some k ↦ piece_at model k ]) w
            ∙ at-node k w (id_at model.trie k) (rule-is w)
            ∙ sym (ap (row_piece (scores_of rows)) (rule-is w))

-- ---- sound parts are not refused with 8

pub sound-not-refused :
    (m : Model) → sound_model m ≡ true → (s : List ℕ) (n : Lengths) → segment_fault (sound_model m) s n ≡ Some fault.Trie → ⊥
sound-not-refused m sound s n e =
    let z : true ≡ false = sound-fault (sound_model m) s n sound e in
    zero_one cc

-- ---- after a build

module _ (tab : List ℕ) (c : Columns) (m after : Memory) (s : Summary) (bytes : Bytes tab)
    (b : Built tab c m (Ok s) after) where
  -- a list that was built has no fault
  pub built-fine : columns_fault Unigram tab c ≡ None
  unfolding told
  built-fine = builds.built-fine b refl

  -- what it says
  report : ◌≡◌ {A = Report} (record { nodes = s.nodes; unknown = units s.unknown_score }) (report_of tab (rows_of c))
  unfolding told
  report = builds.built-says b refl

  pub built-nodes : s.nodes ≡ nodes_of tab (rows_of c)
  built-nodes = ap (λ (r : Report). r.nodes) report

  few : length (rows_of c) ≤ 1_048_576
  few = few-rows Unigram tab c built-fine

  -- the lent columns, cut to the counts, are the trie of the rows, and the lent score column its scores
  pub built-parts : parts_in s.nodes after ≡ unigram_trie tab (rows_of c)
  unfolding told trie_in
  built-parts = left.built-parts b refl built-nodes bytes

  pub built-scores : take s.nodes after.score ≡ unigram_scores tab (rows_of c)
  unfolding told
  built-scores = left.built-scores b refl built-nodes refl

  -- for a reader who looks a string up: it has in what was built the index of the first row with that token, and none where no
  -- row has it.
  pub built-lookup : (t : List ℕ) → id_of (parts_in s.nodes after) t ≡ first_row (tokens_of tab (rows_of c)) t
  built-lookup t = ap (λ (x : Trie). id_of x t) built-parts ∙ rows-lookup tab (rows_of c) bytes few t

  -- and as a piece it has that row's score, so a repeated token keeps its first id and score
  pub built-piece :
      (unknown : Piece) (t : List ℕ)
      → known (model_in s.nodes after unknown) t ≡ row_piece c.score (first_row (tokens_of tab (rows_of c)) t)
  built-piece unknown t =
      (λ i. known (record { trie = built-parts i; score = built-scores i; unknown = unknown }) t)
      ∙ rows-piece tab (rows_of c) bytes few unknown t
      ∙ ap (λ (xs : List Double). row_piece xs (first_row (tokens_of tab (rows_of c)) t)) (scores-are tab c built-fine)

  module _ (doubles : Doubles c.score) where
    -- what is left is sound, and its scores and unknown score are finite: it passes the test that `segment` makes of lent parts
    pub built-sound : sound_scored (parts_in s.nodes after) (take s.nodes after.score) (units s.unknown_score) ≡ true
    built-sound =
        (λ i. sound_scored (built-parts i) (built-scores i) (ap (λ (r : Report). r.unknown) report i))
        ∙ rows-scored tab (rows_of c) (rows-fine Unigram tab c built-fine) bytes few
        (subst Doubles (sym (scores-are tab c built-fine)) doubles)

    -- so `segment` does not find 8 in it, whatever the unknown id, the text and the scratch
    module _ (unknown : ℕ) where
      abbrev pub parts : Model
      parts = model_in s.nodes after (record { id = unknown; score = units s.unknown_score })

      pub built-not-refused : (t : List ℕ) (n : Lengths) → segment_fault (sound_model parts) t n ≡ Some fault.Trie → ⊥
      built-not-refused = sound-not-refused parts built-sound

      -- and never answers so
      pub built-not-answered : (t : List ℕ) (scratch left : Scratch) → Segmented parts t scratch (Err fault.Trie) left → ⊥
      built-not-answered t scratch left p =
          built-not-refused t (lengths_of scratch) ((refused-exactly p.coded fault.Trie).0 refl)
