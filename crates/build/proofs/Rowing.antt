-- Rows entered one by one, wherever they are read from. After i rows the columns hold the nodes and ids of those, and what is
-- still to be entered is the rest. Assumes nothing.
use Rattle.std.specs.Prelude.{Option, None, Some}
use mathlib.Core.Path.{◌≡◌, refl, sym, ap, ◌∙◌}
use mathlib.Core.List.{List, [], ◌∷◌, ◌++◌, map}
use mathlib.Core.Logic.{inl, ⊎_elim}
use Prim.Native.Nat.{ℕ, suc, ◌+◌, ◌-◌, ◌*◌, ◌≤◌, ◌<◌}
use native.Mathlib.Omega.{arith}
use native.Mathlib.Numerals.{add-one}
use lib.ListN.{length, get_or, set, length-set}
use lib.Seq.{get_or-set_same, get_or-set_other}
use Rattle.refusal.proofs.Lists.{zero_one, none-some}
use Rattle.refusal.specs.Places.{zeroed}
use Rattle.refusal.specs.Sizes.{no_id, max_rows}
use Rattle.rows.specs.declared.Kind.{Kind}
use Rattle.rows.specs.declared.Kind.TheVariants.{Unigram, WordPiece}
use Rattle.text.specs.Span.{span_of}
use Rattle.rows.specs.Rows.{Row, token_of}
use Rattle.rows.specs.Columns.{row_at, rows_from, rows_of}
use Rattle.rows.specs.Answers.{columns}
use Rattle.build.specs.Names.{place, prefixes, enter, names}
use Rattle.build.specs.Grown.{root}
use Rattle.build.specs.Rules.{id_of_worth, tokens_of}
use Rattle.build.specs.Given.{given, value_of, kept, marked, rules_from, no_rule}
use Rattle.build.specs.Held.{ZeroFrom, Held, Roomy, Enterable, Stands, RowEntered}
use Rattle.build.proofs.Zeros.{zero-from, length-zeroed}
use Rattle.build.proofs.Strings.{snoc-nil, equal?}
use Rattle.build.proofs.Places.{place-empty, place_other, place-below, place_at}
use Rattle.build.proofs.Grown.{List², grown-root}
use Rattle.build.proofs.Named.{entered, entered-none, entered-one, entered-grows, names-are}
use Rattle.build.proofs.Entering.{Kept, roomy-kept, kept_on}
use Rattle.build.proofs.Ruled.{marked-hit, marked_other, marked_empty}

-- ---- the root alone

root-only : (s : List ℕ) (k : ℕ) → place ([] ∷ []) s ≡ Some k → (s ≡ []) × (k ≡ 0)
root-only s k e =
    let low : k < 1 = place-below ([] ∷ []) s k e in
    let zero-k : k ≡ 0 = omega arith in
    (sym (place_at ([] ∷ []) s k e) ∙ ap (λ (i : ℕ). get_or ([] ∷ []) i []) zero-k, zero-k)

root-bare : (s : List ℕ) (a : ℕ) → place ([] ∷ []) (s ++ (a ∷ [])) ≡ None
root-bare s a = place_other [] [] (s ++ (a ∷ [])) (λ q. snoc-nil s a q) ∙ place-empty (s ++ (a ∷ []))

pub held-root :
    (edge_n id work : List ℕ) → 1 ≤ length edge_n → 1 ≤ length id → 2 ≤ length work → ZeroFrom 0 edge_n → ZeroFrom 0 id
    → Held ([] ∷ []) no_rule edge_n (set id 0 no_id) (set work 0 0)
held-root edge_n id work he hi hw ze zi =
    record {
      links = record {
        grown = root;
        room = omega (arith, length-set work 0 0);
        first = λ s k e.
            let r = root-only s k e in
            inl (
              ap (λ (i : ℕ). get_or (set work 0 0) (2 * i) 0) r.1 ∙ get_or-set_same work 0 0 0 (omega arith),
              λ a p q. root-bare s a,
            );
        next = λ s b k e. none-some (sym (root-bare s b) ∙ e);
      };
      bytes = record { room = he; byte = λ s b k e f. none-some (sym (root-bare s b) ∙ e) };
      past = λ k p. ze k (omega arith);
      marks = record {
        room = omega (arith, length-set id 0 no_id);
        ids = λ s k e.
            let r = root-only s k e in
            ap (λ (i : ℕ). get_or (set id 0 no_id) i 0) r.1 ∙ get_or-set_same id 0 no_id 0 hi;
        within = λ s e. refl;
        past = λ k p. get_or-set_other id 0 k no_id 0 (λ z. omega arith) ∙ zi k (omega arith);
      };
    }

-- in columns made zero, where there is room for it
pub root-done :
    {room : ℕ} {edge_n id work edge_n₁ id₁ id' work' : List ℕ} → Roomy room edge_n id work → 1 ≤ room
    → edge_n₁ ≡ zeroed 0 edge_n → id₁ ≡ zeroed 0 id
    → id' ≡ set id₁ 0 no_id → work' ≡ set work 0 0 → Stands ([] ∷ []) no_rule room edge_n₁ id' work' 1
root-done {edge_n = edge_n} {id = id} {work = work} {edge_n₁ = edge_n₁} {id₁ = id₁} r h ze zi p q =
    record {
      fits = h;
      count = refl;
      held =
          rw (p, q)
          (held-root edge_n₁ id₁ work (omega (arith, length-zeroed edge_n edge_n₁ ze, r.nodes))
          (omega (arith, length-zeroed id id₁ zi, r.ids)) (omega (arith, r.links)) (zero-from edge_n edge_n₁ 0 ze)
          (zero-from id id₁ 0 zi));
    }

-- ---- after i of the rows, the rest being still to be entered: the columns keep their lengths

pub record Rowed (kind : Kind) (tab : List ℕ) (rows : List Row) (room : ℕ) (edge_n₀ id₀ work₀ : List ℕ)
    (rest : List Row) (i : ℕ) (edge_n id work : List ℕ) (n : ℕ) : Type 0 where
  pub nodes : List²
  pub rule : List ℕ → Option ℕ
  pub stands : Stands nodes rule room edge_n id work n
  pub lengths : Kept edge_n₀ id₀ work₀ edge_n id work
  pub low : kind ≡ Unigram → (s : List ℕ) (j : ℕ) → rule s ≡ Some j → j < i
  pub names-on : names (tokens_of tab rows) ≡ entered nodes (tokens_of tab rest)
  pub rules-on : rules_from kind tab no_rule 0 rows ≡ rules_from kind tab rule i rest

low-kept : (o : Option ℕ) (i j : ℕ) → ((k : ℕ) → o ≡ Some k → k < i) → kept Unigram o i ≡ Some j → j < i + 1
unfolding kept
low-kept None i j h e = let z : i ≡ j = cc in omega arith
low-kept (Some k) i j h e = let z : k ≡ j = cc in omega (arith, h k refl)

-- what a row's id makes of the bound
marked-low :
    (t : List ℕ) (i : ℕ) (rule : List ℕ → Option ℕ) → ((s : List ℕ) (j : ℕ) → rule s ≡ Some j → j < i)
    → (s : List ℕ) (j : ℕ) → marked Unigram t i rule s ≡ Some j → j < i + 1
marked-low t i rule h [] j e = omega (arith, h [] j (sym (marked_empty Unigram t i rule) ∙ e))
marked-low t i rule h (b ∷ s) j e =
    ⊎_elim (λ (q : b ∷ s ≡ t). low-kept (rule (b ∷ s)) i j (h (b ∷ s)) (sym (marked-hit Unigram t i rule b s q) ∙ e))
    (λ (q : b ∷ s ≡ t → ⊥). omega (arith, h (b ∷ s) j (sym (marked_other Unigram t i rule (b ∷ s) q) ∙ e)))
    (equal? (b ∷ s) t)

-- where the first row of a token gives its id, that is the row's index
value-first : (kind : Kind) (i own : ℕ) → kind ≡ Unigram → value_of kind i own ≡ i
value-first Unigram i own e = refl
value-first WordPiece i own e = absurd (zero_one cc)

-- where there is no room for the root, there is none for all nodes
pub bare-full :
    (tokens : List²) {room : ℕ} → room < 1 → room < length (names tokens)
bare-full tokens full = omega (arith, full, ap length (names-are tokens), entered-grows tokens ([] ∷ []))

-- all rows are entered
abbrev AllStand : Kind → List ℕ → List Row → ℕ → List ℕ → List ℕ → List ℕ → ℕ → Type 0
AllStand kind tab rows = Stands (names (tokens_of tab rows)) (rules_from kind tab no_rule 0 rows)

module _ {kind : Kind} {tab : List ℕ} {rows : List Row} {room : ℕ} where
  pub rowed-start :
      {edge_n id work : List ℕ} {rest : List Row} {n : ℕ} → Stands ([] ∷ []) no_rule room edge_n id work n → rows ≡ rest
      → Rowed kind tab rows room edge_n id work rest 0 edge_n id work n
  rowed-start all e =
      record {
        nodes = [] ∷ [];
        rule = no_rule;
        stands = all;
        lengths = record { nodes = refl; ids = refl; links = refl };
        low = λ e s j p. none-some p;
        names-on = names-are (tokens_of tab rows) ∙ ap (λ (x : List Row). entered ([] ∷ []) (tokens_of tab x)) e;
        rules-on = ap (rules_from kind tab no_rule 0) e;
      }

  module _ {edge_n₀ id₀ work₀ : List ℕ} {rest : List Row} {i : ℕ} {edge_n id work : List ℕ} {n : ℕ}
      (r : Rowed kind tab rows room edge_n₀ id₀ work₀ rest i edge_n id work n) where
    pub rowed-enterable : Roomy room edge_n₀ id₀ work₀ → Enterable edge_n id work room 0 n
    rowed-enterable roomy =
        record {
          names = r.nodes;
          rule = r.rule;
          string = [];
          held = r.stands.held;
          count = r.stands.count;
          here = grown-root r.stands.held.links.grown;
          roomy = roomy-kept r.lengths roomy;
          fits = r.stands.fits;
        }

    -- the next row is `row`, and what is left after it is `more`
    module _ {row : Row} {more : List Row} (next : rest ≡ row ∷ more) where
      abbrev token : List ℕ
      token = token_of tab row

      abbrev value : ℕ
      value = value_of kind i (id_of_worth row.worth)

      abbrev rule-then : List ℕ → Option ℕ
      rule-then = marked kind token value r.rule

      names-next : names (tokens_of tab rows) ≡ entered (enter r.nodes (prefixes [] token)) (tokens_of tab more)
      unfolding tokens_of
      names-next =
          r.names-on ∙ ap (λ (x : List Row). entered r.nodes (map (token_of tab) x)) next
          ∙ entered-one r.nodes token (map (token_of tab) more)

      rules-next : rules_from kind tab no_rule 0 rows ≡ rules_from kind tab rule-then (i + 1) more
      unfolding rules_from
      rules-next =
          r.rules-on ∙ ap (rules_from kind tab r.rule i) next
          ∙ ap (λ (k : ℕ). rules_from kind tab rule-then k more) (sym (add-one i))

      low-next : kind ≡ Unigram → (s : List ℕ) (j : ℕ) → rule-then s ≡ Some j → j < i + 1
      low-next e s j p =
          marked-low token i r.rule (r.low e) s j
          (sym (ap (λ (k : Kind). marked k token value r.rule s) e
          ∙ ap (λ (v : ℕ). marked Unigram token v r.rule s) (value-first kind i (id_of_worth row.worth) e)) ∙ p)

      module _ {edge_n' id' work' : List ℕ} (few : i < max_rows) where
        -- there was no room for it
        pub rowed-full :
            RowEntered edge_n id work edge_n' id' work' kind room n token value None
            → room < length (names (tokens_of tab rows))
        rowed-full one =
            let full : room < length (enter r.nodes (prefixes [] token)) =
            one.entered r.nodes r.rule r.stands.held r.stands.count (λ e s j p. omega (arith, r.low e s j p)) in
            omega (arith, full, ap length names-next, entered-grows (tokens_of tab more) (enter r.nodes (prefixes [] token)))

        pub rowed-turn :
            {n' : ℕ} → RowEntered edge_n id work edge_n' id' work' kind room n token value (Some n')
            → length edge_n' ≡ length edge_n → length id' ≡ length id → length work' ≡ length work
            → Rowed kind tab rows room edge_n₀ id₀ work₀ more (i + 1) edge_n' id' work' n'
        rowed-turn one ke ki kw =
            record {
              nodes = enter r.nodes (prefixes [] token);
              rule = rule-then;
              stands = one.entered r.nodes r.rule r.stands.held r.stands.count (λ e s j p. omega (arith, r.low e s j p));
              lengths = kept_on r.lengths ke ki kw;
              low = low-next;
              names-on = names-next;
              rules-on = rules-next;
            }

    pub rowed-end : rest ≡ [] → AllStand kind tab rows room edge_n id work n
    unfolding rules_from tokens_of
    rowed-end e =
        let all : names (tokens_of tab rows) ≡ r.nodes =
        r.names-on ∙ ap (λ (x : List Row). entered r.nodes (map (token_of tab) x)) e ∙ entered-none r.nodes in
        let rules : rules_from kind tab no_rule 0 rows ≡ r.rule = r.rules-on ∙ ap (rules_from kind tab r.rule i) e in
        rw (all, rules) r.stands

-- ---- the rest of the rows that are given as columns

abbrev pub rest_of : List ℕ → List ℕ → List ℕ → ℕ → List Row
rest_of off len ids i = rows_from (columns off len [] [] ids) i (length off - i)

pub rest_all : (off len ids : List ℕ) → given off len ids ≡ rest_of off len ids 0
unfolding rows_of
rest_all off len ids = ap (rows_from (columns off len [] [] ids) 0) (omega arith)

pub rest-next :
    (off len ids : List ℕ) (i : ℕ) → i < length off
    → rest_of off len ids i ≡ row_at (columns off len [] [] ids) i ∷ rest_of off len ids (i + 1)
unfolding rows_from
rest-next off len ids i h =
    let c = columns off len [] [] ids in
    let e : length off - i ≡ suc (length off - (i + 1)) = omega arith in
    ap (rows_from c i) e ∙ ap (λ (k : ℕ). row_at c i ∷ rows_from c k (length off - (i + 1))) (sym (add-one i))

pub rest-none : (off len ids : List ℕ) (i : ℕ) → i ≡ length off → rest_of off len ids i ≡ []
unfolding rows_from
rest-none off len ids i h = let e : length off - i ≡ 0 = omega arith in ap (rows_from (columns off len [] [] ids) i) e

-- row i, from its places
pub row-given :
    {edge_n id work edge_n' id' work' : List ℕ} {kind : Kind} {room n : ℕ} {answer : Option ℕ} (tab off len ids : List ℕ)
    (i : ℕ)
    → RowEntered edge_n id work edge_n' id' work' kind room n (span_of tab (get_or off i 0) (get_or len i 0))
    (value_of kind i (get_or ids i 0)) answer
    → let r = row_at (columns off len [] [] ids) i in
    RowEntered edge_n id work edge_n' id' work' kind room n (token_of tab r) (value_of kind i (id_of_worth r.worth)) answer
unfolding row_at id_of_worth
row-given tab off len ids i r = r
