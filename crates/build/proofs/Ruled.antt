-- Which row's id a string has: the first of its rows, or the last, as rows are entered one by one. Assumes nothing.
use Rattle.std.specs.Prelude.{Option, None, Some}
use mathlib.Core.Path.{◌≡◌, refl, sym, ap, ◌∙◌, fun_ext}
use mathlib.Core.Bool.{Bool, true, false, cond}
use mathlib.Core.List.{List, [], ◌∷◌, map}
use mathlib.Core.Logic.{⊎_elim}
use Prim.Native.Nat.{ℕ, suc, ◌+◌}
use native.Mathlib.Omega.{arith}
use Rattle.rows.specs.declared.Kind.{Kind}
use Rattle.rows.specs.declared.Kind.TheVariants.{Unigram, WordPiece}
use Rattle.rows.specs.Rows.{Row, token_of}
use Rattle.build.specs.Names.{same, later, place}
use Rattle.build.specs.Parts.{trie_of}
use Rattle.build.specs.Rules.{first_row, id_of_worth, tokens_of, unigram_trie, last_of, last_id, wordpiece_trie}
use Rattle.build.specs.Given.{value_of, kept, marked, rules_from, no_rule}
use Rattle.build.specs.Promise.{trie_in}
use Rattle.build.proofs.Strings.{same_refl, same-eq, same-ne, same_false}
use Rattle.build.proofs.Places.{either, place-hit, place-miss, place-empty}
use Rattle.build.proofs.Grown.{List²}

-- ---- one row more

-- ---- `marked`

pub marked-nil : (kind : Kind) (v : ℕ) (rule : List ℕ → Option ℕ) (s : List ℕ) → marked kind [] v rule s ≡ rule s
unfolding marked
marked-nil kind v rule s = refl

pub marked-self :
    (kind : Kind) (b : ℕ) (t : List ℕ) (v : ℕ) (rule : List ℕ → Option ℕ)
    → marked kind (b ∷ t) v rule (b ∷ t) ≡ kept kind (rule (b ∷ t)) v
unfolding marked
marked-self kind b t v rule = rw (same_refl (b ∷ t))

pub marked_other :
    (kind : Kind) (t : List ℕ) (v : ℕ) (rule : List ℕ → Option ℕ) (s : List ℕ) → (s ≡ t → ⊥) → marked kind t v rule s ≡ rule s
unfolding marked
marked_other kind [] v rule s h = refl
marked_other kind (b ∷ t) v rule s h = rw (same-ne s (b ∷ t) h)

-- ---- all rows

-- the first id stays; where there is none, it is the first row's, counted from i
unfoldable pub or_first : Option ℕ → ℕ → Option ℕ → Option ℕ
or_first (Some j) i o = Some j
or_first None i None = None
or_first None i (Some k) = Some (i + k)

first_step : (o : Option ℕ) (i : ℕ) (p : Option ℕ) → or_first o (suc i) p ≡ or_first o i (later p)
unfolding or_first later
first_step None i None = refl
first_step None i (Some k) = ap Some (omega arith)
first_step (Some j) i p = refl

first-here : (o : Option ℕ) (i : ℕ) (p : Option ℕ) → or_first (kept Unigram o i) (suc i) p ≡ or_first o i (Some 0)
unfolding or_first kept
first-here None i p = ap Some (omega arith)
first-here (Some j) i p = refl

first-none : (o : Option ℕ) (i : ℕ) → or_first o i None ≡ o
unfolding or_first
first-none None i = refl
first-none (Some j) i = refl

first-from-zero : (o : Option ℕ) → or_first None 0 o ≡ o
unfolding or_first
first-from-zero None = refl
first-from-zero (Some k) = ap Some (omega arith)

-- what row i makes of a string that it spells, and of any other
pub marked-hit :
    (kind : Kind) (t : List ℕ) (v : ℕ) (rule : List ℕ → Option ℕ) (b : ℕ) (s : List ℕ) → (b ∷ s) ≡ t
    → marked kind t v rule (b ∷ s) ≡ kept kind (rule (b ∷ s)) v
marked-hit kind t v rule b s q =
    ap (λ (x : List ℕ). marked kind x v rule (b ∷ s)) (sym q) ∙ marked-self kind b s v rule

rules-first :
    (tab : List ℕ) (rs : List Row) (rule : List ℕ → Option ℕ) (i b : ℕ) (s : List ℕ)
    → rules_from Unigram tab rule i rs (b ∷ s) ≡ or_first (rule (b ∷ s)) i (place (map (token_of tab) rs) (b ∷ s))
unfolding rules_from
rules-first tab [] rule i b s = sym (ap (or_first (rule (b ∷ s)) i) (place-empty (b ∷ s)) ∙ first-none (rule (b ∷ s)) i)
rules-first tab (r ∷ rs) rule i b s =
    let t = token_of tab r in
    let ts = map (token_of tab) rs in
    let rule' = marked Unigram t i rule in
    rules-first tab rs rule' (suc i) b s
    ∙ ⊎_elim
    (λ (e : same (b ∷ s) t ≡ true).
    ap (λ (o : Option ℕ). or_first o (suc i) (place ts (b ∷ s)))
    (marked-hit Unigram t i rule b s (same-eq (b ∷ s) t e))
    ∙ first-here (rule (b ∷ s)) i (place ts (b ∷ s)) ∙ ap (or_first (rule (b ∷ s)) i) (sym (place-hit t ts (b ∷ s) e)))
    (λ (e : same (b ∷ s) t ≡ false).
    ap (λ (o : Option ℕ). or_first o (suc i) (place ts (b ∷ s)))
    (marked_other Unigram t i rule (b ∷ s) (same_false (b ∷ s) t e))
    ∙ first_step (rule (b ∷ s)) i (place ts (b ∷ s)) ∙ ap (or_first (rule (b ∷ s)) i) (sym (place-miss t ts (b ∷ s) e)))
    (either (same (b ∷ s) t))

-- the last of the rows that has the string gives its id; where none has, it stays
unfoldable pub or_last : Option ℕ → Option ℕ → Option ℕ
or_last (Some j) o = Some j
or_last None o = o

last_step :
    (o p : Option ℕ) (v : ℕ) (t : Bool)
    → or_last o (cond t (kept WordPiece p v) p) ≡ or_last (elim o [ Some j ↦ Some j | None ↦ cond t (Some v) None ]) p
unfolding or_last kept
last_step (Some j) p v t = refl
last_step None None v true = refl
last_step None (Some i) v true = refl
last_step None p v false = refl

last_none : (o : Option ℕ) → or_last o None ≡ o
unfolding or_last
last_none None = refl
last_none (Some j) = refl

rules-last :
    (tab : List ℕ) (rs : List Row) (rule : List ℕ → Option ℕ) (i b : ℕ) (s : List ℕ)
    → rules_from WordPiece tab rule i rs (b ∷ s) ≡ or_last (last_of tab rs (b ∷ s)) (rule (b ∷ s))
unfolding rules_from last_of or_last
rules-last tab [] rule i b s = refl
rules-last tab (r ∷ rs) rule i b s =
    let t = token_of tab r in
    let rule' = marked WordPiece t (id_of_worth r.worth) rule in
    rules-last tab rs rule' (suc i) b s ∙ ap (or_last (last_of tab rs (b ∷ s))) (here t)
    ∙ last_step (last_of tab rs (b ∷ s)) (rule (b ∷ s)) (id_of_worth r.worth) (same (b ∷ s) t)
  where
    here :
        (t : List ℕ)
        → marked WordPiece t (id_of_worth r.worth) rule (b ∷ s)
        ≡ cond (same (b ∷ s) t) (kept WordPiece (rule (b ∷ s)) (id_of_worth r.worth)) (rule (b ∷ s))
    here t =
        ⊎_elim
        (λ (e : same (b ∷ s) t ≡ true).
        marked-hit WordPiece t (id_of_worth r.worth) rule b s (same-eq (b ∷ s) t e)
        ∙ ap (λ (x : Bool). cond x (kept WordPiece (rule (b ∷ s)) (id_of_worth r.worth)) (rule (b ∷ s))) (sym e))
        (λ (e : same (b ∷ s) t ≡ false).
        marked_other WordPiece t (id_of_worth r.worth) rule (b ∷ s) (same_false (b ∷ s) t e)
        ∙ ap (λ (x : Bool). cond x (kept WordPiece (rule (b ∷ s)) (id_of_worth r.worth)) (rule (b ∷ s))) (sym e))
        (either (same (b ∷ s) t))

-- no row gives the empty string an id
pub marked_empty : (kind : Kind) (t : List ℕ) (v : ℕ) (rule : List ℕ → Option ℕ) → marked kind t v rule [] ≡ rule []
unfolding marked same
marked_empty kind [] v rule = refl
marked_empty kind (b ∷ t) v rule = refl

rules-empty :
    (kind : Kind) (tab : List ℕ) (rs : List Row) (rule : List ℕ → Option ℕ) (i : ℕ) → rules_from kind tab rule i rs [] ≡ rule []
unfolding rules_from
rules-empty kind tab [] rule i = refl
rules-empty kind tab (r ∷ rs) rule i =
    rules-empty kind tab rs (marked kind (token_of tab r) (value_of kind i (id_of_worth r.worth)) rule) (suc i)
    ∙ marked_empty kind (token_of tab r) (value_of kind i (id_of_worth r.worth)) rule

pub rule-first :
    (tab : List ℕ) (rows : List Row) (s : List ℕ) → rules_from Unigram tab no_rule 0 rows s ≡ first_row (tokens_of tab rows) s
unfolding first_row tokens_of
rule-first tab rows [] = rules-empty Unigram tab rows no_rule 0
rule-first tab rows (b ∷ s) = rules-first tab rows no_rule 0 b s ∙ first-from-zero (place (map (token_of tab) rows) (b ∷ s))

pub rule-last : (tab : List ℕ) (rows : List Row) (s : List ℕ) → rules_from WordPiece tab no_rule 0 rows s ≡ last_id tab rows s
unfolding last_id
rule-last tab rows [] = rules-empty WordPiece tab rows no_rule 0
rule-last tab rows (b ∷ s) = rules-last tab rows no_rule 0 b s ∙ last_none (last_of tab rows (b ∷ s))

-- ---- the trie of the rows

lay-same :
    (rule rule' : List ℕ → Option ℕ) (tokens : List²) → ((s : List ℕ) → rule s ≡ rule' s)
    → trie_of rule tokens ≡ trie_of rule' tokens
lay-same rule rule' tokens h = ap (λ (f : List ℕ → Option ℕ). trie_of f tokens) (fun_ext h)

pub trie-given :
    (kind : Kind) (tab : List ℕ) (rows : List Row)
    → trie_of (rules_from kind tab no_rule 0 rows) (tokens_of tab rows) ≡ trie_in kind tab rows
unfolding trie_in unigram_trie wordpiece_trie
trie-given Unigram tab rows =
    lay-same (rules_from Unigram tab no_rule 0 rows) (first_row (tokens_of tab rows)) (tokens_of tab rows) (rule-first tab rows)
trie-given WordPiece tab rows =
    lay-same (rules_from WordPiece tab no_rule 0 rows) (last_id tab rows) (tokens_of tab rows) (rule-last tab rows)
