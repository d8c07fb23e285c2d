-- Steps and walks. A walk is its first step and the walk after it, so walks compose, each law an induction on the string. In
-- sound parts every target is a node, so a step, and then a walk, from a node leads to a node. Neither looks at the ids.
-- Assumes nothing.
use Rattle.std.specs.Prelude.{Option, None, Some, option_and_then}
use mathlib.Core.Path.{◌≡◌, refl, sym, ap, ◌∙◌}
use mathlib.Core.Bool.{true}
use mathlib.Core.List.{List, [], ◌∷◌, ◌++◌}
use Prim.Native.Nat.{ℕ, zero, suc, ◌+◌, ◌≤◌, ◌<◌}
use native.Mathlib.Numerals.{add-one}
use native.Mathlib.Omega.{arith}
use borrow.Author.Tests.{eq-eqb, ne_eqb}
use lib.ListN.{length, get_or, drop, drop_of_length-le}
use lib.Seq.{drop-cons}
use Rattle.refusal.proofs.Lists.{none-some}
use Rattle.refusal.specs.Sizes.{no_id}
use Rattle.trie.specs.Trie.{Trie, parts_of, step, walk, id_at, id_from, id_of}
use Rattle.trie.specs.Sound.{rises, sound}
use Rattle.trie.specs.Walks.{Stands, marked}
use Rattle.trie.proofs.Seeking.{seek_found}
use Rattle.trie.proofs.SoundParts.{Sound, sound-of, of_rising}

-- ---- one step more

module _ (t : Trie) where
  pub walk-nil : (k : ℕ) → walk t k [] ≡ Some k
  unfolding walk
  walk-nil k = refl

  -- in front
  pub walk-cons : (k b : ℕ) (s : List ℕ) → walk t k (b ∷ s) ≡ option_and_then (λ j. walk t j s) (step t k b)
  unfolding walk
  walk-cons k b s = go (step t k b)
    where
      go : (o : Option ℕ) → elim o [ None ↦ None | Some j ↦ walk t j s ] ≡ option_and_then (λ j. walk t j s) o
      go None = refl
      go (Some j) = refl

  pub walk-stop : (k b : ℕ) (s : List ℕ) → step t k b ≡ None → walk t k (b ∷ s) ≡ None
  walk-stop k b s e = walk-cons k b s ∙ ap (λ (o : Option ℕ). option_and_then (λ j. walk t j s) o) e

  pub walk-to : (k b : ℕ) (s : List ℕ) {j : ℕ} → step t k b ≡ Some j → walk t k (b ∷ s) ≡ walk t j s
  walk-to k b s e = walk-cons k b s ∙ ap (λ (o : Option ℕ). option_and_then (λ j. walk t j s) o) e

  -- a walk over s and then over u
  pub walk-append : (k : ℕ) (s u : List ℕ) → walk t k (s ++ u) ≡ option_and_then (λ j. walk t j u) (walk t k s)
  unfolding walk
  walk-append k [] u = refl
  walk-append k (b ∷ s) u = go (step t k b) (λ j. walk-append j s u)
    where
      go :
          (o : Option ℕ) → ((j : ℕ) → walk t j (s ++ u) ≡ option_and_then (λ i. walk t i u) (walk t j s))
          → elim o [ None ↦ None | Some j ↦ walk t j (s ++ u) ]
          ≡ option_and_then (λ i. walk t i u) (elim o [ None ↦ None | Some j ↦ walk t j s ])
      go None all = refl
      go (Some j) all = all j

  pub walk-append-none : (k : ℕ) (s u : List ℕ) → walk t k s ≡ None → walk t k (s ++ u) ≡ None
  walk-append-none k s u e = walk-append k s u ∙ ap (λ (o : Option ℕ). option_and_then (λ j. walk t j u) o) e

  -- one byte alone, and one at the end
  pub walk-one : (k b : ℕ) → walk t k (b ∷ []) ≡ step t k b
  unfolding walk
  walk-one k b = go (step t k b)
    where
      go : (o : Option ℕ) → elim o [ None ↦ None | Some j ↦ Some j ] ≡ o
      go None = refl
      go (Some j) = refl

  pub walk-snoc : (k : ℕ) (s : List ℕ) (b : ℕ) → walk t k (s ++ (b ∷ [])) ≡ option_and_then (λ j. step t j b) (walk t k s)
  walk-snoc k s b = walk-append k s (b ∷ []) ∙ go (walk t k s)
    where
      go : (o : Option ℕ) → option_and_then (λ j. walk t j (b ∷ [])) o ≡ option_and_then (λ j. step t j b) o
      go None = refl
      go (Some j) = walk-one j b

  -- ---- the turns of a walk over s that has come to i

  module _ (s : List ℕ) (i : ℕ) where
    pub turn-stop : (k : ℕ) → i < length s → step t k (get_or s i 0) ≡ None → walk t k (drop i s) ≡ None
    turn-stop k l e = rw (drop-cons s i 0 l) (walk-stop k (get_or s i 0) (drop (suc i) s) e)

    pub turn-to :
        (k : ℕ) {j : ℕ} → i < length s → step t k (get_or s i 0) ≡ Some j → walk t k (drop i s) ≡ walk t j (drop (i + 1) s)
    turn-to k l e = rw (add-one, drop-cons s i 0 l) (walk-to k (get_or s i 0) (drop (suc i) s) e)

    pub turn_end : (k : ℕ) → length s ≤ i → walk t k (drop i s) ≡ Some k
    turn_end k l = rw (drop_of_length-le s l) (walk-nil k)

-- ---- ids

-- a place that is there has no default
pub get_or-inside : (xs : List ℕ) (k c d : ℕ) → k < length xs → get_or xs k c ≡ get_or xs k d
get_or-inside [] k c d l = absurd (omega arith)
get_or-inside (x ∷ xs) zero c d l = refl
get_or-inside (x ∷ xs) (suc k) c d l = get_or-inside xs k c d (omega arith)

module _ (t : Trie) (k : ℕ) where
  pub id-none : k < length t.id → get_or t.id k 0 ≡ no_id → id_at t k ≡ None
  unfolding id_at
  id-none l e = rw (eq-eqb (get_or t.id k no_id) no_id (get_or-inside t.id k no_id 0 l ∙ e))

  pub id-some : k < length t.id → (get_or t.id k 0 ≡ no_id → ⊥) → id_at t k ≡ Some (get_or t.id k 0)
  unfolding id_at
  id-some l e =
      rw (ne_eqb (get_or t.id k no_id) no_id (λ same. e (get_or-inside t.id k 0 no_id l ∙ same)))
      (ap Some (get_or-inside t.id k no_id 0 l))

  pub id-marked : k < length t.id → marked (get_or t.id k 0) ≡ id_at t k
  unfolding id_at
  id-marked l = ap marked (get_or-inside t.id k 0 no_id l)

  pub from-walk : (s : List ℕ) → id_from t k s ≡ option_and_then (id_at t) (walk t k s)
  unfolding id_from
  from-walk s = go (walk t k s)
    where
      go : (o : Option ℕ) → elim o [ None ↦ None | Some j ↦ id_at t j ] ≡ option_and_then (id_at t) o
      go None = refl
      go (Some j) = refl

  pub from-none : (s : List ℕ) → walk t k s ≡ None → id_from t k s ≡ None
  from-none s e = from-walk s ∙ ap (λ (o : Option ℕ). option_and_then (id_at t) o) e

  pub from_some : (s : List ℕ) {j : ℕ} → walk t k s ≡ Some j → id_from t k s ≡ id_at t j
  from_some s e = from-walk s ∙ ap (λ (o : Option ℕ). option_and_then (id_at t) o) e

-- the id of what a walk over s leads on to
pub from-append : (t : Trie) (k : ℕ) (s u : List ℕ) → id_from t k (s ++ u) ≡ option_and_then (λ j. id_from t j u) (walk t k s)
from-append t k s u =
    from-walk t k (s ++ u) ∙ ap (λ (o : Option ℕ). option_and_then (id_at t) o) (walk-append t k s u) ∙ go (walk t k s)
  where
    go :
        (o : Option ℕ)
        → option_and_then (id_at t) (option_and_then (λ j. walk t j u) o) ≡ option_and_then (λ j. id_from t j u) o
    go None = refl
    go (Some j) = sym (from-walk t j u)

-- the id of a string is that of the walk from the root
pub id-of : (t : Trie) (s : List ℕ) → id_of t s ≡ id_from t 0 s
unfolding id_of
id-of t s = refl

-- ---- steps and walks look at no ids

module _ (t : Trie) (ids : List ℕ) where
  abbrev with_ids : Trie
  with_ids = parts_of t.edge_at t.edge_n ids t.byte t.to

  pub step-any : (k b : ℕ) → step with_ids k b ≡ step t k b
  unfolding step
  step-any k b = refl

  pub walk-any : (k : ℕ) (s : List ℕ) → walk with_ids k s ≡ walk t k s
  walk-any k [] = walk-nil with_ids k ∙ sym (walk-nil t k)
  walk-any k (b ∷ s) =
      walk-cons with_ids k b s
      ∙ rw (step-any k b) (go (step t k b) (λ j. walk-any j s))
      ∙ sym (walk-cons t k b s)
    where
      go :
          (o : Option ℕ) → ((j : ℕ) → walk with_ids j s ≡ walk t j s)
          → option_and_then (λ j. walk with_ids j s) o ≡ option_and_then (λ j. walk t j s) o
      go None all = refl
      go (Some j) all = all j

-- nor does the id of a node look at the edges
pub id-any : (t u : Trie) (k : ℕ) → t.id ≡ u.id → id_at t k ≡ id_at u k
unfolding id_at
id-any t u k e = rw e

-- ---- in sound parts

module _ (t : Trie) (tested : sound t ≡ true) where
  pub step-inside : (k b : ℕ) {j : ℕ} → k < length t.edge_at → step t k b ≡ Some j → j < length t.edge_at
  unfolding step
  step-inside k b l e =
      let facts : Sound t = sound-of t tested in
      let h = seek_found t.byte t.to b (get_or t.edge_n k 0) (get_or t.edge_at k 0) e in
      omega (arith, h.target, facts.target h.edge (omega (arith, facts.inside k l, h.below)))

  pub walk_inside : (k : ℕ) (s : List ℕ) {j : ℕ} → k < length t.edge_at → walk t k s ≡ Some j → j < length t.edge_at
  unfolding walk
  walk_inside k [] {j} l e = let same : k ≡ j = cc in omega arith
  walk_inside k (b ∷ s) {j} l e = go (step t k b) (λ i p. step-inside k b l p) (λ i p. walk_inside i s p) e
    where
      go :
          (o : Option ℕ) → ((i : ℕ) → o ≡ Some i → i < length t.edge_at)
          → ((i : ℕ) → i < length t.edge_at → walk t i s ≡ Some j → j < length t.edge_at)
          → elim o [ None ↦ None | Some i ↦ walk t i s ] ≡ Some j → j < length t.edge_at
      go None p q h = none-some h
      go (Some i) p q h = q i (p i refl) h

  pub root_stands : Stands t 0
  root_stands = record { ids = t.id; parts = tested; inside = (sound-of t tested).some-node }

  pub id_there : (s : List ℕ) {j : ℕ} → walk t 0 s ≡ Some j → j < length t.id
  id_there s e =
      let facts = sound-of t tested in
      omega (arith, facts.level-id, walk_inside 0 s facts.some-node e)

-- what a step asks of the edges of its node
pub record Edges (t : Trie) (k : ℕ) : Type 0 where
  pub counted : k < length t.edge_n
  pub inside : get_or t.edge_at k 0 + get_or t.edge_n k 0 ≤ length t.byte
  pub inside-to : get_or t.edge_at k 0 + get_or t.edge_n k 0 ≤ length t.to
  pub rising : rises t.byte (get_or t.edge_at k 0) (get_or t.edge_n k 0) ≡ true

module _ (t : Trie) (k : ℕ) (s : Stands t k) where
  pub edges_stand : Edges t k
  edges_stand =
      let facts = sound-of _ s.parts in
      let inside = facts.inside k s.inside in
      record {
        counted = omega (arith, s.inside, facts.level-n);
        inside = inside;
        inside-to = omega (arith, inside, facts.level-to);
        rising = of_rising t.byte _ _ (λ i. facts.rising k i s.inside);
      }

  -- and leads to
  pub step-stands : (b : ℕ) {j : ℕ} → step t k b ≡ Some j → Stands t j
  step-stands b e =
      let stepped = step-any t s.ids k b ∙ e in
      record { ids = s.ids; parts = s.parts; inside = step-inside (with_ids t s.ids) s.parts k b s.inside stepped }
