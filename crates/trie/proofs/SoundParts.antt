-- The facts that the test `sound` stands for, `Sound`: the two say the same. Each conjunct of the test is a field: a number's
-- test is the fact on numbers, a test of every node or edge the fact of each. Assumes nothing.
use mathlib.Core.Path.{◌≡◌, refl, sym, ap, ◌∙◌}
use mathlib.Core.Bool.{Bool, true, false}
use mathlib.Core.List.{List, [], ◌∷◌, map}
use Prim.Native.Nat.{ℕ, zero, suc, ◌+◌, ◌-◌, ◌≤◌, ◌<◌}
use native.Mathlib.Omega.{arith}
use borrow.Author.Tests.{ltb-true, lt-ltb}
use lib.Dec.{ltb}
use lib.Ieee.{Float}
use lib.ListN.{length, get_or, drop, length-map, length-take, length-drop}
use Rattle.std.proofs.lemmas.Bool.Decides.{nat_tests}
use Rattle.std.proofs.lemmas.List.{get_or-take, get_or-drop}
use Rattle.std.specs.Bool.{MatchBool}
use Rattle.refusal.proofs.Lists.{map-inside, true-false}
use Rattle.std.specs.Prelude.{slice_range}
use Rattle.std.specs.List.{IsAllAdjacentAnswer}
use Rattle.doubles.specs.Units.{units}
use Rattle.doubles.specs.Double.{Double, plus_zero, is_finite}
use Rattle.trie.specs.Trie.{Trie}
use Rattle.trie.specs.Sound.{every, rises, sound_edges, sound_node, sound, all_finite, sound_scored}
use Rattle.trie.proofs.Every.{both, first, second, every-all, all-every, every-fails}

-- ---- the edges of one node

-- the n edges from `at` on are sound
pub record NodeEdges (bytes : List ℕ) (at n : ℕ) : Type 0 where
  pub inside : at + n ≤ length bytes
  pub at_most : n ≤ 256
  pub rising : (i : ℕ) → suc i < n → get_or bytes (at + i) 0 < get_or bytes (at + suc i) 0

module _ (bytes : List ℕ) (at n : ℕ) where
  rise : ℕ → Bool
  rise i = ltb (get_or bytes (at + i) 0) (get_or bytes (at + suc i) 0)

  pub rising-of : rises bytes at n ≡ true → (i : ℕ) → suc i < n → get_or bytes (at + i) 0 < get_or bytes (at + suc i) 0
  unfolding rise
  rising-of h i l = ltb-true (get_or bytes (at + i) 0) (get_or bytes (at + suc i) 0) (every-all rise (n - 1) h i (omega arith))

  pub of_rising : ((i : ℕ) → suc i < n → get_or bytes (at + i) 0 < get_or bytes (at + suc i) 0) → rises bytes at n ≡ true
  unfolding rise
  of_rising r =
      all-every rise (n - 1) (λ i l. lt-ltb (get_or bytes (at + i) 0) (get_or bytes (at + suc i) 0) (r i (omega arith)))

  pub edges-of : sound_edges bytes at n ≡ true → NodeEdges bytes at n
  edges-of h =
      let rise : rises bytes at n ≡ true = grind (arith, nat_tests) in
      record { inside = grind (arith, nat_tests); at_most = grind (arith, nat_tests); rising = rising-of rise }

  pub of-edges : NodeEdges bytes at n → sound_edges bytes at n ≡ true
  of-edges e = let rise = of_rising e.rising in grind (arith, nat_tests, rise, e)

  -- what a test of each byte and the next tells
  module _ (inside : at + n ≤ length bytes) where
    here : List ℕ
    here = slice_range bytes at (at + n)

    here_long : length here ≡ n
    unfolding here
    here_long = simp (length-take, length-drop) (omega arith)

    here_rise : (i : ℕ) → i + 1 < n → rise i ≡ ltb (get_or here i 0) (get_or here (i + 1) 0)
    unfolding rise here
    here_rise i l =
        let m : i < at + n - at = omega arith in
        let m' : i + 1 < at + n - at = omega arith in
        let next : at + (i + 1) ≡ at + suc i = omega arith in
        let read = get_or-take (at + n - at) (drop at bytes) i 0 m in
        let read' = get_or-take (at + n - at) (drop at bytes) (i + 1) 0 m' in
        simp (read, read', get_or-drop, next)

    pub rises-told :
        (r : Bool) → IsAllAdjacentAnswer (λ x y b. b ≡ ltb x y) (slice_range bytes at (at + n)) r → r ≡ rises bytes at n
    unfolding rise here
    rises-told true h = sym (all-every rise (n - 1) (λ i l. here_rise i (omega arith) ∙ sym (h i 0 (omega (arith, here_long)))))
    rises-told false (k, l, h) =
        let m : k + 1 < n = omega (arith, here_long) in
        sym (every-fails rise (n - 1) k (omega arith) (here_rise k m ∙ sym (h 0)))

-- ---- all parts

-- what is asked of both kinds, as facts
pub record Sound (t : Trie) : Type 0 where
  pub some-node : 1 ≤ length t.edge_at
  pub few : length t.edge_at ≤ 4_294_967_295
  pub level-n : length t.edge_n ≡ length t.edge_at
  pub level-id : length t.id ≡ length t.edge_at
  pub level-to : length t.to ≡ length t.byte
  pub inside : (k : ℕ) → k < length t.edge_at → get_or t.edge_at k 0 + get_or t.edge_n k 0 ≤ length t.byte
  pub at_most : (k : ℕ) → k < length t.edge_at → get_or t.edge_n k 0 ≤ 256
  pub rising :
      (k i : ℕ) → k < length t.edge_at → suc i < get_or t.edge_n k 0
      → get_or t.byte (get_or t.edge_at k 0 + i) 0 < get_or t.byte (get_or t.edge_at k 0 + suc i) 0
  pub target : (e : ℕ) → e < length t.byte → get_or t.to e 0 < length t.edge_at

module _ (t : Trie) where
  inside-nodes : ℕ → Bool
  inside-nodes e = ltb (get_or t.to e 0) (length t.edge_at)

  pub sound-of : sound t ≡ true → Sound t
  unfolding sound sound_node inside-nodes
  sound-of h =
      let nodes : every (length t.edge_at) (sound_node t) ≡ true = grind (arith, nat_tests) in
      let targets : every (length t.byte) inside-nodes ≡ true = grind (arith, nat_tests) in
      let edges : (k : ℕ) → k < length t.edge_at → NodeEdges t.byte (get_or t.edge_at k 0) (get_or t.edge_n k 0) =
      λ k m. edges-of t.byte _ _ (every-all (sound_node t) (length t.edge_at) nodes k m)
      in
      record {
        some-node = grind (arith, nat_tests);
        few = grind (arith, nat_tests);
        level-n = grind (arith, nat_tests);
        level-id = grind (arith, nat_tests);
        level-to = grind (arith, nat_tests);
        inside = λ k m. (edges k m).inside;
        at_most = λ k m. (edges k m).at_most;
        rising = λ k i m. (edges k m).rising i;
        target = λ e m. ltb-true _ _ (every-all inside-nodes (length t.byte) targets e m);
      }

  pub of-sound : Sound t → sound t ≡ true
  unfolding sound sound_node inside-nodes
  of-sound s =
      let nodes =
      all-every (sound_node t) (length t.edge_at)
      (λ k m.
      of-edges t.byte (get_or t.edge_at k 0) (get_or t.edge_n k 0)
      (record { inside = s.inside k m; at_most = s.at_most k m; rising = λ i. s.rising k i m }))
      in
      let targets = all-every inside-nodes (length t.byte) (λ e m. lt-ltb _ _ (s.target e m)) in
      grind (arith, nat_tests, nodes, targets, s)

  -- the tests of the lengths in their order
  pub sound_empty : length t.edge_at ≡ 0 → sound t ≡ false
  unfolding sound
  sound_empty h = grind (arith, nat_tests)

  module _ (some-node : 1 ≤ length t.edge_at) where
    pub sound-many : 4_294_967_295 < length t.edge_at → sound t ≡ false
    unfolding sound
    sound-many h = grind (arith, nat_tests)

    module _ (few : length t.edge_at ≤ 4_294_967_295) where
      pub sound-uneven-n : (length t.edge_n ≡ length t.edge_at → ⊥) → sound t ≡ false
      unfolding sound
      sound-uneven-n h = grind (arith, nat_tests)

      module _ (level-n : length t.edge_n ≡ length t.edge_at) where
        pub sound-uneven-id : (length t.id ≡ length t.edge_at → ⊥) → sound t ≡ false
        unfolding sound
        sound-uneven-id h = grind (arith, nat_tests)

        pub sound-uneven-to : length t.id ≡ length t.edge_at → (length t.to ≡ length t.byte → ⊥) → sound t ≡ false
        unfolding sound
        sound-uneven-to level-id h = grind (arith, nat_tests)

-- ---- scores

-- and of a Unigram trie
pub record SoundScored (t : Trie) (scores : List Double) (unknown : Double) : Type 0 where
  pub parts : sound t ≡ true
  pub level-score : length scores ≡ length t.edge_at
  pub finite : (k : ℕ) → k < length scores → is_finite (get_or scores k plus_zero) ≡ true
  pub finite-unknown : is_finite unknown ≡ true

pub finite-all : (xs : List Double) → all_finite xs ≡ true → (k : ℕ) → k < length xs → is_finite (get_or xs k plus_zero) ≡ true
unfolding all_finite
finite-all [] h k l = absurd (omega arith)
finite-all (x ∷ xs) h zero l = first (is_finite x) (all_finite xs) h
finite-all (x ∷ xs) h (suc k) l = finite-all xs (second (is_finite x) (all_finite xs) h) k (omega arith)

pub all-finite :
    (xs : List Double) → ((k : ℕ) → k < length xs → is_finite (get_or xs k plus_zero) ≡ true) → all_finite xs ≡ true
unfolding all_finite
all-finite [] all = refl
all-finite (x ∷ xs) all = both (all 0 (omega arith)) (all-finite xs (λ k l. all (suc k) (omega arith)))

-- what a test of each tells
module _ (xs : List Float) (d : Float) where
  score_at : (k : ℕ) → k < length xs → is_finite (get_or (map units xs) k plus_zero) ≡ is_finite (units (get_or xs k d))
  score_at k l = ap is_finite (map-inside units xs k d plus_zero l)

  pub finite-told :
      (r : Bool)
      → MatchBool r ((k : ℕ) → k < length xs → is_finite (units (get_or xs k d)) ≡ true)
      ((k : ℕ) × (k < length xs) × (is_finite (units (get_or xs k d)) ≡ false))
      → r ≡ all_finite (map units xs)
  finite-told true all =
      sym (all-finite (map units xs) (λ k l. let m : k < length xs = rw length-map at l in score_at k m ∙ all k m))
  finite-told false (k, l, h) = go (all_finite (map units xs)) refl
    where
      go : (b : Bool) → all_finite (map units xs) ≡ b → false ≡ b
      go false e = refl
      go true e =
          let m : k < length (map units xs) = rw length-map l in
          absurd (true-false (finite-all (map units xs) e k m) (score_at k l ∙ h))

module _ (t : Trie) (scores : List Double) (unknown : Double) where
  pub scored-of : sound_scored t scores unknown ≡ true → SoundScored t scores unknown
  unfolding sound_scored
  scored-of h =
      let finite : all_finite scores ≡ true = grind (arith, nat_tests) in
      record {
        parts = grind (arith, nat_tests);
        level-score = grind (arith, nat_tests);
        finite = finite-all scores finite;
        finite-unknown = grind (arith, nat_tests);
      }

  pub of-scored : SoundScored t scores unknown → sound_scored t scores unknown ≡ true
  unfolding sound_scored
  of-scored s = let finite = all-finite scores s.finite in grind (arith, nat_tests, finite, s)

  pub scored-uneven : is_finite unknown ≡ true → (length scores ≡ length t.edge_at → ⊥) → sound_scored t scores unknown ≡ false
  unfolding sound_scored
  scored-uneven finite h = grind (arith, nat_tests)
