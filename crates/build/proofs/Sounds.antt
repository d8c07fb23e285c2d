-- A built trie is sound: its columns are level, each node's edges stand inside, at most 256 and by rising byte, and each leads
-- to a node. Assumes nothing.
use Rattle.std.specs.Prelude.{unwrap_or, Option}
use mathlib.Core.Path.{◌≡◌, refl, sym, ap, ◌∙◌, subst}
use mathlib.Core.Bool.{Bool, true, false, ◌&&◌}
use mathlib.Core.List.{List, [], ◌∷◌, ◌++◌, map, flatten}
use Prim.Native.Nat.{ℕ, zero, suc, ◌+◌, ◌-◌, ◌≤◌, ◌<◌}
use native.Mathlib.Omega.{arith}
use native.Mathlib.Decide.{dec_lt}
use borrow.Author.Tests.{le-leb, lt-ltb, eq-eqb}
use lib.Dec.{leb, ltb}
use lib.ListN.{length, get_or, drop, length-append, length-map, get_or-append}
use lib.Seq.{get_or-append-add}
use Rattle.refusal.specs.Sizes.{no_id}
use Rattle.trie.specs.Sound.{every, sound_node, sound}
use Rattle.build.specs.Names.{names}
use Rattle.build.specs.Grown.{Grown}
use Rattle.build.specs.Parts.{Edge, edges_of, starts, lay, trie_of}
use Rattle.build.proofs.Grown.{List², grown-some}
use Rattle.build.proofs.Named.{AllBytes, grown-names}
use Rattle.build.proofs.Edges.{Rising, end, next, rising-edges, edges_few}
use Rattle.build.proofs.Counted.{count-names}
use Rattle.build.proofs.Laid.{get_or-map-of, drop_head, map-head, length-starts, laid-at}

both : (a b : Bool) → a ≡ true → b ≡ true → (a && b) ≡ true
both true b p q = q
both false b p q = p

every_true : (n : ℕ) (test : ℕ → Bool) → ((k : ℕ) → k < n → test k ≡ true) → every n test ≡ true
unfolding every
every_true zero test h = refl
every_true (suc n) test h = both (every n test) (test n) (every_true n test (λ k l. h k (omega arith))) (h n (omega arith))

abbrev no_edge : Edge
no_edge = record { byte = 0; to = 0 }

-- ---- a node's edges

rising_step :
    {n b : ℕ} {es : List Edge} → Rising n b es → (i : ℕ) → suc i < length es
    → (get_or es i no_edge).byte < (get_or es (suc i) no_edge).byte
rising_step end i h = absurd (omega arith)
rising_step (next e p q end) zero h = absurd (omega arith)
rising_step (next e p q (next f r s t)) zero h = r
rising_step (next e p q r) (suc i) h = rising_step r i (omega arith)

rising-to : {n b : ℕ} {es : List Edge} → Rising n b es → (i : ℕ) → i < length es → (get_or es i no_edge).to < n
rising-to end i h = absurd (omega arith)
rising-to (next e p q r) zero h = q
rising-to (next e p q r) (suc i) h = rising-to r i (omega arith)

-- the i-th of the edges that stand at `at`
edge-at :
    (f : Edge → ℕ) (es l post : List Edge) (at i : ℕ) → drop at l ≡ es ++ post → i < length es
    → get_or (map f l) (at + i) 0 ≡ f (get_or es i no_edge)
edge-at f [] l post at i h k = absurd (omega arith)
edge-at f (e ∷ es) l post at zero h k =
    let z : at + 0 ≡ at = omega arith in
    ap (λ (x : ℕ). get_or (map f l) x 0) z ∙ map-head f l at e (es ++ post) h
edge-at f (e ∷ es) l post at (suc i) h k =
    let z : at + suc i ≡ suc at + i = omega arith in
    ap (λ (x : ℕ). get_or (map f l) x 0) z ∙ edge-at f es l post (suc at) i (drop_head l at e (es ++ post) h) (omega arith)

-- they end inside
starts-inside :
    (parts : List (List Edge)) (a k : ℕ) → k < length parts
    → get_or (starts a (map length parts)) k 0 + length (get_or parts k []) ≤ a + length (flatten parts)
unfolding starts flatten
starts-inside [] a k h = absurd (omega arith)
starts-inside (p ∷ ps) a zero h = omega (arith, length-append p (flatten ps))
starts-inside (p ∷ ps) a (suc k) h =
    omega (arith, length-append p (flatten ps), starts-inside ps (a + length p) k (omega arith))

-- ---- all edges

abbrev ToNodes : ℕ → List Edge → Type 0
ToNodes n l = (i : ℕ) → i < length l → (get_or l i no_edge).to < n

to-append : (n : ℕ) (l m : List Edge) → ToNodes n l → ToNodes n m → ToNodes n (l ++ m)
to-append n l m p q i h = go (dec_lt i (length l))
  where
    go : Dec (i < length l) → (get_or (l ++ m) i no_edge).to < n
    go (yes k) = subst (λ (e : Edge). e.to < n) (sym (get_or-append l m no_edge i k)) (p i k)
    go (no k) =
        let z : length l + (i - length l) ≡ i = omega arith in
        subst (λ (e : Edge). e.to < n)
        (sym (get_or-append-add l m (i - length l) no_edge) ∙ ap (λ (x : ℕ). get_or (l ++ m) x no_edge) z)
        (q (i - length l) (omega (arith, length-append l m)))

to-all : (ns ms : List²) → ToNodes (length ns) (flatten (map (edges_of ns) ms))
unfolding flatten edges_of
to-all ns [] i h = absurd (omega arith)
to-all ns (m ∷ ms) i h =
    to-append (length ns) (edges_of ns m) (flatten (map (edges_of ns) ms)) (rising-to (rising-edges 256 ns m 0))
    (to-all ns ms) i h

-- ---- sound

module _ (rule : List ℕ → Option ℕ) (ns : List²) where
  abbrev parts : List (List Edge)
  parts = map (edges_of ns) ns

  abbrev edges : List Edge
  edges = flatten parts

  level-at : length (starts 0 (map length parts)) ≡ length ns
  level-at = length-starts (map length parts) 0 ∙ length-map parts length ∙ length-map ns (edges_of ns)

  node-sound : (k : ℕ) → k < length ns → sound_node (lay rule ns) k ≡ true
  unfolding sound_node lay edges_of
  node-sound k h =
      let inside : k < length parts = omega (arith, length-map ns (edges_of ns)) in
      let at = get_or (starts 0 (map length parts)) k 0 in
      let es = get_or parts k [] in
      let n : get_or (map length parts) k 0 ≡ length es = get_or-map-of length parts k [] 0 inside in
      let here : es ≡ edges_of ns (get_or ns k []) = get_or-map-of (edges_of ns) ns k [] [] h in
      let rises : Rising (length ns) 0 es = subst (Rising (length ns) 0) (sym here) (rising-edges 256 ns (get_or ns k []) 0) in
      let few : length es ≤ 256 = omega (arith, ap length here, edges_few 256 ns (get_or ns k []) 0) in
      let w = laid-at parts k inside in
      let bytes = map (λ e. e.byte) edges in
      both (leb (at + get_or (map length parts) k 0) (length bytes) && leb (get_or (map length parts) k 0) 256) _
      (both (leb (at + get_or (map length parts) k 0) (length bytes)) (leb (get_or (map length parts) k 0) 256)
      (le-leb (at + get_or (map length parts) k 0) (length bytes)
      (omega (arith, n, starts-inside parts 0 k inside, length-map edges (λ e. e.byte))))
      (le-leb (get_or (map length parts) k 0) 256 (omega (arith, n))))
      (every_true (get_or (map length parts) k 0 - 1) (λ i. ltb (get_or bytes (at + i) 0) (get_or bytes (at + suc i) 0))
      (λ i l.
      lt-ltb (get_or bytes (at + i) 0) (get_or bytes (at + suc i) 0)
      (omega (
        arith,
        edge-at (λ e. e.byte) es edges w.0 at i w.1 (omega (arith, n)),
        edge-at (λ e. e.byte) es edges w.0 at (suc i) w.1 (omega (arith, n)),
        rising_step rises i (omega (arith, n)),
      ))))

  pub sound-laid : Grown ns → length ns ≤ 4_294_967_295 → sound (lay rule ns) ≡ true
  unfolding sound lay
  sound-laid g few =
      let nodes = length (starts 0 (map length parts)) in
      let m = length (map (λ e. e.byte) edges) in
      let level-m : m ≡ length edges = length-map edges (λ e. e.byte) in
      rw (
        le-leb 1 nodes (omega (arith, level-at, grown-some g)),
        le-leb nodes 4_294_967_295 (omega (arith, level-at)),
        eq-eqb (length (map length parts)) nodes
            (omega (arith, level-at, length-map parts length, length-map ns (edges_of ns))),
        eq-eqb (length (map (λ s. unwrap_or (rule s) no_id) ns)) nodes
            (omega (arith, level-at, length-map ns (λ s. unwrap_or (rule s) no_id))),
        eq-eqb (length (map (λ e. e.to) edges)) m (omega (arith, level-m, length-map edges (λ e. e.to))),
        every_true nodes (sound_node (lay rule ns)) (λ k l. node-sound k (omega (arith, level-at))),
        every_true m (λ e. ltb (get_or (map (λ e. e.to) edges) e 0) nodes)
            (λ k l.
            lt-ltb (get_or (map (λ e. e.to) edges) k 0) nodes
            (omega (
              arith,
              level-at,
              get_or-map-of (λ e. e.to) edges k no_edge 0 (omega (arith, level-m)),
              to-all ns ns k
                  (omega (arith, level-m)),
            ))),
      )

-- the trie of tokens is sound
pub sound-built :
    (rule : List ℕ → Option ℕ) (tokens : List²) → AllBytes tokens → length (names tokens) ≤ 4_294_967_295
    → sound (trie_of rule tokens) ≡ true
unfolding trie_of
sound-built rule tokens h few = sound-laid rule (names tokens) (grown-names tokens h) few

-- ---- its columns: a place for each node, and one for each edge

module _ (rule : List ℕ → Option ℕ) (tokens : List²) where
  abbrev n : ℕ
  n = length (names tokens)

  pub length-edge_at : length (trie_of rule tokens).edge_at ≡ n
  unfolding trie_of lay
  length-edge_at = level-at rule (names tokens)

  pub length-edge_n : length (trie_of rule tokens).edge_n ≡ n
  unfolding trie_of lay
  length-edge_n = length-map (parts rule (names tokens)) length ∙ length-map (names tokens) (edges_of (names tokens))

  pub length-id : length (trie_of rule tokens).id ≡ n
  unfolding trie_of lay
  length-id = length-map (names tokens) (λ s. unwrap_or (rule s) no_id)

  pub length-byte : AllBytes tokens → length (trie_of rule tokens).byte ≡ n - 1
  unfolding trie_of lay
  length-byte h = length-map (edges rule (names tokens)) (λ e. e.byte) ∙ count-names (grown-names tokens h)

  pub length_to : AllBytes tokens → length (trie_of rule tokens).to ≡ n - 1
  unfolding trie_of lay
  length_to h = length-map (edges rule (names tokens)) (λ e. e.to) ∙ count-names (grown-names tokens h)
