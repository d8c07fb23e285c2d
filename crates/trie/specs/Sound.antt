-- "Sound parts: 1 to 4,294,967,295 nodes; columns of equal length; each node's edges lie inside the edge part, at most 256,
-- bytes strictly rising; each target is a node; for Unigram, node scores and the unknown score are finite." Definitions only;
-- assumes nothing.
use Rattle.std.specs.Prelude.{ℕ, zero, suc, ◌+◌, ◌-◌, Bool, true, ◌&&◌, List, [], ◌∷◌, leb, ltb, eqb, length, get_or}
use Rattle.doubles.specs.Double.{Double, is_finite}
use Rattle.trie.specs.Trie.{Trie}

-- the test holds of every number below n
unfoldable pub every : ℕ → (ℕ → Bool) → Bool
every zero test = true
every (suc k) test = every k test && test k

-- of the n edges from `at` on: "bytes strictly rising"
abbrev pub rises : List ℕ → ℕ → ℕ → Bool
rises bytes at n = every (n - 1) (λ i. ltb (get_or bytes (at + i) 0) (get_or bytes (at + suc i) 0))

-- of the same: "lie inside the edge part, at most 256, bytes strictly rising"
abbrev pub sound_edges : List ℕ → ℕ → ℕ → Bool
sound_edges bytes at n = leb (at + n) (length bytes) && leb n 256 && rises bytes at n

-- "each node's edges"
unfoldable pub sound_node : Trie → ℕ → Bool
sound_node t k = sound_edges t.byte (get_or t.edge_at k 0) (get_or t.edge_n k 0)

-- what is asked of both kinds
unfoldable pub sound : Trie → Bool
sound t =
    let nodes = length t.edge_at in
    let edges = length t.byte in
    leb 1 nodes && leb nodes 4_294_967_295
    && eqb (length t.edge_n) nodes && eqb (length t.id) nodes && eqb (length t.to) edges
    && every nodes (sound_node t)
    && every edges (λ e. ltb (get_or t.to e 0) nodes)

unfoldable pub all_finite : List Double → Bool
all_finite [] = true
all_finite (x ∷ xs) = is_finite x && all_finite xs

-- what is asked of a Unigram trie with these node scores and this unknown score
unfoldable pub sound_scored : Trie → List Double → Double → Bool
sound_scored t scores unknown = sound t && eqb (length scores) (length t.edge_at) && all_finite scores && is_finite unknown
