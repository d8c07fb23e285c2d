-- How the children of the nodes are linked while tokens are entered: work place 2k has the first child of node k, place 2k + 1
-- its next sibling, 0 for none. Stated of the names ns that the nodes stand for. Definitions only; assumes nothing.
use Rattle.std.specs.Prelude.{◌≡◌, List, [], ◌∷◌, ◌++◌, ◌⊎◌, ℕ, suc, ◌+◌, ◌*◌, ◌≤◌, ◌<◌, length, get_or, set, None, Some}
use Rattle.build.specs.Names.{place}
use Rattle.build.specs.Grown.{Grown}

-- the node s has no child by a byte from c on and below e
abbrev pub Clear : List (List ℕ) → List ℕ → ℕ → ℕ → Type 0
Clear ns s c e = (a : ℕ) → c ≤ a → a < e → place ns (s ++ (a ∷ [])) ≡ None

-- a child of the node s, by the byte a from c on, with none before it
pub record Least (ns : List (List ℕ)) (s : List ℕ) (c k : ℕ) : Type 0 where
  pub a : ℕ
  pub from : c ≤ a
  pub child : place ns (s ++ (a ∷ [])) ≡ Some k
  pub clear : Clear ns s c a

-- k is the first child of the node s by a byte from c on; 0 where there is none
abbrev pub First : List (List ℕ) → List ℕ → ℕ → ℕ → Type 0
First ns s c k = ((k ≡ 0) × Clear ns s c 256) ⊎ Least ns s c k

-- work place `at` has the link to the first child of the node s by a byte from b on
pub data Slot (ns : List (List ℕ)) (s : List ℕ) (b at : ℕ) : Type 0 where
  of-first : (k : ℕ) → place ns s ≡ Some k → at ≡ 2 * k → Clear ns s 0 b → Slot ns s b at
  of-next : (a k : ℕ) → place ns (s ++ (a ∷ [])) ≡ Some k → at ≡ 2 * k + 1 → a < b → Clear ns s (suc a) b → Slot ns s b at

-- the links of all nodes
pub record Linked (ns : List (List ℕ)) (work : List ℕ) : Type 0 where
  pub grown : Grown ns
  pub room : 2 * length ns ≤ length work
  pub first : (s : List ℕ) (k : ℕ) → place ns s ≡ Some k → First ns s 0 (get_or work (2 * k) 0)
  pub next : (s : List ℕ) (b k : ℕ) → place ns (s ++ (b ∷ [])) ≡ Some k → First ns s (suc b) (get_or work (2 * k + 1) 0)

-- each node from `from` on has its own byte in its place
pub record Spelled (ns : List (List ℕ)) (from : ℕ) (edge_n : List ℕ) : Type 0 where
  pub room : length ns ≤ length edge_n
  pub byte : (s : List ℕ) (b k : ℕ) → place ns (s ++ (b ∷ [])) ≡ Some k → from ≤ k → get_or edge_n k 0 ≡ b

-- the work places once node n is put between a link and what it led to
abbrev pub linked_work : List ℕ → ℕ → ℕ → List ℕ
linked_work work at n = set (set (set work (2 * n) 0) (2 * n + 1) (get_or work at 0)) at n
