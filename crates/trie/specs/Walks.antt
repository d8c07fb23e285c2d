-- What steps and walks in sound parts rest on, and their answers as options. Definitions only; assumes nothing.
use Rattle.trie.specs.declared.checked.Walk.{Walk}
use Rattle.std.specs.Prelude.{◌≡◌, ℕ, ◌<◌, true, cond, List, eqb, length, get_or, Option, None, Some}
use Rattle.refusal.specs.Sizes.{no_id}
use Rattle.trie.specs.Trie.{Trie, parts_of, step}
use Rattle.trie.specs.Sound.{sound}

-- the node is one of the parts, which are sound with some ids: a step asks for none
pub record Stands (t : Trie) (node : ℕ) : Type 0 where
  pub ids : List ℕ
  pub parts : sound (parts_of t.edge_at t.edge_n ids t.byte t.to) ≡ true
  pub inside : node < length t.edge_at

-- the node that a step leads to
abbrev pub next_of : Option Walk → Option ℕ
next_of (Some walk) = Some walk.node
next_of None = None

-- a place of a table: a node, or the mark for none
abbrev pub marked : ℕ → Option ℕ
marked x = cond (eqb x no_id) None (Some x)

-- a table of where each byte leads from the root
pub record Leads (t : Trie) (first : List ℕ) : Type 0 where
  pub places : length first ≡ 256
  pub led : (b : ℕ) → b < 256 → marked (get_or first b no_id) ≡ step t 0 b
