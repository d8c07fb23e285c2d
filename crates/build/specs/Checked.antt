-- What the core of both builds asks of a caller that has judged the rows, and what it promises. Definitions only; assumes
-- nothing.
use Rattle.std.specs.Prelude.{◌≡◌, cond, List, [], ℕ, ◌+◌, ◌/◌, ◌≤◌, min, ltb, length, Option, Some, None}
use Rattle.rows.specs.declared.Kind.{Kind}
use Rattle.rows.specs.Rows.{Row}
use Rattle.build.specs.Names.{names}
use Rattle.build.specs.Rules.{tokens_of}
use Rattle.build.specs.Given.{rules_from, no_rule}
use Rattle.build.specs.Held.{RowDone}
use Rattle.build.specs.Memory.{Memory, cleared, holding}
use Rattle.build.specs.Promise.{trie_in}

-- how many nodes the lent columns have room for: a place of each node column, of the edge columns for each but the root, and
-- two work places; a node's number fits a u32
abbrev pub room_of : Memory → ℕ
room_of m =
    let t = m.parts in
    min (min (min (length t.edge_at) (length t.edge_n)) (min (length t.id) (length t.byte + 1)))
    (min (min (length t.to + 1) (length m.work / 2)) 4_294_967_295)

-- N: "1 plus the number of distinct non-empty prefixes of tokens"
abbrev pub nodes_of : List ℕ → List Row → ℕ
nodes_of tab rows = length (names (tokens_of tab rows))

-- the answer where n nodes are needed
abbrev pub built_answer : ℕ → ℕ → Option ℕ
built_answer room n = cond (ltb room n) None (Some n)

-- what the build of these rows answers, and what it leaves in the memory
pub record BuiltOf (kind : Kind) (tab : List ℕ) (rows : List Row) (room : ℕ) (before after : Memory)
    (answer : Option ℕ) : Type 0 where
  pub answered : answer ≡ built_answer room (nodes_of tab rows)
  pub left : after ≡ cond (ltb room (nodes_of tab rows)) (cleared before) (holding (trie_in kind tab rows) [] before)

-- ---- the last step

-- rows were entered and made so many nodes, or found no room for them; every lent column has room for `room`
pub record Finishable (m : Memory) (made : Option ℕ) : Type 0 where
  pub nodes : List (List ℕ)
  pub rule : List ℕ → Option ℕ
  pub room : ℕ
  pub done : RowDone nodes rule room m.parts.edge_n m.parts.id m.work made
  pub roomy : room ≤ room_of m

-- whichever rows these were, their build is done
pub record Finished (before after : Memory) (made answer : Option ℕ) : Type 0 where
  pub built :
      (kind : Kind) (tab : List ℕ) (rows : List Row) (room : ℕ)
      → RowDone (names (tokens_of tab rows)) (rules_from kind tab no_rule 0 rows) room before.parts.edge_n before.parts.id
      before.work made
      → BuiltOf kind tab rows room before after answer
