-- What the lent columns hold while tokens are entered, and what each step of entering promises. A step speaks of the names and
-- ids that the columns hold: it asks that there are some, and says of any what they become. Definitions only; assumes nothing.
use Rattle.std.specs.Prelude.{◌≡◌, cond, List, [], ◌∷◌, ◌++◌, ℕ, ◌+◌, ◌*◌, ◌≤◌, ◌<◌, eqb, length, get_or, set, Option}
use Rattle.std.specs.Prelude.{None, Some, unwrap_or, MatchOption}
use Rattle.refusal.specs.Sizes.{no_id, max_rows}
use Rattle.rows.specs.declared.Kind.{Kind}
use Rattle.rows.specs.declared.Kind.TheVariants.{Unigram, WordPiece}
use Rattle.build.specs.declared.links.Reached.{Reached}
use Rattle.build.specs.Names.{place, prefixes, add, enter}
use Rattle.build.specs.Given.{marked}
use Rattle.build.specs.Links.{Slot, Linked, Spelled}

-- every place from n on is zero
abbrev pub ZeroFrom : ℕ → List ℕ → Type 0
ZeroFrom n xs = (k : ℕ) → n ≤ k → get_or xs k 0 ≡ 0

-- each node has the id that the rule gives its string, and the rule gives none to other strings
pub record Identified (ns : List (List ℕ)) (rule : List ℕ → Option ℕ) (id : List ℕ) : Type 0 where
  pub room : length ns ≤ length id
  pub ids : (s : List ℕ) (k : ℕ) → place ns s ≡ Some k → get_or id k 0 ≡ unwrap_or (rule s) no_id
  pub within : (s : List ℕ) → place ns s ≡ None → rule s ≡ None
  pub past : ZeroFrom (length ns) id

-- the nodes ns with these ids, linked in the work places
pub record Held (ns : List (List ℕ)) (rule : List ℕ → Option ℕ) (edge_n id work : List ℕ) : Type 0 where
  pub links : Linked ns work
  pub bytes : Spelled ns 0 edge_n
  pub past : ZeroFrom (length ns) edge_n
  pub marks : Identified ns rule id

-- there is room for so many nodes, and their numbers fit a u32
pub record Roomy (room : ℕ) (edge_n id work : List ℕ) : Type 0 where
  pub nodes : room ≤ length edge_n
  pub ids : room ≤ length id
  pub links : 2 * room ≤ length work
  pub small : room ≤ 4_294_967_295

-- ---- seeking a child

-- `node` is a node of some names that are linked, and each of them from `from` on has its own byte in its place
pub record Chained (edge_n work : List ℕ) (from node : ℕ) : Type 0 where
  pub names : List (List ℕ)
  pub string : List ℕ
  pub links : Linked names work
  pub bytes : Spelled names from edge_n
  pub here : place names string ≡ Some node

-- `at` has the link to the first child of `node` by b or a later byte
pub record Sought (edge_n work : List ℕ) (node b at : ℕ) : Type 0 where
  pub slot : (c : Chained edge_n work 0 node) → Slot c.names c.string b at

-- ---- one byte more

-- a string has come to `node`, one of n, and there is room for `room` nodes
pub record Enterable (edge_n id work : List ℕ) (room node n : ℕ) : Type 0 where
  pub names : List (List ℕ)
  pub rule : List ℕ → Option ℕ
  pub string : List ℕ
  pub held : Held names rule edge_n id work
  pub count : n ≡ length names
  pub here : place names string ≡ Some node
  pub roomy : Roomy room edge_n id work
  pub fits : n ≤ room

-- the nodes ms stand in the columns, n of them, with these ids, and there is room for them
pub record Stands (ms : List (List ℕ)) (rule : List ℕ → Option ℕ) (room : ℕ) (edge_n id work : List ℕ) (n : ℕ) : Type 0 where
  pub fits : n ≤ room
  pub count : n ≡ length ms
  pub held : Held ms rule edge_n id work

-- they do, and the string t has come to `node`
pub record Comes (ms : List (List ℕ)) (rule : List ℕ → Option ℕ) (t : List ℕ) (room : ℕ) (edge_n id work : List ℕ)
    (node n : ℕ) : Type 0 where
  pub stands : Stands ms rule room edge_n id work n
  pub here : place ms t ≡ Some node

-- The nodes are now ms, and the string t has come to the node that is answered. None is answered where there is no room for t.
abbrev pub Done :
    List (List ℕ) → (List ℕ → Option ℕ) → List ℕ → ℕ → List ℕ → List ℕ → List ℕ → Option Reached → Type 0
Done ms rule t room edge_n id work answer =
    MatchOption answer (room < length ms) (λ at. Comes ms rule t room edge_n id work at.node at.n)

pub record ByteEntered (edge_n id work edge_n' id' work' : List ℕ) (room node n b : ℕ) (answer : Option Reached) : Type 0 where
  pub entered :
      (ns : List (List ℕ)) (rule : List ℕ → Option ℕ) (s : List ℕ) → Held ns rule edge_n id work → n ≡ length ns
      → place ns s ≡ Some node
      → Done (add ns (s ++ (b ∷ []))) rule (s ++ (b ∷ [])) room edge_n' id' work' answer

-- ---- one token more

pub record TokenEntered (edge_n id work edge_n' id' work' : List ℕ) (room n : ℕ) (t : List ℕ)
    (answer : Option Reached) : Type 0 where
  pub entered :
      (ns : List (List ℕ)) (rule : List ℕ → Option ℕ) → Held ns rule edge_n id work → n ≡ length ns
      → Done (enter ns (prefixes [] t)) rule t room edge_n' id' work' answer

-- ---- one row more

-- the id column once `node` is given the id v: for Unigram only if it has none yet
abbrev pub marked_ids : Kind → List ℕ → ℕ → ℕ → List ℕ
marked_ids Unigram id node v = cond (eqb (get_or id node 0) no_id) (set id node v) id
marked_ids WordPiece id node v = set id node v

-- where Unigram keeps the first id, no id is the mark for none
abbrev pub Unmarked : Kind → (List ℕ → Option ℕ) → Type 0
Unmarked kind rule = kind ≡ Unigram → (s : List ℕ) (i : ℕ) → rule s ≡ Some i → i < no_id

-- The nodes are now ms, as many as is answered, with these ids. None is answered where there is no room for them.
abbrev pub RowDone : List (List ℕ) → (List ℕ → Option ℕ) → ℕ → List ℕ → List ℕ → List ℕ → Option ℕ → Type 0
RowDone ms rule room edge_n id work answer = MatchOption answer (room < length ms) (Stands ms rule room edge_n id work)

pub record RowEntered (edge_n id work edge_n' id' work' : List ℕ) (kind : Kind) (room n : ℕ) (t : List ℕ)
    (v : ℕ) (answer : Option ℕ) : Type 0 where
  pub entered :
      (ns : List (List ℕ)) (rule : List ℕ → Option ℕ) → Held ns rule edge_n id work → n ≡ length ns → Unmarked kind rule
      → RowDone (enter ns (prefixes [] t)) (marked kind t v rule) room edge_n' id' work' answer

-- ---- all rows

-- The rows' columns are level and their tokens stand in the table. For Unigram the row's own id is not looked at.
pub record LevelRows (kind : Kind) (tab off len ids : List ℕ) : Type 0 where
  pub level : length len ≡ length off
  pub own : kind ≡ WordPiece → length ids ≡ length off
  pub few : length off ≤ max_rows
  pub inside : (i : ℕ) → i < length off → get_or off i 0 + get_or len i 0 ≤ length tab
