-- What laying out the nodes asks and promises. As in entering, a step speaks of the names that the columns hold. Definitions
-- only; assumes nothing.
use Rattle.std.specs.Prelude.{◌≡◌, List, [], map, ℕ, ◌+◌, ◌≤◌, ◌<◌, length, set, Option}
use Rattle.std.proofs.lemmas.List.Edits.{sets}
use Rattle.build.specs.Parts.{Edge, edges_of, lay}
use Rattle.build.specs.Links.{Linked, Spelled}
use Rattle.build.specs.Held.{Held, Chained}
use Rattle.build.specs.Memory.{memory, holding}

abbrev pub bytes_of : List Edge → List ℕ
bytes_of es = map (λ e. e.byte) es

abbrev pub targets_of : List Edge → List ℕ
targets_of es = map (λ e. e.to) es

-- ---- the edges of one node

-- `node` is chained, its children's bytes stand, and there is room for its edges from `at` on
pub record ChildrenReady (edge_n work byte to : List ℕ) (node at : ℕ) : Type 0 where
  pub chained : Chained edge_n work node node
  pub small : length chained.names ≤ 4_294_967_295
  pub room-byte : at + length (edges_of chained.names chained.string) ≤ length byte
  pub room-to : at + length (edges_of chained.names chained.string) ≤ length to

pub record ChildrenDone (ns : List (List ℕ)) (s : List ℕ) (byte to byte' to' : List ℕ) (at end : ℕ) : Type 0 where
  pub written : byte' ≡ sets byte at (bytes_of (edges_of ns s))
  pub led : to' ≡ sets to at (targets_of (edges_of ns s))
  pub count : end ≡ at + length (edges_of ns s)

pub record ChildrenLaid (edge_n work byte to byte' to' : List ℕ) (node at end : ℕ) : Type 0 where
  pub laid : (c : Chained edge_n work node node) → ChildrenDone c.names c.string byte to byte' to' at end

-- ---- one node

-- `node` is the next to be laid out, and there is room for it and for its edges from `at` on
pub record NodeReady (edge_at edge_n byte to work : List ℕ) (node at : ℕ) : Type 0 where
  pub children : ChildrenReady edge_n work byte to node at
  pub there : node < length edge_at
  pub few : at ≤ 4_294_967_295

pub record NodeDone (ns : List (List ℕ)) (s edge_at edge_n byte to edge_at' edge_n' byte' to' : List ℕ)
    (node at end : ℕ) : Type 0 where
  pub begun : edge_at' ≡ set edge_at node at
  pub counted : edge_n' ≡ set edge_n node (length (edges_of ns s))
  pub children : ChildrenDone ns s byte to byte' to' at end

pub record NodeLaid (edge_at edge_n byte to work edge_at' edge_n' byte' to' : List ℕ) (node at end : ℕ) : Type 0 where
  pub laid :
      (c : Chained edge_n work node node)
      → NodeDone c.names c.string edge_at edge_n byte to edge_at' edge_n' byte' to' node at end

-- ---- all nodes

-- n nodes were entered, and there is room for them and their edges
pub record AllReady (edge_at edge_n byte to work : List ℕ) (n : ℕ) : Type 0 where
  pub names : List (List ℕ)
  pub links : Linked names work
  pub bytes : Spelled names 0 edge_n
  pub count : n ≡ length names
  pub small : n ≤ 4_294_967_295
  pub room_at : n ≤ length edge_at
  pub room-byte : n ≤ length byte + 1
  pub room-to : n ≤ length to + 1

-- whichever nodes and ids the columns held, their parts stand in them now
pub record AllLaid (edge_at edge_n byte to work edge_at' edge_n' byte' to' work' : List ℕ) (n : ℕ) : Type 0 where
  pub laid :
      (ns : List (List ℕ)) (rule : List ℕ → Option ℕ) (id : List ℕ) → Held ns rule edge_n id work → n ≡ length ns
      → memory edge_at' edge_n' id byte' to' work' ≡ holding (lay rule ns) [] (memory edge_at edge_n id byte to work)
