-- What the work at one boundary does to the slots, and what it rests on. Definitions only; assumes nothing.
use Rattle.std.specs.Prelude.{◌≡◌, ℕ, ◌≤◌, ◌<◌, Bool, true, false, ◌&&◌, ◌||◌, List, map, ltb, eqb, Float, length, Option}
use Rattle.std.specs.Prelude.{None, is_some}
use Rattle.doubles.specs.Double.{Double}
use Rattle.doubles.specs.Units.{units}
use Rattle.refusal.specs.Sizes.{max_text}
use Rattle.text.specs.Text.{well_formed, boundary, part}
use Rattle.trie.specs.Trie.{parts_of}
use Rattle.trie.specs.Sound.{sound}
use Rattle.cutting.specs.Cuttings.{Piece}
use Rattle.cutting.specs.Slots.{Slots, slot_at, after_offer, Inside, PutAt}
use Rattle.cutting.specs.Law.{Holds, path_left}
use Rattle.cutting.specs.Law as law
use Rattle.unigram.specs.declared.Model as lent
use Rattle.unigram.specs.Segment.{sound_model}
use Rattle.unigram.specs.Pieces.{Model, piece_at, known, rule, pieces_of}

-- the model that lent columns hold
abbrev pub model_of : List ℕ → List ℕ → List ℕ → List Float → List ℕ → List ℕ → ℕ → Float → Model
model_of edge_at edge_n id score byte to unknown unknown_score =
    let piece : Piece = record { id = unknown; score = units unknown_score } in
    record { trie = parts_of edge_at edge_n id byte to; score = map units score; unknown = piece }

-- the same as a contract names it
abbrev pub model : lent.Model → Model
model m =
    let t = m.trie in
    model_of t.edge_at.now t.edge_n.now t.id.now m.score.now t.byte.now t.to.now m.unknown m.unknown_score

-- the piece that node k ends at i, if i is a boundary
unfoldable pub ends_here : Model → List ℕ → ℕ → ℕ → Option Piece
ends_here m s k i = elim (boundary s i) [ true ↦ piece_at m k | false ↦ None ]

-- The work at one end i of a walk from `at`: the piece that ends there is offered, and `single` becomes true where it is one
-- character long.
pub record Ended (m : Model) (s : List ℕ) (node i one : ℕ) (single : Bool) (at : ℕ) (x : Double) (before after : Slots)
    (r : Bool) : Type 0 where
  pub put : PutAt before i (after_offer (ends_here m s node i) x at (slot_at before i)) after
  pub seen : r ≡ (single || (eqb i one && is_some (ends_here m s node i)))

-- the string from `at` to j with an id, where j is a boundary
unfoldable pub known_to : Model → List ℕ → ℕ → ℕ → Option Piece
known_to m s at j = elim (ltb at j && boundary s j) [ true ↦ known m (part s at j) | false ↦ None ]

-- a walk may be begun at `at`, in sound parts with a score for each node; `one` is past it, and the text is within the limit
pub record Walkable (m : Model) (s : List ℕ) (at one : ℕ) : Type 0 where
  pub parts : sound m.trie ≡ true
  pub level-score : length m.score ≡ length m.trie.edge_at
  pub inside : at ≤ length s
  pub ahead : at < one
  pub size : length s ≤ max_text

-- Each string with an id that starts at `at` has been offered, and r says whether one is `one - at` bytes long.
pub record KnownOffered (m : Model) (s : List ℕ) (at one : ℕ) (x : Double) (before after : Slots) (r : Bool) : Type 0 where
  pub slots : (k : ℕ) → slot_at after k ≡ after_offer (known_to m s at k) x at (slot_at before k)
  pub seen : r ≡ is_some (known_to m s at one)

-- what the core rests on: sound parts and a well-formed text within the limit
pub record Ready (m : Model) (s : List ℕ) : Type 0 where
  pub sound : sound_model m ≡ true
  pub well : well_formed s ≡ true
  pub size : length s ≤ max_text

-- the work has come to the boundary `at`
pub record Come (m : Model) (s : List ℕ) (at : ℕ) (starts ids : List ℕ) (scores : List Float) (c : Slots) : Type 0 where
  pub ready : Ready m s
  pub below : at < length s
  pub boundary : boundary s at ≡ true
  pub inside : Inside starts ids scores (length s)
  pub holds : Holds (rule m s) (length s) at c

-- The starts before `from` have been worked: the slots up to the text's length hold the records, and the record law of demand 3
-- holds at every boundary come to so far.
abbrev pub Recorded : Model → List ℕ → ℕ → Slots → Slots → Type 0
Recorded m s from before after = law.Recorded (rule m s) (λ j. boundary s j ≡ true) (length s) from before after

-- The slots hold the records, and the first path places the ends of the best cutting's pieces; r is how many there are.
pub record BestCutting (m : Model) (s : List ℕ) (before : Slots) (path₀ : List ℕ) (after : Slots) (path₁ : List ℕ)
    (r : ℕ) : Type 0 where
  pub slots : Recorded m s (length s) before after
  pub path : path₁ ≡ path_left (rule m s) (length s) path₀
  pub count : r ≡ length (pieces_of m s)
