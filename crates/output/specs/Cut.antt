-- A pack's prefix, and a trie in the first places of lent columns. Definitions only; assumes nothing.
use Rattle.std.specs.Prelude.{List, [], map, ℕ, ◌-◌, ◌≤◌, ◌≡◌, Float, length, take, Result}
use Rattle.doubles.specs.Units.{units}
use Rattle.refusal.specs.declared.Reason.{Reason}
use Rattle.refusal.specs.Refusal.{unless_fault}
use Rattle.text.specs.Span.{span_of, span_fault}
use Rattle.trie.specs.Trie.{Trie, parts_of}
use Rattle.build.specs.Memory.{memory, with_scores}
use Rattle.pack.specs.declared.Summary.{Summary}
use Rattle.pack.specs.Pack.{strings_of}
use Rattle.pack.specs.Build.{PackBuilt}
use Rattle.output.specs.Output.{lent_memory}

-- what the span check gives of a pack's strings
abbrev pub PrefixGiven : List ℕ → ℕ → ℕ → List ℕ → Type 0
PrefixGiven pack off len prefix =
    let strings = strings_of pack in
    prefix ≡ unless_fault (span_fault strings off len) (span_of strings off len) []

-- the columns have places for n nodes, of which there is at least the root, and their edges
pub record Cuttable (n : ℕ) (t : Trie) : Type 0 where
  pub root : 1 ≤ n
  pub starts : n ≤ length t.edge_at
  pub counts : n ≤ length t.edge_n
  pub ids : n ≤ length t.id
  pub bytes : n - 1 ≤ length t.byte
  pub targets : n - 1 ≤ length t.to

-- the trie that stands in the places for n nodes and their edges
abbrev pub first_nodes : ℕ → Trie → Trie
first_nodes n t =
    parts_of (take n t.edge_at) (take n t.edge_n) (take n t.id) (take (n - 1) t.byte) (take (n - 1) t.to)

-- the pack was judged, and built where it is fine, in the columns that the program lends; what the work places hold afterwards
-- is no matter
pub record LentBuilt (pack : List ℕ) (answer : Result Summary Reason) (t : Trie) (scores : List Float) : Type 0 where
  pub work : List ℕ
  pub built :
      PackBuilt pack lent_memory answer (with_scores (memory t.edge_at t.edge_n t.id t.byte t.to work) (map units scores))
  pub small : length pack ≤ 65_536
  pub places : Cuttable 4_096 t
  pub scored : 4_096 ≤ length scores
