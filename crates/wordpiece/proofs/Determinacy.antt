-- The promises of `from_rows` and `encode` fix what they answer and what they leave: each field is an equation with a value of
-- the inputs.
use Rattle.std.specs.Prelude.{None, Some, Result, Ok, Err, ℕ}
use mathlib.Core.Path.{◌≡◌}
use mathlib.Core.Logic.{◌↔◌}
use Prim.Native.Nat.{ℕ}
use mathlib.Core.List.{List}
use lib.ListN.{length}
use Rattle.refusal.specs.declared.Fault.{Fault}
use Rattle.refusal.specs.declared.Reason.{Reason}
use Rattle.refusal.proofs.Codings as codings
use Rattle.refusal.proofs.Codings.{coded-once}
use Rattle.trie.specs.Trie.{Trie, id_of}
use Rattle.trie.specs.Sound.{sound}
use Rattle.rows.specs.declared.Kind.TheVariants.{WordPiece}
use Rattle.rows.specs.Columns.{Columns, rows_of, columns_fault}
use Rattle.build.specs.Memory.{Memory, no_room}
use Rattle.build.specs.Checked.{nodes_of}
use Rattle.build.specs.Promise.{build_fault}
use Rattle.build.proofs.Promises as builds
use Rattle.build.proofs.Promises.{promised-once}
use Rattle.wordpiece.specs.Build.{Built}
use Rattle.wordpiece.specs.Pieces.{ids_of}
use Rattle.wordpiece.specs.Encode.{encode_fault, Encoded}

pub built-once :
    (tab : List ℕ) (c : Columns) (m : Memory) (a b : Result ℕ Reason) {m₁ m₂ : Memory} → Built tab c m a m₁ → Built tab c m b m₂
    → (a ≡ b) × (m₁ ≡ m₂)
built-once tab c m a b = promised-once

-- `encode`: its answer and what it leaves, and "exactly when", both ways: refused with f exactly when f is the first fault, and
-- ids exactly when there is none
module _ (t : Trie) (unknown max_chars : ℕ) (prefix w ids : List ℕ) where
  pub encoded-once :
      {a b : Result ℕ Fault} {i₁ i₂ : List ℕ} → Encoded t unknown max_chars prefix w ids a i₁
      → Encoded t unknown max_chars prefix w ids b i₂
      → (a ≡ b) × (i₁ ≡ i₂)
  encoded-once p q = coded-once p q

  module _ {answer : Result ℕ Fault} {after : List ℕ} (p : Encoded t unknown max_chars prefix w ids answer after) where
    pub refused-exactly : (f : Fault) → (answer ≡ Err f) ↔ (encode_fault (sound t) prefix w (length ids) ≡ Some f)
    refused-exactly = codings.refused-exactly p

    pub accepted-exactly :
        (answer ≡ Ok (length (ids_of (id_of t) unknown max_chars prefix w)))
        ↔ (encode_fault (sound t) prefix w (length ids) ≡ None)
    accepted-exactly = codings.accepted-exactly p

-- the same of `from_rows`: a build is refused with r exactly when r is its fault, and says N exactly when there is none
module _ (tab : List ℕ) (c : Columns) (m : Memory) (answer : Result ℕ Reason) (after : Memory)
    (p : Built tab c m answer after) where
  pub build-refused-exactly :
      (r : Reason)
      → (answer ≡ Err r) ↔ (build_fault (columns_fault WordPiece tab c) (no_room (nodes_of tab (rows_of c)) m) ≡ Some r)
  build-refused-exactly = builds.refused-exactly p

  pub build-accepted-exactly :
      (answer ≡ Ok (nodes_of tab (rows_of c)))
      ↔ (build_fault (columns_fault WordPiece tab c) (no_room (nodes_of tab (rows_of c)) m) ≡ None)
  build-accepted-exactly = builds.accepted-exactly p
