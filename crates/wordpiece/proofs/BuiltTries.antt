-- What a reader may rely on after `from_rows`: the lent columns, cut to the counts, are the trie of the rows; that trie is
-- sound, so `encode` never refuses it with 8; looking a string up in it is looking it up in the row list; and so the ids of a
-- word are those over the row list. The cut is the trie since N nodes have N places of each node column and N - 1 edges, and
-- the rest of each column is behind them. Assumes nothing.
use Rattle.std.specs.Prelude.{None, Some, Ok, ℕ}
use mathlib.Core.Path.{◌≡◌, refl, ap, ◌∙◌}
use mathlib.Core.Bool.{true, false}
use mathlib.Core.List.{List}
use Prim.Native.Nat.{ℕ}
use Rattle.refusal.specs.declared.Fault.TheVariants as fault
use Rattle.refusal.proofs.Lists.{zero_one}
use Rattle.trie.specs.Trie.{Trie, id_of}
use Rattle.trie.specs.Sound.{sound}
use Rattle.rows.specs.declared.Kind.TheVariants.{WordPiece}
use Rattle.rows.specs.Rows.{Row, first_bad}
use Rattle.rows.specs.Columns.{Columns, rows_of, columns_fault}
use Rattle.build.specs.Grown.{Bytes}
use Rattle.build.specs.Rules.{last_id, wordpiece_trie}
use Rattle.build.specs.Memory.{Memory}
use Rattle.build.specs.Promise.{trie_in}
use Rattle.build.proofs.Lookups.{wordpiece-lookup}
use Rattle.build.proofs.Judging.{rows-fine, few-rows, ids-marked}
use Rattle.build.proofs.Promises as builds
use Rattle.build.proofs.BuiltTries.{parts_in, rows-sound}
use Rattle.build.proofs.BuiltTries as left
use Rattle.wordpiece.specs.Build.{Built}
use Rattle.wordpiece.specs.Pieces.{ids_of}
use Rattle.wordpiece.specs.Encode.{encode_fault}
use Rattle.wordpiece.proofs.Faults.{sound-fault}
use Rattle.wordpiece.proofs.Turns.{ids-same}

-- ---- the trie of fine rows

module _ (tab : List ℕ) (rows : List Row) (bytes : Bytes tab) (fine : first_bad WordPiece tab 0 rows ≡ None) where
  pub rows-lookup : (s : List ℕ) → id_of (wordpiece_trie tab rows) s ≡ last_id tab rows s
  rows-lookup = wordpiece-lookup tab rows bytes (ids-marked tab rows fine)

  -- the ids of a word are those that the row list itself gives
  pub ids-of-rows :
      (unknown max_chars : ℕ) (prefix w : List ℕ)
      → ids_of (id_of (wordpiece_trie tab rows)) unknown max_chars prefix w
      ≡ ids_of (last_id tab rows) unknown max_chars prefix w
  ids-of-rows = ids-same (id_of (wordpiece_trie tab rows)) (last_id tab rows) rows-lookup

-- ---- sound parts are not refused with 8

pub sound-not-refused :
    (t : Trie) (prefix w : List ℕ) (places : ℕ) → sound t ≡ true → encode_fault (sound t) prefix w places ≡ Some fault.Trie → ⊥
sound-not-refused t prefix w places s e =
    let z : true ≡ false = sound-fault (sound t) prefix w places s e in
    zero_one cc

-- ---- after a build

module _ (tab : List ℕ) (c : Columns) (m after : Memory) (n : ℕ) (bytes : Bytes tab) (b : Built tab c m (Ok n) after) where
  -- a list that was built has no fault
  pub built-fine : columns_fault WordPiece tab c ≡ None
  built-fine = builds.built-fine b refl

  -- the lent columns, cut to the counts, are the trie of the rows
  pub built-parts : parts_in n after ≡ wordpiece_trie tab (rows_of c)
  unfolding trie_in
  built-parts = left.built-parts b refl (builds.built-says b refl) bytes

  pub built-sound : sound (parts_in n after) ≡ true
  unfolding trie_in
  built-sound =
      ap sound built-parts
      ∙ rows-sound tab (rows_of c) bytes WordPiece (few-rows WordPiece tab c built-fine) (rows-fine WordPiece tab c built-fine)

  -- `encode` does not refuse it with 8
  pub built-not-refused :
      (prefix w : List ℕ) (places : ℕ) → encode_fault (sound (parts_in n after)) prefix w places ≡ Some fault.Trie → ⊥
  built-not-refused prefix w places = sound-not-refused (parts_in n after) prefix w places built-sound

  -- a string has in it the id that the row list gives it
  pub built-lookup : (s : List ℕ) → id_of (parts_in n after) s ≡ last_id tab (rows_of c) s
  built-lookup s =
      ap (λ (t : Trie). id_of t s) built-parts ∙ rows-lookup tab (rows_of c) bytes (rows-fine WordPiece tab c built-fine) s

  -- and so a word has in it the ids that the row list gives it
  pub built-ids :
      (unknown max_chars : ℕ) (prefix w : List ℕ)
      → ids_of (id_of (parts_in n after)) unknown max_chars prefix w
      ≡ ids_of (last_id tab (rows_of c)) unknown max_chars prefix w
  built-ids = ids-same (id_of (parts_in n after)) (last_id tab (rows_of c)) built-lookup
