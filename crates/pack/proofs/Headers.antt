-- The header's tests: each way through the code, and what it says of the definitions. Assumes nothing.
use Rattle.std.specs.Prelude.{None, Some}
use mathlib.Core.Path.{◌≡◌, refl, sym, ap, ◌∙◌}
use mathlib.Core.Bool.{Bool, true, false, ◌&&◌, ◌||◌, cond}
use mathlib.Core.List.{List}
use Prim.Native.Nat.{ℕ, ◌+◌, ◌*◌, ◌≤◌, ◌<◌}
use native.Mathlib.Omega.{arith}
use borrow.Author.Tests.{le-leb, eq-eqb, ne_eqb, eqb-true, lt-leb}
use lib.Dec.{leb, eqb}
use lib.ListN.{length}
use Rattle.refusal.specs.Sizes.{max_rows, max_table, max_prefix, above}
use Rattle.refusal.proofs.Tests.{or_left, neither-says}
use Rattle.trie.specs.Sound.{every}
use Rattle.trie.proofs.Every as tests
use Rattle.rows.specs.declared.Kind.{Kind}
use Rattle.rows.specs.declared.Kind.TheVariants.{Unigram, WordPiece}
use Rattle.rows.specs.Columns.{too_large}
use Rattle.rows.proofs.ListFaults.{within-limits}
use Rattle.pack.specs.declared.header.Header.{Header}
use Rattle.pack.specs.Pack.{word, header_of, laid_out, kind_laid_out, kind_of}
use Rattle.pack.specs.Build.{large_header}
use Rattle.pack.specs.Reading.{row_start}

-- ---- where the parts stand

module _ (bytes : List ℕ) (h : Header) where
  module _ (long : 36 ≤ length bytes) where
    pub wrong-rows : (h.rows_off ≡ 36 → ⊥) → false ≡ laid_out bytes h
    unfolding laid_out
    wrong-rows n = rw (le-leb 36 (length bytes) long, ne_eqb h.rows_off 36 n)

    module _ (rows : h.rows_off ≡ 36) where
      pub wrong-strings : (h.strings_off ≡ 36 + 16 * h.rows → ⊥) → false ≡ laid_out bytes h
      unfolding laid_out
      wrong-strings n = rw (le-leb 36 (length bytes) long, eq-eqb h.rows_off 36 rows, ne_eqb h.strings_off (36 + 16 * h.rows) n)

      pub right_end :
          h.strings_off ≡ 36 + 16 * h.rows → eqb (36 + 16 * h.rows + h.strings_len) (length bytes) ≡ laid_out bytes h
      unfolding laid_out
      right_end e =
          rw (le-leb 36 (length bytes) long, eq-eqb h.rows_off 36 rows, eq-eqb h.strings_off (36 + 16 * h.rows) e)
          (ap (λ (s : ℕ). eqb (s + h.strings_len) (length bytes)) (sym e))

  pub too_short : length bytes < 36 → laid_out bytes h ≡ false
  unfolding laid_out
  too_short l = rw (lt-leb 36 (length bytes) l)

  -- what a right layout says
  module _ (laid : laid_out bytes h ≡ true) where
    abbrev long : Bool
    long = leb 36 (length bytes)

    abbrev rows : Bool
    rows = eqb h.rows_off 36

    abbrev strings : Bool
    strings = eqb h.strings_off (36 + 16 * h.rows)

    abbrev ends : Bool
    ends = eqb (h.strings_off + h.strings_len) (length bytes)

    all : (long && rows && strings && ends) ≡ true
    unfolding laid_out
    all = laid

    pub strings-follow : h.strings_off ≡ 36 + 16 * h.rows
    strings-follow = eqb-true h.strings_off (36 + 16 * h.rows) (tests.second (long && rows) strings (tests.first (long && rows && strings) ends all))

    pub strings-end : h.strings_off + h.strings_len ≡ length bytes
    strings-end = eqb-true (h.strings_off + h.strings_len) (length bytes) (tests.second (long && rows && strings) ends all)

    pub rows_inside : row_start h.rows ≤ length bytes
    rows_inside = omega (arith, strings-follow, strings-end)

  -- ---- the kind

  pub kind-bare : {b : Bool} → b ≡ (eqb h.max_chars 0 && eqb h.prefix_off 0 && eqb h.prefix_len 0) → h.kind ≡ 1 → cond b (Some Unigram) None ≡ kind_laid_out bytes h
  unfolding kind_laid_out
  kind-bare e k = rw (eq-eqb h.kind 1 k) (ap (λ (b : Bool). cond b (Some Unigram) None) e)

  module _ (other : h.kind ≡ 1 → ⊥) where
    pub kind-none : (h.kind ≡ 2 → ⊥) → None ≡ kind_laid_out bytes h
    unfolding kind_laid_out
    kind-none k = rw (ne_eqb h.kind 1 other, ne_eqb h.kind 2 k)

    pub kind-padded :
        {b : Bool} → b ≡ every h.rows (λ i. eqb (word bytes (36 + 16 * i + 12)) 0) → h.kind ≡ 2
        → cond b (Some WordPiece) None ≡ kind_laid_out bytes h
    unfolding kind_laid_out
    kind-padded e k = rw (ne_eqb h.kind 1 other, eq-eqb h.kind 2 k) (ap (λ (b : Bool). cond b (Some WordPiece) None) e)

-- ---- the file's own header

module _ (bytes : List ℕ) where
  pub kind-wrong : laid_out bytes (header_of bytes) ≡ false → kind_of bytes ≡ None
  unfolding kind_of
  kind-wrong e = rw (e, kind_of)

  pub kind-right : laid_out bytes (header_of bytes) ≡ true → kind_of bytes ≡ kind_laid_out bytes (header_of bytes)
  unfolding kind_of
  kind-right e = rw (e, kind_of)

  pub kind-laid : {kind : Kind} → kind_of bytes ≡ Some kind → laid_out bytes (header_of bytes) ≡ true
  kind-laid {kind = kind} e = go (laid_out bytes (header_of bytes)) refl
    where
      go : (b : Bool) → laid_out bytes (header_of bytes) ≡ b → b ≡ true
      go true p = refl
      go false p = let z : None ≡ Some kind = sym (kind-wrong p) ∙ e in cc

-- ---- the sizes

module _ (h : Header) where
  abbrev sizes : Bool
  sizes = too_large h.rows h.strings_len

  pub by-sizes : sizes ≡ true → true ≡ large_header h
  by-sizes e = sym (or_left sizes (above max_prefix h.prefix_len) e)

  pub by-prefix : sizes ≡ false → above max_prefix h.prefix_len ≡ large_header h
  by-prefix e = sym (ap (λ (b : Bool). b || above max_prefix h.prefix_len) e)

  -- what is known where none is
  module _ (fits : large_header h ≡ false) where
    tested : (sizes ≡ false) × (above max_prefix h.prefix_len ≡ false)
    tested = neither-says sizes (above max_prefix h.prefix_len) fits

    pub few-rows : h.rows ≤ max_rows
    few-rows = (within-limits h.rows h.strings_len tested.0).0

    pub small-table : h.strings_len ≤ max_table
    small-table = (within-limits h.rows h.strings_len tested.0).1
