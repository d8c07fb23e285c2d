-- The paper's "Table of proved examples", row for row. Definitions only; assumes nothing.
use Rattle.std.specs.Prelude.{ℕ, ◌*◌, true, false, List, [], ◌∷◌, None, Some}
use Prim.Native.String.{String}
use Rattle.doubles.specs.Double.{Double, finite, one, of_pattern}
use Rattle.text.specs.Ascii.{ascii}
use Rattle.rows.specs.declared.Kind.TheVariants.{Unigram, WordPiece}
use Rattle.rows.specs.Rows.{score, id}
use Rattle.worked.specs.Example.{Entry, Given, Example}

infix 70 ◌scores◌ ◌has◌ ◌gives◌
abbrev pub plus : ℕ → Double
plus n = finite false (n * one)

abbrev pub minus : ℕ → Double
minus n = finite true (n * one)

-- the doubles 0.1, 0.2 and 0.3, by their bits
abbrev pub tenths1 : Double
tenths1 = of_pattern 0x3FB9_9999_9999_999A

abbrev pub tenths2 : Double
tenths2 = of_pattern 0x3FC9_9999_9999_999A

abbrev pub tenths3 : Double
tenths3 = of_pattern 0x3FD3_3333_3333_3333

-- "éé"
abbrev pub éé : List ℕ
éé = 0xC3 ∷ 0xA9 ∷ 0xC3 ∷ 0xA9 ∷ []

-- a token with a score, a token with an id
abbrev pub ◌scores◌ : String → Double → Entry
t scores x = record { token = ascii t; worth = score x }

abbrev pub ◌has◌ : String → ℕ → Entry
t has i = record { token = ascii t; worth = id i }

-- a text gives ids; WordPiece's max_chars is 100 unless said
abbrev pub ◌gives◌ : String → List ℕ → Given
t gives ids = record { text = ascii t; max_chars = 100; ids = ids; score = None }

-- "Unigram, unknown id 0 and row 0 `<unk>` score 0 unless said"
abbrev pub unigram : List Entry → List Given → Example
unigram es gs = record { kind = Unigram; entries = es; unknown = 0; prefix = []; given = gs; unknown_score = None }

abbrev pub unk : Entry
unk = "<unk>" scores plus 0

-- "WordPiece, prefix `##`, unknown 0, max_chars 100"
abbrev pub wordpiece : List Entry → List Given → Example
wordpiece es gs = record { kind = WordPiece; entries = es; unknown = 0; prefix = ascii "##"; given = gs; unknown_score = None }

unfoldable pub table : List Example
table =
    -- 1. a -1, b -1, ab -2; `ab` gives 3.
    unigram (unk ∷ "a" scores minus 1 ∷ "b" scores minus 1 ∷ "ab" scores minus 2 ∷ []) ("ab" gives (3 ∷ []) ∷ [])
    -- 2. a -1, ab -2, bc -2, c -1; `abc` gives 1 3.
    ∷ unigram (unk ∷ "a" scores minus 1 ∷ "ab" scores minus 2 ∷ "bc" scores minus 2 ∷ "c" scores minus 1 ∷ [])
    ("abc" gives (1 ∷ 3 ∷ []) ∷ [])
    -- 3. a 0.1, b 0.2, ab 0.3; `ab` gives 1 2, for the rounded sum is larger.
    ∷ unigram (unk ∷ "a" scores tenths1 ∷ "b" scores tenths2 ∷ "ab" scores tenths3 ∷ []) ("ab" gives (1 ∷ 2 ∷ []) ∷ [])
    -- 4. a -1; `xya` gives 0 1.
    ∷ unigram (unk ∷ "a" scores minus 1 ∷ []) ("xya" gives (0 ∷ 1 ∷ []) ∷ [])
    -- 5. `<unk>` 30, ab 30; `ab` gives 1 (merged), `abab` gives 0.
    ∷ unigram ("<unk>" scores plus 30 ∷ "ab" scores plus 30 ∷ []) ("ab" gives (1 ∷ []) ∷ "abab" gives (0 ∷ []) ∷ [])
    -- 6. x -1; `q<unk>` gives 0.
    ∷ unigram (unk ∷ "x" scores minus 1 ∷ []) ("q<unk>" gives (0 ∷ []) ∷ [])
    -- 7. a -3, a -1; `a` gives 1, and its record's score is -3.
    ∷ unigram (unk ∷ "a" scores minus 3 ∷ "a" scores minus 1 ∷ [])
    (record { text = ascii "a"; max_chars = 100; ids = 1 ∷ []; score = Some (minus 3) } ∷ [])
    -- 8. Rows empty -50, a -1, unknown 7; `x` gives 7, unknown score -60.
    ∷ record {
      kind = Unigram;
      entries = "" scores minus 50 ∷ "a" scores minus 1 ∷ [];
      unknown = 7;
      prefix = [];
      given = "x" gives (7 ∷ []) ∷ [];
      unknown_score = Some (minus 60);
    }
    -- 9. ab 1, abc 2, ##cd 3; `abcd` gives 0.
    ∷ wordpiece ("ab" has 1 ∷ "abc" has 2 ∷ "##cd" has 3 ∷ []) ("abcd" gives (0 ∷ []) ∷ [])
    -- 10. un 1, ##able 2; the word `##able` gives 2.
    ∷ wordpiece ("un" has 1 ∷ "##able" has 2 ∷ []) ("##able" gives (2 ∷ []) ∷ [])
    -- 11. a 1, a 2; `a` gives 2.
    ∷ wordpiece ("a" has 1 ∷ "a" has 2 ∷ []) ("a" gives (2 ∷ []) ∷ [])
    -- 12. éé 5; `éé` gives 5 at max_chars 2 and 0 at 1.
    ∷ wordpiece (record { token = éé; worth = id 5 } ∷ [])
    (record { text = éé; max_chars = 2; ids = 5 ∷ []; score = None }
    ∷ record { text = éé; max_chars = 1; ids = 0 ∷ []; score = None } ∷ [])
    ∷ []
