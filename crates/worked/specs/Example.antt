-- What an example is, and what it is for one to hold. Definitions only; assumes nothing.
use Rattle.std.specs.Prelude.{ℕ, ◌+◌, Bool, true, false, ◌&&◌, length, Option, None, Some}
use mathlib.Core.List.{List, [], ◌∷◌, map, flatten}
use Rattle.doubles.specs.Double.{Double, same}
use Rattle.trie.specs.Trie.{id_of}
use Rattle.trie.specs.Sound.{sound}
use Rattle.rows.specs.declared.Kind.{Kind}
use Rattle.rows.specs.declared.Kind.TheVariants.{Unigram, WordPiece}
use Rattle.rows.specs.Rows.{Row, Worth, first_bad}
use Rattle.rows.specs.Scores.{unknown_score}
use Rattle.build.specs.Names as names
use Rattle.build.specs.Rules.{scores_of, unigram_trie, unigram_scores, wordpiece_trie}
use Rattle.cutting.specs.Records.{best, shown}
use Rattle.unigram.specs.Pieces as unigram
use Rattle.unigram.specs.Segment.{lengths, segment_fault, sound_model}
use Rattle.wordpiece.specs.Pieces as wordpiece
use Rattle.wordpiece.specs.Encode.{encode_fault}

-- a row of the vocabulary
pub record Entry : Type 0 where
  pub token : List ℕ
  pub worth : Worth

-- a text and the ids that it gives; at which max_chars (for WordPiece); and the score of its last record, where the paper gives
-- it
pub record Given : Type 0 where
  pub text : List ℕ
  pub max_chars : ℕ
  pub ids : List ℕ
  pub score : Option Double

pub record Example : Type 0 where
  pub kind : Kind
  pub entries : List Entry
  pub unknown : ℕ
  pub prefix : List ℕ
  pub given : List Given
  pub unknown_score : Option Double

-- the tokens end to end are the string table, and the first of these rows begins at `at`
unfoldable pub table_of : List Entry → List ℕ
table_of es = flatten (map (λ e. e.token) es)

unfoldable pub rows_at : ℕ → List Entry → List Row
rows_at at [] = []
rows_at at (e ∷ es) = record { off = at; len = length e.token; worth = e.worth } ∷ rows_at (at + length e.token) es

unfoldable pub is_none : {A : Type 0} → Option A → Bool
is_none None = true
is_none (Some x) = false

-- the score is the expected one, where one is expected
unfoldable pub score_is : Option Double → Double → Bool
score_is None x = true
score_is (Some y) x = same x y

unfoldable pub all_of : {A : Type 0} → (A → Bool) → List A → Bool
all_of test [] = true
all_of test (x ∷ xs) = test x && all_of test xs

-- places enough for every text here
abbrev pub places : ℕ
places = 32

unfoldable pub example_model : Example → unigram.Model
example_model x =
    let tab = table_of x.entries in
    let rows = rows_at 0 x.entries in
    record {
      trie = unigram_trie tab rows;
      score = unigram_scores tab rows;
      unknown = record { id = x.unknown; score = unknown_score (scores_of rows) };
    }

-- the text is accepted, gives these ids, and its last record has this score
unfoldable pub unigram_holds : unigram.Model → Given → Bool
unigram_holds m g =
    let s = g.text in
    let n = length s in
    is_none (segment_fault (sound_model m) s (lengths places places places places places))
    && names.same (unigram.ids_of m s) g.ids
    && score_is g.score (shown (best (unigram.rule m s) n n)).score

-- the word is accepted and gives these ids
unfoldable pub wordpiece_holds : Example → Given → Bool
wordpiece_holds x g =
    let t = wordpiece_trie (table_of x.entries) (rows_at 0 x.entries) in
    is_none (encode_fault (sound t) x.prefix g.text places)
    && names.same (wordpiece.ids_of (id_of t) x.unknown g.max_chars x.prefix g.text) g.ids

unfoldable pub kind_holds : Kind → Example → Bool
kind_holds Unigram x =
    let m = example_model x in
    score_is x.unknown_score m.unknown.score && all_of (unigram_holds m) x.given
kind_holds WordPiece x = all_of (wordpiece_holds x) x.given

-- an example holds: its rows are accepted, and every text gives what it should
unfoldable pub holds : Example → Bool
holds x = is_none (first_bad x.kind (table_of x.entries) 0 (rows_at 0 x.entries)) && kind_holds x.kind x
