-- The rows as the core is given them, and which ids their tokens have once some rows are entered. Definitions only; assumes
-- nothing.
use Rattle.std.specs.Prelude.{cond, List, [], ◌∷◌, ℕ, suc, Option, None, Some}
use Rattle.rows.specs.declared.Kind.{Kind}
use Rattle.rows.specs.declared.Kind.TheVariants.{Unigram, WordPiece}
use Rattle.rows.specs.Rows.{Row, token_of}
use Rattle.rows.specs.Columns.{rows_of}
use Rattle.rows.specs.Answers.{columns}
use Rattle.build.specs.Names.{same}
use Rattle.build.specs.Rules.{id_of_worth}

-- the rows of the columns: a token's span, and the id that WordPiece gives it
abbrev pub given : List ℕ → List ℕ → List ℕ → List Row
given off len ids = rows_of (columns off len [] [] ids)

-- the id that row i gives its token: Unigram its index, WordPiece its own
abbrev pub value_of : Kind → ℕ → ℕ → ℕ
value_of Unigram i own = i
value_of WordPiece i own = own

-- what a node keeps that is given the id v: Unigram its first, WordPiece its last
unfoldable pub kept : Kind → Option ℕ → ℕ → Option ℕ
kept kind None v = Some v
kept Unigram (Some i) v = Some i
kept WordPiece (Some i) v = Some v

-- the ids once the token t is given v; an empty token does nothing
unfoldable pub marked : Kind → List ℕ → ℕ → (List ℕ → Option ℕ) → List ℕ → Option ℕ
marked kind [] v rule s = rule s
marked kind (b ∷ t) v rule s = cond (same s (b ∷ t)) (kept kind (rule s) v) (rule s)

-- the ids once these rows are entered, the first of which is row i
unfoldable pub rules_from : Kind → List ℕ → (List ℕ → Option ℕ) → ℕ → List Row → List ℕ → Option ℕ
rules_from kind tab rule i [] = rule
rules_from kind tab rule i (r ∷ rs) =
    rules_from kind tab (marked kind (token_of tab r) (value_of kind i (id_of_worth r.worth)) rule) (suc i) rs

abbrev pub no_rule : List ℕ → Option ℕ
no_rule s = None
