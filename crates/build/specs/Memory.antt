-- The memory that a build is lent, when it is too little, and what it holds afterwards. Definitions only; assumes nothing.
use Rattle.std.specs.Prelude.{ℕ, ◌-◌, ◌*◌, Bool, false, ◌||◌, cond, List, [], ◌∷◌, ltb, eqb, Float, length, Option, None, Some}
use Rattle.doubles.specs.Double.{Double, plus_zero}
use Rattle.doubles.specs.Units.{scores_had, scores_is}
use Rattle.std.specs.Borrow.{MutBor}
use Rattle.refusal.specs.Lent.{LentMut, had, is}
use Rattle.refusal.specs.declared.Reason.{Reason}
use Rattle.refusal.specs.Refusal.{number_of}
use Rattle.refusal.specs.Places.{zeroed, filled}
use Rattle.trie.specs.Trie.{Trie, parts_of}

-- The lent node columns, edge columns and work places. Each may be longer than is needed, and of a length of its own. Where no
-- score column is lent, it is empty here.
pub record Memory : Type 0 where
  pub parts : Trie
  pub score : List Double
  pub work : List ℕ

abbrev pub memory : List ℕ → List ℕ → List ℕ → List ℕ → List ℕ → List ℕ → Memory
memory edge_at edge_n id byte to work = record { parts = parts_of edge_at edge_n id byte to; score = []; work = work }

-- a memory with a score column
abbrev pub with_scores : Memory → List Double → Memory
with_scores m score = record { parts = m.parts; score = score; work = m.work }

-- the same as a contract names the columns: as the call found them, as it left them, and in a `requires`
abbrev pub memory_was : LentMut ℕ → LentMut ℕ → LentMut ℕ → LentMut ℕ → LentMut ℕ → LentMut ℕ → Memory
memory_was edge_at edge_n id byte to work = memory (had edge_at) (had edge_n) (had id) (had byte) (had to) (had work)

abbrev pub memory_is : LentMut ℕ → LentMut ℕ → LentMut ℕ → LentMut ℕ → LentMut ℕ → LentMut ℕ → Memory
memory_is edge_at edge_n id byte to work = memory (is edge_at) (is edge_n) (is id) (is byte) (is to) (is work)

abbrev pub memory_now :
    MutBor (List ℕ) → MutBor (List ℕ) → MutBor (List ℕ) → MutBor (List ℕ) → MutBor (List ℕ) → MutBor (List ℕ) → Memory
memory_now edge_at edge_n id byte to work = memory edge_at.now edge_n.now id.now byte.now to.now work.now

-- and with a score column
abbrev pub scored_memory_was : LentMut ℕ → LentMut ℕ → LentMut ℕ → LentMut Float → LentMut ℕ → LentMut ℕ → LentMut ℕ → Memory
scored_memory_was edge_at edge_n id score byte to work =
    with_scores (memory_was edge_at edge_n id byte to work) (scores_had score)

abbrev pub scored_memory_is : LentMut ℕ → LentMut ℕ → LentMut ℕ → LentMut Float → LentMut ℕ → LentMut ℕ → LentMut ℕ → Memory
scored_memory_is edge_at edge_n id score byte to work = with_scores (memory_is edge_at edge_n id byte to work) (scores_is score)

-- one of the lent columns, by its length, has fewer than n places
unfoldable pub any_below : ℕ → List ℕ → Bool
any_below n [] = false
any_below n (l ∷ ls) = ltb l n || any_below n ls

-- 7: "with N nodes needed: fewer than N node, N-1 edge or 2N work places in any lent column"
unfoldable pub no_room : ℕ → Memory → Bool
no_room n m =
    let t = m.parts in
    any_below n (length t.edge_at ∷ length t.edge_n ∷ length t.id ∷ [])
    || any_below (n - 1) (length t.byte ∷ length t.to ∷ []) || ltb (length m.work) (2 * n)

-- the same where a score column is lent
unfoldable pub no_scored_room : ℕ → Memory → Bool
no_scored_room n m = no_room n m || ltb (length m.score) n

abbrev pub zero_scores : List Double → List Double
zero_scores = zeroed plus_zero

-- f of each column of t and the column that is lent for it
abbrev pub columnwise : (List ℕ → List ℕ → List ℕ) → Trie → Trie → Trie
columnwise f t lent =
    parts_of (f t.edge_at lent.edge_at) (f t.edge_n lent.edge_n) (f t.id lent.id) (f t.byte lent.byte)
    (f t.to lent.to)

-- every lent place zero
unfoldable pub cleared : Memory → Memory
cleared m =
    let t = m.parts in
    record { parts = columnwise (λ column lent. zeroed 0 lent) t t; score = zero_scores m.score; work = zeroed 0 m.work }

-- the parts t with these scores: "After an accepted build the work places and all places past the counts are zero."
unfoldable pub holding : Trie → List Double → Memory → Memory
holding t scores m =
    record { parts = columnwise (filled 0) t m.parts; score = filled plus_zero scores m.score; work = zeroed 0 m.work }

-- What a buffer holds after a build: on success; after a refusal, where "refusal 7 leaves every lent node, edge and work place
-- zero" and "every other refusal writes nothing".
unfoldable pub leaves : {A : Type 0} → Option Reason → A → A → A → A
leaves None done zeros before = done
leaves (Some r) done zeros before = cond (eqb (number_of r) 7) zeros before
