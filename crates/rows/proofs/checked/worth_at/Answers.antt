-- `rows::checked::worth_at` meets its contract: the places at i are inside their lists, so what is read there is what the
-- definition reads. Assumes nothing.
use native.Mathlib.Omega.{arith}
use Rattle.rows.proofs.RowLists.{lists-level, worth-scored, worth-numbered}
use Rattle.rows.proofs.checked.worth_at.Goals as goal

pub bounds-lists-i : goal.bounds-lists-i
bounds-lists-i c = omega (arith, (lists-level _ _ _ _ _ c.requires.level).scored-level, c.requires.i_in_bounds)

pub bounds-lists-i-then-lists-i : goal.bounds-lists-i-then-lists-i
bounds-lists-i-then-lists-i c = omega (arith, (lists-level _ _ _ _ _ c.requires.level).score-level, c.requires.i_in_bounds)

pub bounds-lists-i-2 : goal.bounds-lists-i-2
bounds-lists-i-2 c = omega (arith, (lists-level _ _ _ _ _ c.requires.level).id-level, c.requires.i_in_bounds)

pub returns-then-lists-i : goal.returns-then-lists-i
returns-then-lists-i c =
    worth-scored _ _ _ _ _ (lists-level _ _ _ _ _ c.requires.level) _ c.requires.i_in_bounds c.if-lists-i.true

pub returns : goal.returns
returns c = worth-numbered _ _ _ _ _ (lists-level _ _ _ _ _ c.requires.level) _ c.requires.i_in_bounds c.if-lists-i.false
