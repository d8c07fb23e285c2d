-- `rows::columns::judge` meets its contract: each return is what its test finds, and past the sizes the first bad row decides.
-- Assumes nothing.
use mathlib.Core.Path.{sym, ◌∙◌}
use Rattle.rows.specs.Answers.{columns_in}
use Rattle.rows.proofs.ListFaults.{too_large_found, uneven, within-sizes}
use Rattle.rows.proofs.columns.judge.Goals as goal
use Rattle.rows.proofs.columns.judge.Goals.{then-is_large-via-then-is_large, then-is_large-via-else-is_large+then-not-is_level}

pub returns-then-is_large : goal.returns-then-is_large
returns-then-is_large c =
    let lists = columns_in c.args.lists.now in
    elim c.then-is_large.branch [
      | then-is_large-via-then-is_large w ↦
          sym (too_large_found c.args.kind c.args.tab.now lists (sym c.is_large.ensures ∙ w.if-is_large.true))
      | then-is_large-via-else-is_large+then-not-is_level w ↦
          sym (uneven c.args.kind c.args.tab.now lists (sym w.is_level.ensures ∙ w.if-not-is_level.true))
    ]

pub returns : goal.returns
returns c =
    c.first_bad.ensures
    ∙ sym
    (within-sizes c.args.kind c.args.tab.now (columns_in c.args.lists.now) (sym c.is_large.ensures ∙ c.if-is_large.false)
    (sym c.is_level.ensures ∙ c.if-not-is_level.false))
