-- `scored::build` meets its contract: what `judge` finds is refused, and rows without a fault are what the build asks for.
-- Assumes nothing.
use Rattle.std.proofs.lemmas.Result.{err_from_is_err_and}
use Rattle.std.specs.Result.{result_err}
use Rattle.std.specs.Prelude.{None}
use mathlib.Core.Path.{◌≡◌, sym, ap, ◌∙◌, subst}
use mathlib.Core.Bool.{Bool, true}
use mathlib.Core.List.{List}
use Prim.Native.Nat.{ℕ}
use lib.ListN.{length, replicate}
use Rattle.rows.specs.declared.Kind.TheVariants.{Unigram}
use Rattle.rows.specs.Columns.{Columns, rows_of, columns_fault}
use Rattle.rows.specs.Answers.{columns_in}
use Rattle.rows.proofs.ListFaults.{all-scored}
use Rattle.rows.proofs.NeverRoom.{columns-not-room}
use Rattle.build.proofs.Promises.{built-bad}
use Rattle.scored.specs.Build.{told}
use Rattle.scored.proofs.build.Goals as goal

-- without a fault each row has a score for its worth
all : (tab : List ℕ) (c : Columns) → columns_fault Unigram tab c ≡ None
    → columns_fault Unigram tab (record { off = c.off; len = c.len; scored = replicate (length c.off) true; score = c.score; id = c.id }) ≡ None
all tab c fine =
    subst
    (λ (k : List Bool).
    columns_fault Unigram tab (record { off = c.off; len = c.len; scored = k; score = c.score; id = c.id }) ≡ None)
    (all-scored tab c fine) fine

pub build_rows-requires : goal.build_rows-requires
build_rows-requires c = all c.args.tab.now (columns_in c.args.lists.now) (sym c.judge.ensures ∙ ap result_err c.in_ok-judge.was)

pub returns-in_err-judge : goal.returns-in_err-judge
unfolding told
returns-in_err-judge c =
    let p = err_from_is_err_and c.from_residual.result c.from_residual.ensures.1 in
    let lists = columns_in c.args.lists.now in
    let is = sym c.judge.ensures ∙ ap result_err c.in_err-judge.was in
    rw (p.1, p.2) (built-bad Unigram c.args.tab.now (rows_of lists) _ _ is (columns-not-room Unigram c.args.tab.now lists _ is))

pub returns : goal.returns
returns c =
    let fine = sym c.judge.ensures ∙ ap result_err c.in_ok-judge.was in
    rw (all-scored c.args.tab.now (columns_in c.args.lists.now) fine) c.build_rows.ensures
