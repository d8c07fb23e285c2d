-- `text::utf8::step` meets its contract: where `character_at` finds a character it is passed, and the runs after it; where it
-- finds none, nothing from there on is valid. Assumes nothing.
use mathlib.Core.Path.{sym}
use Prim.Native.Nat.{◌+◌}
use native.Mathlib.Omega.{arith}
use Rattle.text.proofs.Passing.{passed_none, passed_on, passed-character}
use Rattle.text.proofs.Valid.{valid-stop, turn_inside}
use Rattle.text.proofs.utf8.step.Goals as goal

pub overflow_add-i : goal.overflow_add-i
overflow_add-i c = omega (arith, turn_inside c.args.s.now c.args.i c.character_at.result (sym c.character_at.ensures) (omega arith))

pub past_runs-requires : goal.past_runs-requires
past_runs-requires c = turn_inside c.args.s.now c.args.i c.character_at.result (sym c.character_at.ensures) (omega arith)

pub returns-in-0 : goal.returns-in-0
returns-in-0 c = record {
  passed = passed_none c.args.s.now c.args.i (omega arith);
  stuck = λ e. grind (arith, valid-stop);
}

pub returns-in_default : goal.returns-in_default
returns-in_default c =
    let a = c.args in
    let n = c.character_at.result in
    let runs = c.past_runs.ensures in
    record {
      passed = passed_on a.s.now a.i (a.i + n) c.past_runs.result (passed-character a.s.now a.i n (sym c.character_at.ensures) (omega arith)) runs;
      stuck = λ q. absurd (omega (arith, runs.above));
    }
