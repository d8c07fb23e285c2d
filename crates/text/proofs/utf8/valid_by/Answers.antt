-- `text::utf8::valid_by` meets its contract: a step that stays, or the end, is where nothing more is valid. Assumes nothing.
use mathlib.Core.Path.{◌≡◌, refl}
use Prim.Native.Nat.{◌<◌}
use native.Mathlib.Omega.{arith}
use lib.ListN.{length, drop}
use Rattle.std.proofs.Common.{rules}
use Rattle.text.specs.Passing.{Stepped}
use Rattle.text.specs.Text.{valid_up_to}
use Rattle.text.proofs.Valid.{valid-past}
use Rattle.text.proofs.utf8.valid_by.Goals as goal

pub returns : goal.returns
returns c =
    let s = c.args.s.now in
    let at = c.past_steps.result in
    let last : at < length s → valid_up_to (drop at s) ≡ 0 = λ h.
    let stays : Stepped s at at = search (rules, c.past_steps.ensures.last (omega arith)) in stays.stuck refl
    in
    grind (arith, c.past_steps.ensures.passed.same, valid-past)
