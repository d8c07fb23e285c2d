-- `cutting::path::write` meets its contract. The loop's invariant: the pieces done and those before `at` are all, and the
-- places after those before `at` are written. The start of a record lies below it, so `at` falls. Assumes nothing.
use mathlib.Core.Path.{◌≡◌, refl, sym, ap, ◌∙◌}
use mathlib.Core.List.{List, ◌∷◌, [], ◌++◌}
use Prim.Native.Nat.{ℕ, suc, ◌+◌, ◌-◌, ◌<◌}
use native.Mathlib.Omega.{arith}
use lib.ListN.{length, get_or, drop, set, length-set}
use Rattle.cutting.specs.Tracing.{ends_from}
use Rattle.cutting.proofs.Tracing.{ends-first, written_back, Turn, turn}
use Rattle.cutting.proofs.path.write.Goals as goal

pub overflow_sub-k : goal.overflow_sub-k
overflow_sub-k c =
    let back : let s = c.args.start.now in Turn s c.args.n c.loop-at.at (get_or s c.loop-at.at 0) = turn c.requires.0 c.loop-at.at c.loop-at-test.true c.loop-at.invariant.0 in
    let left : let a = c.args in let i = get_or a.start.now c.loop-at.at 0 in c.loop-at.done + suc (length (ends_from a.start.now i i)) ≡ a.pieces = omega (arith, c.loop-at.invariant.2, (back).many) in
    let l = left in omega arith

pub bounds-path-k : goal.bounds-path-k
bounds-path-k c =
    let back : let s = c.args.start.now in Turn s c.args.n c.loop-at.at (get_or s c.loop-at.at 0) = turn c.requires.0 c.loop-at.at c.loop-at-test.true c.loop-at.invariant.0 in
    let left : let a = c.args in let i = get_or a.start.now c.loop-at.at 0 in c.loop-at.done + suc (length (ends_from a.start.now i i)) ≡ a.pieces = omega (arith, c.loop-at.invariant.2, (back).many) in
    let l = left in omega (arith, c.loop-at.invariant.1, c.requires.2)

pub loop-at-smaller : goal.loop-at-smaller
loop-at-smaller c =
    let back : let s = c.args.start.now in Turn s c.args.n c.loop-at.at (get_or s c.loop-at.at 0) = turn c.requires.0 c.loop-at.at c.loop-at-test.true c.loop-at.invariant.0 in
    (back).below

pub loop-at-preserved : goal.loop-at-preserved
loop-at-preserved c =
    let back : let s = c.args.start.now in Turn s c.args.n c.loop-at.at (get_or s c.loop-at.at 0) = turn c.requires.0 c.loop-at.at c.loop-at-test.true c.loop-at.invariant.0 in
    let left : let a = c.args in let i = get_or a.start.now c.loop-at.at 0 in c.loop-at.done + suc (length (ends_from a.start.now i i)) ≡ a.pieces = omega (arith, c.loop-at.invariant.2, (back).many) in
    let s = c.args.start.now in
    let i = get_or s c.loop-at.at 0 in
    let es = ends_from s i i in
    let one : c.loop-at.done + suc (length es) ≡ c.args.pieces = left in
    let place : c.args.pieces - (c.loop-at.done + 1) ≡ length es = omega arith in
    let room : length es < length c.loop-at.path = omega (arith, c.loop-at.invariant.1, c.requires.2) in (
      (back).come,
      simp length-set c.loop-at.invariant.1,
      omega arith,
      c.loop-at.invariant.3
          ∙ ap (λ (u : List ℕ). u ++ drop (length (ends_from s c.loop-at.at c.loop-at.at)) c.loop-at.path) (back).ends
          ∙ ap (λ (k : ℕ). (es ++ (c.loop-at.at ∷ [])) ++ drop k c.loop-at.path) (back).many
          ∙ written_back es c.loop-at.at c.loop-at.path (length es) refl room
          ∙ ap (λ (k : ℕ). es ++ drop (length es) (set c.loop-at.path k c.loop-at.at)) (sym place),
    )

pub returns : goal.returns
returns c = let s = c.args.start.now in
    let z : c.loop-at.at ≡ 0 = omega (arith, c.loop-at-test.false) in
    let none_left : ends_from s c.loop-at.at c.loop-at.at ≡ [] = ap (λ (j : ℕ). ends_from s j j) z ∙ ends-first s 0 in
    sym (c.loop-at.invariant.3 ∙ ap (λ (es : List ℕ). es ++ drop (length es) c.loop-at.path) none_left)
