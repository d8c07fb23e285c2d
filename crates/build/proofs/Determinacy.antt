-- A build is determined: two outcomes that meet the promise on the same rows, room and memory are equal. Assumes nothing.
use Rattle.std.specs.Prelude.{Option, ℕ}
use mathlib.Core.Path.{◌≡◌, sym, ◌∙◌}
use mathlib.Core.List.{List}
use Prim.Native.Nat.{ℕ}
use Rattle.rows.specs.declared.Kind.{Kind}
use Rattle.rows.specs.Rows.{Row}
use Rattle.build.specs.Memory.{Memory}
use Rattle.build.specs.Checked.{BuiltOf}

module _ (kind : Kind) (tab : List ℕ) (rows : List Row) (room : ℕ) (before after after' : Memory) (answer answer' : Option ℕ)
    (p : BuiltOf kind tab rows room before after answer) (q : BuiltOf kind tab rows room before after' answer') where
  pub one_answer : answer ≡ answer'
  one_answer = p.answered ∙ sym q.answered

  pub one-memory : after ≡ after'
  one-memory = p.left ∙ sym q.left
