-- What the core's answer says of the nodes that the rows need. Assumes nothing.
use Rattle.std.specs.Prelude.{Option, Some, None, ℕ}
use mathlib.Core.Path.{◌≡◌, refl, sym, ap, ◌∙◌}
use mathlib.Core.Bool.{Bool, true, false, cond}
use mathlib.Core.List.{List}
use Prim.Native.Nat.{ℕ, ◌≤◌}
use native.Mathlib.Omega.{arith}
use borrow.Author.Tests.{ltb-false}
use lib.Dec.{ltb}
use Rattle.refusal.proofs.Lists.{zero_one}
use Rattle.rows.specs.declared.Kind.{Kind}
use Rattle.rows.specs.Rows.{Row}
use Rattle.build.specs.Memory.{Memory}
use Rattle.build.specs.Checked.{nodes_of, BuiltOf}

module _ {kind : Kind} {tab : List ℕ} {rows : List Row} {room : ℕ} {before after : Memory} {answer : Option ℕ}
    (d : BuiltOf kind tab rows room before after answer)
  where
    abbrev nodes : ℕ
    nodes = nodes_of tab rows

    -- no room is answered where the rows need more nodes than fit
    pub core-full : answer ≡ None → ltb room nodes ≡ true
    core-full e = go (ltb room nodes) refl
      where
        go : (t : Bool) → ltb room nodes ≡ t → t ≡ true
        go true p = refl
        go false p =
            let z : None ≡ Some nodes = sym e ∙ d.answered ∙ ap (λ (t : Bool). cond t None (Some nodes)) p in
            absurd (zero_one cc)

    -- a number of nodes is answered where they fit, and it is theirs
    pub core-fits : {n : ℕ} → answer ≡ Some n → (ltb room nodes ≡ false) × (n ≡ nodes)
    core-fits {n = n} e = go (ltb room nodes) refl
      where
        go : (t : Bool) → ltb room nodes ≡ t → (t ≡ false) × (n ≡ nodes)
        go true p =
            let z : Some n ≡ None = sym e ∙ d.answered ∙ ap (λ (t : Bool). cond t None (Some nodes)) p in
            absurd (zero_one cc)
        go false p =
            let z : Some n ≡ Some nodes = sym e ∙ d.answered ∙ ap (λ (t : Bool). cond t None (Some nodes)) p in
            (refl, cc)

    -- they are no more than the room
    pub core-room : {n : ℕ} → answer ≡ Some n → n ≤ room
    core-room e = let w = core-fits e in omega (arith, w.1, ltb-false room nodes w.0)
