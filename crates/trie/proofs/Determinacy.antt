-- The promise of a look-up fixes its answer: it is an equation with a value of the inputs.
use Rattle.refusal.specs.declared.Fault.{Fault}
use Rattle.std.specs.Prelude.{Result, Option, ℕ}
use mathlib.Core.Path.{◌≡◌, sym, ◌∙◌}
use Prim.Native.Nat.{ℕ}
use mathlib.Core.Bool.{Bool}
use mathlib.Core.List.{List}
use Rattle.trie.specs.Trie.{Trie}
use Rattle.trie.specs.Lookup.{LookedUp}

pub looked-up-once :
    {sound_parts : Bool} {t : Trie} {s : List ℕ} {a b : Result (Option ℕ) Fault} → LookedUp sound_parts t s a
    → LookedUp sound_parts t s b → a ≡ b
looked-up-once p q = p.answered ∙ sym q.answered
