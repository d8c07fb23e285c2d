-- Lent columns as a contract names them: a parameter that refers to something is, in an `ensures`, the reference as the call
-- found it and as the call left it. Definitions only; assumes nothing.
use Rattle.std.specs.Prelude.{List}
use Rattle.std.specs.Borrow.{Bor, MutBor}
use denote.Triple.Both.{Both}

-- a lent column that is only read, by what it holds
abbrev pub Lent : Type 0 → Type 0
Lent A = Both (Bor (List A)) (Bor (List A))

-- what it held when the call began, and holds when it has ended
abbrev pub was : {A : Type 0} → Lent A → List A
was x = x.entry.now

-- a lent column that may be written, by what it holds
abbrev pub LentMut : Type 0 → Type 0
LentMut A = Both (MutBor (List A)) (MutBor (List A))

-- what it held when the call began
abbrev pub had : {A : Type 0} → LentMut A → List A
had x = x.entry.now

-- what it holds when the call has ended
abbrev pub is : {A : Type 0} → LentMut A → List A
is x = x.exit.now
