-- Faults tested one after the other: a test that finds its fault, one that does not, and what is known where none is found.
-- Then what an answer tells of the fault. Assumes nothing.
use Rattle.std.specs.Result.{result_err}
use Rattle.std.specs.Prelude.{Option, None, Some, Result, ⊤, Ok, Err}
use mathlib.Core.Path.{◌≡◌, refl, sym, ap, ◌∙◌, subst}
use mathlib.Core.Bool.{Bool, true, false, ◌||◌}
use mathlib.Core.Logic.{◌↔◌}
use Prim.Native.Nat.{ℕ}
use lib.Dec.{eqb}
use Rattle.refusal.specs.declared.Fault.{Fault}
use Rattle.refusal.specs.declared.Reason.{Reason}
use Rattle.refusal.specs.Refusal.{number, fault_of, called, refuse, first}
use Rattle.refusal.proofs.Lists.{zero_one}

-- ---- of two tests, either or neither

pub or_left : (a b : Bool) → a ≡ true → (a || b) ≡ true
or_left a b e = rw e

pub or_right : (a b : Bool) → b ≡ true → (a || b) ≡ true
or_right true b e = refl
or_right false b e = e

pub neither : (a b : Bool) → a ≡ false → b ≡ false → (a || b) ≡ false
neither a b e f = rw (e, f)

pub neither-says : (a b : Bool) → (a || b) ≡ false → (a ≡ false) × (b ≡ false)
neither-says true b e = (cc, cc)
neither-says false b e = (refl, e)

-- ---- one test after the other

module _ {A : Type 0} (test : Bool) (f : A) (later : Option A) where
  -- a test that finds something decides
  pub found : test ≡ true → refuse test f later ≡ Some f
  unfolding refuse
  found e = ap (λ (b : Bool). refuse b f later) e

  pub not_found : test ≡ false → refuse test f later ≡ later
  unfolding refuse
  not_found e = ap (λ (b : Bool). refuse b f later) e

-- nothing is refused where no test finds anything, and then no test did
pub passed : {A : Type 0} (test : Bool) (f : A) (later : Option A) → refuse test f later ≡ None → (test ≡ false) × (later ≡ None)
unfolding refuse
passed true f later e = (cc, cc)
passed false f later e = (refl, e)

-- what is found first decides, and where it is nothing, the later
module _ {A : Type 0} {o : Option A} (later : Option A) where
  pub found_first : {f : A} → o ≡ Some f → first o later ≡ Some f
  unfolding first
  found_first e = ap (λ (x : Option A). first x later) e

  pub none_first : o ≡ None → first o later ≡ later
  unfolding first
  none_first e = ap (λ (x : Option A). first x later) e

pub both-passed : {A : Type 0} (o later : Option A) → first o later ≡ None → (o ≡ None) × (later ≡ None)
unfolding first
both-passed None later e = (refl, e)
both-passed (Some f) later e = (e, cc)

-- ---- what holds of every fault that a test can find holds of the fault that is found

module _ {A : Type 0} (P : A → Type 0) where
  pub some-so : {f g : A} → Some g ≡ Some f → P g → P f
  some-so {f = f} {g = g} e p = let s : g ≡ f = cc in subst P s p

  pub refused-so : {f : A} (test : Bool) (g : A) (later : Option A) → P g → (later ≡ Some f → P f) → refuse test g later ≡ Some f → P f
  unfolding refuse
  refused-so true g later p q e = some-so e p
  refused-so false g later p q e = q e

  pub first_so : {f : A} (o later : Option A) → (o ≡ Some f → P f) → (later ≡ Some f → P f) → first o later ≡ Some f → P f
  unfolding first
  first_so None later p q e = q e
  first_so (Some g) later p q e = p e

  pub nothing-so : {f : A} → None ≡ Some f → P f
  nothing-so e = absurd (zero_one cc)

-- the fault's number is not k, and the reason's
abbrev pub Not : ℕ → Fault → Type 0
Not k f = eqb (number f) k ≡ false

abbrev pub NotOf : ℕ → Reason → Type 0
NotOf k r = Not k (fault_of r)

pub called-none : (o : Option Fault) → called o ≡ None → o ≡ None
unfolding called
called-none None e = refl
called-none (Some f) e = cc

pub called-so : (P : Fault → Type 0) (o : Option Fault) {r : Reason} → ((f : Fault) → o ≡ Some f → P f) → called o ≡ Some r → P (fault_of r)
unfolding called
called-so P None p e = absurd (zero_one cc)
called-so P (Some f) p e = some-so (λ (r : Reason). P (fault_of r)) e (p f refl)

-- ---- what an answer tells

err-told : {A E : Type 0} (a : Result A E) {f : E} → result_err a ≡ Some f → a ≡ Err f
err-told (Ok x) e = cc
err-told (Err g) e = cc

ok-told : {E : Type 0} (a : Result ⊤ E) → result_err a ≡ None → a ≡ Ok tt
ok-told (Ok x) e = refl
ok-told (Err g) e = cc

module _ {E : Type 0} (a : Result ⊤ E) {o : Option E} (e : result_err a ≡ o) where
  -- an error exactly where something is wrong, and then what that is; `Ok` exactly where nothing is
  pub err-exactly : (f : E) → (a ≡ Err f) ↔ (o ≡ Some f)
  err-exactly f = (λ p. sym e ∙ ap result_err p, λ p. err-told a (e ∙ p))

  pub ok-exactly : (a ≡ Ok tt) ↔ (o ≡ None)
  ok-exactly = (λ p. sym e ∙ ap result_err p, λ p. ok-told a (e ∙ p))

-- the answer is determined by what is wrong
pub judged-once : {E : Type 0} (a b : Result ⊤ E) {o : Option E} → result_err a ≡ o → result_err b ≡ o → a ≡ b
judged-once a b {o} p q = go o refl
  where
    go : (x : Option _) → o ≡ x → a ≡ b
    go None e = (ok-exactly a p).1 e ∙ sym ((ok-exactly b q).1 e)
    go (Some f) e = (err-exactly a p f).1 e ∙ sym ((err-exactly b q f).1 e)
