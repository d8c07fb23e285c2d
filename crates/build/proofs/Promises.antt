-- What every build promises, in each case. What was found before the room comes first, and its number is never 7, so nothing is
-- written; then the room decides; and what the core says of its rows is said of the memory, the score column beside it. Then
-- what the promise says: which fault exactly when, and one outcome. Assumes nothing.
use Rattle.std.specs.Prelude.{Option, None, Some, ℕ, Result, Ok, Err}
use mathlib.Core.Path.{◌≡◌, refl, sym, ap, ◌∙◌}
use mathlib.Core.Bool.{Bool, true, false, cond}
use mathlib.Core.List.{List, []}
use mathlib.Core.Logic.{◌↔◌}
use Prim.Native.Nat.{ℕ}
use lib.Dec.{ltb, eqb}
use Rattle.refusal.proofs.Lists.{zero_one}
use Rattle.doubles.specs.Double.{Double, plus_zero}
use Rattle.refusal.specs.declared.Fault.TheVariants as fault
use Rattle.refusal.specs.declared.Reason.{Reason}
use Rattle.refusal.specs.declared.Reason.TheVariants as reason
use Rattle.refusal.specs.Refusal.{number_of, refuse, first}
use Rattle.refusal.specs.Places.{filled}
use Rattle.refusal.proofs.Tests.{passed, both-passed}
use Rattle.rows.specs.declared.Kind.{Kind}
use Rattle.rows.specs.Rows.{Row}
use Rattle.build.specs.Memory.{Memory, with_scores, cleared, holding, zero_scores, leaves}
use Rattle.build.specs.Checked.{nodes_of, BuiltOf}
use Rattle.build.specs.Promise.{trie_in, scores_in, build_fault, told_for, Promised}
use Rattle.build.proofs.Outcomes.{core-full, core-fits}

-- ---- which fault

abbrev room-is-short : Reason
room-is-short = reason.Call fault.Room

module _ (judged : Option Reason) (short : Bool) where
  pub fault-found : {r : Reason} → judged ≡ Some r → build_fault judged short ≡ Some r
  unfolding build_fault first
  fault-found e = ap (λ (o : Option Reason). first o (refuse short room-is-short None)) e

  pub fault-left : {b : Bool} → judged ≡ None → short ≡ b → build_fault judged short ≡ refuse b (reason.Call fault.Room) None
  unfolding build_fault first
  fault-left e s =
      ap (λ (o : Option Reason). first o (refuse short room-is-short None)) e ∙ ap (λ (b : Bool). refuse b room-is-short None) s

  -- there is no fault exactly where none was found before the room, and no lent column is too short
  pub none-exactly : (build_fault judged short ≡ None) ↔ ((judged ≡ None) × (short ≡ false))
  unfolding build_fault refuse
  none-exactly = (
    λ e. let p = both-passed judged (refuse short room-is-short None) e in (p.0, (passed short room-is-short None p.1).0),
    λ p. fault-left p.0 p.1,
  )

  -- 7 is given exactly where none was found before the room, and some lent column is too short
  pub room-exactly :
      ((r : Reason) → judged ≡ Some r → eqb (number_of r) 7 ≡ false)
      → (build_fault judged short ≡ Some (reason.Call fault.Room)) ↔ ((judged ≡ None) × (short ≡ true))
  unfolding refuse
  room-exactly other = (λ e. says judged refl short refl e, λ p. fault-left p.0 p.1)
    where
      says :
          (o : Option Reason) → judged ≡ o → (b : Bool) → short ≡ b → build_fault judged short ≡ Some room-is-short
          → (judged ≡ None) × (short ≡ true)
      says None p true q e = (p, q)
      says None p false q e = let z = sym (fault-left p q) ∙ e in absurd (zero_one cc)
      says (Some r) p b q e =
          let z : true ≡ false = other room-is-short (p ∙ sym (fault-found p) ∙ e) in
          absurd (zero_one cc)

-- ---- the promise, in each case

module _ {A : Type 0} (kind : Kind) (tab : List ℕ) (rows : List Row) (summary : A) (m : Memory) where
  abbrev held : Memory
  held = holding (trie_in kind tab rows) (scores_in kind tab rows) m

  -- what is told and left where the fault is known
  case-of :
      (judged : Option Reason) (short : Bool) {o : Option Reason} {answer : Result A Reason} {after : Memory}
      → build_fault judged short ≡ o
      → answer ≡ told_for o summary → after ≡ leaves o held (cleared m) m
      → Promised kind tab rows judged short summary m answer after
  case-of judged short f t l =
      record {
        answered = t ∙ sym (ap (λ (o : Option Reason). told_for o summary) f);
        left = l ∙ sym (ap (λ (o : Option Reason). leaves o held (cleared m) m) f);
      }

  pub built-bad :
      {judged : Option Reason} {short : Bool} {r : Reason} → judged ≡ Some r → eqb (number_of r) 7 ≡ false
      → Promised kind tab rows judged short summary m (Err r) m
  unfolding told_for leaves
  built-bad {judged = judged} {short = short} e n =
      case-of judged short (fault-found judged short e) refl (sym (ap (λ (b : Bool). cond b (cleared m) m) n))

  pub built-short :
      {judged : Option Reason} {short : Bool} {after : Memory} → judged ≡ None → short ≡ true → after ≡ cleared m
      → Promised kind tab rows judged short summary m (Err (reason.Call fault.Room)) after
  unfolding told_for leaves refuse
  built-short {judged = judged} {short = short} e s a = case-of judged short (fault-left judged short e s) refl a

  pub built-held :
      {judged : Option Reason} {short : Bool} {answer : Result A Reason} {after : Memory} → judged ≡ None → short ≡ false
      → answer ≡ Ok summary
      → after ≡ holding (trie_in kind tab rows) (scores_in kind tab rows) m
      → Promised kind tab rows judged short summary m answer after
  unfolding told_for leaves refuse
  built-held {judged = judged} {short = short} e s t a = case-of judged short (fault-left judged short e s) t a

-- ---- from what the core says

-- a memory without its score column is zero, and so is that column
pub cleared-with :
    (m : Memory) (xs : List Double) {after : Memory} {ys : List Double} → after ≡ cleared m → ys ≡ zero_scores xs
    → with_scores after ys ≡ cleared (with_scores m xs)
unfolding cleared
cleared-with m xs {ys = ys} a s = ap (λ (x : Memory). with_scores x ys) a ∙ ap (with_scores (cleared m)) s

module _ {A : Type 0} (kind : Kind) (tab : List ℕ) (rows : List Row) (summary : A) (m after : Memory) (xs ys : List Double)
    {room : ℕ} {answer : Option ℕ}
    {judged : Option Reason} {short : Bool} (d : BuiltOf kind tab rows room m after answer) (fine : judged ≡ None)
    (decides : short ≡ ltb room (nodes_of tab rows)) where
  left_is : {b : Bool} → ltb room (nodes_of tab rows) ≡ b → after ≡ cond b (cleared m) (holding (trie_in kind tab rows) [] m)
  left_is e = d.left ∙ ap (λ (b : Bool). cond b (cleared m) (holding (trie_in kind tab rows) [] m)) e

  pub core-short :
      answer ≡ None → ys ≡ zero_scores xs
      → Promised kind tab rows judged short summary (with_scores m xs) (Err (reason.Call fault.Room)) (with_scores after ys)
  core-short e s =
      let full = core-full d e in
      built-short kind tab rows summary (with_scores m xs) fine (decides ∙ full) (cleared-with m xs (left_is full) s)

  pub core-left : {n : ℕ} → answer ≡ Some n → after ≡ holding (trie_in kind tab rows) [] m
  core-left e = left_is (core-fits d e).0

  pub core-held :
      {n : ℕ} {told : Result A Reason} → answer ≡ Some n → told ≡ Ok summary
      → ys ≡ filled plus_zero (scores_in kind tab rows) xs
      → Promised kind tab rows judged short summary (with_scores m xs) told (with_scores after ys)
  unfolding holding
  core-held e t s =
      built-held kind tab rows summary (with_scores m xs) fine (decides ∙ (core-fits d e).0) t
      (ap (λ (x : Memory). with_scores x ys) (core-left e) ∙ ap (with_scores (holding (trie_in kind tab rows) [] m)) s)

-- ---- what the promise says

-- a refusal looks at no rows: it is that of any other build that is refused so
pub refused-moved :
    {A : Type 0} {kind : Kind} {tab : List ℕ} {rows : List Row} {judged : Option Reason} {short : Bool}
    {summary : A} {m : Memory} {answer : Result A Reason} {after : Memory}
    (rows' : List Row) (judged' : Option Reason) (short' : Bool) (summary' : A) {r : Reason} → build_fault judged short ≡ Some r
    → build_fault judged' short' ≡ Some r
    → Promised kind tab rows judged short summary m answer after
    → Promised kind tab rows' judged' short' summary' m answer after
unfolding told_for leaves
refused-moved {kind = kind} {tab = tab} {rows = rows} {summary = summary} {m = m} rows' judged' short' summary' f g p =
    record {
      answered = p.answered ∙ ap (λ (o : Option Reason). told_for o summary) f
          ∙ sym (ap (λ (o : Option Reason). told_for o summary') g);
      left =
          p.left ∙ ap (λ (o : Option Reason). leaves o (holding (trie_in kind tab rows) (scores_in kind tab rows) m)
          (cleared m) m) f
          ∙ sym (ap (λ (o : Option Reason). leaves o (holding (trie_in kind tab rows') (scores_in kind tab rows') m)
          (cleared m) m) g);
    }

module _ {A : Type 0} {kind : Kind} {tab : List ℕ} {rows : List Row} {judged : Option Reason} {short : Bool} {summary : A}
    {m : Memory} where
  -- one outcome
  pub promised-once :
      {a b : Result A Reason} {m₁ m₂ : Memory} → Promised kind tab rows judged short summary m a m₁
      → Promised kind tab rows judged short summary m b m₂ → (a ≡ b) × (m₁ ≡ m₂)
  promised-once p q = (p.answered ∙ sym q.answered, p.left ∙ sym q.left)

  module _ {answer : Result A Reason} {after : Memory} (p : Promised kind tab rows judged short summary m answer after) where
    says-refused : {r : Reason} (o : Option Reason) → told_for o summary ≡ Err r → o ≡ Some r
    unfolding told_for
    says-refused None e = absurd (zero_one cc)
    says-refused {r = r} (Some q) e = let same : q ≡ r = cc in ap Some same

    says-built : {s : A} (o : Option Reason) → told_for o summary ≡ Ok s → (o ≡ None) × (s ≡ summary)
    unfolding told_for
    says-built None e = (refl, cc)
    says-built (Some q) e = absurd (zero_one cc)

    -- refused with r exactly when r is the fault, and accepted exactly when there is none
    pub refused-exactly : (r : Reason) → (answer ≡ Err r) ↔ (build_fault judged short ≡ Some r)
    unfolding told_for
    refused-exactly r = (
      λ q. says-refused (build_fault judged short) (sym p.answered ∙ q),
      λ e. p.answered
          ∙ ap (λ (o : Option Reason). told_for o summary) e,
    )

    pub accepted-exactly : (answer ≡ Ok summary) ↔ (build_fault judged short ≡ None)
    unfolding told_for
    accepted-exactly = (
      λ q. (says-built (build_fault judged short) (sym p.answered ∙ q)).0,
      λ e. p.answered
          ∙ ap (λ (o : Option Reason). told_for o summary) e,
    )

    -- of what was built: nothing was found before the room, no column is too short, and what is told is what was to be
    module _ {s : A} (e : answer ≡ Ok s) where
      no-fault : (build_fault judged short ≡ None) × (s ≡ summary)
      no-fault = says-built (build_fault judged short) (sym p.answered ∙ e)

      pub built-fine : judged ≡ None
      built-fine = ((none-exactly judged short).0 no-fault.0).0

      pub built-roomy : short ≡ false
      built-roomy = ((none-exactly judged short).0 no-fault.0).1

      pub built-says : s ≡ summary
      built-says = no-fault.1

      pub built-left : after ≡ holding (trie_in kind tab rows) (scores_in kind tab rows) m
      unfolding leaves
      built-left =
          p.left ∙ ap (λ (o : Option Reason). leaves o (holding (trie_in kind tab rows) (scores_in kind tab rows) m)
          (cleared m) m) no-fault.0
