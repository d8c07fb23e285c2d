-- The span check: which test gives which fault, and that its two calls are determined. The first test that finds a fault
-- decides; an answer is the fault's and a part is the answer's, so both follow from the inputs. Assumes nothing.
use Rattle.std.specs.Prelude.{Option, None, Some, Result, ⊤, Ok, Err, ℕ}
use mathlib.Core.Path.{◌≡◌, sym, ap, ◌∙◌}
use mathlib.Core.Bool.{true, false, not}
use mathlib.Core.List.{List, []}
use mathlib.Core.Logic.{◌↔◌}
use Prim.Native.Nat.{ℕ, ◌+◌, ◌-◌, ◌≤◌, ◌<◌}
use native.Mathlib.Omega.{arith}
use borrow.Author.Tests.{lt-ltb, le-ltb, ltb-false, eq-eqb, ne_eqb, not-false}
use lib.ListN.{length, take, drop}
use denote.Ref.{Bor}
use Rattle.refusal.specs.declared.Fault.{Fault}
use Rattle.refusal.specs.declared.Fault.TheVariants.{Size, Span, Text}
use Rattle.refusal.specs.Sizes.{max_table}
use Rattle.refusal.specs.Refusal.{unless_fault}
use Rattle.refusal.proofs.Tests.{Not, found, not_found, passed, refused-so, nothing-so, err-exactly, ok-exactly, judged-once}
use Rattle.text.specs.Text.{valid_up_to, well_formed, text_fault}
use Rattle.text.specs.Span.{span_of, outside, part_fault, span_fault, TextAnswered, PartGiven}
use Rattle.text.proofs.Valid.{valid-le}

-- ---- which fault

-- the part from a start to an end is the span
pub part-is : (tab : List ℕ) (off len : ℕ) → take (off + len - off) (drop off tab) ≡ span_of tab off len
part-is tab off len = let e : off + len - off ≡ len = omega arith in rw e

-- ---- text or not

pub text-bad : (s : List ℕ) → valid_up_to s < length s → text_fault s ≡ Some Text
unfolding text_fault well_formed
text-bad s h = found _ Text None (ap not (ne_eqb (valid_up_to s) (length s) (λ e. omega arith)))

pub text-fine : (s : List ℕ) → well_formed s ≡ true → text_fault s ≡ None
unfolding text_fault
text-fine s e = not_found _ Text None (ap not e)

pub fine-text : (s : List ℕ) → text_fault s ≡ None → well_formed s ≡ true
unfolding text_fault
fine-text s e = not-false (well_formed s) (passed _ Text None e).0

pub valid-text : (s : List ℕ) → length s ≤ valid_up_to s → well_formed s ≡ true
unfolding well_formed
valid-text s h = eq-eqb (valid_up_to s) (length s) (omega (arith, valid-le s))

-- it is refused with 4 alone
pub text-not : (k : ℕ) {f : Fault} → Not k Text → (s : List ℕ) → text_fault s ≡ Some f → Not k f
unfolding text_fault
text-not k n s = refused-so (Not k) _ Text None n (nothing-so (Not k))

module _ (tab : List ℕ) (off len : ℕ) where
  pub fault-size : max_table < length tab → span_fault tab off len ≡ Some Size
  unfolding span_fault
  fault-size h = found _ Size _ (lt-ltb max_table (length tab) h)

  -- of a table within the limit what is found is what is found of the part
  pub fault-part : length tab ≤ max_table → span_fault tab off len ≡ part_fault tab off len
  unfolding span_fault
  fault-part size = not_found _ Size _ (le-ltb max_table (length tab) size)

  pub part-outside : length tab < off + len → part_fault tab off len ≡ Some Span
  unfolding part_fault
  part-outside h = found _ Span _ (lt-ltb (length tab) (off + len) h)

  pub part-inside : off + len ≤ length tab → part_fault tab off len ≡ text_fault (span_of tab off len)
  unfolding part_fault
  part-inside inside = not_found _ Span _ (le-ltb (length tab) (off + len) inside)

  pub part-not : (k : ℕ) {f : Fault} → Not k Span → Not k Text → part_fault tab off len ≡ Some f → Not k f
  unfolding part_fault
  part-not k p q = refused-so (Not k) _ Span _ p (text-not k q (span_of tab off len))

  -- an accepted part lies inside the table and is text
  module _ (accepted : part_fault tab off len ≡ None) where
    tests : (outside tab off len ≡ false) × (text_fault (span_of tab off len) ≡ None)
    unfolding part_fault
    tests = passed _ Span _ accepted

    pub part_lies : off + len ≤ length tab
    part_lies = ltb-false (length tab) (off + len) tests.0

    pub part-text : well_formed (span_of tab off len) ≡ true
    part-text = fine-text (span_of tab off len) tests.1

  -- and of an accepted span the table is within the limit
  pub accepted-span : span_fault tab off len ≡ None → (length tab ≤ max_table) × (part_fault tab off len ≡ None)
  unfolding span_fault
  accepted-span accepted = let t = passed _ Size _ accepted in (ltb-false max_table (length tab) t.0, t.1)

-- ---- the answers

-- refused exactly where there is a fault, and with that fault; accepted exactly where there is none
module _ {tab : List ℕ} {off len : ℕ} {answer : Result ⊤ Fault} (a : TextAnswered tab off len answer) where
  pub refused-exactly : (f : Fault) → (answer ≡ Err f) ↔ (span_fault tab off len ≡ Some f)
  refused-exactly f = err-exactly _ a.answered f

  pub accepted-exactly : (answer ≡ Ok tt) ↔ (span_fault tab off len ≡ None)
  accepted-exactly = ok-exactly _ a.answered

-- the promise met twice gives the same answer, and the same part: the same bytes at the same place
pub answer-determined : {tab : List ℕ} {off len : ℕ} {a b : Result ⊤ Fault} → TextAnswered tab off len a → TextAnswered tab off len b → a ≡ b
answer-determined p q = judged-once _ _ p.answered q.answered

module _ {fault : Option Fault} {table : Bor (List ℕ)} {off len : ℕ} {a b : Bor (List ℕ)}
    (p : PartGiven fault table off len a) (q : PartGiven fault table off len b) where
  pub part-determined : a.now ≡ b.now
  part-determined = p.gave ∙ sym q.gave

  pub place-determined : (a.ref_ptr.0 ≡ b.ref_ptr.0) × (a.ref_ptr.1 ≡ b.ref_ptr.1)
  place-determined = (p.block ∙ sym q.block, p.stands ∙ sym q.stands)

-- ---- the part

-- the empty part in front is what is given of a span with a fault
pub nothing-given :
    {table part : Bor (List ℕ)} {off len : ℕ} (fault : Option Fault) (f : Fault) → fault ≡ Some f → PartGiven None table 0 0 part
    → PartGiven fault table off len part
unfolding unless_fault
nothing-given {table} {part} {off} {len} fault f e n =
    record {
      gave = n.gave ∙ sym (ap (λ (o : Option Fault). unless_fault o (span_of table.now off len) []) e);
      block = n.block;
      stands = n.stands ∙ sym (ap (λ (o : Option Fault). table.ref_ptr.1 + unless_fault o off 0) e);
    }

-- what is given of a span without a fault: its bytes
pub bytes-given : {table part : Bor (List ℕ)} {off len : ℕ} → PartGiven None table off len part → part.now ≡ span_of table.now off len
unfolding unless_fault
bytes-given g = g.gave
