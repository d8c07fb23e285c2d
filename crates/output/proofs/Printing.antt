-- What an answer of the coder says of the line to print: a refusal is the fault, and else the first places hold the ids, no
-- more than the line has bytes. Assumes nothing.
use Rattle.std.specs.Prelude.{Option, Result, Ok, Err, ℕ}
use mathlib.Core.Path.{◌≡◌, sym, ap, ◌∙◌}
use mathlib.Core.List.{List, []}
use Prim.Native.Nat.{ℕ, ◌≤◌}
use native.Mathlib.Omega.{arith}
use lib.Ieee.{Float}
use lib.ListN.{length, take, drop, length-map}
use lib.Seq.{take-append_seam}
use Rattle.doubles.specs.Units.{units}
use Rattle.refusal.specs.declared.Fault.{Fault}
use Rattle.refusal.specs.Places.{overlay}
use Rattle.refusal.proofs.Codings.{refused-exactly, told-ids}
use Rattle.text.proofs.Boundaries.{characters-le}
use Rattle.unigram.specs.Segment.{Scratch, Lengths, lengths, lengths_of}
use Rattle.unigram.specs.Checked.{scratch_of}
use Rattle.coder.specs.Vocabulary.{Vocabulary, fault_in, ids_in, CodedIn}
use Rattle.coder.proofs.Codes.{ids-few, places-enough, ids-stand}
use Rattle.output.specs.Lines.{printed_ids, printed_refusal}
use Rattle.output.specs.Output.{lent_places, printed, coded_line}

-- scratch of the size that the program lends, column by column, whatever it holds
pub record Lent (start id : List ℕ) (score : List Float) (path ids : List ℕ) : Type 0 where
  pub starts : length start ≡ 4_096
  pub slots : length id ≡ 4_096
  pub scores : length score ≡ 4_096
  pub ends : length path ≡ 4_096
  pub places : length ids ≡ 4_096

-- a call changes no length
pub lent_again :
    {start id : List ℕ} {score : List Float} {path ids start' id' : List ℕ} {score' : List Float} {path' ids' : List ℕ} → Lent start id score path ids
    → length start' ≡ length start → length id' ≡ length id → length score' ≡ length score → length path' ≡ length path → length ids' ≡ length ids
    → Lent start' id' score' path' ids'
lent_again l a b c d e =
    record { starts = a ∙ l.starts; slots = b ∙ l.slots; scores = c ∙ l.scores; ends = d ∙ l.ends; places = e ∙ l.places }

pub lent-places : {start id : List ℕ} {score : List Float} {path ids : List ℕ} → Lent start id score path ids → lengths_of (scratch_of start id score path ids) ≡ lent_places
lent-places {score = score} l =
    let m = length-map score units ∙ l.scores in
    λ i. lengths (l.starts i) (l.slots i) (m i) (l.ends i) (l.places i)

-- what the answer's places hold, where it is ids
pub record Shown (w after : List ℕ) (n : ℕ) (line : List ℕ) : Type 0 where
  pub few : n ≤ length w
  pub inside : n ≤ 4_096
  pub text : printed_ids (take n after) ≡ line

module _
    {v : Vocabulary} {s : List ℕ} {before after : Scratch} {answer : Result ℕ Fault} (lent : lengths_of before ≡ lent_places)
    (p : CodedIn v s before answer after)
  where
    -- what a line prints, given what was found
    prints : {o : Option Fault} → fault_in v s (lengths_of before) ≡ o → printed o (ids_in v s) ≡ coded_line v s
    unfolding coded_line
    prints e = ap (λ (x : Option Fault). printed x (ids_in v s)) (sym e ∙ ap (fault_in v s) lent)

    pub line_refused : {f : Fault} → answer ≡ Err f → printed_refusal [] f ≡ coded_line v s
    unfolding printed
    line_refused q = prints ((refused-exactly p.coded _).0 q)

    pub line-ids : {n : ℕ} → answer ≡ Ok n → Shown s after.ids n (coded_line v s)
    unfolding printed
    line-ids {n = n} q =
        let t = told-ids p.coded q in
        let few = ids-few v s (lengths_of before) t.0 in
        let room = places-enough v s (lengths_of before) t.0 in
        let lent-ids = ap (λ (l : Lengths). l.ids) lent in
        let stand = ap (λ (b : Scratch). b.ids) t.2 ∙ ids-stand v s (lengths_of before) before t.0 in
        record {
          few = omega (arith, t.1, few, characters-le s);
          inside = omega (arith, t.1, few, room, lent-ids);
          text =
              ap printed_ids
              (ap (λ (l : List ℕ). take n l) stand ∙ ap (λ (k : ℕ). take k (overlay (ids_in v s) before.ids)) t.1
              ∙ take-append_seam (ids_in v s) (drop (length (ids_in v s)) before.ids))
              ∙ prints t.0;
        }
