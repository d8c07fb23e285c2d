-- `streams::counted` meets its contract. The loop's invariant: the calls so far gave answers, each of which counts once.
-- Assumes nothing.
use Rattle.std.proofs.Common.{◌+◌, ◌≡◌, Bool, not, List, Some, count_by}
use Rattle.std.specs.List.{FoldsTo}
use Rattle.streams.proofs.counted.Given as goal

abbrev pub invariant-loop : goal.invariant-loop
invariant-loop g l = record {
  each : l.tally.agree + l.tally.differ ≡ l.counter;
  callable : goal.F-IsAlwaysCallable g l.next;
  calls :
      (answers : List Bool) × FoldsTo (λ p a q. goal.F-step g p (Some a) q) l.initial.next answers l.next
      × (l.tally.agree ≡ count_by (λ a. a) answers) × (l.tally.differ ≡ count_by not answers);
}
