use Rattle.std.proofs.Common.{rules, [], ◌∷◌, ◌++◌, arith, of_calls}
use Rattle.std.proofs.lemmas.Fn.{FoldsTo-push}
use Rattle.std.proofs.lemmas.List.Sums.{sum_by-append}
use Rattle.streams.proofs.counted.Goals as goal

pub loop-preserved : goal.loop-preserved
loop-preserved g c =
    let calls = c.loop.invariant.calls in
    record {
      each = grind arith;
      callable = search (rules, of_calls);
      calls = (
        calls.0 ++ c.in-Some.agrees ∷ [],
        FoldsTo-push _ _ calls.0 _ c.in-Some.agrees _ calls.1 (rw c.in-Some.is at c.next.ensures),
        grind (arith, sum_by-append),
        grind (arith, sum_by-append),
      );
    }
