-- `output::coded::put_line` meets its contract: what `code` promises of as much scratch as is lent is what
-- the line prints. Assumes nothing.
use Prim.Native.Nat.{ℕ, ◌≤◌}
use native.Mathlib.Omega.{arith}
use lib.ListN.{length, take}
use mathlib.Core.List.{List}
use mathlib.Core.Path.{◌≡◌, ap}
use Rattle.std.proofs.lemmas.List.{length-take-le}
use Rattle.unigram.specs.Segment.{Lengths}
use Rattle.output.proofs.Putting.{put_as}
use Rattle.output.proofs.Printing.{line_refused, line-ids}
use Rattle.output.proofs.coded.put_line.Goals as goal

-- the ids stand in the places lent, so that what is taken of these is as many
taken : (n : ℕ) (places : List ℕ) → n ≤ 4_096 → 4_096 ≤ length places → length (take n places) ≡ n
taken n places few there = length-take-le n places (omega arith)

pub slice_bounds-put_ids-end : goal.slice_bounds-put_ids-end
slice_bounds-put_ids-end c =
    let s = line-ids c.requires.ids_value c.code-coded.ensures c.in-Ok.is in
    omega (arith, s.inside, c.code-coded.auto.ids, ap (λ (l : Lengths). l.ids) c.requires.ids_value)

pub slice_bounds-put_ids-end-in-Ok : goal.slice_bounds-put_ids-end-in-Ok
slice_bounds-put_ids-end-in-Ok c =
    let s = line-ids c.requires.ids_value c.code-coded.ensures c.in-Ok.is in
    let there : 4_096 ≤ length c.code-coded.new.ids =
    omega (arith, c.code-coded.auto.ids, ap (λ (l : Lengths). l.ids) c.requires.ids_value) in
    omega (arith, s.inside, there, taken c.in-Ok.n c.code-coded.new.ids s.inside there)

pub put_ids-requires-clause-ids_in_bounds : goal.put_ids-requires-clause-ids_in_bounds
put_ids-requires-clause-ids_in_bounds c =
    let s = line-ids c.requires.ids_value c.code-coded.ensures c.in-Ok.is in
    let there : 4_096 ≤ length c.code-coded.new.ids =
    omega (arith, c.code-coded.auto.ids, ap (λ (l : Lengths). l.ids) c.requires.ids_value) in
    omega (arith, s.few, c.requires.line_in_bounds, taken c.in-Ok.n c.code-coded.new.ids s.inside there)

pub returns-in-Err : goal.returns-in-Err
returns-in-Err c = (
  put_as (line_refused c.requires.ids_value c.code-coded.ensures c.in-Err.is) c.put_refusal.ensures.0,
  omega (arith, c.put_refusal.ensures.1),
)

pub returns-in-Ok : goal.returns-in-Ok
returns-in-Ok c =
    let s = line-ids c.requires.ids_value c.code-coded.ensures c.in-Ok.is in
    let there : 4_096 ≤ length c.code-coded.new.ids =
    omega (arith, c.code-coded.auto.ids, ap (λ (l : Lengths). l.ids) c.requires.ids_value) in
    (put_as s.text c.put_ids.ensures.0, omega (arith, c.put_ids.ensures.1, s.few, taken c.in-Ok.n c.code-coded.new.ids s.inside there))
