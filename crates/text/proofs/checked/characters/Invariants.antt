-- `text::checked::characters` meets its contract. The loop's invariant: n is how many bytes so far are no tails. Assumes
-- nothing.
use Rattle.std.proofs.Common.{◌≡◌, not, take}
use Rattle.std.specs.List.{count_by}
use Rattle.text.specs.Text.{tail}
use Rattle.text.proofs.checked.characters.Given as goal

abbrev pub invariant-loop-b : goal.invariant-loop-b
invariant-loop-b l = l.n ≡ count_by (λ b. not (tail b)) (take l.b-index l.s)
