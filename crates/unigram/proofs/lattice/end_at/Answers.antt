-- `unigram::lattice::end_at` meets its contract: what ends here is offered where the position is a boundary and the node has an
-- id. Assumes nothing.
use Rattle.std.proofs.Common.{◌≡◌, refl, sym, ◌∙◌, get_or, map, Float, ℕ, ◌<◌, length, List}
use Rattle.doubles.specs.Double.{Double, plus_zero, sum}
use Rattle.doubles.specs.Units.{units}
use Rattle.refusal.proofs.Lists.{map-inside}
use Rattle.unigram.proofs.Offering.{ended-inside, ended_nameless, ended_some}
use Rattle.unigram.proofs.lattice.end_at.Goals as goal

-- a score that is read is that of the model
scored :
    (xs : List Float) (k : ℕ) (x : Double) (d : Float) {y : Double} → k < length xs → y ≡ sum x (units (get_or xs k d))
    → y ≡ sum x (get_or (map units xs) k plus_zero)
scored xs k x d l e = rw (map-inside units xs k d plus_zero l) e

pub returns-then-not-is_boundary : goal.returns-then-not-is_boundary
returns-then-not-is_boundary c = ended-inside (sym c.is_boundary.ensures ∙ c.if-not-is_boundary.true)

pub returns-in_default : goal.returns-in_default
returns-in_default c =
    ended_nameless (sym c.is_boundary.ensures ∙ c.if-not-is_boundary.false)
    (sym c.id_at.ensures ∙ c.in_default.is)

pub returns-then-single : goal.returns-then-single
returns-then-single c =
    ended_some (sym c.is_boundary.ensures ∙ c.if-not-is_boundary.false)
    (sym c.id_at.ensures ∙ c.in-Some.is) refl
    (scored _ _ _ _ c.requires.1 c.added.ensures) c.offer.ensures (rw c.if-single.true)

pub returns-else-single : goal.returns-else-single
returns-else-single c =
    ended_some (sym c.is_boundary.ensures ∙ c.if-not-is_boundary.false)
    (sym c.id_at.ensures ∙ c.in-Some.is) refl
    (scored _ _ _ _ c.requires.1 c.added.ensures) c.offer.ensures (rw c.if-single.false)
