-- `rows::id_fault` meets its contract: a score is no id, and an id is fine exactly where it is not the mark for none. Assumes
-- nothing.
use mathlib.Core.Path.{sym}
use native.Mathlib.Omega.{arith}
use Rattle.rows.proofs.RowFaults.{no-id, real-id, mark-id}
use Rattle.rows.proofs.id_fault.Goals as goal

pub returns-in_default : goal.returns-in_default
returns-in_default c = sym (no-id c.in_default.is)

pub returns-then-i : goal.returns-then-i
returns-then-i c = sym (mark-id c.in-Id.is (omega arith))

pub returns : goal.returns
returns c = sym (real-id c.in-Id.is c.if-i.false)
