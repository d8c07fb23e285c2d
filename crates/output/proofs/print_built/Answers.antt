-- `output::print_built` meets its contract: a refusal is printed, and else the lines. Assumes nothing.
use mathlib.Core.Path.{◌≡◌, ap, ◌∙◌, subst}
use mathlib.Core.List.{List}
use Prim.Native.Nat.{ℕ}
use native.Mathlib.Omega.{arith}
use lib.Ieee.{Float}
use Rattle.std.specs.Prelude.{Result}
use Rattle.refusal.specs.declared.Reason.{Reason}
use Rattle.text.specs.Ascii.{ascii}
use Rattle.trie.specs.Trie.{Trie}
use Rattle.pack.specs.declared.Summary.{Summary}
use Rattle.output.specs.Lines.{printed_refusal}
use Rattle.output.specs.Cut.{LentBuilt}
use Rattle.output.proofs.Putting.{put_as}
use Rattle.output.proofs.Packs.{judged-refused}
use Rattle.output.proofs.print_built.Goals as goal

-- what was built, where the answer is this one
this : {pack : List ℕ} {a b : Result Summary Reason} {t : Trie} {scores : List Float} → a ≡ b → LentBuilt pack a t scores → LentBuilt pack b t scores
this {pack = pack} {t = t} {scores = scores} e j = subst (λ (x : Result Summary Reason). LentBuilt pack x t scores) e j

pub print_summary-requires : goal.print_summary-requires
print_summary-requires c = (this c.in-Ok.is c.requires.0, c.requires.1)

pub returns-in-Err : goal.returns-in-Err
unfolding ascii
returns-in-Err c =
    put_as
    (ap (printed_refusal (ascii "pack ")) c.fault.ensures
    ∙ judged-refused _ _ _ (λ i h. omega (arith, c.shared_slice_known-1.given i)) c.args.input.now (this c.in-Err.is c.requires.0))
    c.put_refusal.ensures.0
