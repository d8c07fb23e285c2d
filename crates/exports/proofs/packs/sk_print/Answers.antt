-- `exports::packs::sk_print` meets its contract: a buffer that is too short is left alone, and in any other the text
-- stands over the first places. Assumes nothing.
use mathlib.Core.Path.{◌≡◌, sym, ap, ◌∙◌}
use mathlib.Core.Bool.{Bool, true, false, cond}
use mathlib.Core.List.{List}
use Prim.Native.Nat.{ℕ, ◌^◌, ◌≤◌, ◌<◌}
use borrow.Author.Tests.{lt-ltb, le-ltb}
use lib.Dec.{ltb}
use lib.ListN.{length}
use Rattle.refusal.specs.Places.{overlay}
use Rattle.output.specs.Output.{max_output, output}
use Rattle.output.specs.Put.{Put}
use Rattle.output.proofs.Putting.{put-over}
use Rattle.exports.specs.Flat.{PrintedAs}

module _ (bytes input before : List ℕ) where
  abbrev text : List ℕ
  text = output bytes input

  short : length before < max_output → PrintedAs bytes input before (2 ^ 32) before
  short h =
      let e : ltb (length before) max_output ≡ true = lt-ltb (length before) max_output h in
      record {
        answered = sym (ap (λ (b : Bool). cond b (2 ^ 32) (length text)) e);
        left = sym (ap (λ (b : Bool). cond b before (overlay text before)) e);
      }

  enough :
      {answer : ℕ} {after : List ℕ} → max_output ≤ length before → Put before 0 text answer after
      → PrintedAs bytes input before answer after
  enough h p =
      let e : ltb (length before) max_output ≡ false = le-ltb (length before) max_output h in
      let o = put-over p in
      record {
        answered = o.0 ∙ sym (ap (λ (b : Bool). cond b (2 ^ 32) (length text)) e);
        left = o.1 ∙ sym (ap (λ (b : Bool). cond b before (overlay text before)) e);
      }
