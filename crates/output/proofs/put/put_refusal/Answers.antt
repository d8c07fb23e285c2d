-- `output::put::put_refusal` meets its contract: what was refused, the word, a space, the number's digits and LF, one after the
-- other. Assumes nothing.
use mathlib.Core.Path.{◌≡◌, ap, ◌∙◌}
use mathlib.Core.List.{List, [], ◌∷◌, ◌++◌}
use Prim.Native.Nat.{ℕ, ◌+◌, ◌≤◌}
use native.Mathlib.Omega.{arith}
use lib.ListN.{length}
use Rattle.refusal.specs.Refusal.{number}
use Rattle.text.specs.Ascii.{ascii}
use Rattle.output.specs.Lines.{lf, decimal, spaced, printed_refusal}
use Rattle.output.proofs.Putting.{put_on, put_as}
use Rattle.output.proofs.Decimals.{spaced_one, spaced-one, number_short}
use Rattle.output.proofs.put.put_refusal.Goals as goal

-- the text, as it is put
text-is : (what : List ℕ) (f : _) (n : ℕ) → n ≡ number f → what ++ ascii "refused" ++ spaced_one n ++ (lf ∷ []) ≡ printed_refusal what f
unfolding printed_refusal
text-is what f n e = ap (λ (l : List ℕ). what ++ ascii "refused" ++ l ++ (lf ∷ [])) (spaced-one n ∙ ap (λ (k : ℕ). spaced (k ∷ [])) e)

pub put_number-end-requires : goal.put_number-end-requires
put_number-end-requires c =
    let told-ends : (c.put_byte-apart.result ≡ c.args.at + length c.args.what.now + 8) × (length c.put_byte-apart.new.out ≡ length c.args.out.now) = (omega (arith, c.put_byte-apart.ensures.ends, c.put_text-told.ensures.ends, c.put_text-named.ensures.ends), c.put_byte-apart.auto.out ∙ c.put_text-told.auto.out ∙ c.put_text-named.auto.out) in
    let digits-few : length (decimal c.number.result) ≤ 2 = omega (arith, ap (λ (n : ℕ). length (decimal n)) c.number.ensures, number_short c.args.f) in
    let e = told-ends in
    omega (arith, e.0, e.1, digits-few, c.requires)

pub put_byte-requires : goal.put_byte-requires
put_byte-requires c =
    let told-ends : (c.put_byte-apart.result ≡ c.args.at + length c.args.what.now + 8) × (length c.put_byte-apart.new.out ≡ length c.args.out.now) = (omega (arith, c.put_byte-apart.ensures.ends, c.put_text-told.ensures.ends, c.put_text-named.ensures.ends), c.put_byte-apart.auto.out ∙ c.put_text-told.auto.out ∙ c.put_text-named.auto.out) in
    let digits-few : length (decimal c.number.result) ≤ 2 = omega (arith, ap (λ (n : ℕ). length (decimal n)) c.number.ensures, number_short c.args.f) in
    let e = told-ends in
    omega (arith, c.put_number-end.ensures.ends, c.put_number-end.auto.out, e.0, e.1, digits-few, c.requires)

pub returns : goal.returns
unfolding ascii
returns c =
    let told-ends : (c.put_byte-apart.result ≡ c.args.at + length c.args.what.now + 8) × (length c.put_byte-apart.new.out ≡ length c.args.out.now) = (omega (arith, c.put_byte-apart.ensures.ends, c.put_text-told.ensures.ends, c.put_text-named.ensures.ends), c.put_byte-apart.auto.out ∙ c.put_text-told.auto.out ∙ c.put_text-named.auto.out) in
    let digits-few : length (decimal c.number.result) ≤ 2 = omega (arith, ap (λ (n : ℕ). length (decimal n)) c.number.ensures, number_short c.args.f) in
    let e = told-ends in (
      put_as (text-is c.args.what.now c.args.f c.number.result c.number.ensures)
          (put_on (put_on (put_on c.put_text-named.ensures c.put_text-told.ensures) (put_on c.put_byte-apart.ensures c.put_number-end.ensures)) c.put_byte.ensures),
      omega (arith, c.put_byte.ensures.ends, c.put_number-end.ensures.ends, e.0, digits-few),
    )
