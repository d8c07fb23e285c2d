-- Lines printed one after the other. After some of them what is left to print is what the rest of the input prints, and the
-- text so far is at most 11 bytes for each byte that was read, LF included; so a buffer of 11 times the input, and 11, is
-- enough. Assumes nothing.
use mathlib.Core.Path.{◌≡◌, refl, sym, ap, ◌∙◌}
use mathlib.Core.List.{List, [], ◌∷◌, ◌++◌, flat_map, append_assoc, append-nil}
use Prim.Native.Nat.{ℕ, suc, ◌+◌, ◌-◌, ◌*◌, ◌≤◌, ◌<◌}
use native.Mathlib.Omega.{arith}
use lib.ListN.{length, take, drop, length-take, length-drop, drop_of_length-le}
use lib.Seq.{drop-drop}
use Rattle.output.specs.Lines.{lines, until_lf}
use Rattle.output.specs.Put.{Put}
use Rattle.output.proofs.Putting.{put-none, put_on, put_as}
use Rattle.output.proofs.Ending.{lines-first, lines_none, until-inside}

-- the lines before `from` are printed, and each line prints as f says
pub record Printed (f : List ℕ → List ℕ) (input before : List ℕ) (at from : ℕ) (after : List ℕ) : Type 0 where
  pub done : List ℕ
  pub put : Put before 0 done at after
  pub rest : flat_map f (lines input) ≡ done ++ flat_map f (lines (drop from input))
  pub few : at ≤ 11 * from
  pub some : from ≤ length input + 1
  pub kept : length after ≡ length before

flat-more : (f : List ℕ → List ℕ) (x : List ℕ) (xs : List (List ℕ)) → flat_map f (x ∷ xs) ≡ f x ++ flat_map f xs
unfolding flat_map
flat-more f x xs = refl

-- the line that begins at `from`
abbrev pub line_at : List ℕ → ℕ → ℕ → List ℕ
line_at input from end = take (end - from) (drop from input)

module _ (f : List ℕ → List ℕ) (input before : List ℕ) where
  pub printed-start : Printed f input before 0 0 before
  printed-start = record { done = []; put = put-none before 0; rest = refl; few = omega arith; some = omega arith; kept = refl }

  module _ (at from end : ℕ) (after : List ℕ) (p : Printed f input before at from after) (inside : from < length input) (e : end ≡ from + until_lf (drop from input)) where
    abbrev rest_of : List ℕ
    rest_of = drop from input

    pub end-inside : end ≤ length input
    end-inside = omega (arith, e, until-inside rest_of, length-drop from input)

    pub line-length : length (line_at input from end) ≡ end - from
    line-length = omega (arith, length-take (end - from) rest_of, length-drop from input, end-inside)

    lines-on : lines rest_of ≡ line_at input from end ∷ lines (drop (end + 1) input)
    lines-on =
        let some_left : 0 < length rest_of = omega (arith, length-drop from input) in
        let long : until_lf rest_of ≡ end - from = omega (arith, e) in
        let past : from + suc (until_lf rest_of) ≡ end + 1 = omega (arith, e) in
        let first : take (until_lf rest_of) rest_of ≡ line_at input from end = ap (λ (n : ℕ). take n rest_of) long in
        let later : drop (suc (until_lf rest_of)) rest_of ≡ drop (end + 1) input =
        drop-drop (suc (until_lf rest_of)) from input ∙ ap (λ (n : ℕ). drop n input) past in
        lines-first rest_of some_left ∙ ap (λ (l : List ℕ). l ∷ lines (drop (suc (until_lf rest_of)) rest_of)) first
        ∙ ap (λ (s : List ℕ). line_at input from end ∷ lines s) later

    -- there is room for the line
    pub line-room : 11 * length input + 11 ≤ length before → at + 11 * length (line_at input from end) + 11 ≤ length after
    line-room room = omega (arith, p.few, line-length, end-inside, p.kept, room, e)

    pub printed-turn :
        {at' : ℕ} {after' : List ℕ} → Put after at (f (line_at input from end)) at' after' → at' ≤ at + 11 * length (line_at input from end) + 11
        → length after' ≡ length after → Printed f input before at' (end + 1) after'
    printed-turn q short k =
        record {
          done = p.done ++ f (line_at input from end);
          put = put_on p.put q;
          rest =
              p.rest ∙ ap (λ (ls : List (List ℕ)). p.done ++ flat_map f ls) lines-on
              ∙ ap (λ (l : List ℕ). p.done ++ l) (flat-more f (line_at input from end) (lines (drop (end + 1) input)))
              ∙ sym (append_assoc p.done (f (line_at input from end)) (flat_map f (lines (drop (end + 1) input))));
          few = omega (arith, p.few, short, line-length, e);
          some = omega (arith, end-inside);
          kept = k ∙ p.kept;
        }

  flat-none : (ls : List (List ℕ)) → ls ≡ [] → flat_map f ls ≡ []
  unfolding flat_map
  flat-none ls e = ap (flat_map f) e

  pub printed-end : {at from : ℕ} {after : List ℕ} → Printed f input before at from after → length input ≤ from → Put before 0 (flat_map f (lines input)) at after
  printed-end {from = from} p h =
      put_as
      (sym
      (p.rest ∙ ap (λ (l : List ℕ). p.done ++ l) (flat-none (lines (drop from input)) (lines_none (drop from input) (ap length (drop_of_length-le input h))))
      ∙ append-nil p.done))
      p.put
