-- What is to be written for a word, by what was found of it: a miss at any place makes it one unknown; else the first piece's
-- id and then those of the rest, at most one a character. Assumes nothing.
use Rattle.std.specs.Prelude.{Option, None, Some, option_map, ℕ}
use mathlib.Core.Path.{◌≡◌, refl, sym, ap, ◌∙◌}
use mathlib.Core.Bool.{Bool, true, false, cond}
use mathlib.Core.List.{List, [], ◌∷◌, ◌++◌, append-nil}
use borrow.Rule.Slice.PartMut.{put_mid}
use Prim.Native.Nat.{ℕ, suc, ◌+◌, ◌-◌, ◌≤◌, ◌<◌}
use native.Mathlib.Omega.{arith}
use borrow.Author.Tests.{le-ltb}
use lib.Dec.{ltb}
use lib.ListN.{length, set, take, drop, drop_of_length-le}
use lib.Seq.{sets, length-sets, sets-eq, take_at, take_all}
use Rattle.refusal.proofs.Lists.{none-some}
use Rattle.refusal.specs.Places.{overlay}
use Rattle.text.specs.Text.{well_formed, characters}
use Rattle.text.proofs.Boundaries.{characters-le, boundary-zero}
use Rattle.trie.specs.Trie.{Trie, walk, id_from, id_of}
use Rattle.wordpiece.specs.Pieces.{Found, longest_to, pieces_of, ids_of}
use Rattle.wordpiece.specs.Checked.{rest_from, Walked, Kept}
use Rattle.wordpiece.proofs.Longest.{piece-to}
use Rattle.wordpiece.proofs.Turns.{before, or_unknown}
use Rattle.wordpiece.proofs.Rest.{pieces-empty, pieces-alone, pieces-absent, after-prefix, pieces-with}
use Rattle.wordpiece.proofs.Rest.{Ends, longest-ends, pieces-few, one_more, some-character}

-- the ids `all` are x and then those of the pieces of w from i on; these are no more than the characters from i on
pub record Follows (find : List ℕ → Option ℕ) (w : List ℕ) (i x : ℕ) (all : List ℕ) : Type 0 where
  pub below : i ≤ length w
  pub ids : List ℕ
  pub rest : rest_from find w i ≡ Some ids
  pub whole : all ≡ x ∷ ids
  pub few : suc (length ids) ≤ characters w

-- ---- max_chars

module _ (find : List ℕ → Option ℕ) (unknown max_chars : ℕ) (prefix w : List ℕ) where
  pub ids-long : ltb max_chars (characters w) ≡ true → ids_of find unknown max_chars prefix w ≡ unknown ∷ []
  unfolding ids_of
  ids-long e = ap (λ (b : Bool). cond b (unknown ∷ []) (or_unknown unknown (pieces_of find prefix w))) e

  pub ids_short :
      ltb max_chars (characters w) ≡ false
      → ids_of find unknown max_chars prefix w ≡ or_unknown unknown (pieces_of find prefix w)
  unfolding ids_of
  ids_short e = ap (λ (b : Bool). cond b (unknown ∷ []) (or_unknown unknown (pieces_of find prefix w))) e

  pub ids-empty : length w ≡ 0 → ids_of find unknown max_chars prefix w ≡ []
  ids-empty e =
      ids_short (le-ltb max_chars (characters w) (omega (arith, characters-le w)))
      ∙ ap (or_unknown unknown) (pieces-empty find prefix w e)

-- ---- misses

-- a non-empty word that is one id
abbrev pub One : (List ℕ → Option ℕ) → ℕ → List ℕ → List ℕ → ℕ → Type 0
One find unknown prefix w x = (or_unknown unknown (pieces_of find prefix w) ≡ x ∷ []) × (1 ≤ characters w)

module _ (find : List ℕ → Option ℕ) (unknown : ℕ) (prefix w : List ℕ) (well : well_formed w ≡ true)
    (some_byte : 0 < length w) where
  -- one unknown
  pub missed : pieces_of find prefix w ≡ None → One find unknown prefix w unknown
  missed e = (ap (or_unknown unknown) e, some-character w well some_byte)

  -- a token that is the whole word
  pub alone : {f : Found} → longest_to find [] w 0 (length w) ≡ Some f → f.end ≡ length w → One find unknown prefix w f.id
  alone e last = (ap (or_unknown unknown) (pieces-alone find prefix w some_byte e last), some-character w well some_byte)

module _ (t : Trie) (unknown : ℕ) (prefix w : List ℕ) (well : well_formed w ≡ true) {end id : ℕ}
    (longest : longest_to (id_of t) [] w 0 (length w) ≡ Some (piece-to end id)) (below : end < length w) where
  some_byte : 0 < length w
  some_byte = omega (arith, below)

  -- the prefix leads nowhere
  pub absent : walk t 0 prefix ≡ None → One (id_of t) unknown prefix w unknown
  absent e =
      missed (id_of t) unknown prefix w well some_byte
      (pieces-absent (id_of t) prefix w some_byte (after-prefix t prefix w e) longest below)

  module _ {k : ℕ} (at : walk t 0 prefix ≡ Some k) where
    whole : pieces_of (id_of t) prefix w ≡ before id (rest_from (id_from t k) w end)
    whole = pieces-with t prefix w some_byte longest at

    pub late : None ≡ option_map length (rest_from (id_from t k) w end) → One (id_of t) unknown prefix w unknown
    late e = go (rest_from (id_from t k) w end) refl
      where
        go : (o : Option (List ℕ)) → rest_from (id_from t k) w end ≡ o → One (id_of t) unknown prefix w unknown
        go None g = missed (id_of t) unknown prefix w well some_byte (whole ∙ ap (before id) g)
        go (Some ids) g = absurd (none-some (e ∙ ap (option_map length) g))

    -- all pieces are there
    pub follows :
        {n : ℕ} → Some n ≡ option_map length (rest_from (id_from t k) w end)
        → Follows (id_from t k) w end id (or_unknown unknown (pieces_of (id_of t) prefix w))
    follows {n} e = go (rest_from (id_from t k) w end) refl
      where
        ends : Ends w 0 (length w) (piece-to end id)
        ends = longest-ends (id_of t) [] w 0 (length w) longest

        go :
            (o : Option (List ℕ)) → rest_from (id_from t k) w end ≡ o
            → Follows (id_from t k) w end id (or_unknown unknown (pieces_of (id_of t) prefix w))
        go None g = absurd (none-some (sym (e ∙ ap (option_map length) g)))
        go (Some ids) g =
            record {
              below = ends.below;
              ids = ids;
              rest = g;
              whole = ap (or_unknown unknown) (whole ∙ ap (before id) g);
              few =
                  omega (
                    arith,
                    pieces-few w well (id_from t k) [] (suc (length w - end)) [] end ids ends.at g,
                    one_more w well 0 end (boundary-zero w well) ends.at ends.above,
                  );
            }

-- ---- what is written

-- stores from the first place on lie over what was there
pub sets_over : (vs l : List ℕ) → length vs ≤ length l → sets l 0 vs ≡ overlay vs l
sets_over vs l h =
    let none_before : 0 + length vs ≡ length vs = omega arith in
    sets-eq vs l 0 (omega arith) ∙ ap (λ (n : ℕ). vs ++ drop n l) none_before

-- what was stored from the first place on stands there
pub sets-taken : (vs l : List ℕ) → length vs ≤ length l → take (length vs) (sets l 0 vs) ≡ vs
sets-taken vs l h =
    ap (take (length vs)) (sets_over vs l h) ∙ take_at vs (drop (length vs) l) (length vs) refl

-- so what a walk over the rest left is what is kept between the two walks
pub kept-from :
    {find : List ℕ → Option ℕ} {w : List ℕ} {i x n : ℕ} {all before held places : List ℕ} → Follows find w i x all
    → Walked (rest_from find w i) before (Some n) held → characters w ≤ length places → Kept find w i places held n
kept-from {n = n} {before = before} {held = held} f walked room =
    let many : n ≡ length f.ids = cc (walked.answered, ap (option_map length) f.rest) in
    let stored : held ≡ sets before 0 f.ids = walked.held f.ids f.rest in
    record {
      below = f.below;
      ids = f.ids;
      rest = f.rest;
      many = many;
      room = omega (arith, many, f.few, room);
      held =
          λ h.
          let fits : length f.ids ≤ length before = omega (arith, many, ap length stored, length-sets before 0 f.ids) in
          rw (many, stored) (sets-taken f.ids before fits);
    }

-- x in the first place, and behind it the ids xs for as many places
pub laid_behind :
    (x : ℕ) (xs before : List ℕ) (k : ℕ) → length xs < length before → k ≡ length xs
    → put_mid 1 k (set before 0 x) xs ≡ overlay (x ∷ xs) before
laid_behind x xs [] k h e = absurd (omega arith)
laid_behind x xs (b ∷ before) k h e = ap (λ (n : ℕ). x ∷ xs ++ drop n before) e

-- the same where they were stored in all that is behind it
pub stored_behind :
    (x : ℕ) (xs ys before : List ℕ) (k : ℕ) → length xs < length before → k ≡ length before - 1
    → ys ≡ sets (take k (drop 1 (set before 0 x))) 0 xs → put_mid 1 k (set before 0 x) ys ≡ overlay (x ∷ xs) before
stored_behind x xs ys [] k h e y = absurd (omega arith)
stored_behind x xs ys (b ∷ before) k h e y =
    let none_left : drop k before ≡ [] = drop_of_length-le before (omega arith) in
    let all_there : take k before ≡ before = take_all k before (omega arith) in
    ap (λ (l : List ℕ). x ∷ ys ++ l) none_left
    ∙ ap (λ (l : List ℕ). x ∷ l)
    (append-nil ys ∙ y ∙ ap (λ (l : List ℕ). sets l 0 xs) all_there ∙ sets_over xs before (omega arith))

-- what was written for the ids xs, where these are all
pub written :
    (before : List ℕ) {all xs after : List ℕ} {n : ℕ} → all ≡ xs → (n ≡ length xs) × (after ≡ overlay xs before)
    → (n ≡ length all) × (after ≡ overlay all before)
written before e w = (w.0 ∙ sym (ap length e), w.1 ∙ sym (ap (λ (ids : List ℕ). overlay ids before) e))
