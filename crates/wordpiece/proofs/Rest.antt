-- The pieces of a word from a position on, one after the other. A piece that was found ends further on, on a boundary, so the
-- bound on how many pieces there may be never bites (`enough`); each piece takes at least one character, so they are no more
-- than the characters. Assumes nothing.
use Rattle.std.specs.Prelude.{Option, None, Some, option_and_then, option_map}
use mathlib.Core.Path.{◌≡◌, refl, sym, ap, ◌∙◌}
use mathlib.Core.Bool.{Bool, true, false}
use mathlib.Core.List.{List, [], ◌∷◌, ◌++◌}
use Prim.Native.Nat.{ℕ, zero, suc, ◌+◌, ◌-◌, ◌≤◌, ◌<◌}
use native.Mathlib.Numerals.{add-one}
use native.Mathlib.Omega.{arith}
use borrow.Author.Tests.{ltb-true, ltb-false}
use lib.Dec.{ltb, eqb}
use lib.ListN.{length, take, drop, set}
use lib.Seq.{take-add, take_all, take-length, sets}
use Rattle.refusal.specs.Refusal.{first}
use Rattle.refusal.proofs.Lists.{none-some, false-true}
use Rattle.text.specs.Text.{well_formed, boundary, characters, next, part}
use Rattle.text.proofs.Boundaries.{next-first, characters-next, characters-append, boundary-le, boundary-zero, boundary_end}
use Rattle.trie.specs.Trie.{Trie, walk, id_from, id_of}
use Rattle.trie.proofs.Walking.{from-append, id-of}
use Rattle.wordpiece.specs.Pieces.{Found, piece_to, longest_to, pieces_from, pieces_of}
use Rattle.wordpiece.specs.Checked.{rest_from, Walked}
use Rattle.wordpiece.proofs.Longest.{piece-says, piece-absent, longest-more, longest-until}
use Rattle.wordpiece.proofs.Turns.{before, turn, turn-same, pieces-turn, pieces_end, pieces-next, pieces-same}

pub before-some :
    (x : ℕ) (o : Option (List ℕ)) {ys : List ℕ} → before x o ≡ Some ys → (zs : List ℕ) × (o ≡ Some zs) × (ys ≡ x ∷ zs)
before-some x None e = absurd (none-some e)
before-some x (Some zs) {ys} e = (zs, refl, cc)

-- ---- what was found

-- a piece that was found from i on: not empty, ends on a boundary, at j or before
pub record Ends (w : List ℕ) (i j : ℕ) (f : Found) : Type 0 where
  pub above : i < f.end
  pub below : f.end ≤ j
  pub at : boundary w f.end ≡ true

module _ (find : List ℕ → Option ℕ) (p w : List ℕ) (i : ℕ) where
  pub piece-ends : (j : ℕ) {f : Found} → piece_to find p w i j ≡ Some f → Ends w i j f
  piece-ends j e =
      let s = piece-says find p w i j e in
      record { above = omega (arith, s.0, s.2); below = omega (arith, s.2); at = ap (boundary w) (sym s.2) ∙ s.1 }

  pub longest-ends : (j : ℕ) {f : Found} → longest_to find p w i j ≡ Some f → Ends w i j f
  unfolding longest_to first
  longest-ends zero {f} e = absurd (none-some e)
  longest-ends (suc j) {f} e = go (piece_to find p w i (suc j)) refl (longest-ends j) (sym (longest-more find p w i j) ∙ e)
    where
      go :
          (o : Option Found) → piece_to find p w i (suc j) ≡ o → (longest_to find p w i j ≡ Some f → Ends w i j f)
          → first o (longest_to find p w i j) ≡ Some f → Ends w i (suc j) f
      go None q on r = let s = on r in record { above = s.above; below = omega (arith, s.below); at = s.at }
      go (Some g) q on r = piece-ends (suc j) (q ∙ r)

-- a larger bound changes nothing, where it is more than what is left of the word
enough :
    (find : List ℕ → Option ℕ) (p w : List ℕ) (m n i : ℕ) → length w - i < m → length w - i < n → i ≤ length w
    → pieces_from find p w m p i ≡ pieces_from find p w n p i
enough find p w zero n i a b h = absurd (omega arith)
enough find p w (suc m) zero i a b h = absurd (omega arith)
enough find p w (suc m) (suc n) i a b h =
    pieces-turn find p w m p i
    ∙ turn-same (eqb i (length w)) (longest_to find p w i (length w)) (pieces_from find p w m p) (pieces_from find p w n p)
    (λ f e.
    let s = longest-ends find p w i (length w) e in
    enough find p w m n f.end (omega (arith, s.above, s.below)) (omega (arith, s.above, s.below)) s.below)
    ∙ sym (pieces-turn find p w n p i)

-- ---- the rest of a word

module _ (find : List ℕ → Option ℕ) (w : List ℕ) (i : ℕ) where
  pub rest_end : i ≡ length w → rest_from find w i ≡ Some []
  rest_end e = pieces_end find [] w (length w - i) [] i e

  pub rest-miss : i < length w → longest_to find [] w i (length w) ≡ None → rest_from find w i ≡ None
  rest-miss h e = pieces-next find [] w (length w - i) [] i h e

  pub rest-piece :
      {f : Found} → i < length w → longest_to find [] w i (length w) ≡ Some f
      → rest_from find w i ≡ before f.id (rest_from find w f.end)
  rest-piece {f} h e =
      let s = longest-ends find [] w i (length w) e in
      pieces-next find [] w (length w - i) [] i h e
      ∙ ap (before f.id)
      (enough find [] w (length w - i) (suc (length w - f.end)) f.end (omega (arith, s.above, s.below)) (omega arith) s.below)

-- ---- the whole word

module _ (find : List ℕ → Option ℕ) (prefix w : List ℕ) where
  pub pieces-empty : length w ≡ 0 → pieces_of find prefix w ≡ Some []
  unfolding pieces_of
  pieces-empty e = pieces_end find _ w (length w) _ 0 (sym e)

  module _ (some_byte : 0 < length w) where
    -- by what the first piece is
    pub pieces-first :
        {o : Option Found} → longest_to find [] w 0 (length w) ≡ o
        → pieces_of find prefix w ≡ turn false o (pieces_from find prefix w (length w) prefix)
    unfolding pieces_of
    pieces-first e = pieces-next find prefix w (length w) [] 0 some_byte e

    -- a piece that is the whole word
    pub pieces-alone :
        {f : Found} → longest_to find [] w 0 (length w) ≡ Some f → f.end ≡ length w → pieces_of find prefix w ≡ Some (f.id ∷ [])
    pieces-alone {f} e last = pieces-first e ∙ ap (before f.id) (ended (length w) some_byte)
      where
        ended : (n : ℕ) → 0 < n → pieces_from find prefix w n prefix f.end ≡ Some []
        ended zero h = absurd (omega arith)
        ended (suc n) h = pieces_end find prefix w n prefix f.end last

    -- "If no token begins with a non-empty prefix, only a whole-word token escapes unknown": where the first piece is not the
    -- whole word, the second is a miss
    pub pieces-absent :
        ((s : List ℕ) → find (prefix ++ s) ≡ None) → {f : Found} → longest_to find [] w 0 (length w) ≡ Some f → f.end < length w
        → pieces_of find prefix w ≡ None
    unfolding pieces_from longest_to
    pieces-absent absent {f} e h = pieces-first e ∙ ap (before f.id) (stuck (length w))
      where
        stuck : (n : ℕ) → pieces_from find prefix w n prefix f.end ≡ None
        stuck zero = refl
        stuck (suc n) =
            pieces-next find prefix w n prefix f.end h
            (longest-until find prefix w f.end 0 (length w) (omega arith)
            (λ j a b. piece-absent find prefix w f.end j (absent (part w f.end j))))

-- ---- the whole word over a trie

module _ (t : Trie) (prefix w : List ℕ) where
  -- what stands after the prefix has the id of the walk on from the prefix's node; none, where there is no such node
  pub after-prefix :
      {o : Option ℕ} → walk t 0 prefix ≡ o → (s : List ℕ) → id_of t (prefix ++ s) ≡ option_and_then (λ k. id_from t k s) o
  after-prefix e s =
      id-of t (prefix ++ s) ∙ from-append t 0 prefix s ∙ ap (λ (o : Option ℕ). option_and_then (λ k. id_from t k s) o) e

  -- so the rest goes on from there
  pub pieces-with :
      {f : Found} {k : ℕ} → 0 < length w → longest_to (id_of t) [] w 0 (length w) ≡ Some f → walk t 0 prefix ≡ Some k
      → pieces_of (id_of t) prefix w ≡ before f.id (rest_from (id_from t k) w f.end)
  pieces-with {f} {k} h e g =
      let s = longest-ends (id_of t) [] w 0 (length w) e in
      pieces-first (id_of t) prefix w h e
      ∙ ap (before f.id)
      (pieces-same (id_of t) (id_from t k) w prefix [] prefix [] (after-prefix g) (after-prefix g) (length w) f.end
      ∙ enough (id_from t k) [] w (length w) (suc (length w - f.end)) f.end
      (omega (arith, s.above, s.below)) (omega arith) s.below)

-- ---- no more pieces than characters

module _ (w : List ℕ) (well : well_formed w ≡ true) where
  fewer-before : (i j : ℕ) → i ≤ j → characters (take i w) ≤ characters (take j w)
  fewer-before i j h =
      let n : i + (j - i) ≡ j = omega arith in
      omega (
        arith,
        ap characters (ap (λ (m : ℕ). take m w) (sym n) ∙ take-add i (j - i) w)
            ∙ characters-append (take i w) (take (j - i) (drop i w)),
      )

  -- what stands before a position has no more characters than the word
  pub taken-few : (j : ℕ) → characters (take j w) ≤ characters w
  taken-few j =
      omega (arith, fewer-before j (j + length w) (omega arith), ap characters (take_all (j + length w) w (omega arith)))

  -- from a boundary to a later one there is at least one character
  pub one_more :
      (i j : ℕ) → boundary w i ≡ true → boundary w j ≡ true → i < j → suc (characters (take i w)) ≤ characters (take j w)
  one_more i j a b h =
      let below : i < length w = omega (arith, boundary-le w j b) in
      let step : characters (take (next w i) w) ≡ suc (characters (take i w)) = characters-next w well i a below in
      omega (arith, fewer-before (next w i) j (reached below (ltb j (next w i)) refl))
    where
      reached : i < length w → (c : Bool) → ltb j (next w i) ≡ c → next w i ≤ j
      reached below true e =
          let no : true ≡ false = sym b ∙ next-first w well i a below j h (ltb-true j (next w i) e) in
          absurd (false-true (sym no))
      reached below false e = ltb-false j (next w i) e

  pub some-character : 0 < length w → 1 ≤ characters w
  some-character h =
      omega
      (arith, one_more 0 (length w) (boundary-zero w well) (boundary_end w) h, ap characters (take-length w))

  module _ (find : List ℕ → Option ℕ) (prefix : List ℕ) where
    abbrev Few : ℕ → Type 0
    Few n =
        (at : List ℕ) (i : ℕ) (ids : List ℕ) → boundary w i ≡ true → pieces_from find prefix w n at i ≡ Some ids
        → characters (take i w) + length ids ≤ characters w

    pub pieces-few : (n : ℕ) → Few n
    unfolding pieces_from
    pieces-few zero at i ids a e = absurd (none-some e)
    pieces-few (suc n) at i ids a e =
        go (pieces-few n) (eqb i (length w)) (longest_to find at w i (length w)) refl
        (sym (pieces-turn find prefix w n at i) ∙ e)
      where
        go :
            Few n → (b : Bool) (o : Option Found) → longest_to find at w i (length w) ≡ o
            → turn b o (pieces_from find prefix w n prefix) ≡ Some ids → characters (take i w) + length ids ≤ characters w
        go on true o g q =
            let none_left : ◌≡◌ {A = List ℕ} [] ids = cc in
            omega (arith, ap length none_left, taken-few i)
        go on false None g q = absurd (none-some q)
        go on false (Some f) g q =
            let s = longest-ends find at w i (length w) g in
            let r = before-some f.id (pieces_from find prefix w n prefix f.end) q in
            omega (arith, ap length r.2, on prefix f.end r.0 s.at r.1, one_more i f.end a s.at s.above)

-- ---- counting and writing

-- A walk over the rest, into places that held `before`, has written n ids, and these places now hold `ids`: what is left says
-- what the whole rest is.
abbrev pub Left : Option (List ℕ) → List ℕ → List ℕ → ℕ → Option (List ℕ) → Type 0
Left rest before ids n None = rest ≡ None
Left rest before ids n (Some left) =
    (xs : List ℕ) × (rest ≡ Some xs) × (length xs ≡ n + length left) × (sets before 0 xs ≡ sets ids n left)

pub left-all : (rest : Option (List ℕ)) (ids : List ℕ) → Left rest ids ids 0 rest
left-all None ids = refl
left-all (Some xs) ids = (xs, refl, omega arith, refl)

module _ (rest : Option (List ℕ)) (old ids : List ℕ) (n : ℕ) where
  -- one piece more, with the id x
  pub left-on : (x : ℕ) (o : Option (List ℕ)) → Left rest old ids n (before x o) → Left rest old (set ids n x) (n + 1) o
  left-on x None h = h
  left-on x (Some left) h =
      let one : n + 1 ≡ suc n = add-one n in
      (h.0, h.1, omega (arith, h.2), h.3 ∙ ap (λ (k : ℕ). sets (set ids n x) k left) (sym one))

  pub left_miss : Left rest old ids n None → Walked rest old None ids
  left_miss h = record { answered = sym (ap (option_map length) h); held = λ xs e. absurd (none-some (sym h ∙ e)) }

  pub left_none : Left rest old ids n (Some []) → Walked rest old (Some n) ids
  left_none h =
      let many : n ≡ length h.0 = omega (arith, h.2) in
      record {
        answered = ap Some many ∙ sym (ap (option_map length) h.1);
        held = λ xs e. let same : h.0 ≡ xs = cc (h.1, e) in sym h.3 ∙ ap (sets old 0) same;
      }
