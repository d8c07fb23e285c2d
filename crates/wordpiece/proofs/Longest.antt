-- The longest piece, as the walk finds it. Each byte more of the word is a step more of the walk; a piece that ends there is
-- longer than those before it; and where the walk stops, nothing beyond is a piece. Assumes nothing.
use Rattle.std.specs.Prelude.{Option, None, Some, option_map}
use mathlib.Core.Path.{◌≡◌, refl, sym, ap, ◌∙◌}
use mathlib.Core.Bool.{Bool, true, false, ◌&&◌, cond}
use mathlib.Core.List.{List, [], ◌∷◌, ◌++◌}
use Prim.Native.Nat.{ℕ, zero, suc, ◌+◌, ◌-◌, ◌≤◌, ◌<◌}
use native.Mathlib.Numerals.{add-one}
use native.Mathlib.Omega.{arith}
use native.Mathlib.Decide.{dec_lt}
use borrow.Author.Tests.{lt-ltb, le-ltb, ltb-true}
use lib.Dec.{ltb}
use lib.ListN.{length, get_or, take, drop}
use Rattle.std.proofs.lemmas.List.Edits.{between_more}
use lib.Seq.{take-add, drop-drop}
use Rattle.refusal.specs.Refusal.{first}
use Rattle.refusal.proofs.Lists.{none-some}
use Rattle.refusal.proofs.Tests.{none_first}
use Rattle.text.specs.Text.{boundary, part}
use Rattle.trie.specs.Trie.{Trie, walk, step, id_at, id_from}
use Rattle.trie.specs.Sound.{sound}
use Rattle.trie.proofs.Every as every
use Rattle.trie.proofs.SoundParts.{sound-of}
use Rattle.trie.proofs.Walking.{walk-nil, walk-snoc, walk-append-none, from-none, from_some, step-inside, walk_inside}
use Rattle.wordpiece.specs.Pieces.{Found, piece_to, longest_to}
use Rattle.wordpiece.specs.Checked.{found_in, NodeOf}
use Rattle.wordpiece.specs.declared.checked.Piece.{Piece}

-- ---- parts of a word

-- one byte more
part-more : (w : List ℕ) (i j : ℕ) → i ≤ j → j < length w → part w i (suc j) ≡ part w i j ++ (get_or w j 0 ∷ [])
part-more w i j h b = rw (← add-one) (between_more w i j 0 h b)

-- a part is a part and then the rest of it
part-on : (w : List ℕ) (i j m : ℕ) → i ≤ j → j ≤ m → part w i m ≡ part w i j ++ part w j m
part-on w i j m p q =
    let n : m - i ≡ j - i + (m - j) = omega arith in
    let at : i + (j - i) ≡ j = omega arith in
    ap (λ (k : ℕ). take k (drop i w)) n
    ∙ take-add (j - i) (m - j) (drop i w)
    ∙ ap (λ (l : List ℕ). part w i j ++ take (m - j) l) (drop-drop (j - i) i w ∙ ap (λ (k : ℕ). drop k w) at)

-- ---- a piece that was found

abbrev pub piece-to : ℕ → ℕ → Found
piece-to end x = record { end = end; id = x }

-- the piece that ends at j with this id, where j may be an end
abbrev pub end_at : Bool → ℕ → Option ℕ → Option Found
end_at b j id = cond b (option_map (piece-to j) id) None

-- the test may come first
end-told : (b : Bool) (j : ℕ) (o : Option ℕ) → end_at b j o ≡ option_map (piece-to j) (cond b o None)
end-told true j o = refl
end-told false j o = refl

-- ---- in any look-up, where p stands before the piece

end_none : (b : Bool) (j : ℕ) → end_at b j None ≡ None
end_none true j = refl
end_none false j = refl

module _ (find : List ℕ → Option ℕ) (p w : List ℕ) (i : ℕ) where
  -- a piece, by whether it is not empty and ends on a boundary, and by the id of what is spelled
  pub piece_is : (j : ℕ) → piece_to find p w i j ≡ end_at (ltb i j && boundary w j) j (find (p ++ part w i j))
  unfolding piece_to
  piece_is j = refl

  -- what a piece says
  pub piece-says :
      (j : ℕ) {f : Found} → piece_to find p w i j ≡ Some f
      → (i < j) × (boundary w j ≡ true) × (j ≡ f.end) × (find (p ++ part w i j) ≡ Some f.id)
  piece-says j {f} e = go (ltb i j && boundary w j) (find (p ++ part w i j)) refl (sym (piece_is j) ∙ e)
    where
      go :
          (b : Bool) (o : Option ℕ) → ltb i j && boundary w j ≡ b → end_at b j o ≡ Some f
          → (i < j) × (boundary w j ≡ true) × (j ≡ f.end) × (o ≡ Some f.id)
      go true None q r = absurd (none-some r)
      go true (Some x) q r =
          (ltb-true i j (every.first (ltb i j) (boundary w j) q), every.second (ltb i j) (boundary w j) q, cc, cc)
      go false o q r = absurd (none-some r)

  -- what is not spelled is no piece
  pub piece-absent : (j : ℕ) → find (p ++ part w i j) ≡ None → piece_to find p w i j ≡ None
  piece-absent j e = piece_is j ∙ rw e (end_none (ltb i j && boundary w j) j)

  -- a piece is not empty
  piece-empty : (j : ℕ) → j ≤ i → piece_to find p w i j ≡ None
  piece-empty j h = piece_is j ∙ rw (le-ltb i j h)

  pub longest-more : (j : ℕ) → longest_to find p w i (suc j) ≡ first (piece_to find p w i (suc j)) (longest_to find p w i j)
  unfolding longest_to
  longest-more j = refl

  -- where no piece ends after m, the longest is the one that ends at m or before
  pub longest-until :
      (m n : ℕ) → m ≤ n → ((j : ℕ) → m < j → j ≤ n → piece_to find p w i j ≡ None)
      → longest_to find p w i n ≡ longest_to find p w i m
  longest-until m zero h none-at = let same : 0 ≡ m = omega arith in ap (longest_to find p w i) same
  longest-until m (suc n) h none-at = go (dec_lt m (suc n)) (longest-until m n)
    where
      go :
          Dec (m < suc n)
          → (m ≤ n → ((j : ℕ) → m < j → j ≤ n → piece_to find p w i j ≡ None)
          → longest_to find p w i n ≡ longest_to find p w i m)
          → longest_to find p w i (suc n) ≡ longest_to find p w i m
      go (no l) on = let same : suc n ≡ m = omega (arith, l) in ap (longest_to find p w i) same
      go (yes l) on =
          longest-more n ∙ none_first _ (none-at (suc n) l (omega arith))
          ∙ on (omega arith) (λ j a b. none-at j a (omega arith))

  pub longest-start : (j : ℕ) → j ≤ i → longest_to find p w i j ≡ None
  unfolding longest_to
  longest-start j h = longest-until 0 j (omega arith) (λ m a b. piece-empty m (omega arith))

-- ---- going on from node k: the look-up is the walk from there, and nothing stands before the piece

module _ (t : Trie) (k : ℕ) (w : List ℕ) (i : ℕ) where
  abbrev best : ℕ → Option Found
  best j = longest_to (id_from t k) [] w i j

  -- one step more
  pub longest-step :
      (j : ℕ) {n m : ℕ} → i ≤ j → j < length w → walk t k (part w i j) ≡ Some n → step t n (get_or w j 0) ≡ Some m
      → (walk t k (part w i (suc j)) ≡ Some m)
      × (best (suc j) ≡ first (end_at (boundary w (suc j)) (suc j) (id_at t m)) (best j))
  longest-step j {n} {m} h b e s =
      let on : walk t k (part w i (suc j)) ≡ Some m =
      ap (walk t k) (part-more w i j h b) ∙ walk-snoc t k (part w i j) (get_or w j 0) ∙ rw e s in (
        on,
        longest-more (id_from t k) [] w i j
            ∙ rw (piece_is (id_from t k) [] w i (suc j), lt-ltb i (suc j) (omega arith), from_some t k (part w i (suc j)) on),
      )

  -- no step: nothing beyond is a piece
  pub longest-stops :
      (j : ℕ) {n : ℕ} → i ≤ j → j < length w → walk t k (part w i j) ≡ Some n → step t n (get_or w j 0) ≡ None
      → best (length w) ≡ best j
  longest-stops j {n} h b e s =
      longest-until (id_from t k) [] w i j (length w) (omega arith)
      (λ m q l. piece-absent (id_from t k) [] w i m (from-none t k (part w i m) (none-at m q)))
    where
      stopped : walk t k (part w i (suc j)) ≡ None
      stopped = ap (walk t k) (part-more w i j h b) ∙ walk-snoc t k (part w i j) (get_or w j 0) ∙ rw e s

      none-at : (m : ℕ) → j < m → walk t k (part w i m) ≡ None
      none-at m q =
          ap (walk t k) (part-on w i (suc j) m (omega arith) q)
          ∙ walk-append-none t k (part w i (suc j)) (part w (suc j) m) stopped

-- ---- nodes of sound parts

module _ (t : Trie) (tested : sound t ≡ true) where
  pub root_node : NodeOf t 0
  root_node = record { parts = tested; inside = (sound-of t tested).some-node }

  -- and where a walk over s from the root ends
  pub walk_node : (s : List ℕ) {k : ℕ} → walk t 0 s ≡ Some k → NodeOf t k
  walk_node s e = record { parts = tested; inside = walk_inside t tested 0 s root_node.inside e }

-- ---- the loop that looks for it

-- the walk over the bytes of w from i on, begun at node k, has come to j and to the node; the best piece is the longest that
-- ends at j or before
pub record Come (t : Trie) (k : ℕ) (w : List ℕ) (i node j : ℕ) (best : Option Piece) : Type 0 where
  pub at : NodeOf t node
  pub walked : walk t k (part w i j) ≡ Some node
  pub longest : found_in best ≡ longest_to (id_from t k) [] w i j

module _ (t : Trie) (k : ℕ) (w : List ℕ) (i : ℕ) where
  pub come-start : NodeOf t k → Come t k w i k i None
  come-start at =
      let none_yet : i - i ≡ 0 = omega arith in
      record {
        at = at;
        walked = ap (λ (n : ℕ). walk t k (take n (drop i w))) none_yet ∙ walk-nil t k;
        longest = sym (longest-start (id_from t k) [] w i i (omega arith));
      }

  module _ {node j : ℕ} {best : Option Piece} (come : Come t k w i node j best) (above : i ≤ j) (below : j < length w) where
    -- no step
    pub come-stop : step t node (get_or w j 0) ≡ None → found_in best ≡ longest_to (id_from t k) [] w i (length w)
    come-stop stop = come.longest ∙ sym (longest-stops t k w i j above below come.walked stop)

    module _ {m : ℕ} (led : step t node (get_or w j 0) ≡ Some m) where
      -- the node that it leads to, and that node's place among the ids
      come-at : NodeOf t m
      come-at = record { parts = come.at.parts; inside = step-inside t come.at.parts node (get_or w j 0) come.at.inside led }

      pub come-id : m < length t.id
      come-id = omega (arith, come-at.inside, (sound-of t come.at.parts).level-id)

      -- a step to m, by the piece that ends there
      come-on :
          (o : Option ℕ) → cond (boundary w (j + 1)) (id_at t m) None ≡ o → (next : Option Piece)
          → found_in next ≡ first (option_map (piece-to (j + 1)) o) (found_in best)
          → Come t k w i m (j + 1) next
      come-on o told next same =
          let one : j + 1 ≡ suc j = add-one j in
          let on = rw (← one) at (longest-step t k w i j above below come.walked led) in
          let piece : option_map (piece-to (j + 1)) o ≡ end_at (boundary w (j + 1)) (j + 1) (id_at t m) =
          sym (end-told (boundary w (j + 1)) (j + 1) (id_at t m) ∙ ap (option_map (piece-to (j + 1))) told) in
          record {
            at = come-at;
            walked = on.0;
            longest =
                same ∙ ap (λ (p : Option Found). first p (found_in best)) piece
                ∙ ap (first (end_at (boundary w (j + 1)) (j + 1) (id_at t m))) come.longest
                ∙ sym on.1;
          }

      pub come-past : cond (boundary w (j + 1)) (id_at t m) None ≡ None → Come t k w i m (j + 1) best
      unfolding first
      come-past told = come-on None told best refl

      pub come-piece :
          {x : ℕ} → cond (boundary w (j + 1)) (id_at t m) None ≡ Some x
          → Come t k w i m (j + 1) (Some (record { end = j + 1; id = x }))
      unfolding first
      come-piece {x} told = come-on (Some x) told (Some (record { end = j + 1; id = x })) refl
