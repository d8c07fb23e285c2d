-- The pieces of a word, turn by turn; and two look-ups that agree on what stands after their prefixes find the same
-- pieces. By induction on the bound: each turn finds the same longest piece and goes on alike. Assumes nothing.
use Rattle.std.specs.Prelude.{Option, None, Some, option_and_then, option_map, unwrap_or}
use mathlib.Core.Path.{◌≡◌, refl, sym, ap, fun_ext, ◌∙◌}
use mathlib.Core.Bool.{Bool, true, false, cond}
use mathlib.Core.List.{List, [], ◌∷◌, ◌++◌}
use Prim.Native.Nat.{ℕ, zero, suc, ◌<◌}
use native.Mathlib.Omega.{arith}
use borrow.Author.Tests.{eq-eqb, ne_eqb}
use lib.Dec.{eqb}
use lib.ListN.{length}
use Rattle.text.specs.Text.{part}
use Rattle.wordpiece.specs.Pieces.{Found, longest_to, pieces_from, ids_of}
use Rattle.wordpiece.proofs.Longest.{piece_is, longest-more}

-- ---- one turn

-- a piece's id before those of the pieces after it, and one unknown id for a miss
abbrev pub before : ℕ → Option (List ℕ) → Option (List ℕ)
before x o = option_map (λ ids. x ∷ ids) o

abbrev pub or_unknown : ℕ → Option (List ℕ) → List ℕ
or_unknown unknown o = unwrap_or o (unknown ∷ [])

-- nothing at the end of the word, none at a miss, else the piece's id before what comes after it
abbrev pub turn : Bool → Option Found → (ℕ → Option (List ℕ)) → Option (List ℕ)
turn true o on = Some []
turn false None on = None
turn false (Some f) on = before f.id (on f.end)

pub turn-same :
    (b : Bool) (o : Option Found) (on other : ℕ → Option (List ℕ)) → ((f : Found) → o ≡ Some f → on f.end ≡ other f.end)
    → turn b o on ≡ turn b o other
turn-same true o on other h = refl
turn-same false None on other h = refl
turn-same false (Some f) on other h = ap (before f.id) (h f refl)

module _ (find : List ℕ → Option ℕ) (prefix w : List ℕ) (n : ℕ) (at : List ℕ) (i : ℕ) where
  pub pieces-turn :
      pieces_from find prefix w (suc n) at i
      ≡ turn (eqb i (length w)) (longest_to find at w i (length w)) (pieces_from find prefix w n prefix)
  unfolding pieces_from
  pieces-turn = go (eqb i (length w)) (longest_to find at w i (length w))
    where
      go :
          (b : Bool) (o : Option Found)
          → ◌≡◌ {A = Option (List ℕ)}
          (cond b (Some []) (option_and_then (λ f. before f.id (pieces_from find prefix w n prefix f.end)) o))
          (turn b o (pieces_from find prefix w n prefix))
      go true o = refl
      go false None = refl
      go false (Some f) = refl

  pub pieces_end : i ≡ length w → pieces_from find prefix w (suc n) at i ≡ Some []
  pieces_end e = pieces-turn ∙ rw (eq-eqb i (length w) e)

  -- before the end, by what the longest piece is
  pub pieces-next :
      {o : Option Found} → i < length w → longest_to find at w i (length w) ≡ o
      → pieces_from find prefix w (suc n) at i ≡ turn false o (pieces_from find prefix w n prefix)
  pieces-next h e = pieces-turn ∙ rw (ne_eqb i (length w) (λ z. omega arith), e)

-- ---- two look-ups

-- what stands after p has in f the id that it has after q in g
abbrev pub Agree : (List ℕ → Option ℕ) → List ℕ → (List ℕ → Option ℕ) → List ℕ → Type 0
Agree f p g q = (s : List ℕ) → f (p ++ s) ≡ g (q ++ s)

module _ (f g : List ℕ → Option ℕ) (w : List ℕ) where
  longest-same : (p q : List ℕ) → Agree f p g q → (i j : ℕ) → longest_to f p w i j ≡ longest_to g q w i j
  unfolding longest_to
  longest-same p q h i zero = refl
  longest-same p q h i (suc j) =
      longest-more f p w i j
      ∙ rw (piece_is f p w i (suc j), h (part w i (suc j)), ← piece_is g q w i (suc j), longest-same p q h i j)
      (sym (longest-more g q w i j))

  -- look-ups that agree after their prefixes give the same pieces
  pub pieces-same :
      (p q at to : List ℕ) → Agree f p g q → Agree f at g to → (n i : ℕ) → pieces_from f p w n at i ≡ pieces_from g q w n to i
  unfolding pieces_from
  pieces-same p q at to rest first zero i = refl
  pieces-same p q at to rest first (suc n) i =
      pieces-turn f p w n at i
      ∙ turn-same (eqb i (length w)) (longest_to f at w i (length w)) (pieces_from f p w n p) (pieces_from g q w n q)
      (λ x e. pieces-same p q p q rest rest n x.end)
      ∙ ap (λ (o : Option Found). turn (eqb i (length w)) o (pieces_from g q w n q)) (longest-same at to first i (length w))
      ∙ sym (pieces-turn g q w n to i)

-- look-ups that agree on every string give a word the same ids
pub ids-same :
    (f g : List ℕ → Option ℕ) → ((s : List ℕ) → f s ≡ g s) → (unknown max_chars : ℕ) (prefix w : List ℕ)
    → ids_of f unknown max_chars prefix w ≡ ids_of g unknown max_chars prefix w
ids-same f g h unknown max_chars prefix w =
    ap (λ (find : List ℕ → Option ℕ). ids_of find unknown max_chars prefix w) (fun_ext h)
