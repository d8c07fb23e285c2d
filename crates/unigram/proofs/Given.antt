-- What a piece is in a Unigram trie meets what the laws of the records ask of any rule: for a well-formed text and sound scored
-- parts. A node that a walk ends in is one of the parts, so its score is finite; the character at a boundary ends at the next.
-- Assumes nothing.
use Rattle.std.specs.Prelude.{Option, None, Some, option_to_list}
use mathlib.Core.Path.{◌≡◌, refl, sym, ap, subst, ◌∙◌}
use mathlib.Core.Bool.{Bool, true, false, ◌&&◌, cond}
use mathlib.Core.List.{List}
use mathlib.Core.Logic.{◌⊎◌, inl, inr, ⊎_elim}
use Prim.Native.Nat.{ℕ, zero, suc, ◌+◌, ◌-◌, ◌≤◌, ◌<◌}
use native.Mathlib.Omega.{arith}
use borrow.Author.Tests.{ltb-true, lt-ltb, eq-eqb}
use lib.Dec.{T, ltb, eqb}
use lib.ListN.{length, get_or, take, drop}
use lib.Seq.{take-add}
use Rattle.doubles.specs.Double.{Double, not_a_number, infinite, finite, plus_zero, sum, is_number, is_finite}
use Rattle.doubles.proofs.Order.{at-most-numbers}
use Rattle.text.specs.Text.{well_formed, boundary, next, part, characters}
use Rattle.text.proofs.Boundaries.{boundary-le, boundary-zero, next-above, next-boundary, next-first, characters-append}
use Rattle.text.proofs.Boundaries.{characters-next}
use Rattle.trie.specs.Trie.{walk, id_at}
use Rattle.trie.proofs.SoundParts.{SoundScored, sound-of, scored-of}
use Rattle.trie.proofs.Walking.{walk_inside}
use Rattle.trie.proofs.Every.{both}
use Rattle.cutting.specs.Cuttings.{Piece, nth}
use Rattle.cutting.specs.Records.{best}
use Rattle.unigram.specs.Segment.{sound_model}
use Rattle.unigram.specs.Pieces.{Model, piece_at, known, piece_of, rule}
use Rattle.refusal.specs.Refusal.{first}
use Rattle.refusal.proofs.Lists.{none-some, true-false, below_or}
use Rattle.cutting.proofs.Working.{Pieces, stands_at, absent, none_before, unchanged}
use Rattle.cutting.proofs.Best.{of-true, zero_number, total-number}
use Rattle.cutting.proofs.Reaching.{Reach, all-stand}

-- ---- taking the rule apart

-- the piece that a string has, or the unknown one where it is one character
abbrev pub piece_here : Option Piece → Bool → Piece → Option Piece
piece_here o one unknown = first o (cond one (Some unknown) None)

module _ (m : Model) (s : List ℕ) (i j : ℕ) where
  -- from boundary to boundary
  pub piece-between :
      i < j → boundary s i ≡ true → boundary s j ≡ true
      → piece_of m s i j ≡ piece_here (known m (part s i j)) (eqb j (next s i)) m.unknown
  unfolding piece_of
  piece-between l p q =
      ap (λ (t : Bool). cond t (piece_here (known m (part s i j)) (eqb j (next s i)) m.unknown) None)
      (both (lt-ltb i j l) (both p q))

  pub record Between (p : Piece) : Type 0 where
    pub forward : i < j
    pub from : boundary s i ≡ true
    pub to : boundary s j ≡ true
    pub here : piece_here (known m (part s i j)) (eqb j (next s i)) m.unknown ≡ Some p

  pub between : (p : Piece) → piece_of m s i j ≡ Some p → Between p
  unfolding piece_of
  between p = by_tests (ltb i j) (boundary s i) (boundary s j) refl refl refl
    where
      by_tests :
          (a b c : Bool) → ltb i j ≡ a → boundary s i ≡ b → boundary s j ≡ c
          → cond (a && (b && c)) (piece_here (known m (part s i j)) (eqb j (next s i)) m.unknown) None ≡ Some p → Between p
      by_tests true true true a b c e = record { forward = ltb-true i j a; from = b; to = c; here = e }
      by_tests true true false a b c e = none-some e
      by_tests true false c' a b c e = none-some e
      by_tests false b' c' a b c e = none-some e

-- what a piece is where it is
pub here-known :
    (o : Option Piece) (one : Bool) (u p : Piece) → piece_here o one u ≡ Some p
    → (o ≡ Some p) ⊎ ((o ≡ None) × (one ≡ true) × (u ≡ p))
unfolding first
here-known (Some q) one u p e = inl e
here-known None true u p e = inr (refl, refl, let same : u ≡ p = cc in same)
here-known None false u p e = none-some e

-- a known piece is that of the node where its walk ends
pub known-node :
    (m : Model) (s : List ℕ) (p : Piece) → known m s ≡ Some p
    → (k : ℕ) × (walk m.trie 0 s ≡ Some k) × (p.score ≡ get_or m.score k plus_zero)
unfolding known piece_at
known-node m s p = by-walk (walk m.trie 0 s) refl
  where
    at-node :
        (k : ℕ) (o : Option ℕ) → walk m.trie 0 s ≡ Some k
        → elim o [ None ↦ None | Some i ↦ Some (record { id = i; score = get_or m.score k plus_zero }) ] ≡ Some p
        → (n : ℕ) × (walk m.trie 0 s ≡ Some n) × (p.score ≡ get_or m.score n plus_zero)
    at-node k None w e = none-some e
    at-node k (Some i) w e = (k, w, ap (λ (x : Option Piece). elim x [ None ↦ p.score | Some q ↦ q.score ]) (sym e))

    by-walk :
        (o : Option ℕ) → walk m.trie 0 s ≡ o → elim o [ None ↦ None | Some k ↦ piece_at m k ] ≡ Some p
        → (k : ℕ) × (walk m.trie 0 s ≡ Some k) × (p.score ≡ get_or m.score k plus_zero)
    by-walk None w e = none-some e
    by-walk (Some k) w e = at-node k (id_at m.trie k) w e

pub one-there : (o : Option Piece) (u : Piece) → (p : Piece) × (piece_here o true u ≡ Some p)
unfolding first
one-there None u = (u, refl)
one-there (Some p) u = (p, refl)

-- what a list of at most one piece has
listed_has : (o : Option Piece) (k : ℕ) (p : Piece) → nth (option_to_list o) k ≡ Some p → o ≡ Some p
unfolding nth
listed_has None k p e = none-some e
listed_has (Some q) zero p e = e
listed_has (Some q) (suc k) p e = none-some e

listed-first : (o : Option Piece) (p : Piece) → o ≡ Some p → nth (option_to_list o) 0 ≡ Some p
unfolding nth
listed-first o p e = ap (λ (q : Option Piece). nth (option_to_list q) 0) e

back-number : (x y : Double) → T (is_number (sum x y)) → T (is_number x)
unfolding sum is_number
back-number not_a_number y t = absurd t
back-number (infinite s) y t = tt
back-number (finite s n) y t = tt

module _ (m : Model) (s : List ℕ) (well : well_formed s ≡ true) (tested : sound_model m ≡ true) where
  sound : SoundScored m.trie m.score m.unknown.score
  sound = scored-of m.trie m.score m.unknown.score tested

  finite-piece : (i j : ℕ) (p : Piece) → piece_of m s i j ≡ Some p → T (is_finite p.score)
  finite-piece i j p e =
      ⊎_elim
      (λ (k : known m (part s i j) ≡ Some p).
      let w = known-node m (part s i j) p k in
      let inside = walk_inside m.trie sound.parts 0 (part s i j) (sound-of m.trie sound.parts).some-node w.1 in
      subst (λ (x : Double). T (is_finite x)) (sym w.2)
      (of-true (sound.finite w.0 (omega (arith, inside, sound.level-score)))))
      (λ (w : (known m (part s i j) ≡ None) × (eqb j (next s i) ≡ true) × (m.unknown ≡ p)).
      subst (λ (x : Piece). T (is_finite x.score)) w.2 (of-true sound.finite-unknown))
      (here-known (known m (part s i j)) (eqb j (next s i)) m.unknown p (between m s i j p e).here)

  pub given : Pieces (length s) (rule m s)
  given =
      record {
        forward = λ i j k p e. (between m s i j p (listed_has (piece_of m s i j) k p e)).forward;
        inside = λ i j k p e. boundary-le s j (between m s i j p (listed_has (piece_of m s i j) k p e)).to;
        finite = λ i j k p e. finite-piece i j p (listed_has (piece_of m s i j) k p e);
        zero-counts = zero_number;
        number = λ x t. t;
        up = λ x y t l. (at-most-numbers x y l).1;
        back = λ x y f t. back-number x y t;
      }

  reach : Reach (boundary s) (length s) (rule m s)
  reach =
      record {
        first = boundary-zero s well;
        to = λ i j k p e. (between m s i j p (listed_has (piece_of m s i j) k p e)).to;
        single = λ i l at.
            let j = next s i in
            let w = one-there (known m (part s i j)) m.unknown in (
              j,
              0,
              w.0,
              listed-first (piece_of m s i j) w.0
                  (piece-between m s i j (next-above s well i at l) at (next-boundary s well i at l)
                  ∙ ap (λ (t : Bool). piece_here (known m (part s i j)) t m.unknown) (eq-eqb j j refl)
                  ∙ w.1),
              next-first s well i at l,
            );
      }

  -- something stands at every boundary
  pub boundary-stands : (j : ℕ) → j ≤ length s → boundary s j ≡ true → (x : Double) × (stands_at (rule m s) j ≡ Some x)
  boundary-stands = all-stand given reach (λ j c. total-number given c)

  -- where no piece ends the record stays empty: at 0, and inside characters
  ends-empty :
      (from j : ℕ) → ((i k : ℕ) (p : Piece) → nth ((rule m s).pieces i j) k ≡ Some p → ⊥) → best (rule m s) from j ≡ None
  ends-empty from j no_such =
      unchanged (rule m s) 0 from j (omega arith) (λ i l h. absent ((rule m s).pieces i j) (no_such i))
      ∙ none_before (rule m s) j

  pub first-empty : (from : ℕ) → best (rule m s) from 0 ≡ None
  first-empty from = ends-empty from 0 (λ i k p e. omega (arith, given.forward i 0 k p e))

  pub within-empty : (from j : ℕ) → boundary s j ≡ false → best (rule m s) from j ≡ None
  within-empty from j e = ends-empty from j (λ i k p h. true-false (reach.to i j k p h) e)

  -- no piece starts elsewhere
  pub starts-on : (i j k : ℕ) (p : Piece) → nth ((rule m s).pieces i j) k ≡ Some p → boundary s i ≡ true
  starts-on i j k p e = (between m s i j p (listed_has (piece_of m s i j) k p e)).from

  -- a piece takes at least one character
  pub piece-rises :
      (i j k : ℕ) (p : Piece) → nth ((rule m s).pieces i j) k ≡ Some p → characters (take i s) < characters (take j s)
  piece-rises i j place p e =
      let b = between m s i j p (listed_has (piece_of m s i j) place p e) in
      let below : i < length s = omega (arith, b.forward, boundary-le s j b.to) in
      let reach : next s i ≤ j =
      ⊎_elim (λ (h : j < next s i). absurd (true-false b.to (next-first s well i b.from below j b.forward h)))
      (λ (h : next s i ≤ j). h) (below_or j (next s i))
      in
      let k = next s i in
      let there : k + (j - k) ≡ j = omega arith in
      omega (
        arith,
        characters-next s well i b.from below,
        ap (λ (n : ℕ). characters (take n s)) there,
        ap characters (take-add k (j - k) s),
        characters-append (take k s) (take (j - k) (drop k s)),
      )
