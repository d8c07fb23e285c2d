-- The path by the start column. The ends before j are those before its start and then j, which is a turn of the code that
-- counts them and of that which writes them (`turn`). By slots that hold the records, the starts fall from where something
-- stands. Assumes nothing.
use Rattle.std.specs.Prelude.{Option, None, Some}
use mathlib.Core.Path.{◌≡◌, refl, sym, ap, subst, ◌∙◌}
use mathlib.Core.Bool.{Bool, true, false}
use mathlib.Core.List.{List, [], ◌∷◌, ◌++◌, append_assoc}
use Prim.Native.Nat.{ℕ, zero, suc, ◌≤◌, ◌<◌}
use native.Mathlib.Omega.{arith}
use lib.ListN.{length, get_or, take, drop, set, length-append}
use lib.Seq.{set_split, drop_at, length-take-le}
use Rattle.doubles.specs.Double.{Double}
use Rattle.refusal.specs.Sizes.{no_id, max_text}
use Rattle.cutting.specs.Cuttings.{Rule, Slot}
use Rattle.cutting.specs.Records.{best, shown}
use Rattle.cutting.specs.Tracing.{ends_from, Falling}
use Rattle.refusal.proofs.Lists.{true-false, place_inside}
use Rattle.cutting.proofs.Working.{Pieces, stands_at}
use Rattle.cutting.proofs.Best.{sooner-below, filled}

module _ (starts : List ℕ) where
  pub ends-first : (n : ℕ) → ends_from starts n 0 ≡ []
  unfolding ends_from
  ends-first zero = refl
  ends-first (suc n) = refl

  pub ends-before : (n j : ℕ) → 0 < j → ends_from starts (suc n) j ≡ ends_from starts n (get_or starts j no_id) ++ (j ∷ [])
  unfolding ends_from
  ends-before n zero l = absurd (omega arith)
  ends-before n (suc j) l = refl

  -- no more than bounded
  pub ends-few : (n j : ℕ) → length (ends_from starts n j) ≤ n
  unfolding ends_from
  ends-few zero j = omega arith
  ends-few (suc n) zero = omega arith
  ends-few (suc n) (suc j) =
      omega (arith, length-append (ends_from starts n (get_or starts (suc j) no_id)) (suc j ∷ []), ends-few n (get_or starts (suc j) no_id))

module _ {starts : List ℕ} {end : ℕ} (f : Falling starts end) where
  -- any number from j on bounds it
  ends-enough : (n m j : ℕ) → j ≤ n → j ≤ m → j ≤ end → f.marks j ≡ true → ends_from starts n j ≡ ends_from starts m j
  ends-enough zero zero j l k inside at = refl
  ends-enough zero (suc m) j l k inside at =
      let z : j ≡ 0 = omega arith in
      ap (ends_from starts 0) z ∙ ends-first starts 0 ∙ sym (ap (ends_from starts (suc m)) z ∙ ends-first starts (suc m))
  ends-enough (suc n) zero j l k inside at =
      let z : j ≡ 0 = omega arith in
      ap (ends_from starts (suc n)) z ∙ ends-first starts (suc n) ∙ sym (ap (ends_from starts 0) z ∙ ends-first starts 0)
  ends-enough (suc n) (suc m) zero l k inside at = ends-first starts (suc n) ∙ sym (ends-first starts (suc m))
  ends-enough (suc n) (suc m) (suc j) l k inside at =
      let i = get_or starts (suc j) no_id in
      let below : i < suc j = f.falls (suc j) (omega arith) inside at in
      ends-before starts n (suc j) (omega arith)
      ∙ ap (λ (es : List ℕ). es ++ (suc j ∷ [])) (ends-enough n m i (omega arith) (omega arith) (omega arith) (f.stays (suc j) (omega arith) inside at))
      ∙ sym (ends-before starts m (suc j) (omega arith))

  -- one record back
  ends-turn :
      (j : ℕ) → 0 < j → j ≤ end → f.marks j ≡ true → let i = get_or starts j no_id in
      ends_from starts j j ≡ ends_from starts i i ++ (j ∷ [])
  ends-turn zero l inside at = absurd (omega arith)
  ends-turn (suc j) l inside at =
      let i = get_or starts (suc j) no_id in
      let below : i < suc j = f.falls (suc j) l inside at in
      ends-before starts j (suc j) l
      ∙ ap (λ (es : List ℕ). es ++ (suc j ∷ []))
      (ends-enough j i i (omega arith) (omega arith) (omega arith) (f.stays (suc j) l inside at))

-- ---- one turn of the code: from a position come to, back to the start that is read there

-- a position come to from n
abbrev pub Come : List ℕ → ℕ → ℕ → Type 0
Come starts n j = (j ≤ n) × ((f : Falling starts n) → f.marks j ≡ true)

-- the start i that stands at j
pub record Turn (starts : List ℕ) (n j i : ℕ) : Type 0 where
  pub inside : j < length starts
  pub below : i < j
  pub come : Come starts n i
  pub ends : ends_from starts j j ≡ ends_from starts i i ++ (j ∷ [])
  pub many : length (ends_from starts j j) ≡ suc (length (ends_from starts i i))

pub turn : {starts : List ℕ} {n : ℕ} → Falling starts n → (j : ℕ) → 0 < j → Come starts n j → Turn starts n j (get_or starts j 0)
turn {starts} {n} f j l c =
    let inside : j < length starts = omega (arith, c.0, f.inside) in
    let i = get_or starts j no_id in
    let ends = ends-turn f j l c.0 (c.1 f) in
    subst (Turn starts n j) (place_inside starts j no_id 0 inside)
    (record {
      inside = inside;
      below = f.falls j l c.0 (c.1 f);
      come = (omega (arith, f.falls j l c.0 (c.1 f), c.0), λ h. h.stays j l c.0 (c.1 h));
      ends = ends;
      many = omega (arith, ap length ends, length-append (ends_from starts i i) (j ∷ []));
    })

-- ---- a store before what has been written

drop-set : (l : List ℕ) (k a : ℕ) → k < length l → drop k (set l k a) ≡ a ∷ drop (suc k) l
drop-set l k a h = ap (drop k) (set_split l k a h) ∙ drop_at (take k l) (a ∷ drop (suc k) l) k (length-take-le k l (omega arith))

-- the path's turn: the end j goes to the place before those written
pub written_back : (es : List ℕ) (j : ℕ) (path : List ℕ) (k : ℕ) → k ≡ length es → k < length path → (es ++ (j ∷ [])) ++ drop (suc k) path ≡ es ++ drop k (set path k j)
written_back es j path k e l = append_assoc es (j ∷ []) (drop (suc k) path) ∙ ap (λ (u : List ℕ). es ++ u) (sym (drop-set path k j l))

-- ---- by slots that hold the records

-- whether something stands
stands? : Option Double → Bool
stands? None = false
stands? (Some x) = true

stands-there : (o : Option Double) → stands? o ≡ true → (x : Double) × (o ≡ Some x)
unfolding stands?
stands-there None e = absurd (true-false e refl)
stands-there (Some x) e = (x, refl)

module _ {end : ℕ} {rule : Rule} (g : Pieces end rule) (starts : List ℕ) (holds : (j : ℕ) → j ≤ end → get_or starts j no_id ≡ (shown (best rule j j)).start) where
  start_is : (j : ℕ) (r : Slot) → j ≤ end → best rule j j ≡ Some r → get_or starts j no_id ≡ r.start
  unfolding shown
  start_is j r inside e = holds j inside ∙ ap (λ (o : Option Slot). (shown o).start) e

  marks-at : ℕ → Bool
  marks-at j = stands? (stands_at rule j)

  -- from a marked position after the first, the start is a marked one below
  back_to : (j : ℕ) → 0 < j → j ≤ end → marks-at j ≡ true → (get_or starts j no_id < j) × (marks-at (get_or starts j no_id) ≡ true)
  unfolding marks-at stands?
  back_to j l inside at =
      let v = stands-there (stands_at rule j) at in
      let w = filled g j v.0 l v.1 in
      let e = start_is j w.0 inside w.1 in
      let h : w.0.start < j = sooner-below w.3.below in
      (omega arith, ap (λ (i : ℕ). stands? (stands_at rule i)) e ∙ ap stands? w.3.offer.stands)

  pub falling : (x : Double) → end < length starts → end ≤ max_text → stands_at rule end ≡ Some x → Falling starts end
  unfolding marks-at stands?
  falling x inside size at =
      record {
        marks = marks-at;
        inside = inside;
        size = size;
        marked = ap stands? at;
        falls = λ j l k b. (back_to j l k b).0;
        stays = λ j l k b. (back_to j l k b).1;
      }
