-- The first bad row is the lowest: a row without a fault hands on to the rows after it, a row with one decides. So what is
-- found from row i on is found from row i + 1 on where row i is fine, and that carries a loop over the columns. Assumes
-- nothing.
use Rattle.std.specs.Prelude.{Option, None, Some}
use mathlib.Core.Path.{◌≡◌, refl, sym, ap, ◌∙◌}
use mathlib.Core.List.{List, [], ◌∷◌}
use mathlib.Core.Logic.{◌↔◌}
use Prim.Native.Nat.{ℕ, zero, suc, ◌+◌, ◌-◌, ◌≤◌, ◌<◌}
use native.Mathlib.Omega.{arith}
use lib.ListN.{length, get_or}
use Rattle.refusal.proofs.Lists.{zero_one}
use Rattle.refusal.specs.declared.Fault.{Fault}
use Rattle.refusal.specs.declared.Reason.{Reason}
use Rattle.refusal.specs.declared.Reason.TheVariants as reason
use Rattle.rows.specs.declared.Kind.{Kind}
use Rattle.rows.specs.Rows.{Row, row_fault, first_bad}
use Rattle.rows.specs.Columns.{Columns, row_at, rows_from, rows_of}

-- row i has the fault f, and no row before it has any; d stands for what is read past the end
pub record IsFirstBad (kind : Kind) (tab : List ℕ) (d : Row) (rows : List Row) (f : Fault) (i : ℕ) : Type 0 where
  pub inside : i < length rows
  pub bad : row_fault kind tab (get_or rows i d) ≡ Some f
  pub earlier : (k : ℕ) → k < i → row_fault kind tab (get_or rows k d) ≡ None

module _ (kind : Kind) (tab : List ℕ) where
  -- ---- one row and those after it

  pub bad-here : (i : ℕ) (r : Row) (rs : List Row) (f : Fault) → row_fault kind tab r ≡ Some f → first_bad kind tab i (r ∷ rs) ≡ Some (reason.Row f i)
  unfolding first_bad
  bad-here i r rs f e = rw (e, first_bad)

  pub fine-here : (i : ℕ) (r : Row) (rs : List Row) → row_fault kind tab r ≡ None → first_bad kind tab i (r ∷ rs) ≡ first_bad kind tab (suc i) rs
  unfolding first_bad
  fine-here i r rs e = rw (e, first_bad)

  -- ---- over the columns, from row i on

  module _ (c : Columns) where
    abbrev pub bad_from : ℕ → Option Reason
    bad_from i = first_bad kind tab i (rows_from c i (length c.off - i))

    pub bad-start : first_bad kind tab 0 (rows_of c) ≡ bad_from 0
    unfolding rows_of
    bad-start = let e : length c.off ≡ length c.off - 0 = omega arith in ap (λ (n : ℕ). first_bad kind tab 0 (rows_from c 0 n)) e

    ahead : (i : ℕ) → i < length c.off → rows_from c i (length c.off - i) ≡ row_at c i ∷ rows_from c (suc i) (length c.off - suc i)
    unfolding rows_from
    ahead i h = let e : length c.off - i ≡ suc (length c.off - suc i) = omega arith in ap (rows_from c i) e

    pub bad-turn : (i : ℕ) → i < length c.off → row_fault kind tab (row_at c i) ≡ None → bad_from i ≡ bad_from (suc i)
    bad-turn i h e = ap (first_bad kind tab i) (ahead i h) ∙ fine-here i _ _ e

    pub bad-found : (i : ℕ) (f : Fault) → i < length c.off → row_fault kind tab (row_at c i) ≡ Some f → bad_from i ≡ Some (reason.Row f i)
    bad-found i f h e = ap (first_bad kind tab i) (ahead i h) ∙ bad-here i _ _ f e

    pub bad-stop : (i : ℕ) → length c.off ≤ i → bad_from i ≡ None
    unfolding first_bad rows_from
    bad-stop i h = let e : length c.off - i ≡ 0 = omega arith in ap (λ (n : ℕ). first_bad kind tab i (rows_from c i n)) e

  -- ---- a list of rows: the first bad one is the lowest

  module _ (d : Row) where
    -- what holds of the rows after a fine one holds with it in front
    before_more :
        (r : Row) (rs : List Row) (n : ℕ) → row_fault kind tab r ≡ None → ((k : ℕ) → k < n → row_fault kind tab (get_or rs k d) ≡ None)
        → (k : ℕ) → k < suc n → row_fault kind tab (get_or (r ∷ rs) k d) ≡ None
    before_more r rs n p q zero h = p
    before_more r rs n p q (suc k) h = q k (omega arith)

    abbrev Found : ℕ → List Row → Reason → Type 0
    Found n rs w = (f : Fault) × (k : ℕ) × (w ≡ reason.Row f (n + k)) × IsFirstBad kind tab d rs f k

    here :
        (n : ℕ) (r : Row) (rs : List Row) (w : Reason) (f : Fault)
        → first_bad kind tab n (r ∷ rs) ≡ Some w → row_fault kind tab r ≡ Some f → Found n (r ∷ rs) w
    here n r rs w f e p =
        let named : w ≡ reason.Row f n = cc (bad-here n r rs f p) in
        let at : n ≡ n + 0 = omega arith in (
          f,
          0,
          named ∙ ap (reason.Row f) at,
          record { inside = omega arith; bad = p; earlier = λ k h. absurd (omega arith) },
        )

    later : (n : ℕ) (r : Row) (rs : List Row) (w : Reason) → row_fault kind tab r ≡ None → Found (suc n) rs w → Found n (r ∷ rs) w
    later n r rs w p (f, k, e, b) =
        let at : suc n + k ≡ n + suc k = omega arith in (
          f,
          suc k,
          e ∙ ap (reason.Row f) at,
          record { inside = omega (arith, b.inside); bad = b.bad; earlier = before_more r rs k p b.earlier },
        )

    -- what is found first names the lowest row with a fault, and that fault
    pub first-bad-says :
        (n : ℕ) (rs : List Row) (w : Reason)
        → first_bad kind tab n rs ≡ Some w → (f : Fault) × (k : ℕ) × (w ≡ reason.Row f (n + k)) × IsFirstBad kind tab d rs f k
    unfolding first_bad
    first-bad-says n [] w e = absurd (zero_one cc)
    first-bad-says n (r ∷ rs) w e = go (λ a. first-bad-says (suc n) rs w a) (row_fault kind tab r) refl
      where
        go : (first_bad kind tab (suc n) rs ≡ Some w → Found (suc n) rs w) → (o : Option Fault) → row_fault kind tab r ≡ o → Found n (r ∷ rs) w
        go after (Some f) p = here n r rs w f e p
        go after None p = later n r rs w p (after (sym (fine-here n r rs p) ∙ e))

    pub first-bad-found : (n : ℕ) (rs : List Row) (f : Fault) (k : ℕ) → IsFirstBad kind tab d rs f k → first_bad kind tab n rs ≡ Some (reason.Row f (n + k))
    first-bad-found n [] f k b = absurd (omega (arith, b.inside))
    first-bad-found n (r ∷ rs) f zero b =
        let at : n ≡ n + 0 = omega arith in
        bad-here n r rs f b.bad ∙ ap (λ (m : ℕ). Some (reason.Row f m)) at
    first-bad-found n (r ∷ rs) f (suc k) b =
        let at : suc n + k ≡ n + suc k = omega arith in
        let after : IsFirstBad kind tab d rs f k =
        record { inside = omega (arith, b.inside); bad = b.bad; earlier = λ j h. b.earlier (suc j) (omega arith) } in
        fine-here n r rs (b.earlier 0 (omega arith)) ∙ first-bad-found (suc n) rs f k after ∙ ap (λ (m : ℕ). Some (reason.Row f m)) at

    pub none-bad-says : (n : ℕ) (rs : List Row) → first_bad kind tab n rs ≡ None → (k : ℕ) → k < length rs → row_fault kind tab (get_or rs k d) ≡ None
    none-bad-says n [] e k h = absurd (omega arith)
    none-bad-says n (r ∷ rs) e k h = go (λ a. none-bad-says (suc n) rs a) (row_fault kind tab r) refl
      where
        go :
            (first_bad kind tab (suc n) rs ≡ None → (k : ℕ) → k < length rs → row_fault kind tab (get_or rs k d) ≡ None)
            → (o : Option Fault) → row_fault kind tab r ≡ o → row_fault kind tab (get_or (r ∷ rs) k d) ≡ None
        go after (Some f) p = cc (bad-here n r rs f p)
        go after None p = before_more r rs (length rs) p (after (sym (fine-here n r rs p) ∙ e)) k h

    pub none-bad-found : (n : ℕ) (rs : List Row) → ((k : ℕ) → k < length rs → row_fault kind tab (get_or rs k d) ≡ None) → first_bad kind tab n rs ≡ None
    unfolding first_bad
    none-bad-found n [] q = refl
    none-bad-found n (r ∷ rs) q = fine-here n r rs (q 0 (omega arith)) ∙ none-bad-found (suc n) rs (λ k h. q (suc k) (omega arith))

    -- row i is named exactly where it has the fault and no row before it has any
    pub first-bad-exactly : (rs : List Row) (f : Fault) (i : ℕ) → (first_bad kind tab 0 rs ≡ Some (reason.Row f i)) ↔ IsFirstBad kind tab d rs f i
    first-bad-exactly rs f i = (says, found)
      where
        named : (g : Fault) (k : ℕ) → reason.Row f i ≡ reason.Row g (0 + k) → IsFirstBad kind tab d rs g k → IsFirstBad kind tab d rs f i
        named g k e b =
            let same-fault : g ≡ f = cc in
            let same_row : 0 + k ≡ i = cc in
            let row : k ≡ i = omega arith in
            rw (← same-fault, ← row) b

        says : first_bad kind tab 0 rs ≡ Some (reason.Row f i) → IsFirstBad kind tab d rs f i
        says e = let w = first-bad-says 0 rs (reason.Row f i) e in named w.0 w.1 w.2 w.3

        found : IsFirstBad kind tab d rs f i → first_bad kind tab 0 rs ≡ Some (reason.Row f i)
        found b = let at : 0 + i ≡ i = omega arith in first-bad-found 0 rs f i b ∙ ap (λ (m : ℕ). Some (reason.Row f m)) at

    -- no row is named exactly where no row has a fault
    pub none-bad-exactly : (rs : List Row) → (first_bad kind tab 0 rs ≡ None) ↔ ((k : ℕ) → k < length rs → row_fault kind tab (get_or rs k d) ≡ None)
    none-bad-exactly rs = (none-bad-says 0 rs, none-bad-found 0 rs)
