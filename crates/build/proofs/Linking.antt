-- One node more between a link and what it led to: all links are right again. Only the node's parent and the sibling before it
-- see a change, and they lead to the new node; the new node leads to what stood there. Assumes nothing.
use Rattle.std.specs.Prelude.{None, Some}
use mathlib.Core.Path.{◌≡◌, sym, ap, ◌∙◌, subst}
use mathlib.Core.List.{List, [], ◌∷◌, ◌++◌}
use mathlib.Core.Logic.{◌⊎◌, inl, inr, ⊎_elim}
use Prim.Native.Nat.{ℕ, suc, ◌+◌, ◌*◌, ◌≤◌, ◌<◌}
use native.Mathlib.Omega.{arith}
use Rattle.std.proofs.lemmas.Bool.{cases_eq}
use native.Mathlib.Decide.{dec_lt}
use lib.ListN.{length, get_or, set, length-set}
use lib.Seq.{get_or-set_same, get_or-set_other}
use Rattle.refusal.proofs.Lists.{none-some}
use Rattle.build.specs.Names.{place}
use Rattle.build.specs.Grown.{more}
use Rattle.build.specs.Links.{Clear, Least, First, Slot, of-first, of-next, Linked, Spelled, linked_work}
use Rattle.build.proofs.Strings.{snoc-front, snoc-last, snoc-longer, equal?}
use Rattle.build.proofs.Places.{place-below, place-one, place_kept, place_end, place_other, place-more, length_more}
use Rattle.build.proofs.Grown.{List², grown-none}

-- ---- links

-- the first child from c on is the first from b on, where there is none between
pub first-later : (ns : List²) (s : List ℕ) (c b v : ℕ) → c ≤ b → Clear ns s c b → First ns s c v → First ns s b v
first-later ns s c b v l cl f =
    ⊎_elim (λ w. inl (w.0, λ a p q. w.1 a (omega arith) q))
    (λ (w : Least ns s c v). go w (dec_lt w.a b))
    f
  where
    go : (w : Least ns s c v) → Dec (w.a < b) → First ns s b v
    go w (yes h) = none-some (sym (cl w.a w.from h) ∙ w.child)
    go w (no h) = inr (record { a = w.a; from = omega arith; child = w.child; clear = λ a p q. w.clear a (omega arith) q })

pub slot-first :
    (ns : List²) (work : List ℕ) (s : List ℕ) (b at : ℕ) → Linked ns work → Slot ns s b at → First ns s b (get_or work at 0)
slot-first ns work s b at l (of-first k e p cl) =
    first-later ns s 0 b (get_or work at 0) (omega arith) cl
    (subst (λ (i : ℕ). First ns s 0 (get_or work i 0)) (sym p) (l.first s k e))
slot-first ns work s b at l (of-next a k e p h cl) =
    first-later ns s (suc a) b (get_or work at 0) h cl
    (subst (λ (i : ℕ). First ns s (suc a) (get_or work i 0)) (sym p) (l.next s a k e))

pub slot-below : (ns : List²) (s : List ℕ) (b at : ℕ) → Slot ns s b at → at < 2 * length ns
slot-below ns s b at (of-first k e p cl) = omega (arith, place-below ns s k e)
slot-below ns s b at (of-next a k e p h cl) = omega (arith, place-below ns (s ++ (a ∷ [])) k e)

-- ---- the stores

module _ (work : List ℕ) (at n : ℕ) (before : at < 2 * n) (room : 2 * suc n ≤ length work) where
  length-linked : length (linked_work work at n) ≡ length work
  length-linked = simp length-set

  linked-slot : get_or (linked_work work at n) at 0 ≡ n
  linked-slot = get_or-set_same (set (set work (2 * n) 0) (2 * n + 1) (get_or work at 0)) at n 0 (simp length-set (omega arith))

  linked-first : get_or (linked_work work at n) (2 * n) 0 ≡ 0
  linked-first =
      get_or-set_other (set (set work (2 * n) 0) (2 * n + 1) (get_or work at 0)) at (2 * n) n 0 (λ e. omega arith)
      ∙ get_or-set_other (set work (2 * n) 0) (2 * n + 1) (2 * n) (get_or work at 0) 0 (λ e. omega arith)
      ∙ get_or-set_same work (2 * n) 0 0 (omega arith)

  linked-next : get_or (linked_work work at n) (2 * n + 1) 0 ≡ get_or work at 0
  linked-next =
      get_or-set_other (set (set work (2 * n) 0) (2 * n + 1) (get_or work at 0)) at (2 * n + 1) n 0 (λ e. omega arith)
      ∙ get_or-set_same (set work (2 * n) 0) (2 * n + 1) (get_or work at 0) 0 (simp length-set (omega arith))

  linked-other : (i : ℕ) → (i ≡ at → ⊥) → i < 2 * n → get_or (linked_work work at n) i 0 ≡ get_or work i 0
  linked-other i h l =
      get_or-set_other (set (set work (2 * n) 0) (2 * n + 1) (get_or work at 0)) at i n 0 h
      ∙ get_or-set_other (set work (2 * n) 0) (2 * n + 1) i (get_or work at 0) 0 (λ e. omega arith)
      ∙ get_or-set_other work (2 * n) i 0 0 (λ e. omega arith)

-- ---- one node more

module _ (ns : List²) (work : List ℕ) (l : Linked ns work) (s : List ℕ) (b at j : ℕ) (here : place ns s ≡ Some j)
    (new : place ns (s ++ (b ∷ [])) ≡ None) (slot : Slot ns s b at) (byte : b < 256)
    (room : 2 * suc (length ns) ≤ length work) where
  abbrev n : ℕ
  n = length ns

  abbrev t : List ℕ
  t = s ++ (b ∷ [])

  abbrev ms : List²
  ms = ns ++ (t ∷ [])

  abbrev work' : List ℕ
  work' = linked_work work at n

  before : at < 2 * n
  before = slot-below ns s b at slot

  -- a first child stays one, where the new one does not come before it
  lift :
      (x : List ℕ) (c v : ℕ) → ((e : ℕ) → Clear ns x c e → (a : ℕ) → c ≤ a → a < e → x ++ (a ∷ []) ≡ t → ⊥) → First ns x c v
      → First ms x c v
  lift x c v apart f =
      ⊎_elim
      (λ (w : (v ≡ 0) × Clear ns x c 256). inl (
        w.0,
        λ a p q. place_other ns t (x ++ (a ∷ [])) (apart 256 w.1 a p q)
            ∙ w.1 a p q,
      ))
      (λ (w : Least ns x c v). inr (record {
        a = w.a;
        from = w.from;
        child = place_kept ns (t ∷ []) (x ++ (w.a ∷ [])) v w.child;
        clear = λ a p q. place_other ns t (x ++ (a ∷ [])) (apart w.a w.clear a p q) ∙ w.clear a p q;
      }))
      f

  lift-other : (x : List ℕ) (c v : ℕ) → (x ≡ s → ⊥) → First ns x c v → First ms x c v
  lift-other x c v h f = lift x c v (λ e cl a p q z. h (snoc-front x s a b z)) f

  lift-past : (c v : ℕ) → b < c → First ns s c v → First ms s c v
  lift-past c v h f = lift s c v (λ e cl a p q z. omega (arith, snoc-last s s a b z)) f

  lift-before : (c v a k : ℕ) → place ns (s ++ (a ∷ [])) ≡ Some k → c ≤ a → a < b → First ns s c v → First ms s c v
  lift-before c v a k e p q f =
      lift s c v (λ m cl x g h z. none-some (sym (cl a p (omega (arith, snoc-last s s x b z))) ∙ e)) f

  -- the new node is the first child from c on, where there was none from c to b
  new-least : (c : ℕ) → c ≤ b → Clear ns s c b → First ms s c n
  new-least c h cl =
      inr (record {
        a = b;
        from = h;
        child = place_end ns t new;
        clear = λ a p q. place_other ns t (s ++ (a ∷ [])) (λ z. omega (arith, snoc-last s s a b z)) ∙ cl a p q;
      })

  at_other :
      (i : ℕ) → (i ≡ at → ⊥) → i < 2 * n → (x : List ℕ) (c : ℕ) → First ms x c (get_or work i 0)
      → First ms x c (get_or work' i 0)
  at_other i h q x c f = subst (First ms x c) (sym (linked-other work at n before room i h q)) f

  at_slot : (i : ℕ) → at ≡ i → (x : List ℕ) (c : ℕ) → s ≡ x → First ms s c n → First ms x c (get_or work' i 0)
  at_slot i h x c q f =
      subst (λ (y : List ℕ). First ms y c (get_or work' i 0)) q
      (subst (First ms s c) (sym (ap (λ (k : ℕ). get_or work' k 0) (sym h) ∙ linked-slot work at n before room)) f)

  old-first : (x : List ℕ) (k : ℕ) → place ns x ≡ Some k → Slot ns s b at → First ms x 0 (get_or work' (2 * k) 0)
  old-first x k e (of-first i p q cl) =
      let low : k < n = place-below ns x k e in
      ⊎_elim
      (λ (z : i ≡ k). at_slot (2 * k) (omega arith) x 0 (place-one ns s x k (p ∙ ap Some z) e) (new-least 0 (omega arith) cl))
      (λ (z : i ≡ k → ⊥).
      at_other (2 * k) (λ y. z (omega arith)) (omega arith) x 0
      (lift-other x 0 (get_or work (2 * k) 0)
      (λ y. z (let g : Some i ≡ Some k = sym p ∙ ap (place ns) (sym y) ∙ e in cc)) (l.first x k e)))
      (cases_eq i k)
  old-first x k e (of-next a i p q h cl) =
      let low : k < n = place-below ns x k e in
      at_other (2 * k) (λ y. omega arith) (omega arith) x 0
      (⊎_elim
      (λ (z : s ≡ x).
      subst (λ (y : List ℕ). First ms y 0 (get_or work (2 * k) 0)) z
      (lift-before 0 (get_or work (2 * k) 0) a i p (omega arith) h (l.first s k (ap (place ns) z ∙ e))))
      (λ (z : s ≡ x → ⊥). lift-other x 0 (get_or work (2 * k) 0) (λ y. z (sym y)) (l.first x k e))
      (equal? s x))

  -- the next sibling of s ++ [a], where another link than its own was changed
  kept_next :
      (a k : ℕ) → place ns (s ++ (a ∷ [])) ≡ Some k → Slot ns s b at → (2 * k + 1 ≡ at → ⊥)
      → First ms s (suc a) (get_or work (2 * k + 1) 0)
  kept_next a k e (of-first i p q cl) h = go (dec_lt a b)
    where
      go : Dec (a < b) → First ms s (suc a) (get_or work (2 * k + 1) 0)
      go (yes m) = none-some (sym (cl a (omega arith) m) ∙ e)
      go (no m) = lift-past (suc a) (get_or work (2 * k + 1) 0) (omega arith) (l.next s a k e)
  kept_next a k e (of-next c i p q m cl) h = go (dec_lt a b) (dec_lt a c) (cases_eq a c)
    where
      go : Dec (a < b) → Dec (a < c) → (a ≡ c) ⊎ (a ≡ c → ⊥) → First ms s (suc a) (get_or work (2 * k + 1) 0)
      go (no u) v w = lift-past (suc a) (get_or work (2 * k + 1) 0) (omega arith) (l.next s a k e)
      go (yes u) (yes v) w = lift-before (suc a) (get_or work (2 * k + 1) 0) c i p v m (l.next s a k e)
      go (yes u) (no v) (inl w) =
          let z : Some k ≡ Some i = sym e ∙ ap (λ (y : ℕ). place ns (s ++ (y ∷ []))) w ∙ p in
          let y : k ≡ i = cc in
          absurd (h (omega arith))
      go (yes u) (no v) (inr w) = none-some (sym (cl a (omega arith) u) ∙ e)

  old-next :
      (x : List ℕ) (a k : ℕ) → place ns (x ++ (a ∷ [])) ≡ Some k → Slot ns s b at
      → First ms x (suc a) (get_or work' (2 * k + 1) 0)
  old-next x a k e (of-first i p q cl) =
      let low : k < n = place-below ns (x ++ (a ∷ [])) k e in
      at_other (2 * k + 1) (λ y. omega arith) (omega arith) x (suc a)
      (⊎_elim
      (λ (z : s ≡ x).
      subst (λ (y : List ℕ). First ms y (suc a) (get_or work (2 * k + 1) 0)) z
      (kept_next a k (ap (λ (y : List ℕ). place ns (y ++ (a ∷ []))) z ∙ e) (of-first i p q cl) (λ y. omega arith)))
      (λ (z : s ≡ x → ⊥). lift-other x (suc a) (get_or work (2 * k + 1) 0) (λ y. z (sym y)) (l.next x a k e))
      (equal? s x))
  old-next x a k e (of-next c i p q h cl) =
      let low : k < n = place-below ns (x ++ (a ∷ [])) k e in
      ⊎_elim
      (λ (z : i ≡ k).
      let one : s ++ (c ∷ []) ≡ x ++ (a ∷ []) = place-one ns (s ++ (c ∷ [])) (x ++ (a ∷ [])) k (p ∙ ap Some z) e in
      let last : c ≡ a = snoc-last s x c a one in
      at_slot (2 * k + 1) (omega arith) x (suc a) (snoc-front s x c a one)
      (new-least (suc a) (omega arith) (λ y u v. cl y (omega arith) v)))
      (λ (z : i ≡ k → ⊥).
      at_other (2 * k + 1) (λ y. z (omega arith)) (omega arith) x (suc a)
      (⊎_elim
      (λ (w : s ≡ x).
      subst (λ (y : List ℕ). First ms y (suc a) (get_or work (2 * k + 1) 0)) w
      (kept_next a k (ap (λ (y : List ℕ). place ns (y ++ (a ∷ []))) w ∙ e) (of-next c i p q h cl) (λ y. z (omega arith))))
      (λ (w : s ≡ x → ⊥). lift-other x (suc a) (get_or work (2 * k + 1) 0) (λ y. w (sym y)) (l.next x a k e))
      (equal? s x)))
      (cases_eq i k)

  new-first : (x : List ℕ) (k : ℕ) → x ≡ t → k ≡ n → First ms x 0 (get_or work' (2 * k) 0)
  new-first x k e z =
      subst (λ (y : List ℕ). First ms y 0 (get_or work' (2 * k) 0)) (sym e)
      (inl (
        ap (λ (i : ℕ). get_or work' (2 * i) 0) z ∙ linked-first work at n before room,
        λ a p q. place_other ns t (t ++ (a ∷ [])) (λ y. snoc-longer t a y) ∙ grown-none l.grown t a new,
      ))

  new-next : (x : List ℕ) (a k : ℕ) → x ++ (a ∷ []) ≡ t → k ≡ n → First ms x (suc a) (get_or work' (2 * k + 1) 0)
  new-next x a k e z =
      let front : x ≡ s = snoc-front x s a b e in
      let last : a ≡ b = snoc-last x s a b e in
      let clear : Clear ns s b (suc b) = λ c p q. ap (λ (y : ℕ). place ns (s ++ (y ∷ []))) (omega arith) ∙ new in
      let was : First ns s (suc b) (get_or work at 0) =
      first-later ns s b (suc b) (get_or work at 0) (omega arith) clear (slot-first ns work s b at l slot) in
      let now : First ms s (suc b) (get_or work at 0) = lift-past (suc b) (get_or work at 0) (omega arith) was in
      let value : get_or work' (2 * k + 1) 0 ≡ get_or work at 0 =
      ap (λ (i : ℕ). get_or work' (2 * i + 1) 0) z ∙ linked-next work at n before room in
      subst (First ms x (suc a)) (sym value)
      (subst (λ (y : List ℕ). First ms y (suc a) (get_or work at 0)) (sym front)
      (subst (λ (y : ℕ). First ms s (suc y) (get_or work at 0)) (sym last) now))

  pub linked-more : Linked ms work'
  linked-more =
      record {
        grown = more s b j l.grown here byte new;
        room = omega (arith, length-linked work at n before room, length_more ns t);
        first = λ x k e. ⊎_elim (λ p. old-first x k p slot) (λ p. new-first x k p.0 p.1) (place-more ns t x k new e);
        next = λ x a k e.
            ⊎_elim (λ p. old-next x a k p slot) (λ p. new-next x a k p.0 p.1) (place-more ns t (x ++ (a ∷ [])) k new e);
      }

  pub spelled-more : (edge_n : List ℕ) → n < length edge_n → Spelled ns 0 edge_n → Spelled ms 0 (set edge_n n b)
  spelled-more edge_n h sp =
      record {
        room = omega (arith, length-set edge_n n b, length_more ns t);
        byte = λ x a k e f. ⊎_elim
            (λ (p : place ns (x ++ (a ∷ [])) ≡ Some k).
            get_or-set_other edge_n n k b 0 (λ z. omega (arith, place-below ns (x ++ (a ∷ [])) k p)) ∙ sp.byte x a k p f)
            (λ (p : (x ++ (a ∷ []) ≡ t) × (k ≡ n)).
            ap (λ (i : ℕ). get_or (set edge_n n b) i 0) p.1 ∙ get_or-set_same edge_n n b 0 h ∙ sym (snoc-last x s a b p.0))
            (place-more ns t (x ++ (a ∷ [])) k new e);
      }
