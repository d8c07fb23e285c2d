-- Names are distinct, the root is the first, and what a name extends stands before it: by induction on how the list grew. The
-- names of tokens grow so, a prefix at a time. Assumes nothing.
use Rattle.std.specs.Prelude.{None, Some}
use mathlib.Core.Path.{◌≡◌, refl, sym, ap, ◌∙◌, subst}
use mathlib.Core.List.{List, [], ◌∷◌, ◌++◌, append-nil}
use mathlib.Core.Logic.{⊎_elim}
use Prim.Native.Nat.{ℕ, zero, suc, ◌+◌, ◌≤◌, ◌<◌}
use native.Mathlib.Omega.{arith}
use Rattle.std.proofs.Math.Nat.{eq-or-lt_of_le}
use lib.ListN.{length, get_or, get_or-append}
use lib.Seq.{get_or-append_seam, append_snoc}
use Rattle.refusal.proofs.Lists.{zero_one, none-some}
use Rattle.build.specs.Names.{place, prefixes, add, enter}
use Rattle.build.specs.Grown.{Grown, root, more, Bytes}
use Rattle.build.proofs.Strings.{snoc-nil, snoc-front, snoc-last, same_refl}
use Rattle.build.proofs.Places.{found?, place-empty, missing, place-hit, place-below}
use Rattle.build.proofs.Places.{place_kept, place_end, place_other, place-more, add-there, add-new, length_more}

abbrev pub List² : Type 0
List² = List (List ℕ)

-- ---- lists that grew

pub grown-root : {ns : List²} → Grown ns → place ns [] ≡ Some 0
grown-root root = place-hit [] [] [] (same_refl [])
grown-root (more {ns} p c j g e h f) = place_kept ns ((p ++ (c ∷ [])) ∷ []) [] 0 (grown-root g)

pub grown-some : {ns : List²} → Grown ns → 0 < length ns
grown-some {ns} g = place-below ns [] 0 (grown-root g)

pub grown-distinct : {ns : List²} → Grown ns → (k : ℕ) → k < length ns → place ns (get_or ns k []) ≡ Some k
grown-distinct root zero h = place-hit [] [] [] (same_refl [])
grown-distinct root (suc k) h = absurd (omega arith)
grown-distinct (more {ns} p c j g e h f) k l =
    let t = p ++ (c ∷ []) in
    ⊎_elim
    (λ (b : k ≡ length ns).
    let q : get_or (ns ++ (t ∷ [])) k [] ≡ t = ap (λ (i : ℕ). get_or (ns ++ (t ∷ [])) i []) b ∙ get_or-append_seam ns t [] [] in
    ap (place (ns ++ (t ∷ []))) q ∙ place_end ns t f ∙ ap Some (sym b))
    (λ (b : k < length ns). subst (λ (x : List ℕ). place (ns ++ (t ∷ [])) x ≡ Some k) (sym (get_or-append ns (t ∷ []) [] k b))
    (place_kept ns (t ∷ []) (get_or ns k []) k (grown-distinct g k b)))
    (eq-or-lt_of_le (let h : k ≤ length ns = omega (arith, length_more ns t) in h))

-- what a name extends stands before it
pub grown-parent :
    {ns : List²} → Grown ns → (s : List ℕ) (b k : ℕ) → place ns (s ++ (b ∷ [])) ≡ Some k
    → (j : ℕ) × (place ns s ≡ Some j) × (j < k) × (b < 256)
grown-parent root s b k e =
    let other = place_other [] [] (s ++ (b ∷ [])) (λ q. snoc-nil s b q) in
    none-some (sym (other ∙ place-empty (s ++ (b ∷ []))) ∙ e)
grown-parent (more {ns} p c j g e h f) s b k q =
    let t = p ++ (c ∷ []) in
    ⊎_elim
    (λ (r : place ns (s ++ (b ∷ [])) ≡ Some k).
    let w = grown-parent g s b k r in
    (w.0, place_kept ns (t ∷ []) s w.0 w.1, w.2, w.3))
    (λ (r : (s ++ (b ∷ []) ≡ t) × (k ≡ length ns)).
    let front = snoc-front s p b c r.0 in
    let last = snoc-last s p b c r.0 in
    (j, place_kept ns (t ∷ []) s j (ap (place ns) front ∙ e), omega (arith, place-below ns p j e, r.1), omega arith))
    (place-more ns t (s ++ (b ∷ [])) k f q)

-- and so does all that a name begins with
pub grown-begins :
    {ns : List²} → Grown ns → (q s : List ℕ) (k : ℕ) → place ns (q ++ s) ≡ Some k → (j : ℕ) × (place ns q ≡ Some j)
grown-begins {ns} g q [] k e = (k, ap (place ns) (sym (append-nil q)) ∙ e)
grown-begins {ns} g q (b ∷ s) k e =
    let w = grown-begins g (q ++ (b ∷ [])) s k (ap (place ns) (append_snoc q b s) ∙ e) in
    let v = grown-parent g q b w.0 w.1 in
    (v.0, v.1)

-- the children of a string that is no name are none
pub grown-none :
    {ns : List²} → Grown ns → (s : List ℕ) (b : ℕ) → place ns s ≡ None → place ns (s ++ (b ∷ [])) ≡ None
grown-none {ns} g s b e =
    missing (place ns (s ++ (b ∷ []))) (λ k q. none-some (sym e ∙ (grown-parent g s b k q).1))

-- ---- one more name

pub grown-add :
    {ns : List²} → Grown ns → (p : List ℕ) (c j : ℕ) → place ns p ≡ Some j → c < 256 → Grown (add ns (p ++ (c ∷ [])))
grown-add {ns} g p c j e h =
    ⊎_elim (λ q. subst Grown (sym (add-new ns (p ++ (c ∷ [])) q)) (more p c j g e h q))
    (λ q. subst Grown (sym (add-there ns (p ++ (c ∷ [])) q.0 q.1)) g)
    (found? (place ns (p ++ (c ∷ []))))

pub add-keeps : (ns : List²) (t s : List ℕ) (k : ℕ) → place ns s ≡ Some k → place (add ns t) s ≡ Some k
add-keeps ns t s k e =
    ⊎_elim (λ q. ap (λ (l : List²). place l s) (add-new ns t q) ∙ place_kept ns (t ∷ []) s k e)
    (λ q. ap (λ (l : List²). place l s) (add-there ns t q.0 q.1) ∙ e)
    (found? (place ns t))

pub add-has : (ns : List²) (t : List ℕ) → (k : ℕ) × (place (add ns t) t ≡ Some k)
add-has ns t =
    ⊎_elim (λ q. (length ns, ap (λ (l : List²). place l t) (add-new ns t q) ∙ place_end ns t q))
    (λ q. (q.0, ap (λ (l : List²). place l t) (add-there ns t q.0 q.1) ∙ q.1))
    (found? (place ns t))

-- a list never gets shorter
pub add-grows : (ns : List²) (t : List ℕ) → length ns ≤ length (add ns t)
add-grows ns t =
    ⊎_elim (λ q. omega (arith, ap length (add-new ns t q), length_more ns t))
    (λ q. omega (arith, ap length (add-there ns t q.0 q.1)))
    (found? (place ns t))

pub add-few : (ns : List²) (t : List ℕ) → length (add ns t) ≤ suc (length ns)
add-few ns t =
    ⊎_elim (λ q. omega (arith, ap length (add-new ns t q), length_more ns t))
    (λ q. omega (arith, ap length (add-there ns t q.0 q.1)))
    (found? (place ns t))

-- ---- one more token

pub enter-keeps : (ss : List²) (ns : List²) (s : List ℕ) (k : ℕ) → place ns s ≡ Some k → place (enter ns ss) s ≡ Some k
unfolding enter
enter-keeps [] ns s k e = e
enter-keeps (t ∷ ss) ns s k e = enter-keeps ss (add ns t) s k (add-keeps ns t s k e)

pub enter-grows : (ss : List²) (ns : List²) → length ns ≤ length (enter ns ss)
unfolding enter
enter-grows [] ns = omega arith
enter-grows (t ∷ ss) ns = omega (arith, add-grows ns t, enter-grows ss (add ns t))

pub enter-few : (ss : List²) (ns : List²) → length (enter ns ss) ≤ length ns + length ss
unfolding enter
enter-few [] ns = omega arith
enter-few (t ∷ ss) ns = omega (arith, add-few ns t, enter-few ss (add ns t))

pub enter-append : (ss ts : List²) (ns : List²) → enter ns (ss ++ ts) ≡ enter (enter ns ss) ts
unfolding enter
enter-append [] ts ns = refl
enter-append (s ∷ ss) ts ns = enter-append ss ts (add ns s)

pub length-prefixes : (p s : List ℕ) → length (prefixes p s) ≡ length s
unfolding prefixes
length-prefixes p [] = refl
length-prefixes p (b ∷ s) = ap suc (length-prefixes (p ++ (b ∷ [])) s)

bytes-tail : (b : ℕ) (s : List ℕ) → Bytes (b ∷ s) → Bytes s
bytes-tail b s h i l = h (suc i) (omega arith)

pub grown-enter :
    (s p : List ℕ) (ns : List²) (j : ℕ) → Grown ns → place ns p ≡ Some j → Bytes s → Grown (enter ns (prefixes p s))
unfolding enter prefixes
grown-enter [] p ns j g e h = g
grown-enter (b ∷ s) p ns j g e h =
    let q = p ++ (b ∷ []) in
    let w = add-has ns q in
    grown-enter s q (add ns q) w.0 (grown-add g p b j e (h 0 (omega arith))) w.1 (bytes-tail b s h)

-- a token that was entered is a name, and so is all that it begins with
pub enter-has :
    (s p q : List ℕ) (ns : List²) (j : ℕ) → place ns p ≡ Some j → (r : List ℕ) → s ≡ q ++ r
    → (k : ℕ) × (place (enter ns (prefixes p s)) (p ++ q) ≡ Some k)
unfolding enter prefixes
enter-has s p [] ns j e r d =
    (j, ap (place (enter ns (prefixes p s))) (append-nil p) ∙ enter-keeps (prefixes p s) ns p j e)
enter-has [] p (b ∷ q) ns j e r d = absurd (zero_one cc)
enter-has (c ∷ s) p (b ∷ q) ns j e r d =
    let t = p ++ (c ∷ []) in
    let same_byte : c ≡ b = cc in
    let rest : s ≡ q ++ r = cc in
    let w = add-has ns t in
    let v = enter-has s t q (add ns t) w.0 w.1 r rest in
    let f : p ++ (b ∷ q) ≡ t ++ q = ap (λ (x : ℕ). p ++ (x ∷ q)) (sym same_byte) ∙ sym (append_snoc p c q) in
    (v.0, ap (place (enter (add ns t) (prefixes t s))) f ∙ v.1)
