-- Where a string stands in a list of strings. A place found stays where the list grows at its end, and one string more is found
-- exactly at the end. Assumes nothing.
use Rattle.std.specs.Prelude.{Option, None, Some}
use mathlib.Core.Path.{◌≡◌, refl, sym, ap, ◌∙◌}
use mathlib.Core.Bool.{Bool, true, false}
use mathlib.Core.List.{List, [], ◌∷◌, ◌++◌}
use mathlib.Core.Logic.{◌⊎◌, inl, inr, ⊎_elim}
use Prim.Native.Nat.{ℕ, zero, suc, ◌<◌}
use native.Mathlib.Omega.{arith}
use lib.ListN.{length, get_or, length-append}
use Rattle.refusal.proofs.Lists.{none-some}
use Rattle.build.specs.Names.{same, later, place, add}
use Rattle.build.proofs.Strings.{same_refl, same-eq, same-ne, equal?}

pub either : (b : Bool) → (b ≡ true) ⊎ (b ≡ false)
either true = inl refl
either false = inr refl

-- a value is missing or there
pub found? : (o : Option ℕ) → (o ≡ None) ⊎ ((k : ℕ) × (o ≡ Some k))
found? None = inl refl
found? (Some k) = inr (k, refl)

pub missing : (o : Option ℕ) → ((k : ℕ) → o ≡ Some k → ⊥) → o ≡ None
missing None h = refl
missing (Some k) h = absurd (h k refl)

-- ---- one step

pub place-empty : (s : List ℕ) → place [] s ≡ None
unfolding place
place-empty s = refl

pub place-hit : (t : List ℕ) (ts : List (List ℕ)) (s : List ℕ) → same s t ≡ true → place (t ∷ ts) s ≡ Some 0
unfolding place
place-hit t ts s e = rw e

pub place-miss : (t : List ℕ) (ts : List (List ℕ)) (s : List ℕ) → same s t ≡ false → place (t ∷ ts) s ≡ later (place ts s)
unfolding place
place-miss t ts s e = rw e

later-some : (o : Option ℕ) (k : ℕ) → later o ≡ Some k → (j : ℕ) × (o ≡ Some j) × (k ≡ suc j)
unfolding later
later-some None k e = none-some e
later-some (Some j) k e = (j, refl, cc)

later-none : (o : Option ℕ) → later o ≡ None → o ≡ None
unfolding later
later-none None e = refl
later-none (Some j) e = none-some (sym e)

later_of : (k : ℕ) → later (Some k) ≡ Some (suc k)
unfolding later
later_of k = refl

later-nothing : later None ≡ None
unfolding later
later-nothing = refl

-- ---- what a place says

pub place-below : (ns : List (List ℕ)) (s : List ℕ) (k : ℕ) → place ns s ≡ Some k → k < length ns
unfolding place
place-below [] s k e = none-some e
place-below (t ∷ ts) s k e =
    ⊎_elim (λ h. let z : Some 0 ≡ Some k = sym (place-hit t ts s h) ∙ e in let y : 0 ≡ k = cc in omega arith)
    (λ h. let f = later-some (place ts s) k (sym (place-miss t ts s h) ∙ e) in omega (arith, place-below ts s f.0 f.1, f.2))
    (either (same s t))

pub place_at : (ns : List (List ℕ)) (s : List ℕ) (k : ℕ) → place ns s ≡ Some k → get_or ns k [] ≡ s
unfolding place
place_at [] s k e = none-some e
place_at (t ∷ ts) s zero e =
    ⊎_elim (λ h. sym (same-eq s t h))
    (λ h. let f = later-some (place ts s) 0 (sym (place-miss t ts s h) ∙ e) in absurd (omega (arith, f.2)))
    (either (same s t))
place_at (t ∷ ts) s (suc k) e =
    ⊎_elim (λ h. let z : Some 0 ≡ Some (suc k) = sym (place-hit t ts s h) ∙ e in let y : 0 ≡ suc k = cc in absurd (omega arith))
    (λ h.
    let f = later-some (place ts s) (suc k) (sym (place-miss t ts s h) ∙ e) in
    let g : f.0 ≡ k = omega (arith, f.2) in
    place_at ts s k (f.1 ∙ ap Some g))
    (either (same s t))

-- a string that has no place stands nowhere
pub place-nowhere : (ns : List (List ℕ)) (s : List ℕ) (k : ℕ) → place ns s ≡ None → k < length ns → get_or ns k [] ≡ s → ⊥
unfolding place
place-nowhere [] s k e h p = omega arith
place-nowhere (t ∷ ts) s zero e h p =
    let r : same s t ≡ true = ap (same s) p ∙ same_refl s in
    none-some (sym e ∙ place-hit t ts s r)
place-nowhere (t ∷ ts) s (suc k) e h p =
    ⊎_elim (λ r. none-some (sym e ∙ place-hit t ts s r))
    (λ r. place-nowhere ts s k (later-none (place ts s) (sym (place-miss t ts s r) ∙ e)) (omega arith) p)
    (either (same s t))

-- two strings at one place are one
pub place-one : (ns : List (List ℕ)) (s t : List ℕ) (k : ℕ) → place ns s ≡ Some k → place ns t ≡ Some k → s ≡ t
place-one ns s t k p q = sym (place_at ns s k p) ∙ place_at ns t k q

pub place_same : (ns : List (List ℕ)) (s : List ℕ) (j k : ℕ) → place ns s ≡ Some j → place ns s ≡ Some k → j ≡ k
place_same ns s j k p q = cc

-- ---- a list that grows at its end

pub place_kept : (ns ms : List (List ℕ)) (s : List ℕ) (k : ℕ) → place ns s ≡ Some k → place (ns ++ ms) s ≡ Some k
unfolding place
place_kept [] ms s k e = none-some e
place_kept (t ∷ ts) ms s k e =
    ⊎_elim (λ h. place-hit t (ts ++ ms) s h ∙ sym (place-hit t ts s h) ∙ e)
    (λ h.
    let f = later-some (place ts s) k (sym (place-miss t ts s h) ∙ e) in
    place-miss t (ts ++ ms) s h ∙ ap later (place_kept ts ms s f.0 f.1) ∙ later_of f.0 ∙ ap Some (sym f.2))
    (either (same s t))

pub place_end : (ns : List (List ℕ)) (s : List ℕ) → place ns s ≡ None → place (ns ++ (s ∷ [])) s ≡ Some (length ns)
unfolding place
place_end [] s e = place-hit s [] s (same_refl s)
place_end (t ∷ ts) s e =
    ⊎_elim (λ h. none-some (sym e ∙ place-hit t ts s h))
    (λ h.
    let f = later-none (place ts s) (sym (place-miss t ts s h) ∙ e) in
    place-miss t (ts ++ (s ∷ [])) s h ∙ ap later (place_end ts s f) ∙ later_of (length ts))
    (either (same s t))

pub place_other : (ns : List (List ℕ)) (t s : List ℕ) → (s ≡ t → ⊥) → place (ns ++ (t ∷ [])) s ≡ place ns s
unfolding place
place_other [] t s h = place-miss t [] s (same-ne s t h) ∙ later-nothing
place_other (u ∷ us) t s h =
    ⊎_elim (λ r. place-hit u (us ++ (t ∷ [])) s r ∙ sym (place-hit u us s r))
    (λ r. place-miss u (us ++ (t ∷ [])) s r ∙ ap later (place_other us t s h) ∙ sym (place-miss u us s r))
    (either (same s u))

-- what stands in the longer list stood there before, or is the new string
pub place-more :
    (ns : List (List ℕ)) (t s : List ℕ) (k : ℕ) → place ns t ≡ None → place (ns ++ (t ∷ [])) s ≡ Some k
    → (place ns s ≡ Some k) ⊎ ((s ≡ t) × (k ≡ length ns))
place-more ns t s k e p =
    ⊎_elim
    (λ q. let r : place (ns ++ (t ∷ [])) t ≡ Some k = ap (place (ns ++ (t ∷ []))) (sym q) ∙ p in
    inr (q, place_same (ns ++ (t ∷ [])) t k (length ns) r (place_end ns t e)))
    (λ q. inl (sym (place_other ns t s q) ∙ p))
    (equal? s t)

-- ---- `add`

pub add-there : (ns : List (List ℕ)) (s : List ℕ) (k : ℕ) → place ns s ≡ Some k → add ns s ≡ ns
unfolding add
add-there ns s k e = rw (e, add)

pub add-new : (ns : List (List ℕ)) (s : List ℕ) → place ns s ≡ None → add ns s ≡ ns ++ (s ∷ [])
unfolding add
add-new ns s e = rw (e, add)

pub length_more : (ns : List (List ℕ)) (s : List ℕ) → length (ns ++ (s ∷ [])) ≡ suc (length ns)
length_more ns s = omega (arith, length-append ns (s ∷ []))
