-- The parts as they are laid out: where a node's edges stand among all, so that a step from a node leads to the child's place,
-- and a walk over a string ends at the string's place. Assumes nothing.
use Rattle.std.specs.Prelude.{unwrap_or, Option, None, Some}
use mathlib.Core.Path.{◌≡◌, refl, sym, ap, ◌∙◌}
use mathlib.Core.Bool.{cond}
use mathlib.Core.List.{List, [], ◌∷◌, ◌++◌, map, flatten, append_assoc, append-nil}
use mathlib.Core.Logic.{⊎_elim}
use Prim.Native.Nat.{ℕ, zero, suc, ◌+◌, ◌<◌}
use native.Mathlib.Omega.{arith}
use Rattle.std.proofs.lemmas.Bool.{cases_eq}
use lib.Seq.{append_snoc}
use native.Mathlib.Decide.{dec_lt}
use borrow.Author.Tests.{eq-eqb, ne_eqb}
use lib.Dec.{eqb}
use lib.ListN.{length, get_or, drop, length-append, length-map}
use lib.Seq.{drop-append_seam}
use Rattle.refusal.proofs.Lists.{map-inside, zero_one, none-some}
use Rattle.refusal.specs.Sizes.{no_id}
use Rattle.trie.specs.Trie.{seek, step, walk, id_at, id_from, id_of}
use Rattle.build.specs.Names.{place}
use Rattle.build.specs.Grown.{Grown}
use Rattle.build.specs.Parts.{Edge, edges_of, starts, lay}
use Rattle.build.proofs.Places.{found?, missing, place-below, place_at}
use Rattle.build.proofs.Grown.{List², grown-root, grown-parent, grown-begins}
use Rattle.build.proofs.Edges.{target, target-of, target-no-byte}

-- ---- lists of numbers and edges

pub get_or-map-of :
    {A B : Type 0} (f : A → B) (l : List A) (k : ℕ) (d : A) (z : B) → k < length l → get_or (map f l) k z ≡ f (get_or l k d)
get_or-map-of f l k d z h = map-inside f l k d z h

-- what stands at `at`, and after it
pub drop_head : (l : List Edge) (at : ℕ) (x : Edge) (r : List Edge) → drop at l ≡ x ∷ r → drop (suc at) l ≡ r
drop_head [] zero x r e = absurd (zero_one cc)
drop_head [] (suc at) x r e = absurd (zero_one cc)
drop_head (y ∷ l) zero x r e = cc
drop_head (y ∷ l) (suc at) x r e = drop_head l at x r e

pub map-head :
    (f : Edge → ℕ) (l : List Edge) (at : ℕ) (x : Edge) (r : List Edge) → drop at l ≡ x ∷ r → get_or (map f l) at 0 ≡ f x
map-head f [] zero x r e = absurd (zero_one cc)
map-head f [] (suc at) x r e = absurd (zero_one cc)
map-head f (y ∷ l) zero x r e = let p : y ≡ x = cc in ap f p
map-head f (y ∷ l) (suc at) x r e = map-head f l at x r e

-- ---- a node's edges among all

pub flatten-cons : (p : List Edge) (ps : List (List Edge)) → flatten (p ∷ ps) ≡ p ++ flatten ps
unfolding flatten
flatten-cons p ps = refl

pub starts-cons : (at n : ℕ) (ns : List ℕ) → starts at (n ∷ ns) ≡ at ∷ starts (at + n) ns
unfolding starts
starts-cons at n ns = refl

pub length-starts : (ns : List ℕ) (at : ℕ) → length (starts at ns) ≡ length ns
unfolding starts
length-starts [] at = refl
length-starts (n ∷ ns) at = ap suc (length-starts ns (at + n))

-- where the edges of node k begin stand its edges
laid_from :
    (parts : List (List Edge)) (pre : List Edge) (k : ℕ) → k < length parts
    → (post : List Edge)
    × (drop (get_or (starts (length pre) (map length parts)) k 0) (pre ++ flatten parts) ≡ get_or parts k [] ++ post)
unfolding starts flatten
laid_from [] pre k h = absurd (omega arith)
laid_from (p ∷ ps) pre zero h = (flatten ps, drop-append_seam pre (p ++ flatten ps))
laid_from (p ∷ ps) pre (suc k) h =
    let w = laid_from ps (pre ++ p) k (omega arith) in (
      w.0,
      ap (λ (x : ℕ). drop (get_or (starts x (map length ps)) k 0) (pre ++ (p ++ flatten ps))) (sym (length-append pre p))
          ∙ ap (drop (get_or (starts (length (pre ++ p)) (map length ps)) k 0)) (sym (append_assoc pre p (flatten ps))) ∙ w.1,
    )

pub laid-at :
    (parts : List (List Edge)) (k : ℕ) → k < length parts
    → (post : List Edge) × (drop (get_or (starts 0 (map length parts)) k 0) (flatten parts) ≡ get_or parts k [] ++ post)
laid-at parts k h = laid_from parts [] k h

-- the seeking of a byte among laid out edges is the list's own
seek-miss :
    (bytes tos : List ℕ) (b at n : ℕ) → (get_or bytes at 0 ≡ b → ⊥) → seek bytes tos b at (suc n) ≡ seek bytes tos b (suc at) n
unfolding seek
seek-miss bytes tos b at n h = rw (ne_eqb (get_or bytes at 0) b h)

seek_hit : (bytes tos : List ℕ) (b at n : ℕ) → get_or bytes at 0 ≡ b → seek bytes tos b at (suc n) ≡ Some (get_or tos at 0)
unfolding seek
seek_hit bytes tos b at n h = rw (eq-eqb (get_or bytes at 0) b h)

seek-target :
    (es l post : List Edge) (b at : ℕ) → drop at l ≡ es ++ post
    → seek (map (λ e. e.byte) l) (map (λ e. e.to) l) b at (length es) ≡ target es b
unfolding seek target
seek-target [] l post b at h = refl
seek-target (e ∷ es) l post b at h =
    let byte = map-head (λ x. x.byte) l at e (es ++ post) h in
    let to = map-head (λ x. x.to) l at e (es ++ post) h in
    ⊎_elim
    (λ (q : e.byte ≡ b).
    seek_hit (map (λ x. x.byte) l) (map (λ x. x.to) l) b at (length es) (byte ∙ q) ∙ ap Some to ∙ sym (hit q))
    (λ (q : e.byte ≡ b → ⊥).
    seek-miss (map (λ x. x.byte) l) (map (λ x. x.to) l) b at (length es) (λ p. q (sym byte ∙ p))
    ∙ seek-target es l post b (suc at) (drop_head l at e (es ++ post) h) ∙ sym (miss q))
    (cases_eq e.byte b)
  where
    hit : e.byte ≡ b → cond (eqb e.byte b) (Some e.to) (target es b) ≡ Some e.to
    hit q = rw (eq-eqb e.byte b q)

    miss : (e.byte ≡ b → ⊥) → cond (eqb e.byte b) (Some e.to) (target es b) ≡ target es b
    miss q = rw (ne_eqb e.byte b q)

-- ---- steps and walks in laid out parts

module _ (rule : List ℕ → Option ℕ) (ns : List²) (g : Grown ns) where
  target_is : (s : List ℕ) (b : ℕ) → target (edges_of ns s) b ≡ place ns (s ++ (b ∷ []))
  target_is s b = go (dec_lt b 256)
    where
      go : Dec (b < 256) → target (edges_of ns s) b ≡ place ns (s ++ (b ∷ []))
      go (yes h) = target-of ns s b h
      go (no h) =
          let away : place ns (s ++ (b ∷ [])) ≡ None =
          missing (place ns (s ++ (b ∷ []))) (λ k e. omega (arith, (grown-parent g s b k e).3)) in
          target-no-byte ns s b (omega arith) ∙ sym away

  -- "Edges stand node after node": a step from the node s by b is the place of s ++ [b]
  pub step-built : (s : List ℕ) (k b : ℕ) → place ns s ≡ Some k → step (lay rule ns) k b ≡ place ns (s ++ (b ∷ []))
  unfolding step lay
  step-built s k b e =
      let parts = map (edges_of ns) ns in
      let inside : k < length ns = place-below ns s k e in
      let inside-parts : k < length parts = omega (arith, length-map ns (edges_of ns)) in
      let here : get_or parts k [] ≡ edges_of ns s =
      get_or-map-of (edges_of ns) ns k [] [] inside ∙ ap (edges_of ns) (place_at ns s k e) in
      let n : get_or (map length parts) k 0 ≡ length (edges_of ns s) =
      get_or-map-of length parts k [] 0 inside-parts ∙ ap length here in
      let w = laid-at parts k inside-parts in
      ap (seek (map (λ e. e.byte) (flatten parts)) (map (λ e. e.to) (flatten parts)) b
      (get_or (starts 0 (map length parts)) k 0)) n
      ∙ seek-target (edges_of ns s) (flatten parts) w.0 b (get_or (starts 0 (map length parts)) k 0)
      (w.1 ∙ ap (λ (x : List Edge). x ++ w.0) here)
      ∙ target_is s b

  walk_from : (s p : List ℕ) (k : ℕ) → place ns p ≡ Some k → walk (lay rule ns) k s ≡ place ns (p ++ s)
  unfolding walk
  walk_from [] p k e = sym e ∙ ap (place ns) (sym (append-nil p))
  walk_from (b ∷ s) p k e =
      ⊎_elim
      (λ (q : place ns (p ++ (b ∷ [])) ≡ None).
      let away : place ns (p ++ (b ∷ s)) ≡ None =
      missing (place ns (p ++ (b ∷ s)))
      (λ j f. none-some (sym q ∙ (grown-begins g (p ++ (b ∷ [])) s j (ap (place ns) (append_snoc p b s) ∙ f)).1)) in
      rw (step-built p k b e ∙ q, walk) (sym away))
      (λ (w : (j : ℕ) × (place ns (p ++ (b ∷ [])) ≡ Some j)).
      rw (step-built p k b e ∙ w.1, walk) (walk_from s (p ++ (b ∷ [])) w.0 w.1 ∙ ap (place ns) (append_snoc p b s)))
      (found? (place ns (p ++ (b ∷ []))))

  -- the walk over s ends at the place of s
  pub walk-built : (s : List ℕ) → walk (lay rule ns) 0 s ≡ place ns s
  walk-built s = walk_from s [] 0 (grown-root g)

  id-built :
      (s : List ℕ) (k : ℕ) → place ns s ≡ Some k → ((i : ℕ) → rule s ≡ Some i → i ≡ no_id → ⊥) → id_at (lay rule ns) k ≡ rule s
  unfolding id_at lay
  id-built s k e small =
      let stands : get_or (map (λ x. unwrap_or (rule x) no_id) ns) k no_id ≡ unwrap_or (rule s) no_id =
      get_or-map-of (λ x. unwrap_or (rule x) no_id) ns k [] no_id (place-below ns s k e)
      ∙ ap (λ (x : List ℕ). unwrap_or (rule x) no_id) (place_at ns s k e) in
      ap (λ (i : ℕ). cond (eqb i no_id) None (Some i)) stands ∙ read (rule s) small
    where
      read :
          (o : Option ℕ) → ((i : ℕ) → o ≡ Some i → i ≡ no_id → ⊥)
          → cond (eqb (unwrap_or o no_id) no_id) None (Some (unwrap_or o no_id)) ≡ o
      read None h = refl
      read (Some i) h = rw (ne_eqb i no_id (h i refl))

  -- the look-up of s in the built trie is the rule's own, where the rule gives ids to names alone
  pub lookup-built :
      ((s : List ℕ) → place ns s ≡ None → rule s ≡ None) → ((s : List ℕ) (i : ℕ) → rule s ≡ Some i → i ≡ no_id → ⊥)
      → (s : List ℕ) → id_of (lay rule ns) s ≡ rule s
  unfolding id_of id_from
  lookup-built within small s =
      ⊎_elim
      (λ (q : place ns s ≡ None). let e : walk (lay rule ns) 0 s ≡ None = walk-built s
      ∙ q in rw (e, id_from) (sym (within s q)))
      (λ (w : (k : ℕ) × (place ns s ≡ Some k)).
      let e : walk (lay rule ns) 0 s ≡ Some w.0 = walk-built s ∙ w.1 in
      rw (e, id_from) (id-built s w.0 w.1 (small s)))
      (found? (place ns s))
