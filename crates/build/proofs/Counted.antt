-- N nodes have N - 1 edges: each name but the root adds one edge, to the node that it extends, and has none itself when it
-- comes. Assumes nothing.
use Rattle.std.specs.Prelude.{Option, None, Some}
use mathlib.Core.Path.{◌≡◌, refl, sym, ap, ◌∙◌}
use mathlib.Core.List.{List, [], ◌∷◌, ◌++◌, map, flatten}
use mathlib.Core.Logic.{⊎_elim}
use Prim.Native.Nat.{ℕ, zero, suc, ◌+◌, ◌-◌, ◌≤◌, ◌<◌}
use native.Mathlib.Omega.{arith}
use Rattle.std.proofs.Math.Nat.{eq-or-lt_of_le}
use lib.ListN.{length, get_or, length-append}
use Rattle.build.specs.Names.{place}
use Rattle.build.specs.Grown.{Grown, root, more}
use Rattle.build.specs.Parts.{Edge, edge, edges_from, edges_of}
use Rattle.build.proofs.Strings.{snoc-nil, snoc-front, snoc-last, snoc-longer}
use Rattle.build.proofs.Places.{found?, place-empty, place-below, place_at, place_end, place_other}
use Rattle.build.proofs.Grown.{List², grown-distinct, grown-none}
use Rattle.build.proofs.Edges.{edges-miss, edges-hit, edges_none}

-- ---- the edges of one node, with one name more

edges-agree :
    (n : ℕ) (ns ms : List²) (s : List ℕ) (b : ℕ)
    → ((a : ℕ) → b ≤ a → place ms (s ++ (a ∷ [])) ≡ place ns (s ++ (a ∷ []))) → edges_from ms s b n ≡ edges_from ns s b n
unfolding edges_from
edges-agree zero ns ms s b h = refl
edges-agree (suc n) ns ms s b h =
    ap (λ (o : Option ℕ). edge b o ++ edges_from ms s (suc b) n) (h b (omega arith))
    ∙ ap (λ (es : List Edge). edge b (place ns (s ++ (b ∷ []))) ++ es)
    (edges-agree n ns ms s (suc b) (λ a l. h a (omega arith)))

module _ (ns : List²) (p : List ℕ) (c : ℕ) (new : place ns (p ++ (c ∷ [])) ≡ None) where
  abbrev grown : List²
  grown = ns ++ ((p ++ (c ∷ [])) ∷ [])

  edges-other : (s : List ℕ) → (s ≡ p → ⊥) → edges_of grown s ≡ edges_of ns s
  unfolding edges_of
  edges-other s h =
      edges-agree 256 ns grown s 0
      (λ a l. place_other ns (p ++ (c ∷ [])) (s ++ (a ∷ [])) (λ e. h (snoc-front s p a c e)))

  edges-gain : (n b : ℕ) → b ≤ c → c < b + n → length (edges_from grown p b n) ≡ suc (length (edges_from ns p b n))
  edges-gain zero b l h = absurd (omega arith)
  edges-gain (suc n) b l h =
      ⊎_elim
      (λ (q : b ≡ c).
      let past : edges_from grown p (suc b) n ≡ edges_from ns p (suc b) n =
      edges-agree n ns grown p (suc b)
      (λ a m. place_other ns (p ++ (c ∷ [])) (p ++ (a ∷ [])) (λ e. omega (arith, snoc-last p p a c e))) in
      let at : place grown (p ++ (b ∷ [])) ≡ Some (length ns) =
      ap (λ (x : ℕ). place grown (p ++ (x ∷ []))) q ∙ place_end ns (p ++ (c ∷ [])) new in
      let away : place ns (p ++ (b ∷ [])) ≡ None = ap (λ (x : ℕ). place ns (p ++ (x ∷ []))) q ∙ new in
      ap length (edges-hit grown p b n (length ns) at) ∙ ap (λ (es : List Edge). suc (length es)) past
      ∙ ap (λ (es : List Edge). suc (length es)) (sym (edges-miss ns p b n away)))
      (λ (q : b < c).
      let same : place grown (p ++ (b ∷ [])) ≡ place ns (p ++ (b ∷ [])) =
      place_other ns (p ++ (c ∷ [])) (p ++ (b ∷ [])) (λ e. omega (arith, snoc-last p p b c e)) in
      let on = edges-gain n (suc b) q (omega arith) in
      ⊎_elim
      (λ e. ap length (edges-miss grown p b n (same ∙ e)) ∙ on
      ∙ ap (λ (es : List Edge). suc (length es)) (sym (edges-miss ns p b n e)))
      (λ w. ap length (edges-hit grown p b n w.0 (same ∙ w.1)) ∙ ap suc on
      ∙ ap (λ (es : List Edge). suc (length es)) (sym (edges-hit ns p b n w.0 w.1)))
      (found? (place ns (p ++ (b ∷ [])))))
      (eq-or-lt_of_le l)

-- ---- all edges

-- how many edges the nodes ms have
unfoldable pub total : List² → List² → ℕ
total ns [] = 0
total ns (m ∷ ms) = length (edges_of ns m) + total ns ms

pub total-flat : (ns ms : List²) → length (flatten (map (edges_of ns) ms)) ≡ total ns ms
unfolding total flatten
total-flat ns [] = refl
total-flat ns (m ∷ ms) = omega (arith, length-append (edges_of ns m) (flatten (map (edges_of ns) ms)), total-flat ns ms)

total-append : (ns ms os : List²) → total ns (ms ++ os) ≡ total ns ms + total ns os
unfolding total
total-append ns [] os = omega arith
total-append ns (m ∷ ms) os = omega (arith, total-append ns ms os)

pub total-one : (ns : List²) (m : List ℕ) (ms : List²) → total ns (m ∷ ms) ≡ length (edges_of ns m) + total ns ms
unfolding total
total-one ns m ms = refl

module _ (ns : List²) (p : List ℕ) (c : ℕ) (new : place ns (p ++ (c ∷ [])) ≡ None) (byte : c < 256) where
  total-other : (ms : List²) → ((k : ℕ) → k < length ms → get_or ms k [] ≡ p → ⊥) → total (grown ns p c new) ms ≡ total ns ms
  unfolding total
  total-other [] h = refl
  total-other (m ∷ ms) h =
      omega (
        arith,
        ap length (edges-other ns p c new m (h 0 (omega arith))),
        total-other ms (λ k l. h (suc k) (omega arith)),
      )

  total-gain :
      (ms : List²) (j : ℕ) → j < length ms → get_or ms j [] ≡ p → ((k : ℕ) → k < length ms → get_or ms k [] ≡ p → k ≡ j)
      → total (grown ns p c new) ms ≡ suc (total ns ms)
  unfolding total edges_of
  total-gain [] j l e h = absurd (omega arith)
  total-gain (m ∷ ms) zero l e h =
      let gain = edges-gain ns p c new 256 0 (omega arith) (omega arith) in
      let here : length (edges_of (grown ns p c new) m) ≡ suc (length (edges_of ns m)) =
      ap (λ (x : List ℕ). length (edges_of (grown ns p c new) x)) e ∙ gain
      ∙ ap (λ (x : List ℕ). suc (length (edges_of ns x))) (sym e) in
      omega (arith, here, total-other ms (λ k n f. omega (arith, h (suc k) (omega arith) f)))
  total-gain (m ∷ ms) (suc j) l e h =
      let on = total-gain ms j (omega arith) e (λ k n f. omega (arith, h (suc k) (omega arith) f)) in
      let here = ap length (edges-other ns p c new m (λ f. omega (arith, h 0 (omega arith) f))) in
      omega (arith, on, here)

-- a name that just came has no edge
total-new :
    {ns : List²} → Grown ns → (p : List ℕ) (c : ℕ) → place ns (p ++ (c ∷ [])) ≡ None
    → edges_of (ns ++ ((p ++ (c ∷ [])) ∷ [])) (p ++ (c ∷ [])) ≡ []
unfolding edges_of
total-new {ns} g p c f =
    let t = p ++ (c ∷ []) in
    edges_none (ns ++ (t ∷ [])) t 0 (omega arith)
    (λ a l m. place_other ns t (t ++ (a ∷ [])) (λ e. snoc-longer t a e) ∙ grown-none g t a f)

pub count-edges : {ns : List²} → Grown ns → suc (total ns ns) ≡ length ns
unfolding total edges_of
count-edges root =
    let bare =
    edges_none ([] ∷ []) [] 0 (omega arith)
    (λ a l m. place_other [] [] (a ∷ []) (λ e. snoc-nil [] a e) ∙ place-empty (a ∷ [])) in
    omega (arith, ap length bare)
count-edges (more {ns} p c j g e h f) =
    let t = p ++ (c ∷ []) in
    omega (
      arith,
      count-edges g,
      total-append (ns ++ (t ∷ [])) ns (t ∷ []),
      total-gain ns p c f h ns j (place-below ns p j e) (place_at ns p j e) once,
      ap length (total-new g p c f),
      length-append ns (t ∷ []),
    )
  where
    once : (k : ℕ) → k < length ns → get_or ns k [] ≡ p → k ≡ j
    once k l q = let s : Some k ≡ Some j = sym (grown-distinct g k l) ∙ ap (place ns) q ∙ e in cc

-- "edges are N-1"
pub count-names : {ns : List²} → Grown ns → length (flatten (map (edges_of ns) ns)) ≡ length ns - 1
count-names {ns} g = omega (arith, total-flat ns ns, count-edges g)
