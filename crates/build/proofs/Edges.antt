-- The edges of a node: its children by rising byte, found by their byte, each leading to a node. All by induction on how many
-- bytes are still looked at, from any byte on. Assumes nothing.
use Rattle.std.specs.Prelude.{Option, None, Some}
use mathlib.Core.Path.{◌≡◌, refl, sym, ap, ◌∙◌, subst}
use mathlib.Core.Bool.{cond}
use mathlib.Core.List.{List, [], ◌∷◌, ◌++◌}
use mathlib.Core.Logic.{⊎_elim}
use Prim.Native.Nat.{ℕ, zero, suc, ◌+◌, ◌-◌, ◌≤◌, ◌<◌}
use native.Mathlib.Omega.{arith}
use Rattle.std.proofs.Math.Nat.{eq-or-lt_of_le}
use borrow.Author.Tests.{eq-eqb, ne_eqb}
use lib.Dec.{eqb}
use lib.ListN.{length}
use Rattle.build.specs.Names.{place}
use Rattle.build.specs.Parts.{Edge, edge, edges_from, edges_of}
use Rattle.build.specs.Links.{Clear}
use Rattle.build.proofs.Places.{found?, place-below}
use Rattle.build.proofs.Grown.{List²}

-- ---- byte by byte

pub edges-miss :
    (ns : List²) (s : List ℕ) (b n : ℕ) → place ns (s ++ (b ∷ [])) ≡ None
    → edges_from ns s b (suc n) ≡ edges_from ns s (suc b) n
unfolding edges_from edge
edges-miss ns s b n e = rw e

pub edges-hit :
    (ns : List²) (s : List ℕ) (b n k : ℕ) → place ns (s ++ (b ∷ [])) ≡ Some k
    → edges_from ns s b (suc n) ≡ record { byte = b; to = k } ∷ edges_from ns s (suc b) n
unfolding edges_from edge
edges-hit ns s b n k e = rw e

pub edges-end : (ns : List²) (s : List ℕ) (b : ℕ) → edges_from ns s b 0 ≡ []
unfolding edges_from
edges-end ns s b = refl

-- bytes with no child are passed over
pub edges-clear :
    (d : ℕ) (ns : List²) (s : List ℕ) (b n : ℕ) → Clear ns s b (b + d) → edges_from ns s b (d + n) ≡ edges_from ns s (b + d) n
edges-clear zero ns s b n h =
    let p : 0 + n ≡ n = omega arith in
    let q : b + 0 ≡ b = omega arith in
    rw (p, q)
edges-clear (suc d) ns s b n h =
    let p : suc d + n ≡ suc (d + n) = omega arith in
    let q : suc b + d ≡ b + suc d = omega arith in
    ap (edges_from ns s b) p ∙ edges-miss ns s b (d + n) (h b (omega arith) (omega arith))
    ∙ edges-clear d ns s (suc b) n (λ a l m. h a (omega arith) (omega arith)) ∙ ap (λ (x : ℕ). edges_from ns s x n) q

pub edges-skip :
    (ns : List²) (s : List ℕ) (b a : ℕ) → b ≤ a → a ≤ 256 → Clear ns s b a
    → edges_from ns s b (256 - b) ≡ edges_from ns s a (256 - a)
edges-skip ns s b a l m h =
    let p : 256 - b ≡ (a - b) + (256 - a) = omega arith in
    let q : b + (a - b) ≡ a = omega arith in
    ap (edges_from ns s b) p ∙ edges-clear (a - b) ns s b (256 - a) (λ x u v. h x u (omega arith))
    ∙ ap (λ (x : ℕ). edges_from ns s x (256 - a)) q

pub edges_none : (ns : List²) (s : List ℕ) (b : ℕ) → b ≤ 256 → Clear ns s b 256 → edges_from ns s b (256 - b) ≡ []
edges_none ns s b l h = edges-skip ns s b 256 l (omega arith) h ∙ edges-end ns s 256

pub edges-next :
    (ns : List²) (s : List ℕ) (b a k : ℕ) → b ≤ a → a < 256 → Clear ns s b a → place ns (s ++ (a ∷ [])) ≡ Some k
    → edges_from ns s b (256 - b) ≡ record { byte = a; to = k } ∷ edges_from ns s (suc a) (256 - suc a)
edges-next ns s b a k l m h e =
    let p : 256 - a ≡ suc (256 - suc a) = omega arith in
    edges-skip ns s b a l (omega arith) h ∙ ap (edges_from ns s a) p ∙ edges-hit ns s a (256 - suc a) k e

-- ---- rising bytes, and nodes for targets

pub data Rising (n : ℕ) : ℕ → List Edge → Type 0 where
  end : {b : ℕ} → Rising n b []
  next : {b : ℕ} {es : List Edge} (e : Edge) → b ≤ e.byte → e.to < n → Rising n (suc e.byte) es → Rising n b (e ∷ es)

rising_down : {n c : ℕ} {es : List Edge} → Rising n c es → (b : ℕ) → b ≤ c → Rising n b es
rising_down end b h = end
rising_down (next e p q r) b h = next {b = b} e (omega arith) q r

pub rising-edges : (m : ℕ) (ns : List²) (s : List ℕ) (b : ℕ) → Rising (length ns) b (edges_from ns s b m)
rising-edges zero ns s b = subst (Rising (length ns) b) (sym (edges-end ns s b)) end
rising-edges (suc m) ns s b =
    ⊎_elim
    (λ e. subst (Rising (length ns) b) (sym (edges-miss ns s b m e))
    (rising_down (rising-edges m ns s (suc b)) b (omega arith)))
    (λ w. subst (Rising (length ns) b) (sym (edges-hit ns s b m w.0 w.1))
    (next (record { byte = b; to = w.0 }) (omega arith) (place-below ns (s ++ (b ∷ [])) w.0 w.1) (rising-edges m ns s (suc b))))
    (found? (place ns (s ++ (b ∷ []))))

pub edges_few : (m : ℕ) (ns : List²) (s : List ℕ) (b : ℕ) → length (edges_from ns s b m) ≤ m
edges_few zero ns s b = omega (arith, ap length (edges-end ns s b))
edges_few (suc m) ns s b =
    ⊎_elim (λ e. omega (arith, ap length (edges-miss ns s b m e), edges_few m ns s (suc b)))
    (λ w. omega (arith, ap length (edges-hit ns s b m w.0 w.1), edges_few m ns s (suc b)))
    (found? (place ns (s ++ (b ∷ []))))

-- ---- found by their byte

-- the target of the edge by the byte b
unfoldable pub target : List Edge → ℕ → Option ℕ
target [] b = None
target (e ∷ es) b = cond (eqb e.byte b) (Some e.to) (target es b)

target-before : {n c : ℕ} {es : List Edge} → Rising n c es → (b : ℕ) → b < c → target es b ≡ None
unfolding target
target-before end b h = refl
target-before (next e p q r) b h = rw (ne_eqb e.byte b (λ z. omega arith)) (target-before r b (omega arith))

target_hit : (b k : ℕ) (es : List Edge) (a : ℕ) → b ≡ a → target (record { byte = b; to = k } ∷ es) a ≡ Some k
unfolding target
target_hit b k es a e = rw (eq-eqb b a e)

target_miss : (b k : ℕ) (es : List Edge) (a : ℕ) → (b ≡ a → ⊥) → target (record { byte = b; to = k } ∷ es) a ≡ target es a
unfolding target
target_miss b k es a e = rw (ne_eqb b a e)

pub target-edges :
    (m : ℕ) (ns : List²) (s : List ℕ) (b a : ℕ) → b ≤ a → a < b + m → target (edges_from ns s b m) a ≡ place ns (s ++ (a ∷ []))
target-edges zero ns s b a l h = absurd (omega arith)
target-edges (suc m) ns s b a l h =
    ⊎_elim
    (λ (q : b ≡ a). ⊎_elim
    (λ e. ap (λ (es : List Edge). target es a) (edges-miss ns s b m e)
    ∙ target-before (rising-edges m ns s (suc b)) a (omega arith) ∙ sym e ∙ ap (λ (x : ℕ). place ns (s ++ (x ∷ []))) q)
    (λ w. ap (λ (es : List Edge). target es a) (edges-hit ns s b m w.0 w.1)
    ∙ target_hit b w.0 (edges_from ns s (suc b) m) a q ∙ sym w.1 ∙ ap (λ (x : ℕ). place ns (s ++ (x ∷ []))) q)
    (found? (place ns (s ++ (b ∷ [])))))
    (λ (q : b < a). ⊎_elim
    (λ e. ap (λ (es : List Edge). target es a) (edges-miss ns s b m e) ∙ target-edges m ns s (suc b) a q (omega arith))
    (λ w. ap (λ (es : List Edge). target es a) (edges-hit ns s b m w.0 w.1)
    ∙ target_miss b w.0 (edges_from ns s (suc b) m) a (λ z. omega arith) ∙ target-edges m ns s (suc b) a q (omega arith))
    (found? (place ns (s ++ (b ∷ [])))))
    (eq-or-lt_of_le l)

pub target-of : (ns : List²) (s : List ℕ) (a : ℕ) → a < 256 → target (edges_of ns s) a ≡ place ns (s ++ (a ∷ []))
unfolding edges_of
target-of ns s a h = target-edges 256 ns s 0 a (omega arith) h

target-above : (m : ℕ) (ns : List²) (s : List ℕ) (b a : ℕ) → b + m ≤ a → target (edges_from ns s b m) a ≡ None
unfolding target
target-above zero ns s b a h = ap (λ (es : List Edge). target es a) (edges-end ns s b)
target-above (suc m) ns s b a h =
    ⊎_elim (λ e. ap (λ (es : List Edge). target es a) (edges-miss ns s b m e) ∙ target-above m ns s (suc b) a (omega arith))
    (λ w. ap (λ (es : List Edge). target es a) (edges-hit ns s b m w.0 w.1)
    ∙ target_miss b w.0 (edges_from ns s (suc b) m) a (λ z. omega arith) ∙ target-above m ns s (suc b) a (omega arith))
    (found? (place ns (s ++ (b ∷ []))))

-- no edge is by more than a byte
pub target-no-byte : (ns : List²) (s : List ℕ) (a : ℕ) → 256 ≤ a → target (edges_of ns s) a ≡ None
unfolding edges_of
target-no-byte ns s a h = target-above 256 ns s 0 a h
