-- Seeking a byte among a node's children: the bytes of the children that are passed rise, so the walk ends, and where it ends
-- stands the link to the first child by the byte or a later one. Assumes nothing.
use Rattle.std.specs.Prelude.{None, Some}
use mathlib.Core.Path.{◌≡◌, refl, ap}
use mathlib.Core.Bool.{cond}
use mathlib.Core.List.{List, [], ◌∷◌, ◌++◌}
use mathlib.Core.Logic.{⊎_elim}
use Prim.Native.Nat.{ℕ, suc, ◌+◌, ◌-◌, ◌*◌, ◌/◌, ◌≤◌, ◌<◌}
use native.Mathlib.Omega.{arith}
use native.Mathlib.Decide.{dec_lt}
use borrow.Author.Tests.{eq-eqb, ne_eqb}
use lib.Dec.{eqb}
use lib.ListN.{length, get_or}
use Rattle.build.specs.Names.{place}
use Rattle.build.specs.Links.{Clear, Least, First, Slot, of-first, of-next, Linked, Spelled}
use Rattle.build.specs.Held.{Chained, Sought}
use Rattle.build.proofs.Places.{place-below, place_same}
use Rattle.build.proofs.Grown.{List², grown-parent}
use Rattle.build.proofs.Linking.{slot-first}

-- ---- a child at hand

module _ {ns : List²} {edge_n work : List ℕ} {from node : ℕ} {s : List ℕ} {low k : ℕ}
    (l : Linked ns work) (sp : Spelled ns from edge_n) (early : from ≤ node)
    (here : place ns s ≡ Some node) (f : First ns s low k) where
  -- no child is the root
  pub hand-none : k ≡ 0 → Clear ns s low 256
  hand-none z =
      ⊎_elim (λ w. w.1) (λ (w : Least ns s low k). absurd (omega (arith, (grown-parent l.grown s w.a k w.child).2))) f

  pub hand : (k ≡ 0 → ⊥) → Least ns s low k
  hand z = ⊎_elim (λ w. absurd (z w.0)) (λ w. w) f

  module _ (z : k ≡ 0 → ⊥) where
    pub hand-below : k < length ns
    hand-below = place-below ns (s ++ ((hand z).a ∷ [])) k (hand z).child

    -- a child's number is above its parent's
    later : from ≤ k
    later =
        let p = grown-parent l.grown s (hand z).a k (hand z).child in
        let q : p.0 ≡ node = place_same ns s p.0 node p.1 here in
        omega (arith, early, p.2)

    pub hand-byte : get_or edge_n k 0 ≡ (hand z).a
    hand-byte = sp.byte s (hand z).a k (hand z).child later

    pub hand-small : get_or edge_n k 0 < 256
    hand-small = omega (arith, hand-byte, (grown-parent l.grown s (hand z).a k (hand z).child).3)

-- ---- the walk from child to child

pub clear-join : (ns : List²) (s : List ℕ) (c d e : ℕ) → Clear ns s c d → Clear ns s d e → Clear ns s c e
clear-join ns s c d e p q a l m = go (dec_lt a d)
  where
    go : Dec (a < d) → place ns (s ++ (a ∷ [])) ≡ None
    go (yes h) = p a l h
    go (no h) = q a (omega arith) m

slot-extend : (ns : List²) (s : List ℕ) (c b at : ℕ) → c ≤ b → Clear ns s c b → Slot ns s c at → Slot ns s b at
slot-extend ns s c b at l h (of-first k e p cl) = of-first k e p (clear-join ns s 0 c b cl h)
slot-extend ns s c b at l h (of-next a k e p q cl) = of-next a k e p (omega arith) (clear-join ns s (suc a) c b cl h)

-- what is left to pass from `at` on: the bytes after that of the child before
abbrev pub left : List ℕ → ℕ → ℕ → ℕ
left edge_n node at = cond (eqb at (2 * node)) 257 (256 - get_or edge_n (at / 2) 0)

left-first : (edge_n : List ℕ) (node at : ℕ) → at ≡ 2 * node → left edge_n node at ≡ 257
left-first edge_n node at e = rw (eq-eqb at (2 * node) e)

left-next : (edge_n : List ℕ) (node k : ℕ) → left edge_n node (2 * k + 1) ≡ 256 - get_or edge_n k 0
left-next edge_n node k =
    let h : (2 * k + 1) / 2 ≡ k = omega arith in
    let apart : eqb (2 * k + 1) (2 * node) ≡ _ = ne_eqb (2 * k + 1) (2 * node) (λ e. omega arith) in
    rw (apart, h)

module _ {ns : List²} {edge_n work : List ℕ} {s : List ℕ} {node : ℕ} (l : Linked ns work) (sp : Spelled ns 0 edge_n)
    (here : place ns s ≡ Some node) where
  pub seek-start : Slot ns s 0 (2 * node)
  seek-start = of-first node here refl (λ a p q. absurd (omega arith))

  module _ {low at : ℕ} (slot : Slot ns s low at) where
    abbrev first : First ns s low (get_or work at 0)
    first = slot-first ns work s low at l slot

    pub seek-none : get_or work at 0 ≡ 0 → Clear ns s low 256
    seek-none = hand-none l sp (omega arith) here first

    abbrev pub seek-least : (get_or work at 0 ≡ 0 → ⊥) → Least ns s low (get_or work at 0)
    seek-least = hand l sp (omega arith) here first

    module _ (some-child : get_or work at 0 ≡ 0 → ⊥) where
      abbrev child : ℕ
      child = get_or work at 0

      pub seek-below : child < length ns
      seek-below = hand-below l sp (omega arith) here first some-child

      pub seek-byte : get_or edge_n child 0 ≡ (seek-least some-child).a
      seek-byte = hand-byte l sp (omega arith) here first some-child

      -- the next link, past that child
      pub seek-on : Slot ns s (suc (get_or edge_n child 0)) (2 * child + 1)
      seek-on =
          of-next (seek-least some-child).a child (seek-least some-child).child refl (omega (arith, seek-byte))
          (λ a p q. absurd (omega (arith, seek-byte)))

      pub seek_stop : (b : ℕ) → low ≤ b → b ≤ get_or edge_n child 0 → Slot ns s b at
      seek_stop b p q =
          slot-extend ns s low b at p (λ a u v. (seek-least some-child).clear a u (omega (arith, seek-byte))) slot

      falls : Slot ns s low at → left edge_n node (2 * child + 1) < left edge_n node at
      falls (of-first k e p cl) =
          let same : k ≡ node = place_same ns s k node e here in
          omega (arith, left-next edge_n node child, left-first edge_n node at (omega arith))
      falls (of-next a k e p q cl) =
          omega (
            arith,
            left-next edge_n node child,
            left-next edge_n node k,
            ap (left edge_n node) p,
            sp.byte s a k e (omega arith),
            seek-byte,
            hand-small l sp (omega arith) here first some-child,
            (seek-least some-child).from,
          )

      pub seek-falls : left edge_n node (2 * child + 1) < left edge_n node at
      seek-falls = falls slot

    pub seek-end : (b : ℕ) → low ≤ b → b < 256 → get_or work at 0 ≡ 0 → Slot ns s b at
    seek-end b p q z = slot-extend ns s low b at p (λ a u v. seek-none z a u (omega arith)) slot

-- ---- the same, whichever names the columns hold

-- the walk has come to `at`, past children by bytes below b
pub record Walked (edge_n work : List ℕ) (node b at : ℕ) : Type 0 where
  pub inside : at < length work
  pub slot : (c : Chained edge_n work 0 node) → (low : ℕ) × (low ≤ b) × Slot c.names c.string low at

pub node-inside : {edge_n work : List ℕ} {node : ℕ} → Chained edge_n work 0 node → 2 * node < length work
node-inside {node = node} c = omega (arith, c.links.room, place-below c.names c.string node c.here)

pub walk-start : {edge_n work : List ℕ} {node : ℕ} (b : ℕ) → Chained edge_n work 0 node → Walked edge_n work node b (2 * node)
walk-start b c = record { inside = node-inside c; slot = λ c. (0, omega arith, seek-start c.links c.bytes c.here) }

module _ {edge_n work : List ℕ} {node b at : ℕ} (w : Walked edge_n work node b at) where
  pub walk-end : b < 256 → get_or work at 0 ≡ 0 → Sought edge_n work node b at
  walk-end h z = record { slot = λ c. let s = w.slot c in seek-end c.links c.bytes c.here s.2 b s.1 h z }

  module _ (some-child : get_or work at 0 ≡ 0 → ⊥) where
    abbrev k : ℕ
    k = get_or work at 0

    pub walk-inside : Chained edge_n work 0 node → (k < length edge_n) × (2 * k + 1 < length work)
    walk-inside c =
        let below = seek-below c.links c.bytes c.here (w.slot c).2 some-child in
        (omega (arith, below, c.bytes.room), omega (arith, below, c.links.room))

    pub walk-falls : Chained edge_n work 0 node → left edge_n node (2 * k + 1) < left edge_n node at
    walk-falls c = seek-falls c.links c.bytes c.here (w.slot c).2 some-child

    pub walk-on : Chained edge_n work 0 node → get_or edge_n k 0 < b → Walked edge_n work node b (2 * k + 1)
    walk-on c h =
        record {
          inside = (walk-inside c).1;
          slot = λ c. (suc (get_or edge_n k 0), h, seek-on c.links c.bytes c.here (w.slot c).2 some-child);
        }

    pub walk_stop : b ≤ get_or edge_n k 0 → Sought edge_n work node b at
    walk_stop h =
        record { slot = λ c. let s = w.slot c in seek_stop c.links c.bytes c.here s.2 some-child b s.1 h }
