-- The edges of one node, written child by child: what is written and what is still to be written are all its edges. Assumes
-- nothing.
use Rattle.std.specs.Prelude.{Some}
use mathlib.Core.Path.{◌≡◌, refl, sym, ap, ◌∙◌, subst}
use mathlib.Core.List.{List, [], ◌∷◌, ◌++◌}
use Prim.Native.Nat.{ℕ, suc, ◌+◌, ◌-◌, ◌*◌, ◌≤◌, ◌<◌}
use native.Mathlib.Omega.{arith}
use native.Mathlib.Numerals.{add-one}
use lib.ListN.{length, get_or, set}
use lib.Seq.{sets}
use Rattle.build.specs.Names.{place}
use Rattle.build.specs.Parts.{Edge, edges_from, edges_of}
use Rattle.build.specs.Links.{Least, First, Linked, Spelled}
use Rattle.build.specs.Held.{Chained}
use Rattle.build.specs.Laying.{bytes_of, targets_of, ChildrenDone, ChildrenReady}
use Rattle.build.proofs.Places.{place-below}
use Rattle.build.proofs.Grown.{List²}
use Rattle.build.proofs.Seeking.{hand-none, hand, hand-below, hand-byte, hand-small}
use Rattle.build.proofs.Edges.{edges_none, edges-next}

-- ---- a child at hand

module _ {ns : List²} {edge_n work : List ℕ} {node : ℕ} {s : List ℕ} {low k : ℕ} (l : Linked ns work)
    (sp : Spelled ns node edge_n) (here : place ns s ≡ Some node) (f : First ns s low k) (z : k ≡ 0 → ⊥) where
  abbrev least : Least ns s low k
  least = hand l sp (omega arith) here f z

  abbrev byte_of : get_or edge_n k 0 ≡ least.a
  byte_of = hand-byte l sp (omega arith) here f z

  pub hand-next : First ns s (suc (get_or edge_n k 0)) (get_or work (2 * k + 1) 0)
  hand-next =
      subst (λ (a : ℕ). First ns s (suc a) (get_or work (2 * k + 1) 0)) (sym byte_of) (l.next s least.a k least.child)

  -- it is the next edge
  pub hand-edges :
      edges_from ns s low (256 - low)
      ≡ record { byte = get_or edge_n k 0; to = k } ∷ edges_from ns s (suc (get_or edge_n k 0)) (256 - suc (get_or edge_n k 0))
  hand-edges =
      edges-next ns s low (get_or edge_n k 0) k (omega (arith, byte_of, least.from)) (hand-small l sp (omega arith) here f z)
      (λ a p q. least.clear a p (omega (arith, byte_of)))
      (subst (λ (a : ℕ). place ns (s ++ (a ∷ [])) ≡ Some k) (sym byte_of) least.child)

-- ---- some children written, some left

pub record Writing (ns : List²) (s : List ℕ) (byte₀ to₀ : List ℕ) (at₀ : ℕ) (byte to : List ℕ) (at k : ℕ) : Type 0 where
  pub low : ℕ
  pub low_fits : low ≤ 256
  pub few : at ≤ at₀ + low
  pub first : First ns s low k
  pub written : sets byte₀ at₀ (bytes_of (edges_of ns s)) ≡ sets byte at (bytes_of (edges_from ns s low (256 - low)))
  pub led : sets to₀ at₀ (targets_of (edges_of ns s)) ≡ sets to at (targets_of (edges_from ns s low (256 - low)))
  pub count : at₀ + length (edges_of ns s) ≡ at + length (edges_from ns s low (256 - low))

pub writing_start :
    {ns : List²} {work : List ℕ} (l : Linked ns work) {s : List ℕ} (node : ℕ) → place ns s ≡ Some node
    → {byte to : List ℕ} {at : ℕ} → Writing ns s byte to at byte to at (get_or work (2 * node) 0)
unfolding edges_of
writing_start l {s = s} node e =
    record {
      low = 0;
      low_fits = omega arith;
      few = omega arith;
      first = l.first s node e;
      written = refl;
      led = refl;
      count = refl;
    }

module _ {ns : List²} {edge_n work : List ℕ} {node : ℕ} {s byte₀ to₀ : List ℕ} {at₀ : ℕ} {byte to : List ℕ} {at k : ℕ}
    (l : Linked ns work) (sp : Spelled ns node edge_n) (here : place ns s ≡ Some node)
    (w : Writing ns s byte₀ to₀ at₀ byte to at k) where
  module _ (z : k ≡ 0 → ⊥) where
    abbrev c : ℕ
    c = get_or edge_n k 0

    abbrev rest : List Edge
    rest = edges_from ns s (suc c) (256 - suc c)

    edges : edges_from ns s w.low (256 - w.low) ≡ record { byte = c; to = k } ∷ rest
    edges = hand-edges l sp here w.first z

    byte-is : c ≡ (hand l sp (omega arith) here w.first z).a
    byte-is = hand-byte l sp (omega arith) here w.first z

    pub writing-below : k < length ns
    writing-below = hand-below l sp (omega arith) here w.first z

    pub writing-small : c < 256
    writing-small = hand-small l sp (omega arith) here w.first z

    pub writing-room : at < at₀ + length (edges_of ns s)
    writing-room = omega (arith, w.count, ap length edges)

    pub writing-few : at < at₀ + 256
    writing-few = omega (arith, w.few, byte-is, writing-small, (hand l sp (omega arith) here w.first z).from)

    pub writing-turn : Writing ns s byte₀ to₀ at₀ (set byte at c) (set to at k) (at + 1) (get_or work (2 * k + 1) 0)
    writing-turn =
        record {
          low = suc c;
          low_fits = writing-small;
          few = omega (arith, w.few, byte-is, (hand l sp (omega arith) here w.first z).from);
          first = hand-next l sp here w.first z;
          written =
              w.written ∙ ap (λ (es : List Edge). sets byte at (bytes_of es)) edges
              ∙ ap (λ (i : ℕ). sets (set byte at c) i (bytes_of rest)) (sym (add-one at));
          led =
              w.led ∙ ap (λ (es : List Edge). sets to at (targets_of es)) edges
              ∙ ap (λ (i : ℕ). sets (set to at k) i (targets_of rest)) (sym (add-one at));
          count = omega (arith, w.count, ap length edges);
        }

  pub writing-end : k ≡ 0 → ChildrenDone ns s byte₀ to₀ byte to at₀ at
  writing-end z =
      let none_left = edges_none ns s w.low w.low_fits (hand-none l sp (omega arith) here w.first z) in
      record {
        written = sym (w.written ∙ ap (λ (es : List Edge). sets byte at (bytes_of es)) none_left);
        led = sym (w.led ∙ ap (λ (es : List Edge). sets to at (targets_of es)) none_left);
        count = omega (arith, w.count, ap length none_left);
      }

-- ---- the same, whichever names the columns hold, in columns that keep their lengths

pub record Laying (edge_n work byte₀ to₀ : List ℕ) (node from : ℕ) (byte to : List ℕ) (at k : ℕ) : Type 0 where
  pub bytes : length byte ≡ length byte₀
  pub targets : length to ≡ length to₀
  pub children : (c : Chained edge_n work node node) → Writing c.names c.string byte₀ to₀ from byte to at k

-- the child at hand and its edge have their places, and there is one child for each byte
pub record Inside (edge_n work byte to : List ℕ) (from at k : ℕ) : Type 0 where
  pub node : k < length edge_n
  pub link : 2 * k + 1 < length work
  pub number : k < 4_294_967_296
  pub a_byte : get_or edge_n k 0 < 256
  pub in-byte : at < length byte
  pub in-to : at < length to
  pub few : at < from + 256

module _ {edge_n work byte₀ to₀ : List ℕ} {node from : ℕ} (ready : ChildrenReady edge_n work byte₀ to₀ node from) where
  pub laying_inside :
      {byte to : List ℕ} {at k : ℕ} → Laying edge_n work byte₀ to₀ node from byte to at k → (k ≡ 0 → ⊥)
      → Inside edge_n work byte to from at k
  laying_inside l z =
      let c = ready.chained in
      let w = l.children c in
      let below = writing-below c.links c.bytes c.here w z in
      let room = writing-room c.links c.bytes c.here w z in
      record {
        node = omega (arith, below, c.bytes.room);
        link = omega (arith, below, c.links.room);
        number = omega (arith, below, ready.small);
        a_byte = writing-small c.links c.bytes c.here w z;
        in-byte = omega (arith, room, ready.room-byte, l.bytes);
        in-to = omega (arith, room, ready.room-to, l.targets);
        few = writing-few c.links c.bytes c.here w z;
      }

  pub node_link : 2 * node < length work
  node_link = let c = ready.chained in omega (arith, c.links.room, place-below c.names c.string node c.here)
