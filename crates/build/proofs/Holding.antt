-- What the columns hold as a byte is entered: the child that is there, or one node more, or no room for it. Assumes nothing.
use Rattle.std.specs.Prelude.{unwrap_or, Option, None, Some}
use mathlib.Core.Path.{◌≡◌, refl, sym, ap, ◌∙◌, subst}
use mathlib.Core.List.{List, [], ◌∷◌, ◌++◌}
use mathlib.Core.Logic.{⊎_elim}
use Prim.Native.Nat.{ℕ, zero, suc, ◌+◌, ◌*◌, ◌≤◌, ◌<◌}
use native.Mathlib.Omega.{arith}
use lib.ListN.{length, get_or, set, length-set}
use lib.Seq.{get_or-set_same, get_or-set_other}
use Rattle.refusal.proofs.Lists.{none-some}
use Rattle.refusal.specs.Sizes.{no_id}
use Rattle.build.specs.Names.{place, add}
use Rattle.build.specs.Links.{Slot, Linked, Spelled, linked_work}
use Rattle.build.specs.Held.{Held, Roomy, Chained, Sought, Enterable, Comes}
use Rattle.build.proofs.Places.{missing, place-below, place_kept, place_end, place-more, add-there, add-new, length_more}
use Rattle.build.proofs.Grown.{List²}
use Rattle.build.proofs.Linking.{slot-below, linked-more, spelled-more}
use Rattle.build.proofs.Seeking.{seek-below, seek-none, seek-least, seek-byte}

-- what is in no longer list was in none
pub missing-before : (ns ms : List²) (s : List ℕ) → place (ns ++ ms) s ≡ None → place ns s ≡ None
missing-before ns ms s e = missing (place ns s) (λ k p. none-some (sym e ∙ place_kept ns ms s k p))

-- what the columns hold is linked
abbrev pub held-chained :
    {ns : List²} {rule : List ℕ → Option ℕ} (s : List ℕ) {edge_n id work : List ℕ} {node : ℕ} → Held ns rule edge_n id work
    → place ns s ≡ Some node → Chained edge_n work 0 node
held-chained {ns = ns} s h e = record { names = ns; string = s; links = h.links; bytes = h.bytes; here = e }

-- ---- is the child there?

module _ {ns : List²} {edge_n work : List ℕ} {s : List ℕ} {node b at : ℕ} (l : Linked ns work) (sp : Spelled ns 0 edge_n)
    (here : place ns s ≡ Some node) (slot : Slot ns s b at) where
  abbrev child : ℕ
  child = get_or work at 0

  pub child-there : (child ≡ 0 → ⊥) → get_or edge_n child 0 ≡ b → place ns (s ++ (b ∷ [])) ≡ Some child
  child-there z e =
      let w = seek-least l sp here slot z in
      let byte : w.a ≡ b = sym (seek-byte l sp here slot z) ∙ e in
      subst (λ (a : ℕ). place ns (s ++ (a ∷ [])) ≡ Some child) byte w.child

  child-none : b < 256 → child ≡ 0 → place ns (s ++ (b ∷ [])) ≡ None
  child-none h z = seek-none l sp here slot z b (omega arith) h

  child-other : (child ≡ 0 → ⊥) → (get_or edge_n child 0 ≡ b → ⊥) → place ns (s ++ (b ∷ [])) ≡ None
  child-other z e =
      let w = seek-least l sp here slot z in
      let byte : get_or edge_n child 0 ≡ w.a = seek-byte l sp here slot z in
      w.clear b (omega arith) (omega (arith, above b w.a w.from (λ q. e (byte ∙ sym q))))
    where
      above : (b a : ℕ) → b ≤ a → (b ≡ a → ⊥) → b < a
      above b a h q = omega arith

  -- there is none, or it has another byte
  pub child-absent : b < 256 → ((child ≡ 0 → ⊥) → get_or edge_n child 0 ≡ b → ⊥) → place ns (s ++ (b ∷ [])) ≡ None
  child-absent h other = go child refl
    where
      go : (k : ℕ) → child ≡ k → place ns (s ++ (b ∷ [])) ≡ None
      go zero e = child-none h e
      go (suc k) e = let z : child ≡ 0 → ⊥ = λ p. omega arith in child-other z (other z)

-- ---- where the walk from a node to come to has ended

module _ {edge_n id work : List ℕ} {room node n b at : ℕ} (from : Enterable edge_n id work room node n)
    (sought : Sought edge_n work node b at) where
  slot-of : Slot from.names from.string b at
  slot-of = sought.slot (held-chained from.string from.held from.here)

  -- the link has its place
  pub link-inside : (at < 2 * n) × (2 * n ≤ length work)
  link-inside =
      let below = slot-below from.names from.string b at slot-of in
      (omega (arith, from.count, below), omega (arith, from.count, from.held.links.room))

  -- and so has the child that it leads to
  pub child-inside : (get_or work at 0 ≡ 0 → ⊥) → get_or work at 0 < length edge_n
  child-inside z = omega (arith, from.held.bytes.room, seek-below from.held.links from.held.bytes from.here slot-of z)

-- ---- what the byte makes

module _ {ns : List²} {rule : List ℕ → Option ℕ} {edge_n id work : List ℕ} {room n : ℕ}
    (h : Held ns rule edge_n id work) (s : List ℕ) (b : ℕ) (count : n ≡ length ns) (fits : n ≤ room) where
  abbrev t : List ℕ
  t = s ++ (b ∷ [])

  pub byte-there : {k : ℕ} → place ns t ≡ Some k → Comes (add ns t) rule t room edge_n id work k n
  byte-there {k = k} e =
      let same = add-there ns t k e in
      record {
        stands = record {
          fits = fits;
          count = count ∙ ap length (sym same);
          held = subst (λ (x : List²). Held x rule edge_n id work) (sym same) h;
        };
        here = ap (λ (x : List²). place x t) same ∙ e;
      }

  pub byte_full : place ns t ≡ None → n ≡ room → room < length (add ns t)
  byte_full e z = omega (arith, ap length (add-new ns t e), length_more ns t)

  module _ {node at : ℕ} (here : place ns s ≡ Some node) (new : place ns t ≡ None) (slot : Slot ns s b at)
      (byte : b < 256) (more : n < room) (roomy : Roomy room edge_n id work) where
    held_more :
        Held (ns ++ (t ∷ [])) rule (set edge_n (length ns) b) (set id (length ns) no_id) (linked_work work at (length ns))
    held_more =
        let room-work : 2 * suc (length ns) ≤ length work = omega (arith, roomy.links) in
        let m = length ns in
        record {
          links = linked-more ns work h.links s b at node here new slot byte room-work;
          bytes =
              spelled-more ns work h.links s b at node here new slot byte room-work edge_n (omega (arith, roomy.nodes)) h.bytes;
          past = λ k p.
              get_or-set_other edge_n m k b 0 (λ z. omega (arith, length_more ns t))
              ∙ h.past k (omega (arith, length_more ns t));
          marks = record {
            room = omega (arith, length_more ns t, length-set id m no_id, roomy.ids);
            ids = λ x k e. ⊎_elim
                (λ (p : place ns x ≡ Some k).
                get_or-set_other id m k no_id 0 (λ z. omega (arith, place-below ns x k p)) ∙ h.marks.ids x k p)
                (λ (p : (x ≡ t) × (k ≡ m)).
                let none_yet : rule x ≡ None = ap rule p.0 ∙ h.marks.within t new in
                ap (λ (i : ℕ). get_or (set id m no_id) i 0) p.1 ∙ get_or-set_same id m no_id 0 (omega (arith, roomy.ids))
                ∙ ap (λ (o : Option ℕ). unwrap_or o no_id) (sym none_yet))
                (place-more ns t x k new e);
            within = λ x e. h.marks.within x (missing-before ns (t ∷ []) x e);
            past = λ k p.
                get_or-set_other id m k no_id 0 (λ z. omega (arith, length_more ns t))
                ∙ h.marks.past k (omega (arith, length_more ns t));
          };
        }

    pub byte-made :
        {edge_n' id' work' : List ℕ} → edge_n' ≡ set edge_n n b → id' ≡ set id n no_id → work' ≡ linked_work work at n
        → Comes (add ns t) rule t room edge_n' id' work' n (n + 1)
    byte-made p q r =
        let same = add-new ns t new in
        record {
          stands = record {
            fits = omega arith;
            count = omega (arith, ap length same, length_more ns t);
            held =
                let e : Held (ns ++ (t ∷ [])) rule (set edge_n n b) (set id n no_id) (linked_work work at n) =
                subst (λ (m : ℕ). Held (ns ++ (t ∷ [])) rule (set edge_n m b) (set id m no_id) (linked_work work at m))
                (sym count) held_more in
                rw (p, q, r, same) e;
          };
          here = ap (λ (x : List²). place x t) same ∙ place_end ns t new ∙ ap Some (sym count);
        }
