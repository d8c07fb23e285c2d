-- A row entered: its token's last node takes the row's id, where the rule says so. Assumes nothing.
use Rattle.std.specs.Prelude.{unwrap_or, Option, None, Some}
use mathlib.Core.Path.{◌≡◌, refl, sym, ap, ◌∙◌, subst, fun_ext}
use mathlib.Core.Bool.{Bool, true, false, cond}
use mathlib.Core.List.{List, [], ◌∷◌}
use mathlib.Core.Logic.{⊎_elim}
use Prim.Native.Nat.{ℕ, ◌≤◌, ◌<◌}
use native.Mathlib.Omega.{arith}
use borrow.Author.Tests.{eq-eqb, ne_eqb}
use lib.Dec.{eqb}
use lib.ListN.{length, get_or, set, length-set}
use lib.Seq.{get_or-set_same, get_or-set_other}
use Rattle.refusal.proofs.Lists.{none-some}
use Rattle.refusal.specs.Sizes.{no_id}
use Rattle.rows.specs.declared.Kind.{Kind}
use Rattle.rows.specs.declared.Kind.TheVariants.{Unigram, WordPiece}
use Rattle.build.specs.Names.{place, prefixes, enter}
use Rattle.build.specs.Given.{kept, marked}
use Rattle.build.specs.Held.{Identified, Held, Stands, Comes, marked_ids, Unmarked, RowEntered}
use Rattle.build.proofs.Strings.{equal?}
use Rattle.build.proofs.Places.{place-below, place-one, place_same}
use Rattle.build.proofs.Grown.{List²}
use Rattle.build.proofs.Ruled.{marked-nil, marked-self, marked_other}
use Rattle.build.proofs.Entering.{prefixes-none}

-- ---- the id column

pub length_marked : (kind : Kind) (id : List ℕ) (node v : ℕ) → length (marked_ids kind id node v) ≡ length id
length_marked Unigram id node v = go (eqb (get_or id node 0) no_id)
  where
    go : (t : Bool) → length (cond t (set id node v) id) ≡ length id
    go true = length-set id node v
    go false = refl
length_marked WordPiece id node v = length-set id node v

marked-elsewhere :
    (kind : Kind) (id : List ℕ) (node v k : ℕ) → (k ≡ node → ⊥) → get_or (marked_ids kind id node v) k 0 ≡ get_or id k 0
marked-elsewhere Unigram id node v k h = go (eqb (get_or id node 0) no_id)
  where
    go : (t : Bool) → get_or (cond t (set id node v) id) k 0 ≡ get_or id k 0
    go true = get_or-set_other id node k v 0 h
    go false = refl
marked-elsewhere WordPiece id node v k h = get_or-set_other id node k v 0 h

-- the node's own id is what the rule keeps
marked-there :
    (kind : Kind) (id : List ℕ) (node v : ℕ) (o : Option ℕ) → node < length id → get_or id node 0 ≡ unwrap_or o no_id
    → (kind ≡ Unigram → (i : ℕ) → o ≡ Some i → i < no_id)
    → get_or (marked_ids kind id node v) node 0 ≡ unwrap_or (kept kind o v) no_id
unfolding kept
marked-there Unigram id node v None h e small = rw (eq-eqb (get_or id node 0) no_id e) (get_or-set_same id node v 0 h)
marked-there Unigram id node v (Some i) h e small =
    rw (ne_eqb (get_or id node 0) no_id (λ z. omega (arith, small refl i refl))) e
marked-there WordPiece id node v None h e small = get_or-set_same id node v 0 h
marked-there WordPiece id node v (Some i) h e small = get_or-set_same id node v 0 h

-- ---- the row

pub row-empty :
    (kind : Kind) (v : ℕ) {ns : List²} {rule : List ℕ → Option ℕ} {t : List ℕ} {room : ℕ} {edge_n id work : List ℕ} {n : ℕ}
    → t ≡ [] → Held ns rule edge_n id work → n ≡ length ns → n ≤ room
    → Stands (enter ns (prefixes [] t)) (marked kind t v rule) room edge_n id work n
row-empty kind v {ns = ns} {rule = rule} {t = t} e h count fits =
    let same : enter ns (prefixes [] t) ≡ ns = ap (λ (s : List ℕ). enter ns (prefixes [] s)) e ∙ prefixes-none [] ns in
    let rules : marked kind t v rule ≡ rule =
    ap (λ (s : List ℕ). marked kind s v rule) e ∙ fun_ext (marked-nil kind v rule) in
    record { fits = fits; count = count ∙ ap length (sym same); held = rw (same, rules) h }

module _ {ms : List²} {rule : List ℕ → Option ℕ} {t : List ℕ} {room : ℕ} {edge_n id work : List ℕ} {node n : ℕ}
    (come : Comes ms rule t room edge_n id work node n) where
  pub node-below : node < length id
  node-below = omega (arith, place-below ms t node come.here, come.stands.held.marks.room)

  module _ {kind : Kind} (v : ℕ) (some_byte : 0 < length t) (small : Unmarked kind rule) where
    held : Held ms rule edge_n id work
    held = come.stands.held

    below : node < length ms
    below = place-below ms t node come.here

    marked-at : get_or (marked_ids kind id node v) node 0 ≡ unwrap_or (marked kind t v rule t) no_id
    marked-at =
        marked-there kind id node v (rule t) node-below (held.marks.ids t node come.here)
        (λ e i p. small e t i p)
        ∙ ap (λ (o : Option ℕ). unwrap_or o no_id) (sym (self t some_byte))
      where
        self : (s : List ℕ) → 0 < length s → marked kind s v rule s ≡ kept kind (rule s) v
        self [] h = absurd (omega arith)
        self (b ∷ s) h = marked-self kind b s v rule

    pub row-marked : {id' : List ℕ} → id' ≡ marked_ids kind id node v → Stands ms (marked kind t v rule) room edge_n id' work n
    row-marked e =
        record {
          fits = come.stands.fits;
          count = come.stands.count;
          held = record {
            links = held.links;
            bytes = held.bytes;
            past = held.past;
            marks = subst (Identified ms (marked kind t v rule)) (sym e) (record {
              room = omega (arith, length_marked kind id node v, held.marks.room);
              ids = λ s k p. ⊎_elim
                  (λ (q : s ≡ t).
                  let at : k ≡ node = place_same ms t k node (ap (place ms) (sym q) ∙ p) come.here in
                  ap (λ (i : ℕ). get_or (marked_ids kind id node v) i 0) at ∙ marked-at
                  ∙ ap (λ (x : List ℕ). unwrap_or (marked kind t v rule x) no_id) (sym q))
                  (λ (q : s ≡ t → ⊥).
                  marked-elsewhere kind id node v k
                  (λ y. q (place-one ms s t k p (come.here ∙ ap Some (sym y))))
                  ∙ held.marks.ids s k p ∙ ap (λ (o : Option ℕ). unwrap_or o no_id) (sym (marked_other kind t v rule s q)))
                  (equal? s t);
              within = λ s p.
                  marked_other kind t v rule s (λ q. none-some (sym (ap (place ms) (sym q) ∙ p) ∙ come.here))
                  ∙ held.marks.within s p;
              past = λ k p.
                  marked-elsewhere kind id node v k (λ y. omega (arith, below)) ∙ held.marks.past k p;
            });
          };
        }

-- the same for an id that is the same
pub row-valued :
    {edge_n id work edge_n' id' work' : List ℕ} {kind : Kind} {room n : ℕ} {t u : List ℕ} {v w : ℕ}
    {answer : Option ℕ} → t ≡ u → v ≡ w
    → RowEntered edge_n id work edge_n' id' work' kind room n t v answer
    → RowEntered edge_n id work edge_n' id' work' kind room n u w answer
row-valued e f r = rw (← e, ← f) r
