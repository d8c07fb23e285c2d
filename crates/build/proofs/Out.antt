-- The nodes laid out one by one: what is written and what is still to be written are the columns of the parts. Assumes nothing.
use mathlib.Core.Path.{◌≡◌, refl, sym, ap, ◌∙◌}
use mathlib.Core.List.{List, [], ◌∷◌, ◌++◌, map, flatten}
use Prim.Native.Nat.{ℕ, suc, ◌+◌, ◌<◌}
use native.Mathlib.Omega.{arith}
use native.Mathlib.Numerals.{add-one}
use lib.ListN.{length, get_or, set, drop, length-map, length-set}
use lib.Seq.{sets, drop-cons, drop-length, get_or-set_other}
use Rattle.build.specs.Parts.{Edge, edges_of, starts}
use Rattle.build.specs.Links.{Linked, Spelled}
use Rattle.build.specs.Held.{Chained}
use Rattle.build.specs.Laying.{bytes_of, targets_of, NodeDone}
use Rattle.build.proofs.Grown.{List², grown-distinct}
use Rattle.build.proofs.Laid.{starts-cons, flatten-cons}
use Rattle.build.proofs.Counted.{total, total-one, count-edges}

pub sets-append : (vs ws l : List ℕ) (i : ℕ) → sets l i (vs ++ ws) ≡ sets (sets l i vs) (i + length vs) ws
sets-append [] ws l i = ap (λ (k : ℕ). sets l k ws) (omega arith)
sets-append (v ∷ vs) ws l i =
    let e : suc i + length vs ≡ i + suc (length vs) = omega arith in
    sets-append vs ws (set l i v) (suc i) ∙ ap (λ (k : ℕ). sets (sets (set l i v) (suc i) vs) k ws) e

map-join : (f : Edge → ℕ) (l m : List Edge) → map f (l ++ m) ≡ map f l ++ map f m
map-join f [] m = refl
map-join f (x ∷ l) m = ap {B = List ℕ} (λ r. f x ∷ r) (map-join f l m)

-- the edges of the nodes ms
abbrev pub all_edges : List² → List² → List Edge
all_edges ns ms = flatten (map (edges_of ns) ms)

-- how many edges each of the nodes ms has
abbrev pub counts_of : List² → List² → List ℕ
counts_of ns ms = map length (map (edges_of ns) ms)

-- ---- the first k nodes are laid out

abbrev pub chained-at :
    {ns : List²} {edge_n work : List ℕ} {k : ℕ} → Linked ns work → Spelled ns k edge_n → k < length ns → Chained edge_n work k k
chained-at {ns = ns} {k = k} l sp h =
    record { names = ns; string = get_or ns k []; links = l; bytes = sp; here = grown-distinct l.grown k h }

pub record LaidTo (ns : List²) (edge_at₀ edge_n₀ byte₀ to₀ edge_at edge_n byte to : List ℕ) (k at : ℕ) : Type 0 where
  pub begun : sets edge_at₀ 0 (starts 0 (counts_of ns ns)) ≡ sets edge_at k (starts at (counts_of ns (drop k ns)))
  pub counted : sets edge_n₀ 0 (counts_of ns ns) ≡ sets edge_n k (counts_of ns (drop k ns))
  pub written : sets byte₀ 0 (bytes_of (all_edges ns ns)) ≡ sets byte at (bytes_of (all_edges ns (drop k ns)))
  pub led : sets to₀ 0 (targets_of (all_edges ns ns)) ≡ sets to at (targets_of (all_edges ns (drop k ns)))
  pub sum : at + total ns (drop k ns) ≡ total ns ns
  pub bytes : Spelled ns k edge_n

-- and all of them
pub record Written (ns : List²) (edge_at edge_n byte to edge_at' edge_n' byte' to' : List ℕ) : Type 0 where
  pub begun : edge_at' ≡ sets edge_at 0 (starts 0 (counts_of ns ns))
  pub counted : edge_n' ≡ sets edge_n 0 (counts_of ns ns)
  pub written : byte' ≡ sets byte 0 (bytes_of (all_edges ns ns))
  pub led : to' ≡ sets to 0 (targets_of (all_edges ns ns))

pub laid-start :
    {ns : List²} {edge_at edge_n byte to : List ℕ} → Spelled ns 0 edge_n
    → LaidTo ns edge_at edge_n byte to edge_at edge_n byte to 0 0
laid-start sp = record { begun = refl; counted = refl; written = refl; led = refl; sum = omega arith; bytes = sp }

-- the edges of a node, and then those of the others, for either part of an edge
next-edges :
    (f : Edge → ℕ) (ns : List²) (s : List ℕ) (r : List²) (l : List ℕ) (at : ℕ)
    → sets l at (map f (all_edges ns (s ∷ r))) ≡ sets (sets l at (map f (edges_of ns s))) (at + length (edges_of ns s))
    (map f (all_edges ns r))
next-edges f ns s r l at =
    ap (λ (es : List Edge). sets l at (map f es)) (flatten-cons (edges_of ns s) (map (edges_of ns) r))
    ∙ ap (sets l at) (map-join f (edges_of ns s) (all_edges ns r))
    ∙ sets-append (map f (edges_of ns s)) (map f (all_edges ns r)) l at
    ∙ ap (λ (k : ℕ). sets (sets l at (map f (edges_of ns s))) (at + k) (map f (all_edges ns r))) (length-map (edges_of ns s) f)

module _ {ns : List²} {edge_at₀ edge_n₀ byte₀ to₀ edge_at edge_n byte to : List ℕ} {k at : ℕ}
    (laid : LaidTo ns edge_at₀ edge_n₀ byte₀ to₀ edge_at edge_n byte to k at) where
  module _ (h : k < length ns) where
    abbrev s : List ℕ
    s = get_or ns k []

    abbrev r : List²
    r = drop (k + 1) ns

    cut : drop k ns ≡ s ∷ r
    cut = drop-cons ns k [] h ∙ ap (λ (i : ℕ). s ∷ drop i ns) (sym (add-one k))

    sum-next : at + length (edges_of ns s) + total ns r ≡ total ns ns
    sum-next = omega (arith, laid.sum, ap (total ns) cut, total-one ns s r)

    pub laid-few : {work : List ℕ} → Linked ns work → at + length (edges_of ns s) < length ns
    laid-few l = omega (arith, sum-next, count-edges l.grown)

    pub laid-turn :
        {edge_at' edge_n' byte' to' : List ℕ} {end : ℕ}
        → NodeDone ns s edge_at edge_n byte to edge_at' edge_n' byte' to' k at end
        → LaidTo ns edge_at₀ edge_n₀ byte₀ to₀ edge_at' edge_n' byte' to' (k + 1) end
    laid-turn {end = end} d =
        let m = length (edges_of ns s) in
        let stop : at + m ≡ end = sym d.children.count in
        record {
          begun =
              laid.begun ∙ ap (λ (x : List²). sets edge_at k (starts at (counts_of ns x))) cut
              ∙ ap (sets edge_at k) (starts-cons at m (counts_of ns r))
              ∙ ap (λ (i : ℕ). sets (set edge_at k at) i (starts (at + m) (counts_of ns r))) (sym (add-one k))
              ∙ ap (λ (i : ℕ). sets (set edge_at k at) (k + 1) (starts i (counts_of ns r))) stop
              ∙ ap (λ (l : List ℕ). sets l (k + 1) (starts end (counts_of ns r))) (sym d.begun);
          counted =
              laid.counted ∙ ap (λ (x : List²). sets edge_n k (counts_of ns x)) cut
              ∙ ap (λ (i : ℕ). sets (set edge_n k m) i (counts_of ns r)) (sym (add-one k))
              ∙ ap (λ (l : List ℕ). sets l (k + 1) (counts_of ns r)) (sym d.counted);
          written =
              laid.written ∙ ap (λ (x : List²). sets byte at (bytes_of (all_edges ns x))) cut
              ∙ next-edges (λ e. e.byte) ns s r byte at
              ∙ ap (λ (i : ℕ). sets (sets byte at (bytes_of (edges_of ns s))) i (bytes_of (all_edges ns r))) stop
              ∙ ap (λ (l : List ℕ). sets l end (bytes_of (all_edges ns r))) (sym d.children.written);
          led =
              laid.led ∙ ap (λ (x : List²). sets to at (targets_of (all_edges ns x))) cut ∙ next-edges (λ e. e.to) ns s r to at
              ∙ ap (λ (i : ℕ). sets (sets to at (targets_of (edges_of ns s))) i (targets_of (all_edges ns r))) stop
              ∙ ap (λ (l : List ℕ). sets l end (targets_of (all_edges ns r))) (sym d.children.led);
          sum = omega (arith, sum-next, stop);
          bytes = record {
            room = omega (arith, laid.bytes.room, ap length d.counted, length-set edge_n k m);
            byte = λ x a j e p.
                ap (λ (l : List ℕ). get_or l j 0) d.counted ∙ get_or-set_other edge_n k j m 0 (λ z. omega arith)
                ∙ laid.bytes.byte x a j e (omega arith);
          };
        }

  pub laid_end : k ≡ length ns → Written ns edge_at₀ edge_n₀ byte₀ to₀ edge_at edge_n byte to
  unfolding starts flatten
  laid_end e =
      let none_left : drop k ns ≡ [] = ap (λ (i : ℕ). drop i ns) e ∙ drop-length ns in
      record {
        begun = sym (laid.begun ∙ ap (λ (x : List²). sets edge_at k (starts at (counts_of ns x))) none_left);
        counted = sym (laid.counted ∙ ap (λ (x : List²). sets edge_n k (counts_of ns x)) none_left);
        written = sym (laid.written ∙ ap (λ (x : List²). sets byte at (bytes_of (all_edges ns x))) none_left);
        led = sym (laid.led ∙ ap (λ (x : List²). sets to at (targets_of (all_edges ns x))) none_left);
      }
