-- A token entered byte by byte. After i bytes the columns hold the nodes with the token's first i prefixes entered, and what is
-- still to be entered is the rest. Assumes nothing.
use Rattle.std.specs.Prelude.{Option, Some, None}
use mathlib.Core.Path.{◌≡◌, refl, sym, ap, ◌∙◌, subst}
use mathlib.Core.List.{List, [], ◌∷◌, ◌++◌}
use Prim.Native.Nat.{ℕ, ◌+◌, ◌≤◌, ◌<◌}
use native.Mathlib.Omega.{arith}
use native.Mathlib.Numerals.{add-one}
use lib.ListN.{length, get_or, take, drop}
use lib.Seq.{take-suc, drop-cons, take-length, drop-length}
use Rattle.build.specs.declared.links.Reached.{Reached}
use Rattle.build.specs.Names.{prefixes, add, enter}
use Rattle.build.specs.Held.{Held, Roomy, Enterable, Comes, ByteEntered}
use Rattle.build.proofs.Grown.{List², grown-root, enter-grows}

-- the columns keep their lengths
pub record Kept (edge_n₀ id₀ work₀ edge_n id work : List ℕ) : Type 0 where
  pub nodes : length edge_n ≡ length edge_n₀
  pub ids : length id ≡ length id₀
  pub links : length work ≡ length work₀

module _ {edge_n₀ id₀ work₀ edge_n id work : List ℕ} (k : Kept edge_n₀ id₀ work₀ edge_n id work) where
  pub roomy-kept : {room : ℕ} → Roomy room edge_n₀ id₀ work₀ → Roomy room edge_n id work
  roomy-kept r = record { nodes = omega arith; ids = omega arith; links = omega arith; small = r.small }

  pub kept_on :
      {edge_n' id' work' : List ℕ} → length edge_n' ≡ length edge_n → length id' ≡ length id → length work' ≡ length work
      → Kept edge_n₀ id₀ work₀ edge_n' id' work'
  kept_on e i w = record { nodes = e ∙ k.nodes; ids = i ∙ k.ids; links = w ∙ k.links }

-- ---- after i bytes

pub record Along (ns : List²) (rule : List ℕ → Option ℕ) (t : List ℕ) (room i : ℕ) (edge_n id work : List ℕ)
    (node n : ℕ) : Type 0 where
  pub names : List²
  pub come : Comes names rule (take i t) room edge_n id work node n
  pub on : enter ns (prefixes [] t) ≡ enter names (prefixes (take i t) (drop i t))

pub along-start :
    {ns : List²} {rule : List ℕ → Option ℕ} {t edge_n id work : List ℕ} {room n : ℕ} → Held ns rule edge_n id work
    → n ≡ length ns → n ≤ room → Along ns rule t room 0 edge_n id work 0 n
along-start {ns = ns} h e fits =
    record {
      names = ns;
      come = record { stands = record { fits = fits; count = e; held = h }; here = grown-root h.links.grown };
      on = refl;
    }

prefixes-one :
    (p : List ℕ) (b : ℕ) (s : List ℕ) (ns : List²)
    → enter ns (prefixes p (b ∷ s)) ≡ enter (add ns (p ++ (b ∷ []))) (prefixes (p ++ (b ∷ [])) s)
unfolding prefixes enter
prefixes-one p b s ns = refl

pub prefixes-none : (p : List ℕ) (ns : List²) → enter ns (prefixes p []) ≡ ns
unfolding prefixes enter
prefixes-none p ns = refl

module _ {ns : List²} {rule : List ℕ → Option ℕ} {t : List ℕ} {room i : ℕ} {edge_n id work : List ℕ} {node n : ℕ}
    (along : Along ns rule t room i edge_n id work node n) where
  -- the next byte, the string with it, and the nodes with that
  module _ (h : i < length t) where
    abbrev b : ℕ
    b = get_or t i 0

    abbrev string : List ℕ
    string = take i t ++ (b ∷ [])

    abbrev then : List²
    then = add along.names string

    along-next : take (i + 1) t ≡ string
    along-next = ap (λ (k : ℕ). take k t) (add-one i) ∙ take-suc t i 0 h

    along-on : enter ns (prefixes [] t) ≡ enter then (prefixes string (drop (i + 1) t))
    along-on =
        let cut : drop i t ≡ b ∷ drop (i + 1) t = drop-cons t i 0 h ∙ ap (λ (k : ℕ). b ∷ drop k t) (sym (add-one i)) in
        along.on ∙ ap (λ (r : List ℕ). enter along.names (prefixes (take i t) r)) cut
        ∙ prefixes-one (take i t) b (drop (i + 1) t) along.names

    module _ {edge_n' id' work' : List ℕ} where
      -- the byte found its node
      pub along-turn :
          {at : Reached} → ByteEntered edge_n id work edge_n' id' work' room node n (get_or t i 0) (Some at)
          → Along ns rule t room (i + 1) edge_n' id' work' at.node at.n
      along-turn {at = at} one =
          let come : Comes then rule string room edge_n' id' work' at.node at.n =
          one.entered along.names rule (take i t) along.come.stands.held along.come.stands.count along.come.here in
          record {
            names = then;
            come = subst (λ (p : List ℕ). Comes then rule p room edge_n' id' work' at.node at.n) (sym along-next) come;
            on = along-on ∙ ap (λ (p : List ℕ). enter then (prefixes p (drop (i + 1) t))) (sym along-next);
          }

      -- it found no room
      pub along-full :
          ByteEntered edge_n id work edge_n' id' work' room node n (get_or t i 0) None
          → room < length (enter ns (prefixes [] t))
      along-full one =
          let full : room < length then =
          one.entered along.names rule (take i t) along.come.stands.held along.come.stands.count along.come.here in
          omega (arith, full, ap length along-on, enter-grows (prefixes string (drop (i + 1) t)) then)

  pub along-end : i ≡ length t → Comes (enter ns (prefixes [] t)) rule t room edge_n id work node n
  along-end e =
      let whole : take i t ≡ t = ap (λ (k : ℕ). take k t) e ∙ take-length t in
      let rest : drop i t ≡ [] = ap (λ (k : ℕ). drop k t) e ∙ drop-length t in
      let all : enter ns (prefixes [] t) ≡ along.names =
      along.on ∙ ap (λ (r : List ℕ). enter along.names (prefixes (take i t) r)) rest ∙ prefixes-none (take i t) along.names in
      let come : Comes along.names rule t room edge_n id work node n =
      subst (λ (s : List ℕ). Comes along.names rule s room edge_n id work node n) whole along.come in
      rw all come

  pub along-enterable : Roomy room edge_n id work → Enterable edge_n id work room node n
  along-enterable roomy =
      record {
        names = along.names;
        rule = rule;
        string = take i t;
        held = along.come.stands.held;
        count = along.come.stands.count;
        here = along.come.here;
        roomy = roomy;
        fits = along.come.stands.fits;
      }
