-- The names of tokens: they grew from the root; a name is empty or begins a token, and all that begin a token are names; one
-- token more enters its own prefixes; there are at most one more than the tokens have bytes. Assumes nothing.
use Rattle.std.specs.Prelude.{Some}
use mathlib.Core.Path.{◌≡◌, refl, sym, ap, ◌∙◌, subst}
use mathlib.Core.List.{List, [], ◌∷◌, ◌++◌, append-nil, flat_map}
use mathlib.Core.Logic.{◌⊎◌, inl, inr, ⊎_elim}
use Prim.Native.Nat.{ℕ, zero, suc, ◌+◌, ◌*◌, ◌≤◌, ◌<◌}
use native.Mathlib.Omega.{arith}
use lib.ListN.{length, get_or}
use Rattle.refusal.proofs.Lists.{zero_one, none-some}
use Rattle.build.specs.Names.{place, prefixes, add, enter, names}
use Rattle.build.specs.Grown.{Grown, root, Bytes}
use lib.Seq.{append_snoc}
use Rattle.build.proofs.Places.{found?, place-empty, place_other, place-more, place_at, add-there, add-new}
use Rattle.build.proofs.Grown.{List², grown-root, grown-enter, enter-keeps, enter-has, enter-grows, enter-few}
use Rattle.build.proofs.Grown.{enter-append, length-prefixes}

-- every token is made of bytes
abbrev pub AllBytes : List² → Type 0
AllBytes tokens = (i : ℕ) → i < length tokens → Bytes (get_or tokens i [])

-- the nodes after some tokens are entered
abbrev pub entered : List² → List² → List²
entered ns tokens = enter ns (flat_map (prefixes []) tokens)

-- ---- token by token

pub entered-none : (ns : List²) → entered ns [] ≡ ns
unfolding flat_map enter
entered-none ns = refl

pub entered-one : (ns : List²) (t : List ℕ) (ts : List²) → entered ns (t ∷ ts) ≡ entered (enter ns (prefixes [] t)) ts
unfolding flat_map
entered-one ns t ts = enter-append (prefixes [] t) (flat_map (prefixes []) ts) ns

pub names-are : (tokens : List²) → names tokens ≡ entered ([] ∷ []) tokens
unfolding names
names-are tokens = refl

-- ---- they grew

all_tail : (t : List ℕ) (ts : List²) → AllBytes (t ∷ ts) → AllBytes ts
all_tail t ts h i l = h (suc i) (omega arith)

pub grown-entered : (ts ns : List²) → Grown ns → AllBytes ts → Grown (entered ns ts)
grown-entered [] ns g h = subst Grown (sym (entered-none ns)) g
grown-entered (t ∷ ts) ns g h =
    subst Grown (sym (entered-one ns t ts))
    (grown-entered ts (enter ns (prefixes [] t)) (grown-enter t [] ns 0 g (grown-root g) (h 0 (omega arith))) (all_tail t ts h))

pub grown-names : (tokens : List²) → AllBytes tokens → Grown (names tokens)
grown-names tokens h = subst Grown (sym (names-are tokens)) (grown-entered tokens ([] ∷ []) root h)

pub entered-keeps : (ts ns : List²) (s : List ℕ) (k : ℕ) → place ns s ≡ Some k → place (entered ns ts) s ≡ Some k
entered-keeps ts ns s k e = enter-keeps (flat_map (prefixes []) ts) ns s k e

pub entered-grows : (ts ns : List²) → length ns ≤ length (entered ns ts)
entered-grows ts ns = enter-grows (flat_map (prefixes []) ts) ns

-- ---- names begin tokens

-- s begins a token
abbrev pub Begins : List² → List ℕ → Type 0
Begins tokens s = (i : ℕ) × (r : List ℕ) × (i < length tokens) × (get_or tokens i [] ≡ s ++ r)

pub entered-has :
    (ts ns : List²) (q : List ℕ) → place ns [] ≡ Some 0 → Begins ts q → (k : ℕ) × (place (entered ns ts) q ≡ Some k)
entered-has [] ns q e w = absurd (omega (arith, w.2))
entered-has (t ∷ ts) ns q e (zero, r, l, d) =
    let v = enter-has t [] q ns 0 e r d in
    (v.0, ap (λ (x : List²). place x q) (entered-one ns t ts) ∙ entered-keeps ts (enter ns (prefixes [] t)) q v.0 v.1)
entered-has (t ∷ ts) ns q e (suc i, r, l, d) =
    let v = entered-has ts (enter ns (prefixes [] t)) q (enter-keeps (prefixes [] t) ns [] 0 e) (i, r, omega arith, d) in
    (v.0, ap (λ (x : List²). place x q) (entered-one ns t ts) ∙ v.1)

prefixes-from :
    (t p : List ℕ) (ns : List²) (s : List ℕ) (k : ℕ) → place (enter ns (prefixes p t)) s ≡ Some k
    → ((j : ℕ) × (place ns s ≡ Some j)) ⊎ ((r : List ℕ) × (p ++ t ≡ s ++ r))
unfolding prefixes enter
prefixes-from [] p ns s k e = inl (k, e)
prefixes-from (b ∷ t) p ns s k e =
    let q = p ++ (b ∷ []) in
    ⊎_elim
    (λ (w : (j : ℕ) × (place (add ns q) s ≡ Some j)). ⊎_elim
    (λ n. ⊎_elim (λ o. inl (w.0, o)) (λ o. inr (t, sym (append_snoc p b t) ∙ ap (λ (x : List ℕ). x ++ t) (sym o.0)))
    (place-more ns q s w.0 n (ap (λ (x : List²). place x s) (sym (add-new ns q n)) ∙ w.1)))
    (λ m. inl (w.0, ap (λ (x : List²). place x s) (sym (add-there ns q m.0 m.1)) ∙ w.1))
    (found? (place ns q)))
    (λ (w : (r : List ℕ) × (q ++ t ≡ s ++ r)). inr (w.0, sym (append_snoc p b t) ∙ w.1))
    (prefixes-from t q (add ns q) s k e)

tokens-from :
    (ts ns : List²) (s : List ℕ) (k : ℕ) → place (entered ns ts) s ≡ Some k → ((j : ℕ) × (place ns s ≡ Some j)) ⊎ Begins ts s
tokens-from [] ns s k e = inl (k, ap (λ (x : List²). place x s) (sym (entered-none ns)) ∙ e)
tokens-from (t ∷ ts) ns s k e =
    ⊎_elim
    (λ (w : (j : ℕ) × (place (enter ns (prefixes [] t)) s ≡ Some j)). ⊎_elim (λ v. inl v) (λ v. inr (0, v.0, omega arith, v.1))
    (prefixes-from t [] ns s w.0 w.1))
    (λ (w : Begins ts s). inr (suc w.0, w.1, omega (arith, w.2), w.3))
    (tokens-from ts (enter ns (prefixes [] t)) s k (ap (λ (x : List²). place x s) (sym (entered-one ns t ts)) ∙ e))

-- a name is empty or begins a token
pub name-begins : (tokens : List²) (s : List ℕ) (k : ℕ) → place (names tokens) s ≡ Some k → (s ≡ []) ⊎ Begins tokens s
name-begins tokens s k e =
    ⊎_elim (λ w. ⊎_elim (λ v. absurd (no_place w v)) (λ v. inl (sym v)) (nil-or s)) (λ w. inr w)
    (tokens-from tokens ([] ∷ []) s k (ap (λ (x : List²). place x s) (sym (names-are tokens)) ∙ e))
  where
    nil-or : (s : List ℕ) → (s ≡ [] → ⊥) ⊎ ([] ≡ s)
    nil-or [] = inr refl
    nil-or (b ∷ s) = inl (λ q. zero_one cc)

    no_place : {s : List ℕ} → (j : ℕ) × (place ([] ∷ []) s ≡ Some j) → (s ≡ [] → ⊥) → ⊥
    no_place {s} w v = none-some (sym (place_other [] [] s v ∙ place-empty s) ∙ w.1)

-- all that begins a token is a name
pub begins-name : (tokens : List²) (s : List ℕ) → Begins tokens s → (k : ℕ) × (place (names tokens) s ≡ Some k)
begins-name tokens s w =
    let v = entered-has tokens ([] ∷ []) s (grown-root root) w in
    (v.0, ap (λ (x : List²). place x s) (names-are tokens) ∙ v.1)

-- a token that stands at a place is a name
pub token-name :
    (tokens : List²) (s : List ℕ) (i : ℕ) → place tokens s ≡ Some i → i < length tokens
    → (k : ℕ) × (place (names tokens) s ≡ Some k)
token-name tokens s i e l = begins-name tokens s (i, [], l, place_at tokens s i e ∙ sym (append-nil s))

-- ---- how many

-- the bytes of all tokens
unfoldable pub all_bytes : List² → ℕ
all_bytes [] = 0
all_bytes (t ∷ ts) = length t + all_bytes ts

pub entered-few : (ts ns : List²) → length (entered ns ts) ≤ length ns + all_bytes ts
unfolding all_bytes
entered-few [] ns = omega (arith, ap length (entered-none ns))
entered-few (t ∷ ts) ns =
    omega (
      arith,
      ap length (entered-one ns t ts),
      entered-few ts (enter ns (prefixes [] t)),
      enter-few (prefixes [] t) ns,
      length-prefixes [] t,
    )

pub names-few : (tokens : List²) → length (names tokens) ≤ 1 + all_bytes tokens
names-few tokens = omega (arith, ap length (names-are tokens), entered-few tokens ([] ∷ []))

pub bytes-few :
    (tokens : List²) (m : ℕ) → ((i : ℕ) → i < length tokens → length (get_or tokens i []) ≤ m)
    → all_bytes tokens ≤ length tokens * m
unfolding all_bytes
bytes-few [] m h = omega arith
bytes-few (t ∷ ts) m h = omega (arith, h 0 (omega arith), bytes-few ts m (λ i l. h (suc i) (omega arith)))
