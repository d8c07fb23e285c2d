-- A well-formed text is characters, end to end: `Chars s`. It holds exactly where `well_formed` does. Characters in front pass
-- through `valid_up_to` (`valid-over`), from which come concatenation, the longest prefix, and the turns of the loop that finds
-- it. Assumes nothing.
use mathlib.Core.Path.{◌≡◌, refl, sym, ap, ◌∙◌}
use mathlib.Core.Bool.{true}
use mathlib.Core.List.{List, [], ◌++◌}
use Prim.Native.Nat.{ℕ, zero, suc, ◌+◌, ◌≤◌, ◌<◌}
use native.Mathlib.Omega.{arith}
use borrow.Author.Tests.{eqb-true}
use lib.Dec.{eqb-suc-zero}
use lib.ListN.{length, take, drop, length-drop, take-append-drop, drop_of_length-le}
use lib.Seq.{take-add, take-length, drop_at, drop-append-le, drop-drop, length-take-le}
use Rattle.text.specs.Text.{character, valid_in, valid_up_to, well_formed}
use Rattle.text.proofs.Characters.{Front, Found, none, here, found, character-front, front-character, front-positive, front-inside, front-append, front-take}

-- ---- the recursion with a bound

-- where there is no character in front, it stops; past one it goes on
valid-in-stop : (n : ℕ) (s : List ℕ) → character s ≡ 0 → valid_in n s ≡ 0
unfolding valid_in
valid-in-stop zero s e = refl
valid-in-stop (suc n) s e = rw e

valid-in-step : (n k : ℕ) (s : List ℕ) → Front s (suc k) → valid_in (suc n) s ≡ suc k + valid_in n (drop (suc k) s)
unfolding valid_in
valid-in-step n k s f = rw (front-character f, eqb-suc-zero k)

-- any bound that is at least the length gives the same
enough : (n m : ℕ) (s : List ℕ) → length s ≤ n → length s ≤ m → valid_in n s ≡ valid_in m s
unfolding valid_in
enough n m s p q = go n m s (found s) p q
  where
    go : (n m : ℕ) (s : List ℕ) → Found s → length s ≤ n → length s ≤ m → valid_in n s ≡ valid_in m s
    go zero m s (none e) p q = sym (valid-in-stop m s e)
    go zero m s (here k f) p q = absurd (omega (arith, front-inside f))
    go (suc n) zero s (none e) p q = valid-in-stop (suc n) s e
    go (suc n) zero s (here k f) p q = absurd (omega (arith, front-inside f))
    go (suc n) (suc m) s (none e) p q = valid-in-stop (suc n) s e ∙ sym (valid-in-stop (suc m) s e)
    go (suc n) (suc m) s (here k f) p q =
        valid-in-step n k s f
        ∙ ap (λ (v : ℕ). suc k + v)
        (go n m (drop (suc k) s) (found (drop (suc k) s))
        (simp length-drop (omega (arith, front-inside f)))
        (simp length-drop (omega (arith, front-inside f))))
        ∙ sym (valid-in-step m k s f)

-- ---- the longest prefix

pub valid-stop : (s : List ℕ) → character s ≡ 0 → valid_up_to s ≡ 0
unfolding valid_up_to
valid-stop s e = valid-in-stop (length s) s e

step-at : (s : List ℕ) (k : ℕ) → Front s k → valid_up_to s ≡ k + valid_up_to (drop k s)
unfolding valid_up_to
step-at s zero f = absurd (omega (arith, front-positive f))
step-at s (suc k) f =
    enough (length s) (suc (length s)) s (omega arith) (omega arith)
    ∙ valid-in-step (length s) k s f
    ∙ ap (λ (v : ℕ). suc k + v)
    (enough (length s) (length (drop (suc k) s)) (drop (suc k) s) (simp length-drop (omega arith)) (omega arith))

pub valid-step : {s : List ℕ} {k : ℕ} → Front s k → valid_up_to s ≡ k + valid_up_to (drop k s)
valid-step {s} {k} f = step-at s k f

-- ---- the turns of a loop that is at i

pub valid-past : (s : List ℕ) (i : ℕ) → length s ≤ i → valid_up_to (drop i s) ≡ 0
unfolding valid_up_to valid_in
valid-past s i h = rw (drop_of_length-le s h)

at_place : (s : List ℕ) (i n : ℕ) → character (drop i s) ≡ n → 0 < n → Front (drop i s) n
at_place s i zero e p = absurd (omega arith)
at_place s i (suc n) e p = character-front (drop i s) n e

pub valid-turn : (s : List ℕ) (i n : ℕ) → character (drop i s) ≡ n → 0 < n → i + valid_up_to (drop i s) ≡ i + n + valid_up_to (drop (i + n) s)
valid-turn s i n e p =
    omega (arith, valid-step (at_place s i n e p), ap valid_up_to (drop-drop n i s))

-- the character at i ends inside
pub turn_inside : (s : List ℕ) (i n : ℕ) → character (drop i s) ≡ n → 0 < n → i + n ≤ length s
turn_inside s i n e p = omega (arith, front-inside (at_place s i n e p), length-drop i s, front-positive (at_place s i n e p))

-- ---- characters, end to end

pub data Chars : List ℕ → Type 0 where
  end : Chars []
  more : {s : List ℕ} {k : ℕ} → Front s k → Chars (drop k s) → Chars s

-- by the length: a recursion on what is left after the first character
pub chars-by-length : (P : List ℕ → Type 0) → ((s : List ℕ) → character s ≡ 0 → P s) → ((s : List ℕ) (k : ℕ) → Front s k → P (drop k s) → P s)
    → (s : List ℕ) → P s
chars-by-length P stop step s = go (length s) s (found s) (omega arith)
  where
    go : (n : ℕ) (s : List ℕ) → Found s → length s ≤ n → P s
    go zero s (none e) h = stop s e
    go zero s (here k f) h = absurd (omega (arith, front-inside f))
    go (suc n) s (none e) h = stop s e
    go (suc n) s (here k f) h =
        step s (suc k) f (go n (drop (suc k) s) (found (drop (suc k) s)) (simp length-drop (omega (arith, front-inside f))))

-- what is left of a longer prefix after k bytes
pub drop_of_take : (k m : ℕ) (s : List ℕ) → k ≤ length s → drop k (take (k + m) s) ≡ take m (drop k s)
drop_of_take k m s h = rw take-add (drop_at (take k s) (take m (drop k s)) k (length-take-le k s h))

-- the prefix that `valid_up_to` finds is characters
pub valid-prefix : (s : List ℕ) → Chars (take (valid_up_to s) s)
valid-prefix = chars-by-length (λ s. Chars (take (valid_up_to s) s)) stop step
  where
    stop : (s : List ℕ) → character s ≡ 0 → Chars (take (valid_up_to s) s)
    stop s e = rw (valid-stop s e) end

    step : (s : List ℕ) (k : ℕ) → Front s k → Chars (take (valid_up_to (drop k s)) (drop k s)) → Chars (take (valid_up_to s) s)
    step s k f c =
        rw (valid-step f)
        (more (front-take f (k + valid_up_to (drop k s)) (omega arith)) (rw (drop_of_take k (valid_up_to (drop k s)) s (front-inside f)) c))

-- and it is no longer than s
pub valid-le : (s : List ℕ) → valid_up_to s ≤ length s
valid-le = chars-by-length (λ s. valid_up_to s ≤ length s) stop step
  where
    stop : (s : List ℕ) → character s ≡ 0 → valid_up_to s ≤ length s
    stop s e = omega (arith, valid-stop s e)

    step : (s : List ℕ) (k : ℕ) → Front s k → valid_up_to (drop k s) ≤ length (drop k s) → valid_up_to s ≤ length s
    step s k f h = omega (arith, valid-step f, length-drop k s, front-inside f)

-- characters in front pass through
pub valid-over : {s : List ℕ} → Chars s → (t : List ℕ) → valid_up_to (s ++ t) ≡ length s + valid_up_to t
valid-over end t = omega arith
valid-over (more {s = s} {k = k} f c) t =
    valid-step (front-append f t)
    ∙ ap (λ (u : List ℕ). k + valid_up_to u) (drop-append-le k s t (front-inside f))
    ∙ ap (λ (n : ℕ). k + n) (valid-over c t)
    ∙ omega (arith, length-drop k s, front-inside f)

-- ---- well-formed

pub well-valid : (s : List ℕ) → well_formed s ≡ true → valid_up_to s ≡ length s
unfolding well_formed
well-valid s e = eqb-true (valid_up_to s) (length s) e

pub well-chars : (s : List ℕ) → well_formed s ≡ true → Chars s
well-chars s e = rw (well-valid s e, take-length) at (valid-prefix s)

-- ---- the laws

pub valid-longest : (s : List ℕ) (n : ℕ) → n ≤ length s → well_formed (take n s) ≡ true → n ≤ valid_up_to s
valid-longest s n h p =
    omega (
      arith,
      ap valid_up_to (take-append-drop n s),
      valid-over (well-chars (take n s) p) (drop n s),
      length-take-le n s h,
    )
