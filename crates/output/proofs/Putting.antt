-- Text put after text: one byte is put by a store, and two pieces put one after the other are their text put as one. The second
-- finds in front of it what the first left there, and past it what stood there before the first. Assumes nothing.
use mathlib.Core.Path.{◌≡◌, refl, sym, ap, ap₂, ◌∙◌, subst}
use mathlib.Core.List.{List, [], ◌∷◌, ◌++◌, append_assoc, append-nil}
use Prim.Native.Nat.{ℕ, ◌+◌, ◌≤◌, ◌<◌}
use native.Mathlib.Omega.{arith}
use native.Mathlib.Decide.{dec_lt}
use native.Mathlib.Numerals.{add-one}
use lib.ListN.{length, get_or, set, take, drop, length-append, length-take, take-append-drop, drop_of_length-le}
use lib.Seq.{append_snoc, set_split, take-suc, take_all, take_at, drop-append-add, drop-drop}
use Rattle.refusal.specs.Places.{overlay}
use Rattle.output.specs.Put.{Put}

pub put-none : (out : List ℕ) (at : ℕ) → Put out at [] at out
put-none out at = record { ends = omega arith; left = sym (simp (append-nil, take-append-drop)) }

pub put_byte : (out : List ℕ) (at b : ℕ) → at < length out → Put out at (b ∷ []) (at + 1) (set out at b)
put_byte out at b h =
    record {
      ends = refl;
      left = set_split out at b h ∙ rw (add-one, append_snoc);
    }

-- ---- what stands before the end of a put text, and past it

module _ {a b s : List ℕ} {i j : ℕ} (p : Put a i s j b) where
  abbrev front : List ℕ
  front = take i a ++ s

  -- where it begins past the buffer's end, nothing follows it
  past : length a < i → b ≡ front
  past h =
      let short : length a ≤ j = omega (arith, p.ends) in
      let out : drop j a ≡ [] = drop_of_length-le a short in
      p.left ∙ ap (λ (l : List ℕ). front ++ l) out ∙ append-nil front

  front_length : length front ≡ length (take i a) + length s
  front_length = length-append (take i a) s

  -- up to its end stand what stood before it and the text
  pub put_front : take j b ≡ front
  put_front = go (dec_lt (length a) i)
    where
      go : Dec (length a < i) → take j b ≡ front
      go (yes h) = ap (take j) (past h) ∙ take_all j front (omega (arith, front_length, length-take i a, p.ends))
      go (no h) =
          let long : length front ≡ j = omega (arith, h, front_length, length-take i a, p.ends) in
          ap (take j) p.left ∙ take_at front (drop j a) j long

  -- past its end nothing has changed
  pub put_rest : (n : ℕ) → drop (j + n) b ≡ drop (j + n) a
  put_rest n = go (dec_lt (length a) i)
    where
      go : Dec (length a < i) → drop (j + n) b ≡ drop (j + n) a
      go (yes h) =
          let short : length a ≤ j + n = omega (arith, p.ends) in
          let all : length front ≤ j + n = omega (arith, front_length, length-take i a, p.ends) in
          ap (drop (j + n)) (past h) ∙ drop_of_length-le front all ∙ sym (drop_of_length-le a short)
      go (no h) =
          let long : length front ≡ j = omega (arith, h, front_length, length-take i a, p.ends) in
          ap (drop (j + n)) p.left ∙ ap (λ (k : ℕ). drop (k + n) (front ++ drop j a)) (sym long)
          ∙ drop-append-add front (drop j a) n ∙ drop-drop n j a

-- two pieces put one after the other are their text put as one
pub put_on : {a b c s t : List ℕ} {i j k : ℕ} → Put a i s j b → Put b j t k c → Put a i (s ++ t) k c
put_on {a = a} {b = b} {s = s} {t = t} {i = i} {j = j} {k = k} p q =
    let rest : drop k b ≡ drop k a = rw q.ends (put_rest p (length t)) in
    record {
      ends = omega (arith, p.ends, q.ends, length-append s t);
      left =
          q.left ∙ ap₂ (λ (front after : List ℕ). front ++ t ++ after) (put_front p) rest
          ∙ ap (λ (l : List ℕ). l ++ drop k a) (append_assoc (take i a) s t);
    }

-- the same text under another name
pub put_as : {a b s t : List ℕ} {i j : ℕ} → s ≡ t → Put a i s j b → Put a i t j b
put_as {a = a} {b = b} {i = i} {j = j} e p = subst (λ (x : List ℕ). Put a i x j b) e p

-- ---- a list put element by element

-- The first i of xs are put: `text` gives the text of a list, `one` that of an element.
pub record Along (text : List ℕ → List ℕ) (xs before : List ℕ) (at i end : ℕ) (after : List ℕ) : Type 0 where
  pub put : Put before at (text (take i xs)) end after
  pub some : i ≤ length xs
  pub kept : length after ≡ length before

module _ (text : List ℕ → List ℕ) (one : ℕ → List ℕ) (none : text [] ≡ []) (snoc : (ys : List ℕ) (y : ℕ) → text (ys ++ (y ∷ [])) ≡ text ys ++ one y) where
  pub along-start : (xs out : List ℕ) (at : ℕ) → Along text xs out at 0 at out
  along-start xs out at = record { put = put_as (sym none) (put-none out at); some = omega arith; kept = refl }

  pub along-turn :
      {xs out₀ out out' : List ℕ} {at i end end' : ℕ} → Along text xs out₀ at i end out → i < length xs → Put out end (one (get_or xs i 0)) end' out'
      → length out' ≡ length out → Along text xs out₀ at (i + 1) end' out'
  along-turn {xs = xs} {i = i} a h p k =
      let more : take (i + 1) xs ≡ take i xs ++ (get_or xs i 0 ∷ []) = ap (λ (n : ℕ). take n xs) (add-one i) ∙ take-suc xs i 0 h in
      record {
        put = put_as (sym (ap text more ∙ snoc (take i xs) (get_or xs i 0))) (put_on a.put p);
        some = omega arith;
        kept = k ∙ a.kept;
      }

  pub along-end :
      {xs out₀ out : List ℕ} {at i end : ℕ} → Along text xs out₀ at i end out → length xs ≤ i → Put out₀ at (text xs) end out
  along-end {xs = xs} {i = i} a h = put_as (ap text (take_all i xs h)) a.put

-- text put from the front on lies inside the buffer
pub put-inside : {a b s : List ℕ} {j : ℕ} → Put a 0 s j b → (j ≤ length b) × (j ≡ length (take j b))
put-inside {b = b} {s = s} {j = j} p =
    let text : length (take j b) ≡ length s = ap length (put_front p) in
    (omega (arith, length-take j b, text, p.ends), omega (arith, text, p.ends))

-- and stands over the buffer's first places
pub put-over : {a b s : List ℕ} {j : ℕ} → Put a 0 s j b → (j ≡ length s) × (b ≡ overlay s a)
put-over {a = a} {s = s} {j = j} p =
    let long : j ≡ length s = omega (arith, p.ends) in
    (long, p.left ∙ ap (λ (k : ℕ). s ++ drop k a) long)
