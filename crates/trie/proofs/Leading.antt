-- A table of where each byte leads, filled from the last edge to the first. A place that is written last holds the edge nearest
-- to the front, which is the one that a search finds. Assumes nothing.
use Rattle.std.specs.Prelude.{None, Some}
use mathlib.Core.Path.{◌≡◌, refl, sym, ap, ◌∙◌}
use mathlib.Core.Bool.{Bool, true, false, cond}
use mathlib.Core.List.{List}
use Prim.Native.Nat.{ℕ, suc, ◌+◌, ◌-◌, ◌≤◌, ◌<◌}
use native.Mathlib.Omega.{arith}
use borrow.Author.Tests.{ne_eqb, eqb-true, eqb-false}
use lib.Dec.{eqb}
use lib.ListN.{length, get_or, set, replicate, get_or-replicate}
use lib.Seq.{get_or-set_same, get_or-set_other}
use Rattle.refusal.specs.Sizes.{no_id}
use Rattle.trie.specs.Trie.{Trie, seek, step}
use Rattle.trie.specs.Walks.{Stands, Leads, marked}
use Rattle.trie.proofs.Seeking.{seek-over, seek-here, seek-later}
use Rattle.trie.proofs.SoundParts.{sound-of}

module _ (bytes tos : List ℕ) where
  -- each byte leads where a search among the n edges from `at` on says
  abbrev pub Led : List ℕ → ℕ → ℕ → Type 0
  Led first at n = (b : ℕ) → b < 256 → marked (get_or first b no_id) ≡ seek bytes tos b at n

  -- marks alone lead nowhere
  pub led-nowhere : (first : List ℕ) (at n : ℕ) → first ≡ replicate 256 no_id → n ≡ 0 → Led first at n
  led-nowhere first at n e z b l =
      ap (λ (xs : List ℕ). marked (get_or xs b no_id)) e ∙ ap marked (get_or-replicate 256 b no_id no_id l)
      ∙ sym (seek-over bytes tos b at n z)

  -- one edge more in front
  pub led-more :
      (first : List ℕ) (at n : ℕ) → length first ≡ 256 → get_or bytes at 0 < 256 → get_or tos at 0 < no_id
      → Led first (suc at) n
      → Led (set first (get_or bytes at 0) (get_or tos at 0)) at (suc n)
  led-more first at n places byte node led b l = go (eqb (get_or bytes at 0) b) refl
    where
      x : ℕ
      x = get_or bytes at 0

      t : ℕ
      t = get_or tos at 0

      go :
          (same : Bool) → eqb (get_or bytes at 0) b ≡ same
          → marked (get_or (set first x t) b no_id) ≡ seek bytes tos b at (suc n)
      go true e =
          let here : x ≡ b = eqb-true (get_or bytes at 0) b e in
          ap (λ (k : ℕ). marked (get_or (set first x t) k no_id)) (sym here)
          ∙ ap marked (get_or-set_same first x t no_id (omega (arith, places, byte)))
          ∙ ap (λ (same : Bool). cond same None (Some t)) (ne_eqb t no_id (λ u. omega (arith, u, node)))
          ∙ sym (seek-here bytes tos b at n here)
      go false e =
          ap marked (get_or-set_other first x b t no_id (λ same. eqb-false (get_or bytes at 0) b e (sym same)))
          ∙ led b l
          ∙ sym (seek-later bytes tos b at n (eqb-false (get_or bytes at 0) b e))

-- the turn of a loop over the root's edges that has i of them before it, and those behind them in the table
pub led-turn :
    (t : Trie) (first : List ℕ) (i : ℕ) → Stands t 0 → 0 < i → i ≤ get_or t.edge_n 0 0 → length first ≡ 256 →
    let k = get_or t.edge_at 0 0 + (i - 1) in
    get_or t.byte k 0 < 256 → Led t.byte t.to first (get_or t.edge_at 0 0 + i) (get_or t.edge_n 0 0 - i)
    → Led t.byte t.to (set first (get_or t.byte k 0) (get_or t.to k 0)) k (get_or t.edge_n 0 0 - (i - 1))
led-turn t first i s some_left below places byte led =
    let k : ℕ = get_or t.edge_at 0 0 + (i - 1) in
    let facts = sound-of _ s.parts in
    let next : suc k ≡ get_or t.edge_at 0 0 + i = omega arith in
    let more : get_or t.edge_n 0 0 - (i - 1) ≡ suc (get_or t.edge_n 0 0 - i) = omega arith in
    let target = facts.target k (omega (arith, facts.inside 0 s.inside)) in
    rw more
    (led-more t.byte t.to first k (get_or t.edge_n 0 0 - i) places byte (omega (arith, target, facts.few)) (rw next led))

-- the table when no edge is before it
pub led-all :
    (t : Trie) (first : List ℕ) (i : ℕ) → length first ≡ 256 → i ≤ 0
    → Led t.byte t.to first (get_or t.edge_at 0 0 + i) (get_or t.edge_n 0 0 - i)
    → Leads t first
unfolding step
led-all t first i places none led =
    let at : get_or t.edge_at 0 0 + i ≡ get_or t.edge_at 0 0 = omega arith in
    let n : get_or t.edge_n 0 0 - i ≡ get_or t.edge_n 0 0 = omega arith in
    record { places = places; led = rw (at, n) at led }
