-- How many nodes fit: the room of the lent columns is enough for n nodes exactly where 7 does not refuse them, and judged rows
-- never need more than a u32 counts. Assumes nothing.
use Rattle.std.specs.Prelude.{None}
use mathlib.Core.Path.{◌≡◌, refl, sym, ap, ◌∙◌}
use mathlib.Core.Bool.{Bool, true, false, ◌||◌}
use mathlib.Core.List.{List, [], ◌∷◌}
use Prim.Native.Nat.{ℕ, ◌+◌, ◌-◌, ◌*◌, ◌≤◌, ◌<◌, min}
use native.Mathlib.Omega.{arith}
use native.Mathlib.Decide.{dec_lt}
use borrow.Author.Tests.{lt-ltb, le-ltb, ltb-false}
use lib.Dec.{ltb}
use lib.ListN.{length, get_or}
use Rattle.refusal.proofs.Lists.{zero_one}
use Rattle.doubles.specs.Double.{Double}
use Rattle.refusal.specs.Sizes.{max_rows, max_token}
use Rattle.rows.specs.declared.Kind.{Kind}
use Rattle.rows.specs.Rows.{Row, first_bad}
use Rattle.rows.proofs.RowFaults.{fine-short, fine-token-length}
use Rattle.refusal.proofs.Tests.{neither-says}
use Rattle.rows.proofs.FirstBad.{none-bad-says}
use Rattle.build.specs.Rules.{tokens_of}
use Rattle.build.specs.Held.{Roomy}
use Rattle.build.specs.Memory.{Memory, with_scores, any_below, no_room, no_scored_room}
use Rattle.build.specs.Checked.{room_of, nodes_of}
use Rattle.build.proofs.Named.{names-are, names-few, bytes-few, entered-grows}
use Rattle.build.proofs.Lookups.{no_row, token-at, length-tokens}

-- ---- the least of all

-- every lent column has room for `room` nodes
pub record RoomFor (room : ℕ) (m : Memory) : Type 0 where
  pub starts : room ≤ length m.parts.edge_at
  pub bytes : room ≤ length m.parts.byte + 1
  pub targets : room ≤ length m.parts.to + 1
  pub roomy : Roomy room m.parts.edge_n m.parts.id m.work

-- what fits fits every column
pub room_for : (m : Memory) (n : ℕ) → n ≤ room_of m → RoomFor n m
room_for m n h =
    record {
      starts = omega (arith, h);
      bytes = omega (arith, h);
      targets = omega (arith, h);
      roomy = record { nodes = omega (arith, h); ids = omega (arith, h); links = omega (arith, h); small = omega (arith, h) };
    }

-- and what fits every column fits
pub for-room : (m : Memory) (n : ℕ) → RoomFor n m → n ≤ room_of m
for-room m n r = omega (arith, r.starts, r.bytes, r.targets, r.roomy.nodes, r.roomy.ids, r.roomy.links, r.roomy.small)

-- ---- 7

fits_all : (m : Memory) (n : ℕ) → RoomFor n m → no_room n m ≡ false
unfolding no_room any_below
fits_all m n r =
    rw (
      le-ltb (length m.parts.edge_at) n r.starts,
      le-ltb (length m.parts.edge_n) n r.roomy.nodes,
      le-ltb (length m.parts.id) n r.roomy.ids,
      le-ltb (length m.parts.byte) (n - 1) (omega (arith, r.bytes)),
      le-ltb (length m.parts.to) (n - 1) (omega (arith, r.targets)),
      le-ltb (length m.work) (2 * n) r.roomy.links,
    )

-- no column below n
none_below : (n a b : ℕ) → (ltb a n || (ltb b n || false)) ≡ false → (n ≤ a) × (n ≤ b)
none_below n a b e =
    let p = neither-says (ltb a n) (ltb b n || false) e in
    (ltb-false a n p.0, ltb-false b n (neither-says (ltb b n) false p.1).0)

all_fit : (m : Memory) (n : ℕ) → 1 ≤ n → n ≤ 4_294_967_295 → no_room n m ≡ false → RoomFor n m
unfolding no_room any_below
all_fit m n some-node small e =
    let nodes = any_below n (length m.parts.edge_at ∷ length m.parts.edge_n ∷ length m.parts.id ∷ []) in
    let edges = any_below (n - 1) (length m.parts.byte ∷ length m.parts.to ∷ []) in
    let work = ltb (length m.work) (2 * n) in
    let p = neither-says (nodes || edges) work e in
    let q = neither-says nodes edges p.0 in
    let s = neither-says (ltb (length m.parts.edge_at) n)
    (ltb (length m.parts.edge_n) n || (ltb (length m.parts.id) n || false)) q.0 in
    let t = none_below n (length m.parts.edge_n) (length m.parts.id) s.1 in
    let u = none_below (n - 1) (length m.parts.byte) (length m.parts.to) q.1 in
    record {
      starts = ltb-false (length m.parts.edge_at) n s.0;
      bytes = omega (arith, u.0);
      targets = omega (arith, u.1);
      roomy = record { nodes = t.0; ids = t.1; links = ltb-false (length m.work) (2 * n) p.1; small = small };
    }

-- "with N nodes needed: fewer than N node, N-1 edge or 2N work places in any lent column"
pub no_room_by : (m : Memory) (n : ℕ) → 1 ≤ n → n ≤ 4_294_967_295 → no_room n m ≡ ltb (room_of m) n
no_room_by m n some-node small = go (no_room n m) refl
  where
    go : (t : Bool) → no_room n m ≡ t → no_room n m ≡ ltb (room_of m) n
    go false e = e ∙ sym (le-ltb (room_of m) n (for-room m n (all_fit m n some-node small e)))
    go true e = e ∙ sym (lt-ltb (room_of m) n (short (dec_lt (room_of m) n)))
      where
        short : Dec (room_of m < n) → room_of m < n
        short (yes h) = h
        short (no h) =
            let z : true ≡ false = sym e ∙ fits_all m n (room_for m n (omega arith)) in
            absurd (zero_one cc)

-- 7 with a score column: the lesser of the two decides
lesser-below : (a b n : ℕ) → (ltb a n || ltb b n) ≡ ltb (min a b) n
lesser-below a b n = go (dec_lt a n) (dec_lt b n)
  where
    go : Dec (a < n) → Dec (b < n) → (ltb a n || ltb b n) ≡ ltb (min a b) n
    go (yes h) d = rw (lt-ltb a n h, lt-ltb (min a b) n (omega arith))
    go (no h) (yes k) = rw (le-ltb a n (omega arith), lt-ltb b n k, lt-ltb (min a b) n (omega arith))
    go (no h) (no k) = rw (le-ltb a n (omega arith), le-ltb b n (omega arith), le-ltb (min a b) n (omega arith))

pub no-scored-room :
    (m : Memory) (n : ℕ) → 1 ≤ n → n ≤ 4_294_967_295 → no_scored_room n m ≡ ltb (min (room_of m) (length m.score)) n
unfolding no_scored_room
no-scored-room m n some-node small =
    ap (λ (t : Bool). t || ltb (length m.score) n) (no_room_by m n some-node small)
    ∙ lesser-below (room_of m) (length m.score) n

-- of a memory with this score column, whose room is that lesser one
module _ (m : Memory) (xs : List Double) {room : ℕ} (e : room ≡ min (room_of m) (length xs)) where
  pub scored-room : room ≤ room_of m
  scored-room = omega (arith, e)

  pub scores-roomy : room ≤ length xs
  scores-roomy = omega (arith, e)

  pub scored-decides : (n : ℕ) → 1 ≤ n → n ≤ 4_294_967_295 → no_scored_room n (with_scores m xs) ≡ ltb room n
  scored-decides n some-node small = no-scored-room (with_scores m xs) n some-node small ∙ ap (λ (k : ℕ). ltb k n) (sym e)

-- ---- how many nodes rows need

pub nodes-some : (tab : List ℕ) (rows : List Row) → 1 ≤ nodes_of tab rows
nodes-some tab rows = omega (arith, ap length (names-are (tokens_of tab rows)), entered-grows (tokens_of tab rows) ([] ∷ []))

-- at most 1,048,576 rows of 1,024 bytes: 1,073,741,825 nodes
pub nodes-few :
    (kind : Kind) (tab : List ℕ) (rows : List Row) → length rows ≤ max_rows → first_bad kind tab 0 rows ≡ None
    → nodes_of tab rows ≤ 1_073_741_825
nodes-few kind tab rows few fine =
    let tokens = tokens_of tab rows in
    let each = bytes-few tokens max_token
    (λ i h.
    let l : i < length rows = omega (arith, length-tokens tab rows) in
    let no-fault = none-bad-says kind tab no_row 0 rows fine i l in
    omega (
      arith,
      ap length (token-at tab rows i l),
      fine-token-length kind tab (get_or rows i no_row) no-fault,
      fine-short kind tab (get_or rows i no_row) no-fault,
    )) in
    omega (arith, names-few tokens, each, length-tokens tab rows)
