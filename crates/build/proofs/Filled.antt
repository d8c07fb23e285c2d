-- The columns at the end: what stands in front is what was laid out, and what was zero behind it still is. Assumes nothing.
use Rattle.std.specs.Prelude.{unwrap_or, Option, Some, None, ℕ}
use mathlib.Core.Path.{◌≡◌, refl, sym, ap, ap₂, ◌∙◌, subst}
use mathlib.Core.Bool.{Bool, cond, true, false}
use mathlib.Core.List.{List, [], ◌∷◌, ◌++◌, map}
use Prim.Native.Nat.{ℕ, zero, suc, ◌+◌, ◌-◌, ◌≤◌, ◌<◌}
use native.Mathlib.Omega.{arith}
use native.Mathlib.Decide.{dec_lt}
use borrow.Author.Tests.{lt-ltb, le-ltb}
use lib.Dec.{ltb}
use lib.ListN.{length, get_or, drop, replicate, length-append, length-map, length-replicate, get_or-append}
use lib.Seq.{sets, sets-eq, get_or-append-add, ext_get_or}
use Rattle.refusal.specs.Sizes.{no_id}
use Rattle.refusal.specs.Places.{zeroed, filled}
use Rattle.rows.specs.declared.Kind.{Kind}
use Rattle.rows.specs.Rows.{Row}
use Rattle.build.specs.Names.{names}
use Rattle.build.specs.Grown.{Grown}
use Rattle.build.specs.Parts.{edges_of, starts, lay, trie_of}
use Rattle.build.specs.Rules.{tokens_of}
use Rattle.build.specs.Given.{rules_from, no_rule}
use Rattle.build.specs.Held.{ZeroFrom, Identified, Held, Stands, RowDone}
use Rattle.build.specs.Laying.{bytes_of, targets_of, AllReady}
use Rattle.build.specs.Memory.{Memory, memory, cleared, holding}
use Rattle.build.specs.Promise.{trie_in}
use Rattle.build.specs.Checked.{room_of, nodes_of, BuiltOf, Finishable, Finished}
use Rattle.build.proofs.Grown.{List², grown-distinct, grown-some}
use Rattle.build.proofs.Laid.{get_or-map-of, length-starts}
use Rattle.build.proofs.Counted.{count-names}
use Rattle.build.proofs.Zeros.{get_or-zeros, zero-from, length-zeroed}
use Rattle.build.proofs.Rooms.{room_for}
use Rattle.build.proofs.Out.{all_edges, counts_of, Written}
use Rattle.build.proofs.Ruled.{trie-given}

-- ---- zeros

drop-zeros : (l : List ℕ) (j : ℕ) → ZeroFrom j l → drop j l ≡ replicate (length l - j) 0
drop-zeros [] zero h = let e : 0 - 0 ≡ 0 = omega arith in ap (λ (k : ℕ). replicate k 0) (sym e)
drop-zeros [] (suc j) h = let e : 0 - suc j ≡ 0 = omega arith in ap (λ (k : ℕ). replicate k 0) (sym e)
drop-zeros (x ∷ l) zero h =
    let first : x ≡ 0 = h 0 (omega arith) in
    let e : suc (length l) - 0 ≡ suc (length l - 0) = omega arith in
    ap {B = List ℕ} (λ y. y ∷ l) first ∙ ap {B = List ℕ} (λ r. 0 ∷ r) (drop-zeros l 0 (λ k p. h (suc k) (omega arith)))
    ∙ ap (λ (k : ℕ). replicate k 0) (sym e)
drop-zeros (x ∷ l) (suc j) h =
    let e : length l - j ≡ suc (length l) - suc j = omega arith in
    drop-zeros l j (λ k p. h (suc k) (omega arith)) ∙ ap (λ (k : ℕ). replicate k 0) e

-- values stored from the front, with zeros behind them
pub filled-sets :
    (vs l m : List ℕ) → length l ≡ length m → length vs ≤ length l → ZeroFrom (length vs) l → sets l 0 vs ≡ filled 0 vs m
filled-sets vs l m e h z =
    let p : 0 + length vs ≡ length vs = omega arith in
    sets-eq vs l 0 (omega arith) ∙ ap (λ (k : ℕ). vs ++ drop k l) p ∙ ap (λ (r : List ℕ). vs ++ r) (drop-zeros l (length vs) z)
    ∙ ap (λ (k : ℕ). vs ++ replicate (k - length vs) 0) e

pub filled-same : (vs l m : List ℕ) → length l ≡ length m → filled 0 vs l ≡ filled 0 vs m
filled-same vs l m e = ap (λ (k : ℕ). vs ++ replicate (k - length vs) 0) e

pub zeroed-same : (l m : List ℕ) → length l ≡ length m → zeroed 0 l ≡ zeroed 0 m
zeroed-same l m e = ap (λ (k : ℕ). replicate k 0) e

-- ---- the nodes may be laid out in columns made zero

pub ready-again :
    {edge_at edge_n byte to work : List ℕ} {n : ℕ} {edge_at' byte' to' : List ℕ} → AllReady edge_at edge_n byte to work n
    → edge_at' ≡ zeroed 0 edge_at → byte' ≡ zeroed 0 byte → to' ≡ zeroed 0 to → AllReady edge_at' edge_n byte' to' work n
ready-again {edge_at = edge_at} {byte = byte} {to = to} {edge_at' = edge_at'} {byte' = byte'} {to' = to'} r p q s =
    record {
      names = r.names;
      links = r.links;
      bytes = r.bytes;
      count = r.count;
      small = r.small;
      room_at = omega (arith, length-zeroed edge_at edge_at' p, r.room_at);
      room-byte = omega (arith, length-zeroed byte byte' q, r.room-byte);
      room-to = omega (arith, length-zeroed to to' s, r.room-to);
    }

-- ---- the id column

module _ (ns : List²) (g : Grown ns) (rule : List ℕ → Option ℕ) (id before : List ℕ) (h : Identified ns rule id)
    (same : length id ≡ length before) where
  abbrev marks : List ℕ
  marks = map (λ s. unwrap_or (rule s) no_id) ns

  length-marks : length marks ≡ length ns
  length-marks = length-map ns (λ s. unwrap_or (rule s) no_id)

  length-filled : length (filled 0 marks before) ≡ length id
  length-filled =
      omega (
        arith,
        length-append marks (replicate (length before - length marks) 0),
        length-replicate {A = ℕ} (length before - length marks) 0,
        length-marks,
        h.room,
      )

  pub ids-filled : id ≡ filled 0 marks before
  ids-filled = ext_get_or 0 id (filled 0 marks before) (sym length-filled) (λ i p. go i p (dec_lt i (length ns)))
    where
      go : (i : ℕ) → i < length id → Dec (i < length ns) → get_or id i 0 ≡ get_or (filled 0 marks before) i 0
      go i p (yes q) =
          h.ids (get_or ns i []) i (grown-distinct g i q)
          ∙ sym (get_or-map-of (λ s. unwrap_or (rule s) no_id) ns i [] 0 q)
          ∙ sym (get_or-append marks (replicate (length before - length marks) 0) 0 i (omega (arith, length-marks)))
      go i p (no q) =
          let z : length marks + (i - length marks) ≡ i = omega (arith, length-marks) in
          h.past i (omega arith)
          ∙ sym (get_or-zeros (length before - length marks) (i - length marks))
          ∙ sym (get_or-append-add marks (replicate (length before - length marks) 0) (i - length marks) 0)
          ∙ ap (λ (k : ℕ). get_or (filled 0 marks before) k 0) z

-- ---- the nodes laid out

module _ {ns : List²} {rule : List ℕ → Option ℕ} {edge_at edge_n id byte to work : List ℕ} {n : ℕ}
    (h : Held ns rule edge_n id work)
    (count : n ≡ length ns) (r : AllReady edge_at edge_n byte to work n) where
  abbrev grown : Grown ns
  grown = h.links.grown

  length-counts : length (counts_of ns ns) ≡ length ns
  length-counts = length-map (map (edges_of ns) ns) length ∙ length-map ns (edges_of ns)

  length-begun : length (starts 0 (counts_of ns ns)) ≡ length ns
  length-begun = length-starts (counts_of ns ns) 0 ∙ length-counts

  few_bytes : length (bytes_of (all_edges ns ns)) ≡ length ns - 1
  few_bytes = length-map (all_edges ns ns) (λ e. e.byte) ∙ count-names grown

  few-targets : length (targets_of (all_edges ns ns)) ≡ length ns - 1
  few-targets = length-map (all_edges ns ns) (λ e. e.to) ∙ count-names grown

  pub all_laid :
      {edge_at₁ byte₁ to₁ edge_at' edge_n' byte' to' work' : List ℕ} → edge_at₁ ≡ zeroed 0 edge_at → byte₁ ≡ zeroed 0 byte
      → to₁ ≡ zeroed 0 to → Written ns edge_at₁ edge_n byte₁ to₁ edge_at' edge_n' byte' to' → work' ≡ zeroed 0 work
      → memory edge_at' edge_n' id byte' to' work' ≡ holding (lay rule ns) [] (memory edge_at edge_n id byte to work)
  unfolding holding lay
  all_laid {edge_at₁ = edge_at₁} {byte₁ = byte₁} {to₁ = to₁} p q s d w =
      let begun =
      d.begun
      ∙ filled-sets (starts 0 (counts_of ns ns)) edge_at₁ edge_at (length-zeroed edge_at edge_at₁ p)
      (omega (arith, length-begun, length-zeroed edge_at edge_at₁ p, r.room_at))
      (zero-from edge_at edge_at₁ (length (starts 0 (counts_of ns ns))) p) in
      let counted =
      d.counted
      ∙ filled-sets (counts_of ns ns) edge_n edge_n refl (omega (arith, length-counts, h.bytes.room))
      (λ k l. h.past k (omega (arith, length-counts))) in
      let written =
      d.written
      ∙ filled-sets (bytes_of (all_edges ns ns)) byte₁ byte (length-zeroed byte byte₁ q)
      (omega (arith, few_bytes, grown-some grown, length-zeroed byte byte₁ q, r.room-byte))
      (zero-from byte byte₁ (length (bytes_of (all_edges ns ns))) q) in
      let led =
      d.led
      ∙ filled-sets (targets_of (all_edges ns ns)) to₁ to (length-zeroed to to₁ s)
      (omega (arith, few-targets, grown-some grown, length-zeroed to to₁ s, r.room-to))
      (zero-from to to₁ (length (targets_of (all_edges ns ns))) s) in
      λ i. memory (begun i) (counted i) (ids-filled ns grown rule id id h.marks refl i) (written i) (led i) (w i)

-- ---- the build

module _ {edge_at edge_n id byte to work : List ℕ} where
  pub finish-ready :
      {made : Option ℕ} {n : ℕ} → Finishable (memory edge_at edge_n id byte to work) made → made ≡ Some n
      → AllReady edge_at edge_n byte to work n
  finish-ready {n = n} f e =
      let all : Stands f.nodes f.rule f.room edge_n id work n =
      subst (RowDone f.nodes f.rule f.room edge_n id work) e f.done in
      let every = room_for (memory edge_at edge_n id byte to work) f.room f.roomy in
      record {
        names = f.nodes;
        links = all.held.links;
        bytes = all.held.bytes;
        count = all.count;
        small = omega (arith, all.fits, every.roomy.small);
        room_at = omega (arith, all.fits, every.starts);
        room-byte = omega (arith, all.fits, every.bytes);
        room-to = omega (arith, all.fits, every.targets);
      }

module _ (kind : Kind) (tab : List ℕ) (rows : List Row) (room : ℕ) (before : Memory) where
  abbrev ns : List²
  ns = names (tokens_of tab rows)

  abbrev rule : List ℕ → Option ℕ
  rule = rules_from kind tab no_rule 0 rows

  -- what is left, by the test of the room
  left-by : {t : Bool} {after : Memory} → ltb room (length ns) ≡ t
      → after ≡ cond t (cleared before) (holding (trie_in kind tab rows) [] before)
      → after ≡ cond (ltb room (length ns)) (cleared before) (holding (trie_in kind tab rows) [] before)
  left-by e p = p ∙ sym (ap (λ (t : Bool). cond t (cleared before) (holding (trie_in kind tab rows) [] before)) e)

  pub built-full : {after : Memory} → room < length ns → after ≡ cleared before → BuiltOf kind tab rows room before after None
  built-full h e =
      let full : ltb room (length ns) ≡ true = lt-ltb room (length ns) h in
      record { answered = rw full; left = left-by full e }

  pub built-done :
      {after : Memory} {edge_n id work : List ℕ} {n : ℕ} → Stands ns rule room edge_n id work n
      → after ≡ holding (lay rule ns) [] before → BuiltOf kind tab rows room before after (Some n)
  unfolding trie_of
  built-done all e =
      let fits : ltb room (length ns) ≡ false = le-ltb room (length ns) (omega (arith, all.count, all.fits)) in
      record {
        answered = ap Some all.count ∙ sym (ap (λ (t : Bool). cond t None (Some (length ns))) fits);
        left = left-by fits (e ∙ ap (λ t. holding t [] before) (trie-given kind tab rows));
      }

-- ---- the build once the rows are entered: it leaves the same in other columns of the same lengths

pub entered-ready :
    {edge_at byte to edge_n id work : List ℕ} {made : Option ℕ} (ns : List²) (rule : List ℕ → Option ℕ) (room : ℕ)
    (edge_n₀ id₀ work₀ : List ℕ) → RowDone ns rule room edge_n id work made
    → room ≤ room_of (memory edge_at edge_n₀ id₀ byte to work₀)
    → length edge_n ≡ length edge_n₀ → length id ≡ length id₀ → length work ≡ length work₀
    → Finishable (memory edge_at edge_n id byte to work) made
entered-ready ns rule room edge_n₀ id₀ work₀ d r kn ki kw =
    record { nodes = ns; rule = rule; room = room; done = d; roomy = rw (kn, ki, kw) r }

module _ {edge_at edge_n₀ id₀ byte to work₀ edge_n id work : List ℕ} {made : Option ℕ} where
  pub entered-built :
      {after : Memory} {answer : Option ℕ} (kind : Kind) (tab : List ℕ) (rows : List Row) (room : ℕ)
      → RowDone (names (tokens_of tab rows)) (rules_from kind tab no_rule 0 rows) room edge_n id work made
      → Finished (memory edge_at edge_n id byte to work) after made answer
      → length edge_n ≡ length edge_n₀ → length id ≡ length id₀ → length work ≡ length work₀
      → BuiltOf kind tab rows room (memory edge_at edge_n₀ id₀ byte to work₀) after answer
  unfolding cleared holding
  entered-built kind tab rows room d f kn ki kw =
      let b = f.built kind tab rows room d in
      let t = trie_in kind tab rows in
      record {
        answered = b.answered;
        left = b.left ∙ ap₂ (cond (ltb room (nodes_of tab rows)))
            (λ i.
            memory (zeroed 0 edge_at) (zeroed-same edge_n edge_n₀ kn i) (zeroed-same id id₀ ki i) (zeroed 0 byte) (zeroed 0 to)
            (zeroed-same work work₀ kw i))
            (λ i.
            memory (filled 0 t.edge_at edge_at) (filled-same t.edge_n edge_n edge_n₀ kn i) (filled-same t.id id id₀ ki i)
            (filled 0 t.byte byte) (filled 0 t.to to) (zeroed-same work work₀ kw i));
      }
