-- The work at one boundary. A walk from it offers each string with an id at its end, byte by byte: what the walk has come to
-- says which string that is, and where it stops no longer one has an id (`offered-all`). With the one character that has none,
-- that is every piece (`worked-all`), so the slots hold the records of one start more. Assumes nothing.
use Rattle.std.specs.Prelude.{Option, None, Some, option_to_list, is_some}
use mathlib.Core.Path.{◌≡◌, refl, sym, ap, subst, ◌∙◌}
use mathlib.Core.Bool.{Bool, true, false, ◌&&◌, ◌||◌}
use mathlib.Core.List.{List, [], ◌∷◌, ◌++◌}
use mathlib.Core.Logic.{◌⊎◌, inl, inr, ⊎_elim}
use Prim.Native.Nat.{ℕ, suc, ◌+◌, ◌-◌, ◌≤◌, ◌<◌}
use native.Mathlib.Omega.{arith}
use borrow.Author.Tests.{eq-eqb, ne_eqb, lt-ltb, le-ltb, lt-leb, le-leb}
use lib.Dec.{eqb, ltb, leb}
use lib.Ieee.{Float}
use lib.ListN.{length, get_or, take, drop, length-drop}
use lib.Seq.{take-suc, get_or-drop, take-add}
use Rattle.std.proofs.lemmas.Bool.Decides.{nat_tests}
use Rattle.doubles.specs.Double.{Double, plus_zero, sum, is_number}
use Rattle.doubles.proofs.Sums.{sum_number}
use Rattle.text.specs.Text.{well_formed, boundary, next, part}
use Rattle.text.proofs.Boundaries.{boundary-le, next-above, next-inside, next-boundary, next-first}
use Rattle.trie.specs.Trie.{step, walk, id_at}
use Rattle.trie.proofs.Every.{both, fails}
use Rattle.trie.specs.Walks.{Stands}
use Rattle.trie.proofs.SoundParts.{sound-of, scored-of}
use Rattle.trie.proofs.Walking.{walk-snoc, walk-append-none, walk-nil, step-inside, walk_inside, id_there}
use Rattle.cutting.specs.Cuttings.{Piece, Slot, nth}
use Rattle.cutting.specs.Records.{candidate}
use Rattle.unigram.specs.Pieces.{Model, piece_at, known, piece_of, rule}
use Rattle.cutting.specs.Slots.{Slots, slot_at, PutAt, taken, after_offer}
use Rattle.cutting.specs.Law.{Holds}
use Rattle.unigram.specs.Work.{ends_here, Ended, known_to, Walkable, KnownOffered, Ready, Come, Recorded}
use Rattle.refusal.specs.Refusal.{first}
use Rattle.refusal.proofs.Lists.{true-false, below_or}
use Rattle.cutting.proofs.Working.{Pieces, stands_at, looked}
use Rattle.cutting.proofs.Best.{is_true, stands-counts, same-slot}
use Rattle.cutting.proofs.Holding.{after_offers, AllOffered, stands-held, offered-past, holds_more, holds-jumped, recorded}
use Rattle.unigram.proofs.Given.{piece_here, given, boundary-stands, starts-on, piece-between, between}
use Rattle.cutting.proofs.Columns.{put_as, put_back, Filled, filled_of, filled_more, filled-below, filled-above}

-- ---- the piece that a node ends

module _ (m : Model) (k : ℕ) where
  pub piece_is :
      {o : Option ℕ} → id_at m.trie k ≡ o
      → piece_at m k ≡ elim o [ None ↦ None | Some i ↦ Some (record { id = i; score = get_or m.score k plus_zero }) ]
  unfolding piece_at
  piece_is e = rw (e, piece_at)

  pub ends_is :
      (s : List ℕ) (i : ℕ) {t : Bool} → boundary s i ≡ t → ends_here m s k i ≡ elim t [ true ↦ piece_at m k | false ↦ None ]
  unfolding ends_here
  ends_is s i e = rw (e, ends_here)

or_nothing : (a b : Bool) → a ≡ (a || (b && false))
or_nothing true b = refl
or_nothing false true = refl
or_nothing false false = refl

or-that : (a b : Bool) → (a || b) ≡ (a || (b && true))
or-that true b = refl
or-that false true = refl
or-that false false = refl

module _ {m : Model} {s : List ℕ} {node i one : ℕ} {single : Bool} {at : ℕ} {x : Double} {b : Slots} where
  -- no piece ends here
  ended-none : ends_here m s node i ≡ None → Ended m s node i one single at x b b single
  unfolding after_offer
  ended-none e = record { put = put_back b i (rw e); seen = rw e (or_nothing single (eqb i one)) }

  -- the position is no boundary, or the node has no id
  pub ended-inside : boundary s i ≡ false → Ended m s node i one single at x b b single
  ended-inside e = ended-none (ends_is m node s i e)

  pub ended_nameless : boundary s i ≡ true → id_at m.trie node ≡ None → Ended m s node i one single at x b b single
  ended_nameless e h = ended-none (ends_is m node s i e ∙ piece_is m node h)

  -- a piece does, and is offered
  pub ended_some :
      {q : Slot} {a : Slots} {r : Bool} → boundary s i ≡ true → id_at m.trie node ≡ Some q.id → q.start ≡ at
      → q.score ≡ sum x (get_or m.score node plus_zero)
      → PutAt b i (taken (slot_at b i) q) a → r ≡ (single || eqb i one)
      → Ended m s node i one single at x b a r
  unfolding after_offer candidate
  ended_some {q} e h start score put seen =
      let p : Piece = record { id = q.id; score = get_or m.score node plus_zero } in
      let ends : ends_here m s node i ≡ Some p = ends_is m node s i e ∙ piece_is m node h in
      record {
        put = put_as put (rw ends (ap (taken (slot_at b i)) (same-slot q (candidate x at p) start refl score)));
        seen = rw ends (seen ∙ or-that single (eqb i one));
      }

-- ---- the string that a walk from `at` has come to

known_is :
    (m : Model) (s : List ℕ) {o : Option ℕ} → walk m.trie 0 s ≡ o → known m s ≡ elim o [ None ↦ None | Some k ↦ piece_at m k ]
unfolding known
known_is m s e = rw (e, known)

module _ (m : Model) (s : List ℕ) (at : ℕ) where
  pub known_on : (j : ℕ) → at < j → boundary s j ≡ true → known_to m s at j ≡ known m (part s at j)
  unfolding known_to
  known_on j l e = rw (both (lt-ltb at j l) e, known_to)

  pub known-off : (j : ℕ) → boundary s j ≡ false → known_to m s at j ≡ None
  unfolding known_to
  known-off j e = rw (fails (ltb at j) (boundary s j) e, known_to)

  pub known-back : (j : ℕ) → j ≤ at → known_to m s at j ≡ None
  unfolding known_to
  known-back j l = rw (le-ltb at j l, known_to)

  -- no string passes the end
  pub known_past : (j : ℕ) → length s < j → known_to m s at j ≡ None
  known_past j l = by-test (boundary s j) refl
    where
      by-test : (t : Bool) → boundary s j ≡ t → known_to m s at j ≡ None
      by-test true e = absurd (let h : j ≤ length s = boundary-le s j e in omega arith)
      by-test false e = known-off j e

  -- nor one where the walk has stopped
  pub known-stopped : (j : ℕ) → (at < j → walk m.trie 0 (part s at j) ≡ None) → known_to m s at j ≡ None
  known-stopped j none-there =
      ⊎_elim (λ (l : at < j). by-test l (boundary s j) refl) (λ (l : j ≤ at). known-back j l) (below_or at j)
    where
      by-test : at < j → (t : Bool) → boundary s j ≡ t → known_to m s at j ≡ None
      by-test l true e = known_on j l e ∙ known_is m (part s at j) (none-there l)
      by-test l false e = known-off j e

  -- what ends at the walk's node is the string so far
  pub ends-known : (i k : ℕ) → at < i → walk m.trie 0 (part s at i) ≡ Some k → ends_here m s k i ≡ known_to m s at i
  ends-known i k l w = by-test (boundary s i) refl
    where
      by-test : (t : Bool) → boundary s i ≡ t → ends_here m s k i ≡ known_to m s at i
      by-test true e = ends_is m k s i e ∙ sym (known_on i l e ∙ known_is m (part s at i) w)
      by-test false e = ends_is m k s i e ∙ sym (known-off i e)

  -- one byte more
  part-more : (i : ℕ) → at ≤ i → i < length s → part s at (i + 1) ≡ part s at i ++ (get_or s i 0 ∷ [])
  part-more i l h =
      let e : (i + 1) - at ≡ suc (i - at) = omega arith in
      let there : at + (i - at) ≡ i = omega arith in
      ap (λ (n : ℕ). take n (drop at s)) e
      ∙ take-suc (drop at s) (i - at) 0 (omega (arith, length-drop at s))
      ∙ ap (λ (b : ℕ). part s at i ++ (b ∷ [])) (get_or-drop at s (i - at) 0 ∙ ap (λ (n : ℕ). get_or s n 0) there)

  pub walk-none-yet : walk m.trie 0 (part s at at) ≡ Some 0
  walk-none-yet = let e : at - at ≡ 0 = omega arith in rw e (walk-nil m.trie 0)

  module _ (i k : ℕ) (l : at ≤ i) (h : i < length s) (w : walk m.trie 0 (part s at i) ≡ Some k) where
    stepped : walk m.trie 0 (part s at (i + 1)) ≡ step m.trie k (get_or s i 0)
    stepped = rw (part-more i l h) (walk-snoc m.trie 0 (part s at i) (get_or s i 0) ∙ rw w)

    pub walk-on : (j : ℕ) → step m.trie k (get_or s i 0) ≡ Some j → walk m.trie 0 (part s at (i + 1)) ≡ Some j
    walk-on j e = stepped ∙ e

    -- where the walk stops no longer string has an id
    pub walk-over : step m.trie k (get_or s i 0) ≡ None → (j : ℕ) → i < j → known_to m s at j ≡ None
    walk-over e j p =
        known-stopped j
        (λ q.
        let n = (i + 1) - at in
        let all : n + (j - (i + 1)) ≡ j - at = omega arith in
        ap (λ (u : ℕ). walk m.trie 0 (take u (drop at s))) (sym all)
        ∙ ap (walk m.trie 0) (take-add n (j - (i + 1)) (drop at s))
        ∙ walk-append-none m.trie 0 (part s at (i + 1)) (take (j - (i + 1)) (drop n (drop at s))) (stepped ∙ e))

-- ---- the turns of the walk

-- a test passed at `one`, once the walk has come one byte further
spot : (f : ℕ → Bool) (one i : ℕ) → ((leb one i && f one) || (eqb (i + 1) one && f (i + 1))) ≡ (leb one (i + 1) && f one)
spot f one i = grind (arith, nat_tests)

module _ (m : Model) (s : List ℕ) (at one : ℕ) (x : Double) (b : Slots) where
  -- the slots, and whether a string of one character was seen, once the walk has come to i
  abbrev goal : ℕ → Slot
  goal k = after_offer (known_to m s at k) x at (slot_at b k)

  pub record Offered (i : ℕ) (now : Slots) (single : Bool) : Type 0 where
    pub slots : Filled goal b (i + 1) now
    pub seen : single ≡ (leb one i && is_some (known_to m s at one))

  untouched : (k : ℕ) → known_to m s at k ≡ None → slot_at b k ≡ goal k
  unfolding after_offer
  untouched k e = rw e

  pub offered-none : at < one → Offered at b false
  offered-none l =
      record {
        slots = filled_of (at + 1) b (λ k h. untouched k (known-back m s at k (omega arith))) (λ k h. refl);
        seen = rw (lt-leb one at l);
      }

  pub offered-more :
      {i node : ℕ} {now after : Slots} {single r : Bool} → at ≤ i → walk m.trie 0 (part s at (i + 1)) ≡ Some node
      → Offered i now single → Ended m s node (i + 1) one single at x now after r → Offered (i + 1) after r
  offered-more {i} {node} {now} {after} {single} {r} l w o e =
      record {
        slots =
            filled_more o.slots
            (put_as e.put (rw (ends, filled-above o.slots (i + 1) (omega arith))));
        seen = e.seen ∙ rw (ends, o.seen) (spot (λ k. is_some (known_to m s at k)) one i);
      }
    where
      ends : ends_here m s node (i + 1) ≡ known_to m s at (i + 1)
      ends = ends-known m s at (i + 1) node (omega arith) w

  pub offered-all :
      {i : ℕ} {now : Slots} {single : Bool} → Offered i now single → ((j : ℕ) → i < j → known_to m s at j ≡ None)
      → KnownOffered m s at one x b now single
  offered-all {i} {now} {single} o none-past =
      record {
        slots = λ k.
            ⊎_elim (λ (l : k < i + 1). filled-below o.slots k l)
            (λ (l : i + 1 ≤ k). filled-above o.slots k l ∙ untouched k (none-past k (omega arith))) (below_or k (i + 1));
        seen =
            o.seen
            ∙ ⊎_elim (λ (l : i < one). rw (lt-leb one i l, none-past one l)) (λ (l : one ≤ i). rw (le-leb one i l))
            (below_or i one);
      }

-- The walk has come to `node` at i, and each string that ends by i has been offered. A walk in sound parts stands on a node, so
-- a further step may be made, and where that leads there are an id and a score.
pub record Walked (m : Model) (s : List ℕ) (at one : ℕ) (x : Double) (b : Slots) (i node : ℕ) (now : Slots) (single : Bool) :
    Type 0 where
  pub here : walk m.trie 0 (part s at i) ≡ Some node
  pub offered : Offered m s at one x b i now single

module _ {m : Model} {s : List ℕ} {at one : ℕ} {x : Double} {b : Slots} (able : Walkable m s at one) where
  pub walked-first : Walked m s at one x b at 0 b false
  walked-first = record { here = walk-none-yet m s at; offered = offered-none m s at one x b able.ahead }

  module _ {i node : ℕ} {now : Slots} {single : Bool} (w : Walked m s at one x b i node now single) where
    pub walked-stands : Stands m.trie node
    walked-stands =
        let root = (sound-of m.trie able.parts).some-node in
        record { ids = m.trie.id; parts = able.parts; inside = walk_inside m.trie able.parts 0 (part s at i) root w.here }

    -- at the text's end
    pub walked-all : length s ≤ i → KnownOffered m s at one x b now single
    walked-all l = offered-all m s at one x b w.offered (λ j h. known_past m s at j (omega arith))

    module _ (from : at ≤ i) (below : i < length s) where
      -- where it stops
      pub walked-over : step m.trie node (get_or s i 0) ≡ None → KnownOffered m s at one x b now single
      walked-over e = offered-all m s at one x b w.offered (walk-over m s at i node from below w.here e)

      -- a byte further
      module _ {j : ℕ} (e : step m.trie node (get_or s i 0) ≡ Some j) where
        on : walk m.trie 0 (part s at (i + 1)) ≡ Some j
        on = walk-on m s at i node from below w.here j e

        pub next_there : (j < length m.trie.id) × (j < length m.score)
        next_there =
            let inside = step-inside m.trie able.parts node (get_or s i 0) walked-stands.inside e in
            (id_there m.trie able.parts (part s at (i + 1)) on, omega (arith, inside, able.level-score))

        pub walked-more :
            {after : Slots} {r : Bool} → Ended m s j (i + 1) one single at x now after r
            → Walked m s at one x b (i + 1) j after r
        walked-more p = record { here = on; offered = offered-more m s at one x b from on w.offered p }

-- ---- with the one character that has no id, that is every piece

-- each piece from `at` has been offered
pub record EachOffered (m : Model) (s : List ℕ) (at : ℕ) (x : Double) (before after : Slots) : Type 0 where
  pub slots : (k : ℕ) → slot_at after k ≡ after_offer (piece_of m s at k) x at (slot_at before k)

here-other : (o : Option Piece) (u : Piece) → piece_here o false u ≡ o
unfolding first
here-other None u = refl
here-other (Some p) u = refl

here-one : (o : Option Piece) (u p : Piece) → o ≡ Some p → piece_here o true u ≡ Some p
unfolding first
here-one o u p e = rw e

here-unknown : (o : Option Piece) (u : Piece) → o ≡ None → piece_here o true u ≡ Some u
unfolding first
here-unknown o u e = rw e

is-some : (o : Option Piece) → is_some o ≡ true → (p : Piece) × (o ≡ Some p)
is-some None e = absurd (true-false e refl)
is-some (Some p) e = (p, refl)

is_none : (o : Option Piece) → is_some o ≡ false → o ≡ None
is_none None e = refl
is_none (Some p) e = absurd (true-false refl e)

module _ (m : Model) (s : List ℕ) (at : ℕ) (on : boundary s at ≡ true) where
  absent-piece : (k : ℕ) → ((p : Piece) → piece_of m s at k ≡ Some p → ⊥) → piece_of m s at k ≡ None
  absent-piece k no_such =
      ⊎_elim (λ (e : piece_of m s at k ≡ None). e)
      (λ (w : (p : Piece) × (piece_of m s at k ≡ Some p)). absurd (no_such w.0 w.1)) (looked (piece_of m s at k))

  -- any other length
  pub piece-known : (k : ℕ) → (k ≡ next s at → ⊥) → piece_of m s at k ≡ known_to m s at k
  piece-known k other = by_tests (boundary s k) refl (below_or at k)
    where
      by_tests : (t : Bool) → boundary s k ≡ t → (at < k) ⊎ (k ≤ at) → piece_of m s at k ≡ known_to m s at k
      by_tests true e (inl l) =
          piece-between m s at k l on e
          ∙ rw (ne_eqb k (next s at) other, known_on m s at k l e) (here-other (known m (part s at k)) m.unknown)
      by_tests true e (inr l) =
          absent-piece k (λ p q. let h : at < k = (between m s at k p q).forward in omega arith) ∙ sym (known-back m s at k l)
      by_tests false e w = absent-piece k (λ p q. true-false (between m s at k p q).to e) ∙ sym (known-off m s at k e)

  module _ (well : well_formed s ≡ true) (below : at < length s) where
    one_char : piece_of m s at (next s at) ≡ piece_here (known_to m s at (next s at)) true m.unknown
    one_char =
        let l = next-above s well at on below in
        let e = next-boundary s well at on below in
        piece-between m s at (next s at) l on e
        ∙ rw (eq-eqb (next s at) (next s at) refl, known_on m s at (next s at) l e)

    module _ {x : Double} {before after : Slots} {r : Bool} (o : KnownOffered m s at (next s at) x before after r) where
      at_next : (k : ℕ) → (k ≡ next s at) ⊎ (k ≡ next s at → ⊥)
      at_next k =
          ⊎_elim (λ (l : k < next s at). inr (λ e. omega arith))
          (λ (l : next s at ≤ k).
          ⊎_elim (λ (h : next s at < k). inr (λ e. omega arith)) (λ (h : k ≤ next s at). inl (omega arith))
          (below_or (next s at) k))
          (below_or k (next s at))

      -- a string of one character has an id
      pub all_known : r ≡ true → EachOffered m s at x before after
      all_known e =
          let w = is-some (known_to m s at (next s at)) (sym o.seen ∙ e) in
          let here : piece_of m s at (next s at) ≡ known_to m s at (next s at) =
          one_char ∙ here-one (known_to m s at (next s at)) m.unknown w.0 w.1 ∙ sym w.1
          in
          let each : (k : ℕ) → piece_of m s at k ≡ known_to m s at k =
          λ k. ⊎_elim (λ (h : k ≡ next s at). rw h here) (λ h. piece-known k h) (at_next k)
          in
          record { slots = λ k. rw (each k) (o.slots k) }

      -- none has, and the unknown piece is offered
      pub all-unknown :
          {last : Slots} → r ≡ false
          → PutAt after (next s at) (taken (slot_at after (next s at)) (candidate x at m.unknown)) last
          → EachOffered m s at x before last
      unfolding after_offer
      all-unknown {last} e put =
          let n = next s at in
          let missing : known_to m s at n ≡ None = is_none (known_to m s at n) (sym o.seen ∙ e) in
          let here : piece_of m s at n ≡ Some m.unknown = one_char ∙ here-unknown (known_to m s at n) m.unknown missing in
          let stood : slot_at after n ≡ slot_at before n = rw missing at (o.slots n) in
          let now : slot_at last n ≡ after_offer (piece_of m s at n) x at (slot_at before n) =
          rw here (rw (eq-eqb n n refl, stood) at (put.slots n))
          in
          record {
            slots = λ k.
                ⊎_elim (λ (h : k ≡ n). rw h now)
                (λ h. rw (piece-known k h) ((rw (ne_eqb k n h) at (put.slots k)) ∙ o.slots k))
                (at_next k);
          }

-- ---- the slots hold the records of one start more

-- as a list of at most one
offer-listed :
    (o : Option Piece) (x : Double) (at : ℕ) (r : Slot) → ((p : Piece) → o ≡ Some p → is_number (sum x p.score) ≡ true)
    → after_offer o x at r ≡ after_offers is_number (option_to_list o) x at r
unfolding after_offer after_offers candidate
offer-listed None x at r number = refl
offer-listed (Some p) x at r number = rw (number p refl)

pub worked-all :
    {m : Model} {s : List ℕ} (ready : Ready m s) (at : ℕ) (on : boundary s at ≡ true) (below : at < length s) {r : ℕ}
    {x : Double} {before after : Slots}
    → r ≡ next s at → Holds (rule m s) (length s) at before → x ≡ (slot_at before at).score → EachOffered m s at x before after
    → Recorded m s r before after
unfolding nth
worked-all {m} {s} ready at on below {r} {x} {before} {after} there h e o =
    recorded laws (boundary-stands m s well ready.sound) (sym there) (omega (arith, there, next-inside s well at on below)) held
    (offered-past laws all)
  where
    well : well_formed s ≡ true
    well = ready.well

    laws : Pieces (length s) (rule m s)
    laws = given m s well ready.sound

    stands : stands_at (rule m s) at ≡ Some x
    stands =
        let w = boundary-stands m s well ready.sound at (omega arith) on in
        stands-held laws at before w.0 h (omega arith) w.1 ∙ ap Some (sym e)

    all : AllOffered (rule m s) at x before after
    all =
        record {
          slots = λ k.
              o.slots k
              ∙ offer-listed (piece_of m s at k) x at (slot_at before k)
              (λ p q.
              let finite = laws.finite at k 0 p (ap (λ (u : Option Piece). nth (option_to_list u) 0) q) in
              is_true (is_number (sum x p.score)) (sum_number x p.score (stands-counts laws at x stands) finite));
        }

    held : Holds (rule m s) (length s) (next s at) after
    held =
        holds-jumped laws (next-above s well at on below)
        (λ i j k p a b q. true-false (starts-on m s well ready.sound i j k p q) (next-first s well at on below i a b))
        (holds_more laws (omega arith) (omega (arith, ready.size)) h stands all)

-- what is offered at the boundary that the work has come to
module _
    {m : Model} {s : List ℕ} {at : ℕ} {starts ids : List ℕ} {scores : List Float} {before : Slots}
    (c : Come m s at starts ids scores before)
  where
    -- the next boundary is inside, and a walk may be begun
    module _ {one : ℕ} (there : one ≡ next s at) where
      pub one_inside : one ≤ length s
      one_inside = omega (arith, next-inside s c.ready.well at c.boundary c.below)

      pub walkable : Walkable m s at one
      walkable =
          let facts = scored-of _ _ _ c.ready.sound in
          record {
            parts = facts.parts;
            level-score = facts.level-score;
            inside = omega (arith, c.below);
            ahead = omega (arith, next-above s c.ready.well at c.boundary c.below);
            size = c.ready.size;
          }

    module _
        {one : ℕ} {x : Double} {after : Slots} {r : Bool} (there : one ≡ next s at) (stood : x ≡ (slot_at before at).score)
        (o : KnownOffered m s at one x before after r)
      where
        offered : KnownOffered m s at (next s at) x before after r
        offered = subst (λ (n : ℕ). KnownOffered m s at n x before after r) there o

        done : {last : Slots} → EachOffered m s at x before last → (one ≡ next s at) × Recorded m s one before last
        done e = (there, worked-all c.ready at c.boundary c.below there c.holds stood e)

        pub worked_known : r ≡ true → (one ≡ next s at) × Recorded m s one before after
        worked_known e = done (all_known m s at c.boundary c.ready.well c.below offered e)

        pub worked_unknown :
            {q : Slot} {last : Slots} → r ≡ false → q.start ≡ at → q.id ≡ m.unknown.id → q.score ≡ sum x m.unknown.score
            → PutAt after one (taken (slot_at after one) q) last
            → (one ≡ next s at) × Recorded m s one before last
        unfolding candidate
        worked_unknown {q} {last} e start id score put =
            let p : Slot = candidate x at m.unknown in
            let same : q ≡ p = same-slot q p start id score in
            let at_next = subst (λ (n : ℕ). PutAt after n (taken (slot_at after n) q) last) there put in
            done
            (all-unknown m s at c.boundary c.ready.well c.below offered e
            (put_as at_next (ap (taken (slot_at after (next s at))) same)))
