-- Ids placed one after another, and the turns of merging in these terms. Assumes nothing.
use Rattle.std.specs.Prelude.{Option, None, Some}
use mathlib.Core.Path.{◌≡◌, refl, sym, ap, subst, ◌∙◌}
use mathlib.Core.Bool.{Bool, true, false, cond}
use mathlib.Core.List.{List, [], ◌∷◌, ◌++◌, append_assoc}
use mathlib.Core.Logic.{⊎_elim}
use Prim.Native.Nat.{ℕ, suc, ◌+◌, ◌-◌, ◌≤◌, ◌<◌}
use native.Mathlib.Nat.{add-zero}
use native.Mathlib.Omega.{arith}
use borrow.Author.Tests.{lt-ltb, le-ltb, eq-eqb, ne_eqb, eqb-true, eqb-false}
use lib.Dec.{eqb, ltb}
use lib.ListN.{length, get_or, take, drop, set, take-append-drop, length-append, drop_of_length-le}
use lib.Seq.{take_at, drop_at, length-take-le, drop-drop, set_at, drop-cons}
use Rattle.refusal.specs.Sizes.{no_id}
use Rattle.refusal.specs.Places.{overlay}
use Rattle.cutting.specs.Cuttings.{Step}
use Rattle.unigram.specs.Runs.{run_id, merged}
use Rattle.cutting.specs.Tracing.{steps_at, Ends, and_then}
use Rattle.unigram.specs.Merge.{run_ids, closing, Placed}
use Rattle.refusal.proofs.Lists.{below_or}
use Rattle.cutting.proofs.Following.{piece-to}
use Rattle.unigram.proofs.Merging.{begun, owed, merged-end, merged-more}

-- ---- places

pub placed-none : (ids : List ℕ) (n : ℕ) → Placed [] ids n ids n
placed-none ids n =
    record {
      ids = sym (ap (λ (k : ℕ). take n ids ++ drop k ids) (add-zero n) ∙ take-append-drop n ids);
      next = sym (add-zero n);
    }

-- what is placed may be called otherwise
pub placed-as : {ws us ids after : List ℕ} {n r : ℕ} → Placed ws ids n after r → ws ≡ us → Placed us ids n after r
placed-as {ids = ids} {after = after} {n = n} {r = r} p e = subst (λ (ws : List ℕ). Placed ws ids n after r) e p

module _ {ws ids after : List ℕ} {n r : ℕ} (p : Placed ws ids n after r) (l : n + length ws ≤ length ids) where
  front-is : length (take n ids ++ ws) ≡ r
  front-is = length-append (take n ids) ws ∙ ap (λ (k : ℕ). k + length ws) (length-take-le n ids (omega arith)) ∙ sym p.next

  split-is : after ≡ (take n ids ++ ws) ++ drop r ids
  split-is =
      p.ids
      ∙ sym (append_assoc (take n ids) ws (drop (n + length ws) ids))
      ∙ ap (λ (k : ℕ). (take n ids ++ ws) ++ drop k ids) (sym p.next)

  -- what stands before the next place, and after it
  pub placed-front : take r after ≡ take n ids ++ ws
  placed-front = ap (take r) split-is ∙ take_at (take n ids ++ ws) (drop r ids) r front-is

  pub placed-rest : drop r after ≡ drop r ids
  placed-rest = ap (drop r) split-is ∙ drop_at (take n ids ++ ws) (drop r ids) r front-is

-- one more after those placed
pub placed-more :
    {ws ids after : List ℕ} {n r : ℕ} (x : ℕ) → n + length ws < length ids → Placed ws ids n after r
    → Placed (ws ++ (x ∷ [])) ids n (set after r x) (r + 1)
placed-more {ws} {ids} {after} {n} {r} x l p =
    let front = take n ids ++ ws in
    let fits : n + length ws ≤ length ids = omega arith in
    let many : n + length (ws ++ (x ∷ [])) ≡ suc r = omega (arith, length-append ws (x ∷ []), p.next) in
    record {
      ids =
          ap (λ (u : List ℕ). set u r x)
          (split-is p fits ∙ ap (λ (u : List ℕ). front ++ u) (drop-cons ids r 0 (omega (arith, p.next))))
          ∙ set_at front (get_or ids r 0) (drop (suc r) ids) x r (front-is p fits)
          ∙ append_assoc (take n ids) ws (x ∷ drop (suc r) ids)
          ∙ ap (λ (u : List ℕ). take n ids ++ u) (sym (append_assoc ws (x ∷ []) (drop (suc r) ids)))
          ∙ ap (λ (k : ℕ). take n ids ++ ((ws ++ (x ∷ [])) ++ drop k ids)) (sym many);
      next = omega (arith, many);
    }

-- the places past n are still those of before, so those past r are
pub rest_more : (a b : List ℕ) (n r : ℕ) → n ≤ r → drop n a ≡ drop n b → drop r a ≡ drop r b
rest_more a b n r l e =
    let there : n + (r - n) ≡ r = omega arith in
    ap (λ (k : ℕ). drop k a) (sym there) ∙ sym (drop-drop (r - n) n a) ∙ ap (drop (r - n)) e ∙ drop-drop (r - n) n b
    ∙ ap (λ (k : ℕ). drop k b) there

-- ---- the turns

-- the run from `run` up to `at`, whose id is still to come: none where the two are one
unfoldable pub run_of : ℕ → ℕ → Option ℕ
run_of run at = cond (ltb run at) (Some run) None

run-there : (run at : ℕ) → run < at → run_of run at ≡ Some run
unfolding run_of
run-there run at l = rw (lt-ltb run at l, run_of)

run_none : (run at : ℕ) → at ≤ run → run_of run at ≡ None
unfolding run_of
run_none run at l = rw (le-ltb run at l, run_of)

module _ (id_of : ℕ → ℕ → Option ℕ) (unknown : ℕ) where
  pub ids-there : (run at : ℕ) → run < at → run_ids id_of unknown run at ≡ run_id id_of unknown run at ∷ []
  unfolding run_ids
  ids-there run at l = rw (lt-ltb run at l, run_ids)

  pub ids-none : (run at : ℕ) → at ≤ run → run_ids id_of unknown run at ≡ []
  unfolding run_ids
  ids-none run at l = rw (le-ltb run at l, run_ids)

  pub closes-not : (run at x : ℕ) → x ≡ unknown → closing id_of unknown run at x ≡ []
  unfolding closing
  closes-not run at x e = rw (eq-eqb x unknown e, closing)

  pub closes : (run at x : ℕ) → (x ≡ unknown → ⊥) → closing id_of unknown run at x ≡ run_ids id_of unknown run at ++ (x ∷ [])
  unfolding closing
  closes run at x e = rw (ne_eqb x unknown e, closing)

  -- the run still to come, and where it begins
  owed-is : (run at : ℕ) → owed id_of unknown (run_of run at) at ≡ run_ids id_of unknown run at
  unfolding run_of run_ids
  owed-is run at = by-test (ltb run at)
    where
      by-test : (t : Bool) → owed id_of unknown (cond t (Some run) None) at ≡ cond t (run_id id_of unknown run at ∷ []) []
      by-test true = refl
      by-test false = refl

  begun-is : (run at : ℕ) → run ≤ at → begun id_of unknown (run_of run at) at ≡ run
  begun-is run at back =
      ⊎_elim (λ (l : run < at). rw (run-there run at l))
      (λ (l : at ≤ run). let one : at ≡ run = omega arith in rw (run_none run at l) one)
      (below_or run at)

  -- at the end
  pub merged-last : (run at : ℕ) → merged id_of unknown (run_of run at) at [] ≡ run_ids id_of unknown run at
  merged-last run at = merged-end id_of unknown (run_of run at) at ∙ owed-is run at

  -- the run after a piece
  abbrev next-run : ℕ → ℕ → ℕ → ℕ
  next-run x run e = cond (eqb x unknown) run e

  module _ (run at e x : ℕ) (es : List Step) (back : run ≤ at) (ahead : at < e) where
    pub merged-turn :
        merged id_of unknown (run_of run at) at (piece-to e x ∷ es)
        ≡ closing id_of unknown run at x ++ merged id_of unknown (run_of (next-run x run e) e) e es
    merged-turn = by-test (eqb x unknown) refl
      where
        by-test :
            (t : Bool) → eqb x unknown ≡ t
            → merged id_of unknown (run_of run at) at (piece-to e x ∷ es)
            ≡ closing id_of unknown run at x ++ merged id_of unknown (run_of (next-run x run e) e) e es
        by-test true h =
            let same : x ≡ unknown = eqb-true x unknown h in
            merged-more id_of unknown (run_of run at) at (piece-to e x) es h
            ∙ ap (λ (i : ℕ). merged id_of unknown (Some i) e es) (begun-is run at back)
            ∙ ap (λ (o : Option ℕ). merged id_of unknown o e es)
            (sym (run-there run e (omega arith)) ∙ ap (λ (t : Bool). run_of (cond t run e) e) (sym h))
            ∙ ap (λ (u : List ℕ). u ++ merged id_of unknown (run_of (next-run x run e) e) e es) (sym (closes-not run at x same))
        by-test false h =
            let other : x ≡ unknown → ⊥ = eqb-false x unknown h in
            merged-more id_of unknown (run_of run at) at (piece-to e x) es h
            ∙ ap (λ (u : List ℕ). u ++ (x ∷ merged id_of unknown None e es)) (owed-is run at)
            ∙ sym (append_assoc (run_ids id_of unknown run at) (x ∷ []) (merged id_of unknown None e es))
            ∙ ap (λ (o : Option ℕ). (run_ids id_of unknown run at ++ (x ∷ [])) ++ merged id_of unknown o e es)
            (sym (run_none e e (omega arith)) ∙ ap (λ (t : Bool). run_of (cond t run e) e) (sym h))
            ∙ ap (λ (u : List ℕ). u ++ merged id_of unknown (run_of (next-run x run e) e) e es) (sym (closes run at x other))

    -- what is waiting and written stays at most one a piece
    pub turn-few :
        (n k : ℕ) → n + length (run_ids id_of unknown run at) ≤ k
        → n + length (closing id_of unknown run at x) + length (run_ids id_of unknown (next-run x run e) e) ≤ k + 1
    turn-few n k l = by-test (eqb x unknown) refl
      where
        by-test :
            (t : Bool) → eqb x unknown ≡ t
            → n + length (closing id_of unknown run at x) + length (run_ids id_of unknown (next-run x run e) e) ≤ k + 1
        by-test true h =
            omega (
              arith,
              ap length (closes-not run at x (eqb-true x unknown h)),
              ap length (ids-there run e (omega arith)),
              ap (λ (t : Bool). length (run_ids id_of unknown (cond t run e) e)) h,
            )
        by-test false h =
            omega (
              arith,
              ap length (closes run at x (eqb-false x unknown h)),
              length-append (run_ids id_of unknown run at) (x ∷ []),
              ap length (ids-none e e (omega arith)),
              ap (λ (t : Bool). length (run_ids id_of unknown (cond t run e) e)) h,
            )

    -- and the next run begins at or before the piece's end
    pub next-back : next-run x run e ≤ e
    next-back = by-test (eqb x unknown)
      where
        by-test : (t : Bool) → cond t run e ≤ e
        by-test true = omega arith
        by-test false = omega arith

    -- what is written has room
    pub closing-few : length (closing id_of unknown run at x) ≤ length (run_ids id_of unknown run at) + 1
    closing-few = by-test (eqb x unknown) refl
      where
        by-test :
            (t : Bool) → eqb x unknown ≡ t → length (closing id_of unknown run at x) ≤ length (run_ids id_of unknown run at) + 1
        by-test true h = omega (arith, ap length (closes-not run at x (eqb-true x unknown h)))
        by-test false h =
            omega (
              arith,
              ap length (closes run at x (eqb-false x unknown h)),
              length-append (run_ids id_of unknown run at) (x ∷ []),
            )

-- ---- the loop over the path

pub ends-cons : {n at e : ℕ} {es : List ℕ} → Ends n at (e ∷ es) → (at < e) × (e ≤ n) × Ends n e es
ends-cons (and_then a b c) = (a, b, c)

-- Merging has come to piece k, which starts at `at`; n ids are written, and the run from `run` is still to come.
pub record Going (id_of : ℕ → ℕ → Option ℕ) (unknown limit : ℕ) (slot_ids path before ids : List ℕ)
    (n run at k : ℕ) : Type 0 where
  pub within : k ≤ length path
  pub back : run ≤ at
  pub inside : at ≤ limit
  pub ends : Ends limit at (drop k path)
  pub few : n + length (run_ids id_of unknown run at) ≤ k
  pub level : length ids ≡ length before
  pub all :
      merged id_of unknown None 0 (steps_at slot_ids path)
      ≡ take n ids ++ merged id_of unknown (run_of run at) at (steps_at slot_ids (drop k path))
  pub rest : drop n ids ≡ drop n before

module _ (id_of : ℕ → ℕ → Option ℕ) (unknown limit : ℕ) (slot_ids path before : List ℕ) where
  pub going-first : Ends limit 0 path → Going id_of unknown limit slot_ids path before before 0 0 0 0
  going-first e =
      record {
        within = omega arith;
        back = omega arith;
        inside = omega arith;
        ends = e;
        few = omega (arith, ap length (ids-none id_of unknown 0 0 (omega arith)));
        level = refl;
        all = ap (λ (o : Option ℕ). merged id_of unknown o 0 (steps_at slot_ids path)) (sym (run_none 0 0 (omega arith)));
        rest = refl;
      }

  module _ {ids : List ℕ} {n run at k : ℕ} (g : Going id_of unknown limit slot_ids path before ids n run at k) where
    -- the piece come to
    pub next-end :
        k < length path → (at < get_or path k 0) × (get_or path k 0 ≤ limit) × Ends limit (get_or path k 0) (drop (suc k) path)
    next-end l = ends-cons (subst (Ends limit at) (drop-cons path k 0 l) g.ends)

    pub going_more :
        {after : List ℕ} {r x : ℕ} → (l : k < length path) → length path ≤ length before
        → x ≡ get_or slot_ids (get_or path k 0) no_id
        → Placed (closing id_of unknown run at x) ids n after r → length after ≡ length ids
        → Going id_of unknown limit slot_ids path before after r (cond (eqb x unknown) run (get_or path k 0)) (get_or path k 0)
        (k + 1)
    going_more {after} {r} {x} l room named p level =
        let e = get_or path k 0 in
        let h = next-end l in
        let es = steps_at slot_ids (drop (suc k) path) in
        let up : k + 1 ≡ suc k = omega arith in
        let fits : n + length (closing id_of unknown run at x) ≤ length ids =
        omega (arith, closing-few id_of unknown run at e x es g.back h.0, g.few, g.level)
        in
        record {
          within = omega arith;
          back = next-back id_of unknown run at e x es g.back h.0;
          inside = h.1;
          ends = subst (λ (j : ℕ). Ends limit e (drop j path)) (sym up) h.2;
          few = omega (arith, turn-few id_of unknown run at e x es g.back h.0 n k g.few, p.next);
          level = level ∙ g.level;
          all =
              g.all
              ∙ ap (λ (u : List ℕ). take n ids ++ merged id_of unknown (run_of run at) at (steps_at slot_ids u))
              (drop-cons path k 0 l)
              ∙ ap (λ (i : ℕ). take n ids ++ merged id_of unknown (run_of run at) at (piece-to e i ∷ es)) (sym named)
              ∙ ap (λ (u : List ℕ). take n ids ++ u) (merged-turn id_of unknown run at e x es g.back h.0)
              ∙ sym (append_assoc (take n ids) (closing id_of unknown run at x)
              (merged id_of unknown (run_of (cond (eqb x unknown) run e) e) e es))
              ∙ ap (λ (u : List ℕ). u ++ merged id_of unknown (run_of (cond (eqb x unknown) run e) e) e es)
              (sym (placed-front p fits))
              ∙ ap
              (λ (j : ℕ).
              take r after ++ merged id_of unknown (run_of (cond (eqb x unknown) run e) e) e (steps_at slot_ids (drop j path)))
              (sym up);
          rest = placed-rest p fits ∙ rest_more ids before n r (omega (arith, p.next)) g.rest;
        }

    -- at the end the run's id has room
    pub end_room : run < at → length path ≤ length before → n < length ids
    end_room l room = omega (arith, g.few, g.level, g.within, ap length (ids-there id_of unknown run at l))

    -- and is written
    pub going_end :
        {after : List ℕ} {r : ℕ} → length path ≤ k → length path ≤ length before
        → Placed (run_ids id_of unknown run at) ids n after r
        → let all = merged id_of unknown None 0 (steps_at slot_ids path) in (r ≡ length all) × (after ≡ overlay all before)
    going_end {after} {r} l room p =
        let fits : n + length (run_ids id_of unknown run at) ≤ length ids =
        omega (arith, g.few, g.level, g.within)
        in
        let total = merged id_of unknown None 0 (steps_at slot_ids path) in
        let whole : total ≡ take n ids ++ run_ids id_of unknown run at =
        g.all
        ∙ ap (λ (u : List ℕ). take n ids ++ merged id_of unknown (run_of run at) at (steps_at slot_ids u))
        (drop_of_length-le path l)
        ∙ ap (λ (u : List ℕ). take n ids ++ u) (merged-last id_of unknown run at)
        in
        let count : r ≡ length total = sym (ap length whole ∙ front-is p fits) in
        let rest : drop r ids ≡ drop r before = rest_more ids before n r (omega (arith, p.next)) g.rest in (
          count,
          split-is p fits
              ∙ ap (λ (u : List ℕ). u ++ drop r ids) (sym whole)
              ∙ ap (λ (u : List ℕ). total ++ u) rest
              ∙ ap (λ (j : ℕ). total ++ drop j before) count,
        )
