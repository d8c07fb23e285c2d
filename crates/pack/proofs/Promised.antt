-- What `build` promises of a fine pack: the room, that of the score column too, decides; and what the core says of the rows is
-- said of the pack. Assumes nothing.
use Rattle.std.specs.Prelude.{Option, None, Some, Err, ℕ, Result, Ok}
use mathlib.Core.Path.{◌≡◌, refl, sym, ap, ◌∙◌, subst}
use mathlib.Core.List.{List, [], map}
use Prim.Native.Nat.{ℕ, ◌-◌, ◌≤◌, min}
use native.Mathlib.Omega.{arith}
use lib.Dec.{ltb}
use lib.Ieee.{Float}
use lib.ListN.{length, take, drop, replicate, length-map}
use Rattle.doubles.specs.Double.{Double, plus_zero}
use Rattle.doubles.specs.Units.{units}
use Rattle.refusal.specs.declared.Fault.TheVariants as fault
use Rattle.refusal.specs.declared.Reason.{Reason}
use Rattle.refusal.specs.declared.Reason.TheVariants as reason
use Rattle.refusal.specs.Places.{filled}
use Rattle.rows.specs.declared.Kind.{Kind}
use Rattle.rows.specs.declared.Kind.TheVariants.{Unigram, WordPiece}
use Rattle.rows.specs.Rows.{Row}
use Rattle.build.specs.Memory.{Memory, with_scores, no_scored_room, holding, zero_scores}
use Rattle.build.specs.Checked.{room_of, BuiltOf}
use Rattle.build.specs.Promise.{trie_in, scores_in, Promised}
use Rattle.build.proofs.Rooms.{RoomFor, room_for, scored-room, scores-roomy, scored-decides, nodes-some, nodes-few}
use Rattle.build.proofs.Outcomes.{core-fits, core-room}
use Rattle.build.proofs.Promises.{built-bad, core-short, core-left, core-held}
use Rattle.scored.proofs.Builds.{scores-filled}
use Rattle.pack.specs.declared.header.Header.{Header}
use Rattle.pack.specs.Pack.{rows_from, rows_of, strings_of}
use Rattle.pack.specs.Build.{nodes_of, pack_judged, Report, told, report_of, the_kind, PackBuilt}
use Rattle.pack.specs.Reading.{FineRows, PackFine, ScoresLeft}
use Rattle.pack.proofs.Resting.{from-length}
use Rattle.pack.proofs.Faults.{judged-laid, judged-early, rows-fine}
use Rattle.pack.proofs.FinePacks.{lent-strings, fine-rows, rows-read}

-- a pack that is refused before the room
pub pack-bad : (bytes : List ℕ) {r : Reason} (m : Memory) → pack_judged bytes ≡ Some r → PackBuilt bytes m (Err r) m
unfolding told
pack-bad bytes m b =
    let kind = the_kind bytes in built-bad kind (strings_of bytes) (rows_of kind bytes) (report_of kind bytes) m b (judged-early bytes b)

-- ---- a fine pack

module _ {bytes : List ℕ} {kind : Kind} {h : Header} (f : PackFine bytes kind h) where
  abbrev strings : List ℕ
  strings = strings_of bytes

  abbrev rows : List Row
  rows = rows_of kind bytes

  pub few-rows : length (rows_of kind bytes) ≤ 1_048_576
  few-rows = omega (arith, sym (ap length (rows-read f kind)) ∙ from-length kind bytes 36 h.rows, (fine-rows f).few)

  pub nodes-small : nodes_of kind bytes ≤ 1_073_741_825
  nodes-small = nodes-few kind strings rows few-rows (rows-fine kind bytes f.fine)

  -- what the core asks
  pub lent_rows : FineRows kind bytes (take (length bytes - h.strings_off) (drop h.strings_off bytes)) h.rows
  lent_rows = subst (λ (s : List ℕ). FineRows kind bytes s h.rows) (sym (lent-strings f)) (fine-rows f)

  kind-is : kind ≡ the_kind bytes
  unfolding the_kind
  kind-is = sym (ap (λ (o : Option Kind). elim o [ None ↦ Unigram | Some k ↦ k ]) f.laid)

  module _ (m after : Memory) (xs : List Float) {room : ℕ} (r : room ≡ min (room_of m) (length xs)) where
    abbrev was : List Double
    was = map units xs

    same-room : room ≡ min (room_of m) (length was)
    same-room = r ∙ ap (min (room_of m)) (sym (length-map xs units))

    pub room-is : room ≤ room_of m
    room-is = scored-room m was same-room

    every : RoomFor room m
    every = room_for m room room-is

    abbrev lent : List ℕ
    lent = take (length bytes - h.strings_off) (drop h.strings_off bytes)

    -- the promise of this kind is that of the pack
    abbrev Of : Kind → Result Report Reason → Memory → Type 0
    Of k answer later =
        Promised k strings (rows_of k bytes) (pack_judged bytes) (no_scored_room (nodes_of k bytes) (with_scores m was)) (report_of k bytes) (with_scores m was) answer later

    module _ {answer : (Option ℕ)} (d : BuiltOf kind lent (rows_from kind bytes 36 h.rows) room m after answer) where
      said : BuiltOf kind strings rows room m after answer
      said =
          subst (λ (l : List Row). BuiltOf kind strings l room m after answer) (rows-read f kind)
          (subst (λ (s : List ℕ). BuiltOf kind s (rows_from kind bytes 36 h.rows) room m after answer) (lent-strings f) d)

      fine : pack_judged bytes ≡ None
      fine = judged-laid bytes f.laid ∙ f.fine

      decides : no_scored_room (nodes_of kind bytes) (with_scores m was) ≡ ltb room (nodes_of kind bytes)
      decides = scored-decides m was same-room (nodes_of kind bytes) (nodes-some strings rows) (omega (arith, nodes-small))

      pub fine-full :
          {ys : List Double} → answer ≡ None → ys ≡ zero_scores was
          → PackBuilt bytes (with_scores m was) (Err (reason.Call fault.Room)) (with_scores after ys)
      unfolding told
      fine-full {ys = ys} e s =
          subst (λ (k : Kind). Of k (Err (reason.Call fault.Room)) (with_scores after ys)) kind-is
          (core-short kind strings rows (report_of kind bytes) m after was ys said fine decides e s)

      module _ {n : ℕ} (e : answer ≡ Some n) where
        pub ids-there : n ≤ length m.parts.id
        ids-there = omega (arith, core-room said e, every.roomy.ids)

        pub scores-there : n ≤ length xs
        scores-there = omega (arith, core-room said e, scores-roomy m was same-room, length-map xs units)

        pub fits_word : n ≤ 4_294_967_295
        fits_word = omega (arith, core-room said e, every.roomy.small)

        pub nodes-counted : n ≡ nodes_of kind bytes
        nodes-counted = (core-fits said e).1

        held : after ≡ holding (trie_in kind strings rows) [] m
        held = core-left kind strings rows (report_of kind bytes) m after was was said fine decides e

        -- the score column, by the kind
        scores-held : {now : List Double} (k : Kind) → kind ≡ k → ScoresLeft bytes kind after.parts.id n was now → now ≡ filled plus_zero (scores_in k strings (rows_of k bytes)) was
        unfolding scores_in
        scores-held Unigram k s =
            scores-filled strings (rows_of Unigram bytes) m was (omega (arith, few-rows, ap (λ (y : Kind). length (rows_of y bytes)) k))
            (nodes-counted ∙ ap (λ (y : Kind). nodes_of y bytes) k) (held ∙ ap (λ (y : Kind). holding (trie_in y strings (rows_of y bytes)) [] m) k) (s.scored k)
        scores-held WordPiece k s =
            let all : length was ≡ length was - 0 = omega arith in
            s.bare k ∙ ap (λ (j : ℕ). replicate j plus_zero) all

        pub fine-built :
            {s : Report} {now : List Double} → (n ≡ nodes_of kind bytes → s ≡ report_of kind bytes) → ScoresLeft bytes kind after.parts.id n was now
            → Promised (the_kind bytes) strings (rows_of (the_kind bytes) bytes) (pack_judged bytes) (no_scored_room (nodes_of (the_kind bytes) bytes) (with_scores m was)) (report_of (the_kind bytes) bytes) (with_scores m was) (Ok s) (with_scores after now)
        fine-built {s = summary} {now = now} t s =
            subst (λ (k : Kind). Of k (Ok summary) (with_scores after now)) kind-is
            (core-held kind strings rows (report_of kind bytes) m after was now said fine decides e (ap Ok (t nodes-counted)) (scores-held kind refl s))
