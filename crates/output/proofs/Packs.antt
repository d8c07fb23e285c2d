-- What is printed of a pack that was judged: the refusal of one that has a fault, and else the lines in the trie that its build
-- left in the first places of the lent columns, which is the pack's. Assumes nothing.
use Rattle.pack.specs.declared.Summary.{Summary}
use Rattle.std.specs.Prelude.{Option, None, Some, Result, Err, ℕ, Ok}
use mathlib.Core.Path.{◌≡◌, refl, sym, ap, ap₂, ◌∙◌, subst}
use mathlib.Core.Bool.{Bool, true, false, ◌&&◌}
use mathlib.Core.List.{List, [], ◌∷◌, map}
use Prim.Native.Nat.{ℕ, zero, suc, ◌+◌, ◌*◌, ◌≤◌, ◌<◌}
use native.Mathlib.Omega.{arith}
use borrow.Author.Tests.{ltb-false, le-ltb, lt-ltb, eqb-true, leb-true}
use lib.Dec.{ltb, leb, eqb}
use lib.Ieee.{Float}
use lib.ListN.{length, take, replicate, length-replicate, length-drop}
use Rattle.doubles.specs.Double.{Double, plus_zero}
use Rattle.doubles.specs.Units.{units}
use Rattle.refusal.specs.declared.Fault.{Fault}
use Rattle.refusal.specs.declared.Fault.TheVariants as fault
use Rattle.refusal.specs.declared.Reason.{Reason}
use Rattle.refusal.specs.Refusal.{fault_of, unless_fault}
use Rattle.refusal.proofs.Tests.{neither-says}
use Rattle.text.specs.Ascii.{ascii}
use Rattle.text.specs.Text.{well_formed}
use Rattle.text.proofs.Spans.{fault-part, part-inside, text-fine}
use Rattle.text.specs.Span.{span_of, span_fault}
use Rattle.trie.specs.Trie.{Trie}
use Rattle.trie.proofs.Every.{first, second}
use Rattle.rows.specs.declared.Kind.{Kind}
use Rattle.rows.specs.declared.Kind.TheVariants.{Unigram, WordPiece}
use Rattle.build.specs.Grown.{Bytes}
use Rattle.build.specs.Memory.{Memory, memory, with_scores, no_room, no_scored_room}
use Rattle.build.proofs.Promises.{none-exactly}
use Rattle.build.proofs.Rooms.{nodes-some}
use Rattle.unigram.specs.Pieces.{Model}
use Rattle.coder.specs.Vocabulary.{unigram_of, wordpiece_of}
use Rattle.pack.specs.Pack.{header_of, laid_out, rows_of, strings_of, prefix_of}
use Rattle.pack.specs.Build.{nodes_of, pack_fault, the_kind, unigram_model, PackBuilt}
use Rattle.pack.proofs.Headers.{kind-laid}
use Rattle.pack.proofs.Determinacy as determined
use Rattle.pack.proofs.BuiltPacks as packs
use Rattle.output.specs.Lines.{printed_refusal}
use Rattle.output.specs.Output.{max_pack, places, lent_memory, score_places, coded_line, vocabulary_in, lines_printed, output_of, output}
use Rattle.output.specs.Cut.{PrefixGiven, Cuttable, first_nodes, LentBuilt}
use Rattle.pack.specs.declared.Summary.TheVariants as summary_is

-- ---- a pack that is too large

module _ (pack input : List ℕ) where
  abbrev told : Bool → List ℕ
  told b = elim b [ true ↦ printed_refusal (ascii "pack ") fault.Size | false ↦ output_of pack input ]

  pub pack-large : max_pack < length pack → printed_refusal (ascii "pack ") fault.Size ≡ output pack input
  unfolding output
  pack-large h = sym (ap told (lt-ltb max_pack (length pack) h))

  pub pack-small : length pack ≤ max_pack → output_of pack input ≡ output pack input
  unfolding output
  pack-small h = sym (ap told (le-ltb max_pack (length pack) h))

  -- ---- by what the pack's fault is

  abbrev by-fault : Option Reason → List ℕ
  by-fault o = elim o [ Some r ↦ printed_refusal (ascii "pack ") (fault_of r) | None ↦ lines_printed (coded_line (vocabulary_in (the_kind pack) pack)) input ]

  fault-some : {r : Reason} → pack_fault pack lent_memory ≡ Some r → printed_refusal (ascii "pack ") (fault_of r) ≡ output_of pack input
  unfolding output_of
  fault-some e = sym (ap by-fault e)

  fault-none : pack_fault pack lent_memory ≡ None → lines_printed (coded_line (vocabulary_in (the_kind pack) pack)) input ≡ output_of pack input
  unfolding output_of
  fault-none e = sym (ap by-fault e)

take-map : (n : ℕ) (xs : List Float) → map units (take n xs) ≡ take n (map units xs)
take-map zero xs = refl
take-map (suc n) [] = refl
take-map (suc n) (x ∷ xs) = ap (λ (l : List Double). units x ∷ l) (take-map n xs)

-- ---- the columns

-- a column of +0, as the doubles that it holds
zeros : (n : ℕ) (z : Float) → units z ≡ plus_zero → map units (replicate n z) ≡ replicate n plus_zero
zeros zero z e = refl
zeros (suc n) z e = ap₂ ◌∷◌ e (zeros n z e)

-- the memory that the program lends
pub lent-built :
    (pack : List ℕ) (answer : Result Summary Reason) {after : Memory} (z : Float) → units z ≡ plus_zero
    → PackBuilt pack (with_scores (memory places places places places places (replicate 8_192 0)) (map units (replicate 4_096 z))) answer after
    → PackBuilt pack lent_memory answer after
unfolding lent_memory
lent-built pack answer {after = after} z e b =
    subst (λ (ys : List Double). PackBuilt pack (with_scores (memory places places places places places (replicate 8_192 0)) ys) answer after) (zeros 4_096 z e) b

lent-nodes : (pack : List ℕ) → pack_fault pack lent_memory ≡ None → nodes_of (the_kind pack) pack ≤ 4_096
unfolding no_scored_room lent_memory
lent-nodes pack e =
    let n = nodes_of (the_kind pack) pack in
    let p = neither-says (no_room n lent_memory) (ltb (length score_places) n) ((none-exactly _ _).0 e).1 in
    omega (arith, ltb-false (length score_places) n p.1, length-replicate 4_096 plus_zero)

some-node : (kind : Kind) (pack : List ℕ) → 1 ≤ nodes_of kind pack
some-node kind pack = nodes-some (strings_of pack) (rows_of kind pack)

module _ (pack : List ℕ) (t : Trie) (scores : List Float) (good : Bytes pack) where
  abbrev after : List ℕ → Memory
  after work = with_scores (memory t.edge_at t.edge_n t.id t.byte t.to work) (map units scores)

  -- the lent columns have room for so many nodes
  cuttable : {answer : Result Summary Reason} {n : ℕ} → LentBuilt pack answer t scores → (1 ≤ n) × (n ≤ 4_096) → Cuttable n t
  cuttable j m =
      let p = j.places in
      record {
        root = m.0;
        starts = omega (arith, m.1, p.starts);
        counts = omega (arith, m.1, p.counts);
        ids = omega (arith, m.1, p.ids);
        bytes = omega (arith, m.1, p.bytes);
        targets = omega (arith, m.1, p.targets);
      }

  pub judged-refused :
      {r : Reason} (input : List ℕ) → LentBuilt pack (Err r) t scores
      → printed_refusal (ascii "pack ") (fault_of r) ≡ output_of pack input
  judged-refused {r = r} input j = fault-some pack input ((determined.refused-exactly pack lent_memory (Err r) (after j.work) j.built r).0 refl)

  -- ---- Unigram

  module _ (n unknown : ℕ) (lowest : Float) (j : LentBuilt pack (Ok (summary_is.Unigram n unknown lowest)) t scores) where
    abbrev left : Memory
    left = after j.work

    accepted : pack_fault pack lent_memory ≡ None
    accepted = packs.unigram-accepted pack lent_memory left n unknown lowest good j.built

    is-unigram : the_kind pack ≡ Unigram
    is-unigram = packs.unigram-is pack lent_memory left n unknown lowest good j.built

    pub unigram-nodes : (1 ≤ n) × (n ≤ 4_096)
    unigram-nodes =
        let c = packs.unigram-count pack lent_memory left n unknown lowest good j.built in
        let k = ap (λ (x : Kind). nodes_of x pack) is-unigram in
        (omega (arith, c, some-node Unigram pack), omega (arith, c, k, lent-nodes pack accepted))

    pub unigram-cuttable : Cuttable n t
    unigram-cuttable = cuttable j unigram-nodes

    pub unigram-scored : n ≤ length scores
    unigram-scored = omega (arith, unigram-nodes.1, j.scored)

    -- the model whose trie is this
    abbrev cut : Trie → Model
    cut x = record { trie = x; score = map units (take n scores); unknown = record { id = unknown; score = units lowest } }

    cut-is : cut (first_nodes n t) ≡ unigram_model pack
    cut-is =
        ap
        (λ (xs : List Double). record {
          trie = first_nodes n t;
          score = xs;
          unknown = record { id = unknown; score = units lowest };
        })
        (take-map n scores)
        ∙ packs.unigram-model pack lent_memory left n unknown lowest good j.built

    pub judged-unigram :
        {x : Trie} (input : List ℕ) → x ≡ first_nodes n t
        → lines_printed (coded_line (unigram_of (cut x))) input ≡ output_of pack input
    unfolding vocabulary_in
    judged-unigram input e =
        ap (λ (y : Trie). lines_printed (coded_line (unigram_of (cut y))) input) e
        ∙ ap (λ (m : Model). lines_printed (coded_line (unigram_of m)) input) cut-is
        ∙ sym (ap (λ (k : Kind). lines_printed (coded_line (vocabulary_in k pack)) input) is-unigram)
        ∙ fault-none pack input accepted

  -- ---- WordPiece

  module _ (n unknown most off len : ℕ) (j : LentBuilt pack (Ok (summary_is.WordPiece n unknown most off len)) t scores) where
    abbrev left' : Memory
    left' = after j.work

    accepted' : pack_fault pack lent_memory ≡ None
    accepted' = packs.wordpiece-accepted pack lent_memory left' n unknown most off len good j.built

    is-wordpiece : the_kind pack ≡ WordPiece
    is-wordpiece = packs.wordpiece-is pack lent_memory left' n unknown most off len good j.built

    wordpiece-nodes : (1 ≤ n) × (n ≤ 4_096)
    wordpiece-nodes =
        let c = packs.wordpiece-count pack lent_memory left' n unknown most off len good j.built in
        let k = ap (λ (x : Kind). nodes_of x pack) is-wordpiece in
        (omega (arith, c, some-node WordPiece pack), omega (arith, c, k, lent-nodes pack accepted'))

    pub wordpiece-cuttable : Cuttable n t
    wordpiece-cuttable = cuttable j wordpiece-nodes

    -- the strings lie in the file, behind the header
    pub strings-inside : (36 ≤ length pack) × ((header_of pack).strings_off ≤ length pack)
    unfolding laid_out
    strings-inside =
        let h = header_of pack in
        let laid = kind-laid pack (packs.wordpiece-kind pack lent_memory left' n unknown most off len good j.built) in
        let long = leb 36 (length pack) in
        let rows = eqb h.rows_off 36 in
        let strings = eqb h.strings_off (36 + 16 * h.rows) in
        let ends = eqb (h.strings_off + h.strings_len) (length pack) in
        let three = first (long && rows && strings) ends laid in (
          leb-true 36 (length pack) (first long rows (first (long && rows) strings three)),
          omega (arith, eqb-true (h.strings_off + h.strings_len) (length pack) (second (long && rows && strings) ends laid)),
        )

    -- the prefix that is given back is the pack's
    prefix-fine : span_fault (strings_of pack) off len ≡ None
    unfolding strings_of
    prefix-fine =
        let strings = strings_of pack in
        let inside = packs.wordpiece-prefix-inside pack lent_memory left' n unknown most off len good j.built in
        let text =
        ap well_formed (packs.wordpiece-prefix pack lent_memory left' n unknown most off len good j.built)
        ∙ packs.wordpiece-prefix-text pack lent_memory left' n unknown most off len good j.built in
        fault-part strings off len (omega (arith, j.small, length-drop (header_of pack).strings_off pack))
        ∙ part-inside strings off len inside
        ∙ text-fine (span_of strings off len) text

    prefix-is : {prefix : List ℕ} → PrefixGiven pack off len prefix → prefix ≡ prefix_of pack
    unfolding unless_fault
    prefix-is g =
        g ∙ ap (λ (o : Option Fault). unless_fault o (span_of (strings_of pack) off len) []) prefix-fine
        ∙ packs.wordpiece-prefix pack lent_memory left' n unknown most off len good j.built

    pub judged-wordpiece :
        {x : Trie} {prefix : List ℕ} (input : List ℕ) → x ≡ first_nodes n t → PrefixGiven pack off len prefix
        → lines_printed (coded_line (wordpiece_of x unknown most prefix)) input ≡ output_of pack input
    unfolding vocabulary_in
    judged-wordpiece {prefix = prefix} input e g =
        let parts = packs.wordpiece-parts pack lent_memory left' n unknown most off len good j.built in
        let u = packs.wordpiece-unknown pack lent_memory left' n unknown most off len good j.built in
        let c = packs.wordpiece-most pack lent_memory left' n unknown most off len good j.built in
        ap (λ (y : Trie). lines_printed (coded_line (wordpiece_of y unknown most prefix)) input) e
        ∙ (λ i. lines_printed (coded_line (wordpiece_of (parts i) (u i) (c i) (prefix-is g i))) input)
        ∙ sym (ap (λ (k : Kind). lines_printed (coded_line (vocabulary_in k pack)) input) is-wordpiece)
        ∙ fault-none pack input accepted'
