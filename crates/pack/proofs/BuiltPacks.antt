-- What a reader may rely on after `build`: the lent columns, cut to the counts, are the pack's trie, with its scores for
-- Unigram; these parts are sound, so `segment` and `encode` never refuse them with 8. The cut is the trie since N nodes have N
-- places of each node column and N - 1 edges, and the rest of each column is behind them. Assumes nothing.
use Rattle.std.specs.Prelude.{Option, None, Some, ℕ, Ok}
use mathlib.Core.Path.{◌≡◌, refl, sym, ap, ◌∙◌, subst}
use mathlib.Core.Bool.{true}
use mathlib.Core.List.{List}
use Prim.Native.Nat.{ℕ, ◌+◌, ◌≤◌}
use native.Mathlib.Omega.{arith}
use lib.Dec.{T}
use lib.Ieee.{Float, binary64, of_bits}
use lib.Ieee.Bits.{of_bits-fits}
use lib.ListN.{length, take, drop, length-drop}
use lib.Seq.{get_or-drop}
use Rattle.doubles.specs.Double.{Double, of_pattern}
use Rattle.doubles.specs.Units.{units}
use Rattle.doubles.proofs.Floats.{units-is-double}
use Rattle.doubles.proofs.Largest.{is_double}
use Rattle.doubles.proofs.Patterns.{pattern-is-double}
use Rattle.refusal.specs.declared.Fault.TheVariants as fault
use Rattle.refusal.specs.declared.Reason.TheVariants as reason
use Rattle.text.specs.Text.{well_formed}
use Rattle.text.specs.Span.{span_of}
use Rattle.trie.specs.Sound.{sound, sound_scored}
use Rattle.rows.specs.declared.Kind.{Kind}
use Rattle.rows.specs.declared.Kind.TheVariants.{Unigram, WordPiece}
use Rattle.rows.specs.Scores.{unknown_score}
use Rattle.build.specs.Grown.{Bytes}
use Rattle.build.specs.Rules.{scores_of, unigram_trie, unigram_scores}
use Rattle.build.specs.Memory.{Memory}
use Rattle.build.specs.Promise.{trie_in, scores_in}
use Rattle.build.proofs.Promises.{none-exactly, built-fine, built-roomy, built-says}
use Rattle.build.proofs.BuiltTries.{parts_in, Doubles, rows-sound, rows-scored, built-parts, built-scores}
use Rattle.unigram.specs.Pieces.{Model}
use Rattle.unigram.specs.Segment.{Lengths, segment_fault, sound_model}
use Rattle.unigram.proofs.BuiltTries as tries
use Rattle.wordpiece.specs.Encode.{encode_fault}
use Rattle.wordpiece.proofs.BuiltTries as words
use Rattle.pack.specs.Pack.{header_of, kind_of, rows_of, strings_of, prefix_of}
use Rattle.pack.specs.Build.{nodes_of, content_fault, pack_judged, pack_fault, Report, unigram, wordpiece, told, report_of, the_kind, unigram_model, PackBuilt}
use Rattle.pack.specs.Reading.{PackFine}
use Rattle.pack.proofs.Faults.{judged-wrong, judged-laid, rows-fine, prefix-inside, prefix-text}
use Rattle.pack.proofs.Scoring.{scores-length, scores-at}
use Rattle.pack.proofs.Promised.{few-rows}
use Rattle.pack.specs.declared.Summary.TheVariants as summary_is

-- ---- a pack that was built has no fault

fine-pack : (bytes : List ℕ) {kind : Kind} → kind_of bytes ≡ Some kind → content_fault kind bytes ≡ None → PackFine bytes kind (header_of bytes)
fine-pack bytes laid fine = record { header = refl; laid = laid; fine = fine }

module _ (bytes : List ℕ) (accepted : pack_judged bytes ≡ None) where
  pub accepted-kind : kind_of bytes ≡ Some (the_kind bytes)
  unfolding the_kind
  accepted-kind = go (kind_of bytes) refl
    where
      go : (o : Option Kind) → kind_of bytes ≡ o → o ≡ Some (elim o [ None ↦ Unigram | Some k ↦ k ])
      go (Some k) e = refl
      go None e = let z : None ≡ Some (reason.Call fault.Pack) = sym accepted ∙ judged-wrong bytes e in cc

  pub accepted-fine : content_fault (the_kind bytes) bytes ≡ None
  accepted-fine = sym (judged-laid bytes accepted-kind) ∙ accepted

-- ---- the trie of a fine pack

rest-bytes : (bytes : List ℕ) (k : ℕ) → Bytes bytes → Bytes (drop k bytes)
rest-bytes bytes k b i h =
    let e = get_or-drop k bytes i 0 in
    let l = b (k + i) (omega (arith, length-drop k bytes)) in
    omega arith

pattern-double : (b : ℕ) → T (is_double (of_pattern b))
pattern-double b = subst (λ (d : Double). T (is_double d)) (pattern-is-double b) (units-is-double (of_bits binary64 b) (of_bits-fits binary64 b))

module _ (bytes : List ℕ) (good : Bytes bytes) {kind : Kind} (laid : kind_of bytes ≡ Some kind) (fine : content_fault kind bytes ≡ None) where
  strings-bytes : Bytes (strings_of bytes)
  unfolding strings_of
  strings-bytes = rest-bytes bytes (header_of bytes).strings_off good

  few : length (rows_of kind bytes) ≤ 1_048_576
  few = few-rows (fine-pack bytes laid fine)

  -- it is sound
  pub pack-sound : sound (trie_in kind (strings_of bytes) (rows_of kind bytes)) ≡ true
  pack-sound = rows-sound (strings_of bytes) (rows_of kind bytes) strings-bytes kind few (rows-fine kind bytes fine)

  -- and for Unigram its node scores and its unknown score are finite: a pattern gives a double
  pub pack-sound-scored :
      kind ≡ Unigram
      → sound_scored (unigram_trie (strings_of bytes) (rows_of Unigram bytes)) (unigram_scores (strings_of bytes) (rows_of Unigram bytes)) (unknown_score (scores_of (rows_of Unigram bytes))) ≡ true
  unfolding rows_of
  pack-sound-scored k =
      rows-scored (strings_of bytes) (rows_of Unigram bytes) (rows-fine Unigram bytes (subst (λ (y : Kind). content_fault y bytes ≡ None) k fine)) strings-bytes
      (omega (arith, few, ap (λ (y : Kind). length (rows_of y bytes)) k)) doubles
    where
      doubles : Doubles (scores_of (rows_of Unigram bytes))
      doubles i h =
          let rows = (header_of bytes).rows in
          subst (λ (d : Double). T (is_double d)) (sym (scores-at bytes rows i (omega (arith, scores-length bytes rows)))) (pattern-double _)

-- ---- after a build

-- what is reported of a Unigram pack
record ToldUnigram (bytes : List ℕ) (n u : ℕ) (d : Double) : Type 0 where
  kind : the_kind bytes ≡ Unigram
  count : n ≡ nodes_of Unigram bytes
  unknown : u ≡ (header_of bytes).unknown
  score : d ≡ unknown_score (scores_of (rows_of Unigram bytes))

-- the kind of a report
unfoldable kind_told : Report → Kind
kind_told (unigram n u d) = Unigram
kind_told (wordpiece n u c off len) = WordPiece

kind-told : (kind : Kind) (bytes : List ℕ) → kind_told (report_of kind bytes) ≡ kind
unfolding kind_told report_of
kind-told Unigram bytes = refl
kind-told WordPiece bytes = refl

told-unigram : (bytes : List ℕ) {n u : ℕ} {d : Double} → unigram n u d ≡ report_of (the_kind bytes) bytes → ToldUnigram bytes n u d
unfolding report_of kind_told
told-unigram bytes {n = n} {u = u} {d = d} e =
    let k : the_kind bytes ≡ Unigram = sym (ap kind_told e ∙ kind-told (the_kind bytes) bytes) in
    let h = header_of bytes in
    let t : unigram n u d ≡ unigram (nodes_of Unigram bytes) h.unknown (unknown_score (scores_of (rows_of Unigram bytes))) =
    e ∙ ap (λ (x : Kind). report_of x bytes) k in
    record { kind = k; count = cc; unknown = cc; score = cc }

record ToldWordPiece (bytes : List ℕ) (n u c off len : ℕ) : Type 0 where
  kind : the_kind bytes ≡ WordPiece
  count : n ≡ nodes_of WordPiece bytes
  unknown : u ≡ (header_of bytes).unknown
  most : c ≡ (header_of bytes).max_chars
  start : off ≡ (header_of bytes).prefix_off
  size : len ≡ (header_of bytes).prefix_len

told-wordpiece : (bytes : List ℕ) {n u c off len : ℕ} → wordpiece n u c off len ≡ report_of (the_kind bytes) bytes → ToldWordPiece bytes n u c off len
unfolding report_of kind_told
told-wordpiece bytes {n = n} {u = u} {c = c} {off = off} {len = len} e =
    let k : the_kind bytes ≡ WordPiece = sym (ap kind_told e ∙ kind-told (the_kind bytes) bytes) in
    let h = header_of bytes in
    let t : wordpiece n u c off len ≡
    wordpiece (nodes_of WordPiece bytes) h.unknown h.max_chars h.prefix_off h.prefix_len =
    e ∙ ap (λ (x : Kind). report_of x bytes) k in
    record { kind = k; count = cc; unknown = cc; most = cc; start = cc; size = cc }

-- of a Unigram pack
module _ (bytes : List ℕ) (m after : Memory) (n unknown : ℕ) (lowest : Float) (good : Bytes bytes) (b : PackBuilt bytes m (Ok (summary_is.Unigram n unknown lowest)) after) where
  said : ToldUnigram bytes n unknown (units lowest)
  unfolding told
  said = told-unigram bytes (built-says b refl)

  judged : pack_judged bytes ≡ None
  unfolding told
  judged = built-fine b refl

  -- it has no fault, and is a Unigram pack
  pub unigram-accepted : pack_fault bytes m ≡ None
  unfolding told
  unigram-accepted = (none-exactly _ _).1 (judged, built-roomy b refl)

  pub unigram-is : the_kind bytes ≡ Unigram
  unigram-is = said.kind

  pub unigram-kind : kind_of bytes ≡ Some Unigram
  unigram-kind = accepted-kind bytes judged ∙ ap Some said.kind

  fine : content_fault Unigram bytes ≡ None
  fine = subst (λ (k : Kind). content_fault k bytes ≡ None) said.kind (accepted-fine bytes judged)

  -- what it answers is the pack's
  pub unigram-count : n ≡ nodes_of Unigram bytes
  unigram-count = said.count

  pub unigram-unknown : unknown ≡ (header_of bytes).unknown
  unigram-unknown = said.unknown

  pub unigram-score : units lowest ≡ unknown_score (scores_of (rows_of Unigram bytes))
  unigram-score = said.score

  -- the lent columns, cut to the counts, are the pack's trie, and the lent score column its scores
  all-nodes : n ≡ nodes_of (the_kind bytes) bytes
  all-nodes = said.count ∙ sym (ap (λ (k : Kind). nodes_of k bytes) said.kind)

  pub unigram-parts : parts_in n after ≡ unigram_trie (strings_of bytes) (rows_of Unigram bytes)
  unfolding told trie_in
  unigram-parts =
      built-parts b refl all-nodes (strings-bytes bytes good unigram-kind fine)
      ∙ ap (λ (k : Kind). trie_in k (strings_of bytes) (rows_of k bytes)) said.kind

  pub unigram-scores : take n after.score ≡ unigram_scores (strings_of bytes) (rows_of Unigram bytes)
  unfolding told
  unigram-scores = built-scores b refl all-nodes said.kind ∙ ap (λ (k : Kind). unigram_scores (strings_of bytes) (rows_of k bytes)) said.kind

  -- what `segment` is given is the model of the pack
  abbrev pub given : Model
  given = tries.model_in n after (record { id = unknown; score = units lowest })

  pub unigram-model : tries.model_in n after (record { id = unknown; score = units lowest }) ≡ unigram_model bytes
  unfolding unigram_model trie_in scores_in
  unigram-model =
      λ i. record {
        trie = unigram-parts i;
        score = unigram-scores i;
        unknown = record { id = unigram-unknown i; score = unigram-score i };
      }

  -- it is sound, and its scores and unknown score are finite
  pub unigram-sound : sound_scored (parts_in n after) (take n after.score) (units lowest) ≡ true
  unigram-sound =
      (λ i. sound_scored (unigram-parts i) (unigram-scores i) (unigram-score i)) ∙ pack-sound-scored bytes good unigram-kind fine refl

  -- so `segment` does not find 8 in it, whatever the text and the scratch
  pub unigram-not-refused : (text : List ℕ) (lent : Lengths) → segment_fault (sound_model given) text lent ≡ Some fault.Trie → ⊥
  unigram-not-refused = tries.sound-not-refused given unigram-sound

-- of a WordPiece pack
module _ (bytes : List ℕ) (m after : Memory) (n unknown most off len : ℕ) (good : Bytes bytes) (b : PackBuilt bytes m (Ok (summary_is.WordPiece n unknown most off len)) after) where
  spoke : ToldWordPiece bytes n unknown most off len
  unfolding told
  spoke = told-wordpiece bytes (built-says b refl)

  found_none : pack_judged bytes ≡ None
  unfolding told
  found_none = built-fine b refl

  -- it has no fault, and is a WordPiece pack
  pub wordpiece-accepted : pack_fault bytes m ≡ None
  unfolding told
  wordpiece-accepted = (none-exactly _ _).1 (found_none, built-roomy b refl)

  pub wordpiece-is : the_kind bytes ≡ WordPiece
  wordpiece-is = spoke.kind

  pub wordpiece-kind : kind_of bytes ≡ Some WordPiece
  wordpiece-kind = accepted-kind bytes found_none ∙ ap Some spoke.kind

  nothing-wrong : content_fault WordPiece bytes ≡ None
  nothing-wrong = subst (λ (k : Kind). content_fault k bytes ≡ None) spoke.kind (accepted-fine bytes found_none)

  -- what it answers is the pack's
  pub wordpiece-count : n ≡ nodes_of WordPiece bytes
  wordpiece-count = spoke.count

  pub wordpiece-unknown : unknown ≡ (header_of bytes).unknown
  wordpiece-unknown = spoke.unknown

  pub wordpiece-most : most ≡ (header_of bytes).max_chars
  wordpiece-most = spoke.most

  -- the prefix lies in the strings, is short enough, and is text
  pub wordpiece-prefix : span_of (strings_of bytes) off len ≡ prefix_of bytes
  unfolding prefix_of
  wordpiece-prefix = λ i. span_of (strings_of bytes) (spoke.start i) (spoke.size i)

  pub wordpiece-prefix-inside : off + len ≤ length (strings_of bytes)
  wordpiece-prefix-inside = omega (arith, spoke.start, spoke.size, prefix-inside WordPiece bytes nothing-wrong)

  pub wordpiece-prefix-text : well_formed (prefix_of bytes) ≡ true
  wordpiece-prefix-text = prefix-text WordPiece bytes nothing-wrong

  -- the lent columns, cut to the counts, are the pack's trie
  pub wordpiece-parts : parts_in n after ≡ trie_in WordPiece (strings_of bytes) (rows_of WordPiece bytes)
  unfolding told
  wordpiece-parts =
      built-parts b refl (spoke.count ∙ sym (ap (λ (k : Kind). nodes_of k bytes) spoke.kind)) (strings-bytes bytes good wordpiece-kind nothing-wrong)
      ∙ ap (λ (k : Kind). trie_in k (strings_of bytes) (rows_of k bytes)) spoke.kind

  pub wordpiece-sound : sound (parts_in n after) ≡ true
  wordpiece-sound = ap sound wordpiece-parts ∙ pack-sound bytes good wordpiece-kind nothing-wrong

  -- so `encode` does not find 8 in them, whatever the prefix, the word and the places
  pub wordpiece-not-refused : (prefix word : List ℕ) (places : ℕ) → encode_fault (sound (parts_in n after)) prefix word places ≡ Some fault.Trie → ⊥
  wordpiece-not-refused prefix word places = words.sound-not-refused (parts_in n after) prefix word places wordpiece-sound
