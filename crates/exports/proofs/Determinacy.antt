-- Each exported promise fixes its answer and what every lent column holds afterwards: each field is an equation with a value of
-- the inputs, and of scores, which are promised as doubles, the format has one value each. That the format holds the scores is
-- so of every `f64` column. Assumes nothing.
use Rattle.refusal.specs.declared.Reason.{Reason}
use Rattle.std.specs.Prelude.{Ok, ℕ, Result}
use mathlib.Core.Path.{◌≡◌, sym, ap, ◌∙◌}
use Prim.Native.Nat.{ℕ}
use mathlib.Core.List.{List, [], map}
use lib.Dec.{T}
use lib.Ieee.{Float}
use Rattle.doubles.specs.Double.{Double}
use Rattle.doubles.specs.Units.{units}
use Rattle.doubles.proofs.Determinacy.{all_held, column-once}
use Rattle.refusal.proofs.Codings.{coded-once}
use Rattle.trie.specs.Trie.{Trie}
use Rattle.rows.specs.Columns.{Columns}
use Rattle.build.specs.Memory.{Memory, with_scores}
use Rattle.build.proofs.Promises.{promised-once}
use Rattle.scored.specs.Build.{Report, told, Built}
use Rattle.unigram.specs.Pieces.{Model}
use Rattle.unigram.specs.Segment.{Scratch, Segmented}
use Rattle.unigram.specs.Checked.{scratch_of}
use Rattle.unigram.proofs.Determinacy.{scratch-once, segment-once}
use Rattle.wordpiece.specs.Build as from-rows
use Rattle.wordpiece.specs.Encode.{Encoded}
use Rattle.wordpiece.proofs.Determinacy as words
use Rattle.pack.specs.Build as packs
use Rattle.exports.specs.Flat.{As, code_number, from_rows_number, told_number, told_score, pack_number, pack_score, PrintedAs}

-- A call that is lent nothing to write: `sk_valid_up_to`, `sk_char_len`, `sk_is_boundary`, `sk_characters`, `sk_text`,
-- `sk_text_len`, `sk_sound`, `sk_sound_scored`, `sk_exact`, `sk_exact_unscored`, `sk_exact_checked`.
pub answer-once : {A : Type 0} {a b c : A} → a ≡ c → b ≡ c → a ≡ b
answer-once p q = p ∙ sym q

-- an answer that is what a call says, as a number: one where the numbers are one
as-once :
    {A : Type 0} {number : A → ℕ} {P Q : A → Type 0} {r s : ℕ} (p : As number P r) (q : As number Q s)
    → number p.said ≡ number q.said → r ≡ s
as-once p q e = p.answered ∙ e ∙ sym q.answered

-- `sk_encode`: the answer, and the id places
module _ (t : Trie) (unknown max_chars : ℕ) (prefix w before : List ℕ) where
  abbrev EncodedAs : ℕ → List ℕ → Type 0
  EncodedAs r after = As code_number (λ said. Encoded t unknown max_chars prefix w before said after) r

  pub encoded-once : {a b : List ℕ} {r s : ℕ} → EncodedAs r a → EncodedAs s b → (r ≡ s) × (a ≡ b)
  encoded-once p q = let one = coded-once p.promised q.promised in (as-once p q (ap code_number one.0), one.1)

-- `sk_encode_checked`: the same
pub ids-once : {r s n : ℕ} {a b left : List ℕ} → (r ≡ n) × (a ≡ left) → (s ≡ n) × (b ≡ left) → (r ≡ s) × (a ≡ b)
ids-once p q = (p.0 ∙ sym q.0, p.1 ∙ sym q.1)

-- `sk_segment`, `sk_segment_checked`: the answer, and start, slot id, slot score, path and id places
module _ {a b c d a' b' c' d' : List ℕ} (x x' : List Float) (held : T (all_held x)) (held' : T (all_held x')) where
  pub segmented-once :
      {m : Model} {s : List ℕ} {before : Scratch} {r r' : ℕ} → As code_number (λ said. Segmented m s before said (scratch_of a b x c d)) r
      → As code_number (λ said. Segmented m s before said (scratch_of a' b' x' c' d')) r' → (r ≡ r') × (a ≡ a') × (b ≡ b') × (x ≡ x') × (c ≡ c') × (d ≡ d')
  segmented-once p q =
      let one = coded-once p.promised.coded q.promised.coded in
      let left = scratch-once x x' held held' one.1 in
      (as-once p q (ap code_number one.0), left.0, left.1, left.2, left.3, left.4)

  pub segmented-checked-once :
      {m : Model} {s : List ℕ} {before : Scratch} {r r' : ℕ} → Segmented m s before (Ok r) (scratch_of a b x c d)
      → Segmented m s before (Ok r') (scratch_of a' b' x' c' d') → (r ≡ r') × (a ≡ a') × (b ≡ b') × (x ≡ x') × (c ≡ c') × (d ≡ d')
  segmented-checked-once {r = r} {r' = r'} p q =
      let once = segment-once x x' held held' p q in
      let count : r ≡ r' = cc once.0 in
      (count, once.1, once.2, once.3, once.4, once.5)

-- `sk_from_rows`
module _ (tab : List ℕ) (c : Columns) (before : Memory) where
  abbrev FromRowsAs : ℕ → Memory → Type 0
  FromRowsAs r after = As from_rows_number (λ said. from-rows.Built tab c before said after) r

  pub from-rows-once : {m₁ m₂ : Memory} {r s : ℕ} → FromRowsAs r m₁ → FromRowsAs s m₂ → (r ≡ s) × (m₁ ≡ m₂)
  from-rows-once p q =
      let one = words.built-once tab c before p.said q.said p.promised q.promised in
      (as-once p q (ap from_rows_number one.0), one.1)

-- the lent memory with its score column, and the place of the unknown score
module _ (m₁ m₂ : Memory) (x y u v : List Float) (hx : T (all_held x)) (hy : T (all_held y)) (hu : T (all_held u)) (hv : T (all_held v)) where
  -- what one outcome of a build says of these
  abbrev One : ℕ → ℕ → Type 0
  One r s = (r ≡ s) × (with_scores m₁ [] ≡ with_scores m₂ []) × (x ≡ y) × (u ≡ v)

  one_of : {r s : ℕ} → r ≡ s → with_scores m₁ (map units x) ≡ with_scores m₂ (map units y) → map units u ≡ map units v → One r s
  one_of a m w =
      (a, ap (λ (l : Memory). with_scores l []) m, column-once x y hx hy (ap (λ (l : Memory). l.score) m), column-once u v hu hv w)

  -- `sk_build`
  module _ (tab : List ℕ) (c : Columns) (before : Memory) (e : List Double) where
    abbrev BuiltAs : ℕ → Memory → List Double → Type 0
    BuiltAs r after unknown = As (λ said. told_number (told said)) (λ said. Built tab c before said after × (unknown ≡ told_score (told said) e)) r

    pub built-once : {r s : ℕ} → BuiltAs r (with_scores m₁ (map units x)) (map units u) → BuiltAs s (with_scores m₂ (map units y)) (map units v) → One r s
    built-once p q =
        let one = promised-once p.promised.0 q.promised.0 in
        one_of (as-once p q (ap told_number one.0)) one.1
        (p.promised.1 ∙ ap (λ (t : Result Report Reason). told_score t e) one.0 ∙ sym q.promised.1)

  -- `sk_pack_build`
  module _ (bytes : List ℕ) (before : Memory) (e : List Double) where
    abbrev PackBuiltAs : ℕ → Memory → List Double → Type 0
    PackBuiltAs r after unknown =
        As (λ said. pack_number (packs.told said)) (λ said. packs.PackBuilt bytes before said after × (unknown ≡ pack_score (packs.told said) e)) r

    pub pack-built-once :
        {r s : ℕ} → PackBuiltAs r (with_scores m₁ (map units x)) (map units u) → PackBuiltAs s (with_scores m₂ (map units y)) (map units v) → One r s
    pack-built-once p q =
        let one = promised-once p.promised.0 q.promised.0 in
        one_of (as-once p q (ap pack_number one.0)) one.1
        (p.promised.1 ∙ ap (λ (t : Result packs.Report Reason). pack_score t e) one.0 ∙ sym q.promised.1)

-- `sk_print`
pub printed-once : {bytes input before a b : List ℕ} {r s : ℕ} → PrintedAs bytes input before r a → PrintedAs bytes input before s b → (r ≡ s) × (a ≡ b)
printed-once p q = (p.answered ∙ sym q.answered, p.left ∙ sym q.left)
