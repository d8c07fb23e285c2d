-- The look-up in a built trie is the row list's own: the first row with the string, or the id of the last. Assumes nothing.
use Rattle.std.specs.Prelude.{None, Some}
use mathlib.Core.Path.{◌≡◌, refl, sym, ◌∙◌, subst}
use mathlib.Core.Bool.{true, false}
use mathlib.Core.List.{List, [], ◌∷◌, append-nil}
use mathlib.Core.Logic.{⊎_elim}
use Prim.Native.Nat.{ℕ, suc, ◌+◌, ◌≤◌, ◌<◌}
use native.Mathlib.Omega.{arith}
use lib.ListN.{length, get_or, drop, length-map, length-take, length-drop}
use lib.Seq.{get_or-take, get_or-drop}
use Rattle.refusal.proofs.Lists.{none-some}
use Rattle.refusal.specs.Sizes.{no_id}
use Rattle.trie.specs.Trie.{id_of}
use Rattle.text.specs.Span.{span_of}
use Rattle.rows.specs.Rows.{Row, id, token_of}
use Rattle.build.specs.Names.{same, place, names}
use Rattle.build.specs.Grown.{Bytes}
use Rattle.build.specs.Parts.{trie_of}
use Rattle.build.specs.Rules.{first_row, id_of_worth, tokens_of, unigram_trie, last_of, last_id, wordpiece_trie}
use Rattle.build.proofs.Strings.{same-eq}
use Rattle.build.proofs.Places.{either, found?, missing, place-below}
use Rattle.build.proofs.Grown.{List²}
use Rattle.build.proofs.Named.{AllBytes, grown-names, begins-name, token-name}
use Rattle.build.proofs.Laid.{get_or-map-of, lookup-built}

-- ---- tokens of a table of bytes

pub span-bytes : (tab : List ℕ) (off len : ℕ) → Bytes tab → Bytes (span_of tab off len)
span-bytes tab off len h i l =
    let shorter = length-take len (drop off tab) in
    let rest = length-drop off tab in
    let at : get_or (span_of tab off len) i 0 ≡ get_or tab (off + i) 0 =
    get_or-take len (drop off tab) i 0 (omega arith) ∙ get_or-drop off tab i 0 in
    omega (arith, at, h (off + i) (omega arith))

abbrev pub no_row : Row
no_row = record { off = 0; len = 0; worth = id 0 }

pub token-at :
    (tab : List ℕ) (rows : List Row) (i : ℕ) → i < length rows
    → get_or (tokens_of tab rows) i [] ≡ token_of tab (get_or rows i no_row)
unfolding tokens_of
token-at tab rows i h = get_or-map-of (token_of tab) rows i no_row [] h

pub length-tokens : (tab : List ℕ) (rows : List Row) → length (tokens_of tab rows) ≡ length rows
unfolding tokens_of
length-tokens tab rows = length-map rows (token_of tab)

pub tokens-bytes : (tab : List ℕ) (rows : List Row) → Bytes tab → AllBytes (tokens_of tab rows)
tokens-bytes tab rows h i l =
    let r = get_or rows i no_row in
    subst Bytes (sym (token-at tab rows i (omega (arith, length-tokens tab rows)))) (span-bytes tab r.off r.len h)

-- ---- Unigram

first_below : (tokens : List²) (s : List ℕ) (i : ℕ) → first_row tokens s ≡ Some i → i < length tokens
unfolding first_row
first_below tokens [] i e = none-some e
first_below tokens (b ∷ s) i e = place-below tokens (b ∷ s) i e

first-within : (tokens : List²) (s : List ℕ) → place (names tokens) s ≡ None → first_row tokens s ≡ None
unfolding first_row
first-within tokens [] e = refl
first-within tokens (b ∷ s) e =
    missing (place tokens (b ∷ s))
    (λ i q. none-some (sym e ∙ (token-name tokens (b ∷ s) i q (place-below tokens (b ∷ s) i q)).1))

pub unigram-lookup :
    (tab : List ℕ) (rows : List Row) → Bytes tab → length rows ≤ no_id → (s : List ℕ)
    → id_of (unigram_trie tab rows) s ≡ first_row (tokens_of tab rows) s
unfolding unigram_trie trie_of
unigram-lookup tab rows h few s =
    let tokens = tokens_of tab rows in
    lookup-built (first_row tokens) (names tokens) (grown-names tokens (tokens-bytes tab rows h)) (first-within tokens)
    (λ t i e z. omega (arith, first_below tokens t i e, length-tokens tab rows)) s

-- ---- WordPiece

-- the row that gives the id
pub last_row :
    (tab : List ℕ) (rows : List Row) (s : List ℕ) (i : ℕ) → last_of tab rows s ≡ Some i
    → (k : ℕ) × (k < length rows) × (token_of tab (get_or rows k no_row) ≡ s) × (id_of_worth (get_or rows k no_row).worth ≡ i)
unfolding last_of
last_row tab [] s i e = none-some e
last_row tab (r ∷ rs) s i e =
    ⊎_elim
    (λ (q : last_of tab rs s ≡ None). ⊎_elim
    (λ (t : same s (token_of tab r) ≡ true).
    let z : Some (id_of_worth r.worth) ≡ Some i = sym (here q t) ∙ e in
    (0, omega arith, sym (same-eq s (token_of tab r) t), cc))
    (λ (t : same s (token_of tab r) ≡ false). none-some (sym (gone q t) ∙ e))
    (either (same s (token_of tab r))))
    (λ (w : (j : ℕ) × (last_of tab rs s ≡ Some j)).
    let z : Some w.0 ≡ Some i = sym (later w) ∙ e in
    let y : w.0 ≡ i = cc in
    let v = last_row tab rs s w.0 w.1 in
    (suc v.0, omega (arith, v.1), v.2, v.3 ∙ y))
    (found? (last_of tab rs s))
  where
    here : last_of tab rs s ≡ None → same s (token_of tab r) ≡ true → last_of tab (r ∷ rs) s ≡ Some (id_of_worth r.worth)
    here q t = rw (q, t, last_of)

    gone : last_of tab rs s ≡ None → same s (token_of tab r) ≡ false → last_of tab (r ∷ rs) s ≡ None
    gone q t = rw (q, t, last_of)

    later : (w : (j : ℕ) × (last_of tab rs s ≡ Some j)) → last_of tab (r ∷ rs) s ≡ Some w.0
    later w = rw (w.1, last_of)

last_within :
    (tab : List ℕ) (rows : List Row) (s : List ℕ) → place (names (tokens_of tab rows)) s ≡ None → last_id tab rows s ≡ None
unfolding last_id
last_within tab rows [] e = refl
last_within tab rows (b ∷ s) e =
    missing (last_of tab rows (b ∷ s))
    (λ i q.
    let w = last_row tab rows (b ∷ s) i q in
    let at = token-at tab rows w.0 w.1 ∙ w.2 ∙ sym (append-nil (b ∷ s)) in
    none-some (sym e ∙ (begins-name (tokens_of tab rows) (b ∷ s) (w.0, [], omega (arith, w.1, length-tokens tab rows), at)).1))

last-small :
    (tab : List ℕ) (rows : List Row) → ((k : ℕ) → k < length rows → id_of_worth (get_or rows k no_row).worth ≡ no_id → ⊥)
    → (s : List ℕ) (i : ℕ) → last_id tab rows s ≡ Some i → i ≡ no_id → ⊥
unfolding last_id
last-small tab rows h [] i e z = none-some e
last-small tab rows h (b ∷ s) i e z = let w = last_row tab rows (b ∷ s) i e in h w.0 w.1 (w.3 ∙ z)

pub wordpiece-lookup :
    (tab : List ℕ) (rows : List Row) → Bytes tab
    → ((k : ℕ) → k < length rows → id_of_worth (get_or rows k no_row).worth ≡ no_id → ⊥) → (s : List ℕ)
    → id_of (wordpiece_trie tab rows) s ≡ last_id tab rows s
unfolding wordpiece_trie trie_of
wordpiece-lookup tab rows h small s =
    let tokens = tokens_of tab rows in
    lookup-built (last_id tab rows) (names tokens) (grown-names tokens (tokens-bytes tab rows h)) (last_within tab rows)
    (last-small tab rows small) s
