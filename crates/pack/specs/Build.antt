-- What `pack::build` promises: the promise of every build, of the pack's rows. Definitions only; assumes nothing.
use Rattle.pack.specs.declared.Summary.{Summary}
use Rattle.std.specs.Prelude.{ℕ, Bool, ◌||◌, List, Option, None, Some, Result, Err, Ok}
use Rattle.doubles.specs.Double.{Double}
use Rattle.doubles.specs.Units.{units}
use Rattle.refusal.specs.declared.Fault.{Fault}
use Rattle.refusal.specs.declared.Fault.TheVariants as fault
use Rattle.refusal.specs.declared.Reason.{Reason}
use Rattle.refusal.specs.declared.Reason.TheVariants as reason
use Rattle.refusal.specs.Sizes.{max_prefix, above}
use Rattle.refusal.specs.Refusal.{refuse, first, called}
use Rattle.text.specs.Span.{part_fault}
use Rattle.rows.specs.declared.Kind.{Kind}
use Rattle.rows.specs.declared.Kind.TheVariants.{Unigram, WordPiece}
use Rattle.rows.specs.Rows.{first_bad}
use Rattle.rows.specs.Columns.{too_large}
use Rattle.rows.specs.Scores.{unknown_score}
use Rattle.build.specs.Rules.{scores_of}
use Rattle.build.specs.Checked as builds
use Rattle.build.specs.Memory.{Memory, no_scored_room}
use Rattle.build.specs.Promise.{trie_in, scores_in, build_fault, Promised}
use Rattle.unigram.specs.Pieces.{Model}
use Rattle.pack.specs.declared.header.Header.{Header}
use Rattle.pack.specs.Pack.{header_of, kind_of, rows_of, strings_of}
use Rattle.pack.specs.declared.Summary.TheVariants as summary_is

-- how many nodes the pack's trie has
abbrev pub nodes_of : Kind → List ℕ → ℕ
nodes_of kind bytes = builds.nodes_of (strings_of bytes) (rows_of kind bytes)

-- "1 (prefix length too)"
abbrev pub large_header : Header → Bool
large_header h = too_large h.rows h.strings_len || above max_prefix h.prefix_len

-- "2 for a prefix outside the strings, 4 for the prefix"
abbrev pub prefix_fault : List ℕ → Option Fault
prefix_fault bytes = part_fault (strings_of bytes) (header_of bytes).prefix_off (header_of bytes).prefix_len

-- "1, rows," and then the prefix
unfoldable pub content_fault : Kind → List ℕ → Option Reason
content_fault kind bytes =
    refuse (large_header (header_of bytes)) (reason.Call fault.Size)
    (first (first_bad kind (strings_of bytes) 0 (rows_of kind bytes))
    (called (prefix_fault bytes)))

-- "Order for a pack: 11," and then the rest but 7
unfoldable pub pack_judged : List ℕ → Option Reason
pack_judged bytes = elim (kind_of bytes) [ None ↦ Some (reason.Call fault.Pack) | Some kind ↦ content_fault kind bytes ]

-- what is reported: N, unknown id and score; or N, unknown id, max_chars and the prefix's span
pub data Report : Type 0 where
  unigram : ℕ → ℕ → Double → Report
  wordpiece : ℕ → ℕ → ℕ → ℕ → ℕ → Report

abbrev pub reported : Summary → Report
reported (summary_is.Unigram n u x) = unigram n u (units x)
reported (summary_is.WordPiece n u c off len) = wordpiece n u c off len

unfoldable pub told : Result Summary Reason → Result Report Reason
told (Ok v) = Ok (reported v)
told (Err r) = Err r

unfoldable pub report_of : Kind → List ℕ → Report
report_of Unigram bytes =
    unigram (nodes_of Unigram bytes) (header_of bytes).unknown (unknown_score (scores_of (rows_of Unigram bytes)))
report_of WordPiece bytes =
    let h = header_of bytes in
    wordpiece (nodes_of WordPiece bytes) h.unknown h.max_chars h.prefix_off h.prefix_len

-- the kind of a pack that is not refused
unfoldable pub the_kind : List ℕ → Kind
the_kind bytes = elim (kind_of bytes) [ None ↦ Unigram | Some kind ↦ kind ]

-- all of "11, 1, rows, 2, 4, 7", with this memory lent
abbrev pub pack_fault : List ℕ → Memory → Option Reason
pack_fault bytes m = build_fault (pack_judged bytes) (no_scored_room (nodes_of (the_kind bytes) bytes) m)

-- the model of a Unigram pack
unfoldable pub unigram_model : List ℕ → Model
unigram_model bytes =
    record {
      trie = trie_in Unigram (strings_of bytes) (rows_of Unigram bytes);
      score = scores_in Unigram (strings_of bytes) (rows_of Unigram bytes);
      unknown = record { id = (header_of bytes).unknown; score = unknown_score (scores_of (rows_of Unigram bytes)) };
    }

-- What `build` promises of its answer and of the memory lent to it, before and after.
abbrev pub PackBuilt : List ℕ → Memory → Result Summary Reason → Memory → Type 0
PackBuilt bytes before answer after =
    let kind = the_kind bytes in
    Promised kind (strings_of bytes) (rows_of kind bytes) (pack_judged bytes) (no_scored_room (nodes_of kind bytes) before)
    (report_of kind bytes) before (told answer) after
