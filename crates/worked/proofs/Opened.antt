-- A definition is shut until a proof opens it, and to open one is to open what its own `unfolding` line names. So `opened` on
-- such a line opens every definition that computing an example meets, layer by layer. It says nothing itself.
use Rattle.std.specs.Result.{result_err}
use Rattle.std.specs.Prelude.{option_and_then}
use mathlib.Core.List.{flat_map, flatten}
use lib.Ieee.{size}
use Rattle.doubles.specs.Double as doubles
use Rattle.refusal.specs.Refusal as refusal
use Rattle.text.specs.Text as text
use Rattle.text.specs.Span as span
use Rattle.text.specs.Ascii as ascii
use Rattle.trie.specs.Trie as trie
use Rattle.trie.specs.Sound as sound
use Rattle.trie.specs.Lookup as lookup
use Rattle.rows.specs.Rows as rows
use Rattle.rows.specs.Scores as scores
use Rattle.build.specs.Names as names
use Rattle.build.specs.Parts as parts
use Rattle.build.specs.Rules as rules
use Rattle.build.specs.Memory as memory
use Rattle.build.specs.Promise as promise
use Rattle.cutting.specs.Records as records
use Rattle.unigram.specs.Runs as runs
use Rattle.unigram.specs.Pieces as unigram
use Rattle.unigram.specs.Segment as segment
use Rattle.wordpiece.specs.Pieces as wordpiece
use Rattle.wordpiece.specs.Encode as encode
use Rattle.coder.specs.Vocabulary as coder
use Rattle.pack.specs.Pack as pack
use Rattle.pack.specs.Build as build
use Rattle.output.specs.Lines as lines
use Rattle.output.specs.Output as output
use Rattle.worked.specs.Example as example

unfoldable pub doubles-opened : Unit {0}
unfolding size doubles.gap doubles.nearer doubles.nearest_multiple doubles.rounded doubles.round doubles.sum_finite doubles.sum doubles.less doubles.same doubles.lower_of doubles.is_number doubles.is_finite doubles.of_fields doubles.of_pattern
doubles-opened = tt

unfoldable pub text-opened : Unit {0}
unfolding flat_map flatten refusal.refuse refusal.first refusal.called text.length_of text.second_low text.second_high text.tails text.rest text.character text.valid_in text.valid_up_to text.well_formed text.text_fault text.boundary text.characters span.part_fault span.span_fault ascii.ascii
text-opened = tt

unfoldable pub trie-opened : Unit {0}
unfolding trie.seek trie.step trie.walk trie.id_at trie.id_from trie.id_of sound.every sound.sound_node sound.sound sound.all_finite sound.sound_scored lookup.lookup_fault
trie-opened = tt

unfoldable pub build-opened : Unit {0}
unfolding rows.worth_fault rows.row_fault rows.first_bad scores.lowest scores.lowest_of scores.unknown_score names.same names.later names.place names.prefixes names.add names.enter names.names parts.edge parts.edges_from parts.edges_of parts.starts parts.lay parts.trie_of rules.first_row rules.score_of rules.scores_of rules.node_score_of rules.tokens_of rules.unigram_trie rules.unigram_scores rules.id_of_worth rules.last_of rules.last_id rules.wordpiece_trie memory.any_below memory.no_room memory.no_scored_room promise.trie_in promise.scores_in promise.build_fault
build-opened = tt

unfoldable pub unigram-opened : Unit {0}
unfolding records.offered records.candidate records.offered_all records.standing records.best records.shown records.records_from records.followed runs.run_id runs.merged unigram.piece_at unigram.known unigram.piece_of unigram.ids_of segment.short_scratch segment.segment_fault
unigram-opened = tt

unfoldable pub wordpiece-opened : Unit {0}
unfolding wordpiece.piece_to wordpiece.longest_to wordpiece.pieces_from wordpiece.pieces_of wordpiece.ids_of encode.encode_fault
wordpiece-opened = tt

unfoldable pub pack-opened : Unit {0}
unfolding pack.word pack.header_of pack.laid_out pack.kind_laid_out pack.kind_of pack.worth_at pack.row_at pack.rows_from pack.rows_of pack.strings_of pack.prefix_of build.content_fault build.pack_judged build.the_kind build.unigram_model lines.lines_after lines.lines lines.digits lines.decimal lines.spaced lines.printed_ids lines.printed_refusal coder.sound_in coder.fault_in coder.ids_in output.lent_memory output.printed output.coded_line output.vocabulary_in output.lines_printed output.output_of output.output
pack-opened = tt

unfoldable pub example-opened : Unit {0}
unfolding example.table_of example.rows_at example.is_none example.score_is example.all_of example.example_model example.unigram_holds example.wordpiece_holds example.kind_holds example.holds
example-opened = tt

unfoldable pub opened : Unit {0}
unfolding doubles-opened text-opened trie-opened build-opened unigram-opened wordpiece-opened pack-opened example-opened
opened = tt
