-- `pack::header::read_header` meets its contract: nine words, each read where the definition reads it. Assumes nothing.
use Rattle.pack.specs.Pack.{header_of}
use Rattle.pack.proofs.header.read_header.Goals as goal

pub returns : goal.returns
unfolding header_of
returns c = λ i. record {
  kind = c.word.ensures i;
  rows = c.word-2.ensures i;
  rows_off = c.word-3.ensures i;
  strings_off = c.word-4.ensures i;
  strings_len = c.word-5.ensures i;
  unknown = c.word-6.ensures i;
  max_chars = c.word-7.ensures i;
  prefix_off = c.word-8.ensures i;
  prefix_len = c.word-9.ensures i;
}
