-- The vocabulary that lent columns hold. Definitions only; assumes nothing.
use Rattle.trie.specs.Trie.{parts}
use Rattle.unigram.specs.Work.{model}
use Rattle.coder.specs.declared.Coder.{Coder}
use Rattle.coder.specs.declared.Coder.TheVariants.{Unigram, WordPiece}
use Rattle.coder.specs.Vocabulary.{Vocabulary, unigram_of, wordpiece_of}

unfoldable pub vocabulary : Coder → Vocabulary
vocabulary (Unigram m) = unigram_of (model m)
vocabulary (WordPiece v) = wordpiece_of (parts v.trie) v.unknown v.max_chars v.prefix.now
