-- The measure of `put_number`, which calls itself: the number.
use Rattle.output.proofs.put.+put_number.Given as goal

abbrev pub decreases-put_number : goal.decreases-put_number
decreases-put_number l = l.n
