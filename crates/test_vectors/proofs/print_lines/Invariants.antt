-- Each turn moves past a line feed or to the end of the text, so that less of it is left.
use Rattle.std.proofs.Common.{◌-◌, length}
use Rattle.test_vectors.proofs.print_lines.Given as goal

abbrev pub decreases-loop-at : goal.decreases-loop-at
decreases-loop-at g l = length l.text - l.at
