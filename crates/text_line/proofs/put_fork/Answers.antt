-- A word with its number, the last of the line.
use Rattle.text_line.specs.Texts.{ascii, fork_line}
use Rattle.text_line.proofs.put_fork.Goals as goal

pub returns : goal.returns
unfolding fork_line ascii
returns c = c.put_last.ensures
