-- The lines are put into zeros.
use lib.Dec.{lit≤}
use Rattle.text_decimal.proofs.Puts.{put_whole}
use Rattle.text_report.proofs.text.Goals as goal

pub returns : goal.returns
returns c = put_whole 512 c.put_lines-count.ensures (lit≤ tt)
