-- A word with its number, then the end of the line.
use Rattle.text_decimal.proofs.Puts.{put_then}
use Rattle.text_line.proofs.put_last.Goals as goal

pub returns : goal.returns
returns c = put_then c.put_field-next.ensures c.put_end.ensures
