-- A row names its replica where there is a charge.
use Rattle.report_rows.proofs.Bits.{bit-is}
use Rattle.report_rows.proofs.mask.bit_of.Goals as goal

pub returns : goal.returns
returns c = rw (c.from.ensures, c.is_some.ensures) (bit-is c.args.row)
