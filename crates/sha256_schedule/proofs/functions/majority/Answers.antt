-- The short form is the definition's, digit by digit.
use Rattle.sha256_schedule.proofs.Bitwise.{maj-short}
use Rattle.sha256_schedule.proofs.functions.majority.Goals as goal

pub returns : goal.returns
returns c = maj-short c.args.x c.args.y c.args.z c.ranges.x.fits c.ranges.y.fits c.ranges.z.fits
