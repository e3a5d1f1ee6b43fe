-- The four numbers stand one after the other.
use Rattle.report_bytes.proofs.Parts.{head_parts}
use Rattle.report_bytes.proofs.put_head.Goals as goal

pub returns : goal.returns
returns c =
    let a = c.args in
    let one = c.put_u8 in
    let two = c.put_u8-2 in
    let three = c.put_u32 in
    let four = c.put_u16 in
    head_parts a.out.now one.new.out two.new.out three.new.out four.new.out a.number a.place a.fork a.mask
    one.ensures two.ensures three.ensures four.ensures
