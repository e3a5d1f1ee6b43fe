-- One word more: the law of the schedule's next word.
use Rattle.std.proofs.Common.{arith, length-set}
use Rattle.sha256_schedule.specs.Words.{next_word}
use Rattle.sha256_schedule.proofs.Extend.{extend_step}
use Rattle.sha256_schedule.proofs.word.Goals as goal

pub returns : goal.returns
unfolding next_word
returns c m e =
    let a = c.args in
    let w = a.w.now in
    (simp length-set e.0, rw c.next.ensures (extend_step w m a.t (omega arith) (omega (arith, e.0)) e.1))
