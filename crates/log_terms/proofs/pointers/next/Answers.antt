-- The record here is a committed one too, or the committed ones are those of before.
use Rattle.log_terms.proofs.Next.{committed-more, committed-same}
use Rattle.log_terms.proofs.pointers.next.Goals as goal

pub step-last-requires : goal.step-last-requires
step-last-requires c = let p = c.requires in (p.0, p.1, p.2, p.3.last)

pub returns-then-i-commit : goal.returns-then-i-commit
returns-then-i-commit c =
    let a = c.args in
    let here = c.step-last.ensures in
    record { committed = rw (committed-more a.width a.commit a.i a.s.now c.if-i-commit.true) here; last = here }

pub returns : goal.returns
returns c =
    let a = c.args in
    record {
      committed = rw (committed-same a.width a.commit a.i a.s.now c.if-i-commit.false) c.requires.3.committed;
      last = c.step-last.ensures;
    }
