-- An index that is not above either commit index.
use Rattle.forensics_charges.specs.Rules.{reached}
use Rattle.forensics_charges.specs.Charges.{committed_index, fork_of}
use Rattle.forensics_find.proofs.Reached.{none_before, none_after, first_before, second_before, in_both}
use Rattle.forensics_find.proofs.fork.Goals.{else-index-first-via-then-index-first+else-index-second, else-index-first-via-else-index-first}
use Rattle.forensics_find.proofs.fork.Goals as goal

pub returns-in_err-index-clause-index : goal.returns-in_err-index-clause-index
unfolding fork_of reached
returns-in_err-index-clause-index c = rw (c.from_residual.ensures, c.in_err-index.was)

pub returns-in_err-first-clause-index : goal.returns-in_err-first-clause-index
unfolding fork_of reached committed_index
returns-in_err-first-clause-index c =
    rw (c.from_residual-in_err-first.ensures, c.in_ok-index.was, c.in_err-first.was) (none_before c.in_ok-index.index _)

pub returns-in_err-second-clause-index : goal.returns-in_err-second-clause-index
unfolding fork_of reached committed_index
returns-in_err-second-clause-index c =
    rw (c.from_residual-in_err-second.ensures, c.in_ok-index.was, c.in_err-second.was) (none_after c.in_ok-index.index _)

pub returns-then-index-second-clause-index : goal.returns-then-index-second-clause-index
unfolding fork_of reached committed_index
returns-then-index-second-clause-index c =
    rw (c.in_ok-index.was, c.in_ok-first.was, c.in_ok-second.was) (in_both _ _ _ c.if-index-first.true c.if-index-second.true)

pub returns-else-index-first-clause-index : goal.returns-else-index-first-clause-index
unfolding fork_of reached committed_index
returns-else-index-first-clause-index c =
    rw (c.in_ok-index.was, c.in_ok-first.was, c.in_ok-second.was) (elim c.else-index-first.branch [
      | else-index-first-via-then-index-first+else-index-second w ↦ second_before _ _ _ w.if-index-second.false
      | else-index-first-via-else-index-first w ↦ first_before _ _ _ w.if-index-first.false
    ])

pub returns-then-index-second-clause-from_one : goal.returns-then-index-second-clause-from_one
returns-then-index-second-clause-from_one c above = rw c.in_ok-index.was at above
