-- The term's end, and the pointers there.
use native.Mathlib.Omega.{arith}
use Rattle.log_chain.proofs.Records.{fewer_inside}
use Rattle.log_terms.proofs.pointers.next_run.Goals as goal

pub pointers_after-pointers-requires : goal.pointers_after-pointers-requires
pointers_after-pointers-requires c =
    let e = c.run_end-end.ensures in
    (c.requires.0, omega arith, omega arith, fewer_inside c.args.width _ _ e.1 c.requires.3, c.requires.4)
