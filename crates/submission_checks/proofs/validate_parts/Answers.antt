-- The layout, then the signers, then the log.
use mathlib.Core.Path.{refl, sym, ◌∙◌}
use native.Mathlib.Omega.{arith}
use Rattle.refusal.proofs.Laws.{passed, refused, met, unmet}
use Rattle.roster.proofs.Accepted.{sizes}
use Rattle.submission_parts.specs.Shapes.{shape_of}
use Rattle.submission_checks.specs.Checks.{part_checks}
use mathlib.Core.Path.{ap}
use mathlib.Core.Bool.{not}
use Rattle.submission_checks.proofs.validate_parts.Goals as goal

pub parts_laid_out-requires : goal.parts_laid_out-requires
parts_laid_out-requires c = c.requires.1

pub returns-then-not-parts_laid_out : goal.returns-then-not-parts_laid_out
unfolding part_checks
returns-then-not-parts_laid_out c =
    record { number = sym (refused 9 _ _ (unmet c.parts_laid_out.ensures (ap not c.if-not-parts_laid_out.true))); pointers = tt }

pub replicas-n-requires : goal.replicas-n-requires
replicas-n-requires c = let z = sizes _ c.requires.0 in omega arith

pub all_signers_quorate-requires : goal.all_signers_quorate-requires
all_signers_quorate-requires c =
    let p = c.requires in
    let z = sizes _ p.0 in
    rw c.replicas-n.ensures.0 (omega arith, z.high, p.1, met c.parts_laid_out.ensures (ap not c.if-not-parts_laid_out.false))

pub returns-then-not-all_signers_quorate : goal.returns-then-not-all_signers_quorate
unfolding part_checks
returns-then-not-all_signers_quorate c =
    let asked = rw c.replicas-n.ensures.0 at c.all_signers_quorate.ensures in
    record { number = sym (passed 9 _ _ (met c.parts_laid_out.ensures (ap not c.if-not-parts_laid_out.false)) ∙ refused 10 _ _ (unmet asked (ap not c.if-not-all_signers_quorate.true))); pointers = tt }

pub shape_of-requires : goal.shape_of-requires
shape_of-requires c =
    (c.requires.1, met c.parts_laid_out.ensures (ap not c.if-not-parts_laid_out.false))

pub validate_log-requires : goal.validate_log-requires
unfolding shape_of
validate_log-requires c =
    let p = c.requires in
    let asked = rw c.replicas-n.ensures.0 at c.all_signers_quorate.ensures in
    rw c.shape_of.ensures (record {
      fine = p.0;
      known = record { bounds = p.1; layout = met c.parts_laid_out.ensures (ap not c.if-not-parts_laid_out.false); shaped = refl };
      quorums = met asked (ap not c.if-not-all_signers_quorate.false);
    })

pub returns : goal.returns
unfolding part_checks shape_of
returns c =
    let asked = rw c.replicas-n.ensures.0 at c.all_signers_quorate.ensures in
    let validated = rw c.shape_of.ensures at c.validate_log.ensures in
    record { number = validated.number ∙ sym (passed 9 _ _ (met c.parts_laid_out.ensures (ap not c.if-not-parts_laid_out.false)) ∙ passed 10 _ _ (met asked (ap not c.if-not-all_signers_quorate.false))); pointers = validated.pointers }
