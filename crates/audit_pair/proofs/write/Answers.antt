-- The report is that of the outcome.
use mathlib.Core.Path.{refl, sym}
use Rattle.report.specs.Report.{refused}
use Rattle.report_bytes.specs.Answers.{accepted}
use Rattle.audit_pair.specs.Outcomes.{answer_of}
use Rattle.audit_pair.proofs.Outcomes.{accepted-says}
use Rattle.audit_pair.proofs.write.Goals as goal

pub find-found-requires : goal.find-found-requires
find-found-requires c =
    let a = c.args in
    let says = accepted-says a.roster.now a.first.now a.second.now (sym c.in-Ok.ensures.outcome) in
    let both = c.in-Ok.ensures.pointers in
    (says.0, says.1, says.2, both.first, both.second)

pub returns-in-Ok : goal.returns-in-Ok
unfolding accepted answer_of
returns-in-Ok c =
    let told = sym c.in-Ok.ensures.outcome in
    rw (told, ← c.find-found.ensures.findings) record { number = refl; bytes = c.write_accepted.ensures.bytes }

pub returns-in-Err : goal.returns-in-Err
unfolding answer_of refused
returns-in-Err c =
    let told = sym c.in-Err.ensures.outcome in
    rw (told, ← c.number-number.ensures, ← c.number-place.ensures) record { number = refl; bytes = c.write_refused.ensures.bytes }
