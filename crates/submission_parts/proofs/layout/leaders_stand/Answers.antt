-- Certificates that are refused pass the trailer; otherwise part 3 begins where they end, and part 4 after it.
use mathlib.Core.Path.{sym, ◌∙◌}
use native.Mathlib.Omega.{arith}
use borrow.Author.Tests.{ne_eqb}
use Rattle.submission_parts.proofs.Inside.{stamps-le}
use Rattle.submission_parts.proofs.Readings.{beyond-passes, place-says}
use Rattle.submission_parts.proofs.Standing.{leaders-pass, stamps-elsewhere, stamps-here}
use Rattle.submission_parts.proofs.layout.leaders_stand.Goals as goal

pub returns-in_default : goal.returns-in_default
returns-in_default c =
    let a = c.args in
    let e = sym c.place_after.ensures.0 ∙ c.in_default.is in
    let beyond = beyond-passes a.width a.size a.s.now _ a.from _ e in
    leaders-pass a.width a.size a.s.now a.from (rw (c.leader_count-leaders.ensures.0, c.trailer_at-end.ensures) at beyond)

pub overflow_add-stamps : goal.overflow_add-stamps
overflow_add-stamps c =
    let a = c.args in
    let says = place-says a.width a.size a.s.now _ a.from _ _ (sym c.place_after.ensures.0 ∙ c.in-Some.is) in
    omega arith

pub returns-else-stamps-distance : goal.returns-else-stamps-distance
returns-else-stamps-distance c =
    let a = c.args in
    let says = place-says a.width a.size a.s.now _ a.from _ _ (sym c.place_after.ensures.0 ∙ c.in-Some.is) in
    let here = rw c.leader_count-leaders.ensures.0 at says.0 in
    ne_eqb _ _ c.if-stamps-distance.false ∙ stamps-elsewhere a.width a.size a.s.now a.from (λ e. c.if-stamps-distance.false (omega arith))

pub overflow_mul-leaders : goal.overflow_mul-leaders
overflow_mul-leaders c =
    let few = stamps-le c.leader_count-leaders.result c.args.size (omega arith) c.requires.0.signature in
    omega arith

pub overflow_add-stamps-then-stamps-distance : goal.overflow_add-stamps-then-stamps-distance
overflow_add-stamps-then-stamps-distance c =
    let a = c.args in
    let says = place-says a.width a.size a.s.now _ a.from _ _ (sym c.place_after.ensures.0 ∙ c.in-Some.is) in
    let few = stamps-le c.leader_count-leaders.result a.size (omega arith) c.requires.0.signature in
    omega arith

pub commit_stands-requires : goal.commit_stands-requires
commit_stands-requires c =
    let a = c.args in
    let says = place-says a.width a.size a.s.now _ a.from _ _ (sym c.place_after.ensures.0 ∙ c.in-Some.is) in
    let few = stamps-le c.leader_count-leaders.result a.size (omega arith) c.requires.0.signature in
    let p = c.requires.0 in
    (p.long, p.short, p.signature, omega arith)

pub returns-then-stamps-distance : goal.returns-then-stamps-distance
returns-then-stamps-distance c =
    let a = c.args in
    let lead = c.leader_count-leaders.ensures.0 in
    let says = place-says a.width a.size a.s.now _ a.from _ _ (sym c.place_after.ensures.0 ∙ c.in-Some.is) in
    let here = rw lead at says.0 in
    stamps-here a.width a.size a.s.now a.from (omega arith) (rw (← here, ← lead) c.commit_stands.ensures)
