-- A certificate whose fields pass the end is refused, and so is one whose signatures do.
use native.Mathlib.Omega.{arith}
use Rattle.submission_parts.proofs.Readings.{certificate_fields, ends_at, numbered, unread, read}
use Rattle.submission_parts.proofs.read.Goals as goal

pub returns-then-end-fields : goal.returns-then-end-fields
returns-then-end-fields c =
    let a = c.args in
    numbered a.width a.size a.s.now a.at a.end
    (unread a.width a.size a.s.now a.at a.end
    (omega (arith, certificate_fields a.width a.size a.s.now a.at, c.ballot_size.ensures.0)))

pub returns-then-end-next : goal.returns-then-end-next
returns-then-end-next c =
    let a = c.args in
    let end = ends_at a.width a.size a.at _ _ _ a.s.now c.ballot_size.ensures.0 c.u16_at-signers.ensures.0
    c.signatures_size.ensures.0 in
    numbered a.width a.size a.s.now a.at a.end (unread a.width a.size a.s.now a.at a.end (omega (arith, end)))

pub numbers_at-requires : goal.numbers_at-requires
numbers_at-requires c =
    (omega (arith, c.ballot_size.ensures.0), c.requires.2, c.requires.3)

pub returns : goal.returns
returns c =
    let a = c.args in
    let end = ends_at a.width a.size a.at _ _ _ a.s.now c.ballot_size.ensures.0 c.u16_at-signers.ensures.0
    c.signatures_size.ensures.0 in
    numbered a.width a.size a.s.now a.at a.end
    (rw (c.numbers_at.ensures, end) (read a.width a.size a.s.now a.at a.end (omega (arith, end))))
