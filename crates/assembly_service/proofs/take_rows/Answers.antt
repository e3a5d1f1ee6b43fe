-- The tables, then the leaders, then the commit; each asks what the checks have left known.
use mathlib.Core.Path.{sym}
use native.Mathlib.Nat.{le_of_eq}
use native.Mathlib.Omega.{arith}
use borrow.Author.Rules.{rules}
use Rattle.roster.proofs.Accepted.{sizes}
use Rattle.log_chain.specs.Log.{version1}
use Rattle.submission.specs.Validate.{form_of}
use Rattle.assembly.specs.Assembly.{log_of}
use Rattle.assembly_service.proofs.Counted.{some_bytes}
use Rattle.assembly_service.proofs.Plans.{whole-log, few-records, few-terms}
use Rattle.assembly_service.proofs.Taken.{missing-given, all-given}
use Rattle.assembly_service.proofs.take_rows.Goals as goal

pub signature_size-size-requires : goal.signature_size-size-requires
signature_size-size-requires c =
    let s = sizes _ c.requires.0.fine in
    omega (arith, s.low, s.size)

pub nonzero_div-records : goal.nonzero_div-records
nonzero_div-records c = rw c.record_size.ensures.0 (omega (arith, some_bytes 4))

pub put_wanted-count-requires : goal.put_wanted-count-requires
unfolding form_of version1 log_of
put_wanted-count-requires c =
    let a = c.args in
    let ok = c.requires.0 in
    let s = sizes _ ok.fine in
    let few = few-records a.roster.now a.log.now a.items.now ok in
    rw c.record_size.ensures.0 (
      omega (arith, s.size),
      omega arith,
      omega (arith, few),
      le_of_eq (whole-log a.roster.now a.log.now a.items.now ok),
      few-terms a.roster.now a.log.now a.items.now ok,
      c.requires.1,
      c.requires.2,
    )

pub choose-requires : goal.choose-requires
unfolding form_of version1 log_of
choose-requires c =
    let a = c.args in
    let ok = c.requires.0 in
    let size = c.signature_size-size.ensures in
    let terms = rw c.record_size.ensures.0 at c.put_wanted-count.ensures.count in
    let few = few-terms a.roster.now a.log.now a.items.now ok in
    let rooms = c.put_wanted-count.ensures.rooms in (
      record { fine = ok.fine; width = omega arith; size = size.1; items = rw size.0 ok.items; count = omega (arith, terms, few) },
      omega (arith, rooms.0, c.requires.1),
      omega (arith, rooms.1, c.requires.2),
      omega (arith, terms, few, c.requires.3),
    )

pub returns-then-not-choose : goal.returns-then-not-choose
returns-then-not-choose c =
    let a = c.args in
    let e = c.put_wanted-count.ensures in
    missing-given a.roster.now a.log.now a.items.now c.requires.0 _ _ c.signature_size-size.ensures.0
    c.record_size.ensures.0 _ _ _ _ _ e.count e.votes e.stamps c.choose.ensures.leaders (c.if-not-choose.true) _ _

pub overflow_mul-count : goal.overflow_mul-count
unfolding form_of version1 log_of
overflow_mul-count c =
    let a = c.args in
    let terms = rw c.record_size.ensures.0 at c.put_wanted-count.ensures.count in
    let few = few-terms a.roster.now a.log.now a.items.now c.requires.0 in
    search (rules, terms, few)

pub take_commit-requires : goal.take_commit-requires
unfolding form_of version1 log_of
take_commit-requires c =
    let a = c.args in
    let ok = c.requires.0 in
    let size = c.signature_size-size.ensures in
    let each = c.record_size.ensures.0 in
    let terms = rw each at c.put_wanted-count.ensures.count in
    let few = few-terms a.roster.now a.log.now a.items.now ok in
    let rooms = c.choose.ensures.rooms in (
      record {
        fine = ok.fine;
        width = omega arith;
        size = size.1;
        items = rw size.0 ok.items;
        records = rw each (few-records a.roster.now a.log.now a.items.now ok);
        logged = rw each (le_of_eq (whole-log a.roster.now a.log.now a.items.now ok));
      },
      omega (arith, terms, few, rooms.1, c.requires.3),
    )

pub returns : goal.returns
returns c =
    let a = c.args in
    let e = c.put_wanted-count.ensures in
    let chosen = c.choose.ensures in
    let taken = c.take_commit.ensures in
    all-given a.roster.now a.log.now a.items.now c.requires.0 _ _ c.signature_size-size.ensures.0
    c.record_size.ensures.0 _ _ _ _ _ e.count e.votes e.stamps chosen.leaders (c.if-not-choose.false) _ _
    (chosen.votes _ (sym e.count) e.votes) chosen.held taken.kept taken.room (omega (arith, chosen.rooms.1, c.requires.3))
    taken.commit taken.held
