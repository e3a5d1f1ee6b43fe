-- The statement has the term, the index and the pointer of the record, and its copies are those of the receipts.
use mathlib.Core.Path.{◌≡◌, refl, sym, ap, ◌∙◌}
use native.Mathlib.Omega.{arith}
use borrow.Author.Rules.{rules}
use lib.ListN.{length, take}
use Rattle.words.proofs.Over.{written, written-inside}
use Rattle.sha256.specs.Sha256.{bytes_of}
use Rattle.roster.specs.Roster.{cluster}
use Rattle.roster.proofs.Accepted.{name-length}
use Rattle.log_chain.specs.Sizes.{place_statement}
use Rattle.log_chain.proofs.Records.{fewer_inside}
use Rattle.assembly.specs.Items.{items_of, copies}
use Rattle.assembly.specs.Choice.{receipts_for}
use Rattle.assembly_copies.specs.Sought.{CopiesFound}
use Rattle.assembly_commit.specs.Searched.{ReceiptsFound}
use Rattle.assembly_commit.proofs.Commits.{whole-statement, receipt-upto}
use Rattle.assembly_commit.proofs.find_receipts.Goals as goal

pub last_term-term-requires : goal.last_term-term-requires
last_term-term-requires c =
    let p = c.requires in
    (p.0.width, fewer_inside _ _ _ p.1 p.0.logged)

pub slice_bounds-put_place_statement-end-2 : goal.slice_bounds-put_place_statement-end-2
unfolding cluster
slice_bounds-put_place_statement-end-2 c =
    let p = c.requires in
    sym (name-length _ p.0.fine)

pub put_place_statement-head-requires : goal.put_place_statement-head-requires
unfolding cluster
put_place_statement-head-requires c =
    let p = c.requires in
    let name = name-length _ p.0.fine in
    (p.0.width, omega (arith, p.0.width, name))

pub find_copies-requires : goal.find_copies-requires
find_copies-requires c =
    let p = c.requires in
    let room : length c.put_place_statement-head.new.out ≡ 71 = search rules in
    let inside = written-inside _ _ _ _ c.put_place_statement-head.ensures.size c.put_place_statement-head.ensures.bytes in
    record {
      fine = p.0.fine;
      width = p.0.width;
      size = p.0.size;
      items = p.0.items;
      short = omega (arith, inside, room);
      inside = omega (arith, inside);
      cells = omega (arith, p.4);
    }

pub returns : goal.returns
unfolding ReceiptsFound CopiesFound receipts_for cluster
returns c =
    let a = c.args in
    let p = c.requires in
    let w = a.widths.width in
    let said : take c.put_place_statement-head.result c.put_place_statement-head.new.out ≡ _ =
    written _ _ _ _ c.put_place_statement-head.ensures.size c.put_place_statement-head.ensures.bytes
    ∙ ap (λ t. place_statement 2 (cluster a.roster.now) w t a.i (bytes_of c.pointer_at-pointer.result)) c.last_term-term.ensures
    ∙ receipt-upto w a.widths.records a.log.now (cluster a.roster.now) _ a.i p.1 c.pointer_at-pointer.ensures in
    let first = c.find_copies.ensures.copies 0 (omega arith) in record { receipts = first ∙ ap (λ m. copies a.roster.now m (items_of w a.widths.size a.items.now)) (whole-statement _ _ 0 refl ∙ said); placed = c.find_copies.ensures.placed; room = c.find_copies.ensures.room }
