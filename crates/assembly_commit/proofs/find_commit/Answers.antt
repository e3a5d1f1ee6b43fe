-- Index by index from the last down: where none so far has a quorum of receipts, the commit is that of those below.
use mathlib.Core.Path.{refl, sym, ap, ◌∙◌}
use mathlib.Core.List.{◌∷◌}
use Prim.Native.Nat.{◌≤◌, ◌<◌}
use native.Mathlib.Omega.{arith}
use borrow.Author.Rules.{rules}
use lib.Count.{ones}
use lib.ListN.{length, take}
use lib.Seq.{sets, length-sets}
use Rattle.roster.specs.Roster.{cluster, replicas, quorum}
use Rattle.roster.proofs.Accepted.{sizes}
use Rattle.log_chain.specs.Log.{with_terms}
use Rattle.log_chain.specs.Records.{records_of}
use Rattle.log_checkpoints.specs.Checkpoints.{table_size}
use Rattle.submission_encoding.specs.Copies.{signers_of}
use Rattle.assembly.specs.Items.{items_of}
use Rattle.assembly.specs.Choice.{receipts_for}
use Rattle.roster.specs.Sizes.{replicas_most}
use Rattle.assembly_copies.specs.Rows.{commit_in}
use Rattle.assembly_commit.specs.Searched.{ReceiptsFound, CommitFound}
use Rattle.assembly_commit.proofs.Commits.{enough, commit-lower, commit-here, commit-none, row_made, row_of, row-none, row-held, row_empty}
use Rattle.assembly_commit.proofs.find_commit.Goals as goal

pub put_checkpoints-requires : goal.put_checkpoints-requires
unfolding table_size
put_checkpoints-requires c =
    let p = c.requires in
    (p.0.width, omega (arith, p.0.records), p.0.logged, omega (arith, p.0.records))

pub replicas-n-requires : goal.replicas-n-requires
replicas-n-requires c =
    let p = c.requires in
    let s = sizes _ p.0.fine in
    omega (arith, s.size)

pub quorum-quorum-requires : goal.quorum-quorum-requires
quorum-quorum-requires c =
    let p = c.requires in
    let s = sizes _ p.0.fine in
    omega (arith, s.low, s.high, c.replicas-n.ensures.0)

pub loop-i-init : goal.loop-i-init
loop-i-init c = (omega arith, refl, search rules, refl)

pub find_receipts-requires : goal.find_receipts-requires
unfolding table_size
find_receipts-requires c =
    let l = c.loop-i in
    let p = c.requires in
    (p.0, l.invariant.0, omega (arith, p.0.records), c.put_checkpoints.ensures, omega (arith, l.invariant.2))

pub mask_of-requires : goal.mask_of-requires
mask_of-requires c =
    let l = c.loop-i in
    let p = c.requires in
    let s = sizes _ p.0.fine in
    let room = c.find_receipts.ensures.room in
    (omega (arith, s.high, c.replicas-n.ensures.0), omega (arith, s.high, c.replicas-n.ensures.0, room, l.invariant.2))

pub put_row-requires : goal.put_row-requires
put_row-requires c =
    let l = c.loop-i in
    let p = c.requires in
    let room = c.find_receipts.ensures.room in
    (omega (arith, ap length l.invariant.3, p.1), omega (arith, room, l.invariant.2))

pub shape_of-row-then-quorum-mask_of : goal.shape_of-row-then-quorum-mask_of
shape_of-row-then-quorum-mask_of c =
    let l = c.loop-i in
    rw (c.put_row.ensures, length-sets) (ap length l.invariant.3)

pub returns-then-quorum-mask_of : goal.returns-then-quorum-mask_of
unfolding CommitFound ReceiptsFound
returns-then-quorum-mask_of c =
    let l = c.loop-i in
    let a = c.args in
    let p = c.requires in
    let places = c.find_receipts.new.places in
    let S = a.widths.size in
    let n-is = c.replicas-n.ensures.0 in
    let room : replicas_most ≤ length places = omega (arith, c.find_receipts.ensures.room, l.invariant.2) in
    let made = c.put_row.ensures ∙ ap (λ r. sets r 0 (l.i ∷ 0 ∷ take replicas_most places)) l.invariant.3 ∙ row_made a.row.now places l.i p.1 room in
    let form = with_terms a.widths.width (cluster a.roster.now) in
    let items = items_of a.widths.width S a.items.now in
    let log = records_of a.widths.width a.widths.records a.log.now in
    let e = enough form a.roster.now items log S _ _ _ l.i a.items.now places (c.mask_of.ensures S a.items.now) n-is
    c.quorum-quorum.ensures c.find_receipts.ensures.receipts in
    let high : quorum (replicas a.roster.now) ≤ ones (signers_of (receipts_for form a.roster.now items l.i log)) =
    omega (arith, c.if-quorum-mask_of.true, e.0, e.1) in
    let positive : 0 < l.i = omega arith in
    let few = (sizes _ p.0.fine).high in
    let row = row_of S a.items.now (replicas a.roster.now) l.i places _ positive few c.find_receipts.ensures.receipts in record { commit = l.invariant.1 ∙ commit-here form a.roster.now items log l.i positive high ∙ row ∙ ap (commit_in S a.items.now (replicas a.roster.now)) (sym made); held = rw made (row-held S a.items.now a.widths.records l.i places l.invariant.0 c.find_receipts.ensures.placed); room = ap length c.put_row.ensures ∙ length-sets l.row 0 (l.i ∷ 0 ∷ take replicas_most places) ∙ ap length l.invariant.3 ∙ p.1 }

pub loop-i-preserved : goal.loop-i-preserved
unfolding ReceiptsFound
loop-i-preserved c =
    let l = c.loop-i in
    let a = c.args in
    let places = c.find_receipts.new.places in
    let S = a.widths.size in
    let form = with_terms a.widths.width (cluster a.roster.now) in
    let items = items_of a.widths.width S a.items.now in
    let log = records_of a.widths.width a.widths.records a.log.now in
    let e = enough form a.roster.now items log S _ _ _ l.i a.items.now places (c.mask_of.ensures S a.items.now)
    c.replicas-n.ensures.0 c.quorum-quorum.ensures c.find_receipts.ensures.receipts in
    let low : ones (signers_of (receipts_for form a.roster.now items l.i log)) < quorum (replicas a.roster.now) =
    omega (arith, c.if-quorum-mask_of.false, e.0, e.1) in
    let positive : 0 < l.i = omega arith in (
      omega (arith, l.invariant.0),
      l.invariant.1 ∙ commit-lower form a.roster.now items log l.i positive low,
      c.find_receipts.ensures.room ∙ l.invariant.2,
      l.invariant.3,
    )

pub clear-requires : goal.clear-requires
clear-requires c =
    let l = c.loop-i in
    let p = c.requires in
    omega (arith, ap length l.invariant.3, p.1)

pub shape_of-row : goal.shape_of-row
shape_of-row c =
    c.clear.ensures.room ∙ ap length c.loop-i.invariant.3

pub returns : goal.returns
unfolding CommitFound
returns c =
    let l = c.loop-i in
    let a = c.args in
    let S = a.widths.size in
    let form = with_terms a.widths.width (cluster a.roster.now) in
    let items = items_of a.widths.width S a.items.now in
    let log = records_of a.widths.width a.widths.records a.log.now in
    let empty = c.clear.ensures.empty in record { commit = l.invariant.1 ∙ commit-none form a.roster.now items log l.i (omega arith) ∙ row-none S a.items.now (replicas a.roster.now) _ (empty 0 (omega arith)); held = row_empty S a.items.now a.widths.records _ empty; room = c.clear.ensures.room ∙ ap length l.invariant.3 ∙ c.requires.1 }
