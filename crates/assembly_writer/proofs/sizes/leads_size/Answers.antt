-- A row a turn.
use mathlib.Core.Path.{◌≡◌, ap, ◌∙◌}
use Prim.Native.Nat.{◌<◌}
use native.Mathlib.Omega.{arith}
use Rattle.assembly_writer.specs.Parts.{vote_end_at}
use Rattle.assembly_writer.proofs.Rows.{row_part}
use Rattle.assembly_writer.proofs.Lengths.{row_cut_long, leads_length, leads-none, leads-next}
use Rattle.assembly_writer.proofs.sizes.leads_size.Goals as goal

pub loop-t-init : goal.loop-t-init
loop-t-init c = (omega arith, λ item_bytes votes held room. leads-none item_bytes votes _ _)

pub lead_size-at-requires : goal.lead_size-at-requires
lead_size-at-requires c =
    let l = c.loop-t in
    let a = c.args in
    let less : l.t < a.plan.leaders = omega arith in (
      c.requires.0,
      c.requires.1,
      c.requires.2,
      rw (row_part a.taken.now l.t) (omega (arith, row_cut_long a.taken.now l.t a.plan.leaders less c.requires.4)),
    )

pub loop-t-preserved : goal.loop-t-preserved
loop-t-preserved c =
    let l = c.loop-t in
    let a = c.args in
    let less : l.t < a.plan.leaders = omega arith in (
      omega (arith, l.invariant.0, c.lead_size-at.ensures.most),
      λ item_bytes votes held room.
          leads-next item_bytes votes a.taken.now a.plan held room l.t less (l.invariant.1 item_bytes votes held room)
          (rw (row_part a.taken.now l.t) at (c.lead_size-at.ensures.size item_bytes (vote_end_at a.plan.width votes l.t))),
    )

pub returns : goal.returns
unfolding leads_length
returns c =
    let l = c.loop-t in
    let a = c.args in
    let all : l.t ≡ a.plan.leaders = omega arith in record { size = λ item_bytes votes held room. l.invariant.1 item_bytes votes held room ∙ ap (leads_length item_bytes votes a.taken.now a.plan) all; most = omega (arith, l.invariant.0) }
