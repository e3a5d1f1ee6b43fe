-- The shape of a submission: what its counts and places are, and that its parts lie inside.
-- Assumes nothing.
use mathlib.Core.Path.{◌≡◌, sym, ap, ◌∙◌}
use mathlib.Core.Bool.{true}
use mathlib.Core.List.{List}
use Prim.Native.Nat.{ℕ, ◌+◌, ◌*◌, ◌≤◌}
use native.Mathlib.Nat.{le_trans, mul-le-mul_left}
use native.Mathlib.Omega.{arith}
use borrow.Author.Tests.{eqb-true}
use lib.ListN.{length}
use Rattle.log_chain.specs.Records.{record_size, records_of}
use Rattle.log_chain.specs.Runs.{runs}
use Rattle.submission.specs.Trailer.{record_count, leader_count}
use Rattle.submission.specs.View.{leads_of, leads}
use Rattle.submission.specs.Reading.{certificates, certificates_end, stamps_at, leaders_from, stamps_from, view}
use Rattle.submission.specs.Validate.{record_most, one_each}
use Rattle.submission.proofs.Accepted.{length-certificates, length-stamps}
use Rattle.submission_parts.specs.declared.Shape.{Shape}
use Rattle.submission_parts.specs.Shapes.{shape_of, Known}
use Rattle.submission_parts.proofs.Inside.{records-inside, leaders-inside, stamps-inside}

module _ (shape : Shape) (s : List ℕ) (known : Known shape s) where
  pub known-records : shape.records ≡ record_count s
  unfolding shape_of
  known-records = ap (λ (x : Shape). x.records) known.shaped

  pub known-leaders : shape.leaders ≡ leader_count s
  unfolding shape_of
  known-leaders = ap (λ (x : Shape). x.leaders) known.shaped

  pub known_from : shape.from ≡ leaders_from shape.width shape.size s
  unfolding shape_of
  known_from = ap (λ (x : Shape). x.from) known.shaped

  pub known-stamps : shape.stamps ≡ stamps_from shape.width shape.size s
  unfolding shape_of
  known-stamps = ap (λ (x : Shape). x.stamps) known.shaped

  -- the leader certificates, and they with their terms and stamps
  pub known-certificates : certificates shape.width shape.size s shape.leaders shape.from ≡ (view shape.width shape.size s).leaders
  unfolding view
  known-certificates = rw (known-leaders, known_from)

  pub known-leads : leads_of (certificates shape.width shape.size s shape.leaders shape.from) (runs (records_of shape.width shape.records s))
      (stamps_at shape.size s shape.leaders shape.stamps) ≡ leads (view shape.width shape.size s)
  unfolding leads view
  known-leads = rw (known-records, known-leaders, known_from, known-stamps)

  -- as many certificates as stamps, and as terms
  pub leader-count : length (view shape.width shape.size s).leaders ≡ shape.leaders
  unfolding view
  leader-count = length-certificates _ _ s _ _ ∙ sym known-leaders

  pub stamp-count : length (view shape.width shape.size s).stamps ≡ shape.leaders
  unfolding view
  stamp-count = length-stamps shape.width shape.size s _ _ ∙ sym known-leaders

  pub run-count : one_each (view shape.width shape.size s) ≡ true → length (runs (records_of shape.width shape.records s)) ≡ shape.leaders
  unfolding one_each view
  run-count e = rw known-records (sym (eqb-true _ _ e)) ∙ leader-count

  -- ---- inside

  pub few-records : shape.records ≤ record_most
  few-records = rw known-records known.bounds.records

  pub records-room : record_size shape.width * shape.records ≤ length s
  records-room = rw known-records (omega (arith, known.bounds.long, records-inside _ _ s known.layout))

  pub upto-room : (i : ℕ) → i ≤ shape.records → record_size shape.width * i ≤ length s
  upto-room i h = le_trans (mul-le-mul_left (record_size shape.width) h) records-room

  pub leaders-room : certificates_end shape.width shape.size s shape.leaders shape.from ≤ length s
  leaders-room = rw (known-leaders, known_from) (omega (arith, known.bounds.long, leaders-inside _ _ s known.layout))

  pub stamps-room : shape.stamps + shape.leaders * shape.size ≤ length s
  stamps-room = rw (known-leaders, known-stamps) (omega (arith, known.bounds.long, stamps-inside _ _ s known.layout))
