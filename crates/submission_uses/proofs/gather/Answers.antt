-- The votes, the stamps and the receipt, each after what was put before.
use mathlib.Core.Path.{sym, ap, ◌∙◌}
use mathlib.Core.List.{[]}
use native.Mathlib.Omega.{arith}
use Rattle.log_chain.specs.Log.{with_terms, pointer}
use Rattle.submission.specs.Reading.{view}
use Rattle.submission_parts.proofs.Commits.{absent-says, found-says}
use Rattle.submission_parts.proofs.Shapes.{known-records, leader-count, stamp-count}
use Rattle.submission_signatures.proofs.Facts.{commit-records}
use Rattle.submission_leaves.specs.Entries.{entry_uses}
use Rattle.submission_uses.proofs.Gathered.{without-receipt, with-receipt}
use Rattle.submission_uses.proofs.gather.Goals as goal

pub add_votes-voted-requires : goal.add_votes-voted-requires
add_votes-voted-requires c =
    let p = c.requires in
    (p.0, p.2, p.3, p.4, omega (arith, p.5))

pub add_stamps-stamped-requires : goal.add_stamps-stamped-requires
unfolding view
add_stamps-stamped-requires c =
    let put = c.add_votes-voted in
    let p = c.requires in
    (p.0, p.4, rw (known-records _ _ p.0.counted.laid.known) p.1.last, omega (arith, p.5, put.ensures.few, put.auto.buffer))

pub commit_part-requires : goal.commit_part-requires
commit_part-requires c =
    let known = c.requires.0.counted.laid.known in
    (known.bounds, known.layout)

pub returns-in_default : goal.returns-in_default
unfolding view
returns-in_default c =
    let a = c.args in
    let p = c.requires in
    let known = p.0.counted.laid.known in
    let absent = absent-says _ _ _ (sym c.commit_part.ensures ∙ c.in_default.is) in record {
      few = omega (arith, c.add_stamps-stamped.ensures.few, c.add_votes-voted.ensures.few);
      uses = without-receipt _ a.shape.size a.k (view a.shape.width a.shape.size a.s.now) p.0.counted.count (stamp-count _ _ known ∙ sym (leader-count _ _ known))
          (entry_uses a.n a.buffer.now) c.add_votes-voted.ensures.uses c.add_stamps-stamped.ensures.uses absent;
    }

pub add_receipt-requires : goal.add_receipt-requires
add_receipt-requires c =
    let a = c.args in
    let p = c.requires in
    let told = found-says _ _ _ (sym c.commit_part.ensures ∙ c.in-Some.is) in
    let there = commit-records _ _ _ p.0.counted.laid _ told.2 p.0.commit in (
      p.0,
      p.4,
      told.1,
      told.2,
      p.1.committed ∙ ap (pointer (with_terms a.shape.width [])) there,
      p.2,
      p.3,
      omega (arith, p.5, c.add_stamps-stamped.ensures.few, c.add_votes-voted.ensures.few, c.add_stamps-stamped.auto.buffer, c.add_votes-voted.auto.buffer),
    )

pub returns : goal.returns
unfolding view
returns c =
    let a = c.args in
    let p = c.requires in
    let known = p.0.counted.laid.known in
    let put = c.add_receipt in
    let told = found-says _ _ _ (sym c.commit_part.ensures ∙ c.in-Some.is) in record {
      few = omega (arith, c.add_stamps-stamped.ensures.few, c.add_votes-voted.ensures.few, put.ensures.few);
      uses = with-receipt _ a.shape.size a.k (view a.shape.width a.shape.size a.s.now) p.0.counted.count (stamp-count _ _ known ∙ sym (leader-count _ _ known))
          (entry_uses a.n a.buffer.now) c.add_votes-voted.ensures.uses c.add_stamps-stamped.ensures.uses told.2
          (rw (known-records _ _ known) at put.ensures.uses);
    }
