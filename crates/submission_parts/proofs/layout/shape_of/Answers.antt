-- Part 3 stands where part 2 ends, since check 9 was met.
use Rattle.submission.specs.Reading.{leaders_from}
use Rattle.submission_parts.specs.Shapes.{shape_of}
use Rattle.submission_parts.proofs.Inside.{stamps-place}
use Rattle.submission_parts.proofs.layout.shape_of.Goals as goal

pub record_count-requires : goal.record_count-requires
record_count-requires c = c.requires.0.long

pub leader_count-requires : goal.leader_count-requires
leader_count-requires c = c.requires.0.long

pub leaders_from-requires : goal.leaders_from-requires
leaders_from-requires c = let b = c.requires.0 in (b.long, b.records, b.width)

pub stamps_from-requires : goal.stamps_from-requires
stamps_from-requires c =
    let p = c.requires in (p.0.long, (stamps-place _ _ _ p.1).0)

pub returns : goal.returns
unfolding shape_of leaders_from
returns c =
    let a = c.args in
    rw (
      c.record_count.ensures.0,
      c.leader_count.ensures.0,
      c.leaders_from.ensures,
      c.stamps_from.ensures,
      (stamps-place a.width a.size a.s.now c.requires.1).1,
    )
