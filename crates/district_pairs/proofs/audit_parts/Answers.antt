-- Both stand inside the buffer, and are accepted, with their pointers.
use mathlib.Core.Path.{ap, ◌∙◌}
use Rattle.submission.specs.Validate.{validate}
use Rattle.district.specs.District.{entry, pair, found}
use Rattle.district_pairs.specs.Entries.{entry_of}
use Rattle.words.proofs.Laws.{part_from}
use Rattle.district_pairs.proofs.audit_parts.Goals as goal

pub find-requires : goal.find-requires
unfolding entry_of entry
find-requires c =
    let a = c.args in
    let b = a.buffer.now in (
      c.requires.0,
      ap (validate a.roster.now) (part_from b a.a.start a.a.size) ∙ c.requires.1.valid,
      ap (validate a.roster.now) (part_from b a.b.start a.b.size) ∙ c.requires.2.valid,
      rw (part_from b a.a.start a.a.size) c.requires.1.pointed,
      rw (part_from b a.b.start a.b.size) c.requires.2.pointed,
    )

pub returns-clause-findings : goal.returns-clause-findings
unfolding entry_of entry pair found
returns-clause-findings c =
    let a = c.args in
    let b = a.buffer.now in
    rw (← part_from b a.a.start a.a.size, ← part_from b a.b.start a.b.size) c.find.ensures.findings
