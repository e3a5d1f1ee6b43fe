-- The place of the records that the walk has passed: the last one's term, their number, their pointer.
use mathlib.Core.Path.{sym, ap, ◌∙◌}
use mathlib.Core.List.{List}
use Prim.Native.Nat.{ℕ}
use Rattle.words.specs.Over.{over}
use Rattle.log_chain.specs.Records.{records_of}
use Rattle.log_chain.proofs.Records.{length-records}
use Rattle.assembly_terms.proofs.Added.{place_fields}
use Rattle.assembly_terms.proofs.put_stamp_end.Goals as goal

pub returns : goal.returns
returns c =
    let put = c.put_place in
    let a = c.args in
    let s = a.log.now in
    let fields = place_fields a.width (records_of a.width a.upto.end s) c.last_term-term.ensures
    (sym (length-records a.width a.upto.end s)) c.requires.3.last in
    record { size = put.ensures.size; bytes = put.ensures.bytes ∙ ap (λ (l : List ℕ). over l a.out.now) fields }
