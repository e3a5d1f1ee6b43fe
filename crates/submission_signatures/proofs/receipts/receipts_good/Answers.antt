-- The statement has the term, index and pointer of the record that the certificate names.
use mathlib.Core.Path.{◌≡◌, sym, ap, ap₂, ◌∙◌}
use mathlib.Core.List.{List}
use Prim.Native.Nat.{ℕ, ◌+◌, ◌≤◌}
use native.Mathlib.Omega.{arith}
use borrow.Author.Rules.{rules}
use lib.ListN.{length, take, drop, length-take}
use Rattle.words.proofs.Over.{written, written-long, written-inside}
use Rattle.roster.proofs.Accepted.{name-length}
use Rattle.sha256.specs.Service.{limit}
use Rattle.sha256.specs.Sha256.{bytes_of}
use Rattle.roster.specs.Roster.{cluster}
use Rattle.roster.specs.Masks.{replicas_of}
use Rattle.log_chain.specs.Log.{last_term}
use Rattle.log_chain.specs.Records.{records_of}
use Rattle.log_chain.specs.Sizes.{place_statement}
use Rattle.submission.specs.Reading.{signers_at, commit_end}
use Rattle.submission_slots.specs.Signatures.{good_all}
use Rattle.submission_parts.proofs.Shapes.{records-room, upto-room}
use Rattle.submission_signatures.proofs.Facts.{commit-signers, commit-within, commit-end-in}
use Rattle.submission_signatures.proofs.Said.{receipt-slots}
use Rattle.submission_signatures.proofs.receipts.receipts_good.Goals as goal

pub u32_at-index-requires : goal.u32_at-index-requires
unfolding commit_end
u32_at-index-requires c = let p = c.requires in omega (arith, commit-end-in _ _ _ p.0.counted.laid _ p.2 p.1)

pub last_term-term-requires : goal.last_term-term-requires
last_term-term-requires c =
    let p = c.requires in
    let laid = p.0.counted.laid in
    let few : c.u32_at-index.result ≤ c.args.shape.records = omega (arith, c.u32_at-index.ensures.0, commit-within _ _ _ laid _ p.2 p.0.commit) in
    search (laid.known.bounds.width, upto-room _ _ laid.known _ few, records-room _ _ laid.known)

pub slice_bounds-put_place_statement-end-2 : goal.slice_bounds-put_place_statement-end-2
unfolding cluster
slice_bounds-put_place_statement-end-2 c =
    sym (name-length _ c.requires.0.counted.laid.fine)

pub put_place_statement-end-requires : goal.put_place_statement-end-requires
unfolding cluster
put_place_statement-end-requires c =
    let name = name-length _ c.requires.0.counted.laid.fine in
    let narrow = c.requires.0.counted.laid.known.bounds.width in
    (narrow, omega (arith, narrow, name))

pub slice_bounds-statement-end : goal.slice_bounds-statement-end
slice_bounds-statement-end c =
    let put = c.put_place_statement-end in written-inside _ _ _ _ put.ensures.size put.ensures.bytes

pub slice_bounds-certificate_signatures_good-end : goal.slice_bounds-certificate_signatures_good-end
slice_bounds-certificate_signatures_good-end c =
    let put = c.put_place_statement-end in written-long _ _ _ _ put.ensures.size put.ensures.bytes

pub overflow_add-at : goal.overflow_add-at
unfolding commit_end
overflow_add-at c = let p = c.requires in omega (arith, commit-end-in _ _ _ p.0.counted.laid _ p.2 p.1)

pub u16_at-requires : goal.u16_at-requires
unfolding commit_end
u16_at-requires c = let p = c.requires in omega (arith, commit-end-in _ _ _ p.0.counted.laid _ p.2 p.1)

pub overflow_add-at-2 : goal.overflow_add-at-2
unfolding commit_end
overflow_add-at-2 c = let p = c.requires in omega (arith, commit-end-in _ _ _ p.0.counted.laid _ p.2 p.1)

pub certificate_signatures_good-requires : goal.certificate_signatures_good-requires
unfolding commit_end signers_at
certificate_signatures_good-requires c =
    let mask = c.u16_at.ensures.0 in
    let room : length c.put_place_statement-end.new.out ≡ 71 = search rules in
    let long : length (take c.put_place_statement-end.result c.put_place_statement-end.new.out) ≤ limit = rw length-take (omega (arith, room)) in
    let p = c.requires in
    let laid = p.0.counted.laid in
    (laid.fine, long, rw mask (commit-signers _ _ _ laid _ p.2), rw mask (commit-end-in _ _ _ laid _ p.2 p.1))

pub returns : goal.returns
unfolding cluster
returns c =
    let a = c.args in
    let roster = a.roster.now in
    let s = a.s.now in
    let w = a.shape.width in
    let index = c.u32_at-index.ensures.0 in
    let term = c.last_term-term.ensures ∙ ap (λ (i : ℕ). last_term (records_of w i s)) index in
    let inside = commit-within _ _ _ c.requires.0.counted.laid _ c.requires.2 c.requires.0.commit in
    c.certificate_signatures_good.ensures
    ∙ ap₂ (λ (m : List ℕ) (mask : ℕ). good_all roster m a.shape.size (replicas_of mask) (drop (a.at + 6) s))
    (written _ _ _ _ c.put_place_statement-end.ensures.size c.put_place_statement-end.ensures.bytes
    ∙ ap₂ (λ (t i : ℕ). place_statement 2 (cluster roster) w t i (bytes_of a.pointer)) term index) c.u16_at.ensures.0
    ∙ receipt-slots roster s w a.shape.size a.at a.shape.records (bytes_of a.pointer) inside c.requires.3
