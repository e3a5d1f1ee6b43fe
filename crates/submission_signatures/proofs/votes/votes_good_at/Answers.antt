-- The statement is that of the certificate's fields, and the signatures begin after its signers.
use mathlib.Core.Path.{◌≡◌, sym, ap, ap₂, ◌∙◌}
use mathlib.Core.List.{List, ◌∷◌, ◌++◌}
use Prim.Native.Nat.{ℕ, ◌+◌, ◌-◌, ◌≤◌, ◌<◌}
use native.Mathlib.Omega.{arith}
use borrow.Author.Rules.{rules}
use lib.ListN.{length, get_or, take, drop, length-take}
use Rattle.words.proofs.Over.{written, written-long, written-inside}
use Rattle.roster.proofs.Accepted.{name-length}
use Rattle.words.specs.BigEndian.{number_at}
use Rattle.words.proofs.Laws.{bytes_each}
use Rattle.sha256.specs.Service.{limit}
use Rattle.roster.specs.Roster.{cluster}
use Rattle.roster.specs.Masks.{replicas_of}
use Rattle.submission.specs.Reading.{ballot_size, signers_at, certificate_end}
use Rattle.submission.proofs.Certificates.{certificate-head}
use Rattle.submission_slots.specs.Signatures.{good_all}
use Rattle.submission_signatures.proofs.Said.{vote-slots}
use Rattle.submission_signatures.proofs.votes.votes_good_at.Goals as goal

pub ballot_size-requires : goal.ballot_size-requires
ballot_size-requires c = c.requires.1

pub overflow_add-end : goal.overflow_add-end
unfolding certificate_end
overflow_add-end c = omega arith

pub slice_bounds-put_vote_statement-end-2 : goal.slice_bounds-put_vote_statement-end-2
unfolding cluster
slice_bounds-put_vote_statement-end-2 c =
    sym (name-length c.args.roster.now c.requires.0)

pub slice_bounds-put_vote_statement-end-3 : goal.slice_bounds-put_vote_statement-end-3
unfolding certificate_end
slice_bounds-put_vote_statement-end-3 c = omega arith

pub put_vote_statement-length-requires : goal.put_vote_statement-length-requires
unfolding cluster
put_vote_statement-length-requires c =
    let name = name-length c.args.roster.now c.requires.0 in
    rw length-take (omega (arith, name, c.ballot_size.ensures.1))

pub slice_bounds-statement-end : goal.slice_bounds-statement-end
slice_bounds-statement-end c =
    let put = c.put_vote_statement-length in written-inside _ _ _ _ put.ensures.size put.ensures.bytes

pub slice_bounds-certificate_signatures_good-end : goal.slice_bounds-certificate_signatures_good-end
slice_bounds-certificate_signatures_good-end c =
    let put = c.put_vote_statement-length in written-long _ _ _ _ put.ensures.size put.ensures.bytes

pub u16_at-requires : goal.u16_at-requires
unfolding certificate_end
u16_at-requires c = omega arith

pub overflow_add-end-2 : goal.overflow_add-end-2
unfolding certificate_end
overflow_add-end-2 c = omega arith

pub certificate_signatures_good-requires : goal.certificate_signatures_good-requires
unfolding certificate_end signers_at
certificate_signatures_good-requires c =
    let a = c.args in
    let fields = c.ballot_size.ensures.0 in
    let mask = c.u16_at.ensures.0 ∙ ap (λ (k : ℕ). number_at 2 a.s.now (a.at + k)) fields in
    let room : length c.put_vote_statement-length.new.out ≡ 71 = search rules in
    let long : length (take c.put_vote_statement-length.result c.put_vote_statement-length.new.out) ≤ limit = rw length-take (omega (arith, room)) in
    (c.requires.0, long, rw mask c.requires.2, rw (mask, fields) c.requires.3)

pub returns : goal.returns
unfolding cluster
returns c =
    let a = c.args in
    let roster = a.roster.now in
    let s = a.s.now in
    let each : (i : ℕ) → get_or s i 0 < 256 = λ i. (c.type_inv.s i).fits in
    let fields = c.ballot_size.ensures.0 in
    let count : a.at + c.ballot_size.result - a.at ≡ ballot_size a.width = omega (arith, fields) in
    let head = certificate-head a.width a.size s a.at in
    c.certificate_signatures_good.ensures
    ∙ ap₂ (λ (m : List ℕ) (mask : ℕ). good_all roster m a.size (replicas_of mask) (drop (a.at + c.ballot_size.result + 2) s))
    (written _ _ _ _ c.put_vote_statement-length.ensures.size c.put_vote_statement-length.ensures.bytes
    ∙ ap (λ (n : ℕ). 3 ∷ cluster roster ++ take n (drop a.at s)) count) c.u16_at.ensures.0
    ∙ rw fields (vote-slots roster s a.width a.size a.at (bytes_each s each) (omega (arith, head, c.requires.3)))
