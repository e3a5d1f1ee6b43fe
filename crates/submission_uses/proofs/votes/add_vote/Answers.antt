-- A signer's vote is put, with the leaf of its own signature.
use mathlib.Core.Path.{◌≡◌, sym, ap, ◌∙◌}
use mathlib.Core.List.{◌∷◌, ◌++◌}
use Prim.Native.Nat.{ℕ, ◌+◌, ◌-◌, ◌<◌}
use native.Mathlib.Omega.{arith}
use borrow.Author.Rules.{rules}
use lib.ListN.{length, get_or, take, drop, length-take}
use Rattle.words.specs.BigEndian.{number_at}
use Rattle.words.proofs.Over.{written-inside}
use Rattle.words.proofs.Laws.{bytes_each}
use Rattle.roster.specs.Roster.{cluster}
use Rattle.roster.specs.Masks.{signer}
use Rattle.roster.proofs.Accepted.{name-length}
use Rattle.submission.specs.Reading.{ballot_size, signers_at, certificate_end}
use Rattle.submission.proofs.Certificates.{certificate-head}
use Rattle.lm_format.specs.Leaf.{leaf_at}
use Rattle.submission.specs.Sizes.{statement_most}
use Rattle.submission_leaves.specs.Entries.{padded, entry_uses}
use Rattle.submission_leaves.proofs.Entries.{padded_put}
use Rattle.submission_uses.specs.Signed.{signature_place}
use Rattle.submission_uses.proofs.Places.{leaf-inside}
use Rattle.submission_uses.proofs.Gathered.{entry_of, no_entry, own-vote, no-vote}
use Rattle.submission_uses.proofs.votes.add_vote.Goals as goal

pub ballot_size-requires : goal.ballot_size-requires
ballot_size-requires c = c.requires.1

pub overflow_add-end : goal.overflow_add-end
unfolding certificate_end
overflow_add-end c = omega arith

pub u16_at-mask-requires : goal.u16_at-mask-requires
unfolding certificate_end
u16_at-mask-requires c = omega arith

pub returns-then-not-signer : goal.returns-then-not-signer
returns-then-not-signer c =
    let a = c.args in
    let p = c.requires in
    let s = a.s.now in
    let each : (i : ℕ) → get_or s i 0 < 256 = λ i. (c.type_inv.s i).fits in
    let mask = c.u16_at-mask.ensures.0 ∙ ap (λ (j : ℕ). number_at 2 s (a.at + j)) c.ballot_size.ensures.0 in
    let unsigned = ap (λ (m : ℕ). signer m a.k) (sym mask) ∙ sym c.signer.ensures ∙ c.if-not-signer.true in
    let head = certificate-head a.width a.size s a.at in record { few = omega arith; uses = no_entry _ _ (no-vote a.roster.now s a.width a.size a.at a.k p.6 p.7 p.2 (bytes_each s each) (omega (arith, head, p.4)) unsigned) }

pub overflow_add-end-2 : goal.overflow_add-end-2
unfolding certificate_end
overflow_add-end-2 c = omega arith

pub signature_place-place-requires : goal.signature_place-place-requires
unfolding certificate_end
signature_place-place-requires c =
    let p = c.requires in
    let fields = c.ballot_size.ensures.0 in
    (p.6, p.7, p.3, omega (arith, fields, p.4, p.5))

pub u32_at-leaf-requires : goal.u32_at-leaf-requires
unfolding certificate_end signers_at
u32_at-leaf-requires c =
    let a = c.args in
    let p = c.requires in
    let fields = c.ballot_size.ensures.0 in
    let mask = c.u16_at-mask.ensures.0 ∙ ap (λ (j : ℕ). number_at 2 a.s.now (a.at + j)) fields in
    let signed = ap (λ (m : ℕ). signer m a.k) (sym mask) ∙ sym c.signer.ensures ∙ c.if-not-signer.false in
    rw (c.signature_place-place.ensures, mask, fields) (leaf-inside _ a.k a.size (a.at + ballot_size a.width + 2) _ signed p.2 p.4)

pub slice_bounds-put_vote_statement-end-2 : goal.slice_bounds-put_vote_statement-end-2
unfolding cluster
slice_bounds-put_vote_statement-end-2 c =
    sym (name-length c.args.roster.now c.requires.0)

pub slice_bounds-put_vote_statement-end-3 : goal.slice_bounds-put_vote_statement-end-3
unfolding certificate_end
slice_bounds-put_vote_statement-end-3 c = omega arith

pub put_vote_statement-length-requires : goal.put_vote_statement-length-requires
unfolding cluster
put_vote_statement-length-requires c =
    let name = name-length c.args.roster.now c.requires.0 in
    rw length-take (omega (arith, name, c.ballot_size.ensures.1))

pub add_use-requires : goal.add_use-requires
add_use-requires c =
    let put = c.put_vote_statement-length in
    let room : length put.new.out ≡ statement_most = search rules in
    (room, omega (arith, room, written-inside _ _ _ _ put.ensures.size put.ensures.bytes), c.requires.8)

pub returns : goal.returns
unfolding cluster
returns c =
    let a = c.args in
    let p = c.requires in
    let s = a.s.now in
    let roster = a.roster.now in
    let each : (i : ℕ) → get_or s i 0 < 256 = λ i. (c.type_inv.s i).fits in
    let fields = c.ballot_size.ensures.0 in
    let mask = c.u16_at-mask.ensures.0 ∙ ap (λ (j : ℕ). number_at 2 s (a.at + j)) fields in
    let signed = ap (λ (m : ℕ). signer m a.k) (sym mask) ∙ sym c.signer.ensures ∙ c.if-not-signer.false in
    let head = certificate-head a.width a.size s a.at in
    let count : a.at + c.ballot_size.result - a.at ≡ ballot_size a.width = omega (arith, fields) in
    let room : length c.put_vote_statement-length.new.out ≡ statement_most = search rules in
    let done = c.put_vote_statement-length.ensures in
    let message = padded_put _ _ _ (omega (arith, room, done.size, written-inside _ _ _ _ done.size done.bytes)) done.size done.bytes
    ∙ ap (λ (j : ℕ). padded (3 ∷ cluster roster ++ take j (drop a.at s))) count in
    let place = c.signature_place-place.ensures
    ∙ (λ i. signature_place (mask i) a.k a.size (a.at + fields i + 2)) in
    let leaf = c.u32_at-leaf.ensures.0 ∙ ap (leaf_at s) place in record {
      few = omega (arith, c.add_use.ensures.count);
      uses = c.add_use.ensures.uses
          ∙ ap (λ z. entry_uses a.n a.buffer.now ++ z)
          (entry_of _ _ _ _ _ (own-vote roster s a.width a.size a.at a.k p.6 p.7 p.2 (bytes_each s each) (omega (arith, head, p.4)) signed) leaf message);
    }
