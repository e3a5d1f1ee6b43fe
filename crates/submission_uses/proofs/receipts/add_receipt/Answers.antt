-- A signer's receipt is put, with the term, index and pointer of the record that the certificate names.
use mathlib.Core.Path.{◌≡◌, sym, ap, ap₂, ◌∙◌}
use mathlib.Core.List.{◌++◌}
use Prim.Native.Nat.{ℕ, ◌+◌, ◌≤◌}
use native.Mathlib.Omega.{arith}
use borrow.Author.Rules.{rules}
use lib.ListN.{length}
use Rattle.words.proofs.Over.{written-inside}
use Rattle.sha256.specs.Sha256.{bytes_of}
use Rattle.roster.specs.Roster.{cluster}
use Rattle.roster.specs.Masks.{signer}
use Rattle.roster.proofs.Accepted.{name-length}
use Rattle.log_chain.specs.Log.{last_term}
use Rattle.log_chain.specs.Records.{records_of}
use Rattle.log_chain.specs.Sizes.{place_statement}
use Rattle.submission.specs.Reading.{signers_at, commit_end}
use Rattle.submission_parts.proofs.Shapes.{records-room, upto-room}
use Rattle.submission_signatures.proofs.Facts.{commit-within, commit-end-in}
use Rattle.lm_format.specs.Leaf.{leaf_at}
use Rattle.submission.specs.Sizes.{statement_most}
use Rattle.submission_leaves.specs.Entries.{padded, entry_uses}
use Rattle.submission_leaves.proofs.Entries.{padded_put}
use Rattle.submission_uses.specs.Signed.{signature_place}
use Rattle.submission_uses.proofs.Places.{leaf-inside}
use Rattle.submission_uses.proofs.Gathered.{entry_of, no_entry, own-receipt, no-receipt}
use Rattle.submission_uses.proofs.receipts.add_receipt.Goals as goal

pub overflow_add-at : goal.overflow_add-at
unfolding commit_end
overflow_add-at c = let p = c.requires in omega (arith, commit-end-in _ _ _ p.0.counted.laid _ p.3 p.2)

pub u16_at-mask-requires : goal.u16_at-mask-requires
unfolding commit_end
u16_at-mask-requires c = let p = c.requires in omega (arith, commit-end-in _ _ _ p.0.counted.laid _ p.3 p.2)

pub returns-then-not-signer : goal.returns-then-not-signer
returns-then-not-signer c =
    let a = c.args in
    let p = c.requires in
    let mask = c.u16_at-mask.ensures.0 in
    let unsigned = ap (λ (m : ℕ). signer m a.k) (sym mask) ∙ sym c.signer.ensures ∙ c.if-not-signer.true in record {
      few = omega arith;
      uses = no_entry _ _ (no-receipt a.roster.now a.s.now a.shape.width a.shape.size a.at a.shape.records a.k p.5 p.6 p.1 (bytes_of a.pointer)
          (commit-within _ _ _ p.0.counted.laid _ p.3 p.0.commit) p.4 unsigned);
    }

pub overflow_add-at-2 : goal.overflow_add-at-2
unfolding commit_end
overflow_add-at-2 c = let p = c.requires in omega (arith, commit-end-in _ _ _ p.0.counted.laid _ p.3 p.2)

pub signature_place-place-requires : goal.signature_place-place-requires
unfolding commit_end
signature_place-place-requires c =
    let p = c.requires in
    let bounds = p.0.counted.laid.known.bounds in
    (p.5, p.6, bounds.signature, omega (arith, bounds.short, commit-end-in _ _ _ p.0.counted.laid _ p.3 p.2))

pub u32_at-leaf-requires : goal.u32_at-leaf-requires
unfolding commit_end signers_at
u32_at-leaf-requires c =
    let a = c.args in
    let p = c.requires in
    let mask = c.u16_at-mask.ensures.0 in
    let signed = ap (λ (m : ℕ). signer m a.k) (sym mask) ∙ sym c.signer.ensures ∙ c.if-not-signer.false in
    rw (c.signature_place-place.ensures, mask)
    (leaf-inside _ a.k a.shape.size (a.at + 6) _ signed p.1 (commit-end-in _ _ _ p.0.counted.laid _ p.3 p.2))

pub u32_at-index-requires : goal.u32_at-index-requires
unfolding commit_end
u32_at-index-requires c =
    let p = c.requires in
    omega (arith, commit-end-in _ _ _ p.0.counted.laid _ p.3 p.2)

pub last_term-term-requires : goal.last_term-term-requires
last_term-term-requires c =
    let p = c.requires in
    let laid = p.0.counted.laid in
    let few : c.u32_at-index.result ≤ c.args.shape.records = omega (arith, c.u32_at-index.ensures.0, commit-within _ _ _ laid _ p.3 p.0.commit) in
    search (laid.known.bounds.width, upto-room _ _ laid.known _ few, records-room _ _ laid.known)

pub slice_bounds-put_place_statement-end-2 : goal.slice_bounds-put_place_statement-end-2
unfolding cluster
slice_bounds-put_place_statement-end-2 c =
    sym (name-length _ c.requires.0.counted.laid.fine)

pub put_place_statement-length-requires : goal.put_place_statement-length-requires
unfolding cluster
put_place_statement-length-requires c =
    let name = name-length _ c.requires.0.counted.laid.fine in
    let narrow = c.requires.0.counted.laid.known.bounds.width in
    (narrow, omega (arith, narrow, name))

pub add_use-requires : goal.add_use-requires
add_use-requires c =
    let put = c.put_place_statement-length in
    let room : length put.new.out ≡ statement_most = search rules in
    (room, omega (arith, room, written-inside _ _ _ _ put.ensures.size put.ensures.bytes), c.requires.7)

pub returns : goal.returns
unfolding cluster
returns c =
    let a = c.args in
    let p = c.requires in
    let s = a.s.now in
    let roster = a.roster.now in
    let w = a.shape.width in
    let mask = c.u16_at-mask.ensures.0 in
    let signed = ap (λ (m : ℕ). signer m a.k) (sym mask) ∙ sym c.signer.ensures ∙ c.if-not-signer.false in
    let index = c.u32_at-index.ensures.0 in
    let term = c.last_term-term.ensures ∙ ap (λ (i : ℕ). last_term (records_of w i s)) index in
    let room : length c.put_place_statement-length.new.out ≡ statement_most = search rules in
    let done = c.put_place_statement-length.ensures in
    let message = padded_put _ _ _ (omega (arith, room, done.size, written-inside _ _ _ _ done.size done.bytes)) done.size done.bytes
    ∙ ap₂ (λ (t i : ℕ). padded (place_statement 2 (cluster roster) w t i (bytes_of a.pointer))) term index in
    let place = c.signature_place-place.ensures ∙ ap (λ (m : ℕ). signature_place m a.k a.shape.size (a.at + 6)) mask in
    let leaf = c.u32_at-leaf.ensures.0 ∙ ap (leaf_at s) place in record {
      few = omega (arith, c.add_use.ensures.count);
      uses = c.add_use.ensures.uses
          ∙ ap (λ z. entry_uses a.n a.buffer.now ++ z)
          (entry_of _ _ _ _ _ (own-receipt roster s w a.shape.size a.at a.shape.records a.k p.5 p.6 p.1 (bytes_of a.pointer)
          (commit-within _ _ _ p.0.counted.laid _ p.3 p.0.commit) p.4 signed) leaf message);
    }
