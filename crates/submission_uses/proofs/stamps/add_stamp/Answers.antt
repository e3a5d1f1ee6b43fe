-- The candidate's stamp is put, with the certificate's term.
use mathlib.Core.Path.{◌≡◌, sym, ap, ◌∙◌}
use mathlib.Core.List.{◌++◌}
use Prim.Native.Nat.{ℕ}
use native.Mathlib.Omega.{arith}
use borrow.Author.Rules.{rules}
use lib.ListN.{length}
use Rattle.words.proofs.Over.{written-inside}
use Rattle.sha256.specs.Sha256.{bytes_of}
use Rattle.roster.specs.Roster.{cluster}
use Rattle.roster.proofs.Accepted.{name-length}
use Rattle.log_chain.specs.Sizes.{place_statement}
use Rattle.submission.specs.Reading.{ballot_size}
use Rattle.submission.specs.Sizes.{statement_most}
use Rattle.submission_leaves.specs.Entries.{padded, entry_uses}
use Rattle.submission_leaves.proofs.Entries.{padded_put}
use Rattle.submission_uses.proofs.Gathered.{entry_of, no_entry}
use Rattle.submission_uses.proofs.StampUses.{own-stamp, no-stamp}
use Rattle.submission_uses.proofs.stamps.add_stamp.Goals as goal

pub u16_at-requires : goal.u16_at-requires
unfolding ballot_size
u16_at-requires c = omega arith

pub returns-then-u16_at-k : goal.returns-then-u16_at-k
returns-then-u16_at-k c =
    let a = c.args in record { few = omega arith; uses = no_entry _ _ (no-stamp a.roster.now a.s.now a.width a.k a.stamp (λ e. c.if-u16_at-k.true (c.u16_at.ensures.0 ∙ e))) }

pub number_at-term-requires : goal.number_at-term-requires
unfolding ballot_size
number_at-term-requires c = omega arith

pub slice_bounds-put_place_statement-end-2 : goal.slice_bounds-put_place_statement-end-2
unfolding cluster
slice_bounds-put_place_statement-end-2 c =
    sym (name-length c.args.roster.now c.requires.0)

pub put_place_statement-length-requires : goal.put_place_statement-length-requires
unfolding cluster
put_place_statement-length-requires c =
    let name = name-length c.args.roster.now c.requires.0 in
    (c.requires.1, omega (arith, c.requires.1, name))

pub add_use-requires : goal.add_use-requires
add_use-requires c =
    let put = c.put_place_statement-length in
    let room : length put.new.out ≡ statement_most = search rules in
    (room, omega (arith, room, written-inside _ _ _ _ put.ensures.size put.ensures.bytes), c.requires.4)

pub returns : goal.returns
unfolding cluster
returns c =
    let a = c.args in
    let s = a.s.now in
    let roster = a.roster.now in
    let room : length c.put_place_statement-length.new.out ≡ statement_most = search rules in
    let done = c.put_place_statement-length.ensures in
    let message = padded_put _ _ _ (omega (arith, room, done.size, written-inside _ _ _ _ done.size done.bytes)) done.size done.bytes
    ∙ ap (λ (t : ℕ). padded (place_statement 1 (cluster roster) a.width t a.stamp.index (bytes_of a.stamp.pointer))) c.number_at-term.ensures.0 in record {
      few = omega (arith, c.add_use.ensures.count);
      uses = c.add_use.ensures.uses
          ∙ ap (λ z. entry_uses a.n a.buffer.now ++ z)
          (entry_of _ _ _ _ _ (own-stamp roster s a.width a.k a.stamp (sym c.u16_at.ensures.0 ∙ c.if-u16_at-k.false))
          c.u32_at-leaf.ensures.0 message);
    }
