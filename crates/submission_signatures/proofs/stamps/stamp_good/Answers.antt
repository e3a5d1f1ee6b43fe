-- The statement has the certificate's term, and the key is its candidate's.
use mathlib.Core.Path.{◌≡◌, sym, ◌∙◌}
use Prim.Native.Nat.{◌+◌, ◌-◌, ◌≤◌}
use native.Mathlib.Omega.{arith}
use borrow.Author.Rules.{rules}
use lib.ListN.{length, take, length-take}
use Rattle.words.proofs.Over.{written, written-long, written-inside}
use Rattle.roster.proofs.Accepted.{key-inside, name-length}
use Rattle.sha256.specs.Service.{limit}
use Rattle.roster.specs.Roster.{cluster}
use Rattle.submission.specs.Reading.{ballot_size}
use Rattle.submission_signatures.proofs.stamps.stamp_good.Goals as goal

pub number_at-term-requires : goal.number_at-term-requires
unfolding ballot_size
number_at-term-requires c = omega arith

pub slice_bounds-put_place_statement-end-2 : goal.slice_bounds-put_place_statement-end-2
unfolding cluster
slice_bounds-put_place_statement-end-2 c =
    sym (name-length c.args.roster.now c.requires.0)

pub put_place_statement-length-requires : goal.put_place_statement-length-requires
unfolding cluster
put_place_statement-length-requires c =
    let name = name-length c.args.roster.now c.requires.0 in
    (c.requires.1, omega (arith, c.requires.1, name))

pub u16_at-requires : goal.u16_at-requires
unfolding ballot_size
u16_at-requires c = omega arith

pub slice_bounds-statement-end : goal.slice_bounds-statement-end
slice_bounds-statement-end c =
    let put = c.put_place_statement-length in written-inside _ _ _ _ put.ensures.size put.ensures.bytes

pub slice_bounds-signature_genuine-end : goal.slice_bounds-signature_genuine-end
slice_bounds-signature_genuine-end c =
    let put = c.put_place_statement-length in written-long _ _ _ _ put.ensures.size put.ensures.bytes

pub signature_genuine-requires : goal.signature_genuine-requires
signature_genuine-requires c =
    let candidate = c.u16_at.ensures.0 in
    let room : length c.put_place_statement-length.new.out ≡ 71 = search rules in
    let long : length (take c.put_place_statement-length.result c.put_place_statement-length.new.out) ≤ limit = rw length-take (omega (arith, room)) in
    (rw candidate c.requires.3, rw candidate (key-inside c.args.roster.now c.requires.0 _ c.requires.4), long)

pub returns : goal.returns
unfolding cluster
returns c =
    let a = c.args in
    let count : a.stamp.signature + a.size - a.stamp.signature ≡ a.size = omega arith in
    c.signature_genuine.ensures
    ∙ rw (
      c.u16_at.ensures.0,
      written _ _ _ _ c.put_place_statement-length.ensures.size c.put_place_statement-length.ensures.bytes,
      c.number_at-term.ensures.0,
      count,
    )
