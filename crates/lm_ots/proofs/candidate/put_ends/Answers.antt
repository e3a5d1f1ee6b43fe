-- One end a turn, after the ones before it.
use Prim.Native.Nat.{◌*◌}
use mathlib.Core.Path.{◌≡◌, refl, ◌∙◌}
use native.Mathlib.Omega.{arith}
use lib.Seq.{length-sets}
use Rattle.sha256.specs.Sha256.{bytes_of}
use Rattle.lm_hash.specs.Identifier.{identifier}
use Rattle.lm_hash.proofs.Values.{length-bytes}
use Rattle.lm_digits.proofs.Rows.{few}
use Rattle.lm_ots.proofs.Rows.{joined, joined_step, joined-ends}
use borrow.Author.Rules.{rules}
use Rattle.lm_ots.proofs.candidate.put_ends.Goals as goal

pub loop-i-init : goal.loop-i-init
unfolding joined
loop-i-init c = (refl, refl, search rules)

pub value_at-requires : goal.value_at-requires
value_at-requires c =
    omega (arith, few c.args.o c.requires.0, c.loop-i.invariant.2)

pub loop-i-preserved : goal.loop-i-preserved
loop-i-preserved c =
    let l = c.loop-i in
    let z = c.value_at.result in
    let put = c.put_value.ensures in (
      rw (put, length-sets l.out (32 * l.i) (bytes_of z)) l.invariant.0,
      rw put
          (joined_step c.walk-v.result l.out (bytes_of z) l.i c.value_at.ensures (length-bytes z) (omega (arith, c.requires.3)) l.invariant.1),
      l.invariant.2,
    )

pub returns : goal.returns
returns c =
    let a = c.args in
    let l = c.loop-i in
    let all : l.i ≡ a.o.chains = omega arith in
    (rw all at l.invariant.1)
    ∙ joined-ends a.o (identifier a.leaf) a.leaf.q a.s.now a.y.now c.walk-v.result a.o.chains c.walk-v.ensures
