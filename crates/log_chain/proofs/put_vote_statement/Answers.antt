-- The kind, then the name, then the fields.
use mathlib.Core.Path.{◌≡◌, refl, ap, ◌∙◌}
use Prim.Native.Nat.{◌+◌, ◌≤◌}
use native.Mathlib.Omega.{arith}
use lib.ListN.{length, set, length-set, length-append}
use lib.Seq.{sets, length-sets}
use Rattle.log_chain.proofs.Statements.{vote-parts}
use Rattle.log_chain.proofs.put_vote_statement.Goals as goal

pub put_bytes-requires : goal.put_bytes-requires
put_bytes-requires c =
    let a = c.args in
    let room : 1 + length a.name.now ≤ length (set a.out.now 0 a.kind) = rw length-set (omega (arith, c.requires)) in
    room

pub put_bytes-requires-2 : goal.put_bytes-requires-2
put_bytes-requires-2 c =
    let a = c.args in
    let name = c.put_bytes in
    let long : length name.new.out ≡ length a.out.now = rw (name.ensures, length-sets, length-set) in
    let room : 1 + length a.name.now + length a.fields.now ≤ length name.new.out = omega (arith, c.requires, long) in
    room

pub shape_of-out : goal.shape_of-out
shape_of-out c =
    let name = c.put_bytes in
    let fields = c.put_bytes-2 in
    let long : length fields.new.out ≡ length c.args.out.now = rw (fields.ensures, length-sets, name.ensures, length-sets, length-set) in
    long

pub returns : goal.returns
returns c =
    let a = c.args in
    let name = c.put_bytes in
    let fields = c.put_bytes-2 in
    let parts = vote-parts a.out.now a.name.now a.fields.now a.kind (1 + length a.name.now) refl c.requires in
    record { size = rw length-append (omega arith); bytes = fields.ensures ∙ ap (λ z. sets z (1 + length a.name.now) a.fields.now) name.ensures ∙ parts }
