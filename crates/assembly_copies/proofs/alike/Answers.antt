-- A statement of another length, a number that no replica has and another beginning each say that the item is no copy.
use mathlib.Core.Path.{◌≡◌}
use Prim.Native.Nat.{◌+◌, ◌-◌}
use native.Mathlib.Omega.{arith}
use Rattle.roster.proofs.Accepted.{sizes}
use Rattle.std.proofs.lemmas.Bool.Decides.{Decides-eqb}
use Rattle.std.proofs.lemmas.Slice.Eq.{slice_eq-Decides}
use Rattle.assembly_copies.proofs.Fitting.{no-replica, beyond, other_length, decides}
use Rattle.assembly_copies.proofs.alike.Goals as goal
use Rattle.assembly_copies.proofs.alike.Goals.{then-own-sought-via-then-own-sought, then-own-sought-via-else-own-sought+then-own-sought-2}
use Rattle.assembly_copies.proofs.alike.Goals.{then-k-eq0-via-then-k-eq0, then-k-eq0-via-else-k-eq0+then-replicas-k}

pub returns-then-own-sought-clause-no : goal.returns-then-own-sought-clause-no
returns-then-own-sought-clause-no c e =
    let a = c.args in
    other_length a.roster.now a.items.now a.wanted.now a.sought a.item c.requires.2 c.requires.1
    (λ same.
    elim c.then-own-sought.branch [
      | then-own-sought-via-then-own-sought w ↦ omega (arith, same)
      | then-own-sought-via-else-own-sought+then-own-sought-2 w ↦ w.if-own-sought-2.true (omega (arith, same))
    ])

pub replicas-requires : goal.replicas-requires
replicas-requires c =
    let roster = sizes c.args.roster.now c.requires.0 in
    omega (arith, roster.size)

pub returns-then-k-eq0-clause-no : goal.returns-then-k-eq0-clause-no
returns-then-k-eq0-clause-no c e =
    let a = c.args in
    elim c.then-k-eq0.branch [
      | then-k-eq0-via-then-k-eq0 w ↦ no-replica a.roster.now a.items.now a.wanted.now a.sought a.item c.requires.2 w.if-k-eq0.true
      | then-k-eq0-via-else-k-eq0+then-replicas-k w ↦ beyond a.roster.now a.items.now a.wanted.now a.sought a.item c.requires.2 (omega (arith, w.replicas.ensures.0))
    ]

pub returns-clause-no : goal.returns-clause-no
returns-clause-no c =
    let a = c.args in
    let size : a.item.statement + a.sought.head - a.item.statement ≡ a.sought.head = omega arith in
    let long : a.item.signature ≡ a.item.statement + (a.sought.head + a.sought.tail) =
    omega (arith, c.requires.2, c.if-own-sought.false, c.if-own-sought-2.false) in
    let test = rw size at c.eq.ensures in
    let it =
    decides a.roster.now a.items.now a.wanted.now a.sought a.item c.requires.2 c.requires.1 {r = c.eq.result} long
    (omega (arith, c.if-k-eq0.false)) (omega (arith, c.replicas.ensures.0))
    (slice_eq-Decides Decides-eqb _ _ _ test) in
    it.1
