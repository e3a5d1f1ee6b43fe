-- The end first, and the signature only where the end is the same.
use mathlib.Core.Path.{◌≡◌, sym, ◌∙◌}
use Prim.Native.Nat.{◌-◌}
use native.Mathlib.Omega.{arith}
use lib.ListN.{length, drop, length-drop}
use lib.Seq.{length-take-le}
use Rattle.words.proofs.Same.{same_test}
use Rattle.refusal.proofs.Laws.{first_fails, first_holds, all_one}
use Rattle.roster.proofs.Accepted.{key-inside}
use Rattle.std.proofs.lemmas.Bool.Decides.{Decides-eqb}
use Rattle.std.proofs.lemmas.Slice.Eq.{slice_eq-Decides}
use Rattle.assembly_items.specs.Reader.{item_of}
use Rattle.assembly_copies.specs.Offers.{is_copy}
use Rattle.assembly_copies.proofs.is_copy.Goals as goal

pub returns-else-eq : goal.returns-else-eq
unfolding is_copy
returns-else-eq c =
    let a = c.args in
    let size : a.item.signature - (a.item.signature - length a.end.now) ≡ length a.end.now = omega (arith, c.requires.4) in
    let test = rw size at c.eq.ensures in
    c.if-eq.false ∙ first_fails _ _ (sym (same_test _ _ _ (slice_eq-Decides Decides-eqb _ _ _ test)) ∙ c.if-eq.false)

pub signature_genuine-requires : goal.signature_genuine-requires
signature_genuine-requires c =
    let a = c.args in
    let long =
    length-take-le (a.item.signature - a.item.statement) (drop a.item.statement a.items.now)
    (rw length-drop (omega (arith, c.requires.6, c.requires.7))) in
    (c.requires.1, key-inside a.roster.now c.requires.0 a.item.replica c.requires.2, omega (arith, long, c.requires.3))

pub returns-then-eq : goal.returns-then-eq
unfolding is_copy item_of
returns-then-eq c =
    let a = c.args in
    let size : a.item.signature - (a.item.signature - length a.end.now) ≡ length a.end.now = omega (arith, c.requires.4) in
    let test = rw size at c.eq.ensures in
    first_holds _ _ (sym (same_test _ _ _ (slice_eq-Decides Decides-eqb _ _ _ test)) ∙ c.if-eq.true) (c.signature_genuine.ensures ∙ all_one _)
