-- An item that has no kind byte and one of no kind are refused; of a kind's item the statement has the definition's bytes.
use mathlib.Core.Path.{◌≡◌, ◌∙◌}
use mathlib.Core.Logic.{⊎_elim}
use Prim.Native.Nat.{◌+◌}
use native.Mathlib.Omega.{arith}
use borrow.Author.Rules.{rules}
use Rattle.assembly.specs.Items.{statement_size}
use Rattle.log_chain.specs.declared.Kind.TheVariants.{Stamp, Receipt}
use Rattle.log_chain.specs.Kinds.{byte_of}
use Rattle.assembly_items.proofs.Items.{no_byte, unknown, placed}
use Rattle.assembly_items.proofs.read.Goals as goal

pub returns-in_err-kind : goal.returns-in_err-kind
returns-in_err-kind c =
    let a = c.args in
    c.from_residual.ensures ∙ no_byte a.width a.size a.items.now a.at c.in_err-kind.ensures.lookup.3

pub returns-in_default : goal.returns-in_default
returns-in_default c =
    let a = c.args in
    let here = c.in_ok-kind.ensures.lookup.4 (omega arith) 0 in
    unknown a.width a.size a.items.now a.at (λ k e. c.in_default.ensures.1 k (e ∙ omega (arith, here)))

pub returns-in-Stamp : goal.returns-in-Stamp
unfolding statement_size
returns-in-Stamp c =
    let a = c.args in
    let here = c.in_ok-kind.ensures.lookup.4 (omega arith) 0 in
    let size = 1 + 16 + a.width + 4 + 32 in
    let long : size ≡ statement_size a.width (byte_of c.in-Ok.kind) =
    ⊎_elim
    (λ (e : c.in-Ok.kind ≡ Stamp). rw e (search rules))
    (λ (e : c.in-Ok.kind ≡ Receipt). rw e (search rules))
    c.in-Stamp.is in
    placed a.width a.size a.items.now a.at c.place.result c.in-Ok.kind size (c.in-Ok.ensures ∙ omega (arith, here)) long (omega arith) c.place.ensures

pub returns-in-Vote : goal.returns-in-Vote
unfolding statement_size
returns-in-Vote c =
    let a = c.args in
    let here = c.in_ok-kind.ensures.lookup.4 (omega arith) 0 in
    let size = 1 + 16 + c.ballot_size.result in
    let long : size ≡ statement_size a.width (byte_of c.in-Ok.kind) = rw (c.in-Vote.is, c.ballot_size.ensures.0) (search rules) in
    placed a.width a.size a.items.now a.at c.place-in-Vote.result c.in-Ok.kind size (c.in-Ok.ensures ∙ omega (arith, here)) long (omega arith) c.place-in-Vote.ensures
