-- The tests that need no hash, and after them the root decides; the leaf's number is read where it stands.
use mathlib.Core.Path.{◌≡◌, sym, ap, ◌∙◌}
use mathlib.Core.Bool.{true}
use mathlib.Core.List.{List}
use Prim.Native.Nat.{ℕ}
use native.Mathlib.Omega.{arith}
use lib.ListN.{drop}
use Rattle.words.specs.BigEndian.{same}
use Rattle.lm_format.specs.Format.{path_at, signature_length}
use Rattle.lm_format.specs.Formed.{formed}
use Rattle.lm_format.proofs.Forms.{formed-facts}
use Rattle.lm_format.proofs.Leaf.{leaf-number}
use Rattle.lms.specs.Check.{root_of}
use Rattle.lms.proofs.Answers.{unformed, other-root, same-root}
use Rattle.lms.proofs.verify.Goals as goal

pub returns-then-not-signature_formed : goal.returns-then-not-signature_formed
returns-then-not-signature_formed c =
    let a = c.args in
    unformed a.o a.h a.key.now a.message.now a.signature.now (sym c.signature_formed.ensures ∙ c.if-not-signature_formed.true)

pub root_of-candidate-requires : goal.root_of-candidate-requires
root_of-candidate-requires c =
    let a = c.args in
    let p = c.requires in
    let facts = formed-facts a.o a.h a.key.now a.signature.now (sym c.signature_formed.ensures ∙ c.if-not-signature_formed.false) in
    (p.0, p.1, p.2, p.3, facts.0, facts.1)

pub returns-then-not-matches : goal.returns-then-not-matches
returns-then-not-matches c =
    let a = c.args in
    let key = a.key.now in
    let message = a.message.now in
    let sig = a.signature.now in
    let well-formed : formed a.o a.h key sig ≡ true = sym c.signature_formed.ensures ∙ c.if-not-signature_formed.false in
    let by-root : c.matches.result ≡ same (root_of a.o a.h key message sig) (drop 24 key) =
    c.matches.ensures ∙ ap (λ (l : List ℕ). same l (drop 24 key)) c.root_of-candidate.ensures.root in
    other-root a.o a.h key message sig well-formed c.root_of-candidate.ensures.steps (sym by-root ∙ c.if-not-matches.true)

pub u32_at-requires : goal.u32_at-requires
unfolding signature_length path_at
u32_at-requires c =
    let a = c.args in
    let key = a.key.now in
    let sig = a.signature.now in
    let well-formed : formed a.o a.h key sig ≡ true = sym c.signature_formed.ensures ∙ c.if-not-signature_formed.false in
    omega (arith, (formed-facts a.o a.h key sig well-formed).0)

pub returns : goal.returns
returns c =
    let a = c.args in
    let key = a.key.now in
    let message = a.message.now in
    let sig = a.signature.now in
    let well-formed : formed a.o a.h key sig ≡ true = sym c.signature_formed.ensures ∙ c.if-not-signature_formed.false in
    let by-root : c.matches.result ≡ same (root_of a.o a.h key message sig) (drop 24 key) =
    c.matches.ensures ∙ ap (λ (l : List ℕ). same l (drop 24 key)) c.root_of-candidate.ensures.root in
    same-root a.o a.h key message sig well-formed c.root_of-candidate.ensures.steps (sym by-root ∙ c.if-not-matches.false)
    (c.u32_at.ensures.0 ∙ leaf-number key sig)
