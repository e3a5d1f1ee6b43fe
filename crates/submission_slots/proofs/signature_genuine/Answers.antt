-- The check's answer under the replica's key: on a message that is not too long it is good or bad.
use mathlib.Core.Path.{sym, ap, ◌∙◌}
use mathlib.Core.List.{List}
use Prim.Native.Nat.{ℕ}
use Rattle.lms.specs.Check.{answer}
use Rattle.submission_slots.proofs.Signed.{is-good, is-bad, not-long}
use Rattle.submission_slots.proofs.signature_genuine.Goals as goal

pub returns-in-Good : goal.returns-in-Good
returns-in-Good c =
    let a = c.args in
    let key = c.key_of in
    let e = sym c.check.ensures ∙ c.in-Good.is in
    is-good _ a.message.now a.signature.now c.requires.2 (ap (λ (l : List ℕ). answer l a.message.now a.signature.now) (sym key.ensures.0) ∙ e)

pub returns-in-Bad : goal.returns-in-Bad
returns-in-Bad c =
    let a = c.args in
    let key = c.key_of in
    let e = sym c.check.ensures ∙ c.in-Bad.is in
    is-bad _ a.message.now a.signature.now c.requires.2 (ap (λ (l : List ℕ). answer l a.message.now a.signature.now) (sym key.ensures.0) ∙ e)

pub returns-in-Long : goal.returns-in-Long
returns-in-Long c =
    let a = c.args in
    let e = sym c.check.ensures ∙ c.in-Long.is in
    absurd (not-long _ a.message.now a.signature.now c.requires.2 e)
