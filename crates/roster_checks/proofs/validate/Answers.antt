-- Each check that is not met ends the validation with its number.
use mathlib.Core.Path.{sym, ◌∙◌}
use Rattle.std.proofs.Common.{rules}
use Rattle.roster.specs.Roster.{typed, single}
use Rattle.roster_checks.proofs.Answers.{unsized, untyped, duplicate, accept}
use Rattle.roster_checks.proofs.validate.Goals as goal

pub returns-in_default : goal.returns-in_default
returns-in_default c = unsized c.args.roster.now c.in_default.ensures

pub returns-then-not-every_replica : goal.returns-then-not-every_replica
returns-then-not-every_replica c =
    let roster = c.args.roster.now in
    let size = c.in-Some.ensures in
    let types = c.every_replica.ensures (typed roster) (λ k b e. search rules) in
    untyped roster size.0 (rw (← size.1) (sym types ∙ c.if-not-every_replica.true))

pub returns-then-not-every_replica-2 : goal.returns-then-not-every_replica-2
returns-then-not-every_replica-2 c =
    let roster = c.args.roster.now in
    let size = c.in-Some.ensures in
    let types = c.every_replica.ensures (typed roster) (λ k b e. search rules) in
    let keys = c.every_replica-2.ensures (single roster) (λ k b e. search rules) in
    duplicate roster size.0
    (rw (← size.1) (sym types ∙ c.if-not-every_replica.false))
    (rw (← size.1) (sym keys ∙ c.if-not-every_replica-2.true))

pub returns : goal.returns
returns c =
    let roster = c.args.roster.now in
    let size = c.in-Some.ensures in
    let types = c.every_replica.ensures (typed roster) (λ k b e. search rules) in
    let keys = c.every_replica-2.ensures (single roster) (λ k b e. search rules) in
    accept roster size.0
    (rw (← size.1) (sym types ∙ c.if-not-every_replica.false))
    (rw (← size.1) (sym keys ∙ c.if-not-every_replica-2.false))
