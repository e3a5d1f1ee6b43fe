-- The term of the last of the first i records.
use mathlib.Core.Path.{◌≡◌, sym, ap, ◌∙◌}
use Prim.Native.Nat.{ℕ, suc, ◌-◌}
use native.Mathlib.Omega.{arith}
use Rattle.log_chain.specs.Log.{last_term, term_from}
use Rattle.log_chain.specs.Records.{records_of}
use Rattle.log_terms.proofs.Records.{records-last, record_inside}
use Rattle.log_terms.proofs.Walks.{record_term}
use Rattle.log_terms.proofs.last_term.Goals as goal

pub returns-then-i-eq0 : goal.returns-then-i-eq0
unfolding last_term term_from records_of
returns-then-i-eq0 c = rw c.if-i-eq0.true

pub term_after-requires : goal.term_after-requires
term_after-requires c =
    let a = c.args in
    let here = c.requires in
    (here.0, omega (arith, record_inside a.width (a.i - 1) a.i (omega arith), here.1))

pub returns : goal.returns
returns c =
    let a = c.args in
    let i = a.i in
    let w = a.width in
    let s = a.s.now in
    let count : i ≡ suc (i - 1) = omega arith in
    c.term_after.ensures ∙ record_term w s (i - 1) ∙ sym (records-last w (i - 1) s) ∙ ap (λ (k : ℕ). last_term (records_of w k s)) (sym count)
