-- One test a record.
use mathlib.Core.Bool.{Bool}
use mathlib.Core.Path.{refl, ◌∙◌}
use Prim.Native.Nat.{ℕ, ◌+◌, ◌-◌}
use borrow.Author.Rules.{rules}
use lib.Dec.{eqb}
use Rattle.std.proofs.Common.{tests}
use Rattle.std.proofs.lemmas.Iterator.{YieldsList-from_range}
use Rattle.std.proofs.lemmas.Iterator.Search.{any_from_yields_List}
use Rattle.log_chain.specs.Log.{last_term}
use Rattle.log_chain.specs.Records.{records_of}
use Rattle.log_distinct.proofs.Counting.{any_later}
use Rattle.log_distinct.proofs.occurs_after.Goals as goal

pub returns : goal.returns
returns c =
    let a = c.args in
    let test : ℕ → Bool = λ k. eqb (last_term (records_of a.width (k + 1) a.s.now)) a.term in
    any_from_yields_List test _ _ c.any.result c.any.ensures.ran (YieldsList-from_range a.i a.records (a.records - a.i) refl refl)
    (λ x b q k. search (rules, tests))
    ∙ any_later a.width a.term a.s.now (a.records - a.i) a.i
