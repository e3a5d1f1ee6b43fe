-- The chain of each lane.
use mathlib.Core.Path.{◌≡◌}
use native.Mathlib.Omega.{arith}
use borrow.Author.Rules.{rules}
use Rattle.sha256_lanes.specs.Lane.{lane}
use Rattle.lm_chain_turns.proofs.run.Goals as goal

pub run-requires : goal.run-requires
run-requires c =
    λ l. let number : lane l c.map.result ≡ lane l c.args.i = let h = c.map.ensures l in search rules in
    let p = c.requires.1 l in
    (omega arith, p.1)

pub returns : goal.returns
returns c =
    λ l. let number : lane l c.map.result ≡ lane l c.args.i = let h = c.map.ensures l in search rules in
    let value = c.four_at.ensures l in
    rw (number, value) at (c.run.ensures l)
