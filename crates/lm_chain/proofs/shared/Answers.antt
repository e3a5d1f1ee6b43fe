-- Four rounds.
use native.Mathlib.Omega.{arith}
use Rattle.sha256_tables.specs.Constants.{constants}
use mathlib.Core.Path.{ap, sym, ◌∙◌}
use mathlib.Core.List.{List}
use Prim.Native.Nat.{ℕ, ◌^◌, ◌<◌}
use Rattle.sha256.specs.Sha256.{rounds, initial}
use Rattle.lm_chain_blocks.proofs.Blocks.{front_words}
use Rattle.lm_chain.proofs.shared.Goals as goal

pub returns : goal.returns
unfolding constants rounds
returns c =
    let l = c.args.leaf in
    let h0 : l.i0 < 2 ^ 32 = omega (arith, c.well_formed) in
    let h1 : l.i1 < 2 ^ 32 = omega (arith, c.well_formed) in
    let h2 : l.i2 < 2 ^ 32 = omega (arith, c.well_formed) in
    let h3 : l.i3 < 2 ^ 32 = omega (arith, c.well_formed) in
    λ i j t. (simp (
      c.round-4.ensures,
      c.round-3.ensures,
      c.round-2.ensures,
      c.round.ensures,
      c.new.ensures,
    )) ∙ ap (λ (w : List ℕ). rounds 4 0 w initial) (sym (front_words l i j t h0 h1 h2 h3))
