-- The eight words have the bytes that they were read from.
use Prim.Native.Nat.{ℕ, ◌<◌}
use lib.ListN.{get_or}
use Rattle.sha256.specs.Sha256.{bytes_of, words_of}
use Rattle.lm_hash.proofs.Values.{eight-words}
use Rattle.lm_hash.proofs.value_at.Goals as goal

pub returns : goal.returns
unfolding bytes_of words_of
returns c =
    let each : (i : ℕ) → get_or c.args.s.now i 0 < 256 = λ i. (c.type_inv.s i).fits in
    simp (c.u32_at-8.ensures.0, c.u32_at-7.ensures.0, c.u32_at-6.ensures.0, c.u32_at-5.ensures.0, c.u32_at-4.ensures.0, c.u32_at-3.ensures.0, c.u32_at-2.ensures.0, c.u32_at.ensures.0)
    (eight-words c.args.s.now c.args.at each c.requires)
