-- Two words of the schedule and two rounds a turn, in each lane.
use Prim.Native.Nat.{ℕ, ◌+◌, ◌-◌, ◌<◌}
use mathlib.Core.Path.{◌≡◌, refl, sym, ap, ◌∙◌}
use mathlib.Core.List.{List}
use native.Mathlib.Omega.{arith}
use lib.ListN.{length, get_or}
use Rattle.sha256.specs.Sha256.{schedule, rounds}
use Rattle.sha256_lanes.specs.Lane.{lane, word_in}
use Rattle.sha256_lanes.proofs.Turns.{block-word, round_turn}
use Rattle.sha256_lanes.proofs.rounds.Goals as goal
use Rattle.sha256_lanes.proofs.rounds.Goals.{then-i-ge-BLOCK_WORDS, else-i-ge-BLOCK_WORDS}

pub loop-i-init : goal.loop-i-init
unfolding rounds
loop-i-init c =
    let p = c.requires in
    (omega arith, omega arith, refl, p.1, p.0, λ l m long e. (λ n h. e n h ∙ sym (block-word m long n h), refl))

pub words_at-requires : goal.words_at-requires
words_at-requires c = (c.if-i-ge-BLOCK_WORDS.true, let t = c.loop-i in omega (arith, t.invariant.2, t.invariant.3))

pub at-requires : goal.at-requires
at-requires c = let t = c.loop-i in omega (arith, t.invariant.4)

pub at-requires-in-loop-i : goal.at-requires-in-loop-i
at-requires-in-loop-i c =
    let t = c.loop-i in
    let sized : length c.if-i-ge-BLOCK_WORDS.w ≡ 256 =
    elim c.if-i-ge-BLOCK_WORDS.branch [ then-i-ge-BLOCK_WORDS w ↦ let e = ap length w.w-is in omega (arith, e, t.invariant.3) | else-i-ge-BLOCK_WORDS w ↦ ap length w.w-is ∙ t.invariant.3 ] in
    omega (arith, sized)

pub at-requires-in-loop-i-2 : goal.at-requires-in-loop-i-2
at-requires-in-loop-i-2 c = let t = c.loop-i in omega (arith, t.invariant.2, t.invariant.4)

pub at-requires-in-loop-i-3 : goal.at-requires-in-loop-i-3
at-requires-in-loop-i-3 c =
    let t = c.loop-i in
    let sized : length c.if-i-ge-BLOCK_WORDS.w ≡ 256 =
    elim c.if-i-ge-BLOCK_WORDS.branch [ then-i-ge-BLOCK_WORDS w ↦ let e = ap length w.w-is in omega (arith, e, t.invariant.3) | else-i-ge-BLOCK_WORDS w ↦ ap length w.w-is ∙ t.invariant.3 ] in
    omega (arith, sized, t.invariant.2)

pub loop-i-preserved : goal.loop-i-preserved
loop-i-preserved c =
    let t = c.loop-i in
    let sized : length c.if-i-ge-BLOCK_WORDS.w ≡ 256 =
    elim c.if-i-ge-BLOCK_WORDS.branch [ then-i-ge-BLOCK_WORDS w ↦ let e = ap length w.w-is in omega (arith, e, t.invariant.3) | else-i-ge-BLOCK_WORDS w ↦ ap length w.w-is ∙ t.invariant.3 ] in
    let b = c.if-i-ge-BLOCK_WORDS in
    let more : t.i < 64 = c.loop-i-test.true in
    let p = c.requires in (
      omega arith,
      omega (arith, t.invariant.2),
      omega (arith, t.invariant.2),
      sized,
      t.invariant.4,
      λ l m long e.
          let last = t.invariant.5 l m long e in
          let words : (n : ℕ) → n < 16 + (t.i + 2 - 16) → word_in l b.w n ≡ get_or (schedule m) n 0 =
          λ n h. elim b.branch [
            | then-i-ge-BLOCK_WORDS w ↦
                ap (λ (x : List ℕ). word_in l x n) w.w-is ∙ w.words_at.ensures l m long (omega (arith, more, t.invariant.2)) (λ n h. last.0 n (omega arith)) n (omega arith)
            | else-i-ge-BLOCK_WORDS w ↦ ap (λ (x : List ℕ). word_in l x n) w.w-is ∙ last.0 n (omega (arith, t.invariant.2))
          ] in (
            words,
            round_turn t.i (schedule m) _ _ _ _ _ _ _ t.invariant.0
                (c.at.ensures l ∙ p.2 l t.i (omega arith))
                (c.at-in-loop-i.ensures l ∙ words t.i (omega arith))
                (c.at-in-loop-i-2.ensures l ∙ p.2 l (t.i + 1) (omega (arith, t.invariant.2)))
                (c.at-in-loop-i-3.ensures l ∙ words (t.i + 1) (omega (arith, t.invariant.2)))
                last.1 (c.step-s.ensures l),
          ),
    )

pub shape_of-w : goal.shape_of-w
shape_of-w c = let e = c.loop-i.invariant.3 in omega arith

pub returns : goal.returns
unfolding lane
returns c =
    let t = c.loop-i in
    let end : t.i ≡ 64 = omega arith in
    λ l m long e.
    let f = t.invariant.5 l m long e in
    (λ n h. f.0 n (omega arith) ∙ block-word m long n h, (rw end at f.1) ∙ ap (rounds 60 4 (schedule m)) (c.same-s.ensures l))
