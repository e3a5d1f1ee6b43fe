-- Heights of at most 25 levels, and what the tests of a signature leave.
-- Assumes nothing.
use mathlib.Core.Path.{◌≡◌}
use mathlib.Core.Bool.{Bool, true, false, cond}
use mathlib.Core.List.{List}
use Prim.Native.Nat.{ℕ, ◌+◌, ◌*◌, ◌%◌, ◌^◌, ◌≤◌, ◌<◌}
use native.Mathlib.Omega.{arith}
use borrow.Author.Tests.{ltb-true, eqb-true}
use lib.Dec.{eqb, lit≤}
use lib.ListN.{length}
use lib.Pow.{pow_mono}
use Rattle.words.specs.BigEndian.{number_at}
use Rattle.refusal.proofs.Laws.{cond-true}
use Rattle.lm_digits.specs.declared.Parameters.{Parameters}
use Rattle.std.specs.Prelude.{Option, Some, None}
use Rattle.lm_format.specs.Format.{height, one_time_bytes, signature_length}
use Rattle.lm_format.specs.Formed.{formed}

-- ---- heights

-- the code's 1 << h
pub shifted_one : (h : ℕ) → h ≤ 25 → 1 * 2 ^ h % 4294967296 ≡ 2 ^ h
shifted_one h le = omega (arith, pow_mono le)

-- a tree has at most 25 levels
pub height-le : (number : ℕ) {h : ℕ} → height number ≡ Some h → h ≤ 25
unfolding height
height-le number {h} =
    arm (eqb number 5) (lit≤ tt) (arm (eqb number 6) (lit≤ tt)
    (arm (eqb number 7) (lit≤ tt) (arm (eqb number 8) (lit≤ tt) (arm (eqb number 9) (lit≤ tt) none))))
  where
    arm : (t : Bool) {n : ℕ} {rest : Option ℕ} → n ≤ 25 → (rest ≡ Some h → h ≤ 25) → cond t (Some n) rest ≡ Some h → h ≤ 25
    arm true {n = n} p q e = let same : n ≡ h = cc in rw (← same) p
    arm false p q e = q e

    none : None ≡ Some h → h ≤ 25
    none e = let z : ◌≡◌ {A = ℕ} 0 1 = cc in omega arith

-- ---- what the tests leave

module _ (o : Parameters) (h : ℕ) (key sig : List ℕ) where
  pub formed-facts : formed o h key sig ≡ true → (length sig ≡ signature_length o h) × (number_at 4 sig 0 < 2 ^ h)
  unfolding formed
  formed-facts e =
      let first = cond-true (eqb (length sig) (signature_length o h)) _ e in
      let second = cond-true (eqb (number_at 4 sig 4) (number_at 4 key 4)) _ first.1 in
      let third = cond-true (eqb (number_at 4 sig (8 + one_time_bytes o)) (number_at 4 key 0)) _ second.1 in
      (eqb-true _ _ first.0, ltb-true _ _ third.1)
