-- The bytes of the hash value's words, written one word after the other.
-- Assumes nothing.
use mathlib.Core.Path.{◌≡◌}
use mathlib.Core.List.{List, flat_map}
use Prim.Native.Nat.{ℕ, ◌+◌, ◌*◌, ◌≤◌, ◌<◌}
use native.Mathlib.Numerals.{add-one}
use native.Mathlib.Omega.{arith}
use lib.ListN.{length, get_or, take}
use lib.Seq.{take-suc, sets}
use Rattle.words.specs.BigEndian.{be}
use Rattle.words.proofs.Laws.{length-be, take-sets}
use Rattle.words.proofs.FlatMap.{flat_map-one}

-- one word more
pub put_step : (out w : List ℕ) (i : ℕ) → i < length w → 4 * i + 4 ≤ length out → take (4 * i) out ≡ flat_map (be 4) (take i w)
    → take (4 * (i + 1)) (sets out (4 * i) (be 4 (get_or w i 0))) ≡ flat_map (be 4) (take (i + 1) w)
put_step out w i inside room e =
    let four : length (be 4 (get_or w i 0)) ≡ 4 = length-be 4 (get_or w i 0) in
    let next : 4 * (i + 1) ≡ 4 * i + length (be 4 (get_or w i 0)) = omega arith in
    rw (next, take-sets out (be 4 (get_or w i 0)) (4 * i) (omega arith), e, add-one, take-suc w i 0 inside, flat_map-one)
