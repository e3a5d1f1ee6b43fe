-- The part from a key's place on, as long as a key.
use mathlib.Core.Path.{◌≡◌}
use Prim.Native.Nat.{◌+◌, ◌-◌, ◌*◌, ◌≤◌}
use native.Mathlib.Omega.{arith}
use lib.ListN.{length, drop, length-drop}
use lib.Seq.{length-take-le}
use Rattle.lm_format.specs.Format.{key_size}
use Rattle.roster.specs.Roster.{head_size, key_of}
use Rattle.roster.proofs.key_of.Goals as goal

pub returns : goal.returns
unfolding key_of
returns c =
    let roster = c.args.roster.now in
    let at = head_size + key_size * (c.args.k - 1) in
    let count : at + key_size - at ≡ key_size = omega arith in
    let room : key_size ≤ length (drop at roster) = rw length-drop (omega arith) in
    (rw count, rw count (length-take-le key_size (drop at roster) room))
