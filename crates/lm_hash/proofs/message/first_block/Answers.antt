-- The bytes of the two stand where they are copied to, and zeros after them.
use Rattle.std.proofs.Common.{◌≡◌, ◌-◌, length, rules}
use Prim.Native.Nat.{min}
use Rattle.lm_hash.proofs.Heads.{placed}
use Rattle.lm_hash.proofs.message.first_block.Goals as goal

pub returns : goal.returns
returns c =
    let head = c.args.head.now in
    let message = c.args.message.now in
    let n = c.min-start in
    let m = c.min-more in
    let first : n.result ≡ min (length head) 64 = search rules in
    let second : m.result ≡ min (length message) (64 - n.result) = search rules in
    placed head message c.copy_from_slice.new.self c.copy_from_slice-2.new.self n.result m.result
    c.copy_from_slice.ensures.after c.copy_from_slice-2.ensures.after first second
