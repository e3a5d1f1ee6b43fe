-- Two stores, and the places in one piece.
use mathlib.Core.Path.{◌≡◌, refl, sym, ◌∙◌}
use mathlib.Core.List.{append_assoc}
use Prim.Native.Nat.{suc, ◌+◌, ◌-◌, ◌≤◌}
use native.Mathlib.Omega.{arith}
use lib.ListN.{length, take, set, length-set}
use lib.Seq.{length-take-le, sets-eq}
use Rattle.std.proofs.lemmas.List.Edits.{paste_all}
use Rattle.std.proofs.lemmas.Slice.{put_mid-paste}
use Rattle.assembly_copies.proofs.places.put_row.Goals as goal

pub returns : goal.returns
returns c =
    let a = c.args in
    let stored = set (set a.table.now a.at a.first) (a.at + 1) a.stamp in
    let places = take 9 a.places.now in
    let long : length places ≡ 9 = length-take-le 9 a.places.now (omega arith) in
    let room : a.at + 2 + length places ≤ length stored = simp length-set (omega (arith, long)) in
    let part : a.at + 2 + 9 - (a.at + 2) ≡ 9 = omega arith in
    let end : a.at + 2 + length places ≡ a.at + 2 + 9 = omega (arith, long) in
    let second : a.at + 1 ≡ suc a.at = omega arith in
    let third : a.at + 2 ≡ suc (suc a.at) = omega arith in
    let pasted = put_mid-paste (a.at + 2) 9 stored c.copy_from_slice.new.self places 9 c.copy_from_slice.ensures.after refl (sym long) in
    let apart = sym (rw end at (sets-eq places stored (a.at + 2) room)) in
    let joined = pasted ∙ paste_all stored (a.at + 2) places 9 (sym long) ∙ sym (append_assoc (take (a.at + 2) stored) places _) ∙ apart in
    rw part (joined ∙ (rw (third, second)))
