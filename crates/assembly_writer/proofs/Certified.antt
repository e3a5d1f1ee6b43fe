-- Parts 2 to 4, one after the other.
-- Assumes nothing.
use mathlib.Core.Path.{◌≡◌}
use mathlib.Core.List.{List, ◌++◌}
use Prim.Native.Nat.{ℕ, ◌*◌, ◌≤◌}
use native.Mathlib.Omega.{arith}
use lib.ListN.{length, drop, length-append}
use Rattle.words.specs.Over.{over}
use Rattle.words.proofs.Over.{Begun}
use Rattle.assembly_copies.specs.Rows.{taken_size}
use Rattle.assembly_writer.specs.declared.Plan.{Plan}
use Rattle.assembly_writer.specs.Parts.{leaders_part, stamps_part, commit_part, certified_part}

module _ (item_bytes votes taken e : List ℕ) (p : Plan) (room : length (certified_part item_bytes p votes taken) ≤ length e) where
  abbrev two : List ℕ
  two = leaders_part item_bytes p votes taken

  abbrev three : List ℕ
  three = stamps_part item_bytes p taken

  abbrev four : List ℕ
  four = commit_part p.size item_bytes p.replicas (drop (taken_size * p.leaders) taken)

  whole_room : length ((two ++ three) ++ four) ≤ length e
  unfolding certified_part
  whole_room = room

  first-room : length (two ++ three) ≤ length e
  first-room = omega (arith, whole_room, length-append (two ++ three) four)

  pub leaders-room : length two ≤ length e
  leaders-room = omega (arith, first-room, length-append two three)

  pub leaders-begun : {out : List ℕ} {at : ℕ} → at ≡ length two → out ≡ over two e → Begun two three e out at
  leaders-begun h o = record { room = first-room; put = o; here = h }

  pub stamps-begun : {out : List ℕ} {at : ℕ} → at ≡ length (two ++ three) → out ≡ over (two ++ three) e → Begun (two ++ three) four e out at
  stamps-begun h o = record { room = whole_room; put = o; here = h }
