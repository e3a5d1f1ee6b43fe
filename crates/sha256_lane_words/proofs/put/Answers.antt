-- The four words, one after the other.
use native.Mathlib.Omega.{arith}
use lib.ListN.{length-set}
use Rattle.sha256_lane_words.proofs.Places.{put_words}
use Rattle.sha256_lane_words.proofs.put.Goals as goal

pub bounds-w-n-2 : goal.bounds-w-n-2
bounds-w-n-2 c = simp length-set (omega arith)

pub bounds-w-n-3 : goal.bounds-w-n-3
bounds-w-n-3 c = simp length-set (omega arith)

pub bounds-w-n-4 : goal.bounds-w-n-4
bounds-w-n-4 c = simp length-set (omega arith)

pub shape_of-w : goal.shape_of-w
shape_of-w c = simp length-set

pub returns : goal.returns
returns c = let a = c.args in put_words a.w.now a.i a.v c.requires
