-- The rows of what is taken: those after the first, and a number of a row by its place in the table.
-- Assumes nothing.
use mathlib.Core.Path.{◌≡◌, ◌∙◌}
use mathlib.Core.List.{List}
use Prim.Native.Nat.{ℕ, suc, ◌+◌, ◌*◌, ◌<◌}
use native.Mathlib.Omega.{arith}
use lib.ListN.{drop, get_or}
use lib.Seq.{drop-drop, get_or-take, get_or-drop}
use Rattle.assembly_copies.specs.Rows.{taken_size, row_at}

pub row_later : (taken : List ℕ) (t : ℕ) → row_at (drop taken_size taken) t ≡ row_at taken (suc t)
row_later taken t =
    let next : taken_size + taken_size * t ≡ taken_size * suc t = omega arith in
    rw (drop-drop (taken_size * t) taken_size taken, next)

pub row_cell : (taken : List ℕ) (t k : ℕ) → k < taken_size → get_or (row_at taken t) k 0 ≡ get_or taken (taken_size * t + k) 0
row_cell taken t k h = get_or-take taken_size (drop (taken_size * t) taken) k 0 h ∙ get_or-drop (taken_size * t) taken k 0
