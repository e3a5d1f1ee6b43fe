-- Three stores make an entry.
use mathlib.Core.Path.{refl, ap, ◌∙◌}
use mathlib.Core.List.{List, [], ◌∷◌}
use Prim.Native.Nat.{ℕ, ◌+◌, ◌*◌}
use native.Mathlib.Omega.{arith}
use lib.ListN.{length-set}
use lib.Seq.{sets}
use Rattle.submission_leaves.specs.Entries.{entry_size}
use Rattle.submission_leaves.proofs.Entries.{entry_added}
use Rattle.submission_leaves.proofs.add_use.Goals as goal

pub put_bytes-requires : goal.put_bytes-requires
put_bytes-requires c =
    let put = c.put_u32 in
    let p = c.requires in
    rw length-set (omega (arith, put.auto.out, p.0, p.2))

pub shape_of-buffer : goal.shape_of-buffer
shape_of-buffer c =
    rw length-set at c.put_bytes.auto.out ∙ c.put_u32.auto.out

pub returns : goal.returns
returns c =
    let a = c.args in
    let at = entry_size * a.n in record {
      count = refl;
      uses = entry_added a.n a.leaf a.size a.buffer.now _ a.statement.now (omega arith) c.requires.0 c.requires.2
          (c.put_bytes.ensures
          ∙ ap (λ (z : List ℕ). sets (sets z (at + 4) (a.size ∷ [])) (at + 4 + 1) a.statement.now) c.put_u32.ensures);
    }
