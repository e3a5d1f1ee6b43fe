-- The table of checkpoints one record further: where the record is a 64th one its pointer is stored, and otherwise nothing is.
-- Assumes nothing.
use mathlib.Core.Path.{◌≡◌, sym, ap, ◌∙◌}
use mathlib.Core.Bool.{true, false}
use mathlib.Core.List.{List, []}
use mathlib.Core.Logic.{inr, ⊎_elim}
use Prim.Native.Nat.{ℕ, ◌+◌, ◌*◌, ◌/◌, ◌%◌, ◌≤◌}
use native.Mathlib.Omega.{arith}
use borrow.Author.Tests.{leb-true, leb-false}
use lib.Dec.{leb}
use lib.ListN.{length, take, drop}
use lib.Seq.{sets}
use Rattle.words.proofs.Laws.{part_put, part_sets}
use Rattle.refusal.proofs.Laws.{look}
use Rattle.log_chain.specs.Log.{with_terms, pointer}
use Rattle.log_chain.specs.Records.{records_of}
use Rattle.log_checkpoints.specs.Checkpoints.{spacing, Checkpoints, table_size}

-- ---- 32 bytes stored

module _ (t v : List ℕ) (at : ℕ) (long : length v ≡ 32) (room : at + 32 ≤ length t) where
  part-here : take 32 (drop at (sets t at v)) ≡ v
  part-here = ap (λ (n : ℕ). take n (drop at (sets t at v))) (sym long) ∙ part_put t v at (omega arith)

  part-kept : (n : ℕ) → n + 32 ≤ at → take 32 (drop n (sets t at v)) ≡ take 32 (drop n t)
  part-kept n h = part_sets v t n 32 at (inr h)

-- ---- the table

-- it has room for the checkpoint before a record
pub table_room : (records i : ℕ) {size : ℕ} → i ≤ records → table_size records ≤ size → 32 * (i / spacing) + 32 ≤ size
unfolding table_size
table_room records i h room = omega arith

-- the pointer of no record
pub filled_first : (w : ℕ) (s t v : List ℕ) → length v ≡ 32 → 32 ≤ length t → v ≡ pointer (with_terms w []) (records_of w 0 s)
    → Checkpoints w 0 s (sets t 0 v)
unfolding Checkpoints
filled_first w s t v long room e m h =
    let none : m ≡ 0 = omega arith in
    rw none (part-here t v 0 long (omega arith) ∙ e)

module _ (w k : ℕ) (s t : List ℕ) (filled : Checkpoints w k s t) where
  pub filled-same : ((k + 1) % spacing ≡ 0 → ⊥) → Checkpoints w (k + 1) s t
  unfolding Checkpoints
  filled-same e m h =
      ⊎_elim
      (λ (b : leb (spacing * m) k ≡ true). filled m (leb-true (spacing * m) k b))
      (λ (b : leb (spacing * m) k ≡ false). absurd (e (omega (arith, leb-false (spacing * m) k b))))
      (look (leb (spacing * m) k))

  pub filled_more : (v : List ℕ) → length v ≡ 32 → 32 * ((k + 1) / spacing) + 32 ≤ length t → (k + 1) % spacing ≡ 0
      → v ≡ pointer (with_terms w []) (records_of w (k + 1) s) → Checkpoints w (k + 1) s (sets t (32 * ((k + 1) / spacing)) v)
  unfolding Checkpoints
  filled_more v long room e p m h =
      let at = 32 * ((k + 1) / spacing) in
      ⊎_elim
      (λ (b : leb (spacing * m) k ≡ true).
      let before = leb-true (spacing * m) k b in
      part-kept t v at long room (32 * m) (omega (arith, before, e)) ∙ filled m before)
      (λ (b : leb (spacing * m) k ≡ false).
      let here : m ≡ (k + 1) / spacing = omega (arith, leb-false (spacing * m) k b) in
      let last : k + 1 ≡ spacing * m = omega (arith, leb-false (spacing * m) k b) in
      ap (λ (n : ℕ). take 32 (drop (32 * n) (sets t at v))) here ∙ part-here t v at long room ∙ p
      ∙ ap (λ (n : ℕ). pointer (with_terms w []) (records_of w n s)) last)
      (look (leb (spacing * m) k))
