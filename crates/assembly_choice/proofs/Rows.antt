-- A table row by row: a row that is put down is the only one that changes.
-- Assumes nothing.
use mathlib.Core.Path.{◌≡◌, sym, ap, ◌∙◌}
use mathlib.Core.List.{List}
use mathlib.Core.Logic.{inl, inr, ⊎_elim}
use mathlib.Core.Bool.{true, false, cond}
use Prim.Native.Nat.{ℕ, suc, ◌+◌, ◌-◌, ◌*◌, ◌≤◌, ◌<◌}
use native.Mathlib.Omega.{arith}
use native.Mathlib.Nat.{eq-or-lt_of_le, add-zero}
use borrow.Author.Tests.{eq-eqb, ne_eqb, ltb-true, ltb-false}
use lib.Dec.{eqb, ltb}
use lib.ListN.{length, get_or, take, drop}
use lib.Seq.{sets, drop-drop, get_or-drop}
use Rattle.words.proofs.Laws.{part_put, part_sets}
use Rattle.refusal.proofs.Laws.{look}
use Rattle.assembly_copies.specs.Rows.{taken_size, row_at}
use Rattle.assembly_choice.specs.Settled.{all_taken}

-- ---- a row put down

pub row_put : (l vs : List ℕ) (t : ℕ) → length vs ≡ taken_size → taken_size * t + taken_size ≤ length l → row_at (sets l (taken_size * t) vs) t ≡ vs
row_put l vs t size room =
    ap (λ (n : ℕ). take n (drop (taken_size * t) (sets l (taken_size * t) vs))) (sym size) ∙ part_put l vs (taken_size * t) (omega arith)

pub row_kept : (l vs : List ℕ) (t u : ℕ) → length vs ≡ taken_size → (u ≡ t → ⊥) → row_at (sets l (taken_size * t) vs) u ≡ row_at l u
row_kept l vs t u size other =
    ⊎_elim
    (λ (h : ltb u t ≡ true). part_sets vs l (taken_size * u) taken_size (taken_size * t) (inr (omega (arith, ltb-true u t h))))
    (λ (h : ltb u t ≡ false). part_sets vs l (taken_size * u) taken_size (taken_size * t) (inl (after (ltb-false u t h))))
    (look (ltb u t))
  where
    after : t ≤ u → taken_size * t + length vs ≤ taken_size * u
    after h = let later : t < u = ⊎_elim (λ e. absurd (other (sym e))) (λ k. k) (eq-or-lt_of_le h) in omega arith

-- ---- whether each row has a candidate: one row after the other

module _ (count t : ℕ) (more : t < count) (taken : List ℕ) where
  taken_step : all_taken (count - t) (drop (taken_size * t) taken)
      ≡ cond (eqb (get_or taken (taken_size * t) 0) 0) false (all_taken (count - (t + 1)) (drop (taken_size * (t + 1)) taken))
  unfolding all_taken
  taken_step =
      let one_more : count - t ≡ suc (count - (t + 1)) = omega arith in
      let next : taken_size * t + taken_size ≡ taken_size * (t + 1) = omega arith in
      rw (one_more, get_or-drop (taken_size * t) taken 0 0, drop-drop taken_size (taken_size * t) taken, next, add-zero)

  pub taken_none : get_or taken (taken_size * t) 0 ≡ 0 → all_taken (count - t) (drop (taken_size * t) taken) ≡ false
  taken_none e = taken_step ∙ rw (eq-eqb _ 0 e)

  pub taken_next : (get_or taken (taken_size * t) 0 ≡ 0 → ⊥)
      → all_taken (count - t) (drop (taken_size * t) taken) ≡ all_taken (count - (t + 1)) (drop (taken_size * (t + 1)) taken)
  taken_next h = taken_step ∙ rw (ne_eqb _ 0 h)
