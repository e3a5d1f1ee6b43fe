-- One term after the other: the rows passed are settled, the others as they were.
-- Assumes nothing.
use mathlib.Core.Path.{◌≡◌, refl, ◌∙◌}
use mathlib.Core.Bool.{true, false}
use mathlib.Core.List.{List, ◌∷◌}
use Prim.Native.Nat.{ℕ, ◌+◌, ◌-◌, ◌*◌, ◌≤◌}
use native.Mathlib.Omega.{arith}
use borrow.Author.Count.{below_more}
use lib.ListN.{length, get_or, take, drop}
use lib.Seq.{sets, length-take-le}
use Rattle.submission_encoding.specs.Copies.{signers_of}
use Rattle.roster.specs.Sizes.{replicas_most}
use Rattle.assembly_copies.specs.Rows.{taken_size, copies_at, row_at}
use Rattle.assembly_choice.specs.Settled.{electable, settled_row, Settled}
use Rattle.assembly_choice.proofs.Rows.{row_put, row_kept}

-- the rows from one on are as they were
unfoldable pub Kept : ℕ → List ℕ → List ℕ → Type 0
Kept t before after = (u : ℕ) → t ≤ u → row_at after u ≡ row_at before u

pub settled_none : (n c : ℕ) (voted stamped before : List ℕ) → Settled n c voted stamped 0 before before × Kept 0 before before
unfolding Settled Kept
settled_none n c voted stamped before = (λ S item_bytes t h. absurd (omega arith), λ u h. refl)

module _ (n c : ℕ) (voted stamped before after : List ℕ) (t mask : ℕ)
    (signed : (S : ℕ) (item_bytes : List ℕ) → mask ≡ signers_of (copies_at S item_bytes n (drop (replicas_most * t) voted)))
    (settled : Settled n c voted stamped t before after) (kept : Kept t before after) where
  abbrev stamp : ℕ
  stamp = get_or stamped (replicas_most * t + c - 1) 0

  abbrev row : List ℕ
  row = c ∷ stamp ∷ take replicas_most (drop (replicas_most * t) voted)

  pub settled-put : replicas_most ≤ length (drop (replicas_most * t) voted) → taken_size * t + taken_size ≤ length after → electable n mask c stamp ≡ true
      → Settled n c voted stamped (t + 1) before (sets after (taken_size * t) row) × Kept (t + 1) before (sets after (taken_size * t) row)
  unfolding Settled settled_row Kept
  settled-put long room is-electable =
      let size : length row ≡ taken_size = rw (length-take-le replicas_most (drop (replicas_most * t) voted) long) in (
        λ S item_bytes.
            below_more _ t
            (λ u h. row_kept after row t u size (λ e. omega arith) ∙ settled S item_bytes u h)
            (row_put after row t size room ∙ rw (← signed S item_bytes, is-electable) refl),
        λ u h. row_kept after row t u size (λ e. omega arith) ∙ kept u (omega arith),
      )

  pub settled-left : electable n mask c stamp ≡ false → Settled n c voted stamped (t + 1) before after × Kept (t + 1) before after
  unfolding Settled settled_row Kept
  settled-left will-not =
      (λ S item_bytes. below_more _ t (settled S item_bytes) (rw (← signed S item_bytes, will-not) (kept t (omega arith))), λ u h. kept u (omega arith))
