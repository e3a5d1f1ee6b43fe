-- The lines of the replicas: of one that is named, of one that is not, and of one replica after another.
-- Assumes nothing.
use mathlib.Core.Path.{◌≡◌, sym, ap, ◌∙◌}
use mathlib.Core.Bool.{Bool, true, false}
use mathlib.Core.List.{List, [], ◌++◌, append-nil, append_assoc}
use Prim.Native.Nat.{ℕ, zero, suc, ◌+◌, ◌-◌, ◌*◌, ◌<◌}
use native.Mathlib.Nat.{add-suc, suc-add, zero-add}
use native.Mathlib.Omega.{arith}
use lib.ListN.{get_or}
use Rattle.words.specs.BigEndian.{number_at}
use Rattle.roster.specs.Masks.{signer}
use Rattle.text_line.specs.Texts.{refusal_line, replica_line}
use Rattle.text_report.specs.Lines.{row_at, named_line, replica_lines}
use Rattle.text_decimal.specs.Put.{Put}
use Rattle.text_decimal.proofs.Puts.{put_then, put_none}

-- ---- number and where

pub refusal_of : {number place n w : ℕ} → number ≡ n → place ≡ w → refusal_line number place ≡ refusal_line n w
refusal_of e f = rw (e, f)

-- ---- a replica

-- what a test of the named replicas tells
pub told : (report : List ℕ) (k : ℕ) {mask : ℕ} {b r : Bool} → mask ≡ number_at 2 report 6 → b ≡ signer mask k → b ≡ r
    → signer (number_at 2 report 6) k ≡ r
told report k m s b = ap (λ (x : ℕ). signer x k) (sym m) ∙ sym s ∙ b

pub unnamed : (report : List ℕ) (k : ℕ) → signer (number_at 2 report 6) k ≡ false → [] ≡ named_line report k
unfolding named_line
unnamed report k e = rw e

pub named : (report : List ℕ) (k rule term : ℕ) → signer (number_at 2 report 6) k ≡ true → rule ≡ get_or report (8 + 5 * (k - 1)) 0
    → term ≡ number_at 4 report (8 + 5 * (k - 1) + 1) → replica_line k rule term ≡ named_line report k
unfolding named_line row_at
named report k rule term e r t = rw (e, r, t)

-- ---- the replicas

-- one replica more
replicas_more : (report : List ℕ) (count k : ℕ) → replica_lines report (suc count) k ≡ replica_lines report count k ++ named_line report (count + k)
unfolding replica_lines
replicas_more report zero k = append-nil (named_line report k) ∙ ap (named_line report) (sym (zero-add k))
replicas_more report (suc count) k =
    rw (replicas_more report count (suc k), suc-add, ← add-suc)
    (sym (append_assoc (named_line report k) (replica_lines report count (suc k)) (named_line report (count + suc k))))

module _ (report : List ℕ) {e : List ℕ} {at : ℕ} where
  pub no-replicas : Put e e at at (replica_lines report 0 1) 0
  unfolding replica_lines
  no-replicas = put_none e at 0

  -- one replica more: the lines of the replicas before k, then the line of k
  pub next-replica : {e₁ e₂ : List ℕ} {n m : ℕ} (k : ℕ) → 0 < k → Put e e₁ at n (replica_lines report (k - 1) 1) (49 * (k - 1))
      → Put e₁ e₂ n m (named_line report k) 49 → Put e e₂ at m (replica_lines report (k + 1 - 1) 1) (49 * (k + 1 - 1))
  next-replica k h p q =
      let replica : k - 1 + 1 ≡ k = omega arith in
      let count : k + 1 - 1 ≡ suc (k - 1) = omega arith in
      let room : 49 * suc (k - 1) ≡ 49 * (k - 1) + 49 = omega arith in
      let more = rw replica at (replicas_more report (k - 1) 1) in
      rw (count, more, room) (put_then p q)
