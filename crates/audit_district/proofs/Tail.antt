-- What the pairs show, in three stores one after the other, behind the numbers.
-- Assumes nothing.
use mathlib.Core.Path.{◌≡◌, refl, sym, ap, ◌∙◌}
use mathlib.Core.List.{List, ◌++◌}
use Prim.Native.Nat.{ℕ, ◌+◌, ◌≤◌}
use native.Mathlib.Omega.{arith}
use lib.ListN.{length, length-append}
use lib.Seq.{sets}
use Rattle.words.specs.BigEndian.{be}
use Rattle.words.specs.Over.{over}
use Rattle.words.proofs.Laws.{length-be, sets-append}
use Rattle.words.proofs.Over.{over_next}
use Rattle.std.specs.Prelude.{Option, Some, None}
use Rattle.district.specs.declared.Fork.{Fork}
use Rattle.district.specs.declared.Shown.{Shown}
use Rattle.district_parts.specs.Parts.{parts}
use Rattle.district_parts.proofs.Parts.{parts-length}
use Rattle.district.specs.District.{accepted, pairs, shown, tail_size, number_bytes, fork_bytes, tail_bytes, district_bytes}
use Rattle.district.proofs.Judged.{numbers-length}

-- the positions of a fork's pair, 0 and 0 for none
abbrev pub positions : Option Fork → ℕ × ℕ
positions None = (0, 0)
positions (Some f) = (f.lower, f.higher)

positions-bytes : (o : Option Fork) (p : ℕ × ℕ) → p ≡ positions o → be 1 p.0 ++ be 1 p.1 ≡ fork_bytes o
unfolding fork_bytes
positions-bytes None p e = rw e
positions-bytes (Some f) p e = rw e

pub tail_parts : (e e₁ e₂ e₃ : List ℕ) (at : ℕ) (s : Shown) (p : ℕ × ℕ) → p ≡ positions s.fork → e₁ ≡ sets e at (be 2 s.named)
    → e₂ ≡ sets e₁ (at + 2) (be 1 p.0) → e₃ ≡ sets e₂ (at + 3) (be 1 p.1) → e₃ ≡ sets e at (tail_bytes s)
unfolding be tail_bytes
tail_parts e e₁ e₂ e₃ at s p is p₁ p₂ p₃ =
    rw (p₃, p₂, p₁, ← positions-bytes s.fork p is) (sym (sets-append e at (be 2 s.named ++ be 1 p.0) (be 1 p.1)
    ∙ ap (λ z. sets z (at + 3) (be 1 p.1)) (sets-append e at (be 2 s.named) (be 1 p.0))))

fork_length : (o : Option Fork) → length (fork_bytes o) ≡ 2
unfolding fork_bytes be
fork_length None = refl
fork_length (Some f) = refl

tail_length : (s : Shown) → length (tail_bytes s) ≡ tail_size
unfolding tail_bytes be
tail_length s = omega (arith, length-append (be 2 s.named) (fork_bytes s.fork), length-be 2 s.named, fork_length s.fork)

-- the numbers, and behind them what the pairs show
pub report_whole : (roster buffer sizes e e₁ e₂ : List ℕ) (s : Shown) → length sizes + tail_size ≤ length e → s ≡ shown roster (pairs (accepted roster (parts sizes buffer)))
    → e₁ ≡ over (number_bytes roster (parts sizes buffer)) e → e₂ ≡ sets e₁ (length sizes) (tail_bytes s)
    → e₂ ≡ over (district_bytes roster (parts sizes buffer)) e
unfolding district_bytes
report_whole roster buffer sizes e e₁ e₂ s room those p₁ p₂ =
    let long = numbers-length roster (parts sizes buffer) ∙ parts-length sizes buffer in
    p₂ ∙ ap (λ z. sets z (length sizes) (tail_bytes s)) p₁
    ∙ over_next (number_bytes roster (parts sizes buffer)) e (tail_bytes s) (length sizes) long (omega (arith, tail_length s, room))
    ∙ ap (λ z. over (number_bytes roster (parts sizes buffer) ++ tail_bytes z) e) those
