-- Where the fields of a leader certificate stand.
-- Assumes nothing.
use mathlib.Core.Path.{◌≡◌, refl}
use mathlib.Core.List.{List}
use Prim.Native.Nat.{ℕ, ◌+◌}
use lib.ListN.{take, drop}
use Rattle.words.specs.BigEndian.{number_at}
use Rattle.submission.specs.Reading.{ballot_size, ballot_at, signers_at}

module _ (w : ℕ) (s : List ℕ) (at : ℕ) where
  pub candidate-at : number_at 2 s at ≡ (ballot_at w s at).candidate
  unfolding ballot_at
  candidate-at = refl

  pub term-at : number_at w s (at + 2) ≡ (ballot_at w s at).term
  unfolding ballot_at
  term-at = refl

  pub last-term-at : number_at w s (at + 2 + w) ≡ (ballot_at w s at).last_term
  unfolding ballot_at
  last-term-at = refl

  pub last-index-at : number_at 4 s (at + 2 + w + w) ≡ (ballot_at w s at).last_index
  unfolding ballot_at
  last-index-at = refl

  pub last-pointer-at : take 32 (drop (at + 2 + w + w + 4) s) ≡ (ballot_at w s at).last_pointer
  unfolding ballot_at
  last-pointer-at = refl

  pub signers-at : number_at 2 s (at + ballot_size w) ≡ signers_at s (at + ballot_size w)
  unfolding signers_at
  signers-at = refl
