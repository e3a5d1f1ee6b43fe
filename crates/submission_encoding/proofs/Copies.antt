-- A certificate made of copies has just these as its signatures.
-- Assumes nothing.
use mathlib.Core.Path.{◌≡◌, refl, sym, ap, ◌∙◌}
use mathlib.Core.Bool.{true, false}
use mathlib.Core.List.{List, [], ◌∷◌, ◌++◌, append_assoc}
use mathlib.Core.Option.{Option, some, none}
use Prim.Native.Nat.{ℕ, zero, suc, ◌+◌, ◌*◌, ◌/◌, ◌%◌, ◌^◌, ◌≤◌, ◌<◌}
use native.Mathlib.Nat.{mul-suc, mul-zero, pow-suc}
use native.Mathlib.Omega.{arith}
use borrow.Author.Tests.{eq-eqb, ne_eqb}
use lib.Count.{ones, ones_step}
use lib.Dec.{eqb}
use lib.ListN.{length, take, drop, length-append}
use lib.Seq.{take_at, drop_at}
use Rattle.roster.specs.Masks.{replicas_from}
use Rattle.log_chain.specs.Claim.{Claim}
use Rattle.submission.specs.View.{Slot, slot, certified}
use Rattle.submission_encoding.specs.Copies.{bit_of, signers_of, signature_of, signatures_of}

-- each copy has S bytes
pub data Sized (S : ℕ) : List (Option (List ℕ)) → Type 0 where
  no_more : Sized S []
  skip : {cs : List (Option (List ℕ))} → Sized S cs → Sized S (none ∷ cs)
  one : {g : List ℕ} {cs : List (Option (List ℕ))} → length g ≡ S → Sized S cs → Sized S (some g ∷ cs)

-- the slots of the copies from replica k on
unfoldable pub slot_of : Claim → ℕ → Option (List ℕ) → List Slot
slot_of claim k none = []
slot_of claim k (some g) = slot k claim g ∷ []

unfoldable pub slots_from : Claim → ℕ → List (Option (List ℕ)) → List Slot
slots_from claim k [] = []
slots_from claim k (c ∷ cs) = slot_of claim k c ++ slots_from claim (suc k) cs

-- ---- the signers

-- no bit above the copies
pub signers-lt : (cs : List (Option (List ℕ))) → signers_of cs < 2 ^ length cs
unfolding signers_of bit_of
signers-lt [] = omega arith
signers-lt (none ∷ cs) = rw pow-suc (omega (arith, signers-lt cs))
signers-lt (some g ∷ cs) = rw pow-suc (omega (arith, signers-lt cs))

-- the lowest bit, and the others
low_none : (m : ℕ) → ((0 + 2 * m) % 2 ≡ 0) × ((0 + 2 * m) / 2 ≡ m)
low_none m = (omega arith, omega arith)

low_some : (m : ℕ) → ((1 + 2 * m) % 2 ≡ 1) × ((1 + 2 * m) / 2 ≡ m)
low_some m = (omega arith, omega arith)

no_ones : ones 0 ≡ 0
unfolding ones
no_ones = refl

ones_none : (m : ℕ) → ones (0 + 2 * m) ≡ ones m
ones_none m = ones_step (0 + 2 * m) ∙ (λ i. (low_none m).0 i + ones ((low_none m).1 i)) ∙ omega arith

ones_some : (m : ℕ) → ones (1 + 2 * m) ≡ suc (ones m)
ones_some m = ones_step (1 + 2 * m) ∙ (λ i. (low_some m).0 i + ones ((low_some m).1 i)) ∙ omega arith

-- ---- their signatures

module _ (S : ℕ) where
  pub signatures-length : (cs : List (Option (List ℕ))) → Sized S cs → length (signatures_of cs) ≡ S * ones (signers_of cs)
  unfolding signers_of signatures_of bit_of signature_of
  signatures-length [] no_more = sym (ap (λ z. S * z) no_ones ∙ mul-zero S)
  signatures-length (none ∷ cs) (skip h) = signatures-length cs h ∙ ap (λ z. S * z) (sym (ones_none (signers_of cs)))
  signatures-length (some g ∷ cs) (one l h) =
      let count = ones_some (signers_of cs) in
      rw (length-append, l, signatures-length cs h, count, mul-suc) (omega arith)

  no-replicas : (bits k : ℕ) (claim : Claim) (rest : List ℕ) → certified S claim (replicas_from bits k 0) rest ≡ []
  unfolding replicas_from certified
  no-replicas zero k claim rest = refl
  no-replicas (suc bits) k claim rest = no-replicas bits (suc k) claim rest

  pub copies-slots : (claim : Claim) (cs : List (Option (List ℕ))) → Sized S cs → (bits k : ℕ) (rest : List ℕ) → length cs ≤ bits
      → certified S claim (replicas_from bits k (signers_of cs)) (signatures_of cs ++ rest) ≡ slots_from claim k cs
  unfolding signers_of signatures_of slots_from slot_of bit_of signature_of replicas_from certified slot
  copies-slots claim [] no_more bits k rest h = no-replicas bits k claim rest
  copies-slots claim (c ∷ cs) sizes zero k rest h = absurd (omega arith)
  copies-slots claim (none ∷ cs) (skip hs) (suc bits) k rest h =
      let m = signers_of cs in
      let even : eqb ((0 + 2 * m) % 2) 1 ≡ false = ne_eqb ((0 + 2 * m) % 2) 1 (λ e. omega (arith, (low_none m).0, e)) in
      rw (even, (low_none m).1) (copies-slots claim cs hs bits (suc k) rest (omega (arith, h)))
  copies-slots claim (some g ∷ cs) (one l hs) (suc bits) k rest h =
      let m = signers_of cs in
      let odd : eqb ((1 + 2 * m) % 2) 1 ≡ true = eq-eqb _ 1 (low_some m).0 in
      let joined = append_assoc g (signatures_of cs) rest in
      let first : take S ((g ++ signatures_of cs) ++ rest) ≡ g = ap (take S) joined ∙ take_at g _ S l in
      let after : drop S ((g ++ signatures_of cs) ++ rest) ≡ signatures_of cs ++ rest = ap (drop S) joined ∙ drop_at g _ S l in
      let later =
      ap (certified S claim (replicas_from bits (suc k) m)) after ∙ copies-slots claim cs hs bits (suc k) rest (omega (arith, h)) in
      rw (odd, (low_some m).1) (λ i. record { replica = k; claim = claim; signature = first i } ∷ later i)
