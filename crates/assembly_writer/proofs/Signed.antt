-- Signatures that are written one by one from their places are those of the copies, as many as there are signers.
-- Assumes nothing.
use mathlib.Core.Path.{◌≡◌, refl, sym, ap, ◌∙◌}
use mathlib.Core.Bool.{true, false}
use mathlib.Core.List.{List, [], ◌∷◌, ◌++◌}
use mathlib.Core.Logic.{⊎_elim}
use mathlib.Core.Option.{Option}
use Prim.Native.Nat.{ℕ, zero, suc, ◌+◌, ◌-◌, ◌*◌, ◌≤◌}
use native.Mathlib.Omega.{arith}
use borrow.Author.Tests.{eqb-false}
use lib.Count.{ones, ones-le}
use lib.Dec.{eqb}
use lib.ListN.{length, get_or, take, drop, length-drop, length-append, length-map}
use lib.Seq.{length-take-le, take_all}
use Rattle.words.specs.BigEndian.{be}
use Rattle.words.proofs.Laws.{length-be}
use Rattle.refusal.proofs.Laws.{look}
use Rattle.submission_encoding.specs.Encoding.{signed_bytes}
use Rattle.submission_encoding.specs.Copies.{signers_of, signature_of, signatures_of}
use Rattle.submission_encoding.proofs.Copies.{Sized, no_more, skip, one, signers-lt, signatures-length}
use Rattle.assembly_copies.specs.Rows.{copy_at, copies_at, Placed}
use Rattle.assembly_writer.specs.Parts.{joined, signature_at, signatures_at, signed_at, PlacesHeld}
use Rattle.assembly_writer.proofs.Joined.{joined-first}

place-room : (S place long : ℕ) → place ≤ long - S → (place ≡ 0 → ⊥) → S ≤ long - place
place-room S zero long h not-0 = absurd (not-0 refl)
place-room S (suc place) long h not-0 = omega arith

module _ (S : ℕ) (item_bytes : List ℕ) where
  -- ---- each copy has S bytes

  copy-sized : (place : ℕ) (cs : List (Option (List ℕ))) → place ≤ length item_bytes - S → Sized S cs → Sized S (copy_at S item_bytes place ∷ cs)
  unfolding copy_at
  copy-sized place cs h sized =
      ⊎_elim
      (λ (e : eqb place 0 ≡ true). rw e (skip sized))
      (λ (e : eqb place 0 ≡ false).
      let not-0 = eqb-false place 0 e in
      rw e (one (length-take-le S (drop place item_bytes) (rw length-drop (place-room S place (length item_bytes) h not-0))) sized))
      (look (eqb place 0))

  copies-sized : (n : ℕ) (places : List ℕ) → Placed S item_bytes n places → Sized S (copies_at S item_bytes n places)
  unfolding Placed copies_at
  copies-sized zero places h = no_more
  copies-sized (suc n) [] h = no_more
  copies-sized (suc n) (p ∷ places) h =
      copy-sized p _ (h 0 (omega arith)) (copies-sized n places (λ j less. h (suc j) (omega (arith, less))))

  copies-count : (n : ℕ) (places : List ℕ) → n ≤ length places → length (copies_at S item_bytes n places) ≡ n
  unfolding copies_at
  copies-count n places h = length-map (take n places) (copy_at S item_bytes) ∙ length-take-le n places h

  pub signers-most : (n : ℕ) (places : List ℕ) → n ≤ length places → ones (signers_of (copies_at S item_bytes n places)) ≤ n
  signers-most n places h =
      ones-le n (signers_of (copies_at S item_bytes n places)) (rw (copies-count n places h) at (signers-lt (copies_at S item_bytes n places)))

  -- ---- their signatures

  signatures-joined : (n : ℕ) (places : List ℕ) → n ≤ length places → signatures_of (copies_at S item_bytes n places) ≡ signatures_at S item_bytes n places
  unfolding signatures_of copies_at joined signature_at
  signatures-joined zero places h = refl
  signatures-joined (suc n) [] h = absurd (omega arith)
  signatures-joined (suc n) (p ∷ places) h =
      ap (λ z. signature_of (copy_at S item_bytes p) ++ z) (signatures-joined n places (omega arith))
      ∙ sym (joined-first (λ k. signature_at S item_bytes (get_or (p ∷ places) k 0)) n)

  module _ (n : ℕ) (places : List ℕ) (held : PlacesHeld S item_bytes n places) where
    abbrev signers : ℕ
    signers = signers_of (copies_at S item_bytes n places)

    copies-long : length (signatures_of (copies_at S item_bytes n places)) ≡ S * ones signers
    copies-long = signatures-length S (copies_at S item_bytes n places) (copies-sized n places held.inside)

    signatures-long : length (signatures_at S item_bytes n places) ≡ S * ones signers
    signatures-long = sym (ap length (signatures-joined n places held.long)) ∙ copies-long

    pub signed_part : signed_bytes S signers (signatures_of (copies_at S item_bytes n places)) ≡ signed_at S item_bytes n places
    unfolding signed_bytes signed_at
    signed_part =
        ap (λ z. be 2 signers ++ z)
        (take_all (S * ones signers) (signatures_of (copies_at S item_bytes n places)) (omega (arith, copies-long))
        ∙ signatures-joined n places held.long)

    pub signed-long : length (signed_at S item_bytes n places) ≡ 2 + S * ones signers
    unfolding signed_at
    signed-long = length-append (be 2 signers) (signatures_at S item_bytes n places) ∙ rw (length-be, signatures-long) refl

    pub signers-few : ones signers ≤ n
    signers-few = signers-most n places held.long
