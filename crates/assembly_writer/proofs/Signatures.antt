-- The signature at a place of the bag: nothing at place 0, and otherwise as many bytes as a signature has.
-- Assumes nothing.
use mathlib.Core.Path.{◌≡◌, refl, sym, ap, ◌∙◌}
use mathlib.Core.List.{List, []}
use Prim.Native.Nat.{ℕ, ◌+◌, ◌-◌, ◌≤◌}
use native.Mathlib.Omega.{arith}
use borrow.Author.Tests.{eq-eqb, ne_eqb}
use lib.ListN.{length, take, drop, length-drop}
use lib.Seq.{length-take-le}
use Rattle.words.specs.Over.{over}
use Rattle.words.proofs.Laws.{part_from}
use Rattle.words.proofs.Over.{over_nothing}
use Rattle.submission_encoding.specs.Copies.{signature_of}
use Rattle.assembly_copies.specs.Rows.{copy_at}
use Rattle.assembly_writer.specs.Parts.{signature_at}

module _ (S : ℕ) (item_bytes : List ℕ) (place : ℕ) where
  signature-none : place ≡ 0 → signature_at S item_bytes place ≡ []
  unfolding signature_at copy_at signature_of
  signature-none e = rw (eq-eqb place 0 e) refl

  -- what is left of a buffer where there is none
  pub none-put : (e : List ℕ) → place ≡ 0 → (0 ≡ length (signature_at S item_bytes place)) × (e ≡ over (signature_at S item_bytes place) e)
  none-put e h = (sym (ap length (signature-none h)), sym (ap (λ z. over z e) (signature-none h) ∙ over_nothing e))

  module _ (some-place : place ≡ 0 → ⊥) where
    signature-some : signature_at S item_bytes place ≡ take S (drop place item_bytes)
    unfolding signature_at copy_at signature_of
    signature-some = rw (ne_eqb place 0 some-place) refl

    -- the part of the bag that it is
    pub signature-part : take (place + S - place) (drop place item_bytes) ≡ signature_at S item_bytes place
    signature-part = part_from item_bytes place S ∙ sym signature-some

    pub signature-long : place ≤ length item_bytes - S → S ≡ length (signature_at S item_bytes place)
    signature-long h = sym (ap length signature-some ∙ length-take-le S (drop place item_bytes) (rw length-drop (omega arith)))
