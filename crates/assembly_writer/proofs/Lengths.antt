-- How many bytes the parts have, from the rows alone.
-- Assumes nothing.
use mathlib.Core.Path.{◌≡◌, refl, sym, ap, ◌∙◌}
use mathlib.Core.List.{List, []}
use Prim.Native.Nat.{ℕ, ◌+◌, ◌-◌, ◌*◌, ◌≤◌, ◌<◌}
use native.Mathlib.Nat.{mul-le-mul_left}
use native.Mathlib.Omega.{arith}
use lib.Count.{ones}
use lib.ListN.{length, get_or, drop, length-append, length-drop}
use lib.Seq.{length-take-le}
use Rattle.roster.specs.Sizes.{replicas_most, signature_most}
use Rattle.submission_encoding.specs.Copies.{signers_of}
use Rattle.assembly_copies.specs.Rows.{taken_size, copies_at, row_at}
use Rattle.assembly_terms.specs.Wanted.{vote_head, vote_tail}
use Rattle.assembly_copies.proofs.Taken.{row_cell}
use Rattle.assembly_writer.specs.declared.Plan.{Plan}
use Rattle.assembly_writer.specs.Parts.{joined, signature_at, signed_at, certificate_in, vote_end_at, certificate_part, PlacesHeld, RowsInside}
use Rattle.assembly_writer.proofs.Joined.{joined-next}
use Rattle.assembly_writer.proofs.Signed.{signed-long, signers-most}
use Rattle.assembly_writer.proofs.Rows.{one_inside, row-places}

-- ---- signatures by their number

module _ (S n : ℕ) (places : List ℕ) {mask : ℕ} (signers : (S : ℕ) (item_bytes : List ℕ) → mask ≡ signers_of (copies_at S item_bytes n places)) where
  pub ones-few : n ≤ replicas_most → n ≤ length places → ones mask ≤ replicas_most
  ones-few few long = omega (arith, signers-most S [] n places long, ap ones (signers S []))

  pub ones_small : S ≤ signature_most → n ≤ replicas_most → n ≤ length places → S * ones mask ≤ signature_most * replicas_most
  ones_small small few long =
      let most : S * ones mask ≤ S * replicas_most = mul-le-mul_left S (ones-few few long) in
      omega (arith, most, small)

  pub ones_signed : (item_bytes : List ℕ) → PlacesHeld S item_bytes n places → 2 + S * ones mask ≡ length (signed_at S item_bytes n places)
  ones_signed item_bytes held = ap (λ (m : ℕ). 2 + S * ones m) (signers S item_bytes) ∙ sym (signed-long S item_bytes n places held)

-- ---- a row

pub row_cut_long : (taken : List ℕ) (t count : ℕ) → t < count → taken_size * count ≤ length taken → length (row_at taken t) ≡ taken_size
row_cut_long taken t count less h = length-take-le taken_size (drop (taken_size * t) taken) (rw length-drop (omega arith))

-- ---- all rows

module _ (item_bytes votes taken : List ℕ) (p : Plan) where
  unfoldable pub leads_length : ℕ → ℕ
  leads_length t =
      length (joined (certificate_part item_bytes p votes taken) t)
      + length (joined (λ j. signature_at p.size item_bytes (get_or taken (taken_size * j + 1) 0)) t)

  pub leads-none : 0 ≡ leads_length 0
  unfolding leads_length joined
  leads-none = refl

  module _ (held : RowsInside item_bytes p taken) (room : vote_head + vote_tail p.width * p.leaders ≤ length votes) (t : ℕ) (less : t < p.leaders) where
    abbrev row : List ℕ
    row = row_at taken t

    abbrev end : List ℕ
    end = vote_end_at p.width votes t

    vote-end-long : length end ≡ vote_tail p.width
    vote-end-long =
        length-take-le (vote_tail p.width) (drop (vote_head + vote_tail p.width * t) votes)
        (rw length-drop (omega (arith, one_inside (vote_tail p.width) t p.leaders less)))

    stamp-cell : get_or row 1 0 ≡ get_or taken (taken_size * t + 1) 0
    stamp-cell = row_cell taken t 1 (omega arith)

    -- one row more
    pub leads-next : {at size : ℕ} → at ≡ leads_length t
        → (PlacesHeld p.size item_bytes p.replicas (drop 2 row) → get_or row 1 0 ≤ length item_bytes - p.size → length end ≡ vote_tail p.width
        → size ≡ length (certificate_in p.size item_bytes p.replicas end row) + length (signature_at p.size item_bytes (get_or row 1 0)))
        → at + size ≡ leads_length (t + 1)
    unfolding leads_length certificate_part
    leads-next a s =
        let place : get_or row 1 0 ≤ length item_bytes - p.size = rw stamp-cell (held.inside t 1 (omega arith) (omega arith) (omega arith)) in
        let size = s (row-places held t (omega arith)) place vote-end-long in
        let stamp = ap (λ (k : ℕ). length (signature_at p.size item_bytes k)) stamp-cell in
        let one = ap length (joined-next (certificate_part item_bytes p votes taken) t) ∙ length-append (joined (certificate_part item_bytes p votes taken) t) _ in
        let two = ap length (joined-next (λ j. signature_at p.size item_bytes (get_or taken (taken_size * j + 1) 0)) t)
        ∙ length-append (joined (λ j. signature_at p.size item_bytes (get_or taken (taken_size * j + 1) 0)) t) _ in
        omega (arith, a, size, stamp, one, two)
