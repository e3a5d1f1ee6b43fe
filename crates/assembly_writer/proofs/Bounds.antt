-- How long the parts can be: all of them fit the numbers of the trailer.
-- Assumes nothing.
use mathlib.Core.Path.{◌≡◌}
use mathlib.Core.Bool.{true, false}
use mathlib.Core.List.{List, []}
use mathlib.Core.Logic.{⊎_elim}
use Prim.Native.Nat.{ℕ, ◌+◌, ◌*◌, ◌≤◌, ◌<◌}
use native.Mathlib.Nat.{mul-le-mul_left, mul-le-mul_right}
use native.Mathlib.Omega.{arith}
use borrow.Author.Tests.{eqb-true, eqb-false}
use lib.Count.{ones}
use lib.Dec.{eqb}
use lib.ListN.{length, get_or, drop, length-take}
use Rattle.words.specs.Widths.{width_most}
use Rattle.refusal.proofs.Laws.{look}
use Rattle.log_chain.specs.Records.{record_size}
use Rattle.submission.specs.Validate.{record_most, leader_most}
use Rattle.submission_encoding.specs.Copies.{signers_of, signature_of}
use Rattle.roster.specs.Sizes.{replicas_most}
use Rattle.assembly_copies.specs.Rows.{taken_size, copy_at, copies_at, row_at}
use Rattle.assembly_terms.specs.Wanted.{vote_tail}
use Rattle.assembly_writer.specs.declared.Plan.{Plan}
use Rattle.assembly_writer.specs.Parts.{signature_at, signed_at, certificate_in, commit_part, vote_end_at, certificate_part, leaders_part, stamps_part, signed_most, commit_most, PlacesHeld, RowsInside}
use Rattle.assembly_writer.proofs.Joined.{joined-most}
use Rattle.assembly_writer.proofs.Signed.{signed-long, signers-few}
use Rattle.assembly_writer.proofs.Heads.{certificate-long, commit-none, commit-long}
use Rattle.assembly_writer.proofs.Rows.{row-places, commit-row-places}

-- ---- one certificate, one stamp

-- without its stamp
abbrev certificate_most : ℕ
certificate_most = 2 + vote_tail width_most + signed_most

module _ (S : ℕ) (item_bytes : List ℕ) where
  signed-most : (n : ℕ) (places : List ℕ) → PlacesHeld S item_bytes n places → length (signed_at S item_bytes n places) ≤ signed_most
  signed-most n places held =
      let m = ones (signers_of (copies_at S item_bytes n places)) in
      let few : m ≤ replicas_most = omega (arith, signers-few S item_bytes n places held, held.few) in
      let most : S * m ≤ S * replicas_most = mul-le-mul_left S few in
      omega (arith, signed-long S item_bytes n places held, most, held.size)

  certificate-most : (n : ℕ) (end row : List ℕ) → length end ≤ vote_tail width_most → PlacesHeld S item_bytes n (drop 2 row)
      → length (certificate_in S item_bytes n end row) ≤ certificate_most
  certificate-most n end row short held =
      omega (arith, certificate-long S item_bytes n end row, signed-most n (drop 2 row) held)

  commit-most : (n : ℕ) (row : List ℕ) → PlacesHeld S item_bytes n (drop 2 row) → length (commit_part S item_bytes n row) ≤ commit_most
  commit-most n row held =
      ⊎_elim
      (λ (e : eqb (get_or row 0 0) 0 ≡ true). omega (arith, (commit-none S item_bytes n row [] (eqb-true (get_or row 0 0) 0 e)).0))
      (λ (e : eqb (get_or row 0 0) 0 ≡ false).
      omega (arith, commit-long S item_bytes n row [] (eqb-false (get_or row 0 0) 0 e), signed-most n (drop 2 row) held))
      (look (eqb (get_or row 0 0) 0))

  stamp-most : (place : ℕ) → length (signature_at S item_bytes place) ≤ S
  unfolding signature_at copy_at signature_of
  stamp-most place =
      ⊎_elim
      (λ (e : eqb place 0 ≡ true). rw e (omega arith))
      (λ (e : eqb place 0 ≡ false). rw (e, length-take) (omega arith))
      (look (eqb place 0))

-- ---- all parts

module _ {item_bytes : List ℕ} {p : Plan} {taken : List ℕ} (held : RowsInside item_bytes p taken) (votes : List ℕ) where
  leader-most : (t : ℕ) → t < p.leaders → length (certificate_part item_bytes p votes taken t) ≤ certificate_most
  unfolding certificate_part
  leader-most t less =
      certificate-most p.size item_bytes p.replicas (vote_end_at p.width votes t) (row_at taken t)
      (rw length-take (omega (arith, held.width))) (row-places held t (omega arith))

  leaders-most : length (leaders_part item_bytes p votes taken) ≤ certificate_most * p.leaders
  leaders-most = joined-most (certificate_part item_bytes p votes taken) certificate_most p.leaders leader-most

  stamps-most : length (stamps_part item_bytes p taken) ≤ p.size * p.leaders
  stamps-most =
      joined-most (λ t. signature_at p.size item_bytes (get_or taken (taken_size * t + 1) 0)) p.size p.leaders
      (λ t less. stamp-most p.size item_bytes (get_or taken (taken_size * t + 1) 0))

  pub parts-small : {long : ℕ} → record_size p.width * p.records ≡ long → p.records ≤ record_most
      → long
      + (length (leaders_part item_bytes p votes taken)
      + (length (stamps_part item_bytes p taken) + length (commit_part p.size item_bytes p.replicas (drop (taken_size * p.leaders) taken))))
      < 4294967296
  unfolding record_size
  parts-small h few =
      let wide : record_size p.width ≤ record_size width_most = omega (arith, held.width) in
      let records : record_size p.width * p.records ≤ record_size width_most * p.records = mul-le-mul_right p.records wide in
      let stamps : p.size * p.leaders ≤ p.size * leader_most = mul-le-mul_left p.size held.few in
      omega (
        arith,
        records,
        stamps,
        leaders-most,
        stamps-most,
        held.few,
        held.size,
        commit-most p.size item_bytes p.replicas (drop (taken_size * p.leaders) taken) (commit-row-places held),
      )
