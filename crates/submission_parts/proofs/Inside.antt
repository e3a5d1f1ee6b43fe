-- Where the parts of a laid-out submission stand, and that they lie inside.
-- Assumes nothing.
use mathlib.Core.Path.{◌≡◌}
use mathlib.Core.Bool.{true}
use mathlib.Core.List.{List}
use Prim.Native.Nat.{ℕ, ◌+◌, ◌-◌, ◌*◌, ◌≤◌}
use native.Mathlib.Nat.{mul-le-mul}
use native.Mathlib.Omega.{arith}
use borrow.Author.Tests.{leb-true, eqb-true, ne_eqb}
use lib.ListN.{length}
use Rattle.words.specs.Widths.{width_most}
use Rattle.refusal.proofs.Laws.{all_cons}
use Rattle.submission.specs.Trailer.{trailer_size, trailer_at, record_count, leader_count, distance}
use Rattle.log_chain.specs.Records.{record_size}
use Rattle.log_chain.specs.Sizes.{record_size_most}
use Rattle.submission.specs.Reading.{certificates_end, commit_end, leaders_from, stamps_from, commit_from, laid_out}
use Rattle.submission_parts.specs.Reader.{signature_most}
use Rattle.submission_parts.specs.Parts.{Bounds}
use Rattle.submission.specs.Validate.{submission_most, record_most, leader_most, sized, counted}

-- ---- the bytes of stamps

pub stamps-le : (L S : ℕ) → L ≤ leader_most → S ≤ signature_most → L * S ≤ leader_most * signature_most
stamps-le L S few small = mul-le-mul few small

-- ---- the bytes of records

pub records-le : (size count : ℕ) → size ≤ record_size_most → count ≤ record_most → size * count ≤ record_size_most * record_most
records-le size count small few = mul-le-mul small few

-- ---- checks 5 and 8

pub bounds : (w S : ℕ) (s : List ℕ) → sized s ≡ true → counted s ≡ true → w ≤ width_most → S ≤ signature_most → Bounds w S s
unfolding sized counted
bounds w S s size count narrow small =
    let long = all_cons _ _ size in
    let records = all_cons _ _ count in
    record {
      long = leb-true trailer_size (length s) long.0;
      short = leb-true (length s) submission_most (all_cons _ _ long.1).0;
      records = leb-true (record_count s) record_most records.0;
      leaders = leb-true (leader_count s) leader_most (all_cons _ _ records.1).0;
      width = narrow;
      signature = small;
    }

-- ---- check 9

-- each part at its distance from the trailer; a commit certificate ends there
pub record Standing (w S : ℕ) (s : List ℕ) : Type 0 where
  pub records : distance s 1 ≡ trailer_at s
  pub leaders : leaders_from w S s + distance s 2 ≡ trailer_at s
  pub stamps : stamps_from w S s + distance s 3 ≡ trailer_at s
  pub commit : commit_from w S s + distance s 4 ≡ trailer_at s
  pub commit-end : (distance s 4 ≡ 0 → ⊥) → commit_end S s (commit_from w S s) ≡ trailer_at s

module _ (w S : ℕ) (s : List ℕ) (laid : laid_out w S s ≡ true) where
  pub standing : Standing w S s
  unfolding laid_out
  standing =
      let first = all_cons _ _ laid in
      let second = all_cons _ _ first.1 in
      let third = all_cons _ _ second.1 in
      let fourth = all_cons _ _ third.1 in
      let fifth = (all_cons _ _ fourth.1).0 in
      record {
        records = eqb-true (distance s 1) (trailer_at s) first.0;
        leaders = eqb-true (leaders_from w S s + distance s 2) (trailer_at s) second.0;
        stamps = eqb-true (stamps_from w S s + distance s 3) (trailer_at s) third.0;
        commit = eqb-true (commit_from w S s + distance s 4) (trailer_at s) fourth.0;
        commit-end = λ some. eqb-true (commit_end S s (commit_from w S s)) (trailer_at s) (rw (ne_eqb (distance s 4) 0 some) at fifth);
      }

  -- part 1 has the bytes of its records
  pub records-inside : record_size w * record_count s ≤ trailer_at s
  unfolding leaders_from
  records-inside = let p = standing in omega arith

  -- the leader certificates lie inside
  pub leaders-inside : certificates_end w S s (leader_count s) (leaders_from w S s) ≤ trailer_at s
  unfolding stamps_from
  leaders-inside = let p = standing in omega arith

  -- the stamps lie inside
  pub stamps-inside : stamps_from w S s + leader_count s * S ≤ trailer_at s
  unfolding commit_from
  stamps-inside = let p = standing in omega arith

  pub stamps-place : (distance s 3 ≤ trailer_at s) × (stamps_from w S s ≡ trailer_at s - distance s 3)
  stamps-place = let p = standing in (omega arith, omega arith)

  -- a commit certificate lies inside, with its signatures
  pub commit-inside : (distance s 4 ≡ 0 → ⊥) → commit_end S s (commit_from w S s) ≤ trailer_at s
  commit-inside some = let e = standing.commit-end some in omega arith
