-- Demand 3 on the bytes of a district's report. Two accepted submissions that differ are a pair, one way or the other, whose audit names
-- somebody, and the union has whom it names. A replica that keeps the rules has no charge in any pair.
-- Assumes nothing.
use mathlib.Core.Path.{◌≡◌, sym, ap, subst, ◌∙◌}
use mathlib.Core.Bool.{false}
use mathlib.Core.List.Memᴰ
use mathlib.Core.List.{List, ◌++◌, map, append_assoc, Memᴰ}
use mathlib.Core.Logic.{⊎_elim}
use Prim.Native.Nat.{ℕ, ◌<◌}
use native.Mathlib.Nat.{lt_of_lt_of_le}
use native.Mathlib.Omega.{arith}
use borrow.Author.Tests.{eq-eqb}
use lib.Dec.{lit≤}
use lib.ListN.{length, take, drop}
use lib.Seq.{take_at, drop_at}
use Rattle.words.specs.BigEndian.{be, number, number_at}
use Rattle.words.specs.Over.{over}
use Rattle.words.proofs.Bytes.{Bytes}
use Rattle.words.proofs.Laws.{length-be, number-be}
use Rattle.refusal.proofs.Laws.{first-zero}
use Rattle.roster.specs.Roster.{replicas, signature_size, roster_number}
use Rattle.roster.specs.Masks.{signer}
use Rattle.roster.proofs.Accepted.{sizes}
use Rattle.log_chain.specs.Log.{Record}
use Rattle.log_chain.specs.Difference.{agree}
use Rattle.submission.specs.View.{committed}
use Rattle.submission.specs.Validate.{validate, slot_use, form_of, view_of, slots_of}
use Rattle.submission.proofs.Accepted.{validated}
use Rattle.forensics.specs.Findings.{findings, found_in, row_count}
use Rattle.forensics.proofs.Agree.{differ_at_lem, agree_sym}
use Rattle.forensics.proofs.Naming.{naming as views-naming}
use Rattle.forensics.proofs.Rows.{mask-clear}
use Rattle.report.specs.Claims.{Differ, Fair}
use Rattle.report.proofs.Fairness.{rows-fair}
use Rattle.district_parts.specs.Parts.{parts}
use Rattle.district_parts.proofs.Parts.{parts-length}
use Rattle.district.specs.District.{Entry, accepted, Pair, pair, pairs, found, union, first_fork, shown, district_number, number_bytes, fork_bytes, tail_bytes, district_bytes, district_after, named_among}
use Rattle.district.specs.Claims.{DistrictNaming, DistrictFairness}
use Rattle.district.proofs.Judged.{numbers-length}
use Rattle.district.proofs.Pairs.{paired, pair_of, member-entry, entry-member, part_bytes}
use Rattle.district.proofs.Union.{mask, union-has, union-clear, union-lt}

-- a log does not differ from itself
differ_self : (l : List Record) → Differ l l → ⊥
differ_self l d = let e : d.one ≡ d.other = let a = d.in_one in let b = d.in-other in cc in d.differ e

module _ (roster buffer lengths report : List ℕ) where
  -- ---- the bytes

  -- number 0: the roster is accepted
  fine : district_number roster buffer lengths report ≡ 0 → roster_number roster ≡ 0
  unfolding district_number
  fine e = (first-zero _ _ e).0

  -- the union stands behind the numbers
  named-is : district_number roster buffer lengths report ≡ 0
      → named_among (length lengths) (district_after roster buffer lengths report) ≡ union roster (pairs (accepted roster (parts lengths buffer)))
  unfolding named_among number_at district_after district_bytes tail_bytes shown over
  named-is e =
      let ss = parts lengths buffer in
      let audited = pairs (accepted roster ss) in
      let M = number_bytes roster ss in
      let N = be 2 (union roster audited) in
      let P = fork_bytes (first_fork roster audited) in
      let R = drop (length (M ++ (N ++ P))) report in
      let apart : M ++ (N ++ P) ++ R ≡ M ++ (N ++ (P ++ R)) = append_assoc M (N ++ P) R ∙ ap (λ z. M ++ z) (append_assoc N P R) in
      let there : take 2 (drop (length lengths) (M ++ (N ++ P) ++ R)) ≡ N =
      ap (λ z. take 2 (drop (length lengths) z)) apart
      ∙ ap (take 2) (drop_at M _ (length lengths) (numbers-length roster ss ∙ parts-length lengths buffer)) ∙ take_at N _ 2 (length-be 2 (union roster audited)) in
      rw (eq-eqb _ 0 e) (ap number there ∙ number-be 2 (union roster audited) (lt_of_lt_of_le (union-lt roster audited) (lit≤ tt)))

  -- ---- naming

  -- an accepted pair that differs names somebody
  pair-named : roster_number roster ≡ 0 → (x y : Entry) → validate roster x.bytes ≡ 0 → validate roster y.bytes ≡ 0
      → agree (committed (view_of roster x.bytes)) (committed (view_of roster y.bytes)) ≡ false → 0 < mask roster (pair x y)
  unfolding mask found found_in pair
  pair-named r x y vx vy d =
      let few = sizes roster r in
      views-naming (slot_use (form_of roster) roster) (form_of roster) (replicas roster) (signature_size roster) (omega (arith, few.low)) few.high
      (view_of roster x.bytes) (view_of roster y.bytes) (validated roster x.bytes vx).sound (validated roster y.bytes vy).sound d

  pub district-naming : DistrictNaming roster buffer lengths (district_number roster buffer lengths report) (district_after roster buffer lengths report)
  unfolding DistrictNaming accepted
  district-naming e a b ma mb va vb differ nobody =
      let ss = parts lengths buffer in
      let x = member-entry roster ss 1 a ma va in
      let y = member-entry roster ss 1 b mb vb in
      let vx = ap (validate roster) x.2 ∙ va in
      let vy = ap (validate roster) y.2 ∙ vb in
      let none : union roster (pairs (accepted roster ss)) ≡ 0 = sym (named-is e) ∙ nobody in
      let apart = differ_at_lem differ.index _ _ differ.one differ.other differ.in_one differ.in-other differ.differ in
      let d : agree (committed (view_of roster x.0.bytes)) (committed (view_of roster y.0.bytes)) ≡ false =
      (λ i. agree (committed (view_of roster (x.2 i))) (committed (view_of roster (y.2 i)))) ∙ apart in
      let same : x.0 ≡ y.0 → ⊥ =
      λ z. let ab : a ≡ b = sym x.2 ∙ ap (λ u. u.bytes) z ∙ y.2 in
      differ_self (committed (view_of roster b)) (subst (λ u. Differ (committed (view_of roster u)) (committed (view_of roster b))) ab differ) in
      ⊎_elim
      (λ (z : x.0 ≡ y.0). same z)
      (λ h. ⊎_elim
      (λ (m : Memᴰ (pair x.0 y.0) (pairs (accepted roster ss))).
      omega (arith, none, union-has roster _ _ m (pair-named (fine e) x.0 y.0 vx vy d)))
      (λ m. omega (arith, none, union-has roster _ _ m (pair-named (fine e) y.0 x.0 vy vx (agree_sym _ _ ∙ d)))) h)
      (paired (accepted roster ss) x.0 y.0 x.1 y.1)

  -- ---- fairness

  pub district-fairness : Bytes buffer
      → DistrictFairness roster buffer lengths (district_number roster buffer lengths report) (district_after roster buffer lengths report)
  unfolding DistrictFairness Fair accepted mask found found_in findings slots_of
  district-fairness bytes e k low high acts keep own apart =
      let ss = parts lengths buffer in
      let entries = accepted roster ss in
      let few = sizes roster (fine e) in
      let clear : (p : Pair) → Memᴰ p (pairs entries) → signer (mask roster p) k ≡ false =
      λ p m.
      let both = pair_of entries p m in
      let one = entry-member roster ss 1 p.lower both.0 in
      let other = entry-member roster ss 1 p.higher both.1 in
      let none_charged = rows-fair roster (map (λ x. x.bytes) entries) (omega (arith, few.high)) k acts keep own apart p.lower.bytes p.higher.bytes
      (Memᴰ.map (λ x. x.bytes) both.0) (Memᴰ.map (λ x. x.bytes) both.1)
      (part_bytes lengths buffer bytes p.lower.bytes one.1) (part_bytes lengths buffer bytes p.higher.bytes other.1) one.0 other.0 in
      mask-clear (slot_use (form_of roster) roster) (slots_of roster p.lower.bytes) (slots_of roster p.higher.bytes) row_count k low
      (omega (arith, few.high, high)) none_charged in
      rw (named-is e) (union-clear roster k (pairs entries) clear)
