-- What the readers of certificates give: a certificate that ends by the end is read, and another refused; and what an answer says. So many
-- certificates: what is left of them ends where all do.
-- Assumes nothing.
use mathlib.Core.Path.{◌≡◌, refl, sym, ap, ◌∙◌}
use mathlib.Core.Bool.{Bool, true, false, cond}
use mathlib.Core.List.{List}
use mathlib.Core.Logic.{⊎_elim}
use Prim.Native.Nat.{ℕ, ◌+◌, ◌-◌, ◌*◌, ◌≤◌, ◌<◌}
use native.Mathlib.Nat.{mul-le-mul}
use native.Mathlib.Omega.{arith}
use borrow.Author.Tests.{leb-true, leb-false, le-leb, lt-leb}
use lib.Count.{ones, ones-le}
use lib.Dec.{leb}
use Rattle.std.specs.Prelude.{Option, Some, None}
use Rattle.std.proofs.lemmas.Option.{none-some, same_Some, some_pair_parts}
use Rattle.words.specs.BigEndian.{number_at}
use Rattle.refusal.specs.Checks.{check, refusal}
use Rattle.refusal.proofs.Laws.{look}
use Rattle.submission_parts.specs.declared.Certificate.{Certificate}
use Rattle.submission_parts.specs.declared.Commit.{Commit}
use Rattle.submission.specs.Reading.{ballot_size, ballot_at, signers_at, certificate_end, certificates_end, commit_end}
use Rattle.submission_parts.specs.Reader.{signature_most, fields_size, numbers_at, commit_numbers_at, answer_number, end_number, reading, place_after, commit_reading}
use Rattle.submission.proofs.Certificates.{certificate-head, certificates-from, end-first}

-- ---- the bytes of signatures

pub signatures-le : (S mask : ℕ) → S ≤ signature_most → mask < 65536 → S * ones mask ≤ 16 * signature_most
signatures-le S mask few bits = mul-le-mul few (ones-le 16 mask bits)

-- ---- the bytes before them

pub certificate_fields : (w S : ℕ) (s : List ℕ) (at : ℕ) → at + fields_size w ≤ certificate_end w S s at
certificate_fields w S s at = omega (arith, certificate-head w S s at)

module _ (S : ℕ) (s : List ℕ) where
  pub commit-fields : (at : ℕ) → at + 6 ≤ commit_end S s at
  unfolding commit_end
  commit-fields at = omega arith

-- ---- the end

-- from what the code has read and computed
module _ (w S at fields mask bytes : ℕ) (s : List ℕ) (e : fields ≡ ballot_size w) (signers : mask ≡ number_at 2 s (at + fields))
    (size : bytes ≡ S * ones mask) where
  pub ends_at : at + fields + 2 + bytes ≡ certificate_end w S s at
  unfolding certificate_end signers_at
  ends_at = rw (size, signers, e)

-- ---- the numbers

-- the numbers of a leader certificate, each read at its place
pub numbers_read : (w : ℕ) (s : List ℕ) (at : ℕ) {candidate term last index signers : ℕ} → candidate ≡ number_at 2 s at → term ≡ number_at w s (at + 2)
    → last ≡ number_at w s (at + 2 + w) → index ≡ number_at 4 s (at + 2 + w + w) → signers ≡ number_at 2 s (at + ballot_size w)
    → ◌≡◌ {A = Certificate}
    (record { candidate = candidate; term = term; last_term = last; last_index = index; signers = signers })
    (numbers_at w s at)
unfolding numbers_at ballot_at signers_at
numbers_read w s at candidate term last index signers =
    λ k. record { candidate = candidate k; term = term k; last_term = last k; last_index = index k; signers = signers k }

-- ---- the number of an answer

-- what was read where its place is not above the end has number 0, and what is refused 9
module _ {Answer : Type 0} (place end : ℕ) (read : Answer) {r told : Option Answer} (is : told ≡ cond (leb place end) (Some read) None) where
  pub answered : r ≡ told → (r ≡ told) × (answer_number r ≡ end_number place end)
  unfolding answer_number end_number refusal check
  answered e = (e, ap answer_number (e ∙ is) ∙ go (leb place end))
    where
      go : (b : Bool) → answer_number (cond b (Some read) None) ≡ cond b 0 9
      go true = refl
      go false = refl

module _ (w S : ℕ) (s : List ℕ) where
  pub numbered : (at end : ℕ) {r : Option (Certificate × ℕ)} → r ≡ reading w S s at end → (r ≡ reading w S s at end) × (answer_number r ≡ end_number (certificate_end w S s at) end)
  unfolding reading
  numbered at end e = answered (certificate_end w S s at) end (numbers_at w s at, certificate_end w S s at) refl e

  pub placed : (count at end : ℕ) {r : Option ℕ} → r ≡ place_after w S s count at end
      → (r ≡ place_after w S s count at end) × (answer_number r ≡ end_number (certificates_end w S s count at) end)
  unfolding place_after
  placed count at end e = answered (certificates_end w S s count at) end (certificates_end w S s count at) refl e

module _ (S : ℕ) (s : List ℕ) where
  pub commit-numbered : (at end : ℕ) {r : Option (Commit × ℕ)} → r ≡ commit_reading S s at end
      → (r ≡ commit_reading S s at end) × (answer_number r ≡ end_number (commit_end S s at) end)
  unfolding commit_reading
  commit-numbered at end e = answered (commit_end S s at) end (commit_numbers_at s at, commit_end S s at) refl e

-- ---- a leader certificate

module _ (w S : ℕ) (s : List ℕ) (at end : ℕ) where
  pub unread : end < certificate_end w S s at → None ≡ reading w S s at end
  unfolding reading
  unread h = rw (lt-leb _ _ h)

  pub read : certificate_end w S s at ≤ end → Some (numbers_at w s at, certificate_end w S s at) ≡ reading w S s at end
  unfolding reading
  read h = rw (le-leb _ _ h)

  pub refused-passes : reading w S s at end ≡ None → end < certificate_end w S s at
  refused-passes e =
      ⊎_elim
      (λ h. absurd (none-some _ (sym (read (leb-true _ _ h) ∙ e))))
      (λ h. leb-false _ _ h)
      (look (leb (certificate_end w S s at) end))

  pub read-says : {c : Certificate} {next : ℕ} → reading w S s at end ≡ Some (c, next)
      → (c ≡ numbers_at w s at) × (next ≡ certificate_end w S s at) × (certificate_end w S s at ≤ end)
  read-says e =
      ⊎_elim
      (λ h. let told = some_pair_parts _ _ _ _ (sym e ∙ sym (read (leb-true _ _ h))) in (told.0, told.1, leb-true _ _ h))
      (λ h. absurd (none-some _ (unread (leb-false _ _ h) ∙ e)))
      (look (leb (certificate_end w S s at) end))

-- ---- a commit certificate

module _ (S : ℕ) (s : List ℕ) (at end : ℕ) where
  pub no-commit : end < commit_end S s at → None ≡ commit_reading S s at end
  unfolding commit_reading
  no-commit h = rw (lt-leb _ _ h)

  pub read-commit : commit_end S s at ≤ end → Some (commit_numbers_at s at, commit_end S s at) ≡ commit_reading S s at end
  unfolding commit_reading
  read-commit h = rw (le-leb _ _ h)

  pub no-commit-passes : commit_reading S s at end ≡ None → end < commit_end S s at
  no-commit-passes e =
      ⊎_elim
      (λ h. absurd (none-some _ (sym (read-commit (leb-true _ _ h) ∙ e))))
      (λ h. leb-false _ _ h)
      (look (leb (commit_end S s at) end))

  pub commit-says : {c : Commit} {next : ℕ} → commit_reading S s at end ≡ Some (c, next)
      → (c ≡ commit_numbers_at s at) × (next ≡ commit_end S s at) × (commit_end S s at ≤ end)
  commit-says e =
      ⊎_elim
      (λ h. let told = some_pair_parts _ _ _ _ (sym e ∙ sym (read-commit (leb-true _ _ h))) in (told.0, told.1, leb-true _ _ h))
      (λ h. absurd (none-some _ (no-commit (leb-false _ _ h) ∙ e)))
      (look (leb (commit_end S s at) end))

-- ---- so many leader certificates

module _ (w S : ℕ) (s : List ℕ) (count from end : ℕ) where
  pub beyond : end < certificates_end w S s count from → None ≡ place_after w S s count from end
  unfolding place_after
  beyond h = rw (lt-leb _ _ h)

  pub arrived : certificates_end w S s count from ≤ end → Some (certificates_end w S s count from) ≡ place_after w S s count from end
  unfolding place_after
  arrived h = rw (le-leb _ _ h)

  pub beyond-passes : place_after w S s count from end ≡ None → end < certificates_end w S s count from
  beyond-passes e =
      ⊎_elim
      (λ h. absurd (none-some _ (sym (arrived (leb-true _ _ h) ∙ e))))
      (λ h. leb-false _ _ h)
      (look (leb (certificates_end w S s count from) end))

  pub place-says : (at : ℕ) → place_after w S s count from end ≡ Some at → (at ≡ certificates_end w S s count from) × (at ≤ end)
  place-says at e =
      ⊎_elim
      (λ h. let here = same_Some _ _ (sym e ∙ sym (arrived (leb-true _ _ h))) in (here, rw here (leb-true _ _ h)))
      (λ h. absurd (none-some _ (beyond (leb-false _ _ h) ∙ e)))
      (look (leb (certificates_end w S s count from) end))

-- a loop over the certificates that are left
module _ (w S : ℕ) (s : List ℕ) (count from end left at : ℕ) (rest : certificates_end w S s left at ≡ certificates_end w S s count from) where
  pub passes : 0 < left → reading w S s at end ≡ None → None ≡ place_after w S s count from end
  passes more e =
      let first = end-first w S s left at more in
      beyond w S s count from end
      (omega (arith, refused-passes w S s at end e, certificates-from w S s (left - 1) (certificate_end w S s at)))

  pub next : 0 < left → {c : Certificate} {n : ℕ} → reading w S s at end ≡ Some (c, n)
      → (n ≤ end) × (certificates_end w S s (left - 1) n ≡ certificates_end w S s count from)
  next more e =
      let r = read-says w S s at end e in
      (omega arith, rw (r.1, ← end-first w S s left at more) rest)

  pub arrives : left ≤ 0 → at ≤ end → Some at ≡ place_after w S s count from end
  unfolding certificates_end
  arrives done inside =
      let zero_left : left ≡ 0 = omega arith in
      let here : at ≡ certificates_end w S s count from = rw zero_left at rest in
      rw here (arrived w S s count from end (rw (← here) inside))
