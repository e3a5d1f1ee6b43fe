-- How long parts 1 to 4 can be, over the term's width w, the signature's length S and the number of replicas n.
-- Assumes nothing.
use mathlib.Core.Path.{◌≡◌, sym, ◌∙◌}
use mathlib.Core.Bool.{true}
use mathlib.Core.List.{List, [], ◌∷◌, map, flat_map}
use mathlib.Core.Option.{Option, some, none}
use Prim.Native.Nat.{ℕ, ◌+◌, ◌*◌, ◌≤◌, zero-le}
use native.Mathlib.Nat.{le_trans, mul_comm, mul-le-mul_left, mul-le-mul_right, suc-mul}
use native.Mathlib.Omega.{arith}
use lib.Count.{ones, ones-le}
use lib.ListN.{length, length-append}
use Rattle.refusal.specs.Checks.{every}
use Rattle.refusal.proofs.Laws.{cond-true, every_append}
use Rattle.log_chain.specs.Log.{Form}
use Rattle.log_chain.specs.Records.{record_size}
use Rattle.submission.specs.View.{Certificate, Commit, View}
use Rattle.submission.specs.Reading.{ballot_size}
use Rattle.submission.specs.Validate.{record_most, leader_most, quorate, commit_signers, masks}
use Rattle.submission.proofs.Slots.{quorate_facts}
use Rattle.submission_encoding.specs.Encoding.{log_bytes, leaders_bytes, stamps_bytes, commit_bytes}
use Rattle.submission_encoding.proofs.Read.{AllFit, none-fit, more-fit, certificate-length}
use Rattle.submission_encoding.proofs.Whole.{log-length, stamps-length, CommitFits, no-commit, a-commit, commit-length, Fitting}

-- the most bytes of a leader certificate and of a commit certificate, of n signatures
unfoldable pub certificate_most : ℕ → ℕ → ℕ → ℕ
certificate_most w S n = ballot_size w + 2 + S * n

unfoldable pub commit_most : ℕ → ℕ → ℕ
commit_most S n = 6 + S * n

-- 4,096 records, 64 leader certificates, 64 stamps, a commit certificate
unfoldable pub parts_most : ℕ → ℕ → ℕ → ℕ
parts_most w S n = record_most * record_size w + leader_most * certificate_most w S n + leader_most * S + commit_most S n

-- a mask that passes check 10 has at most n signers
signatures-few : (S n mask : ℕ) → quorate n mask ≡ true → S * ones mask ≤ S * n
signatures-few S n mask e = mul-le-mul_left S (ones-le n mask (quorate_facts n mask e).1)

module _ (form : Form) (S n : ℕ) where
  leaders-size : (cs : List Certificate) → AllFit form S cs → every (quorate n) (map (λ c. c.signers) cs) ≡ true
      → length (leaders_bytes S form cs) ≤ length cs * certificate_most form.term_bytes S n
  unfolding leaders_bytes flat_map every certificate_most
  leaders-size [] none-fit e = zero-le
  leaders-size (c ∷ cs) (more-fit f fs) e =
      let both = cond-true (quorate n c.signers) (every (quorate n) (map (λ c. c.signers) cs)) e in
      let few = signatures-few S n c.signers both.0 in
      let later : length (leaders_bytes S form cs) ≤ length cs * (ballot_size form.term_bytes + 2 + S * n) = leaders-size cs fs both.1 in
      rw (length-append, certificate-length form S c f, suc-mul) (omega arith)

  commit-size : (o : Option Commit) → CommitFits S o → every (quorate n) (commit_signers o) ≡ true → length (commit_bytes S o) ≤ commit_most S n
  unfolding commit_signers every commit_most commit_bytes
  commit-size none no-commit e = zero-le
  commit-size (some c) (a-commit index-fits signers-fit long) e =
      let few = signatures-few S n c.signers (cond-true _ _ e).0 in
      omega (arith, commit-length S c long)

  module _ (v : View) where
    masks-quorate : every (quorate n) (masks v) ≡ true
        → (every (quorate n) (map (λ c. c.signers) v.leaders) ≡ true) × (every (quorate n) (commit_signers v.commit) ≡ true)
    unfolding masks
    masks-quorate e = cond-true _ _ (sym (every_append (quorate n) (map (λ c. c.signers) v.leaders) (commit_signers v.commit)) ∙ e)

    pub parts-size : Fitting form S v → length v.stamps ≡ length v.leaders → every (quorate n) (masks v) ≡ true
        → length v.log ≤ record_most → length v.leaders ≤ leader_most
        → length (log_bytes form v.log)
        + (length (leaders_bytes S form v.leaders) + (length (stamps_bytes v.stamps) + length (commit_bytes S v.commit)))
        ≤ parts_most form.term_bytes S n
    unfolding parts_most
    parts-size fields each quorums records terms =
        let asked = masks-quorate quorums in
        let M = certificate_most form.term_bytes S n in
        let W = record_size form.term_bytes in
        let part1 : length (log_bytes form v.log) ≤ record_most * W =
        rw (log-length form v.log fields.log, mul_comm W (length v.log)) (mul-le-mul_right W records) in
        let part2 : length (leaders_bytes S form v.leaders) ≤ leader_most * M =
        le_trans (leaders-size v.leaders fields.leaders asked.0) (mul-le-mul_right M terms) in
        let part3 : length (stamps_bytes v.stamps) ≤ leader_most * S =
        rw (stamps-length S v.stamps fields.stamps, each) (mul-le-mul_right S terms) in
        let part4 = commit-size v.commit fields.commit asked.1 in
        omega arith
