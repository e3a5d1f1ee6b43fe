-- What replica k says in a submission, certificate by certificate: a certificate has one signature for each one of its mask, in rising order,
-- and so replica k says its claim once where bit k - 1 is a one, and otherwise not at all.
-- Assumes nothing.
use mathlib.Core.Path.{◌≡◌, refl, ap, ◌∙◌}
use mathlib.Core.Bool.{Bool, true, false, cond}
use mathlib.Core.List.{List, [], ◌∷◌, ◌++◌, map, flat_map}
use mathlib.Core.Logic.{⊎_elim}
use mathlib.Core.Option.{Option, some, none}
use Prim.Native.Nat.{ℕ, zero, suc, ◌+◌, ◌-◌, ◌/◌, ◌%◌, ◌^◌, ◌≤◌, ◌<◌}
use native.Mathlib.Nat.{div-one}
use native.Mathlib.Omega.{arith}
use borrow.Author.Tests.{eq-eqb, ne_eqb}
use lib.Dec.{eqb}
use lib.ListN.{take, drop}
use Rattle.refusal.proofs.Laws.{look}
use Rattle.roster.specs.Masks.{signer, replicas_from, replicas_of}
use Rattle.roster.proofs.Quorums.{shift}
use Rattle.log_chain.specs.Log.{Record, last_term}
use Rattle.log_chain.specs.Claim.{Claim, stamped, received, voted}
use Rattle.submission.specs.View.{Commit, View, Lead, leads, Slot, slot, certified, votes_of, stamp_of, receipts_of, slots}
use Rattle.forensics.specs.Findings.{says}

-- ---- lists joined

pub says-append : (k : ℕ) (xs ys : List Slot) → says k (xs ++ ys) ≡ says k xs ++ says k ys
unfolding says
says-append k [] ys = refl
says-append k (x ∷ xs) ys =
    ⊎_elim
    (λ (e : eqb x.replica k ≡ true). rw e (ap (λ z. x.claim ∷ z) (says-append k xs ys)))
    (λ (e : eqb x.replica k ≡ false). rw e (says-append k xs ys))
    (look (eqb x.replica k))

-- ---- a certificate

-- the claim, where the test holds
unfoldable pub said_if : Bool → Claim → List Claim
said_if b c = cond b (c ∷ []) []

module _ (S : ℕ) (claim : Claim) where
  -- no replica before the first bit's
  says-low : (bits j mask k : ℕ) (bytes : List ℕ) → k < j → says k (certified S claim (replicas_from bits j mask) bytes) ≡ []
  unfolding says certified slot replicas_from
  says-low zero j mask k bytes h = refl
  says-low (suc bits) j mask k bytes h =
      ⊎_elim
      (λ (e : eqb (mask % 2) 1 ≡ true). rw (e, ne_eqb j k (λ d. omega (arith, d))) (says-low bits (suc j) (mask / 2) k (drop S bytes) (omega arith)))
      (λ (e : eqb (mask % 2) 1 ≡ false). rw e (says-low bits (suc j) (mask / 2) k bytes (omega arith)))
      (look (eqb (mask % 2) 1))

  -- replica j + i, where the first bit is replica j's
  says-from : (bits j mask i : ℕ) (bytes : List ℕ) → i < bits
      → says (j + i) (certified S claim (replicas_from bits j mask) bytes) ≡ said_if (eqb (mask / 2 ^ i % 2) 1) claim
  unfolding says certified slot replicas_from said_if
  says-from zero j mask i bytes h = absurd (omega arith)
  says-from (suc bits) j mask zero bytes h =
      let here : j ≡ j + 0 = omega arith in
      ⊎_elim
      (λ (e : eqb (mask % 2) 1 ≡ true).
      rw (div-one, e, eq-eqb j (j + 0) here) (ap (λ z. claim ∷ z) (says-low bits (suc j) (mask / 2) (j + 0) (drop S bytes) (omega arith))))
      (λ (e : eqb (mask % 2) 1 ≡ false). rw (div-one, e) (says-low bits (suc j) (mask / 2) (j + 0) bytes (omega arith)))
      (look (eqb (mask % 2) 1))
  says-from (suc bits) j mask (suc i) bytes h =
      let later : suc j + i ≡ j + suc i = omega arith in
      let rest : (b : List ℕ) → says (j + suc i) (certified S claim (replicas_from bits (suc j) (mask / 2)) b) ≡ said_if (eqb (mask / 2 ^ suc i % 2) 1) claim =
      λ b. rw (← later, shift mask i) (says-from bits (suc j) (mask / 2) i b (omega arith)) in
      ⊎_elim
      (λ (e : eqb (mask % 2) 1 ≡ true). rw (e, ne_eqb j (j + suc i) (λ d. omega (arith, d))) (rest (drop S bytes)))
      (λ (e : eqb (mask % 2) 1 ≡ false). rw e (rest bytes))
      (look (eqb (mask % 2) 1))

  pub says-certified : (k mask : ℕ) (bytes : List ℕ) → 0 < k → k ≤ 16
      → says k (certified S claim (replicas_of mask) bytes) ≡ said_if (signer mask k) claim
  unfolding signer replicas_of
  says-certified k mask bytes p h =
      let place : 1 + (k - 1) ≡ k = omega arith in rw place at (says-from 16 1 mask (k - 1) bytes (omega arith))

-- ---- a submission

-- what stands in a term's leader certificate, under its stamp, and in a commit certificate
abbrev pub vote : Lead → Claim
vote l = voted l.certificate.ballot

abbrev pub stamp : Lead → Claim
stamp l = let upto = l.term.upto in stamped (last_term upto) upto

abbrev pub receipt : Commit → List Record → Claim
receipt c log = let upto = take c.index log in received (last_term upto) upto

module _ (k : ℕ) where
  -- replica k is a signer of a term's leader certificate, of its stamp
  abbrev pub voter : Lead → Bool
  voter l = signer l.certificate.signers k

  abbrev pub stamper : Lead → Bool
  stamper l = eqb l.certificate.ballot.candidate k

  -- what it says there, and in a commit certificate
  unfoldable pub vote_by : Lead → List Claim
  vote_by l = said_if (voter l) (vote l)

  unfoldable pub stamp_by : Lead → List Claim
  stamp_by l = said_if (stamper l) (stamp l)

  unfoldable pub receipt_by : Option Commit → List Record → List Claim
  receipt_by none log = []
  receipt_by (some c) log = said_if (signer c.signers k) (receipt c log)

  module _ (S : ℕ) where
    pub says-stamps : (ls : List Lead) → says k (map (stamp_of S) ls) ≡ flat_map stamp_by ls
    unfolding says stamp_of slot stamp_by said_if flat_map
    says-stamps [] = refl
    says-stamps (l ∷ ls) =
        ⊎_elim
        (λ (e : stamper l ≡ true). rw e (ap (λ z. stamp l ∷ z) (says-stamps ls)))
        (λ (e : stamper l ≡ false). rw e (says-stamps ls))
        (look (stamper l))

    module _ (some-replica : 0 < k) (few : k ≤ 16) where
      pub says-votes : (ls : List Lead) → says k (flat_map (votes_of S) ls) ≡ flat_map vote_by ls
      unfolding votes_of vote_by flat_map says
      says-votes [] = refl
      says-votes (l ∷ ls) =
          let c = l.certificate in
          says-append k (votes_of S l) (flat_map (votes_of S) ls)
          ∙ ap (λ z. z ++ says k (flat_map (votes_of S) ls)) (says-certified S (vote l) k c.signers c.signatures some-replica few)
          ∙ ap (λ z. vote_by l ++ z) (says-votes ls)

      pub says-receipts : (o : Option Commit) (log : List Record) → says k (receipts_of S o log) ≡ receipt_by o log
      unfolding receipts_of receipt_by says
      says-receipts none log = refl
      says-receipts (some c) log = says-certified S (receipt c log) k c.signers c.signatures some-replica few

      -- all that it says, in layout order
      pub says-slots : (v : View)
          → says k (slots S v) ≡ flat_map vote_by (leads v) ++ flat_map stamp_by (leads v) ++ receipt_by v.commit v.log
      unfolding slots
      says-slots v =
          let votes = flat_map (votes_of S) (leads v) in
          let stamps = map (stamp_of S) (leads v) in
          let given = receipts_of S v.commit v.log in
          rw (
            says-append k (votes ++ stamps) given,
            says-append k votes stamps,
            says-votes (leads v),
            says-stamps (leads v),
            says-receipts v.commit v.log,
          )
