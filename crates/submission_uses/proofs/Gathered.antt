-- A replica's signatures one after the other: the entry that is put is the use that the signature is, and what is put and what is left are
-- what is asked.
-- Assumes nothing.
use mathlib.Core.Path.{◌≡◌, refl, sym, ap, ◌∙◌}
use mathlib.Core.Bool.{true, false, cond}
use mathlib.Core.List.{List, [], ◌∷◌, ◌++◌, map, flat_map, append_assoc, append-nil, map-append}
use mathlib.Core.Logic.{⊎_elim}
use mathlib.Core.Option.{some, none}
use Prim.Native.Nat.{ℕ, ◌+◌, ◌-◌, ◌*◌, ◌≤◌, ◌<◌}
use native.Mathlib.Omega.{arith}
use borrow.Author.Tests.{eqb-true}
use lib.Dec.{eqb}
use lib.ListN.{length, take, drop}
use lib.Seq.{drop-drop}
use Rattle.words.specs.BigEndian.{number_at}
use Rattle.words.proofs.Bytes.{Bytes}
use Rattle.refusal.proofs.Laws.{look}
use Rattle.roster.specs.Roster.{cluster, key_of}
use Rattle.roster.specs.Masks.{signer, replicas_of}
use Rattle.log_chain.specs.Log.{with_terms, pointer, last_term}
use Rattle.log_chain.specs.Claim.{Claim, say}
use Rattle.log_chain.specs.Records.{records_of}
use Rattle.log_chain.specs.Sizes.{place_statement}
use Rattle.log_chain.proofs.Records.{length-records}
use Rattle.log_chain.proofs.Said.{receipt-said}
use Rattle.log_terms.proofs.Records.{take-records}
use Rattle.lm_format.specs.Leaf.{leaf_size, leaf_at}
use Rattle.lm_format.specs.Uses.{Use, use_of}
use Rattle.lm_format.proofs.Leaf.{leaf_at_lem}
use Rattle.log_chain.specs.Runs.{runs}
use Rattle.submission.specs.View.{Commit, View, leads, Slot, slot, certified, stamp_of, receipts_of, slots}
use Rattle.submission.specs.Reading.{ballot_size, signers_at, certificate_at, certificate_end, certificates, commit_at}
use Rattle.submission.specs.Validate.{one_each, slot_use, uses}
use Rattle.submission.proofs.Certificates.{certificates-first}
use Rattle.submission_signatures.specs.Votes.{ballots}
use Rattle.submission_signatures.proofs.Fifteen.{votes_leads}
use Rattle.submission_signatures.proofs.Said.{vote_said}
use Rattle.submission_leaves.specs.Entries.{padded, padded_use}
use Rattle.submission_uses.specs.Signed.{ones_below, signature_place, slot_use_in}
use Rattle.submission_uses.proofs.Places.{uses-certified}

-- ---- an entry

-- the entry of a leaf and a message
pub entry_of : (leaf q size : ℕ) (statement message : List ℕ) {us : List Use} → us ≡ use_of q message ∷ [] → leaf ≡ q
    → size ∷ statement ≡ padded message → use_of leaf (size ∷ statement) ∷ [] ≡ map padded_use us
unfolding padded_use use_of
entry_of leaf q size statement message all e put = rw all (λ i. use_of (e i) (put i) ∷ [])

-- no entry
pub no_entry : (us before : List Use) → us ≡ [] → before ≡ before ++ map padded_use us
no_entry us before e = rw e (sym (append-nil before))

-- ---- the signers of a certificate

module _ (roster s : List ℕ) (w S : ℕ) (claim : Claim) (k : ℕ) (low : 0 < k) (high : k ≤ 16) where
  -- replica k's use, from the place where the signatures begin
  signed-use : (mask from : ℕ) → leaf_size ≤ S
      → uses (slot_use_in w roster) k (certified S claim (replicas_of mask) (drop from s))
      ≡ cond (signer mask k) (use_of (leaf_at s (signature_place mask k S from)) (say (with_terms w (cluster roster)) claim) ∷ []) []
  unfolding slot_use slot signature_place
  signed-use mask from wide =
      uses-certified (slot_use_in w roster) S claim k mask (drop from s) low high
      ∙ rw (drop-drop (S * ones_below (k - 1) mask) from s, leaf_at_lem (key_of roster k) s S (from + S * ones_below (k - 1) mask) wide)

-- a vote
module _ (roster s : List ℕ) (w S at k : ℕ) (low : 0 < k) (high : k ≤ 16) (wide : leaf_size ≤ S) (bytes : Bytes s) (inside : at + ballot_size w ≤ length s) where
  abbrev signers : ℕ
  signers = number_at 2 s (at + ballot_size w)

  abbrev statement : List ℕ
  statement = 3 ∷ cluster roster ++ take (ballot_size w) (drop at s)

  vote-uses : uses (slot_use_in w roster) k (ballots S (certificate_at w s at))
      ≡ cond (signer signers k) (use_of (leaf_at s (signature_place signers k S (at + ballot_size w + 2))) statement ∷ []) []
  unfolding ballots certificate_at signers_at
  vote-uses = signed-use roster s w S _ k low high signers (at + ballot_size w + 2) wide ∙ rw (sym (vote_said roster s w at bytes inside))

  pub own-vote : signer signers k ≡ true
      → uses (slot_use_in w roster) k (ballots S (certificate_at w s at)) ≡ use_of (leaf_at s (signature_place signers k S (at + ballot_size w + 2))) statement ∷ []
  own-vote e = vote-uses ∙ rw e

  pub no-vote : signer signers k ≡ false → uses (slot_use_in w roster) k (ballots S (certificate_at w s at)) ≡ []
  no-vote e = vote-uses ∙ rw e

-- a receipt
module _ (roster s : List ℕ) (w S at records k : ℕ) (low : 0 < k) (high : k ≤ 16) (wide : leaf_size ≤ S) (p : List ℕ) (few : number_at 4 s at ≤ records)
    (pointed : p ≡ pointer (with_terms w []) (records_of w (number_at 4 s at) s)) where
  abbrev given : ℕ
  given = number_at 2 s (at + 4)

  abbrev place : List ℕ
  place = place_statement 2 (cluster roster) w (last_term (records_of w (number_at 4 s at) s)) (number_at 4 s at) p

  receipt-uses : uses (slot_use_in w roster) k (receipts_of S (some (commit_at s at)) (records_of w records s))
      ≡ cond (signer given k) (use_of (leaf_at s (signature_place given k S (at + 6))) place ∷ []) []
  unfolding receipts_of commit_at signers_at
  receipt-uses =
      let c = number_at 4 s at in
      rw (take-records w c records s few, receipt-said (cluster roster) w (records_of w c s) (last_term (records_of w c s)) c p (length-records w c s) pointed)
      (signed-use roster s w S _ k low high given (at + 6) wide)

  pub own-receipt : signer given k ≡ true
      → uses (slot_use_in w roster) k (receipts_of S (some (commit_at s at)) (records_of w records s)) ≡ use_of (leaf_at s (signature_place given k S (at + 6))) place ∷ []
  own-receipt e = receipt-uses ∙ rw e

  pub no-receipt : signer given k ≡ false → uses (slot_use_in w roster) k (receipts_of S (some (commit_at s at)) (records_of w records s)) ≡ []
  no-receipt e = receipt-uses ∙ rw e

-- ---- lists joined

pub uses-append : (as_use : Slot → Use) (k : ℕ) (xs ys : List Slot) → uses as_use k (xs ++ ys) ≡ uses as_use k xs ++ uses as_use k ys
unfolding uses
uses-append as_use k [] ys = refl
uses-append as_use k (x ∷ xs) ys =
    ⊎_elim
    (λ (e : eqb x.replica k ≡ true). rw e (ap (λ z. as_use x ∷ z) (uses-append as_use k xs ys)))
    (λ (e : eqb x.replica k ≡ false). rw e (uses-append as_use k xs ys))
    (look (eqb x.replica k))

-- those before, then those of some slots, then those of the slots after them
pub put_then : (as_use : Slot → Use) (k : ℕ) (xs ys : List Slot) (before : List Use) {now : List Use} → now ≡ before ++ map padded_use (uses as_use k xs)
    → now ++ map padded_use (uses as_use k ys) ≡ before ++ map padded_use (uses as_use k (xs ++ ys))
put_then as_use k xs ys before e =
    ap (λ z. z ++ map padded_use (uses as_use k ys)) e
    ∙ append_assoc before (map padded_use (uses as_use k xs)) (map padded_use (uses as_use k ys))
    ∙ ap (λ z. before ++ z)
    (sym (map-append padded_use (uses as_use k xs) (uses as_use k ys)) ∙ ap (map padded_use) (sym (uses-append as_use k xs ys)))

-- ---- the votes that are left

module _ (as_use : Slot → Use) (w S : ℕ) (s : List ℕ) (k : ℕ) where
  pub votes-next : (left at : ℕ) → 0 < left → (before : List Use) {now all : List Use}
      → now ≡ before ++ map padded_use (uses as_use k (ballots S (certificate_at w s at)))
      → before ++ map padded_use (uses as_use k (flat_map (ballots S) (certificates w S s left at))) ≡ all
      → now ++ map padded_use (uses as_use k (flat_map (ballots S) (certificates w S s (left - 1) (certificate_end w S s at)))) ≡ all
  unfolding flat_map
  votes-next left at more before put asked =
      put_then as_use k (ballots S (certificate_at w s at)) (flat_map (ballots S) (certificates w S s (left - 1) (certificate_end w S s at))) before put
      ∙ rw (certificates-first w S s left at more) at asked

  pub votes-done : (left at : ℕ) → left ≤ 0 → (now : List Use) {all : List Use}
      → now ++ map padded_use (uses as_use k (flat_map (ballots S) (certificates w S s left at))) ≡ all → now ≡ all
  unfolding certificates flat_map uses
  votes-done left at h now asked = let none : left ≡ 0 = omega arith in sym (append-nil now) ∙ rw none at asked

-- ---- the three parts

module _ (as_use : Slot → Use) (S k : ℕ) (v : View) (terms : one_each v ≡ true) (stamps : length v.stamps ≡ length v.leaders) where
  slots-parts : slots S v ≡ (flat_map (ballots S) v.leaders ++ map (stamp_of S) (leads v)) ++ receipts_of S v.commit v.log
  unfolding slots leads one_each
  slots-parts = rw (votes_leads S v.leaders (runs v.log) v.stamps (sym (eqb-true _ _ terms)) stamps)

  module _ (first : List Use) {second third : List Use} (voted : second ≡ first ++ map padded_use (uses as_use k (flat_map (ballots S) v.leaders)))
      (stamped : third ≡ second ++ map padded_use (uses as_use k (map (stamp_of S) (leads v)))) where
    two_parts : third ≡ first ++ map padded_use (uses as_use k (flat_map (ballots S) v.leaders ++ map (stamp_of S) (leads v)))
    two_parts = stamped ∙ put_then as_use k (flat_map (ballots S) v.leaders) (map (stamp_of S) (leads v)) first voted

    pub without-receipt : v.commit ≡ none → third ≡ first ++ map padded_use (uses as_use k (slots S v))
    unfolding receipts_of
    without-receipt e =
        let parts = flat_map (ballots S) v.leaders ++ map (stamp_of S) (leads v) in
        let whole = slots-parts ∙ ap (λ c. parts ++ receipts_of S c v.log) e ∙ append-nil parts in
        two_parts ∙ ap (λ z. first ++ map padded_use (uses as_use k z)) (sym whole)

    pub with-receipt : {c : Commit} {last : List Use} → v.commit ≡ some c
        → last ≡ third ++ map padded_use (uses as_use k (receipts_of S (some c) v.log)) → last ≡ first ++ map padded_use (uses as_use k (slots S v))
    with-receipt {c} e received =
        received
        ∙ put_then as_use k (flat_map (ballots S) v.leaders ++ map (stamp_of S) (leads v)) (receipts_of S (some c) v.log) first two_parts
        ∙ ap (λ z. first ++ map padded_use (uses as_use k z))
        (sym (slots-parts ∙ ap (λ c. (flat_map (ballots S) v.leaders ++ map (stamp_of S) (leads v)) ++ receipts_of S c v.log) e))
