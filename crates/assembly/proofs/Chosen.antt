-- What is chosen from a bag whose items have S bytes of signature each: good copies of S bytes, and for a term a lead that meets checks 10,
-- 13 and 15.
-- Assumes nothing.
use mathlib.Core.Path.{◌≡◌, refl, sym, ap, ◌∙◌}
use mathlib.Core.Bool.{true, false, cond}
use mathlib.Core.List.{List, [], ◌∷◌, ◌++◌, append-nil}
use mathlib.Core.Logic.{◌⊎◌, inl, inr}
use mathlib.Core.Option.{Option, some, none, or_else}
use Prim.Native.Nat.{ℕ, zero, suc, ◌+◌, ◌*◌, ◌^◌, ◌≤◌, ◌<◌}
use native.Mathlib.Omega.{arith}
use borrow.Author.Tests.{eq-eqb, leb-true, le-leb, lt-ltb}
use lib.Count.{ones}
use lib.Dec.{eqb, leb}
use lib.ListN.{length}
use Rattle.words.specs.BigEndian.{same}
use Rattle.words.proofs.Same.{true_same}
use Rattle.refusal.specs.Checks.{all, every}
use Rattle.refusal.proofs.Laws.{look, all_cons}
use Rattle.lms.specs.Check.{good}
use Rattle.roster.specs.Roster.{replicas, quorum, key_of}
use Rattle.roster.specs.Masks.{signer, replicas_from, replicas_of}
use Rattle.log_chain.specs.Log.{Form, pointer, last_term}
use Rattle.log_chain.specs.Claim.{Claim, stamped, voted, say}
use Rattle.log_chain.specs.Runs.{Run}
use Rattle.submission.specs.View.{Lead, slot, certified, votes_of, stamp_of}
use Rattle.submission.specs.Validate.{genuine, leading, quorate}
use Rattle.submission_encoding.specs.Copies.{signers_of, signatures_of}
use Rattle.submission_encoding.proofs.Copies.{Sized, no_more, skip, one, slot_of, slots_from, signers-lt, signatures-length, copies-slots}
use Rattle.assembly.specs.Items.{Item, fits, copy_of, copies_from, copies}
use Rattle.assembly.specs.Choice.{ballot_for, votes_for, stamp_by, lead_of, lead_by, lead_from}
use Rattle.assembly.proofs.Whole.{Long, no_item, an_item}

-- ---- one copy

data Copy (roster : List ℕ) (S k : ℕ) (statement : List ℕ) : Option (List ℕ) → Type 0 where
  absent : Copy roster S k statement none
  present : {g : List ℕ} → good (key_of roster k) statement g ≡ true → length g ≡ S → Copy roster S k statement (some g)

module _ (roster : List ℕ) where
  fitting : (k : ℕ) (statement : List ℕ) (i : Item) → fits roster k statement i ≡ true → good (key_of roster k) statement i.signature ≡ true
  unfolding fits
  fitting k statement i e =
      let a = all_cons (eqb i.replica k) _ e in
      let b = all_cons (same i.statement statement) _ a.1 in
      (all_cons (good (key_of roster k) statement i.signature) _ b.1).0

  copy-good : (S k : ℕ) (statement : List ℕ) (is : List Item) → Long S is → Copy roster S k statement (copy_of roster k statement is)
  unfolding copy_of
  copy-good S k statement [] no_item = absent
  copy-good S k statement (i ∷ is) (an_item l ls) = go (look (fits roster k statement i)) (copy-good S k statement is ls)
    where
      go : (fits roster k statement i ≡ true) ⊎ (fits roster k statement i ≡ false) → Copy roster S k statement (copy_of roster k statement is)
          → Copy roster S k statement (cond (fits roster k statement i) (some i.signature) (copy_of roster k statement is))
      go (inl y) later = rw y (present (fitting k statement i y) l)
      go (inr n) later = rw n later

  copies_length : (count k : ℕ) (statement : List ℕ) (is : List Item) → length (copies_from roster count k statement is) ≡ count
  unfolding copies_from
  copies_length zero k statement is = refl
  copies_length (suc count) k statement is = ap suc (copies_length count (suc k) statement is)

-- ---- the copies of one statement

module _ (form : Form) (roster : List ℕ) (S : ℕ) (is : List Item) (long : Long S is) where
  module _ (claim : Claim) where
    copies-sized : (count k : ℕ) → Sized S (copies_from roster count k (say form claim) is)
    unfolding copies_from
    copies-sized zero k = no_more
    copies-sized (suc count) k =
        go (copy_of roster k (say form claim) is) (copy-good roster S k (say form claim) is long) (copies-sized count (suc k))
      where
        go : (o : Option (List ℕ)) → Copy roster S k (say form claim) o → Sized S (copies_from roster count (suc k) (say form claim) is)
            → Sized S (o ∷ copies_from roster count (suc k) (say form claim) is)
        go none absent h = skip h
        go (some g) (present y l) h = one l h

    copies-genuine : (count k : ℕ)
        → every (genuine form roster) (slots_from claim k (copies_from roster count k (say form claim) is)) ≡ true
    unfolding copies_from slots_from slot_of every genuine slot
    copies-genuine zero k = refl
    copies-genuine (suc count) k =
        go (copy_of roster k (say form claim) is) (copy-good roster S k (say form claim) is long) (copies-genuine count (suc k))
      where
        go : (o : Option (List ℕ)) → Copy roster S k (say form claim) o
            → every (genuine form roster) (slots_from claim (suc k) (copies_from roster count (suc k) (say form claim) is)) ≡ true
            → every (genuine form roster) (slot_of claim k o ++ slots_from claim (suc k) (copies_from roster count (suc k) (say form claim) is)) ≡ true
        go none absent h = h
        go (some g) (present y l) h = rw y h

    -- as a certificate: no signer above the replicas, S bytes for each signer, and every signature good
    pub record Certified (cs : List (Option (List ℕ))) : Type 0 where
      pub few : signers_of cs < 2 ^ replicas roster
      pub size : length (signatures_of cs) ≡ S * ones (signers_of cs)
      pub signatures : every (genuine form roster) (certified S claim (replicas_of (signers_of cs)) (signatures_of cs)) ≡ true

    pub copies-certified : replicas roster ≤ 16 → Certified (copies roster (say form claim) is)
    unfolding copies replicas_of
    copies-certified few =
        let cs = copies_from roster (replicas roster) 1 (say form claim) is in
        let count : length cs ≡ replicas roster = copies_length roster (replicas roster) 1 (say form claim) is in
        let sizes : Sized S cs = copies-sized (replicas roster) 1 in
        let exact = copies-slots S claim cs sizes 16 1 [] (rw count few) in
        record {
          few = rw count at (signers-lt cs);
          size = signatures-length S cs sizes;
          signatures =
              ap (λ z. every (genuine form roster) (certified S claim (replicas_from 16 1 (signers_of cs)) z)) (sym (append-nil (signatures_of cs)))
              ∙ ap (every (genuine form roster)) exact ∙ copies-genuine (replicas roster) 1;
        }

  -- ---- a lead

  pub record Chosen (r : Run) (l : Lead) : Type 0 where
    pub candidate : ℕ
    pub high : candidate ≤ replicas roster
    pub ballot : l.certificate.ballot ≡ ballot_for form candidate r
    pub term : l.term ≡ r
    pub leads : leading form (replicas roster) l ≡ true
    pub quorum-met : quorate (replicas roster) l.certificate.signers ≡ true
    pub votes : every (genuine form roster) (votes_of S l) ≡ true
    pub votes-size : length l.certificate.signatures ≡ S * ones l.certificate.signers
    pub stamp : genuine form roster (stamp_of S l) ≡ true
    pub stamp-size : length l.stamp ≡ S

  pub data IsLead (r : Run) : Option Lead → Type 0 where
    no_lead : IsLead r none
    a-lead : {l : Lead} → Chosen r l → IsLead r (some l)

  module _ (few : replicas roster ≤ 16) (r : Run) where
    abbrev mask : ℕ → ℕ
    mask c = signers_of (votes_for form roster is c r)

    abbrev stamp_said : List ℕ
    stamp_said = say form (stamped (last_term r.upto) r.upto)

    votes-certified : (c : ℕ) → Certified (voted (ballot_for form c r)) (votes_for form roster is c r)
    unfolding votes_for
    votes-certified c = copies-certified (voted (ballot_for form c r)) few

    abbrev the_lead : ℕ → List ℕ → Lead
    the_lead c g =
        record {
          certificate =
              record {
                ballot = ballot_for form c r;
                signers = mask c;
                signatures = signatures_of (votes_for form roster is c r);
              };
          term = r;
          stamp = g;
        }

    module _ (c : ℕ) (low : 1 ≤ c) (high : c ≤ replicas roster) where
      lead-chosen : quorum (replicas roster) ≤ ones (mask c) → signer (mask c) c ≡ true
          → (g : List ℕ) → good (key_of roster c) stamp_said g ≡ true → length g ≡ S → Chosen r (the_lead c g)
      unfolding leading all votes_of stamp_of genuine slot quorate ballot_for
      lead-chosen enough own g y l =
          let votes = votes-certified c in
          record {
            candidate = c;
            high = high;
            ballot = refl;
            term = refl;
            leads =
                rw (
                  eq-eqb (last_term r.upto) _ refl,
                  eq-eqb (last_term r.before) _ refl,
                  eq-eqb (length r.before) _ refl,
                  true_same (pointer form r.before),
                  le-leb _ _ low,
                  le-leb _ _ high,
                  own,
                );
            quorum-met = rw (le-leb _ _ enough, lt-ltb _ _ votes.few);
            votes = votes.signatures;
            votes-size = votes.size;
            stamp = y;
            stamp-size = l;
          }

      with-stamp : quorum (replicas roster) ≤ ones (mask c) → signer (mask c) c ≡ true
          → (o : Option (List ℕ)) → Copy roster S c stamp_said o → IsLead r (lead_of form c r (votes_for form roster is c r) o)
      unfolding lead_of
      with-stamp enough own none absent = no_lead
      with-stamp enough own (some g) (present y l) = a-lead (lead-chosen enough own g y l)

      by-candidate : IsLead r (lead_by form roster is c r)
      unfolding lead_by stamp_by
      by-candidate = go (look (all (leb (quorum (replicas roster)) (ones (mask c)) ∷ signer (mask c) c ∷ [])))
        where
          go : (all (leb (quorum (replicas roster)) (ones (mask c)) ∷ signer (mask c) c ∷ []) ≡ true)
              ⊎ (all (leb (quorum (replicas roster)) (ones (mask c)) ∷ signer (mask c) c ∷ []) ≡ false)
              → IsLead r (cond (all (leb (quorum (replicas roster)) (ones (mask c)) ∷ signer (mask c) c ∷ []))
              (lead_of form c r (votes_for form roster is c r) (copy_of roster c stamp_said is)) none)
          go (inl y) =
              let a = all_cons (leb (quorum (replicas roster)) (ones (mask c))) _ y in
              let b = all_cons (signer (mask c) c) _ a.1 in
              rw y (with-stamp (leb-true _ _ a.0) b.0 _ (copy-good roster S c stamp_said is long))
          go (inr n) = rw n no_lead

    -- the lowest candidate
    pub chosen : (count c : ℕ) → 1 ≤ c → c + count ≤ replicas roster + 1 → IsLead r (lead_from form roster is count c r)
    unfolding lead_from or_else
    chosen zero c low high = no_lead
    chosen (suc count) c low high =
        go (lead_by form roster is c r) (by-candidate c low (omega arith)) (chosen count (suc c) (omega arith) (omega arith))
      where
        go : (o : Option Lead) → IsLead r o → IsLead r (lead_from form roster is count (suc c) r)
            → IsLead r (or_else o (lead_from form roster is count (suc c) r))
        go none no_lead later = later
        go (some l) (a-lead f) later = a-lead f
