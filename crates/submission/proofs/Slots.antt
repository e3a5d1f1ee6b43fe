-- What the signatures of an accepted submission stand on: each term has its leader certificate with a quorum of votes and the
-- candidate's stamp, and a commit has a quorum of receipts. Read off the checks, slot by slot.
-- Assumes nothing.
use mathlib.Core.Path.{◌≡◌, refl, sym, subst}
use mathlib.Core.Bool.{true}
use mathlib.Core.List.Memᴰ
use mathlib.Core.List.{List, [], ◌∷◌, ◌++◌, map, flat_map, Memᴰ}
use mathlib.Core.Logic.{⊎_elim}
use mathlib.Core.Option.{Option, some, none}
use Prim.Native.Nat.{ℕ, ◌^◌, ◌≤◌, ◌<◌}
use native.Mathlib.Nat.{suc_inj}
use native.Mathlib.Omega.{arith}
use borrow.Author.Tests.{eqb-true, leb-true, ltb-true}
use lib.Count.{ones}
use lib.ListN.{length, take, drop}
use Rattle.refusal.proofs.Laws.{all_cons, every-mem}
use Rattle.roster.specs.Roster.{quorum}
use Rattle.roster.specs.Masks.{signer}
use Rattle.roster.proofs.Masks.{listed}
use Rattle.log_chain.specs.Log.{Form, Record, last_term}
use Rattle.log_chain.specs.Claim.{Ballot, Claim, stamped, received, voted}
use Rattle.log_chain.specs.Ends.{rising}
use Rattle.log_chain.proofs.Order.{take-last-le}
use Rattle.log_chain.specs.Runs.{Run, runs}
use Rattle.submission.specs.View.{Certificate, Commit, View, Lead, leads_of, leads, committed_by, committed, Slot, slot, certified, votes_of, stamp_of, receipts_of, slots}
use Rattle.submission.specs.Validate.{quorate, commit_signers, masks, ordered, one_each, leading, within}
use Rattle.submission.proofs.Accepted.{Sound}

-- ---- members

pub mem-flat_map : {A B : Type 0} (f : A → List B) {a : A} {b : B} {l : List A} → Memᴰ a l → Memᴰ b (f a) → Memᴰ b (flat_map f l)
unfolding flat_map
mem-flat_map f {b = b} (Memᴰ.head {xs = xs} e) m = Memᴰ.append_left (flat_map f xs) (subst (λ x. Memᴰ b (f x)) e m)
mem-flat_map f (Memᴰ.tail {x = x} h) m = Memᴰ.append_right (f x) (mem-flat_map f h m)

-- replica k has a signature on the claim
pub record Stands (xs : List Slot) (k : ℕ) (c : Claim) : Type 0 where
  pub entry : Slot
  pub member : Memᴰ entry xs
  pub replica : entry.replica ≡ k
  pub claim : entry.claim ≡ c

among : (xs ys : List Slot) (k : ℕ) (c : Claim) → ((x : Slot) → Memᴰ x xs → Memᴰ x ys) → Stands xs k c → Stands ys k c
among xs ys k c h s = record { entry = s.entry; member = h s.entry s.member; replica = s.replica; claim = s.claim }

-- each signer's signature in a certificate
signed_by : (S : ℕ) (c : Claim) (ks : List ℕ) (bytes : List ℕ) (k : ℕ) → Memᴰ k ks → Stands (certified S c ks bytes) k c
unfolding certified slot
signed_by S c [] bytes k m = absurd (Memᴰ.not-nil m)
signed_by S c (j ∷ ks) bytes k m =
    ⊎_elim
    (λ (e : k ≡ j). record { entry = slot j c (take S bytes); member = Memᴰ.head refl; replica = sym e; claim = refl })
    (λ h. among _ _ k c (λ x. Memᴰ.tail) (signed_by S c ks (drop S bytes) k h))
    (Memᴰ.cases_cons m)

-- ---- the leads

lead_of_lem : (cs : List Certificate) (rs : List Run) (gs : List (List ℕ)) → length cs ≡ length rs → length gs ≡ length cs
    → (r : Run) → Memᴰ r rs → (l : Lead) × Memᴰ l (leads_of cs rs gs) × (l.term ≡ r) × Memᴰ l.certificate cs
unfolding leads_of
lead_of_lem cs [] gs e d r m = absurd (Memᴰ.not-nil m)
lead_of_lem [] (s ∷ rs) gs e d r m = absurd (omega arith)
lead_of_lem (c ∷ cs) (s ∷ rs) [] e d r m = absurd (omega arith)
lead_of_lem (c ∷ cs) (s ∷ rs) (g ∷ gs) e d r m =
    ⊎_elim
    (λ (h : r ≡ s). (record { certificate = c; term = s; stamp = g }, Memᴰ.head refl, sym h, Memᴰ.head refl))
    (λ h. let x = lead_of_lem cs rs gs (suc_inj e) (suc_inj d) r h in (x.0, Memᴰ.tail x.1, x.2, Memᴰ.tail x.3))
    (Memᴰ.cases_cons m)

-- a term's leader, with a quorum of votes and the leader's stamp
pub record Led (n : ℕ) (xs : List Slot) (r : Run) : Type 0 where
  pub ballot : Ballot
  pub signers : ℕ
  pub term : ballot.term ≡ last_term r.upto
  pub end_term : ballot.last_term ≡ last_term r.before
  pub end_index : ballot.last_index ≡ length r.before
  pub above : 0 < ballot.candidate
  pub below : ballot.candidate ≤ n
  pub quorum : quorate n signers ≡ true
  pub votes : (k : ℕ) → 0 < k → k ≤ 16 → signer signers k ≡ true → Stands xs k (voted ballot)
  pub stamp : Stands xs ballot.candidate (stamped (last_term r.upto) r.upto)

module _ (form : Form) (n S : ℕ) (v : View) (sound : Sound form n v) where
  lead-slots : (l : Lead) → Memᴰ l (leads v) → Memᴰ l.certificate v.leaders → Led n (slots S v) l.term
  unfolding slots leading votes_of stamp_of slot masks
  lead-slots l m c =
      let e1 = all_cons _ _ (every-mem (leading form n) (leads v) sound.leaders l m) in
      let e2 = all_cons _ _ e1.1 in
      let e3 = all_cons _ _ e2.1 in
      let e4 = all_cons _ _ e3.1 in
      let e5 = all_cons _ _ e4.1 in
      let e6 = all_cons _ _ e5.1 in
      record {
        ballot = l.certificate.ballot;
        signers = l.certificate.signers;
        term = eqb-true _ _ e1.0;
        end_term = eqb-true _ _ e2.0;
        end_index = eqb-true _ _ e3.0;
        above = leb-true 1 _ e5.0;
        below = leb-true _ n e6.0;
        quorum = every-mem (quorate n) (masks v) sound.quorums _ (Memᴰ.append_left _ (Memᴰ.map (λ x. x.signers) c));
        votes =
            λ k p h e.
            among (votes_of S l) (slots S v) k (voted l.certificate.ballot)
            (λ x d. Memᴰ.append_left _ (Memᴰ.append_left _ (mem-flat_map (votes_of S) m d)))
            (signed_by S _ _ _ k (listed _ k p h e));
        stamp =
            record {
              entry = stamp_of S l;
              member = Memᴰ.append_left _ (Memᴰ.append_right (flat_map (votes_of S) (leads v)) (Memᴰ.map (stamp_of S) m));
              replica = refl;
              claim = refl;
            };
      }

  pub led : (r : Run) → Memᴰ r (runs v.log) → Led n (slots S v) r
  unfolding leads one_each
  led r m =
      let l = lead_of_lem v.leaders (runs v.log) v.stamps (eqb-true _ _ sound.count) sound.stamped r m in
      subst (Led n (slots S v)) l.2 (lead-slots l.0 l.1 l.3)

-- ---- the commit

-- records 1 to the index are committed, with a quorum of receipts
pub record Settled (n : ℕ) (xs : List Slot) (log done : List Record) : Type 0 where
  pub index : ℕ
  pub signers : ℕ
  pub records : done ≡ take index log
  pub above : 0 < index
  pub within : index ≤ length log
  pub reach : last_term (take index log) ≤ last_term log
  pub quorum : quorate n signers ≡ true
  pub receipts : (k : ℕ) → 0 < k → k ≤ 16 → signer signers k ≡ true → Stands xs k (received (last_term (take index log)) (take index log))

settled_by : (n S : ℕ) (o : Option Commit) (log : List Record) (xs : List Slot) → (committed_by o log ≡ [] → ⊥)
    → ((mask : ℕ) → Memᴰ mask (commit_signers o) → quorate n mask ≡ true) → within o (length log) ≡ true → rising 1 log ≡ true
    → ((x : Slot) → Memᴰ x (receipts_of S o log) → Memᴰ x xs) → Settled n xs log (committed_by o log)
unfolding committed_by commit_signers within receipts_of
settled_by n S none log xs some-done q w rises sub = absurd (some-done refl)
settled_by n S (some c) log xs some-done q w rises sub =
    let w1 = all_cons _ _ w in
    record {
      index = c.index;
      signers = c.signers;
      records = refl;
      above = ltb-true 0 _ w1.0;
      within = leb-true _ _ (all_cons _ _ w1.1).0;
      reach = take-last-le c.index log rises;
      quorum = q c.signers (Memᴰ.head refl);
      receipts = λ k p h e. among _ xs k _ sub (signed_by S _ _ _ k (listed _ k p h e));
    }

pub settled : (form : Form) (n S : ℕ) (v : View) → Sound form n v → (committed v ≡ [] → ⊥) → Settled n (slots S v) v.log (committed v)
unfolding committed slots masks ordered
settled form n S v sound some-done =
    settled_by n S v.commit v.log (slots S v) some-done
    (λ mask m. every-mem (quorate n) (masks v) sound.quorums mask (Memᴰ.append_right (map (λ c. c.signers) v.leaders) m))
    sound.commit sound.order
    (λ x m. Memᴰ.append_right (flat_map (votes_of S) (leads v) ++ map (stamp_of S) (leads v)) m)

-- ---- a quorum

pub quorate_facts : (n mask : ℕ) → quorate n mask ≡ true → (quorum n ≤ ones mask) × (mask < 2 ^ n)
unfolding quorate
quorate_facts n mask e = let e1 = all_cons _ _ e in (leb-true _ _ e1.0, ltb-true _ _ (all_cons _ _ e1.1).0)
