-- Every statement of an accepted submission fits its fields and speaks of its log: numbers read from so many bytes fit them, each term of the
-- log is a beginning of it, and a leader certificate's last pointer is one.
-- Assumes nothing.
use mathlib.Core.Path.{◌≡◌, refl, sym, ap, subst, ◌∙◌}
use mathlib.Core.Bool.{true}
use mathlib.Core.List.{List, [], ◌∷◌, ◌++◌, map, flat_map, Memᴰ}
use mathlib.Core.Logic.{⊎_elim}
use mathlib.Core.Option.{Option, some, none}
use Prim.Native.Nat.{ℕ, zero, suc, ◌+◌, ◌*◌, ◌^◌, ◌≤◌, ◌<◌}
use native.Mathlib.Nat.{mul-suc}
use native.Mathlib.Omega.{arith}
use borrow.Author.Tests.{eqb-true, leb-true}
use lib.ListN.{length, take, drop, replicate, length-take, length-drop}
use lib.Seq.{length-take-le}
use Rattle.words.specs.BigEndian.{number_at}
use Rattle.words.proofs.Bytes.{Bytes}
use Rattle.words.proofs.Laws.{number_at-lt, bytes_drop}
use Rattle.words.proofs.Members.{joined-mem}
use Rattle.words.proofs.Same.{same_true}
use Rattle.refusal.specs.Checks.{every}
use Rattle.refusal.proofs.Laws.{all_cons, every-mem}
use Rattle.roster.specs.Roster.{replicas, signature_size}
use Rattle.roster.specs.Masks.{replicas_of}
use Rattle.log_chain.specs.Log.{Form, Record, pointer, chain_strings, last_term}
use Rattle.log_chain.specs.Claim.{Claim, stamped, received, voted}
use Rattle.log_chain.proofs.Records.{length-records}
use Rattle.log_chain.proofs.Fits.{LogFits, empty, more, PlaceFits, BallotFits, ClaimFits}
use Rattle.log_chain.proofs.Prefix.{strings-take, fits-take, last_fits}
use Rattle.log_chain.proofs.Said.{strings_of, pointer-length}
use Rattle.submission.specs.Trailer.{trailer_at, record_count, distance}
use Rattle.log_chain.specs.Runs.{Run, runs}
use Rattle.submission.specs.View.{Certificate, Commit, Lead, leads_of, leads, Slot, slot, certified, votes_of, stamp_of, receipts_of, slots}
use Rattle.log_chain.specs.Records.{record_size, records_of}
use Rattle.submission.specs.Reading.{ballot_at, certificate_at, certificate_end, certificates, leaders_from, view, laid_out}
use Rattle.submission.specs.Validate.{record_most, counted, leading, form_of, view_of, slots_of}
use Rattle.submission.proofs.Accepted.{Accepted}
use Rattle.log_chain.proofs.Runs.{run-begins}

-- ---- the records

module _ (form : Form) where
  pub records-fit : (count : ℕ) (bytes : List ℕ) → Bytes bytes → record_size form.term_bytes * count ≤ length bytes → LogFits form (records_of form.term_bytes count bytes)
  unfolding records_of record_size number_at
  records-fit zero bytes b h = empty
  records-fit (suc count) bytes b h =
      let w = form.term_bytes in
      let room : (w + 32) * count + (w + 32) ≤ length bytes = rw mul-suc at h in
      let rest : (w + 32) * count ≤ length (drop (w + 32) bytes) = rw length-drop (omega arith) in
      let digest : length (take 32 (drop w bytes)) ≡ 32 = length-take-le 32 (drop w bytes) (rw length-drop (omega arith)) in
      more (record { term = number_at-lt w bytes 0 b; digest = digest }) (records-fit count (drop (w + 32) bytes) (bytes_drop (w + 32) bytes b) rest)

  -- ---- the leader certificates

  module _ (s : List ℕ) (bytes : Bytes s) where
    ballot-fits : (at : ℕ) → length (ballot_at form.term_bytes s at).last_pointer ≡ 32 → BallotFits form (ballot_at form.term_bytes s at)
    unfolding ballot_at
    ballot-fits at h =
        record {
          candidate = number_at-lt 2 s _ bytes;
          term = number_at-lt form.term_bytes s _ bytes;
          last_term = number_at-lt form.term_bytes s _ bytes;
          last_index = number_at-lt 4 s _ bytes;
          last_pointer = h;
        }

    certificate-fits : (S count at : ℕ) (c : Certificate) → Memᴰ c (certificates form.term_bytes S s count at) → length c.ballot.last_pointer ≡ 32
        → BallotFits form c.ballot
    unfolding certificates certificate_at
    certificate-fits S zero at c m = absurd (mathlib.Core.List.Memᴰ.not-nil m)
    certificate-fits S (suc count) at c m =
        ⊎_elim
        (λ (e : c ≡ certificate_at form.term_bytes s at).
        subst (λ (d : Certificate). length d.ballot.last_pointer ≡ 32 → BallotFits form d.ballot) (sym e) (ballot-fits at))
        (λ (h : Memᴰ c (certificates form.term_bytes S s count (certificate_end form.term_bytes S s at))). certificate-fits S count (certificate_end form.term_bytes S s at) c h)
        (mathlib.Core.List.Memᴰ.cases_cons m)

-- check 13: the last pointer is a pointer
lead_pointer : (form : Form) (n : ℕ) (l : Lead) → leading form n l ≡ true → length l.certificate.ballot.last_pointer ≡ 32
unfolding leading pointer
lead_pointer form n l e =
    let e3 = all_cons _ _ (all_cons _ _ (all_cons _ _ e).1).1 in
    let e4 = all_cons _ _ e3.1 in
    ap length (same_true _ _ e4.0) ∙ pointer-length form 0 (replicate 32 0) l.term.before refl

lead_parts : (cs : List Certificate) (rs : List Run) (gs : List (List ℕ)) (l : Lead) → Memᴰ l (leads_of cs rs gs)
    → Memᴰ l.certificate cs × Memᴰ l.term rs
unfolding leads_of
lead_parts [] rs gs l m = absurd (mathlib.Core.List.Memᴰ.not-nil m)
lead_parts (c ∷ cs) [] gs l m = absurd (mathlib.Core.List.Memᴰ.not-nil m)
lead_parts (c ∷ cs) (r ∷ rs) [] l m = absurd (mathlib.Core.List.Memᴰ.not-nil m)
lead_parts (c ∷ cs) (r ∷ rs) (g ∷ gs) l m =
    ⊎_elim
    (λ (e : l ≡ record { certificate = c; term = r; stamp = g }).
    (mathlib.Core.List.Memᴰ.head (ap (λ (x : Lead). x.certificate) e), mathlib.Core.List.Memᴰ.head (ap (λ (x : Lead). x.term) e)))
    (λ (h : Memᴰ l (leads_of cs rs gs)). let p = lead_parts cs rs gs l h in (mathlib.Core.List.Memᴰ.tail p.0, mathlib.Core.List.Memᴰ.tail p.1))
    (mathlib.Core.List.Memᴰ.cases_cons m)

-- ---- what each signature stands on

-- a claim that fits its fields and speaks of a beginning of the log
pub record SpeaksOf (form : Form) (log : List Record) (c : Claim) : Type 0 where
  pub fits : ClaimFits form c
  pub strings : (x : List ℕ) → Memᴰ x (strings_of form c) → Memᴰ x (chain_strings form log)

module _ (form : Form) (S : ℕ) where
  certified-claim : (claim : Claim) (ks : List ℕ) (bytes : List ℕ) (x : Slot) → Memᴰ x (certified S claim ks bytes) → x.claim ≡ claim
  unfolding certified slot
  certified-claim claim [] bytes x m = absurd (mathlib.Core.List.Memᴰ.not-nil m)
  certified-claim claim (k ∷ ks) bytes x m =
      ⊎_elim (λ e. ap (λ (y : Slot). y.claim) e) (λ h. certified-claim claim ks (drop S bytes) x h) (mathlib.Core.List.Memᴰ.cases_cons m)

  module _ (log : List Record) (fits : LogFits form log) (few : length log < 256 ^ 4) where
    part-fits : (i : ℕ) → PlaceFits form (last_term (take i log)) (take i log)
    part-fits i =
        let part = fits-take form i fits in
        record { term = last_fits form part; index = omega (arith, length-take i log, few); records = part }

    stamp-speaks : (i : ℕ) → SpeaksOf form log (stamped (last_term (take i log)) (take i log))
    unfolding strings_of
    stamp-speaks i = record { fits = part-fits i; strings = strings-take form i log }

    receipt-speaks : (i : ℕ) → SpeaksOf form log (received (last_term (take i log)) (take i log))
    unfolding strings_of
    receipt-speaks i = record { fits = part-fits i; strings = strings-take form i log }

    receipts-speak : (c : Option Commit) (x : Slot) → Memᴰ x (receipts_of S c log) → SpeaksOf form log x.claim
    unfolding receipts_of
    receipts-speak none x m = absurd (mathlib.Core.List.Memᴰ.not-nil m)
    receipts-speak (some c) x m =
        subst (SpeaksOf form log) (sym (certified-claim _ (replicas_of c.signers) c.signatures x m)) (receipt-speaks c.index)

    stamps-speak : (l : Lead) → Memᴰ l.term (runs log) → SpeaksOf form log (stamp_of S l).claim
    unfolding stamp_of slot
    stamps-speak l m =
        subst (λ (u : List Record). SpeaksOf form log (stamped (last_term u) u)) (run-begins log l.term m)
        (stamp-speaks (length l.term.upto))

    votes-speak : (l : Lead) → BallotFits form l.certificate.ballot → (x : Slot) → Memᴰ x (votes_of S l) → SpeaksOf form log x.claim
    unfolding votes_of strings_of
    votes-speak l f x m =
        let vote : SpeaksOf form log (voted l.certificate.ballot) =
        record { fits = f; strings = λ y h. absurd (mathlib.Core.List.Memᴰ.not-nil h) } in
        subst (SpeaksOf form log) (sym (certified-claim _ (replicas_of l.certificate.signers) l.certificate.signatures x m)) vote

  -- over the bytes of a submission
  module _ (n : ℕ) (s : List ℕ) (bytes : Bytes s) (room : record_size form.term_bytes * record_count s ≤ length s) (few : record_count s < 256 ^ 4) where
    slots-speak : every (leading form n) (leads (view form.term_bytes S s)) ≡ true
        → (x : Slot) → Memᴰ x (slots S (view form.term_bytes S s)) → SpeaksOf form (view form.term_bytes S s).log x.claim
    unfolding slots leads view
    slots-speak lead x m =
        let v = view form.term_bytes S s in
        let log = records_of form.term_bytes (record_count s) s in
        let fits = records-fit form (record_count s) s bytes room in
        let short : length log < 256 ^ 4 = rw length-records few in
        let parts : (l : Lead) → Memᴰ l (leads v) → Memᴰ l.certificate v.leaders × Memᴰ l.term (runs log) =
        λ l h. lead_parts v.leaders (runs log) v.stamps l h in
        let votes : Memᴰ x (flat_map (votes_of S) (leads v)) → SpeaksOf form log x.claim =
        λ h. let j = joined-mem (votes_of S) (leads v) x h in
        let pointed = lead_pointer form n j.0 (every-mem (leading form n) (leads v) lead j.0 j.1) in
        votes-speak log fits short j.0 (certificate-fits form s bytes S _ _ j.0.certificate (parts j.0 j.1).0 pointed) x j.2 in
        let stamps : Memᴰ x (map (stamp_of S) (leads v)) → SpeaksOf form log x.claim =
        λ h. let j = mathlib.Core.List.Memᴰ.of_map (stamp_of S) (leads v) h in
        subst (λ (y : Slot). SpeaksOf form log y.claim) j.2 (stamps-speak log fits short j.0 (parts j.0 j.1).1) in
        ⊎_elim
        (λ h. ⊎_elim votes stamps (mathlib.Core.List.Memᴰ.append_cases (flat_map (votes_of S) (leads v)) h))
        (λ h. receipts-speak log fits short v.commit x h)
        (mathlib.Core.List.Memᴰ.append_cases (flat_map (votes_of S) (leads v) ++ map (stamp_of S) (leads v)) m)

-- ---- of an accepted submission

-- check 9: part 1 has the bytes of its records
records-room : (form : Form) (S : ℕ) (s : List ℕ) → laid_out form.term_bytes S s ≡ true → record_size form.term_bytes * record_count s ≤ length s
unfolding laid_out leaders_from
records-room form S s e =
    let e2 = all_cons _ _ (all_cons _ _ e).1 in
    omega (arith, eqb-true (leaders_from form.term_bytes S s + distance s 2) (trailer_at s) e2.0)

-- check 8: an index fits its field
records-few : (s : List ℕ) → counted s ≡ true → record_count s < 256 ^ 4
unfolding counted
records-few s e = omega (arith, leb-true (record_count s) record_most (all_cons _ _ e).0)

pub accepted_speaks : (roster s : List ℕ) → Bytes s → Accepted roster s
    → (x : Slot) → Memᴰ x (slots_of roster s) → SpeaksOf (form_of roster) (view_of roster s).log x.claim
unfolding slots_of view_of
accepted_speaks roster s bytes ok x m =
    let form = form_of roster in
    let S = signature_size roster in
    slots-speak form S (replicas roster) s bytes (records-room form S s ok.layout) (records-few s ok.counts) ok.sound.leaders x m
