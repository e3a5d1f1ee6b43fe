-- The lowest charge by rules 1 to 4 of a replica from its signatures is the lowest that they give over the tenures of the two submissions. Each kind of
-- pair is one rule: check 13 says that a certificate's term is its term's in the log, check 14 that the commit's index is within it, and a
-- term's last record ends a beginning of the log.
-- Assumes nothing.
use mathlib.Core.Path.{◌≡◌, refl, sym, ap, ◌∙◌}
use mathlib.Core.Bool.{Bool, true, false, not, cond}
use mathlib.Core.List.Memᴰ
use mathlib.Core.List.{List, [], ◌∷◌, ◌++◌, map, flat_map, append-nil, Memᴰ}
use mathlib.Core.Logic.{⊎_elim}
use mathlib.Core.Option.{Option, some, none}
use Prim.Native.Nat.{ℕ, ◌≤◌, ◌<◌}
use borrow.Author.Tests.{eqb-true, leb-true}
use lib.Dec.{eqb}
use lib.ListN.{length, take}
use lib.Seq.{length-take-le}
use Rattle.words.proofs.Members.{joined-empty}
use Rattle.words.proofs.FlatMap.{flat_map-map}
use Rattle.std.specs.Prelude as code
use Rattle.refusal.specs.Checks.{all}
use Rattle.refusal.proofs.Laws.{all_cons, every-mem}
use Rattle.roster.specs.Masks.{signer}
use Rattle.log_chain.specs.Log.{Form, Record, last_term}
use Rattle.log_chain.specs.Claim.{Claim}
use Rattle.replica.specs.Charges.{Charge, charge, clash, two_votes, two_stamps, stale_vote}
use Rattle.log_chain.specs.Difference.{agree}
use Rattle.log_chain.specs.Runs.{Run, runs}
use Rattle.submission.specs.View.{Certificate, Commit, View, Lead, leads_of, leads, slots}
use Rattle.submission.specs.Validate.{leading, within}
use Rattle.submission.proofs.Accepted.{Sound}
use Rattle.log_chain.proofs.Runs.{run-begins}
use Rattle.forensics.specs.Findings.{says, charges, lowest}
use Rattle.log_chain.specs.Difference.{differ_at}
use Rattle.forensics_charges.specs.declared.Receipt.{Receipt}
use Rattle.forensics_charges.specs.Rules.{vote_of, two_requests, reached, two_logs, forgotten}
use Rattle.forensics_charges.specs.Charges.{difference_of, receipts_by, receipts, between, among_terms, after_receipts, least, ruled_by}
use Rattle.forensics_find.proofs.Views.{tenure, tenures, ruled}
use Rattle.forensics_charges.proofs.Lowest.{lowest-append, lowest-split, lowest-both}
use Rattle.log_difference.proofs.Differ.{agree-take}
use Rattle.forensics_find.proofs.Reached.{reached_both}
use Rattle.forensics_find.proofs.Says.{said_if, vote, stamp, receipt, voter, stamper, vote_by, stamp_by, receipt_by, says-slots}
use Rattle.forensics_find.proofs.Pairs.{over-same, over-over, pairs, by_kind, are-votes, are-stamps, are-given}

-- ---- a charge with tests before it

charge_if : (b c : Bool) (rule term : ℕ) → cond b (charge c rule term) [] ≡ charge (cond b c false) rule term
unfolding charge
charge_if true c rule term = refl
charge_if false c rule term = refl

last_test : (b : Bool) → cond b true false ≡ b
last_test true = refl
last_test false = refl

-- two tests before it
charge_tests : (p q b : Bool) (rule term : ℕ) → cond p (cond q (charge b rule term) []) [] ≡ charge (cond p (cond q b false) false) rule term
charge_tests p q b rule term = ap (λ z. cond p z []) (charge_if q b rule term) ∙ charge_if p (cond q b false) rule term

tests_swap : (p q : Bool) (xs : List Charge) → cond p (cond q xs []) [] ≡ cond q (cond p xs []) []
tests_swap true q xs = refl
tests_swap false true xs = refl
tests_swap false false xs = refl

-- two tests before two
charge-after : (p q b c : Bool) (rule term : ℕ)
    → cond p (cond q (charge (cond b c false) rule term) []) [] ≡ charge (all (p ∷ q ∷ b ∷ c ∷ [])) rule term
unfolding all
charge-after p q b c rule term = rw (last_test c) (charge_tests p q (cond b c false) rule term)

-- ---- pairs with what a replica says once at most

over_said : (f : Claim → List Charge) (b : Bool) (c : Claim) → flat_map f (said_if b c) ≡ cond b (f c) []
unfolding flat_map said_if
over_said f true c = append-nil (f c)
over_said f false c = refl

module _ (t : Lead → Bool) (e : Lead → Claim) (ms : List Lead) where
  said-left : (b : Bool) (c : Claim)
      → pairs (said_if b c) (flat_map (λ y. said_if (t y) (e y)) ms) ≡ flat_map (λ y. cond b (cond (t y) (clash c (e y)) []) []) ms
  unfolding pairs
  said-left true c =
      over_said (λ d. flat_map (clash d) (flat_map (λ y. said_if (t y) (e y)) ms)) true c ∙ over-over (clash c) (λ y. said_if (t y) (e y)) ms
      ∙ over-same _ _ ms (λ y m. over_said (clash c) (t y) (e y))
  said-left false c = over_said (λ d. flat_map (clash d) (flat_map (λ y. said_if (t y) (e y)) ms)) false c ∙ sym (joined-empty _ ms (λ y m. refl))

  said-right : (b : Bool) (c : Claim)
      → pairs (flat_map (λ y. said_if (t y) (e y)) ms) (said_if b c) ≡ flat_map (λ y. cond (t y) (cond b (clash (e y) c) []) []) ms
  unfolding pairs
  said-right b c =
      over-over (λ d. flat_map (clash d) (said_if b c)) (λ y. said_if (t y) (e y)) ms
      ∙ over-same _ _ ms (λ y m. over_said (λ d. flat_map (clash d) (said_if b c)) (t y) (e y) ∙ ap (λ z. cond (t y) z []) (over_said (clash (e y)) b c))

pairs-over : (f : Lead → List Claim) (ls : List Lead) (ys : List Claim) → pairs (flat_map f ls) ys ≡ flat_map (λ x. pairs (f x) ys) ls
unfolding pairs
pairs-over f ls ys = over-over (λ c. flat_map (clash c) ys) f ls

-- ---- each rule

-- all pairs of terms, where each pair is charged by a test
abbrev charged_by : (Lead → Lead → Bool) → ℕ → List Lead → List Lead → List Charge
charged_by test rule ls ms = flat_map (λ x. flat_map (λ y. charge (test x y) rule (tenure x).term) ms) ls

-- the commit's index is within the log
commit-within : (c : Commit) (log : List Record) → within (some c) (length log) ≡ true → length (take c.index log) ≡ c.index
unfolding within
commit-within c log e = length-take-le c.index log (leb-true _ _ (all_cons _ _ (all_cons _ _ e).1).0)

-- a term of a log: it is the certificate's, and the log up to its last record is a beginning of the whole
record Standing (log : List Record) (l : Lead) : Type 0 where
  term : l.certificate.ballot.term ≡ last_term l.term.upto
  begins : take (length l.term.upto) log ≡ l.term.upto

module _ (k : ℕ) where
  -- 1: of the votes
  vote-pair : (x y : Lead)
      → cond (voter k x) (cond (voter k y) (clash (vote x) (vote y)) []) []
      ≡ charge (two_requests k (tenure x) (tenure y)) 1 (tenure x).term
  unfolding clash two_requests vote_of tenure all
  vote-pair x y =
      let a = x.certificate.ballot in
      let b = y.certificate.ballot in
      rw (last_test (two_votes a b)) (charge_tests (voter k x) (voter k y) (two_votes a b) 1 a.term)

  votes-ruled : (ls ms : List Lead)
      → pairs (flat_map (vote_by k) ls) (flat_map (vote_by k) ms) ≡ charged_by (λ x y. two_requests k (tenure x) (tenure y)) 1 ls ms
  unfolding vote_by
  votes-ruled ls ms =
      pairs-over (vote_by k) ls (flat_map (vote_by k) ms)
      ∙ over-same _ _ ls (λ x mx.
      said-left (voter k) vote ms (voter k x) (vote x) ∙ over-same _ _ ms (λ y my. vote-pair x y))

  -- 2: of the stamps
  stamp-pair : (l m : List Record) (x y : Lead) → Standing l x → Standing m y
      → cond (stamper k x) (cond (stamper k y) (clash (stamp x) (stamp y)) []) []
      ≡ charge (two_logs k (difference_of (differ_at 1 l m)) (tenure x) (tenure y)) 2 (tenure x).term
  unfolding clash two_stamps two_logs tenure all
  stamp-pair l m x y sx sy =
      let d = differ_at 1 l m in
      let a = length x.term.upto in
      let b = length y.term.upto in
      let inside = reached (difference_of d) a b in
      let differ : not (agree x.term.upto y.term.upto) ≡ inside = rw (sx.begins, sy.begins) at (agree-take a b l m) ∙ sym (reached_both d a b) in
      let one-term = eqb (last_term x.term.upto) (last_term y.term.upto) in
      rw (differ, sx.term, sy.term, last_test inside)
      (charge_tests (stamper k x) (stamper k y) (cond one-term inside false) 2 (last_term x.term.upto))

  stamps-ruled : (l m : List Record) (ls ms : List Lead) → ((x : Lead) → Memᴰ x ls → Standing l x) → ((y : Lead) → Memᴰ y ms → Standing m y)
      → pairs (flat_map (stamp_by k) ls) (flat_map (stamp_by k) ms) ≡ charged_by (λ x y. two_logs k (difference_of (differ_at 1 l m)) (tenure x) (tenure y)) 2 ls ms
  unfolding stamp_by
  stamps-ruled l m ls ms sx sy =
      pairs-over (stamp_by k) ls (flat_map (stamp_by k) ms)
      ∙ over-same _ _ ls (λ x mx.
      said-left (stamper k) stamp ms (stamper k x) (stamp x)
      ∙ over-same _ _ ms (λ y my. stamp-pair l m x y (sx x mx) (sy y my)))

  -- 3 and 4: of the receipts and the votes
  module _ (c : Commit) (log : List Record) (held : length (take c.index log) ≡ c.index) where
    unfoldable numbers : Receipt
    numbers = record { term = last_term (take c.index log); index = c.index; signers = c.signers }

    stale-pair : (rule : ℕ) (y : Lead)
        → cond (signer c.signers k) (cond (voter k y)
        (charge (stale_vote (last_term (take c.index log)) (take c.index log) y.certificate.ballot) rule y.certificate.ballot.term) []) []
        ≡ charge (forgotten k numbers (tenure y)) rule (tenure y).term
    unfolding stale_vote forgotten tenure numbers
    stale-pair rule y = rw held (charge-after _ _ _ _ rule _)

  given-ruled : (o : Option Commit) (log : List Record) (ms : List Lead) → within o (length log) ≡ true
      → pairs (receipt_by k o log) (flat_map (vote_by k) ms) ≡ after_receipts k 3 (receipts_by o log) (map tenure ms)
  unfolding receipt_by receipts_by after_receipts vote_by pairs flat_map clash numbers
  given-ruled none log ms e = refl
  given-ruled (some c) log ms e =
      said-left (voter k) vote ms (signer c.signers k) (receipt c log)
      ∙ over-same _ _ ms (λ y m. stale-pair c log (commit-within c log e) 3 y) ∙ sym (flat_map-map _ tenure ms)

  votes-given : (o : Option Commit) (log : List Record) (ms : List Lead) → within o (length log) ≡ true
      → pairs (flat_map (vote_by k) ms) (receipt_by k o log) ≡ after_receipts k 4 (receipts_by o log) (map tenure ms)
  unfolding receipt_by receipts_by after_receipts vote_by pairs flat_map clash numbers
  votes-given none log ms e = joined-empty _ (flat_map (vote_by k) ms) (λ d m. refl)
  votes-given (some c) log ms e =
      said-right (voter k) vote ms (signer c.signers k) (receipt c log)
      ∙ over-same _ _ ms (λ y m.
      tests_swap (voter k y) (signer c.signers k) (clash (vote y) (receipt c log)) ∙ stale-pair c log (commit-within c log e) 4 y)
      ∙ sym (flat_map-map _ tenure ms)

  -- 1 and 2 together, term by term
  terms-ruled : (d : code.Option ℕ) (ls ms : List Lead)
      → lowest (among_terms k d (map tenure ls) (map tenure ms))
      ≡ least (lowest (charged_by (λ x y. two_requests k (tenure x) (tenure y)) 1 ls ms)) (lowest (charged_by (λ x y. two_logs k d (tenure x) (tenure y)) 2 ls ms))
  unfolding among_terms between
  terms-ruled d ls ms =
      ap lowest (flat_map-map (λ x. flat_map (between k d x) (map tenure ms)) tenure ls ∙ over-same _ _ ls (λ x m. flat_map-map (between k d (tenure x)) tenure ms))
      ∙ lowest-split _ (λ x. flat_map (λ y. charge (two_requests k (tenure x) (tenure y)) 1 (tenure x).term) ms)
      (λ x. flat_map (λ y. charge (two_logs k d (tenure x) (tenure y)) 2 (tenure x).term) ms) (λ x. lowest-both _ _ ms) ls

-- ---- the terms of an accepted submission

lead_run : (cs : List Certificate) (rs : List Run) (gs : List (List ℕ)) (l : Lead) → Memᴰ l (leads_of cs rs gs) → Memᴰ l.term rs
unfolding leads_of
lead_run [] rs gs l m = absurd (Memᴰ.not-nil m)
lead_run (c ∷ cs) [] gs l m = absurd (Memᴰ.not-nil m)
lead_run (c ∷ cs) (r ∷ rs) [] l m = absurd (Memᴰ.not-nil m)
lead_run (c ∷ cs) (r ∷ rs) (g ∷ gs) l m =
    ⊎_elim
    (λ (e : l ≡ record { certificate = c; term = r; stamp = g }). Memᴰ.head (ap (λ z. z.term) e))
    (λ h. Memᴰ.tail (lead_run cs rs gs l h))
    (Memᴰ.cases_cons m)

standing : (form : Form) (n : ℕ) (v : View) → Sound form n v → (l : Lead) → Memᴰ l (leads v) → Standing v.log l
unfolding leads leading
standing form n v sound l m =
    record {
      term = eqb-true _ _ (all_cons _ _ (every-mem (leading form n) (leads v) sound.leaders l m)).0;
      begins = run-begins v.log l.term (lead_run v.leaders (runs v.log) v.stamps l m);
    }

-- ---- all of them

module _ (form : Form) (n S k : ℕ) (some-replica : 0 < k) (few : k ≤ 16) (a b : View) (sound_a : Sound form n a) (sound_b : Sound form n b) where
  unfoldable answer : Option Charge
  answer =
      let d = difference_of (differ_at 1 a.log b.log) in
      least
      (least
      (least (lowest (charged_by (λ x y. two_requests k (tenure x) (tenure y)) 1 (leads a) (leads b)))
      (lowest (charged_by (λ x y. two_logs k d (tenure x) (tenure y)) 2 (leads a) (leads b))))
      (lowest (after_receipts k 3 (receipts_by a.commit a.log) (map tenure (leads b)))))
      (lowest (after_receipts k 4 (receipts_by b.commit b.log) (map tenure (leads a))))

  from-signatures : lowest (charges k (slots S a) (slots S b)) ≡ answer
  unfolding charges pairs answer
  from-signatures =
      ap (λ z. lowest (pairs z (says k (slots S b)))) (says-slots k S some-replica few a)
      ∙ ap (λ z. lowest (pairs (flat_map (vote_by k) (leads a) ++ flat_map (stamp_by k) (leads a) ++ receipt_by k a.commit a.log) z)) (says-slots k S some-replica few b)
      ∙ by_kind (flat_map (vote_by k) (leads a)) (flat_map (stamp_by k) (leads a)) (receipt_by k a.commit a.log)
      (flat_map (vote_by k) (leads b)) (flat_map (stamp_by k) (leads b)) (receipt_by k b.commit b.log)
      (are-votes k (leads a)) (are-stamps k (leads a)) (are-given k a.commit a.log)
      (are-votes k (leads b)) (are-stamps k (leads b)) (are-given k b.commit b.log)
      ∙ rw (
        votes-ruled k (leads a) (leads b),
        stamps-ruled k a.log b.log (leads a) (leads b) (standing form n a sound_a) (standing form n b sound_b),
        given-ruled k a.commit a.log (leads b) sound_a.commit,
        votes-given k b.commit b.log (leads a) sound_b.commit,
      )

  from-numbers : lowest (ruled k (difference_of (differ_at 1 a.log b.log)) a b) ≡ answer
  unfolding ruled ruled_by tenures receipts answer
  from-numbers =
      let d = difference_of (differ_at 1 a.log b.log) in
      let one = among_terms k d (map tenure (leads a)) (map tenure (leads b)) in
      let two = after_receipts k 3 (receipts_by a.commit a.log) (map tenure (leads b)) in
      let three = after_receipts k 4 (receipts_by b.commit b.log) (map tenure (leads a)) in
      lowest-append (one ++ two) three
      ∙ ap (λ z. least z (lowest three)) (lowest-append one two ∙ ap (λ z. least z (lowest two)) (terms-ruled k d (leads a) (leads b)))

  pub rows-ruled : lowest (charges k (slots S a) (slots S b)) ≡ lowest (ruled k (difference_of (differ_at 1 a.log b.log)) a b)
  rows-ruled = from-signatures ∙ sym from-numbers
