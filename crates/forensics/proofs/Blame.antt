-- Two accepted submissions whose committed records differ name a replica. In one term the two leaders are two candidates of two quorums, or one
-- candidate that stamped both logs; in two terms the later submission's first leader above the earlier commit stood on a staler log than
-- that commit's quorum received, or its own log before it leads back to the first case.
-- Assumes nothing.
use mathlib.Core.Path.{◌≡◌, refl, sym, ap, ◌∙◌}
use mathlib.Core.Bool.{Bool, true, false, cond, true≢false}
use mathlib.Core.List.Memᴰ
use mathlib.Core.List.{List, [], ◌∷◌, Memᴰ, flat_map}
use mathlib.Core.Logic.{◌⊎◌, inl, inr, ⊎_elim}
use Prim.Native.Nat.{ℕ, min, ◌≤◌, ◌<◌}
use native.Mathlib.Nat.{le_trans}
use native.Mathlib.Omega.{arith}
use borrow.Author.Tests.{eqb-true, eqb-false, eq-eqb, ne_eqb, ltb-true, ltb-false, lt-ltb, leb-true, leb-false}
use lib.Dec.{eqb, ltb, leb}
use lib.ListN.{length, take}
use lib.Seq.{length-take-le}
use Rattle.refusal.specs.Checks.{all}
use Rattle.refusal.proofs.Laws.{look}
use Rattle.roster.specs.Masks.{signer}
use Rattle.roster.proofs.Quorums.{quorums_share}
use Rattle.log_chain.specs.Log.{Form, Record, last_term}
use Rattle.log_chain.specs.Claim.{Ballot, Claim, stamped, received, voted}
use Rattle.log_chain.specs.Ends.{staler}
use Rattle.replica.specs.Replica.{same_request}
use Rattle.replica.specs.Charges.{Charge, charge, clash, two_votes, two_stamps, stale_vote}
use Rattle.log_chain.specs.Difference.{agree}
use Rattle.log_chain.proofs.Order.{fresh}
use Rattle.log_chain.specs.Runs.{Run, runs}
use Rattle.submission.specs.View.{View, committed, Slot, slots}
use Rattle.submission.specs.Validate.{quorate}
use Rattle.submission.proofs.Accepted.{Sound}
use Rattle.log_chain.proofs.Runs.{run-begins, Reaches, run_reaches, Crosses, run_crosses}
use Rattle.submission.proofs.Slots.{mem-flat_map, Stands, Led, led, Settled, settled, quorate_facts}
use Rattle.forensics.specs.Findings.{says, charges}
use Rattle.forensics.proofs.Agree.{agree_sym, agree-nil, differ-within}

-- some replica breaks the stamp rule, or every replica common to two quorums is named: cited to count how many replicas are named
pub data Blame (n : ℕ) (xs ys : List Slot) : Type 0 where
  stamper : (k t : ℕ) → 0 < k → k ≤ n → Memᴰ (record { rule = 2; term = t }) (charges k xs ys) → Blame n xs ys
  common : (a b : ℕ) → quorate n a ≡ true → quorate n b ≡ true
      → ((k : ℕ) → 0 < k → k ≤ n → signer a k ≡ true → signer b k ≡ true → (c : Charge) × Memᴰ c (charges k xs ys)) → Blame n xs ys

-- ---- from statements to charges

says-mem : (k : ℕ) (c : Claim) (xs : List Slot) (x : Slot) → Memᴰ x xs → x.replica ≡ k → x.claim ≡ c → Memᴰ c (says k xs)
unfolding says
says-mem k c [] x m e d = absurd (Memᴰ.not-nil m)
says-mem k c (y ∷ xs) x m e d = go (look (eqb y.replica k)) (Memᴰ.cases_cons m) (λ h. says-mem k c xs x h e d)
  where
    go : (eqb y.replica k ≡ true) ⊎ (eqb y.replica k ≡ false) → (x ≡ y) ⊎ Memᴰ x xs → (Memᴰ x xs → Memᴰ c (says k xs))
        → Memᴰ c (cond (eqb y.replica k) (y.claim ∷ says k xs) (says k xs))
    go (inl t) (inl h) later = rw t (Memᴰ.head (sym d ∙ ap (λ z. z.claim) h))
    go (inl t) (inr h) later = rw t (Memᴰ.tail (later h))
    go (inr t) (inl h) later = absurd (eqb-false _ _ t (ap (λ z. z.replica) (sym h) ∙ e))
    go (inr t) (inr h) later = rw t (later h)

charged : (k : ℕ) (c d : Claim) (xs ys : List Slot) → Stands xs k c → Stands ys k d → (x : Charge) → Memᴰ x (clash c d)
    → Memᴰ x (charges k xs ys)
unfolding charges
charged k c d xs ys s t x m =
    mem-flat_map (λ z. flat_map (clash z) (says k ys)) (says-mem k c xs s.entry s.member s.replica s.claim)
    (mem-flat_map (clash c) (says-mem k d ys t.entry t.member t.replica t.claim) m)

charge-mem : (b : Bool) (rule term : ℕ) → b ≡ true → Memᴰ (record { rule = rule; term = term }) (charge b rule term)
unfolding charge
charge-mem b rule term e = rw e (Memᴰ.head refl)

stamps-clash : (t : ℕ) (l m : List Record) → agree l m ≡ false → Memᴰ (record { rule = 2; term = t }) (clash (stamped t l) (stamped t m))
unfolding clash two_stamps
stamps-clash t l m e = charge-mem _ 2 t (rw (eq-eqb t t refl, e))

votes_clash : (a b : Ballot) → a.term ≡ b.term → (a.candidate ≡ b.candidate → ⊥) → (c : Charge) × Memᴰ c (clash (voted a) (voted b))
unfolding clash two_votes same_request all
votes_clash a b e d = (record { rule = 1; term = a.term }, charge-mem _ 1 _ (rw (eq-eqb _ _ e, ne_eqb _ _ d)))

-- rule 3 or 4
stale_clash : (t : ℕ) (l : List Record) (b : Ballot) → t < b.term → staler b.last_term b.last_index t (length l) ≡ true
    → ((c : Charge) × Memᴰ c (clash (received t l) (voted b))) × ((c : Charge) × Memᴰ c (clash (voted b) (received t l)))
unfolding clash stale_vote
stale_clash t l b h e =
    let stale : cond (ltb t b.term) (staler b.last_term b.last_index t (length l)) false ≡ true = rw (lt-ltb _ _ h) e in
    ((record { rule = 3; term = b.term }, charge-mem _ 3 _ stale), (record { rule = 4; term = b.term }, charge-mem _ 4 _ stale))

-- ---- what two submissions have that break a rule, whichever is the first

data Fault (n : ℕ) (xs ys : List Slot) : Type 0 where
  stamps : (k t : ℕ) (l m : List Record) → 0 < k → k ≤ n → Stands xs k (stamped t l) → Stands ys k (stamped t m) → agree l m ≡ false → Fault n xs ys
  quorums : (a b : ℕ) (c d : Claim) → quorate n a ≡ true → quorate n b ≡ true
      → ((k : ℕ) → 0 < k → k ≤ n → signer a k ≡ true → Stands xs k c) → ((k : ℕ) → 0 < k → k ≤ n → signer b k ≡ true → Stands ys k d)
      → (x : Charge) × Memᴰ x (clash c d) → (x : Charge) × Memᴰ x (clash d c) → Fault n xs ys

forward : {n : ℕ} {xs ys : List Slot} → Fault n xs ys → Blame n xs ys
forward {n} {xs} {ys} (stamps k t l m p h s u e) = stamper k t p h (charged k _ _ xs ys s u _ (stamps-clash t l m e))
forward {n} {xs} {ys} (quorums a b c d qa qb s u x y) =
    common a b qa qb (λ k p h ea eb. (x.0, charged k c d xs ys (s k p h ea) (u k p h eb) x.0 x.1))

backward : {n : ℕ} {xs ys : List Slot} → Fault n xs ys → Blame n ys xs
backward {n} {xs} {ys} (stamps k t l m p h s u e) =
    stamper k t p h (charged k _ _ ys xs u s _ (stamps-clash t m l (agree_sym m l ∙ e)))
backward {n} {xs} {ys} (quorums a b c d qa qb s u x y) =
    common b a qb qa (λ k p h eb ea. (y.0, charged k d c ys xs (u k p h eb) (s k p h ea) y.0 y.1))

-- ---- the leaders of one term

one-term : (n : ℕ) (xs ys : List Slot) (r s : Run) → n ≤ 16 → Led n xs r → Led n ys s → last_term r.upto ≡ last_term s.upto
    → agree r.upto s.upto ≡ false → Fault n xs ys
one-term n xs ys r s small a b same-term differ =
    ⊎_elim
    (λ (e : eqb a.ballot.candidate b.ballot.candidate ≡ true).
    stamps a.ballot.candidate (last_term r.upto) r.upto s.upto a.above a.below a.stamp
    (rw (eqb-true a.ballot.candidate b.ballot.candidate e, same-term) b.stamp) differ)
    (λ e.
    let terms : a.ballot.term ≡ b.ballot.term = a.term ∙ same-term ∙ sym b.term in
    quorums a.signers b.signers (voted a.ballot) (voted b.ballot) a.quorum b.quorum
    (λ k p h. a.votes k p (le_trans h small)) (λ k p h. b.votes k p (le_trans h small))
    (votes_clash _ _ terms (eqb-false _ _ e)) (votes_clash _ _ (sym terms) (λ d. eqb-false _ _ e (sym d))))
    (look (eqb a.ballot.candidate b.ballot.candidate))

-- ---- the commits

-- `a` and `b` have committed the records up to x's and y's index, and these differ
module _ (form : Form) (n S : ℕ) (small : n ≤ 16) (a b : View) (sound_a : Sound form n a) (sound_b : Sound form n b)
    (x : Settled n (slots S a) a.log (committed a)) (y : Settled n (slots S b) b.log (committed b))
    (differ : agree (committed a) (committed b) ≡ false) where
  -- two runs of one term that reach as far as the difference
  meet : (r s : Run) → Memᴰ r (runs a.log) → Memᴰ s (runs b.log) → last_term r.upto ≡ last_term s.upto
      → min x.index y.index ≤ length r.upto → min x.index y.index ≤ length s.upto → Fault n (slots S a) (slots S b)
  meet r s mr ms same-term p q =
      let apart = differ-within x.index y.index (length r.upto) (length s.upto) a.log b.log (rw (x.records, y.records) at differ) p q in
      one-term n _ _ r s small (led form n S a sound_a r mr) (led form n S b sound_b s ms) same-term
      (rw (run-begins a.log r mr, run-begins b.log s ms) at apart)

  -- the first leader of `b` above the commit of `a`
  first_above : Reaches a.log x.index (runs a.log) → Crosses [] (last_term (take x.index a.log)) (runs b.log)
      → Fault n (slots S a) (slots S b)
  first_above r c =
      let done = take x.index a.log in
      let w = led form n S b sound_b c.of c.member in
      let long = length-take-le x.index a.log x.within in
      ⊎_elim
      (λ (h : staler w.ballot.last_term w.ballot.last_index (last_term done) (length done) ≡ true).
      let clashes = stale_clash (last_term done) done w.ballot (rw w.term c.above) h in
      quorums x.signers w.signers (received (last_term done) done) (voted w.ballot) x.quorum w.quorum
      (λ k p q. x.receipts k p (le_trans q small)) (λ k p q. w.votes k p (le_trans q small)) clashes.0 clashes.1)
      (λ h.
      let f = fresh _ _ _ _ h in
      let terms : last_term done ≡ w.ballot.last_term = omega (arith, f.terms, w.end_term, c.below) in
      let reach : x.index ≤ length c.of.before = omega (arith, f.index terms, w.end_index) in
      ⊎_elim
      (λ (d : c.of.before ≡ []). absurd (omega (arith, x.above, ap length d)))
      (λ d.
      meet r.of d.0 r.member d.1 (r.term ∙ terms ∙ w.end_term ∙ ap last_term (sym d.2))
      (omega (arith, r.far)) (omega (arith, ap length d.2)))
      c.after)
      (look (staler w.ballot.last_term w.ballot.last_index (last_term done) (length done)))

  -- the commit of `a` is of no later term
  earlier : last_term (take x.index a.log) ≤ last_term (take y.index b.log) → Fault n (slots S a) (slots S b)
  earlier h =
      let t = last_term (take x.index a.log) in
      let u = last_term (take y.index b.log) in
      let r = run_reaches a.log x.index x.above x.within in
      let s = run_reaches b.log y.index y.above y.within in
      ⊎_elim
      (λ (e : ltb t u ≡ true). first_above r (run_crosses b.log t (omega (arith, ltb-true t u e, y.reach))))
      (λ e.
      meet r.of s.of r.member s.member (omega (arith, r.term, s.term, ltb-false t u e))
      (omega (arith, r.far)) (omega (arith, s.far)))
      (look (ltb t u))

pub blame : (form : Form) (n S : ℕ) → n ≤ 16 → (a b : View) → Sound form n a → Sound form n b → agree (committed a) (committed b) ≡ false
    → Blame n (slots S a) (slots S b)
unfolding agree
blame form n S small a b sound_a sound_b differ =
    let x = settled form n S a sound_a (λ e. true≢false (rw e at differ)) in
    let y = settled form n S b sound_b (λ e. true≢false (sym (agree-nil (committed a)) ∙ rw e at differ)) in
    let t = last_term (take x.index a.log) in
    let u = last_term (take y.index b.log) in
    ⊎_elim
    (λ (e : leb t u ≡ true). forward (earlier form n S small a b sound_a sound_b x y differ (leb-true t u e)))
    (λ e.
    backward (earlier form n S small b a sound_b sound_a y x (agree_sym (committed b) (committed a) ∙ differ) (omega (arith, leb-false t u e))))
    (look (leb t u))

-- some replica is named
pub named : {n : ℕ} {xs ys : List Slot} → Blame n xs ys → 0 < n → (k : ℕ) × (0 < k) × (k ≤ n) × (c : Charge) × Memᴰ c (charges k xs ys)
named (stamper k t p h m) pos = (k, p, h, record { rule = 2; term = t }, m)
named {n} (common a b qa qb every) pos =
    let fa = quorate_facts n a qa in
    let fb = quorate_facts n b qb in
    let k = quorums_share n a b pos fa.1 fb.1 fa.0 fb.0 in
    let c = every k.0 k.1 k.2 k.3 k.4 in
    (k.0, k.1, k.2, c.0, c.1)
