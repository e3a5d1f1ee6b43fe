-- A replica that keeps the board rules and the leaf rule signs no two claims that clash. Each state says what it keeps of every claim signed before;
-- every allowed act keeps that, and what it signs is free of charges against what was kept. Rule 5 is apart from this: `Leaves` has its induction.
-- Assumes nothing.
use mathlib.Core.Path.{◌≡◌, refl, sym, ap, subst, ◌∙◌}
use mathlib.Core.Bool.{Bool, true, false, not, cond}
use mathlib.Core.List.Memᴰ
use mathlib.Core.List.{List, [], ◌∷◌, ◌++◌, append_assoc, append-nil, Memᴰ}
use mathlib.Core.Option.{Option, some, none}
use mathlib.Core.Logic.{◌⊎◌, inl, inr, ⊎_elim}
use Prim.Native.Nat.{ℕ, ◌≤◌, ◌<◌}
use native.Mathlib.Nat.{le_refl, le_trans}
use native.Mathlib.Omega.{arith}
use borrow.Author.Tests.{ltb-true, eqb-true, eqb-false, leb-true, eq-eqb, not-true}
use lib.Dec.{eqb, ltb}
use lib.ListN.{length, take, length-append}
use lib.Seq.{length-take-le}
use Rattle.words.proofs.Same.{true_same}
use Rattle.refusal.proofs.Laws.{look, cond-true, all_cons}
use Rattle.lm_format.specs.Leaf.{Leaf}
use Rattle.lm_format.specs.Uses.{use_of}
use Rattle.lm_format.proofs.Uses.{not-reused}
use Rattle.log_chain.specs.Log.{Form, Record, term_from, last_term}
use Rattle.log_chain.specs.Ends.{rising, staler}
use Rattle.log_chain.specs.Claim.{Ballot, Claim, stamped, received, voted}
use Rattle.replica.specs.Replica.{State, first, keeps, signed, Act, raise, vote, run, add, stamp, receipt, decline, restart, one_request, no_stamp, no_staler, rules, allowed, moved, after, Signing, signing, signs, use_in}
use Rattle.log_chain.proofs.Order.{Fresh, fresh, not-staler, fresh_trans, last_snoc, take-last-le, rising_snoc}
use Rattle.replica.specs.Charges.{NeverCharged, clash, leaf_clash, charge, two_votes, two_stamps, stale_vote}
use Rattle.log_chain.specs.Difference.{agree, same_record}
use Rattle.replica.proofs.Request.{request_vote, vote_request}
use Rattle.replica.proofs.Allowed.{by-rules, one-signing}
use Rattle.replica.proofs.Leaves.{leaves}

-- ---- what a state keeps

Begins : List Record → List Record → Type 0
Begins l m = (rest : List Record) × (l ++ rest ≡ m)

-- of a claim that was signed before; of a vote of the state's own term, the vote itself
abbrev Kept : State → Claim → Type 0
Kept s (voted b) = (b.term ≤ s.term) × (b.term ≡ s.term → s.vote ≡ some b)
Kept s (stamped t l) = (t ≤ s.term) × (t ≡ s.term → (s.stamp ≡ some t) × Begins l s.log)
Kept s (received t l) = (t ≤ s.term) × Fresh (last_term s.log) (length s.log) t (length l)

-- of its own log
record Sound (s : State) : Type 0 where
  below : last_term s.log ≤ s.term
  rises : rising 1 s.log ≡ true

-- ---- what an allowed act says

module _ (form : Form) (n : ℕ) (s : State) where
  raise-fact : (t : ℕ) → allowed form n s (raise t) ≡ true → s.term ≤ t
  unfolding rules
  raise-fact t e = leb-true s.term t (all_cons _ _ (by-rules form n s (raise t) e)).0

  record VoteFacts (b : Ballot) : Type 0 where
    term : s.term ≤ b.term
    one : one_request s.vote b ≡ true
    end : Fresh b.last_term b.last_index (last_term s.log) (length s.log)

  vote-facts : (q : Leaf) (b : Ballot) → allowed form n s (vote q b) ≡ true → VoteFacts b
  unfolding rules no_staler
  vote-facts q b e =
      let e1 = all_cons _ _ (by-rules form n s (vote q b) e) in
      let e2 = all_cons _ _ e1.1 in
      let e3 = all_cons _ _ e2.1 in
      let e4 = all_cons _ _ e3.1 in
      let e5 = all_cons _ _ e4.1 in
      record {
        term = leb-true s.term b.term e1.0;
        one = e4.0;
        end = fresh _ _ _ _ (not-true _ e5.0);
      }

  record RunFacts (log : List Record) : Type 0 where
    rises : rising 1 log ≡ true
    own : last_term log ≡ s.term
    end : Fresh (last_term log) (length log) (last_term s.log) (length s.log)
    unstamped : no_stamp s.stamp s.term ≡ true

  run-facts : (k : ℕ) (records : List Record) → allowed form n s (run k records) ≡ true → RunFacts (take k s.log ++ records)
  unfolding rules no_staler
  run-facts k records e =
      let e1 = all_cons _ _ (by-rules form n s (run k records) e) in
      let e2 = all_cons _ _ e1.1 in
      let e3 = all_cons _ _ e2.1 in
      let e4 = all_cons _ _ e3.1 in
      let e5 = all_cons _ _ e4.1 in
      let e6 = all_cons _ _ e5.1 in
      record {
        rises = e3.0;
        own = eqb-true _ _ e4.0;
        end = fresh _ _ _ _ (not-true _ e5.0);
        unstamped = e6.0;
      }

  add-facts : (r : Record) → allowed form n s (add r) ≡ true → (r.term ≡ s.term) × (0 < r.term)
  unfolding rules
  add-facts r e = let e1 = all_cons _ _ (by-rules form n s (add r) e) in (eqb-true _ _ e1.0, ltb-true _ _ (all_cons _ _ e1.1).0)

  receipt-facts : (q : Leaf) (i : ℕ) → allowed form n s (receipt q i) ≡ true → (i ≤ length s.log) × (last_term (take i s.log) ≡ s.term)
  unfolding rules
  receipt-facts q i e =
      let e1 = all_cons _ _ (by-rules form n s (receipt q i) e) in
      let e2 = all_cons _ _ e1.1 in
      (leb-true _ _ e2.0, eqb-true _ _ (all_cons _ _ e2.1).0)

-- ---- small laws

begins_self : (l : List Record) → Begins l l
unfolding Begins
begins_self l = ([], append-nil l)

begins_more : (l m rest : List Record) → Begins l m → Begins l (m ++ rest)
unfolding Begins
begins_more l m rest b = (b.0 ++ rest, sym (append_assoc l b.0 rest) ∙ ap (λ (x : List Record). x ++ rest) b.1)

no_charge : (b : Bool) (rule term : ℕ) → b ≡ false → charge b rule term ≡ []
unfolding charge
no_charge b rule term e = rw e

agree-begins : (l rest : List Record) → (agree l (l ++ rest) ≡ true) × (agree (l ++ rest) l ≡ true)
unfolding agree same_record
agree-begins [] rest = (refl, agree-nil rest)
  where
    agree-nil : (m : List Record) → agree m [] ≡ true
    agree-nil [] = refl
    agree-nil (r ∷ m) = refl
agree-begins (r ∷ l) rest =
    let e = eq-eqb r.term r.term refl in
    let d = true_same r.digest in
    let h = agree-begins l rest in
    (rw (e, d) h.0, rw (e, d) h.1)

-- an end with the state's own term, after a log that is sound
add-end : (s : State) (r : Record) → Sound s → r.term ≡ s.term
    → Fresh (last_term (s.log ++ (r ∷ []))) (length (s.log ++ (r ∷ []))) (last_term s.log) (length s.log)
add-end s r ok own =
    rw (last_snoc s.log r, length-append s.log (r ∷ []))
    (record { terms = omega (arith, ok.below); index = λ d. omega arith })

-- ---- an allowed act keeps what was kept

module _ (form : Form) (n : ℕ) where
  sound-after : (s : State) (a : Act) → allowed form n s a ≡ true → Sound s → Sound (after s a)
  unfolding after moved
  sound-after s (raise t) e ok = record { below = le_trans ok.below (raise-fact form n s t e); rises = ok.rises }
  sound-after s (vote q b) e ok = record { below = le_trans ok.below (vote-facts form n s q b e).term; rises = ok.rises }
  sound-after s (run k records) e ok =
      let f = run-facts form n s k records e in record { below = omega (arith, f.own); rises = f.rises }
  sound-after s (add r) e ok =
      let f = add-facts form n s r e in
      record { below = omega (arith, last_snoc s.log r, f.0); rises = rising_snoc s.log r ok.rises (omega (arith, ok.below, f.0)) f.1 }
  sound-after s (stamp q) e ok = record { below = ok.below; rises = ok.rises }
  sound-after s (receipt q i) e ok = record { below = ok.below; rises = ok.rises }
  sound-after s decline e ok = ok
  sound-after s restart e ok = ok

  same-vote : (v : Option Ballot) (a b : Ballot) → one_request v b ≡ true → v ≡ some a → a.term ≡ b.term → a ≡ b
  unfolding one_request
  same-vote v a b e l t = request_vote a b t (rw (eq-eqb a.term b.term t) at (rw l at e))

  stamped-now : (v : Option ℕ) (t : ℕ) → no_stamp v t ≡ true → v ≡ some t → ⊥
  unfolding no_stamp
  stamped-now none t e d = let z : ◌≡◌ {A = ℕ} 0 1 = cc in omega arith
  stamped-now (some u) t e d = let same-term : u ≡ t = cc in eqb-false u t (not-true (eqb u t) e) same-term

  kept-after : (s : State) (a : Act) (c : Claim) → allowed form n s a ≡ true → Sound s → Kept s c → Kept (after s a) c
  unfolding after moved
  kept-after s (raise t) (voted b) e ok k =
      let h = raise-fact form n s t e in (le_trans k.0 h, λ d. k.1 (omega (arith, k.0, h)))
  kept-after s (raise t) (stamped u l) e ok k =
      let h = raise-fact form n s t e in (le_trans k.0 h, λ d. k.1 (omega (arith, k.0, h)))
  kept-after s (raise t) (received u l) e ok k = (le_trans k.0 (raise-fact form n s t e), k.1)
  kept-after s (vote q a) (voted b) e ok k =
      let f = vote-facts form n s q a e in (
        le_trans k.0 f.term,
        λ d. ap some (sym (same-vote s.vote b a f.one (k.1 (omega (arith, k.0, f.term))) d)),
      )
  kept-after s (vote q a) (stamped u l) e ok k =
      let f = vote-facts form n s q a e in (le_trans k.0 f.term, λ d. k.1 (omega (arith, k.0, f.term)))
  kept-after s (vote q a) (received u l) e ok k = (le_trans k.0 (vote-facts form n s q a e).term, k.1)
  kept-after s (run i records) (voted b) e ok k = k
  kept-after s (run i records) (stamped u l) e ok k =
      let f = run-facts form n s i records e in
      (k.0, λ d. absurd (stamped-now s.stamp s.term f.unstamped ((k.1 d).0 ∙ ap some d)))
  kept-after s (run i records) (received u l) e ok k = (k.0, fresh_trans (run-facts form n s i records e).end k.1)
  kept-after s (add r) (voted b) e ok k = k
  kept-after s (add r) (stamped u l) e ok k = (k.0, λ d. ((k.1 d).0, begins_more l s.log (r ∷ []) (k.1 d).1))
  kept-after s (add r) (received u l) e ok k = (k.0, fresh_trans (add-end s r ok (add-facts form n s r e).0) k.1)
  kept-after s (stamp q) (voted b) e ok k = k
  kept-after s (stamp q) (stamped u l) e ok k = (k.0, λ d. (ap some (sym d), (k.1 d).1))
  kept-after s (stamp q) (received u l) e ok k = k
  kept-after s (receipt q i) (voted b) e ok k = k
  kept-after s (receipt q i) (stamped u l) e ok k = k
  kept-after s (receipt q i) (received u l) e ok k = k
  kept-after s decline c e ok k = k
  kept-after s restart c e ok k = k

  -- ---- what an act signs

  -- free of charges, whichever comes first
  abbrev Free : Claim → Claim → Type 0
  Free c d = (clash c d ≡ []) × (clash d c ≡ [])

  -- the claim that an act signs is kept, and free against what was kept before and against itself
  record New (s : State) (a : Act) (c : Claim) : Type 0 where
    kept : Kept (after s a) c
    against : (d : Claim) → Kept s d → Free d c
    itself : Free c c

  two-votes : (a b : Ballot) → (a.term ≡ b.term → a ≡ b) → two_votes a b ≡ false
  unfolding two_votes
  two-votes a b h =
      ⊎_elim
      (λ (e : eqb a.term b.term ≡ true). rw (e, vote_request a b (h (eqb-true _ _ e))) refl)
      (λ (e : eqb a.term b.term ≡ false). rw e refl)
      (look (eqb a.term b.term))

  free-votes : (a b : Ballot) → (a.term ≡ b.term → a ≡ b) → Free (voted a) (voted b)
  unfolding clash
  free-votes a b h =
      (no_charge _ _ _ (two-votes a b h), no_charge _ _ _ (two-votes b a (λ d. sym (h (sym d)))))

  two-stamps : (t u : ℕ) (l m : List Record) → (t ≡ u → agree l m ≡ true) → two_stamps t l u m ≡ false
  unfolding two_stamps
  two-stamps t u l m h = go (look (eqb t u))
    where
      go : (eqb t u ≡ true) ⊎ (eqb t u ≡ false) → cond (eqb t u) (not (agree l m)) false ≡ false
      go (inl e) = rw (e, h (eqb-true _ _ e))
      go (inr e) = rw e

  free-stamps : (t u : ℕ) (l m : List Record) → (t ≡ u → Begins l m) → Free (stamped t l) (stamped u m)
  unfolding clash Begins
  free-stamps t u l m h =
      let ahead : (d : t ≡ u) → (agree l m ≡ true) × (agree m l ≡ true) = λ d. rw (sym (h d).1) (agree-begins l (h d).0) in
      (no_charge _ _ _ (two-stamps t u l m (λ d. (ahead d).0)), no_charge _ _ _ (two-stamps u t m l (λ d. (ahead (sym d)).1)))

  stale-vote : (t : ℕ) (l : List Record) (b : Ballot) → (t < b.term → Fresh b.last_term b.last_index t (length l)) → stale_vote t l b ≡ false
  unfolding stale_vote
  stale-vote t l b h = go (look (ltb t b.term))
    where
      go : (ltb t b.term ≡ true) ⊎ (ltb t b.term ≡ false)
          → cond (ltb t b.term) (staler b.last_term b.last_index t (length l)) false ≡ false
      go (inl e) = rw e (not-staler _ _ _ _ (h (ltb-true _ _ e)))
      go (inr e) = rw e

  free-receipt : (t : ℕ) (l : List Record) (b : Ballot) → (t < b.term → Fresh b.last_term b.last_index t (length l))
      → Free (received t l) (voted b)
  unfolding clash
  free-receipt t l b h = let f = stale-vote t l b h in (no_charge _ _ _ f, no_charge _ _ _ f)

  new-vote : (s : State) (q : Leaf) (b : Ballot) → allowed form n s (vote q b) ≡ true → Sound s → New s (vote q b) (voted b)
  unfolding after moved clash
  new-vote s q b e ok =
      let f = vote-facts form n s q b e in
      record {
        kept = (le_refl b.term, λ d. refl);
        against = against f;
        itself = free-votes b b (λ d. refl);
      }
    where
      against : VoteFacts form n s b → (d : Claim) → Kept s d → Free d (voted b)
      against f (voted a) k = free-votes a b (λ d. same-vote s.vote a b f.one (k.1 (omega (arith, k.0, f.term))) d)
      against f (stamped t l) k = (refl, refl)
      against f (received t l) k = free-receipt t l b (λ d. fresh_trans f.end k.1)

  new-stamp : (s : State) (q : Leaf) → allowed form n s (stamp q) ≡ true → Sound s → New s (stamp q) (stamped s.term s.log)
  unfolding after moved clash
  new-stamp s q e ok =
      record {
        kept = (le_refl s.term, λ d. (refl, begins_self s.log));
        against = against;
        itself = free-stamps s.term s.term s.log s.log (λ d. begins_self s.log);
      }
    where
      against : (d : Claim) → Kept s d → Free d (stamped s.term s.log)
      against (voted a) k = (refl, refl)
      against (stamped t l) k = free-stamps t s.term l s.log (λ d. (k.1 d).1)
      against (received t l) k = (refl, refl)

  new-receipt : (s : State) (q : Leaf) (i : ℕ) → allowed form n s (receipt q i) ≡ true → Sound s
      → New s (receipt q i) (received s.term (take i s.log))
  unfolding after moved clash
  new-receipt s q i e ok =
      let f = receipt-facts form n s q i e in
      let reach = take-last-le i s.log ok.rises in
      record {
        kept = (
          le_refl s.term,
          record {
            terms = omega (arith, f.1, reach);
            index = λ d. omega (arith, length-take-le i s.log f.0, f.0);
          },
        );
        against = against;
        itself = (refl, refl);
      }
    where
      against : (d : Claim) → Kept s d → Free d (received s.term (take i s.log))
      against (voted a) k =
          let g = free-receipt s.term (take i s.log) a (λ h. absurd (omega (arith, k.0, h))) in (g.1, g.0)
      against (stamped t l) k = (refl, refl)
      against (received t l) k = (refl, refl)

  new-claim : (s : State) (a : Act) → allowed form n s a ≡ true → Sound s → (x : Signing) → Memᴰ x (signs s a) → New s a x.claim
  unfolding signs signing
  new-claim s (raise t) e ok x m = absurd (Memᴰ.not-nil m)
  new-claim s (vote q b) e ok x m =
      subst (λ (z : Signing). New s (vote q b) z.claim) (sym (Memᴰ.eq_of_singleton m)) (new-vote s q b e ok)
  new-claim s (run k records) e ok x m = absurd (Memᴰ.not-nil m)
  new-claim s (add r) e ok x m = absurd (Memᴰ.not-nil m)
  new-claim s (stamp q) e ok x m =
      subst (λ (z : Signing). New s (stamp q) z.claim) (sym (Memᴰ.eq_of_singleton m)) (new-stamp s q e ok)
  new-claim s (receipt q i) e ok x m =
      subst (λ (z : Signing). New s (receipt q i) z.claim) (sym (Memᴰ.eq_of_singleton m)) (new-receipt s q i e ok)
  new-claim s decline e ok x m = absurd (Memᴰ.not-nil m)
  new-claim s restart e ok x m = absurd (Memᴰ.not-nil m)

  -- ---- over the whole list of acts

  -- what was kept is free against all that is signed later
  later : (acts : List Act) (s : State) → Sound s → keeps form n s acts ≡ true
      → (c : Claim) (y : Signing) → Kept s c → Memᴰ y (signed s acts) → Free c y.claim
  unfolding keeps signed
  later [] s ok e c y k m = absurd (Memᴰ.not-nil m)
  later (a ∷ acts) s ok e c y k m =
      let p = cond-true (allowed form n s a) (keeps form n (after s a) acts) e in
      ⊎_elim
      (λ (h : Memᴰ y (signs s a)). (new-claim s a p.0 ok y h).against c k)
      (λ (h : Memᴰ y (signed (after s a) acts)).
      later acts (after s a) (sound-after s a p.0 ok) p.1 c y (kept-after s a c p.0 ok k) h)
      (Memᴰ.append_cases (signs s a) m)

  -- any two claims are free against each other
  honest : (acts : List Act) (s : State) → Sound s → keeps form n s acts ≡ true
      → (x y : Signing) → Memᴰ x (signed s acts) → Memᴰ y (signed s acts) → Free x.claim y.claim
  unfolding keeps signed
  honest [] s ok e x y m k = absurd (Memᴰ.not-nil m)
  honest (a ∷ acts) s ok e x y m k =
      let p = cond-true (allowed form n s a) (keeps form n (after s a) acts) e in
      let t = after s a in
      let fine = sound-after s a p.0 ok in
      ⊎_elim
      (λ (h : Memᴰ x (signs s a)).
      ⊎_elim
      (λ (j : Memᴰ y (signs s a)).
      subst (λ (z : Signing). Free x.claim z.claim) (one-signing s a x y h j) (new-claim s a p.0 ok x h).itself)
      (λ (j : Memᴰ y (signed t acts)). later acts t fine p.1 x.claim y (new-claim s a p.0 ok x h).kept j)
      (Memᴰ.append_cases (signs s a) k))
      (λ (h : Memᴰ x (signed t acts)).
      ⊎_elim
      (λ (j : Memᴰ y (signs s a)).
      let f = later acts t fine p.1 y.claim x (new-claim s a p.0 ok y j).kept h in (f.1, f.0))
      (λ (j : Memᴰ y (signed t acts)). honest acts t fine p.1 x y h j)
      (Memᴰ.append_cases (signs s a) k))
      (Memᴰ.append_cases (signs s a) m)

pub never_charged : (form : Form) (n : ℕ) → NeverCharged form n
unfolding NeverCharged leaf_clash use_in use_of first last_term term_from rising
never_charged form n acts e x y m k = (
  (honest form n acts first (record { below = le_refl 0; rises = refl }) e x y m k).0,
  no_charge _ _ _ (not-reused (use_in form x) (use_in form y) (leaves form n acts first e x y m k)),
)
