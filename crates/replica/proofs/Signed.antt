-- What a replica that keeps the board rules signs fits its fields, since every allowed act keeps the state's fields fit; and the log of each
-- claim is a beginning of a log held, so that its chain strings are among theirs.
-- Assumes nothing.
use mathlib.Core.Path.{◌≡◌, sym, subst}
use mathlib.Core.Bool.{true}
use mathlib.Core.List.Memᴰ
use mathlib.Core.List.{List, [], ◌∷◌, ◌++◌, flat_map, Memᴰ}
use mathlib.Core.Logic.{⊎_elim}
use Prim.Native.Nat.{ℕ, ◌+◌, ◌^◌, ◌<◌}
use native.Mathlib.Omega.{arith}
use borrow.Author.Tests.{ltb-true, eqb-true, leb-true}
use lib.Dec.{lit<}
use lib.ListN.{length, take, length-append, length-take}
use Rattle.words.proofs.Laws.{pow_256_pos}
use Rattle.refusal.proofs.Laws.{cond-true, all_cons}
use Rattle.lm_format.specs.Leaf.{Leaf}
use Rattle.log_chain.specs.Log.{Form, Record, chain_strings}
use Rattle.log_chain.specs.Claim.{Ballot}
use Rattle.log_chain.proofs.Said.{strings_of}
use Rattle.log_chain.proofs.Fits.{LogFits, empty, more, PlaceFits, BallotFits, ClaimFits}
use Rattle.log_chain.proofs.Prefix.{strings-take, fits-append, fits-take}
use Rattle.replica.specs.Replica.{State, first, keeps, signed, held, Act, raise, vote, run, add, stamp, receipt, decline, restart, fits_term, fits_index, fits_records, rules, allowed, moved, after, Signing, signing, signs}
use Rattle.replica.proofs.Allowed.{by-rules}

-- ---- what the rules on fields say

records-fit : (form : Form) (log : List Record) → fits_records form log ≡ true → LogFits form log
unfolding fits_records fits_term
records-fit form [] e = empty
records-fit form (r ∷ log) e =
    let p = cond-true _ _ e in
    let q = cond-true _ _ p.1 in
    more (record { term = ltb-true _ _ p.0; digest = eqb-true _ _ q.0 }) (records-fit form log q.1)

-- the fields of a state
record StateFits (form : Form) (s : State) : Type 0 where
  term : s.term < 256 ^ form.term_bytes
  index : length s.log < 256 ^ 4
  records : LogFits form s.log

module _ (form : Form) (n : ℕ) (s : State) where
  raise-fits : (t : ℕ) → allowed form n s (raise t) ≡ true → t < 256 ^ form.term_bytes
  unfolding rules fits_term
  raise-fits t e = ltb-true _ _ (all_cons _ _ (all_cons _ _ (by-rules form n s (raise t) e)).1).0

  vote-fits : n < 256 ^ 2 → (q : Leaf) (b : Ballot) → allowed form n s (vote q b) ≡ true → BallotFits form b
  unfolding rules fits_term fits_index
  vote-fits h q b e =
      let e3 = all_cons _ _ (all_cons _ _ (all_cons _ _ (by-rules form n s (vote q b) e)).1).1 in
      let e6 = all_cons _ _ (all_cons _ _ (all_cons _ _ e3.1).1).1 in
      let e7 = all_cons _ _ e6.1 in
      let e8 = all_cons _ _ e7.1 in
      let e9 = all_cons _ _ e8.1 in
      record {
        candidate = omega (arith, leb-true b.candidate n e3.0, h);
        term = ltb-true _ _ e6.0;
        last_term = ltb-true _ _ e7.0;
        last_index = ltb-true _ _ e8.0;
        last_pointer = eqb-true _ _ e9.0;
      }

  run_fits : (k : ℕ) (records : List Record) → allowed form n s (run k records) ≡ true
      → LogFits form records × (length (take k s.log ++ records) < 256 ^ 4)
  unfolding rules fits_index
  run_fits k records e =
      let e3 = all_cons _ _ (all_cons _ _ (all_cons _ _ (by-rules form n s (run k records) e)).1).1 in
      let e6 = all_cons _ _ (all_cons _ _ (all_cons _ _ e3.1).1).1 in
      let e7 = all_cons _ _ e6.1 in
      let e8 = all_cons _ _ e7.1 in
      (records-fit form records e7.0, ltb-true _ _ e8.0)

  add-fits : (r : Record) → allowed form n s (add r) ≡ true → LogFits form (r ∷ []) × (length s.log + 1 < 256 ^ 4)
  unfolding rules fits_index
  add-fits r e =
      let e3 = all_cons _ _ (all_cons _ _ (all_cons _ _ (by-rules form n s (add r) e)).1).1 in
      (records-fit form (r ∷ []) e3.0, ltb-true _ _ (all_cons _ _ e3.1).0)

-- ---- an allowed act keeps the state's fields fit, and signs what fits

module _ (form : Form) (n : ℕ) (few : n < 256 ^ 2) where
  fits_after : (s : State) (a : Act) → allowed form n s a ≡ true → StateFits form s → StateFits form (after s a)
  unfolding after moved
  fits_after s (raise t) e f = record { term = raise-fits form n s t e; index = f.index; records = f.records }
  fits_after s (vote q b) e f = record { term = (vote-fits form n s few q b e).term; index = f.index; records = f.records }
  fits_after s (run k records) e f =
      let g = run_fits form n s k records e in
      record { term = f.term; index = g.1; records = fits-append form (fits-take form k f.records) g.0 }
  fits_after s (add r) e f =
      let g = add-fits form n s r e in
      record { term = f.term; index = rw (length-append s.log (r ∷ [])) g.1; records = fits-append form f.records g.0 }
  fits_after s (stamp q) e f = record { term = f.term; index = f.index; records = f.records }
  fits_after s (receipt q i) e f = record { term = f.term; index = f.index; records = f.records }
  fits_after s decline e f = f
  fits_after s restart e f = f

  -- the log up to a receipt's record
  part-fits : (s : State) (i : ℕ) → StateFits form s → PlaceFits form s.term (take i s.log)
  part-fits s i f =
      record { term = f.term; index = omega (arith, length-take i s.log, f.index); records = fits-take form i f.records }

  claim-fits : (s : State) (a : Act) → allowed form n s a ≡ true → StateFits form s
      → (x : Signing) → Memᴰ x (signs s a) → ClaimFits form x.claim
  unfolding signs signing
  claim-fits s (raise t) e f x m = absurd (Memᴰ.not-nil m)
  claim-fits s (vote q b) e f x m =
      subst (λ (z : Signing). ClaimFits form z.claim) (sym (Memᴰ.eq_of_singleton m)) (vote-fits form n s few q b e)
  claim-fits s (run k records) e f x m = absurd (Memᴰ.not-nil m)
  claim-fits s (add r) e f x m = absurd (Memᴰ.not-nil m)
  claim-fits s (stamp q) e f x m =
      subst (λ (z : Signing). ClaimFits form z.claim) (sym (Memᴰ.eq_of_singleton m))
      (record { term = f.term; index = f.index; records = f.records })
  claim-fits s (receipt q i) e f x m =
      subst (λ (z : Signing). ClaimFits form z.claim) (sym (Memᴰ.eq_of_singleton m)) (part-fits s i f)
  claim-fits s decline e f x m = absurd (Memᴰ.not-nil m)
  claim-fits s restart e f x m = absurd (Memᴰ.not-nil m)

  claims-fit : (acts : List Act) (s : State) → StateFits form s → keeps form n s acts ≡ true
      → (x : Signing) → Memᴰ x (signed s acts) → ClaimFits form x.claim
  unfolding keeps signed
  claims-fit [] s f e x m = absurd (Memᴰ.not-nil m)
  claims-fit (a ∷ acts) s f e x m =
      let p = cond-true (allowed form n s a) (keeps form n (after s a) acts) e in
      ⊎_elim
      (λ (h : Memᴰ x (signs s a)). claim-fits s a p.0 f x h)
      (λ (h : Memᴰ x (signed (after s a) acts)). claims-fit acts (after s a) (fits_after s a p.0 f) p.1 x h)
      (Memᴰ.append_cases (signs s a) m)

  -- from the first state on
  pub signed-fits : (acts : List Act) → keeps form n first acts ≡ true
      → (x : Signing) → Memᴰ x (signed first acts) → ClaimFits form x.claim
  unfolding first
  signed-fits acts e x m =
      claims-fit acts first (record { term = pow_256_pos form.term_bytes; index = lit< tt; records = empty }) e x m

-- ---- the logs of the claims signed

module _ (form : Form) where
  -- an act signs a beginning of the log before it
  strings-of-log : (s : State) (a : Act) (z : Signing) → Memᴰ z (signs s a)
      → (x : List ℕ) → Memᴰ x (strings_of form z.claim) → Memᴰ x (chain_strings form s.log)
  unfolding signs signing strings_of
  strings-of-log s (raise t) z m x h = absurd (Memᴰ.not-nil m)
  strings-of-log s (vote q b) z m x h =
      absurd (Memᴰ.not-nil (subst (λ (d : Signing). Memᴰ x (strings_of form d.claim)) (Memᴰ.eq_of_singleton m) h))
  strings-of-log s (run k records) z m x h = absurd (Memᴰ.not-nil m)
  strings-of-log s (add r) z m x h = absurd (Memᴰ.not-nil m)
  strings-of-log s (stamp q) z m x h = subst (λ (d : Signing). Memᴰ x (strings_of form d.claim)) (Memᴰ.eq_of_singleton m) h
  strings-of-log s (receipt q i) z m x h =
      strings-take form i s.log x (subst (λ (d : Signing). Memᴰ x (strings_of form d.claim)) (Memᴰ.eq_of_singleton m) h)
  strings-of-log s decline z m x h = absurd (Memᴰ.not-nil m)
  strings-of-log s restart z m x h = absurd (Memᴰ.not-nil m)

  -- over a list of acts, from any state
  pub signed-held : (acts : List Act) (s : State) (z : Signing) → Memᴰ z (signed s acts)
      → (x : List ℕ) → Memᴰ x (strings_of form z.claim) → Memᴰ x (flat_map (chain_strings form) (held s acts))
  unfolding signed held flat_map
  signed-held [] s z m x h = absurd (Memᴰ.not-nil m)
  signed-held (a ∷ acts) s z m x h =
      ⊎_elim
      (λ (k : Memᴰ z (signs s a)).
      Memᴰ.append_left (flat_map (chain_strings form) (held (after s a) acts)) (strings-of-log s a z k x h))
      (λ (k : Memᴰ z (signed (after s a) acts)). Memᴰ.append_right (chain_strings form s.log) (signed-held acts (after s a) z k x h))
      (Memᴰ.append_cases (signs s a) m)
