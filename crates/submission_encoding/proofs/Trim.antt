-- A view, and the same view with each certificate's own signatures alone: both have the same signatures, and what is sound of one is of
-- the other.
-- Assumes nothing.
use mathlib.Core.Path.{◌≡◌, refl, sym, ap, ◌∙◌}
use mathlib.Core.Bool.{false, cond}
use mathlib.Core.List.{List, [], ◌∷◌, ◌++◌, map, flat_map}
use mathlib.Core.Option.{Option, some, none}
use Prim.Native.Nat.{ℕ, zero, suc, ◌+◌, ◌*◌, ◌≤◌}
use native.Mathlib.Nat.{mul-suc}
use native.Mathlib.Omega.{arith}
use lib.Count.{ones}
use lib.Dec.{eqb}
use lib.ListN.{length, take, drop}
use lib.Seq.{take-take}
use Rattle.refusal.specs.Checks.{every}
use Rattle.words.proofs.Laws.{drop-take}
use Rattle.roster.specs.Masks.{replicas_from, replicas_of}
use Rattle.roster.proofs.Masks.{replicas-few}
use Rattle.log_chain.specs.Log.{Form, Record, last_term}
use Rattle.log_chain.specs.Claim.{Claim, voted, received}
use Rattle.log_chain.specs.Ends.{rising}
use Rattle.log_chain.specs.Runs.{Run, runs}
use Rattle.submission.specs.View.{Certificate, Commit, View, Lead, leads_of, leads, slot, certified, votes_of, stamp_of, receipts_of, slots}
use Rattle.submission.specs.Validate.{commit_signers, masks, leading, within, quorate, one_each, ordered}
use Rattle.submission.proofs.Accepted.{Sound}
use Rattle.submission_encoding.proofs.Read.{trimmed}
use Rattle.submission_encoding.proofs.Whole.{trimmed_commit}

-- ---- one signature for each signer

module _ (S : ℕ) where
  certified-trim : (claim : Claim) (ks : List ℕ) (m : ℕ) (bytes : List ℕ) → length ks ≤ m
      → certified S claim ks (take (S * m) bytes) ≡ certified S claim ks bytes
  unfolding certified slot
  certified-trim claim [] m bytes h = refl
  certified-trim claim (k ∷ ks) zero bytes h = absurd (omega arith)
  certified-trim claim (k ∷ ks) (suc m) bytes h =
      let size : S * suc m ≡ S + S * m = rw mul-suc (omega arith) in
      let first : take S (take (S * suc m) bytes) ≡ take S bytes = take-take S (S * suc m) bytes (omega (arith, size)) in
      let rest : drop S (take (S * suc m) bytes) ≡ take (S * m) (drop S bytes) =
      ap (λ n. drop S (take n bytes)) size ∙ drop-take S (S * m) bytes in
      let later = ap (certified S claim ks) rest ∙ certified-trim claim ks m (drop S bytes) (omega (arith, h)) in
      λ i. record { replica = k; claim = claim; signature = first i } ∷ later i

  signers-trim : (claim : Claim) (mask : ℕ) (bytes : List ℕ)
      → certified S claim (replicas_of mask) (take (S * ones mask) bytes) ≡ certified S claim (replicas_of mask) bytes
  unfolding replicas_of
  signers-trim claim mask bytes = certified-trim claim (replicas_from 16 1 mask) (ones mask) bytes (replicas-few 16 1 mask)

  -- ---- the leads

  trim_lead : Lead → Lead
  trim_lead l = record { certificate = trimmed S l.certificate; term = l.term; stamp = l.stamp }

  leads-trim : (cs : List Certificate) (rs : List Run) (gs : List (List ℕ))
      → leads_of (map (trimmed S) cs) rs gs ≡ map trim_lead (leads_of cs rs gs)
  unfolding leads_of trim_lead
  leads-trim [] rs gs = refl
  leads-trim (c ∷ cs) [] gs = refl
  leads-trim (c ∷ cs) (r ∷ rs) [] = refl
  leads-trim (c ∷ cs) (r ∷ rs) (g ∷ gs) = λ i. record { certificate = trimmed S c; term = r; stamp = g } ∷ leads-trim cs rs gs i

  votes-trim : (ls : List Lead) → flat_map (votes_of S) (map trim_lead ls) ≡ flat_map (votes_of S) ls
  unfolding flat_map votes_of trim_lead trimmed
  votes-trim [] = refl
  votes-trim (l ∷ ls) =
      let c = l.certificate in
      λ i. signers-trim (voted c.ballot) c.signers c.signatures i ++ votes-trim ls i

  stamps-trim : (ls : List Lead) → map (stamp_of S) (map trim_lead ls) ≡ map (stamp_of S) ls
  unfolding stamp_of trim_lead trimmed
  stamps-trim [] = refl
  stamps-trim (l ∷ ls) = ap (λ z. stamp_of S l ∷ z) (stamps-trim ls)

  receipts-trim : (o : Option Commit) (log : List Record) → receipts_of S (trimmed_commit S o) log ≡ receipts_of S o log
  unfolding receipts_of trimmed_commit
  receipts-trim none log = refl
  receipts-trim (some c) log =
      signers-trim (received (last_term (take c.index log)) (take c.index log)) c.signers c.signatures

  -- ---- a view's signatures

  unfoldable pub trim_view : View → View
  trim_view v =
      record { log = v.log; leaders = map (trimmed S) v.leaders; stamps = v.stamps; commit = trimmed_commit S v.commit }

  pub slots-trim : (v : View) → slots S (trim_view v) ≡ slots S v
  unfolding slots leads trim_view
  slots-trim v =
      let ls = leads_of v.leaders (runs v.log) v.stamps in
      let there = leads-trim v.leaders (runs v.log) v.stamps in
      let votes = ap (flat_map (votes_of S)) there ∙ votes-trim ls in
      let stamps = ap (map (stamp_of S)) there ∙ stamps-trim ls in
      λ i. votes i ++ stamps i ++ receipts-trim v.commit v.log i

  -- ---- what the checks ask

  all-signers-trim : (cs : List Certificate) → map (λ c. c.signers) (map (trimmed S) cs) ≡ map (λ c. c.signers) cs
  unfolding trimmed
  all-signers-trim [] = refl
  all-signers-trim (c ∷ cs) = ap (λ z. c.signers ∷ z) (all-signers-trim cs)

  commit-signers-trim : (o : Option Commit) → commit_signers (trimmed_commit S o) ≡ commit_signers o
  unfolding commit_signers trimmed_commit
  commit-signers-trim none = refl
  commit-signers-trim (some c) = refl

  masks-trim : (v : View) → masks (trim_view v) ≡ masks v
  unfolding masks trim_view
  masks-trim v = λ i. all-signers-trim v.leaders i ++ commit-signers-trim v.commit i

  leading-trim : (form : Form) (n : ℕ) (ls : List Lead) → every (leading form n) (map trim_lead ls) ≡ every (leading form n) ls
  unfolding every leading trim_lead trimmed
  leading-trim form n [] = refl
  leading-trim form n (l ∷ ls) = ap (λ z. cond (leading form n l) z false) (leading-trim form n ls)

  within-trim : (o : Option Commit) (H : ℕ) → within (trimmed_commit S o) H ≡ within o H
  unfolding within trimmed_commit
  within-trim none H = refl
  within-trim (some c) H = refl

  length-trim : (cs : List Certificate) → length (map (trimmed S) cs) ≡ length cs
  length-trim [] = refl
  length-trim (c ∷ cs) = ap suc (length-trim cs)

  -- ---- two views that are the same but for what follows a certificate's own signatures

  module _ (u v : View) (e : trim_view u ≡ trim_view v) where
    same_log : u.log ≡ v.log
    unfolding trim_view
    same_log = ap (λ x. x.log) e

    same-stamps : u.stamps ≡ v.stamps
    unfolding trim_view
    same-stamps = ap (λ x. x.stamps) e

    same-leaders : map (trimmed S) u.leaders ≡ map (trimmed S) v.leaders
    unfolding trim_view
    same-leaders = ap (λ x. x.leaders) e

    same-commit : trimmed_commit S u.commit ≡ trimmed_commit S v.commit
    unfolding trim_view
    same-commit = ap (λ x. x.commit) e

    same_count : length u.leaders ≡ length v.leaders
    same_count = sym (length-trim u.leaders) ∙ ap length same-leaders ∙ length-trim v.leaders

    same-leading : (form : Form) (n : ℕ) → every (leading form n) (leads u) ≡ every (leading form n) (leads v)
    unfolding leads
    same-leading form n =
        sym (leading-trim form n (leads_of u.leaders (runs u.log) u.stamps))
        ∙ ap (every (leading form n)) (sym (leads-trim u.leaders (runs u.log) u.stamps))
        ∙ (λ i. every (leading form n) (leads_of (same-leaders i) (runs (same_log i)) (same-stamps i)))
        ∙ ap (every (leading form n)) (leads-trim v.leaders (runs v.log) v.stamps)
        ∙ leading-trim form n (leads_of v.leaders (runs v.log) v.stamps)

    pub sound-trim : (form : Form) (n : ℕ) → Sound form n v → Sound form n u
    unfolding one_each ordered
    sound-trim form n ok =
        record {
          quorums = ap (every (quorate n)) (sym (masks-trim u) ∙ ap masks e ∙ masks-trim v) ∙ ok.quorums;
          order = ap (rising 1) same_log ∙ ok.order;
          count = (λ i. eqb (same_count i) (length (runs (same_log i)))) ∙ ok.count;
          stamped = ap length same-stamps ∙ ok.stamped ∙ sym same_count;
          leaders = same-leading form n ∙ ok.leaders;
          commit =
              sym (within-trim u.commit (length u.log)) ∙ (λ i. within (same-commit i) (length (same_log i)))
              ∙ within-trim v.commit (length v.log) ∙ ok.commit;
        }
