-- The terms of a log follow one another: each begins where the one before ends, and the last ends with the log. So the last record of a
-- term stands in the next leader certificate, which check 13 compared with the log, and that of the last term is the log's.
-- Assumes nothing.
use mathlib.Core.Path.{◌≡◌, refl, ap, ◌∙◌}
use mathlib.Core.Bool.{true}
use mathlib.Core.List.{List, [], ◌∷◌}
use Prim.Native.Nat.{ℕ, suc, ◌+◌, ◌-◌, ◌≤◌, ◌<◌}
use native.Mathlib.Omega.{arith}
use borrow.Author.Tests.{eqb-true, leb-true}
use lib.ListN.{length, take, drop}
use Rattle.words.specs.BigEndian.{number_at}
use Rattle.words.proofs.Same.{same_true}
use Rattle.refusal.specs.Checks.{every}
use Rattle.refusal.proofs.Laws.{all_cons, cond-true}
use Rattle.roster.specs.Roster.{cluster, replicas}
use Rattle.log_chain.specs.Log.{with_terms, Record, pointer, last_term}
use Rattle.log_chain.proofs.Pointers.{pointer_form}
use Rattle.log_chain.specs.Runs.{Run}
use Rattle.submission.specs.View.{Lead, leads_of}
use Rattle.submission.specs.Reading.{ballot_at, certificate_at, certificate_end, certificates, stamps_at}
use Rattle.submission.specs.Validate.{leading}
use Rattle.log_chain.proofs.Linked.{Linked}

-- ---- what check 13 says of a certificate

module _ (roster s : List ℕ) (w S : ℕ) where
  unfoldable pub lead_at : ℕ → ℕ → Run → Lead
  lead_at at stamp r = record { certificate = certificate_at w s at; term = r; stamp = take S (drop stamp s) }

  pub record Leads (at : ℕ) (r : Run) : Type 0 where
    pub term : number_at w s (at + 2) ≡ last_term r.upto
    pub index : number_at 4 s (at + 2 + w + w) ≡ length r.before
    pub pointed : take 32 (drop (at + 2 + w + w + 4) s) ≡ pointer (with_terms w []) r.before
    pub low : 0 < number_at 2 s at
    pub high : number_at 2 s at ≤ replicas roster

  lead-facts : (at stamp : ℕ) (r : Run) → leading (with_terms w (cluster roster)) (replicas roster) (lead_at at stamp r) ≡ true → Leads at r
  unfolding leading lead_at certificate_at ballot_at
  lead-facts at stamp r e =
      let e1 = all_cons _ _ e in
      let e2 = all_cons _ _ e1.1 in
      let e3 = all_cons _ _ e2.1 in
      let e4 = all_cons _ _ e3.1 in
      let e5 = all_cons _ _ e4.1 in
      let e6 = all_cons _ _ e5.1 in
      record {
        term = eqb-true _ _ e1.0;
        index = eqb-true _ _ e3.0;
        pointed = same_true _ _ e4.0 ∙ pointer_form (with_terms w (cluster roster)) (with_terms w []) refl r.before;
        low = leb-true 1 _ e5.0;
        high = leb-true _ (replicas roster) e6.0;
      }

  -- ---- the certificates that are left, with the terms that are left

  unfoldable pub leads_from : ℕ → ℕ → ℕ → List Run → List Lead
  leads_from left at stamp rs = leads_of (certificates w S s left at) rs (stamps_at S s left stamp)

  pub leads-first : (left at stamp : ℕ) (r : Run) (rs : List Run) → 0 < left
      → leads_from left at stamp (r ∷ rs) ≡ lead_at at stamp r ∷ leads_from (left - 1) (certificate_end w S s at) (stamp + S) rs
  unfolding leads_from lead_at leads_of certificates stamps_at
  leads-first left at stamp r rs more =
      let count : left ≡ suc (left - 1) = omega arith in
      ap (λ (n : ℕ). leads_of (certificates w S s n at) (r ∷ rs) (stamps_at S s n stamp)) count

  module _ (log : List Record) where
    pub record TermsLeft (left at stamp : ℕ) (before : List Record) (rs : List Run) : Type 0 where
      pub linked : Linked log before rs
      pub count : length rs ≡ left
      pub leaders : every (leading (with_terms w (cluster roster)) (replicas roster)) (leads_from left at stamp rs) ≡ true

    -- the first of them
    pub record Turn (left at stamp : ℕ) (before : List Record) (rs : List Run) : Type 0 where
      pub of : Run
      pub later : List Run
      pub both : rs ≡ of ∷ later
      pub starts : of.before ≡ before
      pub facts : Leads at of
      pub rest : TermsLeft (left - 1) (certificate_end w S s at) (stamp + S) of.upto later

    pub turn : (left at stamp : ℕ) (before : List Record) (rs : List Run) → 0 < left → TermsLeft left at stamp before rs → Turn left at stamp before rs
    unfolding Linked every
    turn left at stamp before [] more x = absurd (omega (arith, x.count))
    turn left at stamp before (r ∷ rs) more x =
        let p = cond-true _ _ (rw (leads-first left at stamp r rs more) at x.leaders) in
        record {
          of = r;
          later = rs;
          both = refl;
          starts = x.linked.0;
          facts = lead-facts at stamp r p.0;
          rest = record { linked = x.linked.1; count = omega (arith, x.count); leaders = p.1 };
        }
