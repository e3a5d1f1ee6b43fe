-- The terms as they are read are those of the log: each ends where the next leader certificate says, which check 13 compared with the log, and
-- the last ends with the log.
-- Assumes nothing.
use mathlib.Core.Path.{◌≡◌, refl, sym, ap, ◌∙◌}
use mathlib.Core.List.{List, [], ◌∷◌, map}
use Prim.Native.Nat.{ℕ, zero, suc, ◌+◌, ◌-◌}
use native.Mathlib.Omega.{arith}
use borrow.Author.Tests.{eqb-true}
use lib.ListN.{length}
use Rattle.log_chain.specs.Log.{Record, version1}
use Rattle.roster.specs.Roster.{replicas, signature_size}
use Rattle.submission.specs.Trailer.{record_count, leader_count}
use Rattle.log_chain.specs.Runs.{Run, runs}
use Rattle.submission.specs.View.{leads, leads_of}
use Rattle.log_chain.specs.Records.{records_of}
use Rattle.submission.specs.Reading.{certificate_at, certificate_end, certificates, leaders_from, view, stamps_from}
use Rattle.submission.specs.Validate.{form_of, view_of, one_each}
use Rattle.submission.proofs.Accepted.{Sound, length-certificates}
use Rattle.log_chain.proofs.Records.{length-records}
use Rattle.submission.proofs.Places.{last-index-at}
use Rattle.log_chain.proofs.Linked.{Linked, linked_runs}
use Rattle.submission.proofs.Linked.{lead_at, leads_from, leads-first, TermsLeft, turn}
use Rattle.forensics_find.proofs.Views.{tenure, tenures}
use Rattle.forensics_find.specs.Tenures.{end_at, tenure_at, tenures_at, tenures_of}

module _ (roster s : List ℕ) (w S : ℕ) where
  abbrev log : List Record
  log = records_of w (record_count s) s

  -- where a term ends, with so many after it
  run_ends : (later next stamp : ℕ) (before : List Record) (rs : List Run) → TermsLeft roster s w S log later next stamp before rs
      → length before ≡ end_at w s later next
  unfolding end_at Linked
  run_ends zero next stamp before [] x = ap length x.linked ∙ length-records w (record_count s) s
  run_ends zero next stamp before (r ∷ rs) x = absurd (omega (arith, x.count))
  run_ends (suc later) next stamp before rs x =
      let t = turn roster s w S log (suc later) next stamp before rs (omega arith) x in
      ap length (sym t.starts) ∙ sym t.facts.index ∙ last-index-at w s next

  tenure-read : (later at stamp : ℕ) (r : Run) → length r.upto ≡ end_at w s later (certificate_end w S s at)
      → tenure (lead_at roster s w S at stamp r) ≡ tenure_at w s later at (certificate_end w S s at)
  unfolding tenure tenure_at lead_at certificate_at
  tenure-read later at stamp r e = rw e

  terms-read : (left at stamp : ℕ) (before : List Record) (rs : List Run) → TermsLeft roster s w S log left at stamp before rs
      → map tenure (leads_from roster s w S left at stamp rs) ≡ tenures_at w S s left at
  unfolding leads_from leads_of certificates tenures_at
  terms-read zero at stamp before rs x = refl
  terms-read (suc later) at stamp before rs x =
      let t = turn roster s w S log (suc later) at stamp before rs (omega arith) x in
      let next = certificate_end w S s at in
      let one : suc later - 1 ≡ later = omega arith in
      let rest : TermsLeft roster s w S log later next (stamp + S) t.of.upto t.later = rw one at t.rest in
      rw (t.both, leads-first roster s w S (suc later) at stamp t.of t.later (omega arith), one)
      (λ k. tenure-read later at stamp t.of (run_ends later next (stamp + S) t.of.upto t.later rest) k
      ∷ terms-read later next (stamp + S) t.of.upto t.later rest k)

-- those of a sound submission
pub tenures_read : (roster s : List ℕ) → Sound (form_of roster) (replicas roster) (view_of roster s)
    → tenures (view_of roster s) ≡ tenures_of (form_of roster).term_bytes (signature_size roster) s
unfolding tenures tenures_of leads leads_from view_of view one_each form_of version1
tenures_read roster s sound =
    let w = (form_of roster).term_bytes in
    let S = signature_size roster in
    let count = sym (eqb-true _ _ sound.count) ∙ length-certificates w S s (leader_count s) (leaders_from w S s) in
    terms-read roster s w S (leader_count s) (leaders_from w S s) (stamps_from w S s) [] (runs (records_of w (record_count s) s))
    (record { linked = linked_runs (records_of w (record_count s) s); count = count; leaders = sound.leaders })
