-- The stamps that are left while they are checked one by one: the stamp here is good or not, and the last record of its term stands in the next
-- leader certificate, or is the log's.
-- Assumes nothing.
use mathlib.Core.Path.{◌≡◌, refl, sym, ap, ◌∙◌}
use mathlib.Core.Bool.{Bool, true, false, not, cond}
use mathlib.Core.List.{List, [], ◌∷◌, map}
use Prim.Native.Nat.{ℕ, ◌+◌, ◌-◌, ◌≤◌, ◌<◌}
use native.Mathlib.Omega.{arith}
use borrow.Author.Tests.{not-true, not-false}
use lib.ListN.{length, take, drop}
use Rattle.words.specs.BigEndian.{number_at}
use Rattle.refusal.specs.Checks.{every}
use Rattle.lms.specs.Check.{good}
use Rattle.roster.specs.Roster.{cluster, key_of}
use Rattle.log_chain.specs.Log.{with_terms, Record, pointer, last_term}
use Rattle.log_chain.specs.Runs.{Run}
use Rattle.log_chain.specs.Sizes.{place_statement}
use Rattle.submission.specs.View.{leads_of, stamp_of, slot}
use Rattle.submission.specs.Reading.{ballot_at, certificate_at, certificate_end, certificates}
use Rattle.submission.specs.Validate.{genuine}
use Rattle.log_chain.proofs.Linked.{Linked}
use Rattle.log_chain.proofs.Said.{stamp-said}
use Rattle.submission.proofs.Linked.{lead_at, leads_from, leads-first, TermsLeft, Turn, turn}

module _ (roster s : List ℕ) (w S : ℕ) (log : List Record) where
  pub record StampsLeft (b : Bool) (left at stamp : ℕ) : Type 0 where
    pub before : List Record
    pub runs : List Run
    pub terms : TermsLeft roster s w S log left at stamp before runs
    pub answer : every (genuine (with_terms w (cluster roster)) roster) (map (stamp_of S) (leads_from roster s w S left at stamp runs)) ≡ b

  pub stamps-done : (left at stamp : ℕ) {b : Bool} → StampsLeft b left at stamp → left ≤ 0 → true ≡ b
  unfolding leads_from leads_of certificates every
  stamps-done left at stamp x h = let none : left ≡ 0 = omega arith in rw none at x.answer

  module _ (left at stamp : ℕ) {b : Bool} (x : StampsLeft b left at stamp) (more : 0 < left) where
    pub this : Turn roster s w S log left at stamp x.before x.runs
    this = turn roster s w S log left at stamp x.before x.runs more x.terms

    -- the next term's certificate has its last record
    pub not_last : 1 < left → (next index : ℕ) (p : List ℕ) → next ≡ certificate_end w S s at → index ≡ number_at 4 s (next + 2 + w + w)
        → p ≡ take 32 (drop (next + 2 + w + w + 4) s) → (length this.of.upto ≡ index) × (p ≡ pointer (with_terms w []) this.of.upto)
    not_last h next index p en ei ep =
        let after = turn roster s w S log (left - 1) (certificate_end w S s at) (stamp + S) this.of.upto this.later (omega arith) this.rest in (
          sym (ei ∙ ap (λ (n : ℕ). number_at 4 s (n + 2 + w + w)) en ∙ after.facts.index ∙ ap length after.starts),
          ep ∙ ap (λ (n : ℕ). take 32 (drop (n + 2 + w + w + 4) s)) en ∙ after.facts.pointed ∙ ap (pointer (with_terms w [])) after.starts,
        )

    none-later : left ≡ 1 → this.later ≡ []
    none-later h = go this.later this.rest.count
      where
        go : (rs : List Run) → length rs ≡ left - 1 → rs ≡ []
        go [] e = refl
        go (r ∷ rs) e = absurd (omega arith)

    -- the last term's last record is the log's
    pub is_last : left ≡ 1 → this.of.upto ≡ log
    unfolding Linked
    is_last h = rw (none-later h) at this.rest.linked

    module _ (index : ℕ) (p : List ℕ) (long : length this.of.upto ≡ index) (pointed : p ≡ pointer (with_terms w []) this.of.upto) {r : Bool}
        (asked : r ≡ good (key_of roster (number_at 2 s at)) (place_statement 1 (cluster roster) w (number_at w s (at + 2)) index p) (take S (drop stamp s))) where
      stamp-first : cond r (every (genuine (with_terms w (cluster roster)) roster)
          (map (stamp_of S) (leads_from roster s w S (left - 1) (certificate_end w S s at) (stamp + S) this.later))) false ≡ b
      unfolding every genuine stamp_of slot lead_at certificate_at ballot_at
      stamp-first =
          rw (asked, this.facts.term, stamp-said (cluster roster) w this.of.upto (last_term this.of.upto) index p long pointed)
          (rw (this.both, leads-first roster s w S left at stamp this.of this.later more) at x.answer)

      pub stamp-fail : not r ≡ true → false ≡ b
      stamp-fail e = rw (not-true r e) at stamp-first

      pub stamp-next : not r ≡ false → StampsLeft b (left - 1) (certificate_end w S s at) (stamp + S)
      stamp-next e =
          record { before = this.of.upto; runs = this.later; terms = this.rest; answer = rw (not-false r e) at stamp-first }

      pub stamp-last : left ≡ 1 → r ≡ b
      unfolding leads_from leads_of certificates every
      stamp-last h =
          let none : left - 1 ≡ 0 = omega arith in
          go r (rw none at stamp-first)
        where
          go : (r : Bool) → cond r true false ≡ b → r ≡ b
          go true e = e
          go false e = e
