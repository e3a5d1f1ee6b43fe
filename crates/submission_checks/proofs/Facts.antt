-- What the functions say is what the checks ask, of the trailer's counts and places; and the checks one after the other.
-- Assumes nothing.
use mathlib.Core.Path.{◌≡◌, sym, ◌∙◌}
use mathlib.Core.Bool.{Bool, true}
use mathlib.Core.List.{List}
use Prim.Native.Nat.{ℕ, ◌≤◌}
use borrow.Author.Tests.{leb-true}
use lib.Dec.{eqb}
use lib.ListN.{length}
use Rattle.refusal.specs.Checks.{every, check, refusal}
use Rattle.refusal.proofs.Laws.{all_cons, passed}
use Rattle.roster.specs.Roster.{cluster, replicas, signature_size}
use Rattle.log_chain.specs.Log.{with_terms, version1}
use Rattle.log_chain.specs.Ends.{rising}
use Rattle.submission.specs.Trailer.{trailer_size}
use Rattle.log_chain.specs.Runs.{runs}
use Rattle.submission.specs.View.{leads, slots}
use Rattle.log_chain.specs.Records.{records_of}
use Rattle.submission.specs.Reading.{view}
use Rattle.submission.specs.Validate.{sized, versioned, named, counted, ordered, one_each, leading, within, genuine, form_of, view_of, slots_of, validate}
use Rattle.submission.proofs.Accepted.{length-certificates}
use Rattle.submission_parts.specs.declared.Shape.{Shape}
use Rattle.submission_parts.specs.Shapes.{Known}
use Rattle.submission_parts.proofs.Shapes.{known-records, known-leaders}
use Rattle.submission_checks.specs.Checks.{leader_checks, log_checks, part_checks}

-- ---- what the checks ask

module _ (shape : Shape) (s : List ℕ) (known : Known shape s) where
  pub asked-ordered : {r : Bool} → r ≡ rising 1 (records_of shape.width shape.records s) → r ≡ ordered (view shape.width shape.size s)
  unfolding ordered view
  asked-ordered h = rw (known-records _ _ known) at h

  pub asked-count : {count : ℕ} → count ≡ length (runs (records_of shape.width shape.records s))
      → one_each (view shape.width shape.size s) ≡ eqb shape.leaders count
  unfolding one_each view
  asked-count e = rw (e, known-records _ _ known, known-leaders _ _ known, length-certificates)

-- check 13, with the roster's count and name
pub asked_leading : (roster : List ℕ) (w S : ℕ) (s : List ℕ) {n : ℕ} {r : Bool} → n ≡ replicas roster
    → ((name : List ℕ) → r ≡ every (leading (with_terms w name) n) (leads (view w S s)))
    → r ≡ every (leading (with_terms w (cluster roster)) (replicas roster)) (leads (view w S s))
asked_leading roster w S s count led = rw count at (led (cluster roster))

-- ---- one by one

pub sized-long : (s : List ℕ) → sized s ≡ true → trailer_size ≤ length s
unfolding sized
sized-long s e = leb-true trailer_size (length s) (all_cons _ _ e).0

pub trailer_passed : (roster s : List ℕ) {r : ℕ} → sized s ≡ true → versioned s ≡ true → named (cluster roster) s ≡ true → counted s ≡ true
    → r ≡ refusal (part_checks roster (form_of roster).term_bytes (signature_size roster) s) → r ≡ validate roster s
unfolding validate form_of view_of slots_of part_checks log_checks leader_checks version1
trailer_passed roster s e5 e6 e7 e8 h = h ∙ sym (passed 5 _ _ e5 ∙ passed 6 _ _ e6 ∙ passed 7 _ _ e7 ∙ passed 8 _ _ e8)

pub leaders_passed : (roster : List ℕ) (w S : ℕ) (s : List ℕ) → every (leading (with_terms w (cluster roster)) (replicas roster)) (leads (view w S s)) ≡ true
    → within (view w S s).commit (length (view w S s).log) ≡ true → every (genuine (with_terms w (cluster roster)) roster) (slots S (view w S s)) ≡ true
    → 0 ≡ refusal (leader_checks roster w S s)
unfolding leader_checks refusal check
leaders_passed roster w S s e13 e14 e15 = rw (e13, e14, e15)
