-- The stamps that are left while they are put one by one: the last record of a term stands in the next leader certificate, or is the log's.
-- Assumes nothing.
use mathlib.Core.Path.{◌≡◌, refl, sym, ap, ◌∙◌}
use mathlib.Core.List.{List, [], ◌∷◌, ◌++◌, map, append-nil}
use Prim.Native.Nat.{ℕ, ◌+◌, ◌-◌, ◌≤◌, ◌<◌}
use native.Mathlib.Omega.{arith}
use borrow.Author.Tests.{eq-eqb, ne_eqb}
use lib.ListN.{length}
use Rattle.words.specs.BigEndian.{number_at}
use Rattle.refusal.specs.Checks.{every}
use Rattle.sha256.specs.Sha256.{bytes_of}
use Rattle.roster.specs.Roster.{cluster, key_of}
use Rattle.log_chain.specs.Log.{with_terms, Record, pointer, last_term}
use Rattle.log_chain.specs.Runs.{Run}
use Rattle.log_chain.specs.Sizes.{place_statement}
use Rattle.log_chain.proofs.Said.{stamp-said}
use Rattle.lm_format.specs.Leaf.{leaf_size, leaf_at}
use Rattle.lm_format.specs.Uses.{Use, use_of}
use Rattle.lm_format.proofs.Leaf.{leaf_at_lem}
use Rattle.submission.specs.View.{leads_of, stamp_of, slot}
use Rattle.submission.specs.Reading.{ballot_at, certificate_at, certificate_end, certificates}
use Rattle.submission.specs.Validate.{genuine, slot_use, uses}
use Rattle.submission.proofs.Linked.{lead_at, leads_from, leads-first, TermsLeft, Turn}
use Rattle.submission_signatures.proofs.StampsLeft.{StampsLeft, this}
use Rattle.submission_leaves.specs.Entries.{padded_use}
use Rattle.submission_signatures.specs.declared.stamps.StampPart.{StampPart}
use Rattle.submission_uses.specs.Signed.{slot_use_in}
use Rattle.submission_uses.specs.StampUses.{stamp_uses}
use Rattle.submission_uses.proofs.Gathered.{put_then}

-- ---- a stamp

module _ (roster s : List ℕ) (w k : ℕ) (x : StampPart) where
  pub own-stamp : number_at 2 s x.certificate ≡ k
      → stamp_uses roster s w k x
      ≡ use_of (leaf_at s x.signature) (place_statement 1 (cluster roster) w (number_at w s (x.certificate + 2)) x.index (bytes_of x.pointer)) ∷ []
  unfolding stamp_uses
  own-stamp e = rw (eq-eqb _ k e)

  pub no-stamp : (number_at 2 s x.certificate ≡ k → ⊥) → stamp_uses roster s w k x ≡ []
  unfolding stamp_uses
  no-stamp h = rw (ne_eqb _ k h)

-- ---- the stamps that are left

module _ (roster s : List ℕ) (w S k : ℕ) (wide : leaf_size ≤ S) where
  -- a stamp by its fields is that of its term
  stamp-uses : (at stamp : ℕ) (x : StampPart) (r : Run) → x.certificate ≡ at → x.signature ≡ stamp → number_at w s (at + 2) ≡ last_term r.upto
      → length r.upto ≡ x.index → bytes_of x.pointer ≡ pointer (with_terms w []) r.upto
      → stamp_uses roster s w k x
      ≡ uses (slot_use_in w roster) k (stamp_of S (lead_at roster s w S at stamp r) ∷ [])
  unfolding stamp_uses uses stamp_of slot slot_use lead_at certificate_at ballot_at
  stamp-uses at stamp x r place signed term long pointed =
      rw (place, signed, term, stamp-said (cluster roster) w r.upto (last_term r.upto) x.index (bytes_of x.pointer) long pointed, leaf_at_lem (key_of roster (number_at 2 s at)) s S stamp wide)

  module _ (log : List Record) (all : List Use) where
    pub record StampsToPut (now : List Use) (left at stamp : ℕ) : Type 0 where
      pub before : List Record
      pub runs : List Run
      pub terms : TermsLeft roster s w S log left at stamp before runs
      pub answer : now ++ map padded_use (uses (slot_use_in w roster) k (map (stamp_of S) (leads_from roster s w S left at stamp runs))) ≡ all

    pub none-to-put : (now : List Use) (left at stamp : ℕ) → StampsToPut now left at stamp → left ≤ 0 → now ≡ all
    unfolding leads_from leads_of certificates uses
    none-to-put now left at stamp x h = let none : left ≡ 0 = omega arith in sym (append-nil now) ∙ rw none at x.answer

    module _ (now : List Use) (left at stamp : ℕ) (x : StampsToPut now left at stamp) (more : 0 < left) where
      -- the terms as check 15 takes them
      abbrev pub checked : StampsLeft roster s w S log (every (genuine (with_terms w (cluster roster)) roster) (map (stamp_of S) (leads_from roster s w S left at stamp x.runs))) left at stamp
      checked = record { before = x.before; runs = x.runs; terms = x.terms; answer = refl }

      abbrev turned : Turn roster s w S log left at stamp x.before x.runs
      turned = this roster s w S log left at stamp checked more

      pub stamp-put : (part : StampPart) {next : List Use} → part.certificate ≡ at → part.signature ≡ stamp → length turned.of.upto ≡ part.index
          → bytes_of part.pointer ≡ pointer (with_terms w []) turned.of.upto → next ≡ now ++ map padded_use (stamp_uses roster s w k part)
          → StampsToPut next (left - 1) (certificate_end w S s at) (stamp + S)
      stamp-put part place signed long pointed put =
          let t = turned in
          let one = put ∙ ap (λ z. now ++ map padded_use z) (stamp-uses at stamp part t.of place signed t.facts.term long pointed) in
          record {
            before = t.of.upto;
            runs = t.later;
            terms = t.rest;
            answer =
                put_then (slot_use_in w roster) k (stamp_of S (lead_at roster s w S at stamp t.of) ∷ []) _ now one
                ∙ rw (t.both, leads-first roster s w S left at stamp t.of t.later more) at x.answer;
          }
