-- What the terms, receipts and leaves of two accepted submissions show, as they are read, is what their signatures show: the terms are the
-- log's, a replica's row is the lower of that of the tenures and that of its leaves, and the fork is that of the first difference.
-- Assumes nothing.
use mathlib.Core.Path.{◌≡◌, refl, sym, ap, ◌∙◌}
use mathlib.Core.Bool.{true}
use mathlib.Core.List.{List, [], ◌++◌, map}
use Prim.Native.Nat.{ℕ, ◌+◌, ◌-◌, ◌<◌}
use native.Mathlib.Omega.{arith}
use lib.Dec.{lit≤}
use lib.ListN.{length, get_or, get_or-map}
use Rattle.std.specs.Prelude.{Option, None, unwrap_or}
use Rattle.roster.specs.Roster.{replicas, signature_size, roster_number}
use Rattle.roster.proofs.Accepted.{signature-bounds}
use Rattle.log_chain.specs.Log.{version1, with_terms}
use Rattle.log_chain.proofs.Pointers.{pointer_form}
use Rattle.log_terms.specs.Pointed.{PointersOf}
use Rattle.submission.specs.Trailer.{record_count}
use Rattle.submission.specs.View.{committed, slots}
use Rattle.log_chain.specs.Records.{records_of}
use Rattle.submission.specs.Reading.{view, laid_out}
use Rattle.submission.specs.Validate.{within, slot_use, uses, form_of, view_of, validate}
use Rattle.submission.proofs.Accepted.{Sound, validated}
use Rattle.log_chain.specs.Difference.{differ_at}
use Rattle.forensics.specs.Findings as forensics
use Rattle.forensics.specs.Findings.{fork, charges, leaf_charges, all_charges, lowest, findings, found_in}
use Rattle.submission_parts.specs.Parts.{Bounds}
use Rattle.submission_parts.specs.Shapes.{shape_of}
use Rattle.submission_signatures.specs.Checked.{Checked, PointersIn}
use Rattle.submission_uses.proofs.Gathered.{uses-append}
use Rattle.submission_parts.proofs.Inside.{bounds}
use Rattle.forensics_charges.specs.declared.Receipt.{Receipt}
use Rattle.forensics_charges.specs.declared.Findings.{Findings}
use Rattle.forensics_charges.specs.Charges.{Row, difference_of, receipts, ruled_by, rows_by, fork_of, least, charge_of, row_at, findings_of}
use Rattle.forensics_charges.proofs.Lowest.{lowest-append}
use Rattle.forensics_find.specs.declared.Side.{Side}
use Rattle.forensics_find.specs.Leaves.{Gatherable, side_uses, leaf_row}
use Rattle.forensics_find.proofs.Views.{ruled}
use Rattle.forensics_find.specs.Tenures.{tenures_of}
use Rattle.forensics_find.specs.Read.{read}
use Rattle.forensics_find.proofs.Replicas.{rows_at, rows_same}
use Rattle.forensics_find.proofs.Forks.{fork_ruled}
use Rattle.forensics_find.proofs.Ended.{tenures_read}
use Rattle.forensics_find.proofs.Rules.{rows-ruled}

-- ---- the fork and the rows that were read

module _ (w S : ℕ) (a b : List ℕ) where
  pub read-says : {m n d : ℕ} {first second : Option Receipt} (fork : Option ℕ) (rows : List Row) → d ≡ differ_at 1 (records_of w m a) (records_of w n b)
      → m ≡ record_count a → n ≡ record_count b → first ≡ receipts (view w S a) → second ≡ receipts (view w S b)
      → unwrap_or fork 0 ≡ fork_of (difference_of d) first second
      → map charge_of rows ≡ rows_by (λ k. lowest (ruled_by k (difference_of d) (tenures_of w S a) (tenures_of w S b) first second)) 9 1
      → findings_of (record { fork = fork; rows = rows }) ≡ read w S a b
  unfolding findings_of read view
  read-says fork rows ed em en ef es fork-is rows_are = rw (fork-is, rows_are, ed, em, en, ef, es)

-- ---- an accepted submission

pub record Facts (roster s : List ℕ) : Type 0 where
  pub inside : Bounds (form_of roster).term_bytes (signature_size roster) s
  pub laid : laid_out (form_of roster).term_bytes (signature_size roster) s ≡ true
  pub commit : within (view_of roster s).commit (length (view_of roster s).log) ≡ true
  pub sound : Sound (form_of roster) (replicas roster) (view_of roster s)

pub facts : (roster s : List ℕ) → roster_number roster ≡ 0 → validate roster s ≡ 0 → Facts roster s
unfolding view_of form_of version1
facts roster s fine ok =
    let v = validated roster s ok in
    record {
      inside = bounds (form_of roster).term_bytes (signature_size roster) s v.size v.counts (lit≤ tt) (signature-bounds roster fine).1;
      laid = v.layout;
      commit = v.sound.commit;
      sound = v.sound;
    }

-- ---- two

module _ (roster a b : List ℕ) (first : Facts roster a) (second : Facts roster b) where
  row_read : (k : ℕ) → 0 < k → k < 10
      → let w = (form_of roster).term_bytes in let S = signature_size roster in
      lowest (charges k (slots S (view_of roster a)) (slots S (view_of roster b)))
      ≡ lowest (ruled_by k (difference_of (differ_at 1 (view_of roster a).log (view_of roster b).log)) (tenures_of w S a) (tenures_of w S b)
      (receipts (view_of roster a)) (receipts (view_of roster b)))
  unfolding ruled
  row_read k low high =
      rw (← tenures_read roster a first.sound, ← tenures_read roster b second.sound)
      (rows-ruled (form_of roster) (replicas roster) (signature_size roster) k low (omega arith) (view_of roster a) (view_of roster b) first.sound second.sound)

  -- and the leaves
  module _ (x y : Side) (ex : x.shape ≡ shape_of (form_of roster).term_bytes (signature_size roster) a)
      (ey : y.shape ≡ shape_of (form_of roster).term_bytes (signature_size roster) b) where
    leaf-row : (k : ℕ) → leaf_row roster a b x y k
        ≡ let us = uses (slot_use (form_of roster) roster) k (slots (signature_size roster) (view_of roster a) ++ slots (signature_size roster) (view_of roster b)) in
        lowest (leaf_charges us us)
    unfolding leaf_row side_uses shape_of view_of form_of version1
    leaf-row k =
        rw (ex, ey)
        (ap (λ us. lowest (leaf_charges us us)) (sym (uses-append (slot_use (form_of roster) roster) k (slots (signature_size roster) (view_of roster a)) (slots (signature_size roster) (view_of roster b)))))

    module _ (ruled : Findings) (rows : List Row) (four : findings_of ruled ≡ read (form_of roster).term_bytes (signature_size roster) a b)
        (five : map charge_of rows ≡ rows_by (λ k. least (row_at ruled.rows k) (leaf_row roster a b x y k)) 9 1) where
      four-at : (k : ℕ) → 0 < k → k < 10 → row_at ruled.rows k ≡ lowest (charges k (slots (signature_size roster) (view_of roster a)) (slots (signature_size roster) (view_of roster b)))
      unfolding row_at findings_of read view_of form_of version1
      four-at k low high =
          let none_row : Row = None in
          let place : 1 + (k - 1) ≡ k = omega arith in
          sym (get_or-map charge_of ruled.rows (k - 1) none_row)
          ∙ ap (λ (f : forensics.Findings). get_or f.rows (k - 1) (charge_of none_row)) four
          ∙ rows_at _ (charge_of none_row) 9 1 (k - 1) (omega arith)
          ∙ rw place (sym (row_read k low high))

      pub found-is : findings_of (record { fork = ruled.fork; rows = rows }) ≡ found_in roster a b
      unfolding findings_of found_in findings all_charges read view_of form_of version1
      found-is =
          let same-fork : unwrap_or ruled.fork 0 ≡ fork (view_of roster a) (view_of roster b) = ap (λ (f : forensics.Findings). f.fork) four ∙ sym (fork_ruled (view_of roster a) (view_of roster b)) in
          let xs = slots (signature_size roster) (view_of roster a) in
          let ys = slots (signature_size roster) (view_of roster b) in
          let all : (k : ℕ) → 0 < k → k < 10 → lowest (all_charges (slot_use (form_of roster) roster) k xs ys) ≡ least (row_at ruled.rows k) (leaf_row roster a b x y k) =
          λ k low high. all-lowest k ∙ (λ i. least (sym (four-at k low high) i) (sym (leaf-row k) i)) in
          λ i. record {
            fork = same-fork i;
            rows = (five ∙ rows_same (slot_use (form_of roster) roster) _ xs ys 9 1 (λ k low high. all k (omega arith) (omega arith))) i;
          }
        where
          all-lowest : (k : ℕ) → lowest (all_charges (slot_use (form_of roster) roster) k (slots (signature_size roster) (view_of roster a)) (slots (signature_size roster) (view_of roster b)))
              ≡ least (lowest (charges k (slots (signature_size roster) (view_of roster a)) (slots (signature_size roster) (view_of roster b))))
              (let us = uses (slot_use (form_of roster) roster) k (slots (signature_size roster) (view_of roster a) ++ slots (signature_size roster) (view_of roster b)) in
              lowest (leaf_charges us us))
          all-lowest k = lowest-append (charges k (slots (signature_size roster) (view_of roster a)) (slots (signature_size roster) (view_of roster b))) _

-- ---- what the leaves are gathered from

pub side_known : (roster s : List ℕ) (x : Side) → roster_number roster ≡ 0 → Facts roster s
    → x.shape ≡ shape_of (form_of roster).term_bytes (signature_size roster) s
    → PointersOf (form_of roster) (committed (view_of roster s)) (view_of roster s).log x.pointers → Gatherable roster s x
unfolding view_of form_of version1 shape_of
side_known roster s x fine f e p =
    let w = (form_of roster).term_bytes in
    let S = signature_size roster in
    let shaped : Checked roster (shape_of w S s) s =
    record {
      counted = record {
        laid = record { fine = fine; known = record { bounds = f.inside; layout = f.laid; shaped = refl }; quorums = f.sound.quorums };
        count = f.sound.count;
      };
      leaders = f.sound.leaders;
      commit = f.commit;
    } in
    let pointed : PointersIn (shape_of w S s) s x.pointers =
    record {
      committed = p.committed ∙ pointer_form (form_of roster) (with_terms w []) refl (committed (view w S s));
      last = p.last ∙ pointer_form (form_of roster) (with_terms w []) refl (view w S s).log;
    } in
    record {
      checked = rw e shaped;
      pointed = rw e pointed;
      wide = rw e (omega (arith, (signature-bounds roster fine).0));
    }
