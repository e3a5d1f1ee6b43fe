-- The size first, then what the trailer says, then the parts.
use mathlib.Core.Path.{refl, sym, ◌∙◌}
use mathlib.Core.List.{[]}
use native.Mathlib.Omega.{arith}
use lib.Dec.{lit≤}
use Rattle.refusal.proofs.Laws.{passed, refused, met, unmet}
use Rattle.roster.proofs.Accepted.{sizes, signature-bounds}
use Rattle.log_chain.specs.Log.{with_terms, version1}
use Rattle.submission.specs.Validate.{form_of, view_of, validate}
use Rattle.submission_parts.proofs.Inside.{bounds}
use Rattle.submission_checks.proofs.Facts.{sized-long, trailer_passed}
use Rattle.submission_checks.proofs.Pointers.{form_hands}
use mathlib.Core.Path.{ap}
use mathlib.Core.Bool.{not}
use Rattle.submission_checks.proofs.validate_submission.Goals as goal

pub returns-then-not-size_in_range : goal.returns-then-not-size_in_range
unfolding validate
returns-then-not-size_in_range c =
    record { number = sym (refused 5 _ _ (unmet c.size_in_range.ensures (ap not c.if-not-size_in_range.true))); pointers = tt }

pub version_known-requires : goal.version_known-requires
version_known-requires c = sized-long _ (met c.size_in_range.ensures (ap not c.if-not-size_in_range.false))

pub returns-then-not-version_known : goal.returns-then-not-version_known
unfolding validate
returns-then-not-version_known c =
    record { number = sym (passed 5 _ _ (met c.size_in_range.ensures (ap not c.if-not-size_in_range.false)) ∙ refused 6 _ _ (unmet c.version_known.ensures (ap not c.if-not-version_known.true))); pointers = tt }

pub name_matches-requires : goal.name_matches-requires
name_matches-requires c =
    let z = sizes _ c.requires in
    (omega arith, sized-long _ (met c.size_in_range.ensures (ap not c.if-not-size_in_range.false)))

pub returns-then-not-name_matches : goal.returns-then-not-name_matches
unfolding validate
returns-then-not-name_matches c =
    record {
      number = sym (passed 5 _ _ (met c.size_in_range.ensures (ap not c.if-not-size_in_range.false)) ∙ passed 6 _ _ (met c.version_known.ensures (ap not c.if-not-version_known.false))
          ∙ refused 7 _ _ (unmet c.name_matches.ensures (ap not c.if-not-name_matches.true)));
      pointers = tt;
    }

pub counts_in_range-requires : goal.counts_in_range-requires
counts_in_range-requires c =
    sized-long _ (met c.size_in_range.ensures (ap not c.if-not-size_in_range.false))

pub returns-then-not-counts_in_range : goal.returns-then-not-counts_in_range
unfolding validate
returns-then-not-counts_in_range c =
    record {
      number = sym (passed 5 _ _ (met c.size_in_range.ensures (ap not c.if-not-size_in_range.false)) ∙ passed 6 _ _ (met c.version_known.ensures (ap not c.if-not-version_known.false))
          ∙ passed 7 _ _ (met c.name_matches.ensures (ap not c.if-not-name_matches.false)) ∙ refused 8 _ _ (unmet c.counts_in_range.ensures (ap not c.if-not-counts_in_range.true)));
      pointers = tt;
    }

pub signature_size-size-requires : goal.signature_size-size-requires
signature_size-size-requires c =
    let z = sizes _ c.requires in
    omega arith

pub validate_parts-requires : goal.validate_parts-requires
validate_parts-requires c =
    let p = c.requires in (
      p,
      rw c.signature_size-size.ensures.0
          (bounds _ _ _ (met c.size_in_range.ensures (ap not c.if-not-size_in_range.false)) (met c.counts_in_range.ensures (ap not c.if-not-counts_in_range.false)) (lit≤ tt)
          (signature-bounds _ p).1),
    )

pub returns : goal.returns
unfolding form_of version1 view_of
returns c =
    let a = c.args in
    let validated = rw c.signature_size-size.ensures.0 at c.validate_parts.ensures in record {
      number = trailer_passed a.roster.now a.s.now (met c.size_in_range.ensures (ap not c.if-not-size_in_range.false)) (met c.version_known.ensures (ap not c.if-not-version_known.false))
          (met c.name_matches.ensures (ap not c.if-not-name_matches.false)) (met c.counts_in_range.ensures (ap not c.if-not-counts_in_range.false)) validated.number;
      pointers = form_hands (with_terms 4 []) (form_of a.roster.now) (view_of a.roster.now a.s.now) c.validate_parts.result refl validated.pointers;
    }
