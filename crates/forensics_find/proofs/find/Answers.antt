-- An accepted roster has the bytes of a key, and accepted submissions are laid out; what is read from them, with what their leaves give, is
-- what they show.
use mathlib.Core.Path.{ap, ◌∙◌}
use Prim.Native.Nat.{ℕ}
use native.Mathlib.Omega.{arith}
use Rattle.log_chain.specs.Log.{version1}
use Rattle.roster.proofs.Accepted.{sizes, key-inside}
use Rattle.submission.specs.Validate.{form_of, view_of}
use Rattle.submission_parts.specs.Shapes.{shape_of}
use Rattle.forensics_find.proofs.Shown.{facts, side_known, found-is}
use Rattle.forensics_find.proofs.find.Goals as goal

pub signature_size-size-requires : goal.signature_size-size-requires
signature_size-size-requires c =
    let roster = c.args.roster.now in
    let n = sizes roster c.requires.0 in
    omega (arith, key-inside roster c.requires.0 1 (omega arith))

pub found-ruled-requires : goal.found-ruled-requires
unfolding view_of form_of version1
found-ruled-requires c =
    let a = c.args in
    let first = facts a.roster.now a.a.now c.requires.0 c.requires.1 in
    let second = facts a.roster.now a.b.now c.requires.0 c.requires.2 in
    rw c.signature_size-size.ensures.0 (first.inside, first.laid, first.commit, second.inside, second.laid, second.commit)

pub shape_of-requires : goal.shape_of-requires
unfolding form_of version1
shape_of-requires c =
    let a = c.args in
    let first = facts a.roster.now a.a.now c.requires.0 c.requires.1 in
    rw c.signature_size-size.ensures.0 (first.inside, first.laid)

pub shape_of-requires-2 : goal.shape_of-requires-2
unfolding form_of version1
shape_of-requires-2 c =
    let a = c.args in
    let second = facts a.roster.now a.b.now c.requires.0 c.requires.2 in
    rw c.signature_size-size.ensures.0 (second.inside, second.laid)

pub leaf_rows-rows-requires : goal.leaf_rows-rows-requires
unfolding form_of version1
leaf_rows-rows-requires c =
    let a = c.args in
    let p = c.requires in
    let size = c.signature_size-size.ensures.0 in
    let first = facts a.roster.now a.a.now p.0 p.1 in
    let second = facts a.roster.now a.b.now p.0 p.2 in (
      side_known a.roster.now a.a.now _ p.0 first (c.shape_of.ensures ∙ ap (λ (S : ℕ). shape_of 4 S a.a.now) size) p.3,
      side_known a.roster.now a.b.now _ p.0 second (c.shape_of-2.ensures ∙ ap (λ (S : ℕ). shape_of 4 S a.b.now) size) p.4,
    )

pub returns-clause-findings : goal.returns-clause-findings
unfolding form_of version1
returns-clause-findings c =
    let a = c.args in
    let p = c.requires in
    let size = c.signature_size-size.ensures.0 in
    let first = facts a.roster.now a.a.now p.0 p.1 in
    let second = facts a.roster.now a.b.now p.0 p.2 in
    found-is a.roster.now a.a.now a.b.now first second _ _
    (c.shape_of.ensures ∙ ap (λ (S : ℕ). shape_of 4 S a.a.now) size)
    (c.shape_of-2.ensures ∙ ap (λ (S : ℕ). shape_of 4 S a.b.now) size) _ _
    (rw size at c.found-ruled.ensures.findings) c.leaf_rows-rows.ensures
