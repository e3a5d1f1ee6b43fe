-- One submission after the other: what has been judged is the first i, and where the next begins is what their lengths add up to.
use mathlib.Core.Path.{◌≡◌, refl, sym, ap, ◌∙◌}
use mathlib.Core.List.Memᴰ
use mathlib.Core.List.{map, flat_map, sum}
use Prim.Native.Nat.{ℕ, suc, ◌+◌, ◌≤◌, ◌<◌}
use native.Mathlib.Omega.{arith}
use borrow.Author.Rules.{rules}
use lib.ListN.{length, take, drop, get_or}
use lib.Seq.{take_all, sets}
use Rattle.words.specs.BigEndian.{be}
use Rattle.words.specs.Over.{over}
use Rattle.submission.specs.Validate.{form_of, view_of, validate}
use Rattle.refusal.specs.Refusals.{number_of}
use Rattle.submission_checks.specs.Pointers.{PointersHanded}
use Rattle.district_parts.specs.Parts.{parts, total, count_most}
use Rattle.district_parts.proofs.Parts.{parts-length, sum_next, counted-most}
use Rattle.district.specs.District.{accepted_from, accepted, number_bytes}
use Rattle.district_pairs.specs.Entries.{entry_of, entries_of}
use Rattle.words.proofs.Laws.{part_from}
use Rattle.audit_district.proofs.Judged.{this, room_of, number_put, entries_next, fits_next}
use Rattle.audit_district.proofs.judge.Goals as goal

pub loop-i-init : goal.loop-i-init
unfolding over number_bytes flat_map accepted_from entries_of total sum
loop-i-init c =
    let none = c.no_entries-entries.ensures.parts in (
      refl,
      refl,
      ap (map (entry_of c.args.buffer.now)) none,
      c.no_entries-entries.ensures.room,
      λ p m. absurd (Memᴰ.not-nil (rw none at m)),
    )

pub overflow_cast-size : goal.overflow_cast-size
overflow_cast-size c = let f = c.type_inv.lengths c.loop-i.i in search (rules, f)

pub overflow_add-end : goal.overflow_add-end
overflow_add-end c =
    let l = c.loop-i in
    let room = room_of c.args.roster.now c.args.buffer.now c.args.lengths.now l.i (search rules) c.requires.2 l.at l.invariant.0 in
    search (rules, room)

pub slice_bounds-validate_submission-start : goal.slice_bounds-validate_submission-start
slice_bounds-validate_submission-start c =
    let l = c.loop-i in
    let room = room_of c.args.roster.now c.args.buffer.now c.args.lengths.now l.i (search rules) c.requires.2 l.at l.invariant.0 in
    search (rules, room)

pub slice_bounds-validate_submission-end : goal.slice_bounds-validate_submission-end
slice_bounds-validate_submission-end c =
    let l = c.loop-i in
    let room = room_of c.args.roster.now c.args.buffer.now c.args.lengths.now l.i (search rules) c.requires.2 l.at l.invariant.0 in
    search (rules, room)

pub validate_submission-validated-requires : goal.validate_submission-validated-requires
validate_submission-validated-requires c = c.requires.0

pub put_u8-requires : goal.put_u8-requires
put_u8-requires c =
    omega (arith, c.loop-i.auto.report, c.requires.3)

pub with_judged-entries-requires : goal.with_judged-entries-requires
with_judged-entries-requires c =
    let l = c.loop-i in
    (l.invariant.3, omega (arith, counted-most c.args.lengths.now c.requires.1))

pub loop-i-preserved : goal.loop-i-preserved
unfolding this
loop-i-preserved c =
    let l = c.loop-i in
    let a = c.args in
    let R = a.roster.now in
    let B = a.buffer.now in
    let L = a.lengths.now in
    let size = get_or L l.i 0 in
    let inside : l.i < length L = search rules in
    let next : l.i + 1 ≡ suc l.i = omega arith in
    let validated = c.validate_submission-validated.result in
    let number : number_of validated ≡ validate R (this R B L l.i inside) =
    c.validate_submission-validated.ensures.number ∙ ap (validate R) (part_from B l.at size ∙ ap (λ (k : ℕ). take size (drop k B)) l.invariant.0) in
    let handed : PointersHanded (form_of R) (view_of R (take size (drop l.at B))) validated =
    rw (← part_from B l.at size) c.validate_submission-validated.ensures.pointers in
    let put = c.put_u8 in
    let bytes : put.new.out ≡ over (number_bytes R (take (suc l.i) (parts L B))) a.report.now =
    put.ensures ∙ (λ k. sets (l.invariant.1 k) l.i (be 1 ((c.number_of.ensures ∙ number) k))) ∙ number_put R B L l.i inside a.report.now c.requires.3 in (
      ap (λ (k : ℕ). k + size) l.invariant.0 ∙ sym (sum_next L l.i inside) ∙ ap (λ (k : ℕ). total (take k L)) (sym next),
      bytes ∙ ap (λ (k : ℕ). over (number_bytes R (take k (parts L B))) a.report.now) (sym next),
      entries_next R B L l.i inside l.entries c.with_judged-entries.result validated l.at size l.invariant.0 refl number
          c.with_judged-entries.ensures.parts l.invariant.2
          ∙ ap (λ (k : ℕ). accepted_from R 1 (take k (parts L B))) (sym next),
      rw next c.with_judged-entries.ensures.room,
      fits_next R B L l.i inside c.requires.2 l.entries c.with_judged-entries.result validated l.at size l.invariant.0 refl number handed
          c.with_judged-entries.ensures.parts l.invariant.4,
    )

pub returns : goal.returns
unfolding accepted
returns c =
    let l = c.loop-i in
    let a = c.args in
    let all-parts : take l.i (parts a.lengths.now a.buffer.now) ≡ parts a.lengths.now a.buffer.now =
    take_all l.i (parts a.lengths.now a.buffer.now) (omega (arith, parts-length a.lengths.now a.buffer.now)) in
    let most : l.entries.count ≤ count_most = omega (arith, l.invariant.3.taken, counted-most a.lengths.now c.requires.1) in record { accepted = l.invariant.2 ∙ ap (accepted_from a.roster.now 1) all-parts; held = record { fine = c.requires.0; room = record { places = l.invariant.3.places; taken = most }; fit = l.invariant.4 }; bytes = l.invariant.1 ∙ ap (λ z. over (number_bytes a.roster.now z) a.report.now) all-parts }
