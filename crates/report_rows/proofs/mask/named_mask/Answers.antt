-- From the last replica down, each turn doubles the mask and adds a bit: the mask is that of the last rows, as many as were taken.
use mathlib.Core.Path.{◌≡◌, ap, ◌∙◌}
use mathlib.Core.List.{[], ◌∷◌, ◌++◌, map}
use Prim.Native.Nat.{ℕ, ◌-◌, ◌<◌}
use native.Mathlib.Omega.{arith}
use borrow.Author.Rules.{rules}
use lib.ListN.{drop_of_length-le, length, drop, get_or, length-append, length-reverse}
use Rattle.std.proofs.lemmas.List.{get_or-reverse}
use Rattle.std.proofs.lemmas.Iterator.Adapters.{YieldsList-from_rev_slice}
use Rattle.std.proofs.lemmas.Iterator.Consumers.{YieldsList-turn, YieldsList-end}
use Rattle.forensics.specs.Findings.{bit, mask_of}
use Rattle.forensics_charges.specs.Charges.{Row, charge_of}
use Rattle.report_rows.proofs.Bits.{next_bit, mask_small}
use Rattle.report_rows.proofs.mask.named_mask.Goals.{In-Some}
use Rattle.report_rows.proofs.mask.named_mask.Goals as goal

-- the row of a turn is the next from the end
turn : (c : In-Some) → (length c.loop-row.yielded < 9) × (c.in-Some.row.now ≡ get_or c.args.rows (9 - length c.loop-row.yielded - 1) c.in-Some.row.now)
turn c =
    let rows = c.args.rows in
    let long : length rows ≡ 9 = search rules in
    let n = length c.loop-row.yielded in
    let t = YieldsList-turn (YieldsList-from_rev_slice rows cc) c.loop-row.yielded _ c.loop-row.yielded_by _ _ c.in-Some.row c.in-Some.is c.next.ensures.steps in
    let less : n < 9 = omega (arith, t.0, length-reverse rows, long) in
    let place : length rows - 1 - n ≡ 9 - n - 1 = omega (arith, long) in
    (less, t.1 ∙ get_or-reverse rows n _ (omega (arith, long, less)) ∙ ap (λ (k : ℕ). get_or rows k c.in-Some.row.now) place)

pub loop-row-init : goal.loop-row-init
unfolding mask_of
loop-row-init c =
    let rows = c.args.rows in
    let long : length rows ≡ 9 = search rules in
    rw (drop_of_length-le rows {i = 9} (omega arith))

pub overflow_mul-mask : goal.overflow_mul-mask
overflow_mul-mask c =
    let rows = c.args.rows in
    let long : length rows ≡ 9 = search rules in
    let t = turn c in
    omega (arith, t.0, c.loop-row.invariant, mask_small rows (9 - length c.loop-row.yielded) long (omega (arith, t.0)))

pub overflow_add-mask : goal.overflow_add-mask
overflow_add-mask c =
    let rows = c.args.rows in
    let long : length rows ≡ 9 = search rules in
    let t = turn (goal.at.overflow_add-mask c).In-Some in
    omega (arith, t.0, c.bit_of.ensures.1, c.loop-row.invariant, mask_small rows (9 - length c.loop-row.yielded) long (omega (arith, t.0)))

pub loop-row-preserved : goal.loop-row-preserved
loop-row-preserved c =
    let rows = c.args.rows in
    let long : length rows ≡ 9 = search rules in
    let l = c.loop-row in
    let n = length l.yielded in
    let t = turn (goal.at.loop-row-preserved c).In-Some in
    let fewer : 9 - n - 1 ≡ 9 - length (l.yielded ++ (c.in-Some.row ∷ [])) = omega (arith, length-append l.yielded (c.in-Some.row ∷ [])) in
    next_bit rows (9 - n) l.mask c.bit_of.result _ (omega (arith, t.0)) (omega (arith, long)) l.invariant
    (c.bit_of.ensures.0 ∙ ap (λ (row : Row). bit (charge_of row)) t.1)
    ∙ ap (λ (k : ℕ). mask_of (map charge_of (drop k rows))) fewer

pub returns : goal.returns
returns c =
    let rows = c.args.rows in
    let long : length rows ≡ 9 = search rules in
    let l = c.loop-row in
    let e = YieldsList-end (YieldsList-from_rev_slice rows cc) l.yielded _ l.yielded_by _ _ c.in-None.is c.next.ensures.steps in
    let end : 9 - length l.yielded ≡ 0 = omega (arith, e.1, length-reverse rows, long) in
    l.invariant ∙ ap (λ (k : ℕ). mask_of (map charge_of (drop k rows))) end
