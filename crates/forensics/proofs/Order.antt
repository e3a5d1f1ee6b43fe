-- The order for choosing a row (document 02, W6). It is that of pairs of numbers, a rule's rank first, and no two rules have one rank. No charge
-- comes before the row's; so a replica that broke rule 2 has it in its row, with the lowest term. Then the request's two sentences, with the
-- former order written out: who is named remains, and only rows of replicas that broke both rule 1 and rule 2 change.
-- Assumes nothing.
use mathlib.Core.Path.{◌≡◌, refl, sym, ap, ◌∙◌}
use mathlib.Core.Bool.{Bool, true, false, cond, true≢false}
use mathlib.Core.List.Memᴰ
use mathlib.Core.List.{List, [], ◌∷◌, Memᴰ}
use mathlib.Core.Logic.{◌⊎◌, inl, inr, ⊎_elim}
use mathlib.Core.Option.{Option, some, none}
use Prim.Native.Nat.{ℕ, zero, suc, ◌+◌, ◌*◌, ◌≤◌, ◌<◌}
use native.Mathlib.Omega.{arith}
use borrow.Author.Tests.{eqb-true, eqb-false, ne_eqb}
use lib.Dec.{eqb}
use Rattle.refusal.proofs.Laws.{look}
use Rattle.lm_format.specs.Uses.{Use}
use Rattle.log_chain.specs.Ends.{staler}
use Rattle.log_chain.proofs.Order.{Fresh, fresh, not-staler, stale_before, staler-alike, fresh_trans}
use Rattle.replica.specs.Charges.{Charge}
use Rattle.submission.specs.View.{Slot}
use Rattle.forensics.specs.Findings.{all_charges, rank, sooner, lower, lowest, rows_from, bit, mask_of}
use Rattle.forensics.proofs.Members.{clash_of, reuse_of, of-all, lowest-mem}

-- ---- ranks

-- 2, 1, 3, 4, 5
order : (rank 2 < rank 1) × (rank 1 < rank 3) × (rank 3 < rank 4) × (rank 4 < rank 5)
unfolding rank
order = (omega arith, omega arith, omega arith, omega arith)

pub rank_two : rank 2 ≡ 0
unfolding rank
rank_two = refl

pub rank-other : (r : ℕ) → (r ≡ 2 → ⊥) → rank r ≡ suc r
unfolding rank
rank-other r h = rw (ne_eqb r 2 h)

-- rule 2 or another
which : (r : ℕ) → (r ≡ 2) ⊎ (r ≡ 2 → ⊥)
which r = ⊎_elim (λ e. inl (eqb-true r 2 e)) (λ e. inr (eqb-false r 2 e)) (look (eqb r 2))

rank-zero : (r : ℕ) → rank r ≡ 0 → r ≡ 2
rank-zero r e = ⊎_elim (λ h. h) (λ h. absurd (omega (arith, rank-other r h, e))) (which r)

-- no two rules have one rank
rank-injective : (r s : ℕ) → rank r ≡ rank s → r ≡ s
rank-injective r s e = go (which r) (which s)
  where
    go : (r ≡ 2) ⊎ (r ≡ 2 → ⊥) → (s ≡ 2) ⊎ (s ≡ 2 → ⊥) → r ≡ s
    go (inl p) q = p ∙ sym (rank-zero s (sym e ∙ ap rank p ∙ rank_two))
    go (inr p) (inl q) = rank-zero r (e ∙ ap rank q ∙ rank_two) ∙ sym q
    go (inr p) (inr q) = omega (arith, rank-other r p, rank-other s q, e)

-- ---- the order

-- c is not before d
abbrev From : Charge → Charge → Type 0
From c d = Fresh (rank c.rule) c.term (rank d.rule) d.term

from : (c d : Charge) → sooner c d ≡ false → From c d
unfolding sooner
from c d e = fresh _ _ _ _ e

not-sooner : (c d : Charge) → From c d → sooner c d ≡ false
unfolding sooner
not-sooner c d f = not-staler _ _ _ _ f

after : (c d : Charge) → sooner c d ≡ true → From d c
unfolding sooner
after c d e = stale_before _ _ _ _ e

-- neither before the other
pub alike : (c d : Charge) → sooner c d ≡ false → sooner d c ≡ false → c ≡ d
alike c d e h =
    let f = from c d e in
    let g = from d c h in
    let ranks : rank c.rule ≡ rank d.rule = omega (arith, f.terms, g.terms) in
    let rule = rank-injective c.rule d.rule ranks in
    let term : c.term ≡ d.term = omega (arith, f.index (sym ranks), g.index ranks) in
    λ k. record { rule = rule k; term = term k }

pub not_both : (c d : Charge) → sooner c d ≡ true → sooner d c ≡ false
not_both c d e = not-sooner d c (after c d e)

pub not-sooner_trans : (c d e : Charge) → sooner e d ≡ false → sooner d c ≡ false → sooner e c ≡ false
not-sooner_trans c d e p q = not-sooner e c (fresh_trans (from e d p) (from d c q))

pub sooner_trans : (c d e : Charge) → sooner e d ≡ true → sooner d c ≡ true → sooner e c ≡ true
sooner_trans c d e p q = go (look (sooner e c))
  where
    go : (sooner e c ≡ true) ⊎ (sooner e c ≡ false) → sooner e c ≡ true
    go (inl h) = h
    go (inr h) = absurd (true≢false (sym q ∙ not-sooner d c (fresh_trans (after e d p) (from e c h))))

-- ---- the row

pub not_itself : (c : Charge) → sooner c c ≡ false
not_itself c = ⊎_elim (λ e. not_both c c e) (λ e. e) (look (sooner c c))

lower-first : (c d : Charge) → (sooner c (lower c (some d)) ≡ false) × (sooner d (lower c (some d)) ≡ false)
unfolding lower
lower-first c d = go (look (sooner d c))
  where
    go : (sooner d c ≡ true) ⊎ (sooner d c ≡ false) → (sooner c (cond (sooner d c) d c) ≡ false) × (sooner d (cond (sooner d c) d c) ≡ false)
    go (inl e) = rw e (not_both d c e, not_itself d)
    go (inr e) = rw e (not_itself c, e)

-- no charge comes before the row's
pub lowest-first : (cs : List Charge) (c : Charge) → Memᴰ c cs → (d : Charge) × (lowest cs ≡ some d) × (sooner c d ≡ false)
unfolding lowest lower
lowest-first [] c m = absurd (Memᴰ.not-nil m)
lowest-first (x ∷ cs) c m =
    (lower x (lowest cs), refl, ⊎_elim (λ e. here (lowest cs) e) (λ h. later (lowest cs) (lowest-first cs c h)) (Memᴰ.cases_cons m))
  where
    here : (o : Option Charge) → c ≡ x → sooner c (lower x o) ≡ false
    here none e = rw e (not_itself x)
    here (some y) e = rw e (lower-first x y).0

    later : (o : Option Charge) → (d : Charge) × (o ≡ some d) × (sooner c d ≡ false) → sooner c (lower x o) ≡ false
    later o h = rw h.1 (not-sooner_trans (lower x (some h.0)) h.0 c h.2 (lower-first x h.0).1)

-- a replica that broke rule 2 has it in its row, with the lowest term
pub stamps-first : (cs : List Charge) (c : Charge) → Memᴰ c cs → c.rule ≡ 2
    → (d : Charge) × (lowest cs ≡ some d) × (d.rule ≡ 2) × (d.term ≤ c.term)
stamps-first cs c m e =
    let row = lowest-first cs c m in
    let f = from c row.0 row.2 in
    let zero_rank : rank c.rule ≡ 0 = ap rank e ∙ rank_two in
    let ranks : rank row.0.rule ≡ rank c.rule = omega (arith, f.terms, zero_rank) in
    (row.0, row.1, rank-zero row.0.rule (ranks ∙ zero_rank), f.index ranks)

-- ---- the former order: 1, 2, 3, 4, 5

unfoldable pub sooner_before : Charge → Charge → Bool
sooner_before c d = staler c.rule c.term d.rule d.term

unfoldable pub lower_before : Charge → Option Charge → Charge
lower_before c none = c
lower_before c (some d) = cond (sooner_before d c) d c

unfoldable pub lowest_before : List Charge → Option Charge
lowest_before [] = none
lowest_before (c ∷ cs) = some (lower_before c (lowest_before cs))

unfoldable pub rows_before : (Slot → Use) → ℕ → ℕ → List Slot → List Slot → List (Option Charge)
rows_before as_use zero k xs ys = []
rows_before as_use (suc count) k xs ys = lowest_before (all_charges as_use k xs ys) ∷ rows_before as_use count (suc k) xs ys

-- ---- who is named remains

bit_stays : (cs : List Charge) → bit (lowest cs) ≡ bit (lowest_before cs)
unfolding bit lowest lowest_before
bit_stays [] = refl
bit_stays (c ∷ cs) = refl

pub named_stays : (as_use : Slot → Use) (count k : ℕ) (xs ys : List Slot) → mask_of (rows_from as_use count k xs ys) ≡ mask_of (rows_before as_use count k xs ys)
unfolding mask_of rows_from rows_before
named_stays as_use zero k xs ys = refl
named_stays as_use (suc count) k xs ys = (λ i. bit_stays (all_charges as_use k xs ys) i + 2 * named_stays as_use count (suc k) xs ys i)

-- ---- only rows of replicas that broke both rule 1 and rule 2 change

-- ranks are as the rules' numbers, but that rule 2 is before those below it
rank_grows : (r s : ℕ) → (s ≡ 2 → 2 ≤ r) → r < s → rank r < rank s
rank_grows r s h less = go (which r) (which s)
  where
    go : (r ≡ 2) ⊎ (r ≡ 2 → ⊥) → (s ≡ 2) ⊎ (s ≡ 2 → ⊥) → rank r < rank s
    go p (inl q) = absurd (omega (arith, h q, q, less))
    go (inl p) (inr q) = omega (arith, ap rank p, rank_two, rank-other s q)
    go (inr p) (inr q) = omega (arith, rank-other r p, rank-other s q, less)

same-order : (c d : Charge) → (d.rule ≡ 2 → 2 ≤ c.rule) → (c.rule ≡ 2 → 2 ≤ d.rule) → sooner c d ≡ sooner_before c d
unfolding sooner sooner_before
same-order c d p q =
    staler-alike c.rule d.rule c.term d.term (rank c.rule) (rank d.rule) (λ e. ap rank e) (rank_grows c.rule d.rule p)
    (rank_grows d.rule c.rule q)

-- no charge of a rule below 2 beside one of rule 2: the row is what it was
row_stays : (cs : List Charge) → ((c d : Charge) → Memᴰ c cs → Memᴰ d cs → d.rule ≡ 2 → 2 ≤ c.rule) → lowest cs ≡ lowest_before cs
unfolding lowest lower lowest_before lower_before
row_stays [] apart = refl
row_stays (c ∷ cs) apart =
    ap some (
    go (lowest cs) (λ d e. Memᴰ.tail (lowest-mem cs d e))
    ∙ ap (lower_before c) (row_stays cs (λ x y m k. apart x y (Memᴰ.tail m) (Memᴰ.tail k))))
  where
    go : (o : Option Charge) → ((d : Charge) → o ≡ some d → Memᴰ d (c ∷ cs)) → lower c o ≡ lower_before c o
    go none h = refl
    go (some d) h =
        let first = Memᴰ.head refl in rw (same-order d c (apart d c (h d refl) first) (apart c d first (h d refl)))

-- a charge of a rule among others
pub record Broke (rule : ℕ) (cs : List Charge) : Type 0 where
  pub charge : Charge
  pub member : Memᴰ charge cs
  pub its-rule : charge.rule ≡ rule

broke_or_not : (rule : ℕ) (cs : List Charge) → Broke rule cs ⊎ ((c : Charge) → Memᴰ c cs → c.rule ≡ rule → ⊥)
broke_or_not rule [] = inr (λ c m. absurd (Memᴰ.not-nil m))
broke_or_not rule (c ∷ cs) = go (look (eqb c.rule rule)) (broke_or_not rule cs)
  where
    go : (eqb c.rule rule ≡ true) ⊎ (eqb c.rule rule ≡ false) → Broke rule cs ⊎ ((d : Charge) → Memᴰ d cs → d.rule ≡ rule → ⊥)
        → Broke rule (c ∷ cs) ⊎ ((d : Charge) → Memᴰ d (c ∷ cs) → d.rule ≡ rule → ⊥)
    go (inl e) later = inl (record { charge = c; member = Memᴰ.head refl; its-rule = eqb-true _ _ e })
    go (inr e) (inl b) = inl (record { charge = b.charge; member = Memᴰ.tail b.member; its-rule = b.its-rule })
    go (inr e) (inr none-later) =
        inr (λ d m h. ⊎_elim (λ (same : d ≡ c). eqb-false c.rule rule e (ap (λ (x : Charge). x.rule) (sym same) ∙ h)) (λ k. none-later d k h) (Memᴰ.cases_cons m))

pub only_both : (as_use : Slot → Use) (k : ℕ) (xs ys : List Slot)
    → (let cs = all_charges as_use k xs ys in (lowest cs ≡ lowest_before cs) ⊎ (Broke 1 cs × Broke 2 cs))
only_both as_use k xs ys = go (broke_or_not 1 cs) (broke_or_not 2 cs)
  where
    cs : List Charge
    cs = all_charges as_use k xs ys

    -- every charge is of a rule from 1 on
    positive : (c : Charge) → Memᴰ c cs → 0 < c.rule
    positive = of-all as_use k xs ys (λ c. 0 < c.rule) (λ x y mx my c m. (clash_of x y c m).rule) (λ u v mu c m. rw (reuse_of u v c m) (omega arith))

    go : Broke 1 cs ⊎ ((c : Charge) → Memᴰ c cs → c.rule ≡ 1 → ⊥) → Broke 2 cs ⊎ ((c : Charge) → Memᴰ c cs → c.rule ≡ 2 → ⊥)
        → (lowest cs ≡ lowest_before cs) ⊎ (Broke 1 cs × Broke 2 cs)
    go (inl one) (inl two) = inr (one, two)
    go (inr none-one) two = inl (row_stays cs (λ c d m n e. omega (arith, positive c m, none-one c m)))
    go (inl one) (inr none-two) = inl (row_stays cs (λ c d m n e. absurd (none-two d n e)))
