-- The pairs of accepted submissions: of any two accepted members of the list there is a pair, one way or the other, and a pair's submissions
-- are accepted members; and what it shows is what document 01's audit finds.
-- Assumes nothing.
use mathlib.Core.Path.{◌≡◌, refl, sym, ap, ◌∙◌}
use mathlib.Core.Bool.{true, false, cond}
use mathlib.Core.List.{List, [], ◌∷◌, ◌++◌, map, Memᴰ}
use mathlib.Core.Logic.{◌⊎◌, inl, inr, ⊎_elim}
use Prim.Native.Nat.{ℕ, suc}
use borrow.Author.Tests.{eqb-true, eqb-false, eq-eqb}
use lib.Dec.{eqb}
use lib.ListN.{take, drop}
use Rattle.words.proofs.Bytes.{Bytes}
use Rattle.words.proofs.Laws.{bytes_drop, bytes_take}
use Rattle.words.proofs.Members.{mem-cond}
use Rattle.refusal.proofs.Laws.{look}
use Rattle.roster.specs.Roster.{roster_number}
use Rattle.submission.specs.Validate.{validate}
use Rattle.report.specs.Report.{answer}
use Rattle.district_parts.specs.Parts.{parts}
use Rattle.district.specs.District.{Entry, entry, accepted_from, Pair, pair, pairs, found}

-- ---- pairs of entries

-- two entries are one, or a pair one way or the other
pub paired : (xs : List Entry) (x y : Entry) → Memᴰ x xs → Memᴰ y xs
    → (x ≡ y) ⊎ (Memᴰ (pair x y) (pairs xs) ⊎ Memᴰ (pair y x) (pairs xs))
unfolding pairs
paired [] x y mx my = absurd (mathlib.Core.List.Memᴰ.not-nil mx)
paired (z ∷ zs) x y mx my = go (mathlib.Core.List.Memᴰ.cases_cons mx) (mathlib.Core.List.Memᴰ.cases_cons my) (λ hx hy. paired zs x y hx hy)
  where
    Goal : Type 0
    Goal = (x ≡ y) ⊎ (Memᴰ (pair x y) (map (pair z) zs ++ pairs zs) ⊎ Memᴰ (pair y x) (map (pair z) zs ++ pairs zs))

    with_first : (v w : Entry) → v ≡ z → Memᴰ w zs → Memᴰ (pair v w) (map (pair z) zs ++ pairs zs)
    with_first v w e m = mathlib.Core.List.Memᴰ.append_left (pairs zs) (mathlib.Core.List.Memᴰ.cast (ap (λ u. pair u w) e) (mathlib.Core.List.Memᴰ.map (pair z) m))

    go : (x ≡ z) ⊎ Memᴰ x zs → (y ≡ z) ⊎ Memᴰ y zs
        → (Memᴰ x zs → Memᴰ y zs → (x ≡ y) ⊎ (Memᴰ (pair x y) (pairs zs) ⊎ Memᴰ (pair y x) (pairs zs))) → Goal
    go (inl ex) (inl ey) more = inl (ex ∙ sym ey)
    go (inl ex) (inr my) more = inr (inl (with_first x y ex my))
    go (inr mx) (inl ey) more = inr (inr (with_first y x ey mx))
    go (inr mx) (inr my) more =
        ⊎_elim
        (λ (e : x ≡ y). inl e)
        (λ h. ⊎_elim
        (λ (p : Memᴰ (pair x y) (pairs zs)). inr (inl (mathlib.Core.List.Memᴰ.append_right (map (pair z) zs) p)))
        (λ p. inr (inr (mathlib.Core.List.Memᴰ.append_right (map (pair z) zs) p))) h)
        (more mx my)

-- a pair is of two entries
pub pair_of : (xs : List Entry) (p : Pair) → Memᴰ p (pairs xs) → Memᴰ p.lower xs × Memᴰ p.higher xs
unfolding pairs pair
pair_of [] p m = absurd (mathlib.Core.List.Memᴰ.not-nil m)
pair_of (z ∷ zs) p m =
    ⊎_elim
    (λ (h : Memᴰ p (map (pair z) zs)).
    let r = mathlib.Core.List.Memᴰ.of_map (pair z) zs h in
    (mathlib.Core.List.Memᴰ.head (ap (λ (q : Pair). q.lower) (sym r.2)), mathlib.Core.List.Memᴰ.cast (ap (λ (q : Pair). q.higher) (sym r.2)) (mathlib.Core.List.Memᴰ.tail r.1)))
    (λ h. let r = pair_of zs p h in (mathlib.Core.List.Memᴰ.tail r.0, mathlib.Core.List.Memᴰ.tail r.1))
    (mathlib.Core.List.Memᴰ.append_cases (map (pair z) zs) m)

-- ---- entries of a list of submissions

module _ (roster : List ℕ) where
  -- an accepted member is an entry
  pub member-entry : (ss : List (List ℕ)) (i : ℕ) (s : List ℕ) → Memᴰ s ss → validate roster s ≡ 0
      → (e : Entry) × Memᴰ e (accepted_from roster i ss) × (e.bytes ≡ s)
  unfolding accepted_from entry
  member-entry [] i s m h = absurd (mathlib.Core.List.Memᴰ.not-nil m)
  member-entry (t ∷ ss) i s m h =
      go (look (eqb (validate roster t) 0)) (mathlib.Core.List.Memᴰ.cases_cons m) (λ k. member-entry ss (suc i) s k h)
    where
      Goal : Type 0
      Goal = (e : Entry) × Memᴰ e (cond (eqb (validate roster t) 0) (entry i t ∷ accepted_from roster (suc i) ss) (accepted_from roster (suc i) ss)) × (e.bytes ≡ s)

      go : (eqb (validate roster t) 0 ≡ true) ⊎ (eqb (validate roster t) 0 ≡ false) → (s ≡ t) ⊎ Memᴰ s ss
          → (Memᴰ s ss → (e : Entry) × Memᴰ e (accepted_from roster (suc i) ss) × (e.bytes ≡ s)) → Goal
      go (inl y) (inl e) more = (entry i t, rw y (mathlib.Core.List.Memᴰ.head refl), sym e)
      go (inl y) (inr k) more = let r = more k in (r.0, rw y (mathlib.Core.List.Memᴰ.tail r.1), r.2)
      go (inr n) (inl e) more = absurd (eqb-false _ _ n (ap (validate roster) (sym e) ∙ h))
      go (inr n) (inr k) more = let r = more k in (r.0, rw n r.1, r.2)

  -- and an entry is an accepted member
  pub entry-member : (ss : List (List ℕ)) (i : ℕ) (e : Entry) → Memᴰ e (accepted_from roster i ss)
      → (validate roster e.bytes ≡ 0) × Memᴰ e.bytes ss
  unfolding accepted_from entry
  entry-member [] i e m = absurd (mathlib.Core.List.Memᴰ.not-nil m)
  entry-member (t ∷ ss) i e m =
      let Found : Type 0 = (validate roster e.bytes ≡ 0) × Memᴰ e.bytes (t ∷ ss) in
      let later : Memᴰ e (accepted_from roster (suc i) ss) → Found =
      λ h. let r = entry-member ss (suc i) e h in (r.0, mathlib.Core.List.Memᴰ.tail r.1) in
      ⊎_elim
      (λ h. ⊎_elim
      (λ (d : e ≡ entry i t). (ap (λ z. validate roster z.bytes) d ∙ eqb-true _ _ h.0, mathlib.Core.List.Memᴰ.head (ap (λ z. z.bytes) d)))
      later (mathlib.Core.List.Memᴰ.cases_cons h.1))
      (λ h. later h.1)
      (mem-cond (eqb (validate roster t) 0) (entry i t ∷ accepted_from roster (suc i) ss) (accepted_from roster (suc i) ss) e m)

-- ---- parts of bytes

pub part_bytes : (sizes buffer : List ℕ) → Bytes buffer → (s : List ℕ) → Memᴰ s (parts sizes buffer) → Bytes s
unfolding parts
part_bytes [] buffer b s m = absurd (mathlib.Core.List.Memᴰ.not-nil m)
part_bytes (k ∷ sizes) buffer b s m =
    ⊎_elim
    (λ (e : s ≡ take k buffer). rw e (bytes_take k buffer b))
    (λ h. part_bytes sizes (drop k buffer) (bytes_drop k buffer b) s h)
    (mathlib.Core.List.Memᴰ.cases_cons m)

-- ---- the audit of a pair

-- what two accepted submissions show is what the audit of the two finds
audited : (roster : List ℕ) (p : Pair) → roster_number roster ≡ 0 → validate roster p.lower.bytes ≡ 0 → validate roster p.higher.bytes ≡ 0
    → (answer roster p.lower.bytes p.higher.bytes).findings ≡ found roster p
unfolding answer found
audited roster p fine one other = rw (eq-eqb _ 0 fine, eq-eqb _ 0 one, eq-eqb _ 0 other)
