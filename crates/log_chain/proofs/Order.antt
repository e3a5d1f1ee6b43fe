-- The order of log ends as facts about numbers: an end that is not staler than another.
-- Assumes nothing.
use mathlib.Core.Path.{◌≡◌, refl, sym}
use mathlib.Core.Bool.{true, false, cond}
use mathlib.Core.List.{List, [], ◌∷◌, ◌++◌}
use mathlib.Core.Logic.{◌⊎◌, inl, inr}
use Prim.Native.Nat.{ℕ, zero, suc, ◌≤◌, ◌<◌, zero-le}
use native.Mathlib.Nat.{le_refl}
use native.Mathlib.Omega.{arith}
use borrow.Author.Tests.{ltb-true, ltb-false, eqb-true, eqb-false, leb-true, eq-eqb, ne_eqb, lt-ltb, le-ltb, le-leb}
use lib.Dec.{eqb, ltb, leb}
use lib.ListN.{take}
use Rattle.refusal.proofs.Laws.{look, cond-true}
use Rattle.log_chain.specs.Log.{Record, term_from, last_term}
use Rattle.log_chain.specs.Ends.{rising, staler}

-- ---- ends

-- (u, j) is not staler than (t, i)
pub record Fresh (u j t i : ℕ) : Type 0 where
  pub terms : t ≤ u
  pub index : t ≡ u → i ≤ j

pub fresh : (u j t i : ℕ) → staler u j t i ≡ false → Fresh u j t i
unfolding staler
fresh u j t i = go (look (eqb u t))
  where
    go : (eqb u t ≡ true) ⊎ (eqb u t ≡ false) → cond (eqb u t) (ltb j i) (ltb u t) ≡ false → Fresh u j t i
    go (inl e) h = record { terms = omega (arith, eqb-true u t e); index = λ d. ltb-false j i (rw e at h) }
    go (inr e) h = record { terms = ltb-false u t (rw e at h); index = λ d. absurd (eqb-false u t e (sym d)) }

pub not-staler : (u j t i : ℕ) → Fresh u j t i → staler u j t i ≡ false
unfolding staler
not-staler u j t i f = go (look (eqb u t))
  where
    go : (eqb u t ≡ true) ⊎ (eqb u t ≡ false) → cond (eqb u t) (ltb j i) (ltb u t) ≡ false
    go (inl e) = rw e (le-ltb j i (f.index (sym (eqb-true u t e))))
    go (inr e) = rw e (le-ltb u t f.terms)

-- a staler end is not after the other
pub stale_before : (t i u j : ℕ) → staler t i u j ≡ true → Fresh u j t i
unfolding staler
stale_before t i u j = go (look (eqb t u))
  where
    go : (eqb t u ≡ true) ⊎ (eqb t u ≡ false) → cond (eqb t u) (ltb i j) (ltb t u) ≡ true → Fresh u j t i
    go (inl e) h =
        record { terms = omega (arith, eqb-true t u e); index = λ d. omega (arith, ltb-true i j (rw e at h)) }
    go (inr e) h =
        let below = ltb-true t u (rw e at h) in record { terms = omega (arith, below); index = λ d. absurd (omega (arith, below)) }

pub fresh_trans : {v k u j t i : ℕ} → Fresh v k u j → Fresh u j t i → Fresh v k t i
fresh_trans {v} {k} {u} {j} {t} {i} f g =
    record {
      terms = omega (arith, f.terms, g.terms);
      index = λ d. let tu : t ≡ u = omega (arith, f.terms, g.terms) in
          let uv : u ≡ v = omega (arith, f.terms, g.terms) in
          omega (arith, g.index tu, f.index uv);
    }

-- numbers in the order of others: terms r' and s' for r and s
pub staler-alike : (r s t u : ℕ) (r' s' : ℕ) → (r ≡ s → r' ≡ s') → (r < s → r' < s') → (s < r → s' < r') → staler r' t s' u ≡ staler r t s u
unfolding staler
staler-alike r s t u r' s' same less more = go (look (eqb r s)) (look (ltb r s))
  where
    go : (eqb r s ≡ true) ⊎ (eqb r s ≡ false) → (ltb r s ≡ true) ⊎ (ltb r s ≡ false)
        → cond (eqb r' s') (ltb t u) (ltb r' s') ≡ cond (eqb r s) (ltb t u) (ltb r s)
    go (inl e) h = rw (e, eq-eqb r' s' (same (eqb-true r s e)))
    go (inr e) (inl h) = let below = less (ltb-true r s h) in rw (e, h, ne_eqb r' s' (λ d. omega (arith, below, d)), lt-ltb r' s' below)
    go (inr e) (inr h) =
        let above = more (omega (arith, ltb-false r s h, eqb-false r s e)) in
        rw (e, h, ne_eqb r' s' (λ d. omega (arith, above, d)), le-ltb r' s' (omega (arith, above)))

-- ---- terms of a log

term_snoc : (t : ℕ) (l : List Record) (r : Record) → term_from t (l ++ (r ∷ [])) ≡ r.term
unfolding term_from
term_snoc t [] r = refl
term_snoc t (s ∷ l) r = term_snoc s.term l r

pub last_snoc : (l : List Record) (r : Record) → last_term (l ++ (r ∷ [])) ≡ r.term
unfolding last_term
last_snoc l r = term_snoc 0 l r

-- terms that do not fall: the last is at least each before it
term_from-le : (low : ℕ) (l : List Record) → rising low l ≡ true → low ≤ term_from low l
unfolding term_from rising
term_from-le low [] h = le_refl low
term_from-le low (r ∷ l) h =
    let s = cond-true (leb low r.term) (rising r.term l) h in
    omega (arith, leb-true low r.term s.0, term_from-le r.term l s.1)

take_from_le : (low : ℕ) (i : ℕ) (l : List Record) → rising low l ≡ true → term_from low (take i l) ≤ term_from low l
unfolding term_from rising
take_from_le low zero l h = term_from-le low l h
take_from_le low (suc i) [] h = le_refl low
take_from_le low (suc i) (r ∷ l) h =
    let s = cond-true (leb low r.term) (rising r.term l) h in take_from_le r.term i l s.1

rising-zero : (l : List Record) → rising 1 l ≡ true → rising 0 l ≡ true
unfolding rising
rising-zero [] h = refl
rising-zero (r ∷ l) h = let s = cond-true (leb 1 r.term) (rising r.term l) h in rw (le-leb 0 r.term zero-le) s.1

pub take-last-le : (i : ℕ) (l : List Record) → rising 1 l ≡ true → last_term (take i l) ≤ last_term l
unfolding last_term
take-last-le i l h = take_from_le 0 i l (rising-zero l h)

rising_from : (low : ℕ) (l : List Record) (r : Record) → rising low l ≡ true → term_from low l ≤ r.term → rising low (l ++ (r ∷ [])) ≡ true
unfolding term_from rising
rising_from low [] r h t = rw (le-leb low r.term t)
rising_from low (s ∷ l) r h t =
    let p = cond-true (leb low s.term) (rising s.term l) h in rw p.0 (rising_from s.term l r p.1 t)

-- one record more at the end
pub rising_snoc : (l : List Record) (r : Record) → rising 1 l ≡ true → last_term l ≤ r.term → 0 < r.term → rising 1 (l ++ (r ∷ [])) ≡ true
unfolding last_term term_from
rising_snoc [] r h t p = rising_from 1 [] r h p
rising_snoc (s ∷ l) r h t p = rising_from 1 (s ∷ l) r h t
