-- Logs that differ: either way round, where two records differ at an index, and within longer beginnings too.
-- Assumes nothing.
use mathlib.Core.Path.{◌≡◌, refl, sym, ◌∙◌}
use mathlib.Core.Bool.{true, false, true≢false}
use mathlib.Core.List.{List, [], ◌∷◌}
use mathlib.Core.Logic.{⊎_elim}
use mathlib.Core.Option.{some}
use Prim.Native.Nat.{ℕ, zero, suc, min, ◌≤◌}
use native.Mathlib.Omega.{arith}
use borrow.Author.Tests.{eqb-true, eqb-false, eq-eqb, ne_eqb}
use lib.Dec.{eqb}
use lib.ListN.{get_elem?, take}
use Rattle.words.specs.BigEndian.{same}
use Rattle.words.proofs.Same.{same_true, true_same, same_test}
use Rattle.refusal.proofs.Laws.{look, cond-true}
use Rattle.log_chain.specs.Log.{Record}
use Rattle.log_chain.specs.Difference.{agree, same_record}

-- ---- either way round

eqb_sym : (a b : ℕ) → eqb a b ≡ eqb b a
eqb_sym a b =
    ⊎_elim
    (λ (e : eqb a b ≡ true). e ∙ sym (eq-eqb b a (sym (eqb-true a b e))))
    (λ e. e ∙ sym (ne_eqb b a (λ d. eqb-false a b e (sym d))))
    (look (eqb a b))

same_sym : (s t : List ℕ) → same s t ≡ same t s
same_sym s t = same_test (same s t) t s (λ e. sym (same_true s t e), λ (e : t ≡ s). rw e (true_same s))

record_sym : (r s : Record) → same_record r s ≡ same_record s r
unfolding same_record
record_sym r s = rw (eqb_sym r.term s.term, same_sym r.digest s.digest)

pub agree_sym : (l m : List Record) → agree l m ≡ agree m l
unfolding agree
agree_sym [] [] = refl
agree_sym [] (s ∷ m) = refl
agree_sym (r ∷ l) [] = refl
agree_sym (r ∷ l) (s ∷ m) = rw (record_sym r s, agree_sym l m)

-- ---- with nothing

pub agree-nil : (l : List Record) → agree l [] ≡ true
unfolding agree
agree-nil [] = refl
agree-nil (r ∷ l) = refl

-- ---- at an index

record_true : (r s : Record) → same_record r s ≡ true → r ≡ s
unfolding same_record
record_true r s e =
    let both = cond-true (eqb r.term s.term) (same r.digest s.digest) e in
    let term = eqb-true r.term s.term both.0 in
    let digest = same_true r.digest s.digest both.1 in
    λ k. record { term = term k; digest = digest k }

-- records that differ at an index of both
pub differ_at_lem : (i : ℕ) (l m : List Record) (r s : Record) → get_elem? l i ≡ some r → get_elem? m i ≡ some s → (r ≡ s → ⊥) → agree l m ≡ false
unfolding agree
differ_at_lem i [] m r s e d apart = let z : ◌≡◌ {A = ℕ} 0 1 = cc in absurd (omega arith)
differ_at_lem i (x ∷ l) [] r s e d apart = let z : ◌≡◌ {A = ℕ} 0 1 = cc in absurd (omega arith)
differ_at_lem zero (x ∷ l) (y ∷ m) r s e d apart =
    let one : x ≡ r = cc in
    let other : y ≡ s = cc in
    ⊎_elim
    (λ (h : same_record x y ≡ true). absurd (apart (sym one ∙ record_true x y h ∙ other)))
    (λ h. rw h)
    (look (same_record x y))
differ_at_lem (suc i) (x ∷ l) (y ∷ m) r s e d apart =
    ⊎_elim
    (λ (h : same_record x y ≡ true). rw h (differ_at_lem i l m r s e d apart))
    (λ h. rw h)
    (look (same_record x y))

-- ---- within longer beginnings

pub differ-within : (i j a b : ℕ) (l m : List Record) → agree (take i l) (take j m) ≡ false → min i j ≤ a → min i j ≤ b
    → agree (take a l) (take b m) ≡ false
unfolding agree
differ-within zero j a b l m e p q = absurd (true≢false e)
differ-within (suc i) zero a b l m e p q = absurd (true≢false (sym (agree-nil (take (suc i) l)) ∙ e))
differ-within (suc i) (suc j) zero b l m e p q = absurd (omega arith)
differ-within (suc i) (suc j) (suc a) zero l m e p q = absurd (omega arith)
differ-within (suc i) (suc j) (suc a) (suc b) [] m e p q = absurd (true≢false e)
differ-within (suc i) (suc j) (suc a) (suc b) (r ∷ l) [] e p q = absurd (true≢false e)
differ-within (suc i) (suc j) (suc a) (suc b) (r ∷ l) (s ∷ m) e p q =
    ⊎_elim
    (λ (h : same_record r s ≡ true). rw h (differ-within i j a b l m (rw h at e) (omega arith) (omega arith)))
    (λ h. rw h)
    (look (same_record r s))
