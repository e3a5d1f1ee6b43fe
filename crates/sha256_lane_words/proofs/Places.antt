-- What stands at each place of a list, and of one in which a place is made another.
-- Assumes nothing.
use mathlib.Core.Path.{◌≡◌, refl, sym, ap, ◌∙◌}
use mathlib.Core.Bool.{Bool, true, false, cond}
use mathlib.Core.List.{List}
use mathlib.Core.Logic.{◌⊎◌, inl, inr, ⊎_elim}
use Prim.Native.Nat.{ℕ, ◌+◌, ◌*◌, ◌≤◌, ◌<◌}
use native.Mathlib.Nat.{add-zero, eq-or-lt_of_le}
use native.Mathlib.Omega.{arith}
use borrow.Author.Tests.{eqb-true, eqb-false, ltb-true, ltb-false, eq-eqb, ne_eqb}
use lib.Dec.{eqb, ltb}
use lib.ListN.{length, get_or, set, length-set}
use lib.Seq.{get_or-set_same, get_or-set_other}
use Rattle.sha256_lane_words.specs.declared.Lanes.{Lanes}
use Rattle.sha256_lane_words.specs.Lane.{Lane, lane, place, word_in, changed}
use Rattle.sha256_lane_words.proofs.Each.{each}

pub changed_in : {A : Type 0} (i : ℕ) (z : A) {f g : ℕ → A} → ((k : ℕ) → f k ≡ g k) → (k : ℕ) → changed i z f k ≡ changed i z g k
unfolding changed
changed_in i z e k = ap (cond (eqb k i) z) (e k)

pub changed-same : {A : Type 0} (i : ℕ) (z : A) (f : ℕ → A) → changed i z f i ≡ z
unfolding changed
changed-same i z f = rw (eq-eqb i i refl)

pub changed-other : {A : Type 0} (i : ℕ) (z : A) (f : ℕ → A) (k : ℕ) → (k ≡ i → ⊥) → changed i z f k ≡ f k
unfolding changed
changed-other i z f k n = rw (ne_eqb k i n)

-- a list in which a place is set
pub set_at : (w : List ℕ) (i z : ℕ) → i < length w → (k : ℕ) → get_or (set w i z) k 0 ≡ changed i z (λ (n : ℕ). get_or w n 0) k
set_at w i z room k = go (eqb k i) refl where
  go : (t : Bool) → eqb k i ≡ t → get_or (set w i z) k 0 ≡ changed i z (λ (n : ℕ). get_or w n 0) k
  go true s = rw (eqb-true k i s) (get_or-set_same w i z 0 room ∙ sym (changed-same i z (λ (n : ℕ). get_or w n 0)))
  go false s = let other = eqb-false k i s in get_or-set_other w i k z 0 other ∙ sym (changed-other i z (λ (n : ℕ). get_or w n 0) k other)

-- one place more of a run that a loop fills
pub filled_to : {A : Type 0} (f g h : ℕ → A) (i : ℕ) (z : A) → ((n : ℕ) → n < i → f n ≡ h n) → ((n : ℕ) → g n ≡ changed i z f n) → z ≡ h i
    → (n : ℕ) → n < i + 1 → g n ≡ h n
filled_to f g h i z e put new n l = go (eqb n i) refl where
  go : (t : Bool) → eqb n i ≡ t → g n ≡ h n
  go true s = rw (eqb-true n i s) (put i ∙ changed-same i z f ∙ new)
  go false s =
      let other = eqb-false n i s in
      let le : n ≤ i = omega arith in
      let lt : n < i = ⊎_elim (λ q. absurd (other q)) (λ m. m) (eq-or-lt_of_le le) in
      put n ∙ changed-other i z f n other ∙ e n lt

-- ---- four words side by side

module _ (w : List ℕ) (i : ℕ) (v : Lanes ℕ) (room : 4 * i + 4 ≤ length w) where
  abbrev one : List ℕ
  one = set w (4 * i) v.0

  abbrev two : List ℕ
  two = set one (4 * i + 1) v.1

  abbrev three : List ℕ
  three = set two (4 * i + 2) v.2

  abbrev filled : List ℕ
  filled = set three (4 * i + 3) v.3

  hit : (l : Lane) → word_in l filled i ≡ lane l v
  unfolding word_in place lane
  hit =
      each _
      (rw add-zero (get_or-set_other three (4 * i + 3) (4 * i) v.3 0 (λ e. omega arith)
      ∙ get_or-set_other two (4 * i + 2) (4 * i) v.2 0 (λ e. omega arith)
      ∙ get_or-set_other one (4 * i + 1) (4 * i) v.1 0 (λ e. omega arith)
      ∙ get_or-set_same w (4 * i) v.0 0 (omega arith)))
      (get_or-set_other three (4 * i + 3) (4 * i + 1) v.3 0 (λ e. omega arith)
      ∙ get_or-set_other two (4 * i + 2) (4 * i + 1) v.2 0 (λ e. omega arith)
      ∙ get_or-set_same one (4 * i + 1) v.1 0 (simp length-set (omega arith)))
      (get_or-set_other three (4 * i + 3) (4 * i + 2) v.3 0 (λ e. omega arith)
      ∙ get_or-set_same two (4 * i + 2) v.2 0 (simp length-set (omega arith)))
      (get_or-set_same three (4 * i + 3) v.3 0 (simp length-set (omega arith)))

  -- a place that is none of the four
  away : (n : ℕ) → (n < 4 * i) ⊎ (4 * i + 3 < n) → get_or filled n 0 ≡ get_or w n 0
  away n h =
      get_or-set_other three (4 * i + 3) n v.3 0 (λ e. ⊎_elim (λ a. omega arith) (λ b. omega arith) h)
      ∙ get_or-set_other two (4 * i + 2) n v.2 0 (λ e. ⊎_elim (λ a. omega arith) (λ b. omega arith) h)
      ∙ get_or-set_other one (4 * i + 1) n v.1 0 (λ e. ⊎_elim (λ a. omega arith) (λ b. omega arith) h)
      ∙ get_or-set_other w (4 * i) n v.0 0 (λ e. ⊎_elim (λ a. omega arith) (λ b. omega arith) h)

  few : (l : Lane) → place l ≤ 3
  unfolding place
  few = each _ (omega arith) (omega arith) (omega arith) (omega arith)

  missed : (l : Lane) (k : ℕ) → (k ≡ i → ⊥) → (t : Bool) → ltb k i ≡ t → word_in l filled k ≡ word_in l w k
  unfolding word_in
  missed l k n true e = let h = ltb-true k i e in let p = few l in away (4 * k + place l) (inl (omega arith))
  missed l k n false e =
      let h = ltb-false k i e in
      let more : i < k = ⊎_elim (λ s. absurd (n (sym s))) (λ m. m) (eq-or-lt_of_le h) in
      away (4 * k + place l) (inr (omega arith))

  put-cases : (l : Lane) (k : ℕ) (t : Bool) → eqb k i ≡ t → word_in l filled k ≡ cond t (lane l v) (word_in l w k)
  put-cases l k true e = rw (eqb-true k i e) (hit l)
  put-cases l k false e = missed l k (eqb-false k i e) (ltb k i) refl

  pub put_words : (l : Lane) (k : ℕ) → word_in l filled k ≡ changed i (lane l v) (word_in l w) k
  unfolding changed
  put_words l k = put-cases l k (eqb k i) refl
