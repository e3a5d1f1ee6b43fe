-- Two rounds and a word of the schedule in a lane: what a turn of the loop over the rounds keeps.
-- Assumes nothing.
use mathlib.Core.Path.{◌≡◌, refl, sym, ap, ◌∙◌}
use mathlib.Core.List.{List, [], ◌∷◌}
use Prim.Native.Nat.{ℕ, zero, suc, ◌+◌, ◌-◌, ◌≤◌, ◌<◌}
use native.Mathlib.Nat.{add-zero, add-suc}
use native.Mathlib.Omega.{arith}
use lib.ListN.{length, get_or, take, length-append, get_or-append}
use lib.Seq.{get_or_at, get_or-take}
use Rattle.sha256.specs.declared.State.{State}
use Rattle.sha256_tables.specs.Constants.{constants}
use Rattle.sha256.specs.Sha256.{◌⊞◌, σ₀, σ₁, next_word, extend, schedule, round, rounds}
use Rattle.sha256.proofs.Rounds.{rounds-add}
use Rattle.sha256_lanes.specs.Lane.{changed}
use Rattle.sha256_lane_words.proofs.Places.{filled_to}

-- ---- the schedule's words

length-extend : (n : ℕ) (m : List ℕ) → length (extend n m) ≡ length m + n
unfolding extend
length-extend zero m = sym (add-zero (length m))
length-extend (suc n) m = rw (length-append, length-extend n m, add-suc) (omega arith)

-- words that are there stay
extend_front : (d n : ℕ) (m : List ℕ) (i : ℕ) → i < length m + n → get_or (extend (n + d) m) i 0 ≡ get_or (extend n m) i 0
unfolding extend
extend_front zero n m i h = rw add-zero
extend_front (suc d) n m i h =
    let inside : i < length (extend (n + d) m) = rw (length-extend (n + d) m) (omega arith) in
    rw (add-suc, get_or-append (extend (n + d) m) (next_word (extend (n + d) m) (16 + (n + d)) ∷ []) 0 i inside) (extend_front d n m i h)

module _ (m : List ℕ) (long : length m ≡ 16) where
  front : (n i : ℕ) → n ≤ 48 → i < 16 + n → get_or (schedule m) i 0 ≡ get_or (extend n m) i 0
  unfolding schedule
  front n i h l =
      let all : n + (48 - n) ≡ 48 = omega arith in
      ap (λ (k : ℕ). get_or (extend k m) i 0) (sym all) ∙ extend_front (48 - n) n m i (omega (arith, long))

  -- the words of the block come first
  pub block-word : (i : ℕ) → i < 16 → get_or (schedule m) i 0 ≡ get_or m i 0
  unfolding extend
  block-word i h = front 0 i (omega arith) (omega arith)

  last : (n : ℕ) → get_or (extend (suc n) m) (16 + n) 0 ≡ next_word (extend n m) (16 + n)
  unfolding extend
  last n =
      get_or_at (extend n m) (next_word (extend n m) (16 + n)) [] 0 (16 + n) (length-extend n m ∙ ap (λ (k : ℕ). k + n) long)

  -- each word after them is made of those before it
  pub next_word_lem : (i : ℕ) → 16 ≤ i → i < 64
      → get_or (schedule m) i 0
      ≡ σ₁ (get_or (schedule m) (i - 2) 0) ⊞ get_or (schedule m) (i - 7) 0 ⊞ σ₀ (get_or (schedule m) (i - 15) 0) ⊞ get_or (schedule m) (i - 16) 0
  unfolding next_word
  next_word_lem i low high =
      let n = i - 16 in
      let place : 16 + n ≡ i = omega arith in
      front (suc n) i (omega arith) (omega arith)
      ∙ ap (λ (k : ℕ). get_or (extend (suc n) m) k 0) (sym place)
      ∙ last n
      ∙ rw (
        place,
        front n (i - 2) (omega arith) (omega arith),
        front n (i - 7) (omega arith) (omega arith),
        front n (i - 15) (omega arith) (omega arith),
        front n (i - 16) (omega arith) (omega arith),
      )

-- ---- a turn

-- two rounds more
pub round_turn : (i : ℕ) (w : List ℕ) (r s t : State) (k x k' x' : ℕ) → 4 ≤ i
    → k ≡ get_or constants i 0 → x ≡ get_or w i 0 → k' ≡ get_or constants (i + 1) 0 → x' ≡ get_or w (i + 1) 0
    → r ≡ rounds (i - 4) 4 w s → t ≡ round (round r k x) k' x' → t ≡ rounds (i + 2 - 4) 4 w s
unfolding rounds
round_turn i w r s t k x k' x' low ek ex ek' ex' e f =
    let count : i + 2 - 4 ≡ i - 4 + 2 = omega arith in
    let place : 4 + (i - 4) ≡ i = omega arith in
    let next : i + 1 ≡ suc i = omega arith in
    f ∙ rw (e, ek, ex, ek', ex', count, rounds-add (i - 4) 2 4 w s, place, next)

-- one word more
pub word_turn : (v u : ℕ → ℕ) (m : List ℕ) (i : ℕ) → length m ≡ 16 → 16 ≤ i → i < 64 → ((n : ℕ) → n < i → v n ≡ get_or (schedule m) n 0)
    → ((n : ℕ) → u n ≡ changed i (σ₁ (v (i - 2)) ⊞ v (i - 7) ⊞ σ₀ (v (i - 15)) ⊞ v (i - 16)) v n)
    → (n : ℕ) → n < i + 1 → u n ≡ get_or (schedule m) n 0
word_turn v u m i long low high e f =
    filled_to v u (λ (n : ℕ). get_or (schedule m) n 0) i _ e f
    (rw (e (i - 2) (omega arith), e (i - 7) (omega arith), e (i - 15) (omega arith), e (i - 16) (omega arith)) (sym (next_word_lem m long i low high)))

-- ---- rounds that look at the first words alone

pub rounds-same : (n t : ℕ) (v w : List ℕ) (s : State) → ((i : ℕ) → i < t + n → get_or v i 0 ≡ get_or w i 0) → rounds n t v s ≡ rounds n t w s
unfolding rounds
rounds-same zero t v w s h = refl
rounds-same (suc n) t v w s h = rw (h t (omega arith)) (rounds-same n (suc t) v w _ (λ i l. h i (omega arith)))

pub first-rounds : (m : List ℕ) (s : State) → length m ≡ 16 → rounds 4 0 (take 4 m) s ≡ rounds 4 0 (schedule m) s
first-rounds m s long =
    rounds-same 4 0 (take 4 m) (schedule m) s
    (λ i h. get_or-take 4 m i 0 (omega arith) ∙ sym (block-word m long i (omega arith)))
