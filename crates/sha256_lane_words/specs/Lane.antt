-- Four words side by side, one in each lane.
use Rattle.std.specs.Prelude.{cond, List, ℕ, ◌+◌, ◌*◌, eqb, get_or}
use Rattle.sha256_lane_words.specs.declared.Lanes.{Lanes}

pub data Lane : Type 0 where
  first : Lane
  second : Lane
  third : Lane
  fourth : Lane

-- what stands in a lane
unfoldable pub lane : {T : Type 0} → Lane → Lanes T → T
lane first v = v.0
lane second v = v.1
lane third v = v.2
lane fourth v = v.3

-- the number of a lane
unfoldable pub place : Lane → ℕ
place first = 0
place second = 1
place third = 2
place fourth = 3

-- the word of a lane at place i of a list in which the words of the four lanes stand side by side
unfoldable pub word_in : Lane → List ℕ → ℕ → ℕ
word_in l w i = get_or w (4 * i + place l) 0

-- what stands at each place, where that at place i is made z
unfoldable pub changed : {A : Type 0} → ℕ → A → (ℕ → A) → ℕ → A
changed i z f k = cond (eqb k i) z (f k)
