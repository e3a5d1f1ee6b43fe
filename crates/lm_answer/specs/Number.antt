-- The number of each answer of the signature check (document 01, "Digest and signature"), its leaf (document
-- 02, W5) and its chain steps (W7).
use Rattle.std.specs.Prelude.{ℕ}
use Rattle.lm_answer.specs.declared.Answer.{Answer}
use Rattle.lm_answer.specs.declared.Answer.TheVariants.{Good, Bad, Long}

abbrev pub answer_number : Answer → ℕ
answer_number (Good leaf steps) = 0
answer_number (Bad steps) = 15
answer_number Long = 16

-- a good signature alone has a leaf that is told
abbrev pub answer_leaf : Answer → ℕ
answer_leaf (Good leaf steps) = leaf
answer_leaf (Bad steps) = 0
answer_leaf Long = 0

-- a bad signature has its steps as a good one has; for a long message there are none
abbrev pub answer_steps : Answer → ℕ
answer_steps (Good leaf steps) = steps
answer_steps (Bad steps) = steps
answer_steps Long = 0
