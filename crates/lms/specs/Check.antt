-- The signature check (RFC 8554, 5.4.2, algorithms 6 and 6a), its chain steps (document 02, W7), and the
-- answer of the service for every input (document 01, "Digest and signature").
use Rattle.std.specs.Prelude.{Option, Some, None, Bool, false, cond, List, ℕ, eqb, length, take, drop}
use Rattle.words.specs.BigEndian.{number_at, same}
use Rattle.sha256.specs.Service.{too_long}
use Rattle.lm_digits.specs.declared.Parameters.{Parameters}
use Rattle.lm_digits.specs.Parameters.{one_time}
use Rattle.lm_digits.specs.Digits.{steps}
use Rattle.lm_format.specs.Format.{height, key_size, one_time_bytes, path_at}
use Rattle.lm_format.specs.Formed.{formed}
use Rattle.lm_format.specs.Leaf.{leaf_of, leaf_number}
use Rattle.lm_ots.specs.Candidate.{message_hash, candidate}
use Rattle.lm_answer.specs.declared.Answer.{Answer}
use Rattle.lm_answer.specs.declared.Answer.TheVariants.{Good, Bad, Long}
use Rattle.lm_tree.specs.Tree.{root}

-- algorithm 4b, step 3: Q, of the key's I, the signature's q and C, and the message
unfoldable pub hash_of : List ℕ → List ℕ → List ℕ → List ℕ
hash_of key message signature =
    message_hash (take 16 (drop 8 key)) (number_at 4 signature 0) (take 32 (drop 8 signature)) message

module _ (o : Parameters) (h : ℕ) (key message signature : List ℕ) where
  -- algorithm 6a, steps 2 to 5: Tc
  unfoldable pub root_of : List ℕ
  root_of =
      let I = take 16 (drop 8 key) in
      let q = number_at 4 signature 0 in
      let ots = take (one_time_bytes o) (drop 8 signature) in
      root I h q (candidate o I q (take 32 ots) (drop 32 ots) message) (drop (path_at o) signature)

  -- algorithm 6a, step 2, and algorithm 6, step 4, for known types
  unfoldable pub verifies : Bool
  verifies = cond (formed o h key signature) (same root_of (drop 24 key)) false

  -- the chain steps: none where algorithm 6a ends in step 2, and the same whatever the root is
  unfoldable pub steps_taken : ℕ
  steps_taken = cond (formed o h key signature) (steps o (hash_of key message signature)) 0

-- algorithm 6, step 2: f of what the key's types stand for, or `other` where one is not listed
unfoldable pub typed : {A : Type 0} → A → (Parameters → ℕ → A) → Option Parameters → Option ℕ → A
typed other f None t = other
typed other f (Some o) None = other
typed other f (Some o) (Some h) = f o h

-- algorithm 6, steps 1 and 2: the same of a key, or `other` where its length is wrong
abbrev pub keyed : {A : Type 0} → A → (Parameters → ℕ → A) → List ℕ → A
keyed other f key =
    cond (eqb (length key) key_size)
    (typed other f (one_time (number_at 4 key 4)) (height (number_at 4 key 0)))
    other

-- whether a signature is good
unfoldable pub good : List ℕ → List ℕ → List ℕ → Bool
good key message signature = keyed false (λ o h. verifies o h key message signature) key

-- the chain steps of its check
unfoldable pub steps_of : List ℕ → List ℕ → List ℕ → ℕ
steps_of key message signature = keyed 0 (λ o h. steps_taken o h key message signature) key

-- good, with the number of the leaf (document 02, W5), or bad; with the chain steps (W7)
unfoldable pub verdict : Bool → List ℕ → List ℕ → ℕ → Answer
verdict accepted key signature count =
    cond accepted (Good (leaf_number (leaf_of key signature)) count) (Bad count)

-- the service's answer: a long message comes before everything
unfoldable pub answer : List ℕ → List ℕ → List ℕ → Answer
answer key message signature =
    cond (too_long message) Long
    (verdict (good key message signature) key signature (steps_of key message signature))
