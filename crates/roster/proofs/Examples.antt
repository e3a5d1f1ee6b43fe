-- Worked examples of the roster's checks: for each a roster on either side.
-- Assumes nothing.
use mathlib.Core.Path.{◌≡◌, refl}
use mathlib.Core.Bool.{true, false}
use mathlib.Core.List.{List, [], ◌∷◌, ◌++◌, flat_map}
use Prim.Native.Nat.{ℕ}
use lib.ListN.{take, replicate}
use Rattle.words.specs.BigEndian.{number, be, number_at, same}
use Rattle.refusal.specs.Checks.{all, check, refusal}
use Rattle.roster.specs.Roster.{replicas, key_of, tree_type, one_time_type, every_replica, sized, typed, single, roster_number}
use Rattle.roster.specs.Masks.{signer, replicas_from, replicas_of}

-- a key of a tree type and a one-time type, with one byte for all others
key : ℕ → ℕ → ℕ → List ℕ
key tree one x = be 4 tree ++ be 4 one ++ replicate 48 x

-- a roster that says n, with some keys
of : ℕ → List (List ℕ) → List ℕ
of n keys = replicate 16 7 ++ be 2 n ++ flat_map (λ (k : List ℕ). k) keys

fine : List (List ℕ)
fine = key 5 4 1 ∷ key 5 4 2 ∷ key 5 4 3 ∷ []

-- 2: below 18 bytes; n 2, 3 and 259, which has both bytes; lengths one short and one over
sizes : (roster_number (take 17 (of 3 fine)) ≡ 2) × (roster_number (take 18 (of 3 fine)) ≡ 2) × (roster_number (of 2 fine) ≡ 2)
    × (roster_number (of 3 fine) ≡ 0) × (roster_number (of 259 fine) ≡ 2) × (roster_number (take 185 (of 3 fine)) ≡ 2)
    × (roster_number (of 3 fine ++ (0 ∷ [])) ≡ 2)
unfolding of key fine roster_number refusal check sized typed single every_replica replicas key_of tree_type one_time_type all number_at number be same flat_map
sizes = (refl, refl, refl, refl, refl, refl, refl)

-- 3: a one-time type other than 4, a tree type outside 5 to 9, two tree types; type 9 for all is fine
types : (roster_number (of 3 (key 5 4 1 ∷ key 5 3 2 ∷ key 5 4 3 ∷ [])) ≡ 3) × (roster_number (of 3 (key 4 4 1 ∷ key 4 4 2 ∷ key 4 4 3 ∷ [])) ≡ 3)
    × (roster_number (of 3 (key 10 4 1 ∷ key 10 4 2 ∷ key 10 4 3 ∷ [])) ≡ 3) × (roster_number (of 3 (key 5 4 1 ∷ key 5 4 2 ∷ key 6 4 3 ∷ [])) ≡ 3)
    × (roster_number (of 3 (key 9 4 1 ∷ key 9 4 2 ∷ key 9 4 3 ∷ [])) ≡ 0)
unfolding of key fine roster_number refusal check sized typed single every_replica replicas key_of tree_type one_time_type all number_at number be same flat_map
types = (refl, refl, refl, refl, refl)

-- 4: two replicas with one key, wherever they stand
duplicates : (roster_number (of 3 (key 5 4 1 ∷ key 5 4 1 ∷ key 5 4 3 ∷ [])) ≡ 4) × (roster_number (of 3 (key 5 4 1 ∷ key 5 4 2 ∷ key 5 4 1 ∷ [])) ≡ 4)
    × (roster_number (of 3 (key 5 4 1 ∷ key 5 4 2 ∷ key 5 4 2 ∷ [])) ≡ 4)
unfolding of key fine roster_number refusal check sized typed single every_replica replicas key_of tree_type one_time_type all number_at number be same flat_map
duplicates = (refl, refl, refl)

-- bit k - 1 is replica k; replicas rise; all sixteen bits count, and no more than those
bits : (replicas_of 0 ≡ []) × (replicas_of 0b1101 ≡ 1 ∷ 3 ∷ 4 ∷ []) × (replicas_of 0x8001 ≡ 1 ∷ 16 ∷ []) × (signer 0b1101 3 ≡ true) × (signer 0b1101 2 ≡ false)
    × (signer 0xffff 17 ≡ false)
unfolding replicas_of replicas_from signer
bits = (refl, refl, refl, refl, refl, refl)
