-- The roster (document 01, "The roster"): cluster name, n, then n public keys; and its checks ("What stops an
-- audit", 2 to 4).
use Rattle.std.specs.Prelude.{Option, unwrap_or, Bool, true, false, not, cond, List, [], ◌∷◌, ℕ, zero}
use Rattle.std.specs.Prelude.{suc, ◌+◌, ◌-◌, ◌*◌, ◌/◌, eqb, leb, length, take, drop}
use Rattle.words.specs.BigEndian.{number_at, same}
use Rattle.refusal.specs.Checks.{all, check, refusal}
use Rattle.lm_digits.specs.Parameters.{byte_digits}
use Rattle.lm_format.specs.Format.{height, key_size, signature_length}

-- the bytes of a cluster's name, and of name and n
abbrev pub name_size : ℕ
name_size = 16

abbrev pub head_size : ℕ
head_size = 18

unfoldable pub cluster : List ℕ → List ℕ
cluster roster = take name_size roster

-- n
unfoldable pub replicas : List ℕ → ℕ
replicas roster = number_at 2 roster name_size

-- q = n - f, with f = (n - 1) / 2 rounded down
unfoldable pub quorum : ℕ → ℕ
quorum n = n - (n - 1) / 2

-- key k belongs to replica k, from 1
unfoldable pub key_of : List ℕ → ℕ → List ℕ
key_of roster k = take key_size (drop (head_size + key_size * (k - 1)) roster)

-- a key's first two fields (RFC 8554, 5.3)
unfoldable pub tree_type : List ℕ → ℕ
tree_type key = number_at 4 key 0

unfoldable pub one_time_type : List ℕ → ℕ
one_time_type key = number_at 4 key 4

-- the levels of a listed height, or else 0
unfoldable pub levels : Option ℕ → ℕ
levels h = unwrap_or h 0

-- S: the bytes of each signature, from one-time type 4 and the one tree type
unfoldable pub signature_size : List ℕ → ℕ
signature_size roster = signature_length byte_digits (levels (height (tree_type (key_of roster 1))))

-- ---- the checks

-- the test holds of every replica from 1 to n
unfoldable pub every_replica : ℕ → (ℕ → Bool) → Bool
every_replica zero test = true
every_replica (suc n) test = cond (test (suc n)) (every_replica n test) false

-- 2: 18 bytes or more, n from 3 to 9, and the length is 18 + 56 × n
unfoldable pub sized : List ℕ → Bool
sized roster =
    let n = replicas roster in
    all (leb head_size (length roster) ∷ leb 3 n ∷ leb n 9
    ∷ eqb (length roster) (head_size + key_size * n) ∷ [])

-- 3: one-time type 4, and one tree type, from 5 to 9
unfoldable pub typed : List ℕ → ℕ → Bool
typed roster k =
    let key = key_of roster k in
    all (
    eqb (one_time_type key) 4 ∷ leb 5 (tree_type key) ∷ leb (tree_type key) 9 ∷
    eqb (tree_type key) (tree_type (key_of roster 1)) ∷ []
    )

-- 4: replica k's key is not that of a replica before it
unfoldable pub single : List ℕ → ℕ → Bool
single roster k = every_replica (k - 1) (λ j. not (same (key_of roster j) (key_of roster k)))

-- 0, or the roster's refusal
unfoldable pub roster_number : List ℕ → ℕ
roster_number roster =
    let n = replicas roster in
    refusal (
    check 2 (sized roster) ∷
    check 3 (every_replica n (typed roster)) ∷ check 4 (every_replica n (single roster)) ∷ []
    )
