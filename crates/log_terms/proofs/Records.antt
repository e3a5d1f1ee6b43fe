-- The records of a submission one by one: the records up to the next are those up to this one and the record here, and the records after
-- this one are the record here and those after the next. A record's bytes are those of the submission.
-- Assumes nothing.
use mathlib.Core.Path.{◌≡◌, refl}
use mathlib.Core.List.{List, [], ◌∷◌, ◌++◌}
use Prim.Native.Nat.{ℕ, zero, suc, ◌+◌, ◌-◌, ◌*◌, ◌≤◌, ◌<◌}
use native.Mathlib.Nat.{mul-zero, mul-suc, mul-le-mul_left, add_comm}
use native.Mathlib.Omega.{arith}
use lib.ListN.{length, take, drop, length-drop}
use lib.Seq.{drop-drop, take-add, length-take-le}
use Rattle.words.specs.BigEndian.{number, be}
use Rattle.words.proofs.Bytes.{Bytes}
use Rattle.words.proofs.Laws.{be-number, bytes_take, bytes_drop}
use Rattle.log_chain.specs.Log.{Record, last_term}
use Rattle.log_chain.proofs.Order.{last_snoc}
use Rattle.log_chain.specs.Records.{record_size, records_of}
use Rattle.log_terms.specs.Later.{records_after}

-- ---- the record at a place

-- record i + 1 of the log
unfoldable pub record_at : ℕ → List ℕ → ℕ → Record
record_at w s i =
    let bytes = drop (record_size w * i) s in
    record { term = number (take w bytes); digest = take 32 (drop w bytes) }

-- the next record follows this one, and lies among more of them
pub record_next : (w i : ℕ) → record_size w * suc i ≡ record_size w * i + record_size w
record_next w i = mul-suc (record_size w) i

pub record_inside : (w i count : ℕ) → i < count → record_size w * i + record_size w ≤ record_size w * count
record_inside w i count h = rw (← record_next w i) (mul-le-mul_left (record_size w) h)

record_later : (w i : ℕ) (s : List ℕ) → record_at w (drop (record_size w) s) i ≡ record_at w s (suc i)
unfolding record_at
record_later w i s = rw (drop-drop, mul-suc, add_comm (record_size w * i) (record_size w))

pub records_snoc : (w i : ℕ) (s : List ℕ) → records_of w (suc i) s ≡ records_of w i s ++ (record_at w s i ∷ [])
unfolding records_of record_at
records_snoc w zero s = rw mul-zero
records_snoc w (suc i) s = rw (records_snoc w i (drop (record_size w) s), record_later w i s)

pub records-last : (w i : ℕ) (s : List ℕ) → last_term (records_of w (suc i) s) ≡ (record_at w s i).term
records-last w i s = rw (records_snoc w i s) (last_snoc (records_of w i s) (record_at w s i))

-- the log up to a record, of the whole log
pub take-records : (w i count : ℕ) (s : List ℕ) → i ≤ count → take i (records_of w count s) ≡ records_of w i s
unfolding records_of
take-records w zero count s h = refl
take-records w (suc i) zero s h = absurd (omega arith)
take-records w (suc i) (suc count) s h = rw (take-records w i count (drop (record_size w) s) (omega arith))

-- ---- those after it

pub after_first : (w count i : ℕ) (s : List ℕ) → i < count → records_after w count i s ≡ record_at w s i ∷ records_after w count (suc i) s
unfolding records_of record_at
after_first w count i s h =
    let more : count - i ≡ suc (count - suc i) = omega arith in
    rw (more, drop-drop (record_size w) (record_size w * i) s, mul-suc)

pub after_last : (w count i : ℕ) (s : List ℕ) → count ≤ i → records_after w count i s ≡ []
unfolding records_of
after_last w count i s h = let none : count - i ≡ 0 = omega arith in rw none

pub after-all : (w count : ℕ) (s : List ℕ) → records_after w count 0 s ≡ records_of w count s
after-all w count s = let whole : count - 0 ≡ count = omega arith in rw (whole, mul-zero)

-- ---- its bytes

pub record_bytes_lem : (w i : ℕ) (s : List ℕ) → Bytes s → record_size w * suc i ≤ length s
    → be w (record_at w s i).term ++ (record_at w s i).digest ≡ take (record_size w) (drop (record_size w * i) s)
unfolding record_at record_size
record_bytes_lem w i s b h =
    let bytes = drop ((w + 32) * i) s in
    let room : w ≤ length bytes = rw length-drop (omega (arith, rw mul-suc at h)) in
    let front = be-number (bytes_take w bytes (bytes_drop ((w + 32) * i) s b)) in
    rw (take-add w 32 bytes, rw (length-take-le w bytes room) at front)
