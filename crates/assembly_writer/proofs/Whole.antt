-- What is written, part after part, is the bytes of the view that the rows stand for.
-- Assumes nothing.
use mathlib.Core.Path.{◌≡◌, sym, ap, ◌∙◌}
use mathlib.Core.List.{List, [], ◌∷◌, ◌++◌, append_assoc, flat_map}
use Prim.Native.Nat.{ℕ, zero, suc, ◌+◌, ◌*◌, ◌≤◌}
use native.Mathlib.Nat.{mul-zero, mul-suc}
use native.Mathlib.Omega.{arith}
use lib.ListN.{length, take, drop, length-drop}
use lib.Seq.{take-add, take_all, length-take-le}
use Rattle.words.specs.BigEndian.{number, be}
use Rattle.words.proofs.Bytes.{Bytes}
use Rattle.words.proofs.Laws.{be-number, bytes_take, bytes_drop}
use Rattle.log_chain.specs.Log.{with_terms}
use Rattle.log_chain.specs.Records.{record_size, records_of}
use Rattle.submission_encoding.specs.Encoding.{record_bytes, log_bytes}
use Rattle.assembly_writer.specs.Parts.{joined, trailer_part}

-- ---- part 1: the log's own bytes

log_step : (w : ℕ) (bytes rest : List ℕ) (k : ℕ) → Bytes bytes → w ≤ length bytes → rest ≡ take k (drop (w + 32) bytes)
    → (be w (number (take w bytes)) ++ take 32 (drop w bytes)) ++ rest ≡ take (w + 32 + k) bytes
log_step w bytes rest k b room e =
    let front : be w (number (take w bytes)) ≡ take w bytes = rw (length-take-le w bytes room) at (be-number (bytes_take w bytes b)) in
    (λ i. (front i ++ take 32 (drop w bytes)) ++ e i)
    ∙ ap (λ z. z ++ take k (drop (w + 32) bytes)) (sym (take-add w 32 bytes)) ∙ sym (take-add (w + 32) k bytes)

log-taken : (w : ℕ) (name : List ℕ) (count : ℕ) (bytes : List ℕ) → Bytes bytes → record_size w * count ≤ length bytes
    → log_bytes (with_terms w name) (records_of w count bytes) ≡ take (record_size w * count) bytes
unfolding log_bytes record_bytes records_of record_size flat_map
log-taken w name zero bytes b h = sym (ap (λ (k : ℕ). take k bytes) (mul-zero (w + 32)))
log-taken w name (suc count) bytes b h =
    let long : w + 32 + (w + 32) * count ≡ (w + 32) * suc count = omega (arith, mul-suc (w + 32) count) in
    log_step w bytes _ ((w + 32) * count) b (omega (arith, long, h))
    (log-taken w name count (drop (w + 32) bytes) (bytes_drop (w + 32) bytes b) (rw length-drop (omega (arith, long, h))))
    ∙ ap (λ (k : ℕ). take k bytes) long

pub log-bytes : (w : ℕ) (name : List ℕ) (count : ℕ) (log : List ℕ) → Bytes log → record_size w * count ≡ length log
    → log_bytes (with_terms w name) (records_of w count log) ≡ log
log-bytes w name count log b h =
    log-taken w name count log b (omega (arith, h)) ∙ take_all (record_size w * count) log (omega (arith, h))

-- ---- part 5

trailer_fields : (name : List ℕ) (a b c d e f g : ℕ)
    → ((((((name ++ be 4 a) ++ be 4 b) ++ be 4 c) ++ be 4 d) ++ be 4 e) ++ be 4 f) ++ be 4 g
    ≡ trailer_part name (a ∷ b ∷ c ∷ d ∷ e ∷ f ∷ g ∷ [])
unfolding trailer_part joined
trailer_fields name a b c d e f g = simp append_assoc

-- ---- all parts

-- in the definition's order, and as they are written
module _ (name one two three four : List ℕ) (H L : ℕ) where
  abbrev pub laid : List ℕ
  laid =
      let d4 = length four in
      let d3 = length three + d4 in
      let d2 = length two + d3 in
      let d1 = length one + d2 in
      one ++ two ++ three ++ four
      ++ (name ++ be 4 H ++ be 4 L ++ be 4 d1 ++ be 4 d2 ++ be 4 d3 ++ be 4 d4 ++ be 4 1)

  abbrev pub distances : List ℕ
  distances =
      H ∷ L ∷ (length one + (length two + (length three + length four))) ∷ (length two + (length three + length four))
      ∷ (length three + length four) ∷ length four ∷ 1 ∷ []

  pub laid-parts : laid ≡ (one ++ (two ++ three ++ four)) ++ trailer_part name distances
  laid-parts =
      let d4 = length four in
      let d3 = length three + d4 in
      let d2 = length two + d3 in
      let d1 = length one + d2 in
      let parts : one ++ two ++ three ++ four ≡ one ++ (two ++ three ++ four) = simp append_assoc in
      (λ i. parts i ++ trailer_fields name H L d1 d2 d3 d4 1 i)
