-- The first difference of two logs read from bytes, record by record: where the bytes of two records differ it is here, where they are the same it
-- is that of the records after them, and where either log has no more there is none.
-- Assumes nothing.
use mathlib.Core.Path.{◌≡◌, refl, sym, ap, ◌∙◌}
use mathlib.Core.Bool.{true, false}
use mathlib.Core.List.{List, ◌++◌}
use mathlib.Core.Logic.{⊎_elim}
use Prim.Native.Nat.{ℕ, suc, ◌+◌, ◌*◌, ◌≤◌, ◌<◌, min}
use native.Mathlib.Nat.{mul-suc}
use native.Mathlib.Omega.{arith}
use borrow.Author.Tests.{eq-eqb, eqb-true, leb-true, leb-false}
use lib.Dec.{eqb, leb}
use lib.ListN.{length, take, drop, length-drop}
use lib.Seq.{take-take, take-add, drop_at, length-take-le}
use Rattle.words.specs.BigEndian.{same, be, number}
use Rattle.words.proofs.Bytes.{Bytes}
use Rattle.words.proofs.Same.{same_true, true_same, same_test}
use Rattle.refusal.proofs.Laws.{cond-true, look}
use Rattle.log_chain.specs.Log.{Record}
use Rattle.log_chain.specs.Difference.{same_record}
use Rattle.log_chain.specs.Records.{record_size, records_of}
use Rattle.log_chain.specs.Difference.{differ_at}
use Rattle.log_terms.specs.Later.{records_after}
use Rattle.log_terms.proofs.Records.{record_at, record_bytes_lem, after_first, after_last, after-all}
use Rattle.log_difference.proofs.Differ.{differ-nil, differ_next, differ_here}

-- ---- two records

-- the bytes of record i + 1
abbrev pub bytes_at : ℕ → List ℕ → ℕ → List ℕ
bytes_at w s i = take (record_size w) (drop (record_size w * i) s)

-- a record from its bytes
record_of : (w i : ℕ) (s : List ℕ) → record_size w * suc i ≤ length s
    → record_at w s i ≡ record { term = number (take w (bytes_at w s i)); digest = drop w (bytes_at w s i) }
unfolding record_at record_size
record_of w i s fits =
    let x = drop ((w + 32) * i) s in
    let room : w ≤ length x = rw length-drop (omega (arith, rw mul-suc at fits)) in
    let front : take w (take (w + 32) x) ≡ take w x = take-take w (w + 32) x (omega arith) in
    let back : drop w (take (w + 32) x) ≡ take 32 (drop w x) =
    ap (drop w) (take-add w 32 x) ∙ drop_at (take w x) (take 32 (drop w x)) w (length-take-le w x room) in
    rw (front, back)

same_record_lem : (r s : Record) → r ≡ s → same_record r s ≡ true
unfolding same_record
same_record_lem r s e = rw (ap (λ z. z.term) e, ap (λ z. z.digest) e, eq-eqb s.term s.term refl) (true_same s.digest)

record_same : (r s : Record) → same_record r s ≡ true → (r.term ≡ s.term) × (r.digest ≡ s.digest)
unfolding same_record
record_same r s e =
    let both = cond-true (eqb r.term s.term) (same r.digest s.digest) e in
    (eqb-true _ _ both.0, same_true _ _ both.1)

-- two are the same where their bytes are
pub record_test : (w i : ℕ) (s t : List ℕ) → Bytes s → Bytes t → record_size w * suc i ≤ length s → record_size w * suc i ≤ length t
    → same_record (record_at w s i) (record_at w t i) ≡ same (bytes_at w s i) (bytes_at w t i)
record_test w i s t bs bt hs ht =
    let forth : same_record (record_at w s i) (record_at w t i) ≡ true → bytes_at w s i ≡ bytes_at w t i =
    λ e. let both = record_same (record_at w s i) (record_at w t i) e in
    sym (record_bytes_lem w i s bs hs) ∙ ap (λ z. be w z ++ (record_at w s i).digest) both.0 ∙ ap (λ z. be w (record_at w t i).term ++ z) both.1
    ∙ record_bytes_lem w i t bt ht in
    let back : bytes_at w s i ≡ bytes_at w t i → same_record (record_at w s i) (record_at w t i) ≡ true =
    λ e. same_record_lem (record_at w s i) (record_at w t i)
    (record_of w i s hs ∙ ap (λ z. record { term = number (take w z); digest = drop w z }) e ∙ sym (record_of w i t ht)) in
    same_test _ _ _ (forth, back)

-- ---- the records that are left

module _ (w m n : ℕ) (s t : List ℕ) where
  -- after the first i of two logs of m and n records
  abbrev pub differ_from : ℕ → ℕ
  differ_from i = differ_at (suc i) (records_after w m i s) (records_after w n i t)

  pub from_first : differ_from 0 ≡ differ_at 1 (records_of w m s) (records_of w n t)
  from_first = rw (after-all w m s, after-all w n t)

  -- no more of the first, or of the second
  pub from-end : (i : ℕ) → min m n ≤ i → differ_from i ≡ 0
  unfolding differ_at
  from-end i h =
      ⊎_elim
      (λ (e : leb m i ≡ true). rw (after_last w m i s (leb-true m i e)))
      (λ (e : leb m i ≡ false).
      rw (after_last w n i t (omega (arith, leb-false m i e))) (differ-nil (suc i) (records_after w m i s)))
      (look (leb m i))

  module _ (i : ℕ) (p : i < m) (q : i < n) where
    pub from_next : same_record (record_at w s i) (record_at w t i) ≡ true → differ_from i ≡ differ_from (suc i)
    from_next e =
        rw (after_first w m i s p, after_first w n i t q)
        (differ_next (suc i) (record_at w s i) (record_at w t i) (records_after w m (suc i) s) (records_after w n (suc i) t) e)

    pub from-here : same_record (record_at w s i) (record_at w t i) ≡ false → differ_from i ≡ suc i
    from-here e =
        rw (after_first w m i s p, after_first w n i t q)
        (differ_here (suc i) (record_at w s i) (record_at w t i) (records_after w m (suc i) s) (records_after w n (suc i) t) e)
