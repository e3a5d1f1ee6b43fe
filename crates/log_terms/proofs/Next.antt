-- The pointer of one record more is the hash of its index, its bytes and the pointer before; and which are the committed records of one more.
-- Assumes nothing.
use mathlib.Core.Path.{◌≡◌, sym, ◌∙◌}
use mathlib.Core.List.{List, [], ◌++◌, append_assoc}
use Prim.Native.Nat.{ℕ, suc, ◌+◌, ◌*◌, ◌≤◌, ◌<◌}
use native.Mathlib.Omega.{arith}
use lib.ListN.{length, take, drop}
use lib.Seq.{take_all}
use Rattle.words.specs.BigEndian.{be}
use Rattle.words.proofs.Bytes.{Bytes}
use Rattle.sha256.specs.Sha256.{sha256}
use Rattle.log_chain.specs.Log.{with_terms, chain_string, pointer}
use Rattle.log_chain.proofs.Pointers.{pointer_snoc}
use Rattle.log_chain.specs.Records.{record_size, records_of}
use Rattle.log_chain.proofs.Records.{length-records}
use Rattle.log_terms.proofs.Records.{record_at, records_snoc, record_bytes_lem, take-records}

pub pointer_next : (w i : ℕ) (s : List ℕ) → Bytes s → record_size w * suc i ≤ length s
    → pointer (with_terms w []) (records_of w (suc i) s)
    ≡ sha256 (be 4 (suc i) ++ take (record_size w) (drop (record_size w * i) s) ++ pointer (with_terms w []) (records_of w i s))
unfolding chain_string
pointer_next w i s b h =
    rw (records_snoc w i s, pointer_snoc (with_terms w []) (records_of w i s) (record_at w s i), length-records w i s, append_assoc (be 4 (suc i)) _ (record_at w s i).digest, record_bytes_lem w i s b h)

-- ---- up to a commit index: this record too, or those of before

module _ (w commit i : ℕ) (s : List ℕ) where
  pub committed-more : i < commit → take commit (records_of w (i + 1) s) ≡ records_of w (i + 1) s
  committed-more h = take_all commit (records_of w (i + 1) s) (omega (arith, length-records w (i + 1) s))

  pub committed-same : commit ≤ i → take commit (records_of w (i + 1) s) ≡ take commit (records_of w i s)
  committed-same h = take-records w commit (i + 1) s (omega arith) ∙ sym (take-records w commit i s h)
