-- What the digest service answers (document 01, "Digest and signature"): its number, and what stands in the
-- digest's 32 bytes afterwards.
use Rattle.std.specs.Prelude.{Bool, cond, List, ℕ, ltb, length}
use Rattle.sha256.specs.Sha256.{sha256}

-- the most bytes that a message may have
abbrev pub limit : ℕ
limit = 16777216

unfoldable pub too_long : List ℕ → Bool
too_long message = ltb limit (length message)

-- 16 for a long message, else 0
unfoldable pub digest_number : List ℕ → ℕ
digest_number message = cond (too_long message) 16 0

-- the digest, or what was there before where the message is too long
unfoldable pub digest_after : List ℕ → List ℕ → List ℕ
digest_after message before = cond (too_long message) before (sha256 message)
