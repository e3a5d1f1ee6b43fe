-- The definition of SHA-256 on two published messages, by computation.
-- Assumes nothing.
use mathlib.Core.Path.{◌≡◌, refl}
use mathlib.Core.List.{[], ◌∷◌, flat_map}
use Rattle.words.specs.BigEndian.{number, be}
use Rattle.sha256_tables.specs.Constants.{constants, initial_words}
use Rattle.sha256.specs.Sha256.{◌⊞◌, shr, rotr, ch, maj, Σ₀, Σ₁, σ₀, σ₁, zeros, padding, parse, next_word, extend, schedule, temp₁, temp₂, round, rounds, plus, compress, blocks, hash, initial, words_of, bytes_of, sha256}

-- "abc" (FIPS 180-2, appendix B.1)
digest_of_abc : sha256 (0x61 ∷ 0x62 ∷ 0x63 ∷ [])
    ≡
    0xba ∷ 0x78 ∷ 0x16 ∷ 0xbf ∷ 0x8f ∷ 0x01 ∷ 0xcf ∷ 0xea ∷ 0x41 ∷ 0x41 ∷ 0x40 ∷ 0xde ∷ 0x5d ∷ 0xae ∷ 0x22 ∷ 0x23 ∷
    0xb0 ∷ 0x03 ∷ 0x61 ∷ 0xa3 ∷ 0x96 ∷ 0x17 ∷ 0x7a ∷ 0x9c ∷ 0xb4 ∷ 0x10 ∷ 0xff ∷ 0x61 ∷ 0xf2 ∷ 0x00 ∷ 0x15 ∷ 0xad ∷ []
unfolding number be flat_map constants initial_words ◌⊞◌ shr rotr ch maj Σ₀ Σ₁ σ₀ σ₁ zeros padding parse next_word extend schedule temp₁ temp₂ round rounds plus compress blocks hash initial words_of bytes_of sha256
digest_of_abc = refl

-- the empty message (NIST CAVP, SHA256ShortMsg, Len = 0)
digest_of_none : sha256 []
    ≡
    0xe3 ∷ 0xb0 ∷ 0xc4 ∷ 0x42 ∷ 0x98 ∷ 0xfc ∷ 0x1c ∷ 0x14 ∷ 0x9a ∷ 0xfb ∷ 0xf4 ∷ 0xc8 ∷ 0x99 ∷ 0x6f ∷ 0xb9 ∷ 0x24 ∷
    0x27 ∷ 0xae ∷ 0x41 ∷ 0xe4 ∷ 0x64 ∷ 0x9b ∷ 0x93 ∷ 0x4c ∷ 0xa4 ∷ 0x95 ∷ 0x99 ∷ 0x1b ∷ 0x78 ∷ 0x52 ∷ 0xb8 ∷ 0x55 ∷ []
unfolding number be flat_map constants initial_words ◌⊞◌ shr rotr ch maj Σ₀ Σ₁ σ₀ σ₁ zeros padding parse next_word extend schedule temp₁ temp₂ round rounds plus compress blocks hash initial words_of bytes_of sha256
digest_of_none = refl
