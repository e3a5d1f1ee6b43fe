-- SHA-256 of a list of bytes, as FIPS 180-4 defines it. Words are of 32 bits, numbers below 2^32: the
-- operations on them, the functions of 4.1.2 and the message schedule stand in `sha256_schedule`.
use mathlib.Core.List.{List, [], ◌∷◌, ◌++◌, flat_map}
use Rattle.std.specs.Prelude.{ℕ, zero, suc, ◌-◌, ◌*◌, ◌/◌, ◌%◌, length, get_or, take, drop, replicate}
use Rattle.words.specs.BigEndian.{number, be}
use Rattle.sha256.specs.declared.State.{State}
use Rattle.sha256_tables.specs.Constants.{constants, initial_words}
unfoldable pub use Rattle.sha256_schedule.specs.Words.{◌⊞◌, shr, rotr, ch, maj, Σ₀, Σ₁, σ₀, σ₁}
unfoldable pub use Rattle.sha256_schedule.specs.Words.{next_word, extend, schedule}

-- ---- 5.1.1: padding, in bytes: a one bit and seven zeros, the fewest zero bytes, 8 bytes of length in bits

-- the fewest zero bytes that bring `length` + 1 to 56 modulo 64
unfoldable pub zeros : ℕ → ℕ
zeros len = (119 - len % 64) % 64

-- what is appended to a message of `len` bytes
unfoldable pub padding : ℕ → List ℕ
padding len = 128 ∷ replicate (zeros len) 0 ++ be 8 (8 * len)

-- ---- 5.2.1: parsing: words from the front of a list of bytes

unfoldable pub parse : ℕ → List ℕ → List ℕ
parse zero bytes = []
parse (suc n) bytes = number (take 4 bytes) ∷ parse n (drop 4 bytes)

-- ---- 6.2.2, steps 2 and 3: the rounds, on the working variables a to h

-- T1 and T2 of a round with the constant k and the schedule's word w
unfoldable pub temp₁ : State → ℕ → ℕ → ℕ
temp₁ s k w = s.h ⊞ Σ₁ s.e ⊞ ch s.e s.f s.g ⊞ k ⊞ w

unfoldable pub temp₂ : State → ℕ
temp₂ s = Σ₀ s.a ⊞ maj s.a s.b s.c

unfoldable pub round : State → ℕ → ℕ → State
round s k w =
    record {
      a = temp₁ s k w ⊞ temp₂ s;
      b = s.a;
      c = s.b;
      d = s.c;
      e = s.d ⊞ temp₁ s k w;
      f = s.e;
      g = s.f;
      h = s.g;
    }

-- n rounds from round t on
unfoldable pub rounds : ℕ → ℕ → List ℕ → State → State
rounds zero t w s = s
rounds (suc n) t w s = rounds n (suc t) w (round s (get_or constants t 0) (get_or w t 0))

-- ---- 6.2.2, step 4: the next hash value

unfoldable pub plus : State → State → State
plus v s =
    record {
      a = v.a ⊞ s.a;
      b = v.b ⊞ s.b;
      c = v.c ⊞ s.c;
      d = v.d ⊞ s.d;
      e = v.e ⊞ s.e;
      f = v.f ⊞ s.f;
      g = v.g ⊞ s.g;
      h = v.h ⊞ s.h;
    }

-- the hash value after one block of sixteen words
unfoldable pub compress : State → List ℕ → State
compress s m = plus (rounds 64 0 (schedule m) s) s

-- ---- 6.2: the whole

-- the hash value after n blocks of 64 bytes
unfoldable pub blocks : ℕ → State → List ℕ → State
blocks zero s bytes = s
blocks (suc n) s bytes = blocks n (compress s (parse 16 bytes)) (drop 64 bytes)

-- the hash value after all whole blocks of a list of bytes
unfoldable pub hash : State → List ℕ → State
hash s bytes = blocks (length bytes / 64) s bytes

-- 5.3.3
unfoldable pub initial : State
initial =
    record {
      a = get_or initial_words 0 0;
      b = get_or initial_words 1 0;
      c = get_or initial_words 2 0;
      d = get_or initial_words 3 0;
      e = get_or initial_words 4 0;
      f = get_or initial_words 5 0;
      g = get_or initial_words 6 0;
      h = get_or initial_words 7 0;
    }

unfoldable pub words_of : State → List ℕ
words_of s = s.a ∷ s.b ∷ s.c ∷ s.d ∷ s.e ∷ s.f ∷ s.g ∷ s.h ∷ []

-- the 32 bytes of a hash value
unfoldable pub bytes_of : State → List ℕ
bytes_of s = flat_map (be 4) (words_of s)

unfoldable pub sha256 : List ℕ → List ℕ
sha256 message = bytes_of (hash initial (message ++ padding (length message)))
