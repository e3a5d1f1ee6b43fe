-- The public key candidate of a one-time signature (RFC 8554, 4.6, algorithm 4b), over the parameters of the
-- type.
use Rattle.std.specs.Prelude.{List, [], ◌++◌, ℕ, zero, suc, ◌*◌, take, drop}
use Rattle.lm_hash.specs.Tagged.{tagged}
use Rattle.lm_chain.specs.Chain.{chain}
use Rattle.lm_digits.specs.declared.Parameters.{Parameters}
use Rattle.lm_digits.specs.Digits.{coef, to_largest, with_checksum}

-- 4.3 and 4.5: the constants that set hashes of different uses apart
unfoldable pub D-PBLC : ℕ
D-PBLC = 0x8080

unfoldable pub D-MESG : ℕ
D-MESG = 0x8181

-- algorithm 4b, step 3: Q
unfoldable pub message_hash : List ℕ → ℕ → List ℕ → List ℕ → List ℕ
message_hash I q C message = tagged I q D-MESG (C ++ message)

module _ (o : Parameters) (I : List ℕ) (q : ℕ) where
  -- z[i] from y[i], where s is Q || Cksm(Q) and y is y[0] || .. || y[p-1]
  unfoldable pub end : List ℕ → List ℕ → ℕ → List ℕ
  end s y i = chain I q i (to_largest o.bits s i) (coef o.bits s i) (take 32 (drop (32 * i) y))

  -- z[0] || .. || z[i-1]
  unfoldable pub ends : List ℕ → List ℕ → ℕ → List ℕ
  ends s y zero = []
  ends s y (suc i) = ends s y i ++ end s y i

  -- algorithm 4b, step 3: Kc
  unfoldable pub candidate : List ℕ → List ℕ → List ℕ → List ℕ
  candidate C y message =
      tagged I q D-PBLC (ends (with_checksum o (message_hash I q C message)) y o.chains)
