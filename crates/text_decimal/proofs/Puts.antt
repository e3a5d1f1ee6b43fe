-- Bytes put one after the other, and into a buffer of zeros.
-- Assumes nothing.
use mathlib.Core.Path.{◌≡◌, refl, sym, ap, ◌∙◌}
use mathlib.Core.List.{List, [], ◌++◌}
use Prim.Native.Nat.{ℕ, zero, suc, ◌+◌, ◌-◌, ◌≤◌}
use native.Mathlib.Omega.{arith}
use lib.ListN.{length, length-append, length-replicate, replicate, drop}
use lib.Seq.{sets, length-sets, sets-eq}
use Rattle.words.proofs.Laws.{sets-append}
use Rattle.text_decimal.specs.Put.{Put}

module _ {e e₁ e₂ xs ys : List ℕ} {at b c r s : ℕ} where
  pub put_then : Put e e₁ at b xs r → Put e₁ e₂ b c ys s → Put e e₂ at c (xs ++ ys) (r + s)
  put_then p q =
      record {
        stored =
            q.stored ∙ ap (λ (l : List ℕ). sets l b ys) p.stored ∙ ap (λ (k : ℕ). sets (sets e at xs) k ys) p.after
            ∙ sym (sets-append e at xs ys);
        after = let long = length-append xs ys in let pa = p.after in let qa = q.after in omega arith;
        few = let long = length-append xs ys in let pf = p.few in let qf = q.few in omega arith;
      }

pub put_none : (e : List ℕ) (at room : ℕ) → Put e e at at [] room
put_none e at room = record { stored = refl; after = omega arith; few = omega arith }

module _ {e e₁ xs : List ℕ} {at b r : ℕ} where
  pub put_same : {ys : List ℕ} → Put e e₁ at b xs r → xs ≡ ys → Put e e₁ at b ys r
  put_same p same = rw same at p

  pub put-length : Put e e₁ at b xs r → length e₁ ≡ length e
  put-length p = ap length p.stored ∙ length-sets e at xs

-- ---- into zeros

abbrev zeros : ℕ → List ℕ
zeros n = replicate n 0

drop-zeros : (k n : ℕ) → drop k (zeros n) ≡ zeros (n - k)
drop-zeros zero n = ap (λ (m : ℕ). zeros m) (let e : n ≡ n - 0 = omega arith in e)
drop-zeros (suc k) zero = ap (λ (m : ℕ). zeros m) (let e : 0 ≡ 0 - suc k = omega arith in e)
drop-zeros (suc k) (suc n) = drop-zeros k n ∙ ap (λ (m : ℕ). zeros m) (let e : n - k ≡ suc n - suc k = omega arith in e)

-- a whole buffer, from its start
pub put_whole : (n : ℕ) {e xs : List ℕ} {b room : ℕ} → Put (zeros n) e 0 b xs room → room ≤ n
    → (b ≡ length xs) × (b ≤ n) × (e ≡ xs ++ zeros (n - b))
put_whole n {e} {xs} {b} {room} p h =
    let after : b ≡ length xs = let a = p.after in omega arith in
    let few = p.few in
    let fits : 0 + length xs ≤ length (zeros n) = rw (length-replicate {A = ℕ} n 0) (omega arith) in (
      after,
      omega arith,
      p.stored ∙ sets-eq xs (zeros n) 0 fits ∙ ap (λ (l : List ℕ). xs ++ l) (drop-zeros (0 + length xs) n)
          ∙ ap (λ (m : ℕ). xs ++ zeros (n - m)) (let e : 0 + length xs ≡ b = omega arith in e),
    )
