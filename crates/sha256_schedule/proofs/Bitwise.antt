-- Functions of binary digits are equal where they agree on digits; rotations of words in nested form, and as xor of two shifts.
-- Assumes nothing.
use Rattle.std.proofs.Common.{◌≡◌, ℕ, zero, suc, ◌+◌, ◌-◌, ◌*◌, ◌/◌, ◌%◌, ◌^◌, ◌<◌, sym, refl, ap, ◌∙◌, ap₂, lt_of_le_of_lt, add-zero, add_assoc, mod-lt, mul_assoc, mul_comm, div-lt_iff_lt-mul, add-mul, pow-suc, div-le_self, mul-div_cancel, arith, lit<, pow_pos, pow-add}
use native.Mathlib.Nat.{mul-mod_left, div-div-eq-div-mul}
use lib.Arith.{lt-one, mod-mul}
use lib.Pow.{split, high, low}
use lib.Bits.{bit_and, bit_or, bit_xor, and_shr, xor_shr, and_mod, xor_mod, xor_comm, or_lt, xor_lt, or_shifted_r, xor_shifted, xor_block}
use Rattle.sha256_schedule.specs.Words.{shr, rotr, ch, maj}

-- ---- digit by digit

-- F has no carries: its halves and its lowest digit are those of the arguments
Digitwise : (ℕ → ℕ → ℕ → ℕ → ℕ) → Type 0
Digitwise F =
    (x n y z : ℕ) → (F x n y z / 2 ≡ F (x / 2) (n / 2) (y / 2) (z / 2)) × (F x n y z % 2 ≡ F (x % 2) (n % 2) (y % 2) (z % 2))

and_half : (a b : ℕ) → bit_and a b / 2 ≡ bit_and (a / 2) (b / 2)
and_half a b = and_shr a b 1

and_odd : (a b : ℕ) → bit_and a b % 2 ≡ bit_and (a % 2) (b % 2)
and_odd a b = and_mod a b 1

xor_half : (a b : ℕ) → bit_xor a b / 2 ≡ bit_xor (a / 2) (b / 2)
xor_half a b = xor_shr a b 1

xor_odd : (a b : ℕ) → bit_xor a b % 2 ≡ bit_xor (a % 2) (b % 2)
xor_odd a b = xor_mod a b 1

-- a claim on a digit
digit : (P : ℕ → Type 0) → P 0 → P 1 → (n : ℕ) → n < 2 → P n
digit P p q zero h = p
digit P p q (suc zero) h = q
digit P p q (suc (suc n)) h = absurd (omega arith)

-- the second argument is the first's complement
agree : (F G : ℕ → ℕ → ℕ → ℕ → ℕ) → Digitwise F → Digitwise G
    → F 0 0 0 0 ≡ G 0 0 0 0
    → ((a b c : ℕ) → a < 2 → b < 2 → c < 2 → F a (1 - a) b c ≡ G a (1 - a) b c)
    → (k x y z : ℕ) → x < 2 ^ k → y < 2 ^ k → z < 2 ^ k
    → F x (2 ^ k - 1 - x) y z ≡ G x (2 ^ k - 1 - x) y z
unfolding Digitwise
agree F G f g none one zero x y z hx hy hz = rw (lt-one hx, lt-one hy, lt-one hz) none
agree F G f g none one (suc k) x y z hx hy hz =
    let p = pow-suc 2 k in
    let half : (2 ^ suc k - 1 - x) / 2 ≡ 2 ^ k - 1 - x / 2 = omega arith in
    let odd : (2 ^ suc k - 1 - x) % 2 ≡ 1 - x % 2 = omega arith in
    let n = 2 ^ suc k - 1 - x in
    let high : F x n y z / 2 ≡ G x n y z / 2 =
    rw ((f x n y z).0, (g x n y z).0, half) (agree F G f g none one k (x / 2) (y / 2) (z / 2) (omega arith) (omega arith) (omega arith)) in
    let low : F x n y z % 2 ≡ G x n y z % 2 =
    rw ((f x n y z).1, (g x n y z).1, odd)
    (one (x % 2) (y % 2) (z % 2) (mod-lt x (lit< tt)) (mod-lt y (lit< tt)) (mod-lt z (lit< tt))) in
    omega arith

-- three digits
digits : (P : ℕ → ℕ → ℕ → Type 0) → P 0 0 0 → P 0 0 1 → P 0 1 0 → P 0 1 1 → P 1 0 0 → P 1 0 1 → P 1 1 0 → P 1 1 1
    → (a b c : ℕ) → a < 2 → b < 2 → c < 2 → P a b c
digits P p q r s t u v w a b c ha hb hc =
    digit (λ a. P a b c)
    (digit (λ b. P 0 b c) (digit (P 0 0) p q c hc) (digit (P 0 1) r s c hc) b hb)
    (digit (λ b. P 1 b c) (digit (P 1 0) t u c hc) (digit (P 1 1) v w c hc) b hb)
    a
    ha

pub ch-short : (x y z : ℕ) → x < 2 ^ 32 → y < 2 ^ 32 → z < 2 ^ 32 → bit_xor z (bit_and x (bit_xor y z)) ≡ ch x y z
unfolding ch Digitwise
ch-short x y z hx hy hz =
    agree (λ x n y z. bit_xor z (bit_and x (bit_xor y z))) (λ x n y z. bit_xor (bit_and x y) (bit_and n z))
    (λ x n y z. (simp (xor_half, and_half), simp (xor_odd, and_odd)))
    (λ x n y z. (simp (xor_half, and_half), simp (xor_odd, and_odd)))
    refl
    (digits (λ a b c. bit_xor c (bit_and a (bit_xor b c)) ≡ bit_xor (bit_and a b) (bit_and (1 - a) c)) refl refl refl refl refl refl refl refl)
    32
    x
    y
    z
    hx
    hy
    hz

pub maj-short : (x y z : ℕ) → x < 2 ^ 32 → y < 2 ^ 32 → z < 2 ^ 32 → bit_xor y (bit_and (bit_xor x y) (bit_xor y z)) ≡ maj x y z
unfolding maj Digitwise
maj-short x y z hx hy hz =
    agree (λ x n y z. bit_xor y (bit_and (bit_xor x y) (bit_xor y z))) (λ x n y z. bit_xor (bit_xor (bit_and x y) (bit_and x z)) (bit_and y z))
    (λ x n y z. (simp (xor_half, and_half), simp (xor_odd, and_odd)))
    (λ x n y z. (simp (xor_half, and_half), simp (xor_odd, and_odd)))
    refl
    (digits
    (λ a b c. bit_xor b (bit_and (bit_xor a b) (bit_xor b c)) ≡ bit_xor (bit_xor (bit_and a b) (bit_and a c)) (bit_and b c))
    refl
    refl
    refl
    refl
    refl
    refl
    refl
    refl)
    32
    x
    y
    z
    hx
    hy
    hz

pub xor_assoc : (x y z : ℕ) → x < 2 ^ 32 → y < 2 ^ 32 → z < 2 ^ 32 → bit_xor (bit_xor x y) z ≡ bit_xor x (bit_xor y z)
unfolding Digitwise
xor_assoc x y z hx hy hz =
    agree (λ x n y z. bit_xor (bit_xor x y) z) (λ x n y z. bit_xor x (bit_xor y z))
    (λ x n y z. (simp xor_half, simp xor_odd))
    (λ x n y z. (simp xor_half, simp xor_odd))
    refl
    (digits (λ a b c. bit_xor (bit_xor a b) c ≡ bit_xor a (bit_xor b c)) refl refl refl refl refl refl refl refl)
    32
    x
    y
    z
    hx
    hy
    hz

-- ---- rotations

rotr-lt : (n x : ℕ) → x < 2 ^ 32 → rotr n x < 2 ^ 32
unfolding rotr shr
rotr-lt n x h = or_lt 32 (x / 2 ^ n) (x * 2 ^ (32 - n) % 2 ^ 32) (lt_of_le_of_lt (div-le_self x (2 ^ n)) h) (mod-lt (x * 2 ^ (32 - n)) (lit< tt))

-- a shift to the left by k keeps the n low digits
shl_low : (n k x : ℕ) → n + k ≡ 32 → x * 2 ^ k % 2 ^ 32 ≡ x % 2 ^ n * 2 ^ k
shl_low n k x h =
    let width : 2 ^ 32 ≡ 2 ^ n * 2 ^ k = ap (λ (i : ℕ). 2 ^ i) (sym h) ∙ pow-add 2 n k in
    ap (λ (w : ℕ). x * 2 ^ k % w) width
    ∙ mod-mul (x * 2 ^ k) (pow_pos n) (pow_pos k)
    ∙ ap₂ (λ (u v : ℕ). u % 2 ^ n * 2 ^ k + v) (mul-div_cancel x (pow_pos k)) (mul-mod_left x (2 ^ k))
    ∙ add-zero (x % 2 ^ n * 2 ^ k)

-- and one to the right by n the k high ones
shr_lt : (n k x : ℕ) → n + k ≡ 32 → x < 2 ^ 32 → x / 2 ^ n < 2 ^ k
shr_lt n k x h hx =
    let width : 2 ^ 32 ≡ 2 ^ k * 2 ^ n = ap (λ (i : ℕ). 2 ^ i) (sym h) ∙ pow-add 2 n k ∙ mul_comm (2 ^ n) (2 ^ k) in
    (div-lt_iff_lt-mul (pow_pos n)).1 (rw (← width) hx)

-- the n low digits go above the k high ones
rotr-sum : (n k x : ℕ) → n + k ≡ 32 → x < 2 ^ 32 → rotr n x ≡ x % 2 ^ n * 2 ^ k + x / 2 ^ n
unfolding rotr shr
rotr-sum n k x h hx =
    let rest : 32 - n ≡ k = omega arith in
    ap (λ (i : ℕ). bit_or (x / 2 ^ n) (x * 2 ^ i % 2 ^ 32)) rest
    ∙ ap (bit_or (x / 2 ^ n)) (shl_low n k x h)
    ∙ or_shifted_r (x % 2 ^ n) k (x / 2 ^ n) (shr_lt n k x h hx)

-- the two shifts of a rotation have no digit in common
pub rotr_shifts : (n k x : ℕ) → n + k ≡ 32 → x < 2 ^ 32 → bit_xor (x / 2 ^ n) (x * 2 ^ k % 2 ^ 32) ≡ rotr n x
rotr_shifts n k x h hx =
    xor_comm (x / 2 ^ n) (x * 2 ^ k % 2 ^ 32)
    ∙ ap (λ (v : ℕ). bit_xor v (x / 2 ^ n)) (shl_low n k x h)
    ∙ xor_shifted (x % 2 ^ n) k (x / 2 ^ n) (shr_lt n k x h hx)
    ∙ sym (rotr-sum n k x h hx)

rotr-xor : (n k x y : ℕ) → n + k ≡ 32 → x < 2 ^ 32 → y < 2 ^ 32 → rotr n (bit_xor x y) ≡ bit_xor (rotr n x) (rotr n y)
rotr-xor n k x y h hx hy =
    rotr-sum n k (bit_xor x y) h (xor_lt 32 x y hx hy)
    ∙ ap₂ (λ (u v : ℕ). u * 2 ^ k + v) (xor_mod x y n) (xor_shr x y n)
    ∙ sym (xor_block k (x % 2 ^ n) (y % 2 ^ n) (x / 2 ^ n) (y / 2 ^ n) (shr_lt n k x h hx) (shr_lt n k y h hy))
    ∙ sym (ap₂ bit_xor (rotr-sum n k x h hx) (rotr-sum n k y h hy))

rotr-rotr : (a b c x : ℕ) → a + b + c ≡ 32 → x < 2 ^ 32 → rotr a (rotr b x) ≡ rotr (a + b) x
rotr-rotr a b c x h hx =
    let l = x % 2 ^ b in
    let q = x / 2 ^ b in
    let m = q % 2 ^ a in
    let g = q / 2 ^ a in
    let small : m < 2 ^ a = mod-lt q (pow_pos a) in
    let inner : rotr b x ≡ (l * 2 ^ c + g) * 2 ^ a + m =
    rotr-sum b (c + a) x (omega arith) hx ∙ ap (λ (v : ℕ). l * 2 ^ (c + a) + v) (sym (split q a))
    ∙ simp (pow-add, add-mul, mul_assoc, add_assoc) in
    let first : rotr a (rotr b x) ≡ m * 2 ^ (b + c) + (l * 2 ^ c + g) =
    rotr-sum a (b + c) (rotr b x) (omega arith) (rotr-lt b x hx)
    ∙ ap (λ (y : ℕ). y % 2 ^ a * 2 ^ (b + c) + y / 2 ^ a) inner
    ∙ ap₂ (λ (u v : ℕ). u * 2 ^ (b + c) + v) (low (l * 2 ^ c + g) a small) (high (l * 2 ^ c + g) a small) in
    let lows : x % 2 ^ (a + b) ≡ m * 2 ^ b + l = ap (λ (w : ℕ). x % w) (pow-add 2 a b) ∙ mod-mul x (pow_pos a) (pow_pos b) in
    let highs : x / 2 ^ (a + b) ≡ g =
    ap (λ (w : ℕ). x / w) (pow-add 2 a b ∙ mul_comm (2 ^ a) (2 ^ b)) ∙ sym (div-div-eq-div-mul x (2 ^ b) (2 ^ a)) in
    let second : rotr (a + b) x ≡ (m * 2 ^ b + l) * 2 ^ c + g =
    rotr-sum (a + b) c x h hx ∙ ap₂ (λ (u v : ℕ). u * 2 ^ c + v) lows highs in
    first ∙ (simp (pow-add, add-mul, mul_assoc, add_assoc)) ∙ sym second

-- two rotations as one of a word and its rotation
pub rotr_nested : (a b c x : ℕ) → a + b + c ≡ 32 → x < 2 ^ 32
    → rotr a (bit_xor x (rotr b x)) ≡ bit_xor (rotr a x) (rotr (a + b) x)
rotr_nested a b c x h hx =
    rotr-xor a (b + c) x (rotr b x) (omega arith) hx (rotr-lt b x hx) ∙ ap (bit_xor (rotr a x)) (rotr-rotr a b c x h hx)
