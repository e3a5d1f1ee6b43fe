-- A read into the part of a buffer that starts at a place: what it gave follows the bytes before that place.
use Rattle.std.proofs.Common.{◌≡◌, ℕ, ◌+◌, ◌≤◌, List, ◌++◌, length, take, drop, sym, ap, ◌∙◌, drop_at, length-take-le, le_refl}
use Rattle.std.proofs.lemmas.Slice.{take-put_mid_below}
use borrow.Rule.Slice.PartMut.{put_mid, post_of}
use lib.Seq.{take-add, take-append-le}

-- the bytes from the place on
drop-put_mid : (at k n : ℕ) (xs ys : List ℕ) → at ≤ length xs → n ≤ length ys
    → take n (drop at (put_mid at k xs ys)) ≡ take n ys
drop-put_mid at k n xs ys within fits =
    let after = post_of at k xs in
    ap (take n) (drop_at (take at xs) (ys ++ after) at (length-take-le at xs within)) ∙ take-append-le n ys after fits

-- the bytes before the place, and then what was read
pub take-put_mid : (at k n : ℕ) (xs ys : List ℕ) → at ≤ length xs → n ≤ length ys
    → take at xs ++ take n ys ≡ take (at + n) (put_mid at k xs ys)
take-put_mid at k n xs ys within fits =
    let front : take at (put_mid at k xs ys) ≡ take at xs = take-put_mid_below _ _ _ _ _ (le_refl _) within in
    ap (λ l. l ++ take n ys) (sym front) ∙ ap (λ l. take at (put_mid at k xs ys) ++ l) (sym (drop-put_mid at k n xs ys within fits))
    ∙ sym (take-add at n (put_mid at k xs ys))
