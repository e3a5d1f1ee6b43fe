-- Eight words, one after the other.
use native.Mathlib.Nat.{add_assoc}
use Rattle.sha256_schedule.proofs.words.Goals as goal

pub returns : goal.returns
returns g c m e =
    let e1 = c.word.ensures m e in
    let e2 = simp add_assoc at (c.word-2.ensures m e1) in
    let e3 = simp add_assoc at (c.word-3.ensures m e2) in
    let e4 = simp add_assoc at (c.word-4.ensures m e3) in
    let e5 = simp add_assoc at (c.word-5.ensures m e4) in
    let e6 = simp add_assoc at (c.word-6.ensures m e5) in
    let e7 = simp add_assoc at (c.word-7.ensures m e6) in
    simp add_assoc at (c.word-8.ensures m e7)
