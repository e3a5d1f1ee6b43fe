-- The entries of a buffer: one more is put after the others, and a padded message is told from every other one.
-- Assumes nothing.
use mathlib.Core.Path.{◌≡◌, refl, sym, ap, ◌∙◌}
use mathlib.Core.Bool.{Bool, true, false, not, cond, ◌||◌}
use mathlib.Core.List.{List, [], ◌∷◌, ◌++◌, append_assoc}
use Prim.Native.Nat.{ℕ, zero, suc, ◌+◌, ◌-◌, ◌*◌, ◌≤◌, ◌<◌}
use native.Mathlib.Nat.{mul-suc, add_comm}
use native.Mathlib.Numerals.{add-one}
use native.Mathlib.Omega.{arith}
use lib.ListN.{length, take, drop, get_or, replicate, length-append, length-drop, length-replicate, replicate-append-replicate}
use Rattle.std.specs.List.{list_any, range_with_len}
use lib.Dec.{eqb, lit≤}
use lib.Pointwise.{pointwise}
use lib.Seq.{take_at, drop_at, drop-drop, take-take, take-add, sets, length-take-le}
use Rattle.words.specs.BigEndian.{be, number, number_at, same}
use Rattle.words.specs.Over.{over}
use Rattle.words.proofs.Laws.{length-be, number-be, take-sets, sets-append, drop-take}
use Rattle.words.proofs.Same.{same_true, true_same, same_test, pointwise_same}
use Rattle.lm_format.specs.Leaf.{leaf_number}
use Rattle.lm_format.specs.Uses.{Use, use_of, reused}
use Rattle.submission.specs.Sizes.{statement_most}
use Rattle.lm_format.proofs.Leaf.{leaf-same, leaves_differ}
use Rattle.submission_leaves.specs.Entries.{entry_size, padded, padded_use, entry_use, entry_uses, entry_use_at, reused_in}

-- ---- one more entry

-- the first elements of a longer beginning, and those after them
module _ (E j k : ℕ) (b c vs : List ℕ) (room : E + j ≤ length b) (e : take (E + k) c ≡ take (E + j) b ++ vs) where
  split : take (E + k) c ≡ take E b ++ (take j (drop E b) ++ vs)
  split = e ∙ ap (λ z. z ++ vs) (take-add E j b) ∙ append_assoc (take E b) (take j (drop E b)) vs

  long : length (take E b) ≡ E
  long = length-take-le E b (omega arith)

  first_part : take E c ≡ take E b
  first_part = sym (take-take E (E + k) c (omega arith)) ∙ ap (take E) split ∙ take_at (take E b) (take j (drop E b) ++ vs) E long

  later-part : take k (drop E c) ≡ take j (drop E b) ++ vs
  later-part = sym (drop-take E k c) ∙ ap (drop E) split ∙ drop_at (take E b) (take j (drop E b) ++ vs) E long

entry_more : (n : ℕ) (b c vs : List ℕ) → entry_size * n ≤ length b → take (entry_size * n + entry_size) c ≡ take (entry_size * n) b ++ vs
    → entry_uses (suc n) c ≡ entry_uses n b ++ (entry_use vs ∷ [])
unfolding entry_uses
entry_more zero b c vs room e = ap (λ z. entry_use z ∷ []) e
entry_more (suc n) b c vs room e =
    let size : entry_size * suc n ≡ entry_size + entry_size * n = rw mul-suc (add_comm (entry_size * n) entry_size) in
    let whole : entry_size * suc n + entry_size ≡ entry_size + (entry_size * n + entry_size) = omega arith in
    let begun : take (entry_size + (entry_size * n + entry_size)) c ≡ take (entry_size + entry_size * n) b ++ vs = rw (whole, size) at e in
    let inside : entry_size + entry_size * n ≤ length b = omega arith in
    let rest = later-part entry_size (entry_size * n) (entry_size * n + entry_size) b c vs inside begun in
    λ i. entry_use (first_part entry_size (entry_size * n) (entry_size * n + entry_size) b c vs inside begun i) ∷ entry_more n (drop entry_size b) (drop entry_size c) vs (rw length-drop (omega arith)) rest i

-- the bytes of an entry: the leaf's number, and the padded message
entry_read : (leaf : ℕ) (p : List ℕ) → leaf < 4294967296 → entry_use (be 4 leaf ++ p) ≡ use_of leaf p
unfolding entry_use number_at
entry_read leaf p h =
    let q : number (take 4 (be 4 leaf ++ p)) ≡ leaf = ap number (take_at (be 4 leaf) p 4 (length-be 4 leaf)) ∙ number-be 4 leaf h in
    λ i. use_of (q i) (drop_at (be 4 leaf) p 4 (length-be 4 leaf) i)

-- an entry put after n others, by three stores
pub entry_added : (n leaf size : ℕ) (b c statement : List ℕ) → leaf < 4294967296 → length statement ≡ statement_most
    → entry_size * (n + 1) ≤ length b
    → c ≡ sets (sets (sets b (entry_size * n) (be 4 leaf)) (entry_size * n + 4) (size ∷ [])) (entry_size * n + 4 + 1) statement
    → entry_uses (n + 1) c ≡ entry_uses n b ++ (use_of leaf (size ∷ statement) ∷ [])
entry_added n leaf size b c statement small long room stored =
    let at = entry_size * n in
    let entry = be 4 leaf ++ (size ∷ statement) in
    let four : length (be 4 leaf) ≡ 4 = length-be 4 leaf in
    let five : length (be 4 leaf ++ (size ∷ [])) ≡ 5 = length-append (be 4 leaf) (size ∷ []) ∙ ap (λ (k : ℕ). k + 1) four in
    let whole : length entry ≡ entry_size = length-append (be 4 leaf) (size ∷ statement) ∙ omega (arith, four, long) in
    let room' : at + length entry ≤ length b = omega (arith, whole) in
    let first : sets (sets b at (be 4 leaf)) (at + 4) (size ∷ []) ≡ sets b at (be 4 leaf ++ (size ∷ [])) =
    ap (λ (k : ℕ). sets (sets b at (be 4 leaf)) (at + k) (size ∷ [])) (sym four) ∙ sym (sets-append b at (be 4 leaf) (size ∷ [])) in
    let places : at + 4 + 1 ≡ at + length (be 4 leaf ++ (size ∷ [])) = omega (arith, five) in
    let both : sets (sets b at (be 4 leaf ++ (size ∷ []))) (at + 4 + 1) statement ≡ sets b at ((be 4 leaf ++ (size ∷ [])) ++ statement) =
    ap (λ (k : ℕ). sets (sets b at (be 4 leaf ++ (size ∷ []))) k statement) places ∙ sym (sets-append b at (be 4 leaf ++ (size ∷ [])) statement) in
    let all : c ≡ sets b at entry =
    stored ∙ ap (λ z. sets z (at + 4 + 1) statement) first ∙ both ∙ ap (sets b at) (append_assoc (be 4 leaf) (size ∷ []) statement) in
    let taken : take (at + entry_size) c ≡ take at b ++ entry =
    ap (λ z. take (at + entry_size) z) all ∙ ap (λ (k : ℕ). take (at + k) (sets b at entry)) (sym whole) ∙ take-sets b entry at room' in
    ap (λ (k : ℕ). entry_uses k c) (add-one n) ∙ entry_more n b c entry (omega arith) taken ∙ ap (λ z. entry_uses n b ++ (z ∷ [])) (entry_read leaf (size ∷ statement) small)

-- ---- a padded message

zeros : (n m : ℕ) → m ≤ n → drop {A = ℕ} m (replicate n 0) ≡ replicate (n - m) 0
zeros n m h =
    let sum : m + (n - m) ≡ n = omega arith in
    let zero-byte : ℕ = 0 in
    ap (λ (k : ℕ). drop m (replicate k zero-byte)) (sym sum) ∙ ap (drop m) (sym (replicate-append-replicate m (n - m) zero-byte))
    ∙ drop_at (replicate m 0) (replicate (n - m) 0) m (length-replicate m 0)

-- as a writer leaves it in a buffer of zeros
pub padded_put : (m out : List ℕ) (size : ℕ) → length m ≤ statement_most → size ≡ length m → out ≡ over m (replicate statement_most 0)
    → size ∷ out ≡ padded m
unfolding padded over
padded_put m out size short e put = λ i. e i ∷ (put ∙ ap (λ z. m ++ z) (zeros statement_most (length m) short)) i

-- the length tells what is the message
padded-injective : (m n : List ℕ) → padded m ≡ padded n → m ≡ n
unfolding padded
padded-injective m n e =
    let size : length m ≡ length n = ap (λ (l : List ℕ). get_or l 0 0) e in
    let rest : m ++ replicate (statement_most - length m) 0 ≡ n ++ replicate (statement_most - length n) 0 = ap (drop 1) e in
    sym (take_at m _ (length m) refl) ∙ ap (take (length m)) rest ∙ take_at n _ (length m) (sym size)

padded-same : (m n : List ℕ) → same (padded m) (padded n) ≡ same m n
padded-same m n =
    same_test (same (padded m) (padded n)) m n
    ((λ e. padded-injective m n (same_true (padded m) (padded n) e)), (λ (e : m ≡ n). rw e (true_same (padded n))))

pub reused-padded : (x y : Use) → reused (padded_use x) (padded_use y) ≡ reused x y
unfolding reused padded_use use_of
reused-padded x y = rw padded-same

-- ---- two entries

module _ (b : List ℕ) where
  -- the leaf and the padded message of the entry at a place
  entry-leaf : (at : ℕ) → number_at 4 (take entry_size (drop at b)) 0 ≡ number_at 4 b at
  unfolding number_at
  entry-leaf at = rw (take-take 4 entry_size (drop at b) (lit≤ tt))

  entry-message : (at : ℕ) → drop 4 (take entry_size (drop at b)) ≡ take (at + entry_size - (at + 4)) (drop (at + 4) b)
  entry-message at =
      let size : at + entry_size - (at + 4) ≡ 72 = omega arith in
      drop-take 4 72 (drop at b) ∙ rw (size, drop-drop)

  module _ (one other : ℕ) where
    pub other-leaf : (number_at 4 b one ≡ number_at 4 b other → ⊥) → false ≡ reused (entry_use (take entry_size (drop one b))) (entry_use (take entry_size (drop other b)))
    unfolding reused entry_use use_of
    other-leaf h = rw (entry-leaf one, entry-leaf other, leaves_differ (number_at 4 b one) (number_at 4 b other) h)

    pub by-messages : number_at 4 b one ≡ number_at 4 b other
        → not (pointwise eqb (take (one + entry_size - (one + 4)) (drop (one + 4) b)) (take (other + entry_size - (other + 4)) (drop (other + 4) b)))
        ≡ reused (entry_use (take entry_size (drop one b))) (entry_use (take entry_size (drop other b)))
    unfolding reused entry_use use_of
    by-messages h = rw (entry-leaf one, entry-leaf other, leaf-same _ _ h, entry-message one, entry-message other, pointwise_same)

-- ---- the number of an entry's leaf

pub entry-number : (b : List ℕ) (i : ℕ) → number_at 4 b (entry_size * i) ≡ leaf_number (entry_use_at i b).leaf
unfolding leaf_number entry_use_at entry_use use_of
entry-number b i = sym (entry-leaf b (entry_size * i))

-- ---- the entries that are left

pub left_first : (b : List ℕ) (n j : ℕ) → j < n → entry_uses (n - j) (drop (entry_size * j) b) ≡ entry_use_at j b ∷ entry_uses (n - (j + 1)) (drop (entry_size * (j + 1)) b)
unfolding entry_uses entry_use_at
left_first b n j h =
    let count : n - j ≡ suc (n - (j + 1)) = omega arith in
    let place : entry_size * j + entry_size ≡ entry_size * (j + 1) = omega arith in
    rw count (ap (λ z. entry_use (take entry_size (drop (entry_size * j) b)) ∷ entry_uses (n - (j + 1)) z) (drop-drop entry_size (entry_size * j) b ∙ ap (λ (k : ℕ). drop k b) place))

-- ---- another entry with the same leaf, looked for from one entry on

either : (a b c : Bool) → b ≡ c → (a || b) ≡ cond a true c
either true b c e = refl
either false b c e = e

pub any_entry : (b : List ℕ) (x : Use) (n j : ℕ)
    → list_any (λ k. reused x (entry_use_at k b)) (range_with_len j n) ≡ reused_in x (entry_uses n (drop (entry_size * j) b))
unfolding entry_uses entry_use_at reused_in
any_entry b x zero j = refl
any_entry b x (suc n) j =
    let place : entry_size * j + entry_size ≡ entry_size * (j + 1) = omega arith in
    rw (drop-drop, place) (either _ _ _ (any_entry b x n (j + 1)))
