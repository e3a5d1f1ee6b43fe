-- The numbers of the nodes on the way to the root: a level is left exactly while the number is above 1, which is the
-- loop's test in RFC 8554, 5.4.2, algorithm 6a, step 4.
-- Assumes nothing.
use mathlib.Core.Path.{◌≡◌, sym, ap, ◌∙◌}
use Rattle.std.proofs.Common.{ap₂}
use mathlib.Core.List.{List, ◌++◌, append-nil}
use Prim.Native.Nat.{ℕ, zero, suc, ◌+◌, ◌-◌, ◌/◌, ◌^◌, ◌≤◌, ◌<◌}
use native.Mathlib.Nat.{one-mul, div-one, div-le_self}
use native.Mathlib.Omega.{arith}
use lib.ListN.{length, take, drop, length-append, drop_of_length-le}
use lib.Seq.{drop-drop, take_at, drop_at}
use lib.Pow.{high, shr-shr}
use Rattle.lm_hash.specs.Tagged.{tagged}
use Rattle.lm_tree.specs.Tree.{D-LEAF, parent, climb, root}

-- ---- the number of a node

-- h turns lead to the root, which has the number 1
pub last_node : (h q : ℕ) → q < 2 ^ h → (2 ^ h + q) / 2 ^ h ≡ 1
last_node h q inside = ap (λ (n : ℕ). (n + q) / 2 ^ h) (sym (one-mul (2 ^ h))) ∙ high 1 h inside

-- ---- one level

-- the first of the levels, then those after it
pub climb-first : (I : List ℕ) (left node : ℕ) (tmp path : List ℕ) (at : ℕ) → 0 < left
    → climb I left node tmp (drop at path)
    ≡ climb I (left - 1) (node / 2) (parent I node tmp (take 32 (drop at path))) (drop (at + 32) path)
unfolding climb
climb-first I left node tmp path at h =
    let count : left ≡ suc (left - 1) = omega arith in
    ap (λ (n : ℕ). climb I n node tmp (drop at path)) count ∙ rw (← drop-drop 32 at path)

-- by its sibling
pub climb-sibling : (I : List ℕ) (node : ℕ) (tmp sibling path : List ℕ) → length sibling ≡ 32
    → climb I (length (sibling ++ path) / 32) node tmp (sibling ++ path) ≡ climb I (length path / 32) (node / 2) (parent I node tmp sibling) path
climb-sibling I node tmp sibling path h =
    let left = length (sibling ++ path) / 32 in
    let more : 0 < left = rw length-append (omega (arith, h)) in
    let fewer : left - 1 ≡ length path / 32 = rw length-append (omega (arith, h)) in
    climb-first I left node tmp (sibling ++ path) 0 more
    ∙ ap (λ (n : ℕ). climb I n (node / 2) (parent I node tmp (take 32 (sibling ++ path))) (drop 32 (sibling ++ path))) fewer
    ∙ ap₂ (λ (s p : List ℕ). climb I (length path / 32) (node / 2) (parent I node tmp s) p) (take_at sibling path 32 h)
    (drop_at sibling path 32 h)

-- less than a sibling changes nothing
pub climb-end : (I : List ℕ) (node : ℕ) (tmp path : List ℕ) → length path < 32 → climb I (length path / 32) node tmp path ≡ tmp
unfolding climb
climb-end I node tmp path h = let none : length path / 32 ≡ 0 = omega arith in rw none

-- ---- two values in one block

pub two_halves : (a b zeros : List ℕ) → length a ≡ 32 → length zeros ≡ 32
    → take 32 (a ++ zeros) ++ (b ++ drop 32 (drop 32 (a ++ zeros))) ≡ a ++ b
two_halves a b zeros h k =
    rw (take_at a zeros 32 h, drop_at a zeros 32 h, drop_of_length-le zeros {i = 32} (omega arith), append-nil)

-- ---- the loop as it is written

-- what `while node_num > 1` ends with
pub data Loop (I : List ℕ) : ℕ → List ℕ → List ℕ → List ℕ → Type 0 where
  stop : {node : ℕ} {tmp path : List ℕ} → node ≤ 1 → Loop I node tmp path tmp
  turn : {node : ℕ} {tmp path end : List ℕ} → 1 < node
      → Loop I (node / 2) (parent I node tmp (take 32 path)) (drop 32 path) end → Loop I node tmp path end

-- from a node that h halvings take to 1, it ends with what h levels give
pub climb_loop : (I : List ℕ) (h node : ℕ) (tmp path : List ℕ) → node / 2 ^ h ≡ 1 → Loop I node tmp path (climb I h node tmp path)
unfolding climb
climb_loop I zero node tmp path e = let one : node ≤ 1 = omega (arith, div-one node) in stop one
climb_loop I (suc h) node tmp path e =
    let next : node / 2 / 2 ^ h ≡ 1 = shr-shr node 1 h ∙ ap (λ (n : ℕ). node / 2 ^ n) (omega arith) ∙ e in
    let more : 1 < node = omega (arith, div-le_self (node / 2) (2 ^ h)) in
    turn more (climb_loop I h (node / 2) (parent I node tmp (take 32 path)) (drop 32 path) next)

-- so that it ends with the definition's root
pub root_loop : (I : List ℕ) (h q : ℕ) (Kc path : List ℕ) → q < 2 ^ h
    → let node = 2 ^ h + q in Loop I node (tagged I node D-LEAF Kc) path (root I h q Kc path)
unfolding root
root_loop I h q Kc path inside = climb_loop I h (2 ^ h + q) (tagged I (2 ^ h + q) D-LEAF Kc) path (last_node h q inside)
