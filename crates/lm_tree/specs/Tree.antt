-- The tree of an LMS key, over its height (RFC 8554, section 5): the root that a leaf and its path lead to
-- (5.4.2, algorithm 6a, step 4). m is 32.
use Rattle.std.specs.Prelude.{cond, List, ◌++◌, ℕ, zero, suc, ◌+◌, ◌/◌, ◌%◌, ◌^◌, eqb, take, drop}
use Rattle.lm_hash.specs.Tagged.{tagged}

-- 5.3: the constants that set the tree's hashes apart
unfoldable pub D-LEAF : ℕ
D-LEAF = 0x8282

unfoldable pub D-INTR : ℕ
D-INTR = 0x8383

-- the node above: an odd node is its parent's right child
unfoldable pub parent : List ℕ → ℕ → List ℕ → List ℕ → List ℕ
parent I node tmp sibling =
    tagged I (node / 2) D-INTR (cond (eqb (node % 2) 1) (sibling ++ tmp) (tmp ++ sibling))

-- from a node that many levels below the root, with the siblings on the way: the loop of step 4. A node h
-- levels below the root has a number from 2^h to 2^(h+1) - 1, so that the loop's test, node_num > 1, says
-- that a level is left
unfoldable pub climb : List ℕ → ℕ → ℕ → List ℕ → List ℕ → List ℕ
climb I zero node tmp path = tmp
climb I (suc levels) node tmp path =
    climb I levels (node / 2) (parent I node tmp (take 32 path)) (drop 32 path)

-- Tc from the leaf's number, its candidate key and the path
unfoldable pub root : List ℕ → ℕ → ℕ → List ℕ → List ℕ → List ℕ
root I h q Kc path = let node = 2 ^ h + q in climb I h node (tagged I node D-LEAF Kc) path
