-- Leaves that the test calls the same are the same, and no others; where a leaf's number is read, and that a formed signature's is one of
-- its tree's.
-- Assumes nothing.
use mathlib.Core.Path.{◌≡◌, refl}
use mathlib.Core.Bool.{true, false}
use mathlib.Core.List.{List}
use Prim.Native.Nat.{ℕ, ◌^◌, ◌≤◌, ◌<◌}
use borrow.Author.Tests.{eqb-true, eq-eqb, ne_eqb}
use lib.ListN.{take, drop}
use lib.Seq.{take-take}
use Rattle.words.specs.BigEndian.{number_at}
use Rattle.lm_digits.specs.declared.Parameters.{Parameters}
use Rattle.lm_format.specs.Formed.{formed}
use Rattle.lm_format.specs.Leaf.{Leaf, leaf_size, leaf_at, leaf_of, same_leaf, leaf_number}
use Rattle.lm_format.proofs.Forms.{formed-facts}

pub same-leaf : (p q : Leaf) → same_leaf p q ≡ true → p ≡ q
unfolding same_leaf
same-leaf p q e = eqb-true p q e

pub leaf-same : (p q : Leaf) → p ≡ q → same_leaf p q ≡ true
unfolding same_leaf
leaf-same p q e = eq-eqb p q e

pub leaves_differ : (p q : Leaf) → (p ≡ q → ⊥) → same_leaf p q ≡ false
unfolding same_leaf
leaves_differ p q h = ne_eqb p q h

-- the signature's first field, also of one that stands among other bytes
pub leaf-number : (key sig : List ℕ) → number_at 4 sig 0 ≡ leaf_number (leaf_of key sig)
unfolding leaf_of leaf_number
leaf-number key sig = refl

pub leaf_at_lem : (key s : List ℕ) (size at : ℕ) → leaf_size ≤ size → leaf_of key (take size (drop at s)) ≡ leaf_at s at
unfolding leaf_of number_at
leaf_at_lem key s size at h = rw (take-take 4 size (drop at s) h)

pub leaf-fits : (o : Parameters) (h : ℕ) (key signature : List ℕ) → formed o h key signature ≡ true → leaf_number (leaf_of key signature) < 2 ^ h
unfolding leaf_of leaf_number
leaf-fits o h key signature e = (formed-facts o h key signature e).1
