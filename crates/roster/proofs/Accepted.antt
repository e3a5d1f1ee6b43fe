-- What an accepted roster has: 3 to 9 replicas, each with its key inside, and a listed height, which gives S.
-- Assumes nothing.
use mathlib.Core.Path.{◌≡◌, refl, ◌∙◌}
use mathlib.Core.Bool.{Bool, true, false, cond}
use mathlib.Core.List.{List}
use Prim.Native.Nat.{ℕ, zero, suc, ◌+◌, ◌-◌, ◌*◌, ◌≤◌, ◌<◌}
use native.Mathlib.Omega.{arith}
use borrow.Author.Tests.{leb-true, leb-false, eqb-true}
use mathlib.Core.Logic.{⊎_elim}
use lib.Dec.{eqb, leb, lit<, lit≤}
use lib.ListN.{length}
use lib.Seq.{length-take-le}
use Rattle.std.specs.Prelude.{Option, Some}
use Rattle.refusal.proofs.Laws.{look, cond-true, all_cons, accepted}
use Rattle.lm_digits.specs.Parameters.{row}
use Rattle.lm_format.specs.Format.{height, key_size, one_time_bytes, path_at, signature_length}
use Rattle.roster.proofs.EveryReplica.{every_each}
use Rattle.roster.specs.Roster.{name_size, head_size, cluster, replicas, key_of, tree_type, one_time_type, levels, signature_size, every_replica, sized, typed, roster_number}

-- ---- what each check says

pub record Sizes (roster : List ℕ) : Type 0 where
  pub low : 3 ≤ replicas roster
  pub high : replicas roster ≤ 9
  pub size : length roster ≡ head_size + key_size * replicas roster

pub sized-true : (roster : List ℕ) → sized roster ≡ true → Sizes roster
unfolding sized
sized-true roster e =
    let head = all_cons _ _ e in
    let low = all_cons _ _ head.1 in
    let high = all_cons _ _ low.1 in
    let size = all_cons _ _ high.1 in
    record {
      low = leb-true _ _ low.0;
      high = leb-true _ _ high.0;
      size = eqb-true _ _ size.0;
    }

pub record Types (roster : List ℕ) (k : ℕ) : Type 0 where
  pub one_time : one_time_type (key_of roster k) ≡ 4
  pub low : 5 ≤ tree_type (key_of roster k)
  pub high : tree_type (key_of roster k) ≤ 9
  pub first : tree_type (key_of roster k) ≡ tree_type (key_of roster 1)

typed-true : (roster : List ℕ) (k : ℕ) → typed roster k ≡ true → Types roster k
unfolding typed
typed-true roster k e =
    let one_time = all_cons _ _ e in
    let low = all_cons _ _ one_time.1 in
    let high = all_cons _ _ low.1 in
    let first = all_cons _ _ high.1 in
    record {
      one_time = eqb-true _ _ one_time.0;
      low = leb-true _ _ low.0;
      high = leb-true _ _ high.0;
      first = eqb-true _ _ first.0;
    }

-- ---- heights

-- an unknown height has no levels, and a listed one at most 25
pub levels-le : (number : ℕ) → levels (height number) ≤ 25
unfolding height levels
levels-le number =
    arm (eqb number 5) _ (lit≤ tt) (arm (eqb number 6) _ (lit≤ tt)
    (arm (eqb number 7) _ (lit≤ tt) (arm (eqb number 8) _ (lit≤ tt) (arm (eqb number 9) _ (lit≤ tt) (lit≤ tt)))))
  where
    arm : (t : Bool) {n : ℕ} (rest : Option ℕ) → n ≤ 25 → levels rest ≤ 25 → levels (cond t (Some n) rest) ≤ 25
    arm true rest p q = p
    arm false rest p q = q

-- the tree types from 5 to 9 have the heights 5, 10, 15, 20, 25
height_listed : (number : ℕ) → 5 ≤ number → number ≤ 9 → height number ≡ Some (5 * (number - 4))
unfolding height
height_listed number low high =
    let place : number ≡ 5 + (number - 5) = omega arith in
    rw place (go (number - 5) (omega arith))
  where
    go : (d : ℕ) → d ≤ 4 → height (5 + d) ≡ Some (5 * (5 + d - 4))
    go zero h = refl
    go (suc zero) h = refl
    go (suc (suc zero)) h = refl
    go (suc (suc (suc zero))) h = refl
    go (suc (suc (suc (suc zero)))) h = refl
    go (suc (suc (suc (suc (suc d))))) h = absurd (omega arith)

-- S is 1,132 + 32 for each level
pub size_of_levels : (roster : List ℕ) → signature_size roster ≡ 1132 + 32 * levels (height (tree_type (key_of roster 1)))
unfolding signature_size signature_length path_at one_time_bytes row
size_of_levels roster = refl

-- ---- an accepted roster

module _ (roster : List ℕ) (fine : roster_number roster ≡ 0) where
  checked : (sized roster ≡ true) × (every_replica (replicas roster) (typed roster) ≡ true)
  unfolding roster_number
  checked =
      let c2 = accepted _ _ _ (lit< tt) fine in
      (c2.0, (accepted _ _ _ (lit< tt) c2.1).0)

  pub sizes : Sizes roster
  sizes = sized-true roster checked.0

  -- the key of replica k lies inside
  pub key-inside : (k : ℕ) → k ≤ replicas roster → head_size + key_size * k ≤ length roster
  key-inside k h = let s = sizes in omega arith

  -- the cluster's name
  pub name-length : length (cluster roster) ≡ name_size
  unfolding cluster
  name-length = let s = sizes in length-take-le name_size roster (omega arith)

  pub types : (k : ℕ) → 0 < k → k ≤ replicas roster → Types roster k
  types k low high = typed-true roster k (every_each (replicas roster) (typed roster) checked.1 k low high)

  -- S, by the height of the one tree type
  pub signature-size : (h : ℕ) × (height (tree_type (key_of roster 1)) ≡ Some h) × (5 ≤ h) × (h ≤ 25) × (signature_size roster ≡ 1132 + 32 * h)
  unfolding levels
  signature-size =
      let s = sizes in
      let t = types 1 (lit< tt) (omega arith) in
      let e = height_listed (tree_type (key_of roster 1)) t.low t.high in
      (5 * (tree_type (key_of roster 1) - 4), e, omega arith, omega arith, size_of_levels roster ∙ rw e)

  pub signature-bounds : (1292 ≤ signature_size roster) × (signature_size roster ≤ 1932)
  signature-bounds = let s = signature-size in (omega arith, omega arith)
