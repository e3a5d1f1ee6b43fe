-- Rows of a table that stay where a later one is written, and what that one stands for.
-- Assumes nothing.
use mathlib.Core.Path.{◌≡◌, refl, sym, ap, ◌∙◌}
use mathlib.Core.List.{List, [], ◌∷◌, ◌++◌}
use Prim.Native.Nat.{ℕ, ◌+◌, ◌*◌, ◌≤◌, ◌<◌}
use native.Mathlib.Omega.{arith}
use borrow.Rule.Slice.PartMut.{put_mid, take_put}
use lib.ListN.{length, take, drop, get_or, length-drop, get_or-append}
use lib.Seq.{take-take, drop_at, length-take-le, drop-append-le, take-append-le}
use Rattle.words.proofs.Laws.{drop-take}
use Rattle.roster.specs.Roster.{replicas}
use Rattle.log_chain.specs.Log.{Form}
use Rattle.log_chain.specs.Runs.{Run}
use Rattle.assembly_commit.specs.declared.LogSizes.{LogSizes}
use Rattle.assembly_commit.specs.Searched.{CommitFound, CommitRowHeld}
use Rattle.roster.specs.Sizes.{replicas_most}
use Rattle.assembly_copies.specs.Rows.{taken_size, copies_at, lead_in, leads_in, commit_in}

-- what two lists begin with alike, after as many elements
drop-alike : (t u : List ℕ) (a b : ℕ) → take (a + b) t ≡ take (a + b) u → take b (drop a t) ≡ take b (drop a u)
drop-alike t u a b e = sym (drop-take a b t) ∙ ap (drop a) e ∙ drop-take a b u

take-alike : (t u : List ℕ) (a b : ℕ) → take (a + b) t ≡ take (a + b) u → take a t ≡ take a u
take-alike t u a b e =
    let inside : a ≤ a + b = omega arith in
    sym (take-take a (a + b) t inside) ∙ ap (take a) e ∙ take-take a (a + b) u inside

module _ (S : ℕ) (item_bytes : List ℕ) where
  -- the leaders hang on their own rows alone
  pub leads-kept : (form : Form) (n : ℕ) (rs : List Run) (t u : List ℕ) → take (taken_size * length rs) t ≡ take (taken_size * length rs) u
      → leads_in S item_bytes form n t rs ≡ leads_in S item_bytes form n u rs
  unfolding leads_in
  leads-kept form n [] t u e = refl
  leads-kept form n (r ∷ rs) t u e =
      let more : taken_size * length (r ∷ rs) ≡ taken_size + taken_size * length rs = omega arith in
      let e' : take (taken_size + taken_size * length rs) t ≡ take (taken_size + taken_size * length rs) u = rw more at e in
      let row : take taken_size t ≡ take taken_size u = take-alike t u taken_size (taken_size * length rs) e' in
      let rest = leads-kept form n rs (drop taken_size t) (drop taken_size u) (drop-alike t u taken_size (taken_size * length rs) e') in
      λ i. lead_in S item_bytes form n (row i) r ∷ rest i

  -- and the commit on its own
  pub commit-kept : (n : ℕ) (row rest : List ℕ) → n ≤ replicas_most → length row ≡ taken_size → commit_in S item_bytes n (row ++ rest) ≡ commit_in S item_bytes n row
  unfolding commit_in copies_at
  commit-kept n row rest few size =
      let index : get_or (row ++ rest) 0 0 ≡ get_or row 0 0 = get_or-append row rest 0 0 (omega (arith, size)) in
      let places : take n (drop 2 (row ++ rest)) ≡ take n (drop 2 row) =
      ap (take n) (drop-append-le 2 row rest (omega (arith, size)))
      ∙ take-append-le n (drop 2 row) rest (rw length-drop (omega (arith, size, few))) in
      rw (index, places)

-- ---- a row written into a table

module _ (t row : List ℕ) (at k : ℕ) (inside : at ≤ length t) where
  pub row_kept : take at (put_mid at k t row) ≡ take at t
  row_kept = take_put at k t row inside

  row_from : drop at (put_mid at k t row) ≡ row ++ drop k (drop at t)
  row_from = drop_at (take at t) (row ++ drop k (drop at t)) at (length-take-le at t inside)

  pub commit-put : (roster log item_bytes : List ℕ) (w : LogSizes) → replicas roster ≤ replicas_most → length row ≡ taken_size
      → CommitFound roster log item_bytes w row → CommitFound roster log item_bytes w (drop at (put_mid at k t row))
  unfolding CommitFound
  commit-put roster log item_bytes w few size found =
      found ∙ sym (ap (commit_in w.size item_bytes (replicas roster)) row_from ∙ commit-kept w.size item_bytes (replicas roster) row (drop k (drop at t)) few size)

  pub held-put : (S : ℕ) (item_bytes : List ℕ) (records : ℕ) → length row ≡ taken_size → CommitRowHeld S item_bytes records row
      → CommitRowHeld S item_bytes records (drop at (put_mid at k t row))
  held-put S item_bytes records size held =
      let same : (j : ℕ) → j < taken_size → get_or (drop at (put_mid at k t row)) j 0 ≡ get_or row j 0 =
      λ j h. ap (λ l. get_or l j 0) row_from ∙ get_or-append row (drop k (drop at t)) 0 j (omega (arith, h, size)) in
      record {
        index = rw (same 0 (omega arith)) held.index;
        places = λ j low high. rw (same j high) (held.places j low high);
      }
