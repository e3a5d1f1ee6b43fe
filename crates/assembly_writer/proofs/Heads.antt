-- The fields before the signers: a leader certificate's and the commit's.
-- Assumes nothing.
use mathlib.Core.Path.{◌≡◌, refl, sym, ap, ◌∙◌}
use mathlib.Core.List.{List, ◌++◌}
use Prim.Native.Nat.{ℕ, ◌+◌, ◌≤◌}
use native.Mathlib.Omega.{arith}
use borrow.Author.Tests.{eq-eqb, ne_eqb}
use lib.ListN.{length, get_or, drop, length-append}
use lib.Seq.{sets}
use Rattle.words.specs.BigEndian.{be}
use Rattle.words.specs.Over.{over}
use Rattle.words.proofs.Laws.{length-be}
use Rattle.words.proofs.Over.{over_nothing, over_next, over_first, Begun, begun_first}
use Rattle.assembly_writer.specs.Parts.{signed_at, certificate_in, commit_part, fields_part, trailer_part}

pub certificate-long : (S : ℕ) (item_bytes : List ℕ) (n : ℕ) (end row : List ℕ)
    → length (certificate_in S item_bytes n end row) ≡ 2 + length end + length (signed_at S item_bytes n (drop 2 row))
unfolding certificate_in
certificate-long S item_bytes n end row =
    omega (
      arith,
      length-append (be 2 (get_or row 0 0) ++ end) (signed_at S item_bytes n (drop 2 row)),
      length-append (be 2 (get_or row 0 0)) end,
      length-be 2 (get_or row 0 0),
    )

-- a number of so many bytes at the start
number-first : (w x : ℕ) (e : List ℕ) → w ≤ length e → sets e 0 (be w x) ≡ over (be w x) e
number-first w x e h = over_first e (be w x) (omega (arith, length-be w x))

module _ (S : ℕ) (item_bytes : List ℕ) (n : ℕ) (end row e : List ℕ) (room : length (certificate_in S item_bytes n end row) ≤ length e) where
  abbrev candidate : List ℕ
  candidate = be 2 (get_or row 0 0)

  pub certificate-head : 2 + length end ≤ length e
  certificate-head = omega (arith, room, certificate-long S item_bytes n end row)

  pub certificate-begun : {one out : List ℕ} → one ≡ sets e 0 candidate → out ≡ sets one 2 end
      → Begun (candidate ++ end) (signed_at S item_bytes n (drop 2 row)) e out (2 + length end)
  unfolding certificate_in
  certificate-begun p q =
      let two = length-be 2 (get_or row 0 0) in
      let first = p ∙ number-first 2 (get_or row 0 0) e (omega (arith, certificate-head)) in
      record {
        room = room;
        put = q ∙ ap (λ z. sets z 2 end) first ∙ over_next candidate e end 2 two certificate-head;
        here = sym (length-append candidate end ∙ ap (λ (k : ℕ). k + length end) two);
      }

module _ (S : ℕ) (item_bytes : List ℕ) (n : ℕ) (row e : List ℕ) where
  -- no commit
  pub commit-none : get_or row 0 0 ≡ 0 → (0 ≡ length (commit_part S item_bytes n row)) × (e ≡ over (commit_part S item_bytes n row) e)
  unfolding commit_part
  commit-none h = rw (eq-eqb (get_or row 0 0) 0 h) (refl, sym (over_nothing e))

  module _ (some-index : get_or row 0 0 ≡ 0 → ⊥) where
    abbrev index : List ℕ
    index = be 4 (get_or row 0 0)

    pub commit-some : commit_part S item_bytes n row ≡ index ++ signed_at S item_bytes n (drop 2 row)
    unfolding commit_part
    commit-some = rw (ne_eqb (get_or row 0 0) 0 some-index) refl

    pub commit-long : length (commit_part S item_bytes n row) ≡ 4 + length (signed_at S item_bytes n (drop 2 row))
    commit-long = omega (arith, ap length commit-some, length-append index (signed_at S item_bytes n (drop 2 row)), length-be 4 (get_or row 0 0))

    module _ (room : length (commit_part S item_bytes n row) ≤ length e) where
      pub commit-head : 4 ≤ length e
      commit-head = omega (arith, room, commit-long)

      pub commit-begun : {out : List ℕ} → out ≡ sets e 0 index → Begun index (signed_at S item_bytes n (drop 2 row)) e out 4
      commit-begun p = begun_first (omega (arith, ap length commit-some)) p (sym (length-be 4 (get_or row 0 0)))

-- ---- the trailer's name

module _ (name fields e : List ℕ) (room : length (trailer_part name fields) ≤ length e) where
  pub name-room : length name ≤ length e
  unfolding trailer_part
  name-room = omega (arith, room, length-append name (fields_part fields))

  pub name-begun : {out : List ℕ} → out ≡ sets e 0 name → Begun name (fields_part fields) e out (length name)
  unfolding trailer_part
  name-begun p = begun_first room p refl
