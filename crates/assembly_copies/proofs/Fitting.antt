-- An item is no copy of a statement that is longer or shorter, or begins with other bytes; where length and beginning agree, the ends decide.
-- Assumes nothing.
use mathlib.Core.Path.{◌≡◌, refl, sym, ap, ◌∙◌}
use mathlib.Core.Bool.{Bool, true, false, cond, false≢true}
use mathlib.Core.List.{List, [], ◌∷◌, ◌++◌}
use mathlib.Core.Logic.{⊎_elim}
use Prim.Native.Nat.{ℕ, suc, ◌+◌, ◌-◌, ◌*◌, ◌≤◌, ◌<◌}
use native.Mathlib.Nat.{mul-suc, mul-le-mul_left}
use native.Mathlib.Omega.{arith}
use borrow.Author.Tests.{eq-eqb, ne_eqb}
use lib.Dec.{eqb}
use lib.ListN.{length, take, drop, length-append, length-drop}
use lib.Seq.{length-take-le, take-take, take_at, take-add, drop-drop}
use Rattle.words.specs.BigEndian.{same}
use Rattle.words.proofs.Same.{same_true, same_false, same_after}
use Rattle.refusal.specs.Checks.{all}
use Rattle.refusal.proofs.Laws.{look}
use Rattle.lms.specs.Check.{good}
use Rattle.roster.specs.Roster.{replicas, key_of}
use Rattle.assembly.specs.Items.{Item, fits}
use Rattle.assembly_items.specs.declared.ItemPlace.{ItemPlace}
use Rattle.assembly_items.specs.Reader.{item_of}
use Rattle.assembly_copies.specs.declared.Sought.{Sought}
use Rattle.assembly_copies.specs.Sought.{statement_at}
use Rattle.assembly_copies.specs.Offers.{Lies, Alike, Unlike, is_copy}

-- ---- one item

module _ (roster : List ℕ) (k : ℕ) (statement : List ℕ) (i : Item) where
  pub other-replica : (i.replica ≡ k → ⊥) → fits roster k statement i ≡ false
  unfolding fits all
  other-replica h = rw (ne_eqb _ _ h)

  other-statement : (i.statement ≡ statement → ⊥) → fits roster k statement i ≡ false
  unfolding fits all
  other-statement h = rw (same_false i.statement statement h) (go (eqb i.replica k))
    where
      go : (b : Bool) → cond b false false ≡ false
      go true = refl
      go false = refl

  -- a copy by what is asked of its own bytes
  fits-self : i.replica ≡ k → fits roster k statement i ≡ all (same i.statement statement ∷ good (key_of roster k) i.statement i.signature ∷ [])
  unfolding fits all
  fits-self e =
      ⊎_elim
      (λ (s : same i.statement statement ≡ true).
      rw (eq-eqb _ _ e)
      (ap (λ (l : List ℕ). cond (same i.statement statement) (cond (good (key_of roster k) l i.signature) true false) false) (sym (same_true _ _ s))))
      (λ (s : same i.statement statement ≡ false). rw (eq-eqb _ _ e, s))
      (look (same i.statement statement))

-- ---- a statement that is looked for

-- the bytes that are its own
abbrev pub own_of : Sought → List ℕ → ℕ → List ℕ
own_of q wanted m = take q.tail (drop (q.head + q.tail * m) wanted)

module _ (wanted : List ℕ) (q : Sought) (inside : q.head + q.tail * q.count ≤ length wanted) (m : ℕ) (few : m < q.count) where
  -- its own bytes stand in the buffer
  pub own-inside : q.head + q.tail * m + q.tail ≤ length wanted
  own-inside =
      let more : q.tail * suc m ≤ q.tail * q.count = mul-le-mul_left q.tail (omega (arith, few)) in
      omega (arith, rw mul-suc at more, inside)

  head_length : length (take q.head wanted) ≡ q.head
  head_length = length-take-le q.head wanted (omega (arith, own-inside))

  pub own-length : length (own_of q wanted m) ≡ q.tail
  own-length = length-take-le q.tail _ (rw length-drop (omega (arith, own-inside)))

  statement-length : length (statement_at q wanted m) ≡ q.head + q.tail
  unfolding statement_at
  statement-length = rw (length-append, head_length, own-length)

  statement-head : take q.head (statement_at q wanted m) ≡ take q.head wanted
  unfolding statement_at
  statement-head = take_at _ _ q.head head_length

-- ---- an item of the bag

module _ (roster item_bytes wanted : List ℕ) (q : Sought) (i : ItemPlace) (lies : Lies q.size item_bytes i) where
  item-length : length (item_of item_bytes i).statement ≡ i.signature - i.statement
  unfolding item_of
  item-length = length-take-le (i.signature - i.statement) _ (rw length-drop (omega (arith, lies.begins, lies.ends, lies.within)))

  pub no-replica : i.replica ≡ 0 → Unlike roster item_bytes wanted q i
  unfolding Unlike item_of
  no-replica e m k few known = other-replica roster (suc k) (statement_at q wanted m) (item_of item_bytes i) (λ (h : i.replica ≡ suc k). omega (arith, e, h))

  pub beyond : replicas roster < i.replica → Unlike roster item_bytes wanted q i
  unfolding Unlike item_of
  beyond e m k few known = other-replica roster (suc k) (statement_at q wanted m) (item_of item_bytes i) (λ (h : i.replica ≡ suc k). omega (arith, e, h, known))

  module _ (inside : q.head + q.tail * q.count ≤ length wanted) where
    pub other_length : (i.signature - i.statement ≡ q.head + q.tail → ⊥) → Unlike roster item_bytes wanted q i
    unfolding Unlike
    other_length h m k few known =
        other-statement roster (suc k) (statement_at q wanted m) (item_of item_bytes i)
        (λ e. h (sym item-length ∙ ap (λ (l : List ℕ). length l) e ∙ statement-length wanted q inside m few))

    pub other-head : q.head ≤ i.signature - i.statement → (take q.head (drop i.statement item_bytes) ≡ take q.head wanted → ⊥) → Unlike roster item_bytes wanted q i
    unfolding Unlike item_of
    other-head long h m k few known =
        other-statement roster (suc k) (statement_at q wanted m) (item_of item_bytes i)
        (λ e.
        h
        (sym (take-take q.head (i.signature - i.statement) (drop i.statement item_bytes) long)
        ∙ ap (λ (l : List ℕ). take q.head l) e
        ∙ statement-head wanted q inside m few))

    -- where length and beginning agree
    module _ (alike : Alike roster item_bytes wanted q i) (m : ℕ) (few : m < q.count) where
      item-parts : (item_of item_bytes i).statement ≡ take q.head wanted ++ take q.tail (drop (i.statement + q.head) item_bytes)
      unfolding item_of
      item-parts =
          let long : i.signature - i.statement ≡ q.head + q.tail = omega (arith, alike.long) in
          rw (long, take-add, alike.headed, drop-drop)

      end-there : take q.tail (drop (i.statement + q.head) item_bytes)
          ≡ take (length (own_of q wanted m)) (drop (i.signature - length (own_of q wanted m)) item_bytes)
      end-there =
          let start : i.statement + q.head ≡ i.signature - q.tail = omega (arith, alike.long) in
          rw (own-length wanted q inside m few) (ap (λ (n : ℕ). take q.tail (drop n item_bytes)) start)

      -- its end decides
      pub end-decides : fits roster i.replica (statement_at q wanted m) (item_of item_bytes i) ≡ is_copy roster item_bytes i (own_of q wanted m)
      unfolding is_copy statement_at item_of
      end-decides =
          let tests =
          ap (λ (l : List ℕ). same l (statement_at q wanted m)) item-parts
          ∙ same_after (take q.head wanted) (take q.tail (drop (i.statement + q.head) item_bytes)) (own_of q wanted m)
          ∙ ap (λ (l : List ℕ). same l (own_of q wanted m)) end-there in
          fits-self roster i.replica (statement_at q wanted m) (item_of item_bytes i) refl
          ∙ ap (λ (b : Bool). all (b ∷ good (key_of roster i.replica) (item_of item_bytes i).statement (item_of item_bytes i).signature ∷ [])) tests

    -- ---- what the code has asked

    pub refuses : Unlike roster item_bytes wanted q i → (false ≡ true → Alike roster item_bytes wanted q i) × (false ≡ false → Unlike roster item_bytes wanted q i)
    refuses u = ((λ e. absurd (false≢true e)), λ e. u)

    pub decides : {r : Bool} → i.signature ≡ i.statement + (q.head + q.tail) → 0 < i.replica → i.replica ≤ replicas roster
        → (r ≡ true → take q.head (drop i.statement item_bytes) ≡ take q.head wanted)
        × (take q.head (drop i.statement item_bytes) ≡ take q.head wanted → r ≡ true)
        → (r ≡ true → Alike roster item_bytes wanted q i) × (r ≡ false → Unlike roster item_bytes wanted q i)
    decides long numbered known p = (
      (λ e. record { numbered = numbered; known = known; long = long; headed = p.0 e }),
      λ e. other-head (omega (arith, long)) (λ h. false≢true (sym e ∙ p.1 h)),
    )
