-- Two claims with the same bytes are the same claim, if their fields fit and no two of their chain strings have one SHA-256
-- value: the kind bytes differ, and every field has its width. And a stamp and a receipt by the fields that the code holds.
-- Assumes nothing.
use mathlib.Core.Path.{◌≡◌, refl, ap}
use mathlib.Core.List.{List, [], ◌∷◌, ◌++◌, append_assoc}
use Prim.Native.Nat.{ℕ, suc, ◌+◌}
use native.Mathlib.Omega.{arith}
use lib.ListN.{length, get_or, replicate, length-append}
use Rattle.words.specs.BigEndian.{be}
use Rattle.words.proofs.Laws.{length-be, be-injective}
use Rattle.sha256.specs.Sha256.{sha256}
use Rattle.log_chain.specs.Log.{Form, version1, with_terms, Record, chain_string, chain_strings, pointer_from, pointer}
use Rattle.log_chain.specs.Claim.{Ballot, Claim, stamped, received, voted, place, ballot_bytes, say}
use Rattle.log_chain.specs.Sizes.{place_statement}
use Rattle.log_chain.specs.Apart.{Apart}
use Rattle.log_chain.proofs.Pointers.{pointer_form}
use Rattle.log_chain.proofs.Fits.{PlaceFits, BallotFits, ClaimFits}
use Rattle.lm_hash.proofs.Values.{length-digest}
use Rattle.log_chain.proofs.Injective.{field, length_two, pointer-injective}

-- the chain strings of the log that a claim speaks of
unfoldable pub strings_of : Form → Claim → List (List ℕ)
strings_of form (stamped term log) = chain_strings form log
strings_of form (received term log) = chain_strings form log
strings_of form (voted b) = []

module _ (form : Form) where
  -- kind byte and fields, from the bytes
  headed : (k j : ℕ) (x y : List ℕ) → (k ∷ form.cluster) ++ x ≡ (j ∷ form.cluster) ++ y → (k ≡ j) × (x ≡ y)
  headed k j x y e =
      let parts = field (suc (length form.cluster)) (k ∷ form.cluster) x (j ∷ form.cluster) y refl refl e in
      (ap (λ (l : List ℕ). get_or l 0 0) parts.0, parts.1)

  place-injective : (t u : ℕ) (l m : List Record) → PlaceFits form t l → PlaceFits form u m
      → Apart (strings_of form (stamped t l)) (strings_of form (stamped u m)) → place form t l ≡ place form u m → (t ≡ u) × (l ≡ m)
  unfolding place strings_of
  place-injective t u l m fl fm apart e =
      let w = form.term_bytes in
      let two : (a : ℕ) (x : List Record) → length (be w a ++ be 4 (length x)) ≡ w + 4 =
      λ a x. length_two (be w a) (be 4 (length x)) w 4 (length-be w a) (length-be 4 (length x)) in
      let last = field (w + 4) (be w t ++ be 4 (length l)) (pointer form l) (be w u ++ be 4 (length m)) (pointer form m) (two t l) (two u m) e in
      let first = field w (be w t) (be 4 (length l)) (be w u) (be 4 (length m)) (length-be w t) (length-be w u) last.0 in
      let index = be-injective 4 fl.index fm.index first.1 in
      (be-injective w fl.term fm.term first.0, pointer-injective form l m fl.records fm.records index apart last.1)

  ballot-injective : (b d : Ballot) → BallotFits form b → BallotFits form d → ballot_bytes form b ≡ ballot_bytes form d → b ≡ d
  unfolding ballot_bytes
  ballot-injective b d fb fd e =
      let w = form.term_bytes in
      let c2 : (x : Ballot) → List ℕ = λ x. be 2 x.candidate in
      let c3 : (x : Ballot) → List ℕ = λ x. c2 x ++ be w x.term in
      let c4 : (x : Ballot) → List ℕ = λ x. c3 x ++ be w x.last_term in
      let c5 : (x : Ballot) → List ℕ = λ x. c4 x ++ be 4 x.last_index in
      let n3 : (x : Ballot) → length (c3 x) ≡ 2 + w = λ x. length_two (c2 x) (be w x.term) 2 w (length-be 2 x.candidate) (length-be w x.term) in
      let n4 : (x : Ballot) → length (c4 x) ≡ 2 + w + w = λ x. length_two (c3 x) (be w x.last_term) (2 + w) w (n3 x) (length-be w x.last_term) in
      let n5 : (x : Ballot) → length (c5 x) ≡ 2 + w + w + 4 = λ x. length_two (c4 x) (be 4 x.last_index) (2 + w + w) 4 (n4 x) (length-be 4 x.last_index) in
      let e5 = field (2 + w + w + 4) (c5 b) b.last_pointer (c5 d) d.last_pointer (n5 b) (n5 d) e in
      let e4 = field (2 + w + w) (c4 b) (be 4 b.last_index) (c4 d) (be 4 d.last_index) (n4 b) (n4 d) e5.0 in
      let e3 = field (2 + w) (c3 b) (be w b.last_term) (c3 d) (be w d.last_term) (n3 b) (n3 d) e4.0 in
      let e2 = field 2 (c2 b) (be w b.term) (c2 d) (be w d.term) (length-be 2 b.candidate) (length-be 2 d.candidate) e3.0 in
      let candidate = be-injective 2 fb.candidate fd.candidate e2.0 in
      let term = be-injective w fb.term fd.term e2.1 in
      let last_term = be-injective w fb.last_term fd.last_term e3.1 in
      let last_index = be-injective 4 fb.last_index fd.last_index e4.1 in
      λ k. record { candidate = candidate k; term = term k; last_term = last_term k; last_index = last_index k; last_pointer = e5.1 k }

  pub say-injective : (c d : Claim) → ClaimFits form c → ClaimFits form d → Apart (strings_of form c) (strings_of form d)
      → say form c ≡ say form d → c ≡ d
  unfolding say strings_of
  say-injective (stamped t l) (stamped u m) fc fd apart e =
      let p = place-injective t u l m fc fd apart (headed _ _ _ _ e).1 in λ k. stamped (p.0 k) (p.1 k)
  say-injective (stamped t l) (received u m) fc fd apart e = absurd (omega (arith, (headed _ _ _ _ e).0))
  say-injective (stamped t l) (voted b) fc fd apart e = absurd (omega (arith, (headed _ _ _ _ e).0))
  say-injective (received t l) (stamped u m) fc fd apart e = absurd (omega (arith, (headed _ _ _ _ e).0))
  say-injective (received t l) (received u m) fc fd apart e =
      let p = place-injective t u l m fc fd apart (headed _ _ _ _ e).1 in λ k. received (p.0 k) (p.1 k)
  say-injective (received t l) (voted b) fc fd apart e = absurd (omega (arith, (headed _ _ _ _ e).0))
  say-injective (voted b) (stamped u m) fc fd apart e = absurd (omega (arith, (headed _ _ _ _ e).0))
  say-injective (voted b) (received u m) fc fd apart e = absurd (omega (arith, (headed _ _ _ _ e).0))
  say-injective (voted b) (voted d) fc fd apart e =
      let p = ballot-injective b d fc fd (headed _ _ _ _ e).1 in λ k. voted (p k)

-- ---- a stamp and a receipt by the fields that the code holds

module _ (name : List ℕ) (w : ℕ) (log : List Record) (term index : ℕ) (p : List ℕ) (long : length log ≡ index)
    (pointed : p ≡ pointer (with_terms w []) log) where
  place-said : be w term ++ (be 4 index ++ p) ≡ place (with_terms w name) term log
  unfolding place
  place-said = rw (← append_assoc (be w term) (be 4 index) p, long, pointed, pointer_form (with_terms w name) (with_terms w []) refl log)

  pub stamp-said : place_statement 1 name w term index p ≡ say (with_terms w name) (stamped term log)
  unfolding say
  stamp-said = rw (append_assoc, append_assoc) (ap (λ (l : List ℕ). 1 ∷ name ++ l) place-said)

  pub receipt-said : place_statement 2 name w term index p ≡ say (with_terms w name) (received term log)
  unfolding say
  receipt-said = rw (append_assoc, append_assoc) (ap (λ (l : List ℕ). 2 ∷ name ++ l) place-said)

-- ---- the lengths of document 01, for version 1

pub pointer-length : (form : Form) (i : ℕ) (p : List ℕ) (l : List Record) → length p ≡ 32 → length (pointer_from form i p l) ≡ 32
unfolding pointer_from
pointer-length form i p [] h = h
pointer-length form i p (r ∷ l) h =
    pointer-length form (suc i) (sha256 (chain_string form (suc i) r p)) l (length-digest (chain_string form (suc i) r p))

pub place-length : (cluster : List ℕ) (t : ℕ) (l : List Record) → length cluster ≡ 16
    → (length (say (version1 cluster) (stamped t l)) ≡ 57) × (length (say (version1 cluster) (received t l)) ≡ 57)
unfolding say place version1 pointer
place-length cluster t l h =
    let last = pointer-length (version1 cluster) 0 (replicate 32 0) l refl in
    (simp (length-append, length-be, h) (omega (arith, last)), simp (length-append, length-be, h) (omega (arith, last)))

pub vote-length : (cluster : List ℕ) (b : Ballot) → length cluster ≡ 16 → length b.last_pointer ≡ 32
    → length (say (version1 cluster) (voted b)) ≡ 63
unfolding say ballot_bytes version1
vote-length cluster b h p = simp (length-append, length-be, h, p)

pub string_length : (cluster : List ℕ) (i : ℕ) (r : Record) (p : List ℕ) → length r.digest ≡ 32 → length p ≡ 32
    → length (chain_string (version1 cluster) i r p) ≡ 72
unfolding chain_string version1
string_length cluster i r p h k = simp (length-append, length-be, h, k)
