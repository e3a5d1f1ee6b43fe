-- Votes and what they are for. Two votes of one term are for one request exactly where they are one vote; and the test asks one field after the other,
-- the pointers last.
-- Assumes nothing.
use mathlib.Core.Path.{◌≡◌, refl}
use mathlib.Core.Bool.{true, false}
use borrow.Author.Tests.{eqb-true, eq-eqb, ne_eqb}
use Rattle.words.specs.BigEndian.{same}
use Rattle.words.proofs.Same.{same_true, true_same}
use Rattle.refusal.specs.Checks.{all}
use Rattle.refusal.proofs.Laws.{all_cons, first_fails, first_holds, all_one}
use Rattle.log_chain.specs.Claim.{Ballot}
use Rattle.replica.specs.Replica.{same_request}

-- ---- one request in one term is one vote

pub request_vote : (a b : Ballot) → a.term ≡ b.term → same_request a b ≡ true → a ≡ b
unfolding same_request
request_vote a b t e =
    let e1 = all_cons _ _ e in
    let e2 = all_cons _ _ e1.1 in
    let e3 = all_cons _ _ e2.1 in
    let candidate = eqb-true _ _ e1.0 in
    let term = eqb-true _ _ e2.0 in
    let index = eqb-true _ _ e3.0 in
    let pointer = same_true _ _ (all_cons _ _ e3.1).0 in
    λ k. record { candidate = candidate k; term = t k; last_term = term k; last_index = index k; last_pointer = pointer k }

pub vote_request : (a b : Ballot) → a ≡ b → same_request a b ≡ true
unfolding same_request all
vote_request a b e =
    rw (e, eq-eqb b.candidate b.candidate refl, eq-eqb b.last_term b.last_term refl, eq-eqb b.last_index b.last_index refl, true_same b.last_pointer)

-- ---- field by field

module _ (a b : Ballot) where
  pub other-candidate : (a.candidate ≡ b.candidate → ⊥) → false ≡ same_request a b
  unfolding same_request
  other-candidate h = first_fails _ _ (ne_eqb _ _ h)

  module _ (candidate : a.candidate ≡ b.candidate) where
    pub other-last-term : (a.last_term ≡ b.last_term → ⊥) → false ≡ same_request a b
    unfolding same_request
    other-last-term h = first_holds _ _ (eq-eqb _ _ candidate) (first_fails _ _ (ne_eqb _ _ h))

    module _ (term : a.last_term ≡ b.last_term) where
      pub other-last-index : (a.last_index ≡ b.last_index → ⊥) → false ≡ same_request a b
      unfolding same_request
      other-last-index h = first_holds _ _ (eq-eqb _ _ candidate) (first_holds _ _ (eq-eqb _ _ term) (first_fails _ _ (ne_eqb _ _ h)))

      pub by-pointers : a.last_index ≡ b.last_index → same a.last_pointer b.last_pointer ≡ same_request a b
      unfolding same_request
      by-pointers h =
          first_holds _ _ (eq-eqb _ _ candidate) (first_holds _ _ (eq-eqb _ _ term) (first_holds _ _ (eq-eqb _ _ h) (all_one _)))
