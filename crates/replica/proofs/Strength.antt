-- What `NeverCharged` gives, drawn from the claim alone: all votes that a replica signs in one term are one vote, field by field, and all that it signs
-- with one leaf is one message. A claim over candidates alone would not give the first, nor one over votes, stamps and receipts alone the second.
-- Assumes nothing.
use mathlib.Core.Path.{◌≡◌, refl}
use mathlib.Core.Bool.{true, false}
use mathlib.Core.List.Memᴰ
use mathlib.Core.List.{List, Memᴰ}
use mathlib.Core.Logic.{⊎_elim}
use Prim.Native.Nat.{ℕ}
use borrow.Author.Tests.{eq-eqb}
use Rattle.refusal.proofs.Laws.{look}
use Rattle.lm_format.specs.Leaf.{Leaf, leaf_number}
use Rattle.lm_format.specs.Uses.{Use, use_of, reused}
use Rattle.lm_format.proofs.Uses.{one-message}
use Rattle.log_chain.specs.Log.{Form}
use Rattle.log_chain.specs.Claim.{Ballot, voted, say}
use Rattle.replica.specs.Replica.{Signing, signing, Act, first, keeps, signed, use_in, same_request}
use Rattle.replica.specs.Charges.{NeverCharged, clash, leaf_clash, charge, two_votes}
use Rattle.replica.proofs.Request.{request_vote}

charged : (a b : Ballot) → a.term ≡ b.term → same_request a b ≡ false → Memᴰ (record { rule = 1; term = a.term }) (clash (voted a) (voted b))
unfolding clash two_votes charge
charged a b t e = rw (eq-eqb _ _ t, e) (Memᴰ.head refl)

one-vote : (form : Form) (n : ℕ) → NeverCharged form n → (acts : List Act) → keeps form n first acts ≡ true
    → (p q : Leaf) (a b : Ballot) → Memᴰ (signing p (voted a)) (signed first acts) → Memᴰ (signing q (voted b)) (signed first acts)
    → a.term ≡ b.term → a ≡ b
unfolding NeverCharged signing
one-vote form n claim acts keep p q a b ma mb t =
    ⊎_elim
    (λ (e : same_request a b ≡ true). request_vote a b t e)
    (λ (e : same_request a b ≡ false).
    absurd (Memᴰ.not-nil (rw (claim acts keep (signing p (voted a)) (signing q (voted b)) ma mb).0 at (charged a b t e))))
    (look (same_request a b))

leaf_charged : (x y : Use) → reused x y ≡ true → Memᴰ (record { rule = 5; term = leaf_number x.leaf }) (leaf_clash x y)
unfolding leaf_clash charge
leaf_charged x y e = rw e (Memᴰ.head refl)

one-leaf : (form : Form) (n : ℕ) → NeverCharged form n → (acts : List Act) → keeps form n first acts ≡ true
    → (x y : Signing) → Memᴰ x (signed first acts) → Memᴰ y (signed first acts)
    → x.leaf ≡ y.leaf → say form x.claim ≡ say form y.claim
unfolding NeverCharged use_in use_of
one-leaf form n claim acts keep x y mx my d =
    let u = use_in form x in
    let v = use_in form y in
    ⊎_elim
    (λ (e : reused u v ≡ true). absurd (Memᴰ.not-nil (rw (claim acts keep x y mx my).1 at (leaf_charged u v e))))
    (λ (e : reused u v ≡ false). one-message u v e d)
    (look (reused u v))
