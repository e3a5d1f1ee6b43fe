-- The charges from all pairs of what a replica says in the first and in the second submission, taken apart: the lowest of them is the lowest of
-- the votes with the votes, the stamps with the stamps, the receipts with the votes and the votes with the receipts. No other two claims clash.
-- Assumes nothing.
use mathlib.Core.Path.{◌≡◌, refl, sym, ap, ◌∙◌}
use mathlib.Core.Bool.{Bool}
use mathlib.Core.List.Memᴰ
use mathlib.Core.List.{List, [], ◌∷◌, ◌++◌, flat_map, Memᴰ}
use mathlib.Core.Logic.{⊎_elim}
use mathlib.Core.Option.{Option, some, none}
use Prim.Native.Nat.{ℕ}
use Rattle.words.proofs.Members.{joined-mem, joined-empty, mem-cond}
use Rattle.words.proofs.FlatMap.{flat_map-append}
use Rattle.log_chain.specs.Log.{Record, last_term}
use Rattle.log_chain.specs.Claim.{Ballot, Claim, stamped, received, voted}
use Rattle.replica.specs.Charges.{Charge, clash}
use Rattle.submission.specs.View.{Commit, Lead}
use Rattle.forensics.specs.Findings.{lowest}
use Rattle.forensics_charges.specs.Charges.{least}
use Rattle.forensics_charges.proofs.Lowest.{least-none, least_assoc, least_comm, lowest-over-append, lowest-split}
use Rattle.forensics_find.proofs.Says.{said_if, vote_by, stamp_by, receipt_by}

-- ---- one list for each element

module _ {A B : Type 0} where
  pub over-same : (f g : A → List B) (xs : List A) → ((x : A) → Memᴰ x xs → f x ≡ g x) → flat_map f xs ≡ flat_map g xs
  unfolding flat_map
  over-same f g [] h = refl
  over-same f g (x ∷ xs) h =
      ap (λ z. z ++ flat_map f xs) (h x (Memᴰ.head refl)) ∙ ap (λ z. g x ++ z) (over-same f g xs (λ y m. h y (Memᴰ.tail m)))

module _ {A B C : Type 0} where
  pub over-over : (f : B → List C) (g : A → List B) (xs : List A) → flat_map f (flat_map g xs) ≡ flat_map (λ x. flat_map f (g x)) xs
  unfolding flat_map
  over-over f g [] = refl
  over-over f g (x ∷ xs) = flat_map-append f (g x) (flat_map g xs) ∙ ap (λ z. flat_map f (g x) ++ z) (over-over f g xs)

-- ---- all pairs

unfoldable pub pairs : List Claim → List Claim → List Charge
pairs xs ys = flat_map (λ c. flat_map (clash c) ys) xs

pairs_left : (xs ys zs : List Claim) → lowest (pairs (xs ++ ys) zs) ≡ least (lowest (pairs xs zs)) (lowest (pairs ys zs))
unfolding pairs
pairs_left xs ys zs = lowest-over-append (λ c. flat_map (clash c) zs) xs ys

pairs_right : (xs ys zs : List Claim) → lowest (pairs xs (ys ++ zs)) ≡ least (lowest (pairs xs ys)) (lowest (pairs xs zs))
unfolding pairs
pairs_right xs ys zs =
    lowest-split (λ c. flat_map (clash c) (ys ++ zs)) (λ c. flat_map (clash c) ys) (λ c. flat_map (clash c) zs)
    (λ c. lowest-over-append (clash c) ys zs) xs

pairs-none : (xs ys : List Claim) → ((c d : Claim) → Memᴰ c xs → Memᴰ d ys → clash c d ≡ []) → lowest (pairs xs ys) ≡ none
unfolding pairs lowest
pairs-none xs ys h =
    ap lowest (joined-empty (λ c. flat_map (clash c) ys) xs (λ c m. joined-empty (clash c) ys (λ d n. h c d m n)))

-- ---- claims of one kind

abbrev Votes : List Claim → Type 0
Votes xs = (c : Claim) → Memᴰ c xs → (b : Ballot) × (c ≡ voted b)

abbrev Stamps : List Claim → Type 0
Stamps xs = (c : Claim) → Memᴰ c xs → (t : ℕ) × (l : List Record) × (c ≡ stamped t l)

abbrev Given : List Claim → Type 0
Given xs = (c : Claim) → Memᴰ c xs → (t : ℕ) × (l : List Record) × (c ≡ received t l)

module _ (xs ys : List Claim) where
  votes-stamps : Votes xs → Stamps ys → lowest (pairs xs ys) ≡ none
  unfolding clash
  votes-stamps v s = pairs-none xs ys (λ c d m n. rw ((v c m).1, (s d n).2))

  stamps-votes : Stamps xs → Votes ys → lowest (pairs xs ys) ≡ none
  unfolding clash
  stamps-votes s v = pairs-none xs ys (λ c d m n. rw ((s c m).2, (v d n).1))

  stamps-given : Stamps xs → Given ys → lowest (pairs xs ys) ≡ none
  unfolding clash
  stamps-given s g = pairs-none xs ys (λ c d m n. rw ((s c m).2, (g d n).2))

  given-stamps : Given xs → Stamps ys → lowest (pairs xs ys) ≡ none
  unfolding clash
  given-stamps g s = pairs-none xs ys (λ c d m n. rw ((g c m).2, (s d n).2))

  given-given : Given xs → Given ys → lowest (pairs xs ys) ≡ none
  unfolding clash
  given-given g h = pairs-none xs ys (λ c d m n. rw ((g c m).2, (h d n).2))

-- ---- the kinds that clash

module _ (v s g v' s' g' : List Claim) (votes : Votes v) (stamps : Stamps s) (given : Given g)
    (votes' : Votes v') (stamps' : Stamps s') (given' : Given g') where
  from-votes : lowest (pairs v (v' ++ s' ++ g')) ≡ least (lowest (pairs v v')) (lowest (pairs v g'))
  from-votes =
      pairs_right v (v' ++ s') g'
      ∙ ap (λ z. least z (lowest (pairs v g')))
      (pairs_right v v' s' ∙ ap (least (lowest (pairs v v'))) (votes-stamps v s' votes stamps') ∙ least-none (lowest (pairs v v')))

  from-stamps : lowest (pairs s (v' ++ s' ++ g')) ≡ lowest (pairs s s')
  unfolding least
  from-stamps =
      pairs_right s (v' ++ s') g' ∙ ap (least (lowest (pairs s (v' ++ s')))) (stamps-given s g' stamps given')
      ∙ least-none (lowest (pairs s (v' ++ s'))) ∙ pairs_right s v' s' ∙ ap (λ z. least z (lowest (pairs s s'))) (stamps-votes s v' stamps votes')

  from-given : lowest (pairs g (v' ++ s' ++ g')) ≡ lowest (pairs g v')
  from-given =
      pairs_right g (v' ++ s') g' ∙ ap (least (lowest (pairs g (v' ++ s')))) (given-given g g' given given')
      ∙ least-none (lowest (pairs g (v' ++ s'))) ∙ pairs_right g v' s' ∙ ap (least (lowest (pairs g v'))) (given-stamps g s' given stamps')
      ∙ least-none (lowest (pairs g v'))

  -- in the order of the rules
  pub by_kind : lowest (pairs (v ++ s ++ g) (v' ++ s' ++ g'))
      ≡ least (least (least (lowest (pairs v v')) (lowest (pairs s s'))) (lowest (pairs g v'))) (lowest (pairs v g'))
  by_kind =
      let all' = v' ++ s' ++ g' in
      pairs_left (v ++ s) g all' ∙ rw (pairs_left v s all', from-votes, from-stamps, from-given)
      (order (lowest (pairs v v')) (lowest (pairs v g')) (lowest (pairs s s')) (lowest (pairs g v')))
    where
      order : (a d b c : Option Charge) → least (least (least a d) b) c ≡ least (least (least a b) c) d
      order a d b c =
          ap (λ z. least z c) (least_assoc a d b ∙ ap (least a) (least_comm d b) ∙ sym (least_assoc a b d))
          ∙ least_assoc (least a b) d c ∙ ap (least (least a b)) (least_comm d c) ∙ sym (least_assoc (least a b) c d)

-- ---- what a replica says is of three kinds

said_one : (b : Bool) (c d : Claim) → Memᴰ d (said_if b c) → d ≡ c
unfolding said_if
said_one b c d m =
    ⊎_elim (λ h. Memᴰ.eq_of_singleton h.1) (λ h. absurd (Memᴰ.not-nil h.1)) (mem-cond b (c ∷ []) [] d m)

module _ (k : ℕ) where
  pub are-votes : (ls : List Lead) → Votes (flat_map (vote_by k) ls)
  unfolding vote_by
  are-votes ls c m = let l = joined-mem (vote_by k) ls c m in (l.0.certificate.ballot, said_one _ _ c l.2)

  pub are-stamps : (ls : List Lead) → Stamps (flat_map (stamp_by k) ls)
  unfolding stamp_by
  are-stamps ls c m =
      let l = joined-mem (stamp_by k) ls c m in
      let upto = l.0.term.upto in
      (last_term upto, upto, said_one _ _ c l.2)

  pub are-given : (o : Option Commit) (log : List Record) → Given (receipt_by k o log)
  unfolding receipt_by
  are-given none log c m = absurd (Memᴰ.not-nil m)
  are-given (some o) log c m = (_, _, said_one _ _ c m)
