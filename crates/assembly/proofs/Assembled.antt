-- The assembled view is sound, and its signatures are good: a lead for each term, and a commit with a quorum of receipts, or none.
-- Assumes nothing.
use mathlib.Core.Path.{◌≡◌, refl, sym, ap, ◌∙◌}
use mathlib.Core.Bool.{Bool, true, false, cond}
use mathlib.Core.List.{List, [], ◌∷◌, ◌++◌, map, flat_map}
use mathlib.Core.Logic.{◌⊎◌, inl, inr}
use mathlib.Core.Option.{Option, some, none}
use Prim.Native.Nat.{ℕ, zero, suc, ◌*◌, ◌≤◌, ◌<◌}
use native.Mathlib.Nat.{le_refl}
use native.Mathlib.Omega.{arith}
use borrow.Author.Tests.{eq-eqb, leb-true, le-leb, lt-ltb}
use lib.Count.{ones}
use lib.Dec.{leb}
use lib.ListN.{length, take}
use Rattle.refusal.specs.Checks.{all, every}
use Rattle.refusal.proofs.Laws.{look, every_append}
use Rattle.roster.specs.Roster.{replicas, quorum}
use Rattle.log_chain.specs.Log.{Form, Record, last_term}
use Rattle.log_chain.specs.Claim.{received}
use Rattle.log_chain.specs.Ends.{rising}
use Rattle.log_chain.specs.Runs.{Run, runs}
use Rattle.submission.specs.View.{Certificate, Commit, View, Lead, leads_of, leads, Slot, votes_of, stamp_of, receipts_of, slots}
use Rattle.submission.specs.Validate.{genuine, leading, quorate, masks, commit_signers, ordered, one_each, within}
use Rattle.submission.proofs.Accepted.{Sound}
use Rattle.submission_encoding.specs.Copies.{signers_of, signatures_of}
use Rattle.assembly.specs.Items.{Item}
use Rattle.assembly.specs.Choice.{lead_from, and_then, leads_for, receipts_for, commit_to}
use Rattle.assembly.proofs.Whole.{Long}
use Rattle.assembly.proofs.Chosen.{copies-certified, Chosen, IsLead, no_lead, a-lead, chosen}

abbrev pub certificates_of : List Lead → List Certificate
certificates_of ls = map (λ l. l.certificate) ls

abbrev pub stamps_of : List Lead → List (List ℕ)
stamps_of ls = map (λ l. l.stamp) ls

module _ (form : Form) (roster : List ℕ) (S : ℕ) (is : List Item) (long : Long S is) where
  -- ---- the leads

  pub data AllChosen : List Run → List Lead → Type 0 where
    done : AllChosen [] []
    also : {r : Run} {rs : List Run} {l : Lead} {ls : List Lead} → Chosen form roster S is long r l → AllChosen rs ls → AllChosen (r ∷ rs) (l ∷ ls)

  pub data AreLeads (rs : List Run) : Option (List Lead) → Type 0 where
    no-leads : AreLeads rs none
    some-leads : {ls : List Lead} → AllChosen rs ls → AreLeads rs (some ls)

  pub all-chosen : replicas roster ≤ 16 → (rs : List Run) → AreLeads rs (leads_for form roster is rs)
  unfolding leads_for and_then
  all-chosen few [] = some-leads done
  all-chosen few (r ∷ rs) =
      go (lead_from form roster is (replicas roster) 1 r) (chosen form roster S is long few r (replicas roster) 1 (le_refl 1) (omega arith))
      (leads_for form roster is rs) (all-chosen few rs)
    where
      go : (o : Option Lead) → IsLead form roster S is long r o → (os : Option (List Lead)) → AreLeads rs os → AreLeads (r ∷ rs) (and_then o os)
      go none no_lead os later = no-leads
      go (some l) (a-lead f) none no-leads = no-leads
      go (some l) (a-lead f) (some ls) (some-leads fs) = some-leads (also f fs)

  leads-are : (rs : List Run) (ls : List Lead) → AllChosen rs ls → leads_of (certificates_of ls) rs (stamps_of ls) ≡ ls
  unfolding leads_of
  leads-are [] [] done = refl
  leads-are (r ∷ rs) (l ∷ ls) (also f fs) =
      λ i. record { certificate = l.certificate; term = sym f.term i; stamp = l.stamp } ∷ leads-are rs ls fs i
  leads-are [] (l ∷ ls) neither = elim neither [ ]
  leads-are (r ∷ rs) [] neither = elim neither [ ]

  pub leads-count : (rs : List Run) (ls : List Lead) → AllChosen rs ls
      → (length (certificates_of ls) ≡ length rs) × (length (stamps_of ls) ≡ length (certificates_of ls))
  leads-count [] [] done = (refl, refl)
  leads-count (r ∷ rs) (l ∷ ls) (also f fs) = let k = leads-count rs ls fs in (ap suc k.0, ap suc k.1)
  leads-count [] (l ∷ ls) neither = elim neither [ ]
  leads-count (r ∷ rs) [] neither = elim neither [ ]

  all-leading : (rs : List Run) (ls : List Lead) → AllChosen rs ls → every (leading form (replicas roster)) ls ≡ true
  unfolding every
  all-leading [] [] done = refl
  all-leading (r ∷ rs) (l ∷ ls) (also f fs) = rw f.leads (all-leading rs ls fs)
  all-leading [] (l ∷ ls) neither = elim neither [ ]
  all-leading (r ∷ rs) [] neither = elim neither [ ]

  all-quorate : (rs : List Run) (ls : List Lead) → AllChosen rs ls
      → every (quorate (replicas roster)) (map (λ c. c.signers) (certificates_of ls)) ≡ true
  unfolding every
  all-quorate [] [] done = refl
  all-quorate (r ∷ rs) (l ∷ ls) (also f fs) = rw f.quorum-met (all-quorate rs ls fs)
  all-quorate [] (l ∷ ls) neither = elim neither [ ]
  all-quorate (r ∷ rs) [] neither = elim neither [ ]

  all-votes : (rs : List Run) (ls : List Lead) → AllChosen rs ls → every (genuine form roster) (flat_map (votes_of S) ls) ≡ true
  unfolding flat_map every
  all-votes [] [] done = refl
  all-votes (r ∷ rs) (l ∷ ls) (also f fs) =
      every_append (genuine form roster) (votes_of S l) (flat_map (votes_of S) ls) ∙ rw f.votes (all-votes rs ls fs)
  all-votes [] (l ∷ ls) neither = elim neither [ ]
  all-votes (r ∷ rs) [] neither = elim neither [ ]

  all-stamps : (rs : List Run) (ls : List Lead) → AllChosen rs ls → every (genuine form roster) (map (stamp_of S) ls) ≡ true
  unfolding every
  all-stamps [] [] done = refl
  all-stamps (r ∷ rs) (l ∷ ls) (also f fs) = rw f.stamp (all-stamps rs ls fs)
  all-stamps [] (l ∷ ls) neither = elim neither [ ]
  all-stamps (r ∷ rs) [] neither = elim neither [ ]

  -- ---- the commit certificate

  pub record Settled (log : List Record) (c : Commit) : Type 0 where
    pub above : 0 < c.index
    pub inside : c.index ≤ length log
    pub quorum-met : quorate (replicas roster) c.signers ≡ true
    pub receipts : every (genuine form roster) (receipts_of S (some c) log) ≡ true
    pub size : length c.signatures ≡ S * ones c.signers

  pub data IsCommit (log : List Record) : Option Commit → Type 0 where
    none-settled : IsCommit log none
    one-settled : {c : Commit} → Settled log c → IsCommit log (some c)

  module _ (few : replicas roster ≤ 16) (log : List Record) where
    abbrev mask : ℕ → ℕ
    mask i = signers_of (receipts_for form roster is (suc i) log)

    abbrev the_commit : ℕ → Commit
    the_commit i = record { index = suc i; signers = mask i; signatures = signatures_of (receipts_for form roster is (suc i) log) }

    settled : (i : ℕ) → suc i ≤ length log → quorum (replicas roster) ≤ ones (mask i) → Settled log (the_commit i)
    unfolding receipts_for quorate all receipts_of
    settled i inside enough =
        let upto = take (suc i) log in
        let copies = copies-certified form roster S is long (received (last_term upto) upto) few in
        record {
          above = omega arith;
          inside = inside;
          quorum-met = rw (le-leb _ _ enough, lt-ltb _ _ copies.few);
          receipts = copies.signatures;
          size = copies.size;
        }

    pub commit-settled : (i : ℕ) → i ≤ length log → IsCommit log (commit_to form roster is i log)
    unfolding commit_to
    commit-settled zero h = none-settled
    commit-settled (suc i) h = go (look (leb (quorum (replicas roster)) (ones (mask i)))) (commit-settled i (omega (arith, h)))
      where
        go : (leb (quorum (replicas roster)) (ones (mask i)) ≡ true) ⊎ (leb (quorum (replicas roster)) (ones (mask i)) ≡ false)
            → IsCommit log (commit_to form roster is i log)
            → IsCommit log (cond (leb (quorum (replicas roster)) (ones (mask i))) (some (the_commit i)) (commit_to form roster is i log))
        go (inl y) later = rw y (one-settled (settled i h (leb-true _ _ y)))
        go (inr n) later = rw n later

  -- what the checks ask of it
  module _ (log : List Record) where
    commit-quorate : (o : Option Commit) → IsCommit log o → every (quorate (replicas roster)) (commit_signers o) ≡ true
    unfolding every commit_signers
    commit-quorate none none-settled = refl
    commit-quorate (some c) (one-settled f) = rw f.quorum-met

    commit-within : (o : Option Commit) → IsCommit log o → within o (length log) ≡ true
    unfolding within all
    commit-within none none-settled = refl
    commit-within (some c) (one-settled f) = rw (lt-ltb _ _ f.above, le-leb _ _ f.inside)

    commit-good : (o : Option Commit) → IsCommit log o → every (genuine form roster) (receipts_of S o log) ≡ true
    unfolding every receipts_of
    commit-good none none-settled = refl
    commit-good (some c) (one-settled f) = f.receipts

  -- ---- the view

  module _ (log : List Record) (up : rising 1 log ≡ true) (ls : List Lead) (lead : AllChosen (runs log) ls) (o : Option Commit) (commit : IsCommit log o) where
    abbrev the_view : View
    the_view = record { log = log; leaders = certificates_of ls; stamps = stamps_of ls; commit = o }

    pub sound : Sound form (replicas roster) the_view
    unfolding masks ordered one_each leads
    sound =
        let counts = leads-count (runs log) ls lead in
        record {
          quorums =
              every_append (quorate (replicas roster)) (map (λ c. c.signers) (certificates_of ls)) (commit_signers o)
              ∙ rw (all-quorate (runs log) ls lead) (commit-quorate log o commit);
          order = up;
          count = eq-eqb _ _ counts.0;
          stamped = counts.1;
          leaders = ap (every (leading form (replicas roster))) (leads-are (runs log) ls lead) ∙ all-leading (runs log) ls lead;
          commit = commit-within log o commit;
        }

    pub all-genuine : every (genuine form roster) (slots S the_view) ≡ true
    unfolding slots leads
    all-genuine =
        let test : Slot → Bool = genuine form roster in
        let are = leads-are (runs log) ls lead in
        (λ i. every test (flat_map (votes_of S) (are i) ++ map (stamp_of S) (are i) ++ receipts_of S o log))
        ∙ every_append test (flat_map (votes_of S) ls ++ map (stamp_of S) ls) (receipts_of S o log)
        ∙ ap (λ b. cond b (every test (receipts_of S o log)) false) (every_append test (flat_map (votes_of S) ls) (map (stamp_of S) ls))
        ∙ rw (all-votes (runs log) ls lead, all-stamps (runs log) ls lead) (commit-good log o commit)
