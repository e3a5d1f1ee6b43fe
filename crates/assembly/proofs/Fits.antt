-- The fields of the assembled view fit their bytes: each term of the log, and what is before it, is a beginning of the log, whose records fit.
-- Assumes nothing.
use mathlib.Core.Path.{◌≡◌, refl, sym, ap, subst}
use mathlib.Core.Bool.{true}
use mathlib.Core.List.{List, [], ◌∷◌, Memᴰ}
use mathlib.Core.Option.{Option, some, none}
use Prim.Native.Nat.{ℕ, ◌^◌, ◌≤◌, ◌<◌}
use native.Mathlib.Nat.{le_trans, lt_of_lt_of_le, lt_of_le_of_lt, le_of_eq, pow-le-pow_right}
use native.Mathlib.Omega.{arith}
use lib.Dec.{lit<}
use lib.ListN.{length, length-take, replicate}
use Rattle.roster.specs.Roster.{replicas}
use Rattle.log_chain.specs.Log.{Form, Record, pointer}
use Rattle.log_chain.specs.Runs.{Run, runs}
use Rattle.log_chain.proofs.Fits.{LogFits, BallotFits}
use Rattle.log_chain.proofs.Prefix.{fits-take, last_fits}
use Rattle.log_chain.proofs.Said.{pointer-length}
use Rattle.log_chain.proofs.Runs.{run-begins}
use Rattle.log_chain.proofs.Linked.{before-begins}
use Rattle.submission.specs.View.{Commit, Lead}
use Rattle.submission.specs.Validate.{quorate}
use Rattle.submission.proofs.Slots.{quorate_facts}
use Rattle.submission_encoding.proofs.Read.{AllFit, none-fit, more-fit}
use Rattle.submission_encoding.proofs.Whole.{AllLong, none-long, more-long, CommitFits, no-commit, a-commit, Fitting}
use Rattle.assembly.specs.Items.{Item}
use Rattle.assembly.specs.Choice.{ballot_for}
use Rattle.assembly.proofs.Whole.{Long}
use Rattle.assembly.proofs.Assembled.{certificates_of, stamps_of, AllChosen, done, also, IsCommit, none-settled, one-settled}

-- ---- the terms of a log

module _ (form : Form) where
  record RunFits (r : Run) : Type 0 where
    before : LogFits form r.before
    upto : LogFits form r.upto
    index : length r.before < 256 ^ 4

  run_fits : (log : List Record) → LogFits form log → length log < 256 ^ 4 → (r : Run) → Memᴰ r (runs log) → RunFits r
  run_fits log fits few r m =
      let begins = before-begins log r m in
      record {
        before = subst (LogFits form) begins (fits-take form (length r.before) fits);
        upto = subst (LogFits form) (run-begins log r m) (fits-take form (length r.upto) fits);
        index = omega (arith, ap length begins, length-take (length r.before) log, few);
      }

  ballot-fits : (c : ℕ) (r : Run) → c ≤ 16 → RunFits r → BallotFits form (ballot_for form c r)
  unfolding ballot_for pointer
  ballot-fits c r few f =
      record {
        candidate = omega arith;
        term = last_fits form f.upto;
        last_term = last_fits form f.before;
        last_index = f.index;
        last_pointer = pointer-length form 0 (replicate 32 0) r.before refl;
      }

-- a mask that passes check 10 has no bit above 16
mask_fits : (n mask : ℕ) → n ≤ 16 → quorate n mask ≡ true → mask < 256 ^ 2
mask_fits n mask few e = lt_of_lt_of_le (quorate_facts n mask e).1 (pow-le-pow_right (lit< tt) few)

-- ---- the parts of the view

module _ (form : Form) (roster : List ℕ) (S : ℕ) (is : List Item) (long : Long S is) where
  certificates-fit : replicas roster ≤ 16 → (rs : List Run) (ls : List Lead) → AllChosen form roster S is long rs ls
      → ((r : Run) → Memᴰ r rs → RunFits form r) → AllFit form S (certificates_of ls)
  certificates-fit few [] [] done fits = none-fit
  certificates-fit few (r ∷ rs) (l ∷ ls) (also f fs) fits =
      more-fit
      (record {
        ballot =
            subst (BallotFits form) (sym f.ballot)
            (ballot-fits form f.candidate r (le_trans f.high few) (fits r (Memᴰ.head refl)));
        signers = mask_fits (replicas roster) l.certificate.signers few f.quorum-met;
        signatures = le_of_eq (sym f.votes-size);
      })
      (certificates-fit few rs ls fs (λ q m. fits q (Memᴰ.tail m)))
  certificates-fit few [] (l ∷ ls) neither fits = elim neither [ ]
  certificates-fit few (r ∷ rs) [] neither fits = elim neither [ ]

  stamps-long : (rs : List Run) (ls : List Lead) → AllChosen form roster S is long rs ls → AllLong S (stamps_of ls)
  stamps-long [] [] done = none-long
  stamps-long (r ∷ rs) (l ∷ ls) (also f fs) = more-long f.stamp-size (stamps-long rs ls fs)
  stamps-long [] (l ∷ ls) neither = elim neither [ ]
  stamps-long (r ∷ rs) [] neither = elim neither [ ]

  commit-fits : replicas roster ≤ 16 → (log : List Record) → length log < 256 ^ 4
      → (o : Option Commit) → IsCommit form roster S is long log o → CommitFits S o
  commit-fits few log short none none-settled = no-commit
  commit-fits few log short (some c) (one-settled f) =
      a-commit (lt_of_le_of_lt f.inside short) (mask_fits (replicas roster) c.signers few f.quorum-met) (le_of_eq (sym f.size))

  pub view-fits : replicas roster ≤ 16 → (log : List Record) → LogFits form log → length log < 256 ^ 4
      → (ls : List Lead) → AllChosen form roster S is long (runs log) ls → (o : Option Commit) → IsCommit form roster S is long log o
      → Fitting form S (record { log = log; leaders = certificates_of ls; stamps = stamps_of ls; commit = o })
  view-fits few log fits short ls lead o commit =
      record {
        log = fits;
        leaders = certificates-fit few (runs log) ls lead (run_fits form log fits short);
        stamps = stamps-long (runs log) ls lead;
        commit = commit-fits few log short o commit;
      }
