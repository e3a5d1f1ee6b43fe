-- The fork index from the first difference of the whole logs: it is that difference where both have committed it, and 0 otherwise.
-- Assumes nothing.
use mathlib.Core.Path.{◌≡◌, sym, ◌∙◌}
use mathlib.Core.List.{List}
use mathlib.Core.Option.{Option, some, none}
use lib.ListN.{take}
use Rattle.log_chain.specs.Log.{Record}
use Rattle.submission.specs.View.{Commit, View, committed_by, committed}
use Rattle.log_chain.specs.Difference.{differ_at}
use Rattle.forensics.specs.Findings.{fork}
use Rattle.forensics_charges.specs.Charges.{difference_of, receipts_by, receipts, committed_index, fork_of}
use Rattle.log_difference.proofs.Differ.{in_both_lem, above-first, above-second, differ-nil, differ-take}
use Rattle.forensics_find.proofs.Reached.{fork_both}

fork_by : (o p : Option Commit) (l m : List Record)
    → differ_at 1 (committed_by o l) (committed_by p m) ≡ fork_of (difference_of (differ_at 1 l m)) (receipts_by o l) (receipts_by p m)
unfolding committed_by receipts_by committed_index differ_at in_both_lem
fork_by none none l m = sym (fork_both (differ_at 1 l m) _ _ ∙ rw (above-first (differ_at 1 l m) 0 0 (λ p. p)))
fork_by none (some e) l m = sym (fork_both (differ_at 1 l m) _ _ ∙ rw (above-first (differ_at 1 l m) 0 e.index (λ p. p)))
fork_by (some c) none l m =
    differ-nil 1 (take c.index l) ∙ sym (fork_both (differ_at 1 l m) _ _ ∙ rw (above-second (differ_at 1 l m) c.index 0 (λ p. p)))
fork_by (some c) (some e) l m = differ-take c.index e.index l m ∙ sym (fork_both (differ_at 1 l m) _ _)

pub fork_ruled : (a b : View) → fork a b ≡ fork_of (difference_of (differ_at 1 a.log b.log)) (receipts a) (receipts b)
unfolding fork committed receipts
fork_ruled a b = fork_by a.commit b.commit a.log b.log
