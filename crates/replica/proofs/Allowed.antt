-- An allowed act meets the board rules and the leaf rule; and an act signs once at most.
-- Assumes nothing.
use mathlib.Core.Path.{◌≡◌, sym, ◌∙◌}
use mathlib.Core.Bool.{true}
use mathlib.Core.List.Memᴰ
use mathlib.Core.List.{Memᴰ}
use Prim.Native.Nat.{ℕ}
use Rattle.refusal.specs.Checks.{all}
use Rattle.refusal.proofs.Laws.{all_cons}
use Rattle.log_chain.specs.Log.{Form}
use Rattle.replica.specs.Replica.{State, Act, raise, vote, run, add, stamp, receipt, decline, restart, rules, leaf_rule, allowed, Signing, signs}

module _ (form : Form) (n : ℕ) (s : State) (a : Act) where
  pub by-rules : allowed form n s a ≡ true → all (rules form n s a) ≡ true
  unfolding allowed
  by-rules e = (all_cons _ _ e).0

  pub by-leaf : allowed form n s a ≡ true → leaf_rule form s a ≡ true
  unfolding allowed
  by-leaf e = (all_cons _ _ (all_cons _ _ e).1).0

pub one-signing : (s : State) (a : Act) (x y : Signing) → Memᴰ x (signs s a) → Memᴰ y (signs s a) → x ≡ y
unfolding signs
one-signing s (raise t) x y m k = absurd (Memᴰ.not-nil m)
one-signing s (vote q b) x y m k = Memᴰ.eq_of_singleton m ∙ sym (Memᴰ.eq_of_singleton k)
one-signing s (run i records) x y m k = absurd (Memᴰ.not-nil m)
one-signing s (add r) x y m k = absurd (Memᴰ.not-nil m)
one-signing s (stamp q) x y m k = Memᴰ.eq_of_singleton m ∙ sym (Memᴰ.eq_of_singleton k)
one-signing s (receipt q i) x y m k = Memᴰ.eq_of_singleton m ∙ sym (Memᴰ.eq_of_singleton k)
one-signing s decline x y m k = absurd (Memᴰ.not-nil m)
one-signing s restart x y m k = absurd (Memᴰ.not-nil m)
