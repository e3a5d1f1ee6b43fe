-- A replica that keeps the leaf rule signs one message with a leaf. Each state has all that was signed before, and what an allowed act signs
-- agrees with it.
-- Assumes nothing.
use mathlib.Core.Path.{◌≡◌, refl, sym, subst}
use mathlib.Core.Bool.{true, not}
use mathlib.Core.List.Memᴰ
use mathlib.Core.List.{List, [], ◌∷◌, ◌++◌, Memᴰ}
use mathlib.Core.Logic.{⊎_elim}
use Prim.Native.Nat.{ℕ}
use borrow.Author.Tests.{not-true}
use Rattle.refusal.proofs.Laws.{cond-true, every-mem}
use Rattle.lm_format.specs.Uses.{use_of, reused}
use Rattle.lm_format.proofs.Uses.{one-message}
use Rattle.log_chain.specs.Log.{Form}
use Rattle.log_chain.specs.Claim.{say}
use Rattle.replica.specs.Replica.{Signing, State, keeps, signed, Act, raise, vote, run, add, stamp, receipt, decline, restart, use_in, one_message, leaf_rule, allowed, moved, after, signs}
use Rattle.replica.proofs.Allowed.{by-leaf, one-signing}

-- the leaves used are those of before, and what the act signed
used-after : (s : State) (a : Act) → (after s a).used ≡ signs s a ++ s.used
unfolding after moved signs
used-after s (raise t) = refl
used-after s (vote q b) = refl
used-after s (run k records) = refl
used-after s (add r) = refl
used-after s (stamp q) = refl
used-after s (receipt q i) = refl
used-after s decline = refl
used-after s restart = refl

module _ (form : Form) (n : ℕ) where
  -- two signatures with one leaf are on one message
  abbrev OneMessage : Signing → Signing → Type 0
  OneMessage x y = x.leaf ≡ y.leaf → say form x.claim ≡ say form y.claim

  -- what an act signs, against what was signed before
  leaf-rule : (s : State) (a : Act) → allowed form n s a ≡ true
      → (x y : Signing) → Memᴰ x s.used → Memᴰ y (signs s a) → OneMessage x y
  unfolding leaf_rule one_message use_in use_of
  leaf-rule s a e x y m k =
      let before = every-mem (one_message form s.used) (signs s a) (by-leaf form n s a e) y k in
      let apart = every-mem (λ u. not (reused (use_in form u) (use_in form y))) s.used before x m in
      one-message (use_in form x) (use_in form y) (not-true _ apart)

  -- and against what is signed later
  later-leaf : (acts : List Act) (s : State) → keeps form n s acts ≡ true
      → (x y : Signing) → Memᴰ x s.used → Memᴰ y (signed s acts) → OneMessage x y
  unfolding keeps signed
  later-leaf [] s e x y m k = absurd (Memᴰ.not-nil k)
  later-leaf (a ∷ acts) s e x y m k =
      let p = cond-true (allowed form n s a) (keeps form n (after s a) acts) e in
      ⊎_elim
      (λ (h : Memᴰ y (signs s a)). leaf-rule s a p.0 x y m h)
      (λ (h : Memᴰ y (signed (after s a) acts)).
      later-leaf acts (after s a) p.1 x y (subst (Memᴰ x) (sym (used-after s a)) (Memᴰ.append_right (signs s a) m)) h)
      (Memᴰ.append_cases (signs s a) k)

  -- any two of the list
  pub leaves : (acts : List Act) (s : State) → keeps form n s acts ≡ true
      → (x y : Signing) → Memᴰ x (signed s acts) → Memᴰ y (signed s acts) → OneMessage x y
  unfolding keeps signed
  leaves [] s e x y m k = absurd (Memᴰ.not-nil m)
  leaves (a ∷ acts) s e x y m k =
      let p = cond-true (allowed form n s a) (keeps form n (after s a) acts) e in
      let t = after s a in
      let kept : (z : Signing) → Memᴰ z (signs s a) → Memᴰ z t.used =
      λ z h. subst (Memᴰ z) (sym (used-after s a)) (Memᴰ.append_left s.used h) in
      ⊎_elim
      (λ (h : Memᴰ x (signs s a)).
      ⊎_elim
      (λ (j : Memᴰ y (signs s a)). subst (OneMessage x) (one-signing s a x y h j) (λ d. refl))
      (λ (j : Memᴰ y (signed t acts)). later-leaf acts t p.1 x y (kept x h) j)
      (Memᴰ.append_cases (signs s a) k))
      (λ (h : Memᴰ x (signed t acts)).
      ⊎_elim
      (λ (j : Memᴰ y (signs s a)). λ d. sym (later-leaf acts t p.1 y x (kept y j) h (sym d)))
      (λ (j : Memᴰ y (signed t acts)). leaves acts t p.1 x y h j)
      (Memᴰ.append_cases (signs s a) k))
      (Memᴰ.append_cases (signs s a) m)
