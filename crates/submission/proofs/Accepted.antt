-- What an accepted submission has: each check by its name, and a stamp for each leader certificate.
-- Assumes nothing.
use mathlib.Core.Path.{◌≡◌, refl, sym, ap, ◌∙◌}
use mathlib.Core.Bool.{true}
use mathlib.Core.List.{List}
use Prim.Native.Nat.{ℕ, zero, suc}
use lib.Dec.{lit<}
use lib.ListN.{length}
use Rattle.refusal.specs.Checks.{every}
use Rattle.refusal.proofs.Laws.{accepted}
use Rattle.roster.specs.Roster.{replicas, signature_size}
use Rattle.log_chain.specs.Log.{Form}
use Rattle.submission.specs.View.{View, leads}
use Rattle.submission.specs.Reading.{view, laid_out, certificates, certificate_end, stamps_at}
use Rattle.submission.specs.Validate.{sized, counted, quorate, masks, ordered, one_each, leading, within, genuine, form_of, view_of, slots_of, validate}

-- ---- what the proofs about logs and certificates need of a view

pub record Sound (form : Form) (n : ℕ) (v : View) : Type 0 where
  pub quorums : every (quorate n) (masks v) ≡ true
  pub order : ordered v ≡ true
  pub count : one_each v ≡ true
  pub stamped : length v.stamps ≡ length v.leaders
  pub leaders : every (leading form n) (leads v) ≡ true
  pub commit : within v.commit (length v.log) ≡ true

-- ---- as many stamps as certificates

module _ (w S : ℕ) (s : List ℕ) where
  pub length-certificates : (count at : ℕ) → length (certificates w S s count at) ≡ count
  unfolding certificates
  length-certificates zero at = refl
  length-certificates (suc count) at = ap suc (length-certificates count (certificate_end w S s at))

  pub length-stamps : (count at : ℕ) → length (stamps_at S s count at) ≡ count
  unfolding stamps_at
  length-stamps zero at = refl
  length-stamps (suc count) at = ap suc (length-stamps count _)

-- ---- the checks

pub record Accepted (roster s : List ℕ) : Type 0 where
  pub size : sized s ≡ true
  pub counts : counted s ≡ true
  pub layout : laid_out (form_of roster).term_bytes (signature_size roster) s ≡ true
  pub sound : Sound (form_of roster) (replicas roster) (view_of roster s)
  pub signatures : every (genuine (form_of roster) roster) (slots_of roster s) ≡ true

pub validated : (roster s : List ℕ) → validate roster s ≡ 0 → Accepted roster s
unfolding validate view_of view
validated roster s e =
    let c5 = accepted 5 _ _ (lit< tt) e in
    let c6 = accepted 6 _ _ (lit< tt) c5.1 in
    let c7 = accepted 7 _ _ (lit< tt) c6.1 in
    let c8 = accepted 8 _ _ (lit< tt) c7.1 in
    let c9 = accepted 9 _ _ (lit< tt) c8.1 in
    let c10 = accepted 10 _ _ (lit< tt) c9.1 in
    let c11 = accepted 11 _ _ (lit< tt) c10.1 in
    let c12 = accepted 12 _ _ (lit< tt) c11.1 in
    let c13 = accepted 13 _ _ (lit< tt) c12.1 in
    let c14 = accepted 14 _ _ (lit< tt) c13.1 in
    let c15 = accepted 15 _ _ (lit< tt) c14.1 in
    record {
      size = c5.0;
      counts = c8.0;
      layout = c9.0;
      sound =
          record {
            quorums = c10.0;
            order = c11.0;
            count = c12.0;
            stamped = length-stamps (form_of roster).term_bytes (signature_size roster) s _ _ ∙ sym (length-certificates (form_of roster).term_bytes (signature_size roster) s _ _);
            leaders = c13.0;
            commit = c14.0;
          };
      signatures = c15.0;
    }
