-- What is written of a sound view with good signatures is accepted, and reads as the same log.
-- Assumes nothing.
use mathlib.Core.Path.{◌≡◌, sym, ap, ◌∙◌}
use mathlib.Core.Bool.{true}
use mathlib.Core.List.{List}
use Prim.Native.Nat.{ℕ, ◌*◌, ◌≤◌}
use native.Mathlib.Nat.{mul-le-mul_left}
use native.Mathlib.Omega.{arith}
use borrow.Author.Tests.{eq-eqb, le-leb}
use lib.Dec.{lit<}
use lib.ListN.{length}
use Rattle.words.specs.BigEndian.{same}
use Rattle.words.proofs.Same.{true_same}
use Rattle.refusal.specs.Checks.{all, every}
use Rattle.refusal.proofs.Laws.{no_check, passed}
use Rattle.roster.specs.Roster.{cluster, replicas, signature_size, roster_number}
use Rattle.roster.proofs.Accepted.{sizes, signature-bounds, name-length}
use Rattle.log_chain.specs.Log.{version1}
use Rattle.log_chain.specs.Records.{record_size}
use Rattle.submission.specs.View.{View, slots}
use Rattle.submission.specs.Reading.{ballot_size}
use Rattle.submission.specs.Validate.{submission_most, record_most, leader_most, sized, versioned, named, counted, genuine, form_of, view_of, slots_of, validate}
use Rattle.submission.proofs.Accepted.{Sound}
use Rattle.submission_encoding.specs.Encoding.{encode}
use Rattle.submission_encoding.proofs.Whole.{Fitting, Encodable, whole_length, Encoded, encoded}
use Rattle.submission_encoding.proofs.Sizes.{certificate_most, commit_most, parts_most, parts-size}
use Rattle.submission_encoding.proofs.Trim.{trim_view, slots-trim, sound-trim}

-- what a view needs, so that its bytes are accepted
pub record Writable (roster : List ℕ) (v : View) : Type 0 where
  encodable : Encodable (form_of roster) (signature_size roster) 1 v
  sound : Sound (form_of roster) (replicas roster) v
  records : length v.log ≤ record_most
  terms : length v.leaders ≤ leader_most
  small : length (encode (signature_size roster) (form_of roster) 1 v) ≤ submission_most
  signatures : every (genuine (form_of roster) roster) (slots (signature_size roster) v) ≡ true

-- against an accepted roster no size has to be asked: it is at most 1,404,446 bytes
pub writable : (roster : List ℕ) (v : View) → roster_number roster ≡ 0 → Fitting (form_of roster) (signature_size roster) v
    → Sound (form_of roster) (replicas roster) v → length v.log ≤ record_most → length v.leaders ≤ leader_most
    → every (genuine (form_of roster) roster) (slots (signature_size roster) v) ≡ true → Writable roster v
unfolding form_of version1 cluster parts_most certificate_most commit_most record_size ballot_size
writable roster v fine fields sound records terms signatures =
    let S = signature_size roster in
    let n = replicas roster in
    let large = (signature-bounds roster fine).1 in
    let those = sizes roster fine in
    let signers : S * n ≤ S * 9 = mul-le-mul_left S those.high in
    let parts = parts-size (form_of roster) S n v fields sound.stamped sound.quorums records terms in
    let encodable : Encodable (form_of roster) S 1 v =
    record {
      fields = fields;
      each = sound.stamped;
      cluster = name-length roster fine;
      fits = lit< tt;
      records = omega (arith, records);
      terms = omega (arith, terms);
      small = omega (arith, parts, signers, large);
    } in
    record {
      encodable = encodable;
      sound = sound;
      records = records;
      terms = terms;
      small = omega (arith, whole_length (form_of roster) S 1 v encodable, parts, signers, large);
      signatures = signatures;
    }

module _ (roster : List ℕ) (v : View) (ok : Writable roster v) where
  abbrev S : ℕ
  S = signature_size roster

  abbrev s : List ℕ
  s = encode S (form_of roster) 1 v

  abbrev back : Encoded (form_of roster) S 1 v s
  back = encoded (form_of roster) S 1 v ok.encodable

  -- ---- the bytes

  sized-met : sized s ≡ true
  unfolding sized all
  sized-met = rw (le-leb _ _ back.long, le-leb _ _ ok.small)

  versioned-met : versioned s ≡ true
  unfolding versioned
  versioned-met = eq-eqb _ 1 back.versioned

  named-met : named (cluster roster) s ≡ true
  unfolding named form_of version1
  named-met = ap (λ z. same z (cluster roster)) back.named ∙ true_same (cluster roster)

  counted-met : counted s ≡ true
  unfolding counted all
  counted-met = rw (back.records, back.terms, le-leb _ _ ok.records, le-leb _ _ ok.terms)

  -- ---- what it says

  same-trimmed : trim_view S (view_of roster s) ≡ trim_view S v
  unfolding trim_view view_of
  same-trimmed = λ i. record { log = back.log i; leaders = back.leaders i; stamps = back.stamps i; commit = back.commit i }

  sound : Sound (form_of roster) (replicas roster) (view_of roster s)
  sound = sound-trim S (view_of roster s) v same-trimmed (form_of roster) (replicas roster) ok.sound

  same-slots : slots_of roster s ≡ slots S v
  unfolding slots_of
  same-slots = sym (slots-trim S (view_of roster s)) ∙ ap (slots S) same-trimmed ∙ slots-trim S v

  genuine-met : every (genuine (form_of roster) roster) (slots_of roster s) ≡ true
  genuine-met = ap (every (genuine (form_of roster) roster)) same-slots ∙ ok.signatures

  pub written : (validate roster s ≡ 0) × ((view_of roster s).log ≡ v.log)
  unfolding validate view_of
  written = (
    passed 5 _ _ sized-met ∙ passed 6 _ _ versioned-met ∙ passed 7 _ _ named-met ∙ passed 8 _ _ counted-met
        ∙ passed 9 _ _ back.layout ∙ passed 10 _ _ sound.quorums ∙ passed 11 _ _ sound.order ∙ passed 12 _ _ sound.count
        ∙ passed 13 _ _ sound.leaders ∙ passed 14 _ _ sound.commit ∙ passed 15 _ _ genuine-met ∙ no_check,
    back.log,
  )
