-- What is written is laid out as check 9 asks, and reads as what it was written from.
-- Assumes nothing.
use mathlib.Core.Path.{◌≡◌, refl, sym, ap, ◌∙◌}
use mathlib.Core.Bool.{true, cond}
use mathlib.Core.List.{List, [], ◌∷◌, ◌++◌, map, flat_map, append_assoc}
use mathlib.Core.Option.{Option, some, none}
use Prim.Native.Nat.{ℕ, ◌+◌, ◌*◌, ◌^◌, ◌≤◌, ◌<◌}
use native.Mathlib.Nat.{mul-suc, suc-mul}
use native.Mathlib.Omega.{arith}
use borrow.Author.Tests.{eq-eqb, ne_eqb}
use lib.Count.{ones}
use lib.Dec.{eqb}
use lib.ListN.{length, take, drop, length-append}
use lib.Seq.{drop_at}
use Rattle.words.specs.BigEndian.{be, number_at}
use Rattle.words.proofs.Laws.{length-be}
use Rattle.refusal.specs.Checks.{all}
use Rattle.roster.specs.Roster.{name_size}
use Rattle.log_chain.specs.Log.{Form, Record}
use Rattle.log_chain.specs.Records.{record_size, records_of}
use Rattle.log_chain.proofs.Fits.{LogFits, empty, more}
use Rattle.submission.specs.Trailer.{trailer_size, trailer_at, name, record_count, leader_count, distance, version}
use Rattle.submission.specs.View.{Commit, View}
use Rattle.submission.specs.Reading.{certificates, certificates_end, stamps_at, commit_at, commit_end, signers_at, leaders_from, stamps_from, commit_from, commit_of, view, laid_out}
use Rattle.submission_encoding.specs.Encoding.{record_bytes, log_bytes, signed_bytes, commit_bytes, leaders_bytes, stamps_bytes, trailer_bytes, encode}
use Rattle.submission_encoding.proofs.Read.{next_field, field_here, number_here, records-read, trimmed, AllFit, BackAll, certificates-read, signed-read, signed-length}
use Rattle.submission_encoding.proofs.Trailer.{Words, words_read}

-- ---- part 1

pub log-length : (form : Form) (log : List Record) → LogFits form log → length (log_bytes form log) ≡ record_size form.term_bytes * length log
unfolding log_bytes flat_map record_bytes record_size
log-length form [] empty = omega arith
log-length form (r ∷ log) (more f fs) =
    let rest : length (log_bytes form log) ≡ (form.term_bytes + 32) * length log = log-length form log fs in
    rw (length-append, length-append, length-be, f.digest, rest, mul-suc) (omega arith)

-- ---- part 3

-- each stamp has S bytes
pub data AllLong (S : ℕ) : List (List ℕ) → Type 0 where
  none-long : AllLong S []
  more-long : {g : List ℕ} {gs : List (List ℕ)} → length g ≡ S → AllLong S gs → AllLong S (g ∷ gs)

module _ (S : ℕ) where
  pub stamps-length : (gs : List (List ℕ)) → AllLong S gs → length (stamps_bytes gs) ≡ length gs * S
  unfolding stamps_bytes flat_map
  stamps-length [] none-long = omega arith
  stamps-length (g ∷ gs) (more-long h hs) =
      let rest : length (stamps_bytes gs) ≡ length gs * S = stamps-length gs hs in
      rw (length-append, h, rest, suc-mul) (omega arith)

  stamps-read : (gs : List (List ℕ)) → AllLong S gs → (s : List ℕ) (at : ℕ) (rest : List ℕ)
      → drop at s ≡ stamps_bytes gs ++ rest → stamps_at S s (length gs) at ≡ gs
  unfolding stamps_bytes flat_map stamps_at
  stamps-read [] none-long s at rest e = refl
  stamps-read (g ∷ gs) (more-long h hs) s at rest e =
      let e0 : drop at s ≡ g ++ (stamps_bytes gs ++ rest) = e ∙ append_assoc g (stamps_bytes gs) rest in
      λ i. field_here s at g _ S h e0 i ∷ stamps-read gs hs s (at + S) rest (next_field s at g _ S h e0) i

  -- ---- part 4

  -- a commit certificate with its own signatures alone
  unfoldable pub trimmed_commit : Option Commit → Option Commit
  trimmed_commit none = none
  trimmed_commit (some c) =
      some (record { index = c.index; signers = c.signers; signatures = take (S * ones c.signers) c.signatures })

  pub data CommitFits : Option Commit → Type 0 where
    no-commit : CommitFits none
    a-commit : {c : Commit} → c.index < 256 ^ 4 → c.signers < 256 ^ 2 → S * ones c.signers ≤ length c.signatures → CommitFits (some c)

  pub commit-length : (c : Commit) → S * ones c.signers ≤ length c.signatures
      → length (commit_bytes S (some c)) ≡ 6 + S * ones c.signers
  unfolding commit_bytes
  commit-length c h = rw (length-append, length-be, signed-length S c.signers c.signatures h) (omega arith)

-- ---- the whole

-- each field fits its bytes
pub record Fitting (form : Form) (S : ℕ) (v : View) : Type 0 where
  pub log : LogFits form v.log
  pub leaders : AllFit form S v.leaders
  pub stamps : AllLong S v.stamps
  pub commit : CommitFits S v.commit

-- what a view needs, so that its bytes are read as the view: the trailer's fields fit too
pub record Encodable (form : Form) (S number : ℕ) (v : View) : Type 0 where
  pub fields : Fitting form S v
  pub each : length v.stamps ≡ length v.leaders
  pub cluster : length form.cluster ≡ name_size
  pub fits : number < 256 ^ 4
  pub records : length v.log < 256 ^ 4
  pub terms : length v.leaders < 256 ^ 4
  pub small : length (log_bytes form v.log)
      + (length (leaders_bytes S form v.leaders) + (length (stamps_bytes v.stamps) + length (commit_bytes S v.commit))) < 256 ^ 4

-- what some bytes say, but for what follows a certificate's own signatures
pub record Encoded (form : Form) (S number : ℕ) (v : View) (s : List ℕ) : Type 0 where
  pub long : trailer_size ≤ length s
  pub versioned : version s ≡ number
  pub named : name s ≡ form.cluster
  pub records : record_count s ≡ length v.log
  pub terms : leader_count s ≡ length v.leaders
  pub layout : laid_out form.term_bytes S s ≡ true
  pub log : (view form.term_bytes S s).log ≡ v.log
  pub leaders : map (trimmed S) (view form.term_bytes S s).leaders ≡ map (trimmed S) v.leaders
  pub stamps : (view form.term_bytes S s).stamps ≡ v.stamps
  pub commit : trimmed_commit S (view form.term_bytes S s).commit ≡ trimmed_commit S v.commit

module _ (form : Form) (S number : ℕ) (v : View) (ok : Encodable form S number v) where
  abbrev part1 : List ℕ
  part1 = log_bytes form v.log

  abbrev part2 : List ℕ
  part2 = leaders_bytes S form v.leaders

  abbrev part3 : List ℕ
  part3 = stamps_bytes v.stamps

  abbrev part4 : List ℕ
  part4 = commit_bytes S v.commit

  abbrev trailer : List ℕ
  trailer = trailer_bytes S form number v

  abbrev s : List ℕ
  s = encode S form number v

  parts : s ≡ part1 ++ (part2 ++ (part3 ++ (part4 ++ trailer)))
  unfolding encode
  parts =
      append_assoc (part1 ++ part2 ++ part3) part4 trailer ∙ append_assoc (part1 ++ part2) part3 (part4 ++ trailer)
      ∙ append_assoc part1 part2 (part3 ++ (part4 ++ trailer))

  trailer-length : length trailer ≡ trailer_size
  unfolding trailer_bytes
  trailer-length = simp (length-append, length-be, ok.cluster)

  pub whole_length : length s ≡ length part1 + (length part2 + (length part3 + (length part4 + trailer_size)))
  whole_length = ap length parts ∙ rw (length-append, length-append, length-append, length-append, trailer-length)

  -- ---- where the parts stand

  at-leaders : drop (length part1) s ≡ part2 ++ (part3 ++ (part4 ++ trailer))
  at-leaders = ap (drop (length part1)) parts ∙ drop_at part1 _ (length part1) refl

  at-stamps : drop (length part1 + length part2) s ≡ part3 ++ (part4 ++ trailer)
  at-stamps = next_field s (length part1) part2 _ (length part2) refl at-leaders

  at-commit : drop (length part1 + length part2 + length part3) s ≡ part4 ++ trailer
  at-commit = next_field s (length part1 + length part2) part3 _ (length part3) refl at-stamps

  at-trailer : drop (trailer_at s) s ≡ trailer
  at-trailer =
      let place : length part1 + length part2 + length part3 + length part4 ≡ trailer_at s = omega (arith, whole_length) in
      rw place at (next_field s (length part1 + length part2 + length part3) part4 trailer (length part4) refl at-commit)

  words : Words s form.cluster (length v.log) (length v.leaders)
      (length part1 + (length part2 + (length part3 + length part4))) (length part2 + (length part3 + length part4))
      (length part3 + length part4) (length part4) number
  unfolding trailer_bytes
  words =
      words_read s form.cluster _ _ _ _ _ _ number ok.cluster ok.records ok.terms ok.small (omega (arith, ok.small))
      (omega (arith, ok.small)) (omega (arith, ok.small)) ok.fits at-trailer

  abbrev w : ℕ
  w = form.term_bytes

  leaders-place : leaders_from w S s ≡ length part1
  unfolding leaders_from
  leaders-place = ap (λ H. record_size w * H) words.records ∙ sym (log-length form v.log ok.fields.log)

  back : BackAll form S s (length part1) v.leaders (part3 ++ (part4 ++ trailer))
  back = certificates-read form S v.leaders ok.fields.leaders s (length part1) _ at-leaders

  stamps-place : stamps_from w S s ≡ length part1 + length part2
  unfolding stamps_from
  stamps-place =
      ap (λ L. certificates_end w S s L (leaders_from w S s)) words.leaders
      ∙ ap (λ at. certificates_end w S s (length v.leaders) at) leaders-place ∙ back.end

  commit-place : commit_from w S s ≡ length part1 + length part2 + length part3
  unfolding commit_from
  commit-place =
      ap (λ at. at + leader_count s * S) stamps-place ∙ ap (λ L. length part1 + length part2 + L * S) (words.leaders ∙ sym ok.each)
      ∙ ap (λ k. length part1 + length part2 + k) (sym (stamps-length S v.stamps ok.fields.stamps))

  -- ---- the commit certificate

  record CommitBack : Type 0 where
    same : trimmed_commit S (commit_of w S s) ≡ trimmed_commit S v.commit
    ends : cond (eqb (distance s 4) 0) true (eqb (commit_end S s (commit_from w S s)) (trailer_at s)) ≡ true

  commit-read : (o : Option Commit) → CommitFits S o → v.commit ≡ o → CommitBack
  unfolding commit_of trimmed_commit commit_bytes commit_at commit_end
  commit-read none no-commit e =
      let nothing : distance s 4 ≡ 0 = words.fourth ∙ ap (λ o. length (commit_bytes S o)) e in
      record { same = rw (eq-eqb _ 0 nothing, e); ends = rw (eq-eqb _ 0 nothing) }
  commit-read (some c) (a-commit index-fits signers-fit long) e =
      let own = signed_bytes S c.signers c.signatures in
      let is : part4 ≡ be 4 c.index ++ own = ap (commit_bytes S) e in
      let size : length part4 ≡ 6 + S * ones c.signers = ap (λ o. length (commit_bytes S o)) e ∙ commit-length S c long in
      let something : distance s 4 ≡ 0 → ⊥ = λ z. omega (arith, sym words.fourth ∙ z, size) in
      let at = length part1 + length part2 + length part3 in
      let e0 : drop at s ≡ be 4 c.index ++ (own ++ trailer) =
      at-commit ∙ ap (λ d. d ++ trailer) is ∙ append_assoc (be 4 c.index) own trailer in
      let e1 = next_field s at (be 4 c.index) _ 4 (length-be 4 c.index) e0 in
      let signing = signed-read S c.signers c.signatures signers-fit long s (at + 4) trailer e1 in
      let index : number_at 4 s (commit_from w S s) ≡ c.index =
      ap (λ p. number_at 4 s p) commit-place ∙ number_here s at 4 c.index (own ++ trailer) index-fits e0 in
      let signers : signers_at s (commit_from w S s + 4) ≡ c.signers = ap (λ p. signers_at s (p + 4)) commit-place ∙ signing.0 in
      let first_signature : commit_from w S s + 6 ≡ at + 4 + 2 = omega (arith, commit-place) in
      let signatures : take (S * ones (signers_at s (commit_from w S s + 4))) (drop (commit_from w S s + 6) s)
      ≡ take (S * ones c.signers) c.signatures =
      (λ i. take (S * ones (signers i)) (drop (first_signature i) s)) ∙ signing.1 in
      let ends : commit_from w S s + 6 + S * ones (signers_at s (commit_from w S s + 4)) ≡ trailer_at s =
      ap (λ m. commit_from w S s + 6 + S * ones m) signers ∙ omega (arith, commit-place, size, whole_length) in
      let here : trimmed_commit S (commit_of w S s) ≡ trimmed_commit S (some c) =
      rw (ne_eqb _ 0 something) (λ i. some (record { index = index i; signers = signers i; signatures = signatures i })) in
      record {
        same = here ∙ sym (ap (trimmed_commit S) e);
        ends = rw (ne_eqb _ 0 something) (eq-eqb _ _ ends);
      }

  -- ---- all of it

  pub encoded : Encoded form S number v s
  unfolding view laid_out all
  encoded =
      let commit = commit-read v.commit ok.fields.commit refl in
      let first : distance s 1 ≡ trailer_at s = words.first ∙ omega (arith, whole_length) in
      let second : leaders_from w S s + distance s 2 ≡ trailer_at s = omega (arith, leaders-place, words.second, whole_length) in
      let third : stamps_from w S s + distance s 3 ≡ trailer_at s = omega (arith, stamps-place, words.third, whole_length) in
      let fourth : commit_from w S s + distance s 4 ≡ trailer_at s = omega (arith, commit-place, words.fourth, whole_length) in
      record {
        long = omega (arith, whole_length);
        versioned = words.versioned;
        named = words.named;
        records = words.records;
        terms = words.leaders;
        layout = rw (eq-eqb _ _ first, eq-eqb _ _ second, eq-eqb _ _ third, eq-eqb _ _ fourth, commit.ends);
        log = ap (λ H. records_of w H s) words.records ∙ records-read form v.log s _ ok.fields.log parts;
        leaders =
            ap (λ L. map (trimmed S) (certificates w S s L (leaders_from w S s))) words.leaders
            ∙ ap (λ at. map (trimmed S) (certificates w S s (length v.leaders) at)) leaders-place ∙ back.same;
        stamps =
            ap (λ L. stamps_at S s L (stamps_from w S s)) (words.leaders ∙ sym ok.each)
            ∙ ap (λ at. stamps_at S s (length v.stamps) at) stamps-place
            ∙ stamps-read S v.stamps ok.fields.stamps s (length part1 + length part2) _ at-stamps;
        commit = commit.same;
      }
