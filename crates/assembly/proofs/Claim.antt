-- The claim: what is assembled is accepted, and reads as the log that was given. A log of bytes has fields that fit theirs; everything else
-- follows from the number 0.
-- Assumes nothing.
use mathlib.Core.Path.{◌≡◌, refl, sym, ap, subst, ◌∙◌}
use mathlib.Core.Bool.{true}
use mathlib.Core.List.{List}
use mathlib.Core.Option.{Option, some, none, map, some-injective, some-ne-none}
use Prim.Native.Nat.{ℕ, ◌/◌, ◌≤◌}
use native.Mathlib.Nat.{le_refl, mul-div-le}
use native.Mathlib.Omega.{arith}
use lib.ListN.{length, take}
use Rattle.words.proofs.Bytes.{Bytes}
use Rattle.words.proofs.Over.{over-taken}
use Rattle.roster.specs.Roster.{replicas, signature_size, roster_number}
use Rattle.roster.proofs.Accepted.{sizes}
use Rattle.log_chain.specs.Log.{Form, Record}
use Rattle.log_chain.specs.Records.{record_size}
use Rattle.log_chain.specs.Ends.{rising}
use Rattle.log_chain.specs.Runs.{runs}
use Rattle.log_chain.proofs.Records.{length-records}
use Rattle.log_chain.proofs.Fits.{LogFits}
use Rattle.submission.specs.View.{Lead}
use Rattle.submission.specs.Validate.{record_most, leader_most, form_of, view_of, validate}
use Rattle.submission.proofs.Fits.{records-fit}
use Rattle.submission_encoding.specs.Encoding.{encode}
use Rattle.submission_encoding.proofs.Accepted.{Writable, writable, written}
use Rattle.assembly.specs.Items.{Item, items_of, whole}
use Rattle.assembly.specs.Choice.{leads_for, commit_to}
use Rattle.assembly.specs.Assembly.{log_of, log_counted, records_given, items_given, view_with, assembled_view, assembled, assemble_number, assembled_bytes, assemble_length, output_after}
use Rattle.assembly.specs.Claims.{Assembled}
use Rattle.assembly.proofs.Whole.{Long, items-long}
use Rattle.assembly.proofs.Assembled.{certificates_of, AllChosen, AreLeads, some-leads, all-chosen, leads-count, commit-settled, sound, all-genuine}
use Rattle.assembly.proofs.Fits.{view-fits}
use Rattle.assembly.proofs.Counted.{log-tests, terms-few}
use Rattle.assembly.proofs.Answers.{all-passed, bytes-written}

-- ---- the log

module _ (form : Form) (log : List ℕ) where
  -- records of bytes fit
  log-fits : Bytes log → LogFits form (log_of form.term_bytes log)
  unfolding log_of
  log-fits bytes = records-fit form (length log / record_size form.term_bytes) log bytes (mul-div-le (length log) (record_size form.term_bytes))

  log-short : log_counted form.term_bytes log ≡ true → length (log_of form.term_bytes log) ≤ record_most
  unfolding log_of
  log-short e = rw length-records (log-tests form.term_bytes log e).1

-- ---- the view

module _ (roster log item_bytes : List ℕ) where
  abbrev form : Form
  form = form_of roster

  abbrev S : ℕ
  S = signature_size roster

  -- a lead for each term, or not: the bytes, or none
  pub not-all-led : leads_for form roster (items_given roster item_bytes) (runs (records_given roster log)) ≡ none → assembled roster log item_bytes ≡ none
  unfolding assembled assembled_view
  not-all-led e = rw e

  pub no_bytes : assembled roster log item_bytes ≡ none → leads_for form roster (items_given roster item_bytes) (runs (records_given roster log)) ≡ none
  unfolding assembled assembled_view
  no_bytes e = go (leads_for form roster (items_given roster item_bytes) (runs (records_given roster log))) e
    where
      go : (o : Option (List Lead)) → map (encode S form 1) (map (view_with roster log item_bytes) o) ≡ none → o ≡ none
      go none e = refl
      go (some ls) e = absurd (some-ne-none _ e)

  pub all-led : (ls : List Lead) → leads_for form roster (items_given roster item_bytes) (runs (records_given roster log)) ≡ some ls
      → assembled roster log item_bytes ≡ some (encode S form 1 (view_with roster log item_bytes ls))
  unfolding assembled assembled_view
  all-led ls e = rw e

  -- bytes only where there is one
  record MadeOf (s : List ℕ) : Type 0 where
    leads : List Lead
    found : leads_for form roster (items_given roster item_bytes) (runs (records_given roster log)) ≡ some leads
    encoded : encode S form 1 (view_with roster log item_bytes leads) ≡ s

  made_of : (s : List ℕ) → assembled roster log item_bytes ≡ some s → MadeOf s
  unfolding assembled assembled_view
  made_of s e = go (leads_for form roster (items_given roster item_bytes) (runs (records_given roster log))) refl e
    where
      go : (o : Option (List Lead)) → leads_for form roster (items_given roster item_bytes) (runs (records_given roster log)) ≡ o
          → map (encode S form 1) (map (view_with roster log item_bytes) o) ≡ some s → MadeOf s
      go none is e = absurd (some-ne-none s (sym e))
      go (some ls) is e = record { leads = ls; found = is; encoded = some-injective _ _ e }

  module _ (fine : roster_number roster ≡ 0) (counted : log_counted form.term_bytes log ≡ true) (order : rising 1 (records_given roster log) ≡ true)
      (items : whole form.term_bytes S item_bytes ≡ true) (bytes : Bytes log) (ls : List Lead)
      (found : leads_for form roster (items_given roster item_bytes) (runs (records_given roster log)) ≡ some ls) where
    abbrev records : List Record
    records = records_given roster log

    abbrev is : List Item
    is = items_given roster item_bytes

    few : replicas roster ≤ 16
    few = omega (arith, (sizes roster fine).high)

    long : Long S is
    unfolding items_of whole
    long = items-long form.term_bytes S 0 item_bytes items

    some-chosen : AreLeads form roster S is long (runs records) (some ls) → AllChosen form roster S is long (runs records) ls
    some-chosen (some-leads all) = all

    lead : AllChosen form roster S is long (runs records) ls
    lead = some-chosen (subst (AreLeads form roster S is long (runs records)) found (all-chosen form roster S is long few (runs records)))

    -- at most 64 leads, one for each term
    leads-few : length (certificates_of ls) ≤ leader_most
    leads-few = rw (leads-count form roster S is long (runs records) ls lead).0 (terms-few form.term_bytes log counted order)

    view-writable : Writable roster (view_with roster log item_bytes ls)
    unfolding view_with
    view-writable =
        let short = log-short form log counted in
        let o = commit_to form roster is (length records) records in
        let commit = commit-settled form roster S is long few records (length records) (le_refl (length records)) in
        writable roster (view_with roster log item_bytes ls) fine
        (view-fits form roster S is long few records (log-fits form log bytes) (omega (arith, short)) ls lead o commit)
        (sound form roster S is long records order ls lead o commit) short leads-few
        (all-genuine form roster S is long records order ls lead o commit)

-- ---- the claim

module _ (roster log item_bytes output : List ℕ) where
  -- what was written, read again
  read_again : (s : List ℕ) → assembled_bytes roster log item_bytes output ≡ s
      → take (assemble_length roster log item_bytes output) (output_after roster log item_bytes output) ≡ s
  unfolding assemble_length output_after
  read_again s e = over-taken (assembled_bytes roster log item_bytes output) output (length (assembled_bytes roster log item_bytes output)) refl ∙ e

  pub claim : Bytes log
      → Assembled roster log (assemble_number roster log item_bytes output) (assemble_length roster log item_bytes output) (output_after roster log item_bytes output)
  unfolding Assembled view_with
  claim bytes is_zero =
      let ok = all-passed roster log item_bytes output is_zero in
      let s = ok.fitted.bytes in
      let made = made_of roster log item_bytes s ok.fitted.made in
      let view = view-writable roster log item_bytes ok.fine ok.counted ok.order ok.items bytes made.leads made.found in
      let fine = written roster (view_with roster log item_bytes made.leads) view in
      let same = read_again s (bytes-written roster log item_bytes output s is_zero ok.fitted.made) ∙ sym made.encoded in
      (ap (validate roster) same ∙ fine.0, ap (λ z. (view_of roster z).log) same ∙ fine.1)
