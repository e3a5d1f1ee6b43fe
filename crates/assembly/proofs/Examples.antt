-- Worked examples: statements and bags by their bytes, check 8, which copy counts, which candidate and which
-- commit are taken, the order of the numbers, and the empty log.
-- Assumes nothing.
use mathlib.Core.Path.{◌≡◌, refl, sym, ◌∙◌}
use mathlib.Core.Bool.{true, false}
use mathlib.Core.List.{List, [], ◌∷◌, ◌++◌, map, flat_map}
use mathlib.Core.Option
use mathlib.Core.Option.{Option, some, none, or_else}
use Prim.Native.Nat.{ℕ, suc}
use native.Mathlib.Omega.{arith}
use borrow.Author.Tests.{eq-eqb, ne_eqb}
use lib.Count.{ones}
use lib.Dec.{leb}
use lib.ListN.{length, replicate, length-append}
use Rattle.words.specs.BigEndian.{number, number_at, same}
use Rattle.words.proofs.Laws.{length-be}
use Rattle.words.proofs.Same.{true_same}
use Rattle.refusal.specs.Checks.{all}
use Rattle.lms.specs.Check.{good}
use Rattle.roster.specs.Roster.{replicas, quorum, key_of, signature_size, roster_number}
use Rattle.roster.specs.Masks.{signer}
use Rattle.roster.proofs.Accepted.{name-length}
use Rattle.log_chain.specs.Log.{Form, version1, Record}
use Rattle.log_chain.specs.Records.{record_size, records_of}
use Rattle.log_chain.specs.Ends.{rising}
use Rattle.log_chain.specs.Runs.{Run, runs, runs_after}
use Rattle.log_distinct.specs.Distinct.{occurs, distinct}
use Rattle.submission.specs.View.{View, Lead}
use Rattle.submission.specs.Reading.{ballot_size}
use Rattle.submission.specs.Validate.{form_of}
use Rattle.submission_encoding.specs.Encoding.{log_bytes, leaders_bytes, stamps_bytes, commit_bytes, trailer_bytes, encode}
use Rattle.submission_encoding.specs.Copies.{bit_of, signers_of}
use Rattle.assembly.specs.Items.{Item, statement_size, first_size, item_size, first_item, items_after, items_of, whole_after, whole, fits, copy_of, copies_from, copies}
use Rattle.assembly.specs.Choice.{votes_for, lead_of, stamp_by, lead_by, lead_from, leads_for, receipts_for, commit_to}
use Rattle.assembly.specs.Assembly.{log_of, log_counted, records_given, items_given, view_with, assembled_view, assembled, input_number, output_number, assemble_number}
use Rattle.assembly.proofs.Answers.{number-8, number-11, number-19, input-met, roster-refuses, input-refuses, output-decides, none-led, output-enough, output-short}
use Rattle.assembly.proofs.Claim.{not-all-led}

-- ---- the bag

-- the bytes of a statement by its kind, with terms of 4 bytes and of 8
kinds : (map (statement_size 4) (0 ∷ 1 ∷ 2 ∷ 3 ∷ 4 ∷ []) ≡ 0 ∷ 57 ∷ 57 ∷ 63 ∷ 0 ∷ []) × (map (statement_size 8) (1 ∷ 2 ∷ 3 ∷ []) ≡ 61 ∷ 61 ∷ 71 ∷ [])
unfolding statement_size ballot_size
kinds = (refl, refl)

-- an item of replica 258 with so many bytes after its kind byte; a signature has 2 bytes
bytes : ℕ → ℕ → List ℕ
bytes kind more = 1 ∷ 2 ∷ kind ∷ replicate more 9

-- no item; one of each kind; two items; one byte too few and one too many; two bytes and one; kinds 0 and 4
whole-items : (whole 4 2 [] ≡ true) × (whole 4 2 (bytes 1 58) ≡ true) × (whole 4 2 (bytes 2 58) ≡ true) × (whole 4 2 (bytes 3 64) ≡ true)
    × (whole 4 2 (bytes 3 64 ++ bytes 2 58) ≡ true) × (whole 4 2 (bytes 2 57) ≡ false) × (whole 4 2 (bytes 2 59) ≡ false)
    × (whole 4 2 (1 ∷ 2 ∷ []) ≡ false) × (whole 4 2 (1 ∷ []) ≡ false) × (whole 4 2 (bytes 0 58) ≡ false) × (whole 4 2 (bytes 4 64) ≡ false)
    × (whole 4 2 (bytes 1 58 ++ bytes 4 64) ≡ false)
unfolding bytes whole whole_after first_size item_size statement_size ballot_size
whole-items = (refl, refl, refl, refl, refl, refl, refl, refl, refl, refl, refl, refl)

-- what two items say
items : items_of 4 2 (bytes 3 62 ++ (7 ∷ 8 ∷ []) ++ bytes 1 56 ++ (5 ∷ 6 ∷ []))
    ≡ record { replica = 258; statement = 3 ∷ replicate 62 9; signature = 7 ∷ 8 ∷ [] }
    ∷ record { replica = 258; statement = 1 ∷ replicate 56 9; signature = 5 ∷ 6 ∷ [] } ∷ []
unfolding bytes items_of items_after first_item first_size item_size statement_size ballot_size number_at number
items = refl

-- ---- check 8

-- one record, and a byte more
ends : (log_counted 4 (replicate 36 1) ≡ true) × (log_counted 4 (replicate 37 1) ≡ false)
unfolding log_counted log_of record_size records_of distinct occurs all
ends = (refl, refl)

-- 4,096 records and 4,097; 64 distinct terms and 65
limits : (log : List ℕ)
    → (length log ≡ 147456 → distinct (log_of 4 log) ≡ 64 → log_counted 4 log ≡ true) × (length log ≡ 147492 → log_counted 4 log ≡ false)
    × (length log ≡ 147456 → distinct (log_of 4 log) ≡ 65 → log_counted 4 log ≡ false)
unfolding log_counted record_size all
limits log = ((λ e d. rw (e, d)), (λ e. rw e), (λ e d. rw (e, d)))

-- ---- the copy that counts

by : ℕ → List ℕ → List ℕ → Item
by replica said signature = record { replica = replica; statement = said; signature = signature }

module _ (roster : List ℕ) (k : ℕ) (statement : List ℕ) (g h : List ℕ) where
  -- the first of two good ones
  first-copy : good (key_of roster k) statement g ≡ true → copy_of roster k statement (by k statement g ∷ by k statement h ∷ []) ≡ some g
  unfolding copy_of fits all by
  first-copy y = rw (eq-eqb k k refl, true_same statement, y)

  -- a bad one before it is passed over
  bad-before : good (key_of roster k) statement g ≡ false → good (key_of roster k) statement h ≡ true
      → copy_of roster k statement (by k statement g ∷ by k statement h ∷ []) ≡ some h
  unfolding copy_of fits all by
  bad-before n y = rw (eq-eqb k k refl, true_same statement, n, y)

  -- one on another statement, and another replica's, whatever its signature is
  others : (said : List ℕ) → same said statement ≡ false → copy_of roster k statement (by k said g ∷ by (suc k) statement h ∷ []) ≡ none
  unfolding copy_of fits all by
  others said other = rw (eq-eqb k k refl, other, ne_eqb (suc k) k (λ e. omega (arith, e)))

-- all good signers, and not a quorum of them alone
all-signers : (roster statement : List ℕ) (g : List ℕ) → replicas roster ≡ 3
    → ((k : ℕ) → good (key_of roster k) statement g ≡ true)
    → signers_of (copies roster statement (by 1 statement g ∷ by 2 statement g ∷ by 3 statement g ∷ [])) ≡ 7
unfolding copies copies_from copy_of fits all by signers_of bit_of
all-signers roster statement g n y = rw (n, true_same statement, y 1, y 2, y 3)

-- ---- the candidate and the commit that are taken

module _ (form : Form) (roster : List ℕ) (is : List Item) where
  -- a candidate with a quorum of votes, its own among them, and a stamp leads; none leads that lacks one of the three
  module _ (c : ℕ) (r : Run) where
    abbrev mask : ℕ
    mask = signers_of (votes_for form roster is c r)

    leads : (g : List ℕ) → leb (quorum (replicas roster)) (ones mask) ≡ true → signer mask c ≡ true → stamp_by form roster is c r ≡ some g
        → Option.map (λ l. l.stamp) (lead_by form roster is c r) ≡ some g
    unfolding lead_by lead_of all
    leads g y z e = rw (y, z, e)

    few-votes : leb (quorum (replicas roster)) (ones mask) ≡ false → lead_by form roster is c r ≡ none
    unfolding lead_by all
    few-votes n = rw n

    no-own-vote : leb (quorum (replicas roster)) (ones mask) ≡ true → signer mask c ≡ false → lead_by form roster is c r ≡ none
    unfolding lead_by all
    no-own-vote y n = rw (y, n)

    no-stamp : leb (quorum (replicas roster)) (ones mask) ≡ true → signer mask c ≡ true → stamp_by form roster is c r ≡ none
        → lead_by form roster is c r ≡ none
    unfolding lead_by lead_of all
    no-stamp y z e = rw (y, z, e)

  -- the lower of two candidates, and the higher where the lower lacks something
  lower : (r : Run) (l m : Lead) → lead_by form roster is 1 r ≡ some l → lead_by form roster is 2 r ≡ some m → lead_from form roster is 2 1 r ≡ some l
  unfolding lead_from or_else
  lower r l m e d = rw e

  higher : (r : Run) (m : Lead) → lead_by form roster is 1 r ≡ none → lead_by form roster is 2 r ≡ some m → lead_from form roster is 2 1 r ≡ some m
  unfolding lead_from or_else
  higher r m e d = rw (e, d)

  -- the higher of two indexes with a quorum of receipts; the lower where the higher has none; no commit
  module _ (log : List Record) where
    enough : ℕ → Type 0
    enough i = leb (quorum (replicas roster)) (ones (signers_of (receipts_for form roster is i log))) ≡ true

    short : ℕ → Type 0
    short i = leb (quorum (replicas roster)) (ones (signers_of (receipts_for form roster is i log))) ≡ false

    taken : Option ℕ
    taken = Option.map (λ c. c.index) (commit_to form roster is 2 log)

    highest : enough 2 → enough 1 → taken ≡ some 2
    unfolding enough taken commit_to
    highest y z = rw y

    next-lower : short 2 → enough 1 → taken ≡ some 1
    unfolding enough short taken commit_to
    next-lower n y = rw (n, y)

    neither : short 2 → short 1 → taken ≡ none
    unfolding short taken commit_to
    neither n m = rw (n, m)

-- ---- the order of the numbers

module _ (roster log item_bytes : List ℕ) where
  abbrev w : ℕ
  w = (form_of roster).term_bytes

  abbrev S : ℕ
  S = signature_size roster

  -- the roster's number before all others
  roster-first : (output : List ℕ) → roster_number roster ≡ 4 → assemble_number roster log item_bytes output ≡ 4
  roster-first output e = sym (roster-refuses roster log item_bytes output (sym e) (λ z. omega (arith, z)))

  module _ (fine : roster_number roster ≡ 0) where
    -- 8, whatever 11, 19, 20 and 21 say
    eight : (output : List ℕ) → log_counted w log ≡ false → assemble_number roster log item_bytes output ≡ 8
    eight output e = sym (input-refuses roster log item_bytes output fine (sym (number-8 w S log item_bytes e)) (λ z. omega (arith, z)))

    module _ (counted : log_counted w log ≡ true) where
      -- 11, whatever 19, 20 and 21 say
      eleven : (output : List ℕ) → rising 1 (records_given roster log) ≡ false → assemble_number roster log item_bytes output ≡ 11
      eleven output e =
          sym (input-refuses roster log item_bytes output fine (sym (number-11 w S log item_bytes counted e)) (λ z. omega (arith, z)))

      module _ (order : rising 1 (records_given roster log) ≡ true) where
        -- 19, whatever 20 and 21 say
        nineteen : (output : List ℕ) → whole w S item_bytes ≡ false → assemble_number roster log item_bytes output ≡ 19
        nineteen output e =
            sym (input-refuses roster log item_bytes output fine (sym (number-19 w S log item_bytes counted order e)) (λ z. omega (arith, z)))

        -- 20, into an empty output too
        twenty : whole w S item_bytes ≡ true → leads_for (form_of roster) roster (items_given roster item_bytes) (runs (records_given roster log)) ≡ none
            → assemble_number roster log item_bytes [] ≡ 20
        twenty items e =
            sym (output-decides roster log item_bytes [] fine (input-met w S log item_bytes counted order items))
            ∙ none-led roster log item_bytes [] (not-all-led roster log item_bytes e)

-- ---- the empty log

module _ (roster item_bytes : List ℕ) (fine : roster_number roster ≡ 0) (items-whole : whole 4 (signature_size roster) item_bytes ≡ true) where
  nothing : View
  nothing = record { log = []; leaders = []; stamps = []; commit = none }

  empty-bytes : List ℕ
  empty-bytes = encode (signature_size roster) (form_of roster) 1 nothing

  made : assembled roster [] item_bytes ≡ some empty-bytes
  unfolding assembled assembled_view view_with form_of version1 log_of record_size records_of runs runs_after leads_for commit_to nothing empty-bytes
  made = refl

  empty-length : length empty-bytes ≡ 44
  unfolding empty-bytes nothing encode log_bytes leaders_bytes stamps_bytes commit_bytes trailer_bytes flat_map form_of version1
  empty-length = simp (length-append, length-be, name-length roster fine)

  early : input_number 4 (signature_size roster) [] item_bytes ≡ 0
  unfolding log_counted log_of record_size records_of distinct rising all
  early = input-met 4 (signature_size roster) [] item_bytes refl refl items-whole

  number_is : (output : List ℕ) (r : ℕ) → output_number roster [] item_bytes output ≡ r → assemble_number roster [] item_bytes output ≡ r
  unfolding form_of version1
  number_is output r e = sym (output-decides roster [] item_bytes output fine early) ∙ e

  -- accepted into 44 bytes, with any bag that is whole; one byte fewer is too small
  empty-fits : (output : List ℕ) → length output ≡ 44 → assemble_number roster [] item_bytes output ≡ 0
  empty-fits output e = number_is output 0 (output-enough roster [] item_bytes output empty-bytes made (omega (arith, empty-length, e)))

  empty-short : (output : List ℕ) → length output ≡ 43 → assemble_number roster [] item_bytes output ≡ 21
  empty-short output e = number_is output 21 (output-short roster [] item_bytes output empty-bytes made (omega (arith, empty-length, e)))
