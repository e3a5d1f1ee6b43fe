-- The leaders of the rows: their certificates and stamps are parts 2 and 3 as they are written, and the commit's is part 4.
-- Assumes nothing.
use mathlib.Core.Path.{◌≡◌, refl, sym, ap, ◌∙◌}
use mathlib.Core.Bool.{true, false}
use mathlib.Core.List.{List, [], ◌∷◌, map, flat_map}
use mathlib.Core.Logic.{⊎_elim}
use Prim.Native.Nat.{ℕ, zero, suc, ◌+◌, ◌*◌, ◌<◌}
use native.Mathlib.Omega.{arith}
use lib.Dec.{eqb}
use lib.ListN.{length, get_or, drop}
use Rattle.words.proofs.FlatMap.{flat_map-map}
use Rattle.refusal.proofs.Laws.{look}
use Rattle.roster.specs.Roster.{name_size}
use Rattle.log_chain.specs.Log.{Form, with_terms}
use Rattle.log_chain.specs.Runs.{Run, run}
use Rattle.submission.specs.View.{Lead}
use Rattle.submission_encoding.specs.Encoding.{certificate_bytes, leaders_bytes, stamps_bytes, commit_bytes}
use Rattle.assembly_copies.specs.Rows.{taken_size, lead_in, leads_in, commit_in, row_at}
use Rattle.assembly_terms.specs.Wanted.{vote_end, VotesIn}
use Rattle.assembly_terms.proofs.Wanted.{vote-end, ballot-end}
use Rattle.assembly_copies.proofs.Taken.{row_later, row_cell}
use Rattle.assembly_writer.specs.declared.Plan.{Plan}
use Rattle.assembly_writer.specs.Parts.{joined, signature_at, certificate_in, commit_part, certificate_part, leaders_part, stamps_part, PlacesHeld, RowsInside}
use Rattle.assembly_writer.proofs.Joined.{joined_same, joined_list}
use Rattle.assembly_writer.proofs.Signed.{signed_part}
use Rattle.assembly_writer.proofs.Rows.{row-places}

-- ---- one row

module _ (S : ℕ) (item_bytes : List ℕ) (form : Form) (n : ℕ) where
  pub leads-count : (taken : List ℕ) (rs : List Run) → length (leads_in S item_bytes form n taken rs) ≡ length rs
  unfolding leads_in
  leads-count taken [] = refl
  leads-count taken (r ∷ rs) = ap suc (leads-count (drop taken_size taken) rs)

  lead-at : (taken : List ℕ) (rs : List Run) (d : Lead) (i : ℕ) → i < length rs
      → get_or (leads_in S item_bytes form n taken rs) i d ≡ lead_in S item_bytes form n (row_at taken i) (get_or rs i (run [] []))
  unfolding leads_in
  lead-at taken [] d i h = absurd (omega arith)
  lead-at taken (r ∷ rs) d zero h = refl
  lead-at taken (r ∷ rs) d (suc i) h =
      lead-at (drop taken_size taken) rs d i (omega arith)
      ∙ ap (λ z. lead_in S item_bytes form n z (get_or rs i (run [] []))) (row_later taken i)

  certificate-bytes : (row : List ℕ) (r : Run) → PlacesHeld S item_bytes n (drop 2 row)
      → certificate_bytes S form (lead_in S item_bytes form n row r).certificate ≡ certificate_in S item_bytes n (vote_end form r) row
  unfolding lead_in certificate_bytes certificate_in
  certificate-bytes row r held = rw (ballot-end form (get_or row 0 0) r, signed_part S item_bytes n (drop 2 row) held) refl

  pub commit-bytes : (row : List ℕ) → PlacesHeld S item_bytes n (drop 2 row) → commit_bytes S (commit_in S item_bytes n row) ≡ commit_part S item_bytes n row
  unfolding commit_in commit_bytes commit_part
  commit-bytes row held =
      ⊎_elim
      (λ (e : eqb (get_or row 0 0) 0 ≡ true). rw e refl)
      (λ (e : eqb (get_or row 0 0) 0 ≡ false). rw (e, signed_part S item_bytes n (drop 2 row) held) refl)
      (look (eqb (get_or row 0 0) 0))

-- ---- all rows

module _ (item_bytes votes taken name : List ℕ) (p : Plan) (held : RowsInside item_bytes p taken) (named : length name ≡ name_size)
    (rs : List Run) (each : p.leaders ≡ length rs) where
  abbrev form : Form
  form = with_terms p.width name

  abbrev taken-leads : List Lead
  taken-leads = leads_in p.size item_bytes form p.replicas taken rs

  abbrev no_lead : Lead
  no_lead = lead_in p.size item_bytes form p.replicas [] (run [] [])

  leads-joined : (f : Lead → List ℕ) (part : ℕ → List ℕ)
      → ((i : ℕ) → i < p.leaders → f (lead_in p.size item_bytes form p.replicas (row_at taken i) (get_or rs i (run [] []))) ≡ part i)
      → flat_map f taken-leads ≡ joined part p.leaders
  leads-joined f part h =
      let count : length taken-leads ≡ p.leaders = leads-count p.size item_bytes form p.replicas taken rs ∙ sym each in
      joined_list f no_lead taken-leads ∙ ap (joined (λ i. f (get_or taken-leads i no_lead))) count
      ∙ joined_same (λ i. f (get_or taken-leads i no_lead)) part p.leaders
      (λ i less. ap f (lead-at p.size item_bytes form p.replicas taken rs no_lead i (omega (arith, less, each))) ∙ h i less)

  certificate-at : VotesIn form 1 rs votes → (i : ℕ) → i < p.leaders
      → certificate_bytes p.size form (lead_in p.size item_bytes form p.replicas (row_at taken i) (get_or rs i (run [] []))).certificate
      ≡ certificate_part item_bytes p votes taken i
  unfolding certificate_part
  certificate-at tabled i less =
      certificate-bytes p.size item_bytes form p.replicas (row_at taken i) (get_or rs i (run [] [])) (row-places held i (omega (arith, less)))
      ∙ ap (λ z. certificate_in p.size item_bytes p.replicas z (row_at taken i))
      (sym (vote-end form named rs votes i (omega (arith, less, each)) 1 tabled))

  pub leaders-bytes : VotesIn form 1 rs votes
      → leaders_bytes p.size form (map (λ l. l.certificate) taken-leads) ≡ leaders_part item_bytes p votes taken
  unfolding leaders_bytes
  leaders-bytes tabled =
      flat_map-map (certificate_bytes p.size form) (λ (l : Lead). l.certificate) taken-leads
      ∙ leads-joined (λ (l : Lead). certificate_bytes p.size form l.certificate) (certificate_part item_bytes p votes taken) (certificate-at tabled)

  stamp-at : (i : ℕ) → i < p.leaders
      → (lead_in p.size item_bytes form p.replicas (row_at taken i) (get_or rs i (run [] []))).stamp ≡ signature_at p.size item_bytes (get_or taken (taken_size * i + 1) 0)
  unfolding lead_in signature_at
  stamp-at i less = ap (λ (k : ℕ). signature_at p.size item_bytes k) (row_cell taken i 1 (omega arith))

  pub stamps-bytes : stamps_bytes (map (λ l. l.stamp) taken-leads) ≡ stamps_part item_bytes p taken
  unfolding stamps_bytes
  stamps-bytes =
      flat_map-map (λ (g : List ℕ). g) (λ (l : Lead). l.stamp) taken-leads
      ∙ leads-joined (λ (l : Lead). l.stamp) (λ t. signature_at p.size item_bytes (get_or taken (taken_size * t + 1) 0)) stamp-at
