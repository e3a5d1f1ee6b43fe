-- The parts of what is written, as the writers have them: from places of the bag, rows of what is taken, and
-- the votes' table.
use Rattle.std.specs.Prelude.{◌≡◌, cond, List, [], ◌∷◌, ◌++◌, ℕ, zero, suc}
use Rattle.std.specs.Prelude.{◌+◌, ◌-◌, ◌*◌, ◌≤◌, ◌<◌, eqb, length, get_or, take, drop}
use Rattle.words.specs.BigEndian.{be}
use Rattle.words.specs.Widths.{width_most}
use Rattle.roster.specs.Sizes.{replicas_most, signature_most}
use Rattle.submission.specs.Validate.{leader_most}
use Rattle.submission_encoding.specs.Copies.{signers_of, signature_of}
use Rattle.assembly_copies.specs.Rows.{taken_size, copy_at, copies_at, Placed, row_at}
use Rattle.assembly_terms.specs.Wanted.{vote_head, vote_tail}
use Rattle.assembly_writer.specs.declared.Plan.{Plan}
use Rattle.assembly_writer.specs.declared.PartSizes.{PartSizes}

-- parts 0, 1, .. one after the other, so many
unfoldable pub joined : (ℕ → List ℕ) → ℕ → List ℕ
joined part zero = []
joined part (suc count) = joined part count ++ part count

-- ---- signatures

module _ (S : ℕ) (item_bytes : List ℕ) where
  -- by its place; nothing for place 0
  unfoldable pub signature_at : ℕ → List ℕ
  signature_at place = signature_of (copy_at S item_bytes place)

  -- those of n replicas
  abbrev pub signatures_at : ℕ → List ℕ → List ℕ
  signatures_at n places = joined (λ k. signature_at (get_or places k 0)) n

  -- the signers, then their signatures
  unfoldable pub signed_at : ℕ → List ℕ → List ℕ
  signed_at n places = be 2 (signers_of (copies_at S item_bytes n places)) ++ signatures_at n places

  -- a leader certificate, from its row and the end of its vote
  unfoldable pub certificate_in : ℕ → List ℕ → List ℕ → List ℕ
  certificate_in n end row = be 2 (get_or row 0 0) ++ end ++ signed_at n (drop 2 row)

  -- the commit certificate, from its row; nothing with index 0
  unfoldable pub commit_part : ℕ → List ℕ → List ℕ
  commit_part n row = cond (eqb (get_or row 0 0) 0) [] (be 4 (get_or row 0 0) ++ signed_at n (drop 2 row))

-- ---- parts 2 and 3

-- the end of the vote of term t
abbrev pub vote_end_at : ℕ → List ℕ → ℕ → List ℕ
vote_end_at w votes t = take (vote_tail w) (drop (vote_head + vote_tail w * t) votes)

module _ (item_bytes : List ℕ) (p : Plan) where
  unfoldable pub certificate_part : List ℕ → List ℕ → ℕ → List ℕ
  certificate_part votes taken t =
      certificate_in p.size item_bytes p.replicas (vote_end_at p.width votes t) (row_at taken t)

  abbrev pub leaders_part : List ℕ → List ℕ → List ℕ
  leaders_part votes taken = joined (certificate_part votes taken) p.leaders

  abbrev pub stamps_part : List ℕ → List ℕ
  stamps_part taken =
      joined (λ t. signature_at p.size item_bytes (get_or taken (taken_size * t + 1) 0)) p.leaders

-- ---- parts 2 to 4

unfoldable pub certified_part : List ℕ → Plan → List ℕ → List ℕ → List ℕ
certified_part item_bytes p votes taken =
    leaders_part item_bytes p votes taken ++ stamps_part item_bytes p taken
    ++ commit_part p.size item_bytes p.replicas (drop (taken_size * p.leaders) taken)

-- how many bytes each has
pub record SizesOf (item_bytes : List ℕ) (p : Plan) (votes taken : List ℕ) (s : PartSizes) : Type 0 where
  pub leaders : s.leaders ≡ length (leaders_part item_bytes p votes taken)
  pub stamps : s.stamps ≡ length (stamps_part item_bytes p taken)
  pub commit : s.commit
      ≡ length (commit_part p.size item_bytes p.replicas (drop (taken_size * p.leaders) taken))

-- ---- part 5

-- the numbers of the trailer: H, L, the four distances, version
abbrev pub fields_for : Plan → ℕ → PartSizes → List ℕ
fields_for p log s =
    p.records ∷ p.leaders ∷ (log + (s.leaders + (s.stamps + s.commit)))
    ∷ (s.leaders + (s.stamps + s.commit)) ∷ (s.stamps + s.commit) ∷ s.commit ∷ 1 ∷ []

abbrev pub field_count : ℕ
field_count = 7

-- each in 4 bytes
abbrev pub fields_part : List ℕ → List ℕ
fields_part fields = joined (λ i. be 4 (get_or fields i 0)) field_count

unfoldable pub trailer_part : List ℕ → List ℕ → List ℕ
trailer_part name fields = name ++ fields_part fields

-- ---- the most bytes: of signers and signatures, of a leader certificate and its stamp, of a commit

abbrev pub signed_most : ℕ
signed_most = 2 + signature_most * replicas_most

abbrev pub lead_most : ℕ
lead_most = 2 + vote_tail width_most + signed_most + signature_most

abbrev pub commit_most : ℕ
commit_most = 4 + signed_most

-- ---- what the writers ask for

-- n replicas, and a whole signature at each of their places that is not 0
pub record PlacesHeld (S : ℕ) (item_bytes : List ℕ) (n : ℕ) (places : List ℕ) : Type 0 where
  pub size : S ≤ signature_most
  pub few : n ≤ replicas_most
  pub long : n ≤ length places
  pub inside : Placed S item_bytes n places

-- rows for so many terms, and one for the commit
pub record RowsInside (item_bytes : List ℕ) (p : Plan) (taken : List ℕ) : Type 0 where
  pub width : p.width ≤ width_most
  pub size : p.size ≤ signature_most
  pub replicas : p.replicas ≤ replicas_most
  pub few : p.leaders ≤ leader_most
  pub long : taken_size * (p.leaders + 1) ≤ length taken
  pub candidates : (t : ℕ) → t < p.leaders → get_or taken (taken_size * t) 0 ≤ p.replicas
  pub inside : (t k : ℕ) → t ≤ p.leaders → 0 < k → k < taken_size
      → get_or taken (taken_size * t + k) 0 ≤ length item_bytes - p.size
