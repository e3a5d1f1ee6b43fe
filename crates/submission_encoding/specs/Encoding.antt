-- The bytes of a submission, from what it says (document 01, "A submission, read from its trailer"), over the
-- form, the signature's length S and the version: parts in order, with no gap.
use mathlib.Core.List.{List, [], ◌++◌, flat_map}
use Rattle.std.proofs.Math.Option.{Option, some, none}
use Rattle.std.specs.Prelude.{ℕ, ◌+◌, ◌*◌, length, take}
use Rattle.std.specs.Int.Count.{ones}
use Rattle.words.specs.BigEndian.{be}
use Rattle.log_chain.specs.Log.{Form, Record}
use Rattle.log_chain.specs.Claim.{ballot_bytes}
use Rattle.submission.specs.View.{Certificate, Commit, View}

-- ---- part 1

unfoldable pub record_bytes : Form → Record → List ℕ
record_bytes form r = be form.term_bytes r.term ++ r.digest

unfoldable pub log_bytes : Form → List Record → List ℕ
log_bytes form log = flat_map (record_bytes form) log

-- ---- part 3

unfoldable pub stamps_bytes : List (List ℕ) → List ℕ
stamps_bytes stamps = flat_map (λ g. g) stamps

module _ (S : ℕ) where
  -- the signers, and one signature per signer
  unfoldable pub signed_bytes : ℕ → List ℕ → List ℕ
  signed_bytes signers signatures = be 2 signers ++ take (S * ones signers) signatures

  -- ---- part 4

  unfoldable pub commit_bytes : Option Commit → List ℕ
  commit_bytes none = []
  commit_bytes (some c) = be 4 c.index ++ signed_bytes c.signers c.signatures

  module _ (form : Form) where
    -- ---- part 2

    unfoldable pub certificate_bytes : Certificate → List ℕ
    certificate_bytes c = ballot_bytes form c.ballot ++ signed_bytes c.signers c.signatures

    unfoldable pub leaders_bytes : List Certificate → List ℕ
    leaders_bytes cs = flat_map certificate_bytes cs

    -- ---- part 5

    -- the trailer: name, H, L, the four distances, version
    unfoldable pub trailer_bytes : ℕ → View → List ℕ
    trailer_bytes version v =
        let d4 = length (commit_bytes v.commit) in
        let d3 = length (stamps_bytes v.stamps) + d4 in
        let d2 = length (leaders_bytes v.leaders) + d3 in
        let d1 = length (log_bytes form v.log) + d2 in
        form.cluster ++ be 4 (length v.log) ++ be 4 (length v.leaders)
        ++ be 4 d1 ++ be 4 d2 ++ be 4 d3 ++ be 4 d4 ++ be 4 version

    -- ---- the whole

    unfoldable pub encode : ℕ → View → List ℕ
    encode version v =
        log_bytes form v.log ++ leaders_bytes v.leaders ++ stamps_bytes v.stamps
        ++ commit_bytes v.commit ++ trailer_bytes version v
