-- The statements that are looked for in a bag, for the terms of a log: votes for one candidate, and stamps.
-- All votes begin alike, and all stamps; what each has of its own stands behind, one after the other.
use Rattle.std.specs.Prelude.{◌≡◌, ℕ, ◌+◌, ◌*◌, length, take}
use mathlib.Core.List.{List, ◌∷◌, ◌++◌, flat_map}
use Rattle.words.specs.BigEndian.{be}
use Rattle.roster.specs.Roster.{name_size}
use Rattle.log_chain.specs.Log.{Form, last_term}
use Rattle.log_chain.specs.Claim.{place}
use Rattle.log_chain.specs.Runs.{Run}
use Rattle.submission.specs.Validate.{leader_most}

-- ---- sizes: what a vote begins with (kind, name, candidate) and ends with (term; last term, index, pointer)

abbrev pub vote_head : ℕ
vote_head = 1 + name_size + 2

abbrev pub vote_tail : ℕ → ℕ
vote_tail w = w + w + 4 + 32

-- and a stamp (kind, name; term, index, pointer)
abbrev pub stamp_head : ℕ
stamp_head = 1 + name_size

abbrev pub stamp_tail : ℕ → ℕ
stamp_tail w = w + 4 + 32

-- the room that both tables need at most
abbrev pub votes_room : ℕ → ℕ
votes_room w = vote_head + vote_tail w * leader_most

abbrev pub stamps_room : ℕ → ℕ
stamps_room w = stamp_head + stamp_tail w * leader_most

-- ---- the statements

module _ (form : Form) where
  unfoldable pub vote_end : Run → List ℕ
  vote_end r =
      be form.term_bytes (last_term r.upto) ++ place form (last_term r.before) r.before

  unfoldable pub stamp_end : Run → List ℕ
  stamp_end r = place form (last_term r.upto) r.upto

  unfoldable pub votes_wanted : ℕ → List Run → List ℕ
  votes_wanted candidate rs =
      ((form.first_kind + 2) ∷ form.cluster ++ be 2 candidate) ++ flat_map vote_end rs

  unfoldable pub stamps_wanted : List Run → List ℕ
  stamps_wanted rs = (form.first_kind ∷ form.cluster) ++ flat_map stamp_end rs

  -- a table begins with them
  unfoldable pub VotesIn : ℕ → List Run → List ℕ → Type 0
  VotesIn candidate rs table = let b = votes_wanted candidate rs in take (length b) table ≡ b

  unfoldable pub StampsIn : List Run → List ℕ → Type 0
  StampsIn rs table = let b = stamps_wanted rs in take (length b) table ≡ b
