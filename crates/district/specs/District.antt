-- The audit of a district (document 02, W1): up to nine submissions end to end in one buffer, each judged by
-- itself, and every pair of accepted ones audited. The number, and every byte of the report buffer
-- afterwards.
use Rattle.std.specs.Prelude.{cond, ℕ, suc, ◌+◌, eqb, leb, length, Option, Some, None}
use mathlib.Core.List.{List, [], ◌∷◌, ◌++◌, map, flat_map}
use Rattle.std.specs.Int.Bits.{bit_or}
use Rattle.words.specs.BigEndian.{be, number_at}
use Rattle.words.specs.Over.{over}
use Rattle.refusal.specs.Checks.{check, refusal, first}
use Rattle.roster.specs.Roster.{roster_number}
use Rattle.submission.specs.Validate.{validate}
use Rattle.forensics.specs.Findings.{Findings, found_in, mask_of}
use Rattle.district_parts.specs.Parts.{parts, counted, adds_up}
use Rattle.district.specs.declared.Fork.{Fork}
use Rattle.district.specs.declared.Shown.{Shown}

-- ---- the submissions

-- a submission, and its position in the list
pub record Entry : Type 0 where
  pub position : ℕ
  pub bytes : List ℕ

unfoldable pub entry : ℕ → List ℕ → Entry
entry position bytes = record { position = position; bytes = bytes }

-- "refused ones are left out"; those that stay keep their positions. The first of the list has the position
-- given
unfoldable pub accepted_from : List ℕ → ℕ → List (List ℕ) → List Entry
accepted_from roster position [] = []
accepted_from roster position (s ∷ submissions) =
    cond (eqb (validate roster s) 0) (entry position s ∷ accepted_from roster (suc position) submissions)
    (accepted_from roster (suc position) submissions)

-- "from 1"
unfoldable pub accepted : List ℕ → List (List ℕ) → List Entry
accepted roster submissions = accepted_from roster 1 submissions

-- ---- the pairs

pub record Pair : Type 0 where
  pub lower : Entry
  pub higher : Entry

unfoldable pub pair : Entry → Entry → Pair
pair a b = record { lower = a; higher = b }

-- "Every pair of accepted ones is audited, lower position first": by the lower, then by the higher position
unfoldable pub pairs : List Entry → List Pair
pairs [] = []
pairs (a ∷ later) = map (pair a) later ++ pairs later

-- the audit of a pair: its submissions are accepted, so that it is what they show
unfoldable pub found : List ℕ → Pair → Findings
found roster p = found_in roster p.lower.bytes p.higher.bytes

-- ---- what they show

-- "the union of named boards"
unfoldable pub union : List ℕ → List Pair → ℕ
union roster [] = 0
union roster (p ∷ later) = bit_or (mask_of (found roster p).rows) (union roster later)

-- "the first pair that forks (by lower, then higher position, from 1)"
unfoldable pub first_fork : List ℕ → List Pair → Option Fork
first_fork roster [] = None
first_fork roster (p ∷ later) =
    let index = (found roster p).fork in
    cond (eqb index 0) (first_fork roster later)
    (Some (record { index = index; lower = p.lower.position; higher = p.higher.position }))

unfoldable pub shown : List ℕ → List Pair → Shown
shown roster ps = record { named = union roster ps; fork = first_fork roster ps }

-- ---- the number

-- "the count of lengths plus 4": the union's two bytes, and the pair's two
abbrev pub tail_size : ℕ
tail_size = 4

-- 2 to 4 for the roster, then 17, then 18, then 1
unfoldable pub district_number : List ℕ → List ℕ → List ℕ → List ℕ → ℕ
district_number roster buffer lengths report =
    first (roster_number roster) (refusal (
    check 17 (counted lengths) ∷ check 18 (adds_up lengths buffer) ∷
    check 1 (leb (length lengths + tail_size) (length report)) ∷ []
    ))

-- ---- the bytes

-- "its number is one byte of the report"
unfoldable pub number_bytes : List ℕ → List (List ℕ) → List ℕ
number_bytes roster submissions = flat_map (λ s. be 1 (validate roster s)) submissions

-- "one byte each, or 0 and 0 if none"
unfoldable pub fork_bytes : Option Fork → List ℕ
fork_bytes None = be 1 0 ++ be 1 0
fork_bytes (Some f) = be 1 f.lower ++ be 1 f.higher

-- "The report then has the union of named boards (u16) and the first pair that forks .."
unfoldable pub tail_bytes : Shown → List ℕ
tail_bytes s = be 2 s.named ++ fork_bytes s.fork

unfoldable pub district_bytes : List ℕ → List (List ℕ) → List ℕ
district_bytes roster submissions =
    number_bytes roster submissions ++ tail_bytes (shown roster (pairs (accepted roster submissions)))

-- "its other bytes are kept"; "a refused run leaves the report unwritten"
unfoldable pub district_after : List ℕ → List ℕ → List ℕ → List ℕ → List ℕ
district_after roster buffer lengths report =
    cond (eqb (district_number roster buffer lengths report) 0)
    (over (district_bytes roster (parts lengths buffer)) report) report

-- the named replicas, in the report of so many submissions
unfoldable pub named_among : ℕ → List ℕ → ℕ
named_among count report = number_at 2 report count
