-- The accepted submissions as the code holds them: where each stands in the buffer, its position, and its
-- pointers.
use Rattle.std.specs.Prelude.{◌≡◌, cond, ℕ, suc, ◌+◌, ◌≤◌, eqb, length, take, drop}
use Rattle.std.specs.Prelude.{Option, Some, Result, Ok, Err}
use mathlib.Core.List.{List, [], ◌∷◌, map, Memᴰ}
use Rattle.std.specs.Int.Bits.{bit_or}
use Rattle.roster.specs.Roster.{roster_number}
use Rattle.log_terms.specs.Pointed.{PointersOf}
use Rattle.submission.specs.View.{committed}
use Rattle.submission.specs.Validate.{form_of, view_of, validate}
use Rattle.log_terms.specs.declared.LogPointers.{LogPointers}
use Rattle.forensics.specs.Findings.{Findings, mask_of}
use Rattle.district_parts.specs.Parts.{count_most}
use Rattle.district.specs.declared.Fork.{Fork}
use Rattle.district.specs.declared.Shown.{Shown}
use Rattle.district.specs.District.{Entry, entry}
use Rattle.district_pairs.specs.declared.Part.{Part}
use Rattle.district_pairs.specs.declared.Entries.{Entries}

-- ---- the submissions

unfoldable pub entry_of : List ℕ → Part → Entry
entry_of buffer p = entry p.position (take p.size (drop p.start buffer))

unfoldable pub parts_of : Entries → List Part
parts_of e = take e.count e.parts

unfoldable pub entries_of : List ℕ → Entries → List Entry
entries_of buffer e = map (entry_of buffer) (parts_of e)

-- the submission of index i, from 0, if it is accepted
unfoldable pub judged : {Refusal : Type 0} → Result LogPointers Refusal → ℕ → ℕ → ℕ → List Part
judged (Ok pointers) i start size =
    record { position = suc i; start = start; size = size; pointers = pointers } ∷ []
judged (Err refusal) i start size = []

-- a submission inside the buffer that the roster accepts, with its pointers
pub record Fit (roster buffer : List ℕ) (p : Part) : Type 0 where
  pub inside : p.start + p.size ≤ length buffer
  pub valid : validate roster (entry_of buffer p).bytes ≡ 0
  pub pointed :
      let v = view_of roster (entry_of buffer p).bytes in
      PointersOf (form_of roster) (committed v) v.log p.pointers

-- nine places, of which no more than so many are taken
pub record Room (most : ℕ) (e : Entries) : Type 0 where
  pub places : length e.parts ≡ count_most
  pub taken : e.count ≤ most

-- accepted submissions, against a roster that is accepted
pub record Held (roster buffer : List ℕ) (e : Entries) : Type 0 where
  pub fine : roster_number roster ≡ 0
  pub room : Room count_most e
  pub fit : (p : Part) → Memᴰ p (parts_of e) → Fit roster buffer p

-- ---- what they show

-- the fork of a pair of two positions, or where it has none that of the later ones
unfoldable pub sooner : ℕ → ℕ → ℕ → Option Fork → Option Fork
sooner index lower higher later =
    cond (eqb index 0) later (Some (record { index = index; lower = lower; higher = higher }))

-- the findings of a pair of two positions, before what later pairs show
unfoldable pub before : ℕ → ℕ → Findings → Shown → Shown
before lower higher f later =
    record {
      named = bit_or (mask_of f.rows) later.named;
      fork = sooner f.fork lower higher later.fork;
    }
