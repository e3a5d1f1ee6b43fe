-- What the checks before one leave of a submission (document 01, "What stops an audit").
use Rattle.std.specs.Prelude.{◌≡◌, true, List, [], ℕ, length}
use Rattle.refusal.specs.Checks.{every}
use Rattle.roster.specs.Roster.{cluster, replicas, roster_number}
use Rattle.log_chain.specs.Log.{with_terms}
use Rattle.log_terms.specs.Pointed.{PointersOf}
use Rattle.log_terms.specs.declared.LogPointers.{LogPointers}
use Rattle.submission.specs.View.{committed, leads}
use Rattle.submission.specs.Validate.{quorate, masks, one_each, leading, within}
use Rattle.submission_parts.specs.Shapes.{Known, view_in}
use Rattle.submission_parts.specs.declared.Shape.{Shape}

module _ (roster : List ℕ) (shape : Shape) (s : List ℕ) where
  -- 2 to 10
  pub record Laid : Type 0 where
    pub fine : roster_number roster ≡ 0
    pub known : Known shape s
    pub quorums : every (quorate (replicas roster)) (masks (view_in shape s)) ≡ true

  -- 2 to 12
  pub record Counted : Type 0 where
    pub laid : Laid
    pub count : one_each (view_in shape s) ≡ true

  -- 2 to 14
  pub record Checked : Type 0 where
    pub counted : Counted
    pub leaders : every (leading (with_terms shape.width (cluster roster)) (replicas roster))
        (leads (view_in shape s)) ≡ true
    pub commit : within (view_in shape s).commit (length (view_in shape s).log) ≡ true

-- the pointers that check 13 hands on: of the committed records and of the log
abbrev pub PointersIn : Shape → List ℕ → LogPointers → Type 0
PointersIn shape s p =
    PointersOf (with_terms shape.width []) (committed (view_in shape s)) (view_in shape s).log p
