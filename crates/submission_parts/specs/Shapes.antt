-- What check 9 leaves known of a submission (document 01, "A submission, read from its trailer").
use Rattle.std.specs.Prelude.{◌≡◌, true, List, ℕ}
use Rattle.submission.specs.Trailer.{record_count, leader_count}
use Rattle.submission.specs.View.{View}
use Rattle.submission.specs.Reading.{leaders_from, stamps_from, view, laid_out}
use Rattle.submission_parts.specs.declared.Shape.{Shape}
use Rattle.submission_parts.specs.Parts.{Bounds}

-- its widths, its counts, and where parts 2 and 3 stand
unfoldable pub shape_of : ℕ → ℕ → List ℕ → Shape
shape_of w S s =
    record {
      width = w;
      size = S;
      records = record_count s;
      leaders = leader_count s;
      from = leaders_from w S s;
      stamps = stamps_from w S s;
    }

-- what a submission of a shape says
abbrev pub view_in : Shape → List ℕ → View
view_in shape s = view shape.width shape.size s

-- checks 5, 8 and 9 were met, and this is the shape
pub record Known (shape : Shape) (s : List ℕ) : Type 0 where
  pub bounds : Bounds shape.width shape.size s
  pub layout : laid_out shape.width shape.size s ≡ true
  pub shaped : shape ≡ shape_of shape.width shape.size s
