-- The rows of what is taken: what stands in the row of a term, and that it is as long as a row is.
-- Assumes nothing.
use mathlib.Core.Path.{◌≡◌, refl, ap, ◌∙◌}
use mathlib.Core.List.{List}
use Prim.Native.Nat.{ℕ, ◌+◌, ◌-◌, ◌*◌, ◌≤◌, ◌<◌}
use native.Mathlib.Nat.{mul-suc, mul-le-mul_left, add-zero}
use native.Mathlib.Omega.{arith}
use lib.ListN.{length, get_or, take, drop, length-drop}
use lib.Seq.{length-take-le, get_or-drop}
use Rattle.assembly_copies.specs.Rows.{taken_size, Placed, row_at}
use Rattle.words.proofs.Laws.{part_from}
use Rattle.assembly_terms.specs.Wanted.{vote_head, vote_tail}
use Rattle.assembly_copies.proofs.Taken.{row_cell}
use Rattle.assembly_writer.specs.declared.Plan.{Plan}
use Rattle.assembly_writer.specs.Parts.{certificate_in, certificate_part, PlacesHeld, RowsInside}

-- one of some parts of one length lies among them
pub one_inside : (size i count : ℕ) → i < count → size * i + size ≤ size * count
one_inside size i count h = rw (← mul-suc size i) (mul-le-mul_left size h)

-- the end of a term's vote lies in the votes' table
pub vote-inside : (w : ℕ) {tail t count room : ℕ} → tail ≡ vote_tail w → t < count → vote_head + vote_tail w * count ≤ room
    → vote_head + tail * t + tail ≤ room
vote-inside w {t = t} {count = count} h less fits = rw h (omega (arith, one_inside (vote_tail w) t count less, fits))

-- the row of a term, and the certificate of it, as the code cuts them out
pub row_part : (taken : List ℕ) (t : ℕ) → take (taken_size * t + taken_size - taken_size * t) (drop (taken_size * t) taken) ≡ row_at taken t
row_part taken t = part_from taken (taken_size * t) taken_size

pub certificate_part_lem : (item_bytes votes taken : List ℕ) (p : Plan) (tail t : ℕ) → tail ≡ vote_tail p.width
    → certificate_in p.size item_bytes p.replicas
    (take (vote_head + tail * t + tail - (vote_head + tail * t)) (drop (vote_head + tail * t) votes))
    (take (taken_size * t + taken_size - taken_size * t) (drop (taken_size * t) taken)) ≡ certificate_part item_bytes p votes taken t
unfolding certificate_part
certificate_part_lem item_bytes votes taken p tail t h =
    rw (h, part_from votes (vote_head + vote_tail p.width * t) (vote_tail p.width), row_part taken t) refl

module _ {item_bytes : List ℕ} {p : Plan} {taken : List ℕ} (held : RowsInside item_bytes p taken) (t : ℕ) (inside : t ≤ p.leaders) where
  pub row-long : length (row_at taken t) ≡ taken_size
  row-long = length-take-le taken_size (drop (taken_size * t) taken) (rw length-drop (omega (arith, held.long)))

  pub row_first : t < p.leaders → get_or (row_at taken t) 0 0 < 65536
  row_first h =
      let same : taken_size * t + 0 ≡ taken_size * t = omega arith in
      omega (arith, row_cell taken t 0 (omega arith), ap (λ (k : ℕ). get_or taken k 0) same, held.candidates t h, held.replicas)

  pub row-places : PlacesHeld p.size item_bytes p.replicas (drop 2 (row_at taken t))
  unfolding Placed
  row-places =
      record {
        size = held.size;
        few = held.replicas;
        long = omega (arith, length-drop 2 (row_at taken t), row-long, held.replicas);
        inside = λ j h. rw (get_or-drop 2 (row_at taken t) j 0, row_cell taken t (2 + j) (omega (arith, h, held.replicas)))
            (held.inside t (2 + j) inside (omega arith) (omega (arith, h, held.replicas)));
      }

-- ---- the row of the commit, with what follows it

module _ {item_bytes : List ℕ} {p : Plan} {taken : List ℕ} (held : RowsInside item_bytes p taken) where
  abbrev commit-row : List ℕ
  commit-row = drop (taken_size * p.leaders) taken

  pub commit-row-long : taken_size ≤ length commit-row
  commit-row-long = rw length-drop (omega (arith, held.long))

  pub commit-row-first : get_or commit-row 0 0 ≡ get_or taken (taken_size * p.leaders) 0
  commit-row-first = get_or-drop (taken_size * p.leaders) taken 0 0 ∙ ap (λ (k : ℕ). get_or taken k 0) (add-zero (taken_size * p.leaders))

  pub commit-row-places : PlacesHeld p.size item_bytes p.replicas (drop 2 commit-row)
  unfolding Placed
  commit-row-places =
      record {
        size = held.size;
        few = held.replicas;
        long = omega (arith, length-drop 2 commit-row, commit-row-long, held.replicas);
        inside = λ j h. rw (get_or-drop 2 commit-row j 0, get_or-drop (taken_size * p.leaders) taken (2 + j) 0)
            (held.inside p.leaders (2 + j) (omega arith) (omega arith) (omega (arith, h, held.replicas)));
      }
