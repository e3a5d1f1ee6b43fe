-- The length of the buffer by its law: a search would count the buffer's elements.
use Rattle.std.proofs.Common.{ℕ, sym}
use Rattle.std.proofs.lemmas.List.{length-replicate}
use Rattle.test_lms.proofs.print_file.Goals as goal

pub slice_bounds-print_file-end : goal.slice_bounds-print_file-end
slice_bounds-print_file-end g c = sym (length-replicate {A = ℕ} 524288 0)
