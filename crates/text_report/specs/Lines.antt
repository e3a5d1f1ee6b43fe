-- The lines that the program prints of a report's bytes (document 01, "The report"): number and where, the
-- fork index, then each named replica, rising.
use Rattle.std.specs.Prelude.{cond, List, [], ◌++◌, ℕ, zero, suc, ◌+◌, ◌-◌, ◌*◌, get_or}
use Rattle.words.specs.BigEndian.{number_at}
use Rattle.roster.specs.Masks.{signer}
use Rattle.text_line.specs.Texts.{refusal_line, fork_line, replica_line}

-- where the row of replica k begins: after number, where, fork index and named replicas, 5 bytes a row
unfoldable pub row_at : ℕ → ℕ
row_at k = 8 + 5 * (k - 1)

-- the line of replica k, if it is named
unfoldable pub named_line : List ℕ → ℕ → List ℕ
named_line report k =
    cond (signer (number_at 2 report 6) k)
    (replica_line k (get_or report (row_at k) 0) (number_at 4 report (row_at k + 1)))
    []

-- the lines of so many replicas from replica k on
unfoldable pub replica_lines : List ℕ → ℕ → ℕ → List ℕ
replica_lines report zero k = []
replica_lines report (suc count) k = named_line report k ++ replica_lines report count (suc k)

-- number and where, the fork index, and replicas 1 to 9
unfoldable pub lines : List ℕ → List ℕ
lines report =
    refusal_line (get_or report 0 0) (get_or report 1 0) ++ fork_line (number_at 4 report 2)
    ++ replica_lines report 9 1
