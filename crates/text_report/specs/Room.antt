-- The most bytes of a report's lines.
use Rattle.std.specs.Prelude.{ℕ, ◌+◌, ◌*◌}
use Rattle.forensics.specs.Findings.{row_count}
use Rattle.text_line.specs.Room.{refusal_room, fork_room, replica_room}

-- the lines of the replicas
abbrev pub replicas_room : ℕ
replicas_room = row_count * replica_room

-- all lines
abbrev pub lines_room : ℕ
lines_room = refusal_room + fork_room + replicas_room

-- the buffer that the lines are put into
abbrev pub text_size : ℕ
text_size = 512
