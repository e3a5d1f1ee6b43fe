-- What follows the first i of a submission's records, which a walk over the log has yet to see: the records,
-- and their terms.
use Rattle.std.specs.Prelude.{List, ℕ, ◌-◌, ◌*◌, drop}
use Rattle.log_chain.specs.Log.{Record}
use Rattle.log_chain.specs.Runs.{Run, runs_after}
use Rattle.log_chain.specs.Records.{record_size, records_of}

abbrev pub records_after : ℕ → ℕ → ℕ → List ℕ → List Record
records_after w count i s = records_of w (count - i) (drop (record_size w * i) s)

abbrev pub runs_left : ℕ → ℕ → ℕ → List ℕ → List Run
runs_left w count i s = runs_after (records_of w i s) (records_after w count i s)
