-- The bytes of the value, written to the place.
use Rattle.lm_hash.proofs.put_value.Goals as goal

pub returns : goal.returns
returns c = simp (c.put_bytes.ensures, c.bytes-bytes.ensures)
