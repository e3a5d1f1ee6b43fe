-- Four hash values or four blocks side by side, one in each lane.
use Rattle.std.specs.Prelude.{ℕ, ◌*◌}
pub use Rattle.sha256_lane_words.specs.Lane.{Lane, first, second, third, fourth}
unfoldable pub use Rattle.sha256_lane_words.specs.Lane.{lane, place, word_in, changed}

-- the words of a block (FIPS 180-4, 5.2.1)
abbrev pub block_words : ℕ
block_words = 16

-- the words of a list in which a schedule of 64 words for each of four lanes stand side by side
abbrev pub room_words : ℕ
room_words = 4 * 64
