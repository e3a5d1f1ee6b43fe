-- A key's identifier I as it is held in words (RFC 8554, 5.3: a 16-byte string).
use Rattle.std.specs.Prelude.{List, ◌++◌, ℕ, ◌+◌}
use Rattle.words.specs.BigEndian.{be}
use Rattle.lm_hash.specs.declared.Leaf.{Leaf}

unfoldable pub identifier : Leaf → List ℕ
identifier leaf = be 4 leaf.i0 ++ be 4 leaf.i1 ++ be 4 leaf.i2 ++ be 4 leaf.i3

-- the bytes of I || u32str(q) || u16str(d), with which every hash begins
abbrev pub prefix_size : ℕ
prefix_size = 16 + 4 + 2
