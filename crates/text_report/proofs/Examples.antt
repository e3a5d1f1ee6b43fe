-- Worked examples of decimal numbers, and of the lines of document 01, "Bench figures".
-- Assumes nothing.
use mathlib.Core.Path.{◌≡◌, refl, ◌∙◌}
use mathlib.Core.List.{List, [], ◌∷◌, ◌++◌}
use Prim.Native.Nat.{ℕ}
use lib.Dec.{lit<}
use lib.ListN.{replicate}
use Rattle.words.specs.BigEndian.{number, number_at}
use Rattle.roster.specs.Masks.{signer}
use Rattle.text_decimal.specs.Decimal.{digits, decimal}
use Rattle.text_line.specs.Texts.{ascii, refusal_line, fork_line, replica_line}
use Rattle.text_report.specs.Lines.{row_at, named_line, replica_lines, lines}
use Rattle.text_decimal.proofs.Decimal.{decimal-steps}

-- ---- decimal

nought : decimal 0 ≡ ascii "0"
unfolding decimal digits ascii
nought = refl

seven : decimal 7 ≡ ascii "7"
unfolding decimal digits ascii
seven = refl

ten : decimal 10 ≡ ascii "10"
unfolding decimal digits ascii
ten = refl

ten_digits : digits 10 4294967295 ≡ ascii "4294967295"
unfolding digits ascii
ten_digits = refl

highest : decimal 4294967295 ≡ ascii "4294967295"
highest = decimal-steps 9 4294967295 (lit< tt) ∙ ten_digits

-- ---- lines

-- accepted, no fork, nobody named
quiet : lines (replicate 53 0) ≡ ascii "refusal 0 in 0\nfork 0\n"
unfolding lines refusal_line fork_line replica_lines named_line replica_line row_at ascii decimal digits number number_at signer
quiet = refl

-- fork 1; replica 2, whose bit is the second, broke rule 3 with a vote of term 2
forgetful : List ℕ
forgetful = 0 ∷ 0 ∷ 0 ∷ 0 ∷ 0 ∷ 1 ∷ 0 ∷ 2 ∷ replicate 5 0 ++ 3 ∷ 0 ∷ 0 ∷ 0 ∷ 2 ∷ replicate 35 0

named : lines forgetful ≡ ascii "refusal 0 in 0\nfork 1\nboard 2 rule 3 term 2\n"
unfolding forgetful lines refusal_line fork_line replica_lines named_line replica_line row_at ascii decimal digits number number_at signer
named = refl

-- a refusal with two digits, of the second submission; replicas 1 and 9 in a report that names them all the same
both_ends : List ℕ
both_ends = 15 ∷ 2 ∷ 0 ∷ 0 ∷ 0 ∷ 0 ∷ 1 ∷ 1 ∷ 1 ∷ 0 ∷ 0 ∷ 1 ∷ 0 ∷ replicate 35 0 ++ 4 ∷ 0 ∷ 0 ∷ 0 ∷ 12 ∷ []

ends : lines both_ends ≡ ascii "refusal 15 in 2\nfork 0\nboard 1 rule 1 term 256\nboard 9 rule 4 term 12\n"
unfolding both_ends lines refusal_line fork_line replica_lines named_line replica_line row_at ascii decimal digits number number_at signer
ends = refl
