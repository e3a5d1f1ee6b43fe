-- The kinds of line that the program prints of a report (document 01, "The report"): `refusal N in W`,
-- `fork I` and `board B rule R term T`, all in decimal. Each ends with a line feed.
use Rattle.std.specs.Prelude.{List, [], ◌∷◌, ◌++◌, ℕ}
use Prim.Native.Char.{code}
use Prim.Native.String.{String, [] as empty, ◌∷◌ as ◌then◌}
use Rattle.text_decimal.specs.Decimal.{decimal}

-- the bytes of a text in ASCII
unfoldable pub ascii : String → List ℕ
ascii empty = []
ascii (c then s) = code c ∷ ascii s

unfoldable pub refusal_line : ℕ → ℕ → List ℕ
refusal_line number place =
    (ascii "refusal " ++ decimal number) ++ (ascii " in " ++ decimal place) ++ ascii "\n"

unfoldable pub fork_line : ℕ → List ℕ
fork_line index = (ascii "fork " ++ decimal index) ++ ascii "\n"

unfoldable pub replica_line : ℕ → ℕ → ℕ → List ℕ
replica_line replica rule term =
    (ascii "board " ++ decimal replica) ++ (ascii " rule " ++ decimal rule)
    ++ (ascii " term " ++ decimal term) ++ ascii "\n"
