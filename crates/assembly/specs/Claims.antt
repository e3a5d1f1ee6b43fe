-- The claim on what is assembled (document 02, W3: "What it writes is accepted and reads as the same log").
use Rattle.std.specs.Prelude.{◌≡◌, List, ℕ, take}
use Rattle.submission.specs.Validate.{view_of, validate}
use Rattle.assembly.specs.Assembly.{records_given}

-- of the number, the length and the output
unfoldable pub Assembled : List ℕ → List ℕ → ℕ → ℕ → List ℕ → Type 0
Assembled roster log number size output =
    let s = take size output in
    number ≡ 0 → (validate roster s ≡ 0) × ((view_of roster s).log ≡ records_given roster log)
