-- A table with the same head as before, and what some terms' statements end with behind it.
use Rattle.std.specs.Prelude.{◌≡◌, ℕ, length, take}
use mathlib.Core.List.{List, ◌++◌, flat_map}
use Rattle.log_chain.specs.Runs.{Run}

unfoldable pub EndsAdded : ℕ → (Run → List ℕ) → List Run → List ℕ → List ℕ → Type 0
EndsAdded head end rs entry exit =
    let b = take head entry ++ flat_map end rs in
    take (length b) exit ≡ b
