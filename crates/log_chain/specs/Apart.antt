-- The premise on SHA-256: no two different strings among some have one value.
use Rattle.std.specs.Prelude.{◌≡◌, ℕ}
use mathlib.Core.List.{List, Memᴰ}
use Rattle.sha256.specs.Sha256.{sha256}

-- different strings of the two collections have different SHA-256 values
unfoldable pub Apart : List (List ℕ) → List (List ℕ) → Type 0
Apart xs ys = (x y : List ℕ) → Memᴰ x xs → Memᴰ y ys → sha256 x ≡ sha256 y → x ≡ y
