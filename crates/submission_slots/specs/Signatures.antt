-- Check 15 on one certificate, over the statement's bytes.
use Rattle.std.specs.Prelude.{Bool, true, false, cond, List, [], ◌∷◌, ℕ, take, drop}
use Rattle.lms.specs.Check.{good}
use Rattle.roster.specs.Roster.{key_of}

-- one signature of S bytes per replica, each good under its replica's key
unfoldable pub good_all : List ℕ → List ℕ → ℕ → List ℕ → List ℕ → Bool
good_all roster message S [] bytes = true
good_all roster message S (k ∷ ks) bytes =
    cond (good (key_of roster k) message (take S bytes)) (good_all roster message S ks (drop S bytes)) false
