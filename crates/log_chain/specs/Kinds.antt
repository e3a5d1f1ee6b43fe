-- The kind bytes of statements (document 01, "Chain and statements").
use Rattle.std.specs.Prelude.{◌≡◌, ◌≢◌, ℕ, Result, MatchResult}
use Rattle.log_chain.specs.declared.Kind.{Kind}
use Rattle.log_chain.specs.declared.Kind.TheVariants.{Stamp, Receipt, Vote}
use Rattle.log_chain.specs.declared.UnknownKind.{UnknownKind}

abbrev pub byte_of : Kind → ℕ
byte_of Stamp = 1
byte_of Receipt = 2
byte_of Vote = 3

-- what is read from a byte: the kind that has it, or the byte itself, where no kind has it
abbrev pub KindOf : ℕ → Result Kind UnknownKind → Type 0
KindOf byte r =
    MatchResult r (λ kind. byte_of kind ≡ byte) (λ e. (e.byte ≡ byte) × ((kind : Kind) → byte_of kind ≢ byte))
