-- The pointers that a walk over the log carries along (document 01, "Chain and statements"; document 02, W2).
use Rattle.std.specs.Prelude.{◌≡◌, Bool, cond, List, [], ℕ, take}
use Rattle.sha256.specs.Sha256.{bytes_of}
use Rattle.log_chain.specs.Log.{Form, with_terms, Record, pointer}
use Rattle.log_chain.specs.Records.{records_of}
use Rattle.log_terms.specs.declared.LogPointers.{LogPointers}

-- they are those of some records, up to a commit index, and of a log
pub record PointersOf (form : Form) (upto log : List Record) (p : LogPointers) : Type 0 where
  pub committed : bytes_of p.committed ≡ pointer form upto
  pub last : bytes_of p.last ≡ pointer form log

-- they are so where a test is met, and otherwise pointer 0, twice
abbrev pub PointersIf : Bool → Form → List Record → List Record → LogPointers → Type 0
PointersIf met form upto log p = PointersOf form (cond met upto []) (cond met log []) p

-- those of a submission's first i records, up to a commit index and all; a pointer has no cluster name in it
abbrev pub PointersCarried : ℕ → ℕ → ℕ → List ℕ → LogPointers → Type 0
PointersCarried w commit i s p =
    let log = records_of w i s in
    PointersOf (with_terms w []) (take commit log) log p
