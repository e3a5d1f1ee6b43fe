-- Records, their chain and its pointers (document 01, "Chain and statements"), over the term's width.
use Rattle.std.specs.Prelude.{List, [], ◌∷◌, ◌++◌, ℕ, suc, replicate}
use Rattle.words.specs.BigEndian.{be}
use Rattle.sha256.specs.Sha256.{sha256}

-- what document 01 gives once: the bytes of a term, the kind byte of a stamp (a receipt's and a vote's follow
-- it), and the cluster's name
pub record Form : Type 0 where
  pub term_bytes : ℕ
  pub first_kind : ℕ
  pub cluster : List ℕ

-- terms of w bytes, kinds 1 to 3
abbrev pub with_terms : ℕ → List ℕ → Form
with_terms w cluster = record { term_bytes = w; first_kind = 1; cluster = cluster }

-- version 1: terms of 4 bytes
unfoldable pub version1 : List ℕ → Form
version1 cluster = with_terms 4 cluster

-- document 01's record: its term, and its payload's digest
pub record Record : Type 0 where
  pub term : ℕ
  pub digest : List ℕ

-- the chain string of a record: index, term, payload digest, the pointer before
unfoldable pub chain_string : Form → ℕ → Record → List ℕ → List ℕ
chain_string form index r before = be 4 index ++ be form.term_bytes r.term ++ r.digest ++ before

-- the pointer after more records, from the index and the pointer of the last record before them
unfoldable pub pointer_from : Form → ℕ → List ℕ → List Record → List ℕ
pointer_from form i p [] = p
pointer_from form i p (r ∷ log) = pointer_from form (suc i) (sha256 (chain_string form (suc i) r p)) log

-- the pointer of a log's last record; pointer 0 is 32 zero bytes
unfoldable pub pointer : Form → List Record → List ℕ
pointer form log = pointer_from form 0 (replicate 32 0) log

-- the chain strings of a log
unfoldable pub chain_from : Form → ℕ → List ℕ → List Record → List (List ℕ)
chain_from form i p [] = []
chain_from form i p (r ∷ log) =
    let s = chain_string form (suc i) r p in
    s ∷ chain_from form (suc i) (sha256 s) log

unfoldable pub chain_strings : Form → List Record → List (List ℕ)
chain_strings form log = chain_from form 0 (replicate 32 0) log

-- the last record's term, 0 for an empty log
unfoldable pub term_from : ℕ → List Record → ℕ
term_from t [] = t
term_from t (r ∷ log) = term_from r.term log

unfoldable pub last_term : List Record → ℕ
last_term log = term_from 0 log
