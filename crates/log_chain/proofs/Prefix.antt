-- What a log's beginning keeps: its chain strings are among the log's, since each depends on the records up to its own alone, and its
-- records fit if the log's do.
-- Assumes nothing.
use mathlib.Core.Path.{◌≡◌}
use mathlib.Core.List.Memᴰ
use mathlib.Core.List.{List, [], ◌∷◌, ◌++◌, Memᴰ}
use mathlib.Core.Logic.{⊎_elim}
use Prim.Native.Nat.{ℕ, zero, suc, ◌^◌, ◌<◌}
use lib.ListN.{take, drop, take-append-drop, replicate}
use Rattle.words.proofs.Laws.{pow_256_pos}
use Rattle.sha256.specs.Sha256.{sha256}
use Rattle.log_chain.specs.Log.{Form, Record, chain_string, chain_from, chain_strings, term_from, last_term}
use Rattle.log_chain.proofs.Fits.{LogFits, empty, more}

module _ (form : Form) where
  -- ---- chain strings

  chain-append : (i : ℕ) (p : List ℕ) (l rest : List Record) (x : List ℕ) → Memᴰ x (chain_from form i p l)
      → Memᴰ x (chain_from form i p (l ++ rest))
  unfolding chain_from
  chain-append i p [] rest x m = absurd (Memᴰ.not-nil m)
  chain-append i p (r ∷ l) rest x m =
      let s = chain_string form (suc i) r p in
      ⊎_elim
      (λ (e : x ≡ s). Memᴰ.head e)
      (λ (h : Memᴰ x (chain_from form (suc i) (sha256 s) l)). Memᴰ.tail (chain-append (suc i) (sha256 s) l rest x h))
      (Memᴰ.cases_cons m)

  pub strings-append : (l rest : List Record) (x : List ℕ) → Memᴰ x (chain_strings form l) → Memᴰ x (chain_strings form (l ++ rest))
  unfolding chain_strings
  strings-append l rest x m = chain-append 0 (replicate 32 0) l rest x m

  pub strings-take : (i : ℕ) (log : List Record) (x : List ℕ) → Memᴰ x (chain_strings form (take i log)) → Memᴰ x (chain_strings form log)
  strings-take i log x m = rw take-append-drop at (strings-append (take i log) (drop i log) x m)

  -- ---- records that fit

  pub fits-append : {l m : List Record} → LogFits form l → LogFits form m → LogFits form (l ++ m)
  fits-append empty fm = fm
  fits-append (more f fl) fm = more f (fits-append fl fm)

  pub fits-take : (i : ℕ) {log : List Record} → LogFits form log → LogFits form (take i log)
  fits-take zero fl = empty
  fits-take (suc i) empty = empty
  fits-take (suc i) (more f fl) = more f (fits-take i fl)

  term_fits : (t : ℕ) {log : List Record} → t < 256 ^ form.term_bytes → LogFits form log → term_from t log < 256 ^ form.term_bytes
  unfolding term_from
  term_fits t h empty = h
  term_fits t h (more {r = r} f fl) = term_fits r.term f.term fl

  pub last_fits : {log : List Record} → LogFits form log → last_term log < 256 ^ form.term_bytes
  unfolding last_term
  last_fits fl = term_fits 0 (pow_256_pos form.term_bytes) fl
