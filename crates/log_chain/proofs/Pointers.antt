-- The pointer of a log with one record more, from the log's pointer, by induction over the log; and of a form a pointer has the
-- term's width alone: no chain string has kind or cluster name.
-- Assumes nothing.
use mathlib.Core.Path.{◌≡◌, refl}
use mathlib.Core.List.{List, [], ◌∷◌, ◌++◌}
use Prim.Native.Nat.{ℕ, suc, ◌+◌}
use native.Mathlib.Nat.{add-zero, add-suc, suc-add, zero-add}
use lib.ListN.{length, replicate}
use Rattle.sha256.specs.Sha256.{sha256}
use Rattle.log_chain.specs.Log.{Form, Record, chain_string, pointer_from, pointer}

-- ---- one record more

snoc_from : (form : Form) (i : ℕ) (p : List ℕ) (l : List Record) (r : Record)
    → pointer_from form i p (l ++ (r ∷ [])) ≡ sha256 (chain_string form (suc (i + length l)) r (pointer_from form i p l))
unfolding pointer_from
snoc_from form i p [] r = rw add-zero
snoc_from form i p (s ∷ l) r = rw (add-suc, ← suc-add) (snoc_from form (suc i) (sha256 (chain_string form (suc i) s p)) l r)

pub pointer_snoc : (form : Form) (l : List Record) (r : Record)
    → pointer form (l ++ (r ∷ [])) ≡ sha256 (chain_string form (suc (length l)) r (pointer form l))
unfolding pointer
pointer_snoc form l r = rw zero-add at (snoc_from form 0 (replicate 32 0) l r)

-- ---- the form

string_form : (f g : Form) → f.term_bytes ≡ g.term_bytes → (i : ℕ) (r : Record) (p : List ℕ) → chain_string f i r p ≡ chain_string g i r p
unfolding chain_string
string_form f g e i r p = rw e

form_from : (f g : Form) → f.term_bytes ≡ g.term_bytes → (i : ℕ) (p : List ℕ) (l : List Record) → pointer_from f i p l ≡ pointer_from g i p l
unfolding pointer_from
form_from f g e i p [] = refl
form_from f g e i p (r ∷ l) =
    rw (string_form f g e (suc i) r p) (form_from f g e (suc i) (sha256 (chain_string g (suc i) r p)) l)

pub pointer_form : (f g : Form) → f.term_bytes ≡ g.term_bytes → (l : List Record) → pointer f l ≡ pointer g l
unfolding pointer
pointer_form f g e l = form_from f g e 0 (replicate 32 0) l
