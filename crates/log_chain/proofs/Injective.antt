-- Two logs of one length with one pointer are the same, unless two of their chain strings have one SHA-256 value. The strings are
-- taken apart field by field, since each field has its width.
-- Assumes nothing.
use mathlib.Core.Path.{◌≡◌, refl, sym, ap, ap₂, ◌∙◌}
use mathlib.Core.List.Memᴰ
use mathlib.Core.List.{List, [], ◌∷◌, ◌++◌}
use Prim.Native.Nat.{ℕ, suc, ◌+◌}
use native.Mathlib.Nat.{suc_inj}
use native.Mathlib.Omega.{arith}
use lib.ListN.{length, take, drop, replicate, length-append}
use lib.Seq.{take_at, drop_at}
use Rattle.words.specs.BigEndian.{be}
use Rattle.words.proofs.Laws.{length-be, be-injective}
use Rattle.sha256.specs.Sha256.{sha256}
use Rattle.log_chain.specs.Log.{Form, Record, chain_string, pointer_from, pointer, chain_from, chain_strings}
use Rattle.log_chain.specs.Apart.{Apart}
use Rattle.log_chain.proofs.Fits.{RecordFits, LogFits, more}

-- ---- fields of a known width

pub field : (n : ℕ) (s₁ t₁ s₂ t₂ : List ℕ) → length s₁ ≡ n → length s₂ ≡ n → s₁ ++ t₁ ≡ s₂ ++ t₂ → (s₁ ≡ s₂) × (t₁ ≡ t₂)
field n s₁ t₁ s₂ t₂ l₁ l₂ e = (
  sym (take_at s₁ t₁ n l₁) ∙ ap (take n) e ∙ take_at s₂ t₂ n l₂,
  sym (drop_at s₁ t₁ n l₁) ∙ ap (drop n) e ∙ drop_at s₂ t₂ n l₂,
)

pub length_two : (a b : List ℕ) (m n : ℕ) → length a ≡ m → length b ≡ n → length (a ++ b) ≡ m + n
length_two a b m n ea eb = length-append a b ∙ ap₂ ◌+◌ ea eb

-- ---- a chain string

-- record and pointer before, from the string
pub string_injective : (form : Form) (i : ℕ) (r s : Record) (p q : List ℕ) → RecordFits form r → RecordFits form s
    → chain_string form i r p ≡ chain_string form i s q → (r ≡ s) × (p ≡ q)
unfolding chain_string
string_injective form i r s p q fr fs e =
    let w = form.term_bytes in
    let two : (x : Record) → length (be 4 i ++ be w x.term) ≡ 4 + w =
    λ x. length_two (be 4 i) (be w x.term) 4 w (length-be 4 i) (length-be w x.term) in
    let three : (x : Record) → RecordFits form x → length (be 4 i ++ be w x.term ++ x.digest) ≡ 4 + w + 32 =
    λ x f. length_two (be 4 i ++ be w x.term) x.digest (4 + w) 32 (two x) f.digest in
    let last = field (4 + w + 32) (be 4 i ++ be w r.term ++ r.digest) p (be 4 i ++ be w s.term ++ s.digest) q (three r fr) (three s fs) e in
    let payload = field (4 + w) (be 4 i ++ be w r.term) r.digest (be 4 i ++ be w s.term) s.digest (two r) (two s) last.0 in
    let terms = field 4 (be 4 i) (be w r.term) (be 4 i) (be w s.term) (length-be 4 i) (length-be 4 i) payload.0 in
    let term = be-injective w fr.term fs.term terms.1 in
    ((λ k. record { term = term k; digest = payload.1 k }), last.1)

-- ---- a log

-- pointers before and records, from the pointer after
pub chain-injective : (form : Form) (i : ℕ) (p q : List ℕ) (l m : List Record) → LogFits form l → LogFits form m → length l ≡ length m
    → Apart (chain_from form i p l) (chain_from form i q m) → pointer_from form i p l ≡ pointer_from form i q m → (p ≡ q) × (l ≡ m)
unfolding Apart chain_from pointer_from
chain-injective form i p q [] [] fl fm n apart e = (e, refl)
chain-injective form i p q [] (s ∷ m) fl fm n apart e = absurd (omega arith)
chain-injective form i p q (r ∷ l) [] fl fm n apart e = absurd (omega arith)
chain-injective form i p q (r ∷ l) (s ∷ m) (more fr fl) (more fs fm) n apart e =
    let x = chain_string form (suc i) r p in
    let y = chain_string form (suc i) s q in
    let rest = chain-injective form (suc i) (sha256 x) (sha256 y) l m fl fm (suc_inj n)
    (λ a b ma mb. apart a b (Memᴰ.tail ma) (Memᴰ.tail mb)) e in
    let here = string_injective form (suc i) r s p q fr fs (apart x y (Memᴰ.head refl) (Memᴰ.head refl) rest.0) in
    (here.1, (λ k. here.0 k ∷ rest.1 k))

-- two logs of one length with one pointer
pub pointer-injective : (form : Form) (l m : List Record) → LogFits form l → LogFits form m → length l ≡ length m
    → Apart (chain_strings form l) (chain_strings form m) → pointer form l ≡ pointer form m → l ≡ m
unfolding pointer chain_strings
pointer-injective form l m fl fm n apart e = (chain-injective form 0 (replicate 32 0) (replicate 32 0) l m fl fm n apart e).1
