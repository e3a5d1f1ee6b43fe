-- An accepted submission goes behind those that are there; a refused one leaves them.
use mathlib.Core.Path.{◌≡◌, sym, ap, ◌∙◌}
use mathlib.Core.List.{List, [], ◌∷◌, ◌++◌, append-nil}
use Prim.Native.Nat.{ℕ, suc, ◌+◌, ◌≤◌, ◌<◌}
use native.Mathlib.Omega.{arith}
use lib.ListN.{length, take, length-set}
use lib.Seq.{take-suc-set}
use Rattle.district_pairs.specs.declared.Part.{Part}
use Rattle.district_pairs.specs.Entries.{parts_of, judged}
use Rattle.district_pairs.proofs.with_judged.Goals as goal

pub returns-in_default : goal.returns-in_default
unfolding judged
returns-in_default g c =
    let a = c.args in
    let room = c.requires.0 in
    let fewer : a.entries.count ≤ suc a.i = omega (arith, room.taken) in record { parts = rw c.in_default.is (sym (append-nil (parts_of a.entries))); room = record { places = room.places; taken = fewer } }

pub returns : goal.returns
unfolding parts_of judged
returns g c =
    let a = c.args in
    let room = c.requires.0 in
    let next : a.entries.count + 1 ≡ suc a.entries.count = omega arith in
    let place : a.i + 1 ≡ suc a.i = omega arith in
    let inside : a.entries.count < length a.entries.parts = omega (arith, room.places, room.taken, c.requires.1) in
    let part : ℕ → Part = λ k. record { position = k; start = a.start; size = a.size; pointers = c.in-Ok.pointers } in
    let behind : ℕ → List Part = λ k. take a.entries.count a.entries.parts ++ (part k ∷ []) in
    let fewer : a.entries.count + 1 ≤ suc a.i = omega (arith, room.taken) in record {
      parts = rw (c.in-Ok.is, next)
          (take-suc-set a.entries.parts a.entries.count (part (a.i + 1)) inside ∙ ap behind place);
      room = record { places = length-set a.entries.parts a.entries.count (part (a.i + 1)) ∙ room.places; taken = fewer };
    }
