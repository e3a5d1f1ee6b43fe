-- The hashes of algorithm 4b, step 3, one after the other; the steps come with Q || Cksm(Q).
use Prim.Native.Nat.{ℕ, ◌-◌, ◌*◌}
use mathlib.Core.Path.{◌≡◌, ap, ◌∙◌}
use mathlib.Core.List.{List}
use native.Mathlib.Omega.{arith}
use lib.Dec.{lit<}
use lib.ListN.{length, take, drop, length-take, length-drop}
use Rattle.words.proofs.Laws.{part_end}
use Rattle.lm_hash.specs.Identifier.{identifier}
use Rattle.lm_hash.specs.Tagged.{tagged}
use Rattle.lm_digits.specs.Digits.{with_checksum, steps}
use Rattle.lm_ots.specs.Candidate.{D-MESG, D-PBLC, message_hash, ends, candidate}
use Rattle.lm_digits.proofs.Rows.{few}
use borrow.Author.Rules.{rules}
use Rattle.lm_ots.proofs.candidate.candidate.Goals as goal

pub slice_bounds-tagged_message-end : goal.slice_bounds-tagged_message-end
slice_bounds-tagged_message-end c = simp length-take (omega (arith, c.requires.2))

pub tagged_message-q-requires : goal.tagged_message-q-requires
tagged_message-q-requires c =
    (lit< tt, simp length-take (omega (arith, c.requires.2)), c.requires.1)

pub put_ends-requires : goal.put_ends-requires
put_ends-requires c =
    let o = c.args.o in
    let sig = c.args.signature.now in
    let rest : length (take (length sig - 32) (drop 32 sig)) ≡ 32 * o.chains =
    rw (part_end sig 32, length-drop) (omega (arith, c.requires.2)) in
    (c.requires.0, search rules, rest, omega (arith, few o c.requires.0))

pub slice_bounds-ends-end : goal.slice_bounds-ends-end
slice_bounds-ends-end c =
    omega (arith, few c.args.o c.requires.0, c.put_ends.auto.out)

pub slice_bounds-tagged-end : goal.slice_bounds-tagged-end
slice_bounds-tagged-end c =
    simp length-take (omega (arith, few c.args.o c.requires.0, c.put_ends.auto.out))

pub returns : goal.returns
unfolding candidate message_hash D-MESG D-PBLC
returns c =
    let o = c.args.o in
    let leaf = c.args.leaf in
    let sig = c.args.signature.now in
    let message = c.args.message.now in
    let I = identifier leaf in
    let Q = message_hash I leaf.q (take 32 sig) message in
    let hash : c.bytes.result ≡ Q = c.bytes.ensures ∙ c.tagged_message-q.ensures in
    let s : c.with_checksum-checked.result.value ≡ with_checksum o Q =
    c.with_checksum-checked.ensures.bytes ∙ ap (with_checksum o) hash in
    let all : take (32 * o.chains) c.put_ends.new.out ≡ ends o I leaf.q (with_checksum o Q) (drop 32 sig) o.chains =
    c.put_ends.ensures
    ∙ ap (λ (y : List ℕ). ends o I leaf.q c.with_checksum-checked.result.value y o.chains) (part_end sig 32)
    ∙ ap (λ (d : List ℕ). ends o I leaf.q d (drop 32 sig) o.chains) s in
    record { key = c.tagged.ensures ∙ ap (tagged I leaf.q D-PBLC) all; steps = c.with_checksum-checked.ensures.steps ∙ ap (steps o) hash }
