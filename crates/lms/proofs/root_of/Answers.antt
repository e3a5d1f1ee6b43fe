-- Identifier, leaf number, candidate key and path are those of algorithm 6a; the chain steps come with the candidate key.
use mathlib.Core.Path.{◌≡◌, ap, ◌∙◌}
use mathlib.Core.List.{List}
use Prim.Native.Nat.{ℕ, ◌+◌, ◌-◌}
use native.Mathlib.Omega.{arith}
use lib.ListN.{take, drop, length-take, length-drop}
use lib.Seq.{take-take}
use Rattle.words.specs.BigEndian.{number_at}
use Rattle.words.proofs.Laws.{part_end}
use Rattle.sha256.specs.Sha256.{bytes_of}
use Rattle.lm_digits.specs.Digits.{steps}
use Rattle.lm_hash.specs.Identifier.{identifier}
use Rattle.lm_ots.specs.Candidate.{message_hash, candidate}
use Rattle.lm_format.specs.Format.{one_time_bytes, path_at, signature_length}
use Rattle.lm_tree.specs.Tree.{root}
use Rattle.lms.specs.Check.{hash_of, root_of}
use Rattle.lms.proofs.root_of.Goals as goal

pub u32_at-requires : goal.u32_at-requires
unfolding signature_length path_at one_time_bytes
u32_at-requires c = omega arith

pub slice_bounds-candidate-end : goal.slice_bounds-candidate-end
unfolding signature_length path_at one_time_bytes
slice_bounds-candidate-end c = omega arith

pub slice_bounds-root-count : goal.slice_bounds-root-count
unfolding signature_length path_at one_time_bytes
slice_bounds-root-count c = omega arith

pub slice_bounds-root-start : goal.slice_bounds-root-start
unfolding signature_length path_at one_time_bytes
slice_bounds-root-start c = omega arith

pub candidate-candidate-requires : goal.candidate-candidate-requires
unfolding signature_length path_at one_time_bytes
candidate-candidate-requires c =
    (c.requires.0, c.requires.3, simp (length-take, length-drop) (omega arith))

pub root-requires : goal.root-requires
unfolding signature_length path_at
root-requires c =
    let leaf = c.leaf_at-leaf.ensures.1 ∙ c.u32_at.ensures.0 in
    (c.requires.1, rw leaf c.requires.5, simp (length-take, length-drop) (omega arith))

pub returns : goal.returns
unfolding signature_length path_at one_time_bytes root_of hash_of
returns c =
    let o = c.args.o in
    let h = c.args.h in
    let key = c.args.key.now in
    let message = c.args.message.now in
    let sig = c.args.signature.now in
    let leaf = c.leaf_at-leaf.result in
    let I = c.leaf_at-leaf.ensures.0 in
    let q : leaf.q ≡ number_at 4 sig 0 = c.leaf_at-leaf.ensures.1 ∙ c.u32_at.ensures.0 in
    let size : c.one_time_size-end.result ≡ one_time_bytes o = c.one_time_size-end.ensures.0 in
    let count : 8 + c.one_time_size-end.result - 8 ≡ one_time_bytes o = omega arith in
    let path : 8 + c.one_time_size-end.result + 4 ≡ path_at o = omega arith in
    let ots = take (one_time_bytes o) (drop 8 sig) in
    let Kc : bytes_of c.candidate-candidate.result.value ≡ candidate o (identifier leaf) leaf.q (take 32 ots) (drop 32 ots) message =
    c.candidate-candidate.ensures.key
    ∙ ap (λ (n : ℕ). candidate o (identifier leaf) leaf.q (take 32 (take n (drop 8 sig))) (drop 32 (take n (drop 8 sig))) message) count in
    let C : take 32 (take (8 + c.one_time_size-end.result - 8) (drop 8 sig)) ≡ take 32 (drop 8 sig) =
    take-take 32 (8 + c.one_time_size-end.result - 8) (drop 8 sig) (omega arith) in record {
      root = c.root.ensures
          ∙ ap (root (identifier leaf) h leaf.q (bytes_of c.candidate-candidate.result.value)) (part_end sig (8 + c.one_time_size-end.result + 4))
          ∙ ap (λ (n : ℕ). root (identifier leaf) h leaf.q (bytes_of c.candidate-candidate.result.value) (drop n sig)) path
          ∙ ap (λ (k : List ℕ). root (identifier leaf) h leaf.q k (drop (path_at o) sig)) Kc
          ∙ rw (I, q);
      steps = c.candidate-candidate.ensures.steps
          ∙ ap (λ (r : List ℕ). steps o (message_hash (identifier leaf) leaf.q r message)) C
          ∙ rw (I, q);
    }
