-- A long message is refused first; any other is hashed block by block and finished with its padding.
use mathlib.Core.Path.{◌≡◌, sym, ap, ◌∙◌}
use mathlib.Core.List.{List, ◌++◌}
use Prim.Native.Nat.{ℕ, ◌*◌, ◌/◌}
use borrow.Author.Tests.{lt-ltb, le-ltb}
use lib.ListN.{length, drop}
use Rattle.sha256.specs.declared.State.{State}
use Rattle.sha256.specs.Sha256.{initial, hash, padding}
use Rattle.sha256.specs.Service.{limit, too_long, digest_number}
use Rattle.words.proofs.Laws.{part_end}
use borrow.Author.Rules.{rules}
use Rattle.sha256.proofs.Blocks.{sha256_split}
use Rattle.sha256_service.proofs.digest.Goals as goal

pub returns-then-message-gt-MESSAGE_MAX : goal.returns-then-message-gt-MESSAGE_MAX
unfolding digest_number too_long
returns-then-message-gt-MESSAGE_MAX c =
    let long = lt-ltb limit (length c.args.message.now) c.if-message-gt-MESSAGE_MAX.true in
    record { number = rw long; refused = rw long; digest = search rules }

pub returns : goal.returns
unfolding digest_number too_long
returns c =
    let m = c.args.message.now in
    let short = le-ltb limit (length m) c.if-message-gt-MESSAGE_MAX.false in
    let whole = c.absorb_all-s.result in
    let absorbed : whole ≡ hash initial m = c.absorb_all-s.ensures ∙ ap (λ (s : State). hash s m) c.new.ensures in
    let at = length m / 64 * 64 in
    let finished : c.finish-end.result ≡ hash whole (drop at m ++ padding (length m)) =
    c.finish-end.ensures ∙ ap (λ (l : List ℕ). hash whole (l ++ padding (length m))) (part_end m at) in
    record {
      number = rw short;
      refused = rw short;
      digest = rw (c.bytes.ensures, finished, absorbed) (sym (sha256_split m));
    }
