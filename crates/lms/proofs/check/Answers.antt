-- Each test that fails ends the check, and for known types `verify` decides.
use mathlib.Core.Path.{sym, ap, ◌∙◌}
use Rattle.words.specs.BigEndian.{number_at}
use Rattle.lm_digits.specs.Parameters.{one_time}
use Rattle.lm_format.specs.Format.{height}
use Rattle.lm_format.proofs.Forms.{height-le}
use Rattle.lms.proofs.Answers.{long-message, wrong-key, no-one-time, no-height, by-types}
use Rattle.lms.proofs.check.Goals as goal

pub returns-then-message-gt-MESSAGE_MAX : goal.returns-then-message-gt-MESSAGE_MAX
returns-then-message-gt-MESSAGE_MAX c =
    let a = c.args in
    let key = a.key.now in
    let message = a.message.now in
    let sig = a.signature.now in
    long-message key message sig c.if-message-gt-MESSAGE_MAX.true

pub returns-then-key-ne-KEY_SIZE : goal.returns-then-key-ne-KEY_SIZE
returns-then-key-ne-KEY_SIZE c =
    let a = c.args in
    let key = a.key.now in
    let message = a.message.now in
    let sig = a.signature.now in
    wrong-key key message sig c.if-message-gt-MESSAGE_MAX.false c.if-key-ne-KEY_SIZE.true

pub returns-in_default : goal.returns-in_default
returns-in_default c =
    let a = c.args in
    let key = a.key.now in
    let message = a.message.now in
    let sig = a.signature.now in
    no-one-time key message sig c.if-message-gt-MESSAGE_MAX.false c.if-key-ne-KEY_SIZE.false (sym (c.one_time.ensures ∙ ap one_time c.u32_at.ensures.0) ∙ c.in_default.is)

pub returns-in_default-height_of : goal.returns-in_default-height_of
returns-in_default-height_of c =
    let a = c.args in
    let key = a.key.now in
    let message = a.message.now in
    let sig = a.signature.now in
    no-height key message sig c.if-message-gt-MESSAGE_MAX.false c.if-key-ne-KEY_SIZE.false _ (sym (c.one_time.ensures ∙ ap one_time c.u32_at.ensures.0) ∙ c.in-Some.is) (sym (c.height_of.ensures ∙ ap height c.u32_at-2.ensures.0) ∙ c.in_default-height_of.is)

pub verify-requires : goal.verify-requires
verify-requires c =
    let a = c.args in
    let key = a.key.now in
    let message = a.message.now in
    let sig = a.signature.now in (
      record { number = number_at 4 key 4; found = (sym (c.one_time.ensures ∙ ap one_time c.u32_at.ensures.0) ∙ c.in-Some.is) },
      height-le (number_at 4 key 0) (sym (c.height_of.ensures ∙ ap height c.u32_at-2.ensures.0) ∙ c.in-Some-height_of.is),
      c.if-key-ne-KEY_SIZE.false,
      c.if-message-gt-MESSAGE_MAX.false,
    )

pub returns : goal.returns
returns c =
    let a = c.args in
    let key = a.key.now in
    let message = a.message.now in
    let sig = a.signature.now in
    by-types key message sig c.if-message-gt-MESSAGE_MAX.false c.if-key-ne-KEY_SIZE.false _ (sym (c.one_time.ensures ∙ ap one_time c.u32_at.ensures.0) ∙ c.in-Some.is) _ (sym (c.height_of.ensures ∙ ap height c.u32_at-2.ensures.0) ∙ c.in-Some-height_of.is)
    c.verify.ensures
