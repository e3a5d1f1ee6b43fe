-- The sixteen words of the block stand first; each of the six steps adds eight.
use Rattle.std.proofs.Common.{◌≡◌, length, sym, ◌∙◌, arith, length-append, take_all, rules}
use lib.Seq.{take_at}
use Rattle.sha256_schedule.specs.Words.{extend, schedule}
use Rattle.sha256_schedule.proofs.schedule.Goals as goal

pub returns : goal.returns
unfolding schedule extend
returns c =
    let m = c.args.m in
    let block = c.copy_from_slice.new.self in
    let long : length block ≡ 16 = search rules in
    let e1 = c.words.ensures m (rw length-append (omega (arith, long)), take_at block _ 16 long ∙ c.copy_from_slice.ensures.after) in
    let e2 = c.words-2.ensures m e1 in
    let e3 = c.words-3.ensures m e2 in
    let e4 = c.words-4.ensures m e3 in
    let e5 = c.words-5.ensures m e4 in
    let all = c.words-6.ensures m e5 in
    sym (take_all 64 c.words-6.new.w (omega (arith, all.0))) ∙ all.1
