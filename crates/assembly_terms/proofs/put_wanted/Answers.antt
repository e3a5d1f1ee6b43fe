-- The heads are the cluster's, and behind them stand the ends of the terms.
use mathlib.Core.Path.{sym, ◌∙◌}
use Prim.Native.Nat.{◌+◌, ◌≤◌}
use native.Mathlib.Omega.{arith}
use lib.ListN.{length, take}
use lib.Seq.{length-take-le}
use Rattle.roster.specs.Roster.{cluster, name_size}
use Rattle.log_chain.specs.Records.{records_of}
use Rattle.log_chain.specs.Runs.{runs}
use Rattle.assembly_terms.proofs.Added.{votes-kept, stamps-kept, votes-headed, stamps-headed}
use Rattle.assembly_terms.proofs.put_wanted.Goals as goal

pub slice_bounds-name-end : goal.slice_bounds-name-end
slice_bounds-name-end c = sym (length-take-le name_size c.args.roster.now c.requires.0)

pub put_vote_statement-requires : goal.put_vote_statement-requires
put_vote_statement-requires c =
    let name = take name_size c.args.roster.now in
    let room : 1 + length name + 2 ≤ length c.args.votes.now =
    omega (arith, length-take-le name_size c.args.roster.now c.requires.0, c.requires.5) in
    room

pub put_vote_statement-requires-2 : goal.put_vote_statement-requires-2
put_vote_statement-requires-2 c =
    let name = take name_size c.args.roster.now in
    let room : 1 + length name + 0 ≤ length c.args.stamps.now =
    omega (arith, length-take-le name_size c.args.roster.now c.requires.0, c.requires.6) in
    room

pub put_ends-requires : goal.put_ends-requires
put_ends-requires c =
    let a = c.args in
    let p = c.requires in
    let named = length-take-le name_size a.roster.now p.0 in
    let name = take name_size a.roster.now in
    let v = votes-kept a.width name named a.votes.now c.put_vote_statement.ensures.bytes p.5 in
    let s = stamps-kept a.width name named a.stamps.now c.put_vote_statement-2.ensures.bytes p.6 in
    (p.1, p.2, p.3, p.4, rw v p.5, rw s p.6)

pub shape_of-votes : goal.shape_of-votes
shape_of-votes c =
    let a = c.args in
    let named = length-take-le name_size a.roster.now c.requires.0 in
    c.put_ends.ensures.rooms.0
    ∙ votes-kept a.width (take name_size a.roster.now) named a.votes.now c.put_vote_statement.ensures.bytes c.requires.5

pub shape_of-stamps : goal.shape_of-stamps
shape_of-stamps c =
    let a = c.args in
    let named = length-take-le name_size a.roster.now c.requires.0 in
    c.put_ends.ensures.rooms.1
    ∙ stamps-kept a.width (take name_size a.roster.now) named a.stamps.now c.put_vote_statement-2.ensures.bytes c.requires.6

pub returns : goal.returns
unfolding cluster
returns c =
    let a = c.args in
    let name = take name_size a.roster.now in
    let named = length-take-le name_size a.roster.now c.requires.0 in
    let rs = runs (records_of a.width a.records a.log.now) in
    let rooms = c.put_ends.ensures.rooms in record {
      count = c.put_ends.ensures.count;
      votes = votes-headed a.width name named rs a.votes.now _ c.put_vote_statement.ensures.bytes c.put_ends.ensures.votes;
      stamps = stamps-headed a.width name named rs a.stamps.now _ c.put_vote_statement-2.ensures.bytes c.put_ends.ensures.stamps;
      rooms = (
        rooms.0 ∙ votes-kept a.width name named a.votes.now c.put_vote_statement.ensures.bytes c.requires.5,
        rooms.1 ∙ stamps-kept a.width name named a.stamps.now c.put_vote_statement-2.ensures.bytes c.requires.6,
      );
    }
