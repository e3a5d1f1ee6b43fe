-- The term, and behind it the place of the records that the walk has passed.
use mathlib.Core.List.{[]}
use native.Mathlib.Omega.{arith}
use Rattle.words.specs.BigEndian.{be}
use Rattle.words.proofs.Laws.{length-be}
use Rattle.log_chain.specs.Log.{with_terms, last_term}
use Rattle.log_chain.specs.Records.{records_of}
use Rattle.assembly_terms.proofs.Tables.{lent_second}
use Rattle.assembly_terms.proofs.Wanted.{place-size}
use Rattle.assembly_terms.proofs.put_vote_end.Goals as goal

pub returns : goal.returns
returns c =
    let put = c.put_stamp_end in
    let a = c.args in
    let log = records_of a.width a.before.end a.log.now in record {
      size = omega (arith, put.ensures.size);
      bytes = lent_second a.out.now c.put_number.new.out put.new.out (be a.width a.term) _ a.width (length-be a.width a.term)
          (omega (arith, c.requires.4, place-size (with_terms a.width []) (last_term log) log)) c.put_number.ensures put.ensures.bytes;
    }
