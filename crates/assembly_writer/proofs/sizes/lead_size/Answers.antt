-- The fields of a vote, signers and signatures, and a stamp.
use native.Mathlib.Omega.{arith}
use Rattle.words.proofs.Laws.{part_end}
use Rattle.submission.specs.Reading.{ballot_size}
use Rattle.assembly_writer.proofs.Heads.{certificate-long}
use Rattle.assembly_writer.proofs.sizes.lead_size.Goals as goal

pub returns : goal.returns
unfolding ballot_size
returns c =
    let a = c.args in
    let long = rw (part_end a.row.now 2) at c.signed_size-signed.ensures.size in record {
      size = λ item_bytes end held place tail.
          omega (
            arith,
            long item_bytes held,
            c.signature_size-stamp.ensures.size item_bytes place,
            c.ballot_size.ensures.0,
            certificate-long a.plan.size item_bytes a.plan.replicas end a.row.now,
            tail,
          );
      most = omega (arith, c.signed_size-signed.ensures.most, c.signature_size-stamp.ensures.most, c.ballot_size.ensures.1);
    }
