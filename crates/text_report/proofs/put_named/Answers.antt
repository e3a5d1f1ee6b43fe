-- Nothing for a replica that is not named, otherwise the line of the row's rule and term.
use Rattle.text_report.proofs.Replicas.{told, unnamed, named}
use Rattle.text_decimal.proofs.Puts.{put_none, put_same}
use Rattle.text_report.proofs.put_named.Goals as goal

pub returns-then-not-signer : goal.returns-then-not-signer
returns-then-not-signer c =
    let a = c.args in
    let report = a.report.now in
    let mask = c.u16_at.ensures.0 in
    let told-not = told report a.k mask c.signer.ensures (c.if-not-signer.true) in
    put_same (put_none a.out.now a.at 49) (unnamed report a.k told-not)

pub returns : goal.returns
returns c =
    let a = c.args in
    let report = a.report.now in
    let rule = c.from-rule in
    let term = c.u32_at-term in
    let mask = c.u16_at.ensures.0 in
    let test = c.signer.ensures in
    let told-so = told report a.k mask test (c.if-not-signer.false) in
    put_same c.put_replica.ensures
    (named report a.k rule.result term.result told-so rule.ensures term.ensures.0)
