use Rattle.std.proofs.Common.{Some, ap, ◌∙◌, arith}
use Rattle.tus_text.specs.Date.{expires_of}
use Rattle.tus_text.proofs.DateLemmas.{expires_text-date, expires_of-date}
use Rattle.tus_text.proofs.date.write_expires.Goals as goal

pub returns-clause-text : goal.returns-clause-text
returns-clause-text c =
    let second = rw c.unwrap.ensures at c.from_unix_secs.ensures.value in
    c.to_bytes.ensures ∙ expires_text-date c.unwrap.result c.args.secs (omega arith) second

pub returns-clause-date : goal.returns-clause-date
returns-clause-date c = (c.unwrap.result, rw c.unwrap.ensures at c.from_unix_secs.ensures.value, c.to_bytes.ensures)

pub returns-clause-read_back : goal.returns-clause-read_back
returns-clause-read_back c =
    let second = rw c.unwrap.ensures at c.from_unix_secs.ensures.value in
    ap expires_of c.to_bytes.ensures ∙ expires_of-date c.unwrap.result ∙ ap Some second
