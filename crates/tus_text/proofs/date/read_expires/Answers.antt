use Rattle.std.proofs.Common.{Some, sym, ap, ◌∙◌}
use Rattle.tus_text.specs.Date.{expires_of}
use Rattle.tus_text.proofs.date.read_expires.Goals as goal

pub returns-in-Ok-clause-value : goal.returns-in-Ok-clause-value
unfolding expires_of
returns-in-Ok-clause-value c = ap Some c.unix_secs.ensures.value ∙ c.in-Ok.ensures.secs

pub returns-in-Ok-clause-some : goal.returns-in-Ok-clause-some
returns-in-Ok-clause-some c = (c.in-Ok.date, c.in-Ok.ensures.shown, sym c.unix_secs.ensures.value)

pub returns-in-Err-clause-value : goal.returns-in-Err-clause-value
unfolding expires_of
returns-in-Err-clause-value c = c.in-Err.ensures.secs
