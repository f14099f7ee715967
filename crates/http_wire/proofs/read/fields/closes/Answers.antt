use Rattle.std.proofs.Common.{length, sym, ap, ◌∙◌}
use Rattle.std.specs.Prelude.{codes}
use Rattle.http_wire.specs.ConnectionFields.{has_close}
use Rattle.http_wire.specs.inside.HeadFields.{spans_named}
use Rattle.http_wire.proofs.HeadFieldsLemmas.{closes-absent, closes-any, closes-one, one_within}
use Rattle.http_wire.proofs.read.fields.closes.Goals as goal

pub of-requires-clause-ordered : goal.of-requires-clause-ordered
of-requires-clause-ordered c =
    (one_within (length c.args.head.now) c.args.head.now (codes "connection") c.args.spans.now c.in-One.value c.requires.within (sym c.in-One.is ∙ c.requires.place)).0

pub of-requires-clause-in_range : goal.of-requires-clause-in_range
of-requires-clause-in_range c =
    (one_within (length c.args.head.now) c.args.head.now (codes "connection") c.args.spans.now c.in-One.value c.requires.within (sym c.in-One.is ∙ c.requires.place)).1

pub returns-in-Absent : goal.returns-in-Absent
returns-in-Absent c = closes-absent c.args.head.now (spans_named c.args.head.now (codes "connection") c.args.spans.now) (sym c.requires.place ∙ c.in-Absent.is)

pub returns-in-One : goal.returns-in-One
returns-in-One c =
    c.has_close.ensures ∙ ap has_close c.of.ensures
    ∙ closes-one c.args.head.now (spans_named c.args.head.now (codes "connection") c.args.spans.now) c.in-One.value (sym c.requires.place ∙ c.in-One.is)

pub returns-in-Many : goal.returns-in-Many
returns-in-Many c = c.any_closes.ensures ∙ closes-any c.args.head.now c.args.spans.now
