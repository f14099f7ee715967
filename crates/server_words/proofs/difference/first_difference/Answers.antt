use Rattle.std.proofs.Common.{◌≡◌, ◌∙◌, sym}
use Rattle.server_words.proofs.SettingsLemmas.{IfNone-again, IfNone-follows, OnSome-differs, one-lifetime}
use Rattle.server_words.proofs.difference.first_difference.Goals as goal

pub returns-then-was-is-clause-follows : goal.returns-then-was-is-clause-follows
returns-then-was-is-clause-follows c =
    let same : c.args.journal.now.numbers.lifetime ≡ c.args.options.now.numbers.lifetime = cc (c.numbers.ensures.value, c.numbers-2.ensures.value, c.if-was-is.true) in
    IfNone-follows c.args.journal.now c.args.options.now c.finished_difference.result (c.finished_difference.ensures ∙ sym (one-lifetime c.args.journal.now c.args.options.now same))

pub returns-then-was-is-clause-again : goal.returns-then-was-is-clause-again
returns-then-was-is-clause-again c =
    let same : c.args.journal.now.numbers.lifetime ≡ c.args.options.now.numbers.lifetime = cc (c.numbers.ensures.value, c.numbers-2.ensures.value, c.if-was-is.true) in
    IfNone-again c.args.journal.now c.args.options.now c.finished_difference.result (c.finished_difference.ensures ∙ sym (one-lifetime c.args.journal.now c.args.options.now same))

pub returns-then-was-is-clause-differs : goal.returns-then-was-is-clause-differs
returns-then-was-is-clause-differs c =
    let same : c.args.journal.now.numbers.lifetime ≡ c.args.options.now.numbers.lifetime = cc (c.numbers.ensures.value, c.numbers-2.ensures.value, c.if-was-is.true) in
    OnSome-differs c.args.journal.now c.args.options.now c.finished_difference.result (c.finished_difference.ensures ∙ sym (one-lifetime c.args.journal.now c.args.options.now same))
