use Rattle.std.proofs.Common.{◌∙◌, List, ℕ, ◌+◌, Some, None, ap, ap₂, arith, sym}
use Rattle.server_words.specs.MayFollow.{tenants_at}
use Rattle.server_words.proofs.SettingsLemmas.{all_places, equal, no_place, not_equal, other_place, prefix-differs, prefix-same, same_place}
use Rattle.server_words.proofs.difference.tenant_difference.Goals as goal

pub returns-then-place-names-clause-first : goal.returns-then-place-names-clause-first
returns-then-place-names-clause-first c =
    ap (λ (name : List ℕ). Some (tenants_at (c.loop-place.place + 1) name None)) c.shown_bytes.ensures
    ∙ sym (c.loop-place.invariant ∙ no_place c.loop-place.place c.args.journal.now.tenants c.args.options.now.tenants c.name_at-name.result.now c.name_at-name.ensures (omega arith))

pub returns-then-place-names-clause-differs : goal.returns-then-place-names-clause-differs
returns-then-place-names-clause-differs c = prefix-differs c.args.journal.now c.args.options.now _ (returns-then-place-names-clause-first c)

pub returns-then-ne-clause-first : goal.returns-then-ne-clause-first
returns-then-ne-clause-first c =
    ap₂ (λ (name other : List ℕ). Some (tenants_at (c.loop-place.place + 1) name (Some other))) c.shown_bytes-then-ne.ensures c.shown_bytes-then-ne-2.ensures
    ∙ sym (c.loop-place.invariant
    ∙ other_place c.loop-place.place c.args.journal.now.tenants c.args.options.now.tenants c.name_at-name.result.now c.name_at-other.result.now c.name_at-name.ensures c.name_at-other.ensures (not_equal _ _ c.if-ne.ensures))

pub returns-then-ne-clause-differs : goal.returns-then-ne-clause-differs
returns-then-ne-clause-differs c = prefix-differs c.args.journal.now c.args.options.now _ (returns-then-ne-clause-first c)

pub loop-place-preserved : goal.loop-place-preserved
loop-place-preserved c =
    c.loop-place.invariant
    ∙ same_place c.loop-place.place c.args.journal.now.tenants c.args.options.now.tenants c.name_at-name.result.now c.name_at-name.ensures
    (c.name_at-other.ensures ∙ ap Some (sym (equal _ _ c.if-ne.ensures)))

pub returns-clause-same : goal.returns-clause-same
returns-clause-same c =
    let ended = c.loop-place.invariant ∙ all_places c.loop-place.place c.args.journal.now.tenants c.args.options.now.tenants (omega arith) in
    prefix-same c.args.journal.now c.args.options.now (sym ended)
