use Rattle.std.proofs.Common.{◌≡◌, ◌∙◌, ap, length, arith}
use Rattle.upload_book.specs.Book.{plain_of}
use Rattle.upload_book.specs.Settings.{Settings}
use Rattle.upload_book.proofs.Heads.LineLemmas.{tenants-settings}
use Rattle.journal_folders.proofs.HeldLemmas.{held-all}
use Rattle.journal_folders.proofs.held.held_in.Goals as goal

pub returns : goal.returns
returns c =
    let b = plain_of c.args.book.now in
    let count : c.tenant_count-count.result ≡ length b.settings.tenants = c.tenant_count-count.ensures ∙ ap (λ (s : Settings). length s.tenants) c.settings.ensures.value in
    held-all b c.loop-tenant.tenant c.loop-tenant.all (omega (arith, count, tenants-settings b c.settings.ensures.lawful)) c.loop-tenant.invariant
