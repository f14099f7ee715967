use Rattle.std.proofs.Common.{◌≡◌, ◌<◌, ◌≤◌, length, ap, ◌∙◌, arith}
use Rattle.upload_book.specs.Book.{plain_of}
use Rattle.upload_book.specs.Settings.{Settings}
use Rattle.upload_book.proofs.Heads.LineLemmas.{tenants-settings}
use Rattle.book_replay.proofs.SnapshotLemmas.{part-put, parts-put}
use Rattle.book_replay.proofs.snapshot.put_parts.Goals as goal

pub loop-tenant-preserved : goal.loop-tenant-preserved
loop-tenant-preserved c =
    let b = plain_of c.args.book.now in
    let count : c.tenant_count-count.result ≡ length b.settings.tenants = c.tenant_count-count.ensures ∙ ap (λ (s : Settings). length s.tenants) c.settings.ensures.value in
    let within : c.loop-tenant.tenant < length b.tenants = omega (arith, count, c.loop-tenant-test.true, tenants-settings b c.settings.ensures.lawful) in
    part-put c.args.now c.loop-tenant.tenant b _ _ _ within c.loop-tenant.invariant c.in_ok-put_part.ensures

pub returns : goal.returns
returns c =
    let b = plain_of c.args.book.now in
    let count : c.tenant_count-count.result ≡ length b.settings.tenants = c.tenant_count-count.ensures ∙ ap (λ (s : Settings). length s.tenants) c.settings.ensures.value in
    let past : length b.tenants ≤ c.loop-tenant.tenant = omega (arith, count, c.loop-tenant-test.false, tenants-settings b c.settings.ensures.lawful) in
    parts-put c.args.now c.loop-tenant.tenant b _ _ past c.loop-tenant.invariant
