use Rattle.std.proofs.Common.{◌≡◌, ℕ, List, Option, option_map, sym, ap₂, ◌∙◌}
use Rattle.upload_book.specs.declared.final_back.Left.{Left}
use Rattle.upload_book.specs.inside.FinalBack.{brought_in, left_with, sent_len}
use Rattle.upload_book.specs.inside.Kept.{stored_tenant_of}
use Rattle.upload_book.specs.snapshot.Restore.{sent_back, sent_in}
use Rattle.upload_book.specs.Stored.{StoredTenant, part_of}
use Rattle.upload_book.proofs.Store.StoreLemmas.{IsPart-read, order-part, own-part, reads-part, stored_tenant_at-part}
use Rattle.upload_book.proofs.block_store.BlockStore.left.Goals as goal

pub left-requires-clause-order : goal.left-requires-clause-order
left-requires-clause-order c =
    let old = c.index.result.now in
    order-part c.self.inside c.args.tenant old c.self.invariant (IsPart-read c.self.inside c.args.self.now c.args.tenant old c.self.view_is c.requires c.index.ensures)

pub returns : goal.returns
returns c =
    let v = c.self.inside in
    let old = c.index.result.now in
    let part = IsPart-read v c.args.self.now c.args.tenant old c.self.view_is c.requires c.index.ensures in
    let told : ℕ → StoredTenant → Option Left = λ (size : ℕ) (s : StoredTenant). option_map (λ (sent : List (ℕ × List ℕ)). left_with c.args.limits (sent_len sent) (brought_in size c.args.segments.now)) (sent_back (sent_in (part_of v.pool s).uploads) c.args.segments.now) in
    let here : c.left.result ≡ told c.from-size.result (stored_tenant_of old) = c.left.ensures v.pool (own-part v c.args.tenant old c.self.invariant part) (reads-part v c.args.tenant old c.self.invariant part) in
    rw (← c.self.view_is) (here ∙ ap₂ told (c.from-size.ensures ∙ c.block_size.ensures.value) (sym (stored_tenant_at-part v c.args.tenant old part)))
