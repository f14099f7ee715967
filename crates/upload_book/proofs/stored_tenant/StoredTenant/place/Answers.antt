use Rattle.std.proofs.Common.{◌∙◌, rules}
use Rattle.std.proofs.lemmas.List.Sorted.{answers_always}
use Rattle.upload_book.proofs.Lawful.IdLemmas.{halved}
use Rattle.upload_book.proofs.stored_tenant.StoredTenant.place.Goals as goal

pub returns : goal.returns
returns c =
    let facts = c.binary_search_by_key.ensures in
    let by_id = facts.position (λ e. e.id) (answers_always _ _ _ (λ f a r g called. search rules)) in
    c.ok.ensures.value ∙ halved c.args.self.now.uploads.items c.args.id c.requires.ascending c.binary_search_by_key.result (rw c.deref.ensures.value at facts.bound) (rw c.deref.ensures.value at by_id)
