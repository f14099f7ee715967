use Rattle.std.proofs.Common.{◌∙◌, rules}
use Rattle.std.proofs.lemmas.List.Sorted.{answers_always}
use Rattle.upload_book.proofs.Lawful.IdLemmas.{halved}
use Rattle.head_board.proofs.ListedLemmas.{ids-ascend, place-same}
use Rattle.head_board.proofs.row_list.RowList.place.Goals as goal

pub returns : goal.returns
returns c =
    let rows = c.self.inside.rows.items in
    let facts = c.binary_search_by_key.ensures in
    let by_id = facts.position (λ e. e.id) (answers_always _ _ _ (λ f a r g called. search rules)) in
    let ascending = ids-ascend rows (rw (← c.self.view_is) at c.requires) in
    rw (← c.self.view_is)
    (c.ok.ensures.value ∙ halved rows c.args.id ascending c.binary_search_by_key.result (rw c.deref.ensures.value at facts.bound) (rw c.deref.ensures.value at by_id) ∙ place-same rows c.args.id)
