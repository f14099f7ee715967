use Rattle.std.proofs.Common.{◌≡◌, ◌-◌, ◌∙◌, ℕ, Bool, List, ltb, length, take, drop, ap, arith, rules}
use Rattle.std.specs.List.{flat_map}
use Rattle.std.proofs.lemmas.List.{length-drop, take_all}
use Rattle.std.proofs.lemmas.List.Elements.{All-take}
use Rattle.std.proofs.lemmas.List.Sorted.{IsNonDecreasingBy-take, IsPartitionPoint-from_clause, IsPartitionedBy-ltb}
use Rattle.upload_book.specs.inside.FinalBack.{chain_from}
use Rattle.upload_book.specs.inside.Pieces.{HasNoLaterPiece}
use Rattle.upload_book.specs.Stored.{StoredUpload}
use Rattle.upload_book.specs.TenantBook.{Entry}
use Rattle.upload_book.proofs.Lawful.IdLemmas.{ids_rise}
use Rattle.upload_book.proofs.Restoring.KeptUploads.{chain_from-drop}
use Rattle.upload_book.proofs.Store.Pieces.{kept_pieces}
use Rattle.upload_book.proofs.stored_tenant.StoredTenant.since.Goals as goal

pub returns : goal.returns
returns c =
    let before : List (Entry StoredUpload) = take c.args.place c.args.self.now.uploads.items in
    let is : Entry StoredUpload → Bool = λ (e : Entry StoredUpload). ltb e.id c.args.origin in
    let rise = IsNonDecreasingBy-take (λ (e : Entry StoredUpload). e.id) c.args.place c.args.self.now.uploads.items (ids_rise c.args.self.now.uploads.items c.args.origin c.requires.order.ids.ascending) in
    let parts = IsPartitionedBy-ltb (λ (e : Entry StoredUpload). e.id) before c.args.origin rise in
    let partitioned = rw c.deref.ensures.value at c.partition_point-first.ensures.partitioned in
    let point = IsPartitionPoint-from_clause is before c.partition_point-first.result partitioned parts (λ a r q k. search rules) in
    let first : ℕ = c.partition_point-first.result in
    let all : take (length before - first) (drop first before) ≡ drop first before = take_all (length before - first) (drop first before) (omega (arith, length-drop first before)) in
    rw c.deref.ensures.value
    (ap (λ (l : List (Entry StoredUpload)). chain_from (flat_map kept_pieces l) c.args.origin) all
    ∙ chain_from-drop before first c.args.origin (All-take HasNoLaterPiece c.args.place c.args.self.now.uploads.items c.requires.order.origins) point.0)
