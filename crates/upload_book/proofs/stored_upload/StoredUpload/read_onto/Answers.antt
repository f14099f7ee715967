use Rattle.std.proofs.Common.{◌≡◌, List, [], ◌∷◌, ◌++◌, drop, take, sym, ap, ◌∙◌, subst, ℕ}
use Rattle.std.specs.List.{Contains}
use Rattle.upload_book.specs.declared.pieces.Piece.{Piece}
use Rattle.upload_book.specs.inside.HeldBytes.{pieces_in}
use Rattle.upload_book.specs.inside.Pieces.{AreBodies, ReadsWhole, bytes_of}
use Rattle.upload_book.specs.Stored.{StoredUpload}
use Rattle.upload_book.specs.TenantBook.{Entry}
use Rattle.upload_book.proofs.Charge.InUse.{Contains-first}
use Rattle.upload_book.proofs.Store.OwnLemmas.{content-kept}
use Rattle.upload_book.proofs.Store.PutLemmas.{own_piece}
use Rattle.upload_book.proofs.stored_upload.StoredUpload.read_onto.Goals as goal

pub read_onto-requires-clause-body : goal.read_onto-requires-clause-body
read_onto-requires-clause-body c =
    let x : Piece = own_piece c.self.inside.id c.in-Own.body in
    let pieces : x ∷ [] ≡ c.args.self.now.kept.pieces = sym (ap (pieces_in c.self.inside.id) c.in-Own.is) ∙ ap (λ (e : Entry StoredUpload). e.kept.pieces) c.self.view_is in
    c.requires.bodies x (subst (λ (pieces : List Piece). Contains pieces x) pieces (Contains-first x []))

pub read_each-requires-clause-bodies : goal.read_each-requires-clause-bodies
read_each-requires-clause-bodies c =
    let pieces : c.deref.result.now ≡ c.args.self.now.kept.pieces = c.deref.ensures.value ∙ sym (ap (pieces_in c.self.inside.id) c.in-Joined.is) ∙ ap (λ (e : Entry StoredUpload). e.kept.pieces) c.self.view_is in
    subst (AreBodies c.args.pool.now) (sym pieces) c.requires.bodies

pub read_each-requires-clause-whole : goal.read_each-requires-clause-whole
read_each-requires-clause-whole c =
    let pieces : c.deref.result.now ≡ c.args.self.now.kept.pieces = c.deref.ensures.value ∙ sym (ap (pieces_in c.self.inside.id) c.in-Joined.is) ∙ ap (λ (e : Entry StoredUpload). e.kept.pieces) c.self.view_is in
    subst (ReadsWhole c.args.pool.now) (sym pieces) c.requires.whole

pub returns-in-Joined-clause-items : goal.returns-in-Joined-clause-items
returns-in-Joined-clause-items c =
    let pieces : c.deref.result.now ≡ c.args.self.now.kept.pieces = c.deref.ensures.value ∙ sym (ap (pieces_in c.self.inside.id) c.in-Joined.is) ∙ ap (λ (e : Entry StoredUpload). e.kept.pieces) c.self.view_is in
    c.read_each.ensures.items
    ∙ ap (λ (bytes : List ℕ). c.args.bytes.now.items ++ take c.args.count (drop c.args.offset bytes)) (ap (bytes_of c.args.pool.now) pieces ∙ sym (content-kept c.args.pool.now c.args.self.now.kept))
