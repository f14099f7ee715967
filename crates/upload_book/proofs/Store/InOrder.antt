-- What keeps a tenant's part in order.
use Rattle.std.proofs.Common.{◌≡◌, ℕ, ◌≤◌, List, [], ◌∷◌, inl, inr, ap, subst, arith}
use Rattle.std.specs.List.{Contains}
use Rattle.std.proofs.lemmas.List.Elements.{All-push, All-set}
use Rattle.upload_book.specs.declared.pieces.Piece.{Piece}
use Rattle.upload_book.specs.inside.Kept.{AreInOrder}
use Rattle.upload_book.specs.inside.Pieces.{HasNoLaterPiece}
use Rattle.upload_book.specs.Stored.{StoredTenant, StoredUpload}
use Rattle.upload_book.specs.TenantBook.{Entry, with_new, with_next}
use Rattle.upload_book.proofs.Charge.InUse.{Contains-cases, Contains-none}
use Rattle.upload_book.proofs.Lawful.IdLemmas.{AreBelow-next, AreBelow-push, AreBelow-remove, AreBelow-set}
use Rattle.upload_book.proofs.Store.Pieces.{IsEntry, with_entry, without, All-remove}

-- an upload whose one piece is its own has no later one
pub HasNoLaterPiece-own : (e : Entry StoredUpload) (x : Piece) → e.kept.pieces ≡ x ∷ [] → x.origin ≡ e.id → HasNoLaterPiece e
HasNoLaterPiece-own e x is own y c = elim (Contains-cases x y [] (subst (λ (pieces : List Piece). Contains pieces y) is c)) [
  | inl same ↦ omega (arith, own, ap (λ (x : Piece). x.origin) same)
  | inr nothing ↦ absurd (Contains-none y nothing)
]

-- one more upload comes last
pub AreInOrder-push : (s : StoredTenant) (u : StoredUpload) → HasNoLaterPiece (record { id = s.next; kept = u }) → AreInOrder s → AreInOrder (with_new s u)
AreInOrder-push s u new are = record {
  ids = AreBelow-push s.next s.uploads u are.ids;
  origins = All-push HasNoLaterPiece s.uploads (record { id = s.next; kept = u }) are.origins new;
}

-- an upload changes at its place
pub AreInOrder-set : (s : StoredTenant) (i : ℕ) (e after : Entry StoredUpload) → IsEntry s i e → after.id ≡ e.id → HasNoLaterPiece after → AreInOrder s → AreInOrder (with_entry s i after)
AreInOrder-set s i e after entry same new are = record {
  ids = AreBelow-set s.next s.uploads i e after entry.within entry.read same are.ids;
  origins = All-set HasNoLaterPiece s.uploads i after new are.origins;
}

-- an upload is taken out
pub AreInOrder-remove : (s : StoredTenant) (i : ℕ) (e : Entry StoredUpload) → IsEntry s i e → AreInOrder s → AreInOrder (without s i)
AreInOrder-remove s i e entry are = record {
  ids = AreBelow-remove s.next s.uploads i e entry.within are.ids;
  origins = All-remove HasNoLaterPiece s.uploads i are.origins;
}

-- the next id is further
pub AreInOrder-next : (s : StoredTenant) (next : ℕ) → s.next ≤ next → AreInOrder s → AreInOrder (with_next s next)
AreInOrder-next s next more are = record { ids = AreBelow-next s.next next s.uploads more are.ids; origins = are.origins }
