-- The parts of a concatenation: what is kept of those that are named, and what the plain book has of them.
use Rattle.std.proofs.Common.{◌≡◌, ℕ, suc, ◌+◌, ◌<◌, ◌≤◌, Bool, true, false, ◌&&◌, cond, eqb, List, [], ◌∷◌, ◌++◌, map, length, get_or, take, min, Option, None, Some, Result, Ok, Err, refl, sym, ap, ◌∙◌, subst, inl, inr, ap₂, append-nil, length-append, arith}
use Rattle.std.specs.List.{Contains, cons_option, flat_map}
use Rattle.std.specs.Option.{option_map}
use Rattle.std.proofs.lemmas.List.{append_assoc, map-append, take_more}
use Rattle.std.proofs.Math.Bool.{and-true}
use Rattle.std.proofs.lemmas.List.Folds.{list_all-append}
use Rattle.std.proofs.lemmas.List.Sums.{sum_by-append}
use Rattle.std.proofs.lemmas.Bool.Decides.{eqb_tells, nat_tests}
use Rattle.block_pool.specs.Blocks.{Blocks}
use Rattle.upload_book.specs.Concat.{are_complete, are_there, is_partial, joined_len, part_named, partial_seen, parts_found, rows_of}
use Rattle.upload_book.specs.declared.head_row.HeadRow.{HeadRow}
use Rattle.upload_book.specs.declared.parts_seen.PartsSeen.{PartsSeen}
use Rattle.upload_book.specs.declared.pieces.UnheldPiece.{UnheldPiece}
use Rattle.upload_book.specs.declared.progress.Progress.{Progress}
use Rattle.upload_book.specs.Progress.{progress_in}
use Rattle.upload_book.specs.BlockStore.{BlockStore, entry_at, part_at, pieces_named as pieces_at, rows_at, stored_tenant_at, upload_at}
use Rattle.upload_book.specs.inside.Places.{IsPartIn}
use Rattle.upload_book.specs.declared.head_row.Kind.{Kind}
use Rattle.upload_book.specs.declared.head_row.Kind.TheVariants.{Plain, Partial, Final}
use Rattle.upload_book.specs.declared.pieces.Piece.{Piece}
use Rattle.upload_book.specs.declared.refusal.Refusal.{Refusal}
use Rattle.upload_book.specs.declared.refusal.Refusal.TheVariants.{Unknown, Gone}
use Rattle.upload_book.specs.Expiry.{has_expired}
use Rattle.upload_book.specs.Stored.{Segment, StoredTenant, StoredUpload, entry_of, part_kept, part_of, parts_kept, pieces_of, segment_of, upload_of}
use Rattle.upload_book.specs.inside.Pieces.{as_piece}
use Rattle.upload_book.specs.TenantBook.{Entry, TenantBook, kept_in, is_given, visible, visible_in}
use Rattle.upload_book.specs.Upload.{Upload, head_row_of, is_reached}
use Rattle.upload_book.proofs.Charge.InUse.{Contains-cases, Contains-first, Contains-later, Contains-none}
use Rattle.upload_book.proofs.Store.Pieces.{Contains-flat_map, flat_map-contains, kept_pieces}
use Rattle.upload_book.proofs.Lawful.SeenLemmas.{plain_seen, visible-plain}

-- what stands for a partial upload, as the plain book has it
partial-plain : (p : Blocks) (id : ℕ) (partial : Bool) (u : StoredUpload) → cond partial (Some (record { id = id; kept = upload_of p u })) None ≡ option_map (entry_of p) (cond partial (Some (record { id = id; kept = u })) None)
partial-plain p id true u = refl
partial-plain p id false u = refl

seen-plain : (p : Blocks) (id : ℕ) (seen : Result StoredUpload Refusal) → partial_seen (λ (u : Upload). u.kind) id (plain_seen p seen) ≡ option_map (entry_of p) (partial_seen (λ (u : StoredUpload). u.kind) id seen)
seen-plain p id (Ok u) = partial-plain p id (is_partial u.kind) u
seen-plain p id (Err refusal) = refl

-- what stands for a part, as the plain book has it
pub part-plain : (p : Blocks) (stored_tenant : StoredTenant) (now : ℕ) (named : Option ℕ) → part_named (λ (u : Upload). u.kind) (λ (u : Upload). u.expires) (part_of p stored_tenant) now named ≡ option_map (entry_of p) (part_kept stored_tenant now named)
part-plain p stored_tenant now None = refl
part-plain p stored_tenant now (Some id) =
    ap (partial_seen (λ (u : Upload). u.kind) id) (visible-plain p stored_tenant id now) ∙ seen-plain p id (visible_in (λ (u : StoredUpload). u.expires) stored_tenant id now)

-- so with all of them
cons-plain : (p : Blocks) (found : Option (Entry StoredUpload)) (rest : List (Entry StoredUpload)) → cons_option (option_map (entry_of p) found) (map (entry_of p) rest) ≡ map (entry_of p) (cons_option found rest)
cons-plain p None rest = refl
cons-plain p (Some e) rest = refl

pub parts-plain : (p : Blocks) (stored_tenant : StoredTenant) (now : ℕ) (named : List (Option ℕ)) → parts_found (part_of p stored_tenant) now named ≡ map (entry_of p) (parts_kept stored_tenant now named)
parts-plain p stored_tenant now [] = refl
parts-plain p stored_tenant now (x ∷ named) =
    rw (part-plain p stored_tenant now x) (ap (cons_option (option_map (entry_of p) (part_kept stored_tenant now x))) (parts-plain p stored_tenant now named) ∙ cons-plain p (part_kept stored_tenant now x) (parts_kept stored_tenant now named))

-- a kind that is partial is that of a partial upload
partial-kind : (kind : Kind) → is_partial kind ≡ true → kind ≡ Partial
partial-kind Plain is = absurd cc
partial-kind Partial is = refl
partial-kind Final is = absurd cc

-- what is kept under an id is kept in an entry
Contains-kept : (entries : List (Entry StoredUpload)) (id : ℕ) (u : StoredUpload) → kept_in entries id ≡ Some u → Contains entries (record { id = id; kept = u })
Contains-kept [] id u is = absurd cc
Contains-kept (e ∷ entries) id u is = elim (eqb_tells e.id id) [
  | inl same ↦
      let first : Some e.kept ≡ Some u = sym (rw same.0 refl) ∙ is in
      let kept : e.kept ≡ u = cc in
      subst (λ (f : Entry StoredUpload). Contains (e ∷ entries) f) (rw (← same.1, ← kept) refl) (Contains-first e entries)
  | inr other ↦
      let rest : kept_in entries id ≡ Some u = rw other.0 at is in
      Contains-later e (record { id = id; kept = u }) entries (Contains-kept entries id u rest)
]

-- what a request sees stands there
seen-expired : (over : Bool) (w u : StoredUpload) → cond over (Err Gone) (Ok w) ≡ Ok u → w ≡ u
seen-expired true w u is = absurd cc
seen-expired false w u is = cc

seen-found : (entries : List (Entry StoredUpload)) (id now : ℕ) (given : Bool) (found : Option StoredUpload) (u : StoredUpload) → kept_in entries id ≡ found → cond given (visible (λ (u : StoredUpload). u.expires) now found) (Err Unknown) ≡ Ok u
    → Contains entries (record { id = id; kept = u })
seen-found entries id now false found u kept is = absurd cc
seen-found entries id now true None u kept is = absurd cc
seen-found entries id now true (Some w) u kept is = Contains-kept entries id u (kept ∙ ap Some (seen-expired (has_expired now w.expires) w u is))

seen-contained : (stored_tenant : StoredTenant) (id now : ℕ) (u : StoredUpload) → visible_in (λ (u : StoredUpload). u.expires) stored_tenant id now ≡ Ok u → Contains stored_tenant.uploads (record { id = id; kept = u })
seen-contained stored_tenant id now u is = seen-found stored_tenant.uploads id now (is_given stored_tenant id) (kept_in stored_tenant.uploads id) u refl is

-- what stands for a part is a partial upload of the tenant
pub record IsPartOf (stored_tenant : StoredTenant) (e : Entry StoredUpload) : Type 0 where
  pub there : Contains stored_tenant.uploads e
  pub partial : e.kept.kind ≡ Partial

found-part : (stored_tenant : StoredTenant) (id : ℕ) (partial : Bool) (u : StoredUpload) (e : Entry StoredUpload) → Contains stored_tenant.uploads (record { id = id; kept = u }) → is_partial u.kind ≡ partial → cond partial (Some (record { id = id; kept = u })) None ≡ Some e → IsPartOf stored_tenant e
found-part stored_tenant id true u e there kind is =
    let same : record { id = id; kept = u } ≡ e = cc in
    subst (IsPartOf stored_tenant) same (record { there = there; partial = partial-kind u.kind kind })
found-part stored_tenant id false u e there kind is = absurd cc

found-seen : (stored_tenant : StoredTenant) (id now : ℕ) (seen : Result StoredUpload Refusal) (e : Entry StoredUpload) → visible_in (λ (u : StoredUpload). u.expires) stored_tenant id now ≡ seen → partial_seen (λ (u : StoredUpload). u.kind) id seen ≡ Some e → IsPartOf stored_tenant e
found-seen stored_tenant id now (Ok u) e seen is = found-part stored_tenant id (is_partial u.kind) u e (seen-contained stored_tenant id now u seen) refl is
found-seen stored_tenant id now (Err refusal) e seen is = absurd cc

pub IsPartOf-named : (stored_tenant : StoredTenant) (now : ℕ) (named : Option ℕ) (e : Entry StoredUpload) → part_kept stored_tenant now named ≡ Some e → IsPartOf stored_tenant e
IsPartOf-named stored_tenant now None e is = absurd cc
IsPartOf-named stored_tenant now (Some id) e is = found-seen stored_tenant id now (visible_in (λ (u : StoredUpload). u.expires) stored_tenant id now) e refl is

-- so is each of those that stand for several
cons-part : (stored_tenant : StoredTenant) (now : ℕ) (x : Option ℕ) (found : Option (Entry StoredUpload)) (rest : List (Entry StoredUpload)) (e : Entry StoredUpload) → part_kept stored_tenant now x ≡ found → ((e : Entry StoredUpload) → Contains rest e → IsPartOf stored_tenant e) → Contains (cons_option found rest) e
    → IsPartOf stored_tenant e
cons-part stored_tenant now x None rest e is others c = others e c
cons-part stored_tenant now x (Some f) rest e is others c = elim (Contains-cases f e rest c) [
  | inl same ↦ subst (IsPartOf stored_tenant) same (IsPartOf-named stored_tenant now x f is)
  | inr later ↦ others e later
]

pub ArePartsOf-named : (stored_tenant : StoredTenant) (now : ℕ) (named : List (Option ℕ)) (e : Entry StoredUpload) → Contains (parts_kept stored_tenant now named) e → IsPartOf stored_tenant e
ArePartsOf-named stored_tenant now [] e c = absurd (Contains-none e c)
ArePartsOf-named stored_tenant now (x ∷ named) e c = cons-part stored_tenant now x (part_kept stored_tenant now x) (parts_kept stored_tenant now named) e refl (ArePartsOf-named stored_tenant now named) c

-- their pieces are the tenant's
pub pieces-named : (stored_tenant : StoredTenant) (now : ℕ) (named : List (Option ℕ)) (x : Piece) → Contains (flat_map kept_pieces (parts_kept stored_tenant now named)) x → Contains (pieces_of stored_tenant) x
pieces-named stored_tenant now named x c =
    let found = Contains-flat_map kept_pieces (parts_kept stored_tenant now named) x c in
    flat_map-contains kept_pieces stored_tenant.uploads found.0 x (ArePartsOf-named stored_tenant now named found.0 found.1).there found.2

-- of one more part there is its row, if something stands for it
abbrev more_rows : Option (Entry Upload) → List HeadRow
more_rows None = []
more_rows (Some e) = head_row_of e.kept ∷ []

rows-cons : (found : Option (Entry Upload)) (rest : List (Entry Upload)) → rows_of (cons_option found rest) ≡ more_rows found ++ rows_of rest
rows-cons None rest = refl
rows-cons (Some e) rest = refl

rows-more : (part : TenantBook) (now : ℕ) (named : List (Option ℕ)) (x : Option ℕ) → rows_of (parts_found part now (named ++ x ∷ [])) ≡ rows_of (parts_found part now named) ++ more_rows (part_named (λ u. u.kind) (λ u. u.expires) part now x)
rows-more part now [] x = rows-cons (part_named (λ u. u.kind) (λ u. u.expires) part now x) [] ∙ append-nil (more_rows (part_named (λ u. u.kind) (λ u. u.expires) part now x))
rows-more part now (y ∷ named) x =
    let first = part_named (λ u. u.kind) (λ u. u.expires) part now y in
    let last = part_named (λ u. u.kind) (λ u. u.expires) part now x in
    rows-cons first (parts_found part now (named ++ x ∷ [])) ∙ ap (λ (rows : List HeadRow). more_rows first ++ rows) (rows-more part now named x)
    ∙ sym (append_assoc (more_rows first) (rows_of (parts_found part now named)) (more_rows last))
    ∙ ap (λ (rows : List HeadRow). rows ++ more_rows last) (sym (rows-cons first (parts_found part now named)))

-- there are no more rows than parts
rows-few : (part : TenantBook) (now : ℕ) (named : List (Option ℕ)) → length (rows_of (parts_found part now named)) ≤ length named
rows-few part now [] = omega arith
rows-few part now (x ∷ named) = one_more (part_named (λ u. u.kind) (λ u. u.expires) part now x) (parts_found part now named) (rows-few part now named) where
  one_more : (found : Option (Entry Upload)) (rest : List (Entry Upload)) → length (rows_of rest) ≤ length named → length (rows_of (cons_option found rest)) ≤ suc (length named)
  one_more None rest few = omega (arith, few)
  one_more (Some e) rest few = omega (arith, few)

-- the parts that are named were seen so together
pub record AreSeen (s : BlockStore) (t : ℕ) (named : List (Option ℕ)) (now : ℕ) (seen : PartsSeen) : Type 0 where
  pub there : seen.there ≡ are_there named (rows_at s t named now)
  pub complete : seen.complete ≡ are_complete (rows_at s t named now)
  pub len : seen.len ≡ min (joined_len (rows_at s t named now)) 18446744073709551615

-- one more is there
AreSeen-more : (s : BlockStore) (t : ℕ) (named : List (Option ℕ)) (x : Option ℕ) (now i : ℕ) (seen : PartsSeen) (progress : Progress) → AreSeen s t named now seen → IsPartIn s t x now i → progress ≡ progress_in (head_row_of (upload_at s t i))
    → AreSeen s t (named ++ x ∷ []) now (record seen { complete = seen.complete && is_reached progress.declared progress.offset; len = min (seen.len + progress.offset) 18446744073709551615 })
AreSeen-more s t named x now i seen progress are is told =
    let before = rows_at s t named now in
    let row : HeadRow = head_row_of (upload_at s t i) in
    let found : part_named (λ u. u.kind) (λ u. u.expires) (part_at s t) now x ≡ Some (entry_of s.pool (entry_at s t i)) = part-plain s.pool (stored_tenant_at s t) now x ∙ ap (option_map (entry_of s.pool)) is.seen in
    let rows : rows_at s t (named ++ x ∷ []) now ≡ before ++ row ∷ [] = rows-more (part_at s t) now named x ∙ ap (λ (o : Option (Entry Upload)). before ++ more_rows o) found in
    let reached : is_reached progress.declared progress.offset ≡ is_reached row.declared row.offset = ap (λ (s : Progress). is_reached s.declared s.offset) told in
    let offset : progress.offset ≡ row.offset = ap (λ (s : Progress). s.offset) told in
    record {
      there = are.there ∙ rw rows (same_there _ _ _ _ (length-append before (row ∷ [])) (length-append named (x ∷ [])));
      complete = ap₂ (λ (a b : Bool). a && b) are.complete reached ∙ rw rows (sym (list_all-append (λ (row : HeadRow). is_reached row.declared row.offset) before (row ∷ []) ∙ ap (λ (b : Bool). are_complete before && b) (and-true (is_reached row.declared row.offset))));
      len = rw rows (omega (arith, are.len, offset, sum_by-append (λ (row : HeadRow). row.offset) before (row ∷ [])));
    }
  where
    same_there : (rows parts rows' parts' : ℕ) → rows' ≡ rows + 1 → parts' ≡ parts + 1 → eqb rows parts ≡ eqb rows' parts'
    same_there rows parts rows' parts' more more' = grind (arith, nat_tests)

-- one more is not there
AreSeen-missing : (s : BlockStore) (t : ℕ) (named : List (Option ℕ)) (x : Option ℕ) (now : ℕ) (seen : PartsSeen) → AreSeen s t named now seen → part_kept (stored_tenant_at s t) now x ≡ None → AreSeen s t (named ++ x ∷ []) now (record seen { there = false })
AreSeen-missing s t named x now seen are is =
    let before = rows_at s t named now in
    let found : part_named (λ u. u.kind) (λ u. u.expires) (part_at s t) now x ≡ None = part-plain s.pool (stored_tenant_at s t) now x ∙ ap (option_map (entry_of s.pool)) is in
    let rows : rows_at s t (named ++ x ∷ []) now ≡ before = rows-more (part_at s t) now named x ∙ ap (λ (o : Option (Entry Upload)). before ++ more_rows o) found ∙ append-nil before in
    record {
      there = rw rows (fewer _ _ _ (rows-few (part_at s t) now named) (length-append named (x ∷ [])));
      complete = rw rows are.complete;
      len = rw rows are.len;
    }
  where
    fewer : (rows parts parts' : ℕ) → rows ≤ parts → parts' ≡ parts + 1 → false ≡ eqb rows parts'
    fewer rows parts parts' few more = grind (arith, nat_tests)

-- so it is with one more of all
pub AreSeen-next : (s : BlockStore) (t : ℕ) (named : List (Option ℕ)) (now k i : ℕ) (seen : PartsSeen) (progress : Progress) → k < length named → AreSeen s t (take k named) now seen → IsPartIn s t (get_or named k None) now i → progress ≡ progress_in (head_row_of (upload_at s t i))
    → AreSeen s t (take (k + 1) named) now (record seen { complete = seen.complete && is_reached progress.declared progress.offset; len = min (seen.len + progress.offset) 18446744073709551615 })
AreSeen-next s t named now k i seen progress l are is told = rw (take_more named k None l) (AreSeen-more s t (take k named) (get_or named k None) now i seen progress are is told)

pub AreSeen-next_missing : (s : BlockStore) (t : ℕ) (named : List (Option ℕ)) (now k : ℕ) (seen : PartsSeen) → k < length named → AreSeen s t (take k named) now seen → part_kept (stored_tenant_at s t) now (get_or named k None) ≡ None → AreSeen s t (take (k + 1) named) now (record seen { there = false })
AreSeen-next_missing s t named now k seen l are is = rw (take_more named k None l) (AreSeen-missing s t (take k named) (get_or named k None) now seen are is)

-- the pieces of one more part stand after the others
abbrev more_pieces : Option (Entry StoredUpload) → List Piece
more_pieces None = []
more_pieces (Some e) = e.kept.pieces

cons-pieces : (found : Option (Entry StoredUpload)) (rest : List (Entry StoredUpload)) → flat_map kept_pieces (cons_option found rest) ≡ more_pieces found ++ flat_map kept_pieces rest
cons-pieces None rest = refl
cons-pieces (Some e) rest = refl

pieces-more : (stored_tenant : StoredTenant) (now : ℕ) (named : List (Option ℕ)) (x : Option ℕ) → flat_map kept_pieces (parts_kept stored_tenant now (named ++ x ∷ [])) ≡ flat_map kept_pieces (parts_kept stored_tenant now named) ++ more_pieces (part_kept stored_tenant now x)
pieces-more stored_tenant now [] x = cons-pieces (part_kept stored_tenant now x) [] ∙ append-nil (more_pieces (part_kept stored_tenant now x))
pieces-more stored_tenant now (y ∷ named) x =
    let first = part_kept stored_tenant now y in
    let last = part_kept stored_tenant now x in
    cons-pieces first (parts_kept stored_tenant now (named ++ x ∷ [])) ∙ ap (λ (pieces : List Piece). more_pieces first ++ pieces) (pieces-more stored_tenant now named x)
    ∙ sym (append_assoc (more_pieces first) (flat_map kept_pieces (parts_kept stored_tenant now named)) (more_pieces last))
    ∙ ap (λ (pieces : List Piece). pieces ++ more_pieces last) (sym (cons-pieces first (parts_kept stored_tenant now named)))

-- the pieces of the parts that are named were listed so
abbrev pub AreListed : BlockStore → ℕ → List (Option ℕ) → ℕ → List UnheldPiece → Type 0
AreListed s t named now listed = map segment_of (map as_piece listed) ≡ map segment_of (pieces_at s t named now)

-- one more is there, and is listed
AreListed-more : (s : BlockStore) (t : ℕ) (named : List (Option ℕ)) (x : Option ℕ) (now i : ℕ) (listed : List UnheldPiece) (piece : UnheldPiece) → AreListed s t named now listed → IsPartIn s t x now i
    → segment_of (as_piece piece) ∷ [] ≡ map segment_of (entry_at s t i).kept.pieces → AreListed s t (named ++ x ∷ []) now (listed ++ piece ∷ [])
AreListed-more s t named x now i listed piece are is one =
    let before = pieces_at s t named now in
    let more : pieces_at s t (named ++ x ∷ []) now ≡ before ++ (entry_at s t i).kept.pieces = pieces-more (stored_tenant_at s t) now named x ∙ ap (λ (o : Option (Entry StoredUpload)). before ++ more_pieces o) is.seen in
    ap (map segment_of) (map-append as_piece listed (piece ∷ [])) ∙ map-append segment_of (map as_piece listed) (as_piece piece ∷ [])
    ∙ ap₂ (λ (a b : List Segment). a ++ b) are one ∙ sym (map-append segment_of before (entry_at s t i).kept.pieces) ∙ ap (map segment_of) (sym more)

-- one more is not there
AreListed-missing : (s : BlockStore) (t : ℕ) (named : List (Option ℕ)) (x : Option ℕ) (now : ℕ) (listed : List UnheldPiece) → AreListed s t named now listed → part_kept (stored_tenant_at s t) now x ≡ None → AreListed s t (named ++ x ∷ []) now listed
AreListed-missing s t named x now listed are is =
    let before = pieces_at s t named now in
    let more : pieces_at s t (named ++ x ∷ []) now ≡ before = pieces-more (stored_tenant_at s t) now named x ∙ ap (λ (o : Option (Entry StoredUpload)). before ++ more_pieces o) is ∙ append-nil before in
    are ∙ ap (map segment_of) (sym more)

-- so it is with one more of all
pub AreListed-next : (s : BlockStore) (t : ℕ) (named : List (Option ℕ)) (now k i : ℕ) (listed : List UnheldPiece) (piece : UnheldPiece) → k < length named → AreListed s t (take k named) now listed → IsPartIn s t (get_or named k None) now i
    → segment_of (as_piece piece) ∷ [] ≡ map segment_of (entry_at s t i).kept.pieces → AreListed s t (take (k + 1) named) now (listed ++ piece ∷ [])
AreListed-next s t named now k i listed piece l are is one = rw (take_more named k None l) (AreListed-more s t (take k named) (get_or named k None) now i listed piece are is one)

pub AreListed-next_missing : (s : BlockStore) (t : ℕ) (named : List (Option ℕ)) (now k : ℕ) (listed : List UnheldPiece) → k < length named → AreListed s t (take k named) now listed → part_kept (stored_tenant_at s t) now (get_or named k None) ≡ None → AreListed s t (take (k + 1) named) now listed
AreListed-next_missing s t named now k listed l are is = rw (take_more named k None l) (AreListed-missing s t (take k named) (get_or named k None) now listed are is)
