-- One tenant's part of the book, by which alone its requests are answered.
use Rattle.std.specs.Prelude.{ℕ, ◌+◌, Bool, ◌&&◌, List, [], ◌∷◌, ◌++◌, map, nat_lt, ◌==◌, Option, Some, None, Result, Ok, Err, if◌then◌else◌}
use Rattle.upload_book.specs.declared.refusal.Refusal.{Refusal}
use Rattle.upload_book.specs.declared.refusal.Refusal.TheVariants.{Unknown, Gone}
use Rattle.upload_book.specs.Expiry.{has_expired}
use Rattle.upload_book.specs.Upload.{Upload}

-- what is kept under an id
pub record Entry (K : Type 0) : Type 0 where
  pub id : ℕ
  pub kept : K

-- a tenant's quota in blocks, the id that its next upload gets, and what is kept of its uploads, by
-- ascending id
pub record TenantPart (K : Type 0) : Type 0 where
  pub quota : ℕ
  pub next : ℕ
  pub uploads : List (Entry K)

module _ {K : Type 0} where
  -- a part with no upload yet
  abbrev pub opening_part : ℕ → TenantPart K
  opening_part quota = record { quota = quota; next = 1; uploads = [] }

  -- what is kept under an id
  abbrev pub kept_in : List (Entry K) → ℕ → Option K
  kept_in [] id = None
  kept_in (e ∷ entries) id = if e.id == id then Some e.kept else kept_in entries id

  -- the entries with something else under an id
  abbrev pub with_kept : List (Entry K) → ℕ → K → List (Entry K)
  with_kept entries id kept = map {A = Entry K} {B = Entry K} (λ e. if e.id == id then record e { kept = kept } else e) entries

  -- a part with something else under an id
  abbrev pub with_changed : TenantPart K → ℕ → K → TenantPart K
  with_changed part id kept = record part { uploads = with_kept part.uploads id kept }

  -- a part with one more upload, which gets the next id
  abbrev pub with_new : TenantPart K → K → TenantPart K
  with_new part kept = record part {
    next = part.next + 1;
    uploads = part.uploads ++ record { id = part.next; kept = kept } ∷ [];
  }

  -- A part whose next id is this one. The ids between were given, and nothing stands under them.
  abbrev pub with_next : TenantPart K → ℕ → TenantPart K
  with_next part id = record part { next = id }

  -- the id was given to an upload of the tenant, which may have ended since
  abbrev pub is_given : TenantPart K → ℕ → Bool
  is_given part id = nat_lt 0 id && nat_lt id part.next

  -- what was found is visible, unless it has expired
  abbrev pub visible : (K → Option ℕ) → ℕ → Option K → Result K Refusal
  visible expires now None = Err Gone
  visible expires now (Some kept) = if has_expired now (expires kept) then Err Gone else Ok kept

  -- What a request for an id sees at a moment, by when each upload expires: an id that was never given is
  -- unknown, and one that was given is gone where its upload has ended or expired (tus 1.0.0, Expiration).
  abbrev pub visible_in : (K → Option ℕ) → TenantPart K → ℕ → ℕ → Result K Refusal
  visible_in expires part id now =
      if is_given part id then visible expires now (kept_in part.uploads id) else Err Unknown

-- the plain book's part of a tenant keeps the uploads themselves
abbrev pub TenantBook : Type 0
TenantBook = TenantPart Upload

-- the upload that a request for an id sees at a moment
abbrev pub visible_upload : TenantBook → ℕ → ℕ → Result Upload Refusal
visible_upload part id now = visible_in (λ u. u.expires) part id now
