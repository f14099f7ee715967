-- The plain book: for each tenant its uploads as lists of bytes, with no block, index or lock.
use Rattle.std.specs.Prelude.{ℕ, ◌+◌, ◌-◌, List, map, set, get_or}
use Rattle.upload_book.specs.declared.settings.Numbers.{Numbers}
use Rattle.upload_book.specs.declared.settings.TenantQuota.{TenantQuota}
use Rattle.upload_book.specs.Charge.{charge_in}
use Rattle.upload_book.specs.Settings.{Settings}
use Rattle.upload_book.specs.TenantBook.{TenantBook, opening_part}

-- the settings, the tenants' parts in the order of the settings, and how many blocks all tenants together were
-- charged so far, and how many of them were released
pub record PlainBook : Type 0 where
  pub settings : Settings
  pub tenants : List TenantBook
  pub charged : ℕ
  pub released : ℕ

-- the book at the start
abbrev pub opening_book : Settings → PlainBook
opening_book s = record {
  settings = s;
  tenants = map {A = TenantQuota} {B = TenantBook} (λ t. opening_part t.quota) s.tenants;
  charged = 0;
  released = 0;
}

-- a tenant's part, by its place in the settings; that of no tenant has no upload and gave no id
abbrev pub tenant_book : PlainBook → ℕ → TenantBook
tenant_book b tenant = get_or b.tenants tenant (opening_part 0)

-- The book with another part of one tenant. What the tenant pays more is charged, and what it pays less is
-- released.
abbrev pub with_tenant_book : PlainBook → ℕ → TenantBook → PlainBook
with_tenant_book b tenant part =
    let before = charge_in b.settings.numbers (tenant_book b tenant) in
    let after = charge_in b.settings.numbers part in
    record b {
      tenants = set b.tenants tenant part;
      charged = b.charged + (after - before);
      released = b.released + (before - after);
    }

-- What a step gives is determined by the numbers of the settings and one tenant's part; one that sends bytes is also
-- given how many blocks were charged so far. This is how each step on a part is one of the book: its answer,
abbrev pub answer_of : {A : Type 0} → PlainBook → ℕ → (Numbers → TenantBook → A) → A
answer_of b tenant answer = answer b.settings.numbers (tenant_book b tenant)

-- and the book after it, whose other parts stay
abbrev pub book_after : PlainBook → ℕ → (Numbers → TenantBook → TenantBook) → PlainBook
book_after b tenant after = with_tenant_book b tenant (after b.settings.numbers (tenant_book b tenant))
