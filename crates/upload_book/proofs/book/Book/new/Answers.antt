use Rattle.std.proofs.Common.{ℕ, ◌*◌, [], ap₂, ◌∙◌}
use Rattle.upload_book.specs.declared.settings.Numbers.{Numbers}
use Rattle.upload_book.specs.ExpiryList.{ExpiryList}
use Rattle.upload_book.proofs.Steps.BookSteps.{IsBook-opening, plain-opening}
use Rattle.upload_book.proofs.book.Book.new.Goals as goal

-- a list of nothing, with room for all uploads of so many tenants
abbrev roomy : ℕ → Numbers → ExpiryList
roomy tenants n = record { list = []; room = tenants * n.uploads }

pub invariant_of-result : goal.invariant_of-result
invariant_of-result c =
    IsBook-opening c.args.settings c.in_ok-store.store c.in_ok-expiries.expiries c.in_ok-store.ensures.sound c.in_ok-store.ensures.value (c.in_ok-expiries.ensures ∙ ap₂ roomy c.tenant_count.ensures c.numbers.ensures.value)

pub returns : goal.returns
returns c =
    plain-opening c.args.settings c.in_ok-store.store c.in_ok-expiries.expiries c.in_ok-store.ensures.value
