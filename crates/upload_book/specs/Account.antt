-- What a tenant pays and may pay.
use Rattle.std.specs.Prelude.{ℕ, ◌+◌, ◌-◌}
use Rattle.block_bodies.specs.Bodies.{blocks_for}
use Rattle.upload_book.specs.Charge.{charge_in}
use Rattle.upload_book.specs.declared.board_line.Account.{Account}
use Rattle.upload_book.specs.declared.settings.Numbers.{Numbers}
use Rattle.upload_book.specs.TenantBook.{TenantBook}

-- the account of a tenant with this part, where so many blocks were charged
abbrev pub account_in : Numbers → TenantBook → ℕ → Account
account_in n part charged = record { charge = charge_in n part; quota = part.quota; charged = charged }

-- the blocks, of a size, that so many bytes after an offset take: those beyond the rest of its last block
abbrev pub blocks_between : ℕ → ℕ → ℕ → ℕ
blocks_between size offset more = blocks_for size (offset + more) - blocks_for size offset

-- the same by the settings' numbers
abbrev pub blocks_added : Numbers → ℕ → ℕ → ℕ
blocks_added n offset more = blocks_between n.block_size offset more

-- the account after so many blocks were added
abbrev pub account_with : Account → ℕ → Account
account_with a blocks = record a { charge = a.charge + blocks; charged = a.charged + blocks }
