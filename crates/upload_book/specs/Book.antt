-- What the value of a book stands for.
use Rattle.std.specs.Prelude.{◌≡◌, ℕ, ◌*◌, length}
use Rattle.block_pool.specs.Blocks.{size_of}
use Rattle.upload_book.specs.Expiries.{AreExpiries}
use Rattle.upload_book.specs.ExpiryList.{ExpiryList}
use Rattle.upload_book.specs.Lawful.{IsLawful}
use Rattle.upload_book.specs.PlainBook.{PlainBook}
use Rattle.upload_book.specs.Settings.{Settings}
use Rattle.upload_book.specs.BlockStore.{BlockStore, plain_in}

-- the settings, the uploads in blocks, how many blocks were charged and released so far, and the uploads that expire
pub record StoredBook : Type 0 where
  pub settings : Settings
  pub store : BlockStore
  pub charged : ℕ
  pub released : ℕ
  pub expiries : ExpiryList

-- the plain book that a book stands for: its uploads' bytes are read through their blocks
abbrev pub plain_of : StoredBook → PlainBook
plain_of b = record {
  settings = b.settings;
  tenants = plain_in b.store;
  charged = b.charged;
  released = b.released;
}

-- What every book keeps: it stands for a lawful plain book, over a pool of the settings, with room for as many
-- uploads of each tenant as the settings allow, and lists those that expire, with room for all.
pub record IsBook (b : StoredBook) : Type 0 where
  pub lawful : IsLawful (plain_of b)
  pub size : b.store.pool.block_size ≡ b.settings.numbers.block_size
  pub blocks : size_of b.store.pool ≡ b.settings.numbers.blocks
  pub room : b.store.room ≡ b.settings.numbers.uploads
  pub expiries : AreExpiries (plain_of b) b.expiries.list
  pub entries : b.expiries.room ≡ length b.settings.tenants * b.settings.numbers.uploads
