-- What stands for the settings and the log where there is no board.
use Rattle.std.specs.Prelude.{[]}
use Rattle.logbook.specs.Pages.{Book}
use Rattle.upload_book.specs.Settings.{Settings}

-- settings of nothing, which no book has
abbrev pub no_settings : Settings
no_settings = record {
  numbers = record {
    blocks = 0;
    block_size = 0;
    lifetime = 0;
    finished_lifetime = 0;
    max_size = 0;
    uploads = 0;
    last_id = 0;
    last_total = 0;
  };
  tenants = [];
}

-- the log of nothing
abbrev pub no_log : Book
no_log = record { number = 0; log_name = 0; cells_name = 0 }
