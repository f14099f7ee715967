use Rattle.std.proofs.Common.{◌≡◌, ◌++◌, drop}
use Rattle.std.specs.Prelude.{option_map}
use Rattle.clap.specs.Walk.{texts}
use Rattle.upload_book.specs.Settings.{tenants_of}
use Rattle.server_words.specs.Tenants.{tenants_in}
use Rattle.server_words.proofs.settings.tenants_of.Given as goal

-- the tenants so far and those of the words that are left are those of all words
abbrev pub invariant-loop-word : goal.invariant-loop-word
invariant-loop-word l =
    option_map (λ rest. tenants_of l.tenants.items ++ rest) (tenants_in l.block_size (texts (drop l.word-index l.words))) ≡ tenants_in l.block_size (texts l.words)
