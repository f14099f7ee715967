-- The second line of a fault: a sentence that says what was wrong, with the value and the limit, and what to do.
use Rattle.std.specs.Prelude.{ℕ, ◌*◌, ◌==◌, ◌&&◌, nat_le, nat_lt, List, [], ◌∷◌, ◌++◌, length, map, take, Option, Some, None, is_some, unwrap_or, bytes_eq, codes, decimal, if◌then◌else◌}
use Rattle.std.specs.List.{before_first, list_any, position_or_len}
use Rattle.std.specs.Str.{byte}
use Rattle.tus_text.specs.Tenant.{is_tenant_name}
use Rattle.upload_book.specs.declared.settings.Bounds.{Bounds}
use Rattle.upload_book.specs.declared.settings.Bounds.TheVariants.{Narrow}
use Rattle.upload_book.specs.declared.settings.Numbers.{Numbers}
use Rattle.upload_book.specs.declared.settings_fault.SettingsFault.{SettingsFault}
use Rattle.upload_book.specs.declared.settings_fault.SettingsFault.TheVariants as settings
use Rattle.upload_book.specs.Settings.{block_size_limit, blocks_limit, pool_limit, size_limit, uploads_limit}
use Rattle.server_words.specs.Arguments.{CommandArguments, bounds_by, talk, serve, check, export}
use Rattle.server_words.specs.Tenants.{is_colon, quota_sum, tenant_in}
use Rattle.server_words.specs.declared.cause.Cause.{Cause}
use Rattle.server_words.specs.declared.cause.Cause.TheVariants.{Input, Output, Port, Workers, Accept, Log, Metrics}
use Rattle.server_words.specs.declared.cause.PortFault.{PortFault}
use Rattle.server_words.specs.declared.cause.PortFault.TheVariants.{Taken, Forbidden, NotHere, Refused}
use Rattle.server_words.specs.declared.difference.Difference.{Difference}
use Rattle.server_words.specs.declared.difference.Difference.TheVariants.{FinishedLifetime, Lifetime, NoTenant, OtherTenant}
use Rattle.server_words.specs.declared.fault.RunFault.{RunFault}
use Rattle.server_words.specs.declared.journal_fault.JournalFault.{JournalFault}
use Rattle.server_words.specs.declared.journal_fault.JournalFault.TheVariants.{File, NoFolder, NoJournal, Busy, Settings, Damaged, Record, Disk, Upload}
use Rattle.server_words.specs.declared.journal_fault.Mismatch.{Mismatch}
use Rattle.server_words.specs.declared.journal_fault.NoUpload.{NoUpload}
use Rattle.server_words.specs.declared.journal_fault.NoUpload.TheVariants.{Name, Tenant, Unknown, Gone}
use Rattle.server_words.specs.declared.journal_fault.Mismatch.TheVariants.{Missing, Unreadable, Differs, TooSmall}
use Rattle.server_words.specs.declared.shortage.Shortage.{Shortage}
use Rattle.server_words.specs.declared.shortage.Shortage.TheVariants.{Quota, MaxSize, Uploads}
use Rattle.server_words.specs.declared.fault.RunFault.TheVariants as run

-- a byte as it is shown: a printable one of ASCII as it is, and any other as `?`
abbrev pub shown_byte : ℕ → ℕ
shown_byte b = if nat_le 32 b && nat_lt b 127 then b else byte "?"

-- a word as it is shown: at most its first 48 bytes
abbrev pub shown : List ℕ → List ℕ
shown word = map shown_byte (take 48 word)

-- a number of an option is outside 1 to most
abbrev pub outside_text : List ℕ → ℕ → ℕ → List ℕ
outside_text option value most =
    codes "--" ++ option ++ codes " is " ++ decimal value ++ codes ": give 1 to " ++ decimal most ++ codes "\n"

-- the blocks have more than most bytes together
abbrev pub pool_text : Numbers → ℕ → List ℕ
pool_text n most =
    codes "--blocks " ++ decimal n.blocks ++ codes " times --block-size " ++ decimal n.block_size
    ++ codes " is more than " ++ decimal most ++ codes " bytes: give less of one\n"

-- there are too many tenants, or none
abbrev pub tenants_text : ℕ → List ℕ
tenants_text count = decimal count ++ codes " tenants are named: give 1 to 16\n"

-- the first of the words that names no tenant
abbrev pub wrong_word : ℕ → List (List ℕ) → List ℕ
wrong_word size [] = []
wrong_word size (word ∷ words) = if is_some (tenant_in size word) then wrong_word size words else word

-- why a word names no tenant: it has no `:`, or what stands before that is no name, or what stands after it no quota
abbrev pub word_rule : List ℕ → List ℕ
word_rule word =
    if position_or_len is_colon word == length word then codes "a tenant is NAME:QUOTA, as acme:4096"
    else (if is_tenant_name (before_first is_colon word) then codes "a quota is a number of blocks, or of bytes as 16MiB"
    else codes "a name is 1 to 32 of a to z, digits and -")

abbrev pub word_text : List ℕ → List ℕ
word_text word = shown word ++ codes ": " ++ word_rule word ++ codes "\n"

-- the first name of the words that a later one has too
abbrev pub name_twice : List (List ℕ) → List ℕ
name_twice [] = []
name_twice (word ∷ words) =
    if list_any (λ later. bytes_eq (before_first is_colon later) (before_first is_colon word)) words
    then before_first is_colon word else name_twice words

abbrev pub twice_text : List ℕ → List ℕ
twice_text name = shown name ++ codes " is the name of two tenants: give each another\n"

abbrev pub sum_text : Option ℕ → List ℕ
sum_text None = codes "more than 18446744073709551615"
sum_text (Some sum) = decimal sum

-- the quotas are more than the blocks
abbrev pub quota_text : Option ℕ → ℕ → List ℕ
quota_text sum blocks =
    codes "the quotas sum to " ++ sum_text sum ++ codes " blocks, --blocks is " ++ decimal blocks
    ++ codes ": give smaller quotas or more --blocks\n"

-- finished uploads would stay for too long
abbrev pub finished_text : ℕ → List ℕ
finished_text seconds = codes "--finished-lifetime is " ++ decimal seconds ++ codes ": give 0 to 31536000\n"

-- what is wrong with the settings of these numbers and words under these bounds; no option gives the last id
abbrev pub settings_text : Bounds → SettingsFault → Numbers → List (List ℕ) → List ℕ
settings_text bounds settings.Blocks n words = outside_text (codes "blocks") n.blocks (blocks_limit bounds)
settings_text bounds settings.BlockSize n words = outside_text (codes "block-size") n.block_size (block_size_limit bounds)
settings_text bounds settings.PoolBytes n words = pool_text n (pool_limit bounds)
settings_text bounds settings.Lifetime n words = outside_text (codes "lifetime") n.lifetime 31536000
settings_text bounds settings.FinishedLifetime n words = finished_text n.finished_lifetime
settings_text bounds settings.MaxSize n words = outside_text (codes "max-size") n.max_size (size_limit bounds)
settings_text bounds settings.Uploads n words = outside_text (codes "uploads") n.uploads (uploads_limit bounds)
settings_text bounds settings.LastId n words = codes "the last id is out of its range\n"
settings_text bounds settings.TenantCount n words = tenants_text (length words)
settings_text bounds settings.TenantName n words = word_text (wrong_word n.block_size words)
settings_text bounds settings.TenantTwice n words = twice_text (name_twice words)
settings_text bounds settings.Quota n words = quota_text (quota_sum n.block_size words) n.blocks

-- there was no memory for the blocks and what stands beside them
abbrev pub memory_text : Numbers → List ℕ
memory_text n =
    codes "there was no memory for " ++ decimal n.blocks ++ codes " blocks of " ++ decimal n.block_size ++ codes " bytes, "
    ++ decimal (n.blocks * n.block_size) ++ codes " together, and their uploads: give less, or more memory\n"

-- a port could not be had at an address, which stands as it was given
abbrev pub port_text : PortFault → List ℕ → ℕ → List ℕ
port_text Taken address port = codes "port " ++ decimal port ++ codes " is taken by another program: end that, or give another --port\n"
port_text Forbidden address port = codes "port " ++ decimal port ++ codes " is not allowed to this user: give a --port from 1024 on\n"
port_text NotHere address port = shown address ++ codes " is no address of this machine: give one that is, or 0.0.0.0 or :: for every one\n"
port_text Refused address port = shown address ++ codes " port " ++ decimal port ++ codes " was refused by the system: give another\n"

-- the path of the journal of a command; no text where it has none
abbrev pub journal_in : CommandArguments → List ℕ
journal_in (talk arguments) = unwrap_or arguments.journal []
journal_in (serve arguments) = unwrap_or arguments.journal []
journal_in (check folder) = folder
journal_in (export arguments) = arguments.folder

abbrev pub address_in : CommandArguments → List ℕ
address_in (talk arguments) = []
address_in (serve arguments) = arguments.address
address_in (check folder) = []
address_in (export arguments) = []

abbrev pub port_in : CommandArguments → ℕ
port_in (talk arguments) = 0
port_in (serve arguments) = arguments.port
port_in (check folder) = 0
port_in (export arguments) = 0

-- the file of the log of a command, and the port at which numbers are asked for; no text and 0 where there is none
abbrev pub log_in : CommandArguments → List ℕ
log_in (talk arguments) = []
log_in (serve arguments) = unwrap_or arguments.log []
log_in (check folder) = []
log_in (export arguments) = []

abbrev pub metrics_in : CommandArguments → ℕ
metrics_in (talk arguments) = 0
metrics_in (serve arguments) = unwrap_or arguments.metrics 0
metrics_in (check folder) = 0
metrics_in (export arguments) = 0

-- standard output has failed, also where it was to show help
abbrev pub output_text : List ℕ
output_text = codes "standard output could not be written: see where it goes to\n"

-- what broke
abbrev pub cause_text : Cause → CommandArguments → List ℕ
cause_text Input arguments = codes "standard input could not be read: see where it comes from\n"
cause_text Output arguments = output_text
cause_text (Port why) arguments = port_text why (address_in arguments) (port_in arguments)
cause_text Workers arguments = codes "there was no socket for each worker: give fewer --workers, or a higher ulimit -n\n"
cause_text Accept arguments = codes "a worker could accept no connection: see ulimit -n\n"
cause_text Log arguments = shown (log_in arguments) ++ codes " can't be opened for the log: see its folder, and whose it is\n"
cause_text Metrics arguments = codes "--metrics " ++ decimal (metrics_in arguments) ++ codes " can't be listened at: give another port\n"

-- what of a journal's settings is not so in the options
abbrev pub difference_text : Difference → List ℕ
difference_text (Lifetime journal options) =
    codes "the journal has a lifetime of " ++ decimal journal ++ codes " seconds, the options " ++ decimal options ++ codes "\n"
difference_text (FinishedLifetime journal options) =
    codes "the journal has a lifetime of " ++ decimal journal ++ codes " seconds for finished uploads, the options " ++ decimal options ++ codes "\n"
difference_text (NoTenant place journal) =
    codes "the journal has the tenant " ++ journal.bytes ++ codes " at place " ++ decimal place ++ codes ", the options have none there\n"
difference_text (OtherTenant place journal options) =
    codes "the journal has the tenant " ++ journal.bytes ++ codes " at place " ++ decimal place ++ codes ", the options " ++ options.bytes ++ codes "\n"

-- what of a journal's uploads the settings of the options are too small for
abbrev pub shortage_text : Shortage → List ℕ
shortage_text (Quota tenant pays quota) =
    tenant.bytes ++ codes " would pay " ++ decimal pays ++ codes " blocks for what is in the journal, the options give it " ++ decimal quota ++ codes "\n"
shortage_text (MaxSize tenant id bytes max) =
    codes "upload " ++ tenant.bytes ++ codes "/" ++ decimal id ++ codes " in the journal has a length of " ++ decimal bytes
    ++ codes " bytes, the options allow " ++ decimal max ++ codes "\n"
shortage_text (Uploads tenant uploads most) =
    tenant.bytes ++ codes " has " ++ decimal uploads ++ codes " uploads in the journal, the options allow " ++ decimal most ++ codes "\n"

-- the settings beside a journal, or its uploads, don't go with the settings of the options
abbrev pub mismatch_text : Mismatch → List ℕ → List ℕ
mismatch_text Missing path = shown path ++ codes " has a journal and no settings: put its file settings back, or give another folder\n"
mismatch_text Unreadable path = shown path ++ codes "/settings gives no settings: put back what it was, or give another folder\n"
mismatch_text (Differs difference) path = difference_text difference
mismatch_text (TooSmall shortage) path = shortage_text shortage

-- a journal has no upload of this word
abbrev pub no_upload_text : NoUpload → List ℕ → List ℕ
no_upload_text Name word = shown word ++ codes ": an upload is named TENANT/ID, as acme/1\n"
no_upload_text Tenant word = shown word ++ codes ": the settings beside the journal have no such tenant\n"
no_upload_text Unknown word = shown word ++ codes ": the journal has no such upload, and never had\n"
no_upload_text Gone word = shown word ++ codes ": the upload has ended, and its bytes are gone\n"

-- a journal can't be had, or failed, or has no upload of this word; its path stands as it was given
abbrev pub journal_text : JournalFault → List ℕ → List ℕ → List ℕ
journal_text (Upload why) path word = no_upload_text why word
journal_text NoFolder path word = shown path ++ codes " is a file and no folder: give --journal a folder, which is made where there is none\n"
journal_text NoJournal path word = shown path ++ codes " has no journal that can be read: give the folder of one, and see its rights\n"
journal_text (Settings why) path word = mismatch_text why path
journal_text File path word = shown path ++ codes " can't be made, or its lock or journal can't be opened: see rights, and that the journal is a file with one name and no link\n"
journal_text Busy path word = shown path ++ codes " is another process's journal: end that, or give another --journal\n"
journal_text (Damaged at len) path word =
    shown path ++ codes " is damaged from byte " ++ decimal at ++ codes " of " ++ decimal len
    ++ codes " on, or no journal; nothing was written to it: give a copy of it, or another folder\n"
journal_text (Record number) path word =
    codes "record " ++ decimal number ++ codes " of " ++ shown path
    ++ codes " is of no change that the settings beside it allow: put back those that it was made with\n"
journal_text Disk path word = shown path ++ codes " could not be read or written: see its disk, and its rights. What any reply told is in it\n"

-- a word of the command line is no text
abbrev pub no_text : List ℕ
no_text = codes "a word of the command line is not UTF-8: write it in ASCII\n"

-- the words are refused, and memory was lacking to say why
abbrev pub untold_text : List ℕ
untold_text = codes "the command line is refused, and there was no memory to say why: see tus-server --help\n"

-- memory was lacking for the words themselves
abbrev pub words_memory_text : List ℕ
words_memory_text = codes "there was no memory to read the command line or to show help: give more memory\n"

-- a word is no address
abbrev pub address_text : List ℕ → List ℕ
address_text word = shown word ++ codes ": an address is one of IPv4 or IPv6, as 127.0.0.1 or ::1\n"

-- clients and numbers were to have the same port
abbrev pub ports_text : ℕ → List ℕ
ports_text port = codes "--port and --metrics are both " ++ decimal port ++ codes ": give each a port of its own\n"

-- there was no memory for what is in a journal
abbrev pub reading_text : List ℕ → List ℕ
reading_text path = codes "there was no memory to read " ++ shown path ++ codes " and to make its changes again: give more memory\n"

-- there was no memory for what a command needs
abbrev pub memory_told : CommandArguments → List ℕ
memory_told (talk arguments) = memory_text arguments.numbers
memory_told (serve arguments) = memory_text arguments.numbers
memory_told (check folder) = reading_text folder
memory_told (export arguments) = reading_text arguments.folder

-- no numbers
abbrev pub no_numbers : Numbers
no_numbers = record { blocks = 0; block_size = 0; lifetime = 0; finished_lifetime = 0; max_size = 0; uploads = 0; last_id = 0; last_total = 0 }

-- The numbers, the words NAME:QUOTA, the address and the port of a command. `talk` has neither of the last two, and a command
-- that looks into a journal none of them.
abbrev pub numbers_in : CommandArguments → Numbers
numbers_in (talk arguments) = arguments.numbers
numbers_in (serve arguments) = arguments.numbers
numbers_in (check folder) = no_numbers
numbers_in (export arguments) = no_numbers

abbrev pub tenant_words : CommandArguments → List (List ℕ)
tenant_words (talk arguments) = arguments.tenants
tenant_words (serve arguments) = arguments.tenants
tenant_words (check folder) = []
tenant_words (export arguments) = []

-- the bounds of the settings of a command
abbrev pub bounds_in : CommandArguments → Bounds
bounds_in (talk arguments) = bounds_by arguments.piece
bounds_in (serve arguments) = bounds_by arguments.work.piece
bounds_in (check folder) = Narrow
bounds_in (export arguments) = Narrow

-- the word TENANT/ID of a command; `journal export` alone has one
abbrev pub upload_in : CommandArguments → List ℕ
upload_in (export arguments) = arguments.upload
upload_in arguments = []

-- The sentence on a fault of a command with these arguments, as a line. A command has no fault of its words: they were
-- read before it.
abbrev pub sentence_of : CommandArguments → RunFault → List ℕ
sentence_of arguments run.Words = untold_text
sentence_of arguments run.Address = address_text (address_in arguments)
sentence_of arguments run.Ports = ports_text (port_in arguments)
sentence_of arguments (run.Settings why) = settings_text (bounds_in arguments) why (numbers_in arguments) (tenant_words arguments)
sentence_of arguments (run.Wire cause) = cause_text cause arguments
sentence_of arguments (run.Journal why) = journal_text why (journal_in arguments) (upload_in arguments)
sentence_of arguments run.Memory = memory_told arguments
