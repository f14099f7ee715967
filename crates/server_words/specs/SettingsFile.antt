-- The file with the settings of a journal: their words as they would be typed, one a line.
use Rattle.std.specs.Prelude.{◌≡◌, ◌≢◌, ◌⊎◌, ℕ, ◌<◌, ◌==◌, List, [], ◌∷◌, ◌++◌, flat_map, length, map, Option, Some, None, codes, decimal, if◌then◌else◌}
use Rattle.std.specs.List.{AllByRecursion, after_first, before_first, position_or_len}
use Rattle.std.specs.Str.{byte}
use Rattle.std.specs.Result.{result_ok}
use Rattle.clap.specs.Kinds.{Kinds}
use Rattle.clap.specs.Words.{Text}
use Rattle.upload_book.specs.Settings.{Settings}
use Rattle.upload_book.specs.declared.settings.Bounds.TheVariants.{Wide}
use Rattle.upload_book.specs.declared.settings.Numbers.{Numbers}
use Rattle.upload_book.specs.declared.settings.TenantQuota.{TenantQuota}
use Rattle.server_words.specs.Arguments.{CommandArguments, talk, serve, check, export, arguments_in}
use Rattle.server_words.specs.CommandLine.{faults_in, is_word}
use Rattle.server_words.specs.Settings.{settings_given}

-- each word as a line
abbrev pub lines : List Text → List ℕ
lines words = flat_map (λ (word : List ℕ). word ++ codes "\n") words

-- an option with its number
abbrev pub option_words : Text → ℕ → List Text
option_words name number = name ∷ decimal number ∷ []

-- a tenant with its quota in blocks, as NAME:QUOTA
abbrev pub tenant_word : TenantQuota → Text
tenant_word t = t.name ++ codes ":" ++ decimal t.quota

-- the option by which finished uploads end, where they do by themselves
abbrev pub finished_words : ℕ → List Text
finished_words seconds = if seconds == 0 then [] else option_words (codes "--finished-lifetime") seconds

-- the other numbers, those too that are an option's default; then `--`, behind which no word is an option, as a tenant's name
-- may begin with a dash
abbrev pub size_words : Numbers → List Text
size_words n =
    option_words (codes "--blocks") n.blocks ++ option_words (codes "--block-size") n.block_size
    ++ option_words (codes "--lifetime") n.lifetime ++ option_words (codes "--max-size") n.max_size
    ++ option_words (codes "--uploads") n.uploads ++ codes "--" ∷ []

-- all numbers
abbrev pub number_words : Numbers → List Text
number_words n = finished_words n.finished_lifetime ++ size_words n

-- the numbers, and the tenants in their order
abbrev pub settings_words : Settings → List Text
settings_words s = number_words s.numbers ++ map {A = TenantQuota} {B = List ℕ} tenant_word s.tenants

-- the text of the file of these settings
abbrev pub settings_text : Settings → List ℕ
settings_text s = lines (settings_words s)

-- the text is these lines, or these and a last one without an end, which is not empty
pub record IsLastLine (words : List Text) (text : List ℕ) : Type 0 where
  pub front : List Text
  pub last : Text
  pub some : last ≢ []
  pub words_are : words ≡ front ++ last ∷ []
  pub text_is : lines front ++ last ≡ text

-- no end of a line stands in a word
abbrev pub IsWord : Text → Type 0
IsWord word = position_or_len (λ b. b == byte "\n") word ≡ length word

-- this is the first line of a text, and the rest behind its end
pub record IsFirstLine (text line rest : List ℕ) : Type 0 where
  pub ends : position_or_len (λ b. b == byte "\n") text < length text
  pub line_is : line ≡ before_first (λ b. b == byte "\n") text
  pub rest_is : rest ≡ after_first (λ b. b == byte "\n") text

-- these are the lines of a text, without their ends
pub record AreLines (words : List Text) (text : List ℕ) : Type 0 where
  pub each : AllByRecursion IsWord words
  pub whole : (lines words ≡ text) ⊎ IsLastLine words text

-- the settings that `talk`, `serve` or `run` is asked for, under the wide bounds, as a server may have had these
abbrev pub settings_asked : Option CommandArguments → Option Settings
settings_asked None = None
settings_asked (Some (talk arguments)) = result_ok (settings_given Wide arguments.numbers arguments.tenants)
settings_asked (Some (serve arguments)) = result_ok (settings_given Wide arguments.numbers arguments.tenants)
settings_asked (Some (check folder)) = None
settings_asked (Some (export arguments)) = None

abbrev pub settings_where : Kinds → Option CommandArguments → Option Settings
settings_where [] asked = settings_asked asked
settings_where (fault ∷ faults) asked = None

-- the settings that words of a command line ask for, where these are taken
unfoldable pub settings_in : List Text → Option Settings
settings_in words = settings_where (faults_in words) (arguments_in words)

-- the command that takes the words of a file: `run` where finished uploads end by themselves, as it alone has that option, and
-- else `talk`
abbrev pub command_for : List Text → Text
command_for words = if is_word words 0 (codes "--finished-lifetime") then codes "run" else codes "talk"

-- the settings that the words of a file give: those that this command would be asked for by them, under the wide bounds
unfoldable pub settings_given_by : List Text → Option Settings
settings_given_by words = settings_in (codes "tus-server" ∷ command_for words ∷ words)
