-- What `talk` does: one conversation over two streams, on a new book.
use Rattle.std.specs.Prelude.{◌≡◌, ◌≢◌, ◌++◌, ℕ, Bool, List, replicate, Option, Some, None, Result, Ok, Err, IsOk, IsTrue, OnErr}
use Rattle.std.specs.Io.KnownBytes.{Appends, Consumes}
use Rattle.http_wire.specs.RequestLimits.{alike}
use Rattle.http_wire.specs.Conversation.{Conversation}
use Rattle.http_wire.specs.Fault.{NamesStream}
use Rattle.http_wire.specs.OnConnection.{wanted}
use Rattle.http_wire.specs.Turns.{Breaks}
use Rattle.http_wire.specs.declared.connection.Wants.TheVariants.{Answer}
use Rattle.http_wire.specs.declared.conversation.Ended.{Ended}
use Rattle.http_wire.specs.declared.fault.WireFault.{WireFault}
use Rattle.tus_steps.specs.Step.{IsStep}
use Rattle.upload_book.specs.PlainBook.{PlainBook, opening_book}
use Rattle.upload_book.specs.Settings.{Settings}
use Rattle.upload_book.specs.declared.settings_fault.SettingsFault.{SettingsFault}
use Rattle.server_words.specs.Arguments.{TalkArguments}
use Rattle.server_words.specs.Cause.{NamesCause}
use Rattle.server_words.specs.Settings.{talk_settings}
use Rattle.journal_folders.specs.StreamUse.{StreamUse, IsAlive, IsUntouched, KeepsBytes}
use Rattle.tus_program.specs.TalkInPieces.{IsOver, TalksInPieces}
use Rattle.server_words.specs.declared.fault.RunFault.{RunFault}
use Rattle.server_words.specs.declared.fault.RunFault.TheVariants as run

-- the moments of the messages: one moment, for 4,096 of them
unfoldable pub moments_at : ℕ → List ℕ
moments_at now = replicate 4096 now

-- the input is answered with this text, in a conversation on a new book with the settings that were given
pub record Talks (given : Result Settings SettingsFault) (now : ℕ) (input text : List ℕ) : Type 0 where
  pub settings : Settings
  pub is_given : given ≡ Ok settings
  pub after : PlainBook
  pub ended : Ended
  pub conversation : Conversation IsStep (alike settings.numbers.max_size) (moments_at now)
      (record { input = input; text = text; before = opening_book settings; after = after }) ended

-- These bytes were read and this text was written in such a conversation, until a fault broke it off: a read
-- that failed, where the reader has failed, or a write, where the writer has.
pub record BreaksTalk (given : Result Settings SettingsFault) (now : ℕ) (reader writer : Bool) (got text : List ℕ) : Type 0 where
  pub settings : Settings
  pub is_given : given ≡ Ok settings
  pub after : PlainBook
  pub fault : WireFault
  pub named : NamesStream reader writer fault
  pub breaks : Breaks IsStep (alike settings.numbers.max_size) (moments_at now)
      (record { input = got; text = text; before = opening_book settings; after = after }) fault

-- `talk` was asked for with these arguments, over these streams
module _ {R W : Type 0} (arguments : TalkArguments) (reader : StreamUse R) (writer : StreamUse W) where
  -- The conversation ended, in whatever way: where the bytes of both streams are known, what was written is the text of
  -- the conversation of the whole input. Neither stream has failed.
  pub record HoldsTalk : Type 0 where
    pub settings : IsOk (talk_settings arguments)
    pub talks : (input before : List ℕ) → reader.before ≡ Some input → writer.before ≡ Some before
        → (text : List ℕ) × (writer.after ≡ Some (before ++ text))
        × Talks (talk_settings arguments) arguments.moment input text
    pub reader_alive : IsAlive reader
    pub writer_alive : IsAlive writer

  -- A stream has failed: what was read and written is such a conversation, broken off.
  pub record LosesTalk : Type 0 where
    pub got : List ℕ
    pub text : List ℕ
    pub consumes : Consumes reader.before reader.after got
    pub appends : Appends writer.before writer.after text
    pub breaks : BreaksTalk (talk_settings arguments) arguments.moment reader.has_failed writer.has_failed got text

  -- The same where bodies come in pieces of n bytes: this passed, on a new book with the settings that were given.
  pub record PassesInPieces (n : ℕ) : Type 0 where
    pub settings : Settings
    pub is_given : talk_settings arguments ≡ Ok settings
    pub after : PlainBook
    pub talks : TalksInPieces IsStep n arguments.moment settings.numbers.max_size (opening_book settings) after reader.before reader.after writer.before writer.after

  -- the conversation ended, and neither stream has failed
  pub record HoldsInPieces (n : ℕ) : Type 0 where
    pub passes : PassesInPieces n
    pub over : IsOver passes.talks.passed passes.talks.connection
    pub reader_alive : IsAlive reader
    pub writer_alive : IsAlive writer

  -- A stream has failed: this passed until then. Where a read failed, what came of a body was answered.
  pub record LosesInPieces (n : ℕ) : Type 0 where
    pub passes : PassesInPieces n
    pub applied : IsTrue reader.has_failed → wanted passes.talks.connection ≢ Answer

  -- the conversation ended, or a stream has failed, by the size of pieces, where there is one
  abbrev pub HoldsBy : Option ℕ → Type 0
  HoldsBy None = HoldsTalk
  HoldsBy (Some n) = HoldsInPieces n

  abbrev pub LosesBy : Option ℕ → Type 0
  LosesBy None = LosesTalk
  LosesBy (Some n) = LosesInPieces n

  -- nothing was read or written, no call has failed, and where the settings have a fault, neither stream is touched
  pub record KeepsStreams : Type 0 where
    pub reader_keeps : KeepsBytes reader
    pub writer_keeps : KeepsBytes writer
    pub reader_alive : IsAlive reader
    pub writer_alive : IsAlive writer
    pub untouched : OnErr (talk_settings arguments) (IsUntouched reader × IsUntouched writer)

  -- how `talk` ends: it held its conversation, or lost it to a stream that is named, or refused the settings, or lacked memory
  -- to begin with
  abbrev pub TalkEnds : {T : Type 0} → Result T RunFault → Type 0
  TalkEnds (Ok _) = HoldsBy arguments.piece
  TalkEnds (Err (run.Wire cause)) = LosesBy arguments.piece × NamesCause reader.has_failed writer.has_failed cause
  TalkEnds (Err (run.Settings why)) = (talk_settings arguments ≡ Err why) × IsUntouched reader × IsUntouched writer
  TalkEnds (Err run.Memory) = KeepsStreams
  TalkEnds (Err run.Address) = ⊥
  TalkEnds (Err run.Ports) = ⊥
  TalkEnds (Err (run.Journal why)) = ⊥
  TalkEnds (Err run.Words) = ⊥
