-- What `talk --journal` does: one conversation over two streams, on a book that a file keeps.
use Rattle.std.specs.Prelude.{◌≡◌, ◌≢◌, ◌⊎◌, ◌++◌, ℕ, Bool, true, false, List, Option, Some, None, Result, Ok, Err, IsOk, IsTrue}
use Rattle.std.specs.Io.KnownBytes.{Appends, Consumes}
use Rattle.book_replay.specs.Replay.{AllHappen, records_of}
use Rattle.http_wire.specs.RequestLimits.{alike}
use Rattle.http_wire.specs.Conversation.{Conversation}
use Rattle.http_wire.specs.OnConnection.{wanted}
use Rattle.http_wire.specs.Turns.{Breaks}
use Rattle.http_wire.specs.declared.connection.Wants.TheVariants.{Answer}
use Rattle.http_wire.specs.declared.conversation.Ended.{Ended}
use Rattle.http_wire.specs.declared.fault.WireFault.{WireFault}
use Rattle.journal_frames.specs.Frames.{recovered}
use Rattle.kept_book.specs.Kept.{IsLeftWithOneMore}
use Rattle.upload_book.specs.Events.{ChangeEvent, book_after_all}
use Rattle.upload_book.specs.PlainBook.{PlainBook, opening_book}
use Rattle.upload_book.specs.Settings.{Settings}
use Rattle.journal_folders.specs.ReadJournal.{journal_key}
use Rattle.server_words.specs.Arguments.{TalkArguments}
use Rattle.server_words.specs.Cause.{NamesCause}
use Rattle.server_words.specs.Settings.{talk_settings}
use Rattle.journal_folders.specs.StreamUse.{StreamUse, IsAlive, IsUntouched}
use Rattle.server_words.specs.declared.fault.RunFault.{RunFault}
use Rattle.server_words.specs.declared.fault.RunFault.TheVariants as run
use Rattle.server_words.specs.declared.journal_fault.JournalFault.{JournalFault}
use Rattle.server_words.specs.declared.journal_fault.JournalFault.TheVariants.{Disk}
use Rattle.tus_program.specs.KeptStep.{KeptState, IsJournalStep, working}
use Rattle.tus_program.specs.Talk.{KeepsStreams, moments_at}
use Rattle.tus_program.specs.TalkInPieces.{IsOver, TalksInPieces}

-- of a disk is seen what a read returns, what a crash may leave, and whether it told no lie
module _ {D : Type 0} (seen : D → List ℕ) (may_leave : D → List ℕ → Type 0) (is_clean : D → Bool) where
  -- The disk as it was found, as it was once the book was opened, and at last, with the books of then. Where its file had the
  -- records of events that happened to a book of these settings, and the disk told no lie, the book was opened after these.
  -- Then came the events that the replies told of; and a crash at last leaves all of them.
  abbrev pub OutlivesCrash : Settings → D → D → D → PlainBook → PlainBook → Type 0
  OutlivesCrash s found opened last before after =
      (events : List ChangeEvent)
      → AllHappen (opening_book s) events → recovered journal_key (seen found) ≡ records_of events → IsTrue (is_clean opened)
      → (told : List ChangeEvent)
      × (before ≡ book_after_all (opening_book s) events)
      × (after ≡ book_after_all (opening_book s) (events ++ told))
      × ((c : List ℕ) → may_leave last c → IsLeftWithOneMore journal_key s (events ++ told) c)

  -- `talk` was asked for with these arguments, over these streams
  module _ {R W : Type 0} (arguments : TalkArguments) (reader : StreamUse R) (writer : StreamUse W) where
    -- The input is answered with this text, in a conversation on the book that was opened. At its end the journal has failed or
    -- not; from the request on at which it failed, nothing changes.
    pub record TalksKept (failed : Bool) (input text : List ℕ) : Type 0 where
      pub settings : Settings
      pub is_given : talk_settings arguments ≡ Ok settings
      pub found : D
      pub opened : D
      pub last : D
      pub before : PlainBook
      pub after : KeptState
      pub outlives : OutlivesCrash settings found opened last before after.book
      pub failed_is : after.has_failed ≡ failed
      pub ended : Ended
      pub conversation : Conversation IsJournalStep (alike before.settings.numbers.max_size) (moments_at arguments.moment)
          (record { input = input; text = text; before = working before; after = after }) ended

    -- these bytes were read and this text was written in such a conversation, until a stream failed
    pub record BreaksKept (got text : List ℕ) : Type 0 where
      pub settings : Settings
      pub is_given : talk_settings arguments ≡ Ok settings
      pub found : D
      pub opened : D
      pub last : D
      pub before : PlainBook
      pub after : KeptState
      pub outlives : OutlivesCrash settings found opened last before after.book
      pub fault : WireFault
      pub breaks : Breaks IsJournalStep (alike before.settings.numbers.max_size) (moments_at arguments.moment)
          (record { input = got; text = text; before = working before; after = after }) fault

    -- The conversation ended, in whatever way: where the bytes of both streams are known, what was written is the text of
    -- the conversation of the whole input. Neither stream has failed.
    pub record HoldsKept (failed : Bool) : Type 0 where
      pub settings : IsOk (talk_settings arguments)
      pub talks : (input before : List ℕ) → reader.before ≡ Some input → writer.before ≡ Some before
          → (text : List ℕ) × (writer.after ≡ Some (before ++ text)) × TalksKept failed input text
      pub reader_alive : IsAlive reader
      pub writer_alive : IsAlive writer

    -- A stream has failed: what was read and written is such a conversation, broken off.
    pub record LosesKept : Type 0 where
      pub got : List ℕ
      pub text : List ℕ
      pub consumes : Consumes reader.before reader.after got
      pub appends : Appends writer.before writer.after text
      pub breaks : BreaksKept got text

    -- The same where bodies come in pieces of n bytes: this passed, on the book that was opened.
    pub record PassesKeptInPieces (n : ℕ) (failed : Bool) : Type 0 where
      pub settings : Settings
      pub is_given : talk_settings arguments ≡ Ok settings
      pub found : D
      pub opened : D
      pub last : D
      pub before : PlainBook
      pub after : KeptState
      pub outlives : OutlivesCrash settings found opened last before after.book
      pub failed_is : after.has_failed ≡ failed
      pub talks : TalksInPieces IsJournalStep n arguments.moment before.settings.numbers.max_size (working before) after reader.before reader.after writer.before writer.after

    -- the conversation ended, and neither stream has failed
    pub record HoldsKeptInPieces (n : ℕ) (failed : Bool) : Type 0 where
      pub passes : PassesKeptInPieces n failed
      pub over : IsOver passes.talks.passed passes.talks.connection
      pub reader_alive : IsAlive reader
      pub writer_alive : IsAlive writer

    -- a stream has failed, and where a read did, what came of a body was answered
    pub record LosesKeptInPieces (n : ℕ) : Type 0 where
      pub failed : Bool
      pub passes : PassesKeptInPieces n failed
      pub applied : IsTrue reader.has_failed → wanted passes.talks.connection ≢ Answer

    -- the conversation ended, or a stream has failed, by the size of pieces, where there is one
    abbrev pub HoldsKeptBy : Option ℕ → Bool → Type 0
    HoldsKeptBy None failed = HoldsKept failed
    HoldsKeptBy (Some n) failed = HoldsKeptInPieces n failed

    abbrev pub LosesKeptBy : Option ℕ → Type 0
    LosesKeptBy None = LosesKept
    LosesKeptBy (Some n) = LosesKeptInPieces n

    -- the journal could not be had, or it failed, and the conversation went on to its end
    abbrev pub LacksJournal : JournalFault → Type 0
    LacksJournal why = (IsUntouched reader × IsUntouched writer) ⊎ ((why ≡ Disk) × HoldsKeptBy arguments.piece true)

    -- How `talk --journal` ends: it held its conversation, or lost it to a stream that is named, or refused the settings, or
    -- lacked its journal, or lacked memory to begin with.
    abbrev pub KeptTalkEnds : {T : Type 0} → Result T RunFault → Type 0
    KeptTalkEnds (Ok _) = HoldsKeptBy arguments.piece false
    KeptTalkEnds (Err (run.Wire cause)) = LosesKeptBy arguments.piece × NamesCause reader.has_failed writer.has_failed cause
    KeptTalkEnds (Err (run.Settings why)) = (talk_settings arguments ≡ Err why) × IsUntouched reader × IsUntouched writer
    KeptTalkEnds (Err (run.Journal why)) = IsOk (talk_settings arguments) × LacksJournal why
    KeptTalkEnds (Err run.Memory) = KeepsStreams arguments reader writer
    KeptTalkEnds (Err run.Address) = ⊥
    KeptTalkEnds (Err run.Ports) = ⊥
    KeptTalkEnds (Err run.Words) = ⊥
