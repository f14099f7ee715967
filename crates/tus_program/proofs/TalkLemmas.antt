-- How `talk` ends, by how its conversation does.
use Rattle.std.proofs.Common.{◌≡◌, ◌≢◌, ℕ, Bool, List, [], ◌++◌, Option, Some, None, Result, Ok, Err, replicate, true≢false, refl, ◌∙◌, ap, sym, subst, subst₂}
use Rattle.std.specs.Prelude.{MatchResult, OnErr, OnOk, IfErr, IfSome, IsErrAnd, IsOk, IsTrue}
use Rattle.std.specs.Io.KnownBytes.{Appends, Consumes, Keeps}
use Rattle.std.proofs.lemmas.Result.{err_from_is_err_and}
use Rattle.http_wire.specs.RequestLimits.{alike}
use Rattle.http_wire.specs.BookStep.{BookStep}
use Rattle.http_wire.proofs.CarriedLemmas.{Conversation-carried, Breaks-carried}
use Rattle.tus_steps.specs.Request.{Request}
use Rattle.tus_steps.specs.Step.{IsStep}
use Rattle.tus_steps.specs.declared.reply.Reply.{Reply}
use Rattle.upload_book.specs.Book.{StoredBook, plain_of}
use Rattle.http_wire.specs.Conversation.{Conversation}
use Rattle.http_wire.specs.Exchange.{Exchange}
use Rattle.http_wire.specs.Fault.{NamesStream, NamesOrMemory}
use Rattle.http_wire.specs.History.{Follows}
use Rattle.http_wire.specs.OnConnection.{wanted}
use Rattle.http_wire.specs.Turns.{Breaks}
use Rattle.http_wire.specs.declared.connection.Wants.TheVariants.{Answer}
use Rattle.http_wire.specs.declared.conversation.Ended.{Ended}
use Rattle.http_wire.specs.declared.fault.WireFault.{WireFault}
use Rattle.http_wire.specs.declared.fault.WireFault.TheVariants as wire
use Rattle.upload_book.specs.PlainBook.{PlainBook, opening_book}
use Rattle.upload_book.specs.Settings.{Settings}
use Rattle.upload_book.specs.declared.settings_fault.SettingsFault.{SettingsFault}
use Rattle.server_words.specs.Arguments.{TalkArguments}
use Rattle.tus_program.specs.ProgramFault.{fault_of_wire}
use Rattle.server_words.specs.Settings.{talk_settings}
use Rattle.journal_folders.specs.StreamUse.{StreamUse, IsAlive}
use Rattle.server_words.specs.declared.fault.RunFault.{RunFault}
use Rattle.tus_program.specs.Talk.{BreaksTalk, HoldsBy, LosesBy, PassesInPieces, TalkEnds, Talks, moments_at}
use Rattle.tus_program.specs.TalkInPieces.{IsOver, TalksInPieces}
use Rattle.tus_program.proofs.TalkInPiecesLemmas.{Follows-carried, talks-with}

pub laid : (now : ℕ) → replicate 4096 now ≡ moments_at now
unfolding moments_at
laid now = refl

-- the step of a book is that of the plain book
carries : (b : StoredBook) (r : Request) (now : ℕ) (reply : Reply) (after : StoredBook) → BookStep b r now reply after → IsStep (plain_of b) r now reply (plain_of after)
carries b r now reply after step = step

-- a conversation on the new book is one of the settings that were given
Talks-from : (given : Result Settings SettingsFault) (now : ℕ) (x : Exchange StoredBook) (e : Ended) → given ≡ Ok (plain_of x.before).settings → plain_of x.before ≡ opening_book (plain_of x.before).settings
    → Conversation BookStep (alike (plain_of x.before).settings.numbers.max_size) (replicate 4096 now) x e → Talks given now x.input x.text
Talks-from given now x e is_given new h =
    let settings = (plain_of x.before).settings in
    let limits = alike settings.numbers.max_size in
    record {
      settings = settings;
      is_given = is_given;
      after = plain_of x.after;
      ended = e;
      conversation = subst₂ (λ (book : PlainBook) (moments : List ℕ). Conversation IsStep limits moments (record { input = x.input; text = x.text; before = book; after = plain_of x.after }) e) new (laid now)
          (Conversation-carried plain_of BookStep IsStep carries limits (replicate 4096 now) x e h);
    }

-- the same of one that a fault broke off
BreaksTalk-from : (given : Result Settings SettingsFault) (now : ℕ) (reader writer : Bool) (x : Exchange StoredBook) (f : WireFault) → given ≡ Ok (plain_of x.before).settings → plain_of x.before ≡ opening_book (plain_of x.before).settings
    → NamesStream reader writer f → Breaks BookStep (alike (plain_of x.before).settings.numbers.max_size) (replicate 4096 now) x f → BreaksTalk given now reader writer x.input x.text
BreaksTalk-from given now reader writer x f is_given new named h =
    let settings = (plain_of x.before).settings in
    let limits = alike settings.numbers.max_size in
    record {
      settings = settings;
      is_given = is_given;
      after = plain_of x.after;
      fault = f;
      named = named;
      breaks = subst₂ (λ (book : PlainBook) (moments : List ℕ). Breaks IsStep limits moments (record { input = x.input; text = x.text; before = book; after = plain_of x.after }) f) new (laid now)
          (Breaks-carried plain_of BookStep IsStep carries limits (replicate 4096 now) x f h);
    }

pub is_ok_by : {T E : Type 0} (r : Result T E) (v : T) → r ≡ Ok v → IsOk r
is_ok_by {T} {E} r v is = subst (λ (r : Result T E). IsOk r) (sym is) refl

pub not_err : {T E : Type 0} (P : Type 0) (r : Result T E) (v : T) → r ≡ Ok v → OnErr r P
not_err {T} {E} P r v is = subst (λ (r : Result T E). OnErr r P) (sym is) tt

-- what passed in pieces on the new book passed on one with the settings that were given
abbrev passes : {R W : Type 0} (arguments : TalkArguments) (reader : StreamUse R) (writer : StreamUse W) (n : ℕ) (before after : StoredBook) → talk_settings arguments ≡ Ok (plain_of before).settings
    → plain_of before ≡ opening_book (plain_of before).settings
    → TalksInPieces BookStep n arguments.moment (plain_of before).settings.numbers.max_size before after reader.before reader.after writer.before writer.after → PassesInPieces arguments reader writer n
passes arguments reader writer n before after given new talks = record {
  settings = (plain_of before).settings;
  is_given = given;
  after = plain_of after;
  talks = talks-with BookStep IsStep n arguments.moment (plain_of before).settings.numbers.max_size before after (opening_book (plain_of before).settings) (plain_of after) reader.before reader.after writer.before writer.after talks
      (subst (λ (book : PlainBook). Follows IsStep book talks.passed.answered (plain_of after)) new (Follows-carried BookStep IsStep plain_of carries before talks.passed.answered after talks.answered));
}

-- where the reader has failed, the fault is that of a read
pub read_by : (reader writer : Bool) (f : WireFault) → NamesOrMemory reader writer f → IsTrue reader → f ≡ wire.Read
read_by reader writer wire.Read named failed = refl
read_by reader writer wire.Write named failed = absurd (true≢false (sym failed ∙ named.0))
read_by reader writer wire.Memory named failed = absurd (true≢false (sym failed ∙ named.0))
read_by reader writer wire.Failed named failed = absurd named

-- over a new book with the settings that were given
module _ {R W : Type 0} (T : Type 0) (arguments : TalkArguments) (reader : StreamUse R) (writer : StreamUse W) (before after : StoredBook)
    (given : talk_settings arguments ≡ Ok (plain_of before).settings) (new : plain_of before ≡ opening_book (plain_of before).settings) where
  abbrev Broken : WireFault → Type 0
  Broken f = (got text : List ℕ) × Consumes reader.before reader.after got × Appends writer.before writer.after text
      × Breaks BookStep (alike (plain_of before).settings.numbers.max_size) (replicate 4096 arguments.moment) (record { input = got; text = text; before = before; after = after }) f

  abbrev Talked : ℕ → Type 0
  Talked n = TalksInPieces BookStep n arguments.moment (plain_of before).settings.numbers.max_size before after reader.before reader.after writer.before writer.after

  loses : (f : WireFault) → NamesStream reader.has_failed writer.has_failed f → NamesOrMemory reader.has_failed writer.has_failed f → f ≢ wire.Memory → (arguments.piece ≡ None → Broken f) → IfSome arguments.piece (λ n. f ≢ wire.Memory → (talks : Talked n) × (f ≡ wire.Read → wanted talks.connection ≢ Answer))
      → LosesBy arguments reader writer arguments.piece
  loses f stream named not_memory gathers pieces = go arguments.piece gathers pieces
    where
      go : (piece : Option ℕ) → (piece ≡ None → Broken f) → IfSome piece (λ n. f ≢ wire.Memory → (talks : Talked n) × (f ≡ wire.Read → wanted talks.connection ≢ Answer)) → LosesBy arguments reader writer piece
      go None gathers pieces =
          let h = gathers refl in
          record {
            got = h.0;
            text = h.1;
            consumes = h.2;
            appends = h.3;
            breaks = BreaksTalk-from (talk_settings arguments) arguments.moment reader.has_failed writer.has_failed (record { input = h.0; text = h.1; before = before; after = after }) f given new stream h.4;
          }
      go (Some n) gathers pieces =
          let told = pieces not_memory in
          record {
            passes = passes arguments reader writer n before after given new told.0;
            applied = λ failed. told.1 (read_by reader.has_failed writer.has_failed f named failed);
          }

  -- the conversation was broken off by this fault
  TalkEnds-broken : (f : WireFault) → NamesOrMemory reader.has_failed writer.has_failed f → (arguments.piece ≡ None → Broken f) → IfSome arguments.piece (λ n. f ≢ wire.Memory → (talks : Talked n) × (f ≡ wire.Read → wanted talks.connection ≢ Answer))
      → (f ≡ wire.Memory → Keeps reader.before reader.after × Keeps writer.before writer.after) → TalkEnds arguments reader writer {T = T} (Err (fault_of_wire f))
  TalkEnds-broken wire.Read named gathers pieces memory = (loses wire.Read named named (λ e. absurd cc) gathers pieces, named.0)
  TalkEnds-broken wire.Write named gathers pieces memory = (loses wire.Write named named (λ e. absurd cc) gathers pieces, named.1)
  TalkEnds-broken wire.Memory named gathers pieces memory = record {
    reader_keeps = (memory refl).0;
    writer_keeps = (memory refl).1;
    reader_alive = named.0;
    writer_alive = named.1;
    untouched = not_err _ (talk_settings arguments) (plain_of before).settings given;
  }
  TalkEnds-broken wire.Failed named gathers pieces memory = absurd named

  -- the conversation ended, and no stream has failed
  TalkEnds-held : (v : T) → IsAlive reader → IsAlive writer
      → (arguments.piece ≡ None → (input written : List ℕ) → reader.before ≡ Some input → writer.before ≡ Some written → (e : Ended) × (text : List ℕ) × (writer.after ≡ Some (written ++ text))
      × Conversation BookStep (alike (plain_of before).settings.numbers.max_size) (replicate 4096 arguments.moment) (record { input = input; text = text; before = before; after = after }) e)
      → IfSome arguments.piece (λ n. (talks : Talked n) × IsOver talks.passed talks.connection) → TalkEnds arguments reader writer (Ok v)
  TalkEnds-held v read wrote known pieces = go arguments.piece known pieces
    where
      go : (piece : Option ℕ)
          → (piece ≡ None → (input written : List ℕ) → reader.before ≡ Some input → writer.before ≡ Some written → (e : Ended) × (text : List ℕ) × (writer.after ≡ Some (written ++ text))
          × Conversation BookStep (alike (plain_of before).settings.numbers.max_size) (replicate 4096 arguments.moment) (record { input = input; text = text; before = before; after = after }) e)
          → IfSome piece (λ n. (talks : Talked n) × IsOver talks.passed talks.connection) → HoldsBy arguments reader writer piece
      go None known pieces = record {
        settings = is_ok_by (talk_settings arguments) (plain_of before).settings given;
        talks = λ input written has had.
            let found = known refl input written has had in
            (found.1, found.2, Talks-from (talk_settings arguments) arguments.moment (record { input = input; text = found.1; before = before; after = after }) found.0 given new found.3);
        reader_alive = read;
        writer_alive = wrote;
      }
      go (Some n) known pieces = record {
        passes = passes arguments reader writer n before after given new pieces.0;
        over = pieces.1;
        reader_alive = read;
        writer_alive = wrote;
      }

  -- how it ended, by what became of its fault
  pub TalkEnds-by : (r : Result T WireFault) (m : Result T RunFault) → MatchResult r (λ v. m ≡ Ok v) (λ f. IsErrAnd m (λ y. y ≡ fault_of_wire f)) → OnOk r (IsAlive reader) → OnOk r (IsAlive writer)
      → IfErr r (NamesOrMemory reader.has_failed writer.has_failed)
      → (arguments.piece ≡ None → (input written : List ℕ) → reader.before ≡ Some input → writer.before ≡ Some written → OnOk r ((e : Ended) × (text : List ℕ) × (writer.after ≡ Some (written ++ text))
      × Conversation BookStep (alike (plain_of before).settings.numbers.max_size) (replicate 4096 arguments.moment) (record { input = input; text = text; before = before; after = after }) e))
      → (arguments.piece ≡ None → IfErr r Broken) → IfSome arguments.piece (λ n. OnOk r ((talks : Talked n) × IsOver talks.passed talks.connection))
      → IfSome arguments.piece (λ n. IfErr r (λ f. f ≢ wire.Memory → (talks : Talked n) × (f ≡ wire.Read → wanted talks.connection ≢ Answer))) → (r ≡ Err wire.Memory → Keeps reader.before reader.after × Keeps writer.before writer.after) → TalkEnds arguments reader writer m
  TalkEnds-by (Ok v) m cases read wrote named known breaks pieces broken memory = subst (λ (m : Result T RunFault). TalkEnds arguments reader writer m) (sym cases) (TalkEnds-held v read wrote known pieces)
  TalkEnds-by (Err f) m cases read wrote named known breaks pieces broken memory =
      let made = err_from_is_err_and m cases in
      subst (λ (m : Result T RunFault). TalkEnds arguments reader writer m) (sym (made.1 ∙ ap Err made.2)) (TalkEnds-broken f named breaks broken (λ e. memory (ap Err e)))
