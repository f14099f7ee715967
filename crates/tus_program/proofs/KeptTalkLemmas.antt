-- How `talk --journal` ends, by how its conversation does.
use Rattle.std.proofs.Common.{◌≡◌, ◌≢◌, ◌⊎◌, ℕ, Bool, true, false, List, [], ◌++◌, Option, Some, None, Result, Ok, Err, inl, inr, replicate, refl, ◌∙◌, sym, ap, subst, append_assoc, true≢false}
use Rattle.std.specs.Io.KnownBytes.{Appends, Consumes, Keeps}
use Rattle.std.specs.Prelude.{IfSome}
use Rattle.std.proofs.lemmas.List.{append-nil}
use Rattle.sqlite_disk.specs.declared.Disk.{Ghosts}
use Rattle.http_wire.specs.RequestLimits.{alike}
use Rattle.http_wire.specs.Conversation.{Conversation}
use Rattle.http_wire.specs.Exchange.{Exchange}
use Rattle.http_wire.specs.Fault.{NamesOrMemory}
use Rattle.http_wire.specs.OnConnection.{wanted}
use Rattle.http_wire.specs.Turns.{Breaks}
use Rattle.http_wire.specs.declared.connection.Wants.TheVariants.{Answer}
use Rattle.http_wire.specs.declared.request_limits.RequestLimits.{RequestLimits}
use Rattle.http_wire.specs.declared.conversation.Ended.{Ended}
use Rattle.http_wire.specs.declared.fault.WireFault.{WireFault}
use Rattle.http_wire.specs.declared.fault.WireFault.TheVariants as wire
use Rattle.kept_book.proofs.KeptLemmas.{kept-leaves}
use Rattle.kept_book.specs.Answer.{IsKeptStep, IsUnkeptAnswer}
use Rattle.kept_book.specs.declared.kept.KeptBook.{KeptBook}
use Rattle.kept_book.specs.Kept.{book_in, disk_in, key_in, IsKept, IsLeftWithOneMore, IsOpened}
use Rattle.tus_steps.specs.Request.{Request}
use Rattle.tus_steps.specs.declared.reply.Reply.{Reply}
use Rattle.upload_book.specs.Events.{ChangeEvent, book_after_all}
use Rattle.upload_book.specs.PlainBook.{PlainBook, opening_book}
use Rattle.upload_book.specs.Settings.{Settings}
use Rattle.server_words.specs.Arguments.{TalkArguments}
use Rattle.tus_program.specs.ProgramFault.{fault_of_wire}
use Rattle.server_words.specs.Settings.{talk_settings}
use Rattle.journal_folders.specs.StreamUse.{StreamUse, IsAlive}
use Rattle.server_words.specs.declared.fault.RunFault.{RunFault}
use Rattle.server_words.specs.declared.fault.RunFault.TheVariants as run
use Rattle.journal_folders.specs.ReadJournal.{journal_key}
use Rattle.tus_program.specs.KeptStep.{KeptState, AnswersKept, FailsKept, StaysFailed, IsStepKept, IsJournalStep, working}
use Rattle.tus_program.specs.KeptTalk.{KeptTalkEnds, HoldsKeptBy, LosesKeptBy, OutlivesCrash, PassesKeptInPieces, TalksKept, BreaksKept}
use Rattle.tus_program.specs.Talk.{moments_at}
use Rattle.tus_program.specs.TalkInPieces.{IsOver, TalksInPieces}
use Rattle.tus_program.proofs.SimulationLemmas.{Conversation-like, Breaks-like, Follows-like}
use Rattle.tus_program.proofs.TalkInPiecesLemmas.{talks-with}
use Rattle.tus_program.proofs.TalkLemmas.{is_ok_by, laid, not_err, read_by}

-- the journal has failed
abbrev failed_with : PlainBook → KeptState
failed_with book = record { book = book; has_failed = true }

module _ {D : Type 0} {g : Ghosts D} where
  -- What was told after these events were opened: more events, after which the book is that of the state, and of which a crash
  -- leaves all. While the journal works, they are kept.
  record Told (s : Settings) (events : List ChangeEvent) (kept : KeptBook D g) (failed : Bool) (state : KeptState) : Type 0 where
    more : List ChangeEvent
    book : state.book ≡ book_after_all (opening_book s) (events ++ more)
    left : (c : List ℕ) → g.may_leave (disk_in kept) c → IsLeftWithOneMore (key_in kept) s (events ++ more) c
    all : failed ≡ false → IsKept kept s (events ++ more)

  -- The state stands for what became of a kept book since it was opened.
  record StandsFor (opened kept : KeptBook D g) (failed : Bool) (state : KeptState) : Type 0 where
    key : key_in kept ≡ key_in opened
    failed_is : state.has_failed ≡ failed
    book_is : state.book ≡ book_in kept
    told : (s : Settings) (events : List ChangeEvent) → IsKept opened s events → Told s events kept failed state

  at_first : (opened : KeptBook D g) → StandsFor opened opened false (working (book_in opened))
  at_first opened = record {
    key = refl;
    failed_is = refl;
    book_is = refl;
    told = λ s events is.
        let all = subst (IsKept opened s) (sym (append-nil events)) is in
        record { more = []; book = all.book; left = λ c may. kept-leaves opened s (events ++ []) all c may; all = λ works. all };
  }

  after_answer : (opened a b : KeptBook D g) (failed fails : Bool) (p : KeptState) (r : Request) (now : ℕ) (reply : Reply) → StandsFor opened a failed p → key_in b ≡ key_in a → AnswersKept a failed r now reply b fails
      → StandsFor opened b fails (working (book_in b))
  after_answer opened a b failed fails p r now reply like key h = record {
    key = key ∙ like.key;
    failed_is = sym h.works;
    book_is = refl;
    told = λ s events is.
        let before = like.told s events is in
        let goes = h.kept s (events ++ before.more) (before.all h.worked) in
        let all = subst (IsKept b s) (append_assoc events before.more goes.more) goes.all in
        record {
          more = before.more ++ goes.more;
          book = all.book;
          left = λ c may. kept-leaves b s (events ++ (before.more ++ goes.more)) all c may;
          all = λ works. all;
        };
  }

  after_failure : (opened a b : KeptBook D g) (failed fails : Bool) (p : KeptState) (r : Request) (now : ℕ) (reply : Reply) → StandsFor opened a failed p → key_in b ≡ key_in a → FailsKept a failed r now reply b fails
      → StandsFor opened b fails (failed_with p.book)
  after_failure opened a b failed fails p r now reply like key h = record {
    key = key ∙ like.key;
    failed_is = sym h.failed_now;
    book_is = like.book_is ∙ sym h.stays;
    told = λ s events is.
        let before = like.told s events is in
        record {
          more = before.more;
          book = before.book;
          left = λ c may. subst (λ (k : ℕ). IsLeftWithOneMore k s (events ++ before.more) c) (sym key) (h.left s (events ++ before.more) (before.all h.worked) c may);
          all = λ works. absurd (true≢false (sym h.failed_now ∙ works));
        };
  }

  after_silence : (opened a b : KeptBook D g) (failed fails : Bool) (p : KeptState) (r : Request) (now : ℕ) (reply : Reply) → StandsFor opened a failed p → key_in b ≡ key_in a → StaysFailed a failed r now reply b fails
      → StandsFor opened b fails p
  after_silence opened a b failed fails p r now reply like key h = record {
    key = key ∙ like.key;
    failed_is = like.failed_is ∙ h.failed_before ∙ sym h.failed_still;
    book_is = like.book_is ∙ sym h.stays;
    told = λ s events is.
        let before = like.told s events is in
        record {
          more = before.more;
          book = before.book;
          left = λ c may. subst (λ (k : ℕ). IsLeftWithOneMore k s (events ++ before.more) c) (sym key) (before.left c (subst (λ (d : D). g.may_leave d c) h.disk may));
          all = λ works. absurd (true≢false (sym h.failed_still ∙ works));
        };
  }

  -- The journal failed at a request, which is answered then as where nothing more can be kept.
  pub failed_now : (old between new : KeptBook D g) (r : Request) (now : ℕ) (reply : Reply) → book_in between ≡ book_in old → key_in between ≡ key_in old
      → ((s : Settings) (events : List ChangeEvent) → IsKept old s events → (c : List ℕ) → g.may_leave (disk_in between) c → IsLeftWithOneMore (key_in old) s events c)
      → IsUnkeptAnswer (book_in between) r now reply → book_in new ≡ book_in between → disk_in new ≡ disk_in between → key_in new ≡ key_in between
      → IsStepKept old false r now reply new true
  failed_now old between new r now reply book key left answer stays disk key_stays = record {
    key = key_stays ∙ key;
    step = inr (inl (record {
      worked = refl;
      failed_now = refl;
      answer = subst (λ (b : PlainBook). IsUnkeptAnswer b r now reply) book answer;
      stays = stays ∙ book;
      left = λ s events is c may. left s events is c (subst (λ (d : D). g.may_leave d c) disk may);
    }));
  }

  -- a step of the kept book is one of the state
  step_on : (opened a b : KeptBook D g) (failed fails : Bool) (p : KeptState) (r : Request) (now : ℕ) (reply : Reply) → StandsFor opened a failed p → IsStepKept a failed r now reply b fails
      → (q : KeptState) × StandsFor opened b fails q × IsJournalStep p r now reply q
  step_on opened a b failed fails p r now reply like step = step_by step.key step.step where
    on_state : IsUnkeptAnswer (book_in a) r now reply → IsUnkeptAnswer p.book r now reply
    on_state answer = subst (λ (book : PlainBook). IsUnkeptAnswer book r now reply) (sym like.book_is) answer

    step_by : key_in b ≡ key_in a → AnswersKept a failed r now reply b fails ⊎ FailsKept a failed r now reply b fails ⊎ StaysFailed a failed r now reply b fails
        → (q : KeptState) × StandsFor opened b fails q × IsJournalStep p r now reply q
    step_by key (inl h) = (
      working (book_in b),
      after_answer opened a b failed fails p r now reply like key h,
      inl (record { worked = like.failed_is ∙ h.worked; works = refl; step = subst (λ (book : PlainBook). IsKeptStep book r now reply (book_in b)) (sym like.book_is) h.step }),
    )
    step_by key (inr (inl h)) =
        (failed_with p.book, after_failure opened a b failed fails p r now reply like key h, inr (record { failed = refl; answer = on_state h.answer; same = refl }))
    step_by key (inr (inr h)) =
        (p, after_silence opened a b failed fails p r now reply like key h, inr (record { failed = like.failed_is ∙ h.failed_before; answer = on_state h.answer; same = refl }))

  -- what the events that were opened and those that were told of make
  outlives : (s : Settings) (found : D) (opened last : KeptBook D g) (failed : Bool) (state : KeptState) → IsOpened s journal_key found opened → key_in opened ≡ journal_key → StandsFor opened last failed state
      → OutlivesCrash g.seen g.may_leave g.is_clean s found (disk_in opened) (disk_in last) (book_in opened) state.book
  outlives s found opened last failed state is_opened key like = λ events happened records clean.
      let is = is_opened events happened records clean in
      let told = like.told s events is in
      (told.more, is.book, told.book, λ c may. subst (λ (k : ℕ). IsLeftWithOneMore k s (events ++ told.more) c) (like.key ∙ key) (told.left c may))

  -- over what answers with a kept book, and tells whether its journal has failed
  module _ {A : Type 0} (kept : A → KeptBook D g) (has_failed : A → Bool) where
    abbrev steps : A → Request → ℕ → Reply → A → Type 0
    steps a r now reply b = IsStepKept (kept a) (has_failed a) r now reply (kept b) (has_failed b)

    abbrev Like : KeptBook D g → A → KeptState → Type 0
    Like opened a state = StandsFor opened (kept a) (has_failed a) state

    on : (opened : KeptBook D g) (a : A) (p : KeptState) (r : Request) (now : ℕ) (reply : Reply) (b : A) → Like opened a p → steps a r now reply b → (q : KeptState) × Like opened b q × IsJournalStep p r now reply q
    on opened a p r now reply b like step = step_on opened (kept a) (kept b) (has_failed a) (has_failed b) p r now reply like step

    like_first : (a : A) → has_failed a ≡ false → Like (kept a) a (working (book_in (kept a)))
    like_first a works = subst (λ (f : Bool). StandsFor (kept a) (kept a) f (working (book_in (kept a)))) (sym works) (at_first (kept a))

    module _ {R W : Type 0} (arguments : TalkArguments) (reader : StreamUse R) (writer : StreamUse W) (s : Settings) (found : D) where
      Talks-kept : (x : Exchange A) (e : Ended) → has_failed x.before ≡ false → talk_settings arguments ≡ Ok s → IsOpened s journal_key found (kept x.before) → key_in (kept x.before) ≡ journal_key
          → Conversation steps (alike (book_in (kept x.before)).settings.numbers.max_size) (replicate 4096 arguments.moment) x e → TalksKept g.seen g.may_leave g.is_clean arguments reader writer (has_failed x.after) x.input x.text
      Talks-kept x e works given is_opened key h =
          let opened = kept x.before in
          let limits = alike (book_in opened).settings.numbers.max_size in
          let whole = Conversation-like steps IsJournalStep (Like opened) (on opened) limits (replicate 4096 arguments.moment) x e (working (book_in opened)) (like_first x.before works) h in
          record {
            settings = s;
            is_given = given;
            found = found;
            opened = disk_in opened;
            last = disk_in (kept x.after);
            before = book_in opened;
            after = whole.0;
            outlives = outlives s found opened (kept x.after) (has_failed x.after) whole.0 is_opened key whole.1;
            failed_is = whole.1.failed_is;
            ended = e;
            conversation = subst (λ (at : List ℕ). Conversation IsJournalStep limits at (record { input = x.input; text = x.text; before = working (book_in opened); after = whole.0 }) e) (laid arguments.moment) whole.2;
          }

      Breaks-kept : (x : Exchange A) (f : WireFault) → has_failed x.before ≡ false → talk_settings arguments ≡ Ok s → IsOpened s journal_key found (kept x.before) → key_in (kept x.before) ≡ journal_key
          → Breaks steps (alike (book_in (kept x.before)).settings.numbers.max_size) (replicate 4096 arguments.moment) x f → BreaksKept g.seen g.may_leave g.is_clean arguments reader writer x.input x.text
      Breaks-kept x f works given is_opened key h =
          let opened = kept x.before in
          let limits = alike (book_in opened).settings.numbers.max_size in
          let broken = Breaks-like steps IsJournalStep (Like opened) (on opened) limits (replicate 4096 arguments.moment) x f (working (book_in opened)) (like_first x.before works) h in
          record {
            settings = s;
            is_given = given;
            found = found;
            opened = disk_in opened;
            last = disk_in (kept x.after);
            before = book_in opened;
            after = broken.0;
            outlives = outlives s found opened (kept x.after) (has_failed x.after) broken.0 is_opened key broken.1;
            fault = f;
            breaks = subst (λ (at : List ℕ). Breaks IsJournalStep limits at (record { input = x.input; text = x.text; before = working (book_in opened); after = broken.0 }) f) (laid arguments.moment) broken.2;
          }

      -- what passed in pieces on the book that was opened
      abbrev passes : (n : ℕ) (before after : A) → has_failed before ≡ false → talk_settings arguments ≡ Ok s → IsOpened s journal_key found (kept before) → key_in (kept before) ≡ journal_key
          → TalksInPieces steps n arguments.moment (book_in (kept before)).settings.numbers.max_size before after reader.before reader.after writer.before writer.after
          → PassesKeptInPieces g.seen g.may_leave g.is_clean arguments reader writer n (has_failed after)
      passes n before after works given is_opened key talks =
          let opened = kept before in
          let most = (book_in opened).settings.numbers.max_size in
          let whole = Follows-like steps IsJournalStep (Like opened) (on opened) (alike most) before talks.passed.answered after (working (book_in opened)) (like_first before works) talks.answered in
          record {
            settings = s;
            is_given = given;
            found = found;
            opened = disk_in opened;
            last = disk_in (kept after);
            before = book_in opened;
            after = whole.0;
            outlives = outlives s found opened (kept after) (has_failed after) whole.0 is_opened key whole.1;
            failed_is = whole.1.failed_is;
            talks = talks-with steps IsJournalStep n arguments.moment most before after (working (book_in opened)) whole.0 reader.before reader.after writer.before writer.after talks whole.2;
          }

      -- over the book that was opened
      module _ (before after : A) (works : has_failed before ≡ false) (given : talk_settings arguments ≡ Ok s) (is_opened : IsOpened s journal_key found (kept before)) (key : key_in (kept before) ≡ journal_key) where
        abbrev limits : RequestLimits
        limits = alike (book_in (kept before)).settings.numbers.max_size

        abbrev Broken : WireFault → Type 0
        Broken f = (got text : List ℕ) × Consumes reader.before reader.after got × Appends writer.before writer.after text
            × Breaks steps limits (replicate 4096 arguments.moment) (record { input = got; text = text; before = before; after = after }) f

        abbrev Talked : ℕ → Type 0
        Talked n = TalksInPieces steps n arguments.moment (book_in (kept before)).settings.numbers.max_size before after reader.before reader.after writer.before writer.after

        loses : (f : WireFault) → NamesOrMemory reader.has_failed writer.has_failed f → f ≢ wire.Memory → (arguments.piece ≡ None → Broken f) → IfSome arguments.piece (λ n. f ≢ wire.Memory → (talks : Talked n) × (f ≡ wire.Read → wanted talks.connection ≢ Answer))
            → LosesKeptBy g.seen g.may_leave g.is_clean arguments reader writer arguments.piece
        loses f named not_memory gathers pieces = go arguments.piece gathers pieces
          where
            go : (piece : Option ℕ) → (piece ≡ None → Broken f) → IfSome piece (λ n. f ≢ wire.Memory → (talks : Talked n) × (f ≡ wire.Read → wanted talks.connection ≢ Answer)) → LosesKeptBy g.seen g.may_leave g.is_clean arguments reader writer piece
            go None gathers pieces =
                let h = gathers refl in
                record {
                  got = h.0;
                  text = h.1;
                  consumes = h.2;
                  appends = h.3;
                  breaks = Breaks-kept (record { input = h.0; text = h.1; before = before; after = after }) f works given is_opened key h.4;
                }
            go (Some n) gathers pieces =
                let told = pieces not_memory in
                record {
                  failed = has_failed after;
                  passes = passes n before after works given is_opened key told.0;
                  applied = λ failed. told.1 (read_by reader.has_failed writer.has_failed f named failed);
                }

        -- the conversation was broken off by this fault
        pub KeptTalkEnds-broken : (T : Type 0) (f : WireFault) → NamesOrMemory reader.has_failed writer.has_failed f → (arguments.piece ≡ None → Broken f) → IfSome arguments.piece (λ n. f ≢ wire.Memory → (talks : Talked n) × (f ≡ wire.Read → wanted talks.connection ≢ Answer))
            → (f ≡ wire.Memory → Keeps reader.before reader.after × Keeps writer.before writer.after) → KeptTalkEnds g.seen g.may_leave g.is_clean arguments reader writer {T = T} (Err (fault_of_wire f))
        KeptTalkEnds-broken T wire.Read named gathers pieces memory = (loses wire.Read named (λ e. absurd cc) gathers pieces, named.0)
        KeptTalkEnds-broken T wire.Write named gathers pieces memory = (loses wire.Write named (λ e. absurd cc) gathers pieces, named.1)
        KeptTalkEnds-broken T wire.Memory named gathers pieces memory = record {
          reader_keeps = (memory refl).0;
          writer_keeps = (memory refl).1;
          reader_alive = named.0;
          writer_alive = named.1;
          untouched = not_err _ (talk_settings arguments) s given;
        }
        KeptTalkEnds-broken T wire.Failed named gathers pieces memory = absurd named

        -- the conversation ended, and no stream has failed
        pub holds : IsAlive reader → IsAlive writer
            → (arguments.piece ≡ None → (input written : List ℕ) → reader.before ≡ Some input → writer.before ≡ Some written → (e : Ended) × (text : List ℕ) × (writer.after ≡ Some (written ++ text))
            × Conversation steps limits (replicate 4096 arguments.moment) (record { input = input; text = text; before = before; after = after }) e)
            → IfSome arguments.piece (λ n. (talks : Talked n) × IsOver talks.passed talks.connection)
            → HoldsKeptBy g.seen g.may_leave g.is_clean arguments reader writer arguments.piece (has_failed after)
        holds read wrote known pieces = go arguments.piece known pieces
          where
            go : (piece : Option ℕ)
                → (piece ≡ None → (input written : List ℕ) → reader.before ≡ Some input → writer.before ≡ Some written → (e : Ended) × (text : List ℕ) × (writer.after ≡ Some (written ++ text))
                × Conversation steps limits (replicate 4096 arguments.moment) (record { input = input; text = text; before = before; after = after }) e)
                → IfSome piece (λ n. (talks : Talked n) × IsOver talks.passed talks.connection)
                → HoldsKeptBy g.seen g.may_leave g.is_clean arguments reader writer piece (has_failed after)
            go None known pieces = record {
              settings = is_ok_by (talk_settings arguments) s given;
              talks = λ input written has had.
                  let told = known refl input written has had in
                  (told.1, told.2, Talks-kept (record { input = input; text = told.1; before = before; after = after }) told.0 works given is_opened key told.3);
              reader_alive = read;
              writer_alive = wrote;
            }
            go (Some n) known pieces = record {
              passes = passes n before after works given is_opened key pieces.0;
              over = pieces.1;
              reader_alive = read;
              writer_alive = wrote;
            }
