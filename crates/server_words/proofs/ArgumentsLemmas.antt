-- What clap's getters give, as the rows of what was found.
use Rattle.std.proofs.Common.{◌≡◌, ℕ, ◌≤◌, ◌^◌, Bool, true, false, true≢false, List, [], ◌∷◌, length, Option, None, Some, Result, Ok, Err, refl, sym, ap, ◌∙◌, nat_lt, lt-ltb, le-ltb, ltb-true}
use Rattle.std.specs.Prelude.{bytes_eq, unwrap_or, codes, if◌then◌else◌, is_some, option_and_then, option_map, SomeIff}
use Rattle.std.specs.List.{list_all}
use Rattle.std.specs.Option.{option_map_or}
use Rattle.std.specs.Char.{digit_value}
use Rattle.std.specs.Str.Parse.{AllDigits, ParsesBool, ParsesUnsigned, digits_value, without_leading_plus}
use Rattle.std.proofs.lemmas.Slice.Eq.{bytes_eq-Decides}
use Rattle.clap.proofs.WalkLemmas.{both, one_text-rows}
use Rattle.clap.specs.Walk.{Row, rows_of}
use Rattle.clap.specs.Words.{ReadsOne, Text, all_of, first_of, one_text}
use Rattle.clap.specs.declared.parser.matches.Found.{Found}
use Rattle.upload_book.specs.declared.settings.Numbers.{Numbers}
use Rattle.server_words.specs.declared.options.WorkerOptions.{WorkerOptions}
use Rattle.server_words.specs.Arguments.{ServeArguments, grace_given, greatest_upload, is_number, is_set, number_in, metrics_set, number_given, number_under, numbers_given, piece_set, port_given, run_arguments, run_numbers, run_work, service_arguments, talk_arguments, talk_arguments_with, workers_given}

digits_pass : (digits : List ℕ) → AllDigits 10 digits → list_all (λ d. nat_lt (digit_value d) 10) digits ≡ true
digits_pass [] h = refl
digits_pass (d ∷ digits) h = rw (lt-ltb (digit_value d) 10 h.0) (digits_pass digits h.1)

digits_from : (digits : List ℕ) → list_all (λ d. nat_lt (digit_value d) 10) digits ≡ true → AllDigits 10 digits
digits_from [] e = tt
digits_from (d ∷ digits) e =
    let parts = both _ _ e in
    (ltb-true _ _ parts.0, digits_from digits parts.1)

-- a text that is no number writes none
no_number : {E : Type 0} (text : Text) (e : E) → ParsesUnsigned 64 10 text (Err e) → None ≡ number_in text
no_number text e h = go (is_number text) refl
  where
    go : (b : Bool) → is_number text ≡ b → None ≡ number_in text
    go false t = rw t refl
    go true t =
        let outer = both _ _ t in
        let inner = both _ _ outer.0 in
        absurd (h ((ltb-true _ _ inner.0, digits_from (without_leading_plus text) inner.1), ltb-true _ _ outer.1))

-- the number that `get_one` reads from a text
reads : {E : Type 0} (gives : List ℕ → Result ℕ E → Type 0) (text : Text) (r : Option ℕ) → ((r : Result ℕ E) → gives text r → ParsesUnsigned 64 10 text r)
    → ReadsOne gives text r → r ≡ number_in text
reads gives text (Some n) parses h =
    let digits = without_leading_plus text in
    let parsed = parses (Ok n) h in
    rw (lt-ltb 0 (length digits) parsed.0.0.0, digits_pass digits parsed.0.0.1, lt-ltb (digits_value 10 digits) (2 ^ 64) parsed.0.1) (ap Some parsed.1)
reads gives text None parses h = no_number text h.0 (parses (Err h.0) h.1)

-- the number that `get_one` reads under a name
pub number_read : {E : Type 0} (gives : List ℕ → Result ℕ E → Type 0) (f : Found) (name : Text) (r : Option ℕ) → ((text : Text) (r : Result ℕ E) → gives text r → ParsesUnsigned 64 10 text r)
    → (one_text f name ≡ None → r ≡ None) → ((text : Text) → one_text f name ≡ Some text → ReadsOne gives text r) → r ≡ number_given name (rows_of f)
number_read gives f name r parses none value = go (one_text f name) refl ∙ ap (option_and_then number_in) (one_text-rows f name)
  where
    go : (o : Option Text) → one_text f name ≡ o → r ≡ option_and_then number_in o
    go None is = none is
    go (Some text) is = reads gives text r (parses text) (value text is)

-- a text that is not another one
differs : (text other : Text) → ¬ (text ≡ other) → bytes_eq text other ≡ false
differs text other h = go (bytes_eq text other) refl
  where
    go : (b : Bool) → bytes_eq text other ≡ b → b ≡ false
    go false e = refl
    go true e = absurd (h ((bytes_eq-Decides text other).0 e))

-- the flag that `get_one` reads from a text
flag_in : {E : Type 0} (gives : List ℕ → Result Bool E → Type 0) (text : Text) (r : Option Bool) → ((r : Result Bool E) → gives text r → ParsesBool text r)
    → ReadsOne gives text r → unwrap_or r false ≡ bytes_eq text (codes "true")
flag_in gives text (Some true) parses h = rw (parses (Ok true) h) refl
flag_in gives text (Some false) parses h = rw (parses (Ok false) h) refl
flag_in gives text None parses h = sym (differs text (codes "true") (parses (Err h.0) h.1).0)

-- the flag that `get_one` reads under a name
pub flag_read : {E : Type 0} (gives : List ℕ → Result Bool E → Type 0) (f : Found) (name : Text) (r : Option Bool) → ((text : Text) (r : Result Bool E) → gives text r → ParsesBool text r)
    → (one_text f name ≡ None → r ≡ None) → ((text : Text) → one_text f name ≡ Some text → ReadsOne gives text r) → unwrap_or r false ≡ is_set name (rows_of f)
flag_read gives f name r parses none value = go (one_text f name) refl ∙ ap (λ o. option_map_or (λ text. bytes_eq text (codes "true")) o false) (one_text-rows f name)
  where
    go : (o : Option Text) → one_text f name ≡ o → unwrap_or r false ≡ option_map_or (λ text. bytes_eq text (codes "true")) o false
    go None is = ap (λ x. unwrap_or x false) (none is)
    go (Some text) is = flag_in gives text r (parses text) (value text is)

-- the options of `talk` are the arguments that its rows give
pub talk_arguments-some : (rows : List Row) (numbers : Numbers) (secs moment : ℕ) (journal : Option Text) (piece : Option ℕ) (words : List Text) → numbers ≡ numbers_given rows → secs ≡ number_under (codes "moment") rows
    → SomeIff (Some moment) (secs ≤ 253402300799) secs → journal ≡ first_of (codes "journal") rows → Some piece ≡ piece_set (number_given (codes "pieces") rows) → Some words ≡ all_of (codes "tenant") rows
    → Some (record { numbers = numbers; moment = moment; journal = journal; piece = piece; tenants = words }) ≡ talk_arguments rows
talk_arguments-some rows numbers secs moment journal piece words all at made beside sized given =
    let early = le-ltb 253402300799 secs made.0 in
    rw (← sized, ← given, ← at, early, ← all, made.1, ← beside) refl

pub talk_arguments-none : (rows : List Row) (piece : Option ℕ) → Some piece ≡ piece_set (number_given (codes "pieces") rows) → None ≡ all_of (codes "tenant") rows → None ≡ talk_arguments rows
talk_arguments-none rows piece sized h = rw (← sized) (ap (talk_arguments_with (number_under (codes "moment") rows) rows piece) h)

-- the options of a server are the arguments that its rows give
pub service_arguments-some : (rows : List Row) (numbers : Numbers) (words : List Text) (work : WorkerOptions) (address : Text) (port workers : ℕ) (journal log : Option Text) (metrics : Option ℕ)
    → Some address ≡ first_of (codes "address") rows → Some port ≡ port_given rows → Some workers ≡ workers_given rows
    → journal ≡ first_of (codes "journal") rows → log ≡ first_of (codes "log") rows → Some metrics ≡ metrics_set (number_given (codes "metrics") rows)
    → Some (record { numbers = numbers; tenants = words; address = address; port = port; journal = journal; workers = workers; work = work; log = log; metrics = metrics })
    ≡ service_arguments rows numbers words work
service_arguments-some rows numbers words work address port workers journal log metrics place at many found kept told =
    rw (found, kept, ← place, ← at, ← many, ← told) refl

abbrev has_port : Option (Option ℕ) → Bool
has_port None = false
has_port (Some None) = false
has_port (Some (Some port)) = true

no_port : {X : Type 0} (f : ℕ → X) (port : ℕ) (late : Bool) (metrics : Option ℕ) → Some metrics ≡ (if late then None else Some (Some port)) → metrics ≡ None → option_map f (Some port) ≡ None
no_port f port true metrics told none = absurd (true≢false (ap is_some told))
no_port f port false metrics told none = absurd (true≢false (sym (ap has_port told) ∙ ap (λ m. has_port (Some m)) none))

no_grace : {X : Type 0} (f : ℕ → X) (given metrics : Option ℕ) → Some metrics ≡ metrics_set given → metrics ≡ None → option_map f given ≡ None
no_grace f None metrics told none = refl
no_grace f (Some port) metrics told none = no_port f port (nat_lt 65535 port) metrics told none

-- without a port at which a stop can be asked for there is no grace
pub grace-with_port : (rows : List Row) (grace metrics : Option ℕ) → grace ≡ grace_given rows → Some metrics ≡ metrics_set (number_given (codes "metrics") rows) → metrics ≡ None → grace ≡ None
grace-with_port rows grace metrics at told none = at ∙ no_grace (λ port. number_under (codes "grace") rows) (number_given (codes "metrics") rows) metrics told none

-- the arguments of `run`, where there are words, with their numbers, and its work
pub run_arguments-some : (rows : List Row) (words : List Text) (numbers : Numbers) (work : WorkerOptions) → Some words ≡ all_of (codes "tenant") rows → numbers ≡ run_numbers rows words
    → Some work ≡ run_work rows (greatest_upload numbers) → service_arguments rows numbers words work ≡ run_arguments rows
run_arguments-some rows words numbers work words-is numbers-is work-is =
    ap (option_and_then (service_arguments rows numbers words)) work-is ∙ ap (with_numbers words) numbers-is ∙ ap (option_and_then (λ words. with_numbers words (run_numbers rows words))) words-is
  where
    with_numbers : List Text → Numbers → Option ServeArguments
    with_numbers words numbers = option_and_then (service_arguments rows numbers words) (run_work rows (greatest_upload numbers))
