-- How `serve` ends, by what was written of its two lines and by how its workers ended.
use Rattle.std.proofs.Common.{◌≡◌, ◌∙◌, ℕ, ◌<◌, ◌≤◌, Bool, true, false, List, length, get_or, map, Option, None, Result, Ok, Err, All, inl, inr, refl, sym, ap, subst, true≢false}
use Rattle.std.proofs.lemmas.List.{get_or-map, length-map}
use Rattle.std.proofs.lemmas.List.Elements.{All-map}
use Rattle.std.proofs.lemmas.List.Folds.{Any-from_list_any, list_any_at}
use Rattle.std.specs.Prelude.{IfErr, IsSome, OnOk}
use Rattle.std.specs.List.{Any, list_any}
use Rattle.http_wire.proofs.AheadLemmas.{Appends-more}
use Rattle.http_wire.specs.Writes.{Writes}
use Rattle.http_wire.specs.declared.fault.WireFault.{WireFault}
use Rattle.tus_shared.specs.Desk.{Desk}
use Rattle.tus_shared.specs.declared.balance.Balance.{Balance}
use Rattle.upload_book.specs.Settings.{Settings}
use Rattle.server_words.specs.Arguments.{ServeArguments}
use Rattle.journal_keeper.specs.declared.fault.ReopenFault.{ReopenFault}
use Rattle.journal_keeper.specs.declared.fault.ReopenFault.TheVariants as reopening
use Rattle.tus_program.specs.ProgramFault.{fault_of_reopening}
use Rattle.journal_folders.specs.StreamUse.{StreamUse, IsUntouched, used}
use Rattle.server_words.specs.declared.cause.Cause.{Cause}
use Rattle.server_words.specs.declared.cause.Cause.TheVariants.{Input, Output, Port, Workers, Accept, Log, Metrics}
use Rattle.server_words.specs.declared.journal_fault.JournalFault.{JournalFault}
use Rattle.server_words.specs.declared.fault.RunFault.{RunFault}
use Rattle.server_words.specs.declared.fault.RunFault.TheVariants as run
use Rattle.tus_program.specs.Lines.{Settles, balance_text}
use Rattle.tus_program.specs.Serve.{BreaksOff, HaveEnded, KeepsQuiet, PrintsBoth, ServeEnds, ServesEach, has_port_twice, is_before_listening, is_of_kept_service, is_of_service, serve_settings}
use Rattle.tus_program.specs.Sockets.{AreUnstopped, HasFailed, HaveAccepted, Sockets}

false_unless : (b : Bool) → (b ≡ true → ⊥) → b ≡ false
false_unless true never = absurd (never refl)
false_unless false never = refl

-- where no element passes a test, each fails it
none_passes : {X : Type 0} (p : X → Bool) (xs : List X) → list_any p xs ≡ false → All (λ x. p x ≡ false) xs
none_passes p xs none k d lt =
    false_unless (p (get_or xs k d)) (λ passes. true≢false (sym (list_any_at p xs k d lt passes) ∙ none))

-- what holds of what is seen of some element holds of some that is seen
Any-map : {X Y : Type 0} (P : Y → Type 0) (f : X → Y) (xs : List X) → Any (λ x. P (f x)) xs → Any P (map f xs)
Any-map P f xs (k, x, lt, is, holds) = (
  k,
  f x,
  subst (λ n. k < n) (sym (length-map xs f)) lt,
  get_or-map f xs k x (f x) lt ∙ ap f is,
  holds,
)

module _ {X L A : Type 0} (seen : Sockets L A) (arguments : ServeArguments) (acceptor : X → A) (workers : List X) where
  -- no acceptor was stopped, where nobody can ask for that
  pub unstopped-unasked : {grace : Option ℕ} → (arguments.metrics ≡ None → grace ≡ None) → All (λ w. grace ≡ None → seen.is_stopped (acceptor w) ≡ false) workers
      → arguments.metrics ≡ None → AreUnstopped seen (map acceptor workers)
  unstopped-unasked bound each none = All-map (λ a. seen.is_stopped a ≡ false) acceptor workers (λ k d lt. each k d lt (bound none))

  -- each worker accepted as many connections as it was to, or was stopped before, where no accept failed
  pub HaveAccepted-whole : {failed : Bool} → failed ≡ list_any (λ w. seen.has_failed (acceptor w)) workers
      → All (λ w. seen.has_failed (acceptor w) ≡ false → seen.is_stopped (acceptor w) ≡ false → seen.accepted (acceptor w) ≡ arguments.work.connections) workers
      → All (λ w. seen.accepted (acceptor w) ≤ arguments.work.connections) workers
      → failed ≡ false → HaveAccepted seen arguments.work.connections (map acceptor workers)
  HaveAccepted-whole told all most none =
      let accepts : A → Type 0 = λ a. (seen.has_failed a ≡ false) × (seen.accepted a ≤ arguments.work.connections) × (seen.is_stopped a ≡ false → seen.accepted a ≡ arguments.work.connections) in
      let alive = none_passes (λ w. seen.has_failed (acceptor w)) workers (sym told ∙ none) in
      All-map accepts acceptor workers (λ k d lt. (alive k d lt, most k d lt, all k d lt (alive k d lt)))

  -- an accept failed
  pub HasFailed-some : {failed : Bool} → failed ≡ list_any (λ w. seen.has_failed (acceptor w)) workers → failed ≡ true → HasFailed seen (map acceptor workers)
  HasFailed-some told some =
      Any-map (λ a. seen.has_failed a ≡ true) acceptor workers (Any-from_list_any (λ w. seen.has_failed (acceptor w)) workers (sym told ∙ some))

-- the workers have ended after the first line, and then the balance of what the desks did was written, or broke off
module _ {L A W T : Type 0} (seen : Sockets L A) (arguments : ServeArguments) (s : Settings) (contents : W → Option (List ℕ)) (failed : W → Bool) (old between new : W) (desks : List Desk) (has_failed : Bool) (balance : Balance)
    (ended : HaveEnded seen arguments (used contents failed old between) desks has_failed) (settled : Settles s desks balance) (r : Result T WireFault) (wrote : Writes (contents between) (contents new) (failed new) (balance_text balance) r) where
  -- the second line broke off
  pub BreaksOff-second : (fault : WireFault) → r ≡ Err fault → BreaksOff seen arguments s (used contents failed old new) Output
  BreaksOff-second fault is =
      let last = subst (λ (r : Result T WireFault). Writes (contents between) (contents new) (failed new) (balance_text balance) r) is wrote in
      inr (record {
        listener = ended.listener;
        asked = ended.asked;
        desks = desks;
        balance = balance;
        settled = settled;
        n = last.prefix.0;
        within = last.prefix.1;
        lines = Appends-more _ _ _ _ _ ended.line last.prefix.2;
        failed = last.failed;
      })

  -- both lines were written
  module _ (v : T) (is : r ≡ Ok v) where
    prints : PrintsBoth seen arguments s (used contents failed old new) ended.acceptors
    prints =
        let last = subst (λ (r : Result T WireFault). Writes (contents between) (contents new) (failed new) (balance_text balance) r) is wrote in
        record {
          listener = ended.listener;
          asked = ended.asked;
          desks = desks;
          balance = balance;
          settled = settled;
          each_has_a_desk = ended.each_has_a_desk;
          each_accepts = ended.each_accepts;
          unasked = ended.unasked;
          lines = Appends-more _ _ _ _ _ ended.line last.all;
          alive = last.failed;
        }

    pub ServesEach-ended : has_failed ≡ false → ServesEach seen arguments s (used contents failed old new)
    ServesEach-ended none = record { acceptors = ended.acceptors; prints = prints; accepted = ended.accepted none }

    pub BreaksOff-refused : has_failed ≡ true → BreaksOff seen arguments s (used contents failed old new) Accept
    BreaksOff-refused some = record { acceptors = ended.acceptors; prints = prints; failed = ended.refused some }

-- the cause of a fault, where it has one
abbrev cause_in : RunFault → Cause
cause_in (run.Wire cause) = cause
cause_in run.Words = Output
cause_in run.Address = Output
cause_in run.Ports = Output
cause_in (run.Settings why) = Output
cause_in (run.Journal why) = Output
cause_in run.Memory = Output

abbrev cause_of : {T : Type 0} → Result T RunFault → Cause
cause_of (Err fault) = cause_in fault
cause_of (Ok v) = Output

-- what holds of the cause that is given holds of the cause, whichever name it has
pub by_cause : {T : Type 0} (P : Cause → Type 0) (r : Result T RunFault) (given : Cause) → r ≡ Err (run.Wire given) → P given → (cause : Cause) → r ≡ Err (run.Wire cause) → P cause
by_cause P r given is h cause named = subst P (sym (ap cause_of is) ∙ ap cause_of named) h

-- results that give these faults
pub err_is : {T : Type 0} (x y : RunFault) → (let left : Result T RunFault = Err x in let right : Result T RunFault = Err y in left ≡ right) → x ≡ y
err_is x y is = cc

-- a fault that comes before anything is printed is one of `serve`
pub before-service : (fault : RunFault) → is_before_listening fault ≡ true → is_of_service fault ≡ true
before-service run.Words before = absurd (true≢false (sym before))
before-service run.Address before = absurd (true≢false (sym before))
before-service run.Ports before = absurd (true≢false (sym before))
before-service (run.Settings why) before = absurd (true≢false (sym before))
before-service (run.Wire cause) before = refl
before-service (run.Journal why) before = absurd (true≢false (sym before))
before-service run.Memory before = refl

-- and nothing was printed
pub BreaksOff-before : {L A W T : Type 0} (seen : Sockets L A) (arguments : ServeArguments) (s : Settings) (output : StreamUse W) (r : Result T RunFault) (fault : RunFault) → IsUntouched output → r ≡ Err fault → is_before_listening fault ≡ true
    → (cause : Cause) → r ≡ Err (run.Wire cause) → BreaksOff seen arguments s output cause
BreaksOff-before seen arguments s output r fault untouched is before cause named =
    let same : fault ≡ run.Wire cause = let both : Err fault ≡ Err (run.Wire cause) = sym is ∙ named in cc in
    by cause (subst (λ (f : RunFault). is_before_listening f ≡ true) same before)
  where
    by : (cause : Cause) → is_before_listening (run.Wire cause) ≡ true → BreaksOff seen arguments s output cause
    by Input late = absurd (true≢false (sym late))
    by Output late = absurd (true≢false (sym late))
    by (Port why) early = untouched
    by Workers early = untouched
    by Accept late = absurd (true≢false (sym late))
    by Log early = untouched
    by Metrics early = untouched

-- a fault with a cause
abbrev has_cause : RunFault → Bool
has_cause (run.Wire cause) = true
has_cause run.Words = false
has_cause run.Address = false
has_cause run.Ports = false
has_cause (run.Settings why) = false
has_cause (run.Journal why) = false
has_cause run.Memory = false

abbrev ends_by_cause : {T : Type 0} → Result T RunFault → Bool
ends_by_cause (Err fault) = has_cause fault
ends_by_cause (Ok v) = false

-- a fault of the records of a journal is one of `serve` with a journal, and has no cause
pub reopening-kept : (why : ReopenFault) → is_of_kept_service (fault_of_reopening why) ≡ true
reopening-kept (reopening.Record number) = refl
reopening-kept reopening.Memory = refl
reopening-kept reopening.Waiting = refl

reopening-no_cause : (why : ReopenFault) → has_cause (fault_of_reopening why) ≡ false
reopening-no_cause (reopening.Record number) = refl
reopening-no_cause reopening.Memory = refl
reopening-no_cause reopening.Waiting = refl

pub reopening-by_cause : {T : Type 0} (P : Cause → Type 0) (r : Result T RunFault) (why : ReopenFault) → r ≡ Err (fault_of_reopening why) → (cause : Cause) → r ≡ Err (run.Wire cause) → P cause
reopening-by_cause P r why is cause named = absurd (true≢false (sym (ap ends_by_cause named) ∙ ap ends_by_cause is ∙ reopening-no_cause why))

-- how `serve` ends, by what became of it after its settings, its address and its ports were taken and the file of its journal was opened
pub ServeEnds-kept : {L A W T : Type 0} (seen : Sockets L A) (arguments : ServeArguments) (output : StreamUse W) (s : Settings) (r : Result T RunFault) → serve_settings arguments ≡ Ok s → has_port_twice arguments ≡ false → IsSome arguments.journal
    → IfErr r (λ fault. is_of_kept_service fault ≡ true) → (r ≡ Err run.Memory → IsUntouched output)
    → ((cause : Cause) → r ≡ Err (run.Wire cause) → BreaksOff seen arguments s output cause) → ((why : JournalFault) → r ≡ Err (run.Journal why) → KeepsQuiet output why)
    → OnOk r (ServesEach seen arguments s output) → ServeEnds seen arguments output r
ServeEnds-kept seen arguments output s (Ok v) given apart some late memory breaks lacks all = record { settings = s; is_given = given; apart = apart; serves = all }
ServeEnds-kept seen arguments output s (Err run.Words) given apart some late memory breaks lacks all = absurd (true≢false (sym late))
ServeEnds-kept seen arguments output s (Err run.Address) given apart some late memory breaks lacks all = absurd (true≢false (sym late))
ServeEnds-kept seen arguments output s (Err run.Ports) given apart some late memory breaks lacks all = absurd (true≢false (sym late))
ServeEnds-kept seen arguments output s (Err (run.Settings why)) given apart some late memory breaks lacks all = absurd (true≢false (sym late))
ServeEnds-kept seen arguments output s (Err (run.Journal why)) given apart some late memory breaks lacks all = (some, lacks why refl)
ServeEnds-kept seen arguments output s (Err (run.Wire cause)) given apart some late memory breaks lacks all = record { settings = s; is_given = given; apart = apart; breaks = breaks cause refl }
ServeEnds-kept seen arguments output s (Err run.Memory) given apart some late memory breaks lacks all = memory refl

-- the same without a journal
pub ServeEnds-from : {L A W T : Type 0} (seen : Sockets L A) (arguments : ServeArguments) (output : StreamUse W) (s : Settings) (r : Result T RunFault) → serve_settings arguments ≡ Ok s → has_port_twice arguments ≡ false
    → IfErr r (λ fault. is_of_service fault ≡ true) → (r ≡ Err run.Memory → IsUntouched output)
    → ((cause : Cause) → r ≡ Err (run.Wire cause) → BreaksOff seen arguments s output cause) → OnOk r (ServesEach seen arguments s output) → ServeEnds seen arguments output r
ServeEnds-from seen arguments output s (Ok v) given apart late memory breaks all = record { settings = s; is_given = given; apart = apart; serves = all }
ServeEnds-from seen arguments output s (Err run.Words) given apart late memory breaks all = absurd (true≢false (sym late))
ServeEnds-from seen arguments output s (Err run.Address) given apart late memory breaks all = absurd (true≢false (sym late))
ServeEnds-from seen arguments output s (Err run.Ports) given apart late memory breaks all = absurd (true≢false (sym late))
ServeEnds-from seen arguments output s (Err (run.Settings why)) given apart late memory breaks all = absurd (true≢false (sym late))
ServeEnds-from seen arguments output s (Err (run.Journal why)) given apart late memory breaks all = absurd (true≢false (sym late))
ServeEnds-from seen arguments output s (Err (run.Wire cause)) given apart late memory breaks all = record { settings = s; is_given = given; apart = apart; breaks = breaks cause refl }
ServeEnds-from seen arguments output s (Err run.Memory) given apart late memory breaks all = memory refl
