use Rattle.std.proofs.Common.{◌≡◌, ℕ, ◌+◌, ◌<◌, ◌++◌, List, [], ◌∷◌, Vec, Global, length, get_or, drop, take, map, sym, ap, subst, ◌∙◌, arith, rules}
use Rattle.std.proofs.lemmas.List.{get_or-map, length-map, take_all}
use Rattle.std.proofs.lemmas.List.Sums.{sum_by_more, sum_by-take-le}
use Rattle.journal_file.proofs.AppendingLemmas.{each-at, each-length, fits-at, leaves-durable, more-behind, one-more}
use Rattle.journal_file.proofs.JournalLemmas.{journal_leaves}
use Rattle.journal_file.specs.Journal.{key_of, room_of, IsJournal}
use Rattle.journal_frames.specs.Crash.{Leaves}
use Rattle.journal_frames.specs.Frames.{frames}
use Rattle.journal_file.proofs.journal.Journal.append_each.Goals as goal

pub returns-in_err-append-clause-any_crash : goal.returns-in_err-append-clause-any_crash
returns-in_err-append-clause-any_crash g c = λ synced unsynced more is fit are left may.
    let so_far = c.loop-frame.invariant in
    let i = c.loop-frame.frame-index in
    let waiting = c.args.frames.now in
    let key = key_of c.args.self.now in
    let within : i < length more = omega (arith, each-length (λ frame. frame.items) waiting key more are, c.loop-frame-test.true) in
    let at = each-at (λ frame. frame.items) waiting key more are i c.frame-item.result c.loop-frame-test.true c.frame-item.is in
    let frame_is : c.deref.result.now ≡ frames (key_of c.loop-frame.self) (get_or more i [] ∷ []) = c.deref.ensures.value ∙ at ∙ ap (λ (k : ℕ). frames k (get_or more i [] ∷ [])) (sym so_far.key) in
    let crash = c.append.ensures.any_crash synced (unsynced ++ take i more) (get_or more i [] ∷ []) (so_far.appended synced unsynced more is fit are) (fits-at more i fit within, tt) frame_is left may in
    subst (λ (k : ℕ). Leaves k synced (unsynced ++ more) left) so_far.key (leaves-durable _ synced ((unsynced ++ take i more) ++ get_or more i [] ∷ []) (drop (i + 1) more) (unsynced ++ more) left (more-behind unsynced more i within) crash)

pub returns-in_err-append-clause-key : goal.returns-in_err-append-clause-key
returns-in_err-append-clause-key g c = c.append.ensures.key ∙ c.loop-frame.invariant.key

pub returns-in_err-append-clause-no_room : goal.returns-in_err-append-clause-no_room
returns-in_err-append-clause-no_room g c = λ is.
    let so_far = c.loop-frame.invariant in
    let i = c.loop-frame.frame-index in
    let waiting = c.args.frames.now in
    let lists : List (List ℕ) = map {A = Vec ℕ Global} {B = List ℕ} (λ frame. frame.items) waiting in
    let listed : i < length lists = omega (arith, length-map {A = Vec ℕ Global} {B = List ℕ} waiting (λ frame. frame.items), c.loop-frame-test.true) in
    let item : get_or lists i [] ≡ c.deref.result.now =
    get_or-map {X = Vec ℕ Global} {Y = List ℕ} (λ frame. frame.items) waiting i c.frame-item.result [] c.loop-frame-test.true ∙ ap (λ (v : Vec ℕ Global). v.items) (sym c.frame-item.is) ∙ sym c.deref.ensures.value in
    let sum = sum_by_more (λ (bytes : List ℕ). length bytes) lists i [] listed in
    let len : length (get_or lists i []) ≡ length c.deref.result.now = ap (length {A = ℕ}) item in
    let lacks : room_of c.loop-frame.self < length c.deref.result.now = search rules in
    omega (arith, sum, len, so_far.room, lacks, sum_by-take-le (λ (bytes : List ℕ). length bytes) lists (i + 1))

pub loop-frame-preserved : goal.loop-frame-preserved
loop-frame-preserved g c =
    let so_far = c.loop-frame.invariant in
    let i = c.loop-frame.frame-index in
    let waiting = c.args.frames.now in
    let key = key_of c.args.self.now in
    let lists : List (List ℕ) = map {A = Vec ℕ Global} {B = List ℕ} (λ frame. frame.items) waiting in
    let listed : i < length lists = omega (arith, length-map {A = Vec ℕ Global} {B = List ℕ} waiting (λ frame. frame.items), c.loop-frame-test.true) in
    let item : get_or lists i [] ≡ c.deref.result.now =
    get_or-map {X = Vec ℕ Global} {Y = List ℕ} (λ frame. frame.items) waiting i c.frame-item.result [] c.loop-frame-test.true ∙ ap (λ (v : Vec ℕ Global). v.items) (sym c.frame-item.is) ∙ sym c.deref.ensures.value in
    let sum = sum_by_more (λ (bytes : List ℕ). length bytes) lists i [] listed in
    let len : length (get_or lists i []) ≡ length c.deref.result.now = ap (length {A = ℕ}) item in
    record {
      key = c.append.ensures.key ∙ so_far.key;
      room = omega (arith, sum, len, so_far.room, c.in_ok-append.ensures.room);
      appended = λ synced unsynced more is fit are.
          let within : i < length more = omega (arith, each-length (λ frame. frame.items) waiting key more are, c.loop-frame-test.true) in
          let at = each-at (λ frame. frame.items) waiting key more are i c.frame-item.result c.loop-frame-test.true c.frame-item.is in
          let frame_is : c.deref.result.now ≡ frames (key_of c.loop-frame.self) (get_or more i [] ∷ []) = c.deref.ensures.value ∙ at ∙ ap (λ (k : ℕ). frames k (get_or more i [] ∷ [])) (sym so_far.key) in
          subst (IsJournal c.append.new.self synced) (one-more unsynced more i within) (c.in_ok-append.ensures.appended synced (unsynced ++ take i more) (get_or more i [] ∷ []) (so_far.appended synced unsynced more is fit are) (fits-at more i fit within, tt) frame_is);
    }

pub returns-clause-appended : goal.returns-clause-appended
returns-clause-appended g c = λ synced unsynced more is fit are.
    let so_far = c.loop-frame.invariant in
    let all = each-length (λ frame. frame.items) c.args.frames.now (key_of c.args.self.now) more are in
    subst (λ (payloads : List (List ℕ)). IsJournal c.loop-frame.self synced (unsynced ++ payloads)) (take_all c.loop-frame.frame-index more (omega (arith, all, c.loop-frame-test.false))) (so_far.appended synced unsynced more is fit are)

pub returns-clause-any_crash : goal.returns-clause-any_crash
returns-clause-any_crash g c = λ synced unsynced more is fit are left may.
    let so_far = c.loop-frame.invariant in
    let all = each-length (λ frame. frame.items) c.args.frames.now (key_of c.args.self.now) more are in
    let whole = subst (λ (payloads : List (List ℕ)). IsJournal c.loop-frame.self synced (unsynced ++ payloads)) (take_all c.loop-frame.frame-index more (omega (arith, all, c.loop-frame-test.false))) (so_far.appended synced unsynced more is fit are) in
    subst (λ (k : ℕ). Leaves k synced (unsynced ++ more) left) so_far.key (journal_leaves c.loop-frame.self synced (unsynced ++ more) whole left may)
