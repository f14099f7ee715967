use Rattle.std.proofs.Common.{◌≡◌, ℕ, true, List, [], Vec, Global, map, sym, ap, subst, ◌∙◌, rules}
use Rattle.journal_file.proofs.JournalLemmas.{journal_leaves, leaves_more}
use Rattle.journal_file.specs.Appending.{frames_each}
use Rattle.journal_file.specs.Journal.{key_of}
use Rattle.journal_frames.specs.Crash.{Leaves}
use Rattle.journal_keeper.proofs.keeping.keep_frames.Goals as goal

pub returns-then-not-are_frames-clause-crash : goal.returns-then-not-are_frames-clause-crash
returns-then-not-are_frames-clause-crash g c = λ payloads more is are left may.
    leaves_more _ payloads [] more left (journal_leaves c.args.journal.now payloads [] is left may)

pub returns-in_err-make_room-clause-crash : goal.returns-in_err-make_room-clause-crash
returns-in_err-make_room-clause-crash g c = λ payloads more is are left may.
    let left_of = journal_leaves c.make_room.new.self payloads [] (c.make_room.ensures.stays payloads is) left may in
    subst (λ (k : ℕ). Leaves k payloads more left) c.make_room.ensures.key (leaves_more _ payloads [] more left left_of)

pub returns-in_err-append_synced-clause-crash : goal.returns-in_err-append_synced-clause-crash
returns-in_err-append_synced-clause-crash g c = λ payloads more is are left may.
    let yes : c.are_frames.result ≡ true = search rules in
    let fit = c.are_frames.ensures yes (key_of c.args.journal.now) more are in
    let framed : map {A = Vec ℕ Global} {B = List ℕ} (λ frame. frame.items) c.args.waiting.now ≡ frames_each (key_of c.make_room.new.self) more = are ∙ ap (λ (k : ℕ). frames_each k more) (sym c.make_room.ensures.key) in
    subst (λ (k : ℕ). Leaves k payloads more left) c.make_room.ensures.key (c.append_synced.ensures.any_crash payloads [] more (c.make_room.ensures.stays payloads is) fit framed left may)

pub returns-clause-kept : goal.returns-clause-kept
returns-clause-kept g c = λ payloads more is are.
    let yes : c.are_frames.result ≡ true = search rules in
    let fit = c.are_frames.ensures yes (key_of c.args.journal.now) more are in
    let framed : map {A = Vec ℕ Global} {B = List ℕ} (λ frame. frame.items) c.args.waiting.now ≡ frames_each (key_of c.make_room.new.self) more = are ∙ ap (λ (k : ℕ). frames_each k more) (sym c.make_room.ensures.key) in
    c.in_ok-append_synced.ensures.appended payloads [] more (c.make_room.ensures.stays payloads is) fit framed

pub returns-clause-crash : goal.returns-clause-crash
returns-clause-crash g c = λ payloads more is are left may.
    let yes : c.are_frames.result ≡ true = search rules in
    let fit = c.are_frames.ensures yes (key_of c.args.journal.now) more are in
    let framed : map {A = Vec ℕ Global} {B = List ℕ} (λ frame. frame.items) c.args.waiting.now ≡ frames_each (key_of c.make_room.new.self) more = are ∙ ap (λ (k : ℕ). frames_each k more) (sym c.make_room.ensures.key) in
    subst (λ (k : ℕ). Leaves k payloads more left) c.make_room.ensures.key (c.append_synced.ensures.any_crash payloads [] more (c.make_room.ensures.stays payloads is) fit framed left may)
