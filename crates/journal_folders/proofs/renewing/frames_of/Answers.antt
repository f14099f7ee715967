use Rattle.std.proofs.Common.{ℕ, ◌<◌, ◌++◌, List, [], length, get_or, ap, ◌∙◌, arith}
use Rattle.std.proofs.lemmas.List.{take_all}
use Rattle.journal_frames.specs.Frames.{frame, frames}
use Rattle.journal_folders.proofs.RenewingLemmas.{fits-at, frames-more, room-at, rooms-length}
use Rattle.journal_folders.proofs.renewing.frames_of.Goals as goal

pub push_behind_room-requires : goal.push_behind_room-requires
push_behind_room-requires c =
    let records = c.requires.0 in
    let i = c.loop-room.room-index in
    let within : i < length records = omega (arith, rooms-length c.args.rooms.now records c.requires.1, c.loop-room-test.true) in
    (get_or records i [], c.deref.ensures.value ∙ room-at c.args.rooms.now records c.requires.1 i c.room-item.result c.loop-room-test.true c.room-item.is, fits-at records i within c.requires.2)

pub loop-room-preserved : goal.loop-room-preserved
loop-room-preserved c = λ records are.
    let i = c.loop-room.room-index in
    let within : i < length records = omega (arith, rooms-length c.args.rooms.now records are, c.loop-room-test.true) in
    c.in_ok-push_behind_room.ensures (get_or records i []) (c.deref.ensures.value ∙ room-at c.args.rooms.now records are i c.room-item.result c.loop-room-test.true c.room-item.is)
    ∙ ap (λ (front : List ℕ). front ++ frame 8391740119571199346 (get_or records i [])) (c.loop-room.invariant records are)
    ∙ frames-more 8391740119571199346 records i within

pub returns : goal.returns
returns c = λ records are.
    c.loop-room.invariant records are
    ∙ ap (frames 8391740119571199346) (take_all c.loop-room.room-index records (omega (arith, rooms-length c.args.rooms.now records are, c.loop-room-test.false)))
