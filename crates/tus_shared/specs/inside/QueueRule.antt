-- What waits in the queue of a store.
use Rattle.std.specs.Prelude.{◌≡◌, ℕ, ◌+◌, ◌<◌, ◌≤◌, List, [], ◌∷◌, ◌++◌, length, Option, Some, None, is_some, IfSome, Result, Ok, Err, ⊤}
use Rattle.logbook.specs.Pages.{Book}
use Rattle.upload_book.specs.Settings.{Settings}
use Rattle.head_board.specs.Event.{Event}
use Rattle.tus_shared.specs.Restoring.{RestoreNothing}
use Rattle.tus_shared.specs.declared.unqueued.Unqueued.{Unqueued}
use Rattle.tus_shared.specs.declared.unqueued.Unqueued.TheVariants.{NoFrame, NoPlace, NoRoom}
use Rattle.tus_shared.specs.Journal.{event_frames, CanBeReplayed}

-- what is seen of a queue: which log its events are in, the events whose records were taken out of it, the frames that wait, and
-- for how many it has places
pub record QueueView : Type 0 where
  pub log : Book
  pub behind : List Event
  pub frames : List (List ℕ)
  pub places : ℕ

-- the frames of the records of all events that come after those, one each, in their order; of these they can be made again
pub record Waits (s : Settings) (journal : Option ℕ) (log : Book) (events : List Event) (queue : QueueView) : Type 0 where
  pub log_is : queue.log ≡ log
  pub more : List Event
  pub reaches : events ≡ queue.behind ++ more
  pub frames_are : queue.frames ≡ event_frames journal more
  pub again : CanBeReplayed s queue.behind more

-- there is a queue exactly where there is a journal; without one nothing was restored
pub record IsQueued (s : Settings) (journal : Option ℕ) (log : Book) (events : List Event) (queue : Option QueueView) : Type 0 where
  pub there : is_some queue ≡ is_some journal
  pub waits : IfSome queue (Waits s journal log events)
  pub joined : journal ≡ None → RestoreNothing events

-- a frame was queued: it is the last of those that wait, and the room fell by its length, and has so much to spare
pub record Queues (waiting : QueueView) (frame : Option (List ℕ)) (room spare : ℕ) (queue : Option QueueView) (left : ℕ) : Type 0 where
  pub bytes : List ℕ
  pub is : frame ≡ Some bytes
  pub places : ℕ
  pub queued : queue ≡ Some (record waiting { frames = waiting.frames ++ bytes ∷ []; places = places })
  pub spent : left + length bytes ≡ room
  pub spared : spare ≤ left

-- what there is not for a frame: none was made; or it has not so much room that some is spared; or all places of the queue are
-- taken
abbrev pub IsLacking : QueueView → Option (List ℕ) → ℕ → ℕ → Unqueued → Type 0
IsLacking waiting frame room spare NoFrame = frame ≡ None
IsLacking waiting frame room spare NoRoom = (bytes : List ℕ) × (frame ≡ Some bytes) × (room < length bytes + spare)
IsLacking waiting frame room spare NoPlace =
    (bytes : List ℕ) × (frame ≡ Some bytes) × (length bytes + spare ≤ room) × (waiting.places ≤ length waiting.frames)

-- What comes of queueing a frame: where there is no queue, none is queued, and that is well; else it was, or, for a reason,
-- nothing changed.
abbrev pub IsFramed : Result ⊤ Unqueued → Option QueueView → Option (List ℕ) → ℕ → ℕ → Option QueueView → ℕ → Type 0
IsFramed (Ok done) None frame room spare new left = (new ≡ None) × (left ≡ room)
IsFramed (Err why) None frame room spare new left = ⊥
IsFramed (Ok done) (Some waiting) frame room spare new left = Queues waiting frame room spare new left
IsFramed (Err why) (Some waiting) frame room spare new left =
    (new ≡ Some waiting) × (left ≡ room) × IsLacking waiting frame room spare why

-- the queue of a new store
abbrev pub new_queue : Option ℕ → Book → List Event → Option QueueView
new_queue None log behind = None
new_queue (Some key) log behind = Some (record { log = log; behind = behind; frames = []; places = 0 })

-- a queue that begins behind other events
abbrev pub passed : Option QueueView → Book → List Event → Option QueueView
passed None log reached = None
passed (Some waiting) log reached = Some (record { log = log; behind = reached; frames = waiting.frames; places = waiting.places })

-- all frames that waited were taken out of a queue that began behind some events, and it begins again behind others
pub record Takes (old : Option QueueView) (from : List Event) (waiting : List (List ℕ)) (log : Book) (reached : List Event) (new : Option QueueView) : Type 0 where
  pub queue : QueueView
  pub was : old ≡ Some queue
  pub begins : from ≡ queue.behind
  pub all : waiting ≡ queue.frames
  pub empty : new ≡ Some (record { log = log; behind = reached; frames = []; places = 0 })
