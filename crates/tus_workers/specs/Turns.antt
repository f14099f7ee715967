-- On which lists clients stand as they go on.
use Rattle.std.specs.Prelude.{◌≡◌, ℕ, List, Option, Some, None}
use Rattle.std.specs.List.{FoldsTo}
use Rattle.turn_lists.specs.declared.lists.TurnList.{TurnList}
use Rattle.turn_lists.specs.Lists.{Lists, list_of, put_in, without}
use Rattle.turn_lists.specs.Rounds.{HadRound}
use Rattle.tus_workers.specs.declared.client.Next.{Next}
use Rattle.tus_workers.specs.declared.client.Next.TheVariants.{Waits, Stands, Ends}

-- the list by which a client's next turn comes, if by one
abbrev pub list_in : Next → Option TurnList
list_in Waits = None
list_in (Stands list) = Some list
list_in Ends = None

-- The lists after a client went on so: it waits for an event, and stands where it stood; it stands behind the others of a
-- list, unless it stood on one; or it has ended, and stands on none.
abbrev pub after_next : Next → ℕ → Lists → Lists
after_next Waits key lists = lists
after_next (Stands list) key lists = put_in lists key list (list_of lists key)
after_next Ends key lists = without lists key (list_of lists key)

-- some clients have left their lists, and nobody else has moved
abbrev pub HaveLeft : Lists → Lists → Type 0
HaveLeft old new = (keys : List ℕ) × FoldsTo (λ (before : Lists) (key : ℕ) (after : Lists). after ≡ without before key (list_of before key)) old keys new

-- some clients have left their lists, and then those that were left on one of them had a round
abbrev pub HadRoundOfOthers : TurnList → Lists → Lists → Type 0
HadRoundOfOthers list old new = (left : Lists) × HaveLeft old left × HadRound list left new
