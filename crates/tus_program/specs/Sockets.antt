-- What is seen of the sockets of a run.
use Rattle.std.specs.Prelude.{◌≡◌, ℕ, ◌≤◌, Bool, true, false, List, All, Any}
use Rattle.std.specs.declared.net.socket_addr.SocketAddr.{SocketAddr}

-- What is seen of listeners and of acceptors at them: the address and the port that a listener was asked for and those at
-- which it listens, how many connections an acceptor gave, whether an accept failed, and whether it was stopped.
pub record Sockets (L A : Type 0) : Type 0 where
  pub asked : L → SocketAddr
  pub place : L → SocketAddr
  pub accepted : A → ℕ
  pub has_failed : A → Bool
  pub is_stopped : A → Bool

abbrev pub sockets : {L A : Type 0} → (L → SocketAddr) → (L → SocketAddr) → (A → ℕ) → (A → Bool) → (A → Bool) → Sockets L A
sockets asked place accepted has_failed is_stopped = record {
  asked = asked;
  place = place;
  accepted = accepted;
  has_failed = has_failed;
  is_stopped = is_stopped;
}

module _ {L A : Type 0} (seen : Sockets L A) where
  -- each of these acceptors has given so many connections, or at most so many where it was stopped
  abbrev pub HaveAccepted : ℕ → List A → Type 0
  HaveAccepted connections acceptors =
      All (λ a. (seen.has_failed a ≡ false) × (seen.accepted a ≤ connections)
      × (seen.is_stopped a ≡ false → seen.accepted a ≡ connections)) acceptors

  -- none of these acceptors was stopped
  abbrev pub AreUnstopped : List A → Type 0
  AreUnstopped acceptors = All (λ a. seen.is_stopped a ≡ false) acceptors

  -- an accept failed at one of them
  abbrev pub HasFailed : List A → Type 0
  HasFailed acceptors = Any (λ a. seen.has_failed a ≡ true) acceptors
