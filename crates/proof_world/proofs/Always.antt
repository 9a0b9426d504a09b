-- What an event of the host is asked, and lists of events that the chip's bytes bring.
use Rattle.std.proofs.Common.{◌≡◌, List, [], ◌∷◌, sym, subst, inl, inr}
use Rattle.std.specs.List.{AllByRecursion}
use Rattle.proof_host.specs.host_model.State.{HostState}
use Rattle.proof_host.specs.host_model.Events.{HostEvent, Accepts, Joins, Queues, Queues_interview, Requests_do, Interviews, Finishes, Gives, Spends, Spends_unread, Takes_nonce}
use Rattle.proof_host.specs.host_model.Taking.{IsKeptOr}
use Rattle.proof_world.specs.Lines.{IsAsked}

-- What it is asked is in order. Of what the chip's bytes bring nothing is asked.
abbrev pub IsInOrder : HostState → HostEvent → Type 0
IsInOrder h (Interviews n listens classes update) = Unit {0}
IsInOrder h (Finishes n session id command status wake_request) = Unit {0}
IsInOrder h (Gives n drawn) = Unit {0}
IsInOrder h (Spends n) = Unit {0}
IsInOrder h (Spends_unread n payload) = Unit {0}
IsInOrder h (Takes_nonce n seen text) = Unit {0}
IsInOrder h event = IsAsked h event

pub asked_in_order : (h : HostState) (event : HostEvent) → IsAsked h event → IsInOrder h event
asked_in_order h (Interviews n listens classes update) asked = absurd asked
asked_in_order h (Finishes n session id command status wake_request) asked = absurd asked
asked_in_order h (Gives n drawn) asked = absurd asked
asked_in_order h (Spends n) asked = absurd asked
asked_in_order h (Spends_unread n payload) asked = absurd asked
asked_in_order h (Takes_nonce n seen text) asked = absurd asked
asked_in_order h (Accepts order carriage) asked = asked
asked_in_order h (Joins n) asked = asked
asked_in_order h (Queues task) asked = asked
asked_in_order h (Queues_interview n) asked = asked
asked_in_order h (Requests_do event moment) asked = asked
asked_in_order h _ asked = tt

abbrev pub AlwaysInOrder : HostEvent → Type 0
AlwaysInOrder event = (h : HostState) → IsInOrder h event

-- ---- lists

pub one : (P : HostEvent → Type 0) (event : HostEvent) (events : List HostEvent) → P event → events ≡ event ∷ [] → AllByRecursion P events
one P event events is are = subst (λ (l : List HostEvent). AllByRecursion P l) (sym are) (is, tt)

pub none : (P : HostEvent → Type 0) (events : List HostEvent) → events ≡ [] → AllByRecursion P events
none P events are = subst (λ (l : List HostEvent). AllByRecursion P l) (sym are) tt

pub either : (P : HostEvent → Type 0) (kept unkept : HostEvent) (events : List HostEvent) → P kept → P unkept → IsKeptOr kept unkept events → AllByRecursion P events
either P kept unkept events is too (inl are) = one P kept events is are
either P kept unkept events is too (inr are) = one P unkept events too are
