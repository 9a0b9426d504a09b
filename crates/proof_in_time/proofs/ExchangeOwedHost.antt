-- What the host has of a sealed exchange with a lock stays at each of its events that is none of the exchange, while the attempt runs.
use Rattle.std.proofs.Common.{◌≡◌, ◌<◌, ℕ, List, [], ◌∷◌, refl, ap, ◌∙◌}
use Rattle.std.specs.List.{AllByRecursion}
use Rattle.serial_link.specs.declared.turn.Turn.TheVariants.{Idle as no_turn}
use Rattle.s0_session.specs.Nonces.{account_of}
use Rattle.host_model.specs.After.{after}
use Rattle.host_model.specs.Did.{after_all}
use Rattle.host_model.specs.Events.{HostEvent, Accepts, Hears, Line_ticks, Node_ticks, Requests_do}
use Rattle.host_model.specs.State.{HostState, node_of}
use Rattle.proof_messages.specs.Hosts.{IsAside, LeavesNonces}
use Rattle.proof_spoken.proofs.Keeping.{Keeping, each_plain}
use Rattle.proof_in_time.proofs.JudgedAmong.{Quiet}
use Rattle.proof_in_time.proofs.JudgedWaits.{IsTold}
use Rattle.proof_in_time.proofs.PartsCalm.{Calm, HasPlaces, Runs, told_runs}
use Rattle.proof_in_time.proofs.PartsKept.{LeavesAsked, LeavesParts, LeavesTasks, event_as, event_on, gives_itself}

-- ---- what stays

-- what waits to be given to the node, or for a nonce; how many of its nonces were seen; and the nonces that it was given
pub record StaysFor (n : ℕ) (old new : HostState) : Type 0 where
  pub queue : new.requests.queue ≡ old.requests.queue
  pub text : (node_of new n).text ≡ (node_of old n).text
  pub pending : (node_of new n).pending ≡ (node_of old n).pending
  pub seen : (node_of new n).seen ≡ (node_of old n).seen
  pub account : account_of new.nonces n ≡ account_of old.nonces n
  pub keys : new.keys ≡ old.keys

pub same_stays : (n : ℕ) (old new : HostState) → new ≡ old → StaysFor n old new
same_stays n old new same = record {
  queue = ap (λ (h : HostState). h.requests.queue) same;
  text = ap (λ (h : HostState). (node_of h n).text) same;
  pending = ap (λ (h : HostState). (node_of h n).pending) same;
  seen = ap (λ (h : HostState). (node_of h n).seen) same;
  account = ap (λ (h : HostState). account_of h.nonces n) same;
  keys = ap (λ (h : HostState). h.keys) same;
}

pub then_stays : (n : ℕ) (a b c : HostState) → StaysFor n a b → StaysFor n b c → StaysFor n a c
then_stays n a b c first later = record {
  queue = later.queue ∙ first.queue;
  text = later.text ∙ first.text;
  pending = later.pending ∙ first.pending;
  seen = later.seen ∙ first.seen;
  account = later.account ∙ first.account;
  keys = later.keys ∙ first.keys;
}

-- ---- events that are none of the exchange

-- an order, a tick, an item that is heard, and what the requests hear of
abbrev pub Besides : HostState → HostEvent → Type 0
Besides h (Accepts order carriage) = Unit {0}
Besides h (Hears item) = Unit {0}
Besides h (Requests_do event moment) = LeavesTasks event
Besides h (Node_ticks k) = Unit {0}
Besides h Line_ticks = h.side.turn ≡ no_turn
Besides h event = ⊥

leaves_parts : (h : HostState) (event : HostEvent) → Besides h event → LeavesParts h event
leaves_parts h (Accepts order carriage) is = tt
leaves_parts h (Hears item) is = tt
leaves_parts h (Requests_do event moment) is = tt
leaves_parts h (Node_ticks k) is = tt
leaves_parts h Line_ticks is = is
leaves_parts h event is = absurd is

leaves_asked : (h : HostState) (event : HostEvent) → Besides h event → LeavesAsked event
leaves_asked h (Requests_do event moment) is = is
leaves_asked h event is = tt

is_aside : (n : ℕ) (h : HostState) (event : HostEvent) → Besides h event → IsAside n event
is_aside n h (Accepts order carriage) is = tt
is_aside n h (Hears item) is = tt
is_aside n h (Requests_do event moment) is = tt
is_aside n h (Node_ticks k) is = tt
is_aside n h Line_ticks is = tt
is_aside n h event is = absurd is

abbrev SameKeys : HostState → HostState → Type 0
SameKeys old new = new.keys ≡ old.keys

keys_rules : Keeping SameKeys
keys_rules = record {
  still = λ old new nodes commands store keys served. keys;
  both = λ a b c first later. later ∙ first;
  node = λ h n event of. refl;
  outcome = λ h command how. refl;
}

keys_stay : (h : HostState) (event : HostEvent) → Besides h event → (after h event).keys ≡ h.keys
keys_stay h (Accepts order carriage) is = refl
keys_stay h (Hears item) is = refl
keys_stay h (Requests_do event moment) is = each_plain SameKeys keys_rules h (Requests_do event moment) tt
keys_stay h (Node_ticks k) is = each_plain SameKeys keys_rules h (Node_ticks k) tt
keys_stay h Line_ticks is = each_plain SameKeys keys_rules h Line_ticks tt
keys_stay h event is = absurd is

-- what is proved of the nonces of a host at other events
abbrev pub AsideLaw : Type 0
AsideLaw = (node : ℕ) (h : HostState) (event : HostEvent) → IsAside node event → LeavesNonces node h (after h event)

module _ (aside : AsideLaw) (n : ℕ) (within : n < 233) where
  pub event_stays : (h : HostState) (event : HostEvent) → Besides h event → HasPlaces h → Runs n (after h event) → StaysFor n h (after h event)
  event_stays h event is places run =
      let parts = leaves_parts h event is in
      let gives = (event_on n within (node_of h n) h event parts (record { places = places; gives = gives_itself (node_of h n) })).gives run in
      let left = aside n h event (is_aside n h event is) in
      record {
        queue = (event_as h event parts (leaves_asked h event is)).0;
        text = gives.text_is;
        pending = gives.pending_is;
        seen = left.sealing.seen;
        account = left.account;
        keys = keys_stay h event is;
      }

-- ---- what is told beside

pub quiet_calm : (event : HostEvent) → Quiet event → Calm event
quiet_calm (Hears item) quiet = tt
quiet_calm (Requests_do event moment) quiet = quiet
quiet_calm event quiet = absurd quiet

pub quiet_told : (event : HostEvent) → Quiet event → IsTold event
quiet_told (Hears item) quiet = tt
quiet_told (Requests_do event moment) quiet = tt
quiet_told event quiet = absurd quiet

pub all_told : (events : List HostEvent) → AllByRecursion Quiet events → AllByRecursion IsTold events
all_told [] all = tt
all_told (event ∷ events) all = (quiet_told event all.0, all_told events all.1)

quiet_besides : (h : HostState) (event : HostEvent) → Quiet event → Besides h event
quiet_besides h (Hears item) quiet = tt
quiet_besides h (Requests_do event moment) quiet = quiet
quiet_besides h event quiet = absurd quiet

module _ (aside : AsideLaw) (n : ℕ) (within : n < 233) where
  pub quiet_stays : (h : HostState) (events : List HostEvent) → AllByRecursion Quiet events → HasPlaces h → Runs n (after_all h events) → StaysFor n h (after_all h events)
  quiet_stays h [] all places run = same_stays n h h refl
  quiet_stays h (event ∷ events) all places run =
      let next = told_runs n within h (event ∷ []) (quiet_told event all.0, tt) places in
      let runs = (told_runs n within (after h event) events (all_told events all.1) next.0).1 run in
      then_stays n h (after h event) (after_all (after h event) events) (event_stays aside n within h event (quiet_besides h event all.0) places runs) (quiet_stays (after h event) events all.1 next.0 run)
