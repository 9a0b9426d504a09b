-- What a pump may do, of which one thing has to be said for each kind of event.
use Rattle.std.proofs.Common.{◌≡◌, ℕ, Bool, true, false, if◌then◌else◌, List, [], ◌∷◌, inl, inr, sym, subst}
use Rattle.std.specs.Prelude.{Option, Some, None}
use Rattle.std.specs.List.{AllByRecursion}
use Rattle.zw_base.proofs.Each.{all-append}
use Rattle.host_requests.specs.declared.task.Task.{Task}
use Rattle.host_node.specs.declared.attempt.Plan.{Plan}
use Rattle.host_node.specs.declared.series.Series.{Series}
use Rattle.host_node.specs.declared.series.Series.TheVariants.{Idle, Due, Running}
use Rattle.host_node.specs.Search.{next_of}
use Rattle.host_model.specs.State.{HostState, node_of}
use Rattle.host_model.specs.Events.{HostEvent, Queues_no_more, Drops_no_more, Submits_abort, Submits_front, Starts, Gives_text, Gives_segment, Begins, Begin_unkept}
use Rattle.host_model.specs.After.{after, is_full}
use Rattle.host_model.specs.Did.{after_all}
use Rattle.host_model.specs.Pumping.{LetsSleep, GivesNext, IsNext, IsNextOf, IsNextOfNodes, IsServedBy, Pumps, Submits, no_more_event}

-- of what is submitted, and of a session that begins or is not kept
pub record SubmittedAre (Is : HostEvent → Type 0) : Type 0 where
  pub abort : Is Submits_abort
  pub front : Is Submits_front
  pub starts : (n : ℕ) (plan : Plan) (more : Bool) (payload : List ℕ) → Is (Starts n plan more payload)
  pub text : (n : ℕ) (payload : List ℕ) → Is (Gives_text n payload)
  pub segment : (n : ℕ) (more : Bool) (payload : List ℕ) → Is (Gives_segment n more payload)
  pub begins : (n session command : ℕ) → Is (Begins n session command)
  pub unkept : (n : ℕ) → Is (Begin_unkept n)

-- of a node that is to be told that there is no more for it
pub record SleepersAre (Is : HostEvent → Type 0) : Type 0 where
  pub queues : (n : ℕ) → Is (Queues_no_more n)
  pub drops : (n : ℕ) → Is (Drops_no_more n)

module _ (Is : HostEvent → Type 0) (each : SubmittedAre Is) (h : HostState) where
  as_is : (event these : HostEvent) → event ≡ these → Is these → Is event
  as_is event these same is = subst Is (sym same) is

  gives_is : (n : ℕ) (text : Option (List ℕ)) (event : HostEvent) → GivesNext h n text event → Is event
  gives_is n (Some text) event is = as_is event _ is (each.text n text)
  gives_is n None event (payload, there, is) = as_is event _ is (each.segment n _ payload)

  served_is : (n : ℕ) (series : Series) (event : HostEvent) → IsServedBy h n series event → Is event
  served_is n Running event is = gives_is n (node_of h n).text event is
  served_is n Due event (plan, more, payload, start, is) = as_is event _ is (each.starts n plan more payload)
  served_is n Idle event (inl is) = as_is event _ is (each.begins n _ _)
  served_is n Idle event (inr is) = as_is event _ is (each.unkept n)

  of_nodes : (next : Option ℕ) (event : HostEvent) → IsNextOfNodes h next event → Is event
  of_nodes None event is = absurd is
  of_nodes (Some n) event is = served_is n (node_of h n).series event is

  next_of_is : (owes : Bool) (queue : List Task) (event : HostEvent) → IsNextOf h owes queue event → Is event
  next_of_is true queue event is = as_is event _ is each.abort
  next_of_is false (task ∷ more) event is = as_is event _ is each.front
  next_of_is false [] event is = of_nodes (next_of h.nodes h.served) event is

  -- what is submitted next
  pub next_is : (event : HostEvent) → IsNext h event → Is event
  next_is event next = next_of_is h.requests.owes h.requests.queue event next.1

submits_are : (Is : HostEvent → Type 0) → SubmittedAre Is → (h : HostState) (events : List HostEvent) → Submits h events → AllByRecursion Is events
submits_are Is each h [] submits = tt
submits_are Is each h (event ∷ events) (next, more) = (next_is Is each h event next, submits_are Is each (after h event) events more)

-- a node is told that there is no more for it, or finds the queue full
pub no_more_is : (Is : HostEvent → Type 0) → SleepersAre Is → (h : HostState) (n : ℕ) → Is (no_more_event h n)
no_more_is Is each h n = by (is_full h)
  where
    by : (full : Bool) → Is (if full then Drops_no_more n else Queues_no_more n)
    by true = each.drops n
    by false = each.queues n

sleep_are : (Is : HostEvent → Type 0) → SleepersAre Is → (h : HostState) (events : List HostEvent) → LetsSleep h events → AllByRecursion Is events
sleep_are Is each h [] lets = tt
sleep_are Is each h (event ∷ events) (n, first, is, more) =
    (subst Is (sym is) (no_more_is Is each h n), sleep_are Is each (after h event) events more)

-- a whole pump
pub pump_is : (Is : HostEvent → Type 0) → SleepersAre Is → SubmittedAre Is → (h : HostState) (events : List HostEvent) → Pumps h events → AllByRecursion Is events
pump_is Is sleepers submitted h events (first, rest, are, sleep, submits) =
    subst (λ (l : List HostEvent). AllByRecursion Is l) (sym are)
    (all-append Is first rest (sleep_are Is sleepers h first sleep) (submits_are Is submitted (after_all h first) rest submits))
