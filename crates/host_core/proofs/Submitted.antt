-- The turns of a pump, one after another.
use Rattle.std.proofs.Common.{◌≡◌, ℕ, List, [], ◌∷◌, ◌++◌, refl, sym, subst}
use Rattle.std.proofs.lemmas.List.{append-nil}
use Rattle.std.specs.Prelude.{Bool, true, false, Option}
use Rattle.host_requests.specs.declared.task.Task.{Task}
use Rattle.host_model.specs.State.{HostState, node_of}
use Rattle.host_model.specs.Events.{HostEvent, Submits_abort, Submits_front}
use Rattle.host_model.specs.Did.{after_all}
use Rattle.host_model.specs.May.{IsFree, IsServed}
use Rattle.host_model.specs.Pumping.{IsNext, IsNextOf, IsNextOfNodes, IsServedBy, IsPumped, SubmitsSome, Submits, LetsSleep, Pumps}
use Rattle.host_step_bytes.specs.Calls.{Scene, Does, Are, One, Turns}
use Rattle.host_step_bytes.proofs.CallLists.{then_does}

-- what a node that is served gives is next
pub served_is_next : (h : HostState) (n : ℕ) (event : HostEvent) → IsServed h n → IsServedBy h n (node_of h n).series event → IsNext h event
served_is_next h n event served gives = (
  served.free,
  subst (λ (b : Bool). IsNextOf h b h.requests.queue event) (sym served.paid)
      (subst (λ (q : List Task). IsNextOf h false q event) (sym served.no_task)
      (subst (λ (o : Option ℕ). IsNextOfNodes h o event) (sym served.next) gives)),
)

pub abort_is_next : (h : HostState) → IsFree h → h.requests.owes ≡ true → IsNext h Submits_abort
abort_is_next h free owes = (free, subst (λ (b : Bool). IsNextOf h b h.requests.queue Submits_abort) (sym owes) refl)

pub prefix_is_next : (h : HostState) → IsFree h → h.requests.owes ≡ false → (h.requests.queue ≡ [] → ⊥) → IsNext h Submits_front
prefix_is_next h free paid some = (free, subst (λ (b : Bool). IsNextOf h b h.requests.queue Submits_front) (sym paid) (by_queue h.requests.queue some))
  where
    by_queue : (q : List Task) → (q ≡ [] → ⊥) → IsNextOf h false q Submits_front
    by_queue [] some = absurd (some refl)
    by_queue (task ∷ more) some = refl

-- turns go on
pub record GoesOn : Type 0 where
  pub one_more : (h : HostState) (events : List HostEvent) (event : HostEvent) → SubmitsSome h events → IsNext (after_all h events) event → SubmitsSome h (events ++ event ∷ [])
  pub all : (h : HostState) (events : List HostEvent) → SubmitsSome h events → IsPumped (after_all h events) → Submits h events

-- one more turn
pub one_more_turn : GoesOn → (a b c : Scene) → Does (SubmitsSome a.host) a b → Turns true b c → Does (SubmitsSome a.host) a c
one_more_turn law a b c before turn =
    then_does (SubmitsSome a.host) (One (IsNext b.host)) (SubmitsSome a.host) a b c before turn
    (λ (x : List HostEvent) (y : List HostEvent) state some one.
    subst (λ (l : List HostEvent). SubmitsSome a.host (x ++ l)) (sym one.2) (law.one_more a.host x one.0 some (subst (λ (h : HostState). IsNext h one.0) state one.1)))

-- none is left
pub last_turn : GoesOn → (a b c : Scene) → Does (SubmitsSome a.host) a b → Turns false b c → Does (Submits a.host) a c
last_turn law a b c before turn =
    then_does (SubmitsSome a.host) (Are []) (Submits a.host) a b c before turn.1
    (λ (x : List HostEvent) (y : List HostEvent) state some none.
    subst (λ (l : List HostEvent). Submits a.host (x ++ l)) (sym none)
    (subst (λ (l : List HostEvent). Submits a.host l) (sym (append-nil x)) (law.all a.host x some (subst (λ (h : HostState). IsPumped h) state turn.0))))

-- the whole
pub whole_pump : (a b c : Scene) → Does (LetsSleep a.host) a b → Does (Submits b.host) b c → Does (Pumps a.host) a c
whole_pump a b c sleeps submits =
    then_does (LetsSleep a.host) (Submits b.host) (Pumps a.host) a b c sleeps submits
    (λ (x : List HostEvent) (y : List HostEvent) state first later. (x, y, refl, first, subst (λ (h : HostState). Submits h y) state later))
