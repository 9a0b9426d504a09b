-- A pump starts the attempt of a session directly after its beginning: nothing else is under way, and the node comes next.
use Rattle.std.proofs.Common.{◌≡◌, ℕ, ◌<◌, ◌≤◌, Bool, true, false, List, [], ◌∷◌, ◌++◌, length, map, Option, Some, None, inl, inr, refl, sym, ap, ap₂, subst, ◌∙◌, arith}
use Rattle.std.specs.Prelude.{if◌then◌else◌}
use Rattle.std.specs.Option.{option_or}
use Rattle.std.proofs.lemmas.Bool.{cases_eq, cases_lt}
use Rattle.std.proofs.lemmas.List.{get_or_past, get_or-set_same, get_or-set_other}
use Rattle.host_requests.specs.declared.task.Task.{Task}
use Rattle.host_node.specs.State.{NodeState, has_work, unknown}
use Rattle.host_node.specs.Steps.{after_begin}
use Rattle.host_node.specs.declared.attempt.Plan.{Plan}
use Rattle.host_node.specs.declared.series.Series.{Series}
use Rattle.host_node.specs.declared.series.Series.TheVariants.{Idle, Due, Running}
use Rattle.host_node.specs.Search.{least_above, next_of}
use Rattle.host_node.specs.TableState.{node_of as node_among, with_node as with_node_among}
use Rattle.host_node.proofs.Searches.{least_is_found, no_least_is_found, what_is_least, where_is_none}
use Rattle.proof_air.specs.host_model.State.{HostState, node_of}
use Rattle.proof_air.specs.host_model.After.{after, is_full}
use Rattle.proof_air.specs.host_model.Did.{after_all}
use Rattle.proof_air.specs.host_model.May.{IsFree, IsServed}
use Rattle.proof_air.specs.host_model.Events.{HostEvent, Begins, Queues_no_more, Drops_no_more, Starts}
use Rattle.proof_air.specs.host_model.Pumping.{GivesNext, IsNext, IsNextOf, IsNextOfNodes, IsPumped, IsServedBy, LetsSleep, Pumps, Submits}
use Rattle.proof_air.proofs.Pumps.{next_works}
use Rattle.proof_air.specs.world_model.Events.{Event, Host_does}
use Rattle.proof_transcript.proofs.PairedEvents.{Paired, PairedBy, StartsNext}

-- ---- the next node

module _ (nodes : List NodeState) (served n : ℕ) (state : NodeState) (within : n < length nodes) (work : has_work state ≡ true) where
  abbrev works : ℕ → Bool
  works k = has_work (node_among nodes k)

  abbrev works_now : ℕ → Bool
  works_now k = has_work (node_among (with_node_among nodes n state) k)

  here : works_now n ≡ true
  here = ap has_work (get_or-set_same nodes n state (unknown 0) within) ∙ work

  there : (k : ℕ) → (k ≡ n → ⊥) → works_now k ≡ works k
  there k other = ap has_work (get_or-set_other nodes n k state (unknown 0) other)

  still : (number : ℕ) → least_above works number ≡ Some n → least_above works_now number ≡ Some n
  still number e =
      let f = what_is_least works number n e in
      least_is_found works_now number n (omega (arith, f.from)) (omega (arith, f.from, f.to)) here
      (λ k above below. there k (λ same. omega (arith, same, below)) ∙ f.before k (omega (arith, above)) below)

  none_still : least_above works served ≡ None → least_above works 0 ≡ Some n → least_above works_now served ≡ None
  none_still none e =
      let f = what_is_least works 0 n e in
      let g = where_is_none works served none in
      no_least_is_found works_now served (λ k above below. elim (cases_eq k n) [
        | inl same ↦
            let no_work : works n ≡ false = g.all n (omega (arith, above, same)) (omega (arith, above, below, same)) in
            absurd (both (works n) f.is_one no_work)
        | inr other ↦ there k other ∙ g.all k (omega (arith, above)) (omega (arith, above, below))
      ])
    where
      both : (b : Bool) → b ≡ true → b ≡ false → ⊥
      both true is is_not = absurd cc
      both false is is_not = absurd cc

  next_still : next_of nodes served ≡ Some n → next_of (with_node_among nodes n state) served ≡ Some n
  next_still e = by (least_above works served) refl e
    where
      by : (o : Option ℕ) → least_above works served ≡ o → option_or o (least_above works 0) ≡ Some n → option_or (least_above works_now served) (least_above works_now 0) ≡ Some n
      by (Some k) is e = ap (λ (o : Option ℕ). option_or o (least_above works_now 0)) (still served (is ∙ e))
      by None is e = ap₂ (λ (a b : Option ℕ). option_or a b) (none_still is e) (still 0 e)

-- ---- who begins

no_work_past : (nodes : List NodeState) (n : ℕ) → length nodes ≤ n → has_work (node_among nodes n) ≡ true → ⊥
no_work_past nodes n past works = absurd (none (sym (ap has_work (get_or_past nodes n (unknown 0) past)) ∙ works))
  where
    none : false ≡ true → ⊥
    none e = cc

place_of : (nodes : List NodeState) (n : ℕ) → has_work (node_among nodes n) ≡ true → n < length nodes
place_of nodes n works = elim (cases_lt n (length nodes)) [
  | inl within ↦ within
  | inr past ↦ absurd (no_work_past nodes n past works)
]

gives_none : (h : HostState) (k n session command : ℕ) (text : Option (List ℕ)) → GivesNext h k text (Begins n session command) → ⊥
gives_none h k n session command (Some text) is = absurd cc
gives_none h k n session command None (payload, there_is, is) = absurd cc

served_is : (h : HostState) (k n session command : ℕ) (series : Series) → IsServedBy h k series (Begins n session command) → k ≡ n
served_is h k n session command Running is = absurd (gives_none h k n session command (node_of h k).text is)
served_is h k n session command Due (plan, more, payload, start, is) = absurd cc
served_is h k n session command Idle (inl is) = cc
served_is h k n session command Idle (inr is) = absurd cc

nodes_serve : (h : HostState) (n session command : ℕ) (next : Option ℕ) → IsNextOfNodes h next (Begins n session command) → next ≡ Some n
nodes_serve h n session command None is = absurd is
nodes_serve h n session command (Some k) is = ap Some (served_is h k n session command (node_of h k).series is)

begins_served : (h : HostState) (n session command : ℕ) (owes : Bool) (queue : List Task) → IsFree h → h.requests.owes ≡ owes → h.requests.queue ≡ queue → IsNextOf h owes queue (Begins n session command)
    → IsServed h n
begins_served h n session command true queue free paid waits is = absurd cc
begins_served h n session command false (task ∷ more) free paid waits is = absurd cc
begins_served h n session command false [] free paid waits is =
    record { free = free; paid = paid; no_task = waits; next = nodes_serve h n session command (next_of h.nodes h.served) is }

-- ---- what comes after

-- a node whose attempt is due is served by starting it
pub record StartsOf (n : ℕ) (event : HostEvent) : Type 0 where
  pub plan : Plan
  pub more : Bool
  pub payload : List ℕ
  pub is : event ≡ Starts n plan more payload

pub due_starts : (h : HostState) (n : ℕ) (event : HostEvent) → IsServed h n → (node_of h n).series ≡ Due → IsNext h event → StartsOf n event
due_starts h n event served due next =
    let a = subst (λ (owes : Bool). IsNextOf h owes h.requests.queue event) served.paid next.1 in
    let b = subst (λ (queue : List Task). IsNextOf h false queue event) served.no_task a in
    let c = subst (λ (o : Option ℕ). IsNextOfNodes h o event) served.next b in
    let (plan, more, payload, start, is) = subst (λ (s : Series). IsServedBy h n s event) due c in
    record { plan = plan; more = more; payload = payload; is = is }

started_next : (n : ℕ) (event : HostEvent) (rest : List Event) → StartsOf n event → StartsNext n (Host_does event ∷ rest)
started_next n event rest starts = subst (λ (e : HostEvent). StartsNext n (Host_does e ∷ rest)) (sym starts.is) refl

pub not_pumped : (h : HostState) (n : ℕ) → IsServed h n → IsPumped h → ⊥
not_pumped h n served (inl busy) = busy served.free
not_pumped h n served (inr nothing) = absurd (none (sym nothing.no_work ∙ served.next))
  where
    none : None ≡ Some n → ⊥
    none e = cc

then_starts : (h : HostState) (n : ℕ) (events : List HostEvent) → IsServed h n → (node_of h n).series ≡ Due → Submits h events → StartsNext n (map Host_does events)
then_starts h n [] served due submits = absurd (not_pumped h n served submits)
then_starts h n (event ∷ events) served due (next, more) = started_next n event (map Host_does events) (due_starts h n event served due next)

-- where a session of a node begins, that is the node that is served, and its attempt is due
pub record IsBegun (h : HostState) (n : ℕ) : Type 0 where
  pub served : IsServed h n
  pub due : (node_of h n).series ≡ Due

pub begun_so : (h : HostState) (n session command : ℕ) → IsNext h (Begins n session command) → IsBegun (after h (Begins n session command)) n
begun_so h n session command (free, next) =
    let served = begins_served h n session command h.requests.owes h.requests.queue free refl refl next in
    let within = place_of h.nodes n (next_works h.nodes h.served n served.next) in
    let begun = after_begin (node_of h n) in
    let now = after h (Begins n session command) in
    let due : (node_of now n).series ≡ Due = ap (λ (s : NodeState). s.series) (get_or-set_same h.nodes n begun (unknown 0) within) in
    let is : IsServed now n = record {
      free = record { none_under_way = free.none_under_way; free_line = free.free_line };
      paid = served.paid;
      no_task = served.no_task;
      next = next_still h.nodes h.served n begun within refl served.next;
    } in
    record { served = is; due = due }

following_begin : (h : HostState) (n session command : ℕ) (events : List HostEvent) → IsNext h (Begins n session command) → Submits (after h (Begins n session command)) events
    → StartsNext n (map Host_does events)
following_begin h n session command events next submits =
    let begun = begun_so h n session command next in then_starts (after h (Begins n session command)) n events begun.served begun.due submits

-- ---- the pump

next_paired : (h : HostState) (event : HostEvent) (events : List HostEvent) → IsNext h event → Submits (after h event) events → PairedBy event (map Host_does events)
next_paired h (Begins n session command) events next submits = following_begin h n session command events next submits
next_paired h event events next submits = tt

submits_paired : (h : HostState) (events : List HostEvent) → Submits h events → Paired (map Host_does events)
submits_paired h [] submits = tt
submits_paired h (event ∷ events) (next, more) = (next_paired h event events next more, submits_paired (after h event) events more)

sleep_by : (n : ℕ) (full : Bool) (rest : List Event) → PairedBy (if full then Drops_no_more n else Queues_no_more n) rest
sleep_by n true rest = tt
sleep_by n false rest = tt

sleep_paired : (h : HostState) (first rest : List HostEvent) → LetsSleep h first → Paired (map Host_does rest) → Paired (map Host_does (first ++ rest))
sleep_paired h [] rest lets later = later
sleep_paired h (event ∷ first) rest (n, wanting, is, more) later =
    (subst (λ (e : HostEvent). PairedBy e (map Host_does (first ++ rest))) (sym is) (sleep_by n (is_full h) (map Host_does (first ++ rest))), sleep_paired (after h event) first rest more later)

pub pump_paired : (h : HostState) (events : List HostEvent) → Pumps h events → Paired (map Host_does events)
pump_paired h events (first, rest, are, sleep, submits) =
    subst (λ (l : List HostEvent). Paired (map Host_does l)) (sym are) (sleep_paired h first rest sleep (submits_paired (after_all h first) rest submits))
