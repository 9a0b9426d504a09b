-- What the loops of a host's calls did so far.
use Rattle.std.proofs.Common.{◌≡◌, ℕ, ◌<◌, ◌≤◌, List, [], ◌∷◌, ◌++◌, map, refl, ap, sym, ◌∙◌, subst, arith}
use Rattle.std.specs.Prelude.{Bool, true, false, Some}
use Rattle.host_node.specs.State.{needs_tick}
use Rattle.host_node.specs.Search.{ticking_above}
use Rattle.host_node.specs.TableState.{node_of as node_among}
use Rattle.host_node.proofs.Searches.{what_is_least}
use Rattle.host_model.specs.State.{HostState, HostParts}
use Rattle.host_model.specs.Events.{HostEvent, Line_ticks, Requests_do, Node_ticks, Queues_no_more, Drops_no_more}
use Rattle.host_requests.specs.Events.RequestsEvent.{Ticks as request_ticks}
use Rattle.host_node.specs.declared.attempt.Moment.TheVariants.{BeforeItsTick}
use Rattle.host_model.specs.May.{May}
use Rattle.host_model.specs.Records.{records_at}
use Rattle.host_model.specs.After.{after, is_full}
use Rattle.host_model.specs.Outs.{outs}
use Rattle.host_keep.specs.Keeping.{Shelf}
use Rattle.host_model.specs.Did.{after_all, is_unkept}
use Rattle.host_model.specs.Pumping.{no_more_event, LetsSome, LetsSleep}
use Rattle.host_model.specs.Ticking.{first_ticks, tick_events, ticking_nodes, TickedTo}
use Rattle.host_model.specs.declared.out.HostOut.{HostOut}
use Rattle.host_model.proofs.EventLists.{after_all-append}
use Rattle.host_step_bytes.specs.Calls.{scene, Does, Stops, DoesAlone, StopsAlone, Are}
use Rattle.host_step_bytes.proofs.CallLists.{nothing_alone, one_alone, alone_then, does_as}

-- ---- ticks of nodes

-- the nodes up to a number have been ticked, by these events
pub record TicksSoFar (first : HostState) (before : List HostOut) (now : HostState) (all : List HostOut) (last : ℕ) : Type 0 where
  pub events : List HostEvent
  pub ticked : TickedTo first now last events
  pub did : DoesAlone (Are events) first before now all
  pub low : last ≤ 232

pub none_so_far : (h : HostState) (outs : List HostOut) → TickedTo h h 0 [] → TicksSoFar h outs h outs 0
none_so_far h outs none = record { events = []; ticked = none; did = nothing_alone (Are []) h h outs outs refl refl refl; low = omega arith }

-- these events and then those are both
pub are_both : (a b x y : List HostEvent) → x ≡ a → y ≡ b → x ++ y ≡ a ++ b
are_both a b x y first later = ap (λ (l : List HostEvent). l ++ y) first ∙ ap (λ (l : List HostEvent). a ++ l) later

-- the node that is ticked next is above the last one, is one of the nodes, and has a wait
pub record IsTickedNext (now : HostState) (last n : ℕ) : Type 0 where
  pub above : last < n
  pub within : n ≤ 232
  pub may : May now (Node_ticks n)

pub ticked_next : (now : HostState) (last n : ℕ) → ticking_above now.nodes last ≡ Some n → IsTickedNext now last n
ticked_next now last n found =
    let f = what_is_least (λ m. needs_tick (node_among now.nodes m)) last n found in
    record { above = omega (arith, f.from); within = omega (arith, f.from, f.to); may = f.is_one }

-- one more node is ticked
pub one_more_so_far : (first : HostState) (before : List HostOut) (now : HostState) (all : List HostOut) (last n : ℕ) (new : HostState) (more : List HostOut) (so_far : TicksSoFar first before now all last)
    → TickedTo first (after now (Node_ticks n)) n (so_far.events ++ Node_ticks n ∷ []) → ticking_above now.nodes last ≡ Some n → new ≡ after now (Node_ticks n) → more ≡ all ++ outs now (Node_ticks n) → TicksSoFar first before new more n
one_more_so_far first before now all last n new more so_far ticked found host put =
    let next = ticked_next now last n found in
    record {
      events = so_far.events ++ Node_ticks n ∷ [];
      ticked = subst (λ (h : HostState). TickedTo first h n (so_far.events ++ Node_ticks n ∷ [])) (sym host) ticked;
      did = alone_then (Are so_far.events) (Are (Node_ticks n ∷ [])) (Are (so_far.events ++ Node_ticks n ∷ [])) first now new before all more so_far.did
          (one_alone (Are (Node_ticks n ∷ [])) (Node_ticks n) now new all more refl next.may refl refl host put)
          (λ (x : List HostEvent) (y : List HostEvent) state a b. are_both so_far.events (Node_ticks n ∷ []) x y a b);
      low = next.within;
    }

pub all_so_far : (first : HostState) (before : List HostOut) (now : HostState) (all : List HostOut) (last : ℕ) (so_far : TicksSoFar first before now all last) → so_far.events ≡ map Node_ticks (ticking_nodes first)
    → DoesAlone (Are (map Node_ticks (ticking_nodes first))) first before now all
all_so_far first before now all last so_far are =
    subst (λ (l : List HostEvent). DoesAlone (Are l) first before now all) are so_far.did

-- ---- nodes that are let sleep

pub record SleepsSoFar (first : HostState) (before : List HostOut) (now : HostState) (all : List HostOut) : Type 0 where
  pub events : List HostEvent
  pub lets : LetsSome first events
  pub did : DoesAlone (Are events) first before now all
  pub state : now ≡ after_all first events

pub none_sleeps : (h : HostState) (outs : List HostOut) → SleepsSoFar h outs h outs
none_sleeps h outs = record { events = []; lets = tt; did = nothing_alone (Are []) h h outs outs refl refl refl; state = refl }

-- no record is kept of it
no_more_alone : (full : Bool) (h : HostState) (n : ℕ) (new : HostState) (before all : List HostOut) → is_full h ≡ full → May h (no_more_event h n) → new ≡ after h (no_more_event h n)
    → all ≡ before ++ outs h (no_more_event h n) → DoesAlone (Are (no_more_event h n ∷ [])) h before new all
no_more_alone true h n new before all full may host put =
    let e : no_more_event h n ≡ Drops_no_more n = rw full refl in
    one_alone (Are (no_more_event h n ∷ [])) (no_more_event h n) h new before all refl may (ap (λ (x : HostEvent). records_at h x) e) (ap (λ (x : HostEvent). is_unkept x) e) host put
no_more_alone false h n new before all full may host put =
    let e : no_more_event h n ≡ Queues_no_more n = rw full refl in
    one_alone (Are (no_more_event h n ∷ [])) (no_more_event h n) h new before all refl may (ap (λ (x : HostEvent). records_at h x) e) (ap (λ (x : HostEvent). is_unkept x) e) host put

-- one more is
pub one_more_sleeps : (first : HostState) (before : List HostOut) (now : HostState) (all : List HostOut) (n : ℕ) (new : HostState) (more : List HostOut) (so_far : SleepsSoFar first before now all)
    → LetsSome first (so_far.events ++ no_more_event (after_all first so_far.events) n ∷ []) → May now (no_more_event now n) → new ≡ after now (no_more_event now n) → more ≡ all ++ outs now (no_more_event now n) → SleepsSoFar first before new more
one_more_sleeps first before now all n new more so_far lets may host put =
    let e : HostEvent = no_more_event now n in
    record {
      events = so_far.events ++ e ∷ [];
      lets = subst (λ (h : HostState). LetsSome first (so_far.events ++ no_more_event h n ∷ [])) (sym so_far.state) lets;
      did = alone_then (Are so_far.events) (Are (e ∷ [])) (Are (so_far.events ++ e ∷ [])) first now new before all more so_far.did
          (no_more_alone (is_full now) now n new all more refl may host put)
          (λ (x : List HostEvent) (y : List HostEvent) state a b. are_both so_far.events (e ∷ []) x y a b);
      state = host ∙ ap (λ (h : HostState). after h e) so_far.state ∙ sym (after_all-append first so_far.events (e ∷ []));
    }

pub all_sleep : (first : HostState) (before : List HostOut) (now : HostState) (all : List HostOut) (so_far : SleepsSoFar first before now all) → LetsSleep first so_far.events
    → DoesAlone (LetsSleep first) first before now all
all_sleep first before now all so_far done =
    λ shelf. does_as (Are so_far.events) (LetsSleep first) (scene first before shelf) (scene now all shelf) (so_far.did shelf)
    (λ (events : List HostEvent) same. subst (λ (l : List HostEvent). LetsSleep first l) (sym same) done)

-- ---- a whole tick

pub line_alone : (h line : HostState) (before some : List HostOut) → line ≡ after h Line_ticks → some ≡ before ++ outs h Line_ticks → DoesAlone (Are (Line_ticks ∷ [])) h before line some
line_alone h line before some line_is some_is = one_alone (Are (Line_ticks ∷ [])) Line_ticks h line before some refl tt refl refl line_is some_is

pub first_two : (h line request : HostState) (before some more : List HostOut) → line ≡ after h Line_ticks → some ≡ before ++ outs h Line_ticks
    → request ≡ after line (Requests_do request_ticks BeforeItsTick) → more ≡ some ++ outs line (Requests_do request_ticks BeforeItsTick) → DoesAlone (Are first_ticks) h before request more
first_two h line request before some more line_is some_is request_is more_is =
    let e : HostEvent = Requests_do request_ticks BeforeItsTick in
    alone_then (Are (Line_ticks ∷ [])) (Are (e ∷ [])) (Are first_ticks) h line request before some more (line_alone h line before some line_is some_is)
    (one_alone (Are (e ∷ [])) e line request some more refl tt refl refl request_is more_is)
    (λ (x : List HostEvent) (y : List HostEvent) state a b. are_both (Line_ticks ∷ []) (e ∷ []) x y a b)

pub whole_tick : (h line request new : HostState) (before some more all : List HostOut) → line ≡ after h Line_ticks → some ≡ before ++ outs h Line_ticks
    → request ≡ after line (Requests_do request_ticks BeforeItsTick) → more ≡ some ++ outs line (Requests_do request_ticks BeforeItsTick)
    → DoesAlone (Are (map Node_ticks (ticking_nodes request))) request more new all → DoesAlone (Are (tick_events h)) h before new all
whole_tick h line request new before some more all line_is some_is request_is more_is nodes =
    alone_then (Are first_ticks) (Are (map Node_ticks (ticking_nodes request))) (Are (tick_events h)) h request new before more all
    (first_two h line request before some more line_is some_is request_is more_is) nodes
    (λ (x : List HostEvent) (y : List HostEvent) state a b.
    are_both first_ticks (map Node_ticks (ticking_nodes (after_all h first_ticks))) x y a
    (b ∙ ap (λ (s : HostState). map Node_ticks (ticking_nodes s)) (request_is ∙ ap (λ (s : HostState). after s (Requests_do request_ticks BeforeItsTick)) line_is)))

-- the host that is ticked is the one that is seen
pub tick_seen : (inside now new : HostParts) (before all : List HostOut) (shelf : Shelf) → inside ≡ now → DoesAlone (Are (tick_events inside.state)) inside.state before new.state all
    → Does (Are (tick_events now.state)) (scene now.state before shelf) (scene new.state all shelf)
tick_seen inside now new before all shelf same does = subst (λ (h : HostParts). Does (Are (tick_events h.state)) (scene h.state before shelf) (scene new.state all shelf)) same (does shelf)

pub tick_stops_seen : (inside now new : HostParts) (before all : List HostOut) (shelf : Shelf) → inside ≡ now → StopsAlone inside.state before new.state all → Stops (scene now.state before shelf) (scene new.state all shelf)
tick_stops_seen inside now new before all shelf same stops = subst (λ (h : HostParts). Stops (scene h.state before shelf) (scene new.state all shelf)) same (stops shelf)
