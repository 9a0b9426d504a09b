-- While no attempt of a lock alone runs, nothing is on its way between it and the host, from phase to phase, and nothing waits at the host to be submitted.
use Rattle.std.proofs.Common.{◌≡◌, ◌≢◌, ◌<◌, ℕ, zero, suc, Bool, true, false, List, [], ◌∷◌, length, refl, sym, ap, ◌∙◌, subst, arith}
use Rattle.std.specs.Prelude.{Some}
use Rattle.std.specs.List.{AllByRecursion}
use Rattle.zw_text.specs.declared.line.Line.{Line}
use Rattle.serial_frame.specs.Frame.{FrameParts}
use Rattle.chip_functions.specs.Field.{IsNode}
use Rattle.chip_sim.specs.Nodes.{is_marked}
use Rattle.host_node.specs.Search.{next_of}
use Rattle.host_node.specs.declared.series.Series.TheVariants as series
use Rattle.host_model.specs.After.{after}
use Rattle.host_model.specs.Events.{HostEvent, Gives_segment, Gives_text, Starts}
use Rattle.host_model.specs.Facts.{HostFacts}
use Rattle.host_model.specs.May.{May as MayHost}
use Rattle.host_model.specs.Pumping.{IsNext}
use Rattle.host_model.specs.State.{node_of}
use Rattle.host_model.proofs.Submitted.{SubmittedAre, next_is}
use Rattle.world_model.specs.Events.{Event, Host_does, May, happens}
use Rattle.world_model.specs.State.{Machine}
use Rattle.proof_messages.specs.Reporting.{TellsPlainly}
use Rattle.proof_answered.specs.proof_calm.proof_work.proof_walk.Phases.{Phase, Between, Said_line, Doing, To_tick, Arriving, Giving, Ticking_devices, Ticking_chip, Ticking_decoder, Ticking_host, Sleeping, Submitting, Moving, Moved, Goes, Turns}
use Rattle.proof_answered.specs.proof_calm.Awaited.{AwaitsAt}
use Rattle.proof_answered.specs.proof_calm.Resting.{LineAt}
use Rattle.proof_answered.specs.proof_calm.Tied.{on_line, unheard}
use Rattle.proof_answered.specs.Sleepers.{IsAlone}
use Rattle.proof_answered.specs.Workers.{AllFrom, IsFromSaying}
use Rattle.proof_answered.proofs.Calm.{does_calm}
use Rattle.proof_answered.proofs.Unheard.{all_piled, does_says}
use Rattle.proof_answered.proofs.proof_traffic_Parts.{Airs}
use Rattle.proof_in_time.specs.Coming.{brings}
use Rattle.proof_in_time.specs.Exchanging.{RestsSealed}
use Rattle.proof_in_time.specs.Exchange.{BringsNone, IsSilentIn, NoneFly, NoneGo, NoneTold}
use Rattle.proof_in_time.proofs.ExchangeKept.{turn_leaves}
use Rattle.proof_in_time.proofs.ExchangeOwed.{AroundSealed}
use Rattle.proof_in_time.proofs.ExchangeWays.{none_on}
use Rattle.proof_in_time.proofs.InTurn.{GoesByItself, no_part}
use Rattle.proof_in_time.proofs.Queued.{queue_where}
use Rattle.proof_in_time.proofs.Served.{IsPartOf}

-- frames of these that bring none of the one there is bring nothing
none_says : (these : List Bool) (n : ℕ) → IsAlone these n → (frames : List FrameParts) → AllFrom these frames → NoneTold n frames → AllByRecursion (IsFromSaying these TellsPlainly) frames
none_says these n alone [] from none = tt
none_says these n alone (frame ∷ frames) from none = (
  λ k payload e. let own : k ≡ n = alone.only k (from.0 k payload e) in absurd (none.0 payload (e ∙ ap (λ (j : ℕ). brings j payload) own)),
  none_says these n alone frames from.1 none.1,
)

module _ (airs : Airs) (these : List Bool) (many : length these ≡ 233) (n : ℕ) (alone : IsAlone these n) (is_node : IsNode n) where
  within : n < 233
  within = let few = is_node.1 in omega (arith, few)

  -- ---- what the host submits is no request

  module _ (m : Machine) (facts : HostFacts m.host.state) (paid : m.host.state.requests.owes ≡ false) (empty : m.host.state.requests.queue ≡ []) (workers : (k : ℕ) → next_of m.host.state.nodes m.host.state.served ≡ Some k → is_marked these k ≡ true)
      (rests : (node_of m.host.state n).series ≢ series.Running) where
    abbrev IsNone : HostEvent → Type 0
    IsNone e = MayHost m.host.state e → (node_of (after m.host.state e) n).series ≢ series.Running → (after m.host.state e).side.turn ≡ m.host.state.side.turn

    own_part : (k : ℕ) (e : HostEvent) → IsPartOf e k → next_of m.host.state.nodes m.host.state.served ≡ Some k → IsNone e
    own_part k e part next_so may later = absurd (no_part n within m.host.state e facts may (subst (IsPartOf e) (alone.only k (workers k next_so)) part) rests later)

    each : SubmittedAre IsNone
    each = record {
      abort = λ may later. absurd (let wrong : false ≡ true = sym paid ∙ may.1 in cc);
      front = λ may later. absurd (may.2 empty);
      starts = λ k plan more payload may later. own_part k (Starts k plan more payload) refl may.0.next may later;
      text = λ k payload may later. own_part k (Gives_text k payload) refl may.0.next may later;
      segment = λ k more payload may later. own_part k (Gives_segment k more payload) refl may.0.next may later;
      begins = λ k session command may later. refl;
      unkept = λ k may later. refl;
    }

    submits_silent : (e : HostEvent) → IsNext m.host.state e → MayHost m.host.state e → (node_of (after m.host.state e) n).series ≢ series.Running → (after m.host.state e).side.turn ≡ m.host.state.side.turn
    submits_silent e next_so may later = next_is IsNone each m.host.state e next_so may later

  does_silent : (m : Machine) (e : HostEvent) → (after m.host.state e).side.turn ≡ m.host.state.side.turn → on_line m.host.state.side.turn ≡ [] → on_line (happens m (Host_does e)).host.state.side.turn ≡ []
  unfolding happens
  does_silent m e same silent = ap on_line same ∙ silent

  pub does_none : (m : Machine) (e : HostEvent) → NoneGo n m → NoneGo n (happens m (Host_does e))
  does_none m e none = record {
    flies = subst (NoneFly n) (sym (does_calm airs m e).on) none.flies;
    told = does_says (BringsNone n) (NoneTold n) (all_piled (BringsNone n)) airs m e none.told;
  }

  does_rests : (m : Machine) (e : HostEvent) → (node_of (happens m (Host_does e)).host.state n).series ≢ series.Running → (node_of (after m.host.state e) n).series ≢ series.Running
  unfolding happens
  does_rests m e rests = rests

  may_host : (m : Machine) (e : HostEvent) → May m (Host_does e) → MayHost m.host.state e
  unfolding May
  may_host m e may = may.0

  -- ---- at an event

  silent_is : (next to : Phase) (m : Machine) (event : Event) → next ≡ to → IsSilentIn to (happens m event) → IsSilentIn next (happens m event)
  silent_is next to m event same silent = subst (λ (q : Phase). IsSilentIn q (happens m event)) (sym same) silent

  -- but where the host submits, none leads to where it may have a request on its way to the chip
  pub silent_on : (here next : Phase) (m : Machine) (event : Event) → Goes here m event next → GoesByItself here → IsSilentIn next (happens m event)
  silent_on (Said_line line) next m event (is, to) itself = silent_is next _ m event to tt
  silent_on (Doing line (first ∷ others)) next m event (is, to) itself = silent_is next _ m event to tt
  silent_on (To_tick (suc ticks)) next m event (is, to) itself = silent_is next _ m event to tt
  silent_on (Arriving (suc frames) ticks) next m event (drawn, route, is, to) itself = silent_is next _ m event to tt
  silent_on (Giving (suc results) ticks) next m event (route, is, to) itself = silent_is next _ m event to tt
  silent_on (Ticking_devices place (suc count) ticks) next m event (drawn, route, is, to) itself = silent_is next _ m event to tt
  silent_on (Ticking_chip ticks) next m event (is, to) itself = silent_is next _ m event to tt
  silent_on (Ticking_decoder ticks) next m event (is, to) itself = silent_is next _ m event to tt
  silent_on (Ticking_host (first ∷ events) ticks) next m event (is, to) itself = silent_is next _ m event to tt
  silent_on (Sleeping passes ticks) next m event (k, wants, is, to) itself = silent_is next _ m event to tt
  silent_on (Submitting passes ticks) next m event goes itself = absurd itself
  silent_on (Moving passes ticks) next m event (rest, ways, is, to) itself = silent_is next _ m event to tt
  silent_on (Moved moved passes ticks) next m event (rest, items, done, is, to) itself = silent_is next _ m event to tt
  silent_on here next m event goes itself = absurd goes

  empty_on : (here next : Phase) (m : Machine) (event : Event) → Goes here m event next → AroundSealed these n here next m event → RestsSealed n here m → (happens m event).host.state.requests.queue ≡ []
  empty_on here next m event goes a r =
      queue_where airs these here next m event goes a.lock.may a.lock.line a.lock.tie (none_says these n alone (unheard m.outside.outer) a.lock.speak.pending r.none.told) a.wants r.no_task

  by_itself : (here next : Phase) (m : Machine) (event : Event) → Goes here m event next → GoesByItself here → AroundSealed these n here next m event → (node_of (happens m event).host.state n).series ≢ series.Running → RestsSealed n here m
      → RestsSealed n next (happens m event)
  by_itself here next m event goes itself a rests r = record {
    rests = rests;
    no_task = empty_on here next m event goes a r;
    none = (none_on airs these many n alone is_node here next m event goes itself a.lock r.silent r.none).0;
    silent = silent_on here next m event goes itself;
  }

  -- the host submits something that is no request
  submitted : (passes ticks : ℕ) (next : Phase) (m : Machine) (event : Event) (asked : HostEvent) → IsNext m.host.state asked → event ≡ Host_does asked → next ≡ Submitting passes ticks → Goes (Submitting passes ticks) m event next
      → AroundSealed these n (Submitting passes ticks) next m event → (node_of (happens m event).host.state n).series ≢ series.Running → RestsSealed n (Submitting passes ticks) m → RestsSealed n next (happens m event)
  submitted passes ticks next m event asked next_so is to goes a rests r =
      let may : MayHost m.host.state asked = may_host m asked (subst (May m) is a.lock.may) in
      let later : (node_of (after m.host.state asked) n).series ≢ series.Running = does_rests m asked (subst (λ (e : Event). (node_of (happens m e).host.state n).series ≢ series.Running) is rests) in
      let side = submits_silent m a.lock.peopled.facts a.lock.tie.paid r.no_task a.workers r.rests asked next_so may later in
      record {
        rests = rests;
        no_task = empty_on (Submitting passes ticks) next m event goes a r;
        none = subst (λ (e : Event). NoneGo n (happens m e)) (sym is) (does_none m asked r.none);
        silent = silent_is next (Submitting passes ticks) m event to (subst (λ (e : Event). on_line (happens m e).host.state.side.turn ≡ []) (sym is) (does_silent m asked side r.silent));
      }

  pub rests_on : (here next : Phase) (m : Machine) (event : Event) → Goes here m event next → AroundSealed these n here next m event → (node_of (happens m event).host.state n).series ≢ series.Running → RestsSealed n here m → RestsSealed n next (happens m event)
  rests_on (Submitting passes ticks) next m event (asked, next_so, is, to) a rests r = submitted passes ticks next m event asked next_so is to (asked, next_so, is, to) a rests r
  rests_on here next m event goes a rests r = by_itself here next m event goes tt a rests r

  -- ---- and with no event

  silent_turn : (here next : Phase) (m : Machine) → Turns here m next → AwaitsAt here m → LineAt here m → IsSilentIn here m → IsSilentIn next m
  silent_turn (Submitting zero ticks) next m (pumped, same) awaits line_at silent = subst (λ (q : Phase). IsSilentIn q m) (sym same) tt
  silent_turn here next m turns awaits line_at silent = (turn_leaves airs these many n alone is_node 1 here next m turns awaits line_at tt).silent silent

  pub rests_turn : (here next : Phase) (m : Machine) → Turns here m next → AwaitsAt here m → LineAt here m → RestsSealed n here m → RestsSealed n next m
  rests_turn here next m turns awaits line_at r = record { rests = r.rests; no_task = r.no_task; none = r.none; silent = silent_turn here next m turns awaits line_at r.silent }

  pub rests_said : (line : Line) (m : Machine) → RestsSealed n Between m → RestsSealed n (Said_line line) m
  rests_said line m r = record { rests = r.rests; no_task = r.no_task; none = r.none; silent = tt }
