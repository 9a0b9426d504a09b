-- Over the events of a host, and of the machine.
use Rattle.std.proofs.Common.{◌≡◌, ℕ, true, false, List, [], ◌∷◌, Option, Some, None, refl, sym, subst}
use Rattle.std.specs.Prelude.{IsSome}
use Rattle.std.specs.List.{AllByRecursion}
use Rattle.s0_crypto.specs.declared.key_pair.Keys.{Keys}
use Rattle.proof_host.specs.device_sim.State.{State}
use Rattle.proof_host.specs.host_model.State.{HostState}
use Rattle.proof_host.specs.host_model.Events.{HostEvent}
use Rattle.proof_host.specs.host_model.After.{after}
use Rattle.proof_host.specs.host_model.Did.{MayAll as MayAllHost, after_all, records_all, texts_of}
use Rattle.proof_device.specs.world_model.State.{Machine, with_texts, first_machine}
use Rattle.proof_device.specs.world_model.Events.{Event, Outside_does, Host_does, Host_takes, Decoder_ticks, Refuses, Shows_values, Restarts, OpensFrom, happens, May}
use Rattle.proof_device.specs.world_model.Did.{MayAll}
use Rattle.proof_host.specs.host_model.Recording.{AllOfJoined}
use Rattle.proof_world.specs.Restarts.{KeepsWell, AllKeepWell}
use Rattle.proof_serial.specs.Host.{FitsEvent, AsksWell as LineAsksWell, AllAskWell}
use Rattle.proof_world.specs.Lines.{AsksWell, AllAsked}
use Rattle.proof_world.specs.Asking.{HostAsks}
use Rattle.proof_world.proofs.Always.{IsInOrder, AlwaysInOrder, asked_in_order}
use Rattle.proof_world.proofs.Heard.{all_judged_in_order}
use Rattle.proof_world.proofs.Hosts.{of_joined, event_fits, event_asks}
use Rattle.proof_world.proofs.FirstHosts.{first_asks, opened_asks}

-- ---- events of a host

abbrev HostsInOrder : HostState → List HostEvent → Type 0
HostsInOrder h [] = Unit {0}
HostsInOrder h (event ∷ events) = IsInOrder h event × HostsInOrder (after h event) events

always_in_order : (h : HostState) (events : List HostEvent) → AllByRecursion AlwaysInOrder events → HostsInOrder h events
always_in_order h [] all = tt
always_in_order h (event ∷ events) all = (all.0 h, always_in_order (after h event) events all.1)

-- what is asked for and sealed fits, and interviews are of nodes that are joined
record HostsFit (h : HostState) (events : List HostEvent) : Type 0 where
  fits : AllByRecursion FitsEvent events
  joined : AllOfJoined h events
  asks : HostAsks (after_all h events)

hosts_fit : (h : HostState) (events : List HostEvent) → HostAsks h → MayAllHost h events → HostsInOrder h events → HostsFit h events
hosts_fit h [] asks may order = record { fits = tt; joined = tt; asks = asks }
hosts_fit h (event ∷ events) asks may order =
    let more = hosts_fit (after h event) events (event_asks h event asks may.0 order.0) may.1 order.1 in
    record { fits = (event_fits h event asks may.0 order.0, more.fits); joined = (of_joined h event asks may.0, more.joined); asks = more.asks }

-- ---- events of the machine

-- the host knows of what it was asked, and its keeper tells its records
pub record Asks (m : Machine) : Type 0 where
  pub host : HostAsks m.host.state
  pub told : IsSome m.records

record AsksOn (m : Machine) (event : Event) : Type 0 where
  well : LineAsksWell m event
  keeps : KeepsWell m event
  asks : Asks (happens m event)

pub still_told : (records : Option (List (List ℕ))) (texts : List (List ℕ)) → IsSome records → IsSome (with_texts records texts)
still_told None texts told = let bad : false ≡ true = told in absurd cc
still_told (Some before) texts told = refl

pub opens_asks : (keys : Keys) (records : Option (List (List ℕ))) (state : HostState) → IsSome records → OpensFrom keys records state → HostAsks state
opens_asks keys None state told opens = let bad : false ≡ true = told in absurd cc
opens_asks keys (Some texts) state told (records, are, legal, is) = subst HostAsks (sym is) (opened_asks keys records)

asks_on : (m : Machine) (event : Event) → Asks m → May m event → AsksWell m event → AsksOn m event
unfolding happens May
asks_on m (Outside_does event) asks may asked = record { well = tt; keeps = tt; asks = record { host = asks.host; told = asks.told } }
asks_on m (Host_does event) asks may asked =
    let h = m.host.state in
    let fit = hosts_fit h (event ∷ []) asks.host may (asked_in_order h event asked, tt) in
    record { well = fit.fits.0; keeps = fit.joined.0; asks = record { host = fit.asks; told = still_told m.records (texts_of (records_all h (event ∷ []))) asks.told } }
asks_on m (Host_takes count rest items events) asks may asked =
    let h = m.host.state in
    let fit = hosts_fit h events asks.host may.may (always_in_order h events (all_judged_in_order h items events may.judged)) in
    record { well = fit.fits; keeps = fit.joined; asks = record { host = fit.asks; told = still_told m.records (texts_of (records_all h events)) asks.told } }
asks_on m Decoder_ticks asks may asked = record { well = tt; keeps = tt; asks = record { host = asks.host; told = asks.told } }
asks_on m (Refuses line refusal) asks may asked = record { well = tt; keeps = tt; asks = record { host = asks.host; told = asks.told } }
asks_on m (Shows_values node) asks may asked = record { well = tt; keeps = tt; asks = record { host = asks.host; told = asks.told } }
asks_on m (Restarts state) asks may asked =
    record { well = asks.told; keeps = asks.told; asks = record { host = opens_asks m.keys m.records state asks.told may; told = asks.told } }

pub all_ask : (m : Machine) (events : List Event) → Asks m → MayAll m events → AllAsked m events → AllKeepWell m events × AllAskWell m events
all_ask m [] asks may asked = (tt, tt)
all_ask m (event ∷ events) asks may asked =
    let one = asks_on m event asks may.0 asked.0 in
    let more = all_ask (happens m event) events one.asks may.1 asked.1 in ((one.keeps, more.0), (one.well, more.1))

-- ---- at first

pub first_machine_asks : (keys : Keys) (devices : List State) → Asks (first_machine keys (Some []) devices)
first_machine_asks keys devices = record { host = first_asks keys; told = refl }
