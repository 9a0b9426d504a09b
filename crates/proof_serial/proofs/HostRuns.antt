-- The host writes well in every run, restarts or not.
use Rattle.std.proofs.Common.{◌≡◌, ℕ, zero, suc, ◌+◌, false, true, List, [], ◌∷◌, ◌++◌, length, map, take, drop, replicate, refl, sym, subst, arith}
use Rattle.std.specs.Prelude.{Option, Some, None, IsSome}
use Rattle.std.specs.List.{AllByRecursion}
use Rattle.zw_base.proofs.Each.{all-append}
use Rattle.s0_crypto.specs.declared.key_pair.Keys.{Keys}
use Rattle.s0_session.specs.Nonces.{unused, restored_account}
use Rattle.serial_frame.specs.Items.{IsUnit}
use Rattle.world_model.specs.host_node.State.{NodeState}
use Rattle.world_model.specs.host_node.Steps.{after_restart}
use Rattle.world_model.specs.host_node.Events.NodeEvent.{Joins, Interviews, Begins as node_begins, Cancels as node_cancels, Reports as node_reports, Restores_seen, Restarts as node_restarts}
use Rattle.world_model.specs.host_node.TableState.{unknown_from, unknown_nodes, nodes_after}
use Rattle.supervision.specs.Session.{wire_id}
use Rattle.supervision.specs.Host.{command_at as command_of_session}
use Rattle.world_model.specs.host_keep.Legal.{AreTextsOf, AreLegal}
use Rattle.world_model.specs.host_keep.Status.{status_byte}
use Rattle.world_model.specs.host_keep.Rows.{IsRecord}
use Rattle.world_model.specs.host_keep.declared.final_status.FinalStatus.{FinalStatus}
use Rattle.world_model.specs.host_keep.declared.record.Record.{Record}
use Rattle.world_model.specs.host_keep.declared.record.Record.TheVariants.{Accepted, Joined, Classes, Begun, Final, Cancelled, Given, Spent, Seen}
use Rattle.world_model.specs.host_model.Restoring.{restored, ending}
use Rattle.world_model.specs.host_model.Opening.{restored_all, restarting, opened}
use Rattle.world_model.specs.host_model.State.{HostState, node_of, first_host, first_nodes, first_classes}
use Rattle.world_model.specs.host_model.After.{after, node_does, finishing, node_for}
use Rattle.world_model.specs.host_model.Outs.{outs}
use Rattle.world_model.specs.host_model.May.{May as MayHost}
use Rattle.world_model.specs.host_model.Did.{MayAll as MayAllHost, after_all, outs_all}
use Rattle.world_model.specs.host_model.Events.{HostEvent}
use Rattle.world_model.specs.host_model.Facts.{HostFacts}
use Rattle.world_model.specs.host_model.declared.out.HostOut.{HostOut}
use Rattle.world_model.specs.host_model.declared.out.HostOut.TheVariants.{Write, Note}
use Rattle.world_model.specs.State.{Machine}
use Rattle.world_model.specs.Events.{Event, Outside_does, Host_does, Host_takes, Decoder_ticks, Refuses, Shows_values, Restarts, OpensFrom, happens, May}
use Rattle.world_model.specs.Did.{MayAll}
use Rattle.proof_serial.specs.Line.{host_units, WritesWell, AllWriteWell}
use Rattle.proof_serial.specs.Host.{HasShortText, HasShortNonce, HostFits, FitsEvent, AsksWell, AllAskWell}
use Rattle.proof_serial.proofs.Texts.{event_short}
use Rattle.proof_serial.proofs.HostFits.{nodes_short, accepts_short, refit, does_fits, nonce_set, spending_fits, StartsShort, SegmentsShort, event_fits, event_units}

-- ---- at first

unknown_short : (number count : ℕ) → AllByRecursion HasShortText (unknown_from number count)
unknown_short number zero = tt
unknown_short number (suc more) = (tt, unknown_short (suc number) more)

all_unknown_short : AllByRecursion HasShortText unknown_nodes
unfolding unknown_nodes
all_unknown_short = (tt, unknown_short 1 232)

first_short : AllByRecursion HasShortText first_nodes
unfolding first_nodes
first_short = nodes_short (nodes_after unknown_nodes 2 Joins) 2 (Interviews true first_classes) (nodes_short unknown_nodes 2 Joins all_unknown_short tt) tt

unused_short : (count : ℕ) → AllByRecursion HasShortNonce (replicate count unused)
unused_short zero = tt
unused_short (suc count) = (tt, unused_short count)

pub first_fits : (keys : Keys) → HostFits (first_host keys)
first_fits keys = record { turn = tt; queue = tt; texts = first_short; nonces = unused_short 233 }

-- ---- a host that starts from records

ending_fits : (h : HostState) (n session : ℕ) (status : FinalStatus) (command : Option ℕ) → HostFits h → HostFits (ending h n session status command)
ending_fits h n session status None fits = fits
ending_fits h n session status (Some command) fits =
    refit (node_does h n (node_reports (wire_id session) (status_byte status))) (finishing h n (wire_id session) command status) refl refl refl refl (does_fits h n (node_reports (wire_id session) (status_byte status)) fits tt)

one_restored : (h : HostState) (one : Record) → HostFits h → IsRecord one → HostFits (restored h one)
one_restored h (Accepted command order) fits is = record { turn = fits.turn; queue = fits.queue; texts = accepts_short h.nodes order.node (length h.commands + 1) fits.texts; nonces = fits.nonces }
one_restored h (Joined n) fits is = does_fits h n Joins fits tt
one_restored h (Classes n listens classes) fits is = does_fits h n (Interviews listens classes) fits tt
one_restored h (Begun n session command) fits is = refit (node_does h n node_begins) _ refl refl refl refl (does_fits h n node_begins fits tt)
one_restored h (Final n session status) fits is = ending_fits h n session status (command_of_session (node_of h n).book.commands session) fits
one_restored h (Cancelled command) fits is =
    refit (node_does h (node_for h command) (node_cancels command)) _ refl refl refl refl (does_fits h (node_for h command) (node_cancels command) fits tt)
one_restored h (Given n given nonce) fits is = nonce_set h n (restored_account given (Some nonce)) fits (omega (arith, is.2))
one_restored h (Spent n) fits is = spending_fits h n fits
one_restored h (Seen n seen) fits is = does_fits h n (Restores_seen seen) fits tt

all_restored : (h : HostState) (records : List Record) → HostFits h → AllByRecursion IsRecord records → HostFits (restored_all h records)
unfolding restored_all
all_restored h [] fits all = fits
all_restored h (one ∷ more) fits all = all_restored (restored h one) more (one_restored h one fits all.0) all.1

all-take : {A : Type 0} (P : A → Type 0) (count : ℕ) (xs : List A) → AllByRecursion P xs → AllByRecursion P (take count xs)
all-take P zero xs all = tt
all-take P (suc count) [] all = tt
all-take P (suc count) (x ∷ xs) all = (all.0, all-take P count xs all.1)

all-drop : {A : Type 0} (P : A → Type 0) (count : ℕ) (xs : List A) → AllByRecursion P xs → AllByRecursion P (drop count xs)
all-drop P zero xs all = all
all-drop P (suc count) [] all = tt
all-drop P (suc count) (x ∷ xs) all = all-drop P count xs all.1

restarts_short : (nodes : List NodeState) → AllByRecursion HasShortText nodes → AllByRecursion HasShortText (map after_restart nodes)
restarts_short [] all = tt
restarts_short (n ∷ nodes) all = (event_short n node_restarts all.0 tt, restarts_short nodes all.1)

restarting_short : (nodes : List NodeState) → AllByRecursion HasShortText nodes → AllByRecursion HasShortText (restarting nodes)
unfolding restarting
restarting_short nodes all =
    all-append HasShortText (take 1 nodes) (map after_restart (drop 1 nodes)) (all-take HasShortText 1 nodes all) (restarts_short (drop 1 nodes) (all-drop HasShortText 1 nodes all))

pub opened_fits : (keys : Keys) (records : List Record) → AllByRecursion IsRecord records → HostFits (opened keys records)
opened_fits keys records all =
    let fits = all_restored (first_host keys) records (first_fits keys) all in
    record { turn = fits.turn; queue = fits.queue; texts = restarting_short (restored_all (first_host keys) records).nodes fits.texts; nonces = fits.nonces }

pub in_range : (records : List Record) (texts : List (List ℕ)) → AreTextsOf records texts → AllByRecursion IsRecord records
in_range [] [] are = tt
in_range [] (t ∷ texts) are = absurd are
in_range (one ∷ records) [] are = absurd are
in_range (one ∷ records) (t ∷ texts) are = (are.0.in_range, in_range records texts are.1)

-- ---- events of the machine

units_both : (a b : List HostOut) → AllByRecursion IsUnit (host_units a) → AllByRecursion IsUnit (host_units b) → AllByRecursion IsUnit (host_units (a ++ b))
units_both [] b first later = later
units_both (Write u ∷ a) b first later = (first.0, units_both a b first.1 later)
units_both (Note e ∷ a) b first later = units_both a b first later

-- the host keeps its facts, and what it has to write is short
pub record IsFit (h : HostState) : Type 0 where
  pub facts : HostFacts h
  pub fits : HostFits h

abbrev pub FactsKept : Type 0
FactsKept = (h : HostState) (event : HostEvent) → HostFacts h → MayHost h event → HostFacts (after h event)

abbrev pub OpenedFacts : Type 0
OpenedFacts = (keys : Keys) (records : List Record) → AreLegal records → HostFacts (opened keys records)

module _ (starts : StartsShort) (segments : SegmentsShort) (kept : FactsKept) (opened_facts : OpenedFacts) where
  host_fit : (h : HostState) (event : HostEvent) → IsFit h → MayHost h event → FitsEvent event → IsFit (after h event)
  host_fit h event fit may is = record { facts = kept h event fit.facts may; fits = event_fits starts segments h event fit.facts fit.fits may is }

  hosts_fit : (h : HostState) (events : List HostEvent) → IsFit h → MayAllHost h events → AllByRecursion FitsEvent events → IsFit (after_all h events)
  hosts_fit h [] fit may is = fit
  hosts_fit h (event ∷ events) fit may is = hosts_fit (after h event) events (host_fit h event fit may.0 is.0) may.1 is.1

  hosts_units : (h : HostState) (events : List HostEvent) → IsFit h → MayAllHost h events → AllByRecursion FitsEvent events → AllByRecursion IsUnit (host_units (outs_all h events))
  hosts_units h [] fit may is = tt
  hosts_units h (event ∷ events) fit may is =
      units_both (outs h event) (outs_all (after h event) events) (event_units starts segments h event fit.facts fit.fits may.0)
      (hosts_units (after h event) events (host_fit h event fit may.0 is.0) may.1 is.1)

  opens_fit : (keys : Keys) (records : Option (List (List ℕ))) (state : HostState) → OpensFrom keys records state → IsSome records → IsFit state
  opens_fit keys None state opens some = let bad : false ≡ true = some in absurd cc
  opens_fit keys (Some texts) state (records, are, legal, is) some =
      subst IsFit (sym is) (record { facts = opened_facts keys records legal; fits = opened_fits keys records (in_range records texts are) })

  pub event_writes : (m : Machine) (event : Event) → IsFit m.host.state → May m event → AsksWell m event → WritesWell m event × IsFit (happens m event).host.state
  unfolding happens May
  event_writes m (Outside_does event) fit may asks = (tt, fit)
  event_writes m (Host_does event) fit may asks = (hosts_units m.host.state (event ∷ []) fit may (asks, tt), host_fit m.host.state event fit may.0 asks)
  event_writes m (Host_takes count rest items events) fit may asks = (hosts_units m.host.state events fit may.may asks, hosts_fit m.host.state events fit may.may asks)
  event_writes m Decoder_ticks fit may asks = (tt, fit)
  event_writes m (Refuses line refusal) fit may asks = (tt, fit)
  event_writes m (Shows_values node) fit may asks = (tt, fit)
  event_writes m (Restarts state) fit may asks = (tt, opens_fit m.keys m.records state may asks)

  pub events_write : (m : Machine) (events : List Event) → IsFit m.host.state → MayAll m events → AllAskWell m events → AllWriteWell m events
  events_write m [] fit may asks = tt
  events_write m (event ∷ events) fit may asks =
      let one = event_writes m event fit may.0 asks.0 in
      (one.0, events_write (happens m event) events one.1 may.1 asks.1)
