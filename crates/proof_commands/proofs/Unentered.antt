-- What was done and not entered: an event outside the host leaves the host, and what the host did leaves the devices.
use Rattle.std.proofs.Common.{◌≡◌, ℕ, List, [], ◌∷◌, ◌++◌, refl, ap, sym, ◌∙◌, subst, append_assoc}
use Rattle.std.specs.Prelude.{Option, Some, None}
use Rattle.std.specs.List.{AllByRecursion}
use Rattle.serial_frame.specs.Stream.{Rest}
use Rattle.serial_frame.specs.declared.item.Item.{Item}
use Rattle.zw_text.specs.declared.line.Line.{Line}
use Rattle.host_model.specs.Events.{HostEvent}
use Rattle.host_model.specs.Did.{outs_all}
use Rattle.outside_model.specs.Events.{OuterEvent, devices_after}
use Rattle.run_lines.specs.Lines.{TextLine}
use Rattle.world_model.specs.State.{Machine}
use Rattle.world_model.specs.Events.{Event, Outside_does, Host_does, Host_takes, Decoder_ticks, Refuses, Shows_values, Restarts, fed, happens}
use Rattle.world_model.specs.Did.{happens_all, MayAll, last_of, IsOfHost}
use Rattle.world_model.proofs.EventLists.{happens_all-append}
use Rattle.world_model.proofs.Hosting.{devices_host-all, routed_still}
use Rattle.proof_commands.specs.Laws.{Ran, events_of, lines_of, with_last, IsUnentered}
use Rattle.proof_audit.proofs.BegunChanges.{may-front as may_prefix}

-- ---- the devices

takes_still : (m : Machine) (count : ℕ) (rest : Rest) (items : List Item) (events : List HostEvent) → (happens m (Host_takes count rest items events)).outside.devices ≡ m.outside.devices
unfolding happens devices_after
takes_still m count rest items events = routed_still (fed m count rest).outside (outs_all m.host.state events)

one_still : (m : Machine) (event : Event) → IsOfHost event → (happens m event).outside.devices ≡ m.outside.devices
unfolding happens devices_after
one_still m (Outside_does event) of_host = absurd of_host
one_still m (Host_does event) of_host = devices_host-all m (event ∷ [])
one_still m (Host_takes count rest items events) of_host = takes_still m count rest items events
one_still m Decoder_ticks of_host = refl
one_still m (Refuses line refusal) of_host = refl
one_still m (Shows_values node) of_host = refl
one_still m (Restarts state) of_host = refl

all_still : (m : Machine) (events : List Event) → AllByRecursion IsOfHost events → (happens_all m events).outside.devices ≡ m.outside.devices
all_still m [] all = refl
all_still m (event ∷ events) all = all_still (happens m event) events all.1 ∙ one_still m event all.0

-- ---- the host

last_still : (m : Machine) (last : Option OuterEvent) → (happens_all m (last_of last)).host.state ≡ m.host.state
unfolding happens
last_still m None = refl
last_still m (Some event) = refl

-- ---- a story, and what was not entered after it

pub same_lines : (last : Option OuterEvent) (story : List Ran) → lines_of (with_last last story) ≡ lines_of story
same_lines last [] = refl
same_lines last (ran ∷ []) = refl
same_lines last (ran ∷ (next ∷ more)) = ap (λ (l : List (TextLine Line)). ran.line ∷ l) (same_lines last (next ∷ more))

module _ (m : Machine) (story : List Ran) (unentered : List Event) (u : IsUnentered m story unentered) where
  -- the events of the story, then the last one, then those of the host
  are : events_of story ++ unentered ≡ events_of (with_last u.last story) ++ u.kept
  are = ap (λ (l : List Event). events_of story ++ l) u.are ∙ (sym (append_assoc (events_of story) (last_of u.last) u.kept) ∙ ap (λ (l : List Event). l ++ u.kept) (sym u.adds))

  pub further_may : MayAll m (events_of story ++ unentered) → MayAll m (events_of (with_last u.last story))
  further_may may = may_prefix m (events_of (with_last u.last story)) u.kept (subst (λ (l : List Event). MayAll m l) are may)

  pub further_devices : (happens_all m (events_of story ++ unentered)).outside.devices ≡ (happens_all m (events_of (with_last u.last story))).outside.devices
  further_devices =
      ap (λ (l : List Event). (happens_all m l).outside.devices) are
      ∙ (ap (λ (x : Machine). x.outside.devices) (happens_all-append m (events_of (with_last u.last story)) u.kept)
      ∙ all_still (happens_all m (events_of (with_last u.last story))) u.kept u.of_host)

  pub further_host : (happens_all m (events_of (with_last u.last story))).host.state ≡ (happens_all m (events_of story)).host.state
  further_host =
      ap (λ (l : List Event). (happens_all m l).host.state) u.adds
      ∙ (ap (λ (x : Machine). x.host.state) (happens_all-append m (events_of story) (last_of u.last)) ∙ last_still (happens_all m (events_of story)) u.last)
