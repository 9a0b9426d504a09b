-- Bytes that the host takes, as an event of the machine.
use Rattle.std.proofs.Common.{◌≡◌, ℕ, ◌≤◌, false, List, [], ◌∷◌, ◌++◌, map, take, drop, length, refl, ap, sym, ◌∙◌, subst, append_assoc, arith}
use Rattle.std.specs.Prelude.{Option}
use Rattle.std.proofs.lemmas.List.{append-nil}
use Rattle.std.proofs.lemmas.List.{take-append-drop}
use Rattle.std.proofs.Math.Seq.{take-append_seam}
use Rattle.serial_frame.specs.Stream.{Rest, Feeds}
use Rattle.serial_frame.specs.declared.item.Item.{Item}
use Rattle.zw_text.specs.declared.entry.Entry.{Entry}
use Rattle.host_model.specs.State.{HostState, HostParts}
use Rattle.host_model.specs.Events.{HostEvent}
use Rattle.host_model.specs.Did.{MayAll as MayAllHost, after_all, outs_all, records_all, texts_of}
use Rattle.host_model.specs.Taking.{Fed, FedPrefix}
use Rattle.host_model.specs.declared.out.HostOut.{HostOut}
use Rattle.outside_model.specs.State.{Outside, OuterState, outside, is_stalled}
use Rattle.outside_model.specs.Events.{Host_takes as host_takes, happens as happens_outside, devices_after}
use Rattle.outside_model.specs.Did.{happens_all as happens_all_outside, entries_all as entries_all_outside, Goes}
use Rattle.world_model.specs.State.{Machine, routed, with_texts, host_entries}
use Rattle.world_model.specs.Events.{Event, Host_does, Host_takes, fed, happens, entries, May}
use Rattle.world_model.specs.Did.{Run, Schedule, Stops}
use Rattle.world_model.proofs.EventLists.{counted_one}
use Rattle.world_model.proofs.Hosting.{adds_is, routed_still, devices_host-all, records_host-all, may_host-all, all_of_host, stopped_by}

-- the host took bytes, and what it put out was routed
module _ (m : Machine) (count : ℕ) (parts : HostParts) (puts : List HostOut) (records : Option (List (List ℕ))) (f g : ℕ) (before all : List Entry)
    (moves : is_stalled m.outside.outer ≡ false)
    (fed_by : Fed m.host (take count m.outside.outer.to_host.bytes) parts [] puts (record { records = m.records; faults = f }) (record { records = records; faults = g })) where
  abbrev pub event : Event
  event = Host_takes count parts.decoder fed_by.items fed_by.events

  pub ran_takes : (mid o : OuterState) → Goes (host_takes count ∷ []) m.outside.outer mid [] [] → Goes (routed puts) mid o before all
      → Run (event ∷ []) (record { machine = m; entries = before; faults = f })
      (record { machine = record { keys = m.keys; host = parts; records = records; outside = outside o m.outside.devices }; entries = all; faults = g })
  unfolding happens entries May
  ran_takes mid o taken goes =
      let h = m.host.state in
      let es = fed_by.events in
      let took = taken m.outside.devices in
      let went = goes m.outside.devices in
      let there : outside mid m.outside.devices ≡ happens_outside m.outside (host_takes count) = took.state in
      let puts_are : puts ≡ outs_all h es = fed_by.did.outs in
      let kept : records ≡ with_texts m.records (texts_of (records_all h es)) = adds_is m.records records (texts_of (records_all h es)) fed_by.did.records in
      record {
        may = (record { moves = moves; feeds = fed_by.feeds; judged = fed_by.judged; may = fed_by.did.may }, tt);
        state = ap (λ (w : Outside). record { keys = m.keys; host = parts; records = records; outside = w }) went.state
            ∙ (ap (λ (l : List HostOut). record { keys = m.keys; host = parts; records = records; outside = happens_all_outside (outside mid m.outside.devices) (routed l) }) puts_are
            ∙ (ap (λ (s : HostState). record { keys = m.keys; host = record { decoder = parts.decoder; state = s }; records = records; outside = happens_all_outside (outside mid m.outside.devices) (routed (outs_all h es)) }) fed_by.did.state
            ∙ (ap (λ (r : Option (List (List ℕ))). record { keys = m.keys; host = record { decoder = parts.decoder; state = after_all h es }; records = r; outside = happens_all_outside (outside mid m.outside.devices) (routed (outs_all h es)) }) kept
            ∙ ap (λ (w : Outside). record { keys = m.keys; host = record { decoder = parts.decoder; state = after_all h es }; records = with_texts m.records (texts_of (records_all h es)); outside = happens_all_outside w (routed (outs_all h es)) }) there)));
        entries = went.entries
            ∙ (ap (λ (l : List HostOut). before ++ entries_all_outside (outside mid m.outside.devices) (routed l)) puts_are
            ∙ (ap (λ (w : Outside). before ++ entries_all_outside w (routed (outs_all h es))) there
            ∙ ap (λ (l : List Entry). before ++ l) (sym (append-nil (host_entries (fed m count parts.decoder) es)))));
        counted = counted_one event f g fed_by.did.rose fed_by.did.never_falls;
      }

-- the devices are as they were
taken_still : (m : Machine) (count : ℕ) (rest : Rest) (items : List Item) (es : List HostEvent) → (happens m (Host_takes count rest items es)).outside.devices ≡ m.outside.devices
unfolding happens devices_after
taken_still m count rest items es = routed_still (fed m count rest).outside (outs_all m.host.state es)

-- what it put out was not routed for lack of memory
pub stopped_takes : (Prefix : Schedule) (m new : Machine) (count : ℕ) (parts : HostParts) (puts : List HostOut) (records : Option (List (List ℕ))) (f g : ℕ) (before all : List Entry) → Prefix m []
    → is_stalled m.outside.outer ≡ false
    → Fed m.host (take count m.outside.outer.to_host.bytes) parts [] puts (record { records = m.records; faults = f }) (record { records = records; faults = g })
    → new.outside.devices ≡ m.outside.devices → new.records ≡ records → all ≡ before
    → Stops Prefix (record { machine = m; entries = before; faults = f }) (record { machine = new; entries = all; faults = g })
unfolding happens May
stopped_takes Prefix m new count parts puts records f g before all none moves fed_by devices kept same =
    stopped_by Prefix (Host_takes count parts.decoder fed_by.items fed_by.events ∷ []) m new before all f g none (tt, tt)
    (record { moves = moves; feeds = fed_by.feeds; judged = fed_by.judged; may = fed_by.did.may }, tt)
    (devices ∙ sym (taken_still m count parts.decoder fed_by.items fed_by.events))
    (kept ∙ adds_is m.records records (texts_of (records_all m.host.state fed_by.events)) fed_by.did.records) same fed_by.did.never_falls

-- the first bytes of a prefix
prefix_is : (count : ℕ) (bytes prefix left : List ℕ) → take count bytes ≡ prefix ++ left → take (length prefix) bytes ≡ prefix
prefix_is count bytes prefix left parts =
    ap (λ (l : List ℕ). take (length prefix) l)
    (sym (take-append-drop count bytes) ∙ (ap (λ (l : List ℕ). l ++ drop count bytes) parts ∙ append_assoc prefix left (drop count bytes)))
    ∙ take-append_seam prefix (left ++ drop count bytes)

-- it took a prefix of some bytes, and then memory ran out
pub stopped_prefix : (Prefix : Schedule) (m new : Machine) (count : ℕ) (parts : HostParts) (puts : List HostOut) (records : Option (List (List ℕ))) (f g : ℕ) (before all : List Entry) → Prefix m []
    → is_stalled m.outside.outer ≡ false
    → FedPrefix m.host (take count m.outside.outer.to_host.bytes) parts [] puts (record { records = m.records; faults = f }) (record { records = records; faults = g })
    → new.outside.devices ≡ m.outside.devices → new.records ≡ records → all ≡ before
    → Stops Prefix (record { machine = m; entries = before; faults = f }) (record { machine = new; entries = all; faults = g })
unfolding happens May
stopped_prefix Prefix m new count parts puts records f g before all none moves prefix devices kept same =
    let h = m.host.state in
    let es = prefix.fed.events in
    let n = length prefix.prefix in
    let e : Event = Host_takes n prefix.mid.decoder prefix.fed.items es in
    let there : prefix.mid.state ≡ after_all h es = prefix.fed.did.state in
    let some_kept : prefix.kept.records ≡ with_texts m.records (texts_of (records_all h es)) = adds_is m.records prefix.kept.records (texts_of (records_all h es)) prefix.fed.did.records in
    let feeds : Feeds m.host.decoder (take n m.outside.outer.to_host.bytes) prefix.mid.decoder prefix.fed.items =
    subst (λ (l : List ℕ). Feeds m.host.decoder l prefix.mid.decoder prefix.fed.items) (sym (prefix_is count m.outside.outer.to_host.bytes prefix.prefix prefix.left prefix.parts)) prefix.fed.feeds in
    stopped_by Prefix (e ∷ map Host_does prefix.begun) m new before all f g none (tt, all_of_host prefix.begun) (
      record { moves = moves; feeds = feeds; judged = prefix.fed.judged; may = prefix.fed.did.may },
      may_host-all (happens m e) prefix.begun (subst (λ (s : HostState). MayAllHost s prefix.begun) there prefix.did.may),
    )
    (devices ∙ (sym (taken_still m n prefix.mid.decoder prefix.fed.items es) ∙ sym (devices_host-all (happens m e) prefix.begun)))
    (kept
    ∙ (adds_is prefix.kept.records records (texts_of (records_all prefix.mid.state prefix.begun)) prefix.did.records
    ∙ (ap (λ (r : Option (List (List ℕ))). with_texts r (texts_of (records_all prefix.mid.state prefix.begun))) some_kept
    ∙ (ap (λ (s : HostState). with_texts (with_texts m.records (texts_of (records_all h es))) (texts_of (records_all s prefix.begun))) there
    ∙ sym (records_host-all (happens m e) prefix.begun)))))
    same (omega (arith, prefix.fed.did.never_falls, prefix.did.never_falls))
