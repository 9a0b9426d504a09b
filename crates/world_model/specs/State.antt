-- The machine of the simulator: the host, what its keeper holds, and what is outside it, with the devices (this project's own model).
use Rattle.std.specs.Prelude.{ℕ, List, [], ◌∷◌, ◌++◌, Option, Some, None}
use Rattle.std.specs.List.{flat_map}
use Rattle.serial_frame.specs.Stream.{no_rest}
use Rattle.s0_crypto.specs.declared.key_pair.Keys.{Keys}
use Rattle.zw_text.specs.declared.entry.Entry.{Entry}
use Rattle.zw_text.specs.declared.entry.Entry.TheVariants.{Begin}
use Rattle.host_model.specs.State.{HostParts, first_host}
use Rattle.host_model.specs.Events.{HostEvent}
use Rattle.host_model.specs.Did.{after_all, outs_all, records_all, texts_of}
use Rattle.host_model.specs.declared.out.HostOut.{HostOut}
use Rattle.host_model.specs.declared.out.HostOut.TheVariants.{Write, Note}
use Rattle.outside_model.specs.Devices.{State}
use Rattle.outside_model.specs.State.{OuterState, Outside, outside, first_outer}
use Rattle.outside_model.specs.Events.{OuterEvent, Host_writes, Host_notes, Host_begins}
use Rattle.outside_model.specs.Did.{happens_all, entries_all}

-- the keys are those of the network; the records are what the keeper holds, where it tells that
pub record Machine : Type 0 where
  pub keys : Keys
  pub host : HostParts
  pub records : Option (List (List ℕ))
  pub outside : Outside

abbrev pub machine : Keys → HostParts → OuterState → Option (List (List ℕ)) → List State → Machine
machine keys host outer records devices = record { keys = keys; host = host; records = records; outside = outside outer devices }

-- the machine with other things outside it
abbrev pub with_outside : Machine → Outside → Machine
with_outside m w = record m { outside = w }

-- at first, with these devices and records
abbrev pub first_machine : Keys → Option (List (List ℕ)) → List State → Machine
first_machine keys records devices = machine keys (record { decoder = no_rest; state = first_host keys }) first_outer records devices

-- ---- what the host puts out

-- the session that an entry says has begun, and its node
abbrev pub begun_in : Entry → Option (ℕ × ℕ)
begun_in (Begin node session command) = Some (node, session)
begun_in entry = None

-- an entry of the host is entered; where a session has begun, the air learns of it first
abbrev pub noted_by : Option (ℕ × ℕ) → Entry → List OuterEvent
noted_by None entry = Host_notes entry ∷ []
noted_by (Some begun) entry = Host_begins begun.0 begun.1 ∷ Host_notes entry ∷ []

-- a unit is written to the line
abbrev pub routed_one : HostOut → List OuterEvent
routed_one (Write unit) = Host_writes unit ∷ []
routed_one (Note entry) = noted_by (begun_in entry) entry

abbrev pub routed : List HostOut → List OuterEvent
routed outs = flat_map routed_one outs

-- ---- what the keeper holds

-- these texts were added, where it tells its records
abbrev pub with_texts : Option (List (List ℕ)) → List (List ℕ) → Option (List (List ℕ))
with_texts None texts = None
with_texts (Some records) texts = Some (records ++ texts)

-- ---- events of the host

-- the host after events, with their records kept; what it puts out goes where it belongs
abbrev pub host_does : Machine → List HostEvent → Machine
host_does m events = record {
  keys = m.keys;
  host = record { decoder = m.host.decoder; state = after_all m.host.state events };
  records = with_texts m.records (texts_of (records_all m.host.state events));
  outside = happens_all m.outside (routed (outs_all m.host.state events));
}

-- the entries of that
abbrev pub host_entries : Machine → List HostEvent → List Entry
host_entries m events = entries_all m.outside (routed (outs_all m.host.state events))
