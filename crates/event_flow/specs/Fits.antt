-- Entries of events whose numbers are in the ranges that their types keep.
use Rattle.zw_text.specs.Fits.{AreBytes, IsByte, IsEight, IsNode}
use Rattle.event_flow.specs.declared.entry.EventRefusal.{EventRefusal}
use Rattle.event_flow.specs.declared.entry.EventRefusal.TheVariants.{Full, Idle, NeverSent, Stale}
use Rattle.event_flow.specs.declared.entry.EventEntry.{EventEntry}
use Rattle.event_flow.specs.declared.entry.EventEntry.TheVariants.{Refused, Queued, Frame, Taken, Known, Old, TableNode}

-- the number of a refusal has eight bytes
abbrev pub RefusalFits : EventRefusal → Type 0
RefusalFits (Full unknown) = IsEight unknown
RefusalFits Idle = Unit {0}
RefusalFits NeverSent = Unit {0}
RefusalFits (Stale later) = IsEight later

-- nodes are nodes, types, levels and ids are bytes, and counts have eight bytes
abbrev pub EventFits : EventEntry → Type 0
EventFits (Refused refusal) = RefusalFits refusal
EventFits (Queued node number) = IsNode node × IsEight number
EventFits (Frame frame sender receiver payload) = IsEight frame × IsNode sender × IsNode receiver × AreBytes payload
EventFits (Taken node kind level) = IsNode node × IsByte kind × IsByte level
EventFits (Known node number) = IsNode node × IsEight number
EventFits (Old node id) = IsNode node × IsByte id
EventFits (TableNode node queued taken known) = IsNode node × IsEight queued × IsEight taken × IsEight known
