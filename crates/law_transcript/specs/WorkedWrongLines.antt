-- Lines that pass though they are to be refused, or are refused otherwise than they may be, and the heard values of lines that follow.
use Rattle.std.specs.Prelude.{ℕ, zero, suc, ◌*◌, ◌/◌, ◌%◌, List, [], ◌∷◌, ◌++◌, map, replicate, codes}
use Rattle.std.specs.List.{range_with_len}
use Rattle.device_sim.specs.device_kinds.declared.kind.Kind.TheVariants as kinds
use Rattle.device_sim.specs.device_stack.State.{State, fresh}
use Rattle.zw_base.specs.declared.property.Name.TheVariants as names
use Rattle.host_orders.specs.Settings.{setting}
use Rattle.zw_text.specs.declared.entry.Refusal.{Refusal}
use Rattle.zw_text.specs.declared.entry.Refusal.TheVariants as refusals
use Rattle.zw_text.specs.declared.entry.Entry.{Entry}
use Rattle.zw_text.specs.declared.entry.Entry.TheVariants.{Said, Accepted, Refused, Begin, Interviewed, InterviewFailed, Report, Time}

-- a line passes
abbrev pub passes : List ℕ → List Entry
passes words = Said words ∷ Time 1 ∷ []

-- a line is refused so
abbrev pub refused_so : List ℕ → Refusal → List Entry
refused_so words refusal = Said words ∷ Refused refusal ∷ []

-- an order is let in as the first
abbrev pub lets_in : List ℕ → ℕ → List Entry
lets_in words node = Said words ∷ Accepted 1 node ∷ []

-- node 3 has joined, and was not interviewed, and then
abbrev pub when_joined : List Entry → List Entry
when_joined rest = Said (codes "join 3") ∷ rest

-- it was interviewed, and has not joined, and then
abbrev pub when_interviewed : List Entry → List Entry
when_interviewed rest = Interviewed 3 ∷ rest

-- it has joined, and its interview failed, and then
abbrev pub when_failed : List Entry → List Entry
when_failed rest = Said (codes "join 3") ∷ InterviewFailed 3 ∷ rest

-- it was interviewed, and a line by which it was to join was refused, and then
abbrev pub when_refused : List Entry → List Entry
when_refused rest = Said (codes "join 3") ∷ Refused refusals.KeeperFault ∷ Interviewed 3 ∷ rest

-- a node has joined and was interviewed, and then
abbrev pub when_known : List ℕ → ℕ → List Entry → List Entry
when_known join node rest = Said join ∷ Interviewed node ∷ rest

-- a switch without Supervision
abbrev pub the_relay : State
the_relay = fresh 3 kinds.Relay []

-- `bulk 8 0 ..`: so many values, each of which is 0
abbrev pub bulk_of : ℕ → List ℕ
bulk_of count = codes "bulk 8 0 " ++ replicate (2 * count) 48

-- so many values of the switch are reported, each of another property
abbrev pub many_reported : ℕ → List Entry
many_reported count = map (λ place. Report 2 (setting (place / 256) (names.Config (place % 256)) 0)) (range_with_len 0 count)

-- so many of these orders for a node are let in, from this number on, and none begins
abbrev pub wait_from : List ℕ → ℕ → ℕ → ℕ → List Entry
wait_from words node number zero = []
wait_from words node number (suc count) = Said words ∷ Accepted number node ∷ wait_from words node (suc number) count

-- a value is reported, and then another
abbrev pub reported_twice : List Entry
reported_twice = Report 2 (setting 0 names.Switch 255) ∷ Report 2 (setting 0 names.Switch 0) ∷ []

-- the host restarts then, or is to and the keeper fails
abbrev pub reported_before_restart : List Entry
reported_before_restart = reported_twice ++ Said (codes "restart") ∷ Time 1 ∷ []

abbrev pub reported_before_fault : List Entry
reported_before_fault = reported_twice ++ Said (codes "restart") ∷ Refused refusals.KeeperFault ∷ []

-- a command has begun, and the line that is to take it back passes
abbrev pub cancel_passes : List Entry
cancel_passes = Said (codes "set 2 on") ∷ Accepted 1 2 ∷ Begin 2 1 1 ∷ passes (codes "cancel 1")
