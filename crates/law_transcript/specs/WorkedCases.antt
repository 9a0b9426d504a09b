-- Small worked transcripts, made by hand, each of which needs one case that a law allows.
use Rattle.std.specs.Prelude.{ℕ, List, [], ◌∷◌, ◌++◌, codes, replicate}
use Rattle.zw_base.specs.declared.property.Name.TheVariants as names
use Rattle.zw_words.specs.declared.side.Side.TheVariants.{Host, Chip}
use Rattle.zw_base.specs.declared.order.Order.{Order}
use Rattle.zw_base.specs.declared.order.Word.TheVariants.{On, Level}
use Rattle.zw_base.specs.declared.order.What.TheVariants.{Value, Mode, Bulk, Associate}
use Rattle.host_orders.specs.Settings.{setting}
use Rattle.device_sim.specs.device_kinds.declared.kind.Kind.TheVariants as kinds
use Rattle.device_sim.specs.device_stack.State.{State, fresh}
use Rattle.zw_text.specs.declared.entry.Ended.{Ended}
use Rattle.zw_text.specs.declared.entry.Refusal.TheVariants as refusals
use Rattle.zw_text.specs.declared.entry.Entry.{Entry}
use Rattle.zw_text.specs.declared.entry.Entry.TheVariants.{Said, Accepted, Refused, Begin, Written, Garbled, Air, Heard, Lost, Out, Report, Interviewed, Time}
use Rattle.law_transcript.specs.Worked.{bytes}

-- ---- sessions and outcomes

-- a command whose session has ended so
abbrev pub ended_so : Ended → List Entry
ended_so ended = Said (codes "set 2 on") ∷ Accepted 1 2 ∷ Begin 2 1 1 ∷ Out 1 ended ∷ []

-- and then the next session begins
abbrev pub then_begins : Ended → List Entry
then_begins ended = ended_so ended ++ Said (codes "set 2 off") ∷ Accepted 2 2 ∷ Begin 2 2 2 ∷ []

-- two nodes have their first sessions
abbrev pub of_two_nodes : List Entry
of_two_nodes = Accepted 1 2 ∷ Begin 2 1 1 ∷ Accepted 2 3 ∷ Begin 3 1 2 ∷ []

-- ---- lines

-- the keeper fails when a command is to be taken back
abbrev pub cancel_unkept : List Entry
cancel_unkept =
    Said (codes "set 2 on") ∷ Accepted 1 2 ∷ Said (codes "cancel 1") ∷ Refused refusals.KeeperFault ∷ []

-- nodes join, the later of them first
abbrev pub joined_backwards : List Entry
joined_backwards = Said (codes "join 5") ∷ Time 1 ∷ Said (codes "join 3") ∷ []

-- two values of a switch are reported, the later of them first
abbrev pub reported_backwards : List Entry
reported_backwards = Report 2 (setting 0 names.Level 40) ∷ Report 2 (setting 0 names.Switch 255) ∷ []

-- orders: a switch is to be on, the mode of a switch is to be 40, a level of a relay, a node is to join a group of the switch, so many values
abbrev pub turn_on : Order
turn_on = record { node = 2; end = 0; what = Value On }

abbrev pub mode_order : Order
mode_order = record { node = 2; end = 0; what = Mode 40 }

abbrev pub level_order : Order
level_order = record { node = 3; end = 0; what = Value (Level 40) }

abbrev pub group_order : Order
group_order = record { node = 2; end = 0; what = Associate 1 5 }

abbrev pub bulk_order : ℕ → Order
bulk_order count = record { node = 8; end = 0; what = Bulk 0 (replicate count 0) }

-- every node lists these classes
abbrev pub all_list : List ℕ → List Entry → ℕ → List ℕ
all_list classes past node = classes

-- a switch at a node, and a dimmer at node 2, which is taken for a switch at first
abbrev pub switch_at : ℕ → State
switch_at node = fresh node kinds.Switch []

abbrev pub the_dimmer : State
the_dimmer = fresh 2 kinds.Dimmer []

-- ---- frames

-- a frame is heard again, and then a tick passes
abbrev pub repeated_on : List Entry
repeated_on =
    Air 1 2 1 [] (bytes (codes "2503FF")) ∷ Time 1 ∷ Heard 1 ∷ Said (codes "repeat 1") ∷ Heard 1 ∷ Said (codes "tick 1") ∷ Time 2 ∷ []

-- a marked frame is lost, and heard when it is repeated
abbrev pub lost_repeated : List Entry
lost_repeated =
    Said (codes "lose 1") ∷ Air 1 2 1 [] (bytes (codes "2503FF")) ∷ Said (codes "tick 1") ∷ Time 1 ∷ Lost 1 ∷ Said (codes "repeat 1") ∷ Heard 1 ∷ []

-- a unit is changed on its way, and its frame is what arrived
abbrev pub aired_as_changed : List Entry
aired_as_changed =
    Written Host (bytes (codes "010A001302032501FF250118")) ∷ Garbled Host (bytes (codes "010A001302032501002501E7")) ∷
    Air 1 1 2 [] (bytes (codes "250100")) ∷ []

-- ---- what the host sends and enters

-- a line asks for a Set, or a Get, and it is sent
abbrev pub set_asked : List Entry
set_asked = Said (codes "send 2 on") ∷ Written Host (bytes (codes "010A001302032501FF250118")) ∷ []

abbrev pub get_asked : List Entry
get_asked = Said (codes "get 2") ∷ Written Host (bytes (codes "01090013020225022501E6")) ∷ []

-- a command of a dimmer is accepted while it is taken for a switch, and is sent as one for a switch when it is known
abbrev pub sent_by_old_list : List Entry
sent_by_old_list =
    Said (codes "set 2 on") ∷ Accepted 1 2 ∷ Interviewed 2 ∷ Begin 2 1 1 ∷
    Written Host (bytes (codes "010E001302076C0101032501FF250177")) ∷ []

-- and so is a Set for which a line asked then
abbrev pub set_by_old_list : List Entry
set_by_old_list = Said (codes "send 2 on") ∷ Interviewed 2 ∷ Written Host (bytes (codes "010A001302032501FF250118")) ∷ []

-- a lock asks for a nonce three times, and is given one, the same again, and the next
abbrev pub nonce_asked : Entry
nonce_asked = Written Chip (bytes (codes "0108000400040298402D"))

abbrev pub nonces_counted : List Entry
nonces_counted =
    nonce_asked ∷ Written Host (bytes (codes "01110013040A9880019E0A1249BB594F2501AC")) ∷ nonce_asked ∷
    Written Host (bytes (codes "01110013040A9880019E0A1249BB594F2502AF")) ∷ nonce_asked ∷
    Written Host (bytes (codes "01110013040A988002010203040506072503CF")) ∷ []

-- a Nonce Get with a check, and one with a byte after it, are answered too
abbrev pub nonces_wrapped : List Entry
nonces_wrapped =
    Written Chip (bytes (codes "010C000400040656019840B204CC")) ∷ Written Host (bytes (codes "01110013040A988001B8E0ADA0F13D902501C7")) ∷
    Written Chip (bytes (codes "010900040004039840AA87")) ∷ Written Host (bytes (codes "01110013040A988001B8E0ADA0F13D902502C4")) ∷ []

-- a lock asks in a message that it sealed for a nonce of before, and is given the next
abbrev pub nonce_asked_sealed : List Entry
nonce_asked_sealed =
    Written Chip (bytes (codes "011C000400041698810AED115731C616E72CE92B013E42AD30FFC01180EB")) ∷
    Written Host (bytes (codes "01110013040A988002010203040506072501CD")) ∷ []

-- it gives a nonce of its own so, and a message is sealed for that
abbrev pub nonce_given_sealed : List Entry
nonce_given_sealed =
    Written Chip (bytes (codes "010C004984040604000062986CAE")) ∷ Interviewed 4 ∷ Said (codes "set 4 on") ∷ Accepted 1 4 ∷ Begin 4 1 1 ∷
    Written Chip (bytes (codes "0124000400041E98810AED115731C616E72CE9EB45AD9CB0FAB0FE53010E62D1A391DF66E0A1")) ∷
    Written Host (bytes (codes "01220013041B98816B71E54E0F8EE3186CCEA9D132AB2C95018A573A88D6BE287E25018D")) ∷ []
