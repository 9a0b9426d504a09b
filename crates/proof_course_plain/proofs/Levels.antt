-- Only a level takes time, and its report asks for the end to be told.
use Rattle.std.proofs.Common.{◌≡◌, ℕ, Bool, true, false, if◌then◌else◌, List, [], ◌∷◌, refl, sym, ap, ◌∙◌, subst}
use Rattle.std.specs.Prelude.{◌&&◌, ◌||◌, ◌==◌, not, nat_le, nat_lt, length, Result, Ok, Err}
use Rattle.zw_base.specs.declared.property.Name.{Name}
use Rattle.zw_base.specs.declared.property.Name.TheVariants as names
use Rattle.zw_base.specs.declared.property.Property.{Property}
use Rattle.zw_base.specs.declared.property.Setting.{Setting}
use Rattle.zw_base.specs.declared.order.What.{What}
use Rattle.zw_base.specs.declared.order.What.TheVariants as what
use Rattle.zw_base.specs.declared.order.Order.{Order}
use Rattle.class_core.specs.declared.fault.ClassFault.{ClassFault}
use Rattle.class_core.specs.declared.message.CoreMessage.{CoreMessage}
use Rattle.class_core.specs.declared.message.CoreMessage.TheVariants.{SwitchBinarySet, SwitchMultilevelSet, ThermostatModeSet, ThermostatSetpointSet, DoorLockOperationSet, ConfigurationSet, ConfigurationBulkSet, AssociationSet, AssociationRemove, WakeUpIntervalSet}
use Rattle.class_info.specs.declared.message.InfoMessage.{InfoMessage}
use Rattle.class_info.specs.declared.message.InfoMessage.TheVariants.{Core}
use Rattle.class_info.specs.InfoReading.{info_at}
use Rattle.host_orders.specs.Messages.{commands_of, is_batch, takes_time}
use Rattle.host_orders.specs.Settings.{settings, settings_by}
use Rattle.host_orders.specs.declared.actuator.Actuator.{Actuator}
use Rattle.host_orders.specs.declared.actuator.Actuator.TheVariants.{Binary, Multilevel, Lock}
use Rattle.host_orders.specs.declared.carriage.Carriage.{Carriage}
use Rattle.device_kinds.specs.declared.kind.Kind.{Kind}
use Rattle.device_kinds.specs.declared.verdict.Verdict.{Verdict}
use Rattle.device_kinds.specs.declared.verdict.Verdict.TheVariants.{NoSupport, Fails, Makes, Works}
use Rattle.device_kinds.specs.Kind.{lists, has_end}
use Rattle.device_kinds.specs.Values.{value_by}
use Rattle.device_kinds.specs.Settings.{merged}
use Rattle.device_kinds.specs.Judging.{judged, judged_all, judged_members, judged_message, judged_set, member_count, memberships, where_inside}
use Rattle.device_stack.specs.State.{State, value_of, last_level_of}
use Rattle.proof_once.specs.proof_messages.Asking.{MakesOnly, verdict_on}

-- ---- what takes time sets a level first

-- the name of the first setting
abbrev first_name : List Setting → Name
first_name [] = names.Switch
first_name (one ∷ more) = one.property.name

abbrev pub SetsLevel : Kind → Verdict → Type 0
SetsLevel kind (Works made) = (first_name made ≡ names.Level) × (lists kind 0x26 ≡ true)
SetsLevel kind (Makes made) = Unit {0}
SetsLevel kind Fails = Unit {0}
SetsLevel kind NoSupport = Unit {0}

listed_sets : (kind : Kind) (b : Bool) (verdict : Verdict) → SetsLevel kind verdict → SetsLevel kind (if b then verdict else NoSupport)
listed_sets kind true verdict is = is
listed_sets kind false verdict is = tt

inside_sets : (kind : Kind) (b : Bool) (made : List Setting) → SetsLevel kind (where_inside b made)
inside_sets kind true made = tt
inside_sets kind false made = tt

level_sets : (kind : Kind) (b : Bool) (made : List Setting) → lists kind 0x26 ≡ b → first_name made ≡ names.Level → SetsLevel kind (if b then Works made else NoSupport)
level_sets kind true made is level = (level, is)
level_sets kind false made is level = tt

members_set : (kind : Kind) (values : Property → ℕ) (end value group : ℕ) (nodes : List ℕ) → SetsLevel kind (judged_members values end value group nodes)
unfolding judged_members
members_set kind values end value group nodes =
    inside_sets kind ((group == 1) && nat_lt 0 (length nodes) && nat_le (member_count values (memberships end value nodes) end) 5) (memberships end value nodes)

set_sets : (kind : Kind) (values : Property → ℕ) (last end : ℕ) (message : CoreMessage) → SetsLevel kind (judged_set kind values last end message)
set_sets kind values last end (SwitchBinarySet value) = listed_sets kind (lists kind 0x25) _ tt
set_sets kind values last end (SwitchMultilevelSet level) = level_sets kind (lists kind 0x26) _ refl refl
set_sets kind values last end (ThermostatModeSet mode) = listed_sets kind (lists kind 0x40) _ (inside_sets kind _ _)
set_sets kind values last end (ThermostatSetpointSet type value) = listed_sets kind (lists kind 0x43) _ (inside_sets kind _ _)
set_sets kind values last end (DoorLockOperationSet mode) = listed_sets kind (lists kind 0x62) _ tt
set_sets kind values last end (ConfigurationSet parameter default value) = listed_sets kind (lists kind 0x70) _ (inside_sets kind _ _)
set_sets kind values last end (ConfigurationBulkSet offset default numbers) = listed_sets kind (lists kind 0x70) _ (inside_sets kind _ _)
set_sets kind values last end (AssociationSet group nodes) = listed_sets kind (lists kind 0x85) _ (members_set kind values end 1 group nodes)
set_sets kind values last end (AssociationRemove group nodes) = listed_sets kind (lists kind 0x85) _ (members_set kind values end 0 group nodes)
set_sets kind values last end (WakeUpIntervalSet seconds target) = listed_sets kind (lists kind 0x84) _ (inside_sets kind _ _)
set_sets kind values last end message = tt

read_sets : (kind : Kind) (values : Property → ℕ) (last end : ℕ) (read : Result InfoMessage ClassFault) → SetsLevel kind (judged kind values last end read)
read_sets kind values last end (Ok (Core message)) = set_sets kind values last end message
read_sets kind values last end (Ok _) = tt
read_sets kind values last end (Err fault) = tt

first_sets : (kind : Kind) (values : Property → ℕ) (last end : ℕ) (made : List Setting) (command : List ℕ) (commands : List (List ℕ)) (verdict : Verdict)
    → judged kind (λ property. value_by made property (values property)) last end (info_at command) ≡ verdict → SetsLevel kind verdict
    → ((settings : List Setting) → SetsLevel kind (judged_all kind values last end (merged made settings) commands)) → SetsLevel kind (judged_all kind values last end made (command ∷ commands))
first_sets kind values last end made command commands (Makes settings) e is more = rw e (more settings)
first_sets kind values last end made command commands (Works settings) e is more = rw e is
first_sets kind values last end made command commands Fails e is more = rw e tt
first_sets kind values last end made command commands NoSupport e is more = rw e tt

all_set : (kind : Kind) (values : Property → ℕ) (last end : ℕ) (made : List Setting) (commands : List (List ℕ)) → SetsLevel kind (judged_all kind values last end made commands)
all_set kind values last end made [] = tt
all_set kind values last end made (command ∷ commands) =
    first_sets kind values last end made command commands _ refl (read_sets kind (λ property. value_by made property (values property)) last end (info_at command))
    (λ settings. all_set kind values last end (merged made settings) commands)

unless_sets : (kind : Kind) (no_end no_batch : Bool) (verdict : Verdict) → SetsLevel kind verdict → SetsLevel kind (if no_end then NoSupport else if no_batch then NoSupport else verdict)
unless_sets kind true no_batch verdict is = tt
unless_sets kind false true verdict is = tt
unless_sets kind false false verdict is = is

pub judged_sets : (device : State) (end : ℕ) (batch : Bool) (commands : List (List ℕ)) → SetsLevel device.kind (judged_message device.kind (value_of device) (last_level_of device) end batch commands)
unfolding judged_message
judged_sets device end batch commands =
    unless_sets device.kind (not (has_end device.kind end)) (batch && (not (lists device.kind 0x8F) || (length commands == 0))) _
    (all_set device.kind (value_of device) (last_level_of device) end [] commands)

message_sets : (device : State) (carriage : Carriage) (order : Order) → SetsLevel device.kind (verdict_on device carriage order)
message_sets device carriage order = judged_sets device order.end (is_batch order.what) (commands_of carriage.actuator order.what)

-- ---- which orders set a level

level_time : (actuator : Actuator) (end : ℕ) (asked : What) → first_name (settings_by actuator end asked) ≡ names.Level → takes_time actuator asked ≡ true
level_time Binary end (what.Value word) e = absurd cc
level_time Multilevel end (what.Value word) e = refl
level_time Lock end (what.Value word) e = absurd cc
level_time actuator end (what.Mode mode) e = absurd cc
level_time actuator end (what.Setpoint kind tenths) e = absurd cc
level_time actuator end (what.Config parameter value) e = absurd cc
level_time actuator end (what.Bulk offset []) e = absurd cc
level_time actuator end (what.Bulk offset (value ∷ values)) e = absurd cc
level_time actuator end (what.Associate group member) e = absurd cc
level_time actuator end (what.Dissociate group member) e = absurd cc
level_time actuator end (what.Interval seconds) e = absurd cc
level_time actuator end (what.Comfort mode kind tenths) e = absurd cc

pub works_time : (device : State) (carriage : Carriage) (order : Order) (made : List Setting) → MakesOnly (settings carriage.actuator order) (verdict_on device carriage order) → verdict_on device carriage order ≡ Works made
    → takes_time carriage.actuator order.what ≡ true
works_time device carriage order made only is =
    let made_is : made ≡ settings carriage.actuator order = subst (MakesOnly (settings carriage.actuator order)) is only in
    let level : first_name made ≡ names.Level = (subst (SetsLevel device.kind) is (message_sets device carriage order)).0 in
    level_time carriage.actuator order.end order.what (ap first_name (sym made_is) ∙ level)

-- so a device without levels is at no work on it
pub never_works : (device : State) (carriage : Carriage) (order : Order) (made : List Setting) → lists device.kind 0x26 ≡ false → verdict_on device carriage order ≡ Works made → ⊥
never_works device carriage order made none is = let yes = (subst (SetsLevel device.kind) is (message_sets device carriage order)).1 in let wrong : true ≡ false = sym yes ∙ none in absurd cc
