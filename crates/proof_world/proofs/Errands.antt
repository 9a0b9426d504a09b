-- What a user asks for without Supervision is short.
use Rattle.std.proofs.Common.{ℕ, ◌≤◌, List, length, Option, Some, None, arith, length-append}
use Rattle.zw_base.specs.declared.order.Word.{Word}
use Rattle.class_core.specs.Spelling.{form}
use Rattle.encap.specs.Written.{addressed_form, checked_form}
use Rattle.encap.specs.declared.plan.Ends.{Ends}
use Rattle.encap.specs.declared.plan.Outer.{Outer}
use Rattle.encap.specs.declared.plan.Outer.TheVariants.{None as no_outer, Crc16, Security, Transport}
use Rattle.host_orders.specs.Messages.{value_message}
use Rattle.host_orders.specs.Wrapping.{ends_of, outer_for}
use Rattle.host_orders.specs.Errands.{send_text, get_text, plain_text, sendable_of, gettable_of, get_command}
use Rattle.host_orders.specs.declared.actuator.Actuator.{Actuator}
use Rattle.host_orders.specs.declared.actuator.Actuator.TheVariants.{Binary, Multilevel, Lock}
use Rattle.host_orders.specs.declared.errand.Gettable.{Gettable}
use Rattle.host_orders.specs.declared.errand.Gettable.TheVariants.{Binary as get_binary, Multilevel as get_multilevel, Lock as get_lock, Thermostat, Sensor}

addressed_short : (ends : Option Ends) (inner : List ℕ) → length inner ≤ 8 → length (addressed_form ends inner) ≤ 12
addressed_short None inner short = omega arith
addressed_short (Some ends) inner short = omega arith

checked_short : (outer : Outer) (inner : List ℕ) → length inner ≤ 12 → length (checked_form outer inner) ≤ 46
checked_short Crc16 inner short = omega (arith, length-append inner)
checked_short no_outer inner short = omega arith
checked_short Security inner short = omega arith
checked_short Transport inner short = omega arith

plain_short : (classes : List ℕ) (end : ℕ) (command : List ℕ) → length command ≤ 8 → length (plain_text classes end command) ≤ 46
plain_short classes end command short =
    checked_short (outer_for classes (length (addressed_form (ends_of end) command))) (addressed_form (ends_of end) command) (addressed_short (ends_of end) command short)

value_short : (actuator : Actuator) (word : Word) → length (form (value_message actuator word)) ≤ 8
value_short Binary word = omega arith
value_short Multilevel word = omega arith
value_short Lock word = omega arith

command_short : (what : Gettable) → length (get_command what) ≤ 8
command_short get_binary = omega arith
command_short get_multilevel = omega arith
command_short get_lock = omega arith
command_short Thermostat = omega arith
command_short Sensor = omega arith

pub send_short : (classes : List ℕ) (word : Word) → length (send_text classes word) ≤ 46
send_short classes word = plain_short classes 0 (form (value_message (sendable_of classes) word)) (value_short (sendable_of classes) word)

pub get_short : (classes : List ℕ) (end : ℕ) → length (get_text classes end) ≤ 46
get_short classes end = plain_short classes end (get_command (gettable_of classes)) (command_short (gettable_of classes))
