-- How an order's messages are wrapped (Z-Wave Transport-Encapsulation Command Class Specification; the choice of the
-- outermost wrap is this project's own rule).
use Rattle.std.specs.Prelude.{ℕ, ◌+◌, ◌%◌, ◌&&◌, nat_lt, nat_le, if◌then◌else◌, List, length, Option, Some, None}
use Rattle.zw_base.specs.declared.order.Order.{Order}
use Rattle.encap.specs.declared.plan.Outer.{Outer}
use Rattle.encap.specs.declared.plan.Outer.TheVariants.{None as no_outer, Crc16, Security, Transport}
use Rattle.encap.specs.declared.plan.Plan.{Plan}
use Rattle.encap.specs.declared.plan.Supervised.{Supervised}
use Rattle.encap.specs.declared.plan.Ends.{Ends}
use Rattle.encap.specs.Written.{written_form, batched_form, supervised_form, addressed_form}
use Rattle.host_orders.specs.Classes.{lists, actuator_of}
use Rattle.host_orders.specs.Messages.{commands_of, is_batch, takes_time}
use Rattle.host_orders.specs.declared.actuator.Actuator.{Actuator}
use Rattle.host_orders.specs.declared.carriage.Carriage.{Carriage}
use Rattle.host_orders.specs.declared.carriage.Form.{Form}
use Rattle.host_orders.specs.declared.carriage.Form.TheVariants.{Plain, Cut, Sealed}

-- from end point 0 to an end point above 0
abbrev pub ends_of : ℕ → Option Ends
ends_of end = if nat_lt 0 end then Some (record { source = 0; target = end }) else None

-- the Supervision Get of a session: the wire has six bits, and updates are asked for where a change takes time
abbrev pub supervised_of : Actuator → Order → ℕ → Supervised
supervised_of actuator order session = record { updates = takes_time actuator order.what; id = session % 64 }

-- the plan of a session's message
abbrev pub plan_of : Carriage → Order → ℕ → Plan
plan_of carriage order session = record {
  batch = is_batch order.what;
  session = Some (supervised_of carriage.actuator order session);
  channel = ends_of order.end;
  outer = carriage.outer;
}

-- a session's message in its wraps, all but Security and Transport Service
abbrev pub message_of : Carriage → Order → ℕ → List ℕ
message_of carriage order session = written_form (plan_of carriage order session) (commands_of carriage.actuator order.what)

-- what is supervised
abbrev pub supervised_text : Actuator → Order → List ℕ
supervised_text actuator order = batched_form (is_batch order.what) (commands_of actuator order.what)

-- how long a session's message is before its outermost wrap, which is the same for each session
abbrev pub wrapped_len : Actuator → Order → ℕ
wrapped_len actuator order =
    length (addressed_form (ends_of order.end) (supervised_form (Some (supervised_of actuator order 0)) (supervised_text actuator order)))

-- the outermost wrap of that many bytes for a node with these classes: Security; else Transport Service for what is
-- too long for one frame; else CRC-16 where it fits
abbrev pub outer_for : List ℕ → ℕ → Outer
outer_for classes len =
    if lists classes 0x98 then Security
    else if nat_lt 46 len then Transport
    else if lists classes 0x56 && nat_le (len + 4) 46 then Crc16
    else no_outer

-- how an order is carried to a node with these classes
abbrev pub carriage_of : List ℕ → Order → Carriage
carriage_of classes order = record {
  actuator = actuator_of classes;
  outer = outer_for classes (wrapped_len (actuator_of classes) order);
}

-- what goes on the air: the message as it is, its segments, or the message sealed
abbrev pub form_of : Outer → Form
form_of no_outer = Plain
form_of Crc16 = Plain
form_of Transport = Cut
form_of Security = Sealed
