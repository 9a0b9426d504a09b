-- Stretches that are invalid, one thing wrong in each: too many nodes at work, a node that the host takes for another, an order after the
-- `wake` line, and lines that wake too often.
use Rattle.std.specs.Prelude.{ℕ, zero, suc, List, [], ◌∷◌, codes}
use Rattle.zw_words.specs.declared.side.Side.TheVariants.{Host, Chip}
use Rattle.law_wire.specs.device_kinds.declared.kind.Kind.TheVariants as kinds
use Rattle.law_wire.specs.device_stack.State.{State, fresh}
use Rattle.zw_text.specs.declared.entry.Entry.{Entry}
use Rattle.zw_text.specs.declared.entry.Entry.TheVariants.{Said, Accepted, Written, Interviewed}
use Rattle.law_wire.specs.law_transcript.Worked.{bytes}

-- ---- many nodes that sleep

-- so many sensors, from this node on
abbrev pub sensors_from : ℕ → ℕ → List State
sensors_from node zero = []
sensors_from node (suc count) = fresh node kinds.Sensor [] ∷ sensors_from (suc node) count

-- 17 of them join, and the host knows them
abbrev pub sensors_join : List Entry
sensors_join =
    Said (codes "join 3") ∷ Interviewed 3 ∷ Said (codes "join 4") ∷ Interviewed 4 ∷ Said (codes "join 5") ∷ Interviewed 5 ∷ Said (codes "join 6") ∷ Interviewed 6 ∷
    Said (codes "join 7") ∷ Interviewed 7 ∷ Said (codes "join 8") ∷ Interviewed 8 ∷ Said (codes "join 9") ∷ Interviewed 9 ∷ Said (codes "join 10") ∷ Interviewed 10 ∷
    Said (codes "join 11") ∷ Interviewed 11 ∷ Said (codes "join 12") ∷ Interviewed 12 ∷ Said (codes "join 13") ∷ Interviewed 13 ∷ Said (codes "join 14") ∷ Interviewed 14 ∷
    Said (codes "join 15") ∷ Interviewed 15 ∷ Said (codes "join 16") ∷ Interviewed 16 ∷ Said (codes "join 17") ∷ Interviewed 17 ∷ Said (codes "join 18") ∷ Interviewed 18 ∷
    Said (codes "join 19") ∷ Interviewed 19 ∷ []

-- each has an order, and is woken
abbrev pub sensors_work : List Entry
sensors_work =
    Said (codes "interval 3 300") ∷ Accepted 1 3 ∷ Said (codes "wake 3") ∷ Said (codes "interval 4 300") ∷ Accepted 2 4 ∷ Said (codes "wake 4") ∷ Said (codes "interval 5 300") ∷
    Accepted 3 5 ∷ Said (codes "wake 5") ∷ Said (codes "interval 6 300") ∷ Accepted 4 6 ∷ Said (codes "wake 6") ∷ Said (codes "interval 7 300") ∷ Accepted 5 7 ∷
    Said (codes "wake 7") ∷ Said (codes "interval 8 300") ∷ Accepted 6 8 ∷ Said (codes "wake 8") ∷ Said (codes "interval 9 300") ∷ Accepted 7 9 ∷ Said (codes "wake 9") ∷
    Said (codes "interval 10 300") ∷ Accepted 8 10 ∷ Said (codes "wake 10") ∷ Said (codes "interval 11 300") ∷ Accepted 9 11 ∷ Said (codes "wake 11") ∷
    Said (codes "interval 12 300") ∷ Accepted 10 12 ∷ Said (codes "wake 12") ∷ Said (codes "interval 13 300") ∷ Accepted 11 13 ∷ Said (codes "wake 13") ∷
    Said (codes "interval 14 300") ∷ Accepted 12 14 ∷ Said (codes "wake 14") ∷ Said (codes "interval 15 300") ∷ Accepted 13 15 ∷ Said (codes "wake 15") ∷
    Said (codes "interval 16 300") ∷ Accepted 14 16 ∷ Said (codes "wake 16") ∷ Said (codes "interval 17 300") ∷ Accepted 15 17 ∷ Said (codes "wake 17") ∷
    Said (codes "interval 18 300") ∷ Accepted 16 18 ∷ Said (codes "wake 18") ∷ Said (codes "interval 19 300") ∷ Accepted 17 19 ∷ Said (codes "wake 19") ∷ []

-- ---- a node that is taken for another

-- an order is accepted for the switch that node 2 is at first taken for; an interview then says that it is a dimmer
abbrev pub accepted_as_switch : List Entry
accepted_as_switch =
    Said (codes "set 2 on") ∷ Accepted 1 2 ∷ Said (codes "interview 2") ∷ Written Host (bytes (codes "0104004102B8")) ∷
    Written Chip (bytes (codes "06")) ∷ Written Chip (bytes (codes "0109014180000004000032")) ∷ Written Host (bytes (codes "06")) ∷
    Written Host (bytes (codes "010400600299")) ∷ Written Chip (bytes (codes "06")) ∷ Written Chip (bytes (codes "01040160019B")) ∷
    Written Host (bytes (codes "06")) ∷ Interviewed 2 ∷ []

-- ---- lines that wake a node

-- an order stands after the `wake` line
abbrev pub woken_before_order : List Entry
woken_before_order = Said (codes "wake 5") ∷ Said (codes "interval 5 300") ∷ Accepted 1 5 ∷ Said (codes "tick 500") ∷ []

-- a node is woken twice
abbrev pub woken_twice : List Entry
woken_twice = Said (codes "interval 5 300") ∷ Accepted 1 5 ∷ Said (codes "wake 5") ∷ Said (codes "wake 5") ∷ Said (codes "tick 500") ∷ []
