-- Worked stretches, in the form in which the program prints them: one in which a device does not take a value, and the same with another outcome, and
-- one over a repeater.
use Rattle.std.specs.Prelude.{ℕ, ◌+◌, List, [], ◌∷◌, ◌++◌, codes, drop, take}
use Rattle.zw_base.specs.declared.property.Name.TheVariants as names
use Rattle.zw_base.specs.declared.property.By.TheVariants.{Session}
use Rattle.zw_words.specs.declared.side.Side.TheVariants.{Host, Chip}
use Rattle.host_orders.specs.Settings.{setting}
use Rattle.zw_text.specs.declared.entry.Ended.TheVariants as endings
use Rattle.zw_text.specs.declared.entry.Entry.{Entry}
use Rattle.zw_text.specs.declared.entry.Entry.TheVariants.{Accepted, Air, Begin, Dev, Heard, Interviewed, Out, Said, Store, Time, Written}
use Rattle.law_wire.specs.law_transcript.Worked.{bytes}
use Rattle.law_wire.specs.device_kinds.declared.kind.Kind.TheVariants as kinds
use Rattle.law_wire.specs.device_stack.State.{State, fresh}

-- `link 1 6`, `join 6`, `interview 6`, `tick 2`
abbrev pub before_failing : List Entry
before_failing =
    Said (codes "link 1 6") ∷ Said (codes "join 6") ∷ Said (codes "interview 6") ∷ Written Host (bytes (codes "0104004106BC")) ∷
    Written Chip (bytes (codes "06")) ∷ Written Chip (bytes (codes "0109014180000004000032")) ∷ Written Host (bytes (codes "06")) ∷
    Written Host (bytes (codes "01040060069D")) ∷ Written Chip (bytes (codes "06")) ∷ Written Chip (bytes (codes "01040160019B")) ∷
    Written Host (bytes (codes "06")) ∷ Said (codes "tick 2") ∷ Time 1 ∷ Written Chip (bytes (codes "010E004984060804000040438F856C53")) ∷
    Written Host (bytes (codes "06")) ∷ Interviewed 6 ∷ []

-- and `mode 6 9`, `mode 6 2`, `tick 1000`: a thermostat has modes 0 to 2 alone
abbrev pub stretch_of_failing : List Entry
stretch_of_failing =
    Said (codes "mode 6 9") ∷ Accepted 1 6 ∷ Begin 6 1 1 ∷ Written Host (bytes (codes "010E001306076C0101034001092501E0")) ∷
    Written Chip (bytes (codes "06")) ∷ Written Chip (bytes (codes "0104011301E8")) ∷ Air 1 1 6 [] (bytes (codes "6C010103400109")) ∷
    Written Host (bytes (codes "06")) ∷ Said (codes "mode 6 2") ∷ Accepted 2 6 ∷ Said (codes "tick 1000") ∷ Time 3 ∷ Heard 1 ∷
    Air 2 6 1 [] (bytes (codes "6C02010200")) ∷ Written Chip (bytes (codes "010500130100E8")) ∷ Written Host (bytes (codes "06")) ∷ Time 4 ∷ Heard 2 ∷
    Written Chip (bytes (codes "010B00040006056C020102009E")) ∷ Written Host (bytes (codes "06")) ∷ Out 1 endings.Fail ∷ Begin 6 2 2 ∷
    Written Host (bytes (codes "010E001306076C0102034001022502EB")) ∷ Written Chip (bytes (codes "06")) ∷
    Written Chip (bytes (codes "0104011301E8")) ∷ Air 3 1 6 [] (bytes (codes "6C010203400102")) ∷ Written Host (bytes (codes "06")) ∷ Time 5 ∷
    Heard 3 ∷ Dev 6 (Session 2) (setting 0 names.Mode 2) ∷ Air 4 6 1 [] (bytes (codes "6C0202FF00")) ∷ Written Chip (bytes (codes "010500130200EB")) ∷
    Written Host (bytes (codes "06")) ∷ Time 6 ∷ Heard 4 ∷ Written Chip (bytes (codes "010B00040006056C0202FF0060")) ∷
    Written Host (bytes (codes "06")) ∷ Out 2 endings.Success ∷ Store 6 (setting 0 names.Mode 2) ∷ []

-- `link 2 10`, `join 10`, `interview 10`, `tick 2`: a node that hears another one alone
abbrev pub before_repeated : List Entry
before_repeated =
    Said (codes "link 2 10") ∷ Said (codes "join 10") ∷ Said (codes "interview 10") ∷ Written Host (bytes (codes "010400410AB0")) ∷
    Written Chip (bytes (codes "06")) ∷ Written Chip (bytes (codes "0109014180000004000032")) ∷ Written Host (bytes (codes "06")) ∷
    Written Host (bytes (codes "010400600A91")) ∷ Written Chip (bytes (codes "06")) ∷ Written Chip (bytes (codes "01040160019B")) ∷
    Written Host (bytes (codes "06")) ∷ Said (codes "tick 2") ∷ Time 1 ∷ Written Chip (bytes (codes "010C0049840A0604000025856CFA")) ∷
    Written Host (bytes (codes "06")) ∷ Interviewed 10 ∷ []

-- and `set 10 on`, `tick 500`: it is reached over that
abbrev pub stretch_over_two : List Entry
stretch_over_two =
    Said (codes "set 10 on") ∷ Accepted 1 10 ∷ Begin 10 1 1 ∷ Written Host (bytes (codes "010E00130A076C0101032501FF25017F")) ∷
    Written Chip (bytes (codes "06")) ∷ Written Chip (bytes (codes "0104011301E8")) ∷ Air 1 1 10 (2 ∷ []) (bytes (codes "6C0101032501FF")) ∷
    Written Host (bytes (codes "06")) ∷ Said (codes "tick 500") ∷ Time 3 ∷ Heard 1 ∷ Dev 10 (Session 1) (setting 0 names.Switch 255) ∷
    Air 2 10 1 (2 ∷ []) (bytes (codes "6C0201FF00")) ∷ Written Chip (bytes (codes "010500130100E8")) ∷ Written Host (bytes (codes "06")) ∷ Time 4 ∷
    Heard 2 ∷ Written Chip (bytes (codes "010B0004000A056C0201FF006F")) ∷ Written Host (bytes (codes "06")) ∷ Out 1 endings.Success ∷
    Store 10 (setting 0 names.Switch 255) ∷ []

-- the entry at a place is another
abbrev pub with_other : ℕ → Entry → List Entry → List Entry
with_other place entry entries = take place entries ++ entry ∷ drop (place + 1) entries

-- the first command succeeds, or the second one fails
abbrev pub failing_as_success : List Entry
failing_as_success = with_other 20 (Out 1 endings.Success) stretch_of_failing

abbrev pub success_as_failing : List Entry
success_as_failing = with_other 37 (Out 2 endings.Fail) stretch_of_failing

abbrev pub the_thermostat : State
the_thermostat = fresh 6 kinds.Thermostat []
