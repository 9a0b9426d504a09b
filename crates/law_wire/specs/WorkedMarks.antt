-- Units that marks may lose or change, by hand, and what becomes of them.
use Rattle.std.specs.Prelude.{codes}
use Rattle.zw_words.specs.declared.side.Side.TheVariants.{Host, Chip}
use Rattle.zw_text.specs.declared.entry.Entry.{Entry}
use Rattle.zw_text.specs.declared.entry.Entry.TheVariants.{Written, Garbled}
use Rattle.law_transcript.specs.Worked.{bytes}

-- a SendData; it is changed by 1 at its place 3, at the place beside it, and in its checksum
abbrev pub a_set : Entry
a_set = Written Host (bytes (codes "010E001302076C0101032501FF250177"))

abbrev pub set_changed : Entry
set_changed = Garbled Host (bytes (codes "010E001302066C0101032501FF250177"))

abbrev pub set_changed_beside : Entry
set_changed_beside = Garbled Host (bytes (codes "010E001302076D0101032501FF250177"))

abbrev pub sum_changed : Entry
sum_changed = Garbled Host (bytes (codes "010E001302076C0101032501FF250176"))

-- a callback, and the same changed by 1 at its place 3
abbrev pub a_call : Entry
a_call = Written Chip (bytes (codes "010500130100E8"))

abbrev pub call_changed : Entry
call_changed = Garbled Chip (bytes (codes "010500130101E8"))

-- an ACK of the host, changed; a CAN of the chip, an ACK and a NAK
abbrev pub ack_changed : Entry
ack_changed = Garbled Host (bytes (codes "07"))

abbrev pub host_ack : Entry
host_ack = Written Host (bytes (codes "06"))

abbrev pub chip_ack : Entry
chip_ack = Written Chip (bytes (codes "06"))

abbrev pub chip_nak : Entry
chip_nak = Written Chip (bytes (codes "15"))

abbrev pub chip_can : Entry
chip_can = Written Chip (bytes (codes "18"))

abbrev pub host_can : Entry
host_can = Written Host (bytes (codes "18"))
