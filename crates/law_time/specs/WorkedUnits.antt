-- The units that the transcripts made by hand have in common (Serial API: data frames, their answers of one byte, responses and callbacks).
use Rattle.std.specs.Prelude.{ℕ, List, codes}
use Rattle.zw_words.specs.declared.side.Side.TheVariants.{Host, Chip}
use Rattle.zw_text.specs.declared.entry.Entry.{Entry}
use Rattle.zw_text.specs.declared.entry.Entry.TheVariants.{Written}
use Rattle.law_wire.specs.law_transcript.Worked.{bytes}

-- a unit of a side, by its digits
abbrev pub by_host : List ℕ → Entry
by_host digits = Written Host (bytes digits)

abbrev pub by_chip : List ℕ → Entry
by_chip digits = Written Chip (bytes digits)

-- a side acknowledges a frame, and the chip says that one was bad
abbrev pub host_acknowledges : Entry
host_acknowledges = by_host (codes "06")

abbrev pub chip_acknowledges : Entry
chip_acknowledges = by_chip (codes "06")

abbrev pub chip_denies : Entry
chip_denies = by_chip (codes "15")

-- ---- messages: all have callback id 1

-- a Set of node 2, and No More Information to node 5
abbrev pub set_sent : Entry
set_sent = by_host (codes "010A001302032501FF250118")

abbrev pub no_more_sent : Entry
no_more_sent = by_host (codes "010900130502840825014A")

-- the message of session 1 to node 2, and to node 5
abbrev pub message_sent : Entry
message_sent = by_host (codes "010E001302076C0101032501FF250177")

abbrev pub sleeper_sent : Entry
sleeper_sent = by_host (codes "01110013050A6C010106840400012C01250110")

-- the chip takes a message, or refuses it
abbrev pub taken : Entry
taken = by_chip (codes "0104011301E8")

abbrev pub refused : Entry
refused = by_chip (codes "0104011300E9")

-- the callbacks: delivered, and not, in four ways
abbrev pub delivered : Entry
delivered = by_chip (codes "010500130100E8")

abbrev pub not_acknowledged : Entry
not_acknowledged = by_chip (codes "010500130101E9")

abbrev pub failed : Entry
failed = by_chip (codes "010500130102EA")

abbrev pub not_idle : Entry
not_idle = by_chip (codes "010500130103EB")

abbrev pub without_route : Entry
without_route = by_chip (codes "010500130104EC")

-- an abort
abbrev pub abort_sent : Entry
abort_sent = by_host (codes "01030016EA")

-- ---- interviews

-- the two requests of an interview of node 2
abbrev pub protocol_asked : Entry
protocol_asked = by_host (codes "0104004102B8")

abbrev pub information_asked : Entry
information_asked = by_host (codes "010400600299")

-- the response to the first one, which says that the node listens, and those to the second
abbrev pub protocol_known : Entry
protocol_known = by_chip (codes "0109014180000004000032")

abbrev pub asking_taken : Entry
asking_taken = by_chip (codes "01040160019B")

abbrev pub asking_refused : Entry
asking_refused = by_chip (codes "01040160009A")

-- the information of node 2 comes, or none does
abbrev pub information_come : Entry
information_come = by_chip (codes "010C004984020604000025856CF2")

abbrev pub no_information : Entry
no_information = by_chip (codes "0106004981000031")

-- ---- questions

-- whether node 2 has failed
abbrev pub failed_asked : Entry
failed_asked = by_host (codes "01040062029B")

-- ---- nodes

-- node 5 tells that it is awake
abbrev pub notified : Entry
notified = by_chip (codes "01080004000502840777")

-- node 4 asks for a nonce, and the host gives one
abbrev pub nonce_asked : Entry
nonce_asked = by_chip (codes "0108000400040298402D")

abbrev pub nonce_given : Entry
nonce_given = by_host (codes "01110013040A988001020304050607082501C7")
