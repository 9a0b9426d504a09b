-- Transcripts like the worked ones in which the host asks the chip to send what is not due, one thing wrong in each.
use Rattle.std.specs.Prelude.{List, [], ◌∷◌, ◌++◌, codes}
use Rattle.zw_words.specs.declared.side.Side.TheVariants.{Host, Chip}
use Rattle.zw_text.specs.declared.entry.Ended.TheVariants.{Success}
use Rattle.zw_text.specs.declared.entry.Refusal.TheVariants.{QueueFull}
use Rattle.zw_text.specs.declared.entry.Entry.{Entry}
use Rattle.zw_text.specs.declared.entry.Entry.TheVariants.{Said, Accepted, Refused, Begin, Written, Interviewed}
use Rattle.law_transcript.specs.Worked.{bytes}
use Rattle.law_transcript.specs.WorkedCases.{then_begins}

-- the host sends the message of another session
abbrev pub sent_otherwise : List Entry
sent_otherwise =
    Said (codes "set 2 on") ∷ Accepted 1 2 ∷ Begin 2 1 1 ∷
    Written Host (bytes (codes "010E001302076C0102032501FF250174")) ∷ []

-- a message is sent of a command whose session has not begun
abbrev pub sent_unbegun : List Entry
sent_unbegun =
    Said (codes "set 2 on") ∷ Accepted 1 2 ∷ Written Host (bytes (codes "010E001302076C0101032501FF250177")) ∷ []

-- the message of an earlier session is sent again when the next has begun
abbrev pub sent_earlier : List Entry
sent_earlier = then_begins Success ++ Written Host (bytes (codes "010E001302076C0101032501FF250177")) ∷ []

-- a command of a dimmer is accepted while it is taken for a switch, and is sent as one for a dimmer
abbrev pub sent_by_new_list : List Entry
sent_by_new_list =
    Said (codes "set 2 on") ∷ Accepted 1 2 ∷ Interviewed 2 ∷ Begin 2 1 1 ∷
    Written Host (bytes (codes "010E001302076C018103260163250168")) ∷ []

-- a message is sealed for a switch, which does not list Security 0
abbrev pub sealed_unasked : List Entry
sealed_unasked =
    Said (codes "set 2 on") ∷ Accepted 1 2 ∷ Begin 2 1 1 ∷
    Written Chip (bytes (codes "0110000400020A988001ED7E19638089D9C3")) ∷
    Written Host (bytes (codes "01220013021B98816B71E54E0F8EE3186CCEA9D132EC2C950186B8E96CB32FAC9825018E")) ∷ []

-- a message is not sealed for a lock, which lists Security 0
abbrev pub sent_openly : List Entry
sent_openly =
    Written Chip (bytes (codes "010C004984040604000062986CAE")) ∷ Interviewed 4 ∷ Said (codes "set 4 on") ∷
    Accepted 1 4 ∷ Begin 4 1 1 ∷ Written Chip (bytes (codes "0110000400040A988001ED7E19638089D9C5")) ∷
    Written Host (bytes (codes "010E001304076C0101036201FF250136")) ∷ []

-- a message is sealed for a nonce that the lock has not given
abbrev pub sealed_for_none : List Entry
sealed_for_none =
    Written Chip (bytes (codes "010C004984040604000062986CAE")) ∷ Interviewed 4 ∷ Said (codes "set 4 on") ∷
    Accepted 1 4 ∷ Begin 4 1 1 ∷
    Written Host (bytes (codes "01220013041B98816B71E54E0F8EE3186CCEA9D132AB2C95018A573A88D6BE287E25018D")) ∷ []

-- the last byte of a sealed message is another
abbrev pub sealed_otherwise : List Entry
sealed_otherwise =
    Written Chip (bytes (codes "010C004984040604000062986CAE")) ∷ Interviewed 4 ∷ Said (codes "set 4 on") ∷
    Accepted 1 4 ∷ Begin 4 1 1 ∷ Written Chip (bytes (codes "0110000400040A988001ED7E19638089D9C5")) ∷
    Written Host (bytes (codes "01220013041B98816B71E54E0F8EE3186CCEA9D132AB2C95018A573A88D6BE287F25018C")) ∷ []

-- a message is sealed under a nonce of nine bytes of the host's own
abbrev pub sealed_longer : List Entry
sealed_longer =
    Written Chip (bytes (codes "010C004984040604000062986CAE")) ∷ Interviewed 4 ∷ Said (codes "set 4 on") ∷
    Accepted 1 4 ∷ Begin 4 1 1 ∷ Written Chip (bytes (codes "0110000400040A988001ED7E19638089D9C5")) ∷
    Written Host (bytes (codes "01230013041C98816B71E54E0F8EE3180043E3ABAF95F9180A01007A9081702057BB25012D")) ∷ []

-- a message is sealed for a nonce of nine bytes that the lock has given
abbrev pub sealed_for_longer : List Entry
sealed_for_longer =
    Written Chip (bytes (codes "010C004984040604000062986CAE")) ∷ Interviewed 4 ∷ Said (codes "set 4 on") ∷
    Accepted 1 4 ∷ Begin 4 1 1 ∷ Written Chip (bytes (codes "0111000400040B988001ED7E19638089D905C0")) ∷
    Written Host (bytes (codes "01220013041B98816B71E54E0F8EE3186CCEA9D132AB2C95013AA2BEFDC2FEF985250147")) ∷ []

-- a message is not cut for a node that lists Transport Service
abbrev pub sent_whole : List Entry
sent_whole =
    Written Chip (bytes (codes "010C004984080604000070556C7D")) ∷ Interviewed 8 ∷
    Said (codes "bulk 8 0 01010101010101010101010101010101010101010101010101010101010101010101010101") ∷ Accepted 1 8 ∷
    Begin 8 1 1 ∷
    Written Host (bytes (codes "01360013082F6C01012B700700002501010101010101010101010101010101010101010101010101010101010101010101010101012501CC")) ∷
    []

-- a byte of a segment is another
abbrev pub cut_otherwise : List Entry
cut_otherwise =
    Written Chip (bytes (codes "010C004984080604000070556C7D")) ∷ Interviewed 8 ∷
    Said (codes "bulk 8 0 01010101010101010101010101010101010101010101010101010101010101010101010101") ∷ Accepted 1 8 ∷
    Begin 8 1 1 ∷
    Written Host (bytes (codes "01340013082D55C02F106C01012B7007000025010101010101010201010101010101010101010101010101010101010101E1672501E3")) ∷
    []

-- a segment has the number of another session
abbrev pub cut_of_another : List Entry
cut_of_another =
    Written Chip (bytes (codes "010C004984080604000070556C7D")) ∷ Interviewed 8 ∷
    Said (codes "bulk 8 0 01010101010101010101010101010101010101010101010101010101010101010101010101") ∷ Accepted 1 8 ∷
    Begin 8 1 1 ∷
    Written Host (bytes (codes "01340013082D55C02F206C01012B700700002501010101010101010101010101010101010101010101010101010101010152E82501EC")) ∷
    []

-- a segment begins after the end of the message
abbrev pub cut_past_end : List Entry
cut_past_end =
    Written Chip (bytes (codes "010C004984080604000070556C7D")) ∷ Interviewed 8 ∷
    Said (codes "bulk 8 0 01010101010101010101010101010101010101010101010101010101010101010101010101") ∷ Accepted 1 8 ∷
    Begin 8 1 1 ∷ Written Host (bytes (codes "010E0013080755E02F104E43CF250181")) ∷ []

-- a Nonce Report is sent that nobody asked for
abbrev pub nonce_unasked : List Entry
nonce_unasked =
    Written Host (bytes (codes "01110013040A9880019E0A1249BB594F2501AC")) ∷ []

-- a Nonce Report is sent to another node than the one that asked for it
abbrev pub nonce_of_another : List Entry
nonce_of_another =
    Written Chip (bytes (codes "0108000400040298402D")) ∷
    Written Host (bytes (codes "011100130C0A9880019E0A1249BB594F2501A4")) ∷ []

-- a Nonce Report is sent for a message that seals nothing, or to another node than the one that asked for it so
abbrev pub nonce_for_nothing : List Entry
nonce_for_nothing =
    Written Chip (bytes (codes "011A000400041498810AED115731C616E72C01829AA826FC9B263F8A")) ∷
    Written Host (bytes (codes "01110013040A988002010203040506072501CD")) ∷ []

abbrev pub nonce_of_another_sealed : List Entry
nonce_of_another_sealed =
    Written Chip (bytes (codes "011C000400041698810AED115731C616E72CE92B013E42AD30FFC01180EB")) ∷
    Written Host (bytes (codes "011100130C0A9880019E0A1249BB594F2501A4")) ∷ []

-- a Nonce Report that was asked for has seven bytes
abbrev pub nonce_shorter : List Entry
nonce_shorter =
    Written Chip (bytes (codes "0108000400040298402D")) ∷
    Written Host (bytes (codes "0110001304099880019E0A1249BB592501E1")) ∷ []

-- a Nonce Report was asked for, and a Set is sent
abbrev pub nonce_otherwise : List Entry
nonce_otherwise =
    Written Chip (bytes (codes "0108000400040298402D")) ∷ Written Host (bytes (codes "010A001304032501FF25011E")) ∷ []

-- a Set, or a Get, is sent that no line asked for
abbrev pub set_unasked : List Entry
set_unasked =
    Written Host (bytes (codes "010A001302032501FF250118")) ∷ []

abbrev pub get_unasked : List Entry
get_unasked =
    Written Host (bytes (codes "01090013020225022501E6")) ∷ []

-- a line that asks for a Set is refused, and it is sent
abbrev pub set_refused : List Entry
set_refused =
    Said (codes "send 2 on") ∷ Refused (QueueFull 64) ∷ Written Host (bytes (codes "010A001302032501FF250118")) ∷ []

-- a line asks for a Set, and another is sent
abbrev pub set_otherwise : List Entry
set_otherwise =
    Said (codes "send 2 on") ∷ Written Host (bytes (codes "010A001302032501002501E7")) ∷ []

-- a line asks for a Set of a dimmer that is taken for a switch, and it is sent as one for a dimmer
abbrev pub set_by_new_list : List Entry
set_by_new_list = Said (codes "send 2 on") ∷ Interviewed 2 ∷ Written Host (bytes (codes "010A00130203260163250187")) ∷ []

-- a line asks for a Set, and it is sent to another node
abbrev pub set_of_another : List Entry
set_of_another =
    Said (codes "send 2 on") ∷ Written Host (bytes (codes "010A001303032501FF250119")) ∷ []
