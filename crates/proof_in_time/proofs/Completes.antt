-- A Segment Complete asks the host for nothing.
use Rattle.std.proofs.Common.{◌≡◌, ℕ, false, List, [], ◌∷◌, refl, arith}
use Rattle.std.specs.Prelude.{Ok}
use Rattle.class_core.specs.Cell.{bits}
use Rattle.class_core.specs.MessageReading.{message_at}
use Rattle.class_core.specs.Reading.{bits_at, byte_at, in_class}
use Rattle.class_info.specs.InfoReading.{info_at, own_at}
use Rattle.class_info.specs.InfoSpelling.{form}
use Rattle.class_info.specs.declared.message.InfoMessage.{InfoMessage}
use Rattle.class_info.specs.declared.message.InfoMessage.TheVariants.{TransportComplete}
use Rattle.encap.specs.Opening.{begins_with}
use Rattle.encap.specs.Wraps.{IsCommand}
use Rattle.host_heard.specs.Telling.{told_by}
use Rattle.proof_messages.specs.Reporting.{IsPlainTold, TellsPlainly}
use Rattle.proof_messages.proofs.Bare.{bare_opens, low_command}
use Rattle.proof_in_time.proofs.Sleepers.{told_one}

complete_read : (byte : ℕ) → info_at (0x55 ∷ 0xE8 ∷ byte ∷ []) ≡ Ok (TransportComplete (bits 4 4 byte))
unfolding info_at message_at own_at byte_at in_class bits_at
complete_read byte = refl

plain_text : (text : List ℕ) (message : InfoMessage) → IsCommand false text → begins_with text 152 129 ≡ false → info_at text ≡ Ok message → IsPlainTold (told_by 0 message) → TellsPlainly text
plain_text text message is unsealed read plain = record { told = told_by 0 message; heard = told_one text message unsealed (bare_opens text is) read; plain = plain }

pub complete_plain : (id : ℕ) → TellsPlainly (form (TransportComplete id))
complete_plain id = plain_text (form (TransportComplete id)) (TransportComplete (bits 4 4 _)) (low_command 0x55 _ (omega arith)) refl (complete_read _) tt
