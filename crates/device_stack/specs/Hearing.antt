-- What a payload makes of a device: how it is brought down to a message, and how the answer is brought up again (Z-Wave
-- Transport-Encapsulation Command Class Specification: Transport Service, Security 0).
use Rattle.std.specs.Prelude.{◌≡◌, ℕ, ◌+◌, ◌-◌, false, ◌==◌, ◌&&◌, nat_lt, if◌then◌else◌, List, [], ◌∷◌, length, slice_index, Result, Ok, Err, Option, Some, None}
use Rattle.std.specs.Option.{option_map, option_to_list}
use Rattle.supervision.specs.Session.{wire_id}
use Rattle.s0_session.specs.Nonces.{nonce_given, after_give, nonce_spent, after_spend}
use Rattle.s0_session.specs.Sending.{taken_from}
use Rattle.class_core.specs.declared.fault.ClassFault.{ClassFault}
use Rattle.class_info.specs.declared.message.InfoMessage.{InfoMessage}
use Rattle.class_info.specs.declared.message.InfoMessage.TheVariants.{NonceGet, NonceReport, TransportRequest, TransportComplete}
use Rattle.class_info.specs.InfoReading.{info_at}
use Rattle.class_info.specs.InfoSpelling.{form}
use Rattle.encap.specs.Opening.{Message, begins_with, opened_at}
use Rattle.encap.specs.Wraps.{is_crc16}
use Rattle.transport_segments.specs.Segment.{id_of}
use Rattle.transport_segments.specs.Taking.{is_segment, ends_its_datagram, taken_at, kept_after}
use Rattle.transport_segments.specs.Kept.{Empty}
use Rattle.transport_segments.specs.declared.assembler.Taken.{Taken}
use Rattle.transport_segments.specs.declared.assembler.Taken.TheVariants.{Kept, Need, Whole}
use Rattle.device_kinds.specs.declared.kind.Kind.{Kind}
use Rattle.device_kinds.specs.declared.kind.Kind.TheVariants.{Lock, Configurable}
use Rattle.device_kinds.specs.Answers.{answer_plan, worded}
use Rattle.s0_crypto.specs.Sealing.{unsealed_at, sealed_text, keys_of}
use Rattle.device_kinds.specs.Segments.{segment_session}
use Rattle.device_stack.specs.declared.sealing.Nonces.{Nonces}
use Rattle.device_stack.specs.declared.sealing.Nonces.TheVariants.{Asked, Told, Unsaid}
use Rattle.device_stack.specs.State.{State, Outcome, silent}
use Rattle.device_stack.specs.Answers.{status_report}
use Rattle.device_stack.specs.Effects.{effect_of, after_effect, answer_of}

-- ---- a message out of its wraps

-- the device after a message, and the text of its answer, in the wraps of an answer
pub record Answered : Type 0 where
  pub device : State
  pub answer : Option (List ℕ)

abbrev pub unanswered : State → Answered
unanswered device = record { device = device; answer = None }

unfoldable pub answers : State → Message → Answered
answers device message = record {
  device = after_effect device message.plan (effect_of device message);
  answer = option_map (worded (answer_plan message.plan)) (answer_of device message.plan (effect_of device message));
}

-- bytes that may be a message
abbrev pub answers_opened : State → Option Message → Answered
answers_opened device (Some message) = answers device message
answers_opened device None = unanswered device

unfoldable pub answers_bytes : State → List ℕ → Answered
answers_bytes device bytes = answers_opened device (opened_at bytes)

-- the answer is sent as it is
abbrev pub sent_openly : Answered → Outcome
sent_openly answered = record { device = answered.device; replies = option_to_list answered.answer }

unfoldable pub hears_openly : State → List ℕ → Outcome
hears_openly device payload = sent_openly (answers_bytes device payload)

-- ---- sealed (Security 0)

-- the first byte of the nonce that a Security message names: the ninth byte from its end
abbrev pub nonce_named : List ℕ → ℕ
nonce_named bytes = slice_index bytes (length bytes - 9)

-- the answer waits for a nonce, which is asked for
abbrev pub sent_sealed : Answered → Outcome
sent_sealed answered = by answered.answer
  where
    by : Option (List ℕ) → Outcome
    by None = silent answered.device
    by (Some answer) = record {
      device = record answered.device { sealing = record answered.device.sealing { pending = Some answer } };
      replies = form NonceGet ∷ [];
    }

-- what was sealed: CRC-16 does not stand inside
abbrev pub hears_inside : State → Option Message → Outcome
hears_inside device None = silent device
hears_inside device (Some message) = if is_crc16 message.plan.outer then silent device else sent_sealed (answers device message)

abbrev pub hears_plain : State → Option (List ℕ) → Outcome
hears_plain device None = silent device
hears_plain device (Some plain) = hears_inside device (opened_at plain)

-- a message for a nonce that was live
abbrev pub hears_for : State → List ℕ → Option (List ℕ) → Outcome
hears_for device payload None = silent device
hears_for device payload (Some nonce) =
    hears_plain device (unsealed_at (keys_of device.key) nonce (record { sender = 1; receiver = device.node }) payload)

-- a Security message: the nonce that it names is spent, whether it opens or not
unfoldable pub hears_sealed : State → List ℕ → Outcome
hears_sealed device payload =
    if nat_lt (length payload) 20 then silent device
    else hears_for (record device { given = after_spend device.given (nonce_named payload) }) payload (nonce_spent device.given (nonce_named payload))

-- a nonce is given to the host
abbrev pub gives_nonce : State → List ℕ → Outcome
gives_nonce device drawn = record {
  device = record device { given = after_give device.given drawn };
  replies = form (NonceReport (nonce_given device.given drawn)) ∷ [];
}

-- a nonce of the host seals what is pending, if it counts as the next or the last
abbrev pub seals_for : State → List ℕ → List ℕ → Option ℕ → Option (List ℕ) → Outcome
seals_for device nonce drawn (Some seen) (Some plain) = record {
  device = record device { sealing = record device.sealing { seen = seen; pending = None } };
  replies = sealed_text (keys_of device.key) drawn nonce device.sealing.ends plain ∷ [];
}
seals_for device nonce drawn _ _ = silent device

abbrev pub takes_nonce : State → List ℕ → List ℕ → Outcome
takes_nonce device nonce drawn =
    seals_for device nonce drawn (taken_from device.sealing.pending device.sealing.seen (slice_index nonce 0)) device.sealing.pending

abbrev pub hears_nonces : State → List ℕ → Result InfoMessage ClassFault → Outcome
hears_nonces device drawn (Ok NonceGet) = gives_nonce device drawn
hears_nonces device drawn (Ok (NonceReport nonce)) = takes_nonce device nonce drawn
hears_nonces device drawn (Ok _) = silent device
hears_nonces device drawn (Err fault) = silent device

-- what is said of nonces by what was read
abbrev pub SaysOfNonces : Nonces → Result InfoMessage ClassFault → Type 0
SaysOfNonces Asked message = message ≡ Ok NonceGet
SaysOfNonces (Told nonce) message = message ≡ Ok (NonceReport nonce)
SaysOfNonces Unsaid message = (device : State) (drawn : List ℕ) → hears_nonces device drawn message ≡ silent device

-- a lock hears Security 0 alone
unfoldable pub hears_securely : State → List ℕ → List ℕ → Outcome
hears_securely device payload drawn =
    if begins_with payload 0x98 0x81 then hears_sealed device payload else hears_nonces device drawn (info_at payload)

-- ---- in segments (Transport Service)

-- a datagram that is whole is acknowledged and heard, and nothing is kept of it
abbrev pub acknowledged : ℕ → Outcome → Outcome
acknowledged id outcome = record {
  device = record outcome.device { reassembly = Empty };
  replies = form (TransportComplete id) ∷ outcome.replies;
}

-- a segment of the session that comes next is kept; where only other places miss their bytes, the first of them is asked for
abbrev pub assembles : State → List ℕ → Option Taken → Outcome
assembles device segment None = silent device
assembles device segment (Some (Whole datagram)) = acknowledged (id_of segment) (hears_openly device datagram)
assembles device segment (Some (Need at)) = record {
  device = record device { reassembly = kept_after device.reassembly segment };
  replies = form (TransportRequest (id_of segment) at) ∷ [];
}
assembles device segment (Some Kept) = silent (record device { reassembly = kept_after device.reassembly segment })

-- the last segment of the last session taken is answered again
abbrev pub repeats_segment : State → List ℕ → Outcome
repeats_segment device segment = record {
  device = device;
  replies = form (TransportComplete (id_of segment))
      ∷ form (status_report device (record { updates = false; id = wire_id device.sessions.taken }) device.sessions.status) ∷ [];
}

unfoldable pub hears_segment : State → List ℕ → Outcome
hears_segment device segment =
    if id_of segment == segment_session (device.sessions.taken + 1) then assembles device segment (taken_at device.reassembly segment)
    else if nat_lt 0 device.sessions.taken && (id_of segment == segment_session device.sessions.taken) && ends_its_datagram segment
    then repeats_segment device segment
    else silent device

unfoldable pub hears_in_segments : State → List ℕ → Outcome
hears_in_segments device payload = if is_segment payload then hears_segment device payload else hears_openly device payload

-- ---- a payload

abbrev pub hears_by : Kind → State → List ℕ → List ℕ → Outcome
hears_by Lock device payload drawn = hears_securely device payload drawn
hears_by Configurable device payload drawn = hears_in_segments device payload
hears_by _ device payload drawn = hears_openly device payload

-- the device that is active now
abbrev pub active : State → State
active device = record device { active_at = device.clock }

-- a payload: a device that sleeps hears nothing
unfoldable pub hears : State → List ℕ → List ℕ → Outcome
hears device payload drawn = if device.awake then hears_by device.kind (active device) payload drawn else silent device
