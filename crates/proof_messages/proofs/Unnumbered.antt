-- What is neither sealed nor a Nonce Report.
use Rattle.std.proofs.Common.{◌≡◌, ◌≢◌, ℕ, ◌+◌, ◌*◌, ◌/◌, ◌%◌, ◌==◌, Bool, true, false, if◌then◌else◌, Option, Some, None, List, [], ◌∷◌, length, refl, ap, sym, ◌∙◌, subst}
use Rattle.std.specs.Prelude.{Result, Ok, Err, ◌&&◌, nat_le, slice_index, take, drop}
use Rattle.zw_base.specs.declared.order.Order.{Order}
use Rattle.zw_base.specs.declared.order.Word.{Word}
use Rattle.class_core.specs.Ranges.{is_level}
use Rattle.class_core.specs.Reading.{◌>>=◌, byte_at, limited_at, bits_at, in_class}
use Rattle.class_core.specs.declared.fault.ClassFault.{ClassFault}
use Rattle.class_core.specs.declared.fault.ClassFault.TheVariants.{UnknownClass, UnknownCommand, BadValue}
use Rattle.class_core.specs.MessageReading.{message_at}
use Rattle.class_core.specs.declared.message.CoreMessage.TheVariants.{SwitchBinarySet, SwitchBinaryGet, SwitchMultilevelSet, SwitchMultilevelGet, DoorLockOperationSet, DoorLockOperationGet, ThermostatModeGet}
use Rattle.class_info.specs.declared.message.InfoMessage.{InfoMessage}
use Rattle.class_info.specs.declared.message.InfoMessage.TheVariants.{Core, NonceGet, NonceReport, WakeUpNoMoreInformation, SensorMultilevelGet}
use Rattle.class_info.specs.InfoReading.{info_at, own_at, transport_by, transport_request_at}
use Rattle.class_info.specs.InfoSpelling.{form, IsInRange}
use Rattle.class_info.proofs.InfoLaws.{again}
use Rattle.class_info.proofs.FormLaws.{form_spells}
use Rattle.encap.specs.Opening.{begins_with}
use Rattle.encap.specs.Written.{checked_form, addressed_form, supervised_form}
use Rattle.encap.specs.declared.plan.Ends.{Ends}
use Rattle.encap.specs.declared.plan.Outer.{Outer}
use Rattle.encap.specs.declared.plan.Outer.TheVariants.{None as no_outer, Crc16, Security, Transport}
use Rattle.transport_segments.specs.Segment.{with_check, segment_text}
use Rattle.air_frames.specs.Nonces.{nonce_in}
use Rattle.host_orders.specs.Wrapping.{ends_of, supervised_of, supervised_text, message_of}
use Rattle.host_orders.specs.Messages.{switch_of, level_of, lock_of, value_message}
use Rattle.host_orders.specs.Errands.{plain_plan, plain_text, sendable_of, send_text, gettable_of, get_command, get_text}
use Rattle.host_orders.specs.declared.carriage.Carriage.{Carriage}
use Rattle.host_orders.specs.declared.actuator.Actuator.{Actuator}
use Rattle.host_orders.specs.declared.actuator.Actuator.TheVariants as actuators
use Rattle.host_orders.specs.declared.errand.Gettable.{Gettable}
use Rattle.host_orders.specs.declared.errand.Gettable.TheVariants as gettables
use Rattle.proof_messages.specs.Payloads.{IsUnnumbered}
use Rattle.proof_messages.proofs.Bare.{never_begins}
use Rattle.proof_messages.proofs.SessionMessages.{crc_unread, channel_unread, get_unread as supervised_unread}
use Rattle.proof_messages.proofs.DeviceReports.{same_ok as ok_same}

-- ---- a message that is spelled

abbrev IsNoReport : InfoMessage → Type 0
IsNoReport (NonceReport nonce) = ⊥
IsNoReport _ = Unit {0}

ok_never : (fault : ClassFault) (m : InfoMessage) → ◌≡◌ {A = Result InfoMessage ClassFault} (Err fault) (Ok m) → ⊥
ok_never fault m e = cc

form_unnumbered : (m : InfoMessage) → IsInRange m → IsNoReport m → begins_with (form m) 0x98 0x81 ≡ false → nonce_in (form m) ≡ None → IsUnnumbered (form m)
form_unnumbered m range other unsealed none = record {
  not_sealed = unsealed;
  no_report = λ nonce e. subst IsNoReport (ok_same m (NonceReport nonce) (sym (again (form m) m (form_spells m range)) ∙ e)) other;
  no_nonce = none;
}

pub nonce_get_unnumbered : IsUnnumbered (form NonceGet)
nonce_get_unnumbered = form_unnumbered NonceGet tt tt refl refl

pub no_more_unnumbered : IsUnnumbered (form WakeUpNoMoreInformation)
no_more_unnumbered = form_unnumbered WakeUpNoMoreInformation tt tt refl refl

-- ---- in wraps

third_false : (a b : Bool) → a && (false && b) ≡ false
third_false true b = refl
third_false false b = refl

-- of another class, and read as no Nonce Report
of_class : (class : ℕ) (rest : List ℕ) → (class == 0x98) ≡ false → ((nonce : List ℕ) → info_at (class ∷ rest) ≢ Ok (NonceReport nonce)) → IsUnnumbered (class ∷ rest)
of_class class rest other unread = record {
  not_sealed = ap (λ (b : Bool). (nat_le 2 (length (class ∷ rest)) && b) && (slice_index (class ∷ rest) 1 == 0x81)) other ∙ never_begins (nat_le 2 (length (class ∷ rest))) (slice_index (class ∷ rest) 1 == 0x81);
  no_report = unread;
  no_nonce = ap (λ (b : Bool). if nat_le 10 (length (class ∷ rest)) && (b && (slice_index (class ∷ rest) 1 == 0x80)) then Some (take 8 (drop 2 (class ∷ rest))) else None) other
      ∙ ap (λ (b : Bool). if b then Some (take 8 (drop 2 (class ∷ rest))) else None) (third_false (nat_le 10 (length (class ∷ rest))) (slice_index (class ∷ rest) 1 == 0x80));
}

crc_unnumbered : (rest : List ℕ) → IsUnnumbered (86 ∷ 1 ∷ rest)
crc_unnumbered rest = of_class 86 (1 ∷ rest) refl (λ nonce e. ok_never (UnknownClass 86) (NonceReport nonce) (sym (crc_unread rest) ∙ e))

channel_unnumbered : (rest : List ℕ) → IsUnnumbered (96 ∷ 13 ∷ rest)
channel_unnumbered rest = of_class 96 (13 ∷ rest) refl (λ nonce e. ok_never (UnknownClass 96) (NonceReport nonce) (sym (channel_unread rest) ∙ e))

supervised_unnumbered : (rest : List ℕ) → IsUnnumbered (108 ∷ 1 ∷ rest)
supervised_unnumbered rest = of_class 108 (1 ∷ rest) refl (λ nonce e. ok_never (UnknownCommand 108 1) (NonceReport nonce) (sym (supervised_unread rest) ∙ e))

wrapped_by : (channel : Option Ends) (outer : Outer) (command : List ℕ) → IsUnnumbered command → IsUnnumbered (checked_form outer (addressed_form channel command))
wrapped_by channel Crc16 command is = crc_unnumbered _
wrapped_by None no_outer command is = is
wrapped_by None Security command is = is
wrapped_by None Transport command is = is
wrapped_by (Some ends) no_outer command is = channel_unnumbered _
wrapped_by (Some ends) Security command is = channel_unnumbered _
wrapped_by (Some ends) Transport command is = channel_unnumbered _

pub message_unnumbered : (carriage : Carriage) (order : Order) (session : ℕ) → IsUnnumbered (message_of carriage order session)
message_unnumbered carriage order session =
    wrapped_by (ends_of order.end) carriage.outer (supervised_form (Some (supervised_of carriage.actuator order session)) (supervised_text carriage.actuator order)) (supervised_unnumbered _)

pub wrapped_unnumbered : (classes : List ℕ) (end : ℕ) (command : List ℕ) → IsUnnumbered command → IsUnnumbered (plain_text classes end command)
wrapped_unnumbered classes end command is = wrapped_by (ends_of end) (plain_plan classes end command).outer command is

pub get_unnumbered : (classes : List ℕ) (end : ℕ) → IsUnnumbered (get_text classes end)
get_unnumbered classes end = by (gettable_of classes)
  where
    by : (gettable : Gettable) → IsUnnumbered (plain_text classes end (get_command gettable))
    by gettables.Binary = wrapped_unnumbered classes end (get_command gettables.Binary) (form_unnumbered (Core SwitchBinaryGet) tt tt refl refl)
    by gettables.Multilevel = wrapped_unnumbered classes end (get_command gettables.Multilevel) (form_unnumbered (Core SwitchMultilevelGet) tt tt refl refl)
    by gettables.Lock = wrapped_unnumbered classes end (get_command gettables.Lock) (form_unnumbered (Core DoorLockOperationGet) tt tt refl refl)
    by gettables.Thermostat = wrapped_unnumbered classes end (get_command gettables.Thermostat) (form_unnumbered (Core ThermostatModeGet) tt tt refl refl)
    by gettables.Sensor = wrapped_unnumbered classes end (get_command gettables.Sensor) (form_unnumbered SensorMultilevelGet tt tt refl refl)

-- ---- a Set that is not reported

level_unread : (level : ℕ) → is_level level ≡ false → info_at (38 ∷ 1 ∷ level ∷ []) ≡ Err (BadValue 2)
unfolding info_at message_at limited_at byte_at in_class
level_unread level bad = rw bad refl

level_unnumbered : (level : ℕ) (b : Bool) → is_level level ≡ b → IsUnnumbered (form (Core (SwitchMultilevelSet level)))
level_unnumbered level true e = form_unnumbered (Core (SwitchMultilevelSet level)) e tt refl refl
level_unnumbered level false e = record {
  not_sealed = refl;
  no_report = λ nonce is. ok_never (BadValue 2) (NonceReport nonce) (sym (level_unread level e) ∙ is);
  no_nonce = refl;
}

set_unnumbered : (actuator : Actuator) (word : Word) → IsUnnumbered (form (Core (value_message actuator word)))
set_unnumbered actuators.Binary word = form_unnumbered (Core (SwitchBinarySet (switch_of word))) tt tt refl refl
set_unnumbered actuators.Multilevel word = level_unnumbered (level_of word) (is_level (level_of word)) refl
set_unnumbered actuators.Lock word = form_unnumbered (Core (DoorLockOperationSet (lock_of word))) tt tt refl refl

pub send_unnumbered : (classes : List ℕ) (word : Word) → IsUnnumbered (send_text classes word)
send_unnumbered classes word = wrapped_unnumbered classes 0 (form (Core (value_message (sendable_of classes) word))) (set_unnumbered (sendable_of classes) word)

-- ---- a segment

abbrev NeverReports : Result InfoMessage ClassFault → Type 0
NeverReports (Ok m) = IsNoReport m
NeverReports (Err fault) = Unit {0}

then_never : {A : Type 0} (read : Result A ClassFault) (next : A → Result InfoMessage ClassFault) → ((x : A) → NeverReports (next x)) → NeverReports (read >>= next)
then_never (Ok x) next never = never x
then_never (Err fault) next never = tt

either_never : (b : Bool) (x y : Result InfoMessage ClassFault) → NeverReports x → NeverReports y → NeverReports (if b then x else y)
either_never true x y of_x of_y = of_x
either_never false x y of_x of_y = of_y

request_never : (bytes : List ℕ) → NeverReports (transport_request_at bytes)
unfolding transport_request_at
request_never bytes = then_never (bits_at 4 4 2 bytes) _ (λ session. then_never (bits_at 0 3 2 bytes) _ (λ high. then_never (byte_at 3 bytes) _ (λ low. tt)))

transport_never : (bytes : List ℕ) (command : ℕ) → NeverReports (transport_by bytes command)
transport_never bytes command =
    either_never (command == 0xC8) _ _ (request_never bytes)
    (either_never (command == 0xE8) _ _ (then_never (bits_at 4 4 2 bytes) _ (λ session. tt))
    (either_never (command == 0xF0) _ _ (then_never (byte_at 2 bytes) _ (λ pending. tt)) tt))

transport_read : (rest : List ℕ) → info_at (85 ∷ rest) ≡ in_class transport_by (85 ∷ rest)
unfolding info_at message_at own_at byte_at
transport_read rest = refl

transport_unnumbered : (rest : List ℕ) → IsUnnumbered (85 ∷ rest)
unfolding in_class
transport_unnumbered rest =
    of_class 85 rest refl (λ nonce e. subst NeverReports (sym (transport_read rest) ∙ e) (then_never (byte_at 1 (85 ∷ rest)) (transport_by (85 ∷ rest)) (transport_never (85 ∷ rest))))

pub segment_unnumbered : (id size offset : ℕ) (payload : List ℕ) → IsUnnumbered (segment_text id size offset payload)
segment_unnumbered id size offset payload = by (offset == 0)
  where
    by : (b : Bool) → IsUnnumbered (with_check (if b then 85 ∷ (192 + size / 256) ∷ size % 256 ∷ id * 16 ∷ payload else 85 ∷ (224 + size / 256) ∷ size % 256 ∷ (id * 16 + offset / 256) ∷ offset % 256 ∷ payload))
    by true = transport_unnumbered _
    by false = transport_unnumbered _
