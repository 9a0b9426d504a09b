-- A nonce that a payload tells has eight bytes, and a payload that the chip brings is from a node.
use Rattle.std.proofs.Common.{◌≡◌, ℕ, Bool, true, false, if◌then◌else◌, List, [], ◌∷◌, length, refl, sym, ap, subst, ◌∙◌}
use Rattle.std.specs.Prelude.{Option, Some, None, Result, Ok, Err, ◌==◌}
use Rattle.std.specs.List.{AllByRecursion}
use Rattle.class_core.specs.declared.fault.ClassFault.{ClassFault}
use Rattle.class_core.specs.declared.fault.ClassFault.TheVariants.{Empty, UnknownClass, UnknownCommand, Short, BadValue, NoMemory}
use Rattle.class_core.specs.declared.message.CoreMessage.{CoreMessage}
use Rattle.class_core.specs.MessageReading.{message_at}
use Rattle.class_core.specs.Ranges.{is_node}
use Rattle.class_core.specs.Reading.{◌>>=◌, byte_at, limited_at, bits_at, switch_at, word_at, three_at, flag_at, scaled_at, nodes_at, in_class}
use Rattle.class_info.specs.declared.message.InfoMessage.{InfoMessage}
use Rattle.class_info.specs.declared.message.InfoMessage.TheVariants as infos
use Rattle.class_info.specs.InfoReading.{info_at, beside, own_at, own_by, shared_at, shared_by, sensor_binary_by, sensor_multilevel_by, sensor_report_at, notification_by, notification_at, manufacturer_by, manufacturer_at, battery_by, wake_up_by, interval_report_at, association_by, association_report_at, version_by, version_report_at, version_class_at, supervision_by, supervision_report_at, security_by, transport_by, transport_request_at, nonce_at, status_at}
use Rattle.class_info.specs.Values.{is_battery}
use Rattle.class_info.proofs.OwnLaws.{nonce_takes}
use Rattle.encap.specs.Opening.{Message, begins_with, opened_at}
use Rattle.host_heard.specs.Telling.{end_of, heard_at, heard_by, told_all, told_by, told_in}
use Rattle.host_heard.specs.declared.payload.Heard.TheVariants.{Messages, Sealed, Unread}
use Rattle.host_heard.specs.declared.told.Told.{Told}
use Rattle.host_heard.specs.declared.told.Told.TheVariants.{NonceReport}
use Rattle.proof_spoken.proofs.DeviceReports.{same_messages}

-- ---- messages

-- a Nonce Report that is read has eight bytes
abbrev IsWell : Result InfoMessage ClassFault → Type 0
IsWell (Ok (infos.NonceReport nonce)) = length nonce ≡ 8
IsWell read = Unit {0}

well_if : (b : Bool) (x y : Result InfoMessage ClassFault) → IsWell x → IsWell y → IsWell (if b then x else y)
well_if true x y one other = one
well_if false x y one other = other

well_then : {A : Type 0} (r : Result A ClassFault) (f : A → Result InfoMessage ClassFault) → ((x : A) → IsWell (f x)) → IsWell (r >>= f)
well_then (Ok x) f each = each x
well_then (Err fault) f each = tt

nonce_well : (bytes : List ℕ) → IsWell (nonce_at 2 bytes >>= λ nonce. Ok (infos.NonceReport nonce))
nonce_well bytes = by (nonce_at 2 bytes) refl
  where
    by : (r : Result (List ℕ) ClassFault) → nonce_at 2 bytes ≡ r → IsWell (r >>= λ nonce. Ok (infos.NonceReport nonce))
    by (Ok nonce) is = (nonce_takes 2 bytes nonce is).0
    by (Err fault) is = tt

sensor_binary_well : (bytes : List ℕ) (command : ℕ) → IsWell (sensor_binary_by bytes command)
sensor_binary_well bytes command = well_if (command == 2) _ _ tt (well_if (command == 3) _ _ (well_then (switch_at 2 bytes) _ (λ value. tt)) tt)

sensor_report_well : (bytes : List ℕ) → IsWell (sensor_report_at bytes)
unfolding sensor_report_at
sensor_report_well bytes = well_then (byte_at 2 bytes) _ (λ kind. well_then (scaled_at 3 bytes) _ (λ value. tt))

sensor_multilevel_well : (bytes : List ℕ) (command : ℕ) → IsWell (sensor_multilevel_by bytes command)
sensor_multilevel_well bytes command = well_if (command == 4) _ _ tt (well_if (command == 5) _ _ (sensor_report_well bytes) tt)

notification_at_well : (bytes : List ℕ) → IsWell (notification_at bytes)
unfolding notification_at
notification_at_well bytes = well_then (byte_at 2 bytes) _ (λ kind. well_then (byte_at 3 bytes) _ (λ level. tt))

notification_well : (bytes : List ℕ) (command : ℕ) → IsWell (notification_by bytes command)
notification_well bytes command = well_if (command == 5) _ _ (notification_at_well bytes) tt

manufacturer_at_well : (bytes : List ℕ) → IsWell (manufacturer_at bytes)
unfolding manufacturer_at
manufacturer_at_well bytes = well_then (word_at 2 bytes) _ (λ maker. well_then (word_at 4 bytes) _ (λ kind. well_then (word_at 6 bytes) _ (λ product. tt)))

manufacturer_well : (bytes : List ℕ) (command : ℕ) → IsWell (manufacturer_by bytes command)
manufacturer_well bytes command = well_if (command == 4) _ _ tt (well_if (command == 5) _ _ (manufacturer_at_well bytes) tt)

battery_well : (bytes : List ℕ) (command : ℕ) → IsWell (battery_by bytes command)
battery_well bytes command = well_if (command == 2) _ _ tt (well_if (command == 3) _ _ (well_then (limited_at is_battery 2 bytes) _ (λ level. tt)) tt)

interval_well : (bytes : List ℕ) → IsWell (interval_report_at bytes)
unfolding interval_report_at
interval_well bytes = well_then (three_at 2 bytes) _ (λ seconds. well_then (limited_at is_node 5 bytes) _ (λ target. tt))

wake_up_well : (bytes : List ℕ) (command : ℕ) → IsWell (wake_up_by bytes command)
wake_up_well bytes command =
    well_if (command == 5) _ _ tt (well_if (command == 6) _ _ (interval_well bytes) (well_if (command == 7) _ _ tt (well_if (command == 8) _ _ tt tt)))

association_at_well : (bytes : List ℕ) → IsWell (association_report_at bytes)
unfolding association_report_at
association_at_well bytes =
    well_then (byte_at 2 bytes) _ (λ group. well_then (byte_at 3 bytes) _ (λ most. well_then (byte_at 4 bytes) _ (λ following. well_then (nodes_at 5 bytes) _ (λ members. tt))))

association_well : (bytes : List ℕ) (command : ℕ) → IsWell (association_by bytes command)
association_well bytes command =
    well_if (command == 2) _ _ (well_then (byte_at 2 bytes) _ (λ group. tt)) (well_if (command == 3) _ _ (association_at_well bytes)
    (well_if (command == 5) _ _ tt (well_if (command == 6) _ _ (well_then (byte_at 2 bytes) _ (λ groups. tt)) tt)))

version_at_well : (bytes : List ℕ) → IsWell (version_report_at bytes)
unfolding version_report_at
version_at_well bytes =
    well_then (byte_at 2 bytes) _ (λ a. well_then (byte_at 3 bytes) _ (λ b. well_then (byte_at 4 bytes) _ (λ c. well_then (byte_at 5 bytes) _ (λ d. well_then (byte_at 6 bytes) _ (λ e. tt)))))

version_class_well : (bytes : List ℕ) → IsWell (version_class_at bytes)
unfolding version_class_at
version_class_well bytes = well_then (byte_at 2 bytes) _ (λ class. well_then (byte_at 3 bytes) _ (λ version. tt))

version_well : (bytes : List ℕ) (command : ℕ) → IsWell (version_by bytes command)
version_well bytes command =
    well_if (command == 0x11) _ _ tt (well_if (command == 0x12) _ _ (version_at_well bytes)
    (well_if (command == 0x13) _ _ (well_then (byte_at 2 bytes) _ (λ class. tt)) (well_if (command == 0x14) _ _ (version_class_well bytes) tt)))

supervision_at_well : (bytes : List ℕ) → IsWell (supervision_report_at bytes)
unfolding supervision_report_at
supervision_at_well bytes =
    well_then (flag_at 7 2 bytes) _ (λ more. well_then (flag_at 6 2 bytes) _ (λ wake. well_then (bits_at 0 6 2 bytes) _ (λ session. well_then (status_at 3 bytes) _ (λ status. well_then (byte_at 4 bytes) _ (λ duration. tt)))))

supervision_well : (bytes : List ℕ) (command : ℕ) → IsWell (supervision_by bytes command)
supervision_well bytes command = well_if (command == 2) _ _ (supervision_at_well bytes) tt

security_well : (bytes : List ℕ) (command : ℕ) → IsWell (security_by bytes command)
security_well bytes command = well_if (command == 0x40) _ _ tt (well_if (command == 0x80) _ _ (nonce_well bytes) tt)

transport_at_well : (bytes : List ℕ) → IsWell (transport_request_at bytes)
unfolding transport_request_at
transport_at_well bytes = well_then (bits_at 4 4 2 bytes) _ (λ session. well_then (bits_at 0 3 2 bytes) _ (λ high. well_then (byte_at 3 bytes) _ (λ low. tt)))

transport_well : (bytes : List ℕ) (command : ℕ) → IsWell (transport_by bytes command)
transport_well bytes command =
    well_if (command == 0xC8) _ _ (transport_at_well bytes) (well_if (command == 0xE8) _ _ (well_then (bits_at 4 4 2 bytes) _ (λ session. tt))
    (well_if (command == 0xF0) _ _ (well_then (byte_at 2 bytes) _ (λ pending. tt)) tt))

class_well : (by_command : List ℕ → ℕ → Result InfoMessage ClassFault) (bytes : List ℕ) → ((command : ℕ) → IsWell (by_command bytes command)) → IsWell (in_class by_command bytes)
unfolding in_class
class_well by_command bytes each = well_then (byte_at 1 bytes) (by_command bytes) each

own_well : (bytes : List ℕ) → IsWell (own_at bytes)
unfolding own_at
own_well bytes = well_then (byte_at 0 bytes) (own_by bytes) (λ class.
    well_if (class == 0x30) _ _ (class_well sensor_binary_by bytes (sensor_binary_well bytes))
    (well_if (class == 0x31) _ _ (class_well sensor_multilevel_by bytes (sensor_multilevel_well bytes))
    (well_if (class == 0x71) _ _ (class_well notification_by bytes (notification_well bytes))
    (well_if (class == 0x72) _ _ (class_well manufacturer_by bytes (manufacturer_well bytes))
    (well_if (class == 0x80) _ _ (class_well battery_by bytes (battery_well bytes))
    (well_if (class == 0x86) _ _ (class_well version_by bytes (version_well bytes))
    (well_if (class == 0x6C) _ _ (class_well supervision_by bytes (supervision_well bytes))
    (well_if (class == 0x98) _ _ (class_well security_by bytes (security_well bytes))
    (well_if (class == 0x55) _ _ (class_well transport_by bytes (transport_well bytes)) tt)))))))))

shared_well : (bytes : List ℕ) → IsWell (shared_at bytes)
unfolding shared_at
shared_well bytes = well_then (byte_at 0 bytes) (shared_by bytes) (λ class.
    well_if (class == 0x84) _ _ (class_well wake_up_by bytes (wake_up_well bytes))
    (well_if (class == 0x85) _ _ (class_well association_by bytes (association_well bytes))
    (well_then (byte_at 1 bytes) _ (λ command. tt))))

beside_well : (bytes : List ℕ) (read : Result CoreMessage ClassFault) → IsWell (beside bytes read)
beside_well bytes (Ok message) = tt
beside_well bytes (Err (UnknownClass class)) = own_well bytes
beside_well bytes (Err (UnknownCommand class command)) = shared_well bytes
beside_well bytes (Err Empty) = tt
beside_well bytes (Err (Short need)) = tt
beside_well bytes (Err (BadValue at)) = tt
beside_well bytes (Err NoMemory) = tt

info_well : (bytes : List ℕ) → IsWell (info_at bytes)
unfolding info_at
info_well bytes = beside_well bytes (message_at bytes)

-- ---- payloads

abbrev pub IsEightTold : Told → Type 0
IsEightTold (NonceReport nonce) = length nonce ≡ 8
IsEightTold told = Unit {0}

told_eight : (end : ℕ) (message : InfoMessage) → IsWell (Ok message) → IsEightTold (told_by end message)
told_eight end (infos.NonceReport nonce) is = is
told_eight end message is = tt

some_these : (a b : List Told) → Some a ≡ Some b → a ≡ b
some_these a b e = cc

all_told : (end : ℕ) (commands : List (List ℕ)) (messages : List Told) → told_all end commands ≡ Some messages → AllByRecursion IsEightTold messages
all_told end [] messages e = subst (λ (l : List Told). AllByRecursion IsEightTold l) (some_these [] messages e) tt
all_told end (command ∷ commands) messages e = by (all_told end commands) (info_at command) (told_all end commands) refl refl
  where
    by : ((rest : List Told) → told_all end commands ≡ Some rest → AllByRecursion IsEightTold rest) → (read : Result InfoMessage ClassFault) (later : Option (List Told)) → info_at command ≡ read → told_all end commands ≡ later → AllByRecursion IsEightTold messages
    by others (Ok message) (Some rest) is more =
        let all : told_all end (command ∷ commands) ≡ Some (told_by end message ∷ rest) = rw (is, more) refl in
        subst (λ (l : List Told). AllByRecursion IsEightTold l) (some_these (told_by end message ∷ rest) messages (sym all ∙ e))
        (told_eight end message (subst IsWell is (info_well command)), others rest more)
    by others (Ok message) None is more =
        let none : told_all end (command ∷ commands) ≡ None = rw (is, more) refl in
        absurd (let bad : ◌≡◌ {A = Option (List Told)} None (Some messages) = sym none ∙ e in cc)
    by others (Err fault) later is more =
        let none : told_all end (command ∷ commands) ≡ None = rw is refl in
        absurd (let bad : ◌≡◌ {A = Option (List Told)} None (Some messages) = sym none ∙ e in cc)

pub heard_eight : (payload : List ℕ) (messages : List Told) → heard_at payload ≡ Messages messages → AllByRecursion IsEightTold messages
unfolding heard_at
heard_eight payload messages e = by_sealed (begins_with payload 152 129) e
  where
    by_told : (end : ℕ) (commands : List (List ℕ)) (told : Option (List Told)) → told_all end commands ≡ told → heard_by told ≡ Messages messages → AllByRecursion IsEightTold messages
    by_told end commands None is here = absurd (let bad : Unread ≡ Messages messages = here in cc)
    by_told end commands (Some these) is here = all_told end commands messages (is ∙ ap Some (same_messages these messages here))

    by_opened : (opened : Option Message) → heard_by (told_in opened) ≡ Messages messages → AllByRecursion IsEightTold messages
    by_opened None here = absurd (let bad : Unread ≡ Messages messages = here in cc)
    by_opened (Some message) here = by_told (end_of message.plan.channel) message.commands (told_all (end_of message.plan.channel) message.commands) refl here

    by_sealed : (sealed : Bool) → (if sealed then Sealed else heard_by (told_in (opened_at payload))) ≡ Messages messages → AllByRecursion IsEightTold messages
    by_sealed true here = absurd (let bad : Sealed ≡ Messages messages = here in cc)
    by_sealed false here = by_opened (opened_at payload) here
