-- Each message both ways: what is read is spelled so, and what is spelled so is read.
use Rattle.std.proofs.Common.{◌≡◌, ℕ, ◌+◌, ◌*◌, ◌/◌, ◌%◌, ◌<◌, ◌≤◌, eqb, Some, Result, Ok, Err, List, length, refl, sym, ap, subst, ◌∙◌, inl, inr, arith}
use Rattle.std.specs.Prelude.{slice_get, IfOk}
use Rattle.std.proofs.lemmas.Bool.{eqb-true}
use Rattle.std.proofs.lemmas.Option.{slice_get_within, get_or_from_slice_get}
use Rattle.class_core.specs.declared.fault.ClassFault.{ClassFault}
use Rattle.class_core.specs.declared.fault.ClassFault.TheVariants.{Empty, UnknownClass, UnknownCommand, Short, BadValue, NoMemory}
use Rattle.class_core.specs.Reading.{◌>>=◌, Gives, byte_at, limited_at, bits_at, switch_at, word_at, three_at, flag_at, scaled_at, nodes_at, in_class}
use Rattle.class_core.proofs.Steps.{bind_ok, chosen, ok_is, not_ok, made_of}
use Rattle.class_core.proofs.FieldLaws.{IsBytes, byte_takes, byte_again, limited_takes, limited_again, switch_takes, switch_again, bits_takes, bits_again, has_of, flag_takes, flag_again, word_takes, word_again, three_takes, three_again, scaled_takes, scaled_again, nodes_take, nodes_again}
use Rattle.class_core.specs.Ranges.{is_node}
use Rattle.class_core.proofs.Heads.{Headed, narrowed, class_takes}
use Rattle.class_core.specs.declared.message.CoreMessage.{CoreMessage}
use Rattle.class_core.specs.MessageReading.{wake_up_by as core_wake_up_by, association_by as core_association_by, message_by, message_at}
use Rattle.class_core.proofs.MessageLaws.{by_class, takes as core_takes, again as core_again}
use Rattle.class_info.specs.declared.message.InfoMessage.{InfoMessage}
use Rattle.class_info.specs.declared.message.InfoMessage.TheVariants.{Core, SensorBinaryGet, SensorBinaryReport, SensorMultilevelGet, SensorMultilevelReport, NotificationReport, ManufacturerSpecificGet, ManufacturerSpecificReport, BatteryGet, BatteryReport, WakeUpIntervalGet, WakeUpIntervalReport, WakeUpNotification, WakeUpNoMoreInformation, AssociationGet, AssociationReport, AssociationGroupingsGet, AssociationGroupingsReport, VersionGet, VersionReport, VersionClassGet, VersionClassReport, SupervisionReport, NonceGet, NonceReport, TransportRequest, TransportComplete, TransportWait}
use Rattle.class_core.specs.Fields.{flag}
use Rattle.class_info.specs.Values.{is_battery}
use Rattle.class_info.specs.InfoSpelling.{Spells}
use Rattle.class_info.specs.InfoReading.{status_at, nonce_at, sensor_binary_by, sensor_report_at, sensor_multilevel_by, notification_at, notification_by, manufacturer_at, manufacturer_by, battery_by, interval_report_at, wake_up_by, association_report_at, association_by, version_report_at, version_class_at, version_by, supervision_report_at, supervision_by, security_by, transport_request_at, transport_by, own_by, own_at, shared_by, shared_at, beside, info_at}
use Rattle.class_info.proofs.OwnLaws.{status_takes, status_again, nonce_takes, nonce_again}

-- ---- rows of several fields

sensor_report_takes : (bytes : List ℕ) (m : InfoMessage) → IsBytes bytes → Headed bytes 0x31 5 → sensor_report_at bytes ≡ Ok m → Spells m bytes
unfolding sensor_report_at
sensor_report_takes bytes m fits h e =
    let a = bind_ok (byte_at 2 bytes) _ m e in
    let b = made_of (scaled_at 3 bytes) (λ x. SensorMultilevelReport a.0 x) m a.2 in
    subst (λ (x : InfoMessage). Spells x bytes) b.2 (tt, (h.class_is, (h.command_is, (byte_takes 2 bytes a.0 a.1, scaled_takes 3 bytes b.0 fits b.1))))

notification_row_takes : (bytes : List ℕ) (m : InfoMessage) → Headed bytes 0x71 5 → notification_at bytes ≡ Ok m → Spells m bytes
unfolding notification_at
notification_row_takes bytes m h e =
    let a = bind_ok (byte_at 2 bytes) _ m e in
    let b = made_of (byte_at 3 bytes) (λ x. NotificationReport a.0 x) m a.2 in
    subst (λ (x : InfoMessage). Spells x bytes) b.2 (tt, (h.class_is, (h.command_is, (byte_takes 2 bytes a.0 a.1, (byte_takes 3 bytes b.0 b.1, tt)))))

manufacturer_row_takes : (bytes : List ℕ) (m : InfoMessage) → IsBytes bytes → Headed bytes 0x72 5 → manufacturer_at bytes ≡ Ok m → Spells m bytes
unfolding manufacturer_at
manufacturer_row_takes bytes m fits h e =
    let a = bind_ok (word_at 2 bytes) _ m e in
    let b = bind_ok (word_at 4 bytes) _ m a.2 in
    let c = made_of (word_at 6 bytes) (λ x. ManufacturerSpecificReport a.0 b.0 x) m b.2 in
    let p = word_takes 2 bytes a.0 fits a.1 in
    let q = word_takes 4 bytes b.0 fits b.1 in
    let r = word_takes 6 bytes c.0 fits c.1 in
    subst (λ (x : InfoMessage). Spells x bytes) c.2 (tt, (h.class_is, (h.command_is, (p.0, (p.1.0, (q.0, (q.1.0, (r.0, (r.1.0, tt)))))))))

interval_report_takes : (bytes : List ℕ) (m : InfoMessage) → IsBytes bytes → Headed bytes 0x84 6 → interval_report_at bytes ≡ Ok m → Spells m bytes
unfolding interval_report_at
interval_report_takes bytes m fits h e =
    let a = bind_ok (three_at 2 bytes) _ m e in
    let b = made_of (limited_at is_node 5 bytes) (λ x. WakeUpIntervalReport a.0 x) m a.2 in
    let p = three_takes 2 bytes a.0 fits a.1 in
    subst (λ (x : InfoMessage). Spells x bytes) b.2 (tt, (h.class_is, (h.command_is, (p.0, (p.1.0, (p.1.1.0, (limited_takes is_node 5 bytes b.0 b.1, tt)))))))

association_report_takes : (bytes : List ℕ) (m : InfoMessage) → Headed bytes 0x85 3 → association_report_at bytes ≡ Ok m → Spells m bytes
unfolding association_report_at
association_report_takes bytes m h e =
    let a = bind_ok (byte_at 2 bytes) _ m e in
    let b = bind_ok (byte_at 3 bytes) _ m a.2 in
    let c = bind_ok (byte_at 4 bytes) _ m b.2 in
    let d = made_of (nodes_at 5 bytes) (λ x. AssociationReport a.0 b.0 c.0 x) m c.2 in
    subst (λ (x : InfoMessage). Spells x bytes) d.2 (tt, (h.class_is, (h.command_is, (byte_takes 2 bytes a.0 a.1, (byte_takes 3 bytes b.0 b.1, (byte_takes 4 bytes c.0 c.1, nodes_take 5 bytes d.0 d.1))))))

version_report_takes : (bytes : List ℕ) (m : InfoMessage) → Headed bytes 0x86 0x12 → version_report_at bytes ≡ Ok m → Spells m bytes
unfolding version_report_at
version_report_takes bytes m h e =
    let a = bind_ok (byte_at 2 bytes) _ m e in
    let b = bind_ok (byte_at 3 bytes) _ m a.2 in
    let c = bind_ok (byte_at 4 bytes) _ m b.2 in
    let d = bind_ok (byte_at 5 bytes) _ m c.2 in
    let f = made_of (byte_at 6 bytes) (λ x. VersionReport a.0 b.0 c.0 d.0 x) m d.2 in
    subst (λ (x : InfoMessage). Spells x bytes) f.2 (tt, (h.class_is, (h.command_is, (byte_takes 2 bytes a.0 a.1, (byte_takes 3 bytes b.0 b.1, (byte_takes 4 bytes c.0 c.1, (byte_takes 5 bytes d.0 d.1, (byte_takes 6 bytes f.0 f.1, tt))))))))

version_class_takes : (bytes : List ℕ) (m : InfoMessage) → Headed bytes 0x86 0x14 → version_class_at bytes ≡ Ok m → Spells m bytes
unfolding version_class_at
version_class_takes bytes m h e =
    let a = bind_ok (byte_at 2 bytes) _ m e in
    let b = made_of (byte_at 3 bytes) (λ x. VersionClassReport a.0 x) m a.2 in
    subst (λ (x : InfoMessage). Spells x bytes) b.2 (tt, (h.class_is, (h.command_is, (byte_takes 2 bytes a.0 a.1, (byte_takes 3 bytes b.0 b.1, tt)))))

supervision_report_takes : (bytes : List ℕ) (m : InfoMessage) → Headed bytes 0x6C 2 → supervision_report_at bytes ≡ Ok m → Spells m bytes
unfolding supervision_report_at
supervision_report_takes bytes m h e =
    let a = bind_ok (flag_at 7 2 bytes) _ m e in
    let w = bind_ok (flag_at 6 2 bytes) _ m a.2 in
    let b = bind_ok (bits_at 0 6 2 bytes) _ m w.2 in
    let c = bind_ok (status_at 3 bytes) _ m b.2 in
    let d = made_of (byte_at 4 bytes) (λ x. SupervisionReport a.0 w.0 b.0 c.0 x) m c.2 in
    let more = flag_takes 7 2 bytes a.0 a.1 in
    let wake = flag_takes 6 2 bytes w.0 w.1 in
    let session = bits_takes 0 6 2 bytes b.0 b.1 in
    subst (λ (x : InfoMessage). Spells x bytes) d.2 (tt, (h.class_is, (h.command_is, ((more.byte, more.stands, (more.has, (has_of 6 1 2 bytes (flag w.0) more.byte wake more.stands, (has_of 0 6 2 bytes b.0 more.byte session more.stands, tt)))), (status_takes 3 bytes c.0 c.1, (byte_takes 4 bytes d.0 d.1, tt))))))

transport_request_takes : (bytes : List ℕ) (m : InfoMessage) → IsBytes bytes → Headed bytes 0x55 0xC8 → transport_request_at bytes ≡ Ok m → Spells m bytes
unfolding transport_request_at
transport_request_takes bytes m fits h e =
    let a = bind_ok (bits_at 4 4 2 bytes) _ m e in
    let b = bind_ok (bits_at 0 3 2 bytes) _ m a.2 in
    let c = made_of (byte_at 3 bytes) (λ x. TransportRequest a.0 (b.0 * 256 + x)) m b.2 in
    let session = bits_takes 4 4 2 bytes a.0 a.1 in
    let high = bits_takes 0 3 2 bytes b.0 b.1 in
    let low = byte_takes 3 bytes c.0 c.1 in
    let small : c.0 < 256 = rw (← get_or_from_slice_get bytes 3 c.0 0 low) (fits 3) in
    let upper : b.0 ≡ (b.0 * 256 + c.0) / 256 = omega arith in
    let lower : c.0 ≡ (b.0 * 256 + c.0) % 256 = omega arith in
    subst (λ (x : InfoMessage). Spells x bytes) c.2 (tt, (h.class_is, (h.command_is, ((session.byte, session.stands, (session.has, (has_of 0 3 2 bytes b.0 session.byte high session.stands ∙ upper, tt))), (low ∙ ap Some lower, tt)))))

-- ---- each class, by its command

sensor_binary_takes : (bytes : List ℕ) (c : ℕ) (m : InfoMessage) → IsBytes bytes → Headed bytes 0x30 c → sensor_binary_by bytes c ≡ Ok m → Spells m bytes
sensor_binary_takes bytes c m fits h e =
    elim (chosen (eqb c 2) _ _ _ e) [
      | inl p ↦ let n = narrowed bytes 0x30 c 2 h p.0 in subst (λ (x : InfoMessage). Spells x bytes) (ok_is SensorBinaryGet m p.1) (tt, (n.class_is, (n.command_is, tt)))
      | inr p ↦
          elim (chosen (eqb c 3) _ _ _ p.1) [
            | inl q ↦ let n = narrowed bytes 0x30 c 3 h q.0 in let v = made_of (switch_at 2 bytes) SensorBinaryReport m q.1 in subst (λ (x : InfoMessage). Spells x bytes) v.2 (tt, (n.class_is, (n.command_is, (switch_takes 2 bytes v.0 v.1, tt))))
            | inr q ↦ absurd (not_ok (UnknownCommand 0x30 c) m q.1)
          ]
    ]

sensor_multilevel_takes : (bytes : List ℕ) (c : ℕ) (m : InfoMessage) → IsBytes bytes → Headed bytes 0x31 c → sensor_multilevel_by bytes c ≡ Ok m → Spells m bytes
sensor_multilevel_takes bytes c m fits h e =
    elim (chosen (eqb c 4) _ _ _ e) [
      | inl p ↦ let n = narrowed bytes 0x31 c 4 h p.0 in subst (λ (x : InfoMessage). Spells x bytes) (ok_is SensorMultilevelGet m p.1) (tt, (n.class_is, (n.command_is, tt)))
      | inr p ↦
          elim (chosen (eqb c 5) _ _ _ p.1) [
            | inl q ↦ sensor_report_takes bytes m fits (narrowed bytes 0x31 c 5 h q.0) q.1
            | inr q ↦ absurd (not_ok (UnknownCommand 0x31 c) m q.1)
          ]
    ]

notification_takes : (bytes : List ℕ) (c : ℕ) (m : InfoMessage) → IsBytes bytes → Headed bytes 0x71 c → notification_by bytes c ≡ Ok m → Spells m bytes
notification_takes bytes c m fits h e =
    elim (chosen (eqb c 5) _ _ _ e) [
      | inl p ↦ notification_row_takes bytes m (narrowed bytes 0x71 c 5 h p.0) p.1
      | inr p ↦ absurd (not_ok (UnknownCommand 0x71 c) m p.1)
    ]

manufacturer_takes : (bytes : List ℕ) (c : ℕ) (m : InfoMessage) → IsBytes bytes → Headed bytes 0x72 c → manufacturer_by bytes c ≡ Ok m → Spells m bytes
manufacturer_takes bytes c m fits h e =
    elim (chosen (eqb c 4) _ _ _ e) [
      | inl p ↦ let n = narrowed bytes 0x72 c 4 h p.0 in subst (λ (x : InfoMessage). Spells x bytes) (ok_is ManufacturerSpecificGet m p.1) (tt, (n.class_is, (n.command_is, tt)))
      | inr p ↦
          elim (chosen (eqb c 5) _ _ _ p.1) [
            | inl q ↦ manufacturer_row_takes bytes m fits (narrowed bytes 0x72 c 5 h q.0) q.1
            | inr q ↦ absurd (not_ok (UnknownCommand 0x72 c) m q.1)
          ]
    ]

battery_takes : (bytes : List ℕ) (c : ℕ) (m : InfoMessage) → IsBytes bytes → Headed bytes 0x80 c → battery_by bytes c ≡ Ok m → Spells m bytes
battery_takes bytes c m fits h e =
    elim (chosen (eqb c 2) _ _ _ e) [
      | inl p ↦ let n = narrowed bytes 0x80 c 2 h p.0 in subst (λ (x : InfoMessage). Spells x bytes) (ok_is BatteryGet m p.1) (tt, (n.class_is, (n.command_is, tt)))
      | inr p ↦
          elim (chosen (eqb c 3) _ _ _ p.1) [
            | inl q ↦ let n = narrowed bytes 0x80 c 3 h q.0 in let v = made_of (limited_at is_battery 2 bytes) BatteryReport m q.1 in subst (λ (x : InfoMessage). Spells x bytes) v.2 (tt, (n.class_is, (n.command_is, (limited_takes is_battery 2 bytes v.0 v.1, tt))))
            | inr q ↦ absurd (not_ok (UnknownCommand 0x80 c) m q.1)
          ]
    ]

version_takes : (bytes : List ℕ) (c : ℕ) (m : InfoMessage) → IsBytes bytes → Headed bytes 0x86 c → version_by bytes c ≡ Ok m → Spells m bytes
version_takes bytes c m fits h e =
    elim (chosen (eqb c 0x11) _ _ _ e) [
      | inl p ↦ let n = narrowed bytes 0x86 c 0x11 h p.0 in subst (λ (x : InfoMessage). Spells x bytes) (ok_is VersionGet m p.1) (tt, (n.class_is, (n.command_is, tt)))
      | inr p ↦
          elim (chosen (eqb c 0x12) _ _ _ p.1) [
            | inl q ↦ version_report_takes bytes m (narrowed bytes 0x86 c 0x12 h q.0) q.1
            | inr q ↦
                elim (chosen (eqb c 0x13) _ _ _ q.1) [
                  | inl r ↦ let n = narrowed bytes 0x86 c 0x13 h r.0 in let v = made_of (byte_at 2 bytes) VersionClassGet m r.1 in subst (λ (x : InfoMessage). Spells x bytes) v.2 (tt, (n.class_is, (n.command_is, (byte_takes 2 bytes v.0 v.1, tt))))
                  | inr r ↦
                      elim (chosen (eqb c 0x14) _ _ _ r.1) [
                        | inl s ↦ version_class_takes bytes m (narrowed bytes 0x86 c 0x14 h s.0) s.1
                        | inr s ↦ absurd (not_ok (UnknownCommand 0x86 c) m s.1)
                      ]
                ]
          ]
    ]

supervision_takes : (bytes : List ℕ) (c : ℕ) (m : InfoMessage) → IsBytes bytes → Headed bytes 0x6C c → supervision_by bytes c ≡ Ok m → Spells m bytes
supervision_takes bytes c m fits h e =
    elim (chosen (eqb c 2) _ _ _ e) [
      | inl p ↦ supervision_report_takes bytes m (narrowed bytes 0x6C c 2 h p.0) p.1
      | inr p ↦ absurd (not_ok (UnknownCommand 0x6C c) m p.1)
    ]

security_takes : (bytes : List ℕ) (c : ℕ) (m : InfoMessage) → IsBytes bytes → Headed bytes 0x98 c → security_by bytes c ≡ Ok m → Spells m bytes
security_takes bytes c m fits h e =
    elim (chosen (eqb c 0x40) _ _ _ e) [
      | inl p ↦ let n = narrowed bytes 0x98 c 0x40 h p.0 in subst (λ (x : InfoMessage). Spells x bytes) (ok_is NonceGet m p.1) (tt, (n.class_is, (n.command_is, tt)))
      | inr p ↦
          elim (chosen (eqb c 0x80) _ _ _ p.1) [
            | inl q ↦ let n = narrowed bytes 0x98 c 0x80 h q.0 in let v = made_of (nonce_at 2 bytes) NonceReport m q.1 in let b = nonce_takes 2 bytes v.0 v.1 in subst (λ (x : InfoMessage). Spells x bytes) v.2 (b.0, (n.class_is, (n.command_is, b.1)))
            | inr q ↦ absurd (not_ok (UnknownCommand 0x98 c) m q.1)
          ]
    ]

transport_takes : (bytes : List ℕ) (c : ℕ) (m : InfoMessage) → IsBytes bytes → Headed bytes 0x55 c → transport_by bytes c ≡ Ok m → Spells m bytes
transport_takes bytes c m fits h e =
    elim (chosen (eqb c 0xC8) _ _ _ e) [
      | inl p ↦ transport_request_takes bytes m fits (narrowed bytes 0x55 c 0xC8 h p.0) p.1
      | inr p ↦
          elim (chosen (eqb c 0xE8) _ _ _ p.1) [
            | inl q ↦ let n = narrowed bytes 0x55 c 0xE8 h q.0 in let v = made_of (bits_at 4 4 2 bytes) TransportComplete m q.1 in let b = bits_takes 4 4 2 bytes v.0 v.1 in subst (λ (x : InfoMessage). Spells x bytes) v.2 (tt, (n.class_is, (n.command_is, ((b.byte, b.stands, (b.has, tt)), tt))))
            | inr q ↦
                elim (chosen (eqb c 0xF0) _ _ _ q.1) [
                  | inl r ↦ let n = narrowed bytes 0x55 c 0xF0 h r.0 in let v = made_of (byte_at 2 bytes) TransportWait m r.1 in subst (λ (x : InfoMessage). Spells x bytes) v.2 (tt, (n.class_is, (n.command_is, (byte_takes 2 bytes v.0 v.1, tt))))
                  | inr r ↦ absurd (not_ok (UnknownCommand 0x55 c) m r.1)
                ]
          ]
    ]

wake_up_takes : (bytes : List ℕ) (c : ℕ) (m : InfoMessage) → IsBytes bytes → Headed bytes 0x84 c → wake_up_by bytes c ≡ Ok m → Spells m bytes
wake_up_takes bytes c m fits h e =
    elim (chosen (eqb c 5) _ _ _ e) [
      | inl p ↦ let n = narrowed bytes 0x84 c 5 h p.0 in subst (λ (x : InfoMessage). Spells x bytes) (ok_is WakeUpIntervalGet m p.1) (tt, (n.class_is, (n.command_is, tt)))
      | inr p ↦
          elim (chosen (eqb c 6) _ _ _ p.1) [
            | inl q ↦ interval_report_takes bytes m fits (narrowed bytes 0x84 c 6 h q.0) q.1
            | inr q ↦
                elim (chosen (eqb c 7) _ _ _ q.1) [
                  | inl r ↦ let n = narrowed bytes 0x84 c 7 h r.0 in subst (λ (x : InfoMessage). Spells x bytes) (ok_is WakeUpNotification m r.1) (tt, (n.class_is, (n.command_is, tt)))
                  | inr r ↦
                      elim (chosen (eqb c 8) _ _ _ r.1) [
                        | inl s ↦ let n = narrowed bytes 0x84 c 8 h s.0 in subst (λ (x : InfoMessage). Spells x bytes) (ok_is WakeUpNoMoreInformation m s.1) (tt, (n.class_is, (n.command_is, tt)))
                        | inr s ↦ absurd (not_ok (UnknownCommand 0x84 c) m s.1)
                      ]
                ]
          ]
    ]

association_takes : (bytes : List ℕ) (c : ℕ) (m : InfoMessage) → IsBytes bytes → Headed bytes 0x85 c → association_by bytes c ≡ Ok m → Spells m bytes
association_takes bytes c m fits h e =
    elim (chosen (eqb c 2) _ _ _ e) [
      | inl p ↦ let n = narrowed bytes 0x85 c 2 h p.0 in let v = made_of (byte_at 2 bytes) AssociationGet m p.1 in subst (λ (x : InfoMessage). Spells x bytes) v.2 (tt, (n.class_is, (n.command_is, (byte_takes 2 bytes v.0 v.1, tt))))
      | inr p ↦
          elim (chosen (eqb c 3) _ _ _ p.1) [
            | inl q ↦ association_report_takes bytes m (narrowed bytes 0x85 c 3 h q.0) q.1
            | inr q ↦
                elim (chosen (eqb c 5) _ _ _ q.1) [
                  | inl r ↦ let n = narrowed bytes 0x85 c 5 h r.0 in subst (λ (x : InfoMessage). Spells x bytes) (ok_is AssociationGroupingsGet m r.1) (tt, (n.class_is, (n.command_is, tt)))
                  | inr r ↦
                      elim (chosen (eqb c 6) _ _ _ r.1) [
                        | inl s ↦ let n = narrowed bytes 0x85 c 6 h s.0 in let v = made_of (byte_at 2 bytes) AssociationGroupingsReport m s.1 in subst (λ (x : InfoMessage). Spells x bytes) v.2 (tt, (n.class_is, (n.command_is, (byte_takes 2 bytes v.0 v.1, tt))))
                        | inr s ↦ absurd (not_ok (UnknownCommand 0x85 c) m s.1)
                      ]
                ]
          ]
    ]

-- ---- the class

own_by_takes : (bytes : List ℕ) (class : ℕ) (m : InfoMessage) → IsBytes bytes → slice_get bytes 0 ≡ Some class → own_by bytes class ≡ Ok m → Spells m bytes
own_by_takes bytes class m fits s e =
    elim (chosen (eqb class 0x30) _ _ _ e) [
      | inl a ↦ class_takes (λ (x : InfoMessage). Spells x bytes) bytes 0x30 m sensor_binary_by (s ∙ ap Some (eqb-true _ _ a.0)) (λ k. sensor_binary_takes bytes k m fits) a.1
      | inr a ↦
          elim (chosen (eqb class 0x31) _ _ _ a.1) [
            | inl b ↦ class_takes (λ (x : InfoMessage). Spells x bytes) bytes 0x31 m sensor_multilevel_by (s ∙ ap Some (eqb-true _ _ b.0)) (λ k. sensor_multilevel_takes bytes k m fits) b.1
            | inr b ↦
                elim (chosen (eqb class 0x71) _ _ _ b.1) [
                  | inl c ↦ class_takes (λ (x : InfoMessage). Spells x bytes) bytes 0x71 m notification_by (s ∙ ap Some (eqb-true _ _ c.0)) (λ k. notification_takes bytes k m fits) c.1
                  | inr c ↦
                      elim (chosen (eqb class 0x72) _ _ _ c.1) [
                        | inl d ↦ class_takes (λ (x : InfoMessage). Spells x bytes) bytes 0x72 m manufacturer_by (s ∙ ap Some (eqb-true _ _ d.0)) (λ k. manufacturer_takes bytes k m fits) d.1
                        | inr d ↦
                            elim (chosen (eqb class 0x80) _ _ _ d.1) [
                              | inl f ↦ class_takes (λ (x : InfoMessage). Spells x bytes) bytes 0x80 m battery_by (s ∙ ap Some (eqb-true _ _ f.0)) (λ k. battery_takes bytes k m fits) f.1
                              | inr f ↦
                                  elim (chosen (eqb class 0x86) _ _ _ f.1) [
                                    | inl g ↦ class_takes (λ (x : InfoMessage). Spells x bytes) bytes 0x86 m version_by (s ∙ ap Some (eqb-true _ _ g.0)) (λ k. version_takes bytes k m fits) g.1
                                    | inr g ↦
                                        elim (chosen (eqb class 0x6C) _ _ _ g.1) [
                                          | inl h ↦ class_takes (λ (x : InfoMessage). Spells x bytes) bytes 0x6C m supervision_by (s ∙ ap Some (eqb-true _ _ h.0)) (λ k. supervision_takes bytes k m fits) h.1
                                          | inr h ↦
                                              elim (chosen (eqb class 0x98) _ _ _ h.1) [
                                                | inl i ↦ class_takes (λ (x : InfoMessage). Spells x bytes) bytes 0x98 m security_by (s ∙ ap Some (eqb-true _ _ i.0)) (λ k. security_takes bytes k m fits) i.1
                                                | inr i ↦
                                                    elim (chosen (eqb class 0x55) _ _ _ i.1) [
                                                      | inl j ↦ class_takes (λ (x : InfoMessage). Spells x bytes) bytes 0x55 m transport_by (s ∙ ap Some (eqb-true _ _ j.0)) (λ k. transport_takes bytes k m fits) j.1
                                                      | inr j ↦ absurd (not_ok (UnknownClass class) m j.1)
                                                    ]
                                              ]
                                        ]
                                  ]
                            ]
                      ]
                ]
          ]
    ]

never : (bytes : List ℕ) (class : ℕ) (m : InfoMessage) (r : Result ℕ ClassFault) → (r >>= λ command. Err (UnknownCommand class command)) ≡ Ok m → ⊥
never bytes class m (Ok c) e = not_ok (UnknownCommand class c) m e
never bytes class m (Err f) e = not_ok f m e

shared_by_takes : (bytes : List ℕ) (class : ℕ) (m : InfoMessage) → IsBytes bytes → slice_get bytes 0 ≡ Some class → shared_by bytes class ≡ Ok m → Spells m bytes
shared_by_takes bytes class m fits s e =
    elim (chosen (eqb class 0x84) _ _ _ e) [
      | inl a ↦ class_takes (λ (x : InfoMessage). Spells x bytes) bytes 0x84 m wake_up_by (s ∙ ap Some (eqb-true _ _ a.0)) (λ k. wake_up_takes bytes k m fits) a.1
      | inr a ↦
          elim (chosen (eqb class 0x85) _ _ _ a.1) [
            | inl b ↦ class_takes (λ (x : InfoMessage). Spells x bytes) bytes 0x85 m association_by (s ∙ ap Some (eqb-true _ _ b.0)) (λ k. association_takes bytes k m fits) b.1
            | inr b ↦ absurd (never bytes class m (byte_at 1 bytes) b.1)
          ]
    ]

beside_takes : (bytes : List ℕ) (r : Result CoreMessage ClassFault) (m : InfoMessage) → IsBytes bytes → message_at bytes ≡ r → beside bytes r ≡ Ok m → Spells m bytes
unfolding own_at shared_at
beside_takes bytes (Ok c) m fits q e = subst (λ (x : InfoMessage). Spells x bytes) (ok_is (Core c) m e) (tt, core_takes bytes c fits q)
beside_takes bytes (Err (UnknownClass x)) m fits q e =
    let a = bind_ok (byte_at 0 bytes) (own_by bytes) m e in
    own_by_takes bytes a.0 m fits (byte_takes 0 bytes a.0 a.1) a.2
beside_takes bytes (Err (UnknownCommand x y)) m fits q e =
    let a = bind_ok (byte_at 0 bytes) (shared_by bytes) m e in
    shared_by_takes bytes a.0 m fits (byte_takes 0 bytes a.0 a.1) a.2
beside_takes bytes (Err Empty) m fits q e = absurd (not_ok Empty m e)
beside_takes bytes (Err (Short need)) m fits q e = absurd (not_ok (Short need) m e)
beside_takes bytes (Err (BadValue at)) m fits q e = absurd (not_ok (BadValue at) m e)
beside_takes bytes (Err NoMemory) m fits q e = absurd (not_ok NoMemory m e)

-- what is read is spelled so
pub takes : (bytes : List ℕ) (m : InfoMessage) → IsBytes bytes → info_at bytes ≡ Ok m → Spells m bytes
unfolding info_at
takes bytes m fits e = beside_takes bytes (message_at bytes) m fits refl e

own_row : (bytes : List ℕ) (class : ℕ) → slice_get bytes 0 ≡ Some class → message_by bytes class ≡ Err (UnknownClass class) → info_at bytes ≡ own_by bytes class
unfolding info_at own_at
own_row bytes class s none = rw (by_class bytes class s ∙ none, byte_again 0 bytes class s) refl

shared_row : (bytes : List ℕ) (class command : ℕ) → slice_get bytes 0 ≡ Some class → message_by bytes class ≡ Err (UnknownCommand class command) → info_at bytes ≡ shared_by bytes class
unfolding info_at shared_at
shared_row bytes class command s none = rw (by_class bytes class s ∙ none, byte_again 0 bytes class s) refl

wake_up_row : (bytes : List ℕ) (command : ℕ) → slice_get bytes 0 ≡ Some 0x84 → slice_get bytes 1 ≡ Some command → core_wake_up_by bytes command ≡ Err (UnknownCommand 0x84 command) → info_at bytes ≡ in_class wake_up_by bytes
unfolding in_class
wake_up_row bytes command s t none = shared_row bytes 0x84 command s (rw (byte_again 1 bytes command t) none)

association_row : (bytes : List ℕ) (command : ℕ) → slice_get bytes 0 ≡ Some 0x85 → slice_get bytes 1 ≡ Some command → core_association_by bytes command ≡ Err (UnknownCommand 0x85 command) → info_at bytes ≡ in_class association_by bytes
unfolding in_class
association_row bytes command s t none = shared_row bytes 0x85 command s (rw (byte_again 1 bytes command t) none)

core_row : (bytes : List ℕ) (m : CoreMessage) → message_at bytes ≡ Ok m → info_at bytes ≡ Ok (Core m)
unfolding info_at
core_row bytes m e = rw e refl

-- what is spelled so is read
pub again : (bytes : List ℕ) (m : InfoMessage) → Spells m bytes → info_at bytes ≡ Ok m
unfolding in_class sensor_report_at notification_at manufacturer_at interval_report_at association_report_at version_report_at version_class_at supervision_report_at transport_request_at
again bytes (Core m) s = core_row bytes m (core_again bytes m s.1)
again bytes SensorBinaryGet s = own_row bytes 0x30 s.1.0 refl ∙ rw (byte_again 1 bytes 2 s.1.1.0) refl
again bytes (SensorBinaryReport v) s = own_row bytes 0x30 s.1.0 refl ∙ rw (byte_again 1 bytes 3 s.1.1.0, switch_again 2 bytes v s.1.1.1.0) refl
again bytes SensorMultilevelGet s = own_row bytes 0x31 s.1.0 refl ∙ rw (byte_again 1 bytes 4 s.1.1.0) refl
again bytes (SensorMultilevelReport k v) s = own_row bytes 0x31 s.1.0 refl ∙ rw (byte_again 1 bytes 5 s.1.1.0, byte_again 2 bytes k s.1.1.1.0, scaled_again 3 bytes v s.1.1.1.1) refl
again bytes (NotificationReport k v) s = own_row bytes 0x71 s.1.0 refl ∙ rw (byte_again 1 bytes 5 s.1.1.0, byte_again 2 bytes k s.1.1.1.0, byte_again 3 bytes v s.1.1.1.1.0) refl
again bytes ManufacturerSpecificGet s = own_row bytes 0x72 s.1.0 refl ∙ rw (byte_again 1 bytes 4 s.1.1.0) refl
again bytes (ManufacturerSpecificReport a b c) s = own_row bytes 0x72 s.1.0 refl ∙ rw (byte_again 1 bytes 5 s.1.1.0, word_again 2 bytes a (s.1.1.1.0, (s.1.1.1.1.0, tt)), word_again 4 bytes b (s.1.1.1.1.1.0, (s.1.1.1.1.1.1.0, tt)), word_again 6 bytes c (s.1.1.1.1.1.1.1.0, (s.1.1.1.1.1.1.1.1.0, tt))) refl
again bytes BatteryGet s = own_row bytes 0x80 s.1.0 refl ∙ rw (byte_again 1 bytes 2 s.1.1.0) refl
again bytes (BatteryReport v) s = own_row bytes 0x80 s.1.0 refl ∙ rw (byte_again 1 bytes 3 s.1.1.0, limited_again is_battery 2 bytes v s.1.1.1.0) refl
again bytes WakeUpIntervalGet s = wake_up_row bytes 5 s.1.0 s.1.1.0 refl ∙ rw (byte_again 1 bytes 5 s.1.1.0) refl
again bytes (WakeUpIntervalReport t v) s = wake_up_row bytes 6 s.1.0 s.1.1.0 refl ∙ rw (byte_again 1 bytes 6 s.1.1.0, three_again 2 bytes t (s.1.1.1.0, (s.1.1.1.1.0, (s.1.1.1.1.1.0, tt))), limited_again is_node 5 bytes v s.1.1.1.1.1.1.0) refl
again bytes WakeUpNotification s = wake_up_row bytes 7 s.1.0 s.1.1.0 refl ∙ rw (byte_again 1 bytes 7 s.1.1.0) refl
again bytes WakeUpNoMoreInformation s = wake_up_row bytes 8 s.1.0 s.1.1.0 refl ∙ rw (byte_again 1 bytes 8 s.1.1.0) refl
again bytes (AssociationGet g) s = association_row bytes 2 s.1.0 s.1.1.0 refl ∙ rw (byte_again 1 bytes 2 s.1.1.0, byte_again 2 bytes g s.1.1.1.0) refl
again bytes (AssociationReport g a b v) s = association_row bytes 3 s.1.0 s.1.1.0 refl ∙ rw (byte_again 1 bytes 3 s.1.1.0, byte_again 2 bytes g s.1.1.1.0, byte_again 3 bytes a s.1.1.1.1.0, byte_again 4 bytes b s.1.1.1.1.1.0, nodes_again 5 bytes v s.1.1.1.1.1.1) refl
again bytes AssociationGroupingsGet s = association_row bytes 5 s.1.0 s.1.1.0 refl ∙ rw (byte_again 1 bytes 5 s.1.1.0) refl
again bytes (AssociationGroupingsReport g) s = association_row bytes 6 s.1.0 s.1.1.0 refl ∙ rw (byte_again 1 bytes 6 s.1.1.0, byte_again 2 bytes g s.1.1.1.0) refl
again bytes VersionGet s = own_row bytes 0x86 s.1.0 refl ∙ rw (byte_again 1 bytes 0x11 s.1.1.0) refl
again bytes (VersionReport a b c d f) s = own_row bytes 0x86 s.1.0 refl ∙ rw (byte_again 1 bytes 0x12 s.1.1.0, byte_again 2 bytes a s.1.1.1.0, byte_again 3 bytes b s.1.1.1.1.0, byte_again 4 bytes c s.1.1.1.1.1.0, byte_again 5 bytes d s.1.1.1.1.1.1.0, byte_again 6 bytes f s.1.1.1.1.1.1.1.0) refl
again bytes (VersionClassGet a) s = own_row bytes 0x86 s.1.0 refl ∙ rw (byte_again 1 bytes 0x13 s.1.1.0, byte_again 2 bytes a s.1.1.1.0) refl
again bytes (VersionClassReport a b) s = own_row bytes 0x86 s.1.0 refl ∙ rw (byte_again 1 bytes 0x14 s.1.1.0, byte_again 2 bytes a s.1.1.1.0, byte_again 3 bytes b s.1.1.1.1.0) refl
again bytes (SupervisionReport m w k v d) s = own_row bytes 0x6C s.1.0 refl ∙ rw (byte_again 1 bytes 2 s.1.1.0, flag_again 7 2 bytes s.1.1.1.0.0 m s.1.1.1.0.1 s.1.1.1.0.2.0, flag_again 6 2 bytes s.1.1.1.0.0 w s.1.1.1.0.1 s.1.1.1.0.2.1.0, bits_again 0 6 2 bytes s.1.1.1.0.0 k s.1.1.1.0.1 s.1.1.1.0.2.1.1.0, status_again 3 bytes v s.1.1.1.1.0, byte_again 4 bytes d s.1.1.1.1.1.0) refl
again bytes NonceGet s = own_row bytes 0x98 s.1.0 refl ∙ rw (byte_again 1 bytes 0x40 s.1.1.0) refl
again bytes (NonceReport ns) s =
    let within : 2 ≤ length bytes = omega (arith, slice_get_within bytes 1 0x80 s.1.1.0) in
    own_row bytes 0x98 s.1.0 refl ∙ rw (byte_again 1 bytes 0x80 s.1.1.0, nonce_again 2 bytes ns within s.0 s.1.1.1) refl
again bytes (TransportRequest k o) s =
    let joined : o / 256 * 256 + o % 256 ≡ o = omega arith in
    own_row bytes 0x55 s.1.0 refl ∙ rw (byte_again 1 bytes 0xC8 s.1.1.0, bits_again 4 4 2 bytes s.1.1.1.0.0 k s.1.1.1.0.1 s.1.1.1.0.2.0, bits_again 0 3 2 bytes s.1.1.1.0.0 (o / 256) s.1.1.1.0.1 s.1.1.1.0.2.1.0, byte_again 3 bytes (o % 256) s.1.1.1.1.0) (ap (λ (x : ℕ). let made : InfoMessage = TransportRequest k x in Ok made) joined)
again bytes (TransportComplete k) s = own_row bytes 0x55 s.1.0 refl ∙ rw (byte_again 1 bytes 0xE8 s.1.1.0, bits_again 4 4 2 bytes s.1.1.1.0.0 k s.1.1.1.0.1 s.1.1.1.0.2.0) refl
again bytes (TransportWait p) s = own_row bytes 0x55 s.1.0 refl ∙ rw (byte_again 1 bytes 0xF0 s.1.1.0, byte_again 2 bytes p s.1.1.1.0) refl

-- no bytes spell two messages
pub one_message : (bytes : List ℕ) (a b : InfoMessage) → Spells a bytes → Spells b bytes → a ≡ b
one_message bytes a b s t = ok_is a b (sym (again bytes a s) ∙ again bytes b t)

pub is_found : (bytes : List ℕ) (r : Result InfoMessage ClassFault) → IsBytes bytes → Gives r (info_at bytes) → IfOk r (λ m. Spells m bytes)
is_found bytes (Ok m) fits given = takes bytes m fits given
is_found bytes (Err f) fits given = tt

pub is_only : (bytes : List ℕ) (r : Result InfoMessage ClassFault) (m : InfoMessage) → Gives r (info_at bytes) → Spells m bytes → Gives r (Ok m)
is_only bytes r m given s = subst (λ (x : Result InfoMessage ClassFault). Gives r x) (again bytes m s) given
