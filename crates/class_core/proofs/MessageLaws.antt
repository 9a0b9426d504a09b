-- Each message both ways: what is read is spelled so, and what is spelled so is read.
use Rattle.std.proofs.Common.{◌≡◌, ℕ, ◌≤◌, eqb, Some, Result, Ok, Err, List, [], ◌∷◌, length, refl, sym, ap, subst, ◌∙◌, inl, inr, arith}
use Rattle.std.specs.Prelude.{slice_get, IfOk}
use Rattle.std.proofs.lemmas.Bool.{eqb-true}
use Rattle.std.proofs.lemmas.Option.{slice_get_within}
use Rattle.class_core.specs.declared.fault.ClassFault.{ClassFault}
use Rattle.class_core.specs.declared.fault.ClassFault.TheVariants.{Empty, UnknownClass, UnknownCommand}
use Rattle.class_core.specs.Ranges.{is_level, is_node, bytes_in, size_of, Scaled}
use Rattle.class_core.specs.Cell.{Whole, Divided, Stand, bits}
use Rattle.class_core.specs.Fields.{part, scaled, nodes}
use Rattle.class_core.specs.Reading.{Gives, byte_at, limited_at, bits_at, switch_at, lock_at, word_at, three_at, number_at, numbers_at, size_at, size_byte_at, flag_at, scaled_at, nodes_at, in_class}
use Rattle.class_core.proofs.Heads.{Headed, narrowed, class_takes}
use Rattle.class_core.proofs.Steps.{bind_ok, chosen, ok_is, not_ok, some_is, made_of}
use Rattle.class_core.proofs.FieldLaws.{IsBytes, byte_takes, byte_again, limited_takes, limited_again, switch_takes, switch_again, lock_takes, lock_again, bits_takes, bits_again, has_of, size_takes, size_again, size_byte_takes, size_byte_again, flag_takes, flag_again, word_takes, word_again, three_takes, three_again, number_takes, number_again, scaled_takes, scaled_again, numbers_take, numbers_again, nodes_take, nodes_again}
use Rattle.class_core.specs.declared.message.CoreMessage.{CoreMessage}
use Rattle.class_core.specs.declared.message.CoreMessage.TheVariants.{BasicSet, BasicGet, BasicReport, SwitchBinarySet, SwitchBinaryGet, SwitchBinaryReport, SwitchMultilevelSet, SwitchMultilevelGet, SwitchMultilevelReport, ThermostatModeSet, ThermostatModeGet, ThermostatModeReport, ThermostatSetpointSet, ThermostatSetpointGet, ThermostatSetpointReport, DoorLockOperationSet, DoorLockOperationGet, DoorLockOperationReport, ConfigurationSet, ConfigurationGet, ConfigurationReport, ConfigurationBulkSet, AssociationSet, AssociationRemove, WakeUpIntervalSet}
use Rattle.class_core.specs.Spelling.{Spells}
use Rattle.class_core.specs.MessageReading.{basic_by, switch_binary_by, switch_multilevel_by, thermostat_mode_by, setpoint_at, thermostat_setpoint_by, lock_report_at, door_lock_by, configuration_set_at, configuration_report_at, configuration_bulk_at, configuration_by, association_at, association_by, interval_set_at, wake_up_by, message_by, message_at}

-- ---- rows of several fields

-- a kind, then its value
record TakesSetpoint (make : ℕ → Scaled → CoreMessage) (bytes : List ℕ) (m : CoreMessage) : Type 0 where
  kind : ℕ
  value : Scaled
  made : make kind value ≡ m
  stands : Stand (Divided (part 0 4 kind ∷ []) ∷ scaled value) 2 bytes

setpoint_takes : (make : ℕ → Scaled → CoreMessage) (bytes : List ℕ) (m : CoreMessage) → IsBytes bytes → setpoint_at make bytes ≡ Ok m → TakesSetpoint make bytes m
unfolding setpoint_at
setpoint_takes make bytes m fits e =
    let a = bind_ok (bits_at 0 4 2 bytes) _ m e in
    let b = made_of (scaled_at 3 bytes) (make a.0) m a.2 in
    let h = bits_takes 0 4 2 bytes a.0 a.1 in
    record { kind = a.0; value = b.0; made = b.2; stands = ((h.byte, h.stands, (h.has, tt)), scaled_takes 3 bytes b.0 fits b.1) }

lock_report_takes : (bytes : List ℕ) (m : CoreMessage) → Headed bytes 0x62 3 → lock_report_at bytes ≡ Ok m → Spells m bytes
unfolding lock_report_at
lock_report_takes bytes m h e =
    let a = bind_ok (lock_at 2 bytes) _ m e in
    let b = bind_ok (byte_at 3 bytes) _ m a.2 in
    let c = bind_ok (byte_at 4 bytes) _ m b.2 in
    let d = bind_ok (byte_at 5 bytes) _ m c.2 in
    let f = made_of (byte_at 6 bytes) (λ x. DoorLockOperationReport a.0 b.0 c.0 d.0 x) m d.2 in
    subst (λ (x : CoreMessage). Spells x bytes) f.2 (h.class_is, (h.command_is, (lock_takes 2 bytes a.0 a.1, (byte_takes 3 bytes b.0 b.1, (byte_takes 4 bytes c.0 c.1, (byte_takes 5 bytes d.0 d.1, (byte_takes 6 bytes f.0 f.1, tt)))))))

configuration_set_takes : (bytes : List ℕ) (m : CoreMessage) → IsBytes bytes → Headed bytes 0x70 4 → configuration_set_at bytes ≡ Ok m → Spells m bytes
unfolding configuration_set_at
configuration_set_takes bytes m fits h e =
    let a = bind_ok (byte_at 2 bytes) _ m e in
    let b = bind_ok (flag_at 7 3 bytes) _ m a.2 in
    let c = bind_ok (size_at 3 bytes) _ m b.2 in
    let d = made_of (number_at c.0 4 bytes) (λ x. ConfigurationSet a.0 b.0 x) m c.2 in
    let default = flag_takes 7 3 bytes b.0 b.1 in
    let size = size_takes 3 bytes c.0 c.1 in
    let t = number_takes c.0 4 bytes d.0 fits d.1 in
    let size_has : bits 0 3 default.byte ≡ bytes_in (size_of d.0) = has_of 0 3 3 bytes (bytes_in c.0) default.byte size default.stands ∙ ap bytes_in (sym t.size_is) in
    subst (λ (x : CoreMessage). Spells x bytes) d.2 (h.class_is, (h.command_is, (byte_takes 2 bytes a.0 a.1, ((default.byte, default.stands, (default.has, (size_has, tt))), t.stands))))

configuration_report_takes : (bytes : List ℕ) (m : CoreMessage) → IsBytes bytes → Headed bytes 0x70 6 → configuration_report_at bytes ≡ Ok m → Spells m bytes
unfolding configuration_report_at
configuration_report_takes bytes m fits h e =
    let a = bind_ok (byte_at 2 bytes) _ m e in
    let c = bind_ok (size_byte_at 3 bytes) _ m a.2 in
    let d = made_of (number_at c.0 4 bytes) (λ x. ConfigurationReport a.0 x) m c.2 in
    let t = number_takes c.0 4 bytes d.0 fits d.1 in
    subst (λ (x : CoreMessage). Spells x bytes) d.2 (h.class_is, (h.command_is, (byte_takes 2 bytes a.0 a.1, (size_byte_takes 3 bytes c.0 c.1 ∙ ap Some (ap bytes_in (sym t.size_is)), t.stands))))

configuration_bulk_takes : (bytes : List ℕ) (m : CoreMessage) → IsBytes bytes → Headed bytes 0x70 7 → configuration_bulk_at bytes ≡ Ok m → Spells m bytes
unfolding configuration_bulk_at
configuration_bulk_takes bytes m fits h e =
    let a = bind_ok (word_at 2 bytes) _ m e in
    let n = bind_ok (byte_at 4 bytes) _ m a.2 in
    let b = bind_ok (flag_at 7 5 bytes) _ m n.2 in
    let c = bind_ok (size_at 5 bytes) _ m b.2 in
    let d = made_of (numbers_at c.0 n.0 6 bytes) (λ x. ConfigurationBulkSet a.0 b.0 x) m c.2 in
    let offset = word_takes 2 bytes a.0 fits a.1 in
    let default = flag_takes 7 5 bytes b.0 b.1 in
    let size = size_takes 5 bytes c.0 c.1 in
    let t = numbers_take c.0 n.0 6 bytes d.0 fits d.1 in
    let size_has : bits 0 3 default.byte ≡ bytes_in d.0.size = has_of 0 3 5 bytes (bytes_in c.0) default.byte size default.stands ∙ ap bytes_in (sym t.size_is) in
    subst (λ (x : CoreMessage). Spells x bytes) d.2 (h.class_is, (h.command_is, (offset.0, (offset.1.0, (byte_takes 4 bytes n.0 n.1 ∙ ap Some (sym t.so_many), ((default.byte, default.stands, (default.has, (size_has, tt))), t.stands))))))

-- a group, then nodes
record TakesMembers (make : ℕ → List ℕ → CoreMessage) (bytes : List ℕ) (m : CoreMessage) : Type 0 where
  group : ℕ
  members : List ℕ
  made : make group members ≡ m
  stands : Stand (Whole group ∷ nodes members) 2 bytes

association_row_takes : (make : ℕ → List ℕ → CoreMessage) (bytes : List ℕ) (m : CoreMessage) → association_at make bytes ≡ Ok m → TakesMembers make bytes m
unfolding association_at
association_row_takes make bytes m e =
    let a = bind_ok (byte_at 2 bytes) _ m e in
    let b = made_of (nodes_at 3 bytes) (make a.0) m a.2 in
    record { group = a.0; members = b.0; made = b.2; stands = (byte_takes 2 bytes a.0 a.1, nodes_take 3 bytes b.0 b.1) }

interval_set_takes : (bytes : List ℕ) (m : CoreMessage) → IsBytes bytes → Headed bytes 0x84 4 → interval_set_at bytes ≡ Ok m → Spells m bytes
unfolding interval_set_at
interval_set_takes bytes m fits h e =
    let a = bind_ok (three_at 2 bytes) _ m e in
    let b = made_of (limited_at is_node 5 bytes) (λ x. WakeUpIntervalSet a.0 x) m a.2 in
    let seconds = three_takes 2 bytes a.0 fits a.1 in
    subst (λ (x : CoreMessage). Spells x bytes) b.2 (h.class_is, (h.command_is, (seconds.0, (seconds.1.0, (seconds.1.1.0, (limited_takes is_node 5 bytes b.0 b.1, tt))))))

-- ---- each class, by its command

basic_takes : (bytes : List ℕ) (c : ℕ) (m : CoreMessage) → IsBytes bytes → Headed bytes 0x20 c → basic_by bytes c ≡ Ok m → Spells m bytes
basic_takes bytes c m fits h e =
    elim (chosen (eqb c 1) _ _ _ e) [
      | inl p ↦ let n = narrowed bytes 0x20 c 1 h p.0 in let v = made_of (byte_at 2 bytes) BasicSet m p.1 in subst (λ (x : CoreMessage). Spells x bytes) v.2 (n.class_is, (n.command_is, (byte_takes 2 bytes v.0 v.1, tt)))
      | inr p ↦
          elim (chosen (eqb c 2) _ _ _ p.1) [
            | inl q ↦ subst (λ (x : CoreMessage). Spells x bytes) (ok_is BasicGet m q.1) ((narrowed bytes 0x20 c 2 h q.0).class_is, ((narrowed bytes 0x20 c 2 h q.0).command_is, tt))
            | inr q ↦
                elim (chosen (eqb c 3) _ _ _ q.1) [
                  | inl r ↦ let n = narrowed bytes 0x20 c 3 h r.0 in let v = made_of (byte_at 2 bytes) BasicReport m r.1 in subst (λ (x : CoreMessage). Spells x bytes) v.2 (n.class_is, (n.command_is, (byte_takes 2 bytes v.0 v.1, tt)))
                  | inr r ↦ absurd (not_ok (UnknownCommand 0x20 c) m r.1)
                ]
          ]
    ]

switch_binary_takes : (bytes : List ℕ) (c : ℕ) (m : CoreMessage) → IsBytes bytes → Headed bytes 0x25 c → switch_binary_by bytes c ≡ Ok m → Spells m bytes
switch_binary_takes bytes c m fits h e =
    elim (chosen (eqb c 1) _ _ _ e) [
      | inl p ↦ let n = narrowed bytes 0x25 c 1 h p.0 in let v = made_of (switch_at 2 bytes) SwitchBinarySet m p.1 in subst (λ (x : CoreMessage). Spells x bytes) v.2 (n.class_is, (n.command_is, (switch_takes 2 bytes v.0 v.1, tt)))
      | inr p ↦
          elim (chosen (eqb c 2) _ _ _ p.1) [
            | inl q ↦ subst (λ (x : CoreMessage). Spells x bytes) (ok_is SwitchBinaryGet m q.1) ((narrowed bytes 0x25 c 2 h q.0).class_is, ((narrowed bytes 0x25 c 2 h q.0).command_is, tt))
            | inr q ↦
                elim (chosen (eqb c 3) _ _ _ q.1) [
                  | inl r ↦ let n = narrowed bytes 0x25 c 3 h r.0 in let v = made_of (switch_at 2 bytes) SwitchBinaryReport m r.1 in subst (λ (x : CoreMessage). Spells x bytes) v.2 (n.class_is, (n.command_is, (switch_takes 2 bytes v.0 v.1, tt)))
                  | inr r ↦ absurd (not_ok (UnknownCommand 0x25 c) m r.1)
                ]
          ]
    ]

switch_multilevel_takes : (bytes : List ℕ) (c : ℕ) (m : CoreMessage) → IsBytes bytes → Headed bytes 0x26 c → switch_multilevel_by bytes c ≡ Ok m → Spells m bytes
switch_multilevel_takes bytes c m fits h e =
    elim (chosen (eqb c 1) _ _ _ e) [
      | inl p ↦ let n = narrowed bytes 0x26 c 1 h p.0 in let v = made_of (limited_at is_level 2 bytes) SwitchMultilevelSet m p.1 in subst (λ (x : CoreMessage). Spells x bytes) v.2 (n.class_is, (n.command_is, (limited_takes is_level 2 bytes v.0 v.1, tt)))
      | inr p ↦
          elim (chosen (eqb c 2) _ _ _ p.1) [
            | inl q ↦ subst (λ (x : CoreMessage). Spells x bytes) (ok_is SwitchMultilevelGet m q.1) ((narrowed bytes 0x26 c 2 h q.0).class_is, ((narrowed bytes 0x26 c 2 h q.0).command_is, tt))
            | inr q ↦
                elim (chosen (eqb c 3) _ _ _ q.1) [
                  | inl r ↦ let n = narrowed bytes 0x26 c 3 h r.0 in let v = made_of (limited_at is_level 2 bytes) SwitchMultilevelReport m r.1 in subst (λ (x : CoreMessage). Spells x bytes) v.2 (n.class_is, (n.command_is, (limited_takes is_level 2 bytes v.0 v.1, tt)))
                  | inr r ↦ absurd (not_ok (UnknownCommand 0x26 c) m r.1)
                ]
          ]
    ]

thermostat_mode_takes : (bytes : List ℕ) (c : ℕ) (m : CoreMessage) → IsBytes bytes → Headed bytes 0x40 c → thermostat_mode_by bytes c ≡ Ok m → Spells m bytes
thermostat_mode_takes bytes c m fits h e =
    elim (chosen (eqb c 1) _ _ _ e) [
      | inl p ↦ let n = narrowed bytes 0x40 c 1 h p.0 in let v = made_of (bits_at 0 5 2 bytes) ThermostatModeSet m p.1 in let b = bits_takes 0 5 2 bytes v.0 v.1 in subst (λ (x : CoreMessage). Spells x bytes) v.2 (n.class_is, (n.command_is, ((b.byte, b.stands, (b.has, tt)), tt)))
      | inr p ↦
          elim (chosen (eqb c 2) _ _ _ p.1) [
            | inl q ↦ subst (λ (x : CoreMessage). Spells x bytes) (ok_is ThermostatModeGet m q.1) ((narrowed bytes 0x40 c 2 h q.0).class_is, ((narrowed bytes 0x40 c 2 h q.0).command_is, tt))
            | inr q ↦
                elim (chosen (eqb c 3) _ _ _ q.1) [
                  | inl r ↦ let n = narrowed bytes 0x40 c 3 h r.0 in let v = made_of (bits_at 0 5 2 bytes) ThermostatModeReport m r.1 in let b = bits_takes 0 5 2 bytes v.0 v.1 in subst (λ (x : CoreMessage). Spells x bytes) v.2 (n.class_is, (n.command_is, ((b.byte, b.stands, (b.has, tt)), tt)))
                  | inr r ↦ absurd (not_ok (UnknownCommand 0x40 c) m r.1)
                ]
          ]
    ]

thermostat_setpoint_takes : (bytes : List ℕ) (c : ℕ) (m : CoreMessage) → IsBytes bytes → Headed bytes 0x43 c → thermostat_setpoint_by bytes c ≡ Ok m → Spells m bytes
thermostat_setpoint_takes bytes c m fits h e =
    elim (chosen (eqb c 1) _ _ _ e) [
      | inl p ↦ let n = narrowed bytes 0x43 c 1 h p.0 in let t = setpoint_takes ThermostatSetpointSet bytes m fits p.1 in subst (λ (x : CoreMessage). Spells x bytes) t.made (n.class_is, (n.command_is, t.stands))
      | inr p ↦
          elim (chosen (eqb c 2) _ _ _ p.1) [
            | inl q ↦ let n = narrowed bytes 0x43 c 2 h q.0 in let v = made_of (bits_at 0 4 2 bytes) ThermostatSetpointGet m q.1 in let b = bits_takes 0 4 2 bytes v.0 v.1 in subst (λ (x : CoreMessage). Spells x bytes) v.2 (n.class_is, (n.command_is, ((b.byte, b.stands, (b.has, tt)), tt)))
            | inr q ↦
                elim (chosen (eqb c 3) _ _ _ q.1) [
                  | inl r ↦ let n = narrowed bytes 0x43 c 3 h r.0 in let t = setpoint_takes ThermostatSetpointReport bytes m fits r.1 in subst (λ (x : CoreMessage). Spells x bytes) t.made (n.class_is, (n.command_is, t.stands))
                  | inr r ↦ absurd (not_ok (UnknownCommand 0x43 c) m r.1)
                ]
          ]
    ]

door_lock_takes : (bytes : List ℕ) (c : ℕ) (m : CoreMessage) → IsBytes bytes → Headed bytes 0x62 c → door_lock_by bytes c ≡ Ok m → Spells m bytes
door_lock_takes bytes c m fits h e =
    elim (chosen (eqb c 1) _ _ _ e) [
      | inl p ↦ let n = narrowed bytes 0x62 c 1 h p.0 in let v = made_of (lock_at 2 bytes) DoorLockOperationSet m p.1 in subst (λ (x : CoreMessage). Spells x bytes) v.2 (n.class_is, (n.command_is, (lock_takes 2 bytes v.0 v.1, tt)))
      | inr p ↦
          elim (chosen (eqb c 2) _ _ _ p.1) [
            | inl q ↦ subst (λ (x : CoreMessage). Spells x bytes) (ok_is DoorLockOperationGet m q.1) ((narrowed bytes 0x62 c 2 h q.0).class_is, ((narrowed bytes 0x62 c 2 h q.0).command_is, tt))
            | inr q ↦
                elim (chosen (eqb c 3) _ _ _ q.1) [
                  | inl r ↦ lock_report_takes bytes m (narrowed bytes 0x62 c 3 h r.0) r.1
                  | inr r ↦ absurd (not_ok (UnknownCommand 0x62 c) m r.1)
                ]
          ]
    ]

configuration_takes : (bytes : List ℕ) (c : ℕ) (m : CoreMessage) → IsBytes bytes → Headed bytes 0x70 c → configuration_by bytes c ≡ Ok m → Spells m bytes
configuration_takes bytes c m fits h e =
    elim (chosen (eqb c 4) _ _ _ e) [
      | inl p ↦ configuration_set_takes bytes m fits (narrowed bytes 0x70 c 4 h p.0) p.1
      | inr p ↦
          elim (chosen (eqb c 5) _ _ _ p.1) [
            | inl q ↦ let n = narrowed bytes 0x70 c 5 h q.0 in let v = made_of (byte_at 2 bytes) ConfigurationGet m q.1 in subst (λ (x : CoreMessage). Spells x bytes) v.2 (n.class_is, (n.command_is, (byte_takes 2 bytes v.0 v.1, tt)))
            | inr q ↦
                elim (chosen (eqb c 6) _ _ _ q.1) [
                  | inl r ↦ configuration_report_takes bytes m fits (narrowed bytes 0x70 c 6 h r.0) r.1
                  | inr r ↦
                      elim (chosen (eqb c 7) _ _ _ r.1) [
                        | inl s ↦ configuration_bulk_takes bytes m fits (narrowed bytes 0x70 c 7 h s.0) s.1
                        | inr s ↦ absurd (not_ok (UnknownCommand 0x70 c) m s.1)
                      ]
                ]
          ]
    ]

wake_up_takes : (bytes : List ℕ) (c : ℕ) (m : CoreMessage) → IsBytes bytes → Headed bytes 0x84 c → wake_up_by bytes c ≡ Ok m → Spells m bytes
wake_up_takes bytes c m fits h e =
    elim (chosen (eqb c 4) _ _ _ e) [
      | inl p ↦ interval_set_takes bytes m fits (narrowed bytes 0x84 c 4 h p.0) p.1
      | inr p ↦ absurd (not_ok (UnknownCommand 0x84 c) m p.1)
    ]

association_takes : (bytes : List ℕ) (c : ℕ) (m : CoreMessage) → IsBytes bytes → Headed bytes 0x85 c → association_by bytes c ≡ Ok m → Spells m bytes
association_takes bytes c m fits h e =
    elim (chosen (eqb c 1) _ _ _ e) [
      | inl p ↦ let n = narrowed bytes 0x85 c 1 h p.0 in let t = association_row_takes AssociationSet bytes m p.1 in subst (λ (x : CoreMessage). Spells x bytes) t.made (n.class_is, (n.command_is, t.stands))
      | inr p ↦
          elim (chosen (eqb c 4) _ _ _ p.1) [
            | inl q ↦ let n = narrowed bytes 0x85 c 4 h q.0 in let t = association_row_takes AssociationRemove bytes m q.1 in subst (λ (x : CoreMessage). Spells x bytes) t.made (n.class_is, (n.command_is, t.stands))
            | inr q ↦ absurd (not_ok (UnknownCommand 0x85 c) m q.1)
          ]
    ]

-- ---- the class

by_takes : (bytes : List ℕ) (class : ℕ) (m : CoreMessage) → IsBytes bytes → slice_get bytes 0 ≡ Some class → message_by bytes class ≡ Ok m → Spells m bytes
by_takes bytes class m fits s e =
    elim (chosen (eqb class 0x20) _ _ _ e) [
      | inl a ↦ class_takes (λ (x : CoreMessage). Spells x bytes) bytes 0x20 m basic_by (s ∙ ap Some (eqb-true _ _ a.0)) (λ k. basic_takes bytes k m fits) a.1
      | inr a ↦
          elim (chosen (eqb class 0x25) _ _ _ a.1) [
            | inl b ↦ class_takes (λ (x : CoreMessage). Spells x bytes) bytes 0x25 m switch_binary_by (s ∙ ap Some (eqb-true _ _ b.0)) (λ k. switch_binary_takes bytes k m fits) b.1
            | inr b ↦
                elim (chosen (eqb class 0x26) _ _ _ b.1) [
                  | inl c ↦ class_takes (λ (x : CoreMessage). Spells x bytes) bytes 0x26 m switch_multilevel_by (s ∙ ap Some (eqb-true _ _ c.0)) (λ k. switch_multilevel_takes bytes k m fits) c.1
                  | inr c ↦
                      elim (chosen (eqb class 0x40) _ _ _ c.1) [
                        | inl d ↦ class_takes (λ (x : CoreMessage). Spells x bytes) bytes 0x40 m thermostat_mode_by (s ∙ ap Some (eqb-true _ _ d.0)) (λ k. thermostat_mode_takes bytes k m fits) d.1
                        | inr d ↦
                            elim (chosen (eqb class 0x43) _ _ _ d.1) [
                              | inl f ↦ class_takes (λ (x : CoreMessage). Spells x bytes) bytes 0x43 m thermostat_setpoint_by (s ∙ ap Some (eqb-true _ _ f.0)) (λ k. thermostat_setpoint_takes bytes k m fits) f.1
                              | inr f ↦
                                  elim (chosen (eqb class 0x62) _ _ _ f.1) [
                                    | inl g ↦ class_takes (λ (x : CoreMessage). Spells x bytes) bytes 0x62 m door_lock_by (s ∙ ap Some (eqb-true _ _ g.0)) (λ k. door_lock_takes bytes k m fits) g.1
                                    | inr g ↦
                                        elim (chosen (eqb class 0x70) _ _ _ g.1) [
                                          | inl h ↦ class_takes (λ (x : CoreMessage). Spells x bytes) bytes 0x70 m configuration_by (s ∙ ap Some (eqb-true _ _ h.0)) (λ k. configuration_takes bytes k m fits) h.1
                                          | inr h ↦
                                              elim (chosen (eqb class 0x84) _ _ _ h.1) [
                                                | inl i ↦ class_takes (λ (x : CoreMessage). Spells x bytes) bytes 0x84 m wake_up_by (s ∙ ap Some (eqb-true _ _ i.0)) (λ k. wake_up_takes bytes k m fits) i.1
                                                | inr i ↦
                                                    elim (chosen (eqb class 0x85) _ _ _ i.1) [
                                                      | inl j ↦ class_takes (λ (x : CoreMessage). Spells x bytes) bytes 0x85 m association_by (s ∙ ap Some (eqb-true _ _ j.0)) (λ k. association_takes bytes k m fits) j.1
                                                      | inr j ↦ absurd (not_ok (UnknownClass class) m j.1)
                                                    ]
                                              ]
                                        ]
                                  ]
                            ]
                      ]
                ]
          ]
    ]

-- what is read is spelled so
pub takes : (bytes : List ℕ) (m : CoreMessage) → IsBytes bytes → message_at bytes ≡ Ok m → Spells m bytes
unfolding message_at
takes [] m fits e = absurd (not_ok Empty m e)
takes (b ∷ bs) m fits e = by_takes (b ∷ bs) b m fits refl e

pub by_class : (bytes : List ℕ) (class : ℕ) → slice_get bytes 0 ≡ Some class → message_at bytes ≡ message_by bytes class
unfolding message_at
by_class [] class e = absurd cc
by_class (b ∷ bs) class e = ap (message_by (b ∷ bs)) (some_is b class e)

-- what is spelled so is read
pub again : (bytes : List ℕ) (m : CoreMessage) → Spells m bytes → message_at bytes ≡ Ok m
unfolding in_class setpoint_at lock_report_at configuration_set_at configuration_report_at configuration_bulk_at association_at interval_set_at
again bytes (BasicSet v) s = by_class bytes 0x20 s.0 ∙ rw (byte_again 1 bytes 1 s.1.0, byte_again 2 bytes v s.1.1.0) refl
again bytes BasicGet s = by_class bytes 0x20 s.0 ∙ rw (byte_again 1 bytes 2 s.1.0) refl
again bytes (BasicReport v) s = by_class bytes 0x20 s.0 ∙ rw (byte_again 1 bytes 3 s.1.0, byte_again 2 bytes v s.1.1.0) refl
again bytes (SwitchBinarySet v) s = by_class bytes 0x25 s.0 ∙ rw (byte_again 1 bytes 1 s.1.0, switch_again 2 bytes v s.1.1.0) refl
again bytes SwitchBinaryGet s = by_class bytes 0x25 s.0 ∙ rw (byte_again 1 bytes 2 s.1.0) refl
again bytes (SwitchBinaryReport v) s = by_class bytes 0x25 s.0 ∙ rw (byte_again 1 bytes 3 s.1.0, switch_again 2 bytes v s.1.1.0) refl
again bytes (SwitchMultilevelSet v) s = by_class bytes 0x26 s.0 ∙ rw (byte_again 1 bytes 1 s.1.0, limited_again is_level 2 bytes v s.1.1.0) refl
again bytes SwitchMultilevelGet s = by_class bytes 0x26 s.0 ∙ rw (byte_again 1 bytes 2 s.1.0) refl
again bytes (SwitchMultilevelReport v) s = by_class bytes 0x26 s.0 ∙ rw (byte_again 1 bytes 3 s.1.0, limited_again is_level 2 bytes v s.1.1.0) refl
again bytes (ThermostatModeSet v) s = by_class bytes 0x40 s.0 ∙ rw (byte_again 1 bytes 1 s.1.0, bits_again 0 5 2 bytes s.1.1.0.0 v s.1.1.0.1 s.1.1.0.2.0) refl
again bytes ThermostatModeGet s = by_class bytes 0x40 s.0 ∙ rw (byte_again 1 bytes 2 s.1.0) refl
again bytes (ThermostatModeReport v) s = by_class bytes 0x40 s.0 ∙ rw (byte_again 1 bytes 3 s.1.0, bits_again 0 5 2 bytes s.1.1.0.0 v s.1.1.0.1 s.1.1.0.2.0) refl
again bytes (ThermostatSetpointSet k v) s = by_class bytes 0x43 s.0 ∙ rw (byte_again 1 bytes 1 s.1.0, bits_again 0 4 2 bytes s.1.1.0.0 k s.1.1.0.1 s.1.1.0.2.0, scaled_again 3 bytes v s.1.1.1) refl
again bytes (ThermostatSetpointGet k) s = by_class bytes 0x43 s.0 ∙ rw (byte_again 1 bytes 2 s.1.0, bits_again 0 4 2 bytes s.1.1.0.0 k s.1.1.0.1 s.1.1.0.2.0) refl
again bytes (ThermostatSetpointReport k v) s = by_class bytes 0x43 s.0 ∙ rw (byte_again 1 bytes 3 s.1.0, bits_again 0 4 2 bytes s.1.1.0.0 k s.1.1.0.1 s.1.1.0.2.0, scaled_again 3 bytes v s.1.1.1) refl
again bytes (DoorLockOperationSet v) s = by_class bytes 0x62 s.0 ∙ rw (byte_again 1 bytes 1 s.1.0, lock_again 2 bytes v s.1.1.0) refl
again bytes DoorLockOperationGet s = by_class bytes 0x62 s.0 ∙ rw (byte_again 1 bytes 2 s.1.0) refl
again bytes (DoorLockOperationReport v a b c d) s = by_class bytes 0x62 s.0 ∙ rw (byte_again 1 bytes 3 s.1.0, lock_again 2 bytes v s.1.1.0, byte_again 3 bytes a s.1.1.1.0, byte_again 4 bytes b s.1.1.1.1.0, byte_again 5 bytes c s.1.1.1.1.1.0, byte_again 6 bytes d s.1.1.1.1.1.1.0) refl
again bytes (ConfigurationSet p d v) s = by_class bytes 0x70 s.0 ∙ rw (byte_again 1 bytes 4 s.1.0, byte_again 2 bytes p s.1.1.0, flag_again 7 3 bytes s.1.1.1.0.0 d s.1.1.1.0.1 s.1.1.1.0.2.0, size_again 3 bytes s.1.1.1.0.0 (size_of v) s.1.1.1.0.1 s.1.1.1.0.2.1.0, number_again 4 bytes v s.1.1.1.1) refl
again bytes (ConfigurationGet p) s = by_class bytes 0x70 s.0 ∙ rw (byte_again 1 bytes 5 s.1.0, byte_again 2 bytes p s.1.1.0) refl
again bytes (ConfigurationReport p v) s = by_class bytes 0x70 s.0 ∙ rw (byte_again 1 bytes 6 s.1.0, byte_again 2 bytes p s.1.1.0, size_byte_again 3 bytes (size_of v) s.1.1.1.0, number_again 4 bytes v s.1.1.1.1) refl
again bytes (ConfigurationBulkSet o d v) s =
    let divided = s.1.1.1.1.1.0 in
    let within : 6 ≤ length bytes = omega (arith, slice_get_within bytes 5 divided.0 divided.1) in
    by_class bytes 0x70 s.0 ∙ rw (byte_again 1 bytes 7 s.1.0, word_again 2 bytes o (s.1.1.0, (s.1.1.1.0, tt)), byte_again 4 bytes (length v.items) s.1.1.1.1.0, flag_again 7 5 bytes divided.0 d divided.1 divided.2.0, size_again 5 bytes divided.0 v.size divided.1 divided.2.1.0, numbers_again 6 bytes v within s.1.1.1.1.1.1) refl
again bytes (AssociationSet g v) s = by_class bytes 0x85 s.0 ∙ rw (byte_again 1 bytes 1 s.1.0, byte_again 2 bytes g s.1.1.0, nodes_again 3 bytes v s.1.1.1) refl
again bytes (AssociationRemove g v) s = by_class bytes 0x85 s.0 ∙ rw (byte_again 1 bytes 4 s.1.0, byte_again 2 bytes g s.1.1.0, nodes_again 3 bytes v s.1.1.1) refl
again bytes (WakeUpIntervalSet t v) s = by_class bytes 0x84 s.0 ∙ rw (byte_again 1 bytes 4 s.1.0, three_again 2 bytes t (s.1.1.0, (s.1.1.1.0, (s.1.1.1.1.0, tt))), limited_again is_node 5 bytes v s.1.1.1.1.1.0) refl

-- no bytes spell two messages
pub one_message : (bytes : List ℕ) (a b : CoreMessage) → Spells a bytes → Spells b bytes → a ≡ b
one_message bytes a b s t = ok_is a b (sym (again bytes a s) ∙ again bytes b t)

pub is_found : (bytes : List ℕ) (r : Result CoreMessage ClassFault) → IsBytes bytes → Gives r (message_at bytes) → IfOk r (λ m. Spells m bytes)
is_found bytes (Ok m) fits given = takes bytes m fits given
is_found bytes (Err f) fits given = tt

pub is_only : (bytes : List ℕ) (r : Result CoreMessage ClassFault) (m : CoreMessage) → Gives r (message_at bytes) → Spells m bytes → Gives r (Ok m)
is_only bytes r m given s = subst (λ (x : Result CoreMessage ClassFault). Gives r x) (again bytes m s) given
