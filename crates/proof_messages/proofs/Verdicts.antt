-- What the commands of an order come to at a device: they make the order's settings, or nothing.
use Rattle.std.proofs.Common.{◌≡◌, ℕ, suc, ◌+◌, ◌<◌, ◌≤◌, ◌==◌, Bool, true, false, ◌&&◌, ◌||◌, not, if◌then◌else◌, List, [], ◌∷◌, ◌++◌, length, refl, ap, sym, ◌∙◌, subst, arith, append-nil, append_assoc}
use Rattle.std.specs.Prelude.{Result, Err, nat_le}
use Rattle.std.specs.List.{AllByRecursion}
use Rattle.std.specs.Cmp.{nat_cmp_is}
use Rattle.std.specs.Ordering.{nat_cmp}
use Rattle.std.specs.declared.cmp.Ordering.TheVariants.{Equal, Greater}
use Rattle.std.proofs.lemmas.Bool.{eqb-true}
use Rattle.std.proofs.lemmas.Bool.Decides.{nat_tests}
use Rattle.zw_base.specs.declared.property.Name.TheVariants as names
use Rattle.zw_base.specs.declared.property.Property.{Property}
use Rattle.zw_base.specs.declared.property.Setting.{Setting}
use Rattle.zw_base.specs.declared.order.Word.{Word}
use Rattle.zw_base.specs.declared.order.Word.TheVariants.{On, Off, Level}
use Rattle.zw_base.specs.declared.order.What.{What}
use Rattle.zw_base.specs.declared.order.What.TheVariants as what
use Rattle.zw_base.specs.declared.order.Order.{Order}
use Rattle.class_core.specs.declared.number.Size.TheVariants.{One}
use Rattle.class_core.specs.declared.number.Number.TheVariants.{Two, Four}
use Rattle.class_core.specs.declared.fault.ClassFault.{ClassFault}
use Rattle.class_core.specs.declared.fault.ClassFault.TheVariants.{BadValue}
use Rattle.class_core.specs.Ranges.{is_node}
use Rattle.class_core.specs.Reading.{byte_at, nodes_at, in_class}
use Rattle.class_core.specs.declared.message.CoreMessage.{CoreMessage}
use Rattle.class_core.specs.declared.message.CoreMessage.TheVariants.{ThermostatModeSet, ConfigurationSet, ConfigurationBulkSet, AssociationSet, AssociationRemove, WakeUpIntervalSet}
use Rattle.class_core.specs.MessageReading.{message_at, association_at}
use Rattle.class_core.specs.Spelling.{form, IsInRange}
use Rattle.class_info.specs.declared.message.InfoMessage.{InfoMessage}
use Rattle.class_info.specs.InfoReading.{info_at}
use Rattle.host_orders.specs.Messages.{commands_of, is_batch, value_message, setpoint_message}
use Rattle.host_orders.specs.Refusals.{is_bad, is_bad_word}
use Rattle.host_orders.specs.Settings.{setting, settings, settings_by, value_setting, config_settings}
use Rattle.host_orders.specs.declared.actuator.Actuator.{Actuator}
use Rattle.host_orders.specs.declared.actuator.Actuator.TheVariants.{Binary, Multilevel, Lock}
use Rattle.host_orders.specs.declared.carriage.Carriage.{Carriage}
use Rattle.device_kinds.specs.declared.kind.Kind.{Kind}
use Rattle.device_kinds.specs.declared.verdict.Verdict.{Verdict}
use Rattle.device_kinds.specs.declared.verdict.Verdict.TheVariants.{NoSupport, Fails, Makes, Works}
use Rattle.device_kinds.specs.Kind.{lists, has_end}
use Rattle.device_sim.specs.device_stack.State.{State, value_of, last_level_of}
use Rattle.device_kinds.specs.Values.{value_by}
use Rattle.device_kinds.specs.Settings.{with_setting, merged}
use Rattle.device_kinds.specs.Judging.{where_inside, level_meant, is_setpoint, configured, member_count, memberships, judged_members, judged_set, judged, judged_all, judged_message}
use Rattle.proof_messages.specs.Asking.{verdict_on, MakesOnly}
use Rattle.proof_messages.proofs.OpenedMessages.{reads, value_in_range, mode_in_range, setpoint_in_range, second_of}
use Rattle.host_requests.proofs.Ending.{not_answered as first_of}

-- ---- verdicts

listed_only : (b : Bool) (made : List Setting) (verdict : Verdict) → MakesOnly made verdict → MakesOnly made (if b then verdict else NoSupport)
listed_only true made verdict is = is
listed_only false made verdict is = tt

inside_only : (b : Bool) (made : List Setting) → MakesOnly made (where_inside b made)
inside_only true made = refl
inside_only false made = tt

level_only : (last level : ℕ) → level ≤ 99 → level_meant last level ≡ level
level_only last level low = by (level == 255) refl
  where
    by : (b : Bool) → level == 255 ≡ b → (if b then last else level) ≡ level
    by true e = absurd (grind (arith, nat_tests))
    by false e = refl

value_only : (kind : Kind) (values : Property → ℕ) (last end : ℕ) (actuator : Actuator) (word : Word) → is_bad_word actuator word ≡ false
    → MakesOnly (value_setting actuator end word ∷ []) (judged_set kind values last end (value_message actuator word))
value_only kind values last end Binary On good = listed_only (lists kind 0x25) _ _ refl
value_only kind values last end Binary Off good = listed_only (lists kind 0x25) _ _ refl
value_only kind values last end Binary (Level level) good = listed_only (lists kind 0x25) _ _ refl
value_only kind values last end Multilevel On good = listed_only (lists kind 0x26) _ _ refl
value_only kind values last end Multilevel Off good = listed_only (lists kind 0x26) _ _ refl
value_only kind values last end Multilevel (Level level) good =
    listed_only (lists kind 0x26) _ _ (ap (λ (n : ℕ). setting end names.Level n ∷ []) (level_only last level (let low : level ≤ 99 = grind (arith, nat_tests) in low)))
value_only kind values last end Lock On good = listed_only (lists kind 0x62) _ _ refl
value_only kind values last end Lock Off good = listed_only (lists kind 0x62) _ _ refl
value_only kind values last end Lock (Level level) good = listed_only (lists kind 0x62) _ _ refl

members_only : (values : Property → ℕ) (end value group member : ℕ)
    → MakesOnly (setting end (names.Member group member) value ∷ []) (judged_members values end value group (member ∷ []))
unfolding judged_members
members_only values end value group member = by (group == 1) (nat_le (member_count values (memberships end value (member ∷ [])) end) 5) refl
  where
    by : (b few : Bool) → group == 1 ≡ b
        → MakesOnly (setting end (names.Member group member) value ∷ []) (where_inside (b && true && few) (memberships end value (member ∷ [])))
    by true true e = ap (λ (g : ℕ). setting end (names.Member g member) value ∷ []) (sym (eqb-true group 1 e))
    by true false e = tt
    by false few e = tt

-- ---- parameters in a row

configured_is : (end offset : ℕ) (values : List ℕ) → configured end offset values ≡ config_settings end offset values
configured_is end offset [] = refl
configured_is end offset (value ∷ values) = ap (λ (more : List Setting). setting end (names.Config offset) value ∷ more) (configured_is end (suc offset) values)

-- each is of a parameter before that one
abbrev IsBefore : ℕ → ℕ → Setting → Type 0
IsBefore end offset one = (parameter : ℕ) × (value : ℕ) × (one ≡ setting end (names.Config parameter) value) × (parameter < offset)

same_end : (n : ℕ) → nat_cmp n n ≡ Equal
same_end n = sym (nat_cmp_is n n Equal refl)

after_it : (n before : ℕ) → before < n → nat_cmp n before ≡ Greater
after_it n before less = sym (nat_cmp_is n before Greater less)

put_after : (end offset parameter value set : ℕ) (made : List Setting) → parameter < offset
    → with_setting (setting end (names.Config parameter) set ∷ made) (setting end (names.Config offset) value)
    ≡ setting end (names.Config parameter) set ∷ with_setting made (setting end (names.Config offset) value)
put_after end offset parameter value set made less = rw (same_end end, after_it offset parameter less) refl

put_last : (end offset value : ℕ) (made : List Setting) → AllByRecursion (IsBefore end offset) made
    → with_setting made (setting end (names.Config offset) value) ≡ made ++ setting end (names.Config offset) value ∷ []
put_last end offset value [] all = refl
put_last end offset value (one ∷ made) ((parameter, set, is, before), all) =
    let last : Setting = setting end (names.Config offset) value in
    let first : Setting = setting end (names.Config parameter) set in
    subst (λ (x : Setting). with_setting (x ∷ made) last ≡ x ∷ (made ++ last ∷ [])) (sym is)
    (put_after end offset parameter value set made before ∙ ap (λ (more : List Setting). first ∷ more) (put_last end offset value made all))

all_put : (end offset value : ℕ) (made : List Setting) → AllByRecursion (IsBefore end offset) made
    → AllByRecursion (IsBefore end (suc offset)) (made ++ setting end (names.Config offset) value ∷ [])
all_put end offset value [] all = ((offset, value, refl, omega arith), tt)
all_put end offset value (one ∷ made) ((parameter, set, is, before), all) = ((parameter, set, is, omega (arith, before)), all_put end offset value made all)

merged_row : (end offset : ℕ) (values : List ℕ) (made : List Setting) → AllByRecursion (IsBefore end offset) made
    → merged made (config_settings end offset values) ≡ made ++ config_settings end offset values
merged_row end offset [] made all = sym (append-nil made)
merged_row end offset (value ∷ values) made all =
    ap (λ (now : List Setting). merged now (config_settings end (suc offset) values)) (put_last end offset value made all)
    ∙ (merged_row end (suc offset) values (made ++ setting end (names.Config offset) value ∷ []) (all_put end offset value made all)
    ∙ append_assoc made (setting end (names.Config offset) value ∷ []) (config_settings end (suc offset) values))

-- ---- all commands

alone_only : (kind : Kind) (values : Property → ℕ) (last end : ℕ) (command : List ℕ) (made : List Setting)
    → MakesOnly made (judged kind (λ property. value_by [] property (values property)) last end (info_at command)) → merged [] made ≡ made
    → MakesOnly made (judged_all kind values last end [] (command ∷ []))
alone_only kind values last end command made is row = by (judged kind (λ property. value_by [] property (values property)) last end (info_at command)) refl is
  where
    by : (verdict : Verdict) → judged kind (λ property. value_by [] property (values property)) last end (info_at command) ≡ verdict → MakesOnly made verdict
        → MakesOnly made (judged_all kind values last end [] (command ∷ []))
    by (Makes settings) e is = rw e (ap (λ (x : List Setting). merged [] x) is ∙ row)
    by (Works settings) e is = rw e is
    by Fails e is = rw e tt
    by NoSupport e is = rw e tt

-- made at once, if at all
abbrev MakesNow : List Setting → Verdict → Type 0
MakesNow made (Makes settings) = settings ≡ made
MakesNow made (Works settings) = ⊥
MakesNow made Fails = Unit {0}
MakesNow made NoSupport = Unit {0}

listed_now : (b inside : Bool) (made : List Setting) → MakesNow made (if b then where_inside inside made else NoSupport)
listed_now true true made = refl
listed_now true false made = tt
listed_now false inside made = tt

second_only : (kind : Kind) (values : Property → ℕ) (last end : ℕ) (command : List ℕ) (first second : Setting)
    → MakesNow (second ∷ []) (judged kind (λ property. value_by (first ∷ []) property (values property)) last end (info_at command))
    → MakesOnly (with_setting (first ∷ []) second) (judged_all kind values last end (first ∷ []) (command ∷ []))
second_only kind values last end command first second is = by (judged kind (λ property. value_by (first ∷ []) property (values property)) last end (info_at command)) refl is
  where
    by : (verdict : Verdict) → judged kind (λ property. value_by (first ∷ []) property (values property)) last end (info_at command) ≡ verdict → MakesNow (second ∷ []) verdict
        → MakesOnly (with_setting (first ∷ []) second) (judged_all kind values last end (first ∷ []) (command ∷ []))
    by (Makes settings) e is = rw e (ap (λ (x : List Setting). merged (first ∷ []) x) is)
    by (Works settings) e is = absurd is
    by Fails e is = rw e tt
    by NoSupport e is = rw e tt

both_only : (kind : Kind) (values : Property → ℕ) (last end : ℕ) (command other : List ℕ) (first second : Setting)
    → MakesNow (first ∷ []) (judged kind (λ property. value_by [] property (values property)) last end (info_at command))
    → MakesNow (second ∷ []) (judged kind (λ property. value_by (first ∷ []) property (values property)) last end (info_at other))
    → MakesOnly (with_setting (first ∷ []) second) (judged_all kind values last end [] (command ∷ other ∷ []))
both_only kind values last end command other first second is later = by (judged kind (λ property. value_by [] property (values property)) last end (info_at command)) refl is
  where
    by : (verdict : Verdict) → judged kind (λ property. value_by [] property (values property)) last end (info_at command) ≡ verdict → MakesNow (first ∷ []) verdict
        → MakesOnly (with_setting (first ∷ []) second) (judged_all kind values last end [] (command ∷ other ∷ []))
    by (Makes settings) e is =
        rw e (subst (λ (x : List Setting). MakesOnly (with_setting (first ∷ []) second) (judged_all kind values last end (merged [] x) (other ∷ []))) (sym is)
        (second_only kind values last end other first second later))
    by (Works settings) e is = absurd is
    by Fails e is = rw e tt
    by NoSupport e is = rw e tt

read_only : (kind : Kind) (values : Property → ℕ) (last end : ℕ) (message : CoreMessage) (made : List Setting) → IsInRange message
    → MakesOnly made (judged_set kind values last end message) → MakesOnly made (judged kind values last end (info_at (form message)))
read_only kind values last end message made is only =
    subst (λ (r : Result InfoMessage ClassFault). MakesOnly made (judged kind values last end r)) (sym (reads message is)) only

read_now : (kind : Kind) (values : Property → ℕ) (last end : ℕ) (message : CoreMessage) (made : List Setting) → IsInRange message
    → MakesNow made (judged_set kind values last end message) → MakesNow made (judged kind values last end (info_at (form message)))
read_now kind values last end message made is now =
    subst (λ (r : Result InfoMessage ClassFault). MakesNow made (judged kind values last end r)) (sym (reads message is)) now

-- a member that is no node cannot be read
no_node_set : (group member : ℕ) → is_node member ≡ false → info_at (0x85 ∷ 1 ∷ group ∷ member ∷ []) ≡ Err (BadValue 3)
unfolding info_at message_at in_class byte_at association_at nodes_at
no_node_set group member e = rw e refl

no_node_removed : (group member : ℕ) → is_node member ≡ false → info_at (0x85 ∷ 4 ∷ group ∷ member ∷ []) ≡ Err (BadValue 3)
unfolding info_at message_at in_class byte_at association_at nodes_at
no_node_removed group member e = rw e refl

one_node : (member : ℕ) → is_node member ≡ true → IsInRange (AssociationSet 1 (member ∷ []))
one_node member e = rw e refl

set_only : (kind : Kind) (values : Property → ℕ) (last end group member : ℕ)
    → MakesOnly (setting end (names.Member group member) 1 ∷ []) (judged kind values last end (info_at (form (AssociationSet group (member ∷ [])))))
set_only kind values last end group member = by (is_node member) refl
  where
    by : (b : Bool) → is_node member ≡ b → MakesOnly (setting end (names.Member group member) 1 ∷ []) (judged kind values last end (info_at (form (AssociationSet group (member ∷ [])))))
    by true e = read_only kind values last end (AssociationSet group (member ∷ [])) _ (one_node member e) (listed_only (lists kind 0x85) _ _ (members_only values end 1 group member))
    by false e = rw (no_node_set group member e) tt

removed_only : (kind : Kind) (values : Property → ℕ) (last end group member : ℕ)
    → MakesOnly (setting end (names.Member group member) 0 ∷ []) (judged kind values last end (info_at (form (AssociationRemove group (member ∷ [])))))
removed_only kind values last end group member = by (is_node member) refl
  where
    by : (b : Bool) → is_node member ≡ b → MakesOnly (setting end (names.Member group member) 0 ∷ []) (judged kind values last end (info_at (form (AssociationRemove group (member ∷ [])))))
    by true e = read_only kind values last end (AssociationRemove group (member ∷ [])) _ (one_node member e) (listed_only (lists kind 0x85) _ _ (members_only values end 0 group member))
    by false e = rw (no_node_removed group member e) tt

bulk_only : (kind : Kind) (values : Property → ℕ) (last end offset : ℕ) (numbers : List ℕ)
    → MakesOnly (config_settings end offset numbers) (judged_set kind values last end (ConfigurationBulkSet offset false (record { size = One; items = numbers })))
bulk_only kind values last end offset numbers =
    subst (λ (x : List Setting). MakesOnly x (judged_set kind values last end (ConfigurationBulkSet offset false (record { size = One; items = numbers }))))
    (configured_is end offset numbers) (listed_only (lists kind 0x70) _ _ (inside_only (nat_le (offset + length numbers) 256) _))

mode_then_setpoint : (end mode kind tenths : ℕ)
    → with_setting (setting end names.Mode mode ∷ []) (setting end (names.Setpoint kind) tenths) ≡ setting end names.Mode mode ∷ setting end (names.Setpoint kind) tenths ∷ []
mode_then_setpoint end mode kind tenths = rw (same_end end) refl

all_only : (kind : Kind) (values : Property → ℕ) (last end : ℕ) (actuator : Actuator) (asked : What) → is_bad actuator asked ≡ false
    → MakesOnly (settings_by actuator end asked) (judged_all kind values last end [] (commands_of actuator asked))
all_only kind values last end actuator (what.Value word) good =
    alone_only kind values last end _ _ (read_only kind values last end (value_message actuator word) _ (value_in_range actuator word good) (value_only kind values last end actuator word good)) refl
all_only kind values last end actuator (what.Mode mode) good =
    alone_only kind values last end _ _ (read_only kind values last end (ThermostatModeSet mode) _ (mode_in_range mode good) (listed_only (lists kind 0x40) _ _ (inside_only (nat_le mode 2) _))) refl
all_only kind values last end actuator (what.Setpoint type tenths) good =
    alone_only kind values last end _ _
    (read_only kind values last end (setpoint_message type tenths) _ (setpoint_in_range type tenths good)
    (listed_only (lists kind 0x43) _ _ (inside_only (is_setpoint type (record { precision = 1; scale = 0; number = Two tenths })) _))) refl
all_only kind values last end actuator (what.Config parameter value) good =
    alone_only kind values last end _ _ (read_only kind values last end (ConfigurationSet parameter false (Four value)) _ tt (listed_only (lists kind 0x70) _ _ refl)) refl
all_only kind values last end actuator (what.Bulk offset numbers) good =
    alone_only kind values last end _ _ (read_only kind values last end (ConfigurationBulkSet offset false (record { size = One; items = numbers })) _ tt (bulk_only kind values last end offset numbers))
    (merged_row end offset numbers [] tt)
all_only kind values last end actuator (what.Associate group member) good = alone_only kind values last end _ _ (set_only kind values last end group member) refl
all_only kind values last end actuator (what.Dissociate group member) good = alone_only kind values last end _ _ (removed_only kind values last end group member) refl
all_only kind values last end actuator (what.Interval seconds) good =
    alone_only kind values last end _ _ (read_only kind values last end (WakeUpIntervalSet seconds 1) _ refl (listed_only (lists kind 0x84) _ _ refl)) refl
all_only kind values last end actuator (what.Comfort mode type tenths) good =
    let first : Setting = setting end names.Mode mode in
    let second : Setting = setting end (names.Setpoint type) tenths in
    let after : Property → ℕ = λ property. value_by (first ∷ []) property (values property) in
    subst (λ (x : List Setting). MakesOnly x (judged_all kind values last end [] (form (ThermostatModeSet mode) ∷ form (setpoint_message type tenths) ∷ []))) (mode_then_setpoint end mode type tenths)
    (both_only kind values last end (form (ThermostatModeSet mode)) (form (setpoint_message type tenths)) first second
    (read_now kind values last end (ThermostatModeSet mode) (first ∷ []) (mode_in_range mode (first_of _ _ good)) (listed_now (lists kind 0x40) (nat_le mode 2) (first ∷ [])))
    (read_now kind after last end (setpoint_message type tenths) (second ∷ []) (setpoint_in_range type tenths (second_of _ _ good))
    (listed_now (lists kind 0x43) (is_setpoint type (record { precision = 1; scale = 0; number = Two tenths })) (second ∷ []))))

-- ---- a message

message_only : (no_end no_batch : Bool) (made : List Setting) (verdict : Verdict) → MakesOnly made verdict
    → MakesOnly made (if no_end then NoSupport else if no_batch then NoSupport else verdict)
message_only true no_batch made verdict is = tt
message_only false true made verdict is = tt
message_only false false made verdict is = is

pub makes_only : (device : State) (carriage : Carriage) (order : Order) → is_bad carriage.actuator order.what ≡ false
    → MakesOnly (settings carriage.actuator order) (verdict_on device carriage order)
unfolding judged_message
makes_only device carriage order good =
    message_only (not (has_end device.kind order.end))
    (is_batch order.what && (not (lists device.kind 0x8F) || (length (commands_of carriage.actuator order.what) == 0)))
    (settings carriage.actuator order) _
    (all_only device.kind (value_of device) (last_level_of device) order.end carriage.actuator order.what good)
