-- The message of a session opens to the order's messages.
use Rattle.std.proofs.Common.{◌≡◌, ◌≢◌, ℕ, ◌<◌, ◌≤◌, ◌==◌, inl, inr, Bool, true, false, ◌||◌, not, nat_lt, if◌then◌else◌, Some, None, List, [], ◌∷◌, length, map, refl, ap, ◌∙◌, arith}
use Rattle.std.specs.Prelude.{IsTrue, nat_le, Result}
use Rattle.std.proofs.lemmas.Bool.Decides.{nat_tests}
use Rattle.zw_base.specs.declared.order.Word.{Word}
use Rattle.zw_base.specs.declared.order.Word.TheVariants.{On, Off, Level}
use Rattle.zw_base.specs.declared.order.What.{What}
use Rattle.zw_base.specs.declared.order.What.TheVariants as what
use Rattle.zw_base.specs.declared.order.Order.{Order}
use Rattle.class_core.specs.declared.fault.ClassFault.{ClassFault}
use Rattle.class_core.specs.Ranges.{is_level, is_node}
use Rattle.class_core.specs.declared.message.CoreMessage.{CoreMessage}
use Rattle.class_core.specs.declared.message.CoreMessage.TheVariants.{ThermostatModeSet, AssociationSet, AssociationRemove, WakeUpIntervalSet}
use Rattle.class_core.specs.Spelling.{form, IsInRange}
use Rattle.class_info.specs.declared.message.InfoMessage.{InfoMessage}
use Rattle.class_info.specs.declared.message.InfoMessage.TheVariants.{Core}
use Rattle.class_info.specs.InfoReading.{info_at}
use Rattle.class_info.proofs.InfoLaws.{again}
use Rattle.class_info.proofs.FormLaws.{form_spells}
use Rattle.encap.specs.Begins.{IsMisplaced}
use Rattle.encap.specs.Wraps.{Wraps, IsCommand, AllCommands, is_within}
use Rattle.encap.specs.Written.{only_of, batch_text, batched_form, IsCount, AreEnds, too_long_by}
use Rattle.encap.specs.Opening.{opened_at}
use Rattle.encap.specs.declared.plan.Plan.{Plan}
use Rattle.encap.specs.declared.plan.Supervised.{Supervised}
use Rattle.encap.proofs.FormLemmas.{form_wraps}
use Rattle.encap.proofs.OpenedLemmas.{opened_there}
use Rattle.host_orders.specs.Messages.{messages, commands_of, is_batch, value_message, setpoint_message}
use Rattle.host_orders.specs.Refusals.{IsFit, is_bad, is_bad_word, is_bad_setpoint}
use Rattle.host_orders.specs.Wrapping.{ends_of, plan_of, message_of, supervised_of}
use Rattle.host_orders.specs.declared.actuator.Actuator.{Actuator}
use Rattle.host_orders.specs.declared.actuator.Actuator.TheVariants.{Binary, Multilevel, Lock}
use Rattle.host_orders.specs.declared.carriage.Carriage.{Carriage}
use Rattle.device_kinds.specs.Effects.{end_of}
use Rattle.proof_messages.specs.Asking.{message_in, read_as, NamesNode}
use Rattle.host_requests.proofs.Ending.{not_answered as first_of}

-- ---- the commands are no wraps

-- a class of which no wrap is
record IsNoWrap (class : ℕ) : Type 0 where
  batch : class ≢ 143
  supervision : class ≢ 108
  channel : class ≢ 96
  crc : class ≢ 86
  sealed : class ≢ 152
  segment : class ≢ 85

placed_by : (within : Bool) (class : ℕ) (rest : List ℕ) → IsNoWrap class → IsMisplaced within (class ∷ rest) → ⊥
placed_by within class rest is (inl (inl b)) = is.batch b.class_is
placed_by within class rest is (inl (inr (inl b))) = is.supervision b.class_is
placed_by within class rest is (inl (inr (inr (inl b)))) = is.channel b.class_is
placed_by within class rest is (inl (inr (inr (inr b)))) = is.crc b.class_is
placed_by within class rest is (inr (inside, inl b)) = is.sealed b.class_is
placed_by within class rest is (inr (inside, inr b)) = is.segment b.class_is

command_by : (within : Bool) (class : ℕ) (rest : List ℕ) → IsNoWrap class → IsCommand within (class ∷ rest)
command_by within class rest is = record { some = omega arith; placed = placed_by within class rest is }

no_wrap : (class : ℕ) → class ≤ 84 → IsNoWrap class
no_wrap class low = record { batch = λ e. absurd (omega (arith, e, low)); supervision = λ e. absurd (omega (arith, e, low)); channel = λ e. absurd (omega (arith, e, low)); crc = λ e. absurd (omega (arith, e, low)); sealed = λ e. absurd (omega (arith, e, low)); segment = λ e. absurd (omega (arith, e, low)) }

no_wrap_between : (class : ℕ) → 109 ≤ class → class ≤ 142 → IsNoWrap class
no_wrap_between class low high = record { batch = λ e. absurd (omega (arith, e, high)); supervision = λ e. absurd (omega (arith, e, low)); channel = λ e. absurd (omega (arith, e, low)); crc = λ e. absurd (omega (arith, e, low)); sealed = λ e. absurd (omega (arith, e, high)); segment = λ e. absurd (omega (arith, e, low)) }

no_wrap_lock : IsNoWrap 0x62
no_wrap_lock = record { batch = λ e. absurd (omega (arith, e)); supervision = λ e. absurd (omega (arith, e)); channel = λ e. absurd (omega (arith, e)); crc = λ e. absurd (omega (arith, e)); sealed = λ e. absurd (omega (arith, e)); segment = λ e. absurd (omega (arith, e)) }

-- of a class below 85, or of Door Lock
pub low_class : (within : Bool) (class : ℕ) (rest : List ℕ) → class ≤ 84 → IsCommand within (class ∷ rest)
low_class within class rest low = command_by within class rest (no_wrap class low)

pub lock_class : (within : Bool) (rest : List ℕ) → IsCommand within (0x62 ∷ rest)
lock_class within rest = command_by within 0x62 rest no_wrap_lock

value_command : (within : Bool) (actuator : Actuator) (word : Word) → IsCommand within (form (value_message actuator word))
value_command within Binary word = low_class within 0x25 _ (omega arith)
value_command within Multilevel word = low_class within 0x26 _ (omega arith)
value_command within Lock word = lock_class within _

are_commands : (within : Bool) (actuator : Actuator) (asked : What) → AllCommands within (commands_of actuator asked)
are_commands within actuator (what.Value word) = (value_command within actuator word, tt)
are_commands within actuator (what.Mode mode) = (low_class within 0x40 _ (omega arith), tt)
are_commands within actuator (what.Setpoint kind tenths) = (low_class within 0x43 _ (omega arith), tt)
are_commands within actuator (what.Config parameter value) = (command_by within 0x70 _ (no_wrap_between 0x70 (omega arith) (omega arith)), tt)
are_commands within actuator (what.Bulk offset values) = (command_by within 0x70 _ (no_wrap_between 0x70 (omega arith) (omega arith)), tt)
are_commands within actuator (what.Associate group member) = (command_by within 0x85 _ (no_wrap_between 0x85 (omega arith) (omega arith)), tt)
are_commands within actuator (what.Dissociate group member) = (command_by within 0x85 _ (no_wrap_between 0x85 (omega arith) (omega arith)), tt)
are_commands within actuator (what.Interval seconds) = (command_by within 0x84 _ (no_wrap_between 0x84 (omega arith) (omega arith)), tt)
are_commands within actuator (what.Comfort mode kind tenths) = (low_class within 0x40 _ (omega arith), (low_class within 0x43 _ (omega arith), tt))

-- ---- they can be wrapped

so_many : (actuator : Actuator) (asked : What) → IsCount (is_batch asked) (length (commands_of actuator asked))
so_many actuator (what.Value word) = refl
so_many actuator (what.Mode mode) = refl
so_many actuator (what.Setpoint kind tenths) = refl
so_many actuator (what.Config parameter value) = refl
so_many actuator (what.Bulk offset values) = refl
so_many actuator (what.Associate group member) = refl
so_many actuator (what.Dissociate group member) = refl
so_many actuator (what.Interval seconds) = refl
so_many actuator (what.Comfort mode kind tenths) = (omega arith, omega arith)

no_long : (b : Bool) (len : ℕ) → b ≡ false → (if b then Some len else None) ≡ None
no_long true len e = cc
no_long false len e = refl

alone_fits : (session : Supervised) (commands : List (List ℕ)) → nat_lt 255 (length (only_of commands)) ≡ false → too_long_by false (Some session) commands ≡ None
alone_fits session commands short = no_long (nat_lt 255 (length (only_of commands))) (length (only_of commands)) short

fits_by : (session : Supervised) (actuator : Actuator) (asked : What) → nat_lt 255 (length (batched_form (is_batch asked) (commands_of actuator asked))) ≡ false
    → too_long_by (is_batch asked) (Some session) (commands_of actuator asked) ≡ None
fits_by session actuator (what.Value word) short = alone_fits session (commands_of actuator (what.Value word)) short
fits_by session actuator (what.Mode mode) short = alone_fits session (commands_of actuator (what.Mode mode)) short
fits_by session actuator (what.Setpoint kind tenths) short = alone_fits session (commands_of actuator (what.Setpoint kind tenths)) short
fits_by session actuator (what.Config parameter value) short = alone_fits session (commands_of actuator (what.Config parameter value)) short
fits_by session actuator (what.Bulk offset values) short = alone_fits session (commands_of actuator (what.Bulk offset values)) short
fits_by session actuator (what.Associate group member) short = alone_fits session (commands_of actuator (what.Associate group member)) short
fits_by session actuator (what.Dissociate group member) short = alone_fits session (commands_of actuator (what.Dissociate group member)) short
fits_by session actuator (what.Interval seconds) short = alone_fits session (commands_of actuator (what.Interval seconds)) short
fits_by session actuator (what.Comfort mode kind tenths) short =
    no_long (nat_lt 255 (length (batch_text (commands_of actuator (what.Comfort mode kind tenths))))) (length (batch_text (commands_of actuator (what.Comfort mode kind tenths)))) short

pub ends_are : (end : ℕ) → end ≤ 127 → AreEnds (ends_of end)
ends_are end most = by (nat_lt 0 end)
  where
    by : (b : Bool) → AreEnds (if b then Some (record { source = 0; target = end }) else None)
    by true = (omega arith, most)
    by false = tt

pub message_wraps : (carriage : Carriage) (order : Order) (session : ℕ) → IsFit carriage.actuator order → order.end ≤ 127
    → Wraps (plan_of carriage order session) (commands_of carriage.actuator order.what) (message_of carriage order session)
message_wraps carriage order session fit most =
    let plan : Plan = plan_of carriage order session in
    form_wraps plan (commands_of carriage.actuator order.what) (message_of carriage order session)
    (record { count = so_many carriage.actuator order.what; session = omega arith; plain = are_commands (is_within plan) carriage.actuator order.what })
    (ends_are order.end most) (fits_by (supervised_of carriage.actuator order session) carriage.actuator order.what fit.short) refl

pub message_opens : (carriage : Carriage) (order : Order) (session : ℕ) → IsFit carriage.actuator order → order.end ≤ 127
    → opened_at (message_of carriage order session) ≡ Some (message_in carriage order session)
message_opens carriage order session fit most =
    opened_there (plan_of carriage order session) (commands_of carriage.actuator order.what) (message_of carriage order session) (message_wraps carriage order session fit most)

pub target_is : (end : ℕ) → end_of (ends_of end) ≡ end
target_is end = by (nat_lt 0 end) refl
  where
    by : (b : Bool) → nat_lt 0 end ≡ b → end_of (if b then Some (record { source = 0; target = end }) else None) ≡ end
    by true e = refl
    by false e = grind (arith, nat_tests)

-- ---- what is read

pub reads : (message : CoreMessage) → IsInRange message → info_at (form message) ≡ read_as message
reads message is = again (form message) (Core message) (form_spells (Core message) is)

small_level : (level : ℕ) → nat_lt 99 level ≡ false → IsTrue (is_level level)
small_level level e = by (nat_le level 99) refl
  where
    by : (b : Bool) → nat_le level 99 ≡ b → IsTrue (is_level level)
    by true d = rw d refl
    by false d = absurd (grind (arith, nat_tests))

pub value_in_range : (actuator : Actuator) (word : Word) → is_bad_word actuator word ≡ false → IsInRange (value_message actuator word)
value_in_range Binary word good = tt
value_in_range Lock word good = tt
value_in_range Multilevel On good = refl
value_in_range Multilevel Off good = refl
value_in_range Multilevel (Level level) good = small_level level good

pub mode_in_range : (mode : ℕ) → nat_lt 31 mode ≡ false → mode < 32
mode_in_range mode good = grind (arith, nat_tests)

pub second_of : (a b : Bool) → (a || b) ≡ false → b ≡ false
second_of true b e = cc
second_of false b e = e

kind_in_range : (kind tenths : ℕ) → is_bad_setpoint kind tenths ≡ false → kind < 16
kind_in_range kind tenths good = by (kind == 1) (kind == 2) refl refl (first_of _ _ good)
  where
    by : (a b : Bool) → kind == 1 ≡ a → kind == 2 ≡ b → not (a || b) ≡ false → kind < 16
    by true b d e good = grind (arith, nat_tests)
    by false true d e good = grind (arith, nat_tests)
    by false false d e good = cc

pub setpoint_in_range : (kind tenths : ℕ) → is_bad_setpoint kind tenths ≡ false → IsInRange (setpoint_message kind tenths)
setpoint_in_range kind tenths good = (kind_in_range kind tenths good, (omega arith, omega arith))

one_read : (message : CoreMessage) → IsInRange message → map info_at (form message ∷ []) ≡ map read_as (message ∷ [])
one_read message is = ap (λ (x : Result InfoMessage ClassFault). x ∷ []) (reads message is)

pub all_read : (actuator : Actuator) (asked : What) → is_bad actuator asked ≡ false → NamesNode asked
    → map info_at (commands_of actuator asked) ≡ map read_as (messages actuator asked)
all_read actuator (what.Value word) good node = one_read (value_message actuator word) (value_in_range actuator word good)
all_read actuator (what.Mode mode) good node = one_read (ThermostatModeSet mode) (mode_in_range mode good)
all_read actuator (what.Setpoint kind tenths) good node = one_read (setpoint_message kind tenths) (setpoint_in_range kind tenths good)
all_read actuator (what.Config parameter value) good node = one_read _ tt
all_read actuator (what.Bulk offset values) good node = one_read _ tt
all_read actuator (what.Associate group member) good node = one_read (AssociationSet group (member ∷ [])) (one_node member node)
  where
    one_node : (member : ℕ) → IsTrue (is_node member) → IsInRange (AssociationSet 0 (member ∷ []))
    one_node member is = rw is refl
all_read actuator (what.Dissociate group member) good node = one_read (AssociationRemove group (member ∷ [])) (one_node member node)
  where
    one_node : (member : ℕ) → IsTrue (is_node member) → IsInRange (AssociationRemove 0 (member ∷ []))
    one_node member is = rw is refl
all_read actuator (what.Interval seconds) good node = one_read (WakeUpIntervalSet seconds 1) refl
all_read actuator (what.Comfort mode kind tenths) good node =
    ap (λ (x : Result InfoMessage ClassFault). x ∷ info_at (form (setpoint_message kind tenths)) ∷ []) (reads (ThermostatModeSet mode) (mode_in_range mode (first_of _ _ good)))
    ∙ ap (λ (x : Result InfoMessage ClassFault). read_as (ThermostatModeSet mode) ∷ x ∷ []) (reads (setpoint_message kind tenths) (setpoint_in_range kind tenths (second_of _ _ good)))
