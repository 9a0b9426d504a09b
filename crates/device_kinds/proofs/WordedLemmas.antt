-- Answers are short, and no encapsulations.
use Rattle.std.proofs.Common.{◌≡◌, ℕ, zero, suc, ◌+◌, ◌/◌, ◌%◌, ◌<◌, ◌≤◌, inl, inr, List, [], ◌∷◌, length, Bool, true, false, refl, sym, ◌∙◌, ap, subst, arith, length-append}
use Rattle.std.specs.Prelude.{Option, Some, None, not, ◌==◌, ◌&&◌, slice_get}
use Rattle.zw_base.specs.Crc.{crc}
use Rattle.class_core.specs.Cell.{written}
use Rattle.class_core.specs.Fields.{nodes}
use Rattle.class_core.specs.declared.number.Number.{Number}
use Rattle.class_core.specs.declared.number.Number.TheVariants.{One, Two, Four}
use Rattle.class_core.specs.declared.message.CoreMessage.TheVariants.{SwitchBinaryReport, SwitchMultilevelReport, ThermostatModeReport, ThermostatSetpointReport, ConfigurationReport}
use Rattle.class_info.specs.declared.message.InfoMessage.{InfoMessage}
use Rattle.class_info.specs.declared.message.InfoMessage.TheVariants.{Core, SensorMultilevelReport, BatteryReport, WakeUpIntervalReport, AssociationReport, SupervisionReport}
use Rattle.class_info.specs.InfoSpelling.{form}
use Rattle.encap.specs.Begins.{IsMisplaced}
use Rattle.encap.specs.Wraps.{IsCommand, AllCommands, is_within}
use Rattle.encap.specs.Written.{addressed_form, checked_form, IsWrappable, AreShort}
use Rattle.encap.specs.declared.plan.Plan.{Plan}
use Rattle.encap.specs.declared.plan.Ends.{Ends}
use Rattle.encap.specs.declared.plan.Outer.{Outer}
use Rattle.encap.specs.declared.plan.Outer.TheVariants.{None as no_outer, Crc16, Security, Transport}
use Rattle.device_kinds.specs.Answers.{worded}
use Rattle.device_kinds.specs.Telling.{IsAnswer}
use Rattle.device_kinds.specs.Worded.{IsShort}

-- a class and command that begin no encapsulation
abbrev is_plain : ℕ → ℕ → Bool
is_plain class command =
    not (class == 143) && not (class == 96) && not (class == 86) && not (class == 152) && not (class == 85) && not ((class == 108) && (command == 1))

placed_by : (a b : ℕ) (rest : List ℕ) → is_plain a b ≡ true → ¬ IsMisplaced true (a ∷ b ∷ rest)
placed_by a b rest h (inl (inl is)) = let bad : is_plain 143 b ≡ true = subst (λ (n : ℕ). is_plain n b ≡ true) is.class_is h in absurd (cc)
placed_by a b rest h (inl (inr (inl is))) =
    let one : is_plain 108 b ≡ true = subst (λ (n : ℕ). is_plain n b ≡ true) is.class_is h in
    let bad : is_plain 108 1 ≡ true = subst (λ (n : ℕ). is_plain 108 n ≡ true) is.command_is one in absurd (cc)
placed_by a b rest h (inl (inr (inr (inl is)))) = let bad : is_plain 96 b ≡ true = subst (λ (n : ℕ). is_plain n b ≡ true) is.class_is h in absurd (cc)
placed_by a b rest h (inl (inr (inr (inr is)))) = let bad : is_plain 86 b ≡ true = subst (λ (n : ℕ). is_plain n b ≡ true) is.class_is h in absurd (cc)
placed_by a b rest h (inr (w, inl is)) = let bad : is_plain 152 b ≡ true = subst (λ (n : ℕ). is_plain n b ≡ true) is.class_is h in absurd (cc)
placed_by a b rest h (inr (w, inr is)) = let bad : is_plain 85 b ≡ true = subst (λ (n : ℕ). is_plain n b ≡ true) is.class_is h in absurd (cc)

-- the text of an answer
pub record IsText (text : List ℕ) : Type 0 where
  pub some : 1 ≤ length text
  pub ten : length text ≤ 10
  pub placed : ¬ IsMisplaced true text

length-nodes : (ns : List ℕ) → length (written (nodes ns)) ≡ length ns
length-nodes [] = refl
length-nodes (n ∷ ns) = ap suc (length-nodes ns)

text_of : (a b : ℕ) (rest : List ℕ) → length rest ≤ 8 → is_plain a b ≡ true → IsText (a ∷ b ∷ rest)
text_of a b rest few plain = record { some = omega arith; ten = omega arith; placed = placed_by a b rest plain }

pub answer_text : (m : InfoMessage) → IsAnswer m → IsText (form m)
answer_text (Core (SwitchBinaryReport value)) is = text_of 0x25 3 _ (omega arith) refl
answer_text (Core (SwitchMultilevelReport level)) is = text_of 0x26 3 _ (omega arith) refl
answer_text (Core (ThermostatModeReport mode)) is = text_of 0x40 3 _ (omega arith) refl
answer_text (Core (ThermostatSetpointReport type value)) is = by value.precision value.scale value.number
  where
    by : (p s : ℕ) (n : Number) → IsText (form (Core (ThermostatSetpointReport type (record { precision = p; scale = s; number = n }))))
    by p s (One n) = text_of 0x43 3 _ (omega arith) refl
    by p s (Two n) = text_of 0x43 3 _ (omega arith) refl
    by p s (Four n) = text_of 0x43 3 _ (omega arith) refl
answer_text (Core (ConfigurationReport parameter (One n))) is = text_of 0x70 6 _ (omega arith) refl
answer_text (Core (ConfigurationReport parameter (Two n))) is = text_of 0x70 6 _ (omega arith) refl
answer_text (Core (ConfigurationReport parameter (Four n))) is = text_of 0x70 6 _ (omega arith) refl
answer_text (SensorMultilevelReport type value) is = by value.precision value.scale value.number
  where
    by : (p s : ℕ) (n : Number) → IsText (form (SensorMultilevelReport type (record { precision = p; scale = s; number = n })))
    by p s (One n) = text_of 0x31 5 _ (omega arith) refl
    by p s (Two n) = text_of 0x31 5 _ (omega arith) refl
    by p s (Four n) = text_of 0x31 5 _ (omega arith) refl
answer_text (BatteryReport level) is = text_of 0x80 3 _ (omega arith) refl
answer_text (WakeUpIntervalReport seconds target) is = text_of 0x84 6 _ (omega arith) refl
answer_text (AssociationReport group most following members) is =
    text_of 0x85 3 (group ∷ most ∷ following ∷ written (nodes members)) (omega (arith, length-nodes members)) refl
answer_text (SupervisionReport more wake_request session status duration) is = text_of 0x6C 2 _ (omega arith) refl
answer_text _ is = absurd is

addressed_len : (channel : Option Ends) (text : List ℕ) → (length text ≤ length (addressed_form channel text)) × (length (addressed_form channel text) ≤ length text + 4)
addressed_len None text = (omega arith, omega arith)
addressed_len (Some ends) text = (omega arith, omega arith)

checked_len : (outer : Outer) (text : List ℕ) → (length text ≤ length (checked_form outer text)) × (length (checked_form outer text) ≤ length text + 4)
checked_len no_outer text = (omega arith, omega arith)
checked_len Security text = (omega arith, omega arith)
checked_len Transport text = (omega arith, omega arith)
checked_len Crc16 text =
    let len = length-append (86 ∷ 1 ∷ text) (crc (86 ∷ 1 ∷ text) / 256 ∷ crc (86 ∷ 1 ∷ text) % 256 ∷ []) in
    (omega (arith, len), omega (arith, len))

pub worded_short : (plan : Plan) (m : InfoMessage) → plan.batch ≡ false → plan.session ≡ None → IsAnswer m → IsShort (worded plan m)
worded_short plan m b s is =
    let text = answer_text m is in
    let a = addressed_len plan.channel (form m) in
    let k = checked_len plan.outer (addressed_form plan.channel (form m)) in
    rw (b, s) (record { some = omega (arith, text.some, a.0, k.0); short = omega (arith, text.ten, a.1, k.1) })

within_weaker : (within : Bool) (text : List ℕ) → IsText text → IsCommand within text
within_weaker within text is = record { some = is.some; placed = λ m. is.placed (by m) }
  where
    by : IsMisplaced within text → IsMisplaced true text
    by (inl w) = inl w
    by (inr o) = inr (refl, o.1)

pub wrappable : (plan : Plan) (commands : List (List ℕ)) (m : InfoMessage) → plan.batch ≡ false → plan.session ≡ None → IsAnswer m → commands ≡ form m ∷ []
    → IsWrappable plan commands
wrappable plan commands m b s is one = record {
  count = rw (b, one) refl;
  session = rw s tt;
  plain = subst (λ (x : List (List ℕ)). AllCommands (is_within plan) x) (sym one) (within_weaker (is_within plan) (form m) (answer_text m is), tt);
}

pub are_short : (commands : List (List ℕ)) (m : InfoMessage) → IsAnswer m → commands ≡ form m ∷ [] → AreShort commands
are_short commands m is one =
    let ten = (answer_text m is).ten in
    λ k command e.
    let at : slice_get (form m ∷ []) k ≡ Some command = ap (λ (x : List (List ℕ)). slice_get x k) (sym one) ∙ e in
    by k command ten at
  where
    by : (k : ℕ) (command : List ℕ) → length (form m) ≤ 10 → slice_get (form m ∷ []) k ≡ Some command → length command < 65536
    by zero command ten at = let same : form m ≡ command = cc in omega (arith, ap length same)
    by (suc k) command ten at = let none : None ≡ Some command = at in absurd (cc)

-- an answer without wraps
pub short_form : (m : InfoMessage) (text : List ℕ) → IsAnswer m → text ≡ form m → IsShort text
short_form m text is e =
    let t = answer_text m is in
    subst (λ (x : List ℕ). IsShort x) (sym e) (record { some = t.some; short = omega (arith, t.ten) })
