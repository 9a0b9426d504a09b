-- An order that no rule refuses is fit, and each message of it fits how it is carried.
use Rattle.std.proofs.Common.{◌≡◌, ℕ, ◌+◌, ◌≤◌, ◌<◌, Bool, true, false, ◌&&◌, nat_lt, nat_le, not, if◌then◌else◌, Option, Some, None, is_some, List, [], ◌∷◌, length, refl, sym, ◌∙◌, subst, arith, length-append}
use Rattle.std.proofs.lemmas.Bool.Decides.{nat_tests}
use Rattle.std.proofs.lemmas.Bool.{not-true as not_so}
use Rattle.zw_base.specs.declared.order.Order.{Order}
use Rattle.encap.specs.Wraps.{crc16_text}
use Rattle.encap.specs.Written.{checked_form, addressed_form, supervised_form}
use Rattle.encap.specs.declared.plan.Ends.{Ends}
use Rattle.encap.specs.declared.plan.Outer.{Outer}
use Rattle.encap.specs.declared.plan.Outer.TheVariants.{None as no_outer, Crc16, Security, Transport}
use Rattle.encap.specs.declared.plan.Supervised.{Supervised}
use Rattle.host_orders.specs.Classes.{lists, actuator_of}
use Rattle.host_orders.specs.Refusals.{Known, IsFit, classes_of, first_some, unless, unsupported, is_bad, is_too_long, too_long, mailbox_full, known_refusal, first_refusal}
use Rattle.host_orders.specs.Messages.{classes_needed}
use Rattle.host_orders.specs.Wrapping.{ends_of, supervised_of, supervised_text, wrapped_len, carriage_of, message_of, form_of}
use Rattle.host_orders.specs.declared.refused.Refused.{Refused}
use Rattle.host_orders.specs.declared.refused.Refused.TheVariants.{NotJoined, NotInterviewed, BadValue, Unsupervised, TooLong, MailboxFull}
use Rattle.host_model.specs.Facts.{FitsForm}

-- ---- rules

none_first : (o : Option Refused) (more : List (Option Refused)) → first_some (o ∷ more) ≡ None → o ≡ None
none_first None more e = refl
none_first (Some refused) more e = cc

pub none_later : (o : Option Refused) (more : List (Option Refused)) → first_some (o ∷ more) ≡ None → first_some more ≡ None
none_later None more e = e
none_later (Some refused) more e = cc

pub holds : (b : Bool) (refused : Refused) → unless b refused ≡ None → b ≡ true
holds true refused e = refl
holds false refused e = cc

refused_if : (b : Bool) (refused : Refused) (more : Option Refused) → (if b then Some refused else more) ≡ None → b ≡ false
refused_if true refused more e = cc
refused_if false refused more e = refl

else_more : (b : Bool) (refused : Refused) (more : Option Refused) → (if b then Some refused else more) ≡ None → more ≡ None
else_more true refused more e = cc
else_more false refused more e = e

-- what passes all rules of known classes
record Passes (classes : List ℕ) (waiting : ℕ) (order : Order) : Type 0 where
  pub good : is_bad (actuator_of classes) order.what ≡ false
  pub short : nat_lt 255 (length (supervised_text (actuator_of classes) order)) ≡ false
  pub fits : is_too_long classes (wrapped_len (actuator_of classes) order) ≡ false
  pub few : nat_le 16 waiting ≡ false

passes_rules : (unlisted bad unsupervised long full : Option Refused) → first_some (unlisted ∷ bad ∷ unsupervised ∷ long ∷ full ∷ []) ≡ None
    → (bad ≡ None) × (long ≡ None) × (full ≡ None)
passes_rules unlisted bad unsupervised long full e =
    let a = none_later unlisted (bad ∷ unsupervised ∷ long ∷ full ∷ []) e in
    let b = none_later bad (unsupervised ∷ long ∷ full ∷ []) a in
    let c = none_later unsupervised (long ∷ full ∷ []) b in
    let d = none_later long (full ∷ []) c in
    (none_first bad (unsupervised ∷ long ∷ full ∷ []) a, none_first long (full ∷ []) c, none_first full [] d)

passes : (classes : List ℕ) (waiting : ℕ) (order : Order) → known_refusal classes waiting order ≡ None → Passes classes waiting order
unfolding known_refusal
passes classes waiting order e =
    let actuator = actuator_of classes in
    let rules = passes_rules (unsupported classes (classes_needed actuator order.what order.end)) (unless (not (is_bad actuator order.what)) BadValue)
    (unless (lists classes 0x6C) Unsupervised) (too_long classes (length (supervised_text actuator order)) (wrapped_len actuator order)) (mailbox_full waiting) e in
    let wrapped = wrapped_len actuator order in
    let len = length (supervised_text actuator order) in
    let rest : Option Refused = if is_too_long classes wrapped then Some (TooLong wrapped) else None in
    record {
      good = not_so (is_bad actuator order.what) (holds (not (is_bad actuator order.what)) BadValue rules.0);
      short = refused_if (nat_lt 255 len) (TooLong len) rest rules.1;
      fits = refused_if (is_too_long classes wrapped) (TooLong wrapped) None (else_more (nat_lt 255 len) (TooLong len) rest rules.1);
      few = refused_if (nat_le 16 waiting) (MailboxFull 16) None rules.2;
    }

passes_of : (known : Known) (order : Order) → first_refusal known order ≡ None → Passes (classes_of known) known.waiting order
unfolding first_refusal
passes_of known order e =
    let rest = none_later (unless known.joined NotJoined) _ e in
    let last = none_later (unless (is_some known.classes) NotInterviewed) _ rest in
    passes (classes_of known) known.waiting order (none_first (known_refusal (classes_of known) known.waiting order) [] last)

-- ---- lengths

channel_len : Option Ends → ℕ
channel_len None = 0
channel_len (Some ends) = 4

channel_is_short : (ends : Option Ends) → channel_len ends ≤ 4
unfolding channel_len
channel_is_short None = omega arith
channel_is_short (Some ends) = omega arith

length-wrapped : (ends : Option Ends) (session : Supervised) (text : List ℕ)
    → length (addressed_form ends (supervised_form (Some session) text)) ≡ channel_len ends + 4 + length text
unfolding channel_len
length-wrapped None session text = omega arith
length-wrapped (Some ends) session text = omega arith

-- so many bytes fit an outermost wrap
abbrev CarriesAtMost : Outer → ℕ → Type 0
CarriesAtMost no_outer len = len ≤ 46
CarriesAtMost Crc16 len = len + 4 ≤ 46
CarriesAtMost Security len = len ≤ 26
CarriesAtMost Transport len = len ≤ 512

short_enough : (len : ℕ) → nat_lt 46 len ≡ false → len ≤ 46
short_enough len e = grind (arith, nat_tests)

checked_short : (crc : Bool) (len : ℕ) → len ≤ 46 → CarriesAtMost (if crc && nat_le (len + 4) 46 then Crc16 else no_outer) len
checked_short false len short = short
checked_short true len short = by (nat_le (len + 4) 46) refl
  where
    by : (b : Bool) → nat_le (len + 4) 46 ≡ b → CarriesAtMost (if b then Crc16 else no_outer) len
    by true e = grind (arith, nat_tests)
    by false e = short

outer_carries : (sealed crc : Bool) (len : ℕ) → (sealed ≡ true → len ≤ 26) → len ≤ 512
    → CarriesAtMost (if sealed then Security else if nat_lt 46 len then Transport else if crc && nat_le (len + 4) 46 then Crc16 else no_outer) len
outer_carries true crc len short long = short refl
outer_carries false crc len short long = by (nat_lt 46 len) refl
  where
    by : (b : Bool) → nat_lt 46 len ≡ b → CarriesAtMost (if b then Transport else if crc && nat_le (len + 4) 46 then Crc16 else no_outer) len
    by true e = long
    by false e = checked_short crc len (short_enough len e)

length-checked : (inner : List ℕ) → length (crc16_text inner) ≡ length inner + 4
length-checked inner = simp length-append (omega arith)

fits_form : (outer : Outer) (text : List ℕ) → 1 ≤ length text → CarriesAtMost outer (length text) → FitsForm (form_of outer) (checked_form outer text)
fits_form no_outer text some most = (some, most)
fits_form Crc16 text some most = (omega (arith, length-checked text), omega (arith, most, length-checked text))
fits_form Security text some most = most
fits_form Transport text some most = (some, most)

sealed_short : (sealed other : Bool) (len : ℕ) → (if sealed then nat_lt 26 len else other) ≡ false → sealed ≡ true → len ≤ 26
sealed_short true other len e is = grind (arith, nat_tests)
sealed_short false other len e is = cc

short_text : (len : ℕ) → nat_lt 255 len ≡ false → len ≤ 255
short_text len e = grind (arith, nat_tests)

-- each message of what passes
message_fits : (classes : List ℕ) (waiting : ℕ) (order : Order) (session : ℕ) → Passes classes waiting order
    → FitsForm (form_of (carriage_of classes order).outer) (message_of (carriage_of classes order) order session)
message_fits classes waiting order session p =
    let actuator = actuator_of classes in
    let text = supervised_text actuator order in
    let ends = ends_of order.end in
    let message = addressed_form ends (supervised_form (Some (supervised_of actuator order session)) text) in
    let outer = (carriage_of classes order).outer in
    let here : length message ≡ channel_len ends + 4 + length text = length-wrapped ends (supervised_of actuator order session) text in
    let there : wrapped_len actuator order ≡ channel_len ends + 4 + length text = length-wrapped ends (supervised_of actuator order 0) text in
    let short : length text ≤ 255 = short_text (length text) p.short in
    let channel : channel_len ends ≤ 4 = channel_is_short ends in
    let len = wrapped_len actuator order in
    let carries : CarriesAtMost outer len
    = outer_carries (lists classes 0x98) (lists classes 0x56) len
    (sealed_short (lists classes 0x98) (not (lists classes 0x55) && nat_lt 46 len) len p.fits) (omega (arith, there, short, channel)) in
    fits_form outer message (omega (arith, here)) (subst (λ k. CarriesAtMost outer k) (there ∙ sym here) carries)

-- ---- the whole

pub accepted_is_fit : (known : Known) (order : Order) → first_refusal known order ≡ None → IsFit (carriage_of (classes_of known) order).actuator order
accepted_is_fit known order e = let p = passes_of known order e in record { good = p.good; short = p.short }

pub accepted_fits : (known : Known) (order : Order) (session : ℕ) → first_refusal known order ≡ None
    → FitsForm (form_of (carriage_of (classes_of known) order).outer) (message_of (carriage_of (classes_of known) order) order session)
accepted_fits known order session e = message_fits (classes_of known) known.waiting order session (passes_of known order e)

few_wait : (waiting : ℕ) → nat_le 16 waiting ≡ false → waiting < 16
few_wait waiting e = grind (arith, nat_tests)

pub accepted_has_place : (known : Known) (order : Order) → first_refusal known order ≡ None → known.waiting < 16
accepted_has_place known order e = few_wait known.waiting (passes_of known order e).few
