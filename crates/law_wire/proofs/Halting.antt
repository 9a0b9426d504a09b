-- What came to a device in the last line of a run that an allocation failure ended, where little can have come.
use Rattle.std.proofs.Common.{◌≡◌, ◌⊎◌, ℕ, suc, ◌+◌, Bool, true, false, List, [], ◌∷◌, ◌++◌, Option, Some, None, length, refl, sym, ap, subst, inl, inr, arith}
use Rattle.std.specs.Prelude.{◌≤◌, ◌==◌, if◌then◌else◌}
use Rattle.std.specs.List.{AllByRecursion}
use Rattle.std.proofs.lemmas.List.{length-append}
use Rattle.law_transcript.specs.device_kinds.declared.change.Change.{Change}
use Rattle.law_transcript.specs.device_kinds.declared.verdict.Verdict.{Verdict}
use Rattle.law_transcript.specs.device_kinds.declared.verdict.Verdict.TheVariants.{NoSupport, Fails, Makes, Works}
use Rattle.law_transcript.specs.device_sim.State.{State}
use Rattle.law_transcript.specs.device_sim.Event.{DeviceEvent, device_after}
use Rattle.law_transcript.specs.device_sim.Event.DeviceEvent.{Hears, Ticks, Wakes, Sets}
use Rattle.law_transcript.specs.device_sim.Laws.{IsHeard, IsMade}
use Rattle.law_transcript.proofs.LawLemmas.{heard_as}
use Rattle.zw_text.specs.declared.line.Line.{Line}
use Rattle.zw_text.specs.declared.entry.Entry.{Entry}
use Rattle.zw_text.specs.declared.entry.Entry.TheVariants.{Said, Heard}
use Rattle.zw_text.specs.Transcript.{AirFrame, line_of, lines_run}
use Rattle.law_transcript.specs.Devices.{ComingAt, after_events, asked_by, brought, brought_at, brought_by, comings, lived_by, replies_joined, sent_from, ticks_lived}
use Rattle.law_transcript.specs.Devices.Coming.{Payload, Woken}
use Rattle.law_transcript.specs.Lists.{IsPrefixOf, shown_after}
use Rattle.law_transcript.specs.Repeats.{frame_of}
use Rattle.law_transcript.specs.Restarts.{ticks_asked}
use Rattle.law_transcript.proofs.Comings.{came_after, coming_tag, first_tag, nothing_after}
use Rattle.law_wire.specs.Halted.{RanAsFar}

-- ---- the events

-- what the law says of a device where it is known what came before the last line
pub record Late (node : ℕ) (transcript more : List Entry) (old new : State) (early late : List DeviceEvent) : Type 0 where
  pub runs : new ≡ after_events old (early ++ late)
  pub few : length (comings (early ++ late)) ≤ suc (length (brought node transcript))
  pub prefix : IsPrefixOf (comings (early ++ late)) (brought node (transcript ++ more))
  pub ticked : ticks_lived (early ++ late) ≤ ticks_asked (lines_run transcript)
  pub answered : IsPrefixOf (sent_from node transcript) (replies_joined node transcript old (early ++ late))

pub late_by : (node : ℕ) (transcript : List Entry) (old new : State) (law : RanAsFar node transcript old new) (early : List DeviceEvent)
    → law.earlier ≡ early → Late node transcript law.more old new early law.late
late_by node transcript old new law early same =
    subst (λ (earlier : List DeviceEvent). Late node transcript law.more old new earlier law.late) same (record {
      runs = law.runs;
      few = omega (arith, law.lacks.one_more, ap length law.following.came.1, length-append (comings (law.earlier ++ law.late)) law.following.came.0);
      prefix = law.following.came;
      ticked = law.following.ticked;
      answered = law.following.answered;
    })

-- one event at most, where no tick passes
pub one_at_most : (P : List DeviceEvent → Type 0) → P [] → ((payload drawn : List ℕ) → P (Hears payload drawn ∷ [])) → P (Wakes ∷ [])
    → ((value : ℕ) → P (Sets value ∷ [])) → (past events : List DeviceEvent) → ticks_lived events ≤ 0 → length (came_after past events) ≤ 1 → P events
one_at_most P none heard woken set past [] ticked few = none
one_at_most P none heard woken set past (Hears payload drawn ∷ events) ticked few =
    subst (λ (rest : List DeviceEvent). P (Hears payload drawn ∷ rest))
    (sym (nothing_after (past ++ Hears payload drawn ∷ []) events (omega (arith, ticked)) (omega (arith, few)))) (heard payload drawn)
one_at_most P none heard woken set past (Ticks drawn ∷ events) ticked few = absurd (omega (arith, ticked))
one_at_most P none heard woken set past (Wakes ∷ events) ticked few =
    subst (λ (rest : List DeviceEvent). P (Wakes ∷ rest))
    (sym (nothing_after (past ++ Wakes ∷ []) events (omega (arith, ticked)) (omega (arith, few)))) woken
one_at_most P none heard woken set past (Sets value ∷ events) ticked few =
    subst (λ (rest : List DeviceEvent). P (Sets value ∷ rest))
    (sym (nothing_after (past ++ Sets value ∷ []) events (omega (arith, ticked)) (omega (arith, few)))) (set value)

-- a line that sets the device, or wakes it, comes first, if anything came
pub set_first : (value : ℕ) (late : List DeviceEvent) (rest : List ComingAt) → first_tag (comings late ++ rest) ≡ 3 + value → ticks_lived late ≤ 0
    → (late ≡ []) ⊎ ((after : List DeviceEvent) × (late ≡ Sets value ∷ after))
set_first value [] rest tag ticked = inl refl
set_first value (Hears payload drawn ∷ after) rest tag ticked = absurd (omega (arith, tag))
set_first value (Ticks drawn ∷ after) rest tag ticked = absurd (omega (arith, ticked))
set_first value (Wakes ∷ after) rest tag ticked = absurd (omega (arith, tag))
set_first value (Sets other ∷ after) rest tag ticked =
    let same : other ≡ value = omega (arith, tag) in inr (after, ap (λ (number : ℕ). Sets number ∷ after) same)

pub woken_first : (late : List DeviceEvent) (rest : List ComingAt) → first_tag (comings late ++ rest) ≡ 2 → ticks_lived late ≤ 0
    → (late ≡ []) ⊎ ((after : List DeviceEvent) × (late ≡ Wakes ∷ after))
woken_first [] rest tag ticked = inl refl
woken_first (Hears payload drawn ∷ after) rest tag ticked = absurd (omega (arith, tag))
woken_first (Ticks drawn ∷ after) rest tag ticked = absurd (omega (arith, ticked))
woken_first (Wakes ∷ after) rest tag ticked = inr (after, refl)
woken_first (Sets value ∷ after) rest tag ticked = absurd (omega (arith, tag))

-- no tick passed and a line alone woke it
pub only_woken : (events : List DeviceEvent) → comings events ≡ record { ticks = 0; coming = Woken } ∷ [] → ticks_lived events ≡ 0 → events ≡ Wakes ∷ []
only_woken [] came ticked = absurd (omega (arith, ap length came))
only_woken (Hears payload drawn ∷ events) came ticked = absurd (omega (arith, ap first_tag came))
only_woken (Ticks drawn ∷ events) came ticked = absurd (omega (arith, ticked))
only_woken (Wakes ∷ events) came ticked =
    ap (λ (rest : List DeviceEvent). Wakes ∷ rest) (nothing_after (Wakes ∷ []) events (omega (arith, ticked)) (omega (arith, ap length came)))
only_woken (Sets value ∷ events) came ticked = absurd (omega (arith, ap first_tag came))

-- a payload makes at most one change
made_once : (session : ℕ) (journal journal' : List Change) (left left' : ℕ) (verdict : Verdict) → IsMade session journal journal' left left' verdict
    → length journal' ≤ suc (length journal)
made_once session journal journal' left left' (Makes settings) made = omega (arith, ap length made.0, length-append journal)
made_once session journal journal' left left' (Works settings) made = omega (arith, ap length made.0)
made_once session journal journal' left left' Fails made = omega (arith, ap length made.0)
made_once session journal journal' left left' NoSupport made = omega (arith, ap length made.0)

changed_once : (old new : State) → IsHeard old new → length new.journal ≤ suc (length old.journal)
changed_once old new (inl untaken) = omega (arith, ap length untaken.0)
changed_once old new (inr (inl taken)) = made_once _ old.journal new.journal _ _ taken.0 taken.1.1.1.1
changed_once old new (inr (inr obeyed)) = omega (arith, ap length obeyed.1.1.0, length-append old.journal)

pub hears_once : (device : State) (payload drawn : List ℕ) → length (device_after device (Hears payload drawn)).journal ≤ suc (length device.journal)
hears_once device payload drawn = changed_once device (device_after device (Hears payload drawn)) (heard_as device payload drawn)

-- ---- what is not entered

-- where no line stands, payloads alone come
abbrev Payloads : List ComingAt → Type 0
Payloads came = AllByRecursion (λ one. coming_tag one.coming ≤ 1) came

payloads_by : (node ticks : ℕ) (frame : Option AirFrame) → Payloads (brought_by node ticks frame)
payloads_by node ticks None = tt
payloads_by node ticks (Some frame) = by (frame.receiver == node)
  where
    by : (is : Bool) → Payloads (if is then record { ticks = ticks; coming = Payload frame.payload } ∷ [] else [])
    by true = (omega arith, tt)
    by false = tt

payloads_at : (node : ℕ) (past : List Entry) (entry : Entry) → line_of entry ≡ [] → Payloads (brought_at node past entry)
payloads_at node past (Heard frame) none = payloads_by node (lived_by past) (frame_of past frame)
payloads_at node past (Said words) none =
    subst (λ (lines : List Line). Payloads (asked_by node (ticks_asked (lines_run past)) lines)) (sym none) tt
payloads_at node past _ none = tt

payloads_both : (first second : List ComingAt) → Payloads first → Payloads second → Payloads (first ++ second)
payloads_both [] second one two = two
payloads_both (coming ∷ first) second one two = (one.0, payloads_both first second one.1 two)

prefix_none : {A : Type 0} (prefix rest : List A) → prefix ++ rest ≡ [] → prefix ≡ []
prefix_none [] rest none = refl
prefix_none (item ∷ prefix) rest none = absurd (omega (arith, ap length none))

rest_none : {A : Type 0} (prefix rest : List A) → prefix ++ rest ≡ [] → rest ≡ []
rest_none [] rest none = none
rest_none (item ∷ prefix) rest none = absurd (omega (arith, ap length none))

pub payloads_after : (node : ℕ) (past more : List Entry) → lines_run more ≡ [] → Payloads (shown_after (brought_at node) past more)
payloads_after node past [] none = tt
payloads_after node past (entry ∷ more) none =
    payloads_both (brought_at node past entry) (shown_after (brought_at node) (past ++ entry ∷ []) more)
    (payloads_at node past entry (prefix_none (line_of entry) (lines_run more) none))
    (payloads_after node (past ++ entry ∷ []) more (rest_none (line_of entry) (lines_run more) none))

prefix_tag : (prefix rest : List ComingAt) → Payloads (prefix ++ rest) → first_tag prefix ≤ 1
prefix_tag [] rest all = omega arith
prefix_tag (one ∷ prefix) rest all = all.0

pub payload_first : (node : ℕ) (past more : List Entry) → lines_run more ≡ [] → (prefix : List ComingAt)
    → IsPrefixOf prefix (shown_after (brought_at node) past more) → first_tag prefix ≤ 1
payload_first node past more none prefix is = prefix_tag prefix is.0 (subst (λ (came : List ComingAt). Payloads came) is.1 (payloads_after node past more none))
