-- The sessions of changes rise, event by event.
use Rattle.std.proofs.Common.{◌≡◌, ◌≢◌, ℕ, zero, suc, ◌+◌, ◌-◌, ◌≤◌, ◌<◌, inl, inr, List, [], ◌∷◌, ◌++◌, Bool, true, false, refl, sym, ◌∙◌, ap, subst, arith}
use Rattle.std.specs.Prelude.{◌==◌, if◌then◌else◌}
use Rattle.std.proofs.lemmas.Bool.Decides.{nat_tests}
use Rattle.class_info.specs.declared.message.InfoMessage.TheVariants.{WakeUpNotification}
use Rattle.class_info.specs.InfoSpelling.{form}
use Rattle.zw_base.specs.declared.property.By.{By}
use Rattle.zw_base.specs.declared.property.By.TheVariants.{Session, Plain, Local}
use Rattle.zw_base.specs.declared.property.Setting.{Setting}
use Rattle.supervision.specs.declared.session.TheConstants.{WORKING}
use Rattle.device_stack.specs.Kinds.{Change, Kind, Verdict, NoSupport, Fails, Makes, Works, listens, main_name_of, setting_of, status_of}
use Rattle.device_stack.specs.State.{State, silent, fresh}
use Rattle.device_stack.specs.Ticking.{aged, works_out, ticked, woken, by_hand, set_by_hand}
use Rattle.device_sim.specs.Event.{DeviceEvent, Hears, Ticks, Wakes, Sets, outcome_of, device_after}
use Rattle.device_sim.specs.Laws.{IsChanged, IsUntaken, IsMade, IsHeard, IsTicked, with_number, numbers, Rises, done, IsInOrder}
use Rattle.device_sim.proofs.LawLemmas.{heard_as}

-- ---- a tick, a wake-up, by hand

is_one : (n : ℕ) → n == 1 ≡ true → n ≡ 1
is_one n e = grind (arith, nat_tests)

ticked_by : (device : State) (none last : Bool) → device.work_left == 0 ≡ none → device.work_left == 1 ≡ last
    → IsTicked device (if none then silent (aged device) else if last then works_out (aged device) else silent (record (aged device) { work_left = device.work_left - 1 })).device
ticked_by device true last n l = inl (refl, refl)
ticked_by device false true n l = inr (is_one device.work_left l, (refl, (refl, refl)))
ticked_by device false false n l = inl (refl, refl)

pub ticked_as : (device : State) (drawn : List ℕ) → IsTicked device (device_after device (Ticks drawn))
unfolding device_after outcome_of ticked
ticked_as device drawn = ticked_by device (device.work_left == 0) (device.work_left == 1) refl refl

pub woken_by : (device : State) → IsUntaken device (device_after device Wakes)
unfolding device_after outcome_of woken
woken_by device = by (listens device.kind)
  where
    by : (b : Bool) → IsUntaken device (if b then silent device else record { device = record device { awake = true; active_at = device.clock }; replies = form WakeUpNotification ∷ [] }).device
    by true = (refl, (refl, refl))
    by false = (refl, (refl, refl))

pub woken_as : (device : State) → (device_after device Wakes).journal ≡ device.journal
woken_as device = (woken_by device).0

pub by_hand_as : (device : State) (value : ℕ) → (settings : List Setting) × IsChanged device.journal Local settings (device_after device (Sets value)).journal
unfolding device_after outcome_of set_by_hand
by_hand_as device value = (setting_of 0 (main_name_of device.kind) (by_hand (main_name_of device.kind) value) ∷ [], refl)

-- ---- numbers that rise

rises_to : (low : ℕ) (ns : List ℕ) (high high' : ℕ) → Rises low ns high → high ≤ high' → Rises low ns high'
rises_to low [] high high' is more = omega arith
rises_to low (n ∷ ns) high high' is more = (is.0, rises_to n ns high high' is.1 more)

rises_on : (low : ℕ) (ns : List ℕ) (high number : ℕ) → Rises low ns high → high < number → Rises low (ns ++ number ∷ []) number
rises_on low [] high number is more = (omega arith, omega arith)
rises_on low (n ∷ ns) high number is more = (is.0, rises_on n ns high number is.1 more)

pub with_number_append : (by : By) (ms ns : List ℕ) → with_number by ms ++ ns ≡ with_number by (ms ++ ns)
with_number_append (Session number) ms ns = refl
with_number_append Plain ms ns = refl
with_number_append Local ms ns = refl

pub numbers_append : (changes more : List Change) → numbers (changes ++ more) ≡ numbers changes ++ numbers more
numbers_append [] more = refl
numbers_append (change ∷ changes) more =
    ap (with_number change.by) (numbers_append changes more) ∙ sym (with_number_append change.by (numbers changes) (numbers more))

nothing_more : (ns : List ℕ) → ns ++ [] ≡ ns
nothing_more [] = refl
nothing_more (n ∷ ns) = ap (λ (more : List ℕ). n ∷ more) (nothing_more ns)

-- one change more, by a session above all that are done, or by none
by_session : (journal journal' : List Change) (number : ℕ) (settings : List Setting) (high : ℕ) → IsChanged journal (Session number) settings journal'
    → Rises 0 (numbers journal) high → high < number → Rises 0 (numbers journal') number
by_session journal journal' number settings high e is more =
    subst (λ (ns : List ℕ). Rises 0 ns number) (sym (ap numbers e ∙ numbers_append journal (record { by = Session number; settings = settings } ∷ [])))
    (rises_on 0 (numbers journal) high number is more)

by_none : (journal journal' : List Change) (by : By) (settings : List Setting) (high : ℕ) → with_number by [] ≡ [] → IsChanged journal by settings journal'
    → Rises 0 (numbers journal) high → Rises 0 (numbers journal') high
by_none journal journal' by settings high none e is =
    subst (λ (ns : List ℕ). Rises 0 ns high)
    (sym (ap numbers e ∙ numbers_append journal (record { by = by; settings = settings } ∷ []) ∙ ap (λ (ns : List ℕ). numbers journal ++ ns) none ∙ nothing_more (numbers journal)))
    is

-- ---- how many are done

abbrev pub done_by : ℕ → ℕ → ℕ
done_by left taken = if left == 0 then taken else taken - 1

at_work : (left taken : ℕ) → 0 < left → done_by left taken ≡ taken - 1
at_work left taken some = let not_none : left == 0 ≡ false = grind (arith, nat_tests) in rw not_none refl

at_rest : (left taken : ℕ) → left ≡ 0 → done_by left taken ≡ taken
at_rest left taken none = rw none refl

-- ---- what keeps the order

-- parts of a device in order
pub record AreInOrder (journal : List Change) (taken status left : ℕ) : Type 0 where
  pub rising : Rises 0 (numbers journal) (done_by left taken)
  pub working : 0 < left → (status ≡ WORKING) × (0 < taken)

parts : (device : State) → IsInOrder device → AreInOrder device.journal device.sessions.taken device.sessions.status device.work_left
parts device is = record { rising = is.rising; working = is.working }

whole : (device : State) → AreInOrder device.journal device.sessions.taken device.sessions.status device.work_left → IsInOrder device
whole device is = record { rising = is.rising; working = is.working }

left_none : (journal : List Change) (taken status left : ℕ) → AreInOrder journal taken status left → status ≢ WORKING → left ≡ 0
left_none journal taken status zero is free = refl
left_none journal taken status (suc left) is free = absurd (free (is.working (omega arith)).0)

at_once : (journal journal' : List Change) (taken status status' left left' : ℕ) → AreInOrder journal taken status left → status ≢ WORKING
    → (journal' ≡ journal) × (left' ≡ left) → AreInOrder journal' (taken + 1) status' left'
at_once journal journal' taken status status' left left' is free (j, l) =
    let none : left ≡ 0 = left_none journal taken status left is free in
    let none' : left' ≡ 0 = l ∙ none in
    let before : Rises 0 (numbers journal) taken = subst (λ (n : ℕ). Rises 0 (numbers journal) n) (at_rest left taken none) is.rising in
    record {
      rising = subst (λ (n : ℕ). Rises 0 (numbers journal') n) (sym (at_rest left' (taken + 1) none'))
          (subst (λ (x : List Change). Rises 0 (numbers x) (taken + 1)) (sym j) (rises_to 0 (numbers journal) taken (taken + 1) before (omega arith)));
      working = λ some. absurd (omega arith);
    }

made_in_order : (journal journal' : List Change) (taken status left left' : ℕ) (verdict : Verdict) → AreInOrder journal taken status left → status ≢ WORKING
    → IsMade (taken + 1) journal journal' left left' verdict → AreInOrder journal' (taken + 1) (status_of verdict) left'
made_in_order journal journal' taken status left left' (Makes settings) is free (j, l) =
    let none : left ≡ 0 = left_none journal taken status left is free in
    let none' : left' ≡ 0 = l ∙ none in
    let before : Rises 0 (numbers journal) taken = subst (λ (n : ℕ). Rises 0 (numbers journal) n) (at_rest left taken none) is.rising in
    record {
      rising = subst (λ (n : ℕ). Rises 0 (numbers journal') n) (sym (at_rest left' (taken + 1) none'))
          (by_session journal journal' (taken + 1) settings taken j before (omega arith));
      working = λ some. absurd (omega arith);
    }
made_in_order journal journal' taken status left left' (Works settings) is free (j, l) =
    let none : left ≡ 0 = left_none journal taken status left is free in
    let before : Rises 0 (numbers journal) taken = subst (λ (n : ℕ). Rises 0 (numbers journal) n) (at_rest left taken none) is.rising in
    let some : 0 < left' = omega arith in
    let last : done_by left' (taken + 1) ≡ taken = at_work left' (taken + 1) some ∙ omega arith in
    record {
      rising = subst (λ (n : ℕ). Rises 0 (numbers journal') n) (sym last) (subst (λ (x : List Change). Rises 0 (numbers x) taken) (sym j) before);
      working = λ some. (refl, omega arith);
    }
made_in_order journal journal' taken status left left' Fails is free made = at_once journal journal' taken status (status_of Fails) left left' is free made
made_in_order journal journal' taken status left left' NoSupport is free made = at_once journal journal' taken status (status_of NoSupport) left left' is free made

untaken_in_order : (old new : State) → IsUntaken old new → IsInOrder old → IsInOrder new
untaken_in_order old new (j, (s, l)) is = record {
  rising = rw (j, s, l) is.rising;
  working = rw (s, l) is.working;
}

heard_in_order : (old new : State) → IsHeard old new → IsInOrder old → IsInOrder new
heard_in_order old new (inl untaken) is = untaken_in_order old new untaken is
heard_in_order old new (inr (inl (verdict, (free, (s, (empty, made)))))) is =
    let now = made_in_order old.journal new.journal old.sessions.taken old.sessions.status old.work_left new.work_left verdict (parts old is) free made in
    whole new (rw s now)
heard_in_order old new (inr (inr (settings, (plain, (j, (s, l)))))) is = record {
  rising = rw (s, l) (by_none old.journal new.journal Plain settings (done old) refl j is.rising);
  working = rw (s, l) is.working;
}

ticks_in_order : (device : State) (none last : Bool) → device.work_left == 0 ≡ none → device.work_left == 1 ≡ last → IsInOrder device
    → IsInOrder (if none then silent (aged device) else if last then works_out (aged device) else silent (record (aged device) { work_left = device.work_left - 1 })).device
ticks_in_order device true last n l is = untaken_in_order device (aged device) (refl, (refl, refl)) is
ticks_in_order device false true n l is =
    let one : device.work_left ≡ 1 = is_one device.work_left l in
    let some : 0 < device.work_left = omega arith in
    let first : 0 < device.sessions.taken = (is.working some).1 in
    let before : Rises 0 (numbers device.journal) (device.sessions.taken - 1) =
    subst (λ (h : ℕ). Rises 0 (numbers device.journal) h) (at_work device.work_left device.sessions.taken some) (parts device is).rising in
    record {
      rising = by_session device.journal (works_out (aged device)).device.journal device.sessions.taken device.work.settings (device.sessions.taken - 1) refl before (omega arith);
      working = λ none. absurd (omega arith);
    }
ticks_in_order device false false n l is =
    let many : 1 < device.work_left = grind (arith, nat_tests) in
    let some : 0 < device.work_left = omega arith in
    let less : 0 < device.work_left - 1 = omega arith in
    let same : done_by device.work_left device.sessions.taken ≡ done_by (device.work_left - 1) device.sessions.taken =
    at_work device.work_left device.sessions.taken some ∙ sym (at_work (device.work_left - 1) device.sessions.taken less) in
    whole (record (aged device) { work_left = device.work_left - 1 }) (record {
      rising = subst (λ (h : ℕ). Rises 0 (numbers device.journal) h) same (parts device is).rising;
      working = λ more. is.working some;
    })

pub fresh_in_order : (node : ℕ) (kind : Kind) (key : List ℕ) → IsInOrder (fresh node kind key)
fresh_in_order node kind key =
    let least : 0 ≤ 0 = omega arith in
    record { rising = least; working = λ some. absurd (omega arith) }

pub kept_in_order : (device : State) (event : DeviceEvent) → IsInOrder device → IsInOrder (device_after device event)
unfolding device_after outcome_of ticked set_by_hand
kept_in_order device (Hears payload drawn) is = heard_in_order device (device_after device (Hears payload drawn)) (heard_as device payload drawn) is
kept_in_order device (Ticks drawn) is = ticks_in_order device (device.work_left == 0) (device.work_left == 1) refl refl is
kept_in_order device Wakes is = untaken_in_order device (device_after device Wakes) (woken_by device) is
kept_in_order device (Sets value) is = record {
  rising = by_none device.journal (device_after device (Sets value)).journal Local
      (setting_of 0 (main_name_of device.kind) (by_hand (main_name_of device.kind) value) ∷ []) (done device) refl refl is.rising;
  working = is.working;
}
