-- Event by event.
use Rattle.std.proofs.Common.{◌≡◌, ◌≢◌, ℕ, zero, suc, ◌+◌, ◌-◌, ◌<◌, ◌==◌, inl, inr, if◌then◌else◌, Bool, true, false, List, [], ◌∷◌, ◌++◌, length, refl, ap, sym, ◌∙◌, subst, append-nil, arith}
use Rattle.std.proofs.lemmas.List.{length-append}
use Rattle.std.proofs.lemmas.Bool.Decides.{nat_tests}
use Rattle.zw_base.specs.declared.property.By.{By}
use Rattle.zw_base.specs.declared.property.By.TheVariants.{Session, Plain, Local}
use Rattle.zw_base.specs.declared.property.Setting.{Setting}
use Rattle.supervision.specs.Device.{Taken}
use Rattle.supervision.specs.declared.session.TheConstants.{WORKING, SUCCESS}
use Rattle.proof_course.specs.Parts.{numbered, successes}
use Rattle.device_kinds.specs.declared.change.Change.{Change}
use Rattle.device_kinds.specs.declared.kind.Kind.{Kind}
use Rattle.device_kinds.specs.declared.verdict.Verdict.{Verdict}
use Rattle.device_kinds.specs.declared.verdict.Verdict.TheVariants.{NoSupport, Fails, Makes, Works}
use Rattle.device_kinds.specs.Kind.{main_name_of}
use Rattle.device_sim.specs.device_stack.State.{State, silent, fresh}
use Rattle.device_kinds.specs.Judging.{setting_of, status_of}
use Rattle.device_sim.specs.device_stack.Ticking.{aged, works_out, ticked, by_hand, set_by_hand}
use Rattle.device_sim.specs.Event.{DeviceEvent, Hears, Ticks, Wakes, Sets, outcome_of, device_after}
use Rattle.device_sim.specs.Laws.{IsChanged, IsUntaken, IsMade, IsHeard, with_number, numbers}
use Rattle.device_sim.proofs.OrderLemmas.{numbers_append, woken_by as wakes_by}
use Rattle.proof_messages.specs.Ending.{one_at_work, HasEnded}

-- ---- parts of what is said

pub record Ended (journal : List Change) (sessions : Taken) (left : ℕ) (finals : List ℕ) : Type 0 where
  pub count : length finals + one_at_work left ≡ sessions.taken
  pub at_work : 0 < left → sessions.status ≡ WORKING
  pub at_rest : left ≡ 0 → sessions.status ≢ WORKING
  pub told : left ≡ 0 → 0 < sessions.taken → numbered finals sessions.taken ≡ sessions.status ∷ []
  pub changed : numbers journal ≡ successes 1 finals

parts : (device : State) (finals : List ℕ) → HasEnded device finals → Ended device.journal device.sessions device.work_left finals
parts device finals is = record { count = is.count; at_work = is.at_work; at_rest = is.at_rest; told = is.told; changed = is.changed }

whole : (device : State) (finals : List ℕ) → Ended device.journal device.sessions device.work_left finals → HasEnded device finals
whole device finals is = record { count = is.count; at_work = is.at_work; at_rest = is.at_rest; told = is.told; changed = is.changed }

-- ---- statuses that are added

choose_then : (b : Bool) (n : ℕ) (xs ys zs : List ℕ) → zs ≡ xs ++ ys → (if b then n ∷ zs else zs) ≡ (if b then n ∷ xs else xs) ++ ys
choose_then true n xs ys zs e = ap (λ (l : List ℕ). n ∷ l) e
choose_then false n xs ys zs e = e

successes_then : (n : ℕ) (finals more : List ℕ) → successes n (finals ++ more) ≡ successes n finals ++ successes (n + length finals) more
successes_then n [] more = ap (λ (k : ℕ). successes k more) (let e : n ≡ n + 0 = omega arith in e)
successes_then n (status ∷ finals) more =
    choose_then (status == SUCCESS) n (successes (n + 1) finals) (successes (n + suc (length finals)) more) (successes (n + 1) (finals ++ more))
    (successes_then (n + 1) finals more
    ∙ ap (λ (k : ℕ). successes (n + 1) finals ++ successes k more) (let e : n + 1 + length finals ≡ n + suc (length finals) = omega arith in e))

pub numbered_last : (finals : List ℕ) (status : ℕ) → numbered (finals ++ status ∷ []) (suc (length finals)) ≡ status ∷ []
numbered_last [] status = refl
numbered_last (x ∷ finals) status = numbered_last finals status

pub one_none : (left : ℕ) → left ≡ 0 → one_at_work left ≡ 0
one_none left none = rw none refl

pub one_some : (left : ℕ) → 0 < left → one_at_work left ≡ 1
one_some left some = let test : left == 0 ≡ false = grind (arith, nat_tests) in rw test refl

-- a session ends: with a change where it ends with success
ends : (journal journal' : List Change) (sessions sessions' : Taken) (left left' : ℕ) (finals : List ℕ) → length finals + 1 ≡ sessions'.taken → left' ≡ 0 → sessions'.status ≢ WORKING
    → numbers journal' ≡ numbers journal ++ successes sessions'.taken (sessions'.status ∷ []) → numbers journal ≡ successes 1 finals → Ended journal' sessions' left' (finals ++ sessions'.status ∷ [])
ends journal journal' sessions sessions' left left' finals long none rest more changed =
    let longer = length-append finals (sessions'.status ∷ []) in
    let idle : one_at_work left' ≡ 0 = one_none left' none in
    let place : suc (length finals) ≡ sessions'.taken = omega (arith, long) in
    record {
      count = omega (arith, long, longer, idle);
      at_work = λ some. absurd (omega (arith, some, none));
      at_rest = λ e. rest;
      told = λ e some. subst (λ (k : ℕ). numbered (finals ++ sessions'.status ∷ []) k ≡ sessions'.status ∷ []) place (numbered_last finals sessions'.status);
      changed = more
          ∙ (ap (λ (l : List ℕ). l ++ successes sessions'.taken (sessions'.status ∷ [])) changed
          ∙ (ap (λ (k : ℕ). successes 1 finals ++ successes k (sessions'.status ∷ [])) (let e : sessions'.taken ≡ 1 + length finals = omega (arith, long) in e)
          ∙ sym (successes_then 1 finals (sessions'.status ∷ []))));
    }

-- nothing is added
stays : (journal : List Change) (sessions : Taken) (left : ℕ) (finals : List ℕ) → Ended journal sessions left finals → Ended journal sessions left (finals ++ [])
stays journal sessions left finals is = subst (λ (l : List ℕ). Ended journal sessions left l) (sym (append-nil finals)) is

untaken : (old new : State) (finals : List ℕ) → IsUntaken old new → HasEnded old finals → (more : List ℕ) × HasEnded new (finals ++ more)
untaken old new finals (j, (s, l)) is =
    let now : Ended new.journal new.sessions new.work_left finals = rw (j, s, l) (parts old finals is) in
    ([], whole new (finals ++ []) (stays new.journal new.sessions new.work_left finals now))

-- a change by none
by_none : (journal journal' : List Change) (sessions : Taken) (left : ℕ) (finals : List ℕ) (by : By) (settings : List Setting) → with_number by [] ≡ [] → IsChanged journal by settings journal'
    → Ended journal sessions left finals → Ended journal' sessions left finals
by_none journal journal' sessions left finals by settings none e is = record {
  count = is.count;
  at_work = is.at_work;
  at_rest = is.at_rest;
  told = is.told;
  changed = ap numbers e
      ∙ (numbers_append journal (record { by = by; settings = settings } ∷ [])
      ∙ (ap (λ (l : List ℕ). numbers journal ++ l) none ∙ (append-nil (numbers journal) ∙ is.changed)));
}

-- ---- a payload

idle_now : (journal : List Change) (sessions : Taken) (left : ℕ) (finals : List ℕ) → Ended journal sessions left finals → sessions.status ≢ WORKING → left ≡ 0
idle_now journal sessions zero finals is free = refl
idle_now journal sessions (suc left) finals is free = absurd (free (is.at_work (omega arith)))

by_session : (journal journal' : List Change) (number : ℕ) (settings : List Setting) → IsChanged journal (Session number) settings journal'
    → numbers journal' ≡ numbers journal ++ number ∷ []
by_session journal journal' number settings e = ap numbers e ∙ numbers_append journal (record { by = Session number; settings = settings } ∷ [])

same_numbers : (journal journal' : List Change) → journal' ≡ journal → numbers journal' ≡ numbers journal ++ []
same_numbers journal journal' e = ap numbers e ∙ sym (append-nil (numbers journal))

taken_at : (verdict : Verdict) (journal journal' : List Change) (sessions : Taken) (left left' : ℕ) (finals : List ℕ) → Ended journal sessions left finals → sessions.status ≢ WORKING
    → IsMade (sessions.taken + 1) journal journal' left left' verdict
    → (more : List ℕ) × Ended journal' (record { taken = sessions.taken + 1; status = status_of verdict }) left' (finals ++ more)
taken_at (Makes settings) journal journal' sessions left left' finals is free made =
    let none = idle_now journal sessions left finals is free in
    let count = is.count in
    let idle = one_none left none in (
      SUCCESS ∷ [],
      ends journal journal' sessions (record { taken = sessions.taken + 1; status = SUCCESS }) left left' finals (omega (arith, count, idle)) (made.1 ∙ none) (λ e. absurd cc)
          (by_session journal journal' (sessions.taken + 1) settings made.0) is.changed,
    )
taken_at (Works settings) journal journal' sessions left left' finals is free made =
    let none = idle_now journal sessions left finals is free in
    let count = is.count in
    let idle = one_none left none in
    let ticks = made.1 in
    let some : 0 < left' = omega (arith, ticks) in
    let busy = one_some left' some in (
      [],
      stays journal' (record { taken = sessions.taken + 1; status = WORKING }) left' finals (record {
        count = omega (arith, count, idle, busy);
        at_work = λ e. refl;
        at_rest = λ e. absurd (omega (arith, e, some));
        told = λ e more. absurd (omega (arith, e, some));
        changed = ap numbers made.0 ∙ is.changed;
      }),
    )
taken_at Fails journal journal' sessions left left' finals is free made =
    let none = idle_now journal sessions left finals is free in
    let count = is.count in
    let idle = one_none left none in (
      status_of Fails ∷ [],
      ends journal journal' sessions (record { taken = sessions.taken + 1; status = status_of Fails }) left left' finals (omega (arith, count, idle)) (made.1 ∙ none) (λ e. absurd cc)
          (same_numbers journal journal' made.0) is.changed,
    )
taken_at NoSupport journal journal' sessions left left' finals is free made =
    let none = idle_now journal sessions left finals is free in
    let count = is.count in
    let idle = one_none left none in (
      status_of NoSupport ∷ [],
      ends journal journal' sessions (record { taken = sessions.taken + 1; status = status_of NoSupport }) left left' finals (omega (arith, count, idle)) (made.1 ∙ none) (λ e. absurd cc)
          (same_numbers journal journal' made.0) is.changed,
    )

heard : (old new : State) (finals : List ℕ) → IsHeard old new → HasEnded old finals → (more : List ℕ) × HasEnded new (finals ++ more)
heard old new finals (inl same) is = untaken old new finals same is
heard old new finals (inr (inl (verdict, (free, (s, (empty, made)))))) is =
    let (more, now) = taken_at verdict old.journal new.journal old.sessions old.work_left new.work_left finals (parts old finals is) free made in
    (more, whole new (finals ++ more) (subst (λ (t : Taken). Ended new.journal t new.work_left (finals ++ more)) (sym s) now))
heard old new finals (inr (inr (settings, (plain, (j, (s, l)))))) is =
    let changed : Ended new.journal old.sessions old.work_left finals = by_none old.journal new.journal old.sessions old.work_left finals Plain settings refl j (parts old finals is) in
    let now : Ended new.journal new.sessions new.work_left finals = rw (s, l) changed in
    ([], whole new (finals ++ []) (stays new.journal new.sessions new.work_left finals now))

-- ---- a tick

ticks_by : (device : State) (finals : List ℕ) (none last : Bool) → device.work_left == 0 ≡ none → device.work_left == 1 ≡ last → HasEnded device finals
    → (more : List ℕ) × HasEnded (if none then silent (aged device) else if last then works_out (aged device) else silent (record (aged device) { work_left = device.work_left - 1 })).device (finals ++ more)
ticks_by device finals true last n l is = untaken device (aged device) finals (refl, (refl, refl)) is
ticks_by device finals false true n l is =
    let one : device.work_left ≡ 1 = grind (arith, nat_tests) in
    let some : 0 < device.work_left = omega (arith, one) in
    let busy = one_some device.work_left some in
    let count = is.count in (
      SUCCESS ∷ [],
      whole (works_out (aged device)).device (finals ++ SUCCESS ∷ [])
          (ends device.journal (works_out (aged device)).device.journal device.sessions (record { taken = device.sessions.taken; status = SUCCESS }) device.work_left 0 finals
          (omega (arith, count, busy)) refl (λ e. absurd cc)
          (by_session device.journal (works_out (aged device)).device.journal device.sessions.taken device.work.settings refl) is.changed),
    )
ticks_by device finals false false n l is =
    let many : 1 < device.work_left = grind (arith, nat_tests) in
    let some : 0 < device.work_left = omega (arith, many) in
    let less : 0 < device.work_left - 1 = omega (arith, many) in
    let busy = one_some device.work_left some in
    let still = one_some (device.work_left - 1) less in
    let count = is.count in (
      [],
      whole (record (aged device) { work_left = device.work_left - 1 }) (finals ++ []) (stays device.journal device.sessions (device.work_left - 1) finals (record {
        count = omega (arith, count, busy, still);
        at_work = λ e. is.at_work some;
        at_rest = λ e. absurd (omega (arith, e, less));
        told = λ e first. absurd (omega (arith, e, less));
        changed = is.changed;
      })),
    )

-- ---- a wake-up

-- ---- an event

pub fresh_ended : (node : ℕ) (kind : Kind) (key : List ℕ) → HasEnded (fresh node kind key) []
fresh_ended node kind key = record {
  count = refl;
  at_work = λ some. absurd (omega (arith, some));
  at_rest = λ e f. absurd cc;
  told = λ e some. absurd (omega (arith, some));
  changed = refl;
}

pub event_ends : ((device : State) (payload drawn : List ℕ) → IsHeard device (device_after device (Hears payload drawn)))
    → (device : State) (event : DeviceEvent) (finals : List ℕ) → HasEnded device finals → (more : List ℕ) × HasEnded (device_after device event) (finals ++ more)
unfolding device_after outcome_of ticked set_by_hand
event_ends hears device (Hears payload drawn) finals is = heard device (device_after device (Hears payload drawn)) finals (hears device payload drawn) is
event_ends hears device (Ticks drawn) finals is = ticks_by device finals (device.work_left == 0) (device.work_left == 1) refl refl is
event_ends hears device Wakes finals is = untaken device (device_after device Wakes) finals (wakes_by device) is
event_ends hears device (Sets value) finals is =
    let now = by_none device.journal (device_after device (Sets value)).journal device.sessions device.work_left finals Local
    (setting_of 0 (main_name_of device.kind) (by_hand (main_name_of device.kind) value) ∷ []) refl refl (parts device finals is) in
    ([], whole (device_after device (Sets value)) (finals ++ []) (stays (device_after device (Sets value)).journal device.sessions device.work_left finals now))
