-- What a tie says of outcomes and of changes goes on.
use Rattle.std.proofs.Common.{◌≡◌, ℕ, zero, suc, ◌+◌, ◌<◌, ◌≤◌, List, [], ◌∷◌, ◌++◌, length, Option, Some, None, ◌⊎◌, inl, inr, refl, sym, ap, subst, ◌∙◌, arith}
use Rattle.std.specs.Prelude.{IsSome, slice_get}
use Rattle.std.specs.List.{AllByRecursion}
use Rattle.std.proofs.lemmas.Bool.{false≢true}
use Rattle.zw_base.proofs.Each.{all-append}
use Rattle.zw_base.specs.declared.property.By.TheVariants.{Session}
use Rattle.zw_base.specs.declared.property.Setting.{Setting}
use Rattle.supervision.specs.Host.{command_at as session_at}
use Rattle.proof_course.specs.Parts.{successes}
use Rattle.device_kinds.specs.declared.change.Change.{Change}
use Rattle.proof_messages.specs.device_sim.State.{State}
use Rattle.proof_messages.specs.Ending.{HasEnded}
use Rattle.zw_text.specs.declared.entry.Entry.{Entry}
use Rattle.zw_text.specs.declared.entry.Outcome.{Outcome}
use Rattle.zw_text.specs.declared.entry.Outcome.TheVariants.{Waiting, Begun, Success, Fail, NoSupport, Unanswered, Cancelled}
use Rattle.zw_text.specs.Transcript.{by_session, outcome}
use Rattle.proof_host.specs.law_transcript.Lists.{Has}
use Rattle.proof_host.specs.law_transcript.Once.{carried_by}
use Rattle.host_keep.specs.Kept.{Taken}
use Rattle.host_keep.specs.Status.{status_byte}
use Rattle.host_keep.specs.declared.final_status.FinalStatus.{FinalStatus}
use Rattle.host_keep.specs.declared.final_status.FinalStatus.TheVariants as final
use Rattle.proof_host.specs.host_model.State.{Command, HostState}
use Rattle.proof_host.specs.host_model.After.{outcome_of}
use Rattle.proof_host.specs.Facts.{AreShown, Facts}
use Rattle.proof_host.specs.Laws.{HostLaws, IsOver}
use Rattle.proof_host.specs.Tables.{outcome_in, recorded, taken_at}
use Rattle.proof_once.specs.Tied.{AreOutcomes, IsTaken, IsToldAs, KeepsOrders, MakesWhatIsTaken, settings_taken}
use Rattle.proof_host.proofs.Having.{all_has, all_of, has_shown}
use Rattle.proof_device.proofs.Once.{numbers_are}
use Rattle.proof_once.proofs.CommandsOfSessions.{carried_has, has_carried, session_has, session_within, stands_prefix}
use Rattle.proof_once.proofs.Successes.{successes_within}

-- ---- places

pub session_prefix : (begun added : List ℕ) (session number : ℕ) → session_at begun session ≡ Some number → session_at (begun ++ added) session ≡ Some number
session_prefix begun added zero number at = absurd (grind arith)
session_prefix begun added (suc before) number at = stands_prefix begun added before number at

place_back : (begun added : List ℕ) (before number : ℕ) → before < length begun → slice_get (begun ++ added) before ≡ Some number → slice_get begun before ≡ Some number
place_back [] added before number within at = absurd (omega (arith, within))
place_back (first ∷ begun) added zero number within at = at
place_back (first ∷ begun) added (suc before) number within at = place_back begun added before number (omega (arith, within)) at

session_back : (begun added : List ℕ) (session number : ℕ) → session ≤ length begun → session_at (begun ++ added) session ≡ Some number → session_at begun session ≡ Some number
session_back begun added zero number within at = absurd (grind arith)
session_back begun added (suc before) number within at = place_back begun added before number (omega (arith, within)) at

-- the last of them
pub last_or : (told : List ℕ) (status before other : ℕ) → slice_get (told ++ status ∷ []) before ≡ Some other → (slice_get told before ≡ Some other) ⊎ ((before ≡ length told) × (other ≡ status))
last_or [] status zero other at = inr (refl, sym (some_same at))
  where
    some_same : Some status ≡ Some other → status ≡ other
    some_same e = cc
last_or [] status (suc before) other at = absurd (grind arith)
last_or (first ∷ told) status zero other at = inl at
last_or (first ∷ told) status (suc before) other at = elim (last_or told status before other at) [
  | inl early ↦ inl early
  | inr (place, same) ↦ inr (ap suc place, same)
]

-- ---- outcomes

pub final_over : (status : FinalStatus) → IsOver (outcome_of status)
final_over final.NoSupport = tt
final_over final.Fail = tt
final_over final.Success = tt

pub recorded_over : (o : Outcome) (status : FinalStatus) → recorded o ≡ outcome_of status → o ≡ outcome_of status
recorded_over Waiting final.NoSupport e = e
recorded_over Waiting final.Fail e = e
recorded_over Waiting final.Success e = e
recorded_over Unanswered final.NoSupport e = cc
recorded_over Unanswered final.Fail e = cc
recorded_over Unanswered final.Success e = cc
recorded_over Begun status e = e
recorded_over Success status e = e
recorded_over Fail status e = e
recorded_over NoSupport status e = e
recorded_over Cancelled status e = e

pub over_recorded : (status : FinalStatus) → recorded (outcome_of status) ≡ outcome_of status
over_recorded final.NoSupport = refl
over_recorded final.Fail = refl
over_recorded final.Success = refl

module _ (laws : (past : List Entry) (h : HostState) → Facts past h → HostLaws past) (tables : (past : List Entry) (h : HostState) → Facts past h → AreShown past h)
    (stays : (past more : List Entry) (number : ℕ) → HostLaws (past ++ more) → IsOver (outcome number past) → outcome number (past ++ more) ≡ outcome number past) where
  -- a final outcome stays in the table
  final_stays : (past more : List Entry) (old new : HostState) (number : ℕ) (status : FinalStatus) → Facts past old → Facts (past ++ more) new
      → outcome_in old.commands number ≡ outcome_of status → outcome_in new.commands number ≡ outcome_of status
  final_stays past more old new number status before now is =
      let shown : outcome number past ≡ outcome_of status
      = recorded_over (outcome number past) status (sym ((tables past old before).outcomes number) ∙ ap recorded is ∙ over_recorded status) in
      let still = stays past more number (laws (past ++ more) new now) (subst IsOver (sym shown) (final_over status)) in
      recorded_over (outcome_in new.commands number) status ((tables (past ++ more) new now).outcomes number ∙ ap recorded (still ∙ shown) ∙ over_recorded status)

  pub outcomes_stay : (past more : List Entry) (old new : HostState) (begun added told : List ℕ) → Facts past old → Facts (past ++ more) new → length told ≤ length begun
      → AreOutcomes old.commands begun told → AreOutcomes new.commands (begun ++ added) told
  outcomes_stay past more old new begun added told before now few are session number status at is =
      let within = (session_within told session status is).1 in
      let was = are session number status (session_back begun added session number (omega (arith, within, few)) at) is in
      record { final = was.final; status_is = was.status_is; outcome_is = final_stays past more old new number was.final before now was.outcome_is }

-- one more is told
told_or : (commands : List Command) (begun told : List ℕ) (number : ℕ) (final : FinalStatus) → AreOutcomes commands begun told → session_at begun (length told + 1) ≡ Some number
    → outcome_in commands number ≡ outcome_of final → (session other status : ℕ) → session_at begun session ≡ Some other → session_at (told ++ status_byte final ∷ []) session ≡ Some status
    → IsToldAs status (outcome_in commands other)
told_or commands begun told number final are next is zero other status at told_is = absurd (grind arith)
told_or commands begun told number final are next is (suc before) other status at told_is = elim (last_or told (status_byte final) before status told_is) [
  | inl early ↦ are (suc before) other status at early
  | inr (place, same) ↦
      let here : suc before ≡ length told + 1 = omega (arith, place) in
      let one : number ≡ other = some_same number other (sym next ∙ subst (λ (s : ℕ). session_at begun s ≡ Some other) here at) in
      record { final = final; status_is = same; outcome_is = subst (λ (k : ℕ). outcome_in commands k ≡ outcome_of final) one is }
]
  where
    some_same : (a b : ℕ) → Some a ≡ Some b → a ≡ b
    some_same a b e = cc

pub told_more : (commands : List Command) (begun told : List ℕ) (number : ℕ) (final : FinalStatus) → AreOutcomes commands begun told → session_at begun (length told + 1) ≡ Some number
    → outcome_in commands number ≡ outcome_of final → AreOutcomes commands begun (told ++ status_byte final ∷ [])
told_more commands begun told number final are next is = told_or commands begun told number final are next is

-- ---- changes

settings_stay : (old new : Option Taken) → IsSome old → ((taken : Taken) → old ≡ Some taken → new ≡ Some taken) → settings_taken new ≡ settings_taken old
settings_stay None new some keeps = absurd (false≢true some)
settings_stay (Some taken) new some keeps = ap settings_taken (keeps taken refl)

module _ (old new : List Command) (begun added : List ℕ) (keeps : KeepsOrders old new) (taken : AllByRecursion (IsTaken old) begun) where
  change_stays : (change : Change) → AllByRecursion (λ session. session ≤ length begun) (by_session change.by) → MakesWhatIsTaken old begun change → MakesWhatIsTaken new (begun ++ added) change
  change_stays change within makes =
      all_of (λ number. change.settings ≡ settings_taken (taken_at new number)) (carried_by (begun ++ added) (by_session change.by)) (λ number has.
      let one = has_carried (begun ++ added) (by_session change.by) number has in
      let at = session_back begun added one.session number (all_has (λ session. session ≤ length begun) (by_session change.by) one.session within one.among) one.at in
      all_has (λ k. change.settings ≡ settings_taken (taken_at old k)) (carried_by begun (by_session change.by)) number makes (carried_has begun (by_session change.by) one.session number one.among at)
      ∙ sym (settings_stay (taken_at old number) (taken_at new number) (all_has (IsTaken old) begun number taken (session_has begun one.session number at)) (keeps number)))

  pub made_stays : (device : State) (finals : List ℕ) → HasEnded device finals → length finals ≤ length begun → AllByRecursion (MakesWhatIsTaken old begun) device.journal
      → AllByRecursion (MakesWhatIsTaken new (begun ++ added)) device.journal
  made_stays device finals ended few makes =
      all_of (MakesWhatIsTaken new (begun ++ added)) device.journal (λ change has.
      change_stays change (all_of (λ session. session ≤ length begun) (by_session change.by) (λ session among.
      let by_it : Has (successes 1 finals) session
      = subst (λ (l : List ℕ). Has l session) (sym (numbers_are device.journal) ∙ ended.changed) (has_shown (λ (one : Change). by_session one.by) device.journal change session has among) in
      let within = (all_has (λ one. (1 ≤ one) × (one ≤ length finals)) (successes 1 finals) session (successes_within finals) by_it).1 in
      omega (arith, within, few)))
      (all_has (MakesWhatIsTaken old begun) device.journal change makes has))

-- one more change
pub made_more : (commands : List Command) (begun : List ℕ) (journal : List Change) (session number : ℕ) (settings : List Setting) → AllByRecursion (MakesWhatIsTaken commands begun) journal
    → session_at begun session ≡ Some number → settings ≡ settings_taken (taken_at commands number)
    → AllByRecursion (MakesWhatIsTaken commands begun) (journal ++ record { by = Session session; settings = settings } ∷ [])
made_more commands begun journal session number settings makes at same =
    all-append (MakesWhatIsTaken commands begun) journal (record { by = Session session; settings = settings } ∷ []) makes (
      all_of (λ k. settings ≡ settings_taken (taken_at commands k)) (carried_by begun (session ∷ [])) (λ k has.
          let one = has_carried begun (session ∷ []) k has in
          let here : session_at begun session ≡ Some k = elim one.among [
            | inl is ↦ subst (λ (s : ℕ). session_at begun s ≡ Some k) (sym is) one.at
            | inr none ↦ absurd none
          ] in
          same ∙ ap (λ (n : ℕ). settings_taken (taken_at commands n)) (some_same number k (sym at ∙ here))),
      tt,
    )
  where
    some_same : (a b : ℕ) → Some a ≡ Some b → a ≡ b
    some_same a b e = cc
