-- A device that knows Supervision changes in sessions and by hand alone.
use Rattle.std.proofs.Common.{◌≡◌, ℕ, ◌+◌, true, false, List, [], ◌∷◌, inl, inr, sym, subst, ◌∙◌}
use Rattle.std.specs.List.{AllByRecursion}
use Rattle.zw_base.proofs.Each.{all-append}
use Rattle.zw_base.specs.declared.property.By.{By}
use Rattle.zw_base.specs.declared.property.By.TheVariants.{Session, Plain, Local}
use Rattle.zw_base.specs.declared.property.Setting.{Setting}
use Rattle.device_kinds.specs.declared.change.Change.{Change}
use Rattle.device_kinds.specs.declared.kind.Kind.{Kind}
use Rattle.device_kinds.specs.declared.verdict.Verdict.{Verdict}
use Rattle.device_kinds.specs.declared.verdict.Verdict.TheVariants.{NoSupport, Fails, Makes, Works}
use Rattle.device_kinds.specs.Kind.{lists}
use Rattle.proof_messages.specs.device_sim.State.{State}
use Rattle.proof_messages.specs.device_sim.Event.{DeviceEvent, Hears, Ticks, Wakes, Sets, device_after}
use Rattle.proof_messages.specs.device_sim.Laws.{IsChanged, IsHeard, IsMade, IsTicked}
use Rattle.proof_host.specs.law_transcript.Devices.{after_events}
use Rattle.proof_host.specs.law_transcript.Once.{IsSupervisedChange}
use Rattle.proof_device.specs.GoingOn.{GoOn, IsSame}
use Rattle.proof_device.specs.Showing.{AreUnchanged}
use Rattle.proof_once.specs.InSessions.{ChangesInSessions}

abbrev pub AllSupervised : List Change → Type 0
AllSupervised journal = AllByRecursion IsSupervisedChange journal

-- one change more, by a session or by hand
one_more : (journal new : List Change) (by : By) (settings : List Setting) → (by ≡ Plain → ⊥) → IsChanged journal by settings new → AllSupervised journal → AllSupervised new
one_more journal new by settings not is all =
    subst AllSupervised (sym is) (all-append IsSupervisedChange journal (record { by = by; settings = settings } ∷ []) all (not, tt))

not_by_session : (session : ℕ) → Session session ≡ Plain → ⊥
not_by_session session e = cc

-- ---- one event

made_so : (session : ℕ) (journal new : List Change) (left left' : ℕ) (verdict : Verdict) → IsMade session journal new left left' verdict → AllSupervised journal → AllSupervised new
made_so session journal new left left' (Makes settings) is all = one_more journal new (Session session) settings (not_by_session session) is.0 all
made_so session journal new left left' (Works settings) is all = subst AllSupervised (sym is.0) all
made_so session journal new left left' Fails is all = subst AllSupervised (sym is.0) all
made_so session journal new left left' NoSupport is all = subst AllSupervised (sym is.0) all

heard_so : (old new : State) → IsHeard old new → lists old.kind 0x6C ≡ true → AllSupervised old.journal → AllSupervised new.journal
heard_so old new (inl same) knows all = subst AllSupervised (sym same.0) all
heard_so old new (inr (inl (verdict, (free, (sessions, (empty, made)))))) knows all =
    made_so (old.sessions.taken + 1) old.journal new.journal old.work_left new.work_left verdict made all
heard_so old new (inr (inr (settings, (plain, more)))) knows all = absurd (both (sym knows ∙ plain))
  where
    both : true ≡ false → ⊥
    both e = cc

ticked_so : (old new : State) → IsTicked old new → AllSupervised old.journal → AllSupervised new.journal
ticked_so old new (inl same) all = subst AllSupervised (sym same.0) all
ticked_so old new (inr (left, (none, (made, taken)))) all = one_more old.journal new.journal (Session old.sessions.taken) old.work.settings (not_by_session old.sessions.taken) made all

module _ (heard : (device : State) (payload drawn : List ℕ) → IsHeard device (device_after device (Hears payload drawn)))
    (ticked : (device : State) (drawn : List ℕ) → IsTicked device (device_after device (Ticks drawn)))
    (woken : (device : State) → (device_after device Wakes).journal ≡ device.journal)
    (by_hand : (device : State) (value : ℕ) → (settings : List Setting) × IsChanged device.journal Local settings (device_after device (Sets value)).journal)
    (same : (device : State) (event : DeviceEvent) → IsSame device (device_after device event)) where
  journal_so : (device : State) (event : DeviceEvent) → lists device.kind 0x6C ≡ true → AllSupervised device.journal → AllSupervised (device_after device event).journal
  journal_so device (Hears payload drawn) knows all = heard_so device (device_after device (Hears payload drawn)) (heard device payload drawn) knows all
  journal_so device (Ticks drawn) knows all = ticked_so device (device_after device (Ticks drawn)) (ticked device drawn) all
  journal_so device Wakes knows all = subst AllSupervised (sym (woken device)) all
  journal_so device (Sets value) knows all =
      let made = by_hand device value in
      one_more device.journal (device_after device (Sets value)).journal Local made.0 (λ e. cc) made.1 all

  pub event_so : (device : State) (event : DeviceEvent) → ChangesInSessions device → ChangesInSessions (device_after device event)
  event_so device event is knows =
      let knew : lists device.kind 0x6C ≡ true = subst (λ (k : Kind). lists k 0x6C ≡ true) (same device event).kind knows in
      journal_so device event knew (is knew)

  events_so : (device : State) (events : List DeviceEvent) → ChangesInSessions device → ChangesInSessions (after_events device events)
  events_so device [] is = is
  events_so device (e ∷ events) is = events_so (device_after device e) events (event_so device e is)

  pub all_so : (old new : List State) → GoOn old new → AllByRecursion ChangesInSessions old → AllByRecursion ChangesInSessions new
  all_so [] [] go are = tt
  all_so [] (y ∷ new) go are = absurd go
  all_so (x ∷ old) [] go are = absurd go
  all_so (x ∷ old) (y ∷ new) go are =
      (subst ChangesInSessions (sym go.0.1) (events_so x go.0.0 are.0), all_so old new go.1 are.1)

-- ---- before any

pub unchanged_so : (devices : List State) → AreUnchanged devices → AllByRecursion ChangesInSessions devices
unchanged_so [] are = tt
unchanged_so (d ∷ devices) are = (λ knows. subst AllSupervised (sym are.0) tt, unchanged_so devices are.1)
