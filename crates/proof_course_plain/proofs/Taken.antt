-- What a device made for its sessions is what the host's table of commands says of them.
use Rattle.std.proofs.Common.{◌≡◌, ℕ, zero, suc, Option, Some, None, List, [], ◌∷◌, map, refl, ap, sym, ◌∙◌, subst, arith}
use Rattle.std.specs.List.{AllByRecursion}
use Rattle.zw_base.specs.declared.property.By.{By}
use Rattle.zw_base.specs.declared.property.By.TheVariants.{Session, Plain, Local}
use Rattle.zw_base.specs.declared.property.Setting.{Setting}
use Rattle.supervision.specs.Host.{command_at as session_at}
use Rattle.proof_course.specs.Parts.{numbered}
use Rattle.zw_text.specs.Transcript.{by_session}
use Rattle.law_transcript.specs.Once.{carried_by}
use Rattle.device_kinds.specs.declared.change.Change.{Change}
use Rattle.host_orders.specs.Settings.{settings}
use Rattle.host_model.specs.State.{Command}
use Rattle.proof_once.specs.proof_host.Tables.{taken_at}
use Rattle.proof_course_plain.specs.Meaning.{Asked}
use Rattle.proof_course_plain.specs.Making.{IsAskedFor, MakesBy, MakesAsked}
use Rattle.proof_course_plain.specs.Host.{asked_of}
use Rattle.proof_once.specs.Tied.{settings_taken, MakesWhatIsTaken}
use Rattle.proof_course_plain.proofs.HostEvents.{session_numbered}

taken_numbered : (commands : List Command) (number : ℕ) (asked : Asked) → numbered (map asked_of commands) number ≡ asked ∷ [] → settings asked.carriage.actuator asked.order ≡ settings_taken (taken_at commands number)
taken_numbered commands zero asked e = absurd (grind (arith, e))
taken_numbered [] (suc before) asked e = absurd (grind (arith, e))
taken_numbered (x ∷ commands) (suc zero) asked e = let same : asked_of x ≡ asked = cc in ap (λ (a : Asked). settings a.carriage.actuator a.order) (sym same)
taken_numbered (x ∷ commands) (suc (suc before)) asked e = taken_numbered commands (suc before) asked e

asked_taken : (commands : List Command) (begun : List ℕ) (session number : ℕ) (made : List Setting) → IsAskedFor (map asked_of commands) begun session made → session_at begun session ≡ Some number
    → made ≡ settings_taken (taken_at commands number)
asked_taken commands begun session number made is at =
    let both : is.number ∷ [] ≡ number ∷ [] = sym is.carried ∙ session_numbered begun session number at in
    let same : is.number ≡ number = cc in
    is.settings_are ∙ subst (λ (k : ℕ). settings is.asked.carriage.actuator is.asked.order ≡ settings_taken (taken_at commands k)) same (taken_numbered commands is.number is.asked is.accepted)

change_taken : (commands : List Command) (begun : List ℕ) (by : By) (made : List Setting) → MakesBy (map asked_of commands) begun by made
    → AllByRecursion (λ number. made ≡ settings_taken (taken_at commands number)) (carried_by begun (by_session by))
change_taken commands begun Plain made is = tt
change_taken commands begun Local made is = tt
change_taken commands begun (Session session) made is = by (session_at begun session) refl
  where
    by : (found : Option ℕ) → session_at begun session ≡ found → AllByRecursion (λ number. made ≡ settings_taken (taken_at commands number)) (carried_by begun (session ∷ []))
    by None e = rw e tt
    by (Some number) e = rw e (asked_taken commands begun session number made is e, tt)

pub changes_taken : (commands : List Command) (begun : List ℕ) (journal : List Change) → AllByRecursion (MakesAsked (map asked_of commands) begun) journal → AllByRecursion (MakesWhatIsTaken commands begun) journal
changes_taken commands begun [] all = tt
changes_taken commands begun (change ∷ journal) all = (change_taken commands begun change.by change.settings all.0, changes_taken commands begun journal all.1)
