-- What the host was told of sessions stays in its table of commands, and one more status is told as its session ends.
use Rattle.std.proofs.Common.{◌≡◌, ℕ, zero, suc, ◌+◌, ◌≤◌, ◌⊎◌, inl, inr, Some, List, [], ◌∷◌, ◌++◌, length, refl, ap, sym, ◌∙◌, subst, arith}
use Rattle.std.specs.Prelude.{slice_get}
use Rattle.zw_text.specs.declared.entry.Entry.{Entry}
use Rattle.zw_text.specs.Transcript.{outcome}
use Rattle.host_keep.specs.declared.final_status.FinalStatus.TheVariants as final
use Rattle.host_model.specs.State.{Command, HostState}
use Rattle.host_model.specs.Events.{HostEvent}
use Rattle.host_model.specs.After.{after, outcome_of}
use Rattle.host_model.specs.May.{May}
use Rattle.proof_once.specs.proof_host.Entries.{entries_at}
use Rattle.proof_once.specs.proof_host.Facts.{AreShown, Facts}
use Rattle.proof_once.specs.proof_host.Laws.{HostLaws, IsOver}
use Rattle.proof_once.specs.proof_host.Tables.{outcome_in, recorded}
use Rattle.proof_once.specs.Tied.{AreOutcomes}
use Rattle.proof_once.proofs.TieSteps.{recorded_over, over_recorded, final_over}
use Rattle.proof_course_plain.specs.Told.{KeepsOutcomes, HasPast}

-- ---- places

place_back : (begun : List ℕ) (command before number : ℕ) → slice_get (begun ++ command ∷ []) before ≡ Some number → (slice_get begun before ≡ Some number) ⊎ (before ≡ length begun)
place_back [] command zero number at = inr refl
place_back [] command (suc before) number at = absurd (grind arith)
place_back (first ∷ begun) command zero number at = inl at
place_back (first ∷ begun) command (suc before) number at = elim (place_back begun command before number at) [
  | inl early ↦ inl early
  | inr place ↦ inr (ap suc place)
]

none_past : (told : List ℕ) (before status : ℕ) → length told ≤ before → slice_get told before ≡ Some status → ⊥
none_past [] before status past at = absurd (grind arith)
none_past (first ∷ told) zero status past at = absurd (omega (arith, past))
none_past (first ∷ told) (suc before) status past at = none_past told before status (omega (arith, past)) at

-- ---- what was told stays

pub outcomes_stay : (old new : List Command) (begun told : List ℕ) → KeepsOutcomes old new → AreOutcomes old begun told → AreOutcomes new begun told
outcomes_stay old new begun told keeps are session number status at is =
    let was = are session number status at is in record { final = was.final; status_is = was.status_is; outcome_is = keeps number was.final was.outcome_is }

-- a session begins, and was not told of
pub outcomes_begin : (commands : List Command) (begun told : List ℕ) (command : ℕ) → length told ≤ length begun → AreOutcomes commands begun told → AreOutcomes commands (begun ++ command ∷ []) told
outcomes_begin commands begun told command few are zero number status at is = absurd (grind arith)
outcomes_begin commands begun told command few are (suc before) number status at is = elim (place_back begun command before number at) [
  | inl early ↦ are (suc before) number status early is
  | inr place ↦ absurd (none_past told before status (omega (arith, place, few)) is)
]

-- ---- a report that ends a session

-- ---- the table of commands, as a transcript shows it

-- the laws of a host alone
pub record PastLaws : Type 0 where
  pub each : (past : List Entry) (h : HostState) (event : HostEvent) → Facts past h → May h event → Facts (past ++ entries_at h event) (after h event)
  pub legal : (past : List Entry) (h : HostState) → Facts past h → HostLaws past
  pub tables : (past : List Entry) (h : HostState) → Facts past h → AreShown past h
  pub stays : (past more : List Entry) (number : ℕ) → HostLaws (past ++ more) → IsOver (outcome number past) → outcome number (past ++ more) ≡ outcome number past

module _ (laws : PastLaws) where
  pub past_kept : (h : HostState) (event : HostEvent) → HasPast h → May h event → HasPast (after h event)
  past_kept h event is may = record { past = is.past ++ entries_at h event; facts = laws.each is.past h event is.facts may }

  -- an outcome that is final stays
  pub outcomes_kept : (h : HostState) (event : HostEvent) → HasPast h → May h event → KeepsOutcomes h.commands (after h event).commands
  outcomes_kept h event is may number status ended =
      let more : List Entry = entries_at h event in
      let now : Facts (is.past ++ more) (after h event) = laws.each is.past h event is.facts may in
      let shown : outcome number is.past ≡ outcome_of status
      = recorded_over (outcome number is.past) status (sym ((laws.tables is.past h is.facts).outcomes number) ∙ (ap recorded ended ∙ over_recorded status)) in
      let still : outcome number (is.past ++ more) ≡ outcome number is.past = laws.stays is.past more number (laws.legal (is.past ++ more) (after h event) now) (subst IsOver (sym shown) (final_over status)) in
      recorded_over (outcome_in (after h event).commands number) status ((laws.tables (is.past ++ more) (after h event) now).outcomes number ∙ (ap recorded (still ∙ shown) ∙ over_recorded status))
