-- Where the table is what the transcript shows, what holds by the table holds by the transcript.
use Rattle.proof_host.specs.law_transcript.Nodes.{always}
use Rattle.std.proofs.Common.{◌≡◌, ℕ, if◌then◌else◌, List, [], ◌∷◌, map, Option, Some, None, sym, ap, subst, ◌∙◌}
use Rattle.std.specs.List.{AllByRecursion}
use Rattle.zw_base.specs.declared.property.Property.{Property}
use Rattle.zw_base.specs.declared.property.Setting.{Setting}
use Rattle.device_kinds.specs.declared.change.Change.{Change}
use Rattle.proof_messages.specs.device_stack.State.{State, value_of}
use Rattle.zw_text.specs.declared.entry.Entry.{Entry}
use Rattle.zw_text.specs.declared.entry.Outcome.TheVariants.{Success}
use Rattle.zw_text.specs.Transcript.{Command as Accepted, accepted, by_session, outcome, sessions}
use Rattle.proof_host.specs.law_transcript.Commands.{settings_for}
use Rattle.proof_host.specs.law_transcript.Lists.{Has}
use Rattle.proof_host.specs.law_transcript.Once.{IsUndone, MakesWhatIsAsked, Once, carried_by, commands_applied}
use Rattle.proof_host.specs.law_transcript.Values.{ConfirmsLast, confirmed, confirmed_by, is_success, last_command, last_given, properties_changed}
use Rattle.value_store.specs.Values.{stored_of}
use Rattle.host_keep.specs.Kept.{value_among}
use Rattle.proof_host.specs.host_model.State.{Command, HostState}
use Rattle.proof_host.specs.Laws.{numbers_for}
use Rattle.proof_host.specs.Stores.{StoresLaw, given_by}
use Rattle.proof_host.specs.Tables.{taken_at}
use Rattle.proof_host.proofs.Confirmed.{last_agree}
use Rattle.proof_once.specs.Tied.{MakesWhatIsTaken, settings_taken}
use Rattle.proof_once.specs.ByTable.{ConfirmsByTable, IsTable, OnceByTable}
use Rattle.proof_host.proofs.Having.{all_has, all_of}
use Rattle.proof_once.proofs.CommandsOfSessions.{has_carried, session_has}
use Rattle.proof_once.proofs.ConfirmedValues.{value_settings}

all_map : {A B : Type 0} (P : B → Type 0) (f : A → B) (xs : List A) → AllByRecursion P (map f xs) → AllByRecursion (λ x. P (f x)) xs
all_map P f [] all = tt
all_map P f (x ∷ xs) all = (all.0, all_map P f xs all.1)

module _ (listing : ℕ → List ℕ) (commands : List Command) (node : ℕ) (past : List Entry) (table : IsTable (always listing) commands node past)
    (for : AllByRecursion (Has (numbers_for node past)) (sessions node past)) where
  -- a command of a session asks for what the table says
  asked : (number : ℕ) → Has (sessions node past) number → settings_for (always listing) past node number ≡ settings_taken (taken_at commands number)
  asked number has =
      all_has (λ k. settings_for (always listing) past node k ≡ settings_taken (taken_at commands k)) (numbers_for node past) number table.settings
      (all_has (Has (numbers_for node past)) (sessions node past) number for has)

  makes_asked : (change : Change) → MakesWhatIsTaken commands (sessions node past) change → MakesWhatIsAsked (always listing) node past change
  makes_asked change makes =
      all_of (λ number. change.settings ≡ settings_for (always listing) past node number) (carried_by (sessions node past) (by_session change.by)) (λ number has.
      let one = has_carried (sessions node past) (by_session change.by) number has in
      all_has (λ k. change.settings ≡ settings_taken (taken_at commands k)) (carried_by (sessions node past) (by_session change.by)) number makes has
      ∙ sym (asked number (session_has (sessions node past) one.session number one.at)))

  of_accepted : (P : ℕ → Type 0) → AllByRecursion P (numbers_for node past) → AllByRecursion (λ (command : Accepted). P command.number) (accepted node past)
  of_accepted P all = all_map P (λ (command : Accepted). command.number) (accepted node past) (subst (λ (l : List ℕ). AllByRecursion P l) (sym table.numbers) all)

  pub once_so : (journal : List Change) → OnceByTable commands node past journal → Once (always listing) node past journal
  once_so journal is = record {
    changes = record {
      sessions_rise = is.sessions_rise;
      sessions_begun = is.sessions_begun;
      settings = all_of (MakesWhatIsAsked (always listing) node past) journal (λ change has.
          makes_asked change (all_has (MakesWhatIsTaken commands (sessions node past)) journal change is.settings has));
      never_plain = is.never_plain;
    };
    carries = record {
      commands_rise = is.commands_rise;
      commands_accepted = subst (λ (l : List ℕ). AllByRecursion (Has l) (sessions node past)) (sym table.numbers) for;
    };
    ends = record {
      successful = of_accepted (λ number. outcome number past ≡ Success → Has (commands_applied node past journal) number) is.successful;
      undone = of_accepted (λ number. IsUndone (outcome number past) → Has (commands_applied node past journal) number → ⊥) is.undone;
    };
  }

  gives_same : (property : Property) (number : ℕ) → Has (sessions node past) number
      → given_by commands (λ k. outcome k past) property number ≡ confirmed_by (always listing) past node property number
  gives_same property number has =
      ap (λ (o : Option ℕ). if is_success (outcome number past) then o else None)
      (value_settings (taken_at commands number) property ∙ ap (λ (l : List Setting). value_among l property) (sym (asked number has)))

  pub confirms_so : (h : HostState) (device : State) → h.commands ≡ commands → StoresLaw past h → ConfirmsByTable node past h.store device → ConfirmsLast (always listing) node past device
  confirms_so h device is stores confirms =
      all_of _ (properties_changed device.journal) (λ property among.
      all_of (λ number. outcome number past ≡ Success → confirmed (always listing) past node property ≡ Some (value_of device property)) (last_command (sessions node past) device.journal property) (λ number has success.
      sym (last_agree (confirmed_by (always listing) past node property) (given_by commands (λ k. outcome k past) property) (sessions node past)
      (all_of (λ k. given_by commands (λ j. outcome j past) property k ≡ confirmed_by (always listing) past node property k) (sessions node past) (gives_same property)))
      ∙ ap (λ (l : List Command). last_given (given_by l (λ k. outcome k past) property) (sessions node past)) (sym is)
      ∙ sym (stores.confirmed node property)
      ∙ all_has (λ k. outcome k past ≡ Success → (stored_of h.store node property).confirmed ≡ Some (value_of device property)) (last_command (sessions node past) device.journal property) number
      (confirms property) has success))
