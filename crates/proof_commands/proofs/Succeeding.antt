-- What is a success in the table of the host is one in its transcript.
use Rattle.std.proofs.Common.{◌≡◌, ℕ, true, All, List, [], ◌∷◌, Option, Some, None, refl, sym, ap, subst, ◌∙◌}
use Rattle.std.specs.List.{AllByRecursion}
use Rattle.std.proofs.lemmas.List.Elements.{recursion_from_All}
use Rattle.zw_text.specs.Transcript.{outcome}
use Rattle.zw_text.specs.declared.entry.Entry.{Entry}
use Rattle.zw_text.specs.declared.entry.Outcome.{Outcome}
use Rattle.zw_text.specs.declared.entry.Outcome.TheVariants.{Waiting, Begun, Success, Fail, NoSupport, Unanswered, Cancelled}
use Rattle.run_lines.specs.declared.status.Status.{Status}
use Rattle.run_all.specs.host_core.Network.{keys_of}
use Rattle.run_all.specs.host_core.Orders.{outcome_at}
use Rattle.host_model.specs.State.{HostState, HostParts, Command as TheCommand, command_at}
use Rattle.host_model.specs.Events.{HostEvent}
use Rattle.host_model.specs.Did.{after_all}
use Rattle.host_keep.specs.declared.record.Record.{Record}
use Rattle.host_model.specs.Opening.{opened}
use Rattle.proof_host.specs.Facts.{AreShown}
use Rattle.proof_host.specs.Tables.{outcome_by, recorded}
use Rattle.run_all.specs.port_run.declared.asking.Answer.{Answer}
use Rattle.run_all.specs.port_run.declared.asking.Answer.TheVariants.{Taken, Command, Refused}
use Rattle.run_all.specs.port_run.declared.ending.Served.TheVariants.{Ok}
use Rattle.run_all.specs.port_run.Schedule.{is_quiet}
use Rattle.run_all.specs.port_run.Ending.{Desk, is_done, is_success, status_of}
use Rattle.proof_commands.specs.Lives.{GoesOn}
use Rattle.proof_commands.specs.Port.{Story, ToldAll, ShowsTables, IsBorneOut, first, last, transcript}

success_of : (o : Outcome) → is_success (Some o) ≡ true → o ≡ Success
success_of Waiting e = cc
success_of Begun e = cc
success_of Success e = refl
success_of Fail e = cc
success_of NoSupport e = cc
success_of Unanswered e = cc
success_of Cancelled e = cc

success_by : (command : Option TheCommand) → is_success (outcome_at command) ≡ true → outcome_by command ≡ Success
success_by None e = cc
success_by (Some command) e = success_of command.outcome e

recorded_success : (o : Outcome) → recorded o ≡ Success → o ≡ Success
recorded_success Waiting e = e
recorded_success Begun e = e
recorded_success Success e = e
recorded_success Fail e = e
recorded_success NoSupport e = e
recorded_success Unanswered e = cc
recorded_success Cancelled e = e

module _ (T : List Entry) (h : HostState) (shown : AreShown T h) where
  one_borne : (answer : Answer) → is_done h answer ≡ true → IsBorneOut T answer
  one_borne Taken done = tt
  one_borne (Command number) done =
      recorded_success (outcome number T) (sym (shown.outcomes number) ∙ ap (λ (o : Outcome). recorded o) (success_by (command_at h.commands number) done))
  one_borne Refused done = cc

  borne_out : (answers : List Answer) → AllByRecursion (λ answer. is_done h answer ≡ true) answers → AllByRecursion (IsBorneOut T) answers
  borne_out [] done = tt
  borne_out (answer ∷ answers) done = (one_borne answer done.0, borne_out answers done.1)

pub done_succeed : ((ended : Status) (key : List ℕ) (number : ℕ) (texts : List (List ℕ)) (old new : Desk) → ShowsTables ended key number texts old new)
    → (key : List ℕ) (number : ℕ) (texts : List (List ℕ)) (old new : Desk) (story : Story) (lives : List (List HostEvent)) (told : ToldAll Ok is_quiet (keys_of key) number texts old new story)
    → GoesOn (keys_of key) number old.shelf.records lives → AllByRecursion (IsBorneOut (transcript key lives story)) told.0.answers
done_succeed tables key number texts old new story lives told on =
    let (ran, does) = told in
    let opens : ran.started.host.state ≡ first key story
    = ap (λ (p : HostParts). p.state) ran.started.opens.state ∙ ap (λ (r : List Record). opened (keys_of key) r) does.records in
    let end : ran.host.state ≡ last key story = does.did.state ∙ ap (λ (h : HostState). after_all h story.events) opens in
    borne_out (transcript key lives story) (last key story)
    (tables (status_of Ok) key number texts old new story lives (record { end = Ok; status_is = refl; is = told }) on)
    ran.answers
    (recursion_from_All _ ran.answers (subst (λ (h : HostState). All (λ answer. is_done h answer ≡ true) ran.answers) end ran.judged))
