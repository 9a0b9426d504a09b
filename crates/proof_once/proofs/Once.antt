-- What the tie gives of each session, and once only.
use Rattle.std.proofs.Common.{◌≡◌, ◌⊎◌, ℕ, zero, suc, ◌≤◌, List, length, get_or, Option, Some, None, inl, inr, refl, sym, ap, ap₂, subst, ◌∙◌, arith}
use Rattle.std.specs.List.{AllByRecursion}
use Rattle.std.proofs.lemmas.Bool.{cases_eq}
use Rattle.std.proofs.lemmas.Option.{slice_get-get_or}
use Rattle.supervision.specs.Host.{HostBook, begun_of, open_session, command_at as session_at}
use Rattle.supervision.specs.declared.session.TheConstants.{SUCCESS}
use Rattle.supervision.proofs.EndsLemmas.{open_session-Some}
use Rattle.proof_course.specs.Parts.{successes}
use Rattle.proof_course.specs.SessionFacts.{AreTold}
use Rattle.proof_messages.specs.device_sim.State.{State}
use Rattle.zw_text.specs.declared.entry.Entry.{Entry}
use Rattle.zw_text.specs.declared.entry.Outcome.{Outcome}
use Rattle.zw_text.specs.declared.entry.Outcome.TheVariants.{Waiting, Begun, Success, Fail, NoSupport, Unanswered, Cancelled}
use Rattle.zw_text.specs.Transcript.{sessions, outcome}
use Rattle.proof_host.specs.law_transcript.Lists.{Has, Rises}
use Rattle.proof_host.specs.law_transcript.Once.{IsUndone, IsSupervisedChange, carried_by, commands_applied, sessions_by}
use Rattle.proof_host.specs.law_transcript.Sessions.{IsFinal}
use Rattle.host_keep.specs.Status.{status_byte}
use Rattle.host_keep.specs.declared.final_status.FinalStatus.{FinalStatus}
use Rattle.host_keep.specs.declared.final_status.FinalStatus.TheVariants as final
use Rattle.host_node.specs.State.{NodeState}
use Rattle.host_node.specs.TableState.{node_of}
use Rattle.proof_host.specs.host_model.State.{HostState, Command}
use Rattle.proof_host.specs.host_model.After.{outcome_of}
use Rattle.proof_host.specs.host_model.Sessions.{command_by, open_command}
use Rattle.proof_host.specs.Facts.{AreShown, Facts, IsInOrder}
use Rattle.proof_host.specs.Laws.{HostLaws, IsUnderWay, numbers_for}
use Rattle.proof_host.specs.Tables.{outcome_in, recorded}
use Rattle.proof_once.specs.Tied.{IsTied, MakesWhatIsTaken}
use Rattle.proof_once.specs.ByTable.{OnceByTable}
use Rattle.proof_host.proofs.Having.{all_has, all_of}
use Rattle.proof_device.proofs.Once.{numbers_are}
use Rattle.proof_once.proofs.CommandsOfSessions.{carried_has, has_carried, has_session, session_has, session_within}
use Rattle.proof_once.proofs.Successes.{has_success, successes_rise, successes_within, success_has}
use Rattle.proof_once.proofs.BegunCommands.{IsStarted, started_has}
use Rattle.proof_once.proofs.TieSteps.{session_prefix}

-- ---- outcomes

way_not_final : (o : Outcome) → IsUnderWay o → IsFinal o → ⊥
way_not_final Begun way is = is
way_not_final Unanswered way is = is
way_not_final Waiting way is = is
way_not_final Success way is = way
way_not_final Fail way is = way
way_not_final NoSupport way is = way
way_not_final Cancelled way is = way

way_not_undone : (o : Outcome) → IsUnderWay o → IsUndone o → ⊥
way_not_undone Begun way is = is
way_not_undone Unanswered way is = is
way_not_undone Waiting way is = way
way_not_undone Success way is = is
way_not_undone Fail way is = way
way_not_undone NoSupport way is = way
way_not_undone Cancelled way is = way

recorded_success : (o : Outcome) → recorded o ≡ Success → o ≡ Success
recorded_success Success e = refl
recorded_success Waiting e = cc
recorded_success Begun e = cc
recorded_success Fail e = cc
recorded_success NoSupport e = cc
recorded_success Unanswered e = cc
recorded_success Cancelled e = cc

undone_recorded : (o : Outcome) → IsUndone o → IsUndone (recorded o)
undone_recorded Waiting is = is
undone_recorded Begun is = is
undone_recorded Success is = is
undone_recorded Fail is = is
undone_recorded NoSupport is = is
undone_recorded Unanswered is = is
undone_recorded Cancelled is = is

recorded_undone : (o : Outcome) → IsUndone (recorded o) → IsUndone o
recorded_undone Waiting is = is
recorded_undone Begun is = is
recorded_undone Success is = is
recorded_undone Fail is = is
recorded_undone NoSupport is = is
recorded_undone Unanswered is = is
recorded_undone Cancelled is = is

success_byte : (status : FinalStatus) → outcome_of status ≡ Success → status_byte status ≡ SUCCESS
success_byte final.Success e = refl
success_byte final.Fail e = cc
success_byte final.NoSupport e = cc

byte_done : (status : FinalStatus) → status_byte status ≡ SUCCESS → IsUndone (outcome_of status) → ⊥
byte_done final.Success e is = is
byte_done final.Fail e is = absurd (omega (arith, e))
byte_done final.NoSupport e is = absurd (omega (arith, e))

-- ---- statuses that the host was told

-- a status of a session
pub record HasStatus (told : List ℕ) (session : ℕ) : Type 0 where
  pub status : ℕ
  pub at : session_at told session ≡ Some status

status_within : (told : List ℕ) (session : ℕ) → 1 ≤ session → session ≤ length told → HasStatus told session
status_within told zero one within = absurd (omega (arith, one))
status_within told (suc before) one within = record { status = get_or told before 0; at = slice_get-get_or told before 0 (omega (arith, within)) }

-- what the host was told looks at the commands of the sessions and at the last outcome alone
pub retold : (was now : HostBook) (ends told : List ℕ) → now.commands ≡ was.commands → now.outcome ≡ was.outcome → AreTold was ends told → AreTold now ends told
retold was now ends told same ended are =
    let count : begun_of now ≡ begun_of was = ap (λ (l : List ℕ). length l) same in
    let opened : open_session now ≡ open_session was =
    ap₂ (λ (o : Option ℕ) (l : List ℕ). open_session (record { commands = l; outcome = o; attempts = 0 })) ended same in
    record {
      rest = are.rest;
      prefix = are.prefix;
      closed = λ none. are.closed (sym opened ∙ none) ∙ sym count;
      opened = λ session some. are.opened session (sym opened ∙ some) ∙ sym count;
    }

-- ---- of one node

module _ (commands : List Command) (state : NodeState) (order : IsInOrder commands state) (finals told : List ℕ) (are : AreTold state.book finals told) where
  told_by : (session number : ℕ) → session_at state.book.commands session ≡ Some number → IsFinal (outcome_in commands number)
      → (which : Option ℕ) → open_session state.book ≡ which → HasStatus told session
  told_by session number at is None e =
      let all = are.closed e in
      let within = session_within state.book.commands session number at in
      let first = within.0 in
      let last = within.1 in
      status_within told session first (omega (arith, last, all))
  told_by session number at is (Some opened) e =
      let within = session_within state.book.commands session number at in
      let first = within.0 in
      let last = within.1 in
      let all = are.opened opened e in
      let count = (open_session-Some state.book opened e).0 in
      elim (cases_eq session opened) [
        | inl same ↦
            let now : open_command state ≡ Some number = ap (λ (o : Option ℕ). command_by state o) e ∙ subst (λ (s : ℕ). session_at state.book.commands s ≡ Some number) same at in
            absurd (way_not_final (outcome_in commands number) (order.under_way number now) is)
        | inr other ↦ status_within told session first (omega (arith, last, all, count, other))
      ]

  pub told_at : (session number : ℕ) → session_at state.book.commands session ≡ Some number → IsFinal (outcome_in commands number) → HasStatus told session
  told_at session number at is = told_by session number at is (open_session state.book) refl

  -- a command of a session is under way, or has a final outcome
  started_or : (number : ℕ) → Has state.book.commands number → (which : Option ℕ) → open_command state ≡ which → IsUnderWay (outcome_in commands number) ⊎ IsFinal (outcome_in commands number)
  started_or number has None e = inr (all_has (λ k. (open_command state ≡ Some k → ⊥) → IsFinal (outcome_in commands k)) state.book.commands number order.ended has (λ is. absurd (grind arith)))
  started_or number has (Some opened) e = elim (cases_eq number opened) [
    | inl same ↦ inl (order.under_way number (e ∙ ap Some (sym same)))
    | inr other ↦ inr (all_has (λ k. (open_command state ≡ Some k → ⊥) → IsFinal (outcome_in commands k)) state.book.commands number order.ended has
        (λ is. let both : Some opened ≡ Some number = sym e ∙ is in let one : opened ≡ number = cc in other (sym one)))
  ]

  pub started : (number : ℕ) → Has state.book.commands number → IsUnderWay (outcome_in commands number) ⊎ IsFinal (outcome_in commands number)
  started number has = started_or number has (open_command state) refl

module _ (commands : List Command) (state : NodeState) (order : IsInOrder commands state) (device : State) (finals told : List ℕ) (tied : IsTied commands state.book device finals told) where
  pub changed : sessions_by device.journal ≡ successes 1 finals
  changed = sym (numbers_are device.journal) ∙ tied.ended.changed

  final_at : (session status : ℕ) → session_at told session ≡ Some status → session_at finals session ≡ Some status
  final_at session status at = subst (λ (l : List ℕ). session_at l session ≡ Some status) (sym tied.told_are.prefix) (session_prefix told tied.told_are.rest session status at)

  -- a session whose command succeeded has changed the device
  pub succeeded : (session number : ℕ) → session_at state.book.commands session ≡ Some number → outcome_in commands number ≡ Success → Has (sessions_by device.journal) session
  succeeded session number at is =
      let one = told_at commands state order finals told tied.told_are session number at (subst IsFinal (sym is) tt) in
      let was = tied.outcomes session number one.status at one.at in
      let byte = was.status_is ∙ success_byte was.final (sym was.outcome_is ∙ is) in
      subst (λ (l : List ℕ). Has l session) (sym changed)
      (success_has finals session (subst (λ (k : ℕ). session_at finals session ≡ Some k) byte (final_at session one.status one.at)))

  -- one whose command came to nothing has not
  pub not_undone : (session number : ℕ) → session_at state.book.commands session ≡ Some number → Has (sessions_by device.journal) session → IsUndone (outcome_in commands number) → ⊥
  not_undone session number at has undone = elim (started commands state order finals told tied.told_are number (session_has state.book.commands session number at)) [
    | inl way ↦ way_not_undone (outcome_in commands number) way undone
    | inr is ↦
        let one = told_at commands state order finals told tied.told_are session number at is in
        let was = tied.outcomes session number one.status at one.at in
        let success = has_success finals session (subst (λ (l : List ℕ). Has l session) changed has) in
        let same : one.status ≡ SUCCESS = some_same one.status SUCCESS (sym (final_at session one.status one.at) ∙ success) in
        byte_done was.final (sym was.status_is ∙ same) (subst IsUndone was.outcome_is undone)
  ]
    where
      some_same : (a b : ℕ) → Some a ≡ Some b → a ≡ b
      some_same a b e = cc

-- ---- once only

pub success_in : (past : List Entry) (h : HostState) (number : ℕ) → AreShown past h → outcome number past ≡ Success → outcome_in h.commands number ≡ Success
success_in past h number tables is = recorded_success (outcome_in h.commands number) (tables.outcomes number ∙ ap recorded is)

module _ (past : List Entry) (h : HostState) (node : ℕ) (device : State) (finals told : List ℕ) (facts : Facts past h) (tables : AreShown past h) (laws : HostLaws past)
    (tied : IsTied h.commands (node_of h.nodes node).book device finals told) (supervised : AllByRecursion IsSupervisedChange device.journal) where
  undone_in : (number : ℕ) → IsUndone (outcome number past) → IsUndone (outcome_in h.commands number)
  undone_in number is =
      recorded_undone (outcome_in h.commands number) (subst IsUndone (sym (tables.outcomes number)) (undone_recorded (outcome number past) is))

  successful : (number : ℕ) → Has (numbers_for node past) number → outcome number past ≡ Success → Has (carried_by (node_of h.nodes node).book.commands (sessions_by device.journal)) number
  successful number for is =
      let begun = started_has past h.commands node number facts.stand (facts.accepted.nodes number) for (subst IsStarted (sym is) tt) in
      let one = has_session (node_of h.nodes node).book.commands number (subst (λ (l : List ℕ). Has l number) (sym (tables.sessions_are node)) begun) in
      carried_has (node_of h.nodes node).book.commands (sessions_by device.journal) one.session number
      (succeeded h.commands (node_of h.nodes node) (facts.in_order node) device finals told tied one.session number one.at (success_in past h number tables is)) one.at

  undone : (number : ℕ) → IsUndone (outcome number past) → Has (carried_by (node_of h.nodes node).book.commands (sessions_by device.journal)) number → ⊥
  undone number is has =
      let one = has_carried (node_of h.nodes node).book.commands (sessions_by device.journal) number has in
      not_undone h.commands (node_of h.nodes node) (facts.in_order node) device finals told tied one.session number one.at one.among (undone_in number is)

  begun_within : AllByRecursion (λ session. (1 ≤ session) × (session ≤ length (node_of h.nodes node).book.commands)) (successes 1 finals)
  begun_within = all_of (λ session. (1 ≤ session) × (session ≤ length (node_of h.nodes node).book.commands)) (successes 1 finals) (λ session has.
      let within = all_has (λ one. (1 ≤ one) × (one ≤ length finals)) (successes 1 finals) session (successes_within finals) has in
      let last = within.1 in
      let all = tied.begun in
      (within.0, omega (arith, last, all)))

  pub once : OnceByTable h.commands node past device.journal
  once =
      let begun = tables.sessions_are node in
      let made = sym (changed h.commands (node_of h.nodes node) (facts.in_order node) device finals told tied) in
      record {
        sessions_rise = subst (λ (l : List ℕ). Rises l) made (successes_rise 1 finals);
        sessions_begun = subst (λ (l : List ℕ). AllByRecursion (λ session. (1 ≤ session) × (session ≤ length (sessions node past))) l) made
            (subst (λ (l : List ℕ). AllByRecursion (λ session. (1 ≤ session) × (session ≤ length l)) (successes 1 finals)) begun begun_within);
        commands_rise = laws.rise node;
        commands_accepted = laws.accepted node;
        settings = subst (λ (l : List ℕ). AllByRecursion (MakesWhatIsTaken h.commands l) device.journal) begun tied.made;
        successful = all_of (λ number. outcome number past ≡ Success → Has (commands_applied node past device.journal) number) (numbers_for node past) (λ number has is.
            subst (λ (l : List ℕ). Has (carried_by l (sessions_by device.journal)) number) begun (successful number has is));
        undone = all_of (λ number. IsUndone (outcome number past) → Has (commands_applied node past device.journal) number → ⊥) (numbers_for node past) (λ number has is applied.
            undone number is (subst (λ (l : List ℕ). Has (carried_by l (sessions_by device.journal)) number) (sym begun) applied));
        never_plain = supervised;
      }
