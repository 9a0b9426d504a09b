-- A command whose session began in a stretch, and which has a final outcome, has the one that the kind of the device says.
use Rattle.std.proofs.Common.{◌≡◌, ℕ, zero, suc, ◌+◌, ◌≤◌, ◌<◌, ◌||◌, ◌==◌, if◌then◌else◌, Bool, true, false, List, [], ◌∷◌, ◌++◌, length, Option, Some, None, refl, sym, ap, ◌∙◌, subst, arith}
use Rattle.std.specs.Prelude.{slice_get, unwrap_or, option_map}
use Rattle.std.specs.List.{list_any}
use Rattle.zw_base.specs.declared.order.Order.{Order}
use Rattle.zw_base.specs.declared.property.Setting.{Setting}
use Rattle.zw_text.specs.declared.entry.Entry.{Entry}
use Rattle.zw_text.specs.declared.entry.Outcome.{Outcome}
use Rattle.zw_text.specs.declared.entry.Outcome.TheVariants.{Success, Fail, NoSupport}
use Rattle.zw_text.specs.Transcript.{accepted, outcome, session_at, sessions}
use Rattle.zw_text.proofs.Views.{shown-append}
use Rattle.supervision.specs.Host.{command_at}
use Rattle.encap.specs.Opening.{Message, opened_at}
use Rattle.host_keep.specs.Status.{status_byte}
use Rattle.host_keep.specs.declared.final_status.FinalStatus.{FinalStatus}
use Rattle.host_keep.specs.declared.final_status.FinalStatus.TheVariants as status
use Rattle.host_orders.specs.Messages.{commands_of, is_batch}
use Rattle.host_orders.specs.Refusals.{IsFit}
use Rattle.host_orders.specs.Wrapping.{carriage_of, ends_of, message_of}
use Rattle.host_orders.specs.declared.carriage.Carriage.{Carriage}
use Rattle.device_kinds.specs.declared.change.Change.{Change}
use Rattle.device_kinds.specs.declared.kind.Kind.{Kind}
use Rattle.device_kinds.specs.declared.verdict.Verdict.{Verdict}
use Rattle.device_kinds.specs.declared.verdict.Verdict.TheVariants as verdicts
use Rattle.device_kinds.specs.Kind.{classes_of as kind_classes}
use Rattle.device_kinds.specs.Effects.{end_of, level_in, value_in}
use Rattle.device_kinds.specs.Judging.{judged_message}
use Rattle.device_kinds.specs.Values.{level_by, value_by}
use Rattle.device_sim.specs.State.{State}
use Rattle.mesh_sim.specs.Fates.{place_of}
use Rattle.law_transcript.specs.Commands.{before_accepted, classes_for, message_by, order_of}
use Rattle.law_transcript.specs.Lists.{Has}
use Rattle.law_transcript.specs.Sessions.{IsFinal}
use Rattle.law_transcript.specs.Nodes.{always, device_of, is_interviewed, known_at_first, listed_by, listing_of}
use Rattle.law_time.specs.Sessions.{is_final}
use Rattle.law_time.specs.Verdicts.{before_session, is_answered, message_in, outcome_by, outcome_due, outcome_said, same_final, settings_made, verdict_on}
use Rattle.host_node.specs.State.{NodeState}
use Rattle.host_model.specs.After.{outcome_of}
use Rattle.host_model.specs.State.{Command, node_of}
use Rattle.world_model.specs.State.{Machine}
use Rattle.proof_host.specs.Tables.{outcome_in, recorded}
use Rattle.proof_course.specs.SessionFacts.{AreTold}
use Rattle.proof_course.specs.Sessions.{Course}
use Rattle.proof_messages.specs.Asking.{message_in as opened_in}
use Rattle.proof_spoken.specs.proof_device.GoingOn.{AreSame, IsSame}
use Rattle.proof_spoken.specs.proof_once.Tied.{IsToldAs}
use Rattle.proof_spoken.proofs.CommandsOfSessions.{has_session, session_within}
use Rattle.proof_course_plain.proofs.Commands.{final_so}
use Rattle.proof_course_plain.proofs.Once.{HasStatus, retold, told_at}
use Rattle.proof_course_plain.proofs.TieSteps.{session_prefix}
use Rattle.proof_in_time.proofs.JudgedSessions.{At, Sees, Tie, due, final_of, sees_also}

-- ---- the session of a command

-- one that began behind others
behind_has : (first rest : List ℕ) (number : ℕ) → Has rest number → (session : ℕ) × ((length first < session) × (command_at (first ++ rest) session ≡ Some number))
behind_has [] rest number has = let one = has_session rest number has in let within = (session_within rest one.session number one.at).0 in (one.session, (omega (arith, within), one.at))
behind_has (x ∷ first) rest number has = let one = behind_has first rest number has in by one.0 one.1.0 one.1.1
  where
    by : (session : ℕ) → length first < session → command_at (first ++ rest) session ≡ Some number → (later : ℕ) × ((length (x ∷ first) < later) × (command_at (x ∷ (first ++ rest)) later ≡ Some number))
    by zero less at = absurd (omega (arith, less))
    by (suc k) less at = (suc (suc k), (omega (arith, less), at))

-- ---- outcomes

final_true : (o : Outcome) → is_final o ≡ true → IsFinal o
final_true Success final = tt
final_true Fail final = tt
final_true NoSupport final = tt
final_true o final = absurd cc

-- a status that was told, and what the verdict says
told_as : (o : Outcome) (told : FinalStatus) (verdict : Verdict) → recorded o ≡ recorded (outcome_of told) → status_byte told ≡ final_of verdict → same_final o (outcome_by verdict) ≡ true
told_as Success status.Success (verdicts.Makes settings) o_is byte = refl
told_as Success status.Success (verdicts.Works settings) o_is byte = refl
told_as Fail status.Fail verdicts.Fails o_is byte = refl
told_as NoSupport status.NoSupport verdicts.NoSupport o_is byte = refl
told_as o status.Success verdicts.Fails o_is byte = absurd (omega (arith, byte))
told_as o status.Success verdicts.NoSupport o_is byte = absurd (omega (arith, byte))
told_as o status.Fail verdicts.NoSupport o_is byte = absurd (omega (arith, byte))
told_as o status.Fail (verdicts.Makes settings) o_is byte = absurd (omega (arith, byte))
told_as o status.Fail (verdicts.Works settings) o_is byte = absurd (omega (arith, byte))
told_as o status.NoSupport verdicts.Fails o_is byte = absurd (omega (arith, byte))
told_as o status.NoSupport (verdicts.Makes settings) o_is byte = absurd (omega (arith, byte))
told_as o status.NoSupport (verdicts.Works settings) o_is byte = absurd (omega (arith, byte))
told_as o told verdict o_is byte = absurd cc

ended_as : (n : ℕ) (kind : Kind) (start : List Change) (entries : List Entry) (commands : List Command) (number : ℕ) (o : Outcome) (status : ℕ) → IsToldAs status (outcome_in commands number)
    → recorded o ≡ recorded (outcome_in commands number) → Sees n kind start entries commands number (λ verdict. status ≡ final_of verdict) → Sees n kind start entries commands number (λ verdict. same_final o (outcome_by verdict) ≡ true)
ended_as n kind start entries commands number o status told entered sees =
    sees_also n kind start entries commands number (λ verdict. status ≡ final_of verdict) (λ verdict. same_final o (outcome_by verdict) ≡ true)
    (λ verdict is. told_as o told.final verdict (entered ∙ ap recorded told.outcome_is) (sym told.status_is ∙ is)) sees

-- ---- what the host was told

module _ (n since : ℕ) (kind : Kind) (start : List Change) (past entries : List Entry) (m : Machine) (at : At n m) (tie : Tie n since kind start past entries m at) (number : ℕ) (is_over : is_final (outcome number (past ++ entries)) ≡ true) where
  abbrev c : Course
  c = at.course

  sees_session : (session : ℕ) → since < session → command_at c.host.commands session ≡ Some number → HasStatus c.told session
      → Sees n kind start entries m.host.state.commands number (λ verdict. same_final (outcome number (past ++ entries)) (outcome_by verdict) ≡ true)
  sees_session session less carries told =
      let ends : command_at c.ends session ≡ Some told.status =
      subst (λ (l : List ℕ). command_at l session ≡ Some told.status) (sym at.lawful.told_are.prefix) (session_prefix c.told at.lawful.told_are.rest session told.status told.at) in
      ended_as n kind start entries m.host.state.commands number (outcome number (past ++ entries)) told.status (at.outcomes session number told.status carries told.at) (tie.facts.entered number)
      (tie.ended session number told.status less ends carries)

  pub sees_final : length (sessions n past) ≡ since → Has (sessions n entries) number → Sees n kind start entries m.host.state.commands number (λ verdict. same_final (outcome number (past ++ entries)) (outcome_by verdict) ≡ true)
  sees_final begun_is has =
      let one = behind_has (sessions n past) (sessions n entries) number has in
      let state : NodeState = node_of m.host.state n in
      let held = at.booked in
      let booked : sessions n past ++ sessions n entries ≡ state.book.commands = sym (shown-append (session_at n) past entries) ∙ tie.facts.begun n in
      let there : command_at state.book.commands one.0 ≡ Some number = subst (λ (l : List ℕ). command_at l one.0 ≡ Some number) booked one.1.1 in
      let over : IsFinal (outcome_in m.host.state.commands number) =
      final_so (outcome_in m.host.state.commands number) (outcome number (past ++ entries)) (sym (tie.facts.entered number)) (final_true (outcome number (past ++ entries)) is_over) in
      let are : AreTold state.book c.ends c.told = retold c.host state.book c.ends c.told held.0 held.1 at.lawful.told_are in
      let less = one.1.0 in
      sees_session one.0 (omega (arith, less, begun_is)) (subst (λ (l : List ℕ). command_at l one.0 ≡ Some number) held.0 there)
      (told_at m.host.state.commands state (tie.facts.in_order n) c.ends c.told are one.0 number there over)

-- ---- in the words of the law

pub device_stands : (node : ℕ) (devices : List State) (place : ℕ) (device : State) → place_of node devices ≡ Some place → slice_get devices place ≡ Some device → device_of node devices ≡ Some device
device_stands node [] place device found stood = absurd cc
device_stands node (first ∷ devices) place device found stood = by (first.node == node) place (place_of node devices) found stood (λ at there stands. device_stands node devices at device there stands)
  where
    by : (b : Bool) (place : ℕ) (rest : Option ℕ) → (if b then Some 0 else option_map suc rest) ≡ Some place → slice_get (first ∷ devices) place ≡ Some device
        → ((at : ℕ) → rest ≡ Some at → slice_get devices at ≡ Some device → device_of node devices ≡ Some device) → (if b then Some first else device_of node devices) ≡ Some device
    by true zero rest found stood more = stood
    by true (suc place) rest found stood more = absurd cc
    by false place None found stood more = absurd cc
    by false zero (Some at) found stood more = absurd cc
    by false (suc place) (Some at) found stood more = let same : at ≡ place = cc in more at refl (subst (λ (k : ℕ). slice_get devices k ≡ Some device) (sym same) stood)

-- what the node and the kind of a device decide is so of devices that are the same
pub same_device : {A : Type 0} (of : Option State → A) → ((old new : State) → IsSame old new → of (Some new) ≡ of (Some old)) → (node : ℕ) (olds news : List State) → AreSame olds news
    → of (device_of node news) ≡ of (device_of node olds)
same_device of kind node [] [] same = refl
same_device of kind node [] (new ∷ news) same = absurd same
same_device of kind node (old ∷ olds) [] same = absurd same
same_device of kind node (old ∷ olds) (new ∷ news) same =
    ap (λ (b : Bool). of (if b then Some new else device_of node news)) (ap (λ (k : ℕ). k == node) same.0.node) ∙ by (old.node == node) (same_device of kind node olds news same.1)
  where
    by : (b : Bool) → of (device_of node news) ≡ of (device_of node olds) → of (if b then Some new else device_of node news) ≡ of (if b then Some old else device_of node olds)
    by true rest = kind old new same.0
    by false rest = rest

pub same_listing : (node : ℕ) (olds news : List State) → AreSame olds news → listing_of news node ≡ listing_of olds node
same_listing node olds news same = same_device listed_by (λ old new is. ap kind_classes is.kind) node olds news same

-- what the laws of messages say
pub record Laws : Type 0 where
  pub opened : (carriage : Carriage) (order : Order) (session : ℕ) → IsFit carriage.actuator order → order.end ≤ 127 → opened_at (message_of carriage order session) ≡ Some (opened_in carriage order session)
  pub target : (end : ℕ) → end_of (ends_of end) ≡ end

module _ (laws : Laws) (n : ℕ) (firsts devices : List State) (before stretch : List Entry) (commands : List Command) (number : ℕ) (device : State) (stands : device_of n devices ≡ Some device)
    (listed : listing_of devices n ≡ listing_of firsts n) where
  classes_same : (past : List Entry) → classes_for (always (listing_of devices)) past n number ≡ classes_for (always (listing_of firsts)) past n number
  classes_same past = ap (λ (l : List ℕ). unwrap_or (if is_interviewed (before_accepted number past) n then Some l else known_at_first n) []) listed

  pub answered : (sees : Sees n device.kind device.journal stretch commands number (λ verdict. same_final (outcome number (before ++ stretch)) (outcome_by verdict) ≡ true))
      → (order_of number (accepted n (before ++ stretch)) ≡ Some sees.taken.order) → (sees.taken.carriage ≡ carriage_of (classes_for (always (listing_of firsts)) (before ++ stretch) n number) sees.taken.order)
      → is_answered devices before stretch n number ≡ true
  answered sees ordered carried =
      let order : Order = sees.taken.order in
      let carriage : Carriage = sees.taken.carriage in
      let session : ℕ = length (sessions n (before ++ before_session number stretch)) + 1 in
      let settings : List Setting = settings_made n (before_session number stretch) in
      let message : message_in devices before stretch n number ≡ message_of carriage order session =
      ap (λ (o : Option Order). message_by (classes_for (always (listing_of devices)) (before ++ stretch) n number) session o) ordered
      ∙ (ap (λ (l : List ℕ). message_of (carriage_of l order) order session) (classes_same (before ++ stretch)) ∙ ap (λ (x : Carriage). message_of x order session) (sym carried)) in
      let opens : opened_at (message_in devices before stretch n number) ≡ Some (opened_in carriage order session) = ap opened_at message ∙ laws.opened carriage order session sees.fit sees.end in
      let says : outcome_due devices before stretch n number ≡ outcome_by (verdict_on device settings (opened_in carriage order session)) ∷ [] =
      ap (λ (d : Option State). outcome_said settings d (opened_at (message_in devices before stretch n number))) stands ∙ ap (λ (o : Option Message). outcome_said settings (Some device) o) opens in
      let target : verdict_on device settings (opened_in carriage order session) ≡ due device.kind device.journal settings order carriage =
      ap (λ (e : ℕ). judged_message device.kind (λ property. value_by settings property (value_in device.journal property)) (level_by settings (level_in device.journal)) e (is_batch order.what) (commands_of carriage.actuator order.what)) (laws.target order.end) in
      ap (λ (l : List Outcome). list_any (same_final (outcome number (before ++ stretch))) l) (says ∙ ap (λ (v : Verdict). outcome_by v ∷ []) target)
      ∙ ap (λ (b : Bool). b || false) sees.so
