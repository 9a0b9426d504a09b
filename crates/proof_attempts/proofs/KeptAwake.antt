-- A node is held where the report that ends its session asks so, and wherever it does.
use Rattle.std.proofs.Common.{◌≡◌, ◌⊎◌, ℕ, ◌≤◌, ◌%◌, ◌==◌, ◌&&◌, ◌||◌, not, Bool, true, false, if◌then◌else◌, inl, inr, length, List, [], ◌∷◌, ◌++◌, Option, Some, None, refl, sym, ap, ap₂, ◌∙◌, subst, append-nil, append_assoc, arith}
use Rattle.std.specs.List.{AllByRecursion, flat_map, list_all, list_any}
use Rattle.std.proofs.lemmas.Bool.{and_right, cases_lt, eq-eqb, eqb-true, or_right}
use Rattle.std.proofs.lemmas.List.{get_or_past}
use Rattle.zw_base.specs.declared.property.Setting.{Setting}
use Rattle.zw_base.proofs.Each.{all-right}
use Rattle.serial_frame.specs.Items.{unit_text}
use Rattle.serial_frame.specs.declared.unit.Unit.TheVariants.{Framed}
use Rattle.supervision.specs.Host.{command_at as command_of_session, open_session, told_of}
use Rattle.supervision.specs.Session.{wire_id}
use Rattle.supervision.specs.declared.session.TheConstants.{WORKING}
use Rattle.supervision.specs.declared.host_node.Told.TheVariants.{Final, Old, Working}
use Rattle.zw_text.specs.declared.entry.Ended.TheVariants as ended
use Rattle.zw_text.specs.declared.entry.Entry.{Entry}
use Rattle.zw_text.specs.declared.entry.Entry.TheVariants as entry
use Rattle.zw_text.specs.Transcript.{sessions}
use Rattle.zw_text.proofs.Views.{folded-append}
use Rattle.proof_work.specs.law_transcript.Lists.{EachAfter, Has}
use Rattle.proof_work.specs.law_transcript.Units.{Carried, bringing_in, from_node}
use Rattle.proof_work.specs.law_time.Holds.{final_step, just_ended, may_hold, may_tell_to_stay, owes_hold, stays_by, stays_here, tells_to_stay}
use Rattle.proof_work.specs.law_time.Interviews.{listens}
use Rattle.proof_work.specs.law_time.Judged.{after_step, brought_here, is_following, judged, judged_here, last_of, payloads_here}
use Rattle.proof_work.specs.law_time.Moments.{Allows}
use Rattle.host_heard.specs.Telling.{heard_at}
use Rattle.host_heard.specs.declared.payload.Heard.{Heard}
use Rattle.host_heard.specs.declared.payload.Heard.TheVariants.{Messages, Sealed, Unread}
use Rattle.host_keep.specs.declared.final_status.FinalStatus.{FinalStatus}
use Rattle.host_keep.specs.declared.final_status.FinalStatus.TheVariants as final
use Rattle.host_keep.specs.Status.{status_byte}
use Rattle.host_node.specs.State.{NodeState, is_false, unknown}
use Rattle.proof_requests.specs.host_model.State.{HostState, command_at, node_of}
use Rattle.proof_requests.specs.host_model.Sessions.{command_by, open_command, settings_with}
use Rattle.proof_requests.specs.host_model.May.{IsFinal}
use Rattle.proof_requests.specs.host_model.Did.{MayAll}
use Rattle.proof_requests.specs.host_model.Events.{HostEvent, Accepts, Cancels, Finishes, Hears, IsOwn}
use Rattle.proof_requests.specs.host_model.After.{is_held}
use Rattle.proof_requests.specs.host_model.Outs.{answers, ended_of, held_entries, outs, stored_entries}
use Rattle.proof_requests.proofs.Submitted.{SleepersAre, SubmittedAre, next_is, no_more_is}
use Rattle.proof_work.specs.proof_host.Facts.{Facts}
use Rattle.proof_work.proofs.Lists.{each-append}
use Rattle.proof_requests.specs.proof_alone.State.{HostMachine}
use Rattle.proof_requests.specs.proof_alone.Steps.{AreTold, IsOfOthers, Step, Tells as Tells_of_others, Comes, Misses, Says, Says_nothing, Asks, Refuses, Shows, Restarts, Begins_tick, Numbers, Judges, Does, entries}
use Rattle.proof_requests.specs.proof_alone.Phases.{Phase, Ticking, Behind, Sleeping, Submitting, GoesBy, May}
use Rattle.proof_requests.specs.proof_alone.Runs.{WalkOver}
use Rattle.proof_requests.proofs.proof_alone_Apart.{missed_are}
use Rattle.proof_requests.specs.proof_waking.Judged.{IsBehindFrame, IsOfRequest, KnowsJudged}
use Rattle.proof_requests.proofs.proof_waking_Apart.{IsApart, apart_judged}
use Rattle.proof_requests.proofs.proof_waking_Settling.{brought_is}
pub use Rattle.proof_requests.proofs.proof_waking_Parts.{noted_told}
use Rattle.proof_attempts.specs.Kept.{KnowsHeard, KnowsUnowed}
use Rattle.proof_attempts.proofs.Finishing.{Brings, Tells, frame_brings}
use Rattle.proof_attempts.proofs.Opening.{OpenLast, open_last}
use Rattle.proof_attempts.proofs.Telling.{EndsNone, IsPlain, IsSteady, plain_line, same_listens, same_sessions, told_plain}

-- ---- where no session has just ended

no_carried : (owes : Carried → Bool) → ((one : Carried) → owes one ≡ false) → (all : List Carried) → list_any owes all ≡ false
no_carried owes none [] = refl
no_carried owes none (one ∷ all) = ap (λ (b : Bool). b || list_any owes all) (none one) ∙ no_carried owes none all

none_owed : (past : List Entry) → just_ended past ≡ [] → owes_hold past ≡ false
none_owed past none =
    no_carried (λ carried. stays_here tells_to_stay carried.node past)
    (λ carried. ap (λ (l : List ℕ). list_any (λ command. list_any (λ one. one == command) (last_of (sessions carried.node past))) l && not (listens carried.node past)
    && list_any (λ payload. tells_to_stay (length (sessions carried.node past) % 64) (heard_at payload)) (payloads_here carried.node past)) none) (brought_here past)

ended_one : (past : List Entry) (e : Entry) → just_ended (past ++ e ∷ []) ≡ final_step (just_ended past) e
ended_one past e = folded-append final_step [] past (e ∷ [])

plain_step : (commands : List ℕ) (e : Entry) → IsPlain e → final_step commands e ≡ []
plain_step commands (entry.Held node) plain = absurd plain
plain_step commands (entry.Store node setting) plain = absurd plain
plain_step commands (entry.Out command ended.Success) plain = absurd plain
plain_step commands (entry.Out command ended.Fail) plain = absurd plain
plain_step commands (entry.Out command ended.NoSupport) plain = absurd plain
plain_step commands e plain = refl

plain_may : (past : List Entry) (e : Entry) → IsPlain e → owes_hold past ≡ false → may_hold past e ≡ true
plain_may past (entry.Held node) plain owes = absurd plain
plain_may past (entry.Store node setting) plain owes = absurd plain
plain_may past e plain owes = ap not owes

plain_stand : (past told : List Entry) → AllByRecursion IsPlain told → owes_hold past ≡ false → EachAfter (Allows may_hold) past told × (owes_hold (past ++ told) ≡ false)
plain_stand past [] all owes = (tt, subst (λ (l : List Entry). owes_hold l ≡ false) (sym (append-nil past)) owes)
plain_stand past (e ∷ told) all owes =
    let rest = plain_stand (past ++ e ∷ []) told all.1 (none_owed (past ++ e ∷ []) (ended_one past e ∙ plain_step (just_ended past) e all.0)) in
    ((plain_may past e all.0 owes, rest.0), subst (λ (l : List Entry). owes_hold l ≡ false) (append_assoc past (e ∷ []) told) rest.1)

-- ---- what a report asks

any_has : (asks : List Bool) → Has asks true → list_any (λ one. one) asks ≡ true
any_has [] has = absurd has
any_has (first ∷ asks) (inl same) = ap (λ (b : Bool). b || list_any (λ one. one) asks) same
any_has (first ∷ asks) (inr has) = or_right first (list_any (λ one. one) asks) (any_has asks has)

all_has : (asks : List Bool) → Has asks false → list_all (λ one. one) asks ≡ false
all_has [] has = absurd has
all_has (first ∷ asks) (inl same) = ap (λ (b : Bool). b && list_all (λ one. one) asks) same
all_has (first ∷ asks) (inr has) = and_right first (list_all (λ one. one) asks) (all_has asks has)

may_stay : (heard : Heard) (id : ℕ) → Tells heard id true → may_tell_to_stay id heard ≡ true
may_stay (Messages messages) id tells = any_has (flat_map (stays_by id) messages) tells
may_stay Sealed id tells = refl
may_stay Unread id tells = absurd tells

stays_not : (heard : Heard) (id : ℕ) → Tells heard id false → tells_to_stay id heard ≡ false
stays_not (Messages messages) id tells =
    let asks : List Bool = flat_map (stays_by id) messages in and_right (list_any (λ one. one) asks) (list_all (λ one. one) asks) (all_has asks tells)
stays_not Sealed id tells = refl
stays_not Unread id tells = refl

-- where it is held it may be
held_may : (wake listening : Bool) (heard : Heard) (id : ℕ) → Tells heard id wake → wake && is_false listening ≡ true → not listening && (may_tell_to_stay id heard || false) ≡ true
held_may true true heard id tells held = absurd (let bad : false ≡ true = held in cc)
held_may true false heard id tells held = ap (λ (b : Bool). b || false) (may_stay heard id tells)
held_may false listening heard id tells held = absurd (let bad : false ≡ true = held in cc)

-- where it is not none is owed
unheld_owes : (wake listening : Bool) (heard : Heard) (id : ℕ) → Tells heard id wake → wake && is_false listening ≡ false → not listening && (tells_to_stay id heard || false) ≡ false
unheld_owes wake true heard id tells held = refl
unheld_owes true false heard id tells held = absurd (let bad : true ≡ false = held in cc)
unheld_owes false false heard id tells held = ap (λ (b : Bool). b || false) (stays_not heard id tells)

-- ---- of which session it is

final_by : (attempts id byte session : ℕ) (outcome : Option ℕ) (commands : List ℕ) → told_of (record { commands = commands; outcome = outcome; attempts = attempts }) id byte ≡ Final session
    → (id ≡ length commands % 64) × (open_session (record { commands = commands; outcome = outcome; attempts = attempts }) ≡ Some session)
final_by attempts id byte session (Some ended_so) commands is = absurd (let bad : Old ≡ Final session = is in cc)
final_by attempts id byte session None [] is = absurd (let bad : Old ≡ Final session = is in cc)
final_by attempts id byte session None (first ∷ more) is = by (id == wire_id (length (first ∷ more))) refl (byte == WORKING) is
  where
    by : (named : Bool) → (id == wire_id (length (first ∷ more))) ≡ named → (works : Bool)
        → (if named then (if works then Working else Final (length (first ∷ more))) else Old) ≡ Final session
        → (id ≡ length (first ∷ more) % 64) × (Some (length (first ∷ more)) ≡ Some session)
    by false is works final_so = absurd (let bad : Old ≡ Final session = final_so in cc)
    by true is true final_so = absurd (let bad : Working ≡ Final session = final_so in cc)
    by true is false final_so = (eqb-true id (wire_id (length (first ∷ more))) is, (let same : Final (length (first ∷ more)) ≡ Final session = final_so in cc))

-- it is the last of its node, whose command this is
pub record IsEnding (node : NodeState) (id command : ℕ) : Type 0 where
  pub id_is : id ≡ length node.book.commands % 64
  pub last : last_of node.book.commands ≡ command ∷ []

same_command : (found : Option ℕ) (a b : ℕ) → found ≡ Some a → found ≡ Some b → a ≡ b
same_command found a b e f = cc

ending_last : (node : NodeState) (session command : ℕ) → open_session node.book ≡ Some session → command_of_session node.book.commands session ≡ Some command
    → ((open_session node.book ≡ None) × (open_command node ≡ None)) ⊎ OpenLast node → last_of node.book.commands ≡ command ∷ []
ending_last node session command opened carried (inl none) = absurd (let bad : None ≡ Some session = sym none.0 ∙ opened in cc)
ending_last node session command opened carried (inr at) =
    at.last ∙ ap (λ (c : ℕ). c ∷ []) (same_command (open_command node) at.command command at.opened (ap (λ (o : Option ℕ). command_by node o) opened ∙ carried))

pub ending_of : (h : HostState) (n session id command : ℕ) (status : FinalStatus) → IsFinal h n session id command status → IsEnding (node_of h n) id command
ending_of h n session id command status it =
    let node = node_of h n in
    let by = final_by node.book.attempts id (status_byte status) session node.book.outcome node.book.commands it.told in
    record { id_is = by.0; last = ending_last node session command by.1 it.carried (open_last node) }

pub opened_command : (h : HostState) (n session id command : ℕ) (status : FinalStatus) → IsFinal h n session id command status → open_command (node_of h n) ≡ Some command
opened_command h n session id command status it =
    let node = node_of h n in
    ap (λ (o : Option ℕ). command_by node o) (final_by node.book.attempts id (status_byte status) session node.book.outcome node.book.commands it.told).1 ∙ it.carried

-- ---- the entries of a session that ends

module _ (past : List Entry) (n command : ℕ) where
  -- what is judged here, the sessions of the node and whether it listens are as before them
  record Around (p : List Entry) : Type 0 where
    follows : is_following p ≡ true
    brought : brought_here p ≡ brought_here past
    begun : sessions n p ≡ sessions n past
    hears : listens n p ≡ listens n past

  around_one : (p : List Entry) (e : Entry) → after_step true e ≡ true → IsApart e → IsSteady e → Around p → Around (p ++ e ∷ [])
  around_one p e after apart steady around =
      let follows : is_following (p ++ e ∷ []) ≡ true = folded-append after_step false p (e ∷ []) ∙ ap (λ (b : Bool). after_step b e) around.follows ∙ after in
      let here : judged_here (p ++ e ∷ []) ≡ judged_here p
      = ap₂ (λ (b : Bool) (l : List (List ℕ)). if b then last_of l else []) (follows ∙ sym around.follows) (apart_judged p (e ∷ []) (apart, tt)) in
      record {
        follows = follows;
        brought = ap (λ (l : List (List ℕ)). flat_map bringing_in l) here ∙ around.brought;
        begun = same_sessions n p e steady ∙ around.begun;
        hears = same_listens n p e steady ∙ around.hears;
      }

  stored_stand : (p : List Entry) (settings : List Setting) → Around p → just_ended p ≡ command ∷ []
      → EachAfter (Allows may_hold) p (stored_entries n settings) × (Around (p ++ stored_entries n settings) × (just_ended (p ++ stored_entries n settings) ≡ command ∷ []))
  stored_stand p [] around ends = (tt, subst (λ (l : List Entry). Around l × (just_ended l ≡ command ∷ [])) (sym (append-nil p)) (around, ends))
  stored_stand p (s ∷ settings) around ends =
      let e : Entry = entry.Store n s in
      let rest = stored_stand (p ++ e ∷ []) settings (around_one p e refl tt tt around) (ended_one p e ∙ ends) in
      ((refl, rest.0), subst (λ (l : List Entry). Around l × (just_ended l ≡ command ∷ [])) (append_assoc p (e ∷ []) (stored_entries n settings)) rest.1)

  held_stand : (p : List Entry) (held : Bool) → (held ≡ true → may_hold p (entry.Held n) ≡ true) → (held ≡ false → owes_hold p ≡ false)
      → EachAfter (Allows may_hold) p (held_entries n held) × (owes_hold (p ++ held_entries n held) ≡ false)
  held_stand p true may owes = ((may refl, tt), none_owed (p ++ entry.Held n ∷ []) (ended_one p (entry.Held n)))
  held_stand p false may owes = (tt, subst (λ (l : List Entry). owes_hold l ≡ false) (sym (append-nil p)) (owes refl))

  -- of the node whose payload is judged here, by the report that ends its session
  module _ (node : NodeState) (payload : List ℕ) (id : ℕ) (wake : Bool) (ending : IsEnding node id command) (begun : sessions n past ≡ node.book.commands) (hears : listens n past ≡ node.listens)
      (brings : brought_here past ≡ record { node = n; payload = payload } ∷ []) (tells : Tells (heard_at payload) id wake) where
    payloads : (p : List Entry) → Around p → payloads_here n p ≡ payload ∷ []
    payloads p around =
        ap (λ (l : List Carried). flat_map (from_node n) l) (around.brought ∙ brings) ∙ ap (λ (b : Bool). (if b then payload ∷ [] else []) ++ []) (eq-eqb n n refl)

    stays_is : (says : ℕ → Heard → Bool) (p : List Entry) → Around p → just_ended p ≡ command ∷ [] → stays_here says n p ≡ not node.listens && (says id (heard_at payload) || false)
    stays_is says p around ends =
        ap (λ (l : List ℕ). list_any (λ c. list_any (λ one. one == c) (last_of l)) (just_ended p) && not (listens n p) && list_any (λ text. says (length l % 64) (heard_at text)) (payloads_here n p))
        (around.begun ∙ begun)
        ∙ ap₂ (λ (l ended_so : List ℕ). list_any (λ c. list_any (λ one. one == c) l) ended_so && not (listens n p)
        && list_any (λ text. says (length node.book.commands % 64) (heard_at text)) (payloads_here n p)) ending.last ends
        ∙ ap₂ (λ (b : Bool) (texts : List (List ℕ)). list_any (λ c. list_any (λ one. one == c) (command ∷ [])) (command ∷ []) && not b
        && list_any (λ text. says (length node.book.commands % 64) (heard_at text)) texts) (around.hears ∙ hears) (payloads p around)
        ∙ ap₂ (λ (b : Bool) (k : ℕ). ((b || false) || false) && not node.listens && (says k (heard_at payload) || false)) (eq-eqb command command refl) (sym ending.id_is)

    owes_is : (p : List Entry) → Around p → just_ended p ≡ command ∷ [] → owes_hold p ≡ (not node.listens && (tells_to_stay id (heard_at payload) || false)) || false
    owes_is p around ends =
        ap (λ (l : List Carried). list_any (λ carried. stays_here tells_to_stay carried.node p) l) (around.brought ∙ brings) ∙ ap (λ (b : Bool). b || false) (stays_is tells_to_stay p around ends)

    ends_stand : (status : FinalStatus) (settings : List Setting) → Around past → owes_hold past ≡ false
        → EachAfter (Allows may_hold) past (entry.Out command (ended_of status) ∷ (stored_entries n settings ++ held_entries n (wake && is_false node.listens)))
        × (owes_hold (past ++ entry.Out command (ended_of status) ∷ (stored_entries n settings ++ held_entries n (wake && is_false node.listens))) ≡ false)
    ends_stand status settings around owes =
        let out : Entry = entry.Out command (ended_of status) in
        let held : Bool = wake && is_false node.listens in
        let stored : List Entry = stored_entries n settings in
        let after = past ++ out ∷ [] in
        let stores = stored_stand after settings (around_one past out refl tt tt around) (ended_one past out ∙ out_ends status) in
        let here : List Entry = after ++ stored in
        let holds = held_stand here held
        (λ is. stays_is may_tell_to_stay here stores.1.0 stores.1.1 ∙ held_may wake node.listens (heard_at payload) id tells is)
        (λ is. owes_is here stores.1.0 stores.1.1 ∙ ap (λ (b : Bool). b || false) (unheld_owes wake node.listens (heard_at payload) id tells is)) in
        let texts : here ++ held_entries n held ≡ past ++ out ∷ (stored ++ held_entries n held)
        = append_assoc after stored (held_entries n held) ∙ append_assoc past (out ∷ []) (stored ++ held_entries n held) in
        ((ap not owes, each-append (Allows may_hold) after stored (held_entries n held) stores.0 holds.0), subst (λ (l : List Entry). owes_hold l ≡ false) texts holds.1)
      where
        out_ends : (s : FinalStatus) → final_step (just_ended past) (entry.Out command (ended_of s)) ≡ command ∷ []
        out_ends final.NoSupport = refl
        out_ends final.Fail = refl
        out_ends final.Success = refl

-- ---- behind a frame

around_now : (past : List Entry) (n command : ℕ) → is_following past ≡ true → Around past n command past
around_now past n command follows = record { follows = follows; brought = refl; begun = refl; hears = refl }

-- a node with a session has its place
has_place : (h : HostState) (n id command : ℕ) → length h.nodes ≡ 233 → IsEnding (node_of h n) id command → n ≤ 232
has_place h n id command places ending = elim (cases_lt n (length h.nodes)) [
  | inl within ↦ omega (arith, within, places)
  | inr past ↦ absurd (
      let none : last_of (node_of h n).book.commands ≡ [] = ap (λ (s : NodeState). last_of s.book.commands) (get_or_past h.nodes n (unknown 0) past) in
      let bad : [] ≡ command ∷ [] = sym none ∙ ending.last in cc)
]

-- what is known where an event comes behind a frame
record At (past : List Entry) (h : HostState) : Type 0 where
  tables : Facts past h
  hears : (n : ℕ) → n ≤ 232 → listens n past ≡ (node_of h n).listens

finishes_stand : (past : List Entry) (m : HostMachine) (left : List HostEvent) (n session id command : ℕ) (status : FinalStatus) (wake : Bool) (told : List Entry)
    → IsBehindFrame past m (Finishes n session id command status wake ∷ left) → At past m.state → IsFinal m.state n session id command status
    → AreTold (outs m.state (Finishes n session id command status wake)) told → owes_hold past ≡ false → EachAfter (Allows may_hold) past told × (owes_hold (past ++ told) ≡ false)
finishes_stand past m left n session id command status wake told behind known it are owes =
    let event : HostEvent = Finishes n session id command status wake in
    let frame = behind.frame in
    let unit : List ℕ = unit_text (Framed frame.frame) in
    let brings = (all-right (Brings unit) frame.gone (event ∷ left) (frame_brings frame.first frame.frame (frame.gone ++ event ∷ left) frame.followed)).0 in
    let settings : List Setting = settings_with status (command_at m.state.commands command) in
    let ending = ending_of m.state n session id command status it in
    let notes : List Entry = entry.Out command (ended_of status) ∷ (stored_entries n settings ++ held_entries n (is_held m.state n wake)) in
    subst (λ (l : List Entry). EachAfter (Allows may_hold) past l × (owes_hold (past ++ l) ≡ false)) (sym (noted_told notes told are))
    (ends_stand past n command (node_of m.state n) brings.0 id wake ending (known.tables.begun n) (known.hears n (has_place m.state n id command known.tables.host.nodes.places ending))
    (brought_is past (event ∷ left) frame behind.follows ∙ brings.1) brings.2 status settings (around_now past n command behind.follows) owes)

behind_stand : (past : List Entry) (m : HostMachine) (left : List HostEvent) (event : HostEvent) (told : List Entry) → IsBehindFrame past m (event ∷ left) → At past m.state
    → MayAll m.state (event ∷ []) → AreTold (outs m.state event) told → owes_hold past ≡ false → EachAfter (Allows may_hold) past told × (owes_hold (past ++ told) ≡ false)
behind_stand past m left (Finishes n session id command status wake) told behind known may are owes = finishes_stand past m left n session id command status wake told behind known may.0 are owes
behind_stand past m left event told behind known may are owes = plain_stand past told (told_plain m.state event told tt are) owes

-- ---- elsewhere no session ends

own_ends : (event : HostEvent) → IsOwn event → EndsNone event
own_ends (Finishes n session id command status wake) own = absurd own
own_ends event own = tt

request_ends : (event : HostEvent) → IsOfRequest event → EndsNone event
request_ends (Finishes n session id command status wake) of_request = absurd of_request
request_ends event of_request = tt

sleepers_end : SleepersAre EndsNone
sleepers_end = record { queues = λ n. tt; drops = λ n. tt }

submitted_end : SubmittedAre EndsNone
submitted_end = record {
  abort = tt;
  front = tt;
  starts = λ n plan more payload. tt;
  text = λ n payload. tt;
  segment = λ n more payload. tt;
  begins = λ n session command. tt;
  unkept = λ n. tt;
}

does_stand : (here next : Phase) (past : List Entry) (m : HostMachine) (event : HostEvent) (told : List Entry) → GoesBy here m.state event next → MayAll m.state (event ∷ []) → AreTold (outs m.state event) told
    → KnowsJudged here past m → At past m.state → owes_hold past ≡ false → EachAfter (Allows may_hold) past told × (owes_hold (past ++ told) ≡ false)
does_stand (Ticking (first ∷ left)) next past m event told goes may are judged known owes =
    plain_stand past told (told_plain m.state event told (subst EndsNone (sym goes.0) (own_ends first judged.0.0)) are) owes
does_stand (Behind (first ∷ left)) next past m event told goes may are (frames, inl behind) known owes =
    behind_stand past m left event told (subst (λ (e : HostEvent). IsBehindFrame past m (e ∷ left)) (sym goes.0) behind) known may are owes
does_stand (Behind (first ∷ left)) next past m event told goes may are (frames, inr (requests, settled)) known owes =
    plain_stand past told (told_plain m.state event told (subst EndsNone (sym goes.0) (request_ends first requests.0)) are) owes
does_stand Sleeping next past m event told (node, wants, is, to_is) may are judged known owes =
    plain_stand past told (told_plain m.state event told (subst EndsNone (sym is) (no_more_is EndsNone sleepers_end m.state node)) are) owes
does_stand Submitting next past m event told goes may are judged known owes =
    plain_stand past told (told_plain m.state event told (next_is EndsNone submitted_end m.state event goes.0) are) owes
does_stand here next past m event told goes may are judged known owes = absurd goes

-- ---- each step

others_plain : (e : Entry) → IsOfOthers e → IsPlain e
others_plain (entry.Held node) others = absurd others
others_plain (entry.Store node setting) others = absurd others
others_plain (entry.Out command how) others = absurd others
others_plain e others = tt

answers_plain : (h : HostState) (event : HostEvent) → AllByRecursion IsPlain (answers h event)
answers_plain h (Accepts order carriage) = (tt, tt)
answers_plain h (Cancels command) = (tt, tt)
answers_plain h event = tt

step_stands : (here next : Phase) (past : List Entry) (m : HostMachine) (one : Step) → May here m one next → KnowsHeard here past m → owes_hold past ≡ false
    → EachAfter (Allows may_hold) past (entries m one) × (owes_hold (past ++ entries m one) ≡ false)
step_stands here next past m (Tells_of_others e) may ground owes = plain_stand past (e ∷ []) (others_plain e may.1, tt) owes
step_stands here next past m (Comes unit) may ground owes = plain_stand past (entries m (Comes unit)) (tt, tt) owes
step_stands here next past m (Misses text marks) may ground owes = plain_stand past (entries m (Misses text marks)) (tt, missed_are IsPlain plain_line marks may.1) owes
step_stands here next past m (Says words line) may ground owes = plain_stand past (entries m (Says words line)) (tt, tt) owes
step_stands here next past m (Says_nothing words) may ground owes = plain_stand past (entries m (Says_nothing words)) (tt, tt) owes
step_stands here next past m (Asks event) may ground owes = plain_stand past (answers m.state event) (answers_plain m.state event) owes
step_stands here next past m (Refuses refusal) may ground owes = plain_stand past (entries m (Refuses refusal)) (tt, tt) owes
step_stands here next past m (Shows node) may ground owes = plain_stand past (entries m (Shows node)) (tt, tt) owes
step_stands here next past m (Restarts state) may ground owes = plain_stand past [] tt owes
step_stands here next past m (Begins_tick left) may ground owes = plain_stand past [] tt owes
step_stands here next past m Numbers may ground owes = plain_stand past (entries m Numbers) (tt, tt) owes
step_stands here next past m (Judges item rest behind told) may ground owes = plain_stand past told (told_plain m.state (Hears item) told tt may.1.told_so) owes
step_stands here next past m (Does event told) may ground owes =
    does_stand here next past m event told may.0 may.1 may.2 ground.0.1 (record { tables = ground.0.0.0.facts; hears = ground.1 }) owes

pub kept_walk : (First : List Entry → Entry → Type 0) → WalkOver KnowsHeard First (Allows may_hold) KnowsUnowed
kept_walk First = record {
  step = λ here next past m one may ground stand known. step_stands here next past m one may ground known;
  turn = λ here next past m turns ground known. known;
}
