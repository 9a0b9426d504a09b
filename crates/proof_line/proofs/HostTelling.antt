-- What is told of the units that the host writes, with its notes; and which units these are: answers where it takes bytes, one for each item that is due one, and else frames.
use Rattle.std.proofs.Common.{◌≡◌, ℕ, ◌+◌, Bool, true, false, List, [], ◌∷◌, ◌++◌, refl, sym, ap, ap₂, subst, ◌∙◌, append-nil, append_assoc, arith}
use Rattle.std.proofs.lemmas.Grind.{flat_map-append}
use Rattle.std.specs.Prelude.{Option, Some, None, Result, Ok, Err}
use Rattle.std.specs.List.{AllByRecursion}
use Rattle.zw_base.proofs.Each.{all-append, all-weaker}
use Rattle.serial_frame.specs.Stream.{Rest}
use Rattle.serial_frame.specs.declared.frame.Kind.{Kind}
use Rattle.serial_frame.specs.declared.frame.Kind.TheVariants as kind
use Rattle.serial_frame.specs.declared.item.Item.{Item}
use Rattle.serial_frame.specs.declared.item.Item.TheVariants.{Good, Refused}
use Rattle.serial_frame.specs.declared.item.Refusal.TheVariants.{Stray, BadLength, BadSum, BadKind, Aborted}
use Rattle.serial_frame.specs.declared.unit.Unit.{Unit as LineUnit}
use Rattle.serial_frame.specs.declared.unit.Unit.TheVariants.{Ack, Nak, Can, Framed}
use Rattle.serial_link.specs.Rules.{Step, items_of}
use Rattle.serial_link.specs.Calls.{tick_step}
use Rattle.serial_link.specs.declared.turn.Turn.{Turn}
use Rattle.chip_functions.specs.declared.fault.BodyFault.{BodyFault}
use Rattle.chip_functions.specs.declared.response.Response.{Response}
use Rattle.chip_functions.specs.declared.notice.Notice.{Notice}
use Rattle.chip_functions.specs.declared.notice.Notice.TheVariants.{ApplicationCommandHandler, SendData, ApplicationUpdate, AddNode}
use Rattle.chip_functions.specs.declared.notice.Update.{Update}
use Rattle.chip_functions.specs.declared.notice.Update.TheVariants.{Received, RequestFailed}
use Rattle.zw_words.specs.declared.side.Side.TheVariants.{Host as by_host}
use Rattle.zw_text.specs.declared.entry.Entry.{Entry}
use Rattle.zw_text.specs.declared.entry.Entry.TheVariants as entry
use Rattle.law_wire.specs.law_transcript.Restarts.{begins_refused}
use Rattle.host_requests.specs.Events.{RequestsEvent}
use Rattle.host_requests.specs.Events.RequestsEvent.{CallsBack as request_calls_back, Responds as request_responds, Updates as request_updates}
use Rattle.host_node.specs.declared.attempt.Moment.TheVariants.{BetweenTicks}
use Rattle.proof_world.specs.host_model.State.{HostState, command_at}
use Rattle.proof_world.specs.host_model.Sessions.{settings_with}
use Rattle.proof_world.specs.host_model.Events.{HostEvent, Accepts, Cancels, Hears, Line_ticks, Requests_do, Finishes, Offers, Gives, Spends, Spends_unread, Takes_nonce, Unreads, Is_unkept, Reports_old, Works, Notifies, Resends, Hears_value, Has_no_room}
use Rattle.proof_world.specs.host_model.After.{after, is_full, is_held}
use Rattle.proof_world.specs.host_model.Did.{after_all, outs_all}
use Rattle.proof_world.specs.host_model.Outs.{answer_to, request_entries, dropped_if, stored_entries, held_entries, ended_of, outs, answers}
use Rattle.proof_world.specs.host_model.Taking.{told_requests, told_if, InterviewEvents, ResponseEvents, NoticeEvents, FrameEvents, IsFollowed, AreJudged}
use Rattle.proof_world.specs.host_model.declared.out.HostOut.{HostOut}
use Rattle.proof_world.specs.host_model.declared.out.HostOut.TheVariants.{Write, Note}
use Rattle.proof_world.proofs.EventLists.{outs_all-append}
use Rattle.proof_walk.specs.outside_model.State.{OuterState, Outside}
use Rattle.proof_walk.specs.outside_model.Events.{OuterEvent, Host_writes, Host_notes, Host_begins, outcome, happens as happens_outside, entries as entries_outside}
use Rattle.proof_walk.specs.outside_model.Did.{happens_all as happens_all_outside, entries_all as entries_all_outside}
use Rattle.proof_walk.specs.world_model.State.{Machine, begun_in, noted_by, routed, host_does}
use Rattle.proof_walk.specs.world_model.Events.{Host_does, Host_takes, fed, notes, happens, entries}
use Rattle.proof_world.specs.proof_serial.Way.{written_all}
use Rattle.proof_world.specs.proof_serial.Line.{host_unit, host_units, host_writes}
use Rattle.proof_walk.specs.Outside.{IsHostNote}
use Rattle.proof_walk.proofs.HostNotes.{NoteOuts, is_note, all_outs_note}
use Rattle.proof_walk.proofs.Machines.{UnitsAre}
use Rattle.proof_traffic.specs.Links.{host_link_steps, host_link_steps_all}
use Rattle.proof_line.specs.Links.{TicksNot}
use Rattle.proof_world.proofs.Always.{one, none, either}
use Rattle.proof_world.proofs.Heard.{IsOfPayload, payload_of}
use Rattle.proof_line.specs.Rooms.{answer_due, answers_due}
use Rattle.proof_line.proofs.Chipping.{IsFrame}
use Rattle.proof_line.proofs.Hosting.{note_apart}
use Rattle.proof_line.proofs.Tellings.{Tells, IsBeside, tells_both, tells_one, answers_all, answers_both}
use Rattle.proof_line.proofs.Numbering.{Enters, enters_both, enters_none, outer_enters}
use Rattle.proof_traffic.proofs.HostLinks.{no_units as noted_none}

-- ---- what is told

-- whether a tick runs, its number, and until when bytes are stalled
abbrev pub hosts_time : OuterState → Bool × ℕ × ℕ
hosts_time o = (o.in_tick, o.clock, o.stalled_until)

-- the units of these events outside, and the number of the tick; the chip and time stay
pub record HostTells (w later : Outside) (units : List LineUnit) (entries : List Entry) : Type 0 where
  pub told : List Entry
  pub tells : Tells IsBeside by_host w.outer.to_chip units told
  pub enters : Enters w.outer later.outer entries told
  pub time : hosts_time later.outer ≡ hosts_time w.outer
  pub chip : later.outer.chip ≡ w.outer.chip
  pub to_chip : later.outer.to_chip ≡ written_all w.outer.to_chip units
  pub to_host : later.outer.to_host ≡ w.outer.to_host

pub beside_note : (e : Entry) → IsHostNote e → IsBeside e
beside_note e note = (note_apart e (is_note e note), by e note)
  where
    by : (e : Entry) → IsHostNote e → begins_refused (e ∷ []) ≡ false
    by (entry.Refused refusal) note = absurd note
    by e note = refl

-- a note, and what goes on after it
noted_tell : (w : Outside) (e : Entry) → IsBeside e → (events : List OuterEvent) (units : List LineUnit)
    → ((v : Outside) → HostTells v (happens_all_outside v events) units (entries_all_outside v events))
    → HostTells w (happens_all_outside w (Host_notes e ∷ events)) units (entries_all_outside w (Host_notes e ∷ events))
unfolding outcome
noted_tell w e beside events units more =
    let v : Outside = happens_outside w (Host_notes e) in
    let rest = more v in
    record {
      told = (e ∷ []) ++ rest.told;
      tells = tells_both IsBeside by_host w.outer.to_chip [] units (e ∷ []) rest.told (beside, tt) rest.tells;
      enters =
          enters_both w.outer v.outer (happens_all_outside v events).outer (entries_outside w (Host_notes e)) (entries_all_outside v events) (e ∷ []) rest.told refl
          (outer_enters w.outer w.outer (e ∷ []) refl) rest.enters;
      time = rest.time;
      chip = rest.chip;
      to_chip = rest.to_chip;
      to_host = rest.to_host;
    }

-- where a session begins the air learns of it first
begun_tell : (w : Outside) (begun : Option (ℕ × ℕ)) (e : Entry) → IsBeside e → (events : List OuterEvent) (units : List LineUnit)
    → ((v : Outside) → HostTells v (happens_all_outside v events) units (entries_all_outside v events))
    → HostTells w (happens_all_outside w (noted_by begun e ++ events)) units (entries_all_outside w (noted_by begun e ++ events))
unfolding outcome
begun_tell w None e beside events units more = noted_tell w e beside events units more
begun_tell w (Some begun) e beside events units more =
    let v : Outside = happens_outside w (Host_begins begun.0 begun.1) in
    let rest = noted_tell v e beside events units more in
    record { told = rest.told; tells = rest.tells; enters = rest.enters; time = rest.time; chip = rest.chip; to_chip = rest.to_chip; to_host = rest.to_host }

pub outs_tell : (outs : List HostOut) → NoteOuts outs → (w : Outside) → HostTells w (happens_all_outside w (routed outs)) (host_units outs) (entries_all_outside w (routed outs))
unfolding outcome
outs_tell [] are w = record { told = []; tells = tt; enters = enters_none w.outer w.outer refl; time = refl; chip = refl; to_chip = refl; to_host = refl }
outs_tell (Write unit ∷ outs) are w =
    let v : Outside = happens_outside w (Host_writes unit) in
    let rest = outs_tell outs are.1 v in
    record {
      told = (outcome w (Host_writes unit)).entries ++ rest.told;
      tells = tells_both IsBeside by_host w.outer.to_chip (unit ∷ []) (host_units outs) (outcome w (Host_writes unit)).entries rest.told (tells_one IsBeside by_host w.outer.to_chip unit) rest.tells;
      enters =
          enters_both w.outer v.outer (happens_all_outside v (routed outs)).outer (entries_outside w (Host_writes unit)) (entries_all_outside v (routed outs)) (outcome w (Host_writes unit)).entries rest.told refl
          (outer_enters w.outer (outcome w (Host_writes unit)).outer (outcome w (Host_writes unit)).entries refl) rest.enters;
      time = rest.time;
      chip = rest.chip;
      to_chip = rest.to_chip;
      to_host = rest.to_host;
    }
outs_tell (Note e ∷ outs) are w = begun_tell w (begun_in e) e (beside_note e are.0) (routed outs) (host_units outs) (λ v. outs_tell outs are.1 v)

-- notes alone
pub notes_tell : (es : List Entry) → AllByRecursion IsBeside es → (w : Outside) → HostTells w (happens_all_outside w (notes es)) [] (entries_all_outside w (notes es))
notes_tell [] are w = record { told = []; tells = tt; enters = enters_none w.outer w.outer refl; time = refl; chip = refl; to_chip = refl; to_host = refl }
notes_tell (e ∷ es) are w = noted_tell w e are.0 (notes es) [] (λ v. notes_tell es are.1 v)

pub answers_beside : (h : HostState) (event : HostEvent) → AllByRecursion IsBeside (answers h event)
answers_beside h (Accepts order carriage) = ((tt, refl), tt)
answers_beside h (Cancels command) = ((tt, refl), tt)
answers_beside h event = tt

-- notes after what was put out
module _ (w v later : Outside) (units : List LineUnit) (xs ys : List Entry) where
  pub then_tells : HostTells w v units xs → HostTells v later [] ys → HostTells w later units (xs ++ ys)
  then_tells first second =
      let both : units ++ [] ≡ units = append-nil units in
      record {
        told = first.told ++ second.told;
        tells = subst (λ (us : List LineUnit). Tells IsBeside by_host w.outer.to_chip us (first.told ++ second.told)) both
            (tells_both IsBeside by_host w.outer.to_chip units [] first.told second.told first.tells second.tells);
        enters = enters_both w.outer v.outer later.outer xs ys first.told second.told (ap (λ (t : Bool × ℕ × ℕ). t.1) first.time) first.enters second.enters;
        time = second.time ∙ first.time;
        chip = second.chip ∙ first.chip;
        to_chip = second.to_chip ∙ first.to_chip;
        to_host = second.to_host ∙ first.to_host;
      }

-- of itself, or where a line asks for it
pub does_tells : (m : Machine) (event : HostEvent) → HostTells m.outside (happens m (Host_does event)).outside (host_writes m (Host_does event)) (entries m (Host_does event))
unfolding happens entries
does_tells m event =
    let v : Outside = (host_does m (event ∷ [])).outside in
    let es : List Entry = answers m.host.state event in
    then_tells m.outside v (happens_all_outside v (notes es)) (host_units (outs_all m.host.state (event ∷ []))) (entries_all_outside m.outside (routed (outs_all m.host.state (event ∷ []))))
    (entries_all_outside v (notes es)) (outs_tell (outs_all m.host.state (event ∷ [])) (all_outs_note m.host.state (event ∷ [])) m.outside) (notes_tell es (answers_beside m.host.state event) v)

-- where it has taken bytes
pub takes_tells : (m : Machine) (count : ℕ) (rest : Rest) (items : List Item) (events : List HostEvent)
    → HostTells (fed m count rest).outside (happens m (Host_takes count rest items events)).outside (host_writes m (Host_takes count rest items events)) (entries m (Host_takes count rest items events))
unfolding happens entries
takes_tells m count rest items events = outs_tell (outs_all m.host.state events) (all_outs_note m.host.state events) (fed m count rest).outside

-- ---- which units these are

pub units_both : (a b : List HostOut) → host_units (a ++ b) ≡ host_units a ++ host_units b
units_both a b = flat_map-append host_unit a b

-- no answer among frames
pub frames_unanswered : (outs : List HostOut) → UnitsAre IsFrame outs → answers_all (host_units outs) ≡ 0
frames_unanswered [] are = refl
frames_unanswered (Write Ack ∷ outs) are = absurd are.0
frames_unanswered (Write Nak ∷ outs) are = absurd are.0
frames_unanswered (Write Can ∷ outs) are = absurd are.0
frames_unanswered (Write (Framed f) ∷ outs) are = let rest = frames_unanswered outs are.1 in omega (arith, rest)
frames_unanswered (Note e ∷ outs) are = frames_unanswered outs are

-- an event that writes nothing, and at which the link does nothing
abbrev IsMute : HostEvent → Type 0
IsMute event = (h : HostState) → (host_units (outs h event) ≡ []) × (host_link_steps h event ≡ [])

all_mute : (events : List HostEvent) → AllByRecursion IsMute events → (h : HostState) → answers_all (host_units (outs_all h events)) ≡ 0
all_mute [] all h = refl
all_mute (event ∷ events) all h =
    ap (λ (l : List LineUnit). answers_all l) (units_both (outs h event) (outs_all (after h event) events) ∙ ap (λ (l : List LineUnit). l ++ host_units (outs_all (after h event) events)) (all.0 h).0)
    ∙ all_mute events all.1 (after h event)

pub payload_mute : (n : ℕ) (event : HostEvent) → IsOfPayload n event → IsMute event
payload_mute n (Finishes other session id command status wake_request) of_it h =
    (noted_none (entry.Out command (ended_of status) ∷ (stored_entries other (settings_with status (command_at h.commands command)) ++ held_entries other (is_held h other wake_request))), refl)
payload_mute n (Gives other drawn) of_it h = (noted_none (dropped_if (is_full h) other), refl)
payload_mute n (Spends other) of_it h = (refl, refl)
payload_mute n (Spends_unread other payload) of_it h = (refl, refl)
payload_mute n (Takes_nonce other seen text) of_it h = (refl, refl)
payload_mute n (Unreads other payload) of_it h = (refl, refl)
payload_mute n (Is_unkept other) of_it h = (refl, refl)
payload_mute n (Reports_old other id) of_it h = (refl, refl)
payload_mute n (Works other id) of_it h = (refl, refl)
payload_mute n (Offers other) of_it h = (noted_none (dropped_if (is_full h) other), refl)
payload_mute n (Notifies other) of_it h = (refl, refl)
payload_mute n (Resends other payload) of_it h = (noted_none (dropped_if (is_full h) other), refl)
payload_mute n (Hears_value other setting) of_it h = (refl, refl)
payload_mute n (Has_no_room other property) of_it h = (refl, refl)
payload_mute n event of_it h = absurd of_it

told_if_mute : (b : Bool) (event : RequestsEvent) (events : List HostEvent) → events ≡ told_if b event → AllByRecursion IsMute events
told_if_mute true event events is = one IsMute (Requests_do event BetweenTicks) events (λ h. (noted_none (request_entries h event), refl)) is
told_if_mute false event events is = none IsMute events is

response_mute : (r : Result Response BodyFault) (events : List HostEvent) → ResponseEvents r events → AllByRecursion IsMute events
response_mute (Ok r) events is = one IsMute (Requests_do (request_responds r) BetweenTicks) events (λ h. (noted_none (request_entries h (request_responds r)), refl)) is
response_mute (Err fault) events is = none IsMute events is

update_mute : (update : Update) (events : List HostEvent) → events ≡ told_requests (request_updates update) → AllByRecursion IsMute events
update_mute update events is = one IsMute (Requests_do (request_updates update) BetweenTicks) events (λ h. (noted_none (request_entries h (request_updates update)), refl)) is

interview_mute : (update : Update) (brought : Option ℕ) (events : List HostEvent) → InterviewEvents update brought events → AllByRecursion IsMute events
interview_mute (Received n basic generic specific classes) (Some capability) events is = either IsMute _ _ events (λ h. (refl, refl)) (λ h. (refl, refl)) is
interview_mute RequestFailed (Some capability) events is = none IsMute events is
interview_mute (Received n basic generic specific classes) None events is = update_mute (Received n basic generic specific classes) events is
interview_mute RequestFailed None events is = update_mute RequestFailed events is

notice_mute : (h : HostState) (notice : Result Notice BodyFault) (events : List HostEvent) → NoticeEvents h notice events → AllByRecursion IsMute events
notice_mute h (Ok (ApplicationCommandHandler rx_status source payload)) events is =
    all-weaker (IsOfPayload source) IsMute (payload_mute source) events (payload_of source h payload _ events is)
notice_mute h (Ok (SendData callback_id status)) events is =
    one IsMute (Requests_do (request_calls_back callback_id status) BetweenTicks) events (λ g. (noted_none (request_entries g (request_calls_back callback_id status)), refl)) is
notice_mute h (Ok (ApplicationUpdate update)) events is = interview_mute update _ events is
notice_mute h (Ok (AddNode callback_id status information)) events is = none IsMute events is
notice_mute h (Err fault) events is = none IsMute events is

frame_mute : (h : HostState) (k : Kind) (function : ℕ) (body : List ℕ) (events : List HostEvent) → FrameEvents h k function body events → AllByRecursion IsMute events
frame_mute h kind.Response function body events is = response_mute _ events is
frame_mute h kind.Request function body events is = notice_mute h _ events is

followed_mute : (h : HostState) (turn : Turn) (item : Item) (events : List HostEvent) → IsFollowed h turn item events → AllByRecursion IsMute events
followed_mute h turn (Good Ack) events is = told_if_mute _ _ events is
followed_mute h turn (Good Nak) events is = told_if_mute _ _ events is
followed_mute h turn (Good Can) events is = told_if_mute _ _ events is
followed_mute h turn (Good (Framed f)) events is = frame_mute h f.kind f.func f.body events is
followed_mute h turn (Refused refusal) events is = none IsMute events is

answer_is : (item : Item) → answers_all (host_units (answer_to item)) ≡ answer_due item
answer_is (Good Ack) = refl
answer_is (Good Nak) = refl
answer_is (Good Can) = refl
answer_is (Good (Framed f)) = refl
answer_is (Refused (Stray x)) = refl
answer_is (Refused (BadLength n)) = refl
answer_is (Refused (BadSum want got)) = refl
answer_is (Refused (BadKind x)) = refl
answer_is (Refused Aborted) = refl

-- one answer to each item that is due one
pub judged_answers : (h : HostState) (items : List Item) (events : List HostEvent) → AreJudged h items events → answers_all (host_units (outs_all h events)) ≡ answers_due items
judged_answers h [] events is = ap (λ (l : List HostEvent). answers_all (host_units (outs_all h l))) is
judged_answers h (item ∷ items) events (first, rest, are, (more, first_are, followed), others) =
    let heard : HostState = after h (Hears item) in
    let split : host_units (outs_all h (first ++ rest)) ≡ host_units (outs_all h first) ++ host_units (outs_all (after_all h first) rest) =
    ap (λ (l : List HostOut). host_units l) (outs_all-append h first rest) ∙ units_both (outs_all h first) (outs_all (after_all h first) rest) in
    let firsts : answers_all (host_units (outs_all h first)) ≡ answer_due item =
    ap (λ (l : List HostEvent). answers_all (host_units (outs_all h l))) first_are
    ∙ ap (λ (l : List LineUnit). answers_all l) (units_both (answer_to item) (outs_all heard more))
    ∙ answers_both (host_units (answer_to item)) (host_units (outs_all heard more))
    ∙ ap₂ (λ (a b : ℕ). a + b) (answer_is item) (all_mute more (followed_mute heard h.side.turn item more followed) heard)
    ∙ plus_none (answer_due item) in
    ap (λ (l : List HostEvent). answers_all (host_units (outs_all h l))) are
    ∙ ap (λ (l : List LineUnit). answers_all l) split
    ∙ answers_both (host_units (outs_all h first)) (host_units (outs_all (after_all h first) rest))
    ∙ ap₂ (λ (a b : ℕ). a + b) firsts (judged_answers (after_all h first) items rest others)
  where
    plus_none : (n : ℕ) → n + 0 ≡ n
    plus_none n = omega arith

-- ---- what the link does as it takes bytes

steps_muted : (events : List HostEvent) → AllByRecursion IsMute events → (h : HostState) → host_link_steps_all h events ≡ []
steps_muted [] all h = refl
steps_muted (event ∷ events) all h = ap₂ (λ (a b : List Step). a ++ b) (all.0 h).1 (steps_muted events all.1 (after h event))

steps_both : (events more : List HostEvent) (h : HostState) → host_link_steps_all h (events ++ more) ≡ host_link_steps_all h events ++ host_link_steps_all (after_all h events) more
steps_both [] more h = refl
steps_both (event ∷ events) more h =
    ap (λ (l : List Step). host_link_steps h event ++ l) (steps_both events more (after h event))
    ∙ sym (append_assoc (host_link_steps h event) (host_link_steps_all (after h event) events) (host_link_steps_all (after_all h (event ∷ events)) more))

-- it hears the items, in their order
pub judged_items : (h : HostState) (items : List Item) (events : List HostEvent) → AreJudged h items events → items_of (host_link_steps_all h events) ≡ items
judged_items h [] events is = ap (λ (l : List HostEvent). items_of (host_link_steps_all h l)) is
judged_items h (item ∷ items) events (first, rest, are, (more, first_are, followed), others) =
    let heard : HostState = after h (Hears item) in
    let one : List Step = host_link_steps h (Hears item) in
    let firsts : host_link_steps_all h first ≡ one =
    ap (λ (l : List HostEvent). host_link_steps_all h l) first_are ∙ ap (λ (l : List Step). one ++ l) (steps_muted more (followed_mute heard h.side.turn item more followed) heard) in
    ap (λ (l : List HostEvent). items_of (host_link_steps_all h l)) are ∙ ap (λ (l : List Step). items_of l) (steps_both first rest h)
    ∙ ap (λ (l : List Step). items_of (l ++ host_link_steps_all (after_all h first) rest)) firsts ∙ ap (λ (l : List Item). item ∷ l) (judged_items (after_all h first) items rest others)

-- and ticks at none of them
mute_ticks : (h : HostState) (event : HostEvent) → IsMute event → TicksNot event
mute_ticks h Line_ticks mute = absurd (let none : tick_step h.side ∷ [] ≡ [] = (mute h).1 in cc)
mute_ticks h event mute = tt

pub judged_ticks : (h : HostState) (items : List Item) (events : List HostEvent) → AreJudged h items events → AllByRecursion TicksNot events
judged_ticks h [] events is = none TicksNot events is
judged_ticks h (item ∷ items) events (first, rest, are, (more, first_are, followed), others) =
    let later : AllByRecursion TicksNot more = all-weaker IsMute TicksNot (mute_ticks h) more (followed_mute (after h (Hears item)) h.side.turn item more followed) in
    let firsts : AllByRecursion TicksNot first = subst (λ (l : List HostEvent). AllByRecursion TicksNot l) (sym first_are) (tt, later) in
    subst (λ (l : List HostEvent). AllByRecursion TicksNot l) (sym are) (all-append TicksNot first rest firsts (judged_ticks (after_all h first) items rest others))
