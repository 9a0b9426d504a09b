-- What is told of the units that the chip writes at each event outside the host: frames of itself, which the format carries; and where it takes bytes an answer too for each item
-- that is due one.
use Rattle.std.proofs.Common.{◌≡◌, ℕ, ◌+◌, ◌-◌, ◌==◌, Bool, true, false, if◌then◌else◌, List, [], ◌∷◌, ◌++◌, map, drop, refl, sym, ap, ap₂, subst, ◌∙◌, append-nil, arith}
use Rattle.std.specs.Prelude.{Option, Some, None, slice_get}
use Rattle.std.specs.List.{AllByRecursion}
use Rattle.zw_base.proofs.Each.{all-append, all-left, all-weaker}
use Rattle.serial_frame.specs.Frame.{FrameParts}
use Rattle.serial_frame.specs.Items.{IsUnit}
use Rattle.serial_frame.specs.Stream.{Rest, after_tick}
use Rattle.serial_frame.specs.declared.item.Item.{Item}
use Rattle.serial_frame.specs.declared.item.Item.TheVariants.{Good, Refused}
use Rattle.serial_frame.specs.declared.item.Refusal.TheVariants.{Stray, BadLength, BadSum, BadKind, Aborted}
use Rattle.serial_frame.specs.declared.unit.Unit.{Unit as LineUnit}
use Rattle.serial_frame.specs.declared.unit.Unit.TheVariants.{Ack, Nak, Can, Framed}
use Rattle.serial_link.specs.declared.turn.Turn.{Turn}
use Rattle.serial_link.specs.declared.turn.Turn.TheVariants.{Idle, Copied, Paused}
use Rattle.serial_pipes.specs.State.{WayState}
use Rattle.serial_pipes.specs.Events.{Takes}
use Rattle.serial_pipes.specs.Events as way
use Rattle.route_table.specs.declared.route.Route.{Route}
use Rattle.chip_functions.specs.declared.request.Request.{Request}
use Rattle.chip_functions.specs.declared.request.Request.TheVariants.{GetInitData, GetCapabilities, SendData, GetVersion, SendDataAbort, MemoryGetId, GetNodeProtocolInfo, AddNode, RequestNodeInfo, IsFailedNode, GetRoutingInfo}
use Rattle.chip_functions.specs.declared.notice.TransmitStatus.{TransmitStatus}
use Rattle.chip_sim.specs.Waiting.{PortState, is_full, queued_at, queued_outs_at, next_at}
use Rattle.chip_sim.specs.State.{ChipState}
use Rattle.chip_sim.specs.Answers.{takes}
use Rattle.chip_sim.specs.Requests.{passed, asked, answer_outs, given_outs, reply_to, performed_outs, sent, requested_outs, heard, judged_outs, callback_frame}
use Rattle.chip_sim.specs.Events.{ChipEvent, Judged, Ticked, Heard as chip_hears, Done, Informed, after, outs, collides, ended, ended_outs}
use Rattle.chip_sim.specs.Did.{MayAll as MayAllOfChip, outs_all, judged_all}
use Rattle.chip_sim.specs.Link.{chip_units}
use Rattle.chip_sim.specs.declared.out.Sending.{Sending}
use Rattle.chip_sim.specs.declared.out.ChipOut.{ChipOut}
use Rattle.chip_sim.specs.declared.out.ChipOut.TheVariants.{Write, OnAir, NoRoute, AskInfo, Full}
use Rattle.proof_world.specs.device_sim.State.{State}
use Rattle.proof_world.specs.device_sim.Event.{DeviceEvent, Ticks, Wakes, Sets}
use Rattle.air_frames.specs.Ages.{refusal_of}
use Rattle.air_frames.specs.declared.ages.Refusal.{Refusal as RepeatRefusal}
use Rattle.air_frames.specs.declared.ages.Refusal.TheVariants.{NeverSent, Forgotten, Stale}
use Rattle.proof_walk.specs.mesh_sim.declared.event.AirEvent.{AirEvent}
use Rattle.proof_walk.specs.mesh_sim.declared.event.AirEvent.TheVariants as air_event
use Rattle.proof_walk.specs.mesh_sim.Air.{AirState}
use Rattle.proof_walk.specs.mesh_sim.Fates.{place_of}
use Rattle.proof_walk.specs.mesh_sim.Steps.{AirStep, mesh_after, mesh_outs}
use Rattle.proof_walk.specs.mesh_sim.Steps as mesh
use Rattle.zw_words.specs.declared.side.Side.TheVariants.{Host as by_host, Chip as by_chip}
use Rattle.zw_text.specs.declared.entry.Entry.{Entry}
use Rattle.zw_text.specs.declared.entry.Entry.TheVariants as entry
use Rattle.law_wire.specs.law_transcript.Restarts.{begins_refused}
use Rattle.proof_walk.specs.outside_model.State.{OuterState, Outside, Outcome, silent, tells, each, with_chip}
use Rattle.proof_walk.specs.outside_model.Chip.{put_out, chip_does, chip_ticks}
use Rattle.proof_walk.specs.outside_model.Results.{device_at}
use Rattle.proof_walk.specs.outside_model.Air.{deals, sent_entries, change_entries, change_at}
use Rattle.proof_walk.specs.outside_model.Devices.{acts_at, acts_by_hand, shown_entries}
use Rattle.proof_walk.specs.outside_model.Events.{OuterEvent, Chip_takes, Arrives, Gives, Device_ticks, Chip_ticks, Repeats, Wakes_device, Sets_device, Shows, Joins, Discovers, Links, Loses, Loses_acks, Marks_loss, Marks_change, Collides_next, Stalls, Cuts, mesh_of, outcome, steps, repeats}
use Rattle.proof_walk.proofs.Entered.{IsShown, IsChange, all_shown, change_entered}
use Rattle.proof_walk.proofs.Results.{IsSameChip, IsGiven, Gives as GivesSo, ends_go, gives_go, to_chip_goes}
use Rattle.proof_world.specs.proof_serial.Way.{written_all}
use Rattle.proof_world.specs.proof_serial.Chip.{IsFrame as FitsFrame, HasFrame, HasFrames}
use Rattle.proof_world.proofs.Frames.{events_fit}
use Rattle.proof_world.proofs.ChipWays.{units-append, written_all-append}
use Rattle.proof_walk.specs.Outside.{IsOfAir}
use Rattle.proof_walk.proofs.Linking.{acts_of_air, IsFed}
use Rattle.proof_walk.proofs.Times.{does_chip}
use Rattle.proof_line.specs.Pipes.{IsByHand}
use Rattle.proof_line.specs.Rooms.{answer_due, answers_due}
use Rattle.proof_line.proofs.Holding.{TellsNothing}
use Rattle.proof_line.proofs.Chipping.{IsFrame, ArePut, IsPut, fed_put, queued_put, written_put, air_apart, shown_apart}
use Rattle.proof_line.proofs.Tellings.{Tells, IsBeside, tells_both, tells_one, tells_weaker, answers_all, answers_both}

-- ---- what is told of all that the chip puts out

pub beside_air : (e : Entry) → IsOfAir e → IsBeside e
beside_air e of_air = (air_apart e of_air, by e of_air)
  where
    by : (e : Entry) → IsOfAir e → begins_refused (e ∷ []) ≡ false
    by (entry.Refused refusal) of_air = absurd of_air
    by e of_air = refl

-- these units are told and go to the host, and nothing else of the line changes
pub record PutTells (o : OuterState) (x : Outcome) (units : List LineUnit) : Type 0 where
  pub told : Tells IsBeside by_chip o.to_host units x.entries
  pub to_host : x.outer.to_host ≡ written_all o.to_host units
  pub to_chip : x.outer.to_chip ≡ o.to_chip

both_tell : (o : OuterState) (x y : Outcome) (us vs : List LineUnit) → PutTells o x us → PutTells x.outer y vs → PutTells o (record { outer = y.outer; entries = x.entries ++ y.entries }) (us ++ vs)
both_tell o x y us vs first later = record {
  told = tells_both IsBeside by_chip o.to_host us vs x.entries y.entries first.told (subst (λ (w : WayState). Tells IsBeside by_chip w vs y.entries) first.to_host later.told);
  to_host = later.to_host ∙ ap (λ (w : WayState). written_all w vs) first.to_host ∙ sym (written_all-append o.to_host us vs);
  to_chip = later.to_chip ∙ first.to_chip;
}

put_tells : (o : OuterState) (out : ChipOut) → PutTells o (put_out o out) (chip_units (out ∷ []))
put_tells o (Write unit) = record { told = tells_one IsBeside by_chip o.to_host unit; to_host = refl; to_chip = refl }
put_tells o (OnAir to route payload) = record { told = ((tt, refl), tt); to_host = refl; to_chip = refl }
put_tells o NoRoute = record { told = tt; to_host = refl; to_chip = refl }
put_tells o (AskInfo node) = record { told = tt; to_host = refl; to_chip = refl }
put_tells o Full = record { told = ((tt, refl), tt); to_host = refl; to_chip = refl }

puts_tell : (o : OuterState) (puts : List ChipOut) → PutTells o (each put_out o puts) (chip_units puts)
puts_tell o [] = record { told = tt; to_host = refl; to_chip = refl }
puts_tell o (out ∷ puts) =
    subst (λ (l : List LineUnit). PutTells o (each put_out o (out ∷ puts)) l) (sym (units-append (out ∷ []) puts))
    (both_tell o (put_out o out) (each put_out (put_out o out).outer puts) (chip_units (out ∷ [])) (chip_units puts) (put_tells o out) (puts_tell (put_out o out).outer puts))

pub does_tell : (o : OuterState) (event : ChipEvent) → PutTells o (chip_does o event) (chip_units (outs o.chip.state event))
unfolding chip_does
does_tell o event =
    let got = puts_tell (with_chip o (after o.chip.state event)) (outs o.chip.state event) in
    record { told = got.told; to_host = got.to_host; to_chip = got.to_chip }

-- events of the chip one after another
pub each_tell : (o : OuterState) (events : List ChipEvent) → PutTells o (each chip_does o events) (chip_units (outs_all o.chip.state events))
each_tell o [] = record { told = tt; to_host = refl; to_chip = refl }
each_tell o (event ∷ events) =
    let s : ChipState = o.chip.state in
    let one : Outcome = chip_does o event in
    let rest = subst (λ (t : ChipState). PutTells one.outer (each chip_does one.outer events) (chip_units (outs_all t events))) (does_chip o event) (each_tell one.outer events) in
    subst (λ (l : List LineUnit). PutTells o (each chip_does o (event ∷ events)) l) (sym (units-append (outs s event) (outs_all (after s event) events)))
    (both_tell o one (each chip_does one.outer events) (chip_units (outs s event)) (chip_units (outs_all (after s event) events)) (does_tell o event) rest)

-- ---- frames alone

pub put_unanswered : (puts : List ChipOut) → ArePut IsFrame puts → answers_all (chip_units puts) ≡ 0
put_unanswered [] are = refl
put_unanswered (Write Ack ∷ puts) are = absurd are.0
put_unanswered (Write Nak ∷ puts) are = absurd are.0
put_unanswered (Write Can ∷ puts) are = absurd are.0
put_unanswered (Write (Framed f) ∷ puts) are = let rest = put_unanswered puts are.1 in omega (arith, rest)
put_unanswered (OnAir to route payload ∷ puts) are = put_unanswered puts are.1
put_unanswered (NoRoute ∷ puts) are = put_unanswered puts are.1
put_unanswered (AskInfo node ∷ puts) are = put_unanswered puts are.1
put_unanswered (Full ∷ puts) are = put_unanswered puts are.1

given_put : (s : ChipState) (f : Option FrameParts) → ArePut IsFrame (given_outs s f)
given_put s None = tt
given_put s (Some f) = queued_put s.port.side.turn s.port f

sent_put : (n : ℕ) (payload : List ℕ) (way : Option Route) → ArePut IsFrame (sent n payload way)
sent_put n payload None = (tt, tt)
sent_put n payload (Some route) = (tt, tt)

taken_put : (b : Bool) (n : ℕ) (payload : List ℕ) (way : Option Route) → ArePut IsFrame (if b then sent n payload way else [])
taken_put true n payload way = sent_put n payload way
taken_put false n payload way = tt

performed_put : (request : Request) (s : ChipState) (way : Option Route) → ArePut IsFrame (performed_outs request s way)
performed_put GetInitData s way = tt
performed_put GetCapabilities s way = tt
performed_put (SendData n payload options id) s way = taken_put (takes s n payload) n payload way
performed_put GetVersion s way = tt
performed_put SendDataAbort s way = tt
performed_put MemoryGetId s way = tt
performed_put (GetNodeProtocolInfo n) s way = tt
performed_put (AddNode mode id) s way = tt
performed_put (RequestNodeInfo n) s way = (tt, tt)
performed_put (IsFailedNode n) s way = tt
performed_put (GetRoutingInfo n x y z) s way = tt

requested_put : (request : Option Request) (s : ChipState) (way : Option Route) → ArePut IsFrame (requested_outs request s way)
requested_put None s way = tt
requested_put (Some request) s way =
    all-append (IsPut IsFrame) (given_outs s (reply_to s request)) (performed_outs request s way) (given_put s (reply_to s request)) (performed_put request s way)

judged_put : (f : Option FrameParts) (s : ChipState) (way : Option Route) → ArePut IsFrame (judged_outs f s way)
judged_put None s way = written_put (next_at s.port.side.turn s.port.waiting)
judged_put (Some f) s way = requested_put (asked f) s way

answer_is : (collides : Bool) (item : Item) → answers_all (chip_units (answer_outs collides item)) ≡ answer_due item
answer_is collides (Good Ack) = refl
answer_is collides (Good Nak) = refl
answer_is collides (Good Can) = refl
answer_is true (Good (Framed f)) = refl
answer_is false (Good (Framed f)) = refl
answer_is collides (Refused (Stray x)) = refl
answer_is collides (Refused (BadLength n)) = refl
answer_is collides (Refused (BadSum want got)) = refl
answer_is collides (Refused (BadKind x)) = refl
answer_is collides (Refused Aborted) = refl

-- one answer to each item that is due one
pub judged_answers : (s : ChipState) (ways : List (Item × Option Route)) → answers_all (chip_units (outs_all s (judged_all ways))) ≡ answers_due (map (λ (one : Item × Option Route). one.0) ways)
judged_answers s [] = refl
judged_answers s (way ∷ ways) =
    let later : ChipState = after s (Judged way.0 way.1) in
    let answer : List ChipOut = answer_outs (collides s) way.0 in
    let others : List ChipOut = judged_outs (passed (collides s) way.0) (heard s way.0) way.1 in
    let here : answers_all (chip_units (answer ++ others)) ≡ answer_due way.0 =
    ap (λ (l : List LineUnit). answers_all l) (units-append answer others) ∙ answers_both (chip_units answer) (chip_units others)
    ∙ ap₂ (λ (a b : ℕ). a + b) (answer_is (collides s) way.0) (put_unanswered others (judged_put (passed (collides s) way.0) (heard s way.0) way.1))
    ∙ plus_none (answer_due way.0) in
    ap (λ (l : List LineUnit). answers_all l) (units-append (answer ++ others) (outs_all later (judged_all ways)))
    ∙ answers_both (chip_units (answer ++ others)) (chip_units (outs_all later (judged_all ways)))
    ∙ ap₂ (λ (a b : ℕ). a + b) here (judged_answers later ways)
  where
    plus_none : (n : ℕ) → n + 0 ≡ n
    plus_none n = omega arith

-- ---- of itself

-- the format carries these units
abbrev pub Fit : List LineUnit → Type 0
Fit units = AllByRecursion IsUnit units

-- where the frame on the line and those that wait are so once an event has happened, they were, and so is what it wrote
queued_back : (turn : Turn) (p : PortState) (f : FrameParts) → p.side.turn ≡ turn → HasFrames (queued_at turn p f) → HasFrames p × Fit (chip_units (queued_outs_at turn p f))
queued_back Idle p f is has = (record { turn = subst HasFrame (sym is) tt; waiting = has.waiting }, (has.turn, tt))
queued_back (Copied g copies ticks) p f is has = by (is_full p.waiting) has
  where
    by : (b : Bool) → HasFrames (if b then p else record { side = p.side; waiting = p.waiting ++ f ∷ [] }) → HasFrames p × Fit (chip_units (if b then Full ∷ [] else []))
    by true has = (has, tt)
    by false has = (record { turn = has.turn; waiting = all-left FitsFrame p.waiting (f ∷ []) has.waiting }, tt)
queued_back (Paused g copies ticks) p f is has = by (is_full p.waiting) has
  where
    by : (b : Bool) → HasFrames (if b then p else record { side = p.side; waiting = p.waiting ++ f ∷ [] }) → HasFrames p × Fit (chip_units (if b then Full ∷ [] else []))
    by true has = (has, tt)
    by false has = (record { turn = has.turn; waiting = all-left FitsFrame p.waiting (f ∷ []) has.waiting }, tt)

ended_back : (sending : Option Sending) (s : ChipState) (status : TransmitStatus) → HasFrames (ended sending s status).port → HasFrames s.port × Fit (chip_units (ended_outs sending s status))
ended_back None s status has = (has, tt)
ended_back (Some sending) s status has = queued_back s.port.side.turn s.port (callback_frame sending status) refl has

pub given_back : (s : ChipState) (event : ChipEvent) → IsGiven event → HasFrames (after s event).port → HasFrames s.port × Fit (chip_units (outs s event))
given_back s (chip_hears n payload) given has = queued_back s.port.side.turn s.port _ refl has
given_back s (Done status) given has = by (s.aborted == 0) has
  where
    by : (b : Bool) → HasFrames (if b then ended s.sending s status else record s { aborted = s.aborted - 1 }).port → HasFrames s.port × Fit (chip_units (if b then ended_outs s.sending s status else []))
    by true has = ended_back s.sending s status has
    by false has = (has, tt)
given_back s (Informed n profile) given has = queued_back s.port.side.turn s.port _ refl has
given_back s event given has = absurd given

fed_given : (event : ChipEvent) → IsGiven event → IsFed event
fed_given (chip_hears n payload) given = tt
fed_given (Done status) given = tt
fed_given (Informed n profile) given = tt
fed_given event given = absurd given

-- the frames that it writes, which the format carries where all that the chip then has are so
pub record Telling (o : OuterState) (x : Outcome) : Type 0 where
  pub units : List LineUnit
  pub puts : PutTells o x units
  pub frames : answers_all units ≡ 0
  pub fit : HasFrames x.outer.chip.state.port → HasFrames o.chip.state.port × Fit units

-- nothing of the line is told
still_tells : (o : OuterState) (x : Outcome) → AllByRecursion IsBeside x.entries → x.outer.to_host ≡ o.to_host → x.outer.to_chip ≡ o.to_chip → x.outer.chip.state.port ≡ o.chip.state.port → Telling o x
still_tells o x beside to_host to_chip port =
    record { units = []; puts = record { told = beside; to_host = to_host; to_chip = to_chip }; frames = refl; fit = λ has. (subst HasFrames port has, tt) }

both_telling : (o : OuterState) (x y : Outcome) → Telling o x → Telling x.outer y → Telling o (record { outer = y.outer; entries = x.entries ++ y.entries })
both_telling o x y first later = record {
  units = first.units ++ later.units;
  puts = both_tell o x y first.units later.units first.puts later.puts;
  frames = answers_both first.units later.units ∙ ap₂ (λ (a b : ℕ). a + b) first.frames later.frames;
  fit = λ has. let then_has = later.fit has in let first_has = first.fit then_has.0 in (first_has.0, all-append IsUnit first.units later.units first_has.1 then_has.1);
}

given_tells : (o : OuterState) (event : ChipEvent) → IsGiven event → Telling o (chip_does o event)
given_tells o event given = record {
  units = chip_units (outs o.chip.state event);
  puts = does_tell o event;
  frames = put_unanswered (outs o.chip.state event) (fed_put o.chip.state event (fed_given event given));
  fit = λ has. given_back o.chip.state event given (subst (λ (s : ChipState). HasFrames s.port) (does_chip o event) has);
}

results : GivesSo Telling
results = record {
  still = λ o p is. still_tells o (silent p) tt is.to_host is.to_chip (ap (λ (s : ChipState). s.port) is.chip);
  both = λ o first next one later. both_telling o first (next first.outer) one (later first.outer);
  later = later_tells;
  does = given_tells;
  forgotten = λ o a b. still_tells o _ ((tt, refl), tt) refl refl refl;
}
  where
    later_tells : (o p : OuterState) (x : Outcome) → IsSameChip o p → Telling p x → Telling o x
    later_tells o p x is telling = record {
      units = telling.units;
      puts = record {
        told = subst (λ (w : WayState). Tells IsBeside by_chip w telling.units x.entries) is.to_host telling.puts.told;
        to_host = telling.puts.to_host ∙ ap (λ (w : WayState). written_all w telling.units) is.to_host;
        to_chip = telling.puts.to_chip ∙ is.to_chip;
      };
      frames = telling.frames;
      fit = λ has. let got = telling.fit has in (subst (λ (s : ChipState). HasFrames s.port) is.chip got.0, got.1);
    }

-- ---- the air and the devices

pub change_of_air : (e : Entry) → IsChange e → IsOfAir e
change_of_air (entry.Dev node by setting) change = tt
change_of_air e change = absurd change

-- an event there
abbrev pub IsArriving : OuterEvent → Type 0
IsArriving (Arrives drawn route) = Unit {0}
IsArriving (Gives route) = Unit {0}
IsArriving (Device_ticks place drawn route) = Unit {0}
IsArriving event = ⊥

-- What goes on through all that the chip may be given, where nothing but entries of the air is told, and whatever the air is, goes on through what happens there.
module _ (Goes : OuterState → Outcome → Type 0) (law : GivesSo Goes)
    (of_air : (o : OuterState) (x : Outcome) → AllByRecursion IsOfAir x.entries → x.outer.to_host ≡ o.to_host → x.outer.to_chip ≡ o.to_chip → x.outer.chip.state.port ≡ o.chip.state.port → Goes o x)
    (in_air : (o : OuterState) (air : AirState) (x : Outcome) → Goes (record o { air = air }) x → Goes o x) where
  air_goes : (o : OuterState) (told : List Entry) → AllByRecursion IsOfAir told → Goes o (tells o told)
  air_goes o told all = of_air o (tells o told) all refl refl refl

  deals_go : (devices : List State) (o : OuterState) (event : AirEvent) → Goes o (deals devices o event)
  deals_go devices o (air_event.Heard frame) = air_goes o (entry.Heard frame ∷ []) (tt, tt)
  deals_go devices o (air_event.Lost frame) = air_goes o (entry.Lost frame ∷ []) (tt, tt)
  deals_go devices o (air_event.Unheard frame) = air_goes o (entry.Unheard frame ∷ []) (tt, tt)
  deals_go devices o (air_event.Sent frame from to route payload) = air_goes o (sent_entries (air_event.Sent frame from to route payload)) (tt, tt)
  deals_go devices o (air_event.Changed node at) =
      let change = change_at (device_at devices (place_of node devices)) at in
      of_air o (deals devices o (air_event.Changed node at)) (all-weaker IsChange IsOfAir change_of_air (change_entries node change) (change_entered node change)) refl refl refl
  deals_go devices o (air_event.ToChip frame from payload) = to_chip_goes Goes law o from payload
  deals_go devices o (air_event.Done frame status dead) = ends_go Goes law o status dead

  all_deal : (devices : List State) (events : List AirEvent) (o : OuterState) → Goes o (each (deals devices) o events)
  all_deal devices [] o = of_air o (silent o) tt refl refl refl
  all_deal devices (event ∷ events) o =
      law.both o (deals devices o event) (λ later. each (deals devices) later events) (deals_go devices o event) (λ later. all_deal devices events later)

  pub steps_go : (w : Outside) (step : AirStep) → Goes w.outer (steps w step)
  steps_go w step =
      in_air w.outer (mesh_after (mesh_of w) step).air (steps w step)
      (all_deal (mesh_after (mesh_of w) step).devices (mesh_outs (mesh_of w) step) (record w.outer { air = (mesh_after (mesh_of w) step).air }))

  unfoldable pub at_goes : (o : OuterState) (found : Option State) (event : DeviceEvent) (route : Option Route) → Goes o (acts_at o found event route)
  at_goes o None event route = of_air o (silent o) tt refl refl refl
  at_goes o (Some device) event route = of_air o (acts_at o (Some device) event route) (acts_of_air o device event route) refl refl refl

  -- in a tick, before the chip
  pub arriving_goes : (w : Outside) (event : OuterEvent) → IsArriving event → Goes w.outer (outcome w event)
  unfolding outcome
  arriving_goes w (Arrives drawn route) arriving = steps_go w (mesh.Arrives drawn route)
  arriving_goes w (Gives route) arriving = gives_go Goes law w.outer w.devices w.outer.due route
  arriving_goes w (Device_ticks place drawn route) arriving = at_goes w.outer (slice_get w.devices place) (Ticks drawn) route
  arriving_goes w event arriving = absurd arriving

still_air : (o : OuterState) (x : Outcome) → AllByRecursion IsOfAir x.entries → x.outer.to_host ≡ o.to_host → x.outer.to_chip ≡ o.to_chip → x.outer.chip.state.port ≡ o.chip.state.port → Telling o x
still_air o x of_air to_host to_chip port = still_tells o x (all-weaker IsOfAir IsBeside beside_air x.entries of_air) to_host to_chip port

in_air_tells : (o : OuterState) (air : AirState) (x : Outcome) → Telling (record o { air = air }) x → Telling o x
in_air_tells o air x got = record {
  units = got.units;
  puts = record { told = got.puts.told; to_host = got.puts.to_host; to_chip = got.puts.to_chip };
  frames = got.frames;
  fit = got.fit;
}

-- ---- events outside the host

-- the units that the chip writes at one, told among such entries; its frames fit where those that it then has do
pub record OutcomeTells (Is : Entry → Type 0) (o : OuterState) (x : Outcome) : Type 0 where
  pub units : List LineUnit
  pub told : Tells Is by_chip o.to_host units x.entries
  pub to_host : x.outer.to_host.bytes ≡ (written_all o.to_host units).bytes
  pub to_chip : x.outer.to_chip.bytes ≡ o.to_chip.bytes
  pub frames : answers_all units ≡ 0
  pub fit : HasFrames x.outer.chip.state.port → Fit units

strictly : (o : OuterState) (x : Outcome) → Telling o x → OutcomeTells IsBeside o x
strictly o x telling = record {
  units = telling.units;
  told = telling.puts.told;
  to_host = ap (λ (y : WayState). y.bytes) telling.puts.to_host;
  to_chip = ap (λ (y : WayState). y.bytes) telling.puts.to_chip;
  frames = telling.frames;
  fit = λ has. (telling.fit has).1;
}

loosely : (o : OuterState) (x : Outcome) → Telling o x → OutcomeTells TellsNothing o x
loosely o x telling =
    let tells = strictly o x telling in
    record {
      units = tells.units;
      told = tells_weaker IsBeside TellsNothing (λ e beside. beside.0) by_chip o.to_host tells.units x.entries tells.told;
      to_host = tells.to_host;
      to_chip = tells.to_chip;
      frames = tells.frames;
      fit = tells.fit;
    }

-- nothing of the line but a refusal is told, and no byte moves
pub quietly : (o : OuterState) (x : Outcome) → AllByRecursion TellsNothing x.entries → x.outer.to_host.bytes ≡ o.to_host.bytes → x.outer.to_chip.bytes ≡ o.to_chip.bytes → OutcomeTells TellsNothing o x
quietly o x told to_host to_chip = record { units = []; told = told; to_host = to_host; to_chip = to_chip; frames = refl; fit = λ has. tt }

pub arriving_tells : (w : Outside) (event : OuterEvent) → IsArriving event → OutcomeTells IsBeside w.outer (outcome w event)
arriving_tells w event arriving = strictly w.outer (outcome w event) (arriving_goes Telling results still_air in_air_tells w event arriving)

-- a tick of the chip
pub tick_fit : (s : ChipState) → HasFrames s.port → Fit (chip_units (outs s Ticked))
tick_fit s has = subst (λ (l : List ChipOut). Fit (chip_units l)) (append-nil (outs s Ticked)) (events_fit s (Ticked ∷ []) has (tt, tt))

ticks_tell : (o : OuterState) → HasFrames o.chip.state.port → OutcomeTells IsBeside o (chip_ticks o)
ticks_tell o has =
    let s : ChipState = o.chip.state in
    let ticked : OuterState = record o { chip = record { decoder = after_tick o.chip.decoder; state = s } } in
    let got = does_tell ticked Ticked in
    record {
      units = chip_units (outs s Ticked);
      told = got.told;
      to_host = ap (λ (x : WayState). x.bytes) got.to_host;
      to_chip = ap (λ (x : WayState). x.bytes) got.to_chip;
      frames = put_unanswered (outs s Ticked) (fed_put s Ticked tt);
      fit = λ later. tick_fit s has;
    }

pub tick_tells : (w : Outside) → HasFrames w.outer.chip.state.port → OutcomeTells IsBeside w.outer (outcome w Chip_ticks)
unfolding outcome
tick_tells w has = ticks_tell w.outer has

-- by hand
repeats_tell : (w : Outside) (refused : Option RepeatRefusal) (step : AirStep) → OutcomeTells TellsNothing w.outer (repeats w refused step)
repeats_tell w None step = loosely w.outer (steps w step) (steps_go Telling results still_air in_air_tells w step)
repeats_tell w (Some NeverSent) step = quietly w.outer (repeats w (Some NeverSent) step) (tt, tt) refl refl
repeats_tell w (Some Forgotten) step = quietly w.outer (repeats w (Some Forgotten) step) (tt, tt) refl refl
repeats_tell w (Some (Stale later)) step = quietly w.outer (repeats w (Some (Stale later)) step) (tt, tt) refl refl

hand_tells : (w : Outside) (place : Option ℕ) (event : DeviceEvent) (route : Option Route) → OutcomeTells TellsNothing w.outer (acts_by_hand w.outer w.devices place event route)
hand_tells w None event route = quietly w.outer (acts_by_hand w.outer w.devices None event route) (tt, tt) refl refl
hand_tells w (Some place) event route = loosely w.outer (acts_at w.outer (slice_get w.devices place) event route) (at_goes Telling results still_air in_air_tells w.outer (slice_get w.devices place) event route)

pub line_tells : (w : Outside) (event : OuterEvent) → IsByHand event → OutcomeTells TellsNothing w.outer (outcome w event)
unfolding outcome
line_tells w (Repeats number drawn route) by_hand = repeats_tell w (refusal_of w.outer.air.frames number) (mesh.Repeats number drawn route)
line_tells w (Wakes_device node route) by_hand = hand_tells w (place_of node w.devices) Wakes route
line_tells w (Sets_device node value route) by_hand = hand_tells w (place_of node w.devices) (Sets value) route
line_tells w (Shows node) by_hand =
    let device : Option State = device_at w.devices (place_of node w.devices) in
    quietly w.outer (outcome w (Shows node)) (all-weaker IsShown TellsNothing shown_apart (shown_entries node device) (all_shown node device)) refl refl
line_tells w (Joins node) by_hand = quietly w.outer (outcome w (Joins node)) tt refl refl
line_tells w Discovers by_hand = quietly w.outer (outcome w Discovers) tt refl refl
line_tells w (Links a b live) by_hand = quietly w.outer (outcome w (Links a b live)) tt refl refl
line_tells w (Loses count) by_hand = quietly w.outer (outcome w (Loses count)) tt refl refl
line_tells w (Loses_acks count) by_hand = quietly w.outer (outcome w (Loses_acks count)) tt refl refl
line_tells w (Marks_loss by_host) by_hand = quietly w.outer (outcome w (Marks_loss by_host)) tt refl refl
line_tells w (Marks_loss by_chip) by_hand = quietly w.outer (outcome w (Marks_loss by_chip)) tt refl refl
line_tells w (Marks_change by_host garble) by_hand = quietly w.outer (outcome w (Marks_change by_host garble)) tt refl refl
line_tells w (Marks_change by_chip garble) by_hand = quietly w.outer (outcome w (Marks_change by_chip garble)) tt refl refl
line_tells w Collides_next by_hand = quietly w.outer (outcome w Collides_next) tt refl refl
line_tells w (Stalls ticks) by_hand = quietly w.outer (outcome w (Stalls ticks)) tt refl refl
line_tells w (Cuts size) by_hand = quietly w.outer (outcome w (Cuts size)) tt refl refl
line_tells w event by_hand = absurd by_hand

-- ---- where it takes bytes

-- what it writes as it judges the items
pub record TakesTell (w : Outside) (count : ℕ) (rest : Rest) (ways : List (Item × Option Route)) : Type 0 where
  pub units : List LineUnit
  pub told : Tells IsBeside by_chip w.outer.to_host units (outcome w (Chip_takes count rest ways)).entries
  pub to_host : (outcome w (Chip_takes count rest ways)).outer.to_host ≡ written_all w.outer.to_host units
  pub to_chip : (outcome w (Chip_takes count rest ways)).outer.to_chip.bytes ≡ drop count w.outer.to_chip.bytes
  pub answers : answers_all units ≡ answers_due (map (λ (one : Item × Option Route). one.0) ways)
  pub none : ways ≡ [] → units ≡ []
  pub fit : Fit units

pub takes_tell : (w : Outside) (count : ℕ) (rest : Rest) (ways : List (Item × Option Route)) → HasFrames w.outer.chip.state.port → MayAllOfChip w.outer.chip.state (judged_all ways)
    → TakesTell w count rest ways
unfolding outcome
takes_tell w count rest ways has may =
    let s : ChipState = w.outer.chip.state in
    let started : OuterState = record w.outer { to_chip = way.after w.outer.to_chip (Takes count); chip = record { decoder = rest; state = s } } in
    let got = each_tell started (judged_all ways) in
    record {
      units = chip_units (outs_all s (judged_all ways));
      told = got.told;
      to_host = got.to_host;
      to_chip = ap (λ (x : WayState). x.bytes) got.to_chip;
      answers = judged_answers s ways;
      none = λ is. ap (λ (l : List (Item × Option Route)). chip_units (outs_all s (judged_all l))) is;
      fit = events_fit s (judged_all ways) has may;
    }
