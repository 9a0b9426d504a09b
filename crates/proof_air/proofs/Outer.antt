-- What happens outside the host keeps the tie between the air's history and the transcript, and what is heard directly after a `repeat` is fresh.
use Rattle.std.proofs.Common.{◌≡◌, ◌≢◌, ◌<◌, ℕ, ◌+◌, ◌-◌, ◌==◌, Bool, true, false, if◌then◌else◌, List, [], ◌∷◌, ◌++◌, length, refl, sym, ap, ap₂, subst, ◌∙◌, append_assoc, append-nil, nat_lt, get_or-set_other, length-set}
use Rattle.std.proofs.lemmas.Bool.{ne_eqb, ltb-true}
use Rattle.std.specs.Prelude.{Option, Some, None, slice_get, slice_set, slice_index_or}
use Rattle.std.specs.Option.{option_map}
use Rattle.std.specs.List.{flat_map, AllByRecursion}
use Rattle.zw_base.proofs.Each.{all-append, all-weaker}
use Rattle.serial_frame.specs.Stream.{after_tick}
use Rattle.serial_frame.specs.declared.item.Item.{Item}
use Rattle.route_table.specs.declared.route.Route.{Route}
use Rattle.air_frames.specs.declared.frame.Departure.{Departure}
use Rattle.air_frames.specs.declared.frame.Heading.{Heading}
use Rattle.air_frames.specs.declared.frame.Heading.TheVariants.{Outward, Homeward}
use Rattle.air_frames.specs.Flown.{Flown}
use Rattle.air_frames.specs.Frames.{FramesState, next_of, remembered}
use Rattle.air_frames.specs.History.{Mark, Goes, IsOf}
use Rattle.air_frames.proofs.Counted.{IsOf-lands}
use Rattle.serial_pipes.specs.Events.{told}
use Rattle.zw_words.specs.declared.side.Side.TheVariants.{Chip as by_chip}
use Rattle.zw_text.specs.declared.entry.Entry.{Entry}
use Rattle.zw_text.specs.declared.entry.Entry.TheVariants as entry
use Rattle.law_wire.specs.law_transcript.Nodes.{controller}
use Rattle.chip_sim.specs.State.{ChipState, ChipParts}
use Rattle.chip_sim.specs.Events.{ChipEvent, Judged, Ticked, Done, Heard as chip_hears, Informed, Forgets, Joined, after, outs, May as MayOfChip}
use Rattle.chip_sim.specs.declared.out.ChipOut.{ChipOut}
use Rattle.chip_sim.specs.declared.out.ChipOut.TheVariants.{Write, OnAir, NoRoute, AskInfo, Full}
use Rattle.law_wire.specs.device_sim.State.{State}
use Rattle.law_wire.specs.device_sim.Event.{DeviceEvent, Hears, device_after, device_replies}
use Rattle.proof_walk.specs.mesh_sim.declared.event.AirEvent.{AirEvent}
use Rattle.proof_walk.specs.mesh_sim.declared.event.AirEvent.TheVariants as air_event
use Rattle.proof_walk.specs.mesh_sim.Air.{AirState, is_joined, joining}
use Rattle.proof_walk.specs.mesh_sim.Routes.{backwards}
use Rattle.proof_walk.specs.mesh_sim.declared.fate.Fate.{Fate}
use Rattle.proof_walk.specs.mesh_sim.declared.fate.Fate.TheVariants as fate
use Rattle.proof_walk.specs.mesh_sim.Fates.{Mesh, fate_of, place_of, listener_of}
use Rattle.proof_walk.specs.mesh_sim.Steps.{AirStep, landed, acknowledged, status_of, done_of, changed, answers_if, air_hearing, outs_hearing, heard_at, outs_at, arriving_as, arriving, arrival_outs_as, arrival_outs, heard_again, outs_again, repeating_by, repeating, repeat_outs_by, repeat_outs, mesh_after, mesh_outs}
use Rattle.proof_walk.specs.mesh_sim.Steps as mesh
use Rattle.proof_walk.specs.outside_model.State.{OuterState, Outside, outside, Outcome, silent as silently, each, with_chip}
use Rattle.proof_walk.specs.outside_model.Chip.{put_out, chip_does, chip_ticks, shown_via}
use Rattle.proof_walk.specs.outside_model.Results.{device_at}
use Rattle.proof_walk.specs.outside_model.Air.{deals, sent_entries, change_entries, change_at}
use Rattle.proof_walk.specs.outside_model.Devices.{acts, changes_entries, new_changes}
use Rattle.proof_walk.specs.outside_model.Nodes.{joins, listens_at, links_of, all_pairs}
use Rattle.proof_walk.specs.outside_model.Events.{OuterEvent, Host_notes, Joins, Discovers, Links, Loses, Loses_acks, Collides_next, mesh_of, outcome}
use Rattle.proof_walk.specs.Outside.{Pending, Judging, Dealing, nothing, Outer, IsSimple, IsHearing, HasNoWords}
use Rattle.proof_walk.proofs.Results.{IsGiven, Gives, ends_go, gives_go, to_chip_goes}
use Rattle.proof_walk.proofs.Entering.{IsOfChip, IsOfPipes, does_of_chip, pipes_leave}
use Rattle.proof_air.specs.Logs.{departure_of, log_of, plain, sent_marks, IsApart, Tie}
use Rattle.proof_air.specs.Hearing.{MayHear, Knows, JoinsNode}
use Rattle.proof_air.proofs.Logs.{log_grows, plain-append}
use Rattle.proof_air.proofs.Silent.{AreSilent, AreNoLines, fresh_after, note_silent, told_silent, pipes_silent, change_silent, changes_silent}
use Rattle.proof_air.proofs.Airing.{Goes_on, known, both, IsSameAir, silent, IsPlace, flown, flies, one_apart, entered, Answered, answers_if_all, sent_enter, sent_lines, sent-append, changed_sends, session_goes}
use Rattle.proof_air.proofs.Judging.{AllGoWell, StartsSo, judged_well, JudgesNone, NoFrame, none_flies, after_joined, all_joined}

-- nothing changes but what the tie does not speak of
pub same : (o p : OuterState) → p.air.frames ≡ o.air.frames → p.air.joined ≡ o.air.joined → p.chip.state.joined ≡ o.chip.state.joined → IsSameAir o p
same o p frames joined chip = record { frames = frames; joined = joined; chip = ap length chip }

-- of items that are judged nothing is to be entered
pub from_judging : (ways : List (Item × Option Route)) (past : List Entry) (w : Outside) → Tie (Judging ways) past w → Tie nothing past w
from_judging ways past w tie = record { log = tie.log; kept = tie.kept; shown = tie.shown; apart = tie.apart; chip = tie.chip; air = tie.air; home = tie.home }

to_judging : (ways : List (Item × Option Route)) (past : List Entry) (w : Outside) → Tie nothing past w → Tie (Judging ways) past w
to_judging ways past w tie = record { log = tie.log; kept = tie.kept; shown = tie.shown; apart = tie.apart; chip = tie.chip; air = tie.air; home = tie.home }

-- ---- what the chip puts out

module _ (devices : List State) where
  -- with these devices, which stay
  abbrev pub Puts : Pending → OuterState → Outcome → Type 0
  Puts p o x = Goes_on p (outside o devices) x.entries p (outside x.outer devices)

  none_put : (p : Pending) (o : OuterState) → Puts p o (silently o)
  none_put p o = silent p (outside o devices) (outside o devices) [] tt (same o o refl refl refl)

  -- nothing for the air
  silent_put : (p : Pending) (o : OuterState) (out : ChipOut) → NoFrame out → Puts p o (put_out o out)
  silent_put p o (Write unit) none =
      silent p (outside o devices) (outside (put_out o (Write unit)).outer devices) (told by_chip o.to_host unit) (told_silent by_chip o.to_host unit) (same o (put_out o (Write unit)).outer refl refl refl)
  silent_put p o (OnAir to route payload) none = absurd none
  silent_put p o NoRoute none = silent p (outside o devices) (outside (put_out o NoRoute).outer devices) [] tt (same o (put_out o NoRoute).outer refl refl refl)
  silent_put p o (AskInfo node) none = silent p (outside o devices) (outside (put_out o (AskInfo node)).outer devices) [] tt (same o (put_out o (AskInfo node)).outer refl refl refl)
  silent_put p o Full none = silent p (outside o devices) (outside o devices) (entry.ChipFull ∷ []) (tt, tt) (same o o refl refl refl)

  silent_puts : (p : Pending) (puts : List ChipOut) (o : OuterState) → AllByRecursion NoFrame puts → Puts p o (each put_out o puts)
  silent_puts p [] o none = none_put p o
  silent_puts p (out ∷ puts) o none =
      let one : Outcome = put_out o out in
      both p p p (outside o devices) (outside one.outer devices) (outside (each put_out one.outer puts).outer devices) one.entries (each put_out one.outer puts).entries
      (silent_put p o out none.0) (silent_puts p puts one.outer none.1)

  -- a frame for another node
  flies_out : (o : OuterState) (to : ℕ) (route : Route) (payload : List ℕ) → IsPlace to → Puts nothing o (put_out o (OnAir to route payload))
  flies_out o to route payload place = record {
    lines = (tt, tt);
    ties = λ past tie.
        let departure : Departure = flown tie.log o.air to Outward (Some route) payload in
        let other : (to == controller) ≡ false = ne_eqb to controller place.1 in
        let is : plain departure ≡ departure_of controller to payload =
        ap (λ (b : Bool). record { node = if b then controller else to; heading = if b then Homeward else Outward; route = (plain departure).route; lost = false; payload = payload }) (sym other) in
        record {
          log = tie.log ++ Goes departure ∷ [];
          kept = flies tie.log o.air to Outward (Some route) payload place.0 tie.kept;
          shown = entered past tie.log (o.air.frames.sent + 1) controller to (shown_via route) payload departure is tie.shown;
          apart = one_apart tie.log departure place.1 tie.apart;
          chip = tie.chip;
          air = tie.air;
          home = tie.home;
        };
  }

  put_goes : (o : OuterState) (out : ChipOut) → AllGoWell (out ∷ []) → Puts nothing o (put_out o out)
  put_goes o (OnAir to route payload) well = flies_out o to route payload well.0
  put_goes o out well = silent_put nothing o out tt

  puts_go : (puts : List ChipOut) (o : OuterState) → AllGoWell puts → Puts nothing o (each put_out o puts)
  puts_go [] o well = none_put nothing o
  puts_go (out ∷ puts) o well =
      let one : Outcome = put_out o out in
      both nothing nothing nothing (outside o devices) (outside one.outer devices) (outside (each put_out one.outer puts).outer devices) one.entries (each put_out one.outer puts).entries
      (put_goes o out (well.0, tt)) (puts_go puts one.outer well.1)

  -- the chip's own state first
  chip_first : (p : Pending) (o : OuterState) (event : ChipEvent) (x : Outcome) → Puts p (with_chip o (after o.chip.state event)) x → Puts p o x
  chip_first p o event x goes =
      let q : OuterState = with_chip o (after o.chip.state event) in
      both p p p (outside o devices) (outside q devices) (outside x.outer devices) [] x.entries
      (silent p (outside o devices) (outside q devices) [] tt (record { frames = refl; joined = refl; chip = after_joined o.chip.state event })) goes

  module _ (rules : StartsSo) where
    -- an event that judges nothing
    does_silently : (p : Pending) (o : OuterState) (event : ChipEvent) → JudgesNone event → Puts p o (chip_does o event)
    unfolding chip_does
    does_silently p o event none =
        chip_first p o event (each put_out (with_chip o (after o.chip.state event)) (outs o.chip.state event))
        (silent_puts p (outs o.chip.state event) (with_chip o (after o.chip.state event)) (none_flies rules o.chip.state event none))

    -- an item is judged
    judges : (o : OuterState) (item : Item) (way : Option Route) → length o.chip.state.joined ≡ 233 → MayOfChip o.chip.state (Judged item way) → Puts nothing o (chip_does o (Judged item way))
    unfolding chip_does
    judges o item way many may =
        chip_first nothing o (Judged item way) (each put_out (with_chip o (after o.chip.state (Judged item way))) (outs o.chip.state (Judged item way)))
        (puts_go (outs o.chip.state (Judged item way)) (with_chip o (after o.chip.state (Judged item way))) (judged_well rules o.chip.state item way many may))

    -- ---- what it is given

    given : (p : Pending) (o : OuterState) (event : ChipEvent) → IsGiven event → Puts p o (chip_does o event)
    given p o (chip_hears node payload) is = does_silently p o (chip_hears node payload) tt
    given p o (Done status) is = does_silently p o (Done status) tt
    given p o (Informed node profile) is = does_silently p o (Informed node profile) tt
    given p o event is = absurd is

    pub results : (p : Pending) → Gives (Puts p)
    results p = record {
      still = λ o q is. silent p (outside o devices) (outside q devices) [] tt
          (same o q (ap (λ (a : AirState). a.frames) is.air) (ap (λ (a : AirState). a.joined) is.air) (ap (λ (s : ChipState). s.joined) is.chip));
      both = λ o first next one later.
          both p p p (outside o devices) (outside first.outer devices) (outside (next first.outer).outer devices) first.entries (next first.outer).entries one (later first.outer);
      later = λ o q x is goes.
          both p p p (outside o devices) (outside q devices) (outside x.outer devices) [] x.entries
          (silent p (outside o devices) (outside q devices) [] tt
          (same o q (ap (λ (a : AirState). a.frames) is.air) (ap (λ (a : AirState). a.joined) is.air) (ap (λ (s : ChipState). s.joined) is.chip))) goes;
      does = given p;
      forgotten = λ o a b.
          silent p (outside o devices) (outside (with_chip o (after o.chip.state (Forgets a b))) devices) (entry.Forget a b ∷ []) (tt, tt)
          (record { frames = refl; joined = refl; chip = after_joined o.chip.state (Forgets a b) });
    }

    -- ---- what the air tells

    -- the entry of a frame, and what is to be entered after it
    sent_goes : (o : OuterState) (frame from to : ℕ) (route : Route) (payload : List ℕ) (events : List AirEvent)
        → Goes_on (Dealing (air_event.Sent frame from to route payload ∷ events)) (outside o devices) (entry.Air frame from to (shown_via route) payload ∷ []) (Dealing events) (outside o devices)
    sent_goes o frame from to route payload events = record {
      lines = (tt, tt);
      ties = λ past tie. record {
        log = tie.log;
        kept = tie.kept;
        shown = tie.shown
            ∙ (sym (append_assoc (log_of past) (Goes (departure_of from to payload) ∷ []) (sent_marks events))
            ∙ ap (λ (l : List Mark). l ++ sent_marks events) (sym (log_grows past (entry.Air frame from to (shown_via route) payload ∷ []))));
        apart = tie.apart;
        chip = tie.chip;
        air = tie.air;
        home = tie.home;
      };
    }

    -- what else is told leaves the frames that are to be entered
    abbrev SendsNone : AirEvent → Type 0
    SendsNone (air_event.Sent frame from to route payload) = ⊥
    SendsNone event = Unit {0}

    passes : (w later : Outside) (event : AirEvent) (events : List AirEvent) (told : List Entry) → SendsNone event → Goes_on (Dealing events) w told (Dealing events) later
        → Goes_on (Dealing (event ∷ events)) w told (Dealing events) later
    passes w later (air_event.Sent frame from to route payload) events told none goes = absurd none
    passes w later (air_event.Heard frame) events told none goes = record { lines = goes.lines; ties = λ past tie. goes.ties past (record { log = tie.log; kept = tie.kept; shown = tie.shown; apart = tie.apart; chip = tie.chip; air = tie.air; home = tie.home }) }
    passes w later (air_event.Lost frame) events told none goes = record { lines = goes.lines; ties = λ past tie. goes.ties past (record { log = tie.log; kept = tie.kept; shown = tie.shown; apart = tie.apart; chip = tie.chip; air = tie.air; home = tie.home }) }
    passes w later (air_event.Unheard frame) events told none goes = record { lines = goes.lines; ties = λ past tie. goes.ties past (record { log = tie.log; kept = tie.kept; shown = tie.shown; apart = tie.apart; chip = tie.chip; air = tie.air; home = tie.home }) }
    passes w later (air_event.Changed node at) events told none goes = record { lines = goes.lines; ties = λ past tie. goes.ties past (record { log = tie.log; kept = tie.kept; shown = tie.shown; apart = tie.apart; chip = tie.chip; air = tie.air; home = tie.home }) }
    passes w later (air_event.ToChip frame from payload) events told none goes = record { lines = goes.lines; ties = λ past tie. goes.ties past (record { log = tie.log; kept = tie.kept; shown = tie.shown; apart = tie.apart; chip = tie.chip; air = tie.air; home = tie.home }) }
    passes w later (air_event.Done frame status dead) events told none goes = record { lines = goes.lines; ties = λ past tie. goes.ties past (record { log = tie.log; kept = tie.kept; shown = tie.shown; apart = tie.apart; chip = tie.chip; air = tie.air; home = tie.home }) }

    -- only an entry
    told_only : (o : OuterState) (event : AirEvent) (events : List AirEvent) (told : List Entry) → SendsNone event → AreSilent told
        → Goes_on (Dealing (event ∷ events)) (outside o devices) told (Dealing events) (outside o devices)
    told_only o event events told none entries =
        passes (outside o devices) (outside o devices) event events told none (silent (Dealing events) (outside o devices) (outside o devices) told entries (same o o refl refl refl))

    pub deals_go : (o : OuterState) (event : AirEvent) (events : List AirEvent)
        → Goes_on (Dealing (event ∷ events)) (outside o devices) (deals devices o event).entries (Dealing events) (outside (deals devices o event).outer devices)
    deals_go o (air_event.Heard frame) events = told_only o (air_event.Heard frame) events (entry.Heard frame ∷ []) tt (tt, tt)
    deals_go o (air_event.Lost frame) events = told_only o (air_event.Lost frame) events (entry.Lost frame ∷ []) tt (tt, tt)
    deals_go o (air_event.Unheard frame) events = told_only o (air_event.Unheard frame) events (entry.Unheard frame ∷ []) tt (tt, tt)
    deals_go o (air_event.Sent frame from to route payload) events = sent_goes o frame from to route payload events
    deals_go o (air_event.Changed node at) events =
        told_only o (air_event.Changed node at) events (change_entries node (change_at (device_at devices (place_of node devices)) at)) tt
        (change_silent node (change_at (device_at devices (place_of node devices)) at))
    deals_go o (air_event.ToChip frame from payload) events =
        passes (outside o devices) (outside (deals devices o (air_event.ToChip frame from payload)).outer devices) (air_event.ToChip frame from payload) events _ tt
        (to_chip_goes (Puts (Dealing events)) (results (Dealing events)) o from payload)
    deals_go o (air_event.Done frame status dead) events =
        passes (outside o devices) (outside (deals devices o (air_event.Done frame status dead)).outer devices) (air_event.Done frame status dead) events _ tt
        (ends_go (Puts (Dealing events)) (results (Dealing events)) o status dead)

-- ---- a frame is heard

-- what it makes of the air, with the frames that are to be entered
abbrev Hears_so : AirState → AirState → List AirEvent → Type 0
Hears_so air later events = (log : List Mark) → IsOf log air.frames → length air.joined ≡ 233 → is_joined air controller ≡ false → Answered log air later events

with_events : (air later : AirState) (events all : List AirEvent) → sent_marks all ≡ sent_marks events → Hears_so air later events → Hears_so air later all
with_events air later events all same hears log kept many home =
    let got = hears log kept many home in
    record { more = got.more; kept = got.kept; shown = got.shown ∙ sym same; apart = got.apart; joined = got.joined }

stays : (air : AirState) → Hears_so air air []
stays air log kept many home = record { more = []; kept = subst (λ (l : List Mark). IsOf l air.frames) (sym (append-nil log)) kept; shown = refl; apart = tt; joined = refl }

-- a device hears, and then so much is told
heard_device : (air : AirState) (number node : ℕ) (route : Option Route) (device : State) (event : DeviceEvent) (end : List AirEvent) → sent_marks end ≡ []
    → Hears_so air (air_hearing air node route device event) (outs_hearing air number node route device event ++ end)
heard_device air number node route device event end none =
    let replies : List AirEvent = answers_if (is_joined air node) air node (option_map backwards route) (device_replies device event) in
    let changes : List AirEvent = changed node (length device.journal) (length (device_after device event).journal - length device.journal) in
    let all : sent_marks ((changes ++ replies) ++ end) ≡ sent_marks replies =
    sent-append (changes ++ replies) end
    ∙ (ap₂ (λ (a b : List Mark). a ++ b)
    (sent-append changes replies ∙ ap (λ (l : List Mark). l ++ sent_marks replies) (changed_sends node (length device.journal) (length (device_after device event).journal - length device.journal))) none
    ∙ append-nil (sent_marks replies)) in
    with_events air (air_hearing air node route device event) replies (outs_hearing air number node route device event ++ end) all
    (λ log kept many home. answers_if_all (is_joined air node) log air node (option_map backwards route) (device_replies device event) refl many home kept)

heard_place : (mesh : Mesh) (place number node : ℕ) (found : Option State) (route : Option Route) (event : DeviceEvent) (end : List AirEvent) → sent_marks end ≡ []
    → Hears_so mesh.air (heard_at mesh place found node route event).air (outs_at mesh found number node route event ++ end)
heard_place mesh place number node None route event end none = with_events mesh.air mesh.air [] end none (stays mesh.air)
heard_place mesh place number node (Some device) route event end none = heard_device mesh.air number node route device event end none

-- ---- the next frame arrives

arrives_below : (frames : FramesState) (frame : Flown) → next_of frames ≡ Some frame → frames.landed < frames.sent
arrives_below frames frame next = by (nat_lt frames.landed frames.sent) refl next
  where
    by : (b : Bool) → nat_lt frames.landed frames.sent ≡ b → (if b then slice_get frames.frames (frames.landed - (frames.sent - length frames.frames)) else None) ≡ Some frame → frames.landed < frames.sent
    by true is next = ltb-true frames.landed frames.sent is
    by false is next = absurd cc

done_sends : (heading : Heading) (number status : ℕ) (dead : Option (ℕ × ℕ)) → sent_marks (done_of heading number status dead) ≡ []
done_sends Outward number status dead = refl
done_sends Homeward number status dead = refl

-- it has landed, and then so much is known of the air
after_landing : (air later : AirState) (events : List AirEvent) → air.frames.landed < air.frames.sent → Hears_so (landed (acknowledged air)) later events → Hears_so air later events
after_landing air later events below hears log kept many home =
    let got = hears log (IsOf-lands log air.frames below kept) many home in
    record { more = got.more; kept = got.kept; shown = got.shown; apart = got.apart; joined = got.joined }

lands_only : (air : AirState) (events : List AirEvent) → air.frames.landed < air.frames.sent → sent_marks events ≡ [] → Hears_so air (landed air) events
lands_only air events below none log kept many home =
    record {
      more = [];
      kept = subst (λ (l : List Mark). IsOf l (landed air).frames) (sym (append-nil log)) (IsOf-lands log air.frames below kept);
      shown = sym none;
      apart = tt;
      joined = refl;
    }

module _ (w : Outside) where
  arrives_as : (frame : Flown) (x : Fate) (drawn : List ℕ) (route : Option Route) → w.outer.air.frames.landed < w.outer.air.frames.sent
      → Hears_so w.outer.air (arriving_as (mesh_of w) frame x drawn route).air (arrival_outs_as (mesh_of w) (w.outer.air.frames.landed + 1) frame x drawn route)
  arrives_as frame fate.Lost drawn route below = lands_only w.outer.air _ below (done_sends frame.heading (w.outer.air.frames.landed + 1) 1 None)
  arrives_as frame (fate.Dead from to) drawn route below = lands_only w.outer.air _ below (done_sends frame.heading (w.outer.air.frames.landed + 1) 1 (Some (from, to)))
  arrives_as frame fate.Missed drawn route below = lands_only w.outer.air _ below (done_sends frame.heading (w.outer.air.frames.landed + 1) 1 None)
  arrives_as frame fate.AtChip drawn route below = lands_only w.outer.air _ below refl
  arrives_as frame (fate.AtDevice place) drawn route below =
      let base : Mesh = record { air = landed (acknowledged w.outer.air); devices = w.devices } in
      let number : ℕ = w.outer.air.frames.landed + 1 in
      let end : List AirEvent = air_event.Done number (status_of w.outer.air) None ∷ [] in
      after_landing w.outer.air (heard_at base place (slice_get w.devices place) frame.node route (Hears frame.payload drawn)).air
      (outs_at base (slice_get w.devices place) number frame.node route (Hears frame.payload drawn) ++ end) below
      (heard_place base place number frame.node (slice_get w.devices place) route (Hears frame.payload drawn) end refl)

  arrives_if : (found : Option Flown) (drawn : List ℕ) (route : Option Route) → next_of w.outer.air.frames ≡ found
      → Hears_so w.outer.air (arriving (mesh_of w) found drawn route).air (arrival_outs (mesh_of w) found drawn route)
  arrives_if None drawn route next = stays w.outer.air
  arrives_if (Some frame) drawn route next = arrives_as frame (fate_of w.outer.air.network w.devices frame) drawn route (arrives_below w.outer.air.frames frame next)

  -- ---- a frame is heard again

  again_place : (place : Option ℕ) (number node : ℕ) (route : Option Route) (event : DeviceEvent)
      → Hears_so w.outer.air (heard_again (mesh_of w) place node route event).air (outs_again (mesh_of w) place number node route event)
  again_place None number node route event = stays w.outer.air
  again_place (Some place) number node route event =
      subst (λ (l : List AirEvent). Hears_so w.outer.air (heard_at (mesh_of w) place (slice_get w.devices place) node route event).air l)
      (append-nil (outs_at (mesh_of w) (slice_get w.devices place) number node route event))
      (heard_place (mesh_of w) place number node (slice_get w.devices place) route event [] refl)

  again_by : (heading : Heading) (number : ℕ) (frame : Flown) (drawn : List ℕ) (route : Option Route)
      → Hears_so w.outer.air (repeating_by heading (mesh_of w) frame drawn route).air (repeat_outs_by heading (mesh_of w) number frame drawn route)
  again_by Homeward number frame drawn route =
      with_events w.outer.air w.outer.air [] (air_event.Heard number ∷ air_event.ToChip number frame.node frame.payload ∷ []) refl (stays w.outer.air)
  again_by Outward number frame drawn route = again_place (listener_of frame.node w.devices) number frame.node route (Hears frame.payload drawn)

  again_if : (number : ℕ) (found : Option Flown) (drawn : List ℕ) (route : Option Route)
      → Hears_so w.outer.air (repeating (mesh_of w) found drawn route).air (repeat_outs (mesh_of w) number found drawn route)
  again_if number None drawn route = stays w.outer.air
  again_if number (Some frame) drawn route = again_by frame.heading number frame drawn route

  -- ---- either

  step_hears : (step : AirStep) → IsHearing step → Hears_so w.outer.air (mesh_after (mesh_of w) step).air (mesh_outs (mesh_of w) step)
  unfolding mesh_after mesh_outs
  step_hears (mesh.Arrives drawn route) hearing = arrives_if (next_of w.outer.air.frames) drawn route refl
  step_hears (mesh.Repeats number drawn route) hearing = again_if number (remembered w.outer.air.frames number) drawn route
  step_hears step hearing = absurd hearing

  pub step_goes : (step : AirStep) → IsHearing step
      → Goes_on nothing w [] (Dealing (mesh_outs (mesh_of w) step)) (outside (record w.outer { air = (mesh_after (mesh_of w) step).air }) (mesh_after (mesh_of w) step).devices)
  step_goes step hearing = record {
    lines = tt;
    ties = λ past tie.
        let more = step_hears step hearing tie.log tie.kept tie.air tie.home in
        record {
          log = tie.log ++ more.more;
          kept = more.kept;
          shown = plain-append tie.log more.more
              ∙ ap₂ (λ (a b : List Mark). a ++ b) (tie.shown ∙ (append-nil (log_of past) ∙ ap log_of (sym (append-nil past)))) more.shown;
          apart = all-append IsApart tie.log more.more tie.apart more.apart;
          chip = tie.chip;
          air = ap length more.joined ∙ tie.air;
          home = ap (λ (j : List Bool). slice_index_or j controller false) more.joined ∙ tie.home;
        };
  }

  -- ---- a device does something of itself

  -- what it changed, and what it sends
  pub acts_goes : (device : State) (event : DeviceEvent) (route : Option Route) (devices : List State)
      → Goes_on nothing w (acts w.outer device event route).entries nothing (outside (acts w.outer device event route).outer devices)
  acts_goes device event route devices =
      let way : Option Route = option_map backwards route in
      let replies : List (List ℕ) = device_replies device event in
      let events : List AirEvent = answers_if (is_joined w.outer.air device.node) w.outer.air device.node way replies in
      let changes : List Entry = changes_entries device.node (new_changes device event) in
      both nothing nothing nothing w w (outside (acts w.outer device event route).outer devices) changes (flat_map sent_entries events)
      (silent nothing w w changes (changes_silent device.node (new_changes device event)) (same w.outer w.outer refl refl refl))
      (record {
        lines = sent_lines events;
        ties = λ past tie.
            let more = answers_if_all (is_joined w.outer.air device.node) tie.log w.outer.air device.node way replies refl tie.air tie.home tie.kept in
            record {
              log = tie.log ++ more.more;
              kept = more.kept;
              shown = plain-append tie.log more.more
                  ∙ (ap₂ (λ (a b : List Mark). a ++ b) (tie.shown ∙ append-nil (log_of past)) more.shown
                  ∙ (sym (log_grows past (flat_map sent_entries events) ∙ sent_enter (log_of past) events) ∙ sym (append-nil (log_of (past ++ flat_map sent_entries events)))));
              apart = all-append IsApart tie.log more.more tie.apart more.apart;
              chip = tie.chip;
              air = ap length more.joined ∙ tie.air;
              home = ap (λ (j : List Bool). slice_index_or j controller false) more.joined ∙ tie.home;
            };
      })

-- ---- what lines set

joins_goes : (w : Outside) (node : ℕ) (listening : Bool) → node ≢ controller → Goes_on nothing w [] nothing (outside (joins w.outer node listening) w.devices)
joins_goes w node listening apart = record {
  lines = tt;
  ties = λ past tie. record {
    log = tie.log;
    kept = tie.kept;
    shown = tie.shown ∙ ap (λ (l : List Entry). log_of l ++ []) (sym (append-nil past));
    apart = tie.apart;
    chip = all_joined (Joined node listening ∷ links_of (joining w.outer.air node listening) node) w.outer.chip.state ∙ tie.chip;
    air = length-set w.outer.air.joined node true ∙ tie.air;
    home = get_or-set_other w.outer.air.joined node controller true false (λ same. apart (sym same)) ∙ tie.home;
  };
}

-- ---- simple events

pipes_same : (w : Outside) (event : OuterEvent) → IsOfPipes event → IsSameAir w.outer (outcome w event).outer
pipes_same w event is =
    let left = pipes_leave w event is in
    same w.outer (outcome w event).outer (ap (λ (a : AirState). a.frames) left.1) (ap (λ (a : AirState). a.joined) left.1) (ap (λ (c : ChipParts). c.state.joined) left.0)

pub simple_goes : (w : Outside) (event : OuterEvent) → IsSimple event → JoinsNode event → Goes_on nothing w (outcome w event).entries nothing (outside (outcome w event).outer w.devices)
unfolding outcome
simple_goes w (Host_notes note) simple joins = silent nothing w w (note ∷ []) (note_silent note simple.0 simple.1, tt) (same w.outer w.outer refl refl refl)
simple_goes w (Joins node) simple apart = joins_goes w node (listens_at (device_at w.devices (place_of node w.devices))) apart
simple_goes w Discovers simple joins = silent nothing w _ [] tt (record { frames = refl; joined = refl; chip = all_joined (all_pairs w.outer.air) w.outer.chip.state })
simple_goes w (Links a b live) simple joins = silent nothing w _ [] tt (same w.outer (outcome w (Links a b live)).outer refl refl refl)
simple_goes w (Loses count) simple joins = silent nothing w _ [] tt (same w.outer (outcome w (Loses count)).outer refl refl refl)
simple_goes w (Loses_acks count) simple joins = silent nothing w _ [] tt (same w.outer (outcome w (Loses_acks count)).outer refl refl refl)
simple_goes w Collides_next simple joins = silent nothing w _ [] tt (same w.outer (outcome w Collides_next).outer refl refl refl)
simple_goes w event simple joins = silent nothing w (outside (outcome w event).outer w.devices) (outcome w event).entries (pipes_silent w event simple) (pipes_same w event simple)

-- ---- all of it

-- nothing is entered, and all that the tie speaks of stays
pub same_tie : (w later : Outside) → IsSameAir w.outer later.outer → (past : List Entry) → Tie nothing past w → Tie nothing past later
same_tie w later is past tie = subst (λ (l : List Entry). Tie nothing l later) (append-nil past) ((silent nothing w later [] tt is).ties past tie)

same_knows : (w later : Outside) → IsSameAir w.outer later.outer → (past : List Entry) → Knows nothing false past w → Knows nothing false past later
same_knows w later is past knows = (same_tie w later is past knows.0, knows.1)

-- what the chip puts out has no words
chip_lines : (e : Entry) → IsOfChip e → HasNoWords e
chip_lines (entry.Said words) of_chip = absurd of_chip
chip_lines e of_chip = tt

does_lines : (o : OuterState) (event : ChipEvent) → AreNoLines (chip_does o event).entries
does_lines o event = all-weaker IsOfChip HasNoWords chip_lines (chip_does o event).entries (does_of_chip o event)

pub number_goes : (w : Outside) → Goes_on nothing w (entry.Time w.outer.clock ∷ []) nothing w
number_goes w = silent nothing w w (entry.Time w.outer.clock ∷ []) (tt, tt) (same w.outer w.outer refl refl refl)

pub takes_goes : (w later : Outside) (ways : List (Item × Option Route)) → IsSameAir w.outer later.outer → Goes_on nothing w [] (Judging ways) later
takes_goes w later ways is = record { lines = tt; ties = λ past tie. to_judging ways _ _ ((silent nothing w later [] tt is).ties past tie) }

module _ (rules : StartsSo) where
  pub ticks_goes : (w : Outside) → Goes_on nothing w (chip_ticks w.outer).entries nothing (outside (chip_ticks w.outer).outer w.devices)
  ticks_goes w =
      both nothing nothing nothing w (outside (record w.outer { chip = record { decoder = after_tick w.outer.chip.decoder; state = w.outer.chip.state } }) w.devices) _ [] _
      (silent nothing w _ [] tt (same w.outer _ refl refl refl)) (does_silently w.devices rules nothing _ Ticked tt)

  pub judging : (w : Outside) (way : Item × Option Route) (ways : List (Item × Option Route)) → MayOfChip w.outer.chip.state (Judged way.0 way.1)
      → Goes_on (Judging (way ∷ ways)) w (chip_does w.outer (Judged way.0 way.1)).entries (Judging ways) (outside (chip_does w.outer (Judged way.0 way.1)).outer w.devices)
  judging w way ways may = record {
    lines = does_lines w.outer (Judged way.0 way.1);
    ties = λ past tie. to_judging ways _ _ ((judges w.devices rules w.outer way.0 way.1 tie.chip may).ties past (from_judging (way ∷ ways) past w tie));
  }

  pub air_law : Outer MayHear Knows JoinsNode
  air_law = record {
    line = λ covers awaits past w knows. same_knows w _ (same w.outer _ refl refl refl) past knows;
    tick = λ covers awaits past w knows. (tt, same_knows w _ (same w.outer _ refl refl refl) past knows);
    number = λ past w knows.
        ((number_goes w).ties past knows.0, fresh_after past (entry.Time w.outer.clock ∷ []) (tt, tt) knows.1);
    stamps = λ awaits stamped past w knows. same_knows w _ (same w.outer _ refl refl refl) past knows;
    simple = λ w event simple joins. known nothing nothing w _ _ (simple_goes w event simple joins);
    session = λ w node session command. known nothing nothing w _ _ (session_goes w node session command);
    takes = λ w count rest ways may.
        known nothing (Judging ways) w _ [] (takes_goes w _ ways (same w.outer _ refl refl refl));
    judges = λ w way ways may. known (Judging (way ∷ ways)) (Judging ways) w _ _ (judging w way ways may);
    judged = λ awaits past w knows. (from_judging [] past w knows.0, knows.1);
    ticks = λ w. known nothing nothing w _ _ (ticks_goes w);
    gives = λ w route may. known nothing nothing w _ _ (gives_go (Puts w.devices nothing) (results w.devices rules nothing) w.outer w.devices w.outer.due route);
    steps = λ w step hearing may. known nothing (Dealing (mesh_outs (mesh_of w) step)) w _ [] (step_goes w step hearing);
    deals = λ w event events. known (Dealing (event ∷ events)) (Dealing events) w _ _ (deals_go w.devices rules w.outer event events);
    acts = λ w place device event route found may. known nothing nothing w _ _ (acts_goes w device event route (slice_set w.devices place (device_after device event)));
  }
