-- A side that does at each event what its machine does obeys the rules; the host's machine begins anew at each restart.
use Rattle.std.proofs.Common.{◌≡◌, ◌+◌, Bool, true, false, if◌then◌else◌, List, [], ◌∷◌, ◌++◌, refl, sym, ap, subst, ◌∙◌}
use Rattle.std.proofs.lemmas.List.{append-nil, append_assoc}
use Rattle.std.specs.List.{AllByRecursion}
use Rattle.serial_frame.specs.Frame.{FrameParts}
use Rattle.serial_link.specs.State.{Side as LinkSide, hear, hear_outs, tick_side}
use Rattle.serial_link.specs.Rules.{Event, heard, ticked, submitted, asked, Step, SideObeys, Turns}
use Rattle.serial_link.specs.Calls.{submit_step, tick_step}
use Rattle.serial_link.specs.declared.turn.Turn.{Turn}
use Rattle.serial_link.specs.declared.turn.Turn.TheVariants.{Idle, Copied, Paused}
use Rattle.serial_link.proofs.RulesKept.{side_hears_all, side_ticks_after, side_submits, side_asks}
use Rattle.zw_words.specs.declared.side.Side.{Side}
use Rattle.zw_words.specs.declared.side.Side.TheVariants.{Host, Chip}
use Rattle.law_transcript.specs.Restarts.{is_restart}
use Rattle.law_wire.specs.Serial.{SerialEvent}
use Rattle.law_wire.specs.Links.{Moment, moments_of, steps_in, line_in, between_restarts, Obeys, lives}

-- what a side does at an event; a frame is submitted where none is under way
abbrev pub submitting : Turn → FrameParts → List Step
submitting Idle f = submit_step f ∷ []
submitting (Copied g copies ticks) f = []
submitting (Paused g copies ticks) f = []

abbrev pub turn_submitted : Turn → FrameParts → Turn
turn_submitted Idle f = Copied f 1 0
turn_submitted (Copied g copies ticks) f = Copied g copies ticks
turn_submitted (Paused g copies ticks) f = Paused g copies ticks

abbrev pub done_at : LinkSide → Event → List Step
done_at link (heard item) = record { event = heard item; outs = hear_outs link item } ∷ []
done_at link ticked = tick_step link ∷ []
done_at link (submitted f) = submitting link.turn f
done_at link asked = record { event = asked; outs = [] } ∷ []

abbrev pub link_at : LinkSide → Event → LinkSide
link_at link (heard item) = hear link item
link_at link ticked = tick_side link
link_at link (submitted f) = record { turn = turn_submitted link.turn f; collisions = link.collisions }
link_at link asked = record { turn = link.turn; collisions = link.collisions + 1 }

-- events one after another
abbrev pub run : LinkSide → List Event → List Step
run link [] = []
run link (event ∷ events) = done_at link event ++ run (link_at link event) events

abbrev pub link_after : LinkSide → List Event → LinkSide
link_after link [] = link
link_after link (event ∷ events) = link_after (link_at link event) events

still_obeys : (h : List Step) (link : LinkSide) (turn : Turn) → link.turn ≡ turn → SideObeys h link
    → SideObeys (h ++ []) (record { turn = turn; collisions = link.collisions })
still_obeys h link turn same obeys =
    subst (λ (all : List Step). SideObeys all (record { turn = turn; collisions = link.collisions })) (sym (append-nil h)) (record {
      answers = obeys.answers;
      collisions = obeys.collisions;
      turns = subst (λ (one : Turn). Turns h one) same obeys.turns;
    })

obeys_submitting : (h : List Step) (link : LinkSide) (turn : Turn) (f : FrameParts) → link.turn ≡ turn → SideObeys h link
    → SideObeys (h ++ submitting turn f) (record { turn = turn_submitted turn f; collisions = link.collisions })
obeys_submitting h link Idle f same obeys = side_submits h link f same obeys
obeys_submitting h link (Copied g copies ticks) f same obeys = still_obeys h link (Copied g copies ticks) same obeys
obeys_submitting h link (Paused g copies ticks) f same obeys = still_obeys h link (Paused g copies ticks) same obeys

obeys_at : (h : List Step) (link : LinkSide) (event : Event) → SideObeys h link → SideObeys (h ++ done_at link event) (link_at link event)
obeys_at h link (heard item) obeys = side_hears_all h link (item ∷ []) obeys
obeys_at h link ticked obeys = side_ticks_after h link [] obeys
obeys_at h link (submitted f) obeys = obeys_submitting h link link.turn f refl obeys
obeys_at h link asked obeys = side_asks h link (link_at link asked) refl refl obeys

pub obeys_run : (h : List Step) (link : LinkSide) (events : List Event) → SideObeys h link → SideObeys (h ++ run link events) (link_after link events)
obeys_run h link [] obeys = subst (λ (all : List Step). SideObeys all link) (sym (append-nil h)) obeys
obeys_run h link (event ∷ events) obeys =
    subst (λ (all : List Step). SideObeys all (link_after (link_at link event) events)) (append_assoc h (done_at link event) (run (link_at link event) events))
    (obeys_run (h ++ done_at link event) (link_at link event) events (obeys_at h link event obeys))

-- ---- in moments

abbrev pub first_link : LinkSide
first_link = record { turn = Idle; collisions = 0 }

pub first_obeys : SideObeys [] first_link
first_obeys = record { answers = tt; collisions = refl; turns = record { past = []; now = []; parts = refl; are_past = tt; stands = tt } }

abbrev pub renewed : Side → SerialEvent → LinkSide → LinkSide
renewed Host event link = if is_restart (line_in event) then first_link else link
renewed Chip event link = link

-- the steps up to each event of the serial line, where these are the events of the side
abbrev pub parts_of : Side → LinkSide → List SerialEvent → List (List Event) → List (List Step)
parts_of side link [] acts = []
parts_of side link (event ∷ events) [] = []
parts_of side link (event ∷ events) (now ∷ acts) = run link now ∷ parts_of side (renewed side event (link_after link now)) events acts

pub steps_in-one : (life : List Moment) (one : Moment) → steps_in (life ++ one ∷ []) ≡ steps_in life ++ one.steps
steps_in-one [] one = append-nil one.steps
steps_in-one (first ∷ life) one =
    ap (λ (all : List Step). first.steps ++ all) (steps_in-one life one) ∙ sym (append_assoc first.steps (steps_in life) one.steps)

chip_obeys : (h : List Step) (link : LinkSide) (events : List SerialEvent) (acts : List (List Event)) → SideObeys h link
    → (end : LinkSide) × SideObeys (h ++ steps_in (moments_of events (parts_of Chip link events acts))) end
chip_obeys h link [] acts obeys = (link, subst (λ (all : List Step). SideObeys all link) (sym (append-nil h)) obeys)
chip_obeys h link (event ∷ events) [] obeys = (link, subst (λ (all : List Step). SideObeys all link) (sym (append-nil h)) obeys)
chip_obeys h link (event ∷ events) (now ∷ acts) obeys =
    let later = chip_obeys (h ++ run link now) (link_after link now) events acts (obeys_run h link now obeys) in (
      later.0,
      subst (λ (all : List Step). SideObeys all later.0)
          (append_assoc h (run link now) (steps_in (moments_of events (parts_of Chip (link_after link now) events acts)))) later.1,
    )

-- a restart begins another life, or this one goes on
goes_on : (again : Bool) (life : List Moment) (link : LinkSide) (rest : LinkSide → List Moment) → SideObeys (steps_in life) link
    → AllByRecursion Obeys (between_restarts [] (rest first_link)) → AllByRecursion Obeys (between_restarts life (rest link))
    → AllByRecursion Obeys
    (if again then life ∷ between_restarts [] (rest (if again then first_link else link)) else between_restarts life (rest (if again then first_link else link)))
goes_on true life link rest obeys anew on = ((link, obeys), anew)
goes_on false life link rest obeys anew on = on

host_obeys : (life : List Moment) (link : LinkSide) (events : List SerialEvent) (acts : List (List Event)) → SideObeys (steps_in life) link
    → AllByRecursion Obeys (between_restarts life (moments_of events (parts_of Host link events acts)))
host_obeys life link [] acts obeys = ((link, obeys), tt)
host_obeys life link (event ∷ events) [] obeys = ((link, obeys), tt)
host_obeys life link (event ∷ events) (now ∷ acts) obeys =
    let one : Moment = record { event = event; steps = run link now } in
    let here : SideObeys (steps_in (life ++ one ∷ [])) (link_after link now) =
    subst (λ (all : List Step). SideObeys all (link_after link now)) (sym (steps_in-one life one)) (obeys_run (steps_in life) link now obeys)
    in
    goes_on (is_restart (line_in event)) (life ++ one ∷ []) (link_after link now) (λ next. moments_of events (parts_of Host next events acts)) here
    (host_obeys [] first_link events acts first_obeys) (host_obeys (life ++ one ∷ []) (link_after link now) events acts here)

-- so whatever a side does, with its machine it obeys
pub obeys_all : (side : Side) (events : List SerialEvent) (acts : List (List Event))
    → AllByRecursion Obeys (lives side (moments_of events (parts_of side first_link events acts)))
obeys_all Host events acts = host_obeys [] first_link events acts first_obeys
obeys_all Chip events acts = (chip_obeys [] first_link events acts first_obeys, tt)
