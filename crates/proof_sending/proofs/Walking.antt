-- So the walk goes along all lines: at each phase, what the host has to send is due, and what it writes is.
use Rattle.proof_air.specs.law_transcript.Nodes.{always}
use Rattle.std.proofs.Common.{◌≡◌, ℕ, zero, suc, ◌+◌, true, false, List, [], ◌∷◌, ◌++◌, length, refl, inl, inr, sym, subst, append-nil}
use Rattle.zw_text.specs.declared.line.Line.{Line}
use Rattle.zw_text.specs.declared.entry.Entry.{Entry}
use Rattle.zw_text.specs.declared.entry.Entry.TheVariants.{Said}
use Rattle.zw_text.specs.Transcript.{line_of}
use Rattle.proof_air.specs.law_transcript.Lists.{EachAfter}
use Rattle.proof_air.specs.law_transcript.Payloads.{MayRequest}
use Rattle.host_model.specs.Events.{IsOwn}
use Rattle.host_model.specs.Ticking.{tick_events}
use Rattle.host_model.proofs.Own.{sleepers_own, submitted_own, tick_own}
use Rattle.host_model.proofs.Submitted.{next_is as submitted_is, no_more_is}
use Rattle.outside_model.specs.Events.{Begins_line}
use Rattle.proof_air.specs.world_model.State.{Machine}
use Rattle.proof_air.specs.world_model.Events.{Event, Outside_does, Host_takes, entries, happens, May}
use Rattle.proof_air.specs.world_model.Did.{AllAlong}
use Rattle.proof_spoken.specs.Said.{AllTell}
use Rattle.proof_air.specs.proof_walk.ByLine.{begun}
use Rattle.proof_air.specs.proof_walk.Phases.{Phase, Between, Said_line, Begun, Doing, To_tick, Ticked, Arriving, Giving, Ticking_devices, Ticking_chip, Ticking_decoder, Ticking_host, Sleeping, Submitting, Moving, Moved, Turns, Goes, passes_after}
use Rattle.proof_air.specs.proof_walk.Walk.{WalkWhere}
use Rattle.proof_spoken.specs.proof_serial.Line.{AllWriteWell, WritesWell}
use Rattle.proof_line.specs.Rooms.{KnowRooms, MayFit}
use Rattle.proof_air.proofs.Stepping.{Steps, event_then}
use Rattle.proof_line.specs.Restarts.{AllKeepWell, AllStartWell}
use Rattle.proof_sending.specs.Knowing.{IsMine, IsSound, IsWell, KnowSending, Opened, Saying}
use Rattle.proof_sending.proofs.Effects.{effect_left, left_done, left_step, opened_sound}
use Rattle.proof_air.proofs.ByLine.{begins_none}
use Rattle.proof_sending.proofs.Grounds.{WalkLaws, ground_said}
use Rattle.proof_sending.proofs.Steps.{HearsTold, mine_step}
use Rattle.proof_sending.proofs.Telling.{items_tell}

-- ---- the walk

-- the frames that the host writes are ones that the format carries
abbrev pub WritesToo : (ℕ → List ℕ) → Machine → Event → Type 0
WritesToo listing m event = IsWell listing m event × WritesWell m event

abbrev pub KnowBoth : (ℕ → List ℕ) → List ℕ → Phase → List Entry → Machine → Type 0
KnowBoth listing key here past m = KnowRooms here past m × KnowSending listing key here past m

module _ (listing : ℕ → List ℕ) (key : List ℕ) (laws : WalkLaws) where
  abbrev Know : Phase → List Entry → Machine → Type 0
  Know = KnowSending listing key

  abbrev Keeps : Phase → List Entry → Machine → Event → Type 0
  Keeps = Steps (MayRequest (always listing) key) Know

  -- a line is said, and begins
  said_keeps : (past : List Entry) (m : Machine) (words : List ℕ) (line : Line) → line_of (Said words) ≡ line ∷ [] → IsSound listing key past m
      → MayRequest (always listing) key past (Said words) × Saying listing key line (past ++ Said words ∷ []) m
  said_keeps past m words line read sound = (
    tt,
    record {
      before = past;
      words = words;
      is = refl;
      read = read;
      knew = sound.ground.knows;
      ground = ground_said listing laws past m words sound.ground;
      keys = sound.keys;
      reasoned = sound.reasoned;
    },
  )

  begins : (line : Line) (past : List Entry) (m : Machine) → Saying listing key line past m → Keeps (Begun line) past m (Outside_does Begins_line)
  begins line past m saying =
      let opened : Opened listing key line past (begun m) = (m, saying, refl) in (
        subst (λ (told : List Entry). EachAfter (MayRequest (always listing) key) past told) (sym (begins_none m)) tt,
        subst (λ (told : List Entry). Opened listing key line (past ++ told) (begun m)) (sym (begins_none m)) (subst (λ (l : List Entry). Opened listing key line l (begun m)) (sym (append-nil past)) opened),
      )

  -- an event that is no line's own
  mine : (next to : Phase) (event is : Event) (past : List Entry) (m : Machine) → event ≡ is → next ≡ to → IsMine is → May m event → IsWell listing m event → HearsTold (always listing) key past is → IsSound listing key past m
      → ((later : List Entry) (n : Machine) → IsSound listing key later n → Know to later n) → Keeps next past m event
  mine next to event is past m event_is next_is of_none may well hears sound there =
      let got = mine_step listing key laws past m is of_none (subst (May m) event_is may) (subst (IsWell listing m) event_is well) hears sound in
      event_then (MayRequest (always listing) key) Know next to event is past m event_is next_is (got.0, there (past ++ entries m is) (happens m is) got.1)

  event_keeps : (here next : Phase) (past : List Entry) (m : Machine) (event : Event) → Goes here m event next → May m event → IsWell listing m event → KnowRooms here past m → Know here past m
      → Keeps next past m event
  event_keeps (Said_line line) next past m event (event_is, next_is) may well rooms known =
      event_then (MayRequest (always listing) key) Know next (Begun line) event (Outside_does Begins_line) past m event_is next_is (begins line past m known)
  event_keeps (Doing line (first ∷ left)) next past m event (event_is, next_is) may well rooms known =
      event_then (MayRequest (always listing) key) Know next (Doing line left) event first past m event_is next_is
      (left_step listing key laws past m first left (subst (May m) event_is may) (subst (IsWell listing m) event_is well) known)
  event_keeps (To_tick (suc ticks)) next past m event (event_is, next_is) may well rooms known = mine next (Ticked ticks) event _ past m event_is next_is tt may well tt known (λ p n k. k)
  event_keeps (Arriving (suc frames) ticks) next past m event (drawn, route, event_is, next_is) may well rooms known =
      mine next (Arriving frames ticks) event _ past m event_is next_is tt may well tt known (λ p n k. k)
  event_keeps (Giving (suc results) ticks) next past m event (route, event_is, next_is) may well rooms known =
      mine next (Giving results ticks) event _ past m event_is next_is tt may well tt known (λ p n k. k)
  event_keeps (Ticking_devices place (suc count) ticks) next past m event (drawn, route, event_is, next_is) may well rooms known =
      mine next (Ticking_devices (place + 1) count ticks) event _ past m event_is next_is tt may well tt known (λ p n k. k)
  event_keeps (Ticking_chip ticks) next past m event (event_is, next_is) may well rooms known = mine next (Ticking_decoder ticks) event _ past m event_is next_is tt may well tt known (λ p n k. k)
  event_keeps (Ticking_decoder ticks) next past m event (event_is, next_is) may well rooms known =
      mine next (Ticking_host (tick_events m.host.state) ticks) event _ past m event_is next_is tt may well tt known (λ p n k. (tick_own m.host.state, k))
  event_keeps (Ticking_host (first ∷ events) ticks) next past m event (event_is, next_is) may well rooms known =
      mine next (Ticking_host events ticks) event _ past m event_is next_is known.0.0 may well tt known.1 (λ p n k. (known.0.1, k))
  event_keeps (Sleeping passes ticks) next past m event (node, wants, event_is, next_is) may well rooms known =
      mine next (Sleeping passes ticks) event _ past m event_is next_is (no_more_is IsOwn sleepers_own m.host.state node) may well tt known (λ p n k. k)
  event_keeps (Submitting passes ticks) next past m event (asked, is, event_is, next_is) may well rooms known =
      mine next (Submitting passes ticks) event _ past m event_is next_is (submitted_is IsOwn submitted_own m.host.state asked is) may well tt known (λ p n k. k)
  event_keeps (Moving passes ticks) next past m event (rest, ways, event_is, next_is) may well rooms known =
      mine next (Moved true passes ticks) event _ past m event_is next_is tt may well tt known (λ p n k. k)
  event_keeps (Moved has_moved passes ticks) next past m event (rest, items, done, event_is, next_is) may well rooms known =
      let count : ℕ = length m.outside.outer.to_host.bytes in
      mine next (Sleeping passes ticks) event (Host_takes count rest items done) past m event_is next_is tt may well
      (items_tell (always listing) key past m count rest items done (subst (May m) event_is may) rooms.0.0 known.ground.arrives) known (λ p n k. k)
  event_keeps here next past m event goes may well rooms known = absurd goes

  -- a part begins
  to : (next phase : Phase) (past : List Entry) (m : Machine) → next ≡ phase → Know phase past m → Know next past m
  to next phase past m is known = subst (λ (q : Phase). Know q past m) (sym is) known

  turn_keeps : (here next : Phase) (past : List Entry) (m : Machine) → Turns here m next → Know here past m → Know next past m
  turn_keeps (Begun line) next past m (inl (events, is, next_is)) known = to next (Doing line events) past m next_is (effect_left listing key laws line past m events is known)
  turn_keeps (Begun line) next past m (inr (ticks, line_is, next_is)) known = to next (To_tick ticks) past m next_is (opened_sound listing key laws line past m known)
  turn_keeps (Doing line []) next past m next_is known = to next (Sleeping 64 0) past m next_is (left_done listing key laws past m known)
  turn_keeps (To_tick zero) next past m next_is known = to next Between past m next_is known
  turn_keeps (Ticked ticks) next past m next_is known = to next _ past m next_is known
  turn_keeps (Arriving zero ticks) next past m next_is known = to next _ past m next_is known
  turn_keeps (Giving zero ticks) next past m next_is known = to next _ past m next_is known
  turn_keeps (Ticking_devices place zero ticks) next past m next_is known = to next _ past m next_is known
  turn_keeps (Ticking_host [] ticks) next past m next_is known = to next (Sleeping 64 ticks) past m next_is known.1
  turn_keeps (Sleeping passes ticks) next past m (wants, next_is) known = to next (Submitting passes ticks) past m next_is known
  turn_keeps (Submitting zero ticks) next past m (pumped, next_is) known = to next (To_tick ticks) past m next_is known
  turn_keeps (Submitting (suc passes) ticks) next past m (pumped, next_is) known = to next (Moving passes ticks) past m next_is known
  turn_keeps (Moving passes ticks) next past m (still, next_is) known = to next (Moved false passes ticks) past m next_is known
  turn_keeps (Moved has_moved passes ticks) next past m (still, next_is) known = to next (Sleeping (passes_after has_moved passes) ticks) past m next_is known
  turn_keeps here next past m turns known = absurd turns

  -- along with what is known of the pipes
  pub sending_walk : WalkWhere WritesWell MayFit KnowRooms → WalkWhere (WritesToo listing) (MayRequest (always listing) key) (KnowBoth listing key)
  sending_walk rooms = record {
    said = λ past m words line read known.
        let one = said_keeps past m words line read known.1 in
        (one.0, ((rooms.said past m words line read known.0).1, one.1));
    event = λ here next past m event goes may well known.
        let one = event_keeps here next past m event goes may well.0 known.0 known.1 in
        (one.0, ((rooms.event here next past m event goes may well.1 known.0).1, one.1));
    turn = λ here next past m turns known. (rooms.turn here next past m turns known.0, turn_keeps here next past m turns known.1);
  }

-- events one after another have what the walk asks of each
pub all_well : (listing : ℕ → List ℕ) (m : Machine) (events : List Event) → AllStartWell m events → AllKeepWell m events → AllTell listing m events → AllWriteWell m events
    → AllAlong (WritesToo listing) m events
all_well listing m [] starts keeps tells writes = tt
all_well listing m (event ∷ events) starts keeps tells writes =
    ((((starts.0, keeps.0), tells.0), writes.0), all_well listing (happens m event) events starts.1 keeps.1 tells.1 writes.1)
