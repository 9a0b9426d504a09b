-- What the pipes surely hold goes on at an event: outside the host, of the host of itself, where either takes bytes, and where the host submits.
use Rattle.std.proofs.Common.{◌≡◌, ◌≤◌, ◌⊎◌, ℕ, ◌+◌, Bool, true, false, if◌then◌else◌, List, [], ◌∷◌, ◌++◌, length, map, take, drop, inl, inr, refl, sym, ap, subst, ◌∙◌, arith}
use Rattle.std.specs.Prelude.{Option}
use Rattle.std.specs.List.{AllByRecursion}
use Rattle.std.proofs.lemmas.List.{drop_all, length-append}
use Rattle.serial_frame.specs.Frame.{FrameParts, checksum}
use Rattle.serial_frame.specs.Items.{IsUnit, counted_of}
use Rattle.serial_frame.specs.Stream.{Rest, Feeds, no_rest}
use Rattle.serial_frame.specs.declared.item.Item.{Item}
use Rattle.serial_frame.specs.declared.unit.Unit.{Unit as LineUnit}
use Rattle.serial_frame.specs.declared.unit.Unit.TheVariants.{Framed}
use Rattle.serial_pipes.specs.State.{WayState}
use Rattle.route_table.specs.declared.route.Route.{Route}
use Rattle.chip_sim.specs.State.{ChipParts}
use Rattle.zw_words.specs.declared.side.Side.TheVariants.{Host as by_host, Chip as by_chip}
use Rattle.zw_text.specs.declared.entry.Entry.{Entry}
use Rattle.zw_text.specs.Transcript.{line_of, line_last}
use Rattle.law_wire.specs.law_transcript.Lists.{EachAfter}
use Rattle.law_wire.specs.law_transcript.Restarts.{is_restart, begins_refused}
use Rattle.law_wire.specs.Pipes.{Pipe, empty_pipe, pipe_from, sum_of}
use Rattle.proof_world.specs.host_model.State.{HostState}
use Rattle.proof_world.specs.host_model.Events.{HostEvent, Queues_no_more, Drops_no_more, Submits_abort, Submits_front, Starts, Gives_text, Begin_unkept, Gives_segment, Begins}
use Rattle.proof_world.specs.host_model.After.{after, is_busy, is_full}
use Rattle.proof_world.specs.host_model.May.{IsFree}
use Rattle.proof_world.specs.host_model.Did.{outs_all}
use Rattle.proof_world.specs.host_model.Taking.{AreJudged}
use Rattle.proof_world.specs.host_model.Pumping.{no_more_event, IsNext}
use Rattle.proof_world.proofs.Submitted.{SubmittedAre, next_is}
use Rattle.proof_walk.specs.outside_model.State.{OuterState, Outside, Outcome, is_stalled}
use Rattle.proof_walk.specs.outside_model.Chip.{MayTake}
use Rattle.proof_walk.specs.outside_model.Events.{OuterEvent, Chip_takes, outcome, has_entered, stamp, May as MayOutside, happens as happens_outside, entries as entries_outside}
use Rattle.proof_walk.specs.world_model.State.{Machine}
use Rattle.proof_walk.specs.world_model.Events.{Event, Outside_does, Host_does, Host_takes, fed, happens, entries, May}
use Rattle.proof_walk.specs.world_model.Settling.{TakesWhole}
use Rattle.proof_world.specs.proof_serial.Way.{Carries, written_all}
use Rattle.proof_world.specs.proof_serial.Chip.{HasFrames}
use Rattle.proof_world.specs.proof_serial.Line.{IsWhole, AreAtRest, WritesWell, host_units, host_writes}
use Rattle.proof_world.proofs.EndedItems.{feeds_all}
use Rattle.proof_world.proofs.Events.{at_rest, whole_after, rests_after}
use Rattle.proof_world.proofs.Outer.{entered_still}
use Rattle.proof_walk.specs.Outside.{awaits_number}
use Rattle.proof_walk.proofs.Times.{IsWithin, outcome_time}
use Rattle.proof_line.specs.Arrivals.{arrived, Comes}
use Rattle.proof_line.specs.Rooms.{MayFit, LastFits, answers_due, Fills, IsExact, Shown, AreUnanswered, AreSettling, InTickShown, SettlingShown, HasGone}
use Rattle.proof_line.proofs.Holding.{Joins, TellsNothing}
use Rattle.proof_line.proofs.Filling.{never, unsaid}
use Rattle.proof_line.proofs.Chipping.{drop_whole}
use Rattle.proof_line.proofs.Arriving.{comes_same, comes_taken, comes_at}
use Rattle.proof_line.proofs.Tellings.{IsBeside, answers_all, bytes_all}
use Rattle.proof_line.proofs.Numbering.{numbered, numbered_of}
use Rattle.proof_line.proofs.HostTelling.{HostTells, does_tells, takes_tells, judged_answers as host_answers}
use Rattle.proof_line.proofs.ChipTelling.{OutcomeTells, TakesTell, takes_tell}
use Rattle.proof_line.proofs.Goings.{fills_as, fills_same, fills_none, HasRoom, went, frames_go}

-- ---- entries that let others follow

abbrev pub Any : List Entry → Type 0
Any past = Unit {0}

pub any_stays : (past : List Entry) (e : Entry) → line_of e ≡ [] → Any past → Any (past ++ e ∷ [])
any_stays past e none any = tt

pub beside_nothing : (e : Entry) → IsBeside e → TellsNothing e
beside_nothing e beside = beside.0

-- none of them is a refusal
pub beside_joins : (Good : List Entry → Type 0) (past : List Entry) (e : Entry) → IsBeside e → Good past → Joins past (e ∷ [])
beside_joins Good past e beside good is = never (begins_refused (e ∷ [])) beside.1 is

-- or no restart was said last
abbrev pub Unsaid : List Entry → Type 0
Unsaid past = is_restart (line_last past) ≡ false

pub unsaid_stays : (past : List Entry) (e : Entry) → line_of e ≡ [] → Unsaid past → Unsaid (past ++ e ∷ [])
unsaid_stays past e none good = unsaid past e none

pub apart_nothing : (e : Entry) → TellsNothing e → TellsNothing e
apart_nothing e apart = apart

pub unsaid_joins : (past : List Entry) (e : Entry) → TellsNothing e → Unsaid past → Joins past (e ∷ [])
unsaid_joins past e apart good is = good

-- ---- what is whole stays so

pub whole_of : (past : List Entry) (m : Machine) → Shown past m → IsWhole m
whole_of past m shown = record {
  up = shown.up.items;
  down = shown.down.items;
  carried = record {
    to_chip = subst (λ (r : Rest). Carries r m.outside.outer.to_chip shown.up.items) (sym shown.rests.chip) shown.up.carries;
    to_host = subst (λ (r : Rest). Carries r m.outside.outer.to_host shown.down.items) (sym shown.rests.host) shown.down.carries;
  };
  frames = shown.frames;
}

pub later : (past : List Entry) (m : Machine) (event : Event) → Shown past m → May m event → TakesWhole m event → WritesWell m event
    → HasFrames (happens m event).outside.outer.chip.state.port × AreAtRest (happens m event)
later past m event shown may takes well =
    let whole = whole_of past m shown in
    ((whole_after m event whole may (at_rest m event shown.rests) well).frames, rests_after m event whole shown.rests may takes well)

-- ---- outside, of itself

module _ (Is : Entry → Type 0) (nothing : (e : Entry) → Is e → TellsNothing e) (Good : List Entry → Type 0)
    (stays : (past : List Entry) (e : Entry) → line_of e ≡ [] → Good past → Good (past ++ e ∷ []))
    (joins : (past : List Entry) (e : Entry) → Is e → Good past → Joins past (e ∷ [])) where
  -- what is known between events, of the entries and what is outside
  pub record Kept (past : List Entry) (w : Outside) : Type 0 where
    pub up : Fills w.outer.to_chip (pipe_from by_host empty_pipe past)
    pub down : Fills w.outer.to_host (pipe_from by_chip empty_pipe past)
    pub up_comes : Comes w.outer.to_chip (arrived by_host past)
    pub down_comes : Comes w.outer.to_host (arrived by_chip past)
    pub fits : LastFits past
    pub unanswered : awaits_number w.outer ≡ false → AreUnanswered (pipe_from by_host empty_pipe past) (pipe_from by_chip empty_pipe past)
    pub good : Good past

  pub kept_of : (past : List Entry) (m : Machine) → InTickShown past m → Good past → Kept past m.outside
  kept_of past m known good = record {
    up = known.0.up;
    down = known.0.down;
    up_comes = known.0.up_comes;
    down_comes = known.0.down_comes;
    fits = known.0.fits;
    unanswered = known.1;
    good = good;
  }

  pub shown_of : (past : List Entry) (m : Machine) → Kept past m.outside → HasFrames m.outside.outer.chip.state.port → AreAtRest m → InTickShown past m
  shown_of past m kept has rests = (
    record { up = kept.up; down = kept.down; up_comes = kept.up_comes; down_comes = kept.down_comes; frames = has; rests = rests; fits = kept.fits },
    kept.unanswered,
  )

  pub outside_goes : (w : Outside) (event : OuterEvent) → IsWithin event → OutcomeTells Is w.outer (outcome w event) → HasFrames (happens_outside w event).outer.chip.state.port → (past : List Entry) → Kept past w
      → EachAfter MayFit past (entries_outside w event) × Kept (past ++ entries_outside w event) (happens_outside w event)
  outside_goes w event within tells has past kept =
      let x : Outcome = outcome w event in
      let n : OuterState = has_entered x.outer x.entries in
      let all : List Entry = past ++ entries_outside w event in
      let still = entered_still x.outer x.entries in
      let fit = tells.fit (subst (λ (c : ChipParts). HasFrames c.state.port) still.chip has) in
      let got =
      frames_go Is nothing Good stays joins by_chip by_host refl w.outer.to_host w.outer.to_chip (awaits_number w.outer) (awaits_number n) (stamp x.outer x.entries) x.entries tells.units
      (numbered w.outer x.outer x.entries (outcome_time w event within)) tells.told fit tells.frames past (record { own = kept.down; oth = kept.up; own_comes = kept.down_comes; oth_comes = kept.up_comes; fits = kept.fits; good = kept.good })
      (λ is. let none = kept.unanswered is in (none.of_chip, none.of_host)) in (
        got.each,
        record {
          up = fills_same w.outer.to_chip n.to_chip (pipe_from by_host empty_pipe all) (ap (λ (y : WayState). y.bytes) still.to_chip ∙ tells.to_chip) got.lies.oth;
          down = fills_same (written_all w.outer.to_host tells.units) n.to_host (pipe_from by_chip empty_pipe all) (ap (λ (y : WayState). y.bytes) still.to_host ∙ tells.to_host) got.lies.own;
          up_comes = comes_same w.outer.to_chip n.to_chip (arrived by_host all) (ap (λ (y : WayState). y.bytes) still.to_chip ∙ tells.to_chip) got.lies.oth_comes;
          down_comes = comes_same (written_all w.outer.to_host tells.units) n.to_host (arrived by_chip all) (ap (λ (y : WayState). y.bytes) still.to_host ∙ tells.to_host) got.lies.own_comes;
          fits = got.lies.fits;
          unanswered = λ is. let none = got.known is in record { of_host = none.1; of_chip = none.0 };
          good = got.lies.good;
        },
      )

-- ---- the host, of itself

module _ (Good : List Entry → Type 0) (stays : (past : List Entry) (e : Entry) → line_of e ≡ [] → Good past → Good (past ++ e ∷ [])) where
  abbrev KeptSo : List Entry → Outside → Type 0
  KeptSo past w = Kept IsBeside beside_nothing Good stays (beside_joins Good) past w

  pub host_goes : (w v : Outside) (units : List LineUnit) (told : List Entry) → HostTells w v units told → answers_all units ≡ 0 → AllByRecursion IsUnit units → (past : List Entry) → KeptSo past w
      → EachAfter MayFit past told × KeptSo (past ++ told) v
  host_goes w v units told tells frames fit past kept =
      let all : List Entry = past ++ told in
      let got =
      frames_go IsBeside beside_nothing Good stays (beside_joins Good) by_host by_chip refl w.outer.to_chip w.outer.to_host (awaits_number w.outer) (awaits_number v.outer) told tells.told units (numbered_of w.outer v.outer told tells.told tells.enters) tells.tells fit frames past
      (record { own = kept.up; oth = kept.down; own_comes = kept.up_comes; oth_comes = kept.down_comes; fits = kept.fits; good = kept.good }) (λ is. let none = kept.unanswered is in (none.of_host, none.of_chip)) in (
        got.each,
        record {
          up = subst (λ (y : WayState). Fills y (pipe_from by_host empty_pipe all)) (sym tells.to_chip) got.lies.own;
          down = subst (λ (y : WayState). Fills y (pipe_from by_chip empty_pipe all)) (sym tells.to_host) got.lies.oth;
          up_comes = subst (λ (y : WayState). Comes y (arrived by_host all)) (sym tells.to_chip) got.lies.own_comes;
          down_comes = subst (λ (y : WayState). Comes y (arrived by_chip all)) (sym tells.to_host) got.lies.oth_comes;
          fits = got.lies.fits;
          unanswered = λ is. let none = got.known is in record { of_host = none.0; of_chip = none.1 };
          good = got.lies.good;
        },
      )

-- ---- in a settling

-- each side has its turn
pub unanswered_settles : (h : HostState) (up down : Pipe) (to_chip to_host : WayState) → Fills to_chip up → up.answers ≡ 0 → down.answers ≡ 0 → AreSettling h up down to_chip.bytes to_host.bytes
unanswered_settles h up down to_chip to_host fills one two = record {
  heard = inr one;
  taken = inr two;
  exact = λ free. inr (let few = fills.few in omega (arith, few, one));
  few = omega (arith, one);
}

-- no bytes end no item
pub none_carried : (way : WayState) (items : List Item) → way.bytes ≡ [] → Carries no_rest way items → items ≡ []
none_carried way items none carries =
    sym (feeds_all no_rest no_rest [] items [] (record { reads = (tt, refl); ticks = refl }) (subst (λ (l : List ℕ). Feeds no_rest l no_rest items) none carries)).all

-- all that are on their way are taken
all_taken : (way : WayState) (pipe : Pipe) (decoder rest : Rest) (items : List Item) → decoder ≡ no_rest → Feeds decoder (take (length way.bytes) way.bytes) rest items → (fills : Fills way pipe) → items ≡ fills.items
all_taken way pipe decoder rest items rests feeds fills =
    (feeds_all no_rest rest way.bytes fills.items items (subst (λ (r : Rest). Feeds r (take (length way.bytes) way.bytes) rest items) rests feeds) fills.carries).all

-- and all that were due an answer have one
all_answered : (way : WayState) (old : Pipe) (frames : List ℕ) (count : ℕ) (items : List Item) → (fills : Fills way old) → items ≡ fills.items → count ≡ answers_due items → frames ≡ drop count old.frames → frames ≡ []
all_answered way old frames count items fills are answered is =
    is ∙ drop_all count old.frames (enough (length old.frames) (answers_due fills.items) (answers_due items) fills.many (ap (λ (l : List Item). answers_due l) are) answered)
  where
    enough : (n due also : ℕ) → n ≡ due → also ≡ due → count ≡ also → n ≤ count
    enough n due also one two three = omega (arith, one, two, three)

-- so there are as many as the other pipe shows
due_are : (count : ℕ) (items : List Item) (way : WayState) (pipe : Pipe) (fills : Fills way pipe) → count ≡ answers_due items → items ≡ fills.items → count ≤ length pipe.frames
due_are count items way pipe fills answered are =
    let many = fills.many in
    let same : answers_due items ≡ answers_due fills.items = ap (λ (l : List Item). answers_due l) are in
    omega (arith, many, same, answered)

-- the chip takes its bytes
module _ (past : List Entry) (m : Machine) (rest : Rest) (ways : List (Item × Option Route)) where
  abbrev o : OuterState
  o = m.outside.outer

  abbrev takes : OuterEvent
  takes = Chip_takes (length o.to_chip.bytes) rest ways

  abbrev judged : List Item
  judged = map (λ (one : Item × Option Route). one.0) ways

  abbrev ChipKnown : Pipe → Pipe → Type 0
  ChipKnown own oth = AreSettling m.host.state oth own o.to_chip.bytes o.to_host.bytes

  abbrev Anything : ℕ → Type 0
  Anything more = Unit {0}

  chip_turns : (own oth : Pipe) → Fills o.to_host own → Fills o.to_chip oth → own.answers ≡ 0 → oth.answers ≡ 0 → ChipKnown own oth
  chip_turns own oth own_fills oth_fills one two = unanswered_settles m.host.state oth own o.to_chip o.to_host oth_fills two one

  no_ways : (l : List (Item × Option Route)) → map (λ (one : Item × Option Route). one.0) l ≡ [] → l ≡ []
  no_ways [] none = refl
  no_ways (one ∷ l) none = absurd cc

  chip_room : (tells : TakesTell m.outside (length o.to_chip.bytes) rest ways) → o.chip.decoder ≡ no_rest → Feeds o.chip.decoder (take (length o.to_chip.bytes) o.to_chip.bytes) rest judged → (own oth : Pipe)
      → ChipKnown own oth → Fills o.to_host own → Fills o.to_chip oth
      → HasRoom IsBeside beside_nothing Any any_stays (beside_joins Any) by_chip by_host refl o.to_host o.to_chip ChipKnown Anything chip_turns tells.units own oth
  chip_room tells rests feeds own oth known own_fills oth_fills = by known.taken
    where
      due : answers_all tells.units ≤ length oth.frames
      due = due_are (answers_all tells.units) judged o.to_chip oth oth_fills tells.answers (all_taken o.to_chip oth o.chip.decoder rest judged rests feeds oth_fills)

      by : (o.to_chip.bytes ≡ []) ⊎ (own.answers ≡ 0) → HasRoom IsBeside beside_nothing Any any_stays (beside_joins Any) by_chip by_host refl o.to_host o.to_chip ChipKnown Anything chip_turns tells.units own oth
      by (inl none) =
          let are : judged ≡ [] = all_taken o.to_chip oth o.chip.decoder rest judged rests feeds oth_fills ∙ none_carried o.to_chip oth_fills.items none oth_fills.carries in
          record { more = own.answers; loose = let few = own_fills.few in omega (arith, few); few = inl (tells.none (no_ways ways are)); tight = inr tt; due = due }
      by (inr zero) = record { more = 0; loose = let few = own_fills.few in omega (arith, few, zero); few = inr (inl refl); tight = inr tt; due = due }

  pub chip_takes_all : May m (Outside_does takes) → WritesWell m (Outside_does takes) → SettlingShown past m
      → EachAfter MayFit past (entries m (Outside_does takes)) × (SettlingShown (past ++ entries m (Outside_does takes)) (happens m (Outside_does takes)) × HasGone (past ++ entries m (Outside_does takes)) (happens m (Outside_does takes)))
  unfolding happens entries May MayOutside
  chip_takes_all may well known =
      let shown = known.0 in
      let x : Outcome = outcome m.outside takes in
      let n : OuterState = has_entered x.outer x.entries in
      let told : List Entry = stamp x.outer x.entries in
      let all : List Entry = past ++ told in
      let may_take : MayTake o (length o.to_chip.bytes) rest ways = may.1 in
      let tells = takes_tell m.outside (length o.to_chip.bytes) rest ways shown.frames may_take.judges in
      let still = entered_still x.outer x.entries in
      let got =
      went IsBeside beside_nothing Any any_stays (beside_joins Any) by_chip by_host refl o.to_host o.to_chip ChipKnown Anything chip_turns (awaits_number o) (awaits_number n) told x.entries tells.units
      (numbered o x.outer x.entries (outcome_time m.outside takes tt)) tells.told tells.fit (chip_room tells shown.rests.chip may_take.feeds) past
      (record { own = shown.down; oth = shown.up; own_comes = shown.down_comes; oth_comes = shown.up_comes; fits = shown.fits; good = tt }) known.1 in
      let from = got.1 in
      let w = from.written in
      let after_it = later past m (Outside_does takes) shown may refl well in
      let frames : (pipe_from by_host empty_pipe all).frames ≡ [] =
      all_answered o.to_chip (pipe_from by_host empty_pipe from.start) (pipe_from by_host empty_pipe all).frames (answers_all tells.units) judged from.lies.oth
      (all_taken o.to_chip (pipe_from by_host empty_pipe from.start) o.chip.decoder rest judged shown.rests.chip may_take.feeds from.lies.oth) tells.answers w.frames in
      let empty : n.to_chip.bytes ≡ [] = ap (λ (y : WayState). y.bytes) still.to_chip ∙ tells.to_chip ∙ drop_whole o.to_chip.bytes in
      let to_host : n.to_host ≡ written_all o.to_host tells.units = still.to_host ∙ tells.to_host in (
        got.0,
        (
          (
            record {
              up = fills_none n.to_chip (pipe_from by_host empty_pipe all) empty frames w.idle;
              down = subst (λ (y : WayState). Fills y (pipe_from by_chip empty_pipe all)) (sym to_host) w.own;
              up_comes = comes_taken o.to_chip n.to_chip (arrived by_host all) empty (comes_at o.to_chip (arrived by_host from.start) (arrived by_host all) w.oth_texts from.lies.oth_comes);
              down_comes = subst (λ (y : WayState). Comes y (arrived by_chip all)) (sym to_host) w.own_comes;
              frames = after_it.0;
              rests = after_it.1;
              fits = w.fits;
            },
            λ is.
                let was = from.known is in
                let fewer = w.fewer in
                let few = was.few in
                record {
                  heard = heard_so tells.units (pipe_from by_host empty_pipe from.start) (pipe_from by_host empty_pipe all) n.to_host to_host fewer w.gone was.heard;
                  taken = inl empty;
                  exact = λ free. inl empty;
                  few = omega (arith, fewer, few);
                },
          ),
          inl empty,
        ),
      )
    where
      heard_so : (units : List LineUnit) (old new : Pipe) (way : WayState) → way ≡ written_all o.to_host units → new.answers ≤ old.answers → (units ≡ []) ⊎ (new.answers ≡ 0)
          → (o.to_host.bytes ≡ []) ⊎ (old.answers ≡ 0) → (way.bytes ≡ []) ⊎ (new.answers ≡ 0)
      heard_so units old new way is fewer (inr gone) heard = inr gone
      heard_so units old new way is fewer (inl none) (inl empty) =
          inl (ap (λ (y : WayState). y.bytes) is ∙ ap (λ (us : List LineUnit). (written_all o.to_host us).bytes) none ∙ empty)
      heard_so units old new way is fewer (inl none) (inr zero) = inr (omega (arith, fewer, zero))

-- the host takes its bytes
module _ (past : List Entry) (m : Machine) (rest : Rest) (items : List Item) (events : List HostEvent) where
  abbrev feeds_host : Event
  feeds_host = Host_takes (length m.outside.outer.to_host.bytes) rest items events

  abbrev HostKnown : Pipe → Pipe → Type 0
  HostKnown own oth = AreSettling m.host.state own oth m.outside.outer.to_chip.bytes m.outside.outer.to_host.bytes

  abbrev IsNone : ℕ → Type 0
  IsNone more = more ≡ 0

  host_turns : (own oth : Pipe) → Fills m.outside.outer.to_chip own → Fills m.outside.outer.to_host oth → own.answers ≡ 0 → oth.answers ≡ 0 → HostKnown own oth
  host_turns own oth own_fills oth_fills one two = unanswered_settles m.host.state own oth m.outside.outer.to_chip m.outside.outer.to_host own_fills one two

  abbrev units : List LineUnit
  units = host_writes m feeds_host

  abbrev Room : Pipe → Pipe → Type 0
  Room own oth = HasRoom IsBeside beside_nothing Any any_stays (beside_joins Any) by_host by_chip refl m.outside.outer.to_chip m.outside.outer.to_host HostKnown IsNone host_turns units own oth

  -- no item, no unit
  none_written : items ≡ [] → AreJudged m.host.state items events → units ≡ []
  none_written none judged =
      let no_events : events ≡ [] = subst (λ (l : List Item). AreJudged m.host.state l events) none judged in
      ap (λ (l : List HostEvent). host_units (outs_all m.host.state l)) no_events

  host_room : m.host.decoder ≡ no_rest → Feeds m.host.decoder (take (length m.outside.outer.to_host.bytes) m.outside.outer.to_host.bytes) rest items → AreJudged m.host.state items events → (own oth : Pipe)
      → HostKnown own oth → Fills m.outside.outer.to_chip own → Fills m.outside.outer.to_host oth → Room own oth
  host_room rests feeds judged own oth known own_fills oth_fills = by known.heard
    where
      due : answers_all units ≤ length oth.frames
      due =
          due_are (answers_all units) items m.outside.outer.to_host oth oth_fills (host_answers m.host.state items events judged)
          (all_taken m.outside.outer.to_host oth m.host.decoder rest items rests feeds oth_fills)

      by : (m.outside.outer.to_host.bytes ≡ []) ⊎ (own.answers ≡ 0) → Room own oth
      by (inl none) =
          let are : items ≡ [] =
          all_taken m.outside.outer.to_host oth m.host.decoder rest items rests feeds oth_fills ∙ none_carried m.outside.outer.to_host oth_fills.items none oth_fills.carries in
          let none_so = none_written are judged in
          record { more = own.answers; loose = let few = own_fills.few in omega (arith, few); few = inl none_so; tight = inl none_so; due = due }
      by (inr zero) = record { more = 0; loose = let few = own_fills.few in omega (arith, few, zero); few = inr (inl refl); tight = inr refl; due = due }

  pub host_takes_all : May m feeds_host → WritesWell m feeds_host → SettlingShown past m → HasGone past m
      → EachAfter MayFit past (entries m feeds_host) × SettlingShown (past ++ entries m feeds_host) (happens m feeds_host)
  unfolding May outcome
  host_takes_all may well known gone =
      let shown = known.0 in
      let o : OuterState = m.outside.outer in
      let f : Outside = (fed m (length o.to_host.bytes) rest).outside in
      let n : OuterState = (happens m feeds_host).outside.outer in
      let told : List Entry = entries m feeds_host in
      let all : List Entry = past ++ told in
      let tells = takes_tells m (length o.to_host.bytes) rest items events in
      let answered : answers_all units ≡ answers_due items = host_answers m.host.state items events may.judged in
      let got =
      went IsBeside beside_nothing Any any_stays (beside_joins Any) by_host by_chip refl o.to_chip o.to_host HostKnown IsNone host_turns (awaits_number o) (awaits_number n) told tells.told units
      (numbered_of f.outer n told tells.told tells.enters) tells.tells well (host_room shown.rests.host may.feeds may.judged) past (record { own = shown.up; oth = shown.down; own_comes = shown.up_comes; oth_comes = shown.down_comes; fits = shown.fits; good = tt }) known.1 in
      let from = got.1 in
      let w = from.written in
      let after_it = later past m feeds_host shown may refl well in
      let frames : (pipe_from by_chip empty_pipe all).frames ≡ [] =
      all_answered o.to_host (pipe_from by_chip empty_pipe from.start) (pipe_from by_chip empty_pipe all).frames (answers_all units) items from.lies.oth
      (all_taken o.to_host (pipe_from by_chip empty_pipe from.start) m.host.decoder rest items shown.rests.host may.feeds from.lies.oth) answered w.frames in
      let empty : n.to_host.bytes ≡ [] = ap (λ (y : WayState). y.bytes) tells.to_host ∙ drop_whole o.to_host.bytes in
      let was_empty : o.to_chip.bytes ≡ [] = gone_empty gone may.moves in
      let still_empty : units ≡ [] → n.to_chip.bytes ≡ [] = λ none. ap (λ (y : WayState). y.bytes) tells.to_chip ∙ ap (λ (us : List LineUnit). (written_all o.to_chip us).bytes) none ∙ was_empty in (
        got.0,
        (
          record {
            up = subst (λ (y : WayState). Fills y (pipe_from by_host empty_pipe all)) (sym tells.to_chip) w.own;
            down = fills_none n.to_host (pipe_from by_chip empty_pipe all) empty frames w.idle;
            up_comes = subst (λ (y : WayState). Comes y (arrived by_host all)) (sym tells.to_chip) w.own_comes;
            down_comes = comes_taken o.to_host n.to_host (arrived by_chip all) empty (comes_at o.to_host (arrived by_chip from.start) (arrived by_chip all) w.oth_texts from.lies.oth_comes);
            frames = after_it.0;
            rests = after_it.1;
            fits = w.fits;
          },
          λ is.
              let was = from.known is in
              record {
                heard = inl empty;
                taken = taken_so (pipe_from by_chip empty_pipe all) n.to_chip still_empty w.gone;
                exact = λ free. exact_so from.more (pipe_from by_host empty_pipe all) n.to_chip tells.to_chip still_empty from.tight w.loose;
                few = few_so (pipe_from by_host empty_pipe from.start) (pipe_from by_host empty_pipe all) (pipe_from by_chip empty_pipe from.start) from.lies.oth
                    (all_taken o.to_host (pipe_from by_chip empty_pipe from.start) m.host.decoder rest items shown.rests.host may.feeds from.lies.oth) answered may.judged w.answers was.few was.heard;
              },
        ),
      )
    where
      gone_empty : HasGone past m → is_stalled m.outside.outer ≡ false → m.outside.outer.to_chip.bytes ≡ []
      gone_empty (inl none) moves = none
      gone_empty (inr stalled) moves = never (is_stalled m.outside.outer) moves stalled

      taken_so : (pipe : Pipe) (way : WayState) → (units ≡ [] → way.bytes ≡ []) → (units ≡ []) ⊎ (pipe.answers ≡ 0) → (way.bytes ≡ []) ⊎ (pipe.answers ≡ 0)
      taken_so pipe way empty (inl none) = inl (empty none)
      taken_so pipe way empty (inr zero) = inr zero

      exact_so : (more : ℕ) (pipe : Pipe) (way : WayState) → way ≡ written_all m.outside.outer.to_chip units → (units ≡ [] → way.bytes ≡ []) → (units ≡ []) ⊎ (more ≡ 0)
          → sum_of pipe.frames + pipe.answers ≤ length (written_all m.outside.outer.to_chip units).bytes + more → (way.bytes ≡ []) ⊎ IsExact pipe way.bytes
      exact_so more pipe way is empty (inl none) loose = inl (empty none)
      exact_so more pipe way is empty (inr zero) loose = inr (subst (λ (y : WayState). IsExact pipe y.bytes) (sym is) (omega (arith, loose, zero)))

      few_so : (old new down : Pipe) → (fills : Fills m.outside.outer.to_host down) → items ≡ fills.items → answers_all units ≡ answers_due items → AreJudged m.host.state items events
          → new.answers ≤ old.answers + answers_all units → old.answers + old.answers ≤ 4096 → (m.outside.outer.to_host.bytes ≡ []) ⊎ (old.answers ≡ 0) → new.answers + new.answers ≤ 4096
      few_so old new down fills are answered judged given few (inl empty) =
          let none : items ≡ [] = are ∙ none_carried m.outside.outer.to_host fills.items empty fills.carries in
          let zero : answers_due items ≡ 0 = ap (λ (l : List Item). answers_due l) none in
          omega (arith, given, few, answered, zero)
      few_so old new down fills are answered judged given few (inr zero) =
          let many = fills.many in
          let long = fills.long in
          let held = fills.few in
          let room = fills.room in
          let same : answers_due items ≡ answers_due fills.items = ap (λ (l : List Item). answers_due l) are in
          omega (arith, given, zero, answered, same, many, long, held, room)

-- ---- where the host may submit

-- it writes no answer; it writes nothing if it may submit after it; and what it writes, where it might submit before, is short
pub record Pumped (h later : HostState) (written : List LineUnit) : Type 0 where
  pub zero : answers_all written ≡ 0
  pub free : IsFree later → (written ≡ []) × IsFree h
  pub start : (written ≡ []) ⊎ (IsFree h × (bytes_all written ≤ 257))

module _ (past : List Entry) (m : Machine) (event : HostEvent) where
  abbrev PumpKnown : Pipe → Pipe → Type 0
  PumpKnown own oth = AreSettling m.host.state own oth m.outside.outer.to_chip.bytes m.outside.outer.to_host.bytes

  abbrev AnyMore : ℕ → Type 0
  AnyMore more = Unit {0}

  pump_turns : (own oth : Pipe) → Fills m.outside.outer.to_chip own → Fills m.outside.outer.to_host oth → own.answers ≡ 0 → oth.answers ≡ 0 → PumpKnown own oth
  pump_turns own oth own_fills oth_fills one two = unanswered_settles m.host.state own oth m.outside.outer.to_chip m.outside.outer.to_host own_fills one two

  abbrev pumped_units : List LineUnit
  pumped_units = host_writes m (Host_does event)

  abbrev PumpRoom : Pipe → Pipe → Type 0
  PumpRoom own oth = HasRoom IsBeside beside_nothing Any any_stays (beside_joins Any) by_host by_chip refl m.outside.outer.to_chip m.outside.outer.to_host PumpKnown AnyMore pump_turns pumped_units own oth

  pump_room : answers_all pumped_units ≡ 0 → (pumped_units ≡ []) ⊎ (IsFree m.host.state × (bytes_all pumped_units ≤ 257)) → (own oth : Pipe) → PumpKnown own oth → Fills m.outside.outer.to_chip own → Fills m.outside.outer.to_host oth → PumpRoom own oth
  pump_room unanswered (inl none) own oth known own_fills oth_fills =
      record { more = own.answers; loose = let few = own_fills.few in omega (arith, few); few = inl none; tight = inr tt; due = omega (arith, unanswered) }
  pump_room unanswered (inr (free, short)) own oth known own_fills oth_fills = by (known.exact free)
    where
      by : (m.outside.outer.to_chip.bytes ≡ []) ⊎ IsExact own m.outside.outer.to_chip.bytes → PumpRoom own oth
      by (inl empty) =
          let none : length m.outside.outer.to_chip.bytes ≡ 0 = ap (λ (l : List ℕ). length l) empty in
          let given = known.few in
          record { more = own.answers; loose = let few = own_fills.few in omega (arith, few); few = inr (inr (omega (arith, none, given, short))); tight = inr tt; due = omega (arith, unanswered) }
      by (inr exact) = record { more = 0; loose = omega (arith, exact); few = inr (inl refl); tight = inr tt; due = omega (arith, unanswered) }

  pub pump_goes : May m (Host_does event) → WritesWell m (Host_does event) → Pumped m.host.state (happens m (Host_does event)).host.state pumped_units → SettlingShown past m
      → EachAfter MayFit past (entries m (Host_does event)) × SettlingShown (past ++ entries m (Host_does event)) (happens m (Host_does event))
  pump_goes may well pumped known =
      let shown = known.0 in
      let o : OuterState = m.outside.outer in
      let n : OuterState = (happens m (Host_does event)).outside.outer in
      let told : List Entry = entries m (Host_does event) in
      let all : List Entry = past ++ told in
      let tells = does_tells m event in
      let got =
      went IsBeside beside_nothing Any any_stays (beside_joins Any) by_host by_chip refl o.to_chip o.to_host PumpKnown AnyMore pump_turns (awaits_number o) (awaits_number n) told tells.told pumped_units
      (numbered_of o n told tells.told tells.enters) tells.tells well (pump_room pumped.zero pumped.start) past (record { own = shown.up; oth = shown.down; own_comes = shown.up_comes; oth_comes = shown.down_comes; fits = shown.fits; good = tt }) known.1 in
      let from = got.1 in
      let w = from.written in
      let after_it = later past m (Host_does event) shown may tt well in
      let same : (pipe_from by_chip empty_pipe all).frames ≡ (pipe_from by_chip empty_pipe from.start).frames =
      w.frames ∙ ap (λ (k : ℕ). drop k (pipe_from by_chip empty_pipe from.start).frames) pumped.zero in
      let to_host : n.to_host.bytes ≡ o.to_host.bytes = ap (λ (y : WayState). y.bytes) tells.to_host in
      let to_chip : pumped_units ≡ [] → n.to_chip.bytes ≡ o.to_chip.bytes =
      λ none. ap (λ (y : WayState). y.bytes) tells.to_chip ∙ ap (λ (us : List LineUnit). (written_all o.to_chip us).bytes) none in (
        got.0,
        (
          record {
            up = subst (λ (y : WayState). Fills y (pipe_from by_host empty_pipe all)) (sym tells.to_chip) w.own;
            down = subst (λ (y : WayState). Fills y (pipe_from by_chip empty_pipe all)) (sym tells.to_host)
                (fills_as o.to_host (pipe_from by_chip empty_pipe from.start) (pipe_from by_chip empty_pipe all) same w.idle from.lies.oth);
            up_comes = subst (λ (y : WayState). Comes y (arrived by_host all)) (sym tells.to_chip) w.own_comes;
            down_comes = subst (λ (y : WayState). Comes y (arrived by_chip all)) (sym tells.to_host)
                (comes_at o.to_host (arrived by_chip from.start) (arrived by_chip all) w.oth_texts from.lies.oth_comes);
            frames = after_it.0;
            rests = after_it.1;
            fits = w.fits;
          },
          λ is.
              let was = from.known is in
              let given = w.answers in
              let zero = pumped.zero in
              let few = was.few in
              record {
                heard = heard_so (pipe_from by_host empty_pipe from.start) (pipe_from by_host empty_pipe all) n.to_host.bytes to_host (answers_same (pipe_from by_host empty_pipe from.start) (pipe_from by_host empty_pipe all) given zero) was.heard;
                taken = taken_so (pipe_from by_chip empty_pipe from.start) (pipe_from by_chip empty_pipe all) n.to_chip.bytes to_chip w.fewer w.gone was.taken;
                exact = λ free. let before = pumped.free free in
                    exact_so (pipe_from by_host empty_pipe from.start) (pipe_from by_host empty_pipe all) n.to_chip.bytes (to_chip before.0) (w.same before.0) (was.exact before.1);
                few = omega (arith, given, zero, few);
              },
        ),
      )
    where
      answers_same : (old new : Pipe) → new.answers ≤ old.answers + answers_all pumped_units → answers_all pumped_units ≡ 0 → new.answers ≤ old.answers
      answers_same old new given zero = omega (arith, given, zero)

      heard_so : (old new : Pipe) (bytes : List ℕ) → bytes ≡ m.outside.outer.to_host.bytes → new.answers ≤ old.answers → (m.outside.outer.to_host.bytes ≡ []) ⊎ (old.answers ≡ 0) → (bytes ≡ []) ⊎ (new.answers ≡ 0)
      heard_so old new bytes same fewer (inl empty) = inl (same ∙ empty)
      heard_so old new bytes same fewer (inr zero) = inr (omega (arith, fewer, zero))

      taken_so : (old new : Pipe) (bytes : List ℕ) → (pumped_units ≡ [] → bytes ≡ m.outside.outer.to_chip.bytes) → new.answers ≤ old.answers → (pumped_units ≡ []) ⊎ (new.answers ≡ 0)
          → (m.outside.outer.to_chip.bytes ≡ []) ⊎ (old.answers ≡ 0) → (bytes ≡ []) ⊎ (new.answers ≡ 0)
      taken_so old new bytes same fewer (inr gone) taken = inr gone
      taken_so old new bytes same fewer (inl none) (inl empty) = inl (same none ∙ empty)
      taken_so old new bytes same fewer (inl none) (inr zero) = inr (omega (arith, fewer, zero))

      exact_so : (old new : Pipe) (bytes : List ℕ) → bytes ≡ m.outside.outer.to_chip.bytes → new ≡ old → (m.outside.outer.to_chip.bytes ≡ []) ⊎ IsExact old m.outside.outer.to_chip.bytes → (bytes ≡ []) ⊎ IsExact new bytes
      exact_so old new bytes same is (inl empty) = inl (same ∙ empty)
      exact_so old new bytes same is (inr exact) = inr (subst (λ (l : List ℕ). IsExact new l) (sym same) (subst (λ (p : Pipe). IsExact p m.outside.outer.to_chip.bytes) (sym is) exact))

-- ---- which events these are

frame_short : (f : FrameParts) → IsUnit (Framed f) → bytes_all (Framed f ∷ []) ≤ 257
frame_short f short = omega (arith, short, length-append (counted_of f) (checksum (counted_of f) ∷ []))

-- a request is submitted: the line is busy then
submitted : (h after_it : HostState) (f : FrameParts) → IsFree h → is_busy after_it.side.turn ≡ true → IsUnit (Framed f) × Unit {0} → Pumped h after_it (Framed f ∷ [])
submitted h after_it f free busy fit = record {
  zero = refl;
  free = λ later. never (is_busy after_it.side.turn) later.free_line busy;
  start = inr (free, frame_short f fit.0);
}

-- nothing is written
pub none_pumped : (h after_it : HostState) → (IsFree after_it → IsFree h) → Pumped h after_it []
none_pumped h after_it still = record { zero = refl; free = λ later. (refl, still later); start = inl refl }

abbrev pub PumpsAt : HostState → HostEvent → Type 0
PumpsAt h event = AllByRecursion IsUnit (host_units (outs_all h (event ∷ []))) → Pumped h (after h event) (host_units (outs_all h (event ∷ [])))

pub no_more_pumps : (h : HostState) (node : ℕ) → PumpsAt h (no_more_event h node)
no_more_pumps h node = by (is_full h)
  where
    by : (b : Bool) → PumpsAt h (if b then Drops_no_more node else Queues_no_more node)
    by true fit = none_pumped h (after h (Drops_no_more node)) (λ later. record { none_under_way = later.none_under_way; free_line = later.free_line })
    by false fit = none_pumped h (after h (Queues_no_more node)) (λ later. record { none_under_way = later.none_under_way; free_line = later.free_line })

pub next_pumps : (h : HostState) (event : HostEvent) → IsNext h event → PumpsAt h event
next_pumps h event is = next_is (PumpsAt h) each h event is
  where
    busy : (after_it : HostState) (f : FrameParts) → is_busy after_it.side.turn ≡ true → IsUnit (Framed f) × Unit {0} → Pumped h after_it (Framed f ∷ [])
    busy after_it f = submitted h after_it f is.0

    each : SubmittedAre (PumpsAt h)
    each = record {
      abort = λ fit. busy (after h Submits_abort) _ refl fit;
      front = λ fit. busy (after h Submits_front) _ refl fit;
      starts = λ n plan more payload fit. busy (after h (Starts n plan more payload)) _ refl fit;
      text = λ n payload fit. busy (after h (Gives_text n payload)) _ refl fit;
      segment = λ n more payload fit. busy (after h (Gives_segment n more payload)) _ refl fit;
      begins = λ n session command fit. none_pumped h (after h (Begins n session command)) (λ later. is.0);
      unkept = λ n fit. none_pumped h (after h (Begin_unkept n)) (λ later. is.0);
    }
