-- What is known of both links goes on with one event of the machine: of the chip, which writes to the host, of the host, which writes to the chip, and of what the chip is given.
use Rattle.std.proofs.Common.{◌≡◌, ◌≤◌, ℕ, Bool, true, inl, inr, List, [], ◌∷◌, ◌++◌, length, refl, sym, ap, ◌∙◌, subst, append-nil, arith}
use Rattle.std.specs.List.{AllByRecursion}
use Rattle.serial_frame.specs.Items.{IsUnit}
use Rattle.serial_frame.specs.Stream.{Rest}
use Rattle.serial_frame.specs.declared.unit.Unit.{Unit as LineUnit}
use Rattle.serial_pipes.specs.State.{WayState}
use Rattle.chip_sim.specs.State.{ChipParts}
use Rattle.chip_sim.specs.Rules.{WaitsWell}
use Rattle.serial_link.specs.Rules.{SideObeys, Step, ticks_of}
use Rattle.zw_words.specs.declared.side.Side.TheVariants.{Host, Chip}
use Rattle.zw_text.specs.declared.entry.Entry.{Entry}
use Rattle.law_wire.specs.Asked.{course_of}
use Rattle.law_wire.specs.Clearing.{to_clear}
use Rattle.law_wire.specs.Serial.{serial_events}
use Rattle.proof_walk.specs.outside_model.State.{OuterState, Outcome}
use Rattle.proof_walk.specs.outside_model.Events.{OuterEvent, has_entered, outcome, stamp, ticked_entry}
use Rattle.proof_walk.specs.world_model.State.{Machine}
use Rattle.proof_walk.specs.world_model.Events.{Event, Outside_does, happens, entries, May}
use Rattle.proof_walk.specs.world_model.Settling.{TakesWhole}
use Rattle.proof_world.specs.proof_serial.Way.{Carries, written_all}
use Rattle.proof_world.specs.proof_serial.Chip.{HasFrames}
use Rattle.proof_world.specs.proof_serial.Line.{AreAtRest, IsWhole, WritesWell}
use Rattle.proof_world.proofs.Events.{at_rest, rests_after, whole_after}
use Rattle.proof_world.proofs.Outer.{entered_still}
use Rattle.proof_traffic.specs.Links.{KeepsItsLink}
use Rattle.proof_walk.proofs.Times.{IsWithin, outcome_time}
use Rattle.proof_line.specs.Links.{AtLine, Brings, IsMute, KnowsLink, LinkNow, tick_told, with_arriving}
use Rattle.proof_line.specs.Linked.{◌⊕◌, Cuts, Did, IsTimed, KnowsBoth}
use Rattle.proof_line.proofs.Numbering.{Enters, enters_timed, outer_enters, ticked_none}
use Rattle.proof_line.proofs.Tellings.{IsBeside, Tells}
use Rattle.proof_line.proofs.HostTelling.{hosts_time}
use Rattle.proof_line.proofs.LinkUntil.{StallsNot, outcome_leaves}
use Rattle.proof_line.proofs.LinkTime.{Apart, tells_apart}
use Rattle.proof_line.proofs.LinkTold.{arriving_all, brings_more, others_known}
use Rattle.proof_line.proofs.LinkGiven.{AfterGiven, GoesGiven, GrowsChip, GrowsHost, brings_same, line_other}
use Rattle.proof_line.proofs.LinkCourse.{course_mute}
use Rattle.proof_line.proofs.LinkChip.{obeyed}
use Rattle.proof_line.proofs.LinkEnds.{cuts_as, cuts_more, line_cuts}

-- ---- what stays

-- the round goes on
pub record SameRound (old new : LinkNow) : Type 0 where
  pub is_tick : new.is_tick ≡ old.is_tick
  pub clock : new.clock ≡ old.clock
  pub until : new.until ≡ old.until
  pub starts : new.starts ≡ old.starts

same_timed : (o n : OuterState) (old new : LinkNow) → n.clock ≡ o.clock → n.stalled_until ≡ o.stalled_until → SameRound old new → IsTimed o old → IsTimed n new
same_timed o n old new clock until same timed = record { clock = same.clock ∙ timed.clock ∙ sym clock; until = same.until ∙ timed.until ∙ sym until }

-- what is on its way is whole, and stays so
pub whole_both : {did : Did} (is_tick : Bool) (past : List Entry) (m : Machine) (up down : LinkNow) → KnowsBoth did is_tick past m up down → IsWhole m
whole_both is_tick past m up down both = record {
  up = both.chip_way.items;
  down = both.line.way.items;
  carried = record {
    to_chip = subst (λ (r : Rest). Carries r m.outside.outer.to_chip both.chip_way.items) (sym both.rests.chip) both.chip_way.carries;
    to_host = subst (λ (r : Rest). Carries r m.outside.outer.to_host both.line.way.items) (sym both.rests.host) both.line.way.carries;
  };
  frames = both.frames;
}

pub later_both : {did : Did} (is_tick : Bool) (past : List Entry) (m : Machine) (event : Event) (up down : LinkNow) → KnowsBoth did is_tick past m up down → May m event → TakesWhole m event → WritesWell m event
    → HasFrames (happens m event).outside.outer.chip.state.port × AreAtRest (happens m event)
later_both is_tick past m event up down both may takes well =
    let whole = whole_both is_tick past m up down both in
    ((whole_after m event whole may (at_rest m event both.rests) well).frames, rests_after m event whole both.rests may takes well)

-- ---- any event

pub none_more : (did : Did) → did ⊕ [] ≡ did
none_more did = ap (λ (l : List Step). record { steps = l; starts = did.starts }) (append-nil did.steps)

-- the chip's link did more, and wrote nothing where nothing is told
pub record DidMore (did now : Did) (told : List Entry) : Type 0 where
  pub more : List Step
  pub is : now ≡ did ⊕ more
  pub quiet : told ≡ [] → AllByRecursion IsMute more

pub no_more : (did : Did) (told : List Entry) → DidMore did did told
no_more did told = record { more = []; is = sym (none_more did); quiet = λ none. tt }

-- where this is entered
pub goes_both : {did now : Did} (is_tick : Bool) (past told : List Entry) (m n : Machine) (told_all : List Entry) (up later down after_it : LinkNow) → KnowsBoth did is_tick past m up down → Cuts did past
    → DidMore did now told → later.life ≡ now.steps
    → Enters m.outside.outer n.outside.outer told_all told → n.outside.outer.clock ≡ m.outside.outer.clock → n.outside.outer.stalled_until ≡ m.outside.outer.stalled_until
    → AtLine ((past ++ ticked_entry m.outside.outer) ++ told) n.outside.outer later after_it → SameRound up later → SameRound down after_it → Brings n.outside.outer.to_chip later.coming
    → after_it.link ≡ n.host.state.side → KeepsItsLink after_it.life n.host.state → HasFrames n.outside.outer.chip.state.port × AreAtRest n → Cuts now (past ++ told_all) × KnowsBoth now is_tick (past ++ told_all) n later after_it
goes_both {did} {now} is_tick past told m n told_all up later down after_it both cuts grows life enters clock until at same_up same_down way link keeps whole = (
  cuts_then enters,
  record {
    line = line;
    behind = behind_then enters;
    chip_way = way;
    chip_time = same_timed m.outside.outer n.outside.outer up later clock until same_up both.chip_time;
    host_time = same_timed m.outside.outer n.outside.outer down after_it clock until same_down both.host_time;
    life = life;
    starts = same_up.starts ∙ both.starts ∙ sym (ap (λ (d : Did). d.starts) grows.is);
    chip_round = same_up.is_tick ∙ both.chip_round;
    host_round = same_down.is_tick ∙ both.host_round;
    host_link = link;
    keeps = keeps;
    frames = whole.0;
    rests = whole.1;
  },
)
  where
    line : AtLine ((past ++ told_all) ++ ticked_entry n.outside.outer) n.outside.outer later after_it
    line = subst (λ (l : List Entry). AtLine l n.outside.outer later after_it) (sym (enters_timed past m.outside.outer n.outside.outer told_all told clock enters)) at

    -- the number of the tick is entered
    ended_line : AtLine (past ++ told_all) n.outside.outer later after_it → tick_told (past ++ told_all) ≤ n.outside.outer.clock
    ended_line here =
        let now : tick_told (past ++ told_all) ≡ n.outside.outer.clock = here.time ∙ same_up.clock ∙ both.chip_time.clock ∙ sym clock in
        omega (arith, now)

    unstamped : ticked_entry n.outside.outer ≡ [] → AtLine (past ++ told_all) n.outside.outer later after_it
    unstamped none = subst (λ (l : List Entry). AtLine l n.outside.outer later after_it) (ap (λ (l : List Entry). (past ++ told_all) ++ l) none ∙ append-nil (past ++ told_all)) line

    nothing_more : told_all ≡ [] → past ++ told_all ≡ past
    nothing_more none = ap (λ (l : List Entry). past ++ l) none ∙ append-nil past

    -- what it did more wrote nothing
    same_course : told ≡ [] → course_of did.steps ≡ course_of (did.steps ++ grows.more)
    same_course none =
        sym (course_mute did.steps grows.more later.link
        (subst (λ (l : List Step). SideObeys l later.link) (life ∙ ap (λ (d : Did). d.steps) grows.is) (obeyed Chip (serial_events ((past ++ ticked_entry m.outside.outer) ++ told)) later at.chip)) (grows.quiet none))

    cuts_then : Enters m.outside.outer n.outside.outer told_all told → Cuts now (past ++ told_all)
    cuts_then (inl (none, nothing, same)) =
        subst (Cuts now) (sym (nothing_more nothing)) (subst (λ (d : Did). Cuts d past) (sym grows.is) (cuts_more did grows.more past (same_course none) (grows.quiet none) cuts))
    cuts_then (inr (is, ended)) =
        cuts_as later now (past ++ told_all) life (same_up.starts ∙ both.starts ∙ sym (ap (λ (d : Did). d.starts) grows.is))
        (line_cuts (past ++ told_all) n.outside.outer later after_it (unstamped (ticked_none n.outside.outer ended)))

    behind_then : Enters m.outside.outer n.outside.outer told_all told → tick_told (past ++ told_all) ≤ n.outside.outer.clock
    behind_then (inl (none, nothing, same)) =
        let here : tick_told (past ++ told_all) ≡ tick_told past = ap (λ (l : List Entry). tick_told l) (nothing_more nothing) in
        let behind = both.behind in
        omega (arith, here, behind, clock)
    behind_then (inr (is, ended)) = ended_line (unstamped (ticked_none n.outside.outer ended))

-- ---- outside

entered_time : (o : OuterState) (told : List Entry) → hosts_time (has_entered o told) ≡ hosts_time o
entered_time o [] = refl
entered_time o (e ∷ told) = refl

-- whether a tick runs stays, and its number
pub tick_stays : (m : Machine) (event : OuterEvent) → IsWithin event → (happens m (Outside_does event)).outside.outer.in_tick ≡ m.outside.outer.in_tick
unfolding happens
tick_stays m event within =
    let x : Outcome = outcome m.outside event in
    ap (λ (t : Bool × ℕ × ℕ). t.0) (entered_time x.outer x.entries) ∙ ap (λ (t : Bool × Bool × ℕ). t.0) (outcome_time m.outside event within)

pub clock_stays : (m : Machine) (event : OuterEvent) → IsWithin event → (happens m (Outside_does event)).outside.outer.clock ≡ m.outside.outer.clock
unfolding happens
clock_stays m event within =
    let x : Outcome = outcome m.outside event in
    ap (λ (t : Bool × ℕ × ℕ). t.1) (entered_time x.outer x.entries) ∙ ap (λ (t : Bool × Bool × ℕ). t.2) (outcome_time m.outside event within)

pub until_stays : (m : Machine) (event : OuterEvent) → StallsNot event → (happens m (Outside_does event)).outside.outer.stalled_until ≡ m.outside.outer.stalled_until
unfolding happens
until_stays m event apart =
    let x : Outcome = outcome m.outside event in ap (λ (t : Bool × ℕ × ℕ). t.2) (entered_time x.outer x.entries) ∙ outcome_leaves m.outside event apart

-- what is outside after an event, where these units are written to the host
pub record ChipSays (o : OuterState) (x : Outcome) (units : List LineUnit) (later : LinkNow) : Type 0 where
  pub tells : Tells IsBeside Chip o.to_host units x.entries
  pub to_host : x.outer.to_host ≡ written_all o.to_host units
  pub fit : AllByRecursion IsUnit units
  pub way : Brings x.outer.to_chip later.coming
  pub link : later.link ≡ x.outer.chip.state.port.side
  pub waits : WaitsWell x.outer.chip.state.port

pub chip_writes_both : {did now : Did} (is_tick : Bool) (past : List Entry) (m : Machine) (event : OuterEvent) (up later down : LinkNow) (units : List LineUnit) → IsWithin event → StallsNot event
    → KnowsBoth did is_tick past m up down → Cuts did past → DidMore did now (outcome m.outside event).entries → later.life ≡ now.steps → KnowsLink Chip ((past ++ ticked_entry m.outside.outer) ++ (outcome m.outside event).entries) later → ChipSays m.outside.outer (outcome m.outside event) units later → SameRound up later
    → later.lost ≡ up.lost → HasFrames (happens m (Outside_does event)).outside.outer.chip.state.port × AreAtRest (happens m (Outside_does event))
    → Cuts now (past ++ entries m (Outside_does event))
    × KnowsBoth now is_tick (past ++ entries m (Outside_does event)) (happens m (Outside_does event)) later (with_arriving down (arriving_all Chip m.outside.outer.to_host units))
unfolding happens entries
chip_writes_both is_tick past m event up later down units within apart both cuts grows life chip says same lost whole =
    let o : OuterState = m.outside.outer in
    let x : Outcome = outcome m.outside event in
    let n : OuterState = has_entered x.outer x.entries in
    let arriving : List (List ℕ) = arriving_all Chip o.to_host units in
    let timed : List Entry = past ++ ticked_entry o in
    let still = entered_still x.outer x.entries in
    let told : Apart timed (timed ++ x.entries) = tells_apart units Chip o.to_host timed x.entries says.tells in
    let line : AtLine (timed ++ x.entries) x.outer later (with_arriving down arriving) =
    record {
      chip = chip;
      host = others_known units Host timed down o.to_host x.entries both.line.way.bytes both.line.host says.tells;
      link = says.link;
      waits = says.waits;
      way = subst (λ (w : WayState). Brings w (down.coming ++ arriving)) (sym says.to_host) (brings_more Chip units o.to_host down.coming says.fit both.line.way);
      time = told.time ∙ both.line.time ∙ sym same.clock;
      many = ap (λ (l : List ℕ). length l) lost ∙ both.line.many;
      clears = told.clears ∙ both.line.clears ∙ ap (λ (l : List ℕ). to_clear l down.lost) (sym lost);
    } in
    goes_both is_tick past x.entries m (happens m (Outside_does event)) (stamp x.outer x.entries) up later down (with_arriving down arriving) both cuts grows life
    (outer_enters o x.outer x.entries (outcome_time m.outside event within)) (clock_stays m event within) (until_stays m event apart)
    (line_other (timed ++ x.entries) x.outer later (with_arriving down arriving) n (ap (λ (c : ChipParts). c.state.port) still.chip) (ap (λ (w : WayState). w.bytes) still.to_host) line)
    same (record { is_tick = refl; clock = refl; until = refl; starts = refl }) (subst (λ (w : WayState). Brings w later.coming) (sym still.to_chip) says.way) both.host_link both.keeps whole

-- the chip is given something, or it goes on beside the line
abbrev pub Grown : (did : Did) (steps : List Step) → Bool → List Entry → Machine → LinkNow → LinkNow → Type 0
Grown did steps is_tick past m up down =
    (later : LinkNow) × (after_it : LinkNow) × (Cuts (did ⊕ steps) past × KnowsBoth (did ⊕ steps) is_tick past m later after_it) × GrowsChip steps up later × GrowsHost down after_it

pub given_both : {did : Did} (steps : List Step) (is_tick : Bool) (past : List Entry) (m : Machine) (event : OuterEvent) (up down : LinkNow) → IsWithin event → StallsNot event
    → KnowsBoth did is_tick past m up down → Cuts did past → (up.is_tick ≡ true → ticks_of up.round ≡ 0) → GoesGiven steps m.outside.outer (outcome m.outside event) → (outcome m.outside event).outer.to_chip.bytes ≡ m.outside.outer.to_chip.bytes
    → HasFrames (happens m (Outside_does event)).outside.outer.chip.state.port × AreAtRest (happens m (Outside_does event))
    → Grown did steps is_tick (past ++ entries m (Outside_does event)) (happens m (Outside_does event)) up down
unfolding happens entries
given_both {did} steps is_tick past m event up down within apart both cuts early goes to_chip whole =
    let o : OuterState = m.outside.outer in
    let x : Outcome = outcome m.outside event in
    let n : OuterState = has_entered x.outer x.entries in
    let timed : List Entry = past ++ ticked_entry o in
    let still = entered_still x.outer x.entries in
    let has : HasFrames x.outer.chip.state.port = subst (λ (c : ChipParts). HasFrames c.state.port) still.chip whole.0 in
    let got : AfterGiven steps (timed ++ x.entries) x.outer up down = goes.goes timed up down has (record { line = both.line; early = early }) in
    let up_grows : GrowsChip steps up got.up_later = got.chip_grows in
    let down_grows : GrowsHost down got.down_later = got.host_grows in (
      got.up_later,
      got.down_later,
      goes_both is_tick past x.entries m (happens m (Outside_does event)) (stamp x.outer x.entries) up got.up_later down got.down_later both cuts
          (record { more = steps; is = refl; quiet = goes.quiet }) (up_grows.life ∙ ap (λ (l : List Step). l ++ steps) both.life)
          (outer_enters o x.outer x.entries (outcome_time m.outside event within)) (clock_stays m event within)
          (until_stays m event apart)
          (line_other (timed ++ x.entries) x.outer got.up_later got.down_later n (ap (λ (c : ChipParts). c.state.port) still.chip) (ap (λ (w : WayState). w.bytes) still.to_host) got.at.line)
          (record { is_tick = up_grows.is_tick; clock = up_grows.clock; until = up_grows.until; starts = up_grows.starts })
          (record { is_tick = down_grows.is_tick; clock = down_grows.clock; until = down_grows.until; starts = down_grows.starts })
          (brings_same o.to_chip n.to_chip got.up_later.coming (ap (λ (w : WayState). w.bytes) still.to_chip ∙ to_chip)
          (subst (λ (l : List (List ℕ)). Brings o.to_chip l) (sym up_grows.coming) both.chip_way))
          (down_grows.link ∙ both.host_link) (subst (λ (l : List Step). KeepsItsLink l m.host.state) (sym down_grows.life) both.keeps) whole,
      up_grows,
      down_grows,
    )

-- ---- the host

-- what the host has written of these units, and what is entered of it; the chip and time stay
pub record HostSays (m n : Machine) (units : List LineUnit) (told_all told : List Entry) : Type 0 where
  pub tells : Tells IsBeside Host m.outside.outer.to_chip units told
  pub enters : Enters m.outside.outer n.outside.outer told_all told
  pub time : hosts_time n.outside.outer ≡ hosts_time m.outside.outer
  pub chip : n.outside.outer.chip ≡ m.outside.outer.chip
  pub to_chip : n.outside.outer.to_chip ≡ written_all m.outside.outer.to_chip units
  pub fit : AllByRecursion IsUnit units

pub host_writes_both : {did : Did} (is_tick : Bool) (past : List Entry) (m n : Machine) (up down after_it : LinkNow) (units : List LineUnit) (told_all told : List Entry) → KnowsBoth did is_tick past m up down
    → Cuts did past
    → HostSays m n units told_all told → KnowsLink Host ((past ++ ticked_entry m.outside.outer) ++ told) after_it → SameRound down after_it → after_it.lost ≡ down.lost → after_it.link ≡ n.host.state.side
    → KeepsItsLink after_it.life n.host.state → Brings n.outside.outer.to_host after_it.coming → HasFrames n.outside.outer.chip.state.port × AreAtRest n
    → Cuts did (past ++ told_all) × KnowsBoth did is_tick (past ++ told_all) n (with_arriving up (arriving_all Host m.outside.outer.to_chip units)) after_it
host_writes_both {did} is_tick past m n up down after_it units told_all told both cuts says host same lost link keeps way whole =
    let o : OuterState = m.outside.outer in
    let p : OuterState = n.outside.outer in
    let arriving : List (List ℕ) = arriving_all Host o.to_chip units in
    let later : LinkNow = with_arriving up arriving in
    let timed : List Entry = past ++ ticked_entry o in
    let apart : Apart timed (timed ++ told) = tells_apart units Host o.to_chip timed told says.tells in
    let line : AtLine (timed ++ told) p later after_it =
    record {
      chip = others_known units Chip timed up o.to_chip told both.chip_way.bytes both.line.chip says.tells;
      host = host;
      link = both.line.link ∙ sym (ap (λ (c : ChipParts). c.state.port.side) says.chip);
      waits = subst (λ (c : ChipParts). WaitsWell c.state.port) (sym says.chip) both.line.waits;
      way = way;
      time = apart.time ∙ both.line.time;
      many = both.line.many ∙ ap (λ (l : List ℕ). length l) (sym lost);
      clears = apart.clears ∙ both.line.clears ∙ ap (λ (l : List ℕ). to_clear up.lost l) (sym lost);
    } in
    goes_both is_tick past told m n told_all up later down after_it both cuts (no_more did told) both.life says.enters (ap (λ (t : Bool × ℕ × ℕ). t.1) says.time) (ap (λ (t : Bool × ℕ × ℕ). t.2) says.time) line
    (record { is_tick = refl; clock = refl; until = refl; starts = refl }) same (subst (λ (w : WayState). Brings w (up.coming ++ arriving)) (sym says.to_chip) (brings_more Host units o.to_chip up.coming says.fit both.chip_way))
    link keeps whole
