-- Where a line begins: what is known of both links once its words are counted, with what stands after them.
use Rattle.std.proofs.Common.{◌≡◌, ℕ, ◌+◌, ◌&&◌, nat_lt, Bool, true, false, if◌then◌else◌, List, [], ◌∷◌, ◌++◌, length, map, refl, sym, ap, ap₂, ◌∙◌, subst, append-nil, arith}
use Rattle.std.specs.Prelude.{max}
use Rattle.std.specs.List.{flat_map, list_any}
use Rattle.serial_link.specs.State.{Side as LinkSide}
use Rattle.serial_link.specs.Rules.{Step, SideObeys, asked}
use Rattle.chip_sim.specs.State.{ChipState}
use Rattle.chip_sim.specs.Events.{Collides, after}
use Rattle.chip_sim.specs.Rules.{WaitsWell}
use Rattle.chip_sim.proofs.Links.{obeys_event}
use Rattle.zw_words.specs.declared.side.Side.{Side}
use Rattle.zw_words.specs.declared.side.Side.TheVariants.{Host, Chip}
use Rattle.zw_text.specs.declared.line.Line.{Line}
use Rattle.zw_text.specs.declared.line.Line.TheVariants as lines
use Rattle.zw_text.specs.declared.entry.Entry.{Entry}
use Rattle.zw_text.specs.declared.entry.Entry.TheVariants as entry
use Rattle.zw_text.specs.declared.entry.Refusal.{Refusal}
use Rattle.zw_text.specs.Transcript.{line_of}
use Rattle.law_wire.specs.law_transcript.Restarts.{is_restart}
use Rattle.law_wire.specs.Clearing.{Cleared_there, clears, to_clear}
use Rattle.law_wire.specs.Serial.{SerialEvent, beginning_of, serial_events}
use Rattle.law_wire.specs.Serial.SerialEvent.{Line_begins}
use Rattle.law_wire.specs.Links.{Moment, clock_in, moments_of, stall_by}
use Rattle.proof_walk.specs.outside_model.State.{OuterState}
use Rattle.proof_walk.specs.outside_model.Events.{Begins_line, outcome, ticked_entry}
use Rattle.proof_walk.specs.world_model.State.{Machine}
use Rattle.proof_walk.specs.world_model.Events.{Outside_does, happens, entries}
use Rattle.proof_world.specs.proof_serial.Chip.{HasFrames}
use Rattle.proof_world.specs.proof_serial.Line.{AreAtRest}
use Rattle.proof_traffic.specs.Links.{KeepsItsLink}
use Rattle.proof_line.specs.Links.{AtLine, Brings, KnowsEvents, KnowsLink, LinkNow, MayEndNow, begun_line, cleared_in, due_from, stalls_in, tick_told, KnowsSide}
use Rattle.proof_line.specs.Linked.{began, done_by, said, Cuts, Did, KnowsBoth, LinksBefore, LinksBegun, LinksDone, MayBothEnd}
use Rattle.proof_line.proofs.Rooming.{not_awaited}
use Rattle.proof_line.proofs.Numbering.{ticked_none}
use Rattle.proof_line.proofs.LinkSteps.{asks_by}
use Rattle.proof_line.proofs.LinkKnown.{line_known}
use Rattle.proof_line.proofs.LinkLines.{Says, chip_is_asked, says, stall_until}
use Rattle.proof_line.proofs.LinkTime.{cleared_grow, timed_clears, timed_serials}
use Rattle.proof_line.proofs.LinkChip.{obeyed}
use Rattle.proof_line.proofs.LinkGiven.{brings_same}
use Rattle.proof_line.proofs.LinkEnds.{all_told, cuts_of}
use Rattle.proof_line.proofs.LinkTicks.{Then, in_round}

-- ---- lines of which the links only know that they begin

-- it has neither ticks nor a restart, stalls no bytes, and asks for no collision
abbrev pub IsOrdinary : Line → Type 0
IsOrdinary (lines.Tick count) = ⊥
IsOrdinary (lines.Stall ticks) = ⊥
IsOrdinary lines.Collide = ⊥
IsOrdinary lines.Restart = ⊥
IsOrdinary line = Unit {0}

pub ordinary_said : (line : Line) → IsOrdinary line → (did : Did) → said line did ≡ began did
ordinary_said (lines.Tick count) plain did = absurd plain
ordinary_said line plain did = refl

-- what was done where a line begins that is counted so
pub record Counts (did earlier : Did) (up : LinkNow) (until : ℕ) : Type 0 where
  pub life : (begun_line up until).life ≡ did.steps
  pub starts : (begun_line up until).starts ≡ did.starts

pub counts_so : (did earlier : Did) (up : LinkNow) (until : ℕ) → did ≡ began earlier → up.life ≡ earlier.steps → up.starts ≡ earlier.starts → Counts did earlier up until
counts_so did earlier up until is life starts = record {
  life = life ∙ sym (ap (λ (d : Did). d.steps) is);
  starts = ap₂ (λ (l : List (List Step)) (steps : List Step). l ++ steps ∷ []) starts life ∙ sym (ap (λ (d : Did). d.starts) is);
}

-- so is a line that does nothing
abbrev pub AreOrdinary : List Line → Type 0
AreOrdinary [] = Unit {0}
AreOrdinary (line ∷ []) = IsOrdinary line
AreOrdinary (line ∷ next ∷ more) = ⊥

pub ordinary_begins : (line : List Line) → AreOrdinary line → beginning_of line ≡ Line_begins line ∷ []
ordinary_begins [] plain = refl
ordinary_begins (lines.Tick count ∷ []) plain = absurd plain
ordinary_begins (line ∷ []) plain = refl
ordinary_begins (line ∷ next ∷ more) plain = absurd plain

pub ordinary_restarts : (line : List Line) → AreOrdinary line → is_restart line ≡ false
ordinary_restarts [] plain = refl
ordinary_restarts (lines.Restart ∷ []) plain = absurd plain
ordinary_restarts (line ∷ []) plain = refl
ordinary_restarts (line ∷ next ∷ more) plain = absurd plain

ordinary_asks : (side : Side) (line : List Line) → AreOrdinary line → asks_by side (Line_begins line) ≡ 0
ordinary_asks Host line plain = refl
ordinary_asks Chip [] plain = refl
ordinary_asks Chip (lines.Collide ∷ []) plain = absurd plain
ordinary_asks Chip (line ∷ []) plain = refl
ordinary_asks Chip (line ∷ next ∷ more) plain = absurd plain

ordinary_stalls : (line : List Line) → AreOrdinary line → (now : ℕ) → flat_map (stall_by now) line ≡ []
ordinary_stalls [] plain now = refl
ordinary_stalls (lines.Stall ticks ∷ []) plain now = absurd plain
ordinary_stalls (line ∷ []) plain now = refl
ordinary_stalls (line ∷ next ∷ more) plain now = absurd plain

-- ---- one side

module _ {piped : Bool} (side : Side) (timed all : List Entry) (now : LinkNow) (knows : KnowsSide piped side timed now) (may : MayEndNow side now) where
  -- what stalls no bytes
  still_stalls : (line : List Line) → ((clock : ℕ) → flat_map (stall_by clock) line ≡ []) → (time : ℕ)
      → list_any (nat_lt time) (stalls_in (moments_of (serial_events timed) knows.parts) ++ flat_map (stall_by (clock_in (moments_of (serial_events timed) knows.parts))) line) ≡ nat_lt time now.until
  still_stalls line none time =
      let past : List Moment = moments_of (serial_events timed) knows.parts in
      ap (λ (l : List ℕ). list_any (nat_lt time) (stalls_in past ++ l)) (none (clock_in past)) ∙ ap (λ (l : List ℕ). list_any (nat_lt time) l) (append-nil (stalls_in past)) ∙ knows.at.until time

  pub ordinary_on : (line : List Line) → AreOrdinary line → serial_events all ≡ serial_events timed ++ Line_begins line ∷ [] → KnowsSide piped side all (begun_line now now.until)
  ordinary_on line plain serials =
      subst (λ (l : List SerialEvent). KnowsEvents piped side l (begun_line now now.until)) (sym serials)
      (line_known side (serial_events timed) now knows line now.until (ordinary_restarts line plain) (ordinary_asks side line plain) (still_stalls line (ordinary_stalls line plain)) may)

  pub collide_on : asks_by side (Line_begins (lines.Collide ∷ [])) ≡ 0 → serial_events all ≡ serial_events timed ++ Line_begins (lines.Collide ∷ []) ∷ [] → KnowsSide piped side all (begun_line now now.until)
  collide_on none serials =
      subst (λ (l : List SerialEvent). KnowsEvents piped side l (begun_line now now.until)) (sym serials)
      (line_known side (serial_events timed) now knows (lines.Collide ∷ []) now.until refl none (still_stalls (lines.Collide ∷ []) (λ clock. refl)) may)

  pub stall_on : (count : ℕ) → serial_events all ≡ serial_events timed ++ Line_begins (lines.Stall count ∷ []) ∷ [] → KnowsSide piped side all (begun_line now (max now.until (now.clock + count)))
  stall_on count serials =
      let until : ℕ = max now.until (now.clock + count) in
      let past : List Moment = moments_of (serial_events timed) knows.parts in
      subst (λ (l : List SerialEvent). KnowsEvents piped side l (begun_line now until)) (sym serials)
      (line_known side (serial_events timed) now knows (lines.Stall count ∷ []) until refl (asks_none side) (stall_until past now.clock now.until count knows.at.clock knows.at.until) may)
    where
      asks_none : (side : Side) → asks_by side (Line_begins (lines.Stall count ∷ [])) ≡ 0
      asks_none Host = refl
      asks_none Chip = refl

-- ---- both

-- where the machine is that has just begun the line
module _ {did : Did} (before : List Entry) (first : Machine) (is_tick : Bool) (up down : LinkNow) (both : KnowsBoth did is_tick before first up down) (may : MayBothEnd up down) where
  abbrev o : OuterState
  o = first.outside.outer

  abbrev timed : List Entry
  timed = before ++ ticked_entry o

  pub begun_serials : (tail : List Entry) (line : List Line) → Says before tail line o.clock → serial_events (before ++ tail) ≡ serial_events timed ++ beginning_of line
  begun_serials tail line said =
      said.serials ∙ ap (λ (l : List SerialEvent). l ++ beginning_of line) (sym (timed_serials before o (both.line.time ∙ both.chip_time.clock)))

  -- the links after it, which know of no other tick
  pub record Begins (tail : List Entry) (later after_it : LinkNow) : Type 0 where
    pub chip : KnowsLink Chip (before ++ tail) later
    pub host : KnowsLink Host (before ++ tail) after_it
    pub time : tick_told (before ++ tail) ≡ o.clock
    pub clears : cleared_in (before ++ tail) ≡ cleared_in before
    pub chip_is : (later.is_tick ≡ false) × (later.clock ≡ up.clock) × (later.coming ≡ up.coming) × (later.lost ≡ up.lost)
    pub host_is : (after_it.is_tick ≡ false) × (after_it.clock ≡ down.clock) × (after_it.coming ≡ down.coming) × (after_it.lost ≡ down.lost)

  cleared_so : (tail : List Entry) (later after_it : LinkNow) (begins : Begins tail later after_it) → cleared_in (before ++ tail) ≡ to_clear later.lost after_it.lost
  cleared_so tail later after_it begins =
      begins.clears ∙ sym (timed_clears before o) ∙ both.line.clears
      ∙ sym (ap₂ (λ (a b : List ℕ). to_clear a b) begins.chip_is.3 begins.host_is.3)

  pub begins_cuts : (tail : List Entry) (later after_it : LinkNow) → Begins tail later after_it → Cuts (done_by later) (before ++ tail)
  begins_cuts tail later after_it begins =
      cuts_of (before ++ tail) later after_it begins.chip begins.host (all_told (clears (before ++ tail)) (to_clear later.lost after_it.lost) (cleared_so tail later after_it begins))

  -- of a machine at which it has begun, and that is at their time
  pub begins_both : (tail : List Entry) (n : Machine) (now : Did) (later after_it : LinkNow) → later.life ≡ now.steps → later.starts ≡ now.starts → Begins tail later after_it → n.outside.outer.in_tick ≡ false → n.outside.outer.clock ≡ o.clock
      → n.outside.outer.to_chip.bytes ≡ o.to_chip.bytes → n.outside.outer.to_host.bytes ≡ o.to_host.bytes → later.until ≡ n.outside.outer.stalled_until → after_it.until ≡ n.outside.outer.stalled_until
      → later.link ≡ n.outside.outer.chip.state.port.side → WaitsWell n.outside.outer.chip.state.port → after_it.link ≡ n.host.state.side → KeepsItsLink after_it.life n.host.state
      → HasFrames n.outside.outer.chip.state.port × AreAtRest n → KnowsBoth now false (before ++ tail) n later after_it
  begins_both tail n now later after_it life starts begins quiet clock to_chip to_host up_until down_until chip_link waits host_link keeps whole =
      let all : List Entry = before ++ tail in
      let none : ticked_entry n.outside.outer ≡ [] = ticked_none n.outside.outer (not_awaited n.outside.outer quiet) in
      let up_clock : later.clock ≡ n.outside.outer.clock = begins.chip_is.1 ∙ both.chip_time.clock ∙ sym clock in
      let time : tick_told all ≡ n.outside.outer.clock = begins.time ∙ sym clock in
      let line : AtLine all n.outside.outer later after_it =
      record {
        chip = begins.chip;
        host = begins.host;
        link = chip_link;
        waits = waits;
        way = subst (λ (l : List (List ℕ)). Brings n.outside.outer.to_host l) (sym begins.host_is.2) (brings_same o.to_host n.outside.outer.to_host down.coming to_host both.line.way);
        time = time ∙ sym up_clock;
        many = ap (λ (l : List ℕ). length l) begins.chip_is.3 ∙ both.line.many ∙ sym (ap (λ (l : List ℕ). length l) begins.host_is.3);
        clears = cleared_so tail later after_it begins;
      } in
      record {
        line = subst (λ (l : List Entry). AtLine l n.outside.outer later after_it) (sym (ap (λ (l : List Entry). all ++ l) none ∙ append-nil all)) line;
        behind = omega (arith, time);
        chip_way = subst (λ (l : List (List ℕ)). Brings n.outside.outer.to_chip l) (sym begins.chip_is.2) (brings_same o.to_chip n.outside.outer.to_chip up.coming to_chip both.chip_way);
        chip_time = record { clock = up_clock; until = up_until };
        host_time = record { clock = begins.host_is.1 ∙ both.host_time.clock ∙ sym clock; until = down_until };
        life = life;
        starts = starts;
        chip_round = begins.chip_is.0;
        host_round = begins.host_is.0;
        host_link = host_link;
        keeps = keeps;
        frames = whole.0;
        rests = whole.1;
      }

  -- ---- which line it is

  pub ordinary : (tail : List Entry) (line : List Line) → AreOrdinary line → Says before tail line o.clock → cleared_in (before ++ tail) ≡ cleared_in before → Begins tail (begun_line up up.until) (begun_line down down.until)
  ordinary tail line plain said clears =
      let serials : serial_events (before ++ tail) ≡ serial_events timed ++ Line_begins line ∷ [] =
      begun_serials tail line said ∙ ap (λ (l : List SerialEvent). serial_events timed ++ l) (ordinary_begins line plain) in
      record {
        chip = ordinary_on Chip timed (before ++ tail) up both.line.chip may.0 line plain serials;
        host = ordinary_on Host timed (before ++ tail) down both.line.host may.1 line plain serials;
        time = said.time;
        clears = clears;
        chip_is = (refl, refl, refl, refl);
        host_is = (refl, refl, refl, refl);
      }

  pub stalls : (tail : List Entry) (count : ℕ) → Says before tail (lines.Stall count ∷ []) o.clock → cleared_in (before ++ tail) ≡ cleared_in before
      → Begins tail (begun_line up (max up.until (up.clock + count))) (begun_line down (max down.until (down.clock + count)))
  stalls tail count said clears =
      let serials : serial_events (before ++ tail) ≡ serial_events timed ++ Line_begins (lines.Stall count ∷ []) ∷ [] = begun_serials tail (lines.Stall count ∷ []) said in
      record {
        chip = stall_on Chip timed (before ++ tail) up both.line.chip may.0 count serials;
        host = stall_on Host timed (before ++ tail) down both.line.host may.1 count serials;
        time = said.time;
        clears = clears;
        chip_is = (refl, refl, refl, refl);
        host_is = (refl, refl, refl, refl);
      }

  -- the chip's link is asked for a collision
  abbrev pub asked_step : Step
  asked_step = record { event = asked; outs = [] }

  abbrev pub asked_side : LinkSide
  asked_side = (after o.chip.state Collides).port.side

  abbrev pub asked_up : LinkNow
  asked_up = record (begun_line up up.until) { life = up.life ++ asked_step ∷ []; round = asked_step ∷ []; link = asked_side }

  pub collides : (tail : List Entry) → Says before tail (lines.Collide ∷ []) o.clock → cleared_in (before ++ tail) ≡ cleared_in before → Begins tail asked_up (begun_line down down.until)
  collides tail said clears =
      let s : ChipState = o.chip.state in
      let serials : serial_events (before ++ tail) ≡ serial_events timed ++ Line_begins (lines.Collide ∷ []) ∷ [] = begun_serials tail (lines.Collide ∷ []) said in
      let obeys : SideObeys (up.life ++ asked_step ∷ []) asked_side =
      obeys_event s Collides up.life (subst (λ (l : LinkSide). SideObeys up.life l) both.line.link (obeyed Chip (serial_events timed) up both.line.chip)) in
      record {
        chip = subst (λ (l : List SerialEvent). KnowsEvents true Chip l asked_up) (sym serials)
            (chip_is_asked (serial_events timed) up asked_step asked_side refl refl obeys may.0 both.line.chip);
        host = collide_on Host timed (before ++ tail) down both.line.host may.1 refl serials;
        time = said.time;
        clears = clears;
        chip_is = (refl, refl, refl, refl);
        host_is = (refl, refl, refl, refl);
      }

  -- a `tick`, which begins nothing
  pub ticks_said : (tail : List Entry) (count : ℕ) → Says before tail (lines.Tick count ∷ []) o.clock → KnowsLink Chip (before ++ tail) up × KnowsLink Host (before ++ tail) down
  ticks_said tail count said =
      let serials : serial_events (before ++ tail) ≡ serial_events timed = begun_serials tail (lines.Tick count ∷ []) said ∙ append-nil (serial_events timed) in
      (subst (λ (l : List SerialEvent). KnowsEvents true Chip l up) (sym serials) both.line.chip, subst (λ (l : List SerialEvent). KnowsEvents true Host l down) (sym serials) both.line.host)

-- ---- what restarts lost, where the words are those of none

words_clear : (words : List ℕ) → is_restart (line_of (entry.Said words)) ≡ false → cleared_in (entry.Said words ∷ []) ≡ []
words_clear words plain = ap (λ (b : Bool). map (λ (one : Cleared_there). one.entries) (if b && true then record { entries = []; is_over = false } ∷ [] else [])) plain

pub said_clears : (before : List Entry) (words : List ℕ) → is_restart (line_of (entry.Said words)) ≡ false → cleared_in (before ++ entry.Said words ∷ []) ≡ cleared_in before
said_clears before words plain =
    cleared_grow before (entry.Said words ∷ []) refl refl ∙ ap (λ (l : List (List Entry)). cleared_in before ++ l) (words_clear words plain) ∙ append-nil (cleared_in before)

refused_clear : (words : List ℕ) (refusal : Refusal) → cleared_in (entry.Said words ∷ entry.Refused refusal ∷ []) ≡ []
refused_clear words refusal = by (is_restart (line_of (entry.Said words)))
  where
    by : (b : Bool) → map (λ (one : Cleared_there). one.entries) (if b && false then record { entries = []; is_over = true } ∷ [] else []) ≡ []
    by true = refl
    by false = refl

pub refused_clears : (before : List Entry) (words : List ℕ) (refusal : Refusal) → cleared_in (before ++ entry.Said words ∷ entry.Refused refusal ∷ []) ≡ cleared_in before
refused_clears before words refusal =
    cleared_grow before (entry.Said words ∷ entry.Refused refusal ∷ []) refl refl ∙ ap (λ (l : List (List Entry)). cleared_in before ++ l) (refused_clear words refusal) ∙ append-nil (cleared_in before)

-- ---- the words

pub alone_said : (before : List Entry) (words : List ℕ) (line : List Line) (clock : ℕ) → line_of (entry.Said words) ≡ line → due_from 0 before ≡ clock → Says before (entry.Said words ∷ []) line clock
alone_said before words line clock read due = says before words [] line clock read (λ now from. (refl, refl)) due

pub refused_said : (before : List Entry) (words : List ℕ) (refusal : Refusal) (clock : ℕ) → due_from 0 before ≡ clock → Says before (entry.Said words ∷ entry.Refused refusal ∷ []) [] clock
refused_said before words refusal clock due = says before words (entry.Refused refusal ∷ []) [] clock refl (λ now from. (refl, refl)) due

-- ---- a line that was counted

pub done_of : {did : Did} (past : List Entry) (n : Machine) (up down : LinkNow) → n.outside.outer.in_tick ≡ false → KnowsBoth did false past n up down → LinksDone did past n
done_of past n up down quiet both = (
  (
    up,
    down,
    in_round false past n up down quiet both,
    (λ tick. absurd (let none : true ≡ false = sym tick ∙ both.chip_round in cc), λ tick. absurd (let none : true ≡ false = sym tick ∙ both.host_round in cc)),
  ),
  quiet,
)

-- the machine begins the line
pub begins_line : {did : Did} (line : Line) (past : List Entry) (m : Machine) → Cuts did past → LinksBefore did line past m → Then did (LinksBegun did line) past m (Outside_does Begins_line)
unfolding happens entries outcome
begins_line {did} line past m cuts just = (
  subst (Cuts did) (sym (append-nil past)) cuts,
  (
    m,
    record { before = just.before; words = just.words; read = just.read; is = append-nil past ∙ just.is; is_tick = just.is_tick; earlier = just.earlier; counts = just.counts; both = just.both; due = just.due },
    record { quiet = refl; clock = refl; until = refl; to_chip = refl; to_host = refl; port = refl; decoder = refl; host = refl },
  ),
)
