-- Lines that begin: the words of a line, a restart, after which a new link of the host goes on, and a line that asks for a collision.
use Rattle.std.proofs.Common.{◌≡◌, ◌<◌, ◌≤◌, Bool, true, false, ap₂, ℕ, ◌+◌, nat_lt, List, [], ◌∷◌, ◌++◌, length, refl, sym, ap, ◌∙◌, subst, append-nil, append_assoc, arith}
use Rattle.std.specs.Prelude.{max, ◌||◌}
use Rattle.std.proofs.lemmas.List.Folds.{list_any-append}
use Rattle.std.proofs.lemmas.Bool.{ltb-true, ltb-false}
use Rattle.std.specs.List.{flat_map, list_any}
use Rattle.serial_link.specs.State.{Side as LinkSide}
use Rattle.serial_link.specs.Rules.{Step, SideObeys, Event, asked, item_of}
use Rattle.zw_words.specs.declared.side.Side.TheVariants.{Host, Chip}
use Rattle.zw_text.specs.declared.line.Line.{Line}
use Rattle.zw_text.specs.declared.line.Line.TheVariants as lines
use Rattle.zw_text.specs.declared.entry.Entry.{Entry}
use Rattle.zw_text.specs.declared.entry.Entry.TheVariants as entry
use Rattle.zw_text.specs.Transcript.{line_of}
use Rattle.law_wire.specs.law_transcript.Lists.{EachAfter}
use Rattle.law_wire.specs.law_transcript.Restarts.{ticks_asked}
use Rattle.law_wire.specs.Serial.{SerialEvent, beginning_of, done_line, serial_events, serial_events_from, ticks_up_to}
use Rattle.law_wire.specs.Serial.SerialEvent.{Line_begins}
use Rattle.law_wire.specs.Links.{FindsRoom, bytes_in, Moment, Round, stall_by, arrivals_of, clock_in, moments_of, steps_in, texts_of}
use Rattle.proof_line.specs.Links.{Does, Hears, IsAt, KeepsSoFar, KnowsEvents, LinkNow, MayEndNow, begun_line, due_from, stalls_in, tick_told, told_from}
use Rattle.proof_walk.proofs.Lists.{each-append}
use Rattle.proof_line.proofs.Moments.{moments_one, round_one, steps_one}
use Rattle.proof_line.proofs.Serials.{serials_grow, told_grows}
use Rattle.proof_line.proofs.LinkSteps.{asked_next, clock_one, does_again, does_asked, ends_part, hears_again, hears_on, hears_same, lost_again, lost_same, mute_last, stalls_one, start_again, starts_next}
use Rattle.proof_line.proofs.LinkKnown.{event_known, may_end, no_steps, one_more}

-- ---- the words of a line

-- entries of no event, which tell of no tick
abbrev pub TellsNone : List Entry → Type 0
TellsNone told = (now due : ℕ) → (serial_events_from now due told ≡ []) × (told_from now due told ≡ now)

-- a line begins with its words, and with what stands after them
pub record Says (before tail : List Entry) (line : List Line) (clock : ℕ) : Type 0 where
  pub serials : serial_events (before ++ tail) ≡ (serial_events before ++ ticks_up_to (tick_told before) clock) ++ beginning_of line
  pub time : tick_told (before ++ tail) ≡ clock

pub says : (before : List Entry) (words : List ℕ) (told : List Entry) (line : List Line) (clock : ℕ) → done_line (line_of (entry.Said words)) told ≡ line → TellsNone told → due_from 0 before ≡ clock
    → Says before (entry.Said words ∷ told) line clock
says before words told line clock is none due =
    let now : ℕ = tick_told before in
    let from : ℕ = due_from 0 before in
    let later : ℕ = from + ticks_asked (line_of (entry.Said words)) in
    let ticks : List SerialEvent = ticks_up_to now from in
    let begins : List SerialEvent = beginning_of (done_line (line_of (entry.Said words)) told) in
    record {
      serials =
          serials_grow 0 0 before (entry.Said words ∷ told) tt refl ∙ ap (λ (l : List SerialEvent). serial_events before ++ ((ticks ++ begins) ++ l)) (none from later).0
          ∙ ap (λ (l : List SerialEvent). serial_events before ++ l) (append-nil (ticks ++ begins)) ∙ sym (append_assoc (serial_events before) ticks begins)
          ∙ ap₂ (λ (d : ℕ) (l : List Line). (serial_events before ++ ticks_up_to now d) ++ beginning_of l) due is;
      time = told_grows 0 0 before (entry.Said words ∷ told) ∙ (none from later).1 ∙ due;
    }

-- ---- a restart

-- a side after it: nothing is on its way
abbrev pub restarted : LinkNow → List Step → LinkSide → LinkNow
restarted now life link = record (begun_line now now.until) { life = life; link = link; coming = []; lost = now.lost ++ bytes_in now.coming ∷ [] }

module _ (events : List SerialEvent) (now : LinkNow) where
  abbrev Restart : SerialEvent
  Restart = Line_begins (lines.Restart ∷ [])

  -- a new link of the host goes on
  pub host_restarts : {piped : Bool} (new : LinkSide) → SideObeys [] new → MayEndNow Host now → KnowsEvents piped Host events now → KnowsEvents piped Host (events ++ Restart ∷ []) (restarted now [] new)
  host_restarts new obeys may knows =
      let before : List Moment = moments_of events knows.parts in
      let one : Moment = record { event = Restart; steps = knows.steps } in
      let begins = round_one before one in
      let clock : clock_in (before ++ one ∷ []) ≡ clock_in before + 0 = clock_one before one in
      let was : clock_in before ≡ now.clock = knows.at.clock in
      event_known Host events now knows Restart knows.steps now.link now.coming (restarted now [] new) knows.does knows.hears (mute_last knows.steps knows.mute) (λ in_pipe. refl)
      (may_end Host events now knows Restart refl may) (does_again before one new refl obeys) (hears_again Host before one refl)
      (record {
        is_tick = ap (λ (r : Round). r.is_tick) begins;
        brought = ap (λ (r : Round). length (arrivals_of Chip r.moments)) begins;
        clock = omega (arith, clock, was);
        until = λ time. ap (λ (l : List ℕ). list_any (nat_lt time) l) (stalls_one before one ∙ append-nil (stalls_in before)) ∙ knows.at.until time;
        life = ap (λ (l : List Moment). steps_in l ++ []) (start_again before one refl);
        round = ap (λ (r : Round). steps_in r.moments ++ []) begins;
        lost = lost_again Host before one now.coming refl knows.hears ∙ ap (λ (l : List ℕ). l ++ bytes_in now.coming ∷ []) knows.at.lost;
        starts = starts_next Host before one now.starts now.life refl knows.at.starts knows.at.life;
      })

  -- the chip's goes on
  pub chip_restarts : MayEndNow Chip now → KnowsEvents true Chip events now → KnowsEvents true Chip (events ++ Restart ∷ []) (restarted now now.life now.link)
  chip_restarts may knows =
      let before : List Moment = moments_of events knows.parts in
      let one : Moment = record { event = Restart; steps = knows.steps } in
      let begins = round_one before one in
      let clock : clock_in (before ++ one ∷ []) ≡ clock_in before + 0 = clock_one before one in
      let was : clock_in before ≡ now.clock = knows.at.clock in
      let life : steps_in (before ++ one ∷ []) ++ [] ≡ steps_in before ++ knows.steps = append-nil (steps_in (before ++ one ∷ [])) ∙ steps_one before one in
      event_known Chip events now knows Restart knows.steps now.link now.coming (restarted now now.life now.link) knows.does knows.hears (mute_last knows.steps knows.mute) (λ in_pipe. refl)
      (may_end Chip events now knows Restart refl may)
      (record { obeys = subst (λ (l : List Step). SideObeys l now.link) (sym life) knows.does.obeys; may = tt; asks = sym (asked_next Chip before one) })
      (hears_again Chip before one refl)
      (record {
        is_tick = ap (λ (r : Round). r.is_tick) begins;
        brought = ap (λ (r : Round). length (arrivals_of Host r.moments)) begins;
        clock = omega (arith, clock, was);
        until = λ time. ap (λ (l : List ℕ). list_any (nat_lt time) l) (stalls_one before one ∙ append-nil (stalls_in before)) ∙ knows.at.until time;
        life = life ∙ knows.at.life;
        round = ap (λ (r : Round). steps_in r.moments ++ []) begins;
        lost = lost_again Chip before one now.coming refl knows.hears ∙ ap (λ (l : List ℕ). l ++ bytes_in now.coming ∷ []) knows.at.lost;
        starts = starts_next Chip before one now.starts now.life refl knows.at.starts knows.at.life;
      })

  -- ---- a collision

  abbrev Collide : SerialEvent
  Collide = Line_begins (lines.Collide ∷ [])

  -- the chip's link is asked for it before all else
  pub chip_is_asked : (step : Step) (new : LinkSide) → step.event ≡ asked → texts_of step ≡ [] → SideObeys (now.life ++ step ∷ []) new → MayEndNow Chip now → KnowsEvents true Chip events now
      → KnowsEvents true Chip (events ++ Collide ∷ []) (record (begun_line now now.until) { life = now.life ++ step ∷ []; round = step ∷ []; link = new })
  chip_is_asked step new is quiet obeys may knows =
      let before : List Moment = moments_of events knows.parts in
      let one : Moment = record { event = Collide; steps = knows.steps } in
      let parts : List (List Step) = knows.parts ++ knows.steps ∷ [] in
      let next : LinkNow = record (begun_line now now.until) { life = now.life ++ step ∷ []; round = step ∷ []; link = new } in
      let begins = round_one before one in
      let clock : clock_in (before ++ one ∷ []) ≡ clock_in before + 0 = clock_one before one in
      let was : clock_in before ≡ now.clock = knows.at.clock in
      let is_one : before ++ one ∷ [] ≡ moments_of (events ++ Collide ∷ []) parts = sym (moments_one events knows.parts Collide knows.steps knows.each) in
      record {
        parts = parts;
        steps = step ∷ [];
        each = one_more events knows.parts Collide knows.steps knows.each;
        keeps = subst (λ (l : List Moment). KeepsSoFar Chip l) is_one
            (ends_part Chip before one now.link now.coming no_steps knows.keeps knows.does knows.hears (mute_last knows.steps knows.mute) (may_end Chip events now knows Collide refl may));
        does = subst (λ (l : List Moment). Does Chip l (step ∷ []) new) is_one
            (does_asked before knows.steps now.link new step knows.does is (subst (λ (l : List Step). SideObeys (l ++ step ∷ []) new) (sym knows.at.life) obeys));
        mute = (quiet, tt);
        hears = subst (λ (l : List Moment). Hears Chip l (step ∷ []) now.coming) is_one
            (hears_same Chip (before ++ one ∷ []) [] now.coming step (ap (λ (e : Event). item_of e) is)
            (subst (λ (l : List (List ℕ)). Hears Chip (before ++ one ∷ []) [] l) (append-nil now.coming) (hears_on Chip before one now.coming refl knows.hears)));
        at = subst (λ (l : List Moment). IsAt Chip l (step ∷ []) next) is_one (record {
          is_tick = ap (λ (r : Round). r.is_tick) begins;
          brought = ap (λ (r : Round). length (arrivals_of Host r.moments)) begins;
          clock = omega (arith, clock, was);
          until = λ time. ap (λ (l : List ℕ). list_any (nat_lt time) l) (stalls_one before one ∙ append-nil (stalls_in before)) ∙ knows.at.until time;
          life = ap (λ (l : List Step). l ++ step ∷ []) (steps_one before one ∙ knows.at.life);
          round = ap (λ (r : Round). steps_in r.moments ++ step ∷ []) begins;
          lost = lost_same Chip before one refl ∙ knows.at.lost;
          starts = starts_next Chip before one now.starts now.life refl knows.at.starts knows.at.life;
        });
        room = λ in_pipe. subst (λ (l : List Moment). EachAfter (FindsRoom Chip) [] l) is_one (each-append (FindsRoom Chip) [] before (one ∷ []) (knows.room in_pipe) (refl, tt));
      }

-- ---- a stall

-- what a test of two numbers tells
abbrev Tells_less : Bool → ℕ → ℕ → Type 0
Tells_less true a b = a < b
Tells_less false a b = b ≤ a

less_tells : (a b : ℕ) → Tells_less (nat_lt a b) a b
less_tells a b = by (nat_lt a b) refl
  where
    by : (t : Bool) → nat_lt a b ≡ t → Tells_less t a b
    by true is = ltb-true a b is
    by false is = ltb-false a b is

below_max : (time a b : ℕ) → nat_lt time (max a b) ≡ nat_lt time a || nat_lt time b
below_max time a b = by (nat_lt time a) (nat_lt time b) (nat_lt time (max a b)) (less_tells time a) (less_tells time b) (less_tells time (max a b))
  where
    by : (p q r : Bool) → Tells_less p time a → Tells_less q time b → Tells_less r time (max a b) → r ≡ p || q
    by true q true first second both = refl
    by true q false first second both = absurd (omega (arith, first, both))
    by false true true first second both = refl
    by false true false first second both = absurd (omega (arith, second, both))
    by false false true first second both = absurd (omega (arith, first, second, both))
    by false false false first second both = refl

-- the stall that ends last counts
pub stall_until : (past : List Moment) (clock until count : ℕ) → clock_in past ≡ clock → ((time : ℕ) → list_any (nat_lt time) (stalls_in past) ≡ nat_lt time until) → (time : ℕ)
    → list_any (nat_lt time) (stalls_in past ++ flat_map (stall_by (clock_in past)) (lines.Stall count ∷ [])) ≡ nat_lt time (max until (clock + count))
stall_until past clock until count is before time =
    list_any-append (nat_lt time) (stalls_in past) ((clock_in past + count) ∷ [])
    ∙ ap₂ (λ (a b : Bool). a || b) (before time) (or_false (nat_lt time (clock_in past + count)) ∙ ap (λ (n : ℕ). nat_lt time (n + count)) is)
    ∙ sym (below_max time until (clock + count))
  where
    or_false : (b : Bool) → (b || false) ≡ b
    or_false true = refl
    or_false false = refl
