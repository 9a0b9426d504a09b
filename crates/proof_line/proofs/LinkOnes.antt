-- What is known of both links goes on with the words of a line, with the effect of a line that stalls bytes, and of one that asks for a collision.
use Rattle.std.proofs.Common.{◌≡◌, ℕ, ◌+◌, Bool, false, inl, inr, List, [], ◌∷◌, ◌++◌, refl, sym, ap, ap₂, ◌∙◌, subst, append-nil, arith}
use Rattle.std.specs.Prelude.{max}
use Rattle.serial_link.specs.Rules.{Step}
use Rattle.serial_pipes.specs.State.{WayState}
use Rattle.chip_sim.specs.Waiting.{PortState}
use Rattle.chip_sim.specs.Events.{Collides}
use Rattle.chip_sim.specs.Rules.{WaitsWell}
use Rattle.chip_sim.proofs.Histories.{well_all}
use Rattle.zw_words.specs.declared.side.Side.TheVariants.{Chip}
use Rattle.zw_words.specs.Words.{words, line_words}
use Rattle.zw_text.specs.declared.line.Line.{Line}
use Rattle.zw_text.specs.declared.line.Line.TheVariants as lines
use Rattle.zw_text.specs.declared.entry.Entry.{Entry}
use Rattle.zw_text.specs.declared.entry.Entry.TheVariants as entry
use Rattle.zw_text.specs.Transcript.{line_of, lines_run}
use Rattle.law_wire.specs.law_transcript.Restarts.{is_restart, ticks_asked}
use Rattle.law_wire.specs.Clearing.{clears, to_clear}
use Rattle.law_wire.specs.Serial.{serial_events}
use Rattle.proof_world.specs.host_model.State.{HostParts}
use Rattle.proof_walk.specs.outside_model.State.{OuterState}
use Rattle.proof_walk.specs.outside_model.Events.{Collides_next, Stalls, outcome, ticked_entry}
use Rattle.proof_walk.specs.world_model.State.{Machine}
use Rattle.proof_walk.specs.world_model.Events.{Event, Outside_does, happens, entries}
use Rattle.proof_traffic.specs.Links.{KeepsItsLink}
use Rattle.proof_line.specs.Links.{AtLine, Brings, LinkNow, begun_line, cleared_in, due_from, tick_told}
use Rattle.proof_line.specs.Linked.{began, done_by, said, ◌⊕◌, Cuts, Did, IsTickLine, KnowsBoth, LinksBegun, LinksDone, LinksEnded, LinksOne, MayBothEnd}
use Rattle.proof_line.proofs.LinkKnown.{no_steps}
use Rattle.proof_line.proofs.Rooming.{not_awaited}
use Rattle.proof_line.proofs.Numbering.{ticked_none}
use Rattle.proof_line.proofs.LinkTime.{timed_clears}
use Rattle.proof_line.proofs.ChipAccounts.{event_steps, outer_steps}
use Rattle.proof_line.proofs.LinkCourse.{course_mute}
use Rattle.proof_line.proofs.LinkChip.{obeyed}
use Rattle.proof_line.proofs.LinkEnds.{all_told, cuts_as, cuts_of, cuts_other, did_is}
use Rattle.proof_line.proofs.LinkTicks.{Then}
use Rattle.proof_line.proofs.LinkBegins.{counts_so, IsOrdinary, alone_said, asked_step, asked_up, begins_both, begins_cuts, collides, done_of, ordinary, ordinary_restarts, said_clears, stalls, ticks_said}
use Rattle.proof_line.proofs.LinkPlain.{begun_whole, then_more}
use Rattle.proof_line.proofs.LinkRestarts.{restart_said}
use Rattle.proof_walk.proofs.ByLine.{last_is}
use Rattle.proof_walk.proofs.Clock.{asked-append as asked_both}

-- ---- the words

pub due_is : (due : ℕ) (past : List Entry) → due_from due past ≡ due + ticks_asked (lines_run past)
due_is due [] = let none : due ≡ due + 0 = omega arith in none
due_is due (entry.Said words ∷ rest) =
    let here : ℕ = ticks_asked (line_of (entry.Said words)) in
    let later = due_is (due + here) rest in
    let sum = asked_both (line_of (entry.Said words)) (lines_run rest) in
    let whole : due_from (due + here) rest ≡ due + ticks_asked (line_of (entry.Said words) ++ lines_run rest) = omega (arith, later, sum) in
    whole
due_is due (e ∷ rest) = due_is due rest

module _ {did : Did} (past : List Entry) (m : Machine) (is_tick : Bool) (up down : LinkNow) (both : KnowsBoth did is_tick past m up down) (may : MayBothEnd up down) (due : due_from 0 past ≡ m.outside.outer.clock) where
  -- these words, which are no restart
  plain_clears : (words : List ℕ) (line : List Line) → line_of (entry.Said words) ≡ line → is_restart line ≡ false → cleared_in (past ++ entry.Said words ∷ []) ≡ cleared_in past
  plain_clears words line read plain = said_clears past words (ap is_restart read ∙ plain)

  ordinary_cuts : (words : List ℕ) (line : Line) → line_of (entry.Said words) ≡ line ∷ [] → IsOrdinary line → Cuts (began (done_by up)) (past ++ entry.Said words ∷ [])
  ordinary_cuts words line read plain =
      begins_cuts past m is_tick up down both may (entry.Said words ∷ []) (begun_line up up.until) (begun_line down down.until)
      (ordinary past m is_tick up down both may (entry.Said words ∷ []) (line ∷ []) plain (alone_said past words (line ∷ []) m.outside.outer.clock read due)
      (plain_clears words (line ∷ []) read (ordinary_restarts (line ∷ []) plain)))

  -- the collision that a line asks for writes nothing
  asked_cuts : (words : List ℕ) → line_of (entry.Said words) ≡ lines.Collide ∷ [] → Cuts (began (done_by up)) (past ++ entry.Said words ∷ [])
  asked_cuts words read =
      let all : List Entry = past ++ entry.Said words ∷ [] in
      let later : LinkNow = asked_up past m is_tick up down both may in
      let begins =
      collides past m is_tick up down both may (entry.Said words ∷ []) (alone_said past words (lines.Collide ∷ []) m.outside.outer.clock read due) (plain_clears words (lines.Collide ∷ []) read refl) in
      let asked : List Step = asked_step past m is_tick up down both may ∷ [] in
      cuts_other (done_by later) (began (done_by up)) all (course_mute up.life asked later.link (obeyed Chip (serial_events all) later begins.chip) (refl, tt)) refl
      (λ says. subst IsTickLine (last_is past (entry.Said words) ∙ read) says)
      (begins_cuts past m is_tick up down both may (entry.Said words ∷ []) later (begun_line down down.until) begins)

  line_cut : (words : List ℕ) (line : Line) → line_of (entry.Said words) ≡ line ∷ [] → Cuts (said line (done_by up)) (past ++ entry.Said words ∷ [])
  line_cut words (lines.Tick count) read =
      let got = ticks_said past m is_tick up down both may (entry.Said words ∷ []) count (alone_said past words (lines.Tick count ∷ []) m.outside.outer.clock read due) in
      cuts_of (past ++ entry.Said words ∷ []) up down got.0 got.1
      (all_told (clears (past ++ entry.Said words ∷ [])) (to_clear up.lost down.lost)
      (plain_clears words (lines.Tick count ∷ []) read refl ∙ sym (timed_clears past m.outside.outer) ∙ both.line.clears))
  line_cut words (lines.Stall count) read =
      begins_cuts past m is_tick up down both may (entry.Said words ∷ []) (begun_line up (max up.until (up.clock + count))) (begun_line down (max down.until (down.clock + count)))
      (stalls past m is_tick up down both may (entry.Said words ∷ []) count (alone_said past words (lines.Stall count ∷ []) m.outside.outer.clock read due)
      (plain_clears words (lines.Stall count ∷ []) read refl))
  line_cut words lines.Collide read = asked_cuts words read
  line_cut words lines.Restart read = restart_said past words m is_tick up down both may read due no_steps.0 no_steps.1
  line_cut words line read = ordinary_cuts words line read tt

  pub words_cut : (words : List ℕ) (line : Line) → line_of (entry.Said words) ≡ line ∷ [] → Cuts (said line did) (past ++ entry.Said words ∷ [])
  words_cut words line read = subst (λ (d : Did). Cuts (said line d) (past ++ entry.Said words ∷ [])) (did_is up did both.life both.starts) (line_cut words line read)

  -- where the run ends
  pub ended_cuts : Cuts (began did) (past ++ entry.Said [] ∷ [])
  unfolding words line_words
  ended_cuts =
      subst (λ (d : Did). Cuts (began d) (past ++ entry.Said [] ∷ [])) (did_is up did both.life both.starts)
      (begins_cuts past m is_tick up down both may (entry.Said [] ∷ []) (begun_line up up.until) (begun_line down down.until)
      (ordinary past m is_tick up down both may (entry.Said [] ∷ []) [] tt (alone_said past [] [] m.outside.outer.clock refl due) (plain_clears [] [] refl refl)))

-- ---- a `tick`

pub ticks_begun : {did : Did} (count : ℕ) (past : List Entry) (m : Machine) → LinksBegun did (lines.Tick count) past m → LinksEnded did past m
ticks_begun {did} count past m (first, just, begun) =
    let (up, down, both, may) = just.both in
    let o : OuterState = first.outside.outer in
    let all : List Entry = just.before ++ entry.Said just.words ∷ [] in
    let said = alone_said just.before just.words (lines.Tick count ∷ []) o.clock just.read just.due in
    let got = ticks_said just.before first just.is_tick up down both may (entry.Said just.words ∷ []) count said in
    let none : ticked_entry m.outside.outer ≡ [] = ticked_none m.outside.outer (not_awaited m.outside.outer begun.quiet) in
    let told : tick_told all ≡ o.clock = said.time in
    let clock = begun.clock in
    let whole = begun_whole just.is_tick just.before first m up down both begun in
    let line : AtLine all m.outside.outer up down =
    record {
      chip = got.0;
      host = got.1;
      link = both.line.link ∙ sym (ap (λ (p : PortState). p.side) begun.port);
      waits = subst WaitsWell (sym begun.port) both.line.waits;
      way = subst (λ (w : WayState). Brings w down.coming) (sym begun.to_host) both.line.way;
      time = told ∙ sym both.chip_time.clock;
      many = both.line.many;
      clears = said_clears just.before just.words (ap is_restart just.read) ∙ sym (timed_clears just.before o) ∙ both.line.clears;
    } in
    let known : KnowsBoth just.earlier just.is_tick all m up down =
    record {
      line = subst (λ (l : List Entry). AtLine l m.outside.outer up down) (sym (ap (λ (l : List Entry). all ++ l) none ∙ append-nil all)) line;
      behind = omega (arith, told, clock);
      chip_way = subst (λ (w : WayState). Brings w up.coming) (sym begun.to_chip) both.chip_way;
      chip_time = record { clock = both.chip_time.clock ∙ sym begun.clock; until = both.chip_time.until ∙ sym begun.until };
      host_time = record { clock = both.host_time.clock ∙ sym begun.clock; until = both.host_time.until ∙ sym begun.until };
      life = both.life;
      starts = both.starts;
      chip_round = both.chip_round;
      host_round = both.host_round;
      host_link = both.host_link ∙ sym (ap (λ (h : HostParts). h.state.side) begun.host);
      keeps = subst (λ (h : HostParts). KeepsItsLink down.life h.state) (sym begun.host) both.keeps;
      frames = whole.0;
      rests = whole.1;
    } in
    subst (λ (d : Did). LinksEnded d past m) (sym just.counts) (subst (λ (l : List Entry). LinksEnded just.earlier l m) (sym just.is) (just.is_tick, (up, down, known, may)))

-- ---- one event

one_left : (first event : Event) (left : List Event) → first ∷ left ≡ event ∷ [] → (first ≡ event) × (left ≡ [])
one_left first event left is = let head : first ≡ event = cc in let tail : left ≡ [] = cc in (head, tail)

-- bytes are stalled
stalls_go : {did : Did} (count : ℕ) (past : List Entry) (m : Machine) → Cuts did past → LinksBegun did (lines.Stall count) past m → Then did (LinksDone did) past m (Outside_does (Stalls count))
unfolding happens entries outcome
stalls_go {did} count past m cuts (first, just, begun) =
    let (up, down, both, may) = just.both in
    let n : Machine = happens m (Outside_does (Stalls count)) in
    let tail : List Entry = entry.Said just.words ∷ [] in
    let later : LinkNow = begun_line up (max up.until (up.clock + count)) in
    let after_it : LinkNow = begun_line down (max down.until (down.clock + count)) in
    let begins =
    stalls just.before first just.is_tick up down both may tail count (alone_said just.before just.words (lines.Stall count ∷ []) first.outside.outer.clock just.read just.due)
    (said_clears just.before just.words (ap is_restart just.read)) in
    let whole = begun_whole just.is_tick just.before first m up down both begun in
    let counts = counts_so did just.earlier up (max up.until (up.clock + count)) just.counts both.life both.starts in
    let known : KnowsBoth did false (just.before ++ tail) n later after_it =
    begins_both just.before first just.is_tick up down both may tail n did later after_it counts.life counts.starts begins begun.quiet begun.clock (ap (λ (w : WayState). w.bytes) begun.to_chip)
    (ap (λ (w : WayState). w.bytes) begun.to_host)
    (ap₂ (λ (a b : ℕ). max a (b + count)) (both.chip_time.until ∙ sym begun.until) (both.chip_time.clock ∙ sym begun.clock))
    (ap₂ (λ (a b : ℕ). max a (b + count)) (both.host_time.until ∙ sym begun.until) (both.host_time.clock ∙ sym begun.clock))
    (both.line.link ∙ sym (ap (λ (p : PortState). p.side) begun.port)) (subst WaitsWell (sym begun.port) both.line.waits)
    (both.host_link ∙ sym (ap (λ (h : HostParts). h.state.side) begun.host)) (subst (λ (h : HostParts). KeepsItsLink down.life h.state) (sym begun.host) both.keeps)
    (whole.0, record { host = whole.1.host; chip = whole.1.chip }) in
    let is : past ++ [] ≡ just.before ++ tail = append-nil past ∙ just.is in
    (subst (Cuts did) (sym (append-nil past)) cuts, subst (λ (l : List Entry). LinksDone did l n) (sym is) (done_of (just.before ++ tail) n later after_it begun.quiet known))

-- a collision is asked for
collides_go : {did : Did} (past : List Entry) (m : Machine) → Cuts did past → LinksBegun did lines.Collide past m
    → Then (did ⊕ outer_steps m.outside Collides_next) (LinksDone (did ⊕ outer_steps m.outside Collides_next)) past m (Outside_does Collides_next)
unfolding happens entries outcome outer_steps
collides_go {did} past m cuts (first, just, begun) =
    let (up, down, both, may) = just.both in
    let n : Machine = happens m (Outside_does Collides_next) in
    let tail : List Entry = entry.Said just.words ∷ [] in
    let later : LinkNow = asked_up just.before first just.is_tick up down both may in
    let after_it : LinkNow = begun_line down down.until in
    let begins =
    collides just.before first just.is_tick up down both may tail (alone_said just.before just.words (lines.Collide ∷ []) first.outside.outer.clock just.read just.due)
    (said_clears just.before just.words (ap is_restart just.read)) in
    let whole = begun_whole just.is_tick just.before first m up down both begun in
    let counts = counts_so did just.earlier up up.until just.counts both.life both.starts in
    let now : Did = did ⊕ asked_step just.before first just.is_tick up down both may ∷ [] in
    let life : later.life ≡ now.steps = ap (λ (l : List Step). l ++ asked_step just.before first just.is_tick up down both may ∷ []) counts.life in
    let known : KnowsBoth now false (just.before ++ tail) n later after_it =
    begins_both just.before first just.is_tick up down both may tail n now later after_it life counts.starts begins begun.quiet begun.clock (ap (λ (w : WayState). w.bytes) begun.to_chip) (ap (λ (w : WayState). w.bytes) begun.to_host)
    (both.chip_time.until ∙ sym begun.until) (both.host_time.until ∙ sym begun.until)
    (sym (ap (λ (p : PortState). record p.side { collisions = p.side.collisions + 1 }) begun.port)) (well_all m.outside.outer.chip.state (Collides ∷ []) (subst WaitsWell (sym begun.port) both.line.waits))
    (both.host_link ∙ sym (ap (λ (h : HostParts). h.state.side) begun.host)) (subst (λ (h : HostParts). KeepsItsLink down.life h.state) (sym begun.host) both.keeps)
    (record { turn = whole.0.turn; waiting = whole.0.waiting }, record { host = whole.1.host; chip = whole.1.chip }) in
    let is : past ++ [] ≡ just.before ++ tail = append-nil past ∙ just.is in (
      subst (Cuts now) (sym is) (cuts_as later now (just.before ++ tail) life counts.starts (begins_cuts just.before first just.is_tick up down both may tail later after_it begins)),
      subst (λ (l : List Entry). LinksDone now l n) (sym is) (done_of (just.before ++ tail) n later after_it begun.quiet known),
    )

-- the event by which one of these lines is done
one_goes : {did : Did} (event : Event) (line : Line) (first : Event) (left : List Event) (past : List Entry) (m : Machine)
    → (LinksBegun did line past m → Then (did ⊕ event_steps m event) (LinksDone (did ⊕ event_steps m event)) past m event) → LinksOne did event line (first ∷ left) past m
    → Then (did ⊕ event_steps m first) (LinksOne (did ⊕ event_steps m first) event line left) past m first
one_goes {did} event line first left past m goes (inl (is, begun)) =
    let both = one_left first event left is in
    let got = goes begun in
    subst (λ (e : Event). Then (did ⊕ event_steps m e) (LinksOne (did ⊕ event_steps m e) event line left) past m e) (sym both.0) (got.0, inr (both.1, got.1))
one_goes event line first left past m goes (inr (is, done)) = absurd cc

stalls_none : (m : Machine) (count : ℕ) → event_steps m (Outside_does (Stalls count)) ≡ []
unfolding event_steps outer_steps
stalls_none m count = refl

pub stall_goes : {did : Did} (count : ℕ) (first : Event) (left : List Event) (past : List Entry) (m : Machine) → Cuts did past → LinksOne did (Outside_does (Stalls count)) (lines.Stall count) (first ∷ left) past m
    → Then (did ⊕ event_steps m first) (LinksOne (did ⊕ event_steps m first) (Outside_does (Stalls count)) (lines.Stall count) left) past m first
stall_goes {did} count first left past m cuts known =
    one_goes (Outside_does (Stalls count)) (lines.Stall count) first left past m
    (λ begun. then_more (λ l. LinksDone l) (event_steps m (Outside_does (Stalls count))) past m (Outside_does (Stalls count)) (stalls_none m count) (stalls_go count past m cuts begun)) known

pub collide_goes : {did : Did} (first : Event) (left : List Event) (past : List Entry) (m : Machine) → Cuts did past → LinksOne did (Outside_does Collides_next) lines.Collide (first ∷ left) past m
    → Then (did ⊕ event_steps m first) (LinksOne (did ⊕ event_steps m first) (Outside_does Collides_next) lines.Collide left) past m first
unfolding event_steps
collide_goes {did} first left past m cuts known = one_goes (Outside_does Collides_next) lines.Collide first left past m (λ begun. collides_go past m cuts begun) known

pub one_done : {did : Did} (event : Event) (line : Line) (past : List Entry) (m : Machine) → LinksOne did event line [] past m → LinksDone did past m
one_done event line past m (inl (is, begun)) = absurd cc
one_done event line past m (inr (is, done)) = done
