-- Over the lines of a run: what a line repeats is fresh by the history that the transcript shows.
use Rattle.std.proofs.Common.{◌≡◌, ◌≢◌, ℕ, ◌&&◌, not, Bool, true, false, if◌then◌else◌, List, [], ◌∷◌, ◌++◌, map, inl, inr, refl, sym, ap, subst, ◌∙◌, append-nil, append_assoc}
use Rattle.std.specs.Prelude.{Option, Some, None}
use Rattle.std.specs.List.{AllByRecursion}
use Rattle.route_table.specs.declared.route.Route.{Route}
use Rattle.air_frames.specs.Ages.{refusal_of}
use Rattle.air_frames.specs.declared.ages.Refusal.{Refusal}
use Rattle.air_frames.specs.declared.ages.Refusal.TheVariants.{NeverSent, Forgotten, Stale}
use Rattle.air_frames.specs.History.{Mark, refusal_in}
use Rattle.air_frames.proofs.Aged.{refusal_is}
use Rattle.proof_walk.specs.mesh_sim.Steps.{AirStep}
use Rattle.proof_walk.specs.mesh_sim.Steps as mesh
use Rattle.zw_text.specs.declared.line.Line.{Line}
use Rattle.zw_text.specs.declared.line.Line.TheVariants as lines
use Rattle.zw_text.specs.declared.entry.Entry.{Entry}
use Rattle.zw_text.specs.declared.entry.Entry.TheVariants as entry
use Rattle.zw_text.specs.declared.entry.Refusal.{Refusal as LineRefusal}
use Rattle.zw_text.specs.declared.entry.Refusal.TheVariants as refusal
use Rattle.zw_text.specs.Transcript.{line_of, line_last}
use Rattle.zw_text.proofs.Views.{folded-append}
use Rattle.law_wire.specs.law_transcript.Lists.{EachAfter}
use Rattle.law_wire.specs.law_transcript.Nodes.{controller}
use Rattle.zw_base.proofs.Each.{all-append}
use Rattle.proof_walk.specs.host_model.Events.{Joins as joins_host}
use Rattle.proof_walk.specs.outside_model.State.{OuterState, Outside, outside}
use Rattle.proof_walk.specs.outside_model.Events.{OuterEvent, Begins_line, Joins, Repeats, outcome, devices_after, refusal_entries, repeats, devices_repeated, ticked_entry, stamp, has_entered, is_own}
use Rattle.proof_walk.specs.world_model.State.{Machine}
use Rattle.proof_walk.specs.world_model.Events.{Event, Outside_does, Host_does, happens, entries, May}
use Rattle.proof_walk.specs.world_model.Lines.{IsEffect}
use Rattle.proof_walk.specs.Outside.{nothing, Known, CoversOuter}
use Rattle.proof_walk.specs.Phases.{Between}
use Rattle.proof_walk.specs.Walk.{Walk}
use Rattle.proof_walk.specs.ByLine.{IsOfTick, CoversLine, ByLine}
use Rattle.proof_walk.proofs.ByLine.{effect_covered, common_covered, walk_of}
use Rattle.proof_walk.proofs.Machines.{machine_keeps}
use Rattle.proof_air.specs.Logs.{mark_step, log_of, IsApart, Tie}
use Rattle.proof_air.specs.Hearing.{IsFresh, MayHear, FreshHere, Knows, JoinsNode, Settled, Said_so, AwaitsRepeat, AwaitsJoin, Left, KnowAir}
use Rattle.proof_air.proofs.Logs.{plain_apart, plain_refusal}
use Rattle.proof_air.proofs.Silent.{IsSilent, AreSilent, fresh_one, fresh_said, words_last, number_stands}
use Rattle.proof_air.proofs.Airing.{silent}
use Rattle.proof_air.proofs.Judging.{StartsSo}
use Rattle.proof_air.proofs.Outer.{air_law}

-- ---- the words of a line

said_tie : (past : List Entry) (m : Machine) (words : List ℕ) → Tie nothing past m.outside → Tie nothing (past ++ entry.Said words ∷ []) m.outside
said_tie past m words tie = record {
  log = tie.log;
  kept = tie.kept;
  shown = tie.shown ∙ ap (λ (l : List Mark). l ++ []) (sym (folded-append mark_step [] past (entry.Said words ∷ [])));
  apart = tie.apart;
  chip = tie.chip;
  air = tie.air;
  home = tie.home;
}

said : (past : List Entry) (m : Machine) (words : List ℕ) (line : Line) → line_of (entry.Said words) ≡ line ∷ [] → Settled past m
    → MayHear past (entry.Said words) × Said_so line (past ++ entry.Said words ∷ []) m
said past m words line read known = (tt, (said_tie past m words known.0.0, words_last past words line read))

-- the line begins
begins : (line : Line) (past : List Entry) (m : Machine) → Said_so line past m
    → EachAfter MayHear past (entries m (Outside_does Begins_line)) × Said_so line (past ++ entries m (Outside_does Begins_line)) (happens m (Outside_does Begins_line))
unfolding happens entries outcome devices_after
begins line past m known =
    let tie = known.0 in (
      tt,
      subst (λ (l : List Entry). Said_so line l (happens m (Outside_does Begins_line))) (sym (append-nil past))
          (record { log = tie.log; kept = tie.kept; shown = tie.shown; apart = tie.apart; chip = tie.chip; air = tie.air; home = tie.home }, known.1),
    )

-- ---- the effect of a line

-- a line that repeats no frame
settled : (line : Line) (past : List Entry) (m : Machine) → ((number : ℕ) → line ≡ lines.Repeat number → ⊥) → Said_so line past m → Settled past m
settled line past m other known = ((known.0, fresh_said past line other known.1), number_stands past m.outside.outer)

-- neither repeats a frame nor has a node join
abbrev IsOther : Line → Type 0
IsOther (lines.Repeat number) = ⊥
IsOther (lines.Join node) = ⊥
IsOther line = Unit {0}

covers_line : (line : Line) → IsOther line → CoversLine JoinsNode line
covers_line (lines.Repeat frame) other = absurd other
covers_line (lines.Join node) other = absurd other
covers_line (lines.Wake node) other = λ route. tt
covers_line (lines.Local node value) other = λ route. tt
covers_line lines.Restart other = (tt, tt)
covers_line line other = tt

is_other : (line : Line) → IsOther line → (number : ℕ) → line ≡ lines.Repeat number → ⊥
is_other line other number is = subst IsOther is other

joining : (node : ℕ) (past : List Entry) (m : Machine) (events : List Event) → IsEffect (lines.Join node) m events → Settled past m → Left (lines.Join node) events past m
joining node past m events (inl is) known = inr (inl (node, is), known)
joining node past m events (inr (refusal, is)) known = inr (inr (subst (λ (l : List Event). AllByRecursion (CoversOuter JoinsNode) l) (sym is) (tt, tt)), known)

effect : (line : Line) (past : List Entry) (m : Machine) (events : List Event) → IsEffect line m events → Said_so line past m → Left line events past m
effect (lines.Repeat number) past m events (inner, (drawn, route, one), are) known =
    inl (record { number = number; drawn = drawn; route = route; is = are ∙ ap (λ (l : List OuterEvent). map Outside_does l) one; said = known.1; tie = known.0 })
effect (lines.Join node) past m events is known = joining node past m events is (settled (lines.Join node) past m (λ number same. cc) known)
effect line past m events is known = inr (inr (effect_covered JoinsNode line m events (covers_line line tt) is), settled line past m (is_other line tt) known)

-- ---- an event

pub hosts : (event : OuterEvent) → is_own event ≡ false → JoinsNode event
hosts (Joins node) own = absurd (not_own own)
  where
    not_own : true ≡ false → ⊥
    not_own is = cc
hosts event own = tt

of_tick : (event : OuterEvent) → IsOfTick event → JoinsNode event
of_tick (Joins node) tick = absurd tick
of_tick event tick = tt

number_silent : (o : OuterState) → AreSilent (ticked_entry o)
number_silent o = by (o.in_tick && not o.stamped)
  where
    by : (b : Bool) → AreSilent (if b then entry.Time o.clock ∷ [] else [])
    by true = (tt, tt)
    by false = tt

stamped_silent : (o : OuterState) (told : List Entry) → AreSilent told → AreSilent (stamp o told)
stamped_silent o [] silent = tt
stamped_silent o (e ∷ told) silent = all-append IsSilent (ticked_entry o) (e ∷ told) (number_silent o) silent

-- a refusal is entered, and then no words stand last
refusal_stands : (past : List Entry) (o : OuterState) (refusal : LineRefusal) → EachAfter MayHear past (stamp o (entry.Refused refusal ∷ [])) × FreshHere (past ++ stamp o (entry.Refused refusal ∷ []))
refusal_stands past o refusal = by (o.in_tick && not o.stamped)
  where
    by : (b : Bool) → EachAfter MayHear past ((if b then entry.Time o.clock ∷ [] else []) ++ entry.Refused refusal ∷ []) × FreshHere (past ++ ((if b then entry.Time o.clock ∷ [] else []) ++ entry.Refused refusal ∷ []))
    by true = ((tt, (tt, tt)), subst FreshHere (append_assoc past (entry.Time o.clock ∷ []) (entry.Refused refusal ∷ [])) (fresh_one (past ++ entry.Time o.clock ∷ []) (entry.Refused refusal) tt))
    by false = ((tt, tt), fresh_one past (entry.Refused refusal) tt)

one_told : (past : List Entry) (w : Outside) (refusal : LineRefusal) → Tie nothing past w
    → EachAfter MayHear past (stamp w.outer (entry.Refused refusal ∷ [])) × Known MayHear Knows (past ++ stamp w.outer (entry.Refused refusal ∷ [])) (outside (has_entered w.outer (entry.Refused refusal ∷ [])) w.devices)
one_told past w refusal tie =
    let stands = refusal_stands past w.outer refusal in
    let later : Outside = outside (has_entered w.outer (entry.Refused refusal ∷ [])) w.devices in
    let goes = silent nothing w later (stamp w.outer (entry.Refused refusal ∷ [])) (stamped_silent w.outer (entry.Refused refusal ∷ []) (tt, tt)) (record { frames = refl; joined = refl; chip = refl }) in
    (stands.0, ((goes.ties past tie, stands.1), number_stands (past ++ stamp w.outer (entry.Refused refusal ∷ [])) later.outer))

refusal_told : (past : List Entry) (w : Outside) (refused : Refusal) → Tie nothing past w
    → EachAfter MayHear past (stamp w.outer (refusal_entries refused)) × Known MayHear Knows (past ++ stamp w.outer (refusal_entries refused)) (outside (has_entered w.outer (refusal_entries refused)) w.devices)
refusal_told past w NeverSent tie = one_told past w refusal.NeverSent tie
refusal_told past w Forgotten tie = one_told past w refusal.Forgotten tie
refusal_told past w (Stale later) tie = one_told past w (refusal.Stale later) tie

-- what the air refuses, the transcript refuses
pub same_refusal : (past : List Entry) (m : Machine) (number : ℕ) → Tie nothing past m.outside → refusal_of m.outside.outer.air.frames number ≡ refusal_in (log_of past) number
same_refusal past m number tie =
    refusal_is tie.log m.outside.outer.air.frames number tie.kept
    ∙ (sym (plain_refusal tie.log number) ∙ ap (λ (l : List Mark). refusal_in l number) (tie.shown ∙ append-nil (log_of past)))

module _ (rules : StartsSo) where
  kept : (past : List Entry) (m : Machine) (event : Event) → CoversOuter JoinsNode event → May m event → Settled past m
      → EachAfter MayHear past (entries m event) × Settled (past ++ entries m event) (happens m event)
  kept past m event covers may known = machine_keeps MayHear Knows JoinsNode (air_law rules) hosts m event covers may past known

  -- ---- a frame is repeated

  is_fresh : (past : List Entry) (m : Machine) (number : ℕ) → Tie nothing past m.outside → refusal_of m.outside.outer.air.frames number ≡ None → IsFresh past number
  is_fresh past m number tie none = record {
    fresh = sym (same_refusal past m number tie) ∙ none;
    apart = subst (AllByRecursion IsApart) (tie.shown ∙ append-nil (log_of past)) (plain_apart tie.log tie.apart);
  }

  fresh_now : (past : List Entry) (m : Machine) (number : ℕ) → line_last past ≡ lines.Repeat number ∷ [] → Tie nothing past m.outside → refusal_of m.outside.outer.air.frames number ≡ None → FreshHere past
  fresh_now past m number said tie none other is =
      let same : lines.Repeat number ∷ [] ≡ lines.Repeat other ∷ [] = sym said ∙ is in
      let one : number ≡ other = cc in
      subst (IsFresh past) one (is_fresh past m number tie none)

  -- where it is refused, that is entered
  refused_keeps : (past : List Entry) (m : Machine) (number : ℕ) (drawn : List ℕ) (route : Option Route) (refused : Refusal) → refusal_of m.outside.outer.air.frames number ≡ Some refused
      → Tie nothing past m.outside
      → EachAfter MayHear past (entries m (Outside_does (Repeats number drawn route))) × Settled (past ++ entries m (Outside_does (Repeats number drawn route))) (happens m (Outside_does (Repeats number drawn route)))
  unfolding happens entries outcome devices_after
  refused_keeps past m number drawn route refused is tie =
      let step : AirStep = mesh.Repeats number drawn route in
      subst (λ (r : Option Refusal). EachAfter MayHear past (stamp (repeats m.outside r step).outer (repeats m.outside r step).entries)
      × Known MayHear Knows (past ++ stamp (repeats m.outside r step).outer (repeats m.outside r step).entries)
      (outside (has_entered (repeats m.outside r step).outer (repeats m.outside r step).entries) (devices_repeated m.outside r step))) (sym is) (refusal_told past m.outside refused tie)

  repeat_keeps : (past : List Entry) (m : Machine) (number : ℕ) (drawn : List ℕ) (route : Option Route) → May m (Outside_does (Repeats number drawn route))
      → line_last past ≡ lines.Repeat number ∷ [] → Tie nothing past m.outside
      → EachAfter MayHear past (entries m (Outside_does (Repeats number drawn route))) × Settled (past ++ entries m (Outside_does (Repeats number drawn route))) (happens m (Outside_does (Repeats number drawn route)))
  repeat_keeps past m number drawn route may said tie = by (refusal_of m.outside.outer.air.frames number) refl
    where
      by : (refused : Option Refusal) → refusal_of m.outside.outer.air.frames number ≡ refused
          → EachAfter MayHear past (entries m (Outside_does (Repeats number drawn route))) × Settled (past ++ entries m (Outside_does (Repeats number drawn route))) (happens m (Outside_does (Repeats number drawn route)))
      by None none =
          kept past m (Outside_does (Repeats number drawn route)) tt may ((tie, fresh_now past m number said tie none), number_stands past m.outside.outer)
      by (Some refused) is = refused_keeps past m number drawn route refused is tie

  -- ---- the next event of an effect

  -- the one that repeats a frame
  does_repeat : (line : Line) (first : Event) (left : List Event) (past : List Entry) (m : Machine) → May m first → AwaitsRepeat (first ∷ left) past m
      → EachAfter MayHear past (entries m first) × Left line left (past ++ entries m first) (happens m first)
  does_repeat line first left past m may awaits =
      let all = awaits.is in
      let is : first ≡ Outside_does (Repeats awaits.number awaits.drawn awaits.route) = cc in
      let none : left ≡ [] = cc in
      let got = repeat_keeps past m awaits.number awaits.drawn awaits.route (subst (May m) is may) awaits.said awaits.tie in
      subst (λ (e : Event). EachAfter MayHear past (entries m e) × Left line left (past ++ entries m e) (happens m e)) (sym is)
      (got.0, inr (inr (subst (λ (l : List Event). AllByRecursion (CoversOuter JoinsNode) l) (sym none) tt), got.1))

  -- a node joins the host, and is none that the controller is
  host_joins : (m : Machine) (node : ℕ) → May m (Host_does (joins_host node)) → node ≢ controller
  unfolding May
  host_joins m node may = may.0.1

  does_join : (line : Line) (first : Event) (left : List Event) (past : List Entry) (m : Machine) → May m first → AwaitsJoin (first ∷ left) → Settled past m
      → EachAfter MayHear past (entries m first) × Left line left (past ++ entries m first) (happens m first)
  does_join line first left past m may (node, all) known =
      let is : first ≡ Host_does (joins_host node) = cc in
      let rest : left ≡ Outside_does (Joins node) ∷ [] = cc in
      let apart = host_joins m node (subst (May m) is may) in
      let got = kept past m first (subst (CoversOuter JoinsNode) (sym is) tt) may known in
      (got.0, inr (inr (subst (λ (l : List Event). AllByRecursion (CoversOuter JoinsNode) l) (sym rest) (apart, tt)), got.1))

  does : (line : Line) (first : Event) (left : List Event) (past : List Entry) (m : Machine) → May m first → Left line (first ∷ left) past m
      → EachAfter MayHear past (entries m first) × Left line left (past ++ entries m first) (happens m first)
  does line first left past m may (inl awaits) = does_repeat line first left past m may awaits
  does line first left past m may (inr (inl join, known)) = does_join line first left past m may join known
  does line first left past m may (inr (inr covered, known)) = let got = kept past m first covered.0 may known in (got.0, inr (inr covered.1, got.1))

  done : (line : Line) (past : List Entry) (m : Machine) → Left line [] past m → Settled past m
  done line past m (inl awaits) = let all = awaits.is in absurd cc
  done line past m (inr (inl (node, all), known)) = absurd cc
  done line past m (inr (inr covered, known)) = known

  -- ---- lines

  by_lines : ByLine MayHear Said_so Said_so Left Settled
  by_lines = record {
    said = said;
    in_line = record {
      begins = begins;
      effect = effect;
      does = does;
      done = done;
      ticks = λ count past m known. settled (lines.Tick count) past m (λ number same. cc) known;
      common = λ past m event common may known. kept past m event (common_covered JoinsNode of_tick event common) may known;
    };
  }

  pub air_walk : Walk MayHear KnowAir
  air_walk = walk_of MayHear Said_so Said_so Left Settled by_lines

pub nothing_said : (m : Machine) → Tie nothing [] m.outside → KnowAir Between [] m
nothing_said m tie = ((tie, λ number is. cc), number_stands [] m.outside.outer)
