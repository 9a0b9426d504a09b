-- Over the phases of a line: what stands directly after a line that repeats a frame.
use Rattle.std.proofs.Common.{◌≡◌, ℕ, ◌-◌, Bool, true, false, inl, inr, List, [], ◌∷◌, ◌++◌, map, take, length, refl, sym, ap, subst, ◌∙◌, append-nil, append_assoc, arith}
use Rattle.std.proofs.lemmas.List.{length-append, take_at}
use Rattle.std.specs.Prelude.{Option, Some, None}
use Rattle.std.specs.List.{AllByRecursion}
use Rattle.route_table.specs.declared.route.Route.{Route}
use Rattle.device_sim.specs.State.{State}
use Rattle.air_frames.specs.Ages.{refusal_of}
use Rattle.air_frames.specs.declared.ages.Refusal.{Refusal}
use Rattle.air_frames.specs.History.{Mark, refusal_in}
use Rattle.mesh_sim.specs.Steps.{MayHappen, mesh_outs}
use Rattle.mesh_sim.specs.Steps as mesh
use Rattle.zw_text.specs.declared.line.Line.{Line}
use Rattle.zw_text.specs.declared.line.Line.TheVariants as lines
use Rattle.zw_text.specs.declared.entry.Entry.{Entry}
use Rattle.zw_text.specs.declared.entry.Entry.TheVariants as entry
use Rattle.zw_text.specs.Transcript.{line_of, line_last}
use Rattle.zw_text.proofs.Views.{folded-append}
use Rattle.law_transcript.specs.Lists.{EachAfter}
use Rattle.law_transcript.specs.Answers.{before_last}
use Rattle.law_wire.specs.Arriving.{hears_again}
use Rattle.outside_model.specs.Events.{OuterEvent, Begins_line, Repeats, MayRepeat, mesh_of, outcome, May as MayOutside}
use Rattle.world_model.specs.State.{Machine}
use Rattle.world_model.specs.Events.{Event, Outside_does, entries, May}
use Rattle.world_model.specs.Lines.{IsEffect}
use Rattle.proof_air.proofs.Alone.{event_wordless, wordless_line}
use Rattle.proof_air.specs.proof_walk.Outside.{HasNoWords, nothing, CoversOuter}
use Rattle.proof_air.specs.proof_walk.Phases.{Phase, Between, Said_line, Begun, Doing, Turns, Goes}
use Rattle.proof_air.specs.proof_walk.Walk.{WalkOver}
use Rattle.proof_air.proofs.ByLine.{last_is}
use Rattle.proof_air.proofs.Stepping.{Steps, event_then}
use Rattle.proof_air.specs.Logs.{mark_step, log_of, IsApart, Tie}
use Rattle.proof_air.proofs.Handling.{tie_here}
use Rattle.proof_air.proofs.Hearing.{same_refusal}
use Rattle.proof_devices.specs.Living.{Acts, MovesNone, KnowDevices, Saying}
use Rattle.proof_devices.specs.Answering.{MayAnswer, Answered, IsAwaited, KnowAnswers, Ground, Listens}
use Rattle.proof_devices.proofs.Again.{Again, again_tells, heard_first}
use Rattle.proof_air.proofs.Logs.{plain_apart}

-- what stands before the last entry
pub before_is : (before : List Entry) (e : Entry) → before_last (before ++ e ∷ []) ≡ before
before_is before e =
    let all = length-append before (e ∷ []) in
    let count : length (before ++ e ∷ []) - 1 ≡ length before = omega (arith, all) in
    ap (λ (n : ℕ). take n (before ++ e ∷ [])) count ∙ take_at before (e ∷ []) (length before) refl

-- none of its frames is of the controller alone, whatever is left out of them
-- a line that repeats no frame
abbrev IsOther : Line → Type 0
IsOther (lines.Repeat number) = ⊥
IsOther line = Unit {0}

module _ (devices : List State) where
  abbrev Know : Phase → List Entry → Machine → Type 0
  Know = KnowAnswers devices

  abbrev Asks : List Entry → Entry → Type 0
  Asks = MayAnswer devices

  abbrev Keeps : Phase → List Entry → Machine → Event → Type 0
  Keeps = Steps Asks Know

  -- ---- where no `repeat` is to be answered

  after_one : (past : List Entry) (e : Entry) → HasNoWords e → Answered devices (past ++ e ∷ [])
  after_one past e none next number more is = let nothing_said : [] ≡ lines.Repeat number ∷ more = sym (last_is past e ∙ wordless_line e none) ∙ is in absurd cc

  after_other : (past : List Entry) (line : Line) → IsOther line → line_last past ≡ line ∷ [] → Answered devices past
  after_other past line other last next number more is =
      let both : line ∷ [] ≡ lines.Repeat number ∷ more = sym last ∙ is in
      let same : line ≡ lines.Repeat number = cc in
      absurd (subst IsOther same other)

  answers_on : (past told : List Entry) → AllByRecursion HasNoWords told → Answered devices past → EachAfter Asks past told × Answered devices (past ++ told)
  answers_on past [] none answered = (tt, subst (Answered devices) (sym (append-nil past)) answered)
  answers_on past (e ∷ told) none answered =
      let rest = answers_on (past ++ e ∷ []) told none.1 (after_one past e none.0) in
      ((answered e, rest.0), subst (Answered devices) (append_assoc past (e ∷ []) told) rest.1)

  -- ---- directly after one

  module _ (past : List Entry) (number : ℕ) (last : line_last past ≡ lines.Repeat number ∷ []) (apart : AllByRecursion IsApart (log_of (before_last past))) where
    same_number : (other : ℕ) (more : List Line) → line_last past ≡ lines.Repeat other ∷ more → number ≡ other
    same_number other more is = let both : lines.Repeat number ∷ [] ≡ lines.Repeat other ∷ more = sym last ∙ is in cc

    -- it is refused, or nobody is there to hear it
    none_asked : (refusal_in (log_of (before_last past)) number ≡ None → hears_again devices past number ≡ true → ⊥) → Answered devices past
    none_asked never e other more is = (
      apart,
      λ fresh hears.
          let same = same_number other more is in
          absurd (never (ap (λ (n : ℕ). refusal_in (log_of (before_last past)) n) same ∙ fresh) (ap (λ (n : ℕ). hears_again devices past n) same ∙ hears)),
    )

    heard_stands : MayAnswer devices past (entry.Heard number)
    heard_stands other more is = (apart, λ fresh hears. ap (λ (n : ℕ). entry.Heard n) (same_number other more is))

  -- ---- the words of a line, and its beginning

  pub known_now : (past : List Entry) (m : Machine) → Know Between past m → Answered devices past
  known_now past m (inl none) = absurd none
  known_now past m (inr answered) = answered

  said : (past : List Entry) (m : Machine) (words : List ℕ) (line : Line) → line_of (entry.Said words) ≡ line ∷ [] → Ground devices Between past m → Know Between past m
      → Asks past (entry.Said words) × Know (Said_line line) (past ++ entry.Said words ∷ []) m
  said past m words line read ground known = (known_now past m known (entry.Said words), inl tt)

  begins : (line : Line) (past : List Entry) (m : Machine) → Keeps (Begun line) past m (Outside_does Begins_line)
  unfolding entries outcome
  begins line past m = (tt, inl tt)

  -- ---- a frame is repeated

  pub saying_last : (line : Line) (past : List Entry) (m : Machine) → Saying devices line past m → line_last past ≡ line ∷ []
  saying_last line past m saying = ap line_last saying.is ∙ (last_is saying.before (entry.Said saying.words) ∙ saying.read)

  -- the history is that of before the words
  same_log : (line : Line) (past : List Entry) (m : Machine) → Saying devices line past m → log_of (before_last past) ≡ log_of past
  same_log line past m saying =
      ap (λ (l : List Entry). log_of (before_last l)) saying.is
      ∙ (ap log_of (before_is saying.before (entry.Said saying.words)) ∙ (sym (folded-append mark_step [] saying.before (entry.Said saying.words ∷ [])) ∙ ap log_of (sym saying.is)))

  pub may_repeat : (m : Machine) (number : ℕ) (drawn : List ℕ) (route : Option Route) → refusal_of m.outside.outer.air.frames number ≡ None → May m (Outside_does (Repeats number drawn route))
      → MayHappen (mesh_of m.outside) (mesh.Repeats number drawn route)
  unfolding May MayOutside
  may_repeat m number drawn route fresh may = subst (λ (r : Option Refusal). MayRepeat m.outside r (mesh.Repeats number drawn route)) fresh may.1

  module _ (listens : Listens devices) where
    module _ (number : ℕ) (left : List Event) (past : List Entry) (m : Machine) (drawn : List ℕ) (route : Option Route) (may : May m (Outside_does (Repeats number drawn route)))
        (ground : Ground devices (Doing (lines.Repeat number) left) past m) (acts : Acts devices (lines.Repeat number) left past m) where
      abbrev this : Event
      this = Outside_does (Repeats number drawn route)

      abbrev Goes_on : Type 0
      Goes_on = EachAfter Asks past (entries m this) × Answered devices (past ++ entries m this)

      tie : Tie nothing past m.outside
      tie = tie_here (Doing (lines.Repeat number) left) past m ground.0.0

      last : line_last past ≡ lines.Repeat number ∷ []
      last = saying_last (lines.Repeat number) past m acts.0.0

      logs : log_of (before_last past) ≡ log_of past
      logs = same_log (lines.Repeat number) past m acts.0.0

      apart : AllByRecursion IsApart (log_of (before_last past))
      apart = subst (AllByRecursion IsApart) (tie.shown ∙ (append-nil (log_of past) ∙ sym logs)) (plain_apart tie.log tie.apart)

      refusals : refusal_of m.outside.outer.air.frames number ≡ refusal_in (log_of (before_last past)) number
      refusals = same_refusal past m number tie ∙ ap (λ (l : List Mark). refusal_in l number) (sym logs)

      none_due : (refusal_in (log_of (before_last past)) number ≡ None → hears_again devices past number ≡ true → ⊥) → Goes_on
      none_due never = answers_on past (entries m this) (event_wordless m this may) (none_asked past number last apart never)

      heard_due : (rest : List Entry) → entries m this ≡ entry.Heard number ∷ rest → Goes_on
      heard_due rest is =
          let none : AllByRecursion HasNoWords (entry.Heard number ∷ rest) = subst (AllByRecursion HasNoWords) is (event_wordless m this may) in
          let later = answers_on (past ++ entry.Heard number ∷ []) rest none.1 (after_one past (entry.Heard number) tt) in
          subst (λ (l : List Entry). EachAfter Asks past l × Answered devices (past ++ l)) (sym is)
          ((heard_stands past number last apart, later.0), subst (Answered devices) (append_assoc past (entry.Heard number ∷ []) rest) later.1)

      by_hearing : (b : Bool) → refusal_of m.outside.outer.air.frames number ≡ None → hears_again devices past number ≡ b
          → Again number b (mesh_outs (mesh_of m.outside) (mesh.Repeats number drawn route)) → Goes_on
      by_hearing false fresh hears again = none_due (λ none heard. let both : false ≡ true = sym hears ∙ heard in absurd cc)
      by_hearing true fresh hears (rest, is, none) = heard_due _ (heard_first m number drawn route rest acts.0.1 fresh is)

      by_refusal : (refused : Option Refusal) → refusal_of m.outside.outer.air.frames number ≡ refused → Goes_on
      by_refusal (Some refused) is = none_due (λ none heard. let both : Some refused ≡ None = sym is ∙ (refusals ∙ none) in absurd cc)
      by_refusal None is =
          by_hearing (hears_again devices past number) is refl
          (again_tells devices past m.outside number tie (λ node other. listens past m number left node other ground.0.1 acts) drawn route (may_repeat m number drawn route is may))

      repeated : Goes_on
      repeated = by_refusal (refusal_of m.outside.outer.air.frames number) refl

    repeats_keep : (number : ℕ) (first : Event) (left : List Event) (past : List Entry) (m : Machine) → May m first → Ground devices (Doing (lines.Repeat number) (first ∷ left)) past m
        → IsEffect (lines.Repeat number) m (first ∷ left) → Keeps (Doing (lines.Repeat number) left) past m first
    repeats_keep number first left past m may ground (inner, (drawn, route, one), are) =
        let now : Event = Outside_does (Repeats number drawn route) in
        let all : first ∷ left ≡ now ∷ [] = are ∙ ap (λ (l : List OuterEvent). map Outside_does l) one in
        let same : first ≡ now = cc in
        let got = repeated number (first ∷ left) past m drawn route (subst (May m) same may) ground (acts_by same ground.1) in
        subst (λ (e : Event). Keeps (Doing (lines.Repeat number) left) past m e) (sym same) (got.0, inr got.1)
      where
        acts_by : {drawn : List ℕ} {route : Option Route} → first ≡ Outside_does (Repeats number drawn route) → KnowDevices devices (Doing (lines.Repeat number) (first ∷ left)) past m
            → Acts devices (lines.Repeat number) (first ∷ left) past m
        acts_by same (inl acts) = acts
        acts_by same (inr (none, rested)) = absurd (subst (CoversOuter MovesNone) same none.0)

    -- ---- each event

    awaited_keeps : (here next : Phase) (past : List Entry) (m : Machine) (event : Event) → Goes here m event next → May m event → Ground devices here past m → IsAwaited here m → Keeps next past m event
    awaited_keeps (Said_line line) next past m event (event_is, next_is) may ground awaits =
        event_then Asks Know next (Begun line) event (Outside_does Begins_line) past m event_is next_is (begins line past m)
    awaited_keeps (Begun line) next past m event goes may ground awaits = absurd goes
    awaited_keeps (Doing (lines.Repeat number) (first ∷ left)) next past m event (event_is, next_is) may ground awaits =
        event_then Asks Know next (Doing (lines.Repeat number) left) event first past m event_is next_is (repeats_keep number first left past m (subst (May m) event_is may) ground awaits)
    awaited_keeps here next past m event goes may ground awaits = absurd awaits

    event_keeps : (here next : Phase) (past : List Entry) (m : Machine) (event : Event) → Goes here m event next → May m event → Ground devices here past m → Know here past m → Keeps next past m event
    event_keeps here next past m event goes may ground (inl awaits) = awaited_keeps here next past m event goes may ground awaits
    event_keeps here next past m event goes may ground (inr answered) =
        let got = answers_on past (entries m event) (event_wordless m event may) answered in (got.0, inr got.1)

    -- ---- each part that begins

    begins_effect : (line : Line) (events : List Event) (past : List Entry) (m : Machine) → IsEffect line m events → line_last past ≡ line ∷ [] → Know (Doing line events) past m
    begins_effect (lines.Repeat number) [] past m (inner, (drawn, route, one), are) last =
        let all : [] ≡ Outside_does (Repeats number drawn route) ∷ [] = are ∙ ap (λ (l : List OuterEvent). map Outside_does l) one in absurd cc
    begins_effect (lines.Repeat number) (first ∷ left) past m is last = inl is
    begins_effect line events past m is last = inr (after_other past line tt last)

    awaited_turns : (here next : Phase) (past : List Entry) (m : Machine) → Turns here m next → Ground devices here past m → IsAwaited here m → Know next past m
    awaited_turns (Said_line line) next past m turns ground awaits = absurd turns
    awaited_turns (Begun line) next past m (inl (events, is, next_is)) ground awaits =
        subst (λ (q : Phase). Know q past m) (sym next_is) (begins_effect line events past m is (saying_last line past m ground.1.0))
    awaited_turns (Begun line) next past m (inr (ticks, line_is, next_is)) ground awaits =
        inr (after_other past (lines.Tick ticks) tt (saying_last line past m ground.1.0 ∙ ap (λ (l : Line). l ∷ []) line_is))
    awaited_turns (Doing (lines.Repeat number) (first ∷ left)) next past m turns ground awaits = absurd turns
    awaited_turns here next past m turns ground awaits = absurd awaits

    turn_keeps : (here next : Phase) (past : List Entry) (m : Machine) → Turns here m next → Ground devices here past m → Know here past m → Know next past m
    turn_keeps here next past m turns ground (inl awaits) = awaited_turns here next past m turns ground awaits
    turn_keeps here next past m turns ground (inr answered) = inr answered

    pub answers_walk : WalkOver (Ground devices) (MayAnswer devices) (KnowAnswers devices)
    answers_walk = record { said = said; event = event_keeps; turn = turn_keeps }

-- nothing was said yet
pub answers_first : (devices : List State) (m : Machine) → KnowAnswers devices Between [] m
answers_first devices m = inr (λ e number more is. let none : [] ≡ lines.Repeat number ∷ more = is in absurd cc)
