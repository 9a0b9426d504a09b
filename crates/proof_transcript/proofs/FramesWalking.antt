-- What is known goes on over lines that are said one after another: through what is calm, the deliveries of each tick, and the lines that mark frames or repeat one.
use Rattle.std.proofs.Common.{◌≡◌, ℕ, zero, suc, ◌⊎◌, inl, inr, List, [], ◌∷◌, ◌++◌, map, refl, ap, sym, subst, ◌∙◌, append-nil, append_assoc}
use Rattle.std.specs.Prelude.{Option}
use Rattle.std.specs.List.{AllByRecursion}
use Rattle.route_table.specs.declared.route.Route.{Route}
use Rattle.zw_text.specs.declared.line.Line.{Line}
use Rattle.zw_text.specs.declared.line.Line.TheVariants.{Tick, Lose, Repeat, Restart}
use Rattle.zw_text.specs.declared.entry.Entry.{Entry}
use Rattle.zw_text.specs.declared.entry.Entry.TheVariants.{Said}
use Rattle.zw_text.specs.Transcript.{line_of}
use Rattle.law_host.specs.law_transcript.Lists.{EachAfter}
use Rattle.proof_air.proofs.Lists.{each-append}
use Rattle.proof_air.specs.outside_model.State.{OuterState}
use Rattle.proof_air.specs.outside_model.Events.{OuterEvent, Begins_line, Loses, Repeats, outcome}
use Rattle.proof_air.specs.world_model.State.{Machine}
use Rattle.proof_air.specs.world_model.Events.{Event, Outside_does, happens, entries, May}
use Rattle.proof_air.specs.world_model.Did.{happens_all, entries_all, MayAll, Schedule, Then, ThenPrefix}
use Rattle.proof_air.specs.world_model.Settling.{Settles}
use Rattle.proof_air.specs.world_model.Ticking.{Ticks}
use Rattle.proof_air.specs.world_model.Lines.{IsEffect, IsLineBegin, IsLineRest, IsLine}
use Rattle.proof_air.specs.world_model.Prefixes.{SettlesPrefix, TicksPrefix, EffectPrefix, LineRestPrefix, LinePrefix, LinePart}
use Rattle.proof_air.proofs.EventLists.{happens_all-append, entries_all-append}
use Rattle.proof_air.specs.world_lines.Spoken.{Spoken, after, after_all, entries_of, transcript_of}
use Rattle.proof_air.specs.world_lines.Done.{AreDone}
use Rattle.proof_air.specs.world_lines.Whole.{AreWhole}
use Rattle.proof_transcript.proofs.KeptOverLists.{Keeps, keeps_none, keeps_both}
use Rattle.proof_transcript.proofs.Events.{IsCalm}
use Rattle.proof_transcript.proofs.Calm.{CalmlyAfter, Arriving, ArrivingPrefix, IsCalmLine, calm_settling, calm_settling_prefix, calm_effect, calm_effect_prefix, calm_restart_prefix, ticks_calmly, ticks_calmly_prefix}

-- the entries may stand there; what is known after them is not said
abbrev pub Stands : (List Entry → Entry → Type 0) → (List Entry → OuterState → Type 0) → OuterState → List Entry → Type 0
Stands Asks Known o told = (past : List Entry) → Known past o → EachAfter Asks past told

-- a line begins
abbrev pub begun : Machine → Machine
begun m = happens m (Outside_does Begins_line)

-- the frames that lines repeat
abbrev pub RepeatsOnly : (ℕ → Type 0) → Line → Type 0
RepeatsOnly Repeated (Repeat number) = Repeated number
RepeatsOnly Repeated line = Unit {0}

-- What a law owes: of calm events; of the clock and the deliveries of a tick, whole or cut short; of the words of a line, and of what `lose` and `repeat` do after them, where these frames are repeated.
pub record Walks (Asks : List Entry → Entry → Type 0) (Known : List Entry → OuterState → Type 0) (Repeated : ℕ → Type 0) : Type 0 where
  pub calm : (m : Machine) (event : Event) → IsCalm event → Keeps Asks Known m.outside.outer (entries m event) (happens m event).outside.outer
  pub arriving : (m : Machine) (events : List Event) → MayAll m events → Arriving m events → Keeps Asks Known m.outside.outer (entries_all m events) (happens_all m events).outside.outer
  pub arriving_prefix : (m : Machine) (events : List Event) → MayAll m events → ArrivingPrefix m events → Stands Asks Known m.outside.outer (entries_all m events)
  pub words : (o : OuterState) (words : List ℕ) → Stands Asks Known o (Said words ∷ [])
  pub said : (m : Machine) (words : List ℕ) (line : Line) → line_of (Said words) ≡ line ∷ [] → IsCalmLine line → Keeps Asks Known m.outside.outer (Said words ∷ []) (begun m).outside.outer
  pub loses : (m : Machine) (words : List ℕ) (count : ℕ) → line_of (Said words) ≡ Lose count ∷ [] →
      Keeps Asks Known m.outside.outer (Said words ∷ []) (happens (begun m) (Outside_does (Loses count))).outside.outer
  pub repeats : (m : Machine) (words : List ℕ) (number : ℕ) (drawn : List ℕ) (route : Option Route) → Repeated number → line_of (Said words) ≡ Repeat number ∷ [] → May (begun m) (Outside_does (Repeats number drawn route)) →
      Keeps Asks Known m.outside.outer (Said words ∷ entries (begun m) (Outside_does (Repeats number drawn route))) (happens (begun m) (Outside_does (Repeats number drawn route))).outside.outer

-- a prefix of one event
prefix_of_one : (event : Event) (prefix rest : List Event) → prefix ++ rest ≡ event ∷ [] → (prefix ≡ []) ⊎ (prefix ≡ event ∷ [])
prefix_of_one event [] rest are = inl refl
prefix_of_one event (one ∷ []) rest are = let same : one ≡ event = cc in inr (ap (λ (e : Event). e ∷ []) same)
prefix_of_one event (one ∷ (two ∷ prefix)) rest are = absurd cc

repeat_prefix : (number : ℕ) (drawn : List ℕ) (route : Option Route) (m : Machine) (effect : List Event) → (effect ≡ []) ⊎ (effect ≡ Outside_does (Repeats number drawn route) ∷ [])
    → (effect ≡ []) ⊎ IsEffect (Repeat number) m effect
repeat_prefix number drawn route m effect (inl none) = inl none
repeat_prefix number drawn route m effect (inr is) = inr (Repeats number drawn route ∷ [], (drawn, route, refl), is)

module _ (Asks : List Entry → Entry → Type 0) (Known : List Entry → OuterState → Type 0) (Repeated : ℕ → Type 0) (walks : Walks Asks Known Repeated) where
  -- events go on so, or at least stand
  abbrev Sound : Machine → List Event → Type 0
  Sound m events = Keeps Asks Known m.outside.outer (entries_all m events) (happens_all m events).outside.outer

  abbrev Halts : Machine → List Event → Type 0
  Halts m events = Stands Asks Known m.outside.outer (entries_all m events)

  halts : (m : Machine) (events : List Event) → Sound m events → Halts m events
  halts m events sound past known = (sound past known).0

  sound_both : (m : Machine) (a b : List Event) → Sound m a → Sound (happens_all m a) b → Sound m (a ++ b)
  sound_both m a b first later =
      subst (λ (l : List Entry). Keeps Asks Known m.outside.outer l (happens_all m (a ++ b)).outside.outer) (sym (entries_all-append m a b))
      (subst (λ (x : Machine). Keeps Asks Known m.outside.outer (entries_all m a ++ entries_all (happens_all m a) b) x.outside.outer) (sym (happens_all-append m a b))
      (keeps_both Asks Known m.outside.outer (happens_all m a).outside.outer (happens_all (happens_all m a) b).outside.outer (entries_all m a) (entries_all (happens_all m a) b) first later))

  stands_both : (o p : OuterState) (xs ys : List Entry) → Keeps Asks Known o xs p → Stands Asks Known p ys → Stands Asks Known o (xs ++ ys)
  stands_both o p xs ys first later past known =
      let one = first past known in
      each-append Asks past xs ys one.0 (later (past ++ xs) one.1)

  halts_both : (m : Machine) (a b : List Event) → Sound m a → Halts (happens_all m a) b → Halts m (a ++ b)
  halts_both m a b first later =
      subst (λ (l : List Entry). Stands Asks Known m.outside.outer l) (sym (entries_all-append m a b))
      (stands_both m.outside.outer (happens_all m a).outside.outer (entries_all m a) (entries_all (happens_all m a) b) first later)

  -- events of two lists
  may_first : (m : Machine) (a b : List Event) → MayAll m (a ++ b) → MayAll m a
  may_first m [] b may = tt
  may_first m (event ∷ a) b may = (may.0, may_first (happens m event) a b may.1)

  may_later : (m : Machine) (a b : List Event) → MayAll m (a ++ b) → MayAll (happens_all m a) b
  may_later m [] b may = may
  may_later m (event ∷ a) b may = may_later (happens m event) a b may.1

  calm_sound : (m : Machine) (events : List Event) → AllByRecursion IsCalm events → Sound m events
  calm_sound m [] calm = keeps_none Asks Known m.outside.outer
  calm_sound m (event ∷ events) calm =
      keeps_both Asks Known m.outside.outer (happens m event).outside.outer (happens_all (happens m event) events).outside.outer (entries m event) (entries_all (happens m event) events)
      (walks.calm m event calm.0) (calm_sound (happens m event) events calm.1)

  -- ---- ticks

  after_sound : (m : Machine) (events : List Event) → MayAll m events → CalmlyAfter Arriving m events → Sound m events
  after_sound m events may (first, rest, are, arriving, calm) =
      subst (Sound m) (sym are)
      (sound_both m first rest (walks.arriving m first (may_first m first rest (subst (MayAll m) are may)) arriving) (calm_sound (happens_all m first) rest calm))

  tick_halts : (m : Machine) (events : List Event) → MayAll m events → CalmlyAfter Arriving m events ⊎ ArrivingPrefix m events → Halts m events
  tick_halts m events may (inl following) = halts m events (after_sound m events may following)
  tick_halts m events may (inr prefix) = walks.arriving_prefix m events may prefix

  ticks_sound : (count : ℕ) (m : Machine) (events : List Event) → MayAll m events → Ticks count m events → Sound m events
  ticks_sound zero m events may are = subst (Sound m) (sym are) (keeps_none Asks Known m.outside.outer)
  ticks_sound (suc count) m events may (tick, rest, are, is_tick, more) =
      let all = subst (MayAll m) are may in
      subst (Sound m) (sym are)
      (sound_both m tick rest (after_sound m tick (may_first m tick rest all) (ticks_calmly m tick is_tick)) (ticks_sound count (happens_all m tick) rest (may_later m tick rest all) more))

  ticks_halt : (count : ℕ) (m : Machine) (events : List Event) → MayAll m events → TicksPrefix count m events → Halts m events
  ticks_halt zero m events may are = subst (Halts m) (sym are) (halts m [] (keeps_none Asks Known m.outside.outer))
  ticks_halt (suc count) m events may (inl prefix) = tick_halts m events may (ticks_calmly_prefix m events prefix)
  ticks_halt (suc count) m events may (inr (tick, rest, are, is_tick, more)) =
      let all = subst (MayAll m) are may in
      subst (Halts m) (sym are)
      (halts_both m tick rest (after_sound m tick (may_first m tick rest all) (ticks_calmly m tick is_tick)) (ticks_halt count (happens_all m tick) rest (may_later m tick rest all) more))

  -- ---- a line, with its words

  abbrev LineSound : Machine → List ℕ → List Event → Type 0
  LineSound m words events = Keeps Asks Known m.outside.outer (Said words ∷ entries_all m events) (happens_all m events).outside.outer

  abbrev LineHalts : Machine → List ℕ → List Event → Type 0
  LineHalts m words events = Stands Asks Known m.outside.outer (Said words ∷ entries_all m events)

  -- what comes first, and the rest
  line_both : (m : Machine) (words : List ℕ) (a b : List Event) → LineSound m words a → Sound (happens_all m a) b → LineSound m words (a ++ b)
  line_both m words a b first later =
      subst (λ (l : List Entry). Keeps Asks Known m.outside.outer (Said words ∷ l) (happens_all m (a ++ b)).outside.outer) (sym (entries_all-append m a b))
      (subst (λ (x : Machine). Keeps Asks Known m.outside.outer ((Said words ∷ entries_all m a) ++ entries_all (happens_all m a) b) x.outside.outer) (sym (happens_all-append m a b))
      (keeps_both Asks Known m.outside.outer (happens_all m a).outside.outer (happens_all (happens_all m a) b).outside.outer (Said words ∷ entries_all m a) (entries_all (happens_all m a) b) first later))

  line_halts : (m : Machine) (words : List ℕ) (a b : List Event) → LineSound m words a → Halts (happens_all m a) b → LineHalts m words (a ++ b)
  line_halts m words a b first later =
      subst (λ (l : List Entry). Stands Asks Known m.outside.outer (Said words ∷ l)) (sym (entries_all-append m a b))
      (stands_both m.outside.outer (happens_all m a).outside.outer (Said words ∷ entries_all m a) (entries_all (happens_all m a) b) first later)

  line_stops : (m : Machine) (words : List ℕ) (events : List Event) → LineSound m words events → LineHalts m words events
  line_stops m words events sound past known = (sound past known).0

  -- only the words
  no_more : (m : Machine) (words : List ℕ) → LineHalts m words []
  no_more m words = walks.words m.outside.outer words

  -- a line has begun
  begins_only : (m : Machine) (words : List ℕ) → LineHalts m words (Outside_does Begins_line ∷ [])
  unfolding entries outcome
  begins_only m words = walks.words m.outside.outer words

  begins_sound : (m : Machine) (words : List ℕ) (line : Line) → line_of (Said words) ≡ line ∷ [] → IsCalmLine line → LineSound m words (Outside_does Begins_line ∷ [])
  unfolding entries outcome
  begins_sound m words line read calm = walks.said m words line read calm

  loses_sound : (m : Machine) (words : List ℕ) (count : ℕ) → line_of (Said words) ≡ Lose count ∷ [] → LineSound m words (Outside_does Begins_line ∷ (Outside_does (Loses count) ∷ []))
  unfolding entries outcome
  loses_sound m words count read = walks.loses m words count read

  repeats_sound : (m : Machine) (words : List ℕ) (number : ℕ) (drawn : List ℕ) (route : Option Route) → Repeated number → line_of (Said words) ≡ Repeat number ∷ [] → May (begun m) (Outside_does (Repeats number drawn route))
      → LineSound m words (Outside_does Begins_line ∷ (Outside_does (Repeats number drawn route) ∷ []))
  unfolding entries outcome
  repeats_sound m words number drawn route repeated read may =
      subst (λ (l : List Entry). Keeps Asks Known m.outside.outer (Said words ∷ l) (happens (begun m) (Outside_does (Repeats number drawn route))).outside.outer)
      (sym (append-nil (entries (begun m) (Outside_does (Repeats number drawn route))))) (walks.repeats m words number drawn route repeated read may)

  -- the beginning and the effect of a line
  abbrev Opening : Line → Schedule
  Opening line = Then IsLineBegin (IsEffect line)

  opens : (m : Machine) (words : List ℕ) (line : Line) (events : List Event) → line_of (Said words) ≡ line ∷ [] → RepeatsOnly Repeated line → MayAll m events → Opening line m events → LineSound m words events
  opens m words (Lose count) events read repeated may (first, rest, are, begins, effect) =
      subst (LineSound m words) (sym (are ∙ (ap (λ (l : List Event). l ++ rest) begins ∙ ap (λ (l : List Event). Outside_does Begins_line ∷ l) effect))) (loses_sound m words count read)
  opens m words (Repeat number) events read repeated may (first, rest, are, begins, (inner, (drawn, route, is), effect)) =
      let all : events ≡ Outside_does Begins_line ∷ (Outside_does (Repeats number drawn route) ∷ []) =
      are ∙ (ap (λ (l : List Event). l ++ rest) begins ∙ ap (λ (l : List Event). Outside_does Begins_line ∷ l) (effect ∙ ap (λ (l : List OuterEvent). map Outside_does l) is)) in
      subst (LineSound m words) (sym all) (repeats_sound m words number drawn route repeated read (subst (MayAll m) all may).1.0)
  opens m words line events read repeated may (first, rest, are, begins, effect) =
      subst (LineSound m words) (sym are)
      (line_both m words first rest (subst (LineSound m words) (sym begins) (begins_sound m words line read tt)) (calm_sound (happens_all m first) rest (calm_effect line tt (happens_all m first) rest effect)))

  -- ---- whole lines

  -- the effect and the settling
  effect_goes : (m : Machine) (words : List ℕ) (line : Line) (first rest : List Event) → line_of (Said words) ≡ line ∷ [] → RepeatsOnly Repeated line → MayAll m (first ++ rest) → IsLineBegin m first
      → Then (IsEffect line) Settles (happens_all m first) rest → LineSound m words (first ++ rest)
  effect_goes m words line first rest read repeated may begins (effect, settling, are, is_effect, settles) =
      let all : first ++ rest ≡ (first ++ effect) ++ settling = ap (λ (l : List Event). first ++ l) are ∙ sym (append_assoc first effect settling) in
      subst (LineSound m words) (sym all)
      (line_both m words (first ++ effect) settling
      (opens m words line (first ++ effect) read repeated (may_first m (first ++ effect) settling (subst (MayAll m) all may)) (first, effect, refl, begins, is_effect))
      (calm_sound (happens_all m (first ++ effect)) settling (calm_settling (happens_all (happens_all m first) effect) settling settles)))

  rest_goes : (m : Machine) (words : List ℕ) (line : Line) (first rest : List Event) → line_of (Said words) ≡ line ∷ [] → RepeatsOnly Repeated line → MayAll m (first ++ rest) → IsLineBegin m first
      → IsLineRest line (happens_all m first) rest → LineSound m words (first ++ rest)
  rest_goes m words (Tick count) first rest read repeated may begins ticks =
      line_both m words first rest (subst (LineSound m words) (sym begins) (begins_sound m words (Tick count) read tt))
      (ticks_sound count (happens_all m first) rest (may_later m first rest may) ticks)
  rest_goes m words line first rest read repeated may begins is = effect_goes m words line first rest read repeated may begins is

  line_goes : (m : Machine) (words : List ℕ) (line : Line) (events : List Event) → line_of (Said words) ≡ line ∷ [] → RepeatsOnly Repeated line → MayAll m events → IsLine line m events → LineSound m words events
  line_goes m words line events read repeated may (first, rest, are, begins, is) = subst (LineSound m words) (sym are) (rest_goes m words line first rest read repeated (subst (MayAll m) are may) begins is)

  -- ---- a line that was cut short

  -- the beginning and some of the effect
  opened : (m : Machine) (words : List ℕ) (line : Line) (first effect : List Event) → line_of (Said words) ≡ line ∷ [] → RepeatsOnly Repeated line → MayAll m (first ++ effect) → IsLineBegin m first
      → (effect ≡ []) ⊎ IsEffect line (happens_all m first) effect → LineHalts m words (first ++ effect)
  opened m words line first effect read repeated may begins (inl none) =
      subst (LineHalts m words) (sym (ap (λ (l : List Event). first ++ l) none ∙ (append-nil first ∙ begins))) (begins_only m words)
  opened m words line first effect read repeated may begins (inr is) = line_stops m words (first ++ effect) (opens m words line (first ++ effect) read repeated may (first, effect, refl, begins, is))

  opening_halts : (m : Machine) (words : List ℕ) (line : Line) (first effect : List Event) → line_of (Said words) ≡ line ∷ [] → RepeatsOnly Repeated line → MayAll m (first ++ effect) → IsLineBegin m first
      → EffectPrefix line (happens_all m first) effect → LineHalts m words (first ++ effect)
  opening_halts m words (Lose count) first effect read repeated may begins (inl none) = opened m words (Lose count) first effect read repeated may begins (inl none)
  opening_halts m words (Lose count) first effect read repeated may begins (inr (more, is)) = opened m words (Lose count) first effect read repeated may begins (prefix_of_one _ effect more is)
  opening_halts m words (Repeat number) first effect read repeated may begins (inl none) = opened m words (Repeat number) first effect read repeated may begins (inl none)
  opening_halts m words (Repeat number) first effect read repeated may begins (inr (more, (inner, (drawn, route, is), are))) =
      opened m words (Repeat number) first effect read repeated may begins
      (repeat_prefix number drawn route (happens_all m first) effect (prefix_of_one (Outside_does (Repeats number drawn route)) effect more (are ∙ ap (λ (l : List OuterEvent). map Outside_does l) is)))
  opening_halts m words Restart first effect read repeated may begins prefix =
      line_stops m words (first ++ effect)
      (line_both m words first effect (subst (LineSound m words) (sym begins) (begins_sound m words Restart read tt)) (calm_sound (happens_all m first) effect (calm_restart_prefix (happens_all m first) effect prefix)))
  opening_halts m words line first effect read repeated may begins prefix =
      line_stops m words (first ++ effect)
      (line_both m words first effect (subst (LineSound m words) (sym begins) (begins_sound m words line read tt)) (calm_sound (happens_all m first) effect (calm_effect_prefix line tt (happens_all m first) effect prefix)))

  effect_ends : (m : Machine) (words : List ℕ) (line : Line) (first rest : List Event) → line_of (Said words) ≡ line ∷ [] → RepeatsOnly Repeated line → MayAll m (first ++ rest) → IsLineBegin m first
      → ThenPrefix (EffectPrefix line) (IsEffect line) SettlesPrefix (happens_all m first) rest → LineHalts m words (first ++ rest)
  effect_ends m words line first rest read repeated may begins (inl prefix) = opening_halts m words line first rest read repeated may begins prefix
  effect_ends m words line first rest read repeated may begins (inr (effect, settling, are, is_effect, settles)) =
      let all : first ++ rest ≡ (first ++ effect) ++ settling = ap (λ (l : List Event). first ++ l) are ∙ sym (append_assoc first effect settling) in
      subst (LineHalts m words) (sym all)
      (line_stops m words ((first ++ effect) ++ settling)
      (line_both m words (first ++ effect) settling
      (opens m words line (first ++ effect) read repeated (may_first m (first ++ effect) settling (subst (MayAll m) all may)) (first, effect, refl, begins, is_effect))
      (calm_sound (happens_all m (first ++ effect)) settling (calm_settling_prefix (happens_all (happens_all m first) effect) settling settles))))

  rest_ends : (m : Machine) (words : List ℕ) (line : Line) (first rest : List Event) → line_of (Said words) ≡ line ∷ [] → RepeatsOnly Repeated line → MayAll m (first ++ rest) → IsLineBegin m first
      → LineRestPrefix line (happens_all m first) rest → LineHalts m words (first ++ rest)
  rest_ends m words (Tick count) first rest read repeated may begins ticks =
      line_halts m words first rest (subst (LineSound m words) (sym begins) (begins_sound m words (Tick count) read tt))
      (ticks_halt count (happens_all m first) rest (may_later m first rest may) ticks)
  rest_ends m words line first rest read repeated may begins prefix = effect_ends m words line first rest read repeated may begins prefix

  line_ends : (m : Machine) (words : List ℕ) (line : Line) (events : List Event) → line_of (Said words) ≡ line ∷ [] → RepeatsOnly Repeated line → MayAll m events → LinePrefix line m events → LineHalts m words events
  line_ends m words line events read repeated may (inl none) = subst (LineHalts m words) (sym none) (no_more m words)
  line_ends m words line events read repeated may (inr (first, rest, are, begins, prefix)) = subst (LineHalts m words) (sym are) (rest_ends m words line first rest read repeated (subst (MayAll m) are may) begins prefix)

  line_part : (m : Machine) (words : List ℕ) (line : Line) (events : List Event) → line_of (Said words) ≡ line ∷ [] → RepeatsOnly Repeated line → MayAll m events → LinePart line m events → LineHalts m words events
  line_part m words line events read repeated may (inl whole) = line_stops m words events (line_goes m words line events read repeated may whole)
  line_part m words line events read repeated may (inr prefix) = line_ends m words line events read repeated may prefix

  -- ---- lines

  pub lines_stand : (m : Machine) (lines : List Spoken) → AreDone m lines → AllByRecursion (λ (spoken : Spoken). RepeatsOnly Repeated spoken.line) lines → Stands Asks Known m.outside.outer (transcript_of m lines)
  lines_stand m [] are repeated = λ past known. tt
  lines_stand m (spoken ∷ []) are repeated =
      subst (λ (l : List Entry). Stands Asks Known m.outside.outer l) (sym (append-nil (entries_of m spoken))) (line_part m spoken.words spoken.line spoken.events are.0.read repeated.0 are.0.may are.0.is_line)
  lines_stand m (spoken ∷ (next ∷ more)) are repeated =
      stands_both m.outside.outer (after m spoken).outside.outer (entries_of m spoken) (transcript_of (after m spoken) (next ∷ more))
      (line_goes m spoken.words spoken.line spoken.events are.0.read repeated.0 are.0.may are.0.is_line) (lines_stand (after m spoken) (next ∷ more) are.1 repeated.1)

  -- and where all lines were run whole, what is known is known in the end
  pub lines_lead : (m : Machine) (lines : List Spoken) → AreDone m lines → AreWhole m lines → AllByRecursion (λ (spoken : Spoken). RepeatsOnly Repeated spoken.line) lines
      → Keeps Asks Known m.outside.outer (transcript_of m lines) (after_all m lines).outside.outer
  lines_lead m [] are whole repeated = keeps_none Asks Known m.outside.outer
  lines_lead m (spoken ∷ more) are whole repeated =
      keeps_both Asks Known m.outside.outer (after m spoken).outside.outer (after_all (after m spoken) more).outside.outer (entries_of m spoken) (transcript_of (after m spoken) more)
      (line_goes m spoken.words spoken.line spoken.events are.0.read repeated.0 are.0.may whole.0) (lines_lead (after m spoken) more are.1 whole.1 repeated.1)
