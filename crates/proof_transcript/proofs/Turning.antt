-- Each frame that is on the air when a tick begins has one fate in it, in order of numbers, and what is heard besides answers a `repeat`.
use Rattle.std.proofs.Common.{◌≡◌, ℕ, zero, suc, ◌+◌, ◌-◌, ◌≤◌, ◌&&◌, ◌||◌, not, Bool, true, false, if◌then◌else◌, inl, inr, List, [], ◌∷◌, ◌++◌, length, map, refl, ap, sym, subst, ◌∙◌, append-nil, append_assoc, arith}
use Rattle.std.specs.Prelude.{Option, Some}
use Rattle.std.specs.Option.{unwrap_or}
use Rattle.std.specs.List.{AllByRecursion}
use Rattle.std.proofs.lemmas.List.{length-append}
use Rattle.route_table.specs.declared.route.Route.{Route}
use Rattle.zw_text.specs.declared.line.Line.{Line}
use Rattle.zw_text.specs.declared.line.Line.TheVariants.{Repeat}
use Rattle.zw_text.specs.declared.entry.Entry.{Entry}
use Rattle.zw_text.specs.declared.entry.Entry.TheVariants as entry
use Rattle.zw_text.specs.Transcript.{line_last, line_of}
use Rattle.zw_text.proofs.Views.{folded-append}
use Rattle.law_host.specs.law_transcript.Lists.{EachAfter}
use Rattle.law_host.specs.law_transcript.Restarts.{is_repeat, repeats as answers_repeat}
use Rattle.law_host.specs.law_transcript.Fates.{Flying, first_fate, first_fates, flying, flying_step, IsHeardSo, AllLanded, MayFare}
use Rattle.proof_air.specs.Hearing.{MayRepeat}
use Rattle.proof_air.proofs.Lists.{each-append, each-weaker}
use Rattle.air_frames.specs.declared.frame.Heading.TheVariants.{Outward, Homeward}
use Rattle.air_frames.specs.Flown.{Flown}
use Rattle.air_frames.specs.Frames.{no_frames, putting, landing}
use Rattle.proof_air.specs.mesh_sim.Air.{AirState, no_route, departing}
use Rattle.proof_air.specs.mesh_sim.Steps.{landed}
use Rattle.proof_air.specs.mesh_sim.Steps as mesh
use Rattle.proof_air.specs.outside_model.State.{OuterState, Outcome, first_outer}
use Rattle.proof_air.specs.outside_model.Chip.{shown_via}
use Rattle.proof_air.specs.outside_model.Events.{OuterEvent, Begins_tick, Arrives, Loses, Repeats, stamp, has_entered, outcome, steps, May as MayOutside}
use Rattle.proof_air.specs.outside_model.Schedules.{Arrivals, Delivers}
use Rattle.proof_air.specs.world_model.State.{Machine}
use Rattle.proof_air.specs.world_model.Events.{Event, Outside_does, happens, entries, May}
use Rattle.proof_air.specs.world_model.Did.{happens_all, entries_all, MayAll}
use Rattle.proof_transcript.proofs.Plain.{IsPlain}
use Rattle.proof_transcript.proofs.KeptOverLists.{Keeps, Airs, IsAsAired, keeps_none}
use Rattle.proof_transcript.proofs.Arrivals.{IsFate, Lands, arrives_lands}
use Rattle.proof_air.specs.world_lines.Spoken.{Spoken, after_all, transcript_of}
use Rattle.proof_air.specs.world_lines.Done.{AreDone}
use Rattle.proof_air.specs.world_lines.Whole.{AreWhole}
use Rattle.proof_transcript.specs.Lines.{IsNoRepeat, RepeatsNone}
use Rattle.proof_transcript.specs.Fares.{IsHeardBy, MayFareBy}
use Rattle.proof_transcript.proofs.Events.{Stamps, calm_keeps}
use Rattle.proof_transcript.proofs.Calm.{Arriving, ArrivingPrefix}
use Rattle.proof_transcript.proofs.FramesWalking.{Stands, Walks, RepeatsOnly, begun, lines_lead, lines_stand}
use Rattle.proof_transcript.proofs.Repeating.{repeat_keeps}
use Rattle.proof_transcript.proofs.MarkedFrames.{shown_one}
use Rattle.proof_air.proofs.ByLine.{last_is as last_after}
use Rattle.proof_transcript.proofs.LostFrames.{any_lines as all_any}

-- so many more frames arrive in this tick: those that are due and have no fate yet. Until all have arrived, the last entry is not the words of a `repeat`.
pub record Flies (left : ℕ) (past : List Entry) (air : AirState) : Type 0 where
  pub sent : (flying past).sent ≡ air.frames.sent
  pub fated : length (first_fates past) ≡ air.frames.landed
  pub due : (flying past).due ≡ air.frames.landed + left
  pub within : air.frames.landed + left ≤ air.frames.sent
  pub quiet : 1 ≤ left → answers_repeat past ≡ false

-- ---- what entries show

flying_after : (past : List Entry) (e : Entry) → flying (past ++ e ∷ []) ≡ flying_step (flying past) e
flying_after past e = folded-append flying_step (record { sent = 0; due = 0 }) past (e ∷ [])

fates_after : (past : List Entry) (e : Entry) → length (first_fates (past ++ e ∷ [])) ≡ length (first_fates past) + length (first_fate past e)
fates_after past e = ap length (shown_one first_fate [] past e) ∙ length-append (first_fates past) (first_fate past e)

-- an entry that is no line is none that repeats
abbrev IsNoLine : Entry → Type 0
IsNoLine (entry.Said words) = ⊥
IsNoLine _ = Unit {0}

no_repeat : (past : List Entry) (e : Entry) → IsNoLine e → answers_repeat (past ++ e ∷ []) ≡ false
no_repeat past e none = ap is_repeat (last_after past e) ∙ silent e none
  where
    silent : (e : Entry) → IsNoLine e → is_repeat (line_of e) ≡ false
    silent (entry.Said words) none = absurd none
    silent _ none = refl

plain_line : (e : Entry) → IsPlain e → IsNoLine e
plain_line (entry.Said words) plain = absurd plain
plain_line _ plain = tt

plain_fates : (past : List Entry) (e : Entry) → IsPlain e → first_fate past e ≡ []
plain_fates past (entry.Heard frame) plain = absurd plain
plain_fates past (entry.Lost frame) plain = absurd plain
plain_fates past (entry.Unheard frame) plain = absurd plain
plain_fates past _ plain = refl

plain_flies : (f : Flying) (e : Entry) → IsPlain e → flying_step f e ≡ f
plain_flies f (entry.Air frame sender receiver repeaters payload) plain = absurd plain
plain_flies f (entry.Time tick) plain = absurd plain
plain_flies f _ plain = refl

-- all that was due has its fate; and where the number of a tick is still to be entered, no frame is on the air
pub record Rests (past : List Entry) (o : OuterState) : Type 0 where
  pub flies : Flies 0 past o.air
  pub idle : (o.in_tick && not o.stamped) ≡ true → o.air.frames.landed ≡ o.air.frames.sent

module _ (IsAgain : List Entry → ℕ → Type 0) (Repeated : ℕ → Type 0) (is_again : (past : List Entry) (number : ℕ) → Repeated number → line_last past ≡ Repeat number ∷ [] → IsAgain past number) where
  plain_may : (past : List Entry) (e : Entry) → IsPlain e → MayFareBy IsAgain past e
  plain_may past (entry.Heard frame) plain = absurd plain
  plain_may past (entry.Lost frame) plain = absurd plain
  plain_may past (entry.Unheard frame) plain = absurd plain
  plain_may past (entry.Time tick) plain = absurd plain
  plain_may past (entry.Said words) plain = absurd plain
  plain_may past _ plain = tt

  no_more : (n m : ℕ) (l : List ℕ) → n ≡ m + length l → l ≡ [] → n ≡ m
  no_more n m l e none = let long : length l ≡ 0 = ap length none in omega (arith, e, long)

  -- ---- the air

  module _ (left : ℕ) where
    plain_keeps : (air : AirState) (e : Entry) → IsPlain e → Keeps (MayFareBy IsAgain) (Flies left) air (e ∷ []) air
    plain_keeps air e plain past flies =
        let same : flying (past ++ e ∷ []) ≡ flying past = flying_after past e ∙ plain_flies (flying past) e plain in (
          (plain_may past e plain, tt),
          record {
            sent = ap (λ (f : Flying). f.sent) same ∙ flies.sent;
            fated = no_more _ _ (first_fate past e) (fates_after past e) (plain_fates past e plain) ∙ flies.fated;
            due = ap (λ (f : Flying). f.due) same ∙ flies.due;
            within = flies.within;
            quiet = λ some. no_repeat past e (plain_line e plain);
          },
        )

    same_keeps : (old new : AirState) → IsAsAired old new → Keeps (MayFareBy IsAgain) (Flies left) old [] new
    same_keeps old new same past flies = (
      tt,
      record {
        sent = ap (λ (l : List Entry). (flying l).sent) (append-nil past) ∙ (flies.sent ∙ sym same.sent);
        fated = ap (λ (l : List Entry). length (first_fates l)) (append-nil past) ∙ (flies.fated ∙ sym same.landed);
        due = ap (λ (l : List Entry). (flying l).due) (append-nil past) ∙ (flies.due ∙ ap (λ (n : ℕ). n + left) (sym same.landed));
        within = rw same.sent (rw same.landed flies.within);
        quiet = λ some. ap answers_repeat (append-nil past) ∙ flies.quiet some;
      },
    )

    air_keeps : (old new : AirState) (sender receiver : ℕ) (repeaters payload : List ℕ) → new.frames.sent ≡ old.frames.sent + 1 → new.frames.landed ≡ old.frames.landed
        → Keeps (MayFareBy IsAgain) (Flies left) old (entry.Air (old.frames.sent + 1) sender receiver repeaters payload ∷ []) new
    air_keeps old new sender receiver repeaters payload more same past flies =
        let this : Entry = entry.Air (old.frames.sent + 1) sender receiver repeaters payload in
        let within = flies.within in (
          (tt, tt),
          record {
            sent = ap (λ (f : Flying). f.sent) (flying_after past this) ∙ (ap (λ (n : ℕ). n + 1) flies.sent ∙ sym more);
            fated = no_more _ _ [] (fates_after past this) refl ∙ (flies.fated ∙ sym same);
            due = ap (λ (f : Flying). f.due) (flying_after past this) ∙ (flies.due ∙ ap (λ (n : ℕ). n + left) (sym same));
            within = omega (arith, more, same, within);
            quiet = λ some. no_repeat past this tt;
          },
        )

    airs : Airs (MayFareBy IsAgain) (Flies left)
    unfolding putting
    airs = record {
      plain = plain_keeps;
      same = same_keeps;
      out = λ air to route payload. air_keeps air (departing air to Outward (Some route) payload) 1 to (shown_via route) payload refl refl;
      home = λ air node way payload. air_keeps air (departing air node Homeward way payload) node 1 (shown_via (unwrap_or way no_route)) payload refl refl;
    }

  -- ---- the next frame has its fate

  heard_so : (b : Bool) (past : List Entry) (frame : ℕ) → b ≡ false → (frame ≡ length (first_fates past) + 1) × (frame ≤ (flying past).due) → IsHeardBy IsAgain b past frame
  heard_so true past frame none is = absurd cc
  heard_so false past frame none is = is

  module _ (left : ℕ) (air : AirState) (past : List Entry) (flies : Flies (suc left) past air) where
    none_repeated : answers_repeat past ≡ false
    none_repeated = flies.quiet (let some : 1 ≤ suc left = omega arith in some)

    -- it is the next
    is_next : (number : ℕ) → number ≡ air.frames.landed + 1 → (number ≡ length (first_fates past) + 1) × (number ≤ (flying past).due)
    is_next number is =
        let due = flies.due in
        (is ∙ ap (λ (n : ℕ). n + 1) (sym flies.fated), omega (arith, is, due))

    may_fare : (frame : Flown) (e : Entry) → IsFate frame (air.frames.landed + 1) e → MayFareBy IsAgain past e
    may_fare frame (entry.Lost number) is = is_next number is
    may_fare frame (entry.Heard number) is = heard_so (answers_repeat past) past number none_repeated (is_next number is.0)
    may_fare frame (entry.Unheard number) is = is_next number is.0
    may_fare frame _ is = absurd is

    one_fate : (frame : Flown) (e : Entry) → IsFate frame (air.frames.landed + 1) e → length (first_fate past e) ≡ 1
    one_fate frame (entry.Lost number) is = refl
    one_fate frame (entry.Heard number) is = ap (λ (b : Bool). length (if b then [] else number ∷ [])) none_repeated
    one_fate frame (entry.Unheard number) is = refl
    one_fate frame _ is = absurd is

    no_line : (frame : Flown) (e : Entry) → IsFate frame (air.frames.landed + 1) e → IsNoLine e
    no_line frame (entry.Lost number) is = tt
    no_line frame (entry.Heard number) is = tt
    no_line frame (entry.Unheard number) is = tt
    no_line frame _ is = absurd is

    same_flying : (frame : Flown) (f : Flying) (e : Entry) → IsFate frame (air.frames.landed + 1) e → flying_step f e ≡ f
    same_flying frame f (entry.Lost number) is = refl
    same_flying frame f (entry.Heard number) is = refl
    same_flying frame f (entry.Unheard number) is = refl
    same_flying frame f _ is = absurd is

    fate_keeps : (frame : Flown) (e : Entry) → IsFate frame (air.frames.landed + 1) e → EachAfter (MayFareBy IsAgain) past (e ∷ []) × Flies left (past ++ e ∷ []) (landed air)
    unfolding landing
    fate_keeps frame e is =
        let same : flying (past ++ e ∷ []) ≡ flying past = flying_after past e ∙ same_flying frame (flying past) e is in
        let fates = fates_after past e in
        let one = one_fate frame e is in
        let fated = flies.fated in
        let due = flies.due in
        let within = flies.within in (
          (may_fare frame e is, tt),
          record {
            sent = ap (λ (f : Flying). f.sent) same ∙ flies.sent;
            fated = omega (arith, fates, one, fated);
            due = ap (λ (f : Flying). f.due) same ∙ (let more : (flying past).due ≡ (air.frames.landed + 1) + left = omega (arith, due) in more);
            within = omega (arith, within);
            quiet = λ some. no_repeat past e (no_line frame e is);
          },
        )

  -- ---- the number of a tick

  -- it is entered where all that was due has its fate, and then all on the air is due
  time_keeps : (left : ℕ) (air : AirState) (past : List Entry) (clock : ℕ) → Flies 0 past air → air.frames.landed + left ≡ air.frames.sent → EachAfter (MayFareBy IsAgain) past (entry.Time clock ∷ []) × Flies left (past ++ entry.Time clock ∷ []) air
  time_keeps left air past clock flies all =
      let fated = flies.fated in
      let due = flies.due in
      let sent = flies.sent in (
        ((let landed : AllLanded past = omega (arith, fated, due) in landed), tt),
        record {
          sent = ap (λ (f : Flying). f.sent) (flying_after past (entry.Time clock)) ∙ flies.sent;
          fated = no_more _ _ [] (fates_after past (entry.Time clock)) refl ∙ flies.fated;
          due = ap (λ (f : Flying). f.due) (flying_after past (entry.Time clock)) ∙ (flies.sent ∙ sym all);
          within = omega (arith, all);
          quiet = λ some. no_repeat past (entry.Time clock) tt;
        },
      )

  ticked : (b : Bool) (air : AirState) (past : List Entry) (clock : ℕ) → (b ≡ true → air.frames.landed ≡ air.frames.sent) → Flies 0 past air
      → EachAfter (MayFareBy IsAgain) past (if b then entry.Time clock ∷ [] else []) × Flies 0 (past ++ (if b then entry.Time clock ∷ [] else [])) air
  ticked true air past clock idle flies = time_keeps 0 air past clock flies (let all : air.frames.landed + 0 ≡ air.frames.sent = let e = idle refl in omega (arith, e) in all)
  ticked false air past clock idle flies = keeps_none (MayFareBy IsAgain) (Flies 0) air past flies

  stamped_after : (tick stamped : Bool) → (tick && not (tick || stamped)) ≡ false
  stamped_after true stamped = refl
  stamped_after false stamped = refl

  stamps : Stamps (MayFareBy IsAgain) (Flies 0) Rests
  stamps = record {
    first = λ past o p time known. ticked (p.in_tick && not p.stamped) o.air past p.clock
        (λ waits. known.idle (ap (λ (b : Bool). b && not o.stamped) (sym time.in_tick) ∙ (ap (λ (b : Bool). p.in_tick && not b) (sym time.stamped) ∙ waits))) known.flies;
    entered = λ past p knows. record { flies = knows; idle = λ waits. absurd (never (p.in_tick && not (p.in_tick || p.stamped)) (stamped_after p.in_tick p.stamped) waits) };
    silent = λ past o p time goes known.
        let flies = goes known.flies in
        record {
          flies = flies;
          idle = λ waits.
              let was = known.idle (ap (λ (b : Bool). b && not o.stamped) (sym time.in_tick) ∙ (ap (λ (b : Bool). p.in_tick && not b) (sym time.stamped) ∙ waits)) in
              sym flies.fated ∙ (known.flies.fated ∙ (was ∙ (sym known.flies.sent ∙ flies.sent)));
        };
  }
    where
      never : (b : Bool) → b ≡ false → b ≡ true → ⊥
      never b none some = let no : false ≡ true = sym none ∙ some in cc

  -- ---- the frames of a tick arrive

  -- So many of those that are due are still to arrive: the number of the tick is entered, or not yet, and then all on the air are due.
  abbrev OwesBy : Bool → ℕ → List Entry → AirState → Type 0
  OwesBy true left past air = Flies left past air
  OwesBy false left past air = Flies 0 past air × (air.frames.landed + left ≡ air.frames.sent)

  record Owes (left : ℕ) (past : List Entry) (o : OuterState) : Type 0 where
    pub in_tick : o.in_tick ≡ true
    pub owes : OwesBy o.stamped left past o.air

  -- before the first entry
  first_flies : (left : ℕ) (stamped tick : Bool) (air : AirState) (past : List Entry) (clock : ℕ) → tick ≡ true → OwesBy stamped left past air
      → EachAfter (MayFareBy IsAgain) past (if tick && not stamped then entry.Time clock ∷ [] else []) × Flies left (past ++ (if tick && not stamped then entry.Time clock ∷ [] else [])) air
  first_flies left stamped false air past clock is owes = absurd cc
  first_flies left true true air past clock is owes = keeps_none (MayFareBy IsAgain) (Flies left) air past owes
  first_flies left false true air past clock is owes = time_keeps left air past clock owes.0 owes.1

  -- one of them
  lands_owing : (left : ℕ) (o : OuterState) (x : Outcome) → Lands (MayFareBy IsAgain) (Flies left) o x → (past : List Entry) → Owes (suc left) past o
      → EachAfter (MayFareBy IsAgain) past (stamp x.outer x.entries) × Owes left (past ++ stamp x.outer x.entries) (has_entered x.outer x.entries)
  lands_owing left o x lands past owes =
      let first = first_flies (suc left) o.stamped o.in_tick o.air past x.outer.clock owes.in_tick owes.owes in
      let tick : List Entry = if o.in_tick && not o.stamped then entry.Time x.outer.clock ∷ [] else [] in
      let fate = fate_keeps left o.air (past ++ tick) first.1 lands.frame lands.fate lands.is in
      let rest = lands.keeps ((past ++ tick) ++ lands.fate ∷ []) fate.1 in
      let told : stamp x.outer x.entries ≡ tick ++ (lands.fate ∷ lands.rest) =
      ap (λ (l : List Entry). stamp x.outer l) lands.told
      ∙ (ap (λ (b : Bool). (if b && not x.outer.stamped then entry.Time x.outer.clock ∷ [] else []) ++ (lands.fate ∷ lands.rest)) lands.time.in_tick
      ∙ ap (λ (b : Bool). (if o.in_tick && not b then entry.Time x.outer.clock ∷ [] else []) ++ (lands.fate ∷ lands.rest)) lands.time.stamped) in
      let entered : has_entered x.outer x.entries ≡ record x.outer { stamped = x.outer.in_tick || x.outer.stamped } = ap (λ (l : List Entry). has_entered x.outer l) lands.told in
      let ticks : x.outer.in_tick ≡ true = lands.time.in_tick ∙ owes.in_tick in
      let all : ((past ++ tick) ++ lands.fate ∷ []) ++ lands.rest ≡ past ++ (tick ++ (lands.fate ∷ lands.rest)) =
      append_assoc (past ++ tick) (lands.fate ∷ []) lands.rest ∙ append_assoc past tick (lands.fate ∷ lands.rest) in
      let after : Owes left (past ++ (tick ++ (lands.fate ∷ lands.rest))) (record x.outer { stamped = x.outer.in_tick || x.outer.stamped }) = record {
        in_tick = ticks;
        owes = subst (λ (b : Bool). OwesBy (b || x.outer.stamped) left (past ++ (tick ++ (lands.fate ∷ lands.rest))) x.outer.air) (sym ticks) (subst (λ (l : List Entry). Flies left l x.outer.air) all rest.1);
      } in (
        subst (λ (l : List Entry). EachAfter (MayFareBy IsAgain) past l) (sym told) (each-append (MayFareBy IsAgain) past tick (lands.fate ∷ lands.rest) first.0 (fate.0.0, rest.0)),
        subst (λ (l : List Entry). Owes left (past ++ l) (has_entered x.outer x.entries)) (sym told)
            (subst (λ (p : OuterState). Owes left (past ++ (tick ++ (lands.fate ∷ lands.rest))) p) (sym entered) after),
      )

  arrival_owing : (left : ℕ) (m : Machine) (drawn : List ℕ) (route : Option Route) → May m (Outside_does (Arrives drawn route)) → (past : List Entry) → Owes (suc left) past m.outside.outer
      → EachAfter (MayFareBy IsAgain) past (entries m (Outside_does (Arrives drawn route))) × Owes left (past ++ entries m (Outside_does (Arrives drawn route))) (happens m (Outside_does (Arrives drawn route))).outside.outer
  unfolding happens entries May outcome MayOutside
  arrival_owing left m drawn route may past owes =
      lands_owing left m.outside.outer (steps m.outside (mesh.Arrives drawn route)) (arrives_lands (MayFareBy IsAgain) (Flies left) (airs left) m.outside drawn route may.1) past owes

  -- all of them
  arrivals_owing : (count : ℕ) (m : Machine) (inner : List OuterEvent) → Arrivals count inner → MayAll m (map Outside_does inner) → (past : List Entry) → Owes count past m.outside.outer
      → EachAfter (MayFareBy IsAgain) past (entries_all m (map Outside_does inner)) × Owes 0 (past ++ entries_all m (map Outside_does inner)) (happens_all m (map Outside_does inner)).outside.outer
  arrivals_owing zero m inner is may past owes =
      subst (λ (l : List OuterEvent). EachAfter (MayFareBy IsAgain) past (entries_all m (map Outside_does l)) × Owes 0 (past ++ entries_all m (map Outside_does l)) (happens_all m (map Outside_does l)).outside.outer) (sym is)
      (tt, subst (λ (l : List Entry). Owes 0 l m.outside.outer) (sym (append-nil past)) owes)
  arrivals_owing (suc count) m inner (drawn, route, rest, are, more) may past owes =
      let first : Event = Outside_does (Arrives drawn route) in
      let all : MayAll m (first ∷ map Outside_does rest) = subst (λ (l : List OuterEvent). MayAll m (map Outside_does l)) are may in
      let one = arrival_owing count m drawn route all.0 past owes in
      let later = arrivals_owing count (happens m first) rest more all.1 (past ++ entries m first) one.1 in
      subst (λ (l : List OuterEvent). EachAfter (MayFareBy IsAgain) past (entries_all m (map Outside_does l)) × Owes 0 (past ++ entries_all m (map Outside_does l)) (happens_all m (map Outside_does l)).outside.outer) (sym are) (
        each-append (MayFareBy IsAgain) past (entries m first) (entries_all (happens m first) (map Outside_does rest)) one.0 later.0,
        subst (λ (l : List Entry). Owes 0 l (happens_all (happens m first) (map Outside_does rest)).outside.outer) (append_assoc past (entries m first) (entries_all (happens m first) (map Outside_does rest))) later.1,
      )

  -- some of them
  some_owing : (count : ℕ) (m : Machine) (some rest : List OuterEvent) → Arrivals count (some ++ rest) → MayAll m (map Outside_does some) → (past : List Entry) → Owes count past m.outside.outer
      → EachAfter (MayFareBy IsAgain) past (entries_all m (map Outside_does some))
  some_owing count m [] rest is may past owes = tt
  some_owing zero m (event ∷ some) rest is may past owes = absurd cc
  some_owing (suc count) m (event ∷ some) rest (drawn, route, others, are, more) may past owes =
      let first : Event = Outside_does (Arrives drawn route) in
      let same : event ≡ Arrives drawn route = cc in
      let rest_are : some ++ rest ≡ others = cc in
      let all : MayAll m (first ∷ map Outside_does some) = subst (λ (e : OuterEvent). MayAll m (Outside_does e ∷ map Outside_does some)) same may in
      let one = arrival_owing count m drawn route all.0 past owes in
      subst (λ (e : OuterEvent). EachAfter (MayFareBy IsAgain) past (entries_all m (Outside_does e ∷ map Outside_does some))) (sym same)
      (each-append (MayFareBy IsAgain) past (entries m first) (entries_all (happens m first) (map Outside_does some)) one.0
      (some_owing count (happens m first) some rest (subst (Arrivals count) (sym rest_are) more) all.1 (past ++ entries m first) one.1))

  -- ---- a tick

  -- its number is the next
  abbrev ticking : Machine → Machine
  ticking m = happens m (Outside_does Begins_tick)

  clock_owes : (m : Machine) (past : List Entry) → Rests past m.outside.outer → Owes ((ticking m).outside.outer.air.frames.sent - (ticking m).outside.outer.air.frames.landed) past (ticking m).outside.outer
  unfolding happens outcome
  clock_owes m past rests =
      let within = rests.flies.within in
      record {
        in_tick = refl;
        owes = (rests.flies, (let all : m.outside.outer.air.frames.landed + (m.outside.outer.air.frames.sent - m.outside.outer.air.frames.landed) ≡ m.outside.outer.air.frames.sent = omega (arith, within) in all));
      }

  rests_by : (stamped : Bool) (past : List Entry) (air : AirState) → OwesBy stamped 0 past air → Flies 0 past air × ((tick : Bool) → (tick && not stamped) ≡ true → air.frames.landed ≡ air.frames.sent)
  rests_by true past air owes = (owes, λ tick waits. absurd (none tick waits))
    where
      none : (tick : Bool) → (tick && false) ≡ true → ⊥
      none true e = cc
      none false e = cc
  rests_by false past air owes = (owes.0, λ tick waits. let all = owes.1 in omega (arith, all))

  owes_none : (past : List Entry) (o : OuterState) → Owes 0 past o → Rests past o
  owes_none past o owes = let by = rests_by o.stamped past o.air owes.owes in record { flies = by.0; idle = by.1 o.in_tick }

  -- the clock, and then all or some of what is due
  all_arrive : (m : Machine) (inner : List OuterEvent) → Delivers (ticking m).outside.outer inner → MayAll (ticking m) (map Outside_does inner)
      → Keeps (MayFareBy IsAgain) Rests m.outside.outer (entries_all m (Outside_does Begins_tick ∷ map Outside_does inner)) (happens_all m (Outside_does Begins_tick ∷ map Outside_does inner)).outside.outer
  unfolding entries outcome
  all_arrive m inner is may past rests =
      let all = arrivals_owing ((ticking m).outside.outer.air.frames.sent - (ticking m).outside.outer.air.frames.landed) (ticking m) inner is may past (clock_owes m past rests) in
      (all.0, owes_none (past ++ entries_all (ticking m) (map Outside_does inner)) (happens_all (ticking m) (map Outside_does inner)).outside.outer all.1)

  some_arrive : (m : Machine) (some rest : List OuterEvent) → Delivers (ticking m).outside.outer (some ++ rest) → MayAll (ticking m) (map Outside_does some)
      → Stands (MayFareBy IsAgain) Rests m.outside.outer (entries_all m (Outside_does Begins_tick ∷ map Outside_does some))
  unfolding entries outcome
  some_arrive m some rest is may past rests =
      some_owing ((ticking m).outside.outer.air.frames.sent - (ticking m).outside.outer.air.frames.landed) (ticking m) some rest is may past (clock_owes m past rests)

  arriving : (m : Machine) (events : List Event) → MayAll m events → Arriving m events → Keeps (MayFareBy IsAgain) Rests m.outside.outer (entries_all m events) (happens_all m events).outside.outer
  arriving m events may (clock, delivery, are, begins, (inner, is, delivered)) =
      let all : events ≡ Outside_does Begins_tick ∷ map Outside_does inner = are ∙ (ap (λ (l : List Event). l ++ delivery) begins ∙ ap (λ (l : List Event). Outside_does Begins_tick ∷ l) delivered) in
      subst (λ (l : List Event). Keeps (MayFareBy IsAgain) Rests m.outside.outer (entries_all m l) (happens_all m l).outside.outer) (sym all)
      (all_arrive m inner (subst (λ (l : List Event). Delivers (happens_all m l).outside.outer inner) begins is) (subst (MayAll m) all may).1)

  -- a prefix of events outside
  split_map : (some rest : List Event) (inner : List OuterEvent) → some ++ rest ≡ map Outside_does inner → (a b : List OuterEvent) × (inner ≡ a ++ b) × (some ≡ map Outside_does a)
  split_map [] rest inner e = ([], inner, refl, refl)
  split_map (one ∷ some) rest [] e = absurd cc
  split_map (one ∷ some) rest (event ∷ inner) e =
      let same : one ≡ Outside_does event = cc in
      let more : some ++ rest ≡ map Outside_does inner = cc in
      let (a, b, are, is) = split_map some rest inner more in
      (event ∷ a, b, ap (λ (l : List OuterEvent). event ∷ l) are, ap (λ (x : Event). x ∷ some) same ∙ ap (λ (l : List Event). Outside_does event ∷ l) is)

  only_ticks : (m : Machine) → Stands (MayFareBy IsAgain) Rests m.outside.outer (entries_all m (Outside_does Begins_tick ∷ []))
  unfolding entries outcome
  only_ticks m past rests = tt

  arriving_prefix : (m : Machine) (events : List Event) → MayAll m events → ArrivingPrefix m events → Stands (MayFareBy IsAgain) Rests m.outside.outer (entries_all m events)
  arriving_prefix m events may (inl none) = subst (λ (l : List Event). Stands (MayFareBy IsAgain) Rests m.outside.outer (entries_all m l)) (sym none) (λ past rests. tt)
  arriving_prefix m events may (inr (clock, some, are, begins, inl none)) =
      subst (λ (l : List Event). Stands (MayFareBy IsAgain) Rests m.outside.outer (entries_all m l)) (sym (are ∙ (ap (λ (l : List Event). l ++ some) begins ∙ ap (λ (l : List Event). Outside_does Begins_tick ∷ l) none))) (only_ticks m)
  arriving_prefix m events may (inr (clock, some, are, begins, inr (rest, (inner, is, delivered)))) =
      let (a, b, parts, some_are) = split_map some rest inner delivered in
      let all : events ≡ Outside_does Begins_tick ∷ map Outside_does a = are ∙ (ap (λ (l : List Event). l ++ some) begins ∙ ap (λ (l : List Event). Outside_does Begins_tick ∷ l) some_are) in
      subst (λ (l : List Event). Stands (MayFareBy IsAgain) Rests m.outside.outer (entries_all m l)) (sym all)
      (some_arrive m a b (subst (λ (l : List Event). Delivers (happens_all m l).outside.outer (a ++ b)) begins (subst (Delivers (happens_all m clock).outside.outer) parts is)) (subst (MayAll m) all may).1)

  -- ---- the words of a line

  landed_all : (past : List Entry) (o : OuterState) → Rests past o → AllLanded past
  landed_all past o rests =
      let fated = rests.flies.fated in
      let due = rests.flies.due in
      omega (arith, fated, due)

  said_keeps : (o p : OuterState) (words : List ℕ) → p.air.frames.sent ≡ o.air.frames.sent → p.air.frames.landed ≡ o.air.frames.landed → p.in_tick ≡ false → Keeps (MayFareBy IsAgain) Rests o (entry.Said words ∷ []) p
  said_keeps o p words sent landed out past rests =
      let this : Entry = entry.Said words in
      let flies = rests.flies in (
        (landed_all past o rests, tt),
        record {
          flies = record {
            sent = ap (λ (f : Flying). f.sent) (flying_after past this) ∙ (flies.sent ∙ sym sent);
            fated = no_more _ _ [] (fates_after past this) refl ∙ (flies.fated ∙ sym landed);
            due = ap (λ (f : Flying). f.due) (flying_after past this) ∙ (flies.due ∙ ap (λ (n : ℕ). n + 0) (sym landed));
            within = rw sent (rw landed flies.within);
            quiet = λ some. absurd (omega (arith, some));
          };
          idle = λ waits. let never : false ≡ true = ap (λ (b : Bool). b && not p.stamped) (sym out) ∙ waits in absurd cc;
        },
      )

  begins_so : (m : Machine) (words : List ℕ) → Keeps (MayFareBy IsAgain) Rests m.outside.outer (entry.Said words ∷ []) (begun m).outside.outer
  unfolding happens outcome
  begins_so m words = said_keeps m.outside.outer (begun m).outside.outer words refl refl refl

  loses_so : (m : Machine) (words : List ℕ) (count : ℕ) → Keeps (MayFareBy IsAgain) Rests m.outside.outer (entry.Said words ∷ []) (happens (begun m) (Outside_does (Loses count))).outside.outer
  unfolding happens outcome
  loses_so m words count = said_keeps m.outside.outer (happens (begun m) (Outside_does (Loses count))).outside.outer words refl refl refl

  -- ---- a line that repeats a frame

  again_is : (past : List Entry) (number : ℕ) → line_last past ≡ Repeat number ∷ [] → answers_repeat past ≡ true
  again_is past number said = ap is_repeat said

  heard_by : (b : Bool) (past : List Entry) (frame : ℕ) → b ≡ true → IsAgain past frame → IsHeardBy IsAgain b past frame
  heard_by true past frame is again = again
  heard_by false past frame is again = absurd cc

  hears_again : (air : AirState) (past : List Entry) (number : ℕ) → IsAgain past number → answers_repeat past ≡ true → Flies 0 past air
      → EachAfter (MayFareBy IsAgain) past (entry.Heard number ∷ []) × Flies 0 (past ++ entry.Heard number ∷ []) air
  hears_again air past number again said flies =
      let this : Entry = entry.Heard number in (
        (heard_by (answers_repeat past) past number said again, tt),
        record {
          sent = ap (λ (f : Flying). f.sent) (flying_after past this) ∙ flies.sent;
          fated = no_more _ _ (first_fate past this) (fates_after past this) (ap (λ (b : Bool). if b then [] else number ∷ []) said) ∙ flies.fated;
          due = ap (λ (f : Flying). f.due) (flying_after past this) ∙ flies.due;
          within = flies.within;
          quiet = λ some. no_repeat past this tt;
        },
      )

  repeats_so : (m : Machine) (words : List ℕ) (number : ℕ) (drawn : List ℕ) (route : Option Route) → line_of (entry.Said words) ≡ Repeat number ∷ [] → Repeated number
      → Keeps (MayFareBy IsAgain) Rests m.outside.outer (entry.Said words ∷ entries (begun m) (Outside_does (Repeats number drawn route))) (happens (begun m) (Outside_does (Repeats number drawn route))).outside.outer
  repeats_so m words number drawn route read repeated =
      repeat_keeps (MayFareBy IsAgain) (Flies 0) Rests stamps (airs 0) words number read (λ past o rests. rests.flies)
      (λ air past said flies. hears_again air past number (is_again past number repeated said) (again_is past number said) flies) m drawn route (begins_so m words)

  -- ---- lines

  walks : Walks (MayFareBy IsAgain) Rests Repeated
  walks = record {
    calm = λ m event calm. calm_keeps (MayFareBy IsAgain) (Flies 0) Rests stamps (airs 0) m event calm;
    arriving = arriving;
    arriving_prefix = arriving_prefix;
    words = λ o words past rests. (landed_all past o rests, tt);
    said = λ m words line read calm. begins_so m words;
    loses = λ m words count read. loses_so m words count;
    repeats = λ m words number drawn route repeated read may. repeats_so m words number drawn route read repeated;
  }

  pub lines_fare : (m : Machine) (lines : List Spoken) → AreDone m lines → AllByRecursion (λ (spoken : Spoken). RepeatsOnly Repeated spoken.line) lines
      → Stands (MayFareBy IsAgain) Rests m.outside.outer (transcript_of m lines)
  lines_fare m lines are repeated = lines_stand (MayFareBy IsAgain) Rests Repeated walks m lines are repeated

  -- after whole lines all has landed, as before a further line
  pub lines_land : (m : Machine) (lines : List Spoken) → AreDone m lines → AreWhole m lines → AllByRecursion (λ (spoken : Spoken). RepeatsOnly Repeated spoken.line) lines
      → (past : List Entry) → Rests past m.outside.outer → AllLanded (past ++ transcript_of m lines)
  lines_land m lines are whole repeated past rests =
      landed_all (past ++ transcript_of m lines) (after_all m lines).outside.outer (lines_lead (MayFareBy IsAgain) Rests Repeated walks m lines are whole repeated past rests).1

-- ---- lines that repeat no frame, and all lines

none_fare : (past : List Entry) (e : Entry) → MayFareBy (λ heard frame. ⊥) past e → MayFare past e
none_fare past (entry.Heard frame) fares = by (answers_repeat past) fares
  where
    by : (b : Bool) → IsHeardBy (λ heard number. ⊥) b past frame → IsHeardSo b past frame
    by true fares = absurd fares
    by false fares = fares
none_fare past (entry.Lost frame) fares = fares
none_fare past (entry.Unheard frame) fares = fares
none_fare past (entry.Time tick) fares = fares
none_fare past (entry.Said words) fares = fares
none_fare past e fares = tt

pub lines_fare_once : (m : Machine) (lines : List Spoken) → AreDone m lines → AllByRecursion RepeatsNone lines → Stands MayFare Rests m.outside.outer (transcript_of m lines)
lines_fare_once m lines are none past rests =
    each-weaker (MayFareBy (λ heard number. ⊥)) MayFare none_fare past (transcript_of m lines)
    (lines_fare (λ heard number. ⊥) (λ number. ⊥) (λ heard number never said. never) m lines are (all_only lines none) past rests)
  where
    one_only : (line : Line) → IsNoRepeat line → RepeatsOnly (λ number. ⊥) line
    one_only (Repeat number) none = none
    one_only line none = tt

    all_only : (lines : List Spoken) → AllByRecursion RepeatsNone lines → AllByRecursion (λ (spoken : Spoken). RepeatsOnly (λ number. ⊥) spoken.line) lines
    all_only [] none = tt
    all_only (spoken ∷ more) none = (one_only spoken.line none.0, all_only more none.1)

-- what directly follows the words of a `repeat` is that frame
abbrev pub IsNamed : List Entry → ℕ → Type 0
IsNamed past frame = line_last past ≡ Repeat frame ∷ []

pub lines_fare_named : (m : Machine) (lines : List Spoken) → AreDone m lines → Stands (MayFareBy IsNamed) Rests m.outside.outer (transcript_of m lines)
lines_fare_named m lines are = lines_fare IsNamed (λ number. Unit {0}) (λ past number repeated said. said) m lines are (all_any lines)

pub all_land : (m : Machine) (lines : List Spoken) → AreDone m lines → AreWhole m lines → (past : List Entry) → Rests past m.outside.outer → AllLanded (past ++ transcript_of m lines)
all_land m lines are whole = lines_land IsNamed (λ number. Unit {0}) (λ past number repeated said. said) m lines are whole (all_any lines)

-- and so each law of both is kept where the frames that are repeated are fresh
named_fare : (past : List Entry) (e : Entry) → MayFareBy IsNamed past e → MayRepeat past e → MayFare past e
named_fare past (entry.Heard frame) fares fresh = by (answers_repeat past) fares
  where
    by : (b : Bool) → IsHeardBy IsNamed b past frame → IsHeardSo b past frame
    by true fares = (fares, fresh frame fares)
    by false fares = fares
named_fare past (entry.Lost frame) fares fresh = fares
named_fare past (entry.Unheard frame) fares fresh = fares
named_fare past (entry.Time tick) fares fresh = fares
named_fare past (entry.Said words) fares fresh = fares
named_fare past e fares fresh = tt

pub each_fares : (past rest : List Entry) → EachAfter (MayFareBy IsNamed) past rest → EachAfter MayRepeat past rest → EachAfter MayFare past rest
each_fares past [] fares fresh = tt
each_fares past (e ∷ rest) fares fresh = (named_fare past e fares.0 fresh.0, each_fares (past ++ e ∷ []) rest fares.1 fresh.1)

-- ---- at first

pub nothing_flies : Rests [] first_outer
unfolding first_outer no_frames
nothing_flies = record {
  flies = record { sent = refl; fated = refl; due = refl; within = omega arith; quiet = λ some. absurd (omega (arith, some)) };
  idle = λ waits. absurd cc;
}
