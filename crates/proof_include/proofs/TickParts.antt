-- Ticks in parts, and that no mark of `lose` comes in them.
use Rattle.std.proofs.Common.{◌≡◌, ℕ, zero, suc, ◌+◌, ◌-◌, ◌≤◌, Bool, true, false, List, [], ◌∷◌, ◌++◌, map, refl, ap, sym, subst, ◌∙◌, append_assoc, arith}
use Rattle.inclusion.specs.Joining.{joiner_takes}
use Rattle.inclusion.specs.Including.{includer_takes}
use Rattle.air_frames.specs.declared.frame.Heading.{Heading}
use Rattle.air_frames.specs.declared.frame.Heading.TheVariants.{Outward, Homeward}
use Rattle.include_world.specs.declared.flight.Flight.{Flight}
use Rattle.include_world.specs.Air.{AirState, departing, frame_at, heard_if, heard_of, sending}
use Rattle.include_world.specs.World.{WorldState, IncludeEvent, Passes, Lands, Ends, does, hears, hears_by, lands_by, joiner_of, after_all}
use Rattle.include_world.specs.Line.{IsTick, IsTicks}
use Rattle.include_world.proofs.DoneEvents.{after_all-append}

-- ---- in parts

pub record Parts (a b : ℕ) (w : WorldState) (events : List IncludeEvent) : Type 0 where
  pub first : List IncludeEvent
  pub rest : List IncludeEvent
  pub are : events ≡ first ++ rest
  pub ticks : IsTicks a w first
  pub more : IsTicks b (after_all w first) rest

pub split_ticks : (a b : ℕ) (w : WorldState) (events : List IncludeEvent) → IsTicks (a + b) w events → Parts a b w events
split_ticks zero b w events ts = record {
  first = [];
  rest = events;
  are = refl;
  ticks = refl;
  more = subst (λ (n : ℕ). IsTicks n w events) (let none : zero + b ≡ b = omega arith in none) ts;
}
split_ticks (suc a) b w events all =
    let ts : IsTicks (suc (a + b)) w events = subst (λ (n : ℕ). IsTicks n w events) (let next : suc a + b ≡ suc (a + b) = omega arith in next) all in
    let s = split_ticks a b (after_all w ts.0) ts.1 ts.4 in
    record {
      first = ts.0 ++ s.first;
      rest = s.rest;
      are = ts.2 ∙ (ap (λ (l : List IncludeEvent). ts.0 ++ l) s.are ∙ sym (append_assoc ts.0 s.first s.rest));
      ticks = (ts.0, s.first, refl, ts.3, s.ticks);
      more = subst (λ (v : WorldState). IsTicks b v s.rest) (sym (after_all-append w ts.0 s.first)) s.more;
    }

pub join_ticks : (a b : ℕ) (w : WorldState) (first rest : List IncludeEvent) → IsTicks a w first → IsTicks b (after_all w first) rest → IsTicks (a + b) w (first ++ rest)
join_ticks zero b w first rest none more =
    subst (λ (n : ℕ). IsTicks n w (first ++ rest)) (let same : b ≡ zero + b = omega arith in same)
    (subst (λ (es : List IncludeEvent). IsTicks b w (es ++ rest)) (sym none) (subst (λ (es : List IncludeEvent). IsTicks b (after_all w es) rest) none more))
join_ticks (suc a) b w first rest ts more =
    let joined : IsTicks (suc (a + b)) w (first ++ rest) = (
      ts.0,
      ts.1 ++ rest,
      ap (λ (es : List IncludeEvent). es ++ rest) ts.2 ∙ append_assoc ts.0 ts.1 rest,
      ts.3,
      join_ticks a b (after_all w ts.0) ts.1 rest ts.4
          (subst (λ (v : WorldState). IsTicks b v rest) (ap (λ (es : List IncludeEvent). after_all w es) ts.2 ∙ after_all-append w ts.0 ts.1) more),
    ) in
    subst (λ (n : ℕ). IsTicks n w (first ++ rest)) (let same : suc (a + b) ≡ suc a + b = omega arith in same) joined

-- ---- no mark comes

departing_less : (air : AirState) (at : ℕ) (heading : Heading) (payload : List ℕ) → (departing air at heading payload).losing ≤ air.losing
unfolding departing
departing_less air at heading payload = omega arith

sending_less : (air : AirState) (at : ℕ) (heading : Heading) (replies : List (List ℕ)) → (sending air at heading replies).losing ≤ air.losing
sending_less air at heading [] = omega arith
sending_less air at heading (payload ∷ more) =
    let one = departing_less air at heading payload in
    let rest = sending_less (departing air at heading payload) at heading more in
    omega (arith, one, rest)

hears_less : (w : WorldState) (number : ℕ) (frame : Flight) (drawn : List ℕ) (h : Heading) → (hears_by w (heard_of number frame) drawn h).world.air.losing ≤ w.air.losing
hears_less w number frame drawn Outward = sending_less w.air frame.node Homeward (joiner_takes (joiner_of w frame.node) frame.payload drawn).replies
hears_less w number frame drawn Homeward = sending_less w.air frame.node Outward (includer_takes w.includer frame.node frame.payload drawn).replies

land_less : (w : WorldState) (b : Bool) (number : ℕ) (frame : Flight) (drawn : List ℕ) → (lands_by w (heard_if b (heard_of number frame)) drawn).world.air.losing ≤ w.air.losing
unfolding hears
land_less w true number frame drawn = omega arith
land_less w false number frame drawn = hears_less w number frame drawn frame.heading

lands_less : (w : WorldState) (drawn : List ℕ) → (does w (Lands drawn)).world.air.losing ≤ w.air.losing
unfolding does
lands_less w drawn = land_less w _ (w.air.landed + 1) (frame_at w.air (w.air.landed + 1)) drawn

all_less : (w : WorldState) (draws : List (List ℕ)) → (after_all w (map Lands draws)).air.losing ≤ w.air.losing
all_less w [] = omega arith
all_less w (drawn ∷ draws) =
    let one = lands_less w drawn in
    let rest = all_less (does w (Lands drawn)).world draws in
    omega (arith, one, rest)

passes_losing : (w : WorldState) → (does w Passes).world.air.losing ≡ w.air.losing
unfolding does
passes_losing w = refl

ends_losing : (w : WorldState) → (does w Ends).world.air.losing ≡ w.air.losing
unfolding does
ends_losing w = refl

tick_less : (w : WorldState) (events : List IncludeEvent) → IsTick w events → (after_all w events).air.losing ≤ w.air.losing
tick_less w events t =
    let whole : after_all w events ≡ (does (after_all (does w Passes).world (map Lands t.draws)) Ends).world
    = ap (λ (es : List IncludeEvent). after_all w es) t.are ∙ after_all-append w (Passes ∷ map Lands t.draws) (Ends ∷ []) in
    let last = ends_losing (after_all (does w Passes).world (map Lands t.draws)) in
    let mid = all_less (does w Passes).world t.draws in
    let first = passes_losing w in
    subst (λ (v : WorldState). v.air.losing ≤ w.air.losing) (sym whole) (omega (arith, last, mid, first))

pub ticks_less : (k : ℕ) (w : WorldState) (events : List IncludeEvent) → IsTicks k w events → (after_all w events).air.losing ≤ w.air.losing
ticks_less zero w events none = subst (λ (es : List IncludeEvent). (after_all w es).air.losing ≤ w.air.losing) (sym none) (omega arith)
ticks_less (suc k) w events ts =
    let one = tick_less w ts.0 ts.3 in
    let rest = ticks_less k (after_all w ts.0) ts.1 ts.4 in
    subst (λ (v : WorldState). v.air.losing ≤ w.air.losing) (sym (ap (λ (es : List IncludeEvent). after_all w es) ts.2 ∙ after_all-append w ts.0 ts.1)) (omega (arith, one, rest))
