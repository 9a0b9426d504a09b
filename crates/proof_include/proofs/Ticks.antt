-- Ticks and lines keep what holds of a node: as a tick ends, all frames have landed that were there as it began.
use Rattle.std.proofs.Common.{◌≡◌, ℕ, zero, suc, ◌+◌, ◌≤◌, List, [], ◌∷◌, ◌++◌, length, map, ap, sym, subst, ◌∙◌, arith}
use Rattle.include_text.specs.declared.line.IncludeLine.{IncludeLine}
use Rattle.include_world.specs.Air.{AirState, arriving, flying}
use Rattle.include_world.specs.World.{WorldState, IncludeEvent, Says, Passes, Lands, Ends, does, after_all, lands_by, AllSent, AllDrawn}
use Rattle.include_world.specs.Line.{IsTick, IsTicks, IsLine, ticks_of}
use Rattle.include_world.proofs.DoneEvents.{after_all-append, lands_grows, says_sent}
use Rattle.proof_include.proofs.Ticking.{drawn_prefix, drawn_rest, same_air_passes, same_air_ends}
use Rattle.proof_include.specs.Lines.{AreLines}
use Rattle.proof_include.proofs.Sound.{Sound, sound_most, sound_says, sound_lands, sound_passes, sound_ends}

-- what holds between events of a node, where no tick is under way
pub record Stands (key : List ℕ) (node : ℕ) (w : WorldState) : Type 0 where
  pub sound : Sound key node (length w.air.frames) w
  pub sent : AllSent w

-- one frame more has landed
one_lands : (w : WorldState) (drawn : List ℕ) → ((does w (Lands drawn)).world.air.landed ≡ w.air.landed + 1) × (length w.air.frames ≤ length (does w (Lands drawn)).world.air.frames)
unfolding does
one_lands w drawn =
    let grows = lands_grows w (arriving w.air) drawn in
    let step : (lands_by w (arriving w.air) drawn).world.air.landed + 1 ≡ w.air.landed + 1 = omega (arith, grows.landed) in
    (step, grows.frames)

-- all frames land that were there as the tick began
record AllLanded (key : List ℕ) (node most : ℕ) (w : WorldState) : Type 0 where
  sound : Sound key node most w
  landed : w.air.landed ≡ most
  frames : most ≤ length w.air.frames

all_land : (key : List ℕ) (node most : ℕ) (w : WorldState) (draws : List (List ℕ)) → AllDrawn (map Lands draws) → Sound key node most w → w.air.landed + length draws ≡ most → most ≤ length w.air.frames
    → AllLanded key node most (after_all w (map Lands draws))
all_land key node most w [] drawn s count within = record { sound = s; landed = omega (arith, count); frames = within }
all_land key node most w (d ∷ draws) drawn s count within =
    let one = one_lands w d in
    all_land key node most (does w (Lands d)).world draws drawn.1 (sound_lands key node most w d drawn.0 s) (omega (arith, one.0, count)) (omega (arith, one.1, within))

tick_by : (key : List ℕ) (node : ℕ) (w : WorldState) (draws : List (List ℕ)) → length draws ≡ flying w.air → AllDrawn (map Lands draws) → Stands key node w
    → Stands key node (after_all w (Passes ∷ map Lands draws ++ Ends ∷ []))
tick_by key node w draws each drawn s =
    let most : ℕ = length w.air.frames in
    let air = same_air_passes w in
    let landed : (does w Passes).world.air.landed ≡ w.air.landed = ap (λ (a : AirState). a.landed) air in
    let frames : length (does w Passes).world.air.frames ≡ length w.air.frames = ap (λ (a : AirState). length a.frames) air in
    let all = all_land key node (length w.air.frames) (does w Passes).world draws drawn (sound_passes key node (length w.air.frames) w s.sound) (omega (arith, landed, each, s.sent)) (omega (arith, frames)) in
    let last : WorldState = after_all (does w Passes).world (map Lands draws) in
    let whole : after_all w (Passes ∷ map Lands draws ++ Ends ∷ []) ≡ (does (after_all (does w Passes).world (map Lands draws)) Ends).world
    = after_all-append w (Passes ∷ map Lands draws) (Ends ∷ []) in
    let ended = same_air_ends (after_all (does w Passes).world (map Lands draws)) in
    let gone : (does last Ends).world.air.landed ≡ last.air.landed = ap (λ (a : AirState). a.landed) ended in
    let there : length (does last Ends).world.air.frames ≡ length last.air.frames = ap (λ (a : AirState). length a.frames) ended in
    subst (λ (x : WorldState). Stands key node x) (sym whole) (record {
      sound = sound_most key node (length last.air.frames) (does last Ends).world (sound_ends key node (length w.air.frames) last all.landed all.sound);
      sent = omega (arith, gone, there, all.landed, all.frames);
    })

tick : (key : List ℕ) (node : ℕ) (w : WorldState) (events : List IncludeEvent) → IsTick w events → AllDrawn events → Stands key node w → Stands key node (after_all w events)
tick key node w events t drawn s =
    let landing_drawn : AllDrawn (map Lands t.draws) = drawn_prefix (map Lands t.draws) (Ends ∷ []) (drawn_of (subst (λ (es : List IncludeEvent). AllDrawn es) t.are drawn)) in
    subst (λ (es : List IncludeEvent). Stands key node (after_all w es)) (sym t.are) (tick_by key node w t.draws t.each landing_drawn s)
  where
    drawn_of : AllDrawn (Passes ∷ map Lands t.draws ++ Ends ∷ []) → AllDrawn (map Lands t.draws ++ Ends ∷ [])
    drawn_of d = d.1

pub ticks : (key : List ℕ) (node k : ℕ) (w : WorldState) (events : List IncludeEvent) → IsTicks k w events → AllDrawn events → Stands key node w → Stands key node (after_all w events)
ticks key node zero w events none drawn s = subst (λ (es : List IncludeEvent). Stands key node (after_all w es)) (sym none) s
ticks key node (suc k) w events ts drawn s =
    let both : AllDrawn (ts.0 ++ ts.1) = subst (λ (es : List IncludeEvent). AllDrawn es) ts.2 drawn in
    subst (λ (x : WorldState). Stands key node x) (sym (ap (λ (es : List IncludeEvent). after_all w es) ts.2 ∙ after_all-append w ts.0 ts.1))
    (ticks key node k (after_all w ts.0) ts.1 ts.4 (drawn_rest ts.0 ts.1 both) (tick key node w ts.0 ts.3 (drawn_prefix ts.0 ts.1 both) s))

-- a line is said
pub stands_says : (key : List ℕ) (node : ℕ) (w : WorldState) (line : IncludeLine) (drawn : List ℕ) → length drawn ≡ 8 → Stands key node w → Stands key node (does w (Says line drawn)).world
stands_says key node w line drawn eight s = record {
  sound = sound_most key node (length w.air.frames) (does w (Says line drawn)).world (sound_says key node (length w.air.frames) w line drawn eight s.sound);
  sent = says_sent w line drawn s.sent;
}

line_stands : (key : List ℕ) (node : ℕ) (w : WorldState) (line : IncludeLine) (events : List IncludeEvent) → IsLine line w events → AllDrawn events → Stands key node w → Stands key node (after_all w events)
line_stands key node w line events l drawn s =
    let both : AllDrawn (Says line l.drawn ∷ l.rest) = subst (λ (es : List IncludeEvent). AllDrawn es) l.are drawn in
    subst (λ (es : List IncludeEvent). Stands key node (after_all w es)) (sym l.are)
    (ticks key node (ticks_of line) (does w (Says line l.drawn)).world l.rest l.ticks both.1 (stands_says key node w line l.drawn both.0 s))

pub lines_stand : (key : List ℕ) (node : ℕ) (lines : List IncludeLine) (w : WorldState) (events : List IncludeEvent) → AreLines lines w events → AllDrawn events → Stands key node w
    → Stands key node (after_all w events)
lines_stand key node [] w events none drawn s = subst (λ (es : List IncludeEvent). Stands key node (after_all w es)) (sym none) s
lines_stand key node (line ∷ lines) w events l drawn s =
    let both : AllDrawn (l.0 ++ l.1) = subst (λ (es : List IncludeEvent). AllDrawn es) l.2 drawn in
    subst (λ (x : WorldState). Stands key node x) (sym (ap (λ (es : List IncludeEvent). after_all w es) l.2 ∙ after_all-append w l.0 l.1))
    (lines_stand key node lines (after_all w l.0) l.1 l.4 (drawn_rest l.0 l.1 both) (line_stands key node w line l.0 l.3 (drawn_prefix l.0 l.1 both) s))
