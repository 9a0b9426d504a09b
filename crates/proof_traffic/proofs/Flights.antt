-- The frames on the air are those of every history, and the course of requests bounds how many are the host's.
use Rattle.std.proofs.Common.{◌≡◌, ℕ, ◌+◌, ◌-◌, ◌≤◌, List, [], ◌∷◌, ◌++◌, length, drop, ap, sym, ◌∙◌, subst, length-drop, arith}
use Rattle.std.proofs.lemmas.List.{drop-drop}
use Rattle.air_frames.specs.declared.frame.Heading.{Heading}
use Rattle.air_frames.specs.declared.frame.Heading.TheVariants.{Outward}
use Rattle.air_frames.specs.Flown.{Flown}
use Rattle.air_frames.specs.Frames.{FramesState, kept}
use Rattle.air_frames.specs.History.{Mark, IsOf}
use Rattle.air_frames.proofs.Logs.{length-stamped}
use Rattle.proof_traffic.specs.Flights.{flown_in, Fly}
use Rattle.proof_device.specs.outside_model.State.{OuterState}
use Rattle.proof_traffic.specs.Requests.{Traffic}
use Rattle.proof_traffic.specs.Facts.{RequestFacts, flying_in}
use Rattle.proof_traffic.proofs.FactsKept.{two_by_facts}
use Rattle.proof_traffic.specs.OutsideTraffic.{one_outward, outward, Follows}
use Rattle.proof_traffic.proofs.Arrivals.{outward-append}
use Rattle.proof_traffic.specs.OnAir.{on_air, IsFew}

-- all that fly are the last that are kept
pub flights_are : (log : List Mark) (flights : List Flown) (frames : FramesState) → Fly log flights frames → flights ≡ on_air frames
unfolding on_air
flights_are log flights frames fly =
    let h : IsOf log frames = fly.history in
    let order : frames.landed ≤ frames.sent = h.order in
    let long : length (flown_in log) ≡ frames.sent = length-stamped [] log ∙ sym h.sent in
    let some : length frames.frames ≡ frames.sent - (frames.sent - kept frames.sent frames.landed) = ap length h.frames ∙ length-drop (frames.sent - kept frames.sent frames.landed) (flown_in log) ∙ ap (λ n. n - (frames.sent - kept frames.sent frames.landed)) long in
    let place : (frames.sent - kept frames.sent frames.landed) + (length frames.frames - (frames.sent - frames.landed)) ≡ frames.landed = omega arith in
    fly.are ∙ ap (λ n. drop n (flown_in log)) (sym place)
    ∙ sym (drop-drop (length frames.frames - (frames.sent - frames.landed)) (frames.sent - kept frames.sent frames.landed) (flown_in log))
    ∙ ap (λ (fs : List Flown). drop (length frames.frames - (frames.sent - frames.landed)) fs) (sym h.frames)

-- ---- at most two

pub hosts_few : (t : Traffic) (log : List Mark) (flights : List Flown) (o : OuterState) → Follows t log flights o → RequestFacts t → IsFew o
hosts_few t log flights o f facts =
    subst (λ (n : ℕ). n ≤ 2) (ap flying_in f.knows.calls ∙ sym f.await.frames ∙ ap outward (flights_are log flights o.air.frames f.fly)) (two_by_facts t facts)

-- with those that are on the air
pub follows_on_air : (t : Traffic) (log : List Mark) (flights : List Flown) (o : OuterState) → Follows t log flights o → Follows t log (on_air o.air.frames) o
follows_on_air t log flights o f = subst (λ (fs : List Flown). Follows t log fs o) (flights_are log flights o.air.frames f.fly) f

-- ---- room for one

pub room_before : (log : List Mark) (before : List Flown) (flight : Flown) (o : OuterState) → Fly log (before ++ flight ∷ []) o.air.frames → flight.heading ≡ Outward → IsFew o → outward before ≤ 1
room_before log before flight o fly out few =
    let all : outward (before ++ flight ∷ []) ≤ 2 = subst (λ (fs : List Flown). outward fs ≤ 2) (sym (flights_are log (before ++ flight ∷ []) o.air.frames fly)) few in
    let one : outward (flight ∷ []) ≡ 1 = ap (λ (h : Heading). one_outward h + 0) out in
    let both : outward (before ++ flight ∷ []) ≡ outward before + outward (flight ∷ []) = outward-append before (flight ∷ []) in
    omega arith
