-- Frames that arrive, results that are given and devices that tick happen outside the host of themselves.
use Rattle.std.proofs.Common.{ℕ, zero, suc, ◌+◌, List, refl, sym, subst}
use Rattle.outside_model.specs.Events.{OuterEvent, AreOwn}
use Rattle.outside_model.specs.Schedules.{Arrivals, Givings, DeviceTicks}

pub arrivals_own : (k : ℕ) (es : List OuterEvent) → Arrivals k es → AreOwn es
arrivals_own zero es arrive = subst (λ (l : List OuterEvent). AreOwn l) (sym arrive) tt
arrivals_own (suc k) es arrive =
    let (drawn, route, rest, are, more) = arrive in
    subst (λ (l : List OuterEvent). AreOwn l) (sym are) (refl, arrivals_own k rest more)

pub givings_own : (k : ℕ) (es : List OuterEvent) → Givings k es → AreOwn es
givings_own zero es gives = subst (λ (l : List OuterEvent). AreOwn l) (sym gives) tt
givings_own (suc k) es gives =
    let (route, rest, are, more) = gives in
    subst (λ (l : List OuterEvent). AreOwn l) (sym are) (refl, givings_own k rest more)

pub ticks_own : (place k : ℕ) (es : List OuterEvent) → DeviceTicks place k es → AreOwn es
ticks_own place zero es ticks = subst (λ (l : List OuterEvent). AreOwn l) (sym ticks) tt
ticks_own place (suc k) es ticks =
    let (drawn, route, rest, are, more) = ticks in
    subst (λ (l : List OuterEvent). AreOwn l) (sym are) (refl, ticks_own (place + 1) k rest more)
