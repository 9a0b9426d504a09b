-- Schedules one after another, and those of what is outside the host.
use Rattle.std.proofs.Common.{ℕ, ◌+◌, Bool, true, false, List, [], ◌∷◌, ◌++◌, map, refl, sym, subst, inl, inr}
use Rattle.zw_text.specs.declared.entry.Entry.{Entry}
use Rattle.outside_model.specs.State.{Outside, OuterState}
use Rattle.outside_model.specs.Events.{OuterEvent, AreOwn}
use Rattle.outside_model.specs.Did.{RunOf as RunOfOutside}
use Rattle.outside_model.specs.Schedules.{TakesBy, IsRepeat, IsWake, IsSet}
use Rattle.world_model.specs.State.{Machine, with_outside}
use Rattle.world_model.specs.Events.{Event, Outside_does}
use Rattle.world_model.specs.Did.{Schedule, Scene, Stops, Does, Then, ThenPrefix}
use Rattle.world_model.specs.Settling.{Outside as OutsideOf}
use Rattle.world_model.proofs.EventLists.{ran_both, stopped_as, stopped_later}
use Rattle.world_model.proofs.Outside.{ran_outside}

-- one after another
pub did_then : (A B : Schedule) (s t u : Scene) → Does A s t → Does B t u → Does (Then A B) s u
did_then A B s t u first later =
    (first.0 ++ later.0, (first.0, later.0, refl, first.1, subst (λ (m : Machine). B m later.0) first.2.state later.1), ran_both first.0 later.0 s t u first.2 later.2)

-- the first was done, and the second in part
pub stopped_then : (A FirstPrefix SecondPrefix : Schedule) (s t u : Scene) → Does A s t → Stops SecondPrefix t u → Stops (ThenPrefix FirstPrefix A SecondPrefix) s u
stopped_then A FirstPrefix SecondPrefix s t u first stops = stopped_later (ThenPrefix FirstPrefix A SecondPrefix) SecondPrefix first.0 s t u
    (λ events prefix. inr (first.0, events, refl, first.1, subst (λ (m : Machine). SecondPrefix m events) first.2.state prefix)) first.2 stops

-- the first was done in part
pub stopped_first : (A FirstPrefix SecondPrefix : Schedule) (s t : Scene) → Stops FirstPrefix s t → Stops (ThenPrefix FirstPrefix A SecondPrefix) s t
stopped_first A FirstPrefix SecondPrefix s t stops = stopped_as FirstPrefix (ThenPrefix FirstPrefix A SecondPrefix) s t (λ events prefix. inl prefix) stops

-- ---- kinds of events outside the host

pub takes_own : (b : Bool) (bytes : List ℕ) (o : OuterState) (es : List OuterEvent) → TakesBy b bytes o es → AreOwn es
takes_own true bytes o es takes = subst (λ (l : List OuterEvent). AreOwn l) (sym takes) tt
takes_own false [] o es takes = subst (λ (l : List OuterEvent). AreOwn l) (sym takes) tt
takes_own false (byte ∷ bytes) o es takes = subst (λ (l : List OuterEvent). AreOwn l) (sym takes.are) (refl, tt)

pub repeat_own : (number : ℕ) (es : List OuterEvent) → IsRepeat number es → AreOwn es
repeat_own number es repeat =
    let (drawn, route, are) = repeat in
    subst (λ (l : List OuterEvent). AreOwn l) (sym are) (refl, tt)

pub wake_own : (node : ℕ) (es : List OuterEvent) → IsWake node es → AreOwn es
wake_own node es wake = subst (λ (l : List OuterEvent). AreOwn l) (sym wake.1) (refl, tt)

pub set_own : (node value : ℕ) (es : List OuterEvent) → IsSet node value es → AreOwn es
set_own node value es sets = subst (λ (l : List OuterEvent). AreOwn l) (sym sets.1) (refl, tt)

-- events of a kind outside the host were done
pub did_outside : (Kind : List OuterEvent → Type 0) (m : Machine) (w : Outside) (before all : List Entry) (faults : ℕ) → ((es : List OuterEvent) → Kind es → AreOwn es)
    → RunOfOutside Kind m.outside w before all
    → Does (λ (m : Machine) (es : List Event). OutsideOf Kind es) (record { machine = m; entries = before; faults = faults }) (record { machine = with_outside m w; entries = all; faults = faults })
did_outside Kind m w before all faults own run =
    let (es, kind, went) = run in
    (map Outside_does es, (es, kind, refl), ran_outside es m w before all faults (own es kind) went)
