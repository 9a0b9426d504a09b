-- A settling as a path: pumps, and passes in which bytes move.
use Rattle.std.proofs.Common.{◌≡◌, ℕ, zero, suc, ◌⊎◌, inl, inr, Bool, true, false, List, [], ◌∷◌, ◌++◌, length, map, refl, ap, sym, subst, ◌∙◌}
use Rattle.std.proofs.lemmas.List.{map-append}
use Rattle.std.specs.Prelude.{Option}
use Rattle.serial_frame.specs.Stream.{Rest}
use Rattle.serial_frame.specs.declared.item.Item.{Item}
use Rattle.route_table.specs.declared.route.Route.{Route}
use Rattle.proof_host.specs.host_model.State.{HostState}
use Rattle.proof_host.specs.host_model.Events.{HostEvent}
use Rattle.proof_host.specs.host_model.Did.{after_all as host_after_all}
use Rattle.proof_host.specs.host_model.Pumping.{LetsSleep, Submits}
use Rattle.proof_device.specs.outside_model.State.{is_stalled}
use Rattle.proof_device.specs.outside_model.Events.{OuterEvent, Chip_takes}
use Rattle.proof_device.specs.outside_model.Schedules.{TakesBy as ChipTakesBy}
use Rattle.proof_device.specs.world_model.State.{Machine}
use Rattle.proof_device.specs.world_model.Events.{Event, Outside_does, Host_does, Host_takes, happens}
use Rattle.proof_device.specs.world_model.Did.{happens_all, Then, Nothing, ThenPrefix}
use Rattle.proof_device.specs.world_model.Settling.{IsPump, IsChipPart, IsHostPart, IsMove, IfMoved, Passes, TakesBy}
use Rattle.proof_device.specs.world_model.Prefixes.{MovePrefix, PassesPrefix}
use Rattle.proof_walk.specs.Phases.{To_tick, Sleeping, Submitting, Moving, Moved, after_pump, passes_after, IsStill}
use Rattle.proof_walk.specs.Paths.{Path, Leads, Begins}
use Rattle.proof_walk.specs.Paths.Path.{Ends, Turned, Stepped}
use Rattle.proof_walk.proofs.Joining.{join, same, then, nothing, then_some}

-- ---- a pump

host_at : (m : Machine) (events : List HostEvent) → (happens_all m (map Host_does events)).host.state ≡ host_after_all m.host.state events
unfolding happens
host_at m [] = refl
host_at m (event ∷ events) = host_at (happens m (Host_does event)) events

sleeps : (passes ticks : ℕ) (m : Machine) (events : List HostEvent) → LetsSleep m.host.state events
    → Path (Submitting passes ticks) (Sleeping passes ticks) m (map Host_does events)
unfolding happens
sleeps passes ticks m [] none = Turned {next = Submitting passes ticks} (none, refl) Ends
sleeps passes ticks m (event ∷ events) (node, wants, is, more) =
    Stepped {next = Sleeping passes ticks} (node, wants, ap Host_does is, refl) (sleeps passes ticks (happens m (Host_does event)) events more)

submits : (passes ticks : ℕ) (m : Machine) (events : List HostEvent) → Submits m.host.state events
    → Path (after_pump passes ticks) (Submitting passes ticks) m (map Host_does events)
unfolding happens
submits passes ticks m [] done = Turned {next = after_pump passes ticks} (done, refl) Ends
submits passes ticks m (event ∷ events) (is, more) =
    Stepped {next = Submitting passes ticks} (event, is, refl, refl) (submits passes ticks (happens m (Host_does event)) events more)

pub pump : (passes ticks : ℕ) → Leads (Sleeping passes ticks) IsPump (after_pump passes ticks)
pump passes ticks m events (inner, (first, rest, parts, lets, submit), are) =
    same (map Host_does first ++ map Host_does rest) (are ∙ (ap (λ (l : List HostEvent). map Host_does l) parts ∙ map-append Host_does first rest))
    (join (sleeps passes ticks m first lets)
    (submits passes ticks (happens_all m (map Host_does first)) rest (subst (λ (h : HostState). Submits h rest) (sym (host_at m first)) submit)))

-- ---- bytes move

-- the chip takes nothing, since it can not, or all
abbrev ChipTook : Machine → List Event → Type 0
ChipTook m events =
    ((events ≡ []) × IsStill (is_stalled m.outside.outer) m.outside.outer.to_chip.bytes)
    ⊎ ((rest : Rest) × (ways : List (Item × Option Route)) × (events ≡ Outside_does (Chip_takes (length m.outside.outer.to_chip.bytes) rest ways) ∷ []))

chip_took : (m : Machine) (events : List Event) → IsChipPart m events → ChipTook m events
chip_took m events (inner, takes, are) = by (is_stalled m.outside.outer) m.outside.outer.to_chip.bytes refl refl takes
  where
    by : (stalled : Bool) (bytes : List ℕ) → is_stalled m.outside.outer ≡ stalled → m.outside.outer.to_chip.bytes ≡ bytes → ChipTakesBy stalled bytes m.outside.outer inner → ChipTook m events
    by true bytes stalls has none = inl (are ∙ ap (λ (l : List OuterEvent). map Outside_does l) none, inl stalls)
    by false [] stalls has none = inl (are ∙ ap (λ (l : List OuterEvent). map Outside_does l) none, inr has)
    by false (byte ∷ bytes) stalls has all = inr (all.rest, all.ways, are ∙ ap (λ (l : List OuterEvent). map Outside_does l) all.are)

-- so does the host
abbrev HostTook : Machine → List Event → Type 0
HostTook m events =
    ((events ≡ []) × IsStill (is_stalled m.outside.outer) m.outside.outer.to_host.bytes)
    ⊎ ((rest : Rest) × (items : List Item) × (inner : List HostEvent) × (events ≡ Host_takes (length m.outside.outer.to_host.bytes) rest items inner ∷ []))

host_took : (m : Machine) (events : List Event) → IsHostPart m events → HostTook m events
host_took m events takes = by (is_stalled m.outside.outer) m.outside.outer.to_host.bytes refl refl takes
  where
    by : (stalled : Bool) (bytes : List ℕ) → is_stalled m.outside.outer ≡ stalled → m.outside.outer.to_host.bytes ≡ bytes → TakesBy stalled bytes events → HostTook m events
    by true bytes stalls has none = inl (none, inl stalls)
    by false [] stalls has none = inl (none, inr has)
    by false (byte ∷ bytes) stalls has (rest, items, inner, are) =
        inr (rest, items, inner, are ∙ ap (λ (l : List ℕ). Host_takes (length l) rest items inner ∷ []) (sym has))

-- the passes that may follow where these bytes moved
abbrev kept : List Event → ℕ → ℕ
kept [] passes = 0
kept (event ∷ events) passes = passes

chip_moves : (passes ticks : ℕ) (m : Machine) (events : List Event) → ChipTook m events
    → (has_moved : Bool) × (passes_after has_moved passes ≡ kept events passes) × Path (Moved has_moved passes ticks) (Moving passes ticks) m events
chip_moves passes ticks m events (inl (none, still)) =
    (false, ap (λ (l : List Event). kept l passes) (sym none), same [] none (Turned {next = Moved false passes ticks} (still, refl) Ends))
chip_moves passes ticks m events (inr (rest, ways, are)) =
    (true, ap (λ (l : List Event). kept l passes) (sym are), same _ are (Stepped {next = Moved true passes ticks} (rest, ways, refl, refl) Ends))

kept_none : (before events : List Event) (passes : ℕ) → events ≡ [] → kept (before ++ events) passes ≡ kept before passes
kept_none [] events passes none = ap (λ (l : List Event). kept l passes) none
kept_none (event ∷ before) events passes none = refl

kept_some : (before events more : List Event) (event : Event) (passes : ℕ) → events ≡ event ∷ more → kept (before ++ events) passes ≡ passes
kept_some [] events more event passes are = ap (λ (l : List Event). kept l passes) are
kept_some (first ∷ before) events more event passes are = refl

host_moves : (has_moved : Bool) (passes ticks : ℕ) (m : Machine) (before events : List Event) → passes_after has_moved passes ≡ kept before passes → HostTook m events
    → Path (Sleeping (kept (before ++ events) passes) ticks) (Moved has_moved passes ticks) m events
host_moves has_moved passes ticks m before events is (inl (none, still)) =
    same [] none
    (subst (λ (k : ℕ). Path (Sleeping k ticks) (Moved has_moved passes ticks) m []) (is ∙ sym (kept_none before events passes none))
    (Turned {next = Sleeping (passes_after has_moved passes) ticks} (still, refl) Ends))
host_moves has_moved passes ticks m before events is (inr (rest, items, inner, are)) =
    same _ are
    (subst (λ (k : ℕ). Path (Sleeping k ticks) (Moved has_moved passes ticks) m (Host_takes (length m.outside.outer.to_host.bytes) rest items inner ∷ []))
    (sym (kept_some before events [] _ passes are)) (Stepped {next = Sleeping passes ticks} (rest, items, inner, refl, refl) Ends))

move : (passes ticks : ℕ) (m : Machine) (events : List Event) → IsMove m events → Path (Sleeping (kept events passes) ticks) (Moving passes ticks) m events
move passes ticks m events (first, rest, are, chips, hosts) =
    let (has_moved, is, path) = chip_moves passes ticks m first (chip_took m first chips) in
    subst (λ (l : List Event). Path (Sleeping (kept l passes) ticks) (Moving passes ticks) m l) (sym are)
    (join path (host_moves has_moved passes ticks (happens_all m first) first rest is (host_took (happens_all m first) rest hosts)))

-- ---- passes

if_moved : (more ticks : ℕ) (moves : List Event) → Leads (after_pump more ticks) (Passes more) (To_tick ticks)
    → Leads (after_pump (kept moves more) ticks) (IfMoved moves (Passes more)) (To_tick ticks)
if_moved more ticks [] goes m events none = same [] none Ends
if_moved more ticks (event ∷ moves) goes m events is = goes m events is

passes : (count ticks : ℕ) → Leads (after_pump count ticks) (Passes count) (To_tick ticks)
passes zero ticks m events none = same [] none Ends
passes (suc more) ticks m events (moves, rest, are, moved, is) =
    same (moves ++ rest) are
    (join (move more ticks m moves moved)
    (then (Sleeping (kept moves more) ticks) (after_pump (kept moves more) ticks) (To_tick ticks) IsPump (IfMoved moves (Passes more)) (pump (kept moves more) ticks)
    (if_moved more ticks moves (λ m events is. passes more ticks m events is)) (happens_all m moves) rest is))

pub settling : (count ticks : ℕ) → Leads (Sleeping count ticks) (Then IsPump (Passes count)) (To_tick ticks)
settling count ticks = then (Sleeping count ticks) (after_pump count ticks) (To_tick ticks) IsPump (Passes count) (pump count ticks) (passes count ticks)

-- ---- where an allocation failure cut it short

move_begins : (passes ticks : ℕ) → Begins (Moving passes ticks) MovePrefix
move_begins passes ticks m events (inl none) = nothing (Moving passes ticks) m events none
move_begins passes ticks m events (inr (first, rest, are, chips, none)) =
    let (has_moved, is, path) = chip_moves passes ticks m first (chip_took m first chips) in
    (Moved has_moved passes ticks, same (first ++ rest) are (join path (same [] none Ends)))

if_moved_begins : (more ticks : ℕ) (moves : List Event) → Begins (after_pump more ticks) (PassesPrefix more) → Begins (after_pump (kept moves more) ticks) (IfMoved moves (PassesPrefix more))
if_moved_begins more ticks [] goes m events none = nothing (To_tick ticks) m events none
if_moved_begins more ticks (event ∷ moves) goes m events is = goes m events is

passes_begin : (count ticks : ℕ) → Begins (after_pump count ticks) (PassesPrefix count)
passes_begin zero ticks m events none = nothing (To_tick ticks) m events none
passes_begin (suc more) ticks m events (inl is) = move_begins more ticks m events is
passes_begin (suc more) ticks m events (inr (moves, rest, are, moved, is)) =
    let later =
    then_some (Sleeping (kept moves more) ticks) (after_pump (kept moves more) ticks) Nothing IsPump (IfMoved moves (PassesPrefix more))
    (nothing (Sleeping (kept moves more) ticks)) (pump (kept moves more) ticks) (if_moved_begins more ticks moves (λ m events is. passes_begin more ticks m events is))
    (happens_all m moves) rest is in
    (later.0, same (moves ++ rest) are (join (move more ticks m moves moved) later.1))

pub settling_begins : (count ticks : ℕ) → Begins (Sleeping count ticks) (ThenPrefix Nothing IsPump (PassesPrefix count))
settling_begins count ticks =
    then_some (Sleeping count ticks) (after_pump count ticks) Nothing IsPump (PassesPrefix count) (nothing (Sleeping count ticks)) (pump count ticks) (passes_begin count ticks)
