-- What is known of a command that is found by its number.
use Rattle.std.proofs.Common.{◌≡◌, ℕ, zero, suc, List, [], ◌∷◌, All, Option, Some, None, refl, sym, subst}
use Rattle.std.specs.Prelude.{map}
use Rattle.std.specs.List.{AllByRecursion}
use Rattle.std.proofs.lemmas.List.Elements.{All-head, All-tail}
use Rattle.zw_base.specs.declared.property.Setting.{Setting}
use Rattle.supervision.specs.Session.{IsStatus}
use Rattle.supervision.specs.Host.{command_at as command_of_session}
use Rattle.value_store.specs.Values.{Values, IsReserved}
use Rattle.host_keep.specs.Status.{status_byte}
use Rattle.host_keep.specs.declared.final_status.FinalStatus.{FinalStatus}
use Rattle.host_keep.specs.declared.final_status.FinalStatus.TheVariants.{NoSupport, Fail, Success}
use Rattle.host_orders.specs.Settings.{settings}
use Rattle.host_model.specs.State.{HostState, Command, node_of, command_at}
use Rattle.host_model.specs.Sessions.{settings_with}
use Rattle.host_model.specs.Facts.{HostFacts, IsSound, IsCommandOf}
use Rattle.host_step.specs.Sessions.{command_in}
use Rattle.supervision.proofs.OnceLemmas.{All-slice_get as get_has}

-- ---- what is true of all is true of one

-- a command of the host is sound
pub command_is_sound : (h : HostState) (number : ℕ) (command : Command) → HostFacts h → command_at h.commands number ≡ Some command → IsSound h.store command
command_is_sound h zero command f found = cc
command_is_sound h (suc before) command f found = get_has (IsSound h.store) h.commands before command f.commands found

-- the command of a session of a node is for it
pub session_is_for : (h : HostState) (n session number : ℕ) → HostFacts h → command_of_session (node_of h n).book.commands session ≡ Some number → IsCommandOf h.commands n number
session_is_for h n zero number f found = cc
session_is_for h n (suc before) number f found = get_has (IsCommandOf h.commands n) (node_of h n).book.commands before number (f.owns n).sessions found

-- ---- a final report

pub status_is_one : (status : FinalStatus) → IsStatus (status_byte status)
status_is_one NoSupport = refl
status_is_one Fail = refl
status_is_one Success = refl

-- what holds of the images of all holds of each image
each_of_map : {X Y : Type 0} (P : X → Type 0) (f : Y → X) (ys : List Y) → All P (map f ys) → AllByRecursion (λ y. P (f y)) ys
each_of_map P f [] all = tt
each_of_map P f (y ∷ ys) all = (All-head P (f y) (map f ys) all, each_of_map P f ys (All-tail P (f y) (map f ys) all))

reserved_by : (store : Values) (n : ℕ) (status : FinalStatus) (command : Command) → IsSound store command → command.order.node ≡ n
    → AllByRecursion (λ (s : Setting). IsReserved store n s.property) (settings_with status (Some command))
reserved_by store n NoSupport command sound for = tt
reserved_by store n Fail command sound for = tt
reserved_by store n Success command sound for =
    each_of_map (IsReserved store n) (λ (s : Setting). s.property) (settings command.carriage.actuator command.order)
    (subst (λ (m : ℕ). All (IsReserved store m) (map (λ (s : Setting). s.property) (settings command.carriage.actuator command.order))) for sound.kept)

-- the properties that a final report confirms are kept
pub settings_are_kept : (h : HostState) (n session number : ℕ) (status : FinalStatus) → HostFacts h → command_of_session (node_of h n).book.commands session ≡ Some number
    → AllByRecursion (λ (s : Setting). IsReserved h.store n s.property) (settings_with status (command_at h.commands number))
settings_are_kept h n session number status f found =
    let for = session_is_for h n session number f found in
    subst (λ (o : Option Command). AllByRecursion (λ (s : Setting). IsReserved h.store n s.property) (settings_with status o)) (sym for.found)
    (reserved_by h.store n status for.command (command_is_sound h number for.command f for.found) for.node)

-- ---- the command of the open session

pub command_in_is_sound : (h : HostState) (number : Option ℕ) (command : Command) → HostFacts h → command_in h number ≡ Some command → IsSound h.store command
command_in_is_sound h None command f found = cc
command_in_is_sound h (Some number) command f found = command_is_sound h number command f found
