-- What one message of a node is, by what it tells.
use Rattle.std.proofs.Common.{◌≡◌, ℕ, List, [], ◌∷◌, refl, ap, sym, ◌∙◌, subst, inl, inr}
use Rattle.std.specs.Prelude.{◌==◌, Bool, true, false, Option, Some}
use Rattle.class_info.specs.declared.report_status.ReportStatus.{ReportStatus}
use Rattle.std.specs.List.{list_any}
use Rattle.host_orders.specs.Classes.{lists}
use Rattle.host_heard.specs.declared.told.Told.{Told}
use Rattle.host_heard.specs.declared.told.Told.TheVariants.{Report}
use Rattle.host_model.specs.State.{HostState, node_of}
use Rattle.host_model.specs.Events.{HostEvent, Unreads}
use Rattle.host_model.specs.Taking.{IsTaken, is_secure, IsKeptOr}
use Rattle.host_step_kept.specs.Choices.{chosen}
use Rattle.host_step_bytes.specs.Calls.{Scene, Does}
use Rattle.host_step_bytes.proofs.CallLists.{does_as}

-- the event whose record was kept, or the other one
pub kept_or : (is_kept : Bool) (kept unkept : HostEvent) → IsKeptOr kept unkept (chosen is_kept kept unkept ∷ [])
kept_or true kept unkept = inl refl
kept_or false kept unkept = inr refl

-- and else tells nothing
pub report_unread : (h : HostState) (n : ℕ) (payload : List ℕ) (sealed : Bool) (id : ℕ) (status : ReportStatus) (wake_request : Bool) (events : List HostEvent) → sealed ≡ false
    → is_secure (node_of h n).classes ≡ true → events ≡ Unreads n payload ∷ [] → IsTaken h n payload sealed (Report id status wake_request) events
report_unread h n payload sealed id status wake_request events is secure are = rw is (rw secure are)

-- a message that is this one is taken so
pub as_taken : (Kind : List HostEvent → Type 0) (h : HostState) (n : ℕ) (payload : List ℕ) (sealed : Bool) (message one : Told) (a b : Scene) → message ≡ one → Does Kind a b
    → ((events : List HostEvent) → Kind events → IsTaken h n payload sealed one events) → Does (IsTaken h n payload sealed message) a b
as_taken Kind h n payload sealed message one a b is does so =
    does_as Kind (IsTaken h n payload sealed message) a b does (λ events kind. subst (λ (m : Told). IsTaken h n payload sealed m events) (sym is) (so events kind))

-- a class list that is there has the class
pub secure_is : (classes : Option (List ℕ)) (listed : List ℕ) (b : Bool) → Some listed ≡ classes → b ≡ list_any (λ one. one == 152) listed → b ≡ is_secure classes
unfolding lists
secure_is classes listed b is has = has ∙ ap (λ (o : Option (List ℕ)). is_secure o) is
