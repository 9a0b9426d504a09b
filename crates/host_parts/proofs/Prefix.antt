-- The task that waited longest.
use Rattle.std.proofs.Common.{◌≡◌, ◌≢◌, List, [], ◌∷◌, Option, Some, refl, sym, subst}
use Rattle.std.specs.Prelude.{slice_get, IsSome}
use Rattle.std.specs.Option.{option_map}
use Rattle.serial_frame.specs.Frame.{FrameParts}
use Rattle.host_requests.specs.declared.task.Task.{Task}

-- where some wait, it is there
pub prefix_is_there : (queue : List Task) (f : Task → FrameParts) (found : Option FrameParts) → queue ≢ [] → found ≡ option_map f (slice_get queue 0) → IsSome found
prefix_is_there [] f found some is = absurd (some refl)
prefix_is_there (task ∷ rest) f found some is = subst (λ (o : Option FrameParts). IsSome o) (sym is) refl
