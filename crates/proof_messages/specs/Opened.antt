-- What the host makes of a sealed message of a node (this project's own rule over the Security 0 Command Class).
use Rattle.std.specs.Prelude.{◌≡◌, ◌⊎◌, ℕ, Bool, true, false, List, [], ◌∷◌}
use Rattle.host_heard.specs.declared.told.Told.{Told}
use Rattle.host_model.specs.State.{HostState}
use Rattle.host_model.specs.Events.{HostEvent, Unreads, Is_unkept, Spends}
use Rattle.host_model.specs.After.{after}
use Rattle.host_model.specs.Taking.{AreTaken}

-- by whether it names the live nonce: it is not read; or that nonce is spent and these messages are taken, unless the record was not kept
abbrev pub OpensAs : HostState → ℕ → List ℕ → List Told → List HostEvent → Bool → Type 0
OpensAs h n payload messages events false = events ≡ Unreads n payload ∷ []
OpensAs h n payload messages events true =
    (events ≡ Is_unkept n ∷ []) ⊎ ((rest : List HostEvent) × (events ≡ Spends n ∷ rest) × AreTaken (after h (Spends n)) n payload true messages rest)
