-- The messages of a payload, and what each is.
use Rattle.std.proofs.Common.{◌≡◌, ℕ, ◌<◌, ◌+◌, List, [], ◌∷◌, ◌++◌, length, take, get_or, ap, sym, ◌∙◌, subst}
use Rattle.std.proofs.lemmas.List.{take_more}
use Rattle.std.specs.Prelude.{Bool}
use Rattle.host_heard.specs.declared.told.Told.{Told}
use Rattle.host_model.specs.State.{HostState}
use Rattle.host_model.specs.Events.{HostEvent}
use Rattle.host_model.specs.Did.{after_all}
use Rattle.host_model.specs.Taking.{IsTaken, AreTaken}
use Rattle.host_step_bytes.specs.Calls.{Scene, Does}
use Rattle.host_step_bytes.proofs.CallLists.{then_does}

-- messages are taken one after another
pub record GoesOn : Type 0 where
  pub one : (h : HostState) (n : ℕ) (payload : List ℕ) (sealed : Bool) (message : Told) (events : List HostEvent) → IsTaken h n payload sealed message events
      → AreTaken h n payload sealed (message ∷ []) events
  pub both : (h : HostState) (n : ℕ) (payload : List ℕ) (sealed : Bool) (a b : List Told) (x y : List HostEvent) → AreTaken h n payload sealed a x
      → AreTaken (after_all h x) n payload sealed b y → AreTaken h n payload sealed (a ++ b) (x ++ y)

-- one more message is taken
pub message_taken : GoesOn → (n : ℕ) (payload : List ℕ) (sealed : Bool) (messages : List Told) (i : ℕ) (m : Told) (a b c : Scene) → m ≡ get_or messages i m → i < length messages
    → Does (AreTaken a.host n payload sealed (take i messages)) a b → Does (IsTaken b.host n payload sealed m) b c → Does (AreTaken a.host n payload sealed (take (i + 1) messages)) a c
message_taken law n payload sealed messages i m a b c is within before one =
    then_does (AreTaken a.host n payload sealed (take i messages)) (IsTaken b.host n payload sealed m) (AreTaken a.host n payload sealed (take (i + 1) messages)) a b c before one
    (λ (x : List HostEvent) (y : List HostEvent) state first later.
    subst (λ (l : List Told). AreTaken a.host n payload sealed l (x ++ y)) (sym (take_more messages i m within ∙ ap (λ (t : Told). take i messages ++ t ∷ []) (sym is)))
    (law.both a.host n payload sealed (take i messages) (m ∷ []) x y first
    (subst (λ (h : HostState). AreTaken h n payload sealed (m ∷ []) y) state (law.one b.host n payload sealed m y later))))
