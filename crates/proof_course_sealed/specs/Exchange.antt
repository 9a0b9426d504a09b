-- The nonces of a sealed exchange between the host and a lock (this project's own rule over the Security 0 Command Class): what the host makes of the lock's, and of its Nonce Get.
use Rattle.std.specs.Prelude.{◌≡◌, ℕ, true, List, [], ◌∷◌, length}
use Rattle.host_node.specs.State.{SealsText}
use Rattle.host_model.specs.Events.{HostEvent, Gives, Is_unkept, Offers, Takes_nonce}
use Rattle.host_model.specs.State.{HostState, node_of}
use Rattle.host_model.specs.Taking.{IsKeptOr}
use Rattle.proof_messages.specs.Payloads.{IsOffer}
use Rattle.proof_course_sealed.specs.Courses.{Courses}
use Rattle.proof_course_sealed.specs.Meaning.{Past}

-- the last nonce that the lock gave, which is live
pub record IsLiveOffer (past : Past) (c : Courses) (payload : List ℕ) : Type 0 where
  pub offer : IsOffer past.given c.node.given payload
  pub live : c.node.is_live ≡ true

-- ---- what the host makes of them

-- it takes the nonce for the text that waits, and seals that for it, unless that is not kept
pub record TakesOne (n seen : ℕ) (nonce : List ℕ) (h : HostState) (events : List HostEvent) : Type 0 where
  pub own : List ℕ
  pub text : List ℕ
  pub seals : SealsText (node_of h n) h.keys own nonce text
  pub are : IsKeptOr (Takes_nonce n seen text) (Is_unkept n) events

-- it offers its live nonce, or gives a new one, unless that is not kept
pub data GivesOne (n : ℕ) (events : List HostEvent) : Type 0 where
  Offers_live : events ≡ Offers n ∷ [] → GivesOne n events
  Gives_new : (drawn : List ℕ) → length drawn ≡ 8 → events ≡ Gives n drawn ∷ [] → GivesOne n events
  Keeps_none : events ≡ Is_unkept n ∷ [] → GivesOne n events
