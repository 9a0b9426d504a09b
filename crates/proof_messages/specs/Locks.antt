-- What a lock makes of nonces and of what is sealed (this project's own rule over the Security 0 Command Class).
use Rattle.std.specs.Prelude.{◌≡◌, ◌⊎◌, ℕ, true, List, [], ◌∷◌, Option, Some, None}
use Rattle.supervision.specs.declared.device_book.Heard.{Heard}
use Rattle.supervision.specs.declared.device_book.Heard.TheVariants.{New, Again, Old}
use Rattle.s0_session.specs.Nonces.{nonce_given, after_give, after_spend}
use Rattle.class_info.specs.InfoSpelling.{form}
use Rattle.class_info.specs.declared.message.InfoMessage.TheVariants.{NonceGet}
use Rattle.device_kinds.specs.declared.kind.Kind.TheVariants as kinds
use Rattle.s0_crypto.specs.Sealing.{sealed_text, keys_of}
use Rattle.device_kinds.specs.Kind.{host_node}
use Rattle.device_sim.specs.device_stack.State.{State}
use Rattle.device_sim.specs.Event.{DeviceEvent, Hears, Ticks, Wakes, Sets}
use Rattle.proof_messages.specs.Asking.{IsLeft}
use Rattle.proof_messages.specs.Payloads.{report_of}

-- a lock: it is awake and at no work, and seals for the host; it never sleeps, and no command of it takes time
pub record IsLock (device : State) : Type 0 where
  pub kind : device.kind ≡ kinds.Lock
  pub awake : device.awake ≡ true
  pub idle : device.work_left ≡ 0
  pub ends : device.sealing.ends ≡ record { sender = device.node; receiver = host_node }

-- it does nothing with nonces or sessions, and says nothing
pub record Ignores (old new : State) (replies : List (List ℕ)) : Type 0 where
  pub lock : IsLock new
  pub given : new.given ≡ old.given
  pub sealing : new.sealing ≡ old.sealing
  pub sessions : new.sessions ≡ old.sessions
  pub silent : replies ≡ []

-- it gives a nonce, and says it
pub record Offers (drawn : List ℕ) (old new : State) (replies : List (List ℕ)) : Type 0 where
  pub lock : IsLock new
  pub given : new.given ≡ after_give old.given drawn
  pub sealing : new.sealing ≡ old.sealing
  pub sessions : new.sessions ≡ old.sessions
  pub says : replies ≡ report_of (nonce_given old.given drawn) ∷ []

-- it seals the text that waits for this nonce, with which so many were seen, and says it
pub record SealsFor (nonce drawn : List ℕ) (seen : ℕ) (old new : State) (replies : List (List ℕ)) : Type 0 where
  pub lock : IsLock new
  pub plain : List ℕ
  pub waited : old.sealing.pending ≡ Some plain
  pub given : new.given ≡ old.given
  pub sealing : new.sealing ≡ record old.sealing { seen = seen; pending = None }
  pub sessions : new.sessions ≡ old.sessions
  pub says : replies ≡ sealed_text (keys_of old.key) drawn nonce old.sealing.ends plain ∷ []

-- it does, where the nonce counts as the last or the next
abbrev pub SealsIf : List ℕ → List ℕ → Option ℕ → State → State → List (List ℕ) → Type 0
SealsIf nonce drawn (Some seen) old new replies = SealsFor nonce drawn seen old new replies
SealsIf nonce drawn None old new replies = Ignores old new replies

-- an answer waits, and a nonce is asked for; or there is none
abbrev pub WaitsToAnswer : State → State → List (List ℕ) → Type 0
WaitsToAnswer old new replies =
    ((new.sealing ≡ old.sealing) × (replies ≡ []))
    ⊎ ((text : List ℕ) × ((new.sealing ≡ record old.sealing { pending = Some text }) × (replies ≡ form NonceGet ∷ [])))

-- a message named this first byte: the nonce with it is spent, and an answer may wait
pub record Spends (first : ℕ) (old new : State) (replies : List (List ℕ)) : Type 0 where
  pub lock : IsLock new
  pub given : new.given ≡ after_spend old.given first
  pub answers : WaitsToAnswer old new replies

-- a message named no nonce that is live: all stays as it was, and nothing is said
pub record SpendsNone (old new : State) (replies : List (List ℕ)) : Type 0 where
  pub ignores : Ignores old new replies
  pub left : IsLeft old new

-- what it says after the message of a session that named its live nonce, by what the id is for it: where it answers, it asks for a nonce; else nothing
abbrev pub AsksToAnswer : List (List ℕ) → Heard → Type 0
AsksToAnswer replies (New session) = replies ≡ form NonceGet ∷ []
AsksToAnswer replies (Again status) = replies ≡ form NonceGet ∷ []
AsksToAnswer replies Old = replies ≡ []

-- an event at which nothing is heard
abbrev pub IsUnheard : DeviceEvent → Type 0
IsUnheard (Hears payload drawn) = ⊥
IsUnheard (Ticks drawn) = Unit {0}
IsUnheard Wakes = Unit {0}
IsUnheard (Sets value) = Unit {0}
