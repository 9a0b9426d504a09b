-- The sessions of a lock make what their commands ask for, where it hears a payload of the host.
use Rattle.std.proofs.Common.{◌≡◌, ℕ, ◌⊎◌, inl, inr, Bool, true, false, List, refl, sym, ap, subst}
use Rattle.supervision.specs.Device.{Taken}
use Rattle.proof_course.specs.NodeNonces as node_nonces
use Rattle.proof_course.specs.NonceLaws.{NamesLive}
use Rattle.proof_course.specs.SessionLaws.{NamesOne}
use Rattle.device_kinds.specs.Kind.{lists}
use Rattle.device_kinds.specs.declared.kind.Kind.{Kind}
use Rattle.device_sim.specs.State.{State}
use Rattle.device_sim.specs.Event.{Hears, device_after}
use Rattle.proof_course_plain.specs.Meaning.{IsMessageOf}
use Rattle.proof_course_plain.specs.Making.{Makes, Names}
use Rattle.proof_course_plain.proofs.Levels.{never_works}
use Rattle.proof_course_plain.proofs.MadeSettings.{untouched, follows_makes}
use Rattle.proof_messages.specs.Numbers.{HasGiven}
use Rattle.proof_course_sealed.specs.Labels.{Held, Sealed, Offer, Up, Of_host, Down, Of_node, as_session}
use Rattle.proof_course_sealed.specs.Courses.{Courses}
use Rattle.proof_course_sealed.specs.Meaning.{Past, IsSealedMessage, HoldsMessage, HostMeans}
use Rattle.proof_course_sealed.specs.Lock.{IsUnsaid, AtLock}
use Rattle.proof_course_sealed.specs.Device.{NamesNonce}
use Rattle.proof_course_sealed.proofs.LockStates.{Laws}
use Rattle.proof_course_sealed.proofs.HeardPayloads.{offer_left, never_unsaid, unnamed_spends, message_followed}

-- the plain text of a sealed message is the whole message of its session
abbrev pub whole_of : (past : Past) (session : ℕ) (text : List ℕ) → IsSealedMessage past session text → IsMessageOf past.orders past.commands session text
whole_of past session text is = record { number = is.number; asked = is.asked; carried = is.carried; accepted = is.accepted; fit = is.fit; end = is.end; text = is.text_is }

module _ (laws : Laws) (past : Past) (node : ℕ) (c : Courses) (device : State) (payload drawn : List ℕ) (at : AtLock past c device)
    (stands : device.node ≡ node) (m : Makes past.orders past.commands device) where
  abbrev new : State
  new = device_after device (Hears payload drawn)

  sealed_makes : (session number : ℕ) → HoldsMessage past node session number payload → NamesOne c.sessions.device (record { session = session; is_segment = false })
      → NamesLive c.node number → Makes past.orders past.commands new
  sealed_makes session number is names live = given_by at.gave
    where
      named_by : HasGiven past.given c.node.given c.node.is_live device.given → (b : Bool) → node_nonces.names c.node number ≡ b → Makes past.orders past.commands new
      named_by has true e =
          follows_makes past.orders past.commands c.sessions.ends device new session is.text at.ended (whole_of past session is.text is.is)
          (laws.asked device is.is.asked.carriage is.is.asked.order is.is.fit.good)
          (λ one made heard works. absurd (never_works device is.is.asked.carriage is.is.asked.order made (ap (λ (k : Kind). lists k 0x26) at.lock.kind) works)) false
          (subst (λ (t : Taken). NamesOne t (record { session = session; is_segment = false })) (sym at.sessions) names) m
          (message_followed laws past node c device payload drawn at stands session number is has live e)
      named_by has false e = untouched past.orders past.commands device new (unnamed_spends laws past node c device payload drawn at stands session number is has e).left m

      given_by : HasGiven past.given c.node.given c.node.is_live device.given ⊎ IsUnsaid past c.node device.given → Makes past.orders past.commands new
      given_by (inl has) = named_by has (node_nonces.names c.node number) refl
      given_by (inr un) = absurd (never_unsaid laws past node c device payload drawn at stands session number is un)

pub payload_makes : Laws → (past : Past) (node : ℕ) (c : Courses) (device : State) (held : Held) (payload drawn : List ℕ) → AtLock past c device → device.node ≡ node → HostMeans past node payload held
    → Names c.sessions.device (as_session held) → NamesNonce c held → Makes past.orders past.commands device → Makes past.orders past.commands (device_after device (Hears payload drawn))
payload_makes laws past node c device (Up (Sealed session number)) payload drawn at stands is names one m = sealed_makes laws past node c device payload drawn at stands m session number is names.0 one
payload_makes laws past node c device (Up (Offer number)) payload drawn at stands is names one m =
    untouched past.orders past.commands device (device_after device (Hears payload drawn)) (offer_left laws past device number payload drawn at.lock is) m
payload_makes laws past node c device Of_host payload drawn at stands is names one m =
    untouched past.orders past.commands device (device_after device (Hears payload drawn)) (is.1 device drawn at.lock) m
payload_makes laws past node c device (Down said) payload drawn at stands is names one m = absurd is
payload_makes laws past node c device Of_node payload drawn at stands is names one m = absurd is
