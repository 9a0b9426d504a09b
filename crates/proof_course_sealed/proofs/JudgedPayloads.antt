-- What a lock makes of the sessions of the host, where it hears a payload of the host.
use Rattle.std.proofs.Common.{◌≡◌, ℕ, ◌⊎◌, inl, inr, Bool, true, false, List, refl, sym, subst}
use Rattle.supervision.specs.Device.{Taken}
use Rattle.proof_course.specs.NodeNonces as node_nonces
use Rattle.proof_course.specs.NonceLaws.{NamesLive}
use Rattle.proof_course.specs.SessionLaws.{NamesOne}
use Rattle.device_sim.specs.State.{State}
use Rattle.device_sim.specs.Event.{Hears, device_after}
use Rattle.proof_course_plain.specs.Judged.{Judges}
use Rattle.proof_course_plain.specs.Making.{Names}
use Rattle.proof_course_plain.proofs.JudgedMessages.{follows_judges, left_judges}
use Rattle.proof_messages.specs.Numbers.{HasGiven}
use Rattle.proof_course_sealed.specs.Labels.{Held, Sealed, Offer, Up, Of_host, Down, Of_node, as_session}
use Rattle.proof_course_sealed.specs.Courses.{Courses}
use Rattle.proof_course_sealed.specs.Meaning.{Past, HoldsMessage, HostMeans}
use Rattle.proof_course_sealed.specs.Lock.{IsUnsaid, AtLock}
use Rattle.proof_course_sealed.specs.Device.{NamesNonce}
use Rattle.proof_course_sealed.proofs.LockStates.{Laws}
use Rattle.proof_course_sealed.proofs.HeardPayloads.{offer_left, never_unsaid, unnamed_spends, message_followed}
use Rattle.proof_course_sealed.proofs.MadeSettings.{whole_of}

module _ (laws : Laws) (past : Past) (node : ℕ) (c : Courses) (device : State) (payload drawn : List ℕ) (at : AtLock past c device) (stands : device.node ≡ node) where
  abbrev new : State
  new = device_after device (Hears payload drawn)

  sealed_judges : (session number : ℕ) → HoldsMessage past node session number payload → NamesOne c.sessions.device (record { session = session; is_segment = false })
      → NamesLive c.node number → Judges past.orders past.commands device new
  sealed_judges session number is names live = given_by at.gave
    where
      named_by : HasGiven past.given c.node.given c.node.is_live device.given → (b : Bool) → node_nonces.names c.node number ≡ b → Judges past.orders past.commands device new
      named_by has true e =
          follows_judges past.orders past.commands device new session is.text (whole_of past session is.text is.is) false
          (subst (λ (t : Taken). NamesOne t (record { session = session; is_segment = false })) (sym at.sessions) names)
          (message_followed laws past node c device payload drawn at stands session number is has live e)
      named_by has false e = left_judges past.orders past.commands device new (unnamed_spends laws past node c device payload drawn at stands session number is has e).left

      given_by : HasGiven past.given c.node.given c.node.is_live device.given ⊎ IsUnsaid past c.node device.given → Judges past.orders past.commands device new
      given_by (inl has) = named_by has (node_nonces.names c.node number) refl
      given_by (inr un) = absurd (never_unsaid laws past node c device payload drawn at stands session number is un)

pub payload_judges : Laws → (past : Past) (node : ℕ) (c : Courses) (device : State) (held : Held) (payload drawn : List ℕ) → AtLock past c device → device.node ≡ node → HostMeans past node payload held
    → Names c.sessions.device (as_session held) → NamesNonce c held → Judges past.orders past.commands device (device_after device (Hears payload drawn))
payload_judges laws past node c device (Up (Sealed session number)) payload drawn at stands is names one = sealed_judges laws past node c device payload drawn at stands session number is names.0 one
payload_judges laws past node c device (Up (Offer number)) payload drawn at stands is names one =
    left_judges past.orders past.commands device (device_after device (Hears payload drawn)) (offer_left laws past device number payload drawn at.lock is)
payload_judges laws past node c device Of_host payload drawn at stands is names one = left_judges past.orders past.commands device (device_after device (Hears payload drawn)) (is.1 device drawn at.lock)
payload_judges laws past node c device (Down said) payload drawn at stands is names one = absurd is
payload_judges laws past node c device Of_node payload drawn at stands is names one = absurd is
