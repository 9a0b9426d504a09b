-- Where the lock hears what is on its way to it, it says what is next in the exchange.
use Rattle.std.proofs.Common.{◌≡◌, ◌≤◌, ℕ, Option, List, [], ◌∷◌, length, sym, subst}
use Rattle.supervision.specs.Host.{begun_of}
use Rattle.class_info.specs.InfoSpelling.{form}
use Rattle.class_info.specs.declared.message.InfoMessage.TheVariants.{NonceGet}
use Rattle.device_sim.specs.Event.{Hears, device_after, device_replies}
use Rattle.device_sim.specs.State.{State}
use Rattle.host_model.specs.State.{HostState, node_of}
use Rattle.world_model.specs.Events.{Event, happens}
use Rattle.world_model.specs.State.{Machine}
use Rattle.proof_course.specs.HostNonceFacts.{NonceFacts as HostFacts}
use Rattle.proof_messages.specs.Locks.{IsLock}
use Rattle.proof_answered.specs.proof_calm.proof_work.proof_walk.Phases.{Phase}
use Rattle.proof_course_plain.proofs.ChangesOutside.{place_is}
use Rattle.proof_course_plain.proofs.Replies.{one_place, one_stands}
use Rattle.proof_course_sealed.specs.Courses.{Courses}
use Rattle.proof_course_sealed.specs.Host.{AtHost}
use Rattle.proof_course_sealed.specs.Lock.{AtLock}
use Rattle.proof_course_sealed.specs.Meaning.{Past}
use Rattle.proof_in_time.specs.Answering.{IsInStep}
use Rattle.proof_in_time.specs.Exchange.{EndsForLive, Exchange, Flies, GoesHome, HearsOut, IsElse, IsForLive, IsThere, OffersLive, ReportWaits, Reports, SaysOne, Shows, ShowsLive, TextWaits, Told, Wants}
use Rattle.proof_in_time.specs.Locks.{LockInStep}

-- what is so of what is on its way home
pub goes_also : (n later : ℕ) (here : Phase) (m : Machine) (Is Now : List ℕ → Type 0) → ((payload : List ℕ) → Is payload → Now payload) → GoesHome n Is later here m → GoesHome n Now later here m
goes_also n later here m Is Now also (Flies at before behind told silent few) =
    Flies (record { before = at.before; frame = at.frame; behind = at.behind; are = at.are; is = record { node = at.is.node; home = at.is.home; is = also at.frame.payload at.is.is } }) before behind told silent few
goes_also n later here m Is Now also (Told payload is none told silent few) = Told payload (also payload is) none told silent few

-- what is proved of a lock that is asked
pub record Laws : Type 0 where
  pub asked : (device : State) (drawn : List ℕ) → IsLock device → SaysOne (ShowsLive (device_after device (Hears (form NonceGet) drawn))) (device_replies device (Hears (form NonceGet) drawn))
  pub sealed : (past : Past) (c : Courses) (device : State) (session : ℕ) (payload drawn : List ℕ) → AtLock past c device → IsForLive session device payload → IsInStep session device
      → ReportWaits session (device_after device (Hears payload drawn)) × (device_replies device (Hears payload drawn) ≡ form NonceGet ∷ [])
  pub offered : (past : Past) (n session : ℕ) (c : Courses) (text : Option ℕ) (tasks : List ℕ) (h : HostState) (device : State) (payload drawn : List ℕ) → AtLock past c device → AtHost past n c text tasks h → HostFacts c.host → device.node ≡ n
      → OffersLive n h payload → ReportWaits session device → length drawn ≡ 8 → SaysOne (EndsForLive n session h) (device_replies device (Hears payload drawn))

module _ (laws : Laws) (n : ℕ) (next : Phase) (m : Machine) (event : Event) (step : LockInStep n m) where
  abbrev then_there : Machine
  then_there = happens m event

  -- the lock of the courses stands there
  lock_at : (at : IsThere n m.outside.devices) → AtLock step.past step.courses at.device
  lock_at at =
      let has = step.follows.outside.mesh.device in
      subst (λ (device : State). AtLock step.past step.courses device)
      (one_stands m.outside.devices has.place at.place has.device at.device has.stands at.stands (one_place n m.outside.devices has.place at.place has.first at.first)) has.at

  -- a Nonce Get is heard
  pub get_answered : (session left : ℕ) → HearsOut n (λ payload. payload ≡ form NonceGet) next m event → IsElse n m.host.state → TextWaits n session m.host.state → 5 ≤ left → Exchange n session left next then_there
  get_answered session left hears alone waits few =
      let says : SaysOne (ShowsLive (device_after hears.at.device (Hears hears.payload hears.drawn))) (device_replies hears.at.device (Hears hears.payload hears.drawn)) =
      subst (λ (payload : List ℕ). SaysOne (ShowsLive (device_after hears.at.device (Hears payload hears.drawn))) (device_replies hears.at.device (Hears payload hears.drawn))) (sym hears.is)
      (laws.asked hears.at.device hears.drawn (lock_at hears.at).lock) in
      let shows : ShowsLive hears.later.device says.reply = subst (λ (device : State). ShowsLive device says.reply) (sym hears.heard) says.is in
      Shows 1 hears.later (subst (λ (h : HostState). IsElse n h) (sym hears.host) alone) (subst (λ (h : HostState). TextWaits n session h) (sym hears.host) waits)
      (goes_also n 1 next then_there (λ said. said ≡ says.reply) (ShowsLive hears.later.device) (λ said same. subst (ShowsLive hears.later.device) (sym same) shows) (hears.answers says.reply says.says)) few

  -- the sealed message
  pub text_answered : (session left : ℕ) → session ≡ begun_of (node_of m.host.state n).book → 1 ≤ session → (hears : HearsOut n (λ payload. (at : IsThere n m.outside.devices) → IsForLive session at.device payload) next m event)
      → IsElse n m.host.state → 3 ≤ left → Exchange n session left next then_there
  text_answered session left begun some hears alone few =
      let has = step.follows.outside.mesh.device in
      let same : has.device ≡ hears.at.device =
      one_stands m.outside.devices has.place hears.at.place has.device hears.at.device has.stands hears.at.stands (one_place n m.outside.devices has.place hears.at.place has.first hears.at.first) in
      let in_step : IsInStep session hears.at.device =
      subst (λ (device : State). IsInStep session device) same (subst (λ (k : ℕ). IsInStep k has.device) (sym begun) (step.step (subst (λ (k : ℕ). 1 ≤ k) begun some))) in
      let says = laws.sealed step.past step.courses hears.at.device session hears.payload hears.drawn (lock_at hears.at) (hears.is hears.at) in_step in
      Wants 1 hears.later (subst (λ (h : HostState). IsElse n h) (sym hears.host) alone) (subst (λ (device : State). ReportWaits session device) (sym hears.heard) says.0) (hears.answers (form NonceGet) says.1) few

  -- the nonce of the host
  pub nonce_answered : (session left : ℕ) → (hears : HearsOut n (OffersLive n m.host.state) next m event) → IsElse n m.host.state → ReportWaits session hears.at.device → 1 ≤ left → Exchange n session left next then_there
  nonce_answered session left hears alone waits few =
      let has = step.follows.outside.mesh.device in
      let says =
      laws.offered step.past n session step.courses step.follows.text step.follows.tasks m.host.state hears.at.device hears.payload hears.drawn (lock_at hears.at) step.follows.host step.follows.course.host
      (place_is n m.outside.devices hears.at.place hears.at.device hears.at.first hears.at.stands) hears.is waits hears.eight in
      let ends : EndsForLive n session then_there.host.state says.reply = subst (λ (h : HostState). EndsForLive n session h says.reply) (sym hears.host) says.is in
      Reports 1 (subst (λ (h : HostState). IsElse n h) (sym hears.host) alone)
      (goes_also n 1 next then_there (λ said. said ≡ says.reply) (EndsForLive n session then_there.host.state) (λ said same. subst (EndsForLive n session then_there.host.state) (sym same) ends) (hears.answers says.reply says.says)) few
