-- What a lock makes of what it hears, and what it says then, in the courses (this project's own rule).
use Rattle.std.specs.Prelude.{◌≡◌, ℕ, ◌<◌, Bool, true, false, List, [], ◌∷◌, ◌++◌, Option, Some}
use Rattle.class_info.specs.InfoSpelling.{form}
use Rattle.class_info.specs.declared.message.InfoMessage.TheVariants.{NonceGet}
use Rattle.proof_course.specs.Sessions.{Course, hears, after_all, MayAll}
use Rattle.proof_course.specs.NodeNonces as node
use Rattle.proof_course.specs.NodeNonces.{taken_as}
use Rattle.proof_course.specs.HostNonces as host
use Rattle.proof_course.specs.NonceLaws.{NamesLive, TakesOffer}
use Rattle.device_sim.specs.State.{State}
use Rattle.device_sim.specs.Event.{DeviceEvent, device_after, device_replies}
use Rattle.proof_course_plain.specs.Device.{finishes}
use Rattle.proof_course_sealed.specs.Labels.{Held, Sealed, Offer, Reports, Shows, Up, Of_host, Down, Of_node, as_session, as_node, as_host}
use Rattle.proof_course_sealed.specs.Courses.{Courses}
use Rattle.proof_course_sealed.specs.Meaning.{Past, NodeMeans}
use Rattle.proof_course_sealed.specs.Lock.{AtLock}

-- what it says: nothing; the report of its last session, sealed for the nonce of the host of that number; its live nonce; or that it wants a nonce
pub data Reply : Type 0 where
  Nothing : Reply
  Tells : (number : ℕ) → Reply
  Gives : Reply
  Asks : Reply

-- how a payload is heard: whether as the message of a session, and whether as a nonce for what waits; the final status to which the commands of its last session come, if they do; and what is said
pub record Hearing : Type 0 where
  pub message : Bool
  pub nonce : Bool
  pub final : Option ℕ
  pub reply : Reply

-- ---- the courses then, but for what is said

abbrev pub after_message : Course → ℕ → Held → Bool → Course
after_message c since held true = hears c since (as_session held) true
after_message c since held false = c

abbrev pub after_nonce : host.Nonces → Held → Bool → host.Nonces
after_nonce c held true = host.hears c (as_host held) false
after_nonce c held false = c

-- a nonce counts as given where it is said, which one that has not joined does to nobody
abbrev pub given_by : Reply → Bool → node.Nonces → node.Nonces
given_by Nothing joined c = c
given_by (Tells number) joined c = c
given_by Gives true c = node.after c node.Gives
given_by Gives false c = c
given_by Asks joined c = c

-- who wants a nonce has a text that waits
abbrev pub waits_by : Reply → host.Nonces → host.Nonces
waits_by Nothing c = c
waits_by (Tells number) c = c
waits_by Gives c = c
waits_by Asks c = host.after c host.Waits

abbrev pub heard_by : Courses → ℕ → Held → Bool → Hearing → Courses
heard_by c since held joined hearing = record {
  sessions = after_all (after_message c.sessions since held hearing.message) (finishes hearing.final);
  node = given_by hearing.reply joined (node.hears c.node (as_node held));
  host = waits_by hearing.reply (after_nonce c.host held hearing.nonce);
}

-- ---- what is said then

-- its report, where it hears a nonce of the host that it takes
pub record TellsOne (past : Past) (node : ℕ) (before now : Courses) (held : Held) (nonce : Bool) (number : ℕ) (replies : List (List ℕ)) : Type 0 where
  pub reply : List ℕ
  pub says : replies ≡ reply ∷ []
  pub means : NodeMeans past node reply (Down (Reports now.sessions.device.taken now.sessions.device.status number))
  pub took : 0 < now.sessions.device.taken
  pub heard : nonce ≡ true
  pub offered : held ≡ Up (Offer number)
  pub found : taken_as before.host.waits before.host.seen number ≡ Some number

-- the last nonce that it gave, which is live
pub record GivesOne (past : Past) (node : ℕ) (now : Courses) (joined : Bool) (nonce : Bool) (replies : List (List ℕ)) : Type 0 where
  pub reply : List ℕ
  pub says : replies ≡ reply ∷ []
  pub means : joined ≡ true → NodeMeans past node reply (Down (Shows now.node.given))
  pub live : joined ≡ true → now.node.is_live ≡ true
  pub unheard : nonce ≡ false

abbrev pub SaysBy : Reply → Past → ℕ → Courses → Courses → Held → Bool → Bool → List (List ℕ) → Type 0
SaysBy Nothing past node before now held joined nonce replies = (replies ≡ []) × (nonce ≡ false)
SaysBy (Tells number) past node before now held joined nonce replies = TellsOne past node before now held nonce number replies
SaysBy Gives past node before now held joined nonce replies = GivesOne past node now joined nonce replies
SaysBy Asks past node before now held joined nonce replies = (replies ≡ form NonceGet ∷ []) × (nonce ≡ false)

-- ---- all of it

abbrev pub with_more : Past → List (List ℕ) → Past
with_more past more = record past { given = past.given ++ more }

-- a payload is heard as these steps, and then that is said; `more` are the nonces that it gives
pub record HearsAs (past : Past) (node : ℕ) (c : Courses) (device : State) (since : ℕ) (held : Held) (joined : Bool) (event : DeviceEvent) : Type 0 where
  pub hearing : Hearing
  pub more : List (List ℕ)
  pub may : MayAll (after_message c.sessions since held hearing.message) (finishes hearing.final)
  pub at : AtLock (with_more past more) (heard_by c since held joined hearing) (device_after device event)
  pub says : SaysBy hearing.reply (with_more past more) node c (heard_by c since held joined hearing) held joined hearing.nonce (device_replies device event)

-- what a first byte names is one nonce
abbrev pub NamesNonce : Courses → Held → Type 0
NamesNonce c (Up (Sealed session number)) = NamesLive c.node number
NamesNonce c (Up (Offer number)) = TakesOffer c.host number
NamesNonce c Of_host = Unit {0}
NamesNonce c (Down said) = Unit {0}
NamesNonce c Of_node = Unit {0}
