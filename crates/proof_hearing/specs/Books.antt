-- How the books of a course stand to a host alone (Security 0 Command Class; how nonces are counted is this project's own rule): the nonces that it gave each node and those that wait to be
-- given, what it has to seal for each, and what was offered, opened and sealed so far.
use Rattle.std.specs.Prelude.{◌≡◌, ◌⊎◌, ◌≤◌, ℕ, ◌==◌, is_some, if◌then◌else◌, true, List, [], ◌∷◌, length, map, Some, None}
use Rattle.std.specs.List.{AllByRecursion, flat_map}
use Rattle.chip_functions.specs.Field.{IsNode}
use Rattle.supervision.specs.Host.{command_at as command_of_session, open_session}
use Rattle.s0_session.specs.declared.account.Account.{Account}
use Rattle.s0_session.specs.Nonces.{given_of, live_of}
use Rattle.zw_text.specs.declared.entry.Entry.{Entry}
use Rattle.law_time.specs.Heeds.{Heeds}
use Rattle.host_requests.specs.declared.task.Task.{Task}
use Rattle.host_requests.specs.declared.task.Task.TheVariants.{Offer as waits_offer}
use Rattle.host_keep.specs.Kept.{Taken}
use Rattle.host_orders.specs.Wrapping.{form_of}
use Rattle.host_orders.specs.declared.carriage.Form.TheVariants.{Sealed}
use Rattle.host_model.specs.State.{HostState, node_of}
use Rattle.proof_host.specs.Tables.{taken_at}
use Rattle.proof_messages.specs.Hosts.{HasTexts}
use Rattle.proof_choice.specs.proof_ends.proof_requests.law_host.Course.{Book, Course, Giver, Offer, Opening, Ready, Seal, Sealer, book_of}
use Rattle.proof_choice.specs.proof_ends.proof_requests.law_host.Nonces.{IsOffer, IsOpening, IsSeal, is_late, nonce_with}
use Rattle.proof_choice.specs.proof_ends.proof_nonces.Counted.{LiveSo}

-- ---- what is given

-- the nonces that wait to be given to a node, in order
abbrev pub nonce_to : ℕ → Task → List (List ℕ)
nonce_to node (waits_offer n nonce) = if n == node then nonce ∷ [] else []
nonce_to node task = []

abbrev pub nonces_to : ℕ → List Task → List (List ℕ)
nonces_to node queue = flat_map (nonce_to node) queue

-- how many were given to a node, whether the last is live, and the numbers of those that wait
pub record GiverSo (drawn : ℕ → ℕ → List ℕ) (node : ℕ) (h : HostState) (giver : Giver) : Type 0 where
  pub given : giver.given ≡ given_of h.nonces node
  pub live : giver.live ≡ is_some (live_of h.nonces node)
  pub offers : nonces_to node h.requests.queue ≡ map (nonce_with drawn node) giver.offers
  pub low : AllByRecursion (λ number. number ≤ given_of h.nonces node) giver.offers

-- ---- what is sealed

-- a text of the host is sealed for the nonce that is ready
pub record IsReady (key : List ℕ) (node : ℕ) (sealer : Sealer) (text : List ℕ) : Type 0 where
  pub one : Ready
  pub is : sealer.ready ≡ one ∷ []
  pub seal : IsSeal key (record { node = node; ready = one; payload = text })

-- the session of a node that is open is of a command that is carried sealed
pub record SealedOpen (h : HostState) (node : ℕ) : Type 0 where
  pub session : ℕ
  pub opened : open_session (node_of h node).book ≡ Some session
  pub number : ℕ
  pub at : command_of_session (node_of h node).book.commands session ≡ Some number
  pub taken : Taken
  pub found : taken_at h.commands number ≡ Some taken
  pub form : form_of taken.carriage.outer ≡ Sealed

-- the text and the plain text that wait in the host are those of the book, which may have one more of an attempt that is over
pub record SealerSo (key : List ℕ) (heeds : Heeds) (past : List Entry) (node : ℕ) (h : HostState) (sealer : Sealer) : Type 0 where
  pub seen : sealer.seen ≡ (node_of h node).seen
  pub texts : HasTexts (IsReady key node sealer) (λ plain. sealer.pending ≡ plain ∷ []) (node_of h node)
  pub waits : (node_of h node).pending ≡ None → (sealer.pending ≡ []) ⊎ ((is_late heeds past node ≡ true) × SealedOpen h node)

-- ---- what was offered and opened

-- for a nonce that was given
pub record IsLowOffer (drawn : ℕ → ℕ → List ℕ) (nonces : List Account) (offer : Offer) : Type 0 where
  pub is : IsOffer drawn offer
  pub low : offer.number ≤ given_of nonces offer.node

pub record IsLowOpening (key : List ℕ) (drawn : ℕ → ℕ → List ℕ) (nonces : List Account) (opening : Opening) : Type 0 where
  pub is : IsOpening key drawn opening
  pub low : opening.number ≤ given_of nonces opening.node

-- ---- all books

pub record BooksOf (key : List ℕ) (heeds : Heeds) (past : List Entry) (h : HostState) (books : List Book) (offered : List Offer) (opened : List Opening) (sealed : List Seal) : Type 0 where
  pub drawn : ℕ → ℕ → List ℕ
  pub seven : (node number : ℕ) → length (drawn node number) ≡ 7
  pub live : LiveSo drawn h.nonces
  pub givers : (node : ℕ) → IsNode node → GiverSo drawn node h (book_of node books).giver
  pub sealers : (node : ℕ) → IsNode node → SealerSo key heeds past node h (book_of node books).sealer
  pub were_offered : AllByRecursion (IsLowOffer drawn h.nonces) offered
  pub were_opened : AllByRecursion (IsLowOpening key drawn h.nonces) opened
  pub were_sealed : AllByRecursion (IsSeal key) sealed

abbrev pub BooksSo : List ℕ → Heeds → List Entry → HostState → Course → Type 0
BooksSo key heeds past h course = BooksOf key heeds past h course.books course.offered course.opened course.sealed
