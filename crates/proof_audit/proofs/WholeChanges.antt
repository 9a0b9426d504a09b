-- What is entered is whole changes of devices, each in one piece, and entries that show none.
use Rattle.std.proofs.Common.{◌≡◌, ◌⊎◌, ℕ, zero, suc, List, [], ◌∷◌, ◌++◌, length, drop, Option, Some, None, inl, inr, refl, sym, ap, ap₂, subst, ◌∙◌, append-nil}
use Rattle.std.specs.Prelude.{slice_get, slice_set}
use Rattle.std.specs.List.{AllByRecursion}
use Rattle.std.proofs.lemmas.Grind.{flat_map-append}
use Rattle.zw_base.proofs.Each.{all-append, all-weaker}
use Rattle.device_kinds.specs.declared.change.Change.{Change}
use Rattle.device_sim.specs.State.{State}
use Rattle.device_sim.specs.Event.{DeviceEvent, device_after, device_replies}
use Rattle.route_table.specs.declared.route.Route.{Route}
use Rattle.mesh_sim.specs.Fates.{place_of}
use Rattle.mesh_sim.specs.declared.event.AirEvent.{AirEvent}
use Rattle.mesh_sim.specs.declared.event.AirEvent.TheVariants as air_event
use Rattle.zw_text.specs.declared.entry.Entry.{Entry}
use Rattle.zw_text.specs.declared.entry.Entry.TheVariants as entry
use Rattle.zw_text.specs.Transcript.{Made, made}
use Rattle.law_transcript.specs.Lists.{Has}
use Rattle.law_transcript.proofs.Having.{has_left}
use Rattle.outside_model.specs.State.{OuterState, each, tells}
use Rattle.outside_model.specs.Air.{change_at, change_entries, deals}
use Rattle.outside_model.specs.Devices.{acts, acts_at, acts_by_hand, changes_entries, device_set, new_changes, sends, set_by_hand}
use Rattle.outside_model.specs.Results.{device_at}
use Rattle.proof_headline.proofs.ChangesOutside.{TellsOne, get_set, place_is}
use Rattle.proof_headline.proofs.KeptKinds.{event_same}
use Rattle.proof_headline.proofs.Others.{IsOther, Others, ends_other, sends_other, to_chip_other}
use Rattle.proof_audit.specs.Books.{ArePieces, IsChangeOf, IsNoChange, IsPiece, Piece, piece_entries}
use Rattle.proof_audit.specs.Books.Piece.{Loose, Whole}
use Rattle.proof_transcript.proofs.CommandsOfSessions.{stands_has as at-has}

-- ---- pieces

pub no-pieces : (devices : List State) → ArePieces devices []
no-pieces devices = record { pieces = []; are = refl; all = tt }

pub pieces-then : (devices : List State) (first later : List Entry) → ArePieces devices first → ArePieces devices later → ArePieces devices (first ++ later)
pieces-then devices first later one other = record {
  pieces = one.pieces ++ other.pieces;
  are = ap₂ (λ (a b : List Entry). a ++ b) one.are other.are ∙ sym (flat_map-append piece_entries one.pieces other.pieces);
  all = all-append (IsPiece devices) one.pieces other.pieces one.all other.all;
}

no-change : (one : Entry) → IsOther one → IsNoChange one
no-change (entry.Dev node by setting) other = absurd other
no-change one other = tt

pub loose : (devices : List State) (entries : List Entry) → Others entries → ArePieces devices entries
loose devices [] others = no-pieces devices
loose devices (one ∷ entries) others =
    let rest = loose devices entries others.1 in
    record { pieces = Loose one ∷ rest.pieces; are = ap (λ (l : List Entry). one ∷ l) rest.are; all = (no-change one others.0, rest.all) }

one-change : (devices : List State) (node : ℕ) (o : Option Change) → ((change : Change) → o ≡ Some change → IsChangeOf devices node change) → ArePieces devices (change_entries node o)
one-change devices node None of = no-pieces devices
one-change devices node (Some change) of =
    record { pieces = Whole node change ∷ []; are = sym (append-nil (change_entries node (Some change))); all = (of change refl, tt) }

all-changes : (devices : List State) (node : ℕ) (changes : List Change) → AllByRecursion (IsChangeOf devices node) changes → ArePieces devices (changes_entries node changes)
all-changes devices node [] all = no-pieces devices
all-changes devices node (change ∷ changes) all =
    pieces-then devices (change_entries node (Some change)) (changes_entries node changes)
    (one-change devices node (Some change) (λ other is. let same : change ≡ other = cc in subst (IsChangeOf devices node) same all.0))
    (all-changes devices node changes all.1)

-- ---- events of the air

change-there : (devices : List State) (node at : ℕ) (place : Option ℕ) (found : Option State) (change : Change) → ((k : ℕ) (device : State) → place ≡ Some k → slice_get devices k ≡ Some device → device.node ≡ node)
    → device_at devices place ≡ found → change_at found at ≡ Some change → IsChangeOf devices node change
change-there devices node at place None change named is there = absurd cc
change-there devices node at None (Some device) change named is there = absurd cc
change-there devices node at (Some k) (Some device) change named is there =
    record { device = device; among = at-has devices k device is; of_node = named k device refl is; made = at-has device.journal at change there }

deal-pieces : (devices : List State) (o : OuterState) (event : AirEvent) → ArePieces devices (deals devices o event).entries
deal-pieces devices o (air_event.Heard frame) = loose devices (deals devices o (air_event.Heard frame)).entries (tt, tt)
deal-pieces devices o (air_event.Lost frame) = loose devices (deals devices o (air_event.Lost frame)).entries (tt, tt)
deal-pieces devices o (air_event.Unheard frame) = loose devices (deals devices o (air_event.Unheard frame)).entries (tt, tt)
deal-pieces devices o (air_event.Sent frame from to route payload) =
    loose devices (deals devices o (air_event.Sent frame from to route payload)).entries (tt, tt)
deal-pieces devices o (air_event.Changed node at) =
    one-change devices node (change_at (device_at devices (place_of node devices)) at) (λ change there.
    change-there devices node at (place_of node devices) (device_at devices (place_of node devices)) change (λ k device found is. place_is node devices k device found is) refl there)
deal-pieces devices o (air_event.ToChip frame from payload) = loose devices (deals devices o (air_event.ToChip frame from payload)).entries (to_chip_other o from payload)
deal-pieces devices o (air_event.Done frame status dead) = loose devices (deals devices o (air_event.Done frame status dead)).entries (ends_other o status dead)

pub each-pieces : (devices : List State) (o : OuterState) (events : List AirEvent) → ArePieces devices (each (deals devices) o events).entries
each-pieces devices o [] = no-pieces devices
each-pieces devices o (event ∷ events) =
    pieces-then devices (deals devices o event).entries (each (deals devices) (deals devices o event).outer events).entries (deal-pieces devices o event)
    (each-pieces devices (deals devices o event).outer events)

-- ---- a device acts

all-dropped : (P : Change → Type 0) (count : ℕ) (changes : List Change) → ((change : Change) → Has changes change → P change) → AllByRecursion P (drop count changes)
all-dropped P zero [] each-one = tt
all-dropped P zero (change ∷ changes) each-one = (each-one change (inl refl), all-dropped P zero changes (λ other has. each-one other (inr has)))
all-dropped P (suc count) [] each-one = tt
all-dropped P (suc count) (change ∷ changes) each-one = all-dropped P count changes (λ other has. each-one other (inr has))

acts-pieces : (devices : List State) (o : OuterState) (device : State) (event : DeviceEvent) (route : Option Route) → Has devices (device_after device event) → ArePieces devices (acts o device event route).entries
acts-pieces devices o device event route there =
    pieces-then devices (changes_entries device.node (new_changes device event)) (sends o device.node route (device_replies device event)).entries
    (all-changes devices device.node (new_changes device event)
    (all-dropped (IsChangeOf devices device.node) (length device.journal) (device_after device event).journal (λ change has.
    record { device = device_after device event; among = there; of_node = (event_same device event).node; made = has })))
    (loose devices (sends o device.node route (device_replies device event)).entries (sends_other o device.node route (device_replies device event)))

pub at-pieces : (o : OuterState) (devices : List State) (place : ℕ) (found : Option State) (event : DeviceEvent) (route : Option Route) → slice_get devices place ≡ found
    → ArePieces (device_set devices place found event) (acts_at o found event route).entries
at-pieces o devices place None event route is = no-pieces devices
at-pieces o devices place (Some device) event route is =
    let later = slice_set devices place (device_after device event) in
    acts-pieces later o device event route (at-has later place (device_after device event) (get_set devices place device (device_after device event) is))

pub hand-pieces : (o : OuterState) (devices : List State) (place : Option ℕ) (event : DeviceEvent) (route : Option Route)
    → ArePieces (set_by_hand devices place event) (acts_by_hand o devices place event route).entries
hand-pieces o devices None event route = loose devices (acts_by_hand o devices None event route).entries (tt, tt)
hand-pieces o devices (Some place) event route = at-pieces o devices place (slice_get devices place) event route refl

-- ---- devices go on

grown : (old new : List State) → ((device : State) → Has old device → (later : State) × Has new later × (later.node ≡ device.node) × ((change : Change) → Has device.journal change → Has later.journal change))
    → (node : ℕ) (change : Change) → IsChangeOf old node change → IsChangeOf new node change
grown old new goes node change is =
    let on = goes is.device is.among in record { device = on.0; among = on.1; of_node = on.2 ∙ is.of_node; made = on.3 change is.made }

grown-piece : (old new : List State) → ((node : ℕ) (change : Change) → IsChangeOf old node change → IsChangeOf new node change) → (piece : Piece) → IsPiece old piece → IsPiece new piece
grown-piece old new goes (Loose one) is = is
grown-piece old new goes (Whole node change) is = goes node change is

pub pieces-on : (old new : List State) (entries : List Entry) → ((node : ℕ) (change : Change) → IsChangeOf old node change → IsChangeOf new node change) → ArePieces old entries → ArePieces new entries
pieces-on old new entries goes are = record { pieces = are.pieces; are = are.are; all = all-weaker (IsPiece old) (IsPiece new) (grown-piece old new goes) are.pieces are.all }

-- a device that was set at a place, or any other
set-has : (devices : List State) (place : ℕ) (stood other device : State) → slice_get devices place ≡ Some stood → Has devices device → (device ≡ stood) ⊎ Has (slice_set devices place other) device
set-has [] place stood other device at has = absurd has
set-has (first ∷ devices) zero stood other device at (inl is) = let same : first ≡ stood = cc in inl (sym is ∙ same)
set-has (first ∷ devices) zero stood other device at (inr has) = inr (inr has)
set-has (first ∷ devices) (suc place) stood other device at (inl is) = inr (inl is)
set-has (first ∷ devices) (suc place) stood other device at (inr has) = elim (set-has devices place stood other device at has) [
  | inl same ↦ inl same
  | inr there ↦ inr (inr there)
]

abbrev pub JournalsGrow : Type 0
JournalsGrow = (device : State) (event : DeviceEvent) → (device_after device event).journal ≡ device.journal ++ new_changes device event

pub tells-grow : JournalsGrow → (says : ℕ → List Made) (old new : List State) → TellsOne says old new → (node : ℕ) (change : Change) → IsChangeOf old node change → IsChangeOf new node change
tells-grow grow says old new (inl (still, none)) node change is = subst (λ (l : List State). IsChangeOf l node change) (sym still) is
tells-grow grow says old new (inr tells) node change is = grown old new on node change is
  where
    later : State
    later = device_after tells.device tells.event

    there : Has new later
    there = subst (λ (l : List State). Has l later) (sym tells.stands)
        (at-has (slice_set old tells.place later) tells.place later (get_set old tells.place tells.device later tells.stood))

    on : (device : State) → Has old device → (next : State) × Has new next × (next.node ≡ device.node) × ((one : Change) → Has device.journal one → Has next.journal one)
    on device has = elim (set-has old tells.place tells.device later device tells.stood has) [
      | inl same ↦ (
        later,
        there,
        (event_same tells.device tells.event).node ∙ ap (λ (d : State). d.node) (sym same),
        (λ one made_it. subst (λ (l : List Change). Has l one) (sym (grow tells.device tells.event))
            (has_left tells.device.journal (new_changes tells.device tells.event) one (subst (λ (d : State). Has d.journal one) same made_it))),
      )
      | inr stays ↦ (device, subst (λ (l : List State). Has l device) (sym tells.stands) stays, refl, (λ one made_it. made_it))
    ]
