-- What the steps of the chip's link at an event add to its course: the frames that it submits are those that it begins, and each frame that it passes up is answered ACK.
use Rattle.std.proofs.Common.{◌≡◌, ℕ, ◌+◌, ◌==◌, Bool, true, false, if◌then◌else◌, nat_lt, List, [], ◌∷◌, ◌++◌, map, filter, length, refl, sym, ap, ap₂, ◌∙◌, append-nil, length-append, arith}
use Rattle.std.specs.List.{flat_map, AllByRecursion}
use Rattle.std.proofs.lemmas.List.{map-append}
use Rattle.std.proofs.lemmas.List.Elements.{filter-append}
use Rattle.std.proofs.lemmas.Grind.{flat_map-append}
use Rattle.zw_base.proofs.Each.{all-append}
use Rattle.serial_frame.specs.Frame.{FrameParts}
use Rattle.serial_frame.specs.Items.{unit_text}
use Rattle.serial_frame.specs.declared.unit.Unit.{Unit as LineUnit}
use Rattle.serial_frame.specs.declared.unit.Unit.TheVariants.{Ack, Nak, Can, Framed}
use Rattle.serial_frame.specs.declared.item.Item.{Item}
use Rattle.serial_frame.specs.declared.item.Item.TheVariants.{Good, Refused}
use Rattle.serial_frame.specs.declared.item.Refusal.TheVariants.{Stray, BadLength, BadSum, BadKind, Aborted}
use Rattle.serial_link.specs.State.{answer, hear_outs, outs_acknowledged, outs_ended, outs_heard, outs_refused, outs_ticked, pause_after}
use Rattle.serial_link.specs.Rules.{Event, heard as hears, ticked, submitted, asked as asks_collision, Step, outs_of}
use Rattle.serial_link.specs.Calls.{submit_step}
use Rattle.serial_link.specs.declared.out.LinkOut.{LinkOut}
use Rattle.serial_link.specs.declared.out.LinkOut.TheVariants.{Write, Failed}
use Rattle.serial_link.specs.declared.turn.Turn.{Turn}
use Rattle.serial_link.specs.declared.turn.Turn.TheVariants.{Idle, Copied, Paused}
use Rattle.serial_link.proofs.Counting.{outs_of-append}
use Rattle.chip_sim.specs.State.{ChipState}
use Rattle.chip_sim.specs.Events.{ChipEvent, Judged, Ticked, Heard, Done, Informed, Joined, Linked, Forgets, Collides}
use Rattle.chip_sim.specs.Link.{link_event, link_steps, link_unit, link_units}
use Rattle.chip_sim.specs.Rules.{begun_at}
use Rattle.law_wire.specs.Asked.{course_of, is_ack, is_first, passed_by}
use Rattle.proof_chip.specs.Serving.{frame_texts, submitted_at, submitted_in, unit_texts}
use Rattle.proof_chip.proofs.Picking.{IsCopy, picked, picked_both, picks_none}

-- ---- steps one after another

abbrev pub firsts_of : List Step → List Bool
firsts_of steps = (course_of steps).firsts

abbrev pub passed_of : List Step → List FrameParts
passed_of steps = (course_of steps).passed

pub firsts_both : (a b : List Step) → firsts_of (a ++ b) ≡ firsts_of a ++ firsts_of b
firsts_both a b = flat_map-append (λ (step : Step). flat_map (is_first step.event) step.outs) a b

pub passed_both : (a b : List Step) → passed_of (a ++ b) ≡ passed_of a ++ passed_of b
passed_both a b = ap (λ (l : List LinkOut). flat_map passed_by l) (outs_of-append a b) ∙ flat_map-append passed_by (outs_of a) (outs_of b)

units_both : (a b : List Step) → link_units (a ++ b) ≡ link_units a ++ link_units b
units_both a b = ap (λ (l : List LinkOut). flat_map link_unit l) (outs_of-append a b) ∙ flat_map-append link_unit (outs_of a) (outs_of b)

pub texts_both : (a b : List Step) → unit_texts (a ++ b) ≡ unit_texts a ++ unit_texts b
texts_both a b = ap (λ (l : List LineUnit). map (λ (unit : LineUnit). unit_text unit) l) (units_both a b) ∙ map-append (λ (unit : LineUnit). unit_text unit) (link_units a) (link_units b)

pub submitted_both : (a b : List Step) → submitted_in (a ++ b) ≡ submitted_in a ++ submitted_in b
submitted_both a b = flat_map-append (λ (step : Step). submitted_at step.event) a b

-- ---- each unit is a first copy, or none

one_of : (event : Event) (out : LinkOut) → length (is_first event out) ≡ length (link_unit out)
one_of (hears item) (Write unit) = refl
one_of (hears item) _ = refl
one_of ticked (Write unit) = refl
one_of ticked _ = refl
one_of (submitted f) (Write unit) = refl
one_of (submitted f) _ = refl
one_of asks_collision (Write unit) = refl
one_of asks_collision _ = refl

as_many_of : (event : Event) (outs : List LinkOut) → length (flat_map (is_first event) outs) ≡ length (flat_map link_unit outs)
as_many_of event [] = refl
as_many_of event (out ∷ outs) =
    let here = one_of event out in
    let later = as_many_of event outs in
    omega (arith, here, later, length-append (is_first event out) (flat_map (is_first event) outs), length-append (link_unit out) (flat_map link_unit outs))

as_many_units : (steps : List Step) → length (firsts_of steps) ≡ length (link_units steps)
as_many_units [] = refl
as_many_units (step ∷ steps) =
    let here = as_many_of step.event step.outs in
    let later = as_many_units steps in
    omega (
      arith,
      here,
      later,
      length-append (flat_map (is_first step.event) step.outs) (firsts_of steps),
      length-append (flat_map link_unit step.outs) (link_units steps),
      ap length (flat_map-append link_unit step.outs (outs_of steps)),
    )

many_texts : (units : List LineUnit) → length (map (λ (unit : LineUnit). unit_text unit) units) ≡ length units
many_texts [] = refl
many_texts (unit ∷ units) = let rest = many_texts units in omega (arith, rest)

pub as_many : (steps : List Step) → length (firsts_of steps) ≡ length (unit_texts steps)
as_many steps = as_many_units steps ∙ sym (many_texts (link_units steps))

-- ---- frames that are submitted

abbrev pub submits : List FrameParts → List Step
submits frames = map (λ (f : FrameParts). submit_step f) frames

submits_begin : (frames : List FrameParts) → picked (firsts_of (submits frames)) (unit_texts (submits frames)) ≡ frame_texts frames
submits_begin [] = refl
submits_begin (f ∷ frames) = ap (λ (l : List (List ℕ)). unit_text (Framed f) ∷ l) (submits_begin frames)

submitted_are : (frames : List FrameParts) → submitted_in (submits frames) ≡ frames
submitted_are [] = refl
submitted_are (f ∷ frames) = ap (λ (l : List FrameParts). f ∷ l) (submitted_are frames)

-- ---- what else happens to the link

copies_heard : (item : Item) (outs : List LinkOut) → AllByRecursion IsCopy (flat_map (is_first (hears item)) outs)
copies_heard item [] = tt
copies_heard item (Write unit ∷ outs) = (refl, copies_heard item outs)
copies_heard item (out ∷ outs) = copies_heard item outs

copies_ticked : (outs : List LinkOut) → AllByRecursion IsCopy (flat_map (is_first ticked) outs)
copies_ticked [] = tt
copies_ticked (Write unit ∷ outs) = (refl, copies_ticked outs)
copies_ticked (out ∷ outs) = copies_ticked outs

event_copies : (s : ChipState) (e : ChipEvent) → AllByRecursion IsCopy (firsts_of (link_event s e))
event_copies s (Judged item way) = all-append IsCopy (flat_map (is_first (hears item)) (hear_outs s.port.side item)) [] (copies_heard item (hear_outs s.port.side item)) tt
event_copies s Ticked = all-append IsCopy (flat_map (is_first ticked) (outs_ticked s.port.side.turn)) [] (copies_ticked (outs_ticked s.port.side.turn)) tt
event_copies s (Heard n payload) = tt
event_copies s (Done status) = tt
event_copies s (Informed n profile) = tt
event_copies s (Joined n listening) = tt
event_copies s (Linked a b live) = tt
event_copies s (Forgets a b) = tt
event_copies s Collides = tt

event_submits : (s : ChipState) (e : ChipEvent) → submitted_in (link_event s e) ≡ []
event_submits s (Judged item way) = refl
event_submits s Ticked = refl
event_submits s (Heard n payload) = refl
event_submits s (Done status) = refl
event_submits s (Informed n profile) = refl
event_submits s (Joined n listening) = refl
event_submits s (Linked a b live) = refl
event_submits s (Forgets a b) = refl
event_submits s Collides = refl

-- ---- all steps of an event

pub steps_submit : (s : ChipState) (e : ChipEvent) → submitted_in (link_steps s e) ≡ begun_at s e
steps_submit s e =
    submitted_both (link_event s e) (submits (begun_at s e)) ∙ ap₂ (λ (a b : List FrameParts). a ++ b) (event_submits s e) (submitted_are (begun_at s e))

pub steps_begin : (s : ChipState) (e : ChipEvent) → picked (firsts_of (link_steps s e)) (unit_texts (link_steps s e)) ≡ frame_texts (begun_at s e)
steps_begin s e =
    let one : List Step = link_event s e in
    let more : List Step = submits (begun_at s e) in
    ap₂ (λ (flags : List Bool) (xs : List (List ℕ)). picked flags xs) (firsts_both one more) (texts_both one more)
    ∙ picked_both (firsts_of one) (firsts_of more) (unit_texts one) (unit_texts more) (as_many one)
    ∙ ap₂ (λ (a b : List (List ℕ)). a ++ b) (picks_none (firsts_of one) (event_copies s e) (unit_texts one)) (submits_begin (begun_at s e))

-- where none is begun, none of its units is a first copy
pub steps_copy : (s : ChipState) (e : ChipEvent) → begun_at s e ≡ [] → (units : List (List ℕ)) → picked (firsts_of (link_steps s e)) units ≡ []
steps_copy s e none units =
    ap (λ (frames : List FrameParts). picked (firsts_of (link_event s e ++ submits frames)) units) none
    ∙ ap (λ (l : List Step). picked (firsts_of l) units) (append-nil (link_event s e))
    ∙ picks_none (firsts_of (link_event s e)) (event_copies s e) units

-- ---- frames that are passed up

abbrev acks_in : List LinkOut → ℕ
acks_in outs = length (filter is_ack (map (λ (unit : LineUnit). unit_text unit) (flat_map link_unit outs)))

-- as many as are answered ACK
abbrev AreEven : List LinkOut → Type 0
AreEven outs = length (flat_map passed_by outs) ≡ acks_in outs

even_both : (a b : List LinkOut) → AreEven a → AreEven b → AreEven (a ++ b)
even_both a b first later =
    let passed = ap length (flat_map-append passed_by a b) ∙ length-append (flat_map passed_by a) (flat_map passed_by b) in
    let acked : acks_in (a ++ b) ≡ acks_in a + acks_in b =
    ap (λ (l : List LineUnit). length (filter is_ack (map (λ (unit : LineUnit). unit_text unit) l))) (flat_map-append link_unit a b)
    ∙ ap (λ (l : List (List ℕ)). length (filter is_ack l)) (map-append (λ (unit : LineUnit). unit_text unit) (flat_map link_unit a) (flat_map link_unit b))
    ∙ ap length (filter-append is_ack (map (λ (unit : LineUnit). unit_text unit) (flat_map link_unit a)) (map (λ (unit : LineUnit). unit_text unit) (flat_map link_unit b)))
    ∙ length-append (filter is_ack (map (λ (unit : LineUnit). unit_text unit) (flat_map link_unit a))) (filter is_ack (map (λ (unit : LineUnit). unit_text unit) (flat_map link_unit b))) in
    omega (arith, passed, acked, first, later)

even_answer : (b : Bool) (item : Item) → AreEven (answer b item)
even_answer b (Good Ack) = refl
even_answer b (Good Nak) = refl
even_answer b (Good Can) = refl
even_answer true (Good (Framed f)) = refl
even_answer false (Good (Framed f)) = refl
even_answer b (Refused (Stray x)) = refl
even_answer b (Refused (BadLength n)) = refl
even_answer b (Refused (BadSum want got)) = refl
even_answer b (Refused (BadKind x)) = refl
even_answer b (Refused Aborted) = refl

even_if : (b : Bool) (outs : List LinkOut) → AreEven outs → AreEven (if b then outs else [])
even_if true outs even = even
even_if false outs even = refl

even_ended : (copies : ℕ) → AreEven (outs_ended copies)
even_ended copies = even_if (copies == 4) (Failed 4 ∷ []) refl

even_acknowledged : (turn : Turn) → AreEven (outs_acknowledged turn)
even_acknowledged Idle = refl
even_acknowledged (Copied f copies ticks) = refl
even_acknowledged (Paused f copies ticks) = refl

even_refused : (turn : Turn) → AreEven (outs_refused turn)
even_refused Idle = refl
even_refused (Copied f copies ticks) = even_ended copies
even_refused (Paused f copies ticks) = refl

even_heard : (turn : Turn) (item : Item) → AreEven (outs_heard turn item)
even_heard turn (Good Ack) = even_acknowledged turn
even_heard turn (Good Nak) = even_refused turn
even_heard turn (Good Can) = even_refused turn
even_heard turn (Good (Framed f)) = refl
even_heard turn (Refused r) = refl

even_ticked : (turn : Turn) → AreEven (outs_ticked turn)
even_ticked Idle = refl
even_ticked (Copied f copies ticks) = even_if (ticks == 14) (outs_ended copies) (even_ended copies)
even_ticked (Paused f copies ticks) = even_if (ticks + 1 == pause_after copies) (Write (Framed f) ∷ []) refl

even_submits : (frames : List FrameParts) → AreEven (outs_of (submits frames))
even_submits [] = refl
even_submits (f ∷ frames) = even_both (Write (Framed f) ∷ []) (outs_of (submits frames)) refl (even_submits frames)

even_event : (s : ChipState) (e : ChipEvent) → AreEven (outs_of (link_event s e))
even_event s (Judged item way) =
    even_both (hear_outs s.port.side item) []
    (even_both (answer (nat_lt 0 s.port.side.collisions) item) (outs_heard s.port.side.turn item) (even_answer (nat_lt 0 s.port.side.collisions) item) (even_heard s.port.side.turn item)) refl
even_event s Ticked = even_both (outs_ticked s.port.side.turn) [] (even_ticked s.port.side.turn) refl
even_event s (Heard n payload) = refl
even_event s (Done status) = refl
even_event s (Informed n profile) = refl
even_event s (Joined n listening) = refl
even_event s (Linked a b live) = refl
even_event s (Forgets a b) = refl
even_event s Collides = refl

pub steps_pass : (s : ChipState) (e : ChipEvent) → length (passed_of (link_steps s e)) ≡ length (filter is_ack (unit_texts (link_steps s e)))
steps_pass s e =
    let both = outs_of-append (link_event s e) (submits (begun_at s e)) in
    ap (λ (l : List LinkOut). length (flat_map passed_by l)) both
    ∙ even_both (outs_of (link_event s e)) (outs_of (submits (begun_at s e))) (even_event s e) (even_submits (begun_at s e))
    ∙ sym (ap acks_in both)
