-- A unit that the host writes: what arrives of it by the transcript asks to be sent all that the item asks which is then on its way to the chip.
use Rattle.std.proofs.Common.{◌≡◌, ◌≤◌, ℕ, ◌&&◌, Bool, true, false, if◌then◌else◌, List, [], ◌∷◌, ◌++◌, length, nat_lt, nat_le, ◌+◌, ◌-◌, refl, sym, ap, subst, ◌∙◌, append_assoc, append-nil, length-append, arith}
use Rattle.std.specs.Prelude.{bytes_eq}
use Rattle.std.proofs.lemmas.Bool.{and_from, and_parts, cond-true, le-leb}
use Rattle.std.proofs.lemmas.Grind.{flat_map-append}
use Rattle.std.proofs.lemmas.List.{take_at}
use Rattle.std.proofs.lemmas.Slice.Eq.{bytes_eq-Decides}
use Rattle.std.specs.List.{flat_map, AllByRecursion}
use Rattle.zw_base.proofs.Each.{all-weaker}
use Rattle.chip_functions.specs.Request.{request_of}
use Rattle.serial_frame.specs.Frame.{checksum, framed, kind_code}
use Rattle.serial_frame.specs.declared.frame.Kind.{Kind}
use Rattle.serial_frame.specs.declared.frame.Kind.TheVariants.{Request as of_request, Response as of_response}
use Rattle.serial_frame.specs.Items.{unit_text, IsUnit, ItemText}
use Rattle.serial_frame.specs.declared.unit.Unit.{Unit as LineUnit}
use Rattle.serial_frame.specs.declared.unit.Unit.TheVariants.{Ack, Nak, Can, Framed}
use Rattle.serial_frame.specs.declared.item.Item.{Item}
use Rattle.serial_frame.specs.declared.item.Item.TheVariants.{Good, Refused}
use Rattle.serial_pipes.specs.State.{WayState, change_for, fits, garbled, mark_for, overrun}
use Rattle.serial_pipes.specs.Events.{Writes, told, told_by}
use Rattle.serial_pipes.specs.Events as way
use Rattle.serial_pipes.specs.declared.marks.Garble.{Garble}
use Rattle.serial_pipes.specs.declared.marks.Mark.TheVariants.{Lost}
use Rattle.zw_words.specs.declared.side.Side.TheVariants.{Host as by_host}
use Rattle.zw_text.specs.declared.entry.Entry.{Entry}
use Rattle.zw_text.specs.declared.entry.Entry.TheVariants as entry
use Rattle.zw_text.specs.Transcript.{Unit_on, Way, folded, last_with, unit_step, units}
use Rattle.zw_text.specs.Transcript.Way.{Whole, Missed, Changed}
use Rattle.zw_text.proofs.Views.{folded-append}
use Rattle.law_host.specs.law_transcript.Lists.{EachAfter}
use Rattle.law_host.specs.law_transcript.Units.{Carried, arrived_of, function_in, read_well, sending_in, sending_of}
use Rattle.law_host.specs.law_transcript.Carrying.{ArePicked, MaySend, asked, asked_by, asked_in, body_of, frame_text, is_request, sent_out}
use Rattle.proof_spoken.proofs.Entered.{IsMark, told_by_marks}
use Rattle.proof_air.proofs.Lists.{each-anywhere}
use Rattle.proof_air.specs.outside_model.State.{OuterState}
use Rattle.proof_spoken.specs.proof_serial.Way.{changed_item, items_of, unit_item}
use Rattle.proof_spoken.proofs.ChangedUnits.{changed_text}
use Rattle.proof_spoken.proofs.Ways.{carries_more, same_room}
use Rattle.proof_air.proofs.Bodies.{body_is}
use Rattle.proof_transcript.specs.Carrying.{Underway, sends_in, sends_of}
use Rattle.proof_transcript.proofs.Picked.{IsNoFrame, asked-append, same_sent}
use Rattle.proof_air.proofs.Picked.{picked_same}
use Rattle.proof_air.proofs.Picked.{picked_both}

-- ---- the last unit

-- what became of it is said later
last_is : (way : Way) (us : List Unit_on) (u : Unit_on) → last_with way (us ++ u ∷ []) ≡ us ++ record { bytes = u.bytes; way = way } ∷ []
last_is way [] u = refl
last_is way (first ∷ []) u = refl
last_is way (first ∷ (next ∷ us)) u = ap (λ (l : List Unit_on). first ∷ l) (last_is way (next ∷ us) u)

-- From these units on the entries leave all that was asked for before, and more that the items are picked of.
abbrev AsksMore : List Unit_on → List Unit_on → List Entry → List Item → Type 0
AsksMore us now told items = (more : List Carried) × (asked_in (folded (unit_step by_host) now told) ≡ asked_in us ++ more) × ArePicked (sends_of items) more

-- ---- a request frame, whole

-- a request is read as its function and body say
request_asks : (func : ℕ) (body : List ℕ) (sum : ℕ) → sending_in (framed (0 ∷ func ∷ body) sum) ≡ flat_map sending_of (read_well (request_of func body))
request_asks func body sum = ap (λ (b : List ℕ). flat_map sending_of (read_well (request_of func b))) (body_is body func sum)

-- the text of a request
abbrev requested : ℕ → List ℕ → List ℕ
requested func body = framed (0 ∷ func ∷ body) (checksum (0 ∷ func ∷ body))

-- what is the whole text of a request asks what it is taken to ask
whole_asks : (unit : List ℕ) → is_request unit ≡ true → asked_by unit ≡ sending_in unit
whole_asks unit whole =
    cond-true (is_request unit) (flat_map sending_of (read_well (request_of (function_in unit) (body_of unit)))) [] whole
    ∙ (sym (request_asks (function_in unit) (body_of unit) (checksum (0 ∷ function_in unit ∷ body_of unit)))
    ∙ ap sending_in ((bytes_eq-Decides (frame_text unit) unit).0 (equal_if (nat_le 5 (length unit)) (nat_le (length unit) 257) (bytes_eq (frame_text unit) unit) whole)))
  where
    equal_if : (a b c : Bool) → (a && (b && c)) ≡ true → c ≡ true
    equal_if a b c all = (and_parts b c ((and_parts a (b && c) all).1)).1

-- the text of a request is whole
request_long : (func : ℕ) (body : List ℕ) → length (requested func body) ≡ length body + 5
request_long func body =
    let more : length (body ++ (checksum (0 ∷ func ∷ body) ∷ [])) ≡ length body + 1 = length-append body (checksum (0 ∷ func ∷ body) ∷ []) in
    omega (arith, more)

request_body : (func : ℕ) (body : List ℕ) → body_of (requested func body) ≡ body
request_body func body = take_at body (checksum (0 ∷ func ∷ body) ∷ []) (length (requested func body) - 5) (omega (arith, request_long func body))

request_whole : (func : ℕ) (body : List ℕ) → length body ≤ 252 → is_request (requested func body) ≡ true
request_whole func body few =
    let unit : List ℕ = requested func body in
    and_from (nat_le 5 (length unit)) (nat_le (length unit) 257 && bytes_eq (frame_text unit) unit) (le-leb 5 (length unit) (omega (arith, request_long func body)))
    (and_from (nat_le (length unit) 257) (bytes_eq (frame_text unit) unit) (le-leb (length unit) 257 (omega (arith, request_long func body, few)))
    ((bytes_eq-Decides (frame_text unit) unit).1 (ap (λ (b : List ℕ). requested func b) (request_body func body))))

frame_asks : (kind : Kind) (func : ℕ) (body : List ℕ) → length body ≤ 252
    → ArePicked (sending_in (framed (kind_code kind ∷ func ∷ body) (checksum (kind_code kind ∷ func ∷ body)))) (asked_by (framed (kind_code kind ∷ func ∷ body) (checksum (kind_code kind ∷ func ∷ body))))
frame_asks of_request func body few =
    subst (λ (l : List Carried). ArePicked l (asked_by (requested func body))) (whole_asks (requested func body) (request_whole func body few)) (picked_same (asked_by (requested func body)))
frame_asks of_response func body few = tt

unit_asks_whole : (unit : LineUnit) → IsUnit unit → ArePicked (sending_in (unit_text unit)) (asked_by (unit_text unit))
unit_asks_whole Ack is = tt
unit_asks_whole Nak is = tt
unit_asks_whole Can is = tt
unit_asks_whole (Framed f) is = frame_asks f.kind f.func f.body is

-- the item of a text asks what the text asks
item_asks : (item : Item) (text : List ℕ) → ItemText item text → ArePicked (sends_in item) (asked_by text)
item_asks (Good unit) text is = subst (λ (t : List ℕ). ArePicked (sending_in (unit_text unit)) (asked_by t)) (sym is.1) (unit_asks_whole unit is.0)
item_asks (Refused refusal) text is = tt

-- nothing of it arrives
misses : (us : List Unit_on) (u : Unit_on) → asked_in (last_with Missed (us ++ u ∷ [])) ≡ asked_in us ++ []
misses us u = ap (λ (l : List Unit_on). asked_in l) (last_is Missed us u) ∙ asked-append us (record { bytes = u.bytes; way = Missed } ∷ [])

-- a text that finds room, or none
joins : (us : List Unit_on) (u : Unit_on) (text : List ℕ) (item : Item) (room : Bool) → arrived_of u.bytes u.way ≡ text ∷ [] → ItemText item text
    → AsksMore us (us ++ u ∷ []) (if room then [] else entry.Overrun by_host ∷ []) (if room then item ∷ [] else [])
joins us u text item true arrives is = (
  asked_in (u ∷ []),
  asked-append us (u ∷ []),
  subst (λ (l : List (List ℕ)). ArePicked (sends_of (item ∷ [])) (flat_map asked_by l ++ [])) (sym arrives)
      (picked_both (sends_in item) [] (asked_by text ++ []) []
      (subst (λ (l : List Carried). ArePicked (sends_in item) l) (sym (append-nil (asked_by text))) (item_asks item text is)) tt),
)
joins us u text item false arrives is = ([], misses us u, tt)

-- a unit that is to be lost
loses : (us : List Unit_on) (u : Unit_on) (room : Bool) → AsksMore us (us ++ u ∷ []) (entry.Dropped by_host ∷ []) (if room then [] else [])
loses us u true = ([], misses us u, tt)
loses us u false = ([], misses us u, tt)

-- one that is not
stays : (us : List Unit_on) (bytes : List ℕ) (garbles : List Garble) (unit : LineUnit) → IsUnit unit
    → AsksMore us (us ++ record { bytes = unit_text unit; way = Whole } ∷ []) (told_by by_host bytes (change_for garbles unit) (unit_text unit))
    (if fits bytes (unit_text unit) then unit_item garbles unit ∷ [] else [])
stays us bytes garbles Ack is = joins us (record { bytes = unit_text Ack; way = Whole }) (unit_text Ack) (Good Ack) (fits bytes (unit_text Ack)) refl (tt, refl)
stays us bytes garbles Nak is = joins us (record { bytes = unit_text Nak; way = Whole }) (unit_text Nak) (Good Nak) (fits bytes (unit_text Nak)) refl (tt, refl)
stays us bytes garbles Can is = joins us (record { bytes = unit_text Can; way = Whole }) (unit_text Can) (Good Can) (fits bytes (unit_text Can)) refl (tt, refl)
stays us bytes [] (Framed f) is =
    joins us (record { bytes = unit_text (Framed f); way = Whole }) (unit_text (Framed f)) (Good (Framed f)) (fits bytes (unit_text (Framed f))) refl (is, refl)
stays us bytes (garble ∷ garbles) (Framed f) is =
    let text : List ℕ = unit_text (Framed f) in
    let other : List ℕ = garbled garble text in
    let changed : Unit_on = record { bytes = text; way = Changed other } in
    subst (λ (now : List Unit_on). AsksMore us now (overrun by_host bytes other) (if fits bytes text then changed_item garble f ∷ [] else []))
    (sym (last_is (Changed other) us (record { bytes = text; way = Whole })))
    (subst (λ (b : Bool). AsksMore us (us ++ changed ∷ []) (overrun by_host bytes other) (if b then changed_item garble f ∷ [] else [])) (same_room garble bytes text)
    (joins us changed other (changed_item garble f) (fits bytes other) refl (changed_text f garble is)))

unit_asks : (us : List Unit_on) (w : WayState) (unit : LineUnit) → IsUnit unit → AsksMore us us (told by_host w unit) (items_of w unit)
unit_asks us w unit is = by (nat_lt 0 w.marks.drops)
  where
    by : (lost : Bool) → AsksMore us (us ++ record { bytes = unit_text unit; way = Whole } ∷ [])
        (told_by by_host w.bytes (if lost then Lost else change_for w.marks.garbles unit) (unit_text unit))
        (if fits w.bytes (unit_text unit) then (if lost then [] else unit_item w.marks.garbles unit ∷ []) else [])
    by true = loses us (record { bytes = unit_text unit; way = Whole }) (fits w.bytes (unit_text unit))
    by false = stays us w.bytes w.marks.garbles unit is

-- ---- what is on its way to the chip

mark_free : (past : List Entry) (e : Entry) → IsMark e → MaySend past e
mark_free past (entry.Air frame sender receiver repeaters payload) mark = absurd mark
mark_free past e mark = tt

mark_no_frame : (e : Entry) → IsMark e → IsNoFrame e
mark_no_frame (entry.Air frame sender receiver repeaters payload) mark = absurd mark
mark_no_frame e mark = tt

-- with the unit more is on its way
pub unit_goes : (o : OuterState) (unit : LineUnit) → IsUnit unit → (past : List Entry) → Underway past o
    → EachAfter MaySend past (told by_host o.to_chip unit) × Underway (past ++ told by_host o.to_chip unit) (record o { to_chip = way.after o.to_chip (Writes unit) })
unit_goes o unit is past under =
    let entered : List Entry = told by_host o.to_chip unit in
    let marks : List Entry = told_by by_host o.to_chip.bytes (mark_for o.to_chip.marks unit) (unit_text unit) in
    let are_marks : AllByRecursion IsMark marks = told_by_marks by_host o.to_chip.bytes (mark_for o.to_chip.marks unit) (unit_text unit) in
    let items : List Item = items_of o.to_chip unit in
    let more = unit_asks (units by_host past) o.to_chip unit is in
    let all_asked : asked (past ++ entered) ≡ asked past ++ more.0 = ap (λ (l : List Unit_on). asked_in l) (folded-append (unit_step by_host) [] past entered) ∙ more.1 in
    let sent : sent_out (past ++ entered) ≡ sent_out past = same_sent past entered (tt, all-weaker IsMark IsNoFrame mark_no_frame marks are_marks) in
    let picked : ArePicked ((sent_out past ++ sends_of under.up) ++ sends_of items) (asked past ++ more.0)
    = picked_both (sent_out past ++ sends_of under.up) (sends_of items) (asked past) more.0 under.picked more.2 in
    let joined : (sent_out past ++ sends_of under.up) ++ sends_of items ≡ sent_out (past ++ entered) ++ sends_of (under.up ++ items)
    = append_assoc (sent_out past) (sends_of under.up) (sends_of items)
    ∙ (ap (λ (l : List Carried). sent_out past ++ l) (sym (flat_map-append sends_in under.up items)) ∙ ap (λ (l : List Carried). l ++ sends_of (under.up ++ items)) (sym sent)) in (
      (tt, each-anywhere MaySend IsMark mark_free (past ++ entry.Written by_host (unit_text unit) ∷ []) marks are_marks),
      record {
        up = under.up ++ items;
        carries = carries_more o.chip.decoder o.to_chip unit under.up under.carries is;
        picked = subst (λ (l : List Carried). ArePicked (sent_out (past ++ entered) ++ sends_of (under.up ++ items)) l) (sym all_asked)
            (subst (λ (l : List Carried). ArePicked l (asked past ++ more.0)) joined picked);
      },
    )
