-- Where the chip's link waits for an ACK of its last data frame, those of the host that have arrived since it wrote that, and since bytes were last lost, are still ahead of it.
use Rattle.std.proofs.Common.{◌≡◌, ◌⊎◌, ◌≢◌, ℕ, zero, suc, ◌+◌, ◌≤◌, ◌||◌, Bool, true, false, if◌then◌else◌, inl, inr, List, [], ◌∷◌, ◌++◌, length, drop, refl, sym, ap, ap₂, ◌∙◌, subst, append-nil, append_assoc, length-append, length-drop, drop-drop, true≢false, arith}
use Rattle.std.proofs.lemmas.List.{drop-append-le}
use Rattle.std.proofs.lemmas.Grind.{flat_map-append}
use Rattle.std.proofs.lemmas.Slice.Eq.{bytes_eq-Decides}
use Rattle.std.specs.List.{AllByRecursion, flat_map, list_any}
use Rattle.serial_frame.specs.Items.{ItemText}
use Rattle.serial_frame.specs.declared.item.Item.{Item}
use Rattle.serial_frame.specs.declared.item.Item.TheVariants.{Good, Refused}
use Rattle.serial_frame.specs.declared.item.Refusal.TheVariants.{Stray, BadLength, BadSum, BadKind, Aborted}
use Rattle.serial_frame.specs.declared.unit.TheConstants.{ACK}
use Rattle.serial_frame.specs.declared.unit.Unit.TheVariants.{Ack, Nak, Can, Framed}
use Rattle.serial_link.specs.Rules.{Step, item_of, items_of}
use Rattle.zw_words.specs.declared.side.Side.TheVariants.{Host, Chip}
use Rattle.zw_text.specs.Transcript.Way.{Whole}
use Rattle.law_wire.specs.law_transcript.Lists.{EachAfter, shown_after}
use Rattle.law_wire.specs.law_transcript.Restarts.{is_restart}
use Rattle.law_wire.specs.Clearing.{lost_at}
use Rattle.law_wire.specs.Serial.{SerialEvent}
use Rattle.law_wire.specs.Serial.SerialEvent.{Line_begins, Tick_begins, Writes}
use Rattle.law_wire.specs.Links.{AreFirst, HearsInTime, Moment, WriteLast, WritesThere, ahead, arrival_of, arrivals_of, bytes_in, is_stalled, left_ahead, line_in, moments_of, since_start, steps_in, unit_by}
use Rattle.law_time.specs.Judged.{acknowledgement_whole, is_acknowledgement, is_data}
use Rattle.proof_chip.specs.proof_line.Links.{IsMute, KnowsEvents, LinkNow}
use Rattle.proof_chip.proofs.Moments.{arrivals_one, life_after, restarts_at, start_one, steps_one}
use Rattle.proof_chip.proofs.LinkSteps.{hears_now, start_again}
use Rattle.proof_ready.proofs.LinkWaiting.{IsNoAck, NoFrames, never_waits, stays, waits-append, waits_from}

-- ---- ACK among units

abbrev pub acks_in : List (List ℕ) → ℕ
acks_in units = length (flat_map (λ unit. acknowledgement_whole unit Whole) units)

acks-append : (a b : List (List ℕ)) → acks_in (a ++ b) ≡ acks_in a + acks_in b
acks-append a b =
    ap (λ (l : List (List ℕ)). length l) (flat_map-append (λ (unit : List ℕ). acknowledgement_whole unit Whole) a b)
    ∙ length-append (flat_map (λ (unit : List ℕ). acknowledgement_whole unit Whole) a) (flat_map (λ (unit : List ℕ). acknowledgement_whole unit Whole) b)

-- each is a byte
pub acks_few : (units : List (List ℕ)) → acks_in units ≤ bytes_in units
acks_few [] = omega arith
acks_few (unit ∷ units) = by (is_acknowledgement unit) refl (acks_few units)
  where
    more : List (List ℕ)
    more = flat_map (λ (one : List ℕ). acknowledgement_whole one Whole) units

    by : (b : Bool) → is_acknowledgement unit ≡ b → length more ≤ bytes_in units → length ((if is_acknowledgement unit then unit ∷ [] else []) ++ more) ≤ length (unit ++ flat_map (λ (one : List ℕ). one) units)
    by true is few =
        let one : length unit ≡ 1 = ap (λ (l : List ℕ). length l) ((bytes_eq-Decides unit (ACK ∷ [])).0 is) in
        let here : length ((if is_acknowledgement unit then unit ∷ [] else []) ++ more) ≡ suc (length more) = ap (λ (b : Bool). length ((if b then unit ∷ [] else []) ++ more)) is in
        let all = length-append unit (flat_map (λ (one : List ℕ). one) units) in
        omega (arith, one, here, all, few)
    by false is few =
        let here : length ((if is_acknowledgement unit then unit ∷ [] else []) ++ more) ≡ length more = ap (λ (b : Bool). length ((if b then unit ∷ [] else []) ++ more)) is in
        let all = length-append unit (flat_map (λ (one : List ℕ). one) units) in
        omega (arith, here, all, few)

-- the text of another item is none
no_ack : (item : Item) (unit : List ℕ) → ItemText item unit → IsNoAck item → is_acknowledgement unit ≡ false
no_ack (Good Ack) unit text none = absurd none
no_ack (Good Nak) unit text none = ap is_acknowledgement text.1
no_ack (Good Can) unit text none = ap is_acknowledgement text.1
no_ack (Good (Framed f)) unit text none = ap is_acknowledgement text.1
no_ack (Refused (Stray x)) unit text none = by (is_acknowledgement unit) refl
  where
    other : x ≢ 6
    other = text.0.1

    by : (b : Bool) → is_acknowledgement unit ≡ b → is_acknowledgement unit ≡ false
    by true is = absurd (other (let same : x ∷ [] ≡ ACK ∷ [] = sym text.1 ∙ (bytes_eq-Decides unit (ACK ∷ [])).0 is in cc))
    by false is = is
no_ack (Refused (BadLength n)) unit text none = ap is_acknowledgement text.1
no_ack (Refused (BadSum want got)) unit (counted, is_counted, wants, differs, are) none = ap is_acknowledgement are
no_ack (Refused (BadKind x)) unit (more, above, is_counted, are) none = ap is_acknowledgement are
no_ack (Refused Aborted) unit text none = absurd text

-- other items that are the first of some units take no ACK away
others_first : (items : List Item) (units : List (List ℕ)) → AreFirst items units → AllByRecursion IsNoAck items → acks_in (drop (length items) units) ≡ acks_in units
others_first [] units first none = refl
others_first (item ∷ items) [] first none = absurd first
others_first (item ∷ items) (unit ∷ units) first none =
    others_first items units first.1 none.1
    ∙ sym (ap (λ (b : Bool). length ((if b then unit ∷ [] else []) ++ flat_map (λ (one : List ℕ). acknowledgement_whole one Whole) units)) (no_ack item unit first.0 none.0))

few_first : (items : List Item) (units : List (List ℕ)) → AreFirst items units → length items ≤ length units
few_first [] units first = omega arith
few_first (item ∷ items) [] first = absurd first
few_first (item ∷ items) (unit ∷ units) first = let few = few_first items units first.1 in omega (arith, few)

-- none are, in a stall
first_all : (stalled : Bool) (items : List Item) (units : List (List ℕ)) → AreFirst items (if stalled then [] else units) → AreFirst items units
first_all true [] units first = tt
first_all true (item ∷ items) units first = absurd first
first_all false items units first = first

-- ---- what has come by the events

-- the ACK of the host that have arrived since the chip wrote a data frame, and since bytes of the host were lost: so many at each restart
abbrev pub came_after : ℕ → SerialEvent → ℕ
came_after count (Writes Host unit arriving lacking) = count + acks_in arriving
came_after count (Writes Chip unit arriving lacking) = if is_data unit then 0 else count
came_after count _ = count

abbrev pub kept_by : ℕ → ℕ → ℕ
kept_by count zero = count
kept_by count (suc more) = 0

abbrev pub kept_of : ℕ → List ℕ → ℕ
kept_of count [] = 0
kept_of count (bytes ∷ lost) = kept_by count bytes

abbrev pub came_from : ℕ → List SerialEvent → List ℕ → ℕ
came_from count [] lost = count
came_from count (event ∷ events) lost =
    came_from (if is_restart (line_in event) then kept_of count lost else came_after count event) events (if is_restart (line_in event) then drop 1 lost else lost)

-- whether the chip writes a data frame there
abbrev pub has_frame : SerialEvent → Bool
has_frame event = list_any is_data (unit_by Chip event)

after_is : (count : ℕ) (event : SerialEvent) → (came_after count event ≡ 0) ⊎ ((has_frame event ≡ false) × (came_after count event ≡ count + acks_in (arrival_of Host event)))
after_is count (Writes Host unit arriving lacking) = inr (refl, refl)
after_is count (Writes Chip unit arriving lacking) = by (is_data unit)
  where
    by : (b : Bool) → ((if b then 0 else count) ≡ 0) ⊎ (((b || false) ≡ false) × ((if b then 0 else count) ≡ count + 0))
    by true = inl refl
    by false = inr (refl, omega arith)
after_is count (Line_begins line) = inr (refl, omega arith)
after_is count Tick_begins = inr (refl, omega arith)

restart_silent : (event : SerialEvent) → is_restart (line_in event) ≡ true → has_frame event ≡ false
restart_silent (Writes side unit arriving lacking) is = absurd (true≢false (sym is))
restart_silent (Line_begins line) is = refl
restart_silent Tick_begins is = refl

-- ---- a moment

none_before : (steps : List Step) (units : List (List ℕ)) → WriteLast steps units → list_any is_data units ≡ false → NoFrames steps
none_before [] units last none = tt
none_before (step ∷ []) units last none = (ap (λ (l : List (List ℕ)). list_any is_data l) last ∙ none, tt)
none_before (step ∷ next ∷ steps) units last none = (ap (λ (l : List (List ℕ)). list_any is_data l) last.0, none_before (next ∷ steps) units last.1 none)

-- Before these events it has heard no more than has arrived; and where it waits, so many ACK are ahead of it at least.
record IsAhead (before : List Moment) (count : ℕ) : Type 0 where
  short : length (items_of (steps_in (since_start before))) ≤ length (arrivals_of Host (since_start before))
  few : waits_from false (steps_in before) ≡ true → count ≤ acks_in (ahead Chip before)

module _ (before : List Moment) (one : Moment) (count : ℕ) (at : IsAhead before count) (writes : WritesThere Chip one) (hears : HearsInTime Chip before one) where
  abbrev life : List Moment
  life = since_start before

  abbrev left : List (List ℕ)
  left = left_ahead Chip before one

  first : AreFirst (items_of one.steps) (ahead Chip before)
  first = first_all (is_stalled before) (items_of one.steps) (ahead Chip before) hears.0

  -- where the chip writes no data frame
  few_left : has_frame one.event ≡ false → waits_from false (steps_in (before ++ one ∷ [])) ≡ true → count ≤ acks_in left
  few_left none waits =
      let all : waits_from (waits_from false (steps_in before)) one.steps ≡ true =
      sym (ap (λ (l : List Step). waits_from false l) (steps_one before one) ∙ waits-append false (steps_in before) one.steps) ∙ waits in
      let stay = stays (waits_from false (steps_in before)) one.steps (none_before one.steps (unit_by Chip one.event) writes none) all in
      subst (λ (n : ℕ). count ≤ n) (sym (others_first (items_of one.steps) (ahead Chip before) first stay.1)) (at.few stay.0)

  heard_few : length (items_of (steps_in life)) + length (items_of one.steps) ≤ length (arrivals_of Host life)
  heard_few =
      let some = few_first (items_of one.steps) (ahead Chip before) first in
      let long = length-drop (length (items_of (steps_in life))) (arrivals_of Host life) in
      let short = at.short in
      omega (arith, some, long, short)

  module _ (plain : restarts_at one ≡ false) where
    start_is : since_start (before ++ one ∷ []) ≡ life ++ one ∷ []
    start_is = start_one before one ∙ ap (λ (b : Bool). life_after b (life ++ one ∷ [])) plain

    items_is : length (items_of (steps_in (life ++ one ∷ []))) ≡ length (items_of (steps_in life)) + length (items_of one.steps)
    items_is =
        ap (λ (l : List Step). length (items_of l)) (steps_one life one) ∙ ap (λ (l : List Item). length l) (flat_map-append (λ (s : Step). item_of s.event) (steps_in life) one.steps)
        ∙ length-append (items_of (steps_in life)) (items_of one.steps)

    ahead_is : ahead Chip (before ++ one ∷ []) ≡ left ++ arrival_of Host one.event
    ahead_is =
        let heard_before : ℕ = length (items_of (steps_in life)) in
        let heard_now : ℕ = length (items_of one.steps) in
        let come : List (List ℕ) = arrivals_of Host life in
        let more : List (List ℕ) = arrival_of Host one.event in
        ap (λ (l : List Moment). drop (length (items_of (steps_in l))) (arrivals_of Host l)) start_is
        ∙ ap₂ (λ (n : ℕ) (l : List (List ℕ)). drop n l) items_is (arrivals_one Host life one)
        ∙ drop-append-le (heard_before + heard_now) come more heard_few
        ∙ ap (λ (l : List (List ℕ)). l ++ more) (sym (drop-drop heard_now heard_before come))

    plain_ahead : IsAhead (before ++ one ∷ []) (came_after count one.event)
    plain_ahead = record {
      short = subst (λ (l : List Moment). length (items_of (steps_in l)) ≤ length (arrivals_of Host l)) (sym start_is) short_then;
      few = λ waits. by waits (after_is count one.event);
    }
      where
        short_then : length (items_of (steps_in (life ++ one ∷ []))) ≤ length (arrivals_of Host (life ++ one ∷ []))
        short_then =
            let items = items_is in
            let long : length (arrivals_of Host (life ++ one ∷ [])) ≡ length (arrivals_of Host life) + length (arrival_of Host one.event) =
            ap (λ (l : List (List ℕ)). length l) (arrivals_one Host life one) ∙ length-append (arrivals_of Host life) (arrival_of Host one.event) in
            let few = heard_few in
            omega (arith, items, long, few)

        by : waits_from false (steps_in (before ++ one ∷ [])) ≡ true
            → (came_after count one.event ≡ 0) ⊎ ((has_frame one.event ≡ false) × (came_after count one.event ≡ count + acks_in (arrival_of Host one.event)))
            → came_after count one.event ≤ acks_in (ahead Chip (before ++ one ∷ []))
        by waits (inl none) = omega (arith, none)
        by waits (inr (none, is)) =
            let few = few_left none waits in
            let all : acks_in (ahead Chip (before ++ one ∷ [])) ≡ acks_in left + acks_in (arrival_of Host one.event) = ap acks_in ahead_is ∙ acks-append left (arrival_of Host one.event) in
            omega (arith, few, all, is)

  module _ (restarts : restarts_at one ≡ true) where
    restart_ahead : IsAhead (before ++ one ∷ []) (kept_by count (bytes_in left))
    restart_ahead = record {
      short = subst (λ (l : List Moment). length (items_of (steps_in l)) ≤ length (arrivals_of Host l)) (sym (start_again before one restarts)) (omega arith);
      few = λ waits. let none = by (bytes_in left) refl (few_left (restart_silent one.event restarts) waits) in omega (arith, none);
    }
      where
        by : (bytes : ℕ) → bytes_in left ≡ bytes → count ≤ acks_in left → kept_by count bytes ≤ 0
        by zero is few = let small = acks_few left in omega (arith, is, few, small)
        by (suc more) is few = omega arith

  one_ahead : IsAhead (before ++ one ∷ []) (if restarts_at one then kept_by count (bytes_in left) else came_after count one.event)
  one_ahead = by (restarts_at one) refl
    where
      by : (b : Bool) → restarts_at one ≡ b → IsAhead (before ++ one ∷ []) (if b then kept_by count (bytes_in left) else came_after count one.event)
      by true is = restart_ahead is
      by false is = plain_ahead is

-- ---- all moments

-- what the next event leaves
next_is : (count : ℕ) (event : SerialEvent) (events : List SerialEvent) (bytes : ℕ) (lost : List ℕ)
    → came_from count (event ∷ events) ((if is_restart (line_in event) then bytes ∷ [] else []) ++ lost)
    ≡ came_from (if is_restart (line_in event) then kept_by count bytes else came_after count event) events lost
next_is count event events bytes lost = by (is_restart (line_in event))
  where
    by : (b : Bool)
        → came_from (if b then kept_of count ((if b then bytes ∷ [] else []) ++ lost) else came_after count event) events
        (if b then drop 1 ((if b then bytes ∷ [] else []) ++ lost) else (if b then bytes ∷ [] else []) ++ lost)
        ≡ came_from (if b then kept_by count bytes else came_after count event) events lost
    by true = refl
    by false = refl

all_ahead : (events : List SerialEvent) (parts : List (List Step)) (before : List Moment) (count : ℕ) → length parts ≡ length events → IsAhead before count
    → AllByRecursion (WritesThere Chip) (moments_of events parts) → EachAfter (HearsInTime Chip) before (moments_of events parts)
    → IsAhead (before ++ moments_of events parts) (came_from count events (shown_after (lost_at Chip) before (moments_of events parts)))
all_ahead [] parts before count each at writes hears = subst (λ (l : List Moment). IsAhead l count) (sym (append-nil before)) at
all_ahead (event ∷ events) [] before count each at writes hears = absurd (let wrong = each in omega (arith, wrong))
all_ahead (event ∷ events) (part ∷ parts) before count each at writes hears =
    let one : Moment = record { event = event; steps = part } in
    let rest : List Moment = moments_of events parts in
    let bytes : ℕ = bytes_in (left_ahead Chip before one) in
    let later : List ℕ = shown_after (lost_at Chip) (before ++ one ∷ []) rest in
    let next : ℕ = if is_restart (line_in event) then kept_by count bytes else came_after count event in
    let fewer : suc (length parts) ≡ suc (length events) = each in
    subst (λ (n : ℕ). IsAhead (before ++ one ∷ rest) n) (sym (next_is count event events bytes later))
    (subst (λ (l : List Moment). IsAhead l (came_from next events later)) (append_assoc before (one ∷ []) rest)
    (all_ahead events parts (before ++ one ∷ []) next (omega (arith, fewer)) (one_ahead before one count at writes.0 hears.0) writes.1 hears.1))

-- the steps since the last event write nothing
mute_frames : (steps : List Step) → AllByRecursion IsMute steps → NoFrames steps
mute_frames [] mute = tt
mute_frames (step ∷ steps) mute = (ap (λ (l : List (List ℕ)). list_any is_data l) mute.0, mute_frames steps mute.1)

module _ (events : List SerialEvent) (now : LinkNow) (knows : KnowsEvents true Chip events now) where
  abbrev past : List Moment
  past = moments_of events knows.parts

  pub still_ahead : waits_from false now.life ≡ true → came_from 0 events now.lost ≤ acks_in now.coming
  still_ahead waits =
      let start : IsAhead [] 0 = record { short = omega arith; few = λ none. absurd (true≢false (sym none)) } in
      let all = all_ahead events knows.parts [] 0 knows.each start knows.keeps.writes knows.keeps.hears in
      let stay = stays (waits_from false (steps_in past)) knows.steps (mute_frames knows.steps knows.mute)
      (sym (ap (λ (l : List Step). waits_from false l) (sym knows.at.life) ∙ waits-append false (steps_in past) knows.steps) ∙ waits) in
      let heard = hears_now Chip past knows.steps now.coming knows.hears in
      let few = all.few stay.0 in
      let same : acks_in now.coming ≡ acks_in (ahead Chip past) =
      ap acks_in (sym heard.1) ∙ others_first (items_of knows.steps) (ahead Chip past) (first_all (is_stalled past) (items_of knows.steps) (ahead Chip past) heard.0) stay.1 in
      let lost : came_from 0 events (shown_after (lost_at Chip) [] past) ≡ came_from 0 events now.lost = ap (λ (l : List ℕ). came_from 0 events l) knows.at.lost in
      omega (arith, few, same, lost)

  -- where it never wrote a data frame, it does not wait
  silent_parts : (these : List SerialEvent) (parts : List (List Step)) → AllByRecursion (λ event. has_frame event ≡ false) these → AllByRecursion (WritesThere Chip) (moments_of these parts)
      → waits_from false (steps_in (moments_of these parts)) ≡ false
  silent_parts [] parts none writes = refl
  silent_parts (event ∷ these) [] none writes = refl
  silent_parts (event ∷ these) (part ∷ parts) none writes =
      waits-append false part (steps_in (moments_of these parts))
      ∙ ap (λ (b : Bool). waits_from b (steps_in (moments_of these parts))) (never_waits part (none_before part (unit_by Chip event) writes.0 none.0))
      ∙ silent_parts these parts none.1 writes.1

  pub silent_never_waits : AllByRecursion (λ event. has_frame event ≡ false) events → waits_from false now.life ≡ false
  silent_never_waits none =
      ap (λ (l : List Step). waits_from false l) (sym knows.at.life) ∙ waits-append false (steps_in past) knows.steps
      ∙ ap (λ (b : Bool). waits_from b knows.steps) (silent_parts events knows.parts none knows.keeps.writes) ∙ never_waits knows.steps (mute_frames knows.steps knows.mute)
