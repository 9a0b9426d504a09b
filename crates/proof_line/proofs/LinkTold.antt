-- What is known of a link goes on with the steps of an event and what is told of the units that they write, and with the units of the other side.
use Rattle.std.proofs.Common.{◌≡◌, ℕ, ◌+◌, Bool, List, [], ◌∷◌, ◌++◌, length, map, take, inl, inr, refl, sym, ap, ◌∙◌, subst, append-nil, append_assoc, length-append, arith}
use Rattle.std.specs.List.{AllByRecursion, flat_map}
use Rattle.std.proofs.lemmas.Grind.{flat_map-append}
use Rattle.serial_frame.specs.Items.{IsUnit, unit_text}
use Rattle.serial_frame.specs.Stream.{Rest, Feeds, no_rest}
use Rattle.serial_frame.specs.declared.item.Item.{Item}
use Rattle.serial_frame.specs.declared.unit.Unit.{Unit as LineUnit}
use Rattle.serial_link.specs.State.{Side as LinkSide}
use Rattle.serial_link.specs.Rules.{Step, SideObeys, item_of, items_of, outs_of}
use Rattle.serial_link.specs.declared.out.LinkOut.{LinkOut}
use Rattle.serial_link.specs.declared.out.LinkOut.TheVariants.{Write, Got, Sent, Failed, Bad}
use Rattle.serial_pipes.specs.State.{WayState, mark_for}
use Rattle.serial_pipes.specs.Events.{told, after, Writes}
use Rattle.chip_sim.specs.Link.{link_unit, link_units}
use Rattle.zw_words.specs.declared.side.Side.{Side}
use Rattle.zw_text.specs.declared.entry.Entry.{Entry}
use Rattle.zw_text.specs.declared.entry.Entry.TheVariants as entry
use Rattle.law_wire.specs.Serial.{arriving_of, serial_events}
use Rattle.law_wire.specs.Links.{other, text_of, texts_of}
use Rattle.proof_world.specs.proof_serial.Way.{items_of as way_items, written_all}
use Rattle.proof_world.proofs.EndedItems.{feeds_all}
use Rattle.proof_world.proofs.Ways.{carries_more}
use Rattle.proof_line.specs.Arrivals.{AreTexts}
use Rattle.proof_line.specs.Links.{Brings, IsOne, KnowsLink, KnowsSide, LinkNow, MayGo, MayHear, TakesTexts, gone, stepped, with_arriving}
use Rattle.proof_line.proofs.Arriving.{none_carries, flat, items_arrive, joins_by, marks_of, texts_both}
use Rattle.proof_line.proofs.Tellings.{IsBeside, Tells, TellsSome}
use Rattle.proof_line.proofs.LinkKnown.{beside_known, other_known, relinked, step_known, written_known}
use Rattle.proof_walk.proofs.Moving.{both_none as none_first}

-- ---- entries beside the line

pub besides_known : {piped : Bool} (side : Side) (past : List Entry) (now : LinkNow) (es : List Entry) → AllByRecursion IsBeside es → KnowsSide piped side past now → KnowsSide piped side (past ++ es) now
besides_known {piped} side past now [] all knows = subst (λ (l : List Entry). KnowsSide piped side l now) (sym (append-nil past)) knows
besides_known {piped} side past now (e ∷ es) all knows =
    subst (λ (l : List Entry). KnowsSide piped side l now) (append_assoc past (e ∷ []) es)
    (besides_known side (past ++ e ∷ []) now es all.1 (beside_known side past now e all.0 knows))

-- ---- what steps write and hear

pub text_is : (outs : List LinkOut) → flat_map text_of outs ≡ map (λ (unit : LineUnit). unit_text unit) (flat_map link_unit outs)
text_is [] = refl
text_is (Write unit ∷ outs) = ap (λ (l : List (List ℕ)). unit_text unit ∷ l) (text_is outs)
text_is (Got f ∷ outs) = text_is outs
text_is (Sent ∷ outs) = text_is outs
text_is (Failed copies ∷ outs) = text_is outs
text_is (Bad refusal ∷ outs) = text_is outs

pub takes_split : (xs ys : List Item) (coming left : List (List ℕ)) → TakesTexts (xs ++ ys) coming left → (mid : List (List ℕ)) × TakesTexts xs coming mid × TakesTexts ys mid left
takes_split [] ys coming left takes = (coming, refl, takes)
takes_split (x ∷ xs) ys [] left takes = absurd takes
takes_split (x ∷ xs) ys (text ∷ coming) left takes = let rest = takes_split xs ys coming left takes.1 in (rest.0, (takes.0, rest.1), rest.2)

-- what is on its way does not matter to what a link may do
go_same : (side : Side) (now : LinkNow) (steps : List Step) (new : LinkSide) (coming : List (List ℕ)) → MayGo side now steps new → MayGo side (record now { coming = coming }) steps new
go_same side now [] new coming go = go
go_same side now (step ∷ steps) new coming (next, may, one, more) =
    (next, record { obeys = may.obeys; may = may.may; none = may.none }, one, go_same side (stepped now step next now.coming) steps new coming more)

-- ---- the steps of an event

no_more : {piped : Bool} (side : Side) (past : List Entry) (now : LinkNow) (new : LinkSide) (left : List (List ℕ)) → SideObeys now.life new → now.coming ≡ left → KnowsSide piped side past now
    → KnowsSide piped side past (gone now [] new left)
no_more {piped} side past now new left obeys coming knows =
    subst (λ (l : List (List ℕ)). KnowsSide piped side past (gone now [] new l)) coming
    (subst (λ (l : List Step). KnowsSide piped side past (record now { life = l; round = now.round ++ []; link = new })) (sym (append-nil now.life))
    (subst (λ (l : List Step). KnowsSide piped side past (record now { round = l; link = new })) (sym (append-nil now.round)) (relinked side (serial_events past) now new obeys knows)))

one_before : {piped : Bool} (side : Side) (past : List Entry) (now : LinkNow) (step : Step) (steps : List Step) (next new : LinkSide) (mid left : List (List ℕ))
    → KnowsSide piped side past (gone (stepped now step next mid) steps new left) → KnowsSide piped side past (gone now (step ∷ steps) new left)
one_before {piped} side past now step steps next new mid left knows =
    subst (λ (l : List Step). KnowsSide piped side past (record now { life = now.life ++ step ∷ steps; round = l; link = new; coming = left })) (append_assoc now.round (step ∷ []) steps)
    (subst (λ (l : List Step). KnowsSide piped side past (record now { life = l; round = (now.round ++ step ∷ []) ++ steps; link = new; coming = left })) (append_assoc now.life (step ∷ []) steps) knows)

pub steps_known : {piped : Bool} (steps : List Step) (side : Side) (past : List Entry) (now : LinkNow) (new : LinkSide) (left : List (List ℕ)) (entries : List Entry) → KnowsSide piped side past now
    → MayGo side now steps new → MayHear now (items_of steps) left → TellsSome IsBeside side (link_units steps) entries → KnowsSide piped side (past ++ entries) (gone now steps new left)
steps_known {piped} [] side past now new left entries knows go hears tells = no_more side (past ++ entries) now new left go hears.0 (besides_known side past now entries tells knows)
steps_known {piped} (step ∷ steps) side past now new left entries knows (next, may, one, more) hears tells =
    by one
    (λ known. steps_known steps side past (stepped now step next mid) new left entries known go later)
    (λ unit before marks rest known. steps_known steps side ((past ++ before) ++ entry.Written side (unit_text unit) ∷ marks) (stepped now step next mid) new left rest known go later)
  where
    split : (mid : List (List ℕ)) × TakesTexts (item_of step.event) now.coming mid × TakesTexts (items_of steps) mid left
    split = takes_split (item_of step.event) (items_of steps) now.coming left hears.0

    mid : List (List ℕ)
    mid = split.0

    go : MayGo side (stepped now step next mid) steps new
    go = go_same side (stepped now step next now.coming) steps new mid more

    first : MayHear now (item_of step.event) mid
    first = (split.1, λ stalls. (none_first (item_of step.event) (items_of steps) (hears.1 stalls)).0)

    later : MayHear (stepped now step next mid) (items_of steps) left
    later = (split.2, λ stalls. (none_first (item_of step.event) (items_of steps) (hears.1 stalls)).1)

    parted : link_units (step ∷ steps) ≡ flat_map link_unit step.outs ++ link_units steps
    parted = flat_map-append link_unit step.outs (outs_of steps)

    texts : (units : List LineUnit) → flat_map link_unit step.outs ≡ units → texts_of step ≡ map (λ (unit : LineUnit). unit_text unit) units
    texts units is = text_is step.outs ∙ ap (λ (l : List LineUnit). map (λ (unit : LineUnit). unit_text unit) l) is

    by : IsOne (flat_map link_unit step.outs)
        → (KnowsSide piped side past (stepped now step next mid) → TellsSome IsBeside side (link_units steps) entries → KnowsSide piped side (past ++ entries) (gone (stepped now step next mid) steps new left))
        → ((unit : LineUnit) (before marks rest : List Entry) → KnowsSide piped side ((past ++ before) ++ entry.Written side (unit_text unit) ∷ marks) (stepped now step next mid)
        → TellsSome IsBeside side (link_units steps) rest
        → KnowsSide piped side (((past ++ before) ++ entry.Written side (unit_text unit) ∷ marks) ++ rest) (gone (stepped now step next mid) steps new left))
        → KnowsSide piped side (past ++ entries) (gone now (step ∷ steps) new left)
    by (inl none) mute writes =
        one_before side (past ++ entries) now step steps next new mid left
        (mute (step_known side (serial_events past) now knows next step mid may first (texts [] none))
        (subst (λ (l : List LineUnit). TellsSome IsBeside side l entries) (parted ∙ ap (λ (l : List LineUnit). l ++ link_units steps) none) tells))
    by (inr (unit, is)) mute writes =
        let (before, marks, rest, are, beside, marked, others) =
        subst (λ (l : List LineUnit). TellsSome IsBeside side l entries) (parted ∙ ap (λ (l : List LineUnit). l ++ link_units steps) is) tells in
        let one : List Entry = entry.Written side (unit_text unit) ∷ marks in
        let wrote = written_known side (past ++ before) now next mid step (unit_text unit) marks marked (besides_known side past now before beside knows) may first (texts (unit ∷ []) is) in
        one_before side (past ++ entries) now step steps next new mid left
        (subst (λ (l : List Entry). KnowsSide piped side l (gone (stepped now step next mid) steps new left))
        (append_assoc (past ++ before) one rest ∙ append_assoc past before (one ++ rest) ∙ ap (λ (l : List Entry). past ++ l) (sym are))
        (writes unit before marks rest wrote others))

-- ---- units of the other side

-- what arrives of units, one after another
abbrev pub arriving_all : Side → WayState → List LineUnit → List (List ℕ)
arriving_all side way [] = []
arriving_all side way (unit ∷ units) = arriving_of side (unit_text unit) (marks_of side way unit) ++ arriving_all side (after way (Writes unit)) units

nothing_arrives : (side : Side) (past : List Entry) (now : LinkNow) → KnowsLink side past now → KnowsLink side past (with_arriving now [])
nothing_arrives side past now knows =
    subst (λ (n : ℕ). KnowsLink side past (record now { coming = now.coming ++ []; brought = n })) plus_none
    (subst (λ (l : List (List ℕ)). KnowsLink side past (record now { coming = l })) (sym (append-nil now.coming)) knows)
  where
    plus_none : now.brought ≡ now.brought + 0
    plus_none = omega arith

both_arrive : (side : Side) (past : List Entry) (now : LinkNow) (first later : List (List ℕ)) → KnowsLink side past (with_arriving (with_arriving now first) later)
    → KnowsLink side past (with_arriving now (first ++ later))
both_arrive side past now first later knows =
    subst (λ (n : ℕ). KnowsLink side past (record now { coming = now.coming ++ (first ++ later); brought = n })) plus_both
    (subst (λ (l : List (List ℕ)). KnowsLink side past (record now { coming = l; brought = (now.brought + length first) + length later })) (append_assoc now.coming first later) knows)
  where
    plus_both : (now.brought + length first) + length later ≡ now.brought + length (first ++ later)
    plus_both = let long : length (first ++ later) ≡ length first + length later = length-append first later in omega (arith, long)

-- its bytes are added to those of what comes
joins_more : (side : Side) (way : WayState) (unit : LineUnit) (coming : List (List ℕ)) → way.bytes ≡ flat coming
    → (after way (Writes unit)).bytes ≡ flat (coming ++ arriving_of side (unit_text unit) (marks_of side way unit))
joins_more side way unit coming bytes =
    let here : List (List ℕ) = arriving_of side (unit_text unit) (marks_of side way unit) in
    joins_by side way unit (mark_for way.marks unit) ∙ ap (λ (l : List ℕ). l ++ flat here) bytes ∙ sym (flat_map-append (λ (text : List ℕ). text) coming here)

pub others_known : (units : List LineUnit) (side : Side) (past : List Entry) (now : LinkNow) (way : WayState) (entries : List Entry) → way.bytes ≡ flat now.coming → KnowsLink side past now
    → Tells IsBeside (other side) way units entries → KnowsLink side (past ++ entries) (with_arriving now (arriving_all (other side) way units))
others_known [] side past now way entries bytes knows tells = nothing_arrives side (past ++ entries) now (besides_known side past now entries tells knows)
others_known (unit ∷ units) side past now way entries bytes knows (before, rest, are, beside, others) =
    let here : List (List ℕ) = arriving_of (other side) (unit_text unit) (marks_of (other side) way unit) in
    let wrote = other_known side (past ++ before) now way unit bytes (besides_known side past now before beside knows) in
    let more : (after way (Writes unit)).bytes ≡ flat (now.coming ++ here) = joins_more (other side) way unit now.coming bytes in
    let all = others_known units side ((past ++ before) ++ told (other side) way unit) (with_arriving now here) (after way (Writes unit)) rest more wrote others in
    both_arrive side (past ++ entries) now here (arriving_all (other side) (after way (Writes unit)) units)
    (subst (λ (l : List Entry). KnowsLink side l (with_arriving (with_arriving now here) (arriving_all (other side) (after way (Writes unit)) units)))
    (append_assoc (past ++ before) (told (other side) way unit) rest ∙ append_assoc past before (told (other side) way unit ++ rest) ∙ ap (λ (l : List Entry). past ++ l) (sym are)) all)

-- ---- what is on its way

pub brings_more : (side : Side) (units : List LineUnit) (way : WayState) (coming : List (List ℕ)) → AllByRecursion IsUnit units → Brings way coming
    → Brings (written_all way units) (coming ++ arriving_all side way units)
brings_more side [] way coming are brings = subst (λ (l : List (List ℕ)). Brings way l) (sym (append-nil coming)) brings
brings_more side (unit ∷ units) way coming are brings =
    let here : List (List ℕ) = arriving_of side (unit_text unit) (marks_of side way unit) in
    subst (λ (l : List (List ℕ)). Brings (written_all way (unit ∷ units)) l) (append_assoc coming here (arriving_all side (after way (Writes unit)) units))
    (brings_more side units (after way (Writes unit)) (coming ++ here) are.1 (record {
      items = brings.items ++ way_items way unit;
      carries = carries_more no_rest way unit brings.items brings.carries are.0;
      texts = texts_both brings.items (way_items way unit) coming here brings.texts (items_arrive side way unit are.0);
      bytes = joins_more side way unit coming brings.bytes;
    }))

-- who hears all that is on its way leaves nothing
pub texts_taken : (items : List Item) (coming : List (List ℕ)) → AreTexts items coming → TakesTexts items coming []
texts_taken [] [] texts = refl
texts_taken [] (text ∷ coming) texts = absurd texts
texts_taken (item ∷ items) [] texts = absurd texts
texts_taken (item ∷ items) (text ∷ coming) texts = (texts.0, texts_taken items coming texts.1)

pub brings_taken : (way : WayState) (coming : List (List ℕ)) (rest : Rest) (judged : List Item) → Brings way coming → Feeds no_rest (take (length way.bytes) way.bytes) rest judged
    → TakesTexts judged coming []
brings_taken way coming rest judged brings taken =
    subst (λ (l : List Item). TakesTexts l coming []) (sym (feeds_all no_rest rest way.bytes brings.items judged taken brings.carries).all) (texts_taken brings.items coming brings.texts)

-- and then nothing is on its way
pub brings_none : (way : WayState) → way.bytes ≡ [] → Brings way []
brings_none way none = record { items = []; carries = none_carries way none; texts = tt; bytes = none }
