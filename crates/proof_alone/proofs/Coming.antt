-- Steps of others: entries, units of the chip that come or do not, and the number of a tick before them.
use Rattle.std.proofs.Common.{◌≡◌, ◌≤◌, ℕ, ◌+◌, ◌-◌, ◌==◌, ◌&&◌, ◌||◌, not, Bool, true, false, if◌then◌else◌, inl, inr, List, [], ◌∷◌, ◌++◌, length, drop, refl, sym, ap, ◌∙◌, subst, append-nil, append_assoc, arith}
use Rattle.std.proofs.lemmas.Grind.{flat_map-append}
use Rattle.std.proofs.lemmas.List.{get_or-set_other, length-set}
use Rattle.std.proofs.lemmas.Slice.Eq.{bytes_eq-Decides}
use Rattle.std.specs.Prelude.{Option, min, nat_lt}
use Rattle.std.specs.List.{AllByRecursion}
use Rattle.std.specs.Str.{bytes_eq}
use Rattle.zw_base.proofs.Each.{all-append, all-weaker}
use Rattle.serial_frame.specs.Frame.{FrameParts}
use Rattle.serial_frame.specs.Items.{unit_text}
use Rattle.serial_frame.specs.declared.item.Item.{Item}
use Rattle.serial_frame.specs.declared.item.Item.TheVariants.{Good, Refused}
use Rattle.serial_frame.specs.declared.item.Refusal.TheVariants.{BadSum}
use Rattle.serial_frame.specs.declared.unit.Unit.{Unit as LineUnit}
use Rattle.serial_frame.specs.declared.unit.Unit.TheVariants.{Ack, Nak, Can, Framed}
use Rattle.serial_frame.specs.declared.unit.TheConstants.{SOF, ACK, NAK, CAN}
use Rattle.serial_pipes.specs.State.{WayState, change_for, fits, garbled, garbled_place, mark_for}
use Rattle.serial_pipes.specs.Events.{Writes, after, passing, told_by}
use Rattle.serial_pipes.specs.Events as way
use Rattle.serial_pipes.specs.declared.marks.Garble.{Garble}
use Rattle.serial_pipes.specs.declared.marks.Mark.{Mark}
use Rattle.serial_pipes.specs.declared.marks.Mark.TheVariants.{Free, Lost, Changed}
use Rattle.s0_crypto.specs.declared.key_pair.Keys.{Keys}
use Rattle.zw_words.specs.declared.side.Side.TheVariants.{Chip}
use Rattle.zw_text.specs.declared.entry.Entry.{Entry}
use Rattle.zw_text.specs.declared.entry.Entry.TheVariants as entry
use Rattle.law_host.specs.law_time.Judged.{is_data}
use Rattle.law_host.specs.law_time.Requests.{is_answer}
use Rattle.proof_line.specs.host_model.State.{HostState}
use Rattle.proof_line.specs.outside_model.State.{OuterState}
use Rattle.proof_line.specs.outside_model.Events.{has_entered, stamp, ticked_entry}
use Rattle.proof_line.specs.proof_serial.Units.{good_unit, good_units}
use Rattle.proof_line.specs.proof_serial.Way.{changed_item, found_sum, items_all, items_of, unit_item, wanted_sum}
use Rattle.proof_line.specs.proof_walk.Outside.{awaits_number}
use Rattle.proof_line.proofs.Times.{time_of}
use Rattle.proof_line.proofs.Tellings.{Tells}
use Rattle.proof_alone.specs.State.{HostMachine, host_machine}
use Rattle.proof_alone.specs.Steps.{AreFrames, ChangesFrame, DidNotCome, IsFramed, IsOfOthers, Comes, Misses, Numbers}
use Rattle.proof_alone.specs.Steps as step
use Rattle.proof_alone.specs.Phases.{MayCome, Phase, Open, Risen, IsBetween}
use Rattle.proof_alone.specs.Careful.{MayHear, MayMeet, Stage, StaysFrame}
use Rattle.proof_alone.proofs.Carefully.{Leads, else_hears, goes_on}
use Rattle.proof_alone.proofs.Stamps.{Time3, entered}

-- ---- changes that wait

-- each changes the frame that it meets
abbrev pub AllChange : List Garble → Type 0
AllChange garbles = AllByRecursion (λ garble. (garble.xor == 0) ≡ false) garbles

but_first : (garbles : List Garble) → AllChange garbles → AllChange (drop 1 garbles)
but_first [] all = tt
but_first (garble ∷ garbles) all = all.1

marks_left : (w : WayState) (mark : Mark) (text : List ℕ) → AllChange w.marks.garbles → AllChange (passing w mark text).marks.garbles
marks_left w Free text all = all
marks_left w Lost text all = all
marks_left w (Changed garble) text all = but_first w.marks.garbles all

pub changes_left : (w : WayState) (unit : LineUnit) → AllChange w.marks.garbles → AllChange (after w (Writes unit)).marks.garbles
changes_left w unit all = marks_left w (mark_for w.marks unit) (unit_text unit) all

pub good_both : (a b : List Item) → good_units (a ++ b) ≡ good_units a ++ good_units b
good_both a b = flat_map-append good_unit a b

-- ---- frames, and what a change makes of them

-- a text of two bytes or more answers no frame
not_one : (text : List ℕ) (byte : ℕ) → 2 ≤ length text → bytes_eq text (byte ∷ []) ≡ false
not_one text byte long = by (bytes_eq text (byte ∷ [])) refl
  where
    by : (b : Bool) → bytes_eq text (byte ∷ []) ≡ b → bytes_eq text (byte ∷ []) ≡ false
    by false is = is
    by true is = absurd (let same = ap (λ (l : List ℕ). length l) ((bytes_eq-Decides text (byte ∷ [])).0 is) in omega (arith, same, long))

long_answers_none : (text : List ℕ) → 2 ≤ length text → is_answer text ≡ false
long_answers_none text long =
    ap (λ (b : Bool). b || bytes_eq text (NAK ∷ []) || bytes_eq text (CAN ∷ [])) (not_one text ACK long)
    ∙ ap (λ (b : Bool). b || bytes_eq text (CAN ∷ [])) (not_one text NAK long) ∙ not_one text CAN long

garbled_answers_none : (garble : Garble) (f : FrameParts) → is_answer (garbled garble (unit_text (Framed f))) ≡ false
garbled_answers_none garble f =
    let text : List ℕ = unit_text (Framed f) in
    let same : length (garbled garble text) ≡ length text = length-set text (garbled_place garble text) _ in
    long_answers_none (garbled garble text) (omega (arith, same))

-- the first byte is never changed
never_first : (place long : ℕ) → 2 ≤ long → 0 ≡ min (2 + place) (long - 1) → ⊥
never_first place long room bad = omega (arith, room, bad)

garbled_stays : (garble : Garble) (f : FrameParts) → is_data (garbled garble (unit_text (Framed f))) ≡ true
garbled_stays garble f =
    let text : List ℕ = unit_text (Framed f) in
    ap (λ (byte : ℕ). byte == SOF) (get_or-set_other text (garbled_place garble text) 0 _ 0 (never_first garble.place (length text) (omega arith)))

-- the items that frames become are frames
pub framed_items : (way : WayState) (units : List LineUnit) → AreFrames units → AreFrames (good_units (items_all way units))
framed_items way [] frames = tt
framed_items way (unit ∷ units) frames =
    subst AreFrames (sym (good_both (items_of way unit) (items_all (after way (Writes unit)) units)))
    (all-append IsFramed (good_units (items_of way unit)) (good_units (items_all (after way (Writes unit)) units)) (one unit frames.0) (framed_items (after way (Writes unit)) units frames.1))
  where
    changed : (garbles : List Garble) (f : FrameParts) → AreFrames (good_units (unit_item garbles (Framed f) ∷ []))
    changed [] f = (tt, tt)
    changed (garble ∷ garbles) f = by (garble.xor == 0)
      where
        by : (same : Bool) → AreFrames (good_units ((if same then Good (Framed f) else Refused (BadSum (wanted_sum (garbled garble (unit_text (Framed f)))) (found_sum (garbled garble (unit_text (Framed f)))))) ∷ []))
        by true = (tt, tt)
        by false = tt

    one : (unit : LineUnit) → IsFramed unit → AreFrames (good_units (items_of way unit))
    one (Framed f) framed = by (fits way.bytes (unit_text (Framed f))) (nat_lt 0 way.marks.drops)
      where
        by : (room lost : Bool) → AreFrames (good_units (if room then (if lost then [] else unit_item way.marks.garbles (Framed f) ∷ []) else []))
        by true true = tt
        by true false = changed way.marks.garbles f
        by false lost = tt
    one Ack framed = absurd framed
    one Nak framed = absurd framed
    one Can framed = absurd framed

-- ---- what may be told here

-- an entry of others
abbrev pub MayTell : Phase → Entry → Type 0
MayTell here e = IsOfOthers e × MayHear here (step.Tells e)

-- any, where items are judged
pub any_told : (asides : List Entry) → AllByRecursion IsOfOthers asides → AllByRecursion (MayTell Open) asides
any_told asides all = all-weaker IsOfOthers (MayTell Open) (λ e of_others. (of_others, tt)) asides all

framed_data : (unit : LineUnit) → IsFramed unit → is_data (unit_text unit) ≡ true
framed_data (Framed f) framed = refl
framed_data unit framed = absurd framed

-- a unit that may come may be missed
missed : (here : Phase) (unit : LineUnit) (marks : List Entry) → MayCome here unit → StaysFrame marks → MayHear here (Misses (unit_text unit) marks)
missed Risen unit marks (inl framed) stays = (framed_data unit framed, stays)
missed Risen unit marks (inr is) stays = absurd (let bad : Risen ≡ Open = is in cc)
missed here unit marks may stays = tt

-- ---- with these fields, which stay

module _ (Led : Stage → Phase → List Entry → HostMachine → Type 0) (leads : Leads Led) (stage : Stage) (keys : Keys) (records : Option (List (List ℕ))) (state : HostState) (left : ℕ) where
  abbrev pub at : List LineUnit → ℕ → Bool → HostMachine
  at came clock awaits = host_machine keys records state came clock left awaits

  -- the number, where it is to be entered
  pub number_run : (here : Phase) (told : List Entry) (came : List LineUnit) (clock : ℕ) (awaits : Bool) → Led stage here told (at came clock awaits)
      → Led stage here (told ++ (if awaits then entry.Time clock ∷ [] else [])) (at came clock false)
  number_run here told came clock true run = goes_on leads Numbers (refl, refl) (tt, else_hears here Numbers tt) refl refl refl run
  number_run here told came clock false run = subst (λ (l : List Entry). Led stage here l (at came clock false)) (sym (append-nil told)) run

  module _ (here : Phase) (between : IsBetween here) (clock : ℕ) where
    abbrev pub Here : List Entry → List LineUnit → Type 0
    Here told came = Led stage here told (at came clock false)

    -- entries of others
    pub asides_run : (asides told : List Entry) (came : List LineUnit) → AllByRecursion (MayTell here) asides → Here told came → Here (told ++ asides) came
    asides_run [] told came all run = subst (λ (l : List Entry). Here l came) (sym (append-nil told)) run
    asides_run (one ∷ asides) told came all run =
        let next : Here (told ++ one ∷ []) came = goes_on leads (step.Tells one) (between, all.0.0, refl, refl) (tt, all.0.1) refl refl refl run in
        subst (λ (l : List Entry). Here l came) (append_assoc told (one ∷ []) asides) (asides_run asides (told ++ one ∷ []) came all.1 next)

    -- where units may come
    module _ (meets : MayMeet stage) where
      comes : (told : List Entry) (came : List LineUnit) (unit : LineUnit) → MayCome here unit → Here told came → Here (told ++ entry.Written Chip (unit_text unit) ∷ []) (came ++ unit ∷ [])
      comes told came unit may run = goes_on leads (Comes unit) (between, refl, refl, may) (meets, else_hears here (Comes unit) tt) refl refl refl run

      misses : (told : List Entry) (came : List LineUnit) (text : List ℕ) (marks : List Entry) → DidNotCome marks → ChangesFrame text marks → MayHear here (Misses text marks) → Here told came
          → Here (told ++ entry.Written Chip text ∷ marks) (came ++ [])
      misses told came text marks none changes hears run =
          subst (λ (l : List LineUnit). Here (told ++ entry.Written Chip text ∷ marks) l) (sym (append-nil came))
          (goes_on leads (Misses text marks) (between, none, refl, refl, changes) (meets, hears) refl refl refl run)

      -- ---- a unit that the chip writes

      abbrev By : List Entry → List LineUnit → List ℕ → LineUnit → Mark → List Item → Type 0
      By told came bytes unit mark items = Here (told ++ entry.Written Chip (unit_text unit) ∷ told_by Chip bytes mark (unit_text unit)) (came ++ good_units items)

      lost_by : (told : List Entry) (came : List LineUnit) (bytes : List ℕ) (unit : LineUnit) (room : Bool) → MayCome here unit → Here told came
          → By told came bytes unit Lost (if room then [] else [])
      lost_by told came bytes unit true may run = misses told came (unit_text unit) (entry.Dropped Chip ∷ []) tt tt (missed here unit (entry.Dropped Chip ∷ []) may tt) run
      lost_by told came bytes unit false may run = misses told came (unit_text unit) (entry.Dropped Chip ∷ []) tt tt (missed here unit (entry.Dropped Chip ∷ []) may tt) run

      free_by : (told : List Entry) (came : List LineUnit) (unit : LineUnit) (room : Bool) → MayCome here unit → Here told came
          → Here (told ++ entry.Written Chip (unit_text unit) ∷ (if room then [] else entry.Overrun Chip ∷ [])) (came ++ good_units (if room then Good unit ∷ [] else []))
      free_by told came unit true may run = comes told came unit may run
      free_by told came unit false may run = misses told came (unit_text unit) (entry.Overrun Chip ∷ []) tt tt (missed here unit (entry.Overrun Chip ∷ []) may tt) run

      changed_none : (f : FrameParts) (refused : Item) (room same : Bool) → same ≡ false → good_units (refused ∷ []) ≡ []
          → good_units (if room then (if same then Good (Framed f) else refused) ∷ [] else []) ≡ []
      changed_none f refused true true is none = absurd (let bad : true ≡ false = is in cc)
      changed_none f refused true false is none = none
      changed_none f refused false same is none = refl

      changed_by : (told : List Entry) (came : List LineUnit) (bytes : List ℕ) (f : FrameParts) (garble : Garble) → (garble.xor == 0) ≡ false → Here told came
          → By told came bytes (Framed f) (Changed garble) (if fits bytes (unit_text (Framed f)) then changed_item garble f ∷ [] else [])
      changed_by told came bytes f garble other run =
          let t : List ℕ = unit_text (Framed f) in
          let c : List ℕ = garbled garble t in
          subst (λ (l : List LineUnit). Here (told ++ entry.Written Chip t ∷ told_by Chip bytes (Changed garble) t) (came ++ l)) (sym (changed_none f (Refused (BadSum (wanted_sum c) (found_sum c))) (fits bytes t) (garble.xor == 0) other refl))
          (by c (refl, garbled_answers_none garble f) (garbled_stays garble f) (fits bytes c))
        where
          by : (c : List ℕ) → (is_answer (unit_text (Framed f)) ≡ false) × (is_answer c ≡ false) → is_data c ≡ true → (room : Bool)
              → Here (told ++ entry.Written Chip (unit_text (Framed f)) ∷ (entry.Garbled Chip c ∷ (if room then [] else entry.Overrun Chip ∷ []))) (came ++ [])
          by c changes stays true = misses told came (unit_text (Framed f)) (entry.Garbled Chip c ∷ []) tt changes (missed here (Framed f) (entry.Garbled Chip c ∷ []) (inl tt) stays) run
          by c changes stays false =
              misses told came (unit_text (Framed f)) (entry.Garbled Chip c ∷ (entry.Overrun Chip ∷ [])) tt changes (missed here (Framed f) (entry.Garbled Chip c ∷ (entry.Overrun Chip ∷ [])) (inl tt) stays) run

      -- by the change that waits
      change_by : (told : List Entry) (came : List LineUnit) (bytes : List ℕ) (unit : LineUnit) (garbles : List Garble) → MayCome here unit → AllChange garbles → Here told came
          → By told came bytes unit (change_for garbles unit) (if fits bytes (unit_text unit) then unit_item garbles unit ∷ [] else [])
      change_by told came bytes Ack garbles may all run = free_by told came Ack (fits bytes (unit_text Ack)) may run
      change_by told came bytes Nak garbles may all run = free_by told came Nak (fits bytes (unit_text Nak)) may run
      change_by told came bytes Can garbles may all run = free_by told came Can (fits bytes (unit_text Can)) may run
      change_by told came bytes (Framed f) [] may all run = free_by told came (Framed f) (fits bytes (unit_text (Framed f))) (inl tt) run
      change_by told came bytes (Framed f) (garble ∷ garbles) may all run = changed_by told came bytes f garble all.0 run

      pub unit_run : (told : List Entry) (came : List LineUnit) (w : WayState) (unit : LineUnit) → MayCome here unit → AllChange w.marks.garbles → Here told came
          → Here (told ++ way.told Chip w unit) (came ++ good_units (items_of w unit))
      unit_run told came w unit may all run = by (nat_lt 0 w.marks.drops)
        where
          by : (b : Bool) → By told came w.bytes unit (if b then Lost else change_for w.marks.garbles unit)
              (if fits w.bytes (unit_text unit) then (if b then [] else unit_item w.marks.garbles unit ∷ []) else [])
          by true = lost_by told came w.bytes unit (fits w.bytes (unit_text unit)) may run
          by false = change_by told came w.bytes unit w.marks.garbles may all run

      -- units one after another, among entries of others
      pub tells_run : (units : List LineUnit) (entries told : List Entry) (came : List LineUnit) (w : WayState) → AllByRecursion (MayCome here) units → AllChange w.marks.garbles
          → Tells (MayTell here) Chip w units entries → Here told came → Here (told ++ entries) (came ++ good_units (items_all w units))
      tells_run [] entries told came w may all tells run = subst (λ (l : List LineUnit). Here (told ++ entries) l) (sym (append-nil came)) (asides_run entries told came tells run)
      tells_run (unit ∷ units) entries told came w may all (before, rest, is, asides, more) run =
          let one : List Entry = way.told Chip w unit in
          let next : WayState = after w (Writes unit) in
          let first : Here (told ++ before) came = asides_run before told came asides run in
          let second : Here ((told ++ before) ++ one) (came ++ good_units (items_of w unit)) = unit_run (told ++ before) came w unit may.0 all first in
          let third : Here (((told ++ before) ++ one) ++ rest) ((came ++ good_units (items_of w unit)) ++ good_units (items_all next units)) =
          tells_run units rest ((told ++ before) ++ one) (came ++ good_units (items_of w unit)) next may.1 (changes_left w unit all) more second in
          let texts : ((told ++ before) ++ one) ++ rest ≡ told ++ entries =
          append_assoc (told ++ before) one rest ∙ append_assoc told before (one ++ rest) ∙ ap (λ (l : List Entry). told ++ l) (sym is) in
          let units_are : (came ++ good_units (items_of w unit)) ++ good_units (items_all next units) ≡ came ++ good_units (items_of w unit ++ items_all next units) =
          append_assoc came (good_units (items_of w unit)) (good_units (items_all next units)) ∙ ap (λ (l : List LineUnit). came ++ l) (sym (good_both (items_of w unit) (items_all next units))) in
          subst (λ (l : List LineUnit). Here (told ++ entries) l) units_are (subst (λ (l : List Entry). Here l ((came ++ good_units (items_of w unit)) ++ good_units (items_all next units))) texts third)

-- ---- with the number of the tick before what is told

abbrev pub at_time : Keys → Option (List (List ℕ)) → HostState → List LineUnit → ℕ → Time3 → HostMachine
at_time keys records state came left time = host_machine keys records state came time.2 left (time.0 && not time.1)

pub stamp_run : (Led : Stage → Phase → List Entry → HostMachine → Type 0) (leads : Leads Led) (stage led : Stage) (o : OuterState) (here next : Phase) (keys : Keys) (records later_records : Option (List (List ℕ))) (state later_state : HostState)
    (came later_came : List LineUnit) (left : ℕ) (past told : List Entry)
    → Led stage here past (at_time keys records state came left (time_of o))
    → ((awaits : Bool) (all : List Entry) → (awaits ≡ true → told ≡ []) → Led stage here all (host_machine keys records state came o.clock left awaits)
    → Led led next (all ++ told) (host_machine keys later_records later_state later_came o.clock left awaits))
    → Led led next (past ++ stamp o told) (at_time keys later_records later_state later_came left (time_of (has_entered o told)))
stamp_run Led leads stage led o here next keys records later_records state later_state came later_came left past [] run goes = goes (awaits_number o) past (λ awaits. refl) run
stamp_run Led leads stage led o here next keys records later_records state later_state came later_came left past (e ∷ told) run goes =
    let numbered = number_run Led leads stage keys records state left here past came o.clock (awaits_number o) run in
    let gone = goes false (past ++ ticked_entry o) (λ (bad : false ≡ true). absurd cc) numbered in
    subst (λ (b : Bool). Led led next (past ++ (ticked_entry o ++ e ∷ told)) (host_machine keys later_records later_state later_came o.clock left b)) (sym (entered o.in_tick o.stamped))
    (subst (λ (l : List Entry). Led led next l (host_machine keys later_records later_state later_came o.clock left false)) (append_assoc past (ticked_entry o) (e ∷ told)) gone)
