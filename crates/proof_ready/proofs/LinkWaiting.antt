-- A link with a frame of its own that is neither Sent nor Failed has written it, and heard no ACK since it last wrote a data frame.
use Rattle.std.proofs.Common.{◌≡◌, ℕ, zero, suc, ◌&&◌, ◌||◌, not, Bool, true, false, List, [], ◌∷◌, ◌++◌, refl, sym, ap, ◌∙◌, true≢false}
use Rattle.std.specs.List.{AllByRecursion, flat_map, list_any}
use Rattle.serial_frame.specs.Frame.{FrameParts}
use Rattle.serial_frame.specs.declared.item.Item.{Item}
use Rattle.serial_frame.specs.declared.item.Item.TheVariants.{Good, Refused}
use Rattle.serial_frame.specs.declared.unit.Unit.TheVariants.{Ack, Nak, Can, Framed}
use Rattle.serial_link.specs.State.{Side as LinkSide}
use Rattle.serial_link.specs.Rules.{Event, heard, ticked, submitted, asked, Step, Copies, EndsCopy, LeavesCopy, LeavesPause, SideObeys, Silent, Stands, item_of, items_of, own_of}
use Rattle.serial_link.specs.declared.out.LinkOut.{LinkOut}
use Rattle.serial_link.specs.declared.out.LinkOut.TheVariants.{Write, Got, Sent, Failed, Bad}
use Rattle.serial_link.specs.declared.turn.Turn.{Turn}
use Rattle.serial_link.specs.declared.turn.Turn.TheVariants.{Copied, Idle, Paused}
use Rattle.law_wire.specs.Links.{text_of, texts_of}
use Rattle.law_time.specs.Judged.{is_data}

-- ---- what a step does

abbrev pub hears_ack : Event → Bool
hears_ack (heard (Good Ack)) = true
hears_ack _ = false

abbrev pub writes_frame : Step → Bool
writes_frame step = list_any is_data (texts_of step)

-- a data frame was written, and no ACK was heard since
abbrev pub waits_after : Bool → Step → Bool
waits_after waits step = writes_frame step || (waits && not (hears_ack step.event))

abbrev pub waits_from : Bool → List Step → Bool
waits_from waits [] = waits
waits_from waits (step ∷ steps) = waits_from (waits_after waits step) steps

pub waits-append : (waits : Bool) (a b : List Step) → waits_from waits (a ++ b) ≡ waits_from (waits_from waits a) b
waits-append waits [] b = refl
waits-append waits (step ∷ a) b = waits-append (waits_after waits step) a b

-- ---- steps that write no data frame

abbrev pub NoFrames : List Step → Type 0
NoFrames steps = AllByRecursion (λ step. writes_frame step ≡ false) steps

abbrev pub IsNoAck : Item → Type 0
IsNoAck (Good Ack) = ⊥
IsNoAck _ = Unit {0}

no_more : (event : Event) (items : List Item) → hears_ack event ≡ false → AllByRecursion IsNoAck items → AllByRecursion IsNoAck (item_of event ++ items)
no_more (heard (Good Ack)) items none rest = absurd (true≢false none)
no_more (heard (Good Nak)) items none rest = (tt, rest)
no_more (heard (Good Can)) items none rest = (tt, rest)
no_more (heard (Good (Framed f))) items none rest = (tt, rest)
no_more (heard (Refused r)) items none rest = (tt, rest)
no_more ticked items none rest = rest
no_more (submitted f) items none rest = rest
no_more asked items none rest = rest

-- where it waits after one of them, it waited before, and no ACK was heard
step_stays : (waits writes hears : Bool) → writes ≡ false → (writes || (waits && not hears)) ≡ true → (waits ≡ true) × (hears ≡ false)
step_stays true true hears none is = absurd (true≢false none)
step_stays true false true none is = absurd (true≢false (sym is))
step_stays true false false none is = (refl, refl)
step_stays false true hears none is = absurd (true≢false none)
step_stays false false hears none is = absurd (true≢false (sym is))

pub stays : (waits : Bool) (steps : List Step) → NoFrames steps → waits_from waits steps ≡ true → (waits ≡ true) × AllByRecursion IsNoAck (items_of steps)
stays waits [] none is = (is, tt)
stays waits (step ∷ steps) none is =
    let rest = stays (waits_after waits step) steps none.1 is in
    let here = step_stays waits (writes_frame step) (hears_ack step.event) none.0 rest.0 in
    (here.0, no_more step.event (items_of steps) here.1 rest.1)

-- so it does not come to wait
pub never_waits : (steps : List Step) → NoFrames steps → waits_from false steps ≡ false
never_waits steps none = by (waits_from false steps) refl
  where
    by : (b : Bool) → waits_from false steps ≡ b → waits_from false steps ≡ false
    by true is = absurd (true≢false (sym (stays false steps none is).0))
    by false is = is

-- ---- steps that write one

-- of its own
own_written : (f : FrameParts) (outs : List LinkOut) → own_of outs ≡ Write (Framed f) ∷ [] → list_any is_data (flat_map text_of outs) ≡ true
own_written f [] is = absurd (let bad : [] ≡ Write (Framed f) ∷ [] = is in cc)
own_written f (Write Ack ∷ outs) is = own_written f outs is
own_written f (Write Nak ∷ outs) is = own_written f outs is
own_written f (Write Can ∷ outs) is = own_written f outs is
own_written f (Write (Framed g) ∷ outs) is = refl
own_written f (Got g ∷ outs) is = own_written f outs is
own_written f (Bad r ∷ outs) is = own_written f outs is
own_written f (Sent ∷ outs) is = absurd (let bad : Sent ∷ own_of outs ≡ Write (Framed f) ∷ [] = is in cc)
own_written f (Failed n ∷ outs) is = absurd (let bad : Failed n ∷ own_of outs ≡ Write (Framed f) ∷ [] = is in cc)

last_writes : (waits : Bool) (steps : List Step) (step : Step) (f : FrameParts) → own_of step.outs ≡ Write (Framed f) ∷ [] → waits_from waits (steps ++ step ∷ []) ≡ true
last_writes waits steps step f is = waits-append waits steps (step ∷ []) ∙ ap (λ (b : Bool). b || (waits_from waits steps && not (hears_ack step.event))) (own_written f step.outs is)

-- each copy is written by the last step of these
copies_wait : (waits : Bool) (f : FrameParts) (copies : ℕ) (steps : List Step) → Copies f copies steps → waits_from waits steps ≡ true
copies_wait waits f zero steps made = absurd made
copies_wait waits f (suc zero) steps made = ap (λ (l : List Step). waits_from waits l) made.alone ∙ last_writes waits [] made.step f made.written
copies_wait waits f (suc (suc n)) steps (before, paused, step, made, are, ticks, pauses, last, event, own) =
    ap (λ (l : List Step). waits_from waits l) are ∙ last_writes waits (before ++ paused) step f own

-- ---- steps in which no ACK is heard

no_ack_goes : (step : Step) → hears_ack step.event ≡ false → waits_after true step ≡ true
no_ack_goes step none = by (writes_frame step) (hears_ack step.event) none
  where
    by : (writes hears : Bool) → hears ≡ false → (writes || (true && not hears)) ≡ true
    by true hears none = refl
    by false true none = absurd (true≢false none)
    by false false none = refl

silent_waits : (Allowed : Event → Type 0) → ((event : Event) → Allowed event → hears_ack event ≡ false) → (steps : List Step) → Silent Allowed steps → waits_from true steps ≡ true
silent_waits Allowed none [] silent = refl
silent_waits Allowed none (step ∷ steps) (event, own, silent) =
    ap (λ (b : Bool). waits_from b steps) (no_ack_goes step (none step.event event)) ∙ silent_waits Allowed none steps silent

copy_none : (event : Event) → LeavesCopy event → hears_ack event ≡ false
copy_none (heard (Good Ack)) leaves = absurd leaves
copy_none (heard (Good Nak)) leaves = refl
copy_none (heard (Good Can)) leaves = refl
copy_none (heard (Good (Framed f))) leaves = refl
copy_none (heard (Refused r)) leaves = refl
copy_none ticked leaves = refl
copy_none (submitted f) leaves = refl
copy_none asked leaves = refl

pause_none : (event : Event) → LeavesPause event → hears_ack event ≡ false
pause_none (heard (Good Ack)) leaves = absurd leaves
pause_none (heard (Good Nak)) leaves = refl
pause_none (heard (Good Can)) leaves = refl
pause_none (heard (Good (Framed f))) leaves = refl
pause_none (heard (Refused r)) leaves = refl
pause_none ticked leaves = refl
pause_none (submitted f) leaves = refl
pause_none asked leaves = refl

end_none : (ticks : ℕ) (event : Event) → EndsCopy ticks event → hears_ack event ≡ false
end_none ticks (heard (Good Ack)) ends = absurd ends
end_none ticks (heard (Good Nak)) ends = refl
end_none ticks (heard (Good Can)) ends = refl
end_none ticks (heard (Good (Framed f))) ends = refl
end_none ticks (heard (Refused r)) ends = refl
end_none ticks ticked ends = refl
end_none ticks (submitted f) ends = refl
end_none ticks asked ends = refl

-- ---- a frame that is neither Sent nor Failed

then_waits : (waits : Bool) (a b : List Step) → waits_from waits a ≡ true → waits_from true b ≡ true → waits_from waits (a ++ b) ≡ true
then_waits waits a b first later = waits-append waits a b ∙ ap (λ (w : Bool). waits_from w b) first ∙ later

module _ (waits : Bool) (now : List Step) where
  busy_waits : (turn : Turn) → Stands turn now → waits_from waits now ≡ false → turn ≡ Idle
  busy_waits Idle stands none = refl
  busy_waits (Copied f copies ticks) (before, wait, are, few, made, stays_so) none =
      absurd (true≢false
      (sym (then_waits waits before wait (copies_wait waits f copies before made) (silent_waits LeavesCopy copy_none wait stays_so.silent))
      ∙ ap (λ (l : List Step). waits_from waits l) (sym are) ∙ none))
  busy_waits (Paused f copies ticks) (before, paused, are, few, made, pauses, early) none =
      absurd (true≢false
      (sym (then_waits waits before paused (copies_wait waits f copies before made)
      (ap (λ (l : List Step). waits_from true l) pauses.parts
      ∙ then_waits true pauses.wait (pauses.end ∷ pauses.pause) (silent_waits LeavesCopy copy_none pauses.wait pauses.waits)
      (ap (λ (b : Bool). waits_from b pauses.pause) (no_ack_goes pauses.end (end_none _ pauses.end.event pauses.ends)) ∙ silent_waits LeavesPause pause_none pauses.pause pauses.silent)))
      ∙ ap (λ (l : List Step). waits_from waits l) (sym are) ∙ none))

-- where a link does not wait so, it has none
pub idle_link : (history : List Step) (side : LinkSide) → SideObeys history side → waits_from false history ≡ false → side.turn ≡ Idle
idle_link history side obeys none =
    let turns = obeys.turns in
    let front : List Step = flat_map (λ (steps : List Step). steps) turns.past in
    busy_waits (waits_from false front) turns.now side.turn turns.stands
    (sym (waits-append false front turns.now) ∙ ap (λ (l : List Step). waits_from false l) (sym turns.parts) ∙ none)
