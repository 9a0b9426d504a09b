-- By its steps a link has a frame of its own or has none: all accounts of a history by the rules agree on that, also where steps follow that wrote nothing.
use Rattle.std.proofs.Common.{◌≡◌, ◌⊎◌, ℕ, zero, suc, Bool, true, false, if◌then◌else◌, List, [], ◌∷◌, ◌++◌, inl, inr, refl, sym, ap, ◌∙◌, subst}
use Rattle.std.specs.List.{AllByRecursion, flat_map}
use Rattle.zw_base.proofs.Each.{all-append, all-right}
use Rattle.serial_frame.specs.Frame.{FrameParts}
use Rattle.serial_frame.specs.declared.unit.Unit.TheVariants.{Ack, Nak, Can, Framed}
use Rattle.serial_link.specs.State.{Side as LinkSide}
use Rattle.serial_link.specs.Rules.{ArePast, Copies, EndsCopy, Event, IsLife, LeavesCopy, LeavesIdle, LeavesPause, Pauses, SideObeys, Silent, Stands, Step, Turns, own_of, submitted}
use Rattle.serial_link.specs.declared.out.LinkOut.{LinkOut}
use Rattle.serial_link.specs.declared.out.LinkOut.TheVariants.{Write, Got, Sent, Failed, Bad}
use Rattle.serial_link.specs.declared.turn.Turn.{Turn}
use Rattle.serial_link.specs.declared.turn.Turn.TheVariants.{Idle, Copied, Paused}
use Rattle.law_wire.specs.Links.{text_of, texts_of}
use Rattle.proof_line.specs.Links.{IsMute}

-- ---- by the steps

-- a frame of its own is over with these outputs
abbrev ends_in : List LinkOut → Bool
ends_in [] = false
ends_in (Sent ∷ outs) = true
ends_in (Failed copies ∷ outs) = true
ends_in (out ∷ outs) = ends_in outs

abbrev is_submitted : Event → Bool
is_submitted (submitted f) = true
is_submitted event = false

-- whether it has one after a step, and after steps
abbrev busy_step : Bool → Step → Bool
busy_step before step = if is_submitted step.event then true else (if ends_in step.outs then false else before)

abbrev busy : Bool → List Step → Bool
busy before [] = before
busy before (step ∷ steps) = busy (busy_step before step) steps

busy_both : (before : Bool) (one more : List Step) → busy before (one ++ more) ≡ busy (busy before one) more
busy_both before [] more = refl
busy_both before (step ∷ one) more = busy_both (busy_step before step) one more

-- answers to the other side count for nothing
ends_own : (outs : List LinkOut) → ends_in outs ≡ ends_in (own_of outs)
ends_own [] = refl
ends_own (Sent ∷ outs) = refl
ends_own (Failed copies ∷ outs) = refl
ends_own (Write Ack ∷ outs) = ends_own outs
ends_own (Write Nak ∷ outs) = ends_own outs
ends_own (Write Can ∷ outs) = ends_own outs
ends_own (Write (Framed f) ∷ outs) = ends_own outs
ends_own (Got f ∷ outs) = ends_own outs
ends_own (Bad refusal ∷ outs) = ends_own outs

-- ---- one step

stays : (before : Bool) (step : Step) → is_submitted step.event ≡ false → own_of step.outs ≡ [] → busy_step before step ≡ before
stays before step none quiet =
    ap (λ (b : Bool). if b then true else (if ends_in step.outs then false else before)) none
    ∙ ap (λ (b : Bool). if b then false else before) (ends_own step.outs ∙ ap ends_in quiet)

writes : (before : Bool) (step : Step) (f : FrameParts) → is_submitted step.event ≡ false → own_of step.outs ≡ Write (Framed f) ∷ [] → busy_step before step ≡ before
writes before step f none own =
    ap (λ (b : Bool). if b then true else (if ends_in step.outs then false else before)) none
    ∙ ap (λ (b : Bool). if b then false else before) (ends_own step.outs ∙ ap ends_in own)

begins : (before : Bool) (step : Step) (f : FrameParts) → step.event ≡ submitted f → busy_step before step ≡ true
begins before step f is = ap (λ (event : Event). if is_submitted event then true else (if ends_in step.outs then false else before)) is

ends : (before : Bool) (step : Step) → is_submitted step.event ≡ false → ends_in (own_of step.outs) ≡ true → busy_step before step ≡ false
ends before step none told =
    ap (λ (b : Bool). if b then true else (if ends_in step.outs then false else before)) none ∙ ap (λ (b : Bool). if b then false else before) (ends_own step.outs ∙ told)

-- ---- what leaves a frame as it is

copy_left : (event : Event) → LeavesCopy event → is_submitted event ≡ false
copy_left (submitted f) leaves = absurd leaves
copy_left event leaves = refl

pause_left : (event : Event) → LeavesPause event → is_submitted event ≡ false
pause_left (submitted f) leaves = absurd leaves
pause_left event leaves = refl

idle_left : (event : Event) → LeavesIdle event → is_submitted event ≡ false
idle_left (submitted f) leaves = absurd leaves
idle_left event leaves = refl

end_left : (ticks : ℕ) (event : Event) → EndsCopy ticks event → is_submitted event ≡ false
end_left ticks (submitted f) ends = absurd ends
end_left ticks event ends = refl

silent : (P : Event → Type 0) → ((event : Event) → P event → is_submitted event ≡ false) → (steps : List Step) → Silent P steps → (before : Bool) → busy before steps ≡ before
silent P left [] all before = refl
silent P left (step ∷ steps) (is, own, more) before = ap (λ (b : Bool). busy b steps) (stays before step (left step.event is) own) ∙ silent P left steps more before

-- ---- a frame of its own

one_more : (before : Bool) (steps : List Step) (last : Step) → busy before (steps ++ last ∷ []) ≡ busy_step (busy before steps) last
one_more before steps last = busy_both before steps (last ∷ [])

pauses : (steps : List Step) (age : ℕ) → Pauses steps age → (before : Bool) → busy before steps ≡ before
pauses steps age paused before =
    ap (busy before) paused.parts
    ∙ busy_both before paused.wait (paused.end ∷ paused.pause)
    ∙ ap (λ (b : Bool). busy (busy_step b paused.end) paused.pause) (silent LeavesCopy copy_left paused.wait paused.waits before)
    ∙ ap (λ (b : Bool). busy b paused.pause) (stays before paused.end (end_left _ paused.end.event paused.ends) paused.quiet)
    ∙ silent LeavesPause pause_left paused.pause paused.silent before

copies_busy : (f : FrameParts) (copies : ℕ) (steps : List Step) → Copies f copies steps → (before : Bool) → busy before steps ≡ true
copies_busy f zero steps copied before = absurd copied
copies_busy f (suc zero) steps copied before = ap (busy before) copied.alone ∙ begins before copied.step f copied.event
copies_busy f (suc (suc n)) steps (first, paused, step, earlier, parts, ticks, pausing, due, event, own) before =
    ap (busy before) parts
    ∙ one_more before (first ++ paused) step
    ∙ ap (λ (b : Bool). busy_step b step)
    (busy_both before first paused ∙ ap (λ (b : Bool). busy b paused) (copies_busy f (suc n) first earlier before) ∙ pauses paused ticks pausing true)
    ∙ writes true step f (ap is_submitted event) own

abbrev is_busy : Turn → Bool
is_busy Idle = false
is_busy (Copied f copies ticks) = true
is_busy (Paused f copies ticks) = true

stands_busy : (turn : Turn) (steps : List Step) → Stands turn steps → busy false steps ≡ is_busy turn
stands_busy Idle steps stands = silent LeavesIdle idle_left steps stands false
stands_busy (Copied f copies ticks) steps (first, wait, parts, few, copied, waits) =
    ap (busy false) parts
    ∙ busy_both false first wait
    ∙ ap (λ (b : Bool). busy b wait) (copies_busy f copies first copied false)
    ∙ silent LeavesCopy copy_left wait waits.silent true
stands_busy (Paused f copies ticks) steps (first, paused, parts, few, copied, pausing, early) =
    ap (busy false) parts
    ∙ busy_both false first paused
    ∙ ap (λ (b : Bool). busy b paused) (copies_busy f copies first copied false)
    ∙ pauses paused ticks pausing true

-- ---- whole lives

life_ends : (steps : List Step) → IsLife steps → (before : Bool) → busy before steps ≡ false
life_ends steps life before = ap (busy before) life.parts ∙ one_more before life.life life.last ∙ over (busy before life.life)
  where
    over : (b : Bool) → busy_step b life.last ≡ false
    over b = elim life.ends [
      | inl sent ↦ ends b life.last (ap is_submitted sent.event) (ap ends_in sent.told)
      | inr fails ↦ ends b life.last (end_left fails.ticks life.last.event fails.event) (ap ends_in fails.told)
    ]

past_ends : (past : List (List Step)) → ArePast past → busy false (flat_map (λ (steps : List Step). steps) past) ≡ false
past_ends [] are = refl
past_ends (steps ∷ past) are =
    busy_both false steps (flat_map (λ (steps : List Step). steps) past)
    ∙ ap (λ (b : Bool). busy b (flat_map (λ (steps : List Step). steps) past)) (first are.0)
    ∙ past_ends past are.1
  where
    first : (IsLife steps ⊎ Silent LeavesIdle steps) → busy false steps ≡ false
    first (inl life) = life_ends steps life false
    first (inr all) = silent LeavesIdle idle_left steps all false

turns_busy : (history : List Step) (turn : Turn) → Turns history turn → busy false history ≡ is_busy turn
turns_busy history turn turns =
    ap (busy false) turns.parts
    ∙ busy_both false (flat_map (λ (steps : List Step). steps) turns.past) turns.now
    ∙ ap (λ (b : Bool). busy b turns.now) (past_ends turns.past turns.are_past)
    ∙ stands_busy turn turns.now turns.stands

-- ---- steps that write nothing

-- a frame that is submitted is written at once
abbrev IsLoud : Step → Type 0
IsLoud step = texts_of step ≡ [] → is_submitted step.event ≡ false

loud : (step : Step) → is_submitted step.event ≡ false → IsLoud step
loud step none = λ quiet. none

own_writes : (outs : List LinkOut) (f : FrameParts) → flat_map text_of outs ≡ [] → own_of outs ≡ Write (Framed f) ∷ [] → ⊥
own_writes [] f none own = let no : [] ≡ Write (Framed f) ∷ [] = own in cc
own_writes (Write unit ∷ outs) f none own = absurd cc
own_writes (Got g ∷ outs) f none own = own_writes outs f none own
own_writes (Bad refusal ∷ outs) f none own = own_writes outs f none own
own_writes (Sent ∷ outs) f none own = cc
own_writes (Failed copies ∷ outs) f none own = cc

silent_loud : (P : Event → Type 0) → ((event : Event) → P event → is_submitted event ≡ false) → (steps : List Step) → Silent P steps → AllByRecursion IsLoud steps
silent_loud P left [] all = tt
silent_loud P left (step ∷ steps) (is, own, more) = (loud step (left step.event is), silent_loud P left steps more)

loud_both : (one more both : List Step) → both ≡ one ++ more → AllByRecursion IsLoud one → AllByRecursion IsLoud more → AllByRecursion IsLoud both
loud_both one more both are first later = subst (AllByRecursion IsLoud) (sym are) (all-append IsLoud one more first later)

pauses_loud : (steps : List Step) (age : ℕ) → Pauses steps age → AllByRecursion IsLoud steps
pauses_loud steps age paused =
    loud_both paused.wait (paused.end ∷ paused.pause) steps paused.parts (silent_loud LeavesCopy copy_left paused.wait paused.waits)
    (loud paused.end (end_left _ paused.end.event paused.ends), silent_loud LeavesPause pause_left paused.pause paused.silent)

copies_loud : (f : FrameParts) (copies : ℕ) (steps : List Step) → Copies f copies steps → AllByRecursion IsLoud steps
copies_loud f zero steps copied = absurd copied
copies_loud f (suc zero) steps copied =
    subst (AllByRecursion IsLoud) (sym copied.alone) (λ quiet. absurd (own_writes copied.step.outs f quiet copied.written), tt)
copies_loud f (suc (suc n)) steps (first, paused, step, earlier, parts, ticks, pausing, due, event, own) =
    loud_both (first ++ paused) (step ∷ []) steps parts (all-append IsLoud first paused (copies_loud f (suc n) first earlier) (pauses_loud paused ticks pausing))
    (loud step (ap is_submitted event), tt)

stands_loud : (turn : Turn) (steps : List Step) → Stands turn steps → AllByRecursion IsLoud steps
stands_loud Idle steps stands = silent_loud LeavesIdle idle_left steps stands
stands_loud (Copied f copies ticks) steps (first, wait, parts, few, copied, waits) =
    loud_both first wait steps parts (copies_loud f copies first copied) (silent_loud LeavesCopy copy_left wait waits.silent)
stands_loud (Paused f copies ticks) steps (first, paused, parts, few, copied, pausing, early) =
    loud_both first paused steps parts (copies_loud f copies first copied) (pauses_loud paused ticks pausing)

life_loud : (steps : List Step) → IsLife steps → AllByRecursion IsLoud steps
life_loud steps life = elim life.ends [
  | inl sent ↦ loud_both life.life (life.last ∷ []) steps life.parts (stands_loud sent.turn life.life sent.stands) (loud life.last (ap is_submitted sent.event), tt)
  | inr fails ↦ loud_both life.life (life.last ∷ []) steps life.parts (stands_loud (Copied fails.frame 4 fails.ticks) life.life fails.stands) (loud life.last (end_left fails.ticks life.last.event fails.event), tt)
]

past_loud : (past : List (List Step)) → ArePast past → AllByRecursion IsLoud (flat_map (λ (steps : List Step). steps) past)
past_loud [] are = tt
past_loud (steps ∷ past) are = all-append IsLoud steps (flat_map (λ (steps : List Step). steps) past) (first are.0) (past_loud past are.1)
  where
    first : (IsLife steps ⊎ Silent LeavesIdle steps) → AllByRecursion IsLoud steps
    first (inl life) = life_loud steps life
    first (inr all) = silent_loud LeavesIdle idle_left steps all

turns_loud : (history : List Step) (turn : Turn) → Turns history turn → AllByRecursion IsLoud history
turns_loud history turn turns =
    loud_both (flat_map (λ (steps : List Step). steps) turns.past) turns.now history turns.parts (past_loud turns.past turns.are_past) (stands_loud turn turns.now turns.stands)

mute_rests : (steps : List Step) → AllByRecursion IsLoud steps → AllByRecursion IsMute steps → busy false steps ≡ false
mute_rests [] all mute = refl
mute_rests (step ∷ steps) all mute = ap (λ (b : Bool). busy b steps) one ∙ mute_rests steps all.1 mute.1
  where
    same : (b : Bool) → (if b then false else false) ≡ false
    same true = refl
    same false = refl

    one : busy_step false step ≡ false
    one = ap (λ (b : Bool). if b then true else (if ends_in step.outs then false else false)) (all.0 mute.0) ∙ same (ends_in step.outs)

-- ---- accounts

pub none_busy : (turn : Turn) → is_busy turn ≡ false → turn ≡ Idle
none_busy Idle is = refl
none_busy (Copied f copies ticks) is = absurd (let no : true ≡ false = is in cc)
none_busy (Paused f copies ticks) is = absurd (let no : true ≡ false = is in cc)

-- where one account has no frame, no other has one
pub idle_alike : (history : List Step) (one other : LinkSide) → SideObeys history one → SideObeys history other → one.turn ≡ Idle → other.turn ≡ Idle
idle_alike history one other first second idle =
    none_busy other.turn (sym (turns_busy history other.turn second.turns) ∙ turns_busy history one.turn first.turns ∙ ap is_busy idle)

-- and none has one after steps that wrote nothing
pub idle_still : (history mute : List Step) (one other : LinkSide) → SideObeys history one → SideObeys (history ++ mute) other → one.turn ≡ Idle → AllByRecursion IsMute mute → other.turn ≡ Idle
idle_still history mute one other first second idle quiet =
    let all = turns_loud (history ++ mute) other.turn second.turns in
    none_busy other.turn
    (sym (turns_busy (history ++ mute) other.turn second.turns)
    ∙ busy_both false history mute
    ∙ ap (λ (b : Bool). busy b mute) (turns_busy history one.turn first.turns ∙ ap is_busy idle)
    ∙ mute_rests mute (all-right IsLoud history mute all) quiet)
