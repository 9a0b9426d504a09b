-- A side that hears nothing answers nothing, and one that writes nothing waits for nothing.
use Rattle.std.proofs.Common.{◌≡◌, ℕ, suc, Bool, List, [], ◌∷◌, ◌++◌, refl, sym, ap, subst, ◌∙◌}
use Rattle.std.specs.List.{AllByRecursion, flat_map}
use Rattle.std.specs.Prelude.{zero, slice_index}
use Rattle.serial_frame.specs.declared.item.Item.{Item}
use Rattle.serial_frame.specs.declared.unit.Unit.TheVariants.{Ack, Nak, Can, Framed}
use Rattle.serial_frame.specs.Frame.{FrameParts}
use Rattle.serial_link.specs.Rules.{own_of, Copies, Stands, Turns, Event, heard, ticked, submitted, asked, Step, outs_of, item_of, items_of, answers_of, answer_due, collides, Answers}
use Rattle.serial_link.specs.declared.turn.Turn.{Turn}
use Rattle.serial_link.specs.declared.turn.Turn.TheVariants.{Idle, Copied, Paused}
use Rattle.serial_link.specs.declared.out.LinkOut.{LinkOut}
use Rattle.serial_link.specs.declared.out.LinkOut.TheVariants.{Write, Got, Sent, Failed, Bad}
use Rattle.std.proofs.lemmas.List.Concat.{flat_map-append}
use Rattle.law_wire.specs.Links.{text_of}

-- no list begins with an item and is empty
pub not_empty : {A : Type 0} (item : A) (items : List A) → item ∷ items ≡ [] → ⊥
not_empty item items e = cc

-- lists of nothing
pub prefix_none : {A : Type 0} (first second : List A) → first ++ second ≡ [] → first ≡ []
prefix_none [] second e = refl
prefix_none (item ∷ first) second e = absurd (not_empty item (first ++ second) e)

pub rest_none : {A : Type 0} (first second : List A) → first ++ second ≡ [] → second ≡ []
rest_none [] second e = e
rest_none (item ∷ first) second e = absurd (not_empty item (first ++ second) e)

-- a text that begins a data frame
abbrev pub BeginsFrame : List ℕ → Type 0
BeginsFrame text = slice_index text 0 ≡ 1

-- outputs that answer nothing write frames alone
no_answers : (outs : List LinkOut) → answers_of outs ≡ [] → AllByRecursion BeginsFrame (flat_map text_of outs)
no_answers [] none = tt
no_answers (Write Ack ∷ outs) none = absurd (not_empty _ _ none)
no_answers (Write Nak ∷ outs) none = absurd (not_empty _ _ none)
no_answers (Write Can ∷ outs) none = absurd (not_empty _ _ none)
no_answers (Write (Framed f) ∷ outs) none = (refl, no_answers outs none)
no_answers (Got f ∷ outs) none = absurd (not_empty _ _ none)
no_answers (Sent ∷ outs) none = no_answers outs none
no_answers (Failed n ∷ outs) none = no_answers outs none
no_answers (Bad r ∷ outs) none = absurd (not_empty _ _ none)

pub all_append : {A : Type 0} (P : A → Type 0) (first second : List A) → AllByRecursion P first → AllByRecursion P second → AllByRecursion P (first ++ second)
all_append P [] second one two = two
all_append P (item ∷ first) second one two = (one.0, all_append P first second one.1 two)

-- an event at which nothing is heard is answered by nothing
pub unanswered : (collision : Bool) (event : Event) (more : List Item) → item_of event ++ more ≡ [] → answer_due collision event ≡ []
unanswered collision (heard item) more none = absurd (not_empty item more none)
unanswered collision ticked more none = refl
unanswered collision (submitted f) more none = refl
unanswered collision asked more none = refl

-- so are steps at which nothing is heard
pub silent : (past steps : List Step) → Answers past steps → items_of steps ≡ [] → AllByRecursion BeginsFrame (flat_map text_of (outs_of steps))
silent past [] answers none = tt
silent past (step ∷ steps) answers none =
    subst (λ texts. AllByRecursion BeginsFrame texts) (sym (flat_map-append text_of step.outs (outs_of steps)))
    (all_append BeginsFrame _ _ (no_answers step.outs (answers.0 ∙ unanswered (collides past) step.event (items_of steps) none))
    (silent (past ++ step ∷ []) steps answers.1 (rest_none (item_of step.event) (items_of steps) none)))

-- ---- a side that writes nothing

-- what steps write
abbrev pub texts : List Step → List (List ℕ)
texts steps = flat_map text_of (outs_of steps)

pub texts_append : (first second : List Step) → texts (first ++ second) ≡ texts first ++ texts second
texts_append first second =
    ap (λ outs. flat_map text_of outs) (flat_map-append (λ (step : Step). step.outs) first second) ∙ flat_map-append text_of (outs_of first) (outs_of second)

-- outputs of which those of the side's own are one frame write something
own_writes : (outs : List LinkOut) (f : FrameParts) → own_of outs ≡ Write (Framed f) ∷ [] → flat_map text_of outs ≡ [] → ⊥
own_writes [] f own none = cc
own_writes (Write unit ∷ outs) f own none = not_empty _ _ none
own_writes (Got got ∷ outs) f own none = own_writes outs f own none
own_writes (Sent ∷ outs) f own none = cc
own_writes (Failed n ∷ outs) f own none = cc
own_writes (Bad r ∷ outs) f own none = own_writes outs f own none

last_writes : (step : Step) (f : FrameParts) → own_of step.outs ≡ Write (Framed f) ∷ [] → texts (step ∷ []) ≡ [] → ⊥
last_writes step f own none = own_writes step.outs f own (prefix_none _ _ (sym (flat_map-append text_of step.outs []) ∙ none))

-- so a frame that was submitted has been written
copies_write : (f : FrameParts) (copies : ℕ) (steps : List Step) → Copies f copies steps → texts steps ≡ [] → ⊥
copies_write f zero steps copied none = copied
copies_write f (suc zero) steps copied none = last_writes copied.step f copied.written (sym (ap texts copied.alone) ∙ none)
copies_write f (suc (suc n)) steps (before, paused, step, earlier, parts, ticks, pauses, due, event, own) none =
    last_writes step f own (rest_none (texts (before ++ paused)) (texts (step ∷ []))
    (sym (texts_append (before ++ paused) (step ∷ [])) ∙ sym (ap texts parts) ∙ none))

stands_idle : (turn : Turn) (steps : List Step) → Stands turn steps → texts steps ≡ [] → turn ≡ Idle
stands_idle Idle steps stands none = refl
stands_idle (Copied f copies ticks) steps (before, wait, parts, few, copied, waits) none =
    absurd (copies_write f copies before copied (prefix_none (texts before) (texts wait) (sym (texts_append before wait) ∙ sym (ap texts parts) ∙ none)))
stands_idle (Paused f copies ticks) steps (before, paused, parts, few, copied, pauses, early) none =
    absurd (copies_write f copies before copied (prefix_none (texts before) (texts paused) (sym (texts_append before paused) ∙ sym (ap texts parts) ∙ none)))

-- and a side that wrote nothing waits for nothing
pub idle : (history : List Step) (turn : Turn) → Turns history turn → texts history ≡ [] → turn ≡ Idle
idle history turn turns none =
    let before = flat_map (λ steps. steps) turns.past in
    stands_idle turn turns.now turns.stands
    (rest_none (texts before) (texts turns.now) (sym (texts_append before turns.now) ∙ sym (ap texts turns.parts) ∙ none))
