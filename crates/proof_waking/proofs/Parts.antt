-- What a host puts out in each part: of itself, and behind an item.
use Rattle.std.proofs.Common.{◌≡◌, ℕ, List, [], ◌∷◌, refl, sym, ◌∙◌, subst, ap, append-nil}
use Rattle.std.specs.List.{AllByRecursion}
use Rattle.zw_base.proofs.Each.{all-append, all-weaker}
use Rattle.serial_frame.specs.Items.{unit_text}
use Rattle.serial_frame.specs.declared.unit.Unit.{Unit as LineUnit}
use Rattle.serial_frame.specs.declared.unit.Unit.TheVariants.{Ack, Nak, Can, Framed}
use Rattle.serial_frame.specs.declared.item.Item.{Item}
use Rattle.serial_frame.specs.declared.item.Item.TheVariants.{Good, Refused}
use Rattle.serial_frame.specs.declared.item.Refusal.TheVariants.{Stray, BadLength, BadSum, BadKind, Aborted}
use Rattle.zw_words.specs.declared.side.Side.TheVariants.{Host}
use Rattle.zw_text.specs.declared.entry.Entry.{Entry}
use Rattle.zw_text.specs.declared.entry.Entry.TheVariants as entry
use Rattle.proof_alone.specs.host_model.State.{HostState}
use Rattle.proof_alone.specs.host_model.Events.{HostEvent, Accepts, Hears, Requests_do, Line_ticks, Node_ticks, Queues_no_more, Drops_no_more, Submits_abort, Submits_front, Starts, Gives_text, Gives_segment, Begins, Begin_unkept, IsOwn}
use Rattle.proof_alone.specs.host_model.Outs.{answer_to, noted, outs}
use Rattle.proof_alone.specs.host_model.declared.out.HostOut.{HostOut}
use Rattle.proof_alone.specs.host_model.declared.out.HostOut.TheVariants.{Note, Write}
use Rattle.proof_alone.proofs.HostOuts.{OutsAre, OwnIs, SharedAre, outs_are}
use Rattle.proof_alone.specs.Steps.{AreTold, IsOfUnit}
use Rattle.proof_alone.proofs.proof_line_Hosting.{MayWrite, NoUnit, UnitsAre, outs_write}
pub use Rattle.proof_alone.proofs.proof_line_Hosting.{HearsNothing, IsFrameOr, next_nothing, no_more_nothing, puts_frames_or}
use Rattle.proof_waking.specs.Judged.{IsOfRequest}
use Rattle.proof_alone.specs.proof_walk.Outside.{IsHostNote}
use Rattle.proof_alone.proofs.Apart.{AreOfLine, told_are}
use Rattle.proof_alone.proofs.HostNotes.{NoteOuts, all_outs_note}
use Rattle.proof_waking.proofs.Apart.{IsApart, IsWordless}
use Rattle.proof_waking.proofs.Followed.{MayFollow}

-- ---- entries

-- no node counts as awake by it
abbrev pub IsNoWaking : Entry → Type 0
IsNoWaking (entry.Awake node) = ⊥
IsNoWaking e = Unit {0}

-- it is apart, and so
abbrev pub IsStill : Entry → Type 0
IsStill e = IsApart e × IsNoWaking e

-- a note of the host on what it judged
abbrev pub IsNoted : Entry → Type 0
IsNoted (entry.Said words) = ⊥
IsNoted (entry.Accepted command node) = ⊥
IsNoted (entry.Refused refusal) = ⊥
IsNoted (entry.Begin node session command) = ⊥
IsNoted (entry.Written side unit) = ⊥
IsNoted (entry.Dropped side) = ⊥
IsNoted (entry.Garbled side unit) = ⊥
IsNoted (entry.Overrun side) = ⊥
IsNoted (entry.Air frame sender receiver repeaters payload) = ⊥
IsNoted (entry.Heard frame) = ⊥
IsNoted (entry.Lost frame) = ⊥
IsNoted (entry.Unheard frame) = ⊥
IsNoted (entry.Dev node by setting) = ⊥
IsNoted (entry.Forget first second) = ⊥
IsNoted entry.ChipFull = ⊥
IsNoted (entry.Cleared side count) = ⊥
IsNoted (entry.Time tick) = ⊥
IsNoted e = Unit {0}

still_shared : SharedAre IsStill
still_shared = record {
  unanswered = λ command. (tt, tt);
  asleep = λ n. (tt, tt);
  done = λ n how. (tt, tt);
  uninterviewed = λ n. (tt, tt);
  neighbours = λ n nodes. (tt, tt);
  failed = λ n is_failed. (tt, tt);
  stored = λ n setting. (tt, tt);
  held = λ n. (tt, tt);
  full = λ n. (tt, tt);
}

noted_shared : SharedAre IsNoted
noted_shared = record {
  unanswered = λ command. tt;
  asleep = λ n. tt;
  done = λ n how. tt;
  uninterviewed = λ n. tt;
  neighbours = λ n nodes. tt;
  failed = λ n is_failed. tt;
  stored = λ n setting. tt;
  held = λ n. tt;
  full = λ n. tt;
}

-- ---- what is told

pub event_notes : (h : HostState) (event : HostEvent) → NoteOuts (outs h event)
event_notes h event = subst NoteOuts (append-nil (outs h event)) (all_outs_note h (event ∷ []))

note_wordless : (e : Entry) → IsHostNote e → IsWordless e
note_wordless (entry.Said words) note = absurd note
note_wordless (entry.Refused refusal) note = absurd note
note_wordless e note = tt

line_wordless : AreOfLine IsWordless
line_wordless = record { written = λ side text. tt; dropped = λ side. tt; garbled = λ side text. tt; overrun = λ side. tt }

pub told_wordless : (h : HostState) (event : HostEvent) (told : List Entry) → AreTold (outs h event) told → AllByRecursion IsWordless told
told_wordless h event told are = told_are IsWordless line_wordless note_wordless (outs h event) told (event_notes h event) are

-- ---- where nothing is written

abbrev pub IsNote : HostOut → Type 0
IsNote (Write unit) = ⊥
IsNote (Note e) = Unit {0}

pub noted_notes : (told : List Entry) → AllByRecursion IsNote (noted told)
noted_notes [] = tt
noted_notes (e ∷ told) = (tt, noted_notes told)

abbrev pub WritesNothing : HostEvent → Type 0
WritesNothing (Hears item) = ⊥
WritesNothing Line_ticks = ⊥
WritesNothing Submits_abort = ⊥
WritesNothing Submits_front = ⊥
WritesNothing (Starts n plan more payload) = ⊥
WritesNothing (Gives_text n payload) = ⊥
WritesNothing (Gives_segment n more payload) = ⊥
WritesNothing event = Unit {0}

may_none : (event : HostEvent) → WritesNothing event → MayWrite NoUnit event
may_none (Hears item) nothing = absurd nothing
may_none Line_ticks nothing = absurd nothing
may_none Submits_abort nothing = absurd nothing
may_none Submits_front nothing = absurd nothing
may_none (Starts n plan more payload) nothing = absurd nothing
may_none (Gives_text n payload) nothing = absurd nothing
may_none (Gives_segment n more payload) nothing = absurd nothing
may_none event nothing = tt

none_written : (puts : List HostOut) → UnitsAre NoUnit puts → AllByRecursion IsNote puts
none_written [] none = tt
none_written (Write unit ∷ puts) none = absurd none.0
none_written (Note e ∷ puts) none = (tt, none_written puts none)

pub writes_nothing : (h : HostState) (event : HostEvent) → WritesNothing event → AllByRecursion IsNote (outs h event)
writes_nothing h event nothing = none_written (outs h event) (outs_write NoUnit h event (may_none event nothing))

-- nor does a request or an attempt end
abbrev pub NotesAlone : HostEvent → Type 0
NotesAlone (Requests_do event moment) = ⊥
NotesAlone (Node_ticks n) = ⊥
NotesAlone event = WritesNothing event

pub alone_writes : (event : HostEvent) → NotesAlone event → WritesNothing event
alone_writes (Requests_do event moment) alone = absurd alone
alone_writes (Node_ticks n) alone = absurd alone
alone_writes event alone = alone

-- what is told there is what is noted
pub noted_told : (notes told : List Entry) → AreTold (noted notes) told → told ≡ notes
noted_told [] told is = is
noted_told (e ∷ notes) told (rest, is, more) = is ∙ ap (λ (l : List Entry). e ∷ l) (noted_told notes rest more)

pub notes_told : (Is : Entry → Type 0) (puts : List HostOut) (told : List Entry) → AllByRecursion IsNote puts → OutsAre Is puts → AreTold puts told → AllByRecursion Is told
notes_told Is [] told notes are is = subst (AllByRecursion Is) (sym is) tt
notes_told Is (Write unit ∷ puts) told notes are is = absurd notes.0
notes_told Is (Note e ∷ puts) told notes are (rest, is, more) = subst (AllByRecursion Is) (sym is) (are.0, notes_told Is puts rest notes.1 are.1 more)

-- where one unit is written alone, it and what became of it
pub unit_told : (Is : Entry → Type 0) → ((e : Entry) → IsOfUnit e → Is e) → (unit : LineUnit) (told : List Entry) → Is (entry.Written Host (unit_text unit)) → AreTold (Write unit ∷ []) told
    → AllByRecursion Is told
unit_told Is mark unit told written (marks, rest, is, all, none) =
    subst (AllByRecursion Is) (sym is) (written, all-append Is marks rest (all-weaker IsOfUnit Is mark marks all) (subst (AllByRecursion Is) (sym none) tt))

-- an item is answered by an acknowledgement or a denial, or not
pub item_told : (Is : List Entry → Type 0) → ((told : List Entry) → AreTold (Write Ack ∷ []) told → Is told) → ((told : List Entry) → AreTold (Write Nak ∷ []) told → Is told)
    → Is [] → (item : Item) (told : List Entry) → AreTold (answer_to item) told → Is told
item_told Is acked denied none (Good (Framed f)) told are = acked told are
item_told Is acked denied none (Good Ack) told are = subst Is (sym are) none
item_told Is acked denied none (Good Nak) told are = subst Is (sym are) none
item_told Is acked denied none (Good Can) told are = subst Is (sym are) none
item_told Is acked denied none (Refused (BadSum want got)) told are = denied told are
item_told Is acked denied none (Refused (BadKind x)) told are = denied told are
item_told Is acked denied none (Refused (Stray x)) told are = subst Is (sym are) none
item_told Is acked denied none (Refused (BadLength n)) told are = subst Is (sym are) none
item_told Is acked denied none (Refused Aborted) told are = subst Is (sym are) none

-- ---- of itself

own_hears : (event : HostEvent) → IsOwn event → HearsNothing event
own_hears (Hears item) own = absurd own
own_hears event own = tt

own_still : (h : HostState) (event : HostEvent) → IsOwn event → OutsAre IsStill (outs h event)
own_still h Line_ticks own = outs_are IsStill still_shared h Line_ticks tt
own_still h (Requests_do event moment) own = outs_are IsStill still_shared h (Requests_do event moment) tt
own_still h (Node_ticks n) own = outs_are IsStill still_shared h (Node_ticks n) tt
own_still h (Queues_no_more n) own = tt
own_still h (Drops_no_more n) own = ((tt, tt), tt)
own_still h Submits_abort own = (tt, tt)
own_still h Submits_front own = (tt, tt)
own_still h (Starts n plan more payload) own = (tt, tt)
own_still h (Gives_text n payload) own = (tt, tt)
own_still h (Gives_segment n more payload) own = (tt, tt)
own_still h (Begins n session command) own = ((tt, tt), tt)
own_still h (Begin_unkept n) own = ((tt, tt), tt)
own_still h event own = absurd own

-- a frame is no acknowledgement
pub mark_still : (e : Entry) → IsOfUnit e → IsStill e
mark_still (entry.Dropped Host) mark = (tt, tt)
mark_still (entry.Garbled Host unit) mark = (tt, tt)
mark_still (entry.Overrun Host) mark = (tt, tt)
mark_still e mark = absurd mark

told_still : (puts : List HostOut) (told : List Entry) → AllByRecursion (IsFrameOr IsStill) puts → AreTold puts told → AllByRecursion IsStill told
told_still [] told are is = subst (AllByRecursion IsStill) (sym is) tt
told_still (Note e ∷ puts) told are (rest, is, more) = subst (AllByRecursion IsStill) (sym is) (are.0, told_still puts rest are.1 more)
told_still (Write (Framed f) ∷ puts) told are (marks, rest, is, all, more) =
    subst (AllByRecursion IsStill) (sym is)
    ((refl, tt), all-append IsStill marks rest (all-weaker IsOfUnit IsStill mark_still marks all) (told_still puts rest are.1 more))
told_still (Write unit ∷ puts) told are is = absurd are.0

pub own_told : (h : HostState) (event : HostEvent) (told : List Entry) → IsOwn event → AreTold (outs h event) told → AllByRecursion IsStill told
own_told h event told own is = told_still (outs h event) told (puts_frames_or IsStill h event (own_hears event own) (own_still h event own)) is

-- the request under way hears of something
pub request_told : (h : HostState) (event : HostEvent) (told : List Entry) → IsOfRequest event → AreTold (outs h event) told → AllByRecursion IsStill told
request_told h (Requests_do event moment) told of_it is =
    notes_told IsStill (outs h (Requests_do event moment)) told (writes_nothing h (Requests_do event moment) tt) (outs_are IsStill still_shared h (Requests_do event moment) tt) is
request_told h event told of_it is = absurd of_it

-- ---- behind a frame

follow_writes : (unit : List ℕ) (event : HostEvent) → MayFollow unit event → WritesNothing event
follow_writes unit (Hears item) may = absurd may
follow_writes unit Line_ticks may = absurd may
follow_writes unit Submits_abort may = absurd may
follow_writes unit Submits_front may = absurd may
follow_writes unit (Starts n plan more payload) may = absurd may
follow_writes unit (Gives_text n payload) may = absurd may
follow_writes unit (Gives_segment n more payload) may = absurd may
follow_writes unit event may = tt

pub follow_notes : (unit : List ℕ) (h : HostState) (event : HostEvent) → MayFollow unit event → AllByRecursion IsNote (outs h event)
follow_notes unit h event may = writes_nothing h event (follow_writes unit event may)

follow_own : (unit : List ℕ) (event : HostEvent) → MayFollow unit event → OwnIs IsNoted event
follow_own unit (Accepts order carriage) may = absurd may
follow_own unit (Begins n session command) may = absurd may
follow_own unit event may = tt

-- what is noted is told as it is put out
pub record IsNotedSo (puts : List HostOut) (told : List Entry) : Type 0 where
  pub noted_are : AllByRecursion IsNoted told
  pub none : told ≡ [] → puts ≡ []

none_put : (puts : List HostOut) (told : List Entry) → AllByRecursion IsNote puts → AreTold puts told → told ≡ [] → puts ≡ []
none_put [] told notes is empty = refl
none_put (Write unit ∷ puts) told notes is empty = absurd notes.0
none_put (Note e ∷ puts) told notes (rest, is, more) empty = absurd (let bad : e ∷ rest ≡ [] = sym is ∙ empty in cc)

pub follow_told : (unit : List ℕ) (h : HostState) (event : HostEvent) (told : List Entry) → MayFollow unit event → AreTold (outs h event) told → IsNotedSo (outs h event) told
follow_told unit h event told may is =
    let notes = follow_notes unit h event may in record {
      noted_are = notes_told IsNoted (outs h event) told notes (outs_are IsNoted noted_shared h event (follow_own unit event may)) is;
      none = λ empty. none_put (outs h event) told notes is empty;
    }
