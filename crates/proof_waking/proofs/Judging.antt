-- At each step of a host alone what it has judged is tied to its transcript; and what is entered is allowed where nodes count as awake as they tell.
use Rattle.std.proofs.Common.{◌≡◌, ℕ, Bool, true, false, inl, inr, List, [], ◌∷◌, ◌++◌, refl, sym, ap, ◌∙◌, subst, append-nil, append_assoc}
use Rattle.std.specs.List.{AllByRecursion}
use Rattle.std.proofs.lemmas.Bool.{and_right, both_ways}
use Rattle.zw_base.proofs.Each.{all-weaker}
use Rattle.serial_frame.specs.Items.{unit_text}
use Rattle.serial_frame.specs.Frame.{FrameParts}
use Rattle.serial_frame.specs.declared.item.Item.{Item}
use Rattle.serial_frame.specs.declared.item.Item.TheVariants.{Good, Refused as refused_item}
use Rattle.serial_frame.specs.declared.item.Refusal.TheVariants.{Stray, BadLength, BadSum, BadKind, Aborted}
use Rattle.serial_frame.specs.declared.unit.Unit.{Unit as LineUnit}
use Rattle.serial_frame.specs.declared.unit.Unit.TheVariants.{Ack, Nak, Can, Framed}
use Rattle.zw_words.specs.declared.side.Side.TheVariants.{Host, Chip}
use Rattle.zw_text.specs.declared.line.Line.{Line}
use Rattle.zw_text.specs.declared.line.Line.TheVariants as lines
use Rattle.zw_text.specs.declared.entry.Refusal.{Refusal}
use Rattle.zw_text.specs.declared.entry.Entry.{Entry}
use Rattle.zw_text.specs.declared.entry.Entry.TheVariants as entry
use Rattle.zw_text.specs.Transcript.{folded, line_of}
use Rattle.zw_text.proofs.Views.{folded-append}
use Rattle.proof_alone.specs.law_transcript.Lists.{EachAfter}
use Rattle.proof_alone.specs.law_transcript.Restarts.{is_restart}
use Rattle.proof_alone.specs.law_time.Judged.{after_step, is_following, is_mark, judged, last_of}
use Rattle.proof_alone.specs.law_time.Moments.{Allows}
use Rattle.proof_alone.specs.law_time.Waking.{may_wake}
use Rattle.host_requests.specs.Events.{RequestsEvent}
use Rattle.host_requests.specs.Events.RequestsEvent.{Fails as request_fails, IsSent as request_is_sent}
use Rattle.proof_alone.specs.host_model.State.{HostState}
use Rattle.proof_alone.specs.host_model.Events.{HostEvent, Accepts, Cancels, Hears, IsOwn}
use Rattle.proof_alone.specs.host_model.After.{after, gives_up, is_busy}
use Rattle.proof_alone.specs.host_model.Outs.{answer_to, answers, outs}
use Rattle.proof_alone.specs.host_model.Taking.{IsFollowed, told_if}
use Rattle.proof_alone.specs.host_model.Ticking.{tick_events}
use Rattle.proof_alone.proofs.Own.{sleepers_own, submitted_own, tick_own}
use Rattle.proof_alone.proofs.Submitted.{next_is as submitted_is, no_more_is}
use Rattle.proof_alone.specs.world_model.Events.{shown_values}
use Rattle.proof_alone.specs.State.{HostMachine, done}
use Rattle.proof_alone.specs.Steps.{AreTold, AsksNothing, DidNotCome, IsAskedBy, IsOfOthers, IsOfUnit, Step, Tells, Comes, Misses, Says, Says_nothing, Asks, Refuses, Shows, Restarts, Begins_tick, Numbers, Judges, Does, entries, happens}
use Rattle.proof_alone.specs.Phases.{Phase, Resting, Asked, Risen, Ticking, Open, Behind, Sleeping, Submitting, IsBetween, IsJudgedNow, IsNumbered, May, Turns, GoesBy}
use Rattle.proof_alone.specs.Runs.{Walk}
use Rattle.proof_waking.specs.Judged.{AfterWords, IsBehindFrame, IsOfRequest, KnowsJudged, Settled, TieFrames, TieJudged, frames_of, IsElse}
use Rattle.proof_waking.proofs.Apart.{IsApart, acknowledged_frames, anew_frames, apart_frames, apart_judged, come_frames, missed_frames, refused_frames, said_frames}
use Rattle.proof_waking.proofs.Parts.{IsNoWaking, IsStill, mark_still, own_told, request_told, unit_told}
use Rattle.proof_waking.proofs.Settling.{all_apart, behind_frames, behind_stands, event_behind, mark_stands, may_stand, owes_settled, settled_more, still_stand, unfollowed}

abbrev Stands : List Entry → List Entry → Type 0
Stands past told = EachAfter (Allows may_wake) past told

abbrev Goes : Phase → List Entry → HostMachine → Step → Type 0
Goes next past m one = Stands past (entries m one) × KnowsJudged next (past ++ entries m one) (happens m one)

tied : (past : List Entry) (came : List LineUnit) → TieFrames past came → Settled past → TieJudged past came
tied past came frames settled = record { frames = frames; settled = settled }

-- ---- entries apart

still_goes : (past told : List Entry) (came : List LineUnit) → AllByRecursion IsStill told → TieJudged past came → Stands past told × TieJudged (past ++ told) came
still_goes past told came all rests = (
  still_stand past told all rests.settled,
  tied (past ++ told) came (apart_frames past told came (all_apart told all) rests.frames) (settled_more past told (all_apart told all) rests.settled),
)

others_still : (e : Entry) → IsOfOthers e → IsStill e
others_still (entry.Said words) others = absurd others
others_still (entry.Refused refusal) others = absurd others
others_still (entry.Written side unit) others = absurd others
others_still (entry.Dropped side) others = absurd others
others_still (entry.Garbled side unit) others = absurd others
others_still (entry.Overrun side) others = absurd others
others_still (entry.Awake node) others = absurd others
others_still e others = (tt, tt)

answers_still : (h : HostState) (event : HostEvent) → AllByRecursion IsStill (answers h event)
answers_still h (Accepts order carriage) = ((tt, tt), tt)
answers_still h (Cancels command) = ((tt, tt), tt)
answers_still h event = tt

after_end : (past : List Entry) (e : Entry) → ((b : Bool) → after_step b e ≡ false) → Settled (past ++ e ∷ [])
after_end past e ends = unfollowed (past ++ e ∷ []) (folded-append after_step false past (e ∷ []) ∙ ends (is_following past))

-- ---- units of the chip

chip_ends : (text : List ℕ) (b : Bool) → after_step b (entry.Written Chip text) ≡ false
chip_ends text b = and_right b false refl

comes : (past : List Entry) (came : List LineUnit) (unit : LineUnit) → TieJudged past came
    → Stands past (entry.Written Chip (unit_text unit) ∷ []) × TieJudged (past ++ entry.Written Chip (unit_text unit) ∷ []) (came ++ unit ∷ [])
comes past came unit rests =
    let e : Entry = entry.Written Chip (unit_text unit) in
    ((may_stand past e tt (owes_settled past rests.settled), tt), tied (past ++ e ∷ []) (came ++ unit ∷ []) (come_frames past came unit rests.frames) (after_end past e (chip_ends (unit_text unit))))

-- what became of a unit of the chip follows no acknowledgement
abbrev IsOfChip : Entry → Type 0
IsOfChip (entry.Dropped Chip) = Unit {0}
IsOfChip (entry.Garbled Chip unit) = Unit {0}
IsOfChip (entry.Overrun Chip) = Unit {0}
IsOfChip e = ⊥

missed_of : (marks : List Entry) → DidNotCome marks → AllByRecursion IsOfChip marks
missed_of (entry.Dropped Chip ∷ []) did = (tt, tt)
missed_of (entry.Overrun Chip ∷ []) did = (tt, tt)
missed_of (entry.Garbled Chip unit ∷ []) did = (tt, tt)
missed_of (entry.Garbled Chip unit ∷ entry.Overrun Chip ∷ []) did = (tt, (tt, tt))
missed_of marks did = absurd did

mark_ends : (e : Entry) → IsOfChip e → after_step false e ≡ false
mark_ends (entry.Dropped Chip) mark = refl
mark_ends (entry.Garbled Chip unit) mark = refl
mark_ends (entry.Overrun Chip) mark = refl
mark_ends e mark = absurd mark

mark_no_waking : (e : Entry) → IsOfChip e → IsNoWaking e
mark_no_waking (entry.Awake node) mark = absurd mark
mark_no_waking e mark = tt

marks_go : (past marks : List Entry) → AllByRecursion IsOfChip marks → is_following past ≡ false → Stands past marks × (is_following (past ++ marks) ≡ false)
marks_go past [] all none = (tt, subst (λ (l : List Entry). is_following l ≡ false) (sym (append-nil past)) none)
marks_go past (e ∷ marks) all none =
    let next : is_following (past ++ e ∷ []) ≡ false =
    folded-append after_step false past (e ∷ []) ∙ ap (λ (b : Bool). after_step b e) none ∙ mark_ends e all.0 in
    let more = marks_go (past ++ e ∷ []) marks all.1 next in (
      (may_stand past e (mark_no_waking e all.0) (owes_settled past (unfollowed past none)), more.0),
      subst (λ (l : List Entry). is_following l ≡ false) (append_assoc past (e ∷ []) marks) more.1,
    )

misses : (past : List Entry) (came : List LineUnit) (text : List ℕ) (marks : List Entry) → DidNotCome marks → TieJudged past came
    → Stands past (entry.Written Chip text ∷ marks) × TieJudged (past ++ entry.Written Chip text ∷ marks) came
misses past came text marks did rests =
    let e : Entry = entry.Written Chip text in
    let none : is_following (past ++ e ∷ []) ≡ false = folded-append after_step false past (e ∷ []) ∙ chip_ends text (is_following past) in
    let more = marks_go (past ++ e ∷ []) marks (missed_of marks did) none in (
      (may_stand past e tt (owes_settled past rests.settled), more.0),
      tied (past ++ e ∷ marks) came (missed_frames past came text marks did rests.frames)
          (unfollowed (past ++ e ∷ marks) (subst (λ (l : List Entry). is_following l ≡ false) (append_assoc past (e ∷ []) marks) more.1)),
    )

-- ---- between the parts of the host

to_rest : (here : Phase) (past : List Entry) (m : HostMachine) → IsBetween here → KnowsJudged here past m → TieJudged past m.came
to_rest Resting past m between known = known
to_rest Risen past m between known = known
to_rest Open past m between known = known
to_rest (Asked line) past m between known = absurd between
to_rest (Ticking left) past m between known = absurd between
to_rest (Behind left) past m between known = absurd between
to_rest Sleeping past m between known = absurd between
to_rest Submitting past m between known = absurd between

from_rest : (here : Phase) (past : List Entry) (m : HostMachine) → IsBetween here → TieJudged past m.came → KnowsJudged here past m
from_rest Resting past m between rests = rests
from_rest Risen past m between rests = rests
from_rest Open past m between rests = rests
from_rest (Asked line) past m between rests = absurd between
from_rest (Ticking left) past m between rests = absurd between
from_rest (Behind left) past m between rests = absurd between
from_rest Sleeping past m between rests = absurd between
from_rest Submitting past m between rests = absurd between

-- there a step leads to the same phase
stays : (here next : Phase) (past : List Entry) (m : HostMachine) (one : Step) → IsBetween here → next ≡ here
    → Stands past (entries m one) × TieJudged (past ++ entries m one) (happens m one).came → Goes next past m one
stays here next past m one between next_is got =
    subst (λ (p : Phase). Goes p past m one) (sym next_is) (got.0, from_rest here (past ++ entries m one) (happens m one) between got.1)

-- ---- lines

said_ends : (words : List ℕ) (b : Bool) → after_step b (entry.Said words) ≡ false
said_ends words b = and_right b false refl

refused_ends : (refusal : Refusal) (b : Bool) → after_step b (entry.Refused refusal) ≡ false
refused_ends refusal b = and_right b false refl

words_settled : (line : Line) (past : List Entry) (m : HostMachine) → AfterWords line past m → Settled past
words_settled line past m known = subst Settled (sym known.are) (after_end known.before (entry.Said known.words) (said_ends known.words))

words_rest : (line : Line) (past : List Entry) (m : HostMachine) → is_restart (line ∷ []) ≡ false → AfterWords line past m → TieJudged past m.came
words_rest line past m goes_on known =
    tied past m.came (subst (λ (l : List Entry). TieFrames l m.came) (sym known.are) (said_frames known.before m.came known.words (ap is_restart known.read ∙ goes_on) known.frames))
    (words_settled line past m known)

pub asked_on : (line : Line) (h : HostState) (event : HostEvent) → IsAskedBy line h event → is_restart (line ∷ []) ≡ false
asked_on lines.Restart h event is = absurd is
asked_on line h event is = refl

pub nothing_on : (line : Line) → AsksNothing line → is_restart (line ∷ []) ≡ false
nothing_on lines.Restart is = absurd is
nothing_on line is = refl

as_known : (here is : Phase) (past : List Entry) (m : HostMachine) → here ≡ is → KnowsJudged here past m → KnowsJudged is past m
as_known here is past m same known = subst (λ (p : Phase). KnowsJudged p past m) same known

leads : (next to : Phase) (past : List Entry) (m : HostMachine) (one : Step) → next ≡ to → Goes to past m one → Goes next past m one
leads next to past m one same goes = subst (λ (p : Phase). Goes p past m one) (sym same) goes

refuses : (line : Line) (past : List Entry) (m : HostMachine) (refusal : Refusal) → AfterWords line past m → Goes Open past m (Refuses refusal)
refuses line past m refusal known =
    let e : Entry = entry.Refused refusal in (
      (may_stand past e tt (owes_settled past (words_settled line past m known)), tt),
      tied (past ++ e ∷ []) m.came
          (subst (λ (l : List Entry). TieFrames (l ++ e ∷ []) m.came) (sym known.are)
          (subst (λ (l : List Entry). TieFrames l m.came) (sym (append_assoc known.before (entry.Said known.words ∷ []) (e ∷ [])))
          (refused_frames known.before m.came known.words refusal known.frames)))
          (after_end past e (refused_ends refusal)),
    )

restarts : (past : List Entry) (m : HostMachine) (state : HostState) → AfterWords lines.Restart past m → Goes Open past m (Restarts state)
restarts past m state known = (
  tt,
  subst (λ (l : List Entry). TieJudged l []) (sym (append-nil past))
      (tied past [] (subst (λ (l : List Entry). TieFrames l []) (sym known.are) (anew_frames known.before known.words (ap is_restart known.read))) (words_settled lines.Restart past m known)),
)

says : (line : Line) (past : List Entry) (m : HostMachine) (words : List ℕ) → line_of (entry.Said words) ≡ line ∷ [] → TieJudged past m.came → Goes (Asked line) past m (Says words line)
says line past m words read rests = (
  (may_stand past (entry.Said words) tt (owes_settled past rests.settled), tt),
  record { before = past; words = words; are = refl; read = read; frames = rests.frames; unnumbered = refl },
)

says_nothing : (past : List Entry) (m : HostMachine) (words : List ℕ) → line_of (entry.Said words) ≡ [] → TieJudged past m.came → Goes Resting past m (Says_nothing words)
says_nothing past m words none rests = (
  (may_stand past (entry.Said words) tt (owes_settled past rests.settled), tt),
  tied (past ++ entry.Said words ∷ []) m.came (said_frames past m.came words (ap is_restart none) rests.frames) (after_end past (entry.Said words) (said_ends words)),
)

-- ---- the number of a tick

numbered : (past : List Entry) (m : HostMachine) → TieJudged past m.came → Stands past (entries m Numbers) × TieJudged (past ++ entries m Numbers) m.came
numbered past m rests = still_goes past (entry.Time m.clock ∷ []) m.came ((tt, tt), tt) rests

never_numbered : (m : HostMachine) → m.awaits ≡ true → m.awaits ≡ false → ⊥
never_numbered m awaits unnumbered = both_ways m.awaits unnumbered awaits

numbers : (here : Phase) (past : List Entry) (m : HostMachine) → m.awaits ≡ true → KnowsJudged here past m → Goes here past m Numbers
numbers Resting past m awaits known = numbered past m known
numbers Risen past m awaits known = numbered past m known
numbers Open past m awaits known = numbered past m known
numbers Sleeping past m awaits known = numbered past m known
numbers Submitting past m awaits known = numbered past m known
numbers (Asked line) past m awaits known = absurd (never_numbered m awaits known.unnumbered)
numbers (Ticking left) past m awaits (own, rests) = let got = numbered past m rests in (got.0, (own, got.1))
numbers (Behind left) past m awaits (frames, inl behind) = absurd (never_numbered m awaits behind.unnumbered)
numbers (Behind left) past m awaits (frames, inr (requests, settled)) = let got = numbered past m (tied past m.came frames settled) in (got.0, (got.1.frames, inr (requests, got.1.settled)))

-- ---- items

abbrev Now : List Entry → HostMachine → Item → List LineUnit → List HostEvent → List Entry → Type 0
Now past m item rest behind told = Stands past told × KnowsJudged (Behind behind) (past ++ told) (happens m (Judges item rest behind told))

-- one that is no frame: what is told tells of none, and the request may hear of it
other_goes : (past : List Entry) (m : HostMachine) (item : Item) (rest : List LineUnit) (behind : List HostEvent) (told : List Entry) → frames_of m.came ≡ frames_of rest
    → AllByRecursion IsStill told → AllByRecursion IsOfRequest behind → TieJudged past m.came → Now past m item rest behind told
other_goes past m item rest behind told same all requests rests =
    let tie = rests.frames in
    let come = tie.come in
    let got = still_goes past told rest all (tied past rest (record { done = tie.done; come = come ∙ ap (λ (l : List (List ℕ)). tie.done ++ l) same; count = tie.count }) rests.settled) in
    (got.0, (got.1.frames, inr (requests, got.1.settled)))

pub heard_if : (b : Bool) (event : RequestsEvent) (events : List HostEvent) → events ≡ told_if b event → AllByRecursion IsOfRequest events
heard_if true event events is = subst (AllByRecursion IsOfRequest) (sym is) (tt, tt)
heard_if false event events is = subst (AllByRecursion IsOfRequest) (sym is) tt

none_told : (told : List Entry) → told ≡ [] → AllByRecursion IsStill told
none_told told is = subst (AllByRecursion IsStill) (sym is) tt

-- a NAK is no acknowledgement
nak_told : (told : List Entry) → AreTold (answer_to (refused_item (BadKind 0))) told → AllByRecursion IsStill told
nak_told told are = unit_told IsStill mark_still Nak told (refl, tt) are

-- what became of the acknowledgement
pub unit_mark : (e : Entry) → IsOfUnit e → is_mark e ≡ true
unit_mark (entry.Dropped Host) mark = refl
unit_mark (entry.Garbled Host unit) mark = refl
unit_mark (entry.Overrun Host) mark = refl
unit_mark e mark = absurd mark

unit_after : (e : Entry) → IsOfUnit e → after_step true e ≡ true
unit_after (entry.Dropped Host) mark = refl
unit_after (entry.Garbled Host unit) mark = refl
unit_after (entry.Overrun Host) mark = refl
unit_after e mark = absurd mark

pub units_after : (marks : List Entry) → AllByRecursion IsOfUnit marks → folded after_step true marks ≡ true
units_after [] all = refl
units_after (e ∷ marks) all = ap (λ (b : Bool). folded after_step b marks) (unit_after e all.0) ∙ units_after marks all.1

units_stand : (past marks : List Entry) → AllByRecursion IsOfUnit marks → Stands past marks
units_stand past [] all = tt
units_stand past (e ∷ marks) all = (mark_stands past e (unit_mark e all.0) (mark_still e all.0).1, units_stand (past ++ e ∷ []) marks all.1)

not_awaiting : (awaits : Bool) (e : Entry) (told : List Entry) → (awaits ≡ true → e ∷ told ≡ []) → awaits ≡ false
not_awaiting false e told numbered = refl
not_awaiting true e told numbered = absurd (let bad : e ∷ told ≡ [] = numbered refl in cc)

-- a frame: it is acknowledged, and the events behind it are to come
frame_goes : (past : List Entry) (m : HostMachine) (f : FrameParts) (rest : List LineUnit) (behind : List HostEvent) (marks : List Entry) → m.came ≡ Framed f ∷ rest
    → IsFollowed (after m.state (Hears (Good (Framed f)))) m.state.side.turn (Good (Framed f)) behind → AllByRecursion IsOfUnit marks → IsNumbered m (entry.Written Host (unit_text Ack) ∷ marks)
    → TieJudged past m.came → Now past m (Good (Framed f)) rest behind (entry.Written Host (unit_text Ack) ∷ marks)
frame_goes past m f rest behind marks came followed all is_numbered rests =
    let e : Entry = entry.Written Host (unit_text Ack) in
    let first : frames_of m.came ≡ unit_text (Framed f) ∷ frames_of rest = ap frames_of came in
    let acked = acknowledged_frames past m.came rest (unit_text (Framed f)) (unit_text Ack) first refl rests.frames in
    let apart = all-weaker IsOfUnit IsApart (λ mark is. (mark_still mark is).0) marks all in
    let more = append_assoc past (e ∷ []) marks in
    let frames : TieFrames (past ++ e ∷ marks) rest = subst (λ (l : List Entry). TieFrames l rest) more (apart_frames (past ++ e ∷ []) marks rest apart acked.frames) in
    let judged_is = ap (λ (l : List Entry). judged l) (sym more) ∙ apart_judged (past ++ e ∷ []) marks apart in (
      (may_stand past e tt (owes_settled past rests.settled), units_stand (past ++ e ∷ []) marks all),
      (
        frames,
        inl (record {
          frame = record {
            first = after m.state (Hears (Good (Framed f)));
            frame = f;
            gone = [];
            followed = followed;
            last = ap (λ (l : List (List ℕ)). last_of l) judged_is ∙ acked.last;
            quiet = λ directly. refl;
          };
          follows = folded-append after_step false past (e ∷ marks) ∙ units_after marks all;
          state = refl;
          unnumbered = not_awaiting m.awaits e marks is_numbered;
        }),
      ),
    )

item_goes : (past : List Entry) (m : HostMachine) (item : Item) (rest : List LineUnit) (behind : List HostEvent) (told : List Entry) → IsJudgedNow m item rest behind told
    → TieJudged past m.came → Now past m item rest behind told
item_goes past m (Good (Framed f)) rest behind told now rests =
    let (marks, more, is, all, none) = now.told_so in
    let are : told ≡ entry.Written Host (unit_text Ack) ∷ marks = is ∙ ap (λ (l : List Entry). entry.Written Host (unit_text Ack) ∷ (marks ++ l)) none
    ∙ ap (λ (l : List Entry). entry.Written Host (unit_text Ack) ∷ l) (append-nil marks) in
    subst (λ (l : List Entry). Now past m (Good (Framed f)) rest behind l) (sym are)
    (frame_goes past m f rest behind marks now.takes now.followed all (λ awaits. sym are ∙ now.numbered awaits) rests)
item_goes past m (Good Ack) rest behind told now rests =
    other_goes past m (Good Ack) rest behind told (ap frames_of now.takes) (none_told told now.told_so) (heard_if (is_busy m.state.side.turn) request_is_sent behind now.followed) rests
item_goes past m (Good Nak) rest behind told now rests =
    other_goes past m (Good Nak) rest behind told (ap frames_of now.takes) (none_told told now.told_so)
    (heard_if (gives_up m.state.side.turn (after m.state (Hears (Good Nak))).side.turn) request_fails behind now.followed) rests
item_goes past m (Good Can) rest behind told now rests =
    other_goes past m (Good Can) rest behind told (ap frames_of now.takes) (none_told told now.told_so)
    (heard_if (gives_up m.state.side.turn (after m.state (Hears (Good Can))).side.turn) request_fails behind now.followed) rests
item_goes past m (refused_item (BadSum want got)) rest behind told now rests =
    other_goes past m (refused_item (BadSum want got)) rest behind told (ap frames_of (sym now.takes)) (nak_told told now.told_so) (subst (AllByRecursion IsOfRequest) (sym now.followed) tt) rests
item_goes past m (refused_item (BadKind x)) rest behind told now rests =
    other_goes past m (refused_item (BadKind x)) rest behind told (ap frames_of (sym now.takes)) (nak_told told now.told_so) (subst (AllByRecursion IsOfRequest) (sym now.followed) tt) rests
item_goes past m (refused_item (Stray x)) rest behind told now rests =
    other_goes past m (refused_item (Stray x)) rest behind told (ap frames_of (sym now.takes)) (none_told told now.told_so) (subst (AllByRecursion IsOfRequest) (sym now.followed) tt) rests
item_goes past m (refused_item (BadLength n)) rest behind told now rests =
    other_goes past m (refused_item (BadLength n)) rest behind told (ap frames_of (sym now.takes)) (none_told told now.told_so) (subst (AllByRecursion IsOfRequest) (sym now.followed) tt) rests
item_goes past m (refused_item Aborted) rest behind told now rests =
    other_goes past m (refused_item Aborted) rest behind told (ap frames_of (sym now.takes)) (none_told told now.told_so) (subst (AllByRecursion IsOfRequest) (sym now.followed) tt) rests

-- ---- events of the host

own_goes : (past : List Entry) (m : HostMachine) (event : HostEvent) (told : List Entry) → IsOwn event → AreTold (outs m.state event) told → TieJudged past m.came
    → Stands past told × TieJudged (past ++ told) m.came
own_goes past m event told own is rests = still_goes past told m.came (own_told m.state event told own is) rests

frame_does : (past : List Entry) (m : HostMachine) (first event : HostEvent) (left : List HostEvent) (told : List Entry) → event ≡ first → AreTold (outs m.state event) told
    → TieFrames past m.came → IsBehindFrame past m (first ∷ left) → Stands past told × KnowsJudged (Behind left) (past ++ told) (done m event)
frame_does past m first event left told event_is is frames behind =
    let at_event = subst (λ (e : HostEvent). IsBehindFrame past m (e ∷ left)) (sym event_is) behind in
    (behind_stands past m left event told is at_event, (behind_frames past m left event told is at_event frames, inl (event_behind past m left event told is at_event)))

does : (here next : Phase) (past : List Entry) (m : HostMachine) (event : HostEvent) (told : List Entry) → May here m (Does event told) next → KnowsJudged here past m → Goes next past m (Does event told)
does (Ticking (first ∷ left)) next past m event told may known =
    let got = own_goes past m event told (subst IsOwn (sym may.0.0) known.0.0) may.2 known.1 in
    leads next (Ticking left) past m (Does event told) may.0.1 (got.0, (known.0.1, got.1))
does (Behind (first ∷ left)) next past m event told may (frames, inl behind) =
    leads next (Behind left) past m (Does event told) may.0.1 (frame_does past m first event left told may.0.0 may.2 frames behind)
does (Behind (first ∷ left)) next past m event told may (frames, inr (requests, settled)) =
    let got = still_goes past told m.came (request_told m.state event told (subst IsOfRequest (sym may.0.0) requests.0) may.2) (tied past m.came frames settled) in
    leads next (Behind left) past m (Does event told) may.0.1 (got.0, (got.1.frames, inr (requests.1, got.1.settled)))
does Sleeping next past m event told may known =
    let (node, wants, is, next_is) = may.0 in
    leads next Sleeping past m (Does event told) next_is (own_goes past m event told (subst IsOwn (sym is) (no_more_is IsOwn sleepers_own m.state node)) may.2 known)
does Submitting next past m event told may known =
    leads next Submitting past m (Does event told) may.0.1
    (own_goes past m event told (submitted_is IsOwn submitted_own m.state event may.0.0) may.2 known)
does (Ticking []) next past m event told may known = absurd may.0
does (Behind []) next past m event told may known = absurd may.0
does Resting next past m event told may known = absurd may.0
does (Asked line) next past m event told may known = absurd may.0
does Risen next past m event told may known = absurd may.0
does Open next past m event told may known = absurd may.0

-- ---- the walk

asks : (here next : Phase) (past : List Entry) (m : HostMachine) (event : HostEvent) → May here m (Asks event) next → KnowsJudged here past m → Goes next past m (Asks event)
asks here next past m event (line, here_is, is, may, is_numbered, next_is) known =
    let words = words_rest line past m (asked_on line m.state event is) (as_known here (Asked line) past m here_is known) in
    leads next Open past m (Asks event) next_is (still_goes past (answers m.state event) m.came (answers_still m.state event) words)

shows : (here next : Phase) (past : List Entry) (m : HostMachine) (node : ℕ) → May here m (Shows node) next → KnowsJudged here past m → Goes next past m (Shows node)
shows here next past m node may known =
    let words = words_rest (lines.Store node) past m refl (as_known here (Asked (lines.Store node)) past m may.0 known) in
    leads next Open past m (Shows node) may.2 (still_goes past (shown_values m.state node ∷ []) m.came ((tt, tt), tt) words)

step_goes : (here next : Phase) (past : List Entry) (m : HostMachine) (one : Step) → May here m one next → KnowsJudged here past m → Goes next past m one
step_goes here next past m (Tells e) may known =
    stays here next past m (Tells e) may.0 may.3 (still_goes past (e ∷ []) m.came (others_still e may.1, tt) (to_rest here past m may.0 known))
step_goes here next past m (Comes unit) may known = stays here next past m (Comes unit) may.0 may.2 (comes past m.came unit (to_rest here past m may.0 known))
step_goes here next past m (Misses text marks) may known =
    stays here next past m (Misses text marks) may.0 may.3 (misses past m.came text marks may.1 (to_rest here past m may.0 known))
step_goes here next past m (Says words line) may known =
    leads next (Asked line) past m (Says words line) may.3 (says line past m words may.2 (as_known here Resting past m may.0 known))
step_goes here next past m (Says_nothing words) may known =
    leads next Resting past m (Says_nothing words) (may.3 ∙ may.0) (says_nothing past m words may.2 (as_known here Resting past m may.0 known))
step_goes here next past m (Asks event) may known = asks here next past m event may known
step_goes here next past m (Refuses refusal) may known =
    leads next Open past m (Refuses refusal) may.4 (refuses may.0 past m refusal (as_known here (Asked may.0) past m may.1 known))
step_goes here next past m (Shows node) may known = shows here next past m node may known
step_goes here next past m (Restarts state) may known =
    leads next Open past m (Restarts state) may.2 (restarts past m state (as_known here (Asked lines.Restart) past m may.0 known))
step_goes here next past m (Begins_tick left) may known =
    leads next Risen past m (Begins_tick left) may.2 (tt, subst (λ (l : List Entry). TieJudged l m.came) (sym (append-nil past)) (as_known here Resting past m may.0 known))
step_goes here next past m Numbers may known = leads next here past m Numbers may.1 (numbers here past m may.0 known)
step_goes here next past m (Judges item rest behind told) may known =
    leads next (Behind behind) past m (Judges item rest behind told) may.2 (item_goes past m item rest behind told may.1 (as_known here Open past m may.0 known))
step_goes here next past m (Does event told) may known = does here next past m event told may known

to : (next phase : Phase) (past : List Entry) (m : HostMachine) → next ≡ phase → KnowsJudged phase past m → KnowsJudged next past m
to next phase past m is known = subst (λ (p : Phase). KnowsJudged p past m) (sym is) known

turn_goes : (here next : Phase) (past : List Entry) (m : HostMachine) → Turns here m next → KnowsJudged here past m → KnowsJudged next past m
turn_goes Resting next past m is known = to next Open past m is known
turn_goes (Asked line) next past m (inl (nothing, is)) known = to next Open past m is (words_rest line past m (nothing_on line nothing) known)
turn_goes (Asked line) next past m (inr (ticks, line_is, is)) known =
    to next Resting past m is (words_rest line past m (ap (λ (l : Line). is_restart (l ∷ [])) line_is) known)
turn_goes Risen next past m is known = to next (Ticking (tick_events m.state)) past m is (tick_own m.state, known)
turn_goes (Ticking []) next past m is known = to next Open past m is known.1
turn_goes (Ticking (first ∷ left)) next past m is known = absurd is
turn_goes Open next past m is known = to next Sleeping past m is known
turn_goes (Behind []) next past m is (frames, inl behind) = to next Open past m is (tied past m.came frames (λ follows. behind.frame))
turn_goes (Behind []) next past m is (frames, inr (requests, settled)) = to next Open past m is (tied past m.came frames settled)
turn_goes (Behind (first ∷ left)) next past m is known = absurd is
turn_goes Sleeping next past m is known = to next Submitting past m is.1 known
turn_goes Submitting next past m is known = to next Resting past m is.1 known

pub judged_walk : Walk (Allows may_wake) KnowsJudged
judged_walk = record { step = step_goes; turn = turn_goes }

pub first_judged : (m : HostMachine) → m.came ≡ [] → KnowsJudged Resting [] m
first_judged m none = tied [] m.came (record { done = []; come = ap frames_of (sym none); count = refl }) (unfollowed [] refl)

-- ---- phases but the one where a line is asked

pub between_else : (here : Phase) → IsBetween here → IsElse here
between_else (Asked line) between = absurd between
between_else here between = tt

pub by_else : (here next : Phase) (h : HostState) (event : HostEvent) → GoesBy here h event next → IsElse here × IsElse next
by_else (Ticking (first ∷ left)) next h event goes = (tt, subst IsElse (sym goes.1) tt)
by_else (Behind (first ∷ left)) next h event goes = (tt, subst IsElse (sym goes.1) tt)
by_else Sleeping next h event (node, wants, is, next_is) = (tt, subst IsElse (sym next_is) tt)
by_else Submitting next h event goes = (tt, subst IsElse (sym goes.1) tt)
by_else here next h event goes = absurd goes
