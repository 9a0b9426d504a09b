-- What a host put out behind the last frame that it judged; so no node owes here that it counts as awake, but where the event that says so comes next.
use Rattle.std.proofs.Common.{◌≡◌, ℕ, not, Bool, true, false, if◌then◌else◌, List, [], ◌∷◌, ◌++◌, refl, sym, ap, ◌∙◌, subst, append-nil, append_assoc, ◌⊎◌, inl, inr}
use Rattle.std.specs.List.{AllByRecursion, flat_map}
use Rattle.std.proofs.lemmas.Bool.{and_left, and_parts, and_right, both_ways, or_left, or_right, false_from_ne_true as unless}
use Rattle.zw_base.proofs.Each.{all-right, all-weaker}
use Rattle.serial_frame.specs.Items.{unit_text}
use Rattle.serial_frame.specs.declared.unit.Unit.TheVariants.{Framed}
use Rattle.zw_words.specs.declared.side.Side.TheVariants.{Host, Chip}
use Rattle.zw_text.specs.declared.entry.Entry.{Entry}
use Rattle.zw_text.specs.declared.entry.Entry.TheVariants as entry
use Rattle.zw_text.specs.Transcript.{folded}
use Rattle.zw_text.proofs.Views.{folded-append}
use Rattle.proof_alone.specs.law_transcript.Lists.{EachAfter}
use Rattle.proof_alone.specs.law_transcript.Units.{Carried, bringing_in, from_node}
use Rattle.proof_alone.specs.law_time.Judged.{after_step, brought_here, directly_step, is_acknowledgement, is_directly_after, is_following, is_mark, judged, judged_here, last_of, may_be_told}
use Rattle.proof_alone.specs.law_time.Moments.{Allows}
use Rattle.proof_alone.specs.law_time.Waking.{is_notification, may_wake, owes_waking}
use Rattle.proof_alone.specs.host_model.State.{HostState}
use Rattle.proof_alone.specs.host_model.Events.{HostEvent, Accepts, Notifies, Requests_do}
use Rattle.proof_alone.specs.host_model.After.{after}
use Rattle.proof_alone.specs.host_model.Did.{after_all, outs_all}
use Rattle.proof_alone.specs.host_model.Outs.{outs}
use Rattle.proof_alone.specs.host_model.Taking.{FrameEvents}
use Rattle.proof_alone.specs.host_model.declared.out.HostOut.{HostOut}
use Rattle.proof_alone.specs.host_model.declared.out.HostOut.TheVariants.{Note}
use Rattle.proof_alone.proofs.EventLists.{after_all-append, outs_all-append}
use Rattle.proof_alone.proofs.HostOuts.{OwnIs, SharedAre, outs_are}
use Rattle.proof_alone.specs.State.{HostMachine, done}
use Rattle.proof_alone.specs.Steps.{AreTold}
use Rattle.proof_waking.specs.Judged.{IsBehindFrame, LastFrame, Settled, TieFrames, IsOfRequest}
use Rattle.proof_waking.proofs.Apart.{IsApart, apart_frames, apart_judged}
use Rattle.proof_waking.proofs.Followed.{MayFollow, frame_all, frame_wakes, may_wake_by, wakes_by}
use Rattle.proof_waking.proofs.Parts.{IsNoted, IsNotedSo, IsNoWaking, IsStill, follow_notes, follow_told, notes_told}

-- ---- what stands next is after the acknowledgement

after_was : (b : Bool) (e : Entry) → IsApart e → after_step b e ≡ true → b ≡ true
after_was true e apart is = refl
after_was false (entry.Written Host unit) apart is = absurd (both_ways (is_acknowledgement unit) apart is)
after_was false e apart is = absurd (let bad : false ≡ true = is in cc)

directly_was : (b : Bool) (e : Entry) → IsApart e → directly_step b e ≡ true → b ≡ true
directly_was true e apart is = refl
directly_was false (entry.Written Host unit) apart is = absurd (both_ways (is_acknowledgement unit) apart is)
directly_was false (entry.Dropped Host) apart is = absurd (let bad : false ≡ true = is in cc)
directly_was false (entry.Dropped Chip) apart is = absurd apart
directly_was false (entry.Overrun Host) apart is = absurd (let bad : false ≡ true = is in cc)
directly_was false (entry.Overrun Chip) apart is = absurd apart
directly_was false (entry.Garbled Host unit) apart is = absurd (let bad : false ≡ true = is in cc)
directly_was false (entry.Garbled Chip unit) apart is = absurd apart
directly_was false e apart is = absurd (let bad : false ≡ true = is in cc)

pub after_one : (past : List Entry) (e : Entry) → is_following (past ++ e ∷ []) ≡ after_step (is_following past) e
after_one past e = folded-append after_step false past (e ∷ [])

pub directly_one : (past : List Entry) (e : Entry) → is_directly_after (past ++ e ∷ []) ≡ directly_step (is_directly_after past) e
directly_one past e = folded-append directly_step false past (e ∷ [])

pub unfollowed : (past : List Entry) → is_following past ≡ false → Settled past
unfollowed past none follows = absurd (both_ways (is_following past) none follows)

settled_one : (past : List Entry) (e : Entry) → IsApart e → Settled past → Settled (past ++ e ∷ [])
settled_one past e apart settled follows =
    let was = settled (after_was (is_following past) e apart (sym (after_one past e) ∙ follows)) in record {
      first = was.first;
      frame = was.frame;
      gone = was.gone;
      followed = was.followed;
      last = ap (λ (l : List (List ℕ)). last_of l) (apart_judged past (e ∷ []) (apart, tt)) ∙ was.last;
      quiet = λ directly. was.quiet (directly_was (is_directly_after past) e apart (sym (directly_one past e) ∙ directly));
    }

pub settled_more : (past told : List Entry) → AllByRecursion IsApart told → Settled past → Settled (past ++ told)
settled_more past [] all settled = subst Settled (sym (append-nil past)) settled
settled_more past (e ∷ told) all settled = subst Settled (append_assoc past (e ∷ []) told) (settled_more (past ++ e ∷ []) told all.1 (settled_one past e all.0 settled))

-- ---- notes

noted_apart : (e : Entry) → IsNoted e → IsApart e
noted_apart (entry.Said words) noted = absurd noted
noted_apart (entry.Refused refusal) noted = absurd noted
noted_apart (entry.Written side unit) noted = absurd noted
noted_apart (entry.Dropped side) noted = absurd noted
noted_apart (entry.Garbled side unit) noted = absurd noted
noted_apart (entry.Overrun side) noted = absurd noted
noted_apart e noted = tt

noted_after : (e : Entry) → IsNoted e → after_step true e ≡ true
noted_after (entry.Said words) noted = absurd noted
noted_after (entry.Accepted command node) noted = absurd noted
noted_after (entry.Refused refusal) noted = absurd noted
noted_after (entry.Begin node session command) noted = absurd noted
noted_after (entry.Written side unit) noted = absurd noted
noted_after (entry.Dropped side) noted = absurd noted
noted_after (entry.Garbled side unit) noted = absurd noted
noted_after (entry.Overrun side) noted = absurd noted
noted_after (entry.Air frame sender receiver repeaters payload) noted = absurd noted
noted_after (entry.Heard frame) noted = absurd noted
noted_after (entry.Lost frame) noted = absurd noted
noted_after (entry.Unheard frame) noted = absurd noted
noted_after (entry.Dev node by setting) noted = absurd noted
noted_after (entry.Forget first second) noted = absurd noted
noted_after entry.ChipFull noted = absurd noted
noted_after (entry.Cleared side count) noted = absurd noted
noted_after (entry.Time tick) noted = absurd noted
noted_after e noted = refl

all_after : (told : List Entry) → AllByRecursion IsNoted told → folded after_step true told ≡ true
all_after [] all = refl
all_after (e ∷ told) all = ap (λ (b : Bool). folded after_step b told) (noted_after e all.0) ∙ all_after told all.1

noted_direct : (b : Bool) (e : Entry) → IsNoted e → directly_step b e ≡ false
noted_direct b (entry.Written side unit) noted = absurd noted
noted_direct b (entry.Dropped side) noted = absurd noted
noted_direct b (entry.Garbled side unit) noted = absurd noted
noted_direct b (entry.Overrun side) noted = absurd noted
noted_direct b e noted = refl

all_direct : (b : Bool) (e : Entry) (told : List Entry) → IsNoted e → AllByRecursion IsNoted told → folded directly_step b (e ∷ told) ≡ false
all_direct b e [] noted all = noted_direct b e noted
all_direct b e (next ∷ told) noted all = all_direct (directly_step b e) next told all.0 all.1

-- ---- what is owed

here_is : (past : List Entry) (unit : List ℕ) → is_following past ≡ true → last_of (judged past) ≡ unit ∷ [] → judged_here past ≡ unit ∷ []
here_is past unit follows last = ap (λ (b : Bool). if b then last_of (judged past) else []) follows ∙ last

pub brought_is : (past : List Entry) (left : List HostEvent) (frame : LastFrame past left) → is_following past ≡ true → brought_here past ≡ bringing_in (unit_text (Framed frame.frame))
brought_is past left frame follows =
    let unit : List ℕ = unit_text (Framed frame.frame) in
    ap (λ (l : List (List ℕ)). flat_map bringing_in l) (here_is past unit follows frame.last) ∙ append-nil (bringing_in unit)

pub behind_here : (past : List Entry) (m : HostMachine) (left : List HostEvent) (behind : IsBehindFrame past m left) → judged_here past ≡ unit_text (Framed behind.frame.frame) ∷ []
behind_here past m left behind = here_is past (unit_text (Framed behind.frame.frame)) behind.follows behind.frame.last

pub behind_brought : (past : List Entry) (m : HostMachine) (left : List HostEvent) (behind : IsBehindFrame past m left) → brought_here past ≡ bringing_in (unit_text (Framed behind.frame.frame))
behind_brought past m left behind = brought_is past left behind.frame behind.follows

abbrev first_event : HostEvent → List HostEvent → HostEvent
first_event other [] = other
first_event other (event ∷ events) = event

-- a node that is said to be awake is put out
by_gone : (h : HostState) (n : ℕ) (gone left : List HostEvent) → gone ++ left ≡ Notifies n ∷ [] → outs_all h gone ≡ [] → left ≡ Notifies n ∷ []
by_gone h n [] left are none = are
by_gone h n (event ∷ gone) left are none =
    let is : event ≡ Notifies n = ap (λ (l : List HostEvent). first_event event l) are in
    let put : outs h (Notifies n) ++ outs_all (after h event) gone ≡ [] = subst (λ (e : HostEvent). outs h e ++ outs_all (after h event) gone ≡ []) is none in
    absurd (let bad : Note (entry.Awake n) ∷ outs_all (after h event) gone ≡ [] = put in cc)

pub owed_left : (past : List Entry) (left : List HostEvent) → LastFrame past left → is_following past ≡ true → owes_waking past ≡ true → (n : ℕ) × (left ≡ Notifies n ∷ [])
owed_left past left frame follows owes =
    let parts = and_parts (is_directly_after past) (wakes_by (brought_here past)) owes in
    let tells = sym (ap wakes_by (brought_is past left frame follows)) ∙ parts.1 in
    let wakes = frame_wakes frame.first frame.frame (frame.gone ++ left) tells frame.followed in
    (wakes.0, by_gone frame.first wakes.0 frame.gone left wakes.1 (frame.quiet parts.0))

undirected : (past : List Entry) → is_directly_after past ≡ false → owes_waking past ≡ false
undirected past none = and_left (is_directly_after past) (wakes_by (brought_here past)) none

pub owes_settled : (past : List Entry) → Settled past → owes_waking past ≡ false
owes_settled past settled = by (is_following past) refl
  where
    by : (b : Bool) → is_following past ≡ b → owes_waking past ≡ false
    by false none =
        and_right (is_directly_after past) (wakes_by (brought_here past))
        (ap (λ (b : Bool). wakes_by (flat_map bringing_in (if b then last_of (judged past) else []))) none)
    by true follows = unless (owes_waking past) (λ owes. let got = owed_left past [] (settled follows) follows owes in absurd (let bad : [] ≡ Notifies got.0 ∷ [] = got.1 in cc))

-- ---- entries that may stand

pub may_stand : (past : List Entry) (e : Entry) → IsNoWaking e → owes_waking past ≡ false → may_wake past e ≡ true
may_stand past (entry.Awake node) none owes = absurd none
may_stand past e none owes = or_right (is_mark e) (not (owes_waking past)) (ap not owes)

pub mark_stands : (past : List Entry) (e : Entry) → is_mark e ≡ true → IsNoWaking e → may_wake past e ≡ true
mark_stands past (entry.Awake node) mark none = absurd none
mark_stands past e mark none = or_left (is_mark e) (not (owes_waking past)) mark

still_apart : (e : Entry) → IsStill e → IsApart e
still_apart e still = still.0

pub all_apart : (told : List Entry) → AllByRecursion IsStill told → AllByRecursion IsApart told
all_apart told all = all-weaker IsStill IsApart still_apart told all

pub still_stand : (past told : List Entry) → AllByRecursion IsStill told → Settled past → EachAfter (Allows may_wake) past told
still_stand past [] all settled = tt
still_stand past (e ∷ told) all settled =
    (may_stand past e all.0.1 (owes_settled past settled), still_stand (past ++ e ∷ []) told all.1 (settled_one past e all.0.0 settled))

noted_stand : (past told : List Entry) → AllByRecursion IsNoted told → AllByRecursion IsNoWaking told → owes_waking past ≡ false → EachAfter (Allows may_wake) past told
noted_stand past [] noted none owes = tt
noted_stand past (e ∷ told) noted none owes = (
  may_stand past e none.0 owes,
  noted_stand (past ++ e ∷ []) told noted.1 none.1 (undirected (past ++ e ∷ []) (directly_one past e ∙ noted_direct (is_directly_after past) e noted.0)),
)

-- ---- an event behind a frame

pub may_come : (past : List Entry) (left : List HostEvent) (event : HostEvent) (frame : LastFrame past (event ∷ left)) → MayFollow (unit_text (Framed frame.frame)) event
may_come past left event frame =
    let may = MayFollow (unit_text (Framed frame.frame)) in
    (all-right may frame.gone (event ∷ left) (frame_all frame.first frame.frame (frame.gone ++ event ∷ left) frame.followed)).0

-- and behind an item each may follow a frame
pub request_follows : (unit : List ℕ) (event : HostEvent) → IsOfRequest event → MayFollow unit event
request_follows unit (Requests_do event moment) of = tt
request_follows unit event of = absurd of

pub behind_follows : (first : HostEvent) (left : List HostEvent) (past : List Entry) (m : HostMachine)
    → IsBehindFrame past m (first ∷ left) ⊎ (AllByRecursion IsOfRequest (first ∷ left) × Settled past) → (unit : List ℕ) × MayFollow unit first
behind_follows first left past m (inl behind) = (unit_text (Framed behind.frame.frame), may_come past left first behind.frame)
behind_follows first left past m (inr (requests, settled)) = ([], request_follows [] first requests.0)

still_direct : (past told : List Entry) (puts : List HostOut) → IsNotedSo puts told → is_directly_after (past ++ told) ≡ true → (is_directly_after past ≡ true) × (puts ≡ [])
still_direct past [] puts so directly = (subst (λ (l : List Entry). is_directly_after l ≡ true) (append-nil past) directly, so.none refl)
still_direct past (e ∷ told) puts so directly =
    absurd (both_ways (is_directly_after (past ++ e ∷ told)) (folded-append directly_step false past (e ∷ told) ∙ all_direct (is_directly_after past) e told so.noted_are.0 so.noted_are.1) directly)

pub event_behind : (past : List Entry) (m : HostMachine) (left : List HostEvent) (event : HostEvent) (told : List Entry) → AreTold (outs m.state event) told
    → IsBehindFrame past m (event ∷ left) → IsBehindFrame (past ++ told) (done m event) left
event_behind past m left event told is known =
    let frame = known.frame in
    let unit : List ℕ = unit_text (Framed frame.frame) in
    let so = follow_told unit m.state event told (may_come past left event frame) is in
    let here : HostState = after_all frame.first frame.gone in
    let state_is : m.state ≡ here = known.state in
    record {
      frame = record {
        first = frame.first;
        frame = frame.frame;
        gone = frame.gone ++ event ∷ [];
        followed = subst (λ (l : List HostEvent). FrameEvents frame.first frame.frame.kind frame.frame.func frame.frame.body l) (sym (append_assoc frame.gone (event ∷ []) left)) frame.followed;
        last = ap (λ (l : List (List ℕ)). last_of l) (apart_judged past told (all-weaker IsNoted IsApart noted_apart told so.noted_are)) ∙ frame.last;
        quiet = λ directly.
            let was = still_direct past told (outs m.state event) so directly in
            outs_all-append frame.first frame.gone (event ∷ []) ∙ ap (λ (l : List HostOut). l ++ (outs here event ++ [])) (frame.quiet was.0)
            ∙ append-nil (outs here event) ∙ ap (λ (h : HostState). outs h event) (sym state_is) ∙ was.1;
      };
      follows = folded-append after_step false past told ∙ ap (λ (b : Bool). folded after_step b told) known.follows ∙ all_after told so.noted_are;
      state = ap (λ (h : HostState). after h event) state_is ∙ sym (after_all-append frame.first frame.gone (event ∷ []));
      unnumbered = known.unnumbered;
    }

pub behind_frames : (past : List Entry) (m : HostMachine) (left : List HostEvent) (event : HostEvent) (told : List Entry) → AreTold (outs m.state event) told
    → IsBehindFrame past m (event ∷ left) → TieFrames past m.came → TieFrames (past ++ told) m.came
behind_frames past m left event told is known tie =
    let so = follow_told (unit_text (Framed known.frame.frame)) m.state event told (may_come past left event known.frame) is in
    apart_frames past told m.came (all-weaker IsNoted IsApart noted_apart told so.noted_are) tie

-- ---- what it puts out may stand

pub waking_shared : SharedAre IsNoWaking
waking_shared = record {
  unanswered = λ command. tt;
  asleep = λ n. tt;
  done = λ n how. tt;
  uninterviewed = λ n. tt;
  neighbours = λ n nodes. tt;
  failed = λ n is_failed. tt;
  stored = λ n setting. tt;
  held = λ n. tt;
  full = λ n. tt;
}

abbrev IsElse : HostEvent → Type 0
IsElse (Notifies n) = ⊥
IsElse event = Unit {0}

own_else : (event : HostEvent) → IsElse event → OwnIs IsNoWaking event
own_else (Accepts order carriage) other = λ number. tt
own_else (Notifies n) other = absurd other
own_else event other = tt

-- another event puts out what may stand, since none is owed
else_stands : (past : List Entry) (m : HostMachine) (left : List HostEvent) (event : HostEvent) (told : List Entry) → IsElse event → AreTold (outs m.state event) told
    → IsBehindFrame past m (event ∷ left) → EachAfter (Allows may_wake) past told
else_stands past m left event told other is known =
    let may = may_come past left event known.frame in
    let unit : List ℕ = unit_text (Framed known.frame.frame) in
    let so = follow_told unit m.state event told may is in
    noted_stand past told so.noted_are (notes_told IsNoWaking (outs m.state event) told (follow_notes unit m.state event may) (outs_are IsNoWaking waking_shared m.state event (own_else event other)) is)
    (unless (owes_waking past) (λ owes. absurd (
    let got = owed_left past (event ∷ left) known.frame known.follows owes in
    subst IsElse (ap (λ (l : List HostEvent). first_event event l) got.1) other
    )))

-- a node counts as awake, whose payload was judged here and may tell so
notifies_stands : (past : List Entry) (m : HostMachine) (left : List HostEvent) (n : ℕ) (told : List Entry) → AreTold (outs m.state (Notifies n)) told
    → IsBehindFrame past m (Notifies n ∷ left) → EachAfter (Allows may_wake) past told
notifies_stands past m left n told (rest, is, none) known =
    let may = may_come past left (Notifies n) known.frame in
    let told_here : may_be_told is_notification n past ≡ true =
    ap (λ (l : List Carried). may_wake_by (flat_map (from_node n) l)) (brought_is past (Notifies n ∷ left) known.frame known.follows) ∙ may in
    let are : told ≡ entry.Awake n ∷ [] = is ∙ ap (λ (l : List Entry). entry.Awake n ∷ l) none in
    subst (λ (l : List Entry). EachAfter (Allows may_wake) past l) (sym are) (told_here, tt)

pub behind_stands : (past : List Entry) (m : HostMachine) (left : List HostEvent) (event : HostEvent) (told : List Entry) → AreTold (outs m.state event) told
    → IsBehindFrame past m (event ∷ left) → EachAfter (Allows may_wake) past told
behind_stands past m left (Notifies n) told is known = notifies_stands past m left n told is known
behind_stands past m left event told is known = else_stands past m left event told tt is known
