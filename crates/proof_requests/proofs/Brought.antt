-- While a request is under way the host keeps what the one before it brought: also behind an item, which is in the transcript already, until an event behind it ends the request.
use Rattle.std.proofs.Common.{◌≡◌, ℕ, false, inl, inr, List, [], ◌∷◌, ◌++◌, refl, sym, ap, ◌∙◌, subst}
use Rattle.std.specs.Prelude.{Option, Some, None}
use Rattle.serial_frame.specs.Items.{unit_text}
use Rattle.serial_frame.specs.declared.item.Item.{Item}
use Rattle.serial_frame.specs.declared.unit.Unit.{Unit as LineUnit}
use Rattle.serial_frame.specs.declared.unit.Unit.TheVariants.{Ack, Nak}
use Rattle.zw_text.specs.declared.entry.Entry.{Entry}
use Rattle.zw_text.specs.declared.entry.Entry.TheVariants as entry
use Rattle.proof_waking.specs.law_transcript.Restarts.{begins_refused}
use Rattle.proof_waking.specs.law_time.Judged.{acknowledged, is_data}
use Rattle.proof_waking.specs.law_time.Requests.{Asked as TheAsked, asked}
use Rattle.host_requests.specs.Next.{at_update}
use Rattle.host_requests.specs.declared.next.Next.{Next}
use Rattle.host_requests.specs.declared.next.Next.TheVariants.{Ends, GoesOn as goes_on}
use Rattle.host_requests.specs.declared.under_way.UnderWay.{UnderWay}
use Rattle.proof_messages.specs.host_model.State.{HostState}
use Rattle.proof_messages.specs.host_model.After.{after}
use Rattle.proof_messages.specs.host_model.Events.{HostEvent, Queues, Hears, Requests_do, Interviews, Interview_unkept, Line_ticks, Submits_abort, Submits_front, Starts, Gives_text, Gives_segment}
use Rattle.proof_messages.specs.host_model.Outs.{answer_to, outs}
use Rattle.proof_messages.specs.host_model.declared.out.HostOut.TheVariants.{Write}
use Rattle.proof_waking.specs.proof_alone.State.{HostMachine, done}
use Rattle.proof_waking.specs.proof_alone.Steps.{AreTold, Step, Tells, Comes, Misses, Says, Says_nothing, Asks, Refuses, Shows, Restarts, Begins_tick, Numbers, Judges, Does, entries, happens}
use Rattle.proof_waking.specs.proof_alone.Phases.{Phase, Resting, Asked, Risen, Ticking, Open, Behind, Sleeping, Submitting, IsBetween, May, Turns}
use Rattle.proof_waking.specs.proof_alone.Runs.{WalkOver, both_know}
use Rattle.proof_waking.specs.Judged.{KnowsJudged}
use Rattle.proof_waking.proofs.Followed.{MayFollow}
use Rattle.proof_waking.proofs.Settling.{behind_follows}
use Rattle.proof_waking.proofs.Parts.{item_told, unit_told}
use Rattle.proof_requests.specs.Standing.{GoesOn, brought_before, prior_of, standing_of, with_entries}
use Rattle.proof_requests.specs.Asking.{Doing, TieUnderWay, doing_after, doing_from, doing_next, doing_of}
use Rattle.proof_requests.specs.Walking.{AddsWell, Ground, IsOfChip, IsTied, KeepsBrought, KnowsAsked, KnowsBrought}
use Rattle.proof_requests.proofs.Doing.{IsBeside, beside_same}
use Rattle.proof_requests.proofs.Events.{chip_does, updates_does}
use Rattle.proof_requests.proofs.Growing.{asked_on}
use Rattle.proof_requests.proofs.Stepping.{behind_notes}
use Rattle.proof_requests.proofs.Telling.{mark_quiet, quiet_goes, quiet_on}
use Rattle.proof_requests.proofs.Walking.{event_quiet}

-- ---- requests

none_some : (u : UnderWay) → None ≡ Some u → ⊥
none_some u is = cc

-- the request goes on in the transcript
kept_over : (past told : List Entry) (d : Doing) → asked (past ++ told) ≡ with_entries (asked past) told → KeepsBrought past d → KeepsBrought (past ++ told) d
kept_over past told d on keeps u is = keeps u is ∙ ap (λ (a : TheAsked). brought_before (prior_of a.before)) (sym on)

-- it goes on in the host, or ends
kept_on : (past : List Entry) (d : Doing) (next : UnderWay → Next) → KeepsBrought past d → KeepsBrought past (doing_after d next)
kept_on past d next keeps = by d.under_way refl
  where
    by_next : (v : UnderWay) (n : Next) → d.under_way ≡ Some v → KeepsBrought past (doing_next d v n)
    by_next v (goes_on progress) is = λ u same. keeps v is
    by_next v (Ends how) is = λ u same. absurd (none_some u same)

    by : (o : Option UnderWay) → d.under_way ≡ o → KeepsBrought past (doing_from d next o)
    by None is = λ u same. absurd (none_some u same)
    by (Some v) is = by_next v (next v) is

-- where the host is tied to its transcript it does
from_tie : (past : List Entry) (m : HostMachine) → IsTied past m → KeepsBrought past (doing_of m.state)
from_tie past m (inl none) u is = absurd (none_some u (sym none.none ∙ is))
from_tie past m (inr (was, asks)) u is =
    (subst (TieUnderWay (standing_of (asked past)) m.clock m.clock (acknowledged past) (doing_of m.state).turn (doing_of m.state).id (doing_of m.state).leaving) is asks.under_way).1.1

-- ---- an item

written_on : (past told : List Entry) (unit : LineUnit) → is_data (unit_text unit) ≡ false → AreTold (Write unit ∷ []) told → asked (past ++ told) ≡ with_entries (asked past) told
written_on past told unit none (marks, rest, is, all, nothing) =
    asked_on past told (subst (λ (l : List Entry). begins_refused l ≡ false) (sym is) refl)
    (unit_told GoesOn (λ e mark. quiet_goes e (mark_quiet e mark)) unit told none (marks, rest, is, all, nothing))

item_on : (past told : List Entry) (item : Item) → AreTold (answer_to item) told → asked (past ++ told) ≡ with_entries (asked past) told
item_on past told item are =
    item_told (λ (l : List Entry). asked (past ++ l) ≡ with_entries (asked past) l) (λ l is. written_on past l Ack refl is) (λ l is. written_on past l Nak refl is) (asked_on past [] refl tt) item told are

-- ---- events behind it

-- one that leaves the request, or of which it hears
abbrev IsBehind : HostEvent → Type 0
IsBehind (Requests_do event moment) = IsOfChip event
IsBehind (Interviews n listens classes update) = Unit {0}
IsBehind (Interview_unkept n update) = Unit {0}
IsBehind event = IsBeside event

follows_behind : (unit : List ℕ) (event : HostEvent) → MayFollow unit event → AddsWell event → IsBehind event
follows_behind unit (Requests_do event moment) may well = well
follows_behind unit (Interviews n listens classes update) may well = tt
follows_behind unit (Interview_unkept n update) may well = tt
follows_behind unit (Queues task) may well = absurd may
follows_behind unit (Hears item) may well = absurd may
follows_behind unit Line_ticks may well = absurd may
follows_behind unit Submits_abort may well = absurd may
follows_behind unit Submits_front may well = absurd may
follows_behind unit (Starts n plan more payload) may well = absurd may
follows_behind unit (Gives_text n payload) may well = absurd may
follows_behind unit (Gives_segment n more payload) may well = absurd may
follows_behind unit event may well = tt

behind_is : (first : HostEvent) (left : List HostEvent) (past : List Entry) (m : HostMachine) → KnowsJudged (Behind (first ∷ left)) past m → AddsWell first → IsBehind first
behind_is first left past m judged well = let (unit, may) = behind_follows first left past m judged.1 in follows_behind unit first may well

event_kept : (past : List Entry) (h : HostState) (event : HostEvent) → IsBehind event → KeepsBrought past (doing_of h) → KeepsBrought past (doing_of (after h event))
event_kept past h (Requests_do event moment) is keeps =
    let (next, does) = chip_does h event moment is in subst (KeepsBrought past) (sym does) (kept_on past (doing_of h) next keeps)
event_kept past h (Interviews n listens classes update) is keeps =
    subst (KeepsBrought past) (sym (updates_does h update)) (kept_on past (doing_of h) (at_update h.requests.first update) keeps)
event_kept past h (Interview_unkept n update) is keeps =
    subst (KeepsBrought past) (sym (updates_does h update)) (kept_on past (doing_of h) (at_update h.requests.first update) keeps)
event_kept past h event is keeps = subst (KeepsBrought past) (sym (beside_same h event is)) keeps

behind_kept : (first : HostEvent) (left : List HostEvent) (past : List Entry) (m : HostMachine) (event : HostEvent) (told : List Entry) → event ≡ first → AreTold (outs m.state event) told
    → Ground (Behind (first ∷ left)) past m → KeepsBrought past (doing_of m.state) → KeepsBrought (past ++ told) (doing_of (after m.state event))
behind_kept first left past m event told event_is is ground keeps =
    subst (λ (e : HostEvent). KeepsBrought (past ++ told) (doing_of (after m.state e))) (sym event_is)
    (kept_over past told (doing_of (after m.state first))
    (quiet_on past told (event_quiet m.state first told (behind_notes first left past m ground.0.0.1) (subst (λ (e : HostEvent). AreTold (outs m.state e) told) event_is is)))
    (event_kept past m.state first (behind_is first left past m ground.0.0.1 ground.1.1.0) keeps))

-- ---- the walk

brought_to : (next phase : Phase) (past : List Entry) (m : HostMachine) → next ≡ phase → KnowsBrought phase past m → KnowsBrought next past m
brought_to next phase past m is known = subst (λ (p : Phase). KnowsBrought p past m) (sym is) known

free : (here : Phase) (past : List Entry) (m : HostMachine) → IsBetween here → KnowsBrought here past m
free Resting past m is = tt
free Risen past m is = tt
free Open past m is = tt
free (Asked line) past m is = absurd is
free (Ticking left) past m is = absurd is
free (Behind left) past m is = absurd is
free Sleeping past m is = absurd is
free Submitting past m is = absurd is

numbered : (here : Phase) (past : List Entry) (m : HostMachine) → KnowsBrought here past m → KnowsBrought here (past ++ entry.Time m.clock ∷ []) (happens m Numbers)
numbered (Behind left) past m known = kept_over past (entry.Time m.clock ∷ []) (doing_of m.state) (asked_on past (entry.Time m.clock ∷ []) refl (tt, tt)) known
numbered here past m known = tt

does : (here next : Phase) (past : List Entry) (m : HostMachine) (event : HostEvent) (told : List Entry) → May here m (Does event told) next → Ground here past m → KnowsBrought here past m
    → KnowsBrought next (past ++ told) (done m event)
does (Ticking (first ∷ left)) next past m event told may ground known = brought_to next (Ticking left) (past ++ told) (done m event) may.0.1 tt
does (Behind (first ∷ left)) next past m event told may ground known =
    brought_to next (Behind left) (past ++ told) (done m event) may.0.1 (behind_kept first left past m event told may.0.0 may.2 ground known)
does Sleeping next past m event told may ground known = let (node, wants, is, next_is) = may.0 in brought_to next Sleeping (past ++ told) (done m event) next_is tt
does Submitting next past m event told may ground known = brought_to next Submitting (past ++ told) (done m event) may.0.1 tt
does (Ticking []) next past m event told may ground known = absurd may.0
does (Behind []) next past m event told may ground known = absurd may.0
does Resting next past m event told may ground known = absurd may.0
does (Asked line) next past m event told may ground known = absurd may.0
does Risen next past m event told may ground known = absurd may.0
does Open next past m event told may ground known = absurd may.0

step_goes : (here next : Phase) (past : List Entry) (m : HostMachine) (one : Step) → May here m one next → both_know Ground KnowsAsked here past m → KnowsBrought here past m
    → KnowsBrought next (past ++ entries m one) (happens m one)
step_goes here next past m (Tells e) may ground known = brought_to next here (past ++ e ∷ []) m may.3 (free here (past ++ e ∷ []) m may.0)
step_goes here next past m (Comes unit) may ground known =
    let later = happens m (Comes unit) in brought_to next here (past ++ entries m (Comes unit)) later may.2 (free here (past ++ entries m (Comes unit)) later may.0)
step_goes here next past m (Misses text marks) may ground known =
    brought_to next here (past ++ entries m (Misses text marks)) m may.3 (free here (past ++ entries m (Misses text marks)) m may.0)
step_goes here next past m (Says words line) may ground known = brought_to next (Asked line) _ (happens m (Says words line)) may.3 tt
step_goes here next past m (Says_nothing words) may ground known = brought_to next Resting _ (happens m (Says_nothing words)) (may.3 ∙ may.0) tt
step_goes here next past m (Asks event) may ground known = brought_to next Open _ (happens m (Asks event)) may.5 tt
step_goes here next past m (Refuses refusal) may ground known = brought_to next Open _ m may.4 tt
step_goes here next past m (Shows node) may ground known = brought_to next Open _ m may.2 tt
step_goes here next past m (Restarts state) may ground known = brought_to next Open _ (happens m (Restarts state)) may.2 tt
step_goes here next past m (Begins_tick left) may ground known = brought_to next Risen _ (happens m (Begins_tick left)) may.2 tt
step_goes here next past m Numbers may ground known = brought_to next here _ (happens m Numbers) may.1 (numbered here past m known)
step_goes here next past m (Judges item rest behind told) may ground known =
    brought_to next (Behind behind) (past ++ told) (happens m (Judges item rest behind told)) may.2
    (kept_over past told (doing_of (after m.state (Hears item))) (item_on past told item may.1.told_so)
    (from_tie past m (subst (λ (p : Phase). KnowsAsked p past m) may.0 ground.1)))
step_goes here next past m (Does event told) may ground known = does here next past m event told may ground.0 known

turn_goes : (here next : Phase) (past : List Entry) (m : HostMachine) → Turns here m next → KnowsBrought next past m
turn_goes Resting next past m is = brought_to next Open past m is tt
turn_goes (Asked line) next past m (inl (nothing, is)) = brought_to next Open past m is tt
turn_goes (Asked line) next past m (inr (ticks, line_is, is)) = brought_to next Resting past m is tt
turn_goes Risen next past m is = brought_to next (Ticking _) past m is tt
turn_goes (Ticking []) next past m is = brought_to next Open past m is tt
turn_goes (Ticking (first ∷ left)) next past m is = absurd is
turn_goes Open next past m is = brought_to next Sleeping past m is tt
turn_goes (Behind []) next past m is = brought_to next Open past m is tt
turn_goes (Behind (first ∷ left)) next past m is = absurd is
turn_goes Sleeping next past m is = brought_to next Submitting past m is.1 tt
turn_goes Submitting next past m is = brought_to next Resting past m is.1 tt

pub brought_walk : (First : List Entry → Entry → Type 0) → WalkOver (both_know Ground KnowsAsked) First First KnowsBrought
brought_walk First = record {
  step = λ here next past m one may ground stand known. (stand, step_goes here next past m one may ground known);
  turn = λ here next past m turns ground known. turn_goes here next past m turns;
}
