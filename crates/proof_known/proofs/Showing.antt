-- At the words that ask for them a host alone shows the values of a node as the transcript gives them, and nowhere else.
use Rattle.std.proofs.Common.{◌≡◌, ◌⊎◌, ℕ, true, false, inl, inr, List, [], ◌∷◌, ◌++◌, refl, sym, ap, ◌∙◌, subst, append-nil, append_assoc}
use Rattle.std.specs.List.{AllByRecursion}
use Rattle.zw_text.specs.declared.line.Line.{Line}
use Rattle.zw_text.specs.declared.line.Line.TheVariants as lines
use Rattle.zw_text.specs.declared.entry.Refusal.{Refusal}
use Rattle.zw_text.specs.declared.entry.Entry.{Entry}
use Rattle.zw_text.specs.declared.entry.Entry.TheVariants as entry
use Rattle.zw_text.specs.Transcript.{line_last, line_of}
use Rattle.proof_transcript.specs.law_transcript.Lists.{EachAfter}
use Rattle.proof_transcript.specs.law_time.Moments.{Allows}
use Rattle.proof_transcript.specs.law_time.Waking.{may_wake}
use Rattle.proof_transcript.specs.law_host.Heard.{is_of_others, listing_heard}
use Rattle.proof_transcript.specs.law_host.HostLegal.{IsShown, ShowsValues}
use Rattle.proof_waking.specs.host_model.State.{HostState}
use Rattle.proof_waking.specs.host_model.Events.{HostEvent, Hears}
use Rattle.proof_waking.specs.host_model.Outs.{outs}
use Rattle.proof_transcript.specs.world_model.Events.{shown_values}
use Rattle.proof_transcript.specs.world_model.Refusals.{IsRefused}
use Rattle.proof_transcript.specs.proof_spoken.Said.{AreSaid}
use Rattle.proof_transcript.specs.Showing.{AsksForNone}
use Rattle.proof_transcript.specs.proof_walk.Outside.{IsHostNote}
use Rattle.proof_transcript.proofs.ByLine.{last_is}
use Rattle.proof_waking.specs.proof_alone.State.{HostMachine, with_world}
use Rattle.proof_waking.specs.proof_alone.Steps.{AreTold, AsksNothing, IsAskedBy, IsOfOthers, Step, Tells, Comes, Misses, Says, Says_nothing, Asks, Refuses, Shows, Restarts, Begins_tick, Numbers, Judges, Does, entries, happens}
use Rattle.proof_waking.specs.proof_alone.Phases.{Phase, Resting, Asked, Risen, Ticking, Open, Behind, Sleeping, Submitting, May, Turns}
use Rattle.proof_waking.specs.proof_alone.Runs.{WalkOver}
use Rattle.proof_waking.specs.proof_alone.Tables.{TieTables}
use Rattle.proof_waking.proofs.proof_alone_Apart.{AreOfLine, missed_are, told_are}
use Rattle.proof_waking.specs.Judged.{KnowsJudged}
use Rattle.proof_known.specs.Known.{KnowsAll, KnowsAsked, KnowsTold, TieTold, ToldBefore}
use Rattle.proof_known.proofs.Events.{AreAnswers, answers_are, event_notes}
use Rattle.proof_known.proofs.Telling.{IsElse, after_words, between_else, by_else, numbered_else}

-- ---- entries

-- it says no line and shows no values
abbrev IsMute : Entry → Type 0
IsMute (entry.Said words) = ⊥
IsMute (entry.Json text) = ⊥
IsMute e = Unit {0}

-- it shows no values
abbrev IsUnshown : Entry → Type 0
IsUnshown (entry.Json text) = ⊥
IsUnshown e = Unit {0}

mute_unshown : (e : Entry) → IsMute e → IsUnshown e
mute_unshown (entry.Json text) mute = absurd mute
mute_unshown e mute = tt

mute_says_none : (e : Entry) → IsMute e → line_of e ≡ []
mute_says_none (entry.Said words) mute = absurd mute
mute_says_none e mute = refl

others_mute : (e : Entry) → IsOfOthers e → IsMute e
others_mute (entry.Said words) others = absurd others
others_mute (entry.Json text) others = absurd others
others_mute e others = tt

note_mute : (e : Entry) → IsHostNote e → IsMute e
note_mute (entry.Said words) note = absurd note
note_mute (entry.Json text) note = absurd note
note_mute e note = tt

line_mute : AreOfLine IsMute
line_mute = record { written = λ side text. tt; dropped = λ side. tt; garbled = λ side text. tt; overrun = λ side. tt }

answers_mute : AreAnswers IsMute
answers_mute = record { accepted = λ command node. tt; taken_back = λ command. tt }

told_mute : (h : HostState) (event : HostEvent) (told : List Entry) → AreTold (outs h event) told → AllByRecursion IsMute told
told_mute h event told are = told_are IsMute line_mute note_mute (outs h event) told (event_notes h event) are

-- ---- lines that ask for none

refused_asks : (m : HostMachine) (line : Line) (refusal : Refusal) → IsRefused (with_world m) line refusal → AsksForNone (line ∷ [])
refused_asks m (lines.Store node) refusal refused = absurd refused
refused_asks m line refusal refused = tt

others_ask : (line : Line) → is_of_others (line ∷ []) ≡ true → AsksForNone (line ∷ [])
others_ask (lines.Store node) of_others = absurd (let bad : false ≡ true = of_others in cc)
others_ask line of_others = tt

asked_asks : (line : Line) (h : HostState) (event : HostEvent) → IsAskedBy line h event → AsksForNone (line ∷ [])
asked_asks (lines.Store node) h event is = absurd is
asked_asks line h event is = tt

nothing_asks : (line : Line) → AsksNothing line → AsksForNone (line ∷ [])
nothing_asks (lines.Store node) nothing = absurd nothing
nothing_asks line nothing = tt

words_last : (line : Line) (past : List Entry) (h : HostState) → ToldBefore line past h → line_last past ≡ line ∷ []
words_last line past h known = ap line_last known.are ∙ last_is known.before (entry.Said known.words) ∙ known.read

none_asked : (line : Line) (past : List Entry) (h : HostState) → AsksForNone (line ∷ []) → ToldBefore line past h → AsksForNone (line_last past)
none_asked line past h asks known = subst AsksForNone (sym (words_last line past h known)) asks

-- ---- phases

rest_of : (here : Phase) (past : List Entry) (m : HostMachine) → IsElse here → KnowsAsked here past m → AsksForNone (line_last past)
rest_of (Asked line) past m other known = absurd other
rest_of here past m other known = known

of_rest : (here : Phase) (past : List Entry) (m : HostMachine) → AsksForNone (line_last past) → KnowsAsked here past m
of_rest (Asked line) past m asks = tt
of_rest here past m asks = asks

as_told : (here is : Phase) (past : List Entry) (m : HostMachine) → here ≡ is → KnowsTold here past m → KnowsTold is past m
as_told here is past m same known = subst (λ (p : Phase). KnowsTold p past m) same known

-- ---- what may stand

none_shown : (past : List Entry) (l : List Line) (e : Entry) → AsksForNone l → IsUnshown e → IsShown listing_heard past l e
none_shown past [] (entry.Json text) asks none = absurd none
none_shown past [] e asks none = tt
none_shown past (lines.Store node ∷ more) e asks none = absurd asks
none_shown past (line ∷ more) (entry.Json text) asks none = absurd none
none_shown past (line ∷ more) e asks none = tt

abbrev Stands : List Entry → List Entry → Type 0
Stands past told = EachAfter (ShowsValues listing_heard) past told

mute_stand : (past told : List Entry) → AllByRecursion IsMute told → AsksForNone (line_last past) → Stands past told × AsksForNone (line_last (past ++ told))
mute_stand past [] all asks = (tt, subst (λ (l : List Entry). AsksForNone (line_last l)) (sym (append-nil past)) asks)
mute_stand past (e ∷ told) all asks =
    let more = mute_stand (past ++ e ∷ []) told all.1 (subst AsksForNone (sym (last_is past e ∙ mute_says_none e all.0)) tt) in (
      (none_shown past (line_last past) e asks (mute_unshown e all.0), more.0),
      subst (λ (l : List Entry). AsksForNone (line_last l)) (append_assoc past (e ∷ []) told) more.1,
    )

-- the tables of the host, and where its orders are as they were said; so the values that it shows are those that the transcript gives
abbrev pub IsKept : List Entry → HostMachine → Type 0
IsKept past m = TieTables past m.state m.records × AreSaid listing_heard m.state.commands past

abbrev pub ShowsKept : Type 0
ShowsKept = (past : List Entry) (m : HostMachine) (node : ℕ) → IsKept past m → TieTold past m.state → line_last past ≡ lines.Store node ∷ []
    → ShowsValues listing_heard past (shown_values m.state node)

abbrev Goes : Phase → List Entry → HostMachine → Step → Type 0
Goes next past m one = Stands past (entries m one) × KnowsAsked next (past ++ entries m one) (happens m one)

module _ (shows : ShowsKept) where
  goes : (next : Phase) (past : List Entry) (m : HostMachine) (one : Step) → AllByRecursion IsMute (entries m one) → AsksForNone (line_last past) → Goes next past m one
  goes next past m one all asks = let stand = mute_stand past (entries m one) all asks in (stand.0, of_rest next (past ++ entries m one) (happens m one) stand.1)

  -- words stand where none are asked for
  says_goes : (past : List Entry) (words : List ℕ) → AsksForNone (line_last past) → Stands past (entry.Said words ∷ [])
  says_goes past words asks = (none_shown past (line_last past) (entry.Said words) asks tt, tt)

  step_goes : (here next : Phase) (past : List Entry) (m : HostMachine) (one : Step) → May here m one next → IsKept past m → KnowsJudged here past m → KnowsTold here past m → KnowsAsked here past m
      → Goes next past m one
  step_goes here next past m (Tells e) may kept judged told known = goes next past m (Tells e) (others_mute e may.1, tt) (rest_of here past m (between_else here may.0) known)
  step_goes here next past m (Comes unit) may kept judged told known = goes next past m (Comes unit) (tt, tt) (rest_of here past m (between_else here may.0) known)
  step_goes here next past m (Misses text marks) may kept judged told known =
      goes next past m (Misses text marks) (tt, missed_are IsMute line_mute marks may.1) (rest_of here past m (between_else here may.0) known)
  step_goes here next past m (Says words line) may kept judged told known = (
    says_goes past words (rest_of here past m (subst IsElse (sym may.0) tt) known),
    subst (λ (p : Phase). KnowsAsked p (past ++ entry.Said words ∷ []) (happens m (Says words line))) (sym may.3) tt,
  )
  step_goes here next past m (Says_nothing words) may kept judged told known = (
    says_goes past words (rest_of here past m (subst IsElse (sym may.0) tt) known),
    of_rest next (past ++ entry.Said words ∷ []) (happens m (Says_nothing words)) (subst AsksForNone (sym (last_is past (entry.Said words) ∙ may.2)) tt),
  )
  step_goes here next past m (Asks event) (line, here_is, is, may, numbered, next_is) kept judged told known =
      goes next past m (Asks event) (answers_are IsMute answers_mute m.state event)
      (none_asked line past m.state (asked_asks line m.state event is) (as_told here (Asked line) past m here_is told))
  step_goes here next past m (Refuses refusal) (line, here_is, why, numbered, next_is) kept judged told known =
      goes next past m (Refuses refusal) (tt, tt) (none_asked line past m.state (by why) (as_told here (Asked line) past m here_is told))
    where
      by : IsRefused (with_world m) line refusal ⊎ (is_of_others (line ∷ []) ≡ true) → AsksForNone (line ∷ [])
      by (inl refused) = refused_asks m line refusal refused
      by (inr of_others) = others_ask line of_others
  step_goes here next past m (Shows node) may kept judged told known =
      let words = as_told here (Asked (lines.Store node)) past m may.0 told in
      let e : Entry = shown_values m.state node in (
        (shows past m node kept (after_words (lines.Store node) past m.state refl refl words) (words_last (lines.Store node) past m.state words), tt),
        of_rest next (past ++ e ∷ []) m (subst AsksForNone (sym (last_is past e)) tt),
      )
  step_goes here next past m (Restarts state) may kept judged told known =
      goes next past m (Restarts state) tt (none_asked lines.Restart past m.state tt (as_told here (Asked lines.Restart) past m may.0 told))
  step_goes here next past m (Begins_tick left) may kept judged told known = goes next past m (Begins_tick left) tt (rest_of here past m (subst IsElse (sym may.0) tt) known)
  step_goes here next past m Numbers may kept judged told known = goes next past m Numbers (tt, tt) (rest_of here past m (numbered_else here past m may.0 judged) known)
  step_goes here next past m (Judges item rest behind entered) may kept judged told known =
      goes next past m (Judges item rest behind entered) (told_mute m.state (Hears item) entered may.1.told_so) (rest_of here past m (subst IsElse (sym may.0) tt) known)
  step_goes here next past m (Does event entered) may kept judged told known =
      goes next past m (Does event entered) (told_mute m.state event entered may.2) (rest_of here past m (by_else here next m.state event may.0).0 known)

  turn_goes : (here next : Phase) (past : List Entry) (m : HostMachine) → Turns here m next → KnowsTold here past m → KnowsAsked here past m → KnowsAsked next past m
  turn_goes Resting next past m is told known = of_rest next past m known
  turn_goes (Asked line) next past m (inl (nothing, is)) told known = of_rest next past m (none_asked line past m.state (nothing_asks line nothing) told)
  turn_goes (Asked line) next past m (inr (ticks, line_is, is)) told known =
      of_rest next past m (none_asked line past m.state (subst (λ (l : Line). AsksForNone (l ∷ [])) (sym line_is) tt) told)
  turn_goes Risen next past m is told known = of_rest next past m known
  turn_goes (Ticking []) next past m is told known = of_rest next past m known
  turn_goes (Ticking (event ∷ left)) next past m is told known = absurd is
  turn_goes Open next past m is told known = of_rest next past m known
  turn_goes (Behind []) next past m is told known = of_rest next past m known
  turn_goes (Behind (event ∷ left)) next past m is told known = absurd is
  turn_goes Sleeping next past m is told known = of_rest next past m known
  turn_goes Submitting next past m is told known = of_rest next past m known

  pub shown_walk : WalkOver KnowsAll (Allows may_wake) (ShowsValues listing_heard) KnowsAsked
  shown_walk = record {
    step = λ here next past m one may ground stand known. step_goes here next past m one may (ground.0.0.0.0.0, ground.0.1) ground.0.0.0.1 ground.1 known;
    turn = λ here next past m turns ground known. turn_goes here next past m turns ground.1 known;
  }

-- and none is to be shown at rest
pub rests_show : (past : List Entry) (m : HostMachine) → KnowsAsked Resting past m → ShowsValues listing_heard past (entry.Said [])
rests_show past m known = none_shown past (line_last past) (entry.Said []) known tt
