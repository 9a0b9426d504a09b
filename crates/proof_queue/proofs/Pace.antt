-- Along careful runs: the words that stand last are no line where the host reads, and where it has pumped nothing was judged since a line was said, a tick began or the chip wrote, or nothing has
-- come.
use Rattle.std.proofs.Common.{◌≡◌, ◌⊎◌, ℕ, suc, ◌+◌, ◌-◌, ◌&&◌, ◌||◌, not, Bool, true, false, inl, inr, length, List, [], ◌∷◌, ◌++◌, refl, sym, ap, ◌∙◌, subst, append-nil, length-append, drop_at, arith}
use Rattle.std.specs.List.{AllByRecursion, list_any}
use Rattle.std.proofs.lemmas.Bool.{and_right}
use Rattle.zw_base.proofs.Each.{all-weaker}
use Rattle.serial_frame.specs.Items.{unit_text}
use Rattle.serial_frame.specs.declared.item.Item.{Item}
use Rattle.serial_frame.specs.declared.item.Item.TheVariants.{Good, Refused}
use Rattle.serial_frame.specs.declared.item.Refusal.TheVariants.{Stray, BadLength, BadSum, BadKind, Aborted}
use Rattle.serial_frame.specs.declared.unit.Unit.TheVariants.{Ack, Nak, Can, Framed}
use Rattle.zw_words.specs.declared.side.Side.TheVariants.{Host, Chip}
use Rattle.zw_text.specs.declared.line.Line.{Line}
use Rattle.zw_text.specs.declared.entry.Entry.{Entry}
use Rattle.zw_text.specs.declared.entry.Entry.TheVariants as entry
use Rattle.zw_text.specs.Transcript.{folded, line_of, words_of, words_said}
use Rattle.zw_text.proofs.Views.{folded-append, shown-append}
use Rattle.law_time.specs.Judged.{is_acknowledgement, last_of}
use Rattle.law_time.specs.Requests.{are_none}
use Rattle.law_time.specs.Queue.{comes_at_once, first_step}
use Rattle.host_model.specs.Events.{HostEvent, Hears}
use Rattle.host_model.specs.Outs.{answer_to, outs}
use Rattle.proof_attempts.specs.proof_requests.proof_alone.State.{HostMachine}
use Rattle.proof_attempts.specs.proof_requests.proof_alone.Steps.{DidNotCome, IsOfOthers, IsOfUnit, Step, Tells, Comes, Misses, Says, Says_nothing, Asks, Refuses, Shows, Restarts, Begins_tick, Numbers, Judges, Does, entries, happens}
use Rattle.proof_attempts.specs.proof_requests.proof_alone.Phases.{Phase, Resting, Asked, Risen, Ticking, Open, Behind, Sleeping, Submitting, GoesBy, May, Turns}
use Rattle.proof_attempts.specs.proof_requests.proof_alone.Runs.{both_know}
use Rattle.proof_attempts.specs.proof_requests.Walking.{Ground, KnowsAsked}
use Rattle.proof_attempts.proofs.proof_requests_Telling.{IsQuiet, mark_quiet}
use Rattle.proof_attempts.proofs.proof_waking_Parts.{IsNoted}
use Rattle.proof_attempts.proofs.Wrote.{Wrote, writes}
use Rattle.proof_attempts.proofs.Wrote.Wrote.{Quietly, Again, Anew}
use Rattle.proof_known.proofs.Events.{AreAnswers, answers_are, outs_told}
use Rattle.proof_known.proofs.proof_alone_Apart.{AreOfLine}
use Rattle.proof_known.proofs.proof_device_HostOuts.{OutsAre}
use Rattle.proof_attempts.specs.proof_requests.proof_alone.Careful.{Stage, Fresh, Reading, Read, Looked, Judging, MayJudge, MayPump, MayStep, TurnsWell, stage_after, stage_judged, stage_pumped, stage_turned}

abbrev pub is_reading : Stage → Bool
is_reading Reading = true
is_reading Read = true
is_reading stage = false

abbrev pub is_first : List Entry → Bool
is_first past = folded first_step true past

abbrev pub FirstOr : List Entry → HostMachine → Type 0
FirstOr past m = (is_first past ≡ true) ⊎ (m.came ≡ [])

abbrev pub First : Stage → List Entry → HostMachine → Type 0
First Fresh past m = FirstOr past m
First Looked past m = FirstOr past m
First stage past m = Unit {0}

-- it judges only where items may be
abbrev pub Where : Phase → Stage → Type 0
Where Open Judging = Unit {0}
Where (Behind left) Judging = Unit {0}
Where here Judging = ⊥
Where here stage = Unit {0}

pub record Paced (here : Phase) (stage : Stage) (past : List Entry) (m : HostMachine) : Type 0 where
  pub at_once : comes_at_once past ≡ is_reading stage
  pub left : is_reading stage ≡ true → m.left ≡ 0
  pub first : First stage past m
  pub at : Where here stage

-- ---- entries

abbrev Wordless : Entry → Type 0
Wordless (entry.Said words) = ⊥
Wordless e = Unit {0}

-- none of them acknowledges a frame, or is words
abbrev pub Unjudged : Entry → Type 0
Unjudged (entry.Said words) = ⊥
Unjudged (entry.Written Host unit) = is_acknowledgement unit ≡ false
Unjudged e = Unit {0}

unjudged_wordless : (e : Entry) → Unjudged e → Wordless e
unjudged_wordless (entry.Said words) un = absurd un
unjudged_wordless e un = tt

none_said : (told : List Entry) → AllByRecursion Wordless told → words_said told ≡ []
none_said [] all = refl
none_said (entry.Said words ∷ told) all = absurd all.0
none_said (e ∷ told) all = none_said told all.1

once_more : (past told : List Entry) → AllByRecursion Wordless told → comes_at_once (past ++ told) ≡ comes_at_once past
once_more past told all =
    ap (λ (l : List (List ℕ)). list_any (λ words. are_none (line_of (entry.Said words))) (last_of l))
    (shown-append words_of past told ∙ ap (λ (l : List (List ℕ)). words_said past ++ l) (none_said told all) ∙ append-nil (words_said past))

once_said : (past : List Entry) (words : List ℕ) → comes_at_once (past ++ entry.Said words ∷ []) ≡ are_none (line_of (entry.Said words))
once_said past words =
    ap (λ (l : List (List ℕ)). list_any (λ said. are_none (line_of (entry.Said said))) (last_of l)) (shown-append words_of past (entry.Said words ∷ []))
    ∙ ap (λ (l : List (List ℕ)). list_any (λ said. are_none (line_of (entry.Said said))) l)
    (drop_at (words_said past) (words ∷ []) (length (words_said past ++ words ∷ []) - 1) (omega (arith, length-append (words_said past) (words ∷ []))))
    ∙ or_none (are_none (line_of (entry.Said words)))
  where
    or_none : (b : Bool) → (b || false) ≡ b
    or_none true = refl
    or_none false = refl

stays_first : (told : List Entry) → AllByRecursion Unjudged told → folded first_step true told ≡ true
stays_first [] all = refl
stays_first (entry.Said words ∷ told) all = absurd all.0
stays_first (entry.Written Host unit ∷ told) all = ap (λ (b : Bool). folded first_step (true && not b) told) all.0 ∙ stays_first told all.1
stays_first (entry.Written Chip unit ∷ told) all = stays_first told all.1
stays_first (e ∷ told) all = stays_first told all.1

pub first_more : (past told : List Entry) → AllByRecursion Unjudged told → is_first past ≡ true → is_first (past ++ told) ≡ true
first_more past told all is = folded-append first_step true past told ∙ ap (λ (b : Bool). folded first_step b told) is ∙ stays_first told all

pub either_more : (past told : List Entry) (m later : HostMachine) → AllByRecursion Unjudged told → later.came ≡ m.came → FirstOr past m → FirstOr (past ++ told) later
either_more past told m later all same (inl is) = inl (first_more past told all is)
either_more past told m later all same (inr none) = inr (same ∙ none)

first_stays : (stage : Stage) (past told : List Entry) (m later : HostMachine) → AllByRecursion Unjudged told → later.came ≡ m.came → First stage past m → First stage (past ++ told) later
first_stays Fresh past told m later all same first = either_more past told m later all same first
first_stays Looked past told m later all same first = either_more past told m later all same first
first_stays Reading past told m later all same first = tt
first_stays Read past told m later all same first = tt
first_stays Judging past told m later all same first = tt

first_so : (stage : Stage) (past : List Entry) (m : HostMachine) → is_first past ≡ true → First stage past m
first_so Fresh past m is = inl is
first_so Looked past m is = inl is
first_so Reading past m is = tt
first_so Read past m is = tt
first_so Judging past m is = tt

quiet_unjudged : (e : Entry) → IsQuiet e → Unjudged e
quiet_unjudged (entry.Said words) quiet = absurd quiet
quiet_unjudged (entry.Written Host unit) quiet = ap is_acknowledgement quiet
quiet_unjudged (entry.Written Chip unit) quiet = tt
quiet_unjudged e quiet = tt

pub others_unjudged : (e : Entry) → IsOfOthers e → Unjudged e
others_unjudged (entry.Said words) of = absurd of
others_unjudged (entry.Written side unit) of = absurd of
others_unjudged e of = tt

pub missed_unjudged : (marks : List Entry) → DidNotCome marks → AllByRecursion Unjudged marks
missed_unjudged (entry.Dropped Chip ∷ []) did = (tt, tt)
missed_unjudged (entry.Overrun Chip ∷ []) did = (tt, tt)
missed_unjudged (entry.Garbled Chip unit ∷ []) did = (tt, tt)
missed_unjudged (entry.Garbled Chip unit ∷ entry.Overrun Chip ∷ []) did = (tt, (tt, tt))
missed_unjudged marks did = absurd did

pub wrote_unjudged : (here : Phase) (past told : List Entry) (m : HostMachine) (event : HostEvent) → Wrote here past told m.state event → AllByRecursion Unjudged told
wrote_unjudged here past told m event (Quietly un quiet) = all-weaker IsQuiet Unjudged quiet_unjudged told quiet
wrote_unjudged here past told m event (Again f rest un are old quiet) = subst (AllByRecursion Unjudged) (sym are) (refl, all-weaker IsQuiet Unjudged quiet_unjudged rest quiet)
wrote_unjudged here past told m event (Anew purpose f marks at free are fresh all now) =
    subst (AllByRecursion Unjudged) (sym are) (refl, all-weaker IsOfUnit Unjudged (λ e mark. quiet_unjudged e (mark_quiet e mark)) marks all)

pub noted_unjudged : (e : Entry) → IsNoted e → Unjudged e
noted_unjudged (entry.Said words) noted = absurd noted
noted_unjudged (entry.Written side unit) noted = absurd noted
noted_unjudged e noted = tt

pub mark_unjudged : (e : Entry) → IsOfUnit e → Unjudged e
mark_unjudged e mark = quiet_unjudged e (mark_quiet e mark)

-- after an acknowledgement nothing is judged first, until words, the number of a tick or a unit of the chip stand
abbrev pub Second : Entry → Type 0
Second e = first_step false e ≡ false

pub others_second : (e : Entry) → IsOfOthers e → Second e
others_second (entry.Said words) of = absurd of
others_second (entry.Time tick) of = absurd of
others_second (entry.Written side unit) of = absurd of
others_second e of = refl

pub noted_second : (e : Entry) → IsNoted e → Second e
noted_second (entry.Said words) noted = absurd noted
noted_second (entry.Time tick) noted = absurd noted
noted_second (entry.Written side unit) noted = absurd noted
noted_second e noted = refl

pub mark_second : (e : Entry) → IsOfUnit e → Second e
mark_second (entry.Dropped Host) mark = refl
mark_second (entry.Garbled Host unit) mark = refl
mark_second (entry.Overrun Host) mark = refl
mark_second e mark = absurd mark

stays_second : (told : List Entry) → AllByRecursion Second told → folded first_step false told ≡ false
stays_second [] all = refl
stays_second (e ∷ told) all = ap (λ (b : Bool). folded first_step b told) all.0 ∙ stays_second told all.1

pub second_more : (past told : List Entry) → AllByRecursion Second told → is_first past ≡ false → is_first (past ++ told) ≡ false
second_more past told all is = folded-append first_step true past told ∙ ap (λ (b : Bool). folded first_step b told) is ∙ stays_second told all

pub judged_once : (past marks : List Entry) → AllByRecursion Second marks → is_first (past ++ entry.Written Host (unit_text Ack) ∷ marks) ≡ false
judged_once past marks all =
    folded-append first_step true past (entry.Written Host (unit_text Ack) ∷ marks) ∙ ap (λ (b : Bool). folded first_step b marks) (and_right (is_first past) false refl) ∙ stays_second marks all

-- ---- phases

where_same : (here next : Phase) (stage : Stage) → next ≡ here → Where here stage → Where next stage
where_same here next stage is at = subst (λ (p : Phase). Where p stage) (sym is) at

where_judged : (stage : Stage) (behind : List HostEvent) → Where (Behind behind) stage
where_judged Fresh behind = tt
where_judged Reading behind = tt
where_judged Read behind = tt
where_judged Looked behind = tt
where_judged Judging behind = tt

where_open : (stage : Stage) → Where Open stage
where_open Fresh = tt
where_open Reading = tt
where_open Read = tt
where_open Looked = tt
where_open Judging = tt

-- an event leads from where it may to where it may
where_does : (here next : Phase) (m : HostMachine) (event : HostEvent) (stage : Stage) → GoesBy here m.state event next → Where here stage → Where next stage
where_does (Ticking (first ∷ left)) next m event stage goes at = where_same (Ticking left) next stage goes.1 (by stage at)
  where
    by : (stage : Stage) → Where (Ticking (first ∷ left)) stage → Where (Ticking left) stage
    by Judging at = absurd at
    by Fresh at = tt
    by Reading at = tt
    by Read at = tt
    by Looked at = tt
where_does (Behind (first ∷ left)) next m event stage goes at = where_same (Behind left) next stage goes.1 (where_judged stage left)
where_does Sleeping next m event stage (node, wants, is, next_is) at = where_same Sleeping next stage next_is at
where_does Submitting next m event stage goes at = where_same Submitting next stage goes.1 at
where_does here next m event stage goes at = absurd goes

fresh_rest : (here next : Phase) → next ≡ here → Where here Fresh
fresh_rest here next is = by here
  where
    by : (p : Phase) → Where p Fresh
    by Resting = tt
    by (Asked line) = tt
    by Risen = tt
    by (Ticking left) = tt
    by Open = tt
    by (Behind left) = tt
    by Sleeping = tt
    by Submitting = tt

-- ---- steps

same_reading : (stage : Stage) → is_reading (stage_judged stage) ≡ is_reading stage
same_reading Fresh = refl
same_reading Reading = refl
same_reading Read = refl
same_reading Looked = refl
same_reading Judging = refl

first_judged : (stage : Stage) (past : List Entry) (m : HostMachine) → MayJudge stage → First (stage_judged stage) past m
first_judged Fresh past m may = absurd may
first_judged Reading past m may = tt
first_judged Read past m may = absurd may
first_judged Looked past m may = tt
first_judged Judging past m may = tt

answers_unjudged : AreAnswers Unjudged
answers_unjudged = record { accepted = λ command node. tt; taken_back = λ command. tt }

all_wordless : (told : List Entry) → AllByRecursion Unjudged told → AllByRecursion Wordless told
all_wordless told all = all-weaker Unjudged Wordless unjudged_wordless told all

-- what goes on with entries at which nothing is judged, with what came as it is
goes : (here next : Phase) (stage : Stage) (past told : List Entry) (m later : HostMachine) → Where next stage → AllByRecursion Unjudged told → later.came ≡ m.came
    → (is_reading stage ≡ true → later.left ≡ 0) → Paced here stage past m → Paced next stage (past ++ told) later
goes here next stage past told m later at all same left pace = record {
  at_once = once_more past told (all_wordless told all) ∙ pace.at_once;
  left = left;
  first = first_stays stage past told m later all same pace.first;
  at = at;
}

comes_first : (past : List Entry) (e : Entry) (marks : List Entry) → first_step (is_first past) e ≡ true → AllByRecursion Unjudged marks → is_first (past ++ e ∷ marks) ≡ true
comes_first past e marks is all = folded-append first_step true past (e ∷ marks) ∙ ap (λ (b : Bool). folded first_step b marks) is ∙ stays_first marks all

pub number_is : (past : List Entry) (tick : ℕ) → is_first (past ++ entry.Time tick ∷ []) ≡ true
number_is past tick = comes_first past (entry.Time tick) [] refl tt

begins_first : (stage : Stage) (past : List Entry) (m later : HostMachine) → is_reading stage ≡ false → Where Resting stage → later.came ≡ m.came → First stage past m → FirstOr (past ++ []) later
begins_first Fresh past m later unread at same first = either_more past [] m later tt same first
begins_first Looked past m later unread at same first = either_more past [] m later tt same first
begins_first Reading past m later unread at same first = absurd (let bad : true ≡ false = unread in cc)
begins_first Read past m later unread at same first = absurd (let bad : true ≡ false = unread in cc)
begins_first Judging past m later unread at same first = absurd at

not_reading : (stage : Stage) (left more : ℕ) → (is_reading stage ≡ true → left ≡ 0) → left ≡ suc more → is_reading stage ≡ false
not_reading stage left more none some = by (is_reading stage) refl
  where
    by : (b : Bool) → is_reading stage ≡ b → is_reading stage ≡ false
    by true is = absurd (let zero_is = none is in omega (arith, zero_is, some))
    by false is = is

none_came : (stage : Stage) (past : List Entry) (m : HostMachine) → m.came ≡ [] → First stage past m
none_came Fresh past m none = inr none
none_came Looked past m none = inr none
none_came Reading past m none = tt
none_came Read past m none = tt
none_came Judging past m none = tt

line_wordless : AreOfLine Wordless
line_wordless = record { written = λ side text. tt; dropped = λ side. tt; garbled = λ side text. tt; overrun = λ side. tt }

answered : (item : Item) → OutsAre Wordless (answer_to item)
answered (Good (Framed f)) = (tt, tt)
answered (Good Ack) = tt
answered (Good Nak) = tt
answered (Good Can) = tt
answered (Refused (BadSum want got)) = (tt, tt)
answered (Refused (BadKind x)) = (tt, tt)
answered (Refused (Stray x)) = tt
answered (Refused (BadLength n)) = tt
answered (Refused Aborted) = tt

pub pace_step : (here next : Phase) (stage : Stage) (past : List Entry) (m : HostMachine) (one : Step) → May here m one next → MayStep stage one → both_know Ground KnowsAsked here past m
    → Paced here stage past m → Paced next (stage_after stage one) (past ++ entries m one) (happens m one)
pace_step here next stage past m (Tells e) may well asks pace = goes here next stage past (e ∷ []) m m (where_same here next stage may.3 pace.at) (others_unjudged e may.1, tt) refl pace.left pace
pace_step here next stage past m (Comes unit) may well asks pace = record {
  at_once = once_more past (entries m (Comes unit)) (tt, tt) ∙ pace.at_once;
  left = pace.left;
  first = first_so stage (past ++ entries m (Comes unit)) (happens m (Comes unit)) (comes_first past (entry.Written Chip (unit_text unit)) [] refl tt);
  at = where_same here next stage may.2 pace.at;
}
pace_step here next stage past m (Misses text marks) may well asks pace = record {
  at_once = once_more past (entries m (Misses text marks)) (tt, all_wordless marks (missed_unjudged marks may.1)) ∙ pace.at_once;
  left = pace.left;
  first = first_so stage (past ++ entries m (Misses text marks)) m (comes_first past (entry.Written Chip text) marks refl (missed_unjudged marks may.1));
  at = where_same here next stage may.3 pace.at;
}
pace_step here next stage past m (Says words line) may well asks pace = record {
  at_once = once_said past words ∙ ap (λ (l : List Line). are_none l) may.2;
  left = λ is. absurd (let bad : false ≡ true = is in cc);
  first = inl (comes_first past (entry.Said words) [] refl tt);
  at = fresh_rest next next refl;
}
pace_step here next stage past m (Says_nothing words) may well asks pace = record {
  at_once = once_said past words ∙ ap (λ (l : List Line). are_none l) may.2;
  left = λ is. may.1;
  first = tt;
  at = where_same Resting next Reading (may.3 ∙ may.0) tt;
}
pace_step here next stage past m (Asks event) (line, here_is, asked, may, numbered, is) well asks pace =
    goes here next stage past (entries m (Asks event)) m (happens m (Asks event)) (where_same Open next stage is (where_open stage)) (answers_are Unjudged answers_unjudged m.state event) refl pace.left pace
pace_step here next stage past m (Refuses refusal) (line, here_is, why, numbered, is) well asks pace =
    goes here next stage past (entries m (Refuses refusal)) m m (where_same Open next stage is (where_open stage)) (tt, tt) refl pace.left pace
pace_step here next stage past m (Shows node) may well asks pace =
    goes here next stage past (entries m (Shows node)) m m (where_same Open next stage may.2 (where_open stage)) (tt, tt) refl pace.left pace
pace_step here next stage past m (Restarts state) may well asks pace = record {
  at_once = once_more past [] tt ∙ pace.at_once;
  left = pace.left;
  first = none_came stage (past ++ []) (happens m (Restarts state)) refl;
  at = where_same Open next stage may.2 (where_open stage);
}
pace_step here next stage past m (Begins_tick left) may well asks pace =
    let unread : is_reading stage ≡ false = not_reading stage m.left left pace.left may.1 in
    record {
      at_once = once_more past [] tt ∙ pace.at_once ∙ unread;
      left = λ is. absurd (let bad : false ≡ true = is in cc);
      first = begins_first stage past m (happens m (Begins_tick left)) unread (where_same here Resting stage (sym may.0) pace.at) refl pace.first;
      at = fresh_rest next next refl;
    }
pace_step here next stage past m Numbers may well asks pace = record {
  at_once = once_more past (entries m Numbers) (tt, tt) ∙ pace.at_once;
  left = pace.left;
  first = first_so stage (past ++ entries m Numbers) (happens m Numbers) (comes_first past (entry.Time m.clock) [] refl tt);
  at = where_same here next stage may.1 pace.at;
}
pace_step here next stage past m (Judges item rest behind told) may well asks pace = record {
  at_once = once_more past told (outs_told Wordless line_wordless (outs m.state (Hears item)) told (answered item) may.1.told_so) ∙ pace.at_once ∙ sym (same_reading stage);
  left = λ is. pace.left (sym (same_reading stage) ∙ is);
  first = first_judged stage (past ++ told) (happens m (Judges item rest behind told)) well;
  at = where_same (Behind behind) next (stage_judged stage) may.2 (where_judged (stage_judged stage) behind);
}
pace_step here next stage past m (Does event told) may well asks pace =
    goes here next stage past told m (happens m (Does event told)) (where_does here next m event stage may.0 pace.at)
    (wrote_unjudged here past told m event (writes here next past told m event may asks.0 asks.1)) refl pace.left pace

-- a part is over
pumped_reading : (stage : Stage) → is_reading (stage_pumped stage) ≡ is_reading stage
pumped_reading Fresh = refl
pumped_reading Reading = refl
pumped_reading Read = refl
pumped_reading Looked = refl
pumped_reading Judging = refl

pumped_first : (stage : Stage) (past : List Entry) (m : HostMachine) → MayPump stage m.came → First stage past m → First (stage_pumped stage) past m
pumped_first Fresh past m may first = first
pumped_first Reading past m may first = tt
pumped_first Read past m may first = tt
pumped_first Looked past m may first = first
pumped_first Judging past m may first = inr may

pumped_where : (stage : Stage) → Where Sleeping (stage_pumped stage)
pumped_where Fresh = tt
pumped_where Reading = tt
pumped_where Read = tt
pumped_where Looked = tt
pumped_where Judging = tt

where_on : (here next : Phase) (stage : Stage) → ((stage ≡ Judging → ⊥) ⊎ (next ≡ Open)) → Where next stage
where_on here next Fresh why = fresh_rest next next refl
where_on here next stage (inr is) = where_same Open next stage is (where_open stage)
where_on here next Judging (inl never) = absurd (never refl)
where_on here next Reading (inl never) = reads next
  where
    reads : (p : Phase) → Where p Reading
    reads Resting = tt
    reads (Asked line) = tt
    reads Risen = tt
    reads (Ticking left) = tt
    reads Open = tt
    reads (Behind left) = tt
    reads Sleeping = tt
    reads Submitting = tt
where_on here next Read (inl never) = reads next
  where
    reads : (p : Phase) → Where p Read
    reads Resting = tt
    reads (Asked line) = tt
    reads Risen = tt
    reads (Ticking left) = tt
    reads Open = tt
    reads (Behind left) = tt
    reads Sleeping = tt
    reads Submitting = tt
where_on here next Looked (inl never) = looks next
  where
    looks : (p : Phase) → Where p Looked
    looks Resting = tt
    looks (Asked line) = tt
    looks Risen = tt
    looks (Ticking left) = tt
    looks Open = tt
    looks (Behind left) = tt
    looks Sleeping = tt
    looks Submitting = tt

same_pace : (here next : Phase) (stage : Stage) (past : List Entry) (m : HostMachine) → Where next stage → Paced here stage past m → Paced next stage past m
same_pace here next stage past m at pace = record { at_once = pace.at_once; left = pace.left; first = pace.first; at = at }

is_judging : (here : Phase) (stage : Stage) → (Where here Judging → ⊥) → Where here stage → stage ≡ Judging → ⊥
is_judging here stage never at is = never (subst (λ (s : Stage). Where here s) is at)

pub pace_turn : (here next : Phase) (stage : Stage) (past : List Entry) (m : HostMachine) → Turns here m next → TurnsWell stage here m → Paced here stage past m → Paced next (stage_turned stage here) past m
pace_turn Resting next stage past m is well pace = same_pace Resting next stage past m (where_on Resting next stage (inr is)) pace
pace_turn (Asked line) next stage past m is well pace = same_pace (Asked line) next stage past m (where_on (Asked line) next stage (inl (is_judging (Asked line) stage (λ at. at) pace.at))) pace
pace_turn Risen next stage past m is well pace = same_pace Risen next stage past m (where_on Risen next stage (inl (is_judging Risen stage (λ at. at) pace.at))) pace
pace_turn (Ticking []) next stage past m is well pace = same_pace (Ticking []) next stage past m (where_on (Ticking []) next stage (inr is)) pace
pace_turn (Ticking (first ∷ left)) next stage past m is well pace = absurd is
pace_turn Open next stage past m is well pace = record {
  at_once = pace.at_once ∙ sym (pumped_reading stage);
  left = λ reads. pace.left (sym (pumped_reading stage) ∙ reads);
  first = pumped_first stage past m well.0 pace.first;
  at = where_same Sleeping next (stage_pumped stage) is (pumped_where stage);
}
pace_turn (Behind []) next stage past m is well pace = same_pace (Behind []) next stage past m (where_on (Behind []) next stage (inr is)) pace
pace_turn (Behind (first ∷ left)) next stage past m is well pace = absurd is
pace_turn Sleeping next stage past m is well pace = same_pace Sleeping next stage past m (where_on Sleeping next stage (inl (is_judging Sleeping stage (λ at. at) pace.at))) pace
pace_turn Submitting next stage past m is well pace = same_pace Submitting next stage past m (where_on Submitting next stage (inl (is_judging Submitting stage (λ at. at) pace.at))) pace
