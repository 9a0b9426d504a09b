-- The nodes that joined by the transcript of a host alone: each is a node and joined once, and each that was interviewed joined.
use Rattle.std.proofs.Common.{◌≡◌, ◌⊎◌, ◌≤◌, ◌<◌, ℕ, ◌+◌, ◌==◌, ◌||◌, Bool, true, false, if◌then◌else◌, inl, inr, List, [], ◌∷◌, ◌++◌, refl, sym, ap, ◌∙◌, subst, append-nil, append_assoc, arith}
use Rattle.std.specs.Prelude.{Some, None, is_some}
use Rattle.std.specs.List.{AllByRecursion, flat_map, list_any}
use Rattle.std.proofs.lemmas.Bool.{both_ways, eq-eqb, eqb-true, or_from, or_left}
use Rattle.std.proofs.lemmas.Grind.{flat_map-append}
use Rattle.std.proofs.lemmas.List.Folds.{list_any-append}
use Rattle.zw_base.proofs.Each.{all-append}
use Rattle.zw_text.specs.Line.{IsNode, line_at}
use Rattle.zw_text.specs.declared.line.Line.{Line}
use Rattle.zw_text.specs.declared.line.Line.TheVariants as lines
use Rattle.zw_text.specs.declared.entry.Refusal.{Refusal}
use Rattle.zw_text.specs.declared.entry.Entry.{Entry}
use Rattle.zw_text.specs.declared.entry.Entry.TheVariants as entry
use Rattle.zw_text.specs.Transcript.{Doing, doing_lines, doing_step, folded, interview_at, interviews, join_of, joined, line_of, lines_done}
use Rattle.zw_text.proofs.Views.{folded-append, shown-append}
use Rattle.law_transcript.specs.Answers.{before_last}
use Rattle.law_transcript.specs.Nodes.{is_interviewed, known_at_first, known_classes}
use Rattle.host_model.specs.State.{HostState, node_of}
use Rattle.host_model.specs.Did.{MayAll}
use Rattle.host_model.specs.May.{May as MayHost}
use Rattle.host_model.specs.Events.{HostEvent, Accepts, Hears, Interviews, Joins}
use Rattle.host_model.specs.Outs.{answers, outs}
use Rattle.proof_sending.proofs.Hosts.{of_joined}
use Rattle.proof_attempts.specs.proof_requests.law_host.Heard.{listing_heard}
use Rattle.proof_attempts.specs.proof_requests.proof_alone.State.{HostMachine}
use Rattle.proof_attempts.specs.proof_requests.proof_alone.Steps.{AreTold, AsksNothing, IsAskedBy, IsOfOthers, Step, Tells, Comes, Misses, Says, Says_nothing, Asks, Refuses, Shows, Restarts, Begins_tick, Numbers, Judges, Does, entries, happens}
use Rattle.proof_attempts.specs.proof_requests.proof_alone.Phases.{Phase, Resting, Asked, Risen, Ticking, Open, Behind, Sleeping, Submitting, IsBetween, May, Turns}
use Rattle.proof_attempts.specs.proof_requests.proof_alone.Runs.{Knowledge, Run}
use Rattle.proof_attempts.specs.proof_requests.proof_alone.Runs.Run.{Begins, Turned, Stepped}
use Rattle.proof_attempts.specs.proof_requests.proof_alone.Tables.{TieTables}
use Rattle.proof_attempts.specs.Since.{IsElse}
use Rattle.proof_attempts.proofs.Lasting.{by_else}
use Rattle.proof_known.specs.Known.{KnowsTold}
use Rattle.proof_known.proofs.Events.{AreAnswers, answers_are, outs_told}
use Rattle.proof_known.proofs.Telling.{read_join}
use Rattle.proof_known.proofs.proof_alone_Apart.{AreOfLine, missed_are}
use Rattle.proof_known.proofs.proof_device_HostOuts.{OwnIs, SharedAre, outs_are}
use Rattle.proof_queue.proofs.Books.{before_line}
use Rattle.proof_queue.proofs.Orders.{AreDistinct, is_among}

abbrev pub IsInRange : ℕ → Type 0
IsInRange n = (1 ≤ n) × (n < 1 + 232)

pub record JoinedSo (past : List Entry) : Type 0 where
  pub nodes : AllByRecursion IsInRange (joined past)
  pub distinct : AreDistinct (joined past)
  pub interviewed : (n : ℕ) → is_interviewed past n ≡ true → is_among (joined past) n ≡ true

-- while a line is asked, of what stood before its words
abbrev pub KnowsJoined : Knowledge
KnowsJoined (Asked line) past m = (before : List Entry) (words : List ℕ) → past ≡ before ++ entry.Said words ∷ [] → JoinedSo before
KnowsJoined here past m = JoinedSo past

-- a node whose classes are known joined
pub known_joined : (past : List Entry) → JoinedSo past → (n : ℕ) → is_some (known_classes listing_heard past n) ≡ true → is_among (joined past) n ≡ true
known_joined past so n some = by (is_interviewed past n) refl some
  where
    first : {A : Type 0} (b : Bool) (classes : A) → (n == 2) ≡ b → is_some (if b then Some classes else None) ≡ true → is_among (joined past) n ≡ true
    first true classes is known = or_left (2 == n) (is_among (flat_map join_of (lines_done past)) n) (eq-eqb 2 n (sym (eqb-true n 2 is)))
    first false classes is known = absurd (let bad : false ≡ true = known in cc)

    by : (b : Bool) → is_interviewed past n ≡ b → is_some (if b then Some (listing_heard past n) else known_at_first n) ≡ true → is_among (joined past) n ≡ true
    by true is known = so.interviewed n is
    by false is known = first (n == 2) _ refl known

-- ---- entries

-- it neither says nor refuses a line, and tells of no interview that ended well
abbrev IsPlain : Entry → Type 0
IsPlain (entry.Said words) = ⊥
IsPlain (entry.Refused refusal) = ⊥
IsPlain (entry.Interviewed n) = ⊥
IsPlain e = Unit {0}

shared_plain : SharedAre IsPlain
shared_plain = record {
  unanswered = λ command. tt;
  asleep = λ n. tt;
  done = λ n how. tt;
  uninterviewed = λ n. tt;
  neighbours = λ n nodes. tt;
  failed = λ n is_failed. tt;
  stored = λ n setting. tt;
  held = λ n. tt;
  full = λ n. tt;
}

line_plain : AreOfLine IsPlain
line_plain = record { written = λ side text. tt; dropped = λ side. tt; garbled = λ side text. tt; overrun = λ side. tt }

answers_plain : AreAnswers IsPlain
answers_plain = record { accepted = λ command node. tt; taken_back = λ command. tt }

others_plain : (e : Entry) → IsOfOthers e → IsPlain e
others_plain (entry.Said words) of = absurd of
others_plain (entry.Refused refusal) of = absurd of
others_plain (entry.Interviewed n) of = absurd of
others_plain e of = tt

abbrev nothing_done : Doing
nothing_done = record { earlier = []; last = [] }

done_one : (past : List Entry) (e : Entry) → IsPlain e → lines_done (past ++ e ∷ []) ≡ lines_done past
done_one past (entry.Said words) none = absurd none
done_one past (entry.Refused refusal) none = absurd none
done_one past (entry.Interviewed n) none = absurd none
done_one past e none = ap doing_lines (folded-append doing_step nothing_done past (e ∷ [])) ∙ append-nil (lines_done past)

none_interviewed : (n : ℕ) (e : Entry) → IsPlain e → list_any (λ succeeded. succeeded) (interview_at n e) ≡ false
none_interviewed n (entry.Interviewed node) none = absurd none
none_interviewed n (entry.InterviewFailed node) none = by (node == n)
  where
    by : (b : Bool) → list_any (λ succeeded. succeeded) (if b then false ∷ [] else []) ≡ false
    by true = refl
    by false = refl
none_interviewed n e none = refl

or_none : (a b : Bool) → b ≡ false → (a || b) ≡ a
or_none true b is = refl
or_none false b is = is

interviews_one : (past : List Entry) (e : Entry) (n : ℕ) → list_any (λ succeeded. succeeded) (interview_at n e ++ []) ≡ false → is_interviewed (past ++ e ∷ []) n ≡ is_interviewed past n
interviews_one past e n none =
    ap (λ (l : List Bool). list_any (λ succeeded. succeeded) l) (shown-append (interview_at n) past (e ∷ [])) ∙ list_any-append (λ succeeded. succeeded) (interviews n past) (interview_at n e ++ [])
    ∙ or_none (is_interviewed past n) (list_any (λ succeeded. succeeded) (interview_at n e ++ [])) none

so_with : (past later : List Entry) → joined later ≡ joined past → ((n : ℕ) → is_interviewed later n ≡ is_interviewed past n) → JoinedSo past → JoinedSo later
so_with past later same interviewed so = record {
  nodes = subst (AllByRecursion IsInRange) (sym same) so.nodes;
  distinct = subst AreDistinct (sym same) so.distinct;
  interviewed = λ n is. subst (λ (l : List ℕ). is_among l n ≡ true) (sym same) (so.interviewed n (sym (interviewed n) ∙ is));
}

one_more : (past : List Entry) (e : Entry) → IsPlain e → JoinedSo past → JoinedSo (past ++ e ∷ [])
one_more past e plain so =
    so_with past (past ++ e ∷ []) (ap (λ (done : List Line). 2 ∷ flat_map join_of done) (done_one past e plain))
    (λ n. interviews_one past e n (ap (λ (l : List Bool). list_any (λ succeeded. succeeded) l) (append-nil (interview_at n e)) ∙ none_interviewed n e plain)) so

more : (past told : List Entry) → AllByRecursion IsPlain told → JoinedSo past → JoinedSo (past ++ told)
more past [] all so = subst JoinedSo (sym (append-nil past)) so
more past (e ∷ told) all so = subst JoinedSo (append_assoc past (e ∷ []) told) (more (past ++ e ∷ []) told all.1 (one_more past e all.0 so))

-- ---- lines

said_joined : (past : List Entry) (words : List ℕ) → joined (past ++ entry.Said words ∷ []) ≡ joined past ++ flat_map join_of (line_of (entry.Said words))
said_joined past words =
    ap (λ (l : List Line). 2 ∷ flat_map join_of l) (ap doing_lines (folded-append doing_step nothing_done past (entry.Said words ∷ [])))
    ∙ ap (λ (l : List ℕ). 2 ∷ l) (flat_map-append join_of (lines_done past) (line_of (entry.Said words)))

said_none : (past : List Entry) (words : List ℕ) → flat_map join_of (line_of (entry.Said words)) ≡ [] → JoinedSo past → JoinedSo (past ++ entry.Said words ∷ [])
said_none past words none so =
    so_with past (past ++ entry.Said words ∷ []) (said_joined past words ∙ ap (λ (l : List ℕ). joined past ++ l) none ∙ append-nil (joined past)) (λ n. interviews_one past (entry.Said words) n refl) so

refused_joined : (before : List Entry) (words : List ℕ) (r : Refusal) → joined (before ++ entry.Said words ∷ (entry.Refused r ∷ [])) ≡ joined before
refused_joined before words r =
    ap (λ (l : List Line). 2 ∷ flat_map join_of l) (ap doing_lines (folded-append doing_step nothing_done before (entry.Said words ∷ (entry.Refused r ∷ []))) ∙ append-nil (lines_done before))

refused_so : (before : List Entry) (words : List ℕ) (r : Refusal) → JoinedSo before → JoinedSo ((before ++ entry.Said words ∷ []) ++ entry.Refused r ∷ [])
refused_so before words r so =
    so_with before ((before ++ entry.Said words ∷ []) ++ entry.Refused r ∷ []) (ap joined (append_assoc before (entry.Said words ∷ []) (entry.Refused r ∷ [])) ∙ refused_joined before words r)
    (λ n. interviews_one (before ++ entry.Said words ∷ []) (entry.Refused r) n refl ∙ interviews_one before (entry.Said words) n refl) so

-- a node joins that did not
distinct_more : (nodes : List ℕ) (n : ℕ) → AreDistinct nodes → is_among nodes n ≡ false → AreDistinct (nodes ++ n ∷ [])
distinct_more [] n distinct none = (refl, tt)
distinct_more (m ∷ nodes) n distinct none = (
  list_any-append (λ (one : ℕ). one == m) nodes (n ∷ []) ∙ or_from (is_among nodes m) ((n == m) || false) distinct.0 (or_none (n == m) false refl ∙ other (m == n) refl (first (m == n) (is_among nodes n) none)),
  distinct_more nodes n distinct.1 (rest (m == n) (is_among nodes n) none),
)
  where
    first : (a b : Bool) → (a || b) ≡ false → a ≡ false
    first true b is = is
    first false b is = refl

    rest : (a b : Bool) → (a || b) ≡ false → b ≡ false
    rest true b is = absurd (let bad : true ≡ false = is in cc)
    rest false b is = is

    other : (b : Bool) → (m == n) ≡ b → b ≡ false → (n == m) ≡ false
    other b is none = by (n == m) refl
      where
        by : (c : Bool) → (n == m) ≡ c → (n == m) ≡ false
        by false same = same
        by true same = absurd (both_ways (m == n) (is ∙ none) (eq-eqb m n (sym (eqb-true n m same))))

join_so : (before : List Entry) (words : List ℕ) (n : ℕ) → line_of (entry.Said words) ≡ lines.Join n ∷ [] → is_among (joined before) n ≡ false → JoinedSo before → JoinedSo (before ++ entry.Said words ∷ [])
join_so before words n read none so =
    let same : joined (before ++ entry.Said words ∷ []) ≡ joined before ++ n ∷ [] = said_joined before words ∙ ap (λ (l : List Line). joined before ++ flat_map join_of l) read in
    let range : IsNode 1 n = read_join words n (line_at words) refl read in
    record {
      nodes = subst (AllByRecursion IsInRange) (sym same) (all-append IsInRange (joined before) (n ∷ []) so.nodes ((omega (arith, range), omega (arith, range)), tt));
      distinct = subst AreDistinct (sym same) (distinct_more (joined before) n so.distinct none);
      interviewed = λ m is.
          ap (λ (l : List ℕ). is_among l m) same ∙ list_any-append (λ (one : ℕ). one == m) (joined before) (n ∷ [])
          ∙ or_left (is_among (joined before) m) ((n == m) || false) (so.interviewed m (sym (interviews_one before (entry.Said words) m refl) ∙ is));
    }

-- ---- an interview ends well

interviewed_so : (past : List Entry) (n : ℕ) → is_among (joined past) n ≡ true → JoinedSo past → JoinedSo (past ++ entry.Interviewed n ∷ [])
interviewed_so past n is so = record {
  nodes = subst (AllByRecursion IsInRange) (sym same) so.nodes;
  distinct = subst AreDistinct (sym same) so.distinct;
  interviewed = λ m told. ap (λ (l : List ℕ). is_among l m) same ∙ by m (n == m) refl (sym (grown m) ∙ told);
}
  where
    same : joined (past ++ entry.Interviewed n ∷ []) ≡ joined past
    same = ap (λ (l : List Line). 2 ∷ flat_map join_of l) (ap doing_lines (folded-append doing_step nothing_done past (entry.Interviewed n ∷ [])) ∙ append-nil (lines_done past))

    grown : (m : ℕ) → is_interviewed (past ++ entry.Interviewed n ∷ []) m ≡ (is_interviewed past m || list_any (λ succeeded. succeeded) ((if n == m then true ∷ [] else []) ++ []))
    grown m =
        ap (λ (l : List Bool). list_any (λ succeeded. succeeded) l) (shown-append (interview_at m) past (entry.Interviewed n ∷ []))
        ∙ list_any-append (λ succeeded. succeeded) (interviews m past) (interview_at m (entry.Interviewed n) ++ [])

    by : (m : ℕ) (b : Bool) → (n == m) ≡ b → (is_interviewed past m || list_any (λ succeeded. succeeded) ((if b then true ∷ [] else []) ++ [])) ≡ true → is_among (joined past) m ≡ true
    by m true it told = subst (λ (k : ℕ). is_among (joined past) k ≡ true) (eqb-true n m it) is
    by m false it told = so.interviewed m (sym (or_none (is_interviewed past m) false refl) ∙ told)

-- ---- the walk

-- whether words stand last
abbrev is_said : Bool → Entry → Bool
is_said before (entry.Said words) = true
is_said before e = false

between_else : (here : Phase) → IsBetween here → IsElse here
between_else (Asked line) between = absurd between
between_else here between = tt

rest_of : (here : Phase) (past : List Entry) (m : HostMachine) → IsElse here → KnowsJoined here past m → JoinedSo past
rest_of (Asked line) past m other known = absurd other
rest_of here past m other known = known

of_rest : (here : Phase) (past : List Entry) (m : HostMachine) → IsElse here → JoinedSo past → KnowsJoined here past m
of_rest (Asked line) past m other so = absurd other
of_rest here past m other so = so

leads_to : (next to : Phase) (past : List Entry) (m : HostMachine) → IsElse to → next ≡ to → JoinedSo past → KnowsJoined next past m
leads_to next to past m other is so = subst (λ (p : Phase). KnowsJoined p past m) (sym is) (of_rest to past m other so)

as_known : (here is : Phase) (past : List Entry) (m : HostMachine) → here ≡ is → KnowsJoined here past m → KnowsJoined is past m
as_known here is past m same known = subst (λ (p : Phase). KnowsJoined p past m) same known

told_at : (here is : Phase) (past : List Entry) (m : HostMachine) → here ≡ is → KnowsTold here past m → KnowsTold is past m
told_at here is past m same known = subst (λ (p : Phase). KnowsTold p past m) same known

joins_or_not : (line : Line) → ((n : ℕ) × (line ≡ lines.Join n)) ⊎ (join_of line ≡ [])
joins_or_not (lines.Join n) = inl (n, refl)
joins_or_not line = inr refl

-- words that stand last, by which no node joins
none_joins : (line : Line) (past : List Entry) (m : HostMachine) → join_of line ≡ [] → KnowsTold (Asked line) past m → KnowsJoined (Asked line) past m → JoinedSo past
none_joins line past m none told known =
    subst JoinedSo (sym told.are) (said_none told.before told.words (ap (λ (l : List Line). flat_map join_of l) told.read ∙ append-nil (join_of line) ∙ none) (known told.before told.words told.are))

asked_so : (line : Line) (past : List Entry) (m : HostMachine) (event : HostEvent) → IsAskedBy line m.state event → MayAll m.state (event ∷ []) → KnowsTold (Asked line) past m
    → KnowsJoined (Asked line) past m → JoinedSo past
asked_so line past m event asked may told known = by (joins_or_not line)
  where
    by : ((n : ℕ) × (line ≡ lines.Join n)) ⊎ (join_of line ≡ []) → JoinedSo past
    by (inl (n, is)) =
        let event_is : event ≡ Joins n = subst (λ (l : Line). IsAskedBy l m.state event) is asked in
        let free : (node_of m.state n).joined ≡ false = (subst (λ (e : HostEvent). MayHost m.state e) event_is may.0).0 in
        subst JoinedSo (sym told.are) (join_so told.before told.words n (told.read ∙ ap (λ (l : Line). l ∷ []) is) (sym (told.told.joined n) ∙ free) (known told.before told.words told.are))
    by (inr none) = none_joins line past m none told known

nothing_joins : (line : Line) → AsksNothing line → join_of line ≡ []
nothing_joins (lines.Join n) nothing = absurd nothing
nothing_joins line nothing = refl

host_so : (past told : List Entry) (h : HostState) (event : HostEvent) → OwnIs IsPlain event → AreTold (outs h event) told → JoinedSo past → JoinedSo (past ++ told)
host_so past told h event own are so = more past told (outs_told IsPlain line_plain (outs h event) told (outs_are IsPlain shared_plain h event own) are) so

event_so : (past told : List Entry) (m : HostMachine) (event : HostEvent) → MayHost m.state event → TieTables past m.state m.records → ((n : ℕ) → (node_of m.state n).joined ≡ is_among (joined past) n)
    → AreTold (outs m.state event) told → JoinedSo past → JoinedSo (past ++ told)
event_so past told m (Interviews n listens classes update) may tie joins (rest, is, none) so =
    subst (λ (l : List Entry). JoinedSo (past ++ l)) (sym (is ∙ ap (λ (l : List Entry). entry.Interviewed n ∷ l) none))
    (interviewed_so past n (sym (joins n) ∙ of_joined m.state (Interviews n listens classes update) tie.asks may) so)
event_so past told m (Accepts order carriage) may tie joins are so = host_so past told m.state (Accepts order carriage) (λ number. tt) are so
event_so past told m event may tie joins are so = host_so past told m.state event tt are so

step_goes : (here next : Phase) (past : List Entry) (m : HostMachine) (one : Step) → May here m one next → TieTables past m.state m.records → KnowsTold here past m → KnowsJoined here past m
    → KnowsJoined next (past ++ entries m one) (happens m one)
step_goes here next past m (Tells e) may tie told known =
    leads_to next here (past ++ e ∷ []) m (between_else here may.0) may.3 (one_more past e (others_plain e may.1) (rest_of here past m (between_else here may.0) known))
step_goes here next past m (Comes unit) may tie told known =
    leads_to next here (past ++ entries m (Comes unit)) (happens m (Comes unit)) (between_else here may.0) may.2 (more past (entries m (Comes unit)) (tt, tt) (rest_of here past m (between_else here may.0) known))
step_goes here next past m (Misses text marks) may tie told known =
    leads_to next here (past ++ entries m (Misses text marks)) m (between_else here may.0) may.3
    (more past (entries m (Misses text marks)) (tt, missed_are IsPlain line_plain marks may.1) (rest_of here past m (between_else here may.0) known))
step_goes here next past m (Says words line) may tie told known =
    subst (λ (p : Phase). KnowsJoined p (past ++ entry.Said words ∷ []) (happens m (Says words line))) (sym may.3)
    (λ before other is. subst JoinedSo (sym (before_line past (entry.Said words)) ∙ ap before_last is ∙ before_line before (entry.Said other)) (as_known here Resting past m may.0 known))
step_goes here next past m (Says_nothing words) may tie told known =
    leads_to next Resting (past ++ entry.Said words ∷ []) (happens m (Says_nothing words)) tt (may.3 ∙ may.0)
    (said_none past words (ap (λ (l : List Line). flat_map join_of l) may.2) (as_known here Resting past m may.0 known))
step_goes here next past m (Asks event) (line, here_is, asked, may, numbered, is) tie told known =
    leads_to next Open (past ++ answers m.state event) (happens m (Asks event)) tt is
    (more past (answers m.state event) (answers_are IsPlain answers_plain m.state event)
    (asked_so line past m event asked may (told_at here (Asked line) past m here_is told) (as_known here (Asked line) past m here_is known)))
step_goes here next past m (Refuses refusal) (line, here_is, why, numbered, is) tie told known =
    let t = told_at here (Asked line) past m here_is told in
    leads_to next Open (past ++ entry.Refused refusal ∷ []) m tt is
    (subst (λ (l : List Entry). JoinedSo (l ++ entry.Refused refusal ∷ [])) (sym t.are) (refused_so t.before t.words refusal (as_known here (Asked line) past m here_is known t.before t.words t.are)))
step_goes here next past m (Shows node) may tie told known =
    leads_to next Open (past ++ entries m (Shows node)) m tt may.2
    (more past (entries m (Shows node)) (tt, tt)
    (none_joins (lines.Store node) past m refl (told_at here (Asked (lines.Store node)) past m may.0 told) (as_known here (Asked (lines.Store node)) past m may.0 known)))
step_goes here next past m (Restarts state) may tie told known =
    leads_to next Open (past ++ []) (happens m (Restarts state)) tt may.2
    (more past [] tt (none_joins lines.Restart past m refl (told_at here (Asked lines.Restart) past m may.0 told) (as_known here (Asked lines.Restart) past m may.0 known)))
step_goes here next past m (Begins_tick left) may tie told known =
    leads_to next Risen (past ++ []) (happens m (Begins_tick left)) tt may.2 (more past [] tt (as_known here Resting past m may.0 known))
step_goes (Asked line) next past m Numbers may tie told known =
    subst (λ (p : Phase). KnowsJoined p (past ++ entry.Time m.clock ∷ []) (happens m Numbers)) (sym may.1) (λ before other is. absurd (never past m.clock before other is))
  where
    never : (past : List Entry) (clock : ℕ) (before : List Entry) (other : List ℕ) → past ++ entry.Time clock ∷ [] ≡ before ++ entry.Said other ∷ [] → ⊥
    never past clock before other is =
        let bad : false ≡ true = sym (folded-append is_said false past (entry.Time clock ∷ [])) ∙ ap (λ (l : List Entry). folded is_said false l) is ∙ folded-append is_said false before (entry.Said other ∷ []) in cc
step_goes here next past m Numbers may tie told known =
    leads_to next here (past ++ entries m Numbers) (happens m Numbers) tt may.1 (more past (entries m Numbers) (tt, tt) known)
step_goes here next past m (Judges item rest behind told) may tie told_so known =
    leads_to next (Behind behind) (past ++ told) (happens m (Judges item rest behind told)) tt may.2
    (host_so past told m.state (Hears item) tt may.1.told_so (as_known here Open past m may.0 known))
step_goes here next past m (Does event told) may tie told_so known =
    let else_so = by_else here next m.state event may.0 in
    of_rest next (past ++ told) (happens m (Does event told)) else_so.1
    (event_so past told m event may.1.0 tie (joined_at here else_so.0 told_so) may.2 (rest_of here past m else_so.0 known))
  where
    joined_at : (here : Phase) → IsElse here → KnowsTold here past m → (n : ℕ) → (node_of m.state n).joined ≡ is_among (joined past) n
    joined_at (Asked line) other k n = absurd other
    joined_at here other k n = k.joined n

turn_goes : (here next : Phase) (past : List Entry) (m : HostMachine) → Turns here m next → KnowsTold here past m → KnowsJoined here past m → KnowsJoined next past m
turn_goes Resting next past m is told known = leads_to next Open past m tt is known
turn_goes (Asked line) next past m (inl (nothing, is)) told known = leads_to next Open past m tt is (none_joins line past m (nothing_joins line nothing) told known)
turn_goes (Asked line) next past m (inr (ticks, line_is, is)) told known = leads_to next Resting past m tt is (none_joins line past m (ap join_of line_is) told known)
turn_goes Risen next past m is told known = leads_to next (Ticking _) past m tt is known
turn_goes (Ticking []) next past m is told known = leads_to next Open past m tt is known
turn_goes (Ticking (first ∷ left)) next past m is told known = absurd is
turn_goes Open next past m is told known = leads_to next Sleeping past m tt is known
turn_goes (Behind []) next past m is told known = leads_to next Open past m tt is known
turn_goes (Behind (first ∷ left)) next past m is told known = absurd is
turn_goes Sleeping next past m is told known = leads_to next Submitting past m tt is.1 known
turn_goes Submitting next past m is told known = leads_to next Resting past m tt is.1 known

-- ---- along runs

module _ (start : HostMachine) (tables : (here : Phase) (told : List Entry) (m : HostMachine) → Run start here told m → TieTables told m.state m.records)
    (tells : (here : Phase) (told : List Entry) (m : HostMachine) → Run start here told m → KnowsTold here told m) where
  pub joined_along : {here : Phase} {told : List Entry} {m : HostMachine} → Run start here told m → KnowsJoined here told m
  joined_along Begins = record { nodes = ((omega arith, omega arith), tt); distinct = (refl, tt); interviewed = λ n is. absurd (let bad : false ≡ true = is in cc) }
  joined_along {here = next} {told = told} {m = m} (Turned {here = here} turns run) = turn_goes here next told m turns (tells here told m run) (joined_along run)
  joined_along {here = next} {m = later} (Stepped {here = here} {told = told} {m = m} step may all_is later_is run) =
      subst (λ (l : List Entry). KnowsJoined next l later) (sym all_is)
      (subst (λ (n : HostMachine). KnowsJoined next (told ++ entries m step) n) (sym later_is) (step_goes here next told m step may (tables here told m run) (tells here told m run) (joined_along run)))
