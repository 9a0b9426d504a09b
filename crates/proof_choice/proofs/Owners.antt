-- Each node for which a host alone has work joined by its transcript: for it a command was accepted, and that was after it joined.
use Rattle.std.proofs.Common.{◌≡◌, ℕ, ◌==◌, ◌&&◌, nat_lt, Bool, true, false, if◌then◌else◌, Some, length, List, [], ◌∷◌, ◌++◌, refl, sym, ap, ◌∙◌, subst, append-nil, append_assoc, arith}
use Rattle.std.specs.Prelude.{is_none}
use Rattle.std.specs.List.{AllByRecursion, flat_map}
use Rattle.std.proofs.lemmas.Bool.{and_parts, or_left}
use Rattle.std.proofs.lemmas.Grind.{flat_map-append}
use Rattle.std.proofs.lemmas.List.Folds.{list_any-append}
use Rattle.std.proofs.lemmas.List.Elements.{recursion_from_All}
use Rattle.zw_words.specs.declared.side.Side.TheVariants.{Chip}
use Rattle.zw_text.specs.declared.line.Line.{Line}
use Rattle.zw_text.specs.declared.entry.Entry.{Entry}
use Rattle.zw_text.specs.declared.entry.Entry.TheVariants as entry
use Rattle.zw_text.specs.Transcript.{Doing, doing_lines, doing_step, folded, join_of, joined, shown}
use Rattle.zw_text.proofs.Views.{folded-append}
use Rattle.supervision.specs.Host.{open_session}
use Rattle.law_transcript.specs.Lists.{EachAfter}
use Rattle.law_transcript.specs.Stores.{node_at}
use Rattle.host_node.specs.State.{NodeState, has_waiting, has_work as works, is_false, is_idle, is_up}
use Rattle.host_node.specs.declared.series.Series.{Series}
use Rattle.host_node.specs.declared.series.Series.TheVariants.{Idle, Due, Running}
use Rattle.host_model.specs.State.{HostState, node_of}
use Rattle.host_model.specs.Events.{HostEvent, Accepts, Cancels, Hears}
use Rattle.host_model.specs.Facts.{HostFacts, IsCommandOf}
use Rattle.host_model.specs.May.{May as MayHost, known_of}
use Rattle.host_model.specs.Outs.{answers, outs}
use Rattle.host_model.proofs.Events.{session_owned}
use Rattle.host_model.proofs.Tests.{open_command_is, unrefused_is, unrefused_so}
use Rattle.proof_host.specs.Facts.{Facts}
use Rattle.proof_host.specs.Tables.{nodes_by}
use Rattle.proof_giving.specs.proof_queue.proof_attempts.proof_requests.proof_alone.State.{HostMachine}
use Rattle.proof_giving.specs.proof_queue.proof_attempts.proof_requests.proof_alone.Steps.{AreTold, Step, Tells, Comes, Misses, Says, Says_nothing, Asks, Refuses, Shows, Restarts, Begins_tick, Numbers, Judges, Does, entries}
use Rattle.proof_giving.specs.proof_queue.proof_attempts.proof_requests.proof_alone.Phases.{Phase, Asked, May}
use Rattle.proof_giving.specs.proof_queue.proof_attempts.proof_requests.proof_alone.Runs.{WalkOver}
use Rattle.proof_giving.proofs.proof_alone_Apart.{missed_are}
use Rattle.proof_following.specs.proof_ends.proof_rests.proof_nonces.proof_known.Known.{KnowsTold}
use Rattle.proof_giving.proofs.proof_queue_Orders.{is_among}
use Rattle.proof_giving.proofs.Along.{is_opened}
use Rattle.proof_giving.proofs.proof_known_Saying.{AcceptsNone, line_none, others_none, told_none}

-- ---- the lines before the last one

abbrev doing : List Entry → Doing
doing past = folded doing_step (record { earlier = []; last = [] }) past

abbrev earlier : List Entry → List ℕ
earlier past = 2 ∷ flat_map join_of (doing past).earlier

-- a command is accepted for a node that joined before its line
abbrev pub OwnLaw : List Entry → Entry → Type 0
OwnLaw past (entry.Accepted command node) = is_among (earlier past) node ≡ true
OwnLaw past e = Unit {0}

doing_more : (past : List Entry) (e : Entry) → doing (past ++ e ∷ []) ≡ doing_step (doing past) e
doing_more past e = folded-append doing_step (record { earlier = []; last = [] }) past (e ∷ [])

with_last : (d : Doing) (n : ℕ) → is_among (2 ∷ flat_map join_of d.earlier) n ≡ true → is_among (2 ∷ flat_map join_of (doing_lines d)) n ≡ true
with_last d n is =
    ap (λ (l : List ℕ). is_among (2 ∷ l) n) (flat_map-append join_of d.earlier d.last)
    ∙ list_any-append (λ (one : ℕ). one == n) (2 ∷ flat_map join_of d.earlier) (flat_map join_of d.last)
    ∙ or_left (is_among (2 ∷ flat_map join_of d.earlier) n) (is_among (flat_map join_of d.last) n) is

step_keeps : (d : Doing) (e : Entry) (n : ℕ) → is_among (2 ∷ flat_map join_of d.earlier) n ≡ true → is_among (2 ∷ flat_map join_of (doing_step d e).earlier) n ≡ true
step_keeps d (entry.Refused refusal) n is = is
step_keeps d e n is = with_last d n is

one_keeps : (past : List Entry) (e : Entry) (n : ℕ) → is_among (earlier past) n ≡ true → is_among (earlier (past ++ e ∷ [])) n ≡ true
one_keeps past e n is = ap (λ (d : Doing). is_among (2 ∷ flat_map join_of d.earlier) n) (doing_more past e) ∙ step_keeps (doing past) e n is

all_keep : (past told : List Entry) (n : ℕ) → is_among (earlier past) n ≡ true → is_among (joined (past ++ told)) n ≡ true
all_keep past [] n is = ap (λ (l : List Entry). is_among (joined l) n) (append-nil past) ∙ with_last (doing past) n is
all_keep past (e ∷ told) n is = ap (λ (l : List Entry). is_among (joined l) n) (sym (append_assoc past (e ∷ []) told)) ∙ all_keep (past ++ e ∷ []) told n (one_keeps past e n is)

-- so the node of each command that was accepted joined
pub accepted_joined : (past told : List Entry) (command n : ℕ) (more : List ℕ) → EachAfter OwnLaw past told → shown (node_at command) told ≡ n ∷ more → is_among (joined (past ++ told)) n ≡ true
accepted_joined past [] command n more law is = absurd (let bad : [] ≡ n ∷ more = is in cc)
accepted_joined past (entry.Accepted number node ∷ told) command n more law is =
    by (number == command) refl is
    (λ there. ap (λ (l : List Entry). is_among (joined l) n) (sym (append_assoc past (entry.Accepted number node ∷ []) told))
    ∙ accepted_joined (past ++ entry.Accepted number node ∷ []) told command n more law.1 there)
  where
    by : (b : Bool) → (number == command) ≡ b → (if b then node ∷ [] else []) ++ shown (node_at command) told ≡ n ∷ more
        → (shown (node_at command) told ≡ n ∷ more → is_among (joined (past ++ entry.Accepted number node ∷ told)) n ≡ true) → is_among (joined (past ++ entry.Accepted number node ∷ told)) n ≡ true
    by true it there later = let same : node ≡ n = cc in subst (λ (k : ℕ). is_among (joined (past ++ entry.Accepted number node ∷ told)) k ≡ true) same (all_keep past (entry.Accepted number node ∷ told) node law.0)
    by false it there later = later there
accepted_joined past (e ∷ told) command n more law is =
    ap (λ (l : List Entry). is_among (joined l) n) (sym (append_assoc past (e ∷ []) told)) ∙ accepted_joined (past ++ e ∷ []) told command n more law.1 is

-- ---- a node with work has a command

owned_command : (h : HostState) (n : ℕ) → HostFacts h → works (node_of h n) ≡ true → (command : ℕ) × IsCommandOf h.commands n command
owned_command h n facts some = by s.series refl
  where
    s : NodeState
    s = node_of h n

    waits : (t : NodeState) → t.series ≡ Idle → works t ≡ true → has_waiting t ≡ true
    waits t idle some =
        let all : (is_none (open_session t.book) && has_waiting t && is_up t && is_false t.blocked) ≡ true = subst (λ (x : Series). works (record t { series = x }) ≡ true) idle some in
        (and_parts (is_none (open_session t.book)) (has_waiting t)
        (and_parts (is_none (open_session t.book) && has_waiting t) (is_up t) (and_parts (is_none (open_session t.book) && has_waiting t && is_up t) (is_false t.blocked) all).0).0).1

    first : (l : List ℕ) → nat_lt 0 (length l) ≡ true → AllByRecursion (IsCommandOf h.commands n) l → (command : ℕ) × IsCommandOf h.commands n command
    first [] some all = absurd (let bad : false ≡ true = some in cc)
    first (command ∷ rest) some all = (command, all.0)

    opened : (session : ℕ) → open_session s.book ≡ Some session → (command : ℕ) × IsCommandOf h.commands n command
    opened session is = let there = open_command_is s.book session is in (there.0, session_owned h n session there.0 (facts.owns n) there.1)

    by : (x : Series) → s.series ≡ x → (command : ℕ) × IsCommandOf h.commands n command
    by Idle is = first s.waiting (waits s is some) (recursion_from_All (IsCommandOf h.commands n) s.waiting (facts.owns n).waiting)
    by Due is = let one = is_opened s (facts.nodes.facts n) (ap is_idle is) in opened one.0 one.1
    by Running is = let one = is_opened s (facts.nodes.facts n) (ap is_idle is) in opened one.0 one.1

pub owner_joined : (past : List Entry) (h : HostState) → Facts past h → EachAfter OwnLaw [] past → (n : ℕ) → works (node_of h n) ≡ true → is_among (joined past) n ≡ true
owner_joined past h facts law n some =
    let (command, of) = owned_command h n facts.host some in
    accepted_joined [] past command n [] law (facts.accepted.nodes command ∙ ap nodes_by of.found ∙ ap (λ (k : ℕ). k ∷ []) of.node)

-- ---- the law

all_own : (past told : List Entry) → AllByRecursion AcceptsNone told → EachAfter OwnLaw past told
all_own past [] all = tt
all_own past (entry.Accepted command node ∷ told) all = absurd all.0
all_own past (e ∷ told) all = (tt, all_own (past ++ e ∷ []) told all.1)

host_own : (past : List Entry) (h : HostState) (event : HostEvent) (told : List Entry) → AreTold (outs h event) told → EachAfter OwnLaw past told
host_own past h event told are = all_own past told (told_none h event told are)

accepts_own : (line : Line) (past : List Entry) (m : HostMachine) (event : HostEvent) → MayHost m.state event → KnowsTold (Asked line) past m → EachAfter OwnLaw past (answers m.state event)
accepts_own line past m (Accepts order carriage) may told =
    let h = m.state in
    let is_joined : (node_of h order.node).joined ≡ true = (unrefused_is (known_of (node_of h order.node)) 0 order (unrefused_so (known_of (node_of h order.node)) 0 order may.unrefused (omega arith))).joined in
    let known : is_among (joined told.before) order.node ≡ true = sym (told.told.joined order.node) ∙ is_joined in
    (ap (λ (l : List Entry). is_among (earlier l) order.node) told.are ∙ ap (λ (d : Doing). is_among (2 ∷ flat_map join_of d.earlier) order.node) (doing_more told.before (entry.Said told.words)) ∙ known, tt)
accepts_own line past m (Cancels command) may told = (tt, tt)
accepts_own line past m event may told = tt

step_own : (here next : Phase) (past : List Entry) (m : HostMachine) (one : Step) → May here m one next → KnowsTold here past m → EachAfter OwnLaw past (entries m one)
step_own here next past m (Tells e) may told = all_own past (e ∷ []) (others_none e may.1, tt)
step_own here next past m (Comes unit) may told = (tt, tt)
step_own here next past m (Misses text marks) may told = all_own past (entry.Written Chip text ∷ marks) (tt, missed_are AcceptsNone line_none marks may.1)
step_own here next past m (Says words line) may told = (tt, tt)
step_own here next past m (Says_nothing words) may told = (tt, tt)
step_own here next past m (Asks event) (line, here_is, asked, may, numbered, is) told = accepts_own line past m event may.0 (subst (λ (p : Phase). KnowsTold p past m) here_is told)
step_own here next past m (Refuses refusal) may told = (tt, tt)
step_own here next past m (Shows node) may told = (tt, tt)
step_own here next past m (Restarts state) may told = tt
step_own here next past m (Begins_tick left) may told = tt
step_own here next past m Numbers may told = (tt, tt)
step_own here next past m (Judges item rest behind told) may known = host_own past m.state (Hears item) told may.1.told_so
step_own here next past m (Does event told) may known = host_own past m.state event told may.2

pub owners_walk : WalkOver KnowsTold (λ past e. Unit {0}) OwnLaw (λ here past m. Unit {0})
owners_walk = record {
  step = λ here next past m one may ground stand known. (step_own here next past m one may ground, tt);
  turn = λ here next past m turns ground known. tt;
}
