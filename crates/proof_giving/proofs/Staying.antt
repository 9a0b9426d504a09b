-- An event of a host at which no request is submitted, none ends and no session begins leaves each node tied to its attempts, as its entries tell of them.
use Rattle.std.proofs.Common.{◌≡◌, ◌⊎◌, ℕ, ◌+◌, ◌≤◌, ◌<◌, ◌==◌, ◌||◌, Bool, true, false, if◌then◌else◌, inl, inr, List, [], ◌∷◌, ◌++◌, length, Option, refl, sym, ap, ◌∙◌, subst, arith}
use Rattle.std.specs.Prelude.{is_none, is_some}
use Rattle.std.specs.List.{AllByRecursion, list_any}
use Rattle.std.proofs.lemmas.Bool.{eqb-true, or_right}
use Rattle.zw_words.specs.declared.side.Side.TheVariants.{Host}
use Rattle.zw_text.specs.declared.entry.Entry.{Entry}
use Rattle.zw_text.specs.declared.entry.Entry.TheVariants as entry
use Rattle.zw_text.specs.Transcript.{folded}
use Rattle.host_heard.specs.declared.told.Told.{Told}
use Rattle.law_transcript.specs.Units.{Carried}
use Rattle.law_time.specs.Attempts.{Attempts, anew}
use Rattle.law_time.specs.Heeds.{Heeds}
use Rattle.law_time.specs.Requests.{Asked, asked}
use Rattle.law_time.specs.Sessions.{is_last_command}
use Rattle.host_requests.specs.declared.under_way.UnderWay.{UnderWay}
use Rattle.host_node.specs.declared.series.Series.{Series}
use Rattle.host_node.specs.declared.series.Series.TheVariants.{Running}
use Rattle.host_node.specs.State.{NodeState}
use Rattle.host_node.specs.Steps.{after_nonce}
use Rattle.host_model.specs.State.{HostState, node_of}
use Rattle.host_model.specs.After.{after}
use Rattle.host_model.specs.Events.{HostEvent, Accepts, Begins, Hears, Interview_unkept, Interviews, Queues, Requests_do, Line_ticks, Node_ticks, Starts, Submits_abort, Submits_front, Gives_text, Gives_segment, Takes_nonce, Works}
use Rattle.host_model.specs.Facts.{HostFacts}
use Rattle.host_model.specs.May.{May}
use Rattle.host_model.specs.Outs.{outs}
use Rattle.proof_host.specs.Entries.{notes_of}
use Rattle.proof_queue.specs.proof_attempts.Attempts.{begun_of}
use Rattle.proof_queue.specs.proof_attempts.proof_requests.Asking.{Doing}
use Rattle.proof_queue.specs.proof_attempts.proof_requests.law_host.Heard.{heeds_alone}
use Rattle.proof_queue.specs.proof_attempts.proof_requests.proof_alone.Steps.{AreTold}
use Rattle.proof_queue.proofs.Doings.{node_after}
use Rattle.proof_queue.proofs.HostOuts.{OwnIs, SharedAre, outs_are}
use Rattle.proof_queue.proofs.Telling.{told_so}
use Rattle.proof_queue.proofs.proof_requests_Doing.{beside_same}
use Rattle.proof_queue.proofs.proof_requests_Telling.{IsQuiet, quiet_on}
use Rattle.proof_queue.proofs.proof_alone_Apart.{AreOfLine}
use Rattle.proof_giving.specs.Told.{GoesAlong, attempts_so_far}
use Rattle.proof_giving.specs.Stays.{NoSession, NoneBegun, SamePurpose, ShowsSessions, Stays}
use Rattle.proof_giving.specs.Tie.{AttemptsAs, NodeSo, anew_step, has_text, is_last_of, signed}
use Rattle.proof_giving.specs.Walking.{IsMild}
use Rattle.proof_giving.proofs.Along.{goes_as, signed_series}
use Rattle.proof_giving.proofs.Fewer.{fewer_kept, same_fewer}
use Rattle.proof_giving.proofs.Finished.{own_before}
use Rattle.proof_giving.proofs.Mild.{IsNoSign, mild_goes, works_go}
use Rattle.proof_giving.proofs.Orders.{event_keeps}
use Rattle.proof_giving.proofs.Over.{along_goes, notes_tell}
use Rattle.proof_giving.proofs.Stays.{stays_quiet}

-- ---- what is told of it

abbrev NoBegin : Entry → Type 0
NoBegin (entry.Begin node session command) = ⊥
NoBegin e = Unit {0}

no_begin_line : AreOfLine NoBegin
no_begin_line = record { written = λ side text. tt; dropped = λ side. tt; garbled = λ side text. tt; overrun = λ side. tt }

no_begin_shared : SharedAre NoBegin
no_begin_shared = record {
  unanswered = λ command. tt;
  asleep = λ n. tt;
  done = λ n how. tt;
  uninterviewed = λ n. tt;
  neighbours = λ n nodes. tt;
  failed = λ n is_failed. tt;
  stored = λ n setting. tt;
  held = λ n. tt;
  full = λ n. tt;
}

own_no_begin : (event : HostEvent) → NoSession event → OwnIs NoBegin event
own_no_begin (Begins n session command) none = absurd none
own_no_begin (Accepts order carriage) none = λ number. tt
own_no_begin event none = tt

quiet_along : (e : Entry) → IsQuiet e → NoBegin e → GoesAlong e
quiet_along (entry.Said words) quiet none = absurd quiet
quiet_along (entry.Refused refusal) quiet none = absurd quiet
quiet_along (entry.Written Host unit) quiet none = quiet
quiet_along (entry.Begin node session command) quiet none = absurd none
quiet_along e quiet none = tt

all_along : (told : List Entry) → AllByRecursion IsQuiet told → AllByRecursion NoBegin told → AllByRecursion GoesAlong told
all_along [] quiet none = tt
all_along (e ∷ told) quiet none = (quiet_along e quiet.0 none.0, all_along told quiet.1 none.1)

pub event_along : (h : HostState) (event : HostEvent) (told : List Entry) → NoSession event → AllByRecursion IsQuiet told → AreTold (outs h event) told → AllByRecursion GoesAlong told
event_along h event told none quiet are =
    all_along told quiet (told_so NoBegin no_begin_line (outs h event) told (outs_are NoBegin no_begin_shared h event (own_no_begin event none)) are)

-- attempts that began anew have begun none
anew_or : (last : ℕ → Bool) (a : Attempts) (entries : List Entry) → (folded (anew_step last) a entries ≡ a) ⊎ ((folded (anew_step last) a entries).begun ≡ 0)
anew_or last a [] = inl refl
anew_or last a (e ∷ more) = by (anew_or last (anew_step last a e) more) (one e)
  where
    one : (e : Entry) → (anew_step last a e ≡ a) ⊎ ((anew_step last a e).begun ≡ 0)
    one (entry.Out command how) = either (last command)
      where
        either : (b : Bool) → ((if b then anew a else a) ≡ a) ⊎ ((if b then anew a else a).begun ≡ 0)
        either true = inr refl
        either false = inl refl
    one e = inl refl

    by : (folded (anew_step last) (anew_step last a e) more ≡ anew_step last a e) ⊎ ((folded (anew_step last) (anew_step last a e) more).begun ≡ 0)
        → (anew_step last a e ≡ a) ⊎ ((anew_step last a e).begun ≡ 0)
        → (folded (anew_step last) (anew_step last a e) more ≡ a) ⊎ ((folded (anew_step last) (anew_step last a e) more).begun ≡ 0)
    by (inr none) first = inr none
    by (inl same) (inl first) = inl (same ∙ first)
    by (inl same) (inr none) = inr (ap (λ (x : Attempts). x.begun) same ∙ none)

-- so those of a node that runs one are as they were
runs_same : (last : ℕ → Bool) (a : Attempts) (entries : List Entry) (s : NodeState) (time : ℕ) (badly : Bool) → s.series ≡ Running → NodeSo (folded (anew_step last) a entries) s time badly
    → folded (anew_step last) a entries ≡ a
runs_same last a entries s time badly runs so = by (anew_or last a entries)
  where
    some : (folded (anew_step last) a entries).begun ≡ s.book.attempts + 1
    some = so.are.begun ∙ ap (λ (x : Series). begun_of x s.book.attempts) runs

    by : (folded (anew_step last) a entries ≡ a) ⊎ ((folded (anew_step last) a entries).begun ≡ 0) → folded (anew_step last) a entries ≡ a
    by (inl same) = same
    by (inr none) = absurd (omega (arith, some, none))

-- ---- an event

module _ (taken : List Entry → Carried → List Told) (n : ℕ) (to : n ≤ 232) (past told : List Entry) (h : HostState) (event : HostEvent) (are : AreTold (outs h event) told) (quiet : AllByRecursion IsQuiet told)
    (calm : NoSession event) (facts : HostFacts h) (others : HostFacts (after h event)) (shows : ShowsSessions (heeds_alone taken) past h n)
    (showing : ShowsSessions (heeds_alone taken) (past ++ told) (after h event) n) where
  abbrev heeds : Heeds
  heeds = heeds_alone taken

  abbrev s : NodeState
  s = node_of h n

  abbrev g : HostState
  g = after h event

  abbrev so_far : List Entry → Attempts
  so_far past = attempts_so_far heeds n past

  abbrev told_of_it : Attempts
  told_of_it = folded (anew_step (is_last_of s)) (so_far past) (notes_of (outs h event))

  pub within : n < length h.nodes
  within = let all = facts.nodes.places in omega (arith, all, to)

  pub same_last : (command : ℕ) → is_last_command n past command ≡ is_last_of s command
  same_last command = ap (λ (l : List ℕ). list_any (λ one. one == command) l) shows.last

  pub told_is : so_far (past ++ told) ≡ told_of_it
  told_is =
      along_goes taken n past told (is_last_of s) (event_along h event told calm quiet are) same_last ∙ notes_tell (is_last_of s) (outs h event) told are (so_far past)

  pub same_frame : (asked (past ++ told)).frame ≡ (asked past).frame
  same_frame = ap (λ (a : Asked). a.frame) (quiet_on past told quiet)

  pub stays_so : (b : Bool) (time now : ℕ) → AttemptsAs b heeds n past h time now → SamePurpose h.requests g.requests → NoneBegun s (node_of g n) → Stays heeds n past (past ++ told) h g now
  stays_so b time now so under fewer = record {
    under = under;
    frame = λ own. same_frame;
    ended = λ own none inner. stays_quiet inner past now told (so.sends own).0 quiet;
    shows = shows;
    showing = showing;
    facts = facts;
    others = others;
    keeps = event_keeps h event n within calm;
    fewer = fewer;
  }

  pub leaves_so : (b c : Bool) (time next now : ℕ) → AttemptsAs b heeds n past h time now → SamePurpose h.requests g.requests → NoneBegun s (node_of g n)
      → ((badly : Bool) → NodeSo (so_far past) (signed b s) time badly → NodeSo told_of_it (signed c (node_of g n)) next badly) → AttemptsAs c heeds n (past ++ told) g next now
  leaves_so b c time next now so under fewer does =
      goes_as taken n past (past ++ told) h g now (stays_so b time now so under fewer) b c time next told_of_it told_is (own_before (is_last_of s) (so_far past) (notes_of (outs h event)))
      (λ runs.
      ap (λ (a : Attempts). a.own)
      (runs_same (is_last_of s) (so_far past) (notes_of (outs h event)) (signed c (node_of g n)) next _ (signed_series c (node_of g n) ∙ runs) (does _ so.node))) so does

-- ---- requests that stay

pub same_purpose : (h g : HostState) → g.requests.under_way ≡ h.requests.under_way → SamePurpose h.requests g.requests
same_purpose h g same = record { none = ap (λ (o : Option UnderWay). is_none o) same; same = λ u is. (u, sym same ∙ is, refl) }

-- none that ends an interview
abbrev pub IsCalm : HostEvent → Type 0
IsCalm (Interviews n listens classes update) = ⊥
IsCalm (Interview_unkept n update) = ⊥
IsCalm event = IsMild event

pub calm_mild : (event : HostEvent) → IsCalm event → IsMild event
calm_mild (Interviews n listens classes update) calm = absurd calm
calm_mild (Interview_unkept n update) calm = absurd calm
calm_mild event calm = calm

pub calm_purpose : (h : HostState) (event : HostEvent) → IsCalm event → SamePurpose h.requests (after h event).requests
calm_purpose h (Interviews n listens classes update) calm = absurd calm
calm_purpose h (Interview_unkept n update) calm = absurd calm
calm_purpose h (Requests_do event moment) calm = absurd calm
calm_purpose h Line_ticks calm = absurd calm
calm_purpose h (Node_ticks n) calm = absurd calm
calm_purpose h Submits_abort calm = absurd calm
calm_purpose h Submits_front calm = absurd calm
calm_purpose h (Starts n plan more payload) calm = absurd calm
calm_purpose h (Gives_text n payload) calm = absurd calm
calm_purpose h (Gives_segment n more payload) calm = absurd calm
calm_purpose h (Begins n session command) calm = absurd calm
calm_purpose h (Hears item) calm = same_purpose h (after h (Hears item)) refl
calm_purpose h (Queues task) calm = same_purpose h (after h (Queues task)) refl
calm_purpose h event calm = same_purpose h (after h event) (ap (λ (d : Doing). d.under_way) (beside_same h event tt))

pub mild_session : (event : HostEvent) → IsMild event → NoSession event
mild_session (Begins n session command) mild = absurd mild
mild_session event mild = tt

-- ---- an event between requests

pub mild_fewer : (h : HostState) (event : HostEvent) (n : ℕ) → n < length h.nodes → May h event → IsMild event → NoneBegun (node_of h n) (node_of (after h event) n)
mild_fewer h (Takes_nonce k seen text) n inside (nonce, own_nonce, counts, seals, eight) mild =
    subst (λ (t : NodeState). NoneBegun (node_of h n) t) (sym (node_after h (Takes_nonce k seen text) n inside)) (by (k == n) refl)
  where
    has : (k == n) ≡ true → has_text (node_of h n) ≡ true
    has is =
        subst (λ (m : ℕ). has_text (node_of h m) ≡ true) (eqb-true k n is)
        (or_right (is_some (node_of h k).text) (is_some (node_of h k).pending) (ap (λ (o : Option (List ℕ)). is_some o) seals.is_pending))

    by : (b : Bool) → (k == n) ≡ b → NoneBegun (node_of h n) (if b then after_nonce (node_of h n) seen text else node_of h n)
    by true is = record { runs = λ runs. runs; seals = λ some. has is }
    by false is = same_fewer (node_of h n)
mild_fewer h (Begins k session command) n inside may mild = absurd mild
mild_fewer h (Starts k plan more payload) n inside may mild = absurd mild
mild_fewer h event n inside may mild = fewer_kept h event n inside tt

module _ (taken : List Entry → Carried → List Told) (n : ℕ) (to : n ≤ 232) (past told : List Entry) (h : HostState) (event : HostEvent) (are : AreTold (outs h event) told) (quiet : AllByRecursion IsQuiet told)
    (may : May h event) (calm : IsCalm event) (facts : HostFacts h) (others : HostFacts (after h event)) (shows : ShowsSessions (heeds_alone taken) past h n)
    (showing : ShowsSessions (heeds_alone taken) (past ++ told) (after h event) n) where
  abbrev Ties : Bool → List Entry → HostState → ℕ → ℕ → Type 0
  Ties b past h time now = AttemptsAs b (heeds_alone taken) n past h time now

  by_node : (b c : Bool) (time now : ℕ) → Ties b past h time now
      → ((badly : Bool) → NodeSo (attempts_so_far (heeds_alone taken) n past) (signed b (node_of h n)) time badly
      → NodeSo (folded (anew_step (is_last_of (node_of h n))) (attempts_so_far (heeds_alone taken) n past) (notes_of (outs h event))) (signed c (node_of (after h event) n)) time badly)
      → Ties c (past ++ told) (after h event) time now
  by_node b c time now so does =
      leaves_so taken n to past told h event are quiet (mild_session event (calm_mild event calm)) facts others shows showing b c time time now so (calm_purpose h event calm)
      (mild_fewer h event n (let all = facts.nodes.places in omega (arith, all, to)) may (calm_mild event calm)) does

  -- of one that gives no sign
  pub calm_goes : (b : Bool) (time now : ℕ) → IsNoSign event → Ties b past h time now → Ties b (past ++ told) (after h event) time now
  calm_goes b time now none so =
      by_node b b time now so
      (λ badly tie.
      subst (λ (t : NodeState). NodeSo (folded (anew_step (is_last_of (node_of h n))) (attempts_so_far (heeds_alone taken) n past) (notes_of (outs h event))) (signed b t) time badly)
      (sym (node_after h event n (let all = facts.nodes.places in omega (arith, all, to))))
      (mild_goes h n facts (attempts_so_far (heeds_alone taken) n past) time badly b event may none tie))

-- of one that does: a node is at work
pub works_goes : (taken : List Entry → Carried → List Told) (n : ℕ) → n ≤ 232 → (past told : List Entry) (h : HostState) (k id : ℕ) → AreTold (outs h (Works k id)) told → May h (Works k id) → HostFacts h
    → HostFacts (after h (Works k id)) → ShowsSessions (heeds_alone taken) past h n → ShowsSessions (heeds_alone taken) (past ++ told) (after h (Works k id)) n → (b : Bool) (time now : ℕ)
    → AttemptsAs ((k == n) || b) (heeds_alone taken) n past h time now → AttemptsAs b (heeds_alone taken) n (past ++ told) (after h (Works k id)) time now
works_goes taken n to past told h k id are may facts others shows showing b time now so =
    by_node taken n to past told h (Works k id) are (subst (AllByRecursion IsQuiet) (sym are) tt) may tt facts others shows showing ((k == n) || b) b time now so
    (λ badly tie.
    subst (λ (t : NodeState). NodeSo (attempts_so_far (heeds_alone taken) n past) (signed b t) time badly) (sym (node_after h (Works k id) n (let all = facts.nodes.places in omega (arith, all, to))))
    (works_go h n k id (attempts_so_far (heeds_alone taken) n past) time badly b may tie))
