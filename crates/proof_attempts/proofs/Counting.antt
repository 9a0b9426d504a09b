-- A node counts as awake by the entries since the host started as it does in the host.
use Rattle.std.proofs.Common.{◌≡◌, ℕ, ◌-◌, ◌<◌, ◌≤◌, ◌==◌, ◌&&◌, Bool, true, false, if◌then◌else◌, length, List, [], ◌∷◌, ◌++◌, map, Option, Some, None, refl, sym, ap, ◌∙◌, subst, arith, zero, suc}
use Rattle.std.specs.Prelude.{IsSome}
use Rattle.std.specs.List.{AllByRecursion}
use Rattle.zw_base.proofs.Each.{all-weaker}
use Rattle.zw_text.specs.declared.line.Line.{Line}
use Rattle.zw_text.specs.declared.entry.Refusal.{Refusal}
use Rattle.zw_text.specs.declared.entry.Ended.TheVariants as ended
use Rattle.zw_text.specs.declared.entry.Entry.{Entry}
use Rattle.zw_text.specs.declared.entry.Entry.TheVariants as entry
use Rattle.zw_text.specs.Transcript.{folded, line_of, waking_at, wakings}
use Rattle.zw_text.proofs.Views.{folded-append, shown-append}
use Rattle.s0_crypto.specs.declared.key_pair.Keys.{Keys}
use Rattle.proof_work.specs.law_transcript.Lists.{last_or}
use Rattle.proof_work.specs.law_transcript.Restarts.{is_restart, since_restart}
use Rattle.proof_work.specs.law_time.Waking.{counts_awake}
use Rattle.host_node.specs.State.{NodeState, is_idle, is_open, is_up, unknown}
use Rattle.host_node.specs.Steps.{after_restart, as_recorded, new_series}
use Rattle.host_node.specs.TableState.{node_of as node_among, unknown_from, unknown_nodes}
use Rattle.proof_requests.specs.host_model.State.{HostState, first_host, first_nodes, node_of}
use Rattle.proof_requests.specs.host_model.Events.{HostEvent, Accepts, Cancels, Hears, Node_ticks}
use Rattle.proof_requests.specs.host_model.After.{after}
use Rattle.proof_requests.specs.host_model.Opening.{restarting}
use Rattle.proof_requests.specs.host_model.Outs.{answers, outs}
use Rattle.proof_requests.specs.host_model.declared.out.HostOut.{HostOut}
use Rattle.proof_requests.specs.host_model.declared.out.HostOut.TheVariants.{Note, Write}
use Rattle.proof_work.specs.world_model.Events.{OpensFrom}
use Rattle.proof_work.specs.proof_host.Entries.{notes_of}
use Rattle.proof_requests.specs.proof_alone.Steps.{AreTold, IsAskedBy}
use Rattle.proof_requests.specs.proof_alone.Tables.{KnowsTables}
use Rattle.proof_requests.proofs.proof_alone_Apart.{AreOfLine, marks_are}
use Rattle.proof_requests.proofs.InOrder.{asked_puts, is_asked}
pub use Rattle.proof_requests.proofs.proof_waking_Parts.{told_wordless}
use Rattle.proof_requests.proofs.proof_waking_Apart.{IsWordless, said_anew, said_in_vain, said_on, wordless_more}
use Rattle.proof_attempts.specs.Since.{IsLoose, Lasts}
use Rattle.proof_attempts.specs.Waking.{CountsAwake, TieAwake, Waking, releases_of, waking_before, waking_in, waking_step}
use Rattle.proof_attempts.proofs.Nodes.{IsQuiet, quiet_all}
use Rattle.proof_attempts.proofs.Releasing.{event_goes}

-- ---- what is told of a node

step_awake : (n : ℕ) (releases : ℕ → Bool) (w : Waking) (e : Entry) → (waking_step n releases w e).awake ≡ last_or w.awake (waking_at n e)
step_awake n releases w (entry.Awake node) = by (node == n)
  where
    by : (b : Bool) → (if b then record { awake = true; hold = w.hold } else w).awake ≡ last_or w.awake (if b then true ∷ [] else [])
    by true = refl
    by false = refl
step_awake n releases w (entry.Asleep node) = by (node == n)
  where
    by : (b : Bool) → (if b then record { awake = false; hold = 0 } else w).awake ≡ last_or w.awake (if b then false ∷ [] else [])
    by true = refl
    by false = refl
step_awake n releases w (entry.Held node) = by (node == n)
  where
    by : (b : Bool) → (if b then record { awake = w.awake; hold = 100 } else w).awake ≡ w.awake
    by true = refl
    by false = refl
step_awake n releases w (entry.Out command ended.Unanswered) = by (releases command)
  where
    by : (b : Bool) → (if b then record { awake = w.awake; hold = 0 } else w).awake ≡ w.awake
    by true = refl
    by false = refl
step_awake n releases w e = refl

last_joined : {A : Type 0} (before : A) (some more : List A) → last_or before (some ++ more) ≡ last_or (last_or before some) more
last_joined before [] more = refl
last_joined before (item ∷ some) more = last_joined item some more

told_awake : (n : ℕ) (releases : ℕ → Bool) (w : Waking) (told : List Entry) → (folded (waking_step n releases) w told).awake ≡ last_or w.awake (wakings n told)
told_awake n releases w [] = refl
told_awake n releases w (e ∷ told) =
    told_awake n releases (waking_step n releases w e) told ∙ ap (λ (b : Bool). last_or b (wakings n told)) (step_awake n releases w e) ∙ sym (last_joined w.awake (waking_at n e) (wakings n told))

pub line_quiet : AreOfLine IsQuiet
line_quiet = record { written = λ side text. tt; dropped = λ side. tt; garbled = λ side text. tt; overrun = λ side. tt }

-- of what is put out the notes tell it
pub told_notes : (n : ℕ) (releases : ℕ → Bool) (puts : List HostOut) (told : List Entry) → AreTold puts told → (w : Waking)
    → folded (waking_step n releases) w told ≡ folded (waking_step n releases) w (notes_of puts)
told_notes n releases [] told is w = ap (λ (l : List Entry). folded (waking_step n releases) w l) is
told_notes n releases (Note e ∷ puts) told (rest, is, more) w =
    ap (λ (l : List Entry). folded (waking_step n releases) w l) is ∙ told_notes n releases puts rest more (waking_step n releases w e)
told_notes n releases (Write unit ∷ puts) told (marks, rest, is, all, more) w =
    ap (λ (l : List Entry). folded (waking_step n releases) w l) is ∙ folded-append (waking_step n releases) w marks rest
    ∙ ap (λ (v : Waking). folded (waking_step n releases) v rest) (quiet_all n releases w marks (marks_are IsQuiet line_quiet marks all)) ∙ told_notes n releases puts rest more w

-- ---- entries

pub loose_quiet : (e : Entry) → IsLoose e → IsQuiet e
loose_quiet (entry.Awake node) loose = absurd loose
loose_quiet (entry.Held node) loose = absurd loose
loose_quiet (entry.Asleep node) loose = absurd loose
loose_quiet (entry.Out command ended.Unanswered) loose = absurd loose
loose_quiet e loose = tt

pub loose_wordless : (e : Entry) → IsLoose e → IsWordless e
loose_wordless (entry.Said words) loose = absurd loose
loose_wordless (entry.Refused refusal) loose = absurd loose
loose_wordless e loose = tt

-- what answers a line
pub answers_wordless : (h : HostState) (event : HostEvent) → AllByRecursion IsWordless (answers h event)
answers_wordless h (Accepts order carriage) = (tt, tt)
answers_wordless h (Cancels command) = (tt, tt)
answers_wordless h event = tt

pub answers_quiet : (h : HostState) (event : HostEvent) → AllByRecursion IsQuiet (answers h event)
answers_quiet h (Accepts order carriage) = (tt, tt)
answers_quiet h (Cancels command) = (tt, tt)
answers_quiet h event = tt

-- ---- since the host started

pub awake_since : (n : ℕ) (past told start : List Entry) → since_restart (past ++ told) ≡ start ++ told → since_restart past ≡ start → counts_awake n (past ++ told) ≡ last_or (counts_awake n past) (wakings n told)
awake_since n past told start is was =
    ap (λ (l : List Entry). last_or false (wakings n l)) is ∙ ap (λ (l : List Bool). last_or false l) (shown-append (waking_at n) start told)
    ∙ last_joined false (wakings n start) (wakings n told) ∙ ap (λ (l : List Entry). last_or (last_or false (wakings n l)) (wakings n told)) (sym was)

more_awake : (past told : List Entry) (h later : HostState) → AllByRecursion IsWordless told
    → ((n : ℕ) → 1 ≤ n → n ≤ 232 → (node_of later n).awake ≡ last_or (node_of h n).awake (wakings n told)) → TieAwake past h → TieAwake (past ++ told) later
more_awake past told h later all grows tie n from to =
    grows n from to ∙ ap (λ (b : Bool). last_or b (wakings n told)) (tie n from to) ∙ sym (awake_since n past told (since_restart past) (wordless_more past told all) refl)

quiet_awake : (n : ℕ) (told : List Entry) (b : Bool) → AllByRecursion IsQuiet told → b ≡ last_or b (wakings n told)
quiet_awake n told b all =
    let w : Waking = record { awake = b; hold = 0 } in
    let none : ℕ → Bool = λ command. false in
    sym (ap (λ (v : Waking). v.awake) (quiet_all n none w told all)) ∙ told_awake n none w told

-- ---- events

before_awake : (event : HostEvent) (n : ℕ) (w : Waking) → (waking_before event n w).awake ≡ w.awake
before_awake (Node_ticks node) n w = by (node == n)
  where
    by : (b : Bool) → (if b then record { awake = w.awake; hold = w.hold - 1 } else w).awake ≡ w.awake
    by true = refl
    by false = refl
before_awake event n w = refl

pub event_awake : (h : HostState) (event : HostEvent) (told : List Entry) → AreTold (outs h event) told → length h.nodes ≡ 233 → (n : ℕ) → 1 ≤ n → n ≤ 232
    → (node_of (after h event) n).awake ≡ last_or (node_of h n).awake (wakings n told)
event_awake h event told are places n from to =
    let within : n < length h.nodes = omega (arith, places, to) in
    let w = waking_before event n (waking_in h.nodes n) in
    let releases : ℕ → Bool = releases_of (node_of h n) in
    (event_goes n h event within).awake ∙ ap (λ (v : Waking). v.awake) (sym (told_notes n releases (outs h event) told are w)) ∙ told_awake n releases w told
    ∙ ap (λ (b : Bool). last_or b (wakings n told)) (before_awake event n (waking_in h.nodes n))

asked_awake : (line : Line) (h : HostState) (event : HostEvent) → IsAskedBy line h event → length h.nodes ≡ 233 → (n : ℕ) → 1 ≤ n → n ≤ 232
    → (node_of (after h event) n).awake ≡ last_or (node_of h n).awake (wakings n (answers h event))
asked_awake line h event is places n from to =
    event_awake h event [] (subst (λ (puts : List HostOut). AreTold puts []) (sym (asked_puts h event (is_asked line h event is))) refl) places n from to
    ∙ quiet_awake n (answers h event) (node_of h n).awake (answers_quiet h event)

-- ---- a host that starts

either : (P : NodeState → Type 0) (b : Bool) (one other : NodeState) → P one → P other → P (if b then one else other)
either P true one other p q = p
either P false one other p q = q

-- what is so of each node that starts, and of one of which nothing is known
module _ (P : NodeState → Type 0) (starts : (n : NodeState) → P (after_restart n)) (blank : P (unknown 0)) where
  mapped : (nodes : List NodeState) (m : ℕ) → P (node_among (map after_restart nodes) m)
  mapped [] m = blank
  mapped (one ∷ more) zero = starts one
  mapped (one ∷ more) (suc m) = mapped more m

  all_start : (nodes : List NodeState) (m : ℕ) → 1 ≤ m → P (node_among (restarting nodes) m)
  unfolding restarting
  all_start [] m from = blank
  all_start (one ∷ more) zero from = absurd (omega (arith, from))
  all_start (one ∷ more) (suc m) from = mapped more m

pub each_restarts : (P : NodeState → Type 0) → ((n : NodeState) → P (after_restart n)) → P (unknown 0) → (keys : Keys) (records : Option (List (List ℕ))) (state : HostState) → IsSome records
    → OpensFrom keys records state → (m : ℕ) → 1 ≤ m → P (node_of state m)
each_restarts P starts blank keys None state told opens m from = let bad : false ≡ true = told in absurd cc
each_restarts P starts blank keys (Some texts) state told (records, are, legal, is) m from = subst (λ (h : HostState). P (node_of h m)) (sym is) (all_start P starts blank _ m from)

pub each_starts : (P : NodeState → Type 0) → ((n : NodeState) → P (new_series (as_recorded n))) → ((n : NodeState) → P (as_recorded n)) → P (unknown 0)
    → (keys : Keys) (records : Option (List (List ℕ))) (state : HostState) → IsSome records → OpensFrom keys records state → (m : ℕ) → 1 ≤ m → P (node_of state m)
each_starts P anew idle blank keys records state told opens m from =
    each_restarts P (λ n. either P (is_open (as_recorded n) && is_up (as_recorded n) && is_idle (as_recorded n).series) (new_series (as_recorded n)) (as_recorded n) (anew n) (idle n)) blank
    keys records state told opens m from

starts_awake : (before : List Entry) (words : List ℕ) (keys : Keys) (records : Option (List (List ℕ))) (state : HostState) → IsSome records → OpensFrom keys records state
    → is_restart (line_of (entry.Said words)) ≡ true → TieAwake (before ++ entry.Said words ∷ []) state
starts_awake before words keys records state told opens anew n from to =
    each_starts (λ s. s.awake ≡ false) (λ s. refl) (λ s. refl) refl keys records state told opens n from
    ∙ sym (ap (λ (l : List Entry). last_or false (wakings n l)) (said_anew before words anew))

-- ---- the tie lasts

said_awake : (past : List Entry) (words : List ℕ) (h : HostState) → is_restart (line_of (entry.Said words)) ≡ false → TieAwake past h → TieAwake (past ++ entry.Said words ∷ []) h
said_awake past words h goes_on tie n from to = tie n from to ∙ sym (awake_since n past (entry.Said words ∷ []) (since_restart past) (said_on past words goes_on) refl)

refused_awake : (past : List Entry) (words : List ℕ) (refusal : Refusal) (h : HostState) → TieAwake past h → TieAwake (past ++ entry.Said words ∷ (entry.Refused refusal ∷ [])) h
refused_awake past words refusal h tie n from to =
    tie n from to ∙ sym (awake_since n past (entry.Said words ∷ (entry.Refused refusal ∷ [])) (since_restart past) (said_in_vain past words refusal) refl)

pub awake_lasts : Lasts KnowsTables CountsAwake
awake_lasts = record {
  loose = λ here at past told m all numbered ground tie.
      more_awake past told m.state m.state (all-weaker IsLoose IsWordless loose_wordless told all) (λ n from to. quiet_awake n told (node_of m.state n).awake (all-weaker IsLoose IsQuiet loose_quiet told all)) tie;
  numbers = λ here past m other ground later tie. more_awake past (entry.Time m.clock ∷ []) m.state m.state (tt, tt) (λ n from to. quiet_awake n (entry.Time m.clock ∷ []) (node_of m.state n).awake (tt, tt)) tie;
  said = λ past words m none ground goes_on tie. said_awake past words m.state goes_on tie;
  refused = λ past words line refusal m none ground later tie. refused_awake past words refusal m.state tie;
  asked = λ line past m event is may numbered ground later tie.
      more_awake past (answers m.state event) m.state (after m.state event) (answers_wordless m.state event) (asked_awake line m.state event is ground.0.facts.host.nodes.places) tie;
  starts = λ before words m state opens anew ground later. starts_awake before words m.keys m.records state ground.0.told opens anew;
  opens = λ past h clock tie. tie;
  rises = λ past m ground tie. tie;
  judges = λ past m item rest behind told now ground later tie.
      more_awake past told m.state (after m.state (Hears item)) (told_wordless m.state (Hears item) told now.told_so) (event_awake m.state (Hears item) told now.told_so ground.0.facts.host.nodes.places) tie;
  does = λ here next past m event told may ground later tie.
      more_awake past told m.state (after m.state event) (told_wordless m.state event told may.2) (event_awake m.state event told may.2 ground.0.facts.host.nodes.places) tie;
  turn = λ here next past m other turns ground tie. tie;
}

-- at first none counts as awake, or is held
blank_from : (number count m : ℕ) → waking_in (unknown_from number count) m ≡ record { awake = false; hold = 0 }
blank_from number zero m = refl
blank_from number (suc count) zero = refl
blank_from number (suc count) (suc m) = blank_from (suc number) count m

pub first_waking : (m : ℕ) → waking_in first_nodes m ≡ record { awake = false; hold = 0 }
unfolding first_nodes unknown_nodes
first_waking zero = refl
first_waking (suc zero) = refl
first_waking (suc (suc zero)) = refl
first_waking (suc (suc (suc m))) = blank_from 3 230 m

pub first_awake : (keys : Keys) → TieAwake [] (first_host keys)
first_awake keys n from to = ap (λ (w : Waking). w.awake) (first_waking n)
