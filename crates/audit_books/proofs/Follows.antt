-- Tables go with the transcript.
use Rattle.std.proofs.Common.{◌≡◌, ℕ, ◌<◌, ◌+◌, cond, eqb, not, Bool, true, false, List, [], ◌∷◌, ◌++◌, length, Option, Some, None, arith, ap, ap₂, refl, sym, subst, ◌∙◌, append-nil, ⊎_elim, length-append, Result, Ok, Err}
use Rattle.std.specs.Prelude.{◌&&◌, is_some, nat_lt}
use Rattle.std.proofs.Math.ListN.{set}
use Rattle.std.proofs.lemmas.List.{get_or-set_same, get_or-set_other, length-set}
use Rattle.std.proofs.lemmas.Bool.{false≢true, cases_eq, eq-eqb, ne_eqb, eqb-true}
use Rattle.zw_base.specs.declared.order.Order.{Order}
use Rattle.zw_words.specs.declared.fault.LineFault.{LineFault}
use Rattle.zw_text.specs.declared.line.Line.{Line}
use Rattle.zw_text.specs.declared.entry.Ended.{Ended}
use Rattle.zw_text.specs.declared.entry.Entry.{Entry}
use Rattle.zw_text.specs.declared.entry.Entry.TheVariants.{Said, Accepted, Begin, Out}
use Rattle.zw_text.specs.Fits.{EntryFits}
use Rattle.zw_text.specs.Line.{line_at}
use Rattle.zw_text.specs.Transcript.{Accepting, accepting, not_accepting, accepted, accepted_at, accepted_number, accepted_numbers, endings, ended_at, line_after, line_last, line_of, read_as, session_at, folded}
use Rattle.audit_books.specs.declared.endings.Ending.{Ending}
use Rattle.audit_books.specs.Scenes.{Scenery, line_read, scene_after}
use Rattle.audit_books.specs.Accepting.{is_to, order_at, order_to, orders_after, to_node}
use Rattle.audit_books.specs.Ending.{ended_so, ending_after, ending_in, no_ending}
use Rattle.audit_books.specs.Beginning.{command_at, follows, no_sessions, sessions_after, sessions_of}
use Rattle.audit_books.specs.SessionRule.{breaks_sessions, may_follow, order_among}
use Rattle.audit_books.specs.Keeping.{AreOf, BeginSo, GoOn, JudgesSessions, ending_from, lines_of}
use Rattle.audit_books.proofs.Views.{shown-more, folded-more, ending-more, final-is, length-same, same-at}
use Rattle.audit_books.proofs.Accepts.{accepts-more}

-- ---- judging

is-some-to : (n : ℕ) (o : Option Order) → is_some (to_node n o) ≡ is_to n o
is-some-to n None = refl
is-some-to n (Some o) = by (eqb o.node n)
  where
    by : (b : Bool) → is_some (cond b (Some o) None) ≡ b
    by true = refl
    by false = refl

follows-as : (kept : List (ℕ × Ending)) (past : List Entry) → ((command : ℕ) → ending_in kept command ≡ ending_from no_ending (endings command past)) →
    (last : Option ℕ) (command : ℕ) → follows (ending_in kept) last command ≡ may_follow past last command
follows-as kept past are None command = refl
follows-as kept past are (Some last) command =
    ap (λ b. nat_lt last command && b) (ap (λ e. e.is_final) (are last) ∙ final-is (endings last past))

pub judges : JudgesSessions
judges line orders kept nodes past (Accepted command node) are placed = ap (λ n. not (eqb command (n + 1))) are.count
judges line orders kept nodes past (Begin node session command) are placed =
    let same = are.sessions node (omega (arith, placed.0.1)) in
    ap₂ (λ a b. not (eqb session (length a + 1) && b)) same
    (ap₂ ◌&&◌ (sym (is-some-to node (order_at orders command)) ∙ ap is_some (sym (are.orders node command)))
    (follows-as kept past are.endings (command_at (sessions_of nodes node) (length (sessions_of nodes node))) command
    ∙ ap (λ a. may_follow past (command_at a (length a)) command) same))
judges line orders kept nodes past other are placed = refl

-- ---- the first tables

abbrev nothing : List ℕ
nothing = []

no-order : (b : Bool) (node : ℕ) → None ≡ to_node node (cond b None None)
no-order true node = refl
no-order false node = refl

pub begins : BeginSo
unfolding no_sessions
begins kept none = record {
  line = refl;
  count = refl;
  orders = λ node command. no-order (eqb command 0) node;
  endings = none;
  places = length-same nothing 233;
  sessions = λ node within. same-at nothing 233 node;
}

-- ---- one entry more

pub read-same : (found : Result (Option Line) LineFault) → lines_of (line_read found) ≡ read_as found
read-same (Ok (Some line)) = refl
read-same (Ok None) = refl
read-same (Err fault) = refl

as-shown : (scene : Scenery) (entry : Entry) → lines_of (scene_after scene entry).line ≡ line_of entry
as-shown scene (Said words) = read-same (line_at words)
as-shown scene other = refl

line-more : (scene : Scenery) (past : List Entry) (entry : Entry) → lines_of (scene_after scene entry).line ≡ line_last (past ++ (entry ∷ []))
line-more scene past entry = as-shown scene entry ∙ sym (folded-more line_after [] past entry)

count-more : (orders : List (Option Order)) (line : Option Line) (past : List Entry) (entry : Entry) → length orders ≡ length (accepted_numbers past) →
    length (orders_after orders line entry) ≡ length (accepted_numbers past ++ accepted_number entry)
count-more orders line past (Accepted command node) same =
    length-append orders (order_to node line ∷ []) ∙ ap (λ n. n + 1) same ∙ sym (length-append (accepted_numbers past) (command ∷ []))
count-more orders line past other same = same ∙ ap length (sym (append-nil (accepted_numbers past)))

pub line-kept : (n : ℕ) (past : List Entry) (so_far : Accepting) (lines : List Line) → so_far.line ≡ lines →
    (folded (accepting n) so_far past).line ≡ folded line_after lines past
line-kept n [] so_far lines same = same
line-kept n (entry ∷ past) so_far lines same = line-kept n past (accepting n so_far entry) (line_of entry) refl

accepted-more : (n : ℕ) (past : List Entry) (entry : Entry) → accepted n (past ++ (entry ∷ [])) ≡ accepted n past ++ accepted_at n (line_last past) entry
accepted-more n past entry =
    ap (λ so_far. so_far.commands) (folded-more (accepting n) not_accepting past entry)
    ∙ ap (λ lines. accepted n past ++ accepted_at n lines entry) (line-kept n past not_accepting [] refl)

next-number : (command count : ℕ) → not (eqb command count) ≡ false → command ≡ count
next-number command count keeps = eqb-true command count (by (eqb command count) keeps)
  where
    by : (b : Bool) → not b ≡ false → b ≡ true
    by true e = refl
    by false e = absurd (false≢true (sym e))

orders-more : (line : Option Line) (orders : List (Option Order)) (kept : List (ℕ × Ending)) (nodes : List (List ℕ)) (past : List Entry) (entry : Entry) →
    AreOf line orders kept nodes past → breaks_sessions past entry ≡ false →
    (n command : ℕ) → order_among command (accepted n past ++ accepted_at n (lines_of line) entry) ≡ to_node n (order_at (orders_after orders line entry) command)
orders-more line orders kept nodes past (Accepted number node) are keeps n command =
    accepts-more orders line (accepted n past) n node number (next-number number (length (accepted_numbers past) + 1) keeps ∙ ap (λ m. m + 1) (sym are.count))
    (are.orders n) command
orders-more line orders kept nodes past other are keeps n command =
    ap (order_among command) (append-nil (accepted n past)) ∙ are.orders n command

ending-step : (b : Bool) (before : Ending) (xs : List Ended) (w : Ended) → before ≡ ending_from no_ending xs →
    cond b (ended_so before w) before ≡ ending_from no_ending (xs ++ cond b (w ∷ []) [])
ending-step true before xs w is = ap (λ e. ended_so e w) is ∙ sym (ending-more no_ending xs w)
ending-step false before xs w is = is ∙ ap (ending_from no_ending) (sym (append-nil xs))

endings-more : (i : ℕ) (before : Ending) (past : List Entry) (entry : Entry) → before ≡ ending_from no_ending (endings i past) →
    ending_after before i entry ≡ ending_from no_ending (endings i past ++ ended_at i entry)
endings-more i before past (Out number ended) is = ending-step (eqb number i) before (endings i past) ended is
endings-more i before past other is = is ∙ ap (ending_from no_ending) (sym (append-nil (endings i past)))

places-more : (nodes : List (List ℕ)) (entry : Entry) → length (sessions_after nodes entry) ≡ length nodes
places-more nodes (Begin node session command) = length-set nodes node (sessions_of nodes node ++ (command ∷ []))
places-more nodes other = refl

session-step : (nodes : List (List ℕ)) (node n command : ℕ) → node < length nodes →
    sessions_of (set nodes node (sessions_of nodes node ++ (command ∷ []))) n ≡ sessions_of nodes n ++ cond (eqb node n) (command ∷ []) []
session-step nodes node n command within =
    ⊎_elim
    (λ (e : node ≡ n). subst (λ m. sessions_of (set nodes node (sessions_of nodes node ++ (command ∷ []))) m ≡ sessions_of nodes m ++ cond (eqb node m) (command ∷ []) []) e
    (get_or-set_same nodes node (sessions_of nodes node ++ (command ∷ [])) [] within ∙ ap (λ b. sessions_of nodes node ++ cond b (command ∷ []) []) (sym (eq-eqb node node refl))))
    (λ (ne : node ≡ n → ⊥).
    get_or-set_other nodes node n (sessions_of nodes node ++ (command ∷ [])) [] (λ e. ne (sym e))
    ∙ sym (append-nil (sessions_of nodes n)) ∙ ap (λ b. sessions_of nodes n ++ cond b (command ∷ []) []) (sym (ne_eqb node n ne)))
    (cases_eq node n)

sessions-more : (nodes : List (List ℕ)) (entry : Entry) (n : ℕ) → length nodes ≡ 233 → EntryFits entry →
    sessions_of (sessions_after nodes entry) n ≡ sessions_of nodes n ++ session_at n entry
sessions-more nodes (Begin node session command) n places placed = session-step nodes node n command (omega (arith, places, placed.0.1))
sessions-more nodes other n places placed = sym (append-nil (sessions_of nodes n))

pub goes-on : GoOn
goes-on scene orders kept kept' nodes past entry are placed keeps ended = record {
  line = line-more scene past entry;
  count = count-more orders scene.line past entry are.count ∙ ap length (sym (shown-more accepted_number past entry));
  orders = λ n command.
      ap (order_among command) (accepted-more n past entry ∙ ap (λ lines. accepted n past ++ accepted_at n lines entry) (sym are.line))
      ∙ orders-more scene.line orders kept nodes past entry are keeps n command;
  endings = λ i.
      ended i ∙ endings-more i (ending_in kept i) past entry (are.endings i)
      ∙ ap (ending_from no_ending) (sym (shown-more (ended_at i) past entry));
  places = places-more nodes entry ∙ are.places;
  sessions = λ n within.
      sessions-more nodes entry n are.places placed ∙ ap (λ s. s ++ session_at n entry) (are.sessions n within)
      ∙ sym (shown-more (session_at n) past entry);
}
