-- What the frame that was judged ends is given up directly after it: where no giving up is owed, none is after what a host alone does next, but for an end that the host still has to hear of.
use Rattle.std.proofs.Common.{◌≡◌, ◌⊎◌, ℕ, ◌≤◌, ◌==◌, ◌&&◌, ◌||◌, not, Bool, true, false, if◌then◌else◌, inl, inr, List, [], ◌∷◌, ◌++◌, refl, sym, ap, ap₂, ◌∙◌, subst, arith}
use Rattle.std.specs.Prelude.{Option, Some, None, Result, Ok, Err, filter, is_none, is_some, nat_lt}
use Rattle.std.specs.List.{AllByRecursion, flat_map, list_all, list_any}
use Rattle.std.proofs.lemmas.Bool.{and_left, and_right, both_ways, eqb-true, ne_eqb}
use Rattle.std.proofs.lemmas.List.Elements.{recursion_from_All}
use Rattle.zw_base.proofs.Each.{all-right}
use Rattle.serial_frame.specs.declared.unit.Unit.{Unit as LineUnit}
use Rattle.zw_words.specs.declared.fault.LineFault.{LineFault}
use Rattle.zw_text.specs.Line.{LineText, line_at}
use Rattle.zw_text.specs.declared.line.Line.{Line}
use Rattle.zw_text.specs.declared.line.Line.TheVariants as lines
use Rattle.zw_text.specs.declared.entry.Entry.{Entry}
use Rattle.zw_text.specs.declared.entry.Entry.TheVariants as entry
use Rattle.zw_text.specs.Transcript.{Accepting, accepted, accepted_at, accepting, folded, line_of, not_accepting, numbered, order_for, read_as}
use Rattle.zw_text.proofs.TextLaws.{line_takes}
use Rattle.chip_functions.specs.Field.{IsNode}
use Rattle.supervision.specs.Host.{command_at as command_of_session, open_session}
use Rattle.host_heard.specs.declared.told.Told.{Told}
use Rattle.zw_base.specs.declared.order.Order.{Order}
use Rattle.law_transcript.specs.Commands.{order_of}
use Rattle.law_transcript.specs.Units.{Carried, sending_in}
use Rattle.law_time.specs.Attempts.{Attempts, attempt_is_over, is_late, serving}
use Rattle.law_time.specs.Ends.{ending, is_before_failing, is_ending_here}
use Rattle.law_time.specs.Heeds.{Heeds}
use Rattle.law_time.specs.Judged.{acknowledged, is_directly_after, is_following}
use Rattle.law_time.specs.Moments.{clock}
use Rattle.law_time.specs.Requests.{Judging, are_none, asked}
use Rattle.law_time.specs.Sessions.{is_open, last_command}
use Rattle.law_time.specs.Unanswered.{owes_giving_up, third_is_over, to_give_up}
use Rattle.host_requests.specs.declared.under_way.UnderWay.{UnderWay}
use Rattle.host_node.specs.Facts.{SeriesFacts}
use Rattle.host_node.specs.declared.series.Series.{Series}
use Rattle.host_node.specs.declared.series.Series.TheVariants.{Due, Idle, Running}
use Rattle.host_node.specs.State.{NodeState, is_open as is_node_open}
use Rattle.host_model.specs.State.{HostState, node_of}
use Rattle.host_model.specs.Sessions.{command_by, open_command}
use Rattle.host_model.specs.Did.{after_all}
use Rattle.host_model.specs.Events.{HostEvent, Interview_unkept, Interviews, Requests_do}
use Rattle.host_model.specs.After.{after}
use Rattle.host_model.specs.Facts.{IsCommandOf}
use Rattle.proof_host.specs.Facts.{Facts}
use Rattle.proof_host.specs.Tables.{taken_by}
use Rattle.proof_queue.specs.proof_attempts.Attempts.{begun_of, has_ended_badly, is_over_by}
use Rattle.proof_queue.specs.proof_attempts.proof_requests.Asking.{TieAsked, doing_of}
use Rattle.proof_queue.specs.proof_attempts.proof_requests.Ends.{TellsNoEnd}
use Rattle.proof_queue.specs.proof_attempts.proof_requests.Standing.{failing_in, standing_of, wait_in}
use Rattle.proof_queue.specs.proof_attempts.proof_requests.law_host.Heard.{heeds_alone}
use Rattle.proof_queue.proofs.AttemptsGo.{running_not_over}
use Rattle.proof_queue.proofs.Opening.{OpenLast, open_last}
use Rattle.proof_giving.specs.Told.{attempts_so_far}
use Rattle.proof_giving.specs.Stays.{ShowsSessions}
use Rattle.proof_giving.specs.Tie.{AttemptsAs, is_badly_over, is_for, signed}
use Rattle.proof_giving.specs.Walking.{EndsAsTold, IsMild}
use Rattle.proof_giving.proofs.Along.{signed_series}
use Rattle.proof_giving.proofs.Asking.{over_as}
use Rattle.proof_giving.proofs.GivesUp.{signed_attempts}
use Rattle.proof_giving.proofs.Staying.{IsCalm, calm_purpose}
use Rattle.proof_giving.proofs.Ticked.{unended}
use Rattle.proof_giving.proofs.Told.{each_is, node_is}

-- ---- whoever has a session open is a node

abbrev OrdersNode : Line → Type 0
OrdersNode (lines.Command order) = IsNode order.node
OrdersNode line = Unit {0}

read_orders : (words : List ℕ) (read : Result (Option Line) LineFault) → line_at words ≡ read → AllByRecursion OrdersNode (read_as read)
read_orders words (Ok (Some (lines.Command order))) is =
    let text : LineText words (lines.Command order) = line_takes words (Some (lines.Command order)) is in
    let least = text.stands.0.0 in ((omega (arith, least), text.stands.0.1), tt)
read_orders words (Ok (Some line)) is = (tt, tt)
read_orders words (Ok None) is = tt
read_orders words (Err fault) is = tt

line_orders : (e : Entry) → AllByRecursion OrdersNode (line_of e)
line_orders (entry.Said words) = read_orders words (line_at words) refl
line_orders e = tt

orders_in : (n : ℕ) (l : List Line) → AllByRecursion OrdersNode l → (flat_map (order_for n) l ≡ []) ⊎ IsNode n
orders_in n [] all = inl refl
orders_in n (lines.Command order ∷ l) all = by (order.node == n) refl (orders_in n l all.1)
  where
    by : (b : Bool) → (order.node == n) ≡ b → (flat_map (order_for n) l ≡ []) ⊎ IsNode n → ((if b then order ∷ [] else []) ++ flat_map (order_for n) l ≡ []) ⊎ IsNode n
    by true same more = inr (subst IsNode (eqb-true order.node n same) all.0)
    by false differs more = more
orders_in n (line ∷ l) all = orders_in n l all.1

accepted_in : (n : ℕ) (l : List Line) (e : Entry) → AllByRecursion OrdersNode l → (accepted_at n l e ≡ []) ⊎ IsNode n
accepted_in n l (entry.Accepted command node) all = by (node == n) (orders_in n l all)
  where
    by : (b : Bool) → (flat_map (order_for n) l ≡ []) ⊎ IsNode n → ((if b then numbered command (flat_map (order_for n) l) else []) ≡ []) ⊎ IsNode n
    by true (inl none) = inl (ap (λ (orders : List Order). numbered command orders) none)
    by true (inr node) = inr node
    by false orders = inl refl
accepted_in n l e all = inl refl

record AcceptsIn (n : ℕ) (a : Accepting) : Type 0 where
  commands : (a.commands ≡ []) ⊎ IsNode n
  line : AllByRecursion OrdersNode a.line

step_in : (n : ℕ) (a : Accepting) (e : Entry) → AcceptsIn n a → AcceptsIn n (accepting n a e)
step_in n a e so = record { commands = by so.commands (accepted_in n a.line e so.line); line = line_orders e }
  where
    by : (a.commands ≡ []) ⊎ IsNode n → (accepted_at n a.line e ≡ []) ⊎ IsNode n → (a.commands ++ accepted_at n a.line e ≡ []) ⊎ IsNode n
    by (inr node) more = inr node
    by (inl none) (inr node) = inr node
    by (inl none) (inl nothing) = inl (ap₂ (λ (one more : List _). one ++ more) none nothing)

all_in : (n : ℕ) (past : List Entry) (a : Accepting) → AcceptsIn n a → AcceptsIn n (folded (accepting n) a past)
all_in n [] a so = so
all_in n (e ∷ past) a so = all_in n past (accepting n a e) (step_in n a e so)

accepts_in : (n : ℕ) (past : List Entry) (number : ℕ) (order : Order) → order_of number (accepted n past) ≡ Some order → IsNode n
accepts_in n past number order is = by (all_in n past not_accepting (record { commands = inl refl; line = tt })).commands
  where
    by : (accepted n past ≡ []) ⊎ IsNode n → IsNode n
    by (inr node) = node
    by (inl none) = absurd (let bad : ◌≡◌ {A = Option Order} None (Some order) = sym (ap (λ (l : List _). order_of number l) none) ∙ is in cc)

module _ (taken : List Entry → Carried → List Told) (past : List Entry) (h : HostState) (facts : Facts past h) where
  abbrev heeds : Heeds
  heeds = heeds_alone taken

  open_in : (n : ℕ) → ShowsSessions heeds past h n → is_open n past ≡ true → IsNode n
  open_in n shows is = by (open_session (node_of h n).book) refl (open_last (node_of h n))
    where
      opens : is_node_open (node_of h n) ≡ true
      opens = sym shows.opened ∙ is

      by : (o : Option ℕ) → open_session (node_of h n).book ≡ o → ((open_session (node_of h n).book ≡ None) × (open_command (node_of h n) ≡ None)) ⊎ OpenLast (node_of h n) → IsNode n
      by None none last = absurd (let bad : false ≡ true = sym (ap (λ (o : Option ℕ). is_some o) none) ∙ opens in cc)
      by (Some session) opened (inl none) = absurd (let no = none.0 in let bad : ◌≡◌ {A = Option ℕ} None (Some session) = sym no ∙ opened in cc)
      by (Some session) opened (inr at) =
          let all : AllByRecursion (IsCommandOf h.commands n) (at.front ++ at.command ∷ [])
          = subst (λ (l : List ℕ). AllByRecursion (IsCommandOf h.commands n) l) at.are (recursion_from_All (IsCommandOf h.commands n) (node_of h n).book.commands (facts.host.owns n).sessions) in
          let of = (all-right (IsCommandOf h.commands n) at.front (at.command ∷ []) all).0 in
          let carried : command_of_session (node_of h n).book.commands session ≡ Some at.command = sym (ap (λ (o : Option ℕ). command_by (node_of h n) o) opened) ∙ at.opened in
          accepts_in n past at.command of.command.order
          (shows.carried n session at.command (record { order = of.command.order; carriage = of.command.carriage }) (ap (λ (l : List ℕ). command_of_session l session) shows.sessions_are ∙ carried)
          (ap taken_by of.found)).0

  -- ---- of a node whose attempts are as they are told

  pub node_free : (n now : ℕ) (b : Bool) → AttemptsAs b heeds n past h now now → clock past ≡ now
      → ((node_of h n).series ≡ Running → (attempts_so_far heeds n past).own ≡ true → has_ended_badly heeds past (asked past) now n ≡ is_badly_over heeds n past h now) → to_give_up heeds past (clock past) n ≡ []
  node_free n now b so time as_told =
      ap (λ (t : ℕ). to_give_up heeds past t n) time
      ∙ ap (λ (l : List Attempts). if is_open n past && list_any (third_is_over heeds past now) l then last_command n past else []) (each_is heeds (n ∷ []) past)
      ∙ ap (λ (c : Bool). if is_open n past && (c || false) then last_command n past else []) third_not ∙ none (is_open n past)
    where
      told : Attempts
      told = attempts_so_far heeds n past

      s : NodeState
      s = node_of h n

      none : (c : Bool) → (if c && false then last_command n past else []) ≡ []
      none true = refl
      none false = refl

      begun : (x : Series) → s.series ≡ x → told.begun ≡ begun_of x s.book.attempts
      begun x is = so.node.are.begun ∙ ap₂ (λ (y : Series) (k : ℕ). begun_of y k) (signed_series b s ∙ is) (signed_attempts b s)

      few : (k : ℕ) → told.begun ≡ k → k ≤ 2 → third_is_over heeds past now told ≡ false
      few k is most = and_left (told.begun == 3) (attempt_is_over heeds past (asked past) now told) (ne_eqb told.begun 3 (λ three. absurd (omega (arith, is, most, three))))

      runs_on : s.series ≡ Running → attempt_is_over heeds past (asked past) now told ≡ false
      runs_on runs =
          over_as heeds n past (asked past) now told (node_is heeds n past) ∙ same told.own refl
          ∙ running_not_over told (signed b s) now (is_badly_over heeds n past h now) so.node.are (signed_series b s ∙ runs)
        where
          same : (o : Bool) → told.own ≡ o → is_over_by now (has_ended_badly heeds past (asked past) now n) told ≡ is_over_by now (is_badly_over heeds n past h now) told
          same true own = ap (λ (x : Bool). is_late now told || (told.own && x)) (as_told runs own)
          same false own =
              ap (λ (o : Bool). is_late now told || (o && has_ended_badly heeds past (asked past) now n)) own ∙ sym (ap (λ (o : Bool). is_late now told || (o && is_badly_over heeds n past h now)) own)

      third_not : third_is_over heeds past now told ≡ false
      third_not = by s.series refl (facts.host.nodes.facts n).series
        where
          by : (x : Series) → s.series ≡ x → SeriesFacts x s.book s.attempt_wait s.again_wait s.next_segment s.segments s.text s.pending → third_is_over heeds past now told ≡ false
          by Idle is facts = few 0 (begun Idle is) (omega arith)
          by Due is facts = few s.book.attempts (begun Due is) facts.0.fewer
          by Running is facts = and_right (told.begun == 3) (attempt_is_over heeds past (asked past) now told) (runs_on is)

  -- so no giving up is owed
  owes_free : ((n : ℕ) → ShowsSessions heeds past h n) → ((n : ℕ) → IsNode n → to_give_up heeds past (clock past) n ≡ []) → owes_giving_up heeds past ≡ false
  owes_free shows free =
      and_right (is_directly_after past && is_ending_here past) (list_any (λ carried. not (are_none (to_give_up heeds past (clock past) carried.node))) (sending_in (asked past).frame)) (each (sending_in (asked past).frame))
    where
      one : (n : ℕ) → to_give_up heeds past (clock past) n ≡ []
      one n = by (is_open n past) refl
        where
          by : (b : Bool) → is_open n past ≡ b → to_give_up heeds past (clock past) n ≡ []
          by true is = free n (open_in n (shows n) is)
          by false is = ap (λ (b : Bool). if b && list_any (third_is_over heeds past (clock past)) (serving heeds (n ∷ []) past).each then last_command n past else []) is

      each : (l : List Carried) → list_any (λ carried. not (are_none (to_give_up heeds past (clock past) carried.node))) l ≡ false
      each [] = refl
      each (carried ∷ l) = ap₂ (λ (x y : Bool). x || y) (ap (λ (c : List ℕ). not (are_none c)) (one carried.node)) (each l)

owes_unended : (by : Heeds) (past : List Entry) → is_ending_here past ≡ false → owes_giving_up by past ≡ false
owes_unended by past none =
    and_left (is_directly_after past && is_ending_here past) (list_any (λ carried. not (are_none (to_give_up by past (clock past) carried.node))) (sending_in (asked past).frame))
    (and_right (is_directly_after past) (is_ending_here past) none)

pub owes_apart : (by : Heeds) (past : List Entry) → is_directly_after past ≡ false → owes_giving_up by past ≡ false
owes_apart by past none =
    and_left (is_directly_after past && is_ending_here past) (list_any (λ carried. not (are_none (to_give_up by past (clock past) carried.node))) (sending_in (asked past).frame))
    (and_left (is_directly_after past) (is_ending_here past) none)

-- while a request is under way no frame that was judged here ends it
under_unended : (past : List Entry) (line_now now : ℕ) (came : List LineUnit) (h : HostState) (u : UnderWay) → h.requests.under_way ≡ Some u → TieAsked past line_now now came (doing_of h) → is_ending_here past ≡ false
under_unended past line_now now came h u is tie =
    and_right (is_following past) (list_any (λ one. one.place == acknowledged past) (ending (asked past)))
    (ap (λ (l : List Judging). list_any (λ one. one.place == acknowledged past) (filter (λ one. list_all (nat_lt one.tick) (wait_in (standing_of (asked past))) && list_all (is_before_failing one) (failing_in (standing_of (asked past)))) l))
    (unended past line_now now came (doing_of h) u is tie))

-- ---- behind an item that the request hears nothing of

calm_of : (event : HostEvent) → IsMild event → TellsNoEnd event → IsCalm event
calm_of (Interviews n listens classes update) mild tells = absurd tells
calm_of (Interview_unkept n update) mild tells = absurd tells
calm_of event mild tells = mild

mild_of : (past : List Entry) (now : ℕ) (h : HostState) (left : List HostEvent) → EndsAsTold past now h left → AllByRecursion TellsNoEnd left → AllByRecursion IsMild left
mild_of past now h [] ended tells = tt
mild_of past now h (Requests_do event moment ∷ left) ended tells = absurd tells.0
mild_of past now h (event ∷ left) ended tells = ended

calm_under : (h : HostState) (left : List HostEvent) → AllByRecursion IsMild left → AllByRecursion TellsNoEnd left → is_none (after_all h left).requests.under_way ≡ is_none h.requests.under_way
calm_under h [] mild tells = refl
calm_under h (event ∷ left) mild tells = calm_under (after h event) left mild.1 tells.1 ∙ (calm_purpose h event (calm_of event mild.0 tells.0)).none

some_of : (o : Option UnderWay) → is_none o ≡ false → (u : UnderWay) × (o ≡ Some u)
some_of None none = absurd (let bad : true ≡ false = none in cc)
some_of (Some u) none = (u, refl)

pub behind_free : (taken : List Entry → Carried → List Told) (past : List Entry) (h : HostState) → Facts past h → ((n : ℕ) → ShowsSessions (heeds_alone taken) past h n) → (left : List HostEvent) (now : ℕ) (came : List LineUnit)
    → AllByRecursion TellsNoEnd left → EndsAsTold past now h left → TieAsked past now now came (doing_of (after_all h left)) → clock past ≡ now → (signs : ℕ → Bool)
    → ((n : ℕ) → 1 ≤ n → n ≤ 232 → AttemptsAs (signs n) (heeds_alone taken) n past h now now) → owes_giving_up (heeds_alone taken) past ≡ false
behind_free taken past h facts shows left now came tells ended tie time signs so = by h.requests.under_way refl
  where
    by : (o : Option UnderWay) → h.requests.under_way ≡ o → owes_giving_up (heeds_alone taken) past ≡ false
    by None is =
        owes_free taken past h facts shows
        (λ n node. node_free taken past h facts n now (signs n) (so n node.0 node.1) time (λ runs own. sym (ap (λ (o : Option UnderWay). is_none o && has_ended_badly (heeds_alone taken) past (asked past) now n) is)))
    by (Some u) is =
        let later = some_of (after_all h left).requests.under_way (calm_under h left (mild_of past now h left ended tells) tells ∙ ap (λ (o : Option UnderWay). is_none o) is) in
        owes_unended (heeds_alone taken) past (under_unended past now now came (after_all h left) later.0 later.1 tie)

-- where the request under way is of no attempt
pub other_free : (taken : List Entry → Carried → List Told) (past : List Entry) (h : HostState) → Facts past h → ((n : ℕ) → ShowsSessions (heeds_alone taken) past h n) → (now : ℕ) → clock past ≡ now → (signs : ℕ → Bool)
    → ((n : ℕ) → 1 ≤ n → n ≤ 232 → AttemptsAs (signs n) (heeds_alone taken) n past h now now) → (u : UnderWay) → h.requests.under_way ≡ Some u → ((n : ℕ) → is_for n u.purpose ≡ false)
    → owes_giving_up (heeds_alone taken) past ≡ false
other_free taken past h facts shows now time signs so u under other =
    owes_free taken past h facts shows
    (λ n node.
    let tie = so n node.0 node.1 in
    node_free taken past h facts n now (signs n) tie time
    (λ runs own. absurd (both_ways (attempts_so_far (heeds_alone taken) n past).own (tie.own runs u under ∙ other n) own)))
