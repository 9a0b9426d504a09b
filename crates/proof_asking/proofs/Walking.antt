-- So the walk goes along each run of a host alone: at each phase what the host has to send is due, and what it asks to be sent is.
use Rattle.std.proofs.Common.{◌≡◌, ◌≤◌, ℕ, true, false, inl, inr, List, [], ◌∷◌, ◌++◌, refl, sym, ap, ◌∙◌, subst, append-nil, append_assoc}
use Rattle.std.specs.List.{AllByRecursion}
use Rattle.serial_frame.specs.Items.{unit_text}
use Rattle.serial_frame.specs.declared.item.Item.{Item}
use Rattle.serial_frame.specs.declared.item.Item.TheVariants.{Good, Refused as refused_item}
use Rattle.serial_frame.specs.declared.unit.Unit.{Unit as LineUnit}
use Rattle.serial_frame.specs.declared.unit.Unit.TheVariants.{Ack, Nak, Can, Framed}
use Rattle.s0_crypto.specs.declared.key_pair.Keys.{Keys}
use Rattle.s0_crypto.specs.Sealing.{keys_of}
use Rattle.zw_words.specs.declared.side.Side.TheVariants.{Chip}
use Rattle.zw_text.specs.declared.line.Line.{Line}
use Rattle.zw_text.specs.declared.line.Line.TheVariants as lines
use Rattle.zw_text.specs.declared.entry.Entry.{Entry}
use Rattle.zw_text.specs.declared.entry.Entry.TheVariants as entry
use Rattle.law_transcript.specs.Lists.{EachAfter}
use Rattle.law_transcript.specs.Payloads.{IsAskedFor}
use Rattle.law_transcript.specs.Restarts.{begins_refused}
use Rattle.proof_known.specs.law_host.Heard.{listing_heard}
use Rattle.law_time.specs.Moments.{Allows}
use Rattle.law_time.specs.Waking.{may_wake}
use Rattle.host_orders.specs.Errands.{get_text, send_text}
use Rattle.host_orders.specs.Refusals.{classes_of}
use Rattle.host_requests.specs.State.{next_id}
use Rattle.host_requests.specs.declared.task.Task.TheVariants.{Plain}
use Rattle.host_model.specs.State.{HostState, node_of}
use Rattle.host_model.specs.Events.{HostEvent, Hears, Queues, IsOwn}
use Rattle.host_model.specs.After.{after}
use Rattle.host_model.specs.May.{known_of, May as MayHost}
use Rattle.host_model.specs.Outs.{answers, outs}
use Rattle.host_model.specs.declared.out.HostOut.{HostOut}
use Rattle.host_model.specs.declared.out.HostOut.TheVariants.{Write, Note}
use Rattle.host_model.proofs.Own.{sleepers_own, submitted_own}
use Rattle.host_model.proofs.Submitted.{next_is, no_more_is}
use Rattle.world_model.specs.Events.{OpensFrom}
use Rattle.proof_host.specs.Facts.{Facts}
use Rattle.proof_sending.specs.proof_spoken.Said.{AreSaid}
use Rattle.proof_sending.specs.Arriving.{ArrivesMore, BringsMore}
use Rattle.proof_sending.specs.Heard.{ItemTells}
use Rattle.proof_sending.specs.Reasons.{Reason, HasReason, IsReasoned, WritesDue}
use Rattle.proof_sending.proofs.Arrivals.{brings_more, brings_then}
use Rattle.proof_sending.proofs.AskedLines.{get_asks, refused_none, send_asks}
use Rattle.proof_sending.proofs.Dues.{unit_is_due}
use Rattle.proof_sending.proofs.Effects.{opens_reasoned}
use Rattle.proof_sending.proofs.Grounds.{CarriesAsSaid, LawsFollow, carried_so}
use Rattle.proof_sending.proofs.HostUnits.{FirstDue, event_first, none_stand}
use Rattle.proof_sending.proofs.Judged.{followed_goes}
use Rattle.proof_sending.proofs.Reasoned.{Laws, event_is, units_due}
use Rattle.proof_sending.proofs.Steps.{holds_more, own_reason, reasoned_more}
use Rattle.proof_sending.proofs.Telling.{frame_brought, payload_tells}
use Rattle.proof_known.specs.proof_alone.State.{HostMachine}
use Rattle.proof_known.specs.proof_alone.Steps.{AreTold, IsAskedBy, Step, TakesItem, Tells, Comes, Misses, Says, Says_nothing, Asks, Refuses, Shows, Restarts, Begins_tick, Numbers, Judges, Does, entries, happens}
use Rattle.proof_known.specs.proof_alone.Phases.{Phase, IsBetween, IsJudgedNow, Resting, Asked, Risen, Ticking, Open, Behind, Sleeping, Submitting, May, Turns}
use Rattle.proof_known.specs.proof_alone.Runs.{WalkOver}
use Rattle.proof_known.specs.proof_waking.Judged.{KnowsJudged}
use Rattle.proof_known.specs.Known.{KnowsOrders}
use Rattle.proof_known.proofs.Events.{event_notes}
use Rattle.proof_asking.specs.Asking.{DueBefore, DueBehind, HaveCome, IsHeardOf, KnowsDue, TieDue}
use Rattle.proof_asking.proofs.Leaving.{LeavesChip, come_more, have_more, have_one, leaves_more, missed_more}
use Rattle.proof_asking.proofs.Telling.{Asks as MayAsk, answers_fresh, answers_leave, answers_not, missed_not, others_fresh, others_leave, others_not, told_fresh, told_leaves, told_stand}

-- what is proved of hosts
pub record HostsAre : Type 0 where
  pub hosts : Laws
  pub stand : LawsFollow
  pub carried : CarriesAsSaid
  pub from : (last : ℕ) → 1 ≤ next_id last
  pub to : (last : ℕ) → next_id last ≤ 255

module _ (laws : HostsAre) (key : List ℕ) where
  -- ---- later

  -- by entries that refuse no line, after which all has come that had
  tie_later : (past told : List Entry) (keys : Keys) (came : List LineUnit) (h : HostState) → begins_refused told ≡ false → ArrivesMore past (past ++ told) → TieDue key past keys came h
      → TieDue key (past ++ told) keys came h
  tie_later past told keys came h fresh more tie = record {
    same = tie.same;
    have = have_more past (past ++ told) came more tie.have;
    reasoned = reasoned_more listing_heard key past told h fresh (brings_more past (past ++ told) more) tie.reasoned;
  }

  tie_leaves : (past told : List Entry) (keys : Keys) (came : List LineUnit) (h : HostState) → begins_refused told ≡ false → AllByRecursion LeavesChip told → TieDue key past keys came h
      → TieDue key (past ++ told) keys came h
  tie_leaves past told keys came h fresh all tie = tie_later past told keys came h fresh (leaves_more past told all) tie

  -- after the words of a line, whatever its answer is
  after_words : (line : Line) (past told : List Entry) (keys : Keys) (came : List LineUnit) (h : HostState) → AllByRecursion LeavesChip told → DueBefore key line past keys came h
      → TieDue key (past ++ told) keys came h
  after_words line past told keys came h all due =
      subst (λ (l : List Entry). TieDue key l keys came h)
      (sym (append_assoc due.before (entry.Said due.words ∷ []) told) ∙ ap (λ (l : List Entry). l ++ told) (sym due.are))
      (tie_leaves due.before (entry.Said due.words ∷ told) keys came h refl (tt, all) due.tie)

  words_due : (line : Line) (past : List Entry) (keys : Keys) (came : List LineUnit) (h : HostState) → DueBefore key line past keys came h → TieDue key past keys came h
  words_due line past keys came h due = subst (λ (l : List Entry). TieDue key l keys came h) (append-nil past) (after_words line past [] keys came h tt due)

  -- behind an item, with what stands by now
  holds_behind : (left : List HostEvent) (past : List Entry) (keys : Keys) (came : List LineUnit) (h : HostState) (due : DueBehind key left past keys came h) (reason : Reason)
      → IsHeardOf key due.before reason → IsHeardOf key past reason
  holds_behind left past keys came h due reason is =
      subst (λ (l : List Entry). IsHeardOf key l reason) (sym due.are)
      (holds_more listing_heard key due.before due.told due.unrefused (subst (λ (l : List Entry). BringsMore due.before l) due.are due.more) reason is)

  behind_due : (past : List Entry) (keys : Keys) (came : List LineUnit) (h : HostState) → DueBehind key [] past keys came h → TieDue key past keys came h
  behind_due past keys came h due = record {
    same = due.same;
    have = due.have;
    reasoned = subst (λ (l : List Entry). IsReasoned (IsHeardOf key l) (keys_of key) h) (sym due.are)
        (reasoned_more listing_heard key due.before due.told h due.unrefused (subst (λ (l : List Entry). BringsMore due.before l) due.are due.more) due.reasoned);
  }

  behind_later : (left : List HostEvent) (past told : List Entry) (keys : Keys) (came : List LineUnit) (h : HostState) → begins_refused told ≡ false → AllByRecursion LeavesChip told
      → DueBehind key left past keys came h → DueBehind key left (past ++ told) keys came h
  behind_later left past told keys came h fresh all due =
      let more : ArrivesMore past (past ++ told) = leaves_more past told all in
      record {
        before = due.before;
        told = due.told ++ told;
        are = ap (λ (l : List Entry). l ++ told) due.are ∙ append_assoc due.before due.told told;
        unrefused = refused_none due.told told due.unrefused fresh;
        more = brings_then due.before past (past ++ told) due.more (brings_more past (past ++ told) more);
        same = due.same;
        have = have_more past (past ++ told) came more due.have;
        reasoned = due.reasoned;
        reasons = due.reasons;
      }

  -- ---- an event of the host

  first_due : (Holds : Reason → Type 0) (past : List Entry) (h : HostState) → ((reason : Reason) → Holds reason → IsHeardOf key past reason) → Facts past h → AreSaid listing_heard h.commands past
      → (puts : List HostOut) → WritesDue Holds (keys_of key) h puts → FirstDue listing_heard key past puts
  first_due Holds past h shows facts said [] due = tt
  first_due Holds past h shows facts said (Write unit ∷ puts) due =
      unit_is_due Holds listing_heard key past shows laws.from laws.to h facts.begun (carried_so laws.stand laws.carried listing_heard past h facts said) unit due.0
  first_due Holds past h shows facts said (Note note ∷ puts) due = tt

  event_stands : (Holds : Reason → Type 0) (past told : List Entry) (h : HostState) (event : HostEvent) → ((reason : Reason) → Holds reason → IsHeardOf key past reason)
      → Facts past h → AreSaid listing_heard h.commands past → MayHost h event → HasReason Holds (keys_of key) h event → IsReasoned Holds (keys_of key) h → AreTold (outs h event) told
      → EachAfter (MayAsk key) past told
  event_stands Holds past told h event shows facts said may reason is are =
      told_stand key past (outs h event) told (event_first h event) (event_notes h event) are
      (first_due Holds past h shows facts said (outs h event) (units_due laws.hosts Holds (keys_of key) h event facts.host may reason is))

  -- its own
  own_goes : (past told : List Entry) (keys : Keys) (came : List LineUnit) (h : HostState) (event : HostEvent) → Facts past h → AreSaid listing_heard h.commands past → MayHost h event
      → HasReason (IsHeardOf key past) (keys_of key) h event → AreTold (outs h event) told → TieDue key past keys came h
      → EachAfter (MayAsk key) past told × TieDue key (past ++ told) keys came (after h event)
  own_goes past told keys came h event facts said may reason are tie = (
    event_stands (IsHeardOf key past) past told h event (λ reason is. is) facts said may reason tie.reasoned are,
    tie_leaves past told keys came (after h event) (told_fresh (outs h event) told (event_notes h event) are) (told_leaves (outs h event) told (event_notes h event) are)
        (record { same = tie.same; have = tie.have; reasoned = event_is laws.hosts (IsHeardOf key past) (keys_of key) past h event facts may reason tie.reasoned }),
  )

  -- one behind an item
  behind_goes : (left : List HostEvent) (past told : List Entry) (keys : Keys) (came : List LineUnit) (h : HostState) (event : HostEvent) → Facts past h → AreSaid listing_heard h.commands past
      → MayHost h event → AreTold (outs h event) told → DueBehind key (event ∷ left) past keys came h
      → EachAfter (MayAsk key) past told × DueBehind key left (past ++ told) keys came (after h event)
  behind_goes left past told keys came h event facts said may are due =
      let Holds : Reason → Type 0 = IsHeardOf key due.before in
      let got = due.reasons ((past, facts), due.reasoned) may in (
        event_stands Holds past told h event (holds_behind (event ∷ left) past keys came h due) facts said may got.0.0 due.reasoned are,
        behind_later left past told keys came (after h event) (told_fresh (outs h event) told (event_notes h event) are) (told_leaves (outs h event) told (event_notes h event) are)
            (record {
              before = due.before;
              told = due.told;
              are = due.are;
              unrefused = due.unrefused;
              more = due.more;
              same = due.same;
              have = due.have;
              reasoned = event_is laws.hosts Holds (keys_of key) past h event facts may got.0.0 due.reasoned;
              reasons = got.1;
            }),
      )

  -- ---- an item

  item_tells : (past : List Entry) (item : Item) (came rest : List LineUnit) → TakesItem item came rest → HaveCome past came → ItemTells (IsHeardOf key past) (keys_of key) item
  item_tells past (Good Ack) came rest takes have = tt
  item_tells past (Good Nak) came rest takes have = tt
  item_tells past (Good Can) came rest takes have = tt
  item_tells past (Good (Framed f)) came rest takes have = λ request status source payload read.
      let first = subst (λ (l : List LineUnit). HaveCome past l) takes have in
      payload_tells listing_heard key past source payload (frame_brought past f (unit_text (Framed f)) first.0 refl request status source payload read)
  item_tells past (refused_item refusal) came rest takes have = tt

  rest_come : (past : List Entry) (item : Item) (came rest : List LineUnit) → TakesItem item came rest → HaveCome past came → HaveCome past rest
  rest_come past (Good unit) came rest takes have = (subst (λ (l : List LineUnit). HaveCome past l) takes have).1
  rest_come past (refused_item refusal) came rest takes have = subst (λ (l : List LineUnit). HaveCome past l) (sym takes) have

  judges_due : (past : List Entry) (m : HostMachine) (item : Item) (rest : List LineUnit) (behind : List HostEvent) (told : List Entry) → IsJudgedNow m item rest behind told
      → Facts past m.state → AreSaid listing_heard m.state.commands past → TieDue key past m.keys m.came m.state
      → EachAfter (MayAsk key) past told × DueBehind key behind (past ++ told) m.keys rest (after m.state (Hears item))
  judges_due past m item rest behind told now facts said tie =
      let h : HostState = m.state in
      let Holds : Reason → Type 0 = IsHeardOf key past in
      let all = told_leaves (outs h (Hears item)) told (event_notes h (Hears item)) now.told_so in
      let more : ArrivesMore past (past ++ told) = leaves_more past told all in (
        event_stands Holds past told h (Hears item) (λ reason is. is) facts said now.may.0 tt tie.reasoned now.told_so,
        record {
          before = past;
          told = told;
          are = refl;
          unrefused = told_fresh (outs h (Hears item)) told (event_notes h (Hears item)) now.told_so;
          more = brings_more past (past ++ told) more;
          same = tie.same;
          have = have_more past (past ++ told) rest more (rest_come past item m.came rest now.takes tie.have);
          reasoned = event_is laws.hosts Holds (keys_of key) past h (Hears item) facts now.may.0 tt tie.reasoned;
          reasons = followed_goes laws.hosts Holds (keys_of key) (after h (Hears item)) h.side.turn item behind (item_tells past item m.came rest now.takes tie.have) now.followed;
        },
      )

  -- ---- a line

  -- what it asks of the host has its reason
  queued : (before past : List Entry) (words : List ℕ) (h : HostState) (node : ℕ) (payload : List ℕ) (event : HostEvent) → past ≡ before ++ entry.Said words ∷ []
      → IsAskedFor listing_heard (before ++ entry.Said words ∷ []) (record { node = node; payload = payload }) → event ≡ Queues (Plain node payload) → HasReason (IsHeardOf key past) (keys_of key) h event
  queued before past words h node payload event are asked is =
      subst (λ (e : HostEvent). HasReason (IsHeardOf key past) (keys_of key) h e) (sym is)
      (subst (λ (l : List Entry). IsAskedFor listing_heard l (record { node = node; payload = payload })) (sym are) asked)

  as_asked : (past : List Entry) (h : HostState) (event these : HostEvent) → event ≡ these → HasReason (IsHeardOf key past) (keys_of key) h these → HasReason (IsHeardOf key past) (keys_of key) h event
  as_asked past h event these is reason = subst (λ (e : HostEvent). HasReason (IsHeardOf key past) (keys_of key) h e) (sym is) reason

  asked_reason : (line : Line) (past : List Entry) (keys : Keys) (came : List LineUnit) (h : HostState) (event : HostEvent) → IsAskedBy line h event → DueBefore key line past keys came h
      → HasReason (IsHeardOf key past) (keys_of key) h event
  asked_reason (lines.Command order) past keys came h event is due = as_asked past h event _ is tt
  asked_reason (lines.Send node word) past keys came h event is due =
      queued due.before past due.words h node (send_text (classes_of (known_of (node_of h node))) word) event due.are (send_asks listing_heard due.before due.words h node word due.knew due.read) is.1
  asked_reason (lines.Get node end) past keys came h event is due =
      queued due.before past due.words h node (get_text (classes_of (known_of (node_of h node))) end) event due.are (get_asks listing_heard due.before due.words h node end due.knew due.read) is.1
  asked_reason (lines.Join node) past keys came h event is due = as_asked past h event _ is tt
  asked_reason (lines.Interview node) past keys came h event is due = as_asked past h event _ is.1 tt
  asked_reason (lines.Cancel command) past keys came h event is due = as_asked past h event _ is tt
  asked_reason lines.Discover past keys came h event is due = as_asked past h event _ is.1 tt
  asked_reason (lines.Neighbours node) past keys came h event is due = as_asked past h event _ is.1 tt
  asked_reason (lines.Failed node) past keys came h event is due = as_asked past h event _ is.1 tt
  asked_reason lines.Probe past keys came h event is due = as_asked past h event _ is.1 tt
  asked_reason line past keys came h event is due = absurd is

  asks_due : (line : Line) (past : List Entry) (keys : Keys) (came : List LineUnit) (h : HostState) (event : HostEvent) → IsAskedBy line h event → MayHost h event → Facts past h
      → DueBefore key line past keys came h → TieDue key (past ++ answers h event) keys came (after h event)
  asks_due line past keys came h event asked may facts due =
      let tie = words_due line past keys came h due in
      tie_leaves past (answers h event) keys came (after h event) (answers_fresh h event) (answers_leave h event)
      (record {
        same = tie.same;
        have = tie.have;
        reasoned = event_is laws.hosts (IsHeardOf key past) (keys_of key) past h event facts may (asked_reason line past keys came h event asked due) tie.reasoned;
      })

  -- ---- between the parts of the host

  to_tie : (here : Phase) (past : List Entry) (m : HostMachine) → IsBetween here → KnowsDue key here past m → TieDue key past m.keys m.came m.state
  to_tie Resting past m between known = known
  to_tie Risen past m between known = known
  to_tie Open past m between known = known
  to_tie (Asked line) past m between known = absurd between
  to_tie (Ticking left) past m between known = absurd between
  to_tie (Behind left) past m between known = absurd between
  to_tie Sleeping past m between known = absurd between
  to_tie Submitting past m between known = absurd between

  from_tie : (here : Phase) (past : List Entry) (m : HostMachine) → IsBetween here → TieDue key past m.keys m.came m.state → KnowsDue key here past m
  from_tie Resting past m between tie = tie
  from_tie Risen past m between tie = tie
  from_tie Open past m between tie = tie
  from_tie (Asked line) past m between tie = absurd between
  from_tie (Ticking left) past m between tie = absurd between
  from_tie (Behind left) past m between tie = absurd between
  from_tie Sleeping past m between tie = absurd between
  from_tie Submitting past m between tie = absurd between

  abbrev Goes : Phase → List Entry → HostMachine → Step → Type 0
  Goes next past m one = EachAfter (MayAsk key) past (entries m one) × KnowsDue key next (past ++ entries m one) (happens m one)

  -- there a step leads to the same phase
  stays : (here next : Phase) (past : List Entry) (m : HostMachine) (one : Step) → IsBetween here → next ≡ here
      → EachAfter (MayAsk key) past (entries m one) × TieDue key (past ++ entries m one) (happens m one).keys (happens m one).came (happens m one).state → Goes next past m one
  stays here next past m one between next_is got =
      subst (λ (p : Phase). Goes p past m one) (sym next_is) (got.0, from_tie here (past ++ entries m one) (happens m one) between got.1)

  leads : (next to : Phase) (past : List Entry) (m : HostMachine) (one : Step) → next ≡ to → Goes to past m one → Goes next past m one
  leads next to past m one same goes = subst (λ (p : Phase). Goes p past m one) (sym same) goes

  as_known : (here is : Phase) (past : List Entry) (m : HostMachine) → here ≡ is → KnowsDue key here past m → KnowsDue key is past m
  as_known here is past m same known = subst (λ (p : Phase). KnowsDue key p past m) same known

  -- the number of a tick
  numbered : (here : Phase) (past : List Entry) (m : HostMachine) → m.awaits ≡ true → KnowsJudged here past m → KnowsDue key here past m → KnowsDue key here (past ++ entry.Time m.clock ∷ []) (happens m Numbers)
  numbered (Asked line) past m awaits judged known = absurd (let bad : false ≡ true = sym judged.unnumbered ∙ awaits in cc)
  numbered (Behind left) past m awaits judged known = behind_later left past (entry.Time m.clock ∷ []) m.keys m.came m.state refl (tt, tt) known
  numbered Resting past m awaits judged known = tie_leaves past (entry.Time m.clock ∷ []) m.keys m.came m.state refl (tt, tt) known
  numbered Risen past m awaits judged known = tie_leaves past (entry.Time m.clock ∷ []) m.keys m.came m.state refl (tt, tt) known
  numbered (Ticking left) past m awaits judged known = tie_leaves past (entry.Time m.clock ∷ []) m.keys m.came m.state refl (tt, tt) known
  numbered Open past m awaits judged known = tie_leaves past (entry.Time m.clock ∷ []) m.keys m.came m.state refl (tt, tt) known
  numbered Sleeping past m awaits judged known = tie_leaves past (entry.Time m.clock ∷ []) m.keys m.came m.state refl (tt, tt) known
  numbered Submitting past m awaits judged known = tie_leaves past (entry.Time m.clock ∷ []) m.keys m.came m.state refl (tt, tt) known

  -- an event of a tick, of an item or of a pump
  owns : (next to : Phase) (past : List Entry) (m : HostMachine) (event : HostEvent) (told : List Entry) → next ≡ to → IsOwn event → MayHost m.state event → AreTold (outs m.state event) told
      → Facts past m.state → AreSaid listing_heard m.state.commands past → TieDue key past m.keys m.came m.state
      → (TieDue key (past ++ told) m.keys m.came (after m.state event) → KnowsDue key to (past ++ told) (happens m (Does event told))) → Goes next past m (Does event told)
  owns next to past m event told same own may are facts said tie there =
      let got = own_goes past told m.keys m.came m.state event facts said may (own_reason listing_heard key past m.state event own) are tie in
      leads next to past m (Does event told) same (got.0, there got.1)

  does_due : (here next : Phase) (past : List Entry) (m : HostMachine) (event : HostEvent) (told : List Entry) → May here m (Does event told) next → KnowsJudged here past m
      → Facts past m.state → AreSaid listing_heard m.state.commands past → KnowsDue key here past m → Goes next past m (Does event told)
  does_due (Ticking (first ∷ left)) next past m event told may judged facts said known =
      owns next (Ticking left) past m event told may.0.1 (subst IsOwn (sym may.0.0) judged.0.0) may.1.0 may.2 facts said known (λ tie. tie)
  does_due (Behind (first ∷ left)) next past m event told may judged facts said known =
      leads next (Behind left) past m (Does event told) may.0.1
      (behind_goes left past told m.keys m.came m.state event facts said may.1.0 may.2 (subst (λ (e : HostEvent). DueBehind key (e ∷ left) past m.keys m.came m.state) (sym may.0.0) known))
  does_due Sleeping next past m event told may judged facts said known =
      let (node, wants, is, to) = may.0 in
      owns next Sleeping past m event told to (subst IsOwn (sym is) (no_more_is IsOwn sleepers_own m.state node)) may.1.0 may.2 facts said known (λ tie. tie)
  does_due Submitting next past m event told may judged facts said known =
      owns next Submitting past m event told may.0.1 (next_is IsOwn submitted_own m.state event may.0.0) may.1.0 may.2 facts said known (λ tie. tie)
  does_due (Ticking []) next past m event told may judged facts said known = absurd may.0
  does_due (Behind []) next past m event told may judged facts said known = absurd may.0
  does_due Resting next past m event told may judged facts said known = absurd may.0
  does_due (Asked line) next past m event told may judged facts said known = absurd may.0
  does_due Risen next past m event told may judged facts said known = absurd may.0
  does_due Open next past m event told may judged facts said known = absurd may.0

  -- ---- the walk

  step_due : (here next : Phase) (past : List Entry) (m : HostMachine) (one : Step) → May here m one next → KnowsOrders here past m → KnowsDue key here past m → Goes next past m one
  step_due here next past m (Tells e) may ground known =
      stays here next past m (Tells e) may.0 may.3 (
        none_stand listing_heard key past (e ∷ []) (others_not e may.1, tt),
        tie_leaves past (e ∷ []) m.keys m.came m.state (others_fresh e may.1) (others_leave e may.1, tt) (to_tie here past m may.0 known),
      )
  step_due here next past m (Comes unit) may ground known =
      let told : List Entry = entry.Written Chip (unit_text unit) ∷ [] in
      let tie = to_tie here past m may.0 known in
      let later = tie_later past told m.keys m.came m.state refl (come_more past (unit_text unit)) tie in
      stays here next past m (Comes unit) may.0 may.2 (
        none_stand listing_heard key past told (tt, tt),
        record { same = later.same; have = have_one past m.came unit tie.have; reasoned = later.reasoned },
      )
  step_due here next past m (Misses text marks) may ground known =
      let told : List Entry = entry.Written Chip text ∷ marks in
      stays here next past m (Misses text marks) may.0 may.3 (
        none_stand listing_heard key past told (tt, missed_not marks may.1),
        tie_later past told m.keys m.came m.state refl (missed_more past text marks may.1) (to_tie here past m may.0 known),
      )
  step_due here next past m (Says words line) (here_is, left, read, next_is) ground known =
      leads next (Asked line) past m (Says words line) next_is (
        (tt, tt),
        record { before = past; words = words; are = refl; read = read; knew = ground.0.1; tie = as_known here Resting past m here_is known },
      )
  step_due here next past m (Says_nothing words) (here_is, left, read, next_is) ground known =
      leads next Resting past m (Says_nothing words) (next_is ∙ here_is) (
        (tt, tt),
        tie_leaves past (entry.Said words ∷ []) m.keys m.came m.state refl (tt, tt) (as_known here Resting past m here_is known),
      )
  step_due here next past m (Asks event) (line, here_is, asked, may, numbered, next_is) ground known =
      leads next Open past m (Asks event) next_is (
        none_stand listing_heard key past (answers m.state event) (answers_not m.state event),
        asks_due line past m.keys m.came m.state event asked may.0 ground.0.0.0.0.facts (as_known here (Asked line) past m here_is known),
      )
  step_due here next past m (Refuses refusal) (line, here_is, because, awaits, next_is) ground known =
      leads next Open past m (Refuses refusal) next_is ((tt, tt), after_words line past (entry.Refused refusal ∷ []) m.keys m.came m.state (tt, tt) (as_known here (Asked line) past m here_is known))
  step_due here next past m (Shows node) (here_is, awaits, next_is) ground known =
      leads next Open past m (Shows node) next_is ((tt, tt), after_words (lines.Store node) past _ m.keys m.came m.state (tt, tt) (as_known here (Asked (lines.Store node)) past m here_is known))
  step_due here next past m (Restarts state) (here_is, opens, next_is) ground known =
      let due = as_known here (Asked lines.Restart) past m here_is known in
      leads next Open past m (Restarts state) next_is (
        tt,
        record {
          same = due.tie.same;
          have = tt;
          reasoned = opens_reasoned (IsHeardOf key (past ++ [])) (keys_of key) m.records state ground.0.0.0.0.told (subst (λ (k : Keys). OpensFrom k m.records state) due.tie.same opens);
        },
      )
  step_due here next past m (Begins_tick left) (here_is, left_is, next_is) ground known =
      leads next Risen past m (Begins_tick left) next_is (tt, tie_leaves past [] m.keys m.came m.state refl tt (as_known here Resting past m here_is known))
  step_due here next past m Numbers (awaits, next_is) ground known =
      leads next here past m Numbers next_is ((tt, tt), numbered here past m awaits ground.0.0.1 known)
  step_due here next past m (Judges item rest behind told) (here_is, now, next_is) ground known =
      leads next (Behind behind) past m (Judges item rest behind told) next_is
      (judges_due past m item rest behind told now ground.0.0.0.0.facts ground.1 (as_known here Open past m here_is known))
  step_due here next past m (Does event told) may ground known = does_due here next past m event told may ground.0.0.1 ground.0.0.0.0.facts ground.1 known

  turn_due : (here next : Phase) (past : List Entry) (m : HostMachine) → Turns here m next → KnowsDue key here past m → KnowsDue key next past m
  turn_due here next past m turns known = by here turns known
    where
      to : (phase : Phase) → next ≡ phase → KnowsDue key phase past m → KnowsDue key next past m
      to phase is knows = subst (λ (p : Phase). KnowsDue key p past m) (sym is) knows

      by : (here : Phase) → Turns here m next → KnowsDue key here past m → KnowsDue key next past m
      by Resting is knows = to Open is knows
      by (Asked line) (inl (nothing, is)) knows = to Open is (words_due line past m.keys m.came m.state knows)
      by (Asked line) (inr (ticks, line_is, is)) knows = to Resting is (words_due line past m.keys m.came m.state knows)
      by Risen is knows = to (Ticking _) is knows
      by (Ticking []) is knows = to Open is knows
      by (Ticking (event ∷ left)) is knows = absurd is
      by Open is knows = to Sleeping is knows
      by (Behind []) is knows = to Open is (behind_due past m.keys m.came m.state knows)
      by (Behind (event ∷ left)) is knows = absurd is
      by Sleeping is knows = to Submitting is.1 knows
      by Submitting is knows = to Resting is.1 knows

  pub due_walk : WalkOver KnowsOrders (Allows may_wake) (MayAsk key) (KnowsDue key)
  due_walk = record {
    step = λ here next past m one may ground stand known. step_due here next past m one may ground known;
    turn = λ here next past m turns ground known. turn_due here next past m turns known;
  }
