-- The request under way ends without a frame in the host's own part of a tick: the course goes on with it.
use Rattle.chip_functions.specs.Field.{IsNode}
use Rattle.host_heard.specs.declared.told.Told.{Told}
use Rattle.host_model.specs.After.{after}
use Rattle.host_model.specs.Ends.{PartEnd, asleep_entry, done_of, end_entries, end_entries_if, part_entries}
use Rattle.host_model.specs.Events.{HostEvent, Requests_do}
use Rattle.host_model.specs.State.{HostState, node_of}
use Rattle.host_node.specs.Events.NodeEvent.{Ends_attempt}
use Rattle.host_node.specs.State.{NodeState}
use Rattle.host_node.specs.Steps.{after_no_more, after_no_more_end, attempt_end, falls_asleep}
use Rattle.host_node.specs.declared.attempt.Moment.TheVariants.{BeforeItsTick}
use Rattle.host_node.specs.declared.no_more.NoMore.TheVariants.{Unasked}
use Rattle.host_requests.specs.Events.{RequestsEvent, after as requests_after, end_at}
use Rattle.host_requests.specs.State.{RequestsState}
use Rattle.host_requests.specs.declared.end.End.{End}
use Rattle.host_requests.specs.declared.end.How.{How}
use Rattle.host_requests.specs.declared.end.How.TheVariants.{LinkFailed, Silent}
use Rattle.host_requests.specs.declared.task.Purpose.{Purpose}
use Rattle.host_requests.specs.declared.task.Purpose.TheVariants.{Abort, Attempt, Housekeeping}
use Rattle.host_requests.specs.declared.task.Task.TheVariants.{NoMore, Plain, Second}
use Rattle.host_requests.specs.declared.under_way.Progress.{Progress}
use Rattle.host_requests.specs.declared.under_way.UnderWay.{UnderWay}
use Rattle.law_time.specs.Ends.{giving_up, silence}
use Rattle.law_time.specs.Heeds.{Heeds}
use Rattle.law_time.specs.Moments.{KeepsAfter, clock}
use Rattle.law_time.specs.Requests.{asked}
use Rattle.law_transcript.specs.Lists.{EachAfter}
use Rattle.law_transcript.specs.Units.{Carried}
use Rattle.proof_hearing.proofs.HostEnds.{ending_of}
use Rattle.proof_hearing.proofs.LateEnds.{any_by, silent_ungiven}
use Rattle.proof_hearing.proofs.Ticking.{given_ticks, silent_ticks}
use Rattle.proof_hearing.specs.proof_choice.proof_following.Ended.{EndingOf, IsLate}
use Rattle.proof_hearing.proofs.Doings.{Doing, did, does_at, end_does, node_after, purpose_does}
use Rattle.proof_hearing.proofs.Requesting.{requests_are}
use Rattle.proof_hearing.specs.proof_choice.proof_giving.Walking.{gives_up_well, request_clock}
use Rattle.proof_hearing.specs.Books.{BooksSo}
use Rattle.proof_hearing.specs.Hearing.{choosing}
use Rattle.proof_hearing.specs.proof_queue.proof_attempts.Asleep.{KnowsSleep}
use Rattle.proof_hearing.specs.proof_queue.proof_attempts.Carried.{CarriesWell}
use Rattle.proof_hearing.specs.proof_queue.proof_attempts.Since.{node_clock}
use Rattle.proof_hearing.specs.proof_queue.proof_attempts.proof_requests.Carrying.{CarriesSo}
use Rattle.proof_hearing.specs.proof_queue.proof_attempts.proof_requests.Ends.{EndsHere}
use Rattle.proof_hearing.specs.proof_queue.proof_attempts.proof_requests.Standing.{first_ending, standing_of}
use Rattle.proof_hearing.specs.proof_queue.proof_attempts.proof_requests.law_host.Course.{Course}
use Rattle.proof_hearing.specs.proof_queue.proof_attempts.proof_requests.law_host.Ends.{ends_without}
use Rattle.proof_hearing.specs.proof_queue.proof_attempts.proof_requests.law_host.Following.{is_note}
use Rattle.proof_hearing.specs.proof_queue.proof_attempts.proof_requests.law_host.Heard.{heeds_alone}
use Rattle.proof_hearing.specs.proof_queue.proof_attempts.proof_requests.law_host.Ticks.{nodes_in_order, ticks}
use Rattle.proof_hearing.specs.proof_queue.proof_attempts.proof_requests.proof_alone.Phases.{Ticking}
use Rattle.proof_hearing.specs.proof_queue.proof_attempts.proof_requests.proof_alone.State.{HostMachine}
use Rattle.proof_hearing.specs.proof_queue.proof_attempts.proof_work.Doing.{IsTold}
use Rattle.proof_host.specs.Facts.{Facts}
use Rattle.proof_noting.proofs.EndLeaves.{one_other, request_leaves, slept_not}
use Rattle.proof_noting.proofs.EndNotes.{attempt_keep, request_notes, task_keep}
use Rattle.proof_noting.proofs.Lately.{KeepsLate, late_on}
use Rattle.proof_noting.proofs.TickChosen.{ticking, without_chosen}
use Rattle.proof_noting.proofs.TickEnded.{EndedSo, LateBy, LateEnd, bad_part, end_quiet, end_so, ended}
use Rattle.proof_noting.proofs.TickGround.{TickGround, tick_facts, tick_nodes, tick_numbered, tick_time}
use Rattle.proof_noting.proofs.TickNoted.{ends_quietly, first_some, nothing_told}
use Rattle.proof_noting.specs.Following.{IsQuiet, Lags, Level, Outset, timed}
use Rattle.proof_hearing.specs.proof_choice.proof_ends.Ascending.{Ascends}
use Rattle.proof_noting.specs.Ticking.{IsIdleAt, NoneNoted, TickSo}
use Rattle.proof_noting.specs.Ticking.TickSo.{Nothing, Something}
use Rattle.serial_link.specs.State.{Side}
use Rattle.std.proofs.Common.{Bool, List, None, Option, Some, [], ap, arith, false, if◌then◌else◌, inl, inr, length, refl, subst, sym, true, ℕ, ◌++◌, ◌<◌, ◌==◌, ◌∙◌, ◌∷◌, ◌≡◌, ◌≤◌, ◌⊎◌}
use Rattle.std.proofs.lemmas.Bool.{eq-eqb}
use Rattle.std.specs.List.{AllByRecursion, list_any}
use Rattle.std.specs.Prelude.{is_none, nat_le}
use Rattle.zw_text.specs.declared.entry.Entry.{Entry}
use Rattle.zw_text.specs.declared.entry.Entry.TheVariants as entry

-- the host after the line's tick, and with an event of its requests
module _ (key : List ℕ) (taken : List Entry → Carried → List Told) (from : Outset) (first : HostEvent) (left : List HostEvent) (past told : List Entry) (m : HostMachine) (s : TickGround taken first left past told m)
    (known : NoneNoted key taken from past m) (side : Side) (event : RequestsEvent) (is_told : IsTold event) (p : Purpose) (progress : Progress)
    (under : m.state.requests.under_way ≡ Some (record { purpose = p; progress = progress })) (how : How) (late : IsLate how)
    (ends : end_at m.state.requests event ≡ Some (record { purpose = p; how = how })) (over : (requests_after m.state.requests event).under_way ≡ None) (carries : CarriesSo p)
    (unended_so : first_ending (standing_of (asked past)) ≡ []) where
  abbrev heeds : Heeds
  heeds = heeds_alone taken

  abbrev h : HostState
  h = m.state

  abbrev u : UnderWay
  u = record { purpose = p; progress = progress }

  abbrev lined : HostState
  lined = record m.state { side = side }

  abbrev rs : RequestsState
  rs = requests_after m.state.requests event

  abbrev before : HostState
  before = record m.state { side = side; requests = requests_after m.state.requests event }

  abbrev g : HostState
  g = after (record m.state { side = side }) (Requests_do event BeforeItsTick)

  facts : Facts past h
  facts = tick_facts taken first left past told m s

  within : (n : ℕ) → n ≤ 232 → n < length h.nodes
  within n to = let places = facts.host.nodes.places in omega (arith, places, to)

  did_is : did lined (Requests_do event BeforeItsTick) ≡ purpose_does p how BeforeItsTick
  did_is = ap (λ (o : Option End). end_does o BeforeItsTick) ends

  node_is : (n : ℕ) → n ≤ 232 → node_of g n ≡ does_at n (node_of h n) (purpose_does p how BeforeItsTick)
  node_is n to = node_after lined (Requests_do event BeforeItsTick) n (within n to) ∙ ap (λ (l : List Doing). does_at n (node_of h n) l) did_is

  none_then : g.requests.under_way ≡ None
  none_then = ap (λ (q : RequestsState). q.under_way) (requests_are lined event BeforeItsTick) ∙ over

  sleep : KnowsSleep (Ticking (first ∷ left)) past m
  sleep = s.ground.grounds.sleep

  of : EndingOf heeds past before h.requests.last_id p
  of = ending_of s.shows heeds (Ticking (first ∷ left)) past m sleep tt s.ground.errands u under carries before refl

  end : LateEnd key taken past h side rs g p how
  end = record {
    progress = progress;
    under = under;
    late = late;
    kept = let kept = request_leaves lined event BeforeItsTick is_told in record { nonces = kept.nonces; queue = kept.queue; orders = kept.orders };
    node_is = node_is;
    others = λ n j does other. one_other lined (Requests_do event BeforeItsTick) n (Ends_attempt BeforeItsTick) (did_is ∙ does) j other;
    facts = facts;
    nodes = tick_nodes taken first left past told m s;
    shows = s.ground.grounds.shows;
    asks = s.asks;
    time = node_clock (Ticking (first ∷ left)) m.clock;
    at = request_clock (Ticking (first ∷ left)) m.clock;
    counts = s.ground.counts;
    carries = carries;
    of = of;
  }

  -- ---- nothing is noted of it

  no_more : (n : ℕ) → p ≡ Housekeeping (NoMore n) → falls_asleep (node_of g n) ≡ false
  no_more n is =
      let node : IsNode n = subst CarriesWell is of.well in
      ap (λ (t : NodeState). falls_asleep t) (node_is n node.1 ∙ ap (λ (q : Purpose). does_at n (node_of h n) (purpose_does q how BeforeItsTick)) is)
      ∙ ap (λ (b : Bool). falls_asleep (if b then after_no_more_end (node_of h n) else node_of h n)) (eq-eqb n n refl) ∙ slept_not (after_no_more (node_of h n) Unasked)

  quiet_then : end_entries before (record { purpose = p; how = how }) ≡ [] → IsQuiet g p
  quiet_then none = by p refl none
    where
      by : (q : Purpose) → p ≡ q → end_entries before (record { purpose = q; how = how }) ≡ [] → IsQuiet g q
      by (Housekeeping (NoMore n)) is none = record { errands = refl; sleeps = ap (λ (b : Bool). asleep_entry b n) (no_more n is); interviews = refl }
      by (Housekeeping (Plain n payload)) is none = absurd (let bad : entry.Done n (done_of how) ∷ [] ≡ [] = none in cc)
      by (Housekeeping (Second n)) is none = absurd (let bad : entry.InterviewFailed n ∷ [] ≡ [] = none in cc)
      by (Housekeeping task) is none = record { errands = refl; sleeps = refl; interviews = refl }
      by (Attempt n more payload) is none = record { errands = refl; sleeps = refl; interviews = refl }
      by Abort is none = record { errands = refl; sleeps = refl; interviews = refl }

  module _ (r : Option (List (List ℕ))) (told_is : told ≡ end_entries before (record { purpose = p; how = how })) (here : (told ≡ [] → ⊥) → EndsHere past h.requests.last_id p how) (above : Ascends 0 left)
      (idle : IsIdleAt left (record m { state = g; records = r })) where
    abbrev k : HostMachine
    k = record m { state = g; records = r }

    abbrev c : Course
    c = known.course

    silently : told ≡ [] → TickSo key taken from (past ++ told) k left
    silently none =
        Nothing above
        (nothing_told (λ (l : List Entry). NoneNoted key taken from l k) past told none
        (ends_quietly key taken from past m g r u under none_then h.requests.last_id of.request carries of.well unended_so (quiet_then (sym told_is ∙ none))
        (λ d books. end_quiet key taken past h side rs g (timed m past) (timed m past) p how end (λ n is late. late) d books) known))

    -- ---- something is

    module _ (some : told ≡ [] → ⊥) where
      time : clock past ≡ m.clock
      time = tick_time taken first left past told m s some

      awaits : m.awaits ≡ false
      awaits = tick_numbered taken first left past told m s some

      notes : AllByRecursion (λ e. is_note e ≡ true) told
      notes = subst (AllByRecursion (λ e. is_note e ≡ true)) (ap (end_entries_if before) ends ∙ sym told_is) (request_notes lined event)

      running : Level key heeds past m c ⊎ Lags key heeds past m c → Level key heeds past m c
      running (inl level) = level
      running (inr lags) = absurd (let bad : None ≡ Some u = sym lags.none ∙ under in cc)

      level : Level key heeds past m c
      level = running known.follows.so

      runs : c.over ≡ false
      runs = level.over ∙ ap (λ (o : Option UnderWay). is_none o) under

      books : BooksSo key heeds past h c
      books = subst (λ (b : Bool). BooksSo key heeds (if b then past ++ entry.Time m.clock ∷ [] else past) h c) awaits level.books

      late_by : LateBy key taken past h side rs g past (past ++ told) p
      late_by = by p told_is
        where
          by : (p : Purpose) → told ≡ end_entries before (record { purpose = p; how = how }) → LateBy key taken past h side rs g past (past ++ told) p
          by (Attempt n more payload) are = λ j is other was.
              late_on taken j past told
              (subst (λ (l : List Entry). EachAfter (KeepsLate taken j) past l) (sym (are ∙ ap (λ (e : PartEnd). part_entries before n e) (bad_part key taken more how late)))
              (attempt_keep taken j past h facts.host (s.ground.grounds.shows j).last n other (attempt_end (node_of h n)))) was
          by (Housekeeping t) are = λ j is was.
              late_on taken j past told
              (subst (λ (l : List Entry). EachAfter (KeepsLate taken j) past l) (sym are)
              (task_keep taken j past before t how)) was
          by Abort are = λ j is was. late_on taken j past told (subst (λ (l : List Entry). EachAfter (KeepsLate taken j) past l) (sym are) tt) was

      so : EndedSo key taken past h side rs g (past ++ told) p how m.clock c
      so =
          end_so key taken past h side rs g past (past ++ told) p how end late_by m.clock time c known.follows.none_due (λ none. some (told_is ∙ none))
          (subst (λ (l : List Entry). KeepsAfter [] (gives_up_well heeds) (past ++ l)) told_is s.law) books

      goes_by : (how : How) → IsLate how → EndsHere past h.requests.last_id p how → (keepings : List Bool) (texts : List (Option (List ℕ)))
          → ticks heeds past m.clock (choosing keepings texts c)
          ≡ ticking heeds past m.clock (nodes_in_order past) (ends_without heeds past m.clock (done_of how) (choosing keepings texts (record c { ticked = m.clock })))
      goes_by LinkFailed late e keepings texts = given_ticks heeds past m.clock (choosing keepings texts c) runs (any_by m.clock (giving_up (asked past)) (at_now (giving_up (asked past)) e.so))
        where
          at_now : (l : List ℕ) → list_any (λ tick. tick == clock past) l ≡ true → list_any (λ tick. tick == m.clock) l ≡ true
          at_now l is = subst (λ (n : ℕ). list_any (λ tick. tick == n) l ≡ true) time is
      goes_by Silent late e keepings texts =
          silent_ticks heeds past m.clock (choosing keepings texts c) runs
          (ap (λ (l : List ℕ). list_any (λ tick. nat_le tick m.clock) l) (silent_ungiven past m.clock (at_now (silence (asked past)) e.so)))
          (any_by m.clock (silence (asked past)) (at_now (silence (asked past)) e.so))
        where
          at_now : (l : List ℕ) → list_any (λ tick. tick == clock past) l ≡ true → list_any (λ tick. tick == m.clock) l ≡ true
          at_now l is = subst (λ (n : ℕ). list_any (λ tick. tick == n) l ≡ true) time is
      goes_by how late e keepings texts = absurd late

      abbrev mid : Course
      mid = ended key taken past h side rs g how m.clock c

      loudly : TickSo key taken from (past ++ told) k left
      loudly =
          Something
          (first_some key taken from past told m c known.of known.follows known.early known.frames awaits time notes some g r left [] (nodes_in_order past) 0 mid refl tt above
          (record {
            goes = λ keepings texts.
                goes_by how late (here some) keepings texts
                ∙ ap (λ (d : Course). ticking heeds past m.clock (nodes_in_order past) d) (without_chosen keepings texts heeds past m.clock (done_of how) (record c { ticked = m.clock }));
            others = so.noted.rest;
          })
          (so.noted.due ∙ ap (λ (l : List Entry). l ++ end_entries before (record { purpose = p; how = how })) known.follows.none_due ∙ sym told_is)
          (inl (so.noted.over_is ∙ sym (ap (λ (o : Option UnderWay). is_none o) none_then))) idle so.books)

    pub end_goes : TickSo key taken from (past ++ told) k left
    end_goes = by told refl
      where
        by : (l : List Entry) → told ≡ l → TickSo key taken from (past ++ told) k left
        by [] is = silently is
        by (e ∷ more) is = loudly (λ none. let bad : e ∷ more ≡ [] = sym is ∙ none in cc)
