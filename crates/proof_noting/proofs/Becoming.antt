-- What the course comes to before an entry, and with a tick that passes, where nothing is to be noted: it is level, or a request lags that has ended with nothing to note; before an entry of the
-- host that is an abort alone.
use Rattle.std.proofs.Common.{◌≡◌, ◌⊎◌, ◌≤◌, ◌<◌, ℕ, ◌-◌, ◌&&◌, not, Bool, true, false, if◌then◌else◌, inl, inr, List, [], ◌∷◌, ◌++◌, Option, Some, None, refl, sym, ap, ap₂, ◌∙◌, subst, arith}
use Rattle.std.specs.Prelude.{is_none, nat_le, nat_lt}
use Rattle.std.specs.List.{AllByRecursion, flat_map, list_any}
use Rattle.std.proofs.lemmas.Bool.{and_right, both_ways, ltb-false, ltb-true}
use Rattle.zw_base.proofs.Each.{all-weaker}
use Rattle.chip_functions.specs.Field.{IsNode}
use Rattle.zw_text.specs.declared.entry.Entry.{Entry}
use Rattle.zw_text.specs.declared.entry.Entry.TheVariants as entry
use Rattle.host_heard.specs.declared.told.Told.{Told}
use Rattle.law_transcript.specs.Units.{Carried, sending_in}
use Rattle.law_time.specs.Ends.{giving_up, silence}
use Rattle.law_time.specs.Heeds.{Heeds}
use Rattle.law_time.specs.Interviews.{node_interviewed}
use Rattle.law_time.specs.Moments.{clock, now_at}
use Rattle.law_time.specs.Requests.{are_none, asked, request_last}
use Rattle.law_time.specs.Unanswered.{to_give_up}
use Rattle.law_time.specs.Waking.{is_awake_sleeper, nodes_told}
use Rattle.host_requests.specs.Frames.{request_of}
use Rattle.host_requests.specs.State.{RequestsState}
use Rattle.host_requests.specs.declared.task.Task.TheVariants.{NoMore}
use Rattle.host_requests.specs.declared.task.Purpose.{Purpose}
use Rattle.host_requests.specs.declared.task.Purpose.TheVariants.{Housekeeping, Attempt, Abort}
use Rattle.host_requests.specs.declared.under_way.Progress.TheVariants.{Submitted}
use Rattle.host_requests.specs.declared.under_way.UnderWay.{UnderWay}
use Rattle.host_model.specs.State.{HostState, node_of}
use Rattle.host_node.specs.Steps.{falls_asleep}
use Rattle.proof_hearing.specs.Books.{BooksSo}
use Rattle.proof_hearing.specs.Hearing.{choosing}
use Rattle.proof_hearing.specs.proof_queue.proof_attempts.Carried.{CarriesWell, nodes_of}
use Rattle.proof_hearing.specs.proof_queue.proof_attempts.Since.{IsElse}
use Rattle.proof_hearing.specs.proof_queue.proof_attempts.proof_requests.Asking.{TieAsked, doing_of}
use Rattle.proof_hearing.specs.proof_queue.proof_attempts.proof_requests.law_host.Course.{Course}
use Rattle.proof_hearing.specs.proof_queue.proof_attempts.proof_requests.law_host.Ends.{sleep_note, to_give_up_by_end}
use Rattle.proof_hearing.specs.proof_queue.proof_attempts.proof_requests.law_host.Following.{comes_to, has_heard, has_ticked, is_before_host, is_of_host, nothing_due, passes}
use Rattle.proof_hearing.specs.proof_queue.proof_attempts.proof_requests.law_host.Heard.{heeds_alone}
use Rattle.proof_hearing.specs.proof_queue.proof_attempts.proof_requests.law_host.HostLegal.{IsHeeded}
use Rattle.proof_hearing.specs.proof_queue.proof_attempts.proof_requests.law_host.Ticks.{denies, is_denied, nodes_in_order, ticks}
use Rattle.proof_hearing.specs.proof_queue.proof_attempts.proof_requests.proof_alone.State.{HostMachine}
use Rattle.proof_hearing.specs.proof_queue.proof_attempts.proof_requests.proof_alone.Steps.{AreFrames}
use Rattle.proof_hearing.specs.proof_queue.proof_attempts.proof_requests.proof_alone.Phases.{Phase, Resting, Open, Behind, Sleeping, Submitting}
use Rattle.proof_hearing.proofs.Slept.{frame_tells}
use Rattle.proof_hearing.specs.proof_choice.proof_following.Ended.{rest_of, sleep_entries}
use Rattle.proof_hearing.specs.proof_choice.proof_following.Quiet.{IsWithin, NoneGone, NothingOf, Waits, ended_silently}
use Rattle.proof_hearing.proofs.Coming.{calm_ticks}
use Rattle.proof_hearing.proofs.Entering.{comes_within}
use Rattle.proof_hearing.proofs.Silent.{silently_denied, silently_ticks}
use Rattle.proof_hearing.proofs.Ticking.{undenied}
use Rattle.proof_hearing.proofs.proof_ends_Noting.{asked_by, asleep_is, purpose_asks, purpose_interviews}
use Rattle.proof_hearing.proofs.proof_ends_Walking.{ShowsOpen, nodes_so}
use Rattle.proof_noting.specs.Behind.{Answered}
use Rattle.proof_noting.specs.Following.{Follows, IsLevel, Lags, Level, timed}
use Rattle.proof_noting.specs.Ground.{NotingGround}
use Rattle.proof_noting.specs.Ticking.{OverSo}
use Rattle.proof_noting.proofs.Choosing.{sealed_books, silently_is}
use Rattle.proof_noting.proofs.Quietly.{IsIdle, all_before, all_now_so, idle_asked, none_before, none_by_end, none_now_so, waits_before, waits_now}
use Rattle.proof_noting.proofs.Requested.{EndedLate, IsFrameNext, abort_purpose, abort_sends, ended_late, read_framed, undenied_under}
use Rattle.proof_noting.proofs.Requested.EndedLate.{As_abort, Given_up, In_silence}
use Rattle.proof_noting.proofs.Sendings.{sending_nodes}

-- ---- no node is told to sleep that counts as awake

pub sleeps_by : (past : List Entry) (h : HostState) → ((n : ℕ) → IsNode n → is_awake_sleeper n past ≡ falls_asleep (node_of h n)) → (p : Purpose) → CarriesWell p → sleep_entries h p ≡ []
    → flat_map (sleep_note past) (nodes_of p) ≡ []
sleeps_by past h sleeper (Housekeeping (NoMore n)) well quiet =
    ap (λ (b : Bool). (if b then entry.Asleep n ∷ [] else []) ++ []) (sleeper n well)
    ∙ ap (λ (l : List Entry). l ++ []) (sym (asleep_is (falls_asleep (node_of h n)) n) ∙ quiet)
sleeps_by past h sleeper (Housekeeping task) well quiet = refl
sleeps_by past h sleeper (Attempt n more payload) well quiet = refl
sleeps_by past h sleeper Abort well quiet = refl

-- what a request of this purpose tells
pub tells_of : (past : List Entry) (requests : RequestsState) (p : Purpose) (id : ℕ) → CarriesWell p → request_last past ≡ request_of p id ∷ [] → nodes_told (asked past).frame ≡ nodes_of p
tells_of past requests p id well request =
    let u : UnderWay = record { purpose = p; progress = Submitted } in frame_tells past (record requests { under_way = Some u; last_id = id }) u refl well request

-- an idle part is none in which a line was just said
pub idle_else : (taken : List Entry → Carried → List Told) (here : Phase) → IsIdle taken here → IsElse here
idle_else taken Resting idle = tt
idle_else taken Open idle = tt
idle_else taken (Behind left) idle = tt
idle_else taken Sleeping idle = tt
idle_else taken Submitting idle = tt
idle_else taken here idle = absurd idle

-- nothing was due
nothing_same : (c : Course) → c.due ≡ [] → c.fits ≡ true → nothing_due c ≡ c
nothing_same c none fits =
    ap₂ (λ (l : List Entry) (b : Bool). record c { fits = b && are_none l; due = [] }) none fits ∙ ap₂ (λ (l : List Entry) (b : Bool). record c { fits = b; due = l }) (sym none) (sym fits)

module _ (key : List ℕ) (taken : List Entry → Carried → List Told) where
  abbrev heeds : Heeds
  heeds = heeds_alone taken

  -- of a course this becomes, whatever is chosen later, by what `makes` does
  pub record Becomes (past : List Entry) (m : HostMachine) (makes : Course → Course) (c : Course) : Type 0 where
    pub next : Course
    pub goes : (keepings : List Bool) (texts : List (Option (List ℕ))) → makes (choosing keepings texts c) ≡ choosing keepings texts next
    pub fits : next.fits ≡ true
    pub none_due : next.due ≡ []
    pub low : next.ticked ≤ m.clock
    pub rest : rest_of next ≡ rest_of (record c { ticked = next.ticked })
    pub so : Level key heeds past m next ⊎ Lags key heeds past m next

  -- which is level, or an abort is over
  abbrev pub BecomesLevel : (past : List Entry) (m : HostMachine) (makes : Course → Course) (c : Course) → Type 0
  BecomesLevel past m makes c = (b : Becomes past m makes c) × (b.next.ticked ≡ m.clock) × IsLevel key heeds past m b.next

  pub becomes_heeded : (past : List Entry) (m : HostMachine) (makes : Course → Course) (c : Course) → AllByRecursion (IsHeeded taken) c.heeded → (b : Becomes past m makes c)
      → AllByRecursion (IsHeeded taken) b.next.heeded
  becomes_heeded past m makes c heeded b = subst (AllByRecursion (IsHeeded taken)) (sym (ap (λ (d : Course). d.heeded) b.rest)) heeded

  pub level_so : (past : List Entry) (m : HostMachine) (c : Course) → IsLevel key heeds past m c → Level key heeds past m c ⊎ Lags key heeds past m c
  level_so past m c (inl level) = inl level
  level_so past m c (inr (lags, abort)) = inr lags

  module _ (past : List Entry) (m : HostMachine) where
    -- a course in which the request is over, up to this tick
    abbrev pub over_at : ℕ → Course → Course
    over_at now c = record c { over = true; books = sealed_books (sending_in (asked past).frame) c.books; ticked = now }

    pub level_at : (c : Course) (now : ℕ) → Level key heeds past m c → Level key heeds past m (record c { ticked = now })
    level_at c now level = record { over = level.over; books = level.books }

    pub level_ended : (c : Course) (now : ℕ) → Lags key heeds past m c → Level key heeds past m (over_at now c)
    level_ended c now lags = record {
      over = sym (ap (λ (o : Option UnderWay). is_none o) lags.none);
      books = subst (λ (d : Course). BooksSo key heeds (timed m past) m.state d) (silently_is past c) lags.books;
    }

    abbrev pub lags_at : (c : Course) (now : ℕ) → (lags : Lags key heeds past m c) → (now < m.clock) ⊎ ((is_denied past ≡ true) ⊎ (lags.purpose ≡ Abort)) → Lags key heeds past m (record c { ticked = now })
    lags_at c now lags why = record {
      running = lags.running;
      none = lags.none;
      purpose = lags.purpose;
      id = lags.id;
      request = lags.request;
      carries = lags.carries;
      well = lags.well;
      unended = lags.unended;
      quiet = lags.quiet;
      books = subst (λ (d : Course). BooksSo key heeds (timed m past) m.state d) (sym (silently_is past (record c { ticked = now })))
          (subst (λ (d : Course). BooksSo key heeds (timed m past) m.state d) (silently_is past c) lags.books);
      why = why;
    }

    -- where it is level it runs as a request of the host does
    pub runs_so : (c : Course) → Level key heeds past m c → c.over ≡ false → (u : UnderWay) × (m.state.requests.under_way ≡ Some u)
    runs_so c level running = by m.state.requests.under_way refl
      where
        by : (o : Option UnderWay) → m.state.requests.under_way ≡ o → (u : UnderWay) × (m.state.requests.under_way ≡ Some u)
        by (Some u) is = (u, is)
        by None is = absurd (both_ways c.over running (level.over ∙ ap (λ (o : Option UnderWay). is_none o) is))

    -- ---- a tick

    -- its request has ended, or waits, or has ended by that time but for the course
    record Ticked (now : ℕ) (c : Course) : Type 0 where
      next : Course
      goes : (keepings : List Bool) (texts : List (Option (List ℕ))) → ticks heeds past now (choosing keepings texts c) ≡ choosing keepings texts next
      fits : next.fits ≡ true
      none_due : next.due ≡ []
      ticked : next.ticked ≡ now
      rest : rest_of next ≡ rest_of (record c { ticked = now })
      so : Level key heeds past m next ⊎ (Lags key heeds past m c × Waits past now × (next ≡ record c { ticked = now }))

    module _ (now : ℕ) (c : Course) (fits : c.fits ≡ true) (none : c.due ≡ []) (waits : (u : UnderWay) → m.state.requests.under_way ≡ Some u → Waits past now)
        (gone : NoneGone heeds now past (nodes_in_order past)) where
      calmly : (c.over ≡ false → Waits past now) → (keepings : List Bool) (texts : List (Option (List ℕ)))
          → ticks heeds past now (choosing keepings texts c) ≡ choosing keepings texts (record c { ticked = now })
      calmly each keepings texts = calm_ticks heeds past now (choosing keepings texts c) none (record { waits = each; none = gone })

      level_ticks : Level key heeds past m c → Ticked now c
      level_ticks level = record {
        next = record c { ticked = now };
        goes = calmly (λ running. let under = runs_so c level running in waits under.0 under.1);
        fits = fits;
        none_due = none;
        ticked = refl;
        rest = refl;
        so = inl (level_at c now level);
      }

      module _ (lags : Lags key heeds past m c) (nothing : NothingOf heeds past now) where
        ended_ticks : (list_any (λ tick. nat_le tick now) (giving_up (asked past)) ≡ true) ⊎ (list_any (λ tick. nat_le tick now) (silence (asked past)) ≡ true) → Ticked now c
        ended_ticks ends = record {
          next = over_at now c;
          goes = λ keepings texts. silently_ticks heeds past now (choosing keepings texts c) lags.running none nothing ends ∙ silently_is past (record (choosing keepings texts c) { ticked = now });
          fits = fits;
          none_due = none;
          ticked = refl;
          rest = refl;
          so = inl (level_ended c now lags);
        }

        still_lags : Waits past now → Ticked now c
        still_lags still = record {
          next = record c { ticked = now };
          goes = calmly (λ running. still);
          fits = fits;
          none_due = none;
          ticked = refl;
          rest = refl;
          so = inr (lags, still, refl);
        }

        lag_ticks : Ticked now c
        lag_ticks = by (list_any (λ tick. nat_le tick now) (giving_up (asked past))) (list_any (λ tick. nat_le tick now) (silence (asked past))) refl refl
          where
            by : (a b : Bool) → list_any (λ tick. nat_le tick now) (giving_up (asked past)) ≡ a → list_any (λ tick. nat_le tick now) (silence (asked past)) ≡ b → Ticked now c
            by true b given silent = ended_ticks (inl given)
            by false true given silent = ended_ticks (inr silent)
            by false false given silent = still_lags (record { given = given; silent = silent })

      so_ticks : (Lags key heeds past m c → NothingOf heeds past now) → Level key heeds past m c ⊎ Lags key heeds past m c → Ticked now c
      so_ticks nothing (inl level) = level_ticks level
      so_ticks nothing (inr lags) = lag_ticks lags (nothing lags)

  -- ---- on the ground

  module _ (shows : ShowsOpen) (here : Phase) (past : List Entry) (m : HostMachine) (ground : NotingGround taken here past m) where
    nothing_of : IsElse here → (c : Course) → Lags key heeds past m c → (now : ℕ) → ((n : ℕ) → 1 ≤ n → n ≤ 232 → to_give_up heeds past now n ≡ []) → NoneGone heeds now past (nodes_in_order past)
        → NothingOf heeds past now
    nothing_of other c lags now each gone = record {
      errands = ground.errands ∙ ap asked_by lags.request ∙ purpose_asks lags.purpose lags.id lags.carries ∙ lags.quiet.errands;
      sleeps = ap (flat_map (sleep_note past)) (tells_of past m.state.requests lags.purpose lags.id lags.well lags.request)
          ∙ sleeps_by past m.state (nodes_so here past m ground.grounds.sleep other shows).sleeper lags.purpose lags.well lags.quiet.sleeps;
      interviews = ap node_interviewed lags.request ∙ purpose_interviews lags.purpose lags.id ∙ lags.quiet.interviews;
      sent = all-weaker (λ (one : Carried). IsNode one.node) (λ (one : Carried). to_give_up_by_end heeds past now one.node ≡ [])
          (λ one is. none_by_end taken past now one.node (each one.node is.0 is.1)) (sending_in (asked past).frame) (sending_nodes (asked past).frame);
      nodes = gone;
    }

    -- while the number of the tick is to be entered, up to the tick before
    pub ticks_before : IsElse here → m.awaits ≡ true → 1 ≤ m.clock → (c : Course) → Follows key taken past m c
        → (b : Becomes past m (ticks heeds past (m.clock - 1)) c) × (b.next.ticked ≡ m.clock - 1)
    ticks_before other awaits some c follows =
        by (so_ticks past m (m.clock - 1) c follows.fits follows.none_due (waits_before taken here past m ground awaits) gone
        (λ lags. nothing_of other c lags (m.clock - 1) (none_before taken here past m ground awaits) gone) follows.so)
      where
        gone : NoneGone heeds (m.clock - 1) past (nodes_in_order past)
        gone = all_before taken here past m ground awaits

        early : m.clock - 1 < m.clock
        early = omega (arith, some)

        most : m.clock - 1 ≤ m.clock
        most = omega arith

        by : Ticked past m (m.clock - 1) c → (b : Becomes past m (ticks heeds past (m.clock - 1)) c) × (b.next.ticked ≡ m.clock - 1)
        by t = (
          record {
            next = t.next;
            goes = t.goes;
            fits = t.fits;
            none_due = t.none_due;
            low = subst (λ (n : ℕ). n ≤ m.clock) (sym t.ticked) most;
            rest = t.rest ∙ ap (λ (n : ℕ). rest_of (record c { ticked = n })) (sym t.ticked);
            so = kind t.so;
          },
          t.ticked,
        )
          where
            kind : Level key heeds past m t.next ⊎ (Lags key heeds past m c × Waits past (m.clock - 1) × (t.next ≡ record c { ticked = m.clock - 1 })) → Level key heeds past m t.next ⊎ Lags key heeds past m t.next
            kind (inl level) = inl level
            kind (inr (lags, still, is)) = inr (subst (λ (d : Course). Lags key heeds past m d) (sym is) (lags_at past m c (m.clock - 1) lags (inl early)))

    module _ (idle : IsIdle taken here) where
      tie : TieAsked past m.clock m.clock m.came (doing_of m.state)
      tie = idle_asked taken here past m idle ground

      -- one that lags has ended by now
      lags_end : (c : Course) → (lags : Lags key heeds past m c) → EndedLate past m.clock
      lags_end c lags =
          ended_late past m.clock m.came (doing_of m.state) (read_framed (asked past).frame (request_of lags.purpose lags.id) lags.request) tie lags.none lags.unended

      not_waits : (c : Course) → (lags : Lags key heeds past m c) → Waits past m.clock → EndedLate past m.clock → lags.purpose ≡ Abort
      not_waits c lags still (Given_up is) = absurd (both_ways (list_any (λ tick. nat_le tick m.clock) (giving_up (asked past))) still.given is)
      not_waits c lags still (In_silence is) = absurd (both_ways (list_any (λ tick. nat_le tick m.clock) (silence (asked past))) still.silent is)
      not_waits c lags still (As_abort is) = abort_purpose past lags.purpose lags.id lags.request is

      nothing_now : (c : Course) → Lags key heeds past m c → NothingOf heeds past m.clock
      nothing_now c lags =
          nothing_of (idle_else taken here idle) c lags m.clock (none_now_so taken here past m idle ground (inr lags.none)) (all_now_so taken here past m idle ground (inr lags.none))

      -- up to now
      pub ticks_now : AreFrames m.came → (c : Course) → Follows key taken past m c → BecomesLevel past m (ticks heeds past m.clock) c
      ticks_now frames c follows =
          by (so_ticks past m m.clock c follows.fits follows.none_due (waits_now taken here past m idle ground frames) (all_now_so taken here past m idle ground (inl frames)) (nothing_now c) follows.so)
        where
          by : Ticked past m m.clock c → BecomesLevel past m (ticks heeds past m.clock) c
          by t = (
            record {
              next = t.next;
              goes = t.goes;
              fits = t.fits;
              none_due = t.none_due;
              low = subst (λ (n : ℕ). n ≤ m.clock) (sym t.ticked) (omega arith);
              rest = t.rest ∙ ap (λ (n : ℕ). rest_of (record c { ticked = n })) (sym t.ticked);
              so = level_so past m t.next (kind t.so);
            },
            t.ticked,
            kind t.so,
          )
            where
              kind : Level key heeds past m t.next ⊎ (Lags key heeds past m c × Waits past m.clock × (t.next ≡ record c { ticked = m.clock })) → IsLevel key heeds past m t.next
              kind (inl level) = inl level
              kind (inr (lags, still, is)) =
                  let abort = not_waits c lags still (lags_end c lags) in
                  let now : IsLevel key heeds past m (record c { ticked = m.clock }) = inr (lags_at past m c m.clock lags (inr (inr abort)), abort) in
                  subst (λ (d : Course). IsLevel key heeds past m d) (sym is) now

      -- ---- before an entry

      module _ (time : clock past ≡ m.clock) (e : Entry) where
        -- the host's own part of the tick is done before it, but for what may stand before that
        ticked_comes : (c : Course) → Answered m c → Follows key taken past m c
            → (b : Becomes past m (has_ticked heeds past e) c) × (is_before_host past e ≡ false → b.next.ticked ≡ m.clock) × (c.ticked ≡ m.clock → b.next.ticked ≡ m.clock)
        ticked_comes c answered follows = by (nat_lt c.ticked (clock past)) (is_before_host past e) refl refl
          where
            stays : (nat_lt c.ticked (clock past) && not (is_before_host past e)) ≡ false → Becomes past m (has_ticked heeds past e) c
            stays not_so = record {
              next = c;
              goes = λ keepings texts. ap (λ (b : Bool). if b then ticks heeds past (clock past) (choosing keepings texts c) else choosing keepings texts c) not_so;
              fits = follows.fits;
              none_due = follows.none_due;
              low = follows.low;
              rest = refl;
              so = follows.so;
            }

            goes_on : nat_lt c.ticked (clock past) ≡ true → is_before_host past e ≡ false → (l : BecomesLevel past m (ticks heeds past m.clock) c) → Becomes past m (has_ticked heeds past e) c
            goes_on late before l = record {
              next = l.0.next;
              goes = λ keepings texts.
                  ap₂ (λ (a b : Bool). if a && not b then ticks heeds past (clock past) (choosing keepings texts c) else choosing keepings texts c) late before
                  ∙ ap (λ (n : ℕ). ticks heeds past n (choosing keepings texts c)) time ∙ l.0.goes keepings texts;
              fits = l.0.fits;
              none_due = l.0.none_due;
              low = l.0.low;
              rest = l.0.rest;
              so = l.0.so;
            }

            are_frames : nat_lt c.ticked (clock past) ≡ true → Answered m c → AreFrames m.came
            are_frames late (inl frames) = frames
            are_frames late (inr (at, numbered)) = absurd (let less = ltb-true c.ticked (clock past) late in omega (arith, less, time, at))

            there : nat_lt c.ticked (clock past) ≡ false → c.ticked ≡ m.clock
            there late = let more = ltb-false c.ticked (clock past) late in let low = follows.low in omega (arith, more, low, time)

            by : (a b : Bool) → nat_lt c.ticked (clock past) ≡ a → is_before_host past e ≡ b
                → (b : Becomes past m (has_ticked heeds past e) c) × (is_before_host past e ≡ false → b.next.ticked ≡ m.clock) × (c.ticked ≡ m.clock → b.next.ticked ≡ m.clock)
            by true false late before =
                let l = ticks_now (are_frames late answered) c follows in (goes_on late before l, (λ not_before. l.1), (λ at. l.1))
            by true true late before =
                (stays (ap₂ (λ (a b : Bool). a && not b) late before), (λ not_before. absurd (both_ways (is_before_host past e) not_before before)), (λ at. at))
            by false b late before = (stays (ap (λ (a : Bool). a && not (is_before_host past e)) late), (λ not_before. there late), (λ at. at))

        -- the host has heard an answer before an entry of its own
        heard_comes : (c : Course) → is_of_host e ≡ true → c.ticked ≡ m.clock → IsFrameNext m.came → Follows key taken past m c → BecomesLevel past m (has_heard heeds past e) c
        heard_comes c of at next follows = by follows.so
          where
            head : (keepings : List Bool) (texts : List (Option (List ℕ))) → has_heard heeds past e (choosing keepings texts c) ≡ denies heeds past (choosing keepings texts c)
            head keepings texts =
                ap₂ (λ (l : List Entry) (b : Bool). if are_none l && b then denies heeds past (choosing keepings texts c) else choosing keepings texts c) follows.none_due of

            stays : IsLevel key heeds past m c → (c.over ≡ false → is_denied past ≡ false) → BecomesLevel past m (has_heard heeds past e) c
            stays level none = (
              record {
                next = c;
                goes = λ keepings texts. head keepings texts ∙ undenied heeds past m.clock (choosing keepings texts c) none;
                fits = follows.fits;
                none_due = follows.none_due;
                low = follows.low;
                rest = refl;
                so = level_so past m c level;
              },
              at,
              level,
            )

            ends : (lags : Lags key heeds past m c) → is_denied past ≡ true → BecomesLevel past m (has_heard heeds past e) c
            ends lags is = (
              record {
                next = over_at past m c.ticked c;
                goes = λ keepings texts.
                    head keepings texts
                    ∙ silently_denied heeds past (choosing keepings texts c) lags.running follows.none_due (subst (λ (n : ℕ). NothingOf heeds past n) (sym time) (nothing_now c lags)) is
                    ∙ silently_is past (choosing keepings texts c);
                fits = follows.fits;
                none_due = follows.none_due;
                low = follows.low;
                rest = refl;
                so = inl (level_ended past m c c.ticked lags);
              },
              at,
              inl (level_ended past m c c.ticked lags),
            )

            an_abort : (lags : Lags key heeds past m c) → is_denied past ≡ false → (c.ticked < m.clock) ⊎ ((is_denied past ≡ true) ⊎ (lags.purpose ≡ Abort)) → lags.purpose ≡ Abort
            an_abort lags none (inl early) = absurd (omega (arith, early, at))
            an_abort lags none (inr (inl is)) = absurd (both_ways (is_denied past) none is)
            an_abort lags none (inr (inr abort)) = abort

            lagging : (lags : Lags key heeds past m c) (b : Bool) → is_denied past ≡ b → BecomesLevel past m (has_heard heeds past e) c
            lagging lags true is = ends lags is
            lagging lags false is = stays (inr (lags, an_abort lags is lags.why)) (λ running. is)

            by : Level key heeds past m c ⊎ Lags key heeds past m c → BecomesLevel past m (has_heard heeds past e) c
            by (inl level) = stays (inl level) (λ running. let under = runs_so past m c level running in undenied_under past m.clock m.came (doing_of m.state) next tie under.0 under.1)
            by (inr lags) = lagging lags (is_denied past) refl

        module _ (within : IsWithin e) (c : Course) (answered : Answered m c) (follows : Follows key taken past m c) where
          first : (b : Becomes past m (has_ticked heeds past e) c) × (is_before_host past e ≡ false → b.next.ticked ≡ m.clock) × (c.ticked ≡ m.clock → b.next.ticked ≡ m.clock)
          first = ticked_comes c answered follows

          follows_first : Follows key taken past m first.0.next
          follows_first = record {
            fits = first.0.fits;
            none_due = first.0.none_due;
            low = first.0.low;
            heeded = becomes_heeded past m (has_ticked heeds past e) c follows.heeded first.0;
            so = first.0.so;
          }

          then_comes : (b : Becomes past m (has_heard heeds past e) first.0.next) → Becomes past m (comes_to heeds past e) c
          then_comes b = record {
            next = b.next;
            goes = λ keepings texts.
                comes_within heeds past e (choosing keepings texts c) within
                ∙ ap (λ (l : List Entry). if are_none l then has_heard heeds past e (has_ticked heeds past e (choosing keepings texts c)) else choosing keepings texts c) follows.none_due
                ∙ ap (λ (d : Course). has_heard heeds past e d) (first.0.goes keepings texts) ∙ b.goes keepings texts;
            fits = b.fits;
            none_due = b.none_due;
            low = b.low;
            rest = b.rest ∙ ap (λ (d : Course). record d { ticked = b.next.ticked }) first.0.rest;
            so = b.so;
          }

          -- an entry of the host
          pub comes_level : is_of_host e ≡ true → is_before_host past e ≡ false → IsFrameNext m.came → BecomesLevel past m (comes_to heeds past e) c
          unfolding then_comes heard_comes
          comes_level of before next = let h = heard_comes first.0.next of (first.1 before) next follows_first in (then_comes h.0, h.1, h.2)

          -- one of others
          unheard : is_of_host e ≡ false → Becomes past m (has_heard heeds past e) first.0.next
          unheard of = record {
            next = first.0.next;
            goes = λ keepings texts.
                ap (λ (b : Bool). if b then denies heeds past (choosing keepings texts first.0.next) else choosing keepings texts first.0.next) (and_right (are_none first.0.next.due) (is_of_host e) of);
            fits = first.0.fits;
            none_due = first.0.none_due;
            low = first.0.low;
            rest = refl;
            so = first.0.so;
          }

          pub comes_beside : is_of_host e ≡ false
              → (b : Becomes past m (comes_to heeds past e) c) × (is_before_host past e ≡ false → b.next.ticked ≡ m.clock) × (c.ticked ≡ m.clock → b.next.ticked ≡ m.clock)
          unfolding then_comes first unheard
          comes_beside of = (then_comes (unheard of), first.1, first.2)

  -- ---- before one that begins a line or a tick

  pub passes_so : (past : List Entry) (m : HostMachine) (e : Entry) (now : ℕ) (c : Course) → now_at past e ≡ now → c.fits ≡ true → c.due ≡ [] → (b : Becomes past m (ticks heeds past now) c)
      → (keepings : List Bool) (texts : List (Option (List ℕ))) → passes heeds past e (choosing keepings texts c) ≡ choosing keepings texts b.next
  passes_so past m e now c at fits none b keepings texts =
      ap (λ (d : Course). nothing_due (ticks heeds past (now_at past e) d)) (nothing_same (choosing keepings texts c) none fits)
      ∙ ap (λ (n : ℕ). nothing_due (ticks heeds past n (choosing keepings texts c))) at
      ∙ ap nothing_due (b.goes keepings texts)
      ∙ nothing_same (choosing keepings texts b.next) b.none_due b.fits

-- ---- what others need of it

module _ (key : List ℕ) (heeds : Heeds) (past : List Entry) (m : HostMachine) (c : Course) where
  pub abort_request : (lags : Lags key heeds past m c) → lags.purpose ≡ Abort → request_last past ≡ request_of Abort lags.id ∷ []
  abort_request lags abort = lags.request ∙ ap (λ (p : Purpose). request_of p lags.id ∷ []) abort

  -- of an abort no text waits
  pub abort_books : (lags : Lags key heeds past m c) → lags.purpose ≡ Abort → BooksSo key heeds (timed m past) m.state c
  abort_books lags abort =
      let same : ended_silently past c ≡ record c { over = true } =
      silently_is past c ∙ ap (λ (sent : List Carried). record c { over = true; books = sealed_books sent c.books }) (abort_sends past lags.id (abort_request lags abort)) in
      subst (λ (d : Course). BooksSo key heeds (timed m past) m.state d) same lags.books

  pub level_over : IsLevel key heeds past m c → OverSo past m c
  level_over (inl level) = inl level.over
  level_over (inr (lags, abort)) = inr (lags.running, lags.none, (lags.id, abort_request lags abort))

  pub level_books : IsLevel key heeds past m c → BooksSo key heeds (timed m past) m.state c
  level_books (inl level) = level.books
  level_books (inr (lags, abort)) = abort_books lags abort
