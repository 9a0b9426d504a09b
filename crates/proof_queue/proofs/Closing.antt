-- What waits by the transcript of a host alone after a look at the time: that of the host that has let its nodes sleep, also behind the number of a tick, and where its request hears something.
use Rattle.std.proofs.Common.{◌≡◌, ◌≤◌, ℕ, ◌+◌, ◌-◌, ◌==◌, ◌&&◌, ◌||◌, not, Bool, true, false, inl, inr, List, [], ◌∷◌, ◌++◌, nat_lt, refl, sym, ap, ap₂, ◌∙◌, subst, arith}
use Rattle.std.specs.List.{AllByRecursion, list_any}
use Rattle.std.specs.Prelude.{bytes_eq, is_some}
use Rattle.std.proofs.lemmas.Bool.{or_right}
use Rattle.zw_base.proofs.Each.{all-both}
use Rattle.zw_text.specs.declared.entry.Entry.{Entry}
use Rattle.zw_text.specs.declared.entry.Entry.TheVariants as entry
use Rattle.zw_text.specs.Transcript.{wakings}
use Rattle.host_heard.specs.declared.told.Told.{Told}
use Rattle.law_transcript.specs.Units.{Carried}
use Rattle.law_time.specs.Moments.{clock}
use Rattle.law_time.specs.Requests.{Asked as TheAsked, are_none, asked}
use Rattle.law_time.specs.Waking.{has_slept, is_told as tells_it}
use Rattle.law_time.specs.Wants.{no_more}
use Rattle.law_time.specs.Queue.{Queue, each_with, is_told, lacks_places, queue_before, with_no_more}
use Rattle.host_requests.specs.Events.{RequestsEvent}
use Rattle.host_requests.specs.declared.task.Task.{Task}
use Rattle.host_node.specs.declared.attempt.Moment.{Moment}
use Rattle.host_node.specs.State.{NodeState, has_waiting, is_false, is_idle, wants_no_more}
use Rattle.host_model.specs.State.{HostState, node_of}
use Rattle.host_model.specs.After.{after}
use Rattle.host_model.specs.Events.{Requests_do}
use Rattle.host_model.specs.Outs.{outs, request_entries}
use Rattle.proof_attempts.specs.proof_work.Rests.{NoneWants}
use Rattle.proof_attempts.specs.proof_work.Work.{told_at}
use Rattle.proof_attempts.specs.proof_requests.law_host.Heard.{heeds_alone}
use Rattle.proof_attempts.specs.proof_requests.Standing.{with_entries}
use Rattle.proof_attempts.specs.proof_requests.proof_alone.Steps.{AreTold}
use Rattle.proof_attempts.proofs.proof_waking_Parts.{IsNoted}
use Rattle.proof_known.proofs.Noting.{noted_told}
use Rattle.proof_queue.specs.Sleeping.{full_for, has_all, slept, wanting}
use Rattle.proof_queue.proofs.Books.{no_line}
use Rattle.proof_queue.proofs.Dropping.{event_drops}
use Rattle.proof_queue.proofs.Ending.{Kept, request_kept, told_same}
use Rattle.proof_queue.proofs.Looks.{dues_since, first_of, looks_twice}
use Rattle.proof_queue.proofs.Loose.{and_true, asked_stays}
use Rattle.proof_queue.proofs.Noted.{noted_stays, undropped_full}
use Rattle.proof_queue.proofs.Orders.{filter_same, is_among, none_pass}
use Rattle.proof_queue.proofs.Pumped.{MayLook, deaf_of, open_false, raw_wanting, since_wanting, sleepers, would_sleep}
use Rattle.proof_queue.proofs.Seeing.{View}
use Rattle.proof_queue.proofs.Sleeps.{Stands, drops_of, sleep_stands}
use Rattle.proof_queue.proofs.Ties.{Raw, Stand, Stays, Upto, all_moved, allowed, before_seen, one_more, owed_before, raw, same_drops, seen, time_upto, upto_stays}
use Rattle.proof_queue.proofs.Undropped.{Undropped, request_put, told_undropped}

pub none_wanting : (h : HostState) → NoneWants h.nodes → wanting h ≡ []
none_wanting h none = none_pass (λ (m : ℕ). wants_no_more (node_of h m)) 1 232 (λ m from to. none m from (omega (arith, to)))

module _ (taken : List Entry → Carried → List Told) where
  -- ---- a look at the time

  -- it has looked up to this time, and let its nodes sleep
  abbrev pub Lets : ℕ → List Entry → HostState → Type 0
  Lets t past h = Upto taken t past (slept h (wanting h)).requests.queue (full_for h (wanting h)) (drops_of (slept h (wanting h)))

  module _ (past : List Entry) (t : ℕ) (h : HostState) (awaits : Bool) (view : View past t h awaits) where
    lets : (q : Queue) → seen taken t past ≡ each_with with_no_more q (wanting h) → lacks_places (heeds_alone taken) past ≡ false → Stands q h.requests.queue [] (drops_of h) → Lets t past h
    lets q is lacks stands = record {
      stands = subst (λ (k : Queue). Stands k (slept h (wanting h)).requests.queue (full_for h (wanting h)) (drops_of (slept h (wanting h)))) (sym is)
          (sleep_stands q h [] (wanting h) view.work.host.nodes.places refl stands);
      answered = lacks;
    }

    pub lets_raw : awaits ≡ false → Raw taken past h.requests.queue [] (drops_of h) → Lets t past h
    lets_raw now ties =
        lets (raw taken past)
        (raw_wanting taken past t h (asked past) (raw taken past) view.may (view.now now) (view.told (raw taken past) ties.stands.wants_are ties.stands.dropped)) ties.answered ties.stands

    pub lets_since : (before : ℕ) → before ≤ t → t ≤ before + 1 → Upto taken before past h.requests.queue [] (drops_of h) → Lets t past h
    lets_since before up near ties =
        lets (seen taken before past)
        (since_wanting taken past t h (asked past) (raw taken past) before up near view.may (view.told (seen taken before past) ties.stands.wants_are ties.stands.dropped)) ties.answered ties.stands

    -- where none is to sleep
    pub close_raw : wanting h ≡ [] → awaits ≡ false → Raw taken past h.requests.queue [] (drops_of h) → Upto taken t past h.requests.queue [] (drops_of h)
    close_raw none now ties = subst (λ (nodes : List ℕ). Upto taken t past (slept h nodes).requests.queue (full_for h nodes) (drops_of (slept h nodes))) none (lets_raw now ties)

  -- ---- the number of a tick

  -- where nothing is owed after a look, nothing was after one before
  pub owed_then : (past : List Entry) (before t : ℕ) (tasks : List Task) (drops : ℕ → Bool) → before ≤ t → Upto taken t past tasks [] drops → (seen taken before past).owed ≡ []
  owed_then past before t tasks drops up ties =
      owed_before (seen taken before past) (dues_since (heeds_alone taken) past before t (asked past) (raw taken past))
      (sym (ap (λ (q : Queue). q.owed) (looks_twice (heeds_alone taken) past before t (asked past) (raw taken past) up)) ∙ ties.stands.owed_are)

  -- it has looked in the tick
  pub number_upto : (past : List Entry) (t : ℕ) (h : HostState) (tasks : List Task) (owes : List ℕ) (drops : ℕ → Bool) → 1 ≤ t → MayLook past t h → MayLook (past ++ entry.Time t ∷ []) t h
      → clock (past ++ entry.Time t ∷ []) ≡ t → (seen taken (t - 1) past).owed ≡ [] → Upto taken t past tasks owes drops
      → Stand taken past (entry.Time t ∷ []) × Upto taken t (past ++ entry.Time t ∷ []) tasks owes drops
  number_upto past t h tasks owes drops from looks later at owed ties =
      let before : ℕ = t - 1 in
      subst (λ (k : ℕ). MayLook past k h → MayLook (past ++ entry.Time k ∷ []) k h → clock (past ++ entry.Time k ∷ []) ≡ k → Upto taken k past tasks owes drops
      → Stand taken past (entry.Time k ∷ []) × Upto taken k (past ++ entry.Time k ∷ []) tasks owes drops)
      (let is : before + 1 ≡ t = omega (arith, from) in is)
      (λ sees sees_later is up. time_upto taken past before h sees sees_later is tasks owes drops owed up) looks later at ties

  -- it has not, but up to the tick before
  pub number_raw : (past : List Entry) (t before : ℕ) (tasks : List Task) (drops : ℕ → Bool) → t ≡ before + 1 → Upto taken before past tasks [] drops
      → Stand taken past (entry.Time t ∷ []) × Raw taken (past ++ entry.Time t ∷ []) tasks [] drops
  number_raw past t before tasks drops next ties =
      let first : queue_before (heeds_alone taken) past (entry.Time t) ≡ seen taken before past = before_seen taken past (entry.Time t) before refl (omega (arith, next)) in (
        (record { queues = inr (allowed taken past (entry.Time t) ties.answered (ap (λ (q : Queue). q.owed) first ∙ ties.stands.owed_are)); goes = refl }, tt),
        record {
          stands = subst (λ (q : Queue). Stands q tasks [] drops) (sym (one_more taken past (entry.Time t) refl ∙ first)) ties.stands;
          answered = no_line (heeds_alone taken) past (entry.Time t) refl;
        },
      )

  -- ---- the request under way hears something

  module _ (past told : List Entry) (t : ℕ) (h : HostState) (event : RequestsEvent) (moment : Moment) (view : View past t h false) (later : View (past ++ told) t (after h (Requests_do event moment)) false)
      (are : AreTold (outs h (Requests_do event moment)) told) (noted : AllByRecursion IsNoted told) where
    abbrev g : HostState
    g = after h (Requests_do event moment)

    stays : AllByRecursion Stays told
    stays = all-both IsNoted Undropped Stays (λ e is none. noted_stays e is (undropped_full e none)) told noted (told_undropped (outs h (Requests_do event moment)) told (request_put h event moment) are)

    -- one that would sleep and is told by the request under way is told
    none_told : (m : ℕ) → 1 ≤ m → m ≤ 232 → told_at m h.requests.under_way ≡ 1 → (would_sleep (node_of h m) && not (is_told (asked past) (raw taken past) m)) ≡ false
    none_told m from to once = by (would_sleep (node_of h m)) refl
      where
        s : NodeState
        s = node_of h m

        deaf : would_sleep s ≡ true → s.listens ≡ false
        deaf is =
            open_false s.listens
            (deaf_of s.awake (is_false s.listens) (is_some s.classes) (is_false (has_waiting s)) (is_idle s.series) (first_of (has_all s) (s.hold == 0) is))

        by : (b : Bool) → would_sleep s ≡ b → (b && not (is_told (asked past) (raw taken past) m)) ≡ false
        by false is = refl
        by true is =
            ap (λ (b : Bool). not b)
            (or_right (list_any (bytes_eq (no_more m)) (raw taken past).wants || is_among (raw taken past).dropped m) (tells_it m (asked past).frame && not (has_slept m (asked past).following))
            (view.asked_so m from to (deaf is) ∙ ap (λ (k : ℕ). nat_lt 0 k) once))

    same : sleepers g (asked (past ++ told)) (raw taken (past ++ told)) ≡ sleepers h (asked past) (raw taken past)
    same =
        filter_same (λ (m : ℕ). would_sleep (node_of g m) && not (is_told (asked (past ++ told)) (raw taken (past ++ told)) m)) (λ (m : ℕ). would_sleep (node_of h m) && not (is_told (asked past) (raw taken past) m))
        1 232 (λ m from to. each m from (omega (arith, to)))
      where
        on : asked (past ++ told) ≡ with_entries (asked past) told
        on = asked_stays past told stays

        told_is : told ≡ request_entries h event
        told_is = noted_told (request_entries h event) told are

        each : (m : ℕ) → 1 ≤ m → m ≤ 232
            → (would_sleep (node_of g m) && not (is_told (asked (past ++ told)) (raw taken (past ++ told)) m)) ≡ (would_sleep (node_of h m) && not (is_told (asked past) (raw taken past) m))
        each m from to = by (request_kept h event moment m (let places = view.work.host.nodes.places in omega (arith, places, to)))
          where
            by : Kept m (told_at m h.requests.under_way) (node_of h m) (node_of g m) (request_entries h event)
                → (would_sleep (node_of g m) && not (is_told (asked (past ++ told)) (raw taken (past ++ told)) m)) ≡ (would_sleep (node_of h m) && not (is_told (asked past) (raw taken past) m))
            by (inl (it, silent)) =
                let moved = all_moved taken past told stays in
                let none : wakings m told ≡ [] = ap (λ (l : List Entry). wakings m l) told_is ∙ silent in
                ap₂ (λ (w b : Bool). w && not b) (ap would_sleep it)
                (told_same (asked past) (asked (past ++ told)) (raw taken past) (raw taken (past ++ told)) told m (ap (λ (a : TheAsked). a.frame) on) (ap (λ (a : TheAsked). a.following) on) moved.wants
                (moved.dropped m ∙ ap (λ (l : List Bool). is_among (raw taken past).dropped m && are_none l) none ∙ sym (and_true (is_among (raw taken past).dropped m))) none)
            by (inr (awake, inl before)) =
                ap (λ (w : Bool). w && not (is_told (asked (past ++ told)) (raw taken (past ++ told)) m)) awake ∙ sym (ap (λ (w : Bool). w && not (is_told (asked past) (raw taken past) m)) before)
            by (inr (awake, inr once)) = ap (λ (w : Bool). w && not (is_told (asked (past ++ told)) (raw taken (past ++ told)) m)) awake ∙ sym (none_told m from to once)

    pub heard_upto : (tasks : List Task) → Upto taken t past tasks [] (drops_of h) → Stand taken past told × Upto taken t (past ++ told) tasks [] (drops_of g)
    heard_upto tasks ties =
        let got = upto_stays taken past told t h g tasks (drops_of h) stays view.may later.may (view.now refl) (later.now refl) same ties in (
          got.0,
          record {
            stands = same_drops (seen taken t (past ++ told)) tasks [] (λ n. drops_of h n && are_none (wakings n told)) (drops_of g)
                (λ n from to. sym (event_drops h (Requests_do event moment) told view.work tt are n from to)) got.1.stands;
            answered = got.1.answered;
          },
        )
