-- Each refusal is the one that the transcript before the line asks for.
use Rattle.std.proofs.Common.{◌≡◌, ℕ, zero, suc, ◌+◌, ◌-◌, ◌<◌, ◌≤◌, Bool, true, false, Option, Some, None, List, [], ◌∷◌, ◌++◌, length, ap, refl, sym, subst, ◌∙◌, inl, inr, arith}
use Rattle.std.specs.Prelude.{if◌then◌else◌, ◌==◌, slice_get, is_none, nat_le, map}
use Rattle.std.proofs.lemmas.Bool.Decides.{nat_tests}
use Rattle.supervision.specs.Session.{wire_id}
use Rattle.supervision.specs.Host.{begun_of, open_session, told_of}
use Rattle.supervision.specs.Device.{heard_of}
use Rattle.supervision.specs.declared.session.TheConstants.{SUCCESS}
use Rattle.supervision.specs.declared.host_node.Told.{Told as Answer}
use Rattle.supervision.specs.declared.host_node.Told.TheVariants.{Final, Working, Old as Unasked}
use Rattle.supervision.specs.declared.device_book.Heard.{Heard}
use Rattle.supervision.specs.declared.device_book.Heard.TheVariants.{New, Again as Repeated, Old as Strange}
use Rattle.supervision.proofs.EndsLemmas.{open_session-Some}
use Rattle.event_flow.specs.declared.line.EventLine.{EventLine}
use Rattle.event_flow.specs.declared.line.EventLine.TheVariants.{Event, Again, Deliver}
use Rattle.event_flow.specs.declared.entry.EventEntry.{EventEntry}
use Rattle.event_flow.specs.declared.entry.EventEntry.TheVariants.{Refused, Queued, Frame as FrameEntry, Taken, Known, Old, TableNode}
use Rattle.event_flow.specs.declared.entry.EventRefusal.{EventRefusal}
use Rattle.event_flow.specs.declared.entry.EventRefusal.TheVariants.{Full, Idle, Stale}
use Rattle.event_flow.specs.declared.frame.Content.{Content}
use Rattle.event_flow.specs.declared.frame.Content.TheVariants.{Event as EventContent, Receipt}
use Rattle.event_flow.specs.declared.frame.Frame.{Frame}
use Rattle.event_flow.specs.State.{NodeState, FlowState, node_of, known_count, unknown_count, may_begin, event_frame, later_of, frame_at}
use Rattle.event_flow.specs.Steps.{does, refuses, goes_on, with_begun, with_queued, with_known, queues, repeats, host_hears, device_hears, hears_by, delivers, delivered, entries, listed, frame_entries}
use Rattle.event_flow.specs.Flow.{Ran, NamesNode, Sent, begun_in, queued_in, known_in, sent_at, delivery_refusal, refusal_of, refusal_in}
use Rattle.event_flow.proofs.Facts.{NodeInv, option_cases, known-none, known-open, all_begun}
use Rattle.event_flow.proofs.Whole.{Facts, Told, sent_of, frame-there, length-count_up, told-begun}

-- frames are no refusals
refusal-entries : (enters : Option EventEntry) (before : ℕ) (sends : Option Frame) → refusal_in (listed enters ++ frame_entries before sends) ≡ refusal_in (listed enters)
refusal-entries None before None = refl
refusal-entries None before (Some frame) = refl
refusal-entries (Some (Refused refusal)) before sends = refl
refusal-entries (Some (Queued at number)) before sends = refl
refusal-entries (Some (FrameEntry frame sender receiver payload)) before sends = refl
refusal-entries (Some (Taken at kind level)) before sends = refl
refusal-entries (Some (Known at number)) before sends = refl
refusal-entries (Some (Old at id)) before sends = refl
refusal-entries (Some (TableNode at queued taken known)) before sends = refl

-- what is entered before a session begins says whether it is refused
goes_on-refusal : (node : ℕ) (m : NodeState) (enters : EventEntry) → refusal_in (listed (goes_on node m enters).effect.enters) ≡ refusal_in (enters ∷ [])
goes_on-refusal node m enters = by_may (may_begin m)
  where
    by_may : (b : Bool) → refusal_in (listed ((if b then does (with_begun m) (Some enters) (Some (event_frame node (with_begun m))) else does m (Some enters) None)).effect.enters) ≡ refusal_in (enters ∷ [])
    by_may true = refl
    by_may false = refl

-- how many events are not known is seen from the transcript
told-queued : (node : ℕ) (T : List Ran) (n : NodeState) → Told node T n → length (queued_in node T) ≡ length n.queued
told-queued node T n told = ap (λ xs. length xs) told.queued

told-known : (node : ℕ) (T : List Ran) (n : NodeState) → Told node T n → length (known_in node T) ≡ known_count n
told-known node T n told = ap (λ xs. length xs) told.known ∙ length-count_up (known_count n)

-- the test and the refusal of an event, over the node
abbrev full_by : Bool → Option EventRefusal
full_by b = if b then Some (Full 16) else None

queues-refusal : (node kind level : ℕ) (n : NodeState) → NodeInv n → refusal_in (listed (queues node n (record { kind = kind; level = level })).effect.enters) ≡ full_by (nat_le 16 (unknown_count n))
queues-refusal node kind level n inv = by_full (nat_le 16 (unknown_count n)) refl
  where
    by_full : (b : Bool) → nat_le 16 (unknown_count n) ≡ b → refusal_in (listed ((if b then refuses n (Full (unknown_count n)) else goes_on node (with_queued n (record { kind = kind; level = level })) (Queued node (length n.queued + 1)))).effect.enters) ≡ full_by b
    by_full true e =
        let most : unknown_count n ≤ 16 = inv.loose.few in
        let least : 16 ≤ unknown_count n = grind (arith, nat_tests) in
        let exact : unknown_count n ≡ 16 = omega arith in
        ap (λ (x : ℕ). Some (Full x)) exact
    by_full false e = goes_on-refusal node (with_queued n (record { kind = kind; level = level })) (Queued node (length n.queued + 1))

event-refusal : (T : List Ran) (node kind level : ℕ) (n : NodeState) → Told node T n → NodeInv n → refusal_in (listed (queues node n (record { kind = kind; level = level })).effect.enters) ≡ refusal_of T (Event node kind level)
event-refusal T node kind level n told inv =
    queues-refusal node kind level n inv
    ∙ ap (λ (x : ℕ). full_by (nat_le 16 x)) (sym (ap (λ (x : ℕ). x - length (known_in node T)) (told-queued node T n told) ∙ ap (λ (x : ℕ). length n.queued - x) (told-known node T n told)))

-- the test and the refusal of a repeat, over the node
abbrev idle_by : Bool → Option EventRefusal
idle_by b = if b then Some Idle else None

repeats-refusal : (node : ℕ) (n : NodeState) → NodeInv n → refusal_in (listed (repeats node n).effect.enters) ≡ idle_by (length n.queued == known_count n)
repeats-refusal node n inv =
    elim (option_cases (open_session n.device)) [
      | inl none ↦
          let known : known_count n ≡ begun_of n.device = known-none n none in
          let all : length n.queued ≤ begun_of n.device = all_begun n none inv.settled in
          let within : begun_of n.device ≤ length n.queued = inv.loose.begun in
          let same : length n.queued ≡ known_count n = omega arith in
          let test : (length n.queued == known_count n) ≡ true = grind (arith, nat_tests) in
          subst (λ (o : Option ℕ). refusal_in (listed ((if is_none o then refuses n Idle else does n None (Some (event_frame node n)))).effect.enters) ≡ idle_by (length n.queued == known_count n)) (sym none)
          (sym (ap idle_by test))
      | inr one ↦
          let known : known_count n ≡ one.0 - 1 = known-open n one.0 one.1 in
          let last = open_session-Some n.device one.0 one.1 in
          let within : begun_of n.device ≤ length n.queued = inv.loose.begun in
          let apart : known_count n < length n.queued = omega (arith, known, last.0, last.1, within) in
          let test : (length n.queued == known_count n) ≡ false = grind (arith, nat_tests) in
          subst (λ (o : Option ℕ). refusal_in (listed ((if is_none o then refuses n Idle else does n None (Some (event_frame node n)))).effect.enters) ≡ idle_by (length n.queued == known_count n)) (sym one.1)
          (sym (ap idle_by test))
    ]

again-refusal : (T : List Ran) (node : ℕ) (n : NodeState) → Told node T n → NodeInv n → refusal_in (listed (repeats node n).effect.enters) ≡ refusal_of T (Again node)
again-refusal T node n told inv =
    repeats-refusal node n inv
    ∙ sym (ap (λ (x : ℕ). idle_by (x == length (known_in node T))) (told-queued node T n told) ∙ ap (λ (x : ℕ). idle_by (length n.queued == x)) (told-known node T n told))

-- what is heard is not refused
hears-refusal : (node : ℕ) (n : NodeState) (id : ℕ) (content : Content) → refusal_in (listed (hears_by node n id content).effect.enters) ≡ None
hears-refusal node n id (EventContent notice) = by_heard (heard_of n.host id)
  where
    by_heard : (heard : Heard) → refusal_in (listed (host_hears node n id notice heard).effect.enters) ≡ None
    by_heard (New session) = refl
    by_heard (Repeated status) = refl
    by_heard Strange = refl
hears-refusal node n id Receipt = by_told (told_of n.device id SUCCESS)
  where
    by_told : (answer : Answer) → refusal_in (listed (device_hears node n id answer).effect.enters) ≡ None
    by_told (Final session) = goes_on-refusal node (with_known n id) (Known node session)
    by_told Working = refl
    by_told Unasked = refl

-- the test and the refusal of a delivery, over the age
abbrev stale_by : ℕ → Option EventRefusal
stale_by later = if nat_le 62 later then Some (Stale later) else None

delivers-refusal : (n : NodeState) (frame : Frame) → refusal_in (listed (delivers n frame).effect.enters) ≡ stale_by (later_of n frame)
delivers-refusal n frame = by_age (nat_le 62 (later_of n frame))
  where
    by_age : (b : Bool) → refusal_in (listed ((if b then refuses n (Stale (later_of n frame)) else hears_by frame.node n (wire_id frame.session) frame.content)).effect.enters) ≡ (if b then Some (Stale (later_of n frame)) else None)
    by_age true = refl
    by_age false = hears-refusal frame.node n (wire_id frame.session) frame.content

-- the frame of a number, as the transcript shows it
abbrev shown_frame : Option Frame → Option Sent
shown_frame None = None
shown_frame (Some frame) = Some (sent_of frame)

shown-at : (frames : List Frame) (number : ℕ) → sent_at (map sent_of frames) number ≡ shown_frame (frame_at frames number)
shown-at frames zero = refl
shown-at frames (suc before) = in_place frames before
  where
    in_place : (frames : List Frame) (place : ℕ) → slice_get (map sent_of frames) place ≡ shown_frame (slice_get frames place)
    in_place [] place = refl
    in_place (f ∷ frames) zero = refl
    in_place (f ∷ frames) (suc place) = in_place frames place

deliver-by : (T : List Ran) (w : FlowState) (number : ℕ) (found : Option Frame) → frame_at w.frames number ≡ found → Facts T w → refusal_in (listed (delivered w.nodes found).effect.enters) ≡ delivery_refusal T (shown_frame found)
deliver-by T w number None e facts = refl
deliver-by T w number (Some frame) e facts =
    let fits = frame-there T w number frame facts e in
    let n : NodeState = node_of w.nodes frame.node in
    let age : begun_in frame.node T - frame.begun ≡ later_of n frame = ap (λ (x : ℕ). x - frame.begun) (told-begun frame.node T n (facts.told frame.node fits.there) (facts.nodes frame.node fits.there)) in
    delivers-refusal n frame ∙ ap stale_by (sym age)

deliver-refusal : (T : List Ran) (w : FlowState) (number : ℕ) → Facts T w → refusal_in (listed (delivered w.nodes (frame_at w.frames number)).effect.enters) ≡ refusal_of T (Deliver number)
deliver-refusal T w number facts =
    deliver-by T w number (frame_at w.frames number) refl facts
    ∙ sym (ap (λ sent. delivery_refusal T (sent_at sent number)) facts.sent ∙ ap (delivery_refusal T) (shown-at w.frames number))

pub line-refusal : (T : List Ran) (w : FlowState) (line : EventLine) → NamesNode line → Facts T w → refusal_in (entries w line) ≡ refusal_of T line
line-refusal T w (Event node kind level) there facts =
    let done = queues node (node_of w.nodes node) (record { kind = kind; level = level }) in
    refusal-entries done.effect.enters (length w.frames) done.effect.sends
    ∙ event-refusal T node kind level (node_of w.nodes node) (facts.told node there) (facts.nodes node there)
line-refusal T w (Again node) there facts =
    let done = repeats node (node_of w.nodes node) in
    refusal-entries done.effect.enters (length w.frames) done.effect.sends
    ∙ again-refusal T node (node_of w.nodes node) (facts.told node there) (facts.nodes node there)
line-refusal T w (Deliver number) there facts =
    let happened = delivered w.nodes (frame_at w.frames number) in
    refusal-entries happened.effect.enters (length w.frames) happened.effect.sends
    ∙ deliver-refusal T w number facts
