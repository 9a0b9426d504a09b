-- What a delivery gives while the frame is fresh.
use Rattle.std.proofs.Common.{◌≡◌, ℕ, ◌+◌, ◌-◌, ◌<◌, Bool, true, false, cond, Some, None, List, [], ◌∷◌, ◌++◌, length, ap, refl, sym, subst, ◌∙◌, arith}
use Rattle.std.specs.Prelude.{if◌then◌else◌, nat_le, slice_get, All, OnOk, Result, Ok, Err}
use Rattle.zw_base.specs.declared.memory.NoMemory.{NoMemory}
use Rattle.std.proofs.lemmas.Bool.Decides.{nat_tests}
use Rattle.supervision.specs.Session.{wire_id}
use Rattle.supervision.specs.Host.{HostBook, open_session, told_of}
use Rattle.supervision.specs.Device.{Taken as Book, heard_of, after_get}
use Rattle.supervision.specs.declared.session.TheConstants.{SUCCESS}
use Rattle.supervision.specs.declared.host_node.Told.TheVariants.{Final}
use Rattle.supervision.specs.declared.device_book.Heard.TheVariants.{New}
use Rattle.event_flow.specs.declared.line.EventLine.{EventLine}
use Rattle.event_flow.specs.declared.line.EventLine.TheVariants.{Deliver}
use Rattle.event_flow.specs.declared.entry.EventEntry.{EventEntry}
use Rattle.event_flow.specs.declared.entry.EventEntry.TheVariants.{Frame as FrameEntry, Taken, Known}
use Rattle.event_flow.specs.declared.entry.EventRefusal.TheVariants.{Stale}
use Rattle.event_flow.specs.declared.frame.Notice.{Notice}
use Rattle.event_flow.specs.declared.frame.Content.TheVariants.{Event as EventContent}
use Rattle.event_flow.specs.declared.frame.Frame.{Frame}
use Rattle.event_flow.specs.State.{NodeState, FlowState, node_of, all_silent, later_of, may_begin, event_frame}
use Rattle.event_flow.specs.Steps.{Done, after, does, refuses, goes_on, with_begun, with_known, host_hears, device_hears, hears_by, delivers, delivered, entries, listed, frame_entries}
use Rattle.event_flow.specs.Flow.{Flow, NamesNode, IsNextEvent, IsAnswer, run, after_all}
use Rattle.event_flow.proofs.Facts.{FitsBy, NodeInv}
use Rattle.event_flow.proofs.Moves.{new-host}
use Rattle.event_flow.proofs.Whole.{Facts-start, frame-there}
use Rattle.event_flow.proofs.FlowLaws.{Facts-run, flows}

-- what is done and sent at a node is entered so
abbrev shown_done : FlowState → Done → List EventEntry
shown_done w done = listed done.effect.enters ++ frame_entries (length w.frames) done.effect.sends

-- a frame that was sent and is fresh is heard
fresh-heard : (n : NodeState) (frame : Frame) → later_of n frame < 62 → delivers n frame ≡ hears_by frame.node n (wire_id frame.session) frame.content
fresh-heard n frame fresh =
    let test : nat_le 62 (later_of n frame) ≡ false = grind (arith, nat_tests) in
    ap (λ b. cond b (refuses n (Stale (later_of n frame))) (hears_by frame.node n (wire_id frame.session) frame.content)) test

heard-new : (host : Book) (id : ℕ) → id ≡ wire_id (host.taken + 1) → host.status ≡ SUCCESS → heard_of host id ≡ New (host.taken + 1)
heard-new host id named success = grind (arith, nat_tests)

told-final : (device : HostBook) (session : ℕ) → open_session device ≡ Some session → told_of device (wire_id session) SUCCESS ≡ Final session
told-final device session is_open = grind (arith, nat_tests)

-- the next event is taken and answered
next-entries :
    (w : FlowState) (n : NodeState) (frame : Frame) (notice : Notice) → NodeInv n → frame.content ≡ EventContent notice → frame.session ≡ length n.taken + 1 → later_of n frame < 62
    → shown_done w (delivers n frame) ≡ Taken frame.node notice.kind notice.level ∷ FrameEntry (length w.frames + 1) 1 frame.node (108 ∷ 2 ∷ wire_id frame.session ∷ SUCCESS ∷ 0 ∷ []) ∷ []
next-entries w n frame notice inv carries next fresh =
    let id : ℕ = wire_id frame.session in
    let session : frame.session ≡ n.host.taken + 1 = omega (arith, next, inv.loose.counted) in
    let heard : heard_of n.host (wire_id frame.session) ≡ New (n.host.taken + 1) = heard-new n.host (wire_id frame.session) (ap wire_id session) inv.loose.success in
    let count : (after_get n.host (wire_id frame.session)).taken ≡ n.host.taken + 1 = ap (λ (b : Book). b.taken) (new-host n (wire_id frame.session) (n.host.taken + 1) heard) in
    ap (shown_done w)
    (fresh-heard n frame fresh
    ∙ ap (hears_by frame.node n (wire_id frame.session)) carries
    ∙ ap (host_hears frame.node n (wire_id frame.session) notice) heard)
    ∙ ap (λ (s : ℕ). Taken frame.node notice.kind notice.level ∷ FrameEntry (length w.frames + 1) 1 frame.node (108 ∷ 2 ∷ wire_id s ∷ SUCCESS ∷ 0 ∷ []) ∷ []) (count ∙ sym session)

pub next-taken :
    (lines : List EventLine) → All NamesNode lines → (number : ℕ) (frame : Frame) (notice : Notice) → IsNextEvent (after_all all_silent lines) number frame notice
    → entries (after_all all_silent lines) (Deliver number) ≡ Taken frame.node notice.kind notice.level ∷ FrameEntry (length (after_all all_silent lines).frames + 1) 1 frame.node (108 ∷ 2 ∷ wire_id frame.session ∷ SUCCESS ∷ 0 ∷ []) ∷ []
next-taken lines good number frame notice is =
    let w : FlowState = after_all all_silent lines in
    let facts = Facts-run [] all_silent lines good Facts-start in
    let fits = frame-there (run all_silent lines) (after_all all_silent lines) number frame facts is.found in
    ap (λ found. listed (delivered w.nodes found).effect.enters ++ frame_entries (length w.frames) (delivered w.nodes found).effect.sends) is.found
    ∙ next-entries w (node_of w.nodes frame.node) frame notice (facts.nodes frame.node fits.there) is.carries is.next is.fresh

-- it is the event that comes next in the queue
pub next-queued :
    (lines : List EventLine) → All NamesNode lines → (number : ℕ) (frame : Frame) (notice : Notice) → IsNextEvent (after_all all_silent lines) number frame notice
    → slice_get (node_of (after_all all_silent lines).nodes frame.node).queued (length (node_of (after_all all_silent lines).nodes frame.node).taken) ≡ Some notice
next-queued lines good number frame notice is =
    let w : FlowState = after_all all_silent lines in
    let n : NodeState = node_of w.nodes frame.node in
    let facts = Facts-run [] all_silent lines good Facts-start in
    let fits = frame-there (run all_silent lines) (after_all all_silent lines) number frame facts is.found in
    let carried : FitsBy n frame.session frame.begun (EventContent notice) = subst (FitsBy n frame.session frame.begun) is.carries fits.fits in
    let place : frame.session - 1 ≡ length n.taken = omega (arith, is.next) in
    subst (λ (k : ℕ). slice_get n.queued k ≡ Some notice) place carried.2

-- what is entered before a session begins comes first
goes_on-first : (w : FlowState) (node : ℕ) (m : NodeState) (enters : EventEntry) → (rest : List EventEntry) × (shown_done w (goes_on node m enters) ≡ enters ∷ rest)
goes_on-first w node m enters = by_may (may_begin m)
  where
    by_may : (b : Bool) → (rest : List EventEntry) × (shown_done w (if b then does (with_begun m) (Some enters) (Some (event_frame node (with_begun m))) else does m (Some enters) None) ≡ enters ∷ rest)
    by_may true = (frame_entries (length w.frames) (Some (event_frame node (with_begun m))), refl)
    by_may false = ([], refl)

-- the answer to the open session makes its event known
pub answer-known :
    (lines : List EventLine) → All NamesNode lines → (number : ℕ) (frame : Frame) → IsAnswer (after_all all_silent lines) number frame
    → (rest : List EventEntry) × (entries (after_all all_silent lines) (Deliver number) ≡ Known frame.node frame.session ∷ rest)
answer-known lines good number frame is =
    let w : FlowState = after_all all_silent lines in
    let n : NodeState = node_of w.nodes frame.node in
    let first = goes_on-first w frame.node (with_known n (wire_id frame.session)) (Known frame.node frame.session) in (
      first.0,
      ap (λ found. listed (delivered w.nodes found).effect.enters ++ frame_entries (length w.frames) (delivered w.nodes found).effect.sends) is.found
          ∙ ap (shown_done w)
          (fresh-heard n frame is.fresh
          ∙ ap (hears_by frame.node n (wire_id frame.session)) is.carries
          ∙ ap (device_hears frame.node n (wire_id frame.session)) (told-final n.device frame.session is.is_open))
          ∙ first.1,
    )

-- ---- one line more

pub run-more : (w : FlowState) (lines : List EventLine) (line : EventLine) → run w (lines ++ line ∷ []) ≡ run w lines ++ record { line = line; entries = entries (after_all w lines) line } ∷ []
run-more w [] line = refl
run-more w (l ∷ lines) line = ap (λ rest. record { line = l; entries = entries w l } ∷ rest) (run-more (after w l) lines line)

pub after-more : (w : FlowState) (lines : List EventLine) (line : EventLine) → after_all w (lines ++ line ∷ []) ≡ after (after_all w lines) line
after-more w [] line = refl
after-more w (l ∷ lines) line = after-more (after w l) lines line

-- a line after others
pub step-flow :
    (r : Result (Unit {0}) NoMemory) (old new : FlowState) (line : EventLine) → OnOk r (new ≡ after old line) → (lines : List EventLine)
    → All NamesNode (lines ++ line ∷ []) → old ≡ after_all all_silent lines → OnOk r (Flow (run all_silent (lines ++ line ∷ [])) × (new ≡ after_all all_silent (lines ++ line ∷ [])))
step-flow (Ok done) old new line is lines good was = (flows (lines ++ line ∷ []) good, is ∙ ap (λ w. after w line) was ∙ sym (after-more all_silent lines line))
step-flow (Err none) old new line is lines good was = tt
