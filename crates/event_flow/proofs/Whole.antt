-- What holds of all nodes and frames after every line, and what the transcript so far says of them.
use Rattle.std.proofs.Common.{◌≡◌, ◌≢◌, ℕ, zero, suc, ◌+◌, ◌-◌, ◌≤◌, ◌⊎◌, Bool, true, false, Option, Some, None, List, [], ◌∷◌, ◌++◌, length, ap, refl, sym, subst, ◌∙◌, inl, inr, arith, length-append, append_assoc, append-nil, get_or-set_same, get_or-set_other, length-set, replicate, lit≤}
use Rattle.std.specs.Prelude.{if◌then◌else◌, ◌==◌, slice_get, slice_set, min, map}
use Rattle.std.specs.List.{flat_map}
use Rattle.std.proofs.lemmas.Grind.{flat_map-append}
use Rattle.std.proofs.lemmas.List.{map-append, get_or-replicate, length-replicate}
use Rattle.std.proofs.lemmas.Bool.Decides.{nat_tests}
use Rattle.supervision.specs.Host.{begun_of}
use Rattle.supervision.proofs.EndsLemmas.{EndsAgree-start}
use Rattle.zw_text.specs.Line.{IsNode}
use Rattle.event_flow.specs.declared.line.EventLine.{EventLine}
use Rattle.event_flow.specs.declared.line.EventLine.TheVariants.{Event, Again, Deliver}
use Rattle.event_flow.specs.declared.entry.EventEntry.{EventEntry}
use Rattle.event_flow.specs.declared.entry.EventEntry.TheVariants.{Refused, Queued, Frame as FrameEntry, Taken, Known, Old, TableNode}
use Rattle.event_flow.specs.declared.entry.EventRefusal.TheVariants.{NeverSent}
use Rattle.event_flow.specs.declared.frame.Content.{Content}
use Rattle.event_flow.specs.declared.frame.Content.TheVariants.{Event as EventContent, Receipt}
use Rattle.event_flow.specs.declared.frame.Frame.{Frame}
use Rattle.event_flow.specs.declared.frame.Effect.{Effect}
use Rattle.event_flow.specs.State.{NodeState, FlowState, node_of, silent, all_silent, known_count, frame_at, sender_of, receiver_of, payload_of, sender_by, receiver_by}
use Rattle.event_flow.specs.Steps.{Done, delivered, after, entries, listed, frame_entries, queues, repeats, delivers}
use Rattle.event_flow.specs.Flow.{Ran, NamesNode, Sent, count_up, queued_event, queued_in, taken_event, queued_number, known_number, taken_in, numbers_in, known_in, begun_in, device_end, sent_by, sent_from}
use Rattle.event_flow.proofs.Facts.{FrameFits, Loose, NodeInv, begun_count}
use Rattle.event_flow.proofs.Stepped.{NodeStep, SendFits, Shows, queues-step, repeats-step, delivers-step, shows-nothing, says-refused}

-- what the transcript says of a node is what the node is
pub record Told (node : ℕ) (T : List Ran) (n : NodeState) : Type 0 where
  pub queued : queued_in node T ≡ n.queued
  pub numbers : numbers_in node T ≡ count_up (length n.queued)
  pub taken : taken_in node T ≡ n.taken
  pub known : known_in node T ≡ count_up (known_count n)

-- a frame as the transcript shows it
abbrev pub sent_of : Frame → Sent
sent_of frame = record { node = frame.node; begun = frame.begun }

-- a frame is of a node that there is, and fits it
pub record Fits (nodes : List NodeState) (frame : Frame) : Type 0 where
  pub there : IsNode 1 frame.node
  pub fits : FrameFits (node_of nodes frame.node) frame

pub record Facts (T : List Ran) (w : FlowState) : Type 0 where
  pub wide : length w.nodes ≡ 232
  pub nodes : (node : ℕ) → IsNode 1 node → NodeInv (node_of w.nodes node)
  pub told : (node : ℕ) → IsNode 1 node → Told node T (node_of w.nodes node)
  pub sent : sent_from [] T ≡ map sent_of w.frames
  pub frames : (place : ℕ) (frame : Frame) → slice_get w.frames place ≡ Some frame → Fits w.nodes frame

-- ---- entries

-- a view that passes over frames
abbrev PassesFrames : {A : Type 0} → (EventEntry → List A) → Type 0
PassesFrames view = (frame sender receiver : ℕ) (payload : List ℕ) → view (FrameEntry frame sender receiver payload) ≡ []

view-entries : {A : Type 0} (view : EventEntry → List A) → PassesFrames view → (enters : Option EventEntry) (before : ℕ) (sends : Option Frame) → flat_map view (listed enters ++ frame_entries before sends) ≡ flat_map view (listed enters)
view-entries view passes enters before sends =
    flat_map-append view (listed enters) (frame_entries before sends)
    ∙ ap (λ xs. flat_map view (listed enters) ++ xs) (frames_pass sends)
    ∙ append-nil (flat_map view (listed enters))
  where
    frames_pass : (sends : Option Frame) → flat_map view (frame_entries before sends) ≡ []
    frames_pass None = refl
    frames_pass (Some frame) = append-nil (view (FrameEntry (before + 1) (sender_of frame) (receiver_of frame) (payload_of frame))) ∙ passes (before + 1) (sender_of frame) (receiver_of frame) (payload_of frame)

queued-entries : (node : ℕ) (line : EventLine) (enters : Option EventEntry) (before : ℕ) (sends : Option Frame) → queued_event node (listed enters ++ frame_entries before sends) line ≡ queued_event node (listed enters) line
queued-entries node line None before None = refl
queued-entries node line None before (Some frame) = refl
queued-entries node line (Some (Refused refusal)) before sends = refl
queued-entries node line (Some (Queued at number)) before sends = refl
queued-entries node line (Some (FrameEntry frame sender receiver payload)) before sends = refl
queued-entries node line (Some (Taken at kind level)) before sends = refl
queued-entries node line (Some (Known at number)) before sends = refl
queued-entries node line (Some (Old at id)) before sends = refl
queued-entries node line (Some (TableNode at queued taken known)) before sends = refl

-- ---- a transcript with one line more

more : {A : Type 0} (f : Ran → List A) (T : List Ran) (ran : Ran) → flat_map f (T ++ ran ∷ []) ≡ flat_map f T ++ f ran
more f T ran = flat_map-append f T (ran ∷ []) ∙ ap (λ xs. flat_map f T ++ xs) (append-nil (f ran))

-- the line at its own node
told-here :
    (node : ℕ) (T : List Ran) (n after : NodeState) (line : EventLine) (enters : Option EventEntry) (before : ℕ) (sends : Option Frame)
    → Told node T n → Shows node n after line enters
    → Told node (T ++ record { line = line; entries = listed enters ++ frame_entries before sends } ∷ []) after
told-here node T n after line enters before sends told shows =
    let ran : Ran = record { line = line; entries = listed enters ++ frame_entries before sends } in
    record {
      queued =
          more (λ r. queued_event node r.entries r.line) T ran
          ∙ ap (λ xs. xs ++ queued_event node ran.entries line) told.queued
          ∙ ap (λ xs. n.queued ++ xs) (queued-entries node line enters before sends)
          ∙ sym shows.queued;
      numbers =
          more (λ r. flat_map (queued_number node) r.entries) T ran
          ∙ ap (λ xs. xs ++ flat_map (queued_number node) ran.entries) told.numbers
          ∙ ap (λ xs. count_up (length n.queued) ++ xs) (view-entries (queued_number node) (λ _ _ _ _. refl) enters before sends)
          ∙ sym shows.numbers;
      taken =
          more (λ r. flat_map (taken_event node) r.entries) T ran
          ∙ ap (λ xs. xs ++ flat_map (taken_event node) ran.entries) told.taken
          ∙ ap (λ xs. n.taken ++ xs) (view-entries (taken_event node) (λ _ _ _ _. refl) enters before sends)
          ∙ sym shows.taken;
      known =
          more (λ r. flat_map (known_number node) r.entries) T ran
          ∙ ap (λ xs. xs ++ flat_map (known_number node) ran.entries) told.known
          ∙ ap (λ xs. count_up (known_count n) ++ xs) (view-entries (known_number node) (λ _ _ _ _. refl) enters before sends)
          ∙ sym shows.known;
    }

-- ---- nodes

node-same : (nodes : List NodeState) (node : ℕ) (x : NodeState) → length nodes ≡ 232 → IsNode 1 node → node_of (slice_set nodes (node - 1) x) node ≡ x
node-same nodes node x wide there = get_or-set_same nodes (node - 1) x silent (omega (arith, wide, there.0, there.1))

node-other : (nodes : List NodeState) (node other : ℕ) (x : NodeState) → IsNode 1 node → IsNode 1 other → other ≢ node → node_of (slice_set nodes (node - 1) x) other ≡ node_of nodes other
node-other nodes node other x there here apart =
    get_or-set_other nodes (node - 1) (other - 1) x silent (λ e. apart (omega (arith, e, there.0, here.0)))

same_or_not : (a b : ℕ) → (a ≡ b) ⊎ (a ≢ b)
same_or_not a b = by_test (a == b) refl
  where
    by_test : (t : Bool) → (a == b) ≡ t → (a ≡ b) ⊎ (a ≢ b)
    by_test true e = inl (grind (arith, nat_tests))
    by_test false e = inr (λ same. grind (arith, nat_tests))

-- ---- frames

pub length-count_up : (k : ℕ) → length (count_up k) ≡ k
length-count_up zero = refl
length-count_up (suc k) = let e : k + 1 ≡ suc k = omega arith in length-append (count_up k) (suc k ∷ []) ∙ ap (λ n. n + 1) (length-count_up k) ∙ e

-- how many sessions have begun is seen from the transcript
pub told-begun : (node : ℕ) (T : List Ran) (n : NodeState) → Told node T n → NodeInv n → begun_in node T ≡ begun_of n.device
told-begun node T n told inv =
    ap (λ xs. min (length xs) (length (known_in node T) + 1)) told.queued
    ∙ ap (λ xs. min (length n.queued) (length xs + 1)) told.known
    ∙ ap (λ k. min (length n.queued) (k + 1)) (length-count_up (known_count n))
    ∙ sym (begun_count n inv)

device-is : (content : Content) (node : ℕ) → device_end (sender_by content node) (receiver_by content node) ≡ node
device-is (EventContent notice) node = by_test (node == 1) refl
  where
    by_test : (b : Bool) → (node == 1) ≡ b → (if b then 1 else node) ≡ node
    by_test true e = grind (arith, nat_tests)
    by_test false e = refl
device-is Receipt node = refl

sent-more : (so_far T : List Ran) (ran : Ran) → sent_from so_far (T ++ ran ∷ []) ≡ sent_from so_far T ++ flat_map (sent_by (so_far ++ (T ++ ran ∷ []))) ran.entries
sent-more so_far [] ran = append-nil (flat_map (sent_by (so_far ++ ran ∷ [])) ran.entries)
sent-more so_far (r ∷ T) ran =
    ap (λ xs. flat_map (sent_by (so_far ++ r ∷ [])) r.entries ++ xs)
    (sent-more (so_far ++ r ∷ []) T ran
    ∙ ap (λ U. sent_from (so_far ++ r ∷ []) T ++ flat_map (sent_by U) ran.entries) (append_assoc so_far (r ∷ []) (T ++ ran ∷ [])))
    ∙ sym (append_assoc (flat_map (sent_by (so_far ++ r ∷ [])) r.entries) (sent_from (so_far ++ r ∷ []) T) (flat_map (sent_by (so_far ++ (r ∷ (T ++ ran ∷ [])))) ran.entries))

-- the frame that a line sends, as the transcript shows it
sent-entries : (node : ℕ) (U : List Ran) (n : NodeState) (before : ℕ) (sends : Option Frame) → Told node U n → NodeInv n → SendFits node n sends → flat_map (sent_by U) (frame_entries before sends) ≡ map sent_of (listed sends)
sent-entries node U n before None told inv fits = refl
sent-entries node U n before (Some frame) told inv fits =
    let device : device_end (sender_of frame) (receiver_of frame) ≡ frame.node = device-is frame.content frame.node in
    let begun : begun_in frame.node U ≡ frame.begun = ap (λ k. begun_in k U) fits.1 ∙ told-begun node U n told inv ∙ sym fits.2 in
    ap (λ k. record { node = k; begun = begun_in k U } ∷ []) device ∙ ap (λ b. record { node = frame.node; begun = b } ∷ []) begun

-- a frame is an old one, or the one that was sent
frame-cases : (frames : List Frame) (sends : Option Frame) (place : ℕ) (frame : Frame) → slice_get (frames ++ listed sends) place ≡ Some frame → (slice_get frames place ≡ Some frame) ⊎ (sends ≡ Some frame)
frame-cases [] None place frame e = absurd (grind arith)
frame-cases [] (Some sent) zero frame e = inr e
frame-cases [] (Some sent) (suc place) frame e = absurd (grind arith)
frame-cases (f ∷ frames) sends zero frame e = inl e
frame-cases (f ∷ frames) sends (suc place) frame e = frame-cases frames sends place frame e

send-fits : (node : ℕ) (n : NodeState) (sends : Option Frame) (frame : Frame) → sends ≡ Some frame → SendFits node n sends → FrameFits n frame × (frame.node ≡ node)
send-fits node n None frame e fits = absurd (grind arith)
send-fits node n (Some sent) frame e fits =
    let same : sent ≡ frame = some_is sent frame e in subst (λ (f : Frame). FrameFits n f × (f.node ≡ node)) same (fits.0, fits.1)
  where
    some_is : (x y : Frame) → Some x ≡ Some y → x ≡ y
    some_is x y e = cc

-- ---- a line at a node

-- the frames go on to fit
frames-kept :
    (w : FlowState) (node : ℕ) (line : EventLine) (done : Done) → length w.nodes ≡ 232 → IsNode 1 node → NodeStep node (node_of w.nodes node) line done
    → (frame : Frame) → Fits w.nodes frame → Fits (slice_set w.nodes (node - 1) done.node) frame
frames-kept w node line done wide there step frame fits =
    elim (same_or_not frame.node node) [
      | inl same ↦ record {
        there = fits.there;
        fits =
            subst (λ (n : NodeState). FrameFits n frame)
            (sym (node-same w.nodes node done.node wide there) ∙ ap (node_of (slice_set w.nodes (node - 1) done.node)) (sym same))
            (step.keeps frame (subst (λ (k : ℕ). FrameFits (node_of w.nodes k) frame) same fits.fits));
      }
      | inr apart ↦ record {
        there = fits.there;
        fits = subst (λ (n : NodeState). FrameFits n frame) (sym (node-other w.nodes node frame.node done.node there fits.there apart)) fits.fits;
      }
    ]

-- the line and its entries
abbrev ran_of : FlowState → EventLine → Effect → Ran
ran_of w line effect = record { line = line; entries = listed effect.enters ++ frame_entries (length w.frames) effect.sends }

told-node :
    (T : List Ran) (w : FlowState) (node : ℕ) (line : EventLine) (done : Done) → Facts T w → IsNode 1 node → NodeStep node (node_of w.nodes node) line done
    → (any : ℕ) → IsNode 1 any → Told any (T ++ ran_of w line done.effect ∷ []) (node_of (slice_set w.nodes (node - 1) done.node) any)
told-node T w node line done facts there step any here =
    elim (same_or_not any node) [
      | inl same ↦
          subst (λ (k : ℕ). Told k (T ++ ran_of w line done.effect ∷ []) (node_of (slice_set w.nodes (node - 1) done.node) k)) (sym same)
          (subst (Told node (T ++ ran_of w line done.effect ∷ [])) (sym (node-same w.nodes node done.node facts.wide there))
          (told-here node T (node_of w.nodes node) done.node line done.effect.enters (length w.frames) done.effect.sends (facts.told node there) step.shows))
      | inr apart ↦
          subst (Told any (T ++ ran_of w line done.effect ∷ [])) (sym (node-other w.nodes node any done.node there here apart))
          (told-here any T (node_of w.nodes any) (node_of w.nodes any) line done.effect.enters (length w.frames) done.effect.sends (facts.told any here)
          (shows-nothing any (node_of w.nodes any) line done.effect.enters (step.others any apart)))
    ]

inv-node :
    (T : List Ran) (w : FlowState) (node : ℕ) (line : EventLine) (done : Done) → Facts T w → IsNode 1 node → NodeStep node (node_of w.nodes node) line done
    → (any : ℕ) → IsNode 1 any → NodeInv (node_of (slice_set w.nodes (node - 1) done.node) any)
inv-node T w node line done facts there step any here =
    elim (same_or_not any node) [
      | inl same ↦ subst NodeInv (sym (ap (node_of (slice_set w.nodes (node - 1) done.node)) same ∙ node-same w.nodes node done.node facts.wide there)) step.inv
      | inr apart ↦ subst NodeInv (sym (node-other w.nodes node any done.node there here apart)) (facts.nodes any here)
    ]

pub Facts-at :
    (T : List Ran) (w : FlowState) (node : ℕ) (line : EventLine) (done : Done) → Facts T w → IsNode 1 node → NodeStep node (node_of w.nodes node) line done
    → Facts (T ++ ran_of w line done.effect ∷ []) (record { nodes = slice_set w.nodes (node - 1) done.node; frames = w.frames ++ listed done.effect.sends })
Facts-at T w node line done facts there step =
    let U : List Ran = T ++ ran_of w line done.effect ∷ [] in
    let told = told-here node T (node_of w.nodes node) done.node line done.effect.enters (length w.frames) done.effect.sends (facts.told node there) step.shows in
    record {
      wide = length-set w.nodes (node - 1) done.node ∙ facts.wide;
      nodes = inv-node T w node line done facts there step;
      told = told-node T w node line done facts there step;
      sent =
          sent-more [] T (ran_of w line done.effect)
          ∙ ap (λ xs. xs ++ flat_map (sent_by U) (ran_of w line done.effect).entries) facts.sent
          ∙ ap (λ xs. map sent_of w.frames ++ xs)
          (flat_map-append (sent_by U) (listed done.effect.enters) (frame_entries (length w.frames) done.effect.sends)
          ∙ ap (λ xs. xs ++ flat_map (sent_by U) (frame_entries (length w.frames) done.effect.sends)) (step.shows.frames U)
          ∙ sent-entries node U done.node (length w.frames) done.effect.sends told step.inv step.sends)
          ∙ sym (map-append sent_of w.frames (listed done.effect.sends));
      frames = λ place frame e.
          elim (frame-cases w.frames done.effect.sends place frame e) [
            | inl old ↦ frames-kept w node line done facts.wide there step frame (facts.frames place frame old)
            | inr new ↦
                let fits = send-fits node done.node done.effect.sends frame new step.sends in
                record {
                  there = subst (IsNode 1) (sym fits.1) there;
                  fits =
                      subst (λ (n : NodeState). FrameFits n frame)
                      (sym (node-same w.nodes node done.node facts.wide there) ∙ ap (node_of (slice_set w.nodes (node - 1) done.node)) (sym fits.1))
                      fits.0;
                }
          ];
    }

-- ---- lines

-- a frame that was never sent: all stays
Facts-none : (T : List Ran) (w : FlowState) (line : EventLine) → Facts T w → Facts (T ++ ran_of w line (record { enters = Some (Refused NeverSent); sends = None }) ∷ []) (record { nodes = w.nodes; frames = w.frames ++ [] })
Facts-none T w line facts =
    let ran : Ran = record { line = line; entries = Refused NeverSent ∷ [] } in
    subst (λ (fs : List Frame). Facts (T ++ ran ∷ []) (record { nodes = w.nodes; frames = fs })) (sym (append-nil w.frames))
    (record {
      wide = facts.wide;
      nodes = facts.nodes;
      told = λ node there.
          told-here node T (node_of w.nodes node) (node_of w.nodes node) line (Some (Refused NeverSent)) 0 None (facts.told node there)
          (shows-nothing node (node_of w.nodes node) line (Some (Refused NeverSent)) (says-refused line NeverSent node));
      sent = sent-more [] T ran ∙ append-nil (sent_from [] T) ∙ facts.sent;
      frames = facts.frames;
    })

pub frame-there : (T : List Ran) (w : FlowState) (number : ℕ) (frame : Frame) → Facts T w → frame_at w.frames number ≡ Some frame → Fits w.nodes frame
frame-there T w zero frame facts e = absurd (grind arith)
frame-there T w (suc before) frame facts e = facts.frames before frame e

Facts-delivered : (T : List Ran) (w : FlowState) (number : ℕ) (found : Option Frame) → frame_at w.frames number ≡ found → Facts T w → Facts (T ++ ran_of w (Deliver number) (delivered w.nodes found).effect ∷ []) (record { nodes = (delivered w.nodes found).nodes; frames = w.frames ++ listed (delivered w.nodes found).effect.sends })
Facts-delivered T w number None e facts = Facts-none T w (Deliver number) facts
Facts-delivered T w number (Some frame) e facts =
    let fits = frame-there T w number frame facts e in
    Facts-at T w frame.node (Deliver number) (delivers (node_of w.nodes frame.node) frame) facts fits.there
    (delivers-step number (node_of w.nodes frame.node) frame (facts.nodes frame.node fits.there) fits.fits)

pub Facts-line : (T : List Ran) (w : FlowState) (line : EventLine) → NamesNode line → Facts T w → Facts (T ++ record { line = line; entries = entries w line } ∷ []) (after w line)
Facts-line T w (Event node kind level) there facts =
    Facts-at T w node (Event node kind level) (queues node (node_of w.nodes node) (record { kind = kind; level = level })) facts there
    (queues-step node kind level (node_of w.nodes node) (facts.nodes node there))
Facts-line T w (Again node) there facts =
    Facts-at T w node (Again node) (repeats node (node_of w.nodes node)) facts there
    (repeats-step node (node_of w.nodes node) (facts.nodes node there))
Facts-line T w (Deliver number) there facts = Facts-delivered T w number _ refl facts

-- ---- the start

Loose-silent : Loose silent
Loose-silent = record {
  agrees = EndsAgree-start;
  success = refl;
  counted = refl;
  prefix = ([], refl);
  begun = omega arith;
  few = omega arith;
}

pub Facts-start : Facts [] all_silent
unfolding all_silent
Facts-start = record {
  wide = length-replicate 232 silent;
  nodes = λ node there. subst NodeInv (sym (all-silent 232 node there (lit≤ tt))) (record { loose = Loose-silent; settled = refl });
  told = λ node there. subst (Told node []) (sym (all-silent 232 node there (lit≤ tt))) (record { queued = refl; numbers = refl; taken = refl; known = refl });
  sent = refl;
  frames = λ place frame e. absurd (grind arith);
}
  where
    all-silent : (k node : ℕ) → IsNode 1 node → 232 ≤ k → node_of (replicate k silent) node ≡ silent
    all-silent k node there wide = get_or-replicate k (node - 1) silent silent (omega (arith, there.0, there.1, wide))
