-- The frames that the chip has for the host bring what was heard on the air in order, and so do those that it begins: entries and events of the chip keep that.
use Rattle.std.proofs.Common.{◌≡◌, ◌≤◌, ℕ, zero, suc, ◌-◌, ◌==◌, nat_lt, Bool, true, false, if◌then◌else◌, List, [], ◌∷◌, ◌++◌, drop, take, length, inl, inr, refl, sym, ap, ap₂, ◌∙◌, subst, append-nil}
use Rattle.std.specs.Prelude.{Option, Some, None, slice_get}
use Rattle.std.specs.List.{flat_map}
use Rattle.std.proofs.lemmas.Grind.{flat_map-append}
use Rattle.serial_frame.specs.Frame.{FrameParts}
use Rattle.serial_frame.specs.Items.{unit_text}
use Rattle.serial_frame.specs.declared.unit.Unit.TheVariants.{Framed}
use Rattle.serial_link.specs.Rules.{Step}
use Rattle.chip_functions.specs.declared.request.Request.{Request}
use Rattle.chip_functions.specs.declared.request.Request.TheVariants.{GetInitData, GetCapabilities, SendData, GetVersion, SendDataAbort, MemoryGetId, GetNodeProtocolInfo, AddNode, RequestNodeInfo, IsFailedNode, GetRoutingInfo}
use Rattle.chip_functions.specs.declared.notice.Notice.TheVariants.{ApplicationUpdate}
use Rattle.chip_functions.specs.declared.notice.TransmitStatus.{TransmitStatus}
use Rattle.chip_functions.specs.declared.notice.TransmitStatus.TheVariants.{Fail}
use Rattle.chip_sim.specs.State.{ChipState}
use Rattle.chip_sim.specs.Answers.{notice_frame}
use Rattle.chip_sim.specs.Requests.{abort_frame, callback_frame, asked as asked_of, heard as hears, passed, reply_if, reply_to}
use Rattle.chip_sim.specs.Events.{ChipEvent, Judged, Ticked, Heard as chip_hears, Done, Informed, Joined, Linked, Forgets, Collides, after, collides, update_of}
use Rattle.chip_sim.specs.Link.{link_steps}
use Rattle.chip_sim.specs.Rules.{ended_posts, judged_posts, listed as listed_of, posts}
use Rattle.chip_sim.specs.declared.out.Sending.{Sending as SendingParts}
use Rattle.zw_words.specs.declared.side.Side.TheVariants.{Host as by_host, Chip as by_chip}
use Rattle.zw_text.specs.declared.entry.Entry.{Entry}
use Rattle.zw_text.specs.declared.entry.Entry.TheVariants as entry
use Rattle.zw_text.specs.Transcript.{AirFrame, frame_at, frames as frames_shown, heard, heard_at}
use Rattle.zw_text.proofs.Views.{shown-append}
use Rattle.law_transcript.specs.Lists.{EachAfter, shown_after}
use Rattle.law_transcript.specs.Repeats.{frame_of}
use Rattle.law_transcript.specs.Units.{Carried, bringing_in}
use Rattle.law_transcript.specs.Carrying.{ArePicked, homeward, heard_home}
use Rattle.law_wire.specs.Asked.{Course, course_of}
use Rattle.law_wire.specs.Given.{Given, Frame, Information}
use Rattle.law_wire.specs.Answering.{begins_next, begun, begun_at, dropped, without}
use Rattle.outside_model.specs.State.{OuterState}
use Rattle.outside_model.specs.Chip.{chip_does}
use Rattle.proof_host.proofs.Lists.{each-append, each-anywhere}
use Rattle.proof_air.proofs.Brought.{BringsOwn, callback_bringing, handler_bringing, update_bringing}
use Rattle.proof_air.proofs.Picked.{picked_both, picked_more, picked_of, picked_prefix, picked_same}
use Rattle.proof_chip.specs.Serving.{GoesOn, Serves, as_given, submitted_in, frame_texts}
use Rattle.proof_chip.specs.Bringing.{BringSome, Brings, BringsNext, MayBegin, brought_by}
use Rattle.proof_chip.proofs.Growing.{Holds, holds, told}
use Rattle.proof_chip.proofs.Judged.{goes_back}
use Rattle.proof_chip.proofs.Ordering.{began, each_front}
use Rattle.proof_chip.proofs.Telling.{AreAside, IsAside}
use Rattle.proof_air.proofs.Homes.{get_stays}

-- ---- what was heard, as the transcript grows

abbrev home_at : List AirFrame → ℕ → List Carried
home_at all number = homeward (if nat_lt 0 number then slice_get all (number - 1) else None)

frame_kept : (all more : List AirFrame) (number : ℕ) → ArePicked (home_at all number) (home_at (all ++ more) number)
frame_kept all more number = by (nat_lt 0 number) (slice_get all (number - 1)) refl
  where
    by : (b : Bool) (found : Option AirFrame) → slice_get all (number - 1) ≡ found
        → ArePicked (homeward (if b then slice_get all (number - 1) else None)) (homeward (if b then slice_get (all ++ more) (number - 1) else None))
    by false found is = tt
    by true None is = subst (λ (o : Option AirFrame). ArePicked (homeward o) (homeward (slice_get (all ++ more) (number - 1)))) (sym is) tt
    by true (Some frame) is =
        subst (λ (o : Option AirFrame). ArePicked (homeward o) (homeward (slice_get (all ++ more) (number - 1)))) (sym is)
        (subst (λ (o : Option AirFrame). ArePicked (homeward (Some frame)) (homeward o)) (sym (get_stays all more (number - 1) frame is)) (picked_same (homeward (Some frame))))

numbers_kept : (all more : List AirFrame) (numbers : List ℕ) → ArePicked (flat_map (home_at all) numbers) (flat_map (home_at (all ++ more)) numbers)
numbers_kept all more [] = tt
numbers_kept all more (number ∷ numbers) =
    picked_both (home_at all number) (flat_map (home_at all) numbers) (home_at (all ++ more) number) (flat_map (home_at (all ++ more)) numbers) (frame_kept all more number)
    (numbers_kept all more numbers)

home_grown : (past told : List Entry) → heard_home (past ++ told) ≡ flat_map (home_at (frames_shown past ++ frames_shown told)) (heard past) ++ flat_map (home_at (frames_shown past ++ frames_shown told)) (heard told)
home_grown past told =
    ap₂ (λ (all : List AirFrame) (numbers : List ℕ). flat_map (home_at all) numbers) (shown-append frame_at past told) (shown-append heard_at past told)
    ∙ flat_map-append (home_at (frames_shown past ++ frames_shown told)) (heard past) (heard told)

heard_grows : (xs : List Carried) (past told : List Entry) → ArePicked xs (heard_home past) → ArePicked xs (heard_home (past ++ told))
heard_grows xs past told are =
    let all : List AirFrame = frames_shown past ++ frames_shown told in
    subst (λ (l : List Carried). ArePicked xs l) (sym (home_grown past told))
    (picked_more xs (flat_map (home_at all) (heard past)) (flat_map (home_at all) (heard told))
    (picked_of xs (heard_home past) (flat_map (home_at all) (heard past)) are (numbers_kept (frames_shown past) (frames_shown told) (heard past))))

heard_more : (past : List Entry) (number : ℕ) → heard_home (past ++ entry.Heard number ∷ []) ≡ heard_home past ++ homeward (frame_of past number)
heard_more past number =
    home_grown past (entry.Heard number ∷ [])
    ∙ ap (λ (all : List AirFrame). flat_map (home_at all) (heard past) ++ (home_at all number ++ [])) (append-nil (frames_shown past))
    ∙ ap (λ (l : List Carried). heard_home past ++ l) (append-nil (homeward (frame_of past number)))

-- ---- what frames bring

brought_both : (a b : List FrameParts) → brought_by (a ++ b) ≡ brought_by a ++ brought_by b
brought_both a b = flat_map-append (λ (f : FrameParts). bringing_in (unit_text (Framed f))) a b

texts_bring : (frames : List FrameParts) → flat_map bringing_in (frame_texts frames) ≡ brought_by frames
texts_bring [] = refl
texts_bring (f ∷ frames) = ap (λ (l : List Carried). bringing_in (unit_text (Framed f)) ++ l) (texts_bring frames)

abbrev brought_of : Given → List Carried
brought_of (Frame f) = bringing_in (unit_text (Framed f))
brought_of (Information node ticks past) = []

given_bring : (frames : List FrameParts) → flat_map brought_of (as_given frames) ≡ brought_by frames
given_bring [] = refl
given_bring (f ∷ frames) = ap (λ (l : List Carried). bringing_in (unit_text (Framed f)) ++ l) (given_bring frames)

-- one place is taken out
out_picked : (place : ℕ) (all : List Given) → ArePicked (flat_map brought_of (take place all ++ drop (suc place) all)) (flat_map brought_of all)
out_picked zero [] = tt
out_picked (suc place) [] = tt
out_picked zero (one ∷ all) = picked_both [] (flat_map brought_of all) (brought_of one) (flat_map brought_of all) tt (picked_same (flat_map brought_of all))
out_picked (suc place) (one ∷ all) =
    picked_both (brought_of one) (flat_map brought_of (take place all ++ drop (suc place) all)) (brought_of one) (flat_map brought_of all) (picked_same (brought_of one)) (out_picked place all)

all_picked : (places : List ℕ) (all : List Given) → ArePicked (flat_map brought_of (without places all)) (flat_map brought_of all)
all_picked [] all = picked_same (flat_map brought_of all)
all_picked (place ∷ places) all =
    picked_of (flat_map brought_of (without (place ∷ places) all)) (flat_map brought_of (without places all)) (flat_map brought_of all) (out_picked place (without places all)) (all_picked places all)

-- those that are left bring some of what all bring
left_picked : (places : List ℕ) (frames left : List FrameParts) → without places (as_given frames) ≡ as_given left → ArePicked (brought_by left) (brought_by frames)
left_picked places frames left is =
    subst (λ (l : List Carried). ArePicked l (brought_by frames)) (ap (λ (l : List Given). flat_map brought_of l) is ∙ given_bring left)
    (subst (λ (l : List Carried). ArePicked (flat_map brought_of (without places (as_given frames))) l) (given_bring frames) (all_picked places (as_given frames)))

-- ---- an event of the chip

module _ (steps : List Step) (frames : List FrameParts) (past : List Entry) (o : OuterState) (e : ChipEvent) (serves : Serves steps frames past o.chip.state.port)
    (coming : List Carried) (some : BringSome (frames ++ posts o.chip.state e) coming past) where
  abbrev all : List Step
  all = steps ++ link_steps o.chip.state e

  abbrev grown : List FrameParts
  grown = frames ++ posts o.chip.state e

  abbrev entered : List Entry
  entered = told steps frames past o e serves

  -- those that were begun bring some of what was heard
  begun_some : ArePicked (brought_by (submitted_in all)) (heard_home past)
  begun_some =
      let known : Holds steps frames past o e serves = holds steps frames past o e serves in
      let waits : List FrameParts = (after o.chip.state e).port.waiting in
      let left : ArePicked (brought_by (submitted_in all ++ waits)) (brought_by grown) = left_picked (dropped (course_of all) (past ++ entered)) grown (submitted_in all ++ waits) known.left in
      picked_prefix (brought_by (submitted_in all)) (brought_by waits) (heard_home past)
      (subst (λ (l : List Carried). ArePicked l (heard_home past)) (brought_both (submitted_in all) waits)
      (picked_of (brought_by (submitted_in all ++ waits)) (brought_by grown) (heard_home past) left (picked_prefix (brought_by grown) coming (heard_home past) some)))

  module _ (later : Course) (goes : GoesOn (course_of all) later) where
    event_begins : EachAfter (MayBegin later) past entered
    event_begins = each_front (MayBegin later) past entered at
      where
        next : (b : Bool) (front : List Entry) (unit : List ℕ) (rest : List Entry) → entered ≡ front ++ entry.Written by_chip unit ∷ rest → begins_next later (past ++ front) ≡ b
            → BringsNext b later (past ++ front) unit
        next false front unit rest is begins = tt
        next true front unit rest is begins =
            let first : List (List ℕ) = begun later (past ++ front) ++ unit ∷ [] in
            let more : List (List ℕ) = shown_after (begun_at later) ((past ++ front) ++ entry.Written by_chip unit ∷ []) rest in
            let parts : brought_by (submitted_in all) ≡ flat_map bringing_in first ++ flat_map bringing_in more =
            sym (texts_bring (submitted_in all))
            ∙ ap (λ (l : List (List ℕ)). flat_map bringing_in l) (began [] steps frames past o e serves later goes front unit rest is begins)
            ∙ flat_map-append bringing_in first more in
            heard_grows (flat_map bringing_in first) past front
            (picked_prefix (flat_map bringing_in first) (flat_map bringing_in more) (heard_home past) (subst (λ (l : List Carried). ArePicked l (heard_home past)) parts begun_some))

        at : (front : List Entry) (one : Entry) (rest : List Entry) → entered ≡ front ++ one ∷ rest → MayBegin later (past ++ front) one
        at front (entry.Written by_chip unit) rest is = next (begins_next later (past ++ front)) front unit rest is refl
        at front (entry.Written by_host unit) rest is = tt
        at front one rest is = tt

  pub brings_event : {before : List Carried} → Brings steps frames before past → Brings all grown coming (past ++ (chip_does o e).entries)
  unfolding chip_does
  brings_event was = record {
    some = heard_grows (brought_by grown ++ coming) past entered some;
    turns = λ later goes. each-append (MayBegin later) [] past entered (was.turns later (goes_back steps (link_steps o.chip.state e) later goes)) (event_begins later goes);
  }

-- ---- entries that tell nothing of the chip's units

aside_begins : (course : Course) (past : List Entry) (e : Entry) → IsAside e → MayBegin course past e
aside_begins course past (entry.Written by_chip unit) aside = absurd aside
aside_begins course past (entry.Written by_host unit) aside = tt
aside_begins course past e aside = tt

module _ (steps : List Step) (frames : List FrameParts) (past : List Entry) where
  turns_on : (told : List Entry) → AreAside told → (later : Course) → EachAfter (MayBegin later) [] past → EachAfter (MayBegin later) [] (past ++ told)
  turns_on told aside later was = each-append (MayBegin later) [] past told was (each-anywhere (MayBegin later) IsAside (aside_begins later) past told aside)

  pub brings_aside : (coming : List Carried) (told : List Entry) → AreAside told → Brings steps frames coming past → Brings steps frames coming (past ++ told)
  brings_aside coming told aside was = record {
    some = heard_grows (brought_by frames ++ coming) past told was.some;
    turns = λ later goes. turns_on told aside later (was.turns later goes);
  }

  -- what is heard is to come
  pub brings_heard : (number : ℕ) (coming : List Carried) → homeward (frame_of past number) ≡ coming → Brings steps frames [] past → Brings steps frames coming (past ++ entry.Heard number ∷ [])
  brings_heard number coming is was = record {
    some =
        subst (λ (l : List Carried). ArePicked (brought_by frames ++ coming) l) (sym (heard_more past number ∙ ap (λ (l : List Carried). heard_home past ++ l) is))
        (picked_both (brought_by frames) coming (heard_home past) coming (subst (λ (l : List Carried). ArePicked l (heard_home past)) (append-nil (brought_by frames)) was.some) (picked_same coming));
    turns = λ later goes. turns_on (entry.Heard number ∷ []) (tt, tt) later (was.turns later goes);
  }

  -- it does not come
  pub brings_less : (coming : List Carried) → Brings steps frames coming past → Brings steps frames [] past
  brings_less coming was = record {
    some = subst (λ (l : List Carried). ArePicked l (heard_home past)) (sym (append-nil (brought_by frames))) (picked_prefix (brought_by frames) coming (heard_home past) was.some);
    turns = was.turns;
  }

-- ---- events that bring nothing

one_none : (f : FrameParts) → bringing_in (unit_text (Framed f)) ≡ [] → brought_by (f ∷ []) ≡ []
one_none f none = ap (λ (l : List Carried). l ++ []) none

abort_none : (o : Option SendingParts) → brought_by (listed_of (abort_frame o)) ≡ []
abort_none None = refl
abort_none (Some sending) = one_none (callback_frame sending Fail) (callback_bringing sending Fail)

reply_none : (s : ChipState) (request : Request) → brought_by (listed_of (reply_to s request)) ≡ []
reply_none s GetInitData = refl
reply_none s GetCapabilities = refl
reply_none s (SendData node payload options id) = refl
reply_none s GetVersion = refl
reply_none s SendDataAbort = abort_none s.sending
reply_none s MemoryGetId = refl
reply_none s (GetNodeProtocolInfo node) = refl
reply_none s (AddNode mode id) = refl
reply_none s (RequestNodeInfo node) = refl
reply_none s (IsFailedNode node) = refl
reply_none s (GetRoutingInfo node x y z) = refl

judged_none : (f : Option FrameParts) (s : ChipState) → brought_by (judged_posts f s) ≡ []
judged_none None s = refl
judged_none (Some f) s = by (asked_of f)
  where
    by : (request : Option Request) → brought_by (listed_of (reply_if s request)) ≡ []
    by None = refl
    by (Some request) = reply_none s request

ended_none : (o : Option SendingParts) (status : TransmitStatus) → brought_by (ended_posts o status) ≡ []
ended_none None status = refl
ended_none (Some sending) status = one_none (callback_frame sending status) (callback_bringing sending status)

-- no payload is heard
abbrev pub HearsNone : ChipEvent → Type 0
HearsNone (chip_hears node payload) = ⊥
HearsNone event = Unit {0}

pub posts_none : (s : ChipState) (e : ChipEvent) → HearsNone e → brought_by (posts s e) ≡ []
posts_none s (Judged item way) none = judged_none (passed (collides s) item) (hears s item)
posts_none s Ticked none = refl
posts_none s (chip_hears node payload) none = absurd none
posts_none s (Done status) none = by (s.aborted == 0)
  where
    by : (b : Bool) → brought_by (if b then ended_posts s.sending status else []) ≡ []
    by true = ended_none s.sending status
    by false = refl
posts_none s (Informed node profile) none = one_none (notice_frame (ApplicationUpdate (update_of node profile))) (update_bringing (update_of node profile))
posts_none s (Joined node listening) none = refl
posts_none s (Linked a b live) none = refl
posts_none s (Forgets a b) none = refl
posts_none s Collides none = refl

pub some_more : (frames more : List FrameParts) (past : List Entry) → brought_by more ≡ [] → BringSome frames [] past → BringSome (frames ++ more) [] past
some_more frames more past none was =
    subst (λ (l : List Carried). ArePicked (l ++ []) (heard_home past)) (sym (brought_both frames more ∙ ap (λ (l : List Carried). brought_by frames ++ l) none ∙ append-nil (brought_by frames))) was

-- ---- a payload that is heard

pub some_heard : (frames : List FrameParts) (s : ChipState) (node : ℕ) (payload : List ℕ) (past : List Entry) → 1 ≤ length payload → BringSome frames (record { node = node; payload = payload } ∷ []) past
    → BringSome (frames ++ posts s (chip_hears node payload)) [] past
some_heard frames s node payload past long was =
    let one : Carried = record { node = node; payload = payload } in
    let more : List FrameParts = posts s (chip_hears node payload) in
    subst (λ (l : List Carried). ArePicked l (heard_home past)) (sym (append-nil (brought_by (frames ++ more)) ∙ brought_both frames more))
    (picked_of (brought_by frames ++ brought_by more) (brought_by frames ++ one ∷ []) (heard_home past)
    (picked_both (brought_by frames) (brought_by more) (brought_by frames) (one ∷ []) (picked_same (brought_by frames)) own) was)
  where
    own : ArePicked (brought_by (posts s (chip_hears node payload))) (record { node = node; payload = payload } ∷ [])
    own = by (handler_bringing node payload long)
      where
        by : BringsOwn node payload → ArePicked (brought_by (posts s (chip_hears node payload))) (record { node = node; payload = payload } ∷ [])
        by (inl none) = subst (λ (l : List Carried). ArePicked (l ++ []) (record { node = node; payload = payload } ∷ [])) (sym none) tt
        by (inr is) = subst (λ (l : List Carried). ArePicked (l ++ []) (record { node = node; payload = payload } ∷ [])) (sym is) (inl (refl, tt))
