-- The frames that the air keeps go as the transcript says, whatever is sent, arrives, or is pushed out.
use Rattle.std.proofs.Common.{◌≡◌, ◌<◌, ℕ, zero, suc, ◌+◌, ◌-◌, nat_lt, Bool, true, false, if◌then◌else◌, List, [], ◌∷◌, ◌++◌, map, drop, length, slice_get, refl, sym, ap, ap₂, ◌∙◌, append-nil, append_assoc, length-append, length-drop, arith}
use Rattle.std.proofs.lemmas.Bool.{ltb-true}
use Rattle.std.proofs.lemmas.List.{length-map, map-append, drop-map, drop-append-le}
use Rattle.std.specs.Prelude.{Some, None}
use Rattle.std.specs.Option.{option_map}
use Rattle.std.specs.List.{AllByRecursion}
use Rattle.zw_base.proofs.Each.{all-append}
use Rattle.circular_buffer.specs.Buffer.{keep_last}
use Rattle.circular_buffer.proofs.Places.{slice_get-drop}
use Rattle.air_frames.specs.declared.frame.Departure.{Departure}
use Rattle.air_frames.specs.Flown.{Flown}
use Rattle.air_frames.specs.Frames.{FramesState, kept, putting, landing, next_of}
use Rattle.air_frames.proofs.Counted.{keep_from}
use Rattle.zw_text.specs.declared.line.Line.{Line}
use Rattle.zw_text.specs.declared.entry.Entry.{Entry}
use Rattle.zw_text.specs.declared.entry.Entry.TheVariants as entry
use Rattle.zw_text.specs.Transcript.{AirFrame, frame_at, frames, line_of}
use Rattle.zw_text.proofs.Views.{shown-append, folded-append}
use Rattle.law_wire.specs.law_transcript.Fates.{mark_step, marks_left}
use Rattle.law_wire.specs.law_transcript.Lists.{shown_after}
use Rattle.law_wire.specs.Networks.{links_after, air_links}
use Rattle.proof_routes.specs.Forgetting.{Passage, passage_at, passage_by, passage_flown, passages, IsApartFrom, HasPassages}
use Rattle.proof_routes.proofs.Books.{air_grows}

-- ---- what a transcript shows

passages_both : (before xs ys : List Entry) → shown_after passage_at before (xs ++ ys) ≡ shown_after passage_at before xs ++ shown_after passage_at (before ++ xs) ys
passages_both before [] ys = ap (λ (l : List Entry). shown_after passage_at l ys) (sym (append-nil before))
passages_both before (x ∷ xs) ys =
    ap (λ (l : List Passage). passage_at before x ++ l)
    (passages_both (before ++ x ∷ []) xs ys ∙ ap (λ (l : List Entry). shown_after passage_at (before ++ x ∷ []) xs ++ shown_after passage_at l ys) (append_assoc before (x ∷ []) xs))
    ∙ sym (append_assoc (passage_at before x) (shown_after passage_at (before ++ x ∷ []) xs) (shown_after passage_at (before ++ x ∷ xs) ys))

pub passages_grow : (past told : List Entry) → passages (past ++ told) ≡ passages past ++ shown_after passage_at past told
passages_grow past told = passages_both [] past told

-- an entry that is neither a frame nor words of a line
abbrev pub IsNoFrame : Entry → Type 0
IsNoFrame (entry.Air frame sender receiver repeaters payload) = ⊥
IsNoFrame (entry.Said words) = ⊥
IsNoFrame _ = Unit {0}

one_none : (e : Entry) → IsNoFrame e → frame_at e ≡ []
one_none (entry.Air frame sender receiver repeaters payload) none = absurd none
one_none e none = refl

one_passes : (past : List Entry) (e : Entry) → IsNoFrame e → passage_at past e ≡ []
one_passes past (entry.Air frame sender receiver repeaters payload) none = absurd none
one_passes past e none = refl

one_line : (e : Entry) → IsNoFrame e → line_of e ≡ []
one_line (entry.Said words) none = absurd none
one_line e none = refl

one_mark : (marks : ℕ) (e : Entry) → IsNoFrame e → mark_step marks e ≡ marks
one_mark marks (entry.Air frame sender receiver repeaters payload) none = absurd none
one_mark marks (entry.Said words) none = absurd none
one_mark marks e none = refl

none_shown : (told : List Entry) → AllByRecursion IsNoFrame told → frames told ≡ []
none_shown [] none = refl
none_shown (e ∷ told) none = ap₂ (λ (a b : List AirFrame). a ++ b) (one_none e none.0) (none_shown told none.1)

pub frames_same : (past told : List Entry) → AllByRecursion IsNoFrame told → frames (past ++ told) ≡ frames past
frames_same past told none = shown-append frame_at past told ∙ (ap (λ (l : List AirFrame). frames past ++ l) (none_shown told none) ∙ append-nil (frames past))

none_pass : (past told : List Entry) → AllByRecursion IsNoFrame told → shown_after passage_at past told ≡ []
none_pass past [] none = refl
none_pass past (e ∷ told) none = ap₂ (λ (a b : List Passage). a ++ b) (one_passes past e none.0) (none_pass (past ++ e ∷ []) told none.1)

pub passages_same : (past told : List Entry) → AllByRecursion IsNoFrame told → passages (past ++ told) ≡ passages past
passages_same past told none = passages_grow past told ∙ (ap (λ (l : List Passage). passages past ++ l) (none_pass past told none) ∙ append-nil (passages past))

pub marks_grow : (past : List Entry) (e : Entry) → marks_left (past ++ e ∷ []) ≡ mark_step (marks_left past) e
marks_grow past e = folded-append mark_step 0 past (e ∷ [])

pub marks_same : (past told : List Entry) → AllByRecursion IsNoFrame told → marks_left (past ++ told) ≡ marks_left past
marks_same past [] none = ap marks_left (append-nil past)
marks_same past (e ∷ told) none =
    ap marks_left (sym (append_assoc past (e ∷ []) told)) ∙ (marks_same (past ++ e ∷ []) told none.1 ∙ (marks_grow past e ∙ one_mark (marks_left past) e none.0))

pub links_same : (past told : List Entry) → AllByRecursion IsNoFrame told → air_links (past ++ told) ≡ air_links past
links_same past [] none = ap air_links (append-nil past)
links_same past (e ∷ told) none =
    ap air_links (sym (append_assoc past (e ∷ []) told))
    ∙ (links_same (past ++ e ∷ []) told none.1 ∙ (air_grows past e ∙ ap (λ (l : List Line). links_after (air_links past) l) (one_line e none.0)))

-- words are no frame either
pub passages_said : (past : List Entry) (words : List ℕ) → passages (past ++ entry.Said words ∷ []) ≡ passages past
passages_said past words = passages_grow past (entry.Said words ∷ []) ∙ append-nil (passages past)

-- ---- what the air keeps

map_last : (count : ℕ) (all : List Flown) → map passage_flown (keep_last count all) ≡ keep_last count (map passage_flown all)
map_last count all = sym (drop-map passage_flown (length all - count) all) ∙ ap (λ (n : ℕ). drop (n - count) (map passage_flown all)) (sym (length-map all passage_flown))

-- a frame goes on the air
abbrev pub passage_put : Departure → Passage
passage_put departure = passage_by departure.heading departure.node departure.route departure.lost

pub put_passage : (shown : List Passage) (state : FramesState) (departure : Departure) → IsApartFrom (passage_put departure) → HasPassages shown state
    → HasPassages (shown ++ passage_put departure ∷ []) (putting state departure)
unfolding putting
put_passage shown state departure apart has =
    let one : Passage = passage_put departure in
    let o = has.order in
    let s = has.sent in
    let m : ℕ = state.sent - kept state.sent state.landed in
    let longer : length (shown ++ one ∷ []) ≡ state.sent + 1 = length-append shown (one ∷ []) ∙ ap (λ (n : ℕ). n + 1) (sym s) in
    record {
      sent = sym longer;
      order = omega (arith, o);
      stay =
          map_last (kept (state.sent + 1) state.landed) _
          ∙ (ap (λ (l : List Passage). keep_last (kept (state.sent + 1) state.landed) l) (map-append passage_flown state.frames _ ∙ ap (λ (l : List Passage). l ++ one ∷ []) has.stay)
          ∙ (ap (λ (l : List Passage). keep_last (kept (state.sent + 1) state.landed) l) (sym (drop-append-le m shown (one ∷ []) (omega (arith, s))))
          ∙ keep_from (state.sent + 1) m (kept (state.sent + 1) state.landed) (shown ++ one ∷ []) longer (omega (arith, o))));
      apart = all-append IsApartFrom shown (one ∷ []) has.apart (apart, tt);
    }

-- the next frame has arrived
pub land_passage : (shown : List Passage) (state : FramesState) → state.landed < state.sent → HasPassages shown state → HasPassages shown (landing state)
unfolding landing
land_passage shown state flying has =
    let o = has.order in
    record {
      sent = has.sent;
      order = omega (arith, flying);
      stay =
          map_last (kept state.sent (state.landed + 1)) state.frames
          ∙ (ap (λ (l : List Passage). keep_last (kept state.sent (state.landed + 1)) l) has.stay
          ∙ keep_from state.sent (state.sent - kept state.sent state.landed) (kept state.sent (state.landed + 1)) shown (sym has.sent) (omega (arith, o)));
      apart = has.apart;
    }

-- ---- the frame that arrives next

get_mapped : (all : List Flown) (at : ℕ) (frame : Flown) → slice_get all at ≡ Some frame → slice_get (map passage_flown all) at ≡ Some (passage_flown frame)
get_mapped [] at frame is = let none : None ≡ Some frame = is in absurd cc
get_mapped (first ∷ all) zero frame is = let same : first ≡ frame = cc in ap (λ (f : Flown). Some (passage_flown f)) same
get_mapped (first ∷ all) (suc at) frame is = get_mapped all at frame is

pub next_passage : (shown : List Passage) (state : FramesState) (frame : Flown) → HasPassages shown state → next_of state ≡ Some frame
    → (state.landed < state.sent) × (slice_get shown state.landed ≡ Some (passage_flown frame))
next_passage shown state frame has next = by (nat_lt state.landed state.sent) refl next
  where
    there : state.landed < state.sent → slice_get state.frames (state.landed - (state.sent - length state.frames)) ≡ Some frame → slice_get shown state.landed ≡ Some (passage_flown frame)
    there flying is =
        let s = has.sent in
        let m : ℕ = state.sent - kept state.sent state.landed in
        let many : length state.frames ≡ length shown - m = sym (length-map state.frames passage_flown) ∙ (ap length has.stay ∙ length-drop m shown) in
        let at : state.landed ≡ m + (state.landed - (state.sent - length state.frames)) = omega (arith, s, many, flying) in
        sym (slice_get-drop m shown (state.landed - (state.sent - length state.frames)) state.landed at)
        ∙ (ap (λ (l : List Passage). slice_get l (state.landed - (state.sent - length state.frames))) (sym has.stay)
        ∙ get_mapped state.frames (state.landed - (state.sent - length state.frames)) frame is)

    by : (b : Bool) → nat_lt state.landed state.sent ≡ b → (if b then slice_get state.frames (state.landed - (state.sent - length state.frames)) else None) ≡ Some frame
        → (state.landed < state.sent) × (slice_get shown state.landed ≡ Some (passage_flown frame))
    by true below is = (ltb-true state.landed state.sent below, there (ltb-true state.landed state.sent below) is)
    by false below is = let none : None ≡ Some frame = is in absurd cc

-- ---- the frame of the transcript at a place

-- it goes so
pub record GoesSo (frame : AirFrame) (passage : Passage) : Type 0 where
  pub sender : frame.sender ≡ passage.sender
  pub receiver : frame.receiver ≡ passage.receiver
  pub over : frame.repeaters ≡ passage.over

pub passage_got : (before rest : List Entry) (at : ℕ) (passage : Passage) → slice_get (shown_after passage_at before rest) at ≡ Some passage
    → (frame : AirFrame) × (slice_get (frames rest) at ≡ Some frame) × GoesSo frame passage
passage_got before [] at passage is = absurd (let none : None ≡ Some passage = is in cc)
passage_got before (entry.Air frame sender receiver repeaters payload ∷ rest) zero passage is =
    let from : Some sender ≡ Some passage.sender = ap (option_map (λ (p : Passage). p.sender)) is in
    let to : Some receiver ≡ Some passage.receiver = ap (option_map (λ (p : Passage). p.receiver)) is in
    let over : Some repeaters ≡ Some passage.over = ap (option_map (λ (p : Passage). p.over)) is in
    (_, refl, record { sender = cc; receiver = cc; over = cc })
passage_got before (entry.Air frame sender receiver repeaters payload ∷ rest) (suc at) passage is =
    passage_got (before ++ entry.Air frame sender receiver repeaters payload ∷ []) rest at passage is
passage_got before (e ∷ rest) at passage is = passage_got (before ++ e ∷ []) rest at passage is
