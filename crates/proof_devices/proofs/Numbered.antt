-- Where frames are numbered in order, the way of a frame that the transcript shows at its place is that of the frame of its number, with what had become of it when it went on the air.
use Rattle.std.proofs.Common.{◌≡◌, ℕ, zero, suc, ◌+◌, ◌≤◌, ◌==◌, ◌&&◌, ◌||◌, nat_lt, Bool, true, false, if◌then◌else◌, List, [], ◌∷◌, ◌++◌, map, length, refl, sym, ap, ap₂, subst, ◌∙◌, append-nil, append_assoc, length-append, arith}
use Rattle.std.proofs.lemmas.Bool.{eq-eqb, ne_eqb}
use Rattle.std.proofs.lemmas.List.Folds.{list_any-append}
use Rattle.std.specs.Prelude.{Option, Some, None, slice_get}
use Rattle.std.specs.Option.{option_map}
use Rattle.std.specs.List.{list_any}
use Rattle.device_sim.specs.State.{State}
use Rattle.route_table.specs.Network.{Link}
use Rattle.zw_text.specs.declared.entry.Entry.{Entry}
use Rattle.zw_text.specs.declared.entry.Entry.TheVariants as entry
use Rattle.zw_text.specs.Transcript.{AirFrame, Fate, frame_at, frames}
use Rattle.zw_text.proofs.Views.{shown-append}
use Rattle.law_transcript.specs.Fates.{MayAir, marks_left, marked}
use Rattle.law_transcript.specs.Lists.{EachAfter, listed, shown_after}
use Rattle.law_transcript.specs.Repeats.{frame_of, up_to_frame}
use Rattle.law_transcript.specs.Restarts.{repeats}
use Rattle.law_wire.specs.Arriving.{fate_due, fates_due, had_no_way, is_marked, IsHeardWhereDue, MayMeet}
use Rattle.law_wire.specs.Networks.{air_links}
use Rattle.proof_air.proofs.Counting.{at_its_place, each-left}
use Rattle.proof_routes.specs.Forgetting.{Passage, has_no_way, passage_at}
use Rattle.proof_routes.proofs.Books.{air_grows}
use Rattle.proof_routes.proofs.Passages.{GoesSo}
use Rattle.proof_devices.specs.Meeting.{fate_over, Meets, IsHeardSo, MayMeetSo}
use Rattle.proof_devices.proofs.Again.{only}

-- ---- marks

-- a mark is of this frame
one_marked : (b : Bool) (n k : ℕ) → list_any (λ one. one == k) (if b then n ∷ [] else []) ≡ (b && (n == k))
one_marked true n k = only (n == k)
one_marked false n k = refl

with_own : (b x : Bool) → x ≡ false → ((b && true) || x) ≡ b
with_own true x none = refl
with_own false x none = none

without_other : (b x : Bool) → ((b && false) || x) ≡ x
without_other true x = refl
without_other false x = refl

grown : (before : List Entry) (e : Entry) (one : List AirFrame) → frame_at e ≡ one → length (frames (before ++ e ∷ [])) ≡ length (frames before) + length one
grown before e one is =
    ap length (shown-append frame_at before (e ∷ []) ∙ ap (λ (l : List AirFrame). frames before ++ l) (append-nil (frame_at e) ∙ is)) ∙ length-append (frames before) one

-- one of a frame that has gone is none of those that come
later_unmarked : (k : ℕ) (before rest : List Entry) → EachAfter MayAir before rest → k ≤ length (frames before) → list_any (λ one. one == k) (shown_after marked before rest) ≡ false
later_unmarked k before [] airs gone = refl
later_unmarked k before (entry.Air n sender receiver repeaters payload ∷ rest) airs gone =
    let this : Entry = entry.Air n sender receiver repeaters payload in
    let number : n ≡ length (frames before) + 1 = airs.0.0 in
    let apart : (n == k) ≡ false = ne_eqb n k (λ same. absurd (omega (arith, same, number, gone))) in
    let more = grown before this _ refl in
    list_any-append (λ one. one == k) (marked before this) (shown_after marked (before ++ this ∷ []) rest)
    ∙ (ap₂ (λ (a b : Bool). a || b) (one_marked (nat_lt 0 (marks_left before)) n k ∙ ap (λ (b : Bool). nat_lt 0 (marks_left before) && b) apart)
    (later_unmarked k (before ++ this ∷ []) rest airs.1 (omega (arith, gone, more)))
    ∙ without_other (nat_lt 0 (marks_left before)) false)
later_unmarked k before (e ∷ rest) airs gone = let more = grown before e [] refl in later_unmarked k (before ++ e ∷ []) rest airs.1 (omega (arith, gone, more))

-- ---- the frame at a place

record Shows (before rest : List Entry) (at : ℕ) (passage : Passage) : Type 0 where
  pub frame : AirFrame
  pub found : slice_get (frames rest) at ≡ Some frame
  pub goes : GoesSo frame passage
  pub number : frame.number ≡ (length (frames before) + at) + 1
  pub lost : passage.lost ≡ (list_any (λ one. one == frame.number) (shown_after marked before rest)
      || has_no_way (air_links (before ++ up_to_frame frame.number rest)) frame.sender frame.repeaters frame.receiver)

-- the one that stands first
shows_first : (before rest : List Entry) (n sender receiver : ℕ) (repeaters payload : List ℕ) (passage : Passage) → EachAfter MayAir before (entry.Air n sender receiver repeaters payload ∷ rest)
    → slice_get (shown_after passage_at before (entry.Air n sender receiver repeaters payload ∷ rest)) zero ≡ Some passage → Shows before (entry.Air n sender receiver repeaters payload ∷ rest) zero passage
shows_first before rest n sender receiver repeaters payload passage airs is =
    let this : Entry = entry.Air n sender receiver repeaters payload in
    let number : n ≡ length (frames before) + 1 = airs.0.0 in
    let own : (n == n) ≡ true = eq-eqb n n refl in
    let has_mark : Bool = nat_lt 0 (marks_left before) in
    let from : Some sender ≡ Some passage.sender = ap (option_map (λ (p : Passage). p.sender)) is in
    let to : Some receiver ≡ Some passage.receiver = ap (option_map (λ (p : Passage). p.receiver)) is in
    let over : Some repeaters ≡ Some passage.over = ap (option_map (λ (p : Passage). p.over)) is in
    let lost : Some (has_mark || has_no_way (air_links before) sender repeaters receiver) ≡ Some passage.lost = ap (option_map (λ (p : Passage). p.lost)) is in
    let lost_is : passage.lost ≡ (has_mark || has_no_way (air_links before) sender repeaters receiver) = cc in
    let more = grown before this _ refl in
    let marks : list_any (λ one. one == n) (shown_after marked before (this ∷ rest)) ≡ has_mark
    = list_any-append (λ one. one == n) (marked before this) (shown_after marked (before ++ this ∷ []) rest)
    ∙ (ap (λ (b : Bool). b || list_any (λ one. one == n) (shown_after marked (before ++ this ∷ []) rest)) (one_marked has_mark n n ∙ ap (λ (b : Bool). has_mark && b) own)
    ∙ with_own has_mark _ (later_unmarked n (before ++ this ∷ []) rest airs.1 (omega (arith, number, more)))) in
    let links : air_links (before ++ up_to_frame n (this ∷ rest)) ≡ air_links before
    = ap (λ (b : Bool). air_links (before ++ this ∷ (if b then [] else up_to_frame n rest))) own ∙ air_grows before this in
    record {
      frame = _;
      found = refl;
      goes = record { sender = cc; receiver = cc; over = cc };
      number = omega (arith, number);
      lost = lost_is ∙ sym (ap₂ (λ (b : Bool) (l : List Link). b || has_no_way l sender repeaters receiver) marks links);
    }

-- one that stands behind a frame
shows_behind : (before rest : List Entry) (n sender receiver : ℕ) (repeaters payload : List ℕ) (at : ℕ) (passage : Passage) → n ≡ length (frames before) + 1
    → Shows (before ++ entry.Air n sender receiver repeaters payload ∷ []) rest at passage → Shows before (entry.Air n sender receiver repeaters payload ∷ rest) (suc at) passage
shows_behind before rest n sender receiver repeaters payload at passage number shows =
    let this : Entry = entry.Air n sender receiver repeaters payload in
    let k : ℕ = shows.frame.number in
    let more = grown before this _ refl in
    let later = shows.number in
    let apart : (n == k) ≡ false = ne_eqb n k (λ same. absurd (omega (arith, same, number, more, later))) in
    let has_mark : Bool = nat_lt 0 (marks_left before) in
    let marks : list_any (λ one. one == k) (shown_after marked before (this ∷ rest)) ≡ list_any (λ one. one == k) (shown_after marked (before ++ this ∷ []) rest)
    = list_any-append (λ one. one == k) (marked before this) (shown_after marked (before ++ this ∷ []) rest)
    ∙ (ap (λ (b : Bool). b || list_any (λ one. one == k) (shown_after marked (before ++ this ∷ []) rest)) (one_marked has_mark n k ∙ ap (λ (b : Bool). has_mark && b) apart)
    ∙ without_other has_mark _) in
    let links : air_links (before ++ up_to_frame k (this ∷ rest)) ≡ air_links ((before ++ this ∷ []) ++ up_to_frame k rest)
    = ap (λ (b : Bool). air_links (before ++ this ∷ (if b then [] else up_to_frame k rest))) apart ∙ ap air_links (sym (append_assoc before (this ∷ []) (up_to_frame k rest))) in
    record {
      frame = shows.frame;
      found = shows.found;
      goes = shows.goes;
      number = omega (arith, more, later);
      lost = shows.lost ∙ sym (ap₂ (λ (b : Bool) (l : List Link). b || has_no_way l shows.frame.sender shows.frame.repeaters shows.frame.receiver) marks links);
    }

-- and behind anything else
shows_on : (before rest : List Entry) (e : Entry) (at : ℕ) (passage : Passage) → frame_at e ≡ [] → marked before e ≡ [] → ((k : ℕ) → up_to_frame k (e ∷ rest) ≡ e ∷ up_to_frame k rest)
    → Shows (before ++ e ∷ []) rest at passage → Shows before (e ∷ rest) at passage
shows_on before rest e at passage none unmarked same shows =
    let k : ℕ = shows.frame.number in
    let more = grown before e [] none in
    let later = shows.number in
    record {
      frame = shows.frame;
      found = ap (λ (l : List AirFrame). slice_get (l ++ frames rest) at) none ∙ shows.found;
      goes = shows.goes;
      number = omega (arith, more, later);
      lost = shows.lost ∙ sym (ap₂ (λ (a : List ℕ) (l : List Entry). list_any (λ one. one == k) (a ++ shown_after marked (before ++ e ∷ []) rest)
          || has_no_way (air_links l) shows.frame.sender shows.frame.repeaters shows.frame.receiver) unmarked (ap (λ (l : List Entry). before ++ l) (same k) ∙ sym (append_assoc before (e ∷ []) (up_to_frame k rest))));
    }

shown_at : (before rest : List Entry) → EachAfter MayAir before rest → (at : ℕ) (passage : Passage) → slice_get (shown_after passage_at before rest) at ≡ Some passage → Shows before rest at passage
shown_at before [] airs at passage is = absurd (let none : None ≡ Some passage = is in cc)
shown_at before (entry.Air n sender receiver repeaters payload ∷ rest) airs zero passage is = shows_first before rest n sender receiver repeaters payload passage airs is
shown_at before (entry.Air n sender receiver repeaters payload ∷ rest) airs (suc at) passage is =
    shows_behind before rest n sender receiver repeaters payload at passage airs.0.0
    (shown_at (before ++ entry.Air n sender receiver repeaters payload ∷ []) rest airs.1 at passage is)
shown_at before (e ∷ rest) airs at passage is = shows_on before rest e at passage refl refl (λ k. refl) (shown_at (before ++ e ∷ []) rest airs.1 at passage is)

-- ---- the fate that is due

module _ (devices : List State) where
  due_is : (past : List Entry) (frame : AirFrame) (passage : Passage) → GoesSo frame passage → passage.lost ≡ (is_marked past frame.number || had_no_way past frame)
      → fate_due devices past frame ≡ fate_over devices past passage.lost passage.sender passage.over passage.receiver
  due_is past frame passage goes lost =
      ap (λ (b : Bool). fate_over devices past b frame.sender frame.repeaters frame.receiver) (sym lost)
      ∙ (ap (λ (n : ℕ). fate_over devices past passage.lost n frame.repeaters frame.receiver) goes.sender
      ∙ (ap (λ (l : List ℕ). fate_over devices past passage.lost passage.sender l frame.receiver) goes.over
      ∙ ap (λ (n : ℕ). fate_over devices past passage.lost passage.sender passage.over n) goes.receiver))

  meets_due : (past : List Entry) (number : ℕ) (fate : Fate) → EachAfter MayAir [] past → Meets devices past number fate → fates_due devices past number ≡ fate ∷ []
  meets_due past number fate airs meets =
      let shows = shown_at [] past airs meets.at meets.passage meets.there in
      let found : frame_of past number ≡ Some shows.frame = ap (frame_of past) meets.number_is ∙ (at_its_place past meets.at ∙ shows.found) in
      ap (λ (o : Option AirFrame). map (fate_due devices past) (listed o)) found ∙ ap (λ (f : Fate). f ∷ []) (due_is past shows.frame meets.passage shows.goes shows.lost ∙ meets.fate_is)

  heard_due : (b : Bool) (past : List Entry) (number : ℕ) → EachAfter MayAir [] past → IsHeardSo b devices past number → IsHeardWhereDue b devices past number
  heard_due true past number airs hears = hears
  heard_due false past number airs meets = meets_due past number _ airs meets

  may_meet : (past : List Entry) (e : Entry) → EachAfter MayAir [] past → MayMeetSo devices past e → MayMeet devices past e
  may_meet past (entry.Heard number) airs hears = heard_due (repeats past) past number airs hears
  may_meet past (entry.Lost number) airs meets = meets_due past number _ airs meets
  may_meet past (entry.Unheard number) airs meets = meets_due past number _ airs meets
  may_meet past e airs meets = tt

  pub all_meet : (past rest : List Entry) → EachAfter MayAir [] (past ++ rest) → EachAfter (MayMeetSo devices) past rest → EachAfter (MayMeet devices) past rest
  all_meet past [] airs meets = tt
  all_meet past (e ∷ rest) airs meets = (
    may_meet past e (each-left MayAir [] past (e ∷ rest) airs) meets.0,
    all_meet (past ++ e ∷ []) rest (subst (EachAfter MayAir []) (sym (append_assoc past (e ∷ []) rest)) airs) meets.1,
  )
