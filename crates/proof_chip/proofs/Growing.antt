-- What is known of the chip's link goes on with each event of the chip, and with entries that tell nothing of it.
use Rattle.std.proofs.Common.{◌≡◌, ◌≤◌, ℕ, ◌+◌, ◌==◌, Bool, true, List, [], ◌∷◌, ◌++◌, map, filter, length, refl, sym, ap, ap₂, ◌∙◌, subst, append-nil, append_assoc, length-append, lit≤, arith, inl, inr}
use Rattle.std.proofs.lemmas.Bool.{eqb-true}
use Rattle.std.proofs.lemmas.List.{map-append}
use Rattle.std.proofs.lemmas.List.Elements.{filter-append}
use Rattle.serial_frame.specs.Frame.{FrameParts}
use Rattle.serial_frame.specs.Items.{unit_text}
use Rattle.serial_frame.specs.declared.unit.Unit.{Unit as LineUnit}
use Rattle.serial_link.specs.State.{Side as LinkSide}
use Rattle.serial_link.specs.Rules.{Step, SideObeys}
use Rattle.chip_sim.specs.Waiting.{PortState, no_port}
use Rattle.chip_sim.specs.State.{ChipState}
use Rattle.chip_sim.specs.Events.{ChipEvent, after, outs}
use Rattle.chip_sim.specs.Link.{link_steps}
use Rattle.chip_sim.specs.Rules.{WaitsWell, WaitsWhileBusy, begun_at, drops as drops_at, kept, posts}
use Rattle.chip_sim.specs.declared.out.ChipOut.{ChipOut}
use Rattle.chip_sim.specs.declared.out.ChipOut.TheVariants.{Full}
use Rattle.chip_sim.proofs.Links.{obeys_event, units_event}
use Rattle.chip_sim.proofs.Steps.{drop_event, order_event, well_event}
use Rattle.zw_words.specs.declared.side.Side.TheVariants.{Chip as by_chip}
use Rattle.zw_text.specs.declared.entry.Entry.{Entry}
use Rattle.zw_text.specs.declared.entry.Entry.TheVariants as entry
use Rattle.zw_text.specs.Transcript.{unit_at, written}
use Rattle.zw_text.proofs.Views.{shown-append}
use Rattle.law_transcript.specs.Lists.{shown_after}
use Rattle.law_wire.specs.Asked.{Course, course_of, acks, is_ack}
use Rattle.law_wire.specs.Given.{Given}
use Rattle.law_wire.specs.Answering.{begun, drops, dropped, dropped_at, most_waiting, without}
use Rattle.outside_model.specs.State.{OuterState, each, with_chip}
use Rattle.outside_model.specs.Chip.{put_out, chip_does}
use Rattle.proof_chip.specs.Serving.{Lie, Serves, as_given, frame_texts, submitted_in, unit_texts}
use Rattle.proof_chip.proofs.Dropping.{lie_last, lie_more, without_last, without_more}
use Rattle.proof_chip.proofs.Picking.{begun_picked, dropped_later, picked, picked_both, shown_both}
use Rattle.proof_chip.proofs.Posting.{Fate, Falls, Stays, IsFew, fate_of, full_none, posts_few}
use Rattle.proof_chip.proofs.Submitting.{as_many, firsts_both, firsts_of, passed_both, passed_of, steps_begin, steps_copy, steps_pass, steps_submit, submitted_both, texts_both}
use Rattle.proof_chip.proofs.Telling.{AreAside, aside_drops, aside_written, drops_later, drops_one, no_places, puts_both, puts_drops, puts_written}

-- ---- lists

pub written_later : (past told : List Entry) → written by_chip (past ++ told) ≡ written by_chip past ++ written by_chip told
written_later past told = shown-append (unit_at by_chip) past told

acks_later : (past told : List Entry) → acks (past ++ told) ≡ acks past + length (filter is_ack (written by_chip told))
acks_later past told =
    ap (λ (l : List (List ℕ)). length (filter is_ack l)) (written_later past told)
    ∙ ap (λ (l : List (List ℕ)). length l) (filter-append is_ack (written by_chip past) (written by_chip told))
    ∙ length-append (filter is_ack (written by_chip past)) (filter is_ack (written by_chip told))

pub given_both : (a b : List FrameParts) → as_given (a ++ b) ≡ as_given a ++ as_given b
given_both a b = map-append _ a b

pub many_given : (frames : List FrameParts) → length (as_given frames) ≡ length frames
many_given [] = refl
many_given (f ∷ frames) = let rest = many_given frames in omega (arith, rest)

pub many_frames : (frames : List FrameParts) → length (frame_texts frames) ≡ length frames
many_frames [] = refl
many_frames (f ∷ frames) = let rest = many_frames frames in omega (arith, rest)

pub frames_both : (a b : List FrameParts) → frame_texts (a ++ b) ≡ frame_texts a ++ frame_texts b
frames_both a b = map-append _ a b

many_texts : (texts : List (List ℕ)) (frames : List FrameParts) → texts ≡ frame_texts frames → length texts ≡ length frames
many_texts texts frames are = ap length are ∙ many_frames frames

-- ---- entries that tell nothing

module _ (steps : List Step) (frames : List FrameParts) (past told : List Entry) (port later : PortState) (aside : AreAside told) where
  same_written : written by_chip (past ++ told) ≡ written by_chip past
  same_written = written_later past told ∙ ap (λ (l : List (List ℕ)). written by_chip past ++ l) (aside_written told aside) ∙ append-nil (written by_chip past)

  pub serves_aside : later.side ≡ port.side → later.waiting ≡ port.waiting → Serves steps frames past port → Serves steps frames (past ++ told) later
  serves_aside side waiting serves =
      let course : Course = course_of steps in
      let same_drops : drops (past ++ told) ≡ drops past = drops_later past told ∙ ap (λ (n : ℕ). drops past + n) (aside_drops told aside) ∙ plus_none (drops past) in
      let same_places : dropped course (past ++ told) ≡ dropped course past =
      shown_both (dropped_at course) [] past told ∙ ap (λ (l : List ℕ). dropped course past ++ l) (no_places course told past (aside_drops told aside)) ∙ append-nil (dropped course past) in
      record {
        obeys = subst (λ (s : LinkSide). SideObeys steps s) (sym side) serves.obeys;
        units = same_written ∙ serves.units;
        starts = begun_picked course (past ++ told) ∙ ap (λ (l : List (List ℕ)). picked course.firsts l) same_written ∙ sym (begun_picked course past) ∙ serves.starts;
        passed = serves.passed ∙ ap (λ (l : List (List ℕ)). length (filter is_ack l)) (sym same_written);
        kept = ap (λ (l : List ℕ). without l (as_given frames)) same_places ∙ serves.kept ∙ ap (λ (l : List FrameParts). as_given (submitted_in steps ++ l)) (sym waiting);
        places = subst (λ (l : List ℕ). Lie l (length frames)) (sym same_places) serves.places;
        count = serves.count ∙ ap₂ (λ (n : ℕ) (l : List FrameParts). length (submitted_in steps) + (n + length l)) (sym same_drops) (sym waiting);
        waits = well_as serves.waits side waiting;
      }
    where
      plus_none : (n : ℕ) → n + 0 ≡ n
      plus_none n = omega arith

      well_as : WaitsWell port → later.side ≡ port.side → later.waiting ≡ port.waiting → WaitsWell later
      well_as well side waiting =
          record {
            busy = subst (λ (l : List FrameParts). WaitsWhileBusy later.side.turn l) (sym waiting) (subst (λ (x : LinkSide). WaitsWhileBusy x.turn port.waiting) (sym side) well.busy);
            few = subst (λ (l : List FrameParts). length l ≤ 32) (sym waiting) well.few;
          }

-- ---- an event of the chip

module _ (steps : List Step) (frames : List FrameParts) (past : List Entry) (o : OuterState) (e : ChipEvent) (serves : Serves steps frames past o.chip.state.port) where
  abbrev pub s : ChipState
  s = o.chip.state

  abbrev pub more : List Step
  more = link_steps s e

  abbrev pub now : Course
  now = course_of steps

  abbrev pub later : Course
  later = course_of (steps ++ more)

  abbrev pub start : OuterState
  start = with_chip o (after s e)

  abbrev pub told : List Entry
  told = (each put_out start (outs s e)).entries

  told_written : written by_chip told ≡ unit_texts more
  told_written = puts_written (outs s e) start ∙ ap (λ (l : List LineUnit). map (λ (unit : LineUnit). unit_text unit) l) (units_event s e)

  pub all_written : written by_chip (past ++ told) ≡ unit_texts steps ++ unit_texts more
  all_written = written_later past told ∙ ap₂ (λ (a b : List (List ℕ)). a ++ b) serves.units told_written

  all_firsts : later.firsts ≡ now.firsts ++ firsts_of more
  all_firsts = firsts_both steps more

  units_enough : length (written by_chip past) ≤ length now.firsts
  units_enough = let same = ap (λ (l : List (List ℕ)). length l) serves.units ∙ sym (as_many steps) in omega (arith, same)

  places_before : dropped later past ≡ dropped now past
  places_before = dropped_later now later (firsts_of more) all_firsts past [] units_enough

  -- and of some units more
  begun_more : (rest : List Entry) → begun later (past ++ rest) ≡ frame_texts (submitted_in steps) ++ picked (firsts_of more) (written by_chip rest)
  begun_more rest =
      begun_picked later (past ++ rest)
      ∙ ap₂ (λ (flags : List Bool) (xs : List (List ℕ)). picked flags xs) all_firsts (written_later past rest)
      ∙ picked_both now.firsts (firsts_of more) (written by_chip past) (written by_chip rest) (as_many steps ∙ sym (ap (λ (l : List (List ℕ)). length l) serves.units))
      ∙ ap (λ (l : List (List ℕ)). l ++ picked (firsts_of more) (written by_chip rest)) (sym (begun_picked now past) ∙ serves.starts)

  pub all_begun : begun later (past ++ told) ≡ frame_texts (submitted_in (steps ++ more))
  all_begun =
      begun_more told
      ∙ ap (λ (l : List (List ℕ)). frame_texts (submitted_in steps) ++ picked (firsts_of more) l) told_written
      ∙ ap (λ (l : List (List ℕ)). frame_texts (submitted_in steps) ++ l) (steps_begin s e ∙ ap (λ (l : List FrameParts). frame_texts l) (sym (steps_submit s e)))
      ∙ sym (frames_both (submitted_in steps) (submitted_in more))
      ∙ ap (λ (l : List FrameParts). frame_texts l) (sym (submitted_both steps more))

  all_passed : length later.passed ≡ acks (past ++ told)
  all_passed =
      let parts = ap (λ (l : List FrameParts). length l) (passed_both steps more) ∙ length-append now.passed (passed_of more) in
      let acked = acks_later past told ∙ ap (λ (l : List (List ℕ)). acks past + length (filter is_ack l)) told_written in
      let before = serves.passed in
      let here = steps_pass s e in
      omega (arith, parts, acked, before, here)

  -- ---- the frames

  -- those that were begun, and then those that wait
  abbrev pub held : List FrameParts
  held = submitted_in steps ++ s.port.waiting

  abbrev pub port_after : PortState
  port_after = (after s e).port

  held_later : held ++ kept s e ≡ submitted_in (steps ++ more) ++ port_after.waiting
  held_later =
      append_assoc (submitted_in steps) s.port.waiting (kept s e)
      ∙ ap (λ (l : List FrameParts). submitted_in steps ++ l) (order_event s e serves.waits)
      ∙ sym (append_assoc (submitted_in steps) (begun_at s e) port_after.waiting)
      ∙ ap (λ (l : List FrameParts). (submitted_in steps ++ l) ++ port_after.waiting) (sym (steps_submit s e))
      ∙ ap (λ (l : List FrameParts). l ++ port_after.waiting) (sym (submitted_both steps more))

  pub count_later : length (submitted_in (steps ++ more)) + length port_after.waiting ≡ length (submitted_in steps) + length s.port.waiting + length (kept s e)
  count_later =
      let both = ap (λ (l : List FrameParts). length l) held_later in
      let left = length-append held (kept s e) in
      let first = length-append (submitted_in steps) s.port.waiting in
      let right = length-append (submitted_in (steps ++ more)) port_after.waiting in
      omega (arith, both, left, first, right)

  pub told_drops : drops told ≡ length (drops_at s e)
  told_drops = puts_drops (outs s e) start ∙ ap (λ (l : List ChipOut). length l) (drop_event s e serves.waits)

  -- what is known once the frames are
  pub record Holds : Type 0 where
    pub left : without (dropped later (past ++ told)) (as_given (frames ++ posts s e)) ≡ as_given (submitted_in (steps ++ more) ++ port_after.waiting)
    pub lie : Lie (dropped later (past ++ told)) (length (frames ++ posts s e))
    pub many : length (frames ++ posts s e) ≡ length (submitted_in (steps ++ more)) + (drops (past ++ told) + length port_after.waiting)

  -- all of them stay
  more_kept : IsFew (posts s e) → without (dropped now past) (as_given (frames ++ posts s e)) ≡ as_given held ++ as_given (posts s e)
  more_kept (inl none) =
      ap (λ (l : List FrameParts). without (dropped now past) (as_given (frames ++ l))) none
      ∙ ap (λ (l : List FrameParts). without (dropped now past) (as_given l)) (append-nil frames)
      ∙ serves.kept
      ∙ sym (append-nil (as_given held))
      ∙ ap (λ (l : List FrameParts). as_given held ++ as_given l) (sym none)
  more_kept (inr (f, one)) =
      ap (λ (l : List FrameParts). without (dropped now past) (as_given (frames ++ l))) one
      ∙ ap (λ (l : List Given). without (dropped now past) l) (given_both frames (f ∷ []))
      ∙ without_more (dropped now past) (as_given frames) _ (subst (λ (n : ℕ). Lie (dropped now past) n) (sym (many_given frames)) serves.places)
      ∙ ap (λ (l : List Given). l ++ as_given (f ∷ [])) serves.kept
      ∙ ap (λ (l : List FrameParts). as_given held ++ as_given l) (sym one)

  lie_few : IsFew (posts s e) → Lie (dropped now past) (length (frames ++ posts s e))
  lie_few (inl none) = subst (λ (l : List FrameParts). Lie (dropped now past) (length l)) (sym (ap (λ (l : List FrameParts). frames ++ l) none ∙ append-nil frames)) serves.places
  lie_few (inr (f, one)) =
      subst (λ (n : ℕ). Lie (dropped now past) n) (sym (ap (λ (l : List FrameParts). length (frames ++ l)) one ∙ length-append frames (f ∷ []))) (lie_more (dropped now past) (length frames) serves.places)

  stays : kept s e ≡ posts s e → drops_at s e ≡ [] → Holds
  stays keeps none =
      let no_drop : drops told ≡ 0 = told_drops ∙ ap (λ (l : List ChipOut). length l) none in
      let places : dropped later (past ++ told) ≡ dropped now past =
      shown_both (dropped_at later) [] past told ∙ ap (λ (l : List ℕ). dropped later past ++ l) (no_places later told past no_drop) ∙ append-nil (dropped later past) ∙ places_before in
      let count = serves.count in
      let both = length-append frames (posts s e) in
      let same = ap (λ (l : List FrameParts). length l) keeps in
      let dropped_all = drops_later past told in
      let all = count_later in
      record {
        left =
            ap (λ (l : List ℕ). without l (as_given (frames ++ posts s e))) places
            ∙ more_kept (posts_few s e)
            ∙ sym (given_both held (posts s e))
            ∙ ap (λ (l : List FrameParts). as_given (held ++ l)) (sym keeps)
            ∙ ap (λ (l : List FrameParts). as_given l) held_later;
        lie = subst (λ (l : List ℕ). Lie l (length (frames ++ posts s e))) (sym places) (lie_few (posts_few s e));
        many = omega (arith, count, both, same, dropped_all, no_drop, all);
      }

  -- it is dropped, at the place after all others
  falls : (f : FrameParts) → posts s e ≡ f ∷ [] → length s.port.waiting ≡ 32 → begun_at s e ≡ [] → kept s e ≡ [] → drops_at s e ≡ Full ∷ [] → Holds
  falls f one full none keeps falls_one =
      let puts = drops_one (outs s e) (drop_event s e serves.waits ∙ falls_one) in
      let first : List Entry = (each put_out start puts.first).entries in
      let last : List Entry = (each put_out (each put_out start puts.first).outer puts.last).entries in
      let parts : told ≡ first ++ entry.ChipFull ∷ last =
      ap (λ (l : List ChipOut). (each put_out start l).entries) puts.parts ∙ puts_both puts.first (Full ∷ puts.last) start in
      let before : drops first ≡ 0 = puts_drops puts.first start ∙ ap (λ (l : List ChipOut). length l) puts.none_first in
      let behind : drops last ≡ 0 = puts_drops puts.last (each put_out start puts.first).outer ∙ ap (λ (l : List ChipOut). length l) puts.none_last in
      let place : ℕ = length (begun later (past ++ first)) + drops (past ++ first) + most_waiting in
      let started : length (begun later (past ++ first)) ≡ length (submitted_in steps) =
      many_texts (begun later (past ++ first)) (submitted_in steps)
      (begun_more first ∙ ap (λ (l : List (List ℕ)). frame_texts (submitted_in steps) ++ l) (steps_copy s e none (written by_chip first)) ∙ append-nil (frame_texts (submitted_in steps))) in
      let dropped_first = drops_later past first in
      let count = serves.count in
      let is : place ≡ length frames = omega (arith, started, dropped_first, before, count, full) in
      let places : dropped later (past ++ told) ≡ dropped now past ++ place ∷ [] =
      shown_both (dropped_at later) [] past told
      ∙ ap (λ (l : List Entry). dropped later past ++ shown_after (dropped_at later) past l) parts
      ∙ ap (λ (l : List ℕ). dropped later past ++ l)
      (shown_both (dropped_at later) past first (entry.ChipFull ∷ last)
      ∙ ap₂ (λ (a b : List ℕ). a ++ ((place ∷ []) ++ b)) (no_places later first past before) (no_places later last ((past ++ first) ++ entry.ChipFull ∷ []) behind))
      ∙ ap (λ (l : List ℕ). l ++ place ∷ []) places_before in
      let grown : length (frames ++ posts s e) ≡ length frames + 1 = ap (λ (l : List FrameParts). length (frames ++ l)) one ∙ length-append frames (f ∷ []) in
      let dropped_all = drops_later past told in
      let dropped_one = told_drops ∙ ap (λ (l : List ChipOut). length l) falls_one in
      let keeps_none = ap (λ (l : List FrameParts). length l) keeps in
      let all = count_later in
      record {
        left =
            ap₂ (λ (l : List ℕ) (more_frames : List FrameParts). without l (as_given (frames ++ more_frames))) (places ∙ ap (λ (n : ℕ). dropped now past ++ n ∷ []) is) one
            ∙ ap (λ (l : List Given). without (dropped now past ++ length frames ∷ []) l) (given_both frames (f ∷ []))
            ∙ without_last (dropped now past) (as_given frames) _ (length frames) (sym (many_given frames))
            ∙ serves.kept
            ∙ ap (λ (l : List FrameParts). as_given l) (sym (ap (λ (l : List FrameParts). held ++ l) keeps ∙ append-nil held) ∙ held_later);
        lie =
            subst (λ (l : List ℕ). Lie l (length (frames ++ posts s e))) (sym (places ∙ ap (λ (n : ℕ). dropped now past ++ n ∷ []) is))
            (subst (λ (n : ℕ). Lie (dropped now past ++ length frames ∷ []) n) (sym grown) (lie_last (dropped now past) (length frames) serves.places));
        many = omega (arith, grown, dropped_all, dropped_one, keeps_none, all, count);
      }

  full_is : (waiting : List FrameParts) → (length waiting == 32) ≡ true → length waiting ≡ 32
  full_is waiting is = eqb-true (length waiting) 32 is

  pub holds : Holds
  holds = by (fate_of s e)
    where
      by : Fate s e → Holds
      by (Stays keeps none) = stays keeps none
      by (Falls f one full keeps falls_one) = falls f one (full_is s.port.waiting full) (full_none s e f serves.waits full one) keeps falls_one

  serves_told : Serves (steps ++ more) (frames ++ posts s e) (past ++ told) port_after
  serves_told = record {
    obeys = obeys_event s e steps serves.obeys;
    units = all_written ∙ sym (texts_both steps more);
    starts = all_begun;
    passed = all_passed;
    kept = holds.left;
    places = holds.lie;
    count = holds.many;
    waits = well_event s e serves.waits;
  }

  pub serves_event : Serves (steps ++ link_steps o.chip.state e) (frames ++ posts o.chip.state e) (past ++ (chip_does o e).entries) (after o.chip.state e).port
  unfolding chip_does
  serves_event = serves_told

-- ---- at first

pub serves_none : (port : PortState) → port ≡ no_port.port → SideObeys [] port.side → Serves [] [] [] port
serves_none port is obeys = record {
  obeys = obeys;
  units = refl;
  starts = refl;
  passed = refl;
  kept = ap (λ (p : PortState). as_given p.waiting) (sym is);
  places = tt;
  count = let none : length port.waiting ≡ 0 = ap (λ (p : PortState). length p.waiting) is in omega (arith, none);
  waits = subst (λ (p : PortState). WaitsWell p) (sym is) (record { busy = refl; few = lit≤ tt });
}
