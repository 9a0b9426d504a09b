-- Where the frames that the chip had are the first of what it has for the host by the transcript, an event of the chip keeps the laws of what it writes: a frame that it begins is the next
-- one, one is dropped only where 32 others wait, and no more wait where it answers a frame.
use Rattle.std.proofs.Common.{◌≡◌, ◌<◌, ◌≤◌, ℕ, ◌+◌, Bool, true, false, if◌then◌else◌, List, [], ◌∷◌, ◌++◌, length, refl, sym, ap, ◌∙◌, subst, append-nil, append_assoc, length-append, arith}
use Rattle.std.specs.List.{AllByRecursion}
use Rattle.std.proofs.lemmas.Bool.{eqb-true}
use Rattle.zw_base.proofs.Each.{all-right}
use Rattle.serial_frame.specs.Frame.{FrameParts}
use Rattle.serial_link.specs.Rules.{Step}
use Rattle.chip_sim.specs.Events.{ChipEvent, after, outs}
use Rattle.chip_sim.specs.Link.{link_steps}
use Rattle.chip_sim.specs.Rules.{posts}
use Rattle.chip_sim.specs.declared.out.ChipOut.{ChipOut}
use Rattle.outside_model.specs.Devices.{State}
use Rattle.zw_words.specs.declared.side.Side.TheVariants.{Host as by_host, Chip as by_chip}
use Rattle.zw_text.specs.declared.entry.Entry.{Entry}
use Rattle.zw_text.specs.declared.entry.Entry.TheVariants as entry
use Rattle.zw_text.specs.Transcript.{written}
use Rattle.law_transcript.specs.Lists.{EachAfter, shown_after}
use Rattle.law_wire.specs.Asked.{Course, course_of, is_ack}
use Rattle.law_wire.specs.Given.{given}
use Rattle.law_wire.specs.Answering.{AreFew, AreOf, IsNext, MayAnswer, MayWait, begins_next, begun, begun_at, drops, dropped, dropped_at, kept as kept_of, most_waiting, waiting, without}
use Rattle.outside_model.specs.State.{OuterState}
use Rattle.proof_chip.specs.Serving.{GoesOn, Lie, Serves, frame_texts, submitted_in, unit_texts}
use Rattle.proof_chip.proofs.Covering.{first_are, left_are}
use Rattle.proof_chip.proofs.Growing.{Holds, all_begun, all_written, frames_both, holds, many_frames, many_given, start, told, told_drops}
use Rattle.proof_chip.proofs.Picking.{begun_later, dropped_later, shown_both}
use Rattle.proof_chip.proofs.Posting.{Fate, Falls, Stays, fate_of, full_none}
use Rattle.proof_chip.proofs.Submitting.{as_many, firsts_both, steps_submit, submitted_both}
use Rattle.proof_chip.proofs.Telling.{IsPut, drops_later, no_places, puts_put}

-- ---- each entry with those before it

pub each_front : {A : Type 0} (Allowed : List A → A → Type 0) (past told : List A) → ((front : List A) (one : A) (rest : List A) → told ≡ front ++ one ∷ rest → Allowed (past ++ front) one) → EachAfter Allowed past told
each_front Allowed past [] all = tt
each_front Allowed past (one ∷ told) all = (
  subst (λ (l : List _). Allowed l one) (append-nil past) (all [] one told refl),
  each_front Allowed (past ++ one ∷ []) told
      (λ front next rest is. subst (λ (l : List _). Allowed l next) (sym (append_assoc past (one ∷ []) front)) (all (one ∷ front) next rest (ap (λ (l : List _). one ∷ l) is))),
)

module _ (course : Course) where
  begun_both : (past told : List Entry) → begun course (past ++ told) ≡ begun course past ++ shown_after (begun_at course) past told
  begun_both past told = shown_both (begun_at course) [] past told

  -- no fewer were begun later
  begun_grows : (past told : List Entry) → length (begun course past) ≤ length (begun course (past ++ told))
  begun_grows past told =
      let both = ap (λ (l : List (List ℕ)). length l) (begun_both past told) in
      let parts = length-append (begun course past) (shown_after (begun_at course) past told) in
      omega (arith, both, parts)

  -- a first copy begins a frame
  begins_one : (past : List Entry) (unit : List ℕ) → begins_next course past ≡ true → begun course (past ++ entry.Written by_chip unit ∷ []) ≡ begun course past ++ unit ∷ []
  begins_one past unit begins =
      begun_both past (entry.Written by_chip unit ∷ [])
      ∙ ap (λ (b : Bool). begun course past ++ ((if b then unit ∷ [] else []) ++ [])) begins

module _ (devices : List State) (steps : List Step) (frames : List FrameParts) (past : List Entry) (o : OuterState) (e : ChipEvent) (serves : Serves steps frames past o.chip.state.port)
    (later : Course) (goes : GoesOn (course_of (steps ++ link_steps o.chip.state e)) later) where
  abbrev here : Course
  here = course_of (steps ++ link_steps o.chip.state e)

  abbrev entered : List Entry
  entered = told steps frames past o e serves

  abbrev grown : List FrameParts
  grown = frames ++ posts o.chip.state e

  enough : length (written by_chip (past ++ entered)) ≤ length here.firsts
  enough =
      let all = ap (λ (l : List (List ℕ)). length l) (all_written steps frames past o e serves) in
      let both = length-append (unit_texts steps) (unit_texts (link_steps o.chip.state e)) in
      let many = as_many steps in
      let more = as_many (link_steps o.chip.state e) in
      let parts = ap (λ (l : List Bool). length l) (firsts_parts) ∙ length-append (course_of steps).firsts (course_of (link_steps o.chip.state e)).firsts in
      omega (arith, all, both, many, more, parts)
    where
      firsts_parts : here.firsts ≡ (course_of steps).firsts ++ (course_of (link_steps o.chip.state e)).firsts
      firsts_parts = firsts_both steps (link_steps o.chip.state e)

  begun_all : begun later (past ++ entered) ≡ frame_texts (submitted_in (steps ++ link_steps o.chip.state e))
  begun_all = begun_later here later goes.flags goes.firsts (past ++ entered) enough ∙ all_begun steps frames past o e serves

  dropped_all : dropped later (past ++ entered) ≡ dropped here (past ++ entered)
  dropped_all = dropped_later here later goes.flags goes.firsts (past ++ entered) [] enough

  -- where none is dropped, the places are the same all along
  same_places : (front rest : List Entry) → entered ≡ front ++ rest → drops entered ≡ 0 → dropped later (past ++ front) ≡ dropped here (past ++ entered)
  same_places front rest is none =
      let parts = ap (λ (l : List Entry). drops l) is ∙ drops_later front rest in
      let no_front : drops front ≡ 0 = omega (arith, parts, none) in
      shown_both (dropped_at later) [] past front
      ∙ ap (λ (l : List ℕ). dropped later past ++ l) (no_places later front past no_front ∙ sym (no_places later entered past none))
      ∙ sym (shown_both (dropped_at later) [] past entered)
      ∙ dropped_all

  more_firsts : later.firsts ≡ (course_of steps).firsts ++ ((course_of (link_steps o.chip.state e)).firsts ++ goes.flags)
  more_firsts =
      goes.firsts
      ∙ ap (λ (l : List Bool). l ++ goes.flags) (firsts_both steps (link_steps o.chip.state e))
      ∙ append_assoc (course_of steps).firsts (course_of (link_steps o.chip.state e)).firsts goes.flags

  begun_before : begun later past ≡ frame_texts (submitted_in steps)
  begun_before =
      begun_later (course_of steps) later ((course_of (link_steps o.chip.state e)).firsts ++ goes.flags) more_firsts past
      (let same = ap (λ (l : List (List ℕ)). length l) serves.units ∙ sym (as_many steps) in omega (arith, same))
      ∙ serves.starts

  many_before : length (begun later past) ≡ length (submitted_in steps)
  many_before = ap (λ (l : List (List ℕ)). length l) begun_before ∙ many_frames (submitted_in steps)

  -- ---- a frame that is begun

  -- it is among those that were begun by the end
  pub began : (front : List Entry) (unit : List ℕ) (rest : List Entry) → entered ≡ front ++ entry.Written by_chip unit ∷ rest → begins_next later (past ++ front) ≡ true
      → frame_texts (submitted_in (steps ++ link_steps o.chip.state e))
      ≡ (begun later (past ++ front) ++ unit ∷ []) ++ shown_after (begun_at later) ((past ++ front) ++ entry.Written by_chip unit ∷ []) rest
  began front unit rest is begins =
      let one : List Entry = entry.Written by_chip unit ∷ [] in
      let all : past ++ entered ≡ ((past ++ front) ++ one) ++ rest =
      ap (λ (l : List Entry). past ++ l) is ∙ sym (append_assoc past front (one ++ rest)) ∙ sym (append_assoc (past ++ front) one rest) in
      sym begun_all
      ∙ ap (λ (l : List Entry). begun later l) all
      ∙ begun_both later ((past ++ front) ++ one) rest
      ∙ ap (λ (l : List (List ℕ)). l ++ shown_after (begun_at later) ((past ++ front) ++ one) rest) (begins_one later (past ++ front) unit begins)

  abbrev Covered : List Entry → Type 0
  Covered front = AreOf devices (frame_texts grown) (given devices later (past ++ front))

  next_stays : (front : List Entry) (unit : List ℕ) (rest : List Entry) → entered ≡ front ++ entry.Written by_chip unit ∷ rest → begins_next later (past ++ front) ≡ true → drops entered ≡ 0
      → Covered front → AreOf devices (begun later (past ++ front) ++ unit ∷ []) (kept_of devices later (past ++ front))
  next_stays front unit rest is begins none covered =
      let known : Holds steps frames past o e serves = holds steps frames past o e serves in
      let places = same_places front (entry.Written by_chip unit ∷ rest) is none in
      let waits : List FrameParts = (after o.chip.state e).port.waiting in
      let sub : List FrameParts = submitted_in (steps ++ link_steps o.chip.state e) in
      let all : AreOf devices (frame_texts (sub ++ waits)) (without (dropped here (past ++ entered)) (given devices later (past ++ front))) =
      left_are devices (dropped here (past ++ entered)) grown (sub ++ waits) (given devices later (past ++ front))
      (subst (λ (n : ℕ). Lie (dropped here (past ++ entered)) n) (sym (many_given grown)) known.lie) known.left covered in
      let written_first : AreOf devices (frame_texts sub) (without (dropped here (past ++ entered)) (given devices later (past ++ front))) =
      first_are devices (frame_texts sub) (frame_texts waits) _ (subst (λ (l : List (List ℕ)). AreOf devices l (without (dropped here (past ++ entered)) (given devices later (past ++ front)))) (frames_both sub waits) all) in
      first_are devices (begun later (past ++ front) ++ unit ∷ []) _ _
      (subst (λ (l : List (List ℕ)). AreOf devices l (kept_of devices later (past ++ front))) (began front unit rest is begins)
      (subst (λ (l : List ℕ). AreOf devices (frame_texts sub) (without l (given devices later (past ++ front)))) (sym places) written_first))

  -- none is where one is dropped
  none_falls : (front : List Entry) (unit : List ℕ) (rest : List Entry) → entered ≡ front ++ entry.Written by_chip unit ∷ rest → begins_next later (past ++ front) ≡ true
      → submitted_in (link_steps o.chip.state e) ≡ [] → ⊥
  none_falls front unit rest is begins none =
      let sub : List FrameParts = submitted_in (steps ++ link_steps o.chip.state e) in
      let all = ap (λ (l : List (List ℕ)). length l) (began front unit rest is begins) in
      let first = length-append (begun later (past ++ front) ++ unit ∷ []) (shown_after (begun_at later) ((past ++ front) ++ entry.Written by_chip unit ∷ []) rest) in
      let one = length-append (begun later (past ++ front)) (unit ∷ []) in
      let many = many_frames sub in
      let same = ap (λ (l : List FrameParts). length l) (submitted_both steps (link_steps o.chip.state e)) ∙ length-append (submitted_in steps) (submitted_in (link_steps o.chip.state e)) in
      let nothing = ap (λ (l : List FrameParts). length l) none in
      let grows = begun_grows later past front in
      let before = many_before in
      omega (arith, all, first, one, many, same, nothing, grows, before)

  next_one : (front : List Entry) (unit : List ℕ) (rest : List Entry) → entered ≡ front ++ entry.Written by_chip unit ∷ rest → begins_next later (past ++ front) ≡ true → Covered front
      → Fate o.chip.state e → AreOf devices (begun later (past ++ front) ++ unit ∷ []) (kept_of devices later (past ++ front))
  next_one front unit rest is begins covered (Stays keeps none) =
      next_stays front unit rest is begins (told_drops steps frames past o e serves ∙ ap (λ (l : List ChipOut). length l) none) covered
  next_one front unit rest is begins covered (Falls f one full keeps falls) =
      absurd (none_falls front unit rest is begins (steps_submit o.chip.state e ∙ full_none o.chip.state e f serves.waits full one))

  -- each frame that the event begins is the next one
  pub event_answers : ((front rest : List Entry) → entered ≡ front ++ rest → begins_next later (past ++ front) ≡ true → Covered front) → EachAfter (MayAnswer devices later) past entered
  event_answers covers = each_front (MayAnswer devices later) past entered at
    where
      next : (b : Bool) (front : List Entry) (unit : List ℕ) (rest : List Entry) → entered ≡ front ++ entry.Written by_chip unit ∷ rest → begins_next later (past ++ front) ≡ b
          → IsNext b devices later (past ++ front) unit
      next false front unit rest is begins = tt
      next true front unit rest is begins = next_one front unit rest is begins (covers front (entry.Written by_chip unit ∷ rest) is begins) (fate_of o.chip.state e)

      at : (front : List Entry) (one : Entry) (rest : List Entry) → entered ≡ front ++ one ∷ rest → MayAnswer devices later (past ++ front) one
      at front (entry.Written by_chip unit) rest is = next (begins_next later (past ++ front)) front unit rest is refl
      at front (entry.Written by_host unit) rest is = tt
      at front one rest is = tt

  -- ---- how many wait

  -- so many frames were given, begun and dropped before an entry of the event
  counted : (front : List Entry) → length frames ≤ length (begun later (past ++ front)) + (drops (past ++ front) + length o.chip.state.port.waiting)
  counted front =
      let count = serves.count in
      let grows = begun_grows later past front in
      let before = many_before in
      let falls = drops_later past front in
      omega (arith, count, grows, before, falls)

  few_wait : (front : List Entry) → length (given devices later (past ++ front)) ≤ length frames → waiting devices later (past ++ front) ≤ most_waiting
  few_wait front few = let counts = counted front in let waits = serves.waits.few in omega (arith, counts, waits, few)

  full_waits : (front rest : List Entry) → entered ≡ front ++ entry.ChipFull ∷ rest → length frames < length (given devices later (past ++ front)) → Fate o.chip.state e
      → most_waiting < waiting devices later (past ++ front)
  full_waits front rest is given_more (Stays keeps none) =
      absurd (let all = told_drops steps frames past o e serves ∙ ap (λ (l : List ChipOut). length l) none in
      let parts = ap (λ (l : List Entry). drops l) is ∙ drops_later front (entry.ChipFull ∷ rest) in
      omega (arith, all, parts))
  full_waits front rest is given_more (Falls f one full keeps falls) =
      let all = told_drops steps frames past o e serves ∙ ap (λ (l : List ChipOut). length l) falls in
      let parts = ap (λ (l : List Entry). drops l) is ∙ drops_later front (entry.ChipFull ∷ rest) in
      let none = steps_submit o.chip.state e ∙ full_none o.chip.state e f serves.waits full one in
      let started = begun_end none in
      let whole = ap (λ (l : List Entry). length (begun later l)) (ap (λ (l : List Entry). past ++ l) is ∙ sym (append_assoc past front (entry.ChipFull ∷ rest))) in
      let grows = begun_grows later (past ++ front) (entry.ChipFull ∷ rest) in
      let before = drops_later past front in
      let count = serves.count in
      let waits = eqb-true (length o.chip.state.port.waiting) 32 full in
      omega (arith, all, parts, started, whole, grows, before, count, waits, given_more)
    where
      begun_end : submitted_in (link_steps o.chip.state e) ≡ [] → length (begun later (past ++ entered)) ≡ length (submitted_in steps)
      begun_end none =
          ap (λ (l : List (List ℕ)). length l) begun_all
          ∙ many_frames (submitted_in (steps ++ link_steps o.chip.state e))
          ∙ ap (λ (l : List FrameParts). length l) (submitted_both steps (link_steps o.chip.state e) ∙ ap (λ (l : List FrameParts). submitted_in steps ++ l) none ∙ append-nil (submitted_in steps))

  -- a frame is dropped only where 32 others wait, and no more wait where an item is answered
  pub event_waits : ((front rest : List Entry) (unit : List ℕ) → entered ≡ front ++ entry.Written by_chip unit ∷ rest → is_ack unit ≡ true → length (given devices later (past ++ front)) ≤ length frames)
      → ((front rest : List Entry) → entered ≡ front ++ entry.ChipFull ∷ rest → length frames < length (given devices later (past ++ front)))
      → EachAfter (MayWait devices later) past entered
  event_waits few more = each_front (MayWait devices later) past entered at
    where
      put : (front : List Entry) (one : Entry) (rest : List Entry) → entered ≡ front ++ one ∷ rest → IsPut one
      put front one rest is = (all-right IsPut front (one ∷ rest) (subst (λ (l : List Entry). AllByRecursion IsPut l) is (puts_put (outs o.chip.state e) (start steps frames past o e serves)))).0

      acked : (b : Bool) (front rest : List Entry) (unit : List ℕ) → entered ≡ front ++ entry.Written by_chip unit ∷ rest → is_ack unit ≡ b → AreFew b (waiting devices later (past ++ front))
      acked true front rest unit is ack = few_wait front (few front rest unit is ack)
      acked false front rest unit is ack = tt

      at : (front : List Entry) (one : Entry) (rest : List Entry) → entered ≡ front ++ one ∷ rest → MayWait devices later (past ++ front) one
      at front (entry.Written by_chip unit) rest is = acked (is_ack unit) front rest unit is refl
      at front entry.ChipFull rest is = full_waits front rest is (more front rest is) (fate_of o.chip.state e)
      at front (entry.Said words) rest is = absurd (put front (entry.Said words) rest is)
      at front (entry.Time tick) rest is = absurd (put front (entry.Time tick) rest is)
      at front (entry.Heard frame) rest is = absurd (put front (entry.Heard frame) rest is)
      at front (entry.Lost frame) rest is = absurd (put front (entry.Lost frame) rest is)
      at front (entry.Unheard frame) rest is = absurd (put front (entry.Unheard frame) rest is)
      at front (entry.Written by_host unit) rest is = tt
      at front one rest is = tt
