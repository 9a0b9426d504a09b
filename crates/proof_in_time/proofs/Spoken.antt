-- Lines before a stretch, and those of it.
use Rattle.std.proofs.Common.{◌≡◌, ℕ, Bool, true, inl, List, [], ◌∷◌, ◌++◌, refl, sym, ap, ◌∙◌, append_assoc}
use Rattle.chip_sim.specs.Nodes.{is_marked}
use Rattle.zw_text.specs.declared.entry.Entry.{Entry}
use Rattle.world_model.specs.Did.{AllAlong}
use Rattle.world_model.specs.Lines.{IsLine}
use Rattle.world_model.specs.Prefixes.{IsLineBefore}
use Rattle.world_model.specs.Events.{Event, happens}
use Rattle.world_model.specs.State.{Machine}
use Rattle.world_lines.specs.Spoken.{Spoken, after, after_all, entries_of, transcript_of}
use Rattle.world_lines.specs.Done.{AreDone, events_of}
use Rattle.world_lines.specs.Whole.{AreWhole}

pub done_later : (m : Machine) (before lines : List Spoken) → AreDone m (before ++ lines) → AreDone (after_all m before) lines
done_later m [] lines are = are
done_later m (spoken ∷ before) lines are = done_later (after m spoken) before lines are.1

-- each line of these was run whole
whole_before : (last : List Spoken) (m : Machine) (spoken : Spoken) → IsLine spoken.line m spoken.events → IsLineBefore last spoken.line m spoken.events
whole_before [] m spoken is = inl is
whole_before (next ∷ last) m spoken is = is

-- lines before others, some of which were cut short at most at their end
part_before : (last lines : List Spoken) (m : Machine) (spoken : Spoken) → IsLineBefore (last ++ lines) spoken.line m spoken.events → IsLineBefore last spoken.line m spoken.events
part_before [] [] m spoken is = is
part_before [] (next ∷ lines) m spoken is = inl is
part_before (next ∷ last) lines m spoken is = is

pub done_first : (m : Machine) (first lines : List Spoken) → AreDone m (first ++ lines) → AreDone m first
done_first m [] lines are = tt
done_first m (spoken ∷ first) lines are =
    (record { read = are.0.read; is_line = part_before first lines m spoken are.0.is_line; may = are.0.may }, done_first (after m spoken) first lines are.1)

pub whole_parts : (m : Machine) (first lines : List Spoken) → AreDone m (first ++ lines) → AreWhole m (first ++ lines) → AreDone m first × AreWhole m first × AreWhole (after_all m first) lines
whole_parts m [] lines are whole = (tt, tt, whole)
whole_parts m (spoken ∷ first) lines are whole =
    let rest = whole_parts (after m spoken) first lines are.1 whole.1 in
    ((record { read = are.0.read; is_line = whole_before first m spoken whole.0; may = are.0.may }, rest.0), (whole.0, rest.1), rest.2)

pub told_both : (m : Machine) (first lines : List Spoken) → transcript_of m (first ++ lines) ≡ transcript_of m first ++ transcript_of (after_all m first) lines
told_both m [] lines = refl
told_both m (spoken ∷ first) lines =
    ap (λ (l : List Entry). entries_of m spoken ++ l) (told_both (after m spoken) first lines) ∙ sym (append_assoc (entries_of m spoken) (transcript_of (after m spoken) first) (transcript_of (after_all (after m spoken) first) lines))

pub after_both : (m : Machine) (before lines : List Spoken) → after_all m (before ++ lines) ≡ after_all (after_all m before) lines
after_both m [] lines = refl
after_both m (spoken ∷ before) lines = after_both (after m spoken) before lines

pub events_both : (before lines : List Spoken) → events_of (before ++ lines) ≡ events_of before ++ events_of lines
events_both [] lines = refl
events_both (spoken ∷ before) lines = ap (λ (es : List Event). spoken.events ++ es) (events_both before lines) ∙ sym (append_assoc spoken.events (events_of before) (events_of lines))

-- what is so of each of these nodes at each event
pub each_along : (Stays : ℕ → Machine → Event → Type 0) (these : List Bool) (m : Machine) (events : List Event) → ((n : ℕ) → is_marked these n ≡ true → AllAlong (Stays n) m events)
    → AllAlong (λ (x : Machine) (event : Event). (n : ℕ) → is_marked these n ≡ true → Stays n x event) m events
each_along Stays these m [] all = tt
each_along Stays these m (event ∷ events) all = ((λ n marked. (all n marked).0), each_along Stays these (happens m event) events (λ n marked. (all n marked).1))
