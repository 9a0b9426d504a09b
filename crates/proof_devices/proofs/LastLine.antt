-- Lines the last of which was cut short, with what is known of the devices where it was.
use Rattle.std.proofs.Common.{◌≡◌, ◌≢◌, ◌≤◌, ℕ, inl, true, false, List, [], ◌∷◌, ◌++◌, length, refl, sym, ap, subst, ◌∙◌, append-nil, append_assoc, Bool, if◌then◌else◌, ◌==◌}
use Rattle.std.specs.Prelude.{Option, Some, None, is_some}
use Rattle.device_sim.specs.State.{State}
use Rattle.zw_text.specs.declared.entry.Entry.{Entry}
use Rattle.zw_text.specs.declared.entry.Entry.TheVariants.{Said}
use Rattle.law_transcript.specs.Nodes.{controller, device_of}
use Rattle.law_wire.specs.Halted.{RanAsFar}
use Rattle.world_model.specs.State.{Machine}
use Rattle.world_model.specs.Events.{Event, happens}
use Rattle.world_model.specs.Did.{MayAll, entries_all, happens_all}
use Rattle.world_model.proofs.EventLists.{entries_all-append, happens_all-append}
use Rattle.world_lines.specs.Spoken.{Spoken, after, after_all, entries_of, transcript_of}
use Rattle.world_lines.specs.Done.{AreDone, IsDone}
use Rattle.world_lines.specs.Whole.{AreWhole}
use Rattle.proof_air.specs.proof_device.GoingOn.{AreSame, GoOn}
use Rattle.proof_air.specs.proof_device.Showing.{AreApart}
use Rattle.proof_air.proofs.DevicePlaces.{go_none, go_same, go_then, run_goes}
use Rattle.proof_air.specs.proof_walk.Phases.{Phase, Between, Said_line}
use Rattle.proof_air.specs.proof_walk.Walk.{Walk}
use Rattle.proof_air.proofs.Alone.{all_wordless}
use Rattle.proof_air.proofs.Joining.{along}
use Rattle.proof_air.proofs.Lines.{line_part}
use Rattle.proof_air.proofs.Handling.{tie_here}
use Rattle.proof_devices.specs.LastLine.{with_last}
use Rattle.proof_devices.specs.Living.{MayAny}
use Rattle.proof_devices.proofs.Halting.{AnswersFrom, events_few, ran_as_far}
use Rattle.proof_devices.proofs.Together.{KnowTogether}
use Rattle.proof_devices.proofs.Whole.{StandsAt, stands_at}

-- ---- lists of lines

-- all but the last were run whole
pub record CutShort (m : Machine) (front : List Spoken) (line : Spoken) : Type 0 where
  pub done : AreDone m front
  pub whole : AreWhole m front
  pub last : IsDone [] (after_all m front) line

pub cut_short : (m : Machine) (front : List Spoken) (line : Spoken) → AreDone m (front ++ line ∷ []) → CutShort m front line
cut_short m [] line are = record { done = tt; whole = tt; last = are.0 }
cut_short m (first ∷ []) line are = record {
  done = (record { read = are.0.read; is_line = inl are.0.is_line; may = are.0.may }, tt);
  whole = (are.0.is_line, tt);
  last = are.1.0;
}
cut_short m (first ∷ (next ∷ front)) line are =
    let rest = cut_short (after m first) (next ∷ front) line are.1 in
    record { done = (record { read = are.0.read; is_line = are.0.is_line; may = are.0.may }, rest.done); whole = (are.0.is_line, rest.whole); last = rest.last }

-- lines that are some, and the last of them
pub record HasLast (more : List Event) (lines : List Spoken) : Type 0 where
  pub front : List Spoken
  pub line : Spoken
  pub are : lines ≡ front ++ line ∷ []
  pub longer : with_last more lines ≡ front ++ record { words = line.words; line = line.line; events = line.events ++ more } ∷ []

pub has_last : (more : List Event) (first : Spoken) (rest : List Spoken) → HasLast more (first ∷ rest)
has_last more first [] = record { front = []; line = first; are = refl; longer = refl }
has_last more first (next ∷ rest) =
    let later = has_last more next rest in
    record {
      front = first ∷ later.front;
      line = later.line;
      are = ap (λ (l : List Spoken). first ∷ l) later.are;
      longer = ap (λ (l : List Spoken). first ∷ l) later.longer;
    }

pub transcript_more : (m : Machine) (front : List Spoken) (line : Spoken) → transcript_of m (front ++ line ∷ []) ≡ transcript_of m front ++ entries_of (after_all m front) line
transcript_more m [] line = append-nil (entries_of m line)
transcript_more m (first ∷ front) line =
    ap (λ (l : List Entry). entries_of m first ++ l) (transcript_more (after m first) front line)
    ∙ sym (append_assoc (entries_of m first) (transcript_of (after m first) front) (entries_of (after_all (after m first) front) line))

pub after_more : (m : Machine) (front : List Spoken) (line : Spoken) → after_all m (front ++ line ∷ []) ≡ after (after_all m front) line
after_more m [] line = refl
after_more m (first ∷ front) line = after_more (after m first) front line

pub may_later : (m : Machine) (a b : List Event) → MayAll m (a ++ b) → MayAll (happens_all m a) b
may_later m [] b may = may
may_later m (event ∷ a) b may = may_later (happens m event) a b may.1

-- ---- the device of a node is still there

some_choice : (b : Bool) (old new : State) (rest now : Option State) → is_some now ≡ is_some rest → is_some (if b then Some new else now) ≡ is_some (if b then Some old else rest)
some_choice true old new rest now same = refl
some_choice false old new rest now same = same

same_nodes : (node : ℕ) (olds news : List State) → AreSame olds news → is_some (device_of node news) ≡ is_some (device_of node olds)
same_nodes node [] [] same = refl
same_nodes node [] (new ∷ news) same = absurd same
same_nodes node (old ∷ olds) [] same = absurd same
same_nodes node (old ∷ olds) (new ∷ news) same =
    ap (λ (n : ℕ). is_some (if n == node then Some new else device_of node news)) same.0.node
    ∙ some_choice (old.node == node) old new (device_of node olds) (device_of node news) (same_nodes node olds news same.1)

pub found_there : (olds news : List State) (node : ℕ) (old : State) → GoOn olds news → device_of node olds ≡ Some old → (new : State) × (device_of node news ≡ Some new)
found_there olds news node old go found = by (device_of node news) refl
  where
    by : (found_now : Option State) → device_of node news ≡ found_now → (new : State) × (device_of node news ≡ Some new)
    by (Some new) is = (new, is)
    by None is =
        let bad : false ≡ true = ap is_some (sym is) ∙ (same_nodes node olds news (go_same olds news go) ∙ ap is_some found) in absurd cc

pub lines_go : (m : Machine) (lines : List Spoken) → GoOn m.outside.devices (after_all m lines).outside.devices
lines_go m [] = go_none m.outside.devices
lines_go m (line ∷ lines) =
    go_then m.outside.devices (after m line).outside.devices (after_all (after m line) lines).outside.devices (run_goes m line.events) (lines_go (after m line) lines)

-- ---- the last line

module _ (olds : List State) (front : List Entry) (walk : Walk MayAny (KnowTogether (AnswersFrom front) olds)) (m : Machine) (known : KnowTogether (AnswersFrom front) olds Between front m) where
  begins : (line : Spoken) → IsDone [] m line → KnowTogether (AnswersFrom front) olds (Said_line line.line) (front ++ Said line.words ∷ []) m
  begins line done = (walk.said front m line.words line.line done.read known).1

  -- what is known where it was cut
  part_known : (line : Spoken) → IsDone [] m line → (here : Phase) × KnowTogether (AnswersFrom front) olds here (front ++ Said line.words ∷ entries_all m line.events) (happens_all m line.events)
  part_known line done =
      let part = line_part line.line m line.events done.is_line in (
        part.0,
        subst (λ (l : List Entry). KnowTogether (AnswersFrom front) olds part.0 l (happens_all m line.events)) (append_assoc front (Said line.words ∷ []) (entries_all m line.events))
            (along MayAny (KnowTogether (AnswersFrom front) olds) walk.event walk.turn part.1 done.may (front ++ Said line.words ∷ []) (begins line done)).1,
      )

  -- with at most one event that was not entered
  pub line_far : AreApart olds → (line : Spoken) (more : List Event) → IsDone [] m line → IsDone [] m (record { words = line.words; line = line.line; events = line.events ++ more }) → length more ≤ 1
      → (node : ℕ) (old new : State) → node ≢ controller → device_of node olds ≡ Some old → device_of node (happens_all m (line.events ++ more)).outside.devices ≡ Some new
      → RanAsFar node (front ++ entries_of m line) old new
  line_far apart line more done done_more few node old new other before after_it =
      let n0 : Machine = happens_all m line.events in
      let told : List Entry = entries_all m line.events in
      let at0 = part_known line done in
      let at = part_known (record { words = line.words; line = line.line; events = line.events ++ more }) done_more in
      let was : StandsAt node olds old = stands_at node olds old before in
      let new0 = found_there olds n0.outside.devices node old at0.1.1.0 before in
      let entered : front ++ Said line.words ∷ entries_all m (line.events ++ more) ≡ (front ++ Said line.words ∷ told) ++ entries_all n0 more
      = ap (λ (l : List Entry). front ++ Said line.words ∷ l) (entries_all-append m line.events more) ∙ sym (append_assoc front (Said line.words ∷ told) (entries_all n0 more)) in
      let end : happens_all m (line.events ++ more) ≡ happens_all n0 more = happens_all-append m line.events more in
      let known_so : KnowTogether (AnswersFrom front) olds at.0 ((front ++ Said line.words ∷ told) ++ entries_all n0 more) (happens_all n0 more)
      = subst (λ (l : List Entry). KnowTogether (AnswersFrom front) olds at.0 l (happens_all n0 more)) entered
      (subst (λ (n : Machine). KnowTogether (AnswersFrom front) olds at.0 (front ++ Said line.words ∷ entries_all m (line.events ++ more)) n) end at.1) in
      subst (λ (k : ℕ). RanAsFar k (front ++ entries_of m line) old new) was.own
      (ran_as_far olds apart front line.words told (entries_all n0 more) n0 (happens_all n0 more) at0.0 at.0 at0.1 known_so (all_wordless m line.events done.may) node old new0.0 new other before new0.1
      (subst (λ (n : Machine). device_of node n.outside.devices ≡ Some new) end after_it)
      (events_few old.node (front ++ Said line.words ∷ told) n0 more few (tie_here at0.0 (front ++ Said line.words ∷ told) n0 at0.1.0.0.0.0) (may_later m line.events more done_more.may)))
