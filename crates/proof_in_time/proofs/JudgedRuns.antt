-- The first device of a node and what the entries tell of it, from event to event and line to line.
use Rattle.std.proofs.Common.{◌≡◌, ◌≢◌, ℕ, ◌==◌, inl, inr, Bool, true, false, List, [], ◌∷◌, ◌++◌, length, flat_map, drop, Some, refl, sym, ap, ◌∙◌, subst, append-nil, append_assoc, arith}
use Rattle.std.specs.Prelude.{◌⊎◌, slice_get}
use Rattle.std.specs.List.{AllByRecursion}
use Rattle.std.proofs.lemmas.Bool.{eqb-true}
use Rattle.zw_base.proofs.Each.{all-left, all-right}
use Rattle.zw_text.specs.declared.entry.Entry.{Entry}
use Rattle.zw_text.specs.declared.entry.Entry.TheVariants.{Said}
use Rattle.zw_text.specs.Transcript.{made, sessions}
use Rattle.law_transcript.specs.Devices.{made_by}
use Rattle.device_kinds.specs.declared.change.Change.{Change}
use Rattle.device_kinds.specs.declared.kind.Kind.{Kind}
use Rattle.device_sim.specs.State.{State}
use Rattle.device_sim.specs.Event.{device_after}
use Rattle.supervision.specs.Host.{begun_of}
use Rattle.supervision.specs.Device.{Taken as SessionsTaken}
use Rattle.outside_model.specs.Devices.{new_changes}
use Rattle.world_model.specs.Did.{entries_all, happens_all}
use Rattle.world_model.specs.Events.{Event, entries, happens, May}
use Rattle.world_model.specs.State.{Machine}
use Rattle.world_lines.specs.Spoken.{Spoken, after, after_all, entries_of, transcript_of}
use Rattle.world_lines.specs.Done.{events_of}
use Rattle.host_model.specs.State.{HostState}
use Rattle.proof_host.specs.Entries.{IsAside}
use Rattle.proof_host.specs.Facts.{Facts}
use Rattle.proof_spoken.specs.Restarts.{StartsWell}
use Rattle.proof_spoken.specs.proof_device.GoingOn.{AreSame, GoOn, IsSame}
use Rattle.proof_spoken.specs.proof_once.Tied.{KeepsOrders}
use Rattle.proof_spoken.proofs.ChangesOutside.{TellsOne, get_set, place_is}
use Rattle.proof_spoken.proofs.CommandsOfSessions.{session_within}
use Rattle.proof_spoken.proofs.KeptKinds.{event_same}
use Rattle.proof_spoken.proofs.ShownChanges.{Adds, event_tells, new_are}
use Rattle.proof_course_plain.specs.Judged.{IsNoHand, Judges, JudgesAt}
use Rattle.proof_course_plain.proofs.JudgedFrames.{one_side}
use Rattle.proof_course_plain.proofs.MadeSettings.{get_other}
use Rattle.proof_course_plain.proofs.Replies.{one_place, one_stands}
use Rattle.proof_answered.proofs.Listeners.{same_place, stands_now}
use Rattle.proof_in_time.proofs.EndedSessions.{few_ended}
use Rattle.proof_in_time.proofs.JudgedCourses.{GoesOn, Next}
use Rattle.proof_in_time.proofs.JudgedSessions.{At, Goes, Tie, tie_on}

-- ---- what is shown of the first device of a node

record Shown (n : ℕ) (told : List Entry) (old new : State) : Type 0 where
  news : List Change
  journal : new.journal ≡ old.journal ++ news
  shown : made n told ≡ flat_map made_by news

module _ (adds : Adds) (n : ℕ) (m later : Machine) (told : List Entry) (was : At n m) (is : At n later) (place : is.place ≡ was.place) where
  abbrev olds : List State
  olds = m.outside.devices

  abbrev news : List State
  news = later.outside.devices

  as_before : slice_get news was.place ≡ Some was.device → made n told ≡ [] → Shown n told was.device is.device
  as_before stands none =
      let same : is.device ≡ was.device = one_stands news is.place was.place is.device was.device is.stands stands place in
      record { news = []; journal = ap (λ (s : State). s.journal) same ∙ sym (append-nil was.device.journal); shown = none }

  shown_by : TellsOne (λ (k : ℕ). made k told) olds news → Shown n told was.device is.device
  shown_by (inl (still, none)) = as_before (subst (λ (l : List State). slice_get l was.place ≡ Some was.device) (sym still) was.stands) (none n)
  shown_by (inr t) = by (t.place == was.place) refl
    where
      then_is : State
      then_is = device_after t.device t.event

      stands_there : slice_get news t.place ≡ Some then_is
      stands_there = subst (λ (l : List State). slice_get l t.place ≡ Some then_is) (sym t.stands) (get_set olds t.place t.device then_is t.stood)

      here : t.place ≡ was.place → Shown n told was.device is.device
      here same =
          let one : t.device ≡ was.device = one_stands olds t.place was.place t.device was.device t.stood was.stands same in
          let now : is.device ≡ then_is = one_stands news is.place t.place is.device then_is is.stands stands_there (place ∙ sym same) in
          let named : t.device.node ≡ n = place_is n olds t.place t.device (was.first ∙ ap Some (sym same)) t.stood in
          record {
            news = new_changes t.device t.event;
            journal = ap (λ (s : State). s.journal) now ∙ (new_are adds t.device t.event ∙ ap (λ (s : State). s.journal ++ new_changes t.device t.event) one);
            shown = ap (λ (k : ℕ). made k told) (sym named) ∙ t.here;
          }

      none_idle : t.place ≢ was.place → (b : Bool) → (t.device.node == n) ≡ b → made n told ≡ []
      none_idle apart true e =
          let own : t.device.node ≡ n = eqb-true t.device.node n e in
          let before = (was.others t.place t.device t.stood own apart).no_change in
          let later = (is.others t.place then_is stands_there ((event_same t.device t.event).node ∙ own) (λ same. apart (same ∙ place))).no_change in
          ap (λ (k : ℕ). made k told) (sym own)
          ∙ (t.here ∙ (ap (λ (l : List Change). flat_map made_by (drop (length t.device.journal) l)) later ∙ ap (λ (l : List Change). flat_map made_by (drop (length l) [])) before))
      none_idle apart false e = t.elsewhere n (λ same. let wrong : t.device.node ≢ n = grind (arith, e) in wrong (sym same))

      by : (b : Bool) → (t.place == was.place) ≡ b → Shown n told was.device is.device
      by true e = here (eqb-true t.place was.place e)
      by false e =
          let apart : t.place ≢ was.place = grind (arith, e) in
          as_before (subst (λ (l : List State). slice_get l was.place ≡ Some was.device) (sym t.stands) (get_other olds t.place was.place then_is (λ same. apart (sym same)) ∙ was.stands))
          (none_idle apart (t.device.node == n) refl)

-- ---- one event

-- what is proved of devices, of the table and of the entries
pub record Laws : Type 0 where
  pub go : (m : Machine) (event : Event) → GoOn m.outside.devices (happens m event).outside.devices
  pub same : (olds news : List State) → GoOn olds news → AreSame olds news
  pub keeps : (m : Machine) (event : Event) → StartsWell m event → KeepsOrders m.host.state.commands (happens m event).host.state.commands
  pub facts : (past : List Entry) (m : Machine) (event : Event) → Facts past m.host.state → May m event → StartsWell m event → Facts (past ++ entries m event) (happens m event).host.state
  pub aside : (past : List Entry) (h : HostState) (entry : Entry) → Facts past h → IsAside entry → Facts (past ++ entry ∷ []) h
  pub adds : Adds

module _ (laws : Laws) (n since : ℕ) (kind : Kind) (start : List Change) (past : List Entry) (begun_is : length (sessions n past) ≡ since) where
  event_ties : (told : List Entry) (m : Machine) (event : Event) (at : At n m) → IsNoHand n event → Tie n since kind start past told m at → (next : Next n m event at)
      → Tie n since kind start past (told ++ entries m event) (happens m event) next.now
  event_ties told m event was none tie next = tie_on n since kind start past told (entries m event) m (happens m event) begun_is was tie goes
    where
      is : At n (happens m event)
      is = next.now

      olds : List State
      olds = m.outside.devices

      news : List State
      news = (happens m event).outside.devices

      same : AreSame olds news
      same = laws.same olds news (laws.go m event)

      place : is.place ≡ was.place
      place = one_place n news is.place was.place is.first (same_place n olds news same ∙ was.first)

      kept : (now_is : State) × ((slice_get news was.place ≡ Some now_is) × IsSame was.device now_is)
      kept = stands_now IsSame olds news same was.place was.device was.stands

      kind_same : is.device.kind ≡ was.device.kind
      kind_same = ap (λ (s : State). s.kind) (one_stands news is.place was.place is.device kept.0 is.stands kept.1.0 place) ∙ kept.1.1.kind

      judges : JudgesAt n was.orders was.course.host.commands olds news
      judges = next.judged none

      judged : Judges was.orders was.course.host.commands was.device is.device
      judged =
          let there : judges.place ≡ was.place = one_place n olds judges.place was.place judges.first was.first in
          let one : judges.device ≡ was.device = one_stands olds judges.place was.place judges.device was.device judges.stood was.stands there in
          let later : judges.later ≡ is.device = one_stands news judges.place is.place judges.later is.device judges.stands is.stands (there ∙ sym place) in
          subst (λ (s : State). Judges was.orders was.course.host.commands s is.device) one (subst (λ (s : State). Judges was.orders was.course.host.commands judges.device s) later judges.judged)

      shown : Shown n (entries m event) was.device is.device
      shown = shown_by laws.adds n m (happens m event) (entries m event) was is place (event_tells laws.adds m event next.may)

      side : ((happens m event).outside.devices ≡ m.outside.devices) ⊎ ((happens m event).host.state ≡ m.host.state) → (is.device ≡ was.device) ⊎ ((happens m event).host.state ≡ m.host.state)
      side (inl still) = inl (one_stands news is.place was.place is.device was.device is.stands (subst (λ (l : List State). slice_get l was.place ≡ Some was.device) (sym still) was.stands) place)
      side (inr host) = inr host

      goes : Goes n told (entries m event) past m (happens m event) was
      goes = record {
        next = is;
        more = next.more.0;
        ends = next.more.1;
        facts = subst (λ (l : List Entry). Facts l (happens m event).host.state) (append_assoc past told (entries m event)) (laws.facts (past ++ told) m event tie.facts next.may next.starts);
        keeps = laws.keeps m event next.starts;
        judged = judged;
        kind = kind_same;
        news = shown.news;
        journal = shown.journal;
        shown = shown.shown;
        side = side (one_side m event);
      }

  -- ---- lines

  -- events lead the course to here, and the tie holds of what they entered; the others go on from here
  record TiedTo (told : List Entry) (m : Machine) (rest : List Event) : Type 0 where
    at : At n m
    tie : Tie n since kind start past told m at
    on : GoesOn n m at rest

  events_tie : (told : List Entry) (m : Machine) (first rest : List Event) (at : At n m) → AllByRecursion (IsNoHand n) first → Tie n since kind start past told m at → GoesOn n m at (first ++ rest)
      → TiedTo (told ++ entries_all m first) (happens_all m first) rest
  events_tie told m [] rest at none tie on = record { at = at; tie = subst (λ (l : List Entry). Tie n since kind start past l m at) (sym (append-nil told)) tie; on = on }
  events_tie told m (event ∷ first) rest at none tie on =
      subst (λ (l : List Entry). TiedTo l (happens_all (happens m event) first) rest) (append_assoc told (entries m event) (entries_all (happens m event) first))
      (events_tie (told ++ entries m event) (happens m event) first rest on.0.now none.1 (event_ties told m event at none.0 tie on.0) on.1)

  -- the words of a line
  words_tie : (told : List Entry) (m : Machine) (words : List ℕ) (at : At n m) → Tie n since kind start past told m at → Tie n since kind start past (told ++ Said words ∷ []) m at
  words_tie told m words at tie = tie_on n since kind start past told (Said words ∷ []) m m begun_is at tie (record {
    next = at;
    more = [];
    ends = sym (append-nil at.course.ends);
    facts = subst (λ (l : List Entry). Facts l m.host.state) (append_assoc past told (Said words ∷ [])) (laws.aside (past ++ told) m.host.state (Said words) tie.facts tt);
    keeps = λ number taken is. is;
    judged = inl (record { sessions = refl; journal = refl });
    kind = refl;
    news = [];
    journal = sym (append-nil at.device.journal);
    shown = refl;
    side = inl refl;
  })

  pub lines_tie : (told : List Entry) (m : Machine) (lines : List Spoken) (at : At n m) → AllByRecursion (IsNoHand n) (events_of lines) → Tie n since kind start past told m at → GoesOn n m at (events_of lines)
      → (later : At n (after_all m lines)) × Tie n since kind start past (told ++ transcript_of m lines) (after_all m lines) later
  lines_tie told m [] at none tie on = (at, subst (λ (l : List Entry). Tie n since kind start past l m at) (sym (append-nil told)) tie)
  lines_tie told m (spoken ∷ more) at none tie on =
      let line : TiedTo ((told ++ Said spoken.words ∷ []) ++ entries_all m spoken.events) (after m spoken) (events_of more) =
      events_tie (told ++ Said spoken.words ∷ []) m spoken.events (events_of more) at (all-left (IsNoHand n) spoken.events (events_of more) none) (words_tie told m spoken.words at tie) on in
      let both : (told ++ Said spoken.words ∷ []) ++ entries_all m spoken.events ≡ told ++ entries_of m spoken = append_assoc told (Said spoken.words ∷ []) (entries_all m spoken.events) in
      subst (λ (l : List Entry). (later : At n (after_all (after m spoken) more)) × Tie n since kind start past l (after_all (after m spoken) more) later) (append_assoc told (entries_of m spoken) (transcript_of (after m spoken) more))
      (lines_tie (told ++ entries_of m spoken) (after m spoken) more line.at (all-right (IsNoHand n) spoken.events (events_of more) none)
      (subst (λ (l : List Entry). Tie n since kind start past l (after m spoken) line.at) both line.tie) line.on)

-- ---- at first

pub begins_tied : (n : ℕ) (past : List Entry) (m : Machine) (at : At n m) → Facts past m.host.state → Tie n (length (sessions n past)) at.device.kind at.device.journal past [] m at
begins_tied n past m at facts =
    let booked = facts.begun n ∙ at.booked.0 in
    let since : length (sessions n past) ≡ begun_of at.course.host = ap (λ (l : List ℕ). length l) booked in
    let taken = ap (λ (t : SessionsTaken). t.taken) at.sessions in
    let ahead = at.lawful.agree.not_ahead in
    let few = (few_ended at.device at.course.ends at.ends).1 in
    record {
      facts = subst (λ (l : List Entry). Facts l m.host.state) (sym (append-nil past)) facts;
      kind_is = refl;
      changes = [];
      journal = sym (append-nil at.device.journal);
      shown = refl;
      ended = λ session number status less ends carries. let within = (session_within at.course.ends session status ends).1 in absurd (omega (arith, less, within, few, taken, ahead, since));
      works = λ number working less carries. absurd (omega (arith, less, taken, ahead, since));
      waits = λ number less next carries. absurd (omega (arith, less, since));
    }
