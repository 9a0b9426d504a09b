-- At each step of a host alone the notes of the payload that it judged last are whole, or are to come of the events that are left.
use Rattle.std.proofs.Common.{◌≡◌, ◌⊎◌, ℕ, Bool, true, false, inl, inr, List, [], ◌∷◌, ◌++◌, refl, sym, ap, ◌∙◌, subst, append-nil, append_assoc, if◌then◌else◌}
use Rattle.std.specs.List.{AllByRecursion, flat_map}
use Rattle.std.proofs.lemmas.Bool.{both_ways, false_from_ne_true}
use Rattle.zw_base.proofs.Each.{all-weaker}
use Rattle.s0_crypto.specs.declared.key_pair.Keys.{Keys}
use Rattle.serial_frame.specs.Frame.{FrameParts}
use Rattle.serial_frame.specs.Items.{unit_text}
use Rattle.serial_frame.specs.declared.item.Item.{Item}
use Rattle.serial_frame.specs.declared.item.Item.TheVariants.{Good, Refused as refused_item}
use Rattle.serial_frame.specs.declared.item.Refusal.TheVariants.{Stray, BadLength, BadSum, BadKind, Aborted}
use Rattle.serial_frame.specs.declared.unit.Unit.{Unit as LineUnit}
use Rattle.serial_frame.specs.declared.unit.Unit.TheVariants.{Ack, Nak, Can, Framed}
use Rattle.zw_words.specs.declared.side.Side.TheVariants.{Chip, Host}
use Rattle.zw_text.specs.declared.entry.Entry.{Entry}
use Rattle.zw_text.specs.declared.entry.Entry.TheVariants as entry
use Rattle.law_transcript.specs.Units.{Carried, bringing_in}
use Rattle.proof_attempts.specs.law_time.Judged.{after_step, brought_here, is_following, judged, last_of}
use Rattle.proof_attempts.specs.law_time.Sessions.{is_open}
use Rattle.host_heard.specs.Telling.{heard_at}
use Rattle.host_node.specs.State.{is_open as has_open}
use Rattle.host_model.specs.State.{HostState, node_of}
use Rattle.host_model.specs.After.{after}
use Rattle.host_model.specs.Events as happening
use Rattle.host_model.specs.Events.{HostEvent, Hears, IsOwn}
use Rattle.host_model.specs.Outs.{answer_to, answers, outs}
use Rattle.host_model.specs.Taking.{FrameEvents, PayloadEvents}
use Rattle.host_model.proofs.Own.{sleepers_own, submitted_own}
use Rattle.host_model.proofs.Submitted.{next_is, no_more_is}
use Rattle.proof_attempts.specs.world_model.Events.{shown_values}
use Rattle.proof_attempts.specs.proof_host.Facts.{Facts}
use Rattle.proof_known.specs.proof_transcript.proof_once.ByTable.{IsTable}
use Rattle.proof_known.specs.proof_transcript.proof_spoken.Said.{AreSaid, KnowsListing}
use Rattle.proof_known.specs.law_host.Heard.{listing_heard}
use Rattle.proof_known.specs.proof_alone.Listening.{KnowsListening, ListensAsTold}
use Rattle.proof_known.specs.proof_alone.State.{HostMachine}
use Rattle.proof_known.specs.proof_alone.Steps.{AreTold, DidNotCome, IsOfOthers, IsOfUnit, Step, Tells, Comes, Misses, Says, Says_nothing, Asks, Refuses, Shows, Restarts, Begins_tick, Numbers, Judges, Does, entries, happens}
use Rattle.proof_known.specs.proof_alone.Phases.{Phase, Resting, Asked, Risen, Ticking, Open, Behind, Sleeping, Submitting, IsBetween, IsJudgedNow, May, Turns}
use Rattle.proof_known.specs.proof_alone.Runs.{Knowledge, WalkOver, both_know}
use Rattle.proof_known.specs.proof_alone.Tables.{TieTables}
use Rattle.proof_known.specs.proof_waking.Judged.{IsBehindFrame, IsOfRequest, Settled, TieFrames, frames_of}
use Rattle.proof_known.specs.Known.{HasPlaces, KnowsKeys, KnowsWhole, TieTold}
use Rattle.proof_known.proofs.Noting.{Rooms}
use Rattle.proof_known.proofs.Places.{no_more_places}
use Rattle.proof_known.proofs.Apart.{acknowledged_frames}
use Rattle.proof_known.proofs.Parts.{IsNoted, follow_told}
use Rattle.proof_known.proofs.Settling.{behind_follows}
use Rattle.proof_attempts.proofs.proof_waking_Judging.{heard_if}
use Rattle.proof_notes.specs.Full.{IsElse, MayGoOn, PayloadNotes, SinceUnit, since_unit}
use Rattle.proof_notes.specs.Ties.{Ties}
use Rattle.proof_notes.proofs.ByPayload.{AllFollow, frame_follows}
use Rattle.proof_notes.proofs.ByEntry.{Goes, IsLeft, IsPlain, NotesLeft, NotesWhole, Stand, all_over, and_none, behind_goes, end_goes, following_one, joined, marks_off, marks_on, nothing_goes, off_whole, own_goes, plain_goes, request_goes, since_one, whole_may}

-- ---- the ground

-- what is known of a host alone, with its keys, and which nodes listen
abbrev pub KnowsHost : Keys → Knowledge
KnowsHost keys = both_know (both_know KnowsWhole (KnowsKeys keys)) KnowsListening

-- that its sessions are open, and that its tables are what was said
abbrev pub ShowsOpen : Type 0
ShowsOpen = (past : List Entry) (h : HostState) (n : ℕ) → Facts past h → is_open n past ≡ has_open (node_of h n)

abbrev pub ShowsTables : Type 0
ShowsTables = (past : List Entry) (h : HostState) (n : ℕ) → Facts past h → AreSaid listing_heard h.commands past → IsTable listing_heard h.commands n past

-- what is left to be noted, at each phase
abbrev pub KnowsNotes : Keys → Knowledge
KnowsNotes keys (Behind left) past m = ((m.awaits ≡ false) × NotesLeft keys past m.state left) ⊎ (AllByRecursion IsOfRequest left × NotesWhole keys past)
KnowsNotes keys here past m = NotesWhole keys past

abbrev pub NotBehind : Phase → Type 0
NotBehind (Behind left) = ⊥
NotBehind here = Unit {0}

pub between_not : (here : Phase) → IsBetween here → NotBehind here
between_not (Behind left) between = absurd between
between_not here between = tt

as_phase : (here is : Phase) → here ≡ is → NotBehind is → NotBehind here
as_phase here is same other = subst NotBehind (sym same) other

-- ---- entries

others_plain : (e : Entry) → IsOfOthers e → IsPlain e
others_plain (entry.Said words) of = absurd of
others_plain (entry.Refused refusal) of = absurd of
others_plain (entry.Out command ended) of = absurd of
others_plain (entry.Written side unit) of = absurd of
others_plain (entry.Dropped side) of = absurd of
others_plain (entry.Garbled side unit) of = absurd of
others_plain (entry.Overrun side) of = absurd of
others_plain (entry.Report node setting) of = absurd of
others_plain (entry.Unstored node property) of = absurd of
others_plain (entry.Old node id) of = absurd of
others_plain (entry.Unread node payload) of = absurd of
others_plain (entry.Awake node) of = absurd of
others_plain e of = (tt, tt, refl)

answers_plain : (h : HostState) (event : HostEvent) → AllByRecursion IsPlain (answers h event)
answers_plain h (happening.Accepts order carriage) = ((tt, tt, refl), tt)
answers_plain h (happening.Cancels command) = ((tt, tt, refl), tt)
answers_plain h event = tt

no_events : (events : List HostEvent) → events ≡ [] → AllByRecursion IsOfRequest events
no_events events is = subst (AllByRecursion IsOfRequest) (sym is) tt

module _ (keys : Keys) (opens : ShowsOpen) (said : ShowsTables) (rooms : Rooms) where
  -- what is known where a message is taken, by the parts of the ground
  pub ties_so : (past : List Entry) (m : HostMachine) → TieTables past m.state m.records → KnowsListing listing_heard past m.state → AreSaid listing_heard m.state.commands past → TieTold past m.state
      → HasPlaces m.state → ListensAsTold past m.state → Ties past m.state
  ties_so past m tables lists said_so told_so places hears = record {
    facts = tables.facts;
    lists_so = lists;
    hears = hears;
    opened = λ n. opens past m.state n tables.facts;
    rooms = rooms past m tables lists said_so told_so (no_more_places m.state places);
    tables = λ n. said past m.state n tables.facts said_so;
  }

  -- so behind an item
  pub ties_of : (left : List HostEvent) (past : List Entry) (m : HostMachine) → KnowsHost keys (Behind left) past m → Ties past m.state
  ties_of left past m ground =
      let known = ground.0.0 in ties_so past m known.0.0.0.0.0.0 known.0.0.0.1 known.0.0.1 known.0.1 known.1 ground.1

  -- ---- items

  abbrev Leads : Phase → List Entry → HostMachine → Step → Type 0
  Leads next past m one = Stand keys past (entries m one) × KnowsNotes keys next (past ++ entries m one) (happens m one)

  abbrev Heard : List Entry → HostMachine → List HostEvent → List Entry → HostState → Type 0
  Heard past m behind told h =
      Stand keys past told × (((m.awaits ≡ false) × NotesLeft keys (past ++ told) h behind) ⊎ (AllByRecursion IsOfRequest behind × NotesWhole keys (past ++ told)))

  quiet_item : (past : List Entry) (m : HostMachine) (behind : List HostEvent) (told : List Entry) (h : HostState) → told ≡ [] → AllByRecursion IsOfRequest behind → NotesWhole keys past → Heard past m behind told h
  quiet_item past m behind told h none requests whole = let goes = nothing_goes keys past told none whole in (goes.0, inr (requests, goes.1))

  -- one that is refused has its answer
  refused_goes : (past : List Entry) (m : HostMachine) (behind : List HostEvent) (told : List Entry) (h : HostState) → AllByRecursion IsOfRequest behind
      → (marks rest : List Entry) × (told ≡ entry.Written Host (unit_text Nak) ∷ (marks ++ rest)) × AllByRecursion IsOfUnit marks × (rest ≡ []) → NotesWhole keys past → Heard past m behind told h
  refused_goes past m behind told h requests (marks, rest, is, units, none) whole =
      let e : Entry = entry.Written Host (unit_text Nak) in
      let are : told ≡ e ∷ marks = is ∙ (ap (λ (l : List Entry). e ∷ (marks ++ l)) none ∙ ap (λ (l : List Entry). e ∷ l) (append-nil marks)) in
      let off : is_following (past ++ e ∷ []) ≡ false = following_one past e in
      let (stand, still) = marks_off keys (past ++ e ∷ []) marks units off in
      subst (λ (l : List Entry). Heard past m behind l h) (sym are)
      ((whole_may keys past e tt whole, stand), inr (requests, subst (NotesWhole keys) (append_assoc past (e ∷ []) marks) (off_whole keys ((past ++ e ∷ []) ++ marks) still)))

  frame_goes : (past : List Entry) (m : HostMachine) (f : FrameParts) (rest : List LineUnit) (behind : List HostEvent) (told : List Entry) → m.came ≡ Framed f ∷ rest
      → FrameEvents (after m.state (Hears (Good (Framed f)))) f.kind f.func f.body behind → AreTold (answer_to (Good (Framed f))) told → (m.awaits ≡ true → told ≡ []) → TieFrames past m.came
      → NotesWhole keys past → Heard past m behind told (after m.state (Hears (Good (Framed f))))
  frame_goes past m f rest behind told came followed (marks, others, is, units, none) numbered tie whole =
      let h : HostState = after m.state (Hears (Good (Framed f))) in
      let e : Entry = entry.Written Host (unit_text Ack) in
      let unit : List ℕ = unit_text (Framed f) in
      let here : List Entry = past ++ e ∷ [] in
      let are : told ≡ e ∷ marks = is ∙ (ap (λ (l : List Entry). e ∷ (marks ++ l)) none ∙ ap (λ (l : List Entry). e ∷ l) (append-nil marks)) in
      let first : frames_of m.came ≡ unit ∷ frames_of rest = ap frames_of came in
      let acked = acknowledged_frames past m.came rest unit (unit_text Ack) first refl tie in
      let on : is_following here ≡ true = following_one past e in
      let brought : brought_here here ≡ bringing_in unit =
      ap (λ (b : Bool). flat_map bringing_in (if b then last_of (judged here) else [])) on ∙ (ap (λ (l : List (List ℕ)). flat_map bringing_in l) acked.last ∙ append-nil (bringing_in unit)) in
      let fresh : (since_unit here).notes ≡ [] = ap (λ (s : SinceUnit). s.notes) (since_one past e) in
      let (stand, no_notes, same) = marks_on keys here marks units fresh in
      let later : List Entry = here ++ marks in
      let upto : (since_unit later).upto ≡ later = sym (append-nil (since_unit later).upto) ∙ (ap (λ (l : List Entry). (since_unit later).upto ++ l) (sym no_notes) ∙ joined later) in
      let all : AllFollow h behind (brought_here later) = subst (AllFollow h behind) (sym (same ∙ brought)) (frame_follows h f behind followed) in
      let unnumbered : m.awaits ≡ false = false_from_ne_true m.awaits (λ awaits. let bad : e ∷ marks ≡ [] = sym are ∙ numbered awaits in cc) in
      subst (λ (l : List Entry). Heard past m behind l h) (sym are) (
        (whole_may keys past e tt whole, stand),
        inl (
          unnumbered,
          subst (λ (l : List Entry). NotesLeft keys l h behind) (append_assoc past (e ∷ []) marks)
              (all-weaker (λ (carried : Carried). PayloadEvents h carried.node carried.payload (heard_at carried.payload) behind) (IsLeft keys (since_unit later) later h behind)
              (λ carried events. inl (record {
                left_is = events;
                completes = λ more notes. by_upto later carried upto no_notes more notes;
              })) (brought_here later) all),
        ),
      )
    where
      by_upto : (later : List Entry) (carried : Carried) → (since_unit later).upto ≡ later → (since_unit later).notes ≡ [] → (more : List Entry)
          → PayloadNotes keys carried.node carried.payload later (heard_at carried.payload) more
          → PayloadNotes keys carried.node carried.payload (since_unit later).upto (heard_at carried.payload) ((since_unit later).notes ++ more)
      by_upto later carried upto none more notes =
          subst (λ (l : List Entry). PayloadNotes keys carried.node carried.payload (since_unit later).upto (heard_at carried.payload) (l ++ more)) (sym none)
          (subst (λ (l : List Entry). PayloadNotes keys carried.node carried.payload l (heard_at carried.payload) more) (sym upto) notes)

  item_goes : (past : List Entry) (m : HostMachine) (item : Item) (rest : List LineUnit) (behind : List HostEvent) (told : List Entry) → IsJudgedNow m item rest behind told → TieFrames past m.came
      → NotesWhole keys past → Heard past m behind told (after m.state (Hears item))
  item_goes past m (Good (Framed f)) rest behind told now tie whole = frame_goes past m f rest behind told now.takes now.followed now.told_so now.numbered tie whole
  item_goes past m (Good Ack) rest behind told now tie whole = quiet_item past m behind told (after m.state (Hears (Good Ack))) now.told_so (heard_if _ _ behind now.followed) whole
  item_goes past m (Good Nak) rest behind told now tie whole = quiet_item past m behind told (after m.state (Hears (Good Nak))) now.told_so (heard_if _ _ behind now.followed) whole
  item_goes past m (Good Can) rest behind told now tie whole = quiet_item past m behind told (after m.state (Hears (Good Can))) now.told_so (heard_if _ _ behind now.followed) whole
  item_goes past m (refused_item (BadSum want got)) rest behind told now tie whole = refused_goes past m behind told (after m.state (Hears (refused_item (BadSum want got)))) (no_events behind now.followed) now.told_so whole
  item_goes past m (refused_item (BadKind x)) rest behind told now tie whole = refused_goes past m behind told (after m.state (Hears (refused_item (BadKind x)))) (no_events behind now.followed) now.told_so whole
  item_goes past m (refused_item (Stray x)) rest behind told now tie whole = quiet_item past m behind told (after m.state (Hears (refused_item (Stray x)))) now.told_so (no_events behind now.followed) whole
  item_goes past m (refused_item (BadLength n)) rest behind told now tie whole = quiet_item past m behind told (after m.state (Hears (refused_item (BadLength n)))) now.told_so (no_events behind now.followed) whole
  item_goes past m (refused_item Aborted) rest behind told now tie whole = quiet_item past m behind told (after m.state (Hears (refused_item Aborted))) now.told_so (no_events behind now.followed) whole

  -- ---- phases

  rest_of : (here : Phase) (past : List Entry) (m : HostMachine) → NotBehind here → KnowsNotes keys here past m → NotesWhole keys past
  rest_of (Behind left) past m other known = absurd other
  rest_of here past m other known = known

  of_rest : (next : Phase) (past : List Entry) (m : HostMachine) → NotBehind next → NotesWhole keys past → KnowsNotes keys next past m
  of_rest (Behind left) past m other whole = absurd other
  of_rest next past m other whole = whole

  leads : (next : Phase) (past : List Entry) (m : HostMachine) (one : Step) → NotBehind next → Goes keys past (entries m one) → Leads next past m one
  leads next past m one other goes = (goes.0, of_rest next (past ++ entries m one) (happens m one) other goes.1)

  -- a unit of the chip that did not come
  missed_goes : (past : List Entry) (text : List ℕ) (marks : List Entry) → DidNotCome marks → NotesWhole keys past → Goes keys past (entry.Written Chip text ∷ marks)
  missed_goes past text marks did whole =
      let e : Entry = entry.Written Chip text in
      let off : is_following (past ++ e ∷ []) ≡ false = following_one past e ∙ and_none (is_following past) in
      let more = by (past ++ e ∷ []) marks did off in
      ((whole_may keys past e tt whole, more.0), subst (NotesWhole keys) (append_assoc past (e ∷ []) marks) more.1)
    where
      one_off : (before : List Entry) (mark : Entry) → IsElse mark → after_step false mark ≡ false → is_following before ≡ false → MayGoOn keys before mark × (is_following (before ++ mark ∷ []) ≡ false)
      one_off before mark other ends off = (whole_may keys before mark other (off_whole keys before off), following_one before mark ∙ (ap (λ (b : Bool). after_step b mark) off ∙ ends))

      by : (before marks : List Entry) → DidNotCome marks → is_following before ≡ false → Goes keys before marks
      by before (entry.Dropped Chip ∷ []) did off = let got = one_off before (entry.Dropped Chip) tt refl off in ((got.0, tt), off_whole keys (before ++ entry.Dropped Chip ∷ []) got.1)
      by before (entry.Overrun Chip ∷ []) did off = let got = one_off before (entry.Overrun Chip) tt refl off in ((got.0, tt), off_whole keys (before ++ entry.Overrun Chip ∷ []) got.1)
      by before (entry.Garbled Chip unit ∷ []) did off = let got = one_off before (entry.Garbled Chip unit) tt refl off in ((got.0, tt), off_whole keys (before ++ entry.Garbled Chip unit ∷ []) got.1)
      by before (entry.Garbled Chip unit ∷ entry.Overrun Chip ∷ []) did off =
          let got = one_off before (entry.Garbled Chip unit) tt refl off in
          let more = one_off (before ++ entry.Garbled Chip unit ∷ []) (entry.Overrun Chip) tt refl got.1 in (
            (got.0, (more.0, tt)),
            subst (NotesWhole keys) (append_assoc before (entry.Garbled Chip unit ∷ []) (entry.Overrun Chip ∷ [])) (off_whole keys ((before ++ entry.Garbled Chip unit ∷ []) ++ entry.Overrun Chip ∷ []) more.1),
          )
      by before marks did off = absurd did

  -- ---- events behind an item

  frame_event : (past : List Entry) (m : HostMachine) (event : HostEvent) (left : List HostEvent) (told : List Entry)
      → IsBehindFrame past m (event ∷ left) ⊎ (AllByRecursion IsOfRequest (event ∷ left) × Settled past) → AreTold (outs m.state event) told → AllByRecursion IsNoted told
  frame_event past m event left told behind are = let (unit, may) = behind_follows event left past m behind in (follow_told unit m.state event told may are).noted_are

  behind_leads : (past : List Entry) (m : HostMachine) (event : HostEvent) (left : List HostEvent) (told : List Entry) → KnowsHost keys (Behind (event ∷ left)) past m → AreTold (outs m.state event) told
      → KnowsNotes keys (Behind (event ∷ left)) past m → Leads (Behind left) past m (Does event told)
  behind_leads past m event left told ground are (inl (unnumbered, notes)) =
      let noted_all = frame_event past m event left told ground.0.0.0.0.0.0.1.1 are in
      let goes = behind_goes keys past m.state event left told (ties_of (event ∷ left) past m ground) ground.0.1.1 noted_all are notes in
      (goes.0, inl (unnumbered, goes.1))
  behind_leads past m event left told ground are (inr (requests, whole)) =
      let goes = request_goes keys past m.state event told requests.0 are whole in (goes.0, inr (requests.1, goes.1))

  does : (here next : Phase) (past : List Entry) (m : HostMachine) (event : HostEvent) (told : List Entry) → May here m (Does event told) next → KnowsHost keys here past m → KnowsNotes keys here past m
      → Leads next past m (Does event told)
  does (Ticking (first ∷ left)) next past m event told may ground known =
      leads next past m (Does event told) (as_phase next (Ticking left) may.0.1 tt) (own_goes keys past m.state event told (subst IsOwn (sym may.0.0) ground.0.0.0.0.0.0.1.0.0) may.2 known)
  does (Behind (first ∷ left)) next past m event told may ground known =
      subst (λ (p : Phase). Leads p past m (Does event told)) (sym may.0.1)
      (behind_leads past m event left told (subst (λ (one : HostEvent). KnowsHost keys (Behind (one ∷ left)) past m) (sym may.0.0) ground) may.2
      (subst (λ (one : HostEvent). KnowsNotes keys (Behind (one ∷ left)) past m) (sym may.0.0) known))
  does Sleeping next past m event told may ground known =
      let (node, wants, is, next_phase) = may.0 in
      leads next past m (Does event told) (as_phase next Sleeping next_phase tt) (own_goes keys past m.state event told (subst IsOwn (sym is) (no_more_is IsOwn sleepers_own m.state node)) may.2 known)
  does Submitting next past m event told may ground known =
      leads next past m (Does event told) (as_phase next Submitting may.0.1 tt) (own_goes keys past m.state event told (next_is IsOwn submitted_own m.state event may.0.0) may.2 known)
  does (Ticking []) next past m event told may ground known = absurd may.0
  does (Behind []) next past m event told may ground known = absurd may.0
  does Resting next past m event told may ground known = absurd may.0
  does (Asked line) next past m event told may ground known = absurd may.0
  does Risen next past m event told may ground known = absurd may.0
  does Open next past m event told may ground known = absurd may.0

  -- ---- the number of a tick

  numbers_whole : (here : Phase) (past : List Entry) (m : HostMachine) → NotBehind here → KnowsNotes keys here past m → Leads here past m Numbers
  numbers_whole here past m other known = leads here past m Numbers other (end_goes keys past (entry.Time m.clock) tt and_none (rest_of here past m other known))

  numbers : (here : Phase) (past : List Entry) (m : HostMachine) → m.awaits ≡ true → KnowsNotes keys here past m → Leads here past m Numbers
  numbers (Behind left) past m awaits (inl notes) = absurd (both_ways m.awaits notes.0 awaits)
  numbers (Behind left) past m awaits (inr (requests, whole)) =
      let goes = end_goes keys past (entry.Time m.clock) tt and_none whole in (goes.0, inr (requests, goes.1))
  numbers (Asked line) past m awaits known = numbers_whole (Asked line) past m tt known
  numbers (Ticking left) past m awaits known = numbers_whole (Ticking left) past m tt known
  numbers Resting past m awaits known = numbers_whole Resting past m tt known
  numbers Risen past m awaits known = numbers_whole Risen past m tt known
  numbers Open past m awaits known = numbers_whole Open past m tt known
  numbers Sleeping past m awaits known = numbers_whole Sleeping past m tt known
  numbers Submitting past m awaits known = numbers_whole Submitting past m tt known

  -- ---- the walk

  nothing : (past : List Entry) → NotesWhole keys past → Goes keys past []
  nothing past whole = nothing_goes keys past [] refl whole

  step_goes : (here next : Phase) (past : List Entry) (m : HostMachine) (one : Step) → May here m one next → KnowsHost keys here past m → KnowsNotes keys here past m → Leads next past m one
  step_goes here next past m (Tells e) may ground known =
      let other = between_not here may.0 in
      leads next past m (Tells e) (as_phase next here may.3 other) (plain_goes keys past (e ∷ []) (others_plain e may.1, tt) (rest_of here past m other known))
  step_goes here next past m (Comes unit) may ground known =
      let other = between_not here may.0 in
      leads next past m (Comes unit) (as_phase next here may.2 other) (end_goes keys past (entry.Written Chip (unit_text unit)) tt and_none (rest_of here past m other known))
  step_goes here next past m (Misses text marks) may ground known =
      let other = between_not here may.0 in leads next past m (Misses text marks) (as_phase next here may.3 other) (missed_goes past text marks may.1 (rest_of here past m other known))
  step_goes here next past m (Says words line) may ground known =
      leads next past m (Says words line) (as_phase next (Asked line) may.3 tt) (end_goes keys past (entry.Said words) tt and_none (rest_of here past m (as_phase here Resting may.0 tt) known))
  step_goes here next past m (Says_nothing words) may ground known =
      let other = as_phase here Resting may.0 tt in
      leads next past m (Says_nothing words) (as_phase next here may.3 other) (end_goes keys past (entry.Said words) tt and_none (rest_of here past m other known))
  step_goes here next past m (Asks event) (line, here_is, asked, may, numbered, next_is) ground known =
      leads next past m (Asks event) (as_phase next Open next_is tt) (plain_goes keys past (answers m.state event) (answers_plain m.state event) (rest_of here past m (as_phase here (Asked line) here_is tt) known))
  step_goes here next past m (Refuses refusal) (line, here_is, why, numbered, next_is) ground known =
      leads next past m (Refuses refusal) (as_phase next Open next_is tt) (end_goes keys past (entry.Refused refusal) tt and_none (rest_of here past m (as_phase here (Asked line) here_is tt) known))
  step_goes here next past m (Shows node) may ground known =
      leads next past m (Shows node) (as_phase next Open may.2 tt) (plain_goes keys past (shown_values m.state node ∷ []) ((tt, tt, refl), tt) (rest_of here past m (as_phase here _ may.0 tt) known))
  step_goes here next past m (Restarts state) may ground known =
      leads next past m (Restarts state) (as_phase next Open may.2 tt) (nothing past (rest_of here past m (as_phase here _ may.0 tt) known))
  step_goes here next past m (Begins_tick left) may ground known =
      leads next past m (Begins_tick left) (as_phase next Risen may.2 tt) (nothing past (rest_of here past m (as_phase here Resting may.0 tt) known))
  step_goes here next past m Numbers may ground known = subst (λ (p : Phase). Leads p past m Numbers) (sym may.1) (numbers here past m may.0 known)
  step_goes here next past m (Judges item rest behind told) may ground known =
      subst (λ (p : Phase). Leads p past m (Judges item rest behind told)) (sym may.2)
      (item_goes past m item rest behind told may.1 (subst (λ (p : Phase). KnowsHost keys p past m) may.0 ground).0.0.0.0.0.0.1.frames (rest_of here past m (as_phase here Open may.0 tt) known))
  step_goes here next past m (Does event told) may ground known = does here next past m event told may ground known

  turn_goes : (here next : Phase) (past : List Entry) (m : HostMachine) → Turns here m next → KnowsHost keys here past m → KnowsNotes keys here past m → KnowsNotes keys next past m
  turn_goes Resting next past m is ground known = of_rest next past m (as_phase next Open is tt) known
  turn_goes (Asked line) next past m (inl (nothing_asked, is)) ground known = of_rest next past m (as_phase next Open is tt) known
  turn_goes (Asked line) next past m (inr (ticks, line_is, is)) ground known = of_rest next past m (as_phase next Resting is tt) known
  turn_goes Risen next past m is ground known = of_rest next past m (as_phase next _ is tt) known
  turn_goes (Ticking []) next past m is ground known = of_rest next past m (as_phase next Open is tt) known
  turn_goes (Ticking (event ∷ left)) next past m is ground known = absurd is
  turn_goes Open next past m is ground known = of_rest next past m (as_phase next Sleeping is tt) known
  turn_goes (Behind []) next past m is ground (inl notes) = of_rest next past m (as_phase next Open is tt) (all_over keys past m.state (ties_of [] past m ground) notes.1)
  turn_goes (Behind []) next past m is ground (inr (requests, whole)) = of_rest next past m (as_phase next Open is tt) whole
  turn_goes (Behind (event ∷ left)) next past m is ground known = absurd is
  turn_goes Sleeping next past m is ground known = of_rest next past m (as_phase next Submitting is.1 tt) known
  turn_goes Submitting next past m is ground known = of_rest next past m (as_phase next Resting is.1 tt) known

  pub notes_walk : WalkOver (KnowsHost keys) (λ past e. Unit {0}) (MayGoOn keys) (KnowsNotes keys)
  notes_walk = record {
    step = λ here next past m one may ground stand known. step_goes here next past m one may ground known;
    turn = λ here next past m turns ground known. turn_goes here next past m turns ground known;
  }
