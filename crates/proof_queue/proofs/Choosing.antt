-- For each run of a host alone there are messages such that it goes by them: those of each payload by which it did something.
use Rattle.std.proofs.Common.{◌≡◌, ◌≤◌, ℕ, suc, Bool, true, false, if◌then◌else◌, List, [], ◌∷◌, ◌++◌, length, refl, sym, ap, ◌∙◌, subst, length-append, arith}
use Rattle.std.specs.List.{flat_map}
use Rattle.std.proofs.lemmas.Bool.{eq-eqb, ne_eqb}
use Rattle.serial_frame.specs.Frame.{FrameParts}
use Rattle.serial_frame.specs.Items.{unit_text}
use Rattle.serial_frame.specs.declared.item.Item.TheVariants.{Good, Refused as refused_item}
use Rattle.serial_frame.specs.declared.unit.Unit.{Unit as LineUnit}
use Rattle.serial_frame.specs.declared.unit.Unit.TheVariants.{Ack, Nak, Can, Framed}
use Rattle.zw_words.specs.declared.side.Side.TheVariants.{Host}
use Rattle.zw_text.specs.declared.entry.Entry.{Entry}
use Rattle.zw_text.specs.declared.entry.Entry.TheVariants as entry
use Rattle.zw_text.proofs.Views.{folded-append}
use Rattle.host_heard.specs.declared.told.Told.{Told}
use Rattle.law_transcript.specs.Units.{Carried}
use Rattle.law_time.specs.Judged.{after_step, brought_here, is_following}
use Rattle.law_time.specs.Wants.{wants_told}
use Rattle.law_time.specs.Queue.{Queue, each_with, with_all_brought, with_asked, with_brought}
use Rattle.host_model.specs.State.{HostState}
use Rattle.host_model.specs.After.{after}
use Rattle.host_model.specs.Did.{after_all}
use Rattle.host_model.specs.Events.{HostEvent, Hears}
use Rattle.host_model.specs.declared.out.HostOut.TheVariants.{Write}
use Rattle.proof_attempts.specs.proof_requests.law_host.Heard.{heeds_alone, listing_heard}
use Rattle.proof_attempts.specs.proof_requests.proof_alone.State.{HostMachine}
use Rattle.proof_attempts.specs.proof_requests.proof_alone.Steps.{AreTold, Step, Judges, entries, happens}
use Rattle.proof_attempts.specs.proof_requests.proof_alone.Phases.{Phase, Open, Behind, May}
use Rattle.proof_attempts.specs.proof_requests.proof_alone.Runs.{Run}
use Rattle.proof_attempts.specs.proof_requests.proof_alone.Runs.Run.{Begins, Turned, Stepped}
use Rattle.proof_attempts.specs.proof_requests.proof_waking.Judged.{LastFrame, TieFrames, frames_of}
use Rattle.proof_attempts.proofs.proof_waking_Apart.{acknowledged_frames}
use Rattle.proof_attempts.proofs.proof_waking_Settling.{brought_is}
use Rattle.proof_queue.specs.Waiting.{Waits, dropped_by}
use Rattle.proof_queue.specs.Heeding.{AllSteps, HeedsAs, HeedsSo, PutsSo, heeded_frame, heeding_at}
use Rattle.proof_queue.proofs.Payloads.{frame_so}
use Rattle.proof_queue.proofs.Segments.{Shows as ShowsNode}

abbrev Taken : Type 0
Taken = List Entry → Carried → List Told

abbrev acknowledged : Entry
acknowledged = entry.Written Host (unit_text Ack)

-- ---- two that are the same up to a past

each_same : (f g : Queue → Carried → Queue) → ((queue : Queue) (carried : Carried) → f queue carried ≡ g queue carried) → (queue : Queue) (items : List Carried) → each_with f queue items ≡ each_with g queue items
each_same f g same queue [] = refl
each_same f g same queue (carried ∷ items) = ap (λ (q : Queue). each_with f q items) (same queue carried) ∙ each_same f g same (g queue carried) items

brought_same : (t u : Taken) (past : List Entry) → ((carried : Carried) → t past carried ≡ u past carried) → (queue : Queue) → with_all_brought (heeds_alone t) past [] queue ≡ with_all_brought (heeds_alone u) past [] queue
brought_same t u past same queue =
    each_same (λ queue carried. with_brought (heeds_alone t) past [] queue carried) (λ queue carried. with_brought (heeds_alone u) past [] queue carried)
    (λ queue carried. ap (λ (m : List Told). each_with (with_asked carried.node) queue (flat_map (wants_told listing_heard past carried.node) m)) (same carried)) queue (brought_here past)

puts_same : (t u : Taken) (past : List Entry) (h : HostState) (behind : List HostEvent) → ((carried : Carried) → t past carried ≡ u past carried) → PutsSo (heeds_alone t) past h behind
    → PutsSo (heeds_alone u) past h behind
puts_same t u past h behind same puts queue waits =
    subst (λ (q : Queue). Waits q (after_all h behind).requests.queue (dropped_by h behind)) (brought_same t u past same queue) (puts queue waits)

-- a frame that is judged is acknowledged, so the transcript is longer by then
one_longer : (past told : List Entry) → AreTold (Write Ack ∷ []) told → length (past ++ acknowledged ∷ []) ≤ length (past ++ told)
one_longer past told (marks, rest, is, all, none) =
    let long = length-append past told in
    let one = length-append past (acknowledged ∷ []) in
    let some : length told ≡ suc (length (marks ++ rest)) = ap length is in
    omega (arith, long, one, some)

step_same : (t u : Taken) (here next : Phase) (past all : List Entry) (m : HostMachine) (step : Step) → May here m step next → all ≡ past ++ entries m step
    → ((other : List Entry) (carried : Carried) → length other ≤ length all → t other carried ≡ u other carried) → HeedsSo (heeds_alone t) past m step → HeedsSo (heeds_alone u) past m step
step_same t u here next past all m (Judges (Good (Framed f)) rest behind told) may all_is same sure =
    puts_same t u (past ++ acknowledged ∷ []) (after m.state (Hears (Good (Framed f)))) behind
    (λ carried. same (past ++ acknowledged ∷ []) carried (subst (λ (l : List Entry). length (past ++ acknowledged ∷ []) ≤ length l) (sym all_is) (one_longer past told may.1.told_so))) sure
step_same t u here next past all m (Judges (Good Ack) rest behind told) may all_is same sure = tt
step_same t u here next past all m (Judges (Good Nak) rest behind told) may all_is same sure = tt
step_same t u here next past all m (Judges (Good Can) rest behind told) may all_is same sure = tt
step_same t u here next past all m (Judges (refused_item refusal) rest behind told) may all_is same sure = tt
step_same t u here next past all m step may all_is same sure = tt

as_same : (t u : Taken) (here next : Phase) (past all : List Entry) (m : HostMachine) (step : Step) → May here m step next → all ≡ past ++ entries m step
    → ((other : List Entry) (carried : Carried) → length other ≤ length all → t other carried ≡ u other carried) → HeedsAs (heeds_alone t) past m step → HeedsAs (heeds_alone u) past m step
as_same t u here next past all m (Judges (Good (Framed f)) rest behind told) may all_is same (is, heeded) = (
  is,
  λ carried.
      sym (same (past ++ acknowledged ∷ []) carried (subst (λ (l : List Entry). length (past ++ acknowledged ∷ []) ≤ length l) (sym all_is) (one_longer past told may.1.told_so))) ∙ heeded carried,
)
as_same t u here next past all m (Judges (Good Ack) rest behind told) may all_is same sure = tt
as_same t u here next past all m (Judges (Good Nak) rest behind told) may all_is same sure = tt
as_same t u here next past all m (Judges (Good Can) rest behind told) may all_is same sure = tt
as_same t u here next past all m (Judges (refused_item refusal) rest behind told) may all_is same sure = tt
as_same t u here next past all m step may all_is same sure = tt

before_all : (past more all : List Entry) → all ≡ past ++ more → length past ≤ length all
before_all past more all is = let long = length-append past more in let same = ap length is in omega (arith, long, same)

module _ (start : HostMachine) where
  run_same : {here : Phase} {told : List Entry} {m : HostMachine} → (run : Run start here told m) → (t u : Taken)
      → ((other : List Entry) (carried : Carried) → length other ≤ length told → t other carried ≡ u other carried) → AllSteps (HeedsSo (heeds_alone t)) run → AllSteps (HeedsSo (heeds_alone u)) run
  run_same Begins t u same sure = tt
  run_same (Turned turns run) t u same sure = run_same run t u same sure
  run_same {here = next} {told = all} (Stepped {here = here} {told = told} {m = m} step may all_is later_is run) t u same sure =
      let shorter = before_all told (entries m step) all all_is in (
        run_same run t u (λ other carried less. same other carried (omega (arith, less, shorter))) sure.0,
        step_same t u here next told all m step may all_is same sure.1,
      )

  run_as : {here : Phase} {told : List Entry} {m : HostMachine} → (run : Run start here told m) → (t u : Taken)
      → ((other : List Entry) (carried : Carried) → length other ≤ length told → t other carried ≡ u other carried) → AllSteps (HeedsAs (heeds_alone t)) run → AllSteps (HeedsAs (heeds_alone u)) run
  run_as Begins t u same sure = tt
  run_as (Turned turns run) t u same sure = run_as run t u same sure
  run_as {here = next} {told = all} (Stepped {here = here} {told = told} {m = m} step may all_is later_is run) t u same sure =
      let shorter = before_all told (entries m step) all all_is in (
        run_as run t u (λ other carried less. same other carried (omega (arith, less, shorter))) sure.0,
        as_same t u here next told all m step may all_is same sure.1,
      )

  -- ---- what is chosen

  -- each node of a host that has acknowledged a frame is as the transcript shows, and it judged what came
  module _ (shows : (here : Phase) (told : List Entry) (m : HostMachine) → Run start here told m → (n : ℕ) → ShowsNode told m.state n)
      (nonces : (here : Phase) (told : List Entry) (m : HostMachine) → Run start here told m → length m.state.nonces ≡ 233)
      (frames : (told : List Entry) (m : HostMachine) → Run start Open told m → TieFrames told m.came) where
    -- the run that has just acknowledged it
    acknowledges : (here next : Phase) (past : List Entry) (m : HostMachine) (f : FrameParts) (rest : List LineUnit) (behind : List HostEvent) (told : List Entry)
        → May here m (Judges (Good (Framed f)) rest behind told) next → Run start here past m
        → Run start (Behind behind) (past ++ acknowledged ∷ []) (happens m (Judges (Good (Framed f)) rest behind (acknowledged ∷ [])))
    acknowledges here next past m f rest behind told may run =
        Stepped (Judges (Good (Framed f)) rest behind (acknowledged ∷ [])) (
          may.0,
          record {
            takes = may.1.takes;
            may = may.1.may;
            followed = may.1.followed;
            told_so = ([], [], refl, tt, refl);
            numbered = λ awaits. absurd (let (marks, more, is, all, none) = may.1.told_so in let bad : acknowledged ∷ (marks ++ more) ≡ [] = sym is ∙ may.1.numbered awaits in cc);
          },
          refl,
        ) refl refl run

    frame_heeds : (here next : Phase) (past : List Entry) (m : HostMachine) (f : FrameParts) (rest : List LineUnit) (behind : List HostEvent) (told : List Entry)
        → (may : May here m (Judges (Good (Framed f)) rest behind told) next) → Run start here past m → (taken : Taken)
        → ((carried : Carried) → taken (past ++ acknowledged ∷ []) carried ≡ heeded_frame (after m.state (Hears (Good (Framed f)))) f.kind f.func f.body behind may.1.followed)
        → PutsSo (heeds_alone taken) (past ++ acknowledged ∷ []) (after m.state (Hears (Good (Framed f)))) behind
    frame_heeds here next past m f rest behind told may run taken chosen =
        let later = acknowledges here next past m f rest behind told may run in
        let opened : Run start Open past m = subst (λ (p : Phase). Run start p past m) may.0 run in
        let judged = acknowledged_frames past m.came rest (unit_text (Framed f)) (unit_text Ack) (ap frames_of may.1.takes) refl (frames past m opened) in
        let follows : is_following (past ++ acknowledged ∷ []) ≡ true = folded-append after_step false past (acknowledged ∷ []) in
        let last : LastFrame (past ++ acknowledged ∷ []) behind = record {
          first = after m.state (Hears (Good (Framed f)));
          frame = f;
          gone = [];
          followed = may.1.followed;
          last = judged.last;
          quiet = λ directly. refl;
        } in
        frame_so (past ++ acknowledged ∷ []) (after m.state (Hears (Good (Framed f)))) (shows _ _ _ later) (nonces _ _ _ later) taken f behind may.1.followed
        (brought_is (past ++ acknowledged ∷ []) behind last follows) chosen

    pub record Chosen {here : Phase} {told : List Entry} {m : HostMachine} (run : Run start here told m) : Type 0 where
      pub taken : Taken
      pub sure : AllSteps (HeedsSo (heeds_alone taken)) run
      pub as_told : AllSteps (HeedsAs (heeds_alone taken)) run

    shorter_same : (messages : List Told) (taken : Taken) (past other : List Entry) (carried : Carried) → length other ≤ length past → taken other carried ≡ heeding_at (past ++ acknowledged ∷ []) messages taken other carried
    shorter_same messages taken past other carried less =
        let one = length-append past (acknowledged ∷ []) in
        sym (ap (λ (b : Bool). if b then messages else taken other carried) (ne_eqb (length other) (length (past ++ acknowledged ∷ [])) (λ same. omega (arith, less, one, same))))

    -- by a step more
    step_chosen : (here next : Phase) (past all : List Entry) (m later : HostMachine) (step : Step) (may : May here m step next) (all_is : all ≡ past ++ entries m step) (later_is : later ≡ happens m step)
        → (run : Run start here past m) → Chosen run → Chosen (Stepped step may all_is later_is run)
    step_chosen here next past all m later (Judges (Good (Framed f)) rest behind told) may all_is later_is run chosen =
        let messages : List Told = heeded_frame (after m.state (Hears (Good (Framed f)))) f.kind f.func f.body behind may.1.followed in
        let taken : Taken = heeding_at (past ++ acknowledged ∷ []) messages chosen.taken in
        let heeded : (carried : Carried) → taken (past ++ acknowledged ∷ []) carried ≡ messages
        = λ carried. ap (λ (b : Bool). if b then messages else chosen.taken (past ++ acknowledged ∷ []) carried) (eq-eqb (length (past ++ acknowledged ∷ [])) (length (past ++ acknowledged ∷ [])) refl) in
        record {
          taken = taken;
          sure = (
            run_same run chosen.taken taken (λ other carried less. shorter_same messages chosen.taken past other carried less) chosen.sure,
            frame_heeds here next past m f rest behind told may run taken heeded,
          );
          as_told = (
            run_as run chosen.taken taken (λ other carried less. shorter_same messages chosen.taken past other carried less) chosen.as_told,
            (may.1.followed, heeded),
          );
        }
    step_chosen here next past all m later (Judges (Good Ack) rest behind told) may all_is later_is run chosen = record { taken = chosen.taken; sure = (chosen.sure, tt); as_told = (chosen.as_told, tt) }
    step_chosen here next past all m later (Judges (Good Nak) rest behind told) may all_is later_is run chosen = record { taken = chosen.taken; sure = (chosen.sure, tt); as_told = (chosen.as_told, tt) }
    step_chosen here next past all m later (Judges (Good Can) rest behind told) may all_is later_is run chosen = record { taken = chosen.taken; sure = (chosen.sure, tt); as_told = (chosen.as_told, tt) }
    step_chosen here next past all m later (Judges (refused_item refusal) rest behind told) may all_is later_is run chosen = record { taken = chosen.taken; sure = (chosen.sure, tt); as_told = (chosen.as_told, tt) }
    step_chosen here next past all m later step may all_is later_is run chosen = record { taken = chosen.taken; sure = (chosen.sure, tt); as_told = (chosen.as_told, tt) }

    pub chooses : {here : Phase} {told : List Entry} {m : HostMachine} → (run : Run start here told m) → Chosen run
    chooses Begins = record { taken = λ past carried. []; sure = tt; as_told = tt }
    chooses (Turned turns run) = let before = chooses run in record { taken = before.taken; sure = before.sure; as_told = before.as_told }
    chooses {here = next} {told = all} {m = later} (Stepped {here = here} {told = told} {m = m} step may all_is later_is run) =
        step_chosen here next told all m later step may all_is later_is run (chooses run)
