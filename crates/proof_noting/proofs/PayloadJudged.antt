-- A frame that brings a payload of a node is judged: the course is in the middle of it.
use Rattle.std.proofs.Common.{◌≡◌, ℕ, false, List, [], ◌∷◌, ◌++◌, refl, sym, ap, ◌∙◌, subst, append-nil}
use Rattle.serial_frame.specs.Frame.{FrameParts}
use Rattle.serial_frame.specs.Items.{unit_text}
use Rattle.serial_frame.specs.declared.item.Item.{Item}
use Rattle.serial_frame.specs.declared.item.Item.TheVariants.{Good}
use Rattle.serial_frame.specs.declared.unit.Unit.{Unit as LineUnit}
use Rattle.serial_frame.specs.declared.unit.Unit.TheVariants.{Ack, Framed}
use Rattle.zw_words.specs.declared.side.Side.TheVariants.{Host}
use Rattle.zw_text.specs.declared.entry.Entry.{Entry}
use Rattle.zw_text.specs.declared.entry.Entry.TheVariants.{Written}
use Rattle.host_heard.specs.declared.told.Told.{Told}
use Rattle.host_model.specs.Events.{HostEvent, Hears}
use Rattle.host_model.specs.declared.out.HostOut.TheVariants.{Write}
use Rattle.law_transcript.specs.Units.{Carried}
use Rattle.law_time.specs.Queue.{queue_before}
use Rattle.proof_hearing.proofs.proof_queue_Stepping.{not_awaiting}
use Rattle.proof_hearing.specs.proof_queue.Heeding.{AllSteps, HeedsSo}
use Rattle.proof_hearing.specs.proof_queue.Waiting.{Waits}
use Rattle.proof_hearing.specs.proof_queue.proof_attempts.proof_requests.law_host.Heard.{heeds_alone}
use Rattle.proof_hearing.specs.proof_queue.proof_attempts.proof_requests.proof_alone.Careful.{Careful, MayJudge, stage_of}
use Rattle.proof_hearing.specs.proof_queue.proof_attempts.proof_requests.proof_alone.Phases.{IsJudgedNow, Open, Phase}
use Rattle.proof_hearing.specs.proof_queue.proof_attempts.proof_requests.proof_alone.Runs.{Run}
use Rattle.proof_hearing.specs.proof_queue.proof_attempts.proof_requests.proof_alone.State.{HostMachine, done}
use Rattle.proof_hearing.specs.proof_queue.proof_attempts.proof_requests.proof_alone.Steps.{AreTold, Judges, happens}
use Rattle.proof_hearing.specs.proof_choice.proof_following.Quiet.{acknowledges}
use Rattle.proof_hearing.proofs.proof_ends_Walking.{ShowsOpen}
use Rattle.proof_noting.specs.Following.{Outset}
use Rattle.proof_noting.specs.Behind.{AtOpen, InPayload}
use Rattle.proof_noting.specs.Behind.BehindSo.{Payload_left}
use Rattle.proof_noting.specs.Ground.{GroundAlong}
use Rattle.proof_noting.specs.Noting.{KnowsCourse}
use Rattle.proof_noting.specs.Steps.{BringsPayload, StepFollows, first_of}
use Rattle.proof_noting.specs.Sure.{SureRun, SureStep}
use Rattle.proof_noting.proofs.Acknowledged.{kind_judged}

-- where a host is to judge a frame what waits before the acknowledgement is what waits in it (hosts_queue_as_told)
abbrev pub JudgesAsTold : (key : List ℕ) (taken : List Entry → Carried → List Told) → Type 0
JudgesAsTold key taken =
    (past : List Entry) (m : HostMachine) (f : FrameParts) (rest : List LineUnit) → (run : Run (first_of key) Open past m) → Careful run → AllSteps (HeedsSo (heeds_alone taken)) run
    → m.came ≡ Framed f ∷ rest → m.awaits ≡ false → MayJudge (stage_of run) → Waits (queue_before (heeds_alone taken) past (Written Host (unit_text Ack))) m.state.requests.queue []

module _ (key : List ℕ) (taken : List Entry → Carried → List Told) (from : Outset) (ground : GroundAlong taken (first_of key)) (shows : ShowsOpen) (queues : JudgesAsTold key taken) where
  frame_judged : (past told : List Entry) (m : HostMachine) (f : FrameParts) (rest : List LineUnit) (behind : List HostEvent) → BringsPayload (Good (Framed f)) → (sure : SureRun taken (first_of key) Open past m)
      → SureStep taken sure.run (Judges (Good (Framed f)) rest behind told) → IsJudgedNow m (Good (Framed f)) rest behind told → AtOpen key taken from past m
      → InPayload key taken from (first_of key) (past ++ told) (record (done m (Hears (Good (Framed f)))) { came = rest }) behind
  frame_judged past told m f rest behind brings sure well now known = by now.told_so
    where
      by : AreTold (Write Ack ∷ []) told → InPayload key taken from (first_of key) (past ++ told) (record (done m (Hears (Good (Framed f)))) { came = rest }) behind
      by (marks, more, is, marked, none) =
          let are : told ≡ acknowledges ∷ marks
          = is ∙ ap (λ (l : List Entry). acknowledges ∷ (marks ++ l)) none ∙ ap (λ (l : List Entry). acknowledges ∷ l) (append-nil marks) in
          let unnumbered : m.awaits ≡ false = not_awaiting m.awaits acknowledges told marks now.numbered are in
          kind_judged key taken from ground shows past m f rest behind told marks sure well now known
          (queues past m f rest sure.run sure.careful sure.heeds_so now.takes unnumbered well.well.0) are marked f.kind refl brings
          well.heeds_as.0 well.heeds_as.1

  pub item_judged : (next : Phase) (past told : List Entry) (m : HostMachine) (item : Item) (rest : List LineUnit) (behind : List HostEvent) → BringsPayload item
      → StepFollows key taken from Open past m (Judges item rest behind told) next
  item_judged next past told m (Good (Framed f)) rest behind brings sure well may known =
      subst (λ (p : Phase). KnowsCourse key taken from (first_of key) p (past ++ told) (happens m (Judges (Good (Framed f)) rest behind told))) (sym may.2)
      (Payload_left (frame_judged past told m f rest behind brings sure well may.1 known))
  item_judged next past told m item rest behind brings sure well may known = absurd brings
