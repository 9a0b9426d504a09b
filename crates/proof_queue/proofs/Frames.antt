-- What waits by the transcript of a host alone after a frame of the host: a new request takes the first, unless it is an abort, and another copy nothing; and after what became of it.
use Rattle.std.proofs.Common.{◌≡◌, ℕ, ◌&&◌, ◌||◌, not, Bool, true, false, if◌then◌else◌, inr, List, [], ◌∷◌, ◌++◌, map, refl, sym, ap, ap₂, ◌∙◌, subst, append_assoc}
use Rattle.std.specs.Prelude.{drop}
use Rattle.std.specs.List.{AllByRecursion}
use Rattle.std.proofs.lemmas.Bool.{or_left}
use Rattle.zw_base.proofs.Each.{all-weaker}
use Rattle.serial_frame.specs.Frame.{FrameParts}
use Rattle.serial_frame.specs.Items.{unit_text}
use Rattle.serial_frame.specs.declared.unit.Unit.TheVariants.{Framed}
use Rattle.zw_words.specs.declared.side.Side.TheVariants.{Host}
use Rattle.zw_text.specs.declared.entry.Entry.{Entry}
use Rattle.zw_text.specs.declared.entry.Entry.TheVariants as entry
use Rattle.host_heard.specs.declared.told.Told.{Told}
use Rattle.law_transcript.specs.Units.{Carried}
use Rattle.law_time.specs.Ends.{is_abort_frame}
use Rattle.law_time.specs.Judged.{is_acknowledgement}
use Rattle.law_time.specs.Requests.{asked, is_new}
use Rattle.law_time.specs.Queue.{Queue, judges_first, lacks_places, queue_before}
use Rattle.host_requests.specs.declared.task.Task.{Task}
use Rattle.proof_attempts.specs.proof_requests.law_host.Heard.{heeds_alone}
use Rattle.proof_attempts.specs.proof_requests.proof_alone.Steps.{IsOfUnit}
use Rattle.proof_queue.specs.Waiting.{Fits, want_of_task}
use Rattle.proof_queue.specs.Turn.{may_go}
use Rattle.proof_queue.proofs.Books.{no_line}
use Rattle.proof_queue.proofs.Loose.{Still, mark_still, still_raw}
use Rattle.proof_queue.proofs.Sleeps.{Stands}
use Rattle.proof_queue.proofs.Ties.{Raw, Stand, allowed, before_raw, one_more, raw}

-- the first is gone, or all are left
abbrev pub less_first : Bool → List Task → List Task
less_first b tasks = if b then drop 1 tasks else tasks

abbrev taking : Bool → Queue → Queue
taking b q = if b then record q { wants = drop 1 q.wants } else q

first_gone : (tasks : List Task) → drop 1 (map want_of_task tasks) ≡ map want_of_task (drop 1 tasks)
first_gone [] = refl
first_gone (task ∷ rest) = refl

taken_stands : (b : Bool) (q : Queue) (tasks : List Task) (drops : ℕ → Bool) → Stands q tasks [] drops → Stands (taking b q) (less_first b tasks) [] drops
taken_stands true q tasks drops stands = record { wants_are = ap (λ (l : List (List ℕ)). drop 1 l) stands.wants_are ∙ first_gone tasks; owed_are = stands.owed_are; dropped = stands.dropped }
taken_stands false q tasks drops stands = stands

module _ (taken : List Entry → Carried → List Told) where
  -- what became of it may stand also where messages were dropped
  marks_stand : (past marks : List Entry) → AllByRecursion IsOfUnit marks → Stand taken past marks
  marks_stand past [] all = tt
  marks_stand past (entry.Dropped Host ∷ marks) all = (record { queues = inr refl; goes = refl }, marks_stand (past ++ entry.Dropped Host ∷ []) marks all.1)
  marks_stand past (entry.Garbled Host unit ∷ marks) all = (record { queues = inr refl; goes = refl }, marks_stand (past ++ entry.Garbled Host unit ∷ []) marks all.1)
  marks_stand past (entry.Overrun Host ∷ marks) all = (record { queues = inr refl; goes = refl }, marks_stand (past ++ entry.Overrun Host ∷ []) marks all.1)
  marks_stand past (e ∷ marks) all = absurd all.0

  -- one that was written, and what became of it
  pub marked_raw : (past : List Entry) (e : Entry) (marks : List Entry) (tasks : List Task) (owes : List ℕ) (drops : ℕ → Bool) → AllByRecursion IsOfUnit marks → Fits (heeds_alone taken) past e
      → Raw taken (past ++ e ∷ []) tasks owes drops → Stand taken past (e ∷ marks) × Raw taken (past ++ e ∷ marks) tasks owes drops
  marked_raw past e marks tasks owes drops all fits ties = (
    (fits, marks_stand (past ++ e ∷ []) marks all),
    subst (λ (l : List Entry). Raw taken l tasks owes drops) (append_assoc past (e ∷ []) marks)
        (still_raw taken (past ++ e ∷ []) marks tasks owes drops (all-weaker IsOfUnit Still mark_still marks all) ties),
  )

  module _ (past : List Entry) (f : FrameParts) where
    abbrev unit : List ℕ
    unit = unit_text (Framed f)

    abbrev frame : Entry
    frame = entry.Written Host unit

    pub frame_raw : (new aborts : Bool) (tasks : List Task) (drops : ℕ → Bool) → is_new (asked past) unit ≡ new → is_abort_frame unit ≡ aborts → lacks_places (heeds_alone taken) past ≡ false
        → may_go (heeds_alone taken) past frame ≡ true → Stands (queue_before (heeds_alone taken) past frame) tasks [] drops
        → Fits (heeds_alone taken) past frame × Raw taken (past ++ frame ∷ []) (less_first (new && not aborts) tasks) [] drops
    frame_raw new aborts tasks drops news abort lacks goes stands =
        let q : Queue = queue_before (heeds_alone taken) past frame in (
          record { queues = inr (allowed taken past frame lacks stands.owed_are); goes = goes },
          record {
            stands = subst (λ (k : Queue). Stands k (less_first (new && not aborts) tasks) [] drops) (sym (one_more taken past frame refl ∙ ap₂ (λ (b c : Bool). taking (b && not c) q) news abort))
                (taken_stands (new && not aborts) q tasks drops stands);
            answered = no_line (heeds_alone taken) past frame refl;
          },
        )

    -- at a copy the host does not look
    pub copy_before : is_new (asked past) unit ≡ false → queue_before (heeds_alone taken) past frame ≡ raw taken past
    copy_before old = before_raw taken past frame (ap (λ (b : Bool). b || (is_acknowledgement unit && judges_first past)) old)

    -- at a new request it does
    pub new_looks : is_new (asked past) unit ≡ true → (is_new (asked past) unit || (is_acknowledgement unit && judges_first past)) ≡ true
    new_looks new = or_left (is_new (asked past) unit) (is_acknowledgement unit && judges_first past) new
