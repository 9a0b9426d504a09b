-- The course of a host's notes at entries of others and of the chip, and at the number of a tick.
use Rattle.std.proofs.Common.{◌≡◌, ◌⊎◌, ◌≤◌, ℕ, ◌&&◌, not, Bool, true, false, if◌then◌else◌, inl, inr, List, [], ◌∷◌, ◌++◌, refl, sym, ap, ◌∙◌, arith}
use Rattle.std.specs.Prelude.{nat_lt}
use Rattle.std.specs.List.{AllByRecursion}
use Rattle.std.proofs.lemmas.Bool.{and_right, both_ways}
use Rattle.zw_words.specs.declared.side.Side.TheVariants.{Chip}
use Rattle.zw_text.specs.declared.entry.Entry.{Entry}
use Rattle.zw_text.specs.declared.entry.Entry.TheVariants as entry
use Rattle.host_heard.specs.declared.told.Told.{Told}
use Rattle.law_transcript.specs.Restarts.{begins_refused}
use Rattle.law_transcript.specs.Units.{Carried}
use Rattle.law_time.specs.Heeds.{Heeds}
use Rattle.law_time.specs.Judged.{is_data, is_mark}
use Rattle.law_time.specs.Moments.{clock}
use Rattle.law_time.specs.Requests.{are_none, asked}
use Rattle.host_requests.specs.Frames.{request_of}
use Rattle.host_requests.specs.declared.task.Purpose.{Purpose}
use Rattle.proof_hearing.specs.proof_choice.proof_giving.Told.{LeavesAttempts}
use Rattle.proof_hearing.proofs.proof_queue_Stepping.{time_told}
use Rattle.proof_hearing.proofs.Told.{attempts_left}
use Rattle.proof_hearing.proofs.ReadyTie.{ground_of}
use Rattle.proof_hearing.specs.Hearing.{choosing}
use Rattle.proof_hearing.specs.proof_queue.proof_attempts.proof_requests.law_host.Course.{Course}
use Rattle.proof_hearing.specs.proof_queue.proof_attempts.proof_requests.law_host.Following.{comes_to, has_heard, has_ticked, is_before_host, is_of_host, may_stand}
use Rattle.proof_hearing.specs.proof_queue.proof_attempts.proof_requests.law_host.Heard.{heeds_alone}
use Rattle.proof_hearing.specs.proof_queue.proof_attempts.proof_requests.law_host.Ticks.{denies, ticks}
use Rattle.proof_hearing.specs.proof_queue.proof_attempts.proof_requests.proof_alone.Careful.{IsNoDevice}
use Rattle.proof_hearing.specs.proof_queue.proof_attempts.proof_requests.proof_alone.Phases.{Phase}
use Rattle.proof_hearing.specs.proof_queue.proof_attempts.proof_requests.proof_alone.State.{HostMachine}
use Rattle.proof_hearing.specs.proof_queue.proof_attempts.proof_requests.proof_alone.Steps.{AreFrames, DidNotCome, IsOfOthers}
use Rattle.proof_hearing.specs.proof_choice.proof_following.Quiet.{IsPlainly, IsWithin}
use Rattle.proof_hearing.proofs.Entering.{comes_within, plainly_within}
use Rattle.proof_hearing.proofs.proof_ends_Walking.{ShowsOpen}
use Rattle.proof_noting.specs.Behind.{Answered, AtOpen}
use Rattle.proof_noting.specs.Following.{Follows, Goes, IsQuiet, Lags, Level, Outset, timed}
use Rattle.proof_noting.specs.Ground.{NotingGround}
use Rattle.proof_noting.specs.Noting.{AtRest}
use Rattle.proof_noting.specs.Ticking.{NoneNoted}
use Rattle.proof_noting.proofs.Becoming.{Becomes, becomes_heeded, comes_beside}
use Rattle.proof_noting.proofs.Choosing.{course_goes, goes_both, goes_nowhere, goes_plain}
use Rattle.proof_noting.proofs.Going.{BooksGo, late_timed, so_on}
use Rattle.proof_noting.proofs.Leaving.{LeavesBooks, books_left}
use Rattle.proof_noting.proofs.Quietly.{IsIdle}
use Rattle.proof_noting.proofs.Requested.{Stays, StaysDenied, read_framed}

-- ---- what an entry is

-- it may stand where no note does, and is no entry of the host
pub record PlainSo (e : Entry) : Type 0 where
  pub plainly : IsPlainly e
  pub unmarked : is_mark e ≡ false
  pub not_host : is_of_host e ≡ false
  pub stands : (past : List Entry) → may_stand past e ≡ true

-- of others, with what the host may not have done before it
pub record OtherSo (e : Entry) : Type 0 where
  pub plain : PlainSo e
  pub leaves : LeavesAttempts e
  pub fresh : (rest : List Entry) → begins_refused (e ∷ rest) ≡ false
  pub before : IsNoDevice e → (past : List Entry) → is_before_host past e ≡ true

pub others_so : (e : Entry) → IsOfOthers e → OtherSo e
others_so (entry.Air frame sender receiver repeaters payload) others =
    record { plain = record { plainly = tt; unmarked = refl; not_host = refl; stands = λ past. refl }; leaves = tt; fresh = λ rest. refl; before = λ no past. refl }
others_so (entry.Heard frame) others =
    record { plain = record { plainly = tt; unmarked = refl; not_host = refl; stands = λ past. refl }; leaves = tt; fresh = λ rest. refl; before = λ no past. refl }
others_so (entry.Lost frame) others =
    record { plain = record { plainly = tt; unmarked = refl; not_host = refl; stands = λ past. refl }; leaves = tt; fresh = λ rest. refl; before = λ no past. refl }
others_so (entry.Unheard frame) others =
    record { plain = record { plainly = tt; unmarked = refl; not_host = refl; stands = λ past. refl }; leaves = tt; fresh = λ rest. refl; before = λ no past. refl }
others_so (entry.Dev node by setting) others =
    record { plain = record { plainly = tt; unmarked = refl; not_host = refl; stands = λ past. refl }; leaves = tt; fresh = λ rest. refl; before = λ no past. refl }
others_so (entry.Device node setting) others =
    record { plain = record { plainly = tt; unmarked = refl; not_host = refl; stands = λ past. refl }; leaves = tt; fresh = λ rest. refl; before = λ no past. absurd no }
others_so (entry.Forget first second) others =
    record { plain = record { plainly = tt; unmarked = refl; not_host = refl; stands = λ past. refl }; leaves = tt; fresh = λ rest. refl; before = λ no past. refl }
others_so entry.ChipFull others =
    record { plain = record { plainly = tt; unmarked = refl; not_host = refl; stands = λ past. refl }; leaves = tt; fresh = λ rest. refl; before = λ no past. refl }
others_so (entry.Cleared side count) others =
    record { plain = record { plainly = tt; unmarked = refl; not_host = refl; stands = λ past. refl }; leaves = tt; fresh = λ rest. refl; before = λ no past. refl }
others_so e others = absurd others

pub chip_plain : (text : List ℕ) → PlainSo (entry.Written Chip text)
chip_plain text = record { plainly = tt; unmarked = refl; not_host = refl; stands = λ past. refl }

-- what became of a unit of the chip
abbrev pub IsChipMark : Entry → Type 0
IsChipMark (entry.Dropped Chip) = Unit {0}
IsChipMark (entry.Overrun Chip) = Unit {0}
IsChipMark (entry.Garbled Chip unit) = Unit {0}
IsChipMark e = ⊥

pub marks_chip : (marks : List Entry) → DidNotCome marks → AllByRecursion IsChipMark marks
marks_chip (entry.Dropped Chip ∷ []) did = (tt, tt)
marks_chip (entry.Overrun Chip ∷ []) did = (tt, tt)
marks_chip (entry.Garbled Chip unit ∷ []) did = (tt, tt)
marks_chip (entry.Garbled Chip unit ∷ entry.Overrun Chip ∷ []) did = (tt, (tt, tt))
marks_chip marks did = absurd did

mark_plain : (e : Entry) → IsChipMark e → PlainSo e
mark_plain (entry.Dropped Chip) mark = record { plainly = tt; unmarked = refl; not_host = refl; stands = λ past. refl }
mark_plain (entry.Overrun Chip) mark = record { plainly = tt; unmarked = refl; not_host = refl; stands = λ past. refl }
mark_plain (entry.Garbled Chip unit) mark = record { plainly = tt; unmarked = refl; not_host = refl; stands = λ past. refl }
mark_plain e mark = absurd mark

mark_before : (past : List Entry) (e : Entry) → IsChipMark e → is_before_host past e ≡ true
mark_before past (entry.Dropped Chip) mark = refl
mark_before past (entry.Overrun Chip) mark = refl
mark_before past (entry.Garbled Chip unit) mark = refl
mark_before past e mark = absurd mark

marks_fresh : (marks : List Entry) → AllByRecursion IsChipMark marks → begins_refused marks ≡ false
marks_fresh [] all = refl
marks_fresh (entry.Refused refusal ∷ marks) all = absurd all.0
marks_fresh (e ∷ marks) all = refl

-- ---- where it stands before the host's part

module _ (heeds : Heeds) where
  before_comes : (past : List Entry) (e : Entry) (c : Course) → IsWithin e → c.due ≡ [] → is_before_host past e ≡ true → is_of_host e ≡ false → comes_to heeds past e c ≡ c
  before_comes past e c within none before of =
      comes_within heeds past e c within
      ∙ ap (λ (l : List Entry). if are_none l then has_heard heeds past e (has_ticked heeds past e c) else c) none
      ∙ ap (λ (d : Course). has_heard heeds past e d)
      (ap (λ (b : Bool). if nat_lt c.ticked (clock past) && not b then ticks heeds past (clock past) c else c) before ∙ neither (nat_lt c.ticked (clock past)))
      ∙ ap (λ (b : Bool). if b then denies heeds past c else c) (and_right (are_none c.due) (is_of_host e) of)
    where
      neither : (a : Bool) → (if a && false then ticks heeds past (clock past) c else c) ≡ c
      neither true = refl
      neither false = refl

  before_goes : (past : List Entry) (e : Entry) (c : Course) → PlainSo e → is_before_host past e ≡ true → c.fits ≡ true → c.due ≡ [] → Goes heeds past (e ∷ []) c c
  before_goes past e c plain before fits none =
      goes_plain heeds past e c c plain.plainly plain.unmarked (plain.stands past) fits fits none
      (λ keepings texts. before_comes past e (choosing keepings texts c) (plainly_within e plain.plainly) none before plain.not_host)

  marks_go : (past marks : List Entry) (c : Course) → AllByRecursion IsChipMark marks → c.fits ≡ true → c.due ≡ [] → Goes heeds past marks c c
  marks_go past [] c all fits none = goes_nowhere heeds past c
  marks_go past (e ∷ marks) c all fits none =
      goes_both heeds past (e ∷ []) marks c c c (marks_fresh marks all.1) (before_goes past e c (mark_plain e all.0) (mark_before past e all.0) fits none)
      (marks_go (past ++ e ∷ []) marks c all.1 fits none)

-- ---- on the ground

-- where the number of the tick stands the time of the transcript is that of the host
pub now_is : (taken : List Entry → Carried → List Told) (here : Phase) (past : List Entry) (m : HostMachine) → NotingGround taken here past m → m.awaits ≡ false → clock past ≡ m.clock
now_is taken here past m ground awaits =
    time_told here past (entry.Time 0 ∷ []) m (ground_of here past m ground.grounds) (λ is. absurd (both_ways m.awaits awaits is)) (entry.Time 0) [] refl

pub same_quiet : (m : HostMachine) → (p : Purpose) → IsQuiet m.state p → IsQuiet m.state p
same_quiet m p quiet = quiet

module _ (key : List ℕ) (taken : List Entry → Carried → List Told) (from : Outset) (shows : ShowsOpen) where
  abbrev heeds : Heeds
  heeds = heeds_alone taken

  -- where these entries lead from a course
  record Onward (past told : List Entry) (k : HostMachine) (c : Course) : Type 0 where
    next : Course
    goes : Goes heeds past told c next
    follows : Follows key taken (past ++ told) k next

  -- ---- an entry, and what became of it

  module _ (here next : Phase) (past : List Entry) (m k : HostMachine) (e : Entry) (marks : List Entry) (ground : NotingGround taken here past m)
      (after : NotingGround taken next (past ++ e ∷ marks) k) (left : LeavesBooks m.state k.state) (quiet : (p : Purpose) → IsQuiet m.state p → IsQuiet k.state p) (time : k.clock ≡ m.clock)
      (plain : PlainSo e) (chip : AllByRecursion IsChipMark marks) (leaves : AllByRecursion LeavesAttempts (e ∷ marks))
      (stays : is_data (asked past).frame ≡ true → Stays past (past ++ e ∷ marks) × StaysDenied past (past ++ e ∷ marks)) where
    not_back : m.clock ≤ k.clock
    not_back = omega (arith, time)

    books : BooksGo key heeds past (past ++ e ∷ marks) m k
    books d was =
        books_left key heeds (timed m past) (timed k (past ++ e ∷ marks)) m.state k.state left
        (λ n is late. late_timed taken here next past (past ++ e ∷ marks) m k ground after not_back n (attempts_left taken n past (e ∷ marks) leaves) late) d was

    moved : (c : Course) → Level key heeds past m c ⊎ Lags key heeds past m c → Level key heeds (past ++ e ∷ marks) k c ⊎ Lags key heeds (past ++ e ∷ marks) k c
    moved c so =
        so_on key heeds past (past ++ e ∷ marks) m k books left.under_way c (λ lags. stays (read_framed (asked past).frame (request_of lags.purpose lags.id) lags.request)) quiet not_back so

    followed : (c : Course) → Follows key taken past m c → Follows key taken (past ++ e ∷ marks) k c
    followed c follows = record {
      fits = follows.fits;
      none_due = follows.none_due;
      low = let low = follows.low in omega (arith, low, time);
      heeded = follows.heeded;
      so = moved c follows.so;
    }

    -- before the host's part
    before_onward : is_before_host past e ≡ true → (c : Course) → Follows key taken past m c → Goes heeds past (e ∷ marks) c c × Follows key taken (past ++ e ∷ marks) k c
    before_onward before c follows = (
      goes_both heeds past (e ∷ []) marks c c c (marks_fresh marks chip) (before_goes heeds past e c plain before follows.fits follows.none_due)
          (marks_go heeds (past ++ e ∷ []) marks c chip follows.fits follows.none_due),
      followed c follows,
    )

    -- and after it
    idle_onward : IsIdle taken here → m.awaits ≡ false → (c : Course) → Answered m c → Follows key taken past m c
        → (o : Onward past (e ∷ marks) k c) × (is_before_host past e ≡ false → o.next.ticked ≡ m.clock) × (c.ticked ≡ m.clock → o.next.ticked ≡ m.clock)
    idle_onward idle awaits c answered follows = (
      record {
        next = b.0.next;
        goes = goes_both heeds past (e ∷ []) marks c b.0.next b.0.next (marks_fresh marks chip)
            (goes_plain heeds past e c b.0.next plain.plainly plain.unmarked (plain.stands past) follows.fits b.0.fits b.0.none_due b.0.goes)
            (marks_go heeds (past ++ e ∷ []) marks b.0.next chip b.0.fits b.0.none_due);
        follows = followed b.0.next (record {
          fits = b.0.fits;
          none_due = b.0.none_due;
          low = b.0.low;
          heeded = becomes_heeded key taken past m (comes_to heeds past e) c follows.heeded b.0;
          so = b.0.so;
        });
      },
      b.1,
      b.2,
    )
      where
        b : (b : Becomes key taken past m (comes_to heeds past e) c) × (is_before_host past e ≡ false → b.next.ticked ≡ m.clock) × (c.ticked ≡ m.clock → b.next.ticked ≡ m.clock)
        b =
            comes_beside key taken shows here past m ground idle (now_is taken here past m ground awaits) e (plainly_within e plain.plainly) c answered follows plain.not_host

    -- ---- by the phase

    module _ (fresh : begins_refused (e ∷ marks) ≡ false) (awaits : m.awaits ≡ false) where
      pub rests_on : IsIdle taken here → AreFrames k.came → AtRest key taken from past m → AtRest key taken from (past ++ e ∷ marks) k
      rests_on idle frames at =
          let o = idle_onward idle awaits at.course (inl at.frames) at.follows in
          record { course = o.0.next; of = course_goes heeds from past (e ∷ marks) at.course o.0.next fresh at.of o.0.goes; follows = o.0.follows; frames = frames }

      pub opens_on : IsIdle taken here → (AreFrames m.came → AreFrames k.came ⊎ (is_before_host past e ≡ false)) → k.awaits ≡ false
          → AtOpen key taken from past m → AtOpen key taken from (past ++ e ∷ marks) k
      opens_on idle frames numbered at =
          let o = idle_onward idle awaits at.course at.answered at.follows in
          record {
            course = o.0.next;
            of = course_goes heeds from past (e ∷ marks) at.course o.0.next fresh at.of o.0.goes;
            follows = o.0.follows;
            answered = answered o.0.next o.1 o.2 at.answered;
          }
        where
          by_frames : (d : Course) → (is_before_host past e ≡ false → d.ticked ≡ m.clock) → AreFrames k.came ⊎ (is_before_host past e ≡ false) → Answered k d
          by_frames d ticked (inl all) = inl all
          by_frames d ticked (inr before) = inr (ticked before ∙ sym time, numbered)

          answered : (d : Course) → (is_before_host past e ≡ false → d.ticked ≡ m.clock) → (at.course.ticked ≡ m.clock → d.ticked ≡ m.clock) → Answered m at.course → Answered k d
          answered d ticked still (inl all) = by_frames d ticked (frames all)
          answered d ticked still (inr (there, none)) = inr (still there ∙ sym time, numbered)

      pub risen_on : is_before_host past e ≡ true → AreFrames k.came → NoneNoted key taken from past m → NoneNoted key taken from (past ++ e ∷ marks) k
      risen_on before frames at =
          let o = before_onward before at.course at.follows in
          record {
            course = at.course;
            of = course_goes heeds from past (e ∷ marks) at.course at.course fresh at.of o.0;
            follows = o.1;
            early = let early = at.early in omega (arith, early, time);
            frames = frames;
          }
