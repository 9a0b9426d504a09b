-- Steps of others and of time in a run of a host alone: the course of its notes follows it.
use Rattle.std.proofs.Common.{◌≡◌, ◌⊎◌, ◌≤◌, ◌<◌, ℕ, ◌-◌, Bool, true, false, if◌then◌else◌, inl, inr, List, [], ◌∷◌, ◌++◌, refl, sym, ap, subst, arith}
use Rattle.std.proofs.lemmas.Bool.{both_ways}
use Rattle.zw_base.proofs.Each.{all-append}
use Rattle.serial_frame.specs.Items.{unit_text}
use Rattle.serial_frame.specs.declared.unit.Unit.{Unit as LineUnit}
use Rattle.serial_frame.specs.declared.unit.Unit.TheVariants.{Ack, Nak, Can, Framed}
use Rattle.zw_words.specs.declared.side.Side.TheVariants.{Chip}
use Rattle.zw_text.specs.declared.entry.Entry.{Entry}
use Rattle.zw_text.specs.declared.entry.Entry.TheVariants as entry
use Rattle.host_heard.specs.declared.told.Told.{Told}
use Rattle.law_transcript.specs.Units.{Carried}
use Rattle.law_time.specs.Judged.{is_data}
use Rattle.law_time.specs.Requests.{asked}
use Rattle.host_requests.specs.Frames.{request_of}
use Rattle.host_model.specs.Events.{HostEvent}
use Rattle.proof_hearing.proofs.Stays.{missed_lost}
use Rattle.proof_hearing.proofs.Told.{attempts_left}
use Rattle.proof_hearing.proofs.proof_attempts_Walking.{others_quiet}
use Rattle.proof_hearing.proofs.ReadyTie.{ground_of}
use Rattle.proof_hearing.specs.Books.{BooksSo}
use Rattle.proof_hearing.specs.Hearing.{choosing}
use Rattle.proof_hearing.specs.proof_queue.proof_attempts.Since.{IsElse}
use Rattle.proof_hearing.specs.proof_queue.proof_attempts.proof_requests.law_host.Course.{Course}
use Rattle.proof_hearing.specs.proof_queue.proof_attempts.proof_requests.law_host.Heard.{heeds_alone}
use Rattle.proof_hearing.specs.proof_queue.proof_attempts.proof_requests.law_host.Following.{is_before_host}
use Rattle.proof_hearing.specs.proof_queue.proof_attempts.proof_requests.law_host.Ticks.{ticks}
use Rattle.proof_hearing.specs.proof_queue.proof_attempts.proof_requests.proof_alone.Careful.{MayHear}
use Rattle.proof_hearing.specs.proof_queue.proof_attempts.proof_requests.proof_alone.Phases.{Phase, Resting, Asked, Risen, Ticking, Open, Behind, Sleeping, Submitting, IsBetween, MayCome}
use Rattle.proof_hearing.specs.proof_queue.proof_attempts.proof_requests.proof_alone.State.{HostMachine}
use Rattle.proof_hearing.specs.proof_queue.proof_attempts.proof_requests.proof_alone.Steps.{AreFrames, ChangesFrame, DidNotCome, IsFramed, IsOfOthers, Tells, Comes, Misses, Begins_tick, Numbers, happens}
use Rattle.proof_hearing.proofs.Entering.{plain_after}
use Rattle.proof_hearing.proofs.proof_ends_Walking.{ShowsOpen}
use Rattle.proof_noting.specs.Behind.{AtOpen, BehindSo}
use Rattle.proof_noting.specs.Behind.BehindSo.{None_left, One_left, Payload_left}
use Rattle.proof_noting.specs.Following.{Follows, Goes, Outset, timed}
use Rattle.proof_noting.specs.Ground.{GroundAlong, NotingGround}
use Rattle.proof_noting.specs.Noting.{AtRest, KnowsCourse}
use Rattle.proof_noting.specs.Steps.{StepFollows, first_of}
use Rattle.proof_noting.specs.Ticking.{NoneNoted, TickSo}
use Rattle.proof_noting.specs.Ticking.TickSo.{Nothing, Something}
use Rattle.proof_noting.proofs.Becoming.{Becomes, becomes_heeded, passes_so, ticks_before}
use Rattle.proof_noting.proofs.Onwards.{OtherSo, chip_plain, marks_chip, opens_on, others_so, rests_on, risen_on, same_quiet}
use Rattle.proof_noting.proofs.Choosing.{course_goes, goes_nowhere, goes_on}
use Rattle.proof_noting.proofs.Going.{late_timed, so_on}
use Rattle.proof_noting.proofs.Leaving.{books_left, same_left}
use Rattle.proof_noting.proofs.Requested.{Stays, StaysDenied, denied_missed, denied_quiet, denied_stays_answered, read_framed, stays_answered, stays_missed, stays_quiet}
use Rattle.proof_noting.proofs.Surely.{sure_step}

-- how the request stays with a unit of the chip
unit_stays : (past : List Entry) (unit : LineUnit) → is_data (asked past).frame ≡ true
    → Stays past (past ++ entry.Written Chip (unit_text unit) ∷ []) × StaysDenied past (past ++ entry.Written Chip (unit_text unit) ∷ [])
unit_stays past (Framed f) framed =
    (stays_quiet past (entry.Written Chip (unit_text (Framed f)) ∷ []) framed (refl, tt), denied_quiet past (entry.Written Chip (unit_text (Framed f)) ∷ []) framed (refl, tt))
unit_stays past Ack framed = (stays_answered past (unit_text Ack) framed refl, denied_stays_answered past (unit_text Ack) framed refl)
unit_stays past Nak framed = (stays_answered past (unit_text Nak) framed refl, denied_stays_answered past (unit_text Nak) framed refl)
unit_stays past Can framed = (stays_answered past (unit_text Can) framed refl, denied_stays_answered past (unit_text Can) framed refl)

unit_frames : (past : List Entry) (came : List LineUnit) (unit : LineUnit) → AreFrames came → AreFrames (came ++ unit ∷ []) ⊎ (is_before_host past (entry.Written Chip (unit_text unit)) ≡ false)
unit_frames past came (Framed f) frames = inl (all-append IsFramed came (Framed f ∷ []) frames (tt, tt))
unit_frames past came Ack frames = inr refl
unit_frames past came Nak frames = inr refl
unit_frames past came Can frames = inr refl

framed_before : (past : List Entry) (unit : LineUnit) → IsFramed unit → is_before_host past (entry.Written Chip (unit_text unit)) ≡ true
framed_before past (Framed f) framed = refl
framed_before past Ack framed = absurd framed
framed_before past Nak framed = absurd framed
framed_before past Can framed = absurd framed

-- where no item may be judged only frames come
only_framed : (here : Phase) (unit : LineUnit) → (here ≡ Open → ⊥) → MayCome here unit → IsFramed unit
only_framed here unit other (inl framed) = framed
only_framed here unit other (inr is) = absurd (other is)

resting_other : Resting ≡ Open → ⊥
resting_other is = cc

risen_other : Risen ≡ Open → ⊥
risen_other is = cc

module _ (key : List ℕ) (taken : List Entry → Carried → List Told) (from : Outset) (shows : ShowsOpen) where
  abbrev Knows : Phase → List Entry → HostMachine → Type 0
  Knows here past m = KnowsCourse key taken from (first_of key) here past m

  -- ---- an entry of others

  module _ (next : Phase) (past : List Entry) (m : HostMachine) (e : Entry) (after : NotingGround taken next (past ++ e ∷ []) m) (others : IsOfOthers e) (awaits : m.awaits ≡ false) where
    facts : OtherSo e
    facts = others_so e others

    quietly : is_data (asked past).frame ≡ true → Stays past (past ++ e ∷ []) × StaysDenied past (past ++ e ∷ [])
    quietly framed = (stays_quiet past (e ∷ []) framed (others_quiet e others, tt), denied_quiet past (e ∷ []) framed (others_quiet e others, tt))

    tells_at : (here : Phase) → NotingGround taken here past m → MayHear here (Tells e) → IsBetween here → Knows here past m → Knows here (past ++ e ∷ []) m
    tells_at Resting ground hears between known =
        rests_on key taken from shows Resting next past m m e [] ground after (same_left m.state) (same_quiet m) refl facts.plain tt (facts.leaves, tt) quietly (facts.fresh []) awaits tt known.frames known
    tells_at Open ground hears between known =
        opens_on key taken from shows Open next past m m e [] ground after (same_left m.state) (same_quiet m) refl facts.plain tt (facts.leaves, tt) quietly (facts.fresh []) awaits tt
        (λ frames. inl frames) awaits known
    tells_at Risen ground hears between known =
        risen_on key taken from shows Risen next past m m e [] ground after (same_left m.state) (same_quiet m) refl facts.plain tt (facts.leaves, tt) quietly (facts.fresh []) awaits
        (facts.before hears past) known.frames known
    tells_at here ground hears between known = absurd between

  -- ---- a unit of the chip

  module _ (next : Phase) (past : List Entry) (m : HostMachine) (unit : LineUnit) (after : NotingGround taken next (past ++ entry.Written Chip (unit_text unit) ∷ []) (happens m (Comes unit)))
      (awaits : m.awaits ≡ false) where
    comes_at : (here : Phase) → NotingGround taken here past m → MayCome here unit → IsBetween here → Knows here past m
        → Knows here (past ++ entry.Written Chip (unit_text unit) ∷ []) (happens m (Comes unit))
    comes_at Resting ground may between known =
        rests_on key taken from shows Resting next past m (happens m (Comes unit)) (entry.Written Chip (unit_text unit)) [] ground after (same_left m.state) (same_quiet m) refl (chip_plain (unit_text unit)) tt (tt, tt)
        (unit_stays past unit) refl awaits tt (all-append IsFramed m.came (unit ∷ []) known.frames (only_framed Resting unit resting_other may, tt)) known
    comes_at Open ground may between known =
        opens_on key taken from shows Open next past m (happens m (Comes unit)) (entry.Written Chip (unit_text unit)) [] ground after (same_left m.state) (same_quiet m) refl (chip_plain (unit_text unit)) tt (tt, tt)
        (unit_stays past unit) refl awaits tt (unit_frames past m.came unit) awaits known
    comes_at Risen ground may between known =
        risen_on key taken from shows Risen next past m (happens m (Comes unit)) (entry.Written Chip (unit_text unit)) [] ground after (same_left m.state) (same_quiet m) refl (chip_plain (unit_text unit)) tt (tt, tt)
        (unit_stays past unit) refl awaits (framed_before past unit (only_framed Risen unit risen_other may))
        (all-append IsFramed m.came (unit ∷ []) known.frames (only_framed Risen unit risen_other may, tt)) known
    comes_at here ground may between known = absurd between

  -- ---- one that does not come

  module _ (next : Phase) (past : List Entry) (m : HostMachine) (text : List ℕ) (marks : List Entry) (after : NotingGround taken next (past ++ entry.Written Chip text ∷ marks) m)
      (did : DidNotCome marks) (changes : ChangesFrame text marks) (awaits : m.awaits ≡ false) where
    lost_stays : is_data (asked past).frame ≡ true → Stays past (past ++ entry.Written Chip text ∷ marks) × StaysDenied past (past ++ entry.Written Chip text ∷ marks)
    lost_stays framed = (stays_missed past text marks framed did changes, denied_missed past text marks framed did changes)

    misses_at : (here : Phase) → NotingGround taken here past m → MayHear here (Misses text marks) → IsBetween here → Knows here past m → Knows here (past ++ entry.Written Chip text ∷ marks) m
    misses_at Resting ground hears between known =
        rests_on key taken from shows Resting next past m m (entry.Written Chip text) marks ground after (same_left m.state) (same_quiet m) refl (chip_plain text) (marks_chip marks did)
        (tt, (missed_lost past text marks did changes).leaves) lost_stays refl awaits tt known.frames known
    misses_at Open ground hears between known =
        opens_on key taken from shows Open next past m m (entry.Written Chip text) marks ground after (same_left m.state) (same_quiet m) refl (chip_plain text) (marks_chip marks did)
        (tt, (missed_lost past text marks did changes).leaves) lost_stays refl awaits tt (λ frames. inl frames) awaits known
    misses_at Risen ground hears between known =
        risen_on key taken from shows Risen next past m m (entry.Written Chip text) marks ground after (same_left m.state) (same_quiet m) refl (chip_plain text) (marks_chip marks did)
        (tt, (missed_lost past text marks did changes).leaves) lost_stays refl awaits hears.0 known.frames known
    misses_at here ground hears between known = absurd between

  -- ---- the number of a tick

  module _ (here : Phase) (past : List Entry) (m : HostMachine) (ground : NotingGround taken here past m) (awaits : m.awaits ≡ true) where
    abbrev k : HostMachine
    k = happens m Numbers

    abbrev later : List Entry
    later = past ++ entry.Time m.clock ∷ []

    some : 1 ≤ m.clock
    some = let less = (ground_of here past m ground.grounds).0.0.0.1.later awaits in omega (arith, less)

    number_books : (d : Course) → BooksSo key (heeds_alone taken) (timed m past) m.state d → BooksSo key (heeds_alone taken) (timed k later) k.state d
    number_books d books =
        subst (λ (l : List Entry). BooksSo key (heeds_alone taken) l m.state d) (ap (λ (b : Bool). if b then past ++ entry.Time m.clock ∷ [] else past) awaits) books

    record Numbered (c : Course) : Type 0 where
      next : Course
      goes : Goes (heeds_alone taken) past (entry.Time m.clock ∷ []) c next
      follows : Follows key taken later k next
      early : next.ticked < m.clock

    numbered : IsElse here → (c : Course) → Follows key taken past m c → Numbered c
    numbered other c follows = record {
      next = b.0.next;
      goes = goes_on (heeds_alone taken) past (entry.Time m.clock ∷ []) c b.0.next
          (λ keepings texts. plain_after (heeds_alone taken) past (entry.Time m.clock) [] (choosing keepings texts c) (choosing keepings texts b.0.next) refl follows.fits
          (passes_so key taken past m (entry.Time m.clock) (m.clock - 1) c refl follows.fits follows.none_due b.0 keepings texts) b.0.none_due b.0.fits refl);
      follows = record {
        fits = b.0.fits;
        none_due = b.0.none_due;
        low = b.0.low;
        heeded = becomes_heeded key taken past m (ticks (heeds_alone taken) past (m.clock - 1)) c follows.heeded b.0;
        so = so_on key (heeds_alone taken) past later m k number_books refl b.0.next
            (λ lags. let framed = read_framed (asked past).frame (request_of lags.purpose lags.id) lags.request in
            (stays_quiet past (entry.Time m.clock ∷ []) framed (tt, tt), denied_quiet past (entry.Time m.clock ∷ []) framed (tt, tt)))
            (same_quiet m) (omega arith) b.0.so;
      };
      early = let at = b.1 in let more = some in omega (arith, at, more);
    }
      where
        b : (b : Becomes key taken past m (ticks (heeds_alone taken) past (m.clock - 1)) c) × (b.next.ticked ≡ m.clock - 1)
        b = ticks_before key taken shows here past m ground other awaits some c follows

    rests_numbered : IsElse here → AtRest key taken from past m → AtRest key taken from later k
    rests_numbered other at =
        let n = numbered other at.course at.follows in
        record { course = n.next; of = course_goes (heeds_alone taken) from past (entry.Time m.clock ∷ []) at.course n.next refl at.of n.goes; follows = n.follows; frames = at.frames }

    none_numbered : IsElse here → NoneNoted key taken from past m → NoneNoted key taken from later k
    none_numbered other at =
        let n = numbered other at.course at.follows in
        record {
          course = n.next;
          of = course_goes (heeds_alone taken) from past (entry.Time m.clock ∷ []) at.course n.next refl at.of n.goes;
          follows = n.follows;
          early = n.early;
          frames = at.frames;
        }

    open_numbered : IsElse here → AtOpen key taken from past m → AtOpen key taken from later k
    open_numbered other at =
        let n = numbered other at.course at.follows in
        record {
          course = n.next;
          of = course_goes (heeds_alone taken) from past (entry.Time m.clock ∷ []) at.course n.next refl at.of n.goes;
          follows = n.follows;
          answered = inl (frames at.answered);
        }
      where
        frames : AreFrames m.came ⊎ ((at.course.ticked ≡ m.clock) × (m.awaits ≡ false)) → AreFrames m.came
        frames (inl all) = all
        frames (inr (there, none)) = absurd (both_ways m.awaits none awaits)

    tick_numbered : IsElse here → (left : List HostEvent) → TickSo key taken from past m left → TickSo key taken from later k left
    tick_numbered other left (Nothing above none) = Nothing above (none_numbered other none)
    tick_numbered other left (Something noted) = absurd (both_ways m.awaits noted.numbered awaits)

    behind_numbered : IsElse here → (left : List HostEvent) → BehindSo key taken from (first_of key) past m left → BehindSo key taken from (first_of key) later k left
    behind_numbered other left (None_left at) = None_left (open_numbered other at)
    behind_numbered other left (One_left event one) = absurd (both_ways m.awaits one.numbered awaits)
    behind_numbered other left (Payload_left in_it) = absurd (both_ways m.awaits in_it.numbered awaits)

  numbers_at : (here : Phase) (past : List Entry) (m : HostMachine) → NotingGround taken here past m → m.awaits ≡ true → Knows here past m → Knows here (past ++ entry.Time m.clock ∷ []) (happens m Numbers)
  numbers_at (Asked line) past m ground awaits known = absurd (both_ways m.awaits known.unnumbered awaits)
  numbers_at Risen past m ground awaits known = none_numbered Risen past m ground awaits tt known
  numbers_at (Ticking left) past m ground awaits known = tick_numbered (Ticking left) past m ground awaits tt left known
  numbers_at Open past m ground awaits known = open_numbered Open past m ground awaits tt known
  numbers_at (Behind left) past m ground awaits known = behind_numbered (Behind left) past m ground awaits tt left known
  numbers_at Resting past m ground awaits known = rests_numbered Resting past m ground awaits tt known
  numbers_at Sleeping past m ground awaits known = rests_numbered Sleeping past m ground awaits tt known
  numbers_at Submitting past m ground awaits known = rests_numbered Submitting past m ground awaits tt known

  -- ---- a tick begins

  module _ (past : List Entry) (m : HostMachine) (left : ℕ) (ground : NotingGround taken Resting past m) (after : NotingGround taken Risen (past ++ []) (happens m (Begins_tick left))) where
    abbrev risen : HostMachine
    risen = happens m (Begins_tick left)

    not_back : m.clock ≤ risen.clock
    not_back = omega arith

    begins_books : (d : Course) → BooksSo key (heeds_alone taken) (timed m past) m.state d → BooksSo key (heeds_alone taken) (timed risen (past ++ [])) risen.state d
    begins_books d books =
        books_left key (heeds_alone taken) (timed m past) (timed risen (past ++ [])) m.state risen.state (same_left m.state)
        (λ n is late. late_timed taken Resting Risen past (past ++ []) m risen ground after not_back n (attempts_left taken n past [] tt) late) d books

    begins_tick : AtRest key taken from past m → NoneNoted key taken from (past ++ []) risen
    begins_tick at = record {
      course = at.course;
      of = course_goes (heeds_alone taken) from past [] at.course at.course refl at.of (goes_nowhere (heeds_alone taken) past at.course);
      follows = record {
        fits = at.follows.fits;
        none_due = at.follows.none_due;
        low = let low = at.follows.low in omega (arith, low);
        heeded = at.follows.heeded;
        so = so_on key (heeds_alone taken) past (past ++ []) m risen begins_books refl at.course
            (λ lags. let framed = read_framed (asked past).frame (request_of lags.purpose lags.id) lags.request in (stays_quiet past [] framed tt, denied_quiet past [] framed tt))
            (same_quiet m) not_back at.follows.so;
      };
      early = let low = at.follows.low in omega (arith, low);
      frames = at.frames;
    }

  -- ---- steps

  module _ (along : GroundAlong taken (first_of key)) where
    leads : (here next : Phase) (later : List Entry) (k : HostMachine) → next ≡ here → Knows here later k → Knows next later k
    leads here next later k is known = subst (λ (p : Phase). Knows p later k) (sym is) known

    pub tells : (here next : Phase) (past : List Entry) (m : HostMachine) (e : Entry) → StepFollows key taken from here past m (Tells e) next
    tells here next past m e sure so may known =
        leads here next (past ++ e ∷ []) m may.3
        (tells_at next past m e (along next (past ++ e ∷ []) m (sure_step taken (first_of key) sure (Tells e) may so)) may.1 may.2 here (along here past m sure) so.well.1 may.0 known)

    pub comes : (here next : Phase) (past : List Entry) (m : HostMachine) (unit : LineUnit) → StepFollows key taken from here past m (Comes unit) next
    comes here next past m unit sure so may known =
        leads here next (past ++ entry.Written Chip (unit_text unit) ∷ []) (happens m (Comes unit)) may.2
        (comes_at next past m unit (along next (past ++ entry.Written Chip (unit_text unit) ∷ []) (happens m (Comes unit)) (sure_step taken (first_of key) sure (Comes unit) may so)) may.1 here
        (along here past m sure) may.3 may.0 known)

    pub misses : (here next : Phase) (past : List Entry) (m : HostMachine) (text : List ℕ) (marks : List Entry) → StepFollows key taken from here past m (Misses text marks) next
    misses here next past m text marks sure so may known =
        leads here next (past ++ entry.Written Chip text ∷ marks) m may.3
        (misses_at next past m text marks (along next (past ++ entry.Written Chip text ∷ marks) m (sure_step taken (first_of key) sure (Misses text marks) may so)) may.1 may.4 may.2 here
        (along here past m sure) so.well.1 may.0 known)

    pub numbers : (here next : Phase) (past : List Entry) (m : HostMachine) → StepFollows key taken from here past m Numbers next
    numbers here next past m sure so may known =
        leads here next (past ++ entry.Time m.clock ∷ []) (happens m Numbers) may.1 (numbers_at here past m (along here past m sure) may.0 known)

    pub begins : (here next : Phase) (past : List Entry) (m : HostMachine) (left : ℕ) → StepFollows key taken from here past m (Begins_tick left) next
    begins here next past m left sure so may known =
        leads Risen next (past ++ []) (happens m (Begins_tick left)) may.2
        (begins_tick past m left (subst (λ (p : Phase). NotingGround taken p past m) may.0 (along here past m sure))
        (subst (λ (p : Phase). NotingGround taken p (past ++ []) (happens m (Begins_tick left))) may.2
        (along next (past ++ []) (happens m (Begins_tick left)) (sure_step taken (first_of key) sure (Begins_tick left) may so)))
        (subst (λ (p : Phase). Knows p past m) may.0 known))
