-- A host alone judges a frame: what is known of it then, and what the course comes to before what the acknowledgement makes of it.
use Rattle.std.proofs.Common.{◌≡◌, ℕ, Bool, true, false, if◌then◌else◌, inl, inr, List, [], ◌∷◌, ◌++◌, Option, Some, None, refl, sym, ap, ◌∙◌, subst}
use Rattle.std.specs.Prelude.{is_none}
use Rattle.std.specs.List.{AllByRecursion}
use Rattle.std.proofs.lemmas.Bool.{both_ways}
use Rattle.serial_frame.specs.Frame.{FrameParts}
use Rattle.serial_frame.specs.declared.item.Item.TheVariants.{Good}
use Rattle.serial_frame.specs.declared.unit.Unit.{Unit as LineUnit}
use Rattle.serial_frame.specs.declared.unit.Unit.TheVariants.{Framed}
use Rattle.zw_text.specs.declared.entry.Entry.{Entry}
use Rattle.zw_text.specs.declared.entry.Entry.TheVariants.{Time}
use Rattle.host_heard.specs.declared.told.Told.{Told}
use Rattle.host_requests.specs.declared.next.Next.{Next}
use Rattle.host_requests.specs.declared.next.Next.TheVariants.{GoesOn}
use Rattle.host_requests.specs.declared.under_way.UnderWay.{UnderWay}
use Rattle.host_model.specs.State.{HostState, node_of}
use Rattle.host_model.specs.After.{after}
use Rattle.host_model.specs.Events.{HostEvent, Hears}
use Rattle.law_transcript.specs.Units.{Carried, request_in}
use Rattle.law_time.specs.Ends.{is_ending_here}
use Rattle.law_time.specs.Heeds.{Heeds}
use Rattle.law_time.specs.Moments.{clock}
use Rattle.law_time.specs.Requests.{Asked, asked}
use Rattle.proof_hearing.proofs.proof_queue_Stepping.{not_awaiting, time_told}
use Rattle.proof_hearing.proofs.proof_requests_EndsHere.{frame_ends_so}
use Rattle.proof_hearing.proofs.ReadyTie.{asked_of, ground_of}
use Rattle.proof_hearing.specs.Books.{BooksSo}
use Rattle.proof_hearing.specs.proof_queue.proof_attempts.proof_requests.Asking.{TieAsked, doing_of}
use Rattle.proof_hearing.specs.proof_queue.proof_attempts.proof_requests.Ends.{EndsBy, EndsFrom}
use Rattle.proof_hearing.specs.proof_queue.proof_attempts.proof_requests.Saying.{frame_next as host_next}
use Rattle.proof_hearing.specs.proof_queue.proof_attempts.proof_requests.Walking.{Ground as RequestsGround}
use Rattle.proof_hearing.specs.proof_queue.proof_attempts.proof_requests.law_host.Course.{Course}
use Rattle.proof_hearing.specs.proof_queue.proof_attempts.proof_requests.law_host.Following.{comes_to}
use Rattle.proof_hearing.specs.proof_queue.proof_attempts.proof_requests.law_host.Heard.{heeds_alone}
use Rattle.proof_hearing.specs.proof_queue.proof_attempts.proof_requests.law_host.HostLegal.{IsHeeded}
use Rattle.proof_hearing.specs.proof_queue.proof_attempts.proof_requests.proof_alone.State.{HostMachine, done}
use Rattle.proof_hearing.specs.proof_queue.proof_attempts.proof_requests.proof_alone.Steps.{Judges}
use Rattle.proof_hearing.specs.proof_queue.proof_attempts.proof_requests.proof_alone.Phases.{Behind, IsJudgedNow, Open}
use Rattle.proof_hearing.specs.proof_queue.proof_attempts.proof_requests.proof_waking.Judged.{TieFrames}
use Rattle.proof_hearing.proofs.Alike.{same_alike}
use Rattle.proof_hearing.proofs.BooksGo.{books_on}
use Rattle.proof_hearing.proofs.proof_requests_Growing.{asked_on}
use Rattle.proof_hearing.specs.proof_choice.proof_following.Quiet.{acknowledges}
use Rattle.proof_hearing.proofs.proof_ends_Walking.{ShowsOpen}
use Rattle.proof_noting.specs.Following.{Outset}
use Rattle.proof_noting.specs.Behind.{AtOpen}
use Rattle.proof_noting.specs.Ground.{GroundAlong, NotingGround}
use Rattle.proof_noting.specs.Steps.{first_of}
use Rattle.proof_noting.specs.Sure.{SureRun, SureStep}
use Rattle.proof_noting.specs.Ticking.{OverSo}
use Rattle.proof_noting.proofs.Aborts.{abort_unending}
use Rattle.proof_noting.proofs.Becoming.{BecomesLevel, becomes_heeded, comes_level, level_books, level_over}
use Rattle.proof_noting.proofs.Followed.{over_on}
use Rattle.proof_noting.proofs.Requested.{IsFrameNext}
use Rattle.proof_noting.proofs.Surely.{sure_step}

-- how it ends the request under way by the transcript
abbrev pub EndsIt : List Entry → HostMachine → FrameParts → Type 0
EndsIt past m f = EndsFrom (past ++ acknowledges ∷ []) m.state.requests.last_id (host_next m.state.requests.last_id m.state.requests.first f) m.state.requests.under_way

-- The course `c` has come to that of `level`: its books are the host's, before and after the host has heard the frame.
pub record FrameSo (key : List ℕ) (taken : List Entry → Carried → List Told) (past : List Entry) (m : HostMachine) (f : FrameParts) (rest : List LineUnit) (behind : List HostEvent) (c : Course) : Type 0 where
  pub unnumbered : m.awaits ≡ false
  pub frames : TieFrames past (Framed f ∷ rest)
  pub ends : EndsIt past m f
  pub level : BecomesLevel key taken past m (comes_to (heeds_alone taken) past acknowledges) c
  pub over : OverSo past m level.0.next
  pub heeded : AllByRecursion (IsHeeded taken) level.0.next.heeded
  pub books : BooksSo key (heeds_alone taken) past m.state level.0.next
  pub heard_books : BooksSo key (heeds_alone taken) past (after m.state (Hears (Good (Framed f)))) level.0.next
  pub same : (asked (past ++ acknowledges ∷ [])).frame ≡ (asked past).frame
  -- it ends no request where it ends none under way
  pub unended : ((u : UnderWay) → m.state.requests.under_way ≡ Some u → is_ending_here (past ++ acknowledges ∷ []) ≡ false) → level.0.next.over ≡ false → is_ending_here (past ++ acknowledges ∷ []) ≡ false
  -- the run without what became of the acknowledgement
  pub sure : SureRun taken (first_of key) (Behind behind) (past ++ acknowledges ∷ []) (record (done m (Hears (Good (Framed f)))) { came = rest })

-- what goes on by it is not ended
pub goes_unended : (past : List Entry) (m : HostMachine) (f : FrameParts) → EndsIt past m f → ((u : UnderWay) → host_next m.state.requests.last_id m.state.requests.first f u ≡ GoesOn u.progress)
    → (u : UnderWay) → m.state.requests.under_way ≡ Some u → is_ending_here (past ++ acknowledges ∷ []) ≡ false
goes_unended past m f ends goes_on u is =
    subst (λ (x : Next). EndsBy (past ++ acknowledges ∷ []) m.state.requests.last_id u x) (goes_on u)
    (subst (λ (o : Option UnderWay). EndsFrom (past ++ acknowledges ∷ []) m.state.requests.last_id (host_next m.state.requests.last_id m.state.requests.first f) o) is ends)

module _ (key : List ℕ) (taken : List Entry → Carried → List Told) (from : Outset) (ground : GroundAlong taken (first_of key)) (shows : ShowsOpen) (past : List Entry) (m : HostMachine) (f : FrameParts)
    (rest : List LineUnit) (behind : List HostEvent) (told marks : List Entry) (sure : SureRun taken (first_of key) Open past m) (well : SureStep taken sure.run (Judges (Good (Framed f)) rest behind told))
    (now : IsJudgedNow m (Good (Framed f)) rest behind told) (known : AtOpen key taken from past m) (are : told ≡ acknowledges ∷ marks) where
  abbrev heeds : Heeds
  heeds = heeds_alone taken

  abbrev later : List Entry
  later = past ++ acknowledges ∷ []

  abbrev heard : HostState
  heard = after m.state (Hears (Good (Framed f)))

  abbrev c : Course
  c = known.course

  unnumbered : m.awaits ≡ false
  unnumbered = not_awaiting m.awaits acknowledges told marks now.numbered are

  noting : NotingGround taken Open past m
  noting = ground Open past m sure

  asks : RequestsGround Open past m
  asks = ground_of Open past m noting.grounds

  frames : TieFrames past (Framed f ∷ rest)
  frames = subst (λ (l : List LineUnit). TieFrames past l) now.takes asks.0.0.1.frames

  tie : TieAsked past m.clock m.clock (Framed f ∷ rest) (doing_of m.state)
  tie = subst (λ (l : List LineUnit). TieAsked past m.clock m.clock l (doing_of m.state)) now.takes (asked_of Open past m noting.grounds)

  time : clock past ≡ m.clock
  time = time_told Open past told m asks now.numbered acknowledges marks are

  level : BecomesLevel key taken past m (comes_to heeds past acknowledges) c
  level =
      comes_level key taken shows Open past m noting tt time acknowledges tt c known.answered known.follows refl refl (subst (λ (l : List LineUnit). IsFrameNext l) (sym now.takes) tt)

  abbrev d : Course
  d = level.0.next

  over : OverSo past m d
  over = level_over key heeds past m d level.2

  books : BooksSo key heeds past m.state d
  books = subst (λ (l : List Entry). BooksSo key heeds l m.state d) (ap (λ (b : Bool). if b then past ++ Time m.clock ∷ [] else past) unnumbered) (level_books key heeds past m d level.2)

  same : (asked later).frame ≡ (asked past).frame
  same = ap (λ (a : Asked). a.frame) (asked_on past (acknowledges ∷ []) refl (refl, tt))

  unended : ((u : UnderWay) → m.state.requests.under_way ≡ Some u → is_ending_here later ≡ false) → d.over ≡ false → is_ending_here later ≡ false
  unended none running = by (over_on past later m m d d (ap request_in same) refl refl over)
    where
      some : (o : Option UnderWay) → m.state.requests.under_way ≡ o → d.over ≡ is_none o → is_ending_here later ≡ false
      some None is level = absurd (let bad : false ≡ true = sym running ∙ level in cc)
      some (Some u) is level = none u is

      by : OverSo later m d → is_ending_here later ≡ false
      by (inl level) = some m.state.requests.under_way refl level
      by (inr (other, idle, (id, request))) = abort_unending later id request

  pub frame_so : FrameSo key taken past m f rest behind c
  frame_so = record {
    unnumbered = unnumbered;
    frames = frames;
    ends = frame_ends_so past [] f rest m.clock (doing_of m.state) tt frames time tie;
    level = level;
    over = over;
    heeded = becomes_heeded key taken past m (comes_to heeds past acknowledges) c known.follows.heeded level.0;
    books = books;
    heard_books = books_on key heeds past past m.state d.books d.offered d.opened d.sealed books heard refl (λ n. refl) (λ n is. same_alike (node_of m.state n) (node_of heard n) refl) (λ number t found. found)
        (λ n is late. late);
    same = same;
    unended = unended;
    sure = sure_step taken (first_of key) {next = Behind behind} sure (Judges (Good (Framed f)) rest behind (acknowledges ∷ [])) (
      refl,
      record { takes = now.takes; may = now.may; followed = now.followed; told_so = ([], [], refl, tt, refl); numbered = λ awaits. absurd (both_ways m.awaits unnumbered awaits) },
      refl,
    )
        (record { well = well.well; heeds_so = well.heeds_so; heeds_as = well.heeds_as });
  }
