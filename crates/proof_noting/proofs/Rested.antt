-- The course of a host's notes where a part is over, with the words of a line, and at a rest with no tick to come.
use Rattle.std.proofs.Common.{◌≡◌, ℕ, Bool, true, false, inl, inr, List, [], ◌∷◌, ◌++◌, refl, sym, ap, ◌∙◌, subst, arith}
use Rattle.std.specs.List.{AllByRecursion}
use Rattle.zw_text.specs.declared.line.Line.{Line}
use Rattle.zw_text.specs.declared.entry.Entry.{Entry}
use Rattle.zw_text.specs.declared.entry.Entry.TheVariants as entry
use Rattle.host_heard.specs.declared.told.Told.{Told}
use Rattle.law_transcript.specs.Restarts.{is_restart}
use Rattle.law_transcript.specs.Units.{Carried}
use Rattle.law_time.specs.Heeds.{Heeds}
use Rattle.law_time.specs.Moments.{now_at}
use Rattle.proof_hearing.proofs.proof_queue_Stepping.{none_on}
use Rattle.proof_hearing.proofs.ReadyTie.{ground_of}
use Rattle.proof_hearing.specs.Hearing.{choosing}
use Rattle.proof_hearing.proofs.Beginning.{uses_nonces}
use Rattle.proof_hearing.specs.proof_queue.proof_attempts.proof_requests.law_host.Course.{Course, restarted}
use Rattle.proof_hearing.specs.proof_queue.proof_attempts.proof_requests.law_host.Following.{passes}
use Rattle.proof_hearing.specs.proof_queue.proof_attempts.proof_requests.law_host.Heard.{heeds_alone}
use Rattle.proof_hearing.specs.proof_queue.proof_attempts.proof_requests.law_host.HostLegal.{IsHeeded}
use Rattle.proof_hearing.specs.proof_queue.proof_attempts.proof_requests.law_host.Nonces.{UsesNonces}
use Rattle.proof_hearing.specs.proof_queue.proof_attempts.proof_requests.law_host.Ticks.{ticks}
use Rattle.proof_hearing.specs.proof_queue.proof_attempts.proof_requests.proof_alone.Phases.{Phase, Resting, Asked, Open, Sleeping, Submitting}
use Rattle.proof_hearing.specs.proof_queue.proof_attempts.proof_requests.proof_alone.State.{HostMachine}
use Rattle.proof_hearing.proofs.proof_ends_Walking.{ShowsOpen}
use Rattle.proof_noting.specs.Following.{Outset, course_since}
use Rattle.proof_noting.specs.Ground.{GroundAlong, NotingGround}
use Rattle.proof_noting.specs.Noting.{Anew, AtRest, KnowsCourse}
use Rattle.proof_noting.specs.Steps.{CourseFits, Fitting, FittingWhole, TurnFollows, first_of}
use Rattle.proof_noting.specs.Sure.{SureRun}
use Rattle.proof_noting.proofs.Becoming.{BecomesLevel, passes_so, ticks_now}
use Rattle.proof_noting.proofs.Fitted.{Uses, before_last, fits_by, follows_fit, uses_of, uses_same}

module _ (key : List ℕ) (taken : List Entry → Carried → List Told) (from : Outset) where
  abbrev heeds : Heeds
  heeds = heeds_alone taken

  abbrev Knows : Phase → List Entry → HostMachine → Type 0
  Knows here past m = KnowsCourse key taken from (first_of key) here past m

  leads : (here next : Phase) (past : List Entry) (m : HostMachine) → next ≡ here → Knows here past m → Knows next past m
  leads here next past m is known = subst (λ (p : Phase). Knows p past m) (sym is) known

  -- ---- where a part is over

  pub rests : (next : Phase) (past : List Entry) (m : HostMachine) → TurnFollows key taken from Resting next past m
  rests next past m sure well is at = leads Open next past m is (record { course = at.course; of = at.of; follows = at.follows; answered = inl at.frames })

  pub asks : (line : Line) (next : Phase) (past : List Entry) (m : HostMachine) → TurnFollows key taken from (Asked line) next past m
  asks line next past m sure well (inl (nothing, is)) words =
      let s = words.goes_on (none_on line nothing) in
      leads Open next past m is (record { course = s.0.course; of = s.0.of; follows = s.0.follows; answered = inl s.0.frames })
  asks line next past m sure well (inr (count, line_is, is)) words = leads Resting next past m is (words.goes_on (ap (λ (l : Line). is_restart (l ∷ [])) line_is)).0

  pub opens : (next : Phase) (past : List Entry) (m : HostMachine) → TurnFollows key taken from Open next past m
  opens next past m sure well is at = leads Sleeping next past m is (record { course = at.course; of = at.of; follows = at.follows; frames = well.1 })

  pub sleeps : (next : Phase) (past : List Entry) (m : HostMachine) → TurnFollows key taken from Sleeping next past m
  sleeps next past m sure well is at = leads Submitting next past m is.1 at

  pub submits : (next : Phase) (past : List Entry) (m : HostMachine) → TurnFollows key taken from Submitting next past m
  submits next past m sure well is at = leads Resting next past m is.1 at

  -- ---- it fits

  pub fits_rest : (past : List Entry) (m : HostMachine) → AtRest key taken from past m → Fitting key taken from past
  fits_rest past m at = follows_fit key taken from past m at.course at.of at.follows

  fits_anew : (past : List Entry) (m : HostMachine) → Anew key taken from past m → Fitting key taken from past
  fits_anew past m anew =
      fits_by key taken from past anew.of.heard anew.of.split (record { keepings = anew.of.kept ++ []; texts = anew.of.opened ++ [] }) (choosing [] [] (restarted anew.course)) (anew.of.is [] []) anew.fits
      (before_last (IsHeeded taken) anew.course.heeded anew.heeded) anew.books.drawn
      (uses_same key anew.books.drawn (choosing [] [] (restarted anew.course)) anew.course refl refl refl (uses_nonces key heeds anew.somewhere m.state anew.course anew.books))

  pub fits_asked : (line : Line) (past : List Entry) (m : HostMachine) → CourseFits key taken from (Asked line) past m
  fits_asked line past m sure words = by (is_restart (line ∷ [])) refl
    where
      by : (b : Bool) → is_restart (line ∷ []) ≡ b → Fitting key taken from past
      by true anew = fits_anew past m (words.anew anew)
      by false on = fits_rest past m (words.goes_on on).0

  -- ---- nothing is left to be noted

  pub whole : ShowsOpen → GroundAlong taken (first_of key) → (past : List Entry) (m : HostMachine) → SureRun taken (first_of key) Resting past m → m.left ≡ 0 → AtRest key taken from past m
      → FittingWhole key taken from past
  whole shows along past m sure over at = record {
    heard = at.of.heard;
    split = at.of.split;
    choices = record { keepings = at.of.kept ++ []; texts = at.of.opened ++ [] };
    drawn = uses.drawn;
    fits = ap (λ (c : Course). c.fits) is ∙ at.follows.fits;
    in_the_end = ap (λ (c : Course). (passes heeds past (entry.Said []) c).fits) is
        ∙ ap (λ (c : Course). c.fits) (passes_so key taken past m (entry.Said []) m.clock at.course there at.follows.fits at.follows.none_due b.0 [] []) ∙ b.0.fits;
    nonces = subst (UsesNonces key uses.drawn) (sym is) (uses_same key uses.drawn (choosing [] [] at.course) at.course refl refl refl uses.nonces);
    heeded = subst (λ (c : Course). AllByRecursion (IsHeeded taken) c.heeded) (sym is) at.follows.heeded;
  }
    where
      ground : NotingGround taken Resting past m
      ground = along Resting past m sure

      b : BecomesLevel key taken past m (ticks heeds past m.clock) at.course
      b = ticks_now key taken shows Resting past m ground tt at.frames at.course at.follows

      there : now_at past (entry.Said []) ≡ m.clock
      there = let asks = (ground_of Resting past m ground.grounds).0.0.0.1.asked in omega (arith, asks, over)

      is : course_since heeds from at.of.heard (record { keepings = at.of.kept ++ []; texts = at.of.opened ++ [] }) ≡ choosing [] [] at.course
      is = at.of.is [] []

      uses : Uses key taken from past m at.course
      uses = uses_of key taken from past m at.course at.follows
