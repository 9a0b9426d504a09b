-- An attempt that is late stays so, until another one begins; and while the host has a text of it to give or to seal it is not.
use Rattle.std.proofs.Common.{◌≡◌, ◌⊎◌, ◌≤◌, ℕ, ◌+◌, ◌==◌, ◌||◌, Bool, true, false, if◌then◌else◌, inl, inr, List, [], ◌∷◌, ◌++◌, Option, None, refl, sym, ap, ap₂, ◌∙◌, subst, append-nil, append_assoc, arith}
use Rattle.std.specs.Prelude.{nat_le, is_some}
use Rattle.std.specs.List.{list_any}
use Rattle.std.proofs.lemmas.Bool.{and_left, both_ways, cases_lt, le-leb, le-ltb, leb-true, lt-leb, lt-ltb, or_left, or_right}
use Rattle.zw_words.specs.declared.side.Side.TheVariants.{Host, Chip}
use Rattle.zw_text.specs.declared.entry.Entry.{Entry}
use Rattle.zw_text.specs.declared.entry.Entry.TheVariants as entry
use Rattle.zw_text.specs.Transcript.{last_number, tick_at, ticks}
use Rattle.zw_text.proofs.Views.{folded-append, shown-append}
use Rattle.host_heard.specs.declared.told.Told.{Told}
use Rattle.law_transcript.specs.Lists.{EachAfter}
use Rattle.law_transcript.specs.Units.{Carried}
use Rattle.law_time.specs.Attempts.{Attempts, anew, attempt_is_over, attempts_by_request, goes_to, is_last_nonce, is_late as late_at, is_next_nonce, is_of_attempt, is_sign, waits_for_nonce, with_nonce, with_nonces, with_nonces_here, with_sign}
use Rattle.law_time.specs.Heeds.{Heeds}
use Rattle.law_time.specs.Judged.{is_acknowledgement}
use Rattle.law_time.specs.Moments.{clock, later_of, passing_step}
use Rattle.law_time.specs.Queue.{requests, waits_before}
use Rattle.law_time.specs.Requests.{Asked, are_none, asked, is_new}
use Rattle.law_time.specs.Sessions.{is_last_command}
use Rattle.host_node.specs.State.{NodeState, is_running}
use Rattle.host_node.specs.Steps.{wait_ticks}
use Rattle.host_node.specs.Facts.{SeriesFacts}
use Rattle.host_node.specs.declared.series.Series.{Series}
use Rattle.host_node.specs.declared.series.Series.TheVariants.{Due, Running, Idle}
use Rattle.host_model.specs.State.{node_of}
use Rattle.proof_hearing.specs.proof_choice.proof_giving.Tie.{NodeSo, has_text, signed}
use Rattle.proof_hearing.specs.proof_choice.proof_giving.Told.{LeavesAttempts, attempts_so_far}
use Rattle.proof_hearing.specs.proof_choice.proof_giving.Walking.{KnowsAttempts, gives_sign}
use Rattle.proof_hearing.proofs.Told.{attempts_again, attempts_asked, attempts_left, attempts_one, each_is, node_is}
use Rattle.proof_hearing.proofs.Books.{last_is}
use Rattle.proof_hearing.proofs.proof_queue_Stepping.{time_told}
use Rattle.proof_hearing.proofs.proof_requests_Telling.{clock_same}
use Rattle.proof_hearing.proofs.ReadyTie.{facts_of, ground_of}
use Rattle.proof_hearing.specs.proof_queue.proof_attempts.Attempts.{AreAttempts, GoesOn, IsSign, LastIs}
use Rattle.proof_hearing.specs.proof_queue.proof_attempts.proof_requests.law_host.Heard.{heeds_alone}
use Rattle.proof_hearing.specs.proof_queue.proof_attempts.proof_requests.law_host.Nonces.{is_late}
use Rattle.proof_hearing.specs.proof_queue.proof_attempts.proof_requests.proof_alone.State.{HostMachine}
use Rattle.proof_hearing.specs.proof_queue.proof_attempts.proof_requests.proof_alone.Phases.{Phase, Resting, Open, Behind, Sleeping, Submitting}
use Rattle.proof_hearing.specs.proof_queue.proof_attempts.proof_requests.proof_alone.Time.{passing}
use Rattle.proof_hearing.specs.proof_queue.proof_attempts.proof_requests.Walking.{Ground as RequestsGround}
use Rattle.proof_noting.specs.Following.{timed}
use Rattle.proof_noting.specs.Ground.{NotingGround}

-- ---- time

high : (b t : ℕ) → t ≤ later_of b t
high b t = elim (cases_lt b t) [
  | inl less ↦ subst (λ (v : Bool). t ≤ (if v then t else b)) (sym (lt-ltb b t less)) (omega arith)
  | inr more ↦ subst (λ (v : Bool). t ≤ (if v then t else b)) (sym (le-ltb b t more)) (omega (arith, more))
]

within : (b t c : ℕ) → b ≤ c → t ≤ c → later_of b t ≤ c
within b t c first second = elim (cases_lt b t) [
  | inl less ↦ subst (λ (v : Bool). (if v then t else b) ≤ c) (sym (lt-ltb b t less)) second
  | inr more ↦ subst (λ (v : Bool). (if v then t else b) ≤ c) (sym (le-ltb b t more)) first
]

last_more : (before : ℕ) (all : List ℕ) (tick : ℕ) → last_number before (all ++ tick ∷ []) ≡ tick
last_more before [] tick = refl
last_more before (n ∷ all) tick = last_more n all tick

-- with the number of a tick
pub clock_timed : (past : List Entry) (tick : ℕ) → clock (past ++ entry.Time tick ∷ []) ≡ later_of (passing past).before tick
clock_timed past tick =
    ap₂ (λ (b t : ℕ). later_of b t)
    (ap (λ p. p.before) (folded-append passing_step (record { before = 0; asked = 0 }) past (entry.Time tick ∷ [])))
    (ap (last_number 0) (shown-append tick_at past (entry.Time tick ∷ [])) ∙ last_more 0 (ticks past) tick)

-- ---- late

or_so : (b : Bool) → (b || false) ≡ true → b ≡ true
or_so true is = refl
or_so false is = is

module _ (a : Attempts) where
  signs_later : (now later : ℕ) → now ≤ later → (sign : List ℕ) → list_any (λ tick. nat_le (tick + 100) now) sign ≡ true → list_any (λ tick. nat_le (tick + 100) later) sign ≡ true
  signs_later now later less [] is = is
  signs_later now later less (tick ∷ more) is = by (nat_le (tick + 100) now) refl is (λ rest. signs_later now later less more rest)
    where
      by : (b : Bool) → nat_le (tick + 100) now ≡ b → (b || list_any (λ tick. nat_le (tick + 100) now) more) ≡ true
          → (list_any (λ tick. nat_le (tick + 100) now) more ≡ true → list_any (λ tick. nat_le (tick + 100) later) more ≡ true)
          → (nat_le (tick + 100) later || list_any (λ tick. nat_le (tick + 100) later) more) ≡ true
      by true past is rest =
          or_left (nat_le (tick + 100) later) (list_any (λ tick. nat_le (tick + 100) later) more)
          (let most = leb-true (tick + 100) now past in le-leb (tick + 100) later (omega (arith, most, less)))
      by false past is rest = or_right (nat_le (tick + 100) later) (list_any (λ tick. nat_le (tick + 100) later) more) (rest is)

  later_late : (now later : ℕ) → now ≤ later → late_at now a ≡ true → late_at later a ≡ true
  later_late now later less is = by a.over is
    where
      by : (b : Bool) → (b || list_any (λ tick. nat_le (tick + 100) now) a.sign) ≡ true → (b || list_any (λ tick. nat_le (tick + 100) later) a.sign) ≡ true
      by true is = refl
      by false is = signs_later now later less a.sign is

over_either : (b : Bool) (x y : Attempts) (v : Bool) → x.over ≡ v → y.over ≡ v → (if b then x else y).over ≡ v
over_either true x y v p q = p
over_either false x y v p q = q

the_first : (b : Bool) (x y : Attempts) → b ≡ true → (if b then x else y) ≡ x
the_first true x y is = refl
the_first false x y is = absurd (let bad : false ≡ true = is in cc)

the_second : (b : Bool) (x y : Attempts) → b ≡ false → (if b then x else y) ≡ y
the_second false x y is = refl
the_second true x y is = absurd (let bad : true ≡ false = is in cc)

-- a nonce that is taken leaves that it is over
nonce_over : (a : Attempts) (nonce : List ℕ) → (with_nonce a nonce).over ≡ a.over
nonce_over a nonce =
    over_either (is_last_nonce a.seen nonce) _ (if is_next_nonce a.seen nonce then _ else a) a.over refl (over_either (is_next_nonce a.seen nonce) _ a a.over refl refl)

nonces_over : (a : Attempts) (nonces : List (List ℕ)) → (with_nonces a nonces).over ≡ a.over
nonces_over a [] = refl
nonces_over a (nonce ∷ more) = over_either (are_none a.ready) (with_nonces (with_nonce a nonce) more) a a.over (nonces_over (with_nonce a nonce) more ∙ nonce_over a nonce) refl

over_late : (now : ℕ) (a : Attempts) → a.over ≡ true → late_at now a ≡ true
over_late now a is = or_left a.over (list_any (λ tick. nat_le (tick + 100) now) a.sign) is

module _ (heeds : Heeds) where
  sign_over : (past rest : List Entry) (a : Attempts) → late_at (clock past) a ≡ true → (with_sign heeds past rest a).over ≡ true
  sign_over past rest a is =
      subst (λ (b : Bool). (if b then record a { over = true } else (if is_sign heeds a.node a.own past rest then record a { sign = clock past ∷ [] } else a)).over ≡ true) (sym is) refl

  given_over : (past : List Entry) (last : Asked) (rest : List Entry) (a : Attempts) → a.over ≡ true → (with_nonces_here heeds past last rest a).over ≡ true
  given_over past last rest a is = over_either (waits_for_nonce heeds past last a) (with_nonces a _) a true (nonces_over a _ ∙ is) is

-- of another node or what waits
elsewhere : (unit : List ℕ) (over : Bool) (a : Attempts) (own : Bool) → own ≡ false → over ≡ true → (attempts_by_request own over unit a).over ≡ true
elsewhere unit over a false none is = is
elsewhere unit over a true is late = absurd (let bad : true ≡ false = is in cc)

module _ (taken : List Entry → Carried → List Told) where
  abbrev heeds : Heeds
  heeds = heeds_alone taken

  abbrev so_far : ℕ → List Entry → Attempts
  so_far n past = attempts_so_far heeds n past

  late_is : (n : ℕ) (past : List Entry) → is_late heeds past n ≡ (late_at (clock past) (so_far n past) || false)
  late_is n past = ap (λ (l : List Attempts). list_any (late_at (clock past)) l) (each_is heeds (n ∷ []) past)

  pub from_late : (n : ℕ) (past : List Entry) → is_late heeds past n ≡ true → late_at (clock past) (so_far n past) ≡ true
  from_late n past is = or_so (late_at (clock past) (so_far n past)) (sym (late_is n past) ∙ is)

  pub to_late : (n : ℕ) (past : List Entry) (a : Attempts) → so_far n past ≡ a → late_at (clock past) a ≡ true → is_late heeds past n ≡ true
  to_late n past a same is = late_is n past ∙ ap (λ (b : Attempts). late_at (clock past) b || false) same ∙ ap (λ (b : Bool). b || false) is

  -- the attempts are the same, later
  pub same_late : (n : ℕ) (past later : List Entry) → clock past ≤ clock later → so_far n later ≡ so_far n past → is_late heeds past n ≡ true → is_late heeds later n ≡ true
  same_late n past later less same is = to_late n later (so_far n past) same (later_late (so_far n past) (clock past) (clock later) less (from_late n past is))

  -- ---- an entry

  -- one of no line by which no attempt of the node begins anew
  abbrev pub KeepsLate : ℕ → List Entry → Entry → Type 0
  KeepsLate n past (entry.Said words) = ⊥
  KeepsLate n past (entry.Refused refusal) = ⊥
  KeepsLate n past (entry.Time tick) = clock past ≤ tick
  KeepsLate n past (entry.Begin node session command) = (node == n) ≡ false
  KeepsLate n past (entry.Out command ended) = is_last_command n past command ≡ false
  KeepsLate n past (entry.Written Host unit) = (is_acknowledgement unit ≡ true) ⊎ ((is_new (asked past) unit ≡ false) ⊎ (goes_to n unit ≡ false))
  KeepsLate n past e = Unit {0}

  equal_low : (c d : ℕ) → d ≡ c → c ≤ d
  equal_low c d is = omega (arith, is)

  module _ (n : ℕ) (past : List Entry) (late : is_late heeds past n ≡ true) where
    -- a unit of the host
    module _ (unit : List ℕ) where
      abbrev wrote : List Entry
      wrote = past ++ entry.Written Host unit ∷ []

      now : clock wrote ≡ clock past
      now = clock_same past (entry.Written Host unit ∷ []) (tt, tt)

      acked : is_acknowledgement unit ≡ true → is_late heeds wrote n ≡ true
      acked ack =
          let signed : Attempts = with_sign heeds wrote [] (so_far n past) in
          to_late n wrote (with_nonces_here heeds wrote (requests heeds past).last [] signed)
          (attempts_one taken n past (entry.Written Host unit) tt ∙ the_first (is_acknowledgement unit) _ _ ack)
          (over_late (clock wrote) (with_nonces_here heeds wrote (requests heeds past).last [] signed)
          (given_over heeds wrote (requests heeds past).last [] signed
          (sign_over heeds wrote [] (so_far n past) (ap (λ (t : ℕ). late_at t (so_far n past)) now ∙ from_late n past late))))

      old : is_acknowledgement unit ≡ false → is_new (asked past) unit ≡ false → is_late heeds wrote n ≡ true
      old other is =
          same_late n past wrote (equal_low (clock past) (clock wrote) now)
          (attempts_again taken n past unit other (ap (λ (a : Asked). is_new a unit) (last_is taken past) ∙ is)) late

      asks : is_acknowledgement unit ≡ false → is_new (asked past) unit ≡ true → goes_to n unit ≡ false → is_late heeds wrote n ≡ true
      asks other new elsewhere_goes =
          let last : Asked = (requests heeds past).last in
          let over : Bool = attempt_is_over heeds past last (clock past) (so_far n past) in
          let own : Bool = is_of_attempt heeds n past (requests heeds past) unit in
          to_late n wrote (attempts_by_request own over unit (so_far n past))
          (attempts_asked taken n past unit other (ap (λ (a : Asked). is_new a unit) (last_is taken past) ∙ new))
          (over_late (clock wrote) (attempts_by_request own over unit (so_far n past))
          (elsewhere unit over (so_far n past) own
          (and_left (goes_to n unit) (are_none (waits_before heeds past (requests heeds past) (entry.Written Host unit)).wants) elsewhere_goes)
          (or_left (late_at (clock past) (so_far n past)) _ (from_late n past late))))

      unit_late : KeepsLate n past (entry.Written Host unit) → is_late heeds wrote n ≡ true
      unit_late keeps = by (is_acknowledgement unit) (is_new (asked past) unit) refl refl keeps
        where
          by : (a b : Bool) → is_acknowledgement unit ≡ a → is_new (asked past) unit ≡ b
              → (is_acknowledgement unit ≡ true) ⊎ ((is_new (asked past) unit ≡ false) ⊎ (goes_to n unit ≡ false)) → is_late heeds wrote n ≡ true
          by true b ack new which = acked ack
          by false false other none which = old other none
          by false true other new (inl ack) = absurd (both_ways (is_acknowledgement unit) other ack)
          by false true other new (inr (inl none)) = absurd (both_ways (is_new (asked past) unit) none new)
          by false true other new (inr (inr goes)) = asks other new goes

    -- one that leaves the attempts
    left_late : (e : Entry) → LeavesAttempts e → clock past ≤ clock (past ++ e ∷ []) → is_late heeds (past ++ e ∷ []) n ≡ true
    left_late e leaves less = same_late n past (past ++ e ∷ []) less (attempts_left taken n past (e ∷ []) (leaves, tt)) late

    untimed_low : (e : Entry) → clock (past ++ e ∷ []) ≡ clock past → clock past ≤ clock (past ++ e ∷ [])
    untimed_low e same = equal_low (clock past) (clock (past ++ e ∷ [])) same

    pub one_late : (e : Entry) → KeepsLate n past e → is_late heeds (past ++ e ∷ []) n ≡ true
    one_late (entry.Said words) keeps = absurd keeps
    one_late (entry.Refused refusal) keeps = absurd keeps
    one_late (entry.Time tick) keeps =
        left_late (entry.Time tick) tt (let is = clock_timed past tick in let above = high (passing past).before tick in omega (arith, is, above, keeps))
    one_late (entry.Begin node session command) keeps =
        same_late n past (past ++ entry.Begin node session command ∷ []) (untimed_low (entry.Begin node session command) (clock_same past (entry.Begin node session command ∷ []) (tt, tt)))
        (attempts_one taken n past (entry.Begin node session command) tt
        ∙ the_second (node == (so_far n past).node) (anew (so_far n past)) (so_far n past) (ap (λ (k : ℕ). node == k) (node_is heeds n past) ∙ keeps)) late
    one_late (entry.Out command ended) keeps =
        same_late n past (past ++ entry.Out command ended ∷ []) (untimed_low (entry.Out command ended) (clock_same past (entry.Out command ended ∷ []) (tt, tt)))
        (attempts_one taken n past (entry.Out command ended) tt
        ∙ the_second (is_last_command (so_far n past).node past command) (anew (so_far n past)) (so_far n past)
        (ap (λ (k : ℕ). is_last_command k past command) (node_is heeds n past) ∙ keeps)) late
    one_late (entry.Written Host unit) keeps = unit_late unit keeps
    one_late (entry.Written Chip unit) keeps = left_late (entry.Written Chip unit) tt (untimed_low (entry.Written Chip unit) (clock_same past (entry.Written Chip unit ∷ []) (tt, tt)))
    one_late e keeps = left_late e tt (untimed_low e (clock_same past (e ∷ []) (tt, tt)))

  pub late_on : (n : ℕ) (past told : List Entry) → EachAfter (KeepsLate n) past told → is_late heeds past n ≡ true → is_late heeds (past ++ told) n ≡ true
  late_on n past [] keeps late = ap (λ (l : List Entry). is_late heeds l n) (append-nil past) ∙ late
  late_on n past (e ∷ told) keeps late =
      ap (λ (l : List Entry). is_late heeds l n) (sym (append_assoc past (e ∷ []) told)) ∙ late_on n (past ++ e ∷ []) told keeps.1 (one_late n past late e keeps.0)

  -- ---- a text that the host has still to give or to seal

  signs_early : (sign : List ℕ) (now wait : ℕ) → IsSign sign now wait → list_any (λ tick. nat_le (tick + 100) now) sign ≡ false
  signs_early [] now wait is = refl
  signs_early (tick ∷ more) now wait is =
      ap (λ (l : List ℕ). nat_le (tick + 100) now || list_any (λ tick. nat_le (tick + 100) now) l) is.0
      ∙ ap (λ (b : Bool). b || false) (lt-leb (tick + 100) now (let some = is.1 in let sum = is.2 in omega (arith, some, sum)))

  running_early : (a : Attempts) (s : NodeState) (now : ℕ) (badly : Bool) → s.series ≡ Running → AreAttempts a s now badly → late_at now a ≡ false
  running_early a s now badly runs are =
      let last : GoesOn a s.attempt_wait now badly = subst (λ (x : Series). LastIs x s.book.attempts a s.attempt_wait now badly) runs are.last in
      ap (λ (b : Bool). b || list_any (λ tick. nat_le (tick + 100) now) a.sign) last.not_over ∙ signs_early a.sign now s.attempt_wait last.sign

  no_text : (s : NodeState) → s.text ≡ None → s.pending ≡ None → has_text s ≡ true → ⊥
  no_text s none nothing has = let bad : false ≡ true = sym (ap₂ (λ (a b : Option (List ℕ)). is_some a || is_some b) none nothing) ∙ has in cc

  with_text : (s : NodeState) (x : Series) → s.series ≡ x → SeriesFacts x s.book s.attempt_wait s.again_wait s.next_segment s.segments s.text s.pending → has_text s ≡ true → s.series ≡ Running
  with_text s Idle is facts has = absurd (no_text s facts.1.no_text facts.1.no_pending has)
  with_text s Due is facts has = absurd (no_text s facts.2.no_text facts.2.no_pending has)
  with_text s Running is facts has = is

  -- the host's own part of a tick is done
  abbrev pub TicksDone : Phase → Type 0
  TicksDone Resting = Unit {0}
  TicksDone Open = Unit {0}
  TicksDone (Behind left) = Unit {0}
  TicksDone Sleeping = Unit {0}
  TicksDone Submitting = Unit {0}
  TicksDone here = ⊥

  signed_series : (b : Bool) (s : NodeState) → (signed b s).series ≡ s.series
  signed_series true s = by (is_running s.series)
    where
      by : (b : Bool) → (if b then record s { attempt_wait = wait_ticks } else s).series ≡ s.series
      by true = refl
      by false = refl
  signed_series false s = refl

  -- the time of the transcript is that of the host
  pub timed_clock : (here : Phase) (past : List Entry) (m : HostMachine) → RequestsGround here past m → clock (timed m past) ≡ m.clock
  timed_clock here past m ground = by m.awaits refl
    where
      by : (b : Bool) → m.awaits ≡ b → clock (if b then past ++ entry.Time m.clock ∷ [] else past) ≡ m.clock
      by false is = time_told here past (entry.Time 0 ∷ []) m ground (λ awaits. absurd (both_ways m.awaits is awaits)) (entry.Time 0) [] refl
      by true is =
          let one = clock_timed past m.clock in
          let up = high (passing past).before m.clock in
          let begun = ground.0.0.0.1.begun in
          let under = within (passing past).before m.clock m.clock begun (omega arith) in omega (arith, one, up, under)

  timed_same : (n : ℕ) (past : List Entry) (tick : ℕ) → so_far n (past ++ entry.Time tick ∷ []) ≡ so_far n past
  timed_same n past tick = attempts_left taken n past (entry.Time tick ∷ []) (tt, tt)

  pub timed_attempts : (n : ℕ) (past : List Entry) (m : HostMachine) → so_far n (timed m past) ≡ so_far n past
  timed_attempts n past m = by m.awaits
    where
      by : (b : Bool) → so_far n (if b then past ++ entry.Time m.clock ∷ [] else past) ≡ so_far n past
      by false = refl
      by true = timed_same n past m.clock

  pub on_time : (here : Phase) (past : List Entry) (m : HostMachine) → TicksDone here → NotingGround taken here past m → (n : ℕ) → 1 ≤ n → n ≤ 232 → has_text (node_of m.state n) ≡ true
      → is_late heeds (timed m past) n ≡ false
  on_time here past m done ground n from to has =
      late_is n (timed m past)
      ∙ ap₂ (λ (t : ℕ) (a : Attempts). late_at t a || false) (timed_clock here past m (ground_of here past m ground.grounds)) (timed_attempts n past m)
      ∙ ap (λ (b : Bool). b || false) (at here done ground.counts)
    where
      runs : (node_of m.state n).series ≡ Running
      runs =
          let s : NodeState = node_of m.state n in
          with_text s s.series refl ((facts_of here past m ground.grounds).nodes.facts n).series has

      early : (b : Bool) (badly : Bool) → NodeSo (so_far n past) (signed b (node_of m.state n)) m.clock badly → late_at m.clock (so_far n past) ≡ false
      early b badly so = running_early (so_far n past) (signed b (node_of m.state n)) m.clock badly (signed_series b (node_of m.state n) ∙ runs) so.are

      at : (here : Phase) → TicksDone here → KnowsAttempts heeds here past m → late_at m.clock (so_far n past) ≡ false
      at Resting done counts = early false _ (counts n from to).node
      at Open done counts = early false _ (counts n from to).node
      at (Behind left) done counts = early (gives_sign n m.state left) _ (counts.0 n from to).node
      at Sleeping done counts = early false _ (counts n from to).node
      at Submitting done counts = early false _ (counts n from to).node
      at here done counts = absurd done
