-- Messages are ready to be sealed as in the host along each run along which attempts are counted.
use Rattle.std.proofs.Common.{◌≡◌, ℕ, ◌<◌, zero, suc, Bool, true, false, inl, None, length, List, [], ◌∷◌, ◌++◌, refl, sym, ap, ◌∙◌, subst, append-nil, append_assoc}
use Rattle.std.specs.List.{AllByRecursion}
use Rattle.zw_base.proofs.Each.{all-append, all-weaker}
use Rattle.s0_crypto.specs.declared.key_pair.Keys.{Keys}
use Rattle.serial_frame.specs.Frame.{FrameParts}
use Rattle.serial_frame.specs.Items.{unit_text}
use Rattle.serial_frame.specs.declared.item.Item.{Item}
use Rattle.serial_frame.specs.declared.item.Item.TheVariants.{Good, Refused as refused_item}
use Rattle.serial_frame.specs.declared.item.Refusal.TheVariants.{Stray, BadLength, BadSum, BadKind, Aborted}
use Rattle.serial_frame.specs.declared.unit.Unit.{Unit as LineUnit}
use Rattle.serial_frame.specs.declared.unit.Unit.TheVariants.{Ack, Nak, Can, Framed}
use Rattle.zw_words.specs.declared.side.Side.TheVariants.{Host}
use Rattle.zw_text.specs.declared.entry.Entry.{Entry}
use Rattle.zw_text.specs.declared.entry.Entry.TheVariants as entry
use Rattle.host_heard.specs.declared.told.Told.{Told}
use Rattle.law_transcript.specs.Units.{Carried}
use Rattle.law_time.specs.Attempts.{Attempts}
use Rattle.law_time.specs.Heeds.{Heeds}
use Rattle.law_time.specs.Moments.{clock}
use Rattle.host_requests.specs.Events.{RequestsEvent}
use Rattle.host_node.specs.State.{NodeState}
use Rattle.host_node.specs.TableState.{node_of as node_among, unknown_from, unknown_nodes}
use Rattle.host_node.specs.declared.attempt.Moment.TheVariants.{BetweenTicks}
use Rattle.host_model.specs.State.{HostState, first_host, first_nodes, node_of}
use Rattle.host_model.specs.After.{after}
use Rattle.host_model.specs.Did.{after_all}
use Rattle.host_model.specs.Events.{HostEvent, Hears, Requests_do}
use Rattle.host_model.specs.Taking.{told_if}
use Rattle.host_model.specs.declared.out.HostOut.TheVariants.{Write}
use Rattle.proof_giving.specs.proof_queue.proof_attempts.proof_requests.law_host.Heard.{heeds_alone}
use Rattle.proof_giving.specs.proof_queue.proof_attempts.proof_requests.Asking.{TieAsked, doing_of}
use Rattle.proof_giving.specs.proof_queue.proof_attempts.proof_requests.proof_alone.State.{HostMachine, done}
use Rattle.proof_giving.specs.proof_queue.proof_attempts.proof_requests.proof_alone.Steps.{AreTold, IsOfUnit, Judges, happens}
use Rattle.proof_giving.specs.proof_queue.proof_attempts.proof_requests.proof_alone.Phases.{Phase, Resting, Open, Behind, Submitting, IsJudgedNow}
use Rattle.proof_giving.specs.proof_queue.proof_attempts.proof_requests.proof_waking.Judged.{TieFrames}
use Rattle.proof_giving.specs.proof_queue.proof_attempts.Since.{KnowsSince}
use Rattle.proof_giving.specs.proof_queue.Heeding.{HeedsAs}
use Rattle.proof_giving.proofs.Queued.{PayloadsBring}
use Rattle.proof_giving.proofs.Stepping.{time_told}
use Rattle.proof_giving.specs.Told.{LeavesAttempts, attempts_so_far}
use Rattle.proof_giving.proofs.Asking.{mark_leaves}
use Rattle.proof_giving.proofs.Told.{attempts_again, attempts_left}
use Rattle.proof_choice.specs.Counting.{KnowsReady}
use Rattle.proof_choice.specs.Ready.{ReadySo}
use Rattle.proof_choice.specs.Readying.{ReadyAsTold, ReadyGround}
use Rattle.proof_choice.proofs.Nonces.{one_stays}
use Rattle.proof_choice.proofs.Plans.{SessionsKept}
use Rattle.proof_choice.proofs.Readies.{stays_ready}
use Rattle.proof_choice.proofs.ReadyFrames.{InnerSame, frame_ready}
use Rattle.proof_choice.proofs.ReadyGoes.{GrowsAlong}
use Rattle.proof_choice.proofs.ReadyTie.{asked_of, facts_of, ground_of, within_of}
use Rattle.proof_choice.proofs.ReadyWalk.{JudgesReady, ShowsAcked}
use Rattle.proof_choice.proofs.Staying.{Stays, no_some, stays_same}

-- ---- at first

record IsBlank (s : NodeState) : Type 0 where
  seen : s.seen ≡ 0
  no_text : s.text ≡ None
  no_pending : s.pending ≡ None

blank_all : (number count m : ℕ) → IsBlank (node_among (unknown_from number count) m)
blank_all number zero m = record { seen = refl; no_text = refl; no_pending = refl }
blank_all number (suc count) zero = record { seen = refl; no_text = refl; no_pending = refl }
blank_all number (suc count) (suc m) = blank_all (suc number) count m

first_blank : (m : ℕ) → IsBlank (node_among first_nodes m)
unfolding first_nodes unknown_nodes
first_blank zero = record { seen = refl; no_text = refl; no_pending = refl }
first_blank (suc zero) = record { seen = refl; no_text = refl; no_pending = refl }
first_blank (suc (suc zero)) = record { seen = refl; no_text = refl; no_pending = refl }
first_blank (suc (suc (suc m))) = blank_all 3 230 m

pub first_ready : (heeds : Heeds) → ((n : ℕ) → heeds.counted n ≡ 0) → (keys : Keys) → ReadyAsTold heeds Resting [] (first_host keys) 0
first_ready heeds none keys n from to =
    let blank = first_blank n in
    record {
      seen = none n ∙ sym blank.seen;
      text = λ sealed is. no_some _ (node_among first_nodes n).text sealed blank.no_text is;
      none = λ runs waits. refl;
      pending = λ plain is. no_some _ (node_among first_nodes n).pending plain blank.no_pending is;
    }

-- ---- what is judged

module _ (inner_same : InnerSame) (keeps : SessionsKept) (grows : GrowsAlong) (brings : PayloadsBring) (taken : List Entry → Carried → List Told) where
  abbrev heeds : Heeds
  heeds = heeds_alone taken

  abbrev so_far : ℕ → List Entry → Attempts
  so_far n past = attempts_so_far heeds n past

  -- items but frames leave the attempts
  marks_left : (n : ℕ) (past marks more : List Entry) → AllByRecursion IsOfUnit marks → more ≡ [] → so_far n (past ++ (marks ++ more)) ≡ so_far n past
  marks_left n past marks more marked none =
      attempts_left taken n past (marks ++ more)
      (all-weaker IsOfUnit LeavesAttempts mark_leaves (marks ++ more) (all-append IsOfUnit marks more marked (subst (AllByRecursion IsOfUnit) (sym none) tt)))

  denied : (n : ℕ) (past told : List Entry) → AreTold (Write Nak ∷ []) told → so_far n (past ++ told) ≡ so_far n past
  denied n past told (marks, more, is, marked, none) =
      let w : Entry = entry.Written Host (unit_text Nak) in
      ap (λ (l : List Entry). so_far n (past ++ l)) is ∙ ap (λ (l : List Entry). so_far n l) (sym (append_assoc past (w ∷ []) (marks ++ more)))
      ∙ marks_left n (past ++ w ∷ []) marks more marked none ∙ attempts_again taken n past (unit_text Nak) refl refl

  unanswered : (n : ℕ) (past told : List Entry) → told ≡ [] → so_far n (past ++ told) ≡ so_far n past
  unanswered n past told none = ap (λ (l : List Entry). so_far n (past ++ l)) none ∙ ap (λ (l : List Entry). so_far n l) (append-nil past)

  -- what follows them leaves the texts
  follows_none : (n : ℕ) (h : HostState) (behind : List HostEvent) → behind ≡ [] → Stays false (node_of h n) (node_of (after_all h behind) n)
  follows_none n h behind is = subst (λ (l : List HostEvent). Stays false (node_of h n) (node_of (after_all h l) n)) (sym is) (stays_same false (node_of h n))

  follows_if : (n : ℕ) (h : HostState) (behind : List HostEvent) (b : Bool) (event : RequestsEvent) → n < length h.nodes → behind ≡ told_if b event → Stays false (node_of h n) (node_of (after_all h behind) n)
  follows_if n h behind true event within is =
      subst (λ (l : List HostEvent). Stays false (node_of h n) (node_of (after_all h l) n)) (sym is) (one_stays n h (Requests_do event BetweenTicks) within tt)
  follows_if n h behind false event within is = follows_none n h behind is

  other_item : (past told : List Entry) (n : ℕ) (s t : NodeState) → so_far n (past ++ told) ≡ so_far n past → Stays false s t → ReadySo (so_far n past) s → ReadySo (so_far n (past ++ told)) t
  other_item past told n s t same stays so = subst (λ (a : Attempts). ReadySo a t) (sym same) (stays_ready (so_far n past) s t stays so)

  abbrev GoesAt : List Entry → HostMachine → List LineUnit → List HostEvent → List Entry → ℕ → Item → Type 0
  GoesAt past m rest behind told n item =
      IsJudgedNow m item rest behind told → HeedsAs heeds past m (Judges item rest behind told) → ShowsAcked grows brings taken past m (Judges item rest behind told)
      → ReadyGround heeds (Behind behind) (past ++ told) (record (done m (Hears item)) { came = rest }) → ReadySo (so_far n (past ++ told)) (node_of (after_all (after m.state (Hears item)) behind) n)

  pub judges_ready : JudgesReady grows brings taken
  judges_ready past m item rest behind told now as_told acked ground later tie n from to = inl (by item now as_told acked later)
    where
      within : n < length m.state.nodes
      within = within_of Open past m ground.0.0 n to

      framed_goes : (f : FrameParts) → GoesAt past m rest behind told n (Good (Framed f))
      framed_goes f now as_told acked later = by now.told_so
        where
          by : AreTold (Write Ack ∷ []) told → ReadySo (so_far n (past ++ told)) (node_of (after_all (after m.state (Hears (Good (Framed f)))) behind) n)
          by (marks, more, is, marked, none) =
              let became : AllByRecursion IsOfUnit (marks ++ more) = all-append IsOfUnit marks more marked (subst (AllByRecursion IsOfUnit) (sym none) tt) in
              let frames : TieFrames past (Framed f ∷ rest) = subst (λ (l : List LineUnit). TieFrames past l) now.takes (ground_of Open past m ground.0.0).0.0.1.frames in
              let tied : TieAsked past m.clock m.clock (Framed f ∷ rest) (doing_of m.state)
              = subst (λ (l : List LineUnit). TieAsked past m.clock m.clock l (doing_of m.state)) now.takes (asked_of Open past m ground.0.0) in
              let heard : HostMachine = happens m (Judges (Good (Framed f)) rest behind (entry.Written Host (unit_text Ack) ∷ [])) in
              let time : clock (past ++ entry.Written Host (unit_text Ack) ∷ []) ≡ m.clock
              = time_told (Behind behind) (past ++ entry.Written Host (unit_text Ack) ∷ []) (entry.Written Host (unit_text Ack) ∷ []) heard
              (ground_of (Behind behind) (past ++ entry.Written Host (unit_text Ack) ∷ []) heard acked)
              (λ awaits. absurd (let bad : entry.Written Host (unit_text Ack) ∷ (marks ++ more) ≡ [] = sym is ∙ now.numbered awaits in cc)) (entry.Written Host (unit_text Ack)) [] refl in
              subst (λ (l : List Entry). ReadySo (so_far n (past ++ l)) (node_of (after_all (after m.state (Hears (Good (Framed f)))) behind) n)) (sym is)
              (frame_ready inner_same keeps taken n past f rest behind m.state m.clock frames tied within (ground.0.1 n from to) (ground.0.0.shows n) (acked.shows n) (facts_of Open past m ground.0.0)
              (facts_of (Behind behind) (past ++ told) (record (done m (Hears (Good (Framed f)))) { came = rest }) later.0.0) time (tie n from to) (marks ++ more) became as_told.0 as_told.1)

      by : (item : Item) → GoesAt past m rest behind told n item
      by (Good (Framed f)) = framed_goes f
      by (Good Ack) = λ now as_told acked later. other_item past told n (node_of m.state n) _ (unanswered n past told now.told_so) (follows_if n (after m.state (Hears (Good Ack))) behind _ _ within now.followed) (tie n from to)
      by (Good Nak) = λ now as_told acked later. other_item past told n (node_of m.state n) _ (unanswered n past told now.told_so) (follows_if n (after m.state (Hears (Good Nak))) behind _ _ within now.followed) (tie n from to)
      by (Good Can) = λ now as_told acked later. other_item past told n (node_of m.state n) _ (unanswered n past told now.told_so) (follows_if n (after m.state (Hears (Good Can))) behind _ _ within now.followed) (tie n from to)
      by (refused_item (BadSum want got)) = λ now as_told acked later.
          other_item past told n (node_of m.state n) _ (denied n past told now.told_so) (follows_none n (after m.state (Hears (refused_item (BadSum want got)))) behind now.followed) (tie n from to)
      by (refused_item (BadKind x)) = λ now as_told acked later.
          other_item past told n (node_of m.state n) _ (denied n past told now.told_so) (follows_none n (after m.state (Hears (refused_item (BadKind x)))) behind now.followed) (tie n from to)
      by (refused_item (Stray x)) = λ now as_told acked later.
          other_item past told n (node_of m.state n) _ (unanswered n past told now.told_so) (follows_none n (after m.state (Hears (refused_item (Stray x)))) behind now.followed) (tie n from to)
      by (refused_item (BadLength k)) = λ now as_told acked later.
          other_item past told n (node_of m.state n) _ (unanswered n past told now.told_so) (follows_none n (after m.state (Hears (refused_item (BadLength k)))) behind now.followed) (tie n from to)
      by (refused_item Aborted) = λ now as_told acked later.
          other_item past told n (node_of m.state n) _ (unanswered n past told now.told_so) (follows_none n (after m.state (Hears (refused_item Aborted))) behind now.followed) (tie n from to)

-- where it submits, and where it rests
pub known_ready : (heeds : Heeds) (here : Phase) (told : List Entry) (m : HostMachine) → KnowsSince (ReadyAsTold heeds) here told m → KnowsReady heeds here told m
known_ready by Submitting told m known = known
known_ready by Resting told m known = known
known_ready by here told m known = tt
