-- What the chip is given in an outcome outside the host: where these frames are the next ones of what it has for the host, it keeps the law of what it writes; for an event of the chip, and for all that an
-- account is made of.
use Rattle.std.proofs.Common.{◌≡◌, List, [], ◌∷◌, ◌++◌, refl, sym, ap, subst, append-nil, append_assoc}
use Rattle.std.specs.List.{AllByRecursion}
use Rattle.zw_base.proofs.Each.{all-left, all-right, all-weaker}
use Rattle.serial_frame.specs.Frame.{FrameParts}
use Rattle.serial_link.specs.Rules.{Step}
use Rattle.chip_sim.specs.Waiting.{PortState}
use Rattle.chip_sim.specs.State.{ChipState}
use Rattle.chip_sim.specs.Events.{ChipEvent}
use Rattle.chip_sim.specs.Link.{link_steps}
use Rattle.chip_sim.specs.Rules.{posts}
use Rattle.zw_words.specs.declared.side.Side.TheVariants.{Host as by_host, Chip as by_chip}
use Rattle.zw_text.specs.declared.entry.Entry.{Entry}
use Rattle.zw_text.specs.declared.entry.Entry.TheVariants as entry
use Rattle.law_transcript.specs.Lists.{EachAfter}
use Rattle.law_wire.specs.Asked.{Course, course_of}
use Rattle.law_wire.specs.Given.{Given, given}
use Rattle.law_wire.specs.Answering.{AreOf, MayAnswer}
use Rattle.outside_model.specs.Devices.{State}
use Rattle.outside_model.specs.State.{OuterState, Outcome}
use Rattle.outside_model.specs.Chip.{chip_does}
use Rattle.proof_host.proofs.Lists.{each-append, each-anywhere}
use Rattle.proof_devices.specs.proof_air.proof_walk.Outside.{IsOfAir}
use Rattle.proof_devices.proofs.Times.{does_chip}
use Rattle.proof_chip.proofs.ChipAccounts.{Account, Still, Both, Later, Does, Forgotten, Of_air, In_air, steps_by}
use Rattle.proof_chip.specs.Serving.{GoesOn, Serves, frame_texts}
use Rattle.proof_chip.proofs.Covering.{first_are}
use Rattle.proof_chip.proofs.Growing.{frames_both, serves_aside, serves_event, told as put_by}
use Rattle.proof_chip.proofs.Judged.{goes_back}
use Rattle.proof_chip.proofs.Ordering.{event_answers}
use Rattle.proof_chip.proofs.Settling.{AreIdle, IsIdle, given_still}
use Rattle.proof_chip.proofs.Telling.{AreAside, IsAside}
use Rattle.proof_chip.proofs.Learning.{air_aside}

-- the frames that the chip is given by it
abbrev pub posts_by : {o : OuterState} {x : Outcome} → Account o x → List FrameParts
posts_by (Still o p is) = []
posts_by (Both o first next one later) = posts_by one ++ posts_by later
posts_by (Later o p x is account) = posts_by account
posts_by (Does o event fits) = posts o.chip.state event
posts_by (Forgotten o a b) = []
posts_by (Of_air o x of_air to_host to_chip port) = []
posts_by (In_air o air x account) = posts_by account

-- ---- entries that tell nothing of the chip

aside_answer : (devices : List State) (course : Course) (past : List Entry) (e : Entry) → IsAside e → MayAnswer devices course past e
aside_answer devices course past (entry.Written by_chip unit) aside = absurd aside
aside_answer devices course past (entry.Written by_host unit) aside = tt
aside_answer devices course past e aside = tt

aside_turns : (devices : List State) (course : Course) (past told : List Entry) → AreAside told → EachAfter (MayAnswer devices course) past told
aside_turns devices course past told aside = each-anywhere (MayAnswer devices course) IsAside (aside_answer devices course) past told aside

module _ (devices : List State) where
  -- with these steps the chip was given these frames, and where they are the next ones, what it writes is in order
  pub record Grows (did : List Step) (frames : List FrameParts) (past : List Entry) (port : PortState) (told : List Entry) (steps : List Step) (more : List FrameParts) : Type 0 where
    pub serves : Serves (did ++ steps) (frames ++ more) (past ++ told) port
    pub turns : (course : Course) → GoesOn (course_of (did ++ steps)) course → AreOf devices (frame_texts (frames ++ more)) (given devices course past) → EachAfter (MayAnswer devices course) past told

  pub aside_grows : (did : List Step) (frames : List FrameParts) (past told : List Entry) (port later : PortState) → AreAside told → later ≡ port → Serves did frames past port → Grows did frames past later told [] []
  aside_grows did frames past told port later aside same serves = record {
    serves =
        subst (λ (l : List Step). Serves l (frames ++ []) (past ++ told) later) (sym (append-nil did))
        (subst (λ (l : List FrameParts). Serves did l (past ++ told) later) (sym (append-nil frames))
        (serves_aside did frames past told port later aside (ap (λ (p : PortState). p.side) same) (ap (λ (p : PortState). p.waiting) same) serves));
    turns = λ course goes are. aside_turns devices course past told aside;
  }

  -- ---- an event of the chip

  event_turns : (did : List Step) (frames : List FrameParts) (past : List Entry) (o : OuterState) (e : ChipEvent) (serves : Serves did frames past o.chip.state.port) (course : Course)
      → GoesOn (course_of (did ++ link_steps o.chip.state e)) course → AreIdle (put_by did frames past o e serves) → AreOf devices (frame_texts (frames ++ posts o.chip.state e)) (given devices course past)
      → EachAfter (MayAnswer devices course) past (put_by did frames past o e serves)
  event_turns did frames past o e serves course goes idle are =
      event_answers devices did frames past o e serves course goes
      (λ front rest is begins.
      subst (λ (l : List Given). AreOf devices (frame_texts (frames ++ posts o.chip.state e)) l)
      (sym (given_still devices course past front (all-left IsIdle front rest (subst (λ (l : List Entry). AllByRecursion IsIdle l) is idle)))) are)

  pub event_grows : (did : List Step) (frames : List FrameParts) (past : List Entry) (o : OuterState) (e : ChipEvent) → AreIdle (chip_does o e).entries → Serves did frames past o.chip.state.port
      → Grows did frames past (chip_does o e).outer.chip.state.port (chip_does o e).entries (link_steps o.chip.state e) (posts o.chip.state e)
  unfolding chip_does
  event_grows did frames past o e idle serves = record {
    serves =
        subst (λ (s : ChipState). Serves (did ++ link_steps o.chip.state e) (frames ++ posts o.chip.state e) (past ++ (chip_does o e).entries) s.port) (sym (does_chip o e))
        (serves_event did frames past o e serves);
    turns = λ course goes are. event_turns did frames past o e serves course goes idle are;
  }

  -- ---- one after another

  module _ (did one later : List Step) (frames first more : List FrameParts) (past told rest : List Entry) (port last : PortState) where
    pub both_grow : AreIdle told → Grows did frames past port told one first → Grows (did ++ one) (frames ++ first) (past ++ told) last rest later more → Grows did frames past last (told ++ rest) (one ++ later) (first ++ more)
    both_grow idle grows grows_on = record {
      serves =
          subst (λ (l : List Step). Serves l (frames ++ (first ++ more)) (past ++ (told ++ rest)) last) (append_assoc did one later)
          (subst (λ (l : List FrameParts). Serves ((did ++ one) ++ later) l (past ++ (told ++ rest)) last) (append_assoc frames first more)
          (subst (λ (l : List Entry). Serves ((did ++ one) ++ later) ((frames ++ first) ++ more) l last) (append_assoc past told rest) grows_on.serves));
      turns = λ course goes are.
          let all : AreOf devices (frame_texts ((frames ++ first) ++ more)) (given devices course past) =
          subst (λ (l : List FrameParts). AreOf devices (frame_texts l) (given devices course past)) (sym (append_assoc frames first more)) are in
          let on : GoesOn (course_of ((did ++ one) ++ later)) course = subst (λ (l : List Step). GoesOn (course_of l) course) (sym (append_assoc did one later)) goes in
          each-append (MayAnswer devices course) past told rest
          (grows.turns course (goes_back (did ++ one) later course on)
          (first_are devices (frame_texts (frames ++ first)) (frame_texts more) (given devices course past)
          (subst (λ (l : List (List _)). AreOf devices l (given devices course past)) (frames_both (frames ++ first) more) all)))
          (grows_on.turns course on (subst (λ (l : List Given). AreOf devices (frame_texts ((frames ++ first) ++ more)) l) (sym (given_still devices course past told idle)) all));
    }

  -- all that an account is made of, where it tells no fate
  pub account_grows : (did : List Step) (frames : List FrameParts) (past : List Entry) {o : OuterState} {x : Outcome} (account : Account o x) → AreIdle x.entries → Serves did frames past o.chip.state.port
      → Grows did frames past x.outer.chip.state.port x.entries (steps_by account) (posts_by account)
  account_grows did frames past (Still o p is) idle serves =
      aside_grows did frames past [] o.chip.state.port p.chip.state.port tt (ap (λ (s : ChipState). s.port) is.chip) serves
  account_grows did frames past (Both o first next one later) idle serves =
      let told : List Entry = first.entries in
      let rest : List Entry = (next first.outer).entries in
      let before = all-left IsIdle told rest idle in
      let grows = account_grows did frames past one before serves in
      both_grow did (steps_by one) (steps_by later) frames (posts_by one) (posts_by later) past told rest first.outer.chip.state.port (next first.outer).outer.chip.state.port before grows
      (account_grows (did ++ steps_by one) (frames ++ posts_by one) (past ++ told) later (all-right IsIdle told rest idle) grows.serves)
  account_grows did frames past (Later o p x is account) idle serves =
      account_grows did frames past account idle (subst (λ (s : ChipState). Serves did frames past s.port) (sym is.chip) serves)
  account_grows did frames past (Does o event fits) idle serves = event_grows did frames past o event idle serves
  account_grows did frames past (Forgotten o a b) idle serves = aside_grows did frames past (entry.Forget a b ∷ []) o.chip.state.port o.chip.state.port (tt, tt) refl serves
  account_grows did frames past (Of_air o x of_air to_host to_chip port) idle serves =
      aside_grows did frames past x.entries o.chip.state.port x.outer.chip.state.port (all-weaker IsOfAir IsAside air_aside x.entries of_air) port serves
  account_grows did frames past (In_air o air x account) idle serves = account_grows did frames past account idle serves
