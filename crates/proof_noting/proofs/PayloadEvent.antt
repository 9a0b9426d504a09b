-- In the middle of a payload the course goes on as the host does with each event that is left of it.
use Rattle.std.proofs.Common.{◌≡◌, ℕ, Bool, true, inl, inr, List, [], ◌∷◌, ◌++◌, Option, sym, ap, ap₂, ◌∙◌, subst, append_assoc}
use Rattle.std.specs.Prelude.{is_none}
use Rattle.std.specs.List.{AllByRecursion}
use Rattle.zw_base.proofs.Each.{all-append, all-right}
use Rattle.zw_text.specs.declared.entry.Entry.{Entry}
use Rattle.host_heard.specs.Telling.{heard_at}
use Rattle.host_heard.specs.declared.told.Told.{Told}
use Rattle.host_requests.specs.declared.under_way.UnderWay.{UnderWay}
use Rattle.host_model.specs.After.{after}
use Rattle.host_model.specs.Events.{HostEvent}
use Rattle.host_model.specs.Taking.{PayloadEvents}
use Rattle.law_transcript.specs.Units.{Carried}
use Rattle.law_time.specs.Heeds.{Heeds}
use Rattle.proof_hearing.specs.proof_choice.proof_giving.Told.{attempts_so_far}
use Rattle.proof_hearing.proofs.Heeded.{all_follow}
use Rattle.proof_hearing.proofs.Kept.{IsFollower}
use Rattle.proof_hearing.proofs.ReadyTie.{facts_of}
use Rattle.proof_hearing.specs.Hearing.{HeardOne, HearsSo, StaysLate, Whole, choosing, finishes, hearing_at}
use Rattle.proof_hearing.specs.proof_queue.proof_attempts.proof_requests.law_host.Following.{is_note}
use Rattle.proof_hearing.specs.proof_queue.proof_attempts.proof_requests.law_host.Heard.{heeds_alone}
use Rattle.proof_hearing.specs.proof_queue.proof_attempts.proof_requests.proof_alone.State.{HostMachine, done}
use Rattle.proof_hearing.specs.proof_queue.proof_attempts.proof_requests.proof_alone.Steps.{Does}
use Rattle.proof_hearing.specs.proof_queue.proof_attempts.proof_requests.proof_alone.Phases.{Behind, May}
use Rattle.proof_hearing.proofs.OnePayload.{hears_one}
use Rattle.proof_hearing.specs.proof_choice.proof_following.Quiet.{acknowledges}
use Rattle.proof_noting.specs.Following.{Outset}
use Rattle.proof_noting.specs.Behind.{InPayload}
use Rattle.proof_noting.specs.Ground.{GroundAlong, NotingGround}
use Rattle.proof_noting.specs.Steps.{first_of}
use Rattle.proof_noting.specs.Sure.{SureRun}
use Rattle.proof_noting.specs.Ticking.{OverSo}
use Rattle.proof_noting.proofs.Followers.{follower_late, follower_notes, follower_same, notes_alike}
use Rattle.proof_noting.proofs.Surely.{sure_does}
use Rattle.proof_noting.proofs.PayloadMiddle.{PointsAlong, point}

module _ (key : List ℕ) (taken : List Entry → Carried → List Told) (from : Outset) where
  abbrev heeds : Heeds
  heeds = heeds_alone taken

  abbrev Middle : List Entry → HostMachine → List HostEvent → Type 0
  Middle past m left = InPayload key taken from (first_of key) past m left

  module _ (ground : GroundAlong taken (first_of key)) (points : PointsAlong key taken) (past told : List Entry) (m : HostMachine) (one : HostEvent) (left : List HostEvent)
      (sure : SureRun taken (first_of key) (Behind (one ∷ left)) past m) (may : May (Behind (one ∷ left)) m (Does one told) (Behind left)) (it : Middle past m (one ∷ left)) where
    abbrev upto : List Entry
    upto = it.before ++ acknowledges ∷ []

    abbrev here : List Entry
    here = upto ++ it.course.due

    follows : IsFollower it.node one
    follows = (all-right (IsFollower it.node) it.gone (one ∷ left) (all_follow it.node it.first it.payload (heard_at it.payload) (it.gone ++ (one ∷ left)) it.followed)).0

    notes : AllByRecursion (λ (e : Entry). is_note e ≡ true) told
    notes = follower_notes m.state it.node one told follows may.2

    noting : NotingGround taken (Behind (one ∷ left)) here m
    noting = ground (Behind (one ∷ left)) here m it.sure

    marked : NotingGround taken (Behind (one ∷ left)) past m
    marked = ground (Behind (one ∷ left)) past m sure

    stays : StaysLate heeds it.node here told
    stays = follower_late taken it.node here told m.state (facts_of (Behind (one ∷ left)) here m noting.grounds) noting.grounds.shows one follows may.1.0 may.2

    heard : HeardOne key (hearing_at taken it.before upto it.node it.payload) it.remaining here told m.state one left it.remains it.course
    heard =
        hears_one key taken it.before upto it.node it.payload it.is_node here m.state it.course (point key taken from ground points past m (one ∷ left) sure it) it.so one left told stays it.remaining it.remains
        may.2 may.1.0

    at : here ++ told ≡ upto ++ heard.next.due
    at = append_assoc upto it.course.due told ∙ ap (λ (l : List Entry). upto ++ l) (sym heard.due)

    under_way : (after m.state one).requests.under_way ≡ m.state.requests.under_way
    under_way = follower_same m.state it.node one follows

    over : OverSo upto (done m one) it.begun
    over = by it.over
      where
        by : OverSo upto m it.begun → OverSo upto (done m one) it.begun
        by (inl level) = inl (level ∙ ap (λ (o : Option UnderWay). is_none o) (sym under_way))
        by (inr (running, none, abort)) = inr (running, under_way ∙ none, abort)

    alike : (n : ℕ) → attempts_so_far heeds n (here ++ told) ≡ attempts_so_far heeds n (past ++ told)
    alike n = notes_alike taken n here past told notes ((noting.grounds.shows n).sessions_are ∙ sym (marked.grounds.shows n).sessions_are) (it.same n)

    pub event_goes : Middle (past ++ told) (done m one) left
    event_goes = record {
      before = it.before;
      marks = it.marks;
      marked = it.marked;
      node = it.node;
      is_node = it.is_node;
      payload = it.payload;
      first = it.first;
      gone = it.gone ++ one ∷ [];
      followed = subst (λ (l : List HostEvent). PayloadEvents it.first it.node it.payload (heard_at it.payload) l) (sym (append_assoc it.gone (one ∷ []) left)) it.followed;
      begun = it.begun;
      kept = it.kept;
      opened = it.opened;
      heard = it.heard;
      split = it.split;
      begins = it.begins;
      untaken = it.untaken;
      none_due = it.none_due;
      fits = it.fits;
      ticked = it.ticked;
      heeded = it.heeded;
      over = over;
      remaining = heard.more;
      course = heard.next;
      since_kept = it.since_kept ++ heard.kept;
      since_opened = it.since_opened ++ heard.texts;
      leads = λ keepings texts.
          ap₂ (λ (x : List Bool) (y : List (Option (List ℕ))). finishes (hearing_at taken it.before upto it.node it.payload) Whole (choosing x y it.begun))
          (append_assoc it.since_kept heard.kept keepings) (append_assoc it.since_opened heard.texts texts)
          ∙ it.leads (heard.kept ++ keepings) (heard.texts ++ texts) ∙ heard.goes keepings texts;
      remains = heard.remains;
      goes_by = sym heard.heeded ∙ it.goes_by;
      so = subst (λ (l : List Entry). HearsSo key (hearing_at taken it.before upto it.node it.payload) l (after m.state one) heard.next) at heard.so;
      other = heard.other ∙ it.other;
      notes = subst (λ (l : List Entry). AllByRecursion (λ (e : Entry). is_note e ≡ true) l) (sym heard.due) (all-append (λ (e : Entry). is_note e ≡ true) it.course.due told it.notes notes);
      numbered = it.numbered;
      past_is =
          ap (λ (l : List Entry). l ++ told) it.past_is ∙ append_assoc (it.before ++ acknowledges ∷ it.marks) it.course.due told
          ∙ ap (λ (l : List Entry). (it.before ++ acknowledges ∷ it.marks) ++ l) (sym heard.due);
      same = λ n. ap (λ (l : List Entry). attempts_so_far heeds n l) (sym at) ∙ alike n;
      sure = subst (λ (l : List Entry). SureRun taken (first_of key) (Behind left) l (done m one)) at (sure_does taken (first_of key) {next = Behind left} it.sure one told may);
    }
