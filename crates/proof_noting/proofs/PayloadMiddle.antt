-- In the middle of a payload: what is known of the host there, and its books with what became of the acknowledgement.
use Rattle.std.proofs.Common.{◌≡◌, ℕ, Bool, true, if◌then◌else◌, List, [], ◌∷◌, ◌++◌, Option, Some, None, refl, sym, ap, ◌∙◌}
use Rattle.std.specs.Prelude.{is_some}
use Rattle.std.proofs.lemmas.Bool.{both_ways, or_right}
use Rattle.zw_text.specs.declared.entry.Entry.{Entry}
use Rattle.zw_text.specs.declared.entry.Entry.TheVariants as entry
use Rattle.host_heard.specs.declared.told.Told.{Told}
use Rattle.host_model.specs.State.{node_of}
use Rattle.host_model.specs.Events.{HostEvent}
use Rattle.law_transcript.specs.Units.{Carried}
use Rattle.law_time.specs.Heeds.{Heeds}
use Rattle.law_time.specs.Moments.{clock}
use Rattle.proof_hearing.specs.proof_choice.proof_giving.Tie.{has_text}
use Rattle.proof_hearing.proofs.proof_queue_Stepping.{time_told}
use Rattle.proof_hearing.proofs.ReadyTie.{ground_of}
use Rattle.proof_hearing.specs.Books.{BooksSo}
use Rattle.proof_hearing.specs.Hearing.{NotAsked, Point}
use Rattle.proof_hearing.specs.proof_queue.proof_attempts.proof_requests.law_host.Heard.{heeds_alone}
use Rattle.proof_hearing.specs.proof_queue.proof_attempts.proof_requests.law_host.Nonces.{is_late}
use Rattle.proof_hearing.specs.proof_queue.proof_attempts.proof_requests.proof_alone.State.{HostMachine}
use Rattle.proof_hearing.specs.proof_queue.proof_attempts.proof_requests.proof_alone.Phases.{Behind, Phase}
use Rattle.proof_hearing.specs.proof_queue.proof_attempts.proof_requests.proof_alone.Runs.{Run}
use Rattle.proof_hearing.proofs.Alike.{same_alike}
use Rattle.proof_hearing.proofs.BooksGo.{books_on}
use Rattle.proof_hearing.specs.proof_choice.proof_following.Quiet.{acknowledges}
use Rattle.proof_noting.specs.Behind.{InPayload}
use Rattle.proof_noting.specs.Following.{Outset, timed}
use Rattle.proof_noting.specs.Ground.{GroundAlong, NotingGround}
use Rattle.proof_noting.specs.Steps.{first_of}
use Rattle.proof_noting.specs.Sure.{SureRun}
use Rattle.proof_noting.proofs.Followers.{late_alike}
use Rattle.proof_noting.proofs.Lately.{on_time}

-- what is known where a host alone hears a payload (hosts_have_points)
abbrev pub PointsAlong : (key : List ℕ) (taken : List Entry → Carried → List Told) → Type 0
PointsAlong key taken =
    (here : Phase) (told : List Entry) (m : HostMachine) → Run (first_of key) here told m → NotAsked here → (n : ℕ)
    → (is_late (heeds_alone taken) told n ≡ true → (node_of m.state n).pending ≡ None) → Point key (heeds_alone taken) told n m.state

module _ (key : List ℕ) (taken : List Entry → Carried → List Told) (from : Outset) where
  abbrev heeds : Heeds
  heeds = heeds_alone taken

  abbrev Middle : List Entry → HostMachine → List HostEvent → Type 0
  Middle past m left = InPayload key taken from (first_of key) past m left

  module _ (ground : GroundAlong taken (first_of key)) (points : PointsAlong key taken) (past : List Entry) (m : HostMachine) (left : List HostEvent)
      (sure : SureRun taken (first_of key) (Behind left) past m) (it : Middle past m left) where
    abbrev upto : List Entry
    upto = it.before ++ acknowledges ∷ []

    abbrev here : List Entry
    here = upto ++ it.course.due

    noting : NotingGround taken (Behind left) here m
    noting = ground (Behind left) here m it.sure

    marked : NotingGround taken (Behind left) past m
    marked = ground (Behind left) past m sure

    time : clock here ≡ m.clock
    time = time_told (Behind left) here (entry.Time 0 ∷ []) m (ground_of (Behind left) here m noting.grounds) (λ awaits. absurd (both_ways m.awaits it.numbered awaits)) (entry.Time 0) [] refl

    marked_time : clock past ≡ m.clock
    marked_time = time_told (Behind left) past (entry.Time 0 ∷ []) m (ground_of (Behind left) past m marked.grounds) (λ awaits. absurd (both_ways m.awaits it.numbered awaits)) (entry.Time 0) [] refl

    stands_timed : (l : List Entry) → timed m l ≡ l
    stands_timed l = ap (λ (b : Bool). if b then l ++ entry.Time m.clock ∷ [] else l) it.numbered

    -- no plain text waits of an attempt that is late
    none_late : is_late heeds here it.node ≡ true → (node_of m.state it.node).pending ≡ None
    none_late late = by (node_of m.state it.node).pending refl
      where
        by : (o : Option (List ℕ)) → (node_of m.state it.node).pending ≡ o → o ≡ None
        by None is = refl
        by (Some plain) is =
            let has : has_text (node_of m.state it.node) ≡ true
            = or_right (is_some (node_of m.state it.node).text) (is_some (node_of m.state it.node).pending) (ap (λ (o : Option (List ℕ)). is_some o) is) in
            absurd (both_ways (is_late heeds here it.node)
            (ap (λ (l : List Entry). is_late heeds l it.node) (sym (stands_timed here)) ∙ on_time taken (Behind left) here m tt noting it.node it.is_node.0 it.is_node.1 has) late)

    pub point : Point key heeds here it.node m.state
    point = points (Behind left) here m it.sure.run tt it.node none_late

    -- the books are the same with what became of the acknowledgement
    pub marked_books : BooksSo key heeds past m.state it.course
    marked_books =
        books_on key heeds here past m.state it.course.books it.course.offered it.course.opened it.course.sealed it.so.books m.state refl (λ k. refl)
        (λ k is. same_alike (node_of m.state k) (node_of m.state k) refl) (λ number t found. found)
        (λ k is late. late_alike taken k here past (it.same k) (marked_time ∙ sym time) late)
