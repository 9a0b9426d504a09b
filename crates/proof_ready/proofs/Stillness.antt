-- A node of a host alone at rest: nothing is to be done for one that is not joined, nor for one that is still by the transcript and for which no command waits.
use Rattle.std.proofs.Common.{◌≡◌, ℕ, ◌==◌, ◌&&◌, ◌||◌, not, Bool, true, false, if◌then◌else◌, List, [], ◌∷◌, refl, sym, ap, ap₂, ◌∙◌}
use Rattle.std.proofs.lemmas.Bool.{false≢true}
use Rattle.std.specs.Prelude.{Option, Some, None, IsSome, is_some}
use Rattle.supervision.specs.Host.{HostBook, open_session}
use Rattle.zw_text.specs.declared.entry.Entry.{Entry}
use Rattle.zw_text.specs.Transcript.{accepted}
use Rattle.law_wire.specs.law_transcript.Commands.{numbers_of, waiting}
use Rattle.law_wire.specs.law_transcript.Nodes.{first_node, is_interviewed, is_joined, known_at_first, known_classes}
use Rattle.law_time.specs.Calm.{is_asleep_if_known}
use Rattle.law_time.specs.Interviews.{listens}
use Rattle.law_time.specs.Waking.{counts_awake}
use Rattle.host_keep.specs.Kept.{Interview, Session, classes_said}
use Rattle.proof_chip.specs.proof_world.host_model.Holding.{commands_of}
use Rattle.proof_rests.specs.proof_nonces.proof_known.proof_transcript.proof_spoken.Restarts.{AreHeld, IsHeld}
use Rattle.host_node.specs.Facts.{SeriesFacts}
use Rattle.host_node.specs.State.{NodeState, is_false, is_up}
use Rattle.host_node.specs.declared.series.Series.{Series}
use Rattle.host_node.specs.declared.series.Series.TheVariants.{Idle, Due, Running}
use Rattle.proof_rests.specs.proof_requests.host_model.State.{HostState, node_of}
use Rattle.proof_rests.specs.proof_requests.proof_alone.Phases.{Resting}
use Rattle.proof_rests.specs.proof_requests.proof_alone.State.{HostMachine}
use Rattle.proof_rests.specs.proof_requests.proof_alone.Tables.{TieTables}
use Rattle.proof_rests.specs.proof_nonces.proof_known.Known.{KnowsWhole}
use Rattle.proof_rests.specs.proof_nonces.proof_known.proof_transcript.law_host.Heard.{listing_heard}
use Rattle.proof_rests.specs.proof_nonces.proof_known.proof_transcript.proof_once.ByTable.{IsTable}
use Rattle.proof_rests.specs.proof_nonces.proof_known.proof_transcript.proof_host.Facts.{Facts}
use Rattle.proof_rests.specs.proof_nonces.proof_known.proof_transcript.proof_host.Laws.{numbers_for}
use Rattle.proof_in_time.specs.proof_answered.Workers.{IsStill}
use Rattle.proof_in_time.specs.proof_answered.proof_calm.Known.{IsBlank}
use Rattle.proof_ready.specs.Ease.{NodeIsAsTold}
use Rattle.proof_ready.proofs.Untold.{none_kept}

-- ---- one node

-- no session, no series
none_open : (book : HostBook) → book.commands ≡ [] → open_session book ≡ None
none_open book none = by book.outcome book.commands none
  where
    by : (outcome : Option ℕ) (commands : List ℕ) → commands ≡ [] → open_session (record { commands = commands; outcome = outcome; attempts = book.attempts }) ≡ None
    by (Some status) commands none = refl
    by None [] none = refl
    by None (command ∷ more) none = absurd cc

never_open : (node : NodeState) → open_session node.book ≡ None → IsSome (open_session node.book) → ⊥
never_open node closed some = let bad : false ≡ true = ap (λ (o : Option ℕ). is_some o) (sym closed) ∙ some in cc

idle_closed : (s : Series) (node : NodeState) → open_session node.book ≡ None
    → SeriesFacts s node.book node.attempt_wait node.again_wait node.next_segment node.segments node.text node.pending → s ≡ Idle
idle_closed Idle node closed facts = refl
idle_closed Due node closed facts = absurd (never_open node closed facts.0.is_open)
idle_closed Running node closed facts = absurd (never_open node closed facts.0.is_open)

unlisted_rests : (awake listens some : Bool) → some ≡ false → (awake && is_false listens && some) ≡ false
unlisted_rests true true some none = refl
unlisted_rests true false some none = none
unlisted_rests false true some none = refl
unlisted_rests false false some none = refl

asleep_rests : (awake listens some : Bool) → not (awake && not listens) || not some ≡ true → (awake && is_false listens && some) ≡ false
asleep_rests true true some asleep = refl
asleep_rests true false true asleep = absurd (let bad : false ≡ true = asleep in cc)
asleep_rests true false false asleep = refl
asleep_rests false true some asleep = refl
asleep_rests false false some asleep = refl

-- whether the host knows what a node lists does not depend on what it lists
knows_if : (listing : List Entry → ℕ → List ℕ) (past : List Entry) (n : ℕ) → is_some (known_classes listing past n) ≡ (is_interviewed past n || (n == first_node))
knows_if listing past n = by (is_interviewed past n) (n == first_node)
  where
    first : (b : Bool) (classes : List ℕ) → is_some (if b then Some classes else None) ≡ b
    first true classes = refl
    first false classes = refl

    by : (b c : Bool) → is_some (if b then Some (listing past n) else known_at_first n) ≡ (b || (n == first_node))
    by true c = refl
    by false c = first (n == first_node) _

-- so one that does not listen does not count as up
asleep_if : (counts hears some : Bool) → not (counts && not hears) || not some ≡ true → hears ≡ false → some ≡ true → counts ≡ false
asleep_if false hears some asleep sleeps known = refl
asleep_if true true some asleep sleeps known = absurd (false≢true (sym sleeps))
asleep_if true false true asleep sleeps known = absurd (false≢true asleep)
asleep_if true false false asleep sleeps known = absurd (false≢true known)

pub not_up : (listing other : List Entry → ℕ → List ℕ) (past : List Entry) (h : HostState) (n : ℕ) → NodeIsAsTold past h n → listens n past ≡ false → is_some (known_classes other past n) ≡ true
    → is_asleep_if_known listing past n ≡ true → is_up (node_of h n) ≡ false
not_up listing other past h n told sleeps known asleep =
    ap₂ (λ (a b : Bool). a || b) (told.listens_so ∙ sleeps)
    (told.awake
    ∙ asleep_if (counts_awake n past) (listens n past) (is_some (known_classes listing past n)) asleep sleeps (knows_if listing past n ∙ (sym (knows_if other past n) ∙ known)))

-- ---- of a host alone at rest

abbrev pub Shows : Type 0
Shows = (past : List Entry) (h : HostState) (n : ℕ) → Facts past h → numbers_of (accepted n past) ≡ numbers_for n past → waiting n past ≡ (node_of h n).waiting

held_if : (h : HostState) (records : Option (List (List ℕ))) → IsSome records → IsHeld h records → (texts : List (List ℕ)) × AreHeld h texts
held_if h None told held = absurd (let bad : false ≡ true = told in cc)
held_if h (Some texts) told held = (texts, held)

module _ (past : List Entry) (h : HostMachine) (knows : KnowsWhole Resting past h) (table : (n : ℕ) → IsTable listing_heard h.state.commands n past) (shows : Shows) where
  tables : TieTables past h.state h.records
  tables = knows.0.0.0.0.0.0

  known_is : (listing : List Entry → ℕ → List ℕ) (n : ℕ) → is_some (node_of h.state n).classes ≡ is_some (known_classes listing past n)
  known_is listing n = ap (λ (o : Option (List ℕ)). is_some o) (knows.0.0.0.1 n) ∙ (knows_if listing_heard past n ∙ sym (knows_if listing past n))

  waits : (n : ℕ) → waiting n past ≡ (node_of h.state n).waiting
  waits n = shows past h.state n tables.facts (table n).numbers

  pub blank : (n : ℕ) → is_joined past n ≡ false → IsBlank (node_of h.state n)
  blank n apart =
      let held = (held_if h.state h.records tables.told tables.held).1 in
      let has = held.holds.nodes n in
      let none = none_kept held.records held.legal n (sym has.joined ∙ (knows.0.1.joined n ∙ apart)) in
      let node : NodeState = node_of h.state n in
      let closed : open_session node.book ≡ None = none_open node.book (has.sessions ∙ ap (λ (l : List Session). commands_of l) none.none_begun) in
      record {
        unlisted = has.classes ∙ ap (λ (o : Option Interview). classes_said o) none.unlisted;
        idle = idle_closed node.series node closed (tables.facts.host.nodes.facts n).series;
        none_waits = has.waiting ∙ none.none_waits;
      }

  pub unasked : (n : ℕ) → is_joined past n ≡ false → waiting n past ≡ []
  unasked n apart = waits n ∙ (blank n apart).none_waits

  pub still_outside : (n : ℕ) → is_joined past n ≡ false → IsStill (node_of h.state n)
  still_outside n apart =
      let none = blank n apart in
      let node : NodeState = node_of h.state n in
      record {
        idle = none.idle;
        none_waits = none.none_waits;
        rests = unlisted_rests node.awake node.listens (is_some node.classes) (ap (λ (o : Option (List ℕ)). is_some o) none.unlisted);
      }

  pub still_inside : (listing : List Entry → ℕ → List ℕ) (n : ℕ) → NodeIsAsTold past h.state n → (node_of h.state n).series ≡ Idle → waiting n past ≡ [] → is_asleep_if_known listing past n ≡ true
      → IsStill (node_of h.state n)
  still_inside listing n told idle none asleep =
      let node : NodeState = node_of h.state n in
      record {
        idle = idle;
        none_waits = sym (waits n) ∙ none;
        rests = asleep_rests node.awake node.listens (is_some node.classes)
            (ap₂ (λ (a b : Bool). not (a && not b) || not (is_some node.classes)) told.awake told.listens_so
            ∙ (ap (λ (c : Bool). not (counts_awake n past && not (listens n past)) || not c) (known_is listing n) ∙ asleep));
      }
