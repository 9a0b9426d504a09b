-- What goes on with the tie of attempts where no request is submitted and none ends: entries that leave them, and events that leave the request.
use Rattle.std.proofs.Common.{◌≡◌, ℕ, ◌&&◌, ◌||◌, Bool, true, false, if◌then◌else◌, List, Option, Some, None, refl, sym, ap, ap₂, ◌∙◌, subst}
use Rattle.std.specs.Prelude.{IsSome, is_none, is_some}
use Rattle.std.proofs.lemmas.Bool.{eq-eqb}
use Rattle.supervision.specs.Host.{command_at as command_of_session, open_session}
use Rattle.host_keep.specs.Kept.{Taken}
use Rattle.host_orders.specs.Wrapping.{form_of}
use Rattle.host_orders.specs.declared.carriage.Carriage.{Carriage}
use Rattle.zw_text.specs.declared.entry.Entry.{Entry}
use Rattle.host_heard.specs.declared.told.Told.{Told}
use Rattle.law_transcript.specs.Units.{Carried}
use Rattle.law_time.specs.Attempts.{Attempts, ends_badly, is_late}
use Rattle.law_time.specs.Heeds.{Heeds}
use Rattle.law_time.specs.Requests.{asked}
use Rattle.host_requests.specs.declared.task.Purpose.{Purpose}
use Rattle.host_requests.specs.declared.under_way.UnderWay.{UnderWay}
use Rattle.host_node.specs.Facts.{NodeFacts, SeriesFacts}
use Rattle.host_node.specs.State.{NodeState, is_idle, is_running}
use Rattle.host_node.specs.Steps.{with_wait}
use Rattle.host_node.specs.declared.series.Series.{Series}
use Rattle.host_node.specs.declared.series.Series.TheVariants.{Idle, Due, Running}
use Rattle.host_model.specs.Facts.{HostFacts}
use Rattle.host_model.specs.State.{Command, HostState, command_at, node_of}
use Rattle.proof_host.specs.Tables.{taken_at, taken_by}
use Rattle.proof_queue.specs.proof_attempts.Attempts.{LastIs, has_ended_badly}
use Rattle.proof_queue.specs.proof_attempts.proof_requests.law_host.Heard.{heeds_alone}
use Rattle.proof_queue.proofs.Segments.{Shows}
use Rattle.proof_giving.specs.Told.{attempts_so_far}
use Rattle.proof_giving.specs.Stays.{KeepsSessions, ShowsSessions, Stays}
use Rattle.proof_giving.specs.Tie.{AttemptsAs, IsNoAbort, IsSealing, NodeSo, has_text, is_badly_over, is_for, signed}
use Rattle.proof_giving.proofs.Inner.{inner_kept, inner_told}

-- a series that is due or runs is of an open session
pub is_opened : (s : NodeState) → NodeFacts s → is_idle s.series ≡ false → (session : ℕ) × (open_session s.book ≡ Some session)
is_opened s facts busy = by (open_session s.book) refl (opens s.series busy facts.series)
  where
    opens : (x : Series) → is_idle x ≡ false → SeriesFacts x s.book s.attempt_wait s.again_wait s.next_segment s.segments s.text s.pending → IsSome (open_session s.book)
    opens Idle busy facts = absurd (let bad : true ≡ false = busy in cc)
    opens Due busy facts = facts.0.is_open
    opens Running busy facts = facts.0.is_open

    by : (o : Option ℕ) → open_session s.book ≡ o → IsSome (open_session s.book) → (session : ℕ) × (open_session s.book ≡ Some session)
    by (Some session) is some = (session, is)
    by None is some = absurd (let bad : false ≡ true = sym (ap (λ (o : Option ℕ). is_some o) is) ∙ some in cc)

-- of a series that is due or runs it matters whether the last request has ended badly, where that is of it
pub masked_so : (a : Attempts) (s : NodeState) (time : ℕ) (badly later : Bool) → (is_idle s.series ≡ false → (a.own && later) ≡ (a.own && badly)) → NodeSo a s time badly → NodeSo a s time later
masked_so a s time badly later same so = record { are = record { begun = so.are.begun; last = by s.series refl so.are.last }; sent = so.sent; text = so.text }
  where
    by : (x : Series) → s.series ≡ x → LastIs x s.book.attempts a s.attempt_wait time badly → LastIs x s.book.attempts a s.attempt_wait time later
    by Idle is last = tt
    by Due is last = λ some. ap (λ (b : Bool). is_late time a || b) (same (ap is_idle is)) ∙ last some
    by Running is last = record { not_over = last.not_over; sign = last.sign; not_badly = same (ap is_idle is) ∙ last.not_badly }

-- a sign leaves the series
pub signed_series : (b : Bool) (s : NodeState) → (signed b s).series ≡ s.series
signed_series true s = by (is_running s.series)
  where
    by : (r : Bool) → (if r then with_wait s 100 else s).series ≡ s.series
    by true = refl
    by false = refl
signed_series false s = refl

-- what has a text runs
pub texts_run : (s : NodeState) → NodeFacts s → has_text s ≡ true → s.series ≡ Running
texts_run s facts has = by s.series refl facts.series
  where
    nothing : s.text ≡ None → s.pending ≡ None → {A : Type 0} → A
    nothing no_text no_pending = absurd (let bad : false ≡ true = ap₂ (λ (o p : Option (List ℕ)). is_some o || is_some p) (sym no_text) (sym no_pending) ∙ has in cc)

    by : (x : Series) → s.series ≡ x → SeriesFacts x s.book s.attempt_wait s.again_wait s.next_segment s.segments s.text s.pending → s.series ≡ Running
    by Idle is facts = nothing facts.1.no_text facts.1.no_pending
    by Due is facts = nothing facts.2.no_text facts.2.no_pending
    by Running is facts = is

-- an order that is taken as before is carried as before
taken_found : (commands : List Command) (number : ℕ) (command : Command) → taken_at commands number ≡ Some (record { order = command.order; carriage = command.carriage })
    → (c : Command) × (command_at commands number ≡ Some c) × (c.carriage ≡ command.carriage)
taken_found commands number command is = by (command_at commands number) refl
  where
    by : (o : Option Command) → command_at commands number ≡ o → (c : Command) × (command_at commands number ≡ Some c) × (c.carriage ≡ command.carriage)
    by None none = absurd (let bad : ◌≡◌ {A = Option Taken} None (Some (record { order = command.order; carriage = command.carriage })) = sym (ap taken_by none) ∙ is in cc)
    by (Some c) some = (
      c,
      some,
      let both : Some (record { order = c.order; carriage = c.carriage }) ≡ Some (record { order = command.order; carriage = command.carriage }) = sym (ap taken_by some) ∙ is in
          let same : record { order = c.order; carriage = c.carriage } ≡ record { order = command.order; carriage = command.carriage } = cc in ap (λ (t : Taken). t.carriage) same,
    )

-- so the open session of a node that has a text is carried as it was
pub sealing_kept : (h g : HostState) (n : ℕ) → KeepsSessions h g n → HostFacts g → has_text (node_of g n) ≡ true → IsSealing h n → IsSealing g n
sealing_kept h g n keeps others has is =
    let opened = is_opened (node_of g n) (others.nodes.facts n) (ap is_idle (texts_run (node_of g n) (others.nodes.facts n) has)) in
    let same : is.session ≡ opened.0 = let a = is.opened in let c = keeps.opens opened.0 opened.1 in let both : Some is.session ≡ Some opened.0 = sym a ∙ c in cc in
    let found = taken_found g.commands is.number is.command (keeps.orders is.number is.command is.found ∙ ap taken_by is.found) in
    record {
      session = opened.0;
      opened = opened.1;
      number = is.number;
      carried = ap₂ (λ (l : List ℕ) (k : ℕ). command_of_session l k) keeps.commands (sym same) ∙ is.carried;
      command = found.0;
      found = found.1;
      form = ap (λ (c : Carriage). form_of c.outer) found.2 ∙ is.form;
    }

module _ (taken : List Entry → Carried → List Told) (n : ℕ) where
  abbrev heeds : Heeds
  heeds = heeds_alone taken

  abbrev so_far : List Entry → Attempts
  so_far past = attempts_so_far heeds n past

  pub shown : (past : List Entry) (h : HostState) → ShowsSessions heeds past h n → Shows past h n
  shown past h shows = record { sessions_are = shows.sessions_are; opened = shows.opened; last = shows.last; carried = shows.carried }

  module _ (past later : List Entry) (h g : HostState) (now : ℕ) (stays : Stays heeds n past later h g now) where
    -- with a session still open its frame is told to carry what others follow as before
    pub inners : is_idle (node_of g n).series ≡ false → (so_far past).own ≡ true → inner_told taken later n (asked later).frame ≡ inner_told taken past n (asked past).frame
    inners busy own =
        let opened = is_opened (node_of g n) (stays.others.nodes.facts n) busy in
        inner_kept taken past later h g n opened.0 (shown past h stays.shows) (shown later g stays.showing) stays.facts stays.others
        (record { commands = stays.keeps.commands; opens = stays.keeps.opens }) stays.keeps.orders opened.1 (asked later).frame
        ∙ ap (λ (l : List ℕ). inner_told taken past n l) (stays.frame own)

    -- so it has ended badly as before
    badly_same : is_idle (node_of g n).series ≡ false → ((so_far past).own && is_badly_over heeds n later g now) ≡ ((so_far past).own && is_badly_over heeds n past h now)
    badly_same busy = by (so_far past).own refl
      where
        ended : (so_far past).own ≡ true → (o : Option UnderWay) → h.requests.under_way ≡ o
            → (is_none g.requests.under_way && has_ended_badly heeds later (asked later) now n) ≡ (is_none h.requests.under_way && has_ended_badly heeds past (asked past) now n)
        ended own None is =
            ap₂ (λ (b c : Bool). b && c) stays.under.none
            (ap (λ (i : Bool). ends_badly (asked later) i now) (inners busy own) ∙ stays.ended own is (inner_told taken past n (asked past).frame))
        ended own (Some u) is =
            ap (λ (b : Bool). b && has_ended_badly heeds later (asked later) now n) (stays.under.none ∙ ap (λ (o : Option UnderWay). is_none o) is)
            ∙ sym (ap (λ (o : Option UnderWay). is_none o && has_ended_badly heeds past (asked past) now n) is)

        by : (b : Bool) → (so_far past).own ≡ b → (b && is_badly_over heeds n later g now) ≡ (b && is_badly_over heeds n past h now)
        by true own = ended own h.requests.under_way refl
        by false own = refl

    -- and the tie goes on with what the event makes of the node, where its entries leave the attempts, or these begin anew for a node that none runs of
    pub goes_as : (b c : Bool) (time next : ℕ) (a : Attempts) → so_far later ≡ a → (a.own ≡ true → (so_far past).own ≡ true) → ((node_of g n).series ≡ Running → a.own ≡ (so_far past).own)
        → AttemptsAs b heeds n past h time now
        → ((badly : Bool) → NodeSo (so_far past) (signed b (node_of h n)) time badly → NodeSo a (signed c (node_of g n)) next badly) → AttemptsAs c heeds n later g next now
    goes_as b c time next a told owned same so does = record {
      node = subst (λ (x : Attempts). NodeSo x (signed c (node_of g n)) next (is_badly_over heeds n later g now)) (sym told)
          (masked_so a (signed c (node_of g n)) next (is_badly_over heeds n past h now) (is_badly_over heeds n later g now)
          (λ busy. masked (sym (ap is_idle (signed_series c (node_of g n))) ∙ busy)) (does (is_badly_over heeds n past h now) so.node));
      own = λ runs u is.
          let (v, was, purpose) = stays.under.same u is in
          ap (λ (x : Attempts). x.own) told ∙ same runs ∙ so.own (stays.fewer.runs runs) v was ∙ ap (λ (p : Purpose). is_for n p) purpose;
      inner = λ runs u more payload is purpose_is.
          let (v, was, purpose) = stays.under.same u is in
          let mine : (so_far past).own ≡ true
          = so.own (stays.fewer.runs runs) v was ∙ ap (λ (p : Purpose). is_for n p) (purpose ∙ purpose_is) ∙ eq-eqb n n refl in
          inners (ap is_idle runs) mine ∙ so.inner (stays.fewer.runs runs) v more payload was (purpose ∙ purpose_is);
      sends = λ own. let was = owned (sym (ap (λ (x : Attempts). x.own) told) ∙ own) in subst IsNoAbort (sym (stays.frame was)) (so.sends was);
      seals = λ has. sealing_kept h g n stays.keeps stays.others has (so.seals (stays.fewer.seals has));
    }
      where
        masked : is_idle (node_of g n).series ≡ false → (a.own && is_badly_over heeds n later g now) ≡ (a.own && is_badly_over heeds n past h now)
        masked busy = by a.own refl
          where
            by : (o : Bool) → a.own ≡ o → (o && is_badly_over heeds n later g now) ≡ (o && is_badly_over heeds n past h now)
            by true is =
                ap (λ (o : Bool). o && is_badly_over heeds n later g now) (sym (owned is)) ∙ badly_same busy ∙ ap (λ (o : Bool). o && is_badly_over heeds n past h now) (owned is)
            by false is = refl

    pub goes_on : (b : Bool) (time : ℕ) → so_far later ≡ so_far past → AttemptsAs b heeds n past h time now
        → ((badly : Bool) → NodeSo (so_far past) (signed b (node_of h n)) time badly → NodeSo (so_far past) (signed b (node_of g n)) time badly) → AttemptsAs b heeds n later g time now
    goes_on b time left so does = goes_as b b time time (so_far past) left (λ is. is) (λ runs. refl) so does
