-- A host of `host` starts as a line `restart` after what hosts heard before, and goes on by its steps.
use Rattle.std.proofs.Common.{◌≡◌, ℕ, Bool, true, false, List, [], ◌∷◌, ◌++◌, refl, sym, ap, ◌∙◌, subst, append_assoc, append-nil}
use Rattle.std.specs.Prelude.{Option, Some, None, IfSome, IsSome, length}
use Rattle.zw_base.proofs.Each.{all-append}
use Rattle.s0_crypto.specs.declared.key_pair.Keys.{Keys}
use Rattle.zw_text.specs.declared.line.Line.TheVariants as lines
use Rattle.zw_text.specs.declared.entry.Entry.{Entry}
use Rattle.zw_text.specs.declared.entry.Entry.TheVariants.{Said}
use Rattle.host_keep.specs.Keeping.{OptAdds}
use Rattle.host_keep.specs.Legal.{AreTextsOf}
use Rattle.host_keep.specs.declared.record.Record.{Record}
use Rattle.port_run.specs.host_core.Network.{keys_of}
use Rattle.port_run.specs.host_core.Opening.{AreTold, Opens}
use Rattle.host_model.specs.State.{HostParts, HostState, first_host}
use Rattle.host_model.specs.Opening.{opened}
use Rattle.host_model.specs.declared.out.HostOut.{HostOut}
use Rattle.world_model.specs.State.{with_texts}
use Rattle.world_model.specs.Events.{OpensFrom}
use Rattle.port_run.specs.Steps.{Place, Step, Asks, Takes, Rests, Ticks, Pumps, AllRan}
use Rattle.run_replay.specs.Machine.{Lone, entries_of}
use Rattle.zw_words.specs.declared.side.Side.TheVariants.{Host}
use Rattle.law_wire.specs.Links.{KeepsLink}
use Rattle.law_wire.specs.Serial.{ended}
use Rattle.proof_asking.specs.proof_requests.law_host.Heard.{is_of_others}
use Rattle.proof_asking.specs.proof_requests.law_host.HostLegal.{IsLegalAlone}
use Rattle.proof_asking.specs.proof_requests.law_host.Notes.{Start, first_start}
use Rattle.proof_asking.specs.proof_requests.law_host.Starting.{IsLegalFrom, StartsFrom}
use Rattle.proof_asking.specs.proof_requests.proof_alone.Listening.{ListensAsTold}
use Rattle.proof_asking.specs.proof_requests.proof_alone.State.{HostMachine, first_alone, host_machine}
use Rattle.proof_asking.specs.proof_requests.proof_alone.Steps as step
use Rattle.proof_asking.specs.proof_requests.proof_alone.Phases.{Phase, Asked, Open, Resting}
use Rattle.proof_asking.specs.proof_requests.proof_alone.Runs.{Run}
use Rattle.proof_asking.specs.proof_requests.proof_alone.Runs.Run.{Begins}
use Rattle.proof_asking.specs.proof_requests.proof_alone.Careful.{CarefulRun, Fresh, Stage}
use Rattle.proof_asking.proofs.Carefully.{Leads, found, stepped}
use Rattle.proof_asking.specs.proof_known.Known.{AreSaidToHost, IsSaidToHost, KnowsRecords}
use Rattle.proof_asking.proofs.ForHost.{said_for_host}
use Rattle.proof_noting.specs.Starts.{HasStarted}
use Rattle.proof_replay.specs.HostSteps.{HaveHeard, HearsFrom, HearsMore, HearsRun, Holds, IsRunSteps, RanBefore, StartsAfter, restart_word, texts_told}
use Rattle.proof_replay.specs.Laws.{Agrees, HostsKeepLaws, IsHeardAlone}
use Rattle.proof_replay.specs.Linked.{KnowsLine}
use Rattle.proof_replay.proofs.Begun.{begun}
use Rattle.proof_replay.proofs.LineHeard.{HostsObey, first_rests, link_kept, open_kept, restart_line}
use Rattle.proof_replay.proofs.Serving.{none_added, pump_part, restart_is, steps_go}
use Rattle.proof_replay.proofs.Serving as serving
use Rattle.proof_replay.proofs.Started.{Started, started_leads, starts_anew}
use Rattle.proof_replay.proofs.Words.{never, run_said}

-- ---- records

agrees_on : (records held : Option (List (List ℕ))) (texts : List (List ℕ)) → Agrees records held → Agrees (with_texts records texts) (with_texts held texts)
agrees_on None held texts agrees = tt
agrees_on (Some kept) held texts agrees = ap (λ (o : Option (List (List ℕ))). with_texts o texts) agrees

agrees_first : (number : ℕ) (told held : Option (List (List ℕ))) → Holds number told held → Agrees told held
agrees_first number None held holds = tt
agrees_first number (Some texts) held holds = holds

holds_last : (many : ℕ) (told held : Option (List (List ℕ))) → IsSome told → Agrees told held → Holds many told held
holds_last many None held some agrees = let bad : false ≡ true = some in absurd cc
holds_last many (Some texts) held some agrees = agrees

-- ---- the host that starts

-- nothing was heard before a host that starts from these records
abbrev pub ran_none : HostsObey → (keys : Keys) (number : ℕ) (told held : Option (List (List ℕ))) → Holds number told held → RanBefore (first_alone keys held) keys number told []
ran_none obey keys number told held holds =
    record { held = held; state = first_host keys; clock = 0; awaits = false; run = Begins; careful = tt; line = first_rests obey keys; holds = holds; said = tt }

-- so it is where the keeper holds nothing
pub none_before : HostsObey → (keys : Keys) (number : ℕ) (told : Option (List (List ℕ))) → Holds number told (Some []) → HaveHeard keys number told []
none_before obey keys number told holds = ran_none obey keys number told (Some []) holds

none_of : (records : List Record) → length records ≡ 0 → AreTextsOf records []
none_of [] none = tt
none_of (one ∷ more) none = cc

texts_held : (number : ℕ) (told held : Option (List (List ℕ))) (records : List Record) → Holds number told held → length records ≡ number → AreTold records told
    → (texts : List (List ℕ)) × (held ≡ Some texts) × AreTextsOf records texts
texts_held number None held records holds many are = ([], holds.1, none_of records (many ∙ holds.0))
texts_held number (Some texts) held records holds many are = (texts, holds, are)

-- ---- what it hears

-- the records that are told are those that are held
holds_texts : (number : ℕ) (told held : Option (List (List ℕ))) (texts : List (List ℕ)) → Holds number told held → held ≡ Some texts → texts_told told ≡ texts
holds_texts number None held texts holds same = let both : Some [] ≡ Some texts = sym holds.1 ∙ same in cc
holds_texts number (Some told) held texts holds same = let both : Some told ≡ Some texts = sym holds ∙ same in cc

-- with a network key they are legal over all of it
legal_for : ((key : List ℕ) (whole : Bool) (heard : List Entry) (told : Option (List (List ℕ))) → IsHeardAlone (keys_of key) whole heard told → IsLegalAlone key first_start whole heard told)
    → (keys : Keys) (whole : Bool) (heard : List Entry) (told : Option (List (List ℕ))) → IsHeardAlone keys whole heard told → (key : List ℕ) → keys ≡ keys_of key
    → IsLegalAlone key first_start whole heard told
legal_for legal_so keys whole heard told alone key same = legal_so key whole heard told (subst (λ (k : Keys). IsHeardAlone k whole heard told) same alone)

-- and from its start
abbrev LegalSince : Keys → List Entry → List ℕ → List (List ℕ) → Bool → List Entry → Option (List (List ℕ)) → Type 0
LegalSince keys before key records whole heard told =
    (alone : IsHeardAlone keys whole (before ++ heard) told) → HasStarted before records alone.run.0 → IsLegalFrom key records whole heard told

since_start : ((key : List ℕ) (records : List (List ℕ)) (from : Start) → StartsFrom records from → (whole : Bool) (heard : List Entry) (told : Option (List (List ℕ)))
    → (alone : IsHeardAlone (keys_of key) whole (from.before ++ heard) told) → HasStarted from.before records alone.run.0 → IsLegalFrom key records whole heard told)
    → (keys : Keys) (before : List Entry) (key : List ℕ) (records : List (List ℕ)) → keys ≡ keys_of key → StartsAfter before records → (whole : Bool) (heard : List Entry)
    (told : Option (List (List ℕ))) → LegalSince keys before key records whole heard told
since_start legal_from keys before key records same (from, starts, is) whole heard told =
    subst (λ (k : Keys). LegalSince k before key records whole heard told) (sym same)
    (subst (λ (l : List Entry). LegalSince (keys_of key) l key records whole heard told) is (legal_from key records from starts whole heard told))

-- ---- from any records

module _ (obey : HostsObey) (start : HostMachine) (keys : Keys) (number : ℕ) (told : Option (List (List ℕ))) (past : List Entry) (before : RanBefore start keys number told past) (place : Place)
    (opens : Opens keys number told place.host) (adds : OptAdds told place.shelf.records []) where
  abbrev restarted : List Entry
  restarted = past ++ Said restart_word ∷ []

  -- the records that are held
  held_texts : (texts : List (List ℕ)) × (before.held ≡ Some texts) × AreTextsOf opens.records texts
  held_texts = texts_held number told before.held opens.records before.holds opens.many opens.are

  abbrev Led : Stage → Phase → List Entry → HostMachine → Type 0
  Led stage here all m = Started start restarted held_texts.0 stage here all m

  leads : Leads Led
  leads = started_leads start restarted held_texts.0

  opened_from : OpensFrom keys before.held (opened keys opens.records)
  opened_from = subst (λ (o : Option (List (List ℕ))). OpensFrom keys o (opened keys opens.records)) (sym held_texts.1) (opens.records, held_texts.2, opens.legal, refl)

  told_texts : texts_told place.shelf.records ≡ held_texts.0
  told_texts = ap texts_told (none_added told place.shelf.records adds) ∙ holds_texts number told before.held held_texts.0 before.holds held_texts.1

  agrees_held : Agrees place.shelf.records before.held
  agrees_held = subst (λ (r : Option (List (List ℕ))). Agrees r before.held) (sym (none_added told place.shelf.records adds)) (agrees_first number told before.held before.holds)

  pub held_told : before.held ≡ Some (texts_told place.shelf.records)
  held_told = held_texts.1 ∙ ap (λ (texts : List (List ℕ)). Some texts) (sym told_texts)

  abbrev pub at_start : HostMachine
  at_start = host_machine keys before.held place.host.state [] before.clock 0 false

  started : Led Fresh Open restarted at_start
  started =
      let state : HostState = opened keys opens.records in
      let said : CarefulRun start Fresh (Asked lines.Restart) restarted (host_machine keys before.held before.state [] before.clock 0 false) =
      stepped (step.Says restart_word lines.Restart) (refl, refl, restart_is, refl) (tt, tt) refl refl refl (found before.run before.careful) in
      let there : Led Fresh Open restarted (host_machine keys before.held state [] before.clock 0 false) =
      starts_anew start restarted held_texts.0 Fresh (host_machine keys before.held before.state [] before.clock 0 false) state (refl, opened_from, refl) held_texts.1 said restarted
      (sym (append-nil restarted)) in
      subst (λ (h : HostParts). Led Fresh Open restarted (host_machine keys before.held h.state [] before.clock 0 false)) (sym opens.state) there

  pub started_run : Run start Open restarted at_start
  started_run = started.run

  started_line : KnowsLine restarted before.clock 0 place.host.state
  started_line =
      subst (λ (h : HostParts). KnowsLine restarted before.clock 0 h.state) (sym opens.state)
      (restart_line obey past before.awaits before.clock before.state before.line restart_word (opened keys opens.records) restart_is (obey.opened keys opens.records))

  all_said : (heard : List Entry) → AreSaidToHost heard → AreSaidToHost (restarted ++ heard)
  all_said heard said =
      subst AreSaidToHost (sym (append_assoc past (Said restart_word ∷ []) heard)) (all-append IsSaidToHost past (Said restart_word ∷ heard) before.said (ap is_of_others restart_is, said))

  -- it was heard, and the host is here
  hears_so : (whole : Bool) (steps : List Step) (last : Place) (heard : List Entry) (stage : Stage) (here : Phase) (m : HostMachine) → HearsRun before.clock steps place last heard → AreSaidToHost heard
      → (run : Led stage here (restarted ++ heard) m) → (whole ≡ true → (here ≡ Resting) × (m.left ≡ 0)) → (whole ≡ true → Agrees last.shelf.records m.records)
      → KeepsLink Host (ended whole (restarted ++ heard)) → (whole ≡ true → (many : ℕ) → IsSome last.shelf.records → RanBefore start keys many last.shelf.records (restarted ++ heard))
      → HearsFrom start keys past before.clock whole steps place last
  hears_so whole steps last heard stage here m hears said run rests agrees link next = record {
    heard = heard;
    hears = hears;
    here = here;
    last = m;
    run = (run.run, run.careful);
    has = subst (λ (texts : List (List ℕ)). HasStarted restarted texts run.run) (sym told_texts) run.has;
    rests = rests;
    agrees = agrees;
    for_host = said_for_host (restarted ++ heard) (all_said heard said);
    link = link;
    next = next;
  }

  -- where it came to rest
  rested_so : (whole : Bool) (steps : List Step) (last : Place) (heard : List Entry) (m : Lone) → IsRunSteps whole steps → HearsRun before.clock steps place last heard
      → serving.Rests0 Led leads keys Agrees agrees_on obey (restarted ++ heard) m → (whole ≡ true → m.records ≡ last.shelf.records) → HearsFrom start keys past before.clock whole steps place last
  rested_so whole steps last heard m orderly hears (awaits, stage, (held, agrees, run, line)) records =
      let said : AreSaidToHost heard = run_said before.clock whole steps place last heard orderly hears in
      let told_so : whole ≡ true → Agrees last.shelf.records held = λ is. subst (λ (r : Option (List (List ℕ))). Agrees r held) (records is) agrees in
      hears_so whole steps last heard stage Resting (host_machine keys held m.host.state [] m.clock 0 awaits) hears said run (λ is. (refl, refl)) told_so
      (link_kept obey whole (restarted ++ heard) awaits m.clock m.host.state line)
      (λ is many some. record {
        held = held;
        state = m.host.state;
        clock = m.clock;
        awaits = awaits;
        run = run.run;
        careful = run.careful;
        line = line;
        holds = holds_last many last.shelf.records held some (told_so is);
        said = all_said heard said;
      })

  pub hears_from : (whole : Bool) (steps : List Step) (last : Place) (outs : List HostOut) → IsRunSteps whole steps → AllRan steps place last outs
      → HearsFrom start keys past before.clock whole steps place last
  hears_from whole [] last outs none ran =
      let not_whole : whole ≡ true → ⊥ = λ is. never (sym none ∙ is) in
      hears_so whole [] last [] Fresh Open at_start (ran.0, refl) tt (subst (λ (l : List Entry). Led Fresh Open l at_start) (sym (append-nil restarted)) started) (λ is. absurd (not_whole is))
      (λ is. absurd (not_whole is))
      (subst (λ (l : List Entry). KeepsLink Host (ended whole l)) (sym (append-nil restarted))
      (subst (λ (b : Bool). KeepsLink Host (ended b restarted)) (sym none) (open_kept obey restarted before.clock 0 place.host.state started_line)))
      (λ is many some. absurd (not_whole is))
  hears_from whole (Pumps ∷ steps) last outs orderly (mid, first, later, pumped, more, are) =
      let (heard, hears, m, rests, records) =
      steps_go Led leads keys Agrees agrees_on obey whole steps (restarted ++ entries_of first) before.clock mid last later orderly more
      (pump_part Led leads keys Agrees agrees_on obey Fresh restarted before.clock place mid first pumped (before.held, agrees_held, started, started_line)) in
      rested_so whole (Pumps ∷ steps) last (entries_of first ++ heard) m orderly (mid, first, heard, pumped, hears, refl)
      (subst (λ (l : List Entry). serving.Rests0 Led leads keys Agrees agrees_on obey l m) (append_assoc restarted (entries_of first) heard) rests) records
  hears_from whole (Asks line answer ∷ steps) last outs orderly ran = absurd orderly
  hears_from whole (Takes bytes ∷ steps) last outs orderly ran = absurd orderly
  hears_from whole (Rests ∷ steps) last outs orderly ran = absurd orderly
  hears_from whole (Ticks ∷ steps) last outs orderly ran = absurd orderly

-- ---- from those that hosts left

module _ (laws : (keys : Keys) (whole : Bool) (heard : List Entry) (told : Option (List (List ℕ))) → IsHeardAlone keys whole heard told → HostsKeepLaws keys whole heard told)
    (legal_so : (key : List ℕ) (whole : Bool) (heard : List Entry) (told : Option (List (List ℕ))) → IsHeardAlone (keys_of key) whole heard told → IsLegalAlone key first_start whole heard told)
    (legal_from : (key : List ℕ) (records : List (List ℕ)) (from : Start) → StartsFrom records from → (whole : Bool) (heard : List Entry) (told : Option (List (List ℕ)))
    → (alone : IsHeardAlone (keys_of key) whole (from.before ++ heard) told) → HasStarted from.before records alone.run.0 → IsLegalFrom key records whole heard told)
    (recorded : (keys : Keys) (heard : List Entry) (m : HostMachine) → Run (first_alone keys (Some [])) Open heard m → IfSome m.records (KnowsRecords heard m.state))
    (listening : (keys : Keys) (here : Phase) (heard : List Entry) (m : HostMachine) → Run (first_alone keys (Some [])) here heard m → ListensAsTold heard m.state)
    (obey : HostsObey) (keys : Keys) (number : ℕ) (told : Option (List (List ℕ))) (past : List Entry) (before : HaveHeard keys number told past) (place : Place) (opens : Opens keys number told place.host)
    (adds : OptAdds told place.shelf.records []) where
  abbrev first : HostMachine
  first = first_alone keys (Some [])

  abbrev here_started : List Entry
  here_started = past ++ Said restart_word ∷ []

  -- what stood before shows what the records give
  starts_so : StartsAfter here_started (texts_told place.shelf.records)
  starts_so =
      begun past (texts_told place.shelf.records) place.host.state
      (subst (λ (o : Option (List (List ℕ))). IfSome o (KnowsRecords here_started place.host.state)) (held_told obey first keys number told past before place opens adds)
      (recorded keys here_started (at_start obey first keys number told past before place opens adds) (started_run obey first keys number told past before place opens adds)))
      (listening keys Open here_started (at_start obey first keys number told past before place opens adds) (started_run obey first keys number told past before place opens adds))

  -- over what they heard, and this one by itself, the laws hold
  more_so : (whole : Bool) (steps : List Step) (last : Place) → HearsFrom first keys past before.clock whole steps place last → HearsMore keys past before.clock whole steps place last
  more_so whole steps last from =
      let records : Option (List (List ℕ)) = last.shelf.records in
      let all_heard : here_started ++ from.heard ≡ past ++ Said restart_word ∷ from.heard = append_assoc past (Said restart_word ∷ []) from.heard in
      let alone : IsHeardAlone keys whole (here_started ++ from.heard) records = record {
        here = from.here;
        last = from.last;
        run = from.run;
        rests = from.rests;
        agrees = from.agrees;
        for_host = from.for_host;
        link = from.link;
      } in
      record {
        heard = from.heard;
        hears = from.hears;
        keeps = subst (λ (l : List Entry). HostsKeepLaws keys whole l records) all_heard (laws keys whole (here_started ++ from.heard) records alone);
        legal = λ key same.
            subst (λ (l : List Entry). IsLegalAlone key first_start whole l records) all_heard (legal_for legal_so keys whole (here_started ++ from.heard) records alone key same);
        starts = starts_so;
        legal_from = λ key same. since_start legal_from keys here_started key (texts_told place.shelf.records) same starts_so whole from.heard records alone from.has;
        next = λ is many some. subst (λ (l : List Entry). HaveHeard keys many records l) all_heard (from.next is many some);
      }

  pub hears_more : (whole : Bool) (steps : List Step) (last : Place) (outs : List HostOut) → IsRunSteps whole steps → AllRan steps place last outs
      → HearsMore keys past before.clock whole steps place last
  hears_more whole steps last outs orderly ran = more_so whole steps last (hears_from obey first keys number told past before place opens adds whole steps last outs orderly ran)
