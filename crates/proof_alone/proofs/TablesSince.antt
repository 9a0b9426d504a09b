-- The tables of a host alone from a start from records, whatever these are.
use Rattle.std.proofs.Common.{ℕ, List, [], ◌++◌, refl, sym, ap, ◌∙◌, subst, append_assoc}
use Rattle.std.specs.Prelude.{Option, Some, IsSome}
use Rattle.s0_crypto.specs.declared.key_pair.Keys.{Keys}
use Rattle.zw_text.specs.declared.entry.Entry.{Entry}
use Rattle.law_host.specs.law_transcript.Answers.{MayCancel}
use Rattle.law_host.specs.law_transcript.Lists.{EachAfter}
use Rattle.law_host.specs.law_transcript.Sessions.{MayBegin}
use Rattle.host_keep.specs.Kept.{first_kept, kept_of}
use Rattle.host_keep.specs.Legal.{AreLegal}
use Rattle.host_keep.specs.declared.record.Record.{Record}
use Rattle.proof_line.specs.host_model.State.{HostState}
use Rattle.proof_line.specs.host_model.Holding.{Holds, HoldsAlone}
use Rattle.proof_line.specs.host_model.Opening.{opened}
use Rattle.proof_line.specs.proof_host.Facts.{Facts}
use Rattle.proof_line.specs.proof_host.Laws.{HostLaws, MayStand}
use Rattle.proof_line.specs.proof_host.RecordsTold.{TellRecords}
use Rattle.proof_line.specs.Restarts.{AreHeld, IsHeld}
use Rattle.proof_line.specs.world_model.Events.{OpensFrom}
use Rattle.proof_line.proofs.Lists.{each-append, each-weaker}
use Rattle.proof_line.proofs.Runs.{opens_asks}
use Rattle.proof_alone.specs.State.{HostMachine}
use Rattle.proof_alone.specs.Phases.{Phase}
use Rattle.proof_alone.specs.Runs.{Run, Walk, both_know}
use Rattle.proof_alone.specs.Answering.{AsOrdered, MayAnswer}
use Rattle.proof_alone.specs.Starts.{FactsFrom, HasStarted, KeepsTablesSince, KnownThere, Since, TellsTexts}
use Rattle.proof_alone.specs.Tables.{KnowsTables}
use Rattle.proof_alone.specs.Words.{KnowsWords}
use Rattle.proof_alone.proofs.Answering.{answers_walk}
use Rattle.proof_alone.proofs.Carrying.{carries_once}
use Rattle.proof_alone.proofs.InOrder.{none_to_come}
use Rattle.proof_alone.proofs.Running.{over}
use Rattle.proof_alone.proofs.Since.{since_start}
use Rattle.proof_alone.proofs.Tabling.{rest_stands}

-- the facts of entries that tell legal records, and of the host that opens from them
abbrev pub TellingHolds : Type 0
TellingHolds = (keys : Keys) (records : List Record) (told : List Entry) → AreLegal records → TellRecords first_kept records told → Facts told (opened keys records)

facts_from : TellingHolds → (texts : List (List ℕ)) (told : List Entry) → TellsTexts texts told → FactsFrom texts told
facts_from holds texts told tells keys state (records, are, legal, is) =
    subst (λ (h : HostState). Facts told h) (sym is) (holds keys records told legal (tells records are legal))

module _ (opened_holds : (keys : Keys) (records : List Record) → AreLegal records → HoldsAlone (opened keys records) (kept_of records)) where
  -- a host that opens from records has what they give
  held_from : (keys : Keys) (texts : List (List ℕ)) (state : HostState) → OpensFrom keys (Some texts) state → AreHeld state texts
  held_from keys texts state (records, are, legal, is) = record {
    records = records;
    are = are;
    legal = legal;
    holds = subst (λ (h : HostState). Holds h (kept_of records)) (sym is) (opened_holds keys records legal).holds;
  }

  tables_there : (start : HostMachine) (texts : List (List ℕ)) (story before : List Entry) → FactsFrom texts (story ++ before) → KnownThere (both_know KnowsTables KnowsWords) start story before texts
  tables_there start texts story before facts m state run opens are =
      let from : OpensFrom m.keys (Some texts) state = subst (λ (r : Option (List (List ℕ))). OpensFrom m.keys r state) are opens in
      let told : IsSome m.records = subst IsSome (sym are) refl in (
        (
          record {
            facts = facts m.keys state from;
            held = subst (λ (r : Option (List (List ℕ))). IsHeld state r) (sym are) (held_from m.keys texts state from);
            asks = opens_asks m.keys m.records state told opens;
            told = told;
          },
          none_to_come,
        ),
        tt,
      )

  module _ (tables : Walk MayStand KnowsTables) (laws : (past : List Entry) (h : HostState) → Facts past h → HostLaws past) (telling : TellingHolds) where
    pub tables_since : (start : HostMachine) (texts : List (List ℕ)) (story before : List Entry) → TellsTexts texts (story ++ before) → EachAfter AsOrdered [] (story ++ before)
        → (here : Phase) (told : List Entry) (m : HostMachine) → (run : Run start here told m) → HasStarted before texts run → KeepsTablesSince story before here told m
    tables_since start texts story before tells ordered here told m run has = record {
      heard = got.heard;
      split = got.split;
      cancels = each-weaker MayAnswer MayCancel (λ past e may. may.cancel) (story ++ before) got.heard got.lawful;
      sessions = each-weaker MayStand MayBegin (λ past e may. may.begin) (story ++ before) got.heard (rest_stands [] (story ++ before) got.heard all_facts.stand);
      carries = λ node.
          carries_once node ((story ++ before) ++ got.heard) (laws ((story ++ before) ++ got.heard) m.state all_facts)
          (each-append AsOrdered [] (story ++ before) got.heard ordered (each-weaker MayAnswer AsOrdered (λ past e may. may.order) (story ++ before) got.heard got.lawful));
      tables = got.known.0;
    }
      where
        got : Since MayAnswer (both_know KnowsTables KnowsWords) story before here told m
        got =
            since_start MayAnswer (both_know KnowsTables KnowsWords) (over KnowsTables MayStand MayAnswer KnowsWords tables answers_walk) start story before texts
            (tables_there start texts story before (facts_from telling texts (story ++ before) tells)) run has

        all_facts : Facts ((story ++ before) ++ got.heard) m.state
        all_facts =
            subst (λ (l : List Entry). Facts l m.state) (ap (λ (l : List Entry). story ++ l) got.split ∙ sym (append_assoc story before got.heard)) got.known.0.0.facts
