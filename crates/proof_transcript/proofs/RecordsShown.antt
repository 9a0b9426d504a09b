-- What the records of a host give is what the transcript shows.
use Rattle.std.proofs.Common.{◌≡◌, ℕ, ◌==◌, ◌||◌, Bool, true, false, if◌then◌else◌, List, map, Option, Some, None, refl, sym, ap, ◌∙◌}
use Rattle.std.specs.Prelude.{is_some, filter}
use Rattle.zw_text.specs.declared.entry.Entry.{Entry}
use Rattle.zw_text.specs.Transcript.{outcome, shown}
use Rattle.law_host.specs.law_transcript.Commands.{is_waiting}
use Rattle.law_host.specs.law_transcript.Nodes.{first_node, is_interviewed, is_joined}
use Rattle.law_host.specs.law_transcript.Records.{Shows, ShowsNode, cancelled_at, final_of}
use Rattle.host_keep.specs.Kept.{Interview, Kept, Taken, classes_said, node_of as kept_of_node}
use Rattle.proof_air.specs.host_model.State.{HostState, node_of}
use Rattle.proof_air.specs.host_model.Holding.{Holds}
use Rattle.proof_air.specs.proof_host.Facts.{AreShown, Facts}
use Rattle.proof_air.specs.proof_host.Laws.{HostLaws}
use Rattle.proof_spoken.specs.proof_once.ByTable.{IsTable}
use Rattle.proof_spoken.specs.Said.{AreSaid, KnowsListing}
use Rattle.proof_transcript.proofs.EndedRecords.{node_ended}
use Rattle.proof_transcript.proofs.OrderRecords.{orders_are}

-- a node is known to have classes where it was interviewed, and node 2 from the start
said_so : (interview : Option Interview) → is_some (classes_said interview) ≡ is_some interview
said_so None = refl
said_so (Some interview) = refl

known_so : (interviewed first : Bool) (told at_first : List ℕ) → is_some (if interviewed then Some told else (if first then Some at_first else None)) ≡ (interviewed || first)
known_so true first told at_first = refl
known_so false true told at_first = refl
known_so false false told at_first = refl

module _ (listing : List Entry → ℕ → List ℕ) (past : List Entry) (h : HostState) (kept : Kept) (facts : Facts past h) (holds : Holds h kept) (laws : HostLaws past) (tables : AreShown past h)
    (joined : (node : ℕ) → (node_of h node).joined ≡ is_joined past node) (knows : KnowsListing listing past h) (said : AreSaid listing h.commands past)
    (by_table : (node : ℕ) → IsTable listing h.commands node past) (cancelled : kept.cancelled ≡ shown cancelled_at past) where
  node_shown : (n : ℕ) → ShowsNode past n (kept_of_node kept n)
  node_shown n =
      let begun = sym (holds.nodes n).sessions ∙ tables.sessions_are n in
      record {
        joined = sym (holds.nodes n).joined ∙ joined n;
        interviewed = sym (said_so (kept_of_node kept n).interview)
            ∙ (ap (λ (o : Option (List ℕ)). is_some o) (sym (holds.nodes n).classes ∙ knows n) ∙ known_so (is_interviewed past n) (n == first_node) (listing past n) _);
        waits = sym (holds.nodes n).waiting
            ∙ (tables.waiting n ∙ ap (λ (l : List ℕ). filter (λ number. is_waiting (outcome number past)) l) (sym (by_table n).numbers));
        begun = begun;
        ended = node_ended past h kept facts.host holds tables n ∙ ap (λ (l : List ℕ). map (λ number. final_of (outcome number past)) l) begun;
      }

  pub shows : Shows past kept
  shows = record {
    orders = ap (λ (l : List Taken). map (λ taken. taken.order) l) (sym holds.commands) ∙ orders_are listing h.commands past said laws.accepts facts.accepted.count;
    cancelled = cancelled;
    nodes = node_shown;
  }
