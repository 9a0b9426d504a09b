-- What a line has asked for stays asked for, unless a refusal stands directly after it.
use Rattle.std.proofs.Common.{◌≡◌, ℕ, Bool, true, false, if◌then◌else◌, inl, inr, List, [], ◌∷◌, ◌++◌, refl, sym, ap, subst, append_assoc, append-nil}
use Rattle.std.specs.Prelude.{Option, unwrap_or}
use Rattle.std.specs.List.{flat_map}
use Rattle.zw_base.specs.declared.order.Word.{Word}
use Rattle.zw_text.specs.declared.line.Line.{Line}
use Rattle.zw_text.specs.declared.line.Line.TheVariants as lines
use Rattle.zw_text.specs.declared.entry.Entry.{Entry}
use Rattle.zw_text.specs.declared.entry.Entry.TheVariants.{Refused, Said}
use Rattle.zw_text.specs.Transcript.{line_of}
use Rattle.proof_air.specs.law_transcript.Lists.{Has}
use Rattle.proof_air.specs.law_transcript.Nodes.{host_list}
use Rattle.proof_air.specs.law_transcript.Payloads.{IsAskedFor, asked_by, asked_from}
use Rattle.proof_air.specs.law_transcript.Restarts.{begins_refused}
use Rattle.proof_air.specs.law_transcript.Units.{Carried}
use Rattle.proof_air.proofs.Having.{has_either, has_left, has_right}
use Rattle.host_orders.specs.Errands.{get_text, send_text}
use Rattle.host_orders.specs.Refusals.{classes_of}
use Rattle.host_model.specs.State.{HostState, node_of}
use Rattle.host_model.specs.May.{known_of}
use Rattle.proof_spoken.specs.Said.{KnowsListing}

pub refused_none : (rest told : List Entry) → begins_refused rest ≡ false → begins_refused told ≡ false → begins_refused (rest ++ told) ≡ false
refused_none [] told first later = later
refused_none (Refused refusal ∷ rest) told first later = absurd (let bad : true ≡ false = first in cc)
refused_none (entry ∷ rest) told first later = refl

module _ (listing : List Entry → ℕ → List ℕ) where
  -- what an entry asks for where this stands after it
  abbrev asked_at : List Entry → Entry → Bool → List Carried
  asked_at before entry refused = if refused then [] else flat_map (asked_by listing before) (line_of entry)

  at_stays : (before rest told : List Entry) (entry : Entry) (one : Carried) → begins_refused told ≡ false → Has (asked_at before entry (begins_refused rest)) one
      → Has (asked_at before entry (begins_refused (rest ++ told))) one
  at_stays before rest told entry one none has = by (begins_refused rest) refl has
    where
      by : (b : Bool) → begins_refused rest ≡ b → Has (asked_at before entry b) one → Has (asked_at before entry (begins_refused (rest ++ told))) one
      by true is here = absurd here
      by false is here = subst (λ (b : Bool). Has (asked_at before entry b) one) (sym (refused_none rest told is none)) here

  pub asked_stays : (before past told : List Entry) (one : Carried) → begins_refused told ≡ false → Has (asked_from listing before past) one → Has (asked_from listing before (past ++ told)) one
  asked_stays before [] told one none has = absurd has
  asked_stays before (entry ∷ rest) told one none has =
      let here : List Carried = asked_at before entry (begins_refused (rest ++ told)) in
      let later : List Carried = asked_from listing (before ++ entry ∷ []) (rest ++ told) in
      elim (has_either (asked_at before entry (begins_refused rest)) (asked_from listing (before ++ entry ∷ []) rest) one has) [
        | inl first ↦ has_left here later one (at_stays before rest told entry one none first)
        | inr more ↦ has_right here later one (asked_stays (before ++ entry ∷ []) rest told one none more)
      ]

  -- the line that was said last has asked for it
  asked_last : (before past : List Entry) (words : List ℕ) (one : Carried) → Has (flat_map (asked_by listing (before ++ past)) (line_of (Said words))) one
      → Has (asked_from listing before (past ++ Said words ∷ [])) one
  asked_last before [] words one has =
      has_left (flat_map (asked_by listing before) (line_of (Said words))) [] one
      (subst (λ (l : List Entry). Has (flat_map (asked_by listing l) (line_of (Said words))) one) (append-nil before) has)
  asked_last before (entry ∷ past) words one has =
      has_right (asked_at before entry (begins_refused (past ++ Said words ∷ []))) (asked_from listing (before ++ entry ∷ []) (past ++ Said words ∷ [])) one
      (asked_last (before ++ entry ∷ []) past words one
      (subst (λ (l : List Entry). Has (flat_map (asked_by listing l) (line_of (Said words))) one) (sym (append_assoc before (entry ∷ []) past)) has))

  asks : (past : List Entry) (words : List ℕ) (line : Line) (one : Carried) → line_of (Said words) ≡ line ∷ [] → Has (asked_by listing past line) one
      → IsAskedFor listing (past ++ Said words ∷ []) one
  asks past words line one read has =
      asked_last [] past words one
      (subst (λ (l : List Line). Has (flat_map (asked_by listing past) l) one) (sym read) (has_left (asked_by listing past line) [] one has))

  -- so it is of the text that the host makes, which knows what the transcript shows
  known_list : (past : List Entry) (h : HostState) (node : ℕ) → KnowsListing listing past h → host_list listing past node ≡ classes_of (known_of (node_of h node))
  known_list past h node knows = ap (λ (o : Option (List ℕ)). unwrap_or o []) (sym (knows node))

  pub send_asks : (past : List Entry) (words : List ℕ) (h : HostState) (node : ℕ) (word : Word) → KnowsListing listing past h → line_of (Said words) ≡ lines.Send node word ∷ []
      → IsAskedFor listing (past ++ Said words ∷ []) (record { node = node; payload = send_text (classes_of (known_of (node_of h node))) word })
  send_asks past words h node word knows read =
      subst (λ (l : List ℕ). IsAskedFor listing (past ++ Said words ∷ []) (record { node = node; payload = send_text l word })) (known_list past h node knows)
      (asks past words (lines.Send node word) (record { node = node; payload = send_text (host_list listing past node) word }) read (inl refl))

  pub get_asks : (past : List Entry) (words : List ℕ) (h : HostState) (node end : ℕ) → KnowsListing listing past h → line_of (Said words) ≡ lines.Get node end ∷ []
      → IsAskedFor listing (past ++ Said words ∷ []) (record { node = node; payload = get_text (classes_of (known_of (node_of h node))) end })
  get_asks past words h node end knows read =
      subst (λ (l : List ℕ). IsAskedFor listing (past ++ Said words ∷ []) (record { node = node; payload = get_text l end })) (known_list past h node knows)
      (asks past words (lines.Get node end) (record { node = node; payload = get_text (host_list listing past node) end }) read (inl refl))
