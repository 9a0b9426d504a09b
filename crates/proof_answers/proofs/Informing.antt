-- Through entries that show neither a line, nor its refusal, nor that a frame is heard, the information of a node stays what it is.
use Rattle.std.proofs.Common.{◌≡◌, ℕ, ◌==◌, Bool, true, false, if◌then◌else◌, List, [], ◌∷◌, ◌++◌, map, filter, refl, sym, ap, ap₂, ◌∙◌, subst, inl, inr, append_assoc, append-nil}
use Rattle.std.specs.Prelude.{Option, Some, None}
use Rattle.std.specs.List.{AllByRecursion, list_any}
use Rattle.route_table.specs.Network.{Link, Network}
use Rattle.route_table.specs.Walk.{Walk}
use Rattle.zw_text.specs.declared.line.Line.{Line}
use Rattle.zw_text.specs.declared.entry.Entry.{Entry}
use Rattle.zw_text.specs.declared.entry.Entry.TheVariants as entry
use Rattle.zw_text.specs.Transcript.{joined, line_of}
use Rattle.law_transcript.specs.Devices.{ComingAt, brought, brought_at}
use Rattle.law_transcript.specs.Nodes.{device_of}
use Rattle.law_transcript.specs.Restarts.{begins_refused}
use Rattle.law_wire.specs.Arriving.{lived_through}
use Rattle.law_wire.specs.Networks.{air_links, air_network, links_after, listens_at, network_of}
use Rattle.law_wire.specs.Given.{CanTell, IsAwakeAt, IsInformation}
use Rattle.outside_model.specs.Devices.{State}
use Rattle.proof_devices.proofs.Books.{air_grows, joined_grows}
use Rattle.proof_devices.specs.proof_routes.Knowing.{joins_in}
use Rattle.proof_chip.proofs.Picking.{shown_both}
use Rattle.proof_answers.specs.Owing.{Ends, Informs, Owed, come}
use Rattle.proof_answers.specs.Telling.{Alike, IsLike}

-- neither words of a line nor a refusal, and no frame is heard
abbrev pub IsCalm : Entry → Type 0
IsCalm (entry.Said words) = ⊥
IsCalm (entry.Refused refusal) = ⊥
IsCalm (entry.Heard frame) = ⊥
IsCalm e = Unit {0}

calm_line : (e : Entry) → IsCalm e → line_of e ≡ []
calm_line (entry.Said words) calm = absurd calm
calm_line e calm = refl

calm_keeps : (e : Entry) → IsCalm e → begins_refused (e ∷ []) ≡ false
calm_keeps (entry.Refused refusal) calm = absurd calm
calm_keeps e calm = refl

calm_brings : (node : ℕ) (past : List Entry) (e : Entry) → IsCalm e → brought_at node past e ≡ []
calm_brings node past (entry.Said words) calm = absurd calm
calm_brings node past (entry.Heard frame) calm = absurd calm
calm_brings node past e calm = refl

-- two transcripts that tell the same of what information depends on
pub record SameAbout (one other : List Entry) : Type 0 where
  pub links : air_links one ≡ air_links other
  pub nodes : joined one ≡ joined other
  pub had : (node : ℕ) → brought node one ≡ brought node other

same_about : (one other : List Entry) → one ≡ other → SameAbout one other
same_about one other is = record { links = ap air_links is; nodes = ap joined is; had = λ node. ap (brought node) is }

about_then : (a b c : List Entry) → SameAbout a b → SameAbout b c → SameAbout a c
about_then a b c first later = record { links = first.links ∙ later.links; nodes = first.nodes ∙ later.nodes; had = λ node. first.had node ∙ later.had node }

pub about_back : (a b : List Entry) → SameAbout a b → SameAbout b a
about_back a b same = record { links = sym same.links; nodes = sym same.nodes; had = λ node. sym (same.had node) }

calm_one : (past : List Entry) (e : Entry) → IsCalm e → SameAbout (past ++ e ∷ []) past
calm_one past e calm = record {
  links = air_grows past e ∙ ap (λ (l : List Line). links_after (air_links past) l) (calm_line e calm);
  nodes = joined_grows past e (inl (calm_keeps e calm)) ∙ (ap (λ (l : List Line). joined past ++ joins_in l) (calm_line e calm) ∙ append-nil (joined past));
  had = λ node.
      shown_both (brought_at node) [] past (e ∷ [])
      ∙ (ap (λ (l : List ComingAt). brought node past ++ (l ++ [])) (calm_brings node past e calm) ∙ append-nil (brought node past));
}

pub calm_about : (told past : List Entry) → AllByRecursion IsCalm told → SameAbout (past ++ told) past
calm_about [] past calm = same_about (past ++ []) past (append-nil past)
calm_about (e ∷ told) past calm =
    about_then (past ++ e ∷ told) ((past ++ e ∷ []) ++ told) past (same_about (past ++ e ∷ told) ((past ++ e ∷ []) ++ told) (sym (append_assoc past (e ∷ []) told)))
    (about_then ((past ++ e ∷ []) ++ told) (past ++ e ∷ []) past (calm_about told (past ++ e ∷ []) calm.1) (calm_one past e calm.0))

-- ---- information

module _ (devices : List State) where
  awake_as : (ticks : ℕ) (one other : List Entry) → SameAbout one other → (found : Option State) → IsAwakeAt ticks one found → IsAwakeAt ticks other found
  awake_as ticks one other same None awake = absurd awake
  awake_as ticks one other same (Some device) awake = subst (λ (l : List ComingAt). (lived_through 0 ticks l device).awake ≡ true) (same.had device.node) awake

  network_as : (one other : List Entry) → SameAbout one other → air_network devices one ≡ air_network devices other
  network_as one other same = ap₂ (λ (links : List Link) (nodes : List ℕ). network_of links (filter (listens_at devices) nodes)) same.links same.nodes

  can_as : (node ticks : ℕ) (one other : List Entry) → SameAbout one other → CanTell devices node ticks one → CanTell devices node ticks other
  can_as node ticks one other same can = record {
    joined = ap (λ (l : List ℕ). list_any (λ (n : ℕ). n == node) l) (sym same.nodes) ∙ can.joined;
    way = can.way;
    route = subst (λ (net : Network). Walk net node can.way) (network_as one other same) can.route;
    awake = awake_as ticks one other same (device_of node devices) can.awake;
  }

  informs_as : (node ticks : ℕ) (one other : List Entry) → SameAbout one other → (unit : List ℕ) → IsInformation devices node ticks one unit → IsInformation devices node ticks other unit
  informs_as node ticks one other same unit (inl (can, is)) = inl (can_as node ticks one other same can, is)
  informs_as node ticks one other same unit (inr (cannot, is)) = inr (λ can. cannot (can_as node ticks other one (about_back one other same) can), is)

  like_come : (one other : List Entry) → SameAbout one other → (owed : Owed) → IsLike devices (come one owed) (come other owed)
  like_come one other same (Ends called) = record { there = λ unit is. is; back = λ unit is. is }
  like_come one other same (Informs node ticks) = record { there = informs_as node ticks one other same; back = informs_as node ticks other one (about_back one other same) }

  pub alike_come : (one other : List Entry) → SameAbout one other → (all : List Owed) → Alike devices (map (come one) all) (map (come other) all)
  alike_come one other same [] = tt
  alike_come one other same (owed ∷ all) = (like_come one other same owed, alike_come one other same all)

  number_calm : (b : Bool) (clock : ℕ) → AllByRecursion IsCalm (if b then entry.Time clock ∷ [] else [])
  number_calm true clock = (tt, tt)
  number_calm false clock = tt

  -- before the number of a tick it is what it is with that
  pub informs_back : (node ticks : ℕ) (past : List Entry) (b : Bool) (clock : ℕ) (unit : List ℕ) → IsInformation devices node ticks (past ++ (if b then entry.Time clock ∷ [] else [])) unit → IsInformation devices node ticks past unit
  informs_back node ticks past b clock unit is =
      let told : List Entry = if b then entry.Time clock ∷ [] else [] in informs_as node ticks (past ++ told) past (calm_about told past (number_calm b clock)) unit is

  pub informs_on : (node ticks : ℕ) (past : List Entry) (b : Bool) (clock : ℕ) (unit : List ℕ) → IsInformation devices node ticks past unit → IsInformation devices node ticks (past ++ (if b then entry.Time clock ∷ [] else [])) unit
  informs_on node ticks past b clock unit is =
      let told : List Entry = if b then entry.Time clock ∷ [] else [] in
      informs_as node ticks past (past ++ told) (about_back (past ++ told) past (calm_about told past (number_calm b clock))) unit is
