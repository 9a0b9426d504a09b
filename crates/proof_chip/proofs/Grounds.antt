-- What other walks tell is the ground of the law of what goes on the air: where bytes move, clock, joined nodes and ways of the chip are those of the transcript, once
-- the number of the tick is entered.
use Rattle.std.proofs.Common.{◌≡◌, ◌≤◌, ℕ, Bool, true, false, if◌then◌else◌, List, [], ◌∷◌, ◌++◌, reverse, inl, inr, refl, sym, ap, ◌∙◌, subst, append-nil, arith}
use Rattle.std.specs.List.{AllByRecursion}
use Rattle.route_table.specs.Network.{Network}
use Rattle.chip_sim.specs.Nodes.{is_marked}
use Rattle.zw_text.specs.declared.entry.Entry.{Entry}
use Rattle.zw_text.specs.declared.entry.Entry.TheVariants as entry
use Rattle.law_transcript.specs.Nodes.{controller, is_joined}
use Rattle.law_wire.specs.Asked.{clock_of}
use Rattle.law_wire.specs.Networks.{chip_network}
use Rattle.law_wire.specs.Routes.{GoesHome, HasNoRoute}
use Rattle.outside_model.specs.Devices.{State}
use Rattle.outside_model.specs.Events.{ticked_entry}
use Rattle.world_model.specs.State.{Machine}
use Rattle.proof_air.specs.proof_walk.Outside.{awaits_number}
use Rattle.proof_air.specs.Landing.{Landed}
use Rattle.proof_air.proofs.SentBefore.{number_clock}
use Rattle.proof_routes.specs.Networks.{Tie}
use Rattle.proof_routes.proofs.Books.{same_joined}
use Rattle.proof_routes.proofs.Walks.{IsSame, chip_same, home_same, route_same, same_turned}
use Rattle.proof_chip.specs.Knowing.{SameNodes}
use Rattle.proof_chip.specs.Sending.{Agrees, TieWays}
use Rattle.proof_chip.proofs.Passing.{ShowsNone, network_all, shown_all}

-- ---- the number of the tick

abbrev number : Bool → ℕ → List Entry
number awaits clock = if awaits then entry.Time clock ∷ [] else []

number_shows : (awaits : Bool) (clock : ℕ) → AllByRecursion ShowsNone (number awaits clock)
number_shows true clock = ((tt, refl), tt)
number_shows false clock = tt

clock_at : (awaits : Bool) (past : List Entry) (clock : ℕ) → clock_of past ≤ clock → (awaits ≡ false → clock_of past ≡ clock) → clock_of (past ++ number awaits clock) ≡ clock
clock_at true past clock begun now = number_clock past clock begun
clock_at false past clock begun now = ap clock_of (append-nil past) ∙ now refl

-- ---- ways

-- a node without a way by one network has none by another in which the same nodes hear each other
none_same : (one other : Network) → IsSame one other → (node : ℕ) → HasNoRoute one node → HasNoRoute other node
none_same one other same node none = by (home_same one other same node [] (inr (none, refl)))
  where
    by : GoesHome other node [] → HasNoRoute other node
    by (inl route) = absurd (none (reverse []) (route_same other one (same_turned one other same) node (reverse []) route).walk)
    by (inr (no_way, shown)) = no_way

not_within : (past : List Entry) → ((node : ℕ) → is_joined past node ≡ true → (2 ≤ node) × (node ≤ 232)) → is_joined past controller ≡ false
not_within past within = by (is_joined past controller) refl
  where
    by : (b : Bool) → is_joined past controller ≡ b → is_joined past controller ≡ false
    by false is = is
    by true is = absurd (let low = (within controller is).0 in omega (arith, low))

-- ---- all of it

module _ (devices : List State) (past : List Entry) (m : Machine) (tie : Tie devices past m.outside) (same : SameNodes m.outside.outer) where
  abbrev told : List Entry
  told = ticked_entry m.outside.outer

  shows : AllByRecursion ShowsNone told
  shows = number_shows (awaits_number m.outside.outer) m.outside.outer.clock

  joins : (node : ℕ) → is_joined (past ++ told) node ≡ is_joined past node
  joins = same_joined (past ++ told) past (shown_all told past shows)

  ways : TieWays devices (past ++ told) m.outside.outer.chip.state.table
  ways = record {
    blocked = λ node none.
        subst (λ (net : Network). HasNoRoute net node) (sym (network_all devices told past shows))
        (none_same m.outside.outer.chip.state.table (chip_network devices past) (chip_same devices past m.outside tie) node none);
    home = joins controller ∙ not_within past tie.within;
  }

  pub agrees_of : Landed past m → Agrees devices (past ++ told) m.outside.outer
  agrees_of landed = record {
    clock = clock_at (awaits_number m.outside.outer) past m.outside.outer.clock landed.sent.0.begun landed.sent.0.now;
    joined = λ node. ap (λ (l : List Bool). is_marked l node) same ∙ tie.joined node ∙ sym (joins node);
    ways = ways;
  }
