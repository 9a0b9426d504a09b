-- A node that can be reached by the transcript is reached by the chip's table and by the air, whose networks are those of the transcript.
use Rattle.std.proofs.Common.{◌≡◌, ℕ, IsTrue, inl, inr, true, List, refl, subst, ◌∙◌, arith}
use Rattle.std.specs.Prelude.{None}
use Rattle.std.specs.Ordering.{nat_cmp, is_le, ordering_reverse}
use Rattle.std.specs.declared.cmp.Ordering.{Ordering}
use Rattle.std.specs.declared.cmp.Ordering.TheVariants.{Less, Equal, Greater}
use Rattle.std.specs.Cmp.Lexicographic.{slice_cmp}
use Rattle.std.specs.FinMap.{nat_cmp-IsAntisymmetric, slice_cmp-IsAntisymmetric}
use Rattle.std.proofs.lemmas.Cmp.{nat_list_cmp_total}
use Rattle.zw_text.specs.declared.entry.Entry.{Entry}
use Rattle.route_table.specs.Network.{Network}
use Rattle.route_table.specs.Route.{via}
use Rattle.route_table.specs.Walk.{ComesFirst}
use Rattle.route_table.specs.declared.route.Route.{Route}
use Rattle.law_wire.specs.Networks.{air_network, chip_network}
use Rattle.law_wire.specs.Reach.{CanBeReached}
use Rattle.law_wire.specs.Routes.{IsRouteTo}
use Rattle.law_wire.specs.law_transcript.Nodes.{is_joined}
use Rattle.proof_rests.specs.proof_attempts.proof_host.device_sim.State.{State}
use Rattle.proof_chip.specs.proof_line.mesh_sim.Fates.{dead_hop}
use Rattle.proof_chip.specs.proof_line.outside_model.State.{Outside}
use Rattle.proof_chip.specs.proof_world.world_lines.chip_sim.Requests.{IsRoute}
use Rattle.proof_devices.specs.proof_routes.Networks.{Tie}
use Rattle.proof_devices.proofs.Walks.{IsSame, air_same, chip_same, route_same, same_turned, walk_same}
use Rattle.proof_in_time.specs.proof_answered.proof_calm.Live.{IsReached}
use Rattle.proof_in_time.proofs.Living.{live_way}

-- two walks of which neither comes after the other are one
level : (xs ys : List ℕ) (r : Ordering) → slice_cmp nat_cmp xs ys ≡ r → IsTrue (is_le r) → IsTrue (is_le (ordering_reverse r)) → xs ≡ ys
level xs ys Equal same le ge = slice_cmp-IsAntisymmetric nat_cmp-IsAntisymmetric xs ys same
level xs ys Less same le ge = absurd (no ge)
  where
    no : IsTrue (is_le (ordering_reverse Less)) → ⊥
    no h = cc
level xs ys Greater same le ge = absurd (no le)
  where
    no : IsTrue (is_le Greater) → ⊥
    no h = cc

one_walk : (xs ys : List ℕ) → ComesFirst xs ys → ComesFirst ys xs → xs ≡ ys
one_walk xs ys (inl fewer) (inl more) = absurd (omega (arith, fewer, more))
one_walk xs ys (inl fewer) (inr alike) = let same = alike.0 in absurd (omega (arith, fewer, same))
one_walk xs ys (inr alike) (inl fewer) = let same = alike.0 in absurd (omega (arith, fewer, same))
one_walk xs ys (inr alike) (inr back) =
    level xs ys (slice_cmp nat_cmp xs ys) refl alike.1 (subst (λ (o : Ordering). IsTrue (is_le o)) (nat_list_cmp_total.antisymm ys xs) back.1)

-- so each route to a node has the repeaters of that one
one_route : (table : Network) (n : ℕ) (repeaters : List ℕ) → IsRouteTo table n repeaters → (route : Route) → IsRoute table n route → repeaters ≡ via route
one_route table n repeaters first route is = one_walk repeaters (via route) (first.least (via route) is.walk) (is.least repeaters first.walk)

module _ (devices : List State) (past : List Entry) (w : Outside) (tie : Tie devices past w) (n : ℕ) where
  pub reached : is_joined past n ≡ true → CanBeReached devices past n → IsReached w.outer.chip.state.table w.outer.air.network n
  reached joined can = record {
    apart = λ same. let from = (tie.within n joined).0 in omega (arith, from, same);
    over = can.repeaters;
    walk = first.walk;
    live = λ route is. subst (λ (over : List ℕ). dead_hop w.outer.air.network 1 over n ≡ None) (one_route w.outer.chip.state.table n can.repeaters first route is) all_live;
    back = can.back;
    way = walk_same (air_network devices past) w.outer.air.network (same_turned w.outer.air.network (air_network devices past) air) n can.back can.way;
  }
    where
      air : IsSame w.outer.air.network (air_network devices past)
      air = air_same devices past w tie

      first : IsRouteTo w.outer.chip.state.table n can.repeaters
      first = route_same (chip_network devices past) w.outer.chip.state.table (same_turned w.outer.chip.state.table (chip_network devices past) (chip_same devices past w tie)) n can.repeaters can.route

      all_live : dead_hop w.outer.air.network 1 can.repeaters n ≡ None
      all_live = live_way (air_network devices past) w.outer.air.network (λ a b is. air.hears a b ∙ is) 1 can.repeaters n can.live
