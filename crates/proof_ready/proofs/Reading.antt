-- What the transcript says of the nodes at work in a stretch, one by one.
use Rattle.std.proofs.Common.{◌≡◌, ◌⊎◌, ℕ, suc, ◌≤◌, ◌<◌, ◌==◌, ◌&&◌, ◌||◌, not, nat_le, Bool, true, false, if◌then◌else◌, List, [], ◌∷◌, ◌++◌, length, arith, inl, inr, refl, sym, ap, ap₂, subst, ◌∙◌}
use Rattle.std.proofs.lemmas.Bool.{and_parts, cases_lt, eq-eqb, eqb-true, false≢true, le-leb}
use Rattle.std.specs.Prelude.{Option, Some, None, bytes_eq, filter}
use Rattle.std.specs.List.{AllByRecursion, flat_map, list_all, list_any}
use Rattle.chip_sim.specs.Nodes.{is_marked}
use Rattle.device_kinds.specs.Kind.{listens as kind_listens}
use Rattle.zw_text.specs.declared.entry.Entry.{Entry}
use Rattle.zw_text.specs.Transcript.{joined, lines_run, shown}
use Rattle.law_wire.specs.law_transcript.Commands.{classes_for, waiting}
use Rattle.law_wire.specs.law_transcript.Lists.{Has}
use Rattle.law_wire.specs.law_transcript.Nodes.{always, controller, device_of, first_node, is_interviewed, is_joined, known_at_first, known_classes, listing_of}
use Rattle.law_wire.specs.Networks.{air_links, air_network, chip_links, chip_network, is_listener, listens_at, network_of, repeaters}
use Rattle.law_wire.specs.Reach.{CanBeReached}
use Rattle.law_wire.specs.Routes.{IsRouteTo}
use Rattle.route_table.specs.Network.{Network}
use Rattle.route_table.specs.Walk.{Hops, Walk}
use Rattle.law_time.specs.Calm.{IsStill, has_judged_all, is_asleep_if_known, is_idle, is_not_working, is_stalled}
use Rattle.law_time.specs.Interviews.{listens}
use Rattle.law_time.specs.Judged.{acknowledged, frames_come}
use Rattle.law_time.specs.Questions.{same_bool}
use Rattle.law_time.specs.Requests.{are_none}
use Rattle.law_time.specs.Stretches.{accepted_for, are_listed, are_plain_listeners, commands_in, has_key, is_alone, is_plain_listener, is_plain_sleeper, is_quiet, is_quiet_line, is_sleeper_alone, is_woken_so, is_long_enough, is_time, knows_classes, knows_device, knows_node, lists_a_layer, lists_security, open_commands, waited, woken_by, workers}
use Rattle.proof_rests.specs.proof_attempts.proof_host.device_sim.State.{State}
use Rattle.proof_rests.specs.proof_attempts.proof_walk.proof_device.GoingOn.{AreSame}
use Rattle.proof_in_time.specs.proof_answered.Sleepers.{IsAlone}
use Rattle.proof_in_time.specs.proof_answered.Workers.{IsAway}
use Rattle.proof_in_time.proofs.JudgedOutcomes.{same_device, same_listing}
use Rattle.proof_ready.specs.Ease.{clock_of}
use Rattle.proof_ready.specs.Ready.{AreByFit, AreFit, AreKnown, AreSo, AreWorkers, HostIsStill, Listeners, Locked_one, OneSleeps, One_alone, Open_one, Plain_ones, Sleeper, marks_of}
use Rattle.proof_ready.proofs.Marks.{marked_is, unmarked_beyond}
use Rattle.proof_ready.proofs.OneOpen.{device_known, sleeper_plain}

-- ---- lists

-- what is so of all is so of one
pub of_one : (so : ℕ → Bool) (l : List ℕ) (n : ℕ) → list_all so l ≡ true → list_any (λ one. one == n) l ≡ true → so n ≡ true
of_one so [] n all has = absurd (false≢true has)
of_one so (one ∷ more) n all has = by (one == n) refl has (of_one so more n (and_parts (so one) (list_all so more) all).1)
  where
    by : (b : Bool) → (one == n) ≡ b → b || list_any (λ one. one == n) more ≡ true → (list_any (λ one. one == n) more ≡ true → so n ≡ true) → so n ≡ true
    by true same has later = subst (λ (k : ℕ). so k ≡ true) (eqb-true one n same) (and_parts (so one) (list_all so more) all).0
    by false other has later = later has

-- those of a list of which something is so
pub in_filter : (so : ℕ → Bool) (l : List ℕ) (n : ℕ) → list_any (λ one. one == n) (filter so l) ≡ true → (list_any (λ one. one == n) l ≡ true) × (so n ≡ true)
in_filter so [] n has = absurd (false≢true has)
in_filter so (one ∷ more) n has = pick (so one) (one == n) refl refl has (in_filter so more n)
  where
    pick : (b c : Bool) → so one ≡ b → (one == n) ≡ c → list_any (λ k. k == n) (if b then one ∷ filter so more else filter so more) ≡ true
        → (list_any (λ k. k == n) (filter so more) ≡ true → (list_any (λ k. k == n) more ≡ true) × (so n ≡ true)) → ((one == n) || list_any (λ k. k == n) more ≡ true) × (so n ≡ true)
    pick true true is same has rest = (ap (λ (b : Bool). b || list_any (λ k. k == n) more) same, subst (λ (k : ℕ). so k ≡ true) (eqb-true one n same) is)
    pick true false is other has rest =
        let later = rest (sym (ap (λ (b : Bool). b || list_any (λ k. k == n) (filter so more)) other) ∙ has) in
        (ap (λ (b : Bool). b || list_any (λ k. k == n) more) other ∙ later.0, later.1)
    pick false true is same has rest = (ap (λ (b : Bool). b || list_any (λ k. k == n) more) same, (rest has).1)
    pick false false is other has rest = let later = rest has in (ap (λ (b : Bool). b || list_any (λ k. k == n) more) other ∙ later.0, later.1)

pub out_filter : (so : ℕ → Bool) (l : List ℕ) (n : ℕ) → list_any (λ one. one == n) (filter so l) ≡ false → list_any (λ one. one == n) l ≡ true → so n ≡ false
out_filter so [] n none has = absurd (false≢true has)
out_filter so (one ∷ more) n none has = pick (so one) (one == n) refl refl none has (out_filter so more n)
  where
    pick : (b c : Bool) → so one ≡ b → (one == n) ≡ c → list_any (λ k. k == n) (if b then one ∷ filter so more else filter so more) ≡ false → (one == n) || list_any (λ k. k == n) more ≡ true
        → (list_any (λ k. k == n) (filter so more) ≡ false → list_any (λ k. k == n) more ≡ true → so n ≡ false) → so n ≡ false
    pick true true is same none has rest = absurd (false≢true (sym none ∙ ap (λ (b : Bool). b || list_any (λ k. k == n) (filter so more)) same))
    pick true false is other none has rest =
        rest (sym (ap (λ (b : Bool). b || list_any (λ k. k == n) (filter so more)) other) ∙ none) (sym (ap (λ (b : Bool). b || list_any (λ k. k == n) more) other) ∙ has)
    pick false true is same none has rest = subst (λ (k : ℕ). so k ≡ false) (eqb-true one n same) is
    pick false false is other none has rest = rest none (sym (ap (λ (b : Bool). b || list_any (λ k. k == n) more) other) ∙ has)

pub some_of : (l : List ℕ) → not (are_none l) ≡ true → (command : ℕ) × Has l command
some_of [] some = absurd (false≢true some)
some_of (command ∷ more) some = (command, inl refl)

none_before : (waits more : List ℕ) → not (are_none (waits ++ more)) ≡ false → waits ≡ []
none_before [] more none = refl
none_before (command ∷ waits) more none = absurd (false≢true (sym none))

-- a list of one
pub one_alone : (l : List ℕ) → (length l == 1) ≡ true → (n : ℕ) × (l ≡ n ∷ [])
one_alone [] one = absurd (false≢true one)
one_alone (n ∷ []) one = (n, refl)
one_alone (n ∷ other ∷ more) one = absurd (let many : suc (suc (length more)) ≡ 1 = eqb-true (length (n ∷ other ∷ more)) 1 one in omega (arith, many))

third_of : (a b c d : Bool) → a && b && c && d ≡ true → c ≡ true
third_of true true true d all = refl
third_of true true false d all = absurd (let bad : false ≡ true = all in cc)
third_of true false c d all = absurd (let bad : false ≡ true = all in cc)
third_of false b c d all = absurd (let bad : false ≡ true = all in cc)

fourth_of : (a b c d : Bool) → a && b && c && d ≡ true → d ≡ true
fourth_of true true true d all = all
fourth_of true true false d all = absurd (let bad : false ≡ true = all in cc)
fourth_of true false c d all = absurd (let bad : false ≡ true = all in cc)
fourth_of false b c d all = absurd (let bad : false ≡ true = all in cc)

first_of : (a b c d : Bool) → a && b && c && d ≡ true → a ≡ true
first_of true b c d all = refl
first_of false b c d all = absurd (let bad : false ≡ true = all in cc)

pub not_so : (b : Bool) → not b ≡ true → b ≡ false
not_so true none = absurd (false≢true none)
not_so false none = refl

-- ---- all is still

pub still_host : (listing : List Entry → ℕ → List ℕ) (now : List State) (past : List Entry) → IsStill listing now past (clock_of past) → HostIsStill listing past
still_host listing now past still = record {
  rest = still.host;
  idle = λ n is. of_one (λ node. is_idle past (clock_of past) node) (joined past) n still.idle is;
  asleep = λ n is. of_one (λ node. is_asleep_if_known listing past node) (joined past) n still.asleep is;
}

pub all_away : (these : List Bool) (devices : List State) → list_all is_not_working devices ≡ true → AllByRecursion (IsAway these) devices
all_away these [] none = tt
all_away these (device ∷ devices) none =
    let both = and_parts (is_not_working device) (list_all is_not_working devices) none in
    (λ other. eqb-true device.work_left 0 both.0, all_away these devices both.1)

-- no stall lasts where the host has judged all
pub moves : (past : List Entry) → has_judged_all past (clock_of past) ≡ true → is_stalled past (clock_of past) ≡ false
moves past judged = not_so (is_stalled past (clock_of past)) (and_parts (not (is_stalled past (clock_of past))) (acknowledged past == length (frames_come past)) judged).0

-- a node that is none of these is not joined, where each that is joined is one
pub not_joined : (these : List Bool) (past : List Entry) (n : ℕ) → (is_joined past n ≡ true → is_marked these n ≡ true) → is_marked these n ≡ false → is_joined past n ≡ false
not_joined these past n is apart = by (is_joined past n) refl
  where
    by : (b : Bool) → is_joined past n ≡ b → is_joined past n ≡ false
    by true joined = absurd (false≢true (sym apart ∙ is joined))
    by false unjoined = unjoined

-- ---- devices that are the same

listed_so : (past : List Entry) (n : ℕ) (olds news : List State) → listing_of news n ≡ listing_of olds n
    → are_listed news n (known_classes (always (listing_of news)) past n) ≡ are_listed olds n (known_classes (always (listing_of olds)) past n)
listed_so past n olds news same = by (is_interviewed past n) (known_at_first n)
  where
    by : (b : Bool) (o : Option (List ℕ)) → are_listed news n (if b then Some (listing_of news n) else o) ≡ are_listed olds n (if b then Some (listing_of olds n) else o)
    by true o = ap (λ (l : List ℕ). bytes_eq l l) same
    by false None = refl
    by false (Some classes) = ap (λ (l : List ℕ). bytes_eq classes l) same

-- what is known with the devices as they are is known with them as they were
pub known_before : (these : List Bool) (past : List Entry) (olds news : List State) → AreSame olds news → AreKnown these news past → AreKnown these olds past
known_before these past olds news same known n marked =
    let now = known n marked in
    let listing : listing_of news n ≡ listing_of olds n = same_listing n olds news same in
    record {
      device = sym (same_device (λ (o : Option State). knows_device olds n past o) (λ old new is. ap (λ k. same_bool (listens n past) (kind_listens k)) is.kind) n olds news same)
          ∙ (any_device olds news past n (device_of n news) ∙ now.device);
      classes = sym (listed_so past n olds news listing) ∙ now.classes;
    }
  where
    any_device : (olds news : List State) (past : List Entry) (n : ℕ) (o : Option State) → knows_device olds n past o ≡ knows_device news n past o
    any_device olds news past n None = refl
    any_device olds news past n (Some device) = refl

same_layers : (olds news : List State) → AreSame olds news → (n : ℕ) → lists_a_layer olds n ≡ lists_a_layer news n
same_layers olds news same n = ap (λ (l : List ℕ). list_any (λ class. (class == 0x55) || (class == 0x98)) l) (sym (same_listing n olds news same))

same_security : (olds news : List State) → AreSame olds news → (n : ℕ) → lists_security olds n ≡ lists_security news n
same_security olds news same n = ap (λ (l : List ℕ). list_any (λ class. class == 0x98) l) (sym (same_listing n olds news same))

so_before : (these : List Bool) (past : List Entry) (olds news : List State) → AreSame olds news → AreSo these news past → AreSo these olds past
so_before these past olds news same (Plain_ones plain) = Plain_ones (λ n marked. same_layers olds news same n ∙ plain n marked)
so_before these past olds news same (Open_one one layered unsealed) = Open_one one (same_layers olds news same one.node ∙ layered) (same_security olds news same one.node ∙ unsealed)
so_before these past olds news same (Locked_one one sealed) = Locked_one one (same_security olds news same one.node ∙ sealed)

filter_same : (so other : ℕ → Bool) → ((n : ℕ) → so n ≡ other n) → (l : List ℕ) → filter so l ≡ filter other l
filter_same so other same [] = refl
filter_same so other same (one ∷ more) = ap₂ (λ (b : Bool) (l : List ℕ). if b then one ∷ l else l) (same one) (filter_same so other same more)

same_repeaters : (past : List Entry) (olds news : List State) → AreSame olds news → repeaters news past ≡ repeaters olds past
same_repeaters past olds news same =
    filter_same (listens_at news) (listens_at olds)
    (λ n. ap (λ (b : Bool). (n == first_node) || b) (same_device is_listener (λ old new is. ap kind_listens is.kind) n olds news same)) (joined past)

-- so a node that is reached with the one is reached with the other
pub reached_before : (past : List Entry) (olds news : List State) → AreSame olds news → (n : ℕ) → CanBeReached news past n → CanBeReached olds past n
reached_before past olds news same n can =
    let nodes = same_repeaters past olds news same in
    let air : air_network news past ≡ air_network olds past = ap (λ (l : List ℕ). network_of (air_links past) l) nodes in
    let chip : chip_network news past ≡ chip_network olds past = ap (λ (l : List ℕ). network_of (chip_links past) l) nodes in
    record {
      repeaters = can.repeaters;
      route = subst (λ (net : Network). IsRouteTo net n can.repeaters) chip can.route;
      live = subst (λ (net : Network). Hops net controller can.repeaters n) air can.live;
      back = can.back;
      way = subst (λ (net : Network). Walk net n can.back) air can.way;
    }

all_of_one : (So : ℕ → Type 0) (l : List ℕ) (n : ℕ) → AllByRecursion So l → list_any (λ one. one == n) l ≡ true → So n
all_of_one So [] n all has = absurd (false≢true has)
all_of_one So (one ∷ more) n all has = by (one == n) refl has (all_of_one So more n all.1)
  where
    by : (b : Bool) → (one == n) ≡ b → b || list_any (λ k. k == n) more ≡ true → (list_any (λ k. k == n) more ≡ true → So n) → So n
    by true same has later = subst So (eqb-true one n same) all.0
    by false other has later = later has

-- ---- the nodes at work

module _ (key : List ℕ) (devices : List State) (past stretch : List Entry) (quiet : is_quiet key devices past stretch ≡ true) (are_fit : AreFit devices past stretch)
    (within : (n : ℕ) → is_joined past n ≡ true → n ≤ 232) where
  abbrev these : List Bool
  these = marks_of (workers past stretch)

  pub at_work : (n : ℕ) → is_marked these n ≡ true → list_any (λ one. one == n) (workers past stretch) ≡ true
  at_work n marked = by (cases_lt n 233)
    where
      by : (n < 233) ⊎ (233 ≤ n) → list_any (λ one. one == n) (workers past stretch) ≡ true
      by (inl near) = sym (marked_is (workers past stretch) n (omega (arith, near))) ∙ marked
      by (inr far) = absurd (false≢true (sym (unmarked_beyond (workers past stretch) n far) ∙ marked))

  pub quiet_so : list_all is_quiet_line (lines_run stretch) ≡ true
  quiet_so =
      first_of (list_all is_quiet_line (lines_run stretch)) (nat_le (length (workers past stretch)) 16) (list_all (λ node. knows_node key devices past node) (workers past stretch))
      (list_all (is_woken_so past stretch) (joined past ++ flat_map woken_by (lines_run stretch))) quiet

  pub woken_so : list_all (is_woken_so past stretch) (joined past ++ flat_map woken_by (lines_run stretch)) ≡ true
  woken_so =
      fourth_of (list_all is_quiet_line (lines_run stretch)) (nat_le (length (workers past stretch)) 16) (list_all (λ node. knows_node key devices past node) (workers past stretch))
      (list_all (is_woken_so past stretch) (joined past ++ flat_map woken_by (lines_run stretch))) quiet

  knows : (n : ℕ) → is_marked these n ≡ true → knows_node key devices past n ≡ true
  knows n marked =
      of_one (λ node. knows_node key devices past node) (workers past stretch) n
      (third_of (list_all is_quiet_line (lines_run stretch)) (nat_le (length (workers past stretch)) 16) (list_all (λ node. knows_node key devices past node) (workers past stretch))
      (list_all (is_woken_so past stretch) (joined past ++ flat_map woken_by (lines_run stretch))) quiet) (at_work n marked)

  pub plain_listener : are_plain_listeners devices past stretch ≡ true → (n : ℕ) → is_marked these n ≡ true → (listens n past ≡ true) × (not (lists_a_layer devices n) ≡ true)
  plain_listener listeners n marked =
      and_parts (listens n past) (not (lists_a_layer devices n)) (of_one (λ node. is_plain_listener devices past node) (workers past stretch) n listeners (at_work n marked))

  plain_sleeper : is_sleeper_alone devices past stretch ≡ true → (n : ℕ) → is_marked these n ≡ true → (not (listens n past) ≡ true) × (not (lists_a_layer devices n) ≡ true)
  plain_sleeper sleeper n marked =
      and_parts (not (listens n past)) (not (lists_a_layer devices n))
      (of_one (λ node. is_plain_sleeper devices past node) (workers past stretch) n
      (and_parts (is_alone past stretch) (list_all (is_plain_sleeper devices past) (workers past stretch)) sleeper).1 (at_work n marked))

  joined_one : (n : ℕ) → is_marked these n ≡ true → is_joined past n ≡ true
  joined_one n marked = (in_filter (λ node. not (are_none (commands_in past stretch node))) (joined past) n (at_work n marked)).0

  -- where one node is at work, it is marked alone
  alone_is : (node : ℕ) → workers past stretch ≡ node ∷ [] → IsAlone these node
  alone_is node is =
      let here : list_any (λ one. one == node) (workers past stretch) ≡ true = ap (λ (l : List ℕ). list_any (λ one. one == node) l) is ∙ ap (λ (b : Bool). b || false) (eq-eqb node node refl) in
      let there : is_joined past node ≡ true = (in_filter (λ one. not (are_none (commands_in past stretch one))) (joined past) node here).0 in
      record {
        marked = marked_is (workers past stretch) node (within node there) ∙ here;
        only = λ k marked. only k (node == k) refl (sym (ap (λ (l : List ℕ). list_any (λ one. one == k) l) is) ∙ at_work k marked);
      }
    where
      only : (k : ℕ) (b : Bool) → (node == k) ≡ b → b || false ≡ true → k ≡ node
      only k true same has = sym (eqb-true node k same)
      only k false other has = absurd (false≢true has)

  hear : ((n : ℕ) → is_marked these n ≡ true → listens n past ≡ true) ⊎ OneSleeps these past
  hear = by are_fit
    where
      one_hears : (n : ℕ) → IsAlone these n → (b : Bool) → listens n past ≡ b → ((k : ℕ) → is_marked these k ≡ true → listens k past ≡ true) ⊎ OneSleeps these past
      one_hears n alone true hears = inl (λ k marked. subst (λ (j : ℕ). listens j past ≡ true) (sym (alone.only k marked)) hears)
      one_hears n alone false sleeps = inr (record { node = n; alone = alone; sleeps = sleeps })

      by : AreFit devices past stretch → ((n : ℕ) → is_marked these n ≡ true → listens n past ≡ true) ⊎ OneSleeps these past
      by (Listeners listeners) = inl (λ n marked. (plain_listener listeners n marked).0)
      by (Sleeper sleeper) =
          let one = one_alone (workers past stretch) (and_parts (is_alone past stretch) (list_all (is_plain_sleeper devices past) (workers past stretch)) sleeper).0 in
          let alone = alone_is one.0 one.1 in
          inr (record { node = one.0; alone = alone; sleeps = not_so (listens one.0 past) (plain_sleeper sleeper one.0 alone.marked).0 })
      by (One_alone alone_so) =
          let one = one_alone (workers past stretch) alone_so in
          one_hears one.0 (alone_is one.0 one.1) (listens one.0 past) refl

  -- so they are, with the devices as they were at first
  pub are_so : (olds : List State) → AreSame olds devices → AreByFit these olds devices past stretch are_fit
  are_so olds same = by are_fit
    where
      one_so : (n : ℕ) → workers past stretch ≡ n ∷ [] → (b s c : Bool) → listens n past ≡ b → lists_security devices n ≡ s → lists_a_layer devices n ≡ c → AreSo these devices past
      one_so n one true true c hears sealed is = Locked_one (record { node = n; alone = alone_is n one; hears = hears }) sealed
      one_so n one true false true hears unsealed layered = Open_one (record { node = n; alone = alone_is n one; hears = hears }) layered unsealed
      one_so n one true false false hears unsealed plain = Plain_ones (λ k marked. subst (λ (j : ℕ). lists_a_layer devices j ≡ false) (sym ((alone_is n one).only k marked)) plain)
      one_so n one false s c sleeps sealed is =
          let alone = alone_is n one in
          let has =
          device_known devices past n false sleeps
          (third_of (is_joined past n) (has_key key (device_of n devices)) (knows_device devices n past (device_of n devices)) (knows_classes devices past n) (knows n alone.marked)) in
          Plain_ones (λ k marked. subst (λ (j : ℕ). lists_a_layer devices j ≡ false) (sym (alone.only k marked)) (sleeper_plain devices n has.0 has.1.0 has.1.1))

      by : (fit : AreFit devices past stretch) → AreByFit these olds devices past stretch fit
      by (Listeners listeners) = λ n marked. same_layers olds devices same n ∙ not_so (lists_a_layer devices n) (plain_listener listeners n marked).1
      by (Sleeper sleeper) = λ n marked. same_layers olds devices same n ∙ not_so (lists_a_layer devices n) (plain_sleeper sleeper n marked).1
      by (One_alone alone_so) =
          let one = one_alone (workers past stretch) alone_so in
          so_before these past olds devices same (one_so one.0 one.1 (listens one.0 past) (lists_security devices one.0) (lists_a_layer devices one.0) refl refl refl)

  pub workers_are : AreWorkers these past
  workers_are = record {
    joined = joined_one;
    hear = hear;
    others = λ n apart is.
        none_before (waiting n past) (shown (accepted_for n) stretch)
        (out_filter (λ node. not (are_none (commands_in past stretch node))) (joined past) n (sym (marked_is (workers past stretch) n (within n is)) ∙ apart) is);
  }

  lists_known : (n : ℕ) → is_marked these n ≡ true
      → (are_listed devices n (known_classes (always (listing_of devices)) past n) ≡ true)
      × (list_all (λ number. are_listed devices n (Some (classes_for (always (listing_of devices)) past n number))) (open_commands n past) ≡ true)
  lists_known n marked =
      and_parts (are_listed devices n (known_classes (always (listing_of devices)) past n)) _
      (fourth_of (is_joined past n) (has_key key (device_of n devices)) (knows_device devices n past (device_of n devices)) (knows_classes devices past n) (knows n marked))

  pub opened_are : (n : ℕ) → is_marked these n ≡ true → list_all (λ number. are_listed devices n (Some (classes_for (always (listing_of devices)) past n number))) (open_commands n past) ≡ true
  opened_are n marked = (lists_known n marked).1

  pub known_are : AreKnown these devices past
  known_are n marked =
      record {
        device = third_of (is_joined past n) (has_key key (device_of n devices)) (knows_device devices n past (device_of n devices)) (knows_classes devices past n) (knows n marked);
        classes = (lists_known n marked).0;
      }

  pub reached_are : AllByRecursion (CanBeReached devices past) (workers past stretch) → (n : ℕ) → is_marked these n ≡ true → CanBeReached devices past n
  reached_are all n marked = all_of_one (CanBeReached devices past) (workers past stretch) n all (at_work n marked)

  -- one has a command that waits or is accepted
  pub command_of : (n : ℕ) → is_marked these n ≡ true → (command : ℕ) × Has (commands_in past stretch n) command
  command_of n marked = some_of (commands_in past stretch n) (in_filter (λ node. not (are_none (commands_in past stretch node))) (joined past) n (at_work n marked)).1
