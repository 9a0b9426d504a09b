-- What a host alone submits where nothing waits is chosen in its turn, and so is the session that begins.
use Rattle.std.proofs.Common.{◌≡◌, ℕ, ◌<◌, ◌≤◌, ◌==◌, ◌&&◌, ◌||◌, not, nat_le, Bool, true, false, Option, Some, None, length, List, [], ◌∷◌, map, refl, sym, ap, ap₂, ◌∙◌, arith}
use Rattle.std.specs.Prelude.{is_some, slice_index}
use Rattle.std.specs.List.{AllByRecursion, list_all, list_any}
use Rattle.std.proofs.lemmas.Bool.{and_from, eq-eqb, eqb-true, ltb-true, or_left, or_right}
use Rattle.supervision.specs.Host.{open_session}
use Rattle.zw_text.specs.declared.entry.Entry.{Entry}
use Rattle.zw_text.specs.Transcript.{joined}
use Rattle.host_heard.specs.declared.told.Told.{Told}
use Rattle.law_transcript.specs.Commands.{waiting}
use Rattle.law_transcript.specs.Units.{Carried}
use Rattle.law_time.specs.Attempts.{Attempts, Serving, serving}
use Rattle.law_time.specs.Choice.{has_turn, has_work as works_told, is_chosen, is_in_tick, is_part, is_to_begin, parts_of, turn_of, unbegun_when}
use Rattle.law_time.specs.Heeds.{Heeds}
use Rattle.law_time.specs.Moments.{clock}
use Rattle.law_time.specs.Queue.{Requests, is_first, requests}
use Rattle.law_time.specs.Requests.{Asked, asked}
use Rattle.host_node.specs.Facts.{NodeFacts, SeriesFacts}
use Rattle.host_node.specs.State.{NodeState, has_segment, has_work as works}
use Rattle.host_node.specs.declared.series.Series.{Series}
use Rattle.host_node.specs.declared.series.Series.TheVariants.{Idle, Due, Running}
use Rattle.host_model.specs.State.{HostState, node_of}
use Rattle.host_model.specs.Events.{Begins}
use Rattle.host_model.specs.Facts.{HostFacts}
use Rattle.host_model.specs.May.{IsServed, May as MayHost}
use Rattle.host_model.proofs.Pumps.{next_works}
use Rattle.proof_giving.specs.proof_queue.proof_attempts.proof_requests.law_host.Heard.{heeds_alone}
use Rattle.proof_giving.proofs.Queued.{served_is_node}
use Rattle.proof_giving.proofs.Books.{last_is}
use Rattle.proof_giving.proofs.proof_queue_Orders.{is_among}
use Rattle.proof_giving.specs.Told.{attempts_so_far}
use Rattle.proof_choice.specs.Choosing.{begins_well}
use Rattle.proof_choice.specs.Nodes.{NodeKnown}
use Rattle.proof_choice.specs.Served.{served_so_far}
use Rattle.proof_choice.proofs.Parts.{no_work, to_begin}
use Rattle.proof_choice.proofs.Served.{served_is}
use Rattle.proof_choice.proofs.Turns.{has_its_turn}
use Rattle.chip_functions.specs.Field.{IsNode}

-- ---- nodes that joined

any_among : (p : Attempts → Bool) (f : ℕ → Attempts) (nodes : List ℕ) (n : ℕ) → is_among nodes n ≡ true → p (f n) ≡ true → list_any p (map f nodes) ≡ true
any_among p f [] n among is = absurd (let bad : false ≡ true = among in cc)
any_among p f (first ∷ rest) n among is = by (first == n) refl among (λ there. any_among p f rest n there is)
  where
    by : (b : Bool) → (first == n) ≡ b → (b || is_among rest n) ≡ true → (is_among rest n ≡ true → list_any p (map f rest) ≡ true) → (p (f first) || list_any p (map f rest)) ≡ true
    by true it among later = or_left (p (f first)) (list_any p (map f rest)) (ap (λ (k : ℕ). p (f k)) (eqb-true first n it) ∙ is)
    by false it among later = or_right (p (f first)) (list_any p (map f rest)) (later among)

all_among : (p : Attempts → Bool) (f : ℕ → Attempts) (nodes : List ℕ) → AllByRecursion IsNode nodes → ((m : ℕ) → 1 ≤ m → m ≤ 232 → p (f m) ≡ true) → list_all p (map f nodes) ≡ true
all_among p f [] all is = refl
all_among p f (first ∷ rest) all is = and_from (p (f first)) (list_all p (map f rest)) (is first all.0.0 all.0.1) (all_among p f rest all.1 is)

-- ---- the series of a node that is served

pub text_runs : (s : NodeState) → NodeFacts s → (text : List ℕ) → s.text ≡ Some text → s.series ≡ Running
text_runs s facts text is = by s.series facts.series
  where
    never : (A : Type 0) → s.text ≡ None → A
    never A none = absurd (let bad : ◌≡◌ {A = Option (List ℕ)} None (Some text) = sym none ∙ is in cc)

    by : (x : Series) → SeriesFacts x s.book s.attempt_wait s.again_wait s.next_segment s.segments s.text s.pending → x ≡ Running
    by Idle f = never _ f.1.no_text
    by Due f = never _ f.2.no_text
    by Running f = refl

pub segment_runs : (s : NodeState) → NodeFacts s → has_segment s ≡ true → s.series ≡ Running
segment_runs s facts some = by s.series facts.series
  where
    less : s.next_segment < s.segments
    less = ltb-true s.next_segment s.segments some

    by : (x : Series) → SeriesFacts x s.book s.attempt_wait s.again_wait s.next_segment s.segments s.text s.pending → x ≡ Running
    by Idle f = let none = f.1.no_segments in absurd (omega (arith, less, none))
    by Due f = let none = f.2.no_segments in absurd (omega (arith, less, none))
    by Running f = refl

pub closed_idle : (s : NodeState) → NodeFacts s → open_session s.book ≡ None → s.series ≡ Idle
closed_idle s facts closed = by s.series facts.series
  where
    never : (A : Type 0) → is_some (open_session s.book) ≡ true → A
    never A some = absurd (let bad : false ≡ true = sym (ap (λ (o : Option ℕ). is_some o) closed) ∙ some in cc)

    by : (x : Series) → SeriesFacts x s.book s.attempt_wait s.again_wait s.next_segment s.segments s.text s.pending → x ≡ Idle
    by Idle f = refl
    by Due f = never _ f.0.is_open
    by Running f = never _ f.0.is_open

module _ (node_is : (heeds : Heeds) (n : ℕ) (past : List Entry) → (attempts_so_far heeds n past).node ≡ n)
    (each_is : (heeds : Heeds) (nodes : List ℕ) (past : List Entry) → (serving heeds nodes past).each ≡ map (λ n. attempts_so_far heeds n past) nodes)
    (requests_are : (heeds : Heeds) (nodes : List ℕ) (past : List Entry) → (serving heeds nodes past).requests ≡ requests heeds past) (taken : List Entry → Carried → List Told) where
  abbrev heeds : Heeds
  heeds = heeds_alone taken

  abbrev serving_so : List Entry → ℕ → Serving
  serving_so past served = record { requests = requests heeds past; served = served; each = map (λ n. attempts_so_far heeds n past) (joined past) }

  as_parts : (s : Serving) (r : Requests) (k : ℕ) (l : List Attempts) → s.requests ≡ r → s.served ≡ k → s.each ≡ l → s ≡ record { requests = r; served = k; each = l }
  as_parts s r k l p q e =
      ap (λ (r : Requests). record { requests = r; served = s.served; each = s.each }) p ∙ ap (λ (k : ℕ). record { requests = r; served = k; each = s.each }) q
      ∙ ap (λ (l : List Attempts). record { requests = r; served = k; each = l }) e

  pub serving_is : (past : List Entry) (served : ℕ) → served_so_far heeds past ≡ served → serving heeds (joined past) past ≡ serving_so past served
  serving_is past served is =
      as_parts (serving heeds (joined past) past) (requests heeds past) served (map (λ n. attempts_so_far heeds n past) (joined past)) (requests_are heeds (joined past) past) (served_is heeds (joined past) past ∙ is)
      (each_is heeds (joined past) past)

  module _ (past : List Entry) (h : HostState) (facts : HostFacts h) (nodes : (n : ℕ) → 1 ≤ n → n ≤ 232 → NodeKnown heeds past h (clock past) n) (range : AllByRecursion IsNode (joined past))
      (owners : (n : ℕ) → works (node_of h n) ≡ true → is_among (joined past) n ≡ true) where
    abbrev told : ℕ → Attempts
    told n = attempts_so_far heeds n past

    -- no node with work comes before the one that is served
    pub turn_is : (n : ℕ) → IsServed h n → has_turn heeds past (serving_so past h.served) n ≡ true
    turn_is n served =
        all_among (λ (attempts : Attempts). nat_le (turn_of h.served n) (turn_of h.served attempts.node) || not (works_told heeds past (requests heeds past).last (clock past) attempts)) told (joined past) range
        (λ m from to.
        ap₂ (λ (k : ℕ) (a : Asked). nat_le (turn_of h.served n) (turn_of h.served k) || not (works_told heeds past a (clock past) (told m))) (node_is heeds m past) (last_is taken past)
        ∙ by m from to (works (node_of h m)) refl (has_its_turn h.nodes h.served n served.next facts.served m from to))
      where
        by : (m : ℕ) → 1 ≤ m → m ≤ 232 → (b : Bool) → works (node_of h m) ≡ b → (nat_le (turn_of h.served n) (turn_of h.served m) || not (works (node_of h m))) ≡ true
            → (nat_le (turn_of h.served n) (turn_of h.served m) || not (works_told heeds past (asked past) (clock past) (told m))) ≡ true
        by m from to true some turn = or_left (nat_le (turn_of h.served n) (turn_of h.served m)) _ (first_of (nat_le (turn_of h.served n) (turn_of h.served m)) (works (node_of h m)) some turn)
          where
            first_of : (a b : Bool) → b ≡ true → (a || not b) ≡ true → a ≡ true
            first_of true b some turn = refl
            first_of false true some turn = absurd (let bad : false ≡ true = turn in cc)
            first_of false false some turn = absurd (let bad : false ≡ true = some in cc)
        by m from to false none turn =
            or_right (nat_le (turn_of h.served n) (turn_of h.served m)) (not (works_told heeds past (asked past) (clock past) (told m))) (ap not (no_work node_is taken past h (clock past) m facts (nodes m from to) none))

    -- a part of the session of that node
    pub chosen_is : (n : ℕ) (payload : List ℕ) → IsServed h n → list_any (is_part payload) (parts_of heeds past (asked past) (clock past) (told n)) ≡ true
        → is_chosen heeds past (serving_so past h.served) (record { node = n; payload = payload }) ≡ true
    chosen_is n payload served part =
        and_from
        (list_any (λ (attempts : Attempts). (attempts.node == n) && list_any (is_part payload) (parts_of heeds past (requests heeds past).last (clock past) attempts)) (map told (joined past)))
        (has_turn heeds past (serving_so past h.served) n)
        (any_among (λ (attempts : Attempts). (attempts.node == n) && list_any (is_part payload) (parts_of heeds past (requests heeds past).last (clock past) attempts)) told (joined past) n
        (owners n (next_works h.nodes h.served n served.next))
        (and_from ((told n).node == n) (list_any (is_part payload) (parts_of heeds past (requests heeds past).last (clock past) (told n))) (eq-eqb (told n).node n (node_is heeds n past))
        (ap (λ (a : Asked). list_any (is_part payload) (parts_of heeds past a (clock past) (told n))) (last_is taken past) ∙ part)))
        (turn_is n served)

    -- a session of that node that begins
    first_waits : (l : List ℕ) → 1 ≤ length l → is_first (slice_index l 0) l ≡ true
    first_waits [] some = absurd (omega (arith, some))
    first_waits (first ∷ rest) some = eq-eqb first first refl

    pub begins_is : (n session command : ℕ) → MayHost h (Begins n session command) → begins_well heeds past (serving_so past h.served) n command ≡ true
    begins_is n session command may =
        let served = may.0 in
        let is_node = served_is_node h n served.next in
        let known = nodes n is_node.0 is_node.1 in
        let begins = to_begin node_is taken past h (clock past) n facts known (closed_idle (node_of h n) (facts.nodes.facts n) may.1.1) (next_works h.nodes h.served n served.next) in
        let some = may.1.0 in
        and_from (is_to_begin n past && is_first command (waiting n past) && not (is_in_tick (unbegun_when n) past (clock past))) (has_turn heeds past (serving_so past h.served) n)
        (and_from (is_to_begin n past && is_first command (waiting n past)) (not (is_in_tick (unbegun_when n) past (clock past)))
        (and_from (is_to_begin n past) (is_first command (waiting n past)) begins.0
        (ap₂ (λ (c : ℕ) (l : List ℕ). is_first c l) may.3 known.waits ∙ first_waits (node_of h n).waiting (omega (arith, some))))
        (ap not (known.blocked.free begins.1)))
        (turn_is n served)
