-- Something is noted in the host's own part of a tick: with the first notes the course goes through the whole tick, and each node that gives up goes on from there.
use Rattle.host_heard.specs.declared.told.Told.{Told}
use Rattle.host_model.specs.Events.{HostEvent, Node_ticks}
use Rattle.host_model.specs.State.{HostState}
use Rattle.host_requests.specs.Frames.{request_of}
use Rattle.host_requests.specs.declared.task.Purpose.{Purpose}
use Rattle.host_requests.specs.declared.under_way.UnderWay.{UnderWay}
use Rattle.law_time.specs.Ends.{ending_among}
use Rattle.law_time.specs.Heeds.{Heeds}
use Rattle.law_time.specs.Moments.{clock}
use Rattle.law_time.specs.Requests.{asked, judged_since, request_last}
use Rattle.law_time.specs.Unanswered.{to_give_up}
use Rattle.law_transcript.specs.Lists.{Has}
use Rattle.law_transcript.specs.Table.{in_order}
use Rattle.law_transcript.specs.Units.{Carried}
use Rattle.proof_hearing.proofs.Ending.{gives_late}
use Rattle.proof_hearing.proofs.Ticking.{up_to_node}
use Rattle.proof_hearing.specs.proof_choice.proof_following.Ended.{GaveUp, GoneSo, rest_of}
use Rattle.proof_hearing.specs.proof_choice.proof_following.Quiet.{NoneGone, ended_silently}
use Rattle.proof_hearing.specs.Books.{BooksSo}
use Rattle.proof_hearing.specs.Hearing.{choosing}
use Rattle.proof_hearing.specs.proof_queue.proof_attempts.Carried.{CarriesWell}
use Rattle.proof_hearing.specs.proof_queue.proof_attempts.proof_requests.Carrying.{CarriesSo}
use Rattle.proof_hearing.specs.proof_queue.proof_attempts.proof_requests.law_host.Course.{Course, with_notes, without_texts}
use Rattle.proof_hearing.specs.proof_queue.proof_attempts.proof_requests.law_host.Ends.{gives_up_late}
use Rattle.proof_hearing.specs.proof_queue.proof_attempts.proof_requests.law_host.Following.{is_note}
use Rattle.proof_hearing.specs.proof_queue.proof_attempts.proof_requests.law_host.Heard.{heeds_alone}
use Rattle.proof_hearing.specs.proof_queue.proof_attempts.proof_requests.law_host.HostLegal.{IsHeeded}
use Rattle.proof_hearing.specs.proof_queue.proof_attempts.proof_requests.law_host.Ticks.{nodes_in_order, ticks}
use Rattle.proof_hearing.specs.proof_queue.proof_attempts.proof_requests.proof_alone.State.{HostMachine}
use Rattle.proof_hearing.specs.proof_queue.proof_attempts.proof_requests.proof_alone.Steps.{AreFrames}
use Rattle.proof_noting.proofs.Ascending.{Rises, before_it, later_rises, left_in, order_rises, split}
use Rattle.proof_noting.proofs.Quietly.{in_order_nodes}
use Rattle.proof_noting.proofs.TickChosen.{InTick, first_noted, more_noted, ticking}
use Rattle.proof_noting.proofs.TickEnds.{notes_joined}
use Rattle.proof_noting.specs.Following.{CourseOf, Follows, IsQuiet, Lags, Level, Outset, timed}
use Rattle.proof_hearing.specs.proof_choice.proof_ends.Ascending.{Ascends}
use Rattle.proof_noting.specs.Ticking.{IsIdleAt, NoneNoted, OverSo, SomeNoted}
use Rattle.proof_noting.proofs.Choosing.{split_on}
use Rattle.std.proofs.Common.{Bool, List, None, Option, Some, [], ap, append-nil, append_assoc, arith, false, inl, inr, refl, subst, sym, true, ℕ, ◌++◌, ◌<◌, ◌∙◌, ◌∷◌, ◌≡◌, ◌≤◌, ◌⊎◌}
use Rattle.std.proofs.lemmas.Bool.{lt-ltb}
use Rattle.std.specs.List.{AllByRecursion}
use Rattle.std.specs.Ordering.{nat_cmp}
use Rattle.std.specs.Prelude.{is_none}
use Rattle.zw_base.proofs.Each.{all-append}
use Rattle.zw_text.specs.Transcript.{joined}
use Rattle.zw_text.specs.declared.entry.Entry.{Entry}

-- with no more entries it is as it was
pub nothing_told : (P : List Entry → Type 0) (past told : List Entry) → told ≡ [] → P past → P (past ++ told)
nothing_told P past told none so = subst P (sym (ap (λ (l : List Entry). past ++ l) none ∙ append-nil past)) so

module _ (key : List ℕ) (taken : List Entry → Carried → List Told) (from : Outset) where
  abbrev heeds : Heeds
  heeds = heeds_alone taken

  -- ---- the first notes

  -- what the course has made of the tick before a node, where nothing was noted yet
  pub record Midway (past : List Entry) (m : HostMachine) (c mid : Course) (rest : List ℕ) : Type 0 where
    pub goes : (keepings : List Bool) (texts : List (Option (List ℕ)))
        → ticks heeds past m.clock (choosing keepings texts c) ≡ ticking heeds past m.clock rest (choosing keepings texts mid)
    pub others : rest_of mid ≡ rest_of (record c { ticked = m.clock })

  module _ (past told : List Entry) (m : HostMachine) (c : Course) (of : CourseOf heeds from past c) (follows : Follows key taken past m c) (early : c.ticked < m.clock) (frames : AreFrames m.came)
      (awaits : m.awaits ≡ false) (time : clock past ≡ m.clock) (notes : AllByRecursion (λ e. is_note e ≡ true) told) (some : told ≡ [] → ⊥) where
    pub first_some : (g : HostState) (r : Option (List (List ℕ))) (left : List HostEvent) (front rest : List ℕ) (last : ℕ) (mid : Course) → nodes_in_order past ≡ front ++ rest
        → AllByRecursion (λ n. n ≤ last) front → Ascends last left → Midway past m c mid rest → mid.due ≡ told → OverSo (past ++ told) (record m { state = g; records = r }) mid
        → IsIdleAt left (record m { state = g; records = r }) → BooksSo key heeds (past ++ told) g mid → SomeNoted key taken from (past ++ told) (record m { state = g; records = r }) left
    first_some g r left front rest last mid nodes passed above midway due over idle books = record {
      start = past;
      noted = told;
      are = refl;
      notes = notes;
      front = front;
      rest = rest;
      nodes = nodes;
      last = last;
      passed = passed;
      above = above;
      mid = mid;
      kept = of.kept;
      opened = of.opened;
      heard = of.heard ++ told;
      split = split_on heeds from past of.heard told of.split;
      is = subst (λ (now : ℕ). InTick heeds of.kept of.opened past told now rest mid from (of.heard ++ told)) time
          (first_noted heeds from past told c mid rest notes some of follows.fits follows.none_due (lt-ltb c.ticked (clock past) (omega (arith, early, time)))
          (subst (λ (now : ℕ). (keepings : List Bool) (texts : List (Option (List ℕ))) → ticks heeds past now (choosing keepings texts c) ≡ ticking heeds past now rest (choosing keepings texts mid)) (sym time)
          midway.goes)
          due fits);
      due = due;
      fits = fits;
      ticked = ap (λ (d : Course). d.ticked) midway.others;
      over = over;
      idle = idle;
      heeded = subst (AllByRecursion (IsHeeded taken)) (sym (ap (λ (d : Course). d.heeded) midway.others)) follows.heeded;
      books = books;
      numbered = awaits;
      time = time;
      frames = frames;
    }
      where
        fits : mid.fits ≡ true
        fits = ap (λ (d : Course). d.fits) midway.others ∙ follows.fits

  -- ---- a node gives up

  pub node_gives : (start told : List Entry) (now : ℕ) (rest front back : List ℕ) (n : ℕ) (mid : Course) → rest ≡ front ++ n ∷ back → NoneGone heeds now (start ++ mid.due) front
      → GoneSo heeds (start ++ mid.due) now n told → (told ≡ [] → ⊥) → (keepings : List Bool) (texts : List (Option (List ℕ)))
      → ticking heeds start now rest (choosing keepings texts mid) ≡ ticking heeds start now back (choosing keepings texts (without_texts n (with_notes told mid)))
  node_gives start told now rest front back n mid are none gone some keepings texts =
      ap (λ (l : List ℕ). ticking heeds start now l (choosing keepings texts mid)) are
      ∙ up_to_node heeds start now front back n (choosing keepings texts mid) none
      ∙ ap (λ (d : Course). ticking heeds start now back d) (by (gives_late heeds start now n (choosing keepings texts mid) told gone))
    where
      by : GaveUp (choosing keepings texts mid) n told (gives_up_late heeds start now n (choosing keepings texts mid))
          → gives_up_late heeds start now n (choosing keepings texts mid) ≡ choosing keepings texts (without_texts n (with_notes told mid))
      by (inl (none, same)) = absurd (some none)
      by (inr same) = same

  -- those up to the node have passed then
  passed_on : (last n : ℕ) (first front : List ℕ) → last < n → AllByRecursion (λ k. k ≤ last) first → AllByRecursion (λ k. k < n) front → AllByRecursion (λ k. k ≤ n) (first ++ (front ++ n ∷ []))
  passed_on last n [] [] less all below = (omega arith, tt)
  passed_on last n [] (k ∷ front) less all below = (let under = below.0 in omega (arith, under), passed_on last n [] front less tt below.1)
  passed_on last n (k ∷ first) front less all below = (let under = all.0 in omega (arith, under, less), passed_on last n first front less all.1 below)

  put_before : (first front back : List ℕ) (n : ℕ) → first ++ (front ++ n ∷ back) ≡ (first ++ (front ++ n ∷ [])) ++ back
  put_before first front back n = ap (λ (l : List ℕ). first ++ l) (sym (append_assoc front (n ∷ []) back)) ∙ sym (append_assoc first (front ++ n ∷ []) back)

  -- where it is among those that are still to be looked at, none before it gives up
  module _ (n : ℕ) (past told : List Entry) (m : HostMachine) (notes : AllByRecursion (λ e. is_note e ≡ true) told) (some : told ≡ [] → ⊥) (gone : GoneSo heeds past m.clock n told)
      (none : (k : ℕ) → k < n → Has (nodes_in_order past) k → to_give_up heeds past m.clock k ≡ []) where
    none_of : (start : List Entry) (front : List ℕ) → AllByRecursion (λ k. k < n) front → ((k : ℕ) → Has front k → Has (nodes_in_order past) k) → start ≡ past → NoneGone heeds m.clock start front
    none_of start [] below among same = tt
    none_of start (k ∷ front) below among same =
        (ap (λ (l : List Entry). to_give_up heeds l m.clock k) same ∙ none k below.0 (among k (inl refl)), none_of start front below.1 (λ j has. among j (inr has)) same)

    has_front : (front back : List ℕ) (k : ℕ) → Has front k → Has (front ++ back) k
    has_front [] back k has = absurd has
    has_front (j ∷ front) back k (inl is) = inl is
    has_front (j ∷ front) back k (inr has) = inr (has_front front back k has)

    has_back : (front back : List ℕ) (k : ℕ) → Has back k → Has (front ++ back) k
    has_back [] back k has = has
    has_back (j ∷ front) back k has = inr (has_back front back k has)

    -- nothing was noted yet
    module _ (c mid : Course) (of : CourseOf heeds from past c) (follows : Follows key taken past m c) (early : c.ticked < m.clock) (frames : AreFrames m.came) (awaits : m.awaits ≡ false)
        (time : clock past ≡ m.clock) (midway : Midway past m c mid (nodes_in_order past)) (due : mid.due ≡ []) (has : Has (nodes_in_order past) n) where
      pub gives_first : (g : HostState) (r : Option (List (List ℕ))) (left : List HostEvent) → Ascends n left → OverSo (past ++ told) (record m { state = g; records = r }) mid
          → IsIdleAt left (record m { state = g; records = r }) → BooksSo key heeds (past ++ told) g (without_texts n (with_notes told mid))
          → SomeNoted key taken from (past ++ told) (record m { state = g; records = r }) left
      gives_first g r left above over idle books =
          let (front, back, are) = split (nodes_in_order past) n has in
          let below : AllByRecursion (λ k. k < n) front = before_it n front back (subst Rises are (order_rises past)) in
          first_some past told m c of follows early frames awaits time notes some g r left (front ++ n ∷ []) back n (without_texts n (with_notes told mid)) (are ∙ sym (append_assoc front (n ∷ []) back))
          (passed_on 0 n [] front (no_less n has) tt below) above
          (record {
            goes = λ keepings texts.
                midway.goes keepings texts
                ∙ node_gives past told m.clock (nodes_in_order past) front back n mid are
                (none_of (past ++ mid.due) front below (λ k at. subst (λ (l : List ℕ). Has l k) (sym are) (has_front front (n ∷ back) k at)) there)
                (subst (λ (l : List Entry). GoneSo heeds l m.clock n told) (sym there) gone) some keepings texts;
            others = midway.others;
          })
          (ap (λ (l : List Entry). l ++ told) due) over idle books
        where
          there : past ++ mid.due ≡ past
          there = ap (λ (l : List Entry). past ++ l) due ∙ append-nil past

          no_less : (k : ℕ) → Has (nodes_in_order past) k → 0 < k
          no_less k at = let range = (in_order_nodes past k at).0 in omega (arith, range)

    -- something was
    module _ (left : List HostEvent) (s : SomeNoted key taken from past m (Node_ticks n ∷ left)) (has : Has (nodes_in_order past) n) where
      same_nodes : nodes_in_order past ≡ nodes_in_order s.start
      same_nodes = ap (λ (l : List ℕ). in_order nat_cmp l) (ap joined s.are ∙ notes_joined s.start s.noted s.notes)

      there : s.start ++ s.mid.due ≡ past
      there = ap (λ (l : List Entry). s.start ++ l) s.due ∙ sym s.are

      here : Has s.rest n
      here = left_in s.last n s.front s.rest s.passed s.above.0 (subst (λ (l : List ℕ). Has l n) (same_nodes ∙ s.nodes) has)

      pub gives_more : (g : HostState) (r : Option (List (List ℕ))) → OverSo (past ++ told) (record m { state = g; records = r }) s.mid → IsIdleAt left (record m { state = g; records = r })
          → BooksSo key heeds (past ++ told) g (without_texts n (with_notes told s.mid)) → SomeNoted key taken from (past ++ told) (record m { state = g; records = r }) left
      gives_more g r over idle books =
          let (front, back, are) = split s.rest n here in
          let below : AllByRecursion (λ k. k < n) front
          = before_it n front back (subst Rises are (later_rises s.front s.rest (subst Rises s.nodes (order_rises s.start)))) in
          record {
            start = s.start;
            noted = s.noted ++ told;
            are = ap (λ (l : List Entry). l ++ told) s.are ∙ append_assoc s.start s.noted told;
            notes = all-append (λ (e : Entry). is_note e ≡ true) s.noted told s.notes notes;
            front = s.front ++ (front ++ n ∷ []);
            rest = back;
            nodes = s.nodes ∙ ap (λ (l : List ℕ). s.front ++ l) are ∙ put_before s.front front back n;
            last = n;
            passed = passed_on s.last n s.front front s.above.0 s.passed below;
            above = s.above.1;
            mid = without_texts n (with_notes told s.mid);
            kept = s.kept;
            opened = s.opened;
            heard = s.heard ++ told;
            split = split_on heeds from past s.heard told s.split;
            is = more_noted heeds s.kept s.opened from s.start s.noted past s.heard told m.clock s.rest back s.mid (without_texts n (with_notes told s.mid)) s.split notes s.is
                (node_gives s.start told m.clock s.rest front back n s.mid are
                (none_of (s.start ++ s.mid.due) front below
                (λ k at. subst (λ (l : List ℕ). Has l k) (sym (same_nodes ∙ s.nodes)) (has_back s.front s.rest k (subst (λ (l : List ℕ). Has l k) (sym are) (has_front front (n ∷ back) k at)))) there)
                (subst (λ (l : List Entry). GoneSo heeds l m.clock n told) (sym there) gone) some)
                (ap (λ (l : List Entry). l ++ told) s.due) s.fits;
            due = ap (λ (l : List Entry). l ++ told) s.due;
            fits = s.fits;
            ticked = s.ticked;
            over = over;
            idle = idle;
            heeded = s.heeded;
            books = books;
            numbered = s.numbered;
            time = s.time;
            frames = s.frames;
          }

  -- ---- nothing more is noted with an event

  module _ (past : List Entry) (m : HostMachine) (g : HostState) (r : Option (List (List ℕ))) where
    pub still_some : (event : HostEvent) (left : List HostEvent) (s : SomeNoted key taken from past m (event ∷ left)) → Ascends s.last left → OverSo past (record m { state = g; records = r }) s.mid
        → IsIdleAt left (record m { state = g; records = r }) → BooksSo key heeds past g s.mid → SomeNoted key taken from past (record m { state = g; records = r }) left
    still_some event left s above over idle books = record {
      start = s.start;
      noted = s.noted;
      are = s.are;
      notes = s.notes;
      front = s.front;
      rest = s.rest;
      nodes = s.nodes;
      last = s.last;
      passed = s.passed;
      above = above;
      mid = s.mid;
      kept = s.kept;
      opened = s.opened;
      heard = s.heard;
      split = s.split;
      is = s.is;
      due = s.due;
      fits = s.fits;
      ticked = s.ticked;
      over = over;
      idle = idle;
      heeded = s.heeded;
      books = books;
      numbered = s.numbered;
      time = s.time;
      frames = s.frames;
    }

    pub still_none : ((d : Course) → BooksSo key heeds (timed m past) m.state d → BooksSo key heeds (timed m past) g d) → is_none g.requests.under_way ≡ is_none m.state.requests.under_way
        → (m.state.requests.under_way ≡ None → g.requests.under_way ≡ None) → ((p : Purpose) → IsQuiet m.state p → IsQuiet g p) → NoneNoted key taken from past m
        → NoneNoted key taken from past (record m { state = g; records = r })
    still_none books same none quiet known = record {
      course = known.course;
      of = known.of;
      follows = record {
        fits = known.follows.fits;
        none_due = known.follows.none_due;
        low = known.follows.low;
        heeded = known.follows.heeded;
        so = by known.follows.so;
      };
      early = known.early;
      frames = known.frames;
    }
      where
        by : Level key heeds past m known.course ⊎ Lags key heeds past m known.course
            → Level key heeds past (record m { state = g; records = r }) known.course ⊎ Lags key heeds past (record m { state = g; records = r }) known.course
        by (inl level) = inl (record { over = level.over ∙ sym same; books = books known.course level.books })
        by (inr lags) =
            inr (record {
              running = lags.running;
              none = none lags.none;
              purpose = lags.purpose;
              id = lags.id;
              request = lags.request;
              carries = lags.carries;
              well = lags.well;
              unended = lags.unended;
              quiet = quiet lags.purpose lags.quiet;
              books = books (ended_silently past known.course) lags.books;
              why = lags.why;
            })

    -- the request under way has ended, with nothing to note
    pub ends_quietly : (u : UnderWay) → m.state.requests.under_way ≡ Some u → g.requests.under_way ≡ None → (id : ℕ) → request_last past ≡ request_of u.purpose id ∷ [] → CarriesSo u.purpose
        → CarriesWell u.purpose → ending_among (asked past).frame true (judged_since (asked past)) ≡ [] → IsQuiet g u.purpose
        → ((d : Course) → BooksSo key heeds (timed m past) m.state d → BooksSo key heeds (timed m past) g (ended_silently past d)) → NoneNoted key taken from past m
        → NoneNoted key taken from past (record m { state = g; records = r })
    ends_quietly u under none id request carries well unended quiet books known = record {
      course = known.course;
      of = known.of;
      follows = record {
        fits = known.follows.fits;
        none_due = known.follows.none_due;
        low = known.follows.low;
        heeded = known.follows.heeded;
        so = inr (by known.follows.so);
      };
      early = known.early;
      frames = known.frames;
    }
      where
        by : Level key heeds past m known.course ⊎ Lags key heeds past m known.course → Lags key heeds past (record m { state = g; records = r }) known.course
        by (inl level) = record {
          running = level.over ∙ ap (λ (o : Option UnderWay). is_none o) under;
          none = none;
          purpose = u.purpose;
          id = id;
          request = request;
          carries = carries;
          well = well;
          unended = unended;
          quiet = quiet;
          books = books known.course level.books;
          why = inl known.early;
        }
        by (inr lags) = absurd (let bad : None ≡ Some u = sym lags.none ∙ under in cc)
