-- Frames on the air, in the courses of a lock.
use Rattle.std.proofs.Common.{◌≡◌, ◌≢◌, ℕ, zero, suc, ◌+◌, ◌-◌, ◌<◌, ◌≤◌, ◌==◌, Bool, true, false, if◌then◌else◌, Option, Some, None, List, [], ◌∷◌, ◌++◌, length, map, refl, ap, sym, ◌∙◌, subst, arith}
use Rattle.std.proofs.lemmas.Bool.{eq-eqb, eqb-true}
use Rattle.std.proofs.lemmas.List.{map-append, append-nil}
use Rattle.std.proofs.lemmas.Option.{slice_get-map}
use Rattle.std.specs.Prelude.{slice_get}
use Rattle.std.specs.Option.{option_map}
use Rattle.supervision.specs.Host.{begins, begun_of}
use Rattle.proof_course.specs.Sessions.{IsFreshCargo}
use Rattle.s0_crypto.specs.declared.key_pair.Keys.{Keys}
use Rattle.air_frames.specs.declared.frame.Departure.{Departure}
use Rattle.air_frames.specs.declared.frame.Heading.{Heading}
use Rattle.air_frames.specs.declared.frame.Heading.TheVariants.{Outward, Homeward}
use Rattle.air_frames.specs.Flown.{Flown}
use Rattle.air_frames.specs.Frames.{FramesState, no_frames, peer_of, putting, landing, remembered}
use Rattle.air_frames.specs.Ages.{is_class, stale_by, refusal_of}
use Rattle.air_frames.specs.History.{Mark, Goes, Begins, begins_in, news_after}
use Rattle.air_frames.specs.Nonces.{nonce_in}
use Rattle.air_frames.proofs.Logs.{stamped-append, begins_in-append}
use Rattle.proof_course_plain.specs.Flights.{flown_in, flown_now, Fly as FlyInOrder}
use Rattle.proof_messages.specs.Payloads.{IsOffer}
use Rattle.proof_messages.specs.Shown.{HasShown}
use Rattle.proof_course_plain.specs.Ways.{Beside}
use Rattle.proof_course_plain.proofs.Flights.{beside-append, beside-weaker, beside-get, not_stale, remembered_fresh}
use Rattle.proof_course_sealed.specs.Labels.{Held, Sealed, Offer, Reports, Shows, Up, Of_host, Down, Of_node, as_session}
use Rattle.proof_course_sealed.specs.Courses.{Courses, first_courses, Aloft, Fly, of_sessions, of_node, of_host}
use Rattle.proof_course_sealed.specs.Meaning.{Past, first_past, Grows, HostMeans, NodeMeans}
use Rattle.proof_course_sealed.specs.Air.{WentAt, WentIf, MeansBy, Bears, OnAir, SameAir, CountsBy, now_aloft, Puts, landed, Lands, IsRecent, IsRecentBy, WasThere}
use Rattle.proof_course_sealed.proofs.CourseSteps.{grows_none}
use Rattle.proof_course_sealed.proofs.Meanings.{means_by_stays, shows_none, get_shows_none, sealed_is_security, offer_is_security}

-- the laws of how the air counts nonces
pub record Counting : Type 0 where
  pub first : (node : ℕ) → HasShown node [] [] [] 0 0
  pub begins : (node other : ℕ) (log : List Mark) (given shown : List (List ℕ)) (of_node of_host : ℕ) → HasShown node log given shown of_node of_host → HasShown node (log ++ Begins other ∷ []) given shown of_node of_host
  pub elsewhere : (node : ℕ) (log : List Mark) (given shown : List (List ℕ)) (of_node of_host : ℕ) (d : Departure) → HasShown node log given shown of_node of_host → d.node ≢ node
      → HasShown node (log ++ Goes d ∷ []) given shown of_node of_host
  pub none : (node : ℕ) (log : List Mark) (given shown : List (List ℕ)) (of_node of_host : ℕ) (d : Departure) → HasShown node log given shown of_node of_host → nonce_in d.payload ≡ None
      → HasShown node (log ++ Goes d ∷ []) given shown of_node of_host
  pub homeward : (node : ℕ) (log : List Mark) (given shown : List (List ℕ)) (of_node of_host number : ℕ) (d : Departure) → HasShown node log given shown of_node of_host → d.node ≡ node → d.heading ≡ Homeward
      → IsOffer given number d.payload → 0 < number → of_node ≤ number → number ≤ of_node + 1 → HasShown node (log ++ Goes d ∷ []) given shown number of_host
  pub outward : (node : ℕ) (log : List Mark) (given shown : List (List ℕ)) (of_node of_host number : ℕ) (d : Departure) → HasShown node log given shown of_node of_host → d.node ≡ node → d.heading ≡ Outward
      → IsOffer shown number d.payload → 0 < number → of_host ≤ number → number ≤ of_host + 1 → HasShown node (log ++ Goes d ∷ []) given shown of_node number
  pub more : (node : ℕ) (log : List Mark) (given shown new other : List (List ℕ)) (of_node of_host : ℕ) → HasShown node log given shown of_node of_host → HasShown node log (given ++ new) (shown ++ other) of_node of_host
  pub fresh : (payload : List ℕ) (later of_node of_host since_node since_host : ℕ) → is_class payload 0x98 ≡ true → since_node ≤ of_node → since_host ≤ of_host
      → stale_by payload later ((of_node + of_host) - (since_node + since_host)) ≡ None → (of_node < since_node + 120) × (of_host < since_host + 120)

-- ---- what is on the air stays what it is

-- no fewer nonces were shown
record Rises (old new : Courses) : Type 0 where
  given : old.node.given ≤ new.node.given
  shown : old.host.shown ≤ new.host.shown

went_stays : (own : Bool) (c later : Courses) (frame : Flown) (aloft : Aloft) → Rises c later → WentIf own c frame aloft → WentIf own later frame aloft
went_stays true c later frame aloft rises went = record {
  begun = went.begun;
  shown = went.shown;
  by_node = let first = went.by_node in let more = rises.given in omega (arith, first, more);
  by_host = let first = went.by_host in let more = rises.shown in omega (arith, first, more);
}
went_stays false c later frame aloft rises went = tt

bears_stays : (past later_past : Past) (node : ℕ) (c later : Courses) (frame : Flown) (aloft : Aloft) → Grows past later_past → Rises c later → Bears past node c frame aloft → Bears later_past node later frame aloft
bears_stays past later_past node c later frame aloft grows rises bears =
    (went_stays (frame.node == node) c later frame aloft rises bears.0, means_by_stays frame.heading (frame.node == node) past later_past node frame.payload aloft.held grows bears.1)

all_bear : (past later_past : Past) (node : ℕ) (c later : Courses) (frames : List Flown) (air : List Aloft) → Grows past later_past → Rises c later → Beside (Bears past node c) frames air → Beside (Bears later_past node later) frames air
all_bear past later_past node c later frames air grows rises is =
    beside-weaker (Bears past node c) (Bears later_past node later) (λ frame aloft. bears_stays past later_past node c later frame aloft grows rises) frames air is

shown_stays : Counting → (past later_past : Past) (node : ℕ) (log : List Mark) (of_node of_host : ℕ) → Grows past later_past → HasShown node log past.given past.shown of_node of_host
    → HasShown node log later_past.given later_past.shown of_node of_host
shown_stays counting past later_past node log of_node of_host grows is =
    subst (λ (l : List (List ℕ)). HasShown node log l later_past.shown of_node of_host) (sym grows.given.is)
    (subst (λ (l : List (List ℕ)). HasShown node log (past.given ++ grows.given.more) l of_node of_host) (sym grows.shown.is) (counting.more node log past.given past.shown grows.given.more grows.shown.more of_node of_host is))

same_counts : (node : ℕ) (log : List Mark) (given shown : List (List ℕ)) (of_node of_host node_now host_now : ℕ) → node_now ≡ of_node → host_now ≡ of_host → HasShown node log given shown of_node of_host
    → HasShown node log given shown node_now host_now
same_counts node log given shown of_node of_host node_now host_now a b is =
    subst (λ (n : ℕ). HasShown node log given shown n host_now) (sym a) (subst (λ (n : ℕ). HasShown node log given shown of_node n) (sym b) is)

pub air_stays : Counting → (past later_past : Past) (node : ℕ) (c later : Courses) (log : List Mark) (flights : List Flown) (frames : FramesState) → OnAir past node c log flights frames → Grows past later_past → SameAir c later
    → OnAir later_past node later log flights frames
air_stays counting past later_past node c later log flights frames a grows same =
    let rises : Rises c later = record { given = let e = same.given in omega (arith, e); shown = let e = same.shown in omega (arith, e) } in
    record {
      air = a.air;
      old = a.old;
      are = record {
        sessions = (same.sessions.0 ∙ a.are.sessions.0, same.sessions.1 ∙ a.are.sessions.1);
        node = (same.node.0 ∙ a.are.node.0, same.node.1 ∙ a.are.node.1);
        host = (same.host.0 ∙ a.are.host.0, same.host.1 ∙ a.are.host.1);
      };
      fly = a.fly;
      flying = all_bear past later_past node c later flights a.air grows rises a.flying;
      flown = all_bear past later_past node c later (flown_in log) a.old grows rises a.flown;
      begun = a.begun ∙ sym same.begun;
      shown = same_counts node log later_past.given later_past.shown c.node.given c.host.shown later.node.given later.host.shown same.given same.shown
          (shown_stays counting past later_past node log c.node.given c.host.shown grows a.shown);
    }

pub first_air : Counting → FlyInOrder [] [] no_frames → (keys : Keys) (node : ℕ) → OnAir (first_past keys) node first_courses [] [] no_frames
first_air counting fly keys node = record {
  air = [];
  old = [];
  are = record { sessions = (refl, refl); node = (refl, refl); host = (refl, refl) };
  fly = fly;
  flying = tt;
  flown = tt;
  begun = refl;
  shown = counting.first node;
}

-- ---- a frame goes there

counts_rise : (held : Held) (c later : Courses) → CountsBy held c later → Rises c later
counts_rise (Up (Sealed session number)) c later (given, shown) = record { given = omega (arith, given); shown = omega (arith, shown) }
counts_rise (Up (Offer number)) c later ((is, some), ((low, high), given)) = record { given = omega (arith, given); shown = omega (arith, is, low) }
counts_rise Of_host c later (given, shown) = record { given = omega (arith, given); shown = omega (arith, shown) }
counts_rise (Down (Reports session status number)) c later (given, shown) = record { given = omega (arith, given); shown = omega (arith, shown) }
counts_rise (Down (Shows number)) c later ((is, some), ((low, high), shown)) = record { given = omega (arith, is, low); shown = omega (arith, shown) }
counts_rise Of_node c later (given, shown) = record { given = omega (arith, given); shown = omega (arith, shown) }

module _ (counting : Counting) (past : Past) (node : ℕ) (c later : Courses) (log : List Mark) (d : Departure) (was : HasShown node log past.given past.shown c.node.given c.host.shown) where
  abbrev Counted : Type 0
  Counted = HasShown node (log ++ Goes d ∷ []) past.given past.shown later.node.given later.host.shown

  -- it shows no nonce
  quiet : HasShown node (log ++ Goes d ∷ []) past.given past.shown c.node.given c.host.shown → (later.node.given ≡ c.node.given) × (later.host.shown ≡ c.host.shown) → Counted
  quiet is (given, shown) = same_counts node (log ++ Goes d ∷ []) past.given past.shown c.node.given c.host.shown later.node.given later.host.shown given shown is

  unshown : nonce_in d.payload ≡ None → (later.node.given ≡ c.node.given) × (later.host.shown ≡ c.host.shown) → Counted
  unshown none same = quiet (counting.none node log past.given past.shown c.node.given c.host.shown d was none) same

  of_the_host : (held : Held) → d.node ≡ node → d.heading ≡ Outward → HostMeans past node d.payload held → CountsBy held c later → Counted
  of_the_host (Up (Sealed session number)) own way means same = unshown (shows_none past.keys _ past.given number means.text d.payload means.sealed) same
  of_the_host (Up (Offer number)) own way means ((is, some), ((low, high), given)) =
      same_counts node (log ++ Goes d ∷ []) past.given past.shown c.node.given number later.node.given later.host.shown given is
      (counting.outward node log past.given past.shown c.node.given c.host.shown number d was own way means some low high)
  of_the_host Of_host own way means same = unshown means.0.no_nonce same
  of_the_host (Down said) own way means same = absurd means
  of_the_host Of_node own way means same = absurd means

  of_the_node : (held : Held) → d.node ≡ node → d.heading ≡ Homeward → NodeMeans past node d.payload held → CountsBy held c later → Counted
  of_the_node (Up sent) own way means same = absurd means
  of_the_node Of_host own way means same = absurd means
  of_the_node (Down (Reports session status number)) own way means same = unshown (shows_none past.keys _ past.shown number means.text d.payload means.sealed) same
  of_the_node (Down (Shows number)) own way means ((is, some), ((low, high), shown)) =
      same_counts node (log ++ Goes d ∷ []) past.given past.shown number c.host.shown later.node.given later.host.shown is shown
      (counting.homeward node log past.given past.shown c.node.given c.host.shown number d was own way means some low high)
  of_the_node Of_node own way means same = unshown (get_shows_none d.payload means) same

  apart : (d.node == node) ≡ false → (later.node.given ≡ c.node.given) × (later.host.shown ≡ c.host.shown) → Counted
  apart e same = quiet (counting.elsewhere node log past.given past.shown c.node.given c.host.shown d was (grind (arith, e))) same

  counted_by : (heading : Heading) (own : Bool) (held : Held) → d.heading ≡ heading → (d.node == node) ≡ own → MeansBy heading own past node d.payload held → CountsBy held c later → Counted
  counted_by Outward true held way own means counts = of_the_host held (eqb-true d.node node own) way means counts
  counted_by Homeward true held way own means counts = of_the_node held (eqb-true d.node node own) way means counts
  counted_by Outward false held way own means counts = apart own (subst (λ (h : Held). CountsBy h c later) means counts)
  counted_by Homeward false held way own means counts = apart own (subst (λ (h : Held). CountsBy h c later) means counts)

  counted : (held : Held) → MeansBy d.heading (d.node == node) past node d.payload held → CountsBy held c later → Counted
  counted held means counts = counted_by d.heading (d.node == node) held refl refl means counts

-- a frame of the courses is after the others
following : {X Y : Type 0} (f : X → Y) (xs : List X) (x : X) (before now : List Y) → before ≡ map f xs → now ≡ before ++ f x ∷ [] → now ≡ map f (xs ++ x ∷ [])
following {Y = Y} f xs x before now were is = is ∙ (ap (λ (ys : List Y). ys ++ f x ∷ []) were ∙ sym (map-append f xs (x ∷ [])))

went_now : (node : ℕ) (later : Courses) (log : List Mark) (d : Departure) (held : Held) (own : Bool) → (d.node == node) ≡ own → begins_in node log ≡ begun_of later.sessions.host
    → news_after node [] (log ++ Goes d ∷ []) ≡ later.node.given + later.host.shown → WentIf own later (flown_now log d) (now_aloft later held)
went_now node later log d held true own begun shown =
    let at : d.node ≡ node = eqb-true d.node node own in
    record {
      begun = sym (ap (λ (n : ℕ). begins_in n log) at ∙ begun);
      shown = ap (λ (n : ℕ). news_after n [] (log ++ Goes d ∷ [])) at ∙ shown;
      by_node = omega arith;
      by_host = omega arith;
    }
went_now node later log d held false own begun shown = tt

pub frame_goes : Counting → (past later_past : Past) (node : ℕ) (c later : Courses) (log : List Mark) (flights : List Flown) (frames : FramesState) (d : Departure) (held : Held)
    → FlyInOrder (log ++ Goes d ∷ []) (flights ++ flown_now log d ∷ []) (putting frames d) → OnAir past node c log flights frames → Grows past later_past
    → MeansBy d.heading (d.node == node) later_past node d.payload held → Puts c later held → OnAir later_past node later (log ++ Goes d ∷ []) (flights ++ flown_now log d ∷ []) (putting frames d)
frame_goes counting past later_past node c later log flights frames d held fly a grows means puts =
    let now : Aloft = now_aloft later held in
    let rises : Rises c later = counts_rise held c later puts.counts in
    let was : HasShown node log later_past.given later_past.shown c.node.given c.host.shown = shown_stays counting past later_past node log c.node.given c.host.shown grows a.shown in
    let shown : HasShown node (log ++ Goes d ∷ []) later_past.given later_past.shown later.node.given later.host.shown = counted counting later_past node c later log d was held means puts.counts in
    let begun : begins_in node log ≡ begun_of later.sessions.host = a.begun ∙ sym puts.begun in
    let bears : Bears later_past node later (flown_now log d) now = (went_now node later log d held (d.node == node) refl begun shown.count, means) in
    let all : flown_in (log ++ Goes d ∷ []) ≡ flown_in log ++ flown_now log d ∷ [] = stamped-append [] log (Goes d ∷ []) in
    let sum = begins_in-append node log (Goes d ∷ []) in
    record {
      air = a.air ++ now ∷ [];
      old = a.old ++ now ∷ [];
      are = record {
        sessions = (following of_sessions a.air now c.sessions.air later.sessions.air a.are.sessions.0 puts.sessions.0, following of_sessions a.old now c.sessions.old later.sessions.old a.are.sessions.1 puts.sessions.1);
        node = (following of_node a.air now c.node.air later.node.air a.are.node.0 puts.node.0, following of_node a.old now c.node.old later.node.old a.are.node.1 puts.node.1);
        host = (following of_host a.air now c.host.air later.host.air a.are.host.0 puts.host.0, following of_host a.old now c.host.old later.host.old a.are.host.1 puts.host.1);
      };
      fly = fly;
      flying = beside-append (Bears later_past node later) flights a.air (flown_now log d) now (all_bear past later_past node c later flights a.air grows rises a.flying) bears;
      flown = subst (λ (fs : List Flown). Beside (Bears later_past node later) fs (a.old ++ now ∷ [])) (sym all)
          (beside-append (Bears later_past node later) (flown_in log) a.old (flown_now log d) now (all_bear past later_past node c later (flown_in log) a.old grows rises a.flown) bears);
      begun = omega (arith, sum, begun);
      shown = shown;
    }

-- ---- a frame is heard

pub frame_lands : (past : Past) (node : ℕ) (c : Courses) (log : List Mark) (frame : Flown) (later : List Flown) (frames : FramesState) → FlyInOrder log later (landing frames) → OnAir past node c log (frame ∷ later) frames
    → Lands past node c log frame later (landing frames)
frame_lands past node c log frame later frames fly a = by a.air a.are a.flying
  where
    by : (air : List Aloft) → Fly c air a.old → Beside (Bears past node c) (frame ∷ later) air → Lands past node c log frame later (landing frames)
    by [] are flying = absurd flying
    by (aloft ∷ rest) are flying =
        let rises : Rises c (landed c rest) = record { given = omega arith; shown = omega arith } in
        record {
          aloft = aloft;
          rest = rest;
          sessions = are.sessions.0;
          nonces = are.node.0;
          offers = are.host.0;
          bears = flying.0;
          on_air = record {
            air = rest;
            old = a.old;
            are = record { sessions = (refl, are.sessions.1); node = (refl, are.node.1); host = (refl, are.host.1) };
            fly = fly;
            flying = all_bear past past node c (landed c rest) later rest (grows_none past) rises flying.1;
            flown = all_bear past past node c (landed c rest) (flown_in log) a.old (grows_none past) rises a.flown;
            begun = a.begun;
            shown = a.shown;
          };
        }

-- ---- a session begins

longer : (xs : List ℕ) (x : ℕ) → length (xs ++ x ∷ []) ≡ length xs + 1
longer [] x = refl
longer (y ∷ xs) x = let more = longer xs x in omega (arith, more)

begins_one : (node other : ℕ) (own : Bool) → (other == node) ≡ own → begins_in node (Begins other ∷ []) ≡ (if own then 1 else 0)
begins_one node other true e = ap (λ (b : Bool). (if b then 1 else 0) + 0) e
begins_one node other false e = ap (λ (b : Bool). (if b then 1 else 0) + 0) e

-- it is between the frames, and shows nothing
marked : (past : Past) (node other : ℕ) (c later : Courses) (log : List Mark) (flights : List Flown) (frames now : FramesState) (a : OnAir past node c log flights frames) → FlyInOrder (log ++ Begins other ∷ []) flights now
    → Fly later a.air a.old → Rises c later → begins_in node (log ++ Begins other ∷ []) ≡ begun_of later.sessions.host → HasShown node (log ++ Begins other ∷ []) past.given past.shown later.node.given later.host.shown
    → OnAir past node later (log ++ Begins other ∷ []) flights now
marked past node other c later log flights frames now a fly are rises begun shown =
    let same : flown_in (log ++ Begins other ∷ []) ≡ flown_in log = stamped-append [] log (Begins other ∷ []) ∙ append-nil (flown_in log) in
    record {
      air = a.air;
      old = a.old;
      are = are;
      fly = fly;
      flying = all_bear past past node c later flights a.air (grows_none past) rises a.flying;
      flown = subst (λ (fs : List Flown). Beside (Bears past node later) fs a.old) (sym same) (all_bear past past node c later (flown_in log) a.old (grows_none past) rises a.flown);
      begun = begun;
      shown = shown;
    }

pub session_begins : Counting → (past : Past) (node : ℕ) (c : Courses) (command : ℕ) (log : List Mark) (flights : List Flown) (frames later : FramesState) → OnAir past node c log flights frames → FlyInOrder (log ++ Begins node ∷ []) flights later
    → OnAir past node (record c { sessions = record c.sessions { host = begins c.sessions.host command } }) (log ++ Begins node ∷ []) flights later
session_begins counting past node c command log flights frames later a fly =
    let now : Courses = record c { sessions = record c.sessions { host = begins c.sessions.host command } } in
    let sum = begins_in-append node log (Begins node ∷ []) in
    let one : begins_in node (Begins node ∷ []) ≡ 1 = begins_one node node true (eq-eqb node node refl) in
    let was = a.begun in
    let long = longer c.sessions.host.commands command in
    marked past node node c now log flights frames later a fly (record { sessions = a.are.sessions; node = a.are.node; host = a.are.host }) (record { given = omega arith; shown = omega arith })
    (omega (arith, sum, one, was, long)) (counting.begins node node log past.given past.shown c.node.given c.host.shown a.shown)

pub another_begins : Counting → (past : Past) (node other : ℕ) (c : Courses) (log : List Mark) (flights : List Flown) (frames later : FramesState) → other ≢ node → OnAir past node c log flights frames
    → FlyInOrder (log ++ Begins other ∷ []) flights later → OnAir past node c (log ++ Begins other ∷ []) flights later
another_begins counting past node other c log flights frames later apart a fly =
    let sum = begins_in-append node log (Begins other ∷ []) in
    let none : begins_in node (Begins other ∷ []) ≡ 0 = begins_one node other false (grind (arith, apart)) in
    let was = a.begun in
    marked past node other c c log flights frames later a fly a.are (record { given = omega arith; shown = omega arith }) (omega (arith, sum, none, was))
    (counting.begins node other log past.given past.shown c.node.given c.host.shown a.shown)

-- ---- a frame that may be heard again

fresh_held : (now since : ℕ) (held : Held) → now ≤ since + 61 → IsFreshCargo now since (as_session held)
fresh_held now since (Up (Sealed session number)) near = near
fresh_held now since (Up (Offer number)) near = tt
fresh_held now since Of_host near = tt
fresh_held now since (Down (Reports session status number)) near = near
fresh_held now since (Down (Shows number)) near = tt
fresh_held now since Of_node near = tt

host_recent : (past : Past) (node : ℕ) (c : Courses) (payload : List ℕ) (aloft : Aloft) (held : Held) → (is_class payload 0x98 ≡ true → IsRecent c aloft) → HostMeans past node payload held → IsRecentBy held c aloft
host_recent past node c payload aloft (Up (Sealed session number)) recent means = recent (sealed_is_security past.keys _ past.given number means.text payload means.sealed)
host_recent past node c payload aloft (Up (Offer number)) recent means = recent (offer_is_security past.shown number payload means)
host_recent past node c payload aloft Of_host recent means = tt
host_recent past node c payload aloft (Down said) recent means = absurd means
host_recent past node c payload aloft Of_node recent means = absurd means

node_recent : (past : Past) (node : ℕ) (c : Courses) (payload : List ℕ) (aloft : Aloft) (held : Held) → (is_class payload 0x98 ≡ true → IsRecent c aloft) → NodeMeans past node payload held → IsRecentBy held c aloft
node_recent past node c payload aloft (Up sent) recent means = absurd means
node_recent past node c payload aloft Of_host recent means = absurd means
node_recent past node c payload aloft (Down (Reports session status number)) recent means = recent (sealed_is_security past.keys _ past.shown number means.text payload means.sealed)
node_recent past node c payload aloft (Down (Shows number)) recent means = recent (offer_is_security past.given number payload means)
node_recent past node c payload aloft Of_node recent means = tt

-- what the frame's age says of it, by its direction, and by whether it is between node 1 and the node
module _ (past : Past) (node : ℕ) (c : Courses) (frame : Flown) (aloft : Aloft) where
  fresh_by : (heading : Heading) (own : Bool) → WentIf own c frame aloft → MeansBy heading own past node frame.payload aloft.held → (own ≡ true → begun_of c.sessions.host ≤ frame.begun + 61)
      → IsFreshCargo (begun_of c.sessions.host) aloft.begun (as_session aloft.held)
  fresh_by Outward true went means age = let near = age refl in let same = went.begun in fresh_held (begun_of c.sessions.host) aloft.begun aloft.held (omega (arith, near, same))
  fresh_by Homeward true went means age = let near = age refl in let same = went.begun in fresh_held (begun_of c.sessions.host) aloft.begun aloft.held (omega (arith, near, same))
  fresh_by Outward false went means age = subst (λ (h : Held). IsFreshCargo (begun_of c.sessions.host) aloft.begun (as_session h)) (sym means) tt
  fresh_by Homeward false went means age = subst (λ (h : Held). IsFreshCargo (begun_of c.sessions.host) aloft.begun (as_session h)) (sym means) tt

  recent_by : (heading : Heading) (own : Bool) → MeansBy heading own past node frame.payload aloft.held → (own ≡ true → is_class frame.payload 0x98 ≡ true → IsRecent c aloft) → IsRecentBy aloft.held c aloft
  recent_by Outward true means recent = host_recent past node c frame.payload aloft aloft.held (recent refl) means
  recent_by Homeward true means recent = node_recent past node c frame.payload aloft aloft.held (recent refl) means
  recent_by Outward false means recent = subst (λ (h : Held). IsRecentBy h c aloft) (sym means) tt
  recent_by Homeward false means recent = subst (λ (h : Held). IsRecentBy h c aloft) (sym means) tt

-- the counts of a frame's node are those of the courses; so one that is not stale is recent
recent_frame : Counting → (past : Past) (node : ℕ) (c : Courses) (log : List Mark) (flights : List Flown) (frames : FramesState) (frame : Flown) (aloft : Aloft) → node < 233 → OnAir past node c log flights frames → frame.node ≡ node
    → WentAt c frame aloft → stale_by frame.payload ((peer_of frames frame.node).begun - frame.begun) ((peer_of frames frame.node).nonces.shown - frame.shown) ≡ None → is_class frame.payload 0x98 ≡ true → IsRecent c aloft
recent_frame counting past node c log flights frames frame aloft within a at went none class =
    let age : ℕ = (peer_of frames frame.node).begun - frame.begun in
    let count : (peer_of frames frame.node).nonces.shown ≡ c.node.given + c.host.shown = ap (λ (n : ℕ). (peer_of frames n).nonces.shown) at ∙ (a.fly.history.shown node within ∙ a.shown.count) in
    let by_counts : stale_by frame.payload age ((c.node.given + c.host.shown) - (aloft.given + aloft.shown)) ≡ None =
    subst (λ (n : ℕ). stale_by frame.payload age ((c.node.given + c.host.shown) - n) ≡ None) went.shown (subst (λ (n : ℕ). stale_by frame.payload age (n - frame.shown) ≡ None) count none) in
    let near = counting.fresh frame.payload age c.node.given c.host.shown aloft.given aloft.shown class went.by_node went.by_host by_counts in
    record { given = near.0; shown = near.1 }

-- what stands at a place of the courses' frames
held_at : {Y : Type 0} (f : Aloft → Y) (old : List Aloft) (kept : List Y) (at : ℕ) (aloft : Aloft) → kept ≡ map f old → slice_get old at ≡ Some aloft → slice_get kept at ≡ Some (f aloft)
held_at {Y} f old kept at aloft are found = ap (λ (l : List Y). slice_get l at) are ∙ (slice_get-map f old at ∙ ap (λ (o : Option Aloft). option_map f o) found)

pub frame_was_there : Counting → ((log : List Mark) (flights : List Flown) (frames : FramesState) (number : ℕ) (frame : Flown) → FlyInOrder log flights frames → remembered frames (number + 1) ≡ Some frame → slice_get (flown_in log) number ≡ Some frame)
    → (past : Past) (node : ℕ) (c : Courses) (log : List Mark) (flights : List Flown) (frames : FramesState) (number : ℕ) (frame : Flown) → node < 233 → OnAir past node c log flights frames → refusal_of frames number ≡ None
    → remembered frames number ≡ Some frame → WasThere past node c frame
frame_was_there counting kept past node c log flights frames zero frame within a none is = absurd (let some = (remembered_fresh frames zero frame none is).0 in omega (arith, some))
frame_was_there counting kept past node c log flights frames (suc number) frame within a none is =
    let stood : slice_get (flown_in log) number ≡ Some frame =
    kept log flights frames number frame a.fly (subst (λ (n : ℕ). remembered frames n ≡ Some frame) (let e : suc number ≡ number + 1 = omega arith in e) is) in
    let here = beside-get (Bears past node c) (flown_in log) a.old number frame a.flown stood in
    let unstale = (remembered_fresh frames (suc number) frame none is).1 in
    let near : (peer_of frames frame.node).begun - frame.begun ≤ 61 = not_stale frame.payload ((peer_of frames frame.node).begun - frame.begun) ((peer_of frames frame.node).nonces.shown - frame.shown) unstale in
    let count : (peer_of frames node).begun ≡ begins_in node log = a.fly.history.begun node within in
    let same = a.begun in
    record {
      at = number;
      aloft = here.other;
      sessions = held_at of_sessions a.old c.sessions.old number here.other a.are.sessions.1 here.found;
      nonces = held_at of_node a.old c.node.old number here.other a.are.node.1 here.found;
      offers = held_at of_host a.old c.host.old number here.other a.are.host.1 here.found;
      bears = here.beside;
      fresh = fresh_by past node c frame here.other frame.heading (frame.node == node) here.beside.0 here.beside.1
          (λ own. let close : (peer_of frames node).begun - frame.begun ≤ 61 = subst (λ (n : ℕ). (peer_of frames n).begun - frame.begun ≤ 61) (eqb-true frame.node node own) near in omega (arith, close, count, same));
      recent = recent_by past node c frame here.other frame.heading (frame.node == node) here.beside.1
          (λ own class. recent_frame counting past node c log flights frames frame here.other within a (eqb-true frame.node node own)
          (subst (λ (b : Bool). WentIf b c frame here.other) own here.beside.0) unstale class);
    }
