-- The history of the air goes on with the transcript: through what is silent, frames that go on the air, sessions that begin, and frames that are heard.
use Rattle.std.proofs.Common.{◌≡◌, ◌≢◌, ◌≤◌, ◌<◌, ℕ, zero, suc, ◌+◌, ◌-◌, ◌==◌, ◌||◌, Bool, true, false, if◌then◌else◌, List, [], ◌∷◌, ◌++◌, length, refl, sym, ap, ap₂, subst, ◌∙◌, append_assoc, append-nil, nat_lt, nat_le, replicate, inl, inr, ◌⊎◌, arith}
use Rattle.std.proofs.Math.Seq.{set_out}
use Rattle.std.proofs.lemmas.List.{get_or_past}
use Rattle.std.proofs.lemmas.Bool.{cases_lt, ne_eqb, leb-true, leb-false}
use Rattle.std.specs.Prelude.{Option, None, drop, slice_set, slice_index_or}
use Rattle.std.specs.Option.{is_none, unwrap_or}
use Rattle.std.specs.List.{flat_map, AllByRecursion}
use Rattle.zw_base.proofs.Each.{all-append}
use Rattle.route_table.specs.declared.route.Route.{Route}
use Rattle.air_frames.specs.declared.frame.Departure.{Departure}
use Rattle.air_frames.specs.declared.frame.Heading.{Heading}
use Rattle.air_frames.specs.declared.frame.Heading.TheVariants.{Homeward}
use Rattle.air_frames.specs.declared.peer.Peer.{Peer}
use Rattle.air_frames.specs.Flown.{Flown}
use Rattle.air_frames.specs.Frames.{FramesState, peer_of, kept as kept_of}
use Rattle.air_frames.specs.History.{Mark, Goes, Begins, begins_in, news_after, last_in, stamped, IsOf}
use Rattle.air_frames.proofs.Logs.{begins_in-append, begins_in-begins, goes_in-append, goes_in-begins, news_after-append, news_after-begins, last_in-append, last_in-begins, stamped-append, stamped-begins, GoBetweenNodes-append, between-begins}
use Rattle.air_frames.proofs.Counted.{IsOf-goes, IsOf-begins}
use Rattle.proof_walk.specs.mesh_sim.declared.event.AirEvent.{AirEvent}
use Rattle.proof_walk.specs.mesh_sim.declared.event.AirEvent.TheVariants as air_event
use Rattle.proof_walk.specs.mesh_sim.Air.{AirState, no_route, departing, is_joined, beginning}
use Rattle.proof_walk.specs.mesh_sim.Steps.{answered, answers, answered_if, answers_if, changed}
use Rattle.zw_text.specs.declared.entry.Entry.{Entry}
use Rattle.zw_text.specs.declared.entry.Entry.TheVariants as entry
use Rattle.zw_text.specs.Transcript.{folded}
use Rattle.law_wire.specs.law_transcript.Nodes.{controller}
use Rattle.proof_walk.specs.outside_model.State.{OuterState, Outside, outside}
use Rattle.proof_walk.specs.outside_model.Air.{sent_entries}
use Rattle.proof_walk.specs.outside_model.Events.{begins}
use Rattle.proof_walk.specs.Outside.{Pending, nothing, Moves, session_begins, HasNoWords}
use Rattle.proof_walk.proofs.Entering.{flat_are}
use Rattle.proof_air.specs.Logs.{departure_of, mark_step, log_of, plain, plain_mark, plain_log, sent_marks, pending_marks, IsApart, Tie}
use Rattle.proof_air.specs.Hearing.{MayHear, Knows}
use Rattle.proof_air.proofs.Logs.{log_grows, plain-append, plain-begins, plain_begun}
use Rattle.proof_air.proofs.Silent.{AreNoLines, AreSilent, silent_lines, silent_log, fresh_after, may_hear_all}

-- ---- what goes on

-- these entries have no words, and with them the tie goes on
pub record Goes_on (before : Pending) (w : Outside) (told : List Entry) (after : Pending) (later : Outside) : Type 0 where
  pub lines : AreNoLines told
  pub ties : (past : List Entry) → Tie before past w → Tie after (past ++ told) later

-- and so all that is known
pub known : (before after : Pending) (w later : Outside) (told : List Entry) → Goes_on before w told after later → Moves MayHear (Knows before) w told (Knows after) later
known before after w later told goes awaits past silent knows =
    (may_hear_all past told goes.lines knows.1, (goes.ties past knows.0, fresh_after past told goes.lines knows.1))

pub both : (p q r : Pending) (w u v : Outside) (xs ys : List Entry) → Goes_on p w xs q u → Goes_on q u ys r v → Goes_on p w (xs ++ ys) r v
both p q r w u v xs ys first later = record {
  lines = all-append HasNoWords xs ys first.lines later.lines;
  ties = λ past tie. subst (λ (l : List Entry). Tie r l v) (append_assoc past xs ys) (later.ties (past ++ xs) (first.ties past tie));
}

-- the air and the nodes that chip and air know are the same, as far as the tie speaks of them
pub record IsSameAir (old new : OuterState) : Type 0 where
  pub frames : new.air.frames ≡ old.air.frames
  pub joined : new.air.joined ≡ old.air.joined
  pub chip : length new.chip.state.joined ≡ length old.chip.state.joined

pub silent : (p : Pending) (w later : Outside) (told : List Entry) → AreSilent told → IsSameAir w.outer later.outer → Goes_on p w told p later
silent p w later told none same = record {
  lines = silent_lines told none;
  ties = λ past tie. record {
    log = tie.log;
    kept = subst (IsOf tie.log) (sym same.frames) tie.kept;
    shown = tie.shown ∙ ap (λ (l : List Mark). l ++ pending_marks p) (sym (silent_log past told none));
    apart = tie.apart;
    chip = same.chip ∙ tie.chip;
    air = ap length same.joined ∙ tie.air;
    home = ap (λ (j : List Bool). slice_index_or j controller false) same.joined ∙ tie.home;
  };
}

-- ---- a frame goes on the air

-- to a node that has a place and is not the controller
abbrev pub IsPlace : ℕ → Type 0
IsPlace node = (node < 233) × (node ≢ controller)

module _ (log : List Mark) (air : AirState) (node : ℕ) (heading : Heading) (route : Option Route) (payload : List ℕ) where
  abbrev pub flown : Departure
  flown = record { node = node; heading = heading; route = unwrap_or route no_route; lost = nat_lt 0 air.losing || is_none route; payload = payload }

  pub flies : node < 233 → IsOf log air.frames → IsOf (log ++ Goes flown ∷ []) (departing air node heading route payload).frames
  flies within kept = IsOf-goes log air.frames flown within kept

pub one_apart : (log : List Mark) (departure : Departure) → departure.node ≢ controller → AllByRecursion IsApart log → AllByRecursion IsApart (log ++ Goes departure ∷ [])
one_apart log departure apart all = all-append IsApart log (Goes departure ∷ []) all (apart, tt)

-- it is entered
pub entered : (past : List Entry) (log : List Mark) (number sender receiver : ℕ) (repeaters payload : List ℕ) (departure : Departure) → plain departure ≡ departure_of sender receiver payload
    → plain_log log ≡ log_of past ++ [] → plain_log (log ++ Goes departure ∷ []) ≡ log_of (past ++ entry.Air number sender receiver repeaters payload ∷ []) ++ []
entered past log number sender receiver repeaters payload departure same shown =
    plain-append log (Goes departure ∷ [])
    ∙ (ap₂ (λ (l : List Mark) (d : Departure). l ++ Goes d ∷ []) (shown ∙ append-nil (log_of past)) same
    ∙ (sym (log_grows past (entry.Air number sender receiver repeaters payload ∷ [])) ∙ sym (append-nil (log_of (past ++ entry.Air number sender receiver repeaters payload ∷ [])))))

-- ---- a device answers

-- with these frames more
pub record Answered (log : List Mark) (air later : AirState) (events : List AirEvent) : Type 0 where
  pub more : List Mark
  pub kept : IsOf (log ++ more) later.frames
  pub shown : plain_log more ≡ sent_marks events
  pub apart : AllByRecursion IsApart more
  pub joined : later.joined ≡ air.joined

answered_none : (log : List Mark) (air : AirState) → IsOf log air.frames → Answered log air air []
answered_none log air kept = record { more = []; kept = subst (λ (l : List Mark). IsOf l air.frames) (sym (append-nil log)) kept; shown = refl; apart = tt; joined = refl }

answers_all : (log : List Mark) (air : AirState) (node : ℕ) (way : Option Route) (replies : List (List ℕ)) → IsPlace node → IsOf log air.frames
    → Answered log air (answered air node way replies) (answers air node way replies)
answers_all log air node way [] place kept = answered_none log air kept
answers_all log air node way (reply ∷ replies) place kept =
    let mark : Mark = Goes (flown log air node Homeward way reply) in
    let next : AirState = departing air node Homeward way reply in
    let rest = answers_all (log ++ mark ∷ []) next node way replies place (flies log air node Homeward way reply place.0 kept) in
    record {
      more = mark ∷ rest.more;
      kept = subst (λ (l : List Mark). IsOf l (answered next node way replies).frames) (append_assoc log (mark ∷ []) rest.more) rest.kept;
      shown = ap (λ (l : List Mark). plain_mark mark ∷ l) rest.shown;
      apart = (place.1, rest.apart);
      joined = rest.joined;
    }

-- a node that is joined has a place
joined_place : (air : AirState) (node : ℕ) → length air.joined ≡ 233 → is_joined air controller ≡ false → is_joined air node ≡ true → IsPlace node
joined_place air node many home joined = (within (cases_lt node (length air.joined)), λ is. none (ap (λ (n : ℕ). is_joined air n) (sym is) ∙ joined))
  where
    none : is_joined air controller ≡ true → ⊥
    none is = let both : false ≡ true = sym home ∙ is in cc

    within : (node < length air.joined) ⊎ (length air.joined ≤ node) → node < 233
    within (inl below) = subst (λ (n : ℕ). node < n) many below
    within (inr past) = let out : false ≡ true = sym (get_or_past air.joined node false past) ∙ joined in absurd cc

pub answers_if_all : (joined : Bool) (log : List Mark) (air : AirState) (node : ℕ) (way : Option Route) (replies : List (List ℕ)) → is_joined air node ≡ joined → length air.joined ≡ 233
    → is_joined air controller ≡ false → IsOf log air.frames → Answered log air (answered_if joined air node way replies) (answers_if joined air node way replies)
answers_if_all true log air node way replies is many home kept = answers_all log air node way replies (joined_place air node many home is) kept
answers_if_all false log air node way replies is many home kept = answered_none log air kept

-- ---- what is told of frames

-- frames that are told are entered in their order
pub sent_enter : (log : List Mark) (events : List AirEvent) → folded mark_step log (flat_map sent_entries events) ≡ log ++ sent_marks events
sent_enter log [] = sym (append-nil log)
sent_enter log (air_event.Heard frame ∷ events) = sent_enter log events
sent_enter log (air_event.Lost frame ∷ events) = sent_enter log events
sent_enter log (air_event.Unheard frame ∷ events) = sent_enter log events
sent_enter log (air_event.Sent frame from to route payload ∷ events) =
    sent_enter (log ++ Goes (departure_of from to payload) ∷ []) events ∙ append_assoc log (Goes (departure_of from to payload) ∷ []) (sent_marks events)
sent_enter log (air_event.Changed node at ∷ events) = sent_enter log events
sent_enter log (air_event.ToChip frame from payload ∷ events) = sent_enter log events
sent_enter log (air_event.Done frame status dead ∷ events) = sent_enter log events

pub sent_lines : (events : List AirEvent) → AreNoLines (flat_map sent_entries events)
sent_lines events = flat_are HasNoWords sent_entries one events
  where
    one : (event : AirEvent) → AreNoLines (sent_entries event)
    one (air_event.Sent frame from to route payload) = (tt, tt)
    one event = tt

pub sent-append : (xs ys : List AirEvent) → sent_marks (xs ++ ys) ≡ sent_marks xs ++ sent_marks ys
sent-append [] ys = refl
sent-append (air_event.Heard frame ∷ xs) ys = sent-append xs ys
sent-append (air_event.Lost frame ∷ xs) ys = sent-append xs ys
sent-append (air_event.Unheard frame ∷ xs) ys = sent-append xs ys
sent-append (air_event.Sent frame from to route payload ∷ xs) ys = ap (λ (l : List Mark). Goes (departure_of from to payload) ∷ l) (sent-append xs ys)
sent-append (air_event.Changed node at ∷ xs) ys = sent-append xs ys
sent-append (air_event.ToChip frame from payload ∷ xs) ys = sent-append xs ys
sent-append (air_event.Done frame status dead ∷ xs) ys = sent-append xs ys

pub changed_sends : (node first count : ℕ) → sent_marks (changed node first count) ≡ []
changed_sends node first zero = refl
changed_sends node first (suc count) = changed_sends node (first + 1) count

-- ---- a session begins

-- one of a node without a place counts nothing
far_kept : (log : List Mark) (frames : FramesState) (node count : ℕ) → 233 ≤ node → IsOf log frames → IsOf (log ++ replicate count (Begins node)) frames
far_kept log frames node count far kept =
    let more : List Mark = replicate count (Begins node) in
    record {
      sent = let sent = kept.sent in let all = goes_in-append log more in let none = goes_in-begins node count in omega (arith, sent, all, none);
      order = kept.order;
      frames = kept.frames ∙ ap (λ (fs : List Flown). drop (frames.sent - kept_of frames.sent frames.landed) fs)
          (sym (stamped-append [] log more ∙ (ap (λ (fs : List Flown). stamped [] log ++ fs) (stamped-begins log node count) ∙ append-nil (stamped [] log))));
      peers = kept.peers;
      begun = λ other within. kept.begun other within
          ∙ sym (begins_in-append other log more ∙ (ap (λ (n : ℕ). begins_in other log + n) (begins_in-begins other node count false (apart other within)) ∙ plus_none (begins_in other log)));
      shown = λ other within. kept.shown other within
          ∙ sym (news_after-append other [] log more ∙ (ap (λ (n : ℕ). news_after other [] log + n) (news_after-begins other log node count) ∙ plus_none (news_after other [] log)));
      last = λ other heading within. kept.last other heading within ∙ sym (last_in-append other heading None log more ∙ last_in-begins other heading (last_in other heading None log) node count);
      nodes = GoBetweenNodes-append log more kept.nodes (between-begins node count);
    }
  where
    plus_none : (n : ℕ) → n + 0 ≡ n
    plus_none n = omega arith

    apart : (other : ℕ) → other < 233 → (node == other) ≡ false
    apart other within = ne_eqb node other (λ same. let below : node < 233 = subst (λ (n : ℕ). n < 233) (sym same) within in omega (arith, far, below))

far_begins : (log : List Mark) (frames : FramesState) (node count : ℕ) (peer : Peer) → 233 ≤ node → IsOf log frames
    → IsOf (log ++ replicate count (Begins node)) (record frames { peers = slice_set frames.peers node peer })
far_begins log frames node count peer far kept =
    let many = kept.peers in
    let out : length frames.peers ≤ node = omega (arith, far, many) in
    subst (λ (ps : List Peer). IsOf (log ++ replicate count (Begins node)) (record frames { peers = ps })) (sym (set_out frames.peers node peer out)) (far_kept log frames node count far kept)

-- a session of a node begins, whose number counts where it is not below those that began
pub begun_kept : (log : List Mark) (air : AirState) (node sessions : ℕ) → IsOf log air.frames → IsOf (log ++ replicate (sessions - begins_in node log) (Begins node)) (begins air node sessions).frames
begun_kept log air node sessions kept = at (cases_lt node 233)
  where
    within_kept : node < 233 → (b : Bool) → nat_le (peer_of air.frames node).begun sessions ≡ b
        → IsOf (log ++ replicate (sessions - begins_in node log) (Begins node)) (if b then beginning air node sessions else air).frames
    within_kept within true is =
        subst (λ (n : ℕ). IsOf (log ++ replicate (sessions - n) (Begins node)) (beginning air node sessions).frames) (kept.begun node within)
        (IsOf-begins log air.frames node sessions within (leb-true (peer_of air.frames node).begun sessions is) kept)
    within_kept within false is =
        let above = leb-false (peer_of air.frames node).begun sessions is in
        let begun = kept.begun node within in
        let none : sessions - begins_in node log ≡ 0 = omega (arith, above, begun) in
        subst (λ (n : ℕ). IsOf (log ++ replicate n (Begins node)) air.frames) (sym none) (subst (λ (l : List Mark). IsOf l air.frames) (sym (append-nil log)) kept)

    far_so : 233 ≤ node → (b : Bool) → IsOf (log ++ replicate (sessions - begins_in node log) (Begins node)) (if b then beginning air node sessions else air).frames
    far_so far true = far_begins log air.frames node (sessions - begins_in node log) (record (peer_of air.frames node) { begun = sessions }) far kept
    far_so far false = far_kept log air.frames node (sessions - begins_in node log) far kept

    at : (node < 233) ⊎ (233 ≤ node) → IsOf (log ++ replicate (sessions - begins_in node log) (Begins node)) (begins air node sessions).frames
    at (inl within) = within_kept within (nat_le (peer_of air.frames node).begun sessions) refl
    at (inr far) = far_so far (nat_le (peer_of air.frames node).begun sessions)

-- the nodes that are joined stay so
pub begins_joined : (air : AirState) (node sessions : ℕ) → (begins air node sessions).joined ≡ air.joined
begins_joined air node sessions = by (nat_le (peer_of air.frames node).begun sessions)
  where
    by : (b : Bool) → (if b then beginning air node sessions else air).joined ≡ air.joined
    by true = refl
    by false = refl

begins_apart : (count node : ℕ) → AllByRecursion IsApart (replicate count (Begins node))
begins_apart zero node = tt
begins_apart (suc count) node = (tt, begins_apart count node)

pub session_goes : (w : Outside) (node session command : ℕ)
    → Goes_on nothing w (session_begins w.outer node session command).entries nothing (outside (session_begins w.outer node session command).outer w.devices)
session_goes w node session command = record {
  lines = (tt, tt);
  ties = λ past tie.
      let count : ℕ = session - begins_in node tie.log in
      let more : List Mark = replicate count (Begins node) in
      let shown : plain_log tie.log ≡ log_of past = tie.shown ∙ append-nil (log_of past) in
      record {
        log = tie.log ++ more;
        kept = begun_kept tie.log w.outer.air node session tie.kept;
        shown = plain-append tie.log more
            ∙ (ap₂ (λ (a b : List Mark). a ++ b) shown (plain-begins count node)
            ∙ (ap (λ (n : ℕ). log_of past ++ replicate (session - n) (Begins node)) (sym (plain_begun node tie.log) ∙ ap (λ (l : List Mark). begins_in node l) shown)
            ∙ (sym (log_grows past (entry.Begin node session command ∷ [])) ∙ sym (append-nil (log_of (past ++ entry.Begin node session command ∷ []))))));
        apart = all-append IsApart tie.log more tie.apart (begins_apart count node);
        chip = tie.chip;
        air = ap length (begins_joined w.outer.air node session) ∙ tie.air;
        home = ap (λ (j : List Bool). slice_index_or j controller false) (begins_joined w.outer.air node session) ∙ tie.home;
      };
}
