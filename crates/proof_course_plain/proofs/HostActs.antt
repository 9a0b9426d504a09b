-- What the host does of itself or is asked for, in the course of one node: all but what it judges.
use Rattle.std.proofs.Common.{◌≡◌, ℕ, zero, suc, ◌+◌, ◌-◌, ◌<◌, ◌≤◌, ◌==◌, Bool, true, false, nat_lt, nat_le, if◌then◌else◌, Option, Some, None, List, [], ◌∷◌, ◌++◌, replicate, get_or, set, length, refl, ap, sym, ◌∙◌, subst, append-nil, arith}
use Rattle.std.specs.Prelude.{slice_set, slice_index}
use Rattle.std.proofs.lemmas.List.{get_or_past}
use Rattle.supervision.specs.Ends.{Report}
use Rattle.proof_course.specs.Flying.{Flight}
use Rattle.std.specs.List.{AllByRecursion}
use Rattle.std.proofs.lemmas.Bool.{eqb-true}
use Rattle.supervision.specs.Host.{HostBook, begun_of, open_session, begins}
use Rattle.proof_course.specs.Sessions.{Course, Message, Cargo, Writes, Begins as begins_step, after}
use Rattle.proof_course.specs.SessionFacts.{CourseFacts}
use Rattle.serial_frame.specs.Frame.{FrameParts}
use Rattle.serial_frame.specs.Items.{IsUnit}
use Rattle.serial_frame.specs.Stream.{Rest}
use Rattle.serial_frame.specs.declared.unit.Unit.{Unit as LineUnit}
use Rattle.serial_frame.specs.declared.unit.Unit.TheVariants.{Framed}
use Rattle.serial_frame.specs.declared.item.Item.{Item}
use Rattle.serial_link.specs.State.{Side}
use Rattle.serial_link.specs.declared.turn.Turn.{Turn}
use Rattle.serial_link.specs.declared.turn.Turn.TheVariants.{Idle, Copied, Paused}
use Rattle.serial_pipes.specs.State.{WayState}
use Rattle.zw_text.specs.declared.entry.Entry.{Entry}
use Rattle.zw_text.specs.declared.entry.Entry.TheVariants as entry
use Rattle.chip_sim.specs.State.{ChipParts}
use Rattle.chip_sim.specs.Rules.{WaitsWell}
use Rattle.air_frames.specs.Flown.{Flown}
use Rattle.air_frames.specs.Frames.{FramesState, peer_of}
use Rattle.air_frames.specs.History.{Mark, Begins as begins_mark}
use Rattle.air_frames.proofs.Logs.{stamped-append, stamped-begins, begins_in-begins}
use Rattle.proof_traffic.specs.Flights.{Fly, flown_in}
use Rattle.device_sim.specs.State.{State}
use Rattle.mesh_sim.specs.Air.{AirState, beginning}
use Rattle.outside_model.specs.State.{OuterState, Outside}
use Rattle.outside_model.specs.Events.{Host_writes, Host_notes, outcome, devices_after, has_entered, begins as air_begins, happens as happens_outside, mesh_of}
use Rattle.outside_model.specs.Did.{happens_all as happens_all_outside}
use Rattle.world_model.specs.State.{begun_in, noted_by, routed}
use Rattle.host_node.specs.State.{NodeState, unknown}
use Rattle.host_node.specs.Events.{after as after_node}
use Rattle.host_node.specs.Events.NodeEvent.{Begins as node_begins}
use Rattle.host_model.specs.State.{HostState, node_of, with_node}
use Rattle.host_model.specs.declared.out.HostOut.{HostOut}
use Rattle.host_model.specs.declared.out.HostOut.TheVariants.{Write, Note}
use Rattle.host_model.specs.After.{after as after_host, node_does, is_busy}
use Rattle.host_model.specs.May.{May}
use Rattle.host_model.specs.Facts.{HostFacts}
use Rattle.host_model.specs.Events as host
use Rattle.proof_world.specs.proof_serial.Way.{Carries, items_all, written_all}
use Rattle.proof_world.specs.proof_serial.Line.{host_units}
use Rattle.proof_world.specs.proof_serial.Chip.{HasFrames}
use Rattle.proof_world.proofs.Ways.{carries_all}
use Rattle.proof_world.proofs.Outer.{Written, routed_all}
use Rattle.proof_course_plain.specs.Ways.{Goes}
use Rattle.proof_course_plain.specs.Meaning.{Asked, HostMeans}
use Rattle.proof_course_plain.specs.Air.{OnAir}
use Rattle.proof_course_plain.specs.Making.{AllMake}
use Rattle.proof_course_plain.specs.Mesh.{HasDevice, InMesh}
use Rattle.proof_course_plain.specs.Lines.{Tells, Asks, asked_as, ItemIs, own_frames, OnWay, Later, Moves}
use Rattle.host_requests.specs.declared.task.Task.{Task}
use Rattle.proof_course_plain.specs.Host.{NodeAs, IsTaskFor, AtHost}
use Rattle.proof_course_plain.specs.HostGoing.{HostFollows, HostGoes}
use Rattle.proof_course_plain.proofs.ThinnedWays.{goes_nowhere, goes_on, goes_once, up_thins}
use Rattle.proof_course_plain.proofs.Flights.{beside-weaker, meaning_stays, order_accepted, session_begins, air_stays}
use Rattle.proof_course_plain.proofs.WayLabels.{move_same, move_submit}
use Rattle.proof_course_plain.proofs.MadeSettings.{all_make_more}
use Rattle.proof_course_plain.proofs.Outer.{SameDevice, has_same}
use Rattle.proof_once.specs.Tied.{AreOutcomes}
use Rattle.proof_course_plain.specs.Told.{KeepsOutcomes}
use Rattle.proof_course_plain.proofs.Told.{outcomes_stay, outcomes_begin}
use Rattle.proof_course_plain.proofs.KeptHosts.{SameHost, same_host, same_then, other_same, outcome_orders}
use Rattle.proof_course_plain.proofs.KeptSessions.{plain_course}
use Rattle.proof_once.proofs.HostsFromRecords.{open_alike as open_same}

-- ---- more orders

asks_more : (node : ℕ) (orders more : List Asked) (commands : List ℕ) (f : FrameParts) (mark : Option Message) → Asks node orders commands f mark → Asks node (orders ++ more) commands f mark
asks_more node orders more commands f mark is payload options id e =
    subst (λ (cs : List ℕ). HostMeans (orders ++ more) cs payload (asked_as mark)) (append-nil commands) (meaning_stays orders more commands [] payload (asked_as mark) (is payload options id e))

asks_longer : (node : ℕ) (orders : List Asked) (commands more : List ℕ) (f : FrameParts) (mark : Option Message) → Asks node orders commands f mark → Asks node orders (commands ++ more) f mark
asks_longer node orders commands more f mark is payload options id e =
    subst (λ (os : List Asked). HostMeans os (commands ++ more) payload (asked_as mark)) (append-nil orders) (meaning_stays orders [] commands more payload (asked_as mark) (is payload options id e))

pub way_weaker : {L : Type 0} (R S : FrameParts → Option L → Type 0) → ((f : FrameParts) (mark : Option L) → R f mark → S f mark) → (carried : List L) (items : List Item) (turn : Turn) (waiting : List FrameParts) → OnWay R carried items turn waiting
    → OnWay S carried items turn waiting
way_weaker R S weaker carried items turn waiting on = record {
  on_line = on.on_line;
  on_link = on.on_link;
  waits = on.waits;
  line = beside-weaker (ItemIs R) (ItemIs S) (λ item mark is f e. weaker f mark (is f e)) items on.on_line on.line;
  link = beside-weaker R S weaker (own_frames turn) on.on_link on.link;
  following = beside-weaker R S weaker waiting on.waits on.following;
  are = on.are;
}

-- ---- what is outside, once the host put out what it put out

-- no session begins among these
abbrev pub BeginsNone : HostOut → Type 0
BeginsNone (Write unit) = Unit {0}
BeginsNone (Note e) = begun_in e ≡ None

pub record SameAir (v w : Outside) : Type 0 where
  pub air : w.outer.air ≡ v.outer.air
  pub devices : w.devices ≡ v.devices

air_then : (u v w : Outside) → SameAir u v → SameAir v w → SameAir u w
air_then u v w first later = record { air = later.air ∙ first.air; devices = later.devices ∙ first.devices }

entered_air : (o : OuterState) (told : List Entry) → (has_entered o told).air ≡ o.air
entered_air o [] = refl
entered_air o (e ∷ told) = refl

write_air : (w : Outside) (unit : LineUnit) → SameAir w (happens_outside w (Host_writes unit))
unfolding outcome devices_after
write_air w unit = record { air = entered_air (outcome w (Host_writes unit)).outer (outcome w (Host_writes unit)).entries; devices = refl }

pub note_air : (w : Outside) (e : Entry) → SameAir w (happens_outside w (Host_notes e))
unfolding outcome devices_after
note_air w e = record { air = refl; devices = refl }

noted_air : (w : Outside) (begun : Option (ℕ × ℕ)) (e : Entry) (outs : List HostOut) → begun ≡ None → ((v : Outside) → SameAir v (happens_all_outside v (routed outs))) → SameAir w (happens_all_outside w (noted_by begun e ++ routed outs))
noted_air w None e outs none more = air_then w (happens_outside w (Host_notes e)) (happens_all_outside (happens_outside w (Host_notes e)) (routed outs)) (note_air w e) (more (happens_outside w (Host_notes e)))
noted_air w (Some begun) e outs none more = absurd (grind (arith, none))

pub routed_air : (w : Outside) (outs : List HostOut) → AllByRecursion BeginsNone outs → SameAir w (happens_all_outside w (routed outs))
routed_air w [] none = record { air = refl; devices = refl }
routed_air w (Write unit ∷ outs) none =
    air_then w (happens_outside w (Host_writes unit)) (happens_all_outside (happens_outside w (Host_writes unit)) (routed outs)) (write_air w unit) (routed_air (happens_outside w (Host_writes unit)) outs none.1)
routed_air w (Note e ∷ outs) none = noted_air w (begun_in e) e outs none.0 (λ v. routed_air v outs none.1)

-- ---- what an event writes

pub record Wrote (node : ℕ) (orders : List Asked) (c : Course) (h g : HostState) (units : List LineUnit) : Type 0 where
  pub added : List Asked
  pub written : List Message
  pub goes : Goes c (record c { up = c.up ++ written })
  pub at : AtHost node (orders ++ added) c.host g
  pub moves : Moves (Asks node (orders ++ added) c.host.commands) h.side.turn [] units g.side.turn [] written

pub writes_go : (node : ℕ) (orders : List Asked) (c : Course) (rest : Rest) (up yet down : List Item) (h g : HostState) (w : Outside) (outs : List HostOut) → HostFollows node orders c rest up yet down h w → KeepsOutcomes h.commands g.commands → Wrote node orders c h g (host_units outs)
    → AllByRecursion BeginsNone outs → AllByRecursion IsUnit (host_units outs) → HostGoes node c rest yet down g (happens_all_outside w (routed outs))
writes_go node orders c rest up yet down h g w outs f keeps wrote none units =
    let w' : Outside = happens_all_outside w (routed outs) in
    let written : Written (host_units outs) w.outer w'.outer = routed_all w outs in
    let same : SameAir w w' = routed_air w outs none in
    let more : List Asked = orders ++ wrote.added in
    let old : OnWay (Asks node more c.host.commands) c.up up h.side.turn [] =
    way_weaker (Asks node orders c.host.commands) (Asks node more c.host.commands) (λ frame mark. asks_more node orders wrote.added c.host.commands frame mark) c.up up h.side.turn [] f.messages in
    let l : Later (Asks node more c.host.commands) (c.up ++ wrote.written) (up ++ items_all w.outer.to_chip (host_units outs)) g.side.turn [] = wrote.moves c.up up w.outer.to_chip old in
    let grown : Course = record c { up = c.up ++ wrote.written } in
    let later : Course = record grown { up = l.now } in
    let mesh : InMesh node more later (mesh_of w') = record {
      log = f.mesh.log;
      flights = f.mesh.flights;
      on_air = subst (λ (a : AirState). OnAir node more c.host c.air c.old f.mesh.log f.mesh.flights a.frames) (sym same.air)
          (order_accepted node orders wrote.added c.host c.air c.old f.mesh.log f.mesh.flights w.outer.air.frames f.mesh.on_air);
      device = subst (λ (ds : List State). HasDevice node later ds) (sym same.devices) (has_same node c later w.devices (record { device = refl; kept = refl; ends = refl }) f.mesh.device);
      made = subst (λ (ds : List State). AllMake node more c.host.commands ds) (sym same.devices)
          (subst (λ (cs : List ℕ). AllMake node more cs w.devices) (append-nil c.host.commands) (all_make_more node orders wrote.added c.host.commands [] w.devices f.mesh.made));
    } in
    record {
      orders = more;
      later = later;
      goes = goes_on c grown later wrote.goes (up_thins grown l.now l.thin);
      up = up ++ items_all w.outer.to_chip (host_units outs);
      follows = record {
        mesh = mesh;
        to_chip = subst (λ (y : WayState). Carries w'.outer.chip.decoder y (up ++ items_all w.outer.to_chip (host_units outs))) (sym written.to_chip)
            (subst (λ (r : Rest). Carries r (written_all w.outer.to_chip (host_units outs)) (up ++ items_all w.outer.to_chip (host_units outs))) (sym (ap (λ (x : ChipParts). x.decoder) written.chip))
            (carries_all w.outer.chip.decoder w.outer.to_chip (host_units outs) up f.to_chip units));
        to_host = subst (λ (y : WayState). Carries rest y down) (sym written.to_host) f.to_host;
        frames = subst (λ (x : ChipParts). HasFrames x.state.port) (sym written.chip) f.frames;
        waits = subst (λ (x : ChipParts). WaitsWell x.state.port) (sym written.chip) f.waits;
        messages = l.on_way;
        reports = subst (λ (x : ChipParts). OnWay (Tells node) c.down (yet ++ down) x.state.port.side.turn x.state.port.waiting) (sym written.chip) f.reports;
        host = record { node_as = wrote.at.node_as; orders_are = wrote.at.orders_are; plain = wrote.at.plain; queue = wrote.at.queue };
        outcomes = outcomes_stay h.commands g.commands c.host.commands c.told keeps f.outcomes;
      };
    }

-- ---- a free line

-- no frame of the host's own is on it
pub none_own : (turn : Turn) → is_busy turn ≡ false → own_frames turn ≡ []
none_own Idle e = refl
none_own (Copied f copies ticks) e = absurd (grind (arith, e))
none_own (Paused f copies ticks) e = absurd (grind (arith, e))

-- ---- the same to the course

same_at : (node : ℕ) (orders : List Asked) (book : HostBook) (h g : HostState) → SameHost (plain_course node) h g → AtHost node orders book h → AtHost node (orders ++ []) book g
same_at node orders book h g same at = subst (λ (os : List Asked). AtHost node os book g) (sym (append-nil orders)) (record {
  node_as = same.node_as book.commands book.outcome at.node_as;
  orders_are = at.orders_are ∙ sym same.orders;
  plain = at.plain;
  queue = same.queue orders book.commands at.queue;
})

module _ (node : ℕ) (orders : List Asked) (c : Course) (h : HostState) (at : AtHost node orders c.host h) where
  nothing_written : Goes c (record c { up = c.up ++ [] })
  nothing_written = subst (λ (us : List Message). Goes c (record c { up = us })) (sym (append-nil c.up)) (goes_nowhere c)

  -- nothing is written
  pub quietly : (g : HostState) → SameHost (plain_course node) h g → Wrote node orders c h g []
  quietly g same = record {
    added = [];
    written = [];
    goes = nothing_written;
    at = same_at node orders c.host h g same at;
    moves = subst (λ (s : Side). Moves (Asks node (orders ++ []) c.host.commands) h.side.turn [] [] s.turn [] []) (sym same.side) (move_same (Asks node (orders ++ []) c.host.commands) h.side.turn h.side.turn [] refl);
  }

  -- an order is accepted
  pub accepts : (g : HostState) (added : List Asked) → AtHost node (orders ++ added) c.host g → g.side ≡ h.side → Wrote node orders c h g []
  accepts g added there side = record {
    added = added;
    written = [];
    goes = nothing_written;
    at = there;
    moves = subst (λ (s : Side). Moves (Asks node (orders ++ added) c.host.commands) h.side.turn [] [] s.turn [] []) (sym side) (move_same (Asks node (orders ++ added) c.host.commands) h.side.turn h.side.turn [] refl);
  }

  -- the side of the line moves, and writes no new frame
  pub turns : (g : HostState) (units : List LineUnit) → AtHost node orders c.host g → ((Is : FrameParts → Option Message → Type 0) → Moves Is h.side.turn [] units g.side.turn [] []) → Wrote node orders c h g units
  turns g units there moves = record {
    added = [];
    written = [];
    goes = nothing_written;
    at = subst (λ (os : List Asked). AtHost node os c.host g) (sym (append-nil orders)) there;
    moves = moves (Asks node (orders ++ []) c.host.commands);
  }

  -- a frame is submitted, which holds no message
  pub submits_other : (g : HostState) (f : FrameParts) → SameHost (plain_course node) h (record g { side = h.side }) → g.side.turn ≡ Copied f 1 0 → is_busy h.side.turn ≡ false → Asks node orders c.host.commands f None → Wrote node orders c h g (Framed f ∷ [])
  submits_other g f same turn free is = record {
    added = [];
    written = [];
    goes = nothing_written;
    at = let there : AtHost node (orders ++ []) c.host (record g { side = h.side }) = same_at node orders c.host h (record g { side = h.side }) same at in record { node_as = there.node_as; orders_are = there.orders_are; plain = there.plain; queue = there.queue };
    moves = subst (λ (t : Turn). Moves (Asks node (orders ++ []) c.host.commands) h.side.turn [] (Framed f ∷ []) t [] []) (sym turn)
        (move_submit (Asks node (orders ++ []) c.host.commands) f None h.side.turn (Copied f 1 0) (asks_more node orders [] c.host.commands f None is) (none_own h.side.turn free) refl);
  }

  -- a message of the last session is submitted, whole or one segment
  pub submits_message : (g : HostState) (f : FrameParts) (is_segment : Bool) → SameHost (plain_course node) h (record g { side = h.side }) → g.side.turn ≡ Copied f 1 0 → is_busy h.side.turn ≡ false → 0 < begun_of c.host
      → Asks node orders c.host.commands f (Some (record { session = begun_of c.host; is_segment = is_segment })) → Wrote node orders c h g (Framed f ∷ [])
  submits_message g f is_segment same turn free some is =
      let message : Message = record { session = begun_of c.host; is_segment = is_segment } in
      record {
        added = [];
        written = message ∷ [];
        goes = goes_once c (Writes is_segment) some;
        at = let there : AtHost node (orders ++ []) c.host (record g { side = h.side }) = same_at node orders c.host h (record g { side = h.side }) same at in record { node_as = there.node_as; orders_are = there.orders_are; plain = there.plain; queue = there.queue };
        moves = subst (λ (t : Turn). Moves (Asks node (orders ++ []) c.host.commands) h.side.turn [] (Framed f ∷ []) t [] (message ∷ [])) (sym turn)
            (move_submit (Asks node (orders ++ []) c.host.commands) f (Some message) h.side.turn (Copied f 1 0) (asks_more node orders [] c.host.commands f (Some message) is) (none_own h.side.turn free) refl);
      }

-- ---- a session begins

-- what is known of frames when sessions begin
pub record AirLaws : Type 0 where
  pub begins : (log : List Mark) (flights : List Flown) (frames : FramesState) (n sessions : ℕ) → n < 233 → (peer_of frames n).begun ≤ sessions → Fly log flights frames
      → Fly (log ++ replicate (sessions - (peer_of frames n).begun) (begins_mark n)) flights (record frames { peers = slice_set frames.peers n (record (peer_of frames n) { begun = sessions }) })

module _ (laws : AirLaws) (node : ℕ) (orders : List Asked) (host : HostBook) (air old : List (Flight Cargo)) (log : List Mark) (flights : List Flown) (a : AirState)
    (on : OnAir node orders host air old log flights a.frames) where
  -- of the node
  own_begins : (command sessions : ℕ) → node < 233 → sessions ≡ begun_of host + 1 → OnAir node orders (begins host command) air old (log ++ begins_mark node ∷ []) flights (air_begins a node sessions).frames
  own_begins command sessions within is = by (nat_le (peer_of a.frames node).begun sessions) refl
    where
      count : (peer_of a.frames node).begun ≡ begun_of host
      count = on.fly.history.begun node within ∙ on.begun

      one : sessions - (peer_of a.frames node).begun ≡ 1
      one = omega (arith, count, is)

      by : (b : Bool) → nat_le (peer_of a.frames node).begun sessions ≡ b → OnAir node orders (begins host command) air old (log ++ begins_mark node ∷ []) flights (if b then beginning a node sessions else a).frames
      by true e =
          let more : (peer_of a.frames node).begun ≤ sessions = omega (arith, count, is) in
          let fly = laws.begins log flights a.frames node sessions within more on.fly in
          session_begins node orders host command air old log flights a.frames (beginning a node sessions).frames on
          (subst (λ (k : ℕ). Fly (log ++ replicate k (begins_mark node)) flights (beginning a node sessions).frames) one fly)
      by false e = absurd (let more : (peer_of a.frames node).begun ≤ sessions = omega (arith, count, is) in grind (arith, e, more))

  -- of another
  other_begins : (n sessions : ℕ) → n < 233 → (n == node) ≡ false → (later : List Mark) × OnAir node orders host air old later flights (air_begins a n sessions).frames
  other_begins n sessions within apart = by (nat_le (peer_of a.frames n).begun sessions) refl
    where
      by : (b : Bool) → nat_le (peer_of a.frames n).begun sessions ≡ b → (later : List Mark) × OnAir node orders host air old later flights (if b then beginning a n sessions else a).frames
      by true e =
          let k : ℕ = sessions - (peer_of a.frames n).begun in
          let more : List Mark = replicate k (begins_mark n) in (
            log ++ more,
            air_stays node orders host air old log more flights a.frames (beginning a n sessions).frames on
                (stamped-append [] log more ∙ (ap (λ fs. flown_in log ++ fs) (stamped-begins log n k) ∙ append-nil (flown_in log)))
                (begins_in-begins node n k false apart)
                (laws.begins log flights a.frames n sessions within (grind (arith, e)) on.fly),
          )
      by false e = (log, on)

-- a command waits only at a node that has a place
pub waits_somewhere : (h : HostState) (n : ℕ) → HostFacts h → 0 < length (node_of h n).waiting → n < 233
waits_somewhere h n facts some = by (nat_lt n 233) refl
  where
    by : (b : Bool) → nat_lt n 233 ≡ b → n < 233
    by true e = grind (arith, e)
    by false e =
        let far : length h.nodes ≤ n = let places = facts.nodes.places in let out : 233 ≤ n = grind (arith, e) in omega (arith, places, out) in
        let none : node_of h n ≡ unknown 0 = get_or_past h.nodes n (unknown 0) far in
        absurd (let bad : 0 < length (unknown 0).waiting = subst (λ (s : NodeState). 0 < length s.waiting) none some in omega (arith, bad))

pub set_here : {A : Type 0} (xs : List A) (n : ℕ) (y d : A) → n < length xs → get_or (set xs n y) n d ≡ y
set_here [] n y d within = absurd (omega (arith, within))
set_here (x ∷ xs) zero y d within = refl
set_here (x ∷ xs) (suc n) y d within = set_here xs n y d (omega (arith, within))

module _ (laws : AirLaws) (node : ℕ) (orders : List Asked) (c : Course) (rest : Rest) (up yet down : List Item) (h : HostState) (w : Outside) (facts : HostFacts h) (f : HostFollows node orders c rest up yet down h w) (n session command : ℕ)
    (may : May h (host.Begins n session command)) (course : CourseFacts c) (keeps : KeepsOutcomes h.commands (after_host h (host.Begins n session command)).commands) where
  abbrev g : HostState
  g = after_host h (host.Begins n session command)

  abbrev w' : Outside
  w' = happens_all_outside w (routed (Note (entry.Begin n session command) ∷ []))

  begin_air : (w'.outer.air ≡ air_begins w.outer.air n session) × (w'.devices ≡ w.devices)
  unfolding outcome devices_after
  begin_air = (refl, refl)

  written : Written [] w.outer w'.outer
  written = routed_all w (Note (entry.Begin n session command) ∷ [])

  -- with this course, and these frames on the air
  begun_with : (later : Course) (log : List Mark) → Goes c later → later.up ≡ c.up → later.down ≡ c.down → SameDevice c later
      → OnAir node orders later.host later.air later.old log f.mesh.flights (air_begins w.outer.air n session).frames → AtHost node orders later.host g → AreOutcomes g.commands later.host.commands later.told → AllMake node orders later.host.commands w.devices
      → ((fr : FrameParts) (mark : Option Message) → Asks node orders c.host.commands fr mark → Asks node orders later.host.commands fr mark) → HostGoes node c rest yet down g w'
  begun_with later log goes same_up same_down same on there told made asks = record {
    orders = orders;
    later = later;
    goes = goes;
    up = up;
    follows = record {
      mesh = record {
        log = log;
        flights = f.mesh.flights;
        on_air = subst (λ (a : AirState). OnAir node orders later.host later.air later.old log f.mesh.flights a.frames) (sym begin_air.0) on;
        device = subst (λ (ds : List State). HasDevice node later ds) (sym begin_air.1) (has_same node c later w.devices same f.mesh.device);
        made = subst (λ (ds : List State). AllMake node orders later.host.commands ds) (sym begin_air.1) made;
      };
      to_chip = subst (λ (y : WayState). Carries w'.outer.chip.decoder y up) (sym written.to_chip) (subst (λ (r : Rest). Carries r w.outer.to_chip up) (sym (ap (λ (x : ChipParts). x.decoder) written.chip)) f.to_chip);
      to_host = subst (λ (y : WayState). Carries rest y down) (sym written.to_host) f.to_host;
      frames = subst (λ (x : ChipParts). HasFrames x.state.port) (sym written.chip) f.frames;
      waits = subst (λ (x : ChipParts). WaitsWell x.state.port) (sym written.chip) f.waits;
      messages = subst (λ (us : List Message). OnWay (Asks node orders later.host.commands) us up h.side.turn []) (sym same_up)
          (way_weaker (Asks node orders c.host.commands) (Asks node orders later.host.commands) asks c.up up h.side.turn [] f.messages);
      reports = subst (λ (x : ChipParts). OnWay (Tells node) later.down (yet ++ down) x.state.port.side.turn x.state.port.waiting) (sym written.chip)
          (subst (λ (ds : List Report). OnWay (Tells node) ds (yet ++ down) w.outer.chip.state.port.side.turn w.outer.chip.state.port.waiting) (sym same_down) f.reports);
      host = there;
      outcomes = told;
    };
  }

  still_told : AreOutcomes g.commands c.host.commands c.told
  still_told = outcomes_stay h.commands g.commands c.host.commands c.told keeps f.outcomes

  pub begin_goes : HostGoes node c rest yet down g w'
  begin_goes = by (n == node) refl
    where
      by : (b : Bool) → (n == node) ≡ b → HostGoes node c rest yet down g w'
      by false apart =
          let air = other_begins laws node orders c.host c.air c.old f.mesh.log f.mesh.flights w.outer.air f.mesh.on_air n session (waits_somewhere h n facts may.1.0) apart in
          let done : HostState = node_does h n node_begins in
          let same : SameHost (plain_course node) h g = same_then (plain_course node) h done g (other_same (plain_course node) h n (after_node (node_of h n) node_begins) (λ e. absurd (grind (arith, apart, e)))) (same_host (plain_course node) done g refl refl (outcome_orders h.commands command _) refl refl) in
          let there : AtHost node orders c.host g = subst (λ (os : List Asked). AtHost node os c.host g) (append-nil orders) (same_at node orders c.host h g same f.host) in
          begun_with c air.0 (goes_nowhere c) refl refl (record { device = refl; kept = refl; ends = refl }) air.1 there still_told f.mesh.made (λ fr mark is. is)
      by true mine =
          let own : n ≡ node = eqb-true n node mine in
          let within : node < 233 = subst (λ (k : ℕ). k < 233) own (waits_somewhere h n facts may.1.0) in
          let later : Course = after c (begins_step command) in
          let old : NodeAs c.host.commands c.host.outcome (node_of h node) = f.host.node_as in
          let count : session ≡ begun_of c.host + 1 = may.2 ∙ (ap (λ (k : ℕ). begun_of (node_of h k).book + 1) own ∙ ap (λ (cs : List ℕ). length cs + 1) old.0) in
          let closed : open_session c.host ≡ None = sym (open_same (node_of h node).book c.host old.0 old.1.0) ∙ subst (λ (k : ℕ). open_session (node_of h k).book ≡ None) own may.1.1 in
          let places = facts.nodes.places in
          let now : node_of g node ≡ after_node (node_of h node) node_begins =
          ap (λ (k : ℕ). node_of (with_node h k (after_node (node_of h k) node_begins)) node) own ∙ set_here h.nodes node (after_node (node_of h node) node_begins) (unknown 0) (omega (arith, within, places)) in
          let named : command ≡ slice_index (node_of h node).waiting 0 = may.3 ∙ ap (λ (k : ℕ). slice_index (node_of h k).waiting 0) own in
          let kept : NodeAs (c.host.commands ++ command ∷ []) None (node_of g node) =
          subst (λ (s : NodeState). NodeAs (c.host.commands ++ command ∷ []) None s) (sym now)
          (ap (λ (cs : List ℕ). cs ++ slice_index (node_of h node).waiting 0 ∷ []) old.0 ∙ ap (λ (k : ℕ). c.host.commands ++ k ∷ []) (sym named), (refl, (old.1.1.0, old.1.1.1))) in
          let there : AtHost node orders later.host g = record { node_as = kept; orders_are = f.host.orders_are ∙ sym (outcome_orders h.commands command _); plain = f.host.plain; queue = subst (λ (q : List Task). AllByRecursion (IsTaskFor node orders later.host.commands) q) (sym may.0.no_task) tt } in
          begun_with later (f.mesh.log ++ begins_mark node ∷ []) (goes_once c (begins_step command) closed) refl refl (record { device = refl; kept = refl; ends = refl })
          (subst (λ (k : ℕ). OnAir node orders later.host c.air c.old (f.mesh.log ++ begins_mark node ∷ []) f.mesh.flights (air_begins w.outer.air k session).frames) (sym own)
          (own_begins laws node orders c.host c.air c.old f.mesh.log f.mesh.flights w.outer.air f.mesh.on_air command session within count))
          there (outcomes_begin g.commands c.host.commands c.told command (let all = course.told_are.closed closed in omega (arith, all)) still_told)
          (subst (λ (os : List Asked). AllMake node os (c.host.commands ++ command ∷ []) w.devices) (append-nil orders) (all_make_more node orders [] c.host.commands (command ∷ []) w.devices f.mesh.made))
          (λ fr mark is. asks_longer node orders c.host.commands (command ∷ []) fr mark is)
