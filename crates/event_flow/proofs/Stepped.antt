-- What a line makes of its node, and what its entries say of it.
use Rattle.std.proofs.Common.{◌≡◌, ◌≢◌, ℕ, suc, ◌+◌, ◌<◌, ◌≤◌, Bool, true, false, cond, Option, Some, None, List, [], ◌∷◌, ◌++◌, length, ap, refl, sym, subst, ◌∙◌, inl, inr, arith, length-append, append-nil}
use Rattle.std.specs.Prelude.{if◌then◌else◌, ◌==◌, is_none, nat_le}
use Rattle.std.specs.List.{flat_map}
use Rattle.std.proofs.lemmas.Bool.Decides.{nat_tests}
use Rattle.supervision.specs.Session.{wire_id}
use Rattle.supervision.specs.Host.{begun_of, open_session, told_of}
use Rattle.supervision.specs.Device.{heard_of}
use Rattle.supervision.specs.declared.session.TheConstants.{SUCCESS}
use Rattle.supervision.specs.declared.host_node.Told.{Told}
use Rattle.supervision.specs.declared.host_node.Told.TheVariants.{Final, Working, Old as Unasked}
use Rattle.supervision.specs.declared.device_book.Heard.{Heard}
use Rattle.supervision.specs.declared.device_book.Heard.TheVariants.{New, Again as Repeated, Old as Strange}
use Rattle.supervision.proofs.EndsLemmas.{heard_of-Again, open_session-Some}
use Rattle.event_flow.specs.declared.line.EventLine.{EventLine}
use Rattle.event_flow.specs.declared.line.EventLine.TheVariants.{Event, Again, Deliver}
use Rattle.event_flow.specs.declared.entry.EventEntry.{EventEntry}
use Rattle.event_flow.specs.declared.entry.EventEntry.TheVariants.{Refused, Queued, Taken, Known, Old}
use Rattle.event_flow.specs.declared.entry.EventRefusal.{EventRefusal}
use Rattle.event_flow.specs.declared.entry.EventRefusal.TheVariants.{Full, Idle, Stale}
use Rattle.event_flow.specs.declared.frame.Notice.{Notice}
use Rattle.event_flow.specs.declared.frame.Content.{Content}
use Rattle.event_flow.specs.declared.frame.Content.TheVariants.{Event as EventContent, Receipt}
use Rattle.event_flow.specs.declared.frame.Frame.{Frame}
use Rattle.event_flow.specs.State.{NodeState, known_count, unknown_count, may_begin, event_frame, receipt_frame, later_of}
use Rattle.event_flow.specs.Steps.{Done, does, refuses, goes_on, with_begun, with_queued, with_known, with_taken, queues, repeats, host_hears, device_hears, hears_by, delivers, listed}
use Rattle.event_flow.specs.Flow.{Ran, sent_by, count_up, of_node, queued_event, taken_event, queued_number, known_number}
use Rattle.event_flow.proofs.Facts.{FitsBy, FrameFits, Loose, NodeInv, Keeps, option_cases}
use Rattle.event_flow.proofs.Moves.{queued-loose, queued-keeps, begun-known, begun-inv, begun-keeps, event-fits, taken-loose, taken-keeps, receipt-fits, IsKnown, known-counts, known-loose, known-keeps}

-- ---- what is of a node

pub of_node-same : {A : Type 0} (node : ℕ) (x : A) → of_node node node x ≡ x ∷ []
of_node-same node x = let same : (node == node) ≡ true = grind (arith, nat_tests) in ap (λ b. cond b (x ∷ []) []) same

pub of_node-other : {A : Type 0} (node at : ℕ) (x : A) → node ≢ at → of_node node at x ≡ []
of_node-other node at x apart = let differ : (node == at) ≡ false = grind (arith, nat_tests) in ap (λ b. cond b (x ∷ []) []) differ

-- what an entry says of a node
pub record Shows (node : ℕ) (n after : NodeState) (line : EventLine) (enters : Option EventEntry) : Type 0 where
  pub queued : after.queued ≡ n.queued ++ queued_event node (listed enters) line
  pub numbers : count_up (length after.queued) ≡ count_up (length n.queued) ++ flat_map (queued_number node) (listed enters)
  pub taken : after.taken ≡ n.taken ++ flat_map (taken_event node) (listed enters)
  pub known : count_up (known_count after) ≡ count_up (known_count n) ++ flat_map (known_number node) (listed enters)
  pub frames : (so_far : List Ran) → flat_map (sent_by so_far) (listed enters) ≡ []

-- an entry says nothing of a node
pub record SaysNothing (node : ℕ) (line : EventLine) (enters : Option EventEntry) : Type 0 where
  pub queued : queued_event node (listed enters) line ≡ []
  pub numbers : flat_map (queued_number node) (listed enters) ≡ []
  pub taken : flat_map (taken_event node) (listed enters) ≡ []
  pub known : flat_map (known_number node) (listed enters) ≡ []
  pub frames : (so_far : List Ran) → flat_map (sent_by so_far) (listed enters) ≡ []

-- a frame that is sent fits, and is counted as sent now
abbrev pub SendFits : ℕ → NodeState → Option Frame → Type 0
SendFits node n None = Unit {0}
SendFits node n (Some frame) = FrameFits n frame × (frame.node ≡ node) × (frame.begun ≡ begun_of n.device)

-- what a line keeps at its node, and what it enters there
pub record NodeStep (node : ℕ) (n : NodeState) (line : EventLine) (done : Done) : Type 0 where
  pub inv : NodeInv done.node
  pub keeps : Keeps n done.node
  pub shows : Shows node n done.node line done.effect.enters
  pub sends : SendFits node done.node done.effect.sends
  pub others : (other : ℕ) → other ≢ node → SaysNothing other line done.effect.enters

-- ---- nothing changes

pub shows-nothing : (node : ℕ) (n : NodeState) (line : EventLine) (enters : Option EventEntry) → SaysNothing node line enters → Shows node n n line enters
shows-nothing node n line enters none = record {
  queued = sym (ap (λ xs. n.queued ++ xs) none.queued ∙ append-nil n.queued);
  numbers = sym (ap (λ xs. count_up (length n.queued) ++ xs) none.numbers ∙ append-nil (count_up (length n.queued)));
  taken = sym (ap (λ xs. n.taken ++ xs) none.taken ∙ append-nil n.taken);
  known = sym (ap (λ xs. count_up (known_count n) ++ xs) none.known ∙ append-nil (count_up (known_count n)));
  frames = none.frames;
}

-- the node stays as it is
stays : (node : ℕ) (n : NodeState) (line : EventLine) (enters : Option EventEntry) (sends : Option Frame) → NodeInv n → ((any : ℕ) → SaysNothing any line enters) → SendFits node n sends → NodeStep node n line (does n enters sends)
stays node n line enters sends inv none fits = record {
  inv = inv;
  keeps = λ frame fits. fits;
  shows = shows-nothing node n line enters (none node);
  sends = fits;
  others = λ other apart. none other;
}

pub says-none : (line : EventLine) (any : ℕ) → SaysNothing any line None
says-none line any = record { queued = refl; numbers = refl; taken = refl; known = refl; frames = λ _. refl }

pub says-refused : (line : EventLine) (refusal : EventRefusal) (any : ℕ) → SaysNothing any line (Some (Refused refusal))
says-refused line refusal any = record { queued = refl; numbers = refl; taken = refl; known = refl; frames = λ _. refl }

says-old : (line : EventLine) (node id any : ℕ) → SaysNothing any line (Some (Old node id))
says-old line node id any = record { queued = refl; numbers = refl; taken = refl; known = refl; frames = λ _. refl }

-- a line that is refused
pub refused-step : (node : ℕ) (n : NodeState) (line : EventLine) (refusal : EventRefusal) → NodeInv n → NodeStep node n line (refuses n refusal)
refused-step node n line refusal inv = stays node n line (Some (Refused refusal)) None inv (says-refused line refusal) tt

-- ---- the next session begins where it may

goes_on-by :
    (may : Bool) (node : ℕ) (n m : NodeState) (line : EventLine) (enters : EventEntry)
    → may_begin m ≡ may → Loose m → Keeps n m → Shows node n m line (Some enters) → ((other : ℕ) → other ≢ node → SaysNothing other line (Some enters))
    → NodeStep node n line (if may then does (with_begun m) (Some enters) (Some (event_frame node (with_begun m))) else does m (Some enters) None)
goes_on-by true node n m line enters may loose keeps shows others =
    let inv : NodeInv (with_begun m) = begun-inv m loose may in
    let longer : begun_of (with_begun m).device ≡ begun_of m.device + 1 = length-append m.device.commands _ in
    record {
      inv = inv;
      keeps = λ frame fits. begun-keeps m frame (keeps frame fits);
      shows = record { queued = shows.queued; numbers = shows.numbers; taken = shows.taken; known = ap count_up (begun-known m may) ∙ shows.known; frames = shows.frames };
      sends = (event-fits node (with_begun m) (omega (arith, longer)) inv.loose.begun, refl, refl);
      others = others;
    }
goes_on-by false node n m line enters may loose keeps shows others = record {
  inv = record { loose = loose; settled = may };
  keeps = keeps;
  shows = shows;
  sends = tt;
  others = others;
}

goes_on-step :
    (node : ℕ) (n m : NodeState) (line : EventLine) (enters : EventEntry)
    → Loose m → Keeps n m → Shows node n m line (Some enters) → ((other : ℕ) → other ≢ node → SaysNothing other line (Some enters))
    → NodeStep node n line (goes_on node m enters)
goes_on-step node n m line enters loose keeps shows others = goes_on-by (may_begin m) node n m line enters refl loose keeps shows others

-- ---- the lines

count_up-more : (k more : ℕ) → more ≡ k + 1 → count_up more ≡ count_up k ++ (more ∷ [])
count_up-more k more e = subst (λ (x : ℕ). count_up x ≡ count_up k ++ (x ∷ [])) (sym e) (count_up-suc k)
  where
    count_up-suc : (k : ℕ) → count_up (k + 1) ≡ count_up k ++ ((k + 1) ∷ [])
    count_up-suc k = let e : k + 1 ≡ suc k = omega arith in subst (λ (x : ℕ). count_up x ≡ count_up k ++ (x ∷ [])) (sym e) refl

queued-shows : (node kind level : ℕ) (n : NodeState) → Shows node n (with_queued n (record { kind = kind; level = level })) (Event node kind level) (Some (Queued node (length n.queued + 1)))
queued-shows node kind level n =
    let notice : Notice = record { kind = kind; level = level } in
    let longer : length (n.queued ++ notice ∷ []) ≡ length n.queued + 1 = length-append n.queued (notice ∷ []) in
    record {
      queued = ap (λ xs. n.queued ++ xs) (sym (of_node-same node notice));
      numbers =
          ap count_up longer ∙ count_up-more (length n.queued) (length n.queued + 1) refl
          ∙ ap (λ xs. count_up (length n.queued) ++ xs) (sym (append-nil (of_node node node (length n.queued + 1)) ∙ of_node-same node (length n.queued + 1)));
      taken = sym (append-nil n.taken);
      known = sym (append-nil (count_up (known_count n)));
      frames = λ _. refl;
    }

queued-others : (node kind level number other : ℕ) → other ≢ node → SaysNothing other (Event node kind level) (Some (Queued node number))
queued-others node kind level number other apart = record {
  queued = of_node-other other node (record { kind = kind; level = level }) apart;
  numbers = append-nil (of_node other node number) ∙ of_node-other other node number apart;
  taken = refl;
  known = refl;
  frames = λ _. refl;
}

pub queues-step : (node kind level : ℕ) (n : NodeState) → NodeInv n → NodeStep node n (Event node kind level) (queues node n (record { kind = kind; level = level }))
queues-step node kind level n inv = by_full (nat_le 16 (unknown_count n)) refl
  where
    by_full : (b : Bool) → nat_le 16 (unknown_count n) ≡ b → NodeStep node n (Event node kind level) (if b then refuses n (Full (unknown_count n)) else goes_on node (with_queued n (record { kind = kind; level = level })) (Queued node (length n.queued + 1)))
    by_full true e = refused-step node n (Event node kind level) (Full (unknown_count n)) inv
    by_full false e =
        let few : unknown_count n < 16 = grind (arith, nat_tests) in
        goes_on-step node n (with_queued n (record { kind = kind; level = level })) (Event node kind level) (Queued node (length n.queued + 1))
        (queued-loose n _ inv.loose few)
        (queued-keeps n _)
        (queued-shows node kind level n)
        (queued-others node kind level (length n.queued + 1))

pub repeats-step : (node : ℕ) (n : NodeState) → NodeInv n → NodeStep node n (Again node) (repeats node n)
repeats-step node n inv =
    elim (option_cases (open_session n.device)) [
      | inl none ↦ subst (λ (o : Option ℕ). NodeStep node n (Again node) (if is_none o then refuses n Idle else does n None (Some (event_frame node n)))) (sym none) (refused-step node n (Again node) Idle inv)
      | inr one ↦
          let last = open_session-Some n.device one.0 one.1 in
          subst (λ (o : Option ℕ). NodeStep node n (Again node) (if is_none o then refuses n Idle else does n None (Some (event_frame node n)))) (sym one.1)
          (stays node n (Again node) None (Some (event_frame node n)) inv (says-none (Again node)) (event-fits node n (omega (arith, last.0, last.1)) inv.loose.begun, refl, refl))
    ]

-- ---- deliveries

-- what is heard: the frame fits and is fresh
pub record MayHear (n : NodeState) (session begun : ℕ) (content : Content) : Type 0 where
  pub fits : FitsBy n session begun content
  pub fresh : begun_of n.device ≤ begun + 61

taken-shows : (node frame : ℕ) (n : NodeState) (id : ℕ) (notice : Notice) → Shows node n (with_taken n id notice) (Deliver frame) (Some (Taken node notice.kind notice.level))
taken-shows node frame n id notice = record {
  queued = sym (append-nil n.queued);
  numbers = sym (append-nil (count_up (length n.queued)));
  taken = ap (λ xs. n.taken ++ xs) (sym (append-nil (of_node node node notice) ∙ of_node-same node notice));
  known = sym (append-nil (count_up (known_count n)));
  frames = λ _. refl;
}

taken-others : (node frame kind level other : ℕ) → other ≢ node → SaysNothing other (Deliver frame) (Some (Taken node kind level))
taken-others node frame kind level other apart = record {
  queued = refl;
  numbers = refl;
  taken = append-nil (of_node other node (record { kind = kind; level = level })) ∙ of_node-other other node (record { kind = kind; level = level }) apart;
  known = refl;
  frames = λ _. refl;
}

host_hears-by :
    (node frame session begun : ℕ) (n : NodeState) (notice : Notice) (heard : Heard)
    → NodeInv n → MayHear n session begun (EventContent notice) → heard_of n.host (wire_id session) ≡ heard
    → NodeStep node n (Deliver frame) (host_hears node n (wire_id session) notice heard)
host_hears-by node frame session begun n notice (New named) inv may e =
    let id : ℕ = wire_id session in
    let loose : Loose (with_taken n (wire_id session) notice) = taken-loose n session begun notice inv.loose may.fits may.fresh named e in
    let longer : length (n.taken ++ notice ∷ []) ≡ length n.taken + 1 = length-append n.taken (notice ∷ []) in
    record {
      inv = record { loose = loose; settled = inv.settled };
      keeps = taken-keeps n (wire_id session) notice named e;
      shows = taken-shows node frame n (wire_id session) notice;
      sends = (receipt-fits node (with_taken n (wire_id session) notice) loose (omega (arith, loose.counted, longer)), refl, refl);
      others = taken-others node frame notice.kind notice.level;
    }
host_hears-by node frame session begun n notice (Repeated status) inv may e =
    stays node n (Deliver frame) None (Some (receipt_frame node n)) inv (says-none (Deliver frame))
    (receipt-fits node n inv.loose (heard_of-Again n.host (wire_id session) status e).0, refl, refl)
host_hears-by node frame session begun n notice Strange inv may e =
    stays node n (Deliver frame) (Some (Old node (wire_id session))) None inv (says-old (Deliver frame) node (wire_id session)) tt

known-shows : (node frame id session : ℕ) (n : NodeState) → IsKnown n id session → Shows node n (with_known n id) (Deliver frame) (Some (Known node session))
known-shows node frame id session n is = record {
  queued = sym (append-nil n.queued);
  numbers = sym (append-nil (count_up (length n.queued)));
  taken = sym (append-nil n.taken);
  known =
      ap count_up is.after ∙ count_up-more (known_count n) session (sym is.before)
      ∙ ap (λ xs. count_up (known_count n) ++ xs) (sym (append-nil (of_node node node session) ∙ of_node-same node session));
  frames = λ _. refl;
}

known-others : (node frame session other : ℕ) → other ≢ node → SaysNothing other (Deliver frame) (Some (Known node session))
known-others node frame session other apart = record {
  queued = refl;
  numbers = refl;
  taken = refl;
  known = append-nil (of_node other node session) ∙ of_node-other other node session apart;
  frames = λ _. refl;
}

device_hears-by :
    (node frame session begun : ℕ) (n : NodeState) (told : Told)
    → NodeInv n → MayHear n session begun Receipt → told_of n.device (wire_id session) SUCCESS ≡ told
    → NodeStep node n (Deliver frame) (device_hears node n (wire_id session) told)
device_hears-by node frame session begun n (Final named) inv may e =
    goes_on-step node n (with_known n (wire_id session)) (Deliver frame) (Known node named)
    (known-loose n session begun inv.loose may.fits may.fresh named e)
    (known-keeps n (wire_id session) named e)
    (known-shows node frame (wire_id session) named n (known-counts n (wire_id session) named e))
    (known-others node frame named)
device_hears-by node frame session begun n Working inv may e =
    stays node n (Deliver frame) (Some (Old node (wire_id session))) None inv (says-old (Deliver frame) node (wire_id session)) tt
device_hears-by node frame session begun n Unasked inv may e =
    stays node n (Deliver frame) (Some (Old node (wire_id session))) None inv (says-old (Deliver frame) node (wire_id session)) tt

hears-by : (node frame session begun : ℕ) (n : NodeState) (content : Content) → NodeInv n → MayHear n session begun content → NodeStep node n (Deliver frame) (hears_by node n (wire_id session) content)
hears-by node frame session begun n (EventContent notice) inv may = host_hears-by node frame session begun n notice _ inv may refl
hears-by node frame session begun n Receipt inv may = device_hears-by node frame session begun n _ inv may refl

pub delivers-step : (number : ℕ) (n : NodeState) (frame : Frame) → NodeInv n → FrameFits n frame → NodeStep frame.node n (Deliver number) (delivers n frame)
delivers-step number n frame inv fits = by_age (nat_le 62 (later_of n frame)) refl
  where
    by_age : (b : Bool) → nat_le 62 (later_of n frame) ≡ b → NodeStep frame.node n (Deliver number) (if b then refuses n (Stale (later_of n frame)) else hears_by frame.node n (wire_id frame.session) frame.content)
    by_age true e = refused-step frame.node n (Deliver number) (Stale (later_of n frame)) inv
    by_age false e =
        let few : later_of n frame < 62 = grind (arith, nat_tests) in
        hears-by frame.node number frame.session frame.begun n frame.content inv (record { fits = fits; fresh = omega (arith, few) })
