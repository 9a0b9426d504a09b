-- What the chip puts out, and what it is given: its frames go over the routes of its table, and only a link that is forgotten changes this.
use Rattle.std.proofs.Common.{◌≡◌, ℕ, ◌+◌, ◌-◌, ◌==◌, ◌&&◌, ◌||◌, Bool, true, false, if◌then◌else◌, List, [], ◌∷◌, ◌++◌, filter, refl, sym, ap, subst, ◌∙◌, inl, append-nil}
use Rattle.std.specs.Prelude.{Option, Some, None}
use Rattle.std.specs.List.{AllByRecursion, list_any}
use Rattle.serial_frame.specs.Frame.{FrameParts}
use Rattle.serial_frame.specs.declared.item.Item.{Item}
use Rattle.serial_pipes.specs.Events.{told}
use Rattle.route_table.specs.Network.{Network, Link, linked}
use Rattle.route_table.specs.declared.route.Route.{Route}
use Rattle.chip_functions.specs.declared.request.Request.{Request}
use Rattle.chip_functions.specs.declared.request.Request.TheVariants.{SendData, SendDataAbort}
use Rattle.chip_functions.specs.declared.notice.TransmitStatus.{TransmitStatus}
use Rattle.chip_sim.specs.State.{ChipState, ChipParts}
use Rattle.chip_sim.specs.declared.out.Sending.{Sending}
use Rattle.chip_sim.specs.Answers.{takes}
use Rattle.chip_sim.specs.Requests.{IsRoute as is_way, IsWayIf, HasWay, JudgedWay, asked, heard, passed, sent, given_if, stopped, reply_to, performed, requested, judged_frame}
use Rattle.chip_sim.specs.Events.{ChipEvent, Judged, Heard, Done, Informed, Forgets, collides, ended, after, outs, May}
use Rattle.chip_sim.specs.Rules.{is_start, requested_starts, judged_starts, starts}
use Rattle.chip_sim.specs.declared.out.ChipOut.{ChipOut}
use Rattle.chip_sim.specs.declared.out.ChipOut.TheVariants.{Write, OnAir, NoRoute, AskInfo, Full}
use Rattle.device_sim.specs.State.{State}
use Rattle.mesh_sim.specs.Air.{AirState, with_link as net_link}
use Rattle.zw_words.specs.declared.side.Side.TheVariants.{Chip as by_chip}
use Rattle.zw_text.specs.declared.entry.Entry.{Entry}
use Rattle.zw_text.specs.declared.entry.Entry.TheVariants as entry
use Rattle.zw_text.specs.Transcript.{joined}
use Rattle.law_wire.specs.law_transcript.Nodes.{controller, is_joined}
use Rattle.law_wire.specs.Networks.{are_linked, chip_links, listens_at}
use Rattle.outside_model.specs.State.{OuterState, Outside, outside, Outcome, tells, each, with_chip}
use Rattle.outside_model.specs.Chip.{put_out, chip_does, shown_via}
use Rattle.proof_walk.proofs.Results.{Gives, IsGiven, IsSameChip}
use Rattle.proof_walk.specs.Outside.{Pending}
use Rattle.proof_walk.proofs.Times.{puts_chip}
use Rattle.proof_routes.specs.Networks.{HasLinks, is_repeater, Tie}
use Rattle.proof_routes.proofs.Books.{air_grows, chip_grows, joined_grows, still_last}
use Rattle.proof_routes.proofs.Links.{links_set, apart_set, net_set, same_pair}
use Rattle.proof_routes.proofs.Ties.{IsSameNets, same_nets, home_nets, Goes_on, both, still_one, still_none, AreQuiet, quiet_goes, told_quiet}
use Rattle.proof_routes.proofs.Walks.{may_leave}

-- ---- what goes on the air

-- a frame goes over a route of that table
abbrev pub GoesOver : Network → ChipOut → Type 0
GoesOver table (OnAir to route payload) = is_way table to route
GoesOver table _ = Unit {0}

abbrev pub AllGoOver : Network → List ChipOut → Type 0
AllGoOver table puts = AllByRecursion (GoesOver table) puts

all_go : (table : Network) (puts : List ChipOut) → AllGoOver table (filter is_start puts) → AllGoOver table puts
all_go table [] over = tt
all_go table (Write unit ∷ puts) over = (tt, all_go table puts over)
all_go table (OnAir to route payload ∷ puts) over = (over.0, all_go table puts over.1)
all_go table (NoRoute ∷ puts) over = (tt, all_go table puts over.1)
all_go table (AskInfo node ∷ puts) over = (tt, all_go table puts over)
all_go table (Full ∷ puts) over = (tt, all_go table puts over)

-- what begins a SendData is what the chip's rules say (`rules_of_events` of chip_sim)
abbrev pub StartsSo : Type 0
StartsSo = (s : ChipState) (event : ChipEvent) → filter is_start (outs s event) ≡ starts s event

module _ (s : ChipState) where
  data_goes : (b : Bool) (n : ℕ) (payload : List ℕ) (way : Option Route) → IsWayIf b s.table n way → AllGoOver s.table (if b then sent n payload way else [])
  data_goes true n payload None has = (tt, tt)
  data_goes true n payload (Some route) has = (has, tt)
  data_goes false n payload way has = tt

  request_goes : (request : Option Request) (way : Option Route) → HasWay request s way → AllGoOver s.table (requested_starts request s way)
  request_goes None way has = tt
  request_goes (Some (SendData n payload options id)) way has = data_goes (takes s n payload) n payload way has
  request_goes (Some request) way has = tt

  frame_goes : (found : Option FrameParts) (way : Option Route) → JudgedWay found s way → AllGoOver s.table (judged_starts found s way)
  frame_goes None way has = tt
  frame_goes (Some f) way has = request_goes (asked f) way has

-- of a frame of the host
pub judged_over : StartsSo → (s : ChipState) (item : Item) (way : Option Route) → May s (Judged item way) → AllGoOver s.table (outs s (Judged item way))
judged_over rules s item way may =
    all_go s.table (outs s (Judged item way)) (subst (AllGoOver s.table) (sym (rules s (Judged item way))) (frame_goes (heard s item) (passed (collides s) item) way may))

-- what the chip is given begins no SendData
pub given_none : (s : ChipState) (event : ChipEvent) → IsGiven event → starts s event ≡ []
given_none s (Heard n payload) given = refl
given_none s (Done status) given = refl
given_none s (Informed n profile) given = refl
given_none s event given = absurd given

-- ---- what an event leaves

-- the table, and which nodes count as listening
pub record KeepsNets (old new : ChipState) : Type 0 where
  pub table : new.table ≡ old.table
  pub listening : new.listening ≡ old.listening

stays : (s : ChipState) → KeepsNets s s
stays s = record { table = refl; listening = refl }

performed_keeps : (request : Request) (s : ChipState) → KeepsNets s (performed request s)
performed_keeps (SendData n payload options id) s = by (takes s n payload)
  where
    by : (b : Bool) → KeepsNets s (if b then record s { sending = Some (record { node = n; callback_id = id }) } else s)
    by true = record { table = refl; listening = refl }
    by false = stays s
performed_keeps SendDataAbort s = by s.sending
  where
    by : (sending : Option Sending) → KeepsNets s (stopped sending s)
    by None = stays s
    by (Some sending) = record { table = refl; listening = refl }
performed_keeps request s = stays s

requested_keeps : (request : Option Request) (s : ChipState) → KeepsNets s (requested request s)
requested_keeps None s = stays s
requested_keeps (Some request) s =
    let given = given_keeps (reply_to s request) in
    let done = performed_keeps request (given_if s (reply_to s request)) in
    record { table = done.table ∙ given.table; listening = done.listening ∙ given.listening }
  where
    given_keeps : (reply : Option FrameParts) → KeepsNets s (given_if s reply)
    given_keeps None = stays s
    given_keeps (Some f) = record { table = refl; listening = refl }

frame_keeps : (found : Option FrameParts) (s : ChipState) → KeepsNets s (judged_frame found s)
frame_keeps None s = record { table = refl; listening = refl }
frame_keeps (Some f) s = requested_keeps (asked f) s

pub judged_keeps : (s : ChipState) (item : Item) (way : Option Route) → KeepsNets s (after s (Judged item way))
judged_keeps s item way = let done = frame_keeps (passed (collides s) item) (heard s item) in record { table = done.table; listening = done.listening }

done_keeps : (b : Bool) (s : ChipState) (status : TransmitStatus) → KeepsNets s (if b then ended s.sending s status else record s { aborted = s.aborted - 1 })
done_keeps true s status = by s.sending
  where
    by : (sending : Option Sending) → KeepsNets s (ended sending s status)
    by None = stays s
    by (Some sending) = record { table = refl; listening = refl }
done_keeps false s status = record { table = refl; listening = refl }

pub given_keeps : (s : ChipState) (event : ChipEvent) → IsGiven event → KeepsNets s (after s event)
given_keeps s (Heard n payload) given = record { table = refl; listening = refl }
given_keeps s (Done status) given = done_keeps (s.aborted == 0) s status
given_keeps s (Informed n profile) given = record { table = refl; listening = refl }
given_keeps s event given = absurd given

-- ---- all that is put out

module _ (devices : List State) (pending : Pending) where
  -- with devices that stay
  abbrev pub Puts : List State → OuterState → Outcome → Type 0
  Puts there o x = Goes_on devices pending (outside o there) x.entries pending (outside x.outer there)

  module _ (there : List State) where
    quiet_put : (o p : OuterState) (told : List Entry) → AreQuiet told → IsSameNets o p → Puts there o (record { outer = p; entries = told })
    quiet_put o p told quiet same = quiet_goes devices pending (outside o there) (outside p there) told quiet same

    put_goes : (o : OuterState) (out : ChipOut) → GoesOver o.chip.state.table out → Puts there o (put_out o out)
    put_goes o (Write unit) over = quiet_put o (put_out o (Write unit)).outer (told by_chip o.to_host unit) (told_quiet by_chip o.to_host unit) (same_nets o (put_out o (Write unit)).outer refl refl refl refl)
    put_goes o (OnAir to route payload) over =
        let later : OuterState = (put_out o (OnAir to route payload)).outer in
        let frame : Entry = entry.Air (o.air.frames.sent + 1) 1 to (shown_via route) payload in
        both devices pending pending pending (outside o there) (outside o there) (outside later there) (frame ∷ []) []
        (still_one devices pending (outside o there) frame tt (λ past knows. may_leave devices past (outside o there) knows.0 (o.air.frames.sent + 1) to route payload over))
        (still_none devices pending (outside o there) (outside later there) (same_nets o later refl refl refl refl))
    put_goes o NoRoute over = quiet_put o (put_out o NoRoute).outer [] tt (same_nets o (put_out o NoRoute).outer refl refl refl refl)
    put_goes o (AskInfo node) over = quiet_put o (put_out o (AskInfo node)).outer [] tt (same_nets o (put_out o (AskInfo node)).outer refl refl refl refl)
    put_goes o Full over = quiet_put o o (entry.ChipFull ∷ []) (tt, tt) (same_nets o o refl refl refl refl)

    put_table : (o : OuterState) (out : ChipOut) → (put_out o out).outer.chip.state.table ≡ o.chip.state.table
    put_table o out = ap (λ (c : ChipParts). c.state.table) (puts_chip o out)

    puts_go : (puts : List ChipOut) (o : OuterState) → AllGoOver o.chip.state.table puts → Puts there o (each put_out o puts)
    puts_go [] o over = quiet_put o o [] tt (same_nets o o refl refl refl refl)
    puts_go (out ∷ puts) o over =
        let one : Outcome = put_out o out in
        both devices pending pending pending (outside o there) (outside one.outer there) (outside (each put_out one.outer puts).outer there) one.entries (each put_out one.outer puts).entries
        (put_goes o out over.0) (puts_go puts one.outer (subst (λ (t : Network). AllGoOver t puts) (sym (put_table o out)) over.1))

    -- the chip's own state first
    does_goes : (o : OuterState) (event : ChipEvent) → KeepsNets o.chip.state (after o.chip.state event) → AllGoOver o.chip.state.table (outs o.chip.state event) → Puts there o (chip_does o event)
    unfolding chip_does
    does_goes o event keeps over =
        let p : OuterState = with_chip o (after o.chip.state event) in
        both devices pending pending pending (outside o there) (outside p there) (outside (chip_does o event).outer there) [] (chip_does o event).entries
        (still_none devices pending (outside o there) (outside p there) (same_nets o p refl refl keeps.table keeps.listening))
        (puts_go (outs o.chip.state event) p (subst (λ (t : Network). AllGoOver t (outs o.chip.state event)) (sym keeps.table) over))

    -- a link is forgotten
    forget_tie : (past : List Entry) (o : OuterState) (a b : ℕ) → Tie devices past (outside o there) → Tie devices (past ++ entry.Forget a b ∷ []) (outside (with_chip o (after o.chip.state (Forgets a b))) there)
    forget_tie past o a b tie = record {
      air_hears = λ x y. tie.air_hears x y ∙ sym (ap (λ (l : List Link). are_linked l x y) (air_grows past (entry.Forget a b)));
      air_repeats = λ node. tie.air_repeats node ∙ repeater node;
      air_apart = tie.air_apart;
      chip_hears = subst (λ (l : List Link). HasLinks (net_link o.chip.state.table a b false) l) (sym (chip_grows past (entry.Forget a b) (inl refl)))
          (links_set o.chip.state.table (chip_links past) a b false tie.chip_apart tie.chip_hears);
      chip_repeats = λ node. tie.chip_repeats node ∙ repeater node;
      chip_apart = apart_set o.chip.state.table a b false tie.chip_apart;
      known = λ x y hears.
          ap (λ (j : Bool). (x == controller) || j) (nodes x)
          ∙ tie.known x y (still (same_pair x y a b) (linked o.chip.state.table x y) (sym (net_set o.chip.state.table a b false tie.chip_apart x y) ∙ hears));
      listening = λ node. tie.listening node ∙ repeater node;
      joined = λ node. tie.joined node ∙ sym (nodes node);
      within = λ node joined. tie.within node (sym (nodes node) ∙ joined);
      places = tie.places;
      marks = tie.marks;
    }
      where
        nodes : (node : ℕ) → is_joined (past ++ entry.Forget a b ∷ []) node ≡ is_joined past node
        nodes node = ap (λ (l : List ℕ). list_any (λ one. one == node) l) (joined_grows past (entry.Forget a b) (inl refl) ∙ append-nil (joined past))

        repeater : (node : ℕ) → is_repeater devices past node ≡ is_repeater devices (past ++ entry.Forget a b ∷ []) node
        repeater node = ap (λ (j : Bool). listens_at devices node && j) (sym (nodes node))

        still : (s l : Bool) → (if s then false else l) ≡ true → l ≡ true
        still true l is = let none : false ≡ true = is in absurd cc
        still false l is = is

    forgotten : (o : OuterState) (a b : ℕ) → Puts there o (tells (with_chip o (after o.chip.state (Forgets a b))) (entry.Forget a b ∷ []))
    forgotten o a b past knows =
        let later : Outside = outside (with_chip o (after o.chip.state (Forgets a b))) there in
        (((tt, tt), tt), (forget_tie past o a b knows.0, still_last past (entry.Forget a b) refl, home_nets devices pending (outside o there) later refl refl knows.2))

    module _ (rules : StartsSo) where
      pub judges : (o : OuterState) (item : Item) (way : Option Route) → May o.chip.state (Judged item way) → Puts there o (chip_does o (Judged item way))
      judges o item way may = does_goes o (Judged item way) (judged_keeps o.chip.state item way) (judged_over rules o.chip.state item way may)

      -- an event at which no SendData begins
      pub does_quietly : (o : OuterState) (event : ChipEvent) → starts o.chip.state event ≡ [] → KeepsNets o.chip.state (after o.chip.state event) → Puts there o (chip_does o event)
      does_quietly o event none keeps =
          does_goes o event keeps (all_go o.chip.state.table (outs o.chip.state event) (subst (AllGoOver o.chip.state.table) (sym (rules o.chip.state event ∙ none)) tt))

      pub results : Gives (Puts there)
      results = record {
        still = λ o p same. still_none devices pending (outside o there) (outside p there) (chip_nets o p same);
        both = λ o first next before later.
            both devices pending pending pending (outside o there) (outside first.outer there) (outside (next first.outer).outer there) first.entries (next first.outer).entries before (later first.outer);
        later = λ o p x same goes.
            both devices pending pending pending (outside o there) (outside p there) (outside x.outer there) [] x.entries (still_none devices pending (outside o there) (outside p there) (chip_nets o p same)) goes;
        does = λ o event given. does_quietly o event (given_none o.chip.state event given) (given_keeps o.chip.state event given);
        forgotten = forgotten;
      }
        where
          chip_nets : (o p : OuterState) → IsSameChip o p → IsSameNets o p
          chip_nets o p same = record {
            network = ap (λ (air : AirState). air.network) same.air;
            joined = ap (λ (air : AirState). air.joined) same.air;
            table = ap (λ (s : ChipState). s.table) same.chip;
            listening = ap (λ (s : ChipState). s.listening) same.chip;
          }
