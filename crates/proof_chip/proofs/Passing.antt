-- An entry that is neither an answer of the chip nor a frame of the controller keeps the law of what goes on the air: where what is left of the last answer has no way, it has none after it.
use Rattle.std.proofs.Common.{◌≡◌, ◌⊎◌, ℕ, ◌+◌, ◌==◌, ◌&&◌, ◌||◌, Bool, true, false, if◌then◌else◌, List, [], ◌∷◌, ◌++◌, filter, inl, inr, refl, sym, ap, ap₂, ◌∙◌, subst, append_assoc, append-nil}
use Rattle.std.specs.List.{AllByRecursion}
use Rattle.zw_base.proofs.Each.{all-append, all-weaker}
use Rattle.serial_frame.specs.Items.{unit_text}
use Rattle.serial_frame.specs.declared.unit.Unit.{Unit as LineUnit}
use Rattle.serial_frame.specs.declared.unit.Unit.TheVariants.{Nak, Can}
use Rattle.serial_pipes.specs.State.{mark_for}
use Rattle.serial_pipes.specs.Events.{told_by}
use Rattle.route_table.specs.Network.{Link, Network}
use Rattle.chip_sim.specs.declared.out.ChipOut.{ChipOut}
use Rattle.chip_sim.specs.declared.out.ChipOut.TheVariants.{Write}
use Rattle.zw_words.specs.declared.side.Side.TheVariants.{Chip as by_chip}
use Rattle.zw_text.specs.declared.entry.Entry.{Entry}
use Rattle.zw_text.specs.declared.entry.Entry.TheVariants as entry
use Rattle.zw_text.proofs.Views.{folded-append}
use Rattle.law_transcript.specs.Lists.{EachAfter}
use Rattle.law_transcript.specs.Nodes.{controller}
use Rattle.law_transcript.specs.Restarts.{begins_refused}
use Rattle.law_wire.specs.Asked.{Course, Sending, acks, is_ack, last_sending}
use Rattle.law_wire.specs.Networks.{chip_network, listens_at, network_of}
use Rattle.law_wire.specs.Routes.{HasNoRoute}
use Rattle.law_wire.specs.Taking.{IsAsked, IsPassedOver, MayAir, answer_step, begins_answer, goes_on, is_answering, to_air}
use Rattle.outside_model.specs.Devices.{State}
use Rattle.outside_model.specs.State.{OuterState, each}
use Rattle.outside_model.specs.Chip.{put_out}
use Rattle.proof_routes.proofs.Books.{IsStill, SameShown, same_shown, same_then, still_shown}
use Rattle.proof_chip.proofs.Airing.{IsMore, IsNoAck}
use Rattle.proof_chip.proofs.Judging.{air_later}
use Rattle.proof_chip.proofs.Quieting.{AnswersNone, AreQuiet, marks_more, puts_more}

-- neither an ACK of the chip nor a frame of the controller
abbrev pub IsOther : Entry → Type 0
IsOther (entry.Written by_chip unit) = is_ack unit ≡ false
IsOther (entry.Air frame sender receiver repeaters payload) = (sender == controller) ≡ false
IsOther e = Unit {0}

other_no_ack : (e : Entry) → IsOther e → IsNoAck e
other_no_ack (entry.Written by_chip unit) other = other
other_no_ack e other = tt

pub more_other : (e : Entry) → IsMore e → IsOther e
more_other (entry.Written by_chip unit) more = more.1
more_other (entry.Air frame sender receiver repeaters payload) more = absurd (let none : false ≡ true = more.0 in cc)
more_other e more = tt

-- ---- the chip's network

-- it shows nothing of networks, and refuses no line
abbrev pub ShowsNone : Entry → Type 0
ShowsNone e = IsStill e × (begins_refused (e ∷ []) ≡ false)

pub shown_all : (told past : List Entry) → AllByRecursion ShowsNone told → SameShown (past ++ told) past
shown_all [] past none = same_shown (past ++ []) past (append-nil past)
shown_all (e ∷ told) past none =
    same_then (past ++ e ∷ told) ((past ++ e ∷ []) ++ told) past (same_shown (past ++ e ∷ told) ((past ++ e ∷ []) ++ told) (sym (append_assoc past (e ∷ []) told)))
    (same_then ((past ++ e ∷ []) ++ told) (past ++ e ∷ []) past (shown_all told (past ++ e ∷ []) none.1) (still_shown past e none.0.0 (inl none.0.1)))

pub network_all : (devices : List State) (told past : List Entry) → AllByRecursion ShowsNone told → chip_network devices (past ++ told) ≡ chip_network devices past
network_all devices told past none =
    let same = shown_all told past none in
    ap₂ (λ (links : List Link) (nodes : List ℕ). network_of links (filter (listens_at devices) nodes)) same.chip same.nodes

going_still : (e : Entry) → goes_on e ≡ true → IsStill e
going_still (entry.Said words) goes = absurd (let none : false ≡ true = goes in cc)
going_still (entry.Forget a b) goes = absurd (let none : false ≡ true = goes in cc)
going_still e goes = tt

going_keeps : (e : Entry) → goes_on e ≡ true → begins_refused (e ∷ []) ≡ false
going_keeps (entry.Refused refusal) goes = absurd (let none : false ≡ true = goes in cc)
going_keeps e goes = refl

-- ---- the law

module _ (devices : List State) (course : Course) where
  -- what is left to go on the air has no way
  abbrev pub Over : List Entry → Type 0
  Over past = IsPassedOver false devices course past

  passed_over : (b : Bool) (past : List Entry) → Over past → IsPassedOver b devices course past
  passed_over true past over = tt
  passed_over false past over = over

  other_stands : (past : List Entry) (e : Entry) → IsOther e → Over past → MayAir devices course past e
  other_stands past (entry.Air frame sender receiver repeaters payload) other over = subst (λ (b : Bool). IsAsked b devices course past receiver payload) (sym other) over
  other_stands past e other over = passed_over (goes_on e) past over

  none_begins : (e : Entry) → IsOther e → begins_answer e ≡ false
  none_begins (entry.Written by_chip unit) other = other
  none_begins e other = refl

  -- where nothing is left
  pub over_none : (past : List Entry) → to_air course past ≡ [] → Over past
  over_none past none = subst (λ (l : List Sending). AllByRecursion (λ (one : Sending). HasNoRoute (chip_network devices past) one.node) l) (sym none) tt

  -- where the same is left, by the same network
  pub over_same : (past later : List Entry) → chip_network devices later ≡ chip_network devices past → to_air course later ≡ to_air course past → Over past → Over later
  over_same past later network same over =
      subst (λ (l : List Sending). AllByRecursion (λ (one : Sending). HasNoRoute (chip_network devices later) one.node) l) (sym same)
      (subst (λ (net : Network). AllByRecursion (λ (one : Sending). HasNoRoute net one.node) (to_air course past)) (sym network) over)

  stays_over : (past : List Entry) (e : Entry) → IsOther e → Over past → Over (past ++ e ∷ [])
  stays_over past e other over = by (goes_on e) refl
    where
      ends : (before : Bool) → goes_on e ≡ false → answer_step before e ≡ false
      ends before goes = ap₂ (λ (a b : Bool). a || (before && b)) (none_begins e other) goes ∙ nothing before
        where
          nothing : (b : Bool) → (false || (b && false)) ≡ false
          nothing true = refl
          nothing false = refl

      still : goes_on e ≡ true → (to_air course (past ++ e ∷ []) ≡ to_air course past) ⊎ (to_air course (past ++ e ∷ []) ≡ []) → Over (past ++ e ∷ [])
      still goes (inl same) = over_same past (past ++ e ∷ []) (network_all devices (e ∷ []) past ((going_still e goes, going_keeps e goes), tt)) same over
      still goes (inr none) = over_none (past ++ e ∷ []) none

      by : (b : Bool) → goes_on e ≡ b → Over (past ++ e ∷ [])
      by true goes = still goes (air_later course past (e ∷ []) (other_no_ack e other, tt))
      by false goes =
          over_none (past ++ e ∷ [])
          (ap (λ (b : Bool). if b then filter (λ (sending : Sending). sending.place + 1 == acks (past ++ e ∷ [])) (last_sending course (past ++ e ∷ [])) else [])
          (folded-append answer_step false past (e ∷ []) ∙ ends (is_answering past) goes))

  pub others_stand : (told past : List Entry) → AllByRecursion IsOther told → Over past → EachAfter (MayAir devices course) past told × Over (past ++ told)
  others_stand [] past others over = (tt, subst (λ (l : List Entry). Over l) (sym (append-nil past)) over)
  others_stand (e ∷ told) past others over =
      let rest = others_stand told (past ++ e ∷ []) others.1 (stays_over past e others.0 over) in
      ((other_stands past e others.0 over, rest.0), subst (λ (l : List Entry). Over l) (append_assoc past (e ∷ []) told) rest.1)

pub others_no_ack : (told : List Entry) → AllByRecursion IsOther told → AllByRecursion IsNoAck told
others_no_ack [] others = tt
others_no_ack (e ∷ told) others = (other_no_ack e others.0, others_no_ack told others.1)

-- ---- an event of the chip that answers no frame

put_other : (puts : List ChipOut) (o : OuterState) → AreQuiet puts → AllByRecursion IsOther (each put_out o puts).entries
put_other puts o quiet = all-weaker IsMore IsOther more_other (each put_out o puts).entries (puts_more puts o quiet)

refused_other : (puts : List ChipOut) (o : OuterState) (unit : LineUnit) → is_ack (unit_text unit) ≡ false → AreQuiet puts → AllByRecursion IsOther (each put_out o (Write unit ∷ puts)).entries
refused_other puts o unit no_ack quiet =
    let told : List Entry = told_by by_chip o.to_host.bytes (mark_for o.to_host.marks unit) (unit_text unit) in (
      no_ack,
      all-append IsOther told (each put_out (put_out o (Write unit)).outer puts).entries
          (all-weaker IsMore IsOther more_other told (marks_more o.to_host.bytes (mark_for o.to_host.marks unit) (unit_text unit))) (put_other puts (put_out o (Write unit)).outer quiet),
    )

pub puts_other : (puts : List ChipOut) (o : OuterState) → AnswersNone puts → AllByRecursion IsOther (each put_out o puts).entries
puts_other [] o none = tt
puts_other (Write Nak ∷ puts) o none = refused_other puts o Nak refl none
puts_other (Write Can ∷ puts) o none = refused_other puts o Can refl none
puts_other puts o none = put_other puts o none
