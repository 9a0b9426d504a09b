-- The count of the frames for the host goes on with what an event enters, with the number of the tick that may stand before it.
use Rattle.std.proofs.Common.{◌≡◌, ◌&&◌, ◌||◌, not, Bool, true, false, if◌then◌else◌, List, [], ◌∷◌, ◌++◌, refl, sym, subst, append-nil, append_assoc}
use Rattle.serial_link.specs.Rules.{Step}
use Rattle.chip_sim.specs.Waiting.{PortState}
use Rattle.zw_text.specs.declared.entry.Entry.{Entry}
use Rattle.zw_text.specs.declared.entry.Entry.TheVariants as entry
use Rattle.outside_model.specs.Devices.{State}
use Rattle.outside_model.specs.State.{OuterState, Outcome}
use Rattle.outside_model.specs.Events.{has_entered, stamp, ticked_entry}
use Rattle.proof_air.specs.proof_walk.Outside.{awaits_number}
use Rattle.proof_chip.specs.Tally.{Counting, Outlook, TallyNow, TallySo, outlook}
use Rattle.proof_chip.proofs.Asides.{AreUnrelated}
use Rattle.proof_chip.proofs.Tallied.{Stays, apart_t, now_number_t, now_stays}

pub no_more : (b c : Bool) → (b && not (b || c)) ≡ false
no_more true c = refl
no_more false c = refl

pub entered_outlook : (p : OuterState) (told : List Entry) → outlook (has_entered p told) ≡ outlook p
entered_outlook p [] = refl
entered_outlook p (first ∷ told) = refl

-- what is done after these entries, or after them and the number of the tick, where that is still to be entered only if nothing is
module _ (Before After : Bool → Counting) (p : OuterState) (did now : List Step) (past : List Entry) (port : PortState) where
  abbrev pub Makes : List Entry → Type 0
  Makes told =
      (b : Bool) (here more : List Entry) → here ≡ past ++ more → (b ≡ true → told ≡ []) → TallySo (Before b) did here port → TallySo (After b) now (here ++ told) p.chip.state.port

  abbrev pub Numbers : Type 0
  Numbers = TallySo (Before (awaits_number p)) did past port → TallySo (Before false) did (past ++ ticked_entry p) port

  pub stamp_t : (told : List Entry) → Makes told → Numbers → TallySo (Before (awaits_number p)) did past port
      → TallySo (After (awaits_number (has_entered p told))) now (past ++ stamp p told) (has_entered p told).chip.state.port
  stamp_t [] makes numbers so = makes (awaits_number p) past [] (sym (append-nil past)) (λ is. refl) so
  stamp_t (first ∷ told) makes numbers so =
      subst (λ (b : Bool). TallySo (After b) now (past ++ (ticked_entry p ++ first ∷ told)) p.chip.state.port) (sym (no_more p.in_tick p.stamped))
      (subst (λ (l : List Entry). TallySo (After false) now l p.chip.state.port) (append_assoc past (ticked_entry p) (first ∷ told))
      (makes false (past ++ ticked_entry p) (ticked_entry p) refl (λ is. absurd (let no : false ≡ true = is in cc)) (numbers so)))

module _ (devices : List State) (o : OuterState) (x : Outcome) (did : List Step) (past : List Entry) (apart : AreUnrelated x.entries) (side : x.outer.chip.state.port.side ≡ o.chip.state.port.side)
    (waiting : x.outer.chip.state.port.waiting ≡ o.chip.state.port.waiting) (same : outlook x.outer ≡ outlook o) (awaits : awaits_number x.outer ≡ awaits_number o) where
  -- ---- an event that tells nothing of the chip

  abbrev later : OuterState
  later = has_entered x.outer x.entries

  aside_t : (At : Outlook → Bool → Counting) → ((v : Outlook) (b : Bool) → Stays devices b (At v b))
      → ((v : Outlook) (b : Bool) (port : PortState) → TallySo (At v b) did past port → TallySo (At v false) did (past ++ (if b then entry.Time v.clock ∷ [] else [])) port)
      → TallySo (At (outlook o) (awaits_number o)) did past o.chip.state.port → TallySo (At (outlook later) (awaits_number later)) did (past ++ stamp x.outer x.entries) later.chip.state.port
  aside_t At stays number so =
      let v : Outlook = outlook x.outer in
      let here : TallySo (At v (awaits_number x.outer)) did past o.chip.state.port =
      subst (λ (b : Bool). TallySo (At v b) did past o.chip.state.port) (sym awaits) (subst (λ (u : Outlook). TallySo (At u (awaits_number o)) did past o.chip.state.port) (sym same) so) in
      subst (λ (u : Outlook). TallySo (At u (awaits_number later)) did (past ++ stamp x.outer x.entries) later.chip.state.port) (sym (entered_outlook x.outer x.entries))
      (stamp_t (At v) (At v) x.outer did did past o.chip.state.port x.entries
      (λ b all more is silent was. apart_t devices b (At v b) (stays v b) did all x.entries o.chip.state.port x.outer.chip.state.port silent apart side waiting was)
      (λ was. number v (awaits_number x.outer) o.chip.state.port was) here)

  pub aside_now_t : TallySo (TallyNow devices (outlook o) (awaits_number o) 0) did past o.chip.state.port
      → TallySo (TallyNow devices (outlook later) (awaits_number later) 0) did (past ++ stamp x.outer x.entries) later.chip.state.port
  aside_now_t so = aside_t (λ v b. TallyNow devices v b 0) (λ v b. now_stays devices v b 0) (λ v b port was. now_number_t devices v b did past port was) so
