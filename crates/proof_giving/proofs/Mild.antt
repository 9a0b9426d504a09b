-- What an event of a host at which no request is submitted or ends, no node ticks and no session begins makes of a node and of its attempts, as they are told.
use Rattle.std.proofs.Common.{◌≡◌, ◌⊎◌, ℕ, ◌+◌, ◌==◌, ◌||◌, Bool, true, false, if◌then◌else◌, inl, inr, List, [], ◌∷◌, ◌++◌, length, Option, refl, sym, ap, ◌∙◌, subst}
use Rattle.std.specs.List.{list_any}
use Rattle.std.proofs.lemmas.Bool.{cases_eq, eq-eqb, eqb-true, ne_eqb}
use Rattle.zw_base.specs.declared.property.Setting.{Setting}
use Rattle.host_keep.specs.Status.{status_byte}
use Rattle.host_keep.specs.declared.final_status.FinalStatus.{FinalStatus}
use Rattle.zw_text.specs.declared.entry.Entry.{Entry}
use Rattle.zw_text.specs.declared.entry.Entry.TheVariants as entry
use Rattle.zw_text.specs.Transcript.{folded}
use Rattle.supervision.specs.Host.{told_of}
use Rattle.supervision.specs.declared.host_node.Told.{Told as TheTold}
use Rattle.supervision.specs.declared.host_node.Told.TheVariants.{Working}
use Rattle.law_time.specs.Attempts.{Attempts, anew}
use Rattle.host_node.specs.Events.{after as after_node}
use Rattle.host_node.specs.Events.NodeEvent.{Joins as node_joins, Interviews as node_interviews, Puts as node_puts, Cancels as node_cancels, Blocks, Takes_nonce as node_takes_nonce, Reports, Holds, Queues_no_more as node_queues_no_more, Drops_no_more as node_drops_no_more}
use Rattle.host_node.specs.State.{NodeState, SealsText}
use Rattle.host_node.specs.Steps.{after_occasion, after_told, tried_again}
use Rattle.host_model.specs.State.{HostState, command_at, node_of}
use Rattle.host_model.specs.Sessions.{settings_with}
use Rattle.host_model.specs.Facts.{HostFacts}
use Rattle.host_model.specs.After.{is_full, is_held, node_for}
use Rattle.host_model.specs.Events.{HostEvent, Accepts, Cancels, Joins, Hears, Requests_do, Interviews, Works, Finishes, Offers, Gives, Takes_nonce, Notifies, Resends, Line_ticks, Node_ticks, Queues_no_more, Drops_no_more, Submits_abort, Submits_front, Starts, Gives_text, Gives_segment, Begins, Begin_unkept}
use Rattle.host_model.specs.May.{IsFinal, May}
use Rattle.host_model.specs.Outs.{dropped_if, ended_of, held_entries, noted, outs, stored_entries}
use Rattle.proof_host.specs.Entries.{notes_of}
use Rattle.proof_queue.proofs.Doings.{did, does_at, held_does}
use Rattle.proof_queue.proofs.KeptAwake.{ending_of, opened_command}
use Rattle.proof_queue.proofs.Nodes.{answer_notes, ends_by, notes_noted}
use Rattle.proof_queue.proofs.Opening.{open_last}
use Rattle.proof_queue.proofs.SeriesGoes.{lasts_of, others_by}
use Rattle.proof_giving.specs.Tie.{NodeSo, anew_step, signed}
use Rattle.proof_giving.specs.Walking.{IsMild}
use Rattle.proof_giving.proofs.Begun.{seals_so}
use Rattle.proof_giving.proofs.NodesGo.{parts_of}
use Rattle.proof_giving.proofs.Signs.{either_signed, final_signed, nonce_signed, occasion_signed, same_signed, sign_signed}

-- nor is a node said to be at work
abbrev pub IsNoSign : HostEvent → Type 0
IsNoSign (Works k id) = ⊥
IsNoSign event = IsMild event

-- ---- what is told

stored_still : (last : ℕ → Bool) (a : Attempts) (k : ℕ) (settings : List Setting) (held : Bool) → folded (anew_step last) a (stored_entries k settings ++ held_entries k held) ≡ a
stored_still last a k [] true = refl
stored_still last a k [] false = refl
stored_still last a k (one ∷ settings) held = stored_still last a k settings held

dropped_still : (last : ℕ → Bool) (a : Attempts) (full : Bool) (k : ℕ) → folded (anew_step last) a (notes_of (noted (dropped_if full k))) ≡ a
dropped_still last a true k = refl
dropped_still last a false k = refl

module _ (h : HostState) (n : ℕ) (facts : HostFacts h) (a : Attempts) (time : ℕ) (badly : Bool) (b : Bool) where
  abbrev s : NodeState
  s = node_of h n

  abbrev So : NodeState → Type 0
  So t = NodeSo a (signed b t) time badly

  abbrev Goes : HostEvent → Type 0
  Goes event = NodeSo (folded (anew_step (lasts_of s)) a (notes_of (outs h event))) (signed b (does_at n s (did h event))) time badly

  set_by : (k : ℕ) (t : NodeState) → parts_of t ≡ parts_of s → So s → So (if k == n then t else s)
  set_by k t same so = either_signed a time badly b (k == n) t s (same_signed a time badly b s t same so) so

  -- an occasion of the node
  occasion_by : (k : ℕ) (x : NodeState) → parts_of x ≡ parts_of s → So s → So (if k == n then after_occasion x else s)
  occasion_by k x same so = either_signed a time badly b (k == n) (after_occasion x) s (occasion_signed a time badly b x (same_signed a time badly b s x same so)) so

  accepts_by : (c : Bool) (x : NodeState) → parts_of x ≡ parts_of s → So s → So (if c then after_occasion (if c then x else s) else (if c then x else s))
  accepts_by true x same so = occasion_signed a time badly b x (same_signed a time badly b s x same so)
  accepts_by false x same so = so

  nonce_by : (k seen : ℕ) (text : List ℕ) → May h (Takes_nonce k seen text) → So s → So (if k == n then after_node s (node_takes_nonce seen text) else s)
  nonce_by k seen text (nonce, own_nonce, counts, seals, eight) so = by (k == n) refl
    where
      by : (c : Bool) → (k == n) ≡ c → So (if c then after_node s (node_takes_nonce seen text) else s)
      by true is =
          let mine : SealsText s h.keys own_nonce nonce text = subst (λ (m : ℕ). SealsText (node_of h m) h.keys own_nonce nonce text) (eqb-true k n is) seals in
          nonce_signed a time badly b s seen text mine.plain mine.is_pending (seals_so s h.keys own_nonce nonce text mine) so
      by false is = so

  holds_by : (k : ℕ) (held : Bool) (x : Attempts) (t : NodeState) → NodeSo x (signed b t) time badly → NodeSo x (signed b (does_at n t (held_does k held))) time badly
  holds_by k true x t so = either_signed x time badly b (k == n) (after_node t Holds) t (same_signed x time badly b t (after_node t Holds) refl so) so
  holds_by k false x t so = so

  finished_by : (k session id command : ℕ) (status : FinalStatus) → IsFinal h k session id command status → So s
      → NodeSo (if lasts_of s command then anew a else a) (signed b (if k == n then after_node s (Reports id (status_byte status)) else s)) time badly
  finished_by k session id command status it so = by (cases_eq k n)
    where
      byte : ℕ
      byte = status_byte status

      by : (k ≡ n) ⊎ (k ≡ n → ⊥) → NodeSo (if lasts_of s command then anew a else a) (signed b (if k == n then after_node s (Reports id byte) else s)) time badly
      by (inl same) =
          let mine : IsFinal h n session id command status = subst (λ (m : ℕ). IsFinal h m session id command status) same it in
          let last : lasts_of s command ≡ true
          = ap (λ (l : List ℕ). list_any (λ one. one == command) l) (ending_of h n session id command status mine).last ∙ ap (λ (c : Bool). c || false) (eq-eqb command command refl) in
          subst (λ (c : Bool). NodeSo (if c then anew a else a) (signed b (if k == n then after_node s (Reports id byte) else s)) time badly) (sym last)
          (subst (λ (c : Bool). NodeSo (anew a) (signed b (if c then after_node s (Reports id byte) else s)) time badly) (sym (eq-eqb k n same))
          (subst (λ (t : TheTold). NodeSo (anew a) (signed b (after_told s byte t)) time badly) (sym mine.told) (final_signed a b s time badly byte)))
      by (inr differs) =
          let other : lasts_of s command ≡ false
          = sym (ap (λ (o : Option ℕ). ends_by (lasts_of s) o) (opened_command h k session id command status it))
          ∙ others_by h.commands k n (node_of h k) s differs (facts.owns k).sessions (facts.owns n).sessions (open_last (node_of h k)) in
          subst (λ (c : Bool). NodeSo (if c then anew a else a) (signed b (if k == n then after_node s (Reports id byte) else s)) time badly) (sym other)
          (subst (λ (c : Bool). So (if c then after_node s (Reports id byte) else s)) (sym (ne_eqb k n differs)) so)

  still : (full : Bool) (k : ℕ) (t : NodeState) → So t → NodeSo (folded (anew_step (lasts_of s)) a (notes_of (noted (dropped_if full k)))) (signed b t) time badly
  still full k t so = subst (λ (x : Attempts). NodeSo x (signed b t) time badly) (sym (dropped_still (lasts_of s) a full k)) so

  pub mild_goes : (event : HostEvent) → May h event → IsNoSign event → So s → Goes event
  mild_goes (Requests_do event moment) may mild so = absurd mild
  mild_goes Line_ticks may mild so = absurd mild
  mild_goes (Node_ticks k) may mild so = absurd mild
  mild_goes Submits_abort may mild so = absurd mild
  mild_goes Submits_front may mild so = absurd mild
  mild_goes (Starts k plan more payload) may mild so = absurd mild
  mild_goes (Gives_text k payload) may mild so = absurd mild
  mild_goes (Gives_segment k more payload) may mild so = absurd mild
  mild_goes (Begins k session command) may mild so = absurd mild
  mild_goes (Works k id) may mild so = absurd mild
  mild_goes (Accepts order carriage) may mild so = accepts_by (order.node == n) (after_node s (node_puts (length h.commands + 1))) refl so
  mild_goes (Cancels command) may mild so = set_by (node_for h command) (after_node s (node_cancels command)) refl so
  mild_goes (Joins k) may mild so = set_by k (after_node s node_joins) refl so
  mild_goes (Hears item) may mild so = subst (λ (l : List Entry). NodeSo (folded (anew_step (lasts_of s)) a l) (signed b s) time badly) (sym (answer_notes item)) so
  mild_goes (Interviews k listens classes update) may mild so = set_by k (after_node s (node_interviews listens classes)) refl so
  mild_goes (Finishes k session id command status wake_request) may mild so =
      let settings : List Setting = settings_with status (command_at h.commands command) in
      let held = is_held h k wake_request in
      let first : Attempts = if lasts_of s command then anew a else a in
      let later : NodeState = if k == n then after_node s (Reports id (status_byte status)) else s in
      subst (λ (x : Attempts). NodeSo x (signed b (does_at n later (held_does k held))) time badly)
      (sym (ap (λ (l : List Entry). folded (anew_step (lasts_of s)) a l) (notes_noted (entry.Out command (ended_of status) ∷ (stored_entries k settings ++ held_entries k held)))
      ∙ stored_still (lasts_of s) first k settings held))
      (holds_by k held first later (finished_by k session id command status may so))
  mild_goes (Offers k) may mild so = still (is_full h) k s so
  mild_goes (Gives k drawn) may mild so = still (is_full h) k s so
  mild_goes (Resends k payload) may mild so = still (is_full h) k s so
  mild_goes (Takes_nonce k seen text) may mild so = nonce_by k seen text may so
  mild_goes (Notifies k) may mild so = occasion_by k (record s { awake = true; no_more = tried_again s.no_more }) refl so
  mild_goes (Queues_no_more k) may mild so = set_by k (after_node s node_queues_no_more) refl so
  mild_goes (Drops_no_more k) may mild so = set_by k (after_node s node_drops_no_more) refl so
  mild_goes (Begin_unkept k) may mild so = set_by k (after_node s Blocks) refl so
  mild_goes event may mild so = so

-- a node is at work, which its sign has told already
pub works_go : (h : HostState) (n k id : ℕ) (a : Attempts) (time : ℕ) (badly b : Bool) → May h (Works k id) → NodeSo a (signed ((k == n) || b) (node_of h n)) time badly
    → NodeSo a (signed b (does_at n (node_of h n) (did h (Works k id)))) time badly
works_go h n k id a time badly b may so = by (k == n) refl so
  where
    s : NodeState
    s = node_of h n

    by : (c : Bool) → (k == n) ≡ c → NodeSo a (signed (c || b) s) time badly → NodeSo a (signed b (if c then after_node s (Reports id 1) else s)) time badly
    by true is so =
        let working : told_of s.book id 1 ≡ Working = subst (λ (m : ℕ). told_of (node_of h m).book id 1 ≡ Working) (eqb-true k n is) may in
        subst (λ (t : TheTold). NodeSo a (signed b (after_told s 1 t)) time badly) (sym working) (sign_signed a time badly b s so)
    by false is so = so
