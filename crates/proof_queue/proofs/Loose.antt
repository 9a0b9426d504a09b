-- Entries at which no node wakes or falls asleep, the host does not look, and nothing comes or goes: what waits by the transcript of a host alone is as it was, as it stands and after a look.
use Rattle.std.proofs.Common.{◌≡◌, ◌≤◌, ℕ, arith, ◌&&◌, not, Bool, true, false, List, [], ◌∷◌, ◌++◌, refl, sym, ap, ap₂, ◌∙◌}
use Rattle.std.specs.List.{AllByRecursion}
use Rattle.zw_base.proofs.Each.{all-weaker}
use Rattle.serial_frame.specs.declared.unit.TheConstants.{NAK}
use Rattle.zw_words.specs.declared.side.Side.TheVariants.{Host, Chip}
use Rattle.zw_text.specs.declared.entry.Entry.{Entry}
use Rattle.zw_text.specs.declared.entry.Entry.TheVariants as entry
use Rattle.zw_text.specs.Transcript.{wakings}
use Rattle.host_heard.specs.declared.told.Told.{Told}
use Rattle.law_transcript.specs.Restarts.{begins_refused}
use Rattle.law_transcript.specs.Units.{Carried}
use Rattle.law_time.specs.Judged.{is_data}
use Rattle.law_time.specs.Moments.{clock}
use Rattle.law_time.specs.Requests.{Asked as TheAsked, are_none, asked}
use Rattle.law_time.specs.Queue.{Queue, is_told}
use Rattle.host_requests.specs.declared.task.Task.{Task}
use Rattle.host_model.specs.State.{HostState, node_of}
use Rattle.proof_attempts.specs.proof_requests.Standing.{GoesOn, with_entries}
use Rattle.proof_attempts.specs.proof_requests.law_host.Heard.{heeds_alone}
use Rattle.proof_attempts.specs.proof_requests.proof_alone.Steps.{DidNotCome, IsOfOthers, IsOfUnit}
use Rattle.proof_attempts.proofs.proof_requests_Growing.{asked_on}
use Rattle.proof_queue.proofs.Ending.{told_same}
use Rattle.proof_queue.proofs.Orders.{filter_same, is_among}
use Rattle.proof_queue.proofs.Pumped.{MayLook, sleepers, would_sleep}
use Rattle.proof_queue.proofs.Ties.{Raw, Stand, Stays, TiesSo, Upto, all_moved, raw, raw_stays, same_drops, stays_fit, upto_stays}

-- no node wakes or falls asleep besides
abbrev pub Still : Entry → Type 0
Still (entry.Said words) = ⊥
Still (entry.Refused refusal) = ⊥
Still (entry.QueueFull n) = ⊥
Still (entry.Begin node session command) = ⊥
Still (entry.Time tick) = ⊥
Still (entry.Awake n) = ⊥
Still (entry.Asleep n) = ⊥
Still (entry.Written Host unit) = unit ≡ NAK ∷ []
Still e = Unit {0}

still_stays : (e : Entry) → Still e → Stays e
still_stays (entry.Said words) is = absurd is
still_stays (entry.Refused refusal) is = absurd is
still_stays (entry.QueueFull n) is = absurd is
still_stays (entry.Begin node session command) is = absurd is
still_stays (entry.Time tick) is = absurd is
still_stays (entry.Written Host unit) is = is
still_stays (entry.Written Chip unit) is = tt
still_stays e is = tt

pub still_wakes : (n : ℕ) (told : List Entry) → AllByRecursion Still told → wakings n told ≡ []
still_wakes n [] all = refl
still_wakes n (entry.Awake k ∷ told) all = absurd all.0
still_wakes n (entry.Asleep k ∷ told) all = absurd all.0
still_wakes n (e ∷ told) all = still_wakes n told all.1

pub others_still : (e : Entry) → IsOfOthers e → Still e
others_still (entry.Said words) of = absurd of
others_still (entry.Refused refusal) of = absurd of
others_still (entry.QueueFull n) of = absurd of
others_still (entry.Begin node session command) of = absurd of
others_still (entry.Time tick) of = absurd of
others_still (entry.Awake n) of = absurd of
others_still (entry.Asleep n) of = absurd of
others_still (entry.Written side unit) of = absurd of
others_still e of = tt

pub missed_still : (marks : List Entry) → DidNotCome marks → AllByRecursion Still marks
missed_still (entry.Dropped Chip ∷ []) did = (tt, tt)
missed_still (entry.Overrun Chip ∷ []) did = (tt, tt)
missed_still (entry.Garbled Chip unit ∷ []) did = (tt, tt)
missed_still (entry.Garbled Chip unit ∷ entry.Overrun Chip ∷ []) did = (tt, (tt, tt))
missed_still marks did = absurd did

pub mark_still : (e : Entry) → IsOfUnit e → Still e
mark_still (entry.Dropped Host) mark = tt
mark_still (entry.Garbled Host unit) mark = tt
mark_still (entry.Overrun Host) mark = tt
mark_still e mark = absurd mark

pub and_true : (b : Bool) → b ≡ (b && true)
and_true true = refl
and_true false = refl

-- the last request goes on with them
stays_goes : (e : Entry) → Stays e → GoesOn e
stays_goes (entry.Said words) stays = absurd stays
stays_goes (entry.Written Host unit) stays = ap is_data stays
stays_goes (entry.Written Chip unit) stays = tt
stays_goes e stays = tt

stays_fresh : (told : List Entry) → AllByRecursion Stays told → begins_refused told ≡ false
stays_fresh [] all = refl
stays_fresh (entry.Refused refusal ∷ told) all = absurd all.0
stays_fresh (e ∷ told) all = refl

pub asked_stays : (past told : List Entry) → AllByRecursion Stays told → asked (past ++ told) ≡ with_entries (asked past) told
asked_stays past told all = asked_on past told (stays_fresh told all) (all-weaker Stays GoesOn stays_goes told all)

module _ (taken : List Entry → Carried → List Told) where
  -- where no node wakes or falls asleep nobody is dropped any less
  pub as_still : (q : Queue) (past told : List Entry) (tasks : List Task) (owes : List ℕ) (drops : ℕ → Bool) → ((n : ℕ) → wakings n told ≡ [])
      → TiesSo (heeds_alone taken) q past tasks owes (λ n. drops n && are_none (wakings n told)) → TiesSo (heeds_alone taken) q past tasks owes drops
  as_still q past told tasks owes drops none ties = record {
    stands = same_drops q tasks owes (λ n. drops n && are_none (wakings n told)) drops
        (λ n from to. ap (λ (l : List Bool). drops n && are_none l) (none n) ∙ sym (and_true (drops n))) ties.stands;
    answered = ties.answered;
  }

  pub still_raw : (past told : List Entry) (tasks : List Task) (owes : List ℕ) (drops : ℕ → Bool) → AllByRecursion Still told → Raw taken past tasks owes drops → Raw taken (past ++ told) tasks owes drops
  still_raw past told tasks owes drops all ties =
      as_still (raw taken (past ++ told)) (past ++ told) told tasks owes drops (λ n. still_wakes n told all)
      (raw_stays taken past told tasks owes drops (all-weaker Still Stays still_stays told all) ties)

  pub loose_raw : (past told : List Entry) (tasks : List Task) (drops : ℕ → Bool) → AllByRecursion Still told → Raw taken past tasks [] drops → Stand taken past told × Raw taken (past ++ told) tasks [] drops
  loose_raw past told tasks drops all ties =
      (stays_fit taken past told (all-weaker Still Stays still_stays told all) ties.answered ties.stands.owed_are, still_raw past told tasks [] drops all ties)

  -- who would sleep, and is not told, is as it was
  pub same_sleepers : (past told : List Entry) (h g : HostState) → ((n : ℕ) → 1 ≤ n → n ≤ 232 → would_sleep (node_of g n) ≡ would_sleep (node_of h n)) → AllByRecursion Stays told → ((n : ℕ) → wakings n told ≡ [])
      → sleepers g (asked (past ++ told)) (raw taken (past ++ told)) ≡ sleepers h (asked past) (raw taken past)
  same_sleepers past told h g same stays none =
      let moved = all_moved taken past told stays in
      let on = asked_stays past told stays in
      filter_same (λ (m : ℕ). would_sleep (node_of g m) && not (is_told (asked (past ++ told)) (raw taken (past ++ told)) m)) (λ (m : ℕ). would_sleep (node_of h m) && not (is_told (asked past) (raw taken past) m))
      1 232
      (λ m from to.
      ap₂ (λ (w b : Bool). w && not b) (same m from (omega (arith, to)))
      (told_same (asked past) (asked (past ++ told)) (raw taken past) (raw taken (past ++ told)) told m (ap (λ (a : TheAsked). a.frame) on) (ap (λ (a : TheAsked). a.following) on) moved.wants
      (moved.dropped m ∙ ap (λ (l : List Bool). is_among (raw taken past).dropped m && are_none l) (none m) ∙ sym (and_true (is_among (raw taken past).dropped m))) (none m)))

  -- what waits after a look at the time goes on with them too
  pub loose_upto : (past told : List Entry) (t : ℕ) (h g : HostState) (tasks : List Task) (drops : ℕ → Bool) → ((n : ℕ) → 1 ≤ n → n ≤ 232 → would_sleep (node_of g n) ≡ would_sleep (node_of h n)) → AllByRecursion Still told
      → MayLook past t h → MayLook (past ++ told) t g → clock past ≡ t → clock (past ++ told) ≡ t → Upto taken t past tasks [] drops → Stand taken past told × Upto taken t (past ++ told) tasks [] drops
  loose_upto past told t h g tasks drops same all looks later at at_later ties =
      let stays = all-weaker Still Stays still_stays told all in
      let none = (λ (n : ℕ). still_wakes n told all) in
      let got = upto_stays taken past told t h g tasks drops stays looks later at at_later (same_sleepers past told h g same stays none) ties in
      (got.0, as_still _ (past ++ told) told tasks [] drops none got.1)
