-- What a tick makes of the course of notes: nothing, where no wait ends in it; else what is due of it goes on node by node, as the host has its ticks.
use Rattle.std.proofs.Common.{◌≡◌, ℕ, ◌&&◌, not, Bool, true, false, if◌then◌else◌, List, [], ◌∷◌, ◌++◌, refl, sym, ap, ap₂, ◌∙◌, append-nil, append_assoc}
use Rattle.std.specs.Prelude.{nat_le}
use Rattle.std.specs.List.{list_any}
use Rattle.zw_text.specs.declared.entry.Done.TheVariants as done
use Rattle.zw_text.specs.declared.entry.Entry.{Entry}
use Rattle.law_time.specs.Ends.{giving_up, silence}
use Rattle.law_time.specs.Heeds.{Heeds}
use Rattle.law_time.specs.Moments.{clock}
use Rattle.law_time.specs.Requests.{asked}
use Rattle.law_time.specs.Unanswered.{to_give_up}
use Rattle.proof_ends.specs.proof_requests.law_host.Course.{Course, each_in_turn}
use Rattle.proof_ends.specs.proof_requests.law_host.Ends.{ends_without, given_up_notes, gives_up, gives_up_late}
use Rattle.proof_ends.specs.proof_requests.law_host.Ticks.{denies, is_denied, nodes_in_order, ticks, waits_out}
use Rattle.proof_following.specs.Ended.{rest_of}
use Rattle.proof_following.specs.Quiet.{NoneGone, Waits}

-- ---- one after another

pub in_turn_append : {A : Type 0} (f : A → Course → Course) (first later : List A) (c : Course) → each_in_turn f (first ++ later) c ≡ each_in_turn f later (each_in_turn f first c)
in_turn_append f [] later c = refl
in_turn_append f (x ∷ first) later c = in_turn_append f first later (f x c)

-- ---- no wait has ended

module _ (heeds : Heeds) (past : List Entry) (now : ℕ) where
  pub none_gone : (nodes : List ℕ) (c : Course) → NoneGone heeds now (past ++ c.due) nodes → each_in_turn (gives_up_late heeds past now) nodes c ≡ c
  none_gone [] c none = refl
  none_gone (n ∷ nodes) c none =
      let same : gives_up_late heeds past now n c ≡ c = ap (λ (l : List ℕ). each_in_turn (gives_up past n) l c) none.0 in
      ap (λ (d : Course). each_in_turn (gives_up_late heeds past now) nodes d) same ∙ none_gone nodes c none.1

  pub waits_same : Waits past now → (c : Course) → waits_out heeds past now c ≡ c
  waits_same waits c =
      ap (λ (b : Bool). if b then ends_without heeds past now done.LinkFailed c else (if list_any (λ tick. nat_le tick now) (silence (asked past)) then ends_without heeds past now done.Silent c else c)) waits.given
      ∙ ap (λ (b : Bool). if b then ends_without heeds past now done.Silent c else c) waits.silent

  -- the request is over, or waits
  pub goes_on : (c : Course) → (c.over ≡ false → Waits past now) → (if c.over then record c { ticked = now } else waits_out heeds past now (record c { ticked = now })) ≡ record c { ticked = now }
  goes_on c waits = by c.over refl
    where
      by : (b : Bool) → c.over ≡ b → (if b then record c { ticked = now } else waits_out heeds past now (record c { ticked = now })) ≡ record c { ticked = now }
      by true is = refl
      by false is = waits_same (waits is) (record c { ticked = now })

  -- a tick in which nothing is noted
  pub still_ticks : (c : Course) → (c.over ≡ false → Waits past now) → NoneGone heeds now (past ++ c.due) (nodes_in_order past) → ticks heeds past now c ≡ record c { ticked = now }
  still_ticks c waits none =
      ap (λ (d : Course). each_in_turn (gives_up_late heeds past now) (nodes_in_order past) d) (goes_on c waits)
      ∙ none_gone (nodes_in_order past) (record c { ticked = now }) none

  -- the line gives it up, or its wait ends
  pub given_ticks : (c : Course) → c.over ≡ false → list_any (λ tick. nat_le tick now) (giving_up (asked past)) ≡ true
      → ticks heeds past now c ≡ each_in_turn (gives_up_late heeds past now) (nodes_in_order past) (ends_without heeds past now done.LinkFailed (record c { ticked = now }))
  given_ticks c running given =
      ap (λ (d : Course). each_in_turn (gives_up_late heeds past now) (nodes_in_order past) d)
      (ap (λ (b : Bool). if b then record c { ticked = now } else waits_out heeds past now (record c { ticked = now })) running
      ∙ ap (λ (b : Bool). if b then ends_without heeds past now done.LinkFailed (record c { ticked = now })
      else (if list_any (λ tick. nat_le tick now) (silence (asked past)) then ends_without heeds past now done.Silent (record c { ticked = now }) else record c { ticked = now })) given)

  pub silent_ticks : (c : Course) → c.over ≡ false → list_any (λ tick. nat_le tick now) (giving_up (asked past)) ≡ false → list_any (λ tick. nat_le tick now) (silence (asked past)) ≡ true
      → ticks heeds past now c ≡ each_in_turn (gives_up_late heeds past now) (nodes_in_order past) (ends_without heeds past now done.Silent (record c { ticked = now }))
  silent_ticks c running given silent =
      ap (λ (d : Course). each_in_turn (gives_up_late heeds past now) (nodes_in_order past) d)
      (ap (λ (b : Bool). if b then record c { ticked = now } else waits_out heeds past now (record c { ticked = now })) running
      ∙ ap (λ (b : Bool). if b then ends_without heeds past now done.LinkFailed (record c { ticked = now })
      else (if list_any (λ tick. nat_le tick now) (silence (asked past)) then ends_without heeds past now done.Silent (record c { ticked = now }) else record c { ticked = now })) given
      ∙ ap (λ (b : Bool). if b then ends_without heeds past now done.Silent (record c { ticked = now }) else record c { ticked = now }) silent)

  -- ---- node by node

  -- up to a node at which something is noted, or not
  pub up_to_node : (front back : List ℕ) (n : ℕ) (c : Course) → NoneGone heeds now (past ++ c.due) front
      → each_in_turn (gives_up_late heeds past now) (front ++ n ∷ back) c ≡ each_in_turn (gives_up_late heeds past now) back (gives_up_late heeds past now n c)
  up_to_node front back n c none =
      in_turn_append (gives_up_late heeds past now) front (n ∷ back) c
      ∙ ap (λ (d : Course). each_in_turn (gives_up_late heeds past now) back (gives_up_late heeds past now n d)) (none_gone front c none)

  -- what is due only grows
  late_grows : (n : ℕ) (commands : List ℕ) (c : Course) → (some : List Entry) × ((each_in_turn (gives_up past n) commands c).due ≡ c.due ++ some)
  late_grows n [] c = ([], sym (append-nil c.due))
  late_grows n (command ∷ commands) c =
      let more = late_grows n commands (gives_up past n command c) in
      let notes : List Entry = given_up_notes (past ++ c.due) n command in
      (notes ++ more.0, more.1 ∙ append_assoc c.due notes more.0)

  pub nodes_grow : (nodes : List ℕ) (c : Course) → (some : List Entry) × ((each_in_turn (gives_up_late heeds past now) nodes c).due ≡ c.due ++ some)
  nodes_grow [] c = ([], sym (append-nil c.due))
  nodes_grow (n ∷ nodes) c =
      let one = late_grows n (to_give_up heeds (past ++ c.due) now n) c in
      let more = nodes_grow nodes (gives_up_late heeds past now n c) in
      (one.0 ++ more.0, more.1 ∙ ap (λ (l : List Entry). l ++ more.0) one.1 ∙ append_assoc c.due one.0 more.0)

  late_rest : (n : ℕ) (commands : List ℕ) (c : Course) → rest_of (each_in_turn (gives_up past n) commands c) ≡ rest_of c
  late_rest n [] c = refl
  late_rest n (command ∷ commands) c = late_rest n commands (gives_up past n command c)

  pub nodes_rest : (nodes : List ℕ) (c : Course) → rest_of (each_in_turn (gives_up_late heeds past now) nodes c) ≡ rest_of c
  nodes_rest [] c = refl
  nodes_rest (n ∷ nodes) c = nodes_rest nodes (gives_up_late heeds past now n c) ∙ late_rest n (to_give_up heeds (past ++ c.due) now n) c

  late_over : (n : ℕ) (commands : List ℕ) (c : Course) → (each_in_turn (gives_up past n) commands c).over ≡ c.over
  late_over n [] c = refl
  late_over n (command ∷ commands) c = late_over n commands (gives_up past n command c)

  pub nodes_over : (nodes : List ℕ) (c : Course) → (each_in_turn (gives_up_late heeds past now) nodes c).over ≡ c.over
  nodes_over [] c = refl
  nodes_over (n ∷ nodes) c = nodes_over nodes (gives_up_late heeds past now n c) ∙ late_over n (to_give_up heeds (past ++ c.due) now n) c

  -- ---- an answer

  pub undenied : (c : Course) → (c.over ≡ false → is_denied past ≡ false) → denies heeds past c ≡ c
  undenied c not_so = by c.over refl
    where
      by : (b : Bool) → c.over ≡ b → (if not b && is_denied past then ends_without heeds past (clock past) done.LinkFailed c else c) ≡ c
      by true is = refl
      by false is = ap (λ (b : Bool). if b then ends_without heeds past (clock past) done.LinkFailed c else c) (not_so is)

  pub denied : (c : Course) → c.over ≡ false → is_denied past ≡ true → denies heeds past c ≡ ends_without heeds past (clock past) done.LinkFailed c
  denied c running is =
      ap₂ (λ (a b : Bool). if not a && b then ends_without heeds past (clock past) done.LinkFailed c else c) running is
