-- What the course of notes makes before an entry where nothing is due: a tick that has passed changes nothing but how far the course has gone.
use Rattle.std.proofs.Common.{◌≡◌, ℕ, ◌&&◌, not, Bool, true, false, if◌then◌else◌, List, [], ◌++◌, refl, sym, ap, ap₂, ◌∙◌, subst, append-nil}
use Rattle.std.specs.Prelude.{nat_lt}
use Rattle.zw_text.specs.declared.entry.Entry.{Entry}
use Rattle.zw_text.specs.declared.entry.Entry.TheVariants as entry
use Rattle.law_time.specs.Heeds.{Heeds}
use Rattle.law_time.specs.Moments.{clock, now_at}
use Rattle.law_time.specs.Requests.{are_none}
use Rattle.proof_ends.specs.proof_requests.law_host.Course.{Course}
use Rattle.proof_ends.specs.proof_requests.law_host.Following.{comes_to, has_heard, has_ticked, is_before_host, is_of_host, nothing_due, passes}
use Rattle.proof_ends.specs.proof_requests.law_host.Ticks.{denies, is_denied, nodes_in_order, ticks}
use Rattle.proof_following.specs.Quiet.{Calm, IsWithin, NoneGone, gone_to}
use Rattle.proof_following.proofs.Entering.{comes_within}
use Rattle.proof_following.proofs.Ticking.{still_ticks, undenied}

module _ (heeds : Heeds) (past : List Entry) where
  pub calm_ticks : (now : ℕ) (c : Course) → c.due ≡ [] → Calm heeds past now c → ticks heeds past now c ≡ record c { ticked = now }
  calm_ticks now c none calm =
      still_ticks heeds past now c calm.waits
      (subst (λ (l : List Entry). NoneGone heeds now l (nodes_in_order past)) (sym (ap (λ (l : List Entry). past ++ l) none ∙ append-nil past)) calm.none)

  calm_ticked : (e : Entry) (c : Course) → c.due ≡ [] → (nat_lt c.ticked (clock past) ≡ true → Calm heeds past (clock past) c) → has_ticked heeds past e c ≡ record c { ticked = gone_to past e c }
  calm_ticked e c none calm = by (nat_lt c.ticked (clock past)) refl (not (is_before_host past e))
    where
      by : (a : Bool) → nat_lt c.ticked (clock past) ≡ a → (b : Bool)
          → (if a && b then ticks heeds past (clock past) c else c) ≡ record c { ticked = if a && b then clock past else c.ticked }
      by true late true = calm_ticks (clock past) c none (calm late)
      by true late false = refl
      by false late b = refl

  calm_heard : (e : Entry) (c : Course) → c.due ≡ [] → (is_of_host e ≡ true → c.over ≡ false → is_denied past ≡ false) → has_heard heeds past e c ≡ c
  calm_heard e c none undenied_so =
      ap (λ (l : List Entry). if are_none l && is_of_host e then denies heeds past c else c) none ∙ by (is_of_host e) refl
    where
      by : (b : Bool) → is_of_host e ≡ b → (if true && b then denies heeds past c else c) ≡ c
      by true of = undenied heeds past (clock past) c (undenied_so of)
      by false of = refl

  -- before an entry within a line or tick
  pub calm_comes : (e : Entry) (c : Course) → IsWithin e → c.due ≡ [] → (nat_lt c.ticked (clock past) ≡ true → Calm heeds past (clock past) c)
      → (is_of_host e ≡ true → c.over ≡ false → is_denied past ≡ false) → comes_to heeds past e c ≡ record c { ticked = gone_to past e c }
  calm_comes e c within none calm undenied_so =
      comes_within heeds past e c within
      ∙ ap (λ (l : List Entry). if are_none l then has_heard heeds past e (has_ticked heeds past e c) else c) none
      ∙ ap (λ (d : Course). has_heard heeds past e d) (calm_ticked e c none calm)
      ∙ calm_heard e (record c { ticked = gone_to past e c }) none undenied_so

  -- before one that begins a line or a tick
  calm_passes : (e : Entry) (c : Course) → c.due ≡ [] → c.fits ≡ true → Calm heeds past (now_at past e) c → passes heeds past e c ≡ record c { ticked = now_at past e }
  calm_passes e c none fits calm =
      ap (λ (d : Course). nothing_due (ticks heeds past (now_at past e) d)) (nothing c none fits)
      ∙ ap nothing_due (calm_ticks (now_at past e) c none calm)
      ∙ nothing (record c { ticked = now_at past e }) none fits
    where
      nothing : (d : Course) → d.due ≡ [] → d.fits ≡ true → nothing_due d ≡ d
      nothing d none well =
          ap₂ (λ (l : List Entry) (b : Bool). record d { fits = b && are_none l; due = [] }) none well ∙ ap₂ (λ (l : List Entry) (b : Bool). record d { fits = b; due = l }) (sym none) (sym well)

  pub calm_numbers : (tick : ℕ) (c : Course) → c.due ≡ [] → c.fits ≡ true → Calm heeds past (now_at past (entry.Time tick)) c
      → comes_to heeds past (entry.Time tick) c ≡ record c { ticked = now_at past (entry.Time tick) }
  calm_numbers tick c none fits calm = calm_passes (entry.Time tick) c none fits calm
