-- What is left out of the ways of three courses, or comes several times, and what is written.
use Rattle.std.proofs.Common.{◌≡◌, ℕ, ◌<◌, false, inl, inr, Option, Some, None, List, [], ◌∷◌, ◌++◌, length, refl, ap, sym, ◌∙◌, subst, append_assoc}
use Rattle.std.proofs.lemmas.List.{append-nil}
use Rattle.std.specs.List.{remove}
use Rattle.std.specs.Option.{option_to_list}
use Rattle.supervision.specs.Host.{begun_of}
use Rattle.proof_course.specs.Ways.{doubled}
use Rattle.proof_course.specs.Sessions.{Course, Message, Writes}
use Rattle.proof_course.specs.NodeNonces as node
use Rattle.proof_course.specs.HostNonces as host
use Rattle.proof_course_plain.specs.Ways.{Thinned, Goes}
use Rattle.proof_course_plain.proofs.ThinnedWays.{goes_nowhere, goes_once, up_thins, down_thins, removed_at, doubled_at}
use Rattle.proof_course_plain.proofs.WayLabels.{thinned_both}
use Rattle.proof_course_sealed.specs.Labels.{Sent, Late, Sealed, Offer, picked, message_of, sealed_for, offer_of, report_of, shown_by, answers_for}
use Rattle.proof_course_sealed.specs.Courses.{Courses, NodeGoes, HostGoes, CoursesGo, GoUp, GoDown, with_up, with_down}

-- ---- steps one after another

node_after : (c : node.Nonces) (first later : List node.Step) → node.after_all c (first ++ later) ≡ node.after_all (node.after_all c first) later
node_after c [] later = refl
node_after c (step ∷ first) later = node_after (node.after c step) first later

node_may : (c : node.Nonces) (first later : List node.Step) → node.MayAll c first → node.MayAll (node.after_all c first) later → node.MayAll c (first ++ later)
node_may c [] later may more = more
node_may c (step ∷ first) later may more = (may.0, node_may (node.after c step) first later may.1 more)

pub node_nowhere : (c : node.Nonces) → NodeGoes c c
node_nowhere c = record { steps = []; may = tt; is = refl }

pub node_on : (a b c : node.Nonces) → NodeGoes a b → NodeGoes b c → NodeGoes a c
node_on a b c first later = record {
  steps = first.steps ++ later.steps;
  may = node_may a first.steps later.steps first.may (subst (λ (x : node.Nonces). node.MayAll x later.steps) first.is later.may);
  is = later.is ∙ (ap (λ (x : node.Nonces). node.after_all x later.steps) first.is ∙ sym (node_after a first.steps later.steps));
}

host_after : (c : host.Nonces) (first later : List host.Step) → host.after_all c (first ++ later) ≡ host.after_all (host.after_all c first) later
host_after c [] later = refl
host_after c (step ∷ first) later = host_after (host.after c step) first later

host_may : (c : host.Nonces) (first later : List host.Step) → host.MayAll c first → host.MayAll (host.after_all c first) later → host.MayAll c (first ++ later)
host_may c [] later may more = more
host_may c (step ∷ first) later may more = (may.0, host_may (host.after c step) first later may.1 more)

pub host_nowhere : (c : host.Nonces) → HostGoes c c
host_nowhere c = record { steps = []; may = tt; is = refl }

pub host_on : (a b c : host.Nonces) → HostGoes a b → HostGoes b c → HostGoes a c
host_on a b c first later = record {
  steps = first.steps ++ later.steps;
  may = host_may a first.steps later.steps first.may (subst (λ (x : host.Nonces). host.MayAll x later.steps) first.is later.may);
  is = later.is ∙ (ap (λ (x : host.Nonces). host.after_all x later.steps) first.is ∙ sym (host_after a first.steps later.steps));
}

-- ---- one way, whichever course it is of

module _ {S X : Type 0} (R : S → S → Type 0) (nowhere : (c : S) → R c c) (on : (a b c : S) → R a b → R b c → R a c) (put : List X → S)
    (loses : (xs : List X) (at : ℕ) → R (put xs) (put (remove xs at))) (doubles : (xs : List X) (at : ℕ) → R (put xs) (put (doubled xs at))) where
  loses_one : (prefix : List X) (x : X) (back : List X) → R (put (prefix ++ x ∷ back)) (put (prefix ++ back))
  loses_one prefix x back = subst (λ (l : List X). R (put (prefix ++ x ∷ back)) (put l)) (removed_at prefix x back) (loses (prefix ++ x ∷ back) (length prefix))

  doubles_one : (prefix : List X) (x : X) (back : List X) → R (put (prefix ++ x ∷ back)) (put ((prefix ++ x ∷ []) ++ x ∷ back))
  doubles_one prefix x back = subst (λ (l : List X). R (put (prefix ++ x ∷ back)) (put l)) (doubled_at prefix x back) (doubles (prefix ++ x ∷ back) (length prefix))

  loses_all : (prefix back : List X) → R (put (prefix ++ back)) (put (prefix ++ []))
  loses_all prefix [] = nowhere (put (prefix ++ []))
  loses_all prefix (x ∷ back) = on (put (prefix ++ x ∷ back)) (put (prefix ++ back)) (put (prefix ++ [])) (loses_one prefix x back) (loses_all prefix back)

  thins : (prefix old new : List X) → Thinned old new → R (put (prefix ++ old)) (put (prefix ++ new))
  thins prefix old [] is = loses_all prefix old
  thins prefix [] (y ∷ new) is = absurd is
  thins prefix (x ∷ old) (y ∷ new) (inl (same, more)) =
      let first : R (put (prefix ++ x ∷ old)) (put ((prefix ++ x ∷ []) ++ x ∷ old)) = doubles_one prefix x old in
      let later : R (put ((prefix ++ x ∷ []) ++ x ∷ old)) (put ((prefix ++ x ∷ []) ++ new)) = thins (prefix ++ x ∷ []) (x ∷ old) new more in
      let joined : (prefix ++ x ∷ []) ++ new ≡ prefix ++ y ∷ new = append_assoc prefix (x ∷ []) new ∙ ap (λ z. prefix ++ z ∷ new) (sym same) in
      subst (λ l. R (put (prefix ++ x ∷ old)) (put l)) joined (on (put (prefix ++ x ∷ old)) (put ((prefix ++ x ∷ []) ++ x ∷ old)) (put ((prefix ++ x ∷ []) ++ new)) first later)
  thins prefix (x ∷ old) (y ∷ new) (inr more) =
      on (put (prefix ++ x ∷ old)) (put (prefix ++ old)) (put (prefix ++ y ∷ new)) (loses_one prefix x old) (thins prefix old (y ∷ new) more)

pub node_step : (c : node.Nonces) (step : node.Step) → node.May c step → NodeGoes c (node.after c step)
node_step c step may = record { steps = step ∷ []; may = (may, tt); is = refl }

pub host_step : (c : host.Nonces) (step : host.Step) → host.May c step → HostGoes c (host.after c step)
host_step c step may = record { steps = step ∷ []; may = (may, tt); is = refl }

pub node_up : (c : node.Nonces) (now : List ℕ) → Thinned c.up now → NodeGoes c (record c { up = now })
node_up c now is = thins NodeGoes node_nowhere node_on (λ (xs : List ℕ). record c { up = xs }) (λ xs at. node_step (record c { up = xs }) (node.Up_loses at) tt) (λ xs at. node_step (record c { up = xs }) (node.Up_doubles at) tt) [] c.up now is

pub node_down : (c : node.Nonces) (now : List ℕ) → Thinned c.down now → NodeGoes c (record c { down = now })
node_down c now is = thins NodeGoes node_nowhere node_on (λ (xs : List ℕ). record c { down = xs }) (λ xs at. node_step (record c { down = xs }) (node.Down_loses at) tt) (λ xs at. node_step (record c { down = xs }) (node.Down_doubles at) tt) [] c.down now is

pub host_up : (c : host.Nonces) (now : List ℕ) → Thinned c.up now → HostGoes c (record c { up = now })
host_up c now is = thins HostGoes host_nowhere host_on (λ (xs : List ℕ). record c { up = xs }) (λ xs at. host_step (record c { up = xs }) (host.Up_loses at) tt) (λ xs at. host_step (record c { up = xs }) (host.Up_doubles at) tt) [] c.up now is

pub host_down : (c : host.Nonces) (now : List ℕ) → Thinned c.down now → HostGoes c (record c { down = now })
host_down c now is = thins HostGoes host_nowhere host_on (λ (xs : List ℕ). record c { down = xs }) (λ xs at. host_step (record c { down = xs }) (host.Down_loses at) tt) (λ xs at. host_step (record c { down = xs }) (host.Down_doubles at) tt) [] c.down now is

-- ---- all three at once

-- an item at the head, or none, again
again : {X : Type 0} (head : Option X) (old new : List X) → Thinned (option_to_list head ++ old) new → Thinned (option_to_list head ++ old) (option_to_list head ++ new)
again None old new is = is
again (Some x) old new is = inl (refl, is)

-- an item at the head, or none, left out
following : {X : Type 0} (head : Option X) (old new : List X) → Thinned old new → Thinned (option_to_list head ++ old) new
following None old new is = is
following (Some x) old [] is = tt
following (Some x) old (y ∷ new) is = inr is

pub picked_thins : {A B : Type 0} (pick : A → Option B) (old new : List A) → Thinned old new → Thinned (picked pick old) (picked pick new)
picked_thins pick old [] is = tt
picked_thins pick [] (y ∷ new) is = absurd is
picked_thins {A} {B} pick (x ∷ old) (y ∷ new) (inl (same, more)) =
    subst (λ (z : A). Thinned (picked pick (x ∷ old)) (picked pick (z ∷ new))) (sym same) (again (pick x) (picked pick old) (picked pick new) (picked_thins pick (x ∷ old) new more))
picked_thins pick (x ∷ old) (y ∷ new) (inr more) = following (pick x) (picked pick old) (picked pick (y ∷ new)) (picked_thins pick old (y ∷ new) more)

thinned_from : {X : Type 0} (a b c : List X) → a ≡ b → Thinned b c → Thinned a c
thinned_from a b c e is = subst (λ l. Thinned l c) (sym e) is

pub up_together : (c : Courses) (carried now : List Sent) (text left : Option ℕ) (tasks later : List ℕ) → GoUp c carried text tasks → Thinned carried now → Thinned (option_to_list text) (option_to_list left) → Thinned tasks later
    → CoursesGo c (with_up c now left later)
up_together c carried now text left tasks later go thin gives waits = record {
  sessions = up_thins c.sessions (picked message_of now) (thinned_from c.sessions.up (picked message_of carried) (picked message_of now) go.messages (picked_thins message_of carried now thin));
  node = node_up c.node (picked sealed_for now ++ option_to_list left) (thinned_from c.node.up (picked sealed_for carried ++ option_to_list text) (picked sealed_for now ++ option_to_list left) go.sealed
      (thinned_both (picked sealed_for carried) (picked sealed_for now) (option_to_list text) (option_to_list left) (picked_thins sealed_for carried now thin) gives));
  host = host_up c.host (picked offer_of now ++ later) (thinned_from c.host.up (picked offer_of carried ++ tasks) (picked offer_of now ++ later) go.offers
      (thinned_both (picked offer_of carried) (picked offer_of now) tasks later (picked_thins offer_of carried now thin) waits));
}

pub down_together : (c : Courses) (carried now : List Late) → GoDown c carried → Thinned carried now → CoursesGo c (with_down c now)
down_together c carried now go thin = record {
  sessions = down_thins c.sessions (picked report_of now) (thinned_from c.sessions.down (picked report_of carried) (picked report_of now) go.reports (picked_thins report_of carried now thin));
  node = node_down c.node (picked (λ (late : Late). shown_by late.said) now)
      (thinned_from c.node.down (picked (λ (late : Late). shown_by late.said) carried) (picked (λ (late : Late). shown_by late.said) now) go.nonces (picked_thins (λ (late : Late). shown_by late.said) carried now thin));
  host = host_down c.host (picked (λ (late : Late). answers_for late.said) now)
      (thinned_from c.host.down (picked (λ (late : Late). answers_for late.said) carried) (picked (λ (late : Late). answers_for late.said) now) go.answers (picked_thins (λ (late : Late). answers_for late.said) carried now thin));
}

-- ---- what is written

pub picked-append : {A B : Type 0} (pick : A → Option B) (prefix back : List A) → picked pick (prefix ++ back) ≡ picked pick prefix ++ picked pick back
picked-append pick [] back = refl
picked-append pick (x ∷ prefix) back = ap (λ l. option_to_list (pick x) ++ l) (picked-append pick prefix back) ∙ sym (append_assoc (option_to_list (pick x)) (picked pick prefix) (picked pick back))

node_same : (c : node.Nonces) (up : List ℕ) → c.up ≡ up → NodeGoes c (record c { up = up })
node_same c up e = subst (λ (l : List ℕ). NodeGoes c (record c { up = l })) e (node_nowhere c)

host_same : (c : host.Nonces) (up : List ℕ) → c.up ≡ up → HostGoes c (record c { up = up })
host_same c up e = subst (λ (l : List ℕ). HostGoes c (record c { up = l })) e (host_nowhere c)

sessions_same : (c : Course) (up : List Message) → c.up ≡ up → Goes c (record c { up = up })
sessions_same c up e = subst (λ (l : List Message). Goes c (record c { up = l })) e (goes_nowhere c)

sessions_write : (c : Course) (up : List Message) → 0 < begun_of c.host → c.up ++ record { session = begun_of c.host; is_segment = false } ∷ [] ≡ up → Goes c (record c { up = up })
sessions_write c up some e = subst (λ (l : List Message). Goes c (record c { up = l })) e (goes_once c (Writes false) some)

pub text_written : (c : Courses) (carried : List Sent) (number : ℕ) (tasks : List ℕ) → GoUp c carried (Some number) tasks → 0 < begun_of c.sessions.host
    → CoursesGo c (with_up c (carried ++ Sealed (begun_of c.sessions.host) number ∷ []) None tasks)
text_written c carried number tasks go some =
    let sent : List Sent = Sealed (begun_of c.sessions.host) number ∷ [] in
    record {
      sessions = sessions_write c.sessions (picked message_of (carried ++ sent)) some (ap (λ l. l ++ record { session = begun_of c.sessions.host; is_segment = false } ∷ []) go.messages ∙ sym (picked-append message_of carried sent));
      node = node_same c.node (picked sealed_for (carried ++ sent) ++ []) (go.sealed ∙ (sym (picked-append sealed_for carried sent) ∙ sym (append-nil (picked sealed_for (carried ++ sent)))));
      host = host_same c.host (picked offer_of (carried ++ sent) ++ tasks) (go.offers ∙ ap (λ l. l ++ tasks) (sym (picked-append offer_of carried sent ∙ append-nil (picked offer_of carried))));
    }

pub task_written : (c : Courses) (carried : List Sent) (text : Option ℕ) (number : ℕ) (tasks : List ℕ) → GoUp c carried text (number ∷ tasks) → CoursesGo c (with_up c (carried ++ Offer number ∷ []) text tasks)
task_written c carried text number tasks go =
    let sent : List Sent = Offer number ∷ [] in
    record {
      sessions = sessions_same c.sessions (picked message_of (carried ++ sent)) (go.messages ∙ sym (picked-append message_of carried sent ∙ append-nil (picked message_of carried)));
      node = node_same c.node (picked sealed_for (carried ++ sent) ++ option_to_list text) (go.sealed ∙ ap (λ l. l ++ option_to_list text) (sym (picked-append sealed_for carried sent ∙ append-nil (picked sealed_for carried))));
      host = host_same c.host (picked offer_of (carried ++ sent) ++ tasks)
          (go.offers ∙ (sym (append_assoc (picked offer_of carried) (number ∷ []) tasks) ∙ ap (λ l. l ++ tasks) (sym (picked-append offer_of carried sent))));
    }
