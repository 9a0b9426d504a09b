-- What is written is what the plan relates.
use Rattle.std.proofs.Common.{◌≡◌, ℕ, ◌+◌, ◌%◌, ◌<◌, ◌≤◌, List, [], ◌∷◌, length, Bool, true, false, Some, None, refl, sym, subst, arith, cond}
use Rattle.std.specs.Prelude.{Option, IsTrue, nat_lt}
use Rattle.std.proofs.lemmas.Bool.{ltb-false}
use Rattle.encap.specs.Wraps.{Wraps, AllFit, Batches, Supervises, Addresses, Checks}
use Rattle.encap.specs.Written.{batch_text, batched_form, flags_of, supervised_form, addressed_form, checked_form, written_form, IsCount, IsSession, IsWrappable, AreEnds, first_long, long_inside, or_inside, too_long_by, too_long}
use Rattle.encap.specs.declared.plan.Plan.{Plan}
use Rattle.encap.specs.declared.plan.Supervised.{Supervised}
use Rattle.encap.specs.declared.plan.Ends.{Ends}
use Rattle.encap.specs.declared.plan.Outer.{Outer}
use Rattle.encap.specs.declared.plan.Outer.TheVariants.{None as no_outer, Crc16, Security, Transport}

pub none_of : (b : Bool) (len : ℕ) (more : Option ℕ) → cond b (Some len) more ≡ None → (b ≡ false) × (more ≡ None)
none_of true len more e = absurd (cc)
none_of false len more e = (refl, e)

all_fit : (commands : List (List ℕ)) → first_long commands ≡ None → AllFit commands
all_fit [] e = tt
all_fit (command ∷ commands) e =
    let both = none_of (nat_lt 255 (length command)) (length command) (first_long commands) e in
    (ltb-false 255 (length command) both.0, all_fit commands both.1)

or_none : (o : Option ℕ) (session : Option Supervised) (len : ℕ) → or_inside o session len ≡ None → (o ≡ None) × (long_inside session len ≡ None)
or_none (Some n) session len e = absurd (cc)
or_none None session len e = (refl, e)

batches_of : (batch : Bool) (session : Option Supervised) (commands : List (List ℕ)) → IsCount batch (length commands) → too_long_by batch session commands ≡ None
    → Batches batch commands (batched_form batch commands)
batches_of true session commands count e =
    record { count = count.1; fit = all_fit commands (or_none (first_long commands) session (length (batch_text commands)) e).0; text = refl }
batches_of false session [] count e = absurd (omega arith)
batches_of false session (command ∷ []) count e = refl
batches_of false session (command ∷ (other ∷ commands)) count e = absurd (omega arith)

inside_none : (batch : Bool) (session : Option Supervised) (commands : List (List ℕ)) → too_long_by batch session commands ≡ None
    → long_inside session (length (batched_form batch commands)) ≡ None
inside_none true session commands e = (or_none (first_long commands) session (length (batch_text commands)) e).1
inside_none false session commands e = e

record AreFlags (updates : Bool) (id flags : ℕ) : Type 0 where
  is_byte : flags < 256
  there : IsTrue updates → 128 ≤ flags
  back : 128 ≤ flags → IsTrue updates
  session : flags % 64 ≡ id

flags_are : (updates : Bool) (id : ℕ) → id ≤ 63 → AreFlags updates id (cond updates 128 0 + id)
flags_are true id small = record { is_byte = omega arith; there = λ is. omega arith; back = λ more. refl; session = omega arith }
flags_are false id small = record { is_byte = omega arith; there = λ is. absurd (let bad : false ≡ true = is in cc); back = λ more. absurd (omega arith); session = omega arith }

supervises_of : (session : Option Supervised) (inner : List ℕ) → IsSession session → long_inside session (length inner) ≡ None
    → Supervises session inner (supervised_form session inner)
supervises_of None inner small e = refl
supervises_of (Some session) inner small e =
    let flags : AreFlags session.updates session.id (cond session.updates 128 0 + session.id) = flags_are session.updates session.id small in
    record {
      flags = flags_of session;
      is_byte = flags.is_byte;
      updates = (flags.there, flags.back);
      id = flags.session;
      len = ltb-false 255 (length inner) (none_of (nat_lt 255 (length inner)) (length inner) None e).0;
      text = refl;
    }

addresses_of : (channel : Option Ends) (inner : List ℕ) → AreEnds channel → Addresses channel inner (addressed_form channel inner)
addresses_of None inner ends = refl
addresses_of (Some ends) inner are = record { from = ends.source; is_byte = omega (arith, are.0); source = omega (arith, are.0); target = omega (arith, are.1); text = refl }

checks_of : (outer : Outer) (inner : List ℕ) → Checks outer inner (checked_form outer inner)
checks_of Crc16 inner = refl
checks_of no_outer inner = refl
checks_of Security inner = refl
checks_of Transport inner = refl

pub form_wraps : (plan : Plan) (commands : List (List ℕ)) (bytes : List ℕ) → IsWrappable plan commands → AreEnds plan.channel → too_long plan commands ≡ None
    → bytes ≡ written_form plan commands → Wraps plan commands bytes
form_wraps plan commands bytes can ends fits e =
    let batched : List ℕ = batched_form plan.batch commands in
    let supervised : List ℕ = supervised_form plan.session batched in
    let addressed : List ℕ = addressed_form plan.channel supervised in
    subst (λ (x : List ℕ). Wraps plan commands x) (sym e) (record {
      batched = batched;
      supervised = supervised;
      addressed = addressed;
      plain = can.plain;
      batches = batches_of plan.batch plan.session commands can.count fits;
      supervises = supervises_of plan.session batched can.session (inside_none plan.batch plan.session commands fits);
      addresses = addresses_of plan.channel supervised ends;
      checks = checks_of plan.outer addressed;
    })
