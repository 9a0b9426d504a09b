-- What a report is to a node.
use Rattle.std.proofs.Common.{◌≡◌, ℕ, refl}
use Rattle.std.specs.Prelude.{Bool, true, false, Option, Some, None, ◌==◌, if◌then◌else◌}
use Rattle.supervision.specs.Session.{wire_id}
use Rattle.supervision.specs.Host.{HostBook, open_session, told_of}
use Rattle.supervision.specs.declared.session.TheConstants.{WORKING}
use Rattle.supervision.specs.declared.host_node.Told.TheVariants.{Final, Working, Old}

-- a report of work stays one at the status of work
working_by : (same working : Bool) (session : ℕ) → (if same then (if working then Working else Final session) else Old) ≡ Working → (if same then Working else Old) ≡ Working
working_by true working session e = refl
working_by false working session e = e

works_by : (book : HostBook) (id status : ℕ) (o : Option ℕ) → open_session book ≡ o → told_of book id status ≡ Working → told_of book id 1 ≡ Working
works_by book id status None is e = let f = rw is at e in cc
works_by book id status (Some session) is e = let f = rw is at e in rw is (working_by (id == wire_id session) (status == WORKING) session f)

pub works_at_one : (book : HostBook) (id status : ℕ) → told_of book id status ≡ Working → told_of book id 1 ≡ Working
works_at_one book id status e = works_by book id status (open_session book) refl e
