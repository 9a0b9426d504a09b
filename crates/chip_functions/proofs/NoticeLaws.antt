-- A notice that is read is spelled so, and one that is spelled so is read.
use Rattle.std.proofs.Common.{◌≡◌, ℕ, ◌+◌, ◌≤◌, cond, eqb, List, ◌++◌, length, Some, Ok, Err, refl, sym, subst}
use Rattle.std.proofs.lemmas.Option.{none-some as none_is, same_Some as some_is}
use Rattle.chip_functions.specs.declared.fault.BodyFault.{BodyFault}
use Rattle.chip_functions.specs.declared.fault.BodyFault.TheVariants.{UnknownFunction, BadField}
use Rattle.chip_functions.specs.declared.function.TheConstants.{APPLICATION_COMMAND_HANDLER, SEND_DATA, ADD_NODE, APPLICATION_UPDATE}
use Rattle.chip_functions.specs.declared.notice.TransmitStatus.{TransmitStatus}
use Rattle.chip_functions.specs.declared.notice.TransmitStatus.TheVariants.{CompleteOk, NoAck, Fail, NotIdle, NoRoute}
use Rattle.chip_functions.specs.declared.notice.Update.{Update}
use Rattle.chip_functions.specs.declared.notice.Update.TheVariants.{Received, RequestFailed}
use Rattle.chip_functions.specs.declared.notice.Notice.{Notice}
use Rattle.chip_functions.specs.declared.notice.Notice.TheVariants.{ApplicationCommandHandler, SendData, AddNode, ApplicationUpdate}
use Rattle.chip_functions.specs.declared.notice.TheConstants.{UPDATE_RECEIVED, UPDATE_FAILED}
use Rattle.chip_functions.specs.Mask.{IsBytes}
use Rattle.chip_functions.specs.Place.{Place, IsFaultFrom, IsBodyFault, start_of, byte_from}
use Rattle.chip_functions.specs.Field.{IsNode}
use Rattle.chip_functions.specs.Classes.{Classes}
use Rattle.chip_functions.specs.Notice.{handler, status_code, status_of, callback, received, request_failed, received_at, request_failed_at, update, notice_function, notice_body, HasNoticeRow, IsUpdate, IsNotice, IsNoticeBody, handler_at, callback_at, add_notice_at, update_at, notice_at, notice_of}
use Rattle.chip_functions.proofs.FieldLaws.{Takes, Reads, Lawful, bind_ok, bind_err, no_fault, err_is, fault_back, bad_here, ok_is, as_faults, byte_takes, byte_again, byte_faults, byte_step, byte_lawful, then_lawful, node_lawful, mark_lawful, counted_lawful, coded_lawful}
use Rattle.chip_functions.proofs.RowLaws.{no_row, row_cases, row_takes, ReadsOn, row_again, IsFaultOf, row_faults, unknown, body_fault}
use Rattle.chip_functions.proofs.ClassesLaws.{classes_lawful}
use Rattle.chip_functions.proofs.AddNodeLaws.{add_notice_lawful, prefix_takes as update_prefix}

handler_lawful : Lawful handler (λ x. Unit {0} × (IsNode x.1.0 × (1 ≤ length x.1.1)))
handler_lawful = then_lawful byte_lawful (then_lawful node_lawful (counted_lawful 1))

status_back : (x : TransmitStatus) → Unit {0} → status_of (status_code x) ≡ Some x
status_back CompleteOk h = refl
status_back NoAck h = refl
status_back Fail h = refl
status_back NotIdle h = refl
status_back NoRoute h = refl

status_there : (b : ℕ) (x : TransmitStatus) → status_of b ≡ Some x → (status_code x ≡ b) × Unit {0}
status_there b x e =
    let here : (y : TransmitStatus) → b ≡ status_code y → Some y ≡ Some x → (status_code x ≡ b) × Unit {0} = λ (y : TransmitStatus) (f : b ≡ status_code y) (h : Some y ≡ Some x). (subst (λ (z : TransmitStatus). status_code z ≡ b) (some_is y x h) (sym f), tt) in
    row_cases b 0 _ _ _ e (λ f h. here CompleteOk f h) (λ e.
    row_cases b 1 _ _ _ e (λ f h. here NoAck f h) (λ e.
    row_cases b 2 _ _ _ e (λ f h. here Fail f h) (λ e.
    row_cases b 3 _ _ _ e (λ f h. here NotIdle f h) (λ e.
    row_cases b 4 _ _ _ e (λ f h. here NoRoute f h) (λ e.
    absurd (none_is x e))))))

callback_lawful : Lawful callback (λ _. Unit {0} × Unit {0})
callback_lawful = then_lawful byte_lawful (coded_lawful status_code status_of (λ _. Unit {0}) status_back status_there)

received_lawful : Lawful received (λ x. IsNode x.0 × Unit {0})
received_lawful = then_lawful node_lawful classes_lawful

request_failed_lawful : Lawful request_failed (λ _. Unit {0} × Unit {0})
request_failed_lawful = then_lawful (mark_lawful 0) (mark_lawful 0)

update_takes : (p : Place) (u : Update) (q : Place) → IsBytes p.rest → update.read p ≡ Ok (u, q) → Takes p q (update.spell u) × IsUpdate u
unfolding received_at request_failed_at
update_takes p u q fits e =
    let a = bind_ok (byte_from p.before p.rest) (λ status. cond (eqb status.0 UPDATE_RECEIVED) (received_at status.1) (cond (eqb status.0 UPDATE_FAILED) (request_failed_at status.1) (Err (BadField p.before)))) (u, q) e in
    let t = byte_takes p.before p.rest a.0.0 a.0.1 fits a.1 in
    row_cases a.0.0 UPDATE_RECEIVED _ _ _ a.2 (λ f h. row_takes received_lawful _ a.0.1 q u (λ v. Takes p q (update.spell v) × IsUpdate v) t.1 (λ x tx g. (update_prefix p a.0.1 q a.0.0 UPDATE_RECEIVED (received.spell x) f (byte_step p a.0.1 a.0.0 t) tx, g.0)) h) (λ e.
    row_cases a.0.0 UPDATE_FAILED _ _ _ e (λ f h. row_takes request_failed_lawful _ a.0.1 q u (λ v. Takes p q (update.spell v) × IsUpdate v) t.1 (λ x tx g. (update_prefix p a.0.1 q a.0.0 UPDATE_FAILED (request_failed.spell x) f (byte_step p a.0.1 a.0.0 t) tx, tt)) h) (λ e.
    absurd (no_row (BadField p.before) u q e)))

update_again : (u : Update) (p : Place) (rest : List ℕ) → IsUpdate u → p.rest ≡ update.spell u ++ rest → Reads update u p rest
unfolding received_at request_failed_at
update_again (Received n b g s list) p rest row e =
    let x : ℕ × Classes = (n, (b, (g, (s, list)))) in
    let after : Place = record { before = p.before + 1; rest = received.spell x ++ rest } in
    let r = row_again received_lawful (λ (x : ℕ × Classes). Received x.0 x.1.0 x.1.1.0 x.1.1.1.0 x.1.1.1.1) x after rest (row, tt) refl in
    record { place = r.place; is = rw (byte_again p UPDATE_RECEIVED (received.spell x ++ rest) e) r.is; after = r.after }
update_again RequestFailed p rest row e =
    let after : Place = record { before = p.before + 1; rest = request_failed.spell (tt, tt) ++ rest } in
    let r = row_again request_failed_lawful (λ (x : Unit {0} × Unit {0}). RequestFailed) (tt, tt) after rest (tt, tt) refl in
    record { place = r.place; is = rw (byte_again p UPDATE_FAILED (request_failed.spell (tt, tt) ++ rest) e) r.is; after = r.after }

update_faults : (p : Place) (fault : BodyFault) → IsBytes p.rest → update.read p ≡ Err fault → IsFaultFrom p fault
unfolding received_at request_failed_at
update_faults p fault fits e =
    bind_err (byte_from p.before p.rest) (λ status. cond (eqb status.0 UPDATE_RECEIVED) (received_at status.1) (cond (eqb status.0 UPDATE_FAILED) (request_failed_at status.1) (Err (BadField p.before)))) fault e (λ h. byte_faults p.before p.rest fault h) (λ n h f.
    let t = byte_takes p.before p.rest n.0 n.1 fits h in
    let s = byte_step p n.1 n.0 t in
    row_cases n.0 UPDATE_RECEIVED _ _ _ f (λ _ k. fault_back p n.1 fault s.moves s.sum (received_lawful.faults n.1 fault t.1 (as_faults _ _ fault k))) (λ f.
    row_cases n.0 UPDATE_FAILED _ _ _ f (λ _ k. fault_back p n.1 fault s.moves s.sum (request_failed_lawful.faults n.1 fault t.1 (as_faults _ _ fault k))) (λ f.
    bad_here p n.0 n.1.rest fault t.0 (err_is {A = Update × Place} (BadField p.before) fault f))))

update_lawful : Lawful update IsUpdate
update_lawful = record { takes = update_takes; again = update_again; faults = update_faults }

-- the function, the text and the row of what was read from p on, up to q
record IsRow (func : ℕ) (p q : Place) (v : Notice) : Type 0 where
  function : func ≡ notice_function v
  takes : Takes p q (notice_body v)
  row : IsNotice v

notice_takes : (func : ℕ) (p q : Place) (v : Notice) → IsBytes p.rest → notice_at func p ≡ Ok (v, q) → IsRow func p q v
unfolding notice_at handler_at callback_at add_notice_at update_at
notice_takes func p q v fits e =
    row_cases func APPLICATION_COMMAND_HANDLER _ _ _ e (λ f h. row_takes handler_lawful _ p q v (IsRow func p q) fits (λ x t g. record { function = f; takes = t; row = (g.1.0, g.1.1) }) h) (λ e.
    row_cases func SEND_DATA _ _ _ e (λ f h. row_takes callback_lawful _ p q v (IsRow func p q) fits (λ x t g. record { function = f; takes = t; row = tt }) h) (λ e.
    row_cases func ADD_NODE _ _ _ e (λ f h. row_takes add_notice_lawful _ p q v (IsRow func p q) fits (λ x t g. record { function = f; takes = t; row = g.1.1 }) h) (λ e.
    row_cases func APPLICATION_UPDATE _ _ _ e (λ f h. row_takes update_lawful _ p q v (IsRow func p q) fits (λ x t g. record { function = f; takes = t; row = g }) h) (λ e.
    absurd (no_row (UnknownFunction func) v q e)))))

notice_reads : (v : Notice) (p : Place) (rest : List ℕ) → IsNotice v → p.rest ≡ notice_body v ++ rest → ReadsOn (notice_at (notice_function v) p) v rest
unfolding notice_at handler_at callback_at add_notice_at update_at
notice_reads (ApplicationCommandHandler status source payload) p rest row e = row_again handler_lawful _ (status, (source, payload)) p rest (tt, (row.0, row.1)) e
notice_reads (SendData id status) p rest row e = row_again callback_lawful _ (id, status) p rest (tt, tt) e
notice_reads (AddNode id status said) p rest row e = row_again add_notice_lawful _ (id, (status, said)) p rest (tt, (tt, row)) e
notice_reads (ApplicationUpdate u) p rest row e = row_again update_lawful _ u p rest row e

-- what is read is spelled so, and a tail may follow
pub notice_found : (func : ℕ) (body : List ℕ) (v : Notice) → IsBytes body → notice_of func body ≡ Ok v → IsNoticeBody func body v
unfolding notice_of
notice_found func body v fits e =
    let a = bind_ok (notice_at func (start_of body)) (λ x. Ok x.0) v e in
    let t = notice_takes func (start_of body) a.0.1 a.0.0 fits a.1 in
    subst (IsNoticeBody func body) (ok_is a.0.0 v a.2) (record { row = t.row; function = t.function; tail = a.0.1.rest; text = t.takes.parts })

-- what is spelled so is read, whatever follows it
pub notice_only : (func : ℕ) (body : List ℕ) (v : Notice) → IsNoticeBody func body v → notice_of func body ≡ Ok v
unfolding notice_of
notice_only func body v h =
    let r = notice_reads v (start_of body) h.tail h.row h.text in
    rw h.function (rw r.is refl)

notice_faults : (func : ℕ) (p : Place) (fault : BodyFault) → IsBytes p.rest → notice_at func p ≡ Err fault → IsFaultOf func p fault
unfolding notice_at handler_at callback_at add_notice_at update_at
notice_faults func p fault fits e =
    row_cases func APPLICATION_COMMAND_HANDLER _ _ _ e (λ f h. row_faults handler_lawful _ func p fault fits h) (λ e.
    row_cases func SEND_DATA _ _ _ e (λ f h. row_faults callback_lawful _ func p fault fits h) (λ e.
    row_cases func ADD_NODE _ _ _ e (λ f h. row_faults add_notice_lawful _ func p fault fits h) (λ e.
    row_cases func APPLICATION_UPDATE _ _ _ e (λ f h. row_faults update_lawful _ func p fault fits h) (λ e.
    unknown {V = Notice} func p fault e))))

-- a fault tells the bytes that there are, or names one of them
pub notice_fault : (func : ℕ) (body : List ℕ) (fault : BodyFault) → IsBytes body → notice_of func body ≡ Err fault → IsBodyFault func body fault
unfolding notice_of
notice_fault func body fault fits e =
    bind_err (notice_at func (start_of body)) (λ x. Ok x.0) fault e
    (λ h. body_fault func body fault (notice_faults func (start_of body) fault fits h))
    (λ x h f. no_fault {A = Notice} x.0 fault f)

-- a notice of a row can be written
pub row_of_notice : (v : Notice) → IsNotice v → HasNoticeRow v
row_of_notice (ApplicationCommandHandler status source payload) h = h.1
row_of_notice (SendData id status) h = tt
row_of_notice (AddNode id status said) h = tt
row_of_notice (ApplicationUpdate u) h = tt
