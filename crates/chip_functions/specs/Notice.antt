-- Notices of the chip (Serial API: Host Application Programming Guide; that an ApplicationUpdate has one of two
-- statuses, and that a tail is ignored, are this project's own rules).
use Rattle.std.specs.Prelude.{◌≡◌, ℕ, ◌≤◌, List, ◌∷◌, ◌++◌, length, Option, Some, None, Result, Ok, Err, ◌==◌, if◌then◌else◌}
use Rattle.chip_functions.specs.declared.fault.BodyFault.{BodyFault}
use Rattle.chip_functions.specs.declared.fault.BodyFault.TheVariants.{UnknownFunction, BadField}
use Rattle.chip_functions.specs.declared.function.TheConstants.{APPLICATION_COMMAND_HANDLER, SEND_DATA, ADD_NODE, APPLICATION_UPDATE}
use Rattle.chip_functions.specs.declared.notice.TransmitStatus.{TransmitStatus}
use Rattle.chip_functions.specs.declared.notice.TransmitStatus.TheVariants.{CompleteOk, NoAck, Fail, NotIdle, NoRoute}
use Rattle.chip_functions.specs.declared.notice.Update.{Update}
use Rattle.chip_functions.specs.declared.notice.Update.TheVariants.{Received, RequestFailed}
use Rattle.chip_functions.specs.declared.notice.Notice.{Notice}
use Rattle.chip_functions.specs.declared.notice.Notice.TheVariants.{ApplicationCommandHandler, SendData, AddNode, ApplicationUpdate}
use Rattle.chip_functions.specs.declared.notice.TheConstants.{UPDATE_RECEIVED, UPDATE_FAILED}
use Rattle.chip_functions.specs.Place.{Place, Reading, ◌>>=◌, start_of, byte_from}
use Rattle.chip_functions.specs.Field.{Field, byte, IsNode, node, mark, counted, coded, ◌then◌, read_as}
use Rattle.chip_functions.specs.Classes.{Classes, classes}
use Rattle.chip_functions.specs.AddNode.{add_notice, IsAdded}

-- an ApplicationCommandHandler: the status of its receipt, the source, and a payload of at least one byte after its length
abbrev pub handler : Field (ℕ × (ℕ × List ℕ))
handler = byte then node then counted 1

-- the byte of a transmit status
abbrev pub status_code : TransmitStatus → ℕ
status_code CompleteOk = 0
status_code NoAck = 1
status_code Fail = 2
status_code NotIdle = 3
status_code NoRoute = 4

-- the transmit status of a byte
abbrev pub status_of : ℕ → Option TransmitStatus
status_of b =
    if b == 0 then Some CompleteOk else
    if b == 1 then Some NoAck else
    if b == 2 then Some Fail else
    if b == 3 then Some NotIdle else
    if b == 4 then Some NoRoute else
    None

-- the callback of a SendData: its callback id and the transmit status
abbrev pub callback : Field (ℕ × TransmitStatus)
callback = byte then coded status_code status_of

-- the information of a node
abbrev pub received : Field (ℕ × Classes)
received = node then classes

-- no node and no information
abbrev pub request_failed : Field (Unit {0} × Unit {0})
request_failed = mark 0 then mark 0

-- an ApplicationUpdate is a status, and what follows that status
abbrev pub update_spelling : Update → List ℕ
update_spelling (Received n b g s list) = UPDATE_RECEIVED ∷ received.spell (n, (b, (g, (s, list))))
update_spelling RequestFailed = UPDATE_FAILED ∷ request_failed.spell (tt, tt)

-- what follows a status
unfoldable pub received_at : Place → Reading Update
received_at p = read_as (λ x. Received x.0 x.1.0 x.1.1.0 x.1.1.1.0 x.1.1.1.1) (received.read p)

unfoldable pub request_failed_at : Place → Reading Update
request_failed_at p = read_as (λ x. RequestFailed) (request_failed.read p)

-- an ApplicationUpdate
abbrev pub update : Field Update
update = record {
  spell = update_spelling;
  read = λ p. byte_from p.before p.rest >>= λ status.
      if status.0 == UPDATE_RECEIVED then received_at status.1 else
      if status.0 == UPDATE_FAILED then request_failed_at status.1 else
      Err (BadField p.before);
}

-- the function of a notice
abbrev pub notice_function : Notice → ℕ
notice_function (ApplicationCommandHandler status source payload) = APPLICATION_COMMAND_HANDLER
notice_function (SendData id status) = SEND_DATA
notice_function (AddNode id status said) = ADD_NODE
notice_function (ApplicationUpdate u) = APPLICATION_UPDATE

-- the written form of a notice
abbrev pub notice_body : Notice → List ℕ
notice_body (ApplicationCommandHandler status source payload) = handler.spell (status, (source, payload))
notice_body (SendData id status) = callback.spell (id, status)
notice_body (AddNode id status said) = add_notice.spell (id, (status, said))
notice_body (ApplicationUpdate u) = update.spell u

-- what a row asks of a notice beside the types of its fields: a payload is not empty
abbrev pub HasNoticeRow : Notice → Type 0
HasNoticeRow (ApplicationCommandHandler status source payload) = 1 ≤ length payload
HasNoticeRow (SendData id status) = Unit {0}
HasNoticeRow (AddNode id status said) = Unit {0}
HasNoticeRow (ApplicationUpdate u) = Unit {0}

-- a notice that a row has
abbrev pub IsUpdate : Update → Type 0
IsUpdate (Received n b g s list) = IsNode n
IsUpdate RequestFailed = Unit {0}

abbrev pub IsNotice : Notice → Type 0
IsNotice (ApplicationCommandHandler status source payload) = IsNode source × (1 ≤ length payload)
IsNotice (SendData id status) = Unit {0}
IsNotice (AddNode id status said) = IsAdded said
IsNotice (ApplicationUpdate u) = IsUpdate u

-- the body of that function begins with the notice
pub record IsNoticeBody (func : ℕ) (body : List ℕ) (value : Notice) : Type 0 where
  pub row : IsNotice value
  pub function : func ≡ notice_function value
  pub tail : List ℕ
  pub text : body ≡ notice_body value ++ tail

-- the rows, as they are read
unfoldable pub handler_at : Place → Reading Notice
handler_at p = read_as (λ x. ApplicationCommandHandler x.0 x.1.0 x.1.1) (handler.read p)

unfoldable pub callback_at : Place → Reading Notice
callback_at p = read_as (λ x. SendData x.0 x.1) (callback.read p)

unfoldable pub add_notice_at : Place → Reading Notice
add_notice_at p = read_as (λ x. AddNode x.0 x.1.0 x.1.1) (add_notice.read p)

unfoldable pub update_at : Place → Reading Notice
update_at p = read_as (λ u. ApplicationUpdate u) (update.read p)

-- the notice of a function at a place
unfoldable pub notice_at : ℕ → Place → Reading Notice
notice_at func p =
    if func == APPLICATION_COMMAND_HANDLER then handler_at p else
    if func == SEND_DATA then callback_at p else
    if func == ADD_NODE then add_notice_at p else
    if func == APPLICATION_UPDATE then update_at p else
    Err (UnknownFunction func)

-- the notice that a body begins with, or the first fault from the left
unfoldable pub notice_of : ℕ → List ℕ → Result Notice BodyFault
notice_of func body = notice_at func (start_of body) >>= λ x. Ok x.0
