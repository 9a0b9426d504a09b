-- The answers to questions (Serial API: GetRoutingInfo and IsFailedNode; which entry gives them is this project's own rule).
use Rattle.std.specs.Prelude.{◌==◌, ◌&&◌, ◌||◌, not, bytes_eq, Bool, true, false, List, ◌∷◌}
use Rattle.chip_functions.specs.declared.request.Request.{Request}
use Rattle.chip_functions.specs.declared.request.Request.TheVariants as requests
use Rattle.chip_functions.specs.declared.response.Response.{Response}
use Rattle.chip_functions.specs.declared.response.Response.TheVariants as responses
use Rattle.zw_text.specs.declared.entry.Entry.{Entry}
use Rattle.zw_text.specs.declared.entry.Entry.TheVariants.{Neighbours, Failed}
use Rattle.law_time.specs.Moments.{Keeps}
use Rattle.law_time.specs.Judged.{is_directly_after, is_mark, responses_here}
use Rattle.law_time.specs.Requests.{request_last}
use Rattle.law_time.specs.Ends.{is_answered_here}

-- whether two truth values are the same
abbrev pub same_bool : Bool → Bool → Bool
same_bool true second = second
same_bool false second = not second

-- whether the entry gives the answer of the response to the question
abbrev pub gives : List Request → List Response → Entry → Bool
gives (requests.GetRoutingInfo node bad others id ∷ more) (responses.GetRoutingInfo nodes ∷ rest) (Neighbours asked list) = (node == asked) && bytes_eq nodes list
gives (requests.IsFailedNode node ∷ more) (responses.IsFailedNode has_failed ∷ rest) (Failed asked failed) = (node == asked) && same_bool has_failed failed
gives _ _ _ = false

-- whether the request asks for such an entry
abbrev pub is_question : List Request → Bool
is_question (requests.GetRoutingInfo node bad others id ∷ more) = true
is_question (requests.IsFailedNode node ∷ more) = true
is_question _ = false

-- whether the answer to a question is judged here
abbrev pub owes_answer : List Entry → Bool
owes_answer past = is_directly_after past && is_question (request_last past) && is_answered_here past

-- what the last request asked is answered by the first response to it, and is answered where that response is judged in time
abbrev pub may_answer : List Entry → Entry → Bool
may_answer past (Neighbours node list) = is_answered_here past && gives (request_last past) (responses_here past) (Neighbours node list)
may_answer past (Failed node failed) = is_answered_here past && gives (request_last past) (responses_here past) (Failed node failed)
may_answer past entry = is_mark entry || not (owes_answer past)

abbrev pub AnswersQuestions : List Entry → Type 0
AnswersQuestions transcript = Keeps may_answer transcript
