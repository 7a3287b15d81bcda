-- What is shown of what the core answers.
use Rattle.std.specs.Prelude.{ℕ, List, Option, Some, None, Result, Ok, Err}
use Rattle.peer_route.specs.Names.{MessageView, MessageType, Error, Polled, OpenState, Answer}

-- an error with a name, or without
abbrev pub error_answer : MessageView → Option (List ℕ) → Answer
error_answer m (Some name) = Answer.MethodError m
error_answer m None = Answer.InvalidReply m.position

-- what is shown of a reply, by its type
abbrev pub reply_by : MessageView → MessageType → Answer
reply_by m MessageType.MethodReturn = Answer.Reply m.position
reply_by m MessageType.Error = error_answer m m.error_name
reply_by m other = Answer.InvalidReply m.position

-- what is shown of a reply
abbrev pub reply_answer : MessageView → Answer
reply_answer m = reply_by m m.kind

-- what is shown of a poll or a take, by what it gave, or where there is nothing yet
abbrev pub answer_by : (MessageView → Answer) → Answer → Result (Polled MessageView) Error → Answer
answer_by given otherwise (Ok (Polled.Now m)) = given m
answer_by given otherwise (Ok Polled.NotYet) = otherwise
answer_by given otherwise (Ok Polled.NoneBefore) = Answer.NoneBefore
answer_by given otherwise (Ok (Polled.Closed error)) = Answer.Closed error
answer_by given otherwise (Ok Polled.Ended) = Answer.Ended
answer_by given otherwise (Err error) = Answer.Refused error

-- of a poll: a method return's position; an error with its name, or the position of one without
abbrev pub answer_of_poll : Result (Polled MessageView) Error → Answer
answer_of_poll r = answer_by reply_answer Answer.NotYet r

-- of a take: the item's position
abbrev pub answer_of_take : Result (Polled MessageView) Error → Answer
answer_of_take r = answer_by (λ m. Answer.Item m.position) Answer.Empty r

-- what is shown of a drop
abbrev pub answer_of_drop : {A : Type 0} → Result A Error → Answer
answer_of_drop (Ok done) = Answer.Dropped
answer_of_drop (Err error) = Answer.Refused error

-- what is shown of asking whether a stream is open: the error that denied it, with its name or without; what closed the peer
abbrev pub answer_of_opening : OpenState → Answer
answer_of_opening OpenState.Unknown = Answer.Refused Error.UnknownHandle
answer_of_opening OpenState.NotYet = Answer.NotYet
answer_of_opening OpenState.Open = Answer.Opened
answer_of_opening (OpenState.Refused m) = error_answer m m.error_name
answer_of_opening (OpenState.Over error) = Answer.Closed error
