-- What a client writes to its standard output and its standard error, and its answer.
use Rattle.std.specs.Prelude.{◌≡◌, ◌⊎◌, ℕ, ℤ, List}
use Rattle.rx_world.specs.Causes.{Rose}
use Rattle.rx_session.specs.declared.replies.Reply.{Reply}
use Rattle.rx_session.specs.declared.replies.Reply.TheVariants as replies
use Rattle.rx_client.specs.declared.answers.Answer.{Answer}
use Rattle.rx_client.specs.declared.answers.Answer.TheVariants as answers
use Rattle.rx_client.specs.declared.ask_fault.AskFault.{AskFault}
use Rattle.rx_client.specs.declared.ask_fault.AskFault.TheVariants as asks
use Rattle.rx_client.specs.Lines.{bad_flag_line, no_config_line, number_of, refusal_line}
use Rattle.rx_client.specs.Said.{IsSilent, Said, Says, SaysWhole}

-- nothing was written to either
abbrev pub AreSilent : Said → Said → Type 0
AreSilent out err = IsSilent out × IsSilent err

-- the answer is this one, and the line was written to standard error
abbrev pub TellsLine : Answer → List ℕ → Said → Said → Answer → Type 0
TellsLine is text out err answer = (answer ≡ is) × IsSilent out × Says err text

-- the same, or memory ran out for the line
abbrev pub TellsMade : Answer → List ℕ → Said → Said → Answer → Type 0
TellsMade is text out err answer = TellsLine is text out err answer ⊎ ((answer ≡ answers.Memory) × AreSilent out err)

-- the command's texts, and its code
abbrev pub TellsDone : ℤ → List ℕ → List ℕ → Said → Said → Answer → Type 0
TellsDone exit stdout stderr out err answer =
    ((answer ≡ answers.Done exit) × SaysWhole out stdout × SaysWhole err stderr)
    ⊎ ((answer ≡ answers.Texts) × Says out stdout × Says err stderr
    × (Rose out.faults_before out.faults_after ⊎ Rose err.faults_before err.faults_after))

abbrev pub TellsRefusal : Reply → Said → Said → Answer → Type 0
TellsRefusal reply out err answer = TellsMade (answers.Refused (number_of reply)) (refusal_line reply) out err answer

abbrev pub TellsReply : Reply → Said → Said → Answer → Type 0
TellsReply (replies.Done exit stdout stderr origin receipt placed) out err answer = TellsDone exit stdout stderr out err answer
TellsReply (replies.BadRequest bad) out err answer = TellsRefusal (replies.BadRequest bad) out err answer
TellsReply (replies.NotRemotable cause) out err answer = TellsRefusal (replies.NotRemotable cause) out err answer
TellsReply (replies.InputMissing path) out err answer = TellsRefusal (replies.InputMissing path) out err answer
TellsReply (replies.InputChanged input) out err answer = TellsRefusal (replies.InputChanged input) out err answer
TellsReply (replies.SourceFault path) out err answer = TellsRefusal (replies.SourceFault path) out err answer
TellsReply (replies.TooLarge limit n path) out err answer = TellsRefusal (replies.TooLarge limit n path) out err answer
TellsReply (replies.AllFailed failures) out err answer = TellsRefusal (replies.AllFailed failures) out err answer
TellsReply (replies.Cancelled reason) out err answer = TellsRefusal (replies.Cancelled reason) out err answer
TellsReply (replies.PlaceFault receipt placed) out err answer = TellsRefusal (replies.PlaceFault receipt placed) out err answer
TellsReply replies.JournalFull out err answer = TellsRefusal replies.JournalFull out err answer
TellsReply replies.NoMemory out err answer = TellsRefusal replies.NoMemory out err answer
TellsReply (replies.Blocked path) out err answer = TellsRefusal (replies.Blocked path) out err answer
TellsReply (replies.InPlace cause) out err answer = TellsRefusal (replies.InPlace cause) out err answer

-- why nothing is asked for
abbrev pub TellsFault : AskFault → Said → Said → Answer → Type 0
TellsFault (asks.Usage word) out err answer = TellsMade answers.Usage (bad_flag_line word) out err answer
TellsFault asks.Config out err answer = TellsLine answers.Config no_config_line out err answer
TellsFault asks.NoMemory out err answer = (answer ≡ answers.Memory) × AreSilent out err
