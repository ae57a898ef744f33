-- The status that a client ends with.
use Rattle.std.specs.Prelude.{ℕ, ◌+◌, ◌-◌, ◌%◌, ◌==◌, nat_lt, min, ℤ, pos, negsuc, if◌then◌else◌}
use Rattle.rx_client.specs.declared.answers.Answer.{Answer}
use Rattle.rx_client.specs.declared.answers.Answer.TheVariants as answers
use Rattle.rx_client.specs.declared.ran.Ran.{Ran}
use Rattle.rx_client.specs.declared.ran.Ran.TheVariants as rans

-- the low eight bits of a code in two's complement
abbrev pub low_bits : ℤ → ℕ
low_bits (pos n) = n % 256
low_bits (negsuc n) = 255 - n % 256

-- low bits, or 1 where these are 0
abbrev pub or_one : ℕ → ℕ
or_one n = if n == 0 then 1 else n

-- a code from 0 to 255 as it is, and of another one its low eight bits, or 1 where these are 0
abbrev pub exit_status : ℤ → ℕ
exit_status (pos n) = if nat_lt n 256 then n else or_one (low_bits (pos n))
exit_status (negsuc n) = or_one (low_bits (negsuc n))

-- as a shell: 128 and the signal's number, 127 where there is no program, 126 where it can't be started
abbrev pub ran_status : Ran → ℕ
ran_status (rans.Exited exit) = exit_status exit
ran_status (rans.Killed signal) = min (128 + signal) 255
ran_status rans.NotFound = 127
ran_status rans.NotStarted = 126

abbrev pub status_of : Answer → ℕ
status_of (answers.Done exit) = exit_status exit
status_of (answers.RanHere ran) = ran_status ran
status_of answers.ShutDown = 0
status_of answers.Usage = 100
status_of answers.Config = 101
status_of answers.Conversation = 102
status_of (answers.Refused number) = 103
status_of answers.BadReply = 104
status_of answers.Memory = 105
status_of answers.Texts = 106
