use Rattle.std.proofs.Common.{[]}
use Rattle.rx_fakes.proofs.honest.honest_read.Given as goal

abbrev pub ghosts-read_at : goal.ghosts-read_at
ghosts-read_at a = record { holds = λ path stamp. a.bytes; blob = λ digest. []; honest = Unit {0} }
