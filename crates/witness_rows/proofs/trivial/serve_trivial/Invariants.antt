use Rattle.std.proofs.Common.{[]}
use Rattle.witness_rows.proofs.trivial.serve_trivial.Given as goal

abbrev pub ghosts-trivial_at : goal.ghosts-trivial_at
ghosts-trivial_at g a = record { holds = λ path stamp. []; blob = λ digest. []; honest = Unit {0} }
