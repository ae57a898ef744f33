use Rattle.std.proofs.Common.{[]}
use Rattle.witness_rows.specs.Single.{single_text}
use Rattle.witness_rows.proofs.single.serve_single.Given as goal

abbrev pub ghosts-single_at : goal.ghosts-single_at
ghosts-single_at g a = record { holds = λ path stamp. single_text; blob = λ digest. []; honest = Unit {0} }
