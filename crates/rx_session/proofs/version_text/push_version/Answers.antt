use Rattle.std.proofs.Common.{arith, append_assoc}
use Rattle.std.proofs.lemmas.Int.{to_z-of_z}
use Rattle.rx_session.specs.Versions.{version_text}
use Rattle.rx_session.proofs.version_text.push_version.Goals as goal

pub returns : goal.returns
unfolding version_text
returns c = grind (arith, to_z-of_z, append_assoc)
