use Rattle.std.proofs.Common.{arith}
use Rattle.std.proofs.lemmas.Map.Text.{text_keys}
use Rattle.rx_reach.proofs.tries.put_name.Goals as goal

pub returns-clause-put : goal.returns-clause-put
returns-clause-put c = λ other. grind (arith, text_keys)
