use Rattle.std.proofs.Common.{[], ◌∷◌}
use Rattle.rx_lex.specs.Letters.{letters_at}
use Rattle.rx_lex.proofs.RawLemmas.{begun_at, begins_append_not}
use Rattle.rx_lex.proofs.raw.behind_delimiter.Goals as goal

pub returns-in-Some : goal.returns-in-Some
returns-in-Some c =
    begun_at c.args.text.now c.args.from c.in-Some.quote c.args.delimiter.now (34 ∷ []) c.begins-in-Some.result c.in-Some.ensures c.begins-in-Some.ensures

pub returns-in-None : goal.returns-in-None
returns-in-None c = begins_append_not c.args.delimiter.now (34 ∷ []) (letters_at c.args.text.now c.args.from) c.in-None.ensures
