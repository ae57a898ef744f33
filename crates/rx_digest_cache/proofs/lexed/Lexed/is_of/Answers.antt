use Rattle.std.proofs.Common.{◌∙◌, ap}
use Rattle.rx_lex.specs.Directives.{directives_of}
use Rattle.rx_digest_cache.proofs.lexed.Lexed.is_of.Goals as goal

pub returns : goal.returns
returns c = λ same. c.args.self.now.found_in ∙ ap directives_of (rw c.as_slice.ensures.value at c.are_same.ensures same)
