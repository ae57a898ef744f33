use Rattle.std.proofs.Common.{Some, None, lit<}
use Rattle.std.proofs.lemmas.Str.Pattern.{strip_suffix_char}
use Rattle.rx_wrap.proofs.DirectoryLemmas.{unslashed-None, unslashed-Some}
use Rattle.rx_wrap.proofs.directories.unslashed.Goals as goal

pub returns-in-Some : goal.returns-in-Some
returns-in-Some c = unslashed-Some c.args.directory.now c.in-Some.front.now (strip_suffix_char 47 c.args.directory.now (Some c.in-Some.front) c.in-Some.ensures.cases (lit< tt))

pub returns-in-None : goal.returns-in-None
returns-in-None c = unslashed-None c.args.directory.now (strip_suffix_char 47 c.args.directory.now None c.in-None.ensures.cases (lit< tt))
