use Rattle.std.proofs.Common.{rules, ◌≡◌, ◌++◌, ◌∷◌, [], IfOk, codes, decimal, string_bytes}
use Rattle.rx_note_lines.specs.Lines.{kind_of}
use Rattle.rx_note_lines.proofs.text_lines.kind.Goals as goal

pub returns-in-Gathered : goal.returns-in-Gathered
returns-in-Gathered c = rw c.in-Gathered.is (search rules)

pub returns-in-Started : goal.returns-in-Started
returns-in-Started c = rw c.in-Started.is (search rules)

pub returns-in-Ended : goal.returns-in-Ended
returns-in-Ended c = rw c.in-Ended.is (search rules)

pub returns-in-Published : goal.returns-in-Published
returns-in-Published c = rw c.in-Published.is (search rules)

pub returns-in-Replied : goal.returns-in-Replied
returns-in-Replied c = rw c.in-Replied.is (search rules)
