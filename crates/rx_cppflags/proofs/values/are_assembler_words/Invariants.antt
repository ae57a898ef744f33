use Rattle.std.proofs.Common.{◌≡◌, length, drop}
use Rattle.std.specs.List.{list_all}
use Rattle.rx_cppflags.specs.Values.{is_assembler_word, listed}
use Rattle.rx_cppflags.proofs.values.are_assembler_words.Given as goal

abbrev pub invariant-loop-word : goal.invariant-loop-word
invariant-loop-word l = list_all is_assembler_word (drop (length l.yielded) (listed l.text)) ≡ list_all is_assembler_word (listed l.text)
