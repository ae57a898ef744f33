-- What comments and the words that make a file hard do at one letter.
use Rattle.std.proofs.Common.{◌≡◌, ◌≢◌, List, [], ◌∷◌, arith, false, Some, None}
use Rattle.std.proofs.lemmas.Bool.Decides.{nat_tests}
use Rattle.memchr.specs.Find.{is_byte2, is_byte3}
use Rattle.rx_lex.specs.Letters.{Letter}
use Rattle.rx_lex.specs.Pieces.{behind_line, behind_block}
use Rattle.rx_lex.specs.Directives.{has_lone_return}
use Rattle.rx_lex.specs.Anywhere.{has_word}

pub line_passes : (l : Letter) (ls : List Letter) → is_byte2 10 92 l.byte ≡ false → behind_line (l ∷ ls) ≡ behind_line ls
line_passes l ls h = grind (arith, nat_tests)

pub line_stops : (l : Letter) (ls : List Letter) → l.byte ≡ 10 → behind_line (l ∷ ls) ≡ l ∷ ls
line_stops l ls h = grind (arith, nat_tests)

pub block_passes : (l : Letter) (ls : List Letter) → is_byte2 42 92 l.byte ≡ false → behind_block (l ∷ ls) ≡ behind_block ls
block_passes l ls h = grind (arith, nat_tests)

pub block_star : (l m : Letter) (ls : List Letter) → m.byte ≢ 47 → behind_block (l ∷ m ∷ ls) ≡ behind_block (m ∷ ls)
block_star l m ls h = grind (arith, nat_tests)

pub block_last : (l : Letter) → behind_block (l ∷ []) ≡ None
block_last l = grind (arith, nat_tests)

pub block_stops : (l m : Letter) (ls : List Letter) → l.byte ≡ 42 → m.byte ≡ 47 → behind_block (l ∷ m ∷ ls) ≡ Some ls
block_stops l m ls h e = grind (arith, nat_tests)

pub word_passes : (l : Letter) (ls : List Letter) → is_byte3 63 46 92 l.byte ≡ false → has_word (l ∷ ls) ≡ has_word ls
word_passes l ls h = grind (arith, nat_tests)

pub return_passes : (l : Letter) (ls : List Letter) → is_byte2 13 92 l.byte ≡ false → has_lone_return (l ∷ ls) ≡ has_lone_return ls
return_passes l ls h = grind (arith, nat_tests)
