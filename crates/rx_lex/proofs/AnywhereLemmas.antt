-- The three words that make a file hard anywhere, in one search.
use Rattle.std.proofs.Common.{◌≡◌, List, [], ◌∷◌, ◌++◌, refl, ap, sym, ◌∙◌, Bool, true, false, cond, ◌||◌, ◌&&◌, ◌==◌}
use Rattle.std.specs.Prelude.{codes}
use Rattle.std.proofs.lemmas.Bool.{or_right}
use Rattle.rx_lex.specs.Letters.{Letter, begins}
use Rattle.rx_lex.specs.Directives.{contains, has_lone_return, is_hard_anywhere}
use Rattle.rx_lex.specs.Anywhere.{has_word, word_here}

mark_here : (s p q : Bool) (a b c : Bool) → (cond s p false || a || (cond s q false || b) || (false || c)) ≡ (false || (s && (p || q)) || (a || b || c))
mark_here true true q a b c = refl
mark_here true false true true b c = refl
mark_here true false true false b c = refl
mark_here true false false a b c = refl
mark_here false p q a b c = refl

point_here : (s p q a b c : Bool) → (cond s p false || a || (cond s q false || b) || (true || c)) ≡ true
point_here s p q a b c = or_right (cond s p false || a || (cond s q false || b)) true refl

one_here : (s p q t i a b c : Bool) → (cond s p false || a || (cond s q false || b) || (cond t i false || c)) ≡ ((t && i) || (s && (p || q)) || (a || b || c))
one_here s p q true true a b c = point_here s p q a b c
one_here s p q true false a b c = mark_here s p q a b c
one_here s p q false i a b c = mark_here s p q a b c

abbrev pub has_any_word : List Letter → Bool
has_any_word ls = contains (codes "?" ++ codes "?=") ls || contains (codes "?" ++ codes "?/") ls || contains (codes ".incbin") ls

pub words_are : (ls : List Letter) → has_any_word ls ≡ has_word ls
words_are [] = refl
words_are (l ∷ ls) =
    one_here (l.byte == 63) (begins (codes "?=") ls) (begins (codes "?/") ls) (l.byte == 46) (begins (codes "incbin") ls)
    (contains (codes "?" ++ codes "?=") ls) (contains (codes "?" ++ codes "?/") ls) (contains (codes ".incbin") ls)
    ∙ ap (λ (b : Bool). word_here l.byte ls || b) (words_are ls)

pub anywhere_is : (ls : List Letter) (word lone : Bool) → word ≡ has_word ls → lone ≡ has_lone_return ls → (word || lone) ≡ is_hard_anywhere ls
anywhere_is ls word lone w e = ap (λ (b : Bool). b || lone) w ∙ (ap (λ (b : Bool). b || lone) (sym (words_are ls)) ∙ ap (λ (b : Bool). has_any_word ls || b) e)
