-- The letters of a word are those that were passed.
use Rattle.std.proofs.Common.{not, ◌≡◌, ◌≢◌, ℕ, suc, ◌-◌, ◌≤◌, List, [], ◌∷◌, length, refl, ap, sym, ◌∙◌, arith, Bool, true, false, cond, take}
use Rattle.std.proofs.lemmas.Bool.Decides.{nat_tests}
use Rattle.std.specs.Prelude.{◌&&◌, ◌==◌, drop}
use Rattle.std.specs.List.{list_all}
use Rattle.std.proofs.lemmas.Bool.{and_parts}
use Rattle.rx_lex.specs.Letters.{Letter, bytes, begins}
use Rattle.rx_lex.specs.Pieces.{behind_all, all_at_front, is_name, begins_name}
use Rattle.rx_lex.specs.Line.{same}
use Rattle.rx_lex.proofs.ShorterLemmas.{behind_all_short}

-- one letter more, where the rest isn't longer than what follows it
taken_more : (l : Letter) (ls rest : List Letter) → length rest ≤ length ls
    → bytes (take (length (l ∷ ls) - length rest) (l ∷ ls)) ≡ l.byte ∷ bytes (take (length ls - length rest) ls)
taken_more l ls rest h =
    let n : length (l ∷ ls) - length rest ≡ suc (length ls - length rest) = omega arith in
    ap (λ (k : ℕ). bytes (take k (l ∷ ls))) n

taken_none : (ls : List Letter) → bytes (take (length ls - length ls) ls) ≡ []
taken_none ls =
    let n : length ls - length ls ≡ 0 = omega arith in
    ap (λ (k : ℕ). bytes (take k ls)) n

by_test : (b : Bool) (l : Letter) (ls rest : List Letter) (front : List ℕ) → length rest ≤ length ls
    → bytes (take (length ls - length rest) ls) ≡ front
    → bytes (take (length (l ∷ ls) - length (cond b rest (l ∷ ls))) (l ∷ ls)) ≡ cond b (l.byte ∷ front) []
by_test true l ls rest front h e = taken_more l ls rest h ∙ ap (λ (xs : List ℕ). l.byte ∷ xs) e
by_test false l ls rest front h e = taken_none (l ∷ ls)

pub taken_all : (test : ℕ → Bool) (ls : List Letter)
    → bytes (take (length ls - length (behind_all test ls)) ls) ≡ all_at_front test ls
taken_all test [] = taken_none []
taken_all test (l ∷ ls) = by_test (test l.byte) l ls (behind_all test ls) (all_at_front test ls) (behind_all_short test ls) (taken_all test ls)

-- how a word is spelled
pub word_text : (l : Letter) (ls : List Letter)
    → bytes (take (length (l ∷ ls) - length (behind_all is_name ls)) (l ∷ ls)) ≡ l.byte ∷ all_at_front is_name ls
word_text l ls = taken_more l ls (behind_all is_name ls) (behind_all_short is_name ls) ∙ ap (λ (xs : List ℕ). l.byte ∷ xs) (taken_all is_name ls)

-- A word is spelled so where the letters begin so, and what follows is of no name.
word_done : (n : Bool) (b : ℕ) (front : List ℕ) → same (cond n (b ∷ front) []) [] ≡ not n
word_done true b front = refl
word_done false b front = refl

on_name : (n : Bool) (b c : ℕ) (front bs : List ℕ) → n ≡ true → same (cond n (b ∷ front) []) (c ∷ bs) ≡ cond (b == c) (same front bs) false
on_name n b c front bs e = rw e refl

no_name : (n : Bool) (b c : ℕ) (front bs : List ℕ) → same (cond n (b ∷ front) []) (c ∷ bs) ≡ (n && cond (b == c) (same front bs) false)
no_name true b c front bs = refl
no_name false b c front bs = refl

pub by_head : (t x y z : Bool) → (x ≡ true → y ≡ z) → cond t x false ≡ true → cond t y false ≡ z
by_head true x y z f h = f h
by_head false x y z f h = absurd (grind arith)

pub by_no_head : (n t x y : Bool) → (x ≡ false → y ≡ false) → cond t x false ≡ false → (n && cond t y false) ≡ false
by_no_head true true x y f h = f h
by_no_head true false x y f h = refl
by_no_head false t x y f h = refl

-- the test of the letter, where it equals a byte of a name
name_here : (b c : ℕ) (x : Bool) → cond (b == c) x false ≡ true → is_name c ≡ true → is_name b ≡ true
name_here b c x h e = let same : b ≡ c = grind (arith, nat_tests) in ap is_name same ∙ e

pub word_is : (tail : List ℕ) (ls : List Letter) → list_all is_name tail ≡ true → begins tail ls ≡ true
    → same (all_at_front is_name ls) tail ≡ not (begins_name (drop (length tail) ls))
word_is [] [] a h = refl
word_is [] (l ∷ ls) a h = word_done (is_name l.byte) l.byte (all_at_front is_name ls)
word_is (b ∷ bs) [] a h = absurd (grind arith)
word_is (b ∷ bs) (l ∷ ls) a h =
    let parts = and_parts (is_name b) (list_all is_name bs) a in
    on_name (is_name l.byte) l.byte b (all_at_front is_name ls) bs (name_here l.byte b (begins bs ls) h parts.0)
    ∙ by_head (l.byte == b) (begins bs ls) (same (all_at_front is_name ls) bs) (not (begins_name (drop (length bs) ls))) (word_is bs ls parts.1) h

pub word_is_not : (tail : List ℕ) (ls : List Letter) → begins tail ls ≡ false → same (all_at_front is_name ls) tail ≡ false
word_is_not [] ls h = absurd (grind arith)
word_is_not (b ∷ bs) [] h = refl
word_is_not (b ∷ bs) (l ∷ ls) h =
    no_name (is_name l.byte) l.byte b (all_at_front is_name ls) bs
    ∙ by_no_head (is_name l.byte) (l.byte == b) (begins bs ls) (same (all_at_front is_name ls) bs) (word_is_not bs ls) h

head_same : (b c : ℕ) (x : Bool) → b ≡ c → cond (b == c) x false ≡ x
head_same b c x e = grind (arith, nat_tests)

pub head_false : (t x : Bool) → x ≡ false → cond t x false ≡ false
head_false true x h = h
head_false false x h = refl

-- the same with the first byte
spelled_is : (first head : ℕ) (tail : List ℕ) (ls : List Letter) (on : Bool) → first ≡ head → list_all is_name tail ≡ true → begins tail ls ≡ true
    → on ≡ begins_name (drop (length tail) ls) → same (first ∷ all_at_front is_name ls) (head ∷ tail) ≡ not on
spelled_is first head tail ls on e a h n = rw n (head_same first head (same (all_at_front is_name ls) tail) e ∙ word_is tail ls a h)

spelled_not : (first head : ℕ) (tail : List ℕ) (ls : List Letter) → begins tail ls ≡ false → same (first ∷ all_at_front is_name ls) (head ∷ tail) ≡ false
spelled_not first head tail ls h = head_false (first == head) (same (all_at_front is_name ls) tail) (word_is_not tail ls h)

-- The same of a word that was split there.
pub splits_is : (first head : ℕ) (word tail : List ℕ) (ls : List Letter) (on : Bool) → word ≡ head ∷ tail → first ≡ head → list_all is_name word ≡ true
    → begins tail ls ≡ true → on ≡ begins_name (drop (length tail) ls) → same (first ∷ all_at_front is_name ls) word ≡ not on
splits_is first head word tail ls on w e a h n =
    let names : list_all is_name (head ∷ tail) ≡ true = sym (ap (λ (bs : List ℕ). list_all is_name bs) w) ∙ a in
    let parts = and_parts (is_name head) (list_all is_name tail) names in
    ap (λ (bs : List ℕ). same (first ∷ all_at_front is_name ls) bs) w ∙ spelled_is first head tail ls on e parts.1 h n

pub splits_not : (first head : ℕ) (word tail : List ℕ) (ls : List Letter) → word ≡ head ∷ tail → begins tail ls ≡ false
    → same (first ∷ all_at_front is_name ls) word ≡ false
splits_not first head word tail ls w h =
    ap (λ (bs : List ℕ). same (first ∷ all_at_front is_name ls) bs) w ∙ spelled_not first head tail ls h

head_other : (b c : ℕ) (x : Bool) → b ≢ c → cond (b == c) x false ≡ false
head_other b c x e = grind (arith, nat_tests)

pub splits_other : (first head : ℕ) (word tail : List ℕ) (ls : List Letter) → word ≡ head ∷ tail → first ≢ head
    → same (first ∷ all_at_front is_name ls) word ≡ false
splits_other first head word tail ls w e =
    ap (λ (bs : List ℕ). same (first ∷ all_at_front is_name ls) bs) w ∙ head_other first head (same (all_at_front is_name ls) tail) e

pub same_none : (first : ℕ) (front word : List ℕ) → length word ≡ 0 → same (first ∷ front) word ≡ false
same_none first front [] h = refl
same_none first front (b ∷ bs) h = absurd (omega arith)
