-- Rights to numbers.
use Rattle.std.proofs.Common.{◌≡◌, ◌∙◌, ℕ, zero, suc, ◌+◌, List, [], ◌∷◌, ◌++◌, ap, append_assoc, arith, length, length-append, refl, sym}
use Rattle.std.specs.Prelude.{None, Some, slice_get}
use Rattle.std.specs.declared.sync.ledger.Blank.{Blank}
use Rattle.std.proofs.lemmas.List.Elements.{All-pop}
use Rattle.rx_daemon.specs.Rights.{AreLeft, IsRight}

pub none-some : {A : Type 0} {x : A} → None ≡ Some x → ⊥
none-some h = cc

pub some-is : {A : Type 0} {x y : A} → Some x ≡ Some y → x ≡ y
some-is h = cc

-- one item more
pub longer : {A : Type 0} (xs ys : List A) (y : A) → xs ≡ ys ++ y ∷ [] → length xs ≡ length ys + 1
longer xs ys y e = omega (arith, ap length e, length-append ys (y ∷ []))

-- there is one right to each number
pub same-right : (rights : List Blank) (number : ℕ) (one other : Blank) → IsRight rights number one → IsRight rights number other → one ≡ other
same-right rights number one other h k =
    let place : h.place ≡ k.place = omega (arith, h.number_is, k.number_is) in
    some-is (sym h.right_is ∙ ap (slice_get rights) place ∙ k.right_is)

-- a right that is left is that of its number
pub get-front : {A : Type 0} (xs ys : List A) (k : ℕ) (x : A) → slice_get xs k ≡ Some x → slice_get (xs ++ ys) k ≡ Some x
get-front [] ys k x h = absurd (none-some h)
get-front (y ∷ xs) ys zero x h = h
get-front (y ∷ xs) ys (suc k) x h = get-front xs ys k x h

pub get-last : {A : Type 0} (xs : List A) (x : A) (ys : List A) → slice_get (xs ++ x ∷ ys) (length xs) ≡ Some x
get-last [] x ys = refl
get-last (y ∷ xs) x ys = get-last xs x ys

-- the last of the rights that are left is that of the next number
pub next-right : (rights old left : List Blank) (right : Blank) (taken : ℕ) → AreLeft rights old → old ≡ left ++ right ∷ [] → taken + length old ≡ length rights
    → IsRight rights (taken + 1) right
next-right rights old left right taken h e n =
    let all : rights ≡ left ++ right ∷ h.given = h.all_are ∙ ap (λ (xs : List Blank). xs ++ h.given) e ∙ append_assoc left (right ∷ []) h.given in record {
      place = length left;
      number_is = omega (arith, n, ap length e, length-append left (right ∷ []));
      right_is = ap (λ (xs : List Blank). slice_get xs (length left)) all ∙ get-last left right h.given;
      one_part = (All-pop (λ (b : Blank). b.parts ≡ 1) old left (Some right) e h.one_part).1;
    }

pub fewer-left : (rights old left : List Blank) (right : Blank) → AreLeft rights old → old ≡ left ++ right ∷ [] → AreLeft rights left
fewer-left rights old left right h e = record {
  given = right ∷ h.given;
  all_are = h.all_are ∙ ap (λ (xs : List Blank). xs ++ h.given) e ∙ append_assoc left (right ∷ []) h.given;
  one_part = (All-pop (λ (b : Blank). b.parts ≡ 1) old left (Some right) e h.one_part).0;
}
