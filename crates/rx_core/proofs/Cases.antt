-- What two different cases can't both be, and what two equal ones have in common.
use Rattle.std.proofs.Common.{◌≡◌, None, Some, false, true}

pub none-some : {A B : Type 0} {x : A} → None ≡ Some x → B
none-some e = cc

pub some-none : {A B : Type 0} {x : A} → Some x ≡ None → B
some-none e = cc

pub some-is : {A : Type 0} {x y : A} → Some x ≡ Some y → x ≡ y
some-is e = cc

pub false-true : {B : Type 0} → false ≡ true → B
false-true e = cc
