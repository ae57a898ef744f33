-- What holds of each value that a call gives.
use Rattle.std.proofs.Common.{Option, None, Some, Result, Ok, Err, IfOk, IfSome}

pub each-ok : {A E : Type 0} (P Q : A → Type 0) (r : Result A E) → ((x : A) → P x → Q x) → IfOk r P → IfOk r Q
each-ok P Q (Ok x) each p = each x p
each-ok P Q (Err e) each p = tt

pub each-some : {A : Type 0} (P Q : A → Type 0) (o : Option A) → ((x : A) → P x → Q x) → IfSome o P → IfSome o Q
each-some P Q (Some x) each p = each x p
each-some P Q None each p = tt
