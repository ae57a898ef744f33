-- Results: one call after another, and calls that may also fail for want of memory.
use Rattle.std.specs.Prelude.{◌≡◌, ◌≢◌, Result, Ok, Err}

infixl 10 ◌>>=◌
-- The first result's value goes on to the second; its error is the end. `do` stands for it.
abbrev pub ◌>>=◌ : {A B E : Type 0} → Result A E → (A → Result B E) → Result B E
(Ok x) >>= f = f x
(Err e) >>= f = Err e

-- What a call answered is what a definition gives: its value, seen by view, or its error.
abbrev pub Equals : {X Y E : Type 0} → (X → Y) → Result X E → Result Y E → Type 0
Equals view (Ok x) given = given ≡ Ok (view x)
Equals view (Err e) given = given ≡ Err e

-- The same, but that the call may lack memory in place of what the definition gives.
abbrev pub Gives : {X Y E : Type 0} → E → (X → Y) → Result X E → Result Y E → Type 0
Gives no_memory view (Ok x) given = given ≡ Ok (view x)
Gives no_memory view (Err e) given = e ≢ no_memory → given ≡ Err e
