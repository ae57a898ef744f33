-- How the answer of a call is compared with what a definition gives.
use Rattle.std.specs.Prelude.{◌≡◌, Result, Ok, Err}
use Rattle.rx_hpack.specs.declared.fault.HpackFault.{HpackFault}
use Rattle.rx_hpack.specs.declared.fault.HpackFault.TheVariants.{BadIndex, BadInteger, BadHuffman, SizeUpdate, ListTooLarge, NoMemory}

infixl 10 ◌>>=◌
abbrev pub ◌>>=◌ : {A B : Type 0} → Result A HpackFault → (A → Result B HpackFault) → Result B HpackFault
(Ok x) >>= f = f x
(Err e) >>= f = Err e

-- What a call that takes no memory answered, seen by view, is exactly what is read.
abbrev pub Equals : {A B : Type 0} → (A → B) → Result A HpackFault → Result B HpackFault → Type 0
Equals view (Ok x) read = read ≡ Ok (view x)
Equals view (Err e) read = read ≡ Err e

-- A refusal is the one that is read. Memory may run out at any time.
abbrev pub Fails : {A : Type 0} → HpackFault → Result A HpackFault → Type 0
Fails NoMemory read = Unit {0}
Fails BadIndex read = read ≡ Err BadIndex
Fails BadInteger read = read ≡ Err BadInteger
Fails BadHuffman read = read ≡ Err BadHuffman
Fails SizeUpdate read = read ≡ Err SizeUpdate
Fails ListTooLarge read = read ≡ Err ListTooLarge

-- What was answered, seen by view, is what is read, unless memory ran out.
abbrev pub Gives : {A B : Type 0} → (A → B) → Result A HpackFault → Result B HpackFault → Type 0
Gives view (Ok x) read = read ≡ Ok (view x)
Gives view (Err e) read = Fails e read
