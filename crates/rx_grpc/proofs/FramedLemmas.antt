-- Messages that were framed are read back.
use Rattle.std.proofs.Common.{◌≡◌, ℕ, ◌+◌, ◌-◌, ◌*◌, ◌/◌, ◌%◌, ◌<◌, ◌≤◌, true, false, List, [], ◌∷◌, ◌++◌, length, drop, get_or, refl, sym, ap, ◌∙◌, nat_eq, nat_lt, arith, append_assoc, append-nil, None}
use Rattle.std.proofs.lemmas.Bool.{lt-ltb, le-ltb}
use Rattle.std.proofs.lemmas.Bool.Decides.{nat_tests}
use Rattle.rx_h2frame.specs.Write.{four}
use Rattle.rx_grpc.specs.declared.head.Head.{Head}
use Rattle.rx_grpc.specs.declared.head.Head.TheVariants.{Success}
use Rattle.rx_grpc.specs.Framing.{Whole, Lacks, size_of, sized, next_message, framed, AllSmall}
use Rattle.rx_grpc.specs.Heard.{Heard, nothing, settled, read}
use Rattle.rx_grpc.specs.Uses.{ReadsBack}
use Rattle.rx_grpc.proofs.ReadLemmas.{settled_lacks, read_front, read_append}

-- a reader that goes on, with these bytes of a message
abbrev pub at : Head → List (List ℕ) → Heard → List ℕ → Heard
at head messages from rest = record from { head = head; rest = rest; messages = messages; end = None }

abbrev pub prefix : ℕ → List ℕ
prefix n = 0 ∷ four n

pub four_is : (n : ℕ) → n ≤ 4194304 → ((n / 16777216 * 256 + n / 65536 % 256) * 256 + n / 256 % 256) * 256 + n % 256 ≡ n
four_is n small = omega (arith, small)

pub short_lacks : (bytes : List ℕ) → 0 < length bytes → length bytes < 5 → get_or bytes 0 0 ≡ 0 → next_message bytes ≡ Lacks (5 - length bytes)
unfolding next_message
short_lacks bytes some few flag =
    let e : nat_eq (length bytes) 0 ≡ false = grind (arith, nat_tests) in
    let f : nat_lt (length bytes) 5 ≡ true = lt-ltb _ _ few in
    rw (e, flag, f) refl

pub message_sized : (n : ℕ) (body : List ℕ) → n ≤ 4194304 → next_message (prefix n ++ body) ≡ sized n (prefix n ++ body)
unfolding next_message
message_sized n body small =
    let e : nat_eq (length (prefix n ++ body)) 0 ≡ false = grind (arith, nat_tests) in
    let f : nat_lt (length (prefix n ++ body)) 5 ≡ false = le-ltb _ _ (omega arith) in
    let size : size_of (prefix n ++ body) ≡ n = four_is n small in
    rw (e, f, size) refl

pub sized_lacks : (n : ℕ) (bytes : List ℕ) → n ≤ 4194304 → length bytes < n + 5 → sized n bytes ≡ Lacks (n + 5 - length bytes)
unfolding sized
sized_lacks n bytes small short = rw (le-ltb 4194304 n small, lt-ltb (length bytes) (n + 5) short) refl

pub sized_whole : (n : ℕ) (bytes : List ℕ) → n ≤ 4194304 → n + 5 ≤ length bytes → sized n bytes ≡ Whole (drop 5 bytes)
unfolding sized
sized_whole n bytes small long = rw (le-ltb 4194304 n small, le-ltb (length bytes) (n + 5) long) refl

pub settled_whole : (h : Heard) (message : List ℕ) → next_message h.rest ≡ Whole message → settled h ≡ record h { messages = h.messages ++ message ∷ []; rest = [] }
unfolding settled
settled_whole h message e = rw e refl

pub no_message : next_message [] ≡ Lacks 1
unfolding next_message
no_message = refl

-- the flag, and then the length
pub read_flag : (head : Head) (ms : List (List ℕ)) (from : Heard) → read (at head ms from []) (0 ∷ []) ≡ at head ms from (0 ∷ [])
read_flag head ms from =
    read_front (at head ms from []) 1 0 [] refl no_message (omega arith)
    ∙ settled_lacks (at head ms from (0 ∷ [])) 4 (short_lacks (0 ∷ []) (omega arith) (omega arith) refl)

pub read_size : (head : Head) (ms : List (List ℕ)) (from : Heard) (n : ℕ) → read (at head ms from (0 ∷ [])) (four n) ≡ settled (at head ms from (prefix n))
read_size head ms from n = read_front (at head ms from (0 ∷ [])) 4 _ _ refl (short_lacks (0 ∷ []) (omega arith) (omega arith) refl) (omega arith)

pub read_body : (head : Head) (ms : List (List ℕ)) (from : Heard) (m : List ℕ) → length m ≤ 4194304 → read (settled (at head ms from (prefix (length m)))) m ≡ at head (ms ++ m ∷ []) from []
read_body head ms from [] small = settled_whole (at head ms from (prefix 0)) [] (rw (append-nil (prefix 0)) at (message_sized 0 [] (omega arith)) ∙ sized_whole 0 (prefix 0) (omega arith) (omega arith))
read_body head ms from (b ∷ m) small =
    let n = length (b ∷ m) in
    let lacks : next_message (prefix n) ≡ Lacks n = rw (append-nil (prefix n)) at (message_sized n [] small) ∙ (sized_lacks n (prefix n) small (omega arith) ∙ ap Lacks (omega arith)) in
    let whole : next_message (prefix n ++ b ∷ m) ≡ Whole (b ∷ m) = message_sized n (b ∷ m) small ∙ sized_whole n (prefix n ++ b ∷ m) small (omega arith) in
    ap (λ (x : Heard). read x (b ∷ m)) (settled_lacks (at head ms from (prefix n)) n lacks)
    ∙ (read_front (at head ms from (prefix n)) n b m refl lacks (omega arith)
    ∙ settled_whole (at head ms from (prefix n ++ b ∷ m)) (b ∷ m) whole)

pub read_message : (head : Head) (ms : List (List ℕ)) (from : Heard) (m : List ℕ) → length m ≤ 4194304 → read (at head ms from []) (prefix (length m) ++ m) ≡ at head (ms ++ m ∷ []) from []
read_message head ms from m small =
    read_append (at head ms from []) (0 ∷ []) (four (length m) ++ m)
    ∙ (ap (λ (x : Heard). read x (four (length m) ++ m)) (read_flag head ms from)
    ∙ (read_append (at head ms from (0 ∷ [])) (four (length m)) m
    ∙ (ap (λ (x : Heard). read x m) (read_size head ms from (length m))
    ∙ read_body head ms from m small)))

pub read_framed : (messages : List (List ℕ)) (head : Head) (ms : List (List ℕ)) (from : Heard) → AllSmall messages → read (at head ms from []) (framed messages) ≡ at head (ms ++ messages) from []
read_framed [] head ms from small = ap (λ (x : List (List ℕ)). at head x from []) (sym (append-nil ms))
read_framed (m ∷ messages) head ms from small =
    read_append (at head ms from []) (prefix (length m) ++ m) (framed messages)
    ∙ (ap (λ (x : Heard). read x (framed messages)) (read_message head ms from m small.0)
    ∙ (read_framed messages head (ms ++ m ∷ []) from small.1
    ∙ ap (λ (x : List (List ℕ)). at head x from []) (append_assoc ms (m ∷ []) messages)))

pub reads_back : (messages : List (List ℕ)) → ReadsBack messages
reads_back messages small = read_framed messages Success [] nothing small
