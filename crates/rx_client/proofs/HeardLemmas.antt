-- A frame that is read in pieces: its header, and its payload.
use Rattle.std.proofs.Common.{◌≡◌, ℕ, ◌+◌, ◌<◌, ◌≤◌, true, false, List, [], ◌∷◌, ◌++◌, length, take, drop, Option, Some, None, refl, ◌∙◌, arith, rules, append_assoc, append-nil, nat_lt, length-append}
use Rattle.std.proofs.lemmas.Bool.{lt-ltb, le-ltb}
use Rattle.std.proofs.lemmas.List.{take_all}
use Rattle.std.proofs.Math.Seq.{take-append_seam}
use Rattle.std.specs.Io.KnownBytes.{IsAtEnd}
use Rattle.std.specs.Result.{result_ok}
use Rattle.std.specs.Str.{bytes_eq}
use Rattle.rx_session.specs.ReplyReading.{reply_of}
use Rattle.rx_session.specs.Frames.{shutdown_done}
use Rattle.rx_session.proofs.FrameLemmas.{payload_is}
use Rattle.rx_client.specs.Heard.{first_reply, given_by, is_shutdown_done, reply_len, reply_within, rest_of}

-- ---- all that an input gives

-- an input at its end gives what was read
pub given-at_end : (read : List ℕ) (left : Option (List ℕ)) → IsAtEnd left → given_by read left ≡ read
given-at_end read None h = append-nil read
given-at_end read (Some rest) h = rw h (append-nil read)

-- ---- the header

long : (len : ℕ) (text : List ℕ) → reply_len text ≡ Some len → 5 ≤ length text
unfolding reply_len
long len [] h = absurd (cc h)
long len (a ∷ []) h = absurd (cc h)
long len (a ∷ b ∷ []) h = absurd (cc h)
long len (a ∷ b ∷ c ∷ []) h = absurd (cc h)
long len (a ∷ b ∷ c ∷ d ∷ []) h = absurd (cc h)
long len (a ∷ b ∷ c ∷ d ∷ e ∷ rest) h = omega arith

-- the header tells the same with more bytes behind it
reply_len-more : (text more : List ℕ) → 5 ≤ length text → reply_len (text ++ more) ≡ reply_len text
unfolding reply_len
reply_len-more [] more h = absurd (omega (arith, h))
reply_len-more (a ∷ []) more h = absurd (omega (arith, h))
reply_len-more (a ∷ b ∷ []) more h = absurd (omega (arith, h))
reply_len-more (a ∷ b ∷ c ∷ []) more h = absurd (omega (arith, h))
reply_len-more (a ∷ b ∷ c ∷ d ∷ []) more h = absurd (omega (arith, h))
reply_len-more (a ∷ b ∷ c ∷ d ∷ e ∷ rest) more h =
    let first : nat_lt (length (a ∷ b ∷ c ∷ d ∷ e ∷ rest)) 5 ≡ false = le-ltb _ _ (omega arith) in
    let second : nat_lt (length (a ∷ b ∷ c ∷ d ∷ e ∷ (rest ++ more))) 5 ≡ false = le-ltb _ _ (omega arith) in
    rw (first, second) refl

-- where no header of a Reply's frame was read, the input begins with no such frame
pub no_header : (text : List ℕ) (left : Option (List ℕ)) → reply_len text ≡ None → (length text < 5 → IsAtEnd left) → first_reply (given_by text left) ≡ None
unfolding first_reply
no_header text left none end =
    elim (nat_lt (length text) 5) as (λ b. nat_lt (length text) 5 ≡ b → first_reply (given_by text left) ≡ None) [
      | true ↦ λ short. let lt : length text < 5 = search (rules, short) in rw (given-at_end text left (end lt), none) refl
      | false ↦ λ enough. let le : 5 ≤ length text = search (rules, enough) in rw (reply_len-more text (rest_of left) le, none) refl
    ] refl

-- ---- the payload

after_header : (len : ℕ) (head front more : List ℕ) → reply_len head ≡ Some len → front ≡ head ++ more → (rest : List ℕ) → first_reply (front ++ rest) ≡ reply_within (front ++ rest) len
unfolding first_reply
after_header len head front more told grown rest =
    let enough = long len head told in
    let whole : front ++ rest ≡ head ++ (more ++ rest) = rw grown (append_assoc head more rest) in
    let same : reply_len (front ++ rest) ≡ Some len = rw whole (reply_len-more head (more ++ rest) enough ∙ told) in
    rw same refl

pub payload_cut : (len : ℕ) (head front more : List ℕ) (left : Option (List ℕ)) → reply_len head ≡ Some len → front ≡ head ++ more → length front < 5 + len → IsAtEnd left
    → first_reply (given_by front left) ≡ None
unfolding reply_within
payload_cut len head front more left told grown lt end =
    let at_end = given-at_end front left end in
    let test : nat_lt (length front) (5 + len) ≡ true = lt-ltb _ _ lt in
    after_header len head front more told grown (rest_of left) ∙ rw (at_end, test) refl

pub payload_whole : (len : ℕ) (head front more : List ℕ) (left : Option (List ℕ)) → reply_len head ≡ Some len → front ≡ head ++ more → length front ≡ 5 + len
    → first_reply (given_by front left) ≡ result_ok (reply_of (drop 5 front))
unfolding reply_within
payload_whole len head front more left told grown size =
    let enough : 5 + len ≤ length (front ++ rest_of left) = omega (arith, length-append front (rest_of left)) in
    let test : nat_lt (length (front ++ rest_of left)) (5 + len) ≡ false = le-ltb _ _ enough in
    after_header len head front more told grown (rest_of left) ∙ rw (test, payload_is len front (rest_of left) size) refl

-- ---- the frame of ShutdownDone

front_is : (text more : List ℕ) → length text ≡ 5 → take 5 (text ++ more) ≡ text
front_is text more size = rw (← size) (take-append_seam text more)

pub done_read : (text : List ℕ) (left : Option (List ℕ)) → length text ≤ 5 → (length text < 5 → IsAtEnd left) → bytes_eq text shutdown_done ≡ is_shutdown_done (given_by text left)
unfolding is_shutdown_done
done_read text left most end =
    elim (nat_lt (length text) 5) as (λ b. nat_lt (length text) 5 ≡ b → bytes_eq text shutdown_done ≡ is_shutdown_done (given_by text left)) [
      | true ↦ λ short. let lt : length text < 5 = search (rules, short) in rw (given-at_end text left (end lt), take_all 5 text most) refl
      | false ↦ λ enough.
          let le : 5 ≤ length text = search (rules, enough) in
          let five : length text ≡ 5 = omega (arith, most, le) in
          rw (front_is text (rest_of left) five) refl
    ] refl
