-- Versions of the Remote Execution API as text in a reply.
use Rattle.std.specs.Prelude.{◌≤◌, IfSome, ℕ, ℤ, pos, neg_ℤ, ◌+◌, ◌-◌, ◌*◌, ◌==◌, ◌&&◌, ◌||◌, Bool, true, false, not, nat_le, nat_lt, List, [], ◌∷◌, ◌++◌, codes, Option, None, Some, is_none, unwrap_or, Result, Ok, if◌then◌else◌}
use Rattle.std.specs.Fmt.{signed_decimal}
use Rattle.std.specs.Str.{bytes_eq}
use Rattle.rx_base.specs.Results.{◌>>=◌}
use Rattle.rx_world.specs.declared.versions.SemVer.{SemVer}
use Rattle.rx_session.specs.declared.reply_fault.ReplyFault.{ReplyFault}
use Rattle.rx_session.specs.declared.version_numbers.NumberSoFar.{NumberSoFar}
use Rattle.rx_session.specs.declared.version_numbers.NumberStep.{NumberStep}
use Rattle.rx_session.specs.declared.version_numbers.NumberStep.TheVariants.{Within, Ended}
use Rattle.rx_session.specs.ReplyFaults.{bad_reply}

-- ---- written

-- a number in decimal, and a dot
unfoldable pub dotted : ℤ → List ℕ
dotted number = signed_decimal number ++ codes "."

-- a version in decimal, as `2.0.0`
unfoldable pub version_text : SemVer → List ℕ
version_text version = dotted version.major ++ dotted version.minor ++ signed_decimal version.patch

-- the lowest and the highest version, as `2.0.0-2.1.0`
abbrev pub versions_text : SemVer → SemVer → List ℕ
versions_text low high = version_text low ++ codes "-" ++ version_text high

-- ---- read

-- the greatest size of a number of 32 bits, with a minus
abbrev pub most : ℕ
most = 2147483648

-- a number of 32 bits by its sign and the value of its digits, where it has digits
unfoldable pub signed_of : Bool → Option ℕ → Result ℤ ReplyFault
signed_of negative None = bad_reply
signed_of true (Some n) = Ok (neg_ℤ (pos n))
signed_of false (Some n) = if nat_lt n most then Ok (pos n) else bad_reply

abbrev pub is_digit : ℕ → Bool
is_digit b = nat_le 48 b && nat_le b 57

-- the value with one more digit
abbrev pub with_digit : Option ℕ → ℕ → ℕ
with_digit value b = unwrap_or value 0 * 10 + (b - 48)

abbrev pub so_far : Bool → Option ℕ → NumberSoFar
so_far negative value = record { negative = negative; value = value }

-- nothing of a number is read yet
abbrev pub no_number : NumberSoFar
no_number = so_far false None

-- a digit goes on with a number
abbrev pub digit_step : NumberSoFar → ℕ → Result NumberStep ReplyFault
digit_step so b = if nat_lt most (with_digit so.value b) then bad_reply else Ok (Within (so_far so.negative (Some (with_digit so.value b))))

-- a dot or a dash ends it
unfoldable pub ended : NumberSoFar → Result NumberStep ReplyFault
ended so = do
  n ← signed_of so.negative so.value
  Ok (Ended n)

-- a number after one more byte: a digit, a minus before the first digit, or a dot or a dash behind the last one
unfoldable pub step_of : NumberSoFar → ℕ → Result NumberStep ReplyFault
step_of so b =
    if is_digit b then digit_step so b
    else if b == 45 && (is_none so.value && not so.negative) then Ok (Within (so_far true None))
    else if b == 46 || b == 45 then ended so
    else bad_reply

-- what a number's digits came to is no more than the most
abbrev pub IsSmall : NumberStep → Type 0
IsSmall (Within so) = IfSome so.value (λ n. n ≤ most)
IsSmall (Ended n) = Unit {0}

-- a number, and others behind it
abbrev pub before : ℤ → Result (List ℤ) ReplyFault → Result (List ℤ) ReplyFault
before n others = do
  ns ← others
  Ok (n ∷ ns)

abbrev pub after : (NumberSoFar → Result (List ℤ) ReplyFault) → NumberStep → Result (List ℤ) ReplyFault
after numbers (Within so) = numbers so
after numbers (Ended n) = before n (numbers no_number)

-- the numbers in a text, with a dot or a dash between each two, from within a number on
unfoldable pub numbers_from : NumberSoFar → List ℕ → Result (List ℤ) ReplyFault
numbers_from so [] = signed_of so.negative so.value >>= (λ n. Ok (n ∷ []))
numbers_from so (b ∷ text) = step_of so b >>= (λ step. after (λ so. numbers_from so text) step)

-- the lowest and the highest version by their six numbers
abbrev pub versions_by : List ℤ → Result (SemVer × SemVer) ReplyFault
versions_by (a ∷ b ∷ c ∷ d ∷ e ∷ f ∷ []) = Ok (record { major = a; minor = b; patch = c }, record { major = d; minor = e; patch = f })
versions_by numbers = bad_reply

-- the two versions, where this is their text
abbrev pub if_text : List ℕ → SemVer × SemVer → Result (SemVer × SemVer) ReplyFault
if_text text versions = if bytes_eq (versions_text versions.0 versions.1) text then Ok versions else bad_reply

-- the two versions whose text this is
unfoldable pub versions_of : List ℕ → Result (SemVer × SemVer) ReplyFault
versions_of text = do
  numbers ← numbers_from no_number text
  versions ← versions_by numbers
  if_text text versions
