-- Refusals of a request.
use Rattle.std.specs.Prelude.{◌≡◌, ℕ, Result, Ok, Err}
use Rattle.rx_session.specs.declared.bad.Bad.{Bad}
use Rattle.rx_session.specs.declared.bad.BadReason.{BadReason}
use Rattle.rx_session.specs.declared.bad.BadReason.TheVariants.{CutShort, BadKind, TooLong, BadMessage, UnknownVersion, WrongRoot, BadField, NotBuilt, Trailing}
use Rattle.rx_session.specs.declared.bad.SessionFault.{SessionFault}
use Rattle.rx_session.specs.declared.bad.SessionFault.TheVariants as faults

-- the number of a reason in a reply
abbrev pub reason_number : BadReason → ℕ
reason_number CutShort = 1
reason_number TooLong = 2
reason_number BadKind = 3
reason_number BadMessage = 4
reason_number UnknownVersion = 5
reason_number WrongRoot = 6
reason_number BadField = 7
reason_number Trailing = 8
reason_number NotBuilt = 9

abbrev pub bad : BadReason → ℕ → Bad
bad reason value = record { reason = reason; value = value }

-- What a call answered is what a definition gives, unless the source failed or memory ran out.
abbrev pub Decodes : {X Y : Type 0} → (X → Y) → Result X SessionFault → Result Y Bad → Type 0
Decodes view (Ok x) given = given ≡ Ok (view x)
Decodes view (Err (faults.Bad why)) given = given ≡ Err why
Decodes view (Err faults.ReadFault) given = Unit {0}
Decodes view (Err faults.NoMemory) given = Unit {0}
