-- The byte of each kind of frame.
use Rattle.std.specs.Prelude.{ℕ, ◌==◌, if◌then◌else◌}
use Rattle.rx_h2frame.specs.declared.kind.Kind.{Kind}
use Rattle.rx_h2frame.specs.declared.kind.Kind.TheVariants.{Data, Headers, Priority, ResetStream, Settings, PushPromise, Ping, GoAway, WindowUpdate, Continuation, Unknown}

abbrev pub number_of : Kind → ℕ
number_of Data = 0
number_of Headers = 1
number_of Priority = 2
number_of ResetStream = 3
number_of Settings = 4
number_of PushPromise = 5
number_of Ping = 6
number_of GoAway = 7
number_of WindowUpdate = 8
number_of Continuation = 9
number_of (Unknown byte) = byte

unfoldable pub kind_of : ℕ → Kind
kind_of byte =
    if byte == 0 then Data
    else if byte == 1 then Headers
    else if byte == 2 then Priority
    else if byte == 3 then ResetStream
    else if byte == 4 then Settings
    else if byte == 5 then PushPromise
    else if byte == 6 then Ping
    else if byte == 7 then GoAway
    else if byte == 8 then WindowUpdate
    else if byte == 9 then Continuation
    else Unknown byte
