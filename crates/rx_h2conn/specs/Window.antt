-- How much may still be sent on a stream (RFC 9113 6.9).
use Rattle.std.specs.Prelude.{ℕ, ◌+◌, ◌-◌, Bool, nat_lt}
use Rattle.rx_h2conn.specs.declared.window.Window.{Window}

-- what there is room for, where initial is the window of a new stream: none where the window is 0 or below
abbrev pub room : ℕ → Window → ℕ
room initial w = initial + w.ahead - w.behind

abbrev pub spent : Window → ℕ → Window
spent w size = record { ahead = w.ahead - size; behind = w.behind + (size - w.ahead) }

abbrev pub granted : Window → ℕ → Window
granted w size = record { ahead = w.ahead + (size - w.behind); behind = w.behind - size }

-- with so much more it would be past 2^31 - 1
abbrev pub grows_past : ℕ → Window → ℕ → Bool
grows_past initial w size = nat_lt (2147483647 + w.behind) (initial + w.ahead + size)
