-- The part of what a server tells that is for one stream: its header lists, bytes, reset and end, and the GOAWAY that
-- leaves it out. What follows the server's end or reset of the stream is dropped (RFC 9113 5.1, 6.8).
use Rattle.std.specs.Prelude.{ℕ, Bool, true, false, ◌&&◌, ◌||◌, not, List, [], ◌∷◌, ◌++◌, if◌then◌else◌, nat_lt, ◌==◌}
use Rattle.rx_h2conn.specs.Session.{Event, Headers, Bytes, Reset, Gone}

abbrev pub is_on : ℕ → Event → Bool
is_on id (Headers stream list last) = stream == id
is_on id (Bytes stream bytes last) = stream == id
is_on id (Reset stream code) = stream == id
is_on id (Gone last) = false

abbrev pub ends_stream : Event → Bool
ends_stream (Headers stream list last) = last
ends_stream (Bytes stream bytes last) = last
ends_stream (Reset stream code) = true
ends_stream (Gone last) = false

-- a GOAWAY whose last stream is below this one: the server didn't act on it
abbrev pub leaves_out : ℕ → Event → Bool
leaves_out id (Gone last) = nat_lt last id
leaves_out id (Headers stream list last) = false
leaves_out id (Bytes stream bytes last) = false
leaves_out id (Reset stream code) = false

pub record Part : Type 0 where
  pub events : List Event
  pub done : Bool  -- the server has ended the stream
  pub gone : Bool  -- a GOAWAY has left it out

abbrev pub blank : Part
blank = record { events = []; done = false; gone = false }

-- up to the stream's end, and the first GOAWAY that leaves it out
abbrev pub counts : Part → ℕ → Event → Bool
counts p id event = (is_on id event && not p.done) || (leaves_out id event && not p.gone)

abbrev pub with_event : Part → ℕ → Event → Part
with_event p id event = record {
  events = p.events ++ (if counts p id event then event ∷ [] else []);
  done = p.done || (is_on id event && ends_stream event);
  gone = p.gone || leaves_out id event;
}

abbrev pub part_from : Part → ℕ → List Event → Part
part_from p id [] = p
part_from p id (event ∷ events) = part_from (with_event p id event) id events

abbrev pub part : ℕ → List Event → Part
part id events = part_from blank id events
