-- An event as the specification has it.
use Rattle.std.specs.Prelude.{◌≡◌, Option, None, Some}
use Rattle.rx_hpack.specs.Header.{views}
use Rattle.rx_h2conn.specs.declared.event.ConnEvent.{ConnEvent}
use Rattle.rx_h2conn.specs.declared.event.ConnEvent.TheVariants as Events
use Rattle.rx_h2conn.specs.Session.{Event, Headers, Bytes, Reset, Gone}

abbrev pub event_view : ConnEvent → Event
event_view (Events.Headers stream list last) = Headers stream (views list.items) last
event_view (Events.Bytes stream bytes last) = Bytes stream bytes.items last
event_view (Events.Reset stream code) = Reset stream code
event_view (Events.Gone last) = Gone last

-- the code hands out this event, or none
abbrev pub Hands : Option Event → Option ConnEvent → Type 0
Hands event (Some e) = event ≡ Some (event_view e)
Hands event None = event ≡ None
