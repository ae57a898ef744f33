-- What the output holds of one stream.
use Rattle.std.specs.Prelude.{ℕ, Bool, true, false, ◌&&◌, List, [], ◌∷◌, ◌++◌, if◌then◌else◌, ◌==◌}
use Rattle.std.specs.List.{filter}
use Rattle.rx_h2frame.specs.declared.kind.Kind.{Kind}
use Rattle.rx_h2frame.specs.declared.kind.Kind.TheVariants.{Data, Headers, ResetStream, Continuation}
use Rattle.rx_h2frame.specs.Write.{Out}
use Rattle.rx_h2conn.specs.Session.{Reading}
use Rattle.rx_h2conn.specs.Emitted.{outs_unless}
use Rattle.rx_h2conn.specs.Open.{refusal, next_id, header_frames}
use Rattle.rx_h2conn.specs.Output.{send_frames, reset_frame}
use Rattle.rx_h2conn.specs.History.{Call, Feeds, Starves, Hands, Takes, Opens, Sends, Resets, after}

-- the kinds of frames that carry a stream: its headers, its bytes and its end
abbrev pub carries_stream : Kind → Bool
carries_stream Data = true
carries_stream Headers = true
carries_stream ResetStream = true
carries_stream Continuation = true
carries_stream _ = false

abbrev pub is_part : ℕ → Out → Bool
is_part id o = carries_stream o.kind && (o.stream == id)

-- the frames that carry this stream, in their order
abbrev pub part_of : ℕ → List Out → List Out
part_of id os = filter (is_part id) os

-- what a call gives to the stream: the header list with which it was opened, the bytes that `send` took with the end,
-- and its reset
abbrev pub part_by : Reading → ℕ → Call → List Out
part_by r id (Feeds piece) = []
part_by r id Starves = []
part_by r id Hands = []
part_by r id Takes = []
part_by r id (Opens fields last) = if next_id r.state == id then outs_unless (refusal r.state) (header_frames r.state fields last) else []
part_by r id (Sends i piece last) = if i == id then outs_unless r.state.fault (send_frames r.state i piece last) else []
part_by r id (Resets i code) = if i == id then outs_unless r.state.fault (reset_frame i code ∷ []) else []

abbrev pub all_parts : Reading → ℕ → List Call → List Out
all_parts r id [] = []
all_parts r id (c ∷ cs) = part_by r id c ++ all_parts (after r c) id cs
