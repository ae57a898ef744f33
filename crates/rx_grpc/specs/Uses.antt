-- Whole runs of a reader, and what stays of an answer that was shown.
use Rattle.std.specs.Prelude.{◌≡◌, ℕ, Bool, false, List, [], ◌∷◌, ◌++◌, take, drop, Option, Some}
use Rattle.rx_h2conn.specs.Incoming.{incoming, nothing as no_bytes}
use Rattle.rx_h2conn.specs.Part.{part}
use Rattle.rx_h2conn.specs.Session.{Event}
use Rattle.rx_grpc.specs.declared.head.Head.TheVariants.{Success}
use Rattle.rx_grpc.specs.Framing.{framed, AllSmall}
use Rattle.rx_grpc.specs.Heard.{Heard, nothing, read, step, heard}

pub data Use : Type 0 where
  Adds : Event → Use
  Nexts : Use

abbrev pub after : Heard → Use → Heard
after h (Adds event) = step h event
after h Nexts = record h { messages = drop 1 h.messages }

abbrev pub run : Heard → List Use → Heard
run h [] = h
run h (u ∷ uses) = run (after h u) uses

-- the messages that were handed out
abbrev pub given : Heard → Use → List (List ℕ)
given h (Adds event) = []
given h Nexts = take 1 h.messages

abbrev pub all_given : Heard → List Use → List (List ℕ)
all_given h [] = []
all_given h (u ∷ uses) = given h u ++ all_given (after h u) uses

abbrev pub added : List Use → List Event
added [] = []
added (Adds event ∷ uses) = event ∷ added uses
added (Nexts ∷ uses) = added uses

-- with these messages before
abbrev pub front : List (List ℕ) → Heard → Heard
front messages h = record h { messages = messages ++ h.messages }

-- what was handed out, with what is left, is what the events show
abbrev pub IsOfEvents : Heard → List Use → Type 0
IsOfEvents h uses = front (all_given h uses) (run h uses) ≡ heard h (added uses)

-- An answer that some events show is the answer of all, also where nothing more comes: look tells what is shown.
abbrev pub ShownStays : {A : Type 0} → (Bool → Heard → Option A) → Heard → List Event → List Event → Type 0
ShownStays look h events later = (ended : Bool) (answer : _) → look false (heard h events) ≡ Some answer → look ended (heard h (events ++ later)) ≡ Some answer

-- the events at a stream that received bytes tell
abbrev pub events_at : ℕ → List ℕ → List Event
events_at id bytes = (part id (incoming no_bytes bytes).events).events

-- and an answer that a front of the received bytes shows is the answer of all of them
abbrev pub FrontShows : {A : Type 0} → (Bool → Heard → Option A) → Heard → ℕ → List ℕ → List ℕ → Type 0
FrontShows look h id front more = (ended : Bool) (answer : _) → look false (heard h (events_at id front)) ≡ Some answer → look ended (heard h (events_at id (front ++ more))) ≡ Some answer

-- messages that were framed are read back from the bytes of an answer whose HTTP status is 200
abbrev pub ReadsBack : List (List ℕ) → Type 0
ReadsBack messages = AllSmall messages → read (record nothing { head = Success }) (framed messages) ≡ record nothing { head = Success; messages = messages }
