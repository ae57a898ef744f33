-- An attempt goes on from turn to turn, and an honest farm stays honest.
use Rattle.std.proofs.Common.{◌≡◌, ◌≢◌, ◌∙◌, ℕ, List, [], ◌∷◌, refl, sym, ap, inl, inr}
use Rattle.rx_base.specs.declared.digests.Digest.{Digest}
use Rattle.rx_world.specs.declared.outcomes.Outcome.{Outcome}
use Rattle.rx_exec_messages.specs.Calls.{IsNamedFor}
use Rattle.rx_remote.specs.declared.asks.Ask.{Ask}
use Rattle.rx_remote.specs.declared.asks.Ask.TheVariants.{Capabilities, End, Execute, Fetch, GetResult, NextOperation, Upload, Wait}
use Rattle.rx_remote.specs.declared.asks.Heard.{Heard}
use Rattle.rx_remote.specs.declared.asks.Heard.TheVariants.{Begun, Blobs, Cached, Fault, Fetched, Next, Over, Stopped, Told, Uploaded}
use Rattle.rx_remote.specs.declared.phases.Phase.{Phase}
use Rattle.rx_remote.specs.declared.phases.Phase.TheVariants as phases
use Rattle.rx_remote.specs.declared.states.RemoteState.{RemoteState}
use Rattle.rx_remote.specs.declared.tasks.Task.{Task}
use Rattle.rx_remote.specs.History.{next_of}
use Rattle.rx_remote.specs.Honest.{IsHonestHeard}
use Rattle.rx_remote.specs.Legal.{Fits}
use Rattle.rx_remote.specs.Marks.{Turn, name_of, name_since, or_name, phase_of}
use Rattle.rx_remote.specs.States.{IsStep}
use Rattle.rx_remote.specs.Turns.{IsGoing, IsHonestSoFar, IsUnderWay, Names, Runs, Starts}
use Rattle.rx_remote.proofs.LeftAsks.{under-way, waits-for}

-- ---- an attempt goes on

pub going-on : (task : Task) (all : List Digest) (history : List Turn) (state next : RemoteState) (ask now : Ask) (heard : Heard) (streaming later : Type 0) →
    IsGoing task all history state ask streaming → Fits all ask heard → IsStep task history heard next now → (IsUnderWay heard → later) → phase_of now ≢ phases.Ended →
    IsGoing task all (record { ask = ask; heard = heard } ∷ history) next now later
going-on task all history state next ask now heard streaming later g fits s streams on =
    let same : next_of task history ≡ ask = sym g.ask_is in
    let at : now ≡ next_of task (record { ask = ask; heard = heard } ∷ history) = rw same at s.ask_is in
    record {
      legal = (g.ask_is, fits, g.legal);
      state_is = rw same at (s.state_is on);
      ask_is = at;
      streams = λ e. streams (under-way task ask heard history (sym at ∙ e));
    }

named-since : (operation : List ℕ → Digest) (action : Digest) (phase : Phase) (name : List ℕ) → IsNamedFor operation action name → IsNamedFor operation action (name_since phase name)
named-since operation action phases.Execute name n = inl refl
named-since operation action phases.Capabilities name n = n
named-since operation action phases.GetResult name n = n
named-since operation action (phases.Upload fresh) name n = n
named-since operation action phases.NextOperation name n = n
named-since operation action phases.Wait name n = n
named-since operation action phases.Fetch name n = n
named-since operation action phases.Ended name n = n

named-or : (operation : List ℕ → Digest) (action running : Digest) (name before : List ℕ) → running ≡ action → IsNamedFor operation running name → IsNamedFor operation action before →
    IsNamedFor operation action (or_name name before)
named-or operation action running [] before is n b = b
named-or operation action running (byte ∷ bytes) before is n b =
    elim n [
      | inl none ↦ absurd (cc none)
      | inr same ↦ inr (same ∙ is)
    ]

named-turn : (operation : List ℕ → Digest) (action running : Digest) (ask : Ask) (heard : Heard) (earlier : List Turn) → (all : List Digest) → Fits all ask heard →
    (ask ≡ NextOperation → running ≡ action) → Names operation running heard → IsNamedFor operation action (name_of earlier) →
    IsNamedFor operation action (name_of (record { ask = ask; heard = heard } ∷ earlier))
named-turn operation action running ask (Next told) earlier all fits runs names n =
    named-or operation action running told.name (name_since (phase_of ask) (name_of earlier)) (runs fits) names (named-since operation action (phase_of ask) (name_of earlier) n)
named-turn operation action running ask (Told told) earlier all fits runs names n = named-since operation action (phase_of ask) (name_of earlier) n
named-turn operation action running ask (Cached result) earlier all fits runs names n = named-since operation action (phase_of ask) (name_of earlier) n
named-turn operation action running ask (Uploaded left_out) earlier all fits runs names n = named-since operation action (phase_of ask) (name_of earlier) n
named-turn operation action running ask Begun earlier all fits runs names n = named-since operation action (phase_of ask) (name_of earlier) n
named-turn operation action running ask (Fetched texts) earlier all fits runs names n = named-since operation action (phase_of ask) (name_of earlier) n
named-turn operation action running ask (Fault fault) earlier all fits runs names n = named-since operation action (phase_of ask) (name_of earlier) n
named-turn operation action running ask (Over code) earlier all fits runs names n = named-since operation action (phase_of ask) (name_of earlier) n
named-turn operation action running ask (Blobs fault) earlier all fits runs names n = named-since operation action (phase_of ask) (name_of earlier) n
named-turn operation action running ask (Stopped decision) earlier all fits runs names n = named-since operation action (phase_of ask) (name_of earlier) n

-- ---- what runs

start-runs : (task : Task) (operation : List ℕ → Digest) (action new : Digest) (ask : Ask) (history : List Turn) → phase_of ask ≢ phases.Ended →
    Fits [] ask Begun → ask ≡ next_of task history → IsNamedFor operation action (name_of history) → Starts operation action new ask → new ≡ action
start-runs task operation action new (Execute skip) history on fits is named s = s
start-runs task operation action new (Wait name) history on fits is named s =
    let last = waits-for task history name (sym is) in
    elim named [
      | inl none ↦ absurd (last.1 none)
      | inr same ↦ s ∙ ap operation last.0 ∙ same
    ]
start-runs task operation action new Capabilities history on fits is named s = absurd fits
start-runs task operation action new GetResult history on fits is named s = absurd fits
start-runs task operation action new (Upload fresh) history on fits is named s = absurd fits
start-runs task operation action new NextOperation history on fits is named s = absurd fits
start-runs task operation action new (Fetch digests) history on fits is named s = absurd fits
start-runs task operation action new (End end) history on fits is named s = absurd fits

turn-runs : (task : Task) (operation : List ℕ → Digest) (action old new : Digest) (ask : Ask) (heard : Heard) (history : List Turn) (all : List Digest) → phase_of ask ≢ phases.Ended →
    Fits all ask heard → ask ≡ next_of task history → IsNamedFor operation action (name_of history) → (ask ≡ NextOperation → old ≡ action) →
    Runs operation action old new ask heard → IsUnderWay heard → new ≡ action
turn-runs task operation action old new ask Begun history all on fits is named before r u = start-runs task operation action new ask history on fits is named r
turn-runs task operation action old new ask (Next told) history all on fits is named before r u = r ∙ before fits
turn-runs task operation action old new ask (Told told) history all on fits is named before r u = absurd u
turn-runs task operation action old new ask (Cached result) history all on fits is named before r u = absurd u
turn-runs task operation action old new ask (Uploaded left_out) history all on fits is named before r u = absurd u
turn-runs task operation action old new ask (Fetched texts) history all on fits is named before r u = absurd u
turn-runs task operation action old new ask (Fault fault) history all on fits is named before r u = absurd u
turn-runs task operation action old new ask (Over code) history all on fits is named before r u = absurd u
turn-runs task operation action old new ask (Blobs fault) history all on fits is named before r u = absurd u
turn-runs task operation action old new ask (Stopped decision) history all on fits is named before r u = absurd u

-- An honest farm stays honest from turn to turn.
pub honest-on : (task : Task) (blob : Digest → List ℕ) (operation : List ℕ → Digest) (action old new : Digest) (outcome : Outcome) (ask now : Ask) (heard : Heard) (history : List Turn) (all : List Digest) →
    IsHonestSoFar blob operation action task.command outcome old history ask → phase_of ask ≢ phases.Ended → ask ≡ next_of task history → Fits all ask heard →
    IsHonestHeard blob task.command outcome ask heard → Names operation old heard → Runs operation action old new ask heard →
    now ≡ next_of task (record { ask = ask; heard = heard } ∷ history) →
    IsHonestSoFar blob operation action task.command outcome new (record { ask = ask; heard = heard } ∷ history) now
honest-on task blob operation action old new outcome ask now heard history all h on is fits honest names runs at = record {
  heard = (honest, h.heard);
  named = named-turn operation action old ask heard history all fits h.runs names h.named;
  runs = λ e. turn-runs task operation action old new ask heard history all on fits is h.named h.runs runs (under-way task ask heard history (sym at ∙ e));
}
