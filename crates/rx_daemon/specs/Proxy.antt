-- A run of sessions, one after the other.
use Rattle.std.specs.Prelude.{◌≡◌, ◌≢◌, ◌⊎◌, ℕ, ◌+◌, ◌<◌, ◌≤◌, List, [], ◌∷◌, ◌++◌, Bool, false, true, Option, MatchOption, if◌then◌else◌, length}
use Rattle.std.specs.List.{list_any}
use Rattle.std.specs.Str.{bytes_eq}
use Rattle.rx_base.specs.Told.{Told}
use Rattle.rx_board.specs.declared.journal.Entry.{Entry}
use Rattle.rx_engine.specs.declared.transcripts.Ending.{Ending}
use Rattle.rx_engine.specs.declared.transcripts.Ending.TheVariants as ending
use Rattle.rx_engine.specs.declared.transcripts.Transcript.{Transcript}
use Rattle.rx_session.specs.Frames.{shutdown}
use Rattle.rx_world.specs.Causes.{Rose}
use Rattle.rx_daemon.specs.declared.proxy.Stop.{Stop}
use Rattle.rx_daemon.specs.declared.proxy.Stop.TheVariants.{Ended, FrontLost, NoMemory, ShutDown, Spent}
use Rattle.rx_daemon.specs.Fronts.{GivesAll}
use Rattle.rx_daemon.specs.Rights.{most_numbers}

-- Each desk has its session, numbered from n on, and each session goes on with the journal and the place where the one before it ended.
abbrev pub Served : {D : Type 0} → (D → D → List Entry → List Entry → ℕ → ℕ → ℕ → Transcript → Type 0) → ℕ → List Entry → List Entry → ℕ → ℕ → List D → List D → List Transcript → Type 0
Served S n old new before now [] [] [] = (new ≡ old) × (now ≡ before)
Served S n old new before now (desk ∷ desks) (back ∷ backs) (t ∷ ts) =
    (mid : List Entry) × (between : ℕ) × S desk back old mid before between n t × Served S (n + 1) mid new between now desks backs ts
Served S n old new before now desks backs ts = ⊥

-- desks left the front in order, and each was served
pub record Runs {D : Type 0} (coming_old coming_new : Option (List D)) (S : D → D → List Entry → List Entry → ℕ → ℕ → ℕ → Transcript → Type 0) (old new : List Entry) (before now : ℕ) (handed : List D) (transcripts : List Transcript) : Type 0 where
  pub left : List D
  pub given : GivesAll coming_old coming_new left
  pub served : Served S 1 old new before now left handed transcripts

-- the entries that a session added, of which the next number is n: one where it has a receipt, else none
abbrev pub IsEntryOf : ℕ → Transcript → List Entry → Type 0
IsEntryOf n t added =
    MatchOption t.receipt (added ≡ []) (λ receipt. (entry : Entry) × (added ≡ entry ∷ []) × (entry.number ≡ receipt.number) × (receipt.number ≡ n) × (entry.session ≡ t.number))

-- the journal is the sessions' entries, in their order
abbrev pub IsLegal : ℕ → List Entry → List Transcript → Type 0
IsLegal n journal [] = journal ≡ []
IsLegal n journal (t ∷ ts) =
    (added : List Entry) × (rest : List Entry) × (journal ≡ added ++ rest) × IsEntryOf n t added × IsLegal (n + length added) rest ts

-- whether a session ended so
abbrev pub is_source_lost : Ending → Bool
is_source_lost ending.SourceLost = true
is_source_lost ending.Replied = false
is_source_lost ending.SinkLost = false
is_source_lost ending.ShutDown = false
is_source_lost ending.NoMemory = false

abbrev pub is_sink_lost : Ending → Bool
is_sink_lost ending.SinkLost = true
is_sink_lost ending.Replied = false
is_sink_lost ending.SourceLost = false
is_sink_lost ending.ShutDown = false
is_sink_lost ending.NoMemory = false

-- the status of a run whose front was asked to its end, or as often as it may be
abbrev pub status_over : ℕ → List Transcript → ℕ
status_over otherwise ts =
    if list_any (λ t. is_source_lost t.ending) ts then 5
    else if list_any (λ t. is_sink_lost t.ending) ts then 6
    else otherwise

-- the status of a run, by why no more desks were asked for
abbrev pub status_of : Stop → List Transcript → ℕ
status_of FrontLost ts = 3
status_of NoMemory ts = 4
status_of Ended ts = status_over 0 ts
status_of ShutDown ts = status_over 0 ts
status_of Spent ts = status_over 7 ts

-- how many desks a run serves at most, one for each number of 32 bits
abbrev pub most_desks : ℕ
most_desks = 4294967295

-- ---- asked to end

-- the bytes that a session read ask for the run's end
abbrev pub asks_to_end : List ℕ → Bool
asks_to_end read = bytes_eq read shutdown

-- one of these sessions was asked to end the run
abbrev pub is_asked_to_end : List Transcript → Bool
is_asked_to_end ts = list_any (λ t. asks_to_end t.read) ts

-- the last session was asked to end the run, and no other was
pub record WasEnded (ts : List Transcript) : Type 0 where
  pub others : List Transcript
  pub last : Transcript
  pub all_are : ts ≡ others ++ last ∷ []
  pub unasked : is_asked_to_end others ≡ false
  pub asked : asks_to_end last.read ≡ true

-- that is so just where a run stops for it
abbrev pub IsEndedBy : Stop → List Transcript → Type 0
IsEndedBy ShutDown ts = WasEnded ts
IsEndedBy Ended ts = is_asked_to_end ts ≡ false
IsEndedBy FrontLost ts = is_asked_to_end ts ≡ false
IsEndedBy NoMemory ts = is_asked_to_end ts ≡ false
IsEndedBy Spent ts = is_asked_to_end ts ≡ false

-- Where a session was asked to end the run, it was the last one, and the status tells of nothing but sessions.
abbrev pub EndsWhereAsked : ℕ → List Transcript → Type 0
EndsWhereAsked status ts = (is_asked_to_end ts ≡ false) ⊎ (WasEnded ts × (status ≡ status_over 0 ts))

-- ---- why no more desks were asked for

-- The front has none, its count rose, as many were served as may be, a session was asked to end the run, or memory ran out.
abbrev pub IsStop : {D : Type 0} → Option (List D) → Option (List D) → ℕ → ℕ → List Transcript → Stop → Type 0
IsStop old new before now ts Ended = Told old new (λ coming left. left ≡ []) × (length ts < most_desks)
IsStop old new before now ts FrontLost = Rose before now
IsStop old new before now ts Spent = length ts ≡ most_desks
IsStop old new before now ts ShutDown = WasEnded ts
IsStop old new before now ts NoMemory = Unit {0}

-- the status is the one of such a stop
pub record HasStatus {D : Type 0} (old new : Option (List D)) (before now status : ℕ) (ts : List Transcript) : Type 0 where
  pub stop : Stop
  pub stopped : IsStop old new before now ts stop
  pub status_is : status ≡ status_of stop ts

-- ---- in threads

-- The status is 0 only where the front said that it has no more desks or a session was asked to end the run, 3 only where the front's count rose,
-- and 7 only where each number was given. Else it is 4, which stands for want of memory: that this was wanting isn't said here; or it is 8.
pub record HasServingStatus (over : Bool) (before now status count : ℕ) (asked : Bool) : Type 0 where
  pub ended : status ≡ 0 → (over ≡ true) ⊎ (asked ≡ true)
  pub lost : status ≡ 3 → Rose before now
  pub spent : status ≡ 7 → count ≡ most_numbers
  pub no_other : (status ≡ 0) ⊎ ((status ≡ 3) ⊎ ((status ≡ 4) ⊎ ((status ≡ 7) ⊎ (status ≡ 8))))

-- A front gave so many desks before a run and after it. There are as many sessions as desks that it gave meanwhile, but where it failed, when it may
-- have counted more.
pub record HasServed (before now status count : ℕ) : Type 0 where
  pub within : before + count ≤ now
  pub each : status ≢ 3 → before + count ≡ now
