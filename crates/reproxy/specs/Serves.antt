-- Runs of the proxy over the desks that the program makes.
use Rattle.std.specs.Prelude.{◌≡◌, ◌↔◌, ℕ, false, List, [], ◌∷◌, Option, None, Some, length}
use Rattle.std.specs.Option.{option_to_list}
use Rattle.rx_board.specs.declared.journal.Entry.{Entry}
use Rattle.rx_daemon.specs.declared.served.ServedDesk.{ServedDesk}
use Rattle.rx_daemon.specs.Agreeing.{Agrees}
use Rattle.rx_daemon.specs.CoreRuns.{IsCoreRun, rules_of}
use Rattle.rx_daemon.specs.Proxy.{HasServed, HasServingStatus, HasStatus, IsLegal}
use Rattle.rx_daemon.specs.Serves.{RunsDone}
use Rattle.rx_daemon.specs.Threads.{HaveRun, is_asked, transcripts_of}
use Rattle.rx_engine.specs.declared.transcripts.Transcript.{Transcript}
use Rattle.rx_engine.specs.Meanings.{Meanings}
use Rattle.rx_host.specs.Clients.{Accepts}
use Rattle.rx_world.specs.declared.outcomes.FileOut.{FileOut}

-- A desk of which this holds was there; what left the front was served, by steps of the core, its entries are the journal, and the status
-- has its cause.
pub record ServesDesk {D P W B : Type 0} (m : Meanings P W B) (parts : D → P) (Is : D → Type 0) (root : List ℕ) (limit faults : ℕ)
    (left : Option D) (status : ℕ) (journal : List Entry) (handed : List D) (transcripts : List Transcript) : Type 0 where
  pub desk : D
  pub is : Is desk
  pub sessions : RunsDone (Some (desk ∷ [])) (Some (option_to_list left)) m parts root limit
      journal faults handed transcripts
  pub core : (files : List FileOut) → IsCoreRun (rules_of m) files limit journal transcripts
  pub legal : IsLegal 1 journal transcripts
  pub status_is : HasStatus (Some (desk ∷ [])) (Some (option_to_list left)) 0 0 status transcripts

-- both directions are those of the client with this number
abbrev pub IsOfClient : ℕ → ℕ → ℕ → Type 0
IsOfClient number input output = (input ≡ number) × (output ≡ number)

-- Of the clients that connected each was served, by steps of the core: at its number stands its own session, between whose desks both directions are
-- that client's. There are as many sessions as clients that the listener took, but where the listener failed. The status has its cause, which for 0
-- is that a client asked for the end; it is 8 just where the journal isn't that of the sessions, which doesn't come.
pub record ServesClients {D P W B : Type 0} (m : Meanings P W B) (parts : D → P) (gives : ℕ → D → Type 0) (root : List ℕ) (limit faults most : ℕ)
    (before after : Accepts) (status : ℕ) (journal : List Entry) (served : List (ServedDesk D)) : Type 0 where
  pub sessions : HaveRun m parts root limit gives None None before.accepted most journal faults served
  pub core : (files : List FileOut) → IsCoreRun (rules_of m) files limit journal (transcripts_of served)
  pub served_are : HasServed before.accepted after.accepted status (length served)
  pub status_is : HasServingStatus false before.faults after.faults status (length served) (is_asked served)
  pub disagrees : status ≡ 8 ↔ (Agrees journal (transcripts_of served) → ⊥)
  pub agrees : Agrees journal (transcripts_of served)
