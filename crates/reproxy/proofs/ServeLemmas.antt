-- The desks of a run over the machine.
use Rattle.std.proofs.Common.{◌≡◌, ◌∙◌, ℕ, false, List, [], ◌∷◌, None, Option, Some, refl, sym, subst}
use Rattle.std.specs.Prelude.{◌↔◌, IfSome, MatchOption, String, length, option_map}
use Rattle.std.specs.Option.{option_to_list}
use Rattle.rx_board.specs.declared.journal.Entry.{Entry}
use Rattle.rx_daemon.specs.declared.served.ServedDesk.{ServedDesk}
use Rattle.rx_daemon.specs.Agreeing.{Agrees}
use Rattle.rx_daemon.specs.CoreRuns.{IsCoreRun, rules_of}
use Rattle.rx_daemon.specs.Proxy.{HasServed, HasServingStatus, HasStatus, IsLegal}
use Rattle.rx_daemon.specs.Serves.{RunsDone}
use Rattle.rx_daemon.specs.Threads.{HaveRun, is_asked, transcripts_of}
use Rattle.rx_daemon.specs.Words.{Options, options_in, root_in}
use Rattle.rx_engine.specs.declared.transcripts.Transcript.{Transcript}
use Rattle.rx_engine.specs.Meanings.{Meanings}
use Rattle.rx_host.specs.Clients.{Accepts}
use Rattle.rx_world.specs.declared.outcomes.FileOut.{FileOut}
use Rattle.reproxy.specs.Serves.{ServesClients, ServesDesk}

-- where a root was found its desk was made, and the run was over that desk
pub serves-desk : {D P W B : Type 0} (m : Meanings P W B) (parts : D → P) (Is : D → Type 0) (found : Option (List ℕ)) (limit faults : ℕ) (made : Option D) (desk : D)
    (left : Option D) (status : ℕ) (journal : List Entry) (handed : List D) (ts : List Transcript)
    → made ≡ Some desk → Is desk
    → IfSome found (λ root. RunsDone (Some (option_to_list made)) (Some (option_to_list left)) m parts root limit journal faults handed ts)
    → ((files : List FileOut) → IfSome found (λ root. IsCoreRun (rules_of m) files limit journal ts)) → IsLegal 1 journal ts
    → IfSome found (λ root. HasStatus (Some (option_to_list made)) (Some (option_to_list left)) 0 0 status ts)
    → IfSome found (λ root. ServesDesk m parts Is root limit faults left status journal handed ts)
serves-desk m parts Is None limit faults made desk left status journal handed ts made-is is runs core legal has = tt
serves-desk m parts Is (Some root) limit faults made desk left status journal handed ts made-is is runs core legal has = record {
  desk = desk;
  is = is;
  sessions = rw made-is at runs;
  core = core;
  legal = legal;
  status_is = rw made-is at has;
}

-- where the words are known a desk was made, and the run was over that desk
pub serves-made : {D P W B A : Type 0} (m : Meanings P W B) (parts : D → P) (Is : D → Type 0) (words : List (String A)) (options : Option Options) (limit faults : ℕ) (made left : Option D)
    (status : ℕ) (journal : List Entry) (handed : List D) (ts : List Transcript)
    → options ≡ options_in words → MatchOption made (options ≡ None) Is
    → IfSome (root_in words) (λ root. RunsDone (Some (option_to_list made)) (Some (option_to_list left)) m parts root limit journal faults handed ts)
    → ((files : List FileOut) → IfSome (root_in words) (λ root. IsCoreRun (rules_of m) files limit journal ts)) → IsLegal 1 journal ts
    → IfSome (root_in words) (λ root. HasStatus (Some (option_to_list made)) (Some (option_to_list left)) 0 0 status ts)
    → IfSome (root_in words) (λ root. ServesDesk m parts Is root limit faults left status journal handed ts)
serves-made m parts Is words options limit faults None left status journal handed ts known none runs core legal has =
    subst (λ (o : Option Options). IfSome (option_map (λ (x : Options). x.root) o) (λ root. ServesDesk m parts Is root limit faults left status journal handed ts))
    (sym none ∙ known) tt
serves-made m parts Is words options limit faults (Some desk) left status journal handed ts known is runs core legal has =
    serves-desk m parts Is (root_in words) limit faults (Some desk) desk left status journal handed ts refl is runs core legal has

-- where the words are known, the run was over the desks of clients
pub serves-clients : {D P W B : Type 0} (m : Meanings P W B) (parts : D → P) (gives : ℕ → D → Type 0) (found : Option (List ℕ)) (limit faults most : ℕ)
    (before after : Accepts) (status : ℕ) (journal : List Entry) (served : List (ServedDesk D))
    → IfSome found (λ root. HaveRun m parts root limit gives None None before.accepted most journal faults served)
    → ((files : List FileOut) → IfSome found (λ root. IsCoreRun (rules_of m) files limit journal (transcripts_of served)))
    → HasServed before.accepted after.accepted status (length served)
    → IfSome found (λ root. HasServingStatus false before.faults after.faults status (length served) (is_asked served))
    → (status ≡ 8 ↔ (Agrees journal (transcripts_of served) → ⊥)) → Agrees journal (transcripts_of served)
    → IfSome found (λ root. ServesClients m parts gives root limit faults most before after status journal served)
serves-clients m parts gives None limit faults most before after status journal served runs core are has disagrees agrees = tt
serves-clients m parts gives (Some root) limit faults most before after status journal served runs core are has disagrees agrees = record {
  sessions = runs;
  core = core;
  served_are = are;
  status_is = has;
  disagrees = disagrees;
  agrees = agrees;
}
