-- What the state of an attempt becomes with one answer more.
use Rattle.std.proofs.Common.{◌≡◌, ◌∙◌, List, ap}
use Rattle.rx_remote.specs.declared.asks.Ask.{Ask}
use Rattle.rx_remote.specs.declared.asks.Heard.{Heard}
use Rattle.rx_remote.specs.declared.states.RemoteState.{RemoteState}
use Rattle.rx_remote.specs.declared.tasks.Task.{Task}
use Rattle.rx_remote.specs.History.{next_of}
use Rattle.rx_remote.specs.States.{IsStateOf, IsStep, Leads, heard_then}
use Rattle.rx_remote.specs.Marks.{Turn, marks_since, phase_of}

-- what an ask leads to by what the state shows is what it leads to by the history
pub leads-step : (task : Task) (history : List Turn) (heard : Heard) (state next : RemoteState) (ask : Ask) → IsStateOf task history state →
    Leads state.task (marks_since state.marks state.phase) state.phase heard next.marks ask →
    next.task ≡ state.task → next.phase ≡ phase_of ask → IsStep task history heard next ask
leads-step task history heard state next ask s l same phase =
    let ask_is : ask ≡ next_of task (heard_then task history heard) = rw (s.task_is, s.marks_are, s.phase_is) at l.ask_is in
    record {
      ask_is = ask_is;
      state_is = λ on. record {
        task_is = same ∙ s.task_is;
        marks_are = rw (s.task_is, s.marks_are, s.phase_is) at (l.marks_are on);
        phase_is = phase ∙ ap phase_of ask_is;
      };
    }
