-- States in which an action was published or answered: steps lead to them too.
use Rattle.std.proofs.Common.{◌≡◌, ℕ, ◌+◌, ◌<◌, ◌≤◌, List, [], ◌∷◌, ◌++◌, None, Some, arith, length, ap, sym, subst, ◌∙◌}
use Rattle.rx_board.specs.declared.journal.Entry.{Entry}
use Rattle.rx_core.specs.Actions.{Action, won}
use Rattle.rx_core.specs.Answering.{HasReplyCause}
use Rattle.rx_core.specs.Attempts.{Finished}
use Rattle.rx_core.specs.Publications.{MayPublish, entry_of, publish, published, with_entry}
use Rattle.rx_core.specs.Remote.{Rules}
use Rattle.rx_core.specs.Replies.{Reply}
use Rattle.rx_core.specs.Runs.{IsRun, after_steps}
use Rattle.rx_core.specs.States.{State, with_change}
use Rattle.rx_core.specs.Steps.{Answer, MayStep, Publish, Step, after_step, answer}
use Rattle.rx_core.proofs.Changes.{changed-here, changed-other}
use Rattle.rx_core.proofs.Reaching.{Reaches, after-more, run-more}
use Rattle.rx_world.specs.Causes.{Rose}
use Rattle.rx_world.specs.Outcomes.{listing}

-- Steps lead to a state in which an action stands, with this journal. The place's count is at most this.
pub record Follows {H : Type 0} (rules : Rules H) (base : State H) (n : ℕ) (a : Action H) (journal : List Entry) (faults : ℕ)
    : Type 0 where
  pub state : State H
  pub steps : List (Step H)
  pub run : IsRun rules base steps
  pub leads : state ≡ after_steps rules base steps
  pub there : state.actions n ≡ Some a
  pub others : (m : ℕ) → (m ≡ n → ⊥) → state.actions m ≡ base.actions m
  pub journal_is : state.journal ≡ journal
  pub limit : state.limit ≡ base.limit
  pub within : state.faults ≤ faults

rose-sooner : (a b now : ℕ) → a ≤ b → Rose b now → Rose a now
rose-sooner a b now le rose = grind (arith, le, rose)

module _ {H : Type 0} (rules : Rules H) (base : State H) (n : ℕ) where
  pub of-reached : (a : Action H) (faults : ℕ) → base.faults ≤ faults → Reaches rules base n a
      → Follows rules base n a base.journal faults
  of-reached a faults within r = record {
    state = r.state;
    steps = r.steps;
    run = r.run;
    leads = r.leads;
    there = r.stands.there;
    others = r.stands.others;
    journal_is = r.stands.journal;
    limit = r.stands.limit;
    within = omega (arith, within, r.stands.faults);
  }

  module _ (a : Action H) (journal : List Entry) (before : ℕ) (f : Follows rules base n a journal before) where
    -- the entry of an outcome that won
    abbrev entry_for : Finished → ℕ → Entry
    entry_for finished placed = record {
      number = length journal + 1;
      session = a.session;
      files = listing finished.outcome.files;
      placed = placed;
    }

    module _ (finished : Finished) (won_is : won a ≡ Some finished) (no_entry : a.entry ≡ None) (no_reply : a.reply ≡ None) (placed now : ℕ)
        (room : length journal < base.limit) (within : placed ≤ length finished.outcome.files) (later : before ≤ now)
        (fewer : placed < length finished.outcome.files → Rose before now) where
      may : MayPublish f.state placed now a
      may = record {
        finished = finished;
        won_is = won_is;
        no_entry = no_entry;
        no_reply = no_reply;
        room = rw (f.journal_is, f.limit) room;
        within = within;
        later = omega (arith, f.within, later);
        fewer = λ less. rose-sooner f.state.faults before now f.within (fewer less);
      }

      after : State H
      after = published n placed now f.state a (Some finished)

      after-is : after_step rules f.state (Publish n placed now) ≡ after
      unfolding after
      after-is =
          ap (publish n placed now f.state) f.there ∙ ap (published n placed now f.state a) won_is

      same-entry : entry_of f.state a placed finished.outcome ≡ entry_for finished placed
      same-entry = ap (λ js. record {
        number = length js + 1;
        session = a.session;
        files = listing finished.outcome.files;
        placed = placed;
      }) f.journal_is

      pub publishes : Follows rules base n (with_entry (entry_for finished placed) a) (journal ++ entry_for finished placed ∷ []) now
      unfolding after
      publishes = record {
        state = after;
        steps = f.steps ++ Publish n placed now ∷ [];
        run = run-more rules base f.steps (Publish n placed now) f.run
            (subst (λ state. MayStep rules state (Publish n placed now)) f.leads (record { action = a; there = f.there; holds = may }));
        leads = sym after-is ∙ ap (λ state. after_step rules state (Publish n placed now)) f.leads
            ∙ sym (after-more rules base f.steps (Publish n placed now));
        there = changed-here f.state n a (with_entry (entry_of f.state a placed finished.outcome)) f.there
            ∙ ap (λ entry. Some (with_entry entry a)) same-entry;
        others = λ m not. changed-other f.state n a (with_entry (entry_of f.state a placed finished.outcome)) f.there m not ∙ f.others m not;
        journal_is = ap (λ js. js ++ entry_of f.state a placed finished.outcome ∷ []) f.journal_is
            ∙ ap (λ entry. journal ++ entry ∷ []) same-entry;
        limit = f.limit;
        within = omega arith;
      }

    pub answers : (reply : Reply) → a.reply ≡ None
        → ((state : State H) → state.journal ≡ journal → state.limit ≡ base.limit → HasReplyCause state a reply)
        → Follows rules base n (answer reply a) journal before
    answers reply none cause = record {
      state = with_change n (answer reply) f.state;
      steps = f.steps ++ Answer n reply ∷ [];
      run = run-more rules base f.steps (Answer n reply) f.run
          (subst (λ state. MayStep rules state (Answer n reply)) f.leads (record {
            action = a;
            there = f.there;
            holds = record { unanswered = none; cause = cause f.state f.journal_is f.limit };
          }));
      leads = ap (λ state. after_step rules state (Answer n reply)) f.leads ∙ sym (after-more rules base f.steps (Answer n reply));
      there = changed-here f.state n a (answer reply) f.there;
      others = λ m not. changed-other f.state n a (answer reply) f.there m not ∙ f.others m not;
      journal_is = f.journal_is;
      limit = f.limit;
      within = f.within;
    }
