-- The publication and the reply of a session whose attempts were made come by steps of its action.
use Rattle.std.proofs.Common.{◌≡◌, ◌∙◌, ℕ, ◌+◌, ◌<◌, ◌≤◌, false, List, [], ◌∷◌, ◌++◌, Option, None, Some, ap, arith, length, refl, subst, sym}
use Rattle.std.proofs.Math.Arith.{lt_of_le-ne}
use Rattle.std.proofs.lemmas.List.{length-map}
use Rattle.std.specs.Prelude.{IsSome, MatchOption}
use Rattle.rx_board.specs.declared.journal.Entry.{Entry}
use Rattle.rx_core.specs.Actions.{Action, won as core_won}
use Rattle.rx_core.specs.Answering.{HasReplyCause}
use Rattle.rx_core.specs.Publications.{with_entry}
use Rattle.rx_core.specs.Replies.{Reply as CoreReply}
use Rattle.rx_core.specs.States.{State}
use Rattle.rx_core.specs.Steps.{answer}
use Rattle.rx_core.proofs.Following.{Follows, answers, of-reached, publishes}
use Rattle.rx_engine.specs.declared.attempts.Won.{Won}
use Rattle.rx_engine.specs.declared.transcripts.Tally.{Tally}
use Rattle.rx_engine.specs.declared.transcripts.Transcript.{Transcript}
use Rattle.rx_engine.specs.Answers.{Grounds, HasRun, done_reply}
use Rattle.rx_engine.specs.Attempts.{AreTellable, winner}
use Rattle.rx_engine.specs.Journal.{IsEntry, IsJournalled, IsPlaced, files_of}
use Rattle.rx_engine.specs.Meanings.{Meanings}
use Rattle.rx_engine.specs.Racing.{is_cancelled}
use Rattle.rx_engine.specs.Session.{tally_in}
use Rattle.rx_engine.proofs.MadeLemmas.{won-files}
use Rattle.rx_race.specs.declared.events.Verdict.TheVariants.{Won as won_race}
use Rattle.rx_race.specs.declared.slips.Slip.TheVariants.{Told}
use Rattle.rx_remote.specs.Marks.{Turn}
use Rattle.rx_session.specs.declared.replies.Reply.TheVariants as reply
use Rattle.rx_session.specs.declared.requests.Request.{Request}
use Rattle.rx_world.specs.Causes.{Rose}
use Rattle.rx_world.specs.Outcomes.{listing}
use Rattle.rx_daemon.specs.CoreRuns.{IsActionOf, in_core, rules_of}
use Rattle.rx_daemon.proofs.CoreActions.{action_of, cancelled-by, decided-for, has-failed, is-action, reached, victor-is}
use Rattle.rx_daemon.proofs.CoreVictors.{as_finished}

module _ {P W B : Type 0} (m : Meanings P W B) (g : Grounds P) (asked : Request) (tally : Tally) (run : HasRun m g asked tally)
    (t : Transcript) (request_is : t.request ≡ Some asked) (same_tally : tally_in t ≡ tally) (base : State Turn) (old new : List Entry)
    (before now limit : ℕ) (free : base.actions t.number ≡ None) (journal_is : base.journal ≡ old)
    (limit_is : base.limit ≡ limit) (within : base.faults ≤ before) (later : before ≤ now)
    (room : length old ≤ limit) (j : IsJournalled limit old new before now t) where
  abbrev action : Action Turn
  action = action_of m g asked tally run t.number

  -- the race is over
  over : Follows (rules_of m) base t.number action old before
  over = subst (λ js. Follows (rules_of m) base t.number action js before) journal_is
      (of-reached (rules_of m) base t.number action before within
      (reached m g asked tally run base t.number free))

  -- steps lead to the journal of this session, and to its action
  abbrev pub Led : Type 0
  Led = (a : Action Turn) × Follows (rules_of m) base t.number a new now × IsActionOf t a

  same-journal : t.receipt ≡ None → new ≡ old
  same-journal none = subst (λ r. MatchOption r (new ≡ old) (λ number. IsEntry old new before now t.number number (files_of t.ends) t.reply)) none j.entry

  unmatched : t.receipt ≡ None → (entry : Option Entry) → entry ≡ None
      → MatchOption t.receipt (entry ≡ None) (λ receipt. (e : Entry) × (entry ≡ Some e) × (e.number ≡ receipt.number))
  unmatched none entry e = subst (λ r. MatchOption r (entry ≡ None) (λ receipt. (x : Entry) × (entry ≡ Some x) × (x.number ≡ receipt.number))) (sym none) e

  -- to a state with the same journal
  moved : (a : Action Turn) → t.receipt ≡ None → Follows (rules_of m) base t.number a old before → Follows (rules_of m) base t.number a new now
  moved a none f = record {
    state = f.state;
    steps = f.steps;
    run = f.run;
    leads = f.leads;
    there = f.there;
    others = f.others;
    journal_is = f.journal_is ∙ sym (same-journal none);
    limit = f.limit;
    within = omega (arith, f.within, later);
  }

  -- nothing was published or replied
  pub silent : t.receipt ≡ None → in_core t.reply ≡ None → Led
  silent none quiet = (action, moved action none over, is-action m g asked tally run t request_is same_tally None None (unmatched none None refl) (sym quiet))

  -- nothing was published, and this was replied
  pub plain : (replied : CoreReply) → t.receipt ≡ None → in_core t.reply ≡ Some replied
      → ((state : State Turn) → state.journal ≡ old → state.limit ≡ base.limit → HasReplyCause state action replied) → Led
  plain replied none told cause = (
    answer replied action,
    moved (answer replied action) none (answers (rules_of m) base t.number action old before over replied refl cause),
    is-action m g asked tally run t request_is same_tally None (Some replied) (unmatched none None refl) (sym told),
  )

  -- the race was cancelled
  pub cancelled : t.receipt ≡ None → in_core t.reply ≡ Some CoreReply.Cancelled → run.attempts.passes.cancel ≡ Told won_race → Led
  cancelled none told gone = plain CoreReply.Cancelled none told (λ state js lim. cancelled-by m g asked tally run gone)

  -- no attempt has what may be published
  pub failed : t.receipt ≡ None → in_core t.reply ≡ Some CoreReply.AllFailed → winner run.gathered.plan run.attempts ≡ None
      → is_cancelled run.attempts.passes.cancel ≡ false → AreTellable t.ends → Led
  failed none told lost unasked tellable =
      plain CoreReply.AllFailed none told (λ state js lim. has-failed m g asked tally run t request_is same_tally lost unasked tellable)

  module _ (won : Won) (won_is : winner run.gathered.plan run.attempts ≡ Some won) where
    victor_is : core_won action ≡ Some (as_finished won)
    victor_is = victor-is m g asked tally run won won_is t.number

    -- the journal is full
    pub full : t.receipt ≡ None → t.reply ≡ Some reply.JournalFull → Led
    full none told =
        let by = decided-for m g asked tally run won won_is t.number in
        plain CoreReply.JournalFull none (ap in_core told) (λ state js lim. record {
          attempt = by.0;
          decision_is = by.1;
          no_entry = refl;
          full = rw (js, lim, limit_is) (j.full told);
        })

    module _ (number : ℕ) (receipt : t.receipt ≡ Some (record { number = number })) where
      entered : IsEntry old new before now t.number (record { number = number }) (files_of t.ends) t.reply
      entered = subst (λ r. MatchOption r (new ≡ old) (λ one. IsEntry old new before now t.number one (files_of t.ends) t.reply)) receipt j.entry

      files-are : files_of t.ends ≡ listing won.outcome.files
      files-are =
          ap (λ (x : Tally). files_of x.ends) same_tally
          ∙ won-files m run.gathered asked.accept_cached g.before g.after run.attempts run.made won tally won_is run.tally_is

      count-is : length (files_of t.ends) ≡ length won.outcome.files
      count-is = ap length files-are ∙ rw length-map refl

      has-room : length old < base.limit
      has-room =
          let less = lt_of_le-ne room (j.room (subst IsSome (sym receipt) refl)) in
          rw limit_is less

      abbrev entry : ℕ → Entry
      entry placed = record { number = length old + 1; session = t.number; files = listing won.outcome.files; placed = placed }

      now-is : new ≡ old ++ entry entered.placed ∷ []
      now-is = entered.journal
          ∙ ap (λ k. old ++ record { number = k; session = t.number; files = files_of t.ends; placed = entered.placed } ∷ []) entered.number_is
          ∙ ap (λ files. old ++ record { number = length old + 1; session = t.number; files = files; placed = entered.placed } ∷ []) files-are

      matched : MatchOption t.receipt (Some (entry entered.placed) ≡ None)
          (λ one. (e : Entry) × (Some (entry entered.placed) ≡ Some e) × (e.number ≡ one.number))
      matched =
          subst (λ r. MatchOption r (Some (entry entered.placed) ≡ None)
          (λ one. (e : Entry) × (Some (entry entered.placed) ≡ Some e) × (e.number ≡ one.number)))
          (sym receipt) (entry entered.placed, refl, sym entered.number_is)

      -- the outcome was published, and this was replied
      published : (replied : CoreReply) → in_core t.reply ≡ Some replied → entered.placed ≤ length won.outcome.files
          → (entered.placed < length won.outcome.files → Rose before now)
          → ((state : State Turn) → HasReplyCause state (with_entry (entry entered.placed) action) replied) → Led
      published replied told within_files fewer cause = (
        answer replied (with_entry (entry entered.placed) action),
        subst (λ js. Follows (rules_of m) base t.number (answer replied (with_entry (entry entered.placed) action)) js now) (sym now-is)
            (answers (rules_of m) base t.number (with_entry (entry entered.placed) action) (old ++ entry entered.placed ∷ []) now
            (publishes (rules_of m) base t.number action old before over (as_finished won) victor_is refl refl entered.placed now has-room
            within_files later fewer)
            replied refl (λ state js lim. cause state)),
        is-action m g asked tally run t request_is same_tally (Some (entry entered.placed)) (Some replied) matched (sym told),
      )

      -- whole
      pub whole : t.reply ≡ Some (done_reply won number) → Led
      whole told =
          let placed : IsPlaced before now (length (files_of t.ends)) entered.placed (Some (done_reply won number)) =
          subst (λ o. IsPlaced before now (length (files_of t.ends)) entered.placed o) told entered.placed_is in
          let all : entered.placed ≡ length won.outcome.files = placed.1 ∙ count-is in
          published (CoreReply.Done won.outcome.exit won.origin) (ap in_core told) (omega (arith, all)) (λ less. absurd (omega (arith, all, less)))
          (λ state. record {
            finished = as_finished won;
            won_is = victor_is;
            exit_is = refl;
            origin_is = refl;
            entry = entry entered.placed;
            entry_is = refl;
            whole = rw length-map all;
          })

      -- short
      pub short : (placed : ℕ) → t.reply ≡ Some (reply.PlaceFault number placed) → Led
      short placed told =
          let fault : IsPlaced before now (length (files_of t.ends)) entered.placed (Some (reply.PlaceFault number placed)) =
          subst (λ o. IsPlaced before now (length (files_of t.ends)) entered.placed o) told entered.placed_is in
          published (CoreReply.PlaceFault placed) (ap in_core told) (omega (arith, fault.1, count-is)) (λ less. fault.2)
          (λ state. record {
            entry = entry entered.placed;
            entry_is = refl;
            placed_is = fault.0;
            fewer = rw length-map (omega (arith, fault.1, count-is));
          })
