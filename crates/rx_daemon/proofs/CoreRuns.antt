-- A run of sessions, as if they had come one after the other, is a run of the core.
use Rattle.std.proofs.Common.{◌≡◌, ◌∙◌, ℕ, ◌+◌, ◌<◌, ◌≤◌, List, [], ◌∷◌, ◌++◌, Option, None, Some, ap, arith, length, length-append, refl, subst, sym}
use Rattle.std.proofs.Common.{inl, inr}
use Rattle.std.proofs.Math.Arith.{lt_of_le-ne}
use Rattle.std.specs.Prelude.{◌⊎◌, IsSome, MatchOption}
use Rattle.std.specs.List.{AllByRecursion}
use Rattle.rx_board.specs.declared.journal.Entry.{Entry}
use Rattle.rx_board.specs.declared.journal.Receipt.{Receipt}
use Rattle.rx_core.specs.Actions.{Action}
use Rattle.rx_core.specs.Replies.{Reply as CoreReply}
use Rattle.rx_core.specs.Runs.{IsRun, after_steps, opening}
use Rattle.rx_core.specs.States.{State}
use Rattle.rx_core.specs.Steps.{Step}
use Rattle.rx_core.proofs.Following.{Follows}
use Rattle.rx_core.proofs.Reaching.{after-append, run-append}
use Rattle.rx_engine.specs.declared.transcripts.Ending.{Ending}
use Rattle.rx_engine.specs.declared.transcripts.Ending.TheVariants.{NoMemory, Replied, ShutDown, SinkLost, SourceLost}
use Rattle.rx_engine.specs.declared.transcripts.Tally.{Tally}
use Rattle.rx_engine.specs.declared.transcripts.Transcript.{Transcript}
use Rattle.rx_engine.specs.Answers.{Answers, Grounds}
use Rattle.rx_engine.specs.Attempts.{no_tally}
use Rattle.rx_engine.specs.Journal.{IsEntry, IsJournalled, files_of}
use Rattle.rx_engine.specs.Meanings.{Meanings}
use Rattle.rx_engine.specs.Session.{IsCourse, Replies, RepliesTo, WasHandled, tally_in}
use Rattle.rx_engine.proofs.HonestRuns.{grounds_of}
use Rattle.rx_remote.specs.Marks.{Turn}
use Rattle.rx_session.specs.declared.in_place.InPlaceCause.TheVariants as in_place
use Rattle.rx_session.specs.declared.replies.Reply.{Reply}
use Rattle.rx_session.specs.declared.replies.Reply.TheVariants as reply
use Rattle.rx_session.specs.declared.requests.Request.{Request}
use Rattle.rx_world.specs.declared.outcomes.FileOut.{FileOut}
use Rattle.rx_world.specs.declared.outcomes.Listed.{Listed}
use Rattle.rx_daemon.specs.CoreRuns.{AreInState, IsActionOf, IsCoreRun, IsInState, in_core, rules_of}
use Rattle.rx_daemon.specs.Kept.{Linked}
use Rattle.rx_daemon.specs.Proxy.{Runs, Served}
use Rattle.rx_daemon.specs.Serves.{Serves}
use Rattle.rx_daemon.proofs.LinkLemmas.{linked}
use Rattle.rx_daemon.proofs.CoreSessions.{cancelled, failed, full, plain, short, silent, whole}

-- ---- one session

-- Steps lead from a state to one with this journal, in which the session is an action or is none.
record Next {P W B : Type 0} (m : Meanings P W B) (base : State Turn) (t : Transcript) (new : List Entry) (now : ℕ) : Type 0 where
  state : State Turn
  steps : List (Step Turn)
  run : IsRun (rules_of m) base steps
  leads : state ≡ after_steps (rules_of m) base steps
  others : (k : ℕ) → (k ≡ t.number → ⊥) → state.actions k ≡ base.actions k
  journal_is : state.journal ≡ new
  limit : state.limit ≡ base.limit
  within : state.faults ≤ now
  is_in : IsInState state t

module _ {P W B : Type 0} (m : Meanings P W B) (root : List ℕ) (g : Grounds P) (t : Transcript) (base : State Turn) (old new : List Entry)
    (before now limit : ℕ) (free : base.actions t.number ≡ None) (journal_is : base.journal ≡ old) (limit_is : base.limit ≡ limit)
    (within : base.faults ≤ before) (later : before ≤ now) (room : length old ≤ limit) (j : IsJournalled limit old new before now t) where
  abbrev Here : Type 0
  Here = Next m base t new now

  same-journal : t.receipt ≡ None → new ≡ old
  same-journal none = subst (λ r. MatchOption r (new ≡ old) (λ number. IsEntry old new before now t.number number (files_of t.ends) t.reply)) none j.entry

  -- no attempt was made
  unrun : t.receipt ≡ None → tally_in t ≡ no_tally → Here
  unrun none tally = record {
    state = base;
    steps = [];
    run = tt;
    leads = refl;
    others = λ k not. refl;
    journal_is = journal_is ∙ sym (same-journal none);
    limit = refl;
    within = omega (arith, within, later);
    is_in = inl (record { none = free; tally_is = tally; receipt_is = none });
  }

  led : (a : Action Turn) → Follows (rules_of m) base t.number a new now → IsActionOf t a → Here
  led a f is = record {
    state = f.state;
    steps = f.steps;
    run = f.run;
    leads = f.leads;
    others = f.others;
    journal_is = f.journal_is;
    limit = f.limit;
    within = f.within;
    is_in = inr (record { action = a; there = f.there; holds = is });
  }

  -- memory ran out, and this was replied or nothing was
  handled : (request : Option Request) (replied : Option CoreReply) → t.request ≡ request → t.receipt ≡ None
      → (replied ≡ None) ⊎ (replied ≡ Some CoreReply.NoMemory) → in_core t.reply ≡ replied → WasHandled m g request (tally_in t) → Here
  handled None replied is none which told h = unrun none h.tally_is
  handled (Some asked) replied is none which told (inl h) = unrun none h.tally_is
  handled (Some asked) replied is none (inl quiet) told (inr run) =
      let way = silent m g asked (tally_in t) run t is refl base old new before now limit free journal_is limit_is within later room j none (told ∙ quiet) in
      led way.0 way.1 way.2
  handled (Some asked) replied is none (inr said) told (inr run) =
      let way = plain m g asked (tally_in t) run t is refl base old new before now limit free journal_is limit_is within later room j CoreReply.NoMemory none
      (told ∙ said) (λ state js lim. refl) in
      led way.0 way.1 way.2

  -- an answer to a request
  answered : (asked : Request) (answer : Reply) → t.request ≡ Some asked → t.reply ≡ Some answer → Answers m g asked t.receipt (tally_in t) answer → Here
  answered asked (reply.Done exit stdout stderr from number placed) is told a =
      let way = whole m g asked (tally_in t) a.1.run t is refl base old new before now limit free journal_is limit_is within later room j a.0 a.1.won_is number a.3
      (told ∙ ap Some a.2) in
      led way.0 way.1 way.2
  answered asked (reply.PlaceFault number placed) is told a =
      let way = short m g asked (tally_in t) a.1.run t is refl base old new before now limit free journal_is limit_is within later room j a.0 a.1.won_is number a.3
      placed told in
      led way.0 way.1 way.2
  answered asked reply.JournalFull is told a =
      let way = full m g asked (tally_in t) a.1.run t is refl base old new before now limit free journal_is limit_is within later room j a.0 a.1.won_is a.2 told in
      led way.0 way.1 way.2
  answered asked (reply.AllFailed failures) is told a =
      let passes = ap (λ (x : Tally). x.passes) a.0.run.tally_is in
      let way = failed m g asked (tally_in t) a.0.run t is refl base old new before now limit free journal_is limit_is within later room j a.2 (ap in_core told)
      a.0.none_won (rw passes at a.0.uncancelled) a.0.tellable in
      led way.0 way.1 way.2
  answered asked (reply.Cancelled reason) is told a =
      let passes = ap (λ (x : Tally). x.passes) a.0.run.tally_is in
      let way = cancelled m g asked (tally_in t) a.0.run t is refl base old new before now limit free journal_is limit_is within later room j a.1 (ap in_core told)
      (rw passes at a.0.cancelled) in
      led way.0 way.1 way.2
  answered asked reply.NoMemory is told a = handled (Some asked) (Some CoreReply.NoMemory) is a.1 (inr refl) (ap in_core told) a.0
  answered asked (reply.NotRemotable why) is told a = unrun a.1.receipt_is a.1.unrun.tally_is
  answered asked (reply.InputMissing path) is told a = unrun a.receipt_is a.unrun.tally_is
  answered asked (reply.InputChanged input) is told a = unrun a.receipt_is a.unrun.tally_is
  answered asked (reply.SourceFault path) is told a = unrun a.receipt_is a.unrun.tally_is
  answered asked (reply.TooLarge limit n path) is told a = unrun a.1.receipt_is a.1.unrun.tally_is
  answered asked (reply.Blocked path) is told a = unrun a.receipt_is a.unrun.tally_is
  answered asked (reply.InPlace (in_place.Kept why)) is told a = unrun a.1.receipt_is a.1.unrun.tally_is
  answered asked (reply.InPlace (in_place.TooLarge limit)) is told a = unrun a.3.receipt_is a.3.unrun.tally_is
  answered asked (reply.BadRequest bad) is told a = absurd a

  to : (answer : Reply) → t.reply ≡ Some answer → RepliesTo m root g t.read t.request t.receipt (tally_in t) answer → Here
  to answer told h = answered h.0 answer h.1.request_is told h.2

  replied : (answer : Reply) → t.reply ≡ Some answer → Replies m root g t.read t.request t.receipt (tally_in t) answer → Here
  replied (reply.BadRequest bad) told h = unrun h.3 h.2.unrun.tally_is
  replied reply.NoMemory told h = handled t.request (Some CoreReply.NoMemory) refl h.2 (inr refl) (ap in_core told) h.1
  replied (reply.Done exit stdout stderr from number placed) told h = to (reply.Done exit stdout stderr from number placed) told h
  replied (reply.PlaceFault number placed) told h = to (reply.PlaceFault number placed) told h
  replied (reply.NotRemotable why) told h = to (reply.NotRemotable why) told h
  replied (reply.InputMissing path) told h = to (reply.InputMissing path) told h
  replied (reply.InputChanged input) told h = to (reply.InputChanged input) told h
  replied (reply.SourceFault path) told h = to (reply.SourceFault path) told h
  replied (reply.TooLarge limit n path) told h = to (reply.TooLarge limit n path) told h
  replied (reply.AllFailed failures) told h = to (reply.AllFailed failures) told h
  replied (reply.Cancelled reason) told h = to (reply.Cancelled reason) told h.0
  replied reply.JournalFull told h = to reply.JournalFull told h
  replied (reply.Blocked path) told h = to (reply.Blocked path) told h
  replied (reply.InPlace cause) told h = to (reply.InPlace cause) told h

  -- however it ended
  ended : (ending : Ending) → IsCourse m root g t ending → Here
  ended Replied h = replied h.0 h.1 h.3
  ended ShutDown h = unrun h.0.receipt_is h.0.untouched.unrun.tally_is
  ended SinkLost (inl h) = replied h.0 h.1 h.4
  ended SinkLost (inr h) = unrun h.2.receipt_is h.2.untouched.unrun.tally_is
  ended SourceLost h = unrun h.3 h.4.unrun.tally_is
  ended NoMemory h = handled t.request None refl h.2 (inl refl) (ap in_core h.0) h.4

-- ---- all of them

-- the journal stays within its limit
within-at : (limit : ℕ) (old new : List Entry) (before now session : ℕ) (receipt : Option Receipt) (files : List Listed) (answer : Option Reply)
    → MatchOption receipt (new ≡ old) (λ number. IsEntry old new before now session number files answer)
    → (IsSome receipt → length old ≡ limit → ⊥) → length old ≤ limit → length new ≤ limit
within-at limit old new before now session None files answer h not room = omega (arith, room, ap length h)
within-at limit old new before now session (Some receipt) files answer h not room =
    let less = lt_of_le-ne room (not refl) in
    omega (arith, less, ap length h.journal, length-append old (record { number = receipt.number; session = session; files = files; placed = h.placed } ∷ []))

-- a session that is in a state is in each with the same action
still-in : (before now : State Turn) (t : Transcript) → now.actions t.number ≡ before.actions t.number → IsInState before t → IsInState now t
still-in before now t same (inl none) = inl (record { none = same ∙ none.none; tally_is = none.tally_is; receipt_is = none.receipt_is })
still-in before now t same (inr has) = inr (record { action = has.action; there = same ∙ has.there; holds = has.holds })

-- no two of these sessions have one number
abbrev pub AreApart : List Transcript → Type 0
AreApart [] = Unit {0}
AreApart (t ∷ ts) = AllByRecursion (λ (x : Transcript). x.number ≡ t.number → ⊥) ts × AreApart ts

-- there are no such actions before, and none of this number was added, so there are none after
still-free : (base now : State Turn) (number : ℕ) (ts : List Transcript) → ((k : ℕ) → (k ≡ number → ⊥) → now.actions k ≡ base.actions k)
    → AllByRecursion (λ (x : Transcript). base.actions x.number ≡ None) ts → AllByRecursion (λ (x : Transcript). x.number ≡ number → ⊥) ts
    → AllByRecursion (λ (x : Transcript). now.actions x.number ≡ None) ts
still-free base now number [] others free apart = tt
still-free base now number (t ∷ ts) others free apart =
    (others t.number apart.0 ∙ free.0, still-free base now number ts others free.1 apart.1)

-- Steps lead to a state with this journal, in which each of these sessions is; other actions stay.
record Reached {P W B : Type 0} (m : Meanings P W B) (base : State Turn) (new : List Entry) (ts : List Transcript) : Type 0 where
  state : State Turn
  steps : List (Step Turn)
  run : IsRun (rules_of m) base steps
  leads : state ≡ after_steps (rules_of m) base steps
  kept : (k : ℕ) → AllByRecursion (λ (x : Transcript). x.number ≡ k → ⊥) ts → state.actions k ≡ base.actions k
  journal_is : state.journal ≡ new
  limit : state.limit ≡ base.limit
  each : AreInState state ts

module _ {P W B : Type 0} (m : Meanings P W B) (root : List ℕ) (limit : ℕ) where
  reach : (base : State Turn) (old new : List Entry) (before now : ℕ) (ts : List Transcript)
      → AllByRecursion (λ (x : Transcript). base.actions x.number ≡ None) ts → AreApart ts
      → base.journal ≡ old → base.limit ≡ limit → base.faults ≤ before → length old ≤ limit
      → Linked m root limit old new before now ts → Reached m base new ts
  reach base old new before now [] free apart journal_is limit_is within room h = record {
    state = base;
    steps = [];
    run = tt;
    leads = refl;
    kept = λ k other. refl;
    journal_is = journal_is ∙ sym h.0;
    limit = refl;
    each = tt;
  }
  reach base old new before now (t ∷ ts) free apart journal_is limit_is within room h =
      let own = h.2.own in
      let j = h.2.journal in
      let next = ended m root (grounds_of m root h.2.parts_old h.2.parts_new t own) t base old h.0 before h.1 limit
      free.0 journal_is limit_is within h.2.later room j t.ending own.course in
      let rest = reach next.state h.0 new h.1 now ts (still-free base next.state t.number ts next.others free.1 apart.0) apart.1
      next.journal_is (next.limit ∙ limit_is) next.within
      (within-at limit old h.0 before h.1 t.number t.receipt (files_of t.ends) t.reply j.entry j.room room) h.3 in
      record {
        state = rest.state;
        steps = next.steps ++ rest.steps;
        run = run-append (rules_of m) base next.steps rest.steps next.run (subst (λ s. IsRun (rules_of m) s rest.steps) next.leads rest.run);
        leads = rest.leads ∙ ap (λ s. after_steps (rules_of m) s rest.steps) next.leads ∙ sym (after-append (rules_of m) base next.steps rest.steps);
        kept = λ k other. rest.kept k other.1 ∙ next.others k (λ same. other.0 (sym same));
        journal_is = rest.journal_is;
        limit = rest.limit ∙ next.limit;
        each = (still-in next.state rest.state t (rest.kept t.number apart.0) next.is_in, rest.each);
      }

  none-yet : (files : List FileOut) (ts : List Transcript) → AllByRecursion (λ (x : Transcript). (opening {H = Turn} files limit 0).actions x.number ≡ None) ts
  none-yet files [] = tt
  none-yet files (t ∷ ts) = (refl, none-yet files ts)

  -- whatever the place held
  pub core-run : (journal : List Entry) (faults : ℕ) (ts : List Transcript) (files : List FileOut) → AreApart ts
      → Linked m root limit [] journal 0 faults ts → IsCoreRun (rules_of m) files limit journal ts
  core-run journal faults ts files apart h =
      let reached = reach (opening {H = Turn} files limit 0) [] journal 0 faults ts (none-yet files ts) apart refl refl (omega arith) (omega arith) h in
      record {
        state = reached.state;
        reached = record { limit = limit; faults = 0; steps = reached.steps; run = reached.run; leads = reached.leads };
        limit_is = reached.limit;
        journal_is = reached.journal_is;
        each = reached.each;
      }

-- ---- numbers of sessions in turn

module _ {D P W B : Type 0} (m : Meanings P W B) (parts : D → P) (root : List ℕ) (limit : ℕ) where
  abbrev Turns : ℕ → List Entry → List Entry → ℕ → ℕ → List D → List D → List Transcript → Type 0
  Turns = Served (Serves m parts root limit)

  above : (k n : ℕ) (old new : List Entry) (before now : ℕ) (ds es : List D) (ts : List Transcript) → k < n → Turns n old new before now ds es ts
      → AllByRecursion (λ (x : Transcript). x.number ≡ k → ⊥) ts
  above k n old new before now [] [] [] less h = tt
  above k n old new before now (d ∷ ds) (e ∷ es) (t ∷ ts) less h =
      (λ same. absurd (omega (arith, same, less, h.2.number_is)), above k (n + 1) h.0 new h.1 now ds es ts (omega (arith, less)) h.3)
  above k n old new before now [] (y ∷ es) ts less h = absurd h
  above k n old new before now [] [] (z ∷ ts) less h = absurd h
  above k n old new before now (x ∷ ds) [] ts less h = absurd h
  above k n old new before now (x ∷ ds) (y ∷ es) [] less h = absurd h

  apart-in-turn : (n : ℕ) (old new : List Entry) (before now : ℕ) (ds es : List D) (ts : List Transcript) → Turns n old new before now ds es ts → AreApart ts
  apart-in-turn n old new before now [] [] [] h = tt
  apart-in-turn n old new before now (d ∷ ds) (e ∷ es) (t ∷ ts) h = (
    above t.number (n + 1) h.0 new h.1 now ds es ts (omega (arith, h.2.number_is)) h.3,
    apart-in-turn (n + 1) h.0 new h.1 now ds es ts h.3,
  )
  apart-in-turn n old new before now [] (y ∷ es) ts h = absurd h
  apart-in-turn n old new before now [] [] (z ∷ ts) h = absurd h
  apart-in-turn n old new before now (x ∷ ds) [] ts h = absurd h
  apart-in-turn n old new before now (x ∷ ds) (y ∷ es) [] h = absurd h

pub core-in-turn : {D P W B : Type 0} (a b : Option (List D)) (m : Meanings P W B) (parts : D → P) (root : List ℕ) (limit : ℕ) (journal : List Entry)
    (faults : ℕ) (es : List D) (ts : List Transcript) (files : List FileOut) → Runs a b (Serves m parts root limit) [] journal 0 faults es ts
    → IsCoreRun (rules_of m) files limit journal ts
core-in-turn a b m parts root limit journal faults es ts files h =
    core-run m root limit journal faults ts files (apart-in-turn m parts root limit 1 [] journal 0 faults h.left es ts h.served)
    (linked m parts root limit 1 [] journal 0 faults h.left es ts h.served)
