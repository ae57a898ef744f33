-- Each state of each run meets its facts.
use Rattle.std.proofs.Common.{◌≡◌, ℕ, List, [], ◌∷◌, ◌++◌, Some, arith, length, length-append, refl, sym, subst, ◌∙◌}
use Rattle.std.specs.Prelude.{Contains, IfSome}
use Rattle.std.proofs.lemmas.List.Elements.{Contains-append_cases, Contains-append_left, Contains-append_right}
use Rattle.rx_base.proofs.Members.{Contains-head, not_in_nothing}
use Rattle.rx_board.specs.declared.journal.Entry.{Entry}
use Rattle.rx_board.proofs.LastPlaced.{holds_last}
use Rattle.rx_board.proofs.OnePublication.{kept-more, numbered-more}
use Rattle.rx_core.specs.Actions.{Action, admitted, cancel, offer, start}
use Rattle.rx_core.specs.Answering.{HasNoRoom, HasReplyCause}
use Rattle.rx_core.specs.Facts.{Facts, Holds, IsOwned, TellsFull}
use Rattle.rx_core.specs.Publications.{MayPublish, entry_of, publish, published, with_entry}
use Rattle.rx_core.specs.Remote.{AreLawful, Job, Rules}
use Rattle.rx_core.specs.Replies.{Reply}
use Rattle.rx_core.specs.Runs.{IsReached, IsRun, after_steps, opening}
use Rattle.rx_core.specs.States.{State, with_action, with_change}
use Rattle.rx_core.specs.Steps.{Admit, Answer, Cancel, Exit, Hear, MayStep, Offer, Publish, Start, Step, after_step, answer, exit, hear}
use Rattle.rx_core.proofs.ActionSteps.{facts-admitted, facts-answer, facts-exit, facts-hear, facts-publish}
use Rattle.rx_core.proofs.Cases.{none-some, some-is}
use Rattle.rx_core.proofs.Changes.{added-each, changed-each}
use Rattle.rx_core.proofs.Growing.{if-some-map}
use Rattle.rx_core.proofs.OfferSteps.{facts-cancel, facts-offer, facts-start}
use Rattle.rx_core.proofs.Owners.{offer-entry, owned-after, owned-more, owned-new, start-entry}
use Rattle.rx_world.specs.declared.attempts.Attempt.{Attempt}
use Rattle.rx_world.specs.declared.attempts.Attempt.TheVariants.{Local, Remote}
use Rattle.rx_world.specs.declared.attempts.Plan.{Plan}
use Rattle.rx_world.specs.declared.commands.Command.{Command}
use Rattle.rx_world.specs.declared.outcomes.FileOut.{FileOut}
use Rattle.rx_world.specs.declared.outcomes.Outcome.{Outcome}
use Rattle.rx_world.specs.declared.trees.Tree.{Tree}

-- ---- one action changes

module _ {H : Type 0} (state : State H) (n : ℕ) (a : Action H) (P : Action H → Type 0) where
  -- what holds of each action still does, where it does of the one that changed
  each-change : (f : Action H → Action H) → state.actions n ≡ Some a
      → ((m : ℕ) (old : Action H) → state.actions m ≡ Some old → P old) → (P a → P (f a))
      → (m : ℕ) (new : Action H) → (with_change n f state).actions m ≡ Some new → P new
  each-change f there all step m new =
      changed-each state n a f there (λ k found. found ≡ Some new → P new)
      (λ is. subst P (some-is is) (step (all n a there))) (λ k not is. all k new is) m

  -- and where it does of the one that was put in
  each-admit : P a → ((m : ℕ) (old : Action H) → state.actions m ≡ Some old → P old)
      → (m : ℕ) (new : Action H) → (with_action n a state).actions m ≡ Some new → P new
  each-admit one all m new =
      added-each state n a (λ k found. found ≡ Some new → P new) (λ is. subst P (some-is is) one)
      (λ k not is. all k new is) m

-- ---- what is told of the journal

start-reply : {H : Type 0} (a : Action H) (x : Attempt) → (start x a).reply ≡ a.reply
start-reply a Local = refl
start-reply a Remote = refl

offer-reply : {H : Type 0} (a : Action H) (x : Attempt) → (offer x a).reply ≡ a.reply
offer-reply a Local = refl
offer-reply a Remote = refl

-- that the journal is full is answered where it is
room-told : {H : Type 0} (state : State H) (a : Action H) (reply : Reply)
    → HasReplyCause state a reply → reply ≡ Reply.JournalFull
    → length state.journal ≡ state.limit
room-told state a reply cause told =
    let room : HasNoRoom state a = subst (HasReplyCause state a) told cause in room.full

-- ---- steps and runs

module _ {H : Type 0} (tool : Command → Tree → Outcome) (rules : Rules H)
    (lawful : AreLawful tool rules) (files : List FileOut) where
  -- each entry of the journal before a step has its owner after it
  abbrev Owned : State H → State H → Type 0
  Owned state now = (entry : Entry) → Contains state.journal entry → IsOwned now entry

  owned-then : (state : State H) (step : Step H) → MayStep rules state step
      → Holds rules files state → Owned state (after_step rules state step)
  owned-then state step may h = owned-after rules files state step may h

  -- one action changes, and no entry does
  holds-change : (state : State H) (n : ℕ) (a : Action H) (f : Action H → Action H)
      → state.actions n ≡ Some a → (f a).entry ≡ a.entry → (Facts rules a → Facts rules (f a))
      → (TellsFull state a → TellsFull state (f a)) → Owned state (with_change n f state)
      → Holds rules files state → Holds rules files (with_change n f state)
  holds-change state n a f there same step tells owned h = record {
    each = each-change state n a (Facts rules) f there h.each step;
    listed = each-change state n a (λ one. IfSome one.entry (Contains state.journal)) f there
        h.listed (λ is. subst (λ m. IfSome m (Contains state.journal)) (sym same) is);
    owned = owned;
    place = h.place;
    last = h.last;
    numbered = h.numbered;
    within = h.within;
    full = each-change state n a (TellsFull state) f there h.full tells;
  }

  holds-admit : (state : State H) (n session : ℕ) (plan : Plan) (job : Job)
      → MayStep rules state (Admit n session plan job) → Holds rules files state
      → Holds rules files (with_action n (admitted session plan job) state)
  holds-admit state n session plan job may h = record {
    each = each-admit state n (admitted session plan job) (Facts rules)
        (facts-admitted rules session plan job) h.each;
    listed = each-admit state n (admitted session plan job)
        (λ one. IfSome one.entry (Contains state.journal)) tt h.listed;
    owned = owned-then state (Admit n session plan job) may h;
    place = h.place;
    last = h.last;
    numbered = h.numbered;
    within = h.within;
    full = each-admit state n (admitted session plan job) (TellsFull state)
        (λ told. none-some told) h.full;
  }

  -- the entry of each action stands in the longer journal
  listed-more : (state : State H) (n : ℕ) (a : Action H) (entry : Entry)
      → state.actions n ≡ Some a → Holds rules files state → (m : ℕ) (new : Action H)
      → (with_change n (with_entry entry) state).actions m ≡ Some new
      → IfSome new.entry (Contains (state.journal ++ entry ∷ []))
  listed-more state n a entry there h =
      let longer = state.journal ++ entry ∷ [] in
      each-change state n a (λ one. IfSome one.entry (Contains longer)) (with_entry entry) there
      (λ m one is. if-some-map one.entry (Contains state.journal) (Contains longer)
      (λ e. Contains-append_left state.journal (entry ∷ []) e) (h.listed m one is))
      (λ old. Contains-append_right state.journal (entry ∷ []) entry (Contains-head entry []))

  holds-published : (state : State H) (n : ℕ) (a : Action H) (placed faults : ℕ)
      → state.actions n ≡ Some a → (may : MayPublish state placed faults a)
      → Owned state (published n placed faults state a (Some may.finished))
      → Holds rules files state
      → Holds rules files (published n placed faults state a (Some may.finished))
  holds-published state n a placed faults there may owned h =
      let entry = entry_of state a placed may.finished.outcome in
      let now = published n placed faults state a (Some may.finished) in
      let kept = kept-more (Some files) (Some state.place) (Some now.place) state.journal entry
      may.finished.outcome.files h.place refl refl in
      let owner = owned-new rules files state n a entry there refl h in
      record {
        each = each-change state n a (Facts rules) (with_entry entry) there h.each
            (facts-publish rules state a placed faults may);
        listed = listed-more state n a entry there h;
        owned = λ one is. owned-more now state.journal entry owned (record {
          n = owner.n;
          action = owner.action;
          there = owner.there;
          entry_is = owner.entry_is;
          alone = owner.alone;
        }) one (Contains-append_cases state.journal (entry ∷ []) one is);
        place = kept;
        last = holds_last (Some files) (Some now.place) now.journal kept;
        numbered = numbered-more 1 state.journal entry h.numbered refl;
        within = rw length-append (omega (arith, may.room));
        full = each-change state n a (TellsFull now) (with_entry entry) there
            (λ m one is told.
            let full = h.full m one is told in absurd (omega (arith, full, may.room)))
            (λ old. old);
      }

  holds-publish : (state : State H) (n placed faults : ℕ)
      → (may : MayStep rules state (Publish n placed faults)) → Holds rules files state
      → Holds rules files (publish n placed faults state (state.actions n))
  holds-publish state n placed faults may h =
      let a = may.action in
      let finished = may.holds.finished in
      let owned = owned-then state (Publish n placed faults) may h in
      let found = subst (λ m. Owned state (publish n placed faults state m)) may.there owned in
      let won_is = may.holds.won_is in
      subst (λ m. Holds rules files (publish n placed faults state m)) (sym may.there)
      (subst (λ m. Holds rules files (published n placed faults state a m)) (sym won_is)
      (holds-published state n a placed faults may.there may.holds
      (subst (λ m. Owned state (published n placed faults state a m)) won_is found) h))

  holds-step : (state : State H) (step : Step H) → MayStep rules state step
      → Holds rules files state → Holds rules files (after_step rules state step)
  holds-step state (Admit n session plan job) may h = holds-admit state n session plan job may h
  holds-step state (Start n x) may h =
      holds-change state n may.action (start x) may.there (start-entry may.action x)
      (facts-start rules may.action x may.holds)
      (λ old told. old (sym (start-reply may.action x) ∙ told))
      (owned-then state (Start n x) may h) h
  holds-step state (Hear n item) may h =
      holds-change state n may.action (hear rules item) may.there refl
      (facts-hear tool rules lawful may.action item may.holds) (λ old. old)
      (owned-then state (Hear n item) may h) h
  holds-step state (Exit n end) may h =
      holds-change state n may.action (exit end) may.there refl
      (facts-exit rules may.action end may.holds) (λ old. old)
      (owned-then state (Exit n end) may h) h
  holds-step state (Offer n x) may h =
      holds-change state n may.action (offer x) may.there (offer-entry may.action x)
      (facts-offer rules may.action x may.holds)
      (λ old told. old (sym (offer-reply may.action x) ∙ told))
      (owned-then state (Offer n x) may h) h
  holds-step state (Cancel n) may h =
      holds-change state n may.action cancel may.there refl
      (facts-cancel rules may.action) (λ old. old)
      (owned-then state (Cancel n) may h) h
  holds-step state (Publish n placed faults) may h = holds-publish state n placed faults may h
  holds-step state (Answer n reply) may h =
      holds-change state n may.action (answer reply) may.there refl
      (facts-answer rules state may.action reply may.holds)
      (λ old told. room-told state may.action reply may.holds.cause (some-is told))
      (owned-then state (Answer n reply) may h) h

  holds-steps : (state : State H) (steps : List (Step H)) → IsRun rules state steps
      → Holds rules files state → Holds rules files (after_steps rules state steps)
  holds-steps state [] run h = h
  holds-steps state (step ∷ steps) run h =
      holds-steps (after_step rules state step) steps run.1 (holds-step state step run.0 h)

  holds-opening : (limit faults : ℕ) → Holds rules files (opening files limit faults)
  holds-opening limit faults = record {
    each = λ n a is. none-some is;
    listed = λ n a is. none-some is;
    owned = λ entry is. absurd (not_in_nothing entry is);
    place = refl;
    last = λ path. refl;
    numbered = tt;
    within = omega arith;
    full = λ n a is. none-some is;
  }

  pub every-run : (state : State H) → IsReached rules files state → Holds rules files state
  every-run state reached =
      let limit = reached.limit in
      let faults = reached.faults in
      subst (Holds rules files) (sym reached.leads)
      (holds-steps (opening files limit faults) reached.steps reached.run
      (holds-opening limit faults))
