-- Each entry of the journal is that of one action, and a step keeps this.
use Rattle.std.proofs.Common.{◌≡◌, ◌<◌, ◌≤◌, ◌+◌, ℕ, List, [], ◌∷◌, Option, None, Some, arith, inl, inr, length, refl, ap, sym, subst, ◌∙◌}
use Rattle.std.specs.Prelude.{◌⊎◌, Contains, IfSome}
use Rattle.rx_base.proofs.Members.{Contains-cons_cases, Contains-one, not_in_nothing}
use Rattle.rx_board.specs.declared.journal.Entry.{Entry}
use Rattle.rx_board.specs.Journal.{AreNumberedFrom}
use Rattle.rx_core.specs.Actions.{Action, admitted, cancel, offer, start}
use Rattle.rx_core.specs.Facts.{Holds, IsOwned}
use Rattle.rx_core.specs.Publications.{entry_of, publish, published, with_entry}
use Rattle.rx_core.specs.Remote.{Rules}
use Rattle.rx_core.specs.States.{State, with_action, with_change}
use Rattle.rx_core.specs.Steps.{Admit, Answer, Cancel, Exit, Hear, MayStep, Offer, Publish, Start, Step, after_step, answer, exit, hear}
use Rattle.rx_core.proofs.Cases.{none-some, some-is}
use Rattle.rx_core.proofs.Changes.{added-each, changed-each, changed-here}
use Rattle.rx_core.proofs.Staying.{step-stays}
use Rattle.rx_world.specs.declared.attempts.Attempt.{Attempt}
use Rattle.rx_world.specs.declared.attempts.Attempt.TheVariants.{Local, Remote}
use Rattle.rx_world.specs.declared.outcomes.FileOut.{FileOut}

-- ---- numbers

-- the entries of a journal have no greater numbers than the last
numbered-within : (number : ℕ) (journal : List Entry) (entry : Entry)
    → AreNumberedFrom number journal → Contains journal entry
    → entry.number < number + length journal
numbered-within number [] entry h is = absurd (not_in_nothing entry is)
numbered-within number (first ∷ rest) entry h is = elim (Contains-cons_cases first rest entry is) [
  | inl same ↦ let here = ap (λ (e : Entry). e.number) same in omega (arith, here, h.0)
  | inr later ↦ let behind = numbered-within (number + 1) rest entry h.1 later in
      omega (arith, behind)
]

-- ---- what an action had before a step

pub start-entry : {H : Type 0} (a : Action H) (x : Attempt) → (start x a).entry ≡ a.entry
start-entry a Local = refl
start-entry a Remote = refl

pub offer-entry : {H : Type 0} (a : Action H) (x : Attempt) → (offer x a).entry ≡ a.entry
offer-entry a Local = refl
offer-entry a Remote = refl

-- the action that is found has this entry
record HadEntry {H : Type 0} (found : Option (Action H)) (entry : Entry) : Type 0 where
  action : Action H
  there : found ≡ Some action
  entry_is : action.entry ≡ Some entry

module _ {H : Type 0} (state : State H) (n : ℕ) (a : Action H) (entry : Entry) where
  had-change : (f : Action H → Action H) → state.actions n ≡ Some a
      → ((f a).entry ≡ Some entry → a.entry ≡ Some entry) → (m : ℕ) (now : Action H)
      → (with_change n f state).actions m ≡ Some now → now.entry ≡ Some entry
      → HadEntry (state.actions m) entry
  had-change f there same m now is e =
      changed-each state n a f there (λ k found. found ≡ Some now → HadEntry (state.actions k) entry)
      (λ made. record {
        action = a;
        there = there;
        entry_is = same (ap (λ (one : Action H). one.entry) (some-is made) ∙ e);
      })
      (λ k not was. record { action = now; there = was; entry_is = e }) m is

  had-admit : a.entry ≡ None → (m : ℕ) (now : Action H)
      → (with_action n a state).actions m ≡ Some now → now.entry ≡ Some entry
      → HadEntry (state.actions m) entry
  had-admit none m now is e =
      added-each state n a (λ k found. found ≡ Some now → HadEntry (state.actions k) entry)
      (λ made. none-some (sym none ∙ ap (λ (one : Action H). one.entry) (some-is made) ∙ e))
      (λ k not was. record { action = now; there = was; entry_is = e }) m is

had-published : {H : Type 0} (rules : Rules H) (state : State H) (n placed faults : ℕ)
    → MayStep rules state (Publish n placed faults) → (entry : Entry)
    → entry.number ≤ length state.journal → (m : ℕ) (now : Action H)
    → (publish n placed faults state (state.actions n)).actions m ≡ Some now
    → now.entry ≡ Some entry → HadEntry (state.actions m) entry
had-published rules state n placed faults may entry old m now is e =
    let a = may.action in
    let new = entry_of state a placed may.holds.finished.outcome in
    let found = subst (λ one. (publish n placed faults state one).actions m ≡ Some now)
    may.there is in
    let made = subst (λ one. (published n placed faults state a one).actions m ≡ Some now)
    may.holds.won_is found in
    had-change state n a entry (with_entry new) may.there (λ same.
    let number : length state.journal + 1 ≡ entry.number =
    ap (λ (one : Entry). one.number) (some-is same) in
    absurd (omega (arith, number, old))) m now made e

-- an entry that the journal had is one that its action had
had-step : {H : Type 0} (rules : Rules H) (state : State H) (step : Step H)
    → MayStep rules state step → (entry : Entry) → entry.number ≤ length state.journal
    → (m : ℕ) (now : Action H) → (after_step rules state step).actions m ≡ Some now
    → now.entry ≡ Some entry → HadEntry (state.actions m) entry
had-step rules state (Admit n session plan job) may entry old m now is e =
    had-admit state n (admitted session plan job) entry refl m now is e
had-step rules state (Start n x) may entry old m now is e =
    had-change state n may.action entry (start x) may.there
    (λ same. sym (start-entry may.action x) ∙ same) m now is e
had-step rules state (Hear n item) may entry old m now is e =
    had-change state n may.action entry (hear rules item) may.there (λ same. same) m now is e
had-step rules state (Exit n end) may entry old m now is e =
    had-change state n may.action entry (exit end) may.there (λ same. same) m now is e
had-step rules state (Offer n x) may entry old m now is e =
    had-change state n may.action entry (offer x) may.there
    (λ same. sym (offer-entry may.action x) ∙ same) m now is e
had-step rules state (Cancel n) may entry old m now is e =
    had-change state n may.action entry cancel may.there (λ same. same) m now is e
had-step rules state (Publish n placed faults) may entry old m now is e =
    had-published rules state n placed faults may entry old m now is e
had-step rules state (Answer n reply) may entry old m now is e =
    had-change state n may.action entry (answer reply) may.there (λ same. same) m now is e

-- ---- owners

pub owned-after : {H : Type 0} (rules : Rules H) (files : List FileOut) (state : State H)
    (step : Step H) → MayStep rules state step → Holds rules files state → (entry : Entry)
    → Contains state.journal entry → IsOwned (after_step rules state step) entry
owned-after rules files state step may h entry is =
    let owner = h.owned entry is in
    let below = numbered-within 1 state.journal entry h.numbered is in
    let kept = step-stays rules state step may owner.n owner.action owner.there in record {
      n = owner.n;
      action = kept.now;
      there = kept.there;
      entry_is = kept.keeps.entry entry owner.entry_is;
      alone = λ m other there e.
          let had = had-step rules state step may entry (omega (arith, below)) m other there e in
          owner.alone m had.action had.there had.entry_is;
    }

if-some-at : {A : Type 0} (m : Option A) (x : A) (P : A → Type 0) → m ≡ Some x → IfSome m P → P x
if-some-at m x P e h = subst (λ o. IfSome o P) e h

-- the action that is given the next entry is its owner
pub owned-new : {H : Type 0} (rules : Rules H) (files : List FileOut) (state : State H) (n : ℕ)
    (a : Action H) (entry : Entry) → state.actions n ≡ Some a
    → entry.number ≡ length state.journal + 1 → Holds rules files state
    → IsOwned (with_change n (with_entry entry) state) entry
owned-new rules files state n a entry there next h = record {
  n = n;
  action = with_entry entry a;
  there = changed-here state n a (with_entry entry) there;
  entry_is = refl;
  alone = λ m other is e.
      changed-each state n a (with_entry entry) there (λ k found. found ≡ Some other → k ≡ n) (λ made. refl)
      (λ k not was.
      let listed = h.listed k other was in
      let in_it = if-some-at other.entry entry (Contains state.journal) e listed in
      let below = numbered-within 1 state.journal entry h.numbered in_it in
      absurd (omega (arith, below, next))) m is;
}

-- the entry that is added has an owner, and each other one has it still
pub owned-more : {H : Type 0} (now : State H) (journal : List Entry) (new : Entry)
    → ((entry : Entry) → Contains journal entry → IsOwned now entry) → IsOwned now new
    → (entry : Entry) → (Contains journal entry) ⊎ (Contains (new ∷ []) entry)
    → IsOwned now entry
owned-more now journal new old owner entry (inl is) = old entry is
owned-more now journal new old owner entry (inr is) =
    subst (IsOwned now) (Contains-one new entry is) owner
