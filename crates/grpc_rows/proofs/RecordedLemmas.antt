-- A client over links that tell fronts of the recorded bytes vouches for each outcome with which the empty result agrees, and is
-- genuine.
use Rattle.std.proofs.Common.{◌≡◌, ℕ, Bool, true, false, cond, List, [], ◌∷◌, ◌++◌, refl, sym, ap, subst, ◌∙◌, inl, take, drop, Option, None, Some, Result, Ok, IfOk, IfSome}
use Rattle.std.specs.Prelude.{◌==◌}
use Rattle.std.specs.List.{AllByRecursion}
use Rattle.std.proofs.lemmas.List.{take-append-drop}
use Rattle.rx_base.specs.declared.digests.Digest.{Digest}
use Rattle.rx_h2conn.specs.Incoming.{nothing as no_bytes}
use Rattle.rx_h2conn.specs.Part.{part}
use Rattle.rx_h2conn.specs.Session.{Event}
use Rattle.rx_h2conn.proofs.GrowLemmas.{part_later}
use Rattle.rx_results.specs.Agreement.{Agrees}
use Rattle.rx_exec_messages.specs.Calls.{AreBlobs, IsNamedFor}
use Rattle.rx_exec_messages.specs.Dialects.{dialect_of}
use Rattle.rx_exec_messages.specs.declared.answers.Capabilities.{Capabilities}
use Rattle.rx_exec_messages.specs.declared.answers.Operation.{Operation}
use Rattle.rx_exec_messages.specs.declared.state_faults.StateFault.{StateFault}
use Rattle.rx_world.specs.declared.call_faults.CallFault.{CallFault}
use Rattle.rx_world.specs.declared.commands.Command.{Command}
use Rattle.rx_world.specs.declared.outcomes.Outcome.{Outcome}
use Rattle.rx_world.specs.declared.versions.Dialect.{Dialect}
use Rattle.rx_grpc.specs.declared.answer.Answer.{Answer}
use Rattle.rx_grpc.specs.declared.answer.Answer.TheVariants.{NoStatus}
use Rattle.rx_grpc.specs.declared.end.End.{End}
use Rattle.rx_grpc.specs.Answer.{unary_by}
use Rattle.rx_grpc.specs.Begun.{action_of}
use Rattle.rx_grpc.specs.Heard.{Heard, heard, nothing}
use Rattle.rx_grpc.specs.Honest.{IfAnswered, IsGenuine, StateAgrees, Vouches}
use Rattle.rx_grpc.specs.Operations.{operation_by}
use Rattle.rx_grpc.specs.Replies.{Heard as Replied}
use Rattle.rx_grpc.specs.Results.{capabilities_by, found_by, read_by}
use Rattle.rx_grpc.specs.Uses.{events_at}
use Rattle.rx_grpc.proofs.ItemLemmas.{messages_later}
use Rattle.rx_grpc.proofs.UseLemmas.{heard_append, heard_ended}
use Rattle.grpc_rows.specs.Recorded.{IsFront, empty_result, message, recorded}
use Rattle.grpc_rows.proofs.BytesLemmas.{done_state, events_are, heard_told, part_by, state_told, told}

-- nothing but this message is told, and no end
record IsTold (h : Heard) : Type 0 where
  open_still : h.end ≡ None
  messages : AllByRecursion (λ x. x ≡ message) h.messages

told_by : (b : Bool) → IsTold (heard nothing (cond b told []))
told_by true = subst IsTold (sym heard_told) (record { open_still = refl; messages = (refl, tt) })
told_by false = record { open_still = refl; messages = tt }

told_whole : (id : ℕ) → IsTold (heard nothing (events_at id recorded))
told_whole id =
    let are : events_at id recorded ≡ cond (1 == id) told [] = ap (λ (events : List Event). (part id events).events) events_are ∙ part_by (1 == id) id refl in
    subst (λ (events : List Event). IsTold (heard nothing events)) (sym are) (told_by (1 == id))

all_front : {A : Type 0} (P : A → Type 0) (xs ys : List A) → AllByRecursion P (xs ++ ys) → AllByRecursion P xs
all_front P [] ys all = tt
all_front P (x ∷ xs) ys all = (all.0, all_front P xs ys all.1)

-- what a front tells, by what came later
open_front : (o : Option End) (h : Heard) (later : List Event) → h.end ≡ o → (heard h later).end ≡ None → h.end ≡ None
open_front None h later is ends = is
open_front (Some e) h later is ends = ap (λ (x : Heard). x.end) (sym (heard_ended h e later is)) ∙ ends

told_front : (h : Heard) (later : List Event) → IsTold (heard h later) → IsTold h
told_front h later t =
    let more = messages_later h later in
    record {
      open_still = open_front h.end h later refl t.open_still;
      messages = all_front (λ x. x ≡ message) h.messages more.0 (subst (λ (x : List (List ℕ)). AllByRecursion (λ y. y ≡ message) x) more.1 t.messages);
    }

told_at : (sent received : List ℕ) (id : ℕ) → IsFront sent received → IsTold (heard nothing (events_at id received))
told_at sent received id front =
    let later = part_later id no_bytes received front.0 in
    let whole : events_at id recorded ≡ events_at id received ++ later.0 = ap (events_at id) front.1 ∙ later.1 in
    told_front (heard nothing (events_at id received)) later.0
    (subst IsTold (ap (heard nothing) whole ∙ heard_append nothing (events_at id received) later.0) (told_whole id))

-- what was received so far is a front
pub front_at : (sent : List ℕ) (at : ℕ) → IsFront sent (take at recorded)
front_at sent at = (drop at recorded, sym (take-append-drop at recorded))

-- ---- what is made of it

some_in : {A : Type 0} (x y : A) → Some x ≡ Some y → x ≡ y
some_in x y e = cc

none_given : (o : Option End) (ended : Bool) (h : Heard) (answer : Answer) → o ≡ None → unary_by o ended h ≡ Some answer → NoStatus ≡ answer
none_given None true h answer is e = some_in NoStatus answer e
none_given None false h answer is e = absurd cc
none_given (Some end) ended h answer is e = absurd cc

no_answer : {T : Type 0} (value : Replied → Result T CallFault) (IsSuch : T → Type 0) (h : Heard) → IsTold h → IfOk (value (Ok NoStatus)) IsSuch → IfAnswered value IsSuch h
no_answer value IsSuch h t none ended answer e = subst (λ (x : Answer). IfOk (value (Ok x)) IsSuch) (none_given h.end ended h answer t.open_still e) none

states_by : (messages : List (List ℕ)) (IsSuch : Operation → Type 0) → AllByRecursion (λ x. x ≡ message) messages → IsSuch done_state → AllByRecursion (λ x. IfOk (operation_by x) IsSuch) messages
states_by [] IsSuch all such = tt
states_by (x ∷ messages) IsSuch all such = (
  subst (λ (m : List ℕ). IfOk (operation_by m) IsSuch) (sym all.0) (subst (λ (r : Result Operation StateFault). IfOk r IsSuch) (sym state_told) such),
  states_by messages IsSuch all.1 such,
)

pub recorded_vouches : (authority instance : List ℕ) (blob : Digest → List ℕ) (operation : List ℕ → Digest) (digest : Digest) (command : Command) (outcome : Outcome) → Agrees blob command outcome empty_result → Vouches IsFront authority instance blob operation digest command outcome
recorded_vouches authority instance blob operation digest command outcome agrees = λ sent waiting received id asked h meets call.
    let t : IsTold h = subst IsTold (sym call.told) (told_at sent received id meets) in
    record {
      kept = λ is. no_answer found_by (λ found. IfSome found (Agrees blob command outcome)) h t tt;
      ran = λ begun asks is. states_by h.messages (StateAgrees blob command outcome) t.messages agrees;
    }

pub recorded_genuine : (authority instance : List ℕ) (blob : Digest → List ℕ) (operation : List ℕ → Digest) (dialect : Dialect) → IsGenuine IsFront authority instance blob operation dialect
recorded_genuine authority instance blob operation dialect = λ sent waiting received id asked h meets call.
    let t : IsTold h = subst IsTold (sym call.told) (told_at sent received id meets) in
    record {
      versions = λ is. no_answer capabilities_by (λ (x : Capabilities). dialect_of x.low x.high ≡ dialect) h t tt;
      batches = λ digests is. no_answer (read_by digests) (AreBlobs blob digests) h t tt;
      blobs = λ digest is end rest. let bad = sym t.open_still ∙ end in absurd cc;
      names = λ begun asks. states_by h.messages (λ (state : Operation). IsNamedFor operation (action_of operation begun) state.name) t.messages (inl refl);
    }
