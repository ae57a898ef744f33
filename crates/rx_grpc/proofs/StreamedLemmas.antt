-- Streamed answers: they are open, go on item by item, and what is made of the items.
use Rattle.std.proofs.Common.{◌≡◌, ◌≢◌, ℕ, Bool, true, false, List, [], ◌∷◌, ◌++◌, Option, None, Some, Result, Ok, Err, IfErr, IfOk, refl, sym, ap, subst, ◌∙◌, le_refl, append_assoc}
use Rattle.std.specs.Prelude.{OnOk, is_some}
use Rattle.std.specs.Option.{option_map_or}
use Rattle.rx_base.specs.Results.{Gives}
use Rattle.rx_world.specs.Links.{Wire}
use Rattle.rx_world.specs.declared.call_faults.CallFault.{CallFault}
use Rattle.rx_world.specs.declared.call_faults.CallFault.TheVariants as Faults
use Rattle.rx_world.specs.declared.links.Link as links
use Rattle.rx_grpc.specs.declared.stream_item.StreamItem.{StreamItem}
use Rattle.rx_grpc.specs.declared.stream_item.StreamItem.TheVariants as StreamItems
use Rattle.rx_grpc.specs.declared.transfer_fault.TransferFault.{TransferFault}
use Rattle.rx_grpc.specs.declared.transfer_fault.TransferFault.TheVariants.{Link, Protocol, NoMemory}
use Rattle.rx_grpc.specs.Channel.{ChannelOf}
use Rattle.rx_grpc.specs.Item.{is_message}
use Rattle.rx_grpc.specs.Questions.{Asked}
use Rattle.rx_grpc.specs.Streamed.{Begins, Nexts, NextsOn, is_answering, opened_after}
use Rattle.rx_grpc.specs.StreamedCalls.{Came, GoesOn, GoesOnBy, HearsAll, HearsItems, IsBegun, first_of, joined, joined_of, kept_of, message_of, taken}
use Rattle.rx_grpc.specs.Transport.{Opened, TransportOf}
use Rattle.rx_base.specs.declared.digests.Digest.{Digest}
use Rattle.rx_codec.specs.Decoding.{any_form, decoded}
use Rattle.rx_exec_messages.specs.Calls.{RefusesOneOf}
use Rattle.rx_exec_messages.specs.Streams.{read_response_from, read_response_parts}
use Rattle.rx_exec_messages.specs.declared.streams.ReadResponse.{ReadResponse}
use Rattle.rx_grpc.proofs.KeepLemmas.{keeps-all}
use Rattle.rx_grpc.proofs.RefusedLemmas.{read-refused, then-err}

-- ---- open answers

some-by : {A : Type 0} (o : Option A) (x : A) → o ≡ Some x → is_some o ≡ true
some-by o x e = ap is_some e

pub begins-open : {L : Type 0} (wire : L → Option Wire) (old new : Option (TransportOf L)) → Begins wire old new → is_answering new ≡ true
begins-open wire old None b = absurd b
begins-open wire old (Some t) b = some-by t.opened _ b.0

open-after : (item : StreamItem) (o : Opened) (room : ℕ) → is_message item ≡ true → is_some (opened_after item o room) ≡ true
open-after (StreamItems.Message message) o room e = refl
open-after (StreamItems.Success cut) o room e = absurd cc
open-after (StreamItems.Status code) o room e = absurd cc
open-after StreamItems.Compressed o room e = absurd cc
open-after StreamItems.TooLarge o room e = absurd cc
open-after StreamItems.NoStatus o room e = absurd cc
open-after StreamItems.LinkEnd o room e = absurd cc

nexts-open : {L : Type 0} (wire : L → Option Wire) (rule : L → List ℕ → List ℕ → Type 0) (ended : L → Bool) (o : Option Opened) (old new : TransportOf L) (item : StreamItem)
    → is_message item ≡ true → Nexts wire rule ended o old new item → is_some new.opened ≡ true
nexts-open wire rule ended None old new item is n = absurd n
nexts-open wire rule ended (Some o) old new item is n = ap is_some n.rest ∙ open-after item o n.room is

pub next-open : {L : Type 0} (wire : L → Option Wire) (rule : L → List ℕ → List ℕ → Type 0) (ended : L → Bool) (old new : Option (TransportOf L)) (item : StreamItem)
    → NextsOn wire rule ended old new item → is_message item ≡ true → is_answering new ≡ true
next-open wire rule ended None new item n is = absurd n
next-open wire rule ended (Some t) None item n is = absurd n
next-open wire rule ended (Some t) (Some u) item n is = nexts-open wire rule ended t.opened t u item is n

pub came-open : {L : Type 0} (wire : L → Option Wire) (rule : L → List ℕ → List ℕ → Type 0) (ended : L → Bool) (old new : Option (TransportOf L)) (came : Came)
    → IfOk came (NextsOn wire rule ended old new) → IfOk came (λ item. is_message item ≡ true → is_answering new ≡ true)
came-open wire rule ended old new (Ok item) n = next-open wire rule ended old new item n
came-open wire rule ended old new (Err fault) n = tt

-- a message tells that the answer is open still
pub message-open : (came : Came) (P : Type 0) → IfOk came (λ item. is_message item ≡ true → P) → OnOk (message_of came) P
message-open (Ok (StreamItems.Message message)) P p = p refl
message-open (Ok (StreamItems.Success cut)) P p = tt
message-open (Ok (StreamItems.Status code)) P p = tt
message-open (Ok StreamItems.Compressed) P p = tt
message-open (Ok StreamItems.TooLarge) P p = tt
message-open (Ok StreamItems.NoStatus) P p = tt
message-open (Ok StreamItems.LinkEnd) P p = tt
message-open (Err fault) P p = tt

-- what is just what a definition gives
pub gives-same : {A : Type 0} (result given : Result A CallFault) → result ≡ given → Gives Faults.NoMemory (λ (x : A). x) result given
gives-same (Ok x) given e = sym e
gives-same (Err fault) given e = λ other. sym e

-- ---- calls that weren't begun

pub unbegun : {D L : Type 0} (dial : D → ℕ) (rule : D → List ℕ → List ℕ → Type 0) (link : links.Ghosts L) (asked : Asked) (channel : ChannelOf D L) → IsBegun dial rule link asked channel channel (Err NoMemory)
unbegun dial rule link asked channel = record { begins = tt; asks = tt; stops = tt; cause = record { later = le_refl _; failed = λ e. absurd cc }; keeps = keeps-all rule channel; ruled = tt }

pub nothing-came : {D L : Type 0} (dial : D → ℕ) (rule : D → List ℕ → List ℕ → Type 0) (link : links.Ghosts L) (asked : Asked) (old new : ChannelOf D L) (begun : Result (Unit {0}) TransferFault) (IsSuch : Result (Unit {0}) TransferFault → List Came → Type 0)
    → IsBegun dial rule link asked old new begun → IsSuch begun [] → HearsItems dial rule link asked old new IsSuch
nothing-came dial rule link asked old new begun IsSuch is such = record { begun = begun; opened = new; is_begun = is; items = []; goes_on = refl; is_such = such }

pub one-came : {D L : Type 0} (dial : D → ℕ) (rule : D → List ℕ → List ℕ → Type 0) (link : links.Ghosts L) (asked : Asked) (old opened new : ChannelOf D L) (begun : Result (Unit {0}) TransferFault) (came : Came) (IsSuch : Result (Unit {0}) TransferFault → List Came → Type 0)
    → IsBegun dial rule link asked old opened begun → GoesOn rule link opened new came → IsSuch begun (came ∷ []) → HearsItems dial rule link asked old new IsSuch
one-came dial rule link asked old opened new begun came IsSuch is goes such = record { begun = begun; opened = opened; is_begun = is; items = came ∷ []; goes_on = (new, goes, refl); is_such = such }

pub all-came : {D L : Type 0} (dial : D → ℕ) (rule : D → List ℕ → List ℕ → Type 0) (link : links.Ghosts L) (asked : Asked) (old opened new : ChannelOf D L) (begun : Result (Unit {0}) TransferFault) (IsSuch : Result (Unit {0}) TransferFault → List Came → Type 0)
    → IsBegun dial rule link asked old opened begun → HearsAll rule link opened new (λ items. IsSuch begun items) → HearsItems dial rule link asked old new IsSuch
all-came dial rule link asked old opened new begun IsSuch is all = record { begun = begun; opened = opened; is_begun = is; items = all.items; goes_on = all.goes_on; is_such = all.is_such }

-- ---- item by item

pub goes-snoc : {D L : Type 0} (rule : D → List ℕ → List ℕ → Type 0) (link : links.Ghosts L) (a b c : ChannelOf D L) (items : List Came) (came : Came) → GoesOnBy rule link a b items → GoesOn rule link b c came → GoesOnBy rule link a c (items ++ came ∷ [])
goes-snoc rule link a b c [] came e goes = (c, subst (λ x. GoesOn rule link x c came) e goes, refl)
goes-snoc rule link a b c (item ∷ items) came by goes = (by.0, by.1, goes-snoc rule link by.0 b c items came by.2 goes)

-- where bytes came the answer is open still
pub taken-open : (text next : List ℕ) (came : Came) (P : Type 0) → IfOk came (λ item. is_message item ≡ true → P) → taken text came ≡ Ok (Some next) → P
taken-open text next (Ok (StreamItems.Message message)) P p e = p refl
taken-open text next (Ok (StreamItems.Success true)) P p e = absurd cc
taken-open text next (Ok (StreamItems.Success false)) P p e = absurd cc
taken-open text next (Ok (StreamItems.Status code)) P p e = absurd cc
taken-open text next (Ok StreamItems.Compressed) P p e = absurd cc
taken-open text next (Ok StreamItems.TooLarge) P p e = absurd cc
taken-open text next (Ok StreamItems.NoStatus) P p e = absurd cc
taken-open text next (Ok StreamItems.LinkEnd) P p e = absurd cc
taken-open text next (Err fault) P p e = absurd cc

-- the items so far, which gave this text
pub record IsJoining {D L : Type 0} (rule : D → List ℕ → List ℕ → Type 0) (link : links.Ghosts L) (old now : ChannelOf D L) (text : List ℕ) : Type 0 where
  pub items : List Came
  pub goes_on : GoesOnBy rule link old now items
  pub so_far : (more : List Came) → joined [] (items ++ more) ≡ joined text more
  pub open_still : is_answering now.transport ≡ true

pub joining-starts : {D L : Type 0} (rule : D → List ℕ → List ℕ → Type 0) (link : links.Ghosts L) (channel : ChannelOf D L) → is_answering channel.transport ≡ true → IsJoining rule link channel channel []
joining-starts rule link channel still = record { items = []; goes_on = refl; so_far = λ more. refl; open_still = still }

one-joined : (text next : List ℕ) (came : Came) (more : List Came) → taken text came ≡ Ok (Some next) → joined text (came ∷ more) ≡ joined next more
one-joined text next came more e = rw e refl

with-one : {D L : Type 0} (rule : D → List ℕ → List ℕ → Type 0) (link : links.Ghosts L) (old now : ChannelOf D L) (text : List ℕ) (j : IsJoining rule link old now text) (came : Came) (more : List Came) → joined [] ((j.items ++ came ∷ []) ++ more) ≡ joined text (came ∷ more)
with-one rule link old now text j came more = ap (λ (all : List Came). joined [] all) (append_assoc j.items (came ∷ []) more) ∙ j.so_far (came ∷ more)

pub joining-on : {D L : Type 0} (rule : D → List ℕ → List ℕ → Type 0) (link : links.Ghosts L) (old mid new : ChannelOf D L) (text next : List ℕ) (came : Came)
    → IsJoining rule link old mid text → GoesOn rule link mid new came → taken text came ≡ Ok (Some next) → is_answering new.transport ≡ true → IsJoining rule link old new next
joining-on rule link old mid new text next came j goes e still = record {
  items = j.items ++ came ∷ [];
  goes_on = goes-snoc rule link old mid new j.items came j.goes_on goes;
  so_far = λ more. with-one rule link old mid text j came more ∙ one-joined text next came more e;
  open_still = still;
}

last-joined : {D L : Type 0} (rule : D → List ℕ → List ℕ → Type 0) (link : links.Ghosts L) (old now : ChannelOf D L) (text : List ℕ) (j : IsJoining rule link old now text) (came : Came) → joined [] (j.items ++ came ∷ []) ≡ joined text (came ∷ [])
last-joined rule link old now text j came = j.so_far (came ∷ [])

pub joining-whole : {D L : Type 0} (rule : D → List ℕ → List ℕ → Type 0) (link : links.Ghosts L) (old mid new : ChannelOf D L) (text : List ℕ) (came : Came)
    → IsJoining rule link old mid text → GoesOn rule link mid new came → taken text came ≡ Ok None → HearsAll rule link old new (λ items. Gives Faults.NoMemory (λ (x : List ℕ). x) (Ok text) (joined [] items))
joining-whole rule link old mid new text came j goes e = record {
  items = j.items ++ came ∷ [];
  goes_on = goes-snoc rule link old mid new j.items came j.goes_on goes;
  is_such = last-joined rule link old mid text j came ∙ (rw e refl);
}

pub joining-fails : {D L : Type 0} (rule : D → List ℕ → List ℕ → Type 0) (link : links.Ghosts L) (old mid new : ChannelOf D L) (text : List ℕ) (came : Came) (fault : CallFault)
    → IsJoining rule link old mid text → GoesOn rule link mid new came → (fault ≢ Faults.NoMemory → taken text came ≡ Err fault)
    → HearsAll rule link old new (λ items. Gives Faults.NoMemory (λ (x : List ℕ). x) (Err fault) (joined [] items))
joining-fails rule link old mid new text came fault j goes e = record {
  items = j.items ++ came ∷ [];
  goes_on = goes-snoc rule link old mid new j.items came j.goes_on goes;
  is_such = λ other. last-joined rule link old mid text j came ∙ (rw (e other) refl);
}

pub joining-spent : {D L : Type 0} (rule : D → List ℕ → List ℕ → Type 0) (link : links.Ghosts L) (old now : ChannelOf D L) (text : List ℕ)
    → IsJoining rule link old now text → HearsAll rule link old now (λ items. Gives Faults.NoMemory (λ (x : List ℕ). x) (Err Faults.NoMemory) (joined [] items))
joining-spent rule link old now text j = record { items = j.items; goes_on = j.goes_on; is_such = λ other. absurd (other refl) }

-- ---- no blob is refused by name

taken-refused : (asked : List Digest) (text : List ℕ) (came : Came) → IfErr (taken text came) (RefusesOneOf asked)
taken-refused asked text (Ok (StreamItems.Message message)) =
    then-err (RefusesOneOf asked) _ _ (read-refused asked (decoded read_response_parts read_response_from any_form message)) (λ (x : ReadResponse). tt)
taken-refused asked text (Ok (StreamItems.Success true)) = tt
taken-refused asked text (Ok (StreamItems.Success false)) = tt
taken-refused asked text (Ok (StreamItems.Status code)) = tt
taken-refused asked text (Ok StreamItems.Compressed) = tt
taken-refused asked text (Ok StreamItems.TooLarge) = tt
taken-refused asked text (Ok StreamItems.NoStatus) = tt
taken-refused asked text (Ok StreamItems.LinkEnd) = tt
taken-refused asked text (Err Link) = tt
taken-refused asked text (Err (Protocol code)) = tt
taken-refused asked text (Err NoMemory) = tt

joined-refused : (asked : List Digest) (text : List ℕ) (items : List Came) → IfErr (joined text items) (RefusesOneOf asked)
joined-refused asked text [] = tt
joined-refused asked text (came ∷ items) =
    then-err (RefusesOneOf asked) (taken text came) _ (taken-refused asked text came)
    (λ (next : Option (List ℕ)). elim next as (λ n. IfErr (option_map_or (λ more. joined more items) n (Ok text)) (RefusesOneOf asked)) [
      | None ↦ tt
      | Some more ↦ joined-refused asked more items
    ])

pub joined-of-refused : (asked : List Digest) (begun : Result (Unit {0}) TransferFault) (items : List Came) → IfErr (joined_of begun items) (RefusesOneOf asked)
joined-of-refused asked (Ok x) items = joined-refused asked [] items
joined-of-refused asked (Err Link) items = tt
joined-of-refused asked (Err (Protocol code)) items = tt
joined-of-refused asked (Err NoMemory) items = tt

-- ---- the first message is kept

pub kept-message : {D L : Type 0} (dial : D → ℕ) (rule : D → List ℕ → List ℕ → Type 0) (link : links.Ghosts L) (asked : Asked) (old new : ChannelOf D L) (message : List ℕ) (result : Result (List ℕ) CallFault)
    → result ≡ Ok message → HearsItems dial rule link asked old new (λ begun items. Gives Faults.NoMemory (λ (x : List ℕ). x) result (first_of begun items))
    → HearsItems dial rule link asked old new (λ begun items. Gives Faults.NoMemory (λ (x : Unit {0}). Some message) (Ok tt) (kept_of begun items))
kept-message dial rule link asked old new message result e h =
    let first : first_of h.begun h.items ≡ Ok message = rw e at h.is_such in
    record { begun = h.begun; opened = h.opened; is_begun = h.is_begun; items = h.items; goes_on = h.goes_on; is_such = rw first refl }

pub kept-none : {D L : Type 0} (dial : D → ℕ) (rule : D → List ℕ → List ℕ → Type 0) (link : links.Ghosts L) (asked : Asked) (old new : ChannelOf D L) (first : Option (List ℕ)) (fault : CallFault) (result : Result (List ℕ) CallFault)
    → result ≡ Err fault → HearsItems dial rule link asked old new (λ begun items. Gives Faults.NoMemory (λ (x : List ℕ). x) result (first_of begun items))
    → HearsItems dial rule link asked old new (λ begun items. Gives Faults.NoMemory (λ (x : Unit {0}). first) (Err fault) (kept_of begun items))
kept-none dial rule link asked old new first fault result e h =
    let such = rw e at h.is_such in
    record { begun = h.begun; opened = h.opened; is_begun = h.is_begun; items = h.items; goes_on = h.goes_on; is_such = λ other. rw (such other) refl }
