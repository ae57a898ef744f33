-- What a call has heard is what the received bytes show.
use Rattle.std.proofs.Common.{◌≡◌, ℕ, Bool, true, false, List, [], ◌++◌, append-nil, append_assoc, refl, sym, ap, ◌∙◌, Option, None, Some}
use Rattle.rx_h2conn.specs.declared.fault.ConnFault.TheVariants.{NoMemory, Protocol}
use Rattle.rx_h2conn.specs.Session.{Reading, Event, Queued}
use Rattle.rx_h2conn.specs.Streams.{is_open, stream_at}
use Rattle.rx_h2conn.specs.Conn.{started}
use Rattle.rx_h2conn.specs.Incoming.{nothing as no_bytes}
use Rattle.rx_h2conn.specs.Part.{Part, blank, part}
use Rattle.rx_h2conn.specs.State.{Extends}
use Rattle.rx_h2conn.specs.History.{run}
use Rattle.rx_h2conn.specs.Heard.{HearsLawful, all_handed, all_lawful, events_of}
use Rattle.rx_h2conn.proofs.GrowLemmas.{part_later}
use Rattle.rx_h2conn.proofs.HeardRunLemmas.{hears}
use Rattle.rx_world.specs.Links.{Wire}
use Rattle.rx_grpc.specs.declared.call.Call.{Call}
use Rattle.rx_grpc.specs.Heard.{Heard, nothing, heard}
use Rattle.rx_grpc.specs.Uses.{events_at, front, ShownStays}
use Rattle.rx_grpc.specs.Moves.{Carries}
use Rattle.rx_grpc.specs.Conversation.{CallHears}
use Rattle.rx_grpc.specs.Shown.{shown, Shows, Breaks, Fills}
use Rattle.rx_grpc.proofs.UseLemmas.{front_shows, heard_append}
use Rattle.rx_grpc.proofs.ItemLemmas.{IsLook, messages_later}
use Rattle.rx_grpc.proofs.HearLemmas.{reads_from}

-- the connection of a conversation, with the stream that is held
pub record IsHeardAt (wire : Option Wire) (rule : List ℕ → List ℕ → Type 0) (conn : Reading) (call : Call) : Type 0 where
  pub hears : CallHears wire rule conn call
  pub opened : is_open conn.state call.id ≡ true
  pub kept : (stream_at conn.state call.id).client_reset ≡ false
  pub empty : conn.state.events ≡ []
  pub memory : conn.state.fault ≡ Some NoMemory → ⊥

pub lawful_at : (wire : Option Wire) (rule : List ℕ → List ℕ → Type 0) (conn : Reading) (call : Call) (h : IsHeardAt wire rule conn call) → HearsLawful started h.hears.talk.moves.calls
lawful_at wire rule conn call h =
    hears h.hears.talk.moves.calls (λ bad. h.memory (ap (λ (y : Reading). y.state.fault) (sym h.hears.talk.moves.run_is) ∙ bad))

-- what the reader heard is what the bytes before a broken rule show
pub heard_lawful : (wire : Option Wire) (rule : List ℕ → List ℕ → Type 0) (conn : Reading) (call : Call) (h : IsHeardAt wire rule conn call) → front h.hears.given call.answers ≡ heard nothing (events_at call.id (all_lawful started h.hears.talk.moves.calls))
heard_lawful wire rule conn call h =
    let talk = h.hears.talk in
    let calls = talk.moves.calls in
    let lawful = lawful_at wire rule conn call h in
    let state : run started calls ≡ conn = talk.moves.run_is in
    let all : all_handed started calls ++ events_of (run started calls).state.events ≡ talk.handed =
    ap (λ (y : Reading). all_handed started calls ++ events_of y.state.events) state
    ∙ (ap (λ (y : List Queued). all_handed started calls ++ events_of y) h.empty
    ∙ (append-nil (all_handed started calls) ∙ talk.moves.handed_is)) in
    let same = lawful.part call.id (ap (λ (y : Reading). is_open y.state call.id) state ∙ h.opened) (ap (λ (y : Reading). (stream_at y.state call.id).client_reset) state ∙ h.kept) in
    h.hears.heard_is
    ∙ (reads_from talk.handed nothing blank call.id (λ bad. absurd cc) (λ bad. absurd cc)
    ∙ ap (λ (y : Part). heard nothing y.events) (ap (part call.id) (sym all) ∙ same))

-- without a broken rule these are all bytes
pub lawful_all : (wire : Option Wire) (rule : List ℕ → List ℕ → Type 0) (conn : Reading) (call : Call) (h : IsHeardAt wire rule conn call) → conn.state.fault ≡ None → all_lawful started h.hears.talk.moves.calls ≡ h.hears.talk.received
lawful_all wire rule conn call h none =
    let moves = h.hears.talk.moves in
    (lawful_at wire rule conn call h).all (ap (λ (y : Reading). y.state.fault) moves.run_is ∙ none) ∙ moves.fed_is

pub lawful_front : (wire : Option Wire) (rule : List ℕ → List ℕ → Type 0) (conn : Reading) (call : Call) (h : IsHeardAt wire rule conn call) → (more : List ℕ) × (h.hears.talk.received ≡ all_lawful started h.hears.talk.moves.calls ++ more)
lawful_front wire rule conn call h =
    let front = (lawful_at wire rule conn call h).front in
    (front.0, sym h.hears.talk.moves.fed_is ∙ front.1)

-- the messages that were handed out are a front of those of all bytes
pub heard_given : (wire : Option Wire) (rule : List ℕ → List ℕ → Type 0) (conn : Reading) (call : Call) (h : IsHeardAt wire rule conn call) → Extends h.hears.given (heard nothing (events_at call.id h.hears.talk.received)).messages
heard_given wire rule conn call h =
    let lawful = all_lawful started h.hears.talk.moves.calls in
    let cut = lawful_front wire rule conn call h in
    let (later, is) = part_later call.id no_bytes lawful cut.0 in
    let here = heard nothing (events_at call.id lawful) in
    let (more, grows) = messages_later here later in
    let given = h.hears.given in (
      call.answers.messages ++ more,
      ap (λ (x : List ℕ). (heard nothing (events_at call.id x)).messages) cut.1
          ∙ (ap (λ (x : List Event). (heard nothing x).messages) is
          ∙ (ap (λ (x : Heard). x.messages) (heard_append nothing (events_at call.id lawful) later)
          ∙ (grows
          ∙ (ap (λ (x : Heard). x.messages ++ more) (sym (heard_lawful wire rule conn call h))
          ∙ append_assoc given call.answers.messages more)))),
    )

-- an answer that is shown without the link's end is shown with it
pub shown_at : {A : Type 0} (look view : Bool → Heard → Option A) (place : ℕ) (l : IsLook look view place) (ended link_ended : Bool) (a : Heard) (x : A) → (ended ≡ true → link_ended ≡ true) → view ended a ≡ Some x → view link_ended a ≡ Some x
shown_at look view place l true link_ended a x h shows = let is = h refl in rw is shows
shown_at look view place l false link_ended a x h shows = l.early a x link_ended shows

pub ended_needed : {A : Type 0} (look : Bool → Heard → Option A) (ended : Bool) (a : Heard) (x : A) → look ended a ≡ Some x → look false a ≡ None → ended ≡ true
ended_needed look true a x shows none = refl
ended_needed look false a x shows none = let no : Some x ≡ None = sym shows ∙ none in absurd cc

-- the answer of the bytes before a broken rule is that of all bytes
pub shown_whole : {A : Type 0} (look : Bool → Heard → Option A) (ended link_ended : Bool) (id : ℕ) (lawful more received : List ℕ) (x : A) → ((a b : List Event) → ShownStays look nothing a b) → received ≡ lawful ++ more → (ended ≡ true → (link_ended ≡ true) × (lawful ≡ received)) → shown look ended id lawful ≡ Some x → shown look link_ended id received ≡ Some x
shown_whole look true link_ended id lawful more received x stays cut h shows = let both = h refl in rw (sym both.1, both.0) shows
shown_whole look false link_ended id lawful more received x stays cut h shows = rw cut (front_shows look nothing id lawful more stays link_ended x shows)

-- what the reader shows is what the bytes before a broken rule show
pub looks_at : {A : Type 0} (look view : Bool → Heard → Option A) (wire : Option Wire) (rule : List ℕ → List ℕ → Type 0) (conn : Reading) (call : Call) (l : IsLook look view call.place) (h : IsHeardAt wire rule conn call) (ended : Bool) → shown look ended call.id (all_lawful started h.hears.talk.moves.calls) ≡ view ended call.answers
looks_at look view wire rule conn call l h ended = ap (look ended) (sym (heard_lawful wire rule conn call h)) ∙ l.same h.hears.given call.answers ended h.hears.count

unfoldable pub shows_by : {A : Type 0} (look view : Bool → Heard → Option A) (wire : Option Wire) (rule : List ℕ → List ℕ → Type 0) (conn : Reading) (call : Call) (link_ended ended : Bool) (x : A) → IsLook look view call.place → IsHeardAt wire rule conn call → (ended ≡ true → (link_ended ≡ true) × (conn.state.fault ≡ None)) → view ended call.answers ≡ Some x → Shows look wire rule link_ended conn call.id x
shows_by look view wire rule conn call link_ended ended x l h by_end shows =
    let lawful_end = lawful_front wire rule conn call h in
    let lawful = all_lawful started h.hears.talk.moves.calls in
    let first : shown look ended call.id lawful ≡ Some x = looks_at look view wire rule conn call l h ended ∙ shows in
    record {
      talk = h.hears.talk;
      whole = shown_whole look ended link_ended call.id lawful lawful_end.0 h.hears.talk.received x l.stays lawful_end.1 (λ e. let both = by_end e in (both.0, lawful_all wire rule conn call h both.1)) first;
      lawful = looks_at look view wire rule conn call l h link_ended ∙ shown_at look view call.place l ended link_ended call.answers x (λ e. (by_end e).0) shows;
      by_end = λ none. (by_end (ended_needed look ended _ x first none)).1;
    }

pub breaks_by : {A : Type 0} (look view : Bool → Heard → Option A) (wire : Option Wire) (rule : List ℕ → List ℕ → Type 0) (conn : Reading) (call : Call) (code : ℕ) → IsLook look view call.place → IsHeardAt wire rule conn call → conn.state.fault ≡ Some (Protocol code) → view false call.answers ≡ None → Breaks look wire rule conn call.id code
breaks_by look view wire rule conn call code l h fault none = record {
  talk = h.hears.talk;
  fault = fault;
  none = looks_at look view wire rule conn call l h false ∙ none;
}

-- no room is left
pub fills_by : {A : Type 0} (look view : Bool → Heard → Option A) (before wire : Option Wire) (rule : List ℕ → List ℕ → Type 0) (start conn : Reading) (call : Call) (room : ℕ) → IsLook look view call.place → IsHeardAt wire rule conn call → conn.state.fault ≡ None → Carries before wire start conn room 0 → view false call.answers ≡ None → Fills look room before wire rule conn call.id
fills_by look view before wire rule start conn call room l h fault carries none = record {
  first = start;
  carries = carries;
  talk = h.hears.talk;
  fault = fault;
  none = ap (shown look false call.id) (sym (lawful_all wire rule conn call h fault)) ∙ (looks_at look view wire rule conn call l h false ∙ none);
}
