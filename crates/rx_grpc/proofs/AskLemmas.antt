-- What a connection was asked, and what its bytes say of it.
use Rattle.std.proofs.Common.{◌≡◌, ◌≤◌, ℕ, Bool, true, false, ◌||◌, List, [], ◌∷◌, ◌++◌, append-nil, append_assoc, refl, sym, ap, subst, ◌∙◌, arith, Option, None, Some, Result, Ok, Err, IfOk, MatchOption}
use Rattle.std.proofs.lemmas.Bool.{or_from}
use Rattle.std.specs.List.{list_all, list_any}
use Rattle.std.proofs.lemmas.List.Folds.{list_any-append}
use Rattle.rx_hpack.specs.Header.{Field}
use Rattle.rx_h2frame.specs.declared.kind.Kind.TheVariants.{Headers, Continuation}
use Rattle.rx_h2frame.specs.Write.{Out}
use Rattle.rx_h2conn.specs.declared.fault.ConnFault.{ConnFault}
use Rattle.rx_h2conn.specs.Blocks.{block_on}
use Rattle.rx_h2conn.specs.Carried.{bytes_on, payload}
use Rattle.rx_h2conn.specs.Conn.{started}
use Rattle.rx_h2conn.specs.Emitted.{outs_unless}
use Rattle.rx_h2conn.specs.Granted.{AllSendHeld}
use Rattle.rx_h2conn.specs.History.{Call, Opens, after, run, all_given, all_emitted, emitted}
use Rattle.rx_h2conn.specs.Open.{header_block, header_frames, next_id, refusal}
use Rattle.rx_h2conn.specs.Session.{Reading}
use Rattle.rx_h2conn.proofs.BlockLemmas.{emitted_append, only_block, two_none}
use Rattle.rx_h2conn.proofs.CarriedLemmas.{all_carried, is_byte_of}
use Rattle.rx_h2conn.proofs.ConnLemmas.{refusal_none}
use Rattle.rx_h2conn.proofs.EmittedLemmas.{all_added}
use Rattle.rx_h2conn.proofs.RestoreLemmas.{run_append}
use Rattle.rx_world.specs.Links.{Wire}
use Rattle.rx_grpc.specs.declared.open_call.OpenCall.{OpenCall}
use Rattle.rx_grpc.specs.declared.transfer_fault.TransferFault.{TransferFault}
use Rattle.rx_grpc.specs.Conversation.{Conversation}
use Rattle.rx_grpc.specs.Framing.{framed}
use Rattle.rx_grpc.specs.Heard.{nothing, heard}
use Rattle.rx_grpc.specs.Moves.{is_quiet}
use Rattle.rx_grpc.specs.Sent.{Asks, IsAsked, IsAsking, IsCall, IsToSend, SendsHeaders, ends_stream, is_ended}
use Rattle.rx_grpc.specs.Shown.{IsKept}
use Rattle.rx_grpc.specs.Transport.{OpensStream}
use Rattle.rx_grpc.specs.Uses.{events_at}
use Rattle.rx_grpc.proofs.ConversationLemmas.{talk_moved}
use Rattle.rx_grpc.proofs.MoveLemmas.{moves_trans}
use Rattle.rx_grpc.proofs.QuietLemmas.{bytes_append, none_any, quiet_run}
use Rattle.rx_grpc.proofs.StreamLemmas.{hears_new, starts}
use Rattle.rx_grpc.proofs.UnopenedLemmas.{bytes_of_one, ends_of_one, unended_frames, unopened_run}

pub held_front : (r : Reading) (a b : List Call) → AllSendHeld r (a ++ b) → AllSendHeld r a
held_front r [] b h = tt
held_front r (c ∷ a) b h = (h.0, held_front (after r c) a b h.1)

pub emitted_here : (calls more : List Call) (conn : Reading) → run started calls ≡ conn → all_emitted started (calls ++ more) ≡ all_emitted started calls ++ all_emitted conn more
emitted_here calls more conn is = emitted_append started calls more ∙ ap (λ (x : Reading). all_emitted started calls ++ all_emitted x more) is

-- ---- a stream is opened

pub any_unless : (p : Out → Bool) (o : Option ConnFault) (os : List Out) → list_any p os ≡ false → list_any p (outs_unless o os) ≡ false
any_unless p None os h = h
any_unless p (Some e) os h = refl

-- nothing of its bytes is sent with its headers
pub opens_blank : (r : Reading) (fields : List Field) (id : ℕ) → (bytes_on id (all_emitted r (Opens fields false ∷ [])) ≡ []) × (is_ended id (all_emitted r (Opens fields false ∷ [])) ≡ false)
opens_blank r fields id = (
  all_carried r id (Opens fields false ∷ []),
  ap (is_ended id) (append-nil (emitted r (Opens fields false)))
      ∙ any_unless (ends_stream id) (refusal r.state) (header_frames r.state fields false) (unended_frames id _ Headers Continuation 0 4 (next_id r.state) (header_block r.state.size_update fields) refl refl refl),
)

pub asks_opened : (before : List Call) (fields : List Field) (id : ℕ) (messages : List (List ℕ)) → AllSendHeld started before → refusal (run started before).state ≡ None → id ≡ next_id (run started before).state → Asks (before ++ Opens fields false ∷ []) id fields messages (framed messages)
asks_opened before fields id messages held free is =
    let at = run started before in
    let calm = (refusal_none at.state free).0 in
    let blank = opens_blank at fields id in
    let split = emitted_append started before (Opens fields false ∷ []) in
    let below : next_id at.state ≤ id = omega (arith, is) in
    let first = all_emitted started before in
    let second = all_emitted at (Opens fields false ∷ []) in
    let bytes : bytes_on id (all_emitted started (before ++ Opens fields false ∷ [])) ≡ [] =
    ap (bytes_on id) split ∙ (bytes_append id first second ∙ two_none _ _ (ap payload (unopened_run (is_byte_of id) before started id (bytes_of_one id) held calm below)) blank.0) in
    let going : is_ended id (all_emitted started (before ++ Opens fields false ∷ [])) ≡ false =
    ap (is_ended id) split ∙ (list_any-append (ends_stream id) first second ∙ or_from _ _ (none_any (ends_stream id) first (unopened_run (ends_stream id) before started id (ends_of_one id) held calm below)) blank.1) in
    record {
      before = before;
      later = [];
      calls_are = refl;
      free = free;
      stream = is;
      body = ap (λ (x : List ℕ). x ++ framed messages) bytes;
      whole = λ ended. let bad : true ≡ false = sym ended ∙ going in absurd cc;
    }

pub asked_opens : (wire : Option Wire) (rule : List ℕ → List ℕ → Type 0) (ended : Bool) (old new : Reading) (fields : List Field) (n : ℕ) → IsKept wire rule ended old → OpensStream old new fields n → IsAsked wire rule new n fields
unfolding starts talk_moved moves_trans
asked_opens wire rule ended old new fields n k o =
    let s = starts wire rule ended old new fields n k o in
    let first = k.talk.moves.calls in
    let there : run started (first ++ o.before) ≡ run old o.before = run_append started first o.before ∙ ap (λ (x : Reading). run x o.before) k.talk.moves.run_is in
    let calls : first ++ o.moves.calls ≡ (first ++ o.before) ++ Opens fields false ∷ [] = ap (λ (x : List Call). first ++ x) o.calls_are ∙ sym (append_assoc first o.before (Opens fields false ∷ [])) in
    let held = held_front started (first ++ o.before) (Opens fields false ∷ []) (subst (AllSendHeld started) calls s.talk.moves.sends) in
    record {
      talk = s.talk;
      silent = s.silent;
      stays = s.stays;
      asks = λ messages.
          subst (λ (x : List Call). Asks x n fields messages (framed messages)) (sym calls)
          (asks_opened (first ++ o.before) fields n messages held (ap (λ (x : Reading). refusal x.state) there ∙ o.free) (o.stream ∙ ap (λ (x : Reading). next_id x.state) (sym there)));
    }

pub asked_by : (wire : Option Wire) (rule : List ℕ → List ℕ → Type 0) (ended : Bool) (old new : Reading) (fields : List Field) (result : Result (Option ℕ) TransferFault) → IsKept wire rule ended old → IfOk result (λ id. MatchOption id (Unit {0}) (OpensStream old new fields)) → IfOk result (λ id. MatchOption id (Unit {0}) (λ id. IsAsked wire rule new id fields))
asked_by wire rule ended old new fields (Ok (Some id)) k o = asked_opens wire rule ended old new fields id k o
asked_by wire rule ended old new fields (Ok None) k o = tt
asked_by wire rule ended old new fields (Err e) k o = tt

-- a call begins on it
pub asking_starts : (wire : Option Wire) (rule : List ℕ → List ℕ → Type 0) (conn : Reading) (o : OpenCall) (id : ℕ) (fields : List Field) (coming messages : List (List ℕ)) → IsAsked wire rule conn id fields → o.call.id ≡ id → o.call.answers ≡ nothing → o.call.place ≡ 0 → o.call.away ≡ false → IsToSend o.request coming messages → IsAsking wire rule conn o coming fields messages []
unfolding hears_new
asking_starts wire rule conn o id fields coming messages a same new place away send = record {
  hears = hears_new wire rule conn o.call id a.talk a.silent a.stays same new place away;
  given_is = refl;
  unsent = framed messages;
  asks = subst (λ (i : ℕ). Asks a.talk.moves.calls i fields messages (framed messages)) (sym same) (a.asks messages);
  rest = λ _. sym send.rest;
  last = send.last;
}

-- ---- later calls

pub none_behind : (a b : List ℕ) → a ++ b ≡ [] → b ≡ []
none_behind [] b h = h
none_behind (x ∷ a) b h = absurd cc

pub one_of : {P : Type 0} (a b : Bool) → (a || b) ≡ true → (a ≡ true → P) → (b ≡ true → P) → P
one_of true b h p q = p refl
one_of false true h p q = q refl
one_of false false h p q = absurd cc

pub asks_on : (calls more : List Call) (conn : Reading) (id : ℕ) (fields : List Field) (messages : List (List ℕ)) (left now : List ℕ) → run started calls ≡ conn → Asks calls id fields messages left → bytes_on id (all_emitted conn more) ++ now ≡ left → (is_ended id (all_emitted conn more) ≡ true → now ≡ []) → Asks (calls ++ more) id fields messages now
asks_on calls more conn id fields messages left now is a cut over =
    let first = all_emitted started calls in
    let second = all_emitted conn more in
    let split = emitted_here calls more conn is in
    record {
      before = a.before;
      later = a.later ++ more;
      calls_are = ap (λ (x : List Call). x ++ more) a.calls_are ∙ append_assoc a.before (Opens fields false ∷ a.later) more;
      free = a.free;
      stream = a.stream;
      body =
          ap (λ (x : List ℕ). x ++ now) (ap (bytes_on id) split ∙ bytes_append id first second)
          ∙ (append_assoc (bytes_on id first) (bytes_on id second) now
          ∙ (ap (λ (x : List ℕ). bytes_on id first ++ x) cut ∙ a.body));
      whole = λ ended.
          one_of (is_ended id first) (is_ended id second) (sym (list_any-append (ends_stream id) first second) ∙ (ap (is_ended id) (sym split) ∙ ended))
          (λ e. none_behind (bytes_on id second) now (cut ∙ a.whole e))
          over;
    }

pub asks_quiet : (calls more : List Call) (conn : Reading) (id : ℕ) (fields : List Field) (messages : List (List ℕ)) (left : List ℕ) → run started calls ≡ conn → list_all is_quiet more ≡ true → Asks calls id fields messages left → Asks (calls ++ more) id fields messages left
asks_quiet calls more conn id fields messages left is quiet a =
    let q = quiet_run more conn id quiet in
    asks_on calls more conn id fields messages left left is a (ap (λ (x : List ℕ). x ++ left) q.bytes) (λ e. let bad : true ≡ false = sym e ∙ q.going in absurd cc)

-- ---- what the bytes carry

pub is_call : (wire : Option Wire) (rule : List ℕ → List ℕ → Type 0) (conn : Reading) (talk : Conversation wire rule conn) (id : ℕ) (fields : List Field) (messages : List (List ℕ)) (unsent : List ℕ) → Asks talk.moves.calls id fields messages unsent → IsCall talk.sent conn.state.queued talk.received id fields messages (heard nothing (events_at id talk.received))
is_call wire rule conn talk id fields messages unsent a =
    let calls = talk.moves.calls in
    let outs = all_emitted started calls in
    record {
      outs = outs;
      update = (run started a.before).state.size_update;
      frames =
          ap (λ (x : List ℕ). x ++ conn.state.queued) (sym talk.moves.given_is)
          ∙ (ap (λ (x : Reading). all_given started calls ++ x.state.queued) (sym talk.moves.run_is) ∙ all_added started calls);
      headers =
          ap (λ (i : ℕ). block_on i outs) a.stream
          ∙ (ap (λ (x : List Call). block_on (next_id (run started a.before).state) (all_emitted started x)) a.calls_are ∙ only_block started a.before fields false a.later a.free);
      body = (unsent, sym a.body);
      whole = λ ended. sym (append-nil (bytes_on id outs)) ∙ (ap (λ (x : List ℕ). bytes_on id outs ++ x) (sym (a.whole ended)) ∙ a.body);
      told = refl;
    }

pub sends_headers : (wire : Option Wire) (rule : List ℕ → List ℕ → Type 0) (conn : Reading) (id : ℕ) (fields : List Field) → IsAsked wire rule conn id fields → SendsHeaders wire conn id fields
sends_headers wire rule conn id fields a =
    let call = is_call wire rule conn a.talk id fields [] (framed []) (a.asks []) in
    record {
      sent = a.talk.sent;
      received = a.talk.received;
      outs = call.outs;
      update = call.update;
      tells = a.talk.tells;
      frames = call.frames;
      headers = call.headers;
    }
