-- A call that goes on, with what it has put of its request into the frames of its stream.
use Rattle.std.proofs.Common.{◌≡◌, ℕ, ◌/◌, Bool, true, false, cond, not, ◌&&◌, ◌||◌, List, [], ◌∷◌, ◌++◌, length, take, drop, append-nil, append_assoc, nat_eq, nat_lt, refl, sym, ap, subst, ◌∙◌, Option, None, Some, Result, Ok, Err, IfOk}
use Rattle.std.specs.List.{list_any}
use Rattle.std.proofs.lemmas.Bool.{eq-eqb, eqb-true}
use Rattle.std.proofs.lemmas.List.{get_or-set_same, take-append-drop}
use Rattle.std.proofs.Math.Seq.{drop-length}
use Rattle.rx_hpack.specs.Header.{Field}
use Rattle.rx_h2frame.specs.declared.kind.Kind.TheVariants.{Data}
use Rattle.rx_h2conn.specs.declared.fault.ConnFault.{ConnFault}
use Rattle.rx_h2conn.specs.declared.stream.Stream.{Stream}
use Rattle.rx_h2conn.specs.Carried.{bytes_on, written}
use Rattle.rx_h2conn.specs.Emitted.{outs_unless}
use Rattle.rx_h2conn.specs.History.{Sends, all_emitted, emitted}
use Rattle.rx_h2conn.specs.Output.{AnswersAt, allowed, charged, data_frames, ends, send_frames, sent}
use Rattle.rx_h2conn.specs.Session.{Session, Reading}
use Rattle.rx_h2conn.specs.State.{Extends}
use Rattle.rx_h2conn.specs.Streams.{IsHeld, fresh, stream_at}
use Rattle.rx_h2conn.specs.Window.{spent}
use Rattle.rx_h2conn.proofs.CarriedLemmas.{all_carried}
use Rattle.rx_h2conn.proofs.ListLemmas.{and_true}
use Rattle.rx_h2conn.proofs.SoundLemmas.{open_at}
use Rattle.rx_world.specs.Links.{Wire, Meets}
use Rattle.rx_grpc.specs.declared.open_call.OpenCall.{OpenCall}
use Rattle.rx_grpc.specs.declared.stream_item.StreamItem.{StreamItem}
use Rattle.rx_grpc.specs.declared.transfer_fault.TransferFault.{TransferFault}
use Rattle.rx_grpc.specs.Came.{is_end}
use Rattle.rx_grpc.specs.Conversation.{CallHears, Drains, IsOpen}
use Rattle.rx_grpc.specs.Framing.{framed}
use Rattle.rx_grpc.specs.Heard.{Heard, heard, nothing}
use Rattle.rx_grpc.specs.Uses.{events_at}
use Rattle.rx_grpc.specs.Moves.{Exchange}
use Rattle.rx_grpc.specs.Request.{RequestOf}
use Rattle.rx_grpc.specs.Sent.{Asks, Concludes, Handing, IsAnswered, IsAsking, IsToSend, Pushes, StillAsks, ends_stream, is_ended}
use Rattle.rx_grpc.proofs.AskLemmas.{asks_on, asks_quiet, is_call}
use Rattle.rx_grpc.proofs.ConversationLemmas.{hears_drained, hears_exchange, hears_moved, talk_moved, talk_on}
use Rattle.rx_grpc.proofs.MoveLemmas.{moves_none, moves_trans}
use Rattle.rx_grpc.proofs.QuietLemmas.{quiet_run}
use Rattle.rx_grpc.proofs.ItemLemmas.{IsLook}
use Rattle.rx_grpc.proofs.ShownLemmas.{IsHeardAt, heard_given, shows_by}
use Rattle.rx_grpc.proofs.TurnLemmas.{IsLike, came_end, came_no_want, hears_like, sent_moves}
use Rattle.rx_grpc.proofs.UnopenedLemmas.{unended_frames}

-- ---- a part of the request is given

-- only what ends it has the flag
pub over_frames : (gone some over : Bool) (id : ℕ) (bytes : List ℕ) → list_any (ends_stream id) (cond (not gone && (some || over)) (data_frames id bytes over) []) ≡ true → (gone ≡ false) × (over ≡ true)
over_frames true some over id bytes h = absurd cc
over_frames false some true id bytes h = (refl, refl)
over_frames false true false id bytes h = let none = unended_frames id _ Data Data 0 0 id bytes refl refl refl in let bad : true ≡ false = sym h ∙ none in absurd cc
over_frames false false false id bytes h = absurd cc

pub bytes_taken : (gone : Bool) (n size : ℕ) (piece : List ℕ) → n ≡ size → gone ≡ false → piece ≡ take (cond gone 0 size) piece ++ drop n piece
bytes_taken gone n size piece is going = rw (going, is) (sym (take-append-drop size piece))

pub sent_gone : (s : Session) (id : ℕ) (piece : List ℕ) (last : Bool) → IsHeld s id false → (stream_at (sent s id piece last) id).server_reset ≡ (stream_at s id).server_reset
unfolding sent
sent_gone s id piece last h =
    let t : Stream = record (stream_at s id) { send = spent (stream_at s id).send (charged s id (length piece)); client_done = (stream_at s id).client_done || ends s id (length piece) last } in
    ap (λ (x : Stream). x.server_reset) (get_or-set_same s.streams (id / 2) t fresh (open_at s id h.opened))

pub bytes_sent : (r : Reading) (id : ℕ) (piece : List ℕ) (last : Bool) → r.state.fault ≡ None → bytes_on id (all_emitted r (Sends id piece last ∷ [])) ≡ written r.state id piece
bytes_sent r id piece last calm =
    let here = eq-eqb id id refl in
    all_carried r id (Sends id piece last ∷ []) ∙ rw (here, calm) (append-nil (written r.state id piece))

pub outs_calm : (o : Option ConnFault) (id : ℕ) (s : Session) (piece : List ℕ) (last : Bool) → o ≡ None → is_ended id (outs_unless o (send_frames s id piece last)) ≡ is_ended id (send_frames s id piece last)
outs_calm None id s piece last calm = refl
outs_calm (Some e) id s piece last calm = absurd cc

pub over_sent : (r : Reading) (id : ℕ) (piece : List ℕ) (last : Bool) → r.state.fault ≡ None → is_ended id (all_emitted r (Sends id piece last ∷ [])) ≡ true → ((stream_at r.state id).server_reset ≡ false) × (ends r.state id (length piece) last ≡ true)
over_sent r id piece last calm over =
    let s = r.state in
    over_frames (stream_at s id).server_reset (nat_lt 0 (allowed s id (length piece))) (ends s id (length piece) last) id (take (allowed s id (length piece)) piece)
    (sym (outs_calm r.state.fault id s piece last calm) ∙ (ap (is_ended id) (sym (append-nil (emitted r (Sends id piece last)))) ∙ over))

pub pushes_sent : (old new : Reading) (id : ℕ) (piece : List ℕ) (last : Bool) (n : ℕ) (before now : RequestOf) → old.state.fault ≡ None → AnswersAt old.state.fault old.state (sent old.state id piece last) (allowed old.state id (length piece)) new.state (Ok n) → new.rest ≡ old.rest → IsHeld old.state id false → before.left ≡ piece → before.last ≡ last → now.left ≡ drop n piece → now.last ≡ last → Pushes old new id before now
unfolding sent_moves
pushes_sent old new id piece last n before now calm d rest held left last_is cut still =
    let s = old.state in
    let a : AnswersAt None s (sent s id piece last) (allowed s id (length piece)) new.state (Ok n) = subst (λ (o : Option ConnFault). AnswersAt o s (sent s id piece last) (allowed s id (length piece)) new.state (Ok n)) calm d in
    let is = sent_moves None old new id piece last (allowed s id (length piece)) n calm refl a rest (λ _. held) in
    let bytes = bytes_sent old id piece last calm in
    record {
      moves = is.moves;
      left = λ going. left ∙ (bytes_taken (stream_at s id).server_reset n (allowed s id (length piece)) piece a.1 going ∙ rw (bytes, cut) refl);
      none = λ gone. bytes ∙ ap (λ (b : Bool). take (cond b 0 (allowed s id (length piece))) piece) gone;
      over = λ ended.
          let both = over_sent old id piece last calm ended in
          let two = and_true last (nat_eq (allowed s id (length piece)) (length piece)) both.1 in
          let all : n ≡ length piece = a.1 ∙ eqb-true _ _ two.1 in
          (both.0, (last_is ∙ two.0, cut ∙ (ap (λ (k : ℕ). drop k piece) all ∙ drop-length piece)));
      gone = λ gone. ap (λ (x : Session). (stream_at x id).server_reset) a.0 ∙ (sent_gone s id piece last held ∙ gone);
      last = still ∙ sym last_is;
    }

pub pushes_none : (old : Reading) (id : ℕ) (request : RequestOf) → Pushes old old id request request
unfolding moves_none
pushes_none old id request = record {
  moves = moves_none old;
  left = λ _. refl;
  none = λ _. refl;
  over = λ e. absurd cc;
  gone = λ g. g;
  last = refl;
}

-- what is left then
pub unsent_cut : (gone : Bool) (bytes unsent left now rest : List ℕ) → (gone ≡ true → bytes ≡ []) → (gone ≡ false → left ≡ bytes ++ now) → (gone ≡ false → unsent ≡ left ++ rest) → bytes ++ cond gone unsent (now ++ rest) ≡ unsent
unsent_cut true bytes unsent left now rest none cut is = ap (λ (x : List ℕ). x ++ unsent) (none refl)
unsent_cut false bytes unsent left now rest none cut is = sym (append_assoc bytes now rest) ∙ (ap (λ (x : List ℕ). x ++ rest) (sym (cut refl)) ∙ sym (is refl))

pub unsent_over : (gone : Bool) (unsent now : List ℕ) (coming : List (List ℕ)) → gone ≡ false → now ≡ [] → coming ≡ [] → cond gone unsent (now ++ framed coming) ≡ []
unsent_over gone unsent now coming going none last = rw (going, none, last) refl

pub unsent_rest : (gone still : Bool) (unsent rest : List ℕ) → (gone ≡ true → still ≡ true) → still ≡ false → cond gone unsent rest ≡ rest
unsent_rest true still unsent rest stays going = let bad : true ≡ false = sym (stays refl) ∙ going in absurd cc
unsent_rest false still unsent rest stays going = refl

pub asking_pushed : (w : Option Wire) (r : List ℕ → List ℕ → Type 0) (c d : Reading) (o : OpenCall) (now : RequestOf) (coming : List (List ℕ)) (fields : List Field) (messages given : List (List ℕ)) → IsAsking w r c o coming fields messages given → Pushes c d o.call.id o.request now → IsAsking w r d (record o { request = now }) coming fields messages given
unfolding hears_moved talk_moved moves_trans
asking_pushed w r c d o now coming fields messages given a p =
    let id = o.call.id in
    let gone = (stream_at c.state id).server_reset in
    record {
      hears = hears_moved w r c d o.call a.hears p.moves;
      given_is = a.given_is;
      unsent = cond gone a.unsent (now.left ++ framed coming);
      asks =
          asks_on a.hears.talk.moves.calls p.moves.calls c id fields messages a.unsent (cond gone a.unsent (now.left ++ framed coming)) a.hears.talk.moves.run_is a.asks
          (unsent_cut gone (bytes_on id (all_emitted c p.moves.calls)) a.unsent o.request.left now.left (framed coming) p.none p.left a.rest)
          (λ over. let is = p.over over in unsent_over gone a.unsent now.left coming is.0 is.1.1 (a.last is.1.0));
      rest = unsent_rest gone (stream_at d.state id).server_reset a.unsent (now.left ++ framed coming) p.gone;
      last = λ last. a.last (sym p.last ∙ last);
    }

-- ---- and the rest of a turn

pub was_going : (before now : Bool) → (before ≡ true → now ≡ true) → now ≡ false → before ≡ false
was_going true now stays going = let bad : true ≡ false = sym (stays refl) ∙ going in absurd cc
was_going false now stays going = refl

pub asking_exchange : (w n : Option Wire) (r m : List ℕ → List ℕ → Type 0) (c d : Reading) (room left : ℕ) (o : OpenCall) (coming : List (List ℕ)) (fields : List Field) (messages given : List (List ℕ)) → IsAsking w r c o coming fields messages given → Exchange w n c d room left → Meets n m → IsAsking n m d o coming fields messages given
unfolding hears_exchange talk_on moves_trans
asking_exchange w n r m c d room left o coming fields messages given a x meets =
    let q = quiet_run x.moves.calls c o.call.id x.quiet in
    record {
      hears = hears_exchange w n r m c d room left o.call a.hears x meets;
      given_is = a.given_is;
      unsent = a.unsent;
      asks = asks_quiet a.hears.talk.moves.calls x.moves.calls c o.call.id fields messages a.unsent a.hears.talk.moves.run_is x.quiet a.asks;
      rest = λ going. a.rest (was_going _ _ q.gone (ap (λ (y : Reading). (stream_at y.state o.call.id).server_reset) x.moves.run_is ∙ going));
      last = a.last;
    }

pub asking_drained : (w : Option Wire) (r : List ℕ → List ℕ → Type 0) (c d : Reading) (o n : OpenCall) (coming : List (List ℕ)) (fields : List Field) (messages given : List (List ℕ)) → IsAsking w r c o coming fields messages given → Drains c d o.call n.call → n.request ≡ o.request → IsAsking w r d n coming fields messages given
unfolding hears_drained talk_moved moves_trans
asking_drained w r c d o n coming fields messages given a x request =
    let q = quiet_run x.moves.calls c o.call.id x.quiet in
    let same = sym x.id in
    record {
      hears = hears_drained w r c d o.call n.call a.hears x;
      given_is = a.given_is;
      unsent = a.unsent;
      asks =
          subst (λ (i : ℕ). Asks (a.hears.talk.moves.calls ++ x.moves.calls) i fields messages a.unsent) same
          (asks_quiet a.hears.talk.moves.calls x.moves.calls c o.call.id fields messages a.unsent a.hears.talk.moves.run_is x.quiet a.asks);
      rest = λ going.
          a.rest (was_going _ _ q.gone (ap (λ (y : Reading). (stream_at y.state o.call.id).server_reset) x.moves.run_is ∙ (ap (λ (i : ℕ). (stream_at d.state i).server_reset) same ∙ going)))
          ∙ ap (λ (y : RequestOf). y.left ++ framed coming) (sym request);
      last = λ last. a.last (ap (λ (y : RequestOf). y.last) (sym request) ∙ last);
    }

-- the next message of the body is taken, or its end
pub asking_refilled : (w : Option Wire) (r : List ℕ → List ℕ → Type 0) (c : Reading) (o : OpenCall) (now : RequestOf) (coming left : List (List ℕ)) (fields : List Field) (messages given : List (List ℕ)) → IsAsking w r c o coming fields messages given → o.request.left ≡ [] → IsToSend now left coming → IsAsking w r c (record o { request = now }) left fields messages given
asking_refilled w r c o now coming left fields messages given a empty send = record {
  hears = a.hears;
  given_is = a.given_is;
  unsent = a.unsent;
  asks = a.asks;
  rest = λ going. a.rest going ∙ (ap (λ (x : List ℕ). x ++ framed coming) empty ∙ sym send.rest);
  last = send.last;
}

-- ---- the call is as it was

pub asking_as : (w : Option Wire) (r : List ℕ → List ℕ → Type 0) (c : Reading) (o n : OpenCall) (coming : List (List ℕ)) (fields : List Field) (messages given : List (List ℕ)) (now : List (List ℕ)) (a : IsAsking w r c o coming fields messages given) (h : CallHears w r c n.call) → h.talk.moves.calls ≡ a.hears.talk.moves.calls → h.given ≡ now → n.call.id ≡ o.call.id → n.request ≡ o.request → IsAsking w r c n coming fields messages now
asking_as w r c o n coming fields messages given now a h calls given_is same request =
    let id = sym same in
    record {
      hears = h;
      given_is = given_is;
      unsent = a.unsent;
      asks = subst (λ (i : ℕ). Asks h.talk.moves.calls i fields messages a.unsent) id (rw calls a.asks);
      rest = λ going. a.rest (ap (λ (i : ℕ). (stream_at c.state i).server_reset) id ∙ going) ∙ ap (λ (y : RequestOf). y.left ++ framed coming) (sym request);
      last = λ last. a.last (ap (λ (y : RequestOf). y.last) (sym request) ∙ last);
    }

pub asking_like : (w : Option Wire) (r : List ℕ → List ℕ → Type 0) (c : Reading) (o n : OpenCall) (coming : List (List ℕ)) (fields : List Field) (messages given : List (List ℕ)) → IsAsking w r c o coming fields messages given → IsLike o n → IsAsking w r c n coming fields messages given
unfolding hears_like
asking_like w r c o n coming fields messages given a like = asking_as w r c o n coming fields messages given given a (hears_like w r c o n a.hears like) refl a.given_is like.id like.request

-- ---- whole turns

pub asking_given :
    (w0 w1 : Option Wire) (r0 r1 : List ℕ → List ℕ → Type 0) (c0 c1 c2 : Reading) (o : OpenCall) (now : RequestOf)
    → Pushes c0 c1 o.call.id o.request now → Exchange w0 w1 c1 c2 0 0 → Meets w1 r1
    → (coming : List (List ℕ)) → StillAsks w0 w1 r0 r1 c0 c2 o (record o { request = now }) coming coming
asking_given w0 w1 r0 r1 c0 c1 c2 o now p x meets coming fields messages given a =
    asking_exchange w0 w1 r0 r1 c1 c2 0 0 (record o { request = now }) coming fields messages given (asking_pushed w0 r0 c0 c1 o now coming fields messages given a p) x meets

pub asking_heard :
    (w1 w2 : Option Wire) (r1 r2 : List ℕ → List ℕ → Type 0) (c2 c3 c4 : Reading) (o n : OpenCall) (room left : ℕ)
    → Exchange w1 w2 c2 c3 room left → Meets w2 r2 → Drains c3 c4 o.call n.call → n.request ≡ o.request
    → (coming : List (List ℕ)) → StillAsks w1 w2 r1 r2 c2 c4 o n coming coming
asking_heard w1 w2 r1 r2 c2 c3 c4 o n room left x meets d request coming fields messages given a =
    asking_drained w2 r2 c3 c4 o n coming fields messages given (asking_exchange w1 w2 r1 r2 c2 c3 room left o coming fields messages given a x meets) d request

pub asking_none : (w : Option Wire) (r : List ℕ → List ℕ → Type 0) (c : Reading) (o : OpenCall) (coming : List (List ℕ)) → StillAsks w w r r c c o o coming coming
asking_none w r c o coming fields messages given a = a

pub asking_trans : (w0 w1 w2 : Option Wire) (r0 r1 r2 : List ℕ → List ℕ → Type 0) (c0 c1 c2 : Reading) (a b c : OpenCall) (x y z : List (List ℕ)) → StillAsks w0 w1 r0 r1 c0 c1 a b x y → StillAsks w1 w2 r1 r2 c1 c2 b c y z → StillAsks w0 w2 r0 r2 c0 c2 a c x z
asking_trans w0 w1 w2 r0 r1 r2 c0 c1 c2 a b c x y z p q fields messages given h = q fields messages given (p fields messages given h)

-- an answer is shown
pub asking_over : {A : Type 0} (look view : Bool → Heard → Option A) (w : Option Wire) (r : List ℕ → List ℕ → Type 0) (ended : Bool) (conn : Reading) (o : OpenCall) (x : A) (coming : List (List ℕ)) (fields : List Field) (messages given : List (List ℕ)) → IsLook look view o.call.place → IsOpen w r ended conn o → IsAsking w r conn o coming fields messages given → view (is_end o.came) o.call.answers ≡ Some x → IsAnswered look w r ended conn o.call.id fields messages given x
unfolding shows_by
asking_over look view w r ended conn o x coming fields messages given l t a shows =
    let at : IsHeardAt w r conn o.call = record {
      hears = a.hears;
      opened = t.held.opened;
      kept = t.held.kept;
      empty = t.empty;
      memory = came_no_want o.came false ended conn t.came;
    } in
    record {
      talk = a.hears.talk;
      shows = (shows_by look view w r conn o.call ended (is_end o.came) x l at (came_end o.came false ended conn t.came) shows).whole;
      front = subst (λ (x : List (List ℕ)). Extends x (heard nothing (events_at o.call.id a.hears.talk.received)).messages) a.given_is (heard_given w r conn o.call at);
      call = is_call w r conn a.hears.talk o.call.id fields messages a.unsent a.asks;
    }

-- the same for a call that nothing was handed out of
pub concludes_like : {T : Type 0} (w0 w : Option Wire) (r0 r : List ℕ → List ℕ → Type 0) (ended : Bool) (start conn : Reading) (o n : OpenCall) (coming : List (List ℕ)) (look : ℕ → Bool → Heard → Option T) (result : Result T TransferFault) → IsLike o n → IfOk result (Concludes (look n.call.place) w0 w r0 r ended start conn n coming) → IfOk result (Concludes (look o.call.place) w0 w r0 r ended start conn o coming)
concludes_like w0 w r0 r ended start conn o n coming look (Err fault) like h = tt
concludes_like w0 w r0 r ended start conn o n coming look (Ok x) like h = λ fields messages given a.
    let here : IsAnswered (look n.call.place) w r ended conn n.call.id fields messages given x = h fields messages given (asking_like w0 r0 start o n coming fields messages given a like) in
    subst (λ (i : ℕ). IsAnswered (look o.call.place) w r ended conn i fields messages given x) like.id (subst (λ (p : ℕ). IsAnswered (look p) w r ended conn n.call.id fields messages given x) like.place here)

pub handing_like : (w0 w : Option Wire) (r0 r : List ℕ → List ℕ → Type 0) (start conn : Reading) (o n now : OpenCall) (result : Result StreamItem TransferFault) → IsLike o n → IfOk result (Handing w0 w r0 r start conn n now) → IfOk result (Handing w0 w r0 r start conn o now)
handing_like w0 w r0 r start conn o n now (Err fault) like h = tt
handing_like w0 w r0 r start conn o n now (Ok x) like h = λ fields messages given a. h fields messages given (asking_like w0 r0 start o n [] fields messages given a like)
