-- Turns of a call, one after another.
use Rattle.std.proofs.Common.{◌≡◌, ◌≤◌, ℕ, Bool, true, false, List, [], ◌++◌, refl, sym, ap, subst, ◌∙◌, arith, inl, length-append, Option, None, Some, Result, Ok, Err, IfOk, IfErr, OnOk}
use Rattle.rx_h2conn.specs.Session.{Reading}
use Rattle.rx_world.specs.Links.{Wire, SameRule}
use Rattle.rx_grpc.specs.declared.came.Came.{Came}
use Rattle.rx_grpc.specs.declared.came.Came.TheVariants.{End, Piece, Broken}
use Rattle.rx_grpc.specs.declared.open_call.OpenCall.{OpenCall}
use Rattle.rx_grpc.specs.declared.transfer_fault.TransferFault.{TransferFault}
use Rattle.rx_grpc.specs.declared.transfer_fault.TransferFault.TheVariants.{Link, Protocol, NoMemory}
use Rattle.rx_grpc.specs.Came.{judged, is_end, is_piece}
use Rattle.rx_grpc.specs.Heard.{Heard}
use Rattle.rx_grpc.specs.Moves.{Carries}
use Rattle.rx_grpc.specs.Conversation.{IsOpen, alive_of}
use Rattle.rx_grpc.specs.Faults.{FaultIs}
use Rattle.rx_grpc.specs.Sent.{Concludes, IsAnswered, StillAsks}
use Rattle.rx_grpc.specs.Shown.{Breaks, Fills, IsOver}
use Rattle.rx_grpc.proofs.WireLemmas.{goes_none, goes_trans}
use Rattle.rx_grpc.proofs.MoveLemmas.{moves_none, moves_trans}
use Rattle.rx_grpc.proofs.ShownLemmas.{fills_by}
use Rattle.rx_grpc.proofs.ItemLemmas.{IsLook}
use Rattle.rx_grpc.proofs.AskingLemmas.{asking_like, asking_none, asking_over, asking_trans}
use Rattle.rx_grpc.proofs.TurnLemmas.{IsLike, open_like, came_piece, open_at, open_breaks, open_over}

pub carries_none : (w : Option Wire) (c : Reading) (room : ℕ) → Carries w w c c room room
carries_none w c room = record { given = []; fed = []; handed = []; moves = moves_none c; carries = goes_none w; count = omega arith }

pub carries_trans : (a b c : Option Wire) (x y z : Reading) (room mid left : ℕ) → Carries a b x y room mid → Carries b c y z mid left → Carries a c x z room left
carries_trans a b c x y z room mid left p q = record {
  given = p.given ++ q.given;
  fed = p.fed ++ q.fed;
  handed = p.handed ++ q.handed;
  moves = moves_trans x y z p.given p.fed q.given q.fed p.handed q.handed p.moves q.moves;
  carries = goes_trans a b c p.given p.fed q.given q.fed p.carries q.carries;
  count = let sum = length-append p.fed q.fed in omega (arith, sum, p.count, q.count);
}

pub carries_done : {T E : Type 0} (w n : Option Wire) (c d : Reading) (room left : ℕ) (result : Result T E) → Carries w n c d room left → OnOk result (Carries w n c d room left)
carries_done w n c d room left (Ok x) carries = carries
carries_done w n c d room left (Err e) carries = tt

-- what is kept from turn to turn: view shows nothing yet
pub record IsTalking {A : Type 0} (view : Bool → Heard → Option A) (w0 w : Option Wire) (r0 r : List ℕ → List ℕ → Type 0) (ended : Bool) (start conn : Reading) (first o : OpenCall) (k0 k : ℕ) (x0 x : List (List ℕ)) : Type 0 where
  pub waits : IsOpen w r ended conn o
  pub piece : is_piece o.came ≡ true
  pub none : view false o.call.answers ≡ None
  pub carries : Carries w0 w start conn first.room o.room
  pub same : o.call.id ≡ first.call.id
  pub place_is : o.call.place ≡ first.call.place
  pub rule : SameRule r0 r
  pub later : k0 ≤ k
  pub asks : StillAsks w0 w r0 r start conn first o x0 x

pub talking_starts : {A : Type 0} (view : Bool → Heard → Option A) (w : Option Wire) (r : List ℕ → List ℕ → Type 0) (ended : Bool) (conn : Reading) (o : OpenCall) (k : ℕ) (x : List (List ℕ)) → IsOpen w r ended conn o → is_piece o.came ≡ true → view false o.call.answers ≡ None → IsTalking view w w r r ended conn conn o o k k x x
talking_starts view w r ended conn o k x waits piece none = record {
  waits = waits;
  piece = piece;
  none = none;
  carries = carries_none w conn o.room;
  same = refl;
  place_is = refl;
  rule = λ s t. ((λ x. x), (λ x. x));
  later = omega arith;
  asks = asking_none w r conn o x;
}

-- nothing was shown, and no rule was broken: more may come
pub judged_on : {A : Type 0} (view : Bool → Heard → Option A) (h : Heard) (came : Came) (o : Option A) → (view true h ≡ None → ⊥) → o ≡ view (is_end came) h → judged o came ≡ None → (is_piece came ≡ true) × (view false h ≡ None)
judged_on view h came (Some x) total is j = absurd cc
judged_on view h End None total is j = absurd (total (sym is))
judged_on view h Piece None total is j = (refl, sym is)
judged_on view h (Broken code) None total is j = absurd cc

pub judged_none : {A : Type 0} (o : Option A) (came : Came) → judged o came ≡ None → o ≡ None
judged_none (Some x) came j = absurd cc
judged_none None came j = refl

pub judged_some : {A : Type 0} (o : Option A) (came : Came) (x : A) → judged o came ≡ Some (Ok x) → o ≡ Some x
judged_some (Some y) came x j = cc
judged_some None End x j = absurd cc
judged_some None Piece x j = absurd cc
judged_some None (Broken code) x j = absurd cc

pub talking_goes_on : {A : Type 0} (view : Bool → Heard → Option A) (w0 w n : Option Wire) (r0 r m : List ℕ → List ℕ → Type 0) (ended still : Bool) (start conn next : Reading) (first o now : OpenCall) (k0 k j : ℕ) (x0 x y : List (List ℕ)) → IsTalking view w0 w r0 r ended start conn first o k0 k x0 x → IsOpen n m still next now → is_piece now.came ≡ true → view false now.call.answers ≡ None → Carries w n conn next o.room now.room → now.call.id ≡ o.call.id → now.call.place ≡ o.call.place → SameRule r m → k ≤ j → StillAsks w n r m conn next o now x y → IsTalking view w0 n r0 m still start next first now k0 j x0 y
talking_goes_on view w0 w n r0 r m ended still start conn next first o now k0 k j x0 x y t waits piece none moved same place rule later asks = record {
  waits = waits;
  piece = piece;
  none = none;
  carries = carries_trans w0 w n start conn next first.room o.room now.room t.carries moved;
  same = same ∙ t.same;
  place_is = place ∙ t.place_is;
  rule = λ s y. ((λ p. (rule s y).0 ((t.rule s y).0 p)), (λ p. (t.rule s y).1 ((rule s y).1 p)));
  later = omega (arith, t.later, later);
  asks = asking_trans w0 w n r0 r m start conn next first o now x0 x y t.asks asks;
}

-- the same with a reader that handed nothing out
pub talking_judged : {A : Type 0} (look view : Bool → Heard → Option A) (place : ℕ) (w0 w n : Option Wire) (r0 r m : List ℕ → List ℕ → Type 0) (ended still : Bool) (start conn next : Reading) (first o mid now : OpenCall) (shown : Option A) (k0 k j : ℕ) (x0 x y : List (List ℕ)) → IsLook look view place → IsTalking view w0 w r0 r ended start conn first o k0 k x0 x → IsOpen n m still next mid → shown ≡ view (is_end mid.came) mid.call.answers → judged shown mid.came ≡ None → (shown ≡ None → IsLike mid now) → Carries w n conn next o.room mid.room → mid.call.id ≡ o.call.id → mid.call.place ≡ o.call.place → SameRule r m → k ≤ j → StillAsks w n r m conn next o mid x y → IsTalking view w0 n r0 m still start next first now k0 j x0 y
talking_judged look view place w0 w n r0 r m ended still start conn next first o mid now shown k0 k j x0 x y l t waits is none alike moved same place_is rule later asks =
    let on = judged_on view mid.call.answers mid.came shown (l.total mid.call.answers) is none in
    let like = alike (judged_none shown mid.came none) in
    talking_goes_on view w0 w n r0 r m ended still start conn next first o now k0 k j x0 x y t (open_like n m still next mid now waits like) (ap is_piece like.came ∙ on.0) (ap (view false) like.answers ∙ on.1) (subst (λ (k : ℕ). Carries w n conn next o.room k) (sym like.room) moved) (like.id ∙ same) (like.place ∙ place_is) rule later (λ fields messages given a. asking_like n m next mid now y fields messages given (asks fields messages given a) like)

-- an answer is shown
pub judged_over : {A : Type 0} (look view : Bool → Heard → Option A) (place : ℕ) (w : Option Wire) (r : List ℕ → List ℕ → Type 0) (ended : Bool) (conn : Reading) (o : OpenCall) (shown : Option A) (done : Result A TransferFault) (id : ℕ) → IsLook look view place → IsOpen w r ended conn o → o.call.place ≡ place → o.call.id ≡ id → shown ≡ view (is_end o.came) o.call.answers → judged shown o.came ≡ Some done → IfOk done (IsOver look w r ended conn id (alive_of o))
judged_over look view place w r ended conn o shown (Err fault) id l t at same is j = tt
judged_over look view place w r ended conn o shown (Ok x) id l t at same is j =
    let over = open_over look view w r ended conn o x (subst (λ (n : ℕ). IsLook look view n) (sym at) l) t (sym is ∙ judged_some shown o.came x j) in
    subst (λ (i : ℕ). IsOver look w r ended conn i (alive_of o) x) same over

-- so the link carried the call with it
pub judged_concludes : {A : Type 0} (look view : Bool → Heard → Option A) (place : ℕ) (w0 w : Option Wire) (r0 r : List ℕ → List ℕ → Type 0) (ended : Bool) (start conn : Reading) (first o : OpenCall) (shown : Option A) (done : Result A TransferFault) (x0 x : List (List ℕ)) → IsLook look view place → IsOpen w r ended conn o → o.call.place ≡ place → o.call.id ≡ first.call.id → shown ≡ view (is_end o.came) o.call.answers → judged shown o.came ≡ Some done → StillAsks w0 w r0 r start conn first o x0 x → IfOk done (Concludes look w0 w r0 r ended start conn first x0)
judged_concludes look view place w0 w r0 r ended start conn first o shown (Err fault) x0 x l t at same is j asks = tt
judged_concludes look view place w0 w r0 r ended start conn first o shown (Ok answer) x0 x l t at same is j asks = λ fields messages given a.
    subst (λ (i : ℕ). IsAnswered look w r ended conn i fields messages given answer) same
    (asking_over look view w r ended conn o answer x fields messages given (subst (λ (n : ℕ). IsLook look view n) (sym at) l) t (asks fields messages given a) (sym is ∙ judged_some shown o.came answer j))

-- or a rule was broken
pub breaks_first : {A : Type 0} (look view : Bool → Heard → Option A) (w : Option Wire) (r : List ℕ → List ℕ → Type 0) (ended : Bool) (conn : Reading) (o : OpenCall) (shown : Option A) (code : ℕ) (came : Came) → IsLook look view o.call.place → IsOpen w r ended conn o → o.came ≡ came → shown ≡ view (is_end o.came) o.call.answers → judged shown came ≡ Some (Err (Protocol code)) → Breaks look w r conn o.call.id code
breaks_first look view w r ended conn o (Some x) code came l t came_is is j = absurd cc
breaks_first look view w r ended conn o None code End l t came_is is j = absurd cc
breaks_first look view w r ended conn o None code Piece l t came_is is j = absurd cc
breaks_first look view w r ended conn o None code (Broken n) l t came_is is j =
    let code_is : n ≡ code = cc in
    open_breaks look view w r ended conn o code l t (came_is ∙ ap (λ (k : ℕ). Broken k) code_is) (sym is)

pub judged_breaks : {A : Type 0} (look view : Bool → Heard → Option A) (place room : ℕ) (w0 w : Option Wire) (r : List ℕ → List ℕ → Type 0) (ended : Bool) (conn : Reading) (o : OpenCall) (shown : Option A) (done : Result A TransferFault) (id : ℕ) → IsLook look view place → IsOpen w r ended conn o → o.call.place ≡ place → o.call.id ≡ id → shown ≡ view (is_end o.came) o.call.answers → judged shown o.came ≡ Some done → IfErr done (λ fault. FaultIs look room fault w0 w r conn id)
judged_breaks look view place room w0 w r ended conn o shown (Ok x) id l t at same is j = tt
judged_breaks look view place room w0 w r ended conn o shown (Err Link) id l t at same is j = tt
judged_breaks look view place room w0 w r ended conn o shown (Err NoMemory) id l t at same is j = tt
judged_breaks look view place room w0 w r ended conn o shown (Err (Protocol code)) id l t at same is j =
    let breaks = breaks_first look view w r ended conn o shown code o.came (subst (λ (n : ℕ). IsLook look view n) (sym at) l) t refl is j in
    inl (subst (λ (i : ℕ). Breaks look w r conn i code) same breaks)

-- no room is left
pub talking_fills : {A : Type 0} (look view : Bool → Heard → Option A) (place : ℕ) (w0 w : Option Wire) (r0 r : List ℕ → List ℕ → Type 0) (ended : Bool) (start conn : Reading) (first o : OpenCall) (k0 k : ℕ) (x0 x : List (List ℕ)) → IsLook look view place → first.call.place ≡ place → IsTalking view w0 w r0 r ended start conn first o k0 k x0 x → o.room ≡ 0 → Fills look first.room w0 w r conn first.call.id
talking_fills look view place w0 w r0 r ended start conn first o k0 k x0 x l at t none =
    let waits = t.waits in
    let filled = fills_by look view w0 w r start conn o.call first.room (subst (λ (n : ℕ). IsLook look view n) (sym (t.place_is ∙ at)) l) (open_at w r ended conn o waits) (came_piece o.came false ended conn t.piece waits.came).1 (subst (λ (n : ℕ). Carries w0 w start conn first.room n) none t.carries) t.none in
    subst (λ (i : ℕ). Fills look first.room w0 w r conn i) t.same filled
