-- Connections that were used one after the other, and what each call tells of them.
use Rattle.std.proofs.Common.{◌≡◌, ◌≢◌, ℕ, ◌+◌, List, [], ◌∷◌, ◌++◌, Option, Some, None, Result, Ok, Err, refl, sym, ap, ◌∙◌, arith, append_assoc, append-nil, replicate, suc, zero, zero-add, suc-add}
use Rattle.std.proofs.lemmas.List.{map-append}
use Rattle.rx_client.specs.StillTold.{StillTold}
use Rattle.rx_world.specs.declared.streams.Sink as sink_of
use Rattle.rx_world.specs.declared.streams.Source as source_of
use Rattle.rx_wrap.specs.declared.addresses.Address.{Address}
use Rattle.rx_wrap.specs.declared.asked.Asked.{Asked}
use Rattle.rx_wrap.specs.declared.asked.Errand.{Errand}
use Rattle.rx_client.specs.declared.heard.Heard.{Heard}
use Rattle.rx_client.specs.declared.heard.Heard.TheVariants.{Reply as a_reply, InPlace, ShutDown}
use Rattle.rx_client.specs.declared.talk_fault.TalkFault.{TalkFault}
use Rattle.rx_client.specs.declared.talk_fault.TalkFault.TheVariants.{BadReply, Conversation, NoMemory}
use Rattle.rx_client.specs.Connections.{AreUntouched, Connections, Touches, Used, Uses, afters, befores}
use Rattle.rx_client.specs.Conversing.{Converses, ConversesOnce, HasCalls, Talks, TalksBy, TalksOnce}
use Rattle.rx_client.specs.Said.{said}

-- ---- what is told, and told on

pub told_then : {A : Type 0} (P Q R : A → A → Type 0) (a b c : Option A) → ((x y z : A) → P x y → Q y z → R x z) → StillTold a b P → StillTold b c Q → StillTold a c R
told_then P Q R a b None step p q = tt
told_then P Q R a None (Some z) step p q = absurd q
told_then P Q R None (Some y) (Some z) step p q = absurd p
told_then P Q R (Some x) (Some y) (Some z) step p q = step x y z p q

pub told_so : {A : Type 0} (P Q : A → A → Type 0) (a b : Option A) → ((x y : A) → P x y → Q x y) → StillTold a b P → StillTold a b Q
told_so P Q a None step p = tt
told_so P Q None (Some y) step p = absurd p
told_so P Q (Some x) (Some y) step p = step x y p

pub told_same : {A : Type 0} (a : Option A) → StillTold a a (λ x y. y ≡ x)
told_same None = tt
told_same (Some x) = refl

-- ---- a call that gave no connection, and one whose connection came back

pub uses_called : {I O : Type 0} (old new : Connections I O) (address : Address) → StillTold old.coming new.coming (λ x y. x ≡ y) → StillTold old.back new.back (λ x y. y ≡ x)
    → StillTold old.called new.called (λ x y. y ≡ x ++ address ∷ []) → Uses old new address 1 []
uses_called old new address coming back called = record {
  given = told_so (λ x y. x ≡ y) (λ x y. x ≡ [] ++ y) old.coming new.coming (λ x y e. e) coming;
  handed_back = told_so (λ x y. y ≡ x) (λ x y. y ≡ x ++ []) old.back new.back (λ x y e. e ∙ sym (append-nil x)) back;
  called = told_so (λ x y. y ≡ x ++ address ∷ []) (λ x y. y ≡ x ++ replicate 1 address) old.called new.called (λ x y e. e) called;
}

pub uses_nothing : {I O : Type 0} (c : Connections I O) (address : Address) → Uses c c address 0 []
uses_nothing c address = record {
  given = told_so (λ x y. y ≡ x) (λ x y. x ≡ [] ++ y) c.coming c.coming (λ x y e. sym e) (told_same c.coming);
  handed_back = told_so (λ x y. y ≡ x) (λ x y. y ≡ x ++ []) c.back c.back (λ x y e. e ∙ sym (append-nil x)) (told_same c.back);
  called = told_so (λ x y. y ≡ x) (λ x y. y ≡ x ++ replicate 0 address) c.called c.called (λ x y e. e ∙ sym (append-nil x)) (told_same c.called);
}

pub uses_one : {I O : Type 0} (old mid new : Connections I O) (address : Address) (before after : I × O)
    → StillTold old.coming mid.coming (λ x y. x ≡ before ∷ y) → StillTold old.back mid.back (λ x y. y ≡ x) → StillTold old.called mid.called (λ x y. y ≡ x ++ address ∷ [])
    → StillTold mid.coming new.coming (λ x y. x ≡ y) → StillTold mid.back new.back (λ x y. y ≡ x ++ after ∷ []) → StillTold mid.called new.called (λ x y. y ≡ x)
    → Uses old new address 1 (record { before = before; after = after } ∷ [])
uses_one {I} {O} old mid new address before after coming back called coming2 back2 called2 =
    let used : List (Used I O) = record { before = before; after = after } ∷ [] in
    record {
      given = told_then (λ x y. x ≡ before ∷ y) (λ x y. x ≡ y) (λ x y. x ≡ befores used ++ y) old.coming mid.coming new.coming
          (λ x y z p q. p ∙ ap (λ (rest : List (I × O)). before ∷ rest) q) coming coming2;
      handed_back = told_then (λ x y. y ≡ x) (λ x y. y ≡ x ++ after ∷ []) (λ x y. y ≡ x ++ afters used) old.back mid.back new.back
          (λ x y z p q. q ∙ ap (λ (s : List (I × O)). s ++ after ∷ []) p) back back2;
      called = told_then (λ x y. y ≡ x ++ address ∷ []) (λ x y. y ≡ x) (λ x y. y ≡ x ++ replicate 1 address) old.called mid.called new.called
          (λ x y z p q. q ∙ p) called called2;
    }

-- ---- two uses, one after the other

replicate_more : (m n : ℕ) (address : Address) → replicate m address ++ replicate n address ≡ replicate (m + n) address
replicate_more zero n address = rw (zero-add n) refl
replicate_more (suc m) n address = rw (suc-add m n) (ap (λ (s : List Address). address ∷ s) (replicate_more m n address))

pub uses_then : {I O : Type 0} (old mid new : Connections I O) (address : Address) (m n : ℕ) (first second : List (Used I O)) → Uses old mid address m first → Uses mid new address n second
    → Uses old new address (m + n) (first ++ second)
uses_then {I} {O} old mid new address m n first second p q = record {
  given = told_then (λ x y. x ≡ befores first ++ y) (λ x y. x ≡ befores second ++ y) (λ x y. x ≡ befores (first ++ second) ++ y) old.coming mid.coming new.coming
      (λ x y z e f. e ∙ ap (λ (s : List (I × O)). befores first ++ s) f ∙ sym (append_assoc (befores first) (befores second) z)
      ∙ ap (λ (s : List (I × O)). s ++ z) (sym (map-append (λ (u : Used I O). u.before) first second))) p.given q.given;
  handed_back = told_then (λ x y. y ≡ x ++ afters first) (λ x y. y ≡ x ++ afters second) (λ x y. y ≡ x ++ afters (first ++ second)) old.back mid.back new.back
      (λ x y z e f. f ∙ ap (λ (s : List (I × O)). s ++ afters second) e ∙ append_assoc x (afters first) (afters second)
      ∙ ap (λ (s : List (I × O)). x ++ s) (sym (map-append (λ (u : Used I O). u.after) first second))) p.handed_back q.handed_back;
  called = told_then (λ x y. y ≡ x ++ replicate m address) (λ x y. y ≡ x ++ replicate n address) (λ x y. y ≡ x ++ replicate (m + n) address) old.called mid.called new.called
      (λ x y z e f. f ∙ ap (λ (s : List Address). s ++ replicate n address) e ∙ append_assoc x (replicate m address) (replicate n address)
      ∙ ap (λ (s : List Address). x ++ s) (replicate_more m n address)) p.called q.called;
}

-- ---- conversations

pub once_unconnected : {I O : Type 0} (i : source_of.Ghosts I) (o : sink_of.Ghosts O) (old new : Connections I O) (asked : Asked)
    → StillTold old.coming new.coming (λ x y. x ≡ y) → StillTold old.back new.back (λ x y. y ≡ x) → StillTold old.called new.called (λ x y. y ≡ x ++ asked.address ∷ [])
    → ConversesOnce i o old new asked (Err Conversation)
once_unconnected i o old new asked coming back called = record {
  used = [];
  uses = uses_called old new asked.address coming back called;
  talks = tt;
}

pub once_connected : {I O : Type 0} (i : source_of.Ghosts I) (o : sink_of.Ghosts O) (old mid new : Connections I O) (asked : Asked) (before after : I × O) (result : Result Heard TalkFault)
    → StillTold old.coming mid.coming (λ x y. x ≡ before ∷ y) → StillTold old.back mid.back (λ x y. y ≡ x) → StillTold old.called mid.called (λ x y. y ≡ x ++ asked.address ∷ [])
    → StillTold mid.coming new.coming (λ x y. x ≡ y) → StillTold mid.back new.back (λ x y. y ≡ x ++ after ∷ []) → StillTold mid.called new.called (λ x y. y ≡ x)
    → Talks i asked.errand before.0 after.0 (said o before.1 after.1) result
    → ConversesOnce i o old new asked result
once_connected i o old mid new asked before after result coming back called coming2 back2 called2 talks = record {
  used = record { before = before; after = after } ∷ [];
  uses = uses_one old mid new asked.address before after coming back called coming2 back2 called2;
  talks = talks;
}

pub no_frame : {I O : Type 0} (i : source_of.Ghosts I) (o : sink_of.Ghosts O) (c : Connections I O) (asked : Asked) → Converses i o c c asked (Err NoMemory)
no_frame i o c asked = record { used = []; calls = 0; uses = uses_nothing c asked.address; talks = tt; often = omega arith }

talks_once : {I O : Type 0} (i : source_of.Ghosts I) (o : sink_of.Ghosts O) (errand : Errand) (result : Result Heard TalkFault) (used : List (Used I O))
    → TalksOnce i o errand result used → TalksBy i o errand result used
talks_once i o errand result [] h = h
talks_once i o errand result (first ∷ []) h = h
talks_once i o errand result (first ∷ second ∷ more) h = absurd h

has_once : (result : Result Heard TalkFault) → result ≢ Ok ShutDown → HasCalls result 1
has_once (Ok (a_reply reply)) other = refl
has_once (Ok (InPlace cause)) other = refl
has_once (Ok ShutDown) other = absurd (other refl)
has_once (Err BadReply) other = refl
has_once (Err Conversation) other = refl
has_once (Err NoMemory) other = omega arith

pub converses_once : {I O : Type 0} (i : source_of.Ghosts I) (o : sink_of.Ghosts O) (old new : Connections I O) (asked : Asked) (result : Result Heard TalkFault)
    → result ≢ Ok ShutDown → ConversesOnce i o old new asked result → Converses i o old new asked result
converses_once i o old new asked result other h = record {
  used = h.used;
  calls = 1;
  uses = h.uses;
  talks = talks_once i o asked.errand result h.used h.talks;
  often = has_once result other;
}

talks_touched : {I O : Type 0} (i : source_of.Ghosts I) (o : sink_of.Ghosts O) (errand : Errand) (first second : List (Used I O))
    → TalksOnce i o errand (Ok ShutDown) first → AreUntouched second → TalksBy i o errand (Ok ShutDown) (first ++ second)
talks_touched i o errand [] second h t = absurd h
talks_touched i o errand (first ∷ []) [] h t = h
talks_touched i o errand (first ∷ []) (second ∷ []) h t = (h, refl, t)
talks_touched i o errand (first ∷ []) (second ∷ third ∷ more) h t = absurd t
talks_touched i o errand (first ∷ other ∷ more) second h t = absurd h

pub converses_touched : {I O : Type 0} (i : source_of.Ghosts I) (o : sink_of.Ghosts O) (old mid new : Connections I O) (asked : Asked)
    → ConversesOnce i o old mid asked (Ok ShutDown) → Touches mid new asked.address → Converses i o old new asked (Ok ShutDown)
converses_touched i o old mid new asked h t = record {
  used = h.used ++ t.used;
  calls = 2;
  uses = uses_then old mid new asked.address 1 1 h.used t.used h.uses t.uses;
  talks = talks_touched i o asked.errand h.used t.used h.talks t.untouched;
  often = refl;
}

-- ---- a connection on which nothing is said

pub touch_unconnected : {I O : Type 0} (old new : Connections I O) (address : Address)
    → StillTold old.coming new.coming (λ x y. x ≡ y) → StillTold old.back new.back (λ x y. y ≡ x) → StillTold old.called new.called (λ x y. y ≡ x ++ address ∷ [])
    → Touches old new address
touch_unconnected old new address coming back called = record {
  used = [];
  uses = uses_called old new address coming back called;
  untouched = tt;
}

pub touch_connected : {I O : Type 0} (old mid new : Connections I O) (address : Address) (before : I × O)
    → StillTold old.coming mid.coming (λ x y. x ≡ before ∷ y) → StillTold old.back mid.back (λ x y. y ≡ x) → StillTold old.called mid.called (λ x y. y ≡ x ++ address ∷ [])
    → StillTold mid.coming new.coming (λ x y. x ≡ y) → StillTold mid.back new.back (λ x y. y ≡ x ++ before ∷ []) → StillTold mid.called new.called (λ x y. y ≡ x)
    → Touches old new address
touch_connected old mid new address before coming back called coming2 back2 called2 = record {
  used = record { before = before; after = before } ∷ [];
  uses = uses_one old mid new address before before coming back called coming2 back2 called2;
  untouched = refl;
}
