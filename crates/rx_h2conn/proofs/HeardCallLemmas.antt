-- The calls of the client leave what is told, and a fault stays.
use Rattle.std.proofs.Common.{◌≡◌, ℕ, ◌/◌, ◌%◌, ◌<◌, zero, suc, Bool, true, false, not, ◌&&◌, List, [], ◌∷◌, ◌++◌, length, get_or, set, map, append_assoc, append-nil, length-append, length-set, filter, refl, sym, ap, subst, ◌∙◌, nat_eq, nat_lt, arith, Option, None, Some}
use Rattle.std.proofs.lemmas.Bool.{eqb-true, eqb-false, lt-ltb, and_parts}
use Rattle.std.proofs.lemmas.List.{get_or-set_same, get_or-set_other, get_or_append_left}
use Rattle.rx_hpack.specs.Header.{Field}
use Rattle.rx_h2conn.specs.declared.fault.ConnFault.{ConnFault}
use Rattle.rx_h2conn.specs.declared.stream.Stream.{Stream}
use Rattle.rx_h2conn.specs.Session.{Session, Reading, Event, Queued}
use Rattle.rx_h2conn.specs.Streams.{fresh, is_open, stream_at}
use Rattle.rx_h2conn.specs.Data.{owe}
use Rattle.rx_h2conn.specs.Open.{refusal, opened}
use Rattle.rx_h2conn.specs.Output.{given_up, sent, reset, told, emptied}
use Rattle.rx_h2conn.specs.Steps.{unless_failed, broken, first, handed}
use Rattle.rx_h2conn.specs.History.{Call, Feeds, Starves, Hands, Takes, Opens, Sends, Resets, unless, after, run}
use Rattle.rx_h2conn.proofs.ListLemmas.{either}
use Rattle.rx_h2conn.proofs.SoundLemmas.{open_at}
use Rattle.rx_h2conn.proofs.ConnLemmas.{length_told, opened-fault, sent-fault, reset-fault}
use Rattle.rx_h2conn.proofs.PieceLemmas.{handed-fault}
use Rattle.rx_h2conn.proofs.LeftLemmas.{unless-fault}
use Rattle.rx_h2conn.proofs.FedLemmas.{fed_failed}
use Rattle.rx_h2conn.specs.Part.{is_on}
use Rattle.rx_h2conn.specs.Incoming.{Incoming}
use Rattle.rx_h2conn.specs.Heard.{events_of, as_list}
use Rattle.rx_h2conn.proofs.EventLemmas.{SameAt, same_told}
use Rattle.rx_h2conn.proofs.HearingLemmas.{Hearing, SameToServer, Quiet, quiet_same, quiet_set, hearing_quiet}

-- the calls of the client
pub server_told : (xs : List Stream) (k : ℕ) → SameToServer (get_or (map told xs) k fresh) (get_or xs k fresh)
server_told [] k = record { given_up = refl; over = refl }
server_told (x ∷ xs) zero = record { given_up = refl; over = refl }
server_told (x ∷ xs) (suc k) = server_told xs k

pub hearing_same : (h : List Event) (s x : Session) (t : Incoming) → Hearing h s t → Quiet s x → x.decoder ≡ s.decoder → x.sequence ≡ s.sequence → Hearing h x t
hearing_same h s x t hear q d e = hearing_quiet h s x t t hear q hear.going (hear.decoder ∙ sym d) (hear.sequence ∙ sym e) refl

pub hearing_emptied : (h : List Event) (s : Session) (t : Incoming) → Hearing h s t → Hearing h (emptied s) t
hearing_emptied h s t hear = hearing_same h s (emptied s) t hear (record { count = length_told s.streams; each = server_told s.streams; told = refl }) refl refl

pub hearing_owe : (h : List Event) (s : Session) (t : Incoming) (id credit : ℕ) → Hearing h s t → Hearing h (owe s id credit) t
unfolding owe
hearing_owe h s t id credit hear =
    either (λ (x : Session). Hearing h x t) (is_open s id && not (stream_at s id).client_reset) _ _
    (λ _. hearing_same h s _ t hear (quiet_set s _ (id / 2) _ refl (record { given_up = refl; over = refl }) refl) refl refl)
    (λ _. hearing_same h s _ t hear (quiet_same s _ refl refl) refl refl)

pub hearing_handed : (qs : List Queued) (h : List Event) (s : Session) (t : Incoming) → s.events ≡ qs → Hearing h s t → Hearing (h ++ as_list (first qs)) (handed s qs) t
hearing_handed [] h s t is hear = rw (append-nil h) hear
hearing_handed (q ∷ qs) h s t is hear =
    let again : (h ++ q.event ∷ []) ++ events_of qs ≡ h ++ events_of s.events = append_assoc h (q.event ∷ []) (events_of qs) ∙ ap (λ (x : List Queued). h ++ events_of x) (sym is) in
    let moved : Hearing (h ++ q.event ∷ []) (record s { events = qs }) t = record {
      going = hear.going;
      decoder = hear.decoder;
      sequence = hear.sequence;
      opened = λ id a b. same_told id _ (h ++ events_of s.events) _ _ again (hear.opened id a b);
      unopened = λ id a. same_told id _ (h ++ events_of s.events) _ _ again (hear.unopened id a);
      silent = λ id a. ap (filter (is_on id)) again ∙ hear.silent id a;
    } in
    hearing_owe (h ++ q.event ∷ []) (record s { events = qs }) t q.stream q.credit moved

pub hearing_sent : (h : List Event) (s : Session) (t : Incoming) (id : ℕ) (piece : List ℕ) (last : Bool) → Hearing h s t → Hearing h (sent s id piece last) t
unfolding sent
hearing_sent h s t id piece last hear = hearing_same h s _ t hear (quiet_set s _ (id / 2) _ refl (record { given_up = refl; over = refl }) refl) refl refl

-- what is given up has no part
pub other_kept : (xs : List Stream) (i k : ℕ) (y : Stream) → y.client_reset ≡ true → k < length (set xs i y) → (get_or (set xs i y) k fresh).client_reset ≡ false → get_or (set xs i y) k fresh ≡ get_or xs k fresh
other_kept xs i k y given small kept =
    elim (nat_eq k i) as (λ b. nat_eq k i ≡ b → get_or (set xs i y) k fresh ≡ get_or xs k fresh) [
      | true ↦ λ e.
          let same : k ≡ i = eqb-true k i e in
          let there : get_or (set xs i y) k fresh ≡ y = subst (λ (j : ℕ). get_or (set xs j y) k fresh ≡ y) same (get_or-set_same xs k y fresh (omega (arith, small, length-set xs i y))) in
          let no : true ≡ false = sym given ∙ (ap (λ (z : Stream). z.client_reset) (sym there) ∙ kept) in
          absurd cc
      | false ↦ λ e. get_or-set_other xs i k y fresh (eqb-false k i e)
    ] refl

pub hearing_given_up : (h : List Event) (s : Session) (t : Incoming) (i code : ℕ) → Hearing h s t → Hearing h (reset s i code) t
unfolding reset
hearing_given_up h s t i code hear =
    let y : Stream = given_up (stream_at s i) in
    let count = length-set s.streams (i / 2) y in
    record {
      going = hear.going;
      decoder = hear.decoder;
      sequence = hear.sequence;
      opened = λ id is kept.
          let was : is_open s id ≡ true = rw (sym count) is in
          let at = other_kept s.streams (i / 2) (id / 2) y refl (omega (arith, open_at s id was, count)) kept in
          rw at (hear.opened id was (ap (λ (z : Stream). z.client_reset) (sym at) ∙ kept));
      unopened = λ id is. let was : is_open s id ≡ false = rw (sym count) is in hear.unopened id was;
      silent = λ id is. let was : is_open s id ≡ false = rw (sym count) is in hear.silent id was;
    }

-- a stream more
pub pushed_done : (xs : List Stream) (k : ℕ) (y : Stream) → y.server_done ≡ false → (k < length xs → ⊥) → (get_or (xs ++ y ∷ []) k fresh).server_done ≡ false
pushed_done [] zero y e past = e
pushed_done [] (suc k) y e past = refl
pushed_done (x ∷ xs) zero y e past = absurd (past (omega arith))
pushed_done (x ∷ xs) (suc k) y e past = pushed_done xs k y e (λ small. past (omega (arith, small)))

pub hearing_opened : (h : List Event) (s : Session) (t : Incoming) (fields : List Field) (last : Bool) → Hearing h s t → Hearing h (opened s fields last) t
unfolding opened
hearing_opened h s t fields last hear =
    let y : Stream = record fresh { client_done = last } in
    let count = length-append s.streams (y ∷ []) in
    record {
      going = hear.going;
      decoder = hear.decoder;
      sequence = hear.sequence;
      opened = λ id is kept.
          elim (is_open s id) as (λ b. is_open s id ≡ b → SameAt id (get_or (s.streams ++ y ∷ []) (id / 2) fresh).server_done (h ++ events_of s.events) t.events) [
            | true ↦ λ was.
                let at = get_or_append_left s.streams (y ∷ []) fresh (id / 2) (open_at s id was) in
                rw at (hear.opened id was (ap (λ (z : Stream). z.client_reset) (sym at) ∙ kept))
            | false ↦ λ was.
                let odd : nat_eq (id % 2) 1 ≡ true = (and_parts (nat_eq (id % 2) 1) (nat_lt (id / 2) (length (s.streams ++ y ∷ []))) is).0 in
                let past : id / 2 < length s.streams → ⊥ = λ small. let yes : is_open s id ≡ true = rw (odd, lt-ltb (id / 2) (length s.streams) small) refl in let no : true ≡ false = sym yes ∙ was in absurd cc in
                rw (pushed_done s.streams (id / 2) y refl past) (hear.unopened id was)
          ] refl;
      unopened = λ id is.
          elim (is_open s id) as (λ b. is_open s id ≡ b → SameAt id false (h ++ events_of s.events) t.events) [
            | true ↦ λ was.
                let odd : nat_eq (id % 2) 1 ≡ true = (and_parts (nat_eq (id % 2) 1) (nat_lt (id / 2) (length s.streams)) was).0 in
                let yes : is_open (record s { streams = s.streams ++ y ∷ [] }) id ≡ true = rw (odd, lt-ltb (id / 2) (length (s.streams ++ y ∷ [])) (omega (arith, count, open_at s id was))) refl in
                let no : true ≡ false = sym yes ∙ is in
                absurd cc
            | false ↦ λ was. hear.unopened id was
          ] refl;
      silent = λ id is.
          elim (is_open s id) as (λ b. is_open s id ≡ b → filter (is_on id) (h ++ events_of s.events) ≡ []) [
            | true ↦ λ was.
                let odd : nat_eq (id % 2) 1 ≡ true = (and_parts (nat_eq (id % 2) 1) (nat_lt (id / 2) (length s.streams)) was).0 in
                let yes : is_open (record s { streams = s.streams ++ y ∷ [] }) id ≡ true = rw (odd, lt-ltb (id / 2) (length (s.streams ++ y ∷ [])) (omega (arith, count, open_at s id was))) refl in
                let no : true ≡ false = sym yes ∙ is in
                absurd cc
            | false ↦ λ was. hear.silent id was
          ] refl;
    }

pub hearing_unless : (o : Option ConnFault) (h : List Event) (s x : Session) (t : Incoming) → Hearing h s t → Hearing h x t → Hearing h (unless o s x) t
hearing_unless None h s x t a b = b
hearing_unless (Some e) h s x t a b = a

-- a fault stays over every call
pub starved_failed : (o : Option ConnFault) (r : Reading) (e : ConnFault) → o ≡ Some e → r.state.fault ≡ Some e → (unless_failed o r (broken r)).state.fault ≡ Some e
starved_failed None r e fault is = absurd cc
starved_failed (Some f) r e fault is = is

pub after_failed : (c : Call) (r : Reading) (e : ConnFault) → r.state.fault ≡ Some e → (after r c).state.fault ≡ Some e
after_failed (Feeds piece) r e is = ap (λ (x : Reading). x.state.fault) (fed_failed r e piece is) ∙ is
after_failed Starves r e is = starved_failed r.state.fault r e is is
after_failed Hands r e is = handed-fault r.state r.state.events ∙ is
after_failed Takes r e is = is
after_failed (Opens fields last) r e is = unless-fault (refusal r.state) r.state _ (opened-fault r.state fields last) ∙ is
after_failed (Sends id piece last) r e is = unless-fault r.state.fault r.state _ (sent-fault r.state id piece last) ∙ is
after_failed (Resets id code) r e is = unless-fault r.state.fault r.state _ (reset-fault r.state id code) ∙ is

pub run_failed : (cs : List Call) (r : Reading) (e : ConnFault) → r.state.fault ≡ Some e → (run r cs).state.fault ≡ Some e
run_failed [] r e is = is
run_failed (c ∷ cs) r e is = run_failed cs (after r c) e (after_failed c r e is)

-- where no fault is at the end, none was before
pub none_before : (cs : List Call) (r : Reading) → (run r cs).state.fault ≡ None → r.state.fault ≡ None
none_before cs r none =
    elim r.state.fault as (λ o. r.state.fault ≡ o → r.state.fault ≡ None) [
      | None ↦ λ is. is
      | Some e ↦ λ is. let bad : Some e ≡ None = sym (run_failed cs r e is) ∙ none in absurd cc
    ] refl
